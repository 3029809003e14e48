-- The format of a page, and which values it can tell the lengths of.
use Rattle.std.proofs.Common.{◌≡◌, ℕ, ◌≤◌, Bool, true, false, cond, ◌||◌, List, [], ◌∷◌, ◌++◌, length, refl, sym, ◌∙◌, ap, subst, arith, Option, Some, None}
use Rattle.std.proofs.lemmas.Bool.{true≢false}
use Rattle.std.specs.Option.{unwrap_or}
use Rattle.stow_tree_model.specs.Value.{IsValue}
use Rattle.stow_tree_model.specs.Version.{Version}
use Rattle.stow_page.specs.Format.{format_byte, format_of, has_long, is_long, short_limit, IsTold, AreTold, IsVersion, AreVersions}
use Rattle.stow_page.specs.Rows.{wider}
use Rattle.stow_page.specs.declared.format.Format.{Format}
use Rattle.stow_page.specs.declared.format.Format.TheVariants.{One, Two}
use Rattle.stow_page.proofs.Entries.{told_in_four}

-- ---- the format of versions and more

wider-cond : (a b : Bool) → cond (a || b) Two One ≡ wider (cond a Two One) (cond b Two One)
wider-cond true b = refl
wider-cond false b = refl

wider-assoc : (a b c : Format) → wider (wider a b) c ≡ wider a (wider b c)
wider-assoc One b c = refl
wider-assoc Two b c = refl

pub wider-self : (a : Format) → wider a a ≡ a
wider-self One = refl
wider-self Two = refl

pub format_of-append : (rows more : List Version) → format_of (rows ++ more) ≡ wider (format_of rows) (format_of more)
unfolding format_of
format_of-append [] more = refl
format_of-append (v ∷ later) more =
    wider-cond (is_long v.value) (has_long (later ++ more))
    ∙ ap (wider (cond (is_long v.value) Two One)) (format_of-append later more)
    ∙ sym (wider-assoc (cond (is_long v.value) Two One) (cond (has_long later) Two One) (cond (has_long more) Two One))
    ∙ ap (λ f. wider f (cond (has_long more) Two One)) (sym (wider-cond (is_long v.value) (has_long later)))

-- versions without a long value have format 1
pub format_of-short : (rows : List Version) → has_long rows ≡ false → format_of rows ≡ One
unfolding format_of
format_of-short rows h = ap (λ b. cond b Two One) h

pub format_of-long : (rows : List Version) → has_long rows ≡ true → format_of rows ≡ Two
unfolding format_of
format_of-long rows h = ap (λ b. cond b Two One) h

or_false_right : (b : Bool) → (b || false) ≡ b
or_false_right true = refl
or_false_right false = refl

-- a version alone
pub format_of-lone : (v : Version) → format_of (v ∷ []) ≡ cond (is_long v.value) Two One
unfolding format_of
format_of-lone v = ap (λ b. cond b Two One) (or_false_right (is_long v.value))

two_is_not_one : Two ≡ One → ⊥
two_is_not_one e = let same = ap format_byte e in omega (arith, same)

-- where one format is not another, the wider of the two is format 2
pub wider-other : (a b : Format) → (a ≡ b → ⊥) → wider a b ≡ Two
wider-other One One h = absurd (h refl)
wider-other One Two h = refl
wider-other Two b h = refl

wider-grown : (a b : Format) → (a ≡ wider a b → ⊥) → wider a b ≡ Two
wider-grown One One h = absurd (h refl)
wider-grown One Two h = refl
wider-grown Two b h = refl

-- versions of two formats have format 2 together
pub format_of-mixed : (rows more : List Version) → (format_of rows ≡ format_of more → ⊥) → format_of (rows ++ more) ≡ Two
format_of-mixed rows more h = format_of-append rows more ∙ wider-other (format_of rows) (format_of more) h

-- versions that others give another format have format 2 with them
pub format_of-grown : (rows more : List Version) → (format_of rows ≡ format_of (rows ++ more) → ⊥) → format_of (rows ++ more) ≡ Two
format_of-grown rows more h =
    let e = format_of-append rows more in
    e ∙ wider-grown (format_of rows) (format_of more) (λ same. h (same ∙ sym e))

-- ---- which values are told

is_short : (value : List ℕ) → is_long (Some value) ≡ false → length value ≤ short_limit
is_short value h = grind arith

-- a value that isn't long has its length told in each format
pub told_in_each : (format : Format) (value : Option (List ℕ)) → IsValue value → is_long value ≡ false → IsTold format value
told_in_each One None h short = record { is_short = λ bytes e. absurd (grind arith) }
told_in_each One (Some value) h short = record { is_short = λ bytes e. subst (λ b. length b ≤ short_limit) (ap (λ o. unwrap_or o value) e) (is_short value short) }
told_in_each Two value h short = told_in_four value h

pub are_told_in_four : (rows : List Version) → AreVersions rows → AreTold Two rows
are_told_in_four [] all = tt
are_told_in_four (v ∷ later) all = (told_in_four v.value all.0.is_short, are_told_in_four later all.1)

or_false : (a b : Bool) → (a || b) ≡ false → (a ≡ false) × (b ≡ false)
or_false true b h = absurd (true≢false h)
or_false false b h = (refl, h)

pub are_told_in_each : (format : Format) (rows : List Version) → AreVersions rows → has_long rows ≡ false → AreTold format rows
are_told_in_each format [] all short = tt
are_told_in_each format (v ∷ later) all short =
    let both = or_false (is_long v.value) (has_long later) short in
    (told_in_each format v.value all.0.is_short both.0, are_told_in_each format later all.1 both.1)

-- the format of a page can tell its values
pub told_in_own : (rows : List Version) → AreVersions rows → AreTold (format_of rows) rows
unfolding format_of
told_in_own rows all = by (has_long rows) refl
  where
    by : (long : Bool) → has_long rows ≡ long → AreTold (cond long Two One) rows
    by true e = are_told_in_four rows all
    by false e = are_told_in_each One rows all e

pub are_told_more : (format : Format) (rows : List Version) (v : Version) → AreTold format rows → IsTold format v.value → AreTold format (rows ++ v ∷ [])
are_told_more format [] v told here = (here, tt)
are_told_more format (w ∷ later) v told here = (told.0, are_told_more format later v told.1 here)

short_in_one : (value : Option (List ℕ)) → IsTold One value → is_long value ≡ false
short_in_one None h = refl
short_in_one (Some value) h = let low = h.is_short value refl in grind (arith, low)

-- format 1 tells no long value
pub none_long_in_one : (rows : List Version) → AreTold One rows → has_long rows ≡ false
none_long_in_one [] told = refl
none_long_in_one (v ∷ later) told = (λ i. short_in_one v.value told.0 i || has_long later) ∙ none_long_in_one later told.1

-- versions in format 2 of which none is long
pub record IsNeedless (format : Format) (rows : List Version) : Type 0 where
  pub is_two : format ≡ Two
  pub are_short : has_long rows ≡ false

-- told values whose format is another have the shorter one
pub needless : (format : Format) (rows : List Version) → AreTold format rows → (format_of rows ≡ format → ⊥) → IsNeedless format rows
needless One rows told other = absurd (other (format_of-short rows (none_long_in_one rows told)))
needless Two rows told other = by (has_long rows) refl
  where
    by : (long : Bool) → has_long rows ≡ long → IsNeedless Two rows
    by true e = absurd (other (format_of-long rows e))
    by false e = record { is_two = refl; are_short = e }

cond_one : (b : Bool) → cond b Two One ≡ One → b ≡ false
cond_one true e = absurd (two_is_not_one e)
cond_one false e = refl

-- a version that leaves a page its format has its value's length told in it
pub told_alike : (format : Format) (rows : List Version) (v : Version) → IsVersion v → format ≡ format_of rows → format_of rows ≡ format_of (rows ++ v ∷ []) → IsTold format v.value
told_alike Two rows v is own alike = told_in_four v.value is.is_short
told_alike One rows v is own alike =
    let lone : One ≡ format_of (v ∷ []) = own ∙ alike ∙ format_of-append rows (v ∷ []) ∙ ap (λ f. wider f (format_of (v ∷ []))) (sym own) in
    told_in_each One v.value is.is_short (cond_one (is_long v.value) (sym (format_of-lone v) ∙ sym lone))
