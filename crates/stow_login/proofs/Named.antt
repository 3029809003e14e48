-- Names and their indexes.
use Rattle.std.proofs.Common.{◌≡◌, ℕ, suc, ◌+◌, ◌≤◌, ◌<◌, Bool, true, false, cond, List, [], ◌∷◌, ◌++◌, length, Option, Some, None, is_some, refl, ap, sym, ◌∙◌, subst, arith, length-append}
use Rattle.std.specs.Prelude.{◌||◌, IfSome}
use Rattle.std.proofs.lemmas.Map.Text.{is_eq-slice_cmp}
use Rattle.std.specs.Cmp.Lexicographic.{slice_cmp, nat_list_eq_equiv}
use Rattle.std.specs.Ordering.{is_eq, nat_cmp}
use Rattle.std.specs.Map.{lookup}
use Rattle.std.specs.BTreeMap.{BTreeMap, is_at}
use Rattle.std.specs.BTreeMap as tree
use Rattle.std.specs.Str.{bytes_eq}
use Rattle.std.specs.declared.vec.Vec.{Vec}
use Rattle.stow_model.specs.Login.{Entry, IsTenant}
use Rattle.stow_model.proofs.StowBytes.ByteKeys.{updates_bytes}
use Rattle.stow_login.specs.Entries.{index_from, index_named}
use Rattle.stow_login.specs.Names.{Names, names_of, index_in, AreNamed}
use Rattle.stow_login.specs.TenantFile.{is_used}

-- ---- in the map

pub name_of_map : {A : Type 0} (q : List ℕ) (es : List (Vec ℕ A × ℕ)) → index_in (names_of es) q ≡ lookup (is_at (λ k. slice_cmp nat_cmp q k.items)) es
name_of_map q [] = refl
name_of_map q (e ∷ es) =
    ap (λ b. cond b (Some e.1) (index_in (names_of es) q)) (sym (is_eq-slice_cmp q e.0.items))
    ∙ ap (cond (is_eq (slice_cmp nat_cmp q e.0.items)) (Some e.1)) (name_of_map q es)

-- a map's update, as a reader of the names sees it
pub name_updated : {A : Type 0} (bs : List ℕ) (m n : BTreeMap (Vec ℕ A) ℕ) (w : Option ℕ)
    → tree.UpdatesBy (λ x y. slice_cmp nat_cmp x.items y.items) (λ k. slice_cmp nat_cmp bs k.items) m n w
    → (q : List ℕ) → index_in (names_of n.entries) q ≡ cond (bytes_eq bs q) w (index_in (names_of m.entries) q)
name_updated bs m n w h q = name_of_map q n.entries ∙ updates_bytes bs m n w h q ∙ ap (cond (bytes_eq bs q) w) (sym (name_of_map q m.entries))

-- ---- among the entries

used_from : (i : ℕ) (entries : List Entry) (name : List ℕ) → is_some (index_from i entries name) ≡ is_used entries name
used_from i [] name = refl
used_from i (entry ∷ entries) name = either (bytes_eq entry.name name) (index_from (i + 1) entries name) (is_used entries name) (used_from (i + 1) entries name)
  where
    either : (b : Bool) (later : Option ℕ) (used : Bool) → is_some later ≡ used → is_some (cond b (Some i) later) ≡ (b || used)
    either true later used e = refl
    either false later used e = e

pub used_named : (entries : List Entry) (name : List ℕ) → is_some (index_named entries name) ≡ is_used entries name
unfolding index_named
used_named entries name = used_from 1 entries name

one_of : (first last : Bool) (i n : ℕ) (later more : Option ℕ) → (first ≡ true → last ≡ false) → more ≡ cond last (Some n) later
    → cond first (Some i) more ≡ cond last (Some n) (cond first (Some i) later)
one_of true true i n later more apart e = let bad : true ≡ false = apart refl in cc
one_of true false i n later more apart e = refl
one_of false true i n later more apart e = e
one_of false false i n later more apart e = e

or_left : (a b : Bool) → (a || b) ≡ false → a ≡ false
or_left true b e = e
or_left false b e = refl

or_right : (a b : Bool) → (a || b) ≡ false → b ≡ false
or_right true b e = absurd (cc)
or_right false b e = e

-- one entry more, whose name no other has
index_more : (i : ℕ) (entries : List Entry) (entry : Entry) (q : List ℕ) → is_used entries entry.name ≡ false
    → index_from i (entries ++ entry ∷ []) q ≡ cond (bytes_eq entry.name q) (Some (i + length entries)) (index_from i entries q)
index_more i [] entry q unused = ap (λ n. cond (bytes_eq entry.name q) (Some n) None) (omega arith)
index_more i (first ∷ entries) entry q unused = one_of (bytes_eq first.name q) (bytes_eq entry.name q) i (i + length (first ∷ entries)) (index_from (i + 1) entries q) (index_from (i + 1) (entries ++ entry ∷ []) q)
    (λ same. nat_list_eq_equiv.symm entry.name q ∙ sym (nat_list_eq_equiv.congr first.name q entry.name same) ∙ or_left _ _ unused)
    (index_more (i + 1) entries entry q (or_right (bytes_eq first.name entry.name) _ unused) ∙ ap (λ n. cond (bytes_eq entry.name q) (Some n) (index_from (i + 1) entries q)) (omega arith))

pub index_named-add : (entries : List Entry) (entry : Entry) (q : List ℕ) → is_used entries entry.name ≡ false
    → index_named (entries ++ entry ∷ []) q ≡ cond (bytes_eq entry.name q) (Some (length entries + 1)) (index_named entries q)
unfolding index_named
index_named-add entries entry q unused = index_more 1 entries entry q unused ∙ ap (λ n. cond (bytes_eq entry.name q) (Some n) (index_from 1 entries q)) (omega arith)

pub nobody_named : (q : List ℕ) → index_named [] q ≡ None
unfolding index_named
nobody_named q = refl

-- ---- whom a name has is a tenant

here_or_later : (b : Bool) (i len t : ℕ) (later : Option ℕ) → cond b (Some i) later ≡ Some t → (later ≡ Some t → (i + 1 ≤ t) × (t < i + 1 + len)) → (i ≤ t) × (t < i + suc len)
here_or_later true i len t later e rest = let same : i ≡ t = cc in (omega arith, omega arith)
here_or_later false i len t later e rest = let b = rest e in (omega (arith, b.0), omega (arith, b.1))

within_from : (i : ℕ) (entries : List Entry) (name : List ℕ) (t : ℕ) → index_from i entries name ≡ Some t → (i ≤ t) × (t < i + length entries)
within_from i [] name t e = absurd (cc)
within_from i (entry ∷ entries) name t e = here_or_later (bytes_eq entry.name name) i (length entries) t (index_from (i + 1) entries name) e (within_from (i + 1) entries name t)

pub named_within : (entries : List Entry) (name : List ℕ) (t : ℕ) → index_named entries name ≡ Some t → IsTenant entries t
unfolding index_named
named_within entries name t e = let b = within_from 1 entries name t e in (b.0, omega (arith, b.1))

if_some : (o : Option ℕ) (P : ℕ → Type 0) → ((t : ℕ) → o ≡ Some t → P t) → IfSome o P
if_some None P h = tt
if_some (Some t) P h = h t refl

pub found_within : (entries entries' : List Entry) (name : List ℕ) (o : Option ℕ) → entries ≡ entries' → o ≡ index_named entries name → IfSome o (λ t. IsTenant entries' t)
found_within entries entries' name o same is = if_some o _ (λ t e. named_within entries' name t (ap (λ es. index_named es name) (sym same) ∙ sym is ∙ e))

-- ---- one tenant more

pub named_more : (entries entries' : List Entry) (entry : Entry) (names names' : Names) (name : List ℕ) (n : ℕ) → AreNamed entries names → entries' ≡ entries ++ entry ∷ [] → length entries < 65535
    → is_used entries entry.name ≡ false → n ≡ length entries + 1
    → name ≡ entry.name → ((q : List ℕ) → index_in names' q ≡ cond (bytes_eq name q) (Some n) (index_in names q)) → AreNamed entries' names'
named_more entries entries' entry names names' name n are more few unused is its added = record {
  few = subst (λ es. length es < 65536) (sym more) (omega (arith, length-append entries (entry ∷ [])));
  named = λ q. added q ∙ (λ i. cond (bytes_eq (its i) q) (Some (is i)) (are.named q i)) ∙ sym (ap (λ es. index_named es q) more ∙ index_named-add entries entry q unused);
}
