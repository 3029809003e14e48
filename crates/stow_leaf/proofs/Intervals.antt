-- Keys and the intervals that hold them.
use Rattle.std.proofs.Common.{◌≡◌, ℕ, Bool, true, false, List, refl, ap, ◌∙◌, sym, ⊎_elim, inl, inr, ◌⊎◌}
use Rattle.std.specs.Prelude.{not, ◌&&◌}
use Rattle.std.specs.declared.cmp.Ordering.{Ordering}
use Rattle.std.specs.declared.cmp.Ordering.TheVariants.{Less, Equal, Greater}
use Rattle.std.specs.Ordering.{is_lt, ordering_reverse}
use Rattle.std.specs.Cmp.{tied_itself}
use Rattle.std.specs.Cmp.Lexicographic.{nat_list_cmp_total}
use Rattle.std.proofs.lemmas.Map.Lookups.{exact_bytes}
use Rattle.stow_merge.specs.StowBytes.Bytes.{bytes_cmp}
use Rattle.stow_merge.proofs.StowMessage.RisingLists.{no_path, lt_is}
use Rattle.stow_leaf.specs.Intervals.{spans}

-- the first key stands below the second
abbrev pub lt : List ℕ → List ℕ → Bool
lt a b = is_lt (bytes_cmp a b)

not_less : (o : Ordering) → is_lt o ≡ false → (o ≡ Equal) ⊎ (o ≡ Greater)
not_less Less e = absurd (no_path (sym e))
not_less Equal e = inl refl
not_less Greater e = inr refl

-- what isn't above is equal or below
pub at_most : (a b : List ℕ) → lt b a ≡ false → (a ≡ b) ⊎ (lt a b ≡ true)
at_most a b e = ⊎_elim
    (λ (h : bytes_cmp b a ≡ Equal). inl (sym (exact_bytes b a h)))
    (λ (h : bytes_cmp b a ≡ Greater). inr (ap is_lt (nat_list_cmp_total.antisymm a b ∙ ap ordering_reverse h)))
    (not_less (bytes_cmp b a) e)

pub lt_trans : (a b c : List ℕ) → lt a b ≡ true → lt b c ≡ true → lt a c ≡ true
lt_trans a b c e f = ap is_lt (nat_list_cmp_total.trans a b c (lt_is (bytes_cmp a b) e) (lt_is (bytes_cmp b c) f))

pub lt_self : (a : List ℕ) → lt a a ≡ false
lt_self a = ap is_lt (tied_itself nat_list_cmp_total a)

pub lt_not : (a b : List ℕ) → lt a b ≡ true → lt b a ≡ false
lt_not a b e = ap is_lt (nat_list_cmp_total.antisymm b a ∙ ap ordering_reverse (lt_is (bytes_cmp a b) e))

pub le_lt : (a b c : List ℕ) → lt b a ≡ false → lt b c ≡ true → lt a c ≡ true
le_lt a b c e f = ⊎_elim (λ (h : a ≡ b). ap (λ x. lt x c) h ∙ f) (λ (h : lt a b ≡ true). lt_trans a b c h f) (at_most a b e)

pub lt_le : (a b c : List ℕ) → lt a b ≡ true → lt c b ≡ false → lt a c ≡ true
lt_le a b c e f = ⊎_elim (λ (h : b ≡ c). ap (lt a) (sym h) ∙ e) (λ (h : lt b c ≡ true). lt_trans a b c e h) (at_most b c f)

pub le_le : (a b c : List ℕ) → lt b a ≡ false → lt c b ≡ false → lt c a ≡ false
le_le a b c e f = ⊎_elim
    (λ (h : a ≡ b). ap (lt c) h ∙ f)
    (λ (h : lt a b ≡ true). lt_not a c (lt_le a b c h f))
    (at_most a b e)

pub by_test : {X : Type 0} (b : Bool) → (b ≡ true → X) → (b ≡ false → X) → X
by_test true f g = f refl
by_test false f g = g refl

and_left : (a b : Bool) → (not a && b) ≡ true → a ≡ false
and_left true b e = absurd (no_path e)
and_left false b e = refl

and_right : (a b : Bool) → (not a && b) ≡ true → b ≡ true
and_right true b e = absurd (no_path e)
and_right false b e = e

and_both : (a b : Bool) → a ≡ false → b ≡ true → (not a && b) ≡ true
and_both true b e f = absurd (no_path (sym e))
and_both false b e f = f

and_not_left : (a b : Bool) → a ≡ true → (not a && b) ≡ false
and_not_left true b e = refl
and_not_left false b e = absurd (no_path e)

and_not_right : (a b : Bool) → b ≡ false → (not a && b) ≡ false
and_not_right true b e = refl
and_not_right false b e = e

pub span_low : (low high key : List ℕ) → spans low high key ≡ true → lt key low ≡ false
span_low low high key e = and_left (lt key low) (lt key high) e

pub span_high : (low high key : List ℕ) → spans low high key ≡ true → lt key high ≡ true
span_high low high key e = and_right (lt key low) (lt key high) e

pub spanned : (low high key : List ℕ) → lt key low ≡ false → lt key high ≡ true → spans low high key ≡ true
spanned low high key e f = and_both (lt key low) (lt key high) e f

pub under : (low high key : List ℕ) → lt key low ≡ true → spans low high key ≡ false
under low high key e = and_not_left (lt key low) (lt key high) e

pub beyond : (low high key : List ℕ) → lt key high ≡ false → spans low high key ≡ false
beyond low high key e = and_not_right (lt key low) (lt key high) e

-- a key outside is below the lower end or not below the upper end
pub not_spanned : {X : Type 0} (low high key : List ℕ) → spans low high key ≡ false → (lt key low ≡ true → X) → (lt key low ≡ false → lt key high ≡ false → X) → X
not_spanned {X} low high key e f g = by_test (lt key low) f (λ l. by_test (lt key high) (λ h. absurd (no_path (sym e ∙ spanned low high key l h))) (λ h. g l h))
