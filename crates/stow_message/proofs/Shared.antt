-- What the messages between two places share with a key.
use Rattle.std.proofs.Common.{◌≡◌, ℕ, ◌+◌, ◌-◌, ◌<◌, ◌≤◌, Bool, true, false, cond, List, length, get_or, refl, sym, subst, ◌∙◌, arith, inl, inr}
use Rattle.std.specs.Prelude.{◌⊎◌}
use Rattle.std.specs.declared.cmp.Ordering.{Ordering}
use Rattle.std.specs.declared.cmp.Ordering.TheVariants.{Less, Equal, Greater}
use Rattle.std.specs.Ordering.{is_lt, nat_cmp, ord_min, ordering_then}
use Rattle.std.proofs.lemmas.Bool.Decides.{nat_tests}
use Rattle.std.proofs.lemmas.Map.Keys.{ge_from_not_lt}
use Rattle.stow_tree_model.specs.StowBytes.Bytes.{bytes_cmp}
use Rattle.stow_tree_model.specs.StowBytes.Words.{AreAlike}
use Rattle.stow_tree_model.proofs.StowBytes.Alike.{alike_none, alike_less, alike_between}
use Rattle.stow_tree_model.specs.Order.{place_cmp, place_of}
use Rattle.stow_slots.specs.StowRaw.RawBuf.{RawLists}
use Rattle.stow_message.specs.MessageBuf.{messages_from, named, IsFilledFrom}
use Rattle.stow_message.proofs.RisingLists.{lt_is, rises_at}
use Rattle.stow_message.proofs.Searched.{count_from, named_at}

not_greater : (o r : Ordering) → ordering_then o r ≡ Less → o ≡ Greater → ⊥
not_greater Less r e f = cc
not_greater Equal r e f = cc
not_greater Greater r e f = cc

less_number : (m n : ℕ) → nat_cmp m n ≡ Less → m < n
less_number m n e = grind (arith, nat_tests)

-- the smaller of two is within both
pub smaller : (a b k : ℕ) → k ≡ ord_min nat_cmp a b → (k ≤ a) × (k ≤ b)
smaller a b k e = step (is_lt (nat_cmp b a)) refl e where
  step : (t : Bool) → t ≡ is_lt (nat_cmp b a) → k ≡ cond t b a → (k ≤ a) × (k ≤ b)
  step true p q = let less : b < a = less_number b a (lt_is (nat_cmp b a) (sym p)) in (omega (arith, less, q), omega (arith, q))
  step false p q = let most : a ≤ b = ge_from_not_lt b a (sym p) in (omega (arith, q), omega (arith, most, q))

-- the message before the index, of those from an index on, shares so many bytes with the key
abbrev pub SharedBefore : RawLists → ℕ → ℕ → List ℕ → ℕ → Type 0
SharedBefore raw from low key n = (n ≡ 0) ⊎ ((i : ℕ) × (i + 1 ≡ low) × (from ≤ i) × AreAlike n (named raw i).key key)

-- .. and that at the index
abbrev pub SharedAfter : RawLists → ℕ → List ℕ → ℕ → Type 0
SharedAfter raw high key n = (n ≡ 0) ⊎ ((high < length raw.slots) × AreAlike n (named raw high).key key)

module _ (raw : RawLists) (from : ℕ) (h : IsFilledFrom raw from) where
  keys_rise : (i j : ℕ) → from ≤ i → i < j → j < length raw.slots → bytes_cmp (named raw i).key (named raw j).key ≡ Greater → ⊥
  keys_rise i j le lt within = let d = named raw i in let ms = messages_from raw from in
      let first : get_or ms (i - from) d ≡ named raw i = named_at raw from h i le (omega (arith, lt, within)) d in
      let second : get_or ms (j - from) d ≡ named raw j = named_at raw from h j (omega (arith, le, lt)) within d in
      let less = rises_at ms (i - from) (j - from) d h.rising (omega (arith, le, lt)) (omega (arith, le, lt, within, count_from raw from h (omega (arith, le, lt, within)))) in
      not_greater _ _ ((λ k. place_cmp (place_of (sym first k)) (place_of (sym second k))) ∙ less)

  pub shared_between : (low high i n m k : ℕ) (key : List ℕ) → k ≤ n → k ≤ m → from ≤ low → low ≤ i → i < high → high ≤ length raw.slots
      → SharedBefore raw from low key n → SharedAfter raw high key m → AreAlike k (named raw i).key key
  shared_between low high i n m k key s t a b c d (inl e) y = let none : 0 ≡ k = omega (arith, e, s) in subst (λ j. AreAlike j (named raw i).key key) none (alike_none (named raw i).key key)
  shared_between low high i n m k key s t a b c d (inr x) (inl e) = let none : 0 ≡ k = omega (arith, e, t) in subst (λ j. AreAlike j (named raw i).key key) none (alike_none (named raw i).key key)
  shared_between low high i n m k key s t a b c d (inr x) (inr y) =
      alike_between k (named raw x.0).key (named raw i).key (named raw high).key key
      (alike_less k n (named raw x.0).key key s x.3) (alike_less k m (named raw high).key key t y.1)
      (keys_rise x.0 i x.2 (omega (arith, x.1, b)) (omega (arith, c, d))) (keys_rise i high (omega (arith, a, b)) c y.0)
