-- What a key has at a number.
use Rattle.std.proofs.Common.{◌≡◌, ℕ, zero, suc, ◌<◌, ◌≤◌, List, ◌∷◌, None, ap, ◌∙◌, sym, subst, arith, ⊎_elim, inl, inr, ◌⊎◌}
use Rattle.std.proofs.lemmas.Bool.{cases_lt}
use Rattle.stow_tree_model.specs.Operations.{Operations, applied, latest, or_else, over, NoneAbove, NoneUpTo, OwnOperationsOnly}
use Rattle.stow_tree_model.specs.Agreement.{AgreeAt}
use Rattle.std.specs.Prelude.{Contains}

-- operations that are the same up to a number give the same at it
pub latest_same : (f g : Operations) (n : ℕ) → ((k : ℕ) → k ≤ n → f k ≡ g k) → latest f n ≡ latest g n
unfolding latest
latest_same f g zero h = ap (λ o. applied 0 o None) (h 0 (omega arith))
latest_same f g (suc n) h = λ i. applied (suc n) (h (suc n) (omega arith) i) (latest_same f g n (λ k l. h k (omega arith)) i)

-- with no operation after a number nothing changes after it
pub latest_stays : (f : Operations) (b n : ℕ) → b ≤ n → ((k : ℕ) → b < k → k ≤ n → f k ≡ None) → latest f n ≡ latest f b
unfolding latest
latest_stays f b zero l h = let e : b ≡ 0 = omega arith in ap (latest f) (sym e)
latest_stays f b (suc n) l h =
    ⊎_elim
    (λ (lt : b < suc n). ap (λ o. applied (suc n) o (latest f n)) (h (suc n) lt (omega arith)) ∙ latest_stays f b n (omega arith) (λ k p q. h k p (omega arith)))
    (λ (ge : suc n ≤ b). let e : suc n ≡ b = omega arith in ap (latest f) e)
    (cases_lt b (suc n))

-- above the bound nothing changes
pub above_bound : (f : Operations) (bound n : ℕ) → bound ≤ n → NoneAbove bound f → latest f n ≡ latest f bound
above_bound f bound n l h = latest_stays f bound n l (λ k p q. h k p)

module _ {pins : List ℕ} where
  -- it is enough to know the bound
  pub agree_from : (f g : Operations) (bound : ℕ) → ((p : ℕ) → Contains pins p → latest f p ≡ latest g p) → latest f bound ≡ latest g bound → NoneAbove bound f → NoneAbove bound g → AgreeAt f g pins bound
  agree_from f g bound at_pins at_bound left right = record {
    at_pins = at_pins;
    from_bound = λ n l. above_bound f bound n l left ∙ at_bound ∙ sym (above_bound g bound n l right);
    left_below = left;
    right_below = right;
  }

  pub higher_bound_lem : (f g : Operations) (bound higher : ℕ) → bound ≤ higher → AgreeAt f g pins bound → AgreeAt f g pins higher
  higher_bound_lem f g bound higher l a = record {
    at_pins = a.at_pins;
    from_bound = λ n h. a.from_bound n (omega arith);
    left_below = λ n h. a.left_below n (omega arith);
    right_below = λ n h. a.right_below n (omega arith);
  }

-- what is older shows below the first of the newer
over_before : (newer f : Operations) (top n : ℕ) → n ≤ top → NoneUpTo top newer → latest (over newer f) n ≡ latest f n
over_before newer f top n l h = latest_same (over newer f) f n (λ k m. ap (λ o. or_else o (f k)) (h k (omega arith)))

-- newer operations see no more of the older than their last value
over_after : (newer f g : Operations) (top n : ℕ) → top ≤ n → latest (over newer f) top ≡ latest (over newer g) top → NoneAbove top f → NoneAbove top g → latest (over newer f) n ≡ latest (over newer g) n
unfolding latest
over_after newer f g top zero l e hf hg = let z : top ≡ 0 = omega arith in subst (λ t. latest (over newer f) t ≡ latest (over newer g) t) z e
over_after newer f g top (suc n) l e hf hg =
    ⊎_elim
    (λ (lt : top < suc n). λ i. applied (suc n) (or_else (newer (suc n)) ((hf (suc n) lt ∙ sym (hg (suc n) lt)) i)) (over_after newer f g top n (omega arith) e hf hg i))
    (λ (ge : suc n ≤ top). let z : top ≡ suc n = omega arith in subst (λ t. latest (over newer f) t ≡ latest (over newer g) t) z e)
    (cases_lt top (suc n))

over_at : (newer f g : Operations) (top n : ℕ) → NoneUpTo top newer → latest f top ≡ latest g top → (n ≤ top → latest f n ≡ latest g n) → NoneAbove top f → NoneAbove top g → latest (over newer f) n ≡ latest (over newer g) n
over_at newer f g top n h e low hf hg =
    ⊎_elim
    (λ (lt : top < n). over_after newer f g top n (omega arith) (over_before newer f top top (omega arith) h ∙ e ∙ sym (over_before newer g top top (omega arith) h)) hf hg)
    (λ (ge : n ≤ top). over_before newer f top n ge h ∙ low ge ∙ sym (over_before newer g top n ge h))
    (cases_lt top n)

over_none : (newer f : Operations) (top bound : ℕ) → top ≤ bound → NoneAbove bound newer → NoneAbove top f → NoneAbove bound (over newer f)
over_none newer f top bound l h hf n m = λ i. or_else (h n m i) (hf n (omega arith) i)

-- older operations up to `top` are replaced by others that mean the same at each pin and from it on
pub merges_lem : {pins : List ℕ} (newer f g : Operations) (top bound : ℕ) → top ≤ bound → NoneUpTo top newer → NoneAbove bound newer → AgreeAt f g pins top → AgreeAt (over newer f) (over newer g) pins bound
merges_lem newer f g top bound l low high a = agree_from _ _ bound
    (λ p h. over_at newer f g top p low (a.from_bound top (omega arith)) (λ m. a.at_pins p h) a.left_below a.right_below)
    (over_at newer f g top bound low (a.from_bound top (omega arith)) (λ m. a.from_bound bound l) a.left_below a.right_below)
    (over_none newer f top bound l high a.left_below)
    (over_none newer g top bound l high a.right_below)

pub own_operations_only_law : OwnOperationsOnly
own_operations_only_law = latest_same

pub contains_cases : {X : Type 0} (x y : X) (xs : List X) → Contains (x ∷ xs) y → (x ≡ y) ⊎ Contains xs y
contains_cases x y xs (zero, l, e) = inl e
contains_cases x y xs (suc k, l, e) = inr (k, omega arith, e)

pub new_pin_lem : (f g : Operations) (pins : List ℕ) (bound : ℕ) → AgreeAt f g pins bound → AgreeAt f g (bound ∷ pins) bound
new_pin_lem f g pins bound a = agree_from f g bound
    (λ p h. ⊎_elim (λ (e : bound ≡ p). a.from_bound p (omega arith)) (λ (m : Contains pins p). a.at_pins p m) (contains_cases bound p pins h))
    (a.from_bound bound (omega arith)) a.left_below a.right_below

pub fewer_pins_lem : (f g : Operations) (pins fewer : List ℕ) (bound : ℕ) → ((p : ℕ) → Contains fewer p → Contains pins p) → AgreeAt f g pins bound → AgreeAt f g fewer bound
fewer_pins_lem f g pins fewer bound sub a = record { at_pins = λ p h. a.at_pins p (sub p h); from_bound = a.from_bound; left_below = a.left_below; right_below = a.right_below }
