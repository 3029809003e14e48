-- What holds of each message, as messages come and go.
use Rattle.std.proofs.Common.{◌≡◌, ℕ, zero, suc, ◌+◌, ◌<◌, ◌≤◌, Bool, true, false, List, [], ◌∷◌, length, get_or, take, subst, arith}
use Rattle.std.proofs.lemmas.List.{take_all}
use Rattle.std.specs.Prelude.{if◌then◌else◌}
use Rattle.std.specs.List.{AllByRecursion, filter}
use Rattle.stow_tree_model.specs.TreeMessage.{TreeMessage}
use Rattle.stow_tree_model.specs.Order.{place_of}
use Rattle.stow_message.specs.Rising.{is_below, placed, all_placed, without}

pub each_still : (P Q : TreeMessage → Type 0) (ms : List TreeMessage) → ((m : TreeMessage) → P m → Q m) → AllByRecursion P ms → AllByRecursion Q ms
each_still P Q [] stay c = tt
each_still P Q (m ∷ ms) stay c = (stay m c.0, each_still P Q ms stay c.1)

module _ (P : TreeMessage → Type 0) where
  pub each_placed : (m : TreeMessage) (ms : List TreeMessage) → P m → AllByRecursion P ms → AllByRecursion P (placed m ms)
  each_placed m [] h c = (h, tt)
  each_placed m (n ∷ ns) h c = step (is_below (place_of m) n) (each_placed m ns h c.1) where
    step : (b : Bool) → AllByRecursion P (placed m ns) → AllByRecursion P (if b then n ∷ placed m ns else m ∷ n ∷ ns)
    step true on = (c.0, on)
    step false on = (h, c)

  pub each_all_placed : (ms ns : List TreeMessage) → AllByRecursion P ms → AllByRecursion P ns → AllByRecursion P (all_placed ms ns)
  each_all_placed [] ns h c = c
  each_all_placed (m ∷ ms) ns h c = each_all_placed ms (placed m ns) h.1 (each_placed m ns h.0 c)

  each_filter : (p : TreeMessage → Bool) (ms : List TreeMessage) → AllByRecursion P ms → AllByRecursion P (filter p ms)
  each_filter p [] c = tt
  each_filter p (m ∷ ms) c = step (p m) (each_filter p ms c.1) where
    step : (b : Bool) → AllByRecursion P (filter p ms) → AllByRecursion P (if b then m ∷ filter p ms else filter p ms)
    step true on = (c.0, on)
    step false on = on

  pub each_without : (bs ms : List TreeMessage) → AllByRecursion P ms → AllByRecursion P (without bs ms)
  each_without [] ms c = c
  each_without (b ∷ bs) ms c = each_without bs (filter _ ms) (each_filter _ ms c)

  pub each_taken : (i : ℕ) (ms : List TreeMessage) → AllByRecursion P ms → AllByRecursion P (take i ms)
  each_taken zero ms c = tt
  each_taken (suc i) [] c = tt
  each_taken (suc i) (m ∷ ms) c = (c.0, each_taken i ms c.1)

  each_one_more : (ms : List TreeMessage) (i : ℕ) (m : TreeMessage) → i < length ms → m ≡ get_or ms i m → P m → AllByRecursion P (take i ms) → AllByRecursion P (take (suc i) ms)
  each_one_more [] i m l e h c = absurd (omega arith)
  each_one_more (n ∷ ms) zero m l e h c = (subst P e h, tt)
  each_one_more (n ∷ ms) (suc i) m l e h c = (c.0, each_one_more ms i m (omega arith) e h c.1)

  pub each_next : (ms : List TreeMessage) (i : ℕ) (m : TreeMessage) → i < length ms → m ≡ get_or ms i m → P m → AllByRecursion P (take i ms) → AllByRecursion P (take (i + 1) ms)
  each_next ms i m l e h c =
      let same : suc i ≡ i + 1 = omega arith in
      subst (λ k. AllByRecursion P (take k ms)) same (each_one_more ms i m l e h c)

  pub each_of_all : (ms : List TreeMessage) (i : ℕ) → length ms ≤ i → AllByRecursion P (take i ms) → AllByRecursion P ms
  each_of_all ms i l c = subst (AllByRecursion P) (take_all i ms l) c
