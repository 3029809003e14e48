-- A rising list without what is superseded.
use Rattle.std.proofs.Common.{◌≡◌, suc, Bool, true, false, List, [], ◌∷◌, refl, ap, ◌∙◌}
use Rattle.std.specs.Prelude.{if◌then◌else◌}
use Rattle.std.specs.List.{AllByRecursion}
use Rattle.std.specs.List.Sorted.{IsStrictlySortedBy}
use Rattle.std.specs.Ordering.{is_lt, is_eq, ordering_reverse}
use Rattle.std.specs.declared.cmp.Ordering.TheVariants.{Less, Greater}
use Rattle.std.proofs.lemmas.List.Elements.{All-from_recursion}
use Rattle.stow_leaf.specs.StowMessage.Rising.{below, placed, IsNew}
use Rattle.stow_leaf.proofs.StowMessage.RisingLists.{AllAbove, place_total}
use Rattle.stow_superseded.specs.Superseded.{is_superseded, without_superseded}
use Rattle.stow_tree_model.specs.Agreement.{TenantPins}
use Rattle.stow_tree_model.specs.Order.{VersionPlace, place_cmp, place_of, MessagesRise}
use Rattle.stow_tree_model.specs.TreeMessage.{TreeMessage}

-- what is above a place stays above it
pub above_without : (pins : TenantPins) (p : VersionPlace) (ms : List TreeMessage) → AllAbove p ms → AllAbove p (without_superseded pins ms)
above_without pins p [] h = tt
above_without pins p (m ∷ ms) h = step (is_superseded pins m ms) (above_without pins p ms h.1) where
  step : (b : Bool) → AllAbove p (without_superseded pins ms) → AllAbove p (if b then without_superseded pins ms else m ∷ without_superseded pins ms)
  step true on = on
  step false on = (h.0, on)

pub rises_without : (pins : TenantPins) (ms : List TreeMessage) → MessagesRise ms → MessagesRise (without_superseded pins ms)
unfolding IsStrictlySortedBy
rises_without pins [] up = tt
rises_without pins (m ∷ ms) up = step (is_superseded pins m ms) (rises_without pins ms up.1) where
  step : (b : Bool) → MessagesRise (without_superseded pins ms) → MessagesRise (if b then without_superseded pins ms else m ∷ without_superseded pins ms)
  step true on = on
  step false on = (above_without pins (place_of m) ms up.0, on)

pub first_rises : (pins : TenantPins) (m : TreeMessage) (ms : List TreeMessage) → MessagesRise (m ∷ ms) → MessagesRise (m ∷ without_superseded pins ms)
unfolding IsStrictlySortedBy
first_rises pins m ms up = (above_without pins (place_of m) ms up.0, rises_without pins ms up.1)

-- ---- a message below all others

greater : (m n : TreeMessage) → place_cmp (place_of m) (place_of n) ≡ Less → place_cmp (place_of n) (place_of m) ≡ Greater
greater m n e = place_total.antisymm (place_of n) (place_of m) ∙ ap ordering_reverse e

pub placed_first : (m : TreeMessage) (ms : List TreeMessage) → MessagesRise (m ∷ ms) → placed m ms ≡ m ∷ ms
unfolding IsStrictlySortedBy
placed_first m [] up = refl
placed_first m (n ∷ ns) up = ap (λ o. if is_lt o then n ∷ placed m ns else m ∷ n ∷ ns) (greater m n up.0.0)

pub first_below : (m : TreeMessage) (ms : List TreeMessage) → MessagesRise (m ∷ ms) → below (place_of m) ms ≡ 0
unfolding IsStrictlySortedBy
first_below m [] up = refl
first_below m (n ∷ ns) up = ap (λ o. if is_lt o then suc (below (place_of m) ns) else 0) (greater m n up.0.0)

pub first_new : (m : TreeMessage) (ms : List TreeMessage) → MessagesRise (m ∷ ms) → IsNew m ms
unfolding IsStrictlySortedBy
first_new m ms up = All-from_recursion (λ n. is_eq (place_cmp (place_of n) (place_of m)) ≡ false) ms (each ms up.0) where
  each : (ns : List TreeMessage) → AllAbove (place_of m) ns → AllByRecursion (λ n. is_eq (place_cmp (place_of n) (place_of m)) ≡ false) ns
  each [] h = tt
  each (n ∷ ns) h = (ap is_eq (greater m n h.0), each ns h.1)
