-- Messages that are newer than those below them.
use Rattle.std.proofs.Common.{◌≡◌, ℕ, ◌<◌, true, false, List, [], ◌∷◌, Some, sym, ap, ◌∙◌, arith, ⊎_elim}
use Rattle.std.specs.Prelude.{is_some, IsSome}
use Rattle.std.specs.List.{AllByRecursion}
use Rattle.std.specs.Ordering.{is_eq, eq_by_cmp}
use Rattle.stow_tree_model.specs.Messages.{ops_in}
use Rattle.stow_tree_model.specs.Order.{VersionPlace, place_cmp, place_of}
use Rattle.stow_tree_model.specs.TreeMessage.{TreeMessage}
use Rattle.stow_tree_model.proofs.Orders.{place_cases}
use Rattle.stow_tree_model.proofs.Histories.{ops_in-at}
use Rattle.std.proofs.lemmas.List.Elements.{All-from_recursion}
use Rattle.stow_leaves.specs.StowMessage.Rising.{IsNew, AreNew}
use Rattle.stow_leaves.proofs.StowMessage.Placed.{AllOther}
use Rattle.stow_node.specs.Nodes.{AreNewer}
use Rattle.stow_leaves.proofs.StowLeaf.Found.{first_stays}
use Rattle.stow_leaves.proofs.StowLeaf.Ops.{Other}
use Rattle.stow_leaves.proofs.StowLeaf.Intervals.{by_test}

eq_is : (a b : VersionPlace) → is_eq (place_cmp a b) ≡ true → a ≡ b
eq_is a b e = ⊎_elim
    (λ (h : (a ≡ b) × (eq_by_cmp place_cmp a b ≡ true)). h.0)
    (λ (h : (a ≡ b → ⊥) × (eq_by_cmp place_cmp a b ≡ false)). absurd cc)
    (place_cases a b)

-- a newer message has the place of none below
pub new_to : (m : TreeMessage) (ns : List TreeMessage) → ((k : ℕ) → IsSome (ops_in ns m.key k) → k < m.number) → AllByRecursion (Other m) ns
new_to m [] above = tt
new_to m (n ∷ ns) above = (
  by_test (is_eq (place_cmp (place_of n) (place_of m)))
      (λ e. absurd (at_place (eq_is (place_of n) (place_of m) e)))
      (λ e. e),
  new_to m ns (λ k s. above k (first_stays n ns m.key k s)),
)
  where
    at_place : place_of n ≡ place_of m → ⊥
    at_place e =
        let key : n.key ≡ m.key = ap (λ (p : VersionPlace). p.0) e in
        let number : n.number ≡ m.number = ap (λ (p : VersionPlace). p.1) e in
        let there : ops_in (n ∷ ns) m.key n.number ≡ Some n.op = ap (λ k. ops_in (n ∷ ns) k n.number) (sym key) ∙ ops_in-at n ns in
        let less : n.number < m.number = above n.number (ap is_some there) in
        omega (arith, less, number)

-- newer messages have the places of none below
pub all_new_to : (ms ns : List TreeMessage) → AreNewer ms ns → AllOther ms ns
all_new_to [] ns new = tt
all_new_to (m ∷ ms) ns new = (
  new_to m ns (λ k s. new.above m.key m.number k (ap is_some (ops_in-at m ms)) s),
  all_new_to ms ns (record { above = λ key n k u l. new.above key n k (first_stays m ms key n u) l }),
)

pub are_new : (ms ns : List TreeMessage) → AllOther ms ns → AreNew ms ns
are_new ms ns all = All-from_recursion (λ m. IsNew m ns) ms (new_each ms all) where
  new_each : (ms : List TreeMessage) → AllOther ms ns → AllByRecursion (λ m. IsNew m ns) ms
  new_each [] a = tt
  new_each (m ∷ ms) a = (All-from_recursion (Other m) ns a.0, new_each ms a.1)

-- what is newer than some messages is newer than a part of them
pub newer_than_part : (ms lower part : List TreeMessage) → ((key : List ℕ) (k : ℕ) → IsSome (ops_in part key k) → IsSome (ops_in lower key k)) → AreNewer ms lower → AreNewer ms part
newer_than_part ms lower part f new = record { above = λ key n k u l. new.above key n k u (f key k l) }
