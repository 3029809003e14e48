use Rattle.std.proofs.Common.{rules, ℕ, ◌≡◌, ◌≢◌, ◌<◌, List, [], ◌∷◌, ◌++◌, length, Some, refl, sym, ap, ◌∙◌, subst, arith}
use Rattle.std.specs.Prelude.{slice_get}
use Rattle.std.specs.Vec.{with_item}
use Rattle.stow_leaves.proofs.StowLeaf.Steps.{inside_of, if_ok}
use Rattle.stow_leaves.specs.StowMerge.Pins.{pins_in}
use Rattle.stow_node.specs.declared.child.Child.TheVariants as in_child
use Rattle.stow_node.specs.declared.child.Child.{Child}
use Rattle.stow_node.specs.Flushes.{AreShort}
use Rattle.stow_node.specs.Nodes.{parts_of, subtree_of}
use Rattle.stow_node.specs.Parts.{messages_in}
use Rattle.stow_node.specs.Plans.{HasLeafTarget, HasDeepest, Plans}
use Rattle.stow_node.specs.Subtree.{Subtree, buffered, messages_of}
use Rattle.stow_tree_model.specs.TreeMessage.{TreeMessage}
use Rattle.stow_node.proofs.Down.{node_at}
use Rattle.stow_node.proofs.Entered.{not_leaf}
use Rattle.stow_node.proofs.HandedDown.{same_node}
use Rattle.stow_node.proofs.PlanSteps.{CanPlan, can_plan, child_planned, deepest_node, plans_own, plans_below}
use Rattle.stow_node.proofs.Reallocated.{stays_like}
use Rattle.stow_node.proofs.Stayed.{ChildStays, child_stays}
use Rattle.stow_node.proofs.node.Node.+plan_below.Given as given
use Rattle.stow_node.proofs.node.Node.+plan_below.Goals as goal
use Rattle.stow_node.proofs.node.Node.+plan_below.Goals.{In-Node, After-plan_below}

is_deep : (g : given.Over) (t : ℕ) (c : In-Node g t) → HasDeepest c.self.inside.children.items c.in-Some.index
is_deep g t c = subst (λ (l : List (Child g.row.A.Denot)). HasDeepest l c.in-Some.index) c.as_slice.ensures.value c.in-Some.ensures

is_there : (g : given.Over) (t : ℕ) (c : In-Node g t) → slice_get c.self.inside.children.items c.in-Some.index ≡ Some (in_child.Node c.in-Node.node)
is_there g t c =
    let h = is_deep g t c in
    node_at c.self.inside.children.items c.in-Some.index c.index_mut.result.now c.in-Node.node (inside_of c.self.inside.children.items c.in-Some.index h.child h.at) c.index_mut.ensures.value c.in-Node.is

is_kept : (g : given.Over) (t : ℕ) (c : After-plan_below g t) → slice_get c.self.inside.children.items c.in-Some.index ≡ Some (in_child.Node c.in-Node.node) → ChildStays c.self.inside c.in-Node.node c.plan_below.new.self (with_item c.self.inside.children c.in-Some.index (in_child.Node c.plan_below.new.self))
is_kept g t c at = child_stays c.self.inside (with_item c.self.inside.children c.in-Some.index (in_child.Node c.plan_below.new.self)) c.in-Some.index c.in-Node.node c.plan_below.new.self c.self.invariant at refl (stays_like c.plan_below.ensures.same)

-- where none is buffered below, some message is the node's own
some_own : (s : Subtree) → s.deeper ≡ [] → buffered s ≢ [] → 0 < length s.buffer.messages
some_own s none some = one s.buffer.messages refl where
  one : (ms : List TreeMessage) → s.buffer.messages ≡ ms → 0 < length s.buffer.messages
  one [] e = absurd (some ((λ i. e i ++ s.deeper) ∙ none))
  one (m ∷ ms) e = omega (arith, ap length e)

pub plan_own-requires-clause-some : goal.plan_own-requires-clause-some
plan_own-requires-clause-some g t c =
    let none : messages_in (parts_of c.self.inside.children.items) ≡ [] = subst (λ (l : List (Child g.row.A.Denot)). messages_in (parts_of l) ≡ []) c.as_slice.ensures.value c.in_default.ensures in
    some_own c.args.self.now (ap (λ (s : Subtree). s.deeper) (sym c.self.view_is) ∙ none) c.requires.some

pub returns-in_default-clause-way : goal.returns-in_default-clause-way
returns-in_default-clause-way g t c =
    let none : messages_in (parts_of c.self.inside.children.items) ≡ [] = subst (λ (l : List (Child g.row.A.Denot)). messages_in (parts_of l) ≡ []) c.as_slice.ensures.value c.in_default.ensures in
    let deeper = ap (λ (s : Subtree). s.deeper) (sym c.self.view_is) ∙ none in
    if_ok c.plan_own.result _ _ (λ job w. plans_own c.args.self.now.height c.args.self.now c.plan_own.new.self job deeper w) c.plan_own.ensures.way

pub index_mut-requires : goal.index_mut-requires
index_mut-requires g t c =
    let h : HasDeepest c.as_slice.result.now c.in-Some.index = c.in-Some.ensures in
    let i = inside_of c.as_slice.result.now c.in-Some.index h.child h.at in
    let a = ap length c.as_slice.ensures.value in
    let o = c.self.inside.children.ok.0 in
    omega (arith, i, a, o)

pub unreachable-requires : goal.unreachable-requires
unreachable-requires g t c =
    let h : HasDeepest c.self.inside.children.items c.in-Some.index = subst (λ (l : List (Child g.row.A.Denot)). HasDeepest l c.in-Some.index) c.as_slice.ensures.value c.in-Some.ensures in
    let d = deepest_node c.self.inside.children.items c.in-Some.index h in
    not_leaf c.self.inside.children.items c.in-Some.index c.index_mut.result.now c.in-Leaf.field-0 d.node d.at c.index_mut.ensures.value c.in-Leaf.is

pub plan_below-requires : goal.plan_below-requires
plan_below-requires g t c κs within =
    let n = (goal.at.plan_below-requires g t c).In-Node in
    let at = is_there g t n in
    let d = deepest_node c.self.inside.children.items c.in-Some.index (is_deep g t n) in
    let can : CanPlan c.in-Node.node c.self.inside.height = can_plan c.self.inside c.in-Some.index c.in-Node.node c.self.invariant at
    (subst (λ (s : Subtree). AreShort (messages_of s)) (sym c.self.view_is) c.requires.short)
    (subst (λ (s : Subtree). HasLeafTarget s.shape) (sym c.self.view_is) c.requires.target) in
    let less : c.in-Node.node.height < c.args.self.now.height = let low = can.lower in let own = ap (λ (s : Subtree). s.height) c.self.view_is in omega (arith, low, own) in
    (search (rules, less), (within, (subst (λ (s : Subtree). buffered s ≢ []) (same_node d.node c.in-Node.node (sym d.at ∙ at)) d.some, (can.short, can.target))))

pub invariant_of-self : goal.invariant_of-self
invariant_of-self g t c =
    let h = goal.at.invariant_of-self g t c in
    (is_kept g t h.After-plan_below (is_there g t h.In-Node)).is_node

pub returns-clause-same : goal.returns-clause-same
returns-clause-same g t c =
    let h = goal.at.returns-clause-same g t c in
    rw (← c.self.view_is) (is_kept g t h.After-plan_below (is_there g t h.In-Node)).stays

pub returns-clause-job : goal.returns-clause-job
returns-clause-job g t c =
    let at = is_there g t (goal.at.returns-clause-job g t c).In-Node in
    if_ok c.plan_below.result _ _ (λ job p. child_planned c.self.inside c.in-Some.index c.in-Node.node c.plan_below.new.self job (pins_in c.args.pins.now) c.self.invariant at c.plan_below.ensures.same p) c.plan_below.ensures.job

pub returns-clause-way : goal.returns-clause-way
returns-clause-way g t c =
    let n = (goal.at.returns-clause-way g t c).In-Node in
    let at = is_there g t n in
    let deep = is_deep g t n in
    if_ok c.plan_below.result _ _ (λ job w. subst (λ (s : Subtree). Plans s.height s (subtree_of (record c.self.inside { children = with_item c.self.inside.children c.in-Some.index (in_child.Node c.plan_below.new.self) })) job) c.self.view_is
    (plans_below c.self.inside c.in-Some.index c.in-Node.node c.plan_below.new.self job c.self.invariant deep at c.plan_below.ensures.same w)) c.plan_below.ensures.way
