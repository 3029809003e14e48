use Rattle.std.proofs.Common.{◌≡◌, ◌<◌, List, length, get_or, Some, refl, sym, ap, ◌∙◌, subst, arith}
use Rattle.std.specs.Prelude.{slice_get}
use Rattle.std.proofs.lemmas.List.{length-map}
use Rattle.std.proofs.lemmas.Option.{slice_get-get_or}
use Rattle.stow_leaves.specs.StowLeaf.LeafRows.{leaf_rows}
use Rattle.stow_leaves.specs.StowLeaf.Replacements.{CanReplace}
use Rattle.stow_leaves.proofs.StowLeaf.Steps.{if_ok}
use Rattle.stow_leaves.proofs.Replaced.{can_replace}
use Rattle.stow_leaves.specs.StowMerge.Pins.{pins_in}
use Rattle.stow_leaves.specs.StowMessage.Rising.{in_range}
use Rattle.stow_node.specs.Flushes.{AreShort}
use Rattle.stow_node.specs.Moves.{IsHeaviest}
use Rattle.stow_node.specs.Nodes.{part_of, parts_of, leaves_of}
use Rattle.stow_node.specs.Parts.{high_of}
use Rattle.stow_node.specs.Plans.{IsPlanned, TakesLeaf}
use Rattle.stow_node.specs.Subtree.{Subtree, messages_of}
use Rattle.stow_node.specs.declared.child.Child.{Child}
use Rattle.stow_node.specs.declared.child.Child.TheVariants as in_child
use Rattle.stow_node.proofs.Leaves.{children_are_leaves, can_absorb, leaf_end, leaf_there, newer_than_rows, no_node_there}
use Rattle.stow_node.proofs.Planned.{planned_here}
use Rattle.stow_node.proofs.Ways.{are_children}
use Rattle.stow_node.proofs.node.Node.plan_leaf.Given as given
use Rattle.stow_node.proofs.node.Node.plan_leaf.Goals as goal
use Rattle.stow_node.proofs.node.Node.plan_leaf.Goals.{In-Leaf}

is_heavy : (g : given.Over) (c : In-Leaf g) → IsHeaviest (parts_of c.self.inside.children.items) c.self.inside.buffer c.heaviest-index.result
is_heavy g c = subst (λ (l : List (Child g.row.A.Denot)). IsHeaviest (parts_of l) c.self.inside.buffer c.heaviest-index.result) c.as_slice-children.ensures.value c.heaviest-index.ensures

is_lowest : (g : given.Over) (c : In-Leaf g) → c.self.inside.height ≡ 1
is_lowest g c = ap (λ (s : Subtree). s.height) c.self.view_is ∙ c.requires.level

is_there : (g : given.Over) (c : In-Leaf g) → slice_get c.self.inside.children.items c.heaviest-index.result ≡ Some (in_child.Leaf c.in-Leaf.leaf)
is_there g c =
    let i = c.heaviest-index.ensures.inside in
    let m = length-map c.as_slice-children.result.now part_of in
    ap (λ (l : List (Child g.row.A.Denot)). slice_get l c.heaviest-index.result) (sym c.as_slice-children.ensures.value)
    ∙ slice_get-get_or c.as_slice-children.result.now c.heaviest-index.result c.index-children-index.result (omega (arith, i, m))
    ∙ ap (λ (x : Child g.row.A.Denot). Some x) (sym c.index-children-index.is ∙ c.in-Leaf.is)

ends_at : (g : given.Over) (c : In-Leaf g) → c.high_after-high.result.bytes.now ≡ high_of (parts_of c.self.inside.children.items) c.heaviest-index.result
ends_at g c = c.high_after-high.ensures ∙ ap (λ (l : List (Child g.row.A.Denot)). high_of (parts_of l) c.heaviest-index.result) c.as_slice-children.ensures.value

can : (g : given.Over) (c : In-Leaf g) → CanReplace (leaf_rows c.in-Leaf.leaf) c.high_after-high.result.bytes.now c.self.inside.buffer.messages (pins_in c.args.pins.now) c.self.inside.shape.leaf
can g c =
    subst (λ high. CanReplace (leaf_rows c.in-Leaf.leaf) high c.self.inside.buffer.messages (pins_in c.args.pins.now) c.self.inside.shape.leaf)
    (sym (ends_at g c ∙ leaf_end c.self.inside c.heaviest-index.result c.self.invariant (is_lowest g c)))
    (can_replace (leaves_of c.self.inside.children.items) c.heaviest-index.result c.self.inside.buffer.messages (pins_in c.args.pins.now) c.self.inside.shape.leaf (leaf_rows c.in-Leaf.leaf)
    (can_absorb c.self.inside c.heaviest-index.result c.self.invariant (is_lowest g c) (is_heavy g c)
    (subst (λ (s : Subtree). 0 < length s.buffer.messages) (sym c.self.view_is) c.requires.some)
    (subst (λ (s : Subtree). AreShort (messages_of s)) (sym c.self.view_is) c.requires.short))
    (leaf_there c.self.inside.children.items c.heaviest-index.result c.in-Leaf.leaf (children_are_leaves c.self.inside c.self.invariant (is_lowest g c)) (is_there g c)))

pub offset_bounds-children-index : goal.offset_bounds-children-index
offset_bounds-children-index g c = let i = c.heaviest-index.ensures.inside in let m = length-map c.as_slice-children.result.now part_of in omega (arith, i, m)

pub bounds-children-index : goal.bounds-children-index
bounds-children-index g c = let i = c.heaviest-index.ensures.inside in let m = length-map c.as_slice-children.result.now part_of in omega (arith, i, m)

pub job_for-requires-clause-can : goal.job_for-requires-clause-can
job_for-requires-clause-can g c = can g (goal.at.job_for-requires-clause-can g c).In-Leaf

pub job_for-requires-clause-newer : goal.job_for-requires-clause-newer
job_for-requires-clause-newer g c =
    let n = (goal.at.job_for-requires-clause-newer g c).In-Leaf in
    newer_than_rows c.self.inside c.heaviest-index.result c.in-Leaf.leaf c.self.invariant (is_lowest g n) (is_there g n)

pub job_for-requires-clause-block : goal.job_for-requires-clause-block
job_for-requires-clause-block g c = subst (λ (s : Subtree). s.buffer.capacity ≡ s.shape.buffer) (sym c.self.view_is) c.requires.block

pub unreachable-requires : goal.unreachable-requires
unreachable-requires g c =
    let i = c.heaviest-index.ensures.inside in
    let m = length-map c.as_slice-children.result.now part_of in
    no_node_there c.self.inside.children.items (children_are_leaves c.self.inside c.self.invariant (ap (λ (s : Subtree). s.height) c.self.view_is ∙ c.requires.level)) c.heaviest-index.result c.index-children-index.result c.in-Node.field-0
    (subst (λ (l : List (Child g.row.A.Denot)). c.heaviest-index.result < length l) c.as_slice-children.ensures.value (omega (arith, i, m)))
    (c.index-children-index.is ∙ ap (λ (l : List (Child g.row.A.Denot)). get_or l c.heaviest-index.result c.index-children-index.result) c.as_slice-children.ensures.value)
    c.in-Node.is

pub returns-clause-job : goal.returns-clause-job
returns-clause-job g c =
    let n = (goal.at.returns-clause-job g c).In-Leaf in
    let e = ends_at g n in
    let some = (can g n).some in
    if_ok c.job_for.result _ _ (λ job j. subst (λ (s : Subtree). IsPlanned (pins_in c.args.pins.now) s job) c.self.view_is
    (planned_here c.self.inside c.heaviest-index.result c.in-Leaf.leaf job (pins_in c.args.pins.now) c.self.invariant (is_there g n) j.page j.low j.target
    (j.batch ∙ ap (λ high. in_range c.in-Leaf.leaf.low high c.self.inside.buffer.messages) e) (λ none. some (sym j.batch ∙ none)) j.pins)) c.job_for.ensures

pub returns-clause-way : goal.returns-clause-way
returns-clause-way g c =
    let n = (goal.at.returns-clause-way g c).In-Leaf in
    let e = ends_at g n in
    if_ok c.job_for.result _ _ (λ job j. subst (λ (s : Subtree). TakesLeaf s s job) c.self.view_is (record {
      same = refl;
      to = record { children = c.self.inside.children.items; stand = are_children c.self.inside c.self.invariant; index = c.heaviest-index.result; most = is_heavy g n };
      leaf = leaf_there c.self.inside.children.items c.heaviest-index.result c.in-Leaf.leaf (children_are_leaves c.self.inside c.self.invariant (is_lowest g n)) (is_there g n) ∙ (λ i. Some (sym j.low i, sym j.page i));
      batch = j.batch ∙ (λ i. in_range (sym j.low i) (e i) c.self.inside.buffer.messages);
    })) c.job_for.ensures
