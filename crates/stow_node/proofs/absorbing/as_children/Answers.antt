use Rattle.std.proofs.Common.{◌≡◌, [], ◌∷◌, ◌++◌, length, map, sym, ap, ◌∙◌, arith, append_assoc, append-nil, length-append}
use Rattle.std.proofs.lemmas.List.{map-append, length-map}
use Rattle.std.specs.Vec.Iter.{into_iter_items}
use Rattle.stow_leaves.proofs.Replaced.{none_left}
use Rattle.stow_node.specs.declared.child.Child.TheVariants as in_child
use Rattle.stow_node.proofs.absorbing.as_children.Goals as goal

pub unwrap-requires : goal.unwrap-requires
unwrap-requires g c =
    let at = c.loop-leaf in
    let steps : into_iter_items at.leaf-iterator ≡ c.in-Some.leaf ∷ into_iter_items c.next.new.self = c.in-Some.ensures.steps.0 in
    let all = ap length at.invariant.1 in
    let both = length-append at.yielded (into_iter_items at.leaf-iterator) in
    let more = ap length steps in
    let here = ap length at.invariant.0 in
    let same = length-map at.yielded in_child.Leaf in
    let into = at.into.ok.0 in
    let whole = c.args.leaves.ok.0 in
    let room = at.invariant.3 in
    c.push.ensures.succeeds (omega (arith, all, both, more, here, same, into, whole, room))

pub loop-leaf-preserved : goal.loop-leaf-preserved
loop-leaf-preserved g c =
    let at = c.loop-leaf in
    let x = c.in-Some.leaf in
    let steps : into_iter_items at.leaf-iterator ≡ x ∷ into_iter_items c.next.new.self = c.in-Some.ensures.steps.0 in (
      rw c.unwrap.ensures at c.push.ensures.items ∙ ap (λ l. l ++ in_child.Leaf x ∷ []) at.invariant.0 ∙ sym (map-append in_child.Leaf at.yielded (x ∷ [])),
      append_assoc at.yielded (x ∷ []) _ ∙ rw (← steps) at.invariant.1,
      let was = at.invariant.2 in
          let gone = c.in-Some.ensures.steps.1 in
          let short = ap length steps in
          omega arith,
      let room = at.invariant.3 in
          let wide = c.push.ensures.capacity in
          omega (arith, room, wide),
    )

pub returns : goal.returns
returns g c =
    let at = c.loop-leaf in
    let none = c.in-None.ensures.steps in
    let empty : into_iter_items at.leaf-iterator ≡ [] = none_left _ (sym at.invariant.2 ∙ none.0) in
    at.invariant.0 ∙ ap (map in_child.Leaf) (sym (append-nil at.yielded) ∙ rw empty at at.invariant.1)
