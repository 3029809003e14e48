use Rattle.std.proofs.Common.{◌≡◌, ◌+◌, ◌<◌, sym, ap, ◌∙◌, arith}
use Rattle.stow_node.specs.Moves.{page_bytes}
use Rattle.stow_node.specs.Nodes.{leaves_of}
use Rattle.stow_node.specs.Subtree.{Subtree}
use Rattle.stow_node.specs.declared.shape.Shape.{Shape}
use Rattle.stow_node.proofs.Leaves.{children_are_leaves}
use Rattle.stow_node.proofs.Reallocated.{block_most}
use Rattle.stow_node.proofs.node.Node.is_laden.Given as given
use Rattle.stow_node.proofs.node.Node.is_laden.Goals as goal
use Rattle.stow_node.proofs.node.Node.is_laden.Goals.{After-used}

-- what it holds is less than the block of a node
small : (g : given.Over) (c : After-used g) → c.used.result + c.args.bytes < 4294967296
small g c =
    let fits = c.requires in
    let block = block_most c.args.self.now.shape.buffer c.args.self.now.buffer c.shape-known.ensures.block in
    let most : c.shape-known.result.buffer < 4294967296 = c.shape-known.type_inv.1.1.0.1 in
    let same : c.shape-known.result.buffer ≡ c.args.self.now.shape.buffer = ap (λ (s : Shape). s.buffer) c.shape-known.ensures.shape in
    let used : c.used.result ≡ c.args.self.now.buffer.used = c.used.ensures.used ∙ ap (λ (s : Subtree). s.buffer.used) c.self.view_is in
    omega (arith, fits, block, most, same, used)

pub overflow_add-held : goal.overflow_add-held
overflow_add-held g c = let s = small g (goal.at.overflow_add-held g c).After-used in omega (arith, s)

pub overflow_mul-held : goal.overflow_mul-held
overflow_mul-held g c = let s = small g (goal.at.overflow_mul-held g c).After-used in omega (arith, s)

pub are_within-requires : goal.are_within-requires
are_within-requires g c = rw c.as_slice.ensures.value (children_are_leaves c.self.inside c.self.invariant c.if-self-eq1.true)

pub returns-then-self-eq1 : goal.returns-then-self-eq1
returns-then-self-eq1 g c =
    let pages = ap (λ ls. page_bytes ls) (ap leaves_of c.as_slice.ensures.value ∙ ap (λ (s : Subtree). s.leaves) c.self.view_is) in
    let held = c.used.ensures.used ∙ ap (λ (s : Subtree). s.buffer.used) c.self.view_is in (
      (λ t. (sym (ap (λ (s : Subtree). s.height) c.self.view_is) ∙ c.if-self-eq1.true, let l = c.are_within.ensures.0 t in omega (arith, l, pages, held))),
      (λ l. c.are_within.ensures.1 (let m = l.1 in omega (arith, m, pages, held))),
    )
