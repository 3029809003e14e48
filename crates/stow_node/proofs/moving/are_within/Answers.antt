use Rattle.std.proofs.Common.{◌+◌, arith, rules}
use Rattle.stow_node.proofs.Laden.{pages_more, pages_within, pages_all}
use Rattle.stow_node.proofs.Leaves.{no_node_there}
use Rattle.stow_node.proofs.moving.are_within.Goals as goal

pub loop-i-init : goal.loop-i-init
loop-i-init g c = omega arith

pub unreachable-requires : goal.unreachable-requires
unreachable-requires g c = no_node_there c.args.children.now c.requires c.loop-i.i c.index-children-i.result c.in-Node.field-0 c.loop-i-test.true c.index-children-i.is c.in-Node.is

pub returns-then-page-bytes : goal.returns-then-page-bytes
returns-then-page-bytes g c =
    let more = pages_more c.args.children.now c.loop-i.i c.index-children-i.result c.in-Leaf.leaf c.loop-i-test.true c.index-children-i.is c.in-Leaf.is in
    let within = pages_within c.args.children.now (c.loop-i.i + 1) in
    let had = c.loop-i.invariant in
    let less = c.if-page-bytes.true in
    let page = c.page_len-page.ensures.len in
    ((λ t. absurd cc), (λ l. absurd (omega (arith, more, within, had, less, page, l))))

pub loop-i-preserved : goal.loop-i-preserved
loop-i-preserved g c =
    let more = pages_more c.args.children.now c.loop-i.i c.index-children-i.result c.in-Leaf.leaf c.loop-i-test.true c.index-children-i.is c.in-Leaf.is in
    let had = c.loop-i.invariant in
    let less = c.if-page-bytes.false in
    let page = c.page_len-page.ensures.len in
    omega (arith, more, had, less, page)

pub returns : goal.returns
returns g c =
    let all = pages_all c.args.children.now c.loop-i.i c.loop-i-test.false in
    let had = c.loop-i.invariant in
    ((λ t. omega (arith, all, had)), (λ l. search rules))
