use Rattle.std.proofs.Common.{◌≡◌, ◌+◌, ◌-◌, length, map, ap, ◌∙◌, sym, subst, arith}
use Rattle.std.proofs.lemmas.List.{length-map, get_or-map}
use Rattle.stow_tree_model.specs.Messages.{ops_in}
use Rattle.stow_tree_model.specs.TreeMessage.{message_of}
use Rattle.stow_tree_model.specs.VersionBuf.{version_of_buf}
use Rattle.stow_node.specs.Subtree.{messages_of}
use Rattle.stow_read.specs.Versions.{AreVersionsOf}
use Rattle.stow_read.proofs.Versioned.{older_of, no_versions, first_versions, next_version, all_versions}
use Rattle.stow_read.proofs.Walked.{none_outside}
use Rattle.stow_read.proofs.versions.versions.Goals as goal

pub returns-then-not-may_hold : goal.returns-then-not-may_hold
returns-then-not-may_hold g c =
    subst (λ items. AreVersionsOf (ops_in (messages_of c.args.node.now) c.args.key.bytes.now) c.args.key.bytes.now (map version_of_buf items)) (sym c.new.ensures.items)
    (no_versions (ops_in (messages_of c.args.node.now) c.args.key.bytes.now) c.args.key.bytes.now
    (λ n. none_outside c.args.node.now c.children-known.result.now c.args.key.bytes.now n c.children-known.ensures (sym c.may_hold.ensures ∙ c.if-not-may_hold.true)))

pub loop-i-init : goal.loop-i-init
loop-i-init g c =
    first_versions c.args.key.bytes.now (map message_of c.in_ok-path.path.messages.items) c.in_ok-path.path.leaf.now.rows (map version_of_buf c.in_ok-versions.versions.items) c.len-count.result
    (let o = c.in_ok-path.path.messages.ok.0 in let n = c.len-count.ensures in omega (arith, o, n, length-map c.in_ok-path.path.messages.items message_of))
    c.len-known.ensures.rise c.in_ok-versions.ensures

pub loop-i-preserved : goal.loop-i-preserved
loop-i-preserved g c =
    let ms = map message_of c.in_ok-path.path.messages.items in
    let m = message_of c.index.result.now in
    let len : c.len-count.result ≡ length ms = (let o = c.in_ok-path.path.messages.ok.0 in let n = c.len-count.ensures in omega (arith, o, n, length-map c.in_ok-path.path.messages.items message_of)) in
    subst (λ vs. AreVersionsOf (older_of c.args.key.bytes.now ms c.in_ok-path.path.leaf.now.rows (c.len-count.result - (c.loop-i.i + 1))) c.args.key.bytes.now vs) (sym c.in_ok-add_version.ensures)
    (next_version c.args.node.now c.args.key.bytes.now ms c.in_ok-path.path.leaf.now.rows (map version_of_buf c.loop-i.versions.items) c.len-count.result c.loop-i.i m c.in_ok-path.ensures len c.loop-i-test.true
    (ap message_of c.index.ensures ∙ sym (get_or-map message_of c.in_ok-path.path.messages.items (c.len-count.result - 1 - c.loop-i.i) c.index.result.now m (let l = c.loop-i-test.true in omega (arith, len, length-map c.in_ok-path.path.messages.items message_of))))
    c.loop-i.invariant)

pub returns : goal.returns
returns g c =
    all_versions c.args.node.now c.args.key.bytes.now (map message_of c.in_ok-path.path.messages.items) c.in_ok-path.path.leaf.now.rows (map version_of_buf c.loop-i.versions.items) c.len-count.result c.loop-i.i c.in_ok-path.ensures c.loop-i-test.false c.loop-i.invariant
