use Rattle.std.proofs.Common.{false, ◌≡◌, ◌<◌, ◌+◌, [], List, length, ap, ◌∙◌, sym, subst, arith}
use Rattle.std.proofs.lemmas.List.{length-map}
use Rattle.stow_tree_model.specs.Keys.{packed}
use Rattle.stow_tree_model.specs.Messages.{ops_of}
use Rattle.stow_tree.specs.TreeState.{tree_messages}
use Rattle.stow_ledger.specs.Charges.{charge_after_drop}
use Rattle.stow_tree.specs.StowRead.Walk.{IsWalk}
use Rattle.stow_tree.specs.StowRead.declared.row_head.RowHead.{RowHead}
use Rattle.stow_dropping.specs.Parts.{all_shown, HaveWholeKeys}
use Rattle.stow_dropping.proofs.SoFar.{IsDropSoFar, no_part, full_part, last_part, fewer_left}
use Rattle.stow_dropping.proofs.WholeDrops.{charge_is}
use Rattle.stow_dropping.proofs.dropping.charge_of_drop.Goals as goal

pub loop-from-init : goal.loop-from-init
loop-from-init g c =
    subst (λ from. IsDropSoFar g.row.A.Denot (tree_messages c.args.tree.now) (packed c.args.tenant []) (packed (c.args.tenant + 1) []) c.args.number c.args.account.now c.args.pins.now from false c.present-left.result) (sym c.in_ok-from.ensures)
    (no_part (tree_messages c.args.tree.now) (packed c.args.tenant []) (packed (c.args.tenant + 1) []) c.args.number c.args.account.now c.args.pins.now c.present-left.result c.present-left.ensures.present c.present-left.ensures.given)

pub after_drop-left-requires : goal.after_drop-left-requires
after_drop-left-requires g c = c.loop-from.invariant.given

pub returns-then-len-lt-PART-clause-lower : goal.returns-then-len-lt-PART-clause-lower
returns-then-len-lt-PART-clause-lower g c = let before = c.loop-from.invariant.lower in let now = c.after_drop-left.ensures.lower in omega (arith, before, now)

pub returns-then-len-lt-PART-clause-charged : goal.returns-then-len-lt-PART-clause-charged
returns-then-len-lt-PART-clause-charged g c =
    let walk : IsWalk (ops_of (tree_messages c.args.tree.now)) c.loop-from.from c.loop-from.after (packed (c.args.tenant + 1) []) c.args.number 1024 c.in_ok-heads.heads.items =
    subst (λ from. IsWalk (ops_of (tree_messages c.args.tree.now)) from c.loop-from.after (packed (c.args.tenant + 1) []) c.args.number 1024 c.in_ok-heads.heads.items) c.as_key.ensures
    (subst (λ to. IsWalk (ops_of (tree_messages c.args.tree.now)) c.as_key.result.bytes.now c.loop-from.after to c.args.number 1024 c.in_ok-heads.heads.items) (c.as_key-in-loop-from.ensures ∙ c.in_ok-to.ensures) c.in_ok-heads.ensures) in
    let told : c.as_slice-in-loop-from.result.now ≡ all_shown c.in_ok-heads.heads.items = c.as_slice-in-loop-from.ensures.value ∙ c.in_ok-rows.ensures.rows ∙ ap (λ (heads : List (RowHead g.row.A.Denot)). all_shown heads) c.as_slice.ensures.value in
    let whole : HaveWholeKeys c.in_ok-heads.heads.items = subst (λ (heads : List (RowHead g.row.A.Denot)). HaveWholeKeys heads) c.as_slice.ensures.value c.in_ok-rows.ensures.keys in
    let step : c.after_drop-left.result ≡ charge_after_drop c.loop-from.left (all_shown c.in_ok-heads.heads.items) c.args.pins.now = c.after_drop-left.ensures.charge ∙ ap (λ rows. charge_after_drop c.loop-from.left rows c.args.pins.now) told in
    let fewer : length c.in_ok-heads.heads.items < 1024 = let o = c.in_ok-heads.heads.ok.0 in omega (arith, o, c.len.ensures, c.if-len-lt-PART.true) in
    charge_is {A = g.row.A.Denot} (tree_messages c.args.tree.now) c.args.tenant c.args.number c.args.account.now c.args.pins.now c.after_drop-left.result c.requires.index
    (last_part (tree_messages c.args.tree.now) (packed c.args.tenant []) (packed (c.args.tenant + 1) []) c.args.number c.args.account.now c.args.pins.now c.loop-from.from c.loop-from.after c.loop-from.left c.after_drop-left.result 1024 c.in_ok-heads.heads.items c.loop-from.invariant
    walk fewer whole step)

pub loop-from-smaller : goal.loop-from-smaller
loop-from-smaller g c =
    let walk : IsWalk (ops_of (tree_messages c.args.tree.now)) c.loop-from.from c.loop-from.after (packed (c.args.tenant + 1) []) c.args.number 1024 c.in_ok-heads.heads.items =
    subst (λ from. IsWalk (ops_of (tree_messages c.args.tree.now)) from c.loop-from.after (packed (c.args.tenant + 1) []) c.args.number 1024 c.in_ok-heads.heads.items) c.as_key.ensures
    (subst (λ to. IsWalk (ops_of (tree_messages c.args.tree.now)) c.as_key.result.bytes.now c.loop-from.after to c.args.number 1024 c.in_ok-heads.heads.items) (c.as_key-in-loop-from.ensures ∙ c.in_ok-to.ensures) c.in_ok-heads.ensures) in
    fewer_left (tree_messages c.args.tree.now) c.loop-from.from c.loop-from.after (packed (c.args.tenant + 1) []) c.args.number 1024 c.pop.new.self.items c.in-Some.last
    (subst (IsWalk (ops_of (tree_messages c.args.tree.now)) c.loop-from.from c.loop-from.after (packed (c.args.tenant + 1) []) c.args.number 1024) c.in-Some.ensures.items walk)

pub loop-from-preserved : goal.loop-from-preserved
loop-from-preserved g c =
    let walk : IsWalk (ops_of (tree_messages c.args.tree.now)) c.loop-from.from c.loop-from.after (packed (c.args.tenant + 1) []) c.args.number 1024 c.in_ok-heads.heads.items =
    subst (λ from. IsWalk (ops_of (tree_messages c.args.tree.now)) from c.loop-from.after (packed (c.args.tenant + 1) []) c.args.number 1024 c.in_ok-heads.heads.items) c.as_key.ensures
    (subst (λ to. IsWalk (ops_of (tree_messages c.args.tree.now)) c.as_key.result.bytes.now c.loop-from.after to c.args.number 1024 c.in_ok-heads.heads.items) (c.as_key-in-loop-from.ensures ∙ c.in_ok-to.ensures) c.in_ok-heads.ensures) in
    let told : c.as_slice-in-loop-from.result.now ≡ all_shown c.in_ok-heads.heads.items = c.as_slice-in-loop-from.ensures.value ∙ c.in_ok-rows.ensures.rows ∙ ap (λ (heads : List (RowHead g.row.A.Denot)). all_shown heads) c.as_slice.ensures.value in
    let whole : HaveWholeKeys c.in_ok-heads.heads.items = subst (λ (heads : List (RowHead g.row.A.Denot)). HaveWholeKeys heads) c.as_slice.ensures.value c.in_ok-rows.ensures.keys in
    let step : c.after_drop-left.result ≡ charge_after_drop c.loop-from.left (all_shown c.in_ok-heads.heads.items) c.args.pins.now = c.after_drop-left.ensures.charge ∙ ap (λ rows. charge_after_drop c.loop-from.left rows c.args.pins.now) told in
    let full : length c.in_ok-heads.heads.items ≡ 1024 = let o = c.in_ok-heads.heads.ok.0 in let few = walk.keys.few in omega (arith, o, few, c.len.ensures, c.if-len-lt-PART.false, length-map c.in_ok-heads.heads.items (λ (row : RowHead g.row.A.Denot). row.key)) in
    full_part (tree_messages c.args.tree.now) (packed c.args.tenant []) (packed (c.args.tenant + 1) []) c.args.number c.args.account.now c.args.pins.now c.loop-from.from c.loop-from.after c.loop-from.left c.after_drop-left.result 1024 c.pop.new.self.items c.in-Some.last c.loop-from.invariant
    (subst (IsWalk (ops_of (tree_messages c.args.tree.now)) c.loop-from.from c.loop-from.after (packed (c.args.tenant + 1) []) c.args.number 1024) c.in-Some.ensures.items walk)
    (ap (λ (heads : List (RowHead g.row.A.Denot)). length heads) (sym c.in-Some.ensures.items) ∙ full)
    (subst (λ (heads : List (RowHead g.row.A.Denot)). HaveWholeKeys heads) c.in-Some.ensures.items whole)
    (step ∙ ap (λ (heads : List (RowHead g.row.A.Denot)). charge_after_drop c.loop-from.left (all_shown heads) c.args.pins.now) c.in-Some.ensures.items)
    c.after_drop-left.ensures.given c.after_drop-left.ensures.lower
