use Rattle.std.proofs.Common.{◌≡◌, ◌∙◌, ◌-◌, ◌++◌, List, length, map, take, drop, get_or, ap, sym, subst, arith}
use Rattle.std.proofs.lemmas.List.{length-map, take_rest, length-drop}
use Rattle.stow_page.specs.StowTreeModel.Merged.{merged, rows_set}
use Rattle.stow_page.specs.StowTreeModel.Messages.{with_all}
use Rattle.stow_page.specs.StowTreeModel.Order.{VersionsRise}
use Rattle.stow_page.specs.StowTreeModel.TreeMessage.{message_of}
use Rattle.stow_page.specs.StowTreeModel.declared.message.Message as messages
use Rattle.stow_page.proofs.StowTreeModel.Pruning.{pruning}
use Rattle.stow_merge.specs.OneKey.{AreOfOneKey, CanFollow, IsRunOf, rows_of}
use Rattle.stow_merge.specs.Pins.{pins_in}
use Rattle.stow_merge.proofs.Going.{AreRows, IsNext, begins, ends_with, goes_on, key_follows, of_one_key, row_within, run_rises}
use Rattle.stow_merge.proofs.OneKeyLemmas.{part_is, rest_is, run_there}
use Rattle.stow_merge.proofs.by_keys.merged_by_keys.Given as given
use Rattle.stow_merge.proofs.by_keys.merged_by_keys.Goals as goal
use Rattle.stow_merge.proofs.by_keys.merged_by_keys.Goals.{After-len-len, After-count_of_key-count, After-loop-next}

are_rows : (g : given.Over) (c : After-len-len g) → AreRows c.args.rows.now
are_rows g c =
    record { settled = record { rise = c.len-len.ensures.rise; alone = c.are_alone.ensures c.if-not-are_alone.false }; are = c.len-len.ensures.versions }

is_next : (g : given.Over) (c : After-count_of_key-count g) → IsNext c.args.rows.now (drop c.loop-next.next (map message_of c.args.batch.now)) c.loop-next.from c.count_from-to.result (rows_of c.row_of-row.result) c.count_of_key-count.result
is_next g c =
    let batch = c.args.batch.now in let next = c.loop-next.next in
    let later : List messages.Message = take (length batch - next) (drop next batch) in
    record {
      key = (get_or later 0 c.index-later-0.result).key.bytes.now;
      counted = c.count_from-to.ensures;
      of = c.row_of-row.ensures;
      run = subst (λ ms. IsRunOf (get_or later 0 c.index-later-0.result).key.bytes.now ms c.count_of_key-count.result) (rest_is batch next) c.count_of_key-count.ensures;
      some = run_there later c.index-later-0.result c.count_of_key-count.result
          (let all = ap length (take_rest batch next) in let left = length-drop next batch in let more = c.loop-next-test.true in omega (arith, all, left, more)) c.count_of_key-count.ensures;
    }

pub loop-next-init : goal.loop-next-init
loop-next-init g c = begins c.args.rows.now (map message_of c.args.batch.now) (pins_in c.args.pins.now) c.in_ok-packed.packed (c.in_ok-packed.ensures)

pub count_from-to-requires : goal.count_from-to-requires
count_from-to-requires g c = c.loop-next.invariant.within

pub add_run-requires-clause-rise : goal.add_run-requires-clause-rise
add_run-requires-clause-rise g c =
    run_rises c.args.rows.now (map message_of c.args.batch.now) (pins_in c.args.pins.now) c.loop-next.packed c.loop-next.from c.loop-next.next c.count_from-to.result (rows_of c.row_of-row.result) c.count_of_key-count.result
    (are_rows g (goal.at.add_run-requires-clause-rise g c).After-len-len) c.requires.batch c.loop-next.invariant (is_next g (goal.at.add_run-requires-clause-rise g c).After-count_of_key-count)

pub add_key-requires-clause-key : goal.add_key-requires-clause-key
add_key-requires-clause-key g c =
    let next = is_next g (goal.at.add_key-requires-clause-key g c).After-count_of_key-count in (
      next.key,
      subst (AreOfOneKey next.key (rows_of c.row_of-row.result)) (sym (part_is c.args.batch.now c.loop-next.next c.count_of_key-count.result))
          (of_one_key c.args.rows.now (map message_of c.args.batch.now) c.loop-next.from c.loop-next.next c.count_from-to.result (rows_of c.row_of-row.result) c.count_of_key-count.result c.requires.batch next),
    )

pub add_key-requires-clause-can : goal.add_key-requires-clause-can
add_key-requires-clause-can g c =
    let pins = pins_in c.args.pins.now in
    subst (λ ms. CanFollow c.add_run.new.packed (rows_of c.row_of-row.result) ms pins) (sym (part_is c.args.batch.now c.loop-next.next c.count_of_key-count.result))
    (subst (λ vs. CanFollow vs (rows_of c.row_of-row.result) (take c.count_of_key-count.result (drop c.loop-next.next (map message_of c.args.batch.now))) pins) (sym (c.in_ok-add_run.ensures c.if-not-branch.false))
    (key_follows c.args.rows.now (map message_of c.args.batch.now) pins c.loop-next.packed c.loop-next.from c.loop-next.next c.count_from-to.result (rows_of c.row_of-row.result) c.count_of_key-count.result
    (are_rows g (goal.at.add_key-requires-clause-can g c).After-len-len) c.requires.batch c.requires.values c.loop-next.invariant (is_next g (goal.at.add_key-requires-clause-can g c).After-count_of_key-count)))

pub behind-from-requires : goal.behind-from-requires
behind-from-requires g c =
    let l = row_within c.args.rows.now c.count_from-to.result (rows_of c.row_of-row.result) c.count_from-to.ensures.within c.row_of-row.ensures.stands in
    let fits = c.len-len.type_inv in let len = c.len-len.ensures.len in
    omega (arith, l, fits, len)

pub loop-next-smaller : goal.loop-next-smaller
loop-next-smaller g c =
    let some = (is_next g (goal.at.loop-next-smaller g c).After-count_of_key-count).some in let more = c.loop-next-test.true in
    omega (arith, some, more)

pub loop-next-preserved : goal.loop-next-preserved
loop-next-preserved g c =
    let pins = pins_in c.args.pins.now in let row = rows_of c.row_of-row.result in
    rw c.behind-from.ensures
    (goes_on c.args.rows.now (map message_of c.args.batch.now) pins c.loop-next.packed c.add_run.new.packed c.add_key.new.packed c.loop-next.from c.loop-next.next c.count_from-to.result row c.count_of_key-count.result
    (are_rows g (goal.at.loop-next-preserved g c).After-len-len) c.requires.batch c.loop-next.invariant (is_next g (goal.at.loop-next-preserved g c).After-count_of_key-count)
    (c.in_ok-add_run.ensures c.if-not-branch.false)
    (c.in_ok-add_key.ensures c.if-not-branch-2.false ∙ ap (λ ms. c.add_run.new.packed ++ merged row ms pins) (part_is c.args.batch.now c.loop-next.next c.count_of_key-count.result)))

pub add_run-requires-2-clause-order : goal.add_run-requires-2-clause-order
add_run-requires-2-clause-order g c = let l = c.loop-next.invariant.within in let len = c.len-len.ensures.len in omega (arith, l, len)

all_is : (g : given.Over) (c : After-loop-next g) → AreRows c.args.rows.now → merged c.args.rows.now (map message_of c.args.batch.now) (pins_in c.args.pins.now) ≡ c.loop-next.packed ++ drop c.loop-next.from (take c.len-len.result c.args.rows.now)
all_is g c are =
    ends_with c.args.rows.now (map message_of c.args.batch.now) (pins_in c.args.pins.now) c.loop-next.packed c.loop-next.from c.loop-next.next are c.loop-next.invariant
    (let end = c.loop-next-test.false in let l = length-map c.args.batch.now message_of in omega (arith, end, l))
    ∙ ap (λ n. c.loop-next.packed ++ drop c.loop-next.from (take n c.args.rows.now)) (sym c.len-len.ensures.len)

pub add_run-requires-2-clause-rise : goal.add_run-requires-2-clause-rise
add_run-requires-2-clause-rise g c =
    subst VersionsRise (all_is g (goal.at.add_run-requires-2-clause-rise g c).After-loop-next (are_rows g (goal.at.add_run-requires-2-clause-rise g c).After-len-len)) (pruning (pins_in c.args.pins.now) (with_all (rows_set c.args.rows.now) (map message_of c.args.batch.now))).rises

pub returns : goal.returns
returns g c = c.in_ok-add_run-2.ensures c.if-not-branch-3.false ∙ sym (all_is g (goal.at.returns g c).After-loop-next (are_rows g (goal.at.returns g c).After-len-len))
