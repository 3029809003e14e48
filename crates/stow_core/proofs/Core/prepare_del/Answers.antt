use Rattle.std.proofs.Common.{◌≡◌, ◌≢◌, ◌<◌, ◌^◌, sym, ◌∙◌, subst, arith}
use Rattle.stow_core.specs.Prepared.{IsPrepared, next_number, serves}
use Rattle.stow_core.specs.State.{CoreState, store_of, row_at, Keeps}
use Rattle.stow_core.specs.Taken.{AreTaken}
use Rattle.stow_core.proofs.Answered.{del_given, del_none, error_prepared, fewer, only_counted_prepared, prepared_as}
use Rattle.stow_core.proofs.Deletions.{fewer_is, priced_removal}
use Rattle.stow_core.proofs.Kept.{keeps_itself}
use Rattle.stow_core.proofs.Room.{removals_fit, removals_short}
use Rattle.stow_model.specs.Command.{Del}
use Rattle.stow_model.specs.LentWords.{words_in}
use Rattle.stow_model.specs.Store.{value_in}
use Rattle.stow_tree_model.specs.Keys.{own_key}
use Rattle.stow_core.proofs.Core.prepare_del.Goals as goal

pub returns-in_err-taken : goal.returns-in_err-taken
returns-in_err-taken g c =
    let old = c.args.self.now in
    error_prepared old c.spare_keys-spare.new.self c.args.tenant _ c.from_residual.result c.from_residual.ensures.0 (subst (Keeps old) (sym c.spare_keys-spare.ensures.same) (keeps_itself old c.requires.sound))

pub returns-then-len-eq0 : goal.returns-then-len-eq0
returns-then-len-eq0 g c =
    let old = c.args.self.now in
    let t = c.args.tenant in
    let keys = words_in c.args.keys in
    let at = subst (λ (s : CoreState). AreTaken t (store_of s t).rows keys c.in_ok-taken.taken) c.spare_keys-spare.ensures.same c.in_ok-taken.ensures.taken in
    let count : c.len.result ≡ fewer (store_of old t) keys = c.len.ensures ∙ fewer_is t (store_of old t) keys c.in_ok-taken.taken at in
    only_counted_prepared old c.keep_keys.new.self t _ _ c.only_counted.result c.only_counted.ensures (subst (Keeps old) (sym c.spare_keys-spare.ensures.same ∙ sym c.keep_keys.ensures) (keeps_itself old c.requires.sound)) c.requires.is_tenant
    (del_none (store_of old t) keys c.len.result count c.if-len-eq0.true)

pub prepare_write-requires-clause-can_give : goal.prepare_write-requires-clause-can_give
prepare_write-requires-clause-can_give g c =
    let core = c.spare_keys-spare.new.self in
    let t = c.args.tenant in
    let taken = c.in_ok-taken.taken in
    let at = c.in_ok-taken.ensures.taken in
    let some = at.few in
    let most = c.requires.few in
    record {
      own = at.own;
      are_keys = at.short;
      distinct = at.distinct;
      short = removals_short (λ key. value_in (row_at core t (own_key key))) taken;
      fit = removals_fit (next_number core t) taken at.short (omega (arith, some, most));
    }

pub prepare_write-requires-clause-priced : goal.prepare_write-requires-clause-priced
prepare_write-requires-clause-priced g c = priced_removal c.spare_keys-spare.new.self c.args.tenant c.in_ok-taken.taken c.in_ok-taken.charge c.in_ok-taken.ensures.charge

pub returns : goal.returns
returns g c =
    let core = c.spare_keys-spare.new.self in
    let t = c.args.tenant in
    let store = store_of core t in
    let keys = words_in c.args.keys in
    let taken = c.in_ok-taken.taken in
    let at = c.in_ok-taken.ensures.taken in
    let count : c.len-2.result ≡ fewer store keys = c.len-2.ensures ∙ fewer_is t store keys taken at in
    let some : c.len-2.result ≢ 0 = λ none. c.if-len-eq0.false (c.len.ensures ∙ sym c.len-2.ensures ∙ none) in
    let fits : c.len-2.result < 2 ^ 63 = (let long = c.len-2.ensures in let few = at.few in let most = c.requires.few in omega (arith, long, few, most)) in
    subst (λ (s : CoreState). IsPrepared s t (serves (Del keys)) c.prepare_write.new.self c.prepare_write.result) c.spare_keys-spare.ensures.same
    (prepared_as core c.prepare_write.new.self t _ _ c.prepare_write.result (del_given store taken keys c.len-2.result at.left count some fits) c.prepare_write.ensures)
