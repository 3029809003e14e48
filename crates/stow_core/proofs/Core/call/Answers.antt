use Rattle.std.proofs.Common.{◌≡◌, ap, sym, subst}
use Rattle.std.proofs.Math.Bool.{false≢true}
use Rattle.stow_core.specs.State.{CoreState, shared_of, store_of}
use Rattle.stow_core.proofs.Answered.{called, starved}
use Rattle.stow_core.proofs.Stores.{index_of, own_there, store_view}
use Rattle.stow_model.specs.Login.{IsTenant}
use Rattle.stow_model.specs.Reply.{reply_of}
use Rattle.stow_ledger.specs.StowState.State.{view}
use Rattle.stow_core.proofs.Core.call.Goals as goal

pub returns-in-Ok : goal.returns-in-Ok
returns-in-Ok g c =
    called c.args.self.now c.prepare.new.self c.commit.new.self c.args.tenant c.args.words.now c.in-Ok.prepared (reply_of c.commit.result) c.prepare.ensures.keeps c.in-Ok.ensures.tenant (ap reply_of c.commit.ensures.reply)
    c.in-Ok.ensures.own (λ unknown. ((c.in-Ok.ensures.stranger unknown).answers.1, (c.in-Ok.ensures.stranger unknown).unchanged)) c.commit.ensures.own c.commit.ensures.stranger

pub returns-in-Err : goal.returns-in-Err
returns-in-Err g c =
    let t = c.args.tenant in
    let own = λ (is : IsTenant c.args.self.now.entries t). subst (λ (s : CoreState). IsTenant s.entries t) (sym c.self.view_is) is in
    starved c.args.self.now c.prepare.new.self t c.args.words.now
    (λ is. index_of _ c.self.inside.pins t c.self.invariant.0 (own is))
    (λ is. subst (λ s. store_of s t ≡ view (shared_of s) t) c.self.view_is (let there = own_there _ c.self.inside.pins t c.self.invariant.0 (own is) in store_view _ t there.0 there.1))
    c.prepare.ensures.keeps (λ needless. absurd (false≢true (c.in-Err.ensures.needless needless))) (λ unknown. (c.in-Err.ensures.stranger unknown).answers)
