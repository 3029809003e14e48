use Rattle.std.proofs.Common.{get_or, ap, ◌∙◌, arith, subst, sym, refl, append-nil}
use Rattle.stow_workers.specs.Sent.{Sends, sent_at}
use Rattle.stow_workers.specs.declared.client.Client.{Client}
use Rattle.stow_workers.proofs.Added.{on_err, none_added, part_added, one_added, all_added}
use Rattle.stow_workers.proofs.Sending.{stays}
use Rattle.stow_workers.proofs.client.Client.add_all.Goals as goal

pub returns-in_err-add_reply-clause-err : goal.returns-in_err-add_reply-clause-err
returns-in_err-add_reply-clause-err g c writer = on_err c.from_residual.result _ (none_added _ _ c.args.first c.args.self.now.told.items (stays _ _ (c.in_err-add_reply.ensures.err writer)))

pub returns-in_err-add_reply-2-clause-err : goal.returns-in_err-add_reply-2-clause-err
returns-in_err-add_reply-2-clause-err g c writer = on_err c.from_residual-in_err-add_reply-2.result _ (part_added _ _ _ c.args.first c.args.self.now.told.items c.loop-i.i (c.loop-i.invariant.0 writer) (stays _ _ (c.in_err-add_reply-2.ensures.err writer)))

pub loop-i-init : goal.loop-i-init
loop-i-init g c = (λ writer. subst (Sends (sent_at writer c.args.self.now.replies) (sent_at writer c.add_reply.new.self)) (sym (append-nil _)) (c.in_ok-add_reply.ensures.ok writer), refl)

pub loop-i-preserved : goal.loop-i-preserved
loop-i-preserved g c = (
  λ writer. one_added _ _ _ c.args.first c.index.result.now c.args.self.now.told.items c.loop-i.i (let t = c.loop-i-test.true in let n = c.len-i-end.ensures in omega (arith, t, n)) (c.index.ensures ∙ ap (λ (s : Client _). get_or s.told.items c.loop-i.i c.index.result.now) c.loop-i.invariant.1) (c.loop-i.invariant.0 writer) (c.in_ok-add_reply-2.ensures.ok writer),
  ap (λ (s : Client _). record s { replies = c.add_reply-in-loop-i.new.self }) c.loop-i.invariant.1,
)

pub returns-clause-ok : goal.returns-clause-ok
returns-clause-ok g c writer = all_added _ _ c.args.first c.args.self.now.told.items c.loop-i.i (let t = c.loop-i-test.false in let n = c.len-i-end.ensures in omega (arith, t, n)) (c.loop-i.invariant.0 writer)
