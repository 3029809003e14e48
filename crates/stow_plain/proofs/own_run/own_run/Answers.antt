use Rattle.std.proofs.lemmas.Grind.{common_steps}
use Rattle.std.proofs.Common.{◌≡◌, ◌∷◌, ◌++◌, [], map, reverse, take, sym, ap, ◌∙◌, arith}
use Rattle.std.proofs.Common.{◌+◌}
use Rattle.std.proofs.lemmas.List.{take_more}
use Rattle.stow_model.specs.Store as store
use Rattle.stow_model.specs.Store.{Request, store_after, replies_after}
use Rattle.stow_model.specs.Reply.{reply_of}
use Rattle.stow_plain.specs.OwnRun.{request_of, asked, store_of}
use Rattle.stow_plain.proofs.Stepped.{one_more-reverse, store-none, replies-none, store-step, replies-step}
use Rattle.stow_plain.proofs.own_run.own_run.Goals as goal

pub loop-request-init : goal.loop-request-init
loop-request-init g c = record {
  store = store-none c.args.quota (store_of c.new-store.result) c.new-store.ensures;
  replies = replies-none c.args.quota (reverse (map reply_of c.new-replies.result.items)) (ap (λ rs. reverse (map reply_of rs)) c.new-replies.ensures.items);
}

pub loop-request-preserved : goal.loop-request-preserved
loop-request-preserved g c =
    let v = c.loop-request.invariant in
    let quota = c.args.quota in
    let request = request_of c.request-item.result in
    let before = take c.loop-request.request-index c.args.requests.now in
    let line = reverse (map asked before) in
    let old = c.loop-request.store in
    let done : ◌≡◌ {A = store.Answer} (store_of c.step.new.self, reply_of c.in_ok-step.field-0) (store.answer_with (store_of old) request) = c.in_ok-step.ensures.ok in
    let taken : take (c.loop-request.request-index + 1) c.args.requests.now ≡ before ++ c.request-item.result ∷ [] =
    take_more c.args.requests.now c.loop-request.request-index c.request-item.result c.loop-request-test.true ∙ ap (λ x. before ++ x ∷ []) (sym c.request-item.is) in
    let lines : store.Asked request ∷ line ≡ reverse (map asked (take (c.loop-request.request-index + 1) c.args.requests.now)) = sym (ap (λ rs. reverse (map asked rs)) taken ∙ one_more-reverse asked before c.request-item.result) in
    let told : reverse (map reply_of c.push.new.self.items) ≡ reply_of c.in_ok-step.field-0 ∷ reverse (map reply_of c.loop-request.replies.items) =
    ap (λ rs. reverse (map reply_of rs)) c.in_ok-push.ensures.items ∙ one_more-reverse reply_of c.loop-request.replies.items c.in_ok-step.field-0 in
    record {
      store = store-step quota (store_of old) (store_of c.step.new.self) (reply_of c.in_ok-step.field-0) request line v.store done ∙ ap (store_after quota) lines;
      replies = told ∙ replies-step quota (store_of old) (store_of c.step.new.self) (reply_of c.in_ok-step.field-0) request line (reverse (map reply_of c.loop-request.replies.items)) v.store done v.replies ∙ ap (replies_after quota) lines;
    }

pub returns-in_err-push-clause-store : goal.returns-in_err-push-clause-store
returns-in_err-push-clause-store g c = grind (arith, common_steps)

pub returns-in_err-push-clause-replies : goal.returns-in_err-push-clause-replies
returns-in_err-push-clause-replies g c = grind (arith, common_steps)

pub returns-clause-store : goal.returns-clause-store
returns-clause-store g c = grind (arith, common_steps)

pub returns-clause-replies : goal.returns-clause-replies
returns-clause-replies g c = grind (arith, common_steps)
