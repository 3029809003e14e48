use Rattle.std.proofs.Common.{◌≡◌, ◌+◌, [], ◌∷◌, ◌++◌, List, length, map, take, ap, sym, ◌∙◌, subst, arith}
use Rattle.std.proofs.lemmas.List.{map-append, length-append}
use Rattle.stow_house.proofs.Pipelines.{front_on}
use Rattle.stow_house.specs.Pipelines.{AnswersAll}
use Rattle.stow_model.specs.Reply.{Reply, reply_of}
use Rattle.stow_shared.specs.Seats.{SeatCalls}
use Rattle.stow_shared.proofs.pipelined.answer_all.Goals as goal

pub loop-i-preserved : goal.loop-i-preserved
loop-i-preserved g c =
    let calls = SeatCalls g.J.Journal.keeps in
    let requests = c.args.requests.now in
    let i = c.loop-i.i in
    let more : map reply_of c.push_reserved.new.self.items ≡ map reply_of c.loop-i.more.items ++ reply_of c.answer-reply.result ∷ [] =
    ap (map reply_of) c.push_reserved.ensures.items ∙ map-append reply_of c.loop-i.more.items (c.answer-reply.result ∷ []) in (
      subst (λ (rs : List Reply). AnswersAll calls c.args.seat.now (take (i + 1) requests) (reply_of c.answer-first.result ∷ rs) c.answer-reply.new.seat) (sym more)
          (front_on calls c.args.seat.now c.loop-i.seat c.answer-reply.new.seat requests i (reply_of c.answer-first.result ∷ map reply_of c.loop-i.more.items) c.index-requests-i.result (reply_of c.answer-reply.result)
          c.loop-i-test.true c.index-requests-i.is c.loop-i.invariant.0 c.answer-reply.ensures),
      (let one = ap length c.push_reserved.ensures.items in let before = c.loop-i.invariant.1 in let pushed = length-append c.loop-i.more.items (c.answer-reply.result ∷ []) in omega (arith, one, before, pushed)),
    )
