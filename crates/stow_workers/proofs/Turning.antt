-- A connection under way goes on, or stops.
use Rattle.std.proofs.Common.{◌≡◌, ◌<◌, ℕ, List, [], ◌∷◌, ◌++◌, length, Option, Some, None, refl, ap, ◌∙◌, sym, subst, arith, append-nil, length-append}
use Rattle.stow_model.specs.Login.{Entry}
use Rattle.stow_model.specs.Message.{Message}
use Rattle.stow_model.specs.Reply.{Reply, encoding}
use Rattle.stow_model.specs.Reply as reply
use Rattle.stow_model.specs.Store.{with_reply}
use Rattle.stow_model.specs.Wire.{IsBegun}
use Rattle.stow_model.specs.History.{IsOpen, Service, request_of, stream_of, stream_after}
use Rattle.stow_model.proofs.Fronts.{spelled_some}
use Rattle.stow_shared.specs.StowResp.Next.{IsTaken}
use Rattle.stow_shared.specs.StowHouse.declared.stop.Stop.{Stop}
use Rattle.stow_shared.specs.StowHouse.declared.stop.Stop.TheVariants as stopped
use Rattle.stow_shared.specs.StowHouse.Seen.{Seen}
use Rattle.stow_shared.specs.StowHouse.Conversations.{Exchange, Served, Faulted, step_of, reply_in, told_with, words_of, DoorCall, IsAsked, Meets, Talk, as_seen, Tells, Asks}
use Rattle.stow_shared.specs.StowHouse.declared.request.Request.{Request}
use Rattle.stow_shared.specs.StowHouse.Pipelines.{AnswersAll}
use Rattle.stow_shared.specs.StowHouse.Steps.{StandsAt}
use Rattle.stow_shared.proofs.StowHouse.Stood.{follows, stands_here}
use Rattle.stow_workers.specs.Exchanges.{steps_of, AllFollow, Call, with_call, calls_in, LeadTo, told_in, spelled}
use Rattle.stow_workers.specs.Sent.{Begins, Written, Sent, HasSent, StaysSent, SendsReply}
use Rattle.stow_workers.specs.Talks.{CourseBy, bytes_told}
use Rattle.stow_workers.specs.Turns.{Origin, LedFrom, State, HasSpelled, Turns, Shortens, GoesTo, HasLed}

-- ---- an exchange more

-- what went on with one exchange more
pub record OneMore {D : Type 0} (answers : DoorCall D) (entries : List Entry) (first : Origin D) (read : List ℕ) (earlier : List Exchange) (x : Exchange) (told : Option Reply) (new : Seen) (door : D) : Type 0 where
  pub course : CourseBy (LedFrom answers first door) entries read (x ∷ earlier)
  pub at : StandsAt entries new (step_of x ∷ steps_of earlier)
  pub says : told_in entries (x ∷ earlier) ≡ with_reply told (told_in entries earlier)

leads_on : {D : Type 0} (answers : DoorCall D) (request : Option Service) (r : Reply) (first : Origin D) (before after : D) (calls : List Call) → LedFrom answers first before calls → IsAsked answers request r before after → LedFrom answers first after (with_call request r calls)
unfolding LeadTo
leads_on answers None r first before after calls led asked = subst (λ d. LedFrom answers first d calls) (sym asked) led
leads_on answers (Some service) r first before after calls (newer, is, led) asked =
    let call : Call = record { tenant = service.tenant; words = words_of service.event; reply = r } in
    (call ∷ newer, ap (λ cs. call ∷ cs) is, (before, led, asked))

pub one_more : {D : Type 0} (answers : DoorCall D) (entries : List Entry) (first : Origin D) (read : List ℕ) (earlier : List Exchange) (x : Exchange) (request : Option Service) (told : Option Reply) (old : Talk) (new : Seen) (before after : D)
    → CourseBy (LedFrom answers first before) entries read earlier → StandsAt entries (as_seen IsOpen old) (steps_of earlier) → Meets entries x request told (as_seen IsOpen old) new → IsAsked answers request (reply_in x) before after
    → OneMore answers entries first (stream_after (step_of x) IsOpen read) earlier x told new after
unfolding steps_of AllFollow calls_in told_in stream_of
one_more answers entries first read earlier x request told old new before after course at m asked =
    let part = steps_of earlier in
    let seen = as_seen IsOpen old in
    record {
      course = record {
        follow = (follows entries (step_of x) seen new part at m.moves.unread m.moves.can, course.follow);
        stream = λ i. stream_after (step_of x) (sym at.status i) (course.stream i);
        door = subst (λ o. LedFrom answers first after (with_call o (reply_in x) (calls_in entries earlier))) (sym m.asks ∙ ap (request_of (step_of x)) at.tenant)
            (leads_on answers request (reply_in x) first before after (calls_in entries earlier) course.door asked);
      };
      at = stands_here entries (step_of x) seen new part at m.moves.status m.moves.tenant m.moves.unread;
      says = ap (λ t. with_reply t (told_in entries earlier)) (sym (m.says ∙ ap (told_with entries x) at.tenant));
    }

-- ---- turns

-- no door was asked
pub told_turn : {D : Type 0} (answers : DoorCall D) (entries : List Entry) (told : Option Reply) (stop : Option Stop) (old new : Talk) (door : D) → Tells entries told stop old new → Turns answers entries told stop door old door new
unfolding steps_of
told_turn answers entries told None old new door (m, is) = λ first read earlier course at.
    let more = one_more answers entries first read earlier (Served m reply.Null) None told old _ door door course at is refl in
    record { exchanges = Served m reply.Null ∷ earlier; course = more.course; at = more.at; says = more.says }
told_turn answers entries told (Some stopped.More) old new door (begun, none, same) = λ first read earlier course at. record {
  exchanges = earlier;
  course = course;
  at = (subst (λ t. StandsAt entries (as_seen IsOpen t) (steps_of earlier)) (sym same) at, subst (λ (t : Talk). IsBegun t.unread) (sym same) begun);
  says = ap (λ t. with_reply t (told_in entries earlier)) (sym none);
}
told_turn answers entries told (Some stopped.Quit) old new door (m, is) = λ first read earlier course at.
    let more = one_more answers entries first read earlier (Served m reply.Null) None told old _ door door course at is refl in
    record { exchanges = Served m reply.Null ∷ earlier; course = more.course; at = sym more.at.status; says = more.says }
told_turn answers entries told (Some (stopped.Faulted fault)) old new door is = λ first read earlier course at.
    let more = one_more answers entries first read earlier (Faulted fault) None told old _ door door course at is refl in
    record { exchanges = Faulted fault ∷ earlier; course = more.course; at = refl; says = more.says }
told_turn answers entries told (Some stopped.NoMemory) old new door (words, none, same) = λ first read earlier course at. record {
  exchanges = earlier;
  course = course;
  at = tt;
  says = ap (λ t. with_reply t (told_in entries earlier)) (sym none);
}

-- the door was asked
pub asked_turn : {D : Type 0} (answers : DoorCall D) (entries : List Entry) (tenant : ℕ) (words : List (List ℕ)) (r : Reply) (old mid new : Talk) (before after : D) → Asks entries tenant words old mid → new ≡ mid → answers before tenant words r after
    → Turns answers entries (Some r) None before old after new
unfolding steps_of
asked_turn answers entries tenant words r old mid new before after (m, is) same asked = λ first read earlier course at.
    let more = one_more answers entries first read earlier (Served m r) (Some _) (Some r) old _ before after course at (is r) asked in
    record { exchanges = Served m r ∷ earlier; course = more.course; at = subst (λ t. StandsAt entries (as_seen IsOpen t) (steps_of (Served m r ∷ earlier))) (sym same) more.at; says = more.says }

-- a message that was taken had some bytes
shorter : (m : Message) (old new : List ℕ) → IsTaken m old new → length new < length old
shorter m old new (spelling, spells, e) = let some = spelled_some m spelling spells in let all : length old ≡ length (spelling ++ new) = ap length e in omega (arith, length-append spelling new)

pub told_shortens : (entries : List Entry) (told : Option Reply) (stop : Option Stop) (old new : Talk) → Tells entries told stop old new → Shortens stop old new
told_shortens entries told None old new (m, is) = shorter m old.unread new.unread is.moves.unread
told_shortens entries told (Some stop) old new is = tt

pub asked_shortens : (entries : List Entry) (tenant : ℕ) (words : List (List ℕ)) (old mid new : Talk) → Asks entries tenant words old mid → new ≡ mid → Shortens None old new
asked_shortens entries tenant words old mid new (m, is) same = subst (λ t. Shortens None old t) (sym same) (shorter m old.unread mid.unread (is reply.Null).moves.unread)

-- ---- what is sent

sent_reply : (start : Written) (old new : Sent) (told : Option Reply) (replies : List Reply) → SendsReply told old new → HasSent start old (spelled replies) → HasSent start new (spelled (with_reply told replies))
unfolding spelled
sent_reply start old new None replies sends s = sends start (spelled replies) s
sent_reply start old new (Some r) replies sends s = sends start (spelled replies) s

begins_reply : (told : Option Reply) (replies : List Reply) → Begins (spelled replies) (spelled (with_reply told replies))
unfolding spelled
begins_reply None replies = ([], sym (append-nil (spelled replies)))
begins_reply (Some r) replies = (encoding r, refl)

spelled_at : (stop : Option Stop) (start : Written) (sent : Sent) (all : List ℕ) → HasSent start sent all → HasSpelled stop start sent all
spelled_at None start sent all s = s
spelled_at (Some stopped.More) start sent all s = s
spelled_at (Some stopped.Quit) start sent all s = s
spelled_at (Some (stopped.Faulted fault)) start sent all s = s
spelled_at (Some stopped.NoMemory) start sent all s = (all, ([], sym (append-nil all)), s)

pub sent : {D : Type 0} (answers : DoorCall D) (entries : List Entry) (told : Option Reply) (stop : Option Stop) (old new : State D) → Turns answers entries told stop old.door old.talk new.door new.talk → (mid : Sent) → mid ≡ old.sent → SendsReply told mid new.sent → GoesTo answers entries stop old new
sent answers entries told stop old new turns mid is sends = λ first start read u.
    let t = turns first read u.exchanges u.course u.at in
    record {
      exchanges = t.exchanges;
      course = t.course;
      at = t.at;
      spelled = spelled_at stop start new.sent _ (subst (λ replies. HasSent start new.sent (spelled replies)) (sym t.says) (sent_reply start old.sent new.sent told (told_in entries u.exchanges) (subst (λ s. SendsReply told s new.sent) is sends) u.spelled));
    }

-- memory was refused to the reply's spelling
pub not_sent : {D : Type 0} (answers : DoorCall D) (entries : List Entry) (told : Option Reply) (stop : Option Stop) (old new : State D) → Turns answers entries told stop old.door old.talk new.door new.talk → (mid : Sent) → mid ≡ old.sent → StaysSent mid new.sent → GoesTo answers entries (Some stopped.NoMemory) old new
not_sent answers entries told stop old new turns mid is stays = λ first start read u.
    let t = turns first read u.exchanges u.course u.at in
    record {
      exchanges = t.exchanges;
      course = t.course;
      at = tt;
      spelled = (bytes_told entries u.exchanges, subst (λ replies. Begins (bytes_told entries u.exchanges) (spelled replies)) (sym t.says) (begins_reply told (told_in entries u.exchanges)), stays start (bytes_told entries u.exchanges) (subst (λ s. HasSent start s (bytes_told entries u.exchanges)) (sym is) u.spelled));
    }

-- ---- calls

pub led_none : {D : Type 0} (answers : DoorCall D) (door : D) → HasLed answers door door
unfolding LeadTo
led_none answers door = ([], refl)

pub led_one : {D : Type 0} (answers : DoorCall D) (old : D) (tenant : ℕ) (words : List (List ℕ)) (r : Reply) (new : D) → answers old tenant words r new → HasLed answers old new
unfolding LeadTo
led_one answers old tenant words r new asked = ((record { tenant = tenant; words = words; reply = r }) ∷ [], (old, refl, asked))

lead_on : {D : Type 0} (answers : DoorCall D) (old mid : D) (earlier : List Call) → LeadTo answers old earlier mid → (calls : List Call) (new : D) → LeadTo answers mid calls new → LeadTo answers old (calls ++ earlier) new
unfolding LeadTo
lead_on answers old mid earlier led [] new on = subst (λ d. LeadTo answers old earlier d) (sym on) led
lead_on answers old mid earlier led (call ∷ calls) new on = (on.0, lead_on answers old mid earlier led calls on.0 on.1, on.2)

pub led_then : {D : Type 0} (answers : DoorCall D) (old mid new : D) → HasLed answers old mid → HasLed answers mid new → HasLed answers old new
led_then answers old mid new first second = (second.0 ++ first.0, lead_on answers old mid first.0 first.1 second.0 new second.1)

pub led_all : {D A : Type 0} (answers : DoorCall D) (old : D) (qs : List (Request A)) (rs : List Reply) (new : D) → AnswersAll answers old qs rs new → HasLed answers old new
led_all answers old [] [] new led = subst (λ d. HasLed answers old d) (sym led) (led_none answers old)
led_all answers old (q ∷ qs) (r ∷ rs) new led = led_then answers old led.0 new (led_one answers old q.tenant q.words r led.0 led.1) (led_all answers led.0 qs rs new led.2)
led_all answers old [] (r ∷ rs) new led = absurd led
led_all answers old (q ∷ qs) [] new led = absurd led
