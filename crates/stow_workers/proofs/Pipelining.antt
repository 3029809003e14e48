-- Requests that were heard together go on, or stop.
use Rattle.std.proofs.Common.{◌≡◌, ◌<◌, ◌≤◌, ◌+◌, ◌*◌, ℕ, zero, suc, Bool, true, false, List, [], ◌∷◌, ◌++◌, length, take, drop, ◌-◌, Option, Some, None, refl, ap, ◌∙◌, sym, subst, arith, append-nil, append_assoc, inl, inr}
use Rattle.std.proofs.lemmas.List.{take_rest, drop-drop, length-drop}
use Rattle.std.specs.Prelude.{IfNone}
use Rattle.std.specs.Option.{option_map}
use Rattle.std.proofs.Common.{Vec}
use Rattle.stow_model.specs.declared.reply.Reply as coded
use Rattle.stow_model.specs.Login.{Entry}
use Rattle.stow_model.specs.Reply.{Reply, reply_of, encoding}
use Rattle.stow_model.specs.History.{IsOpen}
use Rattle.stow_shared.specs.StowHouse.declared.request.Request.{Request}
use Rattle.stow_shared.specs.StowHouse.declared.stop.Stop.{Stop}
use Rattle.stow_shared.specs.StowHouse.declared.stop.Stop.TheVariants as stopped
use Rattle.stow_shared.specs.StowHouse.Conversations.{Exchange, DoorCall, Talk, talk_of, as_seen, Asks, Tells}
use Rattle.stow_shared.specs.StowHouse.Pipelines.{AnswersAll, AnswersFront}
use Rattle.stow_shared.specs.StowHouse.Steps.{StandsAt}
use Rattle.stow_workers.specs.declared.client.Client.{Client}
use Rattle.stow_workers.specs.declared.replies.Replies.{Replies}
use Rattle.stow_workers.specs.declared.served.Served.{Served}
use Rattle.stow_shared.specs.StowHouse.declared.conversation.Conversation.{Conversation}
use Rattle.stow_workers.specs.Exchanges.{steps_of, told_in, spelled}
use Rattle.stow_workers.specs.Pipelined.{AsksAll, End, Ends, HearsAll, encodings, SendsFront, TellsOrStops}
use Rattle.stow_workers.specs.Sent.{Begins, Written, Sent, sent_at, HasSent, Sends, StaysSent}
use Rattle.stow_workers.specs.Talks.{CourseBy, bytes_told}
use Rattle.stow_workers.specs.Turns.{Origin, LedFrom, Turns, State, IsAfter, Shortens, GoesTo, IsHolding, IsRested, RestsAt, outcome_of, Stands, StepsTo, weight, unread_weight, Lightens}
use Rattle.stow_workers.proofs.Turning.{asked_turn, asked_shortens, told_turn, told_shortens, sent, not_sent}

-- ---- what was heard

-- one request more was heard
pub asks_on : {A : Type 0} (entries : List Entry) (qs : List (Request A)) (q : Request A) (old mid new : Talk) → AsksAll entries qs old mid → Asks entries q.tenant q.words mid new → AsksAll entries (qs ++ q ∷ []) old new
asks_on entries [] q old mid new all one = (new, subst (λ t. Asks entries q.tenant q.words t new) all one, refl)
asks_on entries (p ∷ qs) q old mid new all one = (all.0, all.1, asks_on entries qs q all.0 mid new all.2 one)

-- what leaves the requests and the talk as they are changes nothing of it
pub asks_still : {A : Type 0} (entries : List Entry) (qs qs' : List (Request A)) (first t t' : Talk) → qs' ≡ qs → t' ≡ t → AsksAll entries qs first t → AsksAll entries qs' first t'
asks_still entries qs qs' first t t' same talk all = subst (AsksAll entries qs' first) (sym talk) (subst (λ ps. AsksAll entries ps first t) (sym same) all)

asks_split : {A : Type 0} (entries : List Entry) (count : ℕ) (qs : List (Request A)) (old new : Talk) → AsksAll entries qs old new → (mid : Talk) × AsksAll entries (take count qs) old mid × AsksAll entries (drop count qs) mid new
asks_split entries zero qs old new all = (old, refl, all)
asks_split entries (suc count) [] old new all = (old, refl, all)
asks_split entries (suc count) (q ∷ qs) old new all = let (mid, front, rest) = asks_split entries count qs all.0 new all.2 in (mid, (all.0, all.1, front), rest)

asks_shorten : {A : Type 0} (entries : List Entry) (qs : List (Request A)) (old new : Talk) → AsksAll entries qs old new → length new.unread + length qs ≤ length old.unread
asks_shorten entries [] old new all = let same : length new.unread ≡ length old.unread = ap (λ (t : Talk). length t.unread) all in omega (arith, same)
asks_shorten entries (q ∷ qs) old new all =
    let one = asked_shortens entries q.tenant q.words old all.0 all.0 all.1 refl in
    let more = asks_shorten entries qs all.0 new all.2 in
    omega (arith, one, more)

-- what is heard weighs more while it is unread
pub heard_weigh : {A : Type 0} (entries : List Entry) (qs : List (Request A)) (end : End A) (old new : Talk) → 0 < length qs → HearsAll entries qs end old new → unread_weight end (length new.unread) + length qs < 3 * length old.unread
heard_weigh entries qs None old new some hears =
    let asked = asks_shorten entries qs old hears.mid hears.asks in
    let same : length new.unread ≡ length hears.mid.unread = ap (λ (t : Talk). length t.unread) hears.ends in
    omega (arith, asked, same, some)
heard_weigh entries qs (Some (told, None)) old new some hears =
    let asked = asks_shorten entries qs old hears.mid hears.asks in
    let last = told_shortens entries (option_map reply_of told) None hears.mid new hears.ends in
    omega (arith, asked, last, some)
heard_weigh entries qs (Some (told, Some stop)) old new some hears =
    let asked = asks_shorten entries qs old hears.mid hears.asks in
    omega (arith, asked, some)

-- nothing was heard but what is told
pub heard_end : {A : Type 0} (entries : List Entry) (qs : List (Request A)) (told : Option (coded.Reply A)) (stop : Option Stop) (old old' new : Talk) → qs ≡ [] → old' ≡ old → HearsAll entries qs (Some (told, stop)) old' new → Tells entries (option_map reply_of told) stop old new
heard_end entries qs told stop old old' new none same hears =
    let asked : hears.mid ≡ old' = subst (λ ps. AsksAll entries ps old' hears.mid) none hears.asks in
    subst (λ t. Tells entries (option_map reply_of told) stop t new) (asked ∙ same) hears.ends

-- ---- what was answered

-- the replies in front of what was told before
abbrev onto : List Reply → List Reply → List Reply
onto [] told = told
onto (r ∷ rs) told = onto rs (r ∷ told)

spelled_onto : (rs told : List Reply) → spelled (onto rs told) ≡ spelled told ++ encodings rs
unfolding spelled
spelled_onto [] told = sym (append-nil (spelled told))
spelled_onto (r ∷ rs) told = spelled_onto rs (r ∷ told) ∙ append_assoc (spelled told) (encoding r) (encodings rs)

-- what went on with these requests, which led to these replies
record HasAnswered {D : Type 0} (answers : DoorCall D) (entries : List Entry) (first : Origin D) (read : List ℕ) (earlier : List Exchange) (rs : List Reply) (door : D) (talk : Talk) : Type 0 where
  exchanges : List Exchange
  course : CourseBy (LedFrom answers first door) entries read exchanges
  at : StandsAt entries (as_seen IsOpen talk) (steps_of exchanges)
  says : told_in entries exchanges ≡ onto rs (told_in entries earlier)

answered : {D A : Type 0} (answers : DoorCall D) (entries : List Entry) (first : Origin D) (read : List ℕ) (qs : List (Request A)) (rs : List Reply) (old new : Talk) (before after : D) (earlier : List Exchange)
    → AsksAll entries qs old new → AnswersAll answers before qs rs after → CourseBy (LedFrom answers first before) entries read earlier → StandsAt entries (as_seen IsOpen old) (steps_of earlier) → HasAnswered answers entries first read earlier rs after new
answered answers entries first read [] [] old new before after earlier asks led course at = record {
  exchanges = earlier;
  course = subst (λ d. CourseBy (LedFrom answers first d) entries read earlier) (sym led) course;
  at = subst (λ t. StandsAt entries (as_seen IsOpen t) (steps_of earlier)) (sym asks) at;
  says = refl;
}
answered answers entries first read (q ∷ qs) (r ∷ rs) old new before after earlier asks led course at =
    let turn = asked_turn answers entries q.tenant q.words r old asks.0 asks.0 before led.0 asks.1 refl led.1 first read earlier course at in
    let rest = answered answers entries first read qs rs asks.0 new led.0 after turn.exchanges asks.2 led.2 turn.course turn.at in
    record { exchanges = rest.exchanges; course = rest.course; at = rest.at; says = rest.says ∙ ap (onto rs) turn.says }
answered answers entries first read [] (r ∷ rs) old new before after earlier asks led course at = absurd led
answered answers entries first read (q ∷ qs) [] old new before after earlier asks led course at = absurd led

-- ---- the connection after them

-- requests that were heard, of which some were answered
pub holding_answered : {D A : Type 0} (answers : DoorCall D) (entries : List Entry) (first : Origin D) (start : Written) (read : List ℕ) (old new : D) (before after : Client A) (sent left : Sent) (rs : List Reply)
    → IsHolding answers entries first start read old before sent → AnswersFront answers old (drop before.done before.requests.items) rs new
    → drop after.done after.requests.items ≡ drop (length rs) (drop before.done before.requests.items) → after.end ≡ before.end → after.conversation ≡ before.conversation
    → Sends sent left (encodings rs) → IsHolding answers entries first start read new after left
holding_answered answers entries first start read old new before after sent left rs u led rest end talk sends =
    let qs = drop before.done before.requests.items in
    let (mid, front, back) = asks_split entries (length rs) qs u.talk u.hears.mid u.hears.asks in
    let a = answered answers entries first read (take (length rs) qs) rs u.talk mid old new u.after.exchanges front led u.after.course u.after.at in
    record {
      talk = mid;
      hears = record {
        mid = u.hears.mid;
        asks = subst (λ ps. AsksAll entries ps mid u.hears.mid) (sym rest) back;
        ends = subst (λ e. Ends entries e u.hears.mid (talk_of after.conversation)) (sym end) (subst (λ c. Ends entries before.end u.hears.mid (talk_of c)) (sym talk) u.hears.ends);
      };
      after = record {
        exchanges = a.exchanges;
        course = a.course;
        at = a.at;
        spelled = subst (HasSent start left) (sym (spelled_onto rs (told_in entries u.after.exchanges)) ∙ ap spelled (sym a.says)) (sends start (bytes_told entries u.after.exchanges) u.after.spelled);
      };
    }

begins_after : (told front all : List ℕ) → Begins front all → Begins (told ++ front) (told ++ all)
begins_after told front all (more, e) = (more, ap (λ bytes. told ++ bytes) e ∙ sym (append_assoc told front more))

-- memory was refused to one of the replies
pub holding_part : {D A : Type 0} (answers : DoorCall D) (entries : List Entry) (first : Origin D) (start : Written) (read : List ℕ) (old new : D) (before : Client A) (last : Talk) (sent left : Sent) (rs : List Reply)
    → IsHolding answers entries first start read old before sent → AnswersFront answers old (drop before.done before.requests.items) rs new → SendsFront sent left rs
    → IsAfter answers entries first start read (Some stopped.NoMemory) (record { door = new; talk = last; sent = left })
holding_part answers entries first start read old new before last sent left rs u led (bytes, begins, sends) =
    let qs = drop before.done before.requests.items in
    let (mid, front, back) = asks_split entries (length rs) qs u.talk u.hears.mid u.hears.asks in
    let a = answered answers entries first read (take (length rs) qs) rs u.talk mid old new u.after.exchanges front led u.after.course u.after.at in
    record {
      exchanges = a.exchanges;
      course = a.course;
      at = tt;
      spelled = (
        bytes_told entries u.after.exchanges ++ bytes,
        subst (Begins (bytes_told entries u.after.exchanges ++ bytes)) (sym (spelled_onto rs (told_in entries u.after.exchanges)) ∙ ap spelled (sym a.says)) (begins_after (bytes_told entries u.after.exchanges) bytes (encodings rs) begins),
        sends start (bytes_told entries u.after.exchanges) u.after.spelled,
      );
    }

-- ---- at rest

-- nothing is at hand: the connection goes on from its conversation
pub at_rest : {D A : Type 0} (answers : DoorCall D) (entries : List Entry) (first : Origin D) (start : Written) (read : List ℕ) (door : D) (client : Client A) (sent : Sent) → IsRested client → IsHolding answers entries first start read door client sent
    → IsAfter answers entries first start read None (record { door = door; talk = talk_of client.conversation; sent = sent })
at_rest answers entries first start read door client sent (none, no_end) u =
    let asked : u.hears.mid ≡ u.talk = subst (λ qs. AsksAll entries qs u.talk u.hears.mid) none u.hears.asks in
    let ended : talk_of client.conversation ≡ u.hears.mid = subst (λ e. Ends entries e u.hears.mid (talk_of client.conversation)) no_end u.hears.ends in
    subst (λ t. IsAfter answers entries first start read None (record { door = door; talk = t; sent = sent })) (sym (ended ∙ asked)) u.after

pub holds_none : {D A : Type 0} (answers : DoorCall D) (entries : List Entry) (first : Origin D) (start : Written) (read : List ℕ) (door : D) (client : Client A) (sent : Sent) → IsRested client
    → IsAfter answers entries first start read None (record { door = door; talk = talk_of client.conversation; sent = sent }) → IsHolding answers entries first start read door client sent
holds_none answers entries first start read door client sent (none, no_end) a = record {
  talk = talk_of client.conversation;
  hears = record {
    mid = talk_of client.conversation;
    asks = subst (λ qs. AsksAll entries qs (talk_of client.conversation) (talk_of client.conversation)) (sym none) refl;
    ends = subst (λ e. Ends entries e (talk_of client.conversation) (talk_of client.conversation)) (sym no_end) refl;
  };
  after = a;
}

-- where it stands at rest
pub stands_rested : {D A : Type 0} (answers : DoorCall D) (entries : List Entry) (first : Origin D) (start : Written) (read : List ℕ) (stop : Option Stop) (door : D) (client : Client A) (sent : Sent) → IsRested client
    → IsAfter answers entries first start read stop (record { door = door; talk = talk_of client.conversation; sent = sent }) → Stands answers entries first start read stop door client sent
stands_rested answers entries first start read None door client sent rested a = holds_none answers entries first start read door client sent rested a
stands_rested answers entries first start read (Some stopped.More) door client sent rested a = (a, rested)
stands_rested answers entries first start read (Some stopped.Quit) door client sent rested a = (a, rested)
stands_rested answers entries first start read (Some (stopped.Faulted fault)) door client sent rested a = (a, rested)
stands_rested answers entries first start read (Some stopped.NoMemory) door client sent rested a = (a, tt)

-- ---- what came behind requests

-- it was told, or memory was refused to it
pub told_or_stops : {D : Type 0} (answers : DoorCall D) (entries : List Entry) (told : Option Reply) (stop result : Option Stop) (old new : State D) → Turns answers entries told stop old.door old.talk new.door new.talk → TellsOrStops told stop result old.sent new.sent → GoesTo answers entries result old new
told_or_stops answers entries told stop result old new turns (inl tells) = subst (λ r. GoesTo answers entries r old new) (sym tells.0) (sent answers entries told stop old new turns old.sent refl tells.1)
told_or_stops answers entries told stop result old new turns (inr stops) = subst (λ r. GoesTo answers entries r old new) (sym stops.0) (not_sent answers entries told stop old new turns old.sent refl stops.1)

-- nothing was heard but this, and it was told
pub rested_told : {D A : Type 0} (answers : DoorCall D) (entries : List Entry) (told : Option Reply) (stop result : Option Stop) (old new : D) (before after : Client A) (sent left : Sent) → IsRested before → IsRested after
    → Turns answers entries told stop old (talk_of before.conversation) new (talk_of after.conversation) → TellsOrStops told stop result sent left → StepsTo answers entries result old before sent new after left
rested_told answers entries told stop result old new before after sent left rested rests turns tells first start read u =
    stands_rested answers entries first start read result new after left rests
    (told_or_stops answers entries told stop result (record { door = old; talk = talk_of before.conversation; sent = sent }) (record { door = new; talk = talk_of after.conversation; sent = left }) turns tells first start read (at_rest answers entries first start read old before sent rested u))

-- all requests were answered, and then this is told
pub end_told : {D A : Type 0} (answers : DoorCall D) (entries : List Entry) (told : Option (coded.Reply A)) (stop result : Option Stop) (door : D) (before after : Client A) (sent left : Sent) → drop before.done before.requests.items ≡ [] → before.end ≡ Some (told, stop) → IsRested after
    → after.conversation ≡ before.conversation → TellsOrStops (option_map reply_of told) stop result sent left → StepsTo answers entries result door before sent door after left
end_told answers entries told stop result door before after sent left none is rests same tells first start read u =
    let asked : u.hears.mid ≡ u.talk = subst (λ qs. AsksAll entries qs u.talk u.hears.mid) none u.hears.asks in
    let ended : Ends entries (Some (told, stop)) u.talk (talk_of after.conversation) =
    subst (λ t. Ends entries (Some (told, stop)) t (talk_of after.conversation)) asked (subst (λ c. Ends entries (Some (told, stop)) u.hears.mid (talk_of c)) (sym same) (subst (λ e. Ends entries e u.hears.mid (talk_of before.conversation)) is u.hears.ends)) in
    stands_rested answers entries first start read result door after left rests
    (told_or_stops answers entries (option_map reply_of told) stop result (record { door = door; talk = u.talk; sent = sent }) (record { door = door; talk = talk_of after.conversation; sent = left }) (told_turn answers entries (option_map reply_of told) stop u.talk (talk_of after.conversation) door ended) tells first start read u.after)

-- what is written leaves the requests at hand
pub holding_sent : {D A : Type 0} (answers : DoorCall D) (entries : List Entry) (first : Origin D) (start : Written) (read : List ℕ) (door : D) (before after : Client A) (sent left : Sent) → after.requests ≡ before.requests → after.done ≡ before.done → after.end ≡ before.end → after.conversation ≡ before.conversation
    → StaysSent sent left → IsHolding answers entries first start read door before sent → IsHolding answers entries first start read door after left
holding_sent answers entries first start read door before after sent left requests done end talk stays u = record {
  talk = u.talk;
  hears = subst (λ (c : Conversation _). HearsAll entries (drop after.done after.requests.items) after.end u.talk (talk_of c)) (sym talk)
      (subst (λ e. HearsAll entries (drop after.done after.requests.items) e u.talk (talk_of before.conversation)) (sym end)
      (subst (λ n. HearsAll entries (drop n after.requests.items) before.end u.talk (talk_of before.conversation)) (sym done)
      (subst (λ (qs : Vec _ _). HearsAll entries (drop before.done qs.items) before.end u.talk (talk_of before.conversation)) (sym requests) u.hears)));
  after = record { exchanges = u.after.exchanges; course = u.after.course; at = u.after.at; spelled = stays start (bytes_told entries u.after.exchanges) u.after.spelled };
}

-- ---- the requests that the door was asked

module _ {D A : Type 0} (answers : DoorCall D) (old new : D) (before after : Client A) (sent left : Sent) (all : List (Request A)) (rs : List Reply) (same : all ≡ before.requests.items) (led : AnswersFront answers old (take (length all - before.done) (drop before.done all)) rs new)
    (kept : after.requests ≡ before.requests) (count : after.done ≡ before.done + length rs) (end : after.end ≡ before.end) (talk : after.conversation ≡ before.conversation) where
  asked_front : AnswersFront answers old (drop before.done before.requests.items) rs new
  asked_front = subst (λ (qs : List (Request A)). AnswersFront answers old qs rs new) (take_rest all before.done ∙ ap (λ (qs : List (Request A)). drop before.done qs) same) led

  rest_left : drop after.done after.requests.items ≡ drop (length rs) (drop before.done before.requests.items)
  rest_left = ap (λ (v : Vec _ _). drop after.done v.items) kept ∙ ap (λ n. drop n before.requests.items) count ∙ sym (drop-drop (length rs) before.done before.requests.items)

  -- they were answered
  pub asked_on : (entries : List Entry) → Sends sent left (encodings rs) → StepsTo answers entries None old before sent new after left
  asked_on entries sends first start read u = holding_answered answers entries first start read old new before after sent left rs u asked_front rest_left end talk sends

  -- memory was refused to one of the replies
  pub asked_part : (entries : List Entry) → SendsFront sent left rs → StepsTo answers entries (Some stopped.NoMemory) old before sent new after left
  asked_part entries sends first start read u = (holding_part answers entries first start read old new before (talk_of after.conversation) sent left rs u asked_front sends, tt)

  pub asked_lightens : 0 < length rs → 0 < length (drop before.done before.requests.items) → weight after < weight before
  asked_lightens some wait =
      let ends : unread_weight after.end (length (talk_of after.conversation).unread) ≡ unread_weight before.end (length (talk_of before.conversation).unread) =
      ap (λ (c : Conversation _). unread_weight after.end (length (talk_of c).unread)) talk ∙ ap (λ e. unread_weight e (length (talk_of before.conversation).unread)) end in
      let fewer : length (drop after.done after.requests.items) ≡ length (drop before.done before.requests.items) - length rs = ap length rest_left ∙ length-drop (length rs) (drop before.done before.requests.items) in
      omega (arith, ends, fewer, some, wait)

-- ---- a turn at rest

-- what was heard, or asked, at rest is told, or memory is refused to it
pub rested_turn : {D A : Type 0} (answers : DoorCall D) (entries : List Entry) (told : Option Reply) (stop result : Option Stop) (old new : D) (before mid after : Client A) (writer : Written) → IsRested before → IsRested after → mid.replies ≡ before.replies → after.conversation ≡ mid.conversation
    → Turns answers entries told stop old (talk_of before.conversation) new (talk_of mid.conversation) → TellsOrStops told stop result (sent_at writer mid.replies) (sent_at writer after.replies)
    → StepsTo answers entries result old before (sent_at writer before.replies) new after (sent_at writer after.replies)
rested_turn answers entries told stop result old new before mid after writer rested rests replies talk turns tells =
    rested_told answers entries told stop result old new before after (sent_at writer before.replies) (sent_at writer after.replies) rested rests
    (subst (λ (c : Conversation _). Turns answers entries told stop old (talk_of before.conversation) new (talk_of c)) (sym talk) turns)
    (subst (λ (r : Replies _). TellsOrStops told stop result (sent_at writer r) (sent_at writer after.replies)) replies tells)

pub rested_weight : {A : Type 0} (client : Client A) → IsRested client → weight client ≡ 3 * length (talk_of client.conversation).unread
rested_weight client (none, no_end) =
    let w : unread_weight client.end (length (talk_of client.conversation).unread) ≡ 3 * length (talk_of client.conversation).unread = ap (λ e. unread_weight e (length (talk_of client.conversation).unread)) no_end in
    let l : length (drop client.done client.requests.items) ≡ 0 = ap length none in
    omega (arith, w, l)

pub rested_lightens : {A : Type 0} (told : Option Reply) (stop result : Option Stop) (before after : Client A) (sent left : Sent) → IsRested before → IsRested after → Shortens stop (talk_of before.conversation) (talk_of after.conversation) → TellsOrStops told stop result sent left → Lightens result before after
rested_lightens told stop result before after sent left rested rests shorter (inr stops) = subst (λ r. Lightens r before after) (sym stops.0) tt
rested_lightens told stop result before after sent left rested rests shorter (inl tells) = subst (λ r. Lightens r before after) (sym tells.0) (by_stop stop shorter)
  where
    by_stop : (s : Option Stop) → Shortens s (talk_of before.conversation) (talk_of after.conversation) → Lightens s before after
    by_stop (Some s) is = tt
    by_stop None is = let b = rested_weight before rested in let a = rested_weight after rests in omega (arith, is, a, b)

-- what came behind the requests was told
pub end_lightens : {A : Type 0} (told : Option Reply) (end : Option (coded.Reply A)) (stop result : Option Stop) (before after : Client A) (sent left : Sent) → drop before.done before.requests.items ≡ [] → before.end ≡ Some (end, stop) → IsRested after → after.conversation ≡ before.conversation
    → TellsOrStops told stop result sent left → Lightens result before after
end_lightens told end stop result before after sent left none is rests talk (inr stops) = subst (λ r. Lightens r before after) (sym stops.0) tt
end_lightens {A} told end stop result before after sent left none is rests talk (inl tells) = subst (λ r. Lightens r before after) (sym tells.0) (by_stop stop is)
  where
    by_stop : (s : Option Stop) → before.end ≡ Some (end, s) → Lightens s before after
    by_stop (Some s) at = tt
    by_stop None at =
        let a = rested_weight after rests in
        let w : unread_weight before.end (length (talk_of before.conversation).unread) ≡ 3 * length (talk_of before.conversation).unread + 1 = ap (λ (e : End A). unread_weight e (length (talk_of before.conversation).unread)) at in
        let t : length (talk_of after.conversation).unread ≡ length (talk_of before.conversation).unread = ap (λ (c : Conversation _). length (talk_of c).unread) talk in
        omega (arith, a, w, t)

-- a connection stands at rest behind a stop
pub rests_on : {A : Type 0} (stop : Stop) (has_failed : Bool) (result : Option Served) (client : Client A) → result ≡ outcome_of stop has_failed → RestsAt stop client → IfNone result (IsRested client)
rests_on stop has_failed result client is rests = subst (λ r. IfNone r (IsRested client)) (sym is) (by_stop stop has_failed rests)
  where
    by_stop : (s : Stop) (f : Bool) → RestsAt s client → IfNone (outcome_of s f) (IsRested client)
    by_stop stopped.NoMemory f r = tt
    by_stop stopped.More true r = tt
    by_stop stopped.More false r = r
    by_stop stopped.Quit true r = tt
    by_stop stopped.Quit false r = tt
    by_stop (stopped.Faulted fault) true r = tt
    by_stop (stopped.Faulted fault) false r = tt
