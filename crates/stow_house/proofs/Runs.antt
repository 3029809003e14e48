-- A run of events so far.
use Rattle.std.proofs.Common.{zero, suc, get_or, take, ◌≡◌, ◌≢◌, ℕ, ◌<◌, ◌≤◌, Bool, true, false, List, [], ◌∷◌, ◌++◌, map, reverse, length, filter, Option, Some, None, option_map, refl, ap, ◌∙◌, sym, subst, arith, append-nil, inl, inr}
use Rattle.std.specs.Result.{OnOk, is_err}
use Rattle.std.specs.declared.alloc.AllocError.{AllocError}
use Rattle.std.specs.Prelude.{Result, Ok, Err, IsSome, if◌then◌else◌}
use Rattle.std.specs.List.{flat_map}
use Rattle.std.proofs.lemmas.Grind.{flat_map-append}
use Rattle.std.proofs.lemmas.Bool.{eq-eqb, ne_eqb}
use Rattle.std.proofs.lemmas.Bool.Decides.{nat_tests}
use Rattle.std.proofs.lemmas.List.{reverse-append, reverse-reverse}
use Rattle.stow_model.specs.Login.{Entry, quota_of}
use Rattle.stow_model.specs.Message.{Message}
use Rattle.stow_model.specs.Message as message
use Rattle.stow_model.specs.Command.{Kind, Login, Quit, Malformed, ForStore, kind_of}
use Rattle.stow_model.specs.Reply.{Reply, encoding}
use Rattle.stow_model.specs.Event.{Event, ConnectionEvent, FlusherEvent}
use Rattle.stow_model.specs.Event as event
use Rattle.stow_model.specs.Store.{store_after, usage, is_out_of_memory}
use Rattle.stow_model.specs.History.{Step, Void, At, Flushed, Ordered, ConnectionStep, Plain, Took, Broke, event_of_step, is_void, is_refused, is_refused_own, Status, Unused, IsOpen, Closed, part_of, status_of, served_as, request_as, MayBeRefused, Follows, IsStep, IsHistory, login_reply, kind_reply, quoted_reply, message_reply, told_by, reply_in_line, told_at, Telling, telling_of, with_telling, tellings, is_tenant, answers_to, line_of, may_be_given, OneHistory}
use Rattle.stow_model.proofs.Refused.{want_of_memory_lem}
use Rattle.stow_house.specs.declared.mark.Mark.{Mark}
use Rattle.stow_house.specs.declared.mark.Mark.TheVariants as mark
use Rattle.stow_house.specs.StepResult.{StepResult, Done, More, Job, NoJob, Installed, Stale, Refused, NoMemory, answer_to_event, answer_to_own, answer_to_order, CanAnswer, answered, when_open, when_unused, MayAnswer, IsAnswer}
use Rattle.stow_house.specs.Steps.{HouseState, Stands, IsStepOf}
use Rattle.stow_house.specs.Outputs.{Told, replies_to, to_connection, told_of, mark_of, mark_if, IsFlusherMark, IsMark, AreMarks, connection_of, told_in_history}
use Rattle.stow_house.specs.Runs.{Shows, StepsThrough, RunsOver, told_in_run, OneRun}

-- ---- what is answered, and what is told

-- an answer that tells nothing
record Silent (r : StepResult) : Type 0 where
  pub told : told_of r ≡ None
  pub mark : mark_of r ≡ mark.Kept

silent_unused : (status : Status) → Silent (when_unused status Done)
silent_unused Unused = record { told = refl; mark = refl }
silent_unused IsOpen = record { told = refl; mark = refl }
silent_unused Closed = record { told = refl; mark = refl }

silent_open : (status : Status) (r : StepResult) → Silent r → Silent (when_open status r)
silent_open Unused r s = record { told = refl; mark = refl }
silent_open IsOpen r s = s
silent_open Closed r s = record { told = refl; mark = refl }

silent : (e : ConnectionEvent) (status : Status) → Silent (answer_to_event e status)
silent event.Open status = silent_unused status
silent (event.Piece bytes) status = silent_open status Done (record { told = refl; mark = refl })
silent event.Serve status = silent_open status More (record { told = refl; mark = refl })
silent event.Close status = silent_open status Done (record { told = refl; mark = refl })

-- an answer to an event of a flusher
record Quiet (e : FlusherEvent) (r : StepResult) : Type 0 where
  pub told : told_of r ≡ None
  pub mark : IsFlusherMark e (mark_of r)

quiet : (e : FlusherEvent) (r : StepResult) → MayAnswer e r → Quiet e r
quiet (event.Plan f) Job may = record { told = refl; mark = inl refl }
quiet (event.Plan f) NoJob may = record { told = refl; mark = inl refl }
quiet (event.Plan f) Refused may = record { told = refl; mark = inl refl }
quiet (event.Plan f) NoMemory may = record { told = refl; mark = inr refl }
quiet (event.Plan f) _ may = absurd may
quiet (event.Merge f) Done may = record { told = refl; mark = inl refl }
quiet (event.Merge f) Refused may = record { told = refl; mark = inl refl }
quiet (event.Merge f) NoMemory may = record { told = refl; mark = inr refl }
quiet (event.Merge f) _ may = absurd may
quiet (event.Install f) Installed may = record { told = refl; mark = inl refl }
quiet (event.Install f) Stale may = record { told = refl; mark = inl refl }
quiet (event.Install f) Refused may = record { told = refl; mark = inl refl }
quiet (event.Install f) NoMemory may = record { told = refl; mark = inr refl }
quiet (event.Install f) _ may = absurd may
quiet (event.Resize n) r (inl (few, inl done)) = subst (Quiet (event.Resize n)) (sym done) (record { told = refl; mark = inl refl })
quiet (event.Resize n) r (inl (few, inr void)) = subst (Quiet (event.Resize n)) (sym void) (record { told = refl; mark = inr (few, refl) })
quiet (event.Resize n) r (inr (many, refused)) = subst (Quiet (event.Resize n)) (sym refused) (record { told = refl; mark = inl refl })

-- an answer to a quota
silent_order : (may : Bool) → Silent (answer_to_order may)
silent_order true = record { told = refl; mark = refl }
silent_order false = record { told = refl; mark = refl }

told_of-answered : (told : Option Reply) → told_of (answered told) ≡ told
told_of-answered None = refl
told_of-answered (Some r) = refl

-- what is answered holds what is told
told_of-own : (entries : List Entry) (own : ConnectionStep) (status : Status) (tenant : Option ℕ) (of_tenant : Bool → List (List ℕ) → ℕ → Reply) → told_of (answer_to_own own status (told_by entries own tenant of_tenant)) ≡ told_by entries own tenant of_tenant
told_of-own entries (Plain e) status tenant of_tenant = (silent e status).told
told_of-own entries (Took m is_refused) status tenant of_tenant = told_of-answered (message_reply entries m tenant (of_tenant is_refused))
told_of-own entries (Broke fault) status tenant of_tenant = refl

-- ---- the mark of what is told

not_refused : (b : Bool) → (b ≡ true → ◌≡◌ {A = Bool} false true) → false ≡ b
not_refused true may = may refl
not_refused false may = refl

mark_of-login : (o : Option ℕ) → is_out_of_memory (login_reply o) ≡ false
mark_of-login None = refl
mark_of-login (Some t) = refl

mark_of-quoted : (o : Option ℕ) → is_out_of_memory (quoted_reply o) ≡ false
mark_of-quoted None = refl
mark_of-quoted (Some t) = refl

mark_of-kind : (entries : List Entry) (kind : Kind) (words : List (List ℕ)) (b : Bool) (tenant : Option ℕ) (earlier : List Step) → (b ≡ true → IsSome (request_as kind words b tenant)) → is_out_of_memory (kind_reply entries kind tenant (reply_in_line entries earlier b words)) ≡ b
unfolding reply_in_line
mark_of-kind entries (Login name password) words b tenant earlier may = mark_of-login _ ∙ not_refused b may
mark_of-kind entries Quit words b tenant earlier may = not_refused b may
mark_of-kind entries Malformed words b tenant earlier may = not_refused b may
mark_of-kind entries ForStore words b None earlier may = not_refused b may
mark_of-kind entries ForStore words b (Some t) earlier may = want_of_memory_lem _ (record { words = words; is_refused = b })

mark_of-message : (entries : List Entry) (m : Message) (b : Bool) (tenant : Option ℕ) (earlier : List Step) → MayBeRefused m b tenant → mark_of (answered (message_reply entries m tenant (reply_in_line entries earlier b))) ≡ mark_if b
mark_of-message entries (message.Words words) b tenant earlier may = ap mark_if (mark_of-kind entries (kind_of words) words b tenant earlier may)
mark_of-message entries message.Quoted b tenant earlier may = ap mark_if (mark_of-quoted tenant ∙ not_refused b may)
mark_of-message entries message.Blank b tenant earlier may = ap mark_if (not_refused b may)

mark_of-own : (entries : List Entry) (c : ℕ) (own : ConnectionStep) (earlier : List Step) → Follows entries own (part_of c earlier) → mark_of (answer_to_own own (status_of (part_of c earlier)) (told_at entries c own earlier)) ≡ mark_if (is_refused_own own)
unfolding Follows told_at
mark_of-own entries c (Plain e) earlier f = (silent e (status_of (part_of c earlier))).mark
mark_of-own entries c (Took m b) earlier f = mark_of-message entries m b (served_as entries (part_of c earlier)) earlier f.2
mark_of-own entries c (Broke fault) earlier f = refl

marked : (entries : List Entry) (step : Step) (earlier : List Step) (r : StepResult) → IsStep entries step earlier → IsAnswer entries step earlier r → IsMark step (mark_of r)
unfolding IsStep IsAnswer
marked entries (Void e) earlier r is a = ap mark_of a
marked entries (At c own) earlier r is a = ap mark_of a ∙ mark_of-own entries c own earlier is
marked entries (Flushed e) earlier r is a = (quiet e r a).mark
marked entries (Ordered tenant quota) earlier r is a = ap mark_of a ∙ (silent_order (may_be_given entries tenant quota)).mark

-- ---- one step more

option_telling : ℕ → Option ℕ → Option Reply → Option Telling
option_telling c tenant told = option_map (λ r. record { connection = c; tenant = tenant; reply = r }) told

told_here : (c : ℕ) (tenant : Option ℕ) (told : Option Reply) (before : List Telling) → map told_in_history (with_telling (option_telling c tenant told) before) ≡ to_connection c told ++ map told_in_history before
unfolding option_telling
told_here c tenant None before = refl
told_here c tenant (Some r) before = refl

tells : (entries : List Entry) (step : Step) (earlier : List Step) (r : StepResult) → IsAnswer entries step earlier r
    → map told_in_history (tellings entries (step ∷ earlier)) ≡ to_connection (connection_of (event_of_step step)) (told_of r) ++ map told_in_history (tellings entries earlier)
unfolding IsAnswer tellings telling_of told_at option_telling
tells entries (Void e) earlier r a = ap (λ x. to_connection (connection_of e) (told_of x) ++ map told_in_history (tellings entries earlier)) (sym a)
tells entries (At c own) earlier r a =
    told_here c _ (told_at entries c own earlier) (tellings entries earlier)
    ∙ ap (λ t. to_connection c t ++ map told_in_history (tellings entries earlier)) (sym (ap told_of a ∙ told_of-own entries own (status_of (part_of c earlier)) (served_as entries (part_of c earlier)) (reply_in_line entries earlier)))
tells entries (Flushed e) earlier r a = ap (λ t. to_connection 0 t ++ map told_in_history (tellings entries earlier)) (sym (quiet e r a).told)
tells entries (Ordered tenant quota) earlier r a =
    ap (λ t. to_connection 0 t ++ map told_in_history (tellings entries earlier)) (sym (ap told_of a ∙ (silent_order (may_be_given entries tenant quota)).told))

reverse_one : (c : ℕ) (told : Option Reply) → to_connection c told ≡ reverse (to_connection c told)
reverse_one c None = refl
reverse_one c (Some r) = refl

pub shown_none : (entries : List Entry) (house : HouseState) (told : List Told) (marks : List Mark) → Stands entries house [] → told ≡ [] → marks ≡ [] → Shows entries [] told marks house
unfolding tellings
shown_none entries house told marks stands none none' = record { history = []; stands = stands; in_order = refl; marked = ap reverse none'; output = ap reverse (sym none) }

pub shown_more : (entries : List Entry) (old new : HouseState) (e : Event) (r : StepResult) (events : List Event) (told : List Told) (marks : List Mark) → Shows entries events told marks old → IsStepOf old e r new
    → Shows entries (events ++ e ∷ []) (told ++ to_connection (connection_of e) (told_of r)) (marks ++ mark_of r ∷ []) new
unfolding IsHistory
shown_more entries old new e r events told marks f s =
    let g = s.goes_on entries f.history f.stands in
    let own = to_connection (connection_of e) (told_of r) in
    record {
      history = s.step ∷ f.history;
      stands = g.stands;
      in_order = (λ i. s.is_event i ∷ f.in_order i) ∙ sym (reverse-append events (e ∷ []));
      marked = subst (AreMarks (s.step ∷ f.history)) (sym (reverse-append marks (mark_of r ∷ []))) (marked entries s.step f.history r g.stands.is_history.0 g.answer, f.marked);
      output = tells entries s.step f.history r g.answer
          ∙ ap (λ x. to_connection (connection_of x) (told_of r) ++ map told_in_history (tellings entries f.history)) s.is_event
          ∙ (λ i. reverse_one (connection_of e) (told_of r) i ++ f.output i)
          ∙ sym (reverse-append told own);
    }

-- each event so far was one step
pub step_more : (old mid new : HouseState) (events : List Event) (marks : List Mark) (e : Event) (r : StepResult) → StepsThrough old events marks mid → CanAnswer e r → IsStepOf mid e r new
    → StepsThrough old (events ++ e ∷ []) (marks ++ mark_of r ∷ []) new
step_more old mid new [] marks e r (none, same) can is =
    (r, new, [], can, subst (λ h. IsStepOf h e r new) same is, ap (λ ms. ms ++ mark_of r ∷ []) none, (refl, refl))
step_more old mid new (first ∷ events) marks e r (q, next, later, could, was, split, rest) can is =
    (q, next, later ++ mark_of r ∷ [], could, was, ap (λ ms. ms ++ mark_of r ∷ []) split, step_more next mid new events later e r rest can is)

pub runs_none : (house : HouseState) (told : List Told) (marks : List Mark) → Stands house.core.entries house [] → told ≡ [] → marks ≡ [] → RunsOver house [] told marks house
runs_none house told marks stands none none' =
    let shows = shown_none house.core.entries house told marks stands none none' in
    record {
      shows = shows;
      steps = (none', refl);
      usages = λ tenant. ap usage (shows.stands.stores tenant);
    }

pub runs_more : (old mid new : HouseState) (events : List Event) (told : List Told) (marks : List Mark) (e : Event) (r : StepResult) → RunsOver old events told marks mid → CanAnswer e r → IsStepOf mid e r new
    → RunsOver old (events ++ e ∷ []) (told ++ to_connection (connection_of e) (told_of r)) (marks ++ mark_of r ∷ []) new
runs_more old mid new events told marks e r runs can is =
    let shows = shown_more old.core.entries mid new e r events told marks runs.shows is in
    record {
      shows = shows;
      steps = step_more old mid new events marks e r runs.steps can is;
      usages = λ tenant. ap usage (shows.stands.stores tenant);
    }

pub as_run : (old new : HouseState) (events events' : List Event) (told told' : List Told) (marks marks' : List Mark) → events ≡ events' → told ≡ told' → marks ≡ marks' → RunsOver old events told marks new → RunsOver old events' told' marks' new
as_run old new events events' told told' marks marks' p q r f =
    subst (λ x. RunsOver old x told' marks' new) p (subst (λ x. RunsOver old events x marks' new) q (subst (λ x. RunsOver old events told x new) r f))

-- ---- two runs

-- what was told at the places of the tenant's requests
pub told_in_run-answers : (tenant : ℕ) (told : List Telling) → told_in_run tenant told (map told_in_history told) ≡ answers_to tenant told
told_in_run-answers tenant [] = refl
told_in_run-answers tenant (t ∷ told) = by_tag (is_tenant tenant t.tenant) t told (told_in_run-answers tenant told)
  where
    by_tag : (b : Bool) (t : Telling) (told : List Telling) → told_in_run tenant told (map told_in_history told) ≡ answers_to tenant told
        → (if b then t.reply ∷ told_in_run tenant told (map told_in_history told) else told_in_run tenant told (map told_in_history told)) ≡ map (λ x. x.reply) (if b then t ∷ filter (λ x. is_tenant tenant x.tenant) told else filter (λ x. is_tenant tenant x.tenant) told)
    by_tag true t told e = ap (λ l. t.reply ∷ l) e
    by_tag false t told e = e

abbrev says_void : Mark → Bool
says_void mark.Kept = false
says_void mark.Void = true
says_void mark.Refused = false

abbrev says_refused : Mark → Bool
says_refused mark.Kept = false
says_refused mark.Void = false
says_refused mark.Refused = true

void-if : (b : Bool) → false ≡ says_void (mark_if b)
void-if true = refl
void-if false = refl

refused-if : (b : Bool) → b ≡ says_refused (mark_if b)
refused-if true = refl
refused-if false = refl

-- a void step is an event of a connection that is marked so
void_by : Event → Mark → Bool
void_by (event.On c e) m = says_void m
void_by (event.By e) m = false
void_by (event.SetQuota tenant quota) m = false

voids_by : List Event → List Mark → List Bool
voids_by [] marks = []
voids_by (e ∷ events) [] = []
voids_by (e ∷ events) (m ∷ marks) = void_by e m ∷ voids_by events marks

void-mark : (entries : List Entry) (s : Step) (earlier : List Step) (m : Mark) → IsStep entries s earlier → IsMark s m → is_void s ≡ void_by (event_of_step s) m
unfolding IsStep void_by
void-mark entries (Void (event.On c e)) earlier m p is = ap says_void (sym is)
void-mark entries (Void (event.By e)) earlier m p is = absurd p
void-mark entries (Void (event.SetQuota tenant quota)) earlier m p is = absurd p
void-mark entries (At c own) earlier m p is = void-if (is_refused_own own) ∙ ap says_void (sym is)
void-mark entries (Flushed e) earlier m p is = refl
void-mark entries (Ordered tenant quota) earlier m p is = refl

void-marks : (entries : List Entry) (history : List Step) (marks : List Mark) → IsHistory entries history → AreMarks history marks → map is_void history ≡ voids_by (map event_of_step history) marks
unfolding IsHistory voids_by
void-marks entries [] marks p are = refl
void-marks entries (s ∷ earlier) [] p are = absurd are
void-marks entries (s ∷ earlier) (m ∷ marks) p are = λ i. void-mark entries s earlier m p.0 are.0 i ∷ void-marks entries earlier marks p.1 are.1 i

flusher-unrefused : (e : FlusherEvent) (m : Mark) → IsFlusherMark e m → false ≡ says_refused m
flusher-unrefused (event.Plan f) m (inl kept) = ap says_refused (sym kept)
flusher-unrefused (event.Plan f) m (inr void) = ap says_refused (sym void)
flusher-unrefused (event.Merge f) m (inl kept) = ap says_refused (sym kept)
flusher-unrefused (event.Merge f) m (inr void) = ap says_refused (sym void)
flusher-unrefused (event.Install f) m (inl kept) = ap says_refused (sym kept)
flusher-unrefused (event.Install f) m (inr void) = ap says_refused (sym void)
flusher-unrefused (event.Resize n) m (inl kept) = ap says_refused (sym kept)
flusher-unrefused (event.Resize n) m (inr (few, void)) = ap says_refused (sym void)

refused-mark : (s : Step) (m : Mark) → IsMark s m → is_refused s ≡ says_refused m
refused-mark (Void e) m is = ap says_refused (sym is)
refused-mark (At c own) m is = refused-if (is_refused_own own) ∙ ap says_refused (sym is)
refused-mark (Flushed e) m is = flusher-unrefused e m is
refused-mark (Ordered tenant quota) m is = ap says_refused (sym is)

refused-marks : (history : List Step) (marks : List Mark) → AreMarks history marks → map is_refused history ≡ map says_refused marks
refused-marks [] marks are = ap (map says_refused) (sym are)
refused-marks (s ∷ earlier) [] are = absurd are
refused-marks (s ∷ earlier) (m ∷ marks) are = λ i. refused-mark s m are.0 i ∷ refused-marks earlier marks are.1 i

pub one_run : OneHistory → OneRun
one_run one entries events told told' marks house house' s s' =
    let in_order : map event_of_step s.history ≡ map event_of_step s'.history = s.in_order ∙ sym s'.in_order in
    let same : s.history ≡ s'.history = one entries s.history s'.history s.stands.is_history s'.stands.is_history in_order
    (void-marks entries s.history (reverse marks) s.stands.is_history s.marked ∙ ap (λ es. voids_by es (reverse marks)) in_order ∙ sym (void-marks entries s'.history (reverse marks) s'.stands.is_history s'.marked))
    (refused-marks s.history (reverse marks) s.marked ∙ sym (refused-marks s'.history (reverse marks) s'.marked)) in (
      sym (reverse-reverse told) ∙ ap reverse (sym s.output ∙ ap (λ h. map told_in_history (tellings entries h)) same ∙ s'.output) ∙ reverse-reverse told',
      (λ tenant. s.stands.stores tenant ∙ ap (λ h. store_after (quota_of entries tenant) (line_of entries tenant h)) same ∙ sym (s'.stands.stores tenant)),
    )

-- ---- the events so far

pub take_map_more : {X Y : Type 0} (f : X → Y) (xs : List X) (i : ℕ) (x : X) → i < length xs → x ≡ get_or xs i x → take (suc i) (map f xs) ≡ take i (map f xs) ++ f x ∷ []
take_map_more f [] i x lt e = absurd (omega arith)
take_map_more f (y ∷ xs) zero x lt e = ap (λ z. f z ∷ []) (sym e)
take_map_more f (y ∷ xs) (suc i) x lt e = ap (λ t. f y ∷ t) (take_map_more f xs i x (omega arith) e)

pub take_map_all : {X Y : Type 0} (f : X → Y) (xs : List X) (n : ℕ) → length xs ≤ n → take n (map f xs) ≡ map f xs
take_map_all f [] zero le = refl
take_map_all f [] (suc n) le = refl
take_map_all f (x ∷ xs) zero le = absurd (omega arith)
take_map_all f (x ∷ xs) (suc n) le = ap (λ t. f x ∷ t) (take_map_all f xs n (omega arith))

pub when_ok : {P : Type 0} (r : Result (Unit {0}) AllocError) → OnOk r P → false ≡ is_err r → P
when_ok (Ok u) p e = p
when_ok (Err x) p e = absurd (cc)

-- ---- the bytes that a connection is told

replies_to-append : (c : ℕ) (a b : List Told) → replies_to c (a ++ b) ≡ replies_to c a ++ replies_to c b
replies_to-append c [] b = refl
replies_to-append c (t ∷ a) b = grind (arith, nat_tests, replies_to-append c a b)

told_bytes : ℕ → List Told → List ℕ
told_bytes c told = flat_map encoding (replies_to c told)

told_bytes-append : (c : ℕ) (a b : List Told) → told_bytes c (a ++ b) ≡ told_bytes c a ++ told_bytes c b
unfolding told_bytes
told_bytes-append c a b = ap (flat_map encoding) (replies_to-append c a b) ∙ flat_map-append encoding (replies_to c a) (replies_to c b)

pub bytes_more_own : (c : ℕ) (told : List Told) (t : Told) → t.0 ≡ c → flat_map encoding (replies_to c (told ++ t ∷ [])) ≡ flat_map encoding (replies_to c told) ++ encoding t.1
unfolding told_bytes
bytes_more_own c told t e =
    told_bytes-append c told (t ∷ [])
    ∙ ap (λ b. told_bytes c told ++ flat_map encoding (map (λ s. s.1) (if b then t ∷ [] else []))) (eq-eqb t.0 c e)
    ∙ ap (λ x. told_bytes c told ++ x) (append-nil (encoding t.1))

pub bytes_more_other : (c : ℕ) (told : List Told) (t : Told) → t.0 ≢ c → flat_map encoding (replies_to c (told ++ t ∷ [])) ≡ flat_map encoding (replies_to c told)
unfolding told_bytes
bytes_more_other c told t differ =
    told_bytes-append c told (t ∷ [])
    ∙ ap (λ b. told_bytes c told ++ flat_map encoding (map (λ s. s.1) (if b then t ∷ [] else []))) (ne_eqb t.0 c differ)
    ∙ append-nil (told_bytes c told)
