-- What a flusher did, step by step and flush by flush.
use Rattle.std.proofs.Common.{◌≡◌, ◌∙◌, ◌≤◌, ◌+◌, ◌*◌, ◌<◌, ℕ, Bool, true, false, inl, inr, List, [], ◌∷◌, ◌++◌, Option, Some, None, Result, Ok, Err, refl, sym, ap, subst, length, arith, length-append}
use mathlib.Core.Bool.{false≢true}
use Rattle.std.specs.Prelude.{is_some}
use Rattle.std.proofs.lemmas.Option.{none-some}
use Rattle.stow_shared.specs.StowMerge.declared.flush_job.FlushJob.{FlushJob}
use Rattle.stow_shared.specs.StowNode.declared.installed.Installed.{Installed}
use Rattle.stow_shared.specs.StowHouse.FlushDoors.{Flushing, Planned, Came, Refused, message_count, planned, installed}
use Rattle.stow_workers.specs.Flushes.{FlushTo, HasFlushed, GoesOn, HasJob, CanFollow, AreInTurn, EndsIn, EndsInFew, StopsAtFew, IsOneFlush, FlushesOnce, WakesOnce}

-- ---- one step after others

-- steps after steps lead on
leads_on : {D : Type 0} (flushes : D → Flushing → D → Type 0) (old mid : D) (earlier : List Flushing) → FlushTo flushes old earlier mid → (done : List Flushing) (new : D) → FlushTo flushes mid done new → FlushTo flushes old (done ++ earlier) new
unfolding FlushTo
leads_on flushes old mid earlier led [] new on = subst (λ d. FlushTo flushes old earlier d) (sym on) led
leads_on flushes old mid earlier led (step ∷ done) new on = (on.0, leads_on flushes old mid earlier led done on.0 on.1, on.2)

no_steps : {D : Type 0} (flushes : D → Flushing → D → Type 0) (door : D) → FlushTo flushes door [] door
unfolding FlushTo
no_steps flushes door = refl

one_step : {D : Type 0} (flushes : D → Flushing → D → Type 0) (old : D) (step : Flushing) (new : D) → flushes old step new → FlushTo flushes old (step ∷ []) new
unfolding FlushTo
one_step flushes old step new is = (old, refl, is)

two_steps : {D : Type 0} (flushes : D → Flushing → D → Type 0) (old : D) (first : Flushing) (mid : D) (second : Flushing) (new : D) → flushes old first mid → flushes mid second new → FlushTo flushes old (second ∷ first ∷ []) new
unfolding FlushTo
two_steps flushes old first mid second new is then = (mid, (old, refl, is), then)

pub none_flushed : {D : Type 0} (flushes : D → Flushing → D → Type 0) (door : D) → HasFlushed flushes door door
none_flushed flushes door = record { done = []; led = no_steps flushes door }

pub flushed_on : {D : Type 0} (flushes : D → Flushing → D → Type 0) (old mid new : D) → HasFlushed flushes old mid → HasFlushed flushes mid new → HasFlushed flushes old new
flushed_on flushes old mid new before after = record { done = after.done ++ before.done; led = leads_on flushes old mid before.done before.led after.done new after.led }

pub of_wake : {D : Type 0} (flushes : D → Flushing → D → Type 0) (old new : D) → WakesOnce flushes old new → HasFlushed flushes old new
of_wake flushes old new wakes = record { done = wakes.done; led = wakes.led }

-- ---- one flush

-- there was no job, or memory was refused to the plan
is_unplanned : {A E : Type 0} (r : Result (Option (FlushJob A)) E) → ((job : FlushJob A) → r ≡ Ok (Some job) → ⊥) → IsOneFlush None (planned r ∷ [])
unfolding AreInTurn
is_unplanned (Ok (Some job)) none = absurd (none job refl)
is_unplanned (Ok None) none = record { in_turn = (tt, tt); most = omega arith; whole = λ n at. absurd (none-some n at); ended = λ on. absurd on }
is_unplanned (Err e) none = record { in_turn = (inl tt, tt); most = omega arith; whole = λ n at. absurd (none-some n at); ended = λ on. absurd on }

pub unplanned : {D A E : Type 0} (flushes : D → Flushing → D → Type 0) (old new : D) (r : Result (Option (FlushJob A)) E) → flushes old (planned r) new → ((job : FlushJob A) → r ≡ Ok (Some job) → ⊥) → FlushesOnce flushes old None new
unplanned flushes old new r is none = record { done = planned r ∷ []; led = one_step flushes old (planned r) new is; is_flush = is_unplanned r none }

a_job : (n : ℕ) → IsOneFlush None (Planned (Some n) ∷ [])
unfolding AreInTurn
a_job n = record { in_turn = (tt, tt); most = omega arith; whole = λ m at. absurd (none-some m at); ended = λ on. absurd on }

-- memory was refused to the merge
pub unmerged : {D A E : Type 0} (flushes : D → Flushing → D → Type 0) (old new : D) (r : Result (Option (FlushJob A)) E) (job : FlushJob A) → r ≡ Ok (Some job) → flushes old (planned r) new → FlushesOnce flushes old None new
unmerged flushes old new r job at is = record { done = Planned (message_count (Some job)) ∷ []; led = one_step flushes old (Planned (message_count (Some job))) new (subst (λ p. flushes old (planned p) new) at is); is_flush = a_job _ }

-- so many messages where the result came
abbrev came_of : {E : Type 0} → Result Installed E → ℕ → Option ℕ
came_of (Ok told) n = Some n
came_of (Err back) n = None

is_whole : {E : Type 0} (r : Result Installed E) (n : ℕ) → IsOneFlush (came_of r n) (installed r ∷ Planned (Some n) ∷ [])
unfolding AreInTurn
is_whole (Ok told) n =
    record { in_turn = (refl, (tt, tt)); most = omega arith; whole = λ m at. record { told = told; is = ap (λ k. Came told ∷ Planned k ∷ []) at }; ended = λ on. refl }
is_whole (Err back) n = record { in_turn = (inr refl, (tt, tt)); most = omega arith; whole = λ m at. absurd (none-some m at); ended = λ on. absurd on }

two_done : {D A E F : Type 0} (flushes : D → Flushing → D → Type 0) (old mid new : D) (r : Result (Option (FlushJob A)) E) (job : FlushJob A) (s : Result Installed F) → r ≡ Ok (Some job) → flushes old (planned r) mid → flushes mid (installed s) new → FlushTo flushes old (installed s ∷ Planned (message_count (Some job)) ∷ []) new
two_done flushes old mid new r job s at is then = two_steps flushes old (Planned (message_count (Some job))) mid (installed s) new (subst (λ p. flushes old (planned p) mid) at is) then

-- a job's result came, or memory was refused to it
pub merged : {D A E F : Type 0} (flushes : D → Flushing → D → Type 0) (old mid new : D) (r : Result (Option (FlushJob A)) E) (job : FlushJob A) (s : Result Installed F) (told : Installed) (n : ℕ) → r ≡ Ok (Some job) → flushes old (planned r) mid → flushes mid (installed s) new → s ≡ Ok told → n ≡ length job.batch.messages → FlushesOnce flushes old (Some n) new
merged flushes old mid new r job s told n at is then came counted =
    record {
      done = installed s ∷ Planned (message_count (Some job)) ∷ [];
      led = two_done flushes old mid new r job s at is then;
      is_flush = subst (λ o. IsOneFlush o (installed s ∷ Planned (message_count (Some job)) ∷ [])) (ap (λ r. came_of r (length job.batch.messages)) came ∙ sym (ap Some counted)) (is_whole s (length job.batch.messages));
    }

-- memory was refused to the install
pub uninstalled : {D A E F : Type 0} (flushes : D → Flushing → D → Type 0) (old mid new : D) (r : Result (Option (FlushJob A)) E) (job : FlushJob A) (s : Result Installed F) (back : F) → r ≡ Ok (Some job) → flushes old (planned r) mid → flushes mid (installed s) new → s ≡ Err back → FlushesOnce flushes old None new
uninstalled flushes old mid new r job s back at is then refused =
    record {
      done = installed s ∷ Planned (message_count (Some job)) ∷ [];
      led = two_done flushes old mid new r job s at is then;
      is_flush = subst (λ o. IsOneFlush o (installed s ∷ Planned (message_count (Some job)) ∷ [])) (ap (λ r. came_of r (length job.batch.messages)) refused) (is_whole s (length job.batch.messages));
    }

-- ---- one flush after others

on_after : (done earlier : List Flushing) → GoesOn done → GoesOn earlier → GoesOn (done ++ earlier)
on_after [] earlier on before = before
on_after (Planned messages ∷ done) earlier on before = on
on_after (Came told ∷ done) earlier on before = on
on_after (Refused ∷ done) earlier on before = on

job_after : (done earlier : List Flushing) → HasJob done → HasJob (done ++ earlier)
job_after [] earlier has = absurd has
job_after (Planned messages ∷ done) earlier has = has
job_after (Came told ∷ done) earlier has = has
job_after (Refused ∷ done) earlier has = has

follows_after : (step : Flushing) (done earlier : List Flushing) → GoesOn earlier → CanFollow step done → CanFollow step (done ++ earlier)
follows_after (Planned messages) done earlier before can = on_after done earlier can before
follows_after (Came told) done earlier before can = job_after done earlier can
follows_after Refused done earlier before (inl on) = inl (on_after done earlier on before)
follows_after Refused done earlier before (inr has) = inr (job_after done earlier has)

in_turn_after : (done earlier : List Flushing) → GoesOn earlier → AreInTurn earlier → AreInTurn done → AreInTurn (done ++ earlier)
unfolding AreInTurn
in_turn_after [] earlier before are turn = are
in_turn_after (step ∷ done) earlier before are turn = (follows_after step done earlier before turn.0, in_turn_after done earlier before are turn.1)

-- a flush that ended the wake did something
goes_on_by : (done earlier : List Flushing) → GoesOn (done ++ earlier) → (GoesOn done → ⊥) → ⊥
goes_on_by [] earlier on none = none tt
goes_on_by (Planned messages ∷ done) earlier on none = none on
goes_on_by (Came told ∷ done) earlier on none = none on
goes_on_by (Refused ∷ done) earlier on none = none on

-- ---- flushes of few messages

-- of how many messages the last flush was, whose result came
abbrev count_in : List Flushing → ℕ
count_in (newest ∷ Planned (Some n) ∷ earlier) = n
count_in done = 0

abbrev has_come : List Flushing → Bool
has_come (Came told ∷ earlier) = true
has_come done = false

few_have_come : (done : List Flushing) → EndsInFew done → has_come done ≡ true
few_have_come done few = ap has_come few.ends.is

ends_in_many : (n : ℕ) (done : List Flushing) → 512 ≤ n → EndsIn n [] done → (earlier : List Flushing) → EndsInFew (done ++ earlier) → ⊥
ends_in_many n done many ends earlier few =
    let same : n ≡ few.messages = sym (ap (λ d. count_in (d ++ earlier)) ends.is) ∙ ap count_in few.ends.is in
    absurd (omega (arith, same, few.few, many))

-- the step before the last one of a flush is its plan
no_few_between : (x y : Flushing) (earlier : List Flushing) → AreInTurn (x ∷ y ∷ []) → EndsInFew (y ∷ earlier) → ⊥
unfolding AreInTurn
no_few_between x (Planned messages) earlier turn few = false≢true (few_have_come _ few)
no_few_between x (Came told) earlier turn few = turn.1.0
no_few_between x Refused earlier turn few = false≢true (few_have_come _ few)

-- a flush begins where none of few messages ended
stops_after : (done earlier : List Flushing) → AreInTurn done → length done ≤ 2 → (EndsInFew earlier → ⊥) → StopsAtFew earlier → StopsAtFew (done ++ earlier)
stops_after [] earlier turn most many stops = stops
stops_after (x ∷ []) earlier turn most many stops = (many, stops)
stops_after (x ∷ y ∷ []) earlier turn most many stops = (no_few_between x y earlier turn, (many, stops))
stops_after (x ∷ y ∷ z ∷ more) earlier turn most many stops = absurd (omega (arith, most))

-- ---- so many whole flushes

pub record HasGoneOn {D : Type 0} (flushes : D → Flushing → D → Type 0) (old : D) (count : ℕ) (new : D) : Type 0 where
  pub done : List Flushing
  pub led : FlushTo flushes old done new
  pub in_turn : AreInTurn done
  pub on : GoesOn done
  pub length_is : length done ≡ 2 * count
  pub stops : StopsAtFew done
  pub many : EndsInFew done → ⊥

pub at_first : {D : Type 0} (flushes : D → Flushing → D → Type 0) (door : D) → HasGoneOn flushes door 0 door
unfolding AreInTurn
at_first flushes door = record { done = []; led = no_steps flushes door; in_turn = tt; on = tt; length_is = refl; stops = tt; many = λ few. false≢true (few_have_come [] few) }

goes_on_in : (n : ℕ) (done : List Flushing) → EndsIn n [] done → GoesOn done
goes_on_in n done ends = subst GoesOn (sym ends.is) tt

pub one_more : {D : Type 0} (flushes : D → Flushing → D → Type 0) (old mid new : D) (count : ℕ) (messages : Option ℕ) (n : ℕ) → messages ≡ Some n → 512 ≤ n → HasGoneOn flushes old count mid → FlushesOnce flushes mid messages new → HasGoneOn flushes old (count + 1) new
one_more flushes old mid new count messages n is lots before once =
    let whole = once.is_flush.whole n is in
    record {
      done = once.done ++ before.done;
      led = leads_on flushes old mid before.done before.led once.done new once.led;
      in_turn = in_turn_after once.done before.done before.on before.in_turn once.is_flush.in_turn;
      on = on_after once.done before.done (goes_on_in n once.done whole) before.on;
      length_is = omega (arith, length-append once.done before.done, ap length whole.is, before.length_is);
      stops = stops_after once.done before.done once.is_flush.in_turn once.is_flush.most before.many before.stops;
      many = ends_in_many n once.done lots whole before.done;
    }

-- a wake ended behind a flush that was none, or was refused memory
pub at_last : {D : Type 0} (flushes : D → Flushing → D → Type 0) (old mid new : D) (count : ℕ) (messages : Option ℕ) → count < 16 → is_some messages ≡ false → HasGoneOn flushes old count mid → FlushesOnce flushes mid messages new → WakesOnce flushes old new
at_last flushes old mid new count messages below is before once =
    record {
      done = once.done ++ before.done;
      led = leads_on flushes old mid before.done before.led once.done new once.led;
      is_wake = record {
        in_turn = in_turn_after once.done before.done before.on before.in_turn once.is_flush.in_turn;
        most = omega (arith, length-append once.done before.done, once.is_flush.most, before.length_is, below);
        stopped = stops_after once.done before.done once.is_flush.in_turn once.is_flush.most before.many before.stops;
        ended = λ on. absurd (goes_on_by once.done before.done on (λ goes. false≢true (sym is ∙ once.is_flush.ended goes)));
      };
    }

-- or it ended behind a whole flush of few messages
pub at_few : {D : Type 0} (flushes : D → Flushing → D → Type 0) (old mid new : D) (count : ℕ) (messages : Option ℕ) (n : ℕ) → count < 16 → messages ≡ Some n → n < 512 → HasGoneOn flushes old count mid → FlushesOnce flushes mid messages new → WakesOnce flushes old new
at_few flushes old mid new count messages n below is few before once =
    let whole = once.is_flush.whole n is in
    record {
      done = once.done ++ before.done;
      led = leads_on flushes old mid before.done before.led once.done new once.led;
      is_wake = record {
        in_turn = in_turn_after once.done before.done before.on before.in_turn once.is_flush.in_turn;
        most = omega (arith, length-append once.done before.done, once.is_flush.most, before.length_is, below);
        stopped = stops_after once.done before.done once.is_flush.in_turn once.is_flush.most before.many before.stops;
        ended = λ on. inr (record { messages = n; few = few; earlier = before.done; ends = record { told = whole.told; is = ap (λ d. d ++ before.done) whole.is } });
      };
    }

pub after_all : {D : Type 0} (flushes : D → Flushing → D → Type 0) (old new : D) (count : ℕ) → count ≡ 16 → HasGoneOn flushes old count new → WakesOnce flushes old new
after_all flushes old new count is before =
    record {
      done = before.done;
      led = before.led;
      is_wake = record {
        in_turn = before.in_turn;
        most = omega (arith, before.length_is, is);
        stopped = before.stops;
        ended = λ on. inl (omega (arith, before.length_is, is));
      };
    }
