-- What is told of a script's events.
use Rattle.std.proofs.Common.{◌≡◌, ℕ, ◌+◌, ◌<◌, ◌≤◌, true, false, List, [], ◌∷◌, ◌++◌, length, take, drop, map, get_or, Option, IfSome, Result, Ok, Err, refl, ap, ◌∙◌, sym, subst, inl, inr, append-nil, append_assoc}
use Rattle.std.specs.Prelude.{codes, IfErr, IfOk, MatchResult, OnOk, OnErr}
use Rattle.std.specs.Result.{IsErrAnd, is_err}
use Rattle.std.specs.declared.vec.Vec.{Vec}
use Rattle.std.proofs.lemmas.List.{take_all, take_more, take-append-drop, map-append}
use Rattle.std.specs.List.{All}
use Rattle.std.proofs.lemmas.List.Elements.{All-nil, All-cons}
use Rattle.std.specs.Io.KnownBytes.{Appends, Keeps}
use Rattle.std.proofs.KnownBytes.{Appends-nil, Appends-trans, Appends-kept}
use Rattle.std.specs.declared.io.Error.{Error}
use Rattle.std.specs.declared.io.ErrorKind.{ErrorKind}
use Rattle.std.specs.declared.io.ErrorKind.TheVariants as kind
use Rattle.std.specs.IoError.{error_kind}
use Rattle.stow_login.proofs.Named.{named_within}
use Rattle.stow_login.proofs.Same.{mapped_at, length_of_map}
use Rattle.stow_model.specs.Event.{Event, event_of, On, By, SetQuota}
use Rattle.stow_model.specs.Login.{Entry}
use Rattle.stow_model.specs.declared.event.Event as coded
use Rattle.stow_model.specs.Reply.{encoding}
use Rattle.stow_model.specs.Event as event
use Rattle.stow_workers.specs.StowHouse.declared.step_result.StepResult as result
use Rattle.stow_workers.specs.StowHouse.StepResult.{StepResult, step_result_of, Done, Answered, More, Blank, Job, NoJob, Installed, Stale, Refused, NoMemory, CanAnswer}
use Rattle.stow_workers.specs.StowHouse.Steps.{HouseState, IsStepOf}
use Rattle.stow_workers.specs.Failures.{CountsFailure, HasFailed}
use Rattle.stow_workers.specs.Sent.{Begins, WritesAll, Written}
use Rattle.stow_run.specs.declared.failure.Failure.{Failure}
use Rattle.stow_run.specs.declared.failure.Failure.TheVariants as failure
use Rattle.stow_run.specs.declared.failure.Endpoint.TheVariants as endpoint
use Rattle.stow_tasks.specs.Ends.{IsOfOutput}
use Rattle.stow_tasks.specs.Lines.{IsText, WritesLine}
use Rattle.stow_tasks.specs.Read.{IsScriptRead}
use Rattle.stow_script.specs.Text.{text_of}
use Rattle.stow_run.specs.Statuses.{failure_at, failure_of_kind}
use Rattle.stow_script.specs.declared.script_line.ScriptLine as script_line
use Rattle.stow_script.specs.Script.{AskFor, AsksFor, Asks, Line, Shape, Usage, line_of, lines_of}
use Rattle.stow_tasks.specs.Told.{DoesAll, CarriesOutPart, EndsTelling, IsCarriedOut, IsLineDone, IsIdle, IsScript, IsTenantThere, IsScripted, IsToldLine, LinesLead, LineLeads, ScriptState}

-- ---- one line more

leads_more : (old : HouseState) (asked : List Line) (lines : List ℕ) (mid : HouseState) (l : Line) (new : HouseState) (text : List ℕ)
    → LinesLead old asked lines mid → LineLeads l mid text new → LinesLead old (asked ++ l ∷ []) (lines ++ (text ++ 10 ∷ [])) new
leads_more old [] lines mid l new text h leads =
    (new, text, [], subst (λ house. LineLeads l house text new) h.1 leads, ap (λ ls. ls ++ (text ++ 10 ∷ [])) h.0, (refl, refl))
leads_more old (first ∷ asked) lines mid l new text h leads =
    let more = leads_more h.0 asked h.2 mid l new text h.5 leads in
    (h.0, h.1, h.2 ++ (text ++ 10 ∷ []), h.3, ap (λ ls. ls ++ (text ++ 10 ∷ [])) h.4 ∙ append_assoc h.1 (10 ∷ h.2) (text ++ 10 ∷ []), more)

-- the tenants stay
line_tenants : (l : Line) (old : HouseState) (text : List ℕ) (new : HouseState) → LineLeads l old text new → new.core.entries ≡ old.core.entries
line_tenants (Asks e) old text new leads = leads.1.tenants
line_tenants Shape old text new leads = ap (λ (h : HouseState). h.core.entries) leads.3
line_tenants (Usage tenant) old text new leads = ap (λ (h : HouseState). h.core.entries) leads.1

pub led_tenants : (old : HouseState) (asked : List Line) (lines : List ℕ) (new : HouseState) → LinesLead old asked lines new → new.core.entries ≡ old.core.entries
led_tenants old [] lines new h = ap (λ (x : HouseState). x.core.entries) h.1
led_tenants old (first ∷ asked) lines new h = led_tenants h.0 asked h.2 new h.5 ∙ line_tenants first old h.1 h.0 h.3

-- the tenants whom a script's lines are of are there
of_tenant : (entries : List Entry) (line : List ℕ) (l : Line) → AsksFor entries line l → IsTenantThere entries l
of_tenant entries line (Asks e) h = tt
of_tenant entries line Shape h = tt
of_tenant entries line (Usage tenant) h = named_within entries h.0 tenant h.2.1

pub of_tenants : (entries : List Entry) (lines : List (List ℕ)) (asked : List Line) → AskFor entries lines asked → All (IsTenantThere entries) asked
of_tenants entries [] asked h = subst (All (IsTenantThere entries)) (sym h) (All-nil (IsTenantThere entries))
of_tenants entries (line ∷ lines) asked (inl h) = of_tenants entries lines asked h.1
of_tenants entries (line ∷ lines) asked (inr h) =
    subst (All (IsTenantThere entries)) (sym h.2) (All-cons (IsTenantThere entries) h.0 h.1 (of_tenant entries line h.0 h.3) (of_tenants entries lines h.1 h.4))

pub lines_of_tenants : {A Z : Type 0} (entries entries' : List Entry) (text : List ℕ) (r : Result (Vec (script_line.ScriptLine A) Z) Failure) → entries ≡ entries' → IsScriptRead entries text r
    → IfOk r (λ lines. All (IsTenantThere entries') (map line_of lines.items))
lines_of_tenants entries entries' text (Ok lines) same h = subst (λ es. All (IsTenantThere es) (map line_of lines.items)) same (of_tenants entries (lines_of text) (map line_of lines.items) h)
lines_of_tenants entries entries' text (Err f) same h = tt

-- .. and so is that of each line
pub of_tenant_at : {A : Type 0} (entries entries' : List Entry) (lines : List (script_line.ScriptLine A)) (i : ℕ) (l : script_line.ScriptLine A) → entries ≡ entries' → All (IsTenantThere entries) (map line_of lines) → i < length lines → l ≡ get_or lines i l
    → IsTenantThere entries' (line_of l)
of_tenant_at entries entries' lines i l same all lt is =
    subst (λ es. IsTenantThere es (line_of l)) same
    (subst (IsTenantThere entries) (sym (mapped_at line_of lines i l lt is)) (all i (line_of l) (length_of_map line_of lines i lt)))

-- this was done; of the lines that tell it some were written, and the rest waits
pub record IsToldSoFar (done : List Line) (old new : ScriptState) (waiting : List ℕ) : Type 0 where
  pub lines : List ℕ
  pub leads : LinesLead old.house done lines new.house
  pub sent : List ℕ
  pub split : lines ≡ sent ++ waiting
  pub written : Appends old.written.contents new.written.contents sent
  pub failures : new.written.failures ≡ old.written.failures

pub told_more : (done : List Line) (old mid : ScriptState) (waiting : List ℕ) (l : Line) (house : HouseState) (more : List ℕ)
    → IsToldSoFar done old mid waiting → IsToldLine l mid.house house waiting more
    → IsToldSoFar (done ++ l ∷ []) old (record { house = house; written = mid.written }) more
told_more done old mid waiting l house more told (text, leads, added) = record {
  lines = told.lines ++ (text ++ 10 ∷ []);
  leads = leads_more old.house done told.lines mid.house l house text told.leads leads;
  sent = told.sent;
  split = ap (λ ls. ls ++ (text ++ 10 ∷ [])) told.split ∙ append_assoc told.sent waiting (text ++ 10 ∷ []) ∙ ap (λ ls. told.sent ++ ls) (sym added);
  written = told.written;
  failures = told.failures;
}

-- all bytes were written, and nothing failed
abbrev pub HasWritten : List ℕ → Written → Written → Type 0
HasWritten bytes old new = Appends old.contents new.contents bytes × (new.failures ≡ old.failures)

-- what waited was written
pub told_sent : (done : List Line) (old mid : ScriptState) (waiting : List ℕ) (written : Written) (none : List ℕ)
    → IsToldSoFar done old mid waiting → HasWritten waiting mid.written written → none ≡ []
    → IsToldSoFar done old (record { house = mid.house; written = written }) none
told_sent done old mid waiting written none told appended empty = record {
  lines = told.lines;
  leads = told.leads;
  sent = told.sent ++ waiting;
  split = told.split ∙ sym (append-nil (told.sent ++ waiting)) ∙ ap (λ ls. (told.sent ++ waiting) ++ ls) (sym empty);
  written = Appends-trans old.written.contents mid.written.contents written.contents told.sent waiting told.written appended.0;
  failures = appended.1 ∙ told.failures;
}

pub told_all : (asked : List Line) (old mid : ScriptState) (waiting : List ℕ) (written : Written)
    → IsToldSoFar asked old mid waiting → HasWritten waiting mid.written written
    → DoesAll asked old (record { house = mid.house; written = written })
told_all asked old mid waiting written told appended = record {
  lines = told.lines;
  leads = told.leads;
  written = subst (Appends old.written.contents written.contents) (sym told.split) (Appends-trans old.written.contents mid.written.contents written.contents told.sent waiting told.written appended.0);
  failures = appended.1 ∙ told.failures;
}

-- of what waited a beginning was written
pub told_part : (asked done later : List Line) (old mid : ScriptState) (waiting front : List ℕ) (written : Written)
    → asked ≡ done ++ later → IsToldSoFar done old mid waiting → Begins front waiting → Appends mid.written.contents written.contents front
    → CarriesOutPart asked old (record { house = mid.house; written = written })
told_part asked done later old mid waiting front written split told begins appended = record {
  done = done;
  later = later;
  split = split;
  lines = told.lines;
  leads = told.leads;
  front = told.sent ++ front;
  begins = (begins.0, told.split ∙ ap (λ ls. told.sent ++ ls) begins.1 ∙ sym (append_assoc told.sent front begins.0));
  written = Appends-trans old.written.contents mid.written.contents written.contents told.sent front told.written appended;
}

-- each answer that an event can have has a text
pub a_text : (e : Event) (r : StepResult) → CanAnswer e r → (text : List ℕ) × IsText e r text
a_text (On c event.Open) Done can = (codes "open", refl)
a_text (On c event.Open) Refused can = (codes "refused", refl)
a_text (On c event.Open) NoMemory can = (codes "memory", refl)
a_text (On c event.Open) _ can = absurd can
a_text (On c (event.Piece bytes)) Done can = (codes "taken", refl)
a_text (On c (event.Piece bytes)) Refused can = (codes "refused", refl)
a_text (On c (event.Piece bytes)) NoMemory can = (codes "memory", refl)
a_text (On c (event.Piece bytes)) _ can = absurd can
a_text (On c event.Serve) (Answered reply) can = (codes "reply " ++ text_of (encoding reply), refl)
a_text (On c event.Serve) More can = (codes "more", refl)
a_text (On c event.Serve) Blank can = (codes "blank", refl)
a_text (On c event.Serve) Refused can = (codes "refused", refl)
a_text (On c event.Serve) NoMemory can = (codes "memory", refl)
a_text (On c event.Serve) _ can = absurd can
a_text (On c event.Close) Done can = (codes "closed", refl)
a_text (On c event.Close) Refused can = (codes "refused", refl)
a_text (On c event.Close) _ can = absurd can
a_text (By (event.Plan f)) Job can = (codes "job", refl)
a_text (By (event.Plan f)) NoJob can = (codes "none", refl)
a_text (By (event.Plan f)) Refused can = (codes "refused", refl)
a_text (By (event.Plan f)) NoMemory can = (codes "memory", refl)
a_text (By (event.Plan f)) _ can = absurd can
a_text (By (event.Merge f)) Done can = (codes "merged", refl)
a_text (By (event.Merge f)) Refused can = (codes "refused", refl)
a_text (By (event.Merge f)) NoMemory can = (codes "memory", refl)
a_text (By (event.Merge f)) _ can = absurd can
a_text (By (event.Install f)) Installed can = (codes "done", refl)
a_text (By (event.Install f)) Stale can = (codes "stale", refl)
a_text (By (event.Install f)) Refused can = (codes "refused", refl)
a_text (By (event.Install f)) NoMemory can = (codes "memory", refl)
a_text (By (event.Install f)) _ can = absurd can
a_text (By (event.Resize n)) r (inl (few, inl done)) = subst (λ s. (text : List ℕ) × IsText (By (event.Resize n)) s text) (sym done) (codes "resized", refl)
a_text (By (event.Resize n)) r (inl (few, inr void)) = subst (λ s. (text : List ℕ) × IsText (By (event.Resize n)) s text) (sym void) (codes "memory", refl)
a_text (By (event.Resize n)) r (inr refused) = subst (λ s. (text : List ℕ) × IsText (By (event.Resize n)) s text) (sym refused.1) (codes "refused", refl)
a_text (SetQuota tenant quota) Done can = (codes "set", refl)
a_text (SetQuota tenant quota) Refused can = (codes "refused", refl)
a_text (SetQuota tenant quota) _ can = absurd can

-- what tells the last line was not kept
pub told_refused : (asked done later : List Line) (old mid : ScriptState) (waiting front : List ℕ) (l : Line) (house : HouseState) (written : Written)
    → asked ≡ (done ++ l ∷ []) ++ later → IsToldSoFar done old mid waiting → IsLineDone l mid.house house
    → Begins front waiting → Appends mid.written.contents written.contents front
    → CarriesOutPart asked old (record { house = house; written = written })
told_refused asked done later old mid waiting front l house written split told (text, leads) begins appended =
    let more = told_more done old mid waiting l house (waiting ++ (text ++ 10 ∷ [])) told (text, leads, refl) in
    told_part asked (done ++ l ∷ []) later old (record { house = house; written = mid.written }) (waiting ++ (text ++ 10 ∷ [])) front written split more
    (begins.0 ++ (text ++ 10 ∷ []), ap (λ ls. ls ++ (text ++ 10 ∷ [])) begins.1 ∙ append_assoc front begins.0 (text ++ 10 ∷ []))
    appended

-- ---- writes

pub all_begins : (bytes : List ℕ) → Begins bytes bytes
all_begins bytes = ([], sym (append-nil bytes))

pub some_written : {E : Type 0} (bytes : List ℕ) (old new : Written) (r : Result (Unit {0}) E) → WritesAll r bytes old new → (front : List ℕ) × Begins front bytes × Appends old.contents new.contents front
some_written bytes old new (Ok done) h = (bytes, all_begins bytes, h.0)
some_written bytes old new (Err error) h = (h.front, h.begins, h.appends)

-- ---- failures

ends_of_kind : (k : ErrorKind) (error : Error) (old new : ℕ) → HasFailed old new → EndsTelling (failure_of_kind k endpoint.Output error) old new
ends_of_kind kind.OutOfMemory error old new failed = inr failed
ends_of_kind _ error old new failed = failed

-- a failure of the output ends the telling, where one was counted
pub ends_at_output : (f : Failure) (old new : ℕ) → IsOfOutput f → HasFailed old new → EndsTelling f old new
ends_at_output (failure.InputOutput endpoint.Output error) old new is failed = failed
ends_at_output failure.Memory old new is failed = inr failed
ends_at_output _ old new is failed = absurd is

-- an ending is handed on
pub ended : (asked : List Line) (old new : ScriptState) (r : Result (Unit {0}) Failure) (f : Failure) → IsErrAnd r (λ e. e ≡ f) → EndsTelling f old.written.failures new.written.failures → CarriesOutPart asked old new → IsCarriedOut asked old new r
ended asked old new (Ok done) f is ends part = absurd is
ended asked old new (Err e) f is ends part = (subst (λ k. EndsTelling k old.written.failures new.written.failures) (sym is) ends, part)

-- what a write that failed is told as
pub failed_write : (r : Result (Unit {0}) Error) (f : Failure) (bytes : List ℕ) (old new : Written) (is : MatchResult r (λ u. ◌≡◌ {A = Result (Unit {0}) Failure} (Err f) (Ok u)) (λ error. ◌≡◌ {A = Result (Unit {0}) Failure} (Err f) (Err (failure_at endpoint.Output error)))) → WritesAll r bytes old new → EndsTelling f old.failures new.failures
failed_write (Ok done) f bytes old new is w = cc is
failed_write (Err error) f bytes old new is w =
    let same : f ≡ failure_at endpoint.Output error = cc is in
    subst (λ k. EndsTelling k old.failures new.failures) (sym same) (ends_of_kind (error_kind error) error old.failures new.failures w.failures)

-- .. since the telling began, where nothing had failed until then
pub since : (f : Failure) (old mid new : ℕ) → mid ≡ old → EndsTelling f mid new → EndsTelling f old new
since f old mid new same ends = subst (λ n. EndsTelling f n new) same ends

pub on_ok : {T E P : Type 0} (r : Result T E) → is_err r ≡ false → OnOk r P → P
on_ok (Ok x) ok h = h
on_ok (Err e) ok h = cc ok

pub on_err : {T E P : Type 0} (r : Result T E) → is_err r ≡ true → OnErr r P → P
on_err (Ok x) bad h = cc bad
on_err (Err e) bad h = h

-- the lines up to a place, this one, and those after it
pub line_at : {A : Type 0} (lines : List (script_line.ScriptLine A)) (i : ℕ) (l : script_line.ScriptLine A) → i < length lines → l ≡ get_or lines i l → map line_of (take (i + 1) lines) ≡ map line_of (take i lines) ++ line_of l ∷ []
line_at lines i l lt is = ap (map line_of) (take_more lines i l lt ∙ ap (λ x. take i lines ++ x ∷ []) (sym is)) ∙ map-append line_of (take i lines) (l ∷ [])

pub lines_split : {A : Type 0} (lines : List (script_line.ScriptLine A)) (i : ℕ) → map line_of lines ≡ map line_of (take i lines) ++ map line_of (drop i lines)
lines_split lines i = ap (map line_of) (sym (take-append-drop i lines)) ∙ map-append line_of (take i lines) (drop i lines)

-- ---- as the code carries lines out

pub line_told : {A : Type 0} (lines : List (script_line.ScriptLine A)) (i : ℕ) (l : script_line.ScriptLine A) (old mid : ScriptState) (house : HouseState) (kept more : List ℕ)
    → i < length lines → l ≡ get_or lines i l → IsToldSoFar (map line_of (take i lines)) old mid kept
    → IsToldLine (line_of l) mid.house house kept more
    → IsToldSoFar (map line_of (take (i + 1) lines)) old (record { house = house; written = mid.written }) more
line_told lines i l old mid house kept more lt is told tells =
    subst (λ done. IsToldSoFar done old (record { house = house; written = mid.written }) more) (sym (line_at lines i l lt is))
    (told_more (map line_of (take i lines)) old mid kept (line_of l) house more told tells)

pub part_told : {A : Type 0} (lines : List (script_line.ScriptLine A)) (i : ℕ) (old mid : ScriptState) (kept : List ℕ) (written : Written) (bytes : List ℕ) (r : Result (Unit {0}) Error)
    → IsToldSoFar (map line_of (take i lines)) old mid kept → bytes ≡ kept → WritesAll r bytes mid.written written
    → CarriesOutPart (map line_of lines) old (record { house = mid.house; written = written })
part_told lines i old mid kept written bytes r told same h =
    let some = some_written bytes mid.written written r h in
    told_part (map line_of lines) (map line_of (take i lines)) (map line_of (drop i lines)) old mid kept some.0 written (lines_split lines i) told
    (subst (Begins some.0) same some.1) some.2

pub refused_part : {A : Type 0} (lines : List (script_line.ScriptLine A)) (i : ℕ) (l : script_line.ScriptLine A) (old mid : ScriptState) (house : HouseState) (kept bytes front : List ℕ) (written : Written)
    → i < length lines → l ≡ get_or lines i l → IsToldSoFar (map line_of (take i lines)) old mid kept
    → IsLineDone (line_of l) mid.house house → bytes ≡ kept → Begins front bytes → Appends mid.written.contents written.contents front
    → CarriesOutPart (map line_of lines) old (record { house = house; written = written })
refused_part lines i l old mid house kept bytes front written lt is told done same begins appended =
    told_refused (map line_of lines) (map line_of (take i lines)) (map line_of (drop (i + 1) lines)) old mid kept front (line_of l) house written
    (lines_split lines (i + 1) ∙ ap (λ d. d ++ map line_of (drop (i + 1) lines)) (line_at lines i l lt is))
    told done (subst (Begins front) same begins) appended

pub finished_all : {A : Type 0} (lines : List (script_line.ScriptLine A)) (i : ℕ) (old mid : ScriptState) (kept bytes : List ℕ) (written : Written) (r : Result (Unit {0}) Failure)
    → length lines ≤ i → IsToldSoFar (map line_of (take i lines)) old mid kept → bytes ≡ kept → WritesAll r bytes mid.written written → IfErr r IsOfOutput
    → IsCarriedOut (map line_of lines) old (record { house = mid.house; written = written }) r
finished_all lines i old mid kept bytes written (Ok done) all told same h ends =
    told_all (map line_of lines) old mid kept written (subst (λ ls. IsToldSoFar (map line_of ls) old mid kept) (take_all i lines all) told) (subst (λ ls. HasWritten ls mid.written written) same h)
finished_all lines i old mid kept bytes written (Err f) all told same h ends =
    (since f _ _ _ told.failures (ends_at_output f mid.written.failures written.failures ends h.failures), told_part (map line_of lines) (map line_of (take i lines)) (map line_of (drop i lines)) old mid kept h.front written (lines_split lines i) told (subst (Begins h.front) same h.begins) h.appends)

-- ---- one line, as the code carries it out

pub ok_so : {T E P Q : Type 0} (r : Result T E) → (P → Q) → OnOk r P → OnOk r Q
ok_so (Ok x) so h = so h
ok_so (Err e) so h = h

pub err_so : {T E P : Type 0} (r : Result T E) → P → OnErr r P
err_so (Ok x) p = tt
err_so (Err e) p = p

-- ---- as the code writes

pub checked_ok : (r : Result (Unit {0}) Error) (u : Unit {0}) (bytes : List ℕ) (old new : Written)
    → MatchResult r (λ v. ◌≡◌ {A = Result (Unit {0}) Failure} (Ok u) (Ok v)) (λ error. ◌≡◌ {A = Result (Unit {0}) Failure} (Ok u) (Err (failure_at endpoint.Output error)))
    → WritesAll r bytes old new → HasWritten bytes old new
checked_ok (Ok done) u bytes old new is h = h
checked_ok (Err error) u bytes old new is h = cc is

-- what was written was flushed
pub flushed : (bytes : List ℕ) (old mid new : Written) (flush : Result (Unit {0}) Error) (r : Result (Unit {0}) Failure) → HasWritten bytes old mid → Keeps mid.contents new.contents → CountsFailure flush mid.failures new.failures
    → MatchResult flush (λ v. ◌≡◌ {A = Result (Unit {0}) Failure} r (Ok v)) (λ error. ◌≡◌ {A = Result (Unit {0}) Failure} r (Err (failure_at endpoint.Output error)))
    → WritesAll r bytes old new
flushed bytes old mid new (Ok done) r wrote kept same is =
    subst (λ q. WritesAll q bytes old new) (sym is) (Appends-kept old.contents mid.contents new.contents bytes wrote.0 kept, same ∙ wrote.1)
flushed bytes old mid new (Err error) r wrote kept failed is =
    let part : WritesAll {E = Failure} (Err (failure_at endpoint.Output error)) bytes old new = record {
      front = bytes;
      begins = all_begins bytes;
      appends = Appends-kept old.contents mid.contents new.contents bytes wrote.0 kept;
      failures = subst (λ n. HasFailed n new.failures) wrote.1 failed;
    } in
    subst (λ q. WritesAll q bytes old new) (sym is) part

-- what holds of a value that another error was put in the place of
pub ok_holds : {T E : Type 0} (F : Type 0) (P : T → Type 0) (r : Result T E) (t : T) → MatchResult r (λ x. ◌≡◌ {A = Result T F} (Ok t) (Ok x)) (λ e. ⊥) → IfOk r P → P t
ok_holds F P (Ok x) t is h = let same : x ≡ t = cc is in subst P same h
ok_holds F P (Err e) t is h = absurd is
