use Rattle.std.proofs.Common.{◌≡◌, List, [], ◌∷◌, ◌++◌, map, refl, ap, sym, ◌∙◌, append-nil}
use Rattle.std.proofs.lemmas.List.{map-append}
use Rattle.stow_model.specs.Event.{event_of}
use Rattle.stow_model.specs.declared.event.Event as coded
use Rattle.stow_script.specs.Script.{Asks, Line, Shape, Usage, line_of}
use Rattle.stow_script.specs.declared.script_line.ScriptLine as script_line
use Rattle.stow_script.specs.declared.script_line.ScriptLine.TheVariants as in_line
use Rattle.stow_tasks.specs.Told.{events_in}
use Rattle.stow_tasks.proofs.usage.events_of.Goals as goal

-- the events of one line more
events_more : (asked : List Line) (l : Line) → events_in (asked ++ l ∷ []) ≡ events_in asked ++ events_in (l ∷ [])
events_more [] l = refl
events_more (Asks e ∷ asked) l = ap (λ es. e ∷ es) (events_more asked l)
events_more (Shape ∷ asked) l = events_more asked l
events_more (Usage tenant ∷ asked) l = events_more asked l

-- a line that is no event's has none
none : {A : Type 0} (l : script_line.ScriptLine A) → ((e : coded.Event A) → l ≡ in_line.Event e → ⊥) → events_in (line_of l ∷ []) ≡ []
none (in_line.Event e) n = absurd (n e refl)
none in_line.Shape n = refl
none (in_line.Usage tenant) n = refl

kept : {A : Type 0} (events : List (coded.Event A)) (lines : List (script_line.ScriptLine A)) (l : script_line.ScriptLine A) → map event_of events ≡ events_in (map line_of lines) → events_in (line_of l ∷ []) ≡ []
    → map event_of events ≡ events_in (map line_of (lines ++ l ∷ []))
kept events lines l so_far is_none =
    so_far ∙ sym (ap events_in (map-append line_of lines (l ∷ [])) ∙ events_more (map line_of lines) (line_of l)
    ∙ ap (λ es. events_in (map line_of lines) ++ es) is_none ∙ append-nil (events_in (map line_of lines)))

pushed : {A : Type 0} (events more : List (coded.Event A)) (lines : List (script_line.ScriptLine A)) (l : script_line.ScriptLine A) (e : coded.Event A) → more ≡ events ++ e ∷ [] → l ≡ in_line.Event e
    → map event_of events ≡ events_in (map line_of lines) → map event_of more ≡ events_in (map line_of (lines ++ l ∷ []))
pushed events more lines l e is_more is so_far =
    ap (map event_of) is_more ∙ map-append event_of events (e ∷ []) ∙ ap (λ es. es ++ event_of e ∷ []) so_far
    ∙ sym (ap (λ k. events_in (map line_of (lines ++ k ∷ []))) is ∙ ap events_in (map-append line_of lines (in_line.Event e ∷ []))
    ∙ events_more (map line_of lines) (Asks (event_of e)))

pub loop-line-preserved : goal.loop-line-preserved
loop-line-preserved g c = kept c.loop-line.events.items c.loop-line.yielded c.in-Some.line c.loop-line.invariant (none c.in-Some.line c.in_default.not-Event)

pub loop-line-preserved-in-Continue-1 : goal.loop-line-preserved-in-Continue-1
loop-line-preserved-in-Continue-1 g c =
    pushed c.loop-line.events.items c.push.new.self.items c.loop-line.yielded c.in-Some.line c.in-Event.event c.in_ok-push.ensures.items c.in-Event.is c.loop-line.invariant
