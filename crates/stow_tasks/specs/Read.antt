-- What a whole script's text is read as.
use Rattle.std.specs.Prelude.{ℕ, List, map, Result, Ok, Err}
use Rattle.std.specs.declared.vec.Vec.{Vec}
use Rattle.stow_model.specs.Login.{Entry}
use Rattle.stow_script.specs.declared.script_line.ScriptLine as script_line
use Rattle.stow_script.specs.Script.{AskFor, IsFirstBad, line_of, lines_of}
use Rattle.stow_run.specs.declared.failure.Failure.{Failure}
use Rattle.stow_run.specs.declared.failure.Failure.TheVariants as failure

-- what a script's lines ask for, of a service of these tenants, or the number of its first bad line
abbrev pub IsScriptRead : {A Z : Type 0} → List Entry → List ℕ
    → Result (Vec (script_line.ScriptLine A) Z) Failure → Type 0
IsScriptRead entries text (Ok asked) = AskFor entries (lines_of text) (map line_of asked.items)
IsScriptRead entries text (Err (failure.BadLine number stumble)) =
    IsFirstBad entries (lines_of text) number
IsScriptRead entries text (Err failure.Memory) = Unit {0}
IsScriptRead entries text (Err _) = ⊥
