-- A lock that is opened for a new service.
use Rattle.std.proofs.Common.{◌≡◌, ◌+◌, ℕ, List, Result, Ok, Err, ap, sym, subst, ◌∙◌, arith}
use Rattle.std.specs.Prelude.{IfOk, MatchResult, min}
use Rattle.stow_tasks.specs.StowCore.State.{CoreState, IsNewCore}
use Rattle.stow_tasks.specs.StowModel.Login.{Entry}
use Rattle.stow_run.specs.declared.serving.Serving.{Serving}
use Rattle.stow_tasks.specs.StowShared.Opened.{Opens, SharedState}
use Rattle.stow_tasks.specs.StowShared.Seats.{SeatState}
use Rattle.stow_command_line.specs.StowTree.TreeState.{new_tree}
use Rattle.stow_command_line.specs.StowTree.declared.tree_shape.TreeShape.{TreeShape}
use Rattle.stow_program.specs.Services.{IsOpened}

-- what holds of a value that another error was put in the place of
pub ok_holds : {T E : Type 0} (F : Type 0) (P : T → Type 0) (r : Result T E) (t : T) → MatchResult r (λ x. ◌≡◌ {A = Result T F} (Ok t) (Ok x)) (λ e. ⊥) → IfOk r P → P t
ok_holds F P (Ok x) t is h = let same : t ≡ x = cc is in subst P (sym same) h
ok_holds F P (Err e) t is h = absurd is

-- a lock that was opened over a new core with as many seats as that
pub opened_so : (entries : List Entry) (shape : TreeShape) (serving : Serving) (core : CoreState) (count : ℕ) (shared : SharedState) (seats : List SeatState)
    → IsNewCore core → core.entries ≡ entries → core.tree ≡ new_tree shape → count ≡ min (serving.workers + serving.flushers) 4294967295 → Opens core count shared seats → IsOpened entries shape serving shared seats
opened_so entries shape serving core count shared seats empty who tree counted opens =
    let same : shared.opened ≡ core = ap (λ (s : SharedState). s.opened) opens.shares in
    let all : count ≡ serving.workers + serving.flushers = omega (arith, counted, opens.counted.1) in
    record {
      empty = subst IsNewCore (sym same) empty;
      tenants = ap (λ (c : CoreState). c.entries) same ∙ who;
      tree = ap (λ (c : CoreState). c.tree) same ∙ tree;
      opens = subst (λ n. Opens shared.opened n shared seats) all (subst (λ c. Opens c count shared seats) (sym same) opens);
    }
