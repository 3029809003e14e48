use Rattle.std.proofs.Common.{◌≡◌, ℕ, ◌-◌, ◌^◌, List, ◌++◌, vec_len}
use Rattle.std.specs.Io.KnownBytes.{Consumes}
use Rattle.stow_tasks.proofs.script.read_all.Given as goal

-- so much was read, and no read has failed
abbrev pub invariant-loop-count : goal.invariant-loop-count
invariant-loop-count g l = (read : List ℕ) × Consumes (g.R.Source.remaining l.initial.input) (g.R.Source.remaining l.input) read × (l.text.items ≡ l.initial.text.items ++ read)
    × (g.R.Source.failures l.input ≡ g.R.Source.failures l.initial.input) × (g.R.Source.borrow l.input ≡ g.R.Source.borrow l.initial.input)

abbrev pub decreases-loop-count : goal.decreases-loop-count
decreases-loop-count g l = 2 ^ 64 - vec_len l.text
