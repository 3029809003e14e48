-- How many groups hold so many things, and what the last one gets.
use Rattle.std.specs.Prelude.{ℕ, ◌+◌, ◌-◌, ◌*◌, ◌/◌, ◌<◌, ◌≤◌}

-- how many groups of at most so many hold this count, at least
abbrev pub groups : ℕ → ℕ → ℕ
groups most count = (count - 1) / most + 1

-- of what some groups hold the last one gets so many, and the others can share out the rest
pub record IsLast (most count groups share : ℕ) : Type 0 where
  pub some : 1 ≤ share
  pub few : share ≤ most
  pub less : share < count
  pub rest_some : groups - 1 ≤ count - share
  pub rest_hold : count - share ≤ (groups - 1) * most
