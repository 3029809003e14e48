-- What a key has at a number, by the operations on it: the reading rule of the buffered tree
-- (Bender and others 2015).
use Rattle.std.specs.Prelude.{◌≡◌, ℕ, zero, suc, ◌<◌, ◌≤◌, List, [], ◌++◌, Option, Some, None}
use Rattle.stow_tree_model.specs.Op.{Op, Put, Gone, Append}

-- a value, with the number of the message that made it
pub record NumberedValue : Type 0 where
  pub number : ℕ
  pub value : List ℕ

-- the operation on one key at each number
abbrev pub Operations : Type 0
Operations = ℕ → Option Op

abbrev pub value_in : Option NumberedValue → Option (List ℕ)
value_in None = None
value_in (Some v) = Some v.value

abbrev pub numbered : ℕ → Option (List ℕ) → Option NumberedValue
numbered number None = None
numbered number (Some value) = Some (record { number = number; value = value })

-- the bytes of a value, a missing one counting as empty
abbrev pub bytes_or_none : Option (List ℕ) → List ℕ
bytes_or_none None = []
bytes_or_none (Some value) = value

-- what an operation makes of a value
abbrev pub outcome : Op → Option (List ℕ) → Option (List ℕ)
outcome (Put value) before = Some value
outcome Gone before = None
outcome (Append suffix) before = Some (bytes_or_none before ++ suffix)

-- what the key has after the operation at a number, if there is one
abbrev pub applied : ℕ → Option Op → Option NumberedValue → Option NumberedValue
applied n None before = before
applied n (Some op) before = numbered n (outcome op (value_in before))

-- what the key has at a number: the operations up to it, in rising order, applied to nothing
unfoldable pub latest : Operations → ℕ → Option NumberedValue
latest ops zero = applied zero (ops zero) None
latest ops (suc n) = applied (suc n) (ops (suc n)) (latest ops n)

-- of two operations at a number the first that is there
abbrev pub or_else : Option Op → Option Op → Option Op
or_else None op = op
or_else (Some op) _ = Some op

-- newer operations over older ones
abbrev pub over : Operations → Operations → Operations
over newer older n = or_else (newer n) (older n)

abbrev pub NoneAbove : ℕ → Operations → Type 0
NoneAbove bound ops = (n : ℕ) → bound < n → ops n ≡ None

abbrev pub NoneUpTo : ℕ → Operations → Type 0
NoneUpTo bound ops = (n : ℕ) → n ≤ bound → ops n ≡ None

-- ---- the law

-- what a key has at a number depends on its own operations up to the number
abbrev pub OwnOperationsOnly : Type 0
OwnOperationsOnly = (f g : Operations) (n : ℕ) → ((k : ℕ) → k ≤ n → f k ≡ g k)
    → latest f n ≡ latest g n
