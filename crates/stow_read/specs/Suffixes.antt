-- What appends add to a value below them.
use Rattle.std.specs.Prelude.{◌≡◌, ℕ, ◌<◌, List, [], ◌∷◌, ◌++◌, map, Option, Some, IsSome}
use Rattle.std.specs.Borrow.{Bor}
use Rattle.std.specs.Option.{option_map}
use Rattle.stow_tree_model.specs.Operations.{NumberedValue, Operations, latest, over, numbered, value_in, bytes_or_none}
use Rattle.stow_read.specs.Found.{lent_of}
use Rattle.stow_read.specs.declared.suffixes.Suffixes as coded
use Rattle.stow_read.specs.declared.suffixes.Look.{Look}
use Rattle.stow_read.specs.declared.suffixes.Look.TheVariants as in_look

-- the newest append's number, and the suffixes, the newest first
abbrev pub SuffixList : Type 0
SuffixList = ℕ × List (List ℕ)

-- the bytes that are lent
abbrev pub bytes_lent : List (Bor (List ℕ)) → List (List ℕ)
bytes_lent lent = map (λ bytes. bytes.now) lent

-- what the code's type stands for
abbrev pub suffixes_of : {A : Type 0} → coded.Suffixes A → SuffixList
suffixes_of s = (s.number, bytes_lent s.suffixes.items)

-- an older append's suffix behind them
abbrev pub with_suffix : ℕ → List ℕ → SuffixList → SuffixList
with_suffix number suffix (_, []) = (number, suffix ∷ [])
with_suffix number suffix (newest, s ∷ older) = (newest, (s ∷ older) ++ suffix ∷ [])

-- a value and then the suffixes, the newest last; a missing value counts as empty
abbrev pub extended : Option (List ℕ) → List (List ℕ) → Option (List ℕ)
extended base [] = base
extended base (s ∷ older) = Some (bytes_or_none (extended base older) ++ s)

-- what a key has, given what it has below its suffixes
abbrev pub continued : SuffixList → Option NumberedValue → Option NumberedValue
continued (_, []) below = below
continued (newest, s ∷ older) below = numbered newest (extended (value_in below) (s ∷ older))

-- each operation is newer than those of the rest
abbrev pub IsAbove : Operations → Operations → Type 0
IsAbove newer older = (n k : ℕ) → IsSome (newer n) → IsSome (older k) → k < n

-- what a key has after a look, given what it has by the rest
abbrev pub looked : Look → SuffixList → Option NumberedValue → Option NumberedValue
looked in_look.Deeper suffixes below = continued suffixes below
looked (in_look.Base base) suffixes below = continued suffixes (option_map lent_of base)

-- whatever is older than the operations, the suffixes and the base stand for them
abbrev pub Carries : Operations → ℕ → SuffixList → SuffixList → Look → Type 0
Carries ops at old new look = (older : Operations) → IsAbove ops older
    → continued old (latest (over ops older) at) ≡ looked look new (latest older at)
