-- Which keys may have been added to a filter.
use Rattle.std.specs.Prelude.{◌≡◌, ◌⊎◌, ℕ, zero, suc, ◌+◌, ◌-◌, ◌*◌, ◌/◌, ◌%◌, ◌^◌, ◌==◌, if◌then◌else◌, List, [], ◌∷◌, Bool, true, nat_lt, length, drop, slice_index_or}
use Rattle.std.specs.Int.{w64, from_be_bytes, IsPowerOfTwo}
use Rattle.std.specs.Int.Bits.{bit_and, bit_or}
use Rattle.std.specs.Int.RustNames.{bit_xor}
use Rattle.std.specs.List.{AllByRecursion}

-- the high half of a number, put over its low half
abbrev pub folded : ℕ → ℕ
folded n = bit_xor n (n / 2 ^ 32)

-- the hash with one more number in it: both, put over one another, times an odd number, folded
abbrev pub mixed : ℕ → ℕ → ℕ
mixed hash n = folded (bit_xor hash n * 11400714819323198485 % 2 ^ 64)

-- the hash with so many numbers of eight bytes each in it, the highest byte of each first
abbrev pub words_mixed : ℕ → ℕ → List ℕ → ℕ
words_mixed hash zero bs = hash
words_mixed hash (suc n) bs = words_mixed (mixed hash (from_be_bytes w64 bs)) n (drop 8 bs)

-- the number whose bytes these are after the number's, the highest first, of 64 bits
abbrev pub number_from : ℕ → List ℕ → ℕ
number_from n [] = n
number_from n (b ∷ bs) = number_from ((n * 256 % 2 ^ 64 + b) % 2 ^ 64) bs

-- the last eight bytes as a number, or all of fewer, the highest first
abbrev pub last_number : List ℕ → ℕ
last_number bs =
    if nat_lt (length bs) 8 then number_from 0 bs
    else from_be_bytes w64 (drop (length bs - 8) bs)

-- a number that bytes are told by, which others may have too: each eight of them are mixed in, and
-- then the last eight, some of them once more
abbrev pub hash : List ℕ → ℕ
hash bs = mixed (words_mixed 0 (length bs / 8) bs) (last_number bs)

-- two bits of a word, by the upper bits of a hash
abbrev pub marks_of : ℕ → ℕ
marks_of h = bit_or (2 ^ (h / 2 ^ 58)) (2 ^ (h / 2 ^ 52 % 64))

-- all of the marks are set in the word
abbrev pub is_marked : ℕ → ℕ → Bool
is_marked word marks = bit_and word marks == marks

-- the key's marks are set in its word, which the lower bits of its hash tell; where there are no
-- words each key may be there
abbrev pub may_have : List ℕ → List ℕ → Bool
may_have words key =
    is_marked (slice_index_or words (hash key % length words) (marks_of (hash key)))
    (marks_of (hash key))

-- what may be there before may be there after
abbrev pub KeepsMarks : List ℕ → List ℕ → Type 0
KeepsMarks old new = (key : List ℕ) → may_have old key ≡ true → may_have new key ≡ true

-- there are so many words, or none
abbrev pub IsWordCount : ℕ → Type 0
IsWordCount n = (n ≡ 0) ⊎ IsPowerOfTwo n

-- each of these has a key whose marks are set
abbrev pub CoversBy : {X : Type 0} → (X → List ℕ) → List ℕ → List X → Type 0
CoversBy key words xs = AllByRecursion (λ x. may_have words (key x) ≡ true) xs
