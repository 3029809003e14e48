-- Keys from the lower end of an interval on.
use Rattle.std.proofs.Common.{◌≡◌, ℕ, zero, suc, ◌≤◌, Bool, true, false, List, [], ◌∷◌, length, drop, refl, ap, ◌∙◌, sym, arith}
use Rattle.std.specs.Prelude.{not}
use Rattle.stow_node.proofs.StowLeaf.Intervals.{lt, lt_not, lt_le, le_le}
use Rattle.stow_read.specs.NextKey.{is_from}

-- ---- the lower end

pub apart : {X : Type 0} {b : Bool} → b ≡ true → b ≡ false → X
apart e f = absurd (let z : true ≡ false = sym e ∙ f in cc)

pub not_is : (b : Bool) → not b ≡ true → b ≡ false
not_is true e = absurd (let z : false ≡ true = e in cc)
not_is false e = refl

-- a key from the start on is not below it
pub not_under : (start : List ℕ) (after : Bool) (key : List ℕ) → is_from start after key ≡ true → lt key start ≡ false
not_under start true key f = lt_not start key f
not_under start false key f = not_is (lt key start) f

-- a key that is not below one from the start on is from it on
pub from_above : (start : List ℕ) (after : Bool) (key other : List ℕ) → is_from start after key ≡ true → lt other key ≡ false → is_from start after other ≡ true
from_above start true key other f l = lt_le start key other f l
from_above start false key other f l = ap not (le_le start key other (not_is (lt key start) f) l)

pub drop_past : {X : Type 0} (xs : List X) (i : ℕ) → length xs ≤ i → drop i xs ≡ []
drop_past [] zero h = refl
drop_past [] (suc i) h = refl
drop_past (x ∷ xs) zero h = absurd (omega arith)
drop_past (x ∷ xs) (suc i) h = drop_past xs i (omega arith)
