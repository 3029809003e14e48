-- Numbers of a script, by their texts.
use Rattle.std.proofs.Common.{◌≡◌, ◌<◌, ◌≤◌, ◌^◌, ℕ, List, Some, None, ◌∙◌, sym, arith}
use Rattle.std.proofs.lemmas.Fmt.{decimal_injective}
use Rattle.std.proofs.lemmas.Str.Parse.{IsNumeralModel, numerals_by_value, tells_by_index}
use Rattle.std.specs.Str.Parse.{digits_value}
use Rattle.stow_commands.specs.Numbers.{IsMagnitude}
use Rattle.stow_commands.proofs.Numbers.{AreDigits}
use Rattle.stow_script.specs.Script.{IsNumberText}
use Rattle.stow_script.specs.Read.{IsNoNumberText}

pub own : IsNumeralModel AreDigits (digits_value 10)
own = numerals_by_value AreDigits tells_by_index

pub is_number : (text : List ℕ) (low high value : ℕ) → IsMagnitude text (Some value) → low ≤ value → value ≤ high → IsNumberText low high text value
is_number text low high value is from to = (from, to, sym is.1)

pub no_number : (text : List ℕ) (low high : ℕ) → high < 10 ^ 19 → IsMagnitude text None → IsNoNumberText low high text
no_number text low high small none n is = let few : n ≤ high = is.1 in none n (omega arith) (sym is.2)

pub out_of_limits : (text : List ℕ) (low high value : ℕ) → high < 10 ^ 19 → IsMagnitude text (Some value) → (low ≤ value → value ≤ high → ⊥) → IsNoNumberText low high text
out_of_limits text low high value small is out n other =
    let few : value < 10 ^ 19 = is.0 in
    let from : low ≤ n = other.0 in
    let to : n ≤ high = other.1 in
    let same : n ≡ value = decimal_injective n value (omega arith) (omega arith) (sym other.2 ∙ sym is.1) in
    out (omega arith) (omega arith)
