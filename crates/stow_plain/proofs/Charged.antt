-- What versions cost, each once, list by list.
use Rattle.std.specs.Option.{SomeIff}
use Rattle.std.specs.Prelude.{Option}
use Rattle.std.proofs.Common.{◌≡◌, ◌<◌, ◌^◌, ℕ, ◌+◌, Bool, true, false, List, [], ◌∷◌, ◌++◌, ap, ◌∙◌, sym, subst, arith, cond, zero-add, eqb}
use Rattle.std.specs.Prelude.{filter, not, sum_by, ◌&&◌, ◌||◌, Some, None}
use Rattle.std.specs.Str.{bytes_eq}
use Rattle.std.specs.FinMap as map
use Rattle.std.proofs.lemmas.List.Folds.{list_any-append}
use Rattle.std.proofs.lemmas.List.Sums.{sum_by-cons}
use Rattle.stow_model.specs.Store.{Version, Rows, Shown, cost, is_same_version, distinct}
use Rattle.stow_ledger.specs.Shown.{is_in, cost_of_all}
use Rattle.stow_ledger.proofs.Costs.{Once}
use Rattle.stow_ledger.proofs.RowLemmas.{in_rows, is_row, once_rows}
use Rattle.stow_plain.specs.Contents.{cost_beside}

split : (es others : List Shown) → Once es → cost_of_all (es ++ others) ≡ sum_by cost (filter (λ shown. not (is_in shown others)) es) + cost_of_all others
split [] others once = sym (zero-add (cost_of_all others))
split (e ∷ es) others (n, once) =
    let later : List Shown = distinct (es ++ others) in
    let kept : List Shown = filter (λ shown. not (is_in shown others)) es in
    let same : is_in e (es ++ others) ≡ is_in e others = list_any-append (is_same_version e) es others ∙ ap (λ b. b || is_in e others) n in
    let rest : sum_by cost later ≡ sum_by cost kept + cost_of_all others = split es others once in
    ap (λ b. sum_by cost (cond b later (e ∷ later))) same
    ∙ elim (is_in e others) as (λ b. sum_by cost (cond b later (e ∷ later)) ≡ sum_by cost (cond (not b) (e ∷ kept) kept) + cost_of_all others) [
      | true ↦ rest
      | false ↦ sum_by-cons cost e later ∙ ap (λ n. cost e + n) rest ∙ moved (cost e) (sum_by cost kept) (cost_of_all others) ∙ ap (λ n. n + cost_of_all others) (sym (sum_by-cons cost e kept))
    ]
  where
    moved : (a b c : ℕ) → a + (b + c) ≡ (a + b) + c
    moved a b c = omega arith

-- rows first, but for what is shown after them
pub split_cost : (rows : Rows) (others : List Shown) → cost_of_all (map.entries rows ++ others) ≡ cost_beside rows others + cost_of_all others
split_cost rows others = split (map.entries rows) others (once_rows rows)

-- ---- whether rows have a version

pub has_none : (rows : Rows) (key : List ℕ) (version : Version) → map.get rows key ≡ None → false ≡ is_in (key, version) (map.entries rows)
has_none rows key version none = sym (in_rows rows (key, version) ∙ ap (λ o. is_row o version) none)

pub has_some : (rows : Rows) (key : List ℕ) (version own : Version) (same : Bool) → map.get rows key ≡ Some own → same ≡ bytes_eq version.value own.value → (eqb version.number own.number && same) ≡ is_in (key, version) (map.entries rows)
has_some rows key version own same found e =
    ap (λ b. eqb version.number own.number && b) e
    ∙ sym (in_rows rows (key, version) ∙ ap (λ o. is_row o version) found)

-- ---- sums so far

pub none_when : (r : Option ℕ) (P : Type 0) (v : ℕ) → r ≡ None → (P → ⊥) → SomeIff r P v
none_when r P v e never = subst (λ o. SomeIff o P v) (sym e) never

-- a part that doesn't fit makes the whole too much
pub too_much : (so_far part later whole : ℕ) {left : ℕ} → (so_far + part < 2 ^ 64 → ⊥) → left ≡ part + later → so_far + left ≡ whole → whole < 2 ^ 64 → ⊥
too_much so_far part later whole never e f l = never (omega arith)

pub next_total : (so_far part later whole total : ℕ) {left : ℕ} → so_far + part < 2 ^ 64 → total ≡ so_far + part → left ≡ part + later → so_far + left ≡ whole → record { fits : total < 2 ^ 64; costs : total + later ≡ whole }
next_total so_far part later whole total l t e f = record { fits = omega arith; costs = omega arith }
