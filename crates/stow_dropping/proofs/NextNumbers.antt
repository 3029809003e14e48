-- A key's next message, and its next number in the history of a tenant's rows.
use Rattle.std.proofs.Common.{◌≡◌, ℕ, zero, suc, ◌<◌, ◌≤◌, List, Option, Some, None, ap, ◌∙◌, sym, arith, ⊎_elim}
use Rattle.std.specs.Prelude.{IsSome}
use Rattle.std.specs.Option.{unwrap_or}
use Rattle.std.specs.FinMap as finite
use Rattle.std.proofs.lemmas.Bool.{cases_lt}
use Rattle.stow_ledger.specs.StowModel.Store.{Version}
use Rattle.stow_tree_model.specs.Keys.{packed}
use Rattle.stow_tree_model.specs.Op.{Op}
use Rattle.stow_tree_model.specs.Operations.{NumberedValue, Operations, numbered, outcome, value_in, applied, latest, NoneAbove}
use Rattle.stow_tree_model.specs.Messages.{Messages, ops_of}
use Rattle.stow_tree_model.proofs.Latest.{latest_stays}
use Rattle.stow_ledger.specs.StowState.Rows.{rows_at, version_of}
use Rattle.stow_ledger.proofs.StowState.Rows.{rows_by_value_law}
use Rattle.stow_ledger.specs.Histories.{IsNextNumber}
use Rattle.stow_ledger.proofs.TreeHistory.{rows_are_history_law}
use Rattle.stow_tree.specs.StowRead.Walk.{IsNumberAfter}

no_some : {X : Type 0} {x : X} → ◌≡◌ {A = Option X} None (Some x) → ⊥
no_some e = cc

none_there : (o : Option Op) → o ≡ None → IsSome o → ⊥
none_there None e s = cc
none_there (Some op) e s = cc

-- what an operation makes has its number
made_by : (n : ℕ) (o : Option (List ℕ)) (v : Version) → version_of (numbered n o) ≡ Some v → v.number ≡ n
made_by n None v e = absurd (no_some e)
made_by n (Some x) v e = sym (ap (λ (p : Option Version). (unwrap_or p v).number) e)

applied_at : (n : ℕ) (o : Option Op) (before : Option NumberedValue) (v : Version) → IsSome o → version_of (applied n o before) ≡ Some v → v.number ≡ n
applied_at n None before v s e = absurd cc
applied_at n (Some op) before v s e = made_by n (outcome op (value_in before)) v e

made_at : (ops : Operations) (n : ℕ) (v : Version) → IsSome (ops n) → version_of (latest ops n) ≡ Some v → v.number ≡ n
unfolding latest
made_at ops zero v s e = applied_at zero (ops zero) None v s e
made_at ops (suc n) v s e = applied_at (suc n) (ops (suc n)) (latest ops n) v s e

-- between two numbers without an operation the row stays
row_stays : (m : Messages) (t b n : ℕ) (key : List ℕ) → b ≤ n → ((k : ℕ) → b < k → k ≤ n → ops_of m (packed t key) k ≡ None) → finite.get (rows_at m t n) key ≡ finite.get (rows_at m t b) key
row_stays m t b n key l none = rows_by_value_law m t n key ∙ ap version_of (latest_stays (ops_of m (packed t key)) b n l none) ∙ sym (rows_by_value_law m t b key)

pub next_number : (m : Messages) (t at last : ℕ) (key : List ℕ) (version : Version) (next : Option ℕ) → at ≤ last → NoneAbove last (ops_of m (packed t key)) → finite.get (rows_at m t at) key ≡ Some version → version.number ≤ at
    → IsNumberAfter (ops_of m (packed t key)) at next → IsNextNumber (rows_at m t) last key version next
next_number m t at last key version None l above has made none = row_stays m t at last key l (λ k a b. none k a) ∙ has
next_number m t at last key version (Some next) l above has made least = (within, λ n low high. (until n low, since n low)) where
  within : next ≤ last
  within = ⊎_elim
      (λ (h : last < next). absurd (none_there (ops_of m (packed t key) next) (above next h) least.there))
      (λ (h : next ≤ last). h)
      (cases_lt last next)

  until : (n : ℕ) → version.number ≤ n → finite.get (rows_at m t n) key ≡ Some version → n < next
  until n low e = ⊎_elim
      (λ (h : n < next). h)
      (λ (h : next ≤ n).
      let after = least.above in
      let there : finite.get (rows_at m t next) key ≡ Some version = (rows_are_history_law m t).stands_since next n key version e (omega (arith, made, after)) h in
      let at_next = made_at (ops_of m (packed t key)) next version least.there (sym (rows_by_value_law m t next key) ∙ there) in
      absurd (omega (arith, made, after, at_next)))
      (cases_lt n next)

  since : (n : ℕ) → version.number ≤ n → n < next → finite.get (rows_at m t n) key ≡ Some version
  since n low h = ⊎_elim
      (λ (before : n < at). (rows_are_history_law m t).stands_since n at key version has low (omega (arith, before)))
      (λ (from : at ≤ n). row_stays m t at n key from (λ k a b. least.none k a (omega (arith, b, h))) ∙ has)
      (cases_lt n at)
