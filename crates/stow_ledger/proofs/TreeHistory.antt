-- What a key has by its operations stays until the next of them.
use Rattle.std.proofs.Common.{◌≡◌, ℕ, zero, suc, ◌<◌, ◌≤◌, List, Option, Some, None, refl, ap, ◌∙◌, sym, subst, arith, ⊎_elim}
use Rattle.std.specs.Prelude.{IfSome}
use Rattle.std.specs.Option.{unwrap_or}
use Rattle.std.specs.FinMap as finite
use Rattle.std.proofs.lemmas.Bool.{cases_lt}
use Rattle.stow_state.specs.StowModel.Store.{Version}
use Rattle.stow_state.specs.StowTreeModel.Keys.{packed}
use Rattle.stow_state.specs.StowTreeModel.Op.{Op}
use Rattle.stow_state.specs.StowTreeModel.Operations.{NumberedValue, Operations, numbered, outcome, value_in, applied, latest}
use Rattle.stow_state.specs.StowTreeModel.Messages.{ops_of, value}
use Rattle.stow_state.specs.Rows.{rows_at, version_of}
use Rattle.stow_state.proofs.Rows.{rows_by_value_law}
use Rattle.stow_state.proofs.Changes.{rows_are_below_law}
use Rattle.stow_ledger.specs.Histories.{RowsAreHistory}

none_some : {X : Type 0} {x : X} → ◌≡◌ {A = Option X} None (Some x) → ⊥
none_some e = cc

-- an operation's value has its number
numbered_at : (n : ℕ) (o : Option (List ℕ)) (v : NumberedValue) → numbered n o ≡ Some v → v.number ≡ n
numbered_at n None v e = absurd (none_some e)
numbered_at n (Some x) v e = sym (ap (λ (p : Option NumberedValue). (unwrap_or p v).number) e)

-- a value of an earlier number is what was there before
from_before : (n m : ℕ) (op : Option Op) (before : Option NumberedValue) (v : NumberedValue) → applied (suc n) op before ≡ Some v → v.number ≤ m → m ≤ n → before ≡ Some v
from_before n m None before v e low l = e
from_before n m (Some op) before v e low l = let at = numbered_at (suc n) (outcome op (value_in before)) v e in absurd (omega arith)

stands : (ops : Operations) (m n : ℕ) (v : NumberedValue) → latest ops n ≡ Some v → v.number ≤ m → m ≤ n → latest ops m ≡ Some v
unfolding latest
stands ops m zero v e low l = let first : zero ≡ m = omega arith in subst (λ k. latest ops k ≡ Some v) first e
stands ops m (suc n) v e low l = ⊎_elim
    (λ (inner : m < suc n). stands ops m n v (from_before n m (ops (suc n)) (latest ops n) v e low (omega arith)) low (omega arith))
    (λ (end : suc n ≤ m). let same : suc n ≡ m = omega arith in subst (λ k. latest ops k ≡ Some v) same e)
    (cases_lt m (suc n))

as_version : (ops : Operations) (m n : ℕ) (version : Version) (o : Option NumberedValue) → latest ops n ≡ o → version_of o ≡ Some version → version.number ≤ m → m ≤ n → version_of (latest ops m) ≡ Some version
as_version ops m n version None e h low l = absurd (none_some h)
as_version ops m n version (Some v) e h low l =
    let number : v.number ≡ version.number = ap (λ (p : Option Version). (unwrap_or p version).number) h in
    ap version_of (stands ops m n v e (omega arith) l) ∙ h

pub rows_are_history_law : RowsAreHistory
rows_are_history_law messages tenant = record {
  made_before = λ n key. weaker n (finite.get (rows_at messages tenant n) key) (rows_are_below_law messages tenant n key);
  stands_since = λ m n key version e low l.
      rows_by_value_law messages tenant m key
      ∙ as_version (ops_of messages (packed tenant key)) m n version (value messages (packed tenant key) n) refl (sym (rows_by_value_law messages tenant n key) ∙ e) low l;
}
  where
    weaker : (n : ℕ) (o : Option Version) → IfSome o (λ v. v.number < suc n) → IfSome o (λ v. v.number ≤ n)
    weaker n None h = h
    weaker n (Some v) h = omega arith
