-- What is charged once all rows of a dropped snapshot were walked.
use Rattle.std.proofs.Common.{◌≡◌, ℕ, ◌+◌, ◌<◌, ◌≤◌, false, List, [], ◌∷◌, length, Option, Some, ap, ◌∙◌, sym, subst, arith}
use Rattle.std.specs.Prelude.{IfSome}
use Rattle.std.specs.List.{AllZip}
use Rattle.std.specs.FinMap as finite
use Rattle.std.proofs.lemmas.List.{length-drop}
use Rattle.stow_tree_model.specs.StowBytes.Limits.{tenant_limit}
use Rattle.stow_ledger.specs.StowModel.Store.{Version, Store}
use Rattle.stow_tree_model.specs.Keys.{packed, own_key}
use Rattle.stow_tree_model.specs.Messages.{Messages, ops_of}
use Rattle.stow_tree_model.specs.Operations.{NoneAbove}
use Rattle.stow_ledger.specs.StowState.Rows.{rows_at}
use Rattle.stow_ledger.specs.Accounts.{AccountState, present_charge}
use Rattle.stow_ledger.specs.Charges.{charge_after_drop, shown_until}
use Rattle.stow_ledger.specs.Histories.{ShowsHistory, SameNumbers}
use Rattle.stow_ledger.specs.Shown.{without_snapshot, IsToldOf}
use Rattle.stow_ledger.specs.declared.charge.Charge.{Charge}
use Rattle.stow_ledger.proofs.DropLemmas.{drop_is_charged_law}
use Rattle.stow_ledger.proofs.HistoryLemmas.{pins_tell_of_drops_law}
use Rattle.stow_ledger.proofs.KeptLemmas.{present_is_charged_law}
use Rattle.stow_ledger.proofs.TreeHistory.{rows_are_history_law}
use Rattle.stow_tree.specs.StowRead.Walk.{IsNumberAfter, IsHead, IsWalk}
use Rattle.stow_tree.specs.StowRead.declared.row_head.RowHead.{RowHead}
use Rattle.stow_tree.proofs.StowRead.Walks.{walk_whole}
use Rattle.stow_dropping.specs.Dropping.{IsChargeWithout}
use Rattle.stow_dropping.specs.Parts.{shown_of, all_shown, HaveWholeKeys}
use Rattle.stow_dropping.proofs.NextNumbers.{next_number}
use Rattle.stow_dropping.proofs.WalkedRows.{AreHeads, AreOwn, are_own, inside_own, shown_version, shown_in, row_there, all_rows}

-- the walk from the tenant's first key told all that the tenant had, and the charge is after all of its rows
pub record IsWholeDrop (A : Type 0) (m : Messages) (first to : List ℕ) (at : ℕ) (account : AccountState) (pins : List ℕ) (left : Charge) : Type 0 where
  pub heads : List (RowHead A)
  pub count : ℕ
  pub walk : IsWalk (ops_of m) first false to at count heads
  pub fewer : length heads < count
  pub whole : HaveWholeKeys heads
  pub is : left ≡ charge_after_drop (present_charge account) (all_shown heads) pins

some_number : (o : Option Version) (v : Version) (n : ℕ) → o ≡ Some v → IfSome o (λ w. w.number ≤ n) → v.number ≤ n
some_number o v n e h = subst (λ (p : Option Version). IfSome p (λ w. w.number ≤ n)) e h

module _ (m : Messages) (t at : ℕ) (store : Store) (id : ℕ) (numbers pins : List ℕ) where
  -- the account is told of the row's version
  is_told : {A : Type 0} (row : RowHead A) (head : IsHead (ops_of m row.key) at row) → packed t (own_key row.key) ≡ row.key → ((key : List ℕ) → NoneAbove store.last (ops_of m (packed t key))) → at ≤ store.last
      → ShowsHistory (rows_at m t) (without_snapshot store id) numbers → SameNumbers pins numbers → IsToldOf (without_snapshot store id) pins (own_key row.key, shown_version head.value) (shown_of row)
  is_told row head own above l shows same = record {
    key = sym (length-drop 4 row.key);
    version = λ i. record { number = head.number i; length = head.size i };
    still = ap (λ n. shown_until pins n row.next) head.number
        ∙ pins_tell_of_drops_law (rows_at m t) (without_snapshot store id) numbers pins (own_key row.key) version row.next (rows_are_history_law m t) shows same (omega (arith, made, l))
        (next_number m t at store.last (own_key row.key) version row.next l (above (own_key row.key)) has made (subst (λ k. IsNumberAfter (ops_of m k) at row.next) (sym own) head.next));
  }
    where
      version : Version
      version = shown_version head.value

      has : finite.get (rows_at m t at) (own_key row.key) ≡ Some version
      has = row_there m t at row head own

      made : version.number ≤ at
      made = some_number (finite.get (rows_at m t at) (own_key row.key)) version at has ((rows_are_history_law m t).made_before at (own_key row.key))

  are_told : {A : Type 0} (heads : List (RowHead A)) (told : AreHeads m at heads) → AreOwn t heads → ((key : List ℕ) → NoneAbove store.last (ops_of m (packed t key))) → at ≤ store.last
      → ShowsHistory (rows_at m t) (without_snapshot store id) numbers → SameNumbers pins numbers → AllZip (IsToldOf (without_snapshot store id) pins) (shown_in m at heads told) (all_shown heads)
  are_told [] told own above l shows same = tt
  are_told (row ∷ heads) told own above l shows same = (is_told row told.0 own.0 above l shows same, are_told heads told.1 own.1 above l shows same)

pub charge_is : {A : Type 0} (m : Messages) (t at : ℕ) (account : AccountState) (pins : List ℕ) (left : Charge) → t ≤ tenant_limit → IsWholeDrop A m (packed t []) (packed (t + 1) []) at account pins left → IsChargeWithout m t at account pins left
charge_is m t at account pins left index drop store id numbers is above live l shows same =
    drop.is
    ∙ ap (λ c. charge_after_drop c (all_shown drop.heads) pins) (present_is_charged_law store account is)
    ∙ sym (drop_is_charged_law store id (rows_at m t at) (all_shown drop.heads) pins live
    (subst (λ rows. AllZip (IsToldOf (without_snapshot store id) pins) rows (all_shown drop.heads)) (sym entries) (are_told m t at store id numbers pins drop.heads drop.walk.told own above l shows same)))
  where
    own : AreOwn t drop.heads
    own = are_own t drop.heads index drop.whole drop.walk.keys.inside

    entries : finite.entries (rows_at m t at) ≡ shown_in m at drop.heads drop.walk.told
    entries = all_rows m t at drop.heads drop.walk.told index own drop.walk.keys.rise (λ q s. walk_whole (ops_of m) (packed t []) false (packed (t + 1) []) at drop.count drop.heads drop.walk drop.fewer (packed t q) (inside_own t q index) s)
