-- Rows of a walk, as an account is told them.
use Rattle.std.specs.Prelude.{ℕ, ◌-◌, List, length, map}
use Rattle.std.specs.List.{AllByRecursion}
use Rattle.stow_tree_model.specs.Intervals.{IsWholeKey}
use Rattle.stow_ledger.specs.declared.shown_row.ShownRow.{ShownRow}
use Rattle.stow_tree.specs.StowRead.Walk.{head_keys}
use Rattle.stow_tree.specs.StowRead.declared.row_head.RowHead.{RowHead}

-- the row with the bytes of its tenant's own key, in front of which its index has four
abbrev pub shown_of : {A : Type 0} → RowHead A → ShownRow
shown_of head =
    record {
      key = length head.key - 4;
      version = record { number = head.number; length = head.length };
      next = head.next;
    }

abbrev pub all_shown : {A : Type 0} → List (RowHead A) → List ShownRow
all_shown heads = map shown_of heads

abbrev pub HaveWholeKeys : {A : Type 0} → List (RowHead A) → Type 0
HaveWholeKeys heads = AllByRecursion IsWholeKey (head_keys heads)
