-- Whether pins show nothing of a merge that went away.
use Rattle.std.specs.Prelude.{◌⊎◌, ℕ, ◌≤◌, List, All, Contains}
use Rattle.stow_page.specs.StowTreeModel.Agreement.{TenantPins}
use Rattle.stow_page.specs.StowTreeModel.Keys.{tenant_of}
use Rattle.stow_page.specs.StowTreeModel.TreeMessage.{TreeMessage}
use Rattle.stow_page.specs.StowTreeModel.Version.{Version}

-- each present pin was used, or isn't below the number
abbrev pub IsCovered : List ℕ → List ℕ → ℕ → Type 0
IsCovered used present number = All (λ pin. Contains used pin ⊎ number ≤ pin) present

-- a merge of these rows and this batch under the used pins keeps what the present ones show
pub record Covers (used present : TenantPins) (rows : List Version)
    (batch : List TreeMessage) : Type 0 where
  pub rows_covered : All (λ v. IsCovered (used (tenant_of v.key)) (present (tenant_of v.key))
      v.number) rows
  pub batch_covered : All (λ m. IsCovered (used (tenant_of m.key)) (present (tenant_of m.key))
      m.number) batch
