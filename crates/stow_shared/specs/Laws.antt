-- Laws over journals.
use Rattle.std.specs.Prelude.{◌≡◌, ℕ, List, map}
use Rattle.stow_model.specs.Login.{IsTenant, entry_at}
use Rattle.stow_model.specs.Reply.{encoding}
use Rattle.stow_house.specs.StowCore.State.{CoreState, store_of}
use Rattle.stow_shared.specs.Entries.{Entry}
use Rattle.stow_shared.specs.Journals.{line_in, told_in, IsLegal}

-- in both journals the tenant has the same entry in the file, and the same line; its index and all
-- other entries, of the file and of the journal, may differ
pub record CallsAlike (core : CoreState) (journal : List Entry) (tenant : ℕ) (core' : CoreState)
    (journal' : List Entry) (tenant' : ℕ) : Type 0 where
  pub known : IsTenant core.entries tenant
  pub known' : IsTenant core'.entries tenant'
  pub entry : entry_at core.entries tenant ≡ entry_at core'.entries tenant'
  pub line : line_in tenant journal ≡ line_in tenant' journal'

-- two journals that lead to their cores, in which a tenant calls alike, whatever else they hold and
-- whoever their tenants are, tell it the same, as replies and as bytes, and leave it the same store
abbrev pub TwoJournals : Type 0
TwoJournals =
    (core core' : CoreState) (journal journal' : List Entry) (tenant tenant' : ℕ)
    → IsLegal journal core → IsLegal journal' core'
    → CallsAlike core journal tenant core' journal' tenant'
    → (told_in tenant journal ≡ told_in tenant' journal')
    × (map encoding (told_in tenant journal) ≡ map encoding (told_in tenant' journal'))
    × (store_of core tenant ≡ store_of core' tenant')
