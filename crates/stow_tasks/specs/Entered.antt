-- What comes of the password of a tenant that is to be.
use Rattle.std.specs.Prelude.{◌≡◌, ◌⊎◌, ◌-◌, ℕ, List, [], ◌∷◌, length, take, drop, Option, Some, None, Result, Ok, Err, IfSome, IfErr, IsErr, unwrap_or, if◌then◌else◌}
use Rattle.std.specs.Str.{bytes_eq}
use Rattle.std.specs.declared.vec.Vec.{Vec}
use Rattle.std.specs.declared.alloc.Global.{Global}
use Rattle.stow_login.specs.NewTenants.{entry_with}
use Rattle.stow_login.specs.TenantFile.{entries_of_text}
use Rattle.stow_login.specs.declared.new_tenant.NewTenant.{NewTenant}
use Rattle.stow_workers.specs.Sent.{Written, WritesAll}
use Rattle.stow_run.specs.declared.failure.Failure.{Failure}
use Rattle.stow_run.specs.declared.failure.Failure.TheVariants.{InputOutput, Memory}
use Rattle.stow_run.specs.declared.failure.Endpoint.TheVariants as endpoint
use Rattle.stow_tasks.specs.Ends.{IsOfOutput}

-- the bytes without this end, where they have it
abbrev pub without : List ℕ → List ℕ → Option (List ℕ)
without end bytes =
    if bytes_eq (drop (length bytes - length end) bytes) end
    then Some (take (length bytes - length end) bytes) else None

-- the bytes without LF, or CR LF, at their end
abbrev pub password_of : List ℕ → List ℕ
password_of bytes =
    unwrap_or (without (13 ∷ 10 ∷ []) bytes) (unwrap_or (without (10 ∷ []) bytes) bytes)

-- the salt is the one that was asked for, or the source may give it
abbrev pub IsSaltFor : (List ℕ → Type 0) → Option (Vec ℕ Global) → List ℕ → Type 0
IsSaltFor Gives (Some given) salt = salt ≡ given.items
IsSaltFor Gives None salt = Gives salt

-- a failure of the random source; want of memory that it tells is one too
abbrev pub IsOfSource : Failure → Type 0
IsOfSource (InputOutput endpoint.Random error) = Unit {0}
IsOfSource Memory = Unit {0}
IsOfSource _ = ⊥

-- the text says this tenant alone, and such a salt and the reader's password log it in
pub record IsEntryText (Gives : List ℕ → Type 0) (tenant : NewTenant) (known : Option (List ℕ))
    (text : List ℕ) : Type 0 where
  pub salt : List ℕ
  pub bytes : List ℕ
  pub salted : IsSaltFor Gives tenant.salt salt
  pub read : IfSome known (λ given. bytes ≡ given)
  pub says : entries_of_text text
      ≡ Ok (entry_with tenant.name.now salt (password_of bytes) tenant.quota ∷ [])

-- the random source or the reader failed, or memory was refused
abbrev pub IsOfSources : Failure → Type 0
IsOfSources (InputOutput endpoint.Random error) = Unit {0}
IsOfSources (InputOutput endpoint.Input error) = Unit {0}
IsOfSources Memory = Unit {0}
IsOfSources _ = ⊥

-- the entry was written, or a beginning of it until the writer failed, or nothing
abbrev pub IsEntered : (List ℕ → Type 0) → NewTenant → Option (List ℕ) → Written → Written
    → Result (Unit {0}) Failure → Type 0
IsEntered Gives tenant known old new r =
    (IfErr r IsOfSources × IsErr r × (new ≡ old))
    ⊎ ((text : List ℕ) × IsEntryText Gives tenant known text × WritesAll r text old new
    × IfErr r IsOfOutput)
