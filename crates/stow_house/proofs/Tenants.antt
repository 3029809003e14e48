-- Whoever is served is a tenant.
use Rattle.std.proofs.Common.{◌≡◌, ℕ, ◌+◌, ◌<◌, ◌≤◌, Bool, true, false, List, [], ◌∷◌, length, Option, Some, None, is_some, ap, arith}
use mathlib.Core.Bool.{false≢true}
use Rattle.std.specs.Prelude.{if◌then◌else◌}
use Rattle.std.specs.Option.{unwrap_or}
use Rattle.std.specs.Str.{bytes_eq}
use Rattle.stow_model.specs.Message as message
use Rattle.stow_model.specs.Command.{Kind, Login, Quit, Malformed, ForStore, kind_of}
use Rattle.stow_model.specs.Login.{Entry, checked, login_from, login}
use Rattle.stow_model.specs.Message.{Message}
use Rattle.stow_model.specs.History.{ConnectionStep, Plain, Took, Broke, served_after_login, served_after_kind, served_after_message, served_as}
use Rattle.stow_house.specs.Seen.{IsServedTenant}

none_some : (t : ℕ) → ◌≡◌ {A = Option ℕ} None (Some t) → ⊥
none_some t e = false≢true (ap is_some e)

index_of : (b : Bool) (index t : ℕ) → ◌≡◌ {A = Option ℕ} (if b then Some index else None) (Some t) → index ≡ t
index_of true index t e = ap (λ o. unwrap_or o index) e
index_of false index t e = absurd (none_some t e)

by_name : (b : Bool) (entry : Entry) (entries : List Entry) (index : ℕ) (name password : List ℕ) (t : ℕ) → (login_from (index + 1) entries name password ≡ Some t → (index + 1 ≤ t) × (t < index + 1 + length entries))
    → (if b then checked index entry password else login_from (index + 1) entries name password) ≡ Some t → (index ≤ t) × (t < index + length (entry ∷ entries))
by_name true entry entries index name password t later e = let here : index ≡ t = index_of _ index t e in (omega arith, omega arith)
by_name false entry entries index name password t later e = let h = later e in (omega arith, omega arith)

logged_in : (entries : List Entry) (index : ℕ) (name password : List ℕ) (t : ℕ) → login_from index entries name password ≡ Some t → (index ≤ t) × (t < index + length entries)
logged_in [] index name password t e = absurd (none_some t e)
logged_in (entry ∷ entries) index name password t e = by_name (bytes_eq entry.name name) entry entries index name password t (logged_in entries (index + 1) name password t) e

login_served : (entries : List Entry) (name password : List ℕ) → IsServedTenant entries (login entries name password)
unfolding login
login_served entries name password t e = let h = logged_in entries 1 name password t e in (h.0, omega arith)

after_login : (entries : List Entry) (o before : Option ℕ) → IsServedTenant entries o → IsServedTenant entries before → IsServedTenant entries (served_after_login o before)
after_login entries None before now was = was
after_login entries (Some t) before now was = now

after_kind : (entries : List Entry) (kind : Kind) (before : Option ℕ) → IsServedTenant entries before → IsServedTenant entries (served_after_kind entries kind before)
after_kind entries (Login name password) before was = after_login entries (login entries name password) before (login_served entries name password) was
after_kind entries Quit before was = was
after_kind entries Malformed before was = was
after_kind entries ForStore before was = was

after_message : (entries : List Entry) (m : Message) (before : Option ℕ) → IsServedTenant entries before → IsServedTenant entries (served_after_message entries m before)
after_message entries (message.Words words) before was = after_kind entries (kind_of words) before was
after_message entries message.Quoted before was = was
after_message entries message.Blank before was = was

pub served_tenant : (entries : List Entry) (part : List ConnectionStep) → IsServedTenant entries (served_as entries part)
unfolding served_as
served_tenant entries [] = λ t e. absurd (none_some t e)
served_tenant entries (Plain e ∷ part) = served_tenant entries part
served_tenant entries (Took m is_refused ∷ part) = after_message entries m (served_as entries part) (served_tenant entries part)
served_tenant entries (Broke fault ∷ part) = served_tenant entries part
