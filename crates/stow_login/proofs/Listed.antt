-- Tenants by their names and their indexes.
use Rattle.std.proofs.Common.{◌≡◌, ℕ, zero, suc, ◌+◌, ◌-◌, ◌<◌, ◌≤◌, List, [], ◌∷◌, length, map, get_or, eqb, Some, None, refl, ap, sym, ◌∙◌, subst, arith, is_some, ⊎_elim}
use Rattle.std.proofs.lemmas.List.{length-map}
use mathlib.Core.Bool.{false≢true}
use Rattle.std.specs.Option.{unwrap_or}
use Rattle.std.proofs.lemmas.Bool.{cases_Bool, cond-true, cond-false, eq-eqb, ne_eqb}
use Rattle.std.specs.Str.{bytes_eq}
use Rattle.stow_model.specs.Login.{Entry, login_from, checked, quota_from}
use Rattle.stow_login.specs.declared.tenant.Tenant as coded
use Rattle.stow_login.specs.Entries.{entry_of, name_from, index_from}

some_same : {X : Type 0} (x y : X) → Some x ≡ Some y → x ≡ y
some_same x y e = ap (λ o. unwrap_or o x) e

some_none : {X : Type 0} (x : X) → Some x ≡ None → ⊥
some_none x e = false≢true (sym (ap is_some e))

pub login_nobody : (entries : List Entry) (i : ℕ) (name password : List ℕ) → index_from i entries name ≡ None → login_from i entries name password ≡ None
login_nobody [] i name password none = refl
login_nobody (x ∷ entries) i name password none =
    let later = index_from (i + 1) entries name in
    ⊎_elim
    (λ y. absurd (some_none i (sym (cond-true (bytes_eq x.name name) (Some i) later y) ∙ none)))
    (λ n. cond-false (bytes_eq x.name name) _ _ n ∙ login_nobody entries (i + 1) name password (sym (cond-false (bytes_eq x.name name) (Some i) later n) ∙ none))
    (cases_Bool (bytes_eq x.name name))

module _ {A : Type 0} where
  -- an index of the entries is one of the tenants
  pub has_index : (ts : List (coded.Tenant A)) (entries : List Entry) (index : ℕ) → map entry_of ts ≡ entries → index ≤ length entries → index ≤ length ts
  has_index ts entries index e high = subst (λ n. index ≤ n) (ap length (sym e) ∙ length-map ts entry_of) high

  -- ---- an entry by its index

  pub quota_at : (ts : List (coded.Tenant A)) (i k index : ℕ) (t : coded.Tenant A) → index ≡ k + i → k < length ts → quota_from i (map entry_of ts) index ≡ (get_or ts k t).quota
  quota_at [] i k index t e below = absurd (omega arith)
  quota_at (x ∷ ts) i zero index t e below = cond-true (eqb i index) _ _ (eq-eqb i index (omega arith))
  quota_at (x ∷ ts) i (suc k) index t e below = cond-false (eqb i index) _ _ (ne_eqb i index (omega arith)) ∙ quota_at ts (i + 1) k index t (omega arith) (omega arith)

  pub name_at : (ts : List (coded.Tenant A)) (i k index : ℕ) (t : coded.Tenant A) → index ≡ k + i → k < length ts → name_from i (map entry_of ts) index ≡ (get_or ts k t).name
  name_at [] i k index t e below = absurd (omega arith)
  name_at (x ∷ ts) i zero index t e below = cond-true (eqb i index) _ _ (eq-eqb i index (omega arith))
  name_at (x ∷ ts) i (suc k) index t e below = cond-false (eqb i index) _ _ (ne_eqb i index (omega arith)) ∙ name_at ts (i + 1) k index t (omega arith) (omega arith)

  -- ---- a login

  index_low : (ts : List (coded.Tenant A)) (i index : ℕ) (name : List ℕ) → index_from i (map entry_of ts) name ≡ Some index → i ≤ index
  index_low [] i index name found = absurd (some_none index (sym found))
  index_low (x ∷ ts) i index name found =
      let later = index_from (i + 1) (map entry_of ts) name in
      ⊎_elim
      (λ y. let here : i ≡ index = some_same i index (sym (cond-true (bytes_eq x.name name) (Some i) later y) ∙ found) in omega (arith, here))
      (λ n. let low : i + 1 ≤ index = index_low ts (i + 1) index name (sym (cond-false (bytes_eq x.name name) (Some i) later n) ∙ found) in omega (arith, low))
      (cases_Bool (bytes_eq x.name name))

  -- who has the name is the one whose password is looked at
  pub login_at : (ts : List (coded.Tenant A)) (i index k : ℕ) (t : coded.Tenant A) (name password : List ℕ) → index_from i (map entry_of ts) name ≡ Some index → index ≡ k + i → k < length ts
      → login_from i (map entry_of ts) name password ≡ checked index (entry_of (get_or ts k t)) password
  login_at [] i index k t name password found e below = absurd (omega arith)
  login_at (x ∷ ts) i index zero t name password found e below =
      let later = index_from (i + 1) (map entry_of ts) name in
      ⊎_elim
      (λ y. cond-true (bytes_eq x.name name) _ _ y ∙ ap (λ n. checked n (entry_of x) password) (some_same i index (sym (cond-true (bytes_eq x.name name) (Some i) later y) ∙ found)))
      (λ n. let low : i + 1 ≤ index = index_low ts (i + 1) index name (sym (cond-false (bytes_eq x.name name) (Some i) later n) ∙ found) in absurd (omega (arith, low, e)))
      (cases_Bool (bytes_eq x.name name))
  login_at (x ∷ ts) i index (suc k) t name password found e below =
      let later = index_from (i + 1) (map entry_of ts) name in
      ⊎_elim
      (λ y. let here : i ≡ index = some_same i index (sym (cond-true (bytes_eq x.name name) (Some i) later y) ∙ found) in absurd (omega (arith, here, e)))
      (λ n. cond-false (bytes_eq x.name name) _ _ n ∙ login_at ts (i + 1) index k t name password (sym (cond-false (bytes_eq x.name name) (Some i) later n) ∙ found) (omega arith) (omega arith))
      (cases_Bool (bytes_eq x.name name))

  -- an entry's password, at the index that its name has
  pub login_of : (ts : List (coded.Tenant A)) (entries : List Entry) (index : ℕ) (t : coded.Tenant A) (name password : List ℕ) → map entry_of ts ≡ entries → 1 ≤ index → index ≤ length entries
      → Some index ≡ index_from 1 entries name → t ≡ get_or ts (index - 1) t → login_from 1 entries name password ≡ checked index (entry_of t) password
  login_of ts entries index t name password e low high found is =
      let within : index ≤ length ts = has_index ts entries index e high in
      ap (λ es. login_from 1 es name password) (sym e)
      ∙ login_at ts 1 index (index - 1) t name password (ap (λ es. index_from 1 es name) e ∙ sym found) (omega arith) (omega arith)
      ∙ ap (λ x. checked index (entry_of x) password) (sym is)
