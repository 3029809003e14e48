-- What a merge keeps of a key depends on the key's own rows and messages.
use Rattle.std.proofs.Common.{◌≡◌, ◌≢◌, ◌⊎◌, ℕ, zero, suc, ◌<◌, ◌≤◌, Bool, true, false, List, [], ◌∷◌, ◌++◌, map, Option, Some, None, refl, ap, ◌∙◌, sym, subst, ⊎_elim, inl, inr}
use Rattle.std.specs.Prelude.{Contains, IsSome, if◌then◌else◌}
use Rattle.std.specs.FinMap as finite
use Rattle.std.specs.Ordering.{eq_by_cmp}
use Rattle.std.specs.Cmp.{tied_itself}
use Rattle.std.specs.Cmp.Lexicographic.{nat_list_cmp_total}
use Rattle.std.specs.declared.cmp.Ordering.TheVariants.{Less, Equal}
use Rattle.std.proofs.lemmas.List.{map-append}
use Rattle.stow_page.specs.StowBytes.Bytes.{bytes_cmp}
use Rattle.stow_page.specs.StowTreeModel.Agreement.{TenantPins}
use Rattle.stow_page.specs.StowTreeModel.Keys.{tenant_of}
use Rattle.stow_page.specs.StowTreeModel.Merged.{row_message, rows_set, Stays}
use Rattle.stow_page.specs.StowTreeModel.Messages.{Messages, ops_of, ops_in, with_all, set_of}
use Rattle.stow_page.specs.StowTreeModel.Op.{Op, Put}
use Rattle.stow_page.specs.StowTreeModel.Operations.{Operations, applied, latest, or_else, value_in, NoneAbove}
use Rattle.stow_page.specs.StowTreeModel.Order.{VersionPlace, place_cmp, place_of}
use Rattle.stow_page.specs.StowTreeModel.TreeMessage.{TreeMessage}
use Rattle.stow_page.specs.StowTreeModel.Version.{Version}
use Rattle.stow_page.proofs.StowTreeModel.Histories.{ops_in-skip}
use Rattle.stow_page.proofs.StowTreeModel.Orders.{place_cases}
use Rattle.stow_page.proofs.StowTreeModel.Pruning.{contains_here, contains_there}
use Rattle.stow_page.proofs.StowTreeModel.SetLemmas.{ops-with_all}

-- ---- options

pub or_nothing : (a b : Option Op) → b ≡ None → or_else a b ≡ a
or_nothing None b e = e
or_nothing (Some op) b e = refl

pub nothing_or : (a b : Option Op) → a ≡ None → or_else a b ≡ b
nothing_or a b e = ap (λ o. or_else o b) e

pub none_if_not : (o : Option Op) → (IsSome o → ⊥) → o ≡ None
none_if_not None f = refl
none_if_not (Some op) f = absurd (f refl)

pub one_of : (a b : Option Op) → IsSome (or_else a b) → IsSome a ⊎ IsSome b
one_of None b s = inr s
one_of (Some op) b s = inl refl

pub is_there : (o : Option Op) (p : Op) → o ≡ Some p → IsSome o
is_there o p e = subst (λ x. IsSome x) (sym e) refl

-- ---- keys

-- no key is below itself
pub not_below : (key : List ℕ) → bytes_cmp key key ≡ Less → ⊥
not_below key e = let z : Equal ≡ Less = sym (tied_itself nat_list_cmp_total key) ∙ e in cc

-- ---- messages in lists

append_test : (b : Bool) (o : Option Op) (p : Op) (y : Option Op) → (if b then Some p else or_else o y) ≡ or_else (if b then Some p else o) y
append_test true o p y = refl
append_test false o p y = refl

pub ops_in-append : (xs ys : List TreeMessage) (key : List ℕ) (n : ℕ) → ops_in (xs ++ ys) key n ≡ or_else (ops_in xs key n) (ops_in ys key n)
ops_in-append [] ys key n = refl
ops_in-append (x ∷ xs) ys key n = ap (λ (o : Option Op). if eq_by_cmp place_cmp (key, n) (place_of x) then Some x.op else o) (ops_in-append xs ys key n) ∙ append_test (eq_by_cmp place_cmp (key, n) (place_of x)) (ops_in xs key n) x.op (ops_in ys key n)

-- the place of an operation is that of a message
pub message_found : (ms : List TreeMessage) (key : List ℕ) (n : ℕ) → IsSome (ops_in ms key n) → (m : TreeMessage) × Contains ms m × (m.key ≡ key) × (m.number ≡ n)
message_found [] key n s = absurd cc
message_found (m ∷ ms) key n s = ⊎_elim
    (λ (e : (◌≡◌ {A = VersionPlace} (key, n) (place_of m)) × (eq_by_cmp place_cmp (key, n) (place_of m) ≡ true)).
    (m, contains_here m ms, sym (ap (λ (p : VersionPlace). p.0) e.0), sym (ap (λ (p : VersionPlace). p.1) e.0)))
    (λ (e : (◌≢◌ {A = VersionPlace} (key, n) (place_of m)) × (eq_by_cmp place_cmp (key, n) (place_of m) ≡ false)).
    let later = message_found ms key n (subst IsSome (ops_in-skip m ms key n e.0) s) in (later.0, contains_there m later.0 ms later.1, later.2, later.3))
    (place_cases (key, n) (place_of m))

-- the same of rows
pub row_found : (rows : List Version) (key : List ℕ) (n : ℕ) → IsSome (ops_in (map row_message rows) key n) → (v : Version) × Contains rows v × (v.key ≡ key) × (v.number ≡ n)
row_found [] key n s = absurd cc
row_found (v ∷ rows) key n s = ⊎_elim
    (λ (e : (◌≡◌ {A = VersionPlace} (key, n) (place_of (row_message v))) × (eq_by_cmp place_cmp (key, n) (place_of (row_message v)) ≡ true)).
    (v, contains_here v rows, sym (ap (λ (p : VersionPlace). p.0) e.0), sym (ap (λ (p : VersionPlace). p.1) e.0)))
    (λ (e : (◌≢◌ {A = VersionPlace} (key, n) (place_of (row_message v))) × (eq_by_cmp place_cmp (key, n) (place_of (row_message v)) ≡ false)).
    let later = row_found rows key n (subst IsSome (ops_in-skip (row_message v) (map row_message rows) key n e.0) s) in (later.0, contains_there v later.0 rows later.1, later.2, later.3))
    (place_cases (key, n) (place_of (row_message v)))

-- ---- a merge's messages

-- the operations on a key of a batch over rows
abbrev pub ops_over : List Version → List TreeMessage → List ℕ → Operations
ops_over rows batch key n = or_else (ops_in batch key n) (ops_in (map row_message rows) key n)

ops-set_of : (ms : List TreeMessage) (key : List ℕ) (n : ℕ) → ops_of (set_of ms) key n ≡ ops_in ms key n
ops-set_of ms key n = ops-with_all finite.empty ms key n ∙ ap (or_else (ops_in ms key n)) (finite.get-empty place_cmp (key, n)) ∙ or_nothing (ops_in ms key n) None refl

ops-merged_at : (rows : List Version) (batch : List TreeMessage) (key : List ℕ) (n : ℕ) → ops_of (with_all (rows_set rows) batch) key n ≡ ops_over rows batch key n
ops-merged_at rows batch key n = ops-with_all (rows_set rows) batch key n ∙ ap (or_else (ops_in batch key n)) (ops-set_of (map row_message rows) key n)

pub ops-merged : (rows : List Version) (batch : List TreeMessage) (key : List ℕ) → ops_of (with_all (rows_set rows) batch) key ≡ ops_over rows batch key
ops-merged rows batch key = λ i n. ops-merged_at rows batch key n i

pub ops_over-append : (rows more : List Version) (batch later : List TreeMessage) (key : List ℕ) (n : ℕ) → ops_over (rows ++ more) (batch ++ later) key n ≡ or_else (or_else (ops_in batch key n) (ops_in later key n)) (or_else (ops_in (map row_message rows) key n) (ops_in (map row_message more) key n))
ops_over-append rows more batch later key n = λ i. or_else
    (ops_in-append batch later key n i)
    ((ap (λ ms. ops_in ms key n) (map-append row_message rows more) ∙ ops_in-append (map row_message rows) (map row_message more) key n) i)

-- ---- what stays, by the operations of its key

abbrev pub IsKeptBy : TenantPins → Operations → List ℕ → ℕ → Type 0
IsKeptBy pins f key number = IsSome (f number) × (NoneAbove number f ⊎ ((pin : ℕ) × Contains (pins (tenant_of key)) pin × ((number ≤ pin) × ((n : ℕ) → number < n → n ≤ pin → f n ≡ None))))

pub record StaysBy (pins : TenantPins) (f : Operations) (v : Version) : Type 0 where
  pub is_kept : IsKeptBy pins f v.key v.number
  pub is_value : v.value ≡ value_in (latest f v.number)
  pub is_wanted : (v.value ≢ None) ⊎ ((n : ℕ) × (n < v.number) × IsKeptBy pins f v.key n)

pub by_ops : (pins : TenantPins) (messages : Messages) (v : Version) → Stays pins messages v → StaysBy pins (ops_of messages v.key) v
by_ops pins messages v s = record { is_kept = s.is_kept; is_value = s.is_value; is_wanted = s.is_wanted }

pub from_ops : (pins : TenantPins) (messages : Messages) (v : Version) → StaysBy pins (ops_of messages v.key) v → Stays pins messages v
from_ops pins messages v s = record { is_kept = s.is_kept; is_value = s.is_value; is_wanted = s.is_wanted }

-- a version stays of each set with its key's operations
pub stays_of : (pins : TenantPins) (rows more : List Version) (batch later : List TreeMessage) (v : Version) → ((n : ℕ) → ops_over rows batch v.key n ≡ ops_over more later v.key n) → Stays pins (with_all (rows_set rows) batch) v → Stays pins (with_all (rows_set more) later) v
stays_of pins rows more batch later v same s = from_ops pins (with_all (rows_set more) later) v
    (subst (λ (f : Operations). StaysBy pins f v)
    (ops-merged rows batch v.key ∙ (λ i n. same n i) ∙ sym (ops-merged more later v.key))
    (by_ops pins (with_all (rows_set rows) batch) v s))

-- ---- values

pub put_last : (f : Operations) (n : ℕ) (value : List ℕ) → f n ≡ Some (Put value) → value_in (latest f n) ≡ Some value
unfolding latest
put_last f zero value e = ap (λ (o : Option Op). value_in (applied 0 o None)) e
put_last f (suc n) value e = ap (λ (o : Option Op). value_in (applied (suc n) o (latest f n))) e
