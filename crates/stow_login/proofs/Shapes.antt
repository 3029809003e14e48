-- A tenant file's table and its items, by how many they are.
use Rattle.std.proofs.Common.{◌≡◌, ◌≢◌, ℕ, suc, ◌+◌, ◌<◌, ◌≤◌, List, [], ◌∷◌, ◌++◌, drop, get_or, length, ◌⊎◌, Option, Some, None, Ok, Err, option_map, IfOk, IfErr, String, BTreeMap, Global, Bor, codes, refl, ap, ◌∙◌, sym, arith}
use Rattle.std.specs.Prelude.{ok_or, option_and_then}
use Rattle.std.proofs.lemmas.Bool.Decides.{nat_tests}
use Rattle.toml.specs.declared.value.Value.{Value}
use Rattle.toml.specs.View.{view, items_view, table_view, members_view}
use Rattle.toml.proofs.Views.{items_view-drop}
use Rattle.toml.specs.Data.{Data, Items, Members, get_member, as_table}
use Rattle.stow_login.specs.declared.tenants_fault.TenantsFault.{TenantsFault}
use Rattle.stow_login.specs.declared.tenants_fault.TenantsFault.TheVariants as fault
use Rattle.stow_model.specs.Login.{Entry}
use Rattle.stow_login.specs.TenantFile.{◌>>=◌, size, count, items_in, tables_of, four_fields, entry_in, entries_after, entries_of}
use Rattle.stow_model.specs.StowBytes.Limits.{tenant_limit}

size-members_view : (es : List (String Global × Value)) → size (members_view es) ≡ length es
size-members_view [] = refl
size-members_view (e ∷ es) = ap suc (size-members_view es)

-- a table has as many keys as its map
pub size_of_table : (table : BTreeMap (String Global) Value) → size (table_view table) ≡ length table.entries
size_of_table table = size-members_view table.entries

-- an array has as many items as its list
pub count_of_items : (vs : List Value) → count (items_view vs) ≡ length vs
count_of_items [] = refl
count_of_items (v ∷ vs) = ap suc (count_of_items vs)

-- ---- four fields

pub four_of : (table : Members) (value : Data) → Some table ≡ as_table value → size table ≡ 4 → Some table ≡ four_fields value
four_of table value is four = rw (← is, four)

pub others_of : (table : Members) (value : Data) → Some table ≡ as_table value → size table ≢ 4 → None ≡ four_fields value
others_of table value is other = rw (← is) (grind (arith, nat_tests, other))

pub no_table : (value : Data) → None ≡ as_table value → None ≡ four_fields value
no_table value is = rw (← is)

-- ---- the items

pub items_of_one : (table : Members) (found : Option Items) → size table ≡ 1 → found ≡ option_and_then tables_of (get_member (codes "tenant") table) → items_in table ≡ ok_or found fault.WrongShape
items_of_one table found one is = rw (one, is)

pub items_of_more : (table : Members) → size table ≢ 0 → size table ≢ 1 → items_in table ≡ Err fault.WrongShape
items_of_more table some more = grind (arith, nat_tests, some, more)

-- items that were found, and those that were not
pub ok_items : (table : Members) (r : Option (Bor (List Value))) (found : Option Items) → option_map (λ items. items_view items.now) r ≡ found → items_in table ≡ ok_or found fault.WrongShape
    → IfOk (ok_or r fault.WrongShape) (λ items. items_in table ≡ Ok (items_view items.now))
ok_items table (Some items) found is e = e ∙ ap (λ f. ok_or f fault.WrongShape) (sym is)
ok_items table None found is e = tt

pub err_items : (table : Members) (r : Option (Bor (List Value))) (found : Option Items) → option_map (λ items. items_view items.now) r ≡ found → items_in table ≡ ok_or found fault.WrongShape
    → IfErr (ok_or r fault.WrongShape) (λ e. items_in table ≡ Err e)
err_items table (Some items) found is e = tt
err_items table None found is e = e ∙ ap (λ f. ok_or f fault.WrongShape) (sym is)

-- ---- as many as there may be

pub limited_out : (table : Members) (items : Items) → items_in table ≡ Ok items → (count items ≡ 0) ⊎ (tenant_limit < count items) → entries_of table ≡ Err fault.WrongCount
limited_out table items is out = rw is (grind (arith, nat_tests, out))

pub limited_in : (table : Members) (items : Items) → items_in table ≡ Ok items → count items ≢ 0 → count items ≤ tenant_limit → entries_of table ≡ entries_after [] items
limited_in table items is some few = rw is (grind (arith, nat_tests, some, few))

-- the first of the items that are left has a fault
pub fault_here : (table : Members) (earlier : List Entry) (vs : List Value) (i : ℕ) (v : Value) (e : TenantsFault) → entries_of table ≡ entries_after earlier (items_view (drop i vs)) → i < length vs → v ≡ get_or vs i v
    → entry_in earlier (view v) ≡ Err e → entries_of table ≡ Err e
fault_here table earlier vs i v e left below is bad =
    left ∙ ap (entries_after earlier) (items_view-drop vs i v below) ∙ ap (λ w. entry_in earlier (view w) >>= (λ entry. entries_after (earlier ++ entry ∷ []) (items_view (drop (i + 1) vs)))) (sym is)
    ∙ ap (λ r. r >>= (λ entry. entries_after (earlier ++ entry ∷ []) (items_view (drop (i + 1) vs)))) bad
