-- A key's row and messages among others.
use Rattle.std.proofs.Common.{◌≡◌, ◌≢◌, ℕ, zero, suc, ◌+◌, ◌<◌, ◌≤◌, ◌-◌, ◌==◌, ◌++◌, Option, List, [], ◌∷◌, Some, None, length, take, drop, map, refl, ap, ◌∙◌, sym, subst, arith, ⊎_elim, get_or}
use Rattle.std.specs.Prelude.{Contains, slice_get, true, false}
use Rattle.std.specs.Option.{unwrap_or, option_map}
use Rattle.std.proofs.lemmas.Option.{slice_get-map, slice_get-get_or, slice_get_within, get_or_from_slice_get}
use Rattle.std.proofs.lemmas.Bool.{cases_lt}
use Rattle.std.proofs.lemmas.Bool.Decides.{nat_tests}
use Rattle.std.proofs.Math.Seq.{take-length}
use Rattle.std.proofs.lemmas.List.{take-map, drop-map, take_rest}
use Rattle.stow_page.specs.StowTreeModel.Agreement.{TenantPins}
use Rattle.stow_page.specs.StowTreeModel.Keys.{tenant_of}
use Rattle.std.specs.List.Sorted.{IsStrictlySortedBy}
use Rattle.stow_page.specs.StowTreeModel.Order.{place_cmp, place_of, MessagesRise, VersionsRise}
use Rattle.stow_page.specs.StowTreeModel.Operations.{outcome}
use Rattle.std.specs.declared.cmp.Ordering.TheVariants.{Less}
use Rattle.stow_page.specs.StowTreeModel.declared.version.Version as lent
use Rattle.stow_page.proofs.StowTreeModel.Histories.{falls_number}
use Rattle.stow_page.proofs.StowTreeModel.Latest.{contains_cases}
use Rattle.stow_page.proofs.StowTreeModel.Pruning.{contains_here, none_in_nothing}
use Rattle.stow_page.specs.StowTreeModel.Merged.{merged, same_key, version_at}
use Rattle.stow_page.specs.StowTreeModel.TreeMessage.{TreeMessage, message_of}
use Rattle.stow_page.specs.StowTreeModel.Version.{Version}
use Rattle.stow_page.specs.StowTreeModel.declared.message.Message as messages
use Rattle.stow_merge.specs.OneKey.{rows_of, folded, left_by, version_with, AreOfOneKey, AreOlder, IsNewest, IsRowOf, IsRunOf, StaysAlone}
use Rattle.stow_merge.proofs.Folded.{merged_folded, folded_more}
use Rattle.stow_merge.proofs.Lists.{all_member, all_mapped_member}
use Rattle.stow_merge.proofs.WritingLemmas.{mapped_more, drop_first, same_from, other_from}

pub no_row : (rows : List Version) (at : ℕ) (key : List ℕ) → ((v : Version) → slice_get rows at ≡ Some v → v.key ≢ key) → IsRowOf rows at key []
no_row rows at key h = record { stands = refl; is_of_key = tt; is_one = omega arith; is_found = λ v e. h v }

pub row_past : (rows : List Version) (at : ℕ) (key : List ℕ) → length rows ≤ at → IsRowOf rows at key []
row_past rows at key l = no_row rows at key (λ v e. absurd (let w = slice_get_within rows at v e in omega (arith, l, w)))

pub one_row : (rows : List Version) (at : ℕ) (v : Version) (key : List ℕ) → slice_get rows at ≡ Some v → same_key v.key key ≡ true → IsRowOf rows at key (v ∷ [])
one_row rows at v key e same = record {
  stands = sym (ap (take 1) (drop_first rows at v (slice_get_within rows at v e)) ∙ ap (λ x. x ∷ []) (get_or_from_slice_get rows at v v e));
  is_of_key = (same_from v.key key same, tt);
  is_one = omega arith;
  is_found = λ w none. absurd (let l : 1 ≡ 0 = ap length none in omega (arith, l));
}

pub other_row : (rows : List Version) (at : ℕ) (v : Version) (key : List ℕ) → slice_get rows at ≡ Some v → same_key v.key key ≡ false → IsRowOf rows at key []
other_row rows at v key e other = no_row rows at key (λ w f. subst (λ (x : Version). x.key ≢ key) (sym (get_or_from_slice_get rows at v v e) ∙ get_or_from_slice_get rows at w v f) (other_from v.key key other))

-- one row rises, and none does
pub none_rise : VersionsRise []
unfolding IsStrictlySortedBy
none_rise = tt

pub one_rises : (v : Version) → VersionsRise (v ∷ [])
unfolding IsStrictlySortedBy
one_rises v = (tt, tt)

-- ---- messages

-- an item of a list of messages is what the coded one stands for
pub message_at : (ms : List messages.Message) (i : ℕ) (x : messages.Message) (m : TreeMessage) → i < length ms → x ≡ get_or ms i x → slice_get (map message_of ms) i ≡ Some m → message_of x ≡ m
message_at ms i x m l is e =
    let there : slice_get (map message_of ms) i ≡ Some (message_of x) = slice_get-map message_of ms i ∙ ap (option_map message_of) (slice_get-get_or ms i x l ∙ ap Some (sym is)) in
    ap (λ o. unwrap_or o m) (sym there ∙ e)

pub other_message : (ms : List messages.Message) (i : ℕ) (x : messages.Message) (key : List ℕ) → i < length ms → x ≡ get_or ms i x → same_key key x.key.bytes.now ≡ false → (m : TreeMessage) → slice_get (map message_of ms) i ≡ Some m → m.key ≢ key
other_message ms i x key l is other m e same = other_from key x.key.bytes.now other (sym (ap (λ (n : TreeMessage). n.key) (message_at ms i x m l is e) ∙ same))

-- one more message of the key
pub more_messages : (ms : List messages.Message) (i : ℕ) (x : messages.Message) (key : List ℕ) → i < length ms → x ≡ get_or ms i x → same_key key x.key.bytes.now ≡ true
    → ((k : ℕ) (m : TreeMessage) → k < i → slice_get (map message_of ms) k ≡ Some m → m.key ≡ key) → (k : ℕ) (m : TreeMessage) → k < i + 1 → slice_get (map message_of ms) k ≡ Some m → m.key ≡ key
more_messages ms i x key l is same before k m low e = ⊎_elim
    (λ (b : k < i). before k m b e)
    (λ (b : i ≤ k).
    let at : k ≡ i = omega (arith, b, low) in
    sym (ap (λ (n : TreeMessage). n.key) (message_at ms i x m l is (ap (slice_get (map message_of ms)) (sym at) ∙ e))) ∙ sym (same_from key x.key.bytes.now same))
    (cases_lt k i)

-- ---- the newest of them

pub none_there : {X : Type 0} (xs : List X) → (length xs == 0) ≡ true → xs ≡ []
none_there [] e = refl
none_there (x ∷ xs) e = let none : length (x ∷ xs) ≡ 0 = grind (arith, nat_tests) in absurd (omega (arith, none))

-- messages, the last one told for itself
last_told : (ms : List messages.Message) (x : messages.Message) → slice_get ms (length ms - 1) ≡ Some x → map message_of ms ≡ map message_of (take (length ms - 1) ms) ++ message_of x ∷ []
last_told ms x e =
    let within = slice_get_within ms (length ms - 1) x e in
    let whole : take ((length ms - 1) + 1) ms ≡ ms = ap (λ n. take n ms) (let n : (length ms - 1) + 1 ≡ length ms = omega (arith, within) in n) ∙ take-length ms in
    ap (map message_of) (sym whole) ∙ mapped_more message_of ms (length ms - 1) x within (sym (get_or_from_slice_get ms (length ms - 1) x x e))

pub one_at_most : (row : Option lent.Version) → length (rows_of row) ≤ 1
one_at_most None = omega arith
one_at_most (Some v) = omega arith

-- of messages of one key the first has the lowest number
lowest : (ms : List TreeMessage) (m o : TreeMessage) → MessagesRise ms → slice_get ms 0 ≡ Some m → Contains ms o → o.key ≡ m.key → m.number ≤ o.number
unfolding IsStrictlySortedBy
lowest [] m o rise e c same = absurd (none_in_nothing o c)
lowest (x ∷ later) m o rise e c same =
    let is : x ≡ m = ap (λ q. unwrap_or q m) e in
    let number : x.number ≡ m.number = ap (λ (n : TreeMessage). n.number) is in
    ⊎_elim
    (λ (h : x ≡ o). let n : x.number ≡ o.number = ap (λ (n : TreeMessage). n.number) h in omega (arith, n, number))
    (λ (t : Contains later o).
    let less : place_cmp (place_of x) (place_of o) ≡ Less = all_mapped_member (λ q. place_cmp (place_of x) q ≡ Less) place_of later o rise.0 t in
    let n = falls_number x.key x.number o.number (subst (λ k. place_cmp (x.key, x.number) (k, o.number) ≡ Less) (same ∙ sym (ap (λ (n : TreeMessage). n.key) is)) less) in
    omega (arith, n, number))
    (contains_cases x o later c)

with_value : (rows : List Version) (batch : List TreeMessage) (pins : TenantPins) (m : TreeMessage) (value : Option (List ℕ)) → folded (left_by rows) batch ≡ value
    → ((v : List ℕ) → folded (left_by rows) batch ≡ Some v → merged rows batch pins ≡ version_at m (Some v) ∷ []) × (folded (left_by rows) batch ≡ None → merged rows batch pins ≡ []) → merged rows batch pins ≡ version_with m value
with_value rows batch pins m None e both = both.1 e
with_value rows batch pins m (Some v) e both = both.0 v e

-- the newest message of a key whose tenant has no pin alone stays, if the row is older than all messages
pub newest_stays : (key : List ℕ) (rows : List Version) (ms : List messages.Message) (first x : messages.Message) (pins : TenantPins) → length rows ≤ 1 → AreOfOneKey key rows (map message_of ms) → slice_get ms 0 ≡ Some first → slice_get ms (length ms - 1) ≡ Some x → AreOlder first.number rows
    → pins (tenant_of x.key.bytes.now) ≡ [] → StaysAlone rows (map message_of ms) pins (message_of x)
newest_stays key rows ms first x pins one of begins e old none =
    let told = last_told ms x e in
    let older : List TreeMessage = map message_of (take (length ms - 1) ms) in
    let at : slice_get (map message_of ms) 0 ≡ Some (message_of first) = slice_get-map message_of ms 0 ∙ ap (option_map message_of) begins in
    let below : (v : Version) → Contains rows v → (o : TreeMessage) → Contains (map message_of ms) o → v.number < o.number
    = λ v c o d. (let low = lowest (map message_of ms) (message_of first) o of.rise at d (of.messages_are o d ∙ sym (of.messages_are (message_of first) (there (map message_of ms) (message_of first) at))) in
    let high = all_member (λ (w : Version). w.number < first.number) rows v old c in
    omega (arith, low, high)) in
    record {
      is_newest = record { older = older; is_last = told };
      is = ap (λ batch. merged rows batch pins) told
          ∙ with_value rows (older ++ message_of x ∷ []) pins (message_of x) _ refl
          (merged_folded key rows older (message_of x) pins one (subst (AreOfOneKey key rows) told of) (λ v c o d. below v c o (subst (λ batch. Contains batch o) (sym told) d)) none)
          ∙ ap (λ batch. version_with (message_of x) (folded (left_by rows) batch)) (sym told);
    }
  where
    there : (ns : List TreeMessage) (m : TreeMessage) → slice_get ns 0 ≡ Some m → Contains ns m
    there [] m f = absurd (let w = slice_get_within [] 0 m f in omega arith)
    there (n ∷ ns) m f = subst (λ (y : TreeMessage). Contains (n ∷ ns) y) (ap (λ q. unwrap_or q m) f) (contains_here n ns)

-- what a batch makes of a value, by its newest message
pub newest_makes : (value : Option (List ℕ)) (batch : List TreeMessage) (m : TreeMessage) → (newest : IsNewest batch m) → folded value batch ≡ outcome m.op (folded value newest.older)
newest_makes value batch m newest = ap (folded value) newest.is_last ∙ folded_more value newest.older m

-- a run that the first message's key begins isn't empty
pub run_there : (ms : List messages.Message) (d : messages.Message) (count : ℕ) → 0 < length ms → IsRunOf (get_or ms 0 d).key.bytes.now (map message_of ms) count → 0 < count
run_there ms d zero l run = absurd (run.ends (message_of (get_or ms 0 d)) (slice_get-map message_of ms 0 ∙ ap (option_map message_of) (slice_get-get_or ms 0 d l)) refl)
run_there ms d (suc n) l run = omega arith

-- the rest of the messages, and the first of it
pub rest_is : (ms : List messages.Message) (next : ℕ) → map message_of (take (length ms - next) (drop next ms)) ≡ drop next (map message_of ms)
rest_is ms next = ap (map message_of) (take_rest ms next) ∙ sym (drop-map message_of next ms)

pub part_is : (ms : List messages.Message) (next count : ℕ) → map message_of (take count (take (length ms - next) (drop next ms))) ≡ take count (drop next (map message_of ms))
part_is ms next count = sym (take-map message_of count (take (length ms - next) (drop next ms))) ∙ ap (take count) (rest_is ms next)
