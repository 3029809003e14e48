-- How a merge goes on from key to key.
use Rattle.std.proofs.Common.{◌≡◌, ◌≢◌, ℕ, zero, suc, ◌+◌, ◌-◌, ◌<◌, ◌≤◌, List, [], ◌∷◌, ◌++◌, Some, true, false, length, take, drop, map, get_or, refl, ap, ◌∙◌, sym, subst, arith, ⊎_elim, append_assoc, drop-drop}
use Rattle.std.specs.Prelude.{slice_get}
use Rattle.std.specs.Ordering.{is_lt, nat_cmp}
use Rattle.std.specs.Cmp.Lexicographic.{nat_list_cmp_total}
use Rattle.std.specs.Option.{unwrap_or, option_map}
use Rattle.std.specs.declared.cmp.Ordering.TheVariants.{Less}
use Rattle.std.proofs.lemmas.Bool.{cases_order, true≢false}
use Rattle.std.proofs.lemmas.Grind.{common_steps}
use Rattle.std.proofs.Math.ListN.{drop_of_length-le}
use Rattle.std.proofs.lemmas.List.{drop-take, length-drop, length-take}
use Rattle.std.proofs.Math.Seq.{take-length}
use Rattle.std.proofs.lemmas.Option.{slice_get-map, slice_get-get_or, slice_get_within}
use Rattle.stow_page.specs.StowBytes.Bytes.{bytes_cmp}
use Rattle.stow_page.specs.Format.{IsVersion, AreVersions}
use Rattle.stow_page.specs.Rows.{IsCountFrom, is_above}
use Rattle.stow_page.proofs.Looked.{all_at, rise_at, lower_at}
use Rattle.stow_page.specs.StowTreeModel.Agreement.{TenantPins}
use Rattle.stow_page.specs.StowTreeModel.Merged.{merged, rows_set}
use Rattle.stow_page.specs.StowTreeModel.Messages.{with_all}
use Rattle.stow_page.specs.StowTreeModel.Order.{place_cmp, place_of, version_place, MessagesRise, VersionsRise}
use Rattle.stow_page.specs.StowTreeModel.TreeMessage.{TreeMessage}
use Rattle.stow_page.specs.StowTreeModel.Value.{IsValue}
use Rattle.stow_page.specs.StowTreeModel.Version.{Version}
use Rattle.stow_page.proofs.StowTreeModel.Histories.{falls_key}
use Rattle.stow_page.proofs.StowTreeModel.Orders.{key_cases, less_within}
use Rattle.stow_page.proofs.StowTreeModel.Pruning.{pruning}
use Rattle.stow_page.proofs.StowTreeModel.Rising.{less_from}
use Rattle.stow_merge.specs.OneKey.{AreOfOneKey, CanFollow, IsRowOf, IsRunOf}
use Rattle.stow_merge.specs.Pages.{HaveShortValues}
use Rattle.stow_merge.proofs.KeyLemmas.{rises_front}
use Rattle.stow_merge.proofs.RisingMessages.{messages_take, messages_drop}
use Rattle.stow_merge.proofs.Lists.{all_split}
use Rattle.stow_merge.proofs.Settled.{AreSettled, merged_settled, settled_at, settled_drop}
use Rattle.stow_merge.proofs.Steps.{IsKeyNext, merged_step, taken_have}

-- ---- items by their index

pub slice_get-drop : {X : Type 0} (xs : List X) (from i : ℕ) → slice_get (drop from xs) i ≡ slice_get xs (from + i)
slice_get-drop xs zero i = ap (slice_get xs) (let n : i ≡ 0 + i = omega arith in n)
slice_get-drop [] (suc from) i = refl
slice_get-drop (x ∷ xs) (suc from) i = slice_get-drop xs from i ∙ ap (slice_get (x ∷ xs)) (let n : suc (from + i) ≡ suc from + i = omega arith in n)

slice_get-take : {X : Type 0} (xs : List X) (n i : ℕ) → i < n → slice_get (take n xs) i ≡ slice_get xs i
slice_get-take xs zero i l = absurd (omega arith)
slice_get-take [] (suc n) i l = refl
slice_get-take (x ∷ xs) (suc n) zero l = refl
slice_get-take (x ∷ xs) (suc n) (suc i) l = slice_get-take xs n i (omega arith)

one_of : {X : Type 0} (xs : List X) (i : ℕ) (x y : X) → slice_get xs i ≡ Some x → slice_get xs i ≡ Some y → x ≡ y
one_of xs i x y e f = ap (λ o. unwrap_or o x) (sym e ∙ f)

there_before : {X : Type 0} (xs : List X) (i j : ℕ) (x : X) → i ≤ j → slice_get xs j ≡ Some x → slice_get xs i ≡ Some (get_or xs i x)
there_before xs i j x l e = slice_get-get_or xs i x (let w = slice_get_within xs j x e in omega (arith, l, w))

messages_rise_at : (ms : List TreeMessage) (i j : ℕ) (m n : TreeMessage) → MessagesRise ms → i < j → slice_get ms i ≡ Some m → slice_get ms j ≡ Some n → place_cmp (place_of m) (place_of n) ≡ Less
messages_rise_at ms i j m n rise low e f = rise_at (map place_of ms) i j (place_of m) (place_of n) rise low
    (slice_get-map place_of ms i ∙ ap (option_map place_of) e) (slice_get-map place_of ms j ∙ ap (option_map place_of) f)

-- ---- keys beside one

below_key : (key : List ℕ) (v : Version) → is_above (key, 0) v ≡ false → 1 ≤ v.number → bytes_cmp v.key key ≡ Less
below_key key v h n = ⊎_elim
    (λ s. absurd (true≢false (sym (ap is_lt (subst (λ k. place_cmp (key, 0) (k, v.number) ≡ Less) s.0 (less_within key 0 v.number n))) ∙ h)))
    (λ o. lower_at key v.key (nat_cmp 0 v.number) h (λ e. o.0 (sym e)))
    (key_cases key v.key)

above_key : (key : List ℕ) (v : Version) → is_above (key, 0) v ≡ true → v.key ≢ key → bytes_cmp key v.key ≡ Less
above_key key v h ne = falls_key (key, 0) (version_place v) (less_from _ h) ne

-- a key at a place or above it is above what is below that place
above_from : (low key high : List ℕ) → bytes_cmp low key ≡ Less → (high ≢ key → bytes_cmp key high ≡ Less) → bytes_cmp low high ≡ Less
above_from low key high l h = ⊎_elim
    (λ s. subst (λ k. bytes_cmp low k ≡ Less) s.0 l)
    (λ o. nat_list_cmp_total.trans low key high l (h (λ e. o.0 (sym e))))
    (key_cases key high)

row_above : (rows : List Version) (key : List ℕ) (from to : ℕ) (row : List Version) → AreSettled rows → IsCountFrom rows (key, 0) from to → IsRowOf rows to key row
    → (at : ℕ) (v : Version) → to + length row ≤ at → slice_get rows at ≡ Some v → bytes_cmp key v.key ≡ Less
row_above rows key from to row settled counted of at v low e = ⊎_elim
    (λ (here : at ≡ to).
    let f : slice_get rows to ≡ Some v = ap (slice_get rows) (sym here) ∙ e in
    let none : row ≡ [] = empty row (omega (arith, low, here)) in
    above_key key v (counted.above to v (omega arith) (slice_get_within rows to v f) f) (of.is_found v none f))
    (λ c. ⊎_elim
    (λ (wrong : at < to). absurd (omega (arith, low, wrong)))
    (λ (behind : to < at).
    let w : Version = get_or rows to v in
    let f : slice_get rows to ≡ Some w = there_before rows to at v (omega (arith, behind)) e in
    let less : bytes_cmp w.key v.key ≡ Less = settled_at rows to at w v settled behind f e in
    ⊎_elim
    (λ s. subst (λ k. bytes_cmp k v.key ≡ Less) (sym s.0) less)
    (λ o. nat_list_cmp_total.trans key w.key v.key (above_key key w (counted.above to w (omega arith) (slice_get_within rows to w f) f) (λ g. o.0 (sym g))) less)
    (key_cases key w.key))
    c)
    (cases_order at to)
  where
    empty : (vs : List Version) → length vs ≤ 0 → vs ≡ []
    empty [] l = refl
    empty (x ∷ vs) l = absurd (omega arith)

message_above : (batch : List TreeMessage) (key : List ℕ) (count : ℕ) → MessagesRise batch → IsRunOf key batch count → 0 < count
    → (at : ℕ) (m : TreeMessage) → count ≤ at → slice_get batch at ≡ Some m → bytes_cmp key m.key ≡ Less
message_above batch key count rise run some at m low e =
    let first : TreeMessage = get_or batch 0 m in
    let f : slice_get batch 0 ≡ Some first = there_before batch 0 at m (omega arith) e in
    let own : first.key ≡ key = run.are 0 first some f in
    let next : TreeMessage = get_or batch count m in
    let g : slice_get batch count ≡ Some next = there_before batch count at m low e in
    let over : bytes_cmp key next.key ≡ Less = subst (λ k. bytes_cmp k next.key ≡ Less) own (falls_key (place_of first) (place_of next) (messages_rise_at batch 0 count first next rise some f g) (λ s. run.ends next g (s ∙ own))) in
    ⊎_elim
    (λ (here : at ≡ count). subst (λ (n : TreeMessage). bytes_cmp key n.key ≡ Less) (one_of batch count next m g (ap (slice_get batch) (sym here) ∙ e)) over)
    (λ c. ⊎_elim
    (λ (wrong : at < count). absurd (omega (arith, low, wrong)))
    (λ (behind : count < at). above_from key next.key m.key over (λ ne. falls_key (place_of next) (place_of m) (messages_rise_at batch count at next m rise behind g e) ne))
    c)
    (cases_order at count)

key_next : (rows : List Version) (batch : List TreeMessage) (key : List ℕ) (from to : ℕ) (row : List Version) (count : ℕ) → AreSettled rows → AreVersions rows → MessagesRise batch
    → IsCountFrom rows (key, 0) from to → IsRowOf rows to key row → IsRunOf key batch count → 0 < count → IsKeyNext (drop from rows) batch key (to - from) (length row) count
key_next rows batch key from to row count settled are rise counted of run some = record {
  rows_below = λ i v low e.
      (let f : slice_get rows (from + i) ≡ Some v = sym (slice_get-drop rows from i) ∙ e in
      let order = counted.order in
      below_key key v (counted.up_to (from + i) v (omega arith) (omega (arith, low, order)) f) (all_at IsVersion rows (from + i) v are f).is_numbered.0);
  rows_of = λ i v low high e.
      (let order = counted.order in
      let j : ℕ = i - (to - from) in
      let at : from + i ≡ to + j = omega (arith, low, order) in
      let within : j < length row = omega (arith, low, high) in
      let there : slice_get row j ≡ Some v = ap (λ vs. slice_get vs j) of.stands ∙ slice_get-take (drop to rows) (length row) j within ∙ slice_get-drop rows to j ∙ ap (slice_get rows) (sym at) ∙ sym (slice_get-drop rows from i) ∙ e in
      all_at (λ (w : Version). w.key ≡ key) row j v of.is_of_key there);
  rows_above = λ i v low e. row_above rows key from to row settled counted of (from + i) v (let order = counted.order in omega (arith, low, order)) (sym (slice_get-drop rows from i) ∙ e);
  messages_of = run.are;
  messages_above = message_above batch key count rise run some;
}

-- ---- one key more

-- what is left of a merge: rows up to the next key, what stays of that key, and what is left behind it
next_told : (rows : List Version) (later : List TreeMessage) (pins : TenantPins) (key : List ℕ) (from to : ℕ) (row : List Version) (count : ℕ) → AreSettled rows → AreVersions rows → MessagesRise later
    → IsCountFrom rows (key, 0) from to → IsRowOf rows to key row → IsRunOf key later count → 0 < count
    → merged (drop from rows) later pins ≡ drop from (take to rows) ++ (merged row (take count later) pins ++ merged (drop (to + length row) rows) (drop count later) pins)
next_told rows later pins key from to row count settled are rise counted of run some =
    let order = counted.order in
    let before : ℕ = to - from in
    let whole : from + before ≡ to = omega (arith, order) in
    let front : take before (drop from rows) ≡ drop from (take to rows) = sym (drop-take from before rows) ∙ ap (λ n. drop from (take n rows)) whole in
    let own : drop before (take (before + length row) (drop from rows)) ≡ row = drop-take before (length row) (drop from rows) ∙ ap (take (length row)) (drop-drop before from rows ∙ ap (λ n. drop n rows) whole) ∙ sym of.stands in
    let back : drop (before + length row) (drop from rows) ≡ drop (to + length row) rows = drop-drop (before + length row) from rows ∙ ap (λ n. drop n rows) (let n : from + (before + length row) ≡ to + length row = omega (arith, whole) in n) in
    merged_step (drop from rows) later pins key before (length row) count (settled_drop from rows settled) (key_next rows later key from to row count settled are rise counted of run some)
    ∙ (λ i. front i ++ (merged (own i) (take count later) pins ++ merged (back i) (drop count later) pins))

-- so much of rows and messages is merged
pub record IsMergedUpTo (rows : List Version) (batch : List TreeMessage) (pins : TenantPins) (packed : List Version) (from next : ℕ) : Type 0 where
  pub within : from ≤ length rows
  pub is : merged rows batch pins ≡ packed ++ merged (drop from rows) (drop next batch) pins

-- a key's row and messages, found where a merge stands
pub record IsNext (rows : List Version) (later : List TreeMessage) (from to : ℕ) (row : List Version) (count : ℕ) : Type 0 where
  pub key : List ℕ
  pub counted : IsCountFrom rows (key, 0) from to
  pub of : IsRowOf rows to key row
  pub run : IsRunOf key later count
  pub some : 0 < count

-- what a merge asks of a leaf's rows to go on from key to key
pub record AreRows (rows : List Version) : Type 0 where
  pub settled : AreSettled rows
  pub are : AreVersions rows

told : (rows : List Version) (batch : List TreeMessage) (pins : TenantPins) (packed : List Version) (from next to : ℕ) (row : List Version) (count : ℕ) → AreRows rows → MessagesRise batch → IsMergedUpTo rows batch pins packed from next → IsNext rows (drop next batch) from to row count
    → merged rows batch pins ≡ packed ++ (drop from (take to rows) ++ (merged row (take count (drop next batch)) pins ++ merged (drop (to + length row) rows) (drop count (drop next batch)) pins))
told rows batch pins packed from next to row count are rise upto n =
    upto.is ∙ ap (λ vs. packed ++ vs) (next_told rows (drop next batch) pins n.key from to row count are.settled are.are (messages_drop next batch rise) n.counted n.of n.run n.some)

pub run_rises : (rows : List Version) (batch : List TreeMessage) (pins : TenantPins) (packed : List Version) (from next to : ℕ) (row : List Version) (count : ℕ) → AreRows rows → MessagesRise batch → IsMergedUpTo rows batch pins packed from next → IsNext rows (drop next batch) from to row count
    → VersionsRise (packed ++ drop from (take to rows))
run_rises rows batch pins packed from next to row count are rise upto n =
    rises_front (packed ++ drop from (take to rows)) _
    (subst VersionsRise (told rows batch pins packed from next to row count are rise upto n ∙ sym (append_assoc packed (drop from (take to rows)) _)) (pruning pins (with_all (rows_set rows) batch)).rises)

pub key_follows : (rows : List Version) (batch : List TreeMessage) (pins : TenantPins) (packed : List Version) (from next to : ℕ) (row : List Version) (count : ℕ) → AreRows rows → MessagesRise batch → HaveShortValues (merged rows batch pins) → IsMergedUpTo rows batch pins packed from next → IsNext rows (drop next batch) from to row count
    → CanFollow (packed ++ drop from (take to rows)) row (take count (drop next batch)) pins
key_follows rows batch pins packed from next to row count are rise short upto n =
    let run : List Version = drop from (take to rows) in
    let kept : List Version = merged row (take count (drop next batch)) pins in
    let back : List Version = merged (drop (to + length row) rows) (drop count (drop next batch)) pins in
    let all : merged rows batch pins ≡ (packed ++ run) ++ (kept ++ back) = told rows batch pins packed from next to row count are rise upto n ∙ sym (append_assoc packed run (kept ++ back)) in
    record {
      rises = rises_front ((packed ++ run) ++ kept) back (subst VersionsRise (all ∙ sym (append_assoc (packed ++ run) kept back)) (pruning pins (with_all (rows_set rows) batch)).rises);
      are_short = (all_split (λ (v : Version). IsValue v.value) kept back (all_split (λ (v : Version). IsValue v.value) (packed ++ run) (kept ++ back) (subst HaveShortValues all short)).1).0;
    }

pub of_one_key : (rows : List Version) (batch : List TreeMessage) (from next to : ℕ) (row : List Version) (count : ℕ) → MessagesRise batch → (n : IsNext rows (drop next batch) from to row count) → AreOfOneKey n.key row (take count (drop next batch))
of_one_key rows batch from next to row count rise n = record {
  rows_are = n.of.is_of_key;
  messages_are = taken_have (λ (m : TreeMessage). m.key ≡ n.key) (drop next batch) count n.run.are;
  rise = messages_take count (drop next batch) (messages_drop next batch rise);
}

pub row_within : (rows : List Version) (to : ℕ) (row : List Version) → to ≤ length rows → row ≡ take (length row) (drop to rows) → to + length row ≤ length rows
row_within rows to row w s = let l : length row ≤ length rows - to = fits row (length row) s in omega (arith, w, l)
  where
    fits : (xs : List Version) (k : ℕ) → xs ≡ take k (drop to rows) → length xs ≤ length rows - to
    fits xs k e = let a = ap length e in let b = length-take k (drop to rows) in let c = length-drop to rows in grind (arith, common_steps)

pub goes_on : (rows : List Version) (batch : List TreeMessage) (pins : TenantPins) (packed run fresh : List Version) (from next to : ℕ) (row : List Version) (count : ℕ) → AreRows rows → MessagesRise batch → IsMergedUpTo rows batch pins packed from next → IsNext rows (drop next batch) from to row count
    → run ≡ packed ++ drop from (take to rows) → fresh ≡ run ++ merged row (take count (drop next batch)) pins → IsMergedUpTo rows batch pins fresh (to + length row) (next + count)
goes_on rows batch pins packed run fresh from next to row count are rise upto n e f =
    let kept : List Version = merged row (take count (drop next batch)) pins in
    let back : List Version = merged (drop (to + length row) rows) (drop count (drop next batch)) pins in
    let middle : List Version = drop from (take to rows) in
    let last : drop count (drop next batch) ≡ drop (next + count) batch = drop-drop count next batch in
    record {
      within = row_within rows to row n.counted.within n.of.stands;
      is = told rows batch pins packed from next to row count are rise upto n ∙ sym (append_assoc packed middle (kept ++ back)) ∙ sym (append_assoc (packed ++ middle) kept back)
          ∙ (λ i. (sym e i ++ kept) ++ merged (drop (to + length row) rows) (last i) pins) ∙ (λ i. sym f i ++ merged (drop (to + length row) rows) (drop (next + count) batch) pins);
    }

pub begins : (rows : List Version) (batch : List TreeMessage) (pins : TenantPins) (packed : List Version) → packed ≡ [] → IsMergedUpTo rows batch pins packed 0 0
begins rows batch pins packed e = record { within = omega arith; is = ap (λ vs. vs ++ merged rows batch pins) (sym e) }

-- all messages are merged: the rows that are left stay as they are
pub ends_with : (rows : List Version) (batch : List TreeMessage) (pins : TenantPins) (packed : List Version) (from next : ℕ) → AreRows rows → IsMergedUpTo rows batch pins packed from next → length batch ≤ next → merged rows batch pins ≡ packed ++ drop from (take (length rows) rows)
ends_with rows batch pins packed from next are upto l =
    upto.is
    ∙ (λ i. packed ++ merged (drop from rows) (drop_of_length-le batch l i) pins)
    ∙ ap (λ vs. packed ++ vs) (merged_settled (drop from rows) pins (settled_drop from rows are.settled))
    ∙ ap (λ vs. packed ++ drop from vs) (sym (take-length rows))
