-- Parts of the versions of one block, each alone of its key.
use Rattle.std.proofs.Common.{◌≡◌, ◌≢◌, ℕ, ◌+◌, ◌-◌, ◌<◌, ◌≤◌, ◌^◌, List, [], ◌∷◌, ◌++◌, Some, length, take, drop, map, refl, ap, ◌∙◌, sym, subst, arith, ⊎_elim}
use Rattle.std.specs.Prelude.{Contains, slice_get, false}
use Rattle.std.specs.List.{AllByRecursion}
use Rattle.std.specs.declared.cmp.Ordering.TheVariants.{Less}
use Rattle.std.proofs.lemmas.Bool.{cases_lt}
use Rattle.std.proofs.lemmas.List.{append-nil, map-append, take-map, drop-map, take_more, take-take, drop-append-le, length-take-le, length-map}
use Rattle.std.proofs.lemmas.Option.{slice_get_within, get_or_from_slice_get}
use Rattle.stow_page.specs.StowBytes.Bytes.{bytes_cmp}
use Rattle.stow_page.specs.Format.{entry, entries, format_of, packed_page, AreVersions}
use Rattle.stow_page.specs.Rows.{AreApart}
use Rattle.stow_page.specs.declared.format.Format.{Format}
use Rattle.stow_page.specs.StowTreeModel.Merged.{same_key}
use Rattle.stow_page.specs.StowTreeModel.Order.{VersionsRise}
use Rattle.stow_page.specs.StowTreeModel.Version.{Version}
use Rattle.stow_page.proofs.StowTreeModel.Latest.{contains_cases}
use Rattle.stow_page.proofs.StowTreeModel.Pruning.{none_in_nothing}
use Rattle.stow_merge.specs.Cuts.{size_between, ArePages}
use Rattle.stow_merge.specs.Pages.{read_in_order, ArePagesOf, HaveShortValues, KeysBelow}
use Rattle.stow_merge.specs.Parts.{alone, parts_at}
use Rattle.stow_merge.specs.Writing.{AreSizes, CanPack, at_least_one_page, pages_at}
use Rattle.stow_merge.proofs.Climbing.{KeysClimb, climb}
use Rattle.stow_merge.proofs.KeyLemmas.{KeysRise}
use Rattle.stow_merge.proofs.Lists.{all_join, all_member, split_at}
use Rattle.stow_merge.proofs.PageLemmas.{AreWritten, can_front, can_pack}
use Rattle.stow_merge.proofs.PagedLemmas.{AreKeys, are_written, one_page_of, pages_of}
use Rattle.stow_merge.proofs.WritingLemmas.{other_from}

-- ---- one version more

took_more : (vs : List Version) (i : ℕ) (v : Version) → slice_get vs i ≡ Some v → take (i + 1) vs ≡ take i vs ++ v ∷ []
took_more vs i v e = take_more vs i v (slice_get_within vs i v e) ∙ ap (λ w. take i vs ++ w ∷ []) (get_or_from_slice_get vs i v v e)

pub part_more : (vs : List Version) (from i : ℕ) (v : Version) → from ≤ i → slice_get vs i ≡ Some v → drop from (take (i + 1) vs) ≡ drop from (take i vs) ++ v ∷ []
part_more vs from i v l e =
    let low : i ≤ length vs = (let w = slice_get_within vs i v e in omega (arith, w)) in
    ap (drop from) (took_more vs i v e) ∙ drop-append-le from (take i vs) (v ∷ []) (subst (λ n. from ≤ n) (sym (length-take-le i vs low)) l)

-- what a part and the next version are, if the whole part can be packed
pub pack_more : (vs : List Version) (from i to : ℕ) (v : Version) → from ≤ i → i < to → slice_get vs i ≡ Some v → CanPack (drop from (take to vs)) → CanPack (drop from (take i vs) ++ v ∷ [])
pack_more vs from i to v l m e can =
    subst CanPack (part_more vs from i v l e)
    (can_front (drop from (take (i + 1) vs)) (drop (i + 1) (take to vs))
    (subst CanPack (split_at from (i + 1) (take to vs) (omega arith) ∙ ap (λ xs. drop from xs ++ drop (i + 1) (take to vs)) (take-take (i + 1) to vs (omega arith))) can))

-- ---- keys of versions beside each other

pub apart_more : (vs : List Version) (i : ℕ) (a b : Version) → 1 ≤ i → slice_get vs (i - 1) ≡ Some a → slice_get vs i ≡ Some b → same_key a.key b.key ≡ false
    → ((k : ℕ) (v w : Version) → k + 1 < i → slice_get vs k ≡ Some v → slice_get vs (k + 1) ≡ Some w → v.key ≢ w.key)
    → (k : ℕ) (v w : Version) → k + 1 < i + 1 → slice_get vs k ≡ Some v → slice_get vs (k + 1) ≡ Some w → v.key ≢ w.key
apart_more vs i a b one ea eb other before k v w low e f = ⊎_elim
    (λ (lower : k + 1 < i). before k v w lower e f)
    (λ (same : i ≤ k + 1).
    let at : k ≡ i - 1 = omega (arith, same, low) in
    let next : k + 1 ≡ i = omega (arith, same, low) in
    let first : a.key ≡ v.key = ap (λ (u : Version). u.key) (sym (get_or_from_slice_get vs (i - 1) a a ea) ∙ get_or_from_slice_get vs (i - 1) v a (ap (slice_get vs) (sym at) ∙ e)) in
    let second : b.key ≡ w.key = ap (λ (u : Version). u.key) (sym (get_or_from_slice_get vs i b b eb) ∙ get_or_from_slice_get vs i w b (ap (slice_get vs) (sym next) ∙ f)) in
    λ (z : v.key ≡ w.key). other_from a.key b.key other (first ∙ z ∙ sym second))
    (cases_lt (k + 1) i)

-- ---- sizes

entry_alone : (format : Format) (v : Version) → length (entries format (alone v)) ≡ length (entry format v)
entry_alone format v = ap length (append-nil (entry format v))

pub sizes_more : (format : Format) (vs : List Version) (sizes more : List ℕ) (i : ℕ) (v : Version) (size : ℕ) → slice_get vs i ≡ Some v → size ≡ length (entry format v) → size ≤ 1049619 → more ≡ sizes ++ size ∷ [] → AreSizes format (map alone (take i vs)) sizes → AreSizes format (map alone (take (i + 1) vs)) more
sizes_more format vs sizes more i v size e s small m h =
    let measure : List Version → ℕ = λ key. length (entries format key) in
    record {
      are = m
          ∙ (λ j. h.are j ++ (s ∙ sym (entry_alone format v)) j ∷ [])
          ∙ sym (map-append measure (map alone (take i vs)) (alone v ∷ []))
          ∙ ap (map measure) (sym (map-append alone (take i vs) (v ∷ [])) ∙ ap (map alone) (sym (took_more vs i v e)));
      are_small = subst (AllByRecursion (λ (n : ℕ). n ≤ 68225235)) (sym m) (all_join (λ (n : ℕ). n ≤ 68225235) sizes (size ∷ []) h.are_small ((let n : size ≤ 68225235 = omega (arith, small) in n), tt));
    }

-- ---- ends

pages_end : (sizes : List ℕ) (room from : ℕ) (ends : List ℕ) (to : ℕ) → ArePages sizes room from ends to → from ≤ to
pages_end sizes room from [] to h = omega arith
pages_end sizes room from (next ∷ ends) to h = let more = pages_end sizes room next ends to h.1 in let l = h.0.is_filled in omega (arith, more, l)

-- the first of some pages ends within the versions
pub first_within : (format : Format) (vs : List Version) (sizes : List ℕ) (room from next : ℕ) (ends : List ℕ) → AreSizes format (map alone vs) sizes → ArePages sizes room from (next ∷ ends) (length sizes) → next ≤ length vs
first_within format vs sizes room from next ends s h =
    let more = pages_end sizes room next ends (length sizes) h.1 in
    let count : length sizes ≡ length vs = ap length s.are ∙ length-map (map alone vs) (λ key. length (entries format key)) ∙ length-map vs alone in
    omega (arith, more, count)

-- ---- versions, each alone of its key

read_alone : (vs : List Version) → read_in_order (map alone vs) ≡ vs
read_alone [] = refl
read_alone (v ∷ vs) = ap (λ ws. v ∷ ws) (read_alone vs)

pages_alone : (vs : List Version) (from : ℕ) (ends : List ℕ) → pages_at (map alone vs) from ends ≡ parts_at vs from ends
pages_alone vs from [] = refl
pages_alone vs from (next ∷ ends) = λ i.
    (ap read_in_order (ap (drop from) (take-map alone next vs) ∙ drop-map alone from (take next vs)) ∙ read_alone (drop from (take next vs))) i ∷ pages_alone vs next ends i

only_one : (v w : Version) → Contains (v ∷ []) w → v ≡ w
only_one v w c = ⊎_elim (λ (e : v ≡ w). e) (λ (t : Contains [] w). absurd (none_in_nothing w t)) (contains_cases v w [] c)

keys_climb : (vs : List Version) → KeysClimb vs → KeysRise (map alone vs)
keys_climb [] h = tt
keys_climb (v ∷ vs) h = (
  (λ e. cc),
  record { are_of_key = λ a b c d. ap (λ (u : Version). u.key) (sym (only_one v a c) ∙ only_one v b d) },
  subst (KeysBelow (v ∷ [])) (sym (read_alone vs)) (record {
    are_below = λ a w c d. subst (λ (u : Version). bytes_cmp u.key w.key ≡ Less) (only_one v a c) (all_member (λ (u : Version). bytes_cmp v.key u.key ≡ Less) vs w h.0 d);
  }),
  keys_climb vs h.1,
)

keys_alone : (vs : List Version) → VersionsRise vs → AreApart vs → AreKeys vs (map alone vs)
keys_alone vs rise apart = record { rise = keys_climb vs (climb vs rise apart); are = read_alone vs }

short_values : (vs : List Version) → AreVersions vs → HaveShortValues vs
short_values [] h = tt
short_values (v ∷ vs) h = (h.0.is_short, short_values vs h.1)

-- ---- a block, cut

-- what is known of a block of which each key has one version, of its entries' sizes and of the ends by these
pub record IsCut (target room : ℕ) (vs : List Version) (sizes ends : List ℕ) : Type 0 where
  pub is_low : target < 2 ^ 32
  pub is_room : room ≡ target - 5
  pub rise : VersionsRise vs
  pub are_versions : AreVersions vs
  pub are_apart : AreApart vs
  pub are_sizes : AreSizes (format_of vs) (map alone vs) sizes
  pub are_ends : ArePages sizes room 0 ends (length sizes)

cut_parts : (target room : ℕ) (vs : List Version) (sizes ends : List ℕ) → IsCut target room vs sizes ends → AreWritten target (map alone vs) 0 (parts_at vs 0 ends)
cut_parts target room vs sizes ends h =
    subst (AreWritten target (map alone vs) 0) (pages_alone vs 0 ends)
    (are_written target room vs (map alone vs) sizes ends h.is_low h.is_room (keys_alone vs h.rise h.are_apart) h.are_sizes h.are_ends)

pub can_part : (target room : ℕ) (vs : List Version) (sizes ends : List ℕ) → IsCut target room vs sizes ends → AllByRecursion CanPack (parts_at vs 0 ends)
can_part target room vs sizes ends h =
    let w = cut_parts target room vs sizes ends h in
    let all : vs ≡ read_in_order (parts_at vs 0 ends) = sym (w.are ∙ read_alone vs) in
    can_pack (parts_at vs 0 ends) w.have_room (subst VersionsRise all h.rise) (subst HaveShortValues all (short_values vs h.are_versions))

pub parts_of : (target room : ℕ) (vs : List Version) (sizes ends : List ℕ) → IsCut target room vs sizes ends → (size_between sizes 0 (length sizes) ≤ room → length ends ≤ 1) → ArePagesOf vs target (at_least_one_page (parts_at vs 0 ends))
parts_of target room vs sizes ends h one =
    pages_of target vs (map alone vs) (parts_at vs 0 ends)
    (subst (λ ps. length (packed_page vs) ≤ target → length ps ≤ 1) (pages_alone vs 0 ends) (one_page_of target room vs (map alone vs) sizes ends h.is_room (keys_alone vs h.rise h.are_apart) h.are_sizes one))
    (keys_alone vs h.rise h.are_apart) (cut_parts target room vs sizes ends h)
