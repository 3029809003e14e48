-- The pages of keys.
use Rattle.std.proofs.Common.{◌≡◌, ◌≢◌, ◌⊎◌, ℕ, ◌+◌, ◌-◌, ◌<◌, ◌≤◌, ◌^◌, List, [], ◌∷◌, ◌++◌, length, take, drop, map, refl, ap, ◌∙◌, sym, subst, arith, ⊎_elim, inl, inr, length-append, length-drop, append_assoc}
use Rattle.std.specs.Prelude.{Contains, sum}
use Rattle.std.specs.List.{AllByRecursion, sum_by}
use Rattle.std.proofs.lemmas.Grind.{flat_map-append}
use Rattle.std.proofs.lemmas.List.{append-nil, take-map, drop-map, length-take-le}
use Rattle.std.proofs.lemmas.List.Elements.{Contains-append_right, Contains-append_cases}
use Rattle.std.proofs.lemmas.List.Sums.{sum-map, sum_by-cons}
use Rattle.std.proofs.Math.Seq.{drop-length}
use Rattle.stow_page.proofs.Pushed.{length-entries, length-entry}
use Rattle.stow_page.specs.Format.{entry, entries, packed_page}
use Rattle.stow_page.specs.declared.format.Format.{Format}
use Rattle.stow_page.specs.StowTreeModel.Order.{VersionsRise}
use Rattle.stow_page.specs.StowTreeModel.Version.{Version}
use Rattle.stow_page.proofs.StowTreeModel.Pruning.{none_in_nothing}
use Rattle.stow_merge.specs.Cuts.{size_between, ArePages}
use Rattle.stow_merge.specs.Pages.{read_in_order, HaveOneKey, HaveShortValues, KeysBelow, IsLeafPage, AreLeafPages}
use Rattle.stow_merge.specs.Writing.{CanPack, CanMerge, AreFewAndShort, pages_at}
use Rattle.stow_merge.proofs.Formats.{AreToldIn, front_within, page_within}
use Rattle.stow_merge.proofs.KeyLemmas.{KeysRise, rises_front, rises_after}
use Rattle.stow_merge.proofs.Lists.{all_split, front_filled, split_at}

-- ---- sizes

has_bytes : (format : Format) (v : Version) → 1 ≤ length (entry format v)
has_bytes format v = let l = length-entry format v in omega arith

page_has_bytes : (format : Format) (versions : List Version) → versions ≢ [] → 1 ≤ length (entries format versions)
page_has_bytes format [] h = absurd (h refl)
page_has_bytes format (v ∷ versions) h = let one = has_bytes format v in let both = length-append (entry format v) (entries format versions) in omega arith

pub size-read : (format : Format) (keys : List (List Version)) → length (entries format (read_in_order keys)) ≡ sum_by (λ key. length (entries format key)) keys
size-read format [] = refl
size-read format (key ∷ keys) =
    length-entries format key (read_in_order keys)
    ∙ ap (λ n. length (entries format key) + n) (size-read format keys)
    ∙ sym (sum_by-cons (λ key. length (entries format key)) key keys)

-- ---- keys

keys_below : (keys later : List (List Version)) → KeysRise (keys ++ later) → KeysBelow (read_in_order keys) (read_in_order later)
keys_below [] later h = record { are_below = λ v w c d. absurd (none_in_nothing v c) }
keys_below (key ∷ keys) later h = record {
  are_below = λ v w c d. ⊎_elim
      (λ (t : Contains key v). h.2.are_below v w t (subst (λ vs. Contains vs w) (sym (flat_map-append (λ p. p) keys later)) (Contains-append_right (read_in_order keys) (read_in_order later) w d)))
      (λ (t : Contains (read_in_order keys) v). (keys_below keys later h.3).are_below v w t d)
      (Contains-append_cases key (read_in_order keys) v c);
}

keys_after : (keys later : List (List Version)) → KeysRise (keys ++ later) → KeysRise later
keys_after [] later h = h
keys_after (key ∷ keys) later h = keys_after keys later h.3

-- each key's versions are few and short
pub keys_short : (versions before : List Version) (keys : List (List Version)) → CanMerge versions → versions ≡ before ++ read_in_order keys → KeysRise keys → AllByRecursion AreFewAndShort keys
keys_short versions before [] can e h = tt
keys_short versions before (key ∷ keys) can e h = (
  record {
    few = can.are_few before key (read_in_order keys) e h.1;
    are_short = (all_split _ key (read_in_order keys) (all_split _ before (key ++ read_in_order keys) (subst HaveShortValues e can.are_short)).1).0;
  },
  keys_short versions (before ++ key) keys can (e ∙ sym (append_assoc before key (read_in_order keys))) h.3,
)

-- ---- pages

abbrev Small : Format → List (List Version) → Type 0
Small format = AllByRecursion (λ key. length (entries format key) ≤ 68225235)

abbrev HasRoom : List Version → Type 0
HasRoom page = length (packed_page page) < 2 ^ 32

-- a page of keys is within the target where the keys' sizes are, in a format that tells the lengths of its values
one_page : (target : ℕ) (format : Format) (page later : List (List Version)) → target < 2 ^ 32 → KeysRise (page ++ later) → Small format (page ++ later) → AreToldIn format (read_in_order page) → 0 < length page → (sum_by (λ key. length (entries format key)) page ≤ target - 5) ⊎ (length page ≡ 1)
    → IsLeafPage target (read_in_order page) (read_in_order later) × HasRoom (read_in_order page)
one_page target format [] later low h small told some fit = absurd (omega arith)
one_page target format (key ∷ keys) later low h small told some fit =
    let filled : key ++ read_in_order keys ≢ [] = front_filled key (read_in_order keys) h.0 in
    let bytes = page_has_bytes format (key ++ read_in_order keys) filled in
    let whole = page_within format (key ++ read_in_order keys) told in
    let size = size-read format (key ∷ keys) in
    let first = sum_by-cons (λ k. length (entries format k)) key keys in
    let one : length (key ∷ keys) ≡ 1 → keys ≡ [] = λ e. elim keys as (λ ks. length (key ∷ ks) ≡ 1 → ks ≡ []) [ [] ↦ λ e. refl | k ∷ ks ↦ λ e. absurd (omega arith) ] e in (
      record {
        is_filled = filled;
        fits = ⊎_elim
            (λ (s : sum_by (λ k. length (entries format k)) (key ∷ keys) ≤ target - 5). λ (above : target < length (packed_page (key ++ read_in_order keys))). absurd (omega arith))
            (λ (s : length (key ∷ keys) ≡ 1). λ above. subst (λ ks. HaveOneKey (key ++ read_in_order ks)) (sym (one s)) (subst HaveOneKey (sym (append-nil key)) h.1))
            fit;
        is_below = keys_below (key ∷ keys) later h;
      },
      ⊎_elim
          (λ (s : sum_by (λ k. length (entries format k)) (key ∷ keys) ≤ target - 5). let l : length (packed_page (key ++ read_in_order keys)) ≤ target = omega arith in omega arith)
          (λ (s : length (key ∷ keys) ≡ 1).
          let alone : sum_by (λ k. length (entries format k)) (key ∷ keys) ≡ length (entries format key) = first ∙ ap (λ ks. length (entries format key) + sum_by (λ k. length (entries format k)) ks) (one s) ∙ (omega arith) in
          let k = small.0 in
          omega arith)
          fit,
    )

-- pages end at the last key
pages_within : (sizes : List ℕ) (room from : ℕ) (ends : List ℕ) (to : ℕ) → ArePages sizes room from ends to → from ≤ to
pages_within sizes room from [] to h = omega arith
pages_within sizes room from (next ∷ ends) to h = let more = pages_within sizes room next ends to h.1 in let l = h.0.is_filled in omega arith

-- what cuts by the sizes of keys make of the keys
pub record AreWritten (target : ℕ) (keys : List (List Version)) (from : ℕ) (pages : List (List Version)) : Type 0 where
  pub are_leaf_pages : AreLeafPages target pages
  pub have_room : AllByRecursion HasRoom pages
  pub are : read_in_order pages ≡ read_in_order (drop from keys)

pub written : (target : ℕ) (format : Format) (keys : List (List Version)) (ends : List ℕ) (from : ℕ) → target < 2 ^ 32 → KeysRise (drop from keys) → Small format (drop from keys) → AreToldIn format (read_in_order (drop from keys))
    → ArePages (map (λ key. length (entries format key)) keys) (target - 5) from ends (length keys) → AreWritten target keys from (pages_at keys from ends)
written target format keys [] from low h small told cuts = record {
  are_leaf_pages = tt;
  have_room = tt;
  are = ap read_in_order (sym (drop-length keys) ∙ ap (λ n. drop n keys) (sym cuts));
}
written target format keys (next ∷ ends) from low h small told cuts =
    let page : List (List Version) = drop from (take next keys) in
    let later : List (List Version) = drop next keys in
    let l = cuts.0.is_filled in
    let within : next ≤ length keys = pages_within _ _ next ends (length keys) cuts.1 in
    let e : drop from keys ≡ page ++ later = split_at from next keys (omega arith) in
    let rise : KeysRise (page ++ later) = subst KeysRise e h in
    let few : Small format (page ++ later) = subst (Small format) e small in
    let read : read_in_order (drop from keys) ≡ read_in_order page ++ read_in_order later = ap read_in_order e ∙ flat_map-append (λ p. p) page later in
    let tell = all_split _ (read_in_order page) (read_in_order later) (subst (AreToldIn format) read told) in
    let count : length page ≡ next - from = length-drop from (take next keys) ∙ ap (λ n. n - from) (length-take-le next keys within) in
    let size : size_between (map (λ key. length (entries format key)) keys) from next ≡ sum_by (λ key. length (entries format key)) page =
    ap sum (ap (drop from) (take-map (λ key. length (entries format key)) next keys) ∙ drop-map (λ key. length (entries format key)) from (take next keys)) ∙ sum-map (λ key. length (entries format key)) page in
    let one = one_page target format page later low rise few tell.0 (omega arith) (⊎_elim
    (λ (s : size_between (map (λ key. length (entries format key)) keys) from next ≤ target - 5). inl (subst (λ n. n ≤ target - 5) size s))
    (λ (s : next ≡ from + 1). inr (omega arith))
    cuts.0.fits) in
    let more = written target format keys ends next low (keys_after page later rise) (all_split _ page later few).1 tell.1 cuts.1 in
    record {
      are_leaf_pages = (subst (IsLeafPage target (read_in_order page)) (sym more.are) one.0, more.are_leaf_pages);
      have_room = (one.1, more.have_room);
      are = ap (λ vs. read_in_order page ++ vs) more.are ∙ sym read;
    }

-- pages of versions that rise and are short can be packed
pub can_pack : (pages : List (List Version)) → AllByRecursion HasRoom pages → VersionsRise (read_in_order pages) → HaveShortValues (read_in_order pages) → AllByRecursion CanPack pages
can_pack [] room rise short = tt
can_pack (page ∷ pages) room rise short =
    let parts = all_split _ page (read_in_order pages) short in (
      record { rise = rises_front page (read_in_order pages) rise; are_short = parts.0; has_room = room.0 },
      can_pack pages room.1 (rises_after page (read_in_order pages) rise) parts.1,
    )

-- the front of what can be packed can be
pub can_front : (front later : List Version) → CanPack (front ++ later) → CanPack front
can_front front later can = record {
  rise = rises_front front later can.rise;
  are_short = (all_split _ front later can.are_short).0;
  has_room = let within = front_within front later in let room = can.has_room in omega arith;
}
