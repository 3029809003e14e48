-- Rows of another block that are added as they stand.
use Rattle.std.proofs.Common.{◌≡◌, ◌↔◌, ℕ, zero, suc, ◌+◌, ◌-◌, ◌<◌, ◌≤◌, ◌^◌, List, [], ◌∷◌, ◌++◌, length, map, take, drop, get_or, refl, sym, ◌∙◌, ap, subst, arith, length-append, append_assoc, add_assoc}
use Rattle.std.proofs.Math.Seq.{drop-append_seam, take-append_seam}
use Rattle.std.proofs.lemmas.List.{take-append-drop, take-take, take_all, length-take-le}
use Rattle.std.specs.List.{All}
use Rattle.std.specs.Prelude.{slice_range}
use Rattle.stow_tree_model.specs.Version.{Version}
use Rattle.stow_tree_model.specs.Order.{VersionsRise}
use Rattle.stow_page.specs.Format.{entry, entries, header, format_of, places_from, AreVersions}
use Rattle.stow_page.specs.Rows.{wider, with_count, ArePacked, CanTake}
use Rattle.stow_page.specs.declared.format.Format.{Format}
use Rattle.stow_page.specs.declared.format.Format.TheVariants.{One, Two}
use Rattle.stow_page.proofs.Formats.{format_of-append}
use Rattle.stow_page.proofs.Joined.{count_fits}
use Rattle.stow_page.proofs.Pushed.{IsWritten, are_all, block_in, entries-append, length-block, length-entries, length-packed_page, length-places_from, places_from-append, places_in, written_in}

-- ---- some of the rows

-- the rows from one place on up to before another
abbrev pub some_of : List Version → ℕ → ℕ → List Version
some_of rows from to = drop from (take to rows)

below_and_some : (rows : List Version) (from to : ℕ) → from ≤ to → take from rows ++ some_of rows from to ≡ take to rows
below_and_some rows from to order = ap (λ vs. vs ++ some_of rows from to) (sym (take-take from to rows order)) ∙ take-append-drop from (take to rows)

all_three : (rows : List Version) (from to : ℕ) → from ≤ to → (take from rows ++ some_of rows from to) ++ drop to rows ≡ rows
all_three rows from to order = ap (λ vs. vs ++ drop to rows) (below_and_some rows from to order) ∙ take-append-drop to rows

upper_versions : (rows more : List Version) → AreVersions (rows ++ more) → AreVersions more
upper_versions [] more all = all
upper_versions (v ∷ later) more all = upper_versions later more all.1

lower_versions : (rows more : List Version) → AreVersions (rows ++ more) → AreVersions rows
lower_versions [] more all = tt
lower_versions (v ∷ later) more all = (all.0, lower_versions later more all.1)

some_versions : (rows : List Version) (from to : ℕ) → from ≤ to → AreVersions rows → AreVersions (some_of rows from to)
some_versions rows from to order all =
    upper_versions (take from rows) (some_of rows from to)
    (lower_versions (take from rows ++ some_of rows from to) (drop to rows) (subst AreVersions (sym (all_three rows from to order)) all))

-- ---- their format

wider-part : (a b c : Format) → wider (wider (wider a b) c) b ≡ wider (wider a b) c
wider-part Two b c = refl
wider-part One Two c = refl
wider-part One One One = refl
wider-part One One Two = refl

-- versions and some of others that have their format have it together
pub some_format : (packed rows : List Version) (from to : ℕ) → from ≤ to → format_of packed ≡ format_of rows → format_of packed ≡ format_of (packed ++ some_of rows from to)
some_format packed rows from to order alike =
    let a = format_of (take from rows) in
    let b = format_of (some_of rows from to) in
    let c = format_of (drop to rows) in
    let whole : format_of rows ≡ wider (wider a b) c =
    ap format_of (sym (all_three rows from to order)) ∙ format_of-append (take from rows ++ some_of rows from to) (drop to rows) ∙ ap (λ f. wider f c) (format_of-append (take from rows) (some_of rows from to)) in
    let own : format_of packed ≡ wider (wider a b) c = alike ∙ whole in
    own ∙ sym (wider-part a b c) ∙ ap (λ f. wider f b) (sym own) ∙ sym (format_of-append packed (some_of rows from to))

-- ---- where entries begin and end

module _ (format : Format) where
  place_at : (n : ℕ) (rows : List Version) (i d : ℕ) → i < length rows → get_or (places_from format n rows) i d ≡ n + length (entries format (take i rows))
  unfolding places_from
  place_at n [] i d low = absurd (omega arith)
  place_at n (v ∷ later) zero d low = omega arith
  place_at n (v ∷ later) (suc i) d low =
      place_at (n + length (entry format v)) later i d (omega arith) ∙ add_assoc n (length (entry format v)) (length (entries format (take i later)))
      ∙ ap (λ m. n + m) (sym (length-append (entry format v) (entries format (take i later))))

  pub begins_at : (bytes places : List ℕ) (rows : List Version) (i d : ℕ) → ArePacked format bytes places rows → i < length places → get_or places i d ≡ 5 + length (entries (format_of rows) (take i rows))
  begins_at bytes places rows i d h low =
      let stand = places_in format bytes places rows h in
      let count = ap length stand ∙ length-places_from format 5 rows in
      ap (λ ps. get_or ps i d) stand ∙ place_at 5 rows i d (omega (arith, low, count)) ∙ ap (λ f. 5 + length (entries f (take i rows))) h.is_format

  pub ends_at : (bytes places : List ℕ) (rows : List Version) (i : ℕ) → ArePacked format bytes places rows → i ≡ length places → length bytes ≡ 5 + length (entries (format_of rows) (take i rows))
  ends_at bytes places rows i h e =
      let count = ap length (places_in format bytes places rows h) ∙ length-places_from format 5 rows in
      length-block format bytes places rows h ∙ (λ k. 5 + length (entries (h.is_format k) (sym (take_all i rows (omega (arith, e, count))) k)))

-- the first place and the last of some of the rows
pub record AreBounds (rows : List Version) (from to first end : ℕ) : Type 0 where
  pub order : from ≤ to
  pub first_is : first ≡ 5 + length (entries (format_of rows) (take from rows))
  pub end_is : end ≡ 5 + length (entries (format_of rows) (take to rows))

-- they have so many bytes
pub bounds_apart : (rows : List Version) (from to first end : ℕ) → AreBounds rows from to first end → end ≡ first + length (entries (format_of rows) (some_of rows from to))
bounds_apart rows from to first end h =
    let both = ap (λ vs. length (entries (format_of rows) vs)) (sym (below_and_some rows from to h.order)) ∙ length-entries (format_of rows) (take from rows) (some_of rows from to) in
    let low = h.first_is in
    let high = h.end_is in
    omega (arith, both, low, high)

-- where these rows have the packed ones' format, they can be taken just where the bytes of both are few enough
pub can_be_taken : (format : Format) (bytes places : List ℕ) (packed rows : List Version) (from to first end : ℕ) → ArePacked format bytes places packed → format ≡ format_of rows → AreBounds rows from to first end → (length bytes + (end - first) < 2 ^ 32) ↔ CanTake packed rows from to
can_be_taken format bytes places packed rows from to first end h same bounds =
    let alike : format_of packed ≡ format_of rows = sym h.is_format ∙ same in
    let own : format_of (packed ++ some_of rows from to) ≡ format_of rows = sym (some_format packed rows from to bounds.order alike) ∙ alike in
    let page = length-packed_page (packed ++ some_of rows from to) ∙ ap (λ f. 5 + length (entries f (packed ++ some_of rows from to))) own in
    let both = length-entries (format_of rows) packed (some_of rows from to) in
    let front = length-block format bytes places packed h ∙ ap (λ f. 5 + length (entries f packed)) same in
    let apart = bounds_apart rows from to first end bounds in (
      λ low. record { alike = alike; room = omega (arith, page, both, front, apart, low) },
      λ can. let room = can.room in omega (arith, page, both, front, apart, room),
    )

-- ---- the rows, added

middle : (xs below some above : List ℕ) (a b : ℕ) → xs ≡ below ++ (some ++ above) → a ≡ length below → b ≡ length below + length some → slice_range xs a b ≡ some
middle xs below some above a b e la lb =
    let long : b - a ≡ length some = omega arith in
    (λ i. take (long i) (drop (la i) (e i))) ∙ ap (take (length some)) (drop-append_seam below (some ++ above)) ∙ take-append_seam some above

module _ (format : Format) where
  -- places of entries that stand from the first on, moved so that they stand from the other on
  moved : (first start n : ℕ) (rows : List Version) → map (λ place. place - first + start) (places_from format (first + n) rows) ≡ places_from format (start + n) rows
  unfolding places_from
  moved first start n [] = refl
  moved first start n (v ∷ later) =
      let here : first + n - first + start ≡ start + n = omega arith in
      let more : map (λ place. place - first + start) (places_from format (first + n + length (entry format v)) later) ≡ places_from format (start + n + length (entry format v)) later =
      ap (λ m. map (λ place. place - first + start) (places_from format m later)) (add_assoc first n (length (entry format v))) ∙ moved first start (n + length (entry format v)) later
      ∙ ap (λ m. places_from format m later) (sym (add_assoc start n (length (entry format v)))) in
      λ i. here i ∷ more i

  -- places stand from the first on up to the end of the bytes
  stand_between : (n : ℕ) (rows : List Version) (i d : ℕ) → i < length (places_from format n rows) → (n ≤ get_or (places_from format n rows) i d) × (get_or (places_from format n rows) i d ≤ n + length (entries format rows))
  unfolding places_from
  stand_between n [] i d low = absurd (omega arith)
  stand_between n (v ∷ later) zero d low = (omega arith, omega arith)
  stand_between n (v ∷ later) (suc i) d low =
      let more = stand_between (n + length (entry format v)) later i d (omega arith) in
      let above = more.0 in
      let below = more.1 in
      let both = length-append (entry format v) (entries format later) in
      (omega (arith, above), omega (arith, below, both))

  first_in : (rows : List Version) (from to first end : ℕ) → format ≡ format_of rows → AreBounds rows from to first end → first ≡ 5 + length (entries format (take from rows))
  first_in rows from to first end own h = h.first_is ∙ ap (λ f. 5 + length (entries f (take from rows))) (sym own)

  end_in : (rows : List Version) (from to first end : ℕ) → format ≡ format_of rows → AreBounds rows from to first end → end ≡ first + length (entries format (some_of rows from to))
  end_in rows from to first end own h = bounds_apart rows from to first end h ∙ ap (λ f. first + length (entries f (some_of rows from to))) (sym own)

  -- the bounds are within the bytes
  pub bounds_within : (bytes places : List ℕ) (rows : List Version) (from to first end : ℕ) → ArePacked format bytes places rows → AreBounds rows from to first end → (first ≤ end) × (end ≤ length bytes)
  bounds_within bytes places rows from to first end h bounds =
      let e = bounds_apart rows from to first end bounds in
      let last = bounds.end_is ∙ ap (λ f. 5 + length (entries f (take to rows))) (sym h.is_format) in
      let len = length-block format bytes places rows h in
      let whole = ap (λ vs. length (entries format vs)) (sym (take-append-drop to rows)) ∙ length-entries format (take to rows) (drop to rows) in
      (omega (arith, e), omega (arith, last, len, whole))

  pub some_bytes : (bytes places : List ℕ) (rows : List Version) (from to first end : ℕ) → ArePacked format bytes places rows → AreBounds rows from to first end → slice_range bytes first end ≡ entries format (some_of rows from to)
  some_bytes bytes places rows from to first end h bounds =
      let front = header format (length rows) in
      let a = entries format (take from rows) in
      let b = entries format (some_of rows from to) in
      let c = entries format (drop to rows) in
      let whole : entries format rows ≡ a ++ (b ++ c) =
      ap (entries format) (sym (all_three rows from to bounds.order)) ∙ entries-append format (take from rows ++ some_of rows from to) (drop to rows)
      ∙ ap (λ bs. bs ++ c) (entries-append format (take from rows) (some_of rows from to)) ∙ append_assoc a b c in
      let len = length-append front a in
      let low = first_in rows from to first end h.is_format bounds in
      let high = end_in rows from to first end h.is_format bounds in
      middle bytes (front ++ a) b c first end (block_in format bytes places rows h ∙ ap (λ bs. front ++ bs) whole ∙ sym (append_assoc front a (b ++ c))) (omega (arith, len, low)) (omega (arith, len, low, high))

  pub some_places : (bytes places : List ℕ) (rows : List Version) (from to first end : ℕ) → ArePacked format bytes places rows → to ≤ length rows → AreBounds rows from to first end → slice_range places from to ≡ places_from format first (some_of rows from to)
  some_places bytes places rows from to first end h within bounds =
      let order = bounds.order in
      let low = first_in rows from to first end h.is_format bounds in
      let below = take from rows in
      let some = some_of rows from to in
      let above = drop to rows in
      let last = 5 + length (entries format (below ++ some)) in
      let whole : places ≡ places_from format 5 below ++ (places_from format first some ++ places_from format last above) =
      places_in format bytes places rows h ∙ ap (places_from format 5) (sym (all_three rows from to order)) ∙ places_from-append format 5 (below ++ some) above
      ∙ ap (λ ps. ps ++ places_from format last above) (places_from-append format 5 below some ∙ ap (λ m. places_from format 5 below ++ places_from format m some) (sym low))
      ∙ append_assoc (places_from format 5 below) (places_from format first some) (places_from format last above) in
      let few : length (places_from format 5 below) ≡ from = length-places_from format 5 below ∙ length-take-le from rows (omega arith) in
      let many : length (places_from format first some) ≡ length some = length-places_from format first some in
      let both : length below + length some ≡ to = sym (length-append below some) ∙ ap length (below_and_some rows from to order) ∙ length-take-le to rows within in
      let front : length below ≡ from = length-take-le from rows (omega arith) in
      middle places (places_from format 5 below) (places_from format first some) (places_from format last above) from to whole (sym few) (omega (arith, few, many, both, front))

-- a block, and another some of whose rows it can take
pub record AreTaken (format : Format) (bytes places other_bytes other_places : List ℕ) (packed rows : List Version) (from to first end : ℕ) : Type 0 where
  pub low : ArePacked format bytes places packed
  pub up : ArePacked format other_bytes other_places rows
  pub within : to ≤ length rows
  pub bounds : AreBounds rows from to first end
  pub rise : VersionsRise (packed ++ some_of rows from to)
  pub can : CanTake packed rows from to

module _ (format : Format) (bytes places other_bytes other_places : List ℕ) (packed rows : List Version) (from to first end : ℕ) (h : AreTaken format bytes places other_bytes other_places packed rows from to first end) where
  own_format : format ≡ format_of (packed ++ some_of rows from to)
  own_format = h.low.is_format ∙ some_format packed rows from to h.bounds.order h.can.alike

  short_room : length bytes + length (entries format (some_of rows from to)) < 2 ^ 32
  short_room =
      let page = length-packed_page (packed ++ some_of rows from to) ∙ ap (λ f. 5 + length (entries f (packed ++ some_of rows from to))) (sym own_format) in
      let both = length-entries format packed (some_of rows from to) in
      let front = length-block format bytes places packed h.low in
      let room = h.can.room in
      omega (arith, page, both, front, room)

  pub stand_above : All (λ place. first ≤ place) (slice_range other_places from to)
  stand_above i d l =
      let stand = some_places format other_bytes other_places rows from to first end h.up h.within h.bounds in
      subst (λ ps. first ≤ get_or ps i d) (sym stand) (stand_between format first (some_of rows from to) i d (subst (λ ps. i < length ps) stand l)).0

  pub moved_fit : All (λ place. place - first + length bytes < 2 ^ 32) (slice_range other_places from to)
  moved_fit i d l =
      let stand = some_places format other_bytes other_places rows from to first end h.up h.within h.bounds in
      let between = stand_between format first (some_of rows from to) i d (subst (λ ps. i < length ps) stand l) in
      let above = between.0 in
      let below = between.1 in
      let room = short_room in
      subst (λ ps. get_or ps i d - first + length bytes < 2 ^ 32) (sym stand) (omega (arith, above, below, room))

  -- the places of all
  pub all_places : (more : List ℕ) → more ≡ places ++ map (λ place. place - first + length bytes) (slice_range other_places from to) → more ≡ places_from format 5 (packed ++ some_of rows from to)
  all_places more e =
      let some = some_of rows from to in
      let start = length bytes in
      let there : start + 0 ≡ 5 + length (entries format packed) = let len = length-block format bytes places packed h.low in omega (arith, len) in
      let here : first ≡ first + 0 = omega arith in
      e ∙ ap (λ ps. places ++ map (λ place. place - first + start) ps) (some_places format other_bytes other_places rows from to first end h.up h.within h.bounds ∙ ap (λ m. places_from format m some) here)
      ∙ ap (λ ps. places ++ ps) (moved format first start 0 some ∙ ap (λ m. places_from format m some) there)
      ∙ ap (λ ps. ps ++ places_from format (5 + length (entries format packed)) some) (places_in format bytes places packed h.low)
      ∙ sym (places_from-append format 5 packed some)

  pub all_few : (more : List ℕ) → more ≡ places ++ map (λ place. place - first + length bytes) (slice_range other_places from to) → length more < 2 ^ 32
  all_few more e = count_fits format more (packed ++ some_of rows from to) (all_places more e) h.can.room

  -- the block, once the count is written
  pub rows_taken : (new more : List ℕ) → more ≡ places ++ map (λ place. place - first + length bytes) (slice_range other_places from to) → new ≡ with_count (bytes ++ slice_range other_bytes first end) (length more)
      → IsWritten format new more (packed ++ some_of rows from to)
  rows_taken new more p n =
      let some = some_of rows from to in
      let page : bytes ++ slice_range other_bytes first end ≡ header format (length packed) ++ entries format (packed ++ some) =
      (λ i. block_in format bytes places packed h.low i ++ some_bytes format other_bytes other_places rows from to first end h.up h.bounds i)
      ∙ append_assoc (header format (length packed)) (entries format packed) (entries format some) ∙ ap (λ b. header format (length packed) ++ b) (sym (entries-append format packed some)) in
      written_in format new more (length packed) (packed ++ some)
      (record { are_versions = are_all packed some h.low.are_versions (some_versions rows from to h.bounds.order h.up.are_versions); rise = h.rise; room = h.can.room })
      own_format (n ∙ ap (λ b. with_count b (length more)) page) (all_places more p)
