-- A page is that of one list of versions, and has no fault; other bytes have one first fault at most.
use Rattle.std.proofs.Common.{◌≡◌, ◌≢◌, ℕ, ◌+◌, ◌<◌, ◌≤◌, ◌^◌, false, List, [], ◌∷◌, ◌++◌, length, get_or, map, drop, refl, sym, ◌∙◌, ap, subst, arith, append_assoc, length-append, ⊎_elim, inl, inr, ◌⊎◌}
use Rattle.std.proofs.lemmas.List.{append-nil}
use Rattle.std.proofs.lemmas.Nat.{from_be_bytes-to_be_bytes_4}
use Rattle.std.specs.Int.{from_be_bytes, w32}
use Rattle.std.specs.List.{AllByRecursion}
use Rattle.std.specs.List.Sorted.{IsStrictlySortedBy}
use Rattle.std.specs.declared.cmp.Ordering.TheVariants.{Less}
use Rattle.stow_tree_model.specs.Order.{VersionPlace, place_cmp, version_place, VersionsRise}
use Rattle.stow_tree_model.specs.Version.{Version}
use Rattle.stow_page.specs.Format.{entry, entries, format_byte, header, packed_in, packed_page, format_of, has_long, IsTold, AreTold, IsVersion, AreVersions}
use Rattle.stow_page.specs.declared.format.Format.{Format}
use Rattle.stow_page.specs.declared.format.Format.TheVariants.{One, Two}
use Rattle.stow_page.specs.Rows.{IsAtFront}
use Rattle.stow_page.specs.Faults.{BeginsPage, EndsInField, HasBadField, EndsInHeader, HasFaultyEntry, HasEntryOutOfOrder, HasBytesBehind, HasNoLongValue, IsPageFault}
use Rattle.stow_page.specs.Laws.{AreRows, PackedOnce, PageHasNoFault, OneFault}
use Rattle.stow_page.specs.declared.page_fault.PageFault.{PageFault}
use Rattle.stow_page.specs.declared.page_fault.PageFault.TheVariants as fault
use Rattle.stow_page.proofs.Formats.{told_in_own, format_of-short}
use Rattle.stow_page.proofs.OneField.{not_both}
use Rattle.stow_page.proofs.Unique.{same_version, same_rest, entry_does_not_end, entry_has_no_bad_field}

from32 : (format : Format) (n : ℕ) (rest : List ℕ) → n < 2 ^ 32 → from_be_bytes w32 (drop 1 (header format n ++ rest)) ≡ n
from32 format n rest h = from_be_bytes-to_be_bytes_4 n h

same_format : (f g : Format) → format_byte f ≡ format_byte g → f ≡ g
same_format One One e = refl
same_format One Two e = absurd (omega (arith, e))
same_format Two One e = absurd (omega (arith, e))
same_format Two Two e = refl

-- a header is that of one format and count, before one rest
same_formats : (f g : Format) (m n : ℕ) (x y : List ℕ) → header f m ++ x ≡ header g n ++ y → f ≡ g
same_formats f g m n x y e = same_format f g (ap (λ b. get_or b 0 0) e)

same_count : (f g : Format) (m n : ℕ) (x y : List ℕ) → m < 2 ^ 32 → n < 2 ^ 32 → header f m ++ x ≡ header g n ++ y → m ≡ n
same_count f g m n x y hm hn e = sym (from32 f m x hm) ∙ ap (λ b. from_be_bytes w32 (drop 1 b)) e ∙ from32 g n y hn

same_behind : (f g : Format) (m n : ℕ) (x y : List ℕ) → header f m ++ x ≡ header g n ++ y → x ≡ y
same_behind f g m n x y e = ap (drop 5) e

all_in_front : (P : VersionPlace → Type 0) (some : List Version) (v : Version) (more : List Version) → AllByRecursion P (map version_place (some ++ v ∷ more)) → AllByRecursion P (map version_place (some ++ v ∷ []))
all_in_front P [] v more all = (all.0, tt)
all_in_front P (w ∷ some) v more all = (all.0, all_in_front P some v more all.1)

front_rises : (some : List Version) (v : Version) (more : List Version) → VersionsRise (some ++ v ∷ more) → VersionsRise (some ++ v ∷ [])
unfolding IsStrictlySortedBy
front_rises [] v more rise = (tt, tt)
front_rises (w ∷ some) v more rise = (all_in_front (λ p. place_cmp (version_place w) p ≡ Less) some v more rise.0, front_rises some v more rise.1)

-- ---- where reading stops

-- another list of versions goes on behind these, with an entry that the rest begins with
record GoesOn (format : Format) (rows others : List Version) (rest : List ℕ) : Type 0 where
  version : Version
  more : List Version
  later : List ℕ
  are : others ≡ rows ++ version ∷ more
  rest_is : rest ≡ entry format version ++ later
  is_version : IsVersion version
  is_told : IsTold format version.value

-- of two lists of versions with what follows their entries, one goes on behind the other, or they are the same
abbrev Compared : Format → List Version → List Version → List ℕ → List ℕ → Type 0
Compared format rows others x y = ((rows ≡ others) × (x ≡ y)) ⊎ (GoesOn format rows others x ⊎ GoesOn format others rows y)

module _ (format : Format) where
  behind_same : (v w : Version) (rows others : List Version) (x y : List ℕ) → v ≡ w → Compared format rows others x y → Compared format (v ∷ rows) (w ∷ others) x y
  behind_same v w rows others x y same (inl both) = inl ((λ i. same i ∷ both.0 i), both.1)
  behind_same v w rows others x y same (inr (inl g)) = inr (inl (record { version = g.version; more = g.more; later = g.later; are = (λ i. sym same i ∷ g.are i); rest_is = g.rest_is; is_version = g.is_version; is_told = g.is_told }))
  behind_same v w rows others x y same (inr (inr g)) = inr (inr (record { version = g.version; more = g.more; later = g.later; are = (λ i. same i ∷ g.are i); rest_is = g.rest_is; is_version = g.is_version; is_told = g.is_told }))

  compared : (rows others : List Version) (x y : List ℕ) → AreVersions rows → AreTold format rows → AreVersions others → AreTold format others → entries format rows ++ x ≡ entries format others ++ y → Compared format rows others x y
  compared [] [] x y all told some those e = inl (refl, e)
  compared [] (w ∷ others) x y all told some those e = inr (inl (record
      { version = w; more = others; later = entries format others ++ y; are = refl; rest_is = e ∙ append_assoc (entry format w) (entries format others) y; is_version = some.0; is_told = those.0 }))
  compared (v ∷ rows) [] x y all told some those e = inr (inr (record
      { version = v; more = rows; later = entries format rows ++ x; are = refl; rest_is = sym e ∙ append_assoc (entry format v) (entries format rows) x; is_version = all.0; is_told = told.0 }))
  compared (v ∷ rows) (w ∷ others) x y all told some those e =
      let both = sym (append_assoc (entry format v) (entries format rows) x) ∙ e ∙ append_assoc (entry format w) (entries format others) y in
      let same = same_version format v w (entries format rows ++ x) (entries format others ++ y) all.0 told.0 some.0 those.0 both in
      behind_same v w rows others x y same
      (compared rows others x y all.1 told.1 some.1 those.1 (same_rest format v w (entries format rows ++ x) (entries format others ++ y) all.0 told.0 some.0 those.0 both))

-- reading stops behind these versions: no version whose entry follows stands above them, or none is to follow
record Stops (bytes : List ℕ) (format : Format) (count : ℕ) (rows : List Version) (rest : List ℕ) : Type 0 where
  begins : BeginsPage bytes format count rows rest
  few : length rows ≤ count
  stops : (v : Version) (later : List ℕ) → rest ≡ entry format v ++ later → IsVersion v → IsTold format v.value → VersionsRise (rows ++ v ∷ []) → length rows < count → ⊥

goes_not_on : (bytes rest x : List ℕ) (format : Format) (count : ℕ) (rows others : List Version) → Stops bytes format count rows rest → VersionsRise others → length others ≤ count → GoesOn format rows others rest → ⊥
goes_not_on bytes rest x format count rows others s rise few g =
    let long = ap length g.are ∙ length-append rows (g.version ∷ g.more) in
    s.stops g.version g.later g.rest_is g.is_version g.is_told (front_rises rows g.version g.more (subst VersionsRise g.are rise)) (omega arith)

-- it stops at one place
record SamePlace (f g : Format) (count other : ℕ) (rows others : List Version) (x y : List ℕ) : Type 0 where
  formats : f ≡ g
  counts : count ≡ other
  lists : rows ≡ others
  rests : x ≡ y

-- in one format
same_place_in : (bytes x y : List ℕ) (f : Format) (count other : ℕ) (rows others : List Version) → Stops bytes f count rows x → Stops bytes f other others y → SamePlace f f count other rows others x y
same_place_in bytes x y f count other rows others s t =
    let b = s.begins in
    let d = t.begins in
    let e : header f count ++ (entries f rows ++ x) ≡ header f other ++ (entries f others ++ y) = sym b.are ∙ d.are in
    let counts : count ≡ other = same_count f f count other (entries f rows ++ x) (entries f others ++ y) b.is_counted d.is_counted e in
    let few : length others ≤ count = let most = t.few in omega arith in
    let fewer : length rows ≤ other = let most = s.few in omega arith in
    ⊎_elim
    (λ (same : (rows ≡ others) × (x ≡ y)). record { formats = refl; counts = counts; lists = same.0; rests = same.1 })
    (λ (on : GoesOn f rows others x ⊎ GoesOn f others rows y). ⊎_elim
    (λ (g : GoesOn f rows others x). absurd (goes_not_on bytes x y f count rows others s d.rise few g))
    (λ (g : GoesOn f others rows y). absurd (goes_not_on bytes y x f other others rows t b.rise fewer g))
    on)
    (compared f rows others x y b.are_versions b.are_told d.are_versions d.are_told (same_behind f f count other (entries f rows ++ x) (entries f others ++ y) e))

same_place : (bytes x y : List ℕ) (f g : Format) (count other : ℕ) (rows others : List Version) → Stops bytes f count rows x → Stops bytes g other others y → SamePlace f g count other rows others x y
same_place bytes x y f g count other rows others s t =
    let formats : f ≡ g = same_formats f g count other (entries f rows ++ x) (entries g others ++ y) (sym s.begins.are ∙ t.begins.are) in
    subst (λ h. SamePlace f h count other rows others x y) formats (same_place_in bytes x y f count other rows others s (subst (λ h. Stops bytes h other others y) (sym formats) t))

-- a page's versions are read to the last
page_stops : (bytes : List ℕ) (rows : List Version) → AreRows rows → bytes ≡ packed_page rows → Stops bytes (format_of rows) (length rows) rows []
unfolding packed_page packed_in
page_stops bytes rows h e = record {
  begins = record {
    are = e ∙ ap (λ b. header (format_of rows) (length rows) ++ b) (sym (append-nil (entries (format_of rows) rows)));
    is_counted = h.are_counted;
    are_versions = h.are_versions;
    are_told = told_in_own rows h.are_versions;
    rise = h.rise;
  };
  few = omega arith;
  stops = λ v later f is told rise low. omega arith;
}

pub packed_once_lem : PackedOnce
packed_once_lem rows others h k e =
    (same_place (packed_page rows) [] [] (format_of rows) (format_of others) (length rows) (length others) rows others (page_stops (packed_page rows) rows h refl) (page_stops (packed_page rows) others k e)).lists

-- ---- what is wrong where it stops

-- all entries were read, and none of format 2 has a long value
abbrev IsNeedless : Format → ℕ → List Version → Type 0
IsNeedless format count rows = (length rows ≡ count) × (format ≡ Two) × (has_long rows ≡ false)

abbrev IsAt : PageFault → Format → ℕ → List Version → List ℕ → Type 0
IsAt fault.FormatByte format count rows rest = ⊥
IsAt fault.Truncated format count rows rest = (length rows < count) × EndsInField format rest
IsAt fault.Order format count rows rest = (length rows < count) × (v : Version) × IsAtFront format v rest
IsAt fault.LengthOrField format count rows rest = ((length rows < count) × HasBadField format rest)
    ⊎ (((length rows ≡ count) × (rest ≢ [])) ⊎ IsNeedless format count rows)
IsAt fault.Memory format count rows rest = ⊥

record Stopped (reason : PageFault) (bytes : List ℕ) : Type 0 where
  format : Format
  count : ℕ
  rows : List Version
  rest : List ℕ
  stops : Stops bytes format count rows rest
  is_at : IsAt reason format count rows rest

at_end : (bytes : List ℕ) → HasFaultyEntry fault.Truncated bytes → Stopped fault.Truncated bytes
at_end bytes h = record {
  format = h.format;
  count = h.count;
  rows = h.rows;
  rest = h.rest;
  stops = record {
    begins = h.begins;
    few = (let short = h.is_short in omega arith);
    stops = λ v later e is told rise low. entry_does_not_end h.format v h.rest (record { rest = later; is_entry = e; is_version = is; is_told = told }) h.is_faulty;
  };
  is_at = (h.is_short, h.is_faulty);
}

at_field : (bytes : List ℕ) → HasFaultyEntry fault.LengthOrField bytes → Stopped fault.LengthOrField bytes
at_field bytes h = record {
  format = h.format;
  count = h.count;
  rows = h.rows;
  rest = h.rest;
  stops = record {
    begins = h.begins;
    few = (let short = h.is_short in omega arith);
    stops = λ v later e is told rise low. entry_has_no_bad_field h.format v h.rest (record { rest = later; is_entry = e; is_version = is; is_told = told }) h.is_faulty;
  };
  is_at = inl (h.is_short, h.is_faulty);
}

at_entry : (bytes : List ℕ) → HasEntryOutOfOrder bytes → Stopped fault.Order bytes
at_entry bytes h = record {
  format = h.format;
  count = h.count;
  rows = h.rows;
  rest = entry h.format h.version ++ h.rest;
  stops = record {
    begins = h.begins;
    few = (let short = h.is_short in omega arith);
    stops = λ v later e is told rise low. h.is_not_above (subst (λ w. VersionsRise (h.rows ++ w ∷ [])) (same_version h.format v h.version later h.rest is told h.is_version h.is_told (sym e)) rise);
  };
  is_at = (h.is_short, h.version, record { rest = h.rest; is_entry = refl; is_version = h.is_version; is_told = h.is_told });
}

at_last : (bytes : List ℕ) → HasBytesBehind bytes → Stopped fault.LengthOrField bytes
at_last bytes h = record {
  format = h.format;
  count = length h.rows;
  rows = h.rows;
  rest = h.rest;
  stops = record { begins = h.begins; few = omega arith; stops = λ v later e is told rise low. omega arith };
  is_at = inr (inl (refl, h.is_more));
}

at_needless : (bytes : List ℕ) → HasNoLongValue bytes → Stopped fault.LengthOrField bytes
at_needless bytes h = record {
  format = Two;
  count = length h.rows;
  rows = h.rows;
  rest = h.rest;
  stops = record { begins = h.begins; few = omega arith; stops = λ v later e is told rise low. omega arith };
  is_at = inr (inr (refl, refl, h.are_short));
}

-- at the last entry or behind it no entry is at fault
all_read : (format : Format) (count : ℕ) (rows : List Version) (rest : List ℕ) → ((length rows ≡ count) × (rest ≢ [])) ⊎ IsNeedless format count rows → length rows ≡ count
all_read format count rows rest (inl h) = h.0
all_read format count rows rest (inr h) = h.0

one_at : (one other : PageFault) (format : Format) (count : ℕ) (rows : List Version) (rest : List ℕ) → IsAt one format count rows rest → IsAt other format count rows rest → one ≡ other
one_at fault.FormatByte other format count rows rest a b = absurd a
one_at fault.Memory other format count rows rest a b = absurd a
one_at fault.Truncated fault.FormatByte format count rows rest a b = absurd b
one_at fault.Truncated fault.Truncated format count rows rest a b = refl
one_at fault.Truncated fault.Order format count rows rest a b = absurd (entry_does_not_end format b.1 rest b.2 a.1)
one_at fault.Truncated fault.LengthOrField format count rows rest a (inl b) = absurd (not_both format rest a.1 b.1)
one_at fault.Truncated fault.LengthOrField format count rows rest a (inr b) = absurd (let low = a.0 in let last = all_read format count rows rest b in omega arith)
one_at fault.Truncated fault.Memory format count rows rest a b = absurd b
one_at fault.Order fault.FormatByte format count rows rest a b = absurd b
one_at fault.Order fault.Truncated format count rows rest a b = absurd (entry_does_not_end format a.1 rest a.2 b.1)
one_at fault.Order fault.Order format count rows rest a b = refl
one_at fault.Order fault.LengthOrField format count rows rest a (inl b) = absurd (entry_has_no_bad_field format a.1 rest a.2 b.1)
one_at fault.Order fault.LengthOrField format count rows rest a (inr b) = absurd (let low = a.0 in let last = all_read format count rows rest b in omega arith)
one_at fault.Order fault.Memory format count rows rest a b = absurd b
one_at fault.LengthOrField fault.FormatByte format count rows rest a b = absurd b
one_at fault.LengthOrField fault.Truncated format count rows rest (inl a) b = absurd (not_both format rest b.1 a.1)
one_at fault.LengthOrField fault.Truncated format count rows rest (inr a) b = absurd (let low = b.0 in let last = all_read format count rows rest a in omega arith)
one_at fault.LengthOrField fault.Order format count rows rest (inl a) b = absurd (entry_has_no_bad_field format b.1 rest b.2 a.1)
one_at fault.LengthOrField fault.Order format count rows rest (inr a) b = absurd (let low = b.0 in let last = all_read format count rows rest a in omega arith)
one_at fault.LengthOrField fault.LengthOrField format count rows rest a b = refl
one_at fault.LengthOrField fault.Memory format count rows rest a b = absurd b

-- ---- in the header, or behind it

abbrev IsInHeader : PageFault → List ℕ → Type 0
IsInHeader fault.FormatByte bytes = IsPageFault fault.FormatByte bytes
IsInHeader fault.Truncated bytes = EndsInHeader bytes
IsInHeader fault.Order bytes = ⊥
IsInHeader fault.LengthOrField bytes = ⊥
IsInHeader fault.Memory bytes = ⊥

placed : (reason : PageFault) (bytes : List ℕ) → IsPageFault reason bytes → IsInHeader reason bytes ⊎ Stopped reason bytes
placed fault.FormatByte bytes h = inl h
placed fault.Truncated bytes (inl h) = inl h
placed fault.Truncated bytes (inr h) = inr (at_end bytes h)
placed fault.Order bytes h = inr (at_entry bytes h)
placed fault.LengthOrField bytes (inl h) = inr (at_field bytes h)
placed fault.LengthOrField bytes (inr (inl h)) = inr (at_last bytes h)
placed fault.LengthOrField bytes (inr (inr h)) = inr (at_needless bytes h)
placed fault.Memory bytes h = absurd h

no_byte : (byte : ℕ) (format : Format) → byte ≢ 1 → byte ≢ 2 → byte ≡ format_byte format → ⊥
no_byte byte One one two e = one e
no_byte byte Two one two e = two e

long_header : (bytes : List ℕ) (format : Format) (count : ℕ) (rows : List Version) (rest : List ℕ) → BeginsPage bytes format count rows rest → length bytes ≡ 5 + length (entries format rows ++ rest)
long_header bytes format count rows rest b = ap length b.are ∙ length-append (header format count) (entries format rows ++ rest)

whole_header : (reason : PageFault) (bytes : List ℕ) (format : Format) (count : ℕ) (rows : List Version) (rest : List ℕ) → IsInHeader reason bytes → BeginsPage bytes format count rows rest → ⊥
whole_header fault.FormatByte bytes format count rows rest h b = no_byte h.0 format h.3 h.4 (ap (λ c. get_or c 0 0) (sym h.2 ∙ b.are))
whole_header fault.Truncated bytes format count rows rest (inl none) b = (let long = long_header bytes format count rows rest b in let no_bytes = ap length none in omega arith)
whole_header fault.Truncated bytes format count rows rest (inr short) b = (let long = long_header bytes format count rows rest b in let same = ap length short.2 in let low = short.3 in omega arith)
whole_header fault.Order bytes format count rows rest h b = h
whole_header fault.LengthOrField bytes format count rows rest h b = h
whole_header fault.Memory bytes format count rows rest h b = h

no_format : (bytes : List ℕ) → IsPageFault fault.FormatByte bytes → EndsInHeader bytes → ⊥
no_format bytes h (inl none) = (let some = ap length (sym h.2 ∙ none) in omega (arith, some))
no_format bytes h (inr short) = no_byte h.0 short.0 h.3 h.4 (ap (λ c. get_or c 0 0) (sym h.2 ∙ short.2))

in_header : (one other : PageFault) (bytes : List ℕ) → IsInHeader one bytes → IsInHeader other bytes → one ≡ other
in_header fault.FormatByte fault.FormatByte bytes a b = refl
in_header fault.FormatByte fault.Truncated bytes a b = absurd (no_format bytes a b)
in_header fault.Truncated fault.FormatByte bytes a b = absurd (no_format bytes b a)
in_header fault.Truncated fault.Truncated bytes a b = refl
in_header fault.Order other bytes a b = absurd a
in_header fault.LengthOrField other bytes a b = absurd a
in_header fault.Memory other bytes a b = absurd a
in_header fault.FormatByte fault.Order bytes a b = absurd b
in_header fault.FormatByte fault.LengthOrField bytes a b = absurd b
in_header fault.FormatByte fault.Memory bytes a b = absurd b
in_header fault.Truncated fault.Order bytes a b = absurd b
in_header fault.Truncated fault.LengthOrField bytes a b = absurd b
in_header fault.Truncated fault.Memory bytes a b = absurd b

both_stopped : (one other : PageFault) (bytes : List ℕ) → Stopped one bytes → Stopped other bytes → one ≡ other
both_stopped one other bytes s t =
    let same = same_place bytes s.rest t.rest s.format t.format s.count t.count s.rows t.rows s.stops t.stops in
    one_at one other s.format s.count s.rows s.rest s.is_at
    (subst (λ f. IsAt other f s.count s.rows s.rest) (sym same.formats)
    (subst (λ n. IsAt other t.format n s.rows s.rest) (sym same.counts) (subst (λ vs. IsAt other t.format t.count vs s.rest) (sym same.lists) (subst (IsAt other t.format t.count t.rows) (sym same.rests) t.is_at))))

by_place : (one other : PageFault) (bytes : List ℕ) → IsInHeader one bytes ⊎ Stopped one bytes → IsInHeader other bytes ⊎ Stopped other bytes → one ≡ other
by_place one other bytes (inl a) (inl b) = in_header one other bytes a b
by_place one other bytes (inl a) (inr t) = absurd (whole_header one bytes t.format t.count t.rows t.rest a t.stops.begins)
by_place one other bytes (inr s) (inl b) = absurd (whole_header other bytes s.format s.count s.rows s.rest b s.stops.begins)
by_place one other bytes (inr s) (inr t) = both_stopped one other bytes s t

pub one_fault_lem : OneFault
one_fault_lem bytes one other a b = by_place one other bytes (placed one bytes a) (placed other bytes b)

-- behind a page's last version nothing is wrong
none_at_last : (reason : PageFault) (format : Format) (count : ℕ) (rows : List Version) (rest : List ℕ) → IsAt reason format count rows rest → format ≡ format_of rows → length rows ≡ count → rest ≡ [] → ⊥
none_at_last fault.FormatByte format count rows rest h own last none = h
none_at_last fault.Truncated format count rows rest h own last none = (let low = h.0 in omega arith)
none_at_last fault.Order format count rows rest h own last none = (let low = h.0 in omega arith)
none_at_last fault.LengthOrField format count rows rest (inl h) own last none = (let low = h.0 in omega arith)
none_at_last fault.LengthOrField format count rows rest (inr (inl h)) own last none = h.1 none
none_at_last fault.LengthOrField format count rows rest (inr (inr h)) own last none = (let same = ap format_byte (sym h.1 ∙ own ∙ format_of-short rows h.2) in omega (arith, same))
none_at_last fault.Memory format count rows rest h own last none = h

none_in_page : (reason : PageFault) (rows : List Version) → AreRows rows → IsInHeader reason (packed_page rows) ⊎ Stopped reason (packed_page rows) → ⊥
none_in_page reason rows h (inl a) = whole_header reason (packed_page rows) (format_of rows) (length rows) rows [] a (page_stops (packed_page rows) rows h refl).begins
none_in_page reason rows h (inr s) =
    let same = same_place (packed_page rows) [] s.rest (format_of rows) s.format (length rows) s.count rows s.rows (page_stops (packed_page rows) rows h refl) s.stops in
    none_at_last reason s.format s.count s.rows s.rest s.is_at (sym same.formats ∙ ap format_of same.lists) (ap length (sym same.lists) ∙ same.counts) (sym same.rests)

pub page_has_no_fault_lem : PageHasNoFault
page_has_no_fault_lem rows reason h bad = none_in_page reason rows h (placed reason (packed_page rows) bad)
