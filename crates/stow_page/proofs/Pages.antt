-- A page from elsewhere, as far as it was read.
use Rattle.std.proofs.Common.{◌≡◌, ℕ, ◌+◌, ◌<◌, ◌≤◌, ◌^◌, List, [], ◌∷◌, ◌++◌, length, sym, ◌∙◌, ap, subst, arith, append_assoc, length-append, inl, inr}
use Rattle.std.proofs.lemmas.List.{append-nil}
use Rattle.stow_tree_model.specs.Order.{VersionsRise}
use Rattle.stow_tree_model.specs.Version.{Version}
use Rattle.stow_page.specs.Format.{entry, entries, header, packed_in, packed_page, format_of, IsTold, AreTold, IsVersion, AreVersions}
use Rattle.stow_page.specs.Faults.{HasEntryOutOfOrder, HasBytesBehind, HasNoLongValue, IsEntryFault, IsPageFault}
use Rattle.stow_page.specs.declared.format.Format.{Format}
use Rattle.stow_page.specs.declared.page_fault.PageFault.{PageFault}
use Rattle.stow_page.specs.declared.page_fault.PageFault.TheVariants as fault
use Rattle.stow_page.proofs.Formats.{are_told_more, needless}
use Rattle.stow_page.proofs.Pushed.{entries-push, length-entries-push, length-packed_page, packed_page_is}
use Rattle.stow_page.proofs.Sizes.{entries_in_own}

-- the header, with its format and its count of entries, and some of these entries, were read
pub record IsReading (bytes : List ℕ) (format : Format) (count : ℕ) (rows : List Version) (rest : List ℕ) : Type 0 where
  pub are : bytes ≡ header format count ++ (entries format rows ++ rest)
  pub few : length rows ≤ count
  pub told : AreTold format rows

module _ (bytes : List ℕ) (format : Format) (count : ℕ) (rows : List Version) (rest : List ℕ) where
  pub faulty_entry : (reason : PageFault) → IsReading bytes format count rows rest → count < 4294967296 → AreVersions rows → VersionsRise rows → length rows < count → IsEntryFault format reason rest → IsPageFault reason bytes
  faulty_entry fault.FormatByte h low all rise short bad = absurd bad
  faulty_entry fault.Truncated h low all rise short bad = inr (record
      { format = format; count = count; rows = rows; rest = rest; begins = record { are = h.are; is_counted = low; are_versions = all; are_told = h.told; rise = rise }; is_short = short; is_faulty = bad })
  faulty_entry fault.Order h low all rise short bad = absurd bad
  faulty_entry fault.LengthOrField h low all rise short bad = inl (record
      { format = format; count = count; rows = rows; rest = rest; begins = record { are = h.are; is_counted = low; are_versions = all; are_told = h.told; rise = rise }; is_short = short; is_faulty = bad })
  faulty_entry fault.Memory h low all rise short bad = absurd bad

  pub out_of_order : (after : List ℕ) (v : Version) → IsReading bytes format count rows rest → count < 4294967296 → AreVersions rows → VersionsRise rows → length rows < count
      → rest ≡ entry format v ++ after → IsVersion v → IsTold format v.value → (VersionsRise (rows ++ v ∷ []) → ⊥) → HasEntryOutOfOrder bytes
  out_of_order after v h low all rise short e is told not_above = record {
    format = format;
    count = count;
    rows = rows;
    version = v;
    rest = after;
    begins = record { are = h.are ∙ ap (λ b. header format count ++ (entries format rows ++ b)) e; is_counted = low; are_versions = all; are_told = h.told; rise = rise };
    is_short = short;
    is_version = is;
    is_told = told;
    is_not_above = not_above;
  }

  all_are_read : IsReading bytes format count rows rest → count ≤ length rows → count ≡ length rows
  all_are_read h done = let few = h.few in omega arith

  pub bytes_behind : IsReading bytes format count rows rest → count < 4294967296 → AreVersions rows → VersionsRise rows → count ≤ length rows → (rest ≡ [] → ⊥) → HasBytesBehind bytes
  bytes_behind h low all rise done more =
      let same : count ≡ length rows = all_are_read h done in
      record {
        format = format;
        rows = rows;
        rest = rest;
        begins = record { are = h.are ∙ ap (λ n. header format n ++ (entries format rows ++ rest)) same; is_counted = subst (λ n. n < 4294967296) same low; are_versions = all; are_told = h.told; rise = rise };
        is_more = more;
      }

  -- where the format of the versions isn't the one that was read, none has a long value
  pub no_long_value : IsReading bytes format count rows rest → count < 4294967296 → AreVersions rows → VersionsRise rows → count ≤ length rows → (format_of rows ≡ format → ⊥) → HasNoLongValue bytes
  no_long_value h low all rise done other =
      let same : count ≡ length rows = all_are_read h done in
      let both = needless format rows h.told other in
      record {
        rows = rows;
        rest = rest;
        begins = record {
          are = h.are ∙ (λ i. header (both.is_two i) (same i) ++ (entries (both.is_two i) rows ++ rest));
          is_counted = subst (λ n. n < 4294967296) same low;
          are_versions = all;
          are_told = subst (λ f. AreTold f rows) both.is_two h.told;
          rise = rise;
        };
        are_short = both.are_short;
      }

  -- all was read
  pub page_is_read : IsReading bytes format count rows rest → count ≤ length rows → rest ≡ [] → format_of rows ≡ format → bytes ≡ packed_page rows
  unfolding packed_in
  page_is_read h done none own =
      let same : count ≡ length rows = all_are_read h done in
      h.are ∙ (λ i. header format (same i) ++ (entries format rows ++ none i)) ∙ ap (λ b. header format (length rows) ++ b) (append-nil (entries format rows))
      ∙ (λ i. packed_in (sym own i) rows) ∙ sym (packed_page_is rows)

  -- an entry more still has its place in four bytes
  pub room_for_entry : (after : List ℕ) (v : Version) → IsReading bytes format count rows rest → AreVersions rows → IsVersion v → IsTold format v.value → rest ≡ entry format v ++ after → length bytes < 2 ^ 32 → length (packed_page (rows ++ v ∷ [])) < 2 ^ 32
  room_for_entry after v h all is told e low =
      let here = ap length h.are ∙ length-append (header format count) (entries format rows ++ rest) ∙ ap (λ n. 5 + n) (length-append (entries format rows) rest ∙ ap (λ n. length (entries format rows) + n) (ap length e ∙ length-append (entry format v) after)) in
      let there = length-packed_page (rows ++ v ∷ []) in
      let fewer = entries_in_own format (rows ++ v ∷ []) (are_told_more format rows v h.told told) in
      let more = length-entries-push format rows v in
      omega arith

pub reading_first : (bytes : List ℕ) (format : Format) (count : ℕ) (rows : List Version) (rest : List ℕ) → bytes ≡ header format count ++ rest → rows ≡ [] → IsReading bytes format count rows rest
reading_first bytes format count rows rest e none = subst (λ vs. IsReading bytes format count vs rest) (sym none) (record { are = e; few = omega arith; told = tt })

pub reading_more : (bytes : List ℕ) (format : Format) (count : ℕ) (rows more : List Version) (rest after : List ℕ) (v : Version) → IsReading bytes format count rows rest → length rows < count → rest ≡ entry format v ++ after → IsTold format v.value → more ≡ rows ++ v ∷ [] → IsReading bytes format count more after
reading_more bytes format count rows more rest after v h short e told m = subst (λ vs. IsReading bytes format count vs after) (sym m) (record {
  are = h.are ∙ ap (λ b. header format count ++ b) (ap (λ b. entries format rows ++ b) e ∙ sym (append_assoc (entries format rows) (entry format v) after) ∙ ap (λ b. b ++ after) (sym (entries-push format rows v)));
  few = let l = length-append rows (v ∷ []) in omega arith;
  told = are_told_more format rows v h.told told;
})
