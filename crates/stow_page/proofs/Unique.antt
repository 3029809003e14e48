-- Bytes begin one entry at most, and none where they have a fault.
use Rattle.std.proofs.Common.{◌≡◌, ℕ, zero, suc, ◌+◌, ◌<◌, ◌≤◌, ◌^◌, List, [], ◌∷◌, ◌++◌, length, get_or, take, drop, refl, sym, ◌∙◌, ap, subst, arith, append_assoc, length-append, length-drop, Option, Some, None}
use Rattle.std.proofs.Math.Seq.{take-append_seam, drop-append_seam}
use Rattle.std.proofs.lemmas.Nat.{from_be_bytes-to_be_bytes_2, from_be_bytes-to_be_bytes_4}
use Rattle.std.specs.Int.{to_be_bytes, from_be_bytes, w16, w32, w64}
use Rattle.stow_tree_model.specs.Keys.{IsTenantKey, tenant_of}
use Rattle.stow_tree_model.specs.Version.{Version}
use Rattle.stow_page.specs.Format.{entry, tail, length_bytes, length_width, longest, place_bytes, IsTold, IsVersion}
use Rattle.stow_page.specs.declared.format.Format.{Format}
use Rattle.stow_page.specs.declared.format.Format.TheVariants.{One, Two}
use Rattle.stow_page.specs.Rows.{length_in, version_in, after_key, IsAtFront}
use Rattle.stow_page.specs.Faults.{Front, Nothing, Length, Index, Key, Number, Put, PutLength, front_bytes, width, IsKeyLength, IsTenantIndex, IsVersionNumber, IsGood, IsTooLong, IsOutOfRange, EndsInField, HasBadField}
use Rattle.stow_page.proofs.Entries.{Parts, parts_at, version_in-at, put-append, length_in-length_bytes, drop-length_bytes, length-length_bytes}

-- ---- one entry at most

module _ (format : Format) where
  at_entry : (v : Version) (rest : List ℕ) → IsVersion v → IsTold format v.value → IsAtFront format v (entry format v ++ rest)
  at_entry v rest h told = record { rest = rest; is_entry = refl; is_version = h; is_told = told }

  pub same_version : (v w : Version) (x y : List ℕ) → IsVersion v → IsTold format v.value → IsVersion w → IsTold format w.value → entry format v ++ x ≡ entry format w ++ y → v ≡ w
  same_version v w x y hv tv hw tw e =
      sym (version_in-at format v (entry format v ++ x) (at_entry v x hv tv)) ∙ ap (version_in format) e ∙ version_in-at format w (entry format w ++ y) (at_entry w y hw tw)

  pub same_rest : (v w : Version) (x y : List ℕ) → IsVersion v → IsTold format v.value → IsVersion w → IsTold format w.value → entry format v ++ x ≡ entry format w ++ y → x ≡ y
  same_rest v w x y hv tv hw tw e =
      let same = same_version v w x y hv tv hw tw e in
      sym (drop-append_seam (entry format v) x) ∙ (λ i. drop (length (entry format (same i))) (e i)) ∙ drop-append_seam (entry format w) y

-- ---- no field of an entry ends too early, or is out of its range

from16 : (n : ℕ) (rest : List ℕ) → n < 2 ^ 16 → from_be_bytes w16 (to_be_bytes w16 n ++ rest) ≡ n
from16 n rest h = from_be_bytes-to_be_bytes_2 n h

pub from32 : (n : ℕ) (rest : List ℕ) → n < 2 ^ 32 → from_be_bytes w32 (to_be_bytes w32 n ++ rest) ≡ n
from32 n rest h = from_be_bytes-to_be_bytes_4 n h

-- what follows a good key
pub behind_key : (key rest : List ℕ) → IsTenantKey key → after_key (to_be_bytes w16 (length key) ++ (key ++ rest)) ≡ rest
behind_key key rest h =
    let short = h.is_short in
    ap (λ n. drop n (key ++ rest)) (from16 (length key) [] (omega arith)) ∙ drop-append_seam key rest

-- what follows a good key and a number
pub behind_number : (key rest : List ℕ) (number : ℕ) → IsTenantKey key → drop 8 (after_key (place_bytes key number ++ rest)) ≡ rest
behind_number key rest number h =
    ap (λ b. drop 8 (after_key b)) (ap (λ b. to_be_bytes w16 (length key) ++ b) (append_assoc key (to_be_bytes w64 number) rest))
    ∙ ap (drop 8) (behind_key key (to_be_bytes w64 number ++ rest) h)

length-after_key : (bytes : List ℕ) (n : ℕ) → from_be_bytes w16 bytes ≡ n → n + 11 ≤ length bytes → 9 ≤ length (after_key bytes)
length-after_key bytes n e long =
    let one = length-drop 2 bytes in
    let two = length-drop (from_be_bytes w16 bytes) (drop 2 bytes) in
    omega arith

-- a number that fills its field is read in it alone
pub front16 : (field rest : List ℕ) → length field ≡ 2 → from_be_bytes w16 (field ++ rest) ≡ from_be_bytes w16 field
front16 [] rest h = absurd (omega arith)
front16 (_ ∷ []) rest h = absurd (omega arith)
front16 (_ ∷ _ ∷ []) rest h = refl
front16 (_ ∷ _ ∷ _ ∷ _) rest h = absurd (omega arith)

pub front32 : (field rest : List ℕ) → length field ≡ 4 → from_be_bytes w32 (field ++ rest) ≡ from_be_bytes w32 field
front32 [] rest h = absurd (omega arith)
front32 (_ ∷ []) rest h = absurd (omega arith)
front32 (_ ∷ _ ∷ []) rest h = absurd (omega arith)
front32 (_ ∷ _ ∷ _ ∷ []) rest h = absurd (omega arith)
front32 (_ ∷ _ ∷ _ ∷ _ ∷ []) rest h = refl
front32 (_ ∷ _ ∷ _ ∷ _ ∷ _ ∷ _) rest h = absurd (omega arith)

pub front64 : (field rest : List ℕ) → length field ≡ 8 → from_be_bytes w64 (field ++ rest) ≡ from_be_bytes w64 field
front64 [] rest h = absurd (omega arith)
front64 (_ ∷ []) rest h = absurd (omega arith)
front64 (_ ∷ _ ∷ []) rest h = absurd (omega arith)
front64 (_ ∷ _ ∷ _ ∷ []) rest h = absurd (omega arith)
front64 (_ ∷ _ ∷ _ ∷ _ ∷ []) rest h = absurd (omega arith)
front64 (_ ∷ _ ∷ _ ∷ _ ∷ _ ∷ []) rest h = absurd (omega arith)
front64 (_ ∷ _ ∷ _ ∷ _ ∷ _ ∷ _ ∷ []) rest h = absurd (omega arith)
front64 (_ ∷ _ ∷ _ ∷ _ ∷ _ ∷ _ ∷ _ ∷ []) rest h = absurd (omega arith)
front64 (_ ∷ _ ∷ _ ∷ _ ∷ _ ∷ _ ∷ _ ∷ _ ∷ []) rest h = refl
front64 (_ ∷ _ ∷ _ ∷ _ ∷ _ ∷ _ ∷ _ ∷ _ ∷ _ ∷ _) rest h = absurd (omega arith)

put_ends : (format : Format) (value : Option (List ℕ)) (x rest : List ℕ) → tail format value ++ x ≡ 0 ∷ rest → length rest < length_width format → ⊥
put_ends format None x rest e short = (let wrong : 1 ≡ 0 = ap (λ b. get_or b 0 0) e in omega (arith, wrong))
put_ends format (Some value) x rest e short =
    let same : length_bytes format (length value) ++ (value ++ x) ≡ rest = ap (drop 1) (sym (put-append format value x) ∙ e) in
    let long : length_width format + length (value ++ x) ≡ length rest = sym (length-append (length_bytes format (length value)) (value ++ x) ∙ ap (λ n. n + length (value ++ x)) (length-length_bytes format (length value))) ∙ ap length same in
    omega arith

-- what follows the length of a value
same_value : (format : Format) (value x rest : List ℕ) (n : ℕ) → tail format (Some value) ++ x ≡ 0 ∷ (length_bytes format n ++ rest) → length_bytes format (length value) ++ (value ++ x) ≡ length_bytes format n ++ rest
same_value format value x rest n e = ap (drop 1) (sym (put-append format value x) ∙ e)

value_ends : (format : Format) (value : Option (List ℕ)) (x rest : List ℕ) (n : ℕ) → IsTold format value → n ≤ longest format → tail format value ++ x ≡ 0 ∷ (length_bytes format n ++ rest) → length rest < n → ⊥
value_ends format None x rest n is low e short = (let wrong : 1 ≡ 0 = ap (λ b. get_or b 0 0) e in omega (arith, wrong))
value_ends format (Some value) x rest n is low e short =
    let both = same_value format value x rest n e in
    let same : length value ≡ n = sym (length_in-length_bytes format (length value) (value ++ x) (is.is_short value refl)) ∙ ap (length_in format) both ∙ length_in-length_bytes format n rest low in
    let left : value ++ x ≡ rest = sym (drop-length_bytes format (length value) (value ++ x)) ∙ ap (drop (length_width format)) both ∙ drop-length_bytes format n rest in
    let long = sym (length-append value x) ∙ ap length left in
    omega arith

-- the length of a value that was told isn't beyond the limit
not_too_long : (format : Format) (value : Option (List ℕ)) (x field rest : List ℕ) → IsTold format value → tail format value ++ x ≡ 0 ∷ (field ++ rest) → length field ≡ length_width format → IsTooLong format field → ⊥
not_too_long One value x field rest is e whole bad = bad
not_too_long Two None x field rest is e whole bad = (let wrong : 1 ≡ 0 = ap (λ b. get_or b 0 0) e in omega (arith, wrong))
not_too_long Two (Some value) x field rest is e whole bad =
    let both : length_bytes Two (length value) ++ (value ++ x) ≡ field ++ rest = ap (drop 1) (sym (put-append Two value x) ∙ e) in
    let same : length value ≡ from_be_bytes w32 field = sym (length_in-length_bytes Two (length value) (value ++ x) (is.is_short value refl)) ∙ ap (from_be_bytes w32) both ∙ front32 field rest whole in
    let short = is.is_short value refl in
    omega arith

pub entry_does_not_end : (format : Format) (v : Version) (bytes : List ℕ) → IsAtFront format v bytes → EndsInField format bytes → ⊥
entry_does_not_end format v bytes h e = by e.front e.is_good e.are e.ends
  where
    parts : Parts format v bytes
    parts = parts_at format v bytes h

    by : (front : Front) → IsGood format front → bytes ≡ front_bytes format front ++ e.rest → length e.rest < width format front → ⊥
    by Nothing good are short = let long = parts.long in let same = ap length are in omega arith
    by (Length n) good are short =
        let long = parts.long in
        let same : length bytes ≡ 2 + length e.rest = ap length are ∙ length-append (front_bytes format (Length n)) e.rest in
        let key = h.is_version.is_key.has_index in
        omega arith
    by (Index n tenant) good are short =
        let long = parts.long in
        let same : length bytes ≡ 6 + length e.rest = ap length are ∙ length-append (front_bytes format (Index n tenant)) e.rest in
        let high = good.0.1 in
        let n_is : length v.key ≡ n = sym parts.key_length ∙ ap (from_be_bytes w16) are ∙ from16 n (to_be_bytes w32 tenant ++ e.rest) (omega arith) in
        omega arith
    by (Key key) good are short =
        let nine = length-after_key bytes (length v.key) parts.key_length parts.long in
        let rest : after_key bytes ≡ e.rest = ap after_key are ∙ behind_key key e.rest good.0 in
        let same = ap length rest in
        omega arith
    by (Number key number) good are short =
        let nine = length-after_key bytes (length v.key) parts.key_length parts.long in
        let rest : drop 8 (after_key bytes) ≡ e.rest = ap (λ b. drop 8 (after_key b)) are ∙ behind_number key e.rest number good.0 in
        let same = ap length rest in
        let left = length-drop 8 (after_key bytes) in
        omega arith
    by (Put key number) good are short =
        let rest : drop 8 (after_key bytes) ≡ 0 ∷ e.rest = ap (λ b. drop 8 (after_key b)) (are ∙ append_assoc (place_bytes key number) (0 ∷ []) e.rest) ∙ behind_number key (0 ∷ e.rest) number good.0 in
        put_ends format v.value parts.tail_at.rest e.rest (sym parts.tail_at.is_tail ∙ rest) short
    by (PutLength key number n) good are short =
        let rest : drop 8 (after_key bytes) ≡ 0 ∷ (length_bytes format n ++ e.rest) = ap (λ b. drop 8 (after_key b)) (are ∙ append_assoc (place_bytes key number) (0 ∷ length_bytes format n) e.rest) ∙ behind_number key (0 ∷ (length_bytes format n ++ e.rest)) number good.0 in
        value_ends format v.value parts.tail_at.rest e.rest n h.is_told good.3 (sym parts.tail_at.is_tail ∙ rest) short

take_take : (m n : ℕ) (bytes : List ℕ) → m ≤ n → take m (take n bytes) ≡ take m bytes
take_take zero n bytes low = refl
take_take (suc m) zero bytes low = absurd (omega arith)
take_take (suc m) (suc n) [] low = refl
take_take (suc m) (suc n) (x ∷ xs) low = ap (λ l. x ∷ l) (take_take m n xs (omega arith))

tenant_at : (format : Format) (v : Version) (bytes field rest : List ℕ) → Parts format v bytes → IsTenantKey v.key → drop 2 bytes ≡ field ++ rest → length field ≡ 4 → from_be_bytes w32 field ≡ tenant_of v.key
unfolding tenant_of
tenant_at format v bytes field rest parts key e four =
    let has = key.has_index in
    let front : take 4 v.key ≡ field =
    ap (take 4) (sym parts.key ∙ ap (λ n. take n (drop 2 bytes)) parts.key_length)
    ∙ take_take 4 (length v.key) (drop 2 bytes) has ∙ ap (take 4) e ∙ ap (λ n. take n (field ++ rest)) (sym four) ∙ take-append_seam field rest in
    ap (from_be_bytes w32) (sym front)

bad_kind : (format : Format) (value : Option (List ℕ)) (x field rest : List ℕ) → tail format value ++ x ≡ field ++ rest → length field ≡ 1 → (field ≡ 0 ∷ [] → ⊥) → (field ≡ 1 ∷ [] → ⊥) → ⊥
bad_kind format value x [] rest e one none_zero none_one = absurd (omega arith)
bad_kind format None x (k ∷ []) rest e one none_zero none_one = none_one (ap (λ b. take 1 b) (sym e))
bad_kind format (Some value) x (k ∷ []) rest e one none_zero none_one = none_zero (ap (λ b. take 1 b) (sym e))
bad_kind format value x (k ∷ l ∷ more) rest e one none_zero none_one = absurd (omega arith)

pub entry_has_no_bad_field : (format : Format) (v : Version) (bytes : List ℕ) → IsAtFront format v bytes → HasBadField format bytes → ⊥
entry_has_no_bad_field format v bytes h e = by e.front e.is_good e.are e.is_whole e.is_bad
  where
    parts : Parts format v bytes
    parts = parts_at format v bytes h

    by : (front : Front) → IsGood format front → bytes ≡ front_bytes format front ++ (e.field ++ e.rest) → length e.field ≡ width format front → IsOutOfRange format front e.field → ⊥
    by Nothing good are whole bad =
        let is : from_be_bytes w16 e.field ≡ length v.key = sym (front16 e.field e.rest whole) ∙ ap (from_be_bytes w16) (sym are) ∙ parts.key_length in
        bad (subst IsKeyLength (sym is) (h.is_version.is_key.has_index, h.is_version.is_key.is_short))
    by (Length n) good are whole bad =
        let is : from_be_bytes w32 e.field ≡ tenant_of v.key = tenant_at format v bytes e.field e.rest parts h.is_version.is_key (ap (drop 2) are) whole in
        bad (subst IsTenantIndex (sym is) h.is_version.is_of_tenant)
    by (Index n tenant) good are whole bad = bad
    by (Key key) good are whole bad =
        let rest : after_key bytes ≡ e.field ++ e.rest = ap after_key are ∙ behind_key key (e.field ++ e.rest) good.0 in
        let is : from_be_bytes w64 e.field ≡ v.number = sym (front64 e.field e.rest whole) ∙ ap (from_be_bytes w64) (sym rest) ∙ parts.number in
        bad (subst IsVersionNumber (sym is) h.is_version.is_numbered)
    by (Number key number) good are whole bad =
        let rest : drop 8 (after_key bytes) ≡ e.field ++ e.rest = ap (λ b. drop 8 (after_key b)) are ∙ behind_number key (e.field ++ e.rest) number good.0 in
        bad_kind format v.value parts.tail_at.rest e.field e.rest (sym parts.tail_at.is_tail ∙ rest) whole bad.0 bad.1
    by (Put key number) good are whole bad =
        let rest : drop 8 (after_key bytes) ≡ 0 ∷ (e.field ++ e.rest) = ap (λ b. drop 8 (after_key b)) (are ∙ append_assoc (place_bytes key number) (0 ∷ []) (e.field ++ e.rest)) ∙ behind_number key (0 ∷ (e.field ++ e.rest)) number good.0 in
        not_too_long format v.value parts.tail_at.rest e.field e.rest h.is_told (sym parts.tail_at.is_tail ∙ rest) whole bad
    by (PutLength key number n) good are whole bad = bad
