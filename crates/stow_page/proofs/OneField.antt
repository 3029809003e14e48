-- Bytes that begin no entry end in a field, or have a whole one out of its range, and not both.
use Rattle.std.proofs.Common.{◌≡◌, ℕ, suc, ◌+◌, ◌<◌, ◌≤◌, List, [], ◌∷◌, ◌++◌, length, drop, take, refl, sym, ◌∙◌, ap, subst, arith, append_assoc, length-append, ⊎_elim, inl, inr, ◌⊎◌}
use Rattle.std.specs.Int.{to_be_bytes, from_be_bytes, w16, w32, w64}
use Rattle.stow_tree_model.specs.Keys.{IsTenantKey, IsOfTenant, tenant_of}
use Rattle.stow_tree_model.specs.StowBytes.Limits.{value_limit}
use Rattle.stow_page.specs.Format.{place_bytes, length_bytes, length_width}
use Rattle.stow_page.specs.declared.format.Format.{Format}
use Rattle.stow_page.specs.declared.format.Format.TheVariants.{One, Two}
use Rattle.stow_page.specs.Rows.{after_key}
use Rattle.stow_page.specs.Faults.{Front, Nothing, Length, Index, Key, Number, Put, PutLength, front_bytes, width, IsKeyLength, IsTenantIndex, IsVersionNumber, IsGood, IsTooLong, IsOutOfRange, EndsInField, HasBadField}
use Rattle.stow_page.proofs.Entries.{from16, from64}
use Rattle.stow_page.proofs.Unique.{from32, front16, front32, front64, behind_key, behind_number}

tenant_at_front : (key later : List ℕ) → 4 ≤ length key → from_be_bytes w32 (key ++ later) ≡ tenant_of key
unfolding tenant_of
tenant_at_front [] later h = absurd (omega arith)
tenant_at_front (_ ∷ []) later h = absurd (omega arith)
tenant_at_front (_ ∷ _ ∷ []) later h = absurd (omega arith)
tenant_at_front (_ ∷ _ ∷ _ ∷ []) later h = absurd (omega arith)
tenant_at_front (_ ∷ _ ∷ _ ∷ _ ∷ more) later h = refl

-- ---- what is known of bytes behind a good key, or a good number

module _ (format : Format) (bytes : List ℕ) where
  key_length : (key later : List ℕ) → IsTenantKey key → bytes ≡ to_be_bytes w16 (length key) ++ later → from_be_bytes w16 bytes ≡ length key
  key_length key later h are = let short = h.is_short in ap (from_be_bytes w16) are ∙ from16 (length key) later (omega arith)

  good_length : (key later : List ℕ) → IsTenantKey key → bytes ≡ to_be_bytes w16 (length key) ++ later → IsKeyLength (from_be_bytes w16 bytes)
  good_length key later h are = subst IsKeyLength (sym (key_length key later h are)) (h.has_index, h.is_short)

  good_index : (key later : List ℕ) → IsTenantKey key × IsOfTenant key → bytes ≡ front_bytes format (Key key) ++ later → IsTenantIndex (from_be_bytes w32 (drop 2 bytes))
  good_index key later h are = subst IsTenantIndex (sym (ap (λ b. from_be_bytes w32 (drop 2 b)) are ∙ tenant_at_front key later h.0.has_index)) h.1

  behind : (key : List ℕ) (number : ℕ) (later : List ℕ) → bytes ≡ front_bytes format (Number key number) ++ later → bytes ≡ front_bytes format (Key key) ++ (to_be_bytes w64 number ++ later)
  behind key number later are = are ∙ ap (λ b. to_be_bytes w16 (length key) ++ b) (append_assoc key (to_be_bytes w64 number) later)

  good_number : (key : List ℕ) (number : ℕ) (later : List ℕ) → IsGood format (Number key number) → bytes ≡ front_bytes format (Number key number) ++ later → IsVersionNumber (from_be_bytes w64 (after_key bytes))
  good_number key number later good are =
      let high = good.2.1 in
      subst IsVersionNumber (sym (ap (λ b. from_be_bytes w64 (after_key b)) (behind key number later are) ∙ ap (from_be_bytes w64) (behind_key key (to_be_bytes w64 number ++ later) good.0) ∙ from64 number later (omega arith))) good.2

  long_key : (key later : List ℕ) → bytes ≡ front_bytes format (Key key) ++ later → length bytes ≡ 2 + (length key + length later)
  long_key key later are = ap length are ∙ length-append (to_be_bytes w16 (length key)) (key ++ later) ∙ ap (λ m. 2 + m) (length-append key later)

  long_number : (key : List ℕ) (number : ℕ) (later : List ℕ) → bytes ≡ front_bytes format (Number key number) ++ later → length bytes ≡ 2 + (length key + (8 + length later))
  long_number key number later are = long_key key (to_be_bytes w64 number ++ later) (behind key number later are) ∙ ap (λ m. 2 + (length key + m)) (length-append (to_be_bytes w64 number) later)

  put_behind : (key : List ℕ) (number : ℕ) (later : List ℕ) → bytes ≡ front_bytes format (Put key number) ++ later → bytes ≡ front_bytes format (Number key number) ++ 0 ∷ later
  put_behind key number later are = are ∙ append_assoc (place_bytes key number) (0 ∷ []) later

  length_behind : (key : List ℕ) (number n : ℕ) (later : List ℕ) → bytes ≡ front_bytes format (PutLength key number n) ++ later → bytes ≡ front_bytes format (Number key number) ++ 0 ∷ (length_bytes format n ++ later)
  length_behind key number n later are = are ∙ append_assoc (place_bytes key number) (0 ∷ length_bytes format n) later

-- ---- bytes that end in a field end before another one, or have that one in its range

module _ (format : Format) (bytes rest : List ℕ) where
  past_length : (front : Front) → IsGood format front → bytes ≡ front_bytes format front ++ rest → length rest < width format front → (length bytes < 2) ⊎ IsKeyLength (from_be_bytes w16 bytes)
  past_length Nothing good are short = inl (let same = ap length are in omega arith)
  past_length (Length n) good are short = inr (let high = good.1 in subst IsKeyLength (sym (ap (from_be_bytes w16) are ∙ from16 n rest (omega arith))) good)
  past_length (Index n tenant) good are short = inr (let high = good.0.1 in subst IsKeyLength (sym (ap (from_be_bytes w16) are ∙ from16 n (to_be_bytes w32 tenant ++ rest) (omega arith))) good.0)
  past_length (Key key) good are short = inr (good_length format bytes key _ good.0 are)
  past_length (Number key number) good are short = inr (good_length format bytes key _ good.0 are)
  past_length (Put key number) good are short = inr (good_length format bytes key _ good.0 are)
  past_length (PutLength key number n) good are short = inr (good_length format bytes key _ good.0 are)

  past_index : (front : Front) → IsGood format front → bytes ≡ front_bytes format front ++ rest → length rest < width format front → (length bytes < 6) ⊎ IsTenantIndex (from_be_bytes w32 (drop 2 bytes))
  past_index Nothing good are short = inl (let same = ap length are in omega arith)
  past_index (Length n) good are short = inl (let same : length bytes ≡ 2 + length rest = ap length are ∙ length-append (front_bytes format (Length n)) rest in omega arith)
  past_index (Index n tenant) good are short = inr (let high = good.1.1 in subst IsTenantIndex (sym (ap (λ b. from_be_bytes w32 (drop 2 b)) are ∙ from32 tenant rest (omega arith))) good.1)
  past_index (Key key) good are short = inr (good_index format bytes key rest (good.0, good.1) are)
  past_index (Number key number) good are short = inr (good_index format bytes key _ (good.0, good.1) (behind format bytes key number rest are))
  past_index (Put key number) good are short = inr (good_index format bytes key _ (good.0, good.1) (behind format bytes key number _ (put_behind format bytes key number rest are)))
  past_index (PutLength key number n) good are short = inr (good_index format bytes key _ (good.0, good.1) (behind format bytes key number _ (length_behind format bytes key number n rest are)))

  -- bytes that end before a number's field does are short
  before_number : (front : Front) → IsGood format front → bytes ≡ front_bytes format front ++ rest → length rest < width format front → (length bytes < 10 + from_be_bytes w16 bytes) ⊎ IsVersionNumber (from_be_bytes w64 (after_key bytes))
  before_number Nothing good are short = inl (let same = ap length are in omega arith)
  before_number (Length n) good are short = inl (let same : length bytes ≡ 2 + length rest = ap length are ∙ length-append (front_bytes format (Length n)) rest in omega arith)
  before_number (Index n tenant) good are short = inl (
      let high = good.0.1 in
      let same : length bytes ≡ 6 + length rest = ap length are ∙ length-append (front_bytes format (Index n tenant)) rest in
      let is : from_be_bytes w16 bytes ≡ n = ap (from_be_bytes w16) are ∙ from16 n (to_be_bytes w32 tenant ++ rest) (omega arith) in
      omega arith
      )
  before_number (Key key) good are short = inl (
      let same = long_key format bytes key rest are in
      let is = key_length format bytes key (key ++ rest) good.0 are in
      omega arith
      )
  before_number (Number key number) good are short = inr (good_number format bytes key number rest good are)
  before_number (Put key number) good are short = inr (good_number format bytes key number (0 ∷ rest) good (put_behind format bytes key number rest are))
  before_number (PutLength key number n) good are short = inr (good_number format bytes key number (0 ∷ (length_bytes format n ++ rest)) (good.0, good.1, good.2) (length_behind format bytes key number n rest are))

  past_kind : (front : Front) → IsGood format front → bytes ≡ front_bytes format front ++ rest → length rest < width format front → (length bytes < 11 + from_be_bytes w16 bytes) ⊎ ((later : List ℕ) × (drop 8 (after_key bytes) ≡ 0 ∷ later))
  past_kind Nothing good are short = inl (let same = ap length are in omega arith)
  past_kind (Length n) good are short = inl (let same : length bytes ≡ 2 + length rest = ap length are ∙ length-append (front_bytes format (Length n)) rest in omega arith)
  past_kind (Index n tenant) good are short = inl (
      let high = good.0.1 in
      let same : length bytes ≡ 6 + length rest = ap length are ∙ length-append (front_bytes format (Index n tenant)) rest in
      let is : from_be_bytes w16 bytes ≡ n = ap (from_be_bytes w16) are ∙ from16 n (to_be_bytes w32 tenant ++ rest) (omega arith) in
      omega arith
      )
  past_kind (Key key) good are short = inl (
      let same = long_key format bytes key rest are in
      let is = key_length format bytes key (key ++ rest) good.0 are in
      omega arith
      )
  past_kind (Number key number) good are short = inl (
      let same = long_number format bytes key number rest are in
      let is = key_length format bytes key _ good.0 are in
      omega arith
      )
  past_kind (Put key number) good are short = inr (rest, ap (λ b. drop 8 (after_key b)) (put_behind format bytes key number rest are) ∙ behind_number key (0 ∷ rest) number good.0)
  past_kind (PutLength key number n) good are short = inr (length_bytes format n ++ rest, ap (λ b. drop 8 (after_key b)) (length_behind format bytes key number n rest are) ∙ behind_number key (0 ∷ (length_bytes format n ++ rest)) number good.0)

-- bytes that end in a field of format 2 end before a value's length does, or have that within the limit
module _ (bytes rest : List ℕ) where
  past_put_length : (front : Front) → IsGood Two front → bytes ≡ front_bytes Two front ++ rest → length rest < width Two front → (length bytes < 15 + from_be_bytes w16 bytes) ⊎ (from_be_bytes w32 (drop 1 (drop 8 (after_key bytes))) ≤ value_limit)
  past_put_length Nothing good are short = inl (let same = ap length are in omega arith)
  past_put_length (Length n) good are short = inl (let same : length bytes ≡ 2 + length rest = ap length are ∙ length-append (front_bytes Two (Length n)) rest in omega arith)
  past_put_length (Index n tenant) good are short = inl (
      let high = good.0.1 in
      let same : length bytes ≡ 6 + length rest = ap length are ∙ length-append (front_bytes Two (Index n tenant)) rest in
      let is : from_be_bytes w16 bytes ≡ n = ap (from_be_bytes w16) are ∙ from16 n (to_be_bytes w32 tenant ++ rest) (omega arith) in
      omega arith
      )
  past_put_length (Key key) good are short = inl (
      let same = long_key Two bytes key rest are in
      let is = key_length Two bytes key (key ++ rest) good.0 are in
      omega arith
      )
  past_put_length (Number key number) good are short = inl (
      let same = long_number Two bytes key number rest are in
      let is = key_length Two bytes key _ good.0 are in
      omega arith
      )
  past_put_length (Put key number) good are short = inl (
      let same : length bytes ≡ 2 + (length key + (8 + suc (length rest))) = long_number Two bytes key number (0 ∷ rest) (put_behind Two bytes key number rest are) in
      let is = key_length Two bytes key _ good.0 are in
      omega arith
      )
  past_put_length (PutLength key number n) good are short = inr (
      let high = good.3 in
      let behind : drop 8 (after_key bytes) ≡ 0 ∷ (length_bytes Two n ++ rest) = ap (λ b. drop 8 (after_key b)) (length_behind Two bytes key number n rest are) ∙ behind_number key (0 ∷ (length_bytes Two n ++ rest)) number good.0 in
      let is : from_be_bytes w32 (drop 1 (drop 8 (after_key bytes))) ≡ n = ap (λ b. from_be_bytes w32 (drop 1 b)) behind ∙ from32 n rest (omega arith) in
      omega arith
      )

kind_is : (field rest later : List ℕ) → field ++ rest ≡ 0 ∷ later → length field ≡ 1 → field ≡ 0 ∷ []
kind_is [] rest later e one = absurd (omega arith)
kind_is (k ∷ []) rest later e one = ap (take 1) e
kind_is (k ∷ l ∷ more) rest later e one = absurd (omega arith)

-- a value's length that is too long is whole
long_whole : (format : Format) (bytes : List ℕ) (key : List ℕ) (number : ℕ) (field rest : List ℕ) → EndsInField format bytes → IsTenantKey key → bytes ≡ front_bytes format (Put key number) ++ (field ++ rest) → length field ≡ length_width format → IsTooLong format field → ⊥
long_whole One bytes key number field rest e is are whole bad = bad
long_whole Two bytes key number field rest e is are whole bad = ⊎_elim
    (λ (short : length bytes < 15 + from_be_bytes w16 bytes).
    let same : length bytes ≡ 2 + (length key + (8 + suc (length (field ++ rest)))) = long_number Two bytes key number (0 ∷ (field ++ rest)) (put_behind Two bytes key number (field ++ rest) are) in
    let both = length-append field rest in
    let key_is = key_length Two bytes key _ is are in
    omega arith)
    (λ (low : from_be_bytes w32 (drop 1 (drop 8 (after_key bytes))) ≤ value_limit).
    let behind : drop 8 (after_key bytes) ≡ 0 ∷ (field ++ rest) = ap (λ b. drop 8 (after_key b)) (put_behind Two bytes key number (field ++ rest) are) ∙ behind_number key (0 ∷ (field ++ rest)) number is in
    let same : from_be_bytes w32 (drop 1 (drop 8 (after_key bytes))) ≡ from_be_bytes w32 field = ap (λ b. from_be_bytes w32 (drop 1 b)) behind ∙ front32 field rest whole in
    omega arith)
    (past_put_length bytes e.rest e.front e.is_good e.are e.ends)

pub not_both : (format : Format) (bytes : List ℕ) → EndsInField format bytes → HasBadField format bytes → ⊥
not_both format bytes e b = by b.front b.is_good b.are b.is_whole b.is_bad
  where
    by : (front : Front) → IsGood format front → bytes ≡ front_bytes format front ++ (b.field ++ b.rest) → length b.field ≡ width format front → IsOutOfRange format front b.field → ⊥
    by Nothing good are whole bad = ⊎_elim
        (λ (short : length bytes < 2). let same = ap length are ∙ length-append b.field b.rest in omega arith)
        (λ (fits : IsKeyLength (from_be_bytes w16 bytes)). bad (subst IsKeyLength (ap (from_be_bytes w16) are ∙ front16 b.field b.rest whole) fits))
        (past_length format bytes e.rest e.front e.is_good e.are e.ends)
    by (Length n) good are whole bad = ⊎_elim
        (λ (short : length bytes < 6). let same : length bytes ≡ 2 + length (b.field ++ b.rest) = ap length are ∙ length-append (front_bytes format (Length n)) (b.field ++ b.rest) in let both = length-append b.field b.rest in omega arith)
        (λ (fits : IsTenantIndex (from_be_bytes w32 (drop 2 bytes))). bad (subst IsTenantIndex (ap (λ c. from_be_bytes w32 (drop 2 c)) are ∙ front32 b.field b.rest whole) fits))
        (past_index format bytes e.rest e.front e.is_good e.are e.ends)
    by (Index n tenant) good are whole bad = bad
    by (Key key) good are whole bad = ⊎_elim
        (λ (short : length bytes < 10 + from_be_bytes w16 bytes).
        let same = long_key format bytes key (b.field ++ b.rest) are in
        let both = length-append b.field b.rest in
        let is = key_length format bytes key (key ++ (b.field ++ b.rest)) good.0 are in
        omega arith)
        (λ (fits : IsVersionNumber (from_be_bytes w64 (after_key bytes))). bad (subst IsVersionNumber (ap (λ c. from_be_bytes w64 (after_key c)) are ∙ ap (from_be_bytes w64) (behind_key key (b.field ++ b.rest) good.0) ∙ front64 b.field b.rest whole) fits))
        (before_number format bytes e.rest e.front e.is_good e.are e.ends)
    by (Number key number) good are whole bad = ⊎_elim
        (λ (short : length bytes < 11 + from_be_bytes w16 bytes).
        let same = long_number format bytes key number (b.field ++ b.rest) are in
        let both = length-append b.field b.rest in
        let is = key_length format bytes key _ good.0 are in
        omega arith)
        (λ (put : (later : List ℕ) × (drop 8 (after_key bytes) ≡ 0 ∷ later)).
        bad.0 (kind_is b.field b.rest put.0 (sym (ap (λ c. drop 8 (after_key c)) are ∙ behind_number key (b.field ++ b.rest) number good.0) ∙ put.1) whole))
        (past_kind format bytes e.rest e.front e.is_good e.are e.ends)
    by (Put key number) good are whole bad = long_whole format bytes key number b.field b.rest e good.0 are whole bad
    by (PutLength key number n) good are whole bad = bad
