-- Fields at the front of bytes.
use Rattle.std.proofs.Common.{◌≡◌, ℕ, zero, suc, ◌+◌, ◌<◌, ◌≤◌, ◌^◌, List, [], ◌∷◌, ◌++◌, length, get_or, take, drop, refl, sym, ◌∙◌, ap, subst, arith, append_assoc, lit<, Fits, w8, Bool, false, IsTrue, ◌↔◌, Some}
use Rattle.std.specs.Option.{unwrap_or}
use Rattle.std.proofs.lemmas.Grind.{common_steps}
use Rattle.std.proofs.lemmas.Bool.{true≢false}
use Rattle.std.proofs.Math.Seq.{take-append_seam}
use Rattle.std.proofs.lemmas.List.{get_or-drop, length-drop, length-take-le}
use Rattle.std.proofs.lemmas.Nat.{from_be_bytes-to_be_bytes_2, from_be_bytes-to_be_bytes_4, from_be_bytes-to_be_bytes_8, be_bytes_8}
use Rattle.std.specs.Int.{to_be_bytes, from_be_bytes, w16, w32, w64}
use Rattle.stow_tree_model.specs.StowBytes.Limits.{key_limit, tenant_limit, value_limit}
use Rattle.stow_tree_model.specs.Keys.{IsTenantKey, IsOfTenant, tenant_of}
use Rattle.stow_tree_model.specs.Version.{Version}
use Rattle.stow_page.specs.Format.{entry, tail, format_byte, header, length_bytes, length_width, longest, place_bytes, IsTold}
use Rattle.stow_page.specs.Rows.{length_in}
use Rattle.stow_page.specs.declared.format.Format.{Format}
use Rattle.stow_page.specs.declared.format.Format.TheVariants.{One, Two}
use Rattle.stow_page.proofs.Entries.{entry-append, put-append}
use Rattle.stow_page.specs.Faults.{Nothing, Length, Index, Key, Number, Put, PutLength, front_bytes, IsKeyLength, IsTenantIndex, IsVersionNumber, IsGood, EndsInField, HasBadField}

-- what a test of a field found to be out of its range
pub unfit : {P : Type 0} (found : Bool) → (IsTrue found ↔ P) → found ≡ false → P → ⊥
unfit found h out p = true≢false (sym (h.1 p) ∙ out)

abbrev pub AreBytes : List ℕ → Type 0
AreBytes bytes = (i : ℕ) → get_or bytes i 0 < 256

pub bytes_fit : (bytes : List ℕ) → ((i : ℕ) → Fits w8 (get_or bytes i 0)) → AreBytes bytes
bytes_fit bytes h i = let fits = h i in omega arith

pub split16 : (bytes : List ℕ) → 2 ≤ length bytes → AreBytes bytes → bytes ≡ to_be_bytes w16 (from_be_bytes w16 bytes) ++ drop 2 bytes
split16 bytes long fits = grind (arith, common_steps)

pub split32 : (bytes : List ℕ) → 4 ≤ length bytes → AreBytes bytes → bytes ≡ to_be_bytes w32 (from_be_bytes w32 bytes) ++ drop 4 bytes
split32 bytes long fits = grind (arith, common_steps)

-- numbers in whole fields fit them
from16_fits : (bytes : List ℕ) → 2 ≤ length bytes → AreBytes bytes → from_be_bytes w16 bytes < 2 ^ 16
from16_fits [] long fits = absurd (omega arith)
from16_fits (_ ∷ []) long fits = absurd (omega arith)
from16_fits (a ∷ b ∷ rest) long fits = let one = fits 0 in let two = fits 1 in omega arith

from32_fits : (bytes : List ℕ) → 4 ≤ length bytes → AreBytes bytes → from_be_bytes w32 bytes < 2 ^ 32
from32_fits [] long fits = absurd (omega arith)
from32_fits (_ ∷ []) long fits = absurd (omega arith)
from32_fits (_ ∷ _ ∷ []) long fits = absurd (omega arith)
from32_fits (_ ∷ _ ∷ _ ∷ []) long fits = absurd (omega arith)
from32_fits (a ∷ b ∷ c ∷ d ∷ rest) long fits = let one = fits 0 in let two = fits 1 in let three = fits 2 in let four = fits 3 in omega arith

AreBytes-take : (n : ℕ) (bytes : List ℕ) → AreBytes bytes → AreBytes (take n bytes)
AreBytes-take zero bytes fits i = lit< tt
AreBytes-take (suc n) [] fits i = lit< tt
AreBytes-take (suc n) (x ∷ xs) fits zero = fits 0
AreBytes-take (suc n) (x ∷ xs) fits (suc i) = AreBytes-take n xs (λ j. fits (suc j)) i

pub split64 : (bytes : List ℕ) → 8 ≤ length bytes → AreBytes bytes → bytes ≡ to_be_bytes w64 (from_be_bytes w64 bytes) ++ drop 8 bytes
split64 [] long fits = absurd (omega arith)
split64 (_ ∷ []) long fits = absurd (omega arith)
split64 (_ ∷ _ ∷ []) long fits = absurd (omega arith)
split64 (_ ∷ _ ∷ _ ∷ []) long fits = absurd (omega arith)
split64 (_ ∷ _ ∷ _ ∷ _ ∷ []) long fits = absurd (omega arith)
split64 (_ ∷ _ ∷ _ ∷ _ ∷ _ ∷ []) long fits = absurd (omega arith)
split64 (_ ∷ _ ∷ _ ∷ _ ∷ _ ∷ _ ∷ []) long fits = absurd (omega arith)
split64 (_ ∷ _ ∷ _ ∷ _ ∷ _ ∷ _ ∷ _ ∷ []) long fits = absurd (omega arith)
split64 (a ∷ b ∷ c ∷ d ∷ e ∷ f ∷ g ∷ h ∷ rest) long fits =
    ap (λ x. x ++ rest) (sym (be_bytes_8 (a ∷ b ∷ c ∷ d ∷ e ∷ f ∷ g ∷ h ∷ []) _ refl (AreBytes-take 8 (a ∷ b ∷ c ∷ d ∷ e ∷ f ∷ g ∷ h ∷ rest) fits) refl))

take_take : (m n : ℕ) (bytes : List ℕ) → m ≤ n → take m (take n bytes) ≡ take m bytes
take_take zero n bytes low = refl
take_take (suc m) zero bytes low = absurd (omega arith)
take_take (suc m) (suc n) [] low = refl
take_take (suc m) (suc n) (x ∷ xs) low = ap (λ l. x ∷ l) (take_take m n xs (omega arith))

AreBytes-drop : (n : ℕ) (bytes : List ℕ) → AreBytes bytes → AreBytes (drop n bytes)
AreBytes-drop n bytes fits i = subst (λ b. b < 256) (sym (get_or-drop n bytes i 0)) (fits (n + i))

-- ---- a key

pub length_ends : (format : Format) (bytes : List ℕ) → length bytes < 2 → EndsInField format bytes
length_ends format bytes h = record { front = Nothing; is_good = tt; rest = bytes; are = refl; ends = h }

pub bad_length : (format : Format) (bytes : List ℕ) (n : ℕ) → 2 ≤ length bytes → AreBytes bytes → n ≡ from_be_bytes w16 bytes → n < 2 ^ 16 → (IsKeyLength n → ⊥) → HasBadField format bytes
bad_length format bytes n long fits e low bad = record {
  front = Nothing;
  is_good = tt;
  field = to_be_bytes w16 (from_be_bytes w16 bytes);
  rest = drop 2 bytes;
  are = split16 bytes long fits;
  is_whole = refl;
  is_bad = λ r. bad (subst IsKeyLength (from_be_bytes-to_be_bytes_2 (from_be_bytes w16 bytes) (subst (λ m. m < 2 ^ 16) e low) ∙ sym e) r);
}

-- what stands behind a good length
pub record AfterLength (bytes rest : List ℕ) (n : ℕ) : Type 0 where
  pub are : bytes ≡ to_be_bytes w16 n ++ rest
  pub is_length : IsKeyLength n
  pub fits : AreBytes rest

pub after_length : (bytes rest : List ℕ) (n : ℕ) → 2 ≤ length bytes → AreBytes bytes → n ≡ from_be_bytes w16 bytes → rest ≡ drop 2 bytes → IsKeyLength n → AfterLength bytes rest n
after_length bytes rest n long fits e r good = record {
  are = split16 bytes long fits ∙ (λ i. to_be_bytes w16 (sym e i) ++ sym r i);
  is_length = good;
  fits = subst AreBytes (sym r) (AreBytes-drop 2 bytes fits);
}

pub index_ends : (format : Format) (bytes rest : List ℕ) (n : ℕ) → AfterLength bytes rest n → length rest < 4 → EndsInField format bytes
index_ends format bytes rest n h short = record { front = Length n; is_good = h.is_length; rest = rest; are = h.are; ends = short }

pub bad_index : (format : Format) (bytes rest : List ℕ) (n tenant : ℕ) → AfterLength bytes rest n → 4 ≤ length rest → tenant ≡ from_be_bytes w32 rest → tenant < 2 ^ 32 → (IsTenantIndex tenant → ⊥) → HasBadField format bytes
bad_index format bytes rest n tenant h long e low bad = record {
  front = Length n;
  is_good = h.is_length;
  field = to_be_bytes w32 (from_be_bytes w32 rest);
  rest = drop 4 rest;
  are = h.are ∙ ap (λ b. to_be_bytes w16 n ++ b) (split32 rest long h.fits);
  is_whole = refl;
  is_bad = λ r. bad (subst IsTenantIndex (from_be_bytes-to_be_bytes_4 (from_be_bytes w32 rest) (subst (λ m. m < 2 ^ 32) e low) ∙ sym e) r);
}

split_index : (rest : List ℕ) (tenant : ℕ) → 4 ≤ length rest → AreBytes rest → tenant ≡ from_be_bytes w32 rest → rest ≡ to_be_bytes w32 tenant ++ drop 4 rest
split_index rest tenant long fits e = split32 rest long fits ∙ ap (λ t. to_be_bytes w32 t ++ drop 4 rest) (sym e)

pub key_ends : (format : Format) (bytes rest : List ℕ) (n tenant : ℕ) → AfterLength bytes rest n → 4 ≤ length rest → tenant ≡ from_be_bytes w32 rest → IsTenantIndex tenant → length rest < n → EndsInField format bytes
key_ends format bytes rest n tenant h long e good short =
    let left = length-drop 4 rest in
    record {
      front = Index n tenant;
      is_good = (h.is_length, good);
      rest = drop 4 rest;
      are = h.are ∙ ap (λ b. to_be_bytes w16 n ++ b) (split_index rest tenant long h.fits e);
      ends = omega arith;
    }

tenant_of-take : (rest : List ℕ) (n tenant : ℕ) → 4 ≤ n → 4 ≤ length rest → AreBytes rest → tenant ≡ from_be_bytes w32 rest → tenant < 2 ^ 32 → tenant_of (take n rest) ≡ tenant
unfolding tenant_of
tenant_of-take rest n tenant long whole fits e low =
    ap (λ b. from_be_bytes w32 (take 4 (take n b))) (split_index rest tenant whole fits e)
    ∙ ap (from_be_bytes w32) (take_take 4 n (to_be_bytes w32 tenant ++ drop 4 rest) long ∙ take-append_seam (to_be_bytes w32 tenant) (drop 4 rest))
    ∙ from_be_bytes-to_be_bytes_4 tenant low

-- a whole key
pub is_key : (bytes rest : List ℕ) (n tenant : ℕ) → AfterLength bytes rest n → n ≤ length rest → tenant ≡ from_be_bytes w32 rest → tenant < 2 ^ 32 → IsTenantIndex tenant → IsTenantKey (take n rest) × IsOfTenant (take n rest)
is_key bytes rest n tenant h whole e low good =
    let four = h.is_length.0 in
    let here : length (take n rest) ≡ n = length-take-le n rest whole in
    let is : tenant_of (take n rest) ≡ tenant = tenant_of-take rest n tenant h.is_length.0 (omega arith) h.fits e low in (
      record {
        has_index = subst (λ m. 4 ≤ m) (sym here) h.is_length.0;
        is_short = subst (λ m. m ≤ 4 + key_limit) (sym here) h.is_length.1;
        is_near = subst (λ t. t ≤ tenant_limit + 1) (sym is) (let most = good.1 in omega arith);
      },
      subst IsTenantIndex (sym is) good,
    )

pub key_is_read : (bytes rest key after : List ℕ) (n : ℕ) → AfterLength bytes rest n → rest ≡ key ++ after → length key ≡ n → bytes ≡ to_be_bytes w16 (length key) ++ (key ++ after)
key_is_read bytes rest key after n h e l = h.are ∙ (λ i. to_be_bytes w16 (sym l i) ++ e i)

-- ---- a number

pub bad_number : (format : Format) (key rest : List ℕ) (n : ℕ) → IsGood format (Key key) → 8 ≤ length rest → AreBytes rest → n ≡ from_be_bytes w64 rest → n < 2 ^ 64 → (IsVersionNumber n → ⊥) → HasBadField format (front_bytes format (Key key) ++ rest)
bad_number format key rest n good long fits e low bad = record {
  front = Key key;
  is_good = good;
  field = to_be_bytes w64 (from_be_bytes w64 rest);
  rest = drop 8 rest;
  are = ap (λ b. front_bytes format (Key key) ++ b) (split64 rest long fits);
  is_whole = refl;
  is_bad = λ r. bad (subst IsVersionNumber (from_be_bytes-to_be_bytes_8 (from_be_bytes w64 rest) (subst (λ m. m < 2 ^ 64) e low) ∙ sym e) r);
}

pub number_ends : (format : Format) (key rest : List ℕ) → IsGood format (Key key) → length rest < 8 → EndsInField format (front_bytes format (Key key) ++ rest)
number_ends format key rest good short = record { front = Key key; is_good = good; rest = rest; are = refl; ends = short }

-- ---- a value

module _ (format : Format) where
  pub kind_ends : (key rest : List ℕ) (number : ℕ) → IsGood format (Number key number) → length rest ≡ 0 → EndsInField format (front_bytes format (Number key number) ++ rest)
  kind_ends key rest number good none = record { front = Number key number; is_good = good; rest = rest; are = refl; ends = omega arith }

  pub bad_kind : (key bytes rest : List ℕ) (number kind : ℕ) → IsGood format (Number key number) → bytes ≡ kind ∷ rest → (kind ≡ 0 → ⊥) → (kind ≡ 1 → ⊥) → HasBadField format (front_bytes format (Number key number) ++ bytes)
  bad_kind key bytes rest number kind good e zero_no one_no = record {
    front = Number key number;
    is_good = good;
    field = kind ∷ [];
    rest = rest;
    are = ap (λ b. front_bytes format (Number key number) ++ b) e;
    is_whole = refl;
    is_bad = (λ z. zero_no (ap (λ bs. get_or bs 0 0) z), λ o. one_no (ap (λ bs. get_or bs 0 0) o));
  }

  pub put_length_ends : (key rest : List ℕ) (number : ℕ) → IsGood format (Number key number) → length rest < length_width format → EndsInField format (front_bytes format (Number key number) ++ 0 ∷ rest)
  put_length_ends key rest number good short = record
      { front = Put key number; is_good = good; rest = rest; are = sym (append_assoc (place_bytes key number) (0 ∷ []) rest); ends = short }

-- a value's length at the front of bytes, and what follows it
pub split_length : (format : Format) (bytes : List ℕ) → length_width format ≤ length bytes → AreBytes bytes → bytes ≡ length_bytes format (length_in format bytes) ++ drop (length_width format) bytes
split_length One bytes long fits = split16 bytes long fits
split_length Two bytes long fits = split32 bytes long fits

-- a length within the limit can be told in the format that it was read in
pub length_fits : (format : Format) (bytes : List ℕ) → length_width format ≤ length bytes → AreBytes bytes → length_in format bytes ≤ value_limit → length_in format bytes ≤ longest format
length_fits One bytes long fits low = let e = split16 bytes long fits in let short = from16_fits bytes long fits in omega arith
length_fits Two bytes long fits low = low

pub bad_put_length : (format : Format) (key bytes : List ℕ) (number n : ℕ) → IsGood format (Number key number) → length_width format ≤ length bytes → AreBytes bytes → n ≡ length_in format bytes → value_limit < n → HasBadField format (front_bytes format (Number key number) ++ 0 ∷ bytes)
bad_put_length One key bytes number n good long fits e high = absurd (let short = from16_fits bytes long fits in omega arith)
bad_put_length Two key bytes number n good long fits e high = record {
  front = Put key number;
  is_good = good;
  field = to_be_bytes w32 (from_be_bytes w32 bytes);
  rest = drop 4 bytes;
  are = ap (λ b. place_bytes key number ++ 0 ∷ b) (split32 bytes long fits) ∙ sym (append_assoc (place_bytes key number) (0 ∷ []) (to_be_bytes w32 (from_be_bytes w32 bytes) ++ drop 4 bytes));
  is_whole = refl;
  is_bad = let fit = from32_fits bytes long fits in subst (λ m. value_limit < m) (e ∙ sym (from_be_bytes-to_be_bytes_4 (from_be_bytes w32 bytes) fit)) high;
}

pub value_ends : (format : Format) (key bytes rest : List ℕ) (number n : ℕ) → IsGood format (Number key number) → length_width format ≤ length bytes → AreBytes bytes → n ≡ length_in format bytes → n ≤ value_limit → rest ≡ drop (length_width format) bytes → length rest < n
    → EndsInField format (front_bytes format (Number key number) ++ 0 ∷ bytes)
value_ends format key bytes rest number n good long fits e low r short = record {
  front = PutLength key number n;
  is_good = (good.0, good.1, good.2, subst (λ m. m ≤ longest format) (sym e) (length_fits format bytes long fits (subst (λ m. m ≤ value_limit) e low)));
  rest = rest;
  are = ap (λ b. place_bytes key number ++ 0 ∷ b) (split_length format bytes long fits ∙ (λ i. length_bytes format (sym e i) ++ sym r i)) ∙ sym (append_assoc (place_bytes key number) (0 ∷ length_bytes format n) rest);
  ends = short;
}

-- a whole value
pub value_is_read : (format : Format) (bytes rest value after : List ℕ) (n : ℕ) → length_width format ≤ length bytes → AreBytes bytes → n ≡ length_in format bytes → n ≤ value_limit → rest ≡ drop (length_width format) bytes → rest ≡ value ++ after → length value ≡ n
    → (0 ∷ bytes ≡ tail format (Some value) ++ after) × IsTold format (Some value)
value_is_read format bytes rest value after n long fits e low r v l = (
  ap (λ b. 0 ∷ b) (split_length format bytes long fits ∙ (λ i. length_bytes format ((sym e ∙ sym l) i) ++ (sym r ∙ v) i)) ∙ sym (put-append format value after),
  record { is_short = λ b is. subst (λ c. length c ≤ longest format) (ap (λ o. unwrap_or o value) is) (subst (λ m. m ≤ longest format) (sym e ∙ sym l) (length_fits format bytes long fits (subst (λ m. m ≤ value_limit) e low))) },
)

-- ---- a whole entry

pub entry_is_read : (format : Format) (bytes after_key after_number : List ℕ) (v : Version) (rest : List ℕ) → bytes ≡ to_be_bytes w16 (length v.key) ++ (v.key ++ after_key) → after_key ≡ to_be_bytes w64 v.number ++ after_number → after_number ≡ tail format v.value ++ rest → bytes ≡ entry format v ++ rest
entry_is_read format bytes after_key after_number v rest k n t =
    k
    ∙ ap (λ b. to_be_bytes w16 (length v.key) ++ (v.key ++ b)) (n ∙ ap (λ b. to_be_bytes w64 v.number ++ b) t)
    ∙ sym (entry-append format v rest)

-- ---- the header

pub header_is_read : (bytes : List ℕ) (byte : ℕ) (format : Format) (rest later : List ℕ) (count : ℕ) → AreBytes bytes → bytes ≡ byte ∷ rest → byte ≡ format_byte format → 4 ≤ length rest → count ≡ from_be_bytes w32 rest → later ≡ drop 4 rest → bytes ≡ header format count ++ later
header_is_read bytes byte format rest later count fits e one long c l =
    let rest_fits : AreBytes rest = λ i. subst (λ b. get_or b (suc i) 0 < 256) e (fits (suc i)) in
    e ∙ (λ i. one i ∷ (split_index rest count long rest_fits c ∙ ap (λ b. to_be_bytes w32 count ++ b) (sym l)) i)
