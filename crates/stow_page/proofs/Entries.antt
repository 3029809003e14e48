-- What stands at the front of bytes that begin with an entry.
use Rattle.std.proofs.Common.{◌≡◌, ℕ, ◌+◌, ◌<◌, ◌≤◌, ◌^◌, List, [], ◌∷◌, ◌++◌, length, get_or, take, drop, refl, sym, ◌∙◌, ap, subst, arith, length-append, append_assoc, lit≤, Option, Some, None}
use Rattle.std.proofs.Math.Seq.{take-append_seam, drop-append_seam}
use Rattle.std.proofs.lemmas.Nat.{from_be_bytes-to_be_bytes_2, from_be_bytes-to_be_bytes_4, from_be_bytes-to_be_bytes_8}
use Rattle.std.specs.Int.{to_be_bytes, from_be_bytes, w16, w64}
use Rattle.stow_tree_model.specs.Value.{IsValue}
use Rattle.stow_tree_model.specs.Version.{Version, version_of}
use Rattle.stow_tree_model.specs.declared.version.Version as coded
use Rattle.stow_page.specs.Format.{entry, length_bytes, length_width, longest, place_bytes, tail, IsTold, IsVersion}
use Rattle.stow_page.specs.declared.format.Format.{Format}
use Rattle.stow_page.specs.declared.format.Format.TheVariants.{One, Two}
use Rattle.stow_page.specs.Rows.{length_in, version_in, value_in, after_key, IsAtFront, IsTail}

pub from16 : (n : ℕ) (rest : List ℕ) → n < 2 ^ 16 → from_be_bytes w16 (to_be_bytes w16 n ++ rest) ≡ n
from16 n rest h = from_be_bytes-to_be_bytes_2 n h

pub from64 : (n : ℕ) (rest : List ℕ) → n < 2 ^ 64 → from_be_bytes w64 (to_be_bytes w64 n ++ rest) ≡ n
from64 n rest h = from_be_bytes-to_be_bytes_8 n h

drop2 : (n : ℕ) (rest : List ℕ) → drop 2 (to_be_bytes w16 n ++ rest) ≡ rest
drop2 n rest = refl

drop8 : (n : ℕ) (rest : List ℕ) → drop 8 (to_be_bytes w64 n ++ rest) ≡ rest
drop8 n rest = refl

-- ---- the length of a value

pub longest_value : (format : Format) (n : ℕ) → n ≤ longest format → n ≤ longest Two
longest_value One n h = omega arith
longest_value Two n h = h

-- a value within the limit has its length told in four bytes
pub told_in_four : (value : Option (List ℕ)) → IsValue value → IsTold Two value
told_in_four value h = record { is_short = h.is_short }

pub length_in-length_bytes : (format : Format) (n : ℕ) (rest : List ℕ) → n ≤ longest format → length_in format (length_bytes format n ++ rest) ≡ n
length_in-length_bytes One n rest h = from_be_bytes-to_be_bytes_2 n (omega arith)
length_in-length_bytes Two n rest h = from_be_bytes-to_be_bytes_4 n (omega arith)

pub drop-length_bytes : (format : Format) (n : ℕ) (rest : List ℕ) → drop (length_width format) (length_bytes format n ++ rest) ≡ rest
drop-length_bytes One n rest = refl
drop-length_bytes Two n rest = refl

pub length-length_bytes : (format : Format) (n : ℕ) → length (length_bytes format n) ≡ length_width format
length-length_bytes One n = refl
length-length_bytes Two n = refl

-- ---- the parts of an entry

-- an entry's parts with what follows it
pub entry-append : (format : Format) (v : Version) (rest : List ℕ) → entry format v ++ rest ≡ to_be_bytes w16 (length v.key) ++ (v.key ++ (to_be_bytes w64 v.number ++ (tail format v.value ++ rest)))
unfolding entry
entry-append format v rest =
    append_assoc (place_bytes v.key v.number) (tail format v.value) rest
    ∙ ap (λ x. to_be_bytes w16 (length v.key) ++ x) (append_assoc v.key (to_be_bytes w64 v.number) (tail format v.value ++ rest))

pub key_length : (v : Version) → IsVersion v → length v.key < 2 ^ 16
key_length v h = let short = h.is_key.is_short in omega arith

-- a put's tail with what follows it
pub put-append : (format : Format) (value rest : List ℕ) → tail format (Some value) ++ rest ≡ 0 ∷ (length_bytes format (length value) ++ (value ++ rest))
put-append format value rest = ap (λ b. 0 ∷ b) (append_assoc (length_bytes format (length value)) value rest)

pub value_in-tail : (format : Format) (value : Option (List ℕ)) (rest : List ℕ) → IsTold format value → value_in format (tail format value ++ rest) ≡ value
value_in-tail format None rest h = refl
value_in-tail format (Some value) rest h =
    ap (value_in format) (put-append format value rest)
    ∙ ap Some (
    (λ i. take (length_in-length_bytes format (length value) (value ++ rest) (h.is_short value refl) i) (drop-length_bytes format (length value) (value ++ rest) i))
    ∙ take-append_seam value rest
    )

-- a put's length and value are whole in the bytes
pub record IsPutWhole (format : Format) (after : List ℕ) : Type 0 where
  pub width : length_width format ≤ length after
  pub whole : length_width format + length_in format after ≤ length after

put_of : (format : Format) (value : Option (List ℕ)) (x after : List ℕ) → IsTold format value → 0 ∷ after ≡ tail format value ++ x → IsPutWhole format after
put_of format None x after h e = absurd (let wrong : 0 ≡ 1 = ap (λ b. get_or b 0 0) e in omega (arith, wrong))
put_of format (Some value) x after h e =
    let same : after ≡ length_bytes format (length value) ++ (value ++ x) = ap (drop 1) (e ∙ put-append format value x) in
    let long : length after ≡ length_width format + (length value + length x) =
    ap length same ∙ length-append (length_bytes format (length value)) (value ++ x) ∙ (λ i. length-length_bytes format (length value) i + length-append value x i) in
    let here : length_in format after ≡ length value = ap (length_in format) same ∙ length_in-length_bytes format (length value) (value ++ x) (h.is_short value refl) in
    record { width = omega (arith, long); whole = omega (arith, long, here) }

pub put_at : (format : Format) (bytes after : List ℕ) (kind : ℕ) → IsTail format (value_in format bytes) bytes → bytes ≡ kind ∷ after → kind ≡ 0 → IsPutWhole format after
put_at format bytes after kind h e zero_is = put_of format (value_in format bytes) h.rest after h.is_value (ap (λ k. k ∷ after) (sym zero_is) ∙ sym e ∙ h.is_tail)

tail_is_long : (format : Format) (value : Option (List ℕ)) → 1 ≤ length (tail format value)
tail_is_long format None = lit≤ tt
tail_is_long format (Some value) = omega arith

-- the parts of an entry that stands at the front of bytes
pub record Parts (format : Format) (v : Version) (bytes : List ℕ) : Type 0 where
  pub key_length : from_be_bytes w16 bytes ≡ length v.key
  pub long : length v.key + 11 ≤ length bytes
  pub key : take (from_be_bytes w16 bytes) (drop 2 bytes) ≡ v.key
  pub number : from_be_bytes w64 (after_key bytes) ≡ v.number
  pub value : value_in format (drop 8 (after_key bytes)) ≡ v.value
  pub tail_at : IsTail format v.value (drop 8 (after_key bytes))

parts_of : (format : Format) (v : Version) (rest : List ℕ) → IsVersion v → IsTold format v.value → Parts format v (to_be_bytes w16 (length v.key) ++ (v.key ++ (to_be_bytes w64 v.number ++ (tail format v.value ++ rest))))
parts_of format v rest h told =
    let number : List ℕ = to_be_bytes w64 v.number ++ (tail format v.value ++ rest) in
    let bytes : List ℕ = to_be_bytes w16 (length v.key) ++ (v.key ++ number) in
    let key_is : from_be_bytes w16 bytes ≡ length v.key = from16 (length v.key) [] (key_length v h) in
    let after : after_key bytes ≡ number = ap (λ n. drop n (v.key ++ number)) key_is ∙ drop-append_seam v.key number in
    let low : v.number < 2 ^ 64 = let bound = h.is_numbered.1 in omega arith in
    record {
      key_length = key_is;
      long =
          let one = tail_is_long format v.value in
          let e : length bytes ≡ 2 + (length v.key + (8 + (length (tail format v.value) + length rest))) =
          length-append (to_be_bytes w16 (length v.key)) (v.key ++ number)
          ∙ ap (λ n. 2 + n) (length-append v.key number
          ∙ ap (λ n. length v.key + n) (length-append (to_be_bytes w64 v.number) (tail format v.value ++ rest)
          ∙ ap (λ n. 8 + n) (length-append (tail format v.value) rest))) in
          omega arith;
      key = ap (λ n. take n (v.key ++ number)) key_is ∙ take-append_seam v.key number;
      number = ap (from_be_bytes w64) after ∙ from64 v.number (tail format v.value ++ rest) low;
      value = ap (λ b. value_in format (drop 8 b)) after ∙ value_in-tail format v.value rest told;
      tail_at = record { rest = rest; is_tail = ap (drop 8) after; is_value = told };
    }

pub parts_at : (format : Format) (v : Version) (bytes : List ℕ) → IsAtFront format v bytes → Parts format v bytes
parts_at format v bytes h = subst (Parts format v) (sym (h.is_entry ∙ entry-append format v h.rest)) (parts_of format v h.rest h.is_version h.is_told)

pub version_in-at : (format : Format) (v : Version) (bytes : List ℕ) → IsAtFront format v bytes → version_in format bytes ≡ v
unfolding version_in
version_in-at format v bytes h =
    let parts = parts_at format v bytes h in
    λ i. record { key = parts.key i; number = parts.number i; value = parts.value i }

-- what the code's type keeps
pub is_version : (v : coded.Version) → IsVersion (version_of v)
is_version v = record { is_key = v.key.is_key; is_of_tenant = v.is_of_tenant; is_numbered = v.is_numbered; is_short = v.is_short }
