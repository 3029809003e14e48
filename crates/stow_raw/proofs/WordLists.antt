-- Rows of numbers in bytes, as lists.
use Rattle.std.proofs.Common.{◌≡◌, ℕ, zero, suc, ◌+◌, ◌-◌, ◌*◌, ◌^◌, ◌<◌, ◌≤◌, List, [], ◌∷◌, ◌++◌, length, take, drop, get_or, refl, sym, ap, ◌∙◌, arith, length-take, length-drop, take_at, drop_at, drop-drop, take-append-drop}
use Rattle.std.proofs.lemmas.List.{take-append-le, drop-append-le}
use Rattle.std.specs.Int.{w32, to_be_bytes, from_be_bytes}
use Rattle.std.proofs.lemmas.Nat.{from_be_bytes-to_be_bytes_4}
use Rattle.stow_raw.specs.Words.{words}

pub length-words : (k : ℕ) (bs : List ℕ) → length (words k bs) ≡ k
unfolding words
length-words zero bs = refl
length-words (suc k) bs = ap suc (length-words k (drop 4 bs))

nil_of : (xs : List ℕ) → length xs ≡ 0 → xs ≡ []
nil_of [] e = refl
nil_of (x ∷ xs) e = absurd (omega arith)

pub words-append : (n j k : ℕ) (xs ys : List ℕ) → n ≡ j + k → length xs ≡ 4 * j → words n (xs ++ ys) ≡ words j xs ++ words k ys
unfolding words
words-append n zero k xs ys e long = let same : n ≡ k = omega arith in ap (λ l. words n (l ++ ys)) (nil_of xs (omega arith)) ∙ ap (λ m. words m ys) same
words-append zero (suc j) k xs ys e long = absurd (omega arith)
words-append (suc n) (suc j) k xs ys e long = λ i.
    from_be_bytes w32 (take-append-le 4 xs ys (omega arith) i) ∷ ((ap (words n) (drop-append-le 4 xs ys (omega arith)) ∙ words-append n j k (drop 4 xs) ys (omega arith) (omega (arith, length-drop 4 xs))) i)

-- one number alone
pub words-spelled : (x : ℕ) → x < 2 ^ 32 → words 1 (to_be_bytes w32 x) ≡ x ∷ []
unfolding words
words-spelled x fits = ap (λ y. y ∷ []) (from_be_bytes-to_be_bytes_4 x fits)

pub get_or-words : (k i : ℕ) (bs : List ℕ) (d : ℕ) → i < k → get_or (words k bs) i d ≡ from_be_bytes w32 (take 4 (drop (4 * i) bs))
unfolding words
get_or-words zero i bs d lt = absurd (omega arith)
get_or-words (suc k) zero bs d lt = refl
get_or-words (suc k) (suc i) bs d lt = let next : 4 + 4 * i ≡ 4 * suc i = omega arith in
    get_or-words k i (drop 4 bs) d (omega arith) ∙ ap (λ l. from_be_bytes w32 (take 4 l)) (drop-drop (4 * i) 4 bs ∙ ap (λ m. drop m bs) next)

-- the first numbers are those of the first bytes
pub take-words : (k i : ℕ) (bs : List ℕ) → i ≤ k → length bs ≡ 4 * k → take i (words k bs) ≡ words i (take (4 * i) bs)
take-words k i bs le long = let xs = take (4 * i) bs in let ys = drop (4 * i) bs in let count : length xs ≡ 4 * i = omega (arith, length-take (4 * i) bs) in
    ap (λ l. take i (words k l)) (sym (take-append-drop (4 * i) bs)) ∙ ap (take i) (words-append k i (k - i) xs ys (omega arith) count)
    ∙ take_at (words i xs) (words (k - i) ys) i (length-words i xs)

pub drop-words : (k i : ℕ) (bs : List ℕ) → i ≤ k → length bs ≡ 4 * k → drop i (words k bs) ≡ words (k - i) (drop (4 * i) bs)
drop-words k i bs le long = let xs = take (4 * i) bs in let ys = drop (4 * i) bs in let count : length xs ≡ 4 * i = omega (arith, length-take (4 * i) bs) in
    ap (λ l. drop i (words k l)) (sym (take-append-drop (4 * i) bs)) ∙ ap (drop i) (words-append k i (k - i) xs ys (omega arith) count)
    ∙ drop_at (words i xs) (words (k - i) ys) i (length-words i xs)
