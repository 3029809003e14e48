-- Lists and what stands at their front.
use Rattle.std.proofs.Common.{◌≡◌, ℕ, ◌-◌, List, ◌++◌, length, take, drop, ap, ◌∙◌, sym, arith, append_assoc, length-append, length-drop}
use Rattle.std.proofs.Math.Seq.{drop-append_seam}
use Rattle.std.proofs.lemmas.List.{take_all}
use Rattle.stow_resp.specs.Extends.{Extends}

pub keeps_more : (a b c : List ℕ) → Extends a b → Extends b c → Extends a c
keeps_more a b c h k = (h.0 ++ k.0, k.1 ∙ ap (λ t. t ++ k.0) h.1 ∙ append_assoc a h.0 k.0)

-- what comes after the front
pub drop_front : (front rest bytes : List ℕ) (n : ℕ) → bytes ≡ front ++ rest → n ≡ length front → drop n bytes ≡ rest
drop_front front rest bytes n at long = (λ i. drop (long i) (at i)) ∙ drop-append_seam front rest

-- what is read as a slice from a place on
pub slice_from : (bytes : List ℕ) (n : ℕ) → take (length bytes - n) (drop n bytes) ≡ drop n bytes
slice_from bytes n = let l = length-drop n bytes in take_all (length bytes - n) (drop n bytes) (omega arith)

pub length_front : (front rest bytes : List ℕ) → bytes ≡ front ++ rest → length bytes - length rest ≡ length front
length_front front rest bytes at = let l = ap length at in omega (arith, length-append front rest)

-- three pieces, written one after another
pub three_pieces : (old a b c x y z t : List ℕ) → x ≡ old ++ a → t ≡ b → y ≡ x ++ t → z ≡ y ++ c → z ≡ old ++ ((a ++ b) ++ c)
three_pieces old a b c x y z t first is second third =
    third ∙ ap (λ l. l ++ c) (second ∙ (λ i. first i ++ is i) ∙ append_assoc old a b) ∙ append_assoc old (a ++ b) c

-- one more piece of what is left to write
pub piece_written : (had new piece left later whole : List ℕ) → new ≡ had ++ piece → left ≡ piece ++ later → had ++ left ≡ whole → new ++ later ≡ whole
piece_written had new piece left later whole wrote next is =
    ap (λ l. l ++ later) wrote ∙ append_assoc had piece later ∙ ap (λ l. had ++ l) (sym next) ∙ is
