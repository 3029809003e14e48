-- One more message off the front of a stream.
use Rattle.std.proofs.Common.{◌≡◌, ℕ, ◌-◌, ◌<◌, List, [], ◌∷◌, ◌++◌, length, drop, refl, ap, ◌∙◌, sym, subst, arith, append_assoc, append-nil, length-append, inl, inr}
use Rattle.stow_model.specs.Message.{Message}
use Rattle.stow_model.specs.Wire.{Spells, Splits, HasNoMessage}
use Rattle.stow_model.proofs.Spelling.{array_sign}

-- a spelling has some bytes
pub spelled_some : (m : Message) (spelling : List ℕ) → Spells m spelling → 0 < length spelling
unfolding Spells
spelled_some m spelling s = elim s [
  | inl array ↦ (let (after, e) = array_sign m spelling array in let n : length spelling ≡ length (42 ∷ after) = ap length e in omega arith)
  | inr (line, h, e, is) ↦ (let n : length spelling ≡ length (line ++ 10 ∷ []) = ap length e in omega (arith, length-append line (10 ∷ [])))
]

-- what splits the bytes that are left splits all of them, behind the messages before
pub IsSplitTo : List ℕ → List Message → List ℕ → Type 0
IsSplitTo bytes messages left = (later : List Message) (rest : List ℕ) → Splits left later rest → Splits bytes (messages ++ later) rest

pub none_split : (bytes : List ℕ) → IsSplitTo bytes [] bytes
unfolding IsSplitTo
none_split bytes later rest s = s

pub one_more_split : (bytes left after spelling : List ℕ) (messages : List Message) (m : Message) → Spells m spelling → left ≡ spelling ++ after → IsSplitTo bytes messages left → IsSplitTo bytes (messages ++ m ∷ []) after
unfolding IsSplitTo
one_more_split bytes left after spelling messages m s e h later rest split =
    subst (λ ms. Splits bytes ms rest) (sym (append_assoc messages (m ∷ []) later)) (h (m ∷ later) rest (spelling, after, s, e, split))

pub split_whole : (bytes left : List ℕ) (messages : List Message) → IsSplitTo bytes messages left → HasNoMessage left → Splits bytes messages left
unfolding IsSplitTo
split_whole bytes left messages h none = subst (λ ms. Splits bytes ms left) (append-nil messages) (h [] left (refl, none))

-- what is left is what the bytes before it leave
pub left_of : (bytes front left : List ℕ) → bytes ≡ front ++ left → drop (length bytes - length left) bytes ≡ left
left_of bytes front left e =
    let used : length (front ++ left) - length left ≡ length front = omega (arith, length-append front left) in
    ap (λ b. drop (length b - length left) b) e ∙ ap (λ n. drop n (front ++ left)) used ∙ drop_front front left
  where
    drop_front : (front left : List ℕ) → drop (length front) (front ++ left) ≡ left
    drop_front [] left = refl
    drop_front (b ∷ front) left = drop_front front left
