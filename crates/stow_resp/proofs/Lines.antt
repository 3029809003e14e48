-- The first line of a request.
use Rattle.std.proofs.Common.{◌≡◌, ◌≢◌, ℕ, zero, suc, ◌+◌, ◌<◌, List, [], ◌∷◌, ◌++◌, length, take, drop, get_or, refl, ap, ◌∙◌, sym, subst, arith}
use Rattle.std.proofs.lemmas.List.{take_all, take-append-drop}
use Rattle.stow_model.specs.Wire.{array_line, null_line, IsBegun, IsFaulty}
use Rattle.stow_model.specs.declared.stream_fault.StreamFault.TheVariants.{InvalidArrayLength}
use Rattle.stow_model.specs.Parts.{ends}
use Rattle.stow_model.proofs.Numbers.{cut_at}
use Rattle.stow_model.proofs.Messages.{null_begun, null_faulty}

-- the null line after its first two bytes
abbrev pub digits : List ℕ
digits = 49 ∷ 13 ∷ 10 ∷ []

front_begun : (k : ℕ) → k < 3 → IsBegun (42 ∷ 45 ∷ take k digits)
front_begun zero lt = null_begun (42 ∷ 45 ∷ []) (13 ∷ 10 ∷ []) 49 refl
front_begun (suc zero) lt = null_begun (42 ∷ 45 ∷ 49 ∷ []) (10 ∷ []) 13 refl
front_begun (suc (suc zero)) lt = null_begun (42 ∷ 45 ∷ 49 ∷ 13 ∷ []) [] 10 refl
front_begun (suc (suc (suc k))) lt = absurd (omega arith)

front_faulty : (k byte : ℕ) (more : List ℕ) → k < 3 → byte ≢ get_or digits k 0 → IsFaulty (42 ∷ 45 ∷ (take k digits ++ byte ∷ more)) InvalidArrayLength
front_faulty zero byte more lt differ = null_faulty [] (13 ∷ 10 ∷ []) more 49 byte refl tt differ
front_faulty (suc zero) byte more lt differ = null_faulty (49 ∷ []) (10 ∷ []) more 13 byte refl ((λ bad. omega arith), tt) differ
front_faulty (suc (suc zero)) byte more lt differ = null_faulty (49 ∷ 13 ∷ []) [] more 10 byte refl ((λ bad. omega arith), ((λ bad. omega arith), tt)) differ
front_faulty (suc (suc (suc k))) byte more lt differ = absurd (omega arith)

pub null_more : (k : ℕ) (after : List ℕ) → k < 3 → k ≡ length after → take k after ≡ take k digits → IsBegun (42 ∷ 45 ∷ after)
null_more k after lt all same = subst (λ t. IsBegun (42 ∷ 45 ∷ t)) (sym same ∙ take_all k after (omega arith)) (front_begun k lt)

pub null_stuck : (k : ℕ) (after : List ℕ) → k < 3 → k < length after → take k after ≡ take k digits → get_or after k 0 ≢ get_or digits k 0 → IsFaulty (42 ∷ 45 ∷ after) InvalidArrayLength
null_stuck k after lt enough same differ =
    subst (λ t. IsFaulty (42 ∷ 45 ∷ t) InvalidArrayLength) (ap (λ t. t ++ get_or after k 0 ∷ drop (k + 1) after) (sym same) ∙ cut_at after k enough)
    (front_faulty k (get_or after k 0) (drop (k + 1) after) lt differ)

pub null_rest : (after : List ℕ) → take 3 after ≡ digits → 42 ∷ 45 ∷ after ≡ null_line ++ drop 3 after
null_rest after same = ap (λ t. 42 ∷ 45 ∷ t) (sym (take-append-drop 3 after) ∙ ap (λ t. t ++ drop 3 after) same)

-- an array's line
pub array_at : (bytes after rest : List ℕ) (sign count : ℕ) → bytes ≡ sign ∷ after → sign ≡ 42 → after ≡ ends count ++ rest → bytes ≡ array_line count ++ rest
array_at bytes after rest sign count at star line = at ∙ (λ i. star i ∷ line i)
