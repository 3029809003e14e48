-- The line of an inline request at the front of the unread bytes.
use Rattle.std.proofs.Common.{◌≡◌, ℕ, ◌-◌, List, [], ◌∷◌, ◌++◌, length, drop, sym, ◌∙◌, subst, append_assoc}
use Rattle.stow_model.specs.Message.{Message, Words}
use Rattle.stow_model.specs.Wire.{IsLine, text_of_line, message_of_text}
use Rattle.stow_model.specs.Parts.{AsksForWords}
use Rattle.stow_model.proofs.Inlines.{line_taken}
use Rattle.stow_resp.specs.Next.{IsTaken, HasWords}
use Rattle.stow_resp.proofs.Lists.{drop_front, length_front}

pub line_has_words : (bytes line rest : List ℕ) → IsLine line → bytes ≡ line ++ 10 ∷ rest → AsksForWords line → HasWords bytes
line_has_words bytes line rest h at (words, is) = (words, rest, line_taken bytes line rest (Words words) h at (sym is))

-- as many bytes are taken off as don't come after the line
pub line_off : (bytes held line rest new : List ℕ) (m : Message) (used : ℕ) → held ≡ bytes → IsLine line → bytes ≡ line ++ 10 ∷ rest → m ≡ message_of_text (text_of_line line) → used ≡ length held - length rest → new ≡ drop used held → IsTaken m bytes new
line_off bytes held line rest new m used same h at is n off =
    let front : held ≡ (line ++ 10 ∷ []) ++ rest = same ∙ at ∙ sym (append_assoc line (10 ∷ []) rest) in
    let left : new ≡ rest = off ∙ drop_front (line ++ 10 ∷ []) rest held used front (n ∙ length_front (line ++ 10 ∷ []) rest held front) in
    subst (IsTaken m bytes) (sym left) (line_taken bytes line rest m h at is)
