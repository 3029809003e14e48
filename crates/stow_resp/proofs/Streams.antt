-- The messages of a stream don't depend on its pieces.
use Rattle.std.proofs.Common.{◌≡◌, ℕ, List, [], ◌∷◌, ◌++◌, length, reverse, refl, ap, ◌∙◌, sym, subst, arith, append_assoc, append-nil, length-append, inl, inr}
use Rattle.std.proofs.lemmas.List.{reverse-append, reverse-reverse}
use Rattle.stow_model.specs.Message.{Message}
use Rattle.stow_model.specs.Wire.{SpellsAll, Splits, HasNoMessage, IsBegun}
use Rattle.stow_model.proofs.Spelling.{spelled_once, splits_once_lem}
use Rattle.stow_resp.specs.Actions.{Action, Fed, Given, ActionsLeadTo, fed, given, IsAtRest, CutsDoNotMatter}

-- what begins a spelling has none at its front
begun_has_none : (bytes : List ℕ) → IsBegun bytes → HasNoMessage bytes
begun_has_none bytes (whole, next, tail, s) m spelling more s' e =
    let both : spelling ++ (more ++ next ∷ tail) ≡ (bytes ++ next ∷ tail) ++ [] = sym (append_assoc spelling more (next ∷ tail)) ∙ ap (λ t. t ++ next ∷ tail) (sym e) ∙ sym (append-nil (bytes ++ next ∷ tail)) in
    let none : length (more ++ next ∷ tail) ≡ 0 = ap length (spelled_once m whole spelling (bytes ++ next ∷ tail) (more ++ next ∷ tail) [] s' s both).1 in
    omega (arith, length-append more (next ∷ tail))

has_none : (unread : List ℕ) → IsAtRest unread → HasNoMessage unread
has_none unread rest = elim rest [ inl begun ↦ begun_has_none unread begun | inr faulty ↦ faulty.1.none ]

-- what was fed is what was given, and then what is unread
record Fits (actions : List Action) (unread : List ℕ) : Type 0 where
  front : List ℕ
  spelled : SpellsAll (given actions) front
  whole : fed actions ≡ front ++ unread

fits : (actions : List Action) (unread : List ℕ) → ActionsLeadTo actions unread → Fits actions unread
fits [] unread none = record { front = []; spelled = refl; whole = sym none }
fits (Fed piece ∷ earlier) unread (before, leads, e) =
    let f = fits earlier before leads in
    record {
      front = f.front;
      spelled = f.spelled;
      whole = ap (λ t. t ++ piece) f.whole ∙ append_assoc f.front before piece ∙ ap (λ t. f.front ++ t) (sym e);
    }
fits (Given m ∷ earlier) unread (before, leads, (spelling, s, e)) =
    let f = fits earlier before leads in
    record {
      front = f.front ++ spelling;
      spelled = (f.front, spelling, f.spelled, s, refl);
      whole = f.whole ∙ ap (λ t. f.front ++ t) e ∙ sym (append_assoc f.front spelling unread);
    }

-- messages in front of a split
split_after : (taken later : List Message) (front bytes rest : List ℕ) → SpellsAll taken front → Splits bytes later rest → Splits (front ++ bytes) (reverse taken ++ later) rest
split_after [] later front bytes rest none split = subst (λ t. Splits (t ++ bytes) later rest) (sym none) split
split_after (m ∷ taken) later front bytes rest (before, last, s, spelled, e) split =
    let whole : front ++ bytes ≡ before ++ (last ++ bytes) = ap (λ t. t ++ bytes) e ∙ append_assoc before last bytes in
    let messages : reverse (m ∷ taken) ++ later ≡ reverse taken ++ (m ∷ later) = ap (λ t. t ++ later) (reverse-append (m ∷ []) taken) ∙ append_assoc (reverse taken) (m ∷ []) later in
    subst (λ t. Splits t (reverse (m ∷ taken) ++ later) rest) (sym whole)
    (subst (λ ms. Splits (before ++ (last ++ bytes)) ms rest) (sym messages)
    (split_after taken (m ∷ later) before (last ++ bytes) rest s (last, bytes, spelled, refl, split)))

split : (actions : List Action) (unread : List ℕ) → ActionsLeadTo actions unread → IsAtRest unread → Splits (fed actions) (reverse (given actions)) unread
split actions unread leads rest =
    let f = fits actions unread leads in
    subst (λ t. Splits t (reverse (given actions)) unread) (sym f.whole)
    (subst (λ ms. Splits (f.front ++ unread) ms unread) (append-nil (reverse (given actions)))
    (split_after (given actions) [] f.front unread unread f.spelled (refl, has_none unread rest)))

pub cuts_do_not_matter_lem : CutsDoNotMatter
cuts_do_not_matter_lem a b unread unread' leads leads' same rest rest' =
    let parts = splits_once_lem (fed b) (reverse (given a)) (reverse (given b)) unread unread' (subst (λ t. Splits t (reverse (given a)) unread) same (split a unread leads rest)) (split b unread' leads' rest') in
    (sym (reverse-reverse (given a)) ∙ ap reverse parts.0 ∙ reverse-reverse (given b), parts.1)
