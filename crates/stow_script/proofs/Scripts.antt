-- A script's lines, one after another.
use Rattle.std.proofs.Common.{◌≡◌, ◌≢◌, ◌==◌, false, ℕ, ◌+◌, ◌≤◌, List, [], ◌∷◌, ◌++◌, length, map, Option, Some, None, Ok, refl, ap, ◌∙◌, sym, subst, arith, inl, inr, append-nil, append_assoc, length-append}
use Rattle.std.specs.Borrow.{Bor}
use Rattle.std.specs.List.{All}
use borrow.Author.Tests.{ne_eqb}
use Rattle.std.proofs.lemmas.List.{length_push, map-append}
use Rattle.std.proofs.lemmas.List.Elements.{All-weaker}
use Rattle.std.proofs.lemmas.List.Splits.{slice_split_none, slice_split_at}
use Rattle.stow_commands.specs.StowModel.Login.{Entry}
use Rattle.stow_script.specs.declared.script_line.ScriptLine as script_line
use Rattle.stow_script.specs.declared.text.TextFault.{TextFault}
use Rattle.stow_script.specs.declared.text.TextFault.TheVariants.{Malformed}
use Rattle.stow_script.specs.Script.{AskFor, AsksFor, IsBad, IsFirstBad, IsSkipped, Line, line_of, lines_of}
use Rattle.stow_script.specs.Read.{IsCut, IsFault, IsLineRead}

-- ---- one line more

pub ask_skip : (entries : List Entry) (lines : List (List ℕ)) (asked : List Line) (line : List ℕ) → AskFor entries lines asked → IsSkipped line → AskFor entries (lines ++ line ∷ []) asked
ask_skip entries [] asked line none skipped = inl (skipped, none)
ask_skip entries (first ∷ lines) asked line (inl h) skipped = inl (h.0, ask_skip entries lines asked line h.1 skipped)
ask_skip entries (first ∷ lines) asked line (inr h) skipped = inr (h.0, h.1, h.2, h.3, ask_skip entries lines h.1 line h.4 skipped)

pub ask_line : (entries : List Entry) (lines : List (List ℕ)) (asked : List Line) (line : List ℕ) (l : Line) → AskFor entries lines asked → AsksFor entries line l → AskFor entries (lines ++ line ∷ []) (asked ++ l ∷ [])
ask_line entries [] asked line l none asks = inr (l, [], ap (λ es. es ++ l ∷ []) none, asks, refl)
ask_line entries (first ∷ lines) asked line l (inl h) asks = inl (h.0, ask_line entries lines asked line l h.1 asks)
ask_line entries (first ∷ lines) asked line l (inr h) asks = inr (h.0, h.1 ++ l ∷ [], ap (λ es. es ++ l ∷ []) h.2, h.3, ask_line entries lines h.1 line l h.4 asks)

others : (line : List ℕ) → All (λ b. b ≢ 10) line → All (λ b. (b == 10) ≡ false) line
others line plain = All-weaker (λ b. b ≢ 10) (λ b. (b == 10) ≡ false) (λ b other. ne_eqb b 10 other) line plain

-- ---- the lines so far

-- the lines of what is left, if something is
abbrev pub lines_left : Option (Bor (List ℕ)) → List (List ℕ)
lines_left None = []
lines_left (Some rest) = lines_of rest.now

-- how many more there can be
abbrev pub room_of : Option (Bor (List ℕ)) → ℕ
room_of None = 0
room_of (Some rest) = length rest.now + 1

-- so many lines were read, which asked for this
pub record IsSoFar (entries : List Entry) (text : List ℕ) (left : Option (Bor (List ℕ))) (number : ℕ) (all : List Line) : Type 0 where
  pub front : List (List ℕ)
  pub split : lines_of text ≡ front ++ lines_left left
  pub counted : number ≡ length front
  pub asked : AskFor entries front all
  pub room : number + room_of left ≤ length text + 1

-- the first line of what is left
lines_cut : (rest line : List ℕ) (after : Option (Bor (List ℕ))) → IsCut 10 rest line after → lines_of rest ≡ line ∷ lines_left after
lines_cut rest line None cut = ap lines_of cut.0 ∙ slice_split_none (λ b. b == 10) line (others line cut.1)
lines_cut rest line (Some more) cut = ap lines_of cut.0 ∙ slice_split_at (λ b. b == 10) line 10 more.now (others line cut.1) refl

room_cut : (rest line : List ℕ) (after : Option (Bor (List ℕ))) → IsCut 10 rest line after → room_of after ≤ length rest
room_cut rest line None cut = omega arith
room_cut rest line (Some more) cut = let all = ap length cut.0 in let parts = length-append line (10 ∷ more.now) in omega arith

split_more : (text line : List ℕ) (front : List (List ℕ)) (rest : Bor (List ℕ)) (after : Option (Bor (List ℕ))) → lines_of text ≡ front ++ lines_of rest.now → IsCut 10 rest.now line after → lines_of text ≡ (front ++ line ∷ []) ++ lines_left after
split_more text line front rest after split cut = split ∙ ap (λ ls. front ++ ls) (lines_cut rest.now line after cut) ∙ sym (append_assoc front (line ∷ []) (lines_left after))

pub so_far_skip : (entries : List Entry) (text line : List ℕ) (rest : Bor (List ℕ)) (after : Option (Bor (List ℕ))) (number : ℕ) (asked : List Line) → IsSoFar entries text (Some rest) number asked → IsCut 10 rest.now line after → IsSkipped line → IsSoFar entries text after (number + 1) asked
so_far_skip entries text line rest after number asked so_far cut skipped =
    let fewer = room_cut rest.now line after cut in
    let n = length_push so_far.front line in
    let counted = so_far.counted in
    let room = so_far.room in
    record {
      front = so_far.front ++ line ∷ [];
      split = split_more text line so_far.front rest after so_far.split cut;
      counted = omega arith;
      asked = ask_skip entries so_far.front asked line so_far.asked skipped;
      room = omega arith;
    }

pub so_far_line : (entries : List Entry) (text line : List ℕ) (rest : Bor (List ℕ)) (after : Option (Bor (List ℕ))) (number : ℕ) (asked : List Line) (l : Line) → IsSoFar entries text (Some rest) number asked → IsCut 10 rest.now line after → AsksFor entries line l → IsSoFar entries text after (number + 1) (asked ++ l ∷ [])
so_far_line entries text line rest after number asked l so_far cut asks =
    let fewer = room_cut rest.now line after cut in
    let n = length_push so_far.front line in
    let counted = so_far.counted in
    let room = so_far.room in
    record {
      front = so_far.front ++ line ∷ [];
      split = split_more text line so_far.front rest after so_far.split cut;
      counted = omega arith;
      asked = ask_line entries so_far.front asked line l so_far.asked asks;
      room = omega arith;
    }

pub so_far_bad : (entries : List Entry) (text line : List ℕ) (rest : Bor (List ℕ)) (after : Option (Bor (List ℕ))) (number : ℕ) (asked : List Line) → IsSoFar entries text (Some rest) number asked → IsCut 10 rest.now line after → IsBad entries line → IsFirstBad entries (lines_of text) (number + 1)
so_far_bad entries text line rest after number asked so_far cut bad = record {
  front = so_far.front;
  line = line;
  back = lines_left after;
  at = so_far.split ∙ ap (λ ls. so_far.front ++ ls) (lines_cut rest.now line after cut);
  number_is = (let counted = so_far.counted in omega arith);
  bad = bad;
  asked = asked;
  good = so_far.asked;
}

pub so_far_all : (entries : List Entry) (text : List ℕ) (number : ℕ) (asked : List Line) → IsSoFar entries text None number asked → AskFor entries (lines_of text) asked
so_far_all entries text number asked so_far = subst (λ ls. AskFor entries ls asked) (sym (so_far.split ∙ append-nil so_far.front)) so_far.asked

pub map_push : {A B : Type 0} (f : A → B) (xs : List A) (x : A) → map f (xs ++ x ∷ []) ≡ map f xs ++ f x ∷ []
map_push f xs x = map-append f xs (x ∷ [])

-- ---- what a line was read as

pub read_some : {A : Type 0} (entries : List Entry) (line : List ℕ) (o : Option (script_line.ScriptLine A)) (e : script_line.ScriptLine A) → o ≡ Some e → IsLineRead entries line (Ok o) → AsksFor entries line (line_of e)
read_some entries line o e is h = rw is at h

pub read_none : {A : Type 0} (entries : List Entry) (line : List ℕ) (o : Option (script_line.ScriptLine A)) → o ≡ None → IsLineRead entries line (Ok o) → IsSkipped line
read_none entries line o is h = rw is at h

pub read_bad : (entries : List Entry) (line : List ℕ) (at : Bor (List ℕ)) (fault : TextFault) → fault ≡ Malformed at → IsFault (IsBad entries line) fault → IsBad entries line
read_bad entries line at fault is h = rw is at h
