use Rattle.std.proofs.Common.{List, ℕ, ◌<◌, length, ap, subst, arith}
use Rattle.std.proofs.lemmas.List.{get_or_read}
use Rattle.std.specs.Prelude.{slice_set}
use Rattle.std.specs.Int.Bits.{bit_or}
use Rattle.stow_filter.specs.Filter.{KeepsMarks}
use Rattle.stow_filter.proofs.Marked.{marks_stay}
use Rattle.stow_filter.proofs.filter.Filter.mark.Goals as goal

pub returns-clause-stay : goal.returns-clause-stay
returns-clause-stay g c = let words = c.self.inside.words in let i = c.place-place.result in let was = c.index_mut.result.now in let more = c.marks_of.result in
    let within : i < length words.items = omega (arith, c.place-place.ensures.within, c.len.ensures, words.ok.0) in
    subst (λ (l : List ℕ). KeepsMarks l (slice_set words.items i (bit_or was more))) c.self.view_is
    (marks_stay words.items i (bit_or was more) more within (ap (λ w. bit_or w more) (get_or_read words.items i was within c.index_mut.ensures.value 0)) (slice_set words.items i (bit_or was more)) (λ _. slice_set words.items i (bit_or was more)))
