use Rattle.std.proofs.Common.{◌≡◌, ◌++◌, length, ap, sym, subst, ◌∙◌, arith}
use Rattle.std.proofs.lemmas.List.{take_all}
use Rattle.stow_filter.specs.Filter.{KeepsMarks, IsWordCount}
use Rattle.stow_filter.proofs.Marked.{twice_keeps, twice_count}
use Rattle.stow_filter.proofs.filter.Filter.double.Goals as goal

pub invariant_of-self : goal.invariant_of-self
invariant_of-self g c = let old = c.self.inside.words in let new = c.loop-i.self-inside.words in
    twice_count (length old.items) (length new.items)
    (omega (arith, c.loop-i.invariant.len, c.loop-i.auto.i-end, c.loop-i-test.false, c.len-count.ensures, ap length c.self.view_is, old.ok.0, new.ok.0)) c.self.invariant

pub returns-clause-stay : goal.returns-clause-stay
returns-clause-stay g c = let old = c.args.self.now in
    let whole : c.loop-i.self-inside.words.items ≡ old ++ old = c.loop-i.invariant.words
    ∙ ap (λ l. old ++ l) (take_all c.loop-i.i old (omega (arith, c.loop-i-test.false, c.len-count.ensures, ap length c.self.view_is, c.self.inside.words.ok.0))) in
    subst (KeepsMarks old) (sym whole) (twice_keeps old (subst (λ l. IsWordCount (length l)) c.self.view_is c.self.invariant))
