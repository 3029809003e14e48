use Rattle.std.proofs.Common.{◌+◌, length, drop, get_or, subst}
use Rattle.stow_page.specs.Format.{format_of}
use Rattle.stow_merge.specs.Cuts.{ArePages}
use Rattle.stow_merge.proofs.PartLemmas.{first_within}
use Rattle.stow_merge.proofs.WritingLemmas.{drop_first}
use Rattle.stow_merge.proofs.parts.parts.Goals as goal

pub part-requires-clause-within : goal.part-requires-clause-within
part-requires-clause-within g c =
    let ends = c.args.ends.now in
    let sizes = c.args.sizes.now in
    first_within (format_of c.args.block.now) c.args.block.now sizes c.args.room c.loop-i.from (get_or ends c.loop-i.i 0) (drop (c.loop-i.i + 1) ends) c.requires.sizes
    (subst (λ es. ArePages sizes c.args.room c.loop-i.from es (length sizes)) (drop_first ends c.loop-i.i 0 c.loop-i-test.true) c.loop-i.invariant.ends)
