use Rattle.std.proofs.Common.{◌∙◌, ◌++◌, ◌∷◌, [], ap, sym, subst}
use Rattle.stow_page.specs.StowTreeModel.Version.{version_of}
use Rattle.stow_merge.specs.Writing.{CanPack}
use Rattle.stow_merge.proofs.PartLemmas.{pack_more, part_more}
use Rattle.stow_merge.proofs.parts.part.Given as given
use Rattle.stow_merge.proofs.parts.part.Goals as goal
use Rattle.stow_merge.proofs.parts.part.Goals.{After-get}

-- with the next version the part can still be packed
next_fits : (g : given.Over) (c : After-get g) → CanPack (c.loop-i.part ++ version_of c.get.result ∷ [])
next_fits g c =
    subst (λ vs. CanPack (vs ++ version_of c.get.result ∷ [])) (sym c.loop-i.invariant)
    (pack_more c.args.block.now c.args.from c.loop-i.i c.args.to (version_of c.get.result) c.loop-i.auto.i c.loop-i-test.true c.get.ensures.version c.requires.pack)

pub push-requires-clause-above : goal.push-requires-clause-above
push-requires-clause-above g c = (next_fits g (goal.at.push-requires-clause-above g c).After-get).rise

pub push-requires-clause-room : goal.push-requires-clause-room
push-requires-clause-room g c = (next_fits g (goal.at.push-requires-clause-room g c).After-get).has_room

pub loop-i-preserved : goal.loop-i-preserved
loop-i-preserved g c =
    c.in_ok-push.ensures.ok
    ∙ ap (λ vs. vs ++ version_of c.get.result ∷ []) c.loop-i.invariant
    ∙ sym (part_more c.args.block.now c.args.from c.loop-i.i (version_of c.get.result) c.loop-i.auto.i c.get.ensures.version)
