use Rattle.std.proofs.Common.{◌∙◌, ap, length}
use Rattle.stow_page.specs.Format.{entry, format_of}
use Rattle.stow_page.specs.StowTreeModel.Version.{version_of}
use Rattle.stow_merge.proofs.PartLemmas.{sizes_more}
use Rattle.stow_merge.proofs.parts.entry_sizes.Goals as goal

pub loop-i-preserved : goal.loop-i-preserved
loop-i-preserved g c =
    sizes_more (format_of c.args.block.now) c.args.block.now c.loop-i.sizes.items c.push.new.self.items c.loop-i.i (version_of c.get.result) c.entry_size.result c.get.ensures.version
    (c.entry_size.ensures.size ∙ ap (λ f. length (entry f (version_of c.get.result))) c.format-format.ensures) c.entry_size.ensures.few c.in_ok-push.ensures.items c.loop-i.invariant
