use Rattle.std.proofs.Common.{ap, sym, ◌∙◌}
use Rattle.std.specs.FinMap as map
use Rattle.stow_plain.specs.Contents.{Contents}
use Rattle.stow_plain.proofs.Copies.{len_of}
use Rattle.stow_plain.proofs.plain_contents.PlainContents.live.Goals as goal

pub returns-clause-len : goal.returns-clause-len
returns-clause-len g c = c.len.ensures ∙ c.self.inside.copies.ok.0 ∙ sym (len_of c.self.inside.copies.items c.self.invariant.ids_rise) ∙ ap (λ (v : Contents). map.len v.snapshots) c.self.view_is
