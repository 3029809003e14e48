use Rattle.std.proofs.Common.{◌++◌, ap, ◌∙◌}
use Rattle.std.specs.Prelude.{take}
use Rattle.stow_resp.proofs.Elements.{filled}
use Rattle.stow_resp.proofs.progress.Progress.fill.Goals as goal

pub returns-clause-filled : goal.returns-clause-filled
returns-clause-filled g c =
    let p = c.find_spans.new.self in
    let bytes = c.args.bytes.now in
    filled p bytes c.extend_from_slice.new.self.items c.find_spans.ensures.progress c.in_ok-find_spans.ensures.all
    (c.in_ok-extend_from_slice.ensures.items ∙ ap (λ b. b ++ take p.scanned bytes) c.clear.ensures.items)
