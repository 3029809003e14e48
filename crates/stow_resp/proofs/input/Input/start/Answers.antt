use Rattle.std.proofs.Common.{◌-◌, length, sym, ap, ◌∙◌, subst}
use Rattle.stow_resp.specs.Scans.{IsProgress}
use Rattle.stow_resp.proofs.Elements.{started}
use Rattle.stow_resp.proofs.input.Input.start.Goals as goal

pub go_on-requires : goal.go_on-requires
go_on-requires g c =
    let old = c.args.self.now in
    let rest = c.in-Array.rest.now in
    let at = sym (c.as_slice.ensures ∙ c.self.view_is) ∙ c.in-Array.ensures.2 in
    let line = ap (λ n. n - length rest) (c.len.ensures.value ∙ ap length c.self.view_is) in
    subst (IsProgress c.new-progress.result) (sym c.self.view_is)
    (started c.new-progress.result old rest c.in-Array.count (c.len.result - length rest) c.new-progress.ensures c.in-Array.ensures.0 c.in-Array.ensures.1 line at)
