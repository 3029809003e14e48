use Rattle.std.proofs.Common.{◌≡◌, ap, ◌∙◌, arith}
use Rattle.stow_page.specs.Format.{format_of}
use Rattle.stow_page.specs.Rows.{wider}
use Rattle.stow_page.proofs.Pushed.{length-packed_in}
use Rattle.stow_page.proofs.Sizes.{length-both}
use Rattle.stow_page.proofs.packed_rows.PackedRows.page_len_with.Goals as goal

pub overflow_sub-result : goal.overflow_sub-result
overflow_sub-result g c =
    let header = length-packed_in c.wider-format.result c.args.self.now in
    let len = c.len_in.ensures.len in
    omega arith

pub returns : goal.returns
returns g c =
    let own : c.wider-format.result ≡ wider (format_of c.args.self.now) (format_of c.args.upper.now) =
    c.wider-format.ensures ∙ (λ i. wider ((c.self.invariant.block.is_format ∙ ap format_of c.self.view_is) i) ((c.upper.invariant.block.is_format ∙ ap format_of c.upper.view_is) i)) in
    let both = length-both c.wider-format.result c.args.self.now c.args.upper.now own in
    let lower = c.len_in.ensures.len in
    let upper = c.len_in-2.ensures.len in
    omega arith
