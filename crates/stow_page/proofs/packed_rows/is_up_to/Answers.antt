use Rattle.std.proofs.Common.{sym, ◌∙◌, ap}
use Rattle.std.proofs.lemmas.Map.Text.{is_eq-slice_cmp}
use Rattle.std.specs.Ordering.{is_eq}
use Rattle.std.specs.Prelude.{nat_le, ◌&&◌}
use Rattle.stow_page.proofs.packed_rows.is_up_to.Goals as goal

pub returns-then-is_eq : goal.returns-then-is_eq
returns-then-is_eq c =
    let same = sym (is_eq-slice_cmp c.args.key.bytes.now c.args.version.key.bytes.now) ∙ ap is_eq (sym c.compare.ensures) ∙ sym c.is_eq.ensures in
    sym (ap (λ b. b && nat_le c.args.version.number c.args.number) (same ∙ c.if-is_eq.true))

pub returns-else-is_eq : goal.returns-else-is_eq
returns-else-is_eq c =
    let same = sym (is_eq-slice_cmp c.args.key.bytes.now c.args.version.key.bytes.now) ∙ ap is_eq (sym c.compare.ensures) ∙ sym c.is_eq.ensures in
    c.if-is_eq.false ∙ sym (ap (λ b. b && nat_le c.args.version.number c.args.number) (same ∙ c.if-is_eq.false))
