use Rattle.std.proofs.Common.{refl, sym, ◌∙◌, ap, arith}
use Rattle.std.specs.Ordering.{is_lt}
use Rattle.stow_page.proofs.Looked.{lt_is, rise_behind_none, rise_behind, rise_behind_last}
use Rattle.stow_page.proofs.packed_rows.PackedRows.is_below.Goals as goal

pub returns-then-len-eq0 : goal.returns-then-len-eq0
returns-then-len-eq0 g c = (λ t. rise_behind_none _ _ (sym c.len-len.ensures.len ∙ c.if-len-eq0.true), λ r. refl)

pub returns : goal.returns
returns g c = (
  λ t. rise_behind _ _ _ _ c.get-last.ensures.rise (let len = c.len-len.ensures.len in let some = c.if-len-eq0.false in omega arith) c.get-last.ensures.version (lt_is _ (sym c.stands_above.ensures ∙ t)),
  λ r. c.stands_above.ensures ∙ ap is_lt (rise_behind_last _ _ _ _ c.get-last.ensures.version r),
)
