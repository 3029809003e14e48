use Rattle.std.proofs.Common.{ap, ◌∙◌}
use Rattle.std.specs.List.{each_same}
use Rattle.std.specs.FinMap as map
use Rattle.stow_plain.proofs.Mapped.{entries-clone}
use Rattle.stow_plain.proofs.plain_rows.PlainRowsClone.clone.Goals as goal

pub returns : goal.returns
returns g c = record { cases = ap map.from_entries (entries-clone (λ k. k.items) _ (λ a b same. each_same a.items b.items same.0) c.self.inside.rows.entries c.in_ok-clone.field-0.entries c.in_ok-clone.ensures.cases) ∙ c.self.view_is }
