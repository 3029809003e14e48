use Rattle.std.proofs.Common.{Some, cond, ◌∙◌}
use Rattle.std.specs.Str.{bytes_eq}
use Rattle.stow_login.specs.Names.{index_in}
use Rattle.stow_login.proofs.Named.{name_updated}
use Rattle.stow_login.proofs.names.Names.add.Goals as goal

pub returns-clause-ok : goal.returns-clause-ok
returns-clause-ok g c =
    λ q. name_updated c.in_ok-from_slice.field-0.items c.self.inside.map c.insert.new.self (Some c.args.index) c.in_ok-insert.ensures.updates q
    ∙ (λ i. cond (bytes_eq (c.in_ok-from_slice.ensures.items i) q) (Some c.args.index) (index_in (c.self.view_is i) q))
