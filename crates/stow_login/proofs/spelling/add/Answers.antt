use Rattle.std.proofs.Common.{◌∙◌, ap}
use Rattle.toml.specs.View.{view, members_view}
use Rattle.stow_login.specs.NewTenants.{with_member}
use Rattle.stow_login.proofs.Spelled.{member_added}
use Rattle.stow_login.proofs.spelling.add.Goals as goal

pub returns : goal.returns
returns c =
    ap members_view c.in_ok-insert.ensures.entries ∙ member_added c.args.table.now.entries c.in_ok-key.key c.args.value
    ∙ ap (λ key. with_member key (view c.args.value) (members_view c.args.table.now.entries)) c.in_ok-key.ensures.ok
