use Rattle.std.proofs.Common.{sym, ◌∙◌}
use Rattle.stow_commands.proofs.Named.{kind_auth, kind_quit, kind_other}
use Rattle.stow_commands.proofs.kind.kind_of.Goals as goal

pub returns-then-is_named : goal.returns-then-is_named
returns-then-is_named c =
    c.login_kind.ensures ∙ sym (kind_auth _ _ c.in-Some.name.now c.in-Some.ensures (sym c.is_named.ensures ∙ c.if-is_named.true))

pub returns-then-is_named-2 : goal.returns-then-is_named-2
returns-then-is_named-2 c =
    c.quit_kind.ensures
    ∙ sym (kind_quit _ _ c.in-Some.name.now c.in-Some.ensures (sym c.is_named.ensures ∙ c.if-is_named.false) (sym c.is_named-else-is_named.ensures ∙ c.if-is_named-2.true))

pub returns-else-is_named-2 : goal.returns-else-is_named-2
returns-else-is_named-2 c =
    sym (kind_other _ _ c.in-Some.name.now c.in-Some.ensures (sym c.is_named.ensures ∙ c.if-is_named.false) (sym c.is_named-else-is_named.ensures ∙ c.if-is_named-2.false))
