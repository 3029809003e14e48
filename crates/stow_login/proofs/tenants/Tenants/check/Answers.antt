use Rattle.std.proofs.lemmas.Grind.{common_steps}
use Rattle.std.proofs.Common.{None, Some, sym, ◌∙◌, arith}
use Rattle.std.proofs.lemmas.Bool.{cond-true, cond-false}
use Rattle.stow_model.specs.Login.{login}
use Rattle.stow_login.specs.Entries.{entry_of, is_own, index_named}
use Rattle.stow_login.proofs.Listed.{login_nobody, login_of}
use Rattle.stow_login.proofs.tenants.Tenants.check.Goals as goal

pub returns-in_err-index-clause-login : goal.returns-in_err-index-clause-login
unfolding login index_named
returns-in_err-index-clause-login g c = c.from_residual.ensures ∙ sym (login_nobody c.args.self.now 1 c.args.name.now c.args.password.now (sym c.in_err-index.ensures.named))

pub returns-then-is_password-clause-login : goal.returns-then-is_password-clause-login
unfolding login index_named
returns-then-is_password-clause-login g c =
    let tenant = c.index.result.now in
    let index = c.in_ok-index.index in
    sym (login_of c.self.inside.tenants.items c.args.self.now index tenant c.args.name.now c.args.password.now c.self.view_is c.in_ok-index.ensures.tenant.0 c.in_ok-index.ensures.tenant.1 c.in_ok-index.ensures.named c.index.ensures
    ∙ cond-true (is_own (entry_of tenant) c.args.password.now) (Some index) None (sym c.is_password.ensures ∙ c.if-is_password.true))

pub returns-else-is_password-clause-login : goal.returns-else-is_password-clause-login
unfolding login index_named
returns-else-is_password-clause-login g c =
    let tenant = c.index.result.now in
    let index = c.in_ok-index.index in
    sym (login_of c.self.inside.tenants.items c.args.self.now index tenant c.args.name.now c.args.password.now c.self.view_is c.in_ok-index.ensures.tenant.0 c.in_ok-index.ensures.tenant.1 c.in_ok-index.ensures.named c.index.ensures
    ∙ cond-false (is_own (entry_of tenant) c.args.password.now) (Some index) None (sym c.is_password.ensures ∙ c.if-is_password.false))

pub index-requires : goal.index-requires
index-requires g c = grind (arith, common_steps)
