use Rattle.std.proofs.lemmas.Grind.{common_steps}
use Rattle.std.proofs.Common.{ap, sym, ◌∙◌, ◌≡◌, ◌<◌, map, ◌++◌, ◌∷◌, [], length, subst, arith, ◌+◌}
use Rattle.stow_login.specs.TenantFile.{is_used}
use Rattle.std.proofs.lemmas.List.{map-append}
use Rattle.std.proofs.lemmas.Bool.{cond-true}
use Rattle.stow_login.specs.Entries.{entry_of}
use Rattle.stow_login.proofs.Named.{named_more}
use Rattle.stow_login.proofs.tenants.Tenants.add.Goals as goal

pub invariant_of-self-2 : goal.invariant_of-self-2
invariant_of-self-2 g c =
    let pushed : c.push.new.self.items ≡ c.self.inside.tenants.items ++ c.args.tenant ∷ [] =
    c.push.ensures.items ∙ cond-true _ _ _ (c.push.ensures.succeeds (omega (arith, c.in_ok-reserve.ensures.ok))) ∙ ap (λ ts. ts ++ c.args.tenant ∷ []) c.in_ok-reserve.ensures.items in
    let more : map entry_of c.push.new.self.items ≡ map entry_of c.self.inside.tenants.items ++ entry_of c.args.tenant ∷ [] =
    ap (map entry_of) pushed ∙ map-append entry_of c.self.inside.tenants.items (c.args.tenant ∷ []) in
    named_more (map entry_of c.self.inside.tenants.items) (map entry_of c.push.new.self.items) (entry_of c.args.tenant) c.self.inside.names c.add.new.self _ _
    c.self.invariant more (subst (λ es. length es < 65535) (sym c.self.view_is) c.requires.few)
    (ap (λ es. is_used es c.args.tenant.name) c.self.view_is ∙ c.requires.unused)
    (ap (λ n. n + 1) (c.count-index.ensures.all ∙ ap length (sym c.self.view_is))) c.as_slice.ensures c.in_ok-add.ensures.ok

pub returns : goal.returns
returns g c = grind (arith, common_steps)
