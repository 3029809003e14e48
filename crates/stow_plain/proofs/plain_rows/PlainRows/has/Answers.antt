use Rattle.std.proofs.Common.{ap, sym, ◌∙◌, Some, None, ◌≡◌, eqb, true, false}
use Rattle.std.specs.Prelude.{◌&&◌}
use Rattle.std.specs.Str.{bytes_eq}
use Rattle.std.proofs.lemmas.Bool.{eq-eqb, ne_eqb}
use Rattle.stow_plain.specs.PlainMap.{version_of}
use Rattle.stow_plain.proofs.Mapped.{version-rows}
use Rattle.stow_plain.proofs.Charged.{has_none, has_some}
use Rattle.stow_plain.proofs.plain_rows.PlainRows.has.Goals as goal

pub returns-in-None : goal.returns-in-None
returns-in-None g c = has_none c.args.self.now c.args.key.now (version_of c.args.version.now) (version-rows (λ k. k.items) c.args.key.now c.self.inside.rows.entries c.args.self.now None c.self.view_is c.in-None.ensures.value)

pub returns-then-version-own : goal.returns-then-version-own
returns-then-version-own g c =
    let found = version-rows (λ k. k.items) c.args.key.now c.self.inside.rows.entries c.args.self.now (Some c.in-Some.own.now) c.self.view_is c.in-Some.ensures.value in
    let is : eqb c.args.version.now.number c.in-Some.own.now.number ≡ true = eq-eqb c.args.version.now.number c.in-Some.own.now.number c.if-version-own.true in
    ap (λ b. b && c.eq.result) (sym is)
    ∙ has_some c.args.self.now c.args.key.now (version_of c.args.version.now) (version_of c.in-Some.own.now) c.eq.result found (c.eq.ensures ∙ (λ i. bytes_eq (c.as_slice.ensures i) (c.as_slice-then-version-own.ensures i)))

pub returns-else-version-own : goal.returns-else-version-own
returns-else-version-own g c =
    let found = version-rows (λ k. k.items) c.args.key.now c.self.inside.rows.entries c.args.self.now (Some c.in-Some.own.now) c.self.view_is c.in-Some.ensures.value in
    let same = bytes_eq c.args.version.now.value c.in-Some.own.now.value in
    let is : eqb c.args.version.now.number c.in-Some.own.now.number ≡ false = ne_eqb c.args.version.now.number c.in-Some.own.now.number c.if-version-own.false in
    is ∙ ap (λ b. b && same) (sym is)
    ∙ has_some c.args.self.now c.args.key.now (version_of c.args.version.now) (version_of c.in-Some.own.now) same found (λ i. same)
