use Rattle.std.proofs.lemmas.Grind.{common_steps}
use Rattle.std.proofs.Common.{◌≡◌, ◌≢◌, ◌<◌, length, map, sym, ◌∙◌, rules, arith}
use mathlib.Core.Bool.{false≢true}
use Rattle.stow_login.specs.Entries.{entry_of}
use Rattle.stow_login.proofs.Same.{take_same, differ_at, mapped_at, length_of_map}
use Rattle.stow_login.proofs.tenants.Tenants.is_same.Goals as goal

pub returns-then-not-is_same_tenant : goal.returns-then-not-is_same_tenant
returns-then-not-is_same_tenant g c =
    let xs = c.self.inside.tenants.items in
    let ys = c.other.inside.tenants.items in
    let i = c.loop-index.index in
    let x = c.index.result.now in
    let y = c.index-in-loop-index.result.now in
    let in_x : i < length xs = search rules in
    let in_y : i < length ys = search rules in
    let differ : entry_of x ≢ entry_of y = search rules in (
      λ f. absurd (false≢true f),
      λ e. absurd (differ_at (map entry_of xs) (map entry_of ys) i (entry_of x) (entry_of y) (mapped_at entry_of xs i x in_x c.index.ensures) (mapped_at entry_of ys i y in_y c.index-in-loop-index.ensures) (length_of_map entry_of ys i in_y) differ (c.self.view_is ∙ e ∙ sym c.other.view_is)),
    )

pub loop-index-preserved : goal.loop-index-preserved
loop-index-preserved g c =
    let xs = c.self.inside.tenants.items in
    let ys = c.other.inside.tenants.items in
    let i = c.loop-index.index in
    let x = c.index.result.now in
    let y = c.index-in-loop-index.result.now in
    let in_x : i < length xs = search rules in
    let in_y : i < length ys = search rules in
    let same : entry_of x ≡ entry_of y = search rules in
    take_same (map entry_of xs) (map entry_of ys) i (entry_of x) (entry_of y) (mapped_at entry_of xs i x in_x c.index.ensures) (mapped_at entry_of ys i y in_y c.index-in-loop-index.ensures) (length_of_map entry_of xs i in_x) (length_of_map entry_of ys i in_y) same c.loop-index.invariant

pub returns-then-len : goal.returns-then-len
returns-then-len g c = grind (arith, common_steps)

pub returns : goal.returns
returns g c = grind (arith, common_steps)
