use Rattle.std.proofs.Common.{◌≡◌, false, sym, ap, ◌∙◌}
use Rattle.std.specs.FinMap as finite
use Rattle.std.specs.Result.{result_ok}
use Rattle.stow_core.specs.Tenancies.{is_among}
use Rattle.stow_core.proofs.PinNumbers.{not_none, left_without}
use Rattle.stow_core.proofs.tenancy.Tenancy.drop_snapshot.Goals as goal

pub returns-in-Err : goal.returns-in-Err
returns-in-Err g c = absurd (not_none _ (sym c.drop_id.ensures.number ∙ ap result_ok c.in-Err.is) c.requires.live)

pub returns-else-contains-clause-left : goal.returns-else-contains-clause-left
returns-else-contains-clause-left g c = λ numbers same n.
    let number = c.in-Ok.number in
    let news = finite.values c.drop_id.new.self.snapshots in
    let gone : is_among number news ≡ false = sym (c.pins.ensures.among number) ∙ sym c.contains.ensures.value ∙ c.if-contains.false in
    left_without number false numbers (finite.values c.args.self.now.versions.snapshots) news gone same c.in-Ok.ensures.numbers n
