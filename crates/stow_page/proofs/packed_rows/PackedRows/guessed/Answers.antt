use Rattle.std.proofs.Common.{◌≡◌, ◌<◌, length, get_or, sym, subst, ◌∙◌, arith}
use Rattle.stow_page.proofs.Packing.{IsFound, found}
use Rattle.stow_page.proofs.packed_rows.PackedRows.guessed.Given as given
use Rattle.stow_page.proofs.packed_rows.PackedRows.guessed.Goals as goal
use Rattle.stow_page.proofs.packed_rows.PackedRows.guessed.Goals.{After-as_slice}

is_there : (g : given.Over) (c : After-as_slice g) → c.args.guess.index < length c.self.inside.places.items
is_there g c = let low = c.if-guess-len.false in let len = c.len.ensures in let o = c.self.inside.places.ok.0 in omega (arith, low, len, o)

is_found : (g : given.Over) (c : After-as_slice g) → IsFound c.self.inside.format c.self.inside.bytes.items c.self.inside.places.items c.args.guess.index c.args.guess.place
is_found g c = found c.self.inside.format c.self.inside.bytes.items c.self.inside.places.items c.args.guess.index c.args.guess.place c.self.invariant.block (is_there g c)
    (subst (λ place. c.args.guess.place ≡ get_or c.self.inside.places.items c.args.guess.index place) (sym c.if-guess-index.false) (c.if-guess-index.false ∙ c.index.ensures))

pub split_at-requires : goal.split_at-requires
split_at-requires g c = rw c.as_slice.ensures.value (is_found g (goal.at.split_at-requires g c).After-as_slice).within

pub lent_version-requires : goal.lent_version-requires
lent_version-requires g c = rw (c.split_at.ensures.back, c.as_slice.ensures.value) (is_found g (goal.at.lent_version-requires g c).After-as_slice).is_at

pub returns : goal.returns
returns g c = rw (← c.self.view_is, c.lent_version.ensures, c.split_at.ensures.back, c.as_slice.ensures.value) (is_found g (goal.at.returns g c).After-as_slice).is_version
