use Rattle.std.proofs.Common.{◌≡◌, ◌<◌, ◌∙◌, sym, ap, List, ℕ, length, arith}
use Rattle.std.specs.Borrow.{Bor}
use Rattle.std.specs.Vec.{vec_len}
use Rattle.std.specs.Option.{option_map}
use Rattle.std.proofs.lemmas.List.{length-map}
use Rattle.stow_tree_model.specs.Operations.{value_in, bytes_or_none}
use Rattle.stow_read.specs.Found.{lent_of}
use Rattle.stow_read.specs.Suffixes.{bytes_lent}
use Rattle.stow_read.proofs.Looked.{folded_is, not_empty}
use Rattle.stow_read.proofs.suffixes.Suffixes.on.Goals as goal
use Rattle.stow_read.proofs.suffixes.Suffixes.on.Goals.{in-None-base, in-Some-base}

pub returns : goal.returns
returns g c =
    let some : 0 < length (bytes_lent c.args.self.now.suffixes.items) = not_empty (vec_len c.args.self.now.suffixes) (length (bytes_lent c.args.self.now.suffixes.items)) c.if-is_empty.ensures (let o = c.args.self.now.suffixes.ok.0 in omega (arith, o, length-map c.args.self.now.suffixes.items (λ (b : Bor (List ℕ)). b.now))) in
    let below : c.match-base-2.below.now ≡ bytes_or_none (value_in (option_map lent_of c.args.base)) =
    elim c.match-base-2.branch [ in-None-base w ↦ ap (λ (b : Bor (List ℕ)). b.now) w.below-is ∙ sym (ap (λ b. bytes_or_none (value_in (option_map lent_of b))) w.in-None-base.is) | in-Some-base w ↦ ap (λ (b : Bor (List ℕ)). b.now) w.below-is ∙ sym (ap (λ b. bytes_or_none (value_in (option_map lent_of b))) w.in-Some-base.is) ] in
    folded_is c.args.self.now.number (bytes_lent c.args.self.now.suffixes.items) (option_map lent_of c.args.base) c.match-base-2.below.now c.in_ok-value.value some below c.in_ok-value.ensures
