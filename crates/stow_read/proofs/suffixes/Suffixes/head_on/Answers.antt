use Rattle.std.proofs.Common.{◌≡◌, ◌<◌, ◌∙◌, sym, ap, List, ℕ, length, arith}
use Rattle.std.specs.Borrow.{Bor}
use Rattle.std.specs.Vec.{vec_len}
use Rattle.std.specs.Option.{option_map}
use Rattle.std.proofs.lemmas.List.{length-map}
use Rattle.stow_tree_model.specs.Operations.{value_in, bytes_or_none}
use Rattle.stow_read.specs.Found.{lent_of}
use Rattle.stow_read.specs.Suffixes.{bytes_lent}
use Rattle.stow_read.proofs.Heads.{sized}
use Rattle.stow_read.proofs.Looked.{not_empty}
use Rattle.stow_read.proofs.suffixes.Suffixes.head_on.Goals as goal
use Rattle.stow_read.proofs.suffixes.Suffixes.head_on.Goals.{in-None, in-Some}

pub overflow_add-result : goal.overflow_add-result
overflow_add-result g c =
    let some : 0 < length (bytes_lent c.args.self.now.suffixes.items) = not_empty (vec_len c.args.self.now.suffixes) (length (bytes_lent c.args.self.now.suffixes.items)) c.if-is_empty.ensures (let o = c.args.self.now.suffixes.ok.0 in omega (arith, o, length-map c.args.self.now.suffixes.items (λ (b : Bor (List ℕ)). b.now))) in
    let lower : c.match-base.below ≡ length (bytes_or_none (value_in (option_map lent_of c.args.base))) =
    elim c.match-base.branch [ in-None w ↦ w.below-is ∙ sym (ap (λ b. length (bytes_or_none (value_in (option_map lent_of b)))) w.in-None.is) | in-Some w ↦ w.below-is ∙ sym (ap (λ b. length (bytes_or_none (value_in (option_map lent_of b)))) w.in-Some.is) ] in
    let both = sized c.args.self.now.number (bytes_lent c.args.self.now.suffixes.items) (option_map lent_of c.args.base) c.match-base.below c.size.result some lower c.size.ensures c.requires in
    let limit = both.0 in
    omega (arith, limit)

pub overflow_cast-result-2 : goal.overflow_cast-result-2
overflow_cast-result-2 g c =
    let some : 0 < length (bytes_lent c.args.self.now.suffixes.items) = not_empty (vec_len c.args.self.now.suffixes) (length (bytes_lent c.args.self.now.suffixes.items)) c.if-is_empty.ensures (let o = c.args.self.now.suffixes.ok.0 in omega (arith, o, length-map c.args.self.now.suffixes.items (λ (b : Bor (List ℕ)). b.now))) in
    let lower : c.match-base.below ≡ length (bytes_or_none (value_in (option_map lent_of c.args.base))) =
    elim c.match-base.branch [ in-None w ↦ w.below-is ∙ sym (ap (λ b. length (bytes_or_none (value_in (option_map lent_of b)))) w.in-None.is) | in-Some w ↦ w.below-is ∙ sym (ap (λ b. length (bytes_or_none (value_in (option_map lent_of b)))) w.in-Some.is) ] in
    let both = sized c.args.self.now.number (bytes_lent c.args.self.now.suffixes.items) (option_map lent_of c.args.base) c.match-base.below c.size.result some lower c.size.ensures c.requires in
    let limit = both.0 in
    omega (arith, limit)

pub returns : goal.returns
returns g c =
    let some : 0 < length (bytes_lent c.args.self.now.suffixes.items) = not_empty (vec_len c.args.self.now.suffixes) (length (bytes_lent c.args.self.now.suffixes.items)) c.if-is_empty.ensures (let o = c.args.self.now.suffixes.ok.0 in omega (arith, o, length-map c.args.self.now.suffixes.items (λ (b : Bor (List ℕ)). b.now))) in
    let lower : c.match-base.below ≡ length (bytes_or_none (value_in (option_map lent_of c.args.base))) =
    elim c.match-base.branch [ in-None w ↦ w.below-is ∙ sym (ap (λ b. length (bytes_or_none (value_in (option_map lent_of b)))) w.in-None.is) | in-Some w ↦ w.below-is ∙ sym (ap (λ b. length (bytes_or_none (value_in (option_map lent_of b)))) w.in-Some.is) ] in
    let both = sized c.args.self.now.number (bytes_lent c.args.self.now.suffixes.items) (option_map lent_of c.args.base) c.match-base.below c.size.result some lower c.size.ensures c.requires in
    both.1
