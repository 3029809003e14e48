use Rattle.std.proofs.Common.{◌-◌, ◌%◌, ap, sym, ◌∙◌}
use Rattle.std.proofs.lemmas.Nat.{and_mask}
use Rattle.std.specs.Int.Bits.{bit_and}
use Rattle.stow_filter.proofs.filter.place.Goals as goal

pub returns-clause-is : goal.returns-clause-is
returns-clause-is c = let h = c.args.hash in let p = c.requires in
    ap (λ n. bit_and h (n - 1)) p.1 ∙ and_mask h p.0 ∙ ap (λ n. h % n) (sym p.1)
