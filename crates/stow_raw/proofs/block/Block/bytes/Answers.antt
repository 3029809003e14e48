use Rattle.std.proofs.Common.{◌∙◌, arith}
use Rattle.stow_raw.proofs.Blocks.{front_run}
use Rattle.stow_raw.proofs.block.Block.bytes.Goals as goal

pub slice-requires : goal.slice-requires
slice-requires g c =
    let h = c.requires.0 in let within = h.within in let places = h.places in
    (omega (arith, c.requires.1), (front_run c.args.self.now h c.args.at c.args.len c.requires.1).0)

pub returns : goal.returns
returns g c = c.slice.ensures ∙ (front_run c.args.self.now c.requires.0 c.args.at c.args.len c.requires.1).1
