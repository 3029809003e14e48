use Rattle.std.proofs.Common.{◌∙◌, ◌+◌, sym, arith}
use Rattle.std.proofs.lemmas.Option.{slice_get_within}
use Rattle.stow_page.specs.StowTreeModel.Version.{version_of}
use Rattle.stow_merge.proofs.PartLemmas.{apart_more}
use Rattle.stow_merge.proofs.parts.are_apart.Goals as goal

pub loop-i-preserved : goal.loop-i-preserved
loop-i-preserved g c =
    apart_more c.args.block.now c.loop-i.i (version_of c.get.result) (version_of c.get-in-loop-i.result) c.loop-i.auto.i c.get.ensures.version c.get-in-loop-i.ensures.version
    (sym c.is_same.ensures ∙ c.if-is_same.false) c.loop-i.invariant

pub returns : goal.returns
returns g c = λ t. record {
  apart = λ k v w e f.
      c.loop-i.invariant k v w
      (let within = slice_get_within c.args.block.now (k + 1) w f in let end = c.loop-i-test.false in let len = c.len-i-end.ensures.len in omega (arith, within, end, len))
      e f;
}
