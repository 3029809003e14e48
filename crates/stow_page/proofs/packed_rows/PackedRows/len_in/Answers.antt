use Rattle.std.proofs.Common.{◌<◌, ◌^◌, length, ◌∙◌, subst, arith}
use Rattle.stow_page.proofs.Sizes.{few_rows, own_length, summed_none, summed_more}
use Rattle.stow_page.proofs.packed_rows.PackedRows.len_in.Goals as goal

pub returns-then-is_same-clause-len : goal.returns-then-is_same-clause-len
returns-then-is_same-clause-len g c = c.len.ensures ∙ c.self.inside.bytes.ok.0 ∙ own_length _ _ _ _ c.args.self.now c.self.invariant.block c.self.view_is (c.is_same.ensures.0 c.if-is_same.true)

pub loop-index-init : goal.loop-index-init
loop-index-init g c = summed_none c.args.format c.args.self.now

pub overflow_add-len : goal.overflow_add-len
overflow_add-len g c =
    let few = subst (λ rows. length rows < 2 ^ 32) c.self.view_is (few_rows _ _ _ _ c.self.invariant.block) in
    let low = c.loop-index-test.true in
    let len = c.len-index-end.ensures.len in
    let most = c.loop-index.invariant.few in
    let size = c.entry_size-len.ensures.few in
    omega arith

pub loop-index-preserved : goal.loop-index-preserved
loop-index-preserved g c =
    let len = c.len-index-end.ensures.len in
    summed_more c.args.format c.args.self.now c.loop-index.index c.loop-index.len c.entry_size-len.result _ c.loop-index.invariant (let low = c.loop-index-test.true in omega arith) c.get.ensures.version c.entry_size-len.ensures.size c.entry_size-len.ensures.few

pub returns-clause-few : goal.returns-clause-few
returns-clause-few g c =
    let few = subst (λ rows. length rows < 2 ^ 32) c.self.view_is (few_rows _ _ _ _ c.self.invariant.block) in
    let end = c.loop-index.auto.index-end in
    let len = c.len-index-end.ensures.len in
    let most = c.loop-index.invariant.few in
    omega arith
