use Rattle.std.proofs.Common.{sym, ◌∙◌}
use Rattle.stow_resp.proofs.Elements.{unscanned, scan_more, scan_stuck, scan_word, fits_before}
use Rattle.stow_resp.proofs.progress.Progress.scan.Goals as goal

pub span_before-span-requires : goal.span_before-span-requires
span_before-span-requires g c =
    let p = c.loop-self.self in
    let h = c.loop-self.invariant in
    fits_before p c.args.bytes.now c.in-Bulk.word.now c.in-Bulk.after.now h (sym (unscanned p c.args.bytes.now h) ∙ c.in-Bulk.ensures.1)

pub loop-self-preserved : goal.loop-self-preserved
loop-self-preserved g c =
    let p = c.loop-self.self in
    let h = c.loop-self.invariant in
    let s = c.span_before-span in
    scan_word p c.args.bytes.now c.in-Bulk.word.now c.in-Bulk.after.now s.result c.keep.new.spans h (sym (unscanned p c.args.bytes.now h) ∙ c.in-Bulk.ensures.1) c.loop-self-test.true c.in-Bulk.ensures.0 s.ensures.end s.ensures.start c.keep.ensures

pub returns-in-More-clause-scanned : goal.returns-in-More-clause-scanned
returns-in-More-clause-scanned g c =
    let p = c.loop-self.self in
    let h = c.loop-self.invariant in
    scan_more p c.args.bytes.now _ h (unscanned p c.args.bytes.now h) c.loop-self-test.true c.in-More.ensures

pub returns-in-Stuck-clause-scanned : goal.returns-in-Stuck-clause-scanned
returns-in-Stuck-clause-scanned g c =
    let p = c.loop-self.self in
    let h = c.loop-self.invariant in
    scan_stuck p c.args.bytes.now _ c.in-Stuck.fault h (unscanned p c.args.bytes.now h) c.loop-self-test.true c.in-Stuck.ensures
