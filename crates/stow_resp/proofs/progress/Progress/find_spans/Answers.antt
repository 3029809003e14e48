use Rattle.std.proofs.Common.{◌≡◌, ◌+◌, ◌++◌, ◌∷◌, [], length, sym, ◌∙◌, ap, inl, inr, refl, subst}
use Rattle.std.proofs.lemmas.List.{length_push}
use Rattle.stow_model.specs.Parts.{IsBulkAt}
use Rattle.stow_resp.proofs.Elements.{unscanned, scan_word, fits_before, restarted, element, not_begun, not_stuck}
use Rattle.stow_resp.proofs.progress.Progress.find_spans.Goals as goal

pub loop-self-init : goal.loop-self-init
loop-self-init g c =
    let none : c.reserve.new.self.items ≡ [] = c.reserve.ensures.items ∙ c.clear.ensures.items in
    record {
      progress = restarted c.args.self.now c.reserve.new.self c.args.bytes.now c.requires.progress none;
      same_count = refl;
      all_kept = ap length none;
    }

pub span_before-span-requires : goal.span_before-span-requires
span_before-span-requires g c =
    let p = c.loop-self.self in
    let h = c.loop-self.invariant.progress in
    fits_before p c.args.bytes.now c.in-Bulk.word.now c.in-Bulk.after.now h (sym (unscanned p c.args.bytes.now h) ∙ c.in-Bulk.ensures.1)

pub loop-self-preserved : goal.loop-self-preserved
loop-self-preserved g c =
    let p = c.loop-self.self in
    let v = c.loop-self.invariant in
    let bytes = c.args.bytes.now in
    let s = c.span_before-span in
    let pushed : c.push.new.self.items ≡ p.spans.items ++ s.result ∷ [] = c.in_ok-push-in-Bulk.ensures.items in
    record {
      progress = scan_word p bytes c.in-Bulk.word.now c.in-Bulk.after.now s.result c.push.new.self v.progress (sym (unscanned p bytes v.progress) ∙ c.in-Bulk.ensures.1) c.loop-self-test.true c.in-Bulk.ensures.0 s.ensures.end s.ensures.start (inr (v.all_kept, pushed));
      same_count = v.same_count;
      all_kept = ap length pushed ∙ length_push p.spans.items s.result ∙ ap (λ n. n + 1) v.all_kept;
    }

pub unreachable-requires : goal.unreachable-requires
unreachable-requires g c =
    let p = c.loop-self.self in
    let v = c.loop-self.invariant in
    let bytes = c.args.bytes.now in
    let h = element c.args.self.now p bytes _ c.requires.progress v.progress c.requires.whole v.same_count c.loop-self-test.true (unscanned p bytes v.progress) in
    elim c.in-More.is [
      | inl more ↦ not_begun _ h (subst (IsBulkAt _) more c.bulk.ensures)
      | inr stuck ↦ not_stuck _ stuck.0 h (subst (IsBulkAt _) stuck.1 c.bulk.ensures)
    ]
