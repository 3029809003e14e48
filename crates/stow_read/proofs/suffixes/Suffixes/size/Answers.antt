use Rattle.std.proofs.Common.{◌<◌, List, ℕ, length, ap, ◌∙◌, sym, arith}
use Rattle.std.specs.Borrow.{Bor}
use Rattle.std.proofs.lemmas.List.{length-map, get_or-map}
use Rattle.stow_read.specs.Suffixes.{bytes_lent}
use Rattle.stow_read.proofs.Heads.{size_next}
use Rattle.stow_read.proofs.suffixes.Suffixes.size.Goals as goal

pub loop-i-preserved : goal.loop-i-preserved
loop-i-preserved g c =
    let items = c.args.self.now.suffixes.items in
    let inside : c.loop-i.i < length items = (let t = c.loop-i-test.true in let n = c.len-i-end.ensures in let o = c.args.self.now.suffixes.ok.0 in omega (arith, t, n, o)) in
    size_next (bytes_lent items) c.loop-i.i c.loop-i.size c.saturating_add-size.result c.index.result.now.now (omega (arith, inside, length-map items (λ (b : Bor (List ℕ)). b.now)))
    (ap (λ (b : Bor (List ℕ)). b.now) c.index.ensures ∙ sym (get_or-map (λ (b : Bor (List ℕ)). b.now) items c.loop-i.i c.index.result.now c.index.result.now.now inside))
    c.saturating_add-size.ensures c.loop-i.invariant
