use Rattle.std.proofs.Common.{◌≡◌, ◌-◌, ◌∙◌, List, ℕ, sym, ap, length, Some, arith}
use Rattle.std.specs.Borrow.{Bor}
use Rattle.std.proofs.lemmas.List.{length-map, get_or-map}
use Rattle.stow_read.specs.Suffixes.{bytes_lent}
use Rattle.stow_read.proofs.Looked.{folded_next}
use Rattle.stow_read.proofs.suffixes.Suffixes.folded.Goals as goal

pub loop-i-preserved : goal.loop-i-preserved
loop-i-preserved g c =
    let len : c.len-count.result ≡ length (bytes_lent c.args.self.now.suffixes.items) = (let e = c.len-count.ensures in let o = c.args.self.now.suffixes.ok.0 in omega (arith, e, o, length-map c.args.self.now.suffixes.items (λ (b : Bor (List ℕ)). b.now))) in
    folded_next (Some c.args.base.now) (bytes_lent c.args.self.now.suffixes.items) c.len-count.result c.loop-i.i c.index.result.now.now c.loop-i.bytes.items c.extend_from_slice-in-loop-i.new.self.items
    len c.loop-i-test.true (ap (λ (b : Bor (List ℕ)). b.now) c.index.ensures ∙ sym (get_or-map (λ (b : Bor (List ℕ)). b.now) c.args.self.now.suffixes.items (c.len-count.result - 1 - c.loop-i.i) c.index.result.now c.index.result.now.now (let l = c.loop-i-test.true in omega (arith, len, length-map c.args.self.now.suffixes.items (λ (b : Bor (List ℕ)). b.now))))) c.loop-i.invariant c.in_ok-extend_from_slice-2.ensures.items
