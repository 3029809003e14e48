use Rattle.std.proofs.Common.{◌≡◌, ℕ, suc, ◌+◌, ◌++◌, map, length, take, drop, get_or, set, Some, None, sym, ap, ◌∙◌, arith, append_assoc}
use Rattle.std.proofs.Math.Seq.{paste, paste-zero, paste-suc, length-paste, take-length}
use Rattle.std.proofs.lemmas.List.{length-map, get_or-map}
use Rattle.stow_raw.specs.declared.cells.Cells.{Cells}
use Rattle.stow_raw.specs.CellsLends.{with_bytes}
use Rattle.stow_raw.proofs.block.written_over.Goals as goal

pub loop-i-init : goal.loop-i-init
loop-i-init c = let old = c.args.cells in ap (with_bytes old) (paste-zero old.bytes c.args.at (map Some c.args.src.now))

pub write-requires : goal.write-requires
write-requires c =
    let old = c.args.cells in let more = map Some c.args.src.now in let room = c.requires.0 in let test = c.loop-i-test.true in
    omega (arith, ap (λ (w : Cells). length w.bytes) c.loop-i.invariant, length-map c.args.src.now Some, length-paste old.bytes c.args.at more c.loop-i.i (omega (arith, length-map c.args.src.now Some)) (omega (arith, length-map c.args.src.now Some)))

pub loop-i-preserved : goal.loop-i-preserved
loop-i-preserved c =
    let old = c.args.cells in let src = c.args.src.now in let i = c.loop-i.i in let more = map Some src in let room = c.requires.0 in let test = c.loop-i-test.true in
    let now = ap (λ (w : Cells). w.bytes) c.loop-i.invariant in
    let one : suc i ≡ i + 1 = omega arith in
    c.write.ensures ∙ ap (λ (w : Cells). with_bytes w (set w.bytes (c.args.at + i) (Some (get_or src i 0)))) c.loop-i.invariant
    ∙ ap (λ x. with_bytes old (set (paste old.bytes c.args.at more i) (c.args.at + i) x)) (sym (get_or-map Some src i 0 None (omega arith)))
    ∙ ap (with_bytes old) (paste-suc old.bytes c.args.at more i None (omega arith) (omega (arith, length-map src Some)))
    ∙ ap (λ n. with_bytes old (paste old.bytes c.args.at more n)) one

pub returns : goal.returns
returns c =
    let old = c.args.cells in let src = c.args.src.now in let more = map Some src in
    let last = c.loop-i.auto.i-end in let test = c.loop-i-test.false in
    let end : c.loop-i.i ≡ length more = omega (arith, length-map src Some) in
    c.loop-i.invariant ∙ ap (λ (n : ℕ). with_bytes old (paste old.bytes c.args.at more n)) end
    ∙ ap (λ l. with_bytes old ((take c.args.at old.bytes ++ l) ++ drop (c.args.at + length more) old.bytes)) (take-length more)
    ∙ ap (with_bytes old) (append_assoc (take c.args.at old.bytes) more (drop (c.args.at + length more) old.bytes))
    ∙ ap (λ n. with_bytes old (take c.args.at old.bytes ++ (more ++ drop (c.args.at + n) old.bytes))) (length-map src Some)
