use Rattle.std.proofs.Common.{◌+◌, ◌<◌, length, drop, ap, ◌∙◌, sym, subst, arith}
use Rattle.stow_tree_model.specs.Operations.{latest}
use Rattle.stow_read.specs.Suffixes.{suffixes_of, continued, looked}
use Rattle.stow_read.specs.Way.{key_in, buffers_of, ops_down, row_ops}
use Rattle.stow_read.proofs.Ways.{IsLookedDown, down_first, down_look, down_on, down_past, down_rows, no_rows}
use Rattle.stow_read.proofs.way.Way.base.Goals as goal
use Rattle.stow_read.proofs.way.Way.base.Goals.{then-is_next+in_ok-base+in_default, else-is_next}

pub loop-i-init : goal.loop-i-init
loop-i-init g c = down_first c.args.self.now c.args.key.bytes.now c.args.at (suffixes_of c.args.suffixes.now) c.requires

pub returns-in-Base : goal.returns-in-Base
returns-in-Base g c =
    let levels = c.args.self.now.levels.items in
    let key = c.args.key.bytes.now in
    let inside : c.loop-i.i < length levels = (let t = c.loop-i-test.true in let n = c.len-i-end.ensures in omega (arith, t, n)) in
    down_look levels (row_ops c.args.self.now key) key c.args.at c.loop-i.i (suffixes_of c.args.suffixes.now) (suffixes_of c.loop-i.suffixes) (suffixes_of c.look.new.self) c.index-level.result.now c.in_ok-base.field-0 inside c.index-level.ensures c.loop-i.invariant c.in_ok-base.ensures
    ∙ ap (λ look. looked look (suffixes_of c.look.new.self) (latest (ops_down key (buffers_of (drop (c.loop-i.i + 1) levels)) (row_ops c.args.self.now key)) c.args.at)) c.in-Base.is

pub loop-i-preserved : goal.loop-i-preserved
loop-i-preserved g c =
    let levels = c.args.self.now.levels.items in
    let key = c.args.key.bytes.now in
    let inside : c.loop-i.i < length levels = (let t = c.loop-i-test.true in let n = c.len-i-end.ensures in omega (arith, t, n)) in
    elim c.if-is_next.branch [
      | then-is_next+in_ok-base+in_default w ↦ subst (λ now. IsLookedDown levels (row_ops c.args.self.now key) key c.args.at (c.loop-i.i + 1) (suffixes_of c.args.suffixes.now) now) (sym (ap suffixes_of w.suffixes-is))
          (down_on levels (row_ops c.args.self.now key) key c.args.at c.loop-i.i (suffixes_of c.args.suffixes.now) (suffixes_of c.loop-i.suffixes) (suffixes_of w.look.new.self) c.index-level.result.now w.in_ok-base.field-0 inside c.index-level.ensures c.loop-i.invariant w.in_ok-base.ensures w.in_default.is)
      | else-is_next w ↦ subst (λ now. IsLookedDown levels (row_ops c.args.self.now key) key c.args.at (c.loop-i.i + 1) (suffixes_of c.args.suffixes.now) now) (sym (ap suffixes_of w.suffixes-is))
          (down_past levels (row_ops c.args.self.now key) key c.args.at c.loop-i.i (suffixes_of c.args.suffixes.now) (suffixes_of c.loop-i.suffixes) c.index-level.result.now inside c.index-level.ensures c.loop-i.invariant (sym c.is_next.ensures ∙ w.if-is_next.false))
    ]

pub returns-then-is_next-2 : goal.returns-then-is_next-2
returns-then-is_next-2 g c =
    let levels = c.args.self.now.levels.items in
    let key = c.args.key.bytes.now in
    down_rows levels (row_ops c.args.self.now key) key c.args.at c.loop-i.i (suffixes_of c.args.suffixes.now) (suffixes_of c.loop-i.suffixes) (let t = c.loop-i-test.false in let n = c.len-i-end.ensures in omega (arith, t, n)) c.loop-i.invariant
    ∙ ap (continued (suffixes_of c.loop-i.suffixes)) (sym c.value_in_rows.ensures)

pub returns-else-is_next-2 : goal.returns-else-is_next-2
returns-else-is_next-2 g c =
    let levels = c.args.self.now.levels.items in
    let key = c.args.key.bytes.now in
    down_rows levels (row_ops c.args.self.now key) key c.args.at c.loop-i.i (suffixes_of c.args.suffixes.now) (suffixes_of c.loop-i.suffixes) (let t = c.loop-i-test.false in let n = c.len-i-end.ensures in omega (arith, t, n)) c.loop-i.invariant
    ∙ ap (continued (suffixes_of c.loop-i.suffixes)) (no_rows (row_ops c.args.self.now key) (key_in c.args.self.now.next_row) key c.args.at c.requires.row (sym c.is_next-2.ensures ∙ c.if-is_next-2.false))
