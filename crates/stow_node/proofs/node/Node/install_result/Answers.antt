use Rattle.std.proofs.Common.{◌≡◌, length, sym, ap, ◌∙◌, subst, arith}
use Rattle.std.proofs.lemmas.Bool.Decides.{nat_tests}
use Rattle.stow_node.specs.Rooms.{HasRoom}
use Rattle.stow_node.specs.declared.shape.Shape.{Shape}
use Rattle.stow_node.proofs.Raising.{raising_begins, raising_behind, raising_next, raising_keeps, raising_forgets, raising_gone}
use Rattle.stow_node.proofs.node.Node.install_result.Goals as goal

pub loop-alloc-init : goal.loop-alloc-init
loop-alloc-init g c =
    raising_begins c.args.merge.now.job c.args.self.now c.install_below.new.self c.in_ok-room.room c.args.cache.now c.install_below.new.cache c.requires.can c.shape-known.ensures.tile
    (let t = c.if-height-gt-MOST_HEIGHT.false in let h = c.height.ensures in omega (arith, t, h)) c.requires.fan_out c.in_ok-room.ensures.ok
    (subst (λ ws. HasRoom c.args.self.now.shape ws c.in_ok-room.room) c.new-above.ensures.items c.in_ok-room.ensures.room) c.in_ok-room.ensures.cache c.in_ok-room.ensures.gone

pub rise-requires-clause-came : goal.rise-requires-clause-came
rise-requires-clause-came g c = let t = c.loop-alloc-test.true in let e = c.is_empty.ensures in let o = c.loop-alloc.room.came.ok.0 in grind (arith, nat_tests, t, e, o)

pub rise-requires-clause-are : goal.rise-requires-clause-are
rise-requires-clause-are g c = raising_behind c.args.merge.now.job c.args.self.now c.loop-alloc.self c.loop-alloc.room c.args.cache.now c.install_below.new.cache c.loop-alloc.invariant

pub rise-requires-clause-block : goal.rise-requires-clause-block
rise-requires-clause-block g c =
    let i = c.loop-alloc.invariant in
    let s = i.stands i.can.pins i.can.can.covered in
    s.capacity ∙ c.requires.block ∙ sym (ap (λ (h : Shape). h.buffer) s.shape)

pub loop-alloc-preserved : goal.loop-alloc-preserved
loop-alloc-preserved g c =
    raising_next c.args.merge.now.job c.args.self.now c.loop-alloc.self c.rise.new.self c.loop-alloc.room c.rise.new.room c.args.cache.now c.install_below.new.cache c.loop-alloc.invariant
    c.rise.ensures.rises c.rise.ensures.room c.rise.ensures.fewer c.rise.ensures.height c.rise.ensures.leaves c.rise.ensures.nearest

pub returns-clause-ok : goal.returns-clause-ok
returns-clause-ok g c =
    let none : length c.loop-alloc.room.came.items ≡ 0 = (let t = c.loop-alloc-test.false in let e = c.is_empty.ensures in let o = c.loop-alloc.room.came.ok.0 in grind (arith, nat_tests, t, e, o)) in
    raising_keeps c.args.merge.now.job c.args.self.now c.loop-alloc.self c.loop-alloc.room c.args.cache.now c.install_below.new.cache c.loop-alloc.invariant none

pub returns-clause-gone : goal.returns-clause-gone
returns-clause-gone g c =
    let none : length c.loop-alloc.room.came.items ≡ 0 = (let t = c.loop-alloc-test.false in let e = c.is_empty.ensures in let o = c.loop-alloc.room.came.ok.0 in grind (arith, nat_tests, t, e, o)) in
    raising_gone c.args.merge.now.job c.args.self.now c.loop-alloc.self c.loop-alloc.room c.args.cache.now c.install_below.new.cache c.loop-alloc.invariant none

pub returns-clause-cache : goal.returns-clause-cache
returns-clause-cache g c =
    let none : length c.loop-alloc.room.came.items ≡ 0 = (let t = c.loop-alloc-test.false in let e = c.is_empty.ensures in let o = c.loop-alloc.room.came.ok.0 in grind (arith, nat_tests, t, e, o)) in
    raising_forgets c.args.merge.now.job c.args.self.now c.loop-alloc.self c.loop-alloc.room c.args.cache.now c.install_below.new.cache c.loop-alloc.invariant none
