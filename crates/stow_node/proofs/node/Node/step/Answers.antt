use Rattle.std.proofs.Common.{◌≡◌, length, sym, ap, ◌∙◌, subst, arith}
use Rattle.std.proofs.lemmas.Bool.Decides.{nat_tests}
use Rattle.stow_leaves.specs.StowMerge.Pins.{pins_in}
use Rattle.stow_node.specs.Rooms.{HasRoom}
use Rattle.stow_node.specs.declared.shape.Shape.{Shape}
use Rattle.stow_node.proofs.Rising.{rising_begins, rising_next, rising_ends, rising_down, rising_forgets}
use Rattle.stow_node.proofs.node.Node.step.Goals as goal

pub loop-alloc-init : goal.loop-alloc-init
loop-alloc-init g c =
    rising_begins (pins_in c.args.pins.now) c.args.self.now c.step_below.new.self c.in_ok-room.room c.args.cache.now c.step_below.new.cache c.shape-known.ensures.tile
    (let t = c.if-height-gt-MOST_HEIGHT.false in let h = c.height.ensures in omega (arith, t, h)) c.in_ok-room.ensures.ok c.in_ok-room.ensures.goes
    (subst (λ ws. HasRoom c.args.self.now.shape ws c.in_ok-room.room) c.new-above.ensures.items c.in_ok-room.ensures.room) c.in_ok-room.ensures.cache

pub rise-requires-clause-block : goal.rise-requires-clause-block
rise-requires-clause-block g c = let s = c.loop-alloc.invariant.stands in s.capacity ∙ c.requires.block ∙ sym (ap (λ (h : Shape). h.buffer) s.shape)

pub loop-alloc-preserved : goal.loop-alloc-preserved
loop-alloc-preserved g c =
    rising_next (pins_in c.args.pins.now) c.args.self.now c.loop-alloc.self c.rise.new.self c.loop-alloc.room c.rise.new.room c.args.cache.now c.step_below.new.cache c.loop-alloc.invariant
    (c.rise.ensures.rises (pins_in c.args.pins.now) c.args.self.now c.loop-alloc.invariant.stands) c.rise.ensures.room c.rise.ensures.fewer c.rise.ensures.height c.rise.ensures.leaves

pub returns-clause-ok : goal.returns-clause-ok
returns-clause-ok g c =
    let none : length c.loop-alloc.room.came.items ≡ 0 = (let t = c.loop-alloc-test.false in let e = c.is_empty.ensures in let o = c.loop-alloc.room.came.ok.0 in grind (arith, nat_tests, t, e, o)) in
    rising_ends (pins_in c.args.pins.now) c.args.self.now c.loop-alloc.self c.loop-alloc.room c.args.cache.now c.step_below.new.cache c.loop-alloc.invariant none

pub returns-clause-down : goal.returns-clause-down
returns-clause-down g c =
    let none : length c.loop-alloc.room.came.items ≡ 0 = (let t = c.loop-alloc-test.false in let e = c.is_empty.ensures in let o = c.loop-alloc.room.came.ok.0 in grind (arith, nat_tests, t, e, o)) in
    rising_down (pins_in c.args.pins.now) c.args.self.now c.loop-alloc.self c.loop-alloc.room c.args.cache.now c.step_below.new.cache c.loop-alloc.invariant none

pub returns-clause-cache : goal.returns-clause-cache
returns-clause-cache g c =
    let none : length c.loop-alloc.room.came.items ≡ 0 = (let t = c.loop-alloc-test.false in let e = c.is_empty.ensures in let o = c.loop-alloc.room.came.ok.0 in grind (arith, nat_tests, t, e, o)) in
    rising_forgets (pins_in c.args.pins.now) c.args.self.now c.loop-alloc.self c.loop-alloc.room c.args.cache.now c.step_below.new.cache c.loop-alloc.invariant none
