use Rattle.std.proofs.Common.{◌∙◌, ◌/◌, max, sym, ap, arith}
use Rattle.stow_node.specs.StowMerge.Pins.{pins_in}
use Rattle.stow_node.specs.declared.shape.Shape.{Shape}
use Rattle.stow_node.proofs.Down.{full_has_messages}
use Rattle.stow_flush.proofs.Making.{IsMaking, making_first, squeezed_then, moved_then, flushes_stands, stays_stands, stays_few, makes_none, makes_squeezed, makes_more}
use Rattle.stow_flush.proofs.room.flush.Given as given
use Rattle.stow_flush.proofs.room.flush.Goals as goal
use Rattle.stow_flush.proofs.room.flush.Goals.{After-makes_room, In_err-step}

-- what is known once dead bytes were dropped
making : (g : given.Over) (c : After-makes_room g) → IsMaking (pins_in c.args.pins.now) c.args.root.now c.makes_room.new.self c.args.cache.now c.loop-alloc.cache c.args.spare.now.capacity c.makes_room.new.spare.capacity
making g c = squeezed_then (pins_in c.args.pins.now) c.args.root.now c.loop-alloc.root c.makes_room.new.self c.args.cache.now c.loop-alloc.cache c.args.spare.now.capacity c.loop-alloc.spare.capacity c.makes_room.new.spare.capacity c.loop-alloc.invariant.0 c.makes_room.ensures.same c.makes_room.ensures.spare

-- what is known where memory was refused
refused : (g : given.Over) (c : In_err-step g) → IsMaking (pins_in c.args.pins.now) c.args.root.now c.makes_room.new.self c.args.cache.now c.loop-alloc.cache c.args.spare.now.capacity c.makes_room.new.spare.capacity → IsMaking (pins_in c.args.pins.now) c.args.root.now c.step.new.self c.args.cache.now c.step.new.cache c.args.spare.now.capacity c.step.new.spare.capacity
refused g c m =
    moved_then (pins_in c.args.pins.now) c.args.root.now c.makes_room.new.self c.step.new.self c.args.cache.now c.loop-alloc.cache c.step.new.cache c.args.spare.now.capacity c.makes_room.new.spare.capacity c.step.new.spare.capacity m (stays_stands (pins_in c.args.pins.now) c.makes_room.new.self c.step.new.self c.in_err-step.ensures.err) c.step.ensures.cache c.step.ensures.spare (stays_few c.makes_room.new.self c.step.new.self c.in_err-step.ensures.err m.few)

pub loop-alloc-init : goal.loop-alloc-init
loop-alloc-init g c = (making_first (pins_in c.args.pins.now) c.args.root.now c.args.cache.now c.args.spare.now.capacity c.requires.few, makes_none g.row.A.Denot c.args.bytes (pins_in c.args.pins.now) c.args.root.now c.args.cache.now)

pub step-requires-clause-short : goal.step-requires-clause-short
step-requires-clause-short g c = let m = making g (goal.at.step-requires-clause-short g c).After-makes_room in λ key. (m.stands.means key).short (c.requires.short key)

pub step-requires-clause-few : goal.step-requires-clause-few
step-requires-clause-few g c = (making g (goal.at.step-requires-clause-few g c).After-makes_room).few

pub step-requires-clause-fan_out : goal.step-requires-clause-fan_out
step-requires-clause-fan_out g c =
    let f = c.requires.shape in
    let e = ap (λ (s : Shape). s.fan_out) (making g (goal.at.step-requires-clause-fan_out g c).After-makes_room).stands.shape in
    omega (arith, f, e)

pub loop-alloc-preserved : goal.loop-alloc-preserved
loop-alloc-preserved g c = (
  moved_then (pins_in c.args.pins.now) c.args.root.now c.makes_room.new.self c.step.new.self c.args.cache.now c.loop-alloc.cache c.step.new.cache c.args.spare.now.capacity c.makes_room.new.spare.capacity c.step.new.spare.capacity (making g (goal.at.loop-alloc-preserved g c).After-makes_room) (flushes_stands (pins_in c.args.pins.now) c.makes_room.new.self c.step.new.self c.in_ok-step.ensures.ok) c.step.ensures.cache c.step.ensures.spare c.in_ok-step.ensures.ok.few,
  makes_more g.row.A.Denot c.args.bytes c.ample.result (pins_in c.args.pins.now) c.args.root.now c.loop-alloc.root c.makes_room.new.self c.step.new.self c.args.cache.now c.loop-alloc.cache c.step.new.cache c.loop-alloc.invariant.1 c.makes_room.ensures.same
      (c.ample.ensures.is ∙ ap (λ (h : Shape). max c.args.bytes (h.buffer / 4)) c.shape.ensures.shape) (c.makes_room.ensures.full c.loop-alloc-test.true) c.in_ok-step.ensures.down,
)

pub returns-in_err-step-clause-stands : goal.returns-in_err-step-clause-stands
returns-in_err-step-clause-stands g c = (refused g (goal.at.returns-in_err-step-clause-stands g c).In_err-step (making g (goal.at.returns-in_err-step-clause-stands g c).After-makes_room)).stands

pub returns-in_err-step-clause-cache : goal.returns-in_err-step-clause-cache
returns-in_err-step-clause-cache g c = (refused g (goal.at.returns-in_err-step-clause-cache g c).In_err-step (making g (goal.at.returns-in_err-step-clause-cache g c).After-makes_room)).forgets

pub returns-in_err-step-clause-few : goal.returns-in_err-step-clause-few
returns-in_err-step-clause-few g c = (refused g (goal.at.returns-in_err-step-clause-few g c).In_err-step (making g (goal.at.returns-in_err-step-clause-few g c).After-makes_room)).few

pub returns-clause-stands : goal.returns-clause-stands
returns-clause-stands g c = (making g (goal.at.returns-clause-stands g c).After-makes_room).stands

pub returns-clause-few : goal.returns-clause-few
returns-clause-few g c = (making g (goal.at.returns-clause-few g c).After-makes_room).few

pub returns-clause-made : goal.returns-clause-made
returns-clause-made g c = makes_squeezed g.row.A.Denot c.args.bytes (pins_in c.args.pins.now) c.args.root.now c.loop-alloc.root c.makes_room.new.self c.args.cache.now c.loop-alloc.cache c.loop-alloc.invariant.1 c.makes_room.ensures.same

pub step-requires-clause-block : goal.step-requires-clause-block
step-requires-clause-block g c =
    let m = (making g (goal.at.step-requires-clause-block g c).After-makes_room).stands in
    m.capacity ∙ c.requires.block ∙ sym (ap (λ (h : Shape). h.buffer) m.shape)

pub step-requires-clause-spare : goal.step-requires-clause-spare
step-requires-clause-spare g c =
    let m = making g (goal.at.step-requires-clause-spare g c).After-makes_room in
    let size = ap (λ (h : Shape). h.buffer) m.stands.shape in
    let kept = m.block in
    let spare = c.requires.spare in
    let block = c.requires.block in
    omega (arith, size, kept, spare, block)

-- a root that lacks room, whose block is whole, has messages
pub step-requires-clause-some : goal.step-requires-clause-some
step-requires-clause-some g c =
    let m = (making g (goal.at.step-requires-clause-some g c).After-makes_room).stands in
    let size = ap (λ (h : Shape). h.buffer) (c.shape.ensures.shape ∙ c.loop-alloc.invariant.0.stands.shape) in
    let bytes = c.requires.bytes in
    let most = c.ample.ensures.most (omega (arith, bytes, size)) in
    let whole = m.capacity in
    let block = c.requires.block in
    full_has_messages c.makes_room.new.self c.ample.result (c.makes_room.ensures.full c.loop-alloc-test.true) (omega (arith, most, size, whole, block))
