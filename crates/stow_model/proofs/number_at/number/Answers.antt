use Rattle.std.proofs.Common.{◌≡◌, ◌≢◌, ℕ, ◌<◌, ◌+◌, ◌*◌, inl, inr, take, sym, arith, subst}
use Rattle.std.proofs.lemmas.Grind.{common_steps}
use Rattle.stow_model.specs.Parts.{IsSoFar}
use Rattle.stow_model.proofs.Numbers.{so_far_none, so_far_small, so_far_begun, zero_stuck, large_stuck, digit_more}
use Rattle.stow_model.proofs.number_at.number.Goals as goal

pub loop-i-init : goal.loop-i-init
loop-i-init c = so_far_none c.args.limit

pub overflow_mul-next : goal.overflow_mul-next
overflow_mul-next c = let small = so_far_small _ _ _ c.loop-i.invariant in omega arith

pub overflow_add-next : goal.overflow_add-next
overflow_add-next c = let small = so_far_small _ _ _ c.loop-i.invariant in omega arith

pub returns-then-value-eq0 : goal.returns-then-value-eq0
returns-then-value-eq0 c = zero_stuck c.args.limit c.args.bytes.now c.loop-i.i c.loop-i.value c.requires c.loop-i-test.true c.loop-i.invariant c.if-i-gt0.true c.if-value-eq0.true c.if-byte-lt48.false c.if-byte-gt57.false

pub returns-then-next-limit : goal.returns-then-next-limit
returns-then-next-limit c =
    let some : 0 < c.loop-i.i → c.loop-i.value ≢ 0 = λ p z. elim c.else-i-gt0.either [ inl both ↦ both.1 z | inr none ↦ omega arith ] in
    large_stuck c.args.limit c.args.bytes.now c.loop-i.i c.loop-i.value c.requires c.loop-i-test.true c.loop-i.invariant some c.if-byte-lt48.false c.if-byte-gt57.false (omega arith)

pub loop-i-preserved : goal.loop-i-preserved
loop-i-preserved c =
    let some : 0 < c.loop-i.i → c.loop-i.value ≢ 0 = λ p z. elim c.else-i-gt0.either [ inl both ↦ both.1 z | inr none ↦ omega arith ] in
    subst (λ (d : ℕ). IsSoFar c.args.limit (take (c.loop-i.i + 1) c.args.bytes.now) (c.loop-i.value * 10 + d)) (sym c.from.ensures)
    (digit_more c.args.limit c.args.bytes.now c.loop-i.i c.loop-i.value c.requires c.loop-i-test.true c.loop-i.invariant some c.if-byte-lt48.false c.if-byte-gt57.false (omega arith))

pub returns : goal.returns
returns c =
    let all : take c.loop-i.i c.args.bytes.now ≡ c.args.bytes.now = grind (arith, common_steps) in
    so_far_begun c.args.limit c.args.bytes.now c.loop-i.value (subst (λ t. IsSoFar c.args.limit t c.loop-i.value) all c.loop-i.invariant)
