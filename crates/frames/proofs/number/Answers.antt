use Rattle.std.proofs.Common.{take, refl, arith, length-take, ltb-true}
use Rattle.frames.specs.Frames.{all_digits}
use Rattle.frames.proofs.Reading.{number_more, digits_more, wrong_at, three_digits}
use Rattle.frames.proofs.number.Goals as goal

pub loop-byte-init : goal.loop-byte-init
unfolding all_digits
loop-byte-init c = record { right = refl; spelt = refl }

pub overflow_mul-number : goal.overflow_mul-number
overflow_mul-number c =
    let small = three_digits (take c.loop-byte.byte-index c.args.digits.now) (simp length-take (omega arith)) c.loop-byte.invariant.right in
    omega (arith, c.loop-byte.invariant.spelt)

pub overflow_add-number : goal.overflow_add-number
overflow_add-number c =
    let small = three_digits (take c.loop-byte.byte-index c.args.digits.now) (simp length-take (omega arith)) c.loop-byte.invariant.right in
    omega (arith, c.loop-byte.invariant.spelt, c.in_ok-number.ensures.1, ltb-true _ 16 c.in_ok-number.ensures.0)

pub returns-in_err-number : goal.returns-in_err-number
returns-in_err-number c = rw c.from_residual.ensures (wrong_at c.args.digits.now c.loop-byte.byte-index c.loop-byte-test.true c.in_err-number.ensures)

pub loop-byte-preserved : goal.loop-byte-preserved
loop-byte-preserved c =
    let l = c.args.digits.now in
    let i = c.loop-byte.byte-index in
    record {
      right = digits_more l i c.loop-byte-test.true c.loop-byte.invariant.right c.in_ok-number.ensures.0;
      spelt = omega (arith, c.loop-byte.invariant.spelt, c.in_ok-number.ensures.1, number_more l i c.loop-byte-test.true);
    }
