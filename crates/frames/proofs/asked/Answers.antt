use Rattle.std.proofs.Common.{◌≡◌, ◌≢◌, ℕ, sym, subst, ◌∙◌, arith}
use Rattle.frames.specs.declared.Frame.TheVariants.{Bad}
use Rattle.frames.specs.Frames.{asked, argument}
use Rattle.frames.specs.FrameLaws.{at_operation, unknown, no_operation, wrong_length}
use Rattle.frames.proofs.Reading.{wrong_operation}
use Rattle.frames.proofs.asked.Goals as goal

pub returns-then-line-lt2 : goal.returns-then-line-lt2
returns-then-line-lt2 c = sym (wrong_length c.args.line.now (λ e. omega arith))

pub returns-in_err-number : goal.returns-in_err-number
returns-in_err-number c = rw c.from_residual.ensures (sym (wrong_operation c.args.line.now c.in_err-number.ensures))

pub returns-in-1 : goal.returns-in-1
returns-in-1 c = c.make.ensures ∙ sym (at_operation c.args.line.now 1 c.if-line-lt2.false (omega arith) (sym c.in_ok-number.ensures.1 ∙ c.in-1.is))

pub returns-in-2 : goal.returns-in-2
returns-in-2 c = c.register.ensures ∙ sym (at_operation c.args.line.now 2 c.if-line-lt2.false (omega arith) (sym c.in_ok-number.ensures.1 ∙ c.in-2.is))

pub returns-in-3 : goal.returns-in-3
returns-in-3 c = c.v_read.ensures ∙ sym (at_operation c.args.line.now 3 c.if-line-lt2.false (omega arith) (sym c.in_ok-number.ensures.1 ∙ c.in-3.is))

pub returns-in-4 : goal.returns-in-4
returns-in-4 c = c.v_cas.ensures ∙ sym (at_operation c.args.line.now 4 c.if-line-lt2.false (omega arith) (sym c.in_ok-number.ensures.1 ∙ c.in-4.is))

pub returns-in-5 : goal.returns-in-5
returns-in-5 c = c.take_snapshot.ensures ∙ sym (at_operation c.args.line.now 5 c.if-line-lt2.false (omega arith) (sym c.in_ok-number.ensures.1 ∙ c.in-5.is))

pub returns-in-6 : goal.returns-in-6
returns-in-6 c = c.read_snapshot.ensures ∙ sym (at_operation c.args.line.now 6 c.if-line-lt2.false (omega arith) (sym c.in_ok-number.ensures.1 ∙ c.in-6.is))

pub returns-in-7 : goal.returns-in-7
returns-in-7 c = c.total.ensures ∙ sym (at_operation c.args.line.now 7 c.if-line-lt2.false (omega arith) (sym c.in_ok-number.ensures.1 ∙ c.in-7.is))

pub returns-in-8 : goal.returns-in-8
returns-in-8 c = c.step.ensures ∙ sym (at_operation c.args.line.now 8 c.if-line-lt2.false (omega arith) (sym c.in_ok-number.ensures.1 ∙ c.in-8.is))

pub returns-in_default : goal.returns-in_default
returns-in_default c =
    let l = c.args.line.now in
    let n = c.in_ok-number.field-0 in
    let other : (n ≢ 1) × (n ≢ 2) × (n ≢ 3) × (n ≢ 4) × (n ≢ 5) × (n ≢ 6) × (n ≢ 7) × (n ≢ 8) = omega arith in
    sym (no_operation l (subst (λ (o : ℕ). asked o (argument l) ≡ Bad) c.in_ok-number.ensures.1
    (unknown _ (argument l) other.0 other.1 other.2 other.3 other.4 other.5 other.6 other.7)))
