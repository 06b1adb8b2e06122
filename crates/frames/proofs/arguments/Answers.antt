use Rattle.std.proofs.Common.{◌≡◌, ◌≢◌, ℕ, ◌+◌, ◌-◌, ◌*◌, List, take, drop, refl, ap, sym, ◌∙◌, arith, get_or-set_other, get_or-set_same, below_more, false}
use Rattle.std.proofs.Math.ListN.{length-set}
use Rattle.std.proofs.lemmas.List.{length-replicate}
use Rattle.frames.specs.Frames.{all_digits, number, argument}
use Rattle.frames.proofs.Reading.{spelt, arguments_more, argument_wrong, wrong_line}
use Rattle.frames.proofs.arguments.Goals as goal

-- the part of the line that was read, as the code takes it
part : (line : List ℕ) (k : ℕ) → take (6 + 4 * k - (2 + 4 * k)) (drop (2 + 4 * k) line) ≡ spelt line k
part line k = ap (λ (n : ℕ). take n (drop (2 + 4 * k) line)) (four k)
  where
    four : (k : ℕ) → 6 + 4 * k - (2 + 4 * k) ≡ 4
    four k = omega arith

pub loop-k-init : goal.loop-k-init
unfolding all_digits
loop-k-init g c = record { long = length-replicate g.row.N 0; right = refl; read = λ j h. absurd (omega arith) }

pub returns-in_err-arguments : goal.returns-in_err-arguments
returns-in_err-arguments g c =
    let line = c.args.line.now in
    let k = c.loop-k.k in
    let h : all_digits (spelt line k) ≡ false = ap all_digits (sym (part line k)) ∙ c.in_err-arguments.ensures in
    rw c.from_residual.ensures (wrong_line g.row.N line (argument_wrong line k h))

pub loop-k-preserved : goal.loop-k-preserved
loop-k-preserved g c =
    let line = c.args.line.now in
    let k = c.loop-k.k in
    let e : c.in_ok-arguments.field-0 ≡ argument line k = c.in_ok-arguments.ensures.1 ∙ ap number (part line k) in
    record {
      long = length-set c.loop-k.arguments k c.in_ok-arguments.field-0 ∙ c.loop-k.invariant.long;
      right = arguments_more line k c.loop-k.invariant.right (ap all_digits (sym (part line k)) ∙ c.in_ok-arguments.ensures.0);
      read = below_more _ k (λ j h. let ne : j ≢ k = omega arith in rw get_or-set_other (c.loop-k.invariant.read j h)) (get_or-set_same c.loop-k.arguments k c.in_ok-arguments.field-0 0 (omega (arith, c.loop-k.invariant.long)) ∙ e);
    }
