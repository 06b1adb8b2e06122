use Rattle.std.proofs.Common.{◌≡◌, ℕ, Bool, true, Result, Ok, Err, take, ap, sym, subst, ◌∙◌, arith}
use Rattle.std.proofs.lemmas.Result.{err_from_is_err_and}
use Rattle.schedule.specs.declared.Failure.{Failure}
use Rattle.schedule.specs.Runs.{RanOn}
use Rattle.schedule.specs.Sessions.{Underway, underway_start, turn_on, few_held, input_ends, turn_fails, turns_stop}
use Rattle.schedule.proofs.Buffers.run.Goals as goal

pub loop-init : goal.loop-init
loop-init g c = record {
  few = omega arith;
  underway = underway_start _ _ _ _ (ap (λ (n : ℕ). take n c.args.self.now.bytes) c.requires);
}

pub returns-in_err-take_turn : goal.returns-in_err-take_turn
returns-in_err-take_turn g c =
    let told = err_from_is_err_and c.from_residual.result c.from_residual.ensures.1 in
    subst (λ (x : Result (Unit {0}) Failure). RanOn (g.R.Read.remaining c.args.input.now) (g.R.Read.remaining c.take_turn.new.input)
    (g.W.Write.contents c.args.output.now) (g.W.Write.contents c.take_turn.new.output) c.args.self.now.words x c.take_turn.new.self.words) (sym told.1)
    (turn_fails _ _ _ _ _ _ _ _ c.loop.invariant.underway (omega arith) _ _ _ _ _ _ _ _ c.take_turn.ensures told.0
    (c.in_err-take_turn.was ∙ ap (λ (f : Failure). Err f) (sym told.2)))

pub returns-then-not-branch : goal.returns-then-not-branch
returns-then-not-branch g c =
    input_ends _ _ _ _ _ _ _ _ c.loop.invariant.underway (omega arith) _ _ _ _ _ _ _ _ c.take_turn.ensures tt
    (c.in_ok-take_turn.was ∙ ap (λ (b : Bool). Ok b) c.if-not-branch.true)

pub loop-preserved : goal.loop-preserved
loop-preserved g c =
    let on : c.take_turn.result ≡ Ok true = c.in_ok-take_turn.was ∙ ap (λ (b : Bool). Ok b) c.if-not-branch.false in
    record {
      few = few_held _ _ _ _ _ _ _ _ c.loop.invariant.underway (omega arith) _ _ _ _ _ _ _ _ c.take_turn.ensures on;
      underway = subst (λ (left : ℕ). Underway (g.R.Read.remaining c.args.input.now) (g.R.Read.remaining c.take_turn.new.input) (g.W.Write.contents c.args.output.now)
          (g.W.Write.contents c.take_turn.new.output) c.args.self.now.words c.take_turn.new.self.words (take c.take_turn.new.self.held c.take_turn.new.self.bytes) left)
          (omega arith)
          (turn_on _ _ _ _ _ _ _ _ c.loop.invariant.underway (omega arith) _ _ _ _ _ _ _ _ c.take_turn.ensures on);
    }

pub returns : goal.returns
returns g c = turns_stop _ _ _ _ _ _ _ _ c.loop.invariant.underway (omega arith)
