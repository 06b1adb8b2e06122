use Rattle.std.proofs.Common.{◌-◌, ◌≤◌, take}
use Rattle.schedule.specs.Exchanges.{most_turns}
use Rattle.schedule.specs.Sessions.{Underway}
use Rattle.schedule.proofs.Buffers.run.Given as goal

abbrev pub invariant-loop : goal.invariant-loop
invariant-loop g l = record {
  few : l.self.held ≤ 65;
  underway : Underway (g.R.Read.remaining l.fn.input) (g.R.Read.remaining l.input) (g.W.Write.contents l.fn.output) (g.W.Write.contents l.output)
      l.fn.self.words l.self.words (take l.self.held l.self.bytes) (most_turns - l.counter);
}
