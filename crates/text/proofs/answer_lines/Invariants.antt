use Rattle.std.proofs.Common.{◌-◌}
use Rattle.text.specs.FeedingLaws.{Going}
use Rattle.text.proofs.answer_lines.Given as goal

abbrev pub invariant-loop : goal.invariant-loop
invariant-loop l = Going l.text l.fn.words l.fn.out l.left l.words l.out l.written (l.end - l.counter)
