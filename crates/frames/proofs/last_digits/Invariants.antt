use Rattle.std.proofs.Common.{◌≡◌, ◌++◌, length, drop}
use Rattle.frames.specs.AnswerLines.{hex}
use Rattle.frames.proofs.last_digits.Given as goal

-- the digits before the place k are still to come
abbrev pub invariant-loop-k : goal.invariant-loop-k
invariant-loop-k g l = record {
  long : length l.digits ≡ g.row.DIGITS;
  stored : hex g.row.DIGITS l.number ≡ hex l.k l.left ++ drop l.k l.digits;
}
