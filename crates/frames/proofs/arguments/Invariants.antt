use Rattle.std.proofs.Common.{◌≡◌, ℕ, ◌*◌, ◌<◌, true, length, take, drop, slice_index}
use Rattle.frames.specs.Frames.{all_digits, argument}
use Rattle.frames.proofs.arguments.Given as goal

-- the arguments before the k-th are read
abbrev pub invariant-loop-k : goal.invariant-loop-k
invariant-loop-k g l = record {
  long : length l.arguments ≡ g.row.N;
  right : all_digits (take (4 * l.k) (drop 2 l.line)) ≡ true;
  read : (j : ℕ) → j < l.k → slice_index l.arguments j ≡ argument l.line j;
}
