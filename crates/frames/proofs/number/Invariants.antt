use Rattle.std.proofs.Common.{◌≡◌, true, take}
use Rattle.frames.specs.Frames.{all_digits, number as number_of}
use Rattle.frames.proofs.number.Given as goal

abbrev pub invariant-loop-byte : goal.invariant-loop-byte
invariant-loop-byte l = record {
  right : all_digits (take l.byte-index l.digits) ≡ true;
  spelt : l.number ≡ number_of (take l.byte-index l.digits);
}
