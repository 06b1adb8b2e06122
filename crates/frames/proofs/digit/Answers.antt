use Rattle.std.proofs.Common.{◌≡◌, ℕ, ◌+◌, ◌%◌, ◌<◌, ◌≤◌, true, false, nat_lt, lt-ltb, le-ltb, arith}
use Rattle.frames.specs.Frames.{digit as digit_of}
use Rattle.frames.specs.FrameLaws.{digit_figure, digit_letter, digit_none}
use Rattle.frames.proofs.digit.Goals as goal

small : (b n : ℕ) → n ≡ digit_of b → n < 16 → nat_lt (digit_of b) 16 ≡ true
small b n e h = lt-ltb (digit_of b) 16 (omega arith)

none : (b : ℕ) → b < 256 → 10 ≤ (b + 208) % 256 → 6 ≤ (b + 159) % 256 → nat_lt (digit_of b) 16 ≡ false
none b h f l = le-ltb (digit_of b) 16 (omega (arith, digit_none b ((b + 208) % 256) ((b + 159) % 256) (omega arith) (omega arith) (omega arith) (omega arith) f l))

pub returns-in-48-to-57 : goal.returns-in-48-to-57
returns-in-48-to-57 c =
    let e = digit_figure c.args.byte c.from.result (omega arith) (omega arith) in (small c.args.byte _ e (omega arith), e)

pub returns-in-97-to-102 : goal.returns-in-97-to-102
returns-in-97-to-102 c =
    let e = digit_letter c.args.byte c.from-in-97-to-102.result (omega arith) (omega arith) in (small c.args.byte _ e (omega arith), e)

pub returns-in_default : goal.returns-in_default
returns-in_default c = none c.args.byte (omega arith) (omega arith) (omega arith)

pub returns-in_default-2 : goal.returns-in_default-2
returns-in_default-2 c = none c.args.byte (omega arith) (omega arith) (omega arith)

pub returns-in_default-3 : goal.returns-in_default-3
returns-in_default-3 c = none c.args.byte (omega arith) (omega arith) (omega arith)
