use Rattle.std.proofs.Common.{arith}
use Rattle.frames.specs.AnswerLaws.{small_stored}
use Rattle.frames.proofs.put_value.Goals as goal

pub returns-in-1-to-65535 : goal.returns-in-1-to-65535
returns-in-1-to-65535 c =
    small_stored c.args.out.now _ _ c.args.at c.args.value (omega arith) c.put_digits-in-1-to-65535.ensures c.put_digits-in-1-to-65535-2.ensures
