use Rattle.std.proofs.Common.{arith}
use Rattle.text.specs.PieceLaws.{last_fits}
use Rattle.schedule.proofs.Buffers.finish.Goals as goal

pub shared_ref_as_front-write_answers : goal.shared_ref_as_front-write_answers
shared_ref_as_front-write_answers g c = omega (arith, last_fits _ _ _ _ _ _ c.answer_last-written.ensures)
