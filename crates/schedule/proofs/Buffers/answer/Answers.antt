use Rattle.std.proofs.Common.{length-take, take-add, arith}
use Rattle.text.specs.PieceLaws.{written_fits}
use Rattle.schedule.specs.Turns.{piece_of}
use Rattle.schedule.proofs.Buffers.answer.Goals as goal

pub shared_ref_as_front-write_answers : goal.shared_ref_as_front-write_answers
shared_ref_as_front-write_answers g c =
    let fits = written_fits _ _ _ _ _ _ _ c.answer_piece-kept.ensures (simp length-take (omega (arith, c.requires))) in
    omega arith

pub returns : goal.returns
returns g c = record {
  written = c.answer_piece-kept.result.written;
  piece = piece_of _ _ _ _ _ _ _ _ (take-add c.args.self.now.held c.args.count c.args.self.now.bytes) c.answer_piece-kept.ensures;
  appends = c.write_answers.ensures.appends;
  failed = c.write_answers.ensures.failed;
}
