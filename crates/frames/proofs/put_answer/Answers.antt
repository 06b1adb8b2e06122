use Rattle.std.proofs.Common.{◌∙◌, ap, ℕ, ◌+◌}
use Rattle.std.proofs.lemmas.List.Edits.{sets}
use Rattle.frames.specs.AnswerLines.{hex}
use Rattle.frames.specs.AnswerLaws.{answer_stored}
use Rattle.frames.proofs.put_answer.Goals as goal

pub returns : goal.returns
returns c =
    answer_stored c.args.out.now _ _ _ c.args.at c.args.answer
    (c.put_digits.ensures ∙ ap (λ (n : ℕ). sets c.args.out.now c.args.at (hex 2 n)) c.from.ensures)
    c.put_value.ensures
    (c.put_digits-2.ensures ∙ ap (λ (n : ℕ). sets c.put_value.new.out (c.args.at + 18) (hex 4 n)) c.from-2.ensures)
