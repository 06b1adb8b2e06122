use Rattle.std.proofs.Common.{◌≡◌, ℕ, ◌+◌, ◌-◌, ◌/◌, List, length, ap, sym, subst, ◌∙◌, arith}
use Rattle.std.proofs.lemmas.List.Edits.{sets}
use Rattle.frames.specs.Frames.{frame}
use Rattle.frames.specs.AnswerLines.{answer_length, answer_line}
use Rattle.text.specs.Replies.{replied}
use Rattle.text.specs.FeedingLaws.{Going, going_on, no_room_left, no_line_left}
use Rattle.text.proofs.answer_lines.Goals as goal
use Rattle.text.proofs.answer_lines.Goals.{else-loop-test, then-loop-test+in_default}

pub loop-preserved : goal.loop-preserved
loop-preserved c =
    let t = c.loop.left.now in
    let room = length c.args.out.now / answer_length - c.loop.counter in
    let less : room - 1 ≡ length c.args.out.now / answer_length - (c.loop.counter + 1) = omega arith in
    let line = c.in-Some.ensures.1 in
    subst (λ (r : ℕ). Going c.args.text.now c.args.words.now c.args.out.now c.in-Some.rest.now c.answer_one.new.words c.answer_one.new.out (c.loop.written + answer_length) r) less
    (subst (λ (l : List ℕ). Going c.args.text.now c.args.words.now c.args.out.now l c.answer_one.new.words c.answer_one.new.out (c.loop.written + answer_length) (room - 1)) (sym c.in-Some.ensures.2)
    (going_on c.args.text.now c.args.words.now c.args.out.now t c.loop.words c.loop.out c.loop.written room c.answer_one.new.words c.answer_one.new.out
    c.loop.invariant (omega arith) c.in-Some.ensures.0
    (c.answer_one.ensures.0 ∙ ap (λ (l : List ℕ). sets c.loop.out c.loop.written (answer_line (replied c.loop.words (frame l)).answer)) line)
    (c.answer_one.ensures.1 ∙ ap (λ (l : List ℕ). (replied c.loop.words (frame l)).words) line)
    c.answer_one.auto.words))

pub returns : goal.returns
returns c =
    elim c.loop-test.branch [
      | else-loop-test w ↦ no_room_left _ _ _ _ _ _ _ _ c.loop.invariant (omega arith)
      | then-loop-test+in_default w ↦ no_line_left _ _ _ _ _ _ _ _ c.loop.invariant w.in_default.ensures
    ]
