use Rattle.std.proofs.Common.{sym, ◌∙◌, eqb-true, eq-eqb, true≢false}
use Rattle.text.specs.PieceLaws.{last_none, last_one}
use Rattle.text.proofs.answer_last.Goals as goal

pub returns-then-is_empty : goal.returns-then-is_empty
returns-then-is_empty c = last_none _ _ _ (eqb-true _ 0 (sym c.is_empty.ensures ∙ c.if-is_empty.true))

pub returns : goal.returns
returns c = last_one c.args.text.now _ _ _ _ (λ e. true≢false (sym (eq-eqb _ 0 e) ∙ sym c.is_empty.ensures ∙ c.if-is_empty.false)) c.answer_one.ensures.0 c.answer_one.ensures.1
