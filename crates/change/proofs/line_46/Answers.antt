use borrow.Author.Tests.{eq-eqb, ne_eqb}
use Rattle.endings.specs.Laws.{met_if, met_else}
use Rattle.definitions.specs.Lines.{line_46}
use Rattle.change.proofs.line_46.Goals as goal

pub returns-then-words-head_at : goal.returns-then-words-head_at
unfolding line_46
returns-then-words-head_at c = met_if _ (eq-eqb _ _ c.if-words-head_at.true) (record { answers = c.go_on.ensures.0; leaves = c.go_on.ensures.1 })

pub returns : goal.returns
unfolding line_46
returns c = met_else _ (ne_eqb _ _ c.if-words-head_at.false) (record { answers = c.go_on-2.ensures.0; leaves = c.go_on-2.ensures.1 })
