use borrow.Author.Tests.{le-leb, lt-leb}
use Rattle.endings.specs.Laws.{met_if, met_else}
use Rattle.definitions.specs.Lines.{line_5}
use Rattle.lines.proofs.snapshot.line_5.Goals as goal

pub returns-then-words : goal.returns-then-words
unfolding line_5
returns-then-words c = met_if _ (le-leb _ _ c.if-words.true) (record { answers = c.end_with.ensures.0; leaves = c.end_with.ensures.1 })

pub returns : goal.returns
unfolding line_5
returns c = met_else _ (lt-leb _ _ c.if-words.false) (record { answers = c.go_on.ensures.0; leaves = c.go_on.ensures.1 })
