use borrow.Author.Tests.{lt-ltb, le-ltb}
use Rattle.endings.specs.Laws.{met_if, met_else}
use Rattle.definitions.specs.Lines.{total_32}
use Rattle.walk.proofs.total.total_32.Goals as goal

pub returns-then-words-at : goal.returns-then-words-at
unfolding total_32
returns-then-words-at c = met_if _ (lt-ltb _ _ c.if-words-at.true) (record { answers = c.go_to_place.ensures.0; leaves = c.go_to_place.ensures.1 })

pub returns : goal.returns
unfolding total_32
returns c = met_else _ (le-ltb _ _ c.if-words-at.false) (record { answers = c.go_on.ensures.0; leaves = c.go_on.ensures.1 })
