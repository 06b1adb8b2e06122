use Rattle.std.proofs.Common.{eq-eqb, ne_eqb}
use Rattle.endings.specs.Laws.{met_if, met_else}
use Rattle.definitions.specs.Lines.{line_6}
use Rattle.lines.proofs.snapshot.line_6.Goals as goal
use Rattle.lines.proofs.snapshot.line_6.Goals.{then-words-seen, else-words-seen}

pub returns : goal.returns
unfolding line_6
returns c = elim c.if-words-seen.branch [
  | then-words-seen w ↦ met_if _ (eq-eqb _ _ w.if-words-seen.true) (record { answers = c.finish.ensures.0; leaves = rw w.words-is at c.finish.ensures.1 })
  | else-words-seen w ↦ met_else _ (ne_eqb _ _ w.if-words-seen.false) (record { answers = c.finish.ensures.0; leaves = rw w.words-is at c.finish.ensures.1 })
]
