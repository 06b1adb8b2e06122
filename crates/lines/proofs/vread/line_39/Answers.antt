use Rattle.endings.specs.Laws.{met_else}
use Rattle.definitions.specs.Lines.{line_39}
use Rattle.lines.proofs.vread.line_39.Goals as goal

pub returns : goal.returns
unfolding line_39
returns c = let value = c.in_ok-value.ensures in
    met_else _ value.0 (rw (← value.1) (record { answers = c.finish.ensures.0; leaves = c.finish.ensures.1 }))
