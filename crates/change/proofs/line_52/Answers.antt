use Rattle.definitions.specs.Lines.{line_52}
use Rattle.change.proofs.line_52.Goals as goal

pub returns : goal.returns
unfolding line_52
returns c = record { answers = c.finish.ensures.0; leaves = c.finish.ensures.1 }
