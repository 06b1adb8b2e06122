use Rattle.definitions.specs.Lines.{line_48}
use Rattle.change.proofs.line_48.Goals as goal

pub returns : goal.returns
unfolding line_48
returns c = record { answers = c.finish.ensures.0; leaves = c.finish.ensures.1 }
