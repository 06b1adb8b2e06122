use Rattle.definitions.specs.Lines.{line_21}
use Rattle.help.proofs.line_21.Goals as goal

pub returns : goal.returns
unfolding line_21
returns c = record { answers = c.go_on.ensures.0; leaves = c.go_on.ensures.1 }
