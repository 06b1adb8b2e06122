use Rattle.definitions.specs.Lines.{fetch_head}
use Rattle.help.proofs.fetch_head.Goals as goal

pub returns : goal.returns
unfolding fetch_head
returns c = record { answers = c.go_on.ensures.0; leaves = c.go_on.ensures.1 }
