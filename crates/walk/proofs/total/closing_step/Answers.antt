use Rattle.definitions.specs.Lines.{closing}
use Rattle.walk.proofs.total.closing_step.Goals as goal

pub returns : goal.returns
unfolding closing
returns c = rw (← c.sum_of-sum.ensures) (record { answers = c.finish.ensures.0; leaves = c.finish.ensures.1 })
