use Rattle.definitions.specs.Damage.{header_damaged_at}
use Rattle.tables.proofs.damage.header_beyond.Goals as goal

pub returns : goal.returns
unfolding header_damaged_at
returns c = rw (c.words_needed.ensures, c.sizes_beyond.ensures)
