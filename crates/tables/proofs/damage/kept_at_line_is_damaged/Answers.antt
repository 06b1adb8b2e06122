use Rattle.std.proofs.Common.{false}
use Rattle.definitions.specs.Cells.{cells_at}
use Rattle.definitions.specs.Phases.{row}
use Rattle.tables.specs.Ranges.{kept_is}
use Rattle.tables.proofs.damage.kept_at_line_is_damaged.Goals as goal

pub returns : goal.returns
returns c = λ a b. rw (c.kept_is_damaged.ensures a b) (kept_is (row 0 c.args.line false) (cells_at a b c.args.words.now) c.args.w)
