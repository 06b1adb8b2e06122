use Rattle.std.specs.Prelude.{Bool, false, ℕ}
use Rattle.std.proofs.Common.{ap}
use Rattle.std.proofs.Math.ListN.{get_or-map}
use Rattle.definitions.specs.declared.PhaseRow.{PhaseRow}
use Rattle.definitions.specs.Phases.{table, row, row_of}
use Rattle.tables.proofs.phases.row_at.Goals as goal

-- A row of the definitions' table as the code's table has it, and back.
abbrev as_entry : PhaseRow → ℕ × ℕ × Bool
as_entry r = (r.operation, r.line, r.may_answer)

abbrev as_row : ℕ × ℕ × Bool → PhaseRow
as_row e = row e.0 e.1 e.2

pub returns : goal.returns
unfolding table row_of
returns c = ap as_row (get_or-map as_entry table c.args.phase (row 0 0 false))
