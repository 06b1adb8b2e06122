-- The fixed table of the machine's phases: for idle and each of 35 phases its operation, its source line and whether it may answer.
use Rattle.std.specs.Prelude.{ℕ, Bool, true, false, List, [], ◌∷◌, get_or}
use Rattle.definitions.specs.declared.PhaseRow.{PhaseRow}

-- The operations; 0 is none.
abbrev pub v_read_operation : ℕ
v_read_operation = 1

abbrev pub v_cas_operation : ℕ
v_cas_operation = 2

abbrev pub take_snapshot_operation : ℕ
take_snapshot_operation = 3

abbrev pub read_snapshot_operation : ℕ
read_snapshot_operation = 4

abbrev pub total_operation : ℕ
total_operation = 5

abbrev pub row : ℕ → ℕ → Bool → PhaseRow
row o l a = record { operation = o; line = l; may_answer = a }

-- Help (lines 20, 21, 22) is three phases in a row, and goes on at the fourth. Line 0 stands for idle and the closing step.
unfoldable pub table : List PhaseRow
table =
    row 0 0 false
    ∷ row 1 37 false ∷ row 1 20 false ∷ row 1 21 false ∷ row 1 22 false ∷ row 1 39 true
    ∷ row 2 41 false ∷ row 2 20 false ∷ row 2 21 false ∷ row 2 22 false ∷ row 2 43 true ∷ row 2 45 false ∷ row 2 46 false
    ∷ row 2 20 false ∷ row 2 21 false ∷ row 2 22 false ∷ row 2 48 true
    ∷ row 2 50 false ∷ row 2 51 false ∷ row 2 20 false ∷ row 2 21 false ∷ row 2 22 false ∷ row 2 52 true
    ∷ row 3 5 false ∷ row 3 6 true
    ∷ row 4 32 false ∷ row 4 20 false ∷ row 4 21 false ∷ row 4 22 false ∷ row 4 34 true
    ∷ row 5 32 false ∷ row 5 20 false ∷ row 5 21 false ∷ row 5 22 false ∷ row 5 34 false ∷ row 5 0 true
    ∷ []

-- The phases at which an operation starts, and those that lines 46 and 34 go to by name.
abbrev pub v_read_start : ℕ
v_read_start = 1

abbrev pub v_cas_start : ℕ
v_cas_start = 6

abbrev pub published : ℕ
published = 13

abbrev pub lost : ℕ
lost = 17

abbrev pub take_snapshot_start : ℕ
take_snapshot_start = 23

abbrev pub read_snapshot_start : ℕ
read_snapshot_start = 25

abbrev pub total_start : ℕ
total_start = 30

abbrev pub closing_phase : ℕ
closing_phase = 35

-- The table's entry at a phase; idle's, past the table's end.
unfoldable pub row_of : ℕ → PhaseRow
row_of p = get_or table p (row 0 0 false)
