-- Damage, word by word: a word that the call uses is outside its range.
use Rattle.std.specs.Prelude.{ℕ, ◌+◌, ◌*◌, ◌-◌, Bool, false, cond, not, ◌||◌, ◌&&◌, List, [], ◌∷◌, ltb, leb, eqb, length}
use Rattle.definitions.specs.declared.PhaseRow.{PhaseRow}
use Rattle.definitions.specs.Cells.{Cells, workers, items_limit, nodes_limit, projects, counter_limit, counter, items, used, given_back, phase, steps, item, old, new, handle, project, noted, node, new_node, seen, sum_low, sum_high, head, birth, value, older, stamp, needed, cells_of}
use Rattle.definitions.specs.Phases.{row_of, v_read_operation, v_cas_operation, take_snapshot_operation, read_snapshot_operation}

-- The stamp of a node that is still to be decided.
abbrev pub TBD : ℕ
TBD = 4294967295

-- One of the tests holds.
abbrev pub any_from : Bool → List Bool → Bool
any_from a [] = a
any_from a (t ∷ ts) = any_from (a || t) ts

abbrev pub any_of : List Bool → Bool
any_of [] = false
any_of (t ∷ ts) = any_from t ts

abbrev pub outside : ℕ → ℕ → ℕ → Bool
outside low high x = ltb x low || ltb high x

-- Document 01's ranges of P, M, N, Q and C.
abbrev pub sizes_outside : (p m n q c : ℕ) → List Bool
sizes_outside p m n q c = outside 1 64 p ∷ outside 1 256 m ∷ outside 1 4096 n ∷ outside 1 256 q ∷ outside 1 4294967294 c ∷ []

-- The header of lent words that are so many: sizes and limits, what stands within them, and fewer lent words than are needed.
abbrev pub header_tests : (count p m n q c now held taken back : ℕ) → List Bool
header_tests count p m n q c now held taken back =
    any_of (sizes_outside p m n q c) ∷ ltb c now ∷ ltb m held ∷ ltb n taken ∷ ltb taken back ∷ ltb count (needed p m n) ∷ []

unfoldable pub header_damaged_at : (count p m n q c now held taken back : ℕ) → Bool
header_damaged_at count p m n q c now held taken back = any_of (header_tests count p m n q c now held taken back)

abbrev pub header_damaged : List ℕ → Bool
header_damaged ws =
    let m = cells_of ws in
    header_damaged_at (length ws) (m workers) (m items_limit) (m nodes_limit) (m projects) (m counter_limit) (m counter) (m items) (m used) (m given_back)

-- A value, a node number, a counter value, a stamp and a handle that are out of range. TBD is a stamp, and no counter value.
abbrev pub bad_value : Cells → ℕ → Bool
bad_value m v = leb (m projects) v

abbrev pub bad_node : Cells → ℕ → Bool
bad_node m n = leb (m used) n

abbrev pub bad_time : Cells → ℕ → Bool
bad_time m t = ltb (m counter) t

abbrev pub bad_stamp : Cells → ℕ → Bool
bad_stamp m t = bad_time m t && not (eqb t TBD)

abbrev pub bad_handle : Cells → ℕ → Bool
bad_handle m h = leb (m counter) h

abbrev pub bad_item : Cells → ℕ → Bool
bad_item m i = leb (m items) i

-- An operation is inside an item at each phase but a takeSnapshot's and a total's closing one.
abbrev pub inside_item : PhaseRow → Bool
inside_item r = not (eqb r.operation take_snapshot_operation) && not (eqb r.line 0)

abbrev pub sum : Cells → ℕ → ℕ
sum m w = m (sum_high w) * 4294967296 + m (sum_low w)

-- A total's arguments: its project and handle, the number of items noted, its place, and the running sum.
abbrev pub total_tests : PhaseRow → Cells → ℕ → List Bool
total_tests r m w =
    bad_value m (m (project w)) ∷ bad_handle m (m (handle w)) ∷ ltb (m items) (m (noted w)) ∷ ltb (m (noted w)) (m (item w))
    ∷ (inside_item r && leb (m (noted w)) (m (item w))) ∷ ltb 1099511627776 (sum m w) ∷ []

-- The arguments of its operation, which a running record uses at each of its phases.
unfoldable pub arguments_damaged : PhaseRow → Cells → ℕ → Bool
arguments_damaged r m w =
    cond (eqb r.operation v_read_operation) (bad_item m (m (item w)))
    (cond (eqb r.operation v_cas_operation) (any_of (bad_item m (m (item w)) ∷ bad_value m (m (old w)) ∷ bad_value m (m (new w)) ∷ []))
    (cond (eqb r.operation take_snapshot_operation) false
    (cond (eqb r.operation read_snapshot_operation) (any_of (bad_item m (m (item w)) ∷ bad_handle m (m (handle w)) ∷ []))
    (any_of (total_tests r m w)))))

-- What its lines keep, where it is still read: the node from the line that fetched it to 39, 43, 46 and 34, the new node at 46 and 50,
-- and the number read at 21 at line 22.
abbrev pub keeps_node : PhaseRow → Bool
keeps_node r =
    any_of (eqb r.line 20 ∷ eqb r.line 21 ∷ eqb r.line 22 ∷ eqb r.line 34 ∷ eqb r.line 39 ∷ eqb r.line 43 ∷ eqb r.line 45 ∷ eqb r.line 46 ∷ [])

abbrev pub keeps_new_node : PhaseRow → Bool
keeps_new_node r = eqb r.line 46 || eqb r.line 50

abbrev pub kept_tests : PhaseRow → Cells → ℕ → List Bool
kept_tests r m w =
    (keeps_node r && bad_node m (m (node w))) ∷ (keeps_new_node r && bad_node m (m (new_node w)))
    ∷ (eqb r.line 22 && bad_time m (m (seen w))) ∷ []

unfoldable pub kept_damaged : PhaseRow → Cells → ℕ → Bool
kept_damaged r m w = any_of (kept_tests r m w)

-- A running record, at the table's entry for its phase.
unfoldable pub running_damaged : PhaseRow → Cells → ℕ → Bool
running_damaged r m w = arguments_damaged r m w || kept_damaged r m w

-- A worker's record: a phase that is known, and nothing else where it is idle.
abbrev pub worker_damaged : Cells → ℕ → Bool
worker_damaged m w = ltb 35 (m (phase w)) || (not (eqb (m (phase w)) 0) && running_damaged (row_of (m (phase w))) m w)

-- Two tests more, of a running record before a step and of no start: a step count below 5,121, and the number read at 5 below C when 6 runs.
abbrev pub too_many_steps : Cells → ℕ → Bool
too_many_steps m w = ltb 5120 (m (steps w))

abbrev pub beyond_at_6 : PhaseRow → Cells → ℕ → Bool
beyond_at_6 r m w = eqb r.line 6 && leb (m counter_limit) (m (seen w))

abbrev pub before_step : PhaseRow → Cells → ℕ → Bool
before_step r m w = too_many_steps m w || beyond_at_6 r m w

abbrev pub step_damaged : Cells → ℕ → Bool
step_damaged m w = not (eqb (m (phase w)) 0) && before_step (row_of (m (phase w))) m w

-- An item's record: a birth stamp, too, is at most the counter or TBD.
abbrev pub item_damaged : Cells → ℕ → Bool
item_damaged m i = bad_node m (m (head i)) || bad_stamp m (m (birth i))

-- A node's words. The older node is a number plus one, or 0.
abbrev pub value_damaged : Cells → ℕ → Bool
value_damaged m n = bad_value m (m (value n))

abbrev pub older_damaged : Cells → ℕ → Bool
older_damaged m n = ltb (m used) (m (older n))

abbrev pub stamp_damaged : Cells → ℕ → Bool
stamp_damaged m n = bad_stamp m (m (stamp n))

abbrev pub node_damaged : Cells → ℕ → Bool
node_damaged m n = (value_damaged m n || older_damaged m n) || stamp_damaged m n

-- The first node given back, where one waits: register, 45 and 50 use it, and an abandon that gives a node back.
abbrev pub first_damaged : Cells → Bool
first_damaged m = not (eqb (m given_back) 0) && node_damaged m (m given_back - 1)
