-- The calls of document 01: for any words and any arguments, the answer and every word afterwards.
use Rattle.std.specs.Prelude.{ℕ, ◌+◌, ◌-◌, Bool, cond, not, ◌||◌, ◌&&◌, List, [], ◌∷◌, ◌++◌, ltb, leb, eqb, length, replicate, drop}
use Rattle.definitions.specs.declared.Answer.{Answer}
use Rattle.definitions.specs.Cells.{Cells, Assignment, ◌≔◌, workers, items_limit, counter, items, phase, item, value, older, stamp, head, birth, size, needed, items_offset, nodes_offset, cells_of, written, record_of, cleared}
use Rattle.definitions.specs.Answers.{Outcome, Refusal, ◌⇒◌, refusal, accepted, unless, accepts}
use Rattle.definitions.specs.Phases.{row_of, v_read_start, v_cas_start, take_snapshot_start, read_snapshot_start, total_start, closing_phase}
use Rattle.definitions.specs.Damage.{any_of, sizes_outside, header_damaged, worker_damaged, step_damaged, keeps_new_node, inside_item, item_damaged, first_damaged, bad_value, bad_handle, bad_item}
use Rattle.definitions.specs.Lines.{no_node, node_to_take, taking, returning, returned_node, line_of_phase}

pub data Call : Type 0 where
  make : (p m n q c : ℕ) → Call
  register : (v s : ℕ) → Call
  v_read : (w i : ℕ) → Call
  v_cas : (w i old new : ℕ) → Call
  take_snapshot : (w : ℕ) → Call
  read_snapshot : (w i h : ℕ) → Call
  total : (w q h : ℕ) → Call
  step : (w : ℕ) → Call
  abandon : (w : ℕ) → Call

-- What every start, step and abandon tests first: the worker's number, then its record.
abbrev pub no_worker : Cells → ℕ → Bool
no_worker m w = leb (m workers) w

abbrev pub busy : Cells → ℕ → Bool
busy m w = not (eqb (m (phase w)) 0)

abbrev pub free_worker : Cells → ℕ → List Refusal
free_worker m w = no_worker m w ⇒ 3 ∷ worker_damaged m w ⇒ 2 ∷ busy m w ⇒ 4 ∷ []

abbrev pub sound_item : Cells → ℕ → List Refusal
sound_item m i = bad_item m i ⇒ 6 ∷ item_damaged m i ⇒ 2 ∷ []

-- Register takes a node, stamps it with the present counter, and gives the next item's number. It has no line that uses node words: of the
-- nodes it uses the first one given back, where one waits, and no word of a node never used.
abbrev pub registered : Cells → ℕ → ℕ → Outcome
registered m v s =
    accepts (m items)
    (taking m
    ++ (value (node_to_take m) ≔ v ∷ older (node_to_take m) ≔ 0 ∷ stamp (node_to_take m) ≔ m counter
    ∷ head (m items) ≔ node_to_take m ∷ birth (m items) ≔ m counter ∷ size (m items) ≔ s ∷ items ≔ (m items + 1) ∷ []))

unfoldable pub registering : Cells → ℕ → ℕ → Outcome
registering m v s =
    unless (bad_value m v ⇒ 7 ∷ leb (m items_limit) (m items) ⇒ 10 ∷ no_node m ⇒ 11 ∷ first_damaged m ⇒ 2 ∷ []) (registered m v s)

-- The starts. Each touches the worker's record alone.
unfoldable pub starting_v_read : Cells → ℕ → ℕ → Outcome
starting_v_read m w i = unless (free_worker m w ++ sound_item m i) (accepts 0 (record_of w v_read_start i 0 0 0 0 0))

unfoldable pub starting_v_cas : Cells → ℕ → ℕ → ℕ → ℕ → Outcome
starting_v_cas m w i o n =
    unless (free_worker m w ++ sound_item m i ++ ((bad_value m o || bad_value m n) ⇒ 7 ∷ [])) (accepts 0 (record_of w v_cas_start i o n 0 0 0))

unfoldable pub starting_take_snapshot : Cells → ℕ → Outcome
starting_take_snapshot m w = unless (free_worker m w) (accepts 0 (record_of w take_snapshot_start 0 0 0 0 0 0))

unfoldable pub starting_read_snapshot : Cells → ℕ → ℕ → ℕ → Outcome
starting_read_snapshot m w i h =
    unless (free_worker m w ++ sound_item m i ++ (bad_handle m h ⇒ 8 ∷ ltb h (m (birth i)) ⇒ 9 ∷ [])) (accepts 0 (record_of w read_snapshot_start i 0 0 h 0 0))

-- A total of no items goes to its closing step at once.
unfoldable pub starting_total : Cells → ℕ → ℕ → ℕ → Outcome
starting_total m w q h =
    unless (free_worker m w ++ (bad_value m q ⇒ 7 ∷ bad_handle m h ⇒ 8 ∷ []))
    (accepts 0 (record_of w (cond (eqb (m items) 0) closing_phase total_start) 0 0 0 h q (m items)))

-- A step: the worker, with the two tests that only a step has, its operation's item, the node words of its line, and then the line.
unfoldable pub stepping : Cells → ℕ → Outcome
stepping m w =
    let l = line_of_phase (m (phase w)) in
    unless (no_worker m w ⇒ 3 ∷ worker_damaged m w ⇒ 2 ∷ step_damaged m w ⇒ 2 ∷ eqb (m (phase w)) 0 ⇒ 5
    ∷ (inside_item (row_of (m (phase w))) && item_damaged m (m (item w))) ⇒ 2 ∷ l.damaged m w ⇒ 2 ∷ [])
    (l.does m w)

-- Abandon: the worker's record becomes idle. A node that it took at 45 and has not published, which it holds at 46 and 50, goes back as line 50
-- returns it. Its item is not used.
abbrev pub holds_node : Cells → ℕ → Bool
holds_node m w = keeps_new_node (row_of (m (phase w)))

abbrev pub returned_if_held : Cells → ℕ → List Assignment
returned_if_held m w = cond (holds_node m w) (returning m w) []

unfoldable pub abandoning : Cells → ℕ → Outcome
abandoning m w =
    unless (no_worker m w ⇒ 3 ∷ worker_damaged m w ⇒ 2 ∷ eqb (m (phase w)) 0 ⇒ 5 ∷ (holds_node m w && returned_node m w) ⇒ 2 ∷ [])
    (accepts 0 (returned_if_held m w ++ cleared w))

-- The answer of a call and the words after it.
pub record Result : Type 0 where
  pub answer : Answer
  pub words : List ℕ

-- What an outcome leaves of the words.
abbrev pub leaving : List ℕ → Outcome → Result
leaving ws o = record { answer = o.answer; words = written (items_offset ws) (nodes_offset ws) ws o.writes }

-- A call on a catalogue: a damaged header comes before everything else.
abbrev pub on_catalogue : List ℕ → (Cells → Outcome) → Result
on_catalogue ws f = leaving ws (unless (header_damaged ws ⇒ 2 ∷ []) (f (cells_of ws)))

-- A fresh catalogue: its sizes, and every other needed word zero.
abbrev pub fresh : (p m n q c : ℕ) → List ℕ
fresh p m n q c = p ∷ m ∷ n ∷ q ∷ c ∷ replicate (needed p m n - 5) 0

unfoldable pub making : List ℕ → (p m n q c : ℕ) → Result
making ws p m n q c =
    cond (any_of (sizes_outside p m n q c) || ltb (length ws) (needed p m n))
    (record { answer = refusal 1 0; words = ws })
    (record { answer = accepted 0; words = fresh p m n q c ++ drop (needed p m n) ws })

unfoldable pub outcome : List ℕ → Call → Result
outcome ws (make p m n q c) = making ws p m n q c
outcome ws (register v s) = on_catalogue ws (λ m. registering m v s)
outcome ws (v_read w i) = on_catalogue ws (λ m. starting_v_read m w i)
outcome ws (v_cas w i o n) = on_catalogue ws (λ m. starting_v_cas m w i o n)
outcome ws (take_snapshot w) = on_catalogue ws (λ m. starting_take_snapshot m w)
outcome ws (read_snapshot w i h) = on_catalogue ws (λ m. starting_read_snapshot m w i h)
outcome ws (total w q h) = on_catalogue ws (λ m. starting_total m w q h)
outcome ws (step w) = on_catalogue ws (λ m. stepping m w)
outcome ws (abandon w) = on_catalogue ws (λ m. abandoning m w)
