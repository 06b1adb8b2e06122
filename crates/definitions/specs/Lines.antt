-- Algorithm 1, line by line, as document 01 steps it: what a step of worker w answers and writes, given what the cells hold.
use Rattle.std.specs.Prelude.{ℕ, ◌+◌, ◌-◌, ◌/◌, ◌%◌, Bool, false, cond, not, ◌||◌, ◌&&◌, List, [], ◌∷◌, ◌++◌, ltb, leb, eqb, get_or}
use Rattle.definitions.specs.Cells.{Cells, Assignment, ◌≔◌, nodes_limit, counter_limit, counter, used, given_back, phase, item, old, new, handle, project, noted, node, new_node, seen, sum_low, sum_high, head, birth, size, value, older, stamp}
use Rattle.definitions.specs.Answers.{Outcome, refused, goes_on, answers, ends_with}
use Rattle.definitions.specs.Phases.{published, lost, total_start, closing_phase}
use Rattle.definitions.specs.Damage.{TBD, any_of, bad_time, value_damaged, older_damaged, stamp_damaged, node_damaged, first_damaged, sum}

-- lines 32, 37, 41 and 51: the item's head is fetched
unfoldable pub fetch_head : Cells → ℕ → Outcome
fetch_head m w = goes_on m w (m (phase w) + 1) (node w ≔ m (head (m (item w))) ∷ [])

-- line 20: if (n->ts == TBD)
unfoldable pub line_20 : Cells → ℕ → Outcome
line_20 m w = goes_on m w (cond (eqb (m (stamp (m (node w)))) TBD) (m (phase w) + 1) (m (phase w) + 3)) []

-- line 21: curTS = S->timestamp
unfoldable pub line_21 : Cells → ℕ → Outcome
line_21 m w = goes_on m w (m (phase w) + 1) (seen w ≔ m counter ∷ [])

-- line 22: CAS(&n->ts, TBD, curTS)
abbrev pub succeeds_22 : Cells → ℕ → Bool
succeeds_22 m w = eqb (m (stamp (m (node w)))) TBD

unfoldable pub line_22 : Cells → ℕ → Outcome
line_22 m w =
    cond (succeeds_22 m w)
    (goes_on m w (m (phase w) + 1) (stamp (m (node w)) ≔ m (seen w) ∷ []))
    (goes_on m w (m (phase w) + 1) [])

-- line 39: return head->val
unfoldable pub line_39 : Cells → ℕ → Outcome
line_39 m w = answers m w (m (value (m (node w)))) []

-- lines 43 and 44: if (head->val != oldV) return false; if (newV == oldV) return true
unfoldable pub line_43 : Cells → ℕ → Outcome
line_43 m w =
    cond (eqb (m (value (m (node w)))) (m (old w)))
    (cond (eqb (m (new w)) (m (old w))) (answers m w 1 []) (goes_on m w (m (phase w) + 1) []))
    (answers m w 0 [])

-- What line 45 and register take: the node most recently given back; if none waits, the lowest never used; none where all were used.
abbrev pub no_node : Cells → Bool
no_node m = eqb (m given_back) 0 && leb (m nodes_limit) (m used)

abbrev pub node_to_take : Cells → ℕ
node_to_take m = cond (eqb (m given_back) 0) (m used) (m given_back - 1)

abbrev pub taking : Cells → List Assignment
taking m = cond (eqb (m given_back) 0) (used ≔ (m used + 1) ∷ []) (given_back ≔ m (older (m given_back - 1)) ∷ [])

-- line 45: newN = new VNode(newV, head)
unfoldable pub line_45 : Cells → ℕ → Outcome
line_45 m w =
    cond (no_node m) (ends_with m w 11)
    (goes_on m w (m (phase w) + 1)
    (taking m
    ++ (value (node_to_take m) ≔ m (new w) ∷ older (node_to_take m) ≔ (m (node w) + 1) ∷ stamp (node_to_take m) ≔ TBD ∷ new_node w ≔ node_to_take m ∷ [])))

-- line 46: CAS(&VHead, head, newN); where it succeeds, the new node is the one to help
abbrev pub succeeds_46 : Cells → ℕ → Bool
succeeds_46 m w = eqb (m (head (m (item w)))) (m (node w))

unfoldable pub line_46 : Cells → ℕ → Outcome
line_46 m w =
    cond (succeeds_46 m w)
    (goes_on m w published (head (m (item w)) ≔ m (new_node w) ∷ node w ≔ m (new_node w) ∷ []))
    (goes_on m w lost [])

-- line 48: return true; line 52: return false
unfoldable pub line_48 : Cells → ℕ → Outcome
line_48 m w = answers m w 1 []

unfoldable pub line_52 : Cells → ℕ → Outcome
line_52 m w = answers m w 0 []

-- line 50: delete newN
abbrev pub returning : Cells → ℕ → List Assignment
returning m w = older (m (new_node w)) ≔ m given_back ∷ given_back ≔ (m (new_node w) + 1) ∷ []

unfoldable pub line_50 : Cells → ℕ → Outcome
line_50 m w = goes_on m w (m (phase w) + 1) (returning m w)

-- line 5: ts = timestamp
abbrev pub counter_full : Cells → Bool
counter_full m = leb (m counter_limit) (m counter)

unfoldable pub line_5 : Cells → ℕ → Outcome
line_5 m w = cond (counter_full m) (ends_with m w 12) (goes_on m w (m (phase w) + 1) (seen w ≔ m counter ∷ []))

-- line 6: CAS(&timestamp, ts, ts + 1); return ts
abbrev pub succeeds_6 : Cells → ℕ → Bool
succeeds_6 m w = eqb (m counter) (m (seen w))

unfoldable pub line_6 : Cells → ℕ → Outcome
line_6 m w =
    cond (succeeds_6 m w)
    (answers m w (m (seen w)) (counter ≔ (m (seen w) + 1) ∷ []))
    (answers m w (m (seen w)) [])

-- line 34: while (node->ts > ts) node = node->nextv; and line 35: return node->val
abbrev pub too_new : Cells → ℕ → Bool
too_new m w = ltb (m (handle w)) (m (stamp (m (node w))))

abbrev pub to_older : Cells → ℕ → Outcome
to_older m w = goes_on m w (m (phase w)) (node w ≔ (m (older (m (node w))) - 1) ∷ [])

unfoldable pub line_34 : Cells → ℕ → Outcome
line_34 m w = cond (too_new m w) (to_older m w) (answers m w (m (value (m (node w)))) [])

-- A total goes on at its next item, or at its closing step.
abbrev pub next_item : Cells → ℕ → List Assignment → Outcome
next_item m w xs = goes_on m w (cond (eqb (m (item w) + 1) (m (noted w))) closing_phase total_start) (item w ≔ (m (item w) + 1) ∷ xs)

-- A total's line 32: an item born after the handle is passed over in one step.
unfoldable pub total_32 : Cells → ℕ → Outcome
total_32 m w =
    cond (ltb (m (handle w)) (m (birth (m (item w))))) (next_item m w [])
    (goes_on m w (m (phase w) + 1) (node w ≔ m (head (m (item w))) ∷ []))

-- A total's line 34: where the value at the handle is its project, the item's size is added.
abbrev pub added : Cells → ℕ → ℕ
added m w = sum m w + cond (eqb (m (value (m (node w)))) (m (project w))) (m (size (m (item w)))) 0

unfoldable pub total_34 : Cells → ℕ → Outcome
total_34 m w =
    cond (too_new m w) (to_older m w)
    (next_item m w (sum_low w ≔ (added m w % 4294967296) ∷ sum_high w ≔ (added m w / 4294967296) ∷ []))

-- A total's closing step.
unfoldable pub closing : Cells → ℕ → Outcome
closing m w = answers m w (sum m w) []

-- A line with its node words: when one of those that it reads or writes is damaged, and what it does.
pub record Line : Type 0 where
  pub damaged : Cells → ℕ → Bool
  pub does : Cells → ℕ → Outcome

abbrev pub no_words : Cells → ℕ → Bool
no_words m w = false

abbrev pub its_stamp : Cells → ℕ → Bool
its_stamp m w = stamp_damaged m (m (node w))

abbrev pub its_value : Cells → ℕ → Bool
its_value m w = value_damaged m (m (node w))

-- line 45 writes the node that it takes, given back or never used
abbrev pub taken_node : Cells → ℕ → Bool
taken_node m w = not (no_node m) && node_damaged m (node_to_take m)

-- line 50 writes the link of the new node, and uses the first node given back
abbrev pub returned_node : Cells → ℕ → Bool
returned_node m w = older_damaged m (m (new_node w)) || first_damaged m

-- line 34 meets no TBD; where it must go on it reads the older node, which must be there, and elsewhere the value
abbrev pub tested_node : Cells → ℕ → Bool
tested_node m w =
    any_of (bad_time m (m (stamp (m (node w))))
    ∷ (too_new m w && (eqb (m (older (m (node w)))) 0 || older_damaged m (m (node w))))
    ∷ (not (too_new m w) && its_value m w)
    ∷ [])

abbrev pub line : (Cells → ℕ → Bool) → (Cells → ℕ → Outcome) → Line
line d f = record { damaged = d; does = f }

-- The phases in order, each with its line. Idle has none: a step of an idle worker is refused before.
abbrev pub fetch : Line
fetch = line no_words fetch_head

abbrev pub help_20 : Line
help_20 = line its_stamp line_20

abbrev pub help_21 : Line
help_21 = line no_words line_21

abbrev pub help_22 : Line
help_22 = line its_stamp line_22

abbrev pub idle : Line
idle = line no_words (λ m w. refused 5)

unfoldable pub lines : List Line
lines =
    idle
    -- vRead
    ∷ fetch ∷ help_20 ∷ help_21 ∷ help_22 ∷ line its_value line_39
    -- vCAS
    ∷ fetch ∷ help_20 ∷ help_21 ∷ help_22 ∷ line its_value line_43 ∷ line taken_node line_45 ∷ line no_words line_46
    ∷ help_20 ∷ help_21 ∷ help_22 ∷ line no_words line_48
    ∷ line returned_node line_50 ∷ fetch ∷ help_20 ∷ help_21 ∷ help_22 ∷ line no_words line_52
    -- takeSnapshot
    ∷ line no_words line_5 ∷ line no_words line_6
    -- readSnapshot
    ∷ fetch ∷ help_20 ∷ help_21 ∷ help_22 ∷ line tested_node line_34
    -- total
    ∷ line no_words total_32 ∷ help_20 ∷ help_21 ∷ help_22 ∷ line tested_node total_34 ∷ line no_words closing
    ∷ []

unfoldable pub line_of_phase : ℕ → Line
line_of_phase p = get_or lines p idle
