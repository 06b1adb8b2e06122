-- What is not in use is zero. In every history:
--   each worker below P whose phase is 0 has a record of sixteen zeros;
--   the header's words 9 to 15, words 13 to 15 of each worker and word 3 of each item are zero;
--   each item's record from number items on, and each node's from number used on, is zero.
-- Every exported call leaves the words as `outcome` says. So this rules out, among others, a program whose end of an operation sets the phase to 0
-- and leaves `seen` in the record; one whose start writes the arguments and then refuses, the worker still idle; one whose register is refused 11
-- after it wrote the item's size; and one whose line 45 writes the node numbered used and does not count it.
use Rattle.std.specs.Prelude.{ℕ, ◌+◌, ◌*◌, ◌<◌, ◌≤◌, List, ◌≡◌, length, get_or}
use Rattle.definitions.specs.Cells.{node_words}

-- ---- the statement

-- Word k is one of the lent words, and zero.
abbrev pub ZeroAt : List ℕ → ℕ → Type 0
ZeroAt ws k = (k < length ws) × (get_or ws k 0 ≡ 0)

-- Of words that hold a catalogue of p workers, at most m items and n nodes. Word 6 is the number of items, word 7 that of nodes ever used;
-- a worker's word 0 is its phase.
pub record UnusedZero (p m n : ℕ) (ws : List ℕ) : Type 0 where
  pub idle_worker : (w : ℕ) → w < p → get_or ws (16 + 16 * w) 0 ≡ 0 → (k : ℕ) → k < 16 → ZeroAt ws (16 + 16 * w + k)
  pub header_unused : (k : ℕ) → 9 ≤ k → k < 16 → ZeroAt ws k
  pub worker_unused : (w : ℕ) → w < p → (k : ℕ) → 13 ≤ k → k < 16 → ZeroAt ws (16 + 16 * w + k)
  pub item_unused : (i : ℕ) → i < m → ZeroAt ws (16 + 16 * p + 4 * i + 3)
  pub later_items : (i : ℕ) → get_or ws 6 0 ≤ i → i < m → (k : ℕ) → k < 4 → ZeroAt ws (16 + 16 * p + 4 * i + k)
  pub later_nodes : (y : ℕ) → get_or ws 7 0 ≤ y → y < n → (k : ℕ) → k < node_words → ZeroAt ws (16 + 16 * p + 4 * m + (node_words * y + k))
