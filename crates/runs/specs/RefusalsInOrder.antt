-- Document 01's numbers of refusal, and document 02's of an abandon, in order and on any words, damaged or not: for each call the conditions, each in the
-- words of document 01's table or of UsedWords. DamagedExactly proves that every answer is that of the first condition that holds.
use Rattle.std.specs.Prelude.{ℕ, ◌+◌, ◌*◌, ◌≤◌, ◌<◌, List, [], ◌∷◌, ◌++◌, ◌≢◌, ◌⊎◌, ◌≡◌, length}
use Rattle.definitions.specs.declared.Answer.{Answer}
use Rattle.definitions.specs.Cells.{Cells, workers, items_limit, nodes_limit, projects, counter_limit, counter, items, used, given_back, phase, steps, birth, cells_of}
use Rattle.definitions.specs.Calls.{Call}
use Rattle.runs.specs.UsedWords.{Outside, sizes, header_words, words_of_item, first_given_back, its_row, words_of_worker}

-- A condition of refusal with its number, and the steps that the answer tells: 0, but for an operation that ends with 11 or 12.
pub record Refusal : Type 1 where
  pub applies : Type 0
  pub number : ℕ
  pub steps_told : ℕ

infix 68 ◌⇒◌
abbrev pub ◌⇒◌ : Type 0 → ℕ → Refusal
◌⇒◌ P k = record { applies = P; number = k; steps_told = 0 }

-- Its answer: 16 + the number, and value 0.
abbrev pub refuses : Refusal → Answer
refuses r = record { code = 16 + r.number; value = 0; steps = r.steps_told; stamped = 0; operator = 0 }

-- The answer is that of the first that applies. Where none applies the call is not refused: the code is below 16.
abbrev pub Follows : List Refusal → Answer → Type 0
Follows [] a = a.code < 16
Follows (r ∷ rs) a = (r.applies × (a ≡ refuses r)) ⊎ ((r.applies → ⊥) × Follows rs a)

-- k is the number of the first that applies.
abbrev pub First : ℕ → List Refusal → Type 0
First k [] = ⊥
First k (r ∷ rs) = (r.applies × (k ≡ r.number)) ⊎ ((r.applies → ⊥) × First k rs)

abbrev pub words_needed : (p m n : ℕ) → ℕ
words_needed p m n = 16 + 16 * p + 4 * m + 3 * n

module _ (m : Cells) where
  -- 11: no node waits and all N were used
  abbrev pub NoNode : Type 0
  NoNode = (m given_back ≡ 0) × (m nodes_limit ≤ m used)

  -- 11 at 45 and 12 at 5 end the operation, and the answer tells its steps, that step included. Past a sound header, 'C or more' is C
  abbrev pub ends_with : (number w : ℕ) → Type 0 → Refusal
  ends_with k w P = record { applies = P; number = k; steps_told = m (steps w) + 1 }

  abbrev pub at_line : ℕ → (w : ℕ) → List Refusal
  at_line l w = ends_with 11 w ((l ≡ 45) × NoNode) ∷ ends_with 12 w ((l ≡ 5) × (m counter_limit ≤ m counter)) ∷ []

  abbrev pub item_named : ℕ → List Refusal
  item_named i = (m items ≤ i) ⇒ 6 ∷ Outside (words_of_item m i) ⇒ 2 ∷ []

  module _ (lent : ℕ) where
    abbrev pub header_damage : Refusal
    header_damage = (Outside (header_words m) ⊎ (lent < words_needed (m workers) (m items_limit) (m nodes_limit))) ⇒ 2

    abbrev pub start : ℕ → List Refusal
    start w = header_damage ∷ (m workers ≤ w) ⇒ 3 ∷ Outside (words_of_worker m w) ⇒ 2 ∷ (m (phase w) ≢ 0) ⇒ 4 ∷ []

    -- 'When several apply, header damage comes first and then the order of the table, a worker's damage coming right after 3, an item's after 6, a node's
    -- last.' At 45 a node's damage and 11 never both apply. Ruled out: a start that answers 4 of a busy worker whose record is damaged; a step at a step
    -- count of 5,121
    abbrev pub refusals : Call → List Refusal
    refusals (Call.make p i n q c) = (Outside (sizes p i n q c) ⊎ (lent < words_needed p i n)) ⇒ 1 ∷ []
    refusals (Call.register v s) =
        header_damage ∷ (m projects ≤ v) ⇒ 7 ∷ (m items_limit ≤ m items) ⇒ 10 ∷ NoNode ⇒ 11 ∷ Outside (first_given_back m (m given_back)) ⇒ 2 ∷ []
    refusals (Call.v_read w i) = start w ++ item_named i
    refusals (Call.v_cas w i o n) = start w ++ item_named i ++ (((m projects ≤ o) ⊎ (m projects ≤ n)) ⇒ 7 ∷ [])
    refusals (Call.take_snapshot w) = start w
    refusals (Call.read_snapshot w i h) = start w ++ item_named i ++ ((m counter ≤ h) ⇒ 8 ∷ (h < m (birth i)) ⇒ 9 ∷ [])
    refusals (Call.total w q h) = start w ++ ((m projects ≤ q) ⇒ 7 ∷ (m counter ≤ h) ⇒ 8 ∷ [])
    refusals (Call.step w) =
        header_damage ∷ (m workers ≤ w) ⇒ 3 ∷ Outside (words_of_worker m w) ⇒ 2 ∷ Outside (its_row m w).before_a_step ⇒ 2 ∷ (m (phase w) ≡ 0) ⇒ 5
        ∷ Outside (its_row m w).item_words ⇒ 2 ∷ Outside (its_row m w).node_words ⇒ 2 ∷ at_line (its_row m w).line w
    refusals (Call.abandon w) =
        header_damage ∷ (m workers ≤ w) ⇒ 3 ∷ Outside (words_of_worker m w) ⇒ 2 ∷ (m (phase w) ≡ 0) ⇒ 5 ∷ Outside (its_row m w).when_abandoned ⇒ 2 ∷ []

abbrev pub refusals_of : List ℕ → Call → List Refusal
refusals_of ws = refusals (cells_of ws) (length ws)
