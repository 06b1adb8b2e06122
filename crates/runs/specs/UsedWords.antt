-- Document 01's paragraph **Damaged**, said from the other side: the ranges, and the words that each call, document 02's abandon among them, and each phase
-- uses. Only the cells' names are taken from the definitions, none of their tests (Damage, Lines). RefusalsInOrder puts it into the order of refusals, and DamagedExactly proves that every answer
-- follows it, on any words. So a test could be left out of the definitions only with its word here, where a reader sees it missing.
use Rattle.std.specs.Prelude.{ℕ, zero, suc, ◌+◌, ◌*◌, ◌≤◌, ◌<◌, cond, List, [], ◌∷◌, ◌++◌, ◌⊎◌, ◌≡◌, ltb, leb, get_or}
use Rattle.definitions.specs.Cells.{
  Cells,
  workers,
  items_limit,
  nodes_limit,
  projects,
  counter_limit,
  counter,
  items,
  used,
  given_back,
  phase,
  steps,
  item,
  old,
  new,
  handle,
  project,
  noted,
  node,
  new_node,
  seen,
  sum_low,
  sum_high,
  head,
  birth,
  value,
  older,
  stamp,
}

-- ---- ranges

-- `_to_` has both its ends. TBD is 4,294,967,295.
infix 69 ◌to◌
pub data Range : Type 0 where
  ◌to◌ : (low high : ℕ) → Range
  below : ℕ → Range
  at_most : ℕ → Range
  at_most_or_TBD : ℕ → Range

abbrev pub Within : Range → ℕ → Type 0
Within (low to high) x = (low ≤ x) × (x ≤ high)
Within (below n) x = x < n
Within (at_most n) x = x ≤ n
Within (at_most_or_TBD n) x = (x ≤ n) ⊎ (x ≡ 4294967295)

-- A word in use: the number that it holds, and its range.
infix 68 ◌∈◌
pub data Use : Type 0 where
  ◌∈◌ : ℕ → Range → Use

-- One of the words is outside its range.
abbrev pub Outside : List Use → Type 0
Outside [] = ⊥
Outside (x ∈ r ∷ us) = (Within r x → ⊥) ⊎ Outside us

-- A row of the table of phases: its operation and line; the words of the worker's record that every call uses, and those that a step uses besides; and the
-- words of the operation's item and of nodes that a step uses, and those of nodes that an abandon uses.
pub record Row : Type 0 where
  pub operation : ℕ
  pub line : ℕ
  pub in_record : List Use
  pub before_a_step : List Use
  pub item_words : List Use
  pub node_words : List Use
  pub when_abandoned : List Use

-- ---- header, items and nodes, where the cells hold m

-- header sizes and limits
abbrev pub sizes : (p m n q c : ℕ) → List Use
sizes p m n q c = p ∈ 1 to 64 ∷ m ∈ 1 to 256 ∷ n ∈ 1 to 4096 ∷ q ∈ 1 to 256 ∷ c ∈ 1 to 4294967294 ∷ []

module _ (m : Cells) where
  -- values below Q; an item below items; a handle below the counter; stamps at most the counter or TBD; node numbers below the nodes ever used, that is at
  -- most them where a word holds the number plus one, and 0 for none. Ruled out: a birth stamp of TBD as damage; a head equal to the nodes ever used let pass
  abbrev pub value_range : Range
  value_range = below (m projects)

  abbrev pub item_range : Range
  item_range = below (m items)

  abbrev pub handle_range : Range
  handle_range = below (m counter)

  abbrev pub stamp_range : Range
  stamp_range = at_most_or_TBD (m counter)

  abbrev pub node_range : Range
  node_range = below (m used)

  abbrev pub link_range : Range
  link_range = at_most (m used)

  -- counter at most C; items at most M; nodes ever used at most N
  abbrev pub within_limits : List Use
  within_limits =
      m counter ∈ at_most (m counter_limit) ∷ m items ∈ at_most (m items_limit) ∷ m used ∈ at_most (m nodes_limit) ∷ m given_back ∈ link_range ∷ []

  abbrev pub header_words : List Use
  header_words = sizes (m workers) (m items_limit) (m nodes_limit) (m projects) (m counter_limit) ++ within_limits

  -- item i; its size is any number
  abbrev pub words_of_item : ℕ → List Use
  words_of_item i = m (head i) ∈ node_range ∷ m (birth i) ∈ stamp_range ∷ []

  -- node n; the first node given back, if one waits; and the node that line 45 takes: that one, else the lowest never used, none if all N were used
  abbrev pub words_of_node : ℕ → List Use
  words_of_node n = m (value n) ∈ value_range ∷ m (older n) ∈ link_range ∷ m (stamp n) ∈ stamp_range ∷ []

  abbrev pub first_given_back : (number_plus_one : ℕ) → List Use
  first_given_back zero = []
  first_given_back (suc n) = words_of_node n

  abbrev pub node_taken : (number_plus_one : ℕ) → List Use
  node_taken zero = cond (leb (m nodes_limit) (m used)) [] (words_of_node (m used))
  node_taken (suc n) = words_of_node n

  -- ---- worker w

  module _ (w : ℕ) where
    -- what its lines keep: the node; with it the new node of 45, or the number read at 21, at most the counter; or the new node alone
    abbrev pub the_node : List Use
    the_node = m (node w) ∈ node_range ∷ []

    abbrev pub both_nodes : List Use
    both_nodes = m (node w) ∈ node_range ∷ m (new_node w) ∈ node_range ∷ []

    abbrev pub read_at_21 : List Use
    read_at_21 = m (node w) ∈ node_range ∷ m (seen w) ∈ at_most (m counter) ∷ []

    abbrev pub the_new_node : List Use
    the_new_node = m (new_node w) ∈ node_range ∷ []

    -- the node words of its lines: a stamp; a value; what 34 tests: no TBD is met, and where the stamp is above the handle an older node is there; and the
    -- link that 50 writes, with the first node given back
    abbrev pub its_stamp : List Use
    its_stamp = m (stamp (m (node w))) ∈ stamp_range ∷ []

    abbrev pub its_value : List Use
    its_value = m (value (m (node w))) ∈ value_range ∷ []

    abbrev pub tested : List Use
    tested =
        m (stamp (m (node w))) ∈ at_most (m counter)
        ∷ cond (ltb (m (handle w)) (m (stamp (m (node w))))) (m (older (m (node w))) ∈ 1 to m used ∷ []) its_value

    abbrev pub given_back_at_50 : List Use
    given_back_at_50 = m (older (m (new_node w))) ∈ link_range ∷ first_given_back (m given_back)

    -- a step count below 5,121 before a step; and a phase inside an item, which its step uses, or outside
    abbrev pub step_count : List Use
    step_count = m (steps w) ∈ below 5121 ∷ []

    abbrev pub inside : (operation line : ℕ) (arguments kept node_words : List Use) → Row
    inside o l us ks ns =
        record {
          operation = o;
          line = l;
          in_record = us ++ ks;
          before_a_step = step_count;
          item_words = words_of_item (m (item w));
          node_words = ns;
          when_abandoned = [];
        }

    abbrev pub outside_items : (operation line : ℕ) (in_record before_a_step : List Use) → Row
    outside_items o l us bs = record { operation = o; line = l; in_record = us; before_a_step = bs; item_words = []; node_words = []; when_abandoned = [] }

    -- a node taken at 45 is held, and goes back as line 50 returns it where its worker is abandoned
    abbrev pub holding : Row → Row
    holding u =
        record {
          operation = u.operation;
          line = u.line;
          in_record = u.in_record;
          before_a_step = u.before_a_step;
          item_words = u.item_words;
          node_words = u.node_words;
          when_abandoned = given_back_at_50;
        }

    -- an operation's arguments, at each of its phases
    abbrev pub v_read : (line : ℕ) (kept node_words : List Use) → Row
    v_read l = inside 1 l (m (item w) ∈ item_range ∷ [])

    abbrev pub v_cas : (line : ℕ) (kept node_words : List Use) → Row
    v_cas l = inside 2 l (m (item w) ∈ item_range ∷ m (old w) ∈ value_range ∷ m (new w) ∈ value_range ∷ [])

    abbrev pub read_snapshot : (line : ℕ) (kept node_words : List Use) → Row
    read_snapshot l = inside 4 l (m (item w) ∈ item_range ∷ m (handle w) ∈ handle_range ∷ [])

    -- a total's noted number at most items and its place at most that, below it inside an item; a running sum at most 2^40
    abbrev pub total_arguments : (place : Range) → List Use
    total_arguments place =
        m (project w) ∈ value_range ∷ m (handle w) ∈ handle_range ∷ m (noted w) ∈ at_most (m items) ∷ m (item w) ∈ place
        ∷ (m (sum_high w) * 4294967296 + m (sum_low w)) ∈ at_most 1099511627776 ∷ []

    abbrev pub total : (line : ℕ) (kept node_words : List Use) → Row
    total l = inside 5 l (total_arguments (below (m (noted w))))

    -- The 36 phases: line, kept words, node words. Ruled out: a readSnapshot's handle not tested while it runs; the first node given back not tested at 50
    unfoldable pub rows : List Row
    rows =
        outside_items 0 0 [] []  -- 0, idle
        ∷ v_read 37 [] []  -- 1
        ∷ v_read 20 the_node its_stamp  -- 2
        ∷ v_read 21 the_node []  -- 3
        ∷ v_read 22 read_at_21 its_stamp  -- 4
        ∷ v_read 39 the_node its_value  -- 5
        ∷ v_cas 41 [] []  -- 6
        ∷ v_cas 20 the_node its_stamp  -- 7
        ∷ v_cas 21 the_node []  -- 8
        ∷ v_cas 22 read_at_21 its_stamp  -- 9
        ∷ v_cas 43 the_node its_value  -- 10
        ∷ v_cas 45 the_node (node_taken (m given_back))  -- 11
        ∷ holding (v_cas 46 both_nodes [])  -- 12
        ∷ v_cas 20 the_node its_stamp  -- 13
        ∷ v_cas 21 the_node []  -- 14
        ∷ v_cas 22 read_at_21 its_stamp  -- 15
        ∷ v_cas 48 [] []  -- 16
        ∷ holding (v_cas 50 the_new_node given_back_at_50)  -- 17
        ∷ v_cas 51 [] []  -- 18
        ∷ v_cas 20 the_node its_stamp  -- 19
        ∷ v_cas 21 the_node []  -- 20
        ∷ v_cas 22 read_at_21 its_stamp  -- 21
        ∷ v_cas 52 [] []  -- 22
        ∷ outside_items 3 5 [] step_count  -- 23, takeSnapshot
        ∷ outside_items 3 6 [] (step_count ++ (m (seen w) ∈ below (m counter_limit) ∷ []))  -- 24: the number read at 5 below C when 6 runs
        ∷ read_snapshot 32 [] []  -- 25
        ∷ read_snapshot 20 the_node its_stamp  -- 26
        ∷ read_snapshot 21 the_node []  -- 27
        ∷ read_snapshot 22 read_at_21 its_stamp  -- 28
        ∷ read_snapshot 34 the_node tested  -- 29
        ∷ total 32 [] []  -- 30
        ∷ total 20 the_node its_stamp  -- 31
        ∷ total 21 the_node []  -- 32
        ∷ total 22 read_at_21 its_stamp  -- 33
        ∷ total 34 the_node tested  -- 34
        ∷ outside_items 5 0 (total_arguments (at_most (m (noted w)))) step_count  -- 35, a total's closing step
        ∷ []

    -- The row of its phase, and what any call uses of its record: a known phase, and that row's words.
    abbrev pub its_row : Row
    its_row = get_or rows (m (phase w)) (outside_items 0 0 [] [])

    abbrev pub words_of_worker : List Use
    words_of_worker = m (phase w) ∈ at_most 35 ∷ its_row.in_record
