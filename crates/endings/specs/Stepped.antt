-- What a line's function promises, and what it may take for granted.
use Rattle.std.specs.Prelude.{ℕ, ◌+◌, ◌*◌, ◌/◌, ◌%◌, ◌<◌, ◌≤◌, ◌≡◌, List, [], ◌∷◌, Bool, cond, not, ◌||◌, ◌&&◌, ltb, leb, eqb, length, get_or, set}
use Rattle.definitions.specs.declared.Answer.{Answer}
use Rattle.definitions.specs.Cells.{node_words, Cells, cells_at, node, older}
use Rattle.definitions.specs.Answers.{Outcome, ◌⇒◌, unless}
use Rattle.definitions.specs.Damage.{any_of}
use Rattle.definitions.specs.Lines.{Line}
use Rattle.definitions.specs.Promises.{Met}
use Rattle.endings.specs.declared.site.Site.{Site}

-- A line with the damage of its node words before it.
abbrev pub stepped : Line → Cells → ℕ → Outcome
stepped l m w = unless (l.damaged m w ⇒ 2 ∷ []) (l.does m w)

-- A step of worker w does this line: the answer, and every word.
abbrev pub Steps : Line → (a b w : ℕ) → List ℕ → Answer → List ℕ → Type 0
Steps l a b w before answer after = Met a b before (stepped l (cells_at a b before) w) answer after

-- The same, of the worker of a site.
abbrev pub StepsAt : Line → Site → List ℕ → Answer → List ℕ → Type 0
StepsAt l s = Steps l s.items_at s.nodes_at s.worker

-- The two words that every line that goes on writes last.
abbrev pub moved_on : List ℕ → (w p n : ℕ) → List ℕ
moved_on ws w p n = set (set ws (16 + 16 * w + 0) p) (16 + 16 * w + 1) n

-- What the damage tests have shown before a line runs: everything has its place, and the step can be counted.
pub record Ready (a b w : ℕ) (ws : List ℕ) : Type 0 where
  pub worker : 16 + 16 * w + 16 ≤ a
  pub items : a + 4 * get_or ws 6 0 ≤ b
  pub nodes : b + node_words * get_or ws 2 0 ≤ length ws
  pub used : get_or ws 7 0 ≤ get_or ws 2 0
  pub given_back : get_or ws 8 0 ≤ get_or ws 7 0
  pub few_nodes : get_or ws 2 0 ≤ 4096
  pub few_items : get_or ws 6 0 ≤ 256
  pub phase : get_or ws (16 + 16 * w + 0) 0 < 36
  pub steps : get_or ws (16 + 16 * w + 1) 0 < 5121

abbrev pub ReadyAt : Site → List ℕ → Type 0
ReadyAt s = Ready s.items_at s.nodes_at s.worker

-- Its record's item is registered; its node and its new node were used.
abbrev pub InItem : ℕ → List ℕ → Type 0
InItem w ws = get_or ws (16 + 16 * w + 2) 0 < get_or ws 6 0

abbrev pub HasNode : ℕ → List ℕ → Type 0
HasNode w ws = get_or ws (16 + 16 * w + 8) 0 < get_or ws 7 0

abbrev pub HasNewNode : ℕ → List ℕ → Type 0
HasNewNode w ws = get_or ws (16 + 16 * w + 9) 0 < get_or ws 7 0

abbrev pub HasOlder : (a b w : ℕ) → List ℕ → Type 0
HasOlder a b w ws = 0 < cells_at a b ws (older (cells_at a b ws (node w)))

-- A total's sum leaves room for one more item.
abbrev pub SmallSum : ℕ → List ℕ → Type 0
SmallSum w ws = get_or ws (16 + 16 * w + 12) 0 * 4294967296 + get_or ws (16 + 16 * w + 11) 0 ≤ 1099511627776

-- The sum of worker w with its item's size, where the value is its project; and the words once it is stored.
abbrev pub sum_with_item : (a w v : ℕ) → List ℕ → ℕ
sum_with_item a w v ws =
    get_or ws (16 + 16 * w + 12) 0 * 4294967296 + get_or ws (16 + 16 * w + 11) 0
    + cond (eqb v (get_or ws (16 + 16 * w + 6) 0)) (get_or ws (a + 4 * get_or ws (16 + 16 * w + 2) 0 + 2) 0) 0

abbrev pub item_added : (a w v n : ℕ) → List ℕ → List ℕ
item_added a w v n ws =
    let s = sum_with_item a w v ws in
    let next = get_or ws (16 + 16 * w + 2) 0 + 1 in
    moved_on
    (set (set (set ws (16 + 16 * w + 2) next) (16 + 16 * w + 11) (s % 4294967296)) (16 + 16 * w + 12) (s / 4294967296))
    w (cond (eqb next (get_or ws (16 + 16 * w + 7) 0)) 35 30) (n + 1)

-- A node can be taken: what is given back was used, or a node was never used.
pub record CanTake (b : ℕ) (ws : List ℕ) : Type 0 where
  pub header : 16 ≤ b
  pub nodes : b + node_words * get_or ws 2 0 ≤ length ws
  pub used : get_or ws 7 0 ≤ get_or ws 2 0
  pub given_back : get_or ws 8 0 ≤ get_or ws 7 0
  pub few_nodes : get_or ws 2 0 ≤ 4096
  pub some : get_or ws 8 0 ≡ 0 → get_or ws 7 0 < get_or ws 2 0

-- The new node of worker w can be given back: it was used, and it and the first node given back have their places.
pub record CanReturn (b w : ℕ) (ws : List ℕ) : Type 0 where
  pub worker : 16 + 16 * w + 16 ≤ b
  pub nodes : b + node_words * get_or ws 2 0 ≤ length ws
  pub used : get_or ws 7 0 ≤ get_or ws 2 0
  pub given_back : get_or ws 8 0 ≤ get_or ws 7 0
  pub few_nodes : get_or ws 2 0 ≤ 4096
  pub new_node : get_or ws (16 + 16 * w + 9) 0 < get_or ws 7 0

-- Line 34's damage, as the node part has it.
abbrev pub node_tested : List ℕ → (n handle projects used counter : ℕ) → Bool
node_tested ns n handle projects used counter =
    any_of (ltb counter (get_or ns (node_words * n + 2) 0)
    ∷ (ltb handle (get_or ns (node_words * n + 2) 0) && (eqb (get_or ns (node_words * n + 1) 0) 0 || ltb used (get_or ns (node_words * n + 1) 0)))
    ∷ (not (ltb handle (get_or ns (node_words * n + 2) 0)) && leb projects (get_or ns (node_words * n + 0) 0))
    ∷ [])
