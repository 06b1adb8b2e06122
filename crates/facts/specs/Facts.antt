-- What passed damage tests tell: where everything stands, and what a line may take for granted.
use Rattle.std.specs.Prelude.{ℕ, ◌+◌, ◌*◌, ◌<◌, ◌≤◌, ◌≡◌, Bool, ◌||◌, ◌&&◌, List, [], ◌∷◌, ltb, leb, get_or, length}
use Rattle.std.proofs.Math.Path.{refl, ap, ap₂}
use Rattle.std.proofs.Common.{sym, ◌∙◌}
use Rattle.std.proofs.Math.Bool.{true, false, cond, not}
use Rattle.std.proofs.lemmas.Bool.{false≢true}
use Rattle.std.proofs.Math.Dec.{eqb}
use native.Mathlib.Omega.{arith}
use borrow.Author.Tests.{lt-ltb, le-ltb, ltb-false, leb-false, eq-eqb, ne_eqb, eqb-true}
use Rattle.definitions.specs.declared.Answer.{Answer}
use Rattle.definitions.specs.declared.PhaseRow.{PhaseRow}
use Rattle.definitions.specs.Cells.{node_words, Cells, cells_of, items_offset, nodes_offset, needed, counter_limit, items, used, phase, item, old, new, handle, noted, node, new_node, seen}
use Rattle.definitions.specs.Phases.{row_of}
use Rattle.definitions.specs.Damage.{any_of, outside, sizes_outside, header_tests, header_damaged_at, header_damaged, bad_item, bad_value, bad_handle, bad_node, inside_item, sum, total_tests, arguments_damaged, keeps_node, keeps_new_node, kept_tests, kept_damaged, running_damaged, worker_damaged, too_many_steps, beyond_at_6, before_step, step_damaged, item_damaged}
use Rattle.tables.specs.Ranges.{none_of, some_of, neither}
use Rattle.definitions.specs.Answers.{Outcome, ◌⇒◌, unless, refused}
use Rattle.definitions.specs.Lines.{line_of_phase, no_node}
use Rattle.definitions.specs.Promises.{Met}
use Rattle.endings.specs.Stepped.{Ready, stepped, CanTake}

within : (low high x : ℕ) → outside low high x ≡ false → x ≤ high
within low high x e = ltb-false high x (none_of (ltb x low ∷ ltb high x ∷ []) 1 e)

-- A header that is not damaged.
pub record Header (ws : List ℕ) : Type 0 where
  pub few_workers : get_or ws 0 0 ≤ 64
  pub few_items : get_or ws 1 0 ≤ 256
  pub few_nodes : get_or ws 2 0 ≤ 4096
  pub counter : get_or ws 5 0 ≤ get_or ws 4 0
  pub items : get_or ws 6 0 ≤ get_or ws 1 0
  pub used : get_or ws 7 0 ≤ get_or ws 2 0
  pub given_back : get_or ws 8 0 ≤ get_or ws 7 0
  pub long : 16 + 16 * get_or ws 0 0 + 4 * get_or ws 1 0 + node_words * get_or ws 2 0 ≤ length ws

pub header_sound : (ws : List ℕ) → header_damaged ws ≡ false → Header ws
unfolding header_damaged_at
header_sound ws e =
    let p = get_or ws 0 0 in
    let m = get_or ws 1 0 in
    let n = get_or ws 2 0 in
    let q = get_or ws 3 0 in
    let c = get_or ws 4 0 in
    let tests = header_tests (length ws) p m n q c (get_or ws 5 0) (get_or ws 6 0) (get_or ws 7 0) (get_or ws 8 0) in
    let sizes = none_of (sizes_outside p m n q c) in
    let first = none_of tests 0 e in
    record {
      few_workers = within 1 64 p (sizes 0 first);
      few_items = within 1 256 m (sizes 1 first);
      few_nodes = within 1 4096 n (sizes 2 first);
      counter = ltb-false c (get_or ws 5 0) (none_of tests 1 e);
      items = ltb-false m (get_or ws 6 0) (none_of tests 2 e);
      used = ltb-false n (get_or ws 7 0) (none_of tests 3 e);
      given_back = ltb-false (get_or ws 7 0) (get_or ws 8 0) (none_of tests 4 e);
      long = ltb-false (length ws) (needed p m n) (none_of tests 5 e);
    }

and_true : (s t : Bool) → s ≡ true → (s && t) ≡ false → t ≡ false
and_true true t e h = h
and_true false t e h = absurd (false≢true e)

and_false : (s t : Bool) → s ≡ false → (s || t) ≡ false → t ≡ false
and_false true t e h = absurd (false≢true (sym e))
and_false false t e h = h

-- What step asks of a running record before its line: its step count and its arguments; and where its line is known: what it keeps, and at line 6 the
-- number read at 5.
abbrev pub early : PhaseRow → Cells → ℕ → Bool
early r m w = too_many_steps m w || arguments_damaged r m w

abbrev pub late : PhaseRow → Cells → ℕ → Bool
late r m w = kept_damaged r m w || beyond_at_6 r m w

module _ (r : PhaseRow) (m : Cells) (w : ℕ) where
  keeps : late r m w ≡ false → kept_damaged r m w ≡ false
  keeps = none_of (kept_damaged r m w ∷ beyond_at_6 r m w ∷ []) 0

  -- The lines at which the record keeps a node, by their place in that list.
  pub node_kept : (k : ℕ) → late r m w ≡ false
      → get_or (eqb r.line 20 ∷ eqb r.line 21 ∷ eqb r.line 22 ∷ eqb r.line 34 ∷ eqb r.line 39 ∷ eqb r.line 43 ∷ eqb r.line 45 ∷ eqb r.line 46 ∷ []) k false ≡ true
      → m (node w) < m used
  unfolding kept_damaged
  node_kept k e h =
      let told = some_of (eqb r.line 20 ∷ eqb r.line 21 ∷ eqb r.line 22 ∷ eqb r.line 34 ∷ eqb r.line 39 ∷ eqb r.line 43 ∷ eqb r.line 45 ∷ eqb r.line 46 ∷ []) k h in
      leb-false (m used) (m (node w)) (and_true (keeps_node r) (bad_node m (m (node w))) told (none_of (kept_tests r m w) 0 (keeps e)))

  -- The new node, at the two lines that keep one: it was used.
  pub new_node_used : kept_damaged r m w ≡ false → keeps_new_node r ≡ true → m (new_node w) < m used
  unfolding kept_damaged
  new_node_used e told = leb-false (m used) (m (new_node w)) (and_true (keeps_new_node r) (bad_node m (m (new_node w))) told (none_of (kept_tests r m w) 1 e))

  pub new_node_kept : late r m w ≡ false → r.line ≡ 50 → m (new_node w) < m used
  new_node_kept e h = new_node_used (keeps e) (some_of (eqb r.line 46 ∷ eqb r.line 50 ∷ []) 1 (eq-eqb r.line 50 h))

  pub seen_kept : late r m w ≡ false → r.line ≡ 6 → m (seen w) < m counter_limit
  seen_kept e h =
      leb-false (m counter_limit) (m (seen w))
      (and_true (eqb r.line 6) (leb (m counter_limit) (m (seen w))) (eq-eqb r.line 6 h) (none_of (kept_damaged r m w ∷ beyond_at_6 r m w ∷ []) 1 e))

  -- Inside an item, the item is registered: by each operation's own tests.
  pub item_there : arguments_damaged r m w ≡ false → (r.operation ≡ 3 → ⊥) → (r.line ≡ 0 → ⊥) → m (item w) < m items
  unfolding arguments_damaged
  item_there e takes inside = first (eqb r.operation 1) e
    where
      a_total : any_of (total_tests r m w) ≡ false → m (item w) < m items
      a_total h =
          let place = and_true (inside_item r) (leb (m (noted w)) (m (item w)))
          (ap (λ (b : Bool). not b && not (eqb r.line 0)) (ne_eqb r.operation 3 takes) ∙ ap not (ne_eqb r.line 0 inside))
          (none_of (total_tests r m w) 4 h) in
          let below = leb-false (m (noted w)) (m (item w)) place in
          let noted_few = ltb-false (m items) (m (noted w)) (none_of (total_tests r m w) 2 h) in
          omega arith

      registered : bad_item m (m (item w)) ≡ false → m (item w) < m items
      registered h = leb-false (m items) (m (item w)) h

      fourth : (t : Bool) → cond t (any_of (bad_item m (m (item w)) ∷ bad_handle m (m (handle w)) ∷ [])) (any_of (total_tests r m w)) ≡ false → m (item w) < m items
      fourth true h = registered (none_of (bad_item m (m (item w)) ∷ bad_handle m (m (handle w)) ∷ []) 0 h)
      fourth false h = a_total h

      third : (t : Bool) → eqb r.operation 3 ≡ t
          → cond t false (cond (eqb r.operation 4) (any_of (bad_item m (m (item w)) ∷ bad_handle m (m (handle w)) ∷ [])) (any_of (total_tests r m w))) ≡ false → m (item w) < m items
      third true q h = absurd (takes (eqb-true r.operation 3 q))
      third false q h = fourth (eqb r.operation 4) h

      second : (t : Bool) → cond t (any_of (bad_item m (m (item w)) ∷ bad_value m (m (old w)) ∷ bad_value m (m (new w)) ∷ []))
          (cond (eqb r.operation 3) false
          (cond (eqb r.operation 4) (any_of (bad_item m (m (item w)) ∷ bad_handle m (m (handle w)) ∷ [])) (any_of (total_tests r m w)))) ≡ false → m (item w) < m items
      second true h = registered (none_of (bad_item m (m (item w)) ∷ bad_value m (m (old w)) ∷ bad_value m (m (new w)) ∷ []) 0 h)
      second false h = third (eqb r.operation 3) refl h

      first : (t : Bool) → cond t (bad_item m (m (item w)))
          (cond (eqb r.operation 2) (any_of (bad_item m (m (item w)) ∷ bad_value m (m (old w)) ∷ bad_value m (m (new w)) ∷ []))
          (cond (eqb r.operation 3) false
          (cond (eqb r.operation 4) (any_of (bad_item m (m (item w)) ∷ bad_handle m (m (handle w)) ∷ [])) (any_of (total_tests r m w))))) ≡ false → m (item w) < m items
      first true h = registered h
      first false h = second (eqb r.operation 2) h

  -- A total's sum leaves room.
  pub sum_small : arguments_damaged r m w ≡ false → r.operation ≡ 5 → sum m w ≤ 1099511627776
  unfolding arguments_damaged
  sum_small e five = ltb-false 1099511627776 (sum m w) (none_of (total_tests r m w) 5 is_total)
    where
      differs : (k : ℕ) → (5 ≡ k → ⊥) → eqb r.operation k ≡ false
      differs k h = ne_eqb r.operation k (λ q. h (sym five ∙ q))

      is_total : any_of (total_tests r m w) ≡ false
      is_total = rw (differs 3 (λ q. omega arith)) (rw (differs 1 (λ q. omega arith), differs 2 (λ q. omega arith), differs 3 (λ q. omega arith), differs 4 (λ q. omega arith)) at e)

-- A busy worker whose step count and arguments are not damaged; and its step, past the refusals that come before: the item that it is inside of,
-- what its lines keep, and the words of its line.
pub record Busy (w : ℕ) (ws : List ℕ) : Type 0 where
  pub there : w < get_or ws 0 0
  pub runs : get_or ws (16 + 16 * w + 0) 0 ≡ 0 → ⊥
  pub known : get_or ws (16 + 16 * w + 0) 0 ≤ 35
  pub few : get_or ws (16 + 16 * w + 1) 0 ≤ 5120
  pub arguments : arguments_damaged (row_of (get_or ws (16 + 16 * w + 0) 0)) (cells_of ws) w ≡ false

abbrev pub busy_step : Cells → ℕ → Outcome
busy_step m w =
    unless ((inside_item (row_of (m (phase w))) && item_damaged m (m (item w))) ⇒ 2 ∷ late (row_of (m (phase w))) m w ⇒ 2 ∷ [])
    (stepped (line_of_phase (m (phase w))) m w)

-- Everything has its place, and the step can be counted.
pub ready : (ws : List ℕ) (w : ℕ) → Header ws → Busy w ws → Ready (items_offset ws) (nodes_offset ws) w ws
ready ws w h b = record {
  worker = omega (arith, b.there);
  items = omega (arith, h.items);
  nodes = h.long;
  used = h.used;
  given_back = h.given_back;
  few_nodes = h.few_nodes;
  few_items = omega (arith, h.items, h.few_items);
  phase = omega (arith, b.known);
  steps = omega (arith, b.few);
}

-- Register can take a node where one is left.
pub can_take_at : (ws : List ℕ) → Header ws → no_node (cells_of ws) ≡ false → CanTake (nodes_offset ws) ws
can_take_at ws h e = record {
  header = omega arith;
  nodes = h.long;
  used = h.used;
  given_back = h.given_back;
  few_nodes = h.few_nodes;
  some = λ g. leb-false (get_or ws 2 0) (get_or ws 7 0) (and_true (eqb (get_or ws 8 0) 0) (leb (get_or ws 2 0) (get_or ws 7 0)) (eq-eqb (get_or ws 8 0) 0 g) e);
}

-- A worker's damage, by its phase: unknown, idle, or what its running record says.
pub unknown_phase : (m : Cells) (w : ℕ) → 35 < m (phase w) → worker_damaged m w ≡ true
unknown_phase m w h = rw (lt-ltb 35 (m (phase w)) h)

pub idle_sound : (m : Cells) (w : ℕ) → m (phase w) ≡ 0 → worker_damaged m w ≡ false
idle_sound m w h =
    neither (ltb 35 (m (phase w))) (not (eqb (m (phase w)) 0) && running_damaged (row_of (m (phase w))) m w)
    (le-ltb 35 (m (phase w)) (omega (arith, h))) (ap (λ (b : Bool). not b && running_damaged (row_of (m (phase w))) m w) (eq-eqb (m (phase w)) 0 h))

-- A step asks nothing more of an idle worker.
pub idle_steps : (m : Cells) (w : ℕ) → m (phase w) ≡ 0 → step_damaged m w ≡ false
idle_steps m w h = ap (λ (b : Bool). not b && before_step (row_of (m (phase w))) m w) (eq-eqb (m (phase w)) 0 h)

-- The tests of a step, in the order of the definitions and in the code's.
regrouped : (count arguments kept six : Bool) → ((arguments || kept) || (count || six)) ≡ ((count || arguments) || (kept || six))
regrouped true true kept six = refl
regrouped true false true six = refl
regrouped true false false six = refl
regrouped false true kept six = refl
regrouped false false true six = refl
regrouped false false false six = refl

module _ (m : Cells) (w : ℕ) (known : m (phase w) ≤ 35) (busy : m (phase w) ≡ 0 → ⊥) where
  pub running_is : worker_damaged m w ≡ running_damaged (row_of (m (phase w))) m w
  running_is =
      ap (λ (b : Bool). b || (not (eqb (m (phase w)) 0) && running_damaged (row_of (m (phase w))) m w)) (le-ltb 35 (m (phase w)) known)
      ∙ ap (λ (b : Bool). not b && running_damaged (row_of (m (phase w))) m w) (ne_eqb (m (phase w)) 0 busy)

  steps_is : step_damaged m w ≡ before_step (row_of (m (phase w))) m w
  steps_is = ap (λ (b : Bool). not b && before_step (row_of (m (phase w))) m w) (ne_eqb (m (phase w)) 0 busy)

  asked : (worker_damaged m w || step_damaged m w) ≡ (early (row_of (m (phase w))) m w || late (row_of (m (phase w))) m w)
  unfolding running_damaged
  asked =
      ap₂ (λ (a b : Bool). a || b) running_is steps_is
      ∙ regrouped (too_many_steps m w) (arguments_damaged (row_of (m (phase w))) m w) (kept_damaged (row_of (m (phase w))) m w) (beyond_at_6 (row_of (m (phase w))) m w)

  -- Where the early tests hold, a step is refused; where they do not, the late ones are left.
  pub early_damaged : early (row_of (m (phase w))) m w ≡ true → (worker_damaged m w || step_damaged m w) ≡ true
  early_damaged e = asked ∙ ap (λ (b : Bool). b || late (row_of (m (phase w))) m w) e

  pub late_damaged : early (row_of (m (phase w))) m w ≡ false → (worker_damaged m w || step_damaged m w) ≡ late (row_of (m (phase w))) m w
  late_damaged e = asked ∙ ap (λ (b : Bool). b || late (row_of (m (phase w))) m w) e

-- The test as step has it, at a row that is the phase's.
pub early_told : (m : Cells) (w : ℕ) {r : PhaseRow} {v t : Bool} → r ≡ row_of (m (phase w)) → t ≡ early r m w → t ≡ v → early (row_of (m (phase w))) m w ≡ v
early_told m w e d v = ap (λ (x : PhaseRow). early x m w) (sym e) ∙ sym d ∙ v

pub made_busy : (ws : List ℕ) (w : ℕ) → w < get_or ws 0 0 → (get_or ws (16 + 16 * w + 0) 0 ≡ 0 → ⊥) → get_or ws (16 + 16 * w + 0) 0 ≤ 35
    → early (row_of (get_or ws (16 + 16 * w + 0) 0)) (cells_of ws) w ≡ false → Busy w ws
made_busy ws w l busy known e =
    let m = cells_of ws in
    let r = row_of (get_or ws (16 + 16 * w + 0) 0) in
    let none = none_of (ltb 5120 (get_or ws (16 + 16 * w + 1) 0) ∷ arguments_damaged r m w ∷ []) in
    record { there = l; runs = busy; known = known; few = ltb-false 5120 (get_or ws (16 + 16 * w + 1) 0) (none 0 e); arguments = none 1 e }

-- One of two refusals with one number holds.
pub either_refused : (a b : ℕ) (ws : List ℕ) {r : Answer} {after : List ℕ} (s k : Bool) (o : Outcome) → (s || k) ≡ true
    → Met a b ws (refused 2) r after → Met a b ws (unless (s ⇒ 2 ∷ k ⇒ 2 ∷ []) o) r after
either_refused a b ws true k o e d = d
either_refused a b ws false true o e d = d
either_refused a b ws false false o e d = absurd (false≢true e)

-- Refusals with one number may be asked in any order; another, between them, does not hold.
pub in_order : (a b : ℕ) (ws : List ℕ) {r : Answer} {after : List ℕ} (s k rest z t : Bool) (o : Outcome) → (s || k) ≡ rest → z ≡ false
    → Met a b ws (unless (t ⇒ 2 ∷ rest ⇒ 2 ∷ []) o) r after → Met a b ws (unless (s ⇒ 2 ∷ k ⇒ 2 ∷ z ⇒ 5 ∷ t ⇒ 2 ∷ []) o) r after
in_order a b ws {r} {after} s k rest z t o e f d = rw f (sorted s k t (rw (← e) at d))
  where
    sorted : (s k t : Bool) → Met a b ws (unless (t ⇒ 2 ∷ (s || k) ⇒ 2 ∷ []) o) r after → Met a b ws (unless (s ⇒ 2 ∷ k ⇒ 2 ∷ t ⇒ 2 ∷ []) o) r after
    sorted true k true d = d
    sorted true k false d = d
    sorted false true true d = d
    sorted false true false d = d
    sorted false false true d = d
    sorted false false false d = d
