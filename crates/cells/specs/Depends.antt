-- What a call comes to depends on the cells that stand alone: two functions that agree on those have the same outcome.
use Prim.Native.Nat.{ℕ, ◌+◌, ◌-◌, ◌<◌, ◌≤◌}
use Rattle.std.proofs.Math.Bool.{Bool, not}
use Rattle.std.specs.Prelude.{true, false, cond, ◌||◌, ◌&&◌, [], ◌∷◌, ◌++◌, ◌≡◌, ltb, leb}
use Rattle.std.proofs.Math.Path.{refl, ap}
use Rattle.std.proofs.Common.{ap₂, ◌∙◌, arith, leb-false, ltb-false}
use Rattle.std.proofs.Math.Dec.{eqb}
use Rattle.std.proofs.lemmas.Bool.{eqb-false}
use Rattle.definitions.specs.declared.PhaseRow.{PhaseRow}
use Rattle.definitions.specs.Cells.{Cell, Cells, ◌≔◌, workers, items_limit, nodes_limit, projects, counter_limit, counter, items, used, given_back, phase, steps, item, old, new, handle, project, noted, node, new_node, seen, sum_low, sum_high, head, birth, size, value, older, stamp, cleared}
use Rattle.definitions.specs.Answers.{Outcome, unless, ◌⇒◌, refused, accepts, ends_with}
use Rattle.definitions.specs.Phases.{row_of, table}
use Rattle.definitions.specs.Damage.{bad_item, bad_value, bad_handle, inside_item, keeps_node, keeps_new_node, arguments_damaged, kept_damaged, running_damaged, worker_damaged, step_damaged, item_damaged, node_damaged, first_damaged, older_damaged}
use Rattle.definitions.specs.Lines.{Line, line, lines, line_of_phase, idle, fetch, help_20, help_21, help_22, fetch_head, line_20, line_21, line_22, line_39, line_43, line_45, line_46, line_48, line_50, line_52, line_5, line_6, line_34, total_32, total_34, closing, no_node, node_to_take, taking, returning, no_words, its_value, taken_node, returned_node, tested_node}
use Rattle.definitions.specs.Calls.{Call, no_worker, busy, free_worker, sound_item, registering, starting_v_read, starting_v_cas, starting_take_snapshot, starting_read_snapshot, starting_total, stepping, abandoning}
use Rattle.cells.specs.Stands.{Stands}
use Rattle.cells.specs.Made.{comes_to}
use Rattle.cells.specs.Rows.{Rows, at_phase}
use Rattle.cells.specs.Spares.{KeptIn, busy_kept, HeaderIn, taken_in, first_false}

-- A refusal in both, or the same after it.
or_same : (b b' : Bool) (r : Outcome) {o o' : Outcome} → b' ≡ b → (b ≡ false → o' ≡ o) → cond b' r o' ≡ cond b r o
or_same b b' r {o} {o'} e h = ap (λ (a : Bool). cond a r o') e ∙ at b h
  where
    at : (b : Bool) → (b ≡ false → o' ≡ o) → cond b r o' ≡ cond b r o
    at true h = refl
    at false h = h refl

choice_same : {A : Type 0} (b b' : Bool) {x x' y y' : A} → b' ≡ b → x' ≡ x → y' ≡ y → cond b' x' y' ≡ cond b x y
choice_same b b' {x} {x'} {y} {y'} e d h = ap (λ (a : Bool). cond a x' y') e ∙ ap₂ (cond b) d h

module _ (p m n : ℕ) (f g : Cells) (H : HeaderIn p m n f) (A : (c : Cell) → Stands p m n c → g c ≡ f c) where
  module _ (w : ℕ) (l : w < p) where
    worker_same : worker_damaged g w ≡ worker_damaged f w
    worker_same = unfold running_damaged arguments_damaged kept_damaged in
        rw (
          A (phase w) l,
          A (item w) l,
          A (old w) l,
          A (new w) l,
          A (handle w) l,
          A (project w) l,
          A (noted w) l,
          A (node w) l,
          A (new_node w) l,
          A (seen w) l,
          A (sum_low w) l,
          A (sum_high w) l,
          A items (omega arith),
          A projects (omega arith),
          A counter (omega arith),
          A used (omega arith),
        )

    -- and what a step alone tests of it
    before_step_same : step_damaged g w ≡ step_damaged f w
    before_step_same = rw (A (phase w) l, A (steps w) l, A (seen w) l, A counter_limit (omega arith))

    -- a line on two functions that agree: its test of node words and what it does are the same
    pub record SameLine (r : PhaseRow) (x : Line) : Type 0 where
      pub tests : x.damaged g w ≡ x.damaged f w
      pub does : x.does g w ≡ x.does f w

    abbrev LineSame : PhaseRow → Line → Type 0
    LineSame r x = KeptIn r f w → SameLine r x

    item_in : (r : PhaseRow) → KeptIn r f w → inside_item r ≡ true → f (item w) < m
    item_in r k t = omega (arith, k.item_in t, H.items_in)

    node_in : (r : PhaseRow) → KeptIn r f w → keeps_node r ≡ true → f (node w) < n
    node_in r k t = omega (arith, k.node_in t, H.used_in)

    fetch_same : (r : PhaseRow) → inside_item r ≡ true → LineSame r fetch
    fetch_same r t k = record {
      tests = refl;
      does = unfold fetch_head in
          rw (A (phase w) l, A (steps w) l, A (item w) l, A (head (f (item w))) (item_in r k t));
    }

    twenty_same : (r : PhaseRow) → keeps_node r ≡ true → LineSame r help_20
    twenty_same r t k = record {
      tests = rw (A (node w) l, A counter (omega arith), A (stamp (f (node w))) (node_in r k t));
      does = unfold line_20 in rw (A (phase w) l, A (steps w) l, A (node w) l, A (stamp (f (node w))) (node_in r k t));
    }

    twenty_one_same : (r : PhaseRow) → LineSame r help_21
    twenty_one_same r k = record { tests = refl; does = unfold line_21 in rw (A (phase w) l, A (steps w) l, A counter (omega arith)) }

    twenty_two_same : (r : PhaseRow) → keeps_node r ≡ true → LineSame r help_22
    twenty_two_same r t k = record {
      tests = rw (A (node w) l, A counter (omega arith), A (stamp (f (node w))) (node_in r k t));
      does = unfold line_22 in rw (A (phase w) l, A (steps w) l, A (node w) l, A (seen w) l, A (stamp (f (node w))) (node_in r k t));
    }

    line_39_same : (r : PhaseRow) → keeps_node r ≡ true → LineSame r (line its_value line_39)
    line_39_same r t k = record {
      tests = rw (A (node w) l, A projects (omega arith), A (value (f (node w))) (node_in r k t));
      does = unfold line_39 in rw (A (steps w) l, A (node w) l, A (value (f (node w))) (node_in r k t));
    }

    line_43_same : (r : PhaseRow) → keeps_node r ≡ true → LineSame r (line its_value line_43)
    line_43_same r t k = record {
      tests = rw (A (node w) l, A projects (omega arith), A (value (f (node w))) (node_in r k t));
      does = unfold line_43 in rw (A (phase w) l, A (steps w) l, A (node w) l, A (old w) l, A (new w) l, A (value (f (node w))) (node_in r k t));
    }

    line_46_same : (r : PhaseRow) → inside_item r ≡ true → LineSame r (line no_words line_46)
    line_46_same r t k = record {
      tests = refl;
      does = unfold line_46 in rw (A (steps w) l, A (node w) l, A (new_node w) l, A (item w) l, A (head (f (item w))) (item_in r k t));
    }

    line_48_same : (r : PhaseRow) → LineSame r (line no_words line_48)
    line_48_same r k = record { tests = refl; does = unfold line_48 in rw (A (steps w) l) }

    line_52_same : (r : PhaseRow) → LineSame r (line no_words line_52)
    line_52_same r k = record { tests = refl; does = unfold line_52 in rw (A (steps w) l) }

    line_5_same : (r : PhaseRow) → LineSame r (line no_words line_5)
    line_5_same r k = record {
      tests = refl;
      does = unfold line_5 in
          rw (A (phase w) l, A (steps w) l, A counter (omega arith), A counter_limit (omega arith));
    }

    line_6_same : (r : PhaseRow) → LineSame r (line no_words line_6)
    line_6_same r k = record { tests = refl; does = unfold line_6 in rw (A (steps w) l, A (seen w) l, A counter (omega arith)) }

    closing_same : (r : PhaseRow) → LineSame r (line no_words closing)
    closing_same r k = record { tests = refl; does = unfold closing in rw (A (steps w) l, A (sum_low w) l, A (sum_high w) l) }

    idle_same : (r : PhaseRow) → LineSame r idle
    idle_same r k = record { tests = refl; does = refl }

    tested_same : (r : PhaseRow) → keeps_node r ≡ true → KeptIn r f w → tested_node g w ≡ tested_node f w
    tested_same r t k =
        rw (
          A (handle w) l,
          A (node w) l,
          A counter (omega arith),
          A used (omega arith),
          A projects (omega arith),
          A (stamp (f (node w))) (node_in r k t),
          A (older (f (node w))) (node_in r k t),
          A (value (f (node w))) (node_in r k t),
        )

    line_34_same : (r : PhaseRow) → keeps_node r ≡ true → LineSame r (line tested_node line_34)
    line_34_same r t k = record {
      tests = tested_same r t k;
      does = unfold line_34 in
          rw (
            A (phase w) l,
            A (steps w) l,
            A (handle w) l,
            A (node w) l,
            A (stamp (f (node w))) (node_in r k t),
            A (older (f (node w))) (node_in r k t),
            A (value (f (node w))) (node_in r k t),
          );
    }

    total_32_same : (r : PhaseRow) → inside_item r ≡ true → LineSame r (line no_words total_32)
    total_32_same r t k = record {
      tests = refl;
      does = unfold total_32 in
          rw (
            A (phase w) l,
            A (steps w) l,
            A (handle w) l,
            A (item w) l,
            A (noted w) l,
            A (birth (f (item w))) (item_in r k t),
            A (head (f (item w))) (item_in r k t),
          );
    }

    total_34_same : (r : PhaseRow) → keeps_node r ≡ true → inside_item r ≡ true → LineSame r (line tested_node total_34)
    total_34_same r t u k = record {
      tests = tested_same r t k;
      does = unfold total_34 in
          rw (
            A (phase w) l,
            A (steps w) l,
            A (handle w) l,
            A (node w) l,
            A (item w) l,
            A (noted w) l,
            A (project w) l,
            A (sum_low w) l,
            A (sum_high w) l,
            A (stamp (f (node w))) (node_in r k t),
            A (older (f (node w))) (node_in r k t),
            A (value (f (node w))) (node_in r k t),
            A (size (f (item w))) (item_in r k u),
          );
    }

  -- ---- the node that line 45 and register take
  no_node_same : no_node g ≡ no_node f
  no_node_same = rw (A given_back (omega arith), A nodes_limit (omega arith), A used (omega arith))

  taken_same : node_to_take g ≡ node_to_take f
  taken_same = rw (A given_back (omega arith), A used (omega arith))

  node_damaged_same : (y : ℕ) → y < n → node_damaged g y ≡ node_damaged f y
  node_damaged_same y b = rw (A (value y) b, A (older y) b, A (stamp y) b, A projects (omega arith), A used (omega arith), A counter (omega arith))

  first_in : (b : Bool) → eqb (f given_back) 0 ≡ b → b ≡ false → f given_back - 1 < n
  first_in true e t = absurd (let z : ◌≡◌ {A = ℕ} 0 1 = cc in omega arith)
  first_in false e t = omega (arith, eqb-false (f given_back) 0 e, H.first_in, H.used_in)

  taking_same : taking g ≡ taking f
  taking_same = rw (A given_back (omega arith), A used (omega arith)) (at (eqb (f given_back) 0) refl)
    where
      at : (b : Bool) → eqb (f given_back) 0 ≡ b
          → cond b (used ≔ (f used + 1) ∷ []) (given_back ≔ g (older (f given_back - 1)) ∷ []) ≡ cond b (used ≔ (f used + 1) ∷ [])
          (given_back ≔ f (older (f given_back - 1)) ∷ [])
      at true e = refl
      at false e = ap (λ (x : ℕ). given_back ≔ x ∷ []) (A (older (f given_back - 1)) (first_in false e refl))

  -- damage of the node taken, where there is one, and of the first node given back, where there is one
  taken_words : not (no_node g) && node_damaged g (node_to_take g) ≡ not (no_node f) && node_damaged f (node_to_take f)
  taken_words = ap₂ (λ (b : Bool) (y : ℕ). not b && node_damaged g y) no_node_same taken_same ∙ at (no_node f) refl
    where
      at : (b : Bool) → no_node f ≡ b → not b && node_damaged g (node_to_take f) ≡ not b && node_damaged f (node_to_take f)
      at true e = refl
      at false e = node_damaged_same (node_to_take f) (taken_in p m n f H e)

  first_words : first_damaged g ≡ first_damaged f
  first_words = ap (λ (x : ℕ). not (eqb x 0) && node_damaged g (x - 1)) (A given_back (omega arith)) ∙ at (eqb (f given_back) 0) refl
    where
      at : (b : Bool) → eqb (f given_back) 0 ≡ b → not b && node_damaged g (f given_back - 1) ≡ not b && node_damaged f (f given_back - 1)
      at true e = refl
      at false e = node_damaged_same (f given_back - 1) (first_in false e refl)

  module _ (w : ℕ) (l : w < p) where
    ends_same : ends_with g w 11 ≡ ends_with f w 11
    ends_same = rw (A (steps w) l)

    line_45_same : (r : PhaseRow) → LineSame w l r (line taken_node line_45)
    line_45_same r k = record {
      tests = taken_words;
      does = unfold line_45 in choice_same (no_node f) (no_node g) no_node_same ends_same
          (rw (taking_same, taken_same, A (phase w) l, A (steps w) l, A (new w) l, A (node w) l));
    }

    returned_same : f (new_node w) < f used → returned_node g w ≡ returned_node f w
    returned_same b = ap₂ (λ (a b : Bool). a || b) link_same first_words
      where
        link_same : older_damaged g (g (new_node w)) ≡ older_damaged f (f (new_node w))
        link_same = rw (A (new_node w) l, A used (omega arith), A (older (f (new_node w))) (omega (arith, b, H.used_in)))

    line_50_same : (r : PhaseRow) → keeps_new_node r ≡ true → LineSame w l r (line returned_node line_50)
    line_50_same r t k = record {
      tests = returned_same (k.new_node_in t);
      does = unfold line_50 in rw (A (phase w) l, A (steps w) l, A (new_node w) l, A given_back (omega arith));
    }

    every_row : Rows (LineSame w l) table lines
    unfolding table lines
    every_row = (
      idle_same w l _,
      (
        fetch_same w l _ refl,
        (
          twenty_same w l _ refl,
          (
            twenty_one_same w l _,
            (
              twenty_two_same w l _ refl,
              (
                line_39_same w l _ refl,
                (
                  fetch_same w l _ refl,
                  (
                    twenty_same w l _ refl,
                    (
                      twenty_one_same w l _,
                      (
                        twenty_two_same w l _ refl,
                        (
                          line_43_same w l _ refl,
                          (
                            line_45_same _,
                            (
                              line_46_same w l _ refl,
                              (
                                twenty_same w l _ refl,
                                (
                                  twenty_one_same w l _,
                                  (
                                    twenty_two_same w l _ refl,
                                    (
                                      line_48_same w l _,
                                      (
                                        line_50_same _ refl,
                                        (
                                          fetch_same w l _ refl,
                                          (
                                            twenty_same w l _ refl,
                                            (
                                              twenty_one_same w l _,
                                              (
                                                twenty_two_same w l _ refl,
                                                (
                                                  line_52_same w l _,
                                                  (
                                                    line_5_same w l _,
                                                    (
                                                      line_6_same w l _,
                                                      (
                                                        fetch_same w l _ refl,
                                                        (
                                                          twenty_same w l _ refl,
                                                          (
                                                            twenty_one_same w l _,
                                                            (
                                                              twenty_two_same w l _ refl,
                                                              (
                                                                line_34_same w l _ refl,
                                                                (
                                                                  total_32_same w l _ refl,
                                                                  (
                                                                    twenty_same w l _ refl,
                                                                    (twenty_one_same w l _, (twenty_two_same w l _ refl, (total_34_same w l _ refl refl, (closing_same w l _, tt)))),
                                                                  ),
                                                                ),
                                                              ),
                                                            ),
                                                          ),
                                                        ),
                                                      ),
                                                    ),
                                                  ),
                                                ),
                                              ),
                                            ),
                                          ),
                                        ),
                                      ),
                                    ),
                                  ),
                                ),
                              ),
                            ),
                          ),
                        ),
                      ),
                    ),
                  ),
                ),
              ),
            ),
          ),
        ),
      ),
    )

    line_same : (k : ℕ) → k ≤ 35 → KeptIn (row_of k) f w → SameLine w l (row_of k) (line_of_phase k)
    line_same = at_phase (LineSame w l) every_row

  -- ---- the calls
  no_worker_same : (w : ℕ) → no_worker g w ≡ no_worker f w
  no_worker_same w = rw (A workers (omega arith))

  worker_in : (w : ℕ) → no_worker f w ≡ false → w < p
  worker_in w e = omega (arith, leb-false (f workers) w e, H.workers_are)

  item_damaged_same : (i : ℕ) → i < m → item_damaged g i ≡ item_damaged f i
  item_damaged_same i b = rw (A (head i) b, A (birth i) b, A used (omega arith), A counter (omega arith))

  -- of a worker: 3, damage, 4
  free_same : (w : ℕ) {o o' : Outcome} → o' ≡ o → unless (free_worker g w) o' ≡ unless (free_worker f w) o
  free_same w e =
      or_same (no_worker f w) (no_worker g w) (refused 3) (no_worker_same w)
      (λ b. let l : w < p = worker_in w b in
      or_same (worker_damaged f w) (worker_damaged g w) (refused 2) (worker_same w l)
      (λ c. or_same (busy f w) (busy g w) (refused 4) (rw (A (phase w) l)) (λ d. e)))

  -- of an item: 6, damage
  item_same : (i : ℕ) {o o' : Outcome} → (i < m → o' ≡ o) → unless (sound_item g i) o' ≡ unless (sound_item f i) o
  item_same i e =
      or_same (bad_item f i) (bad_item g i) (refused 6) (rw (A items (omega arith)))
      (λ b. let l : i < m = omega (arith, leb-false (f items) i b, H.items_in) in
      or_same (item_damaged f i) (item_damaged g i) (refused 2) (item_damaged_same i l) (λ c. e l))

  value_same : (v : ℕ) → bad_value g v ≡ bad_value f v
  value_same v = rw (A projects (omega arith))

  handle_same : (h : ℕ) → bad_handle g h ≡ bad_handle f h
  handle_same h = rw (A counter (omega arith))

  register_same : (v z : ℕ) → registering g v z ≡ registering f v z
  unfolding registering
  register_same v z =
      or_same (bad_value f v) (bad_value g v) (refused 7) (value_same v)
      (λ a. or_same (leb (f items_limit) (f items)) (leb (g items_limit) (g items)) (refused 10) (rw (A items_limit (omega arith), A items (omega arith)))
      (λ b. or_same (no_node f) (no_node g) (refused 11) no_node_same
      (λ c. or_same (first_damaged f) (first_damaged g) (refused 2) first_words
      (λ d. rw (taking_same, taken_same, A items (omega arith), A counter (omega arith))))))

  total_same : (w q h : ℕ) → starting_total g w q h ≡ starting_total f w q h
  unfolding starting_total
  total_same w q h =
      free_same w (or_same (bad_value f q) (bad_value g q) (refused 7) (value_same q)
      (λ a. or_same (bad_handle f h) (bad_handle g h) (refused 8) (handle_same h) (λ b. rw (A items (omega arith)))))

  -- what a step tests after the worker's record: 5, the item's damage, its node words'
  inside_same : (w : ℕ) → w < p → (r : PhaseRow) → KeptIn r f w
      → (inside_item r && item_damaged g (f (item w))) ≡ (inside_item r && item_damaged f (f (item w)))
  inside_same w l r k = at (inside_item r) refl
    where
      at : (b : Bool) → inside_item r ≡ b → (b && item_damaged g (f (item w))) ≡ (b && item_damaged f (f (item w)))
      at true e = item_damaged_same (f (item w)) (item_in w l r k e)
      at false e = refl

  -- a step after the tests of its worker
  after_worker : Cells → (w ph : ℕ) → Outcome
  after_worker h w ph =
      unless (eqb ph 0 ⇒ 5 ∷ (inside_item (row_of ph) && item_damaged h (h (item w))) ⇒ 2 ∷ (line_of_phase ph).damaged h w ⇒ 2 ∷ [])
      ((line_of_phase ph).does h w)

  after_same : (w : ℕ) → w < p → worker_damaged f w ≡ false → after_worker g w (f (phase w)) ≡ after_worker f w (f (phase w))
  unfolding after_worker
  after_same w l b =
      or_same (eqb ph 0) (eqb ph 0) (refused 5) refl
      (λ c. let k : KeptIn (row_of ph) f w = busy_kept f w b c in
      let x : SameLine w l (row_of ph) (line_of_phase ph) = line_same w l ph (ltb-false 35 ph (first_false (ltb 35 ph) known b)) k in
      or_same (inside_item (row_of ph) && item_damaged f (f (item w))) (inside_item (row_of ph) && item_damaged g (g (item w))) (refused 2)
      (ap (λ (i : ℕ). inside_item (row_of ph) && item_damaged g i) (A (item w) l) ∙ inside_same w l (row_of ph) k)
      (λ d. or_same ((line_of_phase ph).damaged f w) ((line_of_phase ph).damaged g w) (refused 2) x.tests (λ e. x.does)))
    where
      ph : ℕ
      ph = f (phase w)

      known : Bool
      known = not (eqb (f (phase w)) 0) && running_damaged (row_of (f (phase w))) f w

  step_same : (w : ℕ) → stepping g w ≡ stepping f w
  unfolding stepping after_worker
  step_same w =
      or_same (no_worker f w) (no_worker g w) (refused 3) (no_worker_same w)
      (λ a. let l : w < p = worker_in w a in
      or_same (worker_damaged f w) (worker_damaged g w) (refused 2) (worker_same w l)
      (λ b. or_same (step_damaged f w) (step_damaged g w) (refused 2) (before_step_same w l)
      (λ c. ap (after_worker g w) (A (phase w) l) ∙ after_same w l b)))

  -- an abandon after the tests of its worker, by whether that holds a node
  abbrev giving : Cells → (w : ℕ) → (holds : Bool) → Outcome
  giving h w b = unless ((b && returned_node h w) ⇒ 2 ∷ []) (accepts 0 (cond b (returning h w) [] ++ cleared w))

  giving_same : (w : ℕ) → w < p → (b : Bool) → (b ≡ true → f (new_node w) < f used) → giving g w b ≡ giving f w b
  giving_same w l true k =
      or_same (returned_node f w) (returned_node g w) (refused 2) (returned_same w l (k refl)) (λ e. rw (A (new_node w) l, A given_back (omega arith)))
  giving_same w l false k = refl

  abandon_same : (w : ℕ) → abandoning g w ≡ abandoning f w
  unfolding abandoning
  abandon_same w =
      or_same (no_worker f w) (no_worker g w) (refused 3) (no_worker_same w)
      (λ a. let l : w < p = worker_in w a in
      or_same (worker_damaged f w) (worker_damaged g w) (refused 2) (worker_same w l)
      (λ b. or_same (eqb (f (phase w)) 0) (eqb (g (phase w)) 0) (refused 5) (ap (λ (k : ℕ). eqb k 0) (A (phase w) l))
      (λ c. ap (λ (k : ℕ). giving g w (keeps_new_node (row_of k))) (A (phase w) l)
      ∙ giving_same w l (keeps_new_node (row_of (f (phase w)))) (λ t. (busy_kept f w b c).new_node_in t))))

  pub call_same : (x : Call) → comes_to g x ≡ comes_to f x
  call_same (Call.make a b c d e) = refl
  call_same (Call.register v z) = register_same v z
  call_same (Call.v_read w i) = unfold starting_v_read in free_same w (item_same i (λ l. refl))
  call_same (Call.v_cas w i x y) = unfold starting_v_cas in
      free_same w (item_same i (λ l. or_same (bad_value f x || bad_value f y) (bad_value g x || bad_value g y) (refused 7)
      (ap₂ (λ (a b : Bool). a || b) (value_same x) (value_same y)) (λ c. refl)))
  call_same (Call.take_snapshot w) = unfold starting_take_snapshot in free_same w refl
  call_same (Call.read_snapshot w i h) = unfold starting_read_snapshot in
      free_same w (item_same i (λ l. or_same (bad_handle f h) (bad_handle g h) (refused 8) (handle_same h)
      (λ a. or_same (ltb h (f (birth i))) (ltb h (g (birth i))) (refused 9) (ap (ltb h) (A (birth i) l)) (λ b. refl))))
  call_same (Call.total w q h) = total_same w q h
  call_same (Call.step w) = step_same w
  call_same (Call.abandon w) = abandon_same w
