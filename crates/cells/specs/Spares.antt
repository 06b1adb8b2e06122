-- Every call but make writes only cells that stand, and none of the five sizes: for any words whose header is not damaged.
use Rattle.std.specs.Prelude.{ℕ, zero, suc, ◌+◌, ◌-◌, ◌<◌, ◌≤◌, Bool, true, false, cond, not, ◌||◌, ◌&&◌, List, [], ◌∷◌, ◌++◌, ◌≡◌, get_or}
use Rattle.std.proofs.Math.Path.{refl}
use Rattle.std.proofs.Common.{ap, subst}
use native.Mathlib.Omega.{arith}
use Rattle.std.proofs.Math.Dec.{eqb, ltb, leb}
use borrow.Author.Tests.{leb-false, ltb-false, eqb-false}
use Rattle.definitions.specs.declared.PhaseRow.{PhaseRow}
use Rattle.definitions.specs.Cells.{project, handle, noted, Cells, Assignment, ◌≔◌, workers, items_limit, nodes_limit, counter, items, used, given_back, phase, steps, item, old, new, node, new_node, head, birth, size, value, older, stamp, record_of, cleared}
use Rattle.definitions.specs.Answers.{Outcome, Refusal, unless, ◌⇒◌, accepts}
use Rattle.definitions.specs.Phases.{row_of, table, closing_phase, total_start, v_read_start, v_cas_start, take_snapshot_start, read_snapshot_start}
use Rattle.definitions.specs.Damage.{kept_tests, sum, inside_item, bad_handle, any_of, any_from, bad_item, bad_value, keeps_node, keeps_new_node, arguments_damaged, kept_damaged, running_damaged, worker_damaged, step_damaged, item_damaged, first_damaged}
use Rattle.definitions.specs.Lines.{Line, line, lines, line_of_phase, idle, fetch, help_20, help_21, help_22, fetch_head, line_20, line_21, line_22, line_39, line_43, line_45, line_46, line_48, line_50, line_52, line_5, line_6, line_34, total_32, total_34, closing, no_node, node_to_take, taking, succeeds_22, succeeds_46, counter_full, succeeds_6, too_new, to_older, returning, returned_node}
use Rattle.definitions.specs.Calls.{Call, no_worker, busy, sound_item, registering, starting_v_read, starting_v_cas, starting_take_snapshot, starting_read_snapshot, starting_total, stepping, holds_node, returned_if_held, abandoning}
use Rattle.cells.specs.Update.{Proper, record_proper}
use Rattle.cells.specs.Made.{comes_to}
use Rattle.cells.specs.Rows.{by_test, Rows, at_phase, Passed, refused_or}

-- What a test that failed says of its parts.
pub first_false : (a b : Bool) → a || b ≡ false → a ≡ false
first_false true b e = absurd (let z : ◌≡◌ {A = ℕ} 0 1 = cc in omega arith)
first_false false b e = refl

pub second_false : (a b : Bool) → a || b ≡ false → b ≡ false
second_false true b e = absurd (let z : ◌≡◌ {A = ℕ} 0 1 = cc in omega arith)
second_false false b e = e

any_head : (a : Bool) (ts : List Bool) → any_from a ts ≡ false → a ≡ false
any_head a [] e = e
any_head a (t ∷ ts) e = first_false a t (any_head (a || t) ts e)

any_tail : (a : Bool) (ts : List Bool) → any_from a ts ≡ false → any_of ts ≡ false
any_tail a [] e = refl
any_tail a (t ∷ ts) e = subst (λ (b : Bool). any_from (b || t) ts ≡ false) (first_false a t (any_head (a || t) ts e)) e

-- By place: the k-th test of a list that failed.
pub none_at : (ts : List Bool) (k : ℕ) → any_of ts ≡ false → get_or ts k false ≡ false
none_at [] k e = refl
none_at (t ∷ ts) zero e = any_head t ts e
none_at (t ∷ ts) (suc k) e = none_at ts k (any_tail t ts e)

pub where_asked : (a b : Bool) → a && b ≡ false → a ≡ true → b ≡ false
where_asked true b e t = e
where_asked false b e t = absurd (let z : ◌≡◌ {A = ℕ} 0 1 = cc in omega arith)

-- What a running record that is not damaged says of the cells that its line may read or write.
pub record KeptIn (r : PhaseRow) (f : Cells) (w : ℕ) : Type 0 where
  pub node_in : keeps_node r ≡ true → f (node w) < f used
  pub new_node_in : keeps_new_node r ≡ true → f (new_node w) < f used
  pub item_in : inside_item r ≡ true → f (item w) < f items

arguments_in : (r : PhaseRow) (f : Cells) (w : ℕ) → arguments_damaged r f w ≡ false → inside_item r ≡ true → f (item w) < f items
unfolding arguments_damaged
arguments_in r f w e t = at (eqb r.operation 1) (eqb r.operation 2) (eqb r.operation 3) (eqb r.operation 4) e t
  where
    changes : List Bool
    changes = bad_item f (f (item w)) ∷ bad_value f (f (old w)) ∷ bad_value f (f (new w)) ∷ []

    reads : List Bool
    reads = bad_item f (f (item w)) ∷ bad_handle f (f (handle w)) ∷ []

    totals : List Bool
    totals = bad_value f (f (project w)) ∷ bad_handle f (f (handle w)) ∷ ltb (f items) (f (noted w)) ∷ ltb (f (noted w)) (f (item w))
        ∷ (inside_item r && leb (f (noted w)) (f (item w))) ∷ ltb 1099511627776 (sum f w) ∷ []

    at : (a b c d : Bool)
        → cond a (bad_item f (f (item w))) (cond b (any_of changes) (cond c false (cond d (any_of reads) (any_of totals)))) ≡ false
        → not c && not (eqb r.line 0) ≡ true → f (item w) < f items
    at true b c d e u = leb-false _ _ e
    at false true c d e u = leb-false _ _ (none_at changes 0 e)
    at false false true d e u = absurd (let z : ◌≡◌ {A = ℕ} 0 1 = cc in omega arith)
    at false false false true e u = leb-false _ _ (none_at reads 0 e)
    at false false false false e u =
        omega (
          arith,
          ltb-false (f items) (f (noted w)) (none_at totals 2 e),
          leb-false (f (noted w)) (f (item w)) (where_asked (inside_item r) _ (none_at totals 4 e) t),
        )

pub kept_in : (r : PhaseRow) (f : Cells) (w : ℕ) → running_damaged r f w ≡ false → KeptIn r f w
unfolding running_damaged kept_damaged
kept_in r f w e = record {
  node_in = λ t. leb-false _ _ (where_asked (keeps_node r) _ (none_at (kept_tests r f w) 0 (second_false (arguments_damaged r f w) _ e)) t);
  new_node_in = λ t. leb-false _ _ (where_asked (keeps_new_node r) _ (none_at (kept_tests r f w) 1 (second_false (arguments_damaged r f w) _ e)) t);
  item_in = arguments_in r f w (first_false (arguments_damaged r f w) _ e);
}

-- and so a busy worker's record
pub busy_kept : (f : Cells) (w : ℕ) → worker_damaged f w ≡ false → eqb (f (phase w)) 0 ≡ false → KeptIn (row_of (f (phase w))) f w
busy_kept f w e b = kept_in (row_of (f (phase w))) f w
    (where_asked (not (eqb (f (phase w)) 0)) (running_damaged (row_of (f (phase w))) f w)
    (second_false (ltb 35 (f (phase w))) (not (eqb (f (phase w)) 0) && running_damaged (row_of (f (phase w))) f w) e) (ap not b))

-- A catalogue's header, as far as it says which cells stand.
pub record HeaderIn (p m n : ℕ) (f : Cells) : Type 0 where
  pub workers_are : f workers ≡ p
  pub items_are : f items_limit ≡ m
  pub nodes_are : f nodes_limit ≡ n
  pub items_in : f items ≤ m
  pub used_in : f used ≤ n
  pub first_in : f given_back ≤ f used

module _ (p m n : ℕ) (f : Cells) (H : HeaderIn p m n f) where
  abbrev pub Fine : Outcome → Type 0
  Fine o = Proper p m n o.writes

  -- the node that line 45 and register take stands, where there is one
  pub taken_in : no_node f ≡ false → node_to_take f < n
  taken_in = at (eqb (f given_back) 0) refl (leb (f nodes_limit) (f used)) refl
    where
      at : (a : Bool) → eqb (f given_back) 0 ≡ a → (b : Bool) → leb (f nodes_limit) (f used) ≡ b → a && b ≡ false → cond a (f used) (f given_back - 1) < n
      at true d true e g = absurd (let z : ◌≡◌ {A = ℕ} 0 1 = cc in omega arith)
      at true d false e g = omega (arith, leb-false (f nodes_limit) (f used) e, H.nodes_are)
      at false d b e g = omega (arith, eqb-false (f given_back) 0 d, H.first_in, H.used_in)

  -- assignments after a node was taken
  after_taking : (xs : List Assignment) → Proper p m n xs → Proper p m n (taking f ++ xs)
  after_taking xs h = by_test (λ (ys : List Assignment). Proper p m n (ys ++ xs)) (eqb (f given_back) 0) (λ e. (omega arith, omega arith, h))
      (λ e. (omega arith, omega arith, h))

  both : (xs ys : List Assignment) → Proper p m n xs → Proper p m n ys → Proper p m n (xs ++ ys)
  both [] ys a b = b
  both (x ∷ xs) ys (s, k, a) b = (s, k, both xs ys a b)

  module _ (w : ℕ) (l : w < p) where
    -- a worker's own cells
    two : Proper p m n (phase w ≔ 0 ∷ steps w ≔ 0 ∷ [])
    two = (l, omega arith, (l, omega arith, tt))

    LineFine : PhaseRow → Line → Type 0
    LineFine r x = KeptIn r f w → Fine (x.does f w)

    fetch_fine : (r : PhaseRow) → LineFine r fetch
    unfolding LineFine fetch_head
    fetch_fine r k = (l, omega arith, two)

    twenty_fine : (r : PhaseRow) → LineFine r help_20
    unfolding LineFine line_20
    twenty_fine r k = two

    twenty_one_fine : (r : PhaseRow) → LineFine r help_21
    unfolding LineFine line_21
    twenty_one_fine r k = (l, omega arith, two)

    twenty_two_fine : (r : PhaseRow) → keeps_node r ≡ true → LineFine r help_22
    unfolding LineFine line_22
    twenty_two_fine r e k = by_test Fine (succeeds_22 f w) (λ d. (omega (arith, k.node_in e, H.used_in), omega arith, two)) (λ d. two)

    -- a line that answers clears the record
    answers_fine : Proper p m n (cleared w)
    answers_fine = record_proper p m n w 0 0 0 0 0 0 0 l

    older_fine : Fine (to_older f w)
    older_fine = (l, omega arith, two)

    line_39_fine : (r : PhaseRow) (d : Cells → ℕ → Bool) → LineFine r (line d line_39)
    unfolding LineFine line_39
    line_39_fine r d k = answers_fine

    line_43_fine : (r : PhaseRow) (d : Cells → ℕ → Bool) → LineFine r (line d line_43)
    unfolding LineFine line_43
    line_43_fine r d k = by_test Fine (eqb (f (value (f (node w)))) (f (old w)))
        (λ a. by_test Fine (eqb (f (new w)) (f (old w))) (λ b. answers_fine) (λ b. two)) (λ a. answers_fine)

    line_45_fine : (r : PhaseRow) (d : Cells → ℕ → Bool) → LineFine r (line d line_45)
    unfolding LineFine line_45
    line_45_fine r d k = by_test Fine (no_node f) (λ a. answers_fine)
        (λ a. let y : node_to_take f < n = taken_in a in
        let four : Proper p m n (value (node_to_take f) ≔ 0 ∷ older (node_to_take f) ≔ 0 ∷ stamp (node_to_take f) ≔ 0 ∷ new_node w ≔ 0 ∷ []) =
        (y, omega arith, (y, omega arith, (y, omega arith, (l, omega arith, tt)))) in
        both (taking f ++ _) _ (after_taking _ four) two)

    line_46_fine : (r : PhaseRow) (d : Cells → ℕ → Bool) → inside_item r ≡ true → LineFine r (line d line_46)
    unfolding LineFine line_46
    line_46_fine r d e k = by_test Fine (succeeds_46 f w)
        (λ a. (omega (arith, k.item_in e, H.items_in), omega arith, (l, omega arith, two))) (λ a. two)

    line_48_fine : (r : PhaseRow) (d : Cells → ℕ → Bool) → LineFine r (line d line_48)
    unfolding LineFine line_48
    line_48_fine r d k = answers_fine

    line_50_fine : (r : PhaseRow) (d : Cells → ℕ → Bool) → keeps_new_node r ≡ true → LineFine r (line d line_50)
    unfolding LineFine line_50
    line_50_fine r d e k = (omega (arith, k.new_node_in e, H.used_in), omega arith, (omega arith, omega arith, two))

    line_52_fine : (r : PhaseRow) (d : Cells → ℕ → Bool) → LineFine r (line d line_52)
    unfolding LineFine line_52
    line_52_fine r d k = answers_fine

    line_5_fine : (r : PhaseRow) (d : Cells → ℕ → Bool) → LineFine r (line d line_5)
    unfolding LineFine line_5
    line_5_fine r d k = by_test Fine (counter_full f) (λ a. answers_fine) (λ a. (l, omega arith, two))

    line_6_fine : (r : PhaseRow) (d : Cells → ℕ → Bool) → LineFine r (line d line_6)
    unfolding LineFine line_6
    line_6_fine r d k = by_test Fine (succeeds_6 f w) (λ a. (omega arith, omega arith, answers_fine)) (λ a. answers_fine)

    line_34_fine : (r : PhaseRow) (d : Cells → ℕ → Bool) → LineFine r (line d line_34)
    unfolding LineFine line_34
    line_34_fine r d k = by_test Fine (too_new f w) (λ a. older_fine) (λ a. answers_fine)

    total_32_fine : (r : PhaseRow) (d : Cells → ℕ → Bool) → LineFine r (line d total_32)
    unfolding LineFine total_32
    total_32_fine r d k = by_test Fine (ltb (f (handle w)) (f (birth (f (item w))))) (λ a. (l, omega arith, two)) (λ a. (l, omega arith, two))

    total_34_fine : (r : PhaseRow) (d : Cells → ℕ → Bool) → LineFine r (line d total_34)
    unfolding LineFine total_34
    total_34_fine r d k = by_test Fine (too_new f w) (λ a. older_fine) (λ a. (l, omega arith, (l, omega arith, (l, omega arith, two))))

    closing_fine : (r : PhaseRow) (d : Cells → ℕ → Bool) → LineFine r (line d closing)
    unfolding LineFine closing
    closing_fine r d k = answers_fine

    idle_fine : (r : PhaseRow) → LineFine r idle
    unfolding LineFine
    idle_fine r k = tt

    every_row : Rows LineFine table lines
    unfolding table lines
    every_row = (
      idle_fine _,
      (
        fetch_fine _,
        (
          twenty_fine _,
          (
            twenty_one_fine _,
            (
              twenty_two_fine _ refl,
              (
                line_39_fine _ _,
                (
                  fetch_fine _,
                  (
                    twenty_fine _,
                    (
                      twenty_one_fine _,
                      (
                        twenty_two_fine _ refl,
                        (
                          line_43_fine _ _,
                          (
                            line_45_fine _ _,
                            (
                              line_46_fine _ _ refl,
                              (
                                twenty_fine _,
                                (
                                  twenty_one_fine _,
                                  (
                                    twenty_two_fine _ refl,
                                    (
                                      line_48_fine _ _,
                                      (
                                        line_50_fine _ _ refl,
                                        (
                                          fetch_fine _,
                                          (
                                            twenty_fine _,
                                            (
                                              twenty_one_fine _,
                                              (
                                                twenty_two_fine _ refl,
                                                (
                                                  line_52_fine _ _,
                                                  (
                                                    line_5_fine _ _,
                                                    (
                                                      line_6_fine _ _,
                                                      (
                                                        fetch_fine _,
                                                        (
                                                          twenty_fine _,
                                                          (
                                                            twenty_one_fine _,
                                                            (
                                                              twenty_two_fine _ refl,
                                                              (
                                                                line_34_fine _ _,
                                                                (
                                                                  total_32_fine _ _,
                                                                  (
                                                                    twenty_fine _,
                                                                    (
                                                                      twenty_one_fine _,
                                                                      (twenty_two_fine _ refl, (total_34_fine _ _, (closing_fine _ _, tt))),
                                                                    ),
                                                                  ),
                                                                ),
                                                              ),
                                                            ),
                                                          ),
                                                        ),
                                                      ),
                                                    ),
                                                  ),
                                                ),
                                              ),
                                            ),
                                          ),
                                        ),
                                      ),
                                    ),
                                  ),
                                ),
                              ),
                            ),
                          ),
                        ),
                      ),
                    ),
                  ),
                ),
              ),
            ),
          ),
        ),
      ),
    )

    line_fine : (k : ℕ) → k ≤ 35 → KeptIn (row_of k) f w → Fine ((line_of_phase k).does f w)
    unfolding LineFine
    line_fine = at_phase LineFine every_row

  -- ---- the calls

  unless_fine : (rs : List Refusal) (o : Outcome) → (Passed rs → Fine o) → Fine (unless rs o)
  unless_fine = refused_or Fine (λ n. tt)

  abbrev free : ℕ → List Refusal
  free w = worker_damaged f w ⇒ 2 ∷ busy f w ⇒ 4 ∷ []

  abbrev known : ℕ → Bool
  known w = not (eqb (f (phase w)) 0) && running_damaged (row_of (f (phase w))) f w

  worker_in : (w : ℕ) → leb (f workers) w ≡ false → w < p
  worker_in w e = omega (arith, leb-false (f workers) w e, H.workers_are)

  step_fine : (w : ℕ) → Fine (stepping f w)
  unfolding stepping
  step_fine w =
      unless_fine
      (no_worker f w ⇒ 3 ∷ worker_damaged f w ⇒ 2 ∷ step_damaged f w ⇒ 2 ∷ eqb (f (phase w)) 0 ⇒ 5
      ∷ (inside_item (row_of (f (phase w))) && item_damaged f (f (item w))) ⇒ 2 ∷ (line_of_phase (f (phase w))).damaged f w ⇒ 2 ∷ [])
      ((line_of_phase (f (phase w))).does f w)
      (λ k. line_fine w (worker_in w k.0) (f (phase w)) (ltb-false 35 (f (phase w)) (first_false (ltb 35 (f (phase w))) (known w) k.1.0))
      (busy_kept f w k.1.0 k.1.1.1.0))

  register_fine : (v z : ℕ) → Fine (registering f v z)
  unfolding registering
  register_fine v z =
      unless_fine (bad_value f v ⇒ 7 ∷ leb (f items_limit) (f items) ⇒ 10 ∷ no_node f ⇒ 11 ∷ first_damaged f ⇒ 2 ∷ [])
      (accepts (f items) (taking f ++ (value (node_to_take f) ≔ v ∷ older (node_to_take f) ≔ 0 ∷ stamp (node_to_take f) ≔ f counter
      ∷ head (f items) ≔ node_to_take f ∷ birth (f items) ≔ f counter ∷ size (f items) ≔ z ∷ items ≔ (f items + 1) ∷ [])))
      (λ k. let y : node_to_take f < n = taken_in k.1.1.0 in let i : f items < m =
      omega (arith, leb-false (f items_limit) (f items) k.1.0, H.items_are) in
      after_taking _ (
        y,
        omega arith,
        (
          y,
          omega arith,
          (
            y,
            omega arith,
            (i, omega arith, (i, omega arith, (i, omega arith, (omega arith, omega arith, tt)))),
          ),
        ),
      ))

  -- a start writes its worker's record alone
  start_fine : (w ph i o y h q k : ℕ) (rs : List Refusal) → Fine (unless (no_worker f w ⇒ 3 ∷ rs) (accepts 0 (record_of w ph i o y h q k)))
  start_fine w ph i o y h q k rs =
      unless_fine (no_worker f w ⇒ 3 ∷ rs) (accepts 0 (record_of w ph i o y h q k)) (λ z. record_proper p m n w ph i o y h q k (worker_in w z.0))

  -- an abandoned worker's node, where it holds one, and its record
  returned_fine : (w : ℕ) → KeptIn (row_of (f (phase w))) f w → Proper p m n (returned_if_held f w)
  returned_fine w k = at (holds_node f w) refl
    where
      at : (b : Bool) → holds_node f w ≡ b → Proper p m n (cond b (returning f w) [])
      at true e = (omega (arith, k.new_node_in e, H.used_in), omega arith, (omega arith, omega arith, tt))
      at false e = tt

  abandon_fine : (w : ℕ) → Fine (abandoning f w)
  unfolding abandoning
  abandon_fine w =
      unless_fine (no_worker f w ⇒ 3 ∷ worker_damaged f w ⇒ 2 ∷ eqb (f (phase w)) 0 ⇒ 5 ∷ (holds_node f w && returned_node f w) ⇒ 2 ∷ [])
      (accepts 0 (returned_if_held f w ++ cleared w))
      (λ k. both (returned_if_held f w) (cleared w) (returned_fine w (busy_kept f w k.1.0 k.1.1.0))
      (record_proper p m n w 0 0 0 0 0 0 0 (worker_in w k.0)))

  pub call_fine : (x : Call) → Fine (comes_to f x)
  call_fine (Call.make a b c d e) = tt
  call_fine (Call.register v z) = register_fine v z
  call_fine (Call.v_read w i) = unfold starting_v_read in start_fine w v_read_start i 0 0 0 0 0 (free w ++ sound_item f i)
  call_fine (Call.v_cas w i x y) = unfold starting_v_cas in
      start_fine w v_cas_start i x y 0 0 0 (free w ++ sound_item f i ++ ((bad_value f x || bad_value f y) ⇒ 7 ∷ []))
  call_fine (Call.take_snapshot w) = unfold starting_take_snapshot in start_fine w take_snapshot_start 0 0 0 0 0 0 (free w)
  call_fine (Call.read_snapshot w i h) = unfold starting_read_snapshot in
      start_fine w read_snapshot_start i 0 0 h 0 0 (free w ++ sound_item f i ++ (bad_handle f h ⇒ 8 ∷ ltb h (f (birth i)) ⇒ 9 ∷ []))
  call_fine (Call.total w q h) = unfold starting_total in
      start_fine w (cond (eqb (f items) 0) closing_phase total_start) 0 0 0 h q (f items) (free w ++ (bad_value f q ⇒ 7 ∷ bad_handle f h ⇒ 8 ∷ []))
  call_fine (Call.step w) = step_fine w
  call_fine (Call.abandon w) = abandon_fine w
