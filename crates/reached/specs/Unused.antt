-- Which cells are in use, and that every call but make leaves at zero those that are not: an end of an operation writes sixteen zeros, a start and
-- a line that goes on leave a phase that is not 0, and whatever else is written is in use afterwards.
use Rattle.std.specs.Prelude.{ℕ, zero, suc, ◌+◌, ◌-◌, ◌/◌, ◌%◌, ◌<◌, ◌≤◌, Bool, cond, not, ◌||◌, ◌&&◌, ◌≢◌, ◌⊎◌, ◌≡◌}
use Rattle.std.proofs.Math.Bool.{true, false}
use mathlib.Core.List.{List, [], ◌∷◌, ◌++◌}
use Rattle.std.proofs.Common.{inl, inr, ap, ap₂, sym, subst, arith, le_refl, ltb-true, ltb-false, eqb-true, lt-ltb, eq-eqb, ne_eqb}
use Rattle.std.proofs.Math.Path.{refl}
use Rattle.std.proofs.Math.Dec.{eqb, ltb, leb}
use Rattle.std.proofs.lemmas.Bool.{eqb-false}
use Rattle.definitions.specs.declared.PhaseRow.{PhaseRow}
use Rattle.definitions.specs.Cells.{Cell, cell, Cells, Assignment, ◌≔◌, items_limit, counter_limit, counter, items, used, given_back, phase, steps, item, old, new, handle, noted, node, new_node, seen, sum_low, sum_high, head, birth, size, value, older, stamp, record_of, cleared}
use Rattle.definitions.specs.Answers.{Outcome, Refusal, unless, ◌⇒◌, goes_on, accepts}
use Rattle.definitions.specs.Phases.{row_of, table, v_read_start, v_cas_start, published, lost, take_snapshot_start, read_snapshot_start, total_start, closing_phase}
use Rattle.definitions.specs.Damage.{TBD, inside_item, bad_value, bad_handle, keeps_node, keeps_new_node, running_damaged, worker_damaged, step_damaged, item_damaged, first_damaged}
use Rattle.definitions.specs.Lines.{lines, line_of_phase, fetch_head, line_20, line_21, line_22, line_39, line_43, line_45, line_46, line_48, line_50, line_52, line_5, line_6, line_34, total_32, total_34, closing, no_node, too_new, to_older, added, returning, returned_node}
use Rattle.definitions.specs.Calls.{Call, busy, no_worker, free_worker, sound_item, registering, registered, starting_v_read, starting_v_cas, starting_take_snapshot, starting_read_snapshot, starting_total, stepping, holds_node, returned_if_held, abandoning}
use Rattle.cells.specs.Stands.{Stands}
use Rattle.cells.specs.Update.{put, after, same_cell}
use Rattle.cells.specs.Made.{comes_to}
use Rattle.cells.specs.Rows.{by_test, Rows, at_phase, Passed, refused_or}
use Rattle.cells.specs.Spares.{first_false, KeptIn, busy_kept}

-- In use are the header's first nine words, the first thirteen of a worker that runs, three of each of u items, and the three of each of t nodes.
abbrev pub in_use : (ℕ → Bool) → (u t : ℕ) → Cell → Bool
in_use runs u t c =
    cond (ltb c.kind 9) true
    (cond (ltb c.kind 16) false
    (cond (ltb c.kind 29) (runs c.index)
    (cond (ltb c.kind 32) false
    (cond (ltb c.kind 35) (ltb c.index u)
    (cond (ltb c.kind 36) false (ltb c.index t))))))

abbrev pub in_use_now : Cells → Cell → Bool
in_use_now f c = in_use (busy f) (f items) (f used) c

-- What has to be kept.
abbrev pub RestZero : (p m n : ℕ) → Cells → Type 0
RestZero p m n f = (c : Cell) → Stands p m n c → in_use_now f c ≡ false → f c ≡ 0

pub never_both : (b : Bool) → b ≡ true → b ≡ false → ⊥
never_both true d e = absurd (let z : ◌≡◌ {A = ℕ} 0 1 = cc in omega arith)
never_both false d e = absurd (let z : ◌≡◌ {A = ℕ} 0 1 = cc in omega arith)

-- With more workers that run, more items and more nodes, more is in use.
module _ (a b : ℕ → Bool) (u v t s : ℕ) (c : Cell) (runs : 16 ≤ c.kind → c.kind < 32 → a c.index ≡ true → b c.index ≡ true)
    (i : u ≤ v) (y : t ≤ s) where
  more_in_use : in_use a u t c ≡ true → in_use b v s c ≡ true
  more_in_use = at (ltb c.kind 9) (ltb c.kind 16) (ltb c.kind 29) (ltb c.kind 32) (ltb c.kind 35) (ltb c.kind 36) refl refl
    where
      use_at : (x₁ x₂ x₃ x₄ x₅ x₆ r h k : Bool) → Bool
      use_at x₁ x₂ x₃ x₄ x₅ x₆ r h k = cond x₁ true (cond x₂ false (cond x₃ r (cond x₄ false (cond x₅ h (cond x₆ false k)))))

      at : (x₁ x₂ x₃ x₄ x₅ x₆ : Bool) → ltb c.kind 16 ≡ x₂ → ltb c.kind 29 ≡ x₃
          → use_at x₁ x₂ x₃ x₄ x₅ x₆ (a c.index) (ltb c.index u) (ltb c.index t) ≡ true
          → use_at x₁ x₂ x₃ x₄ x₅ x₆ (b c.index) (ltb c.index v) (ltb c.index s) ≡ true
      at true x₂ x₃ x₄ x₅ x₆ d e h = refl
      at false true x₃ x₄ x₅ x₆ d e h = h
      at false false true x₄ x₅ x₆ d e h = runs (ltb-false c.kind 16 d) (omega (arith, ltb-true c.kind 29 e)) h
      at false false false true x₅ x₆ d e h = h
      at false false false false true x₆ d e h = lt-ltb c.index v (omega (arith, ltb-true c.index u h))
      at false false false false false true d e h = h
      at false false false false false false d e h = lt-ltb c.index s (omega (arith, ltb-true c.index t h))

  pub less_in_use : in_use b v s c ≡ false → in_use a u t c ≡ false
  less_in_use e = at (in_use a u t c) refl
    where
      at : (x : Bool) → in_use a u t c ≡ x → x ≡ false
      at true d = absurd (never_both (in_use b v s c) (more_in_use d) e)
      at false d = refl

-- ---- assignments

-- Each assignment is to a cell in use, or of 0.
abbrev Tidy : (ℕ → Bool) → (u t : ℕ) → List Assignment → Type 0
Tidy a u t [] = Unit {0}
Tidy a u t (x ∷ xs) = ((in_use a u t x.to ≡ true) ⊎ (x.what ≡ 0)) × Tidy a u t xs

tidy_both : (a : ℕ → Bool) (u t : ℕ) (xs ys : List Assignment) → Tidy a u t xs → Tidy a u t ys → Tidy a u t (xs ++ ys)
tidy_both a u t [] ys h k = k
tidy_both a u t (x ∷ xs) ys h k = (h.0, tidy_both a u t xs ys h.1 k)

after_both : (f : Cells) (xs ys : List Assignment) → after f (xs ++ ys) ≡ after (after f xs) ys
after_both f [] ys = refl
after_both f (x ∷ xs) ys = after_both (put f x.to x.what) xs ys

one_cell : (c d : Cell) → same_cell c d ≡ true → c ≡ d
one_cell c d = at (eqb c.kind d.kind) refl
  where
    at : (b : Bool) → eqb c.kind d.kind ≡ b → cond b (eqb c.index d.index) false ≡ true → c ≡ d
    at true e h = ap₂ cell (eqb-true _ _ e) (eqb-true _ _ h)
    at false e h = absurd (never_both false h refl)

-- A zero that is not in use stays.
stays_zero : (a : ℕ → Bool) (u t : ℕ) (xs : List Assignment) → Tidy a u t xs → (f : Cells) (c : Cell) → in_use a u t c ≡ false → f c ≡ 0
    → after f xs c ≡ 0
stays_zero a u t [] k f c e z = z
stays_zero a u t (x ∷ xs) k f c e z =
    stays_zero a u t xs k.1 (put f x.to x.what) c e (by_test (λ (v : ℕ). v ≡ 0) (same_cell x.to c) (written k.0) (λ d. z))
  where
    written : (in_use a u t x.to ≡ true) ⊎ (x.what ≡ 0) → same_cell x.to c ≡ true → x.what ≡ 0
    written (inl h) d = absurd (never_both (in_use a u t c) (subst (λ (y : Cell). in_use a u t y ≡ true) (one_cell x.to c d) h) e)
    written (inr h) d = h

-- What assignments that take f to g do: they write the records of some workers alone, and leave each of these running or all zero.
record Changed (f g : Cells) (xs : List Assignment) : Type 0 where
  whose : ℕ → Bool
  more_items : f items ≤ g items
  more_nodes : f used ≤ g used
  tidy : Tidy whose (g items) (g used) xs
  others : (w : ℕ) → whose w ≡ false → g (phase w) ≡ f (phase w)
  own : (w : ℕ) → whose w ≡ true → (g (phase w) ≢ 0) ⊎ ((k : ℕ) → 16 ≤ k → k < 32 → g (cell k w) ≡ 0)

abbrev Keeps : Cells → List Assignment → Type 0
Keeps f xs = Changed f (after f xs) xs

-- Then the rest stays zero.
rest_kept : (p m n : ℕ) (f : Cells) (xs : List Assignment) → Keeps f xs → RestZero p m n f → RestZero p m n (after f xs)
rest_kept p m n f xs K Z c s e = at (K.whose c.index) refl
  where
    g : Cells
    g = after f xs

    Runs : (ℕ → Bool) → Type 0
    Runs a = 16 ≤ c.kind → c.kind < 32 → a c.index ≡ true → busy g c.index ≡ true

    still : Runs K.whose → Runs (busy f) → g c ≡ 0
    still h k =
        stays_zero K.whose (g items) (g used) xs K.tidy f c
        (less_in_use K.whose (busy g) (g items) (g items) (g used) (g used) c h (le_refl (g items)) (le_refl (g used)) e)
        (Z c s (less_in_use (busy f) (busy g) (f items) (g items) (f used) (g used) c k K.more_items K.more_nodes e))

    -- a record all zero: c is one of its cells, or no cell of a worker
    rests : ((k : ℕ) → 16 ≤ k → k < 32 → g (cell k c.index) ≡ 0) → (x y : Bool) → ltb c.kind 16 ≡ x → ltb c.kind 32 ≡ y → g c ≡ 0
    rests h true y d k = let l : c.kind < 16 = ltb-true c.kind 16 d in still (λ i j z. absurd (omega arith)) (λ i j z. absurd (omega arith))
    rests h false true d k = h c.kind (ltb-false _ _ d) (ltb-true _ _ k)
    rests h false false d k = let l : 32 ≤ c.kind = ltb-false c.kind 32 k in still (λ i j z. absurd (omega arith)) (λ i j z. absurd (omega arith))

    owned : (g (phase c.index) ≢ 0) ⊎ ((k : ℕ) → 16 ≤ k → k < 32 → g (cell k c.index) ≡ 0) → g c ≡ 0
    owned (inl h) = still (λ i j z. ap not (ne_eqb _ _ h)) (λ i j z. ap not (ne_eqb _ _ h))
    owned (inr h) = rests h (ltb c.kind 16) (ltb c.kind 32) refl refl

    at : (b : Bool) → K.whose c.index ≡ b → g c ≡ 0
    at true d = owned (K.own c.index d)
    at false d = still (λ i j z. absurd (never_both (K.whose c.index) z d))
        (λ i j z. subst (λ (x : ℕ). not (eqb x 0) ≡ true) (sym (K.others c.index d)) z)

-- ---- the ways a call writes

self : (w : ℕ) → eqb w w ≡ true
self w = eq-eqb w w refl

-- k zeros from cell j of worker w on
abbrev zeros_from : (w j k : ℕ) → List Assignment
zeros_from w j zero = []
zeros_from w j (suc k) = cell j w ≔ 0 ∷ zeros_from w (suc j) k

zeros_tidy : (a : ℕ → Bool) (u t w j k : ℕ) → Tidy a u t (zeros_from w j k)
zeros_tidy a u t w j zero = tt
zeros_tidy a u t w j (suc k) = (inr refl, zeros_tidy a u t w (suc j) k)

zeros_keep : (f : Cells) (w j k : ℕ) (c : Cell) → f c ≡ 0 → after f (zeros_from w j k) c ≡ 0
zeros_keep f w j zero c z = z
zeros_keep f w j (suc k) c z =
    zeros_keep (put f (cell j w) 0) w (suc j) k c (by_test (λ (v : ℕ). v ≡ 0) (same_cell (cell j w) c) (λ d. refl) (λ d. z))

zeros_there : (f : Cells) (w j k x : ℕ) → j ≤ x → x < j + k → after f (zeros_from w j k) (cell x w) ≡ 0
zeros_there f w j zero x a b = absurd (omega arith)
zeros_there f w j (suc k) x a b = at (eqb j x) refl (λ l. zeros_there (put f (cell j w) 0) w (suc j) k x l (omega arith))
  where
    later : Cells
    later = after (put f (cell j w) 0) (zeros_from w (suc j) k)

    at : (e : Bool) → eqb j x ≡ e → (suc j ≤ x → later (cell x w) ≡ 0) → later (cell x w) ≡ 0
    at true e h = zeros_keep (put f (cell j w) 0) w (suc j) k (cell x w) (rw (e, self w))
    at false e h = h (omega (arith, eqb-false j x e))

module _ (f : Cells) where
  -- nothing is written
  nothing_changes : Keeps f []
  nothing_changes = record {
    whose = λ w. false;
    more_items = le_refl (f items);
    more_nodes = le_refl (f used);
    tidy = tt;
    others = λ w e. refl;
    own = λ w e. absurd (never_both false e refl);
  }

  -- what a line writes before it goes on or ends: no phase, no number of items, and only what is in use
  record Body (w : ℕ) (xs : List Assignment) : Type 0 where
    same_items : after f xs items ≡ f items
    more_nodes : f used ≤ after f xs used
    tidy : Tidy (eqb w) (f items) (after f xs used) xs
    same_phases : (v : ℕ) → after f xs (phase v) ≡ f (phase v)

  plain : (w : ℕ) (xs : List Assignment) → after f xs items ≡ f items → after f xs used ≡ f used → ((v : ℕ) → after f xs (phase v) ≡ f (phase v))
      → Tidy (eqb w) (f items) (f used) xs → Body w xs
  plain w xs i y v h = record {
    same_items = i;
    more_nodes = omega (arith, y);
    tidy = subst (λ (t : ℕ). Tidy (eqb w) (f items) t xs) (sym y) h;
    same_phases = v;
  }

  empty : (w : ℕ) → Body w []
  empty w = plain w [] refl refl (λ v. refl) tt

  -- the worker goes on, at a phase that is not idle
  goes : (w ph : ℕ) (xs : List Assignment) → Body w xs → ph ≢ 0 → Keeps f (goes_on f w ph xs).writes
  goes w ph xs B h = subst (λ (g : Cells). Changed f g (xs ++ moved)) (sym (after_both f xs moved)) (record {
    whose = eqb w;
    more_items = omega (arith, B.same_items);
    more_nodes = B.more_nodes;
    tidy = tidy_both (eqb w) (after f xs items) (after f xs used) xs moved
        (subst (λ (u : ℕ). Tidy (eqb w) u (after f xs used) xs) (sym B.same_items) B.tidy) (inl (self w), (inl (self w), tt));
    others = λ v e. subst (λ (b : Bool). cond b ph (after f xs (phase v)) ≡ f (phase v)) (sym e) (B.same_phases v);
    own = λ v e. inl (subst (λ (b : Bool). cond b ph (after f xs (phase v)) ≢ 0) (sym e) h);
  })
    where
      moved : List Assignment
      moved = phase w ≔ ph ∷ steps w ≔ (f (steps w) + 1) ∷ []

  -- the operation ends
  ends : (w : ℕ) (xs : List Assignment) → Body w xs → Keeps f (xs ++ cleared w)
  ends w xs B = subst (λ (g : Cells). Changed f g (xs ++ cleared w)) (sym (after_both f xs (cleared w))) (record {
    whose = eqb w;
    more_items = omega (arith, B.same_items);
    more_nodes = B.more_nodes;
    tidy = tidy_both (eqb w) (after f xs items) (after f xs used) xs (cleared w)
        (subst (λ (u : ℕ). Tidy (eqb w) u (after f xs used) xs) (sym B.same_items) B.tidy)
        (zeros_tidy (eqb w) (after f xs items) (after f xs used) w 16 16);
    others = λ v e. subst (λ (b : Bool). cond b 0 (after f xs (phase v)) ≡ f (phase v)) (sym e) (B.same_phases v);
    own = λ v e. inr (λ k a b. subst (λ (x : ℕ). after (after f xs) (cleared w) (cell k x) ≡ 0) (eqb-true w v e)
        (zeros_there (after f xs) w 16 16 k a b));
  })

  -- an operation starts: all sixteen words, with a phase that is not idle
  starts : (w ph i o y h q k : ℕ) → ph ≢ 0 → Keeps f (record_of w ph i o y h q k)
  starts w ph i o y h q k z = record {
    whose = eqb w;
    more_items = le_refl (f items);
    more_nodes = le_refl (f used);
    tidy = (
      inl (self w),
      (
        inl (self w),
        (
          inl (self w),
          (
            inl (self w),
            (
              inl (self w),
              (
                inl (self w),
                (
                  inl (self w),
                  (
                    inl (self w),
                    (inl (self w), (inl (self w), (inl (self w), (inl (self w), (inl (self w), (inr refl, (inr refl, (inr refl, tt)))))))),
                  ),
                ),
              ),
            ),
          ),
        ),
      ),
    );
    others = λ v e. subst (λ (b : Bool). cond b ph (f (phase v)) ≡ f (phase v)) (sym e) refl;
    own = λ v e. inl (subst (λ (b : Bool). cond b ph (f (phase v)) ≢ 0) (sym e) z);
  }

-- ---- the lines

module _ (f : Cells) (first_in : f given_back ≤ f used) where
  abbrev Fine : Outcome → Type 0
  Fine o = Keeps f o.writes

  -- with no node given back, or with one: what is taken, and that it is in use afterwards
  abbrev took : Bool → List Assignment
  took b = cond b (used ≔ (f used + 1) ∷ []) (given_back ≔ f (older (f given_back - 1)) ∷ [])

  abbrev taken : Bool → ℕ
  taken b = cond b (f used) (f given_back - 1)

  taken_new : ltb (f used) (f used + 1) ≡ true
  taken_new = lt-ltb (f used) (f used + 1) (omega arith)

  next_item : ltb (f items) (f items + 1) ≡ true
  next_item = lt-ltb (f items) (f items + 1) (omega arith)

  taken_again : eqb (f given_back) 0 ≡ false → ltb (f given_back - 1) (f used) ≡ true
  taken_again e = lt-ltb (f given_back - 1) (f used) (omega (arith, eqb-false (f given_back) 0 e))

  module _ (w : ℕ) where
    abbrev LineFine : PhaseRow → (Cells → ℕ → Outcome) → Type 0
    LineFine r does = KeptIn r f w → f (phase w) ≢ 0 → Fine (does f w)

    -- a line that answers, and one that goes on at the next phase, writing nothing else or some words
    answered : Keeps f (cleared w)
    answered = ends f w [] (empty f w)

    next : (xs : List Assignment) → Body f w xs → Keeps f (goes_on f w (f (phase w) + 1) xs).writes
    next xs B = goes f w (f (phase w) + 1) xs B (omega arith)

    one_of_two : (b : Bool) (x y : ℕ) → x ≢ 0 → y ≢ 0 → cond b x y ≢ 0
    one_of_two b x y h k = by_test (λ (z : ℕ). z ≢ 0) b (λ d. h) (λ d. k)

    fetched : Body f w (node w ≔ f (head (f (item w))) ∷ [])
    fetched = plain f w _ refl refl (λ v. refl) (inl (self w), tt)

    counter_seen : Body f w (seen w ≔ f counter ∷ [])
    counter_seen = plain f w _ refl refl (λ v. refl) (inl (self w), tt)

    fetch_fine : (r : PhaseRow) → LineFine r fetch_head
    unfolding fetch_head
    fetch_fine r k h = next _ fetched

    twenty_fine : (r : PhaseRow) → LineFine r line_20
    unfolding line_20
    twenty_fine r k h = goes f w _ [] (empty f w)
        (one_of_two (eqb (f (stamp (f (node w)))) TBD) (f (phase w) + 1) (f (phase w) + 3) (omega arith) (omega arith))

    twenty_one_fine : (r : PhaseRow) → LineFine r line_21
    unfolding line_21
    twenty_one_fine r k h = next _ counter_seen

    twenty_two_fine : (r : PhaseRow) → keeps_node r ≡ true → LineFine r line_22
    unfolding line_22
    twenty_two_fine r e k h = by_test Fine (eqb (f (stamp (f (node w)))) TBD)
        (λ d. next (stamp (f (node w)) ≔ f (seen w) ∷ []) (plain f w _ refl refl (λ v. refl) (inl (lt-ltb _ _ (k.node_in e)), tt)))
        (λ d. next [] (empty f w))

    line_43_fine : (r : PhaseRow) → LineFine r line_43
    unfolding line_43
    line_43_fine r k h = by_test Fine (eqb (f (value (f (node w)))) (f (old w)))
        (λ a. by_test Fine (eqb (f (new w)) (f (old w))) (λ b. answered) (λ b. next [] (empty f w))) (λ a. answered)

    line_45_body : (b : Bool) → eqb (f given_back) 0 ≡ b
        → Body f w (took b ++ (value (taken b) ≔ f (new w) ∷ older (taken b) ≔ (f (node w) + 1) ∷ stamp (taken b) ≔ TBD ∷ new_node w ≔ taken b ∷ []))
    line_45_body true e = record {
      same_items = refl;
      more_nodes = omega arith;
      same_phases = λ v. refl;
      tidy = (inl refl, (inl taken_new, (inl taken_new, (inl taken_new, (inl (self w), tt)))));
    }
    line_45_body false e = record {
      same_items = refl;
      more_nodes = le_refl (f used);
      same_phases = λ v. refl;
      tidy = (inl refl, (inl (taken_again e), (inl (taken_again e), (inl (taken_again e), (inl (self w), tt)))));
    }

    line_45_fine : (r : PhaseRow) → LineFine r line_45
    unfolding line_45
    line_45_fine r k h = by_test Fine (no_node f) (λ a. answered) (λ a. next _ (line_45_body (eqb (f given_back) 0) refl))

    line_46_fine : (r : PhaseRow) → inside_item r ≡ true → LineFine r line_46
    unfolding line_46
    line_46_fine r e k h = by_test Fine (eqb (f (head (f (item w)))) (f (node w)))
        (λ a. goes f w published (head (f (item w)) ≔ f (new_node w) ∷ node w ≔ f (new_node w) ∷ [])
        (plain f w _ refl refl (λ v. refl) (inl (lt-ltb _ _ (k.item_in e)), (inl (self w), tt))) (omega arith))
        (λ a. goes f w lost [] (empty f w) (omega arith))

    -- the new node goes back
    returned : f (new_node w) < f used → Body f w (returning f w)
    returned l = plain f w _ refl refl (λ v. refl) (inl (lt-ltb _ _ l), (inl refl, tt))

    line_50_fine : (r : PhaseRow) → keeps_new_node r ≡ true → LineFine r line_50
    unfolding line_50
    line_50_fine r e k h = next (returning f w) (returned (k.new_node_in e))

    line_5_fine : (r : PhaseRow) → LineFine r line_5
    unfolding line_5
    line_5_fine r k h = by_test Fine (leb (f counter_limit) (f counter)) (λ a. answered) (λ a. next _ counter_seen)

    line_6_fine : (r : PhaseRow) → LineFine r line_6
    unfolding line_6
    line_6_fine r k h = by_test Fine (eqb (f counter) (f (seen w)))
        (λ a. ends f w (counter ≔ (f (seen w) + 1) ∷ []) (plain f w _ refl refl (λ v. refl) (inl refl, tt))) (λ a. answered)

    older_fine : f (phase w) ≢ 0 → Fine (to_older f w)
    older_fine h = goes f w (f (phase w)) (node w ≔ (f (older (f (node w))) - 1) ∷ []) (plain f w _ refl refl (λ v. refl) (inl (self w), tt)) h

    line_34_fine : (r : PhaseRow) → LineFine r line_34
    unfolding line_34
    line_34_fine r k h = by_test Fine (too_new f w) (λ a. older_fine h) (λ a. answered)

    -- a total's next item, or its closing step
    next_phase : cond (eqb (f (item w) + 1) (f (noted w))) closing_phase total_start ≢ 0
    next_phase = one_of_two (eqb (f (item w) + 1) (f (noted w))) closing_phase total_start (omega arith) (omega arith)

    total_32_fine : (r : PhaseRow) → LineFine r total_32
    unfolding total_32
    total_32_fine r k h = by_test Fine (ltb (f (handle w)) (f (birth (f (item w)))))
        (λ a. goes f w _ (item w ≔ (f (item w) + 1) ∷ []) (plain f w _ refl refl (λ v. refl) (inl (self w), tt)) next_phase) (λ a. next _ fetched)

    total_34_fine : (r : PhaseRow) → LineFine r total_34
    unfolding total_34
    total_34_fine r k h = by_test Fine (too_new f w) (λ a. older_fine h)
        (λ a. goes f w _ (item w ≔ (f (item w) + 1) ∷ sum_low w ≔ (added f w % 4294967296) ∷ sum_high w ≔ (added f w / 4294967296) ∷ [])
        (plain f w _ refl refl (λ v. refl) (inl (self w), (inl (self w), (inl (self w), tt)))) next_phase)

    every_row : Rows (λ r x. LineFine r x.does) table lines
    unfolding table lines line_39 line_48 line_52 closing
    every_row = (
      (λ k h. nothing_changes f),
      (
        fetch_fine _,
        (
          twenty_fine _,
          (
            twenty_one_fine _,
            (
              twenty_two_fine _ refl,
              (
                (λ k h. answered),
                (
                  fetch_fine _,
                  (
                    twenty_fine _,
                    (
                      twenty_one_fine _,
                      (
                        twenty_two_fine _ refl,
                        (
                          line_43_fine _,
                          (
                            line_45_fine _,
                            (
                              line_46_fine _ refl,
                              (
                                twenty_fine _,
                                (
                                  twenty_one_fine _,
                                  (
                                    twenty_two_fine _ refl,
                                    (
                                      (λ k h. answered),
                                      (
                                        line_50_fine _ refl,
                                        (
                                          fetch_fine _,
                                          (
                                            twenty_fine _,
                                            (
                                              twenty_one_fine _,
                                              (
                                                twenty_two_fine _ refl,
                                                (
                                                  (λ k h. answered),
                                                  (
                                                    line_5_fine _,
                                                    (
                                                      line_6_fine _,
                                                      (
                                                        fetch_fine _,
                                                        (
                                                          twenty_fine _,
                                                          (
                                                            twenty_one_fine _,
                                                            (
                                                              twenty_two_fine _ refl,
                                                              (
                                                                line_34_fine _,
                                                                (
                                                                  total_32_fine _,
                                                                  (
                                                                    twenty_fine _,
                                                                    (
                                                                      twenty_one_fine _,
                                                                      (twenty_two_fine _ refl, (total_34_fine _, ((λ k h. answered), tt))),
                                                                    ),
                                                                  ),
                                                                ),
                                                              ),
                                                            ),
                                                          ),
                                                        ),
                                                      ),
                                                    ),
                                                  ),
                                                ),
                                              ),
                                            ),
                                          ),
                                        ),
                                      ),
                                    ),
                                  ),
                                ),
                              ),
                            ),
                          ),
                        ),
                      ),
                    ),
                  ),
                ),
              ),
            ),
          ),
        ),
      ),
    )

    line_fine : (k : ℕ) → k ≤ 35 → KeptIn (row_of k) f w → f (phase w) ≢ 0 → Fine ((line_of_phase k).does f w)
    line_fine = at_phase (λ r x. LineFine r x.does) every_row

  -- ---- the calls

  unless_fine : (rs : List Refusal) (o : Outcome) → (Passed rs → Fine o) → Fine (unless rs o)
  unless_fine = refused_or Fine (λ n. nothing_changes f)

  abbrev known : ℕ → Bool
  known w = not (eqb (f (phase w)) 0) && running_damaged (row_of (f (phase w))) f w

  step_fine : (w : ℕ) → Fine (stepping f w)
  unfolding stepping
  step_fine w =
      unless_fine
      (no_worker f w ⇒ 3 ∷ worker_damaged f w ⇒ 2 ∷ step_damaged f w ⇒ 2 ∷ eqb (f (phase w)) 0 ⇒ 5
      ∷ (inside_item (row_of (f (phase w))) && item_damaged f (f (item w))) ⇒ 2 ∷ (line_of_phase (f (phase w))).damaged f w ⇒ 2 ∷ [])
      ((line_of_phase (f (phase w))).does f w)
      (λ k. line_fine w (f (phase w)) (ltb-false 35 (f (phase w)) (first_false (ltb 35 (f (phase w))) (known w) k.1.0))
      (busy_kept f w k.1.0 k.1.1.1.0)
      (eqb-false (f (phase w)) 0 k.1.1.1.0))

  abandon_fine : (w : ℕ) → Fine (abandoning f w)
  unfolding abandoning
  abandon_fine w =
      unless_fine (no_worker f w ⇒ 3 ∷ worker_damaged f w ⇒ 2 ∷ eqb (f (phase w)) 0 ⇒ 5 ∷ (holds_node f w && returned_node f w) ⇒ 2 ∷ [])
      (accepts 0 (returned_if_held f w ++ cleared w))
      (λ k. ends f w (returned_if_held f w) (at (holds_node f w) (busy_kept f w k.1.0 k.1.1.0).new_node_in))
    where
      at : (b : Bool) → (b ≡ true → f (new_node w) < f used) → Body f w (cond b (returning f w) [])
      at true h = returned w (h refl)
      at false h = empty f w

  registers : (v z : ℕ) (b : Bool) → eqb (f given_back) 0 ≡ b
      → Keeps f (took b ++ (value (taken b) ≔ v ∷ older (taken b) ≔ 0 ∷ stamp (taken b) ≔ f counter
      ∷ head (f items) ≔ taken b ∷ birth (f items) ≔ f counter ∷ size (f items) ≔ z ∷ items ≔ (f items + 1) ∷ []))
  registers v z true e = record {
    whose = λ w. false;
    more_items = omega arith;
    more_nodes = omega arith;
    others = λ w d. refl;
    own = λ w d. absurd (never_both false d refl);
    tidy = (inl refl, (inl taken_new, (inl taken_new, (inl taken_new, (inl next_item, (inl next_item, (inl next_item, (inl refl, tt))))))));
  }
  registers v z false e = record {
    whose = λ w. false;
    more_items = omega arith;
    more_nodes = le_refl (f used);
    others = λ w d. refl;
    own = λ w d. absurd (never_both false d refl);
    tidy = (
      inl refl,
      (
        inl (taken_again e),
        (
          inl (taken_again e),
          (
            inl (taken_again e),
            (inl next_item, (inl next_item, (inl next_item, (inl refl, tt)))),
          ),
        ),
      ),
    );
  }

  start_fine : (w ph i o y h q k : ℕ) (rs : List Refusal) → ph ≢ 0 → Fine (unless rs (accepts 0 (record_of w ph i o y h q k)))
  start_fine w ph i o y h q k rs z = unless_fine rs (accepts 0 (record_of w ph i o y h q k)) (λ e. starts f w ph i o y h q k z)

  call_keeps : (x : Call) → Fine (comes_to f x)
  call_keeps (Call.make a b c d e) = nothing_changes f
  call_keeps (Call.register v z) = unfold registering in
      unless_fine (bad_value f v ⇒ 7 ∷ leb (f items_limit) (f items) ⇒ 10 ∷ no_node f ⇒ 11 ∷ first_damaged f ⇒ 2 ∷ [])
      (registered f v z) (λ k. registers v z (eqb (f given_back) 0) refl)
  call_keeps (Call.v_read w i) = unfold starting_v_read in start_fine w v_read_start i 0 0 0 0 0 (free_worker f w ++ sound_item f i) (omega arith)
  call_keeps (Call.v_cas w i x y) = unfold starting_v_cas in
      start_fine w v_cas_start i x y 0 0 0 (free_worker f w ++ sound_item f i ++ ((bad_value f x || bad_value f y) ⇒ 7 ∷ [])) (omega arith)
  call_keeps (Call.take_snapshot w) = unfold starting_take_snapshot in start_fine w take_snapshot_start 0 0 0 0 0 0 (free_worker f w) (omega arith)
  call_keeps (Call.read_snapshot w i h) = unfold starting_read_snapshot in
      start_fine w read_snapshot_start i 0 0 h 0 0 (free_worker f w ++ sound_item f i ++ (bad_handle f h ⇒ 8 ∷ ltb h (f (birth i)) ⇒ 9 ∷ []))
      (omega arith)
  call_keeps (Call.total w q h) = unfold starting_total in
      start_fine w (cond (eqb (f items) 0) closing_phase total_start) 0 0 0 h q (f items)
      (free_worker f w ++ (bad_value f q ⇒ 7 ∷ bad_handle f h ⇒ 8 ∷ []))
      (one_of_two w (eqb (f items) 0) closing_phase total_start (omega arith) (omega arith))
  call_keeps (Call.step w) = step_fine w
  call_keeps (Call.abandon w) = abandon_fine w

-- Every call but make leaves what is not in use at zero, whatever else the cells hold.
pub call_keeps_rest : (p m n : ℕ) (f : Cells) → f given_back ≤ f used → (x : Call) → RestZero p m n f
    → RestZero p m n (after f (comes_to f x).writes)
call_keeps_rest p m n f h x Z = rest_kept p m n f (comes_to f x).writes (call_keeps f h x) Z
