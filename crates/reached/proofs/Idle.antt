-- What is not in use is zero, in every history (the statement: specs/Idle).
use Rattle.std.specs.Prelude.{ℕ, ◌+◌, ◌*◌, ◌<◌, ◌≤◌, Bool, true, false, cond, not, List, [], ◌∷◌, ◌⊎◌, ◌≡◌, refl, eqb, ltb, get_or}
use Rattle.std.proofs.Common.{inl, inr, ap, sym, ◌∙◌, subst, arith, ltb-true, ltb-false, lt-ltb, le-ltb, eq-eqb}
use Rattle.definitions.specs.Cells.{node_words, Cell, cell, Cells, items, used, phase, place, items_start, nodes_start, cells_of}
use Rattle.definitions.specs.Answers.{unless, ◌⇒◌}
use Rattle.definitions.specs.Damage.{header_damaged}
use Rattle.definitions.specs.Calls.{Call, Result, outcome, leaving, busy}
use Rattle.cells.specs.Stands.{Stands, place_below}
use Rattle.cells.specs.Update.{after}
use Rattle.cells.specs.Words.{Sized, Left, leaves, shows_own}
use Rattle.cells.specs.Made.{comes_to, is_make, on_words, made, made_sized, made_fresh, make_accepts, make_refuses}
use Rattle.cells.specs.Rows.{by_test}
use Rattle.cells.specs.Spares.{HeaderIn, call_fine}
use Rattle.cells.specs.Untouched.{header_in}
use Rattle.history.specs.Notes.{Note, start, RunCall, History}
use Rattle.reached.specs.Unused.{in_use_now, RestZero, never_both, less_in_use, call_keeps_rest}
use Rattle.reached.specs.Idle.{ZeroAt, UnusedZero}

-- ---- the words

-- The words hold a catalogue of these sizes, whose cells that are not in use are zero.
record Tidied (p m n : ℕ) (ws : List ℕ) : Type 0 where
  sized : Sized p m n ws
  rest_zero : RestZero p m n (cells_of ws)

worker_stands : (p m n : ℕ) (c : Cell) → Stands p m n c → 16 ≤ c.kind → c.kind < 32 → c.index < p
worker_stands p m n c s a b = rw (le-ltb c.kind 16 a, lt-ltb c.kind 32 b) at s

-- Cells that agree with others where they stand have the same cells in use.
rest_agrees : (p m n : ℕ) (f g : Cells) → ((c : Cell) → Stands p m n c → g c ≡ f c) → RestZero p m n f → RestZero p m n g
rest_agrees p m n f g A Z c s e =
    A c s ∙ Z c s (less_in_use (busy f) (busy g) (f items) (g items) (f used) (g used) c
    (λ a b h. subst (λ (x : ℕ). not (eqb x 0) ≡ true) (sym (A (phase c.index) (worker_stands p m n c s a b))) h)
    (omega (arith, A items (omega arith))) (omega (arith, A used (omega arith))) e)

module _ (p m n : ℕ) (ws : List ℕ) (T : Tidied p m n ws) where
  header_fits : header_damaged ws ≡ false → HeaderIn p m n (cells_of ws)
  header_fits e = record {
    workers_are = T.sized.workers_are;
    items_are = T.sized.items_are;
    nodes_are = T.sized.nodes_are;
    items_in = omega (arith, (header_in ws e).items_in, T.sized.items_are);
    used_in = omega (arith, (header_in ws e).used_in, T.sized.nodes_are);
    first_in = (header_in ws e).first_in;
  }

  -- any call but make, on any words
  other_call : (x : Call) → is_make x ≡ false → Tidied p m n (outcome ws x).words
  other_call x other = subst (λ (r : Result). Tidied p m n r.words) (sym (on_words ws x other)) (at (header_damaged ws) refl)
    where
      f : Cells
      f = cells_of ws

      at : (b : Bool) → header_damaged ws ≡ b → Tidied p m n (leaving ws (unless (b ⇒ 2 ∷ []) (comes_to f x))).words
      at true e = T
      at false e = record {
        sized = L.sized;
        rest_zero = rest_agrees p m n (after f (comes_to f x).writes) (cells_of (leaving ws (comes_to f x)).words) L.shows
            (call_keeps_rest p m n f (header_fits e).first_in x T.rest_zero);
      }
        where
          L : Left p m n ws (leaving ws (comes_to f x)).words (after f (comes_to f x).writes)
          L = leaves p m n ws T.sized (comes_to f x) (call_fine p m n f (header_fits e) x)

  -- a call of a run: any but an accepted make
  run_call : (x : Call) → RunCall ws x → Tidied p m n (outcome ws x).words
  run_call (Call.make a b d q c) t = subst (λ (r : Result). Tidied p m n r.words) (sym (make_refuses ws a b d q c (t.no_make a b d q c refl))) T
  run_call (Call.register v z) t = other_call (Call.register v z) refl
  run_call (Call.v_read w i) t = other_call (Call.v_read w i) refl
  run_call (Call.v_cas w i x y) t = other_call (Call.v_cas w i x y) refl
  run_call (Call.take_snapshot w) t = other_call (Call.take_snapshot w) refl
  run_call (Call.read_snapshot w i h) t = other_call (Call.read_snapshot w i h) refl
  run_call (Call.total w q h) t = other_call (Call.total w q h) refl
  run_call (Call.step w) t = other_call (Call.step w) refl
  run_call (Call.abandon w) t = other_call (Call.abandon w) refl

  -- a cell that stands and is not in use, as a word
  zero_word : (c : Cell) → Stands p m n c → in_use_now (cells_of ws) c ≡ false → (k : ℕ) → place (items_start p) (nodes_start p m) c ≡ k
      → ZeroAt ws k
  zero_word c s e k h = subst (ZeroAt ws) h
      (omega (arith, place_below p m n c s, T.sized.enough), shows_own p m n ws T.sized c s ∙ T.rest_zero c s e)

  -- word k of a worker's record: one of an idle worker, or one that is never in use
  worker_zero : (w : ℕ) → w < p → (k : ℕ) → k < 16 → (cells_of ws (phase w) ≡ 0) ⊎ (13 ≤ k) → ZeroAt ws (16 + 16 * w + k)
  worker_zero w l k b h = zero_word (cell (16 + k) w) (rw (past, below) l)
      (rw (le-ltb (16 + k) 9 (omega arith), past, below) (at (ltb (16 + k) 29) refl h)) (16 + 16 * w + k) (rw (past, below) (omega arith))
    where
      past : ltb (16 + k) 16 ≡ false
      past = le-ltb (16 + k) 16 (omega arith)

      below : ltb (16 + k) 32 ≡ true
      below = lt-ltb (16 + k) 32 (omega arith)

      at : (b : Bool) → ltb (16 + k) 29 ≡ b → (cells_of ws (phase w) ≡ 0) ⊎ (13 ≤ k) → cond b (busy (cells_of ws) w) false ≡ false
      at true e (inl z) = rw (eq-eqb (cells_of ws (phase w)) 0 z)
      at true e (inr z) = absurd (omega (arith, ltb-true (16 + k) 29 e))
      at false e z = refl

  item_zero : (i : ℕ) → get_or ws 6 0 ≤ i → i < m → (k : ℕ) → k < 4 → ZeroAt ws (16 + 16 * p + 4 * i + k)
  item_zero i u l k b = zero_word (cell (32 + k) i) (rw (past_16, past_32, below) l)
      (rw (le-ltb (32 + k) 9 (omega arith), past_16, le-ltb (32 + k) 29 (omega arith), past_32, below)
      (by_test (λ (b : Bool). b ≡ false) (ltb (32 + k) 35) (λ e. le-ltb _ _ u) (λ e. refl)))
      (16 + 16 * p + 4 * i + k) (rw (past_16, past_32, below) (omega arith))
    where
      past_16 : ltb (32 + k) 16 ≡ false
      past_16 = le-ltb (32 + k) 16 (omega arith)

      past_32 : ltb (32 + k) 32 ≡ false
      past_32 = le-ltb (32 + k) 32 (omega arith)

      below : ltb (32 + k) 36 ≡ true
      below = lt-ltb (32 + k) 36 (omega arith)

  node_zero : (y : ℕ) → get_or ws 7 0 ≤ y → y < n → (k : ℕ) → k < node_words → ZeroAt ws (16 + 16 * p + 4 * m + (node_words * y + k))
  node_zero y t l k b = zero_word (cell (36 + k) y) (rw (past_16, past_32, past_36, lt-ltb (36 + k) (36 + node_words) (omega arith)) l)
      (rw (le-ltb (36 + k) 9 (omega arith), past_16, le-ltb (36 + k) 29 (omega arith), past_32, le-ltb (36 + k) 35 (omega arith), past_36)
      (le-ltb _ _ t))
      (16 + 16 * p + 4 * m + (node_words * y + k)) (rw (past_16, past_32, past_36) (omega arith))
    where
      past_16 : ltb (36 + k) 16 ≡ false
      past_16 = le-ltb (36 + k) 16 (omega arith)

      past_32 : ltb (36 + k) 32 ≡ false
      past_32 = le-ltb (36 + k) 32 (omega arith)

      past_36 : ltb (36 + k) 36 ≡ false
      past_36 = le-ltb (36 + k) 36 (omega arith)

  unused_words : UnusedZero p m n ws
  unused_words = record {
    idle_worker = λ w l z k b. worker_zero w l k b (inl (ap (λ (x : ℕ). get_or ws x 0) (omega arith) ∙ z));
    header_unused = λ k a b. zero_word (cell k 0) (rw (lt-ltb k 16 b) (omega arith)) (rw (le-ltb k 9 a, lt-ltb k 16 b)) k (rw (lt-ltb k 16 b));
    worker_unused = λ w l k a b. worker_zero w l k b (inr a);
    item_unused = λ i l. zero_word (cell 35 i) l refl (16 + 16 * p + 4 * i + 3) (omega arith);
    later_items = item_zero;
    later_nodes = node_zero;
  }

-- ---- from an accepted make

module _ (ws : List ℕ) (p m n q c : ℕ) (accepted : (outcome ws (Call.make p m n q c)).answer.code ≡ 2) where
  past_sizes : (f : Cells) (d : Cell) → in_use_now f d ≡ false → 5 ≤ d.kind
  past_sizes f d = at (ltb d.kind 9) refl
    where
      at : (b : Bool) → ltb d.kind 9 ≡ b → in_use_now f d ≡ false → 5 ≤ d.kind
      at true e h = absurd (never_both (in_use_now f d) (rw e) h)
      at false e h = omega (arith, ltb-false d.kind 9 e)

  start_tidied : Tidied p m n (start ws p m n q c)
  start_tidied = subst (Tidied p m n) (sym (make_accepts ws p m n q c accepted).leaves) (record {
    sized = made_sized ws p m n q c;
    rest_zero = λ d s e. (made_fresh ws p m n q c).rest_zero d s (past_sizes (cells_of (made ws p m n q c)) d e);
  })

-- In every history what is not in use is zero,
module _ {p m n q c : ℕ} where
  tidied : {now : List ℕ} {run : List Note} → History p m n q c now run → Tidied p m n now
  tidied (History.made ws e) = start_tidied ws p m n q c e
  tidied (History.called {now} h x k) = run_call p m n now (tidied h) x k

  pub unused_zero : {now : List ℕ} {run : List Note} → History p m n q c now run → UnusedZero p m n now
  unused_zero {now} h = unused_words p m n now (tidied h)

  -- and so an idle worker's record is all zero.
  pub idle_record_zero : {now : List ℕ} {run : List Note} → History p m n q c now run → (w : ℕ) → w < p → get_or now (16 + 16 * w) 0 ≡ 0 →
      (k : ℕ) → k < 16 → ZeroAt now (16 + 16 * w + k)
  idle_record_zero h = (unused_zero h).idle_worker
