-- On any words, damaged or not: a call leaves as many words as there were, none past the needed ones is touched, and where the header is not damaged
-- every cell afterwards is what the call's assignments say.
use Rattle.std.specs.Prelude.{ℕ, ◌+◌, ◌-◌, ◌≤◌, Bool, true, false, List, [], ◌∷◌, ◌≡◌, refl, ltb, length, get_or, drop}
use Rattle.std.proofs.Common.{ap, sym, ◌∙◌, subst, arith, length-append, length-drop, get_or-append-add, get_or-drop}
use borrow.Author.Tests.{ltb-false}
use Rattle.definitions.specs.Cells.{workers, items_limit, nodes_limit, projects, counter_limit, counter, items, used, given_back, needed, cells_of, items_offset, nodes_offset}
use Rattle.definitions.specs.Answers.{unless, ◌⇒◌}
use Rattle.definitions.specs.Damage.{any_of, sizes_outside, header_damaged, header_damaged_at}
use Rattle.definitions.specs.Calls.{Call, Result, outcome, leaving, fresh}
use Rattle.cells.specs.Update.{after, length_written, written_past}
use Rattle.cells.specs.Words.{Sized, Left, leaves}
use Rattle.cells.specs.Made.{comes_to, is_make, on_words, made, length_fresh}
use Rattle.cells.specs.Spares.{none_at, HeaderIn, call_fine}

-- All the words that a catalogue with these words' header needs.
abbrev pub needed_by : List ℕ → ℕ
needed_by ws = needed (get_or ws 0 0) (get_or ws 1 0) (get_or ws 2 0)

module _ (ws : List ℕ) (sound : header_damaged ws ≡ false) where
  tests : List Bool
  tests =
      any_of (sizes_outside (cells_of ws workers) (cells_of ws items_limit) (cells_of ws nodes_limit) (cells_of ws projects) (cells_of ws counter_limit))
      ∷ ltb (cells_of ws counter_limit) (cells_of ws counter) ∷ ltb (cells_of ws items_limit) (cells_of ws items)
      ∷ ltb (cells_of ws nodes_limit) (cells_of ws used)
      ∷ ltb (cells_of ws used) (cells_of ws given_back) ∷ ltb (length ws) (needed (cells_of ws workers) (cells_of ws items_limit) (cells_of ws nodes_limit))
      ∷ []

  passed : any_of tests ≡ false
  unfolding tests header_damaged_at
  passed = sound

  -- what a header that is not damaged says
  pub header_in : HeaderIn (get_or ws 0 0) (get_or ws 1 0) (get_or ws 2 0) (cells_of ws)
  unfolding tests
  header_in = record {
    workers_are = refl;
    items_are = refl;
    nodes_are = refl;
    items_in = ltb-false _ _ (none_at tests 2 passed);
    used_in = ltb-false _ _ (none_at tests 3 passed);
    first_in = ltb-false _ _ (none_at tests 4 passed);
  }

  pub sized : Sized (get_or ws 0 0) (get_or ws 1 0) (get_or ws 2 0) ws
  unfolding tests
  sized = record { workers_are = refl; items_are = refl; nodes_are = refl; enough = ltb-false _ _ (none_at tests 5 passed) }

  -- A call but make leaves words of the same sizes, whose cells are those before, changed by its assignments.
  pub call_leaves : (x : Call) → Left (get_or ws 0 0) (get_or ws 1 0) (get_or ws 2 0) ws (leaving ws (comes_to (cells_of ws) x)).words
      (after (cells_of ws) (comes_to (cells_of ws) x).writes)
  call_leaves x = leaves (get_or ws 0 0) (get_or ws 1 0) (get_or ws 2 0) ws sized (comes_to (cells_of ws) x)
      (call_fine (get_or ws 0 0) (get_or ws 1 0) (get_or ws 2 0) (cells_of ws) header_in x)

  leaves_past : (x : Call) (k : ℕ) → needed_by ws ≤ k → get_or (leaving ws (comes_to (cells_of ws) x)).words k 0 ≡ get_or ws k 0
  leaves_past x k l =
      written_past (get_or ws 0 0) (get_or ws 1 0) (get_or ws 2 0) ws (comes_to (cells_of ws) x).writes k l
      (call_fine (get_or ws 0 0) (get_or ws 1 0) (get_or ws 2 0) (cells_of ws) header_in x)

-- Whatever the words: as many afterwards, and none past the needed ones touched.
pub record PastUntouched (ws after_ws : List ℕ) (end : ℕ) : Type 0 where
  pub as_many : length after_ws ≡ length ws
  pub past : (k : ℕ) → end ≤ k → get_or after_ws k 0 ≡ get_or ws k 0

pub call_untouched : (ws : List ℕ) (x : Call) → is_make x ≡ false → PastUntouched ws (outcome ws x).words (needed_by ws)
call_untouched ws x other = subst (λ (r : Result). PastUntouched ws r.words (needed_by ws)) (sym (on_words ws x other)) (at (header_damaged ws) refl)
  where
    at : (b : Bool) → header_damaged ws ≡ b → PastUntouched ws (leaving ws (unless (b ⇒ 2 ∷ []) (comes_to (cells_of ws) x))).words (needed_by ws)
    at true e = record { as_many = refl; past = λ k l. refl }
    at false e = record { as_many = length_written (items_offset ws) (nodes_offset ws) ws (comes_to (cells_of ws) x).writes; past = leaves_past ws e x }

pub make_untouched : (ws : List ℕ) (p m n q c : ℕ) → needed p m n ≤ length ws → PastUntouched ws (made ws p m n q c) (needed p m n)
make_untouched ws p m n q c long = record {
  as_many = omega (arith, length-append (fresh p m n q c) (drop (needed p m n) ws), length-drop (needed p m n) ws, length_fresh ws p m n q c);
  past = λ k l. ap (λ (j : ℕ). get_or (made ws p m n q c) j 0) (place k l) ∙ get_or-append-add (fresh p m n q c) (drop (needed p m n) ws) (k - needed p m n) 0
      ∙ get_or-drop (needed p m n) ws (k - needed p m n) 0 ∙ ap (λ (j : ℕ). get_or ws j 0) (omega arith);
}
  where
    place : (k : ℕ) → needed p m n ≤ k → k ≡ length (fresh p m n q c) + (k - needed p m n)
    place k l = omega (arith, length_fresh ws p m n q c)
