-- What an accepted make leaves: the five sizes, and every other cell zero. And what any other call comes to, on cells.
use Rattle.std.specs.Prelude.{ℕ, suc, ◌-◌, ◌<◌, ◌≤◌, Bool, ◌||◌, List, [], ◌∷◌, ◌++◌, ◌≡◌, length, get_or, drop}
use Rattle.std.proofs.Math.Bool.{true, false, cond}
use Rattle.std.proofs.Math.Path.{refl}
use Rattle.std.proofs.Common.{ap, ◌∙◌, subst, arith, length-append}
use Rattle.std.proofs.Math.Dec.{ltb}
use Rattle.std.proofs.Math.ListN.{get_or-append}
use Rattle.std.proofs.lemmas.List.{length-replicate, get_or-replicate}
use borrow.Author.Tests.{ltb-false}
use Rattle.definitions.specs.Cells.{Cell, Cells, workers, items_limit, nodes_limit, projects, counter_limit, place, items_start, nodes_start, needed, cells_of}
use Rattle.definitions.specs.Answers.{Outcome, unless, refused, ◌⇒◌, accepted, refusal}
use Rattle.definitions.specs.Damage.{any_of, sizes_outside, header_damaged}
use Rattle.definitions.specs.Calls.{Call, make, register, v_read, v_cas, take_snapshot, read_snapshot, total, step, abandon, Result, outcome, on_catalogue, leaving, fresh, making, registering, starting_v_read, starting_v_cas, starting_take_snapshot, starting_read_snapshot, starting_total, stepping, abandoning}
use Rattle.cells.specs.Stands.{Stands, place_below, place_past_sizes}
use Rattle.cells.specs.Words.{Sized}

-- What a call other than make comes to on cells whose header is not damaged.
abbrev pub comes_to : Cells → Call → Outcome
comes_to f (make p m n q c) = refused 1
comes_to f (register v s) = registering f v s
comes_to f (v_read w i) = starting_v_read f w i
comes_to f (v_cas w i o n) = starting_v_cas f w i o n
comes_to f (take_snapshot w) = starting_take_snapshot f w
comes_to f (read_snapshot w i h) = starting_read_snapshot f w i h
comes_to f (total w q h) = starting_total f w q h
comes_to f (step w) = stepping f w
comes_to f (abandon w) = abandoning f w

abbrev pub is_make : Call → Bool
is_make (make p m n q c) = true
is_make (register v s) = false
is_make (v_read w i) = false
is_make (v_cas w i o n) = false
is_make (take_snapshot w) = false
is_make (read_snapshot w i h) = false
is_make (total w q h) = false
is_make (step w) = false
is_make (abandon w) = false

-- Any call but make is what it comes to on the words' own cells, unless the header is damaged.
pub on_words : (ws : List ℕ) (x : Call) → is_make x ≡ false → outcome ws x ≡ on_catalogue ws (λ f. comes_to f x)
on_words ws (make p m n q c) e = absurd (let z : ◌≡◌ {A = ℕ} 0 1 = cc in omega arith)
on_words ws (register v s) e = unfold outcome in refl
on_words ws (v_read w i) e = unfold outcome in refl
on_words ws (v_cas w i o n) e = unfold outcome in refl
on_words ws (take_snapshot w) e = unfold outcome in refl
on_words ws (read_snapshot w i h) e = unfold outcome in refl
on_words ws (total w q h) e = unfold outcome in refl
on_words ws (step w) e = unfold outcome in refl
on_words ws (abandon w) e = unfold outcome in refl

pub outcome_comes : (ws : List ℕ) (x : Call) → is_make x ≡ false → header_damaged ws ≡ false → outcome ws x ≡ leaving ws (comes_to (cells_of ws) x)
outcome_comes ws x other sound = on_words ws x other ∙ ap (λ (b : Bool). leaving ws (unless (b ⇒ 2 ∷ []) (comes_to (cells_of ws) x))) sound

-- The words of a fresh catalogue.
pub record Fresh (p m n q c : ℕ) (f : Cells) : Type 0 where
  pub workers_are : f workers ≡ p
  pub items_are : f items_limit ≡ m
  pub nodes_are : f nodes_limit ≡ n
  pub projects_are : f projects ≡ q
  pub limit_is : f counter_limit ≡ c
  pub rest_zero : (d : Cell) → Stands p m n d → 5 ≤ d.kind → f d ≡ 0

abbrev pub made : List ℕ → (p m n q c : ℕ) → List ℕ
made ws p m n q c = fresh p m n q c ++ drop (needed p m n) ws

module _ (ws : List ℕ) (p m n q c : ℕ) where
  pub length_fresh : length (fresh p m n q c) ≡ needed p m n
  length_fresh = omega (arith, length-replicate {A = ℕ} (needed p m n - 5) 0)

  made_at : (k : ℕ) → k < needed p m n → get_or (made ws p m n q c) k 0 ≡ get_or (fresh p m n q c) k 0
  made_at k h = get_or-append (fresh p m n q c) (drop (needed p m n) ws) 0 k (omega (arith, length_fresh))

  fresh_past : (k : ℕ) → 5 ≤ k → k < needed p m n → get_or (fresh p m n q c) k 0 ≡ 0
  fresh_past k l h = subst (λ (x : ℕ). get_or (fresh p m n q c) x 0 ≡ 0) five (get_or-replicate {A = ℕ} (needed p m n - 5) (k - 5) 0 0 (omega arith))
    where
      five : suc (suc (suc (suc (suc (k - 5))))) ≡ k
      five = omega arith

  pub made_sized : Sized p m n (made ws p m n q c)
  made_sized = record {
    workers_are = refl;
    items_are = refl;
    nodes_are = refl;
    enough = omega (arith, length-append (fresh p m n q c) (drop (needed p m n) ws), length_fresh);
  }

  pub made_fresh : Fresh p m n q c (cells_of (made ws p m n q c))
  made_fresh = record {
    workers_are = refl;
    items_are = refl;
    nodes_are = refl;
    projects_are = refl;
    limit_is = refl;
    rest_zero = λ d h l. made_at (place (items_start p) (nodes_start p m) d) (place_below p m n d h)
        ∙ fresh_past (place (items_start p) (nodes_start p m) d) (place_past_sizes p m n d h l) (place_below p m n d h);
  }

  -- An accepted make: its sizes are in their ranges and the lent words are enough.
  pub record Accepted : Type 0 where
    pub in_range : any_of (sizes_outside p m n q c) ≡ false
    pub enough : needed p m n ≤ length ws
    pub leaves : (outcome ws (make p m n q c)).words ≡ made ws p m n q c

  pub make_accepts : (outcome ws (make p m n q c)).answer.code ≡ 2 → Accepted
  unfolding outcome making
  make_accepts = at (any_of (sizes_outside p m n q c)) refl (ltb (length ws) (needed p m n)) refl
    where
      at : (a : Bool) → any_of (sizes_outside p m n q c) ≡ a → (b : Bool) → ltb (length ws) (needed p m n) ≡ b
          → (cond {A = Result} (a || b) (record { answer = refusal 1 0; words = ws })
          (record { answer = accepted 0; words = made ws p m n q c })).answer.code ≡ 2 → Accepted
      at true e b f h = absurd (omega arith)
      at false e true f h = absurd (omega arith)
      at false e false f h = record { in_range = e; enough = ltb-false _ _ f; leaves = unfold outcome making in rw (e, f) }

  -- Any other make changes no word.
  pub make_refuses : ((outcome ws (make p m n q c)).answer.code ≡ 2 → ⊥) → outcome ws (make p m n q c) ≡ record { answer = refusal 1 0; words = ws }
  unfolding outcome making
  make_refuses = at (any_of (sizes_outside p m n q c) || ltb (length ws) (needed p m n))
    where
      at : (b : Bool) → ((cond {A = Result} b (record { answer = refusal 1 0; words = ws })
          (record { answer = accepted 0; words = made ws p m n q c })).answer.code ≡ 2 → ⊥)
          → cond {A = Result} b (record { answer = refusal 1 0; words = ws })
          (record { answer = accepted 0; words = made ws p m n q c }) ≡ record { answer = refusal 1 0; words = ws }
      at true h = refl
      at false h = absurd (h refl)
