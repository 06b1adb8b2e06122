-- 'The promise gives 2 exactly then': every answer of `outcome`, on any words, damaged or not, follows UsedWords and RefusalsInOrder.
use Prim.Native.Nat.{ℕ, ◌+◌, ◌≤◌, ◌<◌}
use Rattle.std.specs.Prelude.{Bool, true, false, cond, List, [], ◌∷◌, ◌++◌, map, ◌⊎◌, ◌↔◌, ◌≡◌, refl, length}
use Rattle.std.proofs.Common.{inl, inr, ⊎_elim, sym, ap, ◌∙◌, arith}
use Rattle.definitions.specs.declared.Answer.{Answer}
use Rattle.definitions.specs.declared.PhaseRow.{PhaseRow}
use Rattle.definitions.specs.Cells.{Cells, Assignment, workers, items_limit, nodes_limit, projects, counter_limit, counter, items, used, given_back, phase, cells_of}
use Rattle.definitions.specs.Answers.{Outcome, refused, unless, accepted, accepts, refusal}
use Rattle.definitions.specs.Phases.{table}
use Rattle.definitions.specs.Damage.{header_damaged_at}
use Rattle.definitions.specs.Calls.{
  Call,
  Result,
  free_worker,
  sound_item,
  registering,
  starting_v_read,
  starting_v_cas,
  starting_take_snapshot,
  starting_read_snapshot,
  starting_total,
  stepping,
  abandoning,
  making,
  outcome,
}
use Rattle.runs.specs.UsedWords.{Outside, Row, rows, words_of_worker}
use Rattle.runs.specs.RefusalsInOrder.{Refusal, ◌⇒◌, Follows, First, item_named, start, refusals, refusals_of}
use Rattle.runs.specs.TestsSay.{Says, says_or, says_and, says_not, says_<, says_≤, says_≡, not_<}
use Rattle.runs.specs.RowsSay.{sizes_say, header_says, item_says, first_says, follow, busy_agrees, worker_says, step_says}

-- An outcome that follows a list of refusals.
record Followed (rs : List Refusal) (o : Outcome) : Type 0 where
  follows : Follows rs o.answer

refuse : {k : ℕ} {P : Type 0} {b : Bool} {rs : List Refusal} {y : Outcome} → Says b P → ((P → ⊥) → Followed rs y)
    → Followed (P ⇒ k ∷ rs) (cond b (refused k) y)
refuse {k = k} {P = P} {b = b} {rs = rs} {y = y} s h = record { follows = follow (P ⇒ k) rs b (refused k) y s refl (λ f. (h f).follows) }

accept : (v : ℕ) (xs : List Assignment) → Followed [] (accepts v xs)
accept v xs = record { follows = omega arith }

module _ (m : Cells) where
  item_sound : (i : ℕ) {rs : List Refusal} {y : Outcome} → Followed rs y → Followed (item_named m i ++ rs) (unless (sound_item m i) y)
  item_sound i h = refuse (says_≤ _ _) (λ a. refuse (item_says m i).says (λ b. h))

  module _ (lent : ℕ) where
    -- what comes of a call past a sound header
    abbrev past : Outcome → Outcome
    past =
        cond (header_damaged_at lent (m workers) (m items_limit) (m nodes_limit) (m projects) (m counter_limit) (m counter) (m items) (m used) (m given_back))
        (refused 2)

    starts : (w : ℕ) {rs : List Refusal} {y : Outcome} → Followed rs y → Followed (start m lent w ++ rs) (past (unless (free_worker m w) y))
    starts w h =
        refuse (header_says lent m) (λ a. refuse (says_≤ _ _) (λ b. refuse (worker_says m w (m (phase w))) (λ c. refuse (says_not (says_≡ _ _)) (λ d. h))))

    registers : (v s : ℕ) → Followed (refusals m lent (Call.register v s)) (past (registering m v s))
    unfolding registering
    registers v s =
        refuse (header_says lent m) (λ a. refuse (says_≤ _ _) (λ b. refuse (says_≤ _ _) (λ c. refuse (says_and (says_≡ _ _) (says_≤ _ _)) (λ d.
        refuse (first_says m (m given_back)).says (λ e. accept _ _)))))

    starts_v_read : (w i : ℕ) → Followed (refusals m lent (Call.v_read w i)) (past (starting_v_read m w i))
    unfolding starting_v_read
    starts_v_read w i = starts w (item_sound i (accept _ _))

    starts_v_cas : (w i o n : ℕ) → Followed (refusals m lent (Call.v_cas w i o n)) (past (starting_v_cas m w i o n))
    unfolding starting_v_cas
    starts_v_cas w i o n = starts w (item_sound i (refuse (says_or (says_≤ _ _) (says_≤ _ _)) (λ a. accept _ _)))

    starts_take_snapshot : (w : ℕ) → Followed (refusals m lent (Call.take_snapshot w)) (past (starting_take_snapshot m w))
    unfolding starting_take_snapshot
    starts_take_snapshot w = starts w (accept _ _)

    starts_read_snapshot : (w i h : ℕ) → Followed (refusals m lent (Call.read_snapshot w i h)) (past (starting_read_snapshot m w i h))
    unfolding starting_read_snapshot
    starts_read_snapshot w i h = starts w (item_sound i (refuse (says_≤ _ _) (λ a. refuse (says_< _ _) (λ b. accept _ _))))

    starts_total : (w q h : ℕ) → Followed (refusals m lent (Call.total w q h)) (past (starting_total m w q h))
    unfolding starting_total
    starts_total w q h = starts w (refuse (says_≤ _ _) (λ a. refuse (says_≤ _ _) (λ b. accept _ _)))

    steps_on : (w : ℕ) → Followed (refusals m lent (Call.step w)) (past (stepping m w))
    unfolding stepping
    steps_on w =
        refuse (header_says lent m) (λ h. refuse (says_≤ _ _) (λ a. refuse (worker_says m w p) (λ b. refuse (step_says m w p (known b)).says (λ c.
        refuse (says_≡ p 0) (λ d.
        let u = busy_agrees m w p (known b) d in
        refuse u.of_item.says (λ e. refuse u.of_nodes.says (λ f. record { follows = u.ending })))))))
      where
        p : ℕ
        p = m (phase w)

        known : (Outside (words_of_worker m w) → ⊥) → p ≤ 35
        known f = not_< p 35 (λ h. f (inl (λ k. omega arith)))

    abandons : (w : ℕ) → Followed (refusals m lent (Call.abandon w)) (past (abandoning m w))
    unfolding abandoning
    abandons w =
        refuse (header_says lent m) (λ h. refuse (says_≤ _ _) (λ a. refuse (worker_says m w p) (λ b. refuse (says_≡ p 0) (λ d.
        refuse (busy_agrees m w p (known b) d).abandoned.says (λ e. accept _ _)))))
      where
        p : ℕ
        p = m (phase w)

        known : (Outside (words_of_worker m w) → ⊥) → p ≤ 35
        known f = not_< p 35 (λ h. f (inl (λ k. omega arith)))

make_follows : (b : Bool) (P : Type 0) (x y : List ℕ) → Says b P
    → Follows (P ⇒ 1 ∷ []) (cond {A = Result} b (record { answer = refusal 1 0; words = x }) (record { answer = accepted 0; words = y })).answer
make_follows true P x y s = inl (s.passes refl, refl)
make_follows false P x y s = inr (s.fails refl, omega arith)

-- Every answer, of any call on any words, is that of the first refusal that applies to it; where none does, it is no refusal.
pub refused_exactly : (ws : List ℕ) (c : Call) → Follows (refusals_of ws c) (outcome ws c).answer
unfolding outcome making
refused_exactly ws (Call.make p m n q c) = make_follows _ _ _ _ (says_or (sizes_say p m n q c).says (says_< _ _))
refused_exactly ws (Call.register v s) = (registers (cells_of ws) (length ws) v s).follows
refused_exactly ws (Call.v_read w i) = (starts_v_read (cells_of ws) (length ws) w i).follows
refused_exactly ws (Call.v_cas w i o n) = (starts_v_cas (cells_of ws) (length ws) w i o n).follows
refused_exactly ws (Call.take_snapshot w) = (starts_take_snapshot (cells_of ws) (length ws) w).follows
refused_exactly ws (Call.read_snapshot w i h) = (starts_read_snapshot (cells_of ws) (length ws) w i h).follows
refused_exactly ws (Call.total w q h) = (starts_total (cells_of ws) (length ws) w q h).follows
refused_exactly ws (Call.step w) = (steps_on (cells_of ws) (length ws) w).follows
refused_exactly ws (Call.abandon w) = (abandons (cells_of ws) (length ws) w).follows

numbered : (k : ℕ) (a : Answer) (rs : List Refusal) → Follows rs a → (a.code ≡ 16 + k) ↔ First k rs
numbered k a [] h = (λ e. omega arith, absurd)
numbered k a (r ∷ rs) (inl h) =
    let e : a.code ≡ 16 + r.number = ap (λ (x : Answer). x.code) h.1 in
    (λ f. inl (h.0, omega arith), ⊎_elim (λ x. let y = x.1 in omega arith) (λ x. absurd (x.0 h.0)))
numbered k a (r ∷ rs) (inr h) =
    let next = numbered k a rs h.1 in
    (λ e. inr (h.0, next.0 e), ⊎_elim (λ x. absurd (h.0 x.0)) (λ x. next.1 x.1))

-- A call is refused with number k exactly where k is the number of the first that applies. Of 2: 'the promise gives 2 exactly then'.
pub number_exactly : (ws : List ℕ) (c : Call) (k : ℕ) → ((outcome ws c).answer.code ≡ 16 + k) ↔ First k (refusals_of ws c)
number_exactly ws c k = numbered k (outcome ws c).answer (refusals_of ws c) (refused_exactly ws c)

-- Two answers that follow one list are the same refusal, or both are none: a catalogue that differs from `outcome` in one refusal, on any words, does not follow.
pub one_refusal : (rs : List Refusal) (a b : Answer) → Follows rs a → Follows rs b → (a ≡ b) ⊎ ((a.code < 16) × (b.code < 16))
one_refusal [] a b h k = inr (h, k)
one_refusal (r ∷ rs) a b (inl h) (inl k) = inl (h.1 ∙ sym k.1)
one_refusal (r ∷ rs) a b (inl h) (inr k) = absurd (k.0 h.0)
one_refusal (r ∷ rs) a b (inr h) (inl k) = absurd (h.0 k.0)
one_refusal (r ∷ rs) a b (inr h) (inr k) = one_refusal rs a b h.1 k.1

-- The rows' operations and lines are the table's.
pub rows_of_the_table : (m : Cells) (w : ℕ) →
    (map (λ (u : Row). u.operation) (rows m w) ≡ map (λ (r : PhaseRow). r.operation) table)
    × (map (λ (u : Row). u.line) (rows m w) ≡ map (λ (r : PhaseRow). r.line) table)
unfolding rows table
rows_of_the_table m w = (refl, refl)
