-- Nodes are counted: those published, held and given back are those ever used. So the versions are at most N.
use Rattle.std.specs.Prelude.{◌≡◌, ◌≢◌, Bool, cond, not, List, [], ◌∷◌, ltb, eqb}
use Rattle.std.proofs.Math.Path.{refl, ap, sym, subst}
use Rattle.std.proofs.Common.{ap₂, ◌∙◌, ltb→lt}
use Rattle.std.proofs.Math.Bool.{true, false}
use Prim.Native.Nat.{ℕ, zero, suc, ◌+◌, ◌≤◌, ◌<◌}
use native.Mathlib.Omega.{arith}
use Rattle.std.proofs.Math.Dec.{T, nleb→lt}
use Rattle.std.proofs.Math.ListN.{length}
use Rattle.definitions.specs.Answers.{accepted}
use Rattle.definitions.specs.Calls.{Call}
use Rattle.history.specs.Tools.{put, put_all, put_same, put_other, by_eq, by_lt, by_le, by_test, Split, split, Same, eq, ne, same?}
use Rattle.history.specs.Machine.{
  Item,
  Memory,
  Limits,
  Found,
  no_node,
  node,
  first_free,
  node_to_take,
  none_left,
  found,
  used_next,
  all_but_first,
  one_taken,
  one_returned,
  Operation,
  register,
  v_read,
  v_cas,
  take_snapshot,
  read_snapshot,
  total,
  Then,
  then_39,
  then_43,
  then_48,
  then_52,
  then_34,
  then_total_34,
  Phase,
  line_37,
  line_39,
  line_41,
  line_43,
  line_45,
  line_46,
  line_48,
  line_50,
  line_51,
  line_52,
  line_5,
  line_6,
  line_32,
  line_34,
  total_32,
  total_34,
  closing,
  line_20,
  line_21,
  line_22,
  after,
  total_at,
  helped_item,
  line_number,
  Effect,
  nothing,
  counts,
  publishes,
  stamps,
  takes_node,
  gives_back,
  Comes,
  goes_on,
  ends_with,
  answers_change,
  answers,
  Next,
  on_45,
  line,
  memory_after,
  published,
  stamped,
  Worker,
  idle,
  busy,
  Catalogue,
  tick,
  settle,
  affect,
  is_idle,
  newborn,
  step_refusals,
  worker_refusals,
  register_refusals,
  stepped,
  stepping,
  first_phase,
  begun,
  starting,
  registered,
  registering,
  move,
  call,
  fresh,
  Event,
  called,
  reader_starts,
  reader_steps,
  left,
  abandoning,
  held_node,
  give,
  left_off,
  reader,
  reader_refusals,
  event_move,
  happens,
  after_events,
}
use Rattle.history.proofs.Changes.{Allowed}
use Rattle.history.proofs.PhaseFacts.{PhaseFacts}
use Rattle.history.proofs.RightAnswers.{phase_operation, has_published, LineRight}
use Rattle.history.proofs.EachLine.{every_line}
use Rattle.history.proofs.Places.{Invariant, WorkerRight}
use Rattle.history.proofs.Run.{Passed, unless_all, run_right}

-- ---- sums

-- f 0 + .. + f (n - 1)
unfoldable pub sum_to : (ℕ → ℕ) → ℕ → ℕ
sum_to f zero = 0
sum_to f (suc n) = f n + sum_to f n

pub sum_same : (f g : ℕ → ℕ) (n : ℕ) → ((x : ℕ) → x < n → g x ≡ f x) → sum_to g n ≡ sum_to f n
unfolding sum_to
sum_same f g zero h = refl
sum_same f g (suc n) h = ap₂ (λ (a b : ℕ). a + b) (h n (omega arith)) (sum_same f g n (λ x p. h x (omega arith)))

-- one of them changes
pub sum_change : (f g : ℕ → ℕ) (i n : ℕ) → i < n → ((x : ℕ) → x ≢ i → g x ≡ f x) → sum_to g n + f i ≡ sum_to f n + g i
unfolding sum_to
sum_change f g i zero p h = absurd (omega arith)
sum_change f g i (suc n) p h = at (sum_change f g i n) (same? n i)
  where
    at : (i < n → ((x : ℕ) → x ≢ i → g x ≡ f x) → sum_to g n + f i ≡ sum_to f n + g i) → Same n i → g n + sum_to g n + f i ≡ f n + sum_to f n + g i
    at k (eq e) = omega (arith, ap f e, ap g e, sum_same f g n (λ x q. h x (omega arith)))
    at k (ne e) = omega (arith, h n e, k (omega arith) h)

pub sum_rises : (f : ℕ → ℕ) (k n : ℕ) → k ≤ n → sum_to f k ≤ sum_to f n
unfolding sum_to
sum_rises f k zero p = subst (λ (x : ℕ). sum_to f x ≤ 0) z (omega arith)
  where
    z : 0 ≡ k
    z = omega arith
sum_rises f k (suc n) p = at (sum_rises f k n) (same? k (suc n))
  where
    at : (k ≤ n → sum_to f k ≤ sum_to f n) → Same k (suc n) → sum_to f k ≤ f n + sum_to f n
    at g (eq e) = subst (λ (x : ℕ). sum_to f x ≤ f n + sum_to f n) (sym e) (omega arith)
    at g (ne e) = omega (arith, g (omega arith))

-- ---- who holds a node: a vCAS from 45 until 46 publishes it or 50 gives it back

abbrev pub holds : Phase → ℕ
holds (line_37 i) = 0
holds (line_39 i f j) = 0
holds (line_41 i a b) = 0
holds (line_43 i a b f j) = 0
holds (line_45 i a b f j) = 0
holds (line_46 i a b f j y) = 1
holds (line_48 i a b j) = 0
holds (line_50 i a b g y) = 1
holds (line_51 i a b g) = 0
holds (line_52 i a b g j) = 0
holds line_5 = 0
holds (line_6 c r) = 0
holds (line_32 i h) = 0
holds (line_34 i h f j x) = 0
holds (total_32 q h k i u) = 0
holds (total_34 q h k i u f j x) = 0
holds (closing q h k u) = 0
holds (line_20 c j) = 0
holds (line_21 c j) = 0
holds (line_22 c j n r) = 0

abbrev pub worker_holds : Worker → ℕ
worker_holds idle = 0
worker_holds (busy o l ph) = holds ph

abbrev pub comes_holds : Comes → ℕ
comes_holds (goes_on ph) = holds ph
comes_holds (ends_with n) = 0
comes_holds (answers_change x) = 0
comes_holds (answers x τ j) = 0

-- a line takes, publishes or gives back the node that it should
abbrev pub HoldsRight : Memory → ℕ → Effect → ℕ → Type 0
HoldsRight m before nothing next = next ≡ before
HoldsRight m before counts next = (next ≡ before) × (m.camera.counter < m.limits.counter)
HoldsRight m before (publishes i v y) next = (before ≡ 1) × (next ≡ 0)
HoldsRight m before (stamps i j c r) next = next ≡ before
HoldsRight m before (takes_node i new j y) next = (before ≡ 0) × (next ≡ 1) × (node_to_take m ≡ node y)
HoldsRight m before (gives_back y) next = (before ≡ 1) × (next ≡ 0)

abbrev pub LineHolds : Memory → Phase → Next → Type 0
LineHolds m ph x = HoldsRight m (holds ph) x.does (comes_holds x.comes)

after_holds : (c : Then) (j : ℕ) → holds (after c j) ≡ 0
unfolding after
after_holds (then_39 i f) j = refl
after_holds (then_43 i a b f) j = refl
after_holds (then_48 i a b) j = refl
after_holds (then_52 i a b g) j = refl
after_holds (then_34 i h f) j = refl
after_holds (then_total_34 q h k i u f) j = refl

total_holds : (q h k i u : ℕ) → holds (total_at q h k i u) ≡ 0
unfolding total_at
total_holds q h k i u = by_eq (λ (ph : Phase). holds ph ≡ 0) i k (λ e. refl) (λ e. refl)

line_holds : (t o : ℕ) (l : List ℕ) (m : Memory) (ph : Phase) → PhaseFacts t o l m ph → LineHolds m ph (line t m ph)
unfolding line
line_holds t o l m (line_37 i) z = refl
line_holds t o l m (line_39 i f j) z = refl
line_holds t o l m (line_41 i a b) z = refl
line_holds t o l m (line_43 i a b f j) z =
    by_eq (LineHolds m (line_43 i a b f j)) ((m.item i).value j) a (λ e. by_eq (LineHolds m (line_43 i a b f j)) b a (λ q. refl) (λ q. refl)) (λ e. refl)
line_holds t o l m (line_45 i a b f j) z = at (node_to_take m) refl
  where
    at : (g : Found) → node_to_take m ≡ g → LineHolds m (line_45 i a b f j) (on_45 i a b f j g)
    at no_node e = refl
    at (node y) e = (refl, refl, e)
line_holds t o l m (line_46 i a b f j y) z = by_eq (LineHolds m (line_46 i a b f j y)) (m.item i).versions (suc j) (λ e. (refl, refl)) (λ e. refl)
line_holds t o l m (line_48 i a b j) z = refl
line_holds t o l m (line_50 i a b g y) z = (refl, refl)
line_holds t o l m (line_51 i a b g) z = refl
line_holds t o l m (line_52 i a b g j) z = refl
line_holds t o l m line_5 z = by_le (LineHolds m line_5) m.limits.counter m.camera.counter (λ e. refl) (λ e. refl)
line_holds t o l m (line_6 c r) z = by_eq (LineHolds m (line_6 c r)) m.camera.counter c (λ e. (refl, omega (arith, z.1))) (λ e. refl)
line_holds t o l m (line_32 i h) z = refl
line_holds t o l m (line_34 i h f j x) z = by_lt (LineHolds m (line_34 i h f j x)) h ((m.item i).stamp x) (λ e. refl) (λ e. refl)
line_holds t o l m (total_32 q h k i u) z = by_lt (λ (ph : Phase). holds ph ≡ 0) h ((m.item i).stamp 0) (λ e. total_holds q h k (suc i) u) (λ e. refl)
line_holds t o l m (total_34 q h k i u f j x) z =
    by_lt (λ (ph : Phase). holds ph ≡ 0) h ((m.item i).stamp x) (λ e. refl)
    (λ e. total_holds q h k (suc i) (u + cond (eqb ((m.item i).value x) q) (m.item i).size 0))
line_holds t o l m (closing q h k u) z = refl
line_holds t o l m (line_20 c j) z = by_lt (λ (ph : Phase). holds ph ≡ 0) j (m.item (helped_item c)).valid (λ e. after_holds c j) (λ e. refl)
line_holds t o l m (line_21 c j) z = refl
line_holds t o l m (line_22 c j n r) z = by_lt (λ (e : Effect). HoldsRight m 0 e (holds (after c j))) j (m.item (helped_item c)).valid
    (λ e. after_holds c j) (λ e. after_holds c j)

-- ---- the count

pub record Tally (s : Catalogue) : Type 0 where
  pub count : sum_to (λ w. worker_holds (s.worker w)) (suc s.memory.limits.workers) + length s.memory.pool.given_back + sum_to
      (λ i. (s.memory.item i).versions) s.memory.items ≡ s.memory.pool.used
  pub fits : s.memory.pool.used ≤ s.memory.limits.nodes
  pub room : s.memory.items ≤ s.memory.limits.items
  pub within : s.memory.camera.counter ≤ s.memory.limits.counter

-- taking a node
pub taken_count : (l : List ℕ) (u n y : ℕ) → first_free l u n ≡ node y → u ≤ n → (used_next l u + length l ≡ suc (u + length (all_but_first l)))
    × (used_next l u ≤ n)
unfolding first_free used_next all_but_first
taken_count [] u n y e p = (omega arith, by_test (λ (g : Found). g ≡ node y → suc u ≤ n) (ltb u n) (λ t f. ltb→lt u n t) (λ t f. absurd (no_found f)) e)
  where
    number : Found → ℕ
    number no_node = 0
    number (node y) = suc y

    no_found : no_node ≡ node y → ⊥
    no_found f = let z : ◌≡◌ {A = ℕ} 0 (suc y) = ap number f in omega arith
taken_count (x ∷ l) u n y e p = (omega arith, p)

pub settle_memory : (w o : ℕ) (l : List ℕ) (s : Catalogue) (u : Comes) → (settle w o l s u).memory ≡ s.memory
unfolding settle
settle_memory w o l s (goes_on ph) = refl
settle_memory w o l s (ends_with n) = refl
settle_memory w o l s (answers_change x) = refl
settle_memory w o l s (answers x τ j) = refl

settle_worker : (w o : ℕ) (l : List ℕ) (s : Catalogue) (u : Comes) (w' : ℕ) → worker_holds ((settle w o l s u).worker w') ≡ put
    (λ w. worker_holds (s.worker w)) w (comes_holds u) w'
unfolding settle
settle_worker w o l s u w' = at u (same? w' w)
  where
    at : (u : Comes) → Same w' w → worker_holds ((settle w o l s u).worker w') ≡ put (λ w. worker_holds (s.worker w)) w (comes_holds u) w'
    at (goes_on ph) (eq e) = ap worker_holds (put_same s.worker w (busy o l ph) w' e)
        ∙ sym (put_same (λ w. worker_holds (s.worker w)) w (holds ph) w' e)
    at (goes_on ph) (ne e) = ap worker_holds (put_other s.worker w (busy o l ph) w' e)
        ∙ sym (put_other (λ w. worker_holds (s.worker w)) w (holds ph) w' e)
    at (ends_with n) (eq e) = ap worker_holds (put_same s.worker w idle w' e) ∙ sym (put_same (λ w. worker_holds (s.worker w)) w 0 w' e)
    at (ends_with n) (ne e) = ap worker_holds (put_other s.worker w idle w' e) ∙ sym (put_other (λ w. worker_holds (s.worker w)) w 0 w' e)
    at (answers_change x) (eq e) = ap worker_holds (put_same s.worker w idle w' e) ∙ sym (put_same (λ w. worker_holds (s.worker w)) w 0 w' e)
    at (answers_change x) (ne e) = ap worker_holds (put_other s.worker w idle w' e) ∙ sym (put_other (λ w. worker_holds (s.worker w)) w 0 w' e)
    at (answers x τ j) (eq e) = ap worker_holds (put_same s.worker w idle w' e) ∙ sym (put_same (λ w. worker_holds (s.worker w)) w 0 w' e)
    at (answers x τ j) (ne e) = ap worker_holds (put_other s.worker w idle w' e) ∙ sym (put_other (λ w. worker_holds (s.worker w)) w 0 w' e)

-- what a phase holds, by its node
abbrev pub held_count : Found → ℕ
held_count no_node = 0
held_count (node y) = 1

pub held_is : (ph : Phase) → holds ph ≡ held_count (held_node ph)
held_is (line_37 i) = refl
held_is (line_39 i f j) = refl
held_is (line_41 i old new) = refl
held_is (line_43 i old new f j) = refl
held_is (line_45 i old new f j) = refl
held_is (line_46 i old new f j y) = refl
held_is (line_48 i old new j) = refl
held_is (line_50 i old new g y) = refl
held_is (line_51 i old new g) = refl
held_is (line_52 i old new g j) = refl
held_is line_5 = refl
held_is (line_6 c r) = refl
held_is (line_32 i h) = refl
held_is (line_34 i h f j x) = refl
held_is (total_32 q h k i u) = refl
held_is (total_34 q h k i u f j x) = refl
held_is (closing q h k u) = refl
held_is (line_20 c j) = refl
held_is (line_21 c j) = refl
held_is (line_22 c j n r) = refl

module _ (s : Catalogue) (invariant : Invariant s) (Y : Tally s) where
  m : Memory
  m = s.memory

  still : Tally (tick s)
  unfolding tick
  still = record { count = Y.count; fits = Y.fits; room = Y.room; within = Y.within }

  -- the memory after a change: nodes that n workers hold before it and n' after it
  counted : (o before next n n' : ℕ) (e : Effect) → n' + before ≡ n + next → HoldsRight s.memory before e next → (op : Operation) (p : Bool) →
      Allowed s.now o op p s.memory e →
      n + length s.memory.pool.given_back + sum_to (λ i. (s.memory.item i).versions) s.memory.items ≡ s.memory.pool.used →
      (n' + length (memory_after s.now o e s.memory).pool.given_back + sum_to (λ i. ((memory_after s.now o e s.memory).item i).versions)
      (memory_after s.now o e s.memory).items ≡ (memory_after s.now o e s.memory).pool.used)
      × ((memory_after s.now o e s.memory).pool.used ≤ (memory_after s.now o e s.memory).limits.nodes)
  unfolding memory_after one_taken one_returned node_to_take
  counted o before next n n' nothing d h op p a c = (omega arith, Y.fits)
  counted o before next n n' counts d h op p a c = (omega (arith, h.0), Y.fits)
  counted o before next n n' (gives_back y) d h op p a c = (omega (arith, h.0, h.1), Y.fits)
  counted o before next n n' (takes_node i b j y) d h op p a c =
      let g : (used_next s.memory.pool.given_back s.memory.pool.used + length s.memory.pool.given_back ≡ suc
      (s.memory.pool.used + length (all_but_first s.memory.pool.given_back)))
      × (used_next s.memory.pool.given_back s.memory.pool.used ≤ s.memory.limits.nodes) =
      taken_count s.memory.pool.given_back s.memory.pool.used s.memory.limits.nodes y h.2 Y.fits in
      (omega (arith, h.0, h.1, g.0), g.1)
  counted o before next n n' (stamps i j k r) d h op p a c = (
    omega (
      arith,
      sum_same (λ i. (s.memory.item i).versions) (λ i'. (put s.memory.item i (stamped s.now j k r (s.memory.item i)) i').versions)
          s.memory.items
          (λ x q. put_all (λ (x : ℕ) (it : Item). it.versions ≡ (s.memory.item x).versions) s.memory.item i
          (stamped s.now j k r (s.memory.item i)) x (λ e. ap (λ (x : ℕ). (s.memory.item x).versions) (sym e)) (λ e. refl)),
    ),
    Y.fits,
  )
  counted o before next n n' (publishes i v y) d h op p a c =
      (omega (arith, h.0, h.1, more, new), Y.fits)
    where
      it : Item
      it = published s.now o v y (s.memory.item i)

      there : Split i s.memory.items → i < s.memory.items
      there (Split.less p) = p
      there (Split.more p) = absurd (omega (arith, a.is, invariant.kept.memory.unregistered i p))

      more : sum_to (λ x. (put s.memory.item i it x).versions) s.memory.items + (s.memory.item i).versions ≡ sum_to
          (λ x. (s.memory.item x).versions) s.memory.items + (put s.memory.item i it i).versions
      more = sum_change (λ x. (s.memory.item x).versions) (λ x. (put s.memory.item i it x).versions) i s.memory.items
          (there (split i s.memory.items)) (λ x q. ap (λ (it : Item). it.versions) (put_other s.memory.item i it x q))

      new : (put s.memory.item i it i).versions ≡ suc (s.memory.item i).versions
      new = ap (λ (it : Item). it.versions) (put_same s.memory.item i it i refl)

  limited : (o before next : ℕ) (e : Effect) → HoldsRight s.memory before e next →
      ((memory_after s.now o e s.memory).items ≤ (memory_after s.now o e s.memory).limits.items)
      × ((memory_after s.now o e s.memory).camera.counter ≤ (memory_after s.now o e s.memory).limits.counter)
  unfolding memory_after
  limited o before next nothing h = (Y.room, Y.within)
  limited o before next counts h = (Y.room, omega (arith, h.1))
  limited o before next (publishes i v y) h = (Y.room, Y.within)
  limited o before next (stamps i j c r) h = (Y.room, Y.within)
  limited o before next (takes_node i b j y) h = (Y.room, Y.within)
  limited o before next (gives_back y) h = (Y.room, Y.within)

  same_workers : (o : ℕ) (e : Effect) → (memory_after s.now o e s.memory).limits ≡ s.memory.limits
  unfolding memory_after
  same_workers o nothing = refl
  same_workers o counts = refl
  same_workers o (publishes i v y) = refl
  same_workers o (stamps i j c r) = refl
  same_workers o (takes_node i b j y) = refl
  same_workers o (gives_back y) = refl

  step_tally : (w : ℕ) (x : Worker) → s.worker w ≡ x → w < suc s.memory.limits.workers → WorkerRight s.now s.memory s.fate s.place w x →
      Tally (tick (stepped s w x).leaves)
  unfolding tick stepped affect
  step_tally w idle e b k = still
  step_tally w (busy o l ph) e b k =
      subst (λ (m : Memory). Counted m) (sym (settle_memory w o (line_number ph ∷ l) (affect o s x.does) x.comes))
      (record {
        count = ap (λ (y : Limits). sum_to (λ w. worker_holds (after.worker w)) (suc y.workers) + length m'.pool.given_back + sum_to
            (λ i. (m'.item i).versions) m'.items) (same_workers o x.does) ∙ c.0;
        fits = c.1;
        room = (limited o (holds ph) (comes_holds x.comes) x.does h).0;
        within = (limited o (holds ph) (comes_holds x.comes)
            x.does h).1;
      })
    where
      x : Next
      x = line s.now s.memory ph

      m' : Memory
      m' = memory_after s.now o x.does s.memory

      after : Catalogue
      after = settle w o (line_number ph ∷ l) (affect o s x.does) x.comes

      Counted : Memory → Type 0
      Counted m = Tally (tick (record { now = after.now; memory = m; worker = after.worker; fate = after.fate; place = after.place }))

      h : HoldsRight s.memory (holds ph) x.does (comes_holds x.comes)
      h = line_holds s.now o l s.memory ph k.facts

      right : LineRight s.now o l s.memory ph x
      right = every_line s.now o l s.memory invariant.kept.memory k.begun ph k.facts

      sums : sum_to (λ w. worker_holds (after.worker w)) (suc s.memory.limits.workers) + holds ph ≡ sum_to (λ w. worker_holds (s.worker w))
          (suc s.memory.limits.workers) + comes_holds x.comes
      sums =
          subst (λ (n : ℕ). sum_to (λ w. worker_holds (after.worker w)) (suc s.memory.limits.workers) + holds ph ≡ sum_to
          (λ w. worker_holds (s.worker w)) (suc s.memory.limits.workers) + n)
          (settle_worker w o _ (affect o s x.does) x.comes w ∙ put_same (λ w. worker_holds (s.worker w)) w (comes_holds x.comes) w refl)
          (subst (λ (n : ℕ). sum_to (λ w. worker_holds (after.worker w)) (suc s.memory.limits.workers) + n ≡ sum_to (λ w. worker_holds (s.worker w))
          (suc s.memory.limits.workers) + worker_holds (after.worker w)) (ap worker_holds e)
          (sum_change (λ w. worker_holds (s.worker w)) (λ w. worker_holds (after.worker w)) w (suc s.memory.limits.workers) b
          (λ w' q. settle_worker w o _ (affect o s x.does) x.comes w'
          ∙ put_other (λ w. worker_holds (s.worker w)) w (comes_holds x.comes) w' q)))

      c : (sum_to (λ w. worker_holds (after.worker w)) (suc s.memory.limits.workers) + length m'.pool.given_back + sum_to (λ i. (m'.item i).versions)
          m'.items ≡ m'.pool.used) × (m'.pool.used ≤ m'.limits.nodes)
      c = counted o (holds ph) (comes_holds x.comes) _ _ x.does sums h (phase_operation ph) (has_published ph) right.does Y.count

  first_holds : (op : Operation) → holds (first_phase s.memory op) ≡ 0
  unfolding first_phase
  first_holds (register i v z) = refl
  first_holds (v_read i) = refl
  first_holds (v_cas i a b) = refl
  first_holds take_snapshot = refl
  first_holds (read_snapshot i h) = refl
  first_holds (total q h) = total_holds q h s.memory.items 0 0

  begun_tally : (w : ℕ) (op : Operation) → T (is_idle (s.worker w)) → Tally (tick (begun s w op))
  unfolding tick begun
  begun_tally w op e =
      record {
        count = ap (λ (n : ℕ). n + length s.memory.pool.given_back + sum_to (λ i. (s.memory.item i).versions) s.memory.items)
            (sum_same (λ w. worker_holds (s.worker w)) _ (suc s.memory.limits.workers)
            (λ w' p. put_all (λ (w' : ℕ) (x : Worker). worker_holds x ≡ worker_holds (s.worker w')) s.worker w _ w'
            (λ q. first_holds op ∙ sym (none (s.worker w') (subst (λ (w : ℕ). T (is_idle (s.worker w))) (sym q) e))) (λ q. refl))) ∙ Y.count;
        fits = Y.fits;
        room = Y.room;
        within = Y.within;
      }
    where
      none : (x : Worker) → T (is_idle x) → worker_holds x ≡ 0
      none idle t = refl
      none (busy o l ph) t = absurd t

  register_tally : (v z : ℕ) → Passed (register_refusals s.memory v) → Tally (tick (registered s v z (found (node_to_take s.memory))))
  unfolding tick registered one_taken
  register_tally v z x =
      record {
        count = omega (arith, Y.count, g.0, sums);
        fits = g.1;
        room = nleb→lt s.memory.limits.items s.memory.items x.1.0;
        within = Y.within;
      }
    where
      there : (f : Found) → node_to_take s.memory ≡ f → T (not (none_left f)) → (y : ℕ) × (node_to_take s.memory ≡ node y)
      there no_node e t = absurd t
      there (node y) e t = (y, e)

      y : (y : ℕ) × (node_to_take s.memory ≡ node y)
      y = there (node_to_take s.memory) refl x.1.1.0

      g : (used_next s.memory.pool.given_back s.memory.pool.used + length s.memory.pool.given_back ≡ suc
          (s.memory.pool.used + length (all_but_first s.memory.pool.given_back)))
          × (used_next s.memory.pool.given_back s.memory.pool.used ≤ s.memory.limits.nodes)
      g = unfold node_to_take in (taken_count s.memory.pool.given_back s.memory.pool.used s.memory.limits.nodes y.0 y.1 Y.fits)

      it : Item
      it = newborn s.now s.memory.camera.counter v z (found (node_to_take s.memory))

      sums : sum_to (λ i. (put s.memory.item s.memory.items it i).versions) (suc s.memory.items) ≡ suc
          (sum_to (λ i. (s.memory.item i).versions) s.memory.items)
      sums = unfold sum_to in
          (ap₂ (λ (a b : ℕ). a + b) (ap (λ (it : Item). it.versions) (put_same s.memory.item s.memory.items it s.memory.items refl))
          (sum_same (λ i. (s.memory.item i).versions) _ s.memory.items
          (λ i p. ap (λ (it : Item). it.versions) (put_other s.memory.item s.memory.items it i (omega arith)))) ∙ omega arith)

  start_tally : (w : ℕ) (op : Operation) → Tally (tick (starting s w op).leaves)
  unfolding starting
  start_tally w op = unless_all (λ (s : Catalogue). Tally (tick s)) s (worker_refusals s w op)
      (record { answer = accepted 0; leaves = begun s w op }) still (λ x. begun_tally w op (not_not (is_idle (s.worker w)) x.1.0))
    where
      not_not : (b : Bool) → T (not (not b)) → T b
      not_not true t = tt
      not_not false t = t

  -- a worker is abandoned
  left_tally : (w o : ℕ) (l : List ℕ) (ph : Phase) → w < suc s.memory.limits.workers → s.worker w ≡ busy o l ph → Tally (tick (left_off s w o ph))
  unfolding tick left_off
  left_tally w o l ph b e = at (held_node ph) (held_is ph)
    where
      sums : sum_to (λ w'. worker_holds (put s.worker w idle w')) (suc s.memory.limits.workers) + holds ph ≡ sum_to (λ w. worker_holds (s.worker w)) (suc s.memory.limits.workers) + 0
      sums =
          subst (λ (n : ℕ). sum_to (λ w'. worker_holds (put s.worker w idle w')) (suc s.memory.limits.workers) + holds ph ≡ sum_to (λ w. worker_holds (s.worker w)) (suc s.memory.limits.workers) + n)
          (ap worker_holds (put_same s.worker w idle w refl))
          (subst (λ (n : ℕ). sum_to (λ w'. worker_holds (put s.worker w idle w')) (suc s.memory.limits.workers) + n ≡ sum_to (λ w. worker_holds (s.worker w)) (suc s.memory.limits.workers)
          + worker_holds (put s.worker w idle w)) (ap worker_holds e)
          (sum_change (λ w. worker_holds (s.worker w)) (λ w'. worker_holds (put s.worker w idle w')) w (suc s.memory.limits.workers) b
          (λ w' q. ap worker_holds (put_other s.worker w idle w' q))))

      at : (g : Found) → holds ph ≡ held_count g →
          Tally (record { now = suc s.now; memory = memory_after s.now o (give g) s.memory; worker = put s.worker w idle; fate = s.fate; place = s.place })
      at no_node h = unfold memory_after in (record { count = omega (arith, Y.count, sums, h); fits = Y.fits; room = Y.room; within = Y.within })
      at (node y) h = unfold memory_after one_returned in (record { count = omega (arith, Y.count, sums, h); fits = Y.fits; room = Y.room; within = Y.within })

  abandon_tally : (w : ℕ) → Tally (tick (abandoning s w).leaves)
  unfolding abandoning
  abandon_tally w =
      unless_all (λ (s : Catalogue). Tally (tick s)) s (step_refusals s w) (left s w (s.worker w)) still
      (λ x. at (omega (arith, nleb→lt s.memory.limits.workers w x.0)) (s.worker w) refl)
    where
      at : w < suc s.memory.limits.workers → (x : Worker) → s.worker w ≡ x → Tally (tick (left s w x).leaves)
      at b idle e = unfold left in still
      at b (busy o l ph) e = unfold left in (left_tally w o l ph b e)

  call_tally : (c : Call) → Tally (call s c)
  unfolding call move registering stepping
  call_tally (Call.make p m n q c) = still
  call_tally (Call.register v z) =
      unless_all (λ (s : Catalogue). Tally (tick s)) s (register_refusals s.memory v)
      (record { answer = accepted s.memory.items; leaves = registered s v z (found (node_to_take s.memory)) }) still (λ x. register_tally v z x)
  call_tally (Call.v_read w i) = start_tally w (v_read i)
  call_tally (Call.v_cas w i a b) = start_tally w (v_cas i a b)
  call_tally (Call.take_snapshot w) = start_tally w take_snapshot
  call_tally (Call.read_snapshot w i h) = start_tally w (read_snapshot i h)
  call_tally (Call.total w q h) = start_tally w (total q h)
  call_tally (Call.step w) =
      unless_all (λ (s : Catalogue). Tally (tick s)) s (step_refusals s w) (stepped s w (s.worker w)) still
      (λ x. step_tally w (s.worker w) refl (omega (arith, nleb→lt s.memory.limits.workers w x.0)) (invariant.workers w))
  call_tally (Call.abandon w) = abandon_tally w

  event_tally : (e : Event) → Tally (happens s e)
  unfolding happens event_move
  event_tally (called c) = unfold call in (call_tally c)
  event_tally (reader_starts i) =
      unless_all (λ (s : Catalogue). Tally (tick s)) s (reader_refusals s i)
      (record { answer = accepted 0; leaves = begun s (reader s) (v_read i) }) still
      (λ x. begun_tally (reader s) (v_read i) (not_not (is_idle (s.worker (reader s))) x.0))
    where
      not_not : (b : Bool) → T (not (not b)) → T b
      not_not true t = tt
      not_not false t = t
  event_tally reader_steps = step_tally (reader s) (s.worker (reader s)) refl (omega arith) (invariant.workers (reader s))

-- the limits never change
pub same_limits : (t o : ℕ) (m : Memory) (e : Effect) → (memory_after t o e m).limits ≡ m.limits
unfolding memory_after
same_limits t o m nothing = refl
same_limits t o m counts = refl
same_limits t o m (publishes i v y) = refl
same_limits t o m (stamps i j c r) = refl
same_limits t o m (takes_node i b j y) = refl
same_limits t o m (gives_back y) = refl

step_limits : (s : Catalogue) (w : ℕ) (x : Worker) → (stepped s w x).leaves.memory.limits ≡ s.memory.limits
unfolding stepped affect
step_limits s w idle = refl
step_limits s w (busy o l ph) =
    ap (λ (m : Memory). m.limits) (settle_memory w o (line_number ph ∷ l) (affect o s (line s.now s.memory ph).does)
    (line s.now s.memory ph).comes) ∙ same_limits s.now o s.memory (line s.now s.memory ph).does

call_limits : (s : Catalogue) (c : Call) → (call s c).memory.limits ≡ s.memory.limits
unfolding call tick move registering starting stepping registered begun
call_limits s (Call.make p m n q c) = refl
call_limits s (Call.register v z) = unless_all (λ (s' : Catalogue). s'.memory.limits ≡ s.memory.limits) s (register_refusals s.memory v)
    (record { answer = accepted s.memory.items; leaves = registered s v z (found (node_to_take s.memory)) }) refl (λ x. refl)
call_limits s (Call.v_read w i) = unless_all (λ (s' : Catalogue). s'.memory.limits ≡ s.memory.limits) s (worker_refusals s w (v_read i))
    (record { answer = accepted 0; leaves = begun s w (v_read i) }) refl (λ x. refl)
call_limits s (Call.v_cas w i a b) = unless_all (λ (s' : Catalogue). s'.memory.limits ≡ s.memory.limits) s (worker_refusals s w (v_cas i a b))
    (record { answer = accepted 0; leaves = begun s w (v_cas i a b) }) refl (λ x. refl)
call_limits s (Call.take_snapshot w) = unless_all (λ (s' : Catalogue). s'.memory.limits ≡ s.memory.limits) s (worker_refusals s w take_snapshot)
    (record { answer = accepted 0; leaves = begun s w take_snapshot }) refl (λ x. refl)
call_limits s (Call.read_snapshot w i h) = unless_all (λ (s' : Catalogue). s'.memory.limits ≡ s.memory.limits) s
    (worker_refusals s w (read_snapshot i h)) (record { answer = accepted 0; leaves = begun s w (read_snapshot i h) }) refl (λ x. refl)
call_limits s (Call.total w q h) = unless_all (λ (s' : Catalogue). s'.memory.limits ≡ s.memory.limits) s (worker_refusals s w (total q h))
    (record { answer = accepted 0; leaves = begun s w (total q h) }) refl (λ x. refl)
call_limits s (Call.step w) = unless_all (λ (s' : Catalogue). s'.memory.limits ≡ s.memory.limits) s (step_refusals s w)
    (stepped s w (s.worker w)) refl (λ x. step_limits s w (s.worker w))
call_limits s (Call.abandon w) = unfold abandoning in (unless_all (λ (s' : Catalogue). s'.memory.limits ≡ s.memory.limits) s (step_refusals s w)
    (left s w (s.worker w)) refl (λ x. at (s.worker w)))
  where
    at : (x : Worker) → (left s w x).leaves.memory.limits ≡ s.memory.limits
    at idle = unfold left in refl
    at (busy o l ph) = unfold left left_off in (same_limits s.now o s.memory (give (held_node ph)))

event_limits : (s : Catalogue) (e : Event) → (happens s e).memory.limits ≡ s.memory.limits
unfolding happens event_move tick begun
event_limits s (called c) = unfold call in (call_limits s c)
event_limits s (reader_starts i) = unless_all (λ (s' : Catalogue). s'.memory.limits ≡ s.memory.limits) s (reader_refusals s i)
    (record { answer = accepted 0; leaves = begun s (reader s) (v_read i) }) refl (λ x. refl)
event_limits s reader_steps = step_limits s (reader s) (s.worker (reader s))

pub limits_kept : (limits : Limits) (es : List Event) → (after_events limits es).memory.limits ≡ limits
unfolding after_events fresh
limits_kept limits [] = refl
limits_kept limits (x ∷ es) = event_limits (after_events limits es) x ∙ limits_kept limits es

zero_sum : (n : ℕ) → sum_to (λ w. 0) n ≡ 0
unfolding sum_to
zero_sum zero = refl
zero_sum (suc n) = omega (arith, zero_sum n)

-- after every run the nodes are counted
pub tally : (limits : Limits) (es : List Event) → Tally (after_events limits es)
unfolding after_events fresh
tally limits [] = record { count = none limits; fits = omega arith; room = omega arith; within = omega arith }
  where
    none : (limits : Limits) → sum_to (λ w. 0) (suc limits.workers) + 0 + sum_to (λ i. 0) 0 ≡ 0
    none limits = omega (arith, zero_sum (suc limits.workers), zero_sum 0)
tally limits (x ∷ es) = event_tally (after_events limits es) (run_right limits es) (tally limits es) x
