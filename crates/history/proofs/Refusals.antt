-- Which number a refused call of the machine of versions gets: the least that applies to it.
use Rattle.std.specs.Prelude.{◌≡◌, refl, ◌≢◌, ◌⊎◌, ◌↔◌, Bool, true, false, not, cond, ◌||◌, List, ◌∷◌, ℕ, ◌+◌, ◌≤◌, ◌<◌, T, ltb, leb, length}
use Rattle.std.proofs.Math.Path.{ap}
use Rattle.std.proofs.Common.{sym, subst, inl, inr, arith, T_not, leb→le, ltb→lt}
use Rattle.std.proofs.Math.Dec.{nleb→lt}
use Rattle.definitions.specs.declared.Answer.{Answer}
use Rattle.definitions.specs.Answers.{refusal, accepted}
use Rattle.definitions.specs.Calls.{Call}
use Rattle.history.specs.Tools.{by_test, le_leb, lt_ltb, Split, split}
use Rattle.history.specs.Definition1.{Born}
use Rattle.history.specs.Notes.{Note, nodes_in_use, snapshot, object_at}
use Rattle.history.specs.Statements.{In, Free}
use Rattle.history.specs.Demands.{Given, Least, object_now, items_now, Applies}
use Rattle.history.specs.Effects.{effects}
use Rattle.history.specs.Machine.{Limits, none_left, node_to_take, Comes, goes_on, ends_with, answers_change, answers, line_number, line, Worker, idle, busy, Catalogue, Move, refused, is_idle, no_worker, no_project, not_registered, no_handle, step_answer, stepped, stepping, left, abandoning, starting, registered, registering, move, reply, Event, after_events}
use Rattle.history.proofs.Places.{Invariant}
use Rattle.history.proofs.Run.{run_right}
use Rattle.history.proofs.NodeCount.{Tally, tally, limits_kept}
use Rattle.history.proofs.MachineNotes.{machine_notes}
use Rattle.history.proofs.LedgerRight.{Agrees, agrees}
use Rattle.history.proofs.EffectsRun.{Effected, effected}
use Rattle.history.proofs.NodesInUse.{Counted, in_use}
use Rattle.history.proofs.Accepts.{idle_free, free_idle, registered_born, born_registered, left_handle, stamp_born, born_stamp}
use Rattle.history.proofs.Registers.{items_told, node_left}

-- ---- a chain of refusals whose numbers rise

-- a move is refused exactly with the least number of Q
abbrev Exactly : Move → (ℕ → Type 0) → Type 0
Exactly x Q = (k : ℕ) → (x.answer ≡ refusal k 0) ↔ Least Q k

-- every number of Q is above n
abbrev Above : ℕ → (ℕ → Type 0) → Type 0
Above n Q = (j : ℕ) → Q j → n < j

same_number : (a b : ℕ) → refusal a 0 ≡ refusal b 0 → a ≡ b
same_number a b e = let z : 16 + a ≡ 16 + b = ap (λ (x : Answer). x.code) e in omega arith

not_refused : (v k : ℕ) → accepted v ≢ refusal k 0
not_refused v k e = let z : 2 ≡ 16 + k = ap (λ (x : Answer). x.code) e in omega arith

above_one : (n number : ℕ) (P : Type 0) → n < number → Above n (Given number P)
above_one n number P l j g = omega (arith, g.0)

above_more : (n number : ℕ) (P : Type 0) (Q : ℕ → Type 0) → n < number → Above number Q → Above n (λ j. Given number P j ⊎ Q j)
above_more n number P Q l a j (inl g) = omega (arith, g.0)
above_more n number P Q l a j (inr g) = omega (arith, a j g)

-- one refusal, which holds exactly where P does: alone, or before others
module _ (s : Catalogue) (number : ℕ) (when : Bool) (P : Type 0) (holds : T when ↔ P) where
  last : (y : Move) → (T (not when) → (k : ℕ) → y.answer ≢ refusal k 0) → Exactly (cond when (refused s number) y) (Given number P)
  last y d k =
      by_test (λ (u : Move). (u.answer ≡ refusal k 0) ↔ Least (Given number P) k) when
      (λ t. (
        λ e. ((sym (same_number number k e), holds.0 t), λ j g. omega (arith, g.0, same_number number k e)),
        λ l. ap (λ (n : ℕ). refusal n 0) (sym l.0.0),
      ))
      (λ t. (λ e. absurd (d t k e), λ l. absurd (T_not when t (holds.1 l.0.1))))

  before : (y : Move) (Q : ℕ → Type 0) → Above number Q → (T (not when) → Exactly y Q) →
      Exactly (cond when (refused s number) y) (λ j. Given number P j ⊎ Q j)
  before y Q above rest k =
      by_test (λ (u : Move). (u.answer ≡ refusal k 0) ↔ Least (λ j. Given number P j ⊎ Q j) k) when
      (λ t. (λ e. (inl (sym (same_number number k e), holds.0 t), first (same_number number k e)), λ l. ap (λ (n : ℕ). refusal n 0) (given t l)))
      (λ t. (λ e. (inr ((rest t k).0 e).0, later t ((rest t k).0 e).1), λ l. (rest t k).1 (without t l)))
    where
      first : number ≡ k → (j : ℕ) → Given number P j ⊎ Q j → k ≤ j
      first e j (inl g) = omega (arith, g.0)
      first e j (inr g) = omega (arith, above j g)

      given : T when → Least (λ j. Given number P j ⊎ Q j) k → number ≡ k
      given t (inl g, least) = sym g.0
      given t (inr g, least) = absurd (omega (arith, above k g, least number (inl (refl, holds.0 t))))

      later : T (not when) → ((j : ℕ) → Q j → k ≤ j) → (j : ℕ) → Given number P j ⊎ Q j → k ≤ j
      later t least j (inl g) = absurd (T_not when t (holds.1 g.1))
      later t least j (inr g) = least j g

      without : T (not when) → Least (λ j. Given number P j ⊎ Q j) k → Least Q k
      without t (inl g, least) = absurd (T_not when t (holds.1 g.1))
      without t (inr g, least) = (g, λ j q. least j (inr q))

-- ---- what each test says

at_least : (a b : ℕ) → T (leb a b) ↔ (a ≤ b)
at_least a b = (leb→le a b, le_leb a b)

either : (a b : Bool) {P Q : Type 0} → T a ↔ P → T b ↔ Q → T (a || b) ↔ (P ⊎ Q)
either true b p q = (λ t. inl (p.0 tt), λ x. tt)
either false b {P} {Q} p q = (λ t. inr (q.0 t), at)
  where
    at : P ⊎ Q → T b
    at (inl x) = absurd (p.1 x)
    at (inr x) = q.1 x

-- b holds exactly where the opposite of P is refuted
opposite : (b : Bool) {P : Type 0} → T (not b) ↔ P → T b ↔ (P → ⊥)
opposite true p = (λ t x. p.1 x, λ f. tt)
opposite false p = (λ t x. t, λ f. f (p.0 tt))

module _ (s : Catalogue) (invariant : Invariant s) (run : List Note) (A : Agrees s run) (E : Effected s run) where
  abbrev Unborn : ℕ → Type 0
  Unborn i = Born i (object_now run (effects run)) → ⊥

  abbrev Unleft : ℕ → Type 0
  Unleft h = (t : ℕ) → In (snapshot t h) (effects run) → ⊥

  abbrev BornLater : (i h : ℕ) → Type 0
  BornLater i h = (left : ℕ) × In (snapshot left h) (effects run) × (Born i (object_at left (effects run)) → ⊥)

  pub at_work : (w : ℕ) → T (not (is_idle (s.worker w))) ↔ (Free run w → ⊥)
  at_work w = opposite (not (is_idle (s.worker w))) (idle_free s invariant run A E w, free_idle s invariant run A E w)

  idles : (w : ℕ) → T (is_idle (s.worker w)) ↔ Free run w
  idles w = at (is_idle (s.worker w)) (idle_free s invariant run A E w) (free_idle s invariant run A E w)
    where
      at : (b : Bool) → (T (not (not b)) → Free run w) → (Free run w → T (not (not b))) → T b ↔ Free run w
      at true f g = (f, g)
      at false f g = (f, g)

  unborn : (i : ℕ) → T (not_registered s.memory i) ↔ Unborn i
  unborn i = (
    λ t b. omega (arith, leb→le s.memory.items i t, born_registered s invariant run A E i (length run) b),
    λ f. at (split i s.memory.items) f,
  )
    where
      at : Split i s.memory.items → Unborn i → T (not_registered s.memory i)
      at (Split.less p) f = absurd (f (registered_born s invariant run A E i p))
      at (Split.more p) f = le_leb s.memory.items i p

  unleft : (h : ℕ) → T (no_handle s.memory h) ↔ Unleft h
  unleft h = (
    λ t left n. omega (arith, leb→le s.memory.camera.counter h t, (left_handle s invariant run A E left h n).0),
    λ f. at (split h s.memory.camera.counter) f,
  )
    where
      at : Split h s.memory.camera.counter → Unleft h → T (no_handle s.memory h)
      at (Split.less p) f = absurd (f (s.memory.camera.left_at h) (E.memory.snapshots h p))
      at (Split.more p) f = le_leb s.memory.camera.counter h p

  -- of a registered item, at a handle that the counter left
  born_later : (i h : ℕ) → i < s.memory.items → h < s.memory.camera.counter → T (ltb h ((s.memory.item i).stamp 0)) ↔ BornLater i h
  born_later i h registered left = (
    λ t. (
      s.memory.camera.left_at h,
      E.memory.snapshots h left,
      λ b. omega (arith, ltb→lt h ((s.memory.item i).stamp 0) t, born_stamp s invariant run A E i h b),
    ),
    λ x. at (split h ((s.memory.item i).stamp 0)) x,
  )
    where
      at : Split h ((s.memory.item i).stamp 0) → BornLater i h → T (ltb h ((s.memory.item i).stamp 0))
      at (Split.less p) x = lt_ltb h ((s.memory.item i).stamp 0) p
      at (Split.more p) (τ, n, unborn) = absurd (unborn (subst (λ (τ : ℕ). Born i (object_at τ (effects run)))
          (sym (left_handle s invariant run A E τ h n).1) (stamp_born s invariant run A E i h registered left p)))

  -- no node is left, and no place for an item
  module _ (Y : Tally s) (C : Counted s.memory (nodes_in_use run)) where
    all_in_use : T (none_left (node_to_take s.memory)) ↔ (s.memory.limits.nodes ≤ nodes_in_use run)
    all_in_use = at (none_left (node_to_take s.memory)) (node_left s Y run C)
      where
        at : (b : Bool) → T (not b) ↔ (nodes_in_use run < s.memory.limits.nodes) → T b ↔ (s.memory.limits.nodes ≤ nodes_in_use run)
        at false x = (λ t. absurd t, λ l. absurd (omega (arith, x.0 tt)))
        at true x = (λ t. most (split (nodes_in_use run) s.memory.limits.nodes), λ l. tt)
          where
            most : Split (nodes_in_use run) s.memory.limits.nodes → s.memory.limits.nodes ≤ nodes_in_use run
            most (Split.less l) = absurd (x.1 l)
            most (Split.more l) = l

    no_place : T (leb s.memory.limits.items s.memory.items) ↔ (s.memory.limits.items ≤ items_now run (effects run))
    no_place = subst (λ (i : ℕ). T (leb s.memory.limits.items s.memory.items) ↔ (s.memory.limits.items ≤ i))
        (sym (items_told s invariant run A E)) (at_least s.memory.limits.items s.memory.items)

    -- ---- the calls

    abbrev p : ℕ
    p = s.memory.limits.workers

    abbrev m : ℕ
    m = s.memory.limits.items

    abbrev n : ℕ
    n = s.memory.limits.nodes

    abbrev q : ℕ
    q = s.memory.limits.projects

    -- numbers 3 and 4 of a start, before others
    of_worker : (w : ℕ) (y : Move) (Q : ℕ → Type 0) → Above 4 Q → Exactly y Q →
        Exactly (cond (no_worker s w) (refused s 3) (cond (not (is_idle (s.worker w))) (refused s 4) y))
        (λ k. Given 3 (p ≤ w) k ⊎ (Given 4 (Free run w → ⊥) k ⊎ Q k))
    of_worker w y Q above rest =
        before s 3 (no_worker s w) (p ≤ w) (at_least p w) (cond (not (is_idle (s.worker w))) (refused s 4) y)
        (λ k. Given 4 (Free run w → ⊥) k ⊎ Q k) (above_more 3 4 (Free run w → ⊥) Q (omega arith) above)
        (λ t. before s 4 (not (is_idle (s.worker w))) (Free run w → ⊥) (at_work w) y Q above (λ u. rest))

    -- a step of a worker at work is counted, and so no refusal with steps 0
    counted : (l : ℕ) (ls : List ℕ) (u : Comes) (k : ℕ) → step_answer (l ∷ ls) u ≢ refusal k 0
    counted l ls (goes_on ph) k e = let z : length (l ∷ ls) ≡ 0 = ap (λ (x : Answer). x.steps) e in omega arith
    counted l ls (ends_with number) k e = let z : length (l ∷ ls) ≡ 0 = ap (λ (x : Answer). x.steps) e in omega arith
    counted l ls (answers_change v) k e = let z : length (l ∷ ls) ≡ 0 = ap (λ (x : Answer). x.steps) e in omega arith
    counted l ls (answers v τ j) k e = let z : length (l ∷ ls) ≡ 0 = ap (λ (x : Answer). x.steps) e in omega arith

    steps : (w : ℕ) (x : Worker) → T (not (is_idle x)) → (k : ℕ) → (stepped s w x).answer ≢ refusal k 0
    unfolding stepped
    steps w idle t k = absurd t
    steps w (busy o l ph) t k = counted (line_number ph) l (line s.now s.memory ph).comes k

    leaves : (w : ℕ) (x : Worker) → T (not (is_idle x)) → (k : ℕ) → (left s w x).answer ≢ refusal k 0
    unfolding left
    leaves w idle t k = absurd t
    leaves w (busy o l ph) t k = not_refused 0 k

    exactly : (x : Call) → Exactly (move s x) (Applies run (effects run) p m n q x)
    unfolding move starting registering stepping abandoning
    exactly (Call.make a b c d e) =
        λ k. (λ z. (sym (same_number 1 k z), λ j g. omega (arith, g, same_number 1 k z)), λ l. ap (λ (i : ℕ). refusal i 0) (sym l.0))
    exactly (Call.register v z) =
        before s 7 (no_project s.memory v) (q ≤ v) (at_least q v) _ (λ k. Given 10 (m ≤ items_now run (effects run)) k ⊎ Given 11 (n ≤ nodes_in_use run) k)
        (above_more 7 10 _ (Given 11 (n ≤ nodes_in_use run)) (omega arith) (above_one 10 11 _ (omega arith)))
        (λ t. before s 10 (leb m s.memory.items) (m ≤ items_now run (effects run)) no_place _ (Given 11 (n ≤ nodes_in_use run))
        (above_one 10 11 _ (omega arith))
        (λ u. last s 11 (none_left (node_to_take s.memory)) (n ≤ nodes_in_use run) all_in_use _ (λ r k. not_refused s.memory.items k)))
    exactly (Call.v_read w i) =
        of_worker w _ (Given 6 (Unborn i)) (above_one 4 6 _ (omega arith))
        (last s 6 (not_registered s.memory i) (Unborn i) (unborn i) _ (λ t k. not_refused 0 k))
    exactly (Call.v_cas w i old new) =
        of_worker w _ (λ k. Given 6 (Unborn i) k ⊎ Given 7 ((q ≤ old) ⊎ (q ≤ new)) k)
        (above_more 4 6 _ (Given 7 ((q ≤ old) ⊎ (q ≤ new))) (omega arith) (above_one 6 7 _ (omega arith)))
        (before s 6 (not_registered s.memory i) (Unborn i) (unborn i) _ (Given 7 ((q ≤ old) ⊎ (q ≤ new))) (above_one 6 7 _ (omega arith))
        (λ t. last s 7 (no_project s.memory old || no_project s.memory new) ((q ≤ old) ⊎ (q ≤ new))
        (either (no_project s.memory old) (no_project s.memory new) (at_least q old) (at_least q new)) _ (λ u k. not_refused 0 k)))
    exactly (Call.take_snapshot w) =
        before s 3 (no_worker s w) (p ≤ w) (at_least p w) _ (Given 4 (Free run w → ⊥)) (above_one 3 4 _ (omega arith))
        (λ t. last s 4 (not (is_idle (s.worker w))) (Free run w → ⊥) (at_work w) _ (λ u k. not_refused 0 k))
    exactly (Call.read_snapshot w i h) =
        of_worker w _ (λ k. Given 6 (Unborn i) k ⊎ (Given 8 (Unleft h) k ⊎ Given 9 (BornLater i h) k))
        (above_more 4 6 _ (λ k. Given 8 (Unleft h) k ⊎ Given 9 (BornLater i h) k) (omega arith)
        (above_more 6 8 _ (Given 9 (BornLater i h)) (omega arith) (above_one 8 9 _ (omega arith))))
        (before s 6 (not_registered s.memory i) (Unborn i) (unborn i) _ (λ k. Given 8 (Unleft h) k ⊎ Given 9 (BornLater i h) k)
        (above_more 6 8 _ (Given 9 (BornLater i h)) (omega arith) (above_one 8 9 _ (omega arith)))
        (λ t. before s 8 (no_handle s.memory h) (Unleft h) (unleft h) _ (Given 9 (BornLater i h)) (above_one 8 9 _ (omega arith))
        (λ u. last s 9 (ltb h ((s.memory.item i).stamp 0)) (BornLater i h)
        (born_later i h (nleb→lt s.memory.items i t) (nleb→lt s.memory.camera.counter h u)) _ (λ r k. not_refused 0 k))))
    exactly (Call.total w r h) =
        of_worker w _ (λ k. Given 7 (q ≤ r) k ⊎ Given 8 (Unleft h) k)
        (above_more 4 7 _ (Given 8 (Unleft h)) (omega arith) (above_one 7 8 _ (omega arith)))
        (before s 7 (no_project s.memory r) (q ≤ r) (at_least q r) _ (Given 8 (Unleft h)) (above_one 7 8 _ (omega arith))
        (λ t. last s 8 (no_handle s.memory h) (Unleft h) (unleft h) _ (λ u k. not_refused 0 k)))
    exactly (Call.step w) =
        before s 3 (no_worker s w) (p ≤ w) (at_least p w) _ (Given 5 (Free run w)) (above_one 3 5 _ (omega arith))
        (λ t. last s 5 (is_idle (s.worker w)) (Free run w) (idles w) (stepped s w (s.worker w)) (steps w (s.worker w)))
    exactly (Call.abandon w) =
        before s 3 (no_worker s w) (p ≤ w) (at_least p w) _ (Given 5 (Free run w)) (above_one 3 5 _ (omega arith))
        (λ t. last s 5 (is_idle (s.worker w)) (Free run w) (idles w) (left s w (s.worker w)) (leaves w (s.worker w)))

-- in every run of the machine
pub refuses : (limits : Limits) (es : List Event) (x : Call) (k : ℕ) → (reply (after_events limits es) x ≡ refusal k 0)
    ↔ Least (Applies (machine_notes limits es) (effects (machine_notes limits es)) limits.workers limits.items limits.nodes limits.projects x) k
unfolding reply
refuses limits es x k =
    subst (λ (y : Limits). (reply (after_events limits es) x ≡ refusal k 0)
    ↔ Least (Applies (machine_notes limits es) (effects (machine_notes limits es)) y.workers y.items y.nodes y.projects x) k)
    (limits_kept limits es)
    (exactly (after_events limits es) (run_right limits es) (machine_notes limits es) (agrees limits es) (effected limits es) (tally limits es)
    (in_use limits es) x k)
