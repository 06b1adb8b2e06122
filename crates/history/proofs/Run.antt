-- Every call keeps the invariant, so it holds after every run.
use Rattle.std.specs.Prelude.{◌≡◌, not, T, leb}
use Rattle.std.proofs.Math.Path.{refl, ap, sym, subst}
use Rattle.std.proofs.Common.{◌∙◌, true≢false}
use Rattle.std.proofs.Math.Bool.{true, false}
use mathlib.Core.List.{List, [], ◌∷◌}
use Prim.Native.Nat.{ℕ, suc, ◌≤◌, ◌<◌}
use native.Mathlib.Omega.{arith}
use Rattle.std.proofs.Math.Dec.{nltb→le, nleb→lt}
use Rattle.definitions.specs.Answers.{Refusal, accepted}
use Rattle.definitions.specs.Calls.{Call}
use Rattle.history.specs.Tools.{put, put_all, put_both, put_same, put_other, by_eq, by_test}
use Rattle.history.specs.Machine.{
  Item,
  Memory,
  Limits,
  Operation,
  register,
  v_read,
  v_cas,
  take_snapshot,
  read_snapshot,
  total,
  Phase,
  total_at,
  found,
  node_to_take,
  one_taken,
  nothing,
  memory_after,
  place_after,
  newborn,
  Place,
  unplaced,
  changes,
  Entry,
  Worker,
  idle,
  busy,
  Catalogue,
  tick,
  Move,
  unless,
  worker_refusals,
  register_refusals,
  stepped,
  stepping,
  first_phase,
  start_refusals,
  begun,
  starting,
  registered,
  registering,
  move,
  call,
  Event,
  called,
  reader_starts,
  reader_steps,
  left,
  abandoning,
  step_refusals,
  reader,
  reader_refusals,
  event_move,
  happens,
  fresh,
  after_events,
}
use Rattle.history.specs.Facts.{empty, ItemFacts, MemoryFacts, LaterItem, Later}
use Rattle.history.proofs.Changes.{effect_later, camera_stays, item_same, item_stays, newborn_facts, newborn_later}
use Rattle.history.proofs.PhaseFacts.{Totals, PhaseFacts, phase_later}
use Rattle.history.proofs.RightAnswers.{phase_operation, FateLines}
use Rattle.history.proofs.Places.{
  VersionRight,
  PlaceRight,
  Kept,
  WorkerRight,
  Invariant,
  place_later,
  version_later,
  kept_by_effect,
  kept_in_table,
  moved_later,
}
use Rattle.history.proofs.Step.{unchanged, step_keeps, left_off_keeps}

-- ---- refusals

-- none of the refusals applies
abbrev pub Passed : List Refusal → Type 0
Passed [] = Unit {0}
Passed (r ∷ rs) = T (not r.when) × Passed rs

-- what holds of the catalogue, and of the move where no refusal applies, holds of what the call leaves
pub unless_all : (P : Catalogue → Type 0) (s : Catalogue) (rs : List Refusal) (x : Move) → P s → (Passed rs → P x.leaves) → P (unless s rs x).leaves
unless_all P s [] x p f = f tt
unless_all P s (r ∷ rs) x p f = by_test (λ (y : Move). P y.leaves) r.when (λ e. p) (λ e. unless_all P s rs x p (λ z. f (e, z)))

-- ---- start and register: the table gets a new line, at now

module _ (s : Catalogue) (invariant : Invariant s) where
  -- a version's operation began before now
  by_past : (i j : ℕ) → j < (s.memory.item i).versions → (s.memory.item i).author j < s.now
  by_past i j p = omega (arith, (invariant.kept.memory.item i).author_first j p, (invariant.kept.memory.item i).published_past j p)

  quietly : Kept (suc s.now) s.memory s.fate s.place
  unfolding memory_after place_after
  quietly = kept_by_effect invariant.kept s.now (s.fate s.now).operation true refl (λ l. absurd (true≢false l)) nothing tt

  stay : Later s.now s.memory s.memory
  unfolding memory_after
  stay = effect_later invariant.kept.memory 0 take_snapshot false nothing tt

  below : (i : ℕ) → T (not (leb s.memory.items i)) → 0 < (s.memory.item i).valid
  below i x = invariant.kept.memory.registered i (nleb→lt s.memory.items i x)

  gone : (h : ℕ) → T (not (leb s.memory.camera.counter h)) → h < s.memory.camera.counter
  gone h x = nleb→lt s.memory.camera.counter h x

  first_facts : (op : Operation) → Passed (start_refusals s.memory op) → PhaseFacts (suc s.now) s.now [] s.memory (first_phase s.memory op)
  unfolding first_phase total_at
  first_facts (register i v z) x = absurd x.0
  first_facts (v_read i) x = (refl, below i x.0)
  first_facts (v_cas i a b) x = (refl, below i x.0)
  first_facts take_snapshot x = refl
  first_facts (read_snapshot i h) x = (
    refl,
    record {
      some = below i x.0;
      low = nltb→le h ((s.memory.item i).stamp 0) x.1.1.0;
      gone = gone h x.1.0;
      when = invariant.kept.memory.left_past h (gone h x.1.0);
    },
  )
  first_facts (total q h) x =
      by_eq (λ (ph : Phase). PhaseFacts (suc s.now) s.now [] s.memory ph) 0 s.memory.items
      (λ e. subst (λ (i : ℕ). Totals (suc s.now) s.now s.memory q h s.memory.items i 0 []) e none)
      (λ e. (omega arith, none))
    where
      none : Totals (suc s.now) s.now s.memory q h s.memory.items 0 0 []
      none =
          record {
            gone = gone h x.1.0;
            when = invariant.kept.memory.left_past h (gone h x.1.0);
            at = omega arith;
            registered = omega arith;
            have = λ i p. invariant.kept.memory.registered i p;
            noted = λ i p. by_past i 0 (omega (arith, invariant.kept.memory.registered i p, (invariant.kept.memory.item i).valid_published));
            covers = λ i p r. absurd (omega (arith, invariant.kept.memory.unregistered i p, (invariant.kept.memory.item i).valid_published));
            sum = empty;
          }

  first_operation : (op : Operation) → Passed (start_refusals s.memory op) → op ≡ phase_operation (first_phase s.memory op)
  unfolding first_phase total_at
  first_operation (register i v z) x = absurd x.0
  first_operation (v_read i) x = refl
  first_operation (v_cas i a b) x = refl
  first_operation take_snapshot x = refl
  first_operation (read_snapshot i h) x = refl
  first_operation (total q h) x = by_eq (λ (ph : Phase). total q h ≡ phase_operation ph) 0 s.memory.items (λ e. refl) (λ e. refl)

  begun_keeps : (w : ℕ) (op : Operation) → Passed (start_refusals s.memory op) → Invariant (tick (begun s w op))
  unfolding begun tick
  begun_keeps w op y =
      record {
        kept = kept;
        workers = λ w'. workers y w';
        moved = λ h p. moved_later stay h p
            (ap (λ (f : Entry). f.operation) (put_other s.fate s.now f _ (omega (arith, (invariant.moved h p).begun))))
            (put_other s.place s.now unplaced _ (omega (arith, (invariant.moved h p).begun))) (invariant.moved h p);
      }
    where
      f : Entry
      f = record { operation = op; worker = w; done = false; answer = 0; ended_at = 0; lines = []; refusal = 0 }

      fate' : ℕ → Entry
      fate' = put s.fate s.now f

      place' : ℕ → Place
      place' = put s.place s.now unplaced

      kept : Kept (suc s.now) s.memory fate' place'
      kept = kept_in_table quietly (λ i j p. ap (λ (f : Entry). f.operation) (put_other s.fate s.now f _ (omega (arith, by_past i j p))))
          (λ i j p. put_other s.place s.now unplaced _ (omega (arith, by_past i j p)))
          (λ q. put_all (λ (q : ℕ) (f : Entry). FateLines f) s.fate s.now f q
          (λ e. record { whole = λ d. absurd (true≢false (sym d)); refused = λ d. absurd (d refl) }) (λ e. invariant.kept.lines q))
          (λ q. put_both (λ (q : ℕ) (f : Entry) (p : Place). PlaceRight (suc s.now) q s.memory f p) s.fate s.place s.now f unplaced q
          (λ e. refl) (λ e. quietly.places q))

      stays : (w' : ℕ) (x : Worker) → WorkerRight s.now s.memory s.fate s.place w' x → WorkerRight (suc s.now) s.memory fate' place' w' x
      stays w' idle k = tt
      stays w' (busy o l ph) k =
          record {
            begun = omega (arith, k.begun);
            worker = ap (λ (f : Entry). f.worker) e ∙ k.worker;
            operation = ap
                (λ (f : Entry). f.operation) e
                ∙ k.operation;
            unset = ap (λ (f : Entry). f.done) e ∙ k.unset;
            unpub = λ b. put_other s.place s.now unplaced o
                (omega (arith, k.begun)) ∙ k.unpub b;
            facts = phase_later o stay k.begun invariant.kept.memory l ph k.facts;
          }
        where
          e : fate' o ≡ s.fate o
          e = put_other s.fate s.now f o (omega (arith, k.begun))

      workers : Passed (start_refusals s.memory op) → (w' : ℕ) → WorkerRight (suc s.now) s.memory fate' place' w'
          (put s.worker w (busy s.now [] (first_phase s.memory op)) w')
      workers y w' =
          put_all (λ (w' : ℕ) (x : Worker). WorkerRight (suc s.now) s.memory fate' place' w' x) s.worker w
          (busy s.now [] (first_phase s.memory op)) w'
          (λ z. record {
            begun = omega arith;
            worker = ap (λ (f : Entry). f.worker) new ∙ sym z;
            operation = ap (λ (f : Entry). f.operation) new
                ∙ first_operation op y;
            unset = ap (λ (f : Entry). f.done) new;
            unpub = λ b. put_same s.place s.now unplaced s.now refl;
            facts = first_facts op y;
          })
          (λ z. stays w' (s.worker w') (invariant.workers w'))
        where
          new : fate' s.now ≡ f
          new = put_same s.fate s.now f s.now refl

  pub registered_later : (v z y : ℕ) → Later s.now s.memory (registered s v z y).memory
  unfolding registered
  registered_later v z y =
      record {
        camera = camera_stays;
        limits = refl;
        items = omega arith;
        item = λ n. put_all (λ (n : ℕ) (x : Item). LaterItem s.now (s.memory.item n) x) s.memory.item s.memory.items
            (newborn s.now s.memory.camera.counter v z y) n
            (λ e. newborn_later (invariant.kept.memory.unregistered n (omega arith))
            (omega (arith, invariant.kept.memory.unregistered n (omega arith), (invariant.kept.memory.item n).valid_published)))
            (λ e. item_same (invariant.kept.memory.item n).valid_published);
        new_author = λ n q. put_all (λ (n : ℕ) (x : Item). 0 < x.valid → s.now ≤ x.author 0) s.memory.item s.memory.items
            (newborn s.now s.memory.camera.counter v z y) n (λ e r. omega arith)
            (λ e r. absurd (omega (arith, (invariant.kept.memory.item n).valid_published)));
      }

  register_keeps : (v z y : ℕ) → Invariant (tick (registered s v z y))
  unfolding tick registered
  register_keeps v z y =
      record {
        kept =
            record {
              lines = λ q. put_all (λ (q : ℕ) (f : Entry). FateLines f) s.fate s.now f q
                  (λ e. record { whole = λ d. refl; refused = λ d. absurd (d refl) }) (λ e. invariant.kept.lines q);
              memory = memory;
              versions_right = λ i j. versions_right i j;
              places = λ q. places q;
            };
        workers = λ w. stays w (s.worker w) (invariant.workers w);
        moved = λ h p. moved_later L h p
            (ap (λ (f : Entry). f.operation) (put_other s.fate s.now f _ (omega (arith, (invariant.moved h p).begun))))
            (put_other s.place s.now _ _ (omega (arith, (invariant.moved h p).begun))) (invariant.moved h p);
      }
    where
      m : Memory
      m = s.memory

      it : Item
      it = newborn s.now m.camera.counter v z y

      m' : Memory
      m' = record { limits = m.limits; pool = one_taken m.pool; camera = m.camera; items = suc m.items; item = put m.item m.items it }

      f : Entry
      f = record { operation = register m.items v z; worker = 0; done = true; answer = m.items; ended_at = s.now; lines = []; refusal = 0 }

      fate' : ℕ → Entry
      fate' = put s.fate s.now f

      place' : ℕ → Place
      place' = put s.place s.now (changes m.items 0)

      L : Later s.now m m'
      L = unfold registered in (registered_later v z y)

      memory : MemoryFacts (suc s.now) m'
      memory =
          record {
            left_past = λ h p. omega (arith, invariant.kept.memory.left_past h p);
            left_rises = invariant.kept.memory.left_rises;
            item = λ n. put_all (λ (n : ℕ) (x : Item). ItemFacts (suc s.now) m.camera x) m.item m.items it n
                (λ e. newborn_facts invariant.kept.memory.left_past) (λ e. item_stays camera_stays (invariant.kept.memory.item n));
            births = λ a b p q. put_all (λ (a : ℕ) (x : Item). a < b → x.author 0 < (put m.item m.items it b).author 0) m.item m.items it a
                (λ e r. absurd (omega arith))
                (λ e r. put_all (λ (b : ℕ) (x : Item). b < suc m.items → a < b → (m.item a).author 0 < x.author 0) m.item m.items it b
                (λ f u w. by_past a 0
                (omega (arith, invariant.kept.memory.registered a (omega arith), (invariant.kept.memory.item a).valid_published)))
                (λ f u w. invariant.kept.memory.births a b w (omega arith)) q p) p;
            registered = λ n p. put_all (λ (n : ℕ) (x : Item). 0 < x.valid) m.item m.items it n (λ e. omega arith)
                (λ e. invariant.kept.memory.registered n (omega arith));
            unregistered = λ n p. put_all (λ (n : ℕ) (x : Item). x.versions ≡ 0) m.item m.items it n (λ e. absurd (omega arith))
                (λ e. invariant.kept.memory.unregistered n (omega arith));
          }

      versions_right : (i j : ℕ) → j < (put m.item m.items it i).versions → VersionRight fate' place' i (put m.item m.items it i) j
      versions_right i j =
          put_all (λ (i : ℕ) (x : Item). j < x.versions → VersionRight fate' place' i x j) m.item m.items it i
          (λ e p. subst (λ (i : ℕ). VersionRight fate' place' i it j) (sym e) (subst (λ (j : ℕ). VersionRight fate' place' m.items it j) (omega arith)
          (record {
            asked = ap (λ (f : Entry). f.operation) (put_same s.fate s.now f s.now refl);
            valid = λ z. put_same s.place s.now (changes m.items 0) s.now refl;
            unset = λ z. absurd (omega arith);
          })))
          (λ e p. version_later (item_same {t = s.now} (invariant.kept.memory.item i).valid_published) i j p (λ z. z)
          (ap (λ (f : Entry). f.operation) (put_other s.fate s.now f _ (omega (arith, by_past i j p))))
          (put_other s.place s.now (changes m.items 0) _ (omega (arith, by_past i j p))) (invariant.kept.versions_right i j p))

      new : put m.item m.items it m.items ≡ it
      new = put_same m.item m.items it m.items refl

      places : (q : ℕ) → PlaceRight (suc s.now) q m' (fate' q) (place' q)
      places q =
          put_both (λ (q : ℕ) (f : Entry) (p : Place). PlaceRight (suc s.now) q m' f p) s.fate s.place s.now f (changes m.items 0) q
          (λ e. record {
            good = subst (λ (x : Item). 0 < x.valid) (sym new) (omega arith);
            mine = ap (λ (x : Item). x.author 0) new ∙ sym e;
            till = λ d. subst (λ (x : Item). x.effect_at 0 ≤ s.now) (sym new) (omega arith);
            past = λ d. omega arith;
            is = λ d. refl;
            register_done = λ d. refl;
            register_ended = λ d. sym e;
          })
          (λ e. place_later invariant.kept.memory L q (s.fate q) (s.place q) (invariant.kept.places q))

      stays : (w' : ℕ) (x : Worker) → WorkerRight s.now s.memory s.fate s.place w' x → WorkerRight (suc s.now) m' fate' place' w' x
      stays w' idle k = tt
      stays w' (busy o l ph) k =
          record {
            begun = omega (arith, k.begun);
            worker = ap (λ (f : Entry). f.worker) e ∙ k.worker;
            operation = ap
                (λ (f : Entry). f.operation) e
                ∙ k.operation;
            unset = ap (λ (f : Entry). f.done) e ∙ k.unset;
            unpub = λ b. put_other s.place s.now (changes m.items 0) o
                (omega (arith, k.begun)) ∙ k.unpub b;
            facts = phase_later o L k.begun invariant.kept.memory l ph k.facts;
          }
        where
          e : fate' o ≡ s.fate o
          e = put_other s.fate s.now f o (omega (arith, k.begun))

-- ---- calls

start_keeps : (s : Catalogue) → Invariant s → (w : ℕ) (op : Operation) → Invariant (tick (starting s w op).leaves)
unfolding starting
start_keeps s invariant w op =
    unless_all (λ (s : Catalogue). Invariant (tick s)) s (worker_refusals s w op) (record { answer = accepted 0; leaves = begun s w op })
    (unchanged s invariant)
    (λ x. begun_keeps s invariant w op x.1.1)

abandon_keeps : (s : Catalogue) → Invariant s → (w : ℕ) → Invariant (tick (abandoning s w).leaves)
unfolding abandoning
abandon_keeps s invariant w =
    unless_all (λ (s : Catalogue). Invariant (tick s)) s (step_refusals s w) (left s w (s.worker w)) (unchanged s invariant) (λ x. at (s.worker w))
  where
    at : (x : Worker) → Invariant (tick (left s w x).leaves)
    at idle = unfold left in (unchanged s invariant)
    at (busy o l ph) = unfold left in (left_off_keeps s invariant w o ph)

pub call_keeps : (s : Catalogue) (c : Call) → Invariant s → Invariant (call s c)
unfolding call move registering stepping
call_keeps s (Call.make p m n q c) invariant = unchanged s invariant
call_keeps s (Call.register v z) invariant =
    unless_all (λ (s : Catalogue). Invariant (tick s)) s (register_refusals s.memory v)
    (record { answer = accepted s.memory.items; leaves = registered s v z (found (node_to_take s.memory)) }) (unchanged s invariant)
    (λ x. register_keeps s invariant v z (found (node_to_take s.memory)))
call_keeps s (Call.v_read w i) invariant = start_keeps s invariant w (v_read i)
call_keeps s (Call.v_cas w i a b) invariant = start_keeps s invariant w (v_cas i a b)
call_keeps s (Call.take_snapshot w) invariant = start_keeps s invariant w take_snapshot
call_keeps s (Call.read_snapshot w i h) invariant = start_keeps s invariant w (read_snapshot i h)
call_keeps s (Call.total w q h) invariant = start_keeps s invariant w (total q h)
call_keeps s (Call.step w) invariant =
    unless_all (λ (s : Catalogue). Invariant (tick s)) s (step_refusals s w) (stepped s w (s.worker w)) (unchanged s invariant)
    (λ x. step_keeps s w (s.worker w) invariant (invariant.workers w))
call_keeps s (Call.abandon w) invariant = abandon_keeps s invariant w

pub event_keeps : (s : Catalogue) (e : Event) → Invariant s → Invariant (happens s e)
unfolding happens event_move
event_keeps s (called c) invariant = unfold call in (call_keeps s c invariant)
event_keeps s (reader_starts i) invariant =
    unless_all (λ (s : Catalogue). Invariant (tick s)) s (reader_refusals s i) (record { answer = accepted 0; leaves = begun s (reader s) (v_read i) })
    (unchanged s invariant)
    (λ x. begun_keeps s invariant (reader s) (v_read i) x.1)
event_keeps s reader_steps invariant = step_keeps s (reader s) (s.worker (reader s)) invariant (invariant.workers (reader s))

fresh_right : (limits : Limits) → Invariant (fresh limits)
unfolding fresh
fresh_right limits =
    record {
      kept = record {
        memory = record {
          left_past = λ h p. absurd (omega arith);
          left_rises = λ g h p q. absurd (omega arith);
          registered = λ i p. absurd (omega arith);
          unregistered = λ i p. refl;
          births = λ i n p q. absurd (omega arith);
          item = λ i. record {
            valid_published = omega arith;
            one_open = omega arith;
            first = λ p. omega arith;
            birth = λ p. absurd (omega arith);
            published_past = λ j p. omega arith;
            author_first = λ j p. omega arith;
            author_before = λ j p. omega arith;
            effect_after_46 = λ j p. omega arith;
            effect_before_22 = λ j p. omega arith;
            stamped_past = λ j p. omega arith;
            next = λ j p. omega arith;
            differ = λ j p. omega arith;
            counted = λ j p. absurd (omega arith);
          };
        };
        versions_right = λ i j p. absurd (omega arith);
        places = λ o. refl;
        lines = λ o. record { whole = λ d. absurd (true≢false (sym d)); refused = λ d. absurd (d refl) };
      };
      workers = λ w. tt;
      moved = λ h p. absurd (omega arith);
    }

-- after any calls on a fresh catalogue, the invariant holds
pub run_right : (limits : Limits) (es : List Event) → Invariant (after_events limits es)
unfolding after_events
run_right limits [] = fresh_right limits
run_right limits (x ∷ es) = event_keeps (after_events limits es) x (run_right limits es)
