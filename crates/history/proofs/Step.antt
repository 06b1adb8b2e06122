-- Every step keeps the invariant, and so does every abandon.
use Rattle.std.specs.Prelude.{◌≡◌, ◌≢◌, false, List, ◌∷◌}
use Rattle.std.proofs.Math.Path.{refl, ap, sym, subst}
use Rattle.std.proofs.Common.{◌∙◌, true≢false, arith}
use Rattle.std.proofs.Math.Bool.{true}
use Prim.Native.Nat.{ℕ, suc, ◌<◌}
use Rattle.history.specs.Tools.{put, put_all, put_same, put_other, Split, split}
use Rattle.history.specs.Machine.{
  Memory,
  take_snapshot,
  Phase,
  line_number,
  Effect,
  nothing,
  counts,
  publishes,
  stamps,
  takes_node,
  gives_back,
  Comes,
  goes_on,
  ends_with,
  answers_change,
  answers,
  line,
  memory_after,
  place_after,
  Place,
  unplaced,
  observes,
  Entry,
  Worker,
  idle,
  busy,
  Catalogue,
  ended,
  turned_away,
  settle,
  affect,
  tick,
  stepped,
  Found,
  no_node,
  node,
  held_node,
  give,
  left_off,
}
use Rattle.history.specs.Facts.{MemoryFacts, Later}
use Rattle.history.proofs.Changes.{Allowed, effect_later}
use Rattle.history.proofs.PhaseFacts.{phase_later}
use Rattle.history.proofs.RightAnswers.{phase_operation, has_published, published_after, ComesRight, Moving, LineRight}
use Rattle.history.proofs.EachLine.{every_line}
use Rattle.history.proofs.Places.{
  Kept,
  InOperation,
  WorkerRight,
  Invariant,
  not_none,
  kept_by_effect,
  kept_changed,
  kept_refused,
  what_refused,
  kept_answered,
  Moved,
  moved_later,
  not_observing,
  obs_not_none,
  what_same,
}

-- a worker that does not step, where the operation o of another is all that changes in the table
worker_keeps : (o w w' : ℕ) {t : ℕ} {m m' : Memory} (fate fate' : ℕ → Entry) (place place' : ℕ → Place) (x : Worker) → Later t m m' → MemoryFacts t m
    →
    ((fate o).worker ≡ w' → ⊥) → ((q : ℕ) → q < t → q ≢ o → fate' q ≡ fate q) → ((q : ℕ) → q < t → q ≢ o → place q ≡ unplaced → place' q ≡ unplaced) →
    WorkerRight t m fate place w' x → WorkerRight (suc t) m' fate' place' w' x
worker_keeps o w w' fate fate' place place' idle L known d ho hp k = tt
worker_keeps o w w' fate fate' place place' (busy q l ph) L known d ho hp k =
    record {
      begun = omega (arith, k.begun);
      worker = ap (λ (f : Entry). f.worker) e ∙ k.worker;
      operation = ap (λ (f : Entry). f.operation) e ∙ k.operation;
      unset = ap (λ (f : Entry). f.done) e ∙ k.unset;
      unpub = λ b. hp q k.begun other (k.unpub b);
      facts = phase_later q L k.begun known l ph k.facts;
    }
  where
    other : q ≢ o
    other p = d (ap (λ (o : ℕ). (fate o).worker) (sym p) ∙ k.worker)

    e : fate' q ≡ fate q
    e = ho q k.begun other

abbrev comes_place : Comes → Place
comes_place (goes_on ph) = unplaced
comes_place (ends_with x) = unplaced
comes_place (answers_change x) = unplaced
comes_place (answers x τ j) = observes τ j x

-- ---- step

module _ (s : Catalogue) (invariant : Invariant s) (w o : ℕ) (l : List ℕ) (ph : Phase)
    (K : InOperation s.now s.memory (s.fate o) (s.place o) w o l ph) (e : Effect)
    (D : Allowed s.now o (phase_operation ph) (has_published ph) s.memory e) where
  L : Later s.now s.memory (memory_after s.now o e s.memory)
  L = effect_later invariant.kept.memory o (phase_operation ph) (has_published ph) e D

  place_keeps : (e : Effect) → Allowed s.now o (phase_operation ph) (has_published ph) s.memory e → (q : ℕ) → q ≢ o → s.place q ≡ unplaced →
      place_after s.now o e s.memory s.place q ≡ unplaced
  unfolding place_after
  place_keeps nothing x q d p = p
  place_keeps counts x q d p = p
  place_keeps (takes_node i0 b0 j0 y0) x q d p = p
  place_keeps (gives_back y) x q d p = p
  place_keeps (publishes i v y) x q d p = put_other s.place o _ q d ∙ p
  place_keeps (stamps i j c r) x q d p = put_other s.place _ _ q (λ z. not_none (invariant.kept.versions_right i j (omega arith)) p (sym z)) ∙ p

  own_keeps : (e : Effect) → Allowed s.now o (phase_operation ph) (has_published ph) s.memory e → published_after e (has_published ph) ≡ false →
      place_after s.now o e s.memory s.place o ≡ unplaced
  unfolding place_after
  own_keeps nothing x l = K.unpub l
  own_keeps counts x l = K.unpub l
  own_keeps (takes_node i0 b0 j0 y0) x l = K.unpub l
  own_keeps (gives_back y) x l = K.unpub l
  own_keeps (publishes i v y) x l = absurd (true≢false l)
  own_keeps (stamps i j c r) x l = put_other s.place _ _ o (λ z. not_none (invariant.kept.versions_right i j (omega arith)) (K.unpub l) (sym z))
      ∙ K.unpub l

  R1 : Kept (suc s.now) (memory_after s.now o e s.memory) s.fate (place_after s.now o e s.memory s.place)
  R1 = kept_by_effect invariant.kept o (phase_operation ph) (has_published ph) K.operation K.unpub e D

  observer_keeps : (e : Effect) → Allowed s.now o (phase_operation ph) (has_published ph) s.memory e → {q τ j x : ℕ} → s.place q ≡ observes τ j x →
      place_after s.now o e s.memory s.place q ≡ s.place q
  unfolding place_after
  observer_keeps nothing x p = refl
  observer_keeps counts x p = refl
  observer_keeps (takes_node i0 b0 j0 y0) x p = refl
  observer_keeps (gives_back y) x p = refl
  observer_keeps (publishes i v y) x {q} p = put_other s.place o _ q (obs_not_none s.place p (K.unpub x.unpub))
  observer_keeps (stamps i j c r) x {q} p = put_other s.place _ _ q (λ z. not_observing (invariant.kept.versions_right i j (omega arith)) p (sym z))

  counter_goes_on : (e : Effect) (ph' : Phase) → Moving s.now s.memory (phase_operation ph) e (goes_on ph') →
      (memory_after s.now o e s.memory).camera.counter ≡ s.memory.camera.counter
  unfolding memory_after
  counter_goes_on nothing ph' x = refl
  counter_goes_on counts ph' x = absurd x
  counter_goes_on (publishes i v y) ph' x = refl
  counter_goes_on (takes_node i0 b0 j0 y0) ph' x = refl
  counter_goes_on (gives_back y) ph' x = refl
  counter_goes_on (stamps i j c r) ph' x = refl

  counter_changed : (e : Effect) (y : ℕ) → Moving s.now s.memory (phase_operation ph) e (answers_change y) →
      (memory_after s.now o e s.memory).camera.counter ≡ s.memory.camera.counter
  unfolding memory_after
  counter_changed nothing y x = refl
  counter_changed counts y x = absurd x
  counter_changed (publishes i v z) y x = refl
  counter_changed (takes_node i0 b0 j0 y0) y x = refl
  counter_changed (gives_back z) y x = refl
  counter_changed (stamps i j c r) y x = refl

  counter_refused : (e : Effect) (y : ℕ) → Moving s.now s.memory (phase_operation ph) e (ends_with y) →
      (memory_after s.now o e s.memory).camera.counter ≡ s.memory.camera.counter
  unfolding memory_after
  counter_refused nothing y x = refl
  counter_refused counts y x = absurd x
  counter_refused (publishes i v z) y x = refl
  counter_refused (takes_node i0 b0 j0 y0) y x = refl
  counter_refused (gives_back z) y x = refl
  counter_refused (stamps i j c r) y x = refl

  moved_old : (e : Effect) → Allowed s.now o (phase_operation ph) (has_published ph) s.memory e → (fate' : ℕ → Entry) →
      ((q : ℕ) → (fate' q).operation ≡ (s.fate q).operation) → (place' : ℕ → Place) →
      ((q τ j x : ℕ) → s.place q ≡ observes τ j x → place' q ≡ place_after s.now o e s.memory s.place q) → (h : ℕ) →
      h < s.memory.camera.counter → Moved (memory_after s.now o e s.memory) fate' place' (suc s.now) h
  moved_old e d fate' ho place' hp h p = moved_later (effect_later invariant.kept.memory o (phase_operation ph) (has_published ph) e d) h p (ho _)
      (hp _ _ _ _ (invariant.moved h p).at ∙ observer_keeps e d (invariant.moved h p).at) (invariant.moved h p)

  moved_answers : (e : Effect) → Allowed s.now o (phase_operation ph) (has_published ph) s.memory e → (x τ j : ℕ) →
      Moving s.now s.memory (phase_operation ph) e (answers x τ j) → (fate' : ℕ → Entry) →
      ((q : ℕ) → (fate' q).operation ≡ (s.fate q).operation) →
      (place' : ℕ → Place) → ((q τ j x : ℕ) → s.place q ≡ observes τ j x → place' q ≡ place_after s.now o e s.memory s.place q) →
      place' o ≡ observes τ j x → (h : ℕ) → h < (memory_after s.now o e s.memory).camera.counter →
      Moved (memory_after s.now o e s.memory) fate' place' (suc s.now) h
  unfolding memory_after
  moved_answers nothing d x τ j mv fate' ho place' hp new h p = moved_old nothing d fate' ho place' hp h p
  moved_answers (publishes i v y) d x τ j mv fate' ho place' hp new h p = moved_old (publishes i v y) d fate' ho place' hp h p
  moved_answers (takes_node i0 b0 j0 y0) d x τ j mv fate' ho place' hp new h p = moved_old (takes_node i0 b0 j0 y0) d fate' ho place' hp h p
  moved_answers (gives_back y) d x τ j mv fate' ho place' hp new h p = moved_old (gives_back y) d fate' ho place' hp h p
  moved_answers (stamps i k c r) d x τ j mv fate' ho place' hp new h p = moved_old (stamps i k c r) d fate' ho place' hp h p
  moved_answers counts d x τ j mv fate' ho place' hp new h p = at (split h s.memory.camera.counter)
    where
      c : ℕ
      c = s.memory.camera.counter

      mover≡ : put s.memory.camera.mover c o c ≡ o
      mover≡ = put_same s.memory.camera.mover c o c refl

      at : Split h c → Moved (memory_after s.now o counts s.memory) fate' place' (suc s.now) h
      at (Split.less u) = moved_old counts d fate' ho place' hp h u
      at (Split.more u) =
          subst (λ (h : ℕ). Moved (memory_after s.now o counts s.memory) fate' place' (suc s.now) h) (omega arith)
          (record {
            begun = omega (arith, mover≡, K.begun);
            operation = ap (λ (q : ℕ). (fate' q).operation) mover≡ ∙ ho o ∙ K.operation ∙ mv.0;
            at = ap place' mover≡ ∙ new ∙ ap comes_place mv.1
                ∙ ap (λ (y : ℕ). observes y 0 c) (sym (put_same s.memory.camera.left_at c s.now c refl));
          })

  not_mine : (w' : ℕ) → w' ≢ w → (s.fate o).worker ≡ w' → ⊥
  not_mine w' d z = d (sym z ∙ K.worker)

  pub settled : (u : Comes) → ComesRight (suc s.now) o (line_number ph ∷ l) (memory_after s.now o e s.memory) (phase_operation ph)
      (published_after e (has_published ph)) u → Moving s.now s.memory (phase_operation ph) e u →
      Invariant (tick (settle w o (line_number ph ∷ l) (affect o s e) u))
  unfolding tick settle affect
  settled (goes_on ph') x mv =
      record {
        moved = λ h p. moved_old e D s.fate (λ q. refl) (place_after s.now o e s.memory s.place) (λ q τ j x z. refl) h
            (omega (arith, counter_goes_on e ph' mv));
        kept = R1;
        workers = λ w'. put_all (λ (w' : ℕ) (y : Worker). WorkerRight (suc s.now) (memory_after s.now o e s.memory) s.fate
            (place_after s.now o e s.memory s.place) w' y) s.worker w (busy o (line_number ph ∷ l) ph') w'
            (λ z. record {
              begun = omega (arith, K.begun);
              worker = K.worker ∙ sym z;
              operation = K.operation ∙ sym x.same_operation;
              unset = K.unset;
              unpub = λ b. own_keeps e D (sym x.same_published ∙ b);
              facts = x.facts;
            })
            (λ z. worker_keeps o w w' s.fate s.fate s.place (place_after s.now o e s.memory s.place) (s.worker w') L
            invariant.kept.memory (not_mine w' z) (λ q b d. refl) (λ q b d. place_keeps e D q d) (invariant.workers w'));
      }
  settled (ends_with y) x mv =
      record {
        moved = λ h p. moved_old e D (put s.fate o (turned_away (s.fate o) y s.now (line_number ph ∷ l)))
            (what_refused s.fate o y s.now (line_number ph ∷ l)) (place_after s.now o e s.memory s.place) (λ q τ j x z. refl) h
            (omega (arith, counter_refused e y mv));
        kept = kept_refused R1 o (line_number ph ∷ l) (phase_operation ph) K.operation y x.lines (own_keeps e D x.early);
        workers = λ w'. put_all (λ (w' : ℕ) (y' : Worker). WorkerRight (suc s.now) (memory_after s.now o e s.memory)
            (put s.fate o (turned_away (s.fate o) y s.now (line_number ph ∷ l))) (place_after s.now o e s.memory s.place) w' y')
            s.worker w idle w'
            (λ z. tt)
            (λ z. worker_keeps o w w' s.fate (put s.fate o (turned_away (s.fate o) y s.now (line_number ph ∷ l))) s.place
            (place_after s.now o e s.memory s.place) (s.worker w') L invariant.kept.memory (not_mine w' z)
            (λ q b d. put_other s.fate o _ q d) (λ q b d. place_keeps e D q d) (invariant.workers w'));
      }
  settled (answers_change y) x mv =
      record {
        moved = λ h p. moved_old e D (put s.fate o (ended (s.fate o) y s.now (line_number ph ∷ l)))
            (what_same s.fate o y s.now (line_number ph ∷ l)) (place_after s.now o e s.memory s.place) (λ q τ j x z. refl) h
            (omega (arith, counter_changed e y mv));
        kept = kept_changed R1 o (line_number ph ∷ l) (phase_operation ph) K.operation y x;
        workers = λ w'. put_all (λ (w' : ℕ) (y' : Worker). WorkerRight (suc s.now) (memory_after s.now o e s.memory)
            (put s.fate o (ended (s.fate o) y s.now (line_number ph ∷ l))) (place_after s.now o e s.memory s.place) w' y')
            s.worker w idle w'
            (λ z. tt)
            (λ z. worker_keeps o w w' s.fate (put s.fate o (ended (s.fate o) y s.now (line_number ph ∷ l))) s.place
            (place_after s.now o e s.memory s.place) (s.worker w') L invariant.kept.memory (not_mine w' z)
            (λ q b d. put_other s.fate o _ q d) (λ q b d. place_keeps e D q d) (invariant.workers w'));
      }
  settled (answers y τ j) x mv =
      record {
        moved = λ h p. moved_answers e D y τ j mv (put s.fate o (ended (s.fate o) y s.now (line_number ph ∷ l)))
            (what_same s.fate o y s.now (line_number ph ∷ l)) (put (place_after s.now o e s.memory s.place) o (observes τ j y))
            (λ q τ' j' x' z. put_other _ o _ q (obs_not_none (place_after s.now o e s.memory s.place) (observer_keeps e D z ∙ z)
            (own_keeps e D x.early))) (put_same _ o _ o refl) h p;
        kept = kept_answered R1 o (line_number ph ∷ l) (phase_operation ph) K.operation y τ j (own_keeps e D x.early) x.since x.till
            x.right x.last x.lines;
        workers = λ w'. put_all (λ (w' : ℕ) (y' : Worker). WorkerRight (suc s.now) (memory_after s.now o e s.memory)
            (put s.fate o (ended (s.fate o) y s.now (line_number ph ∷ l)))
            (put (place_after s.now o e s.memory s.place) o (observes τ j y)) w' y') s.worker w idle w'
            (λ z. tt)
            (λ z. worker_keeps o w w' s.fate (put s.fate o (ended (s.fate o) y s.now (line_number ph ∷ l))) s.place
            (put (place_after s.now o e s.memory s.place) o (observes τ j y)) (s.worker w') L invariant.kept.memory (not_mine w' z)
            (λ q b d. put_other s.fate o _ q d) (λ q b d p. put_other _ o _ q d ∙ place_keeps e D q d p) (invariant.workers w'));
      }

-- a call that changes nothing
pub unchanged : (s : Catalogue) → Invariant s → Invariant (tick s)
unfolding tick memory_after place_after
unchanged s invariant =
    record {
      kept = kept_by_effect invariant.kept s.now (s.fate s.now).operation true refl (λ l. absurd (true≢false l)) nothing tt;
      workers = λ w. stays w (s.worker w) (invariant.workers w);
      moved = λ h p. moved_later (effect_later invariant.kept.memory 0 take_snapshot false nothing tt) h p refl refl (invariant.moved h p);
    }
  where
    stays : (w : ℕ) (x : Worker) → WorkerRight s.now s.memory s.fate s.place w x → WorkerRight (suc s.now) s.memory s.fate
        s.place w x
    stays w idle k = tt
    stays w (busy o l ph) k = record {
      begun = omega (arith, k.begun);
      worker = k.worker;
      operation = k.operation;
      unset = k.unset;
      unpub = k.unpub;
      facts = phase_later o (effect_later invariant.kept.memory o take_snapshot false nothing tt) k.begun invariant.kept.memory l ph
          k.facts;
    }

pub step_keeps : (s : Catalogue) (w : ℕ) (x : Worker) → Invariant s → WorkerRight s.now s.memory s.fate s.place w x →
    Invariant (tick (stepped s w x).leaves)
unfolding stepped
step_keeps s w idle invariant k = unchanged s invariant
step_keeps s w (busy o l ph) invariant k = settled s invariant w o l ph k (line s.now s.memory ph).does x.does
    (line s.now s.memory ph).comes x.comes x.moves
  where
    x : LineRight s.now o l s.memory ph (line s.now s.memory ph)
    x = every_line s.now o l s.memory invariant.kept.memory k.begun ph k.facts

-- a worker is abandoned: it is idle, and its node goes back; the table stays
pub left_off_keeps : (s : Catalogue) → Invariant s → (w o : ℕ) (ph : Phase) → Invariant (tick (left_off s w o ph))
unfolding tick left_off
left_off_keeps s invariant w o ph = at (held_node ph)
  where
    at : (g : Found) → Invariant (record { now = suc s.now; memory = memory_after s.now o (give g) s.memory; worker = put s.worker w idle; fate = s.fate; place = s.place })
    at g = record {
      kept = kept g;
      workers = λ w'. put_all (λ (w' : ℕ) (x : Worker). WorkerRight (suc s.now) (memory_after s.now o (give g) s.memory) s.fate s.place w' x) s.worker w idle w'
          (λ e. tt) (λ e. stays w' (s.worker w') (invariant.workers w'));
      moved = λ h p. moved_later (later g) h (counter g p) refl refl (invariant.moved h (counter g p));
    }
      where
        later : (g : Found) → Later s.now s.memory (memory_after s.now o (give g) s.memory)
        later no_node = effect_later invariant.kept.memory o take_snapshot false nothing tt
        later (node y) = effect_later invariant.kept.memory o take_snapshot false (gives_back y) tt

        kept : (g : Found) → Kept (suc s.now) (memory_after s.now o (give g) s.memory) s.fate s.place
        kept no_node = unfold place_after in
            (kept_by_effect invariant.kept o (s.fate o).operation true refl (λ l. absurd (true≢false l)) nothing tt)
        kept (node y) = unfold place_after in
            (kept_by_effect invariant.kept o (s.fate o).operation true refl (λ l. absurd (true≢false l)) (gives_back y) tt)

        counter : (g : Found) {h : ℕ} → h < (memory_after s.now o (give g) s.memory).camera.counter → h < s.memory.camera.counter
        counter no_node p = unfold memory_after in p
        counter (node y) p = unfold memory_after in p

        stays : (w' : ℕ) (x : Worker) → WorkerRight s.now s.memory s.fate s.place w' x →
            WorkerRight (suc s.now) (memory_after s.now o (give g) s.memory) s.fate s.place w' x
        stays w' idle k = tt
        stays w' (busy q l ph') k = record {
          begun = omega (arith, k.begun);
          worker = k.worker;
          operation = k.operation;
          unset = k.unset;
          unpub = k.unpub;
          facts = phase_later q (later g) k.begun invariant.kept.memory l ph' k.facts;
        }

-- of the memory an abandoned worker changes the pool alone
pub record PoolAlone (m m' : Memory) : Type 0 where
  pub items : m'.items ≡ m.items
  pub item : (i : ℕ) → m'.item i ≡ m.item i
  pub camera : m'.camera ≡ m.camera
  pub limits : m'.limits ≡ m.limits

pub left_alone : (s : Catalogue) (w o : ℕ) (ph : Phase) → PoolAlone s.memory (left_off s w o ph).memory
unfolding left_off
left_alone s w o ph = at (held_node ph)
  where
    at : (g : Found) → PoolAlone s.memory (memory_after s.now o (give g) s.memory)
    at no_node = unfold memory_after in (record { items = refl; item = λ i. refl; camera = refl; limits = refl })
    at (node y) = unfold memory_after in (record { items = refl; item = λ i. refl; camera = refl; limits = refl })

pub left_later : (s : Catalogue) → Invariant s → (w o : ℕ) (ph : Phase) → Later s.now s.memory (left_off s w o ph).memory
unfolding left_off
left_later s invariant w o ph = at (held_node ph)
  where
    at : (g : Found) → Later s.now s.memory (memory_after s.now o (give g) s.memory)
    at no_node = effect_later invariant.kept.memory o take_snapshot false nothing tt
    at (node y) = effect_later invariant.kept.memory o take_snapshot false (gives_back y) tt
