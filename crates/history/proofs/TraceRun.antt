-- After every run, the times that the machine keeps are those of its notes.
use Rattle.std.specs.Prelude.{◌≡◌, ◌≢◌, ◌⊎◌, not, List, [], ◌∷◌, eqb, length}
use Rattle.std.proofs.Math.Path.{refl, ap, subst}
use Rattle.std.proofs.Common.{sym, ◌∙◌, inl, inr, arith}
use Rattle.std.proofs.Math.Bool.{true, false, true≢false}
use Prim.Native.Nat.{ℕ, suc, ◌≤◌, ◌<◌}
use Rattle.history.specs.Tools.{put, put_all, put_same, put_other, by_eq}
use Rattle.history.specs.Notes.{Deed, Note, ledger}
use Rattle.history.specs.Notes as Notes
use Rattle.history.specs.Statements.{Executed}
use Rattle.history.specs.Machine.{
  Camera,
  left_off,
  holds_node,
  Entry,
  ended,
  turned_away,
  Item,
  Memory,
  Limits,
  found,
  node_to_take,
  Operation,
  register,
  v_read,
  v_cas,
  take_snapshot,
  read_snapshot,
  total,
  Phase,
  total_at,
  line_number,
  Effect,
  nothing,
  counts,
  publishes,
  stamps,
  takes_node,
  gives_back,
  Comes,
  goes_on,
  ends_with,
  answers_change,
  answers,
  line,
  memory_after,
  place_after,
  Place,
  unplaced,
  awaits,
  changes,
  observes,
  Worker,
  idle,
  busy,
  Catalogue,
  settle,
  affect,
  tick,
  first_phase,
  begun,
  registered,
  fresh,
  Event,
  happens,
  after_events,
}
use Rattle.history.specs.Facts.{Later}
use Rattle.history.proofs.Changes.{Allowed, effect_later}
use Rattle.history.proofs.RightAnswers.{phase_operation, has_published, LineRight}
use Rattle.history.proofs.EachLine.{every_line}
use Rattle.history.proofs.Places.{ChangeRight, ObserverRight, PlaceRight, InOperation, WorkerRight, Invariant}
use Rattle.history.proofs.Run.{run_right, registered_later}
use Rattle.history.proofs.Step.{left_alone, left_later}
use Rattle.history.proofs.MachineNotes.{event_note, machine_notes, phase_deed, ending, after_step, event_cases}
use Rattle.history.proofs.LedgerRight.{InLedger, Agrees, agrees}
use Rattle.history.proofs.Trace.{
  PhaseTraced,
  EndTraced,
  Stamping,
  MemoryTraced,
  WorkerTraced,
  Traced,
  Foreign,
  executed_past,
  latest_more,
  phase_traced_later,
  end_later,
}
use Rattle.history.proofs.TraceStep.{ComesTraced, next_number, line_20_found, here, line_traced}
use Rattle.history.proofs.TraceMemory.{executed_inv, traced_more, matches, effect_traced}
use Rattle.history.proofs.LastSteps.{named_past}

-- ---- operations that answered

module _ (s : Catalogue) (invariant : Invariant s) where
  done_place : (q : ℕ) → (s.fate q).done ≡ true → (P : Place → Type 0) →
      ((i j : ℕ) → ChangeRight s.now q i j s.memory (s.fate q) → P (changes i j)) →
      ((τ j x : ℕ) → ObserverRight s.now q τ j x s.memory (s.fate q) → P (observes τ j x)) → P (s.place q)
  done_place q d P f g = at (s.place q) refl
    where
      right : (p : Place) → s.place q ≡ p → PlaceRight s.now q s.memory (s.fate q) p
      right p e = subst (λ (p : Place). PlaceRight s.now q s.memory (s.fate q) p) e (invariant.kept.places q)

      at : (p : Place) → s.place q ≡ p → P p
      at unplaced e = absurd (true≢false (sym d ∙ right unplaced e))
      at (awaits i j) e = absurd (true≢false (sym d ∙ right (awaits i j) e))
      at (changes i j) e = f i j (right (changes i j) e)
      at (observes τ j x) e = g τ j x (right (observes τ j x) e)

  -- it began before now, and it is placed before now
  pub done_past : (q : ℕ) → (s.fate q).done ≡ true → q < s.now
  done_past q d =
      done_place q d (λ p. q < s.now)
      (λ i j c. omega (
        arith,
        c.mine,
        (invariant.kept.memory.item i).author_first j (omega (arith, c.good, (invariant.kept.memory.item i).valid_published)),
        (invariant.kept.memory.item i).published_past j (omega (arith, c.good, (invariant.kept.memory.item i).valid_published)),
      ))
      (λ τ j x c. omega (arith, c.since, c.till, c.past))

  pub ended_past : (q : ℕ) → (s.fate q).done ≡ true → (s.fate q).ended_at < s.now
  ended_past q d = done_place q d (λ p. (s.fate q).ended_at < s.now) (λ i j c. c.past d) (λ τ j x c. c.past)

  abbrev placed_at : Place → ℕ
  placed_at unplaced = 0
  placed_at (awaits i j) = 0
  placed_at (changes i j) = 0
  placed_at (observes τ j x) = τ

  seen_past : (q : ℕ) → (s.fate q).done ≡ true → (τ j x : ℕ) → s.place q ≡ observes τ j x → τ < s.now
  seen_past q d τ j x e = subst (λ (u : ℕ). u < s.now) (ap placed_at e)
      (done_place q d (λ p. placed_at p < s.now) (λ i j c. omega (arith, done_past q d)) (λ τ j x c. omega (arith, c.till, c.past)))

module _ (s : Catalogue) (invariant : Invariant s) (run : List Note) (A : Agrees s run) (T : Traced s run) where
  now : length run ≡ s.now
  now = sym A.now

  stay : Later s.now s.memory s.memory
  unfolding memory_after
  stay = effect_later invariant.kept.memory 0 take_snapshot false nothing tt

  -- a note that is no step
  module _ (x : Note) (no_step : (o line : ℕ) (d : Deed) (t : ℕ) → Executed (x ∷ run) o line d t → Executed run o line d t) where
    others : (m' : Memory) → Later s.now s.memory m' → (w : ℕ) → WorkerTraced m' (x ∷ run) (s.worker w)
    others m' L w = keep (s.worker w) (T.workers w)
      where
        keep : (y : Worker) → WorkerTraced s.memory run y → WorkerTraced m' (x ∷ run) y
        keep idle k = tt
        keep (busy o l ph) k = (
          phase_traced_later L invariant.kept.memory run x now o ph (no_step o) k.0,
          latest_more run x o (line_number ph) l (no_step o) k.1,
        )

  old_end : (x : Note) (m' : Memory) → Later s.now s.memory m' → (q : ℕ) → (s.fate q).done ≡ true →
      EndTraced m' (x ∷ run) q (s.fate q).operation (s.fate q).lines (s.place q)
  old_end x m' L q d = end_later L invariant.kept.memory run x now q (s.fate q).operation (s.fate q).lines (s.place q)
      (done_past s invariant q d) (seen_past s invariant q d) (T.ends q d)

  -- ---- refused, registered, started

  after_abandon : (w o : ℕ) (ph : Phase) → Traced (tick (left_off s w o ph)) (Notes.abandoned w (holds_node ph) ∷ run)
  unfolding tick
  after_abandon w o ph =
      record {
        memory = traced_more L invariant.kept.memory run now T.memory (Notes.abandoned w (holds_node ph))
            (λ i j a b. absurd (omega (arith, ap (λ (it : Item). it.versions) ((left_alone s w o ph).item i))))
            (λ i v a b. absurd (omega arith)) (λ i j a b. absurd (omega (arith, ap (λ (it : Item). it.valid) ((left_alone s w o ph).item i)))) (λ i a b. absurd (omega arith))
            (λ h a b. absurd (omega (arith, ap (λ (k : Camera). k.counter) (left_alone s w o ph).camera)));
        workers = workers;
        ends = unfold left_off in ends;
      }
    where
      L : Later s.now s.memory (left_off s w o ph).memory
      L = left_later s invariant w o ph

      at : (q line : ℕ) (d : Deed) (t : ℕ) → Executed (Notes.abandoned w (holds_node ph) ∷ run) q line d t → Executed run q line d t
      at q line d t e = pick (executed_inv run (Notes.abandoned w (holds_node ph)) e)
        where
          pick : Executed run q line d t ⊎ ((◌≡◌ {A = ℕ} 4 3) × (◌≡◌ {A = ℕ} 0 line) × (Notes.nothing ≡ d) × ((ledger run).current w ≡ q)
              × (length run ≡ t)) → Executed run q line d t
          pick (inl z) = z
          pick (inr z) = absurd (omega (arith, z.0))

      workers : (w' : ℕ) → WorkerTraced (left_off s w o ph).memory (Notes.abandoned w (holds_node ph) ∷ run) ((left_off s w o ph).worker w')
      workers w' = subst (λ (y : Worker). WorkerTraced (left_off s w o ph).memory (Notes.abandoned w (holds_node ph) ∷ run) y) is
          (put_all (λ (w' : ℕ) (y : Worker). WorkerTraced (left_off s w o ph).memory (Notes.abandoned w (holds_node ph) ∷ run) y) s.worker w idle w' (λ e. tt)
          (λ e. others (Notes.abandoned w (holds_node ph)) at (left_off s w o ph).memory L w'))
        where
          is : put s.worker w idle w' ≡ (left_off s w o ph).worker w'
          is = unfold left_off in refl

      ends : (q : ℕ) → (s.fate q).done ≡ true → EndTraced (left_off s w o ph).memory (Notes.abandoned w (holds_node ph) ∷ run) q (s.fate q).operation (s.fate q).lines (s.place q)
      ends = old_end (Notes.abandoned w (holds_node ph)) (left_off s w o ph).memory L

  after_quiet : (x : Notes.Look) → Traced (tick s) (Notes.quiet x ∷ run)
  unfolding tick
  after_quiet x =
      record {
        memory = traced_more stay invariant.kept.memory run now T.memory (Notes.quiet x) (λ i j a b. absurd (omega arith))
            (λ i v a b. absurd (omega arith)) (λ i j a b. absurd (omega arith)) (λ i a b. absurd (omega arith)) (λ h a b. absurd (omega arith));
        workers = others (Notes.quiet x) (λ o line d t e. at o line d t e) s.memory stay;
        ends = λ q d. old_end (Notes.quiet x) s.memory stay q d;
      }
    where
      at : (o line : ℕ) (d : Deed) (t : ℕ) → Executed ((Notes.quiet x) ∷ run) o line d t → Executed run o line d t
      at o line d t e = pick (executed_inv run (Notes.quiet x) e)
        where
          pick : Executed run o line d t ⊎ ((◌≡◌ {A = ℕ} 0 3) × (◌≡◌ {A = ℕ} 0 line) × (Notes.nothing ≡ d) × ((ledger run).current 0 ≡ o)
              × (length run ≡ t)) → Executed run o line d t
          pick (inl z) = z
          pick (inr z) = absurd (omega (arith, z.0))

  after_register : (v z y : ℕ) → Traced (tick (registered s v z y)) (Notes.registered s.memory.items v z ∷ run)
  unfolding tick registered
  after_register v z y =
      record {
        memory = traced_more L invariant.kept.memory run now T.memory x
            (λ i j. put_all (λ (i : ℕ) (it : Item). (s.memory.item i).versions ≤ suc j → suc j < it.versions →
            Executed (x ∷ run) (it.author (suc j)) 46 (Notes.publishes i (it.value (suc j))) (it.published_at (suc j))) s.memory.item
            s.memory.items _ i (λ e a b. absurd (omega arith)) (λ e a b. absurd (omega arith)))
            (λ i v a b. absurd (omega arith))
            (λ i j. put_all (λ (i : ℕ) (it : Item). (s.memory.item i).valid ≤ suc j → suc j < it.valid → Stamping it (x ∷ run) i (suc j))
            s.memory.item s.memory.items _ i (λ e a b. absurd (omega arith)) (λ e a b. absurd (omega arith)))
            (λ i a b. absurd (omega arith))
            (λ h a b. absurd (omega arith));
        workers = others x at m' L;
        ends = λ q. put_all (λ (q : ℕ) (f : Entry). f.done ≡ true → EndTraced m' (x ∷ run) q f.operation f.lines
            (put s.place s.now (changes s.memory.items 0) q)) s.fate s.now _ q
            (λ e d. tt)
            (λ e d. subst (λ (p : Place). EndTraced m' (x ∷ run) q (s.fate q).operation (s.fate q).lines p) (sym (put_other s.place s.now _ q e))
            (old_end x m' L q d));
      }
    where
      x : Note
      x = Notes.registered s.memory.items v z

      m' : Memory
      m' = (registered s v z y).memory

      L : Later s.now s.memory m'
      L = registered_later s invariant v z y

      at : (o line : ℕ) (d : Deed) (t : ℕ) → Executed (x ∷ run) o line d t → Executed run o line d t
      at o line d t e = pick (executed_inv run x e)
        where
          pick : Executed run o line d t ⊎ ((◌≡◌ {A = ℕ} 1 3) × (◌≡◌ {A = ℕ} 0 line) × (Notes.nothing ≡ d) × ((ledger run).current 0 ≡ o)
              × (length run ≡ t)) → Executed run o line d t
          pick (inl z) = z
          pick (inr z) = absurd (omega (arith, z.0))

  first_traced : (x : Note) (o : ℕ) (op : Operation) → PhaseTraced s.memory (x ∷ run) o (first_phase s.memory op)
  unfolding first_phase total_at
  first_traced x o (register i v z) = tt
  first_traced x o (v_read i) = tt
  first_traced x o (v_cas i a b) = tt
  first_traced x o take_snapshot = tt
  first_traced x o (read_snapshot i h) = tt
  first_traced x o (total q h) = by_eq (λ (ph : Phase). PhaseTraced s.memory (x ∷ run) o ph) 0 s.memory.items (λ e. tt) (λ e. tt)

  after_start : (w : ℕ) (op : Operation) → Traced (tick (begun s w op)) (Notes.started w op ∷ run)
  unfolding tick begun
  after_start w op =
      record {
        memory = traced_more stay invariant.kept.memory run now T.memory (Notes.started w op) (λ i j a b. absurd (omega arith))
            (λ i v a b. absurd (omega arith)) (λ i j a b. absurd (omega arith)) (λ i a b. absurd (omega arith)) (λ h a b. absurd (omega arith));
        workers = λ w'. put_all (λ (w' : ℕ) (y : Worker). WorkerTraced s.memory (Notes.started w op ∷ run) y) s.worker w _ w'
            (λ e. (first_traced (Notes.started w op) s.now op, λ line d t z. omega (arith, named_past run s.now (at s.now line d t z), now)))
            (λ e. others (Notes.started w op) at s.memory stay w');
        ends = λ q. put_all (λ (q : ℕ) (f : Entry). f.done ≡ true → EndTraced s.memory (Notes.started w op ∷ run) q f.operation f.lines
            (put s.place s.now unplaced q)) s.fate s.now _ q
            (λ e d. absurd (true≢false (sym d)))
            (λ e d. subst (λ (p : Place). EndTraced s.memory (Notes.started w op ∷ run) q (s.fate q).operation (s.fate q).lines p)
            (sym (put_other s.place s.now unplaced q e)) (old_end (Notes.started w op) s.memory stay q d));
      }
    where
      at : (o line : ℕ) (d : Deed) (t : ℕ) → Executed (Notes.started w op ∷ run) o line d t → Executed run o line d t
      at o line d t e = pick (executed_inv run (Notes.started w op) e)
        where
          pick : Executed run o line d t ⊎ ((◌≡◌ {A = ℕ} 2 3) × (◌≡◌ {A = ℕ} 0 line) × (Notes.nothing ≡ d) × ((ledger run).current 0 ≡ o)
              × (length run ≡ t)) → Executed run o line d t
          pick (inl z) = z
          pick (inr z) = absurd (omega (arith, z.0))

  -- ---- a step

  module _ (w o : ℕ) (l : List ℕ) (ph : Phase) (is : s.worker w ≡ busy o l ph) where
    K : InOperation s.now s.memory (s.fate o) (s.place o) w o l ph
    K = subst (λ (y : Worker). WorkerRight s.now s.memory s.fate s.place w y) is (invariant.workers w)

    cur : (ledger run).current w ≡ o
    cur = let k : InLedger (ledger run) w (busy o l ph) = subst (λ (y : Worker). InLedger (ledger run) w y) is (A.worker w) in k.0

    abbrev does : Effect
    does = (line s.now s.memory ph).does

    abbrev after : Memory
    after = memory_after s.now o (line s.now s.memory ph).does s.memory

    abbrev places : ℕ → Place
    places = place_after s.now o (line s.now s.memory ph).does s.memory s.place

    abbrev this : Notes.Ending → Note
    this e = Notes.stepped w (line_number ph) (phase_deed s.memory ph) e

    right : LineRight s.now o l s.memory ph (line s.now s.memory ph)
    right = every_line s.now o l s.memory invariant.kept.memory K.begun ph K.facts

    L : Later s.now s.memory after
    L = effect_later invariant.kept.memory o (phase_operation ph) (has_published ph) does right.does

    mine : PhaseTraced s.memory run o ph
    mine = let k : WorkerTraced s.memory run (busy o l ph) = subst (λ (y : Worker). WorkerTraced s.memory run y) is (T.workers w) in k.0

    -- another worker is in another operation
    foreign : (d : Deed) (e : Notes.Ending) (w' o' : ℕ) (l' : List ℕ) (ph' : Phase) → w' ≢ w → s.worker w' ≡ busy o' l' ph' →
        Foreign run (Notes.stepped w (line_number ph) d e) o'
    foreign d e w' o' l' ph' differ at' line d' t x = pick (executed_inv run (Notes.stepped w (line_number ph) d e) x)
      where
        its : InOperation s.now s.memory (s.fate o') (s.place o') w' o' l' ph'
        its = subst (λ (y : Worker). WorkerRight s.now s.memory s.fate s.place w' y) at' (invariant.workers w')

        pick : Executed run o' line d' t ⊎ ((◌≡◌ {A = ℕ} 3 3) × (line_number ph ≡ line) × (d ≡ d') × ((ledger run).current w ≡ o') × (length run ≡ t)) →
            Executed run o' line d' t
        pick (inl z) = z
        pick (inr z) = absurd (differ (sym its.worker ∙ ap (λ (q : ℕ). (s.fate q).worker) (sym z.3 ∙ cur) ∙ K.worker))

    others_step : (e : Notes.Ending) (w' : ℕ) → w' ≢ w → WorkerTraced after (this e ∷ run) (s.worker w')
    others_step e w' d = keep (s.worker w') refl (T.workers w')
      where
        keep : (y : Worker) → s.worker w' ≡ y → WorkerTraced s.memory run y → WorkerTraced after (this e ∷ run) y
        keep idle q k = tt
        keep (busy o' l' ph') q k = (
          phase_traced_later L invariant.kept.memory run _ now o' ph' (foreign (phase_deed s.memory ph) e w' o' l' ph' d q) k.0,
          latest_more run _ o' (line_number ph') l' (foreign (phase_deed s.memory ph) e w' o' l' ph' d q) k.1,
        )

    -- the place of an operation that answered stays
    place_stays : (e : Effect) → Allowed s.now o (phase_operation ph) (has_published ph) s.memory e → (q : ℕ) → (s.fate q).done ≡ true → q ≢ o →
        place_after s.now o e s.memory s.place q ≡ s.place q
    unfolding place_after
    place_stays nothing a q d z = refl
    place_stays counts a q d z = refl
    place_stays (publishes i v y) a q d z = put_other s.place o _ q z
    place_stays (stamps i j c r) a q d z = put_other s.place ((s.memory.item i).author j) (changes i j) q
        (λ e. true≢false (sym d ∙ ap (λ (q : ℕ). (s.fate q).done) e ∙ waiting))
      where
        waiting : (s.fate ((s.memory.item i).author j)).done ≡ false
        waiting = subst (λ (p : Place). PlaceRight s.now ((s.memory.item i).author j) s.memory (s.fate ((s.memory.item i).author j)) p)
            ((invariant.kept.versions_right i j (omega (arith, a.head))).unset (omega (arith, a.undecided)))
            (invariant.kept.places ((s.memory.item i).author j))
    place_stays (takes_node i b j y) a q d z = refl
    place_stays (gives_back y) a q d z = refl

    old_ends : (e : Notes.Ending) (q : ℕ) → (s.fate q).done ≡ true → q ≢ o →
        EndTraced after (this e ∷ run) q (s.fate q).operation (s.fate q).lines (places q)
    old_ends e q d z = subst (λ (p : Place). EndTraced after (this e ∷ run) q (s.fate q).operation (s.fate q).lines p)
        (sym (place_stays does right.does q d z)) (old_end (this e) after L q d)

    memory_traced : (e : Notes.Ending) → MemoryTraced after (this e ∷ run)
    memory_traced e =
        effect_traced s.now o w s.memory invariant.kept.memory run now cur T.memory (phase_operation ph) (has_published ph) (line_number ph)
        (phase_deed s.memory ph) e does right.does
        (matches s.now o s.memory run ph mine)

    after_step_traced : (u : Comes) → ComesTraced after (this (ending u) ∷ run) o (phase_operation ph) (line_number ph ∷ l) u →
        (line_number ph ≡ 20 → phase_deed s.memory ph ≡ Notes.finds (not (eqb (next_number u) 21))) →
        Traced (tick (settle w o (line_number ph ∷ l) (affect o s does) u)) (this (ending u) ∷ run)
    unfolding tick settle affect ended turned_away
    after_step_traced (goes_on ph') c found =
        record {
          memory = memory_traced Notes.goes_on;
          workers = λ w'. put_all (λ (w' : ℕ) (y : Worker). WorkerTraced after (this Notes.goes_on ∷ run) y) s.worker w
              (busy o (line_number ph ∷ l) ph') w'
              (λ e. (
                c,
                record {
                  d = phase_deed s.memory ph;
                  t = s.now;
                  found = found;
                  since = λ line d t z. omega (arith, executed_past z, now);
                  executed = here s.now o w l s.memory invariant.kept.memory K.begun run now cur (line_number ph) (phase_deed s.memory ph)
                      Notes.goes_on;
                },
              ))
              (λ e. others_step Notes.goes_on w' e);
          ends = λ q d. old_ends Notes.goes_on q d (λ e. true≢false (sym d ∙ ap (λ (q : ℕ). (s.fate q).done) e ∙ K.unset));
        }
    after_step_traced (ends_with k) c found =
        record {
          memory = memory_traced (Notes.ends_with k);
          workers = λ w'. put_all (λ (w' : ℕ) (y : Worker). WorkerTraced after (this (Notes.ends_with k) ∷ run) y) s.worker w idle w' (λ e. tt)
              (λ e. others_step (Notes.ends_with k) w' e);
          ends = λ q. put_all (λ (q : ℕ) (f : Entry). f.done ≡ true → EndTraced after (this (Notes.ends_with k) ∷ run) q f.operation f.lines
              (places q)) s.fate o _ q
              (λ e d. absurd (true≢false (sym d))) (λ e d. old_ends (Notes.ends_with k) q d e);
        }
    after_step_traced (answers_change x) c found =
        record {
          memory = memory_traced (Notes.answers x);
          workers = λ w'. put_all (λ (w' : ℕ) (y : Worker). WorkerTraced after (this (Notes.answers x) ∷ run) y) s.worker w idle w' (λ e. tt)
              (λ e. others_step (Notes.answers x) w' e);
          ends = λ q. put_all (λ (q : ℕ) (f : Entry). f.done ≡ true → EndTraced after (this (Notes.answers x) ∷ run) q f.operation f.lines
              (places q)) s.fate o _ q
              (λ e d. subst (λ (op : Operation). EndTraced after (this (Notes.answers x) ∷ run) q op (line_number ph ∷ l) (places q)) (sym K.operation)
              (subst (λ (q : ℕ). EndTraced after (this (Notes.answers x) ∷ run) q (phase_operation ph) (line_number ph ∷ l) (places q)) (sym e) (c _)))
              (λ e d. old_ends (Notes.answers x) q d e);
        }
    after_step_traced (answers x τ j) c found =
        record {
          memory = memory_traced (Notes.answers x);
          workers = λ w'. put_all (λ (w' : ℕ) (y : Worker). WorkerTraced after (this (Notes.answers x) ∷ run) y) s.worker w idle w' (λ e. tt)
              (λ e. others_step (Notes.answers x) w' e);
          ends = λ q. put_all (λ (q : ℕ) (f : Entry). f.done ≡ true → EndTraced after (this (Notes.answers x) ∷ run) q f.operation f.lines
              (put places o (observes τ j x) q)) s.fate o _ q
              (λ e d. subst (λ (op : Operation). EndTraced after (this (Notes.answers x) ∷ run) q op (line_number ph ∷ l) (put places o (observes τ j x) q))
              (sym K.operation)
              (subst (λ (p : Place). EndTraced after (this (Notes.answers x) ∷ run) q (phase_operation ph) (line_number ph ∷ l) p)
              (sym (put_same places o (observes τ j x) q e))
              (subst (λ (q : ℕ). EndTraced after (this (Notes.answers x) ∷ run) q (phase_operation ph) (line_number ph ∷ l) (observes τ j x))
              (sym e) c)))
              (λ e d. subst (λ (p : Place). EndTraced after (this (Notes.answers x) ∷ run) q (s.fate q).operation (s.fate q).lines p)
              (sym (put_other places o (observes τ j x) q e)) (old_ends (Notes.answers x) q d e));
        }

    step_traced : Traced (tick (after_step s w o l ph)) (this (ending (line s.now s.memory ph).comes) ∷ run)
    step_traced = after_step_traced (line s.now s.memory ph).comes
        (line_traced s.now o w l s.memory invariant.kept.memory K.begun run now cur ph K.facts mine)
        (line_20_found s.now s.memory ph)

event_traced : (s : Catalogue) (run : List Note) → Invariant s → Agrees s run → Traced s run → (e : Event) → Traced (happens s e) (event_note s e ∷ run)
unfolding happens
event_traced s run invariant A tr =
    event_cases s invariant (suc s.memory.limits.workers) (omega arith) (λ (x : Note) (s' : Catalogue). Traced (tick s') (x ∷ run))
    (λ x q. after_quiet s invariant run A tr x)
    (λ v z p. after_register s invariant run A tr v z (found (node_to_take s.memory)))
    (λ w op b f p. after_start s invariant run A tr w op)
    (λ w o l ph b e. step_traced s invariant run A tr w o l ph e)
    (λ w o l ph b e. after_abandon s invariant run A tr w o ph) (omega arith)

pub traced : (limits : Limits) (es : List Event) → Traced (after_events limits es) (machine_notes limits es)
unfolding after_events machine_notes fresh
traced limits [] =
    record {
      memory = record {
        published = λ i j p. absurd (omega arith);
        publishes_only = λ o i v p e. absurd e.noted;
        stamped = λ i j p. absurd (omega arith);
        stamps_only = λ o i s e. absurd e.noted;
        left = λ h p. absurd (omega arith);
      };
      workers = λ w. tt;
      ends = λ o d. absurd (true≢false (sym d));
    }
traced limits (e ∷ es) = event_traced (after_events limits es) (machine_notes limits es) (run_right limits es) (agrees limits es) (traced limits es) e
