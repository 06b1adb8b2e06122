-- After every run, the list of effects of its notes is that of the machine.
use Rattle.std.proofs.Math.Path.{◌≡◌, refl, ap, ap₂, sym, subst}
use Rattle.std.proofs.Common.{◌∙◌}
use Rattle.std.specs.Prelude.{Bool, List, [], ◌∷◌, length}
use Rattle.std.proofs.Math.Bool.{false}
use Prim.Native.Nat.{ℕ, zero, suc, pred, ◌≤◌, ◌<◌}
use native.Mathlib.Omega.{arith}
use Rattle.history.specs.Tools.{put, put_all, put_same, put_other, by_eq, Split, split, Same, eq, ne, same?}
use Rattle.history.specs.Notes.{Deed, Note, ledger, Effect, birth, change, snapshot, object_at, changes_between}
use Rattle.history.specs.Effects.{insert, last_published, effects}
use Rattle.history.specs.Notes as Notes
use Rattle.history.specs.Machine.{
  Camera,
  left_off,
  holds_node,
  Item,
  Memory,
  Limits,
  found,
  node_to_take,
  Operation,
  take_snapshot,
  Phase,
  line_number,
  nothing,
  counts,
  publishes,
  stamps,
  takes_node,
  gives_back,
  Comes,
  line,
  memory_after,
  published,
  stamped,
  newborn,
  Worker,
  busy,
  Catalogue,
  affect,
  tick,
  begun,
  registered,
  fresh,
  Event,
  happens,
  after_events,
}
use Rattle.history.specs.Machine as Machine
use Rattle.history.specs.Facts.{Later}
use Rattle.history.proofs.Changes.{Allowed, effect_later}
use Rattle.history.proofs.RightAnswers.{phase_operation, has_published, LineRight}
use Rattle.history.proofs.EachLine.{every_line}
use Rattle.history.proofs.Places.{InOperation, WorkerRight, Invariant}
use Rattle.history.proofs.Run.{run_right, registered_later}
use Rattle.history.proofs.NodeCount.{settle_memory, sum_to}
use Rattle.history.proofs.Step.{left_alone, left_later}
use Rattle.history.proofs.MachineNotes.{event_note, machine_notes, phase_deed, ending, after_step, event_cases}
use Rattle.history.proofs.LedgerRight.{InLedger, Agrees, agrees}
use Rattle.history.proofs.Trace.{PhaseTraced, WorkerTraced, Traced}
use Rattle.history.proofs.TraceMemory.{Matches, matches}
use Rattle.history.specs.NoteParts.{deed_tag}
use Rattle.history.proofs.TraceRun.{traced}
use Rattle.history.proofs.LastSteps.{last_is}
use Rattle.history.proofs.EffectsRight.{
  effect_tag,
  effect_item,
  effect_published,
  version_effect,
  IsEffect,
  of_version,
  of_counter,
  MemoryEffects,
  more_items,
  same_effects,
  one_version,
  one_snapshot,
}
use Rattle.history.proofs.Instants.{published_rises}

-- the value of the head of an item, and when it was published
abbrev pub head_of : Item → ℕ × ℕ
head_of it = (it.value (pred it.versions), it.published_at (pred it.versions))

pub record Effected (s : Catalogue) (run : List Note) : Type 0 where
  pub memory : MemoryEffects s.memory (effects run)
  pub newest : (i : ℕ) → i < s.memory.items → last_published i run ≡ head_of (s.memory.item i)

-- ---- deeds

-- a deed that others don't see has no effect
silent_effect : (run : List Note) (w k : ℕ) (d : Deed) (e : Notes.Ending) → deed_tag d ≤ 1 → effects (Notes.stepped w k d e ∷ run) ≡ effects run
unfolding effects
silent_effect run w k (Notes.fetches i b) e p = refl
silent_effect run w k (Notes.finds b) e p = refl
silent_effect run w k (Notes.publishes i v) e p = absurd (omega arith)
silent_effect run w k (Notes.stamps i) e p = absurd (omega arith)
silent_effect run w k (Notes.moves h) e p = absurd (omega arith)
silent_effect run w k Notes.nothing e p = refl

-- only a publication is one
not_two : (run : List Note) (w k : ℕ) (d : Deed) (e : Notes.Ending) (i : ℕ) → (deed_tag d ≡ 2 → ⊥) →
    last_published i (Notes.stepped w k d e ∷ run) ≡ last_published i run
unfolding last_published
not_two run w k (Notes.fetches n b) e i p = refl
not_two run w k (Notes.finds b) e i p = refl
not_two run w k (Notes.publishes n v) e i p = absurd (p refl)
not_two run w k (Notes.stamps n) e i p = refl
not_two run w k (Notes.moves h) e i p = refl
not_two run w k Notes.nothing e i p = refl

module _ (s : Catalogue) (invariant : Invariant s) (run : List Note) (A : Agrees s run) (T : Traced s run) (E : Effected s run) where
  now : length run ≡ s.now
  now = sym A.now

  stay : Later s.now s.memory s.memory
  unfolding memory_after
  stay = effect_later invariant.kept.memory 0 take_snapshot false nothing tt

  after_quiet : (x : Notes.Look) → Effected (tick s) (Notes.quiet x ∷ run)
  unfolding tick effects last_published
  after_quiet x = record { memory = E.memory; newest = E.newest }

  after_abandon : (w o : ℕ) (ph : Phase) → Effected (tick (left_off s w o ph)) (Notes.abandoned w (holds_node ph) ∷ run)
  unfolding tick effects last_published
  after_abandon w o ph = record {
    memory = same_effects (left_later s invariant w o ph) invariant.kept.memory (effects run) E.memory
        (λ i. ap (λ (it : Item). it.valid) ((left_alone s w o ph).item i)) (ap (λ (k : Camera). k.counter) (left_alone s w o ph).camera) (left_alone s w o ph).items;
    newest = λ i p. E.newest i (omega (arith, (left_alone s w o ph).items)) ∙ ap head_of (sym ((left_alone s w o ph).item i));
  }

  after_start : (w : ℕ) (op : Operation) → Effected (tick (begun s w op)) (Notes.started w op ∷ run)
  unfolding tick begun effects last_published
  after_start w op = record { memory = E.memory; newest = E.newest }

  after_register : (v z y : ℕ) → Effected (tick (registered s v z y)) (Notes.registered s.memory.items v z ∷ run)
  unfolding tick registered effects
  after_register v z y =
      record {
        memory = one_version (registered_later s invariant v z y) invariant.kept.memory (effects run) E.memory s.memory.items 0 none_yet
            (ap (λ (it : Item). it.valid) new) (λ n d. ap (λ (it : Item). it.valid) (put_other s.memory.item s.memory.items it n d)) refl refl
            (λ e. refl) _
            (ap (λ (t : ℕ). birth t s.memory.items v z) now ∙ ap (λ (it : Item). version_effect it s.memory.items 0)
            (sym new)) (λ a. unborn (E.memory.only _ a));
        newest = λ i p. newest i p (same? i s.memory.items);
      }
    where
      it : Item
      it = newborn s.now s.memory.camera.counter v z y

      new : put s.memory.item s.memory.items it s.memory.items ≡ it
      new = put_same s.memory.item s.memory.items it s.memory.items refl

      none_yet : (s.memory.item s.memory.items).valid ≡ 0
      none_yet = omega (
        arith,
        invariant.kept.memory.unregistered s.memory.items (omega arith),
        (invariant.kept.memory.item
            s.memory.items).valid_published,
      )

      unborn : IsEffect s.memory (birth (length run) s.memory.items v z) → ⊥
      unborn (of_counter h p q) = let z : ◌≡◌ {A = ℕ} 0 2 = ap effect_tag q in omega arith
      unborn (of_version i (suc j) p q) = let z : ◌≡◌ {A = ℕ} 0 1 = ap effect_tag q in omega arith
      unborn (of_version i zero p q) = omega (arith, none_yet, ap (λ (i : ℕ). (s.memory.item i).valid) (ap effect_item q))

      newest : (i : ℕ) → i < suc s.memory.items → Same i s.memory.items → last_published i (Notes.registered s.memory.items v z ∷ run)
          ≡ head_of (put s.memory.item s.memory.items it i)
      newest i p (eq e) = unfold last_published in
          (by_eq (λ (x : ℕ × ℕ). x ≡ head_of (put s.memory.item s.memory.items it i)) i s.memory.items
          (λ q. ap (λ (t : ℕ). (v, t)) now ∙ ap head_of (sym (put_same s.memory.item s.memory.items it i e))) (λ q. absurd (q e)))
      newest i p (ne e) = unfold last_published in
          (by_eq (λ (x : ℕ × ℕ). x ≡ head_of (put s.memory.item s.memory.items it i)) i s.memory.items (λ q. absurd (e q))
          (λ q. E.newest i (omega arith) ∙ ap head_of (sym (put_other s.memory.item s.memory.items it i e))))

  -- ---- a step of worker w

  module _ (w o : ℕ) (op : Operation) (p : Bool) (k : ℕ) (end : Notes.Ending) where
    with_effects : (m' : Memory) (d : Deed) (l : List Effect) → effects (Notes.stepped w k d end ∷ run) ≡ l → MemoryEffects m' l →
        MemoryEffects m' (effects (Notes.stepped w k d end ∷ run))
    with_effects m' d l e x = subst (λ (l : List Effect). MemoryEffects m' l) (sym e) x

    -- the list by the deed that it is
    same_deed : {d d' : Deed} → d ≡ d' → effects (Notes.stepped w k d end ∷ run) ≡ effects (Notes.stepped w k d' end ∷ run)
    same_deed e = ap (λ (d : Deed). effects (Notes.stepped w k d end ∷ run)) e

    step_effects : (e : Machine.Effect) (d : Deed) → Allowed s.now o op p s.memory e → Matches s.memory run o e k d → (ledger run).current w
        ≡ o →
        MemoryEffects (memory_after s.now o e s.memory) (effects (Notes.stepped w k d end ∷ run))
    unfolding memory_after
    step_effects nothing d a q z = with_effects _ d (effects run) (silent_effect run w k d end q)
        (same_effects (effect_later invariant.kept.memory o op p nothing a) invariant.kept.memory (effects run) E.memory (λ i. refl) refl refl)
    step_effects (takes_node i b j y) d a q z = with_effects _ d (effects run) (silent_effect run w k d end q)
        (same_effects (effect_later invariant.kept.memory o op p (takes_node i b j y) a) invariant.kept.memory (effects run) E.memory
        (λ i. refl) refl refl)
    step_effects (gives_back y) d a q z = with_effects _ d (effects run) (silent_effect run w k d end q)
        (same_effects (effect_later invariant.kept.memory o op p (gives_back y) a) invariant.kept.memory (effects run) E.memory
        (λ i. refl) refl refl)
    step_effects counts d a q z =
        with_effects _ d (insert x (effects run)) (same_deed q.1 ∙ moved)
        (one_snapshot (effect_later invariant.kept.memory o op p counts a) invariant.kept.memory (effects run) E.memory
        (λ i. refl) refl refl x
        (ap (λ (t : ℕ). snapshot t s.memory.camera.counter)
        (now ∙ sym (put_same s.memory.camera.left_at s.memory.camera.counter s.now s.memory.camera.counter refl))))
      where
        x : Effect
        x = snapshot (length run) s.memory.camera.counter

        moved : effects (Notes.stepped w k (Notes.moves s.memory.camera.counter) end ∷ run) ≡ insert x (effects run)
        moved = unfold effects in refl
    step_effects (publishes i v y) d a q z =
        with_effects _ d (effects run) (same_deed q.1 ∙ none)
        (same_effects (effect_later invariant.kept.memory o op p (publishes i v y) a) invariant.kept.memory (effects run) E.memory
        (λ n. put_all (λ (n : ℕ) (it : Item). it.valid ≡ (s.memory.item n).valid) s.memory.item i
        (published s.now o v y (s.memory.item i)) n (λ e. ap (λ (n : ℕ). (s.memory.item n).valid) (sym e)) (λ e. refl)) refl refl)
      where
        none : effects (Notes.stepped w k (Notes.publishes i v) end ∷ run) ≡ effects run
        none = unfold effects in refl
    step_effects (stamps i j c r) d a q z =
        with_effects _ d (insert x (effects run)) (same_deed q.1 ∙ stamped_now)
        (one_version (effect_later invariant.kept.memory o op p (stamps i j c r) a) invariant.kept.memory (effects run) E.memory i j
        a.undecided
        (ap (λ (it : Item). it.valid) new) (λ n e. ap (λ (it : Item). it.valid) (put_other s.memory.item i it n e)) refl (items_same j refl)
        (λ e. absurd (positive e)) x (is j refl ∙ ap (λ (it : Item). version_effect it i j) (sym new))
        (λ b. unstamped (E.memory.only x b)))
      where
        it : Item
        it = stamped s.now j c r (s.memory.item i)

        new : put s.memory.item i it i ≡ it
        new = put_same s.memory.item i it i refl

        x : Effect
        x = change r i ((s.memory.item i).value j) ((s.memory.item i).published_at j)

        there : Split i s.memory.items → i < s.memory.items
        there (Split.less b) = b
        there (Split.more b) = absurd (omega (arith, a.head, invariant.kept.memory.unregistered i b))

        published_then : last_published i run ≡ ((s.memory.item i).value j, (s.memory.item i).published_at j)
        published_then = let z : pred (s.memory.item i).versions ≡ j = omega (arith, a.head) in E.newest i (there (split i s.memory.items))
            ∙ ap (λ (j : ℕ). ((s.memory.item i).value j, (s.memory.item i).published_at j)) z

        -- the change took effect at the line 21 of that worker, at r
        stamped_now : effects (Notes.stepped w k (Notes.stamps i) end ∷ run) ≡ insert x (effects run)
        stamped_now = unfold effects in
            ap₂ (λ (t : ℕ) (h : ℕ × ℕ). insert (change t i h.0 h.1) (effects run))
            (ap (λ (o : ℕ). ((ledger run).fate o).at) z ∙ last_is run o r q.2) published_then

        unstamped : IsEffect s.memory x → ⊥
        unstamped (of_counter h p q) = let z : ◌≡◌ {A = ℕ} 1 2 = ap effect_tag q in omega arith
        unstamped (of_version n zero p q) = let z : ◌≡◌ {A = ℕ} 1 0 = ap effect_tag q in omega arith
        unstamped (of_version n (suc j') p q) =
            let u : i ≡ n = ap effect_item q in
            let p' : suc j' < (s.memory.item i).valid = subst (λ (n : ℕ). suc j' < (s.memory.item n).valid) (sym u) p in
            omega (
              arith,
              published_rises invariant.kept.memory i (suc j') j (omega (arith, a.undecided)) (omega (arith, a.head)),
              ap effect_published q,
              ap (λ (n : ℕ). (s.memory.item n).published_at (suc j')) u,
            )

        positive : j ≡ 0 → ⊥
        positive e = omega (arith, a.head, a.undecided, (invariant.kept.memory.item i).first (omega (arith, a.head)))

        items_same : (j' : ℕ) → j ≡ j' → s.memory.items ≡ more_items (effect_later invariant.kept.memory o op p (stamps i j c r) a)
            invariant.kept.memory (effects run) E.memory i j
        items_same zero e = absurd (positive e)
        items_same (suc j') e = ap (more_items (effect_later invariant.kept.memory o op p (stamps i j c r) a) invariant.kept.memory (effects run)
            E.memory i) (sym e)

        is : (j' : ℕ) → j ≡ j' → x ≡ version_effect it i j
        is zero e = absurd (omega (arith, a.head, a.undecided, (invariant.kept.memory.item i).first (omega (arith, a.head))))
        is (suc j') e =
            subst (λ (n : ℕ). x ≡ version_effect it i n) (sym e)
            (ap₂ (λ (t n : ℕ). change t i ((s.memory.item i).value n) ((s.memory.item i).published_at n))
            (sym (put_same (s.memory.item i).effect_at j r (suc j') (sym e))) e)

    -- the newest version of each item
    step_newest : (e : Machine.Effect) (d : Deed) → Allowed s.now o op p s.memory e → Matches s.memory run o e k d → (i : ℕ) →
        i < (memory_after s.now o e s.memory).items →
        last_published i (Notes.stepped w k d end ∷ run) ≡ head_of ((memory_after s.now o e s.memory).item i)
    unfolding memory_after
    step_newest nothing d a q i b = not_two run w k d end i (λ e. omega arith) ∙ E.newest i b
    step_newest (takes_node i0 b0 j y) d a q i b = not_two run w k d end i (λ e. omega arith) ∙ E.newest i b
    step_newest (gives_back y) d a q i b = not_two run w k d end i (λ e. omega arith) ∙ E.newest i b
    step_newest counts d a q i b = not_two run w k d end i (λ e. let z : deed_tag d ≡ 4 = ap deed_tag q.1 in omega arith) ∙ E.newest i b
    step_newest (stamps n j c r) d a q i b =
        not_two run w k d end i (λ e. let z : deed_tag d ≡ 3 = ap deed_tag q.1 in omega arith) ∙ E.newest i b
        ∙ put_all (λ (i : ℕ) (it : Item). head_of (s.memory.item i) ≡ head_of it) s.memory.item n
        (stamped s.now j c r (s.memory.item n)) i (λ e. ap (λ (i : ℕ). head_of (s.memory.item i)) e) (λ e. refl)
    step_newest (publishes n v y) d a q i b =
        ap (λ (d : Deed). last_published i (Notes.stepped w k d end ∷ run)) q.1
        ∙ unfold last_published in (by_eq (λ (x : ℕ × ℕ). x ≡ head_of (put s.memory.item n it i)) i n
        (λ e. ap₂ (λ (v t : ℕ). (v, t))
        (sym (put_same (s.memory.item n).value (s.memory.item n).versions v (s.memory.item n).versions refl))
        (now ∙ sym (put_same (s.memory.item n).published_at (s.memory.item n).versions s.now (s.memory.item n).versions refl))
        ∙ ap head_of (sym (put_same s.memory.item n it i e)))
        (λ e. E.newest i b ∙ ap head_of (sym (put_other s.memory.item n it i e))))
      where
        it : Item
        it = published s.now o v y (s.memory.item n)

  step_effected : (w o : ℕ) (l : List ℕ) (ph : Phase) → s.worker w ≡ busy o l ph →
      Effected (tick (after_step s w o l ph))
      (Notes.stepped w (line_number ph) (phase_deed s.memory ph) (ending (line s.now s.memory ph).comes) ∷ run)
  step_effected w o l ph is =
      record {
        memory = subst (λ (m : Memory). MemoryEffects m (effects (x ∷ run))) (sym after_memory)
            (step_effects w o (phase_operation ph) (has_published ph) (line_number ph) (ending n) does (phase_deed s.memory ph)
            right.does found_deed stamps_last);
        newest = λ i b. subst (λ (m : Memory). i < m.items → last_published i (x ∷ run) ≡ head_of (m.item i))
            (sym after_memory)
            (step_newest w o (phase_operation ph) (has_published ph) (line_number ph) (ending n) does (phase_deed s.memory ph)
            right.does found_deed i) b;
      }
    where
      K : InOperation s.now s.memory (s.fate o) (s.place o) w o l ph
      K = subst (λ (y : Worker). WorkerRight s.now s.memory s.fate s.place w y) is (invariant.workers w)

      right : LineRight s.now o l s.memory ph (line s.now s.memory ph)
      right = every_line s.now o l s.memory invariant.kept.memory K.begun ph K.facts

      n : Comes
      n = (line s.now s.memory ph).comes

      does : Machine.Effect
      does = (line s.now s.memory ph).does

      x : Note
      x = Notes.stepped w (line_number ph) (phase_deed s.memory ph) (ending (line s.now s.memory ph).comes)

      mine : PhaseTraced s.memory run o ph
      mine = let k : WorkerTraced s.memory run (busy o l ph) = subst (λ (y : Worker). WorkerTraced s.memory run y) is (T.workers w) in k.0

      found_deed : Matches s.memory run o does (line_number ph) (phase_deed s.memory ph)
      found_deed = matches s.now o s.memory run ph mine

      stamps_last : (ledger run).current w ≡ o
      stamps_last = let k : InLedger (ledger run) w (busy o l ph) = subst (λ (y : Worker). InLedger (ledger run) w y) is (A.worker w) in k.0

      after_memory : (tick (after_step s w o l ph)).memory ≡ memory_after s.now o does s.memory
      after_memory = unfold tick affect in
          (settle_memory w o (line_number ph ∷ l) (affect o s (line s.now s.memory ph).does) (line s.now s.memory ph).comes)

event_effected : (s : Catalogue) (run : List Note) → Invariant s → Agrees s run → Traced s run → Effected s run → (e : Event) →
    Effected (happens s e) (event_note s e ∷ run)
unfolding happens
event_effected s run invariant A tr E =
    event_cases s invariant (suc s.memory.limits.workers) (omega arith) (λ (x : Note) (s' : Catalogue). Effected (tick s') (x ∷ run))
    (λ x q. after_quiet s invariant run A tr E x)
    (λ v z p. after_register s invariant run A tr E v z (found (node_to_take s.memory)))
    (λ w op b f p. after_start s invariant run A tr E w op)
    (λ w o l ph b e. step_effected s invariant run A tr E w o l ph e)
    (λ w o l ph b e. after_abandon s invariant run A tr E w o ph) (omega arith)

-- the list of effects of every run
pub effected : (limits : Limits) (es : List Event) → Effected (after_events limits es) (machine_notes limits es)
unfolding after_events machine_notes fresh effects object_at changes_between sum_to
effected limits [] =
    record {
      memory = record {
        ordered = tt;
        once = tt;
        versions = λ i j p. absurd (omega arith);
        snapshots = λ h p. absurd (omega arith);
        only = λ x a.
            absurd a;
        count = λ i τ f. refl;
        items = λ τ. refl;
      };
      newest = λ i p. absurd (omega arith);
    }
effected limits (e ∷ es) = event_effected (after_events limits es) (machine_notes limits es) (run_right limits es) (agrees limits es) (traced limits es)
    (effected limits es) e
