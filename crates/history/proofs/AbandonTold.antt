-- The machine of versions abandons a worker exactly when it is there and not free; its answer is 02, and the worker is free.
use Rattle.std.specs.Prelude.{◌≡◌, ◌↔◌, Bool, not, List, ◌∷◌, ℕ, ◌<◌}
use Rattle.std.proofs.Math.Path.{refl, ap, subst}
use Rattle.std.proofs.Common.{sym, ◌∙◌, arith}
use Rattle.std.proofs.Math.Dec.{T, nleb→lt}
use Rattle.definitions.specs.Calls.{Call}
use Rattle.history.specs.Tools.{put_same}
use Rattle.history.specs.Notes.{Note, if_accepted, holds_at}
use Rattle.history.specs.Notes as Notes
use Rattle.history.specs.NoteParts.{note_tag}
use Rattle.history.specs.Statements.{Free}
use Rattle.history.specs.Demands.{numbers}
use Rattle.history.specs.Machine.{
  Limits,
  Worker,
  idle,
  busy,
  Catalogue,
  Move,
  is_idle,
  step_refusals,
  left,
  left_off,
  abandoning,
  move,
  reply,
  call,
  tick,
  Event,
  called,
  happens,
  event_move,
  after_events,
}
use Rattle.history.proofs.Run.{Passed, run_right}
use Rattle.history.proofs.NodeCount.{limits_kept}
use Rattle.history.proofs.MachineNotes.{worker_line, machine_note, event_note, machine_notes}
use Rattle.history.proofs.LedgerRight.{agrees}
use Rattle.history.proofs.EffectsRun.{effected}
use Rattle.history.proofs.Accepts.{unless_passed, passed_unless, above, idle_free}
use Rattle.history.proofs.Refusals.{at_work}

abbrev its_note : Catalogue → ℕ → Note
its_note s w = Notes.abandoned w (holds_at (worker_line (s.worker w)))

passes : (s : Catalogue) (w : ℕ) (b : Bool) → machine_note s (Call.abandon w) ≡ Notes.abandoned w b → Passed (step_refusals s w)
unfolding machine_note reply move abandoning
passes s w b = passed_unless s (step_refusals s w) (left s w (s.worker w)) (λ a. its_note s w) (Notes.abandoned w b)
    (λ e. let z : ◌≡◌ {A = ℕ} 4 0 = ap note_tag e in omega arith)

-- a worker at work: what it is noted as, the answer, and that it is idle afterwards
record Left (s : Catalogue) (w : ℕ) : Type 0 where
  noted : machine_note s (Call.abandon w) ≡ its_note s w
  answers : reply s (Call.abandon w) ≡ numbers 2 0 0
  idles : T (not (not (is_idle ((call s (Call.abandon w)).worker w))))

leaves : (s : Catalogue) (w : ℕ) → Passed (step_refusals s w) → Left s w
unfolding machine_note reply call move tick
leaves s w p = record {
  noted = ap (λ (y : Move). if_accepted y.answer (its_note s w)) is ∙ (at (s.worker w) p.1.0).0;
  answers = ap (λ (y : Move). y.answer) is ∙ (at (s.worker w) p.1.0).1;
  idles = subst (λ (y : Move). T (not (not (is_idle (y.leaves.worker w))))) (sym is) (at (s.worker w) p.1.0).2;
}
  where
    is : abandoning s w ≡ left s w (s.worker w)
    is = unfold abandoning in (unless_passed s (step_refusals s w) (left s w (s.worker w)) p)

    at : (x : Worker) → T (not (is_idle x)) → (if_accepted (left s w x).answer (its_note s w) ≡ its_note s w) × ((left s w x).answer ≡ numbers 2 0 0)
        × T (not (not (is_idle ((left s w x).leaves.worker w))))
    at idle t = absurd t
    at (busy o l ph) t = unfold left left_off in
        (refl, refl, subst (λ (y : Worker). T (not (not (is_idle y)))) (sym (put_same s.worker w idle w refl)) tt)

-- in every run of the machine
module _ (limits : Limits) (es : List Event) (w : ℕ) where
  abbrev state : Catalogue
  state = after_events limits es

  abbrev run : List Note
  run = machine_notes limits es

  there : (state.memory.limits.workers ≡ limits.workers)
  there = ap (λ (y : Limits). y.workers) (limits_kept limits es)

  pub abandons : ((held : Bool) × (machine_note state (Call.abandon w) ≡ Notes.abandoned w held)) ↔ ((w < limits.workers) × (Free run w → ⊥))
  abandons = (
    λ x. let p = passes state w x.0 x.1 in
        (omega (arith, there, nleb→lt state.memory.limits.workers w p.0), (at_work state (run_right limits es) run (agrees limits es) (effected limits es) w).0 p.1.0),
    λ y. (
      holds_at (worker_line (state.worker w)),
      (leaves state w (
        above state.memory.limits.workers w (omega (arith, there, y.0)),
        ((at_work state (run_right limits es) run (agrees limits es) (effected limits es) w).1 y.1, tt),
      )).noted,
    ),
  )

  pub abandon_told : (held : Bool) → machine_note state (Call.abandon w) ≡ Notes.abandoned w held → reply state (Call.abandon w) ≡ numbers 2 0 0
  abandon_told held e = (leaves state w (passes state w held e)).answers

  -- the state and the notes after it
  abbrev later : List Event
  later = called (Call.abandon w) ∷ es

  idle_later : T (not (not (is_idle ((call state (Call.abandon w)).worker w)))) → T (not (not (is_idle ((after_events limits later).worker w))))
  unfolding after_events happens event_move call
  idle_later t = t

  noted_later : (x : Note) → machine_note state (Call.abandon w) ≡ x → machine_notes limits later ≡ x ∷ run
  unfolding machine_notes event_note
  noted_later x e = ap (λ (y : Note). y ∷ run) e

  pub frees : (held : Bool) → machine_note state (Call.abandon w) ≡ Notes.abandoned w held → Free (Notes.abandoned w held ∷ run) w
  frees held e =
      subst (λ (l : List Note). Free l w) (noted_later (Notes.abandoned w held) e)
      (idle_free (after_events limits later) (run_right limits later) (machine_notes limits later) (agrees limits later) (effected limits later) w
      (idle_later (leaves state w (passes state w held e)).idles))
