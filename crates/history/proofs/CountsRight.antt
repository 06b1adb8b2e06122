-- The lines of operations that ended, and progress, for the notes of every run of the machine of versions.
use Rattle.std.specs.Prelude.{◌≡◌, ◌≢◌, List, [], ◌∷◌, ℕ, ◌+◌, ◌≤◌, ◌<◌, length}
use Rattle.std.proofs.Common.{ap, sym, ◌∙◌, subst, arith}
use Rattle.history.specs.Definition1.{Operation}
use Rattle.history.specs.Notes.{ledger}
use Rattle.history.specs.Notes as Notes
use Rattle.history.specs.Notes.{WholeLines, RefusedLines, most_steps}
use Rattle.history.specs.Statements.{fate_of, Finished}
use Rattle.history.specs.Machine.{
  Event,
  Memory,
  Limits,
  Then,
  then_39,
  then_43,
  then_48,
  then_52,
  then_34,
  then_total_34,
  Phase,
  line_37,
  line_39,
  line_41,
  line_43,
  line_45,
  line_46,
  line_48,
  line_50,
  line_51,
  line_52,
  line_5,
  line_6,
  line_32,
  line_34,
  total_32,
  total_34,
  closing,
  line_20,
  line_21,
  line_22,
  Worker,
  busy,
  after_events,
}
use Rattle.history.proofs.PhaseFacts.{ThenFacts, Helped, PhaseFacts}
use Rattle.history.proofs.RightAnswers.{then_operation, phase_operation}
use Rattle.history.proofs.Places.{InOperation, WorkerRight}
use Rattle.history.proofs.Run.{run_right}
use Rattle.history.proofs.StepCount.{length_helped, help_bound, tried_bound, steps_bound}
use Rattle.history.proofs.MachineNotes.{machine_notes}
use Rattle.history.proofs.LedgerRight.{Tells, InLedger, Runs, agrees}

-- ---- the lines of an operation that ended

pub whole_lines : (limits : Limits) (es : List Event) (o x : ℕ) → Finished (machine_notes limits es) o x →
    WholeLines (fate_of (machine_notes limits es) o).operation (fate_of (machine_notes limits es) o).lines
whole_lines limits es o x e =
    subst (λ (op : Operation). WholeLines op (fate_of (machine_notes limits es) o).lines) (sym A.operation)
    (subst (λ (l : List ℕ). WholeLines ((after_events limits es).fate o).operation l) (sym (A.done (A.answered x e)).1)
    (((run_right limits es).kept.lines o).whole (A.answered x e)))
  where
    A : Tells (fate_of (machine_notes limits es) o) ((after_events limits es).fate o)
    A = (agrees limits es).fate o

pub refused_lines : (limits : Limits) (es : List Event) (o n : ℕ) → n ≢ 0 → (fate_of (machine_notes limits es) o).ending ≡ Notes.ends_with n →
    RefusedLines n (fate_of (machine_notes limits es) o).operation (fate_of (machine_notes limits es) o).lines
refused_lines limits es o n d e =
    subst (λ (op : Operation). RefusedLines n op (fate_of (machine_notes limits es) o).lines) (sym A.operation)
    (subst (λ (l : List ℕ). RefusedLines n ((after_events limits es).fate o).operation l) (sym (A.refused n d e).1)
    (subst (λ (n : ℕ). RefusedLines n ((after_events limits es).fate o).operation ((after_events limits es).fate o).lines) (A.refused n d e).0
    (((run_right limits es).kept.lines o).refused (λ z. d (sym (A.refused n d e).0 ∙ z)))))
  where
    A : Tells (fate_of (machine_notes limits es) o) ((after_events limits es).fate o)
    A = (agrees limits es).fate o

-- ---- progress

-- before a help three more steps are not the last
then_most : (t o : ℕ) (l : List ℕ) (m : Memory) (c : Then) (j n : ℕ) → ThenFacts t o l m c j → n ≤ length l + 3 → n ≤ 5120 →
    n < most_steps (then_operation c)
then_most t o l m (then_39 i f) j n x a b = omega (arith, ap length x.0)
then_most t o l m (then_43 i u v f) j n x a b = omega (arith, ap length x.0)
then_most t o l m (then_48 i u v) j n x a b = omega (arith, tried_bound (46 ∷ 45 ∷ []) l x.0)
then_most t o l m (then_52 i u v g) j n x a b = omega (arith, tried_bound (51 ∷ 50 ∷ 46 ∷ 45 ∷ []) l x.0)
then_most t o l m (then_34 i h f) j n x a b = omega arith
then_most t o l m (then_total_34 q h k i u f) j n x a b = omega arith

helped_most : (t o : ℕ) (l : List ℕ) (m : Memory) (c : Then) (j : ℕ) → Helped t o l m c j → length l ≤ 5120 → length l < most_steps (then_operation c)
helped_most t o l m c j x b =
    then_most t o x.earlier m c j (length l) x.keeps (omega (arith, ap length x.is, length_helped x.tbd x.earlier, help_bound x.tbd)) b

phase_most : (t o : ℕ) (l : List ℕ) (m : Memory) (ph : Phase) → PhaseFacts t o l m ph → length l ≤ 5120 → length l < most_steps (phase_operation ph)
phase_most t o l m (line_37 i) x b = omega (arith, ap length x.0)
phase_most t o l m (line_39 i f j) x b = helped_most t o l m (then_39 i f) j x b
phase_most t o l m (line_41 i u v) x b = omega (arith, ap length x.0)
phase_most t o l m (line_43 i u v f j) x b = helped_most t o l m (then_43 i u v f) j x b
phase_most t o l m (line_45 i u v f j) x b = omega (arith, tried_bound [] l x.0)
phase_most t o l m (line_46 i u v f j y) x b = omega (arith, tried_bound (45 ∷ []) l x.0)
phase_most t o l m (line_48 i u v j) x b = helped_most t o l m (then_48 i u v) j x b
phase_most t o l m (line_50 i u v g y) x b = omega (arith, tried_bound (46 ∷ 45 ∷ []) l x.0)
phase_most t o l m (line_51 i u v g) x b = omega (arith, tried_bound (50 ∷ 46 ∷ 45 ∷ []) l x.0)
phase_most t o l m (line_52 i u v g j) x b = helped_most t o l m (then_52 i u v g) j x b
phase_most t o l m line_5 x b = omega (arith, ap length x)
phase_most t o l m (line_6 c r) x b = omega (arith, ap length x.0)
phase_most t o l m (line_32 i h) x b = omega arith
phase_most t o l m (line_34 i h f j y) x b = omega arith
phase_most t o l m (total_32 q h k i u) x b = omega arith
phase_most t o l m (total_34 q h k i u f j y) x b = omega arith
phase_most t o l m (closing q h k u) x b = omega arith
phase_most t o l m (line_20 c j) x b = then_most t o l m c j (length l) x (omega arith) b
phase_most t o l m (line_21 c j) x b = then_most t o x.earlier m c j (length l) x.keeps (omega (arith, ap length x.is)) b
phase_most t o l m (line_22 c j n r) x b = then_most t o x.earlier m c j (length l) x.keeps (omega (arith, ap length x.is)) b

-- every operation of every run of the machine ends when it is stepped
pub progress : (limits : Limits) → limits.items ≤ 256 → limits.nodes ≤ 4096 → (es : List Event) (o : ℕ) →
    (fate_of (machine_notes limits es) o).ending ≡ Notes.goes_on →
    ((ledger (machine_notes limits es)).current (fate_of (machine_notes limits es) o).worker ≡ o)
    × (length (fate_of (machine_notes limits es) o).lines < most_steps (fate_of (machine_notes limits es) o).operation)
progress limits a b es o e = at ((agrees limits es).running o e)
  where
    w : ℕ
    w = (fate_of (machine_notes limits es) o).worker

    at : Runs (after_events limits es) o (fate_of (machine_notes limits es) o) → ((ledger (machine_notes limits es)).current w ≡ o)
        × (length (fate_of (machine_notes limits es) o).lines < most_steps (fate_of (machine_notes limits es) o).operation)
    at (l, ph, is) = (
      its.0,
      subst (λ (op : Operation). length (fate_of (machine_notes limits es) o).lines < most_steps op)
          (sym (((agrees limits es).fate o).operation ∙ K.operation))
          (subst (λ (l : List ℕ). length l < most_steps (phase_operation ph)) (sym its.1)
          (phase_most (after_events limits es).now o l (after_events limits es).memory ph K.facts (steps_bound limits a b es w o l ph is))),
    )
      where
        K : InOperation (after_events limits es).now (after_events limits es).memory ((after_events limits es).fate o) ((after_events limits es).place o)
            w o l ph
        K = subst (λ (y : Worker). WorkerRight (after_events limits es).now (after_events limits es).memory (after_events limits es).fate
            (after_events limits es).place w y) is ((run_right limits es).workers w)

        its : InLedger (ledger (machine_notes limits es)) w (busy o l ph)
        its = subst (λ (y : Worker). InLedger (ledger (machine_notes limits es)) w y) is ((agrees limits es).worker w)
