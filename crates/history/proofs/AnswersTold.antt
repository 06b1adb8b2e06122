-- The numbers of every answer of the machine of versions that is no refusal: of a step, with the lines that its operation has executed, of a start and
-- of a register. An abandon's stand in AbandonTold.
use Rattle.std.proofs.Math.Path.{◌≡◌, ap}
use Rattle.std.specs.Prelude.{refl, cond, List, ◌∷◌, ℕ, length}
use Rattle.std.proofs.Common.{ap₂, sym, ◌∙◌, subst, arith}
use Rattle.definitions.specs.Answers.{accepted}
use Rattle.definitions.specs.Calls.{Call}
use Rattle.history.specs.Tools.{by_test}
use Rattle.history.specs.Notes.{Deed, Ending, Note, step_note, if_accepted, start_of, ledger}
use Rattle.history.specs.Notes as Notes
use Rattle.history.specs.NoteParts.{note_tag, note_line, note_ending}
use Rattle.history.specs.Demands.{numbers, StepNumbers}
use Rattle.history.specs.Machine.{
  Event,
  Limits,
  Operation,
  register,
  v_read,
  v_cas,
  take_snapshot,
  read_snapshot,
  total,
  Phase,
  line_number,
  Comes,
  goes_on,
  ends_with,
  answers_change,
  answers,
  line,
  Worker,
  idle,
  busy,
  Catalogue,
  Move,
  refused,
  no_worker,
  is_idle,
  step_answer,
  stepped,
  stepping,
  found,
  node_to_take,
  worker_refusals,
  register_refusals,
  begun,
  starting,
  registered,
  registering,
  move,
  reply,
  after_events,
}
use Rattle.history.proofs.EachLine.{every_line}
use Rattle.history.proofs.Places.{InOperation, WorkerRight, Invariant}
use Rattle.history.proofs.Run.{run_right}
use Rattle.history.proofs.MachineNotes.{phase_deed, worker_line, worker_deed, ending, machine_note, machine_notes}
use Rattle.history.proofs.LedgerRight.{InLedger, Agrees, agrees}
use Rattle.history.proofs.InWork.{noted_as}
use Rattle.history.proofs.Accepts.{unless_passed, passed_unless, starts, register_starts_none}

-- ---- a step

comes_numbers : (n : List ℕ) (u : Comes) → StepNumbers (ending u) (length n) (step_answer n u)
comes_numbers n (goes_on ph) = refl
comes_numbers n (ends_with k) = refl
comes_numbers n (answers_change x) = refl
comes_numbers n (answers x τ j) = refl

module _ (s : Catalogue) (invariant : Invariant s) (run : List Note) (A : Agrees s run) (w : ℕ) where
  abbrev its_lines : List ℕ
  its_lines = ((ledger run).fate ((ledger run).current w)).lines

  busy_step : (o : ℕ) (l : List ℕ) (ph : Phase) → s.worker w ≡ busy o l ph → (k : ℕ) (d : Deed) (e : Ending) →
      step_note w (line_number ph) (phase_deed s.memory ph) (step_answer (line_number ph ∷ l) (line s.now s.memory ph).comes)
      ≡ Notes.stepped w k d e →
      StepNumbers e (length (k ∷ its_lines)) (step_answer (line_number ph ∷ l) (line s.now s.memory ph).comes)
  busy_step o l ph is k d e x =
      subst (λ (n : List ℕ). StepNumbers e (length n) (step_answer (line_number ph ∷ l) (line s.now s.memory ph).comes))
      (ap₂ (λ (k : ℕ) (l : List ℕ). k ∷ l) (ap note_line same) (sym (ap (λ (o : ℕ). ((ledger run).fate o).lines) its.0 ∙ its.1)))
      (subst (λ (e : Ending). StepNumbers e (length (line_number ph ∷ l)) (step_answer (line_number ph ∷ l) (line s.now s.memory ph).comes))
      (ap note_ending same) (comes_numbers (line_number ph ∷ l) (line s.now s.memory ph).comes))
    where
      K : InOperation s.now s.memory (s.fate o) (s.place o) w o l ph
      K = subst (λ (x : Worker). WorkerRight s.now s.memory s.fate s.place w x) is (invariant.workers w)

      its : InLedger (ledger run) w (busy o l ph)
      its = subst (λ (x : Worker). InLedger (ledger run) w x) is (A.worker w)

      same : Notes.stepped w (line_number ph) (phase_deed s.memory ph) (ending (line s.now s.memory ph).comes) ≡ Notes.stepped w k d e
      same = sym (noted_as w (line_number ph) (phase_deed s.memory ph) (line_number ph ∷ l) (line s.now s.memory ph).comes _ _ _ _ _
          (every_line s.now o l s.memory invariant.kept.memory K.begun ph K.facts).comes) ∙ x

  a_step : (k : ℕ) (d : Deed) (e : Ending) → step_note w (worker_line (s.worker w)) (worker_deed s.memory (s.worker w)) (stepping s w).answer
      ≡ Notes.stepped w k d e → StepNumbers e (length (k ∷ its_lines)) (stepping s w).answer
  unfolding stepping
  a_step k d e =
      by_test (λ (y : Move). step_note w (worker_line (s.worker w)) (worker_deed s.memory (s.worker w)) y.answer ≡ Notes.stepped w k d e →
      StepNumbers e (length (k ∷ its_lines)) y.answer) (no_worker s w)
      (λ t x. let z : ◌≡◌ {A = ℕ} 0 3 = ap note_tag x in absurd (omega arith)) (λ t. at (s.worker w) refl)
    where
      at : (v : Worker) → s.worker w ≡ v → step_note w (worker_line v) (worker_deed s.memory v)
          (cond (is_idle v) (refused s 5) (stepped s w v)).answer ≡ Notes.stepped w k d e →
          StepNumbers e (length (k ∷ its_lines)) (cond (is_idle v) (refused s 5) (stepped s w v)).answer
      at idle is x = let z : ◌≡◌ {A = ℕ} 0 3 = ap note_tag x in absurd (omega arith)
      at (busy o l ph) is x = unfold stepped in (busy_step o l ph is k d e x)

-- in every run of the machine
pub step_told : (limits : Limits) (es : List Event) (w k : ℕ) (d : Deed) (e : Ending) →
    machine_note (after_events limits es) (Call.step w) ≡ Notes.stepped w k d e →
    StepNumbers e (length (k ∷ ((ledger (machine_notes limits es)).fate ((ledger (machine_notes limits es)).current w)).lines))
    (reply (after_events limits es) (Call.step w))
unfolding machine_note reply move
step_told limits es w k d e x = a_step (after_events limits es) (run_right limits es) (machine_notes limits es) (agrees limits es) w k d e x

-- ---- a start

began : (s : Catalogue) (w : ℕ) (op : Operation) → if_accepted (starting s w op).answer (Notes.started w op) ≡ Notes.started w op →
    (starting s w op).answer ≡ numbers 2 0 0
unfolding starting
began s w op e = ap (λ (x : Move). x.answer)
    (unless_passed s (worker_refusals s w op) (record { answer = accepted 0; leaves = begun s w op }) ((starts s w op).0 e))

pub start_told : (s : Catalogue) (w : ℕ) (op : Operation) → machine_note s (start_of w op) ≡ Notes.started w op → reply s (start_of w op) ≡ numbers 2 0 0
unfolding machine_note reply move
start_told s w (register i v z) e = absurd (register_starts_none (reply s (Call.register v z)) _ v z w (register i v z) e)
start_told s w (v_read i) e = began s w (v_read i) e
start_told s w (v_cas i old new) e = began s w (v_cas i old new) e
start_told s w take_snapshot e = began s w take_snapshot e
start_told s w (read_snapshot i h) e = began s w (read_snapshot i h) e
start_told s w (total r h) e = began s w (total r h) e

-- ---- a register

item_of : Note → ℕ
item_of (Notes.quiet x) = 0
item_of (Notes.registered i v s) = i
item_of (Notes.started w op) = 0
item_of (Notes.stepped w line d e) = 0
item_of (Notes.abandoned w held) = 0

pub register_told : (s : Catalogue) (i v z : ℕ) → machine_note s (Call.register v z) ≡ Notes.registered i v z → reply s (Call.register v z) ≡ numbers 2 i 0
unfolding machine_note reply move registering item_of
register_told s i v z e =
    ap (λ (x : Move). x.answer) is
    ∙ ap accepted (ap item_of (sym (ap (λ (x : Move). if_accepted x.answer (Notes.registered x.answer.value v z)) is) ∙ e))
  where
    goes : Move
    goes = record { answer = accepted s.memory.items; leaves = registered s v z (found (node_to_take s.memory)) }

    is : registering s v z ≡ goes
    is = unfold registering in (unless_passed s (register_refusals s.memory v) goes
        (passed_unless s (register_refusals s.memory v) goes (λ a. Notes.registered a v z) (Notes.registered i v z)
        (λ q. let z : ◌≡◌ {A = ℕ} 1 0 = ap note_tag q in omega arith) e))
