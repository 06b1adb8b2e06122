-- An operation that goes on is never refused a step.
use Rattle.std.specs.Prelude.{◌≡◌, refl, Bool, cond, List, ◌∷◌, ℕ, ◌<◌}
use Rattle.std.proofs.Common.{ap, sym, ◌∙◌, true≢false, arith, leb→le}
use Rattle.std.proofs.Math.Path.{subst}
use Rattle.std.proofs.Math.Bool.{false}
use Rattle.definitions.specs.Calls.{Call}
use Rattle.history.specs.Tools.{put, put_all, by_test}
use Rattle.history.specs.Notes.{Deed, Ending, Note, step_note}
use Rattle.history.specs.Notes as Notes
use Rattle.history.specs.Statements.{fate_of}
use Rattle.history.specs.Machine.{
  left_off,
  Memory,
  Limits,
  Operation,
  Phase,
  line_number,
  Comes,
  goes_on,
  ends_with,
  answers_change,
  answers,
  line,
  Worker,
  idle,
  busy,
  Catalogue,
  settle,
  affect,
  tick,
  Move,
  is_idle,
  no_worker,
  step_answer,
  begun,
  registered,
  call,
  reply,
  move,
  stepping,
  stepped,
  refused,
  Event,
  after_events,
}
use Rattle.history.proofs.RightAnswers.{RefusedLines, no_node_left, counter_full, ComesRight}
use Rattle.history.proofs.EachLine.{every_line}
use Rattle.history.proofs.Places.{InOperation, WorkerRight, Invariant}
use Rattle.history.proofs.Run.{run_right}
use Rattle.history.proofs.NodeCount.{settle_memory, same_limits}
use Rattle.history.proofs.Step.{left_alone}
use Rattle.history.proofs.MachineNotes.{machine_note, machine_notes, worker_line, worker_deed, phase_deed, ending, call_cases}
use Rattle.history.proofs.LedgerRight.{Runs, agrees}

-- only workers that there are get into operations
abbrev pub Below : Catalogue → Type 0
Below s = (w : ℕ) → is_idle (s.worker w) ≡ false → w < s.memory.limits.workers

module _ (s : Catalogue) (B : Below s) where
  below_put : (w : ℕ) (y : Worker) → w < s.memory.limits.workers → (w' : ℕ) → is_idle (put s.worker w y w') ≡ false → w' < s.memory.limits.workers
  below_put w y p w' = put_all (λ (w' : ℕ) (y : Worker). is_idle y ≡ false → w' < s.memory.limits.workers) s.worker w y w' (λ e q. omega arith)
      (λ e q. B w' q)

  after_line : (w o : ℕ) (l : List ℕ) (ph : Phase) → w < s.memory.limits.workers → (u : Comes) →
      Below (tick (settle w o (line_number ph ∷ l) (affect o s (line s.now s.memory ph).does) u))
  after_line w o l ph p u w' q = subst (λ (y : Limits). w' < y.workers) (sym limits) (below u q)
    where
      limits : (tick (settle w o (line_number ph ∷ l) (affect o s (line s.now s.memory ph).does) u)).memory.limits ≡ s.memory.limits
      limits = unfold tick affect in
          (ap (λ (m : Memory). m.limits) (settle_memory w o (line_number ph ∷ l) (affect o s (line s.now s.memory ph).does) u)
          ∙ same_limits s.now o s.memory (line s.now s.memory ph).does)

      below : (u : Comes) → is_idle ((tick (settle w o (line_number ph ∷ l) (affect o s (line s.now s.memory ph).does) u)).worker w') ≡ false →
          w' < s.memory.limits.workers
      below (goes_on ph') = unfold tick settle affect in (below_put w (busy o (line_number ph ∷ l) ph') p w')
      below (ends_with n) = unfold tick settle affect in (below_put w idle p w')
      below (answers_change x) = unfold tick settle affect in (below_put w idle p w')
      below (answers x τ j) = unfold tick settle affect in (below_put w idle p w')

left : (s : Catalogue) → Below s → (w o : ℕ) (ph : Phase) → w < s.memory.limits.workers → Below (tick (left_off s w o ph))
unfolding tick left_off
left s B w o ph b w' q = subst (λ (y : Limits). w' < y.workers) (sym same) (below_put s B w idle b w' q)
  where
    same : (left_off s w o ph).memory.limits ≡ s.memory.limits
    same = (left_alone s w o ph).limits

pub call_below : (s : Catalogue) → Invariant s → Below s → (c : Call) → Below (call s c)
unfolding call tick registered begun
call_below s invariant B =
    call_cases s invariant s.memory.limits.workers (omega arith) (λ (x : Note) (s' : Catalogue). Below (tick s')) (λ x q. B) (λ v z p. B)
    (λ w op b f p. below_put s B w _ b)
    (λ w o l ph b e. after_line s B w o l ph b (line s.now s.memory ph).comes)
    (λ w o l ph b e. left s B w o ph b)

-- what a step of a worker in an operation is noted as
pub noted_as : (w k : ℕ) (d : Deed) (n : List ℕ) (u : Comes) (op : Operation) (p : Bool) (t o : ℕ) (m : Memory) → ComesRight t o n m op p u →
    step_note w k d (step_answer n u) ≡ Notes.stepped w k d (ending u)
noted_as w k d n (goes_on ph) op p t o m c = refl
noted_as w k d n (answers_change x) op p t o m c = refl
noted_as w k d n (answers x τ j) op p t o m c = refl
noted_as w k d n (ends_with y) op p t o m c = at c.lines
  where
    at : RefusedLines y op n → step_note w k d (step_answer n (ends_with y)) ≡ Notes.stepped w k d (Notes.ends_with y)
    at (no_node_left i a b tbd e f g) = subst (λ (y : ℕ). step_note w k d (step_answer n (ends_with y)) ≡ Notes.stepped w k d (Notes.ends_with y))
        (sym e) refl
    at (counter_full e f g) = subst (λ (y : ℕ). step_note w k d (step_answer n (ends_with y)) ≡ Notes.stepped w k d (Notes.ends_with y)) (sym e) refl

step_noted : (s : Catalogue) → Invariant s → (w : ℕ) → w < s.memory.limits.workers → (x : Worker) → s.worker w ≡ x → is_idle x ≡ false →
    (line : ℕ) × (d : Deed) × (e : Ending)
    × (step_note w (worker_line x) (worker_deed s.memory x)
    (cond (no_worker s w) (refused s 3) (cond (is_idle x) (refused s 5) (stepped s w x))).answer ≡ Notes.stepped w line d e)
step_noted s invariant w b idle q z = absurd (true≢false z)
step_noted s invariant w b (busy o l ph) q z = (
  line_number ph,
  phase_deed s.memory ph,
  ending (line s.now s.memory ph).comes,
  by_test (λ (y : Move). step_note w (line_number ph) (phase_deed s.memory ph) y.answer ≡ Notes.stepped w (line_number ph)
      (phase_deed s.memory ph) (ending (line s.now s.memory ph).comes)) (no_worker s w)
      (λ t. absurd (omega (arith, leb→le s.memory.limits.workers w t)))
      (λ t. unfold stepped in
      (noted_as w (line_number ph) (phase_deed s.memory ph) (line_number ph ∷ l) (line s.now s.memory ph).comes _ _ _ _ _
      (every_line s.now o l s.memory invariant.kept.memory K.begun ph K.facts).comes)),
)
  where
    K : InOperation s.now s.memory (s.fate o) (s.place o) w o l ph
    K = subst (λ (x : Worker). WorkerRight s.now s.memory s.fate s.place w x) q (invariant.workers w)

-- the worker of an operation that goes on executes a line when it is stepped
pub always_steps : (limits : Limits) (es : List Event) → Below (after_events limits es) → (o : ℕ) → (fate_of (machine_notes limits es) o).ending ≡ Notes.goes_on →
    (line : ℕ) × (d : Deed) × (e : Ending) × (machine_note (after_events limits es) (Call.step (fate_of (machine_notes limits es) o).worker)
    ≡ Notes.stepped (fate_of (machine_notes limits es) o).worker line d e)
unfolding machine_note reply move stepping
always_steps limits es B o t = at ((agrees limits es).running o t)
  where
    w : ℕ
    w = (fate_of (machine_notes limits es) o).worker

    at : Runs (after_events limits es) o (fate_of (machine_notes limits es) o) → (line : ℕ) × (d : Deed) × (e : Ending)
        × (machine_note (after_events limits es) (Call.step w) ≡ Notes.stepped w line d e)
    at (l, ph, is) = step_noted (after_events limits es) (run_right limits es) w (B w (ap is_idle is)) ((after_events limits es).worker w)
        refl
        (ap is_idle is)
