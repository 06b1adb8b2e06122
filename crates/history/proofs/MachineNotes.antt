-- The notes of a run of the machine of versions, and the five things that a call may be.
use Rattle.std.specs.Prelude.{◌≡◌, Bool, cond, not, List, [], ◌∷◌, ℕ, suc, pred, ◌+◌, ◌<◌, ◌≤◌, ltb, eqb}
use Rattle.std.proofs.Math.Path.{refl, subst}
use Rattle.std.proofs.Common.{sym, ◌∙◌, arith}
use Rattle.std.proofs.Math.Dec.{T, nleb→lt}
use Rattle.definitions.specs.Answers.{Refusal, accepted}
use Rattle.definitions.specs.Calls.{Call}
use Rattle.history.specs.Tools.{by_eq, by_test}
use Rattle.history.specs.Notes.{Deed, fetches, finds, moves, Ending, Note, note_of, step_note, if_accepted}
use Rattle.history.specs.Notes as Notes
use Rattle.history.specs.Machine.{
  Memory,
  Limits,
  found,
  node_to_take,
  Operation,
  v_read,
  v_cas,
  take_snapshot,
  read_snapshot,
  total,
  Phase,
  line_37,
  line_39,
  line_41,
  line_43,
  line_45,
  line_46,
  line_48,
  line_50,
  line_51,
  line_52,
  line_5,
  line_6,
  line_32,
  line_34,
  total_32,
  total_34,
  closing,
  line_20,
  line_21,
  line_22,
  helped_item,
  line_number,
  Comes,
  goes_on,
  ends_with,
  answers_change,
  answers,
  line,
  Worker,
  idle,
  busy,
  Catalogue,
  settle,
  affect,
  Move,
  refused,
  unless,
  is_idle,
  no_worker,
  step_answer,
  worker_refusals,
  register_refusals,
  stepped,
  stepping,
  begun,
  starting,
  registered,
  registering,
  move,
  reply,
  start_refusals,
  Event,
  called,
  reader_starts,
  reader_steps,
  step_refusals,
  holds_node,
  left_off,
  left,
  abandoning,
  reader,
  reader_refusals,
  event_move,
  after_events,
}
use Rattle.history.proofs.RightAnswers.{RefusedLines, no_node_left, counter_full, ComesRight}
use Rattle.history.proofs.EachLine.{every_line}
use Rattle.history.proofs.Places.{Invariant, InOperation, WorkerRight}
use Rattle.history.proofs.Run.{Passed}

-- ---- the notes

abbrev pub fetch : Memory → ℕ → Deed
fetch m i = fetches i (ltb (pred (m.item i).versions) (m.item i).valid)

abbrev pub phase_deed : Memory → Phase → Deed
phase_deed m (line_37 i) = fetch m i
phase_deed m (line_39 i f j) = Notes.nothing
phase_deed m (line_41 i a b) = fetch m i
phase_deed m (line_43 i a b f j) = Notes.nothing
phase_deed m (line_45 i a b f j) = Notes.nothing
phase_deed m (line_46 i a b f j y) = cond (eqb (m.item i).versions (suc j)) (Notes.publishes i b) Notes.nothing
phase_deed m (line_48 i a b j) = Notes.nothing
phase_deed m (line_50 i a b g y) = Notes.nothing
phase_deed m (line_51 i a b g) = Notes.nothing
phase_deed m (line_52 i a b g j) = Notes.nothing
phase_deed m line_5 = Notes.nothing
phase_deed m (line_6 c r) = cond (eqb m.camera.counter c) (moves m.camera.counter) Notes.nothing
phase_deed m (line_32 i h) = fetch m i
phase_deed m (line_34 i h f j x) = Notes.nothing
phase_deed m (total_32 q h k i u) = fetch m i
phase_deed m (total_34 q h k i u f j x) = Notes.nothing
phase_deed m (closing q h k u) = Notes.nothing
phase_deed m (line_20 c j) = finds (ltb j (m.item (helped_item c)).valid)
phase_deed m (line_21 c j) = Notes.nothing
phase_deed m (line_22 c j n r) = cond (ltb j (m.item (helped_item c)).valid) Notes.nothing (Notes.stamps (helped_item c))

abbrev pub worker_line : Worker → ℕ
worker_line idle = 0
worker_line (busy o l ph) = line_number ph

abbrev pub worker_deed : Memory → Worker → Deed
worker_deed m idle = Notes.nothing
worker_deed m (busy o l ph) = phase_deed m ph

unfoldable pub machine_note : Catalogue → Call → Note
machine_note s c = note_of c (reply s c) (λ w. worker_line (s.worker w)) (λ w. worker_deed s.memory (s.worker w))

unfoldable pub event_note : Catalogue → Event → Note
event_note s (called c) = machine_note s c
event_note s (reader_starts i) = if_accepted (event_move s (reader_starts i)).answer (Notes.started (reader s) (v_read i))
event_note s reader_steps = step_note (reader s) (worker_line (s.worker (reader s))) (worker_deed s.memory (s.worker (reader s)))
    (event_move s reader_steps).answer

-- a phase holds a node exactly where its line says so
holds_by_line : (ph : Phase) → Notes.holds_at (line_number ph) ≡ holds_node ph
holds_by_line (line_37 i) = refl
holds_by_line (line_39 i f j) = refl
holds_by_line (line_41 i old new) = refl
holds_by_line (line_43 i old new f j) = refl
holds_by_line (line_45 i old new f j) = refl
holds_by_line (line_46 i old new f j y) = refl
holds_by_line (line_48 i old new j) = refl
holds_by_line (line_50 i old new g y) = refl
holds_by_line (line_51 i old new g) = refl
holds_by_line (line_52 i old new g j) = refl
holds_by_line line_5 = refl
holds_by_line (line_6 c r) = refl
holds_by_line (line_32 i h) = refl
holds_by_line (line_34 i h f j x) = refl
holds_by_line (total_32 q h k i u) = refl
holds_by_line (total_34 q h k i u f j x) = refl
holds_by_line (closing q h k u) = refl
holds_by_line (line_20 c j) = refl
holds_by_line (line_21 c j) = refl
holds_by_line (line_22 c j n r) = refl

-- what a quiet note tells: nothing
abbrev pub Looked : Memory → Notes.Look → Type 0
Looked m Notes.none = Unit {0}

unfoldable pub machine_notes : Limits → List Event → List Note
machine_notes limits [] = []
machine_notes limits (e ∷ es) = event_note (after_events limits es) e ∷ machine_notes limits es

abbrev pub ending : Comes → Ending
ending (goes_on ph) = Notes.goes_on
ending (ends_with n) = Notes.ends_with n
ending (answers_change x) = Notes.answers x
ending (answers x τ j) = Notes.answers x

-- ---- the five things that a call may be: refused, a register, a start, a step, an abandon

unless_move : (P : Move → Type 0) (s : Catalogue) (rs : List Refusal) (x : Move) → ((n : ℕ) → P (refused s n)) → (Passed rs → P x) → P (unless s rs x)
unless_move P s [] x p f = f tt
unless_move P s (r ∷ rs) x p f = by_test P r.when (λ e. p r.number) (λ e. unless_move P s rs x p (λ z. f (e, z)))

-- worker w executes a line
abbrev pub after_step : Catalogue → (w o : ℕ) → List ℕ → Phase → Catalogue
after_step s w o l ph = settle w o (line_number ph ∷ l) (affect o s (line s.now s.memory ph).does) (line s.now s.memory ph).comes

module _ (s : Catalogue) (invariant : Invariant s) (bound : ℕ) (all : s.memory.limits.workers ≤ bound) (P : Note → Catalogue → Type 0)
    (on_quiet : (x : Notes.Look) → Looked s.memory x → P (Notes.quiet x) s)
    (on_register : (v z : ℕ) → Passed (register_refusals s.memory v) →
    P (Notes.registered s.memory.items v z) (registered s v z (found (node_to_take s.memory))))
    (on_start : (w : ℕ) (op : Operation) → w < bound → T (not (not (is_idle (s.worker w)))) → Passed (start_refusals s.memory op) →
    P (Notes.started w op) (begun s w op))
    (on_step : (w o : ℕ) (l : List ℕ) (ph : Phase) → w < bound → s.worker w ≡ busy o l ph →
    P (Notes.stepped w (line_number ph) (phase_deed s.memory ph) (ending (line s.now s.memory ph).comes)) (after_step s w o l ph))
    (on_abandon : (w o : ℕ) (l : List ℕ) (ph : Phase) → w < bound → s.worker w ≡ busy o l ph → P (Notes.abandoned w (holds_node ph)) (left_off s w o ph)) where
  on_refusal : P Notes.refused s
  on_refusal = on_quiet Notes.none tt

  -- a refusal is noted as one
  not_accepted : (n : ℕ) (x : Note) → P (cond (eqb (16 + n) 2) x Notes.refused) s
  not_accepted n x = by_eq (λ (y : Note). P y s) (16 + n) 2 (λ e. absurd (omega arith)) (λ e. on_refusal)

  start_case : (w : ℕ) (op : Operation) → P (if_accepted (starting s w op).answer (Notes.started w op)) (starting s w op).leaves
  unfolding starting
  start_case w op =
      unless_move (λ (y : Move). P (if_accepted y.answer (Notes.started w op)) y.leaves) s (worker_refusals s w op)
      (record { answer = accepted 0; leaves = begun s w op })
      (λ n. not_accepted n (Notes.started w op))
      (λ x. on_start w op (omega (arith, nleb→lt s.memory.limits.workers w x.0)) x.1.0 x.1.1)

  register_case : (v z : ℕ) → P (if_accepted (registering s v z).answer (Notes.registered (registering s v z).answer.value v z))
      (registering s v z).leaves
  unfolding registering
  register_case v z =
      unless_move (λ (y : Move). P (if_accepted y.answer (Notes.registered y.answer.value v z)) y.leaves) s (register_refusals s.memory v)
      (record { answer = accepted s.memory.items; leaves = registered s v z (found (node_to_take s.memory)) })
      (λ n. not_accepted n (Notes.registered 0 v z)) (λ x. on_register v z x)

  -- what a step answers is noted as what it comes to
  step_noted : (w k : ℕ) (d : Deed) (n : List ℕ) (u : Comes) (op : Operation) (p : Bool) (t o : ℕ) (m : Memory) (s' : Catalogue) →
      ComesRight t o n m op p u → P (Notes.stepped w k d (ending u)) s' → P (step_note w k d (step_answer n u)) s'
  step_noted w k d n (goes_on ph) op p t o m s' c x = x
  step_noted w k d n (answers_change y) op p t o m s' c x = x
  step_noted w k d n (answers y τ j) op p t o m s' c x = x
  step_noted w k d n (ends_with y) op p t o m s' c x = at c.lines y refl x
    where
      at : RefusedLines y op n → (y' : ℕ) → y' ≡ y → P (Notes.stepped w k d (Notes.ends_with y')) s' →
          P (step_note w k d (step_answer n (ends_with y'))) s'
      at (no_node_left i a b tbd e f g) y' q x = subst (λ (y : ℕ). P (step_note w k d (step_answer n (ends_with y))) s') (sym (q ∙ e))
          (subst (λ (y : ℕ). P (Notes.stepped w k d (Notes.ends_with y)) s') (q ∙ e) x)
      at (counter_full e f g) y' q x = subst (λ (y : ℕ). P (step_note w k d (step_answer n (ends_with y))) s') (sym (q ∙ e))
          (subst (λ (y : ℕ). P (Notes.stepped w k d (Notes.ends_with y)) s') (q ∙ e) x)

  -- a step of worker w, who is there
  by_worker : (w : ℕ) → w < bound → (x : Worker) → s.worker w ≡ x →
      P (step_note w (worker_line x) (worker_deed s.memory x) (stepped s w x).answer) (stepped s w x).leaves
  by_worker w b idle e = unfold stepped in on_refusal
  by_worker w b (busy o l ph) e = unfold stepped in
      (step_noted w (line_number ph) (phase_deed s.memory ph) (line_number ph ∷ l) (line s.now s.memory ph).comes _ _ _ _ _
      (after_step s w o l ph)
      (every_line s.now o l s.memory invariant.kept.memory k.begun ph k.facts).comes
      (on_step w o l ph b e))
    where
      k : InOperation s.now s.memory (s.fate o) (s.place o) w o l ph
      k = subst (λ (x : Worker). WorkerRight s.now s.memory s.fate s.place w x) e (invariant.workers w)

  step_case : (w : ℕ) → P (step_note w (worker_line (s.worker w)) (worker_deed s.memory (s.worker w)) (stepping s w).answer) (stepping s w).leaves
  unfolding stepping
  step_case w = by_test (λ (y : Move). P (step_note w (worker_line (s.worker w)) (worker_deed s.memory (s.worker w)) y.answer) y.leaves)
      (no_worker s w) (λ e. on_refusal) (λ e. at e (s.worker w) refl)
    where
      at : T (not (no_worker s w)) → (x : Worker) → s.worker w ≡ x →
          P (step_note w (worker_line x) (worker_deed s.memory x) (cond (is_idle x) (refused s 5) (stepped s w x)).answer)
          (cond (is_idle x) (refused s 5) (stepped s w x)).leaves
      at b idle e = on_refusal
      at b (busy o l ph) e = by_worker w (omega (arith, nleb→lt s.memory.limits.workers w b)) (busy o l ph) e

  -- worker w is abandoned
  abandon_case : (w : ℕ) → P (if_accepted (abandoning s w).answer (Notes.abandoned w (Notes.holds_at (worker_line (s.worker w))))) (abandoning s w).leaves
  unfolding abandoning
  abandon_case w =
      unless_move (λ (y : Move). P (if_accepted y.answer (Notes.abandoned w (Notes.holds_at (worker_line (s.worker w))))) y.leaves) s (step_refusals s w)
      (left s w (s.worker w))
      (λ n. not_accepted n (Notes.abandoned w (Notes.holds_at (worker_line (s.worker w)))))
      (λ x. at (omega (arith, nleb→lt s.memory.limits.workers w x.0)) (s.worker w) refl)
    where
      at : w < bound → (y : Worker) → s.worker w ≡ y → P (if_accepted (left s w y).answer (Notes.abandoned w (Notes.holds_at (worker_line y)))) (left s w y).leaves
      at l idle e = unfold left in on_refusal
      at l (busy o ls ph) e = unfold left in
          (subst (λ (b : Bool). P (Notes.abandoned w b) (left_off s w o ph)) (sym (holds_by_line ph)) (on_abandon w o ls ph l e))

  pub call_cases : (c : Call) → P (machine_note s c) (move s c).leaves
  unfolding machine_note reply move
  call_cases (Call.make p m n q c) = on_refusal
  call_cases (Call.register v z) = register_case v z
  call_cases (Call.v_read w i) = start_case w (v_read i)
  call_cases (Call.v_cas w i a b) = start_case w (v_cas i a b)
  call_cases (Call.take_snapshot w) = start_case w take_snapshot
  call_cases (Call.read_snapshot w i h) = start_case w (read_snapshot i h)
  call_cases (Call.total w q h) = start_case w (total q h)
  call_cases (Call.step w) = step_case w
  call_cases (Call.abandon w) = abandon_case w

  -- an event, where there is room for the reader
  pub event_cases : s.memory.limits.workers < bound → (e : Event) → P (event_note s e) (event_move s e).leaves
  unfolding event_note event_move
  event_cases b (called c) = call_cases c
  event_cases b (reader_starts i) =
      unless_move (λ (y : Move). P (if_accepted y.answer (Notes.started (reader s) (v_read i))) y.leaves) s (reader_refusals s i)
      (record { answer = accepted 0; leaves = begun s (reader s) (v_read i) })
      (λ n. not_accepted n (Notes.started (reader s) (v_read i))) (λ x. on_start (reader s) (v_read i) b x.0 x.1)
  event_cases b reader_steps = by_worker (reader s) b (s.worker (reader s)) refl
