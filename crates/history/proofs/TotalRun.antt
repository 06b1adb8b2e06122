-- The lines of a total, item by item, with the step of each line 32: each line, and the run.
use Rattle.std.specs.Prelude.{◌≡◌, Bool, ℕ, suc, ◌+◌, ◌≤◌, ◌<◌, eqb, length}
use Rattle.std.proofs.Math.Path.{refl, ap, subst}
use Rattle.std.proofs.Common.{sym, ◌∙◌, inl, true≢false, arith}
use Rattle.std.proofs.Math.Bool.{true, false, cond}
use mathlib.Core.List.{List, [], ◌∷◌, ◌++◌}
use Rattle.history.specs.Tools.{put, put_all, by_eq, by_lt, by_le}
use Rattle.history.specs.Notes.{Note, ledger}
use Rattle.history.specs.Notes as Notes
use Rattle.history.specs.Notes.{helped}
use Rattle.history.specs.Statements.{Fetched}
use Rattle.history.specs.Machine.{
  left_off,
  holds_node,
  Entry,
  ended,
  turned_away,
  Memory,
  Limits,
  found,
  node_to_take,
  Found,
  no_node,
  node,
  on_45,
  Operation,
  register,
  v_read,
  v_cas,
  take_snapshot,
  read_snapshot,
  total,
  Then,
  then_39,
  then_43,
  then_48,
  then_52,
  then_34,
  then_total_34,
  Phase,
  line_37,
  line_39,
  line_41,
  line_43,
  line_45,
  line_46,
  line_48,
  line_50,
  line_51,
  line_52,
  line_5,
  line_6,
  line_32,
  line_34,
  total_32,
  total_34,
  closing,
  line_20,
  line_21,
  line_22,
  after,
  total_at,
  helped_item,
  line_number,
  Comes,
  goes_on,
  ends_with,
  answers_change,
  answers,
  Next,
  only,
  line,
  memory_after,
  Worker,
  idle,
  busy,
  Catalogue,
  settle,
  affect,
  tick,
  first_phase,
  begun,
  registered,
  fresh,
  Event,
  happens,
  after_events,
}
use Rattle.history.specs.Machine as Machine
use Rattle.history.specs.Facts.{MemoryFacts, Later}
use Rattle.history.proofs.Changes.{Allowed, effect_later}
use Rattle.history.proofs.PhaseFacts.{PhaseFacts}
use Rattle.history.proofs.RightAnswers.{phase_operation, has_published, LineRight}
use Rattle.history.proofs.EachLine.{every_line, the_read, walks_on, passes_on, helped_onto}
use Rattle.history.proofs.Places.{InOperation, WorkerRight, Invariant}
use Rattle.history.proofs.Run.{run_right, registered_later}
use Rattle.history.proofs.Step.{left_later}
use Rattle.history.proofs.MachineNotes.{event_note, machine_notes, phase_deed, ending, after_step, event_cases}
use Rattle.history.proofs.LedgerRight.{InLedger, Agrees, agrees}
use Rattle.history.proofs.Trace.{executed_more, executed_past}
use Rattle.history.proofs.TraceRun.{done_past, ended_past}
use Rattle.history.proofs.TotalTrace.{
  TotalTrace,
  none,
  skips,
  reads,
  ThenTotal,
  PhaseTotal,
  EndTotal,
  trace_later,
  item_later,
  then_total_later,
  phase_total_later,
  end_total_later,
}

-- ---- each line

abbrev ComesTotal : Memory → List Note → (o e : ℕ) → List ℕ → Operation → Comes → Type 0
ComesTotal m run o e l op (goes_on ph) = PhaseTotal m run o e l ph
ComesTotal m run o e l op (ends_with n) = Unit {0}
ComesTotal m run o e l op (answers_change x) = EndTotal m run o e l op
ComesTotal m run o e l op (answers x τ j) = EndTotal m run o e l op

trace_past : {m : Memory} {run : List Note} {h o e i g : ℕ} {l : List ℕ} → 0 < length run → TotalTrace m run h o e i l g → g < length run
trace_past p none = p
trace_past p (skips f x a b c z) = executed_past x.1
trace_past p (reads f x a j r w s z) = executed_past x.1

module _ (t o w : ℕ) (l : List ℕ) (m : Memory) (known : MemoryFacts t m) (ot : o < t) (run : List Note) (now : length run ≡ t)
    (cur : (ledger run).current w ≡ o) where
  abbrev noted : Phase → Next → Note
  noted ph x = Notes.stepped w (line_number ph) (phase_deed m ph) (ending x.comes)

  abbrev NextTotal : Phase → Next → Type 0
  NextTotal ph x = ComesTotal (memory_after t o x.does m) (noted ph x ∷ run) o (suc t) (line_number ph ∷ l) (phase_operation ph) x.comes

  stay : Later t m m
  unfolding memory_after
  stay = effect_later known o take_snapshot false Machine.nothing tt

  at_32 : (i : ℕ) (valid : Bool) (e : Notes.Ending) → Fetched (Notes.stepped w 32 (Notes.fetches i valid) e ∷ run) o i 32 t
  at_32 i valid e = (valid, record { past = run; w = w; e = e; noted = inl (refl, refl); its = cur; at = now })

  -- the total is at its next item, or at its closing step
  next_total : (y : Note) (r : List ℕ) (q h k i u g : ℕ) → TotalTrace m (y ∷ run) h o (suc t) i r g →
      PhaseTotal m (y ∷ run) o (suc t) r (total_at q h k i u)
  unfolding total_at
  next_total y r q h k i u g x =
      by_eq (λ (ph : Phase). PhaseTotal m (y ∷ run) o (suc t) r ph) i k (λ e. (g, subst (λ (i : ℕ). TotalTrace m (y ∷ run) h o (suc t) i r g) e x))
      (λ e. (g, x))

  -- a help of a total ends
  after_total : (y : Note) (m' : Memory) (r : List ℕ) (tbd : Bool) (c : Then) (j : ℕ) (r' : List ℕ) → r ≡ helped tbd r' →
      ThenTotal m' (y ∷ run) o (suc t) r' c → PhaseTotal m' (y ∷ run) o (suc t) r (after c j)
  unfolding after
  after_total y m' r tbd (then_39 i f) j r' e x = tt
  after_total y m' r tbd (then_43 i a b f) j r' e x = tt
  after_total y m' r tbd (then_48 i a b) j r' e x = tt
  after_total y m' r tbd (then_52 i a b g) j r' e x = tt
  after_total y m' r tbd (then_34 i h f) j r' e x = tt
  after_total y m' r tbd (then_total_34 q h k i u f) j r' e x =
      record {
        done = x.done;
        here = helped tbd (32 ∷ []);
        is = e ∙ ap (helped tbd) x.is ∙ helped_onto tbd x.done;
        passing = record { tbd = tbd; passed = 0; count = omega arith; is = refl };
        inside = x.inside;
      }

  line_total : (ph : Phase) → PhaseFacts t o l m ph → PhaseTotal m run o t l ph → NextTotal ph (line t m ph)
  unfolding line memory_after
  line_total (line_37 i) x z = tt
  line_total (line_39 i f j) x z = tt
  line_total (line_41 i a b) x z = tt
  line_total (line_43 i a b f j) x z = by_eq (NextTotal (line_43 i a b f j)) ((m.item i).value j) a
      (λ e. by_eq (NextTotal (line_43 i a b f j)) b a (λ q. tt) (λ q. tt)) (λ e. tt)
  line_total (line_45 i a b f j) x z = at (node_to_take m)
    where
      at : (g : Found) → NextTotal (line_45 i a b f j) (on_45 i a b f j g)
      at no_node = tt
      at (node y) = tt
  line_total (line_46 i a b f j y) x z = by_eq (NextTotal (line_46 i a b f j y)) (m.item i).versions (suc j) (λ e. tt) (λ e. tt)
  line_total (line_48 i a b j) x z = tt
  line_total (line_50 i a b g y) x z = tt
  line_total (line_51 i a b g) x z = tt
  line_total (line_52 i a b g j) x z = tt
  line_total line_5 x z = by_le (NextTotal line_5) m.limits.counter m.camera.counter (λ e. tt) (λ e. tt)
  line_total (line_6 c r) x z = by_eq (NextTotal (line_6 c r)) m.camera.counter c (λ e. tt) (λ e. tt)
  line_total (line_32 i h) x z = tt
  line_total (line_34 i h f j y) x z = by_lt (NextTotal (line_34 i h f j y)) h ((m.item i).stamp y) (λ p. tt) (λ p. tt)
  line_total (total_32 q h k i u) x z =
      by_lt (λ (ph : Phase). NextTotal (total_32 q h k i u) (only (goes_on ph))) h ((m.item i).stamp 0)
      (λ e. next_total _ (32 ∷ l) q h k (suc i) u t
      (skips {i = i} t (at_32 i _ Notes.goes_on) past (x.1.have i x.0) e (trace_later stay known run _ ot (omega arith) (omega arith) z.1)))
      (λ e. record {
        done = l;
        is = refl;
        inside = record {
          g = z.0;
          trace = trace_later stay known run _ ot (omega arith) (omega arith) z.1;
          event = at_32 i _ Notes.goes_on;
          later = past;
        };
      })
    where
      past : z.0 < t
      past = omega (arith, trace_past (omega arith) z.1)
  line_total (total_34 q h k i u f j y) x z =
      by_lt (λ (ph : Phase). NextTotal (total_34 q h k i u f j y) (only (goes_on ph))) h ((m.item i).stamp y)
      (λ e. record {
        done = z.done;
        here = 34 ∷ z.here;
        is = lines;
        passing = passes_on t o l m known ot y j z.here
            (walks_on t o l m known ot i h f j y x.way e).1 z.passing;
        inside = item_later stay known run _ ot (omega arith) (omega arith) z.inside;
      })
      (λ e. next_total _ (34 ∷ l) q h k (suc i) _ f
      (subst (λ (r : List ℕ). TotalTrace m
      (noted (total_34 q h k i u f j y)
      (only (goes_on (total_at q h k (suc i) (u + cond (eqb ((m.item i).value y) q) (m.item i).size 0)))) ∷ run) h o (suc t) (suc i) r f)
      (sym lines)
      (reads {i = i} f (z.inside.event.0, executed_more _ z.inside.event.1) z.inside.later y (34 ∷ z.here)
      (the_read t o l m known ot i h f j y z.here z.passing x.way e) (same e)
      (trace_later stay known run _ ot (omega arith) (omega arith) z.inside.trace))))
    where
      lines : 34 ∷ l ≡ (34 ∷ z.here) ++ z.done
      lines = ap (λ (l : List ℕ). 34 ∷ l) z.is

      same : (e : (m.item i).stamp y ≤ h) → (the_read t o l m known ot i h f j y z.here z.passing x.way e).f ≡ f
      same e = unfold the_read in refl
  line_total (closing q h k u) x z =
      record {
        k = k;
        have = x.have;
        noted = x.noted;
        covers = x.covers;
        done = l;
        g = z.0;
        trace = trace_later stay known run _ ot (omega arith)
            (omega arith) z.1;
        lines = refl;
      }
  line_total (line_20 c j) x z =
      by_lt (λ (ph : Phase). NextTotal (line_20 c j) (only (goes_on ph))) j (m.item (helped_item c)).valid
      (λ p. after_total _ m (20 ∷ l) false c j l refl (then_total_later stay known run _ o t (suc t) l c ot (omega arith) (omega arith) z))
      (λ p. (l, refl, then_total_later stay known run _ o t (suc t) l c ot (omega arith) (omega arith) z))
  line_total (line_21 c j) x z =
      (z.0, ap (λ (l : List ℕ). 21 ∷ l) z.1, then_total_later stay known run _ o t (suc t) z.0 c ot (omega arith) (omega arith) z.2)
  line_total (line_22 c j n r) x z =
      by_lt (λ (e : Machine.Effect). NextTotal (line_22 c j n r) (record { does = e; comes = goes_on (after c j) })) j (m.item (helped_item c)).valid
      (λ p. after_total _ m (22 ∷ l) true c j z.0 (ap (λ (l : List ℕ). 22 ∷ l) z.1)
      (then_total_later stay known run _ o t (suc t) z.0 c ot (omega arith) (omega arith) z.2))
      (λ p. after_total _ (memory_after t o (Machine.stamps (helped_item c) j n r) m) (22 ∷ l) true c j z.0 (ap (λ (l : List ℕ). 22 ∷ l) z.1)
      (then_total_later (stamps_later p) known run _ o t (suc t) z.0 c ot (omega arith) (omega arith) z.2))
    where
      right : LineRight t o l m (line_22 c j n r) (line t m (line_22 c j n r))
      right = every_line t o l m known ot (line_22 c j n r) x

      stamps_later : (m.item (helped_item c)).valid ≤ j → Later t m (memory_after t o (Machine.stamps (helped_item c) j n r) m)
      stamps_later p = effect_later known o (phase_operation (line_22 c j n r)) (has_published (line_22 c j n r)) (Machine.stamps (helped_item c) j n r)
          (at p right.does)
        where
          at : (m.item (helped_item c)).valid ≤ j → Allowed t o (phase_operation (line_22 c j n r)) (has_published (line_22 c j n r)) m
              (line t m (line_22 c j n r)).does →
              Allowed t o (phase_operation (line_22 c j n r)) (has_published (line_22 c j n r)) m (Machine.stamps (helped_item c) j n r)
          at p = unfold line in (by_lt (λ (e : Machine.Effect). Allowed t o (phase_operation (line_22 c j n r)) (has_published (line_22 c j n r)) m e →
              Allowed t o (phase_operation (line_22 c j n r)) (has_published (line_22 c j n r)) m (Machine.stamps (helped_item c) j n r)) j
              (m.item (helped_item c)).valid (λ q. absurd (omega arith)) (λ q a. a))

-- ---- the run

abbrev WorkerTotal : Memory → List Note → ℕ → Worker → Type 0
WorkerTotal m run t idle = Unit {0}
WorkerTotal m run t (busy o l ph) = PhaseTotal m run o t l ph

pub record TotalRun (s : Catalogue) (run : List Note) : Type 0 where
  pub workers : (w : ℕ) → WorkerTotal s.memory run s.now (s.worker w)
  pub ends : (o : ℕ) → (s.fate o).done ≡ true → EndTotal s.memory run o (suc (s.fate o).ended_at) (s.fate o).lines (s.fate o).operation

module _ (s : Catalogue) (invariant : Invariant s) (run : List Note) (agreed : Agrees s run) (totals : TotalRun s run) where
  unmoved : Later s.now s.memory s.memory
  unfolding memory_after
  unmoved = effect_later invariant.kept.memory 0 take_snapshot false Machine.nothing tt

  keep : (x : Note) (m' : Memory) → Later s.now s.memory m' → (w : ℕ) (y : Worker) → s.worker w ≡ y → WorkerTotal m' (x ∷ run) (suc s.now) y
  keep x m' L w idle e = tt
  keep x m' L w (busy o l ph) e =
      phase_total_later L invariant.kept.memory run x o s.now (suc s.now) l ph K.begun (omega arith) (omega arith)
      (subst (λ (y : Worker). WorkerTotal s.memory run s.now y) e (totals.workers w))
    where
      K : InOperation s.now s.memory (s.fate o) (s.place o) w o l ph
      K = subst (λ (y : Worker). WorkerRight s.now s.memory s.fate s.place w y) e (invariant.workers w)

  old_end : (x : Note) (m' : Memory) → Later s.now s.memory m' → (q : ℕ) → (s.fate q).done ≡ true →
      EndTotal m' (x ∷ run) q (suc (s.fate q).ended_at) (s.fate q).lines (s.fate q).operation
  old_end x m' L q d =
      end_total_later L invariant.kept.memory run x q (suc (s.fate q).ended_at) (s.fate q).lines (s.fate q).operation
      (done_past s invariant q d) (ended_past s invariant q d) (totals.ends q d)

  after_quiet : (x : Notes.Look) → TotalRun (tick s) (Notes.quiet x ∷ run)
  unfolding tick
  after_quiet x = record { workers = λ w. keep (Notes.quiet x) s.memory unmoved w (s.worker w) refl; ends = old_end (Notes.quiet x) s.memory unmoved }

  after_abandon : (w o : ℕ) (ph : Phase) → TotalRun (tick (left_off s w o ph)) (Notes.abandoned w (holds_node ph) ∷ run)
  unfolding tick
  after_abandon w o ph = record { workers = unfold left_off in workers; ends = unfold left_off in ends }
    where
      workers : (w' : ℕ) → WorkerTotal (left_off s w o ph).memory (Notes.abandoned w (holds_node ph) ∷ run) (suc s.now) ((left_off s w o ph).worker w')
      workers w' = subst (λ (y : Worker). WorkerTotal (left_off s w o ph).memory (Notes.abandoned w (holds_node ph) ∷ run) (suc s.now) y) is
          (put_all (λ (w' : ℕ) (y : Worker). WorkerTotal (left_off s w o ph).memory (Notes.abandoned w (holds_node ph) ∷ run) (suc s.now) y) s.worker w idle w' (λ e. tt)
          (λ e. keep (Notes.abandoned w (holds_node ph)) (left_off s w o ph).memory (left_later s invariant w o ph) w' (s.worker w') refl))
        where
          is : put s.worker w idle w' ≡ (left_off s w o ph).worker w'
          is = unfold left_off in refl

      ends : (q : ℕ) → (s.fate q).done ≡ true → EndTotal (left_off s w o ph).memory (Notes.abandoned w (holds_node ph) ∷ run) q (suc (s.fate q).ended_at) (s.fate q).lines (s.fate q).operation
      ends = old_end (Notes.abandoned w (holds_node ph)) (left_off s w o ph).memory (left_later s invariant w o ph)

  after_register : (v z y : ℕ) → TotalRun (tick (registered s v z y)) (Notes.registered s.memory.items v z ∷ run)
  unfolding tick registered
  after_register v z y =
      record {
        workers = λ w. keep x (registered s v z y).memory (registered_later s invariant v z y) w (s.worker w) refl;
        ends = λ q. put_all (λ (q : ℕ) (f : Entry). f.done ≡ true → EndTotal (registered s v z y).memory (x ∷ run) q (suc f.ended_at) f.lines
            f.operation) s.fate s.now _ q
            (λ e d. tt) (λ e d. old_end x (registered s v z y).memory (registered_later s invariant v z y) q d);
      }
    where
      x : Note
      x = Notes.registered s.memory.items v z

  first_total : (x : Note) (o e : ℕ) (op : Operation) → PhaseTotal s.memory (x ∷ run) o e [] (first_phase s.memory op)
  unfolding first_phase total_at
  first_total x o e (register i v z) = tt
  first_total x o e (v_read i) = tt
  first_total x o e (v_cas i a b) = tt
  first_total x o e take_snapshot = tt
  first_total x o e (read_snapshot i h) = tt
  first_total x o e (total q h) =
      by_eq (λ (ph : Phase). PhaseTotal s.memory (x ∷ run) o e [] ph) 0 s.memory.items
      (λ z. (0, subst (λ (k : ℕ). TotalTrace s.memory (x ∷ run) h o e k [] 0) z none)) (λ z. (0, none))

  after_start : (w : ℕ) (op : Operation) → TotalRun (tick (begun s w op)) (Notes.started w op ∷ run)
  unfolding tick begun
  after_start w op =
      record {
        workers = λ w'. put_all (λ (w' : ℕ) (y : Worker). WorkerTotal s.memory (Notes.started w op ∷ run) (suc s.now) y) s.worker w _ w'
            (λ e. first_total (Notes.started w op) s.now (suc s.now) op) (λ e. keep (Notes.started w op) s.memory unmoved w' (s.worker w') refl);
        ends = λ q. put_all (λ (q : ℕ) (f : Entry). f.done ≡ true → EndTotal s.memory (Notes.started w op ∷ run) q (suc f.ended_at) f.lines
            f.operation) s.fate s.now _ q
            (λ e d. absurd (true≢false (sym d))) (λ e d. old_end (Notes.started w op) s.memory unmoved q d);
      }

  module _ (w o : ℕ) (l : List ℕ) (ph : Phase) (is : s.worker w ≡ busy o l ph) where
    K : InOperation s.now s.memory (s.fate o) (s.place o) w o l ph
    K = subst (λ (y : Worker). WorkerRight s.now s.memory s.fate s.place w y) is (invariant.workers w)

    cur : (ledger run).current w ≡ o
    cur = let k : InLedger (ledger run) w (busy o l ph) = subst (λ (y : Worker). InLedger (ledger run) w y) is (agreed.worker w) in k.0

    abbrev after_line : Memory
    after_line = memory_after s.now o (line s.now s.memory ph).does s.memory

    abbrev this : Notes.Ending → Note
    this e = Notes.stepped w (line_number ph) (phase_deed s.memory ph) e

    right : LineRight s.now o l s.memory ph (line s.now s.memory ph)
    right = every_line s.now o l s.memory invariant.kept.memory K.begun ph K.facts

    L : Later s.now s.memory after_line
    L = effect_later invariant.kept.memory o (phase_operation ph) (has_published ph) (line s.now s.memory ph).does right.does

    settled : (u : Comes) → ComesTotal after_line (this (ending u) ∷ run) o (suc s.now) (line_number ph ∷ l) (phase_operation ph) u →
        TotalRun (tick (settle w o (line_number ph ∷ l) (affect o s (line s.now s.memory ph).does) u)) (this (ending u) ∷ run)
    unfolding tick settle affect ended turned_away
    settled (goes_on ph') c =
        record {
          workers = λ w'. put_all (λ (w' : ℕ) (y : Worker). WorkerTotal after_line (this Notes.goes_on ∷ run) (suc s.now) y) s.worker w
              (busy o (line_number ph ∷ l) ph') w'
              (λ e. c) (λ e. keep (this Notes.goes_on) after_line L w' (s.worker w') refl);
          ends = old_end (this Notes.goes_on) after_line L;
        }
    settled (ends_with n) c =
        record {
          workers = λ w'. put_all (λ (w' : ℕ) (y : Worker). WorkerTotal after_line (this (Notes.ends_with n) ∷ run) (suc s.now) y) s.worker w idle w'
              (λ e. tt) (λ e. keep (this (Notes.ends_with n)) after_line L w' (s.worker w') refl);
          ends = λ q. put_all (λ (q : ℕ) (f : Entry). f.done ≡ true → EndTotal after_line (this (Notes.ends_with n) ∷ run) q (suc f.ended_at)
              f.lines f.operation) s.fate o _ q
              (λ e d. absurd (true≢false (sym d))) (λ e d. old_end (this (Notes.ends_with n)) after_line L q d);
        }
    settled (answers_change x) c =
        record {
          workers = λ w'. put_all (λ (w' : ℕ) (y : Worker). WorkerTotal after_line (this (Notes.answers x) ∷ run) (suc s.now) y) s.worker w idle w'
              (λ e. tt) (λ e. keep (this (Notes.answers x)) after_line L w' (s.worker w') refl);
          ends = λ q. put_all (λ (q : ℕ) (f : Entry). f.done ≡ true → EndTotal after_line (this (Notes.answers x) ∷ run) q (suc f.ended_at)
              f.lines
              f.operation) s.fate o _ q
              (λ e d. subst (λ (op : Operation). EndTotal after_line (this (Notes.answers x) ∷ run) q (suc s.now) (line_number ph ∷ l) op)
              (sym K.operation)
              (subst (λ (q : ℕ). EndTotal after_line (this (Notes.answers x) ∷ run) q (suc s.now) (line_number ph ∷ l) (phase_operation ph)) (sym e) c))
              (λ e d. old_end (this (Notes.answers x)) after_line L q d);
        }
    settled (answers x τ j) c =
        record {
          workers = λ w'. put_all (λ (w' : ℕ) (y : Worker). WorkerTotal after_line (this (Notes.answers x) ∷ run) (suc s.now) y) s.worker w idle w'
              (λ e. tt) (λ e. keep (this (Notes.answers x)) after_line L w' (s.worker w') refl);
          ends = λ q. put_all (λ (q : ℕ) (f : Entry). f.done ≡ true → EndTotal after_line (this (Notes.answers x) ∷ run) q (suc f.ended_at)
              f.lines
              f.operation) s.fate o _ q
              (λ e d. subst (λ (op : Operation). EndTotal after_line (this (Notes.answers x) ∷ run) q (suc s.now) (line_number ph ∷ l) op)
              (sym K.operation)
              (subst (λ (q : ℕ). EndTotal after_line (this (Notes.answers x) ∷ run) q (suc s.now) (line_number ph ∷ l) (phase_operation ph)) (sym e) c))
              (λ e d. old_end (this (Notes.answers x)) after_line L q d);
        }

    step_total : TotalRun (tick (after_step s w o l ph)) (this (ending (line s.now s.memory ph).comes) ∷ run)
    step_total =
        settled (line s.now s.memory ph).comes
        (line_total s.now o w l s.memory invariant.kept.memory K.begun run (sym agreed.now) cur ph K.facts
        (subst (λ (y : Worker). WorkerTotal s.memory run s.now y) is (totals.workers w)))

event_total : (s : Catalogue) (run : List Note) → Invariant s → Agrees s run → TotalRun s run → (e : Event) → TotalRun (happens s e) (event_note s e ∷ run)
unfolding happens
event_total s run invariant agreed totals =
    event_cases s invariant (suc s.memory.limits.workers) (omega arith) (λ (x : Note) (s' : Catalogue). TotalRun (tick s') (x ∷ run))
    (λ x q. after_quiet s invariant run agreed totals x)
    (λ v z p. after_register s invariant run agreed totals v z (found (node_to_take s.memory)))
    (λ w op b f p. after_start s invariant run agreed totals w op)
    (λ w o l ph b e. step_total s invariant run agreed totals w o l ph e)
    (λ w o l ph b e. after_abandon s invariant run agreed totals w o ph) (omega arith)

pub total_run : (limits : Limits) (es : List Event) → TotalRun (after_events limits es) (machine_notes limits es)
unfolding after_events machine_notes fresh
total_run limits [] = record { workers = λ w. tt; ends = λ o d. absurd (true≢false (sym d)) }
total_run limits (e ∷ es) = event_total (after_events limits es) (machine_notes limits es) (run_right limits es) (agrees limits es) (total_run limits es) e
