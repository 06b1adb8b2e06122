-- The ledger of a run's notes tells the machine's own table: what each operation came to, and what each worker is in.
use Rattle.std.proofs.Math.Path.{◌≡◌, refl, ap, sym, subst}
use Rattle.std.proofs.Common.{◌∙◌, true≢false, arith}
use Rattle.std.specs.Prelude.{◌≢◌, Bool, true, false, not, length}
use mathlib.Core.List.{List, [], ◌∷◌}
use Prim.Native.Nat.{ℕ, suc}
use Rattle.std.proofs.Math.Dec.{T}
use Rattle.history.specs.Tools.{put, put_all, put_both, put_same, put_other, Same, eq, ne, same?}
use Rattle.history.specs.Notes.{stops, Note, Fate, Ledger, begins, continues, entered, ledger}
use Rattle.history.specs.Notes as Notes
use Rattle.history.specs.NoteParts.{ending_tag, ending_number}
use Rattle.history.specs.Machine.{
  left_off,
  holds_node,
  Limits,
  found,
  node_to_take,
  Operation,
  register,
  Phase,
  line_number,
  Effect,
  Comes,
  goes_on,
  ends_with,
  answers_change,
  answers,
  line,
  Worker,
  idle,
  busy,
  Catalogue,
  ended,
  turned_away,
  settle,
  affect,
  tick,
  is_idle,
  begun,
  registered,
  fresh,
  Event,
  happens,
  after_events,
  first_phase,
}
use Rattle.history.specs.Machine as Machine
use Rattle.history.proofs.Places.{InOperation, WorkerRight, Invariant}
use Rattle.history.proofs.Run.{run_right}
use Rattle.history.proofs.MachineNotes.{event_note, machine_notes, ending, phase_deed, event_cases}

-- a fate in the ledger tells what the machine has of that operation
pub record Tells (g : Fate) (f : Machine.Entry) : Type 0 where
  pub operation : g.operation ≡ f.operation
  pub worker : g.worker ≡ f.worker
  pub done : f.done ≡ true → (g.ending ≡ Notes.answers f.answer) × (g.lines ≡ f.lines) × (g.at ≡ f.ended_at)
  pub answered : (x : ℕ) → g.ending ≡ Notes.answers x → f.done ≡ true
  pub refused : (n : ℕ) → n ≢ 0 → g.ending ≡ Notes.ends_with n → (f.refusal ≡ n) × (g.lines ≡ f.lines)

pub is_answer : {g : Fate} {f : Machine.Entry} → Tells g f → (x : ℕ) → g.ending ≡ Notes.answers x → f.answer ≡ x
is_answer t x e = ap ending_number (sym (t.done (t.answered x e)).0 ∙ e)

pub unanswered : {g : Fate} {f : Machine.Entry} → Tells g f → f.done ≡ false → (x : ℕ) → g.ending ≡ Notes.answers x → ⊥
unanswered t d x e = true≢false (sym (t.answered x e) ∙ d)

abbrev pub InLedger : Ledger → ℕ → Worker → Type 0
InLedger l w idle = Unit {0}
InLedger l w (busy o lines ph) = (l.current w ≡ o) × ((l.fate o).lines ≡ lines) × ((l.fate o).ending ≡ Notes.goes_on)

-- the worker of an operation is in it
abbrev pub Runs : Catalogue → ℕ → Fate → Type 0
Runs s o g = (l : List ℕ) × (ph : Phase) × (s.worker g.worker ≡ busy o l ph)

pub record Agrees (s : Catalogue) (run : List Note) : Type 0 where
  pub now : s.now ≡ length run
  pub fate : (o : ℕ) → Tells ((ledger run).fate o) (s.fate o)
  pub worker : (w : ℕ) → InLedger (ledger run) w (s.worker w)
  pub running : (o : ℕ) → ((ledger run).fate o).ending ≡ Notes.goes_on → Runs s o ((ledger run).fate o)

abbrev in_of : Worker → ℕ
in_of idle = 0
in_of (busy o l ph) = o

module _ (s : Catalogue) (invariant : Invariant s) (run : List Note) (A : Agrees s run) where
  after_quiet : (x : Notes.Look) → Agrees (tick s) (Notes.quiet x ∷ run)
  unfolding tick ledger entered
  after_quiet x = record { now = ap suc A.now; fate = A.fate; worker = A.worker; running = A.running }

  in_work : (w o : ℕ) (l : List ℕ) (ph : Phase) → s.worker w ≡ busy o l ph → InOperation s.now s.memory (s.fate o) (s.place o) w o l ph
  in_work w o l ph e = subst (λ (x : Worker). WorkerRight s.now s.memory s.fate s.place w x) e (invariant.workers w)

  -- a worker stays where it is, if the fate of its operation does
  stays : (l' : Ledger) (w : ℕ) → l'.current w ≡ (ledger run).current w → (x : Worker) → s.worker w ≡ x →
      ((o : ℕ) (l : List ℕ) (ph : Phase) → s.worker w ≡ busy o l ph → l'.fate o ≡ (ledger run).fate o) → InLedger l' w x
  stays l' w c idle e f = tt
  stays l' w c (busy o l ph) e f =
      let k : InLedger (ledger run) w (busy o l ph) = subst (λ (x : Worker). InLedger (ledger run) w x) e (A.worker w) in
      (c ∙ k.0, ap (λ (g : Fate). g.lines) (f o l ph e) ∙ k.1, ap (λ (g : Fate). g.ending) (f o l ph e) ∙ k.2)

  -- an operation that a worker is in began before now
  older : (w o : ℕ) (l : List ℕ) (ph : Phase) (g : Fate) → s.worker w ≡ busy o l ph → put (ledger run).fate (length run) g o ≡ (ledger run).fate o
  older w o l ph g e = put_other (ledger run).fate (length run) g o (λ z. omega (arith, (in_work w o l ph e).begun, A.now))

  -- a new fate, at now
  new_fate : (g : ℕ → Fate) (f : Machine.Entry) → Tells (g s.now) f → (o : ℕ) →
      Tells (put (ledger run).fate (length run) (g (length run)) o) (put s.fate s.now f o)
  new_fate g f t o =
      subst (λ (k : ℕ). Tells (put (ledger run).fate k (g k) o) (put s.fate s.now f o)) A.now
      (put_both (λ (o : ℕ) (g : Fate) (f : Machine.Entry). Tells g f) (ledger run).fate s.fate s.now (g s.now) f o (λ e. t)
      (λ e. A.fate o))

  after_register : (v z y : ℕ) → Agrees (tick (registered s v z y)) (Notes.registered s.memory.items v z ∷ run)
  unfolding tick ledger entered registered
  after_register v z y =
      record {
        now = ap suc A.now;
        fate = new_fate (begins (register s.memory.items v z) 0 (Notes.answers s.memory.items)) _
            (record {
              operation = refl;
              worker = refl;
              done = λ d. (refl, refl, refl);
              answered = λ x e. refl;
              refused = λ n d e. let z : ◌≡◌ {A = ℕ} 1 2 = ap ending_tag e in absurd (omega arith);
            });
        worker = λ w. stays (ledger (Notes.registered s.memory.items v z ∷ run)) w refl (s.worker w) refl (λ o l ph e. older w o l ph (begins (register s.memory.items v z) 0 (Notes.answers s.memory.items) (length run)) e);
        running = λ o. put_all (λ (o : ℕ) (g : Fate). g.ending ≡ Notes.goes_on → Runs s o g) (ledger run).fate (length run) _ o
            (λ e q. let z : ◌≡◌ {A = ℕ} 1 0 = ap ending_tag q in absurd (omega arith)) (λ e. A.running o);
      }

  after_start : (w : ℕ) (op : Operation) → T (not (not (is_idle (s.worker w)))) → Agrees (tick (begun s w op)) (Notes.started w op ∷ run)
  unfolding tick ledger entered begun
  after_start w op free =
      record {
        now = ap suc A.now;
        fate = new_fate (begins op w Notes.goes_on) _
            (record {
              operation = refl;
              worker = refl;
              done = λ d. absurd (true≢false (sym d));
              answered = λ x e. let z : ◌≡◌ {A = ℕ} 0 1 = ap ending_tag e in absurd (omega arith);
              refused = λ n d e. let z : ◌≡◌ {A = ℕ} 0 2 = ap ending_tag e in absurd (omega arith);
            });
        worker = λ w'. at w' (same? w' w);
        running = λ o. put_all (λ (o : ℕ) (g : Fate). g.ending ≡ Notes.goes_on → Runs (begun s w op) o g) (ledger run).fate (length run) _ o
            (λ e q. (
              [],
              first_phase s.memory op,
              put_same s.worker w here w refl
                  ∙ ap (λ (o : ℕ). busy o [] (first_phase s.memory op)) (A.now ∙ sym e),
            ))
            (λ e q. still o (A.running o q));
      }
    where
      here : Worker
      here = busy s.now [] (first_phase s.memory op)

      busy_not : (w' o : ℕ) (l : List ℕ) (ph : Phase) → s.worker w' ≡ busy o l ph → w' ≢ w
      busy_not w' o l ph e z = subst (λ (b : Bool). T (not (not b))) (ap is_idle (ap s.worker (sym z) ∙ e)) free

      still : (o : ℕ) → Runs s o ((ledger run).fate o) → Runs (begun s w op) o ((ledger run).fate o)
      still o (l, ph, e) = (l, ph, unfold begun in (put_other s.worker w here _ (busy_not _ o l ph e) ∙ e))

      L' : Ledger
      L' = ledger (Notes.started w op ∷ run)

      at : (w' : ℕ) → Same w' w → InLedger L' w' (put s.worker w here w')
      at w' (eq e) = subst (λ (x : Worker). InLedger L' w' x) (sym (put_same s.worker w here w' e))
          (put_same (ledger run).current w (length run) w' e ∙ sym A.now, ap (λ (g : Fate). g.lines) new, ap (λ (g : Fate). g.ending) new)
        where
          new : put (ledger run).fate (length run) (begins op w Notes.goes_on (length run)) s.now ≡ begins op w Notes.goes_on (length run)
          new = put_same (ledger run).fate (length run) _ s.now A.now
      at w' (ne e) = subst (λ (x : Worker). InLedger L' w' x) (sym (put_other s.worker w here w' e))
          (stays L' w' (put_other (ledger run).current w (length run) w' e) (s.worker w') refl (λ o l ph z. older w' o l ph _ z))

  -- worker w, in operation o, executes a line
  module _ (w o : ℕ) (l : List ℕ) (ph : Phase) (is : s.worker w ≡ busy o l ph) where
    its : InLedger (ledger run) w (busy o l ph)
    its = subst (λ (x : Worker). InLedger (ledger run) w x) is (A.worker w)

    abbrev new : Notes.Ending → Fate
    new e = continues ((ledger run).fate o) (line_number ph) e (length run)

    abbrev after : Notes.Ending → Ledger
    after e = record { fate = put (ledger run).fate o (new e); current = (ledger run).current }

    -- the entry of the step, whose operation is o
    entry : (d : Notes.Deed) (e : Notes.Ending) → ledger (Notes.stepped w (line_number ph) d e ∷ run) ≡ after e
    unfolding ledger entered
    entry d e = ap (λ (c : ℕ). record {
      fate = put (ledger run).fate c (continues ((ledger run).fate c) (line_number ph) e (length run));
      current = (ledger run).current;
    }) its.0

    lines_are : line_number ph ∷ ((ledger run).fate o).lines ≡ line_number ph ∷ l
    lines_are = ap (λ (l : List ℕ). line_number ph ∷ l) its.1

    -- another worker is in another operation
    apart : (w' o' : ℕ) (l' : List ℕ) (ph' : Phase) → s.worker w' ≡ busy o' l' ph' → w' ≢ w → o' ≢ o
    apart w' o' l' ph' e d z =
        d (sym (in_work w' o' l' ph' e).worker ∙ ap (λ (q : ℕ). (s.fate q).worker) z ∙ (in_work w o l ph is).worker)

    others : (e : Notes.Ending) (w' : ℕ) → w' ≢ w → InLedger (after e) w' (s.worker w')
    others e w' differ = stays (after e) w' refl (s.worker w') refl
        (λ o' l' ph' z. put_other (ledger run).fate o (new e) o' (apart w' o' l' ph' z differ))

    idle_after : (e : Notes.Ending) (w' : ℕ) → InLedger (after e) w' (put s.worker w idle w')
    idle_after e w' = put_all (λ (w' : ℕ) (x : Worker). InLedger (after e) w' x) s.worker w idle w' (λ z. tt) (others e w')

    -- another operation is run by another worker
    still : (y : Worker) (q : ℕ) → q ≢ o → Runs s q ((ledger run).fate q) → (l' : List ℕ) × (ph' : Phase) ×
        (put s.worker w y ((ledger run).fate q).worker ≡ busy q l' ph')
    still y q d (l', ph', e) =
        (l', ph', put_other s.worker w y ((ledger run).fate q).worker (λ z. d (ap in_of (sym e ∙ ap s.worker z ∙ is))) ∙ e)

    ended_tells : (x : ℕ) → Tells (new (Notes.answers x)) (ended (s.fate o) x s.now (line_number ph ∷ l))
    unfolding ended
    ended_tells x =
        record {
          operation = (A.fate o).operation;
          worker = (A.fate o).worker;
          done = λ d. (refl, lines_are, sym A.now);
          answered = λ x e. refl;
          refused = λ n d e. let z : ◌≡◌ {A = ℕ} 1 2 = ap ending_tag e in absurd (omega arith);
        }

    refused_tells : (n : ℕ) → Tells (new (Notes.ends_with n)) (turned_away (s.fate o) n s.now (line_number ph ∷ l))
    unfolding turned_away
    refused_tells n =
        record {
          operation = (A.fate o).operation;
          worker = (A.fate o).worker;
          done = λ d. absurd (true≢false (sym d));
          answered = λ x e. let z : ◌≡◌ {A = ℕ} 2 1 = ap ending_tag e in absurd (omega arith);
          refused = λ n' d e. (ap ending_number e, lines_are);
        }

    running_tells : Tells (new Notes.goes_on) (s.fate o)
    running_tells =
        record {
          operation = (A.fate o).operation;
          worker = (A.fate o).worker;
          done = λ d. absurd (true≢false (sym d ∙ (in_work w o l ph is).unset));
          answered = λ x e. let z : ◌≡◌ {A = ℕ} 0 1 = ap ending_tag e in absurd (omega arith);
          refused = λ n d e. let z : ◌≡◌ {A = ℕ} 0 2 = ap ending_tag e in absurd (omega arith);
        }

    -- both tables get a new fate at o
    both : (e : Notes.Ending) (f : Machine.Entry) → Tells (new e) f → (q : ℕ) →
        Tells (put (ledger run).fate o (new e) q) (put s.fate o f q)
    both e f t q = put_both (λ (q : ℕ) (g : Fate) (f : Machine.Entry). Tells g f) (ledger run).fate s.fate o (new e) f q (λ z. t)
        (λ z. A.fate q)

    -- the operation has ended, and the others run on
    no_longer : (e : Notes.Ending) → ending_tag e ≢ 0 → (q : ℕ) → (put (ledger run).fate o (new e) q).ending ≡ Notes.goes_on →
        (l' : List ℕ) × (ph' : Phase) × (put s.worker w idle (put (ledger run).fate o (new e) q).worker ≡ busy q l' ph')
    no_longer e t q =
        put_all (λ (q : ℕ) (g : Fate). g.ending ≡ Notes.goes_on → (l' : List ℕ) × (ph' : Phase) ×
        (put s.worker w idle g.worker ≡ busy q l' ph'))
        (ledger run).fate o (new e) q (λ z r. absurd (t (ap ending_tag r))) (λ z r. still idle q z (A.running q r))

    -- the same, of the ledger with its entry
    idle_told : (d : Notes.Deed) (e : Notes.Ending) (w' : ℕ) → InLedger (ledger (Notes.stepped w (line_number ph) d e ∷ run)) w'
        (put s.worker w idle w')
    idle_told d e = subst (λ (l' : Ledger). (w' : ℕ) → InLedger l' w' (put s.worker w idle w')) (sym (entry d e)) (idle_after e)

    over_told : (d : Notes.Deed) (e : Notes.Ending) → ending_tag e ≢ 0 → (q : ℕ) →
        ((ledger (Notes.stepped w (line_number ph) d e ∷ run)).fate q).ending ≡ Notes.goes_on → (l' : List ℕ) × (ph' : Phase)
        × (put s.worker w idle ((ledger (Notes.stepped w (line_number ph) d e ∷ run)).fate q).worker ≡ busy q l' ph')
    over_told d e t =
        subst (λ (l' : Ledger). (q : ℕ) → (l'.fate q).ending ≡ Notes.goes_on →
        (l'' : List ℕ) × (ph'' : Phase) × (put s.worker w idle (l'.fate q).worker ≡ busy q l'' ph'')) (sym (entry d e)) (no_longer e t)

    fate_told : (d : Notes.Deed) (e : Notes.Ending) (f : Machine.Entry) → Tells (new e) f → (q : ℕ) →
        Tells ((ledger (Notes.stepped w (line_number ph) d e ∷ run)).fate q) (put s.fate o f q)
    fate_told d e f t = subst (λ (l' : Ledger). (q : ℕ) → Tells (l'.fate q) (put s.fate o f q)) (sym (entry d e)) (both e f t)

    settled : (d : Notes.Deed) (e : Effect) (u : Comes) →
        Agrees (tick (settle w o (line_number ph ∷ l) (affect o s e) u)) (Notes.stepped w (line_number ph) d (ending u) ∷ run)
    unfolding tick settle affect
    settled d e (goes_on ph') =
        record {
          now = ap suc A.now;
          fate = subst (λ (l' : Ledger). (q : ℕ) → Tells (l'.fate q) (s.fate q)) (sym (entry d Notes.goes_on))
              (λ q. put_all (λ (q : ℕ) (g : Fate). Tells g (s.fate q)) (ledger run).fate o (new Notes.goes_on) q
              (λ z. subst (λ (q : ℕ). Tells (new Notes.goes_on) (s.fate q)) (sym z) running_tells) (λ z. A.fate q));
          worker = subst (λ (l' : Ledger). (w' : ℕ) → InLedger l' w' (put s.worker w next w')) (sym (entry d Notes.goes_on))
              (λ w'. put_all (λ (w' : ℕ) (x : Worker). InLedger (after Notes.goes_on) w' x) s.worker w next w'
              (λ z. (ap (ledger run).current z ∙ its.0, ap (λ (g : Fate). g.lines) mine ∙ lines_are, ap (λ (g : Fate). g.ending) mine))
              (others Notes.goes_on w'));
          running = subst (λ (l' : Ledger). (q : ℕ) → (l'.fate q).ending ≡ Notes.goes_on →
              (l'' : List ℕ) × (ph'' : Phase) × (put s.worker w next (l'.fate q).worker ≡ busy q l'' ph'')) (sym (entry d Notes.goes_on))
              (λ q. put_all (λ (q : ℕ) (g : Fate). g.ending ≡ Notes.goes_on →
              (l'' : List ℕ) × (ph'' : Phase) × (put s.worker w next g.worker ≡ busy q l'' ph'')) (ledger run).fate o (new Notes.goes_on) q
              (λ z r. (
                line_number ph ∷ l,
                ph',
                put_same s.worker w next ((ledger run).fate o).worker
                    ((A.fate o).worker ∙ (in_work w o l ph is).worker)
                    ∙ ap (λ (q : ℕ). busy q (line_number ph ∷ l) ph') (sym z),
              ))
              (λ z r. still next q z (A.running q r)));
        }
      where
        next : Worker
        next = busy o (line_number ph ∷ l) ph'

        mine : put (ledger run).fate o (new Notes.goes_on) o ≡ new Notes.goes_on
        mine = put_same (ledger run).fate o (new Notes.goes_on) o refl
    settled d e (ends_with n) =
        record {
          now = ap suc A.now;
          fate = fate_told d (Notes.ends_with n) _ (refused_tells n);
          worker = idle_told d (Notes.ends_with n);
          running = over_told d (Notes.ends_with n) (omega arith);
        }
    settled d e (answers_change x) =
        record {
          now = ap suc A.now;
          fate = fate_told d (Notes.answers x) _ (ended_tells x);
          worker = idle_told d (Notes.answers x);
          running = over_told d (Notes.answers x) (omega arith);
        }
    settled d e (answers x τ j) =
        record {
          now = ap suc A.now;
          fate = fate_told d (Notes.answers x) _ (ended_tells x);
          worker = idle_told d (Notes.answers x);
          running = over_told d (Notes.answers x) (omega arith);
        }

    -- it is abandoned
    stopped : Ledger
    stopped = record { fate = put (ledger run).fate o (stops ((ledger run).fate o)); current = (ledger run).current }

    stop_entry : (b : Bool) → ledger (Notes.abandoned w b ∷ run) ≡ stopped
    unfolding ledger entered stopped
    stop_entry b = ap (λ (c : ℕ). record { fate = put (ledger run).fate c (stops ((ledger run).fate c)); current = (ledger run).current }) its.0

    after_abandon : (b : Bool) → Agrees (tick (left_off s w o ph)) (Notes.abandoned w b ∷ run)
    unfolding tick left_off stopped
    after_abandon b = record {
      now = ap suc A.now;
      fate = subst (λ (l' : Ledger). (q : ℕ) → Tells (l'.fate q) (s.fate q)) (sym (stop_entry b))
          (λ q. put_all (λ (q : ℕ) (g : Fate). Tells g (s.fate q)) (ledger run).fate o (stops ((ledger run).fate o)) q
          (λ z. subst (λ (q : ℕ). Tells (stops ((ledger run).fate o)) (s.fate q)) (sym z) (record {
            operation = (A.fate o).operation;
            worker = (A.fate o).worker;
            done = λ d. absurd (true≢false (sym d ∙ (in_work w o l ph is).unset));
            answered = λ x e. let z : ◌≡◌ {A = ℕ} 3 1 = ap ending_tag e in absurd (omega arith);
            refused = λ n d e. let z : ◌≡◌ {A = ℕ} 3 2 = ap ending_tag e in absurd (omega arith);
          })) (λ z. A.fate q));
      worker = subst (λ (l' : Ledger). (w' : ℕ) → InLedger l' w' (put s.worker w idle w')) (sym (stop_entry b))
          (λ w'. put_all (λ (w' : ℕ) (x : Worker). InLedger stopped w' x) s.worker w idle w' (λ z. tt)
          (λ z. stays stopped w' refl (s.worker w') refl (λ o' l' ph' r. put_other (ledger run).fate o _ o' (apart w' o' l' ph' r z))));
      running = subst (λ (l' : Ledger). (q : ℕ) → (l'.fate q).ending ≡ Notes.goes_on →
          (l'' : List ℕ) × (ph'' : Phase) × (put s.worker w idle (l'.fate q).worker ≡ busy q l'' ph'')) (sym (stop_entry b))
          (λ q. put_all (λ (q : ℕ) (g : Fate). g.ending ≡ Notes.goes_on → (l'' : List ℕ) × (ph'' : Phase) × (put s.worker w idle g.worker ≡ busy q l'' ph''))
          (ledger run).fate o (stops ((ledger run).fate o)) q (λ z r. let y : ◌≡◌ {A = ℕ} 3 0 = ap ending_tag r in absurd (omega arith))
          (λ z r. still idle q z (A.running q r)));
    }

event_agrees : (s : Catalogue) (run : List Note) → Invariant s → Agrees s run → (e : Event) → Agrees (happens s e) (event_note s e ∷ run)
unfolding happens
event_agrees s run invariant A =
    event_cases s invariant (suc s.memory.limits.workers) (omega arith) (λ (x : Note) (s' : Catalogue). Agrees (tick s') (x ∷ run))
    (λ x q. after_quiet s invariant run A x)
    (λ v z p. after_register s invariant run A v z (found (node_to_take s.memory)))
    (λ w op b f p. after_start s invariant run A w op f)
    (λ w o l ph b e. settled s invariant run A w o l ph e (phase_deed s.memory ph) (line s.now s.memory ph).does
    (line s.now s.memory ph).comes)
    (λ w o l ph b e. after_abandon s invariant run A w o l ph e (holds_node ph)) (omega arith)

pub agrees : (limits : Limits) (es : List Event) → Agrees (after_events limits es) (machine_notes limits es)
unfolding after_events machine_notes fresh ledger
agrees limits [] =
    record {
      now = refl;
      worker = λ w. tt;
      running = λ o e. let z : ◌≡◌ {A = ℕ} 2 0 = ap ending_tag e in absurd (omega arith);
      fate = λ o. record {
        operation = refl;
        worker = refl;
        done = λ d. absurd (true≢false (sym d));
        answered = λ x e. let z : ◌≡◌ {A = ℕ} 2 1 = ap ending_tag e in absurd (omega arith);
        refused = λ n d e. absurd (d (ap ending_number (sym e)));
      };
    }
agrees limits (e ∷ es) = event_agrees (after_events limits es) (machine_notes limits es) (run_right limits es) (agrees limits es) e
