-- Demands 2 and 3, of `outcome`: of every history, and so for any words on which make was just accepted and every list of calls since in which no
-- make is accepted.
use Rattle.std.specs.Prelude.{◌≡◌, refl, ◌↔◌, ◌≢◌, Bool, ℕ, pred, ◌+◌, ◌<◌, length}
use Rattle.std.proofs.Math.Path.{ap, subst_refl, path_j}
use Rattle.std.proofs.Common.{sym, ◌∙◌, subst, arith}
use mathlib.Core.List.{List, ◌∷◌, map}
use Rattle.definitions.specs.declared.Answer.{Answer}
use Rattle.definitions.specs.Calls.{Call, outcome}
use Rattle.history.specs.Definition1.{Operation, register, v_read, v_cas, take_snapshot, read_snapshot, total}
use Rattle.history.specs.Notes.{
  Deed,
  Ending,
  goes_on,
  ends_with,
  Note,
  registered,
  started,
  stepped,
  abandoned,
  start_of,
  note_by,
  note,
  words_after,
  notes,
  start,
  RunCall,
  Run,
  History,
  nodes_in_use,
  snapshot,
  ledger,
}
use Rattle.history.specs.Effects.{effects}
use Rattle.history.specs.Statements.{In, fate_of, Free, Promises}
use Rattle.history.specs.Demands.{Least, numbers, StepNumbers, items_now, Asked, Applies, Demands}
use Rattle.history.proofs.Accepts.{register_starts_none, accepts}
use Rattle.history.proofs.AbandonTold as AbandonTold
use Rattle.history.proofs.Registers as Registers
use Rattle.history.proofs.LineEnds.{ends_45, ends_5, below_limit}
use Rattle.history.proofs.AnswersTold.{step_told, start_told, register_told}
use Rattle.history.proofs.Refusals.{refuses}
use Rattle.history.proofs.InWork.{always_steps}
use Rattle.history.specs.Machine.{Limits, Event, Catalogue, reply}
use Rattle.history.proofs.MachineNotes.{machine_note, machine_notes}
use Rattle.history.proofs.NotesOrder.{notes_order}
use Rattle.history.proofs.Promised.{promised}
use Rattle.reached.proofs.Run.{limits_of, sized_call}
use Rattle.reached.proofs.Histories.{ToldImage, told_image, machine, called_same, noted_same, formed, never_damaged, run_history, events_are}

-- the promises of equal notes have one order
abbrev AllPromised : List Note → Type 0
AllPromised l = Promises l (effects l)

one_order_moved : {l l' : List Note} (e : l ≡ l') (x : AllPromised l) → (subst AllPromised e x).one_order.order ≡ x.one_order.order
one_order_moved {l} e x = path_j (λ (l' : List Note) (e : l ≡ l'). (subst AllPromised e x).one_order.order ≡ x.one_order.order)
    (ap (λ (y : AllPromised l). y.one_order.order) (subst_refl AllPromised x)) e

module _ (p m n q c : ℕ) {now : List ℕ} {run : List Note} (history : History p m n q c now run) where
  abbrev limits : Limits
  limits = limits_of p m n q c

  abbrev I : ToldImage limits now run
  I = told_image p m n q c history

  abbrev es : List Event
  es = I.events

  abbrev state : Catalogue
  state = machine p m n q c history

  pub promises : Promises run (effects run)
  promises = subst AllPromised (sym I.told_is) (promised limits I.fit.items_in.1 I.fit.nodes_in.1 es)

  -- what holds of the machine's notes, and of its note of one more call, holds of these
  pub of_words : (P : Note → List Note → Type 0) (x : Call) → RunCall now x → P (machine_note state x) (machine_notes limits es) → P (note now x) run
  of_words P x k y =
      subst (P (note now x)) (sym I.told_is) (subst (λ (a : Note). P a (machine_notes limits es)) (sym (noted_same p m n q c history x k)) y)

  a_step : (w : ℕ) → RunCall now (Call.step w)
  a_step w = sized_call now (Call.step w) (omega arith) refl

  pub of_step : (P : Note → List Note → Type 0) (w : ℕ) → P (machine_note state (Call.step w)) (machine_notes limits es) → P (note now (Call.step w)) run
  of_step P w = of_words P (Call.step w) (a_step w)

  pub an_abandon : (w : ℕ) → RunCall now (Call.abandon w)
  an_abandon w = sized_call now (Call.abandon w) (omega arith) refl

  -- ---- starts

  of_start : (w : ℕ) (op : Operation) → RunCall now (start_of w op) →
      (note now (start_of w op) ≡ started w op) ↔ ((w < p) × Free run w × Asked run (effects run) q op)
  of_start w op k =
      of_words (λ (x : Note) (l : List Note). (x ≡ started w op) ↔ ((w < p) × Free l w × Asked l (effects l) q op)) (start_of w op) k (accepts limits es w op)

  no_register : (w i v s : ℕ) → note now (Call.register v s) ≢ started w (register i v s)
  unfolding note_by
  no_register w i v s = register_starts_none (outcome now (Call.register v s)).answer (outcome now (Call.register v s)).answer.value v s w (register i v s)

  pub accepted : (w : ℕ) (op : Operation) → (note now (start_of w op) ≡ started w op) ↔ ((w < p) × Free run w × Asked run (effects run) q op)
  accepted w (register i v s) = (λ e. absurd (no_register w i v s e), λ x. absurd x.2)
  accepted w (v_read i) = of_start w (v_read i) (sized_call now (Call.v_read w i) (omega arith) refl)
  accepted w (v_cas i old new) = of_start w (v_cas i old new) (sized_call now (Call.v_cas w i old new) (omega arith) refl)
  accepted w take_snapshot = of_start w take_snapshot (sized_call now (Call.take_snapshot w) (omega arith) refl)
  accepted w (read_snapshot i h) = of_start w (read_snapshot i h) (sized_call now (Call.read_snapshot w i h) (omega arith) refl)
  accepted w (total r h) = of_start w (total r h) (sized_call now (Call.total w r h) (omega arith) refl)

  -- ---- steps

  same_step : (w : ℕ) → note now (Call.step w) ≡ machine_note state (Call.step w)
  same_step w = noted_same p m n q c history (Call.step w) (a_step w)

  pub never_stuck : (o : ℕ) → (fate_of run o).ending ≡ goes_on →
      (line : ℕ) × (d : Deed) × (e : Ending) × (note now (Call.step (fate_of run o).worker) ≡ stepped (fate_of run o).worker line d e)
  never_stuck o b =
      subst (λ (l : List Note). (line : ℕ) × (d : Deed) × (e : Ending) × (note now (Call.step (fate_of l o).worker) ≡ stepped (fate_of l o).worker line d e))
      (sym I.told_is) (x.0, x.1, x.2, same_step (fate_of (machine_notes limits es) o).worker ∙ x.3)
    where
      x : (line : ℕ) × (d : Deed) × (e : Ending) × (machine_note state (Call.step (fate_of (machine_notes limits es) o).worker)
          ≡ stepped (fate_of (machine_notes limits es) o).worker line d e)
      x = always_steps limits es I.below o (sym (ap (λ (l : List Note). (fate_of l o).ending) I.told_is) ∙ b)

  -- ---- the numbers of an answer

  -- what the machine's note of a call says of its answer, the words' note says of theirs
  pub of_answer : (x : Call) → RunCall now x → (a : Answer) (y : Note) → note now x ≡ y → (machine_note state x ≡ y → reply state x ≡ a) →
      (outcome now x).answer ≡ a
  of_answer x k a y e told = (called_same p m n q c history x k).answer_is ∙ told (sym (noted_same p m n q c history x k) ∙ e)

  pub every_step : (w line : ℕ) (d : Deed) (e : Ending) → note now (Call.step w) ≡ stepped w line d e →
      StepNumbers e (length (line ∷ (fate_of run ((ledger run).current w)).lines)) (outcome now (Call.step w)).answer
  every_step w line d e x =
      subst (λ (l : List Note). StepNumbers e (length (line ∷ (fate_of l ((ledger l).current w)).lines)) (outcome now (Call.step w)).answer) (sym I.told_is)
      (subst (λ (a : Answer). StepNumbers e (length (line ∷ (fate_of (machine_notes limits es) ((ledger (machine_notes limits es)).current w)).lines)) a)
      (sym (called_same p m n q c history (Call.step w) (a_step w)).answer_is)
      (step_told limits es w line d e (sym (noted_same p m n q c history (Call.step w) (a_step w)) ∙ x)))

  pub every_start : (w : ℕ) (op : Operation) → note now (start_of w op) ≡ started w op → (outcome now (start_of w op)).answer ≡ numbers 2 0 0
  every_start w (register i v s) e = absurd (no_register w i v s e)
  every_start w (v_read i) e = of_answer _ (sized_call now (Call.v_read w i) (omega arith) refl) _ _ e (start_told state w (v_read i))
  every_start w (v_cas i old new) e = of_answer _ (sized_call now (Call.v_cas w i old new) (omega arith) refl) _ _ e (start_told state w (v_cas i old new))
  every_start w take_snapshot e = of_answer _ (sized_call now (Call.take_snapshot w) (omega arith) refl) _ _ e (start_told state w take_snapshot)
  every_start w (read_snapshot i h) e =
      of_answer _ (sized_call now (Call.read_snapshot w i h) (omega arith) refl) _ _ e (start_told state w (read_snapshot i h))
  every_start w (total r h) e = of_answer _ (sized_call now (Call.total w r h) (omega arith) refl) _ _ e (start_told state w (total r h))

  pub refused : (x : Call) (k : ℕ) → RunCall now x → ((outcome now x).answer ≡ numbers (16 + k) 0 0) ↔ Least (Applies run (effects run) p m n q x) k
  refused x k call =
      subst (λ (l : List Note). ((outcome now x).answer ≡ numbers (16 + k) 0 0) ↔ Least (Applies l (effects l) p m n q x) k) (sym I.told_is)
      (subst (λ (a : Answer). (a ≡ numbers (16 + k) 0 0) ↔ Least (Applies (machine_notes limits es) (effects (machine_notes limits es)) p m n q x) k)
      (sym (called_same p m n q c history x call).answer_is) (refuses limits es x k))

  -- Demands 2 and 3 of every history.
  unfoldable pub demands : Demands p m n q c now run
  demands =
      record {
        never_2 = never_damaged p m n q c history;
        formed = formed p m n q c history;
        effects = effects run;
        promises = promises;
        accepted = accepted;
        registers = λ v s k. of_words (λ (x : Note) (l : List Note). (x ≡ registered (items_now l (effects l)) v s)
            ↔ ((v < q) × (items_now l (effects l) < m) × (nodes_in_use l < n))) (Call.register v s) k (Registers.registers limits es v s);
        no_node = λ w d e. of_step (λ (x : Note) (l : List Note). x ≡ stepped w 45 d e → (e ≡ ends_with 11) ↔ (nodes_in_use l ≡ n)) w
            (ends_45 limits es (Call.step w) w d e);
        handles = λ h t. subst (λ (l : List Note). In (snapshot t h) (effects l) → h < c) (sym I.told_is) (below_limit limits es h t);
        full = λ w d e. of_step (λ (x : Note) (l : List Note). x ≡ stepped w 5 d e → (e ≡ ends_with 12) ↔ ((t : ℕ) × In (snapshot t (pred c)) (effects l))) w
            (ends_5 limits es I.fit.counter_in.0 (Call.step w) w d e);
        never_stuck = never_stuck;
        every_start = every_start;
        abandons = λ w. of_words (λ (x : Note) (l : List Note). ((held : Bool) × (x ≡ abandoned w held)) ↔ ((w < p) × (Free l w → ⊥))) (Call.abandon w)
            (an_abandon w) (AbandonTold.abandons limits es w);
        frees = λ w held. of_words (λ (x : Note) (l : List Note). x ≡ abandoned w held → Free (abandoned w held ∷ l) w) (Call.abandon w) (an_abandon w)
            (AbandonTold.frees limits es w held);
        every_abandon = λ w held e. of_answer (Call.abandon w) (an_abandon w) _ _ e (AbandonTold.abandon_told limits es w held);
        every_register = λ i v s k e. of_answer (Call.register v s) k _ _ e (register_told state i v s);
        every_step = every_step;
        refused = refused;
      }

  -- its order is that of the machine's run
  order_kept : demands.promises.one_order.order ≡ (notes_order limits es).order
  unfolding demands promises promised
  order_kept = one_order_moved (sym I.told_is) (promised limits I.fit.items_in.1 I.fit.nodes_in.1 es)

module _ (ws : List ℕ) (p m n q c : ℕ) (made : (outcome ws (Call.make p m n q c)).answer.code ≡ 2) (cs : List Call) (run : Run (start ws p m n q c) cs) where
  -- Demands 2 and 3 of every list of calls,
  unfoldable pub run_demands : Demands p m n q c (words_after (start ws p m n q c) cs) (notes (start ws p m n q c) cs)
  run_demands = demands p m n q c (run_history ws p m n q c made cs run)

  -- whose order is that of the machine's run
  pub run_order : run_demands.promises.one_order.order ≡ (notes_order (limits_of p m n q c) (map Event.called cs)).order
  unfolding run_demands
  run_order = order_kept p m n q c (run_history ws p m n q c made cs run)
      ∙ ap (λ (l : List Event). (notes_order (limits_of p m n q c) l).order) (events_are ws p m n q c made cs run)
