-- One who sees the words notes of every call what the machine's notes say: the line that the worker executed, and its deed.
use Rattle.std.specs.Prelude.{ℕ, zero, suc, pred, ◌+◌, ◌<◌, ◌≤◌, Bool, true, cond, not, List, ◌≡◌, ltb, length}
use Rattle.std.proofs.Math.Bool.{false}
use Rattle.std.proofs.Math.Path.{refl, ap, sym, subst}
use Rattle.std.proofs.Common.{ap₂, ◌∙◌, arith, lt-ltb, le-ltb, le-leb, eq-eqb, ne_eqb}
use Rattle.std.proofs.Math.Dec.{eqb}
use Rattle.std.proofs.lemmas.Bool.{lt-leb}
use Rattle.definitions.specs.declared.Answer.{Answer}
use Rattle.definitions.specs.Cells.{Cells, cells_of, counter, phase, item, node, new_node, seen, head, value, stamp}
use Rattle.definitions.specs.Answers.{refusal}
use Rattle.definitions.specs.Phases.{row_of, table}
use Rattle.definitions.specs.Damage.{TBD}
use Rattle.definitions.specs.Calls.{Call, outcome}
use Rattle.history.specs.Tools.{Split, split}
use Rattle.history.specs.Notes.{Deed, fetches, finds, moves, step_note, holds_at, if_accepted, deed_at, note_by, note, RunCall}
use Rattle.history.specs.Notes as Notes
use Rattle.history.proofs.MachineNotes.{fetch, phase_deed, worker_line, worker_deed, machine_note}
use Rattle.history.specs.Machine.{Memory, Then, then_39, then_43, then_48, then_52, then_34, then_total_34, Phase, line_37, line_39, line_41, line_43, line_45, line_46, line_48, line_50, line_51, line_52, line_5, line_6, line_32, line_34, total_32, total_34, closing, line_20, line_21, line_22, helped_item, line_number, Worker, idle, busy, Catalogue, Move, refused, stepping, abandoning, move, reply}
use Rattle.reached.specs.Parts.{shared_of, local_of}
use Rattle.reached.specs.Grows.{Known, then_item}
use Rattle.reached.specs.Image.{Owner, Kept, BusyImage, Holds, phase_number, help_number, ThenKept}
use Rattle.reached.proofs.Ready.{Standing, line_same}
use Rattle.reached.proofs.LineImage.{head_test}
use Rattle.reached.proofs.Whole.{FewSteps, CatalogueImage}
use Rattle.reached.proofs.Step.{standing, is_busy, knows, has}
use Rattle.reached.proofs.Run.{WordsImage, every_call}

module _ (f : Cells) (m : Memory) (own : ℕ → Owner) (w : ℕ) (X : Standing f m own w) where
  -- a version's stamp is TBD exactly where it is not valid
  stamp_test : (i j : ℕ) → i < m.items → j < (m.item i).versions → eqb (f (stamp ((m.item i).node j))) TBD ≡ not (ltb j (m.item i).valid)
  stamp_test i j l p = at (split j (m.item i).valid)
    where
      at : Split j (m.item i).valid → eqb (f (stamp ((m.item i).node j))) TBD ≡ not (ltb j (m.item i).valid)
      at (Split.less q) =
          ne_eqb (f (stamp ((m.item i).node j))) TBD (λ z. absurd
          (omega (arith, X.shared.valid_stamp i j l q, (X.well.item_well i l).past j q, X.well.counter_in, X.below_TBD)))
          ∙ sym (ap not (lt-ltb j (m.item i).valid q))
      at (Split.more q) = eq-eqb (f (stamp ((m.item i).node j))) TBD (X.shared.no_stamp i j l q p) ∙ sym (ap not (le-ltb j (m.item i).valid q))

  not_not : (b : Bool) → not (not b) ≡ b
  not_not true = refl
  not_not false = refl

  other_way : {A : Type 0} (b : Bool) (x y : A) → cond (not b) x y ≡ cond b y x
  other_way true x y = refl
  other_way false x y = refl

  fetch_same : (i : ℕ) → i < m.items → f (item w) ≡ i → fetches (f (item w)) (not (eqb (f (stamp (f (head (f (item w)))))) TBD)) ≡ fetch m i
  fetch_same i l e =
      ap₂ fetches e
      (ap not (ap (λ (y : ℕ). eqb (f (stamp y)) TBD) (ap (λ (i : ℕ). f (head i)) e ∙ X.shared.head_is i l)
      ∙ stamp_test i (pred (m.item i).versions) l (omega (arith, (X.well.item_well i l).some, (X.well.item_well i l).few)))
      ∙ not_not (ltb (pred (m.item i).versions) (m.item i).valid))

  finds_same : (c : Then) (j : ℕ) → Kept m.item (local_of f w) (line_20 c j) → Known m (line_20 c j)
      → finds (not (eqb (f (stamp (f (node w)))) TBD)) ≡ phase_deed m (line_20 c j)
  finds_same c j k z =
      ap finds (ap not (ap (λ (y : ℕ). eqb (f (stamp y)) TBD) k.1 ∙ stamp_test (helped_item c) j (then_item m c z.0) z.1)
      ∙ not_not (ltb j (m.item (helped_item c)).valid))

  stamps_same : (c : Then) (j n r : ℕ) → Kept m.item (local_of f w) (line_22 c j n r) → Known m (line_22 c j n r) → f (item w) ≡ helped_item c
      → cond (eqb (f (stamp (f (node w)))) TBD) (Notes.stamps (f (item w))) Notes.nothing ≡ phase_deed m (line_22 c j n r)
  stamps_same c j n r k z e =
      ap₂ (λ (b : Bool) (d : Deed). cond b d Notes.nothing) (ap (λ (y : ℕ). eqb (f (stamp y)) TBD) k.1 ∙ stamp_test (helped_item c) j l z.1.there)
      (ap Notes.stamps e)
      ∙ other_way (ltb j (m.item (helped_item c)).valid) (Notes.stamps (helped_item c)) Notes.nothing
    where
      l : helped_item c < m.items
      l = then_item m c z.0

  publishes_same : (i x y g j v : ℕ) → Kept m.item (local_of f w) (line_46 i x y g j v) → Known m (line_46 i x y g j v)
      → Holds own (shared_of f) m.item w (line_46 i x y g j v)
      → cond (eqb (f (head (f (item w)))) (f (node w))) (Notes.publishes (f (item w)) (f (value (f (new_node w))))) Notes.nothing ≡ phase_deed m
      (line_46 i x y g j v)
  publishes_same i x y g j v k z h =
      ap₂ (λ (b : Bool) (d : Deed). cond b d Notes.nothing)
      (head_test f m own w X 0 0 (f (Rattle.definitions.specs.Cells.steps w)) refl i j z.0.item_in
      (omega (arith, z.1, (X.well.item_well i z.0.item_in).few)) k.0.item_is k.1)
      (ap₂ Notes.publishes k.0.item_is (ap (λ (y : ℕ). f (value y)) k.2 ∙ h.value_is))

  moves_same : (c r : ℕ) → Kept m.item (local_of f w) (line_6 c r)
      → cond (eqb (f counter) (f (seen w))) (moves (f counter)) Notes.nothing ≡ phase_deed m (line_6 c r)
  moves_same c r k = ap₂ (λ (b : Bool) (d : Deed). cond b d Notes.nothing) (ap₂ eqb X.shared.counter_is k) (ap moves X.shared.counter_is)

  -- a help's line 20 tells what it found, and line 21 is no deed
  deed_20 : (c : Then) → deed_at (row_of (help_number c)).line f w ≡ finds (not (eqb (f (stamp (f (node w)))) TBD))
  unfolding row_of table
  deed_20 (then_39 i g) = refl
  deed_20 (then_43 i x y g) = refl
  deed_20 (then_48 i x y) = refl
  deed_20 (then_52 i x y g) = refl
  deed_20 (then_34 i h g) = refl
  deed_20 (then_total_34 q h n i u g) = refl

  quiet_21 : (c : Then) → deed_at (row_of (help_number c + 1)).line f w ≡ Notes.nothing
  unfolding row_of table
  quiet_21 (then_39 i g) = refl
  quiet_21 (then_43 i x y g) = refl
  quiet_21 (then_48 i x y) = refl
  quiet_21 (then_52 i x y g) = refl
  quiet_21 (then_34 i h g) = refl
  quiet_21 (then_total_34 q h n i u g) = refl

  deed_22 : (c : Then) → deed_at (row_of (help_number c + 2)).line f w ≡ cond (eqb (f (stamp (f (node w)))) TBD)
      (Notes.stamps (f (item w))) Notes.nothing
  unfolding row_of table
  deed_22 (then_39 i g) = refl
  deed_22 (then_43 i x y g) = refl
  deed_22 (then_48 i x y) = refl
  deed_22 (then_52 i x y g) = refl
  deed_22 (then_34 i h g) = refl
  deed_22 (then_total_34 q h n i u g) = refl

  kept_item : (c : Then) → ThenKept (local_of f w) c → f (item w) ≡ helped_item c
  kept_item (then_39 i g) k = k
  kept_item (then_43 i x y g) k = k.item_is
  kept_item (then_48 i x y) k = k.item_is
  kept_item (then_52 i x y g) k = k.item_is
  kept_item (then_34 i h g) k = k.item_is
  kept_item (then_total_34 q h n i u g) k = k.item_is

  deed_same : (ph : Phase) → Kept m.item (local_of f w) ph → Known m ph → Holds own (shared_of f) m.item w ph
      → deed_at (row_of (phase_number ph)).line f w ≡ phase_deed m ph
  unfolding row_of table
  deed_same (line_37 i) k z h = fetch_same i z k
  deed_same (line_39 i g j) k z h = refl
  deed_same (line_41 i x y) k z h = fetch_same i z.item_in k.item_is
  deed_same (line_43 i x y g j) k z h = refl
  deed_same (line_45 i x y g j) k z h = refl
  deed_same (line_46 i x y g j v) k z h = publishes_same i x y g j v k z h
  deed_same (line_48 i x y j) k z h = refl
  deed_same (line_50 i x y g v) k z h = refl
  deed_same (line_51 i x y g) k z h = refl
  deed_same (line_52 i x y g j) k z h = refl
  deed_same line_5 k z h = refl
  deed_same (line_6 c r) k z h = moves_same c r k
  deed_same (line_32 i a) k z h = fetch_same i z.item_in k.item_is
  deed_same (line_34 i a g j x) k z h = refl
  deed_same (total_32 q a n i u) k z h = fetch_same i (omega (arith, z.1, z.0.noted_in)) k.item_is
  deed_same (total_34 q a n i u g j x) k z h = refl
  deed_same (closing q a n u) k z h = refl
  deed_same (line_20 c j) k z h = deed_20 c ∙ finds_same c j k z
  deed_same (line_21 c j) k z h = quiet_21 c
  deed_same (line_22 c j n r) k z h = deed_22 c ∙ stamps_same c j n r k z (kept_item c k.0)

-- The note of a step that was refused does not see the worker.
step_refused : (w line line' : ℕ) (d d' : Deed) (number : ℕ) → 3 ≤ number → number ≤ 5
    → step_note w line d (refusal number 0) ≡ step_note w line' d' (refusal number 0)
step_refused w line line' d d' (suc (suc (suc zero))) a b = refl
step_refused w line line' d d' (suc (suc (suc (suc zero)))) a b = refl
step_refused w line line' d d' (suc (suc (suc (suc (suc zero))))) a b = refl
step_refused w line line' d d' zero a b = absurd (omega arith)
step_refused w line line' d d' (suc zero) a b = absurd (omega arith)
step_refused w line line' d d' (suc (suc zero)) a b = absurd (omega arith)
step_refused w line line' d d' (suc (suc (suc (suc (suc (suc n)))))) a b = absurd (omega arith)

-- What the words show of a step is what the machine's worker does.
step_same : (f : Cells) (s : Catalogue) (Z : CatalogueImage f s) → FewSteps s.worker → (w : ℕ)
    → step_note w (row_of (f (phase w))).line (deed_at (row_of (f (phase w))).line f w) (reply s (Call.step w)) ≡ step_note w (worker_line (s.worker w))
    (worker_deed s.memory (s.worker w)) (reply s (Call.step w))
step_same f s Z F w = at (split w s.memory.limits.workers) (s.worker w) refl
  where
    Goal : Worker → Answer → Type 0
    Goal v a = step_note w (row_of (f (phase w))).line (deed_at (row_of (f (phase w))).line f w) a ≡ step_note w (worker_line v) (worker_deed s.memory v) a

    moved_3 : s.memory.limits.workers ≤ w → move s (Call.step w) ≡ refused s 3
    moved_3 l = unfold move stepping in rw (le-leb s.memory.limits.workers w l)

    moved_5 : w < s.memory.limits.workers → s.worker w ≡ idle → move s (Call.step w) ≡ refused s 5
    moved_5 l e = unfold move stepping in rw (lt-leb s.memory.limits.workers w l, e)

    refuses_3 : s.memory.limits.workers ≤ w → reply s (Call.step w) ≡ refusal 3 0
    refuses_3 l = unfold reply in ap (λ (y : Move). y.answer) (moved_3 l)

    refuses_5 : w < s.memory.limits.workers → s.worker w ≡ idle → reply s (Call.step w) ≡ refusal 5 0
    refuses_5 l e = unfold reply in ap (λ (y : Move). y.answer) (moved_5 l e)

    refused_note : (v : Worker) (number : ℕ) → 3 ≤ number → number ≤ 5 → Goal v (refusal number 0)
    refused_note v number a b = step_refused w (row_of (f (phase w))).line (worker_line v) (deed_at (row_of (f (phase w))).line f w)
        (worker_deed s.memory v) number a b

    at : Split w s.memory.limits.workers → (v : Worker) → s.worker w ≡ v → Goal (s.worker w) (reply s (Call.step w))
    at (Split.more l) v e = subst (λ (a : Answer). Goal (s.worker w) a) (sym (refuses_3 l)) (refused_note (s.worker w) 3 (omega arith) (omega arith))
    at (Split.less l) idle e = subst (λ (a : Answer). Goal (s.worker w) a) (sym (refuses_5 l e)) (refused_note (s.worker w) 5 (omega arith) (omega arith))
    at (Split.less l) (busy o ls ph) e =
        subst (λ (v : Worker). Goal v (reply s (Call.step w))) (sym e)
        (subst (λ (p : ℕ). step_note w (row_of p).line (deed_at (row_of p).line f w) (reply s (Call.step w)) ≡ step_note w (line_number ph)
        (phase_deed s.memory ph) (reply s (Call.step w))) (sym B.phase_is)
        (ap₂ (λ (x : ℕ) (d : Deed). step_note w x d (reply s (Call.step w))) (line_same ph)
        (deed_same f s.memory Z.own w (standing f s Z w l o ls ph e (F w o ls ph e)) ph B.kept (knows f s Z w l o ls ph e (F w o ls ph e))
        (has f s Z w l o ls ph e (F w o ls ph e)))))
      where
        B : BusyImage s.memory.item (local_of f w) (length ls) ph
        B = is_busy f s Z w l o ls ph e (F w o ls ph e)

-- Of an abandoned worker they show the line that it stood at.
abandon_same : (f : Cells) (s : Catalogue) (Z : CatalogueImage f s) → FewSteps s.worker → (w : ℕ)
    → if_accepted (reply s (Call.abandon w)) (Notes.abandoned w (holds_at (row_of (f (phase w))).line))
    ≡ if_accepted (reply s (Call.abandon w)) (Notes.abandoned w (holds_at (worker_line (s.worker w))))
abandon_same f s Z F w = at (split w s.memory.limits.workers) (s.worker w) refl
  where
    Goal : Worker → Answer → Type 0
    Goal v a = if_accepted a (Notes.abandoned w (holds_at (row_of (f (phase w))).line)) ≡ if_accepted a (Notes.abandoned w (holds_at (worker_line v)))

    moved_3 : s.memory.limits.workers ≤ w → move s (Call.abandon w) ≡ refused s 3
    moved_3 l = unfold move abandoning in rw (le-leb s.memory.limits.workers w l)

    moved_5 : w < s.memory.limits.workers → s.worker w ≡ idle → move s (Call.abandon w) ≡ refused s 5
    moved_5 l e = unfold move abandoning in rw (lt-leb s.memory.limits.workers w l, e)

    refused_note : (number : ℕ) → move s (Call.abandon w) ≡ refused s number → eqb (16 + number) 2 ≡ false → Goal (s.worker w) (reply s (Call.abandon w))
    refused_note number e d = subst (λ (a : Answer). Goal (s.worker w) a) (sym replies) (rw d)
      where
        replies : reply s (Call.abandon w) ≡ refusal number 0
        replies = unfold reply in ap (λ (y : Move). y.answer) e

    at : Split w s.memory.limits.workers → (v : Worker) → s.worker w ≡ v → Goal (s.worker w) (reply s (Call.abandon w))
    at (Split.more l) v e = refused_note 3 (moved_3 l) refl
    at (Split.less l) idle e = refused_note 5 (moved_5 l e) refl
    at (Split.less l) (busy o ls ph) e =
        ap (λ (k : ℕ). if_accepted (reply s (Call.abandon w)) (Notes.abandoned w (holds_at k)))
        (ap (λ (k : ℕ). (row_of k).line) (is_busy f s Z w l o ls ph e (F w o ls ph e)).phase_is ∙ line_same ph ∙ sym (ap worker_line e))

pub note_same : (ws : List ℕ) (s : Catalogue) → WordsImage ws s → FewSteps s.worker → (x : Call) → RunCall ws x → note ws x ≡ machine_note s x
note_same ws s U F x t = at x (every_call ws s U F x t).answer_is
  where
    at : (x : Call) → (outcome ws x).answer ≡ reply s x → note ws x ≡ machine_note s x
    at (Call.make p m n q c) e = unfold note_by machine_note in refl
    at (Call.register v z) e = unfold note_by machine_note in rw e
    at (Call.v_read w i) e = unfold note_by machine_note in rw e
    at (Call.v_cas w i x y) e = unfold note_by machine_note in rw e
    at (Call.take_snapshot w) e = unfold note_by machine_note in rw e
    at (Call.read_snapshot w i h) e = unfold note_by machine_note in rw e
    at (Call.total w q h) e = unfold note_by machine_note in rw e
    at (Call.step w) e = unfold note_by machine_note in rw e (step_same (cells_of ws) s U.image F w)
    at (Call.abandon w) e = unfold note_by machine_note in rw e (abandon_same (cells_of ws) s U.image F w)
