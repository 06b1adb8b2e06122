-- A busy worker's abandon is not refused, and writes what the machine does.
use Rattle.std.specs.Prelude.{ℕ, ◌<◌, ◌≤◌, Bool, false, ◌&&◌, List, ◌≡◌, eqb}
use Rattle.std.proofs.Math.Path.{refl, subst}
use Rattle.std.proofs.Common.{ap, sym, ◌∙◌, arith, le-leb, ne_eqb}
use Rattle.std.proofs.lemmas.Bool.{lt-leb}
use Rattle.definitions.specs.Cells.{Cells, phase, workers}
use Rattle.definitions.specs.Answers.{Outcome, accepts, accepted, refused}
use Rattle.definitions.specs.Phases.{row_of}
use Rattle.definitions.specs.Damage.{keeps_new_node}
use Rattle.definitions.specs.Lines.{returned_node}
use Rattle.definitions.specs.Calls.{Call, no_worker, holds_node, abandoning}
use Rattle.cells.specs.Update.{after, Proper}
use Rattle.history.specs.Tools.{Split, split}
use Rattle.history.specs.Machine.{Found, no_node, node, Phase, Worker, idle, busy, Catalogue, Move, move, left, held_node, left_off}
use Rattle.history.specs.Machine as machine
use Rattle.reached.specs.Parts.{shared_of, local_of}
use Rattle.reached.specs.Sound.{StepsWell}
use Rattle.reached.specs.Image.{phase_number, WorkerImage}
use Rattle.reached.proofs.Nodes.{held_below}
use Rattle.reached.proofs.Ready.{returned_words}
use Rattle.reached.proofs.Whole.{FewSteps, CatalogueImage, CallImage}
use Rattle.reached.proofs.Step.{standing, is_busy, has, steps_well, refused_image}
use Rattle.reached.proofs.Start.{worker_sound, MoveImage, moves}
use Rattle.reached.proofs.Abandon.{HeldFacts, held_facts, abandon_writes, proper, is_node, holds_is, returned_if_held_is, left_image}

module _ (f : Cells) (s : Catalogue) (Z : CatalogueImage f s) (F : FewSteps s.worker) (w : ℕ) (l : w < s.memory.limits.workers) (o : ℕ) (ls : List ℕ) (ph : Phase)
    (e : s.worker w ≡ busy o ls ph) where
  R : StepsWell (phase_number ph) f w
  R = steps_well f s Z w l o ls ph e (F w o ls ph e)

  x : HeldFacts Z.own w (local_of f w) (held_node ph)
  x = held_facts Z.own (shared_of f) s.memory.item w (local_of f w) ph (has f s Z w l o ls ph e (F w o ls ph e)) (is_busy f s Z w l o ls ph e (F w o ls ph e)).kept

  held_sound : (g : Found) → HeldFacts Z.own w (local_of f w) g → is_node g && returned_node f w ≡ false
  held_sound no_node x = refl
  held_sound (node y) x =
      returned_words f s.memory Z.own w (standing f s Z w l o ls ph e (F w o ls ph e))
      (omega (arith, held_below s.memory (shared_of f) Z.own Z.shared y w x.0, Z.shared.used_are, x.1))

  in_range : no_worker f w ≡ false
  in_range = lt-leb (f workers) w (omega (arith, Z.header.workers_are))

  at_work : eqb (f (phase w)) 0 ≡ false
  at_work = ne_eqb (f (phase w)) 0 (λ z. absurd (omega (arith, R.at_phase, R.known.0)))

  holds_same : holds_node f w ≡ is_node (held_node ph)
  holds_same = ap (λ (v : ℕ). keeps_new_node (row_of v)) R.at_phase ∙ holds_is ph

  returns : holds_node f w && returned_node f w ≡ false
  returns = ap (λ (b : Bool). b && returned_node f w) holds_same ∙ held_sound (held_node ph) x

  pub abandon_is : abandoning f w ≡ accepts 0 (abandon_writes f w (held_node ph))
  unfolding abandoning
  abandon_is = rw (in_range, worker_sound f s Z F w l (s.worker w) refl, at_work, returns) (ap (accepts 0) (returned_if_held_is f w ph Z.own R.at_phase x))

  pub abandon_image : CatalogueImage (after f (abandoning f w).writes) (left_off s w o ph)
  abandon_image = rw abandon_is (left_image f s Z w l o ls ph e)

  moved : move s (Call.abandon w) ≡ record { answer = accepted 0; leaves = left_off s w o ph }
  moved = unfold move machine.abandoning left in rw (lt-leb s.memory.limits.workers w l, e)

  busy_abandon : CallImage f s (Call.abandon w) (abandoning f w)
  busy_abandon =
      moves f s (Call.abandon w) (abandoning f w)
      (subst (λ (y : Move). MoveImage f s (abandoning f w) y) (sym moved) (record {
        answer_is = ap (λ (u : Outcome). u.answer) abandon_is;
        proper = subst (λ (u : Outcome). Proper s.memory.limits.workers s.memory.limits.items s.memory.limits.nodes u.writes) (sym abandon_is)
            (proper f s Z w l o ls ph e (held_node ph) refl x);
        image = abandon_image;
      }))

-- Abandon of any worker.
pub abandon_call : (f : Cells) (s : Catalogue) (Z : CatalogueImage f s) → FewSteps s.worker → (w : ℕ) → CallImage f s (Call.abandon w) (abandoning f w)
abandon_call f s Z F w = at (split w s.memory.limits.workers)
  where
    machine_3 : s.memory.limits.workers ≤ w → move s (Call.abandon w) ≡ machine.refused s 3
    machine_3 l = unfold move machine.abandoning in rw (le-leb s.memory.limits.workers w l)

    code_3 : s.memory.limits.workers ≤ w → abandoning f w ≡ refused 3
    code_3 l = unfold abandoning in rw (le-leb (f workers) w (omega (arith, Z.header.workers_are)))

    machine_5 : w < s.memory.limits.workers → s.worker w ≡ idle → move s (Call.abandon w) ≡ machine.refused s 5
    machine_5 l e = unfold move machine.abandoning in rw (lt-leb s.memory.limits.workers w l, e)

    code_5 : w < s.memory.limits.workers → f (phase w) ≡ 0 → abandoning f w ≡ refused 5
    code_5 l e = unfold abandoning in rw (lt-leb (f workers) w (omega (arith, Z.header.workers_are)), e)

    by_worker : w < s.memory.limits.workers → (v : Worker) → s.worker w ≡ v → CallImage f s (Call.abandon w) (abandoning f w)
    by_worker l idle e =
        subst (λ (u : Outcome). CallImage f s (Call.abandon w) u)
        (sym (code_5 l (subst (λ (v : Worker). WorkerImage s.memory.item (local_of f w) v) e (Z.worker_is w l))))
        (refused_image f s Z (Call.abandon w) 5 (machine_5 l e))
    by_worker l (busy o ls ph) e = busy_abandon f s Z F w l o ls ph e

    at : Split w s.memory.limits.workers → CallImage f s (Call.abandon w) (abandoning f w)
    at (Split.less l) = by_worker l (s.worker w) refl
    at (Split.more l) = subst (λ (u : Outcome). CallImage f s (Call.abandon w) u) (sym (code_3 l)) (refused_image f s Z (Call.abandon w) 3 (machine_3 l))
