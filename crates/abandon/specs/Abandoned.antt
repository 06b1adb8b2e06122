-- What an abandon knows of a busy worker whose record is not damaged, by whether it holds a node.
use Rattle.std.specs.Prelude.{ℕ, ◌<◌, ◌≤◌, ◌≡◌, Bool, true, false, cond, ◌&&◌, List, [], ◌∷◌, ◌++◌, get_or}
use Rattle.std.proofs.Common.{ap, sym, ◌∙◌, arith}
use Rattle.definitions.specs.declared.Answer.{Answer}
use Rattle.definitions.specs.declared.PhaseRow.{PhaseRow}
use Rattle.definitions.specs.Cells.{Cells, Assignment, cells_of, nodes_offset, phase, written, cleared}
use Rattle.definitions.specs.Answers.{◌⇒◌, unless, accepts}
use Rattle.definitions.specs.Phases.{row_of}
use Rattle.definitions.specs.Damage.{arguments_damaged, kept_damaged, keeps_new_node, running_damaged, worker_damaged}
use Rattle.definitions.specs.Promises.{Met}
use Rattle.tables.specs.Ranges.{none_of}
use Rattle.endings.specs.Stepped.{CanReturn}
use Rattle.endings.specs.Laws.{written_append}
use Rattle.facts.specs.Facts.{Header, running_is, new_node_used}

-- The test of a running record, at the phase's row, is the worker's damage.
pub damage_told : (m : Cells) (w : ℕ) {v t : Bool} → m (phase w) ≤ 35 → (m (phase w) ≡ 0 → ⊥)
    → t ≡ running_damaged (row_of (m (phase w))) m w → t ≡ v → worker_damaged m w ≡ v
damage_told m w known busy d v = running_is m w known busy ∙ sym d ∙ v

-- A row that holds a node, where the record is not damaged: the node can be given back.
pub can_give_back : (ws : List ℕ) (w : ℕ) (r : PhaseRow) {s t : Bool} → Header ws → w < get_or ws 0 0
    → s ≡ running_damaged r (cells_of ws) w → s ≡ false → t ≡ keeps_new_node r → t ≡ true → CanReturn (nodes_offset ws) w ws
unfolding running_damaged
can_give_back ws w r h there d passed k holds =
    let m = cells_of ws in
    let kept = none_of (arguments_damaged r m w ∷ kept_damaged r m w ∷ []) 1 (sym d ∙ passed) in
    record {
      worker = omega (arith, there);
      nodes = h.long;
      used = h.used;
      given_back = h.given_back;
      few_nodes = h.few_nodes;
      new_node = new_node_used r m w kept (sym k ∙ holds);
    }

-- A record that is cleared after other writes.
pub then_cleared : (a b : ℕ) (ws : List ℕ) (xs : List Assignment) (w : ℕ) {between after : List ℕ}
    → between ≡ written a b ws xs → after ≡ written 0 0 between (cleared w) → after ≡ written a b ws (xs ++ cleared w)
then_cleared a b ws xs w e h = h ∙ ap (λ (l : List ℕ). written a b l (cleared w)) e ∙ sym (written_append a b ws xs (cleared w))

-- The last refusal and the writes, of a worker that holds a node and of one that does not.
module _ {a b : ℕ} {ws after : List ℕ} {r : Answer} (holds damaged : Bool) (given rest : List Assignment) where
  pub met_holding : holds ≡ true → Met a b ws (unless (damaged ⇒ 2 ∷ []) (accepts 0 (given ++ rest))) r after
      → Met a b ws (unless ((holds && damaged) ⇒ 2 ∷ []) (accepts 0 (cond holds given [] ++ rest))) r after
  met_holding e d = rw e d

  pub met_without : holds ≡ false → Met a b ws (accepts 0 rest) r after
      → Met a b ws (unless ((holds && damaged) ⇒ 2 ∷ []) (accepts 0 (cond holds given [] ++ rest))) r after
  met_without e d = rw e d
