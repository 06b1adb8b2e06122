use mathlib.Core.Path.{refl, ◌≡◌, sym, ◌∙◌}
use mathlib.Core.Bool.{◌&&◌}
use mathlib.Core.List.{List, [], ◌∷◌, ◌++◌}
use Prim.Native.Nat.{ℕ}
use borrow.Author.Tests.{eq-eqb, ne_eqb, le-leb, lt-leb}
use Rattle.definitions.specs.declared.Answer.{Answer}
use Rattle.definitions.specs.Answers.{◌⇒◌, unless, accepts}
use Rattle.definitions.specs.Cells.{cells_of, items_offset, nodes_offset, phase, cleared}
use Rattle.definitions.specs.Lines.{returning, returned_node}
use lib.Dec.{eqb}
use mathlib.Core.Bool.{false}
use Rattle.definitions.specs.Damage.{worker_damaged}
use Rattle.definitions.specs.Calls.{no_worker, holds_node, returned_if_held, abandoning}
use Rattle.definitions.specs.Promises.{Met}
use Rattle.endings.specs.Laws.{met_if, met_else, refuses}
use Rattle.facts.specs.Facts.{unknown_phase, idle_sound}
use Rattle.abandon.specs.Abandoned.{damage_told, can_give_back, met_holding, met_without}
use Rattle.abandon.proofs.abandon_sound.Goals as goal

-- What is left of an abandon once the record was tested.

past_tests : (ws : List ℕ) (w : ℕ) {r : Answer} {after : List ℕ}
    → no_worker (cells_of ws) w ≡ false → worker_damaged (cells_of ws) w ≡ false → eqb (cells_of ws (phase w)) 0 ≡ false
    → let m = cells_of ws in
    Met (items_offset ws) (nodes_offset ws) ws (unless ((holds_node m w && returned_node m w) ⇒ 2 ∷ []) (accepts 0 (returned_if_held m w ++ cleared w))) r after
    → Met (items_offset ws) (nodes_offset ws) ws (abandoning m w) r after
unfolding abandoning
past_tests ws w known sound busy d = met_else _ known (met_else _ sound (met_else _ busy d))

pub returns-then-words-worker : goal.returns-then-words-worker
unfolding abandoning
returns-then-words-worker c = met_if _ (le-leb _ _ c.if-words-worker.true) (refuses 3 refl)

pub returns-then-phase-gt-CLOSING_PHASE : goal.returns-then-phase-gt-CLOSING_PHASE
unfolding abandoning
returns-then-phase-gt-CLOSING_PHASE c = let x = c.args in
    met_else _ (lt-leb _ _ c.if-words-worker.false) (met_if _ (unknown_phase (cells_of x.words.now) x.worker c.if-phase-gt-CLOSING_PHASE.true) (refuses 2 refl))

pub returns-then-phase-eq0 : goal.returns-then-phase-eq0
unfolding abandoning
returns-then-phase-eq0 c = let x = c.args in
    met_else _ (lt-leb _ _ c.if-words-worker.false) (met_else _ (idle_sound (cells_of x.words.now) x.worker c.if-phase-eq0.true) (met_if _ (eq-eqb _ _ c.if-phase-eq0.true) (refuses 5 refl)))

pub returns-then-record_is_damaged : goal.returns-then-record_is_damaged
unfolding abandoning
returns-then-record_is_damaged c = let x = c.args in let ws = x.words.now in
    met_else _ (lt-leb _ _ c.if-words-worker.false)
    (met_if _ (damage_told (cells_of ws) x.worker c.if-phase-gt-CLOSING_PHASE.false c.if-phase-eq0.false (c.record_is_damaged.ensures (items_offset ws) (nodes_offset ws)) c.if-record_is_damaged.true) (refuses 2 refl))

pub abandon_holding-requires : goal.abandon_holding-requires
abandon_holding-requires c = let x = c.args in let ws = x.words.now in
    rw c.nodes_offset-nodes_at.ensures (can_give_back ws x.worker _ c.requires c.if-words-worker.false (c.record_is_damaged.ensures (items_offset ws) (nodes_offset ws)) c.if-record_is_damaged.false c.holds_node.ensures c.if-holds_node.true)

pub returns-then-holds_node : goal.returns-then-holds_node
returns-then-holds_node c = let x = c.args in let ws = x.words.now in let m = cells_of ws in let w = x.worker in
    past_tests ws w (lt-leb _ _ c.if-words-worker.false)
    (damage_told m w c.if-phase-gt-CLOSING_PHASE.false c.if-phase-eq0.false (c.record_is_damaged.ensures (items_offset ws) (nodes_offset ws)) c.if-record_is_damaged.false)
    (ne_eqb _ _ c.if-phase-eq0.false)
    (met_holding (holds_node m w) (returned_node m w) (returning m w) (cleared w) (sym c.holds_node.ensures ∙ c.if-holds_node.true) (rw c.nodes_offset-nodes_at.ensures at (c.abandon_holding.ensures (items_offset ws))))

pub returns : goal.returns
returns c = let x = c.args in let ws = x.words.now in let m = cells_of ws in let w = x.worker in
    past_tests ws w (lt-leb _ _ c.if-words-worker.false)
    (damage_told m w c.if-phase-gt-CLOSING_PHASE.false c.if-phase-eq0.false (c.record_is_damaged.ensures (items_offset ws) (nodes_offset ws)) c.if-record_is_damaged.false)
    (ne_eqb _ _ c.if-phase-eq0.false)
    (met_without (holds_node m w) (returned_node m w) (returning m w) (cleared w) (sym c.holds_node.ensures ∙ c.if-holds_node.false)
    (record { answers = c.clear.ensures.0; leaves = c.clear.ensures.1 }))
