use Rattle.std.proofs.Common.{refl}
use mathlib.Core.Bool.{◌&&◌}
use lib.Dec.{eqb}
use borrow.Author.Tests.{eq-eqb, ne_eqb, le-leb, lt-leb}
use Rattle.definitions.specs.Cells.{cells_of, items_offset, nodes_offset, phase, item}
use Rattle.definitions.specs.Phases.{row_of}
use Rattle.definitions.specs.Damage.{inside_item, worker_damaged, step_damaged, item_damaged}
use Rattle.definitions.specs.Lines.{line_of_phase}
use Rattle.endings.specs.Stepped.{stepped}
use Rattle.endings.specs.Laws.{met_if, met_else, refuses}
use Rattle.definitions.specs.Calls.{stepping}
use Rattle.facts.specs.Facts.{unknown_phase, idle_sound, idle_steps, late, either_refused, early_told, early_damaged, late_damaged, made_busy, in_order}
use Rattle.steps.proofs.step_sound.Goals as goal

pub returns-then-words-worker : goal.returns-then-words-worker
unfolding stepping
returns-then-words-worker c = met_if _ (le-leb _ _ c.if-words-worker.true) (refuses 3 refl)

pub returns-then-phase-gt-CLOSING_PHASE : goal.returns-then-phase-gt-CLOSING_PHASE
unfolding stepping
returns-then-phase-gt-CLOSING_PHASE c = let x = c.args in
    met_else _ (lt-leb _ _ c.if-words-worker.false) (met_if _ (unknown_phase (cells_of x.words.now) x.worker c.if-phase-gt-CLOSING_PHASE.true) (refuses 2 refl))

pub returns-then-phase-eq0 : goal.returns-then-phase-eq0
unfolding stepping
returns-then-phase-eq0 c = let x = c.args in
    met_else _ (lt-leb _ _ c.if-words-worker.false) (met_else _ (idle_sound (cells_of x.words.now) x.worker c.if-phase-eq0.true) (met_else _ (idle_steps (cells_of x.words.now) x.worker c.if-phase-eq0.true) (met_if _ (eq-eqb _ _ c.if-phase-eq0.true) (refuses 5 refl))))

pub returns-then-steps_or_arguments_are_damaged : goal.returns-then-steps_or_arguments_are_damaged
unfolding stepping
returns-then-steps_or_arguments_are_damaged c = let x = c.args in let ws = x.words.now in let e = early_told (cells_of ws) x.worker c.row_at-row.ensures (c.steps_or_arguments_are_damaged.ensures (items_offset ws) (nodes_offset ws)) c.if-steps_or_arguments_are_damaged.true in
    met_else _ (lt-leb _ _ c.if-words-worker.false) (either_refused (items_offset ws) (nodes_offset ws) ws (worker_damaged (cells_of ws) x.worker) (step_damaged (cells_of ws) x.worker) _ (early_damaged (cells_of ws) x.worker c.if-phase-gt-CLOSING_PHASE.false c.if-phase-eq0.false e) (refuses 2 refl))

pub step_busy-requires : goal.step_busy-requires
step_busy-requires c = let x = c.args in let ws = x.words.now in let e = early_told (cells_of ws) x.worker c.row_at-row.ensures (c.steps_or_arguments_are_damaged.ensures (items_offset ws) (nodes_offset ws)) c.if-steps_or_arguments_are_damaged.false in
    (c.requires, made_busy ws x.worker c.if-words-worker.false c.if-phase-eq0.false c.if-phase-gt-CLOSING_PHASE.false e, c.row_at-row.ensures)

pub returns : goal.returns
unfolding stepping
returns c = let x = c.args in let ws = x.words.now in let m = cells_of ws in let w = x.worker in let e = early_told (cells_of ws) x.worker c.row_at-row.ensures (c.steps_or_arguments_are_damaged.ensures (items_offset ws) (nodes_offset ws)) c.if-steps_or_arguments_are_damaged.false in
    met_else _ (lt-leb _ _ c.if-words-worker.false)
    (in_order (items_offset ws) (nodes_offset ws) ws (worker_damaged m w) (step_damaged m w) (late (row_of (m (phase w))) m w) (eqb (m (phase w)) 0)
    (inside_item (row_of (m (phase w))) && item_damaged m (m (item w))) (stepped (line_of_phase (m (phase w))) m w)
    (late_damaged m w c.if-phase-gt-CLOSING_PHASE.false c.if-phase-eq0.false e) (ne_eqb _ _ c.if-phase-eq0.false) c.step_busy.ensures)
