use mathlib.Core.Path.{◌∙◌, sym}
use Prim.Native.Nat.{◌+◌, ◌*◌}
use lib.ListN.{get_or}
use Rattle.endings.specs.Laws.{met_else}
use Rattle.steps.specs.Dispatch.{fit, row_operation, row_snapshot, row_other, line_tied}
use Rattle.steps.proofs.step_busy.Goals as goal

pub run_row-requires : goal.run_row-requires
run_row-requires c = let x = c.args in let h = c.requires in
    rw (c.items_offset.ensures, c.nodes_offset.ensures) (fit x.words.now x.w h.0 h.1 h.2, row_operation x.words.now x.w h.1 h.2, row_snapshot x.words.now x.w h.1 h.2, row_other x.words.now x.w h.1 h.2)

pub returns : goal.returns
returns c = let x = c.args in
    rw (line_tied (get_or x.words.now (16 + 16 * x.w + 0) 0), ← c.requires.2) (met_else _ (sym (rw c.items_offset.ensures at c.its_item_is_damaged.ensures) ∙ c.if-its_item_is_damaged.false) (rw (c.items_offset.ensures, c.nodes_offset.ensures) at c.run_row.ensures))
