use Rattle.std.proofs.Common.{refl}
use Rattle.std.proofs.lemmas.Result.{err_from_is_err_and}
use Rattle.definitions.specs.Cells.{cells_at}
use Rattle.tables.specs.Ranges.{kept_at}
use Rattle.facts.specs.Facts.{seen_kept}
use Rattle.steps.specs.Dispatch.{late_is, does, kept_damage, snapshot_line}
use Rattle.steps.proofs.dispatch.run_snapshot_line.Goals as goal

pub returns-then-row-eq5 : goal.returns-then-row-eq5
unfolding kept_at
returns-then-row-eq5 c = let x = c.args in does snapshot_line x.row x.site x.words.now c.if-row-eq5.true refl c.line_5.ensures

pub returns-in_err-check_kept : goal.returns-in_err-check_kept
returns-in_err-check_kept c = let x = c.args in let p = err_from_is_err_and c.from_residual.result c.from_residual.ensures.1 in rw (p.1, p.2) (kept_damage x.row (snapshot_line x.row.line) x.site x.words.now (c.requires.1 c.if-row-eq5.false) c.in_err-check_kept.ensures)

pub line_6-requires : goal.line_6-requires
line_6-requires c = let x = c.args in let h = c.requires in let e = h.1 c.if-row-eq5.false in let m = cells_at x.site.items_at x.site.nodes_at x.words.now in
    (h.0.ready, seen_kept x.row m x.site.worker (late_is x.row m x.site.worker 6 e c.in_ok-check_kept.ensures.0) e)

pub returns : goal.returns
returns c = let x = c.args in does snapshot_line x.row x.site x.words.now (c.requires.1 c.if-row-eq5.false) c.in_ok-check_kept.ensures.0 c.line_6.ensures
