use Rattle.std.proofs.Common.{refl, arith, eq-eqb, rules}
use Rattle.std.proofs.lemmas.Result.{err_from_is_err_and}
use Rattle.definitions.specs.Cells.{cells_at}
use Rattle.endings.specs.Laws.{met_else}
use Rattle.tables.specs.Ranges.{kept_at}
use Rattle.facts.specs.Facts.{node_kept, new_node_kept, item_there}
use Rattle.steps.specs.Dispatch.{late_is, does, kept_damage, later_line, at_rest, rest_kept}
use Rattle.steps.proofs.dispatch.run_later_line.Goals as goal

pub returns-in_err-check_kept-in-39 : goal.returns-in_err-check_kept-in-39
returns-in_err-check_kept-in-39 c = let x = c.args in let p = err_from_is_err_and c.from_residual.result c.from_residual.ensures.1 in rw (p.1, p.2) (kept_damage x.row (later_line x.row.line) x.site x.words.now c.in-39.is c.in_err-check_kept-in-39.ensures)

pub line_39-requires : goal.line_39-requires
line_39-requires c = let x = c.args in let h = c.requires in let m = cells_at x.site.items_at x.site.nodes_at x.words.now in
    (h.0.ready, node_kept x.row m x.site.worker 4 (late_is x.row m x.site.worker 39 c.in-39.is c.in_ok-check_kept-in-39.ensures.0) (eq-eqb _ _ c.in-39.is))

pub returns-in_ok-check_kept-in-39 : goal.returns-in_ok-check_kept-in-39
returns-in_ok-check_kept-in-39 c = let x = c.args in does later_line x.row x.site x.words.now c.in-39.is c.in_ok-check_kept-in-39.ensures.0 c.line_39.ensures

pub returns-in_err-check_kept-in-43 : goal.returns-in_err-check_kept-in-43
returns-in_err-check_kept-in-43 c = let x = c.args in let p = err_from_is_err_and c.from_residual-in_err-check_kept-in-43.result c.from_residual-in_err-check_kept-in-43.ensures.1 in rw (p.1, p.2) (kept_damage x.row (later_line x.row.line) x.site x.words.now c.in-43.is c.in_err-check_kept-in-43.ensures)

pub line_43-requires : goal.line_43-requires
line_43-requires c = let x = c.args in let h = c.requires in let m = cells_at x.site.items_at x.site.nodes_at x.words.now in
    (h.0.ready, node_kept x.row m x.site.worker 5 (late_is x.row m x.site.worker 43 c.in-43.is c.in_ok-check_kept-in-43.ensures.0) (eq-eqb _ _ c.in-43.is))

pub returns-in_ok-check_kept-in-43 : goal.returns-in_ok-check_kept-in-43
returns-in_ok-check_kept-in-43 c = let x = c.args in does later_line x.row x.site x.words.now c.in-43.is c.in_ok-check_kept-in-43.ensures.0 c.line_43.ensures

pub returns-in_err-check_kept-in-45 : goal.returns-in_err-check_kept-in-45
returns-in_err-check_kept-in-45 c = let x = c.args in let p = err_from_is_err_and c.from_residual-in_err-check_kept-in-45.result c.from_residual-in_err-check_kept-in-45.ensures.1 in rw (p.1, p.2) (kept_damage x.row (later_line x.row.line) x.site x.words.now c.in-45.is c.in_err-check_kept-in-45.ensures)

pub line_45-requires : goal.line_45-requires
line_45-requires c = let x = c.args in let h = c.requires in let m = cells_at x.site.items_at x.site.nodes_at x.words.now in
    (h.0.ready, node_kept x.row m x.site.worker 6 (late_is x.row m x.site.worker 45 c.in-45.is c.in_ok-check_kept-in-45.ensures.0) (eq-eqb _ _ c.in-45.is))

pub returns-in_ok-check_kept-in-45 : goal.returns-in_ok-check_kept-in-45
returns-in_ok-check_kept-in-45 c = let x = c.args in does later_line x.row x.site x.words.now c.in-45.is c.in_ok-check_kept-in-45.ensures.0 c.line_45.ensures

pub returns-in_err-check_kept-in-46 : goal.returns-in_err-check_kept-in-46
returns-in_err-check_kept-in-46 c = let x = c.args in let p = err_from_is_err_and c.from_residual-in_err-check_kept-in-46.result c.from_residual-in_err-check_kept-in-46.ensures.1 in rw (p.1, p.2) (kept_damage x.row (later_line x.row.line) x.site x.words.now c.in-46.is c.in_err-check_kept-in-46.ensures)

pub line_46-requires : goal.line_46-requires
line_46-requires c = let x = c.args in let h = c.requires in
    (h.0.ready, item_there x.row (cells_at x.site.items_at x.site.nodes_at x.words.now) x.site.worker h.0.arguments h.1 (λ q. let e = c.in-46.is in omega (arith, q, e)))

pub returns-in_ok-check_kept-in-46 : goal.returns-in_ok-check_kept-in-46
returns-in_ok-check_kept-in-46 c = let x = c.args in does later_line x.row x.site x.words.now c.in-46.is c.in_ok-check_kept-in-46.ensures.0 c.line_46.ensures

pub returns-in-48 : goal.returns-in-48
unfolding kept_at
returns-in-48 c = let x = c.args in does later_line x.row x.site x.words.now c.in-48.is refl c.line_48.ensures

pub returns-in_err-check_kept-in-50 : goal.returns-in_err-check_kept-in-50
returns-in_err-check_kept-in-50 c = let x = c.args in let p = err_from_is_err_and c.from_residual-in_err-check_kept-in-50.result c.from_residual-in_err-check_kept-in-50.ensures.1 in rw (p.1, p.2) (kept_damage x.row (later_line x.row.line) x.site x.words.now c.in-50.is c.in_err-check_kept-in-50.ensures)

pub line_50-requires : goal.line_50-requires
line_50-requires c = let x = c.args in let h = c.requires in let m = cells_at x.site.items_at x.site.nodes_at x.words.now in
    (h.0.ready, new_node_kept x.row m x.site.worker (late_is x.row m x.site.worker 50 c.in-50.is c.in_ok-check_kept-in-50.ensures.0) c.in-50.is)

pub returns-in_ok-check_kept-in-50 : goal.returns-in_ok-check_kept-in-50
returns-in_ok-check_kept-in-50 c = let x = c.args in does later_line x.row x.site x.words.now c.in-50.is c.in_ok-check_kept-in-50.ensures.0 c.line_50.ensures

pub returns-in-52 : goal.returns-in-52
unfolding kept_at
returns-in-52 c = let x = c.args in does later_line x.row x.site x.words.now c.in-52.is refl c.line_52.ensures

pub returns-in_default : goal.returns-in_default
returns-in_default c = let x = c.args in let a = x.site.items_at in let b = x.site.nodes_at in let w = x.site.worker in
    met_else _ (rest_kept x.row (cells_at a b x.words.now) w c.requires.2 (search rules)) (at_rest a b w x.words.now x.row.line (search rules) c.closing_step.ensures)
