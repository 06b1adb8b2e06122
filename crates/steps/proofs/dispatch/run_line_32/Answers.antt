use native.Mathlib.Omega.{arith}
use Rattle.definitions.specs.Cells.{cells_at}
use Rattle.facts.specs.Facts.{item_there}
use Rattle.steps.proofs.dispatch.run_line_32.Goals as goal

pub total_32-requires : goal.total_32-requires
total_32-requires c = let x = c.args in let h = c.requires in
    (h.0.ready, item_there x.row (cells_at x.site.items_at x.site.nodes_at x.words.now) x.site.worker h.0.arguments h.1 (λ q. let e = h.2 in omega (arith, q, e)))

pub fetch_head-requires : goal.fetch_head-requires
fetch_head-requires c = let x = c.args in let h = c.requires in
    (h.0.ready, item_there x.row (cells_at x.site.items_at x.site.nodes_at x.words.now) x.site.worker h.0.arguments h.1 (λ q. let e = h.2 in omega (arith, q, e)))
