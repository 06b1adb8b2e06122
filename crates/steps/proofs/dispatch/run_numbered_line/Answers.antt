use Rattle.std.proofs.Common.{◌≡◌, refl, arith, eq-eqb, ℕ, List}
use mathlib.Core.Logic.{◌⊎◌, inl, inr}
use Rattle.definitions.specs.declared.Answer.{Answer}
use Rattle.definitions.specs.declared.PhaseRow.{PhaseRow}
use Rattle.definitions.specs.Lines.{fetch}
use Rattle.endings.specs.declared.site.Site.{Site}
use Rattle.endings.specs.Stepped.{StepsAt}
use Rattle.std.proofs.lemmas.Result.{err_from_is_err_and}
use Rattle.definitions.specs.Cells.{cells_at}
use Rattle.tables.specs.Ranges.{kept_at}
use Rattle.facts.specs.Facts.{node_kept, item_there, sum_small}
use Rattle.steps.specs.Dispatch.{late_is, does, kept_damage, by_number, RowStepsAt}
use Rattle.steps.proofs.dispatch.run_numbered_line.Goals as goal

-- The three lines at which an operation but total and readSnapshot fetches a head.
abbrev Fetches : ℕ → Type 0
Fetches l = (l ≡ 37) ⊎ (l ≡ 41) ⊎ (l ≡ 51)

not_rest : (l : ℕ) → Fetches l → l ≡ 0 → ⊥
not_rest l (inl e) z = omega (arith, e, z)
not_rest l (inr (inl e)) z = omega (arith, e, z)
not_rest l (inr (inr e)) z = omega (arith, e, z)

does_fetch : (r : PhaseRow) (s : Site) (ws : List ℕ) {answer : Answer} {after : List ℕ} → Fetches r.line
    → StepsAt fetch s ws answer after → RowStepsAt r (by_number r.operation r.line) s ws answer after
unfolding kept_at
does_fetch r s ws (inl e) d = does (by_number r.operation) r s ws e refl d
does_fetch r s ws (inr (inl e)) d = does (by_number r.operation) r s ws e refl d
does_fetch r s ws (inr (inr e)) d = does (by_number r.operation) r s ws e refl d

pub returns-in_err-check_kept-in-20 : goal.returns-in_err-check_kept-in-20
returns-in_err-check_kept-in-20 c = let x = c.args in let p = err_from_is_err_and c.from_residual.result c.from_residual.ensures.1 in rw (p.1, p.2) (kept_damage x.row (by_number x.row.operation x.row.line) x.site x.words.now c.in-20.is c.in_err-check_kept-in-20.ensures)

pub line_20-requires : goal.line_20-requires
line_20-requires c = let x = c.args in let h = c.requires in let m = cells_at x.site.items_at x.site.nodes_at x.words.now in
    (h.0.ready, node_kept x.row m x.site.worker 0 (late_is x.row m x.site.worker 20 c.in-20.is c.in_ok-check_kept-in-20.ensures.0) (eq-eqb _ _ c.in-20.is))

pub returns-in_ok-check_kept-in-20 : goal.returns-in_ok-check_kept-in-20
returns-in_ok-check_kept-in-20 c = let x = c.args in does (by_number x.row.operation) x.row x.site x.words.now c.in-20.is c.in_ok-check_kept-in-20.ensures.0 c.line_20.ensures

pub returns-in_err-check_kept-in-21 : goal.returns-in_err-check_kept-in-21
returns-in_err-check_kept-in-21 c = let x = c.args in let p = err_from_is_err_and c.from_residual-in_err-check_kept-in-21.result c.from_residual-in_err-check_kept-in-21.ensures.1 in rw (p.1, p.2) (kept_damage x.row (by_number x.row.operation x.row.line) x.site x.words.now c.in-21.is c.in_err-check_kept-in-21.ensures)

pub returns-in_ok-check_kept-in-21 : goal.returns-in_ok-check_kept-in-21
returns-in_ok-check_kept-in-21 c = let x = c.args in does (by_number x.row.operation) x.row x.site x.words.now c.in-21.is c.in_ok-check_kept-in-21.ensures.0 c.line_21.ensures

pub returns-in_err-check_kept-in-22 : goal.returns-in_err-check_kept-in-22
returns-in_err-check_kept-in-22 c = let x = c.args in let p = err_from_is_err_and c.from_residual-in_err-check_kept-in-22.result c.from_residual-in_err-check_kept-in-22.ensures.1 in rw (p.1, p.2) (kept_damage x.row (by_number x.row.operation x.row.line) x.site x.words.now c.in-22.is c.in_err-check_kept-in-22.ensures)

pub line_22-requires : goal.line_22-requires
line_22-requires c = let x = c.args in let h = c.requires in let m = cells_at x.site.items_at x.site.nodes_at x.words.now in
    (h.0.ready, node_kept x.row m x.site.worker 2 (late_is x.row m x.site.worker 22 c.in-22.is c.in_ok-check_kept-in-22.ensures.0) (eq-eqb _ _ c.in-22.is))

pub returns-in_ok-check_kept-in-22 : goal.returns-in_ok-check_kept-in-22
returns-in_ok-check_kept-in-22 c = let x = c.args in does (by_number x.row.operation) x.row x.site x.words.now c.in-22.is c.in_ok-check_kept-in-22.ensures.0 c.line_22.ensures

pub returns-in-32 : goal.returns-in-32
unfolding kept_at
returns-in-32 c = let x = c.args in does (by_number x.row.operation) x.row x.site x.words.now c.in-32.is refl c.run_line_32.ensures

pub returns-in_err-check_kept-in-34 : goal.returns-in_err-check_kept-in-34
returns-in_err-check_kept-in-34 c = let x = c.args in let p = err_from_is_err_and c.from_residual-in_err-check_kept-in-34.result c.from_residual-in_err-check_kept-in-34.ensures.1 in rw (p.1, p.2) (kept_damage x.row (by_number x.row.operation x.row.line) x.site x.words.now c.in-34.is c.in_err-check_kept-in-34.ensures)

pub line_34-requires : goal.line_34-requires
line_34-requires c = let x = c.args in let h = c.requires in let w = x.site.worker in let m = cells_at x.site.items_at x.site.nodes_at x.words.now in (
  h.0.ready,
  item_there x.row m w h.0.arguments h.1 (λ q. let e = c.in-34.is in omega (arith, q, e)),
  node_kept x.row m w 3 (late_is x.row m w 34 c.in-34.is c.in_ok-check_kept-in-34.ensures.0) (eq-eqb _ _ c.in-34.is),
  sum_small x.row m w h.0.arguments,
)

pub returns-in_ok-check_kept-in-34 : goal.returns-in_ok-check_kept-in-34
returns-in_ok-check_kept-in-34 c = let x = c.args in does (by_number x.row.operation) x.row x.site x.words.now c.in-34.is c.in_ok-check_kept-in-34.ensures.0 c.line_34.ensures

pub fetch_head-requires : goal.fetch_head-requires
fetch_head-requires c = let x = c.args in let h = c.requires in
    (h.0.ready, item_there x.row (cells_at x.site.items_at x.site.nodes_at x.words.now) x.site.worker h.0.arguments h.1 (not_rest x.row.line c.in-37.is))

pub returns-in-37 : goal.returns-in-37
returns-in-37 c = let x = c.args in does_fetch x.row x.site x.words.now c.in-37.is c.fetch_head.ensures
