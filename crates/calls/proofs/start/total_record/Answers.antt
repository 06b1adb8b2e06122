use Rattle.std.proofs.Common.{ℕ, refl, ◌∙◌, arith, eq-eqb, ne_eqb, List, [], ◌∷◌, eqb, cond}
use Rattle.std.proofs.lemmas.Bool.{le-leb, lt-leb}
use Rattle.std.proofs.lemmas.Result.{err_from_is_err_and}
use Rattle.definitions.specs.Answers.{Outcome, Refusal, ◌⇒◌, accepts}
use Rattle.definitions.specs.Cells.{Cells, cells_of, record_of, items}
use Rattle.definitions.specs.Calls.{outcome, starting_total}
use Rattle.definitions.specs.Damage.{bad_value, bad_handle}
use Rattle.facts.specs.Refusals.{worker_refusals}
use Rattle.calls.specs.Starts.{header_there, has_room, refused_for, stopped, passed}
use Rattle.calls.proofs.start.total_record.Goals as goal

asked : Cells → ℕ → ℕ → List Refusal
asked m q h = bad_value m q ⇒ 7 ∷ bad_handle m h ⇒ 8 ∷ []

then : Cells → ℕ → ℕ → ℕ → Outcome
then m w q h = accepts 0 (record_of w (cond (eqb (m items) 0) 35 30) 0 0 0 h q (m items))

pub returns-in_err-check_idle : goal.returns-in_err-check_idle
unfolding outcome starting_total asked then
returns-in_err-check_idle c = let x = c.args in let ws = x.words.now in let m = cells_of ws in
    refused_for x.worker (err_from_is_err_and c.from_residual.result c.from_residual.ensures.1)
    (stopped ws (worker_refusals ws x.worker) (asked m x.project x.handle) (then m x.worker x.project x.handle) c.in_err-check_idle.ensures)

pub bounds-words-3 : goal.bounds-words-3
bounds-words-3 c = omega (arith, header_there c.args.words.now c.args.worker c.in_ok-check_idle.ensures)

pub returns-then-words-project : goal.returns-then-words-project
unfolding outcome starting_total asked then
returns-then-words-project c = let x = c.args in let ws = x.words.now in let m = cells_of ws in let o = then m x.worker x.project x.handle in
    (passed ws (worker_refusals ws x.worker) (asked m x.project x.handle) o c.in_ok-check_idle.ensures ∙ rw (le-leb _ _ c.if-words-project.true) refl, tt)

pub bounds-words-5 : goal.bounds-words-5
bounds-words-5 c = omega (arith, header_there c.args.words.now c.args.worker c.in_ok-check_idle.ensures)

pub returns-then-words-handle : goal.returns-then-words-handle
unfolding outcome starting_total asked then
returns-then-words-handle c = let x = c.args in let ws = x.words.now in let m = cells_of ws in let o = then m x.worker x.project x.handle in
    (passed ws (worker_refusals ws x.worker) (asked m x.project x.handle) o c.in_ok-check_idle.ensures ∙ rw (lt-leb _ _ c.if-words-project.false, le-leb _ _ c.if-words-handle.true) refl, tt)

pub bounds-words-6 : goal.bounds-words-6
bounds-words-6 c = omega (arith, header_there c.args.words.now c.args.worker c.in_ok-check_idle.ensures)

pub returns-then-noted-eq0 : goal.returns-then-noted-eq0
unfolding outcome starting_total asked then
returns-then-noted-eq0 c = let x = c.args in let ws = x.words.now in let m = cells_of ws in let o = then m x.worker x.project x.handle in
    (passed ws (worker_refusals ws x.worker) (asked m x.project x.handle) o c.in_ok-check_idle.ensures ∙ rw (lt-leb _ _ c.if-words-project.false, lt-leb _ _ c.if-words-handle.false, eq-eqb _ _ c.if-noted-eq0.true) refl, has_room ws x.worker c.in_ok-check_idle.ensures)

pub returns-else-noted-eq0 : goal.returns-else-noted-eq0
unfolding outcome starting_total asked then
returns-else-noted-eq0 c = let x = c.args in let ws = x.words.now in let m = cells_of ws in let o = then m x.worker x.project x.handle in
    (passed ws (worker_refusals ws x.worker) (asked m x.project x.handle) o c.in_ok-check_idle.ensures ∙ rw (lt-leb _ _ c.if-words-project.false, lt-leb _ _ c.if-words-handle.false, ne_eqb _ _ c.if-noted-eq0.false) refl, has_room ws x.worker c.in_ok-check_idle.ensures)
