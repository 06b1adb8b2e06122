use Rattle.std.proofs.Common.{ℕ, refl, ◌∙◌, arith, lt-ltb, le-ltb, List, [], ◌∷◌, ◌++◌, ltb}
use Rattle.std.proofs.lemmas.Bool.{le-leb, lt-leb}
use Rattle.std.proofs.lemmas.Result.{err_from_is_err_and}
use Rattle.definitions.specs.Answers.{Outcome, Refusal, ◌⇒◌, accepts}
use Rattle.definitions.specs.Cells.{Cells, cells_of, record_of, birth}
use Rattle.definitions.specs.Calls.{outcome, starting_read_snapshot, sound_item}
use Rattle.definitions.specs.Damage.{bad_handle}
use Rattle.facts.specs.Refusals.{worker_refusals}
use Rattle.calls.specs.Starts.{header_there, has_room, registered_item, refused_for, stopped, passed}
use Rattle.calls.proofs.start.read_snapshot_record.Goals as goal

handles : Cells → ℕ → ℕ → List Refusal
handles m i h = bad_handle m h ⇒ 8 ∷ ltb h (m (birth i)) ⇒ 9 ∷ []

then : ℕ → ℕ → ℕ → Outcome
then w i h = accepts 0 (record_of w 25 i 0 0 h 0 0)

pub returns-in_err-check_idle : goal.returns-in_err-check_idle
unfolding outcome starting_read_snapshot handles then
returns-in_err-check_idle c = let x = c.args in let ws = x.words.now in let m = cells_of ws in
    refused_for x.worker (err_from_is_err_and c.from_residual.result c.from_residual.ensures.1)
    (stopped ws (worker_refusals ws x.worker) (sound_item m x.item ++ handles m x.item x.handle) (then x.worker x.item x.handle) c.in_err-check_idle.ensures)

pub check_item-requires : goal.check_item-requires
check_item-requires c = header_there c.args.words.now c.args.worker c.in_ok-check_idle.ensures

pub returns-in_err-check_item : goal.returns-in_err-check_item
unfolding outcome starting_read_snapshot handles then
returns-in_err-check_item c = let x = c.args in let ws = x.words.now in let m = cells_of ws in let o = then x.worker x.item x.handle in
    refused_for x.worker (err_from_is_err_and c.from_residual-in_err-check_item.result c.from_residual-in_err-check_item.ensures.1)
    (passed ws (worker_refusals ws x.worker) (sound_item m x.item ++ handles m x.item x.handle) o c.in_ok-check_idle.ensures ∙ stopped ws (sound_item m x.item) (handles m x.item x.handle) o c.in_err-check_item.ensures)

pub returns-then-words-handle : goal.returns-then-words-handle
unfolding outcome starting_read_snapshot handles then
returns-then-words-handle c = let x = c.args in let ws = x.words.now in let m = cells_of ws in let o = then x.worker x.item x.handle in
    (passed ws (worker_refusals ws x.worker) (sound_item m x.item ++ handles m x.item x.handle) o c.in_ok-check_idle.ensures ∙ passed ws (sound_item m x.item) (handles m x.item x.handle) o c.in_ok-check_item.ensures ∙ rw (le-leb _ _ c.if-words-handle.true) refl, tt)

pub bounds-words-items_at : goal.bounds-words-items_at
bounds-words-items_at c = omega (arith, header_there c.args.words.now c.args.worker c.in_ok-check_idle.ensures, registered_item c.args.words.now c.args.item c.in_ok-check_item.ensures)

pub returns-then-handle-words : goal.returns-then-handle-words
unfolding outcome starting_read_snapshot handles then
returns-then-handle-words c = let x = c.args in let ws = x.words.now in let m = cells_of ws in let o = then x.worker x.item x.handle in
    (passed ws (worker_refusals ws x.worker) (sound_item m x.item ++ handles m x.item x.handle) o c.in_ok-check_idle.ensures ∙ passed ws (sound_item m x.item) (handles m x.item x.handle) o c.in_ok-check_item.ensures ∙ rw (lt-leb _ _ c.if-words-handle.false, rw c.items_offset-items_at.ensures at (lt-ltb _ _ c.if-handle-words.true)) refl, tt)

pub returns : goal.returns
unfolding outcome starting_read_snapshot handles then
returns c = let x = c.args in let ws = x.words.now in let m = cells_of ws in let o = then x.worker x.item x.handle in
    (passed ws (worker_refusals ws x.worker) (sound_item m x.item ++ handles m x.item x.handle) o c.in_ok-check_idle.ensures ∙ passed ws (sound_item m x.item) (handles m x.item x.handle) o c.in_ok-check_item.ensures ∙ rw (lt-leb _ _ c.if-words-handle.false, rw c.items_offset-items_at.ensures at (le-ltb _ _ c.if-handle-words.false)) refl, has_room ws x.worker c.in_ok-check_idle.ensures)
