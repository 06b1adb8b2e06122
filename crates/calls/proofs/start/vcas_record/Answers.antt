use Rattle.std.proofs.Common.{ℕ, refl, ◌∙◌, List, [], ◌∷◌, ◌++◌}
use Rattle.std.specs.Prelude.{◌||◌}
use Rattle.std.proofs.lemmas.Result.{err_from_is_err_and}
use Rattle.definitions.specs.Answers.{Outcome, Refusal, ◌⇒◌, accepts}
use Rattle.definitions.specs.Cells.{Cells, cells_of, record_of}
use Rattle.definitions.specs.Calls.{outcome, starting_v_cas, sound_item}
use Rattle.definitions.specs.Damage.{bad_value}
use Rattle.facts.specs.Refusals.{worker_refusals}
use Rattle.calls.specs.Starts.{header_there, has_room, refused_for, stopped, passed}
use Rattle.calls.proofs.start.vcas_record.Goals as goal

values : Cells → ℕ → ℕ → List Refusal
values m o n = (bad_value m o || bad_value m n) ⇒ 7 ∷ []

then : ℕ → ℕ → ℕ → ℕ → Outcome
then w i o n = accepts 0 (record_of w 6 i o n 0 0 0)

pub returns-in_err-check_idle : goal.returns-in_err-check_idle
unfolding outcome starting_v_cas values then
returns-in_err-check_idle c = let x = c.args in let ws = x.words.now in let m = cells_of ws in
    refused_for x.worker (err_from_is_err_and c.from_residual.result c.from_residual.ensures.1)
    (stopped ws (worker_refusals ws x.worker) (sound_item m x.item ++ values m x.old x.new) (then x.worker x.item x.old x.new) c.in_err-check_idle.ensures)

pub check_item-requires : goal.check_item-requires
check_item-requires c = header_there c.args.words.now c.args.worker c.in_ok-check_idle.ensures

pub returns-in_err-check_item : goal.returns-in_err-check_item
unfolding outcome starting_v_cas values then
returns-in_err-check_item c = let x = c.args in let ws = x.words.now in let m = cells_of ws in let o = then x.worker x.item x.old x.new in
    refused_for x.worker (err_from_is_err_and c.from_residual-in_err-check_item.result c.from_residual-in_err-check_item.ensures.1)
    (passed ws (worker_refusals ws x.worker) (sound_item m x.item ++ values m x.old x.new) o c.in_ok-check_idle.ensures ∙ stopped ws (sound_item m x.item) (values m x.old x.new) o c.in_err-check_item.ensures)

pub returns-then-words-old : goal.returns-then-words-old
unfolding outcome starting_v_cas values then
returns-then-words-old c = let x = c.args in let ws = x.words.now in let m = cells_of ws in let o = then x.worker x.item x.old x.new in
    (passed ws (worker_refusals ws x.worker) (sound_item m x.item ++ values m x.old x.new) o c.in_ok-check_idle.ensures ∙ passed ws (sound_item m x.item) (values m x.old x.new) o c.in_ok-check_item.ensures ∙ rw c.if-words-old.true refl, tt)

pub returns : goal.returns
unfolding outcome starting_v_cas values then
returns c = let x = c.args in let ws = x.words.now in let m = cells_of ws in let o = then x.worker x.item x.old x.new in
    (passed ws (worker_refusals ws x.worker) (sound_item m x.item ++ values m x.old x.new) o c.in_ok-check_idle.ensures ∙ passed ws (sound_item m x.item) (values m x.old x.new) o c.in_ok-check_item.ensures ∙ rw c.if-words-old.false refl, has_room ws x.worker c.in_ok-check_idle.ensures)
