use Rattle.std.proofs.Common.{◌∙◌, []}
use Rattle.std.proofs.lemmas.Result.{err_from_is_err_and}
use Rattle.definitions.specs.Answers.{accepts}
use Rattle.definitions.specs.Cells.{cells_of, record_of}
use Rattle.definitions.specs.Calls.{outcome, starting_v_read, sound_item}
use Rattle.facts.specs.Refusals.{worker_refusals}
use Rattle.calls.specs.Starts.{header_there, has_room, refused_for, stopped, passed}
use Rattle.calls.proofs.start.vread_record.Goals as goal

pub returns-in_err-check_idle : goal.returns-in_err-check_idle
unfolding outcome starting_v_read
returns-in_err-check_idle c = let x = c.args in let ws = x.words.now in
    refused_for x.worker (err_from_is_err_and c.from_residual.result c.from_residual.ensures.1)
    (stopped ws (worker_refusals ws x.worker) (sound_item (cells_of ws) x.item) (accepts 0 (record_of x.worker 1 x.item 0 0 0 0 0)) c.in_err-check_idle.ensures)

pub check_item-requires : goal.check_item-requires
check_item-requires c = header_there c.args.words.now c.args.worker c.in_ok-check_idle.ensures

pub returns-in_err-check_item : goal.returns-in_err-check_item
unfolding outcome starting_v_read
returns-in_err-check_item c = let x = c.args in let ws = x.words.now in let item = sound_item (cells_of ws) x.item in let o = accepts 0 (record_of x.worker 1 x.item 0 0 0 0 0) in
    refused_for x.worker (err_from_is_err_and c.from_residual-in_err-check_item.result c.from_residual-in_err-check_item.ensures.1)
    (passed ws (worker_refusals ws x.worker) item o c.in_ok-check_idle.ensures ∙ stopped ws item [] o c.in_err-check_item.ensures)

pub returns : goal.returns
unfolding outcome starting_v_read
returns c = let x = c.args in let ws = x.words.now in let item = sound_item (cells_of ws) x.item in let o = accepts 0 (record_of x.worker 1 x.item 0 0 0 0 0) in
    (passed ws (worker_refusals ws x.worker) item o c.in_ok-check_idle.ensures ∙ passed ws item [] o c.in_ok-check_item.ensures, has_room ws x.worker c.in_ok-check_idle.ensures)
