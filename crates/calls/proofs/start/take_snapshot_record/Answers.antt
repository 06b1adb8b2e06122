use Rattle.std.proofs.Common.{[]}
use Rattle.std.proofs.lemmas.Result.{err_from_is_err_and}
use Rattle.definitions.specs.Answers.{accepts}
use Rattle.definitions.specs.Cells.{record_of}
use Rattle.definitions.specs.Calls.{outcome, starting_take_snapshot}
use Rattle.facts.specs.Refusals.{worker_refusals}
use Rattle.calls.specs.Starts.{has_room, refused_for, stopped, passed}
use Rattle.calls.proofs.start.take_snapshot_record.Goals as goal

pub returns-in_err-check_idle : goal.returns-in_err-check_idle
unfolding outcome starting_take_snapshot
returns-in_err-check_idle c = let x = c.args in
    refused_for x.worker (err_from_is_err_and c.from_residual.result c.from_residual.ensures.1)
    (stopped x.words.now (worker_refusals x.words.now x.worker) [] (accepts 0 (record_of x.worker 23 0 0 0 0 0 0)) c.in_err-check_idle.ensures)

pub returns : goal.returns
unfolding outcome starting_take_snapshot
returns c = let x = c.args in let ws = x.words.now in
    (passed ws (worker_refusals ws x.worker) [] (accepts 0 (record_of x.worker 23 0 0 0 0 0 0)) c.in_ok-check_idle.ensures, has_room ws x.worker c.in_ok-check_idle.ensures)
