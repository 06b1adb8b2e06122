-- Two takeSnapshots share a moment: workers 0 (1) and 1 (2) both read 0 at line 5, and the counter left 0 once, at call 5.
use Rattle.std.specs.Prelude.{◌≡◌, refl, ◌≢◌, true, List, [], ◌∷◌}
use Rattle.std.proofs.Common.{ap, sym, ◌∙◌, subst, inl, arith}
use Rattle.definitions.specs.Phases.{table, row_of}
use Rattle.definitions.specs.Damage.{header_damaged_at, arguments_damaged, kept_damaged, running_damaged}
use Rattle.definitions.specs.Lines.{fetch_head, line_20, line_39, line_5, line_6, lines, line_of_phase}
use Rattle.definitions.specs.Calls.{registering, starting_v_read, starting_take_snapshot, stepping, making, outcome}
use Rattle.history.specs.Definition1.{put, v_read, take_snapshot}
use Rattle.history.specs.Notes.{
  fetches,
  finds,
  moves,
  nothing,
  goes_on,
  answers,
  Note,
  registered,
  started,
  stepped,
  note_by,
  told,
  words_after,
  notes,
  ledger,
  entered,
  Effect,
  birth,
  snapshot,
}
use Rattle.history.specs.Statements.{In, fate_of}
use Rattle.history.specs.Effects.{insert, last_published, effects}
use Rattle.history.proofs.Examples.{shared}
use Rattle.history.proofs.Examples as Examples
use Rattle.order.specs.WorkedRuns.{told_of, Plain, order_of_theorem, same_order, answered, differ}
use Rattle.order.specs.WorkedTimes.{snapshot_time}

-- the run, note by note, the newest first: worker 1 moves the counter, and worker 0, which fails at line 6, answers the same
abbrev run : List Note
run =
    stepped 0 6 nothing (answers 0) ∷ stepped 2 39 nothing (answers 1) ∷ stepped 2 20 (finds true) goes_on ∷ stepped 2 37 (fetches 0 true) goes_on
    ∷ started 2 (v_read 0) ∷ stepped 1 6 (moves 0) (answers 0) ∷ stepped 1 5 nothing goes_on ∷ stepped 0 5 nothing goes_on
    ∷ started 1 take_snapshot ∷ started 0 take_snapshot ∷ registered 0 1 100 ∷ []

shared_notes : told_of shared ≡ run
unfolding shared notes told note_by words_after outcome making registering starting_v_read starting_take_snapshot stepping header_damaged_at
    arguments_damaged kept_damaged running_damaged table row_of lines line_of_phase fetch_head line_20 line_39 line_5 line_6
shared_notes = refl

-- ---- two orders: by its answer, operation 1 would be the last

shared_plain : Plain shared
unfolding shared
shared_plain = tt

shared_order : (order_of_theorem shared shared_plain).order ≡ 6 ∷ 2 ∷ 1 ∷ 0 ∷ []
shared_order = same_order shared shared_plain ∙ Examples.shared_order

shared_answers : answered (told_of shared) ≡ 1 ∷ 6 ∷ 2 ∷ 0 ∷ []
unfolding answered ledger entered put
shared_answers = ap answered shared_notes ∙ refl

shared_differs : (order_of_theorem shared shared_plain).order ≢ answered (told_of shared)
shared_differs = differ shared_order shared_answers (λ e. omega arith)

-- ---- one moment: the counter left 0 at call 5, and both answered 0, at calls 10 and 5

shared_effects : effects (told_of shared) ≡ snapshot 5 0 ∷ birth 0 0 1 100 ∷ []
unfolding effects insert ledger entered put last_published
shared_effects = ap effects shared_notes ∙ refl

shared_first : fate_of (told_of shared) 1
    ≡ record { operation = take_snapshot; worker = 0; lines = 6 ∷ 5 ∷ []; ending = answers 0; at = 10 }
unfolding ledger entered put
shared_first = ap (λ (l : List Note). fate_of l 1) shared_notes ∙ refl

shared_second : fate_of (told_of shared) 2
    ≡ record { operation = take_snapshot; worker = 1; lines = 6 ∷ 5 ∷ []; ending = answers 0; at = 5 }
unfolding ledger entered put
shared_second = ap (λ (l : List Note). fate_of l 2) shared_notes ∙ refl

left_0 : In (snapshot 5 0) (effects (told_of shared))
left_0 = subst (λ (l : List Effect). In (snapshot 5 0) l) (sym shared_effects) (inl refl)

-- so both have the time 5 in the order of the theorem: operation 1 too, which failed at its line 6, call 10
shared_times : ((order_of_theorem shared shared_plain).time 1 ≡ 5) × ((order_of_theorem shared shared_plain).time 2 ≡ 5)
shared_times =
    (snapshot_time shared shared_plain 1 0 5 shared_first refl refl left_0, snapshot_time shared shared_plain 2 0 5 shared_second refl refl left_0)
