-- The five hollow versions of document 01, each refuted: a run of it on which a promise is false.
use Rattle.std.specs.Prelude.{◌≡◌, refl, true, List, [], ◌∷◌, ℕ}
use Rattle.std.proofs.Common.{ap, subst, arith}
use Rattle.definitions.specs.declared.Answer.{Answer}
use Rattle.definitions.specs.Answers.{finished, running, accepted}
use Rattle.definitions.specs.Phases.{table, row_of}
use Rattle.definitions.specs.Damage.{header_damaged_at, arguments_damaged, kept_damaged, running_damaged}
use Rattle.definitions.specs.Lines.{
  fetch_head,
  line_20,
  line_21,
  line_22,
  line_39,
  line_43,
  line_45,
  line_46,
  line_48,
  lines,
  line_of_phase,
}
use Rattle.definitions.specs.Calls.{Call, making, registering, starting_v_read, starting_v_cas, stepping, outcome}
use Rattle.history.specs.Definition1.{put, v_read, v_cas, take_snapshot}
use Rattle.history.specs.Notes.{fetches, finds, nothing, goes_on, answers, Note, registered, started, stepped, entered, ledger, Effect, note_by}
use Rattle.history.specs.NoteParts.{note_tag}
use Rattle.history.specs.Statements.{OneOrder, Promises}
use Rattle.history.proofs.Examples.{steps}
use Rattle.refuted.specs.Catalogues.{told_by, words_by, notes_by, Refuted}
use Rattle.refuted.specs.Wrong.{
  but,
  refuses_everything,
  constant_answer,
  steps_alter_nothing,
  invented_step_count,
  to_the_end,
  first_step,
  later_step,
  whole_operation_at_once,
}
use Rattle.refuted.specs.Tests.{all_free, all_noted}
use Rattle.refuted.specs.Unchanged.{unchanged, right_read}
use Rattle.refuted.specs.Runs.{now, run, answers_by, answers_of, Broken, refuted_by}

-- ---- everything refused: at the very beginning a free worker's takeSnapshot is refused, against `accepted`

everything_refused : Broken refuses_everything 16 []
unfolding refuses_everything words_by notes_by note_by ledger
everything_refused d =
    let e : note_by refuses_everything (now refuses_everything 16 []) (Call.take_snapshot 0) ≡ started 0 take_snapshot
    = (d.accepted 0 take_snapshot).1 (omega arith, all_free [] tt 0, tt) in
    let z : ◌≡◌ {A = ℕ} 0 2 = ap note_tag e in omega arith

pub refuses_everything_refuted : Refuted refuses_everything
unfolding refuses_everything outcome making
refuses_everything_refuted = refuted_by refuses_everything 16 [] refl tt everything_refused

-- ---- a constant answer: a vRead of an item registered with 2 answers 1, and there is no one order

abbrev one_read : List Call
one_read = Call.register 2 100 ∷ Call.v_read 0 0 ∷ Call.step 0 ∷ Call.step 0 ∷ Call.step 0 ∷ []

abbrev constant_notes : List Note
constant_notes =
    stepped 0 39 nothing (answers 1) ∷ stepped 0 20 (finds true) goes_on ∷ stepped 0 37 (fetches 0 true) goes_on ∷ started 0 (v_read 0)
    ∷ registered 0 2 100 ∷ []

constant_told : run constant_answer 16 one_read ≡ constant_notes
unfolding constant_answer notes_by told_by note_by words_by outcome making registering starting_v_read stepping header_damaged_at arguments_damaged
    kept_damaged running_damaged table row_of lines line_of_phase fetch_head line_20 line_39
constant_told = refl

constant_no_order : OneOrder constant_notes → ⊥
unfolding ledger entered put all_noted
constant_no_order x =
    let y = unchanged constant_notes x 1 1 2 refl tt tt in
    let z : ◌≡◌ {A = ℕ} 1 2 = right_read 2 0 1 y.0 y.2 y.1 in omega arith

pub constant_answer_refuted : Refuted constant_answer
unfolding constant_answer outcome making
constant_answer_refuted =
    refuted_by constant_answer 16 one_read refl tt (λ d. constant_no_order (subst OneOrder constant_told d.promises.one_order))

-- ---- steps that alter nothing: a vRead executes line 37 five times and goes on, against `progress`

abbrev five_steps : List Call
five_steps = Call.register 1 100 ∷ Call.v_read 0 0 ∷ Call.step 0 ∷ Call.step 0 ∷ Call.step 0 ∷ Call.step 0 ∷ Call.step 0 ∷ []

abbrev fetched_again : Note
fetched_again = stepped 0 37 (fetches 0 true) goes_on

abbrev unaltered_notes : List Note
unaltered_notes =
    fetched_again ∷ fetched_again ∷ fetched_again ∷ fetched_again ∷ fetched_again ∷ started 0 (v_read 0) ∷ registered 0 1 100 ∷ []

unaltered_told : run steps_alter_nothing 16 five_steps ≡ unaltered_notes
unfolding steps_alter_nothing but notes_by told_by note_by words_by outcome making registering starting_v_read stepping header_damaged_at
    arguments_damaged kept_damaged running_damaged table row_of lines line_of_phase fetch_head
unaltered_told = refl

unaltered_no_progress : (effects : List Effect) → Promises unaltered_notes effects → ⊥
unfolding ledger entered put
unaltered_no_progress effects x = let z = (x.progress 1 refl).1 in omega (arith, z)

pub steps_alter_nothing_refuted : Refuted steps_alter_nothing
unfolding steps_alter_nothing but outcome making
steps_alter_nothing_refuted =
    refuted_by steps_alter_nothing 16 five_steps refl tt
    (λ d. unaltered_no_progress d.effects (subst (λ (l : List Note). Promises l d.effects) unaltered_told d.promises))

-- ---- an invented step count: the first step of a vRead answers 2, against `every_step`

abbrev started_read : List Call
started_read = Call.register 1 100 ∷ Call.v_read 0 0 ∷ []

invented_told : run invented_step_count 16 started_read ≡ started 0 (v_read 0) ∷ registered 0 1 100 ∷ []
unfolding invented_step_count but notes_by told_by note_by words_by outcome making registering starting_v_read header_damaged_at arguments_damaged
    kept_damaged running_damaged table row_of
invented_told = refl

invented_count : Broken invented_step_count 16 started_read
unfolding invented_step_count but notes_by told_by note_by words_by outcome making registering starting_v_read stepping header_damaged_at
    arguments_damaged kept_damaged running_damaged table row_of lines line_of_phase fetch_head ledger entered put
invented_count d = let z : ◌≡◌ {A = ℕ} 2 1 = ap (λ (a : Answer). a.steps) (d.every_step 0 37 (fetches 0 true) goes_on refl) in omega arith

pub invented_step_count_refuted : Refuted invented_step_count
unfolding invented_step_count but outcome making
invented_step_count_refuted = refuted_by invented_step_count 16 started_read refl tt invented_count

-- ---- the whole operation in its first step: worker 1's vRead answers what worker 0's vCAS, at its line 41, is yet to write, and there is no one order

-- A worker alone gets the answers that it should, document 01's run 2: 1 in 9 steps.
alone_as_it_should : answers_of whole_operation_at_once 16 (Call.register 1 100 ∷ Call.v_cas 0 0 1 2 ∷ steps 0 9)
    ≡ finished 1 9 ∷ running 8 ∷ running 7 ∷ running 6 ∷ running 5 ∷ running 4 ∷ running 3 ∷ running 2 ∷ running 1 ∷ accepted 0 ∷ accepted 0 ∷ []
unfolding answers_by whole_operation_at_once first_step later_step to_the_end but words_by outcome making registering starting_v_cas stepping
    header_damaged_at arguments_damaged kept_damaged running_damaged table row_of lines line_of_phase fetch_head line_20 line_21 line_22 line_43 line_45
    line_46 line_48
alone_as_it_should = refl

abbrev seen_too_early : List Call
seen_too_early =
    Call.register 1 100 ∷ Call.v_cas 0 0 1 2 ∷ Call.step 0 ∷ Call.v_read 1 0 ∷ Call.step 1 ∷ Call.step 1 ∷ Call.step 1 ∷ []

abbrev early_notes : List Note
early_notes =
    stepped 1 37 (fetches 0 true) (answers 2) ∷ stepped 1 37 (fetches 0 true) goes_on ∷ stepped 1 37 (fetches 0 true) goes_on ∷ started 1 (v_read 0)
    ∷ stepped 0 41 (fetches 0 true) goes_on ∷ started 0 (v_cas 0 1 2) ∷ registered 0 1 100 ∷ []

early_told : run whole_operation_at_once 16 seen_too_early ≡ early_notes
unfolding whole_operation_at_once first_step later_step to_the_end but notes_by told_by note_by words_by outcome making registering starting_v_read
    starting_v_cas stepping header_damaged_at arguments_damaged kept_damaged running_damaged table row_of lines line_of_phase fetch_head line_20 line_21
    line_22 line_39 line_43 line_45 line_46 line_48
early_told = refl

early_no_order : OneOrder early_notes → ⊥
unfolding ledger entered put all_noted
early_no_order x =
    let y = unchanged early_notes x 3 2 1 refl tt tt in
    let z : ◌≡◌ {A = ℕ} 2 1 = right_read 1 0 2 y.0 y.2 y.1 in omega arith

pub whole_operation_at_once_refuted : Refuted whole_operation_at_once
unfolding whole_operation_at_once but outcome making
whole_operation_at_once_refuted =
    refuted_by whole_operation_at_once 16 seen_too_early refl tt (λ d. early_no_order (subst OneOrder early_told d.promises.one_order))
