-- The five errors that a reader of the paper will make, the second of them two, each refuted: a run of it on which a promise is false.
use Rattle.std.specs.Prelude.{◌≡◌, refl, ◌≢◌, true, false, cond, List, [], ◌∷◌, ◌++◌, ℕ, eqb}
use Rattle.std.proofs.Common.{ap, sym, ◌∙◌, subst, arith}
use Rattle.definitions.specs.Phases.{table, row_of}
use Rattle.definitions.specs.Damage.{header_damaged_at, arguments_damaged, kept_damaged, running_damaged}
use Rattle.definitions.specs.Lines.{
  fetch_head,
  line_20,
  line_21,
  line_22,
  line_39,
  line_43,
  line_45,
  line_46,
  line_48,
  line_50,
  line_52,
  line_5,
  line_6,
  line_34,
  lines,
  line_of_phase,
}
use Rattle.definitions.specs.Calls.{
  Call,
  making,
  registering,
  starting_v_read,
  starting_v_cas,
  starting_take_snapshot,
  starting_read_snapshot,
  outcome,
}
use Rattle.history.specs.Definition1.{put, v_read, v_cas, take_snapshot, read_snapshot, object, Born, Holds}
use Rattle.history.specs.Notes.{
  fetches,
  finds,
  publishes,
  stamps,
  moves,
  nothing,
  goes_on,
  answers,
  Note,
  registered,
  refused,
  started,
  stepped,
  entered,
  ledger,
  Effect,
  change,
  note_by,
}
use Rattle.history.specs.NoteParts.{note_tag}
use Rattle.history.specs.Statements.{Free, TellsOf, OneOrder, Promises}
use Rattle.history.proofs.Examples.{steps}
use Rattle.refuted.specs.Catalogues.{told_by, words_by, notes_by, Refuted}
use Rattle.refuted.specs.Wrong.{
  but,
  stepping_by,
  other_at,
  stepping_other,
  with_line,
  stamped_before_published,
  v_read_without_help,
  lost_v_cas_without_help,
  stamp_overwritten_at_22,
  counter_tested_at_the_start,
  stops_strictly_below,
}
use Rattle.refuted.specs.Tests.{all_free, all_noted, executed}
use Rattle.refuted.specs.AnyOrder.{AnyOrder, any_order, deeper, InTurn, in_turn}
use Rattle.refuted.specs.ReadLaws.{told_change, exact_value}
use Rattle.refuted.specs.Runs.{now, run, Broken, plain_call, refuted_by}

-- worker 0's vCAS(1,2), to line 45
abbrev to_45 : List Note
to_45 =
    stepped 0 45 nothing goes_on ∷ stepped 0 43 nothing goes_on ∷ stepped 0 20 (finds true) goes_on ∷ stepped 0 41 (fetches 0 true) goes_on
    ∷ started 0 (v_cas 0 1 2) ∷ registered 0 1 100 ∷ []

-- ---- stamping a node before line 46 publishes it. Worker 0's node has its stamp at 45; worker 1 takes handle 0, and after that its vRead answers 1;
-- worker 0 publishes; then worker 1 reads 2 at handle 0, a change that came later, and there is no order at all

abbrev snapshot_between : List Call
snapshot_between =
    Call.register 1 100 ∷ Call.v_cas 0 0 1 2 ∷ steps 0 4 ++ (Call.take_snapshot 1 ∷ steps 1 2 ++ (Call.v_read 1 0 ∷ steps 1 3
    ++ (Call.step 0 ∷ Call.read_snapshot 1 0 0 ∷ steps 1 3)))

abbrev between_notes : List Note
between_notes =
    stepped 1 34 nothing (answers 2) ∷ stepped 1 20 (finds true) goes_on ∷ stepped 1 32 (fetches 0 true) goes_on ∷ started 1 (read_snapshot 0 0)
    ∷ stepped 0 46 (publishes 0 2) goes_on
    ∷ stepped 1 39 nothing (answers 1) ∷ stepped 1 20 (finds true) goes_on ∷ stepped 1 37 (fetches 0 true) goes_on ∷ started 1 (v_read 0)
    ∷ stepped 1 6 (moves 0) (answers 0) ∷ stepped 1 5 nothing goes_on ∷ started 1 take_snapshot ∷ to_45

between_told : run stamped_before_published 16 snapshot_between ≡ between_notes
unfolding stamped_before_published with_line but stepping_other stepping_by other_at notes_by told_by note_by words_by outcome making registering
    starting_v_read starting_v_cas starting_take_snapshot starting_read_snapshot header_damaged_at arguments_damaged kept_damaged running_damaged table
    row_of lines line_of_phase fetch_head line_20 line_39 line_43 line_45 line_46 line_5 line_6 line_34
between_told = refl

-- the takeSnapshot is 6, the vRead 9, the readSnapshot 14: the item held 2 at the first and 1 at the second
between_no_order : AnyOrder between_notes → ⊥
unfolding ledger entered put
between_no_order x =
    let y : InTurn between_notes 6 9 14 0 1 2 = in_turn between_notes x 6 9 14 0 1 2 refl refl refl tt tt tt in
    let then : Holds 0 2 (object y.before_a)
    = y.right_r.1 y.before_a (deeper _ _ y.before_a y.before_b y.before_r y.a_first y.b_then) in
    omega (arith, then.1, y.rising then.0, y.right_b.1)

pub stamped_before_published_refuted : Refuted stamped_before_published
unfolding stamped_before_published with_line but outcome making
stamped_before_published_refuted =
    refuted_by stamped_before_published 16 snapshot_between refl tt
    (λ d. between_no_order (any_order between_notes (subst OneOrder between_told d.promises.one_order)))

-- ---- leaving out the help in vRead: worker 1's vRead answers 2 while worker 0's node has no stamp; then it takes handle 0; worker 0 stamps its node
-- with 1; and worker 1 reads 1 at handle 0, though it read 2 before, and there is no order at all

-- the stamp with 1, after worker 1 has taken handle 0, and the read that passes it
abbrev stamped_later : List Call
stamped_later = Call.take_snapshot 1 ∷ steps 1 2 ++ (steps 0 3 ++ (Call.read_snapshot 1 0 0 ∷ steps 1 4))

abbrev passed_later : List Note → List Note
passed_later past =
    stepped 1 34 nothing (answers 1) ∷ stepped 1 34 nothing goes_on ∷ stepped 1 20 (finds true) goes_on ∷ stepped 1 32 (fetches 0 true) goes_on
    ∷ started 1 (read_snapshot 0 0) ∷ stepped 0 22 (stamps 0) goes_on ∷ stepped 0 21 nothing goes_on ∷ stepped 0 20 (finds false) goes_on
    ∷ stepped 1 6 (moves 0) (answers 0) ∷ stepped 1 5 nothing goes_on ∷ started 1 take_snapshot ∷ past

abbrev read_unhelped : List Call
read_unhelped = Call.register 1 100 ∷ Call.v_cas 0 0 1 2 ∷ steps 0 5 ++ (Call.v_read 1 0 ∷ steps 1 2 ++ stamped_later)

abbrev unhelped_notes : List Note
unhelped_notes =
    passed_later (stepped 1 39 nothing (answers 2) ∷ stepped 1 37 (fetches 0 false) goes_on ∷ started 1 (v_read 0)
    ∷ stepped 0 46 (publishes 0 2) goes_on ∷ to_45)

unhelped_told : run v_read_without_help 16 read_unhelped ≡ unhelped_notes
unfolding v_read_without_help with_line but stepping_other stepping_by other_at notes_by told_by note_by words_by outcome making registering
    starting_v_read starting_v_cas starting_take_snapshot starting_read_snapshot header_damaged_at arguments_damaged kept_damaged running_damaged table
    row_of lines line_of_phase fetch_head line_20 line_21 line_22 line_39 line_43 line_45 line_46 line_5 line_6 line_34
unhelped_told = refl

-- the vRead is 7, the takeSnapshot 10, the readSnapshot 16: the item held 2 at the first and 1 at the second
unhelped_no_order : AnyOrder unhelped_notes → ⊥
unfolding ledger entered put
unhelped_no_order x =
    let y : InTurn unhelped_notes 7 10 16 2 0 1 = in_turn unhelped_notes x 7 10 16 2 0 1 refl refl refl tt tt tt in
    omega (arith, y.right_a.1, y.rising y.right_a.0, (y.right_r.1 y.before_b y.b_then).1)

pub v_read_without_help_refuted : Refuted v_read_without_help
unfolding v_read_without_help with_line but outcome making
v_read_without_help_refuted =
    refuted_by v_read_without_help 16 read_unhelped refl tt
    (λ d. unhelped_no_order (any_order unhelped_notes (subst OneOrder unhelped_told d.promises.one_order)))

-- ---- leaving out the help in a lost vCAS: worker 1's vCAS(1,3) answers 0, so the value is no longer 1, while worker 0's node has no stamp; then as before
-- worker 1 reads 1 at a later handle, and there is no order at all

abbrev lost_unhelped : List Call
lost_unhelped =
    Call.register 1 100 ∷ Call.v_cas 0 0 1 2 ∷ steps 0 4 ++ (Call.v_cas 1 0 1 3 ∷ steps 1 4 ++ (Call.step 0 ∷ steps 1 4 ++ stamped_later))

abbrev lost_notes : List Note
lost_notes =
    passed_later (stepped 1 52 nothing (answers 0) ∷ stepped 1 51 nothing goes_on ∷ stepped 1 50 nothing goes_on ∷ stepped 1 46 nothing goes_on
    ∷ stepped 0 46 (publishes 0 2) goes_on ∷ stepped 1 45 nothing goes_on ∷ stepped 1 43 nothing goes_on ∷ stepped 1 20 (finds true) goes_on
    ∷ stepped 1 41 (fetches 0 true) goes_on ∷ started 1 (v_cas 0 1 3) ∷ to_45)

lost_told : run lost_v_cas_without_help 16 lost_unhelped ≡ lost_notes
unfolding lost_v_cas_without_help with_line but stepping_other stepping_by other_at notes_by told_by note_by words_by outcome making registering
    starting_v_cas starting_take_snapshot starting_read_snapshot header_damaged_at arguments_damaged kept_damaged running_damaged table row_of lines
    line_of_phase fetch_head line_20 line_21 line_22 line_43 line_45 line_46 line_50 line_52 line_5 line_6 line_34
lost_told = refl

-- the lost vCAS is 6, the takeSnapshot 16, the readSnapshot 22: the item held more than 1 at the first and 1 at the second
lost_no_order : AnyOrder lost_notes → ⊥
unfolding ledger entered put
lost_no_order x =
    let y : InTurn lost_notes 6 16 22 0 0 1 = in_turn lost_notes x 6 16 22 0 0 1 refl refl refl tt tt tt in
    let born : Born 0 (object y.before_a) = y.right_a.0 in
    omega (arith, not_old ((object y.before_a).value 0) y.right_a.1, y.above born, y.rising born, (y.right_r.1 y.before_b y.b_then).1)
  where
    not_old : (v : ℕ) → ◌≡◌ {A = ℕ} 0 (cond (eqb v 1) 1 0) → v ≢ 1
    not_old v e d = let z : ◌≡◌ {A = ℕ} 0 1 = subst (λ (k : ℕ). ◌≡◌ {A = ℕ} 0 (cond (eqb k 1) 1 0)) d e in omega arith

pub lost_v_cas_without_help_refuted : Refuted lost_v_cas_without_help
unfolding lost_v_cas_without_help with_line but outcome making
lost_v_cas_without_help_refuted =
    refuted_by lost_v_cas_without_help 16 lost_unhelped refl tt
    (λ d. lost_no_order (any_order lost_notes (subst OneOrder lost_told d.promises.one_order)))

-- ---- letting line 22 overwrite a valid stamp, document 01's run 8: worker 0's line 22 stamps the node with 0, worker 1's overwrites it with 1, and its
-- readSnapshot at handle 0 passes a change that took effect before the counter left 0: it answers 1, and not 2, against `reads`

abbrev run_8 : List Call
run_8 =
    Call.register 1 100 ∷ Call.v_cas 0 0 1 2 ∷ steps 0 7 ++ (Call.take_snapshot 1 ∷ steps 1 2 ++ (Call.read_snapshot 1 0 0 ∷ steps 1 2
    ++ (Call.step 0 ∷ steps 1 4)))

abbrev overwritten_notes : List Note
overwritten_notes =
    stepped 1 34 nothing (answers 1) ∷ stepped 1 34 nothing goes_on ∷ stepped 1 22 nothing goes_on ∷ stepped 1 21 nothing goes_on
    ∷ stepped 0 22 (stamps 0) goes_on ∷ stepped 1 20 (finds false) goes_on ∷ stepped 1 32 (fetches 0 false) goes_on ∷ started 1 (read_snapshot 0 0)
    ∷ stepped 1 6 (moves 0) (answers 0) ∷ stepped 1 5 nothing goes_on ∷ started 1 take_snapshot
    ∷ stepped 0 21 nothing goes_on ∷ stepped 0 20 (finds false) goes_on ∷ stepped 0 46 (publishes 0 2) goes_on ∷ to_45

overwritten_told : run stamp_overwritten_at_22 16 run_8 ≡ overwritten_notes
unfolding stamp_overwritten_at_22 with_line but stepping_other stepping_by other_at notes_by told_by note_by words_by outcome making registering
    starting_v_cas starting_take_snapshot starting_read_snapshot header_damaged_at arguments_damaged kept_damaged running_damaged table row_of lines
    line_of_phase fetch_head line_20 line_21 line_22 line_43 line_45 line_46 line_5 line_6 line_34
overwritten_told = refl

-- vCAS 1 published 2 at call 6, and its lines 21 and 22 were calls 8 and 14; the counter left 0 at call 11; the read is 12
overwritten_change : TellsOf overwritten_notes (change 8 0 2 6)
unfolding ledger entered put all_noted
overwritten_change =
    told_change overwritten_notes (executed overwritten_notes 13 refl refl) (executed overwritten_notes 11 refl refl) (executed overwritten_notes 4 refl refl)
    tt tt

overwritten_not_exact : (effects : List Effect) → Promises overwritten_notes effects → ⊥
unfolding ledger entered put all_noted
overwritten_not_exact effects x =
    let z : ◌≡◌ {A = ℕ} 1 2 = exact_value overwritten_notes effects x overwritten_change 0 11 tt tt tt 12 1 refl refl in omega arith

pub stamp_overwritten_at_22_refuted : Refuted stamp_overwritten_at_22
unfolding stamp_overwritten_at_22 with_line but outcome making
stamp_overwritten_at_22_refuted =
    refuted_by stamp_overwritten_at_22 16 run_8 refl tt
    (λ d. overwritten_not_exact d.effects (subst (λ (l : List Note). Promises l d.effects) overwritten_told d.promises))

-- ---- testing the counter against C at the start, C = 1 as in document 01's run 13: when handle 0 is taken, a free worker's takeSnapshot is refused,
-- against `accepted`

abbrev one_snapshot : List Call
one_snapshot = Call.take_snapshot 0 ∷ steps 0 2

abbrev full_notes : List Note
full_notes = stepped 0 6 (moves 0) (answers 0) ∷ stepped 0 5 nothing goes_on ∷ started 0 take_snapshot ∷ []

full_told : run counter_tested_at_the_start 1 one_snapshot ≡ full_notes
unfolding counter_tested_at_the_start but stepping_other stepping_by other_at notes_by told_by note_by words_by outcome making
    starting_take_snapshot header_damaged_at arguments_damaged kept_damaged running_damaged table row_of lines line_of_phase line_5 line_6
full_told = refl

full_free : (w : ℕ) → Free full_notes w
unfolding ledger entered put
full_free = all_free full_notes tt

start_refused : note_by counter_tested_at_the_start (now counter_tested_at_the_start 1 one_snapshot) (Call.take_snapshot 0) ≡ refused
unfolding counter_tested_at_the_start but stepping_other stepping_by other_at note_by words_by outcome making
    starting_take_snapshot header_damaged_at arguments_damaged kept_damaged running_damaged table row_of lines line_of_phase line_5 line_6
start_refused = refl

full_not_accepted : Broken counter_tested_at_the_start 1 one_snapshot
full_not_accepted d =
    let free : Free (run counter_tested_at_the_start 1 one_snapshot) 0 = subst (λ (l : List Note). Free l 0) (sym full_told) (full_free 0) in
    let z : ◌≡◌ {A = ℕ} 0 2 = ap note_tag (sym start_refused ∙ (d.accepted 0 take_snapshot).1 (omega arith, free, tt)) in omega arith

pub counter_tested_at_the_start_refuted : Refuted counter_tested_at_the_start
unfolding counter_tested_at_the_start but outcome making
counter_tested_at_the_start_refuted = refuted_by counter_tested_at_the_start 1 one_snapshot refl tt full_not_accepted

-- ---- stopping only at a stamp strictly below the handle. A readSnapshot at handle 1 passes the change of stamp 1, which took effect before the counter
-- left 1: it answers 1, and not 2, against `reads`

abbrev read_at_1 : List Call
read_at_1 =
    Call.register 1 100 ∷ Call.take_snapshot 0 ∷ steps 0 2 ++ (Call.v_cas 0 0 1 2 ∷ steps 0 9
    ++ (Call.take_snapshot 0 ∷ steps 0 2 ++ (Call.read_snapshot 0 0 1 ∷ steps 0 4)))

abbrev passed_notes : List Note
passed_notes =
    stepped 0 34 nothing (answers 1) ∷ stepped 0 34 nothing goes_on ∷ stepped 0 20 (finds true) goes_on ∷ stepped 0 32 (fetches 0 true) goes_on
    ∷ started 0 (read_snapshot 0 1) ∷ stepped 0 6 (moves 1) (answers 1) ∷ stepped 0 5 nothing goes_on ∷ started 0 take_snapshot
    ∷ stepped 0 48 nothing (answers 1) ∷ stepped 0 22 (stamps 0) goes_on ∷ stepped 0 21 nothing goes_on ∷ stepped 0 20 (finds false) goes_on
    ∷ stepped 0 46 (publishes 0 2) goes_on ∷ stepped 0 45 nothing goes_on ∷ stepped 0 43 nothing goes_on ∷ stepped 0 20 (finds true) goes_on
    ∷ stepped 0 41 (fetches 0 true) goes_on ∷ started 0 (v_cas 0 1 2)
    ∷ stepped 0 6 (moves 0) (answers 0) ∷ stepped 0 5 nothing goes_on ∷ started 0 take_snapshot ∷ registered 0 1 100 ∷ []

passed_told : run stops_strictly_below 16 read_at_1 ≡ passed_notes
unfolding stops_strictly_below with_line but stepping_other stepping_by other_at notes_by told_by note_by words_by outcome making registering
    starting_v_cas starting_take_snapshot starting_read_snapshot header_damaged_at arguments_damaged kept_damaged running_damaged table row_of lines
    line_of_phase fetch_head line_20 line_21 line_22 line_43 line_45 line_46 line_48 line_5 line_6 line_34
passed_told = refl

-- vCAS 4 published 2 at call 9, and its lines 21 and 22 were calls 11 and 12; the counter left 1 at call 16; the read is 17
passed_change : TellsOf passed_notes (change 11 0 2 9)
unfolding ledger entered put all_noted
passed_change =
    told_change passed_notes (executed passed_notes 12 refl refl) (executed passed_notes 10 refl refl) (executed passed_notes 9 refl refl) tt tt

passed_not_exact : (effects : List Effect) → Promises passed_notes effects → ⊥
unfolding ledger entered put all_noted
passed_not_exact effects x =
    let z : ◌≡◌ {A = ℕ} 1 2 = exact_value passed_notes effects x passed_change 1 16 tt tt tt 17 1 refl refl in omega arith

pub stops_strictly_below_refuted : Refuted stops_strictly_below
unfolding stops_strictly_below with_line but outcome making
stops_strictly_below_refuted =
    refuted_by stops_strictly_below 16 read_at_1 refl tt
    (λ d. passed_not_exact d.effects (subst (λ (l : List Note). Promises l d.effects) passed_told d.promises))

-- And at handle 0 it passes the item's birth, and then there is no older node: refusal 2, against `never_2`.

abbrev read_at_0 : List Call
read_at_0 = Call.register 1 100 ∷ Call.take_snapshot 0 ∷ steps 0 2 ++ (Call.read_snapshot 0 0 0 ∷ steps 0 2)

pub passes_the_birth : Broken stops_strictly_below 16 read_at_0
unfolding stops_strictly_below with_line but stepping_other stepping_by other_at words_by outcome making registering starting_take_snapshot
    starting_read_snapshot header_damaged_at arguments_damaged kept_damaged running_damaged table row_of lines line_of_phase fetch_head line_20 line_5
    line_6 line_34
passes_the_birth d = d.never_2 (Call.step 0) (plain_call stops_strictly_below (now stops_strictly_below 16 read_at_0) (Call.step 0) tt) refl
