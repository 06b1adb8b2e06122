-- Wrong abandons, each refuted by a run: one that keeps the node, one that moves the counter, one that withdraws a change which was published and has no
-- stamp yet, and one that stamps it.
use Rattle.std.specs.Prelude.{◌≡◌, refl, true, false, not, List, [], ◌∷◌, ◌++◌, ℕ, ◌+◌, ◌-◌, eqb}
use Rattle.std.proofs.Common.{sym, ◌∙◌, subst, arith}
use Rattle.definitions.specs.Cells.{Cells, Assignment, ◌≔◌, counter, given_back, phase, item, node, head, older, stamp, cleared}
use Rattle.definitions.specs.Answers.{◌⇒◌, unless, accepts}
use Rattle.definitions.specs.Phases.{table, row_of}
use Rattle.definitions.specs.Damage.{header_damaged_at, arguments_damaged, kept_damaged, running_damaged, worker_damaged}
use Rattle.definitions.specs.Lines.{fetch_head, line_20, line_43, line_45, line_46, lines, line_of_phase}
use Rattle.definitions.specs.Calls.{Call, making, registering, stepping, starting_v_cas, starting_take_snapshot, starting_total, outcome, on_catalogue, no_worker}
use Rattle.history.specs.Definition1.{put, v_cas, take_snapshot, total}
use Rattle.history.specs.Notes.{
  moves,
  fetches,
  finds,
  publishes,
  nothing,
  goes_on,
  ends_with,
  Note,
  registered,
  started,
  stepped,
  abandoned,
  note_by,
  Catalogue,
  ledger,
  entered,
  nodes_in_use,
  Effect,
  snapshot,
}
use Rattle.history.specs.Statements.{Executed, Stamped, TellsOf, Promises}
use Rattle.history.proofs.Examples.{steps}
use Rattle.refuted.specs.Catalogues.{told_by, words_by, notes_by, Refuted}
use Rattle.refuted.specs.Wrong.{but, but_abandons}
use Rattle.refuted.specs.Tests.{all_noted, every_line, executed}
use Rattle.refuted.specs.Runs.{now, run, Broken, refuted_by}

-- It refuses as it should but for the nodes, and writes something else before it clears the record.
abbrev writing : (Cells → ℕ → List Assignment) → Catalogue
writing writes =
    but_abandons (λ ws w. on_catalogue ws (λ m.
    unless (no_worker m w ⇒ 3 ∷ worker_damaged m w ⇒ 2 ∷ eqb (m (phase w)) 0 ⇒ 5 ∷ []) (accepts 0 (writes m w ++ cleared w))))

-- ---- it keeps the node: of four nodes one is in use, and line 45 ends with 11

abbrev pub abandon_keeps_the_node : Catalogue
abandon_keeps_the_node = writing (λ m w. [])

abbrev taken_and_left : List Call → List Call
taken_and_left more = Call.v_cas 0 0 1 2 ∷ steps 0 4 ++ (Call.abandon 0 ∷ more)

abbrev used_up : List Call
used_up = Call.register 1 100 ∷ taken_and_left (taken_and_left (taken_and_left (Call.v_cas 0 0 1 2 ∷ steps 0 3)))

one_in_use : nodes_in_use (run abandon_keeps_the_node 9 used_up) ≡ 1
unfolding nodes_in_use but notes_by told_by note_by words_by outcome making registering starting_v_cas stepping header_damaged_at arguments_damaged kept_damaged
    running_damaged table row_of lines line_of_phase fetch_head line_20 line_43 line_45 line_46
one_in_use = refl

ends_11 : note_by abandon_keeps_the_node (now abandon_keeps_the_node 9 used_up) (Call.step 0) ≡ stepped 0 45 nothing (ends_with 11)
unfolding but notes_by told_by note_by words_by outcome making registering starting_v_cas stepping header_damaged_at arguments_damaged kept_damaged
    running_damaged table row_of lines line_of_phase fetch_head line_20 line_43 line_45 line_46
ends_11 = refl

pub abandon_keeps_the_node_refuted : Refuted abandon_keeps_the_node
unfolding but outcome making
abandon_keeps_the_node_refuted = refuted_by abandon_keeps_the_node 9 used_up refl tt (λ d.
    let z : ◌≡◌ {A = ℕ} 1 4 = sym one_in_use ∙ (d.no_node 0 nothing (ends_with 11) ends_11).0 refl in omega arith)

-- ---- it moves the counter: a total is accepted at a handle that no takeSnapshot has

abbrev pub abandon_moves_the_counter : Catalogue
abandon_moves_the_counter = writing (λ m w. counter ≔ (m counter + 1) ∷ [])

abbrev no_snapshot : List Call
no_snapshot = Call.take_snapshot 0 ∷ Call.abandon 0 ∷ []

abbrev no_snapshot_notes : List Note
no_snapshot_notes = abandoned 0 false ∷ started 0 take_snapshot ∷ []

no_snapshot_told : run abandon_moves_the_counter 9 no_snapshot ≡ no_snapshot_notes
unfolding but notes_by told_by note_by words_by outcome making starting_take_snapshot header_damaged_at arguments_damaged kept_damaged running_damaged
    table row_of lines line_of_phase
no_snapshot_told = refl

total_starts : note_by abandon_moves_the_counter (now abandon_moves_the_counter 9 no_snapshot) (Call.total 0 0 0) ≡ started 0 (total 0 0)
unfolding but notes_by told_by note_by words_by outcome making starting_take_snapshot starting_total header_damaged_at arguments_damaged kept_damaged
    running_damaged table row_of lines line_of_phase
total_starts = refl

never_moved : (o t : ℕ) → Executed (run abandon_moves_the_counter 9 no_snapshot) o 6 (moves 0) t → ⊥
unfolding all_noted
never_moved o t x =
    every_line (λ o line d t. not (eqb line 6)) no_snapshot_notes tt (subst (λ (l : List Note). Executed l o 6 (moves 0) t) no_snapshot_told x)

counter_broken : Broken abandon_moves_the_counter 9 no_snapshot
counter_broken d =
    let a = (d.accepted 0 (total 0 0)).0 total_starts in
    let told : TellsOf (run abandon_moves_the_counter 9 no_snapshot) (snapshot a.2.1 0) = (d.promises.exactly (snapshot a.2.1 0)).0 a.2.2 in
    never_moved told.0 a.2.1 told.1

pub abandon_moves_the_counter_refuted : Refuted abandon_moves_the_counter
unfolding but outcome making
abandon_moves_the_counter_refuted = refuted_by abandon_moves_the_counter 9 no_snapshot refl tt counter_broken

-- ---- it withdraws a published change, or stamps it: the next change of the item, which finds the old value or the new one, is published over a node that
-- no line 22 has stamped

abbrev pub abandon_withdraws_a_change : Catalogue
abandon_withdraws_a_change =
    writing (λ m w. head (m (item w)) ≔ (m (older (m (node w))) - 1) ∷ older (m (node w)) ≔ m given_back ∷ given_back ≔ (m (node w) + 1) ∷ [])

abbrev pub abandon_stamps : Catalogue
abandon_stamps = writing (λ m w. stamp (m (node w)) ≔ m counter ∷ [])

abbrev two_changes : (found : ℕ) → List Call
two_changes found = Call.register 1 100 ∷ Call.v_cas 0 0 1 2 ∷ steps 0 5 ++ (Call.abandon 0 ∷ Call.v_cas 1 0 found 3 ∷ steps 1 5)

abbrev two_changes_notes : (found : ℕ) → List Note
two_changes_notes found =
    stepped 1 46 (publishes 0 3) goes_on ∷ stepped 1 45 nothing goes_on ∷ stepped 1 43 nothing goes_on ∷ stepped 1 20 (finds true) goes_on
    ∷ stepped 1 41 (fetches 0 true) goes_on ∷ started 1 (v_cas 0 found 3) ∷ abandoned 0 false
    ∷ stepped 0 46 (publishes 0 2) goes_on ∷ stepped 0 45 nothing goes_on ∷ stepped 0 43 nothing goes_on ∷ stepped 0 20 (finds true) goes_on
    ∷ stepped 0 41 (fetches 0 true) goes_on ∷ started 0 (v_cas 0 1 2) ∷ registered 0 1 100 ∷ []

withdrawn_told : run abandon_withdraws_a_change 9 (two_changes 1) ≡ two_changes_notes 1
unfolding but notes_by told_by note_by words_by outcome making registering starting_v_cas stepping header_damaged_at arguments_damaged kept_damaged running_damaged
    table row_of lines line_of_phase fetch_head line_20 line_43 line_45 line_46
withdrawn_told = refl

stamped_told : run abandon_stamps 9 (two_changes 2) ≡ two_changes_notes 2
unfolding but notes_by told_by note_by words_by outcome making registering starting_v_cas stepping header_damaged_at arguments_damaged kept_damaged running_damaged
    table row_of lines line_of_phase fetch_head line_20 line_43 line_45 line_46
stamped_told = refl

never_stamped : (found t : ℕ) → Stamped (two_changes_notes found) 0 t → ⊥
unfolding all_noted
never_stamped found t (o, x) = every_line (λ o line d t. not (eqb line 22)) (two_changes_notes found) tt x

not_promised : (found : ℕ) (effects : List Effect) → Promises (two_changes_notes found) effects → ⊥
unfolding ledger entered put
not_promised found effects x =
    let l = two_changes_notes found in
    let y = x.stamped_first 0 6 13 (1, 2, executed l 7 refl refl) (8, 3, executed l 0 refl refl) (omega arith) in
    never_stamped found y.0 y.1

two_broken : (f : Catalogue) (found : ℕ) → run f 9 (two_changes found) ≡ two_changes_notes found → Broken f 9 (two_changes found)
two_broken f found told d = not_promised found d.effects (subst (λ (l : List Note). Promises l d.effects) told d.promises)

pub abandon_withdraws_a_change_refuted : Refuted abandon_withdraws_a_change
unfolding but outcome making
abandon_withdraws_a_change_refuted =
    refuted_by abandon_withdraws_a_change 9 (two_changes 1) refl tt (two_broken abandon_withdraws_a_change 1 withdrawn_told)

pub abandon_stamps_refuted : Refuted abandon_stamps
unfolding but outcome making
abandon_stamps_refuted = refuted_by abandon_stamps 9 (two_changes 2) refl tt (two_broken abandon_stamps 2 stamped_told)
