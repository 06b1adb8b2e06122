-- A helper stamps another's node after two snapshots were taken in between. The helper is worker 1's vRead (7): its line 21 was call 10, its line 22
-- call 17, and between them worker 2's takeSnapshots (11, 14) moved the counter, at calls 13 and 16.
use Rattle.std.specs.Prelude.{◌≡◌, refl, ◌≢◌, true, false, List, [], ◌∷◌, ℕ, ◌≤◌, drop}
use Rattle.std.proofs.Common.{ap, sym, ◌∙◌, subst, inl, inr, arith}
use Rattle.definitions.specs.Phases.{table, row_of}
use Rattle.definitions.specs.Damage.{header_damaged_at, arguments_damaged, kept_damaged, running_damaged}
use Rattle.definitions.specs.Lines.{
  fetch_head,
  line_20,
  line_21,
  line_22,
  line_39,
  line_43,
  line_45,
  line_46,
  line_48,
  line_5,
  line_6,
  line_34,
  lines,
  line_of_phase,
}
use Rattle.definitions.specs.Calls.{
  registering,
  starting_v_read,
  starting_v_cas,
  starting_take_snapshot,
  starting_read_snapshot,
  stepping,
  making,
  outcome,
}
use Rattle.history.specs.Definition1.{Operation, put, v_read, v_cas, take_snapshot, read_snapshot, apply, total_to, total_of}
use Rattle.history.specs.Tools.{Same, same?}
use Rattle.history.specs.Notes.{
  Deed,
  fetches,
  finds,
  publishes,
  stamps,
  moves,
  nothing,
  goes_on,
  answers,
  Note,
  registered,
  started,
  stepped,
  Fate,
  note_by,
  told,
  words_after,
  notes,
  ledger,
  entered,
  Effect,
  birth,
  change,
  snapshot,
  object_at,
  changes_between,
}
use Rattle.history.specs.Statements.{In, Falling, fate_of, Executed, Stamped, HeadInstant, Instant, TellsOf}
use Rattle.history.specs.Effects.{insert, last_published, effects}
use Rattle.history.proofs.Immediately.{other_line}
use Rattle.history.proofs.Examples.{helped}
use Rattle.history.proofs.Examples as Examples
use Rattle.order.specs.WorkedRuns.{told_of, Plain, promised, order_of_theorem, same_order, answered, differ}
use Rattle.order.specs.WorkedTimes.{only_one, executed_at, listed, changed_at, snapshot_time, change_time}

-- the run, note by note, the newest first: between `stepped 1 21` and `stepped 1 22` stand both `moves`
abbrev run : List Note
run =
    stepped 0 48 nothing (answers 1) ∷ stepped 0 20 (finds true) goes_on
    ∷ stepped 2 34 nothing (answers 2) ∷ stepped 2 20 (finds true) goes_on ∷ stepped 2 32 (fetches 0 true) goes_on ∷ started 2 (read_snapshot 0 0)
    ∷ stepped 1 39 nothing (answers 2) ∷ stepped 1 22 (stamps 0) goes_on
    ∷ stepped 2 6 (moves 1) (answers 1) ∷ stepped 2 5 nothing goes_on ∷ started 2 take_snapshot
    ∷ stepped 2 6 (moves 0) (answers 0) ∷ stepped 2 5 nothing goes_on ∷ started 2 take_snapshot
    ∷ stepped 1 21 nothing goes_on ∷ stepped 1 20 (finds false) goes_on ∷ stepped 1 37 (fetches 0 false) goes_on ∷ started 1 (v_read 0)
    ∷ stepped 0 46 (publishes 0 2) goes_on ∷ stepped 0 45 nothing goes_on ∷ stepped 0 43 nothing goes_on ∷ stepped 0 20 (finds true) goes_on
    ∷ stepped 0 41 (fetches 0 true) goes_on ∷ started 0 (v_cas 0 1 2) ∷ registered 0 1 100 ∷ []

helped_notes : told_of helped ≡ run
unfolding helped notes told note_by words_after outcome making registering starting_v_read starting_v_cas starting_take_snapshot starting_read_snapshot
    stepping header_damaged_at arguments_damaged kept_damaged running_damaged table row_of lines line_of_phase fetch_head line_20 line_21 line_22
    line_39 line_43 line_45 line_46 line_48 line_5 line_6 line_34
helped_notes = refl

-- when the helper executed lines 21 and 22
helped_line_21 : executed_at 7 21 (told_of helped) ≡ 10 ∷ []
unfolding executed_at ledger entered put
helped_line_21 = ap (executed_at 7 21) helped_notes ∙ refl

helped_line_22 : executed_at 7 22 (told_of helped) ≡ 17 ∷ []
unfolding executed_at ledger entered put
helped_line_22 = ap (executed_at 7 22) helped_notes ∙ refl

-- ---- two orders: by its answer, the change (1) would be the last; the vRead (7) comes after both snapshots, for it took effect at its line 22

helped_plain : Plain helped
unfolding helped
helped_plain = tt

helped_order : (order_of_theorem helped helped_plain).order ≡ 19 ∷ 7 ∷ 14 ∷ 11 ∷ 1 ∷ 0 ∷ []
helped_order = same_order helped helped_plain ∙ Examples.helped_order

helped_answers : answered (told_of helped) ≡ 1 ∷ 19 ∷ 7 ∷ 14 ∷ 11 ∷ 0 ∷ []
unfolding answered ledger entered put
helped_answers = ap answered helped_notes ∙ refl

helped_differs : (order_of_theorem helped helped_plain).order ≢ answered (told_of helped)
helped_differs = differ helped_order helped_answers (λ e. omega arith)

-- ---- what took effect: the change at the helper's line 21, so before both snapshots, though its node had no stamp until call 17

helped_effects : effects (told_of helped) ≡ snapshot 16 1 ∷ snapshot 13 0 ∷ change 10 0 2 6 ∷ birth 0 0 1 100 ∷ []
unfolding effects insert ledger entered put last_published
helped_effects = ap effects helped_notes ∙ refl

-- Definition 1's object at the first snapshot, call 13, and just before the change, call 9; one change after call 9 was published before call 7.
helped_object : ((object_at 13 (effects (told_of helped))).value 0 ≡ 2)
    × ((object_at 9 (effects (told_of helped))).value 0 ≡ 1)
    × (total_of 2 (object_at 13 (effects (told_of helped))) ≡ 100)
    × (changes_between 0 9 7 (effects (told_of helped)) ≡ 1)
unfolding object_at changes_between apply total_to put
helped_object = (
  ap (λ (l : List Effect). (object_at 13 l).value 0) helped_effects ∙ refl,
  ap (λ (l : List Effect). (object_at 9 l).value 0) helped_effects ∙ refl,
  ap (λ (l : List Effect). total_of 2 (object_at 13 l)) helped_effects ∙ refl,
  ap (changes_between 0 9 7) helped_effects ∙ refl,
)

-- ---- what the operations came to: the vCAS answered last, and the readSnapshot at handle 0 answered its value in 3 steps

helped_change : fate_of (told_of helped) 1
    ≡ record { operation = v_cas 0 1 2; worker = 0; lines = 48 ∷ 20 ∷ 46 ∷ 45 ∷ 43 ∷ 20 ∷ 41 ∷ []; ending = answers 1; at = 24 }
unfolding ledger entered put
helped_change = ap (λ (l : List Note). fate_of l 1) helped_notes ∙ refl

helped_helper : fate_of (told_of helped) 7
    ≡ record { operation = v_read 0; worker = 1; lines = 39 ∷ 22 ∷ 21 ∷ 20 ∷ 37 ∷ []; ending = answers 2; at = 18 }
unfolding ledger entered put
helped_helper = ap (λ (l : List Note). fate_of l 7) helped_notes ∙ refl

helped_first : fate_of (told_of helped) 11
    ≡ record { operation = take_snapshot; worker = 2; lines = 6 ∷ 5 ∷ []; ending = answers 0; at = 13 }
unfolding ledger entered put
helped_first = ap (λ (l : List Note). fate_of l 11) helped_notes ∙ refl

helped_second : fate_of (told_of helped) 14
    ≡ record { operation = take_snapshot; worker = 2; lines = 6 ∷ 5 ∷ []; ending = answers 1; at = 16 }
unfolding ledger entered put
helped_second = ap (λ (l : List Note). fate_of l 14) helped_notes ∙ refl

helped_read : fate_of (told_of helped) 19
    ≡ record { operation = read_snapshot 0 0; worker = 2; lines = 34 ∷ 20 ∷ 32 ∷ []; ending = answers 2; at = 22 }
unfolding ledger entered put
helped_read = ap (λ (l : List Note). fate_of l 19) helped_notes ∙ refl

-- ---- the times in the order of the theorem

helped_change_time : (order_of_theorem helped helped_plain).time 1 ≡ 10
unfolding executed_at changed_at ledger entered put
helped_change_time =
    change_time helped helped_plain 1 1 0 1 2 6 10 helped_change refl refl refl (ap (executed_at 1 46) helped_notes ∙ refl)
    (ap (changed_at 6) helped_effects ∙ refl)

helped_snapshot_times : ((order_of_theorem helped helped_plain).time 11 ≡ 13) × ((order_of_theorem helped helped_plain).time 14 ≡ 16)
helped_snapshot_times = (
  snapshot_time helped helped_plain 11 0 13 helped_first refl refl
      (subst (λ (l : List Effect). In (snapshot 13 0) l) (sym helped_effects) (inr (inl refl))),
  snapshot_time helped helped_plain 14 1 16 helped_second refl refl
      (subst (λ (l : List Effect). In (snapshot 16 1) l) (sym helped_effects) (inl refl)),
)

-- the helper's own, its line 22: the first to stamp a node of the item since it fetched the head, call 8
helped_helper_time : (order_of_theorem helped helped_plain).time 7 ≡ 17
unfolding executed_at ledger entered put
helped_helper_time =
    at (subst (λ (op : Operation). Instant (told_of helped) 7 2 op τ) (ap (λ (f : Fate). f.operation) helped_helper)
    ((order_of_theorem helped helped_plain).instants 7 2 (ap (λ (f : Fate). f.ending) helped_helper)))
  where
    τ : ℕ
    τ = (order_of_theorem helped helped_plain).time 7

    after_snapshots : 16 ≤ τ
    after_snapshots = subst (λ (t : ℕ). t ≤ τ) helped_snapshot_times.1
        ((subst (λ (l : List ℕ). Falling (order_of_theorem helped helped_plain).time l) helped_order (order_of_theorem helped helped_plain).falling
        ).1.0 14 (inl refl))

    moved : TellsOf (told_of helped) (snapshot 16 1)
    moved = ((promised helped helped_plain).exactly (snapshot 16 1)).0
        (subst (λ (l : List Effect). In (snapshot 16 1) l) (sym helped_effects) (inl refl))

    stamped : Stamped (told_of helped) 0 17
    stamped = subst (λ (l : List Note). Stamped l 0 17) (sym helped_notes) (
      7,
      record {
        past = drop 8 run;
        w = 1;
        e = goes_on;
        noted = inr (inr (inr (inr (inr (inr (inr (inl (refl, refl))))))));
        its = refl;
        at = refl;
      },
    )

    fetched : {d : Deed} {f : ℕ} → Executed (told_of helped) 7 37 d f → f ≡ 8
    fetched {d} {f} X = only_one (subst (λ (l : List ℕ). In f l) (ap (executed_at 7 37) helped_notes ∙ refl) (listed (told_of helped) X))

    at : HeadInstant (told_of helped) 7 0 37 τ → τ ≡ 17
    at (inl X) = absurd (omega (arith, fetched X, after_snapshots))
    at (inr (f, r, X, (q, Y, (later, first), Z, N))) = which (same? τ 16)
      where
        which : Same τ 16 → τ ≡ 17
        which (Same.eq e) =
            absurd (other_line (told_of helped) (subst (λ (t : ℕ). Executed (told_of helped) q 22 (stamps 0) t) e Y) moved.1 (λ e. omega arith))
        which (Same.ne n) = omega (arith, n, after_snapshots, first 17 stamped (omega (arith, fetched X)))
