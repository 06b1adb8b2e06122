-- A lost vCAS comes right after the first change, though a second change took effect before it ended.
use Rattle.std.specs.Prelude.{◌≡◌, refl, ◌≢◌, true, false, List, [], ◌∷◌, ℕ}
use Rattle.std.proofs.Common.{ap, sym, ◌∙◌, subst, inl, inr, arith}
use Rattle.definitions.specs.Phases.{table, row_of}
use Rattle.definitions.specs.Damage.{header_damaged_at, arguments_damaged, kept_damaged, running_damaged}
use Rattle.definitions.specs.Lines.{fetch_head, line_20, line_21, line_22, line_43, line_45, line_46, line_48, line_50, line_52, lines, line_of_phase}
use Rattle.definitions.specs.Calls.{registering, starting_v_cas, stepping, making, outcome}
use Rattle.history.specs.Definition1.{put, v_cas}
use Rattle.history.specs.Notes.{fetches, finds, publishes, stamps, nothing, goes_on, answers, Note, registered, started, stepped, note_by, told, words_after, notes, ledger, entered, Effect, birth, change, time}
use Rattle.history.specs.Statements.{In, fate_of, Executed, LossInstant, CasInstant, TellsOf}
use Rattle.history.specs.Effects.{insert, last_published, effects}
use Rattle.history.proofs.Immediately.{same_event}
use Rattle.history.proofs.EffectsRight.{effect_tag, effect_published}
use Rattle.history.proofs.Examples.{lost}
use Rattle.history.proofs.Examples as Examples
use Rattle.order.specs.WorkedRuns.{told_of, Plain, promised, order_of_theorem, same_order, answered, differ}
use Rattle.order.specs.WorkedTimes.{only_one, executed_at, listed, changed_at, cas_instant, change_time}

-- The run, note by note, the newest first. Worker 1's vCAS(1,3) (2) is past 45 when worker 0's (1) and then worker 2's (16) change the value; its own
-- line 46 publishes nothing. First up to the second change's line 46, call 21, then all of it.
abbrev before_21 : List Note
before_21 =
    stepped 2 45 nothing goes_on ∷ stepped 2 43 nothing goes_on ∷ stepped 2 20 (finds true) goes_on
    ∷ stepped 2 41 (fetches 0 true) goes_on ∷ started 2 (v_cas 0 2 0)
    ∷ stepped 0 48 nothing (answers 1) ∷ stepped 0 22 (stamps 0) goes_on ∷ stepped 0 21 nothing goes_on ∷ stepped 0 20 (finds false) goes_on
    ∷ stepped 0 46 (publishes 0 2) goes_on ∷ stepped 0 45 nothing goes_on ∷ stepped 0 43 nothing goes_on ∷ stepped 0 20 (finds true) goes_on
    ∷ stepped 0 41 (fetches 0 true) goes_on
    ∷ stepped 1 45 nothing goes_on ∷ stepped 1 43 nothing goes_on ∷ stepped 1 20 (finds true) goes_on ∷ stepped 1 41 (fetches 0 true) goes_on
    ∷ started 1 (v_cas 0 1 3) ∷ started 0 (v_cas 0 1 2) ∷ registered 0 1 100 ∷ []

abbrev run : List Note
run =
    stepped 1 52 nothing (answers 0) ∷ stepped 1 20 (finds true) goes_on ∷ stepped 1 51 nothing goes_on ∷ stepped 1 50 nothing goes_on
    ∷ stepped 1 46 nothing goes_on
    ∷ stepped 2 48 nothing (answers 1) ∷ stepped 2 22 (stamps 0) goes_on ∷ stepped 2 21 nothing goes_on ∷ stepped 2 20 (finds false) goes_on
    ∷ stepped 2 46 (publishes 0 0) goes_on ∷ before_21

lost_notes : told_of lost ≡ run
unfolding lost notes told note_by words_after outcome making registering starting_v_cas stepping header_damaged_at arguments_damaged kept_damaged
    running_damaged table row_of lines line_of_phase fetch_head line_20 line_21 line_22 line_43 line_45 line_46 line_48 line_50 line_52
lost_notes = refl

-- ---- two orders: by its answer, operation 2 would be the last

lost_plain : Plain lost
unfolding lost
lost_plain = tt

lost_order : (order_of_theorem lost lost_plain).order ≡ 16 ∷ 2 ∷ 1 ∷ 0 ∷ []
lost_order = same_order lost lost_plain ∙ Examples.lost_order

lost_answers : answered (told_of lost) ≡ 2 ∷ 16 ∷ 1 ∷ 0 ∷ []
unfolding answered ledger entered put
lost_answers = ap answered lost_notes ∙ refl

lost_differs : (order_of_theorem lost lost_plain).order ≢ answered (told_of lost)
lost_differs = differ lost_order lost_answers (λ e. omega arith)

-- ---- both changes took effect before operation 2 ended: at calls 13 and 23, published at calls 11 and 21; it ended at line 52, call 30

lost_effects : effects (told_of lost) ≡ change 23 0 0 21 ∷ change 13 0 2 11 ∷ birth 0 0 1 100 ∷ []
unfolding effects insert ledger entered put last_published
lost_effects = ap effects lost_notes ∙ refl

lost_loser : fate_of (told_of lost) 2
    ≡ record { operation = v_cas 0 1 3; worker = 1; lines = 52 ∷ 20 ∷ 51 ∷ 50 ∷ 46 ∷ 45 ∷ 43 ∷ 20 ∷ 41 ∷ []; ending = answers 0; at = 30 }
unfolding ledger entered put
lost_loser = ap (λ (l : List Note). fate_of l 2) lost_notes ∙ refl

lost_first : fate_of (told_of lost) 1
    ≡ record { operation = v_cas 0 1 2; worker = 0; lines = 48 ∷ 22 ∷ 21 ∷ 20 ∷ 46 ∷ 45 ∷ 43 ∷ 20 ∷ 41 ∷ []; ending = answers 1; at = 15 }
unfolding ledger entered put
lost_first = ap (λ (l : List Note). fate_of l 1) lost_notes ∙ refl

lost_second : fate_of (told_of lost) 16
    ≡ record { operation = v_cas 0 2 0; worker = 2; lines = 48 ∷ 22 ∷ 21 ∷ 20 ∷ 46 ∷ 45 ∷ 43 ∷ 20 ∷ 41 ∷ []; ending = answers 1; at = 25 }
unfolding ledger entered put
lost_second = ap (λ (l : List Note). fate_of l 16) lost_notes ∙ refl

-- ---- the times in the order of the theorem: the loser has that of the first change

lost_first_time : (order_of_theorem lost lost_plain).time 1 ≡ 13
unfolding executed_at changed_at ledger entered put
lost_first_time =
    change_time lost lost_plain 1 1 0 1 2 11 13 lost_first refl refl refl (ap (executed_at 1 46) lost_notes ∙ refl)
    (ap (changed_at 11) lost_effects ∙ refl)

lost_second_time : (order_of_theorem lost lost_plain).time 16 ≡ 23
unfolding executed_at changed_at ledger entered put
lost_second_time =
    change_time lost lost_plain 16 1 0 2 0 21 23 lost_second refl refl refl (ap (executed_at 16 46) lost_notes ∙ refl)
    (ap (changed_at 21) lost_effects ∙ refl)

-- the first publication since its line 41, call 3, was at call 11
lost_loser_time : (order_of_theorem lost lost_plain).time 2 ≡ 13
unfolding executed_at ledger entered put
lost_loser_time = at (cas_instant lost lost_plain 2 0 0 1 3 lost_loser refl refl)
  where
    τ : ℕ
    τ = (order_of_theorem lost lost_plain).time 2

    first_published : TellsOf (told_of lost) (change 13 0 2 11)
    first_published = ((promised lost lost_plain).exactly (change 13 0 2 11)).0
        (subst (λ (l : List Effect). In (change 13 0 2 11) l) (sym lost_effects) (inr (inl refl)))

    second_published : Executed (told_of lost) 16 46 (publishes 0 0) 21
    second_published = subst (λ (l : List Note). Executed l 16 46 (publishes 0 0) 21) (sym lost_notes)
        (record { past = before_21; w = 2; e = goes_on; noted = inr (inr (inr (inr (inr (inr (inr (inr (inr (inl (refl, refl)))))))))); its = refl; at = refl })

    by : LossInstant (told_of lost) 2 0 τ → τ ≡ 13
    by (c, (f, v, p, (valid, X), Y, (later, first)), (v', p', s, Z, F)) =
        which (subst (λ (l : List Effect). In (change τ 0 v' p') l) lost_effects (((promised lost lost_plain).exactly (change τ 0 v' p')).1 (c, s, Z, F)))
      where
        fetched : f ≡ 3
        fetched = only_one (subst (λ (l : List ℕ). In f l) (ap (executed_at 2 41) lost_notes ∙ refl) (listed (told_of lost) X))

        -- the second change was published by operation 16, too late to be the first since then
        not_second : p' ≡ 21 → ⊥
        not_second e = omega (arith, late, first 11 (first_published.0, 2, first_published.2) (omega (arith, fetched)))
          where
            winner : c ≡ 16
            winner = (same_event (told_of lost) (subst (λ (t : ℕ). Executed (told_of lost) c 46 (publishes 0 v') t) e Z) second_published).2

            late : p ≡ 21
            late = only_one (subst (λ (l : List ℕ). In p l) (ap (executed_at 16 46) lost_notes ∙ refl)
                (listed (told_of lost) (subst (λ (c : ℕ). Executed (told_of lost) c 46 (publishes 0 v) p) winner Y)))

        which : In (change τ 0 v' p') (change 23 0 0 21 ∷ change 13 0 2 11 ∷ birth 0 0 1 100 ∷ []) → τ ≡ 13
        which (inl e) = absurd (not_second (ap effect_published e))
        which (inr (inl e)) = ap time e
        which (inr (inr (inl e))) = absurd (omega (arith, ap effect_tag e))
        which (inr (inr (inr n))) = absurd n

    at : CasInstant (told_of lost) 2 0 52 τ → τ ≡ 13
    at (inl (q, h)) = absurd (omega arith)
    at (inr (inl (q, c))) = absurd (omega arith)
    at (inr (inr (q, l))) = by l
