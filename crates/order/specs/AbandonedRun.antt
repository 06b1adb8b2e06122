-- A worker is abandoned after it published: its change stands in the order once, at the line 21 of the worker who stamped the node, and answered 1. Worker
-- 0's vCAS (1) published at call 6 and was abandoned at 7; its takeSnapshot (8) started before the node had its stamp, by worker 1's vRead (9): line 21 at
-- call 12, line 22 at 14. Worker 2's vCAS (17) was abandoned at call 22 with a node that it held: it stands nowhere, and the node is in use no more.
use Rattle.std.specs.Prelude.{◌≡◌, refl, true, false, List, [], ◌∷◌, ℕ, ◌<◌, drop}
use Rattle.std.proofs.Common.{ap, sym, ◌∙◌, subst, inl, inr}
use Rattle.definitions.specs.Phases.{table, row_of}
use Rattle.definitions.specs.Damage.{header_damaged_at, arguments_damaged, kept_damaged, running_damaged}
use Rattle.definitions.specs.Lines.{fetch_head, line_20, line_21, line_22, line_39, line_43, line_45, line_46, line_5, line_6, lines, line_of_phase}
use Rattle.definitions.specs.Calls.{registering, starting_v_read, starting_v_cas, starting_take_snapshot, stepping, abandoning, making, outcome}
use Rattle.history.specs.Definition1.{put, v_read, v_cas, take_snapshot}
use Rattle.history.specs.Notes.{
  fetches,
  finds,
  publishes,
  stamps,
  moves,
  nothing,
  goes_on,
  answers,
  given_up,
  Note,
  registered,
  started,
  stepped,
  abandoned,
  note_by,
  told,
  words_after,
  notes,
  ledger,
  entered,
  nodes_in_use,
  Effect,
  birth,
  change,
  snapshot,
}
use Rattle.history.specs.Statements.{In, fate_of, Executed, Abandoned, ChangeInstant, TellsOf}
use Rattle.history.specs.Effects.{insert, last_published, effects}
use Rattle.history.proofs.Immediately.{same_event}
use Rattle.history.proofs.Examples.{left_behind, left_behind_order}
use Rattle.order.specs.WorkedRuns.{told_of, Plain, promised, order_of_theorem, same_order, answered}

-- the run, note by note, the newest first
abbrev run : List Note
run =
    abandoned 2 true ∷ stepped 2 45 nothing goes_on ∷ stepped 2 43 nothing goes_on ∷ stepped 2 20 (finds true) goes_on
    ∷ stepped 2 41 (fetches 0 true) goes_on ∷ started 2 (v_cas 0 2 3)
    ∷ stepped 0 6 (moves 0) (answers 0) ∷ stepped 1 39 nothing (answers 2) ∷ stepped 1 22 (stamps 0) goes_on ∷ stepped 0 5 nothing goes_on
    ∷ stepped 1 21 nothing goes_on ∷ stepped 1 20 (finds false) goes_on ∷ stepped 1 37 (fetches 0 false) goes_on ∷ started 1 (v_read 0)
    ∷ started 0 take_snapshot ∷ abandoned 0 false
    ∷ stepped 0 46 (publishes 0 2) goes_on ∷ stepped 0 45 nothing goes_on ∷ stepped 0 43 nothing goes_on ∷ stepped 0 20 (finds true) goes_on
    ∷ stepped 0 41 (fetches 0 true) goes_on ∷ started 0 (v_cas 0 1 2) ∷ registered 0 1 100 ∷ []

noted : told_of left_behind ≡ run
unfolding left_behind notes told note_by words_after outcome making registering starting_v_read starting_v_cas starting_take_snapshot stepping abandoning
    header_damaged_at arguments_damaged kept_damaged running_damaged table row_of lines line_of_phase fetch_head line_20 line_21 line_22 line_39 line_43
    line_45 line_46 line_5 line_6
noted = refl

-- ---- two orders: the abandoned change (1) never answered, and stands in the order all the same; the other (17) stands in neither

is_plain : Plain left_behind
unfolding left_behind
is_plain = tt

order_is : (order_of_theorem left_behind is_plain).order ≡ 8 ∷ 9 ∷ 1 ∷ 0 ∷ []
order_is = same_order left_behind is_plain ∙ left_behind_order

answers_are : answered (told_of left_behind) ≡ 8 ∷ 9 ∷ 0 ∷ []
unfolding answered ledger entered put
answers_are = ap answered noted ∙ refl

-- ---- what took effect: the change at worker 1's line 21, after worker 0 had started its next operation

effects_are : effects (told_of left_behind) ≡ snapshot 16 0 ∷ change 12 0 2 6 ∷ birth 0 0 1 100 ∷ []
unfolding effects insert ledger entered put last_published
effects_are = ap effects noted ∙ refl

-- ---- what the operations came to

first_fate : fate_of (told_of left_behind) 1
    ≡ record { operation = v_cas 0 1 2; worker = 0; lines = 46 ∷ 45 ∷ 43 ∷ 20 ∷ 41 ∷ []; ending = given_up; at = 6 }
unfolding ledger entered put
first_fate = ap (λ (l : List Note). fate_of l 1) noted ∙ refl

second_fate : fate_of (told_of left_behind) 17
    ≡ record { operation = v_cas 0 2 3; worker = 2; lines = 45 ∷ 43 ∷ 20 ∷ 41 ∷ []; ending = given_up; at = 21 }
unfolding ledger entered put
second_fate = ap (λ (l : List Note). fate_of l 17) noted ∙ refl

-- the item's first node and the change's: the node that was held is given back
in_use : nodes_in_use (told_of left_behind) ≡ 2
unfolding nodes_in_use
in_use = ap nodes_in_use noted ∙ refl

-- ---- what the theorem says of the first: when it was abandoned, when it published, and where it stands

when_abandoned : Abandoned (told_of left_behind) 1 7
unfolding ledger entered put
when_abandoned = subst (λ (l : List Note). Abandoned l 1 7) (sym noted)
    (record { past = drop 16 run; w = 0; held = false; its = refl; at = refl; noted = (inr (inr (inr (inr (inr (inr (inr (inr (inr (inr (inr (inr (inr (inr (inr (inl (refl, refl))))))))))))))))) })

when_published : Executed (told_of left_behind) 1 46 (publishes 0 2) 6
unfolding ledger entered put
when_published = subst (λ (l : List Note). Executed l 1 46 (publishes 0 2) 6) (sym noted)
    (record { past = drop 17 run; w = 0; e = goes_on; its = refl; at = refl; noted = (inr (inr (inr (inr (inr (inr (inr (inr (inr (inr (inr (inr (inr (inr (inr (inr (inl (refl, refl)))))))))))))))))) })

its_instant : ChangeInstant (told_of left_behind) 1 0 12
its_instant = at (((promised left_behind is_plain).exactly (change 12 0 2 6)).0
    (subst (λ (l : List Effect). In (change 12 0 2 6) l) (sym effects_are) (inr (inl refl))))
  where
    at : TellsOf (told_of left_behind) (change 12 0 2 6) → ChangeInstant (told_of left_behind) 1 0 12
    at (o, s, publishing, first) =
        (2, 6, s, subst (λ (q : ℕ). Executed (told_of left_behind) q 46 (publishes 0 2) 6) (same_event (told_of left_behind) publishing when_published).2 publishing, first)

-- in the order, at worker 1's line 21, after its start, answered 1
first_stands : In 1 (order_of_theorem left_behind is_plain).order × ((order_of_theorem left_behind is_plain).time 1 ≡ 12) × (1 < 12)
    × ((order_of_theorem left_behind is_plain).answer 1 ≡ 1)
first_stands = ((order_of_theorem left_behind is_plain).left_off 1 7 when_abandoned).effect 0 12 its_instant
