-- The fifteen runs of document 01: one list, one statement, proved by running `outcome`, the function that the exported calls' contracts cite.
use Rattle.std.specs.Prelude.{ℕ, zero, suc, ◌+◌, ◌≡◌, refl, Bool, true, ◌&&◌, List, [], ◌∷◌, ◌++◌, eqb, replicate}
use Rattle.definitions.specs.declared.Answer.{Answer}
use Rattle.definitions.specs.Cells.{Assignment, ◌≔◌, counter, used, seen, head, stamp, needed, cells_of}
use Rattle.definitions.specs.Phases.{table, row_of}
use Rattle.definitions.specs.Damage.{header_damaged_at, running_damaged, arguments_damaged, kept_damaged}
use Rattle.definitions.specs.Lines.{fetch_head, line_20, line_21, line_22, line_39, line_43, line_45, line_46, line_48, line_50, line_52, line_5, line_6, line_34, total_32, total_34, closing, lines, line_of_phase}
use Rattle.definitions.specs.Calls.{Call, making, registering, starting_v_read, starting_v_cas, starting_take_snapshot, starting_read_snapshot, starting_total, stepping, outcome}
use Rattle.definitions.specs.Calls.Call.{make, register, v_read, v_cas, take_snapshot, read_snapshot, total, step}

-- The answers that document 01 gives, in its own numbers and not by the words of the definitions: code, value and steps, and the two later numbers, 0.
-- 00 finished, 01 running with value 0, 02 started, made or registered with steps 0, 16 + n refused with value 0.
abbrev numbers : (code value steps : ℕ) → Answer
numbers code value steps = record { code = code; value = value; steps = steps; stamped = 0; operator = 0 }

abbrev finished : (value steps : ℕ) → Answer
finished value steps = numbers 0 value steps

abbrev running : (steps : ℕ) → Answer
running steps = numbers 1 0 steps

abbrev accepted : (value : ℕ) → Answer
accepted value = numbers 2 value 0

abbrev refusal : (n steps : ℕ) → Answer
refusal n steps = numbers (16 + n) 0 steps

-- A run: the sizes of a fresh catalogue, the calls after its make, their answers, and what some cells hold at the end.
pub record Run : Type 0 where
  pub workers : ℕ
  pub items : ℕ
  pub nodes : ℕ
  pub projects : ℕ
  pub counter_limit : ℕ
  pub calls : List Call
  pub answers : List Answer
  pub final : List Assignment

-- The answers of calls, one after the other, and the words after them all.
unfoldable pub answers_of : List ℕ → List Call → List Answer
answers_of ws [] = []
answers_of ws (c ∷ cs) = let r = outcome ws c in r.answer ∷ answers_of r.words cs

unfoldable pub words_after : List ℕ → List Call → List ℕ
words_after ws [] = ws
words_after ws (c ∷ cs) = let r = outcome ws c in words_after r.words cs

unfoldable pub hold : List ℕ → List Assignment → Bool
hold ws [] = true
hold ws (x ∷ xs) = eqb (cells_of ws x.to) x.what && hold ws xs

-- A run holds: on lent words that were all zero and just enough, make is accepted, the calls get their answers, and the cells hold what is said.
abbrev pub lent : Run → List ℕ
lent r = replicate (needed r.workers r.items r.nodes) 0

abbrev pub all_calls : Run → List Call
all_calls r = make r.workers r.items r.nodes r.projects r.counter_limit ∷ r.calls

unfoldable pub Holds : Run → Type 0
Holds r = (answers_of (lent r) (all_calls r) ≡ accepted 0 ∷ r.answers) × (hold (words_after (lent r) (all_calls r)) r.final ≡ true)

-- Of every entry of a list.
abbrev pub Every : {A : Type 0} → (A → Type 0) → List A → Type 0
Every P [] = Unit
Every P (r ∷ rs) = P r × Every P rs

-- k steps of a worker, and the answers of a running operation from step f + 1 on.
abbrev steps : ℕ → ℕ → List Call
steps k w = replicate k (step w)

abbrev pub running_on : ℕ → ℕ → List Answer
running_on f zero = []
running_on f (suc k) = running (f + 1) ∷ running_on (f + 1) k

abbrev one_item : Call
one_item = register 1 100

abbrev sized : ℕ → ℕ → List Call → List Answer → List Assignment → Run
sized n c cs as' xs = record { workers = 2; items = 2; nodes = n; projects = 4; counter_limit = c; calls = cs; answers = as'; final = xs }

abbrev run : List Call → List Answer → List Assignment → Run
run = sized 8 16

-- Runs 9 and 12 share their beginning: two vCAS past line 45, the first does 46, the second runs out, then the first.
abbrev contended : List Call
contended = one_item ∷ v_cas 0 0 1 2 ∷ v_cas 1 0 1 3 ∷ steps 4 0 ++ steps 4 1 ++ steps 1 0 ++ steps 7 1 ++ steps 2 0

abbrev contended_answers : List Answer
contended_answers =
    accepted 0 ∷ accepted 0 ∷ accepted 0 ∷ running_on 0 4 ++ running_on 0 4 ++ running_on 4 1 ++ (running_on 4 6 ++ finished 0 11 ∷ [])
    ++ (running_on 5 1 ++ finished 1 7 ∷ [])

unfoldable pub fifteen : List Run
fifteen =
    -- 1. vRead: 1 in 3 steps.
    run (one_item ∷ v_read 0 0 ∷ steps 3 0) (accepted 0 ∷ accepted 0 ∷ running_on 0 2 ++ finished 1 3 ∷ []) []
    -- 2. vCAS(1,2) alone: 1 in 9.
    ∷ run (one_item ∷ v_cas 0 0 1 2 ∷ steps 9 0) (accepted 0 ∷ accepted 0 ∷ running_on 0 8 ++ finished 1 9 ∷ []) []
    -- 3. vCAS(1,1): 1 in 3, no node taken.
    ∷ run (one_item ∷ v_cas 0 0 1 1 ∷ steps 3 0) (accepted 0 ∷ accepted 0 ∷ running_on 0 2 ++ finished 1 3 ∷ []) (used ≔ 1 ∷ [])
    -- 4. vCAS(3,2): 0 in 3.
    ∷ run (one_item ∷ v_cas 0 0 3 2 ∷ steps 3 0) (accepted 0 ∷ accepted 0 ∷ running_on 0 2 ++ finished 0 3 ∷ []) []
    -- 5. takeSnapshot: 0 in 2, counter 1.
    ∷ run (one_item ∷ take_snapshot 0 ∷ steps 2 0) (accepted 0 ∷ accepted 0 ∷ running_on 0 1 ++ finished 0 2 ∷ []) (counter ≔ 1 ∷ [])
    -- 6. Two workers at line 5, then both at 6: both answer 0, counter 1.
    ∷ run (one_item ∷ take_snapshot 0 ∷ take_snapshot 1 ∷ step 0 ∷ step 1 ∷ step 0 ∷ step 1 ∷ [])
    (accepted 0 ∷ accepted 0 ∷ accepted 0 ∷ running 1 ∷ running 1 ∷ finished 0 2 ∷ finished 0 2 ∷ []) (counter ≔ 1 ∷ [])
    -- 7. The listing given for schedule: 1 in 6.
    ∷ run (one_item ∷ take_snapshot 0 ∷ steps 2 0 ++ v_cas 1 0 1 2 ∷ steps 5 1 ++ read_snapshot 0 0 0 ∷ steps 6 0)
    (accepted 0 ∷ accepted 0 ∷ running 1 ∷ finished 0 2 ∷ accepted 0 ∷ running_on 0 5 ++ accepted 0 ∷ running_on 0 5 ++ finished 1 6 ∷ []) []
    -- 8. Worker 0's vCAS(1,2) stops after 21, having read 0. Worker 1 takes handle 0, starts readSnapshot, does 32 and 20;
    -- worker 0 does 22; the read answers 2 in 5. The node's stamp is the 0 that line 21 read, though the counter is 1.
    ∷ run (one_item ∷ v_cas 0 0 1 2 ∷ steps 7 0 ++ take_snapshot 1 ∷ steps 2 1 ++ read_snapshot 1 0 0 ∷ steps 2 1 ++ step 0 ∷ steps 3 1)
    (accepted 0 ∷ accepted 0 ∷ running_on 0 7 ++ accepted 0 ∷ running 1 ∷ finished 0 2 ∷ accepted 0 ∷ running_on 0 2 ++ running 8 ∷ running_on 2 2
    ++ finished 2 5 ∷ []) (seen 0 ≔ 0 ∷ stamp 1 ≔ 0 ∷ counter ≔ 1 ∷ [])
    -- 9. vCAS(1,2) and vCAS(1,3) both past 45; the first does 46; the second runs out: 0 in 11. The first then: 1 in 7.
    ∷ run contended contended_answers []
    -- 10. N = 1: vCAS(1,2) is refused 11 at step 4.
    ∷ sized 1 16 (one_item ∷ v_cas 0 0 1 2 ∷ steps 4 0) (accepted 0 ∷ accepted 0 ∷ running_on 0 3 ++ refusal 11 4 ∷ []) []
    -- 11. N = 2, two such vCAS, both stopped after 43: the second to reach 45 is refused 11.
    ∷ sized 2 16 (one_item ∷ v_cas 0 0 1 2 ∷ v_cas 1 0 1 2 ∷ steps 3 0 ++ steps 3 1 ++ step 0 ∷ step 1 ∷ [])
    (accepted 0 ∷ accepted 0 ∷ accepted 0 ∷ running_on 0 3 ++ running_on 0 3 ++ running 4 ∷ refusal 11 4 ∷ []) []
    -- 12. Run 9 with N = 3, then vCAS(2,3): 1, in the node given back.
    ∷ sized 3 16 (contended ++ v_cas 0 0 2 3 ∷ steps 9 0) (contended_answers ++ accepted 0 ∷ running_on 0 8 ++ finished 1 9 ∷ []) (head 0 ≔ 2 ∷ used ≔ 3 ∷ [])
    -- 13. C = 1: handle 0, then 12 in 1 step.
    ∷ sized 8 1 (one_item ∷ take_snapshot 0 ∷ steps 2 0 ++ take_snapshot 0 ∷ steps 1 0)
    (accepted 0 ∷ accepted 0 ∷ running 1 ∷ finished 0 2 ∷ accepted 0 ∷ refusal 12 1 ∷ []) []
    -- 14. Handle equal to the counter: 8, of a readSnapshot and of a total. Item registered at counter 1, handle 0: 9.
    ∷ run (one_item ∷ read_snapshot 0 0 0 ∷ total 0 1 0 ∷ take_snapshot 0 ∷ steps 2 0 ++ read_snapshot 0 0 1 ∷ total 0 1 1 ∷ register 2 7
    ∷ read_snapshot 0 1 0 ∷ [])
    (accepted 0 ∷ refusal 8 0 ∷ refusal 8 0 ∷ accepted 0 ∷ running 1 ∷ finished 0 2 ∷ refusal 8 0 ∷ refusal 8 0 ∷ accepted 1 ∷ refusal 9 0 ∷ []) []
    -- 15. No items, one takeSnapshot done: total at handle 0 is 0 in 1 step.
    ∷ run (take_snapshot 0 ∷ steps 2 0 ++ total 0 1 0 ∷ steps 1 0) (accepted 0 ∷ running 1 ∷ finished 0 2 ∷ accepted 0 ∷ finished 0 1 ∷ []) []
    ∷ []

pub fifteen_hold : Every Holds fifteen
unfolding fifteen Holds answers_of words_after hold outcome making registering starting_v_read starting_v_cas starting_take_snapshot starting_read_snapshot starting_total stepping table row_of header_damaged_at running_damaged arguments_damaged kept_damaged fetch_head line_20 line_21 line_22 line_39 line_43 line_45 line_46 line_48 line_50 line_52 line_5 line_6 line_34 total_32 total_34 closing lines line_of_phase
fifteen_hold = (
  (refl, refl),
  (
    (refl, refl),
    (
      (refl, refl),
      (
        (refl, refl),
        (
          (refl, refl),
          (
            (refl, refl),
            (
              (refl, refl),
              (
                (refl, refl),
                (
                  (refl, refl),
                  (
                    (refl, refl),
                    (
                      (refl, refl),
                      (
                        (refl, refl),
                        (
                          (refl, refl),
                          (
                            (refl, refl),
                            (
                              (refl, refl),
                              tt,
                            ),
                          ),
                        ),
                      ),
                    ),
                  ),
                ),
              ),
            ),
          ),
        ),
      ),
    ),
  ),
)
