-- Document 02's abandon, tried on words: one list, one statement, by running `outcome`. What it answers, and what it leaves of the worker's record, of a node
-- that was held and of one that was published.
use Rattle.std.specs.Prelude.{ℕ, refl, List, [], ◌∷◌, ◌++◌, replicate}
use Rattle.definitions.specs.declared.Answer.{Answer}
use Rattle.definitions.specs.Cells.{Assignment, ◌≔◌, given_back, head, value, older, stamp, cleared}
use Rattle.definitions.specs.Answers.{finished, accepted, refusal}
use Rattle.definitions.specs.Phases.{table, row_of}
use Rattle.definitions.specs.Damage.{TBD, header_damaged_at, running_damaged, arguments_damaged, kept_damaged}
use Rattle.definitions.specs.Lines.{fetch_head, line_20, line_21, line_22, line_39, line_43, line_45, line_46, line_48, lines, line_of_phase}
use Rattle.definitions.specs.Calls.{Call, making, registering, starting_v_read, starting_v_cas, stepping, abandoning, outcome}
use Rattle.definitions.specs.Calls.Call.{register, v_read, v_cas, step, abandon}
use Rattle.runs.specs.Fifteen.{Run, answers_of, words_after, hold, Holds, Every, running_on}

-- With so many nodes: an item of project 1, then calls with their answers, and what some cells hold at the end.
abbrev run : ℕ → List Call → List Answer → List Assignment → Run
run n cs as' xs = record {
  workers = 2;
  items = 2;
  nodes = n;
  projects = 4;
  counter_limit = 16;
  calls = register 1 100 ∷ cs;
  answers = accepted 0 ∷ as';
  final = xs;
}

abbrev steps : ℕ → ℕ → List Call
steps k w = replicate k (step w)

-- Worker 0's vCAS(1,2) is abandoned after k steps.
abbrev left_after : ℕ → List Call
left_after k = v_cas 0 0 1 2 ∷ steps k 0 ++ abandon 0 ∷ []

abbrev left_answers : ℕ → List Answer
left_answers k = accepted 0 ∷ running_on 0 k ++ accepted 0 ∷ []

unfoldable pub abandons : List Run
abandons =
    -- At 46 it holds node 1, which goes back; value and stamp stay as 45 wrote them. The record is all zero.
    run 2 (left_after 4) (left_answers 4) (given_back ≔ 2 ∷ older 1 ≔ 0 ∷ value 1 ≔ 2 ∷ stamp 1 ≔ TBD ∷ head 0 ≔ 0 ∷ cleared 0)
    -- So N = 2 is enough for its next vCAS, in that node.
    ∷ run 2 (left_after 4 ++ v_cas 0 0 1 3 ∷ steps 9 0) (left_answers 4 ++ accepted 0 ∷ running_on 0 8 ++ finished 1 9 ∷ []) (head 0 ≔ 1 ∷ given_back ≔ 0 ∷ [])
    -- At 50, having lost to worker 1, it holds node 1 too.
    ∷ run 3 (v_cas 0 0 1 2 ∷ steps 4 0 ++ v_cas 1 0 1 3 ∷ steps 5 1 ++ steps 1 0 ++ abandon 0 ∷ [])
    (accepted 0 ∷ running_on 0 4 ++ accepted 0 ∷ running_on 0 5 ++ running_on 4 1 ++ accepted 0 ∷ [])
    (given_back ≔ 2 ∷ older 1 ≔ 0 ∷ stamp 1 ≔ TBD ∷ head 0 ≔ 2 ∷ cleared 0)
    -- Both workers hold a node; the second to go back is linked to the first.
    ∷ run 3 (v_cas 0 0 1 2 ∷ steps 4 0 ++ v_cas 1 0 1 3 ∷ steps 4 1 ++ abandon 0 ∷ abandon 1 ∷ [])
    (accepted 0 ∷ running_on 0 4 ++ accepted 0 ∷ running_on 0 4 ++ accepted 0 ∷ accepted 0 ∷ []) (given_back ≔ 3 ∷ older 2 ≔ 2 ∷ older 1 ≔ 0 ∷ head 0 ≔ 0 ∷ cleared 1)
    -- At 45 it holds none.
    ∷ run 2 (left_after 3) (left_answers 3) (given_back ≔ 0 ∷ head 0 ≔ 0 ∷ cleared 0)
    -- At 20 after 46 its node is published: it stays, without a stamp.
    ∷ run 2 (left_after 5) (left_answers 5) (head 0 ≔ 1 ∷ stamp 1 ≔ TBD ∷ given_back ≔ 0 ∷ cleared 0)
    -- A vRead then stamps it and answers 2, in 5.
    ∷ run 2 (left_after 5 ++ v_read 1 0 ∷ steps 5 1) (left_answers 5 ++ accepted 0 ∷ running_on 0 4 ++ finished 2 5 ∷ []) (head 0 ≔ 1 ∷ stamp 1 ≔ 0 ∷ [])
    -- At 48 it is stamped, and stays.
    ∷ run 2 (left_after 8) (left_answers 8) (head 0 ≔ 1 ∷ stamp 1 ≔ 0 ∷ given_back ≔ 0 ∷ cleared 0)
    -- An idle worker: 5. A number that is no worker's: 3.
    ∷ run 2 (abandon 0 ∷ abandon 2 ∷ []) (refusal 5 0 ∷ refusal 3 0 ∷ []) []
    ∷ []

pub abandons_hold : Every Holds abandons
unfolding abandons Holds answers_of words_after hold outcome making registering starting_v_read starting_v_cas stepping abandoning table row_of header_damaged_at running_damaged arguments_damaged kept_damaged fetch_head line_20 line_21 line_22 line_39 line_43 line_45 line_46 line_48 lines line_of_phase
abandons_hold = ((refl, refl), ((refl, refl), ((refl, refl), ((refl, refl), ((refl, refl), ((refl, refl), ((refl, refl), ((refl, refl), ((refl, refl), tt)))))))))
