-- Document 01's paragraph on damage, tried on words set by hand: one list, one statement, by running `outcome`. Each entry stands for a sentence of it
-- that is easily read more widely than it is written.
use Rattle.std.specs.Prelude.{ℕ, ◌≡◌, refl, List, [], ◌∷◌, replicate}
use Rattle.definitions.specs.declared.Answer.{Answer}
use Rattle.definitions.specs.Cells.{Assignment, ◌≔◌, needed, items_offset, nodes_offset, written, given_back, steps, seen, birth, value}
use Rattle.definitions.specs.Answers.{finished, running, accepted, refusal}
use Rattle.definitions.specs.Phases.{table, row_of}
use Rattle.definitions.specs.Damage.{TBD, header_damaged_at, running_damaged, arguments_damaged, kept_damaged}
use Rattle.definitions.specs.Lines.{fetch_head, line_20, line_21, line_22, line_39, line_43, line_45, line_46, line_48, line_50, line_52, line_5, line_6, line_34, total_32, total_34, closing, lines, line_of_phase}
use Rattle.definitions.specs.Calls.{Call, making, registering, starting_v_read, starting_v_cas, starting_take_snapshot, starting_read_snapshot, starting_total, stepping, outcome}
use Rattle.definitions.specs.Calls.Call.{make, register, v_read, v_cas, take_snapshot, read_snapshot, total, step}
use Rattle.runs.specs.Fifteen.{answers_of, words_after, Every}

-- Calls from a fresh catalogue of 2 workers, 2 items, 8 nodes, 4 projects and counter limit 16; cells that are then set by hand; and calls with their answers.
pub record Trial : Type 0 where
  pub before : List Call
  pub by_hand : List Assignment
  pub calls : List Call
  pub answers : List Answer

abbrev pub set_words : Trial → List ℕ
set_words t =
    let ws = words_after (replicate (needed 2 2 8) 0) (make 2 2 8 4 16 ∷ t.before) in
    written (items_offset ws) (nodes_offset ws) ws t.by_hand

unfoldable pub Answered : Trial → Type 0
Answered t = answers_of (set_words t) t.calls ≡ t.answers

abbrev trial : List Call → List Assignment → List Call → List Answer → Trial
trial cs xs ds as' = record { before = cs; by_hand = xs; calls = ds; answers = as' }

-- One item, of project 1; a counter of 1.
abbrev one_item : Call
one_item = register 1 100

abbrev counted : List Call
counted = one_item ∷ take_snapshot 0 ∷ step 0 ∷ step 0 ∷ []

unfoldable pub trials : List Trial
trials =
    -- 'at register, 45 and 50 the first node given back': register uses that one, where one waits, and no node never used. Line 45 writes the node it takes.
    trial (one_item ∷ []) (value 1 ≔ 4 ∷ []) (register 1 5 ∷ []) (accepted 1 ∷ [])
    ∷ trial (one_item ∷ []) (value 0 ≔ 4 ∷ given_back ≔ 1 ∷ []) (register 1 5 ∷ []) (refusal 2 0 ∷ [])
    ∷ trial (one_item ∷ v_cas 0 0 1 2 ∷ replicate 3 (step 0)) (value 1 ≔ 4 ∷ []) (step 0 ∷ []) (refusal 2 0 ∷ [])
    -- 'stamps at most the counter or TBD': a birth stamp, too.
    ∷ trial counted (birth 0 ≔ TBD ∷ []) (v_read 0 0 ∷ step 0 ∷ read_snapshot 1 0 0 ∷ total 1 1 0 ∷ step 1 ∷ step 1 ∷ [])
    (accepted 0 ∷ running 1 ∷ refusal 9 0 ∷ accepted 0 ∷ running 1 ∷ finished 0 2 ∷ [])
    ∷ trial counted (birth 0 ≔ 2 ∷ []) (v_read 0 0 ∷ read_snapshot 1 0 0 ∷ total 1 1 0 ∷ step 1 ∷ []) (refusal 2 0 ∷ refusal 2 0 ∷ accepted 0 ∷ refusal 2 0 ∷ [])
    -- 'a step count below 5,121 before a step'.
    ∷ trial (one_item ∷ v_read 0 0 ∷ []) (steps 0 ≔ 5121 ∷ []) (v_read 0 0 ∷ take_snapshot 0 ∷ step 0 ∷ []) (refusal 4 0 ∷ refusal 4 0 ∷ refusal 2 0 ∷ [])
    -- 'the number read at 5 below C when 6 runs'.
    ∷ trial (one_item ∷ take_snapshot 0 ∷ step 0 ∷ []) (seen 0 ≔ 16 ∷ []) (v_read 0 0 ∷ step 0 ∷ []) (refusal 4 0 ∷ refusal 2 0 ∷ [])
    -- 'the number read at 21 at most the counter': of a record at line 22, whatever the call.
    ∷ trial (one_item ∷ v_cas 0 0 1 2 ∷ replicate 7 (step 0)) (seen 0 ≔ 1 ∷ []) (v_read 0 0 ∷ step 0 ∷ []) (refusal 2 0 ∷ refusal 2 0 ∷ [])
    ∷ []

pub trials_answered : Every Answered trials
unfolding trials Answered answers_of words_after outcome making registering starting_v_read starting_v_cas starting_take_snapshot starting_read_snapshot starting_total stepping table row_of header_damaged_at running_damaged arguments_damaged kept_damaged fetch_head line_20 line_21 line_22 line_39 line_43 line_45 line_46 line_48 line_50 line_52 line_5 line_6 line_34 total_32 total_34 closing lines line_of_phase
trials_answered = (refl, (refl, (refl, (refl, (refl, (refl, (refl, (refl, tt))))))))
