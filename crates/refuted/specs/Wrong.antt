-- The wrong catalogues of document 01, each a small change of `outcome`: its five hollow versions ('What the promises have to say') and its five errors
-- ('Errors a reader of the paper will make'), of which the second, help left out, is two.
use Rattle.std.specs.Prelude.{◌≡◌, refl, Bool, cond, ◌&&◌, List, [], ◌∷◌, ◌++◌, ℕ, zero, suc, ◌+◌, ltb, leb, eqb}
use Rattle.definitions.specs.Cells.{
  Cell,
  cell,
  Cells,
  Assignment,
  ◌≔◌,
  counter,
  phase,
  steps,
  item,
  old,
  new,
  handle,
  project,
  noted,
  node,
  seen,
  older,
  stamp,
  items_offset,
  nodes_offset,
  cells_of,
  written,
  record_of,
  cleared,
}
use Rattle.definitions.specs.Answers.{Outcome, ◌⇒◌, running, refusal, unless, goes_on}
use Rattle.definitions.specs.Phases.{row_of}
use Rattle.definitions.specs.Damage.{any_of, worker_damaged, step_damaged, inside_item, item_damaged, bad_time, older_damaged}
use Rattle.definitions.specs.Lines.{no_node, node_to_take, counter_full, to_older, Line, line, line_of_phase}
use Rattle.definitions.specs.Calls.{Call, Result, no_worker, leaving, on_catalogue, stepping, outcome}
use Rattle.cells.specs.Made.{is_make}
use Rattle.history.specs.Tools.{by_test}
use Rattle.history.specs.Notes.{Catalogue}

-- outcome, but for the starts of takeSnapshots, for steps and for abandons
unfoldable pub but : (take step leave : List ℕ → (w : ℕ) → Result) → Catalogue
but take step leave ws (Call.make p m n q c) = outcome ws (Call.make p m n q c)
but take step leave ws (Call.register v s) = outcome ws (Call.register v s)
but take step leave ws (Call.v_read w i) = outcome ws (Call.v_read w i)
but take step leave ws (Call.v_cas w i o n) = outcome ws (Call.v_cas w i o n)
but take step leave ws (Call.take_snapshot w) = take ws w
but take step leave ws (Call.read_snapshot w i h) = outcome ws (Call.read_snapshot w i h)
but take step leave ws (Call.total w q h) = outcome ws (Call.total w q h)
but take step leave ws (Call.step w) = step ws w
but take step leave ws (Call.abandon w) = leave ws w

abbrev right_abandon : List ℕ → ℕ → Result
right_abandon ws w = outcome ws (Call.abandon w)

abbrev pub but_steps : (List ℕ → ℕ → Result) → Catalogue
but_steps step = but (λ ws w. outcome ws (Call.take_snapshot w)) step right_abandon

abbrev pub but_abandons : (List ℕ → ℕ → Result) → Catalogue
but_abandons = but (λ ws w. outcome ws (Call.take_snapshot w)) (λ ws w. outcome ws (Call.step w))

-- ---- hollow versions

-- One that refuses everything. Were make refused too, there would be no run of it: make's own contract rules that out.
unfoldable pub refuses_everything : Catalogue
refuses_everything ws x = cond (is_make x) (outcome ws x) (record { answer = refusal 3 0; words = ws })

-- One with a constant answer: whatever an operation answers, it is 1.
unfoldable pub constant_answer : Catalogue
constant_answer ws x =
    let r = outcome ws x in
    let a = r.answer in
    record {
      answer = record { code = a.code; value = cond (eqb a.code 0) 1 a.value; steps = a.steps; stamped = a.stamped; operator = a.operator };
      words = r.words;
    }

-- One whose steps alter nothing.
unfoldable pub steps_alter_nothing : Catalogue
steps_alter_nothing = but_steps (λ ws w. record { answer = (outcome ws (Call.step w)).answer; words = ws })

-- One with an invented step count: a step's answer tells one more than were made.
unfoldable pub invented_step_count : Catalogue
invented_step_count =
    but_steps (λ ws w.
    let r = outcome ws (Call.step w) in
    let a = r.answer in
    record {
      answer = record { code = a.code; value = a.value; steps = a.steps + 1; stamped = a.stamped; operator = a.operator };
      words = r.words;
    })

-- One that does the whole operation in its first step and then only counts. First: all steps of worker w until its operation ends, at most n more.
unfoldable pub to_the_end : ℕ → List ℕ → (w : ℕ) → Result
to_the_end zero ws w = outcome ws (Call.step w)
to_the_end (suc n) ws w =
    let r = outcome ws (Call.step w) in
    let rest = to_the_end n r.words w in
    cond (eqb r.answer.code 1) rest r

-- The first step leaves what they all leave, but the worker's record stays, and three spare words of it keep the answer.
abbrev pub kept_code : ℕ → Cell
kept_code = cell 29

abbrev pub kept_value : ℕ → Cell
kept_value = cell 30

abbrev pub kept_steps : ℕ → Cell
kept_steps = cell 31

unfoldable pub first_step : List ℕ → (w : ℕ) → Result
first_step ws w =
    let m = cells_of ws in
    let end = to_the_end 5120 ws w in
    record {
      answer = running 1;
      words = written (items_offset ws) (nodes_offset ws) end.words
          (record_of w (m (phase w)) (m (item w)) (m (old w)) (m (new w)) (m (handle w)) (m (project w)) (m (noted w))
          ++ (steps w ≔ 1 ∷ kept_code w ≔ end.answer.code ∷ kept_value w ≔ end.answer.value ∷ kept_steps w ≔ end.answer.steps ∷ []));
    }

unfoldable pub later_step : List ℕ → (w : ℕ) → Result
later_step ws w =
    let m = cells_of ws in
    let n = m (steps w) + 1 in
    leaving ws
    (cond (ltb n (m (kept_steps w))) (record { answer = running n; writes = steps w ≔ n ∷ [] })
    (record { answer = record { code = m (kept_code w); value = m (kept_value w); steps = n; stamped = 0; operator = 0 }; writes = cleared w }))

unfoldable pub whole_operation_at_once : Catalogue
whole_operation_at_once =
    but_steps (λ ws w.
    let r = outcome ws (Call.step w) in
    let counting = cond (eqb (cells_of ws (steps w)) 0) (first_step ws w) (later_step ws w) in
    cond (eqb r.answer.code 1) counting r)

-- ---- errors: a line that is another

-- A step of worker w that executes line l. With the line of its phase it is `stepping`.
unfoldable pub stepping_by : Line → Cells → (w : ℕ) → Outcome
stepping_by l m w =
    unless (no_worker m w ⇒ 3 ∷ worker_damaged m w ⇒ 2 ∷ step_damaged m w ⇒ 2 ∷ eqb (m (phase w)) 0 ⇒ 5
    ∷ (inside_item (row_of (m (phase w))) && item_damaged m (m (item w))) ⇒ 2 ∷ l.damaged m w ⇒ 2 ∷ [])
    (l.does m w)

pub stepping_same : (m : Cells) (w : ℕ) → stepping_by (line_of_phase (m (phase w))) m w ≡ stepping m w
unfolding stepping_by stepping
stepping_same m w = refl

-- The source line of this number is another, at each of its phases.
unfoldable pub other_at : (number : ℕ) → (Line → Line) → (p : ℕ) → Line
other_at number other p = let l = line_of_phase p in cond (eqb (row_of p).line number) (other l) l

unfoldable pub stepping_other : (number : ℕ) → (Line → Line) → List ℕ → (w : ℕ) → Result
stepping_other number other ws w = on_catalogue ws (λ m. stepping_by (other_at number other (m (phase w))) m w)

unfoldable pub with_line : (number : ℕ) → (Line → Line) → Catalogue
with_line number other = but_steps (stepping_other number other)

-- where it is no other, a step is that of `outcome`
pub with_line_same : (number : ℕ) (ws : List ℕ) (w : ℕ) → with_line number (λ l. l) ws (Call.step w) ≡ outcome ws (Call.step w)
unfolding with_line but stepping_other other_at outcome stepping stepping_by
with_line_same number ws w =
    let p = cells_of ws (phase w) in
    by_test (λ (l : Line). on_catalogue ws (λ m. stepping_by l m w) ≡ outcome ws (Call.step w)) (eqb (row_of p).line number) (λ t. refl) (λ t. refl)

-- what a line does, and then more
abbrev pub also : Line → (Cells → ℕ → List Assignment) → Line
also l more =
    line l.damaged (λ m w. let o = l.does m w in record { answer = o.answer; writes = o.writes ++ more m w })

-- Stamping a node before line 46 publishes it: line 45 stamps it with the counter.
unfoldable pub stamped_before_published : Catalogue
stamped_before_published = with_line 45 (λ l. also l (λ m w. cond (no_node m) [] (stamp (node_to_take m) ≔ m counter ∷ [])))

-- Leaving out the help in vRead, whose 37 goes on at 39, or in a lost vCAS, whose 51 goes on at 52: three phases are passed over.
abbrev pub without_help : Line → Line
without_help l = also l (λ m w. phase w ≔ (m (phase w) + 4) ∷ [])

unfoldable pub v_read_without_help : Catalogue
v_read_without_help = with_line 37 without_help

unfoldable pub lost_v_cas_without_help : Catalogue
lost_v_cas_without_help = with_line 51 without_help

-- Letting line 22 overwrite a valid stamp.
unfoldable pub stamp_overwritten_at_22 : Catalogue
stamp_overwritten_at_22 = with_line 22 (λ l. also l (λ m w. stamp (m (node w)) ≔ m (seen w) ∷ []))

-- Testing the counter against C at the start instead of at 5.
abbrev pub untested : Line → Line
untested l = line l.damaged (λ m w. goes_on m w (m (phase w) + 1) (seen w ≔ m counter ∷ []))

abbrev pub refused_where_full : List ℕ → (w : ℕ) → Result
refused_where_full ws w =
    let r = outcome ws (Call.take_snapshot w) in
    cond (eqb r.answer.code 2 && counter_full (cells_of ws)) (record { answer = refusal 12 0; words = ws }) r

unfoldable pub counter_tested_at_the_start : Catalogue
counter_tested_at_the_start = but refused_where_full (stepping_other 5 untested) right_abandon

-- Stopping only at a stamp strictly below the handle: line 34 goes on to the older node also where the stamp is the handle.
abbrev pub not_below : Cells → ℕ → Bool
not_below m w = leb (m (handle w)) (m (stamp (m (node w))))

abbrev pub strictly : Line → Line
strictly l =
    line (λ m w. cond (not_below m w)
    (any_of (bad_time m (m (stamp (m (node w)))) ∷ eqb (m (older (m (node w)))) 0 ∷ older_damaged m (m (node w)) ∷ []))
    (l.damaged m w))
    (λ m w. cond (not_below m w) (to_older m w) (l.does m w))

unfoldable pub stops_strictly_below : Catalogue
stops_strictly_below = with_line 34 strictly
