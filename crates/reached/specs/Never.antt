-- Never damage: no call on the machine answers 2.
use Rattle.std.specs.Prelude.{ℕ, suc, Bool, true, false, cond, List, [], ◌∷◌, ◌≢◌}
use Rattle.std.proofs.Common.{arith}
use Rattle.definitions.specs.Answers.{Refusal, accepted}
use Rattle.definitions.specs.Calls.{Call}
use Rattle.history.specs.Notes.{damaged_code}
use Rattle.history.specs.Tools.{by_eq, by_lt, by_le}
use Rattle.history.specs.Machine.{Memory, Found, no_node, node, node_to_take, found, Operation, register, v_read, v_cas, take_snapshot, read_snapshot, total, Phase, line_37, line_39, line_41, line_43, line_45, line_46, line_48, line_50, line_51, line_52, line_5, line_6, line_32, line_34, total_32, total_34, closing, line_20, line_21, line_22, line_number, Comes, goes_on, ends_with, answers_change, answers, Next, on_45, line, Worker, idle, busy, Catalogue, Move, unless, refused, step_answer, stepped, stepping, left, abandoning, starting, registering, move, reply, start_refusals, worker_refusals, step_refusals, register_refusals, begun, registered}

abbrev NoTwo : List Refusal → Type 0
NoTwo [] = Unit {0}
NoTwo (r ∷ rs) = (r.number ≢ 2) × NoTwo rs

unless_fine : (s : Catalogue) (rs : List Refusal) (y : Move) → NoTwo rs → y.answer.code ≢ damaged_code → (unless s rs y).answer.code ≢ damaged_code
unless_fine s [] y f g = g
unless_fine s (r ∷ rs) y f g = at r.when (unless_fine s rs y f.1 g)
  where
    at : (b : Bool) → (unless s rs y).answer.code ≢ damaged_code → (cond {A = Move} b (refused s r.number) (unless s rs y)).answer.code ≢ damaged_code
    at true h = λ e. f.0 (omega arith)
    at false h = h

start_fine : (m : Memory) (op : Operation) → NoTwo (start_refusals m op)
start_fine m (register i v s) = (λ e. absurd (omega arith), tt)
start_fine m (v_read i) = (λ e. absurd (omega arith), tt)
start_fine m (v_cas i x y) = (λ e. absurd (omega arith), (λ e. absurd (omega arith), tt))
start_fine m take_snapshot = tt
start_fine m (read_snapshot i h) = (λ e. absurd (omega arith), (λ e. absurd (omega arith), (λ e. absurd (omega arith), tt)))
start_fine m (total q h) = (λ e. absurd (omega arith), (λ e. absurd (omega arith), tt))

starting_fine : (s : Catalogue) (w : ℕ) (op : Operation) → (starting s w op).answer.code ≢ damaged_code
unfolding starting
starting_fine s w op =
    unless_fine s (worker_refusals s w op) (record { answer = accepted 0; leaves = begun s w op })
    ((λ e. absurd (omega arith)), ((λ e. absurd (omega arith)), start_fine s.memory op)) (λ e. absurd (omega arith))

-- a line that refuses does so with 11 or 12
abbrev ComesFine : Comes → Type 0
ComesFine (goes_on ph) = Unit {0}
ComesFine (ends_with n) = n ≢ 2
ComesFine (answers_change x) = Unit {0}
ComesFine (answers x τ j) = Unit {0}

abbrev NextFine : Next → Type 0
NextFine x = ComesFine x.comes

line_fine : (t : ℕ) (m : Memory) (ph : Phase) → NextFine (line t m ph)
unfolding line
line_fine t m (line_37 i) = tt
line_fine t m (line_39 i f j) = tt
line_fine t m (line_41 i x y) = tt
line_fine t m (line_43 i x y f j) = by_eq NextFine ((m.item i).value j) x (λ e. by_eq NextFine y x (λ d. tt) (λ d. tt)) (λ e. tt)
line_fine t m (line_45 i x y f j) = at (node_to_take m)
  where
    at : (r : Found) → NextFine (on_45 i x y f j r)
    at no_node = λ e. absurd (omega arith)
    at (node v) = tt
line_fine t m (line_46 i x y f j v) = by_eq NextFine (m.item i).versions (suc j) (λ e. tt) (λ e. tt)
line_fine t m (line_48 i x y j) = tt
line_fine t m (line_50 i x y g v) = tt
line_fine t m (line_51 i x y g) = tt
line_fine t m (line_52 i x y g j) = tt
line_fine t m line_5 = by_le NextFine m.limits.counter m.camera.counter (λ e d. absurd (omega arith)) (λ e. tt)
line_fine t m (line_6 c r) = by_eq NextFine m.camera.counter c (λ e. tt) (λ e. tt)
line_fine t m (line_32 i h) = tt
line_fine t m (line_34 i h f j x) = by_lt NextFine h ((m.item i).stamp x) (λ e. tt) (λ e. tt)
line_fine t m (total_32 q h k i u) = tt
line_fine t m (total_34 q h k i u f j x) = tt
line_fine t m (closing q h k u) = tt
line_fine t m (line_20 c j) = tt
line_fine t m (line_21 c j) = tt
line_fine t m (line_22 c j n r) = tt

answer_fine : (l : List ℕ) (u : Comes) → ComesFine u → (step_answer l u).code ≢ damaged_code
answer_fine l (goes_on ph) f e = absurd (omega arith)
answer_fine l (ends_with n) f e = f (omega arith)
answer_fine l (answers_change x) f e = absurd (omega arith)
answer_fine l (answers x τ j) f e = absurd (omega arith)

stepped_fine : (s : Catalogue) (w : ℕ) (v : Worker) → (stepped s w v).answer.code ≢ damaged_code
unfolding stepped
stepped_fine s w idle = λ e. absurd (omega arith)
stepped_fine s w (busy o l ph) = answer_fine (line_number ph ∷ l) (line s.now s.memory ph).comes (line_fine s.now s.memory ph)

left_fine : (s : Catalogue) (w : ℕ) (x : Worker) → (left s w x).answer.code ≢ damaged_code
unfolding left
left_fine s w idle = λ e. absurd (omega arith)
left_fine s w (busy o l ph) = λ e. absurd (omega arith)

-- The machine never answers 2.
pub reply_fine : (s : Catalogue) (x : Call) → (reply s x).code ≢ damaged_code
unfolding reply move
reply_fine s (Call.make p m n q c) = λ e. absurd (omega arith)
reply_fine s (Call.register v z) = unfold registering in
    unless_fine s (register_refusals s.memory v) (record
    { answer = accepted s.memory.items; leaves = registered s v z (found (node_to_take s.memory)) })
    ((λ e. absurd (omega arith)), ((λ e. absurd (omega arith)), ((λ e. absurd (omega arith)), tt))) (λ e. absurd (omega arith))
reply_fine s (Call.v_read w i) = starting_fine s w (v_read i)
reply_fine s (Call.v_cas w i x y) = starting_fine s w (v_cas i x y)
reply_fine s (Call.take_snapshot w) = starting_fine s w take_snapshot
reply_fine s (Call.read_snapshot w i h) = starting_fine s w (read_snapshot i h)
reply_fine s (Call.total w q h) = starting_fine s w (total q h)
reply_fine s (Call.step w) = unfold stepping in
    unless_fine s (step_refusals s w) (stepped s w (s.worker w)) ((λ e. absurd (omega arith)), ((λ e. absurd (omega arith)), tt))
    (stepped_fine s w (s.worker w))
reply_fine s (Call.abandon w) = unfold abandoning in
    unless_fine s (step_refusals s w) (left s w (s.worker w)) ((λ e. absurd (omega arith)), ((λ e. absurd (omega arith)), tt)) (left_fine s w (s.worker w))
