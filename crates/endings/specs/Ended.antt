-- How a call ends, in the code's types: with an answer, or refused for a reason.
use Rattle.std.specs.Prelude.{ℕ, ◌≡◌, Bool, true, false, List, Result, Ok, Err}
use Rattle.definitions.specs.declared.Answer.{Answer}
use Rattle.definitions.specs.Answers.{refusal}
use Rattle.definitions.specs.Cells.{Assignment, record_of}
use Rattle.endings.specs.declared.reason.Reason.{Reason}
use Rattle.endings.specs.declared.reason.Reason.TheVariants as reasons
use Rattle.endings.specs.declared.record.Record.{Record}

-- The number of a reason in document 01's table.
abbrev pub number_of : Reason → ℕ
number_of reasons.SizesOutside = 1
number_of reasons.Damaged = 2
number_of reasons.NoWorker = 3
number_of reasons.Busy = 4
number_of reasons.Idle = 5
number_of reasons.NoItem = 6
number_of reasons.NoProject = 7
number_of reasons.NoHandle = 8
number_of reasons.BornLater = 9
number_of reasons.ItemsFull = 10
number_of reasons.NodesFull = 11
number_of reasons.CounterFull = 12
number_of reasons.BadFrame = 13

-- The answer that a call gives: its own, or the refusal's.
abbrev pub answered : Result Answer Reason → Answer
answered (Ok a) = a
answered (Err r) = refusal (number_of r) 0

-- All sixteen words of worker w's record, as a record of the code's says them.
abbrev pub assigned : ℕ → Record → List Assignment
assigned w r = record_of w r.phase r.item r.old r.new r.handle r.project r.noted

-- What is read is v, where it is not damaged; and where it is, the call is refused for that.
abbrev pub Reads : {A : Type 0} → Bool → A → Result A Reason → Type 0
Reads damaged v (Ok x) = (damaged ≡ false) × (x ≡ v)
Reads damaged v (Err r) = (damaged ≡ true) × (r ≡ reasons.Damaged)
