-- Document 01's numbers of an answer, and what a call comes to: its answer and its writes, or the first refusal that applies.
use Rattle.std.specs.Prelude.{ℕ, ◌+◌, Bool, cond, List, [], ◌∷◌, ◌++◌}
use Rattle.definitions.specs.declared.Answer.{Answer}
use Rattle.definitions.specs.Cells.{Cells, Assignment, ◌≔◌, phase, steps, cleared}

-- Two digits of code, sixteen of value, four of steps: 00 finished, 01 running, 02 started, made or registered, 16 + n refused.
abbrev pub finished : ℕ → ℕ → Answer
finished v n = record { code = 0; value = v; steps = n; stamped = 0; operator = 0 }

abbrev pub running : ℕ → Answer
running n = record { code = 1; value = 0; steps = n; stamped = 0; operator = 0 }

abbrev pub accepted : ℕ → Answer
accepted v = record { code = 2; value = v; steps = 0; stamped = 0; operator = 0 }

abbrev pub refusal : ℕ → ℕ → Answer
refusal number n = record { code = 16 + number; value = 0; steps = n; stamped = 0; operator = 0 }

-- What a call comes to, as its answer and what it writes.
pub record Outcome : Type 0 where
  pub answer : Answer
  pub writes : List Assignment

-- A refusal answers value 0, steps 0, and changes no word.
abbrev pub refused : ℕ → Outcome
refused number = record { answer = refusal number 0; writes = [] }

-- A condition of refusal with its number, and the first of them that holds.
pub record Refusal : Type 0 where
  pub when : Bool
  pub number : ℕ

infix 68 ◌⇒◌
abbrev pub ◌⇒◌ : Bool → ℕ → Refusal
◌⇒◌ b n = record { when = b; number = n }

abbrev pub unless : List Refusal → Outcome → Outcome
unless [] o = o
unless (r ∷ rs) o = cond r.when (refused r.number) (unless rs o)

-- A call that starts nothing and is done, or starts an operation.
abbrev pub accepts : ℕ → List Assignment → Outcome
accepts v xs = record { answer = accepted v; writes = xs }

-- The step is counted, and worker w goes on at phase p.
abbrev pub goes_on : Cells → ℕ → ℕ → List Assignment → Outcome
goes_on m w p xs = record { answer = running (m (steps w) + 1); writes = xs ++ (phase w ≔ p ∷ steps w ≔ (m (steps w) + 1) ∷ []) }

-- The operation ends with an answer, its steps counted, and worker w is idle.
abbrev pub answers : Cells → ℕ → ℕ → List Assignment → Outcome
answers m w v xs = record { answer = finished v (m (steps w) + 1); writes = xs ++ cleared w }

-- The operation ends with number 11 or 12: it answers its steps, and worker w is idle.
abbrev pub ends_with : Cells → ℕ → ℕ → Outcome
ends_with m w number = record { answer = refusal number (m (steps w) + 1); writes = cleared w }
