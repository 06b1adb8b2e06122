-- The forms of the contracts: what an inner function answers and leaves, and what an exported call tells.
use Rattle.std.specs.Prelude.{ℕ, ◌≡◌, List, [], ◌∷◌}
use Rattle.definitions.specs.declared.Answer.{Answer}
use Rattle.definitions.specs.Cells.{written}
use Rattle.definitions.specs.Answers.{Outcome}
use Rattle.definitions.specs.Calls.{Result}

-- On words whose items start at a and nodes at b, an outcome is met: its answer is given, and every word is as its writes leave it.
pub record Met (a b : ℕ) (before : List ℕ) (o : Outcome) (answer : Answer) (after : List ℕ) : Type 0 where
  pub answers : answer ≡ o.answer
  pub leaves : after ≡ written a b before o.writes

-- A call is done as its result says: the answer, and every lent word.
pub record Done (result : Result) (answer : Answer) (after : List ℕ) : Type 0 where
  pub answers : answer ≡ result.answer
  pub leaves : after ≡ result.words

-- The same, as an exported call tells it: the code is returned, and the four numbers of the answer are the value, the steps and two zeros.
pub record Told (result : Result) (code : ℕ) (numbers after : List ℕ) : Type 0 where
  pub returns : code ≡ result.answer.code
  pub tells : numbers ≡ result.answer.value ∷ result.answer.steps ∷ 0 ∷ 0 ∷ []
  pub leaves : after ≡ result.words
