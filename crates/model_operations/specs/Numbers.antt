-- The numbers that stand in two columns of workers.
use Rattle.std.specs.Prelude.{◌≡◌, ℕ, ◌<◌, ◌⊎◌, Option, MatchOption}
use Rattle.model_operations.specs.declared.workers.Operation.{Operation}
use Rattle.model_operations.specs.declared.workers.Operation.TheVariants.{VRead, VCas, TakeSnapshot, ReadSnapshot, Total}
use Rattle.model_operations.specs.declared.workers.Outcome.{Outcome}
use Rattle.model_operations.specs.declared.workers.Outcome.TheVariants.{NotYet, Succeeded, Failed}

abbrev pub operation_number : Operation → ℕ
operation_number VRead = 1
operation_number VCas = 2
operation_number TakeSnapshot = 3
operation_number ReadSnapshot = 4
operation_number Total = 5

-- The operation of a number; none is an idle worker's.
abbrev pub IsOperationOf : ℕ → Option Operation → Type 0
IsOperationOf number operation =
    MatchOption operation ((number ≡ 0) ⊎ (5 < number)) (λ o. operation_number o ≡ number)

abbrev pub outcome_number : Outcome → ℕ
outcome_number NotYet = 0
outcome_number Succeeded = 1
outcome_number Failed = 2
