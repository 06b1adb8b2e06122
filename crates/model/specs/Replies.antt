-- Document 01's numbers of what a call answers.
use Rattle.std.specs.Prelude.{ℕ, ◌+◌, List, [], ◌∷◌, Result, Ok, Err}
use Rattle.model.specs.declared.replies.Refusal.{Refusal}
use Rattle.model.specs.declared.replies.Refusal.TheVariants.{SizesOrWords, Damaged, NoSuchWorker, InOperation, Idle, NotRegistered, NoSuchProject, HandleNotGiven, HandleBelowBirth, AllItemsExist, AllNodesTaken, LargestCounter}
use Rattle.model.specs.declared.replies.Reply.{Reply}
use Rattle.model.specs.declared.replies.Reply.TheVariants.{Finished, Running, Done, Refused}

abbrev pub number_of : Refusal → ℕ
number_of SizesOrWords = 1
number_of Damaged = 2
number_of NoSuchWorker = 3
number_of InOperation = 4
number_of Idle = 5
number_of NotRegistered = 6
number_of NoSuchProject = 7
number_of HandleNotGiven = 8
number_of HandleBelowBirth = 9
number_of AllItemsExist = 10
number_of AllNodesTaken = 11
number_of LargestCounter = 12

-- Code, value and steps.
abbrev pub numbers_of : Reply → List ℕ
numbers_of (Finished value steps) = 0 ∷ value ∷ steps ∷ []
numbers_of (Running steps) = 1 ∷ 0 ∷ steps ∷ []
numbers_of (Done value) = 2 ∷ value ∷ 0 ∷ []
numbers_of (Refused refusal steps) = (16 + number_of refusal) ∷ 0 ∷ steps ∷ []

-- Of the calls but a step: "a refusal answers value 0, steps 0".
abbrev pub reply_of : Result ℕ Refusal → Reply
reply_of (Ok value) = Done value
reply_of (Err refusal) = Refused refusal 0

abbrev pub accepted_of : Result (Unit {0}) Refusal → Reply
accepted_of (Ok _) = Done 0
accepted_of (Err refusal) = Refused refusal 0
