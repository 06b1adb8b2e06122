-- What a run answers, and what it takes from its input and puts into its output, where those are known.
use Rattle.std.specs.Prelude.{◌≡◌, ℕ, ◌⊎◌, ◌↔◌, Bool, true, false, List, ◌∷◌, Option, Result, Ok, Err, OnOk, IfErr, length, take, ℤ, pos, negsuc}
use Rattle.std.specs.Io.KnownBytes.{Consumes, Appends, IsAtEnd}
use Rattle.text.specs.Feeding.{Piece, Last}
use Rattle.schedule.specs.declared.Failure.{Failure}
use Rattle.schedule.specs.declared.Failure.TheVariants.{Arguments, Unread, Unwritten, NobodyReads, TurnsSpent}
use Rattle.schedule.specs.Exchanges.{all_read, all_handed, Ran}
use Rattle.schedule.specs.Turns.{out_length, After, Turned}

-- What a read answered as one number: how many bytes, or below zero where it failed.
abbrev pub got_of : {E : Type 0} → Result ℕ E → ℤ
got_of (Ok n) = pos n
got_of (Err e) = negsuc 0

-- Whether a run could go on: only where all of its turns are spent.
abbrev pub could_go_on : {T : Type 0} → Result T Failure → Bool
could_go_on (Ok u) = false
could_go_on (Err Arguments) = false
could_go_on (Err Unread) = false
could_go_on (Err Unwritten) = false
could_go_on (Err NobodyReads) = false
could_go_on (Err TurnsSpent) = true

-- What the last read answered.
abbrev pub EndedBy : {T : Type 0} → Result T Failure → ℤ → Type 0
EndedBy (Ok u) got = got ≡ pos 0
EndedBy (Err Arguments) got = ⊥
EndedBy (Err Unread) got = got ≡ negsuc 0
EndedBy (Err Unwritten) got = Unit {0}
EndedBy (Err NobodyReads) got = Unit {0}
EndedBy (Err TurnsSpent) got = Unit {0}

-- What a failed write comes to.
abbrev pub OfWrite : Failure → Type 0
OfWrite Arguments = ⊥
OfWrite Unread = ⊥
OfWrite Unwritten = Unit {0}
OfWrite NobodyReads = Unit {0}
OfWrite TurnsSpent = ⊥

-- What holds unless the answer is that a write failed, which may have done a part.
abbrev pub IfWritten : {T : Type 0} → Result T Failure → Type 0 → Type 0
IfWritten (Ok u) claim = claim
IfWritten (Err failure) claim = OfWrite failure ⊎ claim

-- A run that answered so, from an input that had r₀ left and has r₁, to an output that held w₀ and holds w₁: what its turns read is what the input lost;
-- where the last of them found the end of the input, as it did where the run answers Ok, the input is at its end; where the last read failed, the run
-- answers Unread; and unless it answers that a write failed, what its turns handed to write is what the output gained.
pub record RanOn {T : Type 0} (r₀ r₁ w₀ w₁ : Option (List ℕ)) (ws₀ : List ℕ) (answered : Result T Failure) (ws' : List ℕ) : Type 0 where
  pub run : Ran ws₀ (could_go_on answered) ws'
  pub reads_on : Consumes r₀ r₁ (all_read (run.last ∷ run.before))
  pub ended_by : EndedBy answered run.last.got
  pub at_end : run.last.got ≡ pos 0 → IsAtEnd r₁
  pub unread : (n : ℕ) → run.last.got ≡ negsuc n → answered ≡ Err Unread
  pub appends : IfWritten answered (Appends w₀ w₁ (all_handed (run.last ∷ run.before)))

-- The whole lines of a text are answered: so many answers are handed to write, and where it answers Ok, the output gained them.
pub record Answers {T : Type 0} (w₀ w₁ : Option (List ℕ)) (t ws out : List ℕ) (answered : Result T Failure) (held : ℕ) (bytes' ws' out' : List ℕ) : Type 0 where
  pub written : ℕ
  pub piece : Piece t ws out (record { held = held; written = written }) bytes' ws' out'
  pub appends : OnOk answered (Appends w₀ w₁ (take written out'))
  pub failed : IfErr answered OfWrite

-- The same of a last line.
pub record AnswersLast {T : Type 0} (w₀ w₁ : Option (List ℕ)) (t ws out : List ℕ) (answered : Result T Failure) (ws' out' : List ℕ) : Type 0 where
  pub written : ℕ
  pub last : Last t ws out written ws' out'
  pub appends : OnOk answered (Appends w₀ w₁ (take written out'))
  pub failed : IfErr answered OfWrite

-- Whether the run goes on after a turn that answered so.
abbrev pub goes_on_of : Result Bool Failure → Bool
goes_on_of (Ok goes_on) = goes_on
goes_on_of (Err failure) = false

-- What a turn answers whose read answered so: whether the run goes on, and it ends exactly at the end of the input; or what a failed write comes to; and
-- where the read failed, Unread.
abbrev pub TurnAnswers : ℤ → Result Bool Failure → Type 0
TurnAnswers (pos n) (Ok goes_on) = (goes_on ≡ false) ↔ (n ≡ 0)
TurnAnswers (pos n) (Err failure) = OfWrite failure
TurnAnswers (negsuc n) (Ok goes_on) = ⊥
TurnAnswers (negsuc n) (Err failure) = (n ≡ 0) × (failure ≡ Unread)

-- What a read comes to that answered `got`, where p are the bytes read, after the k that are kept: so many answers are handed to write, and unless it
-- answers that a write failed, the output gained them. Where the read failed there are none.
pub record AnswersRead (w₀ w₁ : Option (List ℕ)) (got : ℤ) (k p ws out : List ℕ) (answered : Result Bool Failure) (held : ℕ)
    (bytes' ws' out' : List ℕ) : Type 0 where
  pub written : ℕ
  pub after : After got k p ws out (record { held = held; written = written; goes_on = goes_on_of answered }) bytes' ws' out'
  pub answers : TurnAnswers got answered
  pub appends : IfWritten answered (Appends w₀ w₁ (take written out'))

-- A turn: what it read is what the input lost; where it found the end of the input, the input is at its end; and unless it answers that a write failed,
-- what it handed to write is what the output gained. The output's buffer has room for all answers, as the next turn asks.
pub record TakesTurn (r₀ r₁ w₀ w₁ : Option (List ℕ)) (k ws out : List ℕ) (answered : Result Bool Failure) (held : ℕ)
    (bytes' ws' out' : List ℕ) : Type 0 where
  pub written : ℕ
  pub turned : Turned k ws out (record { held = held; written = written; goes_on = goes_on_of answered }) bytes' ws' out'
  pub reads_on : Consumes r₀ r₁ turned.exchange.read
  pub at_end : turned.exchange.got ≡ pos 0 → IsAtEnd r₁
  pub answers : TurnAnswers turned.exchange.got answered
  pub appends : IfWritten answered (Appends w₀ w₁ turned.exchange.handed)
  pub room : length out ≡ out_length
