-- What the schedule program prints on a text, line by line, and what is promised where each line is printed: the statement, proved of every text in
-- AsPromised. `printed` (text/specs/Replies) is a definition. That the compiled program prints it is proved as far as a contract can say it: `answer_piece`
-- and `answer_last` (crate text) put the answer lines of a piece of the text into the output, each turn of the program's loop does so with what it
-- has read, and the pieces together come to `printed` of the whole text (`Ran`, crate schedule). That this text is what the loop took from its input, and
-- that the answers are what its output gained, is proved of any reader and writer whose bytes are known (`RanOn`, crate schedule); that the standard
-- streams are such is assumed of libc's read and write, and tested.
use Rattle.std.specs.Prelude.{◌≡◌, List, [], ◌∷◌, ◌++◌, ℕ}
use Rattle.definitions.specs.Answers.{refusal}
use Rattle.definitions.specs.Calls.{Call, outcome}
use Rattle.frames.specs.declared.Frame.{Frame}
use Rattle.frames.specs.declared.Frame.TheVariants.{Make, Register, VRead, VCas, TakeSnapshot, ReadSnapshot, Total, Step, Bad}
use Rattle.frames.specs.AnswerLines.{answer_line}
use Rattle.text.specs.Replies.{frames_of, lent, printed}
use Rattle.history.specs.Notes.{words_after}
use Rattle.order.specs.LastMake.{NoneMade, Made}

-- Which frames ask for which calls. A bad frame asks for none, and no frame asks for an abandon.
pub data Asks : Frame → Call → Type 0 where
  make : (p m n q c : ℕ) → Asks (Make p m n q c) (Call.make p m n q c)
  register : (v s : ℕ) → Asks (Register v s) (Call.register v s)
  v_read : (w i : ℕ) → Asks (VRead w i) (Call.v_read w i)
  v_cas : (w i old new : ℕ) → Asks (VCas w i old new) (Call.v_cas w i old new)
  take_snapshot : (w : ℕ) → Asks (TakeSnapshot w) (Call.take_snapshot w)
  read_snapshot : (w i h : ℕ) → Asks (ReadSnapshot w i h) (Call.read_snapshot w i h)
  total : (w q h : ℕ) → Asks (Total w q h) (Call.total w q h)
  step : (w : ℕ) → Asks (Step w) (Call.step w)

-- What is known after calls on the lent words, the newest first.
pub data Known (calls : List Call) : Type 0 where
  -- no make was accepted, and the words are as they were lent, all zero: so every call but make answers 2 (`before_any_make`, text/specs/BeforeMake)
  not_made : NoneMade lent calls → words_after lent calls ≡ lent → Known calls
  -- or the words, with what is told since the last accepted make, are a history, and demands 2 and 3 hold of it (order/specs/LastMake)
  since_made : Made lent calls → Known calls

-- Frames that come after calls are answered in turn, a line for each: by what its call answers on the words that the calls before it left, or by 13
-- where the frame is bad, and that is no call.
pub data Answered : (calls : List Call) → List Frame → (output : List ℕ) → Type 0 where
  at_the_end : {calls : List Call} → Known calls → Answered calls [] []
  a_call : {calls : List Call} {frames : List Frame} {output : List ℕ} → Known calls → (f : Frame) (x : Call) → Asks f x → Answered (x ∷ calls) frames output →
      Answered calls (f ∷ frames) (answer_line (outcome (words_after lent calls) x).answer ++ output)
  a_bad_frame : {calls : List Call} {frames : List Frame} {output : List ℕ} → Known calls → Answered calls frames output →
      Answered calls (Bad ∷ frames) (answer_line (refusal 13 0) ++ output)

-- What is printed on a text answers its frames, from the first.
abbrev pub AsPromised : (text : List ℕ) → Type 0
AsPromised text = Answered [] (frames_of text) (printed text)
