-- What the schedule program prints: the answer lines of the frames of a text, in order.
use Rattle.std.specs.Prelude.{ℕ, List, [], ◌∷◌, ◌++◌, map, replicate}
use Rattle.definitions.specs.Answers.{refusal}
use Rattle.definitions.specs.Calls.{Result, outcome, make, register, v_read, v_cas, take_snapshot, read_snapshot, total, step}
use Rattle.frames.specs.declared.Frame.{Frame}
use Rattle.frames.specs.declared.Frame.TheVariants.{Make, Register, VRead, VCas, TakeSnapshot, ReadSnapshot, Total, Step, Bad}
use Rattle.frames.specs.Lines.{lines_of}
use Rattle.frames.specs.Frames.{frame}
use Rattle.frames.specs.AnswerLines.{answer_line}

-- What a frame comes to on the lent words. A bad frame is refusal 13 and asks nothing of the catalogue.
unfoldable pub replied : List ℕ → Frame → Result
replied ws (Make p m n q c) = outcome ws (make p m n q c)
replied ws (Register v s) = outcome ws (register v s)
replied ws (VRead w i) = outcome ws (v_read w i)
replied ws (VCas w i o n) = outcome ws (v_cas w i o n)
replied ws (TakeSnapshot w) = outcome ws (take_snapshot w)
replied ws (ReadSnapshot w i h) = outcome ws (read_snapshot w i h)
replied ws (Total w q h) = outcome ws (total w q h)
replied ws (Step w) = outcome ws (step w)
replied ws Bad = record { answer = refusal 13 0; words = ws }

-- The answer lines of frames, one after the other, and the words after them.
unfoldable pub answers : List ℕ → List Frame → List ℕ
answers ws [] = []
answers ws (f ∷ fs) = answer_line (replied ws f).answer ++ answers (replied ws f).words fs

unfoldable pub words_after : List ℕ → List Frame → List ℕ
words_after ws [] = ws
words_after ws (f ∷ fs) = words_after (replied ws f).words fs

-- The frames of a text, one for each line.
abbrev pub frames_of : List ℕ → List Frame
frames_of t = map frame (lines_of t)

-- What the program prints on a text: it lends 16,384 words, which are zero before the first make.
abbrev pub lent : List ℕ
lent = replicate 16384 0

abbrev pub printed : List ℕ → List ℕ
printed t = answers lent (frames_of t)
