-- What the text function does with bytes, words and an output that are lent to it.
use Rattle.std.specs.Prelude.{◌≡◌, ℕ, zero, suc, ◌/◌, ◌≤◌, cond, List, map, length, take, drop}
use Rattle.std.proofs.lemmas.List.Edits.{sets}
use Rattle.frames.specs.declared.Frame.{Frame}
use Rattle.frames.specs.Lines.{has_feed, after_line, whole_lines, unfinished, last_line}
use Rattle.frames.specs.Frames.{frame}
use Rattle.frames.specs.AnswerLines.{answer_length}
use Rattle.text.specs.declared.Fed.{Fed}
use Rattle.text.specs.declared.Kept.{Kept}
use Rattle.text.specs.Replies.{answers, words_after}

-- How many answer lines an output has room for, and the frames of as many whole lines of a text.
abbrev pub room_in : List ℕ → ℕ
room_in out = length out / answer_length

unfoldable pub frames_up_to : ℕ → List ℕ → List Frame
frames_up_to k t = take k (map frame (whole_lines t))

-- A text after its first k whole lines, or after as many as it has.
unfoldable pub left_after : ℕ → List ℕ → List ℕ
left_after zero t = t
left_after (suc k) t = cond (has_feed t) (left_after k (after_line t)) t

-- The answers stand at the front of the output, in the order of the lines, and no other byte of it is changed.
pub record Feeding (text ws out : List ℕ) (r : Fed) (ws' out' : List ℕ) : Type 0 where
  pub writes : out' ≡ sets out 0 (answers ws (frames_up_to (room_in out) text))
  pub counts : r.written ≡ length (answers ws (frames_up_to (room_in out) text))
  pub leaves : ws' ≡ words_after ws (frames_up_to (room_in out) text)
  pub rest : drop r.used text ≡ left_after (room_in out) text
  pub within : r.used ≤ length text

-- A text that comes in pieces. Of a line that is unfinished 65 bytes are kept: a longer line is a bad frame, whatever it holds.
abbrev pub longest_kept : ℕ
longest_kept = 65

unfoldable pub kept : List ℕ → List ℕ
kept t = take longest_kept (unfinished t)

-- The frames of the whole lines of a text, and that of a last line without a line feed.
unfoldable pub frames_in : List ℕ → List Frame
frames_in t = map frame (whole_lines t)

unfoldable pub last_frame : List ℕ → List Frame
last_frame t = map frame (last_line t)

-- All whole lines of t are answered, and what is kept of the rest stands at the front of the bytes.
pub record Piece (t ws out : List ℕ) (r : Kept) (text' ws' out' : List ℕ) : Type 0 where
  pub writes : out' ≡ sets out 0 (answers ws (frames_in t))
  pub counts : r.written ≡ length (answers ws (frames_in t))
  pub leaves : ws' ≡ words_after ws (frames_in t)
  pub keeps : take r.held text' ≡ kept t
  pub holds : r.held ≡ length (kept t)

-- The last line is answered.
pub record Last (t ws out : List ℕ) (r : ℕ) (ws' out' : List ℕ) : Type 0 where
  pub writes : out' ≡ sets out 0 (answers ws (last_frame t))
  pub counts : r ≡ length (answers ws (last_frame t))
  pub leaves : ws' ≡ words_after ws (last_frame t)
