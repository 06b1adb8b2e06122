-- What the program exchanges with the operating system, turn by turn, as far as a contract can tell it: some read answered this, with these bytes,
-- and these bytes were handed to write. That the bytes read are those of the input, and that those handed on are written, `RanOn` (Runs) says of a reader
-- and a writer whose bytes are known.
use Rattle.std.specs.Prelude.{◌≡◌, ℕ, suc, ◌<◌, ◌≤◌, Bool, true, false, List, [], ◌∷◌, ◌++◌, ℤ, pos, negsuc, length}
use Rattle.frames.specs.declared.Frame.{Frame}
use Rattle.text.specs.Replies.{answers, words_after, frames_of}
use Rattle.text.specs.Feeding.{frames_in}

-- As many bytes as read answered; where it failed, none.
abbrev pub AsMany : List ℕ → ℤ → Type 0
AsMany p (pos n) = length p ≡ n
AsMany p (negsuc n) = p ≡ []

-- One turn: what read answered, the bytes read, the bytes handed to write, and whether the program goes on. Where some bytes were read that is what
-- write answers: whether it took all that it was handed.
pub record Exchange : Type 0 where
  pub got : ℤ
  pub read : List ℕ
  pub as_many : AsMany read got
  pub handed : List ℕ
  pub goes_on : Bool

-- Turns, the newest first: the text is all that they read; all that they handed to write; and each of them read something and goes on.
unfoldable pub all_read : List Exchange → List ℕ
all_read [] = []
all_read (e ∷ es) = all_read es ++ e.read

unfoldable pub all_handed : List Exchange → List ℕ
all_handed [] = []
all_handed (e ∷ es) = all_handed es ++ e.handed

abbrev pub AllGoOn : List Exchange → Type 0
AllGoOn [] = Unit {0}
AllGoOn (e ∷ es) = (0 < length e.read) × (e.goes_on ≡ true) × AllGoOn es

-- A run takes at most 2^64 - 1 turns.
abbrev pub most_turns : ℕ
most_turns = 18446744073709551615

-- Why a run ended, by its last turn and the number of its turns; whether it could go on; and which frames of the text it carried out.
-- At the end of the input these are the frames of all lines, of an unfinished last one too, and else of the whole lines. Whether the last write failed
-- there, this does not say.
pub data Ends (last : Exchange) (number : ℕ) (text : List ℕ) : Bool → List Frame → Type 0 where
  input_ended : last.got ≡ pos 0 → Ends last number text false (frames_of text)
  read_failed : (n : ℕ) → last.got ≡ negsuc n → Ends last number text false (frames_in text)
  write_failed : (n : ℕ) → last.got ≡ pos (suc n) → last.goes_on ≡ false → Ends last number text false (frames_in text)
  turns_spent : 0 < length last.read → last.goes_on ≡ true → number ≡ most_turns → Ends last number text true (frames_in text)

-- A run from words ws₀ that answered r: each turn before the last goes on; what all of them handed to write are the answers to the frames, in order;
-- and the words are those after them.
pub record Ran (ws₀ : List ℕ) (r : Bool) (ws' : List ℕ) : Type 0 where
  pub before : List Exchange
  pub last : Exchange
  pub frames : List Frame
  pub each_goes_on : AllGoOn before
  pub at_most : length (last ∷ before) ≤ most_turns
  pub ends : Ends last (length (last ∷ before)) (all_read (last ∷ before)) r frames
  pub hands : all_handed (last ∷ before) ≡ answers ws₀ frames
  pub leaves : ws' ≡ words_after ws₀ frames
