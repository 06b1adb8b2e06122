-- The lines of a text. Only a line feed ends a line, and the last line may lack its own.
use Rattle.std.specs.Prelude.{ℕ, suc, Bool, false, cond, ◌||◌, List, [], ◌∷◌, take, ◌==◌}

abbrev pub feed : ℕ
feed = 10

-- A byte in front of the first line, which it makes where there is none.
abbrev pub before_first : ℕ → List (List ℕ) → List (List ℕ)
before_first x [] = (x ∷ []) ∷ []
before_first x (l ∷ ls) = (x ∷ l) ∷ ls

-- The lines of a text: an empty text has none, and a final line feed adds none.
unfoldable pub lines_of : List ℕ → List (List ℕ)
lines_of [] = []
lines_of (x ∷ xs) = cond (x == feed) ([] ∷ lines_of xs) (before_first x (lines_of xs))

-- The bytes before the first line feed, how many they are, and what stands after it.
unfoldable pub line_length : List ℕ → ℕ
line_length [] = 0
line_length (x ∷ xs) = cond (x == feed) 0 (suc (line_length xs))

abbrev pub first_line : List ℕ → List ℕ
first_line t = take (line_length t) t

unfoldable pub after_line : List ℕ → List ℕ
after_line [] = []
after_line (x ∷ xs) = cond (x == feed) xs (after_line xs)

-- A text in two: its whole lines, which have their line feed, and what stands after the last of them.
unfoldable pub has_feed : List ℕ → Bool
has_feed [] = false
has_feed (x ∷ xs) = x == feed || has_feed xs

abbrev pub onto_first : ℕ → List (List ℕ) → List (List ℕ)
onto_first x [] = []
onto_first x (l ∷ ls) = (x ∷ l) ∷ ls

unfoldable pub whole_lines : List ℕ → List (List ℕ)
whole_lines [] = []
whole_lines (x ∷ xs) = cond (x == feed) ([] ∷ whole_lines xs) (onto_first x (whole_lines xs))

unfoldable pub unfinished : List ℕ → List ℕ
unfinished [] = []
unfinished (x ∷ xs) = cond (x == feed || has_feed xs) (unfinished xs) (x ∷ xs)

-- An unfinished line is a line where it has a byte.
abbrev pub last_line : List ℕ → List (List ℕ)
last_line [] = []
last_line (x ∷ xs) = (x ∷ xs) ∷ []
