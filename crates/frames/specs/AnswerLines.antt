-- The answer line of document 01's schedule program: two digits of code, sixteen of value, four of steps, and a line feed.
use Rattle.std.specs.Prelude.{ℕ, zero, suc, ◌+◌, ◌/◌, ◌%◌, cond, List, [], ◌∷◌, ◌++◌, nat_lt}
use Rattle.definitions.specs.declared.Answer.{Answer}
use Rattle.frames.specs.Lines.{feed}

-- The lower-case hexadecimal digit of a number below 16.
abbrev pub glyph : ℕ → ℕ
glyph d = cond (nat_lt d 10) (48 + d) (87 + d)

-- The last k digits of n, the most significant first.
unfoldable pub hex : ℕ → ℕ → List ℕ
hex zero n = []
hex (suc k) n = hex k (n / 16) ++ (glyph (n % 16) ∷ [])

abbrev pub code_digits : ℕ
code_digits = 2

abbrev pub value_digits : ℕ
value_digits = 16

abbrev pub steps_digits : ℕ
steps_digits = 4

-- How many bytes an answer line has.
abbrev pub answer_length : ℕ
answer_length = code_digits + value_digits + steps_digits + 1

unfoldable pub answer_line : Answer → List ℕ
answer_line a = hex code_digits a.code ++ (hex value_digits a.value ++ (hex steps_digits a.steps ++ (feed ∷ [])))
