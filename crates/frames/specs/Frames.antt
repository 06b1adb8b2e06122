-- The frames of document 01's schedule program: what a line asks.
use Rattle.std.specs.Prelude.{◌≡◌, ℕ, ◌+◌, ◌-◌, ◌*◌, ◌<◌, Bool, true, false, cond, ◌&&◌, List, [], ◌∷◌, Option, None, Some, length, take, drop, ◌==◌, nat_le, nat_lt, slice_index, slice_index_or}
use Rattle.frames.specs.declared.Frame.{Frame}
use Rattle.frames.specs.declared.Frame.TheVariants.{Make, Register, VRead, VCas, TakeSnapshot, ReadSnapshot, Total, Step, Bad}

abbrev pub within : ℕ → ℕ → ℕ → Bool
within low high x = nat_le low x && nat_le x high

-- A lower-case hexadecimal digit. 65536, more than four digits spell, stands for a byte that is none.
abbrev pub no_digit : ℕ
no_digit = 65536

unfoldable pub digit : ℕ → ℕ
digit b = cond (within 48 57 b) (b - 48) (cond (within 97 102 b) (b - 87) no_digit)

unfoldable pub all_digits : List ℕ → Bool
all_digits [] = true
all_digits (b ∷ bs) = nat_lt (digit b) 16 && all_digits bs

-- The number that digits spell after those of n.
abbrev pub number_after : ℕ → List ℕ → ℕ
number_after n [] = n
number_after n (b ∷ bs) = number_after (n * 16 + digit b) bs

abbrev pub number : List ℕ → ℕ
number bs = number_after 0 bs

-- Two digits of operation, then each argument as four digits.
abbrev pub operation : List ℕ → ℕ
operation line = number (take 2 line)

abbrev pub argument : List ℕ → ℕ → ℕ
argument line k = number (take 4 (drop (2 + 4 * k) line))

-- How many arguments an operation has, 0 where there is no such operation, and the frame that it makes of them.
abbrev pub arguments : ℕ → ℕ
arguments o = slice_index (0 ∷ 5 ∷ 2 ∷ 2 ∷ 4 ∷ 1 ∷ 3 ∷ 3 ∷ 1 ∷ []) o

abbrev pub asked : ℕ → (ℕ → ℕ) → Frame
asked o a =
    slice_index_or (Bad
    ∷ Make (a 0) (a 1) (a 2) (a 3) (a 4)
    ∷ Register (a 0) (a 1)
    ∷ VRead (a 0) (a 1)
    ∷ VCas (a 0) (a 1) (a 2) (a 3)
    ∷ TakeSnapshot (a 0)
    ∷ ReadSnapshot (a 0) (a 1) (a 2)
    ∷ Total (a 0) (a 1) (a 2)
    ∷ Step (a 0)
    ∷ []) o Bad

-- What a line of operation o asks. A wrong digit, length or operation makes a bad frame.
abbrev pub well_formed : ℕ → List ℕ → Bool
well_formed o line = all_digits line && length line == 2 + 4 * arguments o

-- A blank line is bad, and so is a line over 64 characters, since no frame is as long.
unfoldable pub frame : List ℕ → Frame
frame line = cond (well_formed (operation line) line) (asked (operation line) (argument line)) Bad

-- The same of a line whose operation is known, by the digits after it.
abbrev pub framed : ℕ → List ℕ → Frame
framed o line = cond (all_digits (drop 2 line) && length line == 2 + 4 * arguments o) (asked o (argument line)) Bad

-- What is read where a test holds: the value, and nothing where it does not.
abbrev pub Reads : {X : Type 0} → Bool → X → Option X → Type 0
Reads good x None = good ≡ false
Reads good x (Some y) = (good ≡ true) × (y ≡ x)

-- The n arguments of a line, where it has just so many, and no wrong digit.
abbrev pub ReadsArguments : ℕ → List ℕ → Option (List ℕ) → Type 0
ReadsArguments n line None = (all_digits (drop 2 line) && length line == 2 + 4 * n) ≡ false
ReadsArguments n line (Some xs) =
    ((all_digits (drop 2 line) && length line == 2 + 4 * n) ≡ true) × ((k : ℕ) → k < n → slice_index xs k ≡ argument line k)
