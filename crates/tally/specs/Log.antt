-- How the log's numbers are read back as calls.
use Rattle.std.specs.Prelude.{ℕ, ◌%◌, ◌/◌, ◌==◌, List, [], ◌∷◌, slice_index_or, if◌then◌else◌}
use Rattle.tally.specs.declared.frames.Operation.TheVariants.{VRead, VCas, TakeSnapshot, ReadSnapshot, Total}
use Rattle.tally.specs.declared.frames.Call.{Call}
use Rattle.tally.specs.declared.frames.Call.TheVariants.{Make, Register, Start, Step, Abandon}
use Rattle.tally.specs.declared.frames.Lent.{Lent}

-- Number i of some.
abbrev pub number : List ℕ → (i : ℕ) → ℕ
number numbers i = slice_index_or numbers i 0

-- The call of a first number and its arguments, of which a worker's calls have the worker first.
abbrev pub call_of : (first : ℕ) → (arguments : List ℕ) → Call
call_of first arguments =
    let a = number arguments 0 in
    let b = number arguments 1 in
    let c = number arguments 2 in
    let d = number arguments 3 in
    if first == 1 then Make a b c d (number arguments 4)
    else (if first == 2 then Register a b
    else (if first == 3 then Start a (VRead b)
    else (if first == 4 then Start a (VCas b c d)
    else (if first == 5 then Start a TakeSnapshot
    else (if first == 6 then Start a (ReadSnapshot b c)
    else (if first == 7 then Start a (Total b c)
    else (if first == 8 then Step a
    else Abandon a)))))))

-- The call of six numbers, with the words lent to it: they share the first number with the call's own first.
abbrev pub lent_of : (numbers : List ℕ) → Lent
lent_of numbers =
    let arguments = number numbers 1 ∷ number numbers 2 ∷ number numbers 3 ∷ number numbers 4 ∷ number numbers 5 ∷ [] in
    record { call = call_of (number numbers 0 % 16) arguments; words = number numbers 0 / 16 }
