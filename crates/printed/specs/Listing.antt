-- Document 01's listing for the schedule program, byte for byte: what it prints on that input, computed through the definitions.
use Rattle.std.specs.Prelude.{◌≡◌, refl, List, [], ◌∷◌, ◌++◌, ℕ}
use Prim.Native.Char.{code}
use Prim.Native.String.{String, [] as no-character, ◌∷◌ as ◌before◌}
use Rattle.definitions.specs.Phases.{table, row_of}
use Rattle.definitions.specs.Damage.{header_damaged_at, running_damaged, arguments_damaged, kept_damaged}
use Rattle.definitions.specs.Lines.{fetch_head, line_20, line_21, line_22, line_43, line_45, line_46, line_5, line_6, line_34, lines, line_of_phase}
use Rattle.definitions.specs.Calls.{making, registering, starting_v_cas, starting_take_snapshot, starting_read_snapshot, stepping, outcome}
use Rattle.frames.specs.Frames.{digit, all_digits, frame}
use Rattle.frames.specs.Lines.{feed, lines_of}
use Rattle.frames.specs.AnswerLines.{hex, answer_line}
use Rattle.text.specs.Replies.{replied, answers, printed}

-- the bytes of lines, each with its line feed
unfoldable pub bytes : String → List ℕ
bytes no-character = []
bytes (c before l) = code c ∷ bytes l

unfoldable pub in_lines : List String → List ℕ
in_lines [] = []
in_lines (l ∷ ls) = bytes l ++ (feed ∷ in_lines ls)

abbrev pub input : List String
input =
    "0100020002000800040010"
    ∷ "0200010064"
    ∷ "050000"
    ∷ "080000"
    ∷ "080000"
    ∷ "040001000000010002"
    ∷ "080001"
    ∷ "080001"
    ∷ "080001"
    ∷ "080001"
    ∷ "080001"
    ∷ "06000000000000"
    ∷ "080000"
    ∷ "080000"
    ∷ "080000"
    ∷ "080000"
    ∷ "080000"
    ∷ "080000"
    ∷ []

abbrev pub output : List String
output =
    "0200000000000000000000"
    ∷ "0200000000000000000000"
    ∷ "0200000000000000000000"
    ∷ "0100000000000000000001"
    ∷ "0000000000000000000002"
    ∷ "0200000000000000000000"
    ∷ "0100000000000000000001"
    ∷ "0100000000000000000002"
    ∷ "0100000000000000000003"
    ∷ "0100000000000000000004"
    ∷ "0100000000000000000005"
    ∷ "0200000000000000000000"
    ∷ "0100000000000000000001"
    ∷ "0100000000000000000002"
    ∷ "0100000000000000000003"
    ∷ "0100000000000000000004"
    ∷ "0100000000000000000005"
    ∷ "0000000000000000010006"
    ∷ []

pub listing_printed : printed (in_lines input) ≡ in_lines output
unfolding bytes in_lines answers replied lines_of frame digit all_digits hex answer_line outcome making registering starting_v_cas
    starting_take_snapshot starting_read_snapshot stepping table row_of header_damaged_at running_damaged arguments_damaged kept_damaged fetch_head
    line_20 line_21 line_22 line_43 line_45 line_46 line_5 line_6 line_34 lines line_of_phase
listing_printed = refl
