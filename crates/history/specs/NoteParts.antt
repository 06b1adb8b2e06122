-- The parts of notes and deeds, to tell them apart. The tags of what changes nothing are 0 and 1.
use Rattle.std.specs.Prelude.{ℕ}
use Rattle.history.specs.Notes.{Deed, Ending, Note}
use Rattle.history.specs.Notes as Notes

abbrev pub deed_tag : Deed → ℕ
deed_tag (Notes.fetches i b) = 1
deed_tag (Notes.finds b) = 1
deed_tag (Notes.publishes i v) = 2
deed_tag (Notes.stamps i) = 3
deed_tag (Notes.moves h) = 4
deed_tag Notes.nothing = 0

abbrev pub deed_item : Deed → ℕ
deed_item (Notes.fetches i b) = i
deed_item (Notes.finds b) = 0
deed_item (Notes.publishes i v) = i
deed_item (Notes.stamps i) = i
deed_item (Notes.moves h) = h
deed_item Notes.nothing = 0

abbrev pub deed_value : Deed → ℕ
deed_value (Notes.fetches i b) = 0
deed_value (Notes.finds b) = 0
deed_value (Notes.publishes i v) = v
deed_value (Notes.stamps i) = 0
deed_value (Notes.moves h) = 0
deed_value Notes.nothing = 0

abbrev pub ending_tag : Ending → ℕ
ending_tag Notes.goes_on = 0
ending_tag (Notes.answers x) = 1
ending_tag (Notes.ends_with n) = 2
ending_tag Notes.given_up = 3

-- the answer, or the number of refusal
abbrev pub ending_number : Ending → ℕ
ending_number Notes.goes_on = 0
ending_number (Notes.answers x) = x
ending_number (Notes.ends_with n) = n
ending_number Notes.given_up = 0

abbrev pub note_tag : Note → ℕ
note_tag (Notes.quiet x) = 0
note_tag (Notes.registered i v s) = 1
note_tag (Notes.started w op) = 2
note_tag (Notes.stepped w k d e) = 3
note_tag (Notes.abandoned w b) = 4

abbrev pub note_worker : Note → ℕ
note_worker (Notes.quiet x) = 0
note_worker (Notes.registered i v s) = 0
note_worker (Notes.started w op) = 0
note_worker (Notes.stepped w k d e) = w
note_worker (Notes.abandoned w b) = w

abbrev pub note_line : Note → ℕ
note_line (Notes.quiet x) = 0
note_line (Notes.registered i v s) = 0
note_line (Notes.started w op) = 0
note_line (Notes.stepped w k d e) = k
note_line (Notes.abandoned w b) = 0

abbrev pub note_deed : Note → Deed
note_deed (Notes.quiet x) = Notes.nothing
note_deed (Notes.registered i v s) = Notes.nothing
note_deed (Notes.started w op) = Notes.nothing
note_deed (Notes.stepped w k d e) = d
note_deed (Notes.abandoned w b) = Notes.nothing

abbrev pub note_ending : Note → Ending
note_ending (Notes.quiet x) = Notes.goes_on
note_ending (Notes.registered i v s) = Notes.goes_on
note_ending (Notes.started w op) = Notes.goes_on
note_ending (Notes.stepped w k d e) = e
note_ending (Notes.abandoned w b) = Notes.goes_on
