-- What a passed damage test tells, and the node test as the node part has it.
use Rattle.std.specs.Prelude.{◌≡◌, refl, Bool, true, false, cond, not, Option, None, Some, ◌-◌, ◌||◌, ◌&&◌, List, [], ◌∷◌, ℕ, zero, suc, ◌+◌, ◌*◌, ◌<◌, ◌≤◌, length, ltb, leb, eqb, get_or}
use Rattle.std.proofs.lemmas.Bool.{false≢true}
use Rattle.std.proofs.Common.{arith, lt-ltb}
use Rattle.definitions.specs.declared.PhaseRow.{PhaseRow}
use Rattle.definitions.specs.Cells.{node_words, Cells, cells_at, needed, used, counter, counter_limit, node, new_node, seen}
use Rattle.definitions.specs.Damage.{any_of, any_from, header_tests, header_damaged_at, bad_node, bad_time, kept_damaged, beyond_at_6, node_damaged}
use Rattle.tables.specs.Part.{part, read_part}

abbrev pub node_outside : List ℕ → (n projects used counter : ℕ) → Bool
node_outside ns n projects used counter =
    (leb projects (get_or ns (node_words * n + 0) 0) || ltb used (get_or ns (node_words * n + 1) 0)) || (ltb counter (get_or ns (node_words * n + 2) 0) && not (eqb (get_or ns (node_words * n + 2) 0) 4294967295))

-- A node's damage in the node part is its damage in the whole.
pub outside_is : (a b : ℕ) (ws : List ℕ) (n : ℕ) → node_outside (part ws b) n (get_or ws 3 0) (get_or ws 7 0) (get_or ws 5 0) ≡ node_damaged (cells_at a b ws) n
outside_is a b ws n = rw (read_part ws b (node_words * n + 0), read_part ws b (node_words * n + 1), read_part ws b (node_words * n + 2))

or_left : (a b : Bool) → (a || b) ≡ false → a ≡ false
or_left true b e = e
or_left false b e = refl

or_right : (a b : Bool) → (a || b) ≡ false → b ≡ false
or_right true true e = e
or_right true false e = refl
or_right false b e = e

from_head : (a : Bool) (ts : List Bool) → any_from a ts ≡ false → a ≡ false
from_head a [] e = e
from_head a (t ∷ ts) e = or_left a t (from_head (a || t) ts e)

from_at : (a : Bool) (ts : List Bool) (k : ℕ) → any_from a ts ≡ false → get_or ts k false ≡ false
from_at a [] k e = refl
from_at a (t ∷ ts) zero e = or_right a t (from_head (a || t) ts e)
from_at a (t ∷ ts) (suc k) e = from_at (a || t) ts k e

-- Where none holds, the kth does not.
pub none_of : (ts : List Bool) (k : ℕ) → any_of ts ≡ false → get_or ts k false ≡ false
none_of [] k e = refl
none_of (t ∷ ts) zero e = from_head t ts e
none_of (t ∷ ts) (suc k) e = from_at t ts k e

or_left_yes : (a b : Bool) → a ≡ true → (a || b) ≡ true
or_left_yes true b e = refl
or_left_yes false b e = absurd (false≢true e)

or_right_yes : (a b : Bool) → b ≡ true → (a || b) ≡ true
or_right_yes true b e = refl
or_right_yes false b e = e

from_yes : (a : Bool) (ts : List Bool) → a ≡ true → any_from a ts ≡ true
from_yes a [] e = e
from_yes a (t ∷ ts) e = from_yes (a || t) ts (or_left_yes a t e)

from_some : (a : Bool) (ts : List Bool) (k : ℕ) → get_or ts k false ≡ true → any_from a ts ≡ true
from_some a [] k e = absurd (false≢true e)
from_some a (t ∷ ts) zero e = from_yes (a || t) ts (or_right_yes a t e)
from_some a (t ∷ ts) (suc k) e = from_some (a || t) ts k e

-- Where the kth holds, one of them holds.
pub some_of : (ts : List Bool) (k : ℕ) → get_or ts k false ≡ true → any_of ts ≡ true
some_of [] k e = absurd (false≢true e)
some_of (t ∷ ts) zero e = from_yes t ts e
some_of (t ∷ ts) (suc k) e = from_some t ts k e

-- Fewer words than a header are always too few.
pub short_damaged : (count p m n q c now held taken back : ℕ) → count < 16 → header_damaged_at count p m n q c now held taken back ≡ true
unfolding header_damaged_at
short_damaged count p m n q c now held taken back h = some_of (header_tests count p m n q c now held taken back) 5 (lt-ltb count (needed p m n) (omega arith))

pub neither : (a b : Bool) → a ≡ false → b ≡ false → (a || b) ≡ false
neither a b e f = rw (e, f)

-- What a step asks where its line is known, by the line's number: what the record keeps, and at line 6 the number read at 5. A row's operation says
-- nothing of it.
unfoldable pub kept_at : ℕ → Cells → ℕ → Bool
kept_at l m w =
    any_of ((any_of (eqb l 20 ∷ eqb l 21 ∷ eqb l 22 ∷ eqb l 34 ∷ eqb l 39 ∷ eqb l 43 ∷ eqb l 45 ∷ eqb l 46 ∷ []) && bad_node m (m (node w)))
    ∷ ((eqb l 46 || eqb l 50) && bad_node m (m (new_node w)))
    ∷ (eqb l 22 && bad_time m (m (seen w))) ∷ (eqb l 6 && leb (m counter_limit) (m (seen w))) ∷ [])

pub kept_is : (r : PhaseRow) (m : Cells) (w : ℕ) → (kept_damaged r m w || beyond_at_6 r m w) ≡ kept_at r.line m w
unfolding kept_damaged kept_at
kept_is r m w = refl

-- The node that a header word says: its number plus one, and 0 where there is none.
abbrev pub waiting : ℕ → Option ℕ
waiting back = cond (eqb back 0) None (Some (back - 1))

-- The sixteen words of worker w's record are there.
abbrev pub HasRecord : ℕ → List ℕ → Type 0
HasRecord w ws = 16 + 16 * w + 16 ≤ length ws
