-- Line 22's compare-and-swap in the node part, as a caller that has the whole words sees it.
use Rattle.std.specs.Prelude.{ℕ, ◌+◌, ◌*◌, ◌≡◌, Bool, true, false, cond, List, [], ◌∷◌, eqb, get_or}
use Rattle.std.proofs.Common.{ap, ◌∙◌}
use Rattle.definitions.specs.Cells.{◌≔◌, cells_at, written, node_words, stamp}
use Rattle.definitions.specs.Damage.{TBD}
use Rattle.tables.specs.Part.{part, back, stored, ◌gets◌, read_part, write_part}

-- It stores where the stamp is still to be decided.
pub stamp_undecided : (a b : ℕ) (ws : List ℕ) (n : ℕ) {t : Bool}
    → t ≡ eqb (get_or (part ws b) (node_words * n + 2) 0) TBD → t ≡ eqb (cells_at a b ws (stamp n)) TBD
stamp_undecided a b ws n e = e ∙ ap (λ (s : ℕ). eqb s TBD) (read_part ws b (node_words * n + 2))

-- It writes one cell, or none.
pub stamp_written : (a b : ℕ) (ws : List ℕ) (n v : ℕ) (t : Bool) {ns : List ℕ}
    → ns ≡ stored (part ws b) (cond t ((node_words * n + 2) gets v ∷ []) []) → back ws b ns ≡ written a b ws (cond t (stamp n ≔ v ∷ []) [])
stamp_written a b ws n v true e = write_part ws b ((node_words * n + 2) gets v ∷ []) e
stamp_written a b ws n v false e = write_part ws b [] e
