-- The rules of the table of phases, by one test computed over the whole table.
use Rattle.std.specs.Prelude.{◌≡◌, refl, Bool, true, false, cond, not, ◌||◌, ◌&&◌, List, [], ◌∷◌, ℕ, zero, suc, ◌+◌, ◌<◌, eqb, length, get_or}
use Rattle.std.proofs.Common.{◌∙◌, subst, sym, add-zero, zero-add, add-suc, suc-add, le_of_suc-le-suc, not-suc-le-zero, eq-eqb, ne_eqb, eqb-true}
use Rattle.std.proofs.lemmas.Bool.{false≢true}
use Rattle.definitions.specs.declared.PhaseRow.{PhaseRow}
use Rattle.definitions.specs.Phases.{row, table, row_of}

-- A test of each entry, with its place.
abbrev pub every : (ℕ → PhaseRow → Bool) → ℕ → List PhaseRow → Bool
every f i [] = true
every f i (r ∷ rs) = f i r && every f (suc i) rs

both_left : (a b : Bool) → (a && b) ≡ true → a ≡ true
both_left true b e = refl
both_left false b e = e

both_right : (a b : Bool) → (a && b) ≡ true → b ≡ true
both_right true b e = e
both_right false b e = absurd (false≢true e)

from : (f : ℕ → PhaseRow → Bool) (rs : List PhaseRow) (d : PhaseRow) (i : ℕ) → every f i rs ≡ true → (k : ℕ) → k < length rs → f (i + k) (get_or rs k d) ≡ true
from f [] d i t k h = absurd (not-suc-le-zero h)
from f (r ∷ rs) d i t zero h = subst (λ (m : ℕ). f m r ≡ true) (sym (add-zero i)) (both_left (f i r) (every f (suc i) rs) t)
from f (r ∷ rs) d i t (suc k) h =
    subst (λ (m : ℕ). f m (get_or rs k d) ≡ true) (suc-add i k ∙ sym (add-suc i k))
    (from f rs d (suc i) (both_right (f i r) (every f (suc i) rs) t) k (le_of_suc-le-suc h))

-- What the test says of each phase.
pub rule : (f : ℕ → PhaseRow → Bool) → every f 0 table ≡ true → (p : ℕ) → p < length table → f p (row_of p) ≡ true
unfolding row_of
rule f t p h = subst (λ (m : ℕ). f m (get_or table p (row 0 0 false)) ≡ true) (zero-add p) (from f table (row 0 0 false) 0 t p h)

-- A busy phase has an operation; takeSnapshot's are lines 5 and 6, and no other's is line 6.
runs : ℕ → PhaseRow → Bool
runs p r = eqb p 0 || (not (eqb r.operation 0) && cond (eqb r.operation 3) (eqb r.line 5 || eqb r.line 6) (not (eqb r.line 6)))

runs_all : (p : ℕ) → p < 36 → runs p (row_of p) ≡ true
unfolding runs table
runs_all p h = rule runs refl p h

pub has_operation : (p : ℕ) → p < 36 → (p ≡ 0 → ⊥) → (row_of p).operation ≡ 0 → ⊥
unfolding runs
has_operation p h busy e = false≢true (rw (ne_eqb p 0 busy, eq-eqb (row_of p).operation 0 e) at (runs_all p h))

pub snapshot_lines : (p : ℕ) → p < 36 → (p ≡ 0 → ⊥) → (row_of p).operation ≡ 3 → ((row_of p).line ≡ 5 → ⊥) → (row_of p).line ≡ 6
unfolding runs
snapshot_lines p h busy e five = eqb-true (row_of p).line 6 (rw (ne_eqb p 0 busy, ne_eqb (row_of p).operation 0 (has_operation p h busy), eq-eqb (row_of p).operation 3 e, ne_eqb (row_of p).line 5 five) at (runs_all p h))

pub other_lines : (p : ℕ) → p < 36 → (p ≡ 0 → ⊥) → ((row_of p).operation ≡ 3 → ⊥) → (row_of p).line ≡ 6 → ⊥
unfolding runs
other_lines p h busy e six = false≢true (rw (ne_eqb p 0 busy, ne_eqb (row_of p).operation 0 (has_operation p h busy), ne_eqb (row_of p).operation 3 e, eq-eqb (row_of p).line 6 six) at (runs_all p h))
