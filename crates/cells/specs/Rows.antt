-- How a proof goes over the 36 phases, and over a list of refusals: what holds of each row with its line holds at each phase, and what holds of every
-- refusal, and of what comes where none applies, holds of both together.
use Rattle.std.specs.Prelude.{ℕ, zero, suc, ◌<◌, ◌≤◌, Bool, true, false, cond, List, [], ◌∷◌, ◌≡◌, refl, length, get_or}
use Rattle.std.proofs.Common.{arith}
use Rattle.definitions.specs.declared.PhaseRow.{PhaseRow}
use Rattle.definitions.specs.Answers.{Outcome, Refusal, refused, unless}
use Rattle.definitions.specs.Phases.{row, row_of, table}
use Rattle.definitions.specs.Lines.{Line, lines, line_of_phase, idle}

-- To prove P of a choice: P of each side, with what the test says.
pub by_test {ℓ} : {A : Type ℓ} (P : A → Type 0) (b : Bool) {x y : A} → (b ≡ true → P x) → (b ≡ false → P y) → P (cond b x y)
by_test P true f g = f refl
by_test P false f g = g refl

module _ (P : PhaseRow → Line → Type 0) where
  -- P holds of the rows with their lines, in order
  abbrev pub Rows : List PhaseRow → List Line → Type 0
  Rows [] ls = Unit {0}
  Rows (r ∷ rs) [] = Unit {0}
  Rows (r ∷ rs) (x ∷ ls) = P r x × Rows rs ls

  in_row : (rs : List PhaseRow) (ls : List Line) (k : ℕ) → Rows rs ls → k < length rs → k < length ls → P (get_or rs k (row 0 0 false)) (get_or ls k idle)
  in_row [] ls k h a b = absurd (omega arith)
  in_row (r ∷ rs) [] k h a b = absurd (omega arith)
  in_row (r ∷ rs) (x ∷ ls) zero h a b = h.0
  in_row (r ∷ rs) (x ∷ ls) (suc k) h a b = in_row rs ls k h.1 (omega arith) (omega arith)

  pub at_phase : Rows table lines → (k : ℕ) → k ≤ 35 → P (row_of k) (line_of_phase k)
  unfolding row_of line_of_phase
  at_phase h k b = in_row table lines k h (unfold table in omega arith) (unfold lines in omega arith)

-- nothing of a list of refusals applied
abbrev pub Passed : List Refusal → Type 0
Passed [] = Unit {0}
Passed (r ∷ rs) = (r.when ≡ false) × Passed rs

pub refused_or : (P : Outcome → Type 0) → ((n : ℕ) → P (refused n)) → (rs : List Refusal) (o : Outcome) → (Passed rs → P o) → P (unless rs o)
refused_or P f [] o h = h tt
refused_or P f (r ∷ rs) o h = by_test P r.when (λ e. f r.number) (λ e. refused_or P f rs o (λ k. h (e, k)))
