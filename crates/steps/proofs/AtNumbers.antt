-- Laws of an arm of dispatch, each told apart for what is kept, for a line that keeps nothing, and for the two matches: `late_is` and `does` (specs/Dispatch)
-- say them at once. Nothing cites them now; they stand since they stood in specs/ (docs/DESIGN-PASS.md).
use Rattle.std.specs.Prelude.{ℕ, ◌≡◌, Bool, false, List}
use Rattle.std.proofs.Common.{ap, sym, ◌∙◌, subst}
use Rattle.definitions.specs.declared.Answer.{Answer}
use Rattle.definitions.specs.declared.PhaseRow.{PhaseRow}
use Rattle.definitions.specs.Cells.{Cells}
use Rattle.endings.specs.Stepped.{Steps}
use Rattle.tables.specs.Ranges.{kept_at, kept_is}
use Rattle.facts.specs.Facts.{late}
use Rattle.steps.specs.Dispatch.{by_number, later_line}

-- The test of what a line keeps, at the row whose line it is.
pub kept_told : (r : PhaseRow) (m : Cells) (w k : ℕ) {t v : Bool} → r.line ≡ k → t ≡ kept_at k m w → t ≡ v → late r m w ≡ v
kept_told r m w k e d v = kept_is r m w ∙ ap (λ (l : ℕ). kept_at l m w) e ∙ sym d ∙ v

-- A line that keeps nothing.
pub nothing_kept : (r : PhaseRow) (m : Cells) (w k : ℕ) → r.line ≡ k → kept_at k m w ≡ false → late r m w ≡ false
nothing_kept r m w k e h = kept_is r m w ∙ ap (λ (l : ℕ). kept_at l m w) e ∙ h

-- The number of a match's arm, put in the place of the row's line.
pub at_number : (a b w o : ℕ) (ws : List ℕ) {l k : ℕ} {r : Answer} {after : List ℕ} → l ≡ k
    → Steps (by_number o k) a b w ws r after → Steps (by_number o l) a b w ws r after
at_number a b w o ws {r = r} {after = after} e d = subst (λ (n : ℕ). Steps (by_number o n) a b w ws r after) (sym e) d

pub at_later : (a b w : ℕ) (ws : List ℕ) {l k : ℕ} {r : Answer} {after : List ℕ} → l ≡ k
    → Steps (later_line k) a b w ws r after → Steps (later_line l) a b w ws r after
at_later a b w ws {r = r} {after = after} e d = subst (λ (n : ℕ). Steps (later_line n) a b w ws r after) (sym e) d
