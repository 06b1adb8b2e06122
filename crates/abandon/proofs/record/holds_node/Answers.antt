use Prim.Native.Nat.{ℕ, ◌<◌}
use lib.Dec.{eqb}
use mathlib.Core.Path.{refl, ◌≡◌}
use native.Mathlib.Omega.{arith}
use Rattle.definitions.specs.declared.PhaseRow.{PhaseRow}
use Rattle.definitions.specs.Phases.{table, row_of}
use Rattle.abandon.proofs.ByPhase.{told_by}
use Rattle.abandon.proofs.record.holds_node.Goals as goal

-- Line 46 is phase 12's alone, and line 50 phase 17's: computed over the whole table. So a test of the phase and one of its line are compared at each phase.

phase_of_46 : (p : ℕ) → p < 36 → eqb p 12 ≡ eqb (row_of p).line 46
unfolding table
phase_of_46 = told_by (λ (k : ℕ). eqb k 12) (λ (r : PhaseRow). eqb r.line 46) refl

phase_of_50 : (p : ℕ) → p < 36 → eqb p 17 ≡ eqb (row_of p).line 50
unfolding table
phase_of_50 = told_by (λ (k : ℕ). eqb k 17) (λ (r : PhaseRow). eqb r.line 50) refl

pub returns : goal.returns
returns c = let p = c.args.phase in
    rw (c.row_at-line.ensures, ← phase_of_46 p c.requires, ← phase_of_50 p c.requires) (grind arith)
