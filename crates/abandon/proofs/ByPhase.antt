-- What the table of phases has at a phase, told by the phase's number: each by one test computed over the whole table. The code asks the table itself now; these laws of it stand.
use Rattle.std.specs.Prelude.{◌≡◌, refl, ◌⊎◌, Bool, true, false, cond, not, ◌||◌, ◌&&◌, [], ◌∷◌, ℕ, ◌<◌, ◌≤◌, ltb, leb, eqb}
use Rattle.std.proofs.Common.{ap, sym, ◌∙◌, inl, inr, arith, ne_eqb, le-ltb, eqb-true}
use Rattle.std.proofs.lemmas.Bool.{false≢true}
use Rattle.definitions.specs.declared.PhaseRow.{PhaseRow}
use Rattle.definitions.specs.Cells.{Cells, items, noted, item, old, new, handle, project}
use Rattle.definitions.specs.Phases.{row, table, row_of}
use Rattle.definitions.specs.Damage.{any_of, bad_item, bad_value, bad_handle, inside_item, sum, total_tests, arguments_damaged}
use Rattle.tables.specs.Rules.{every, rule}

-- A phase at which line 22 is next.
abbrev pub before_22 : PhaseRow → Bool
before_22 r = eqb r.line 22

-- ---- a test of the phase's number that agrees with a test of its row

abbrev pub agree : Bool → Bool → Bool
agree a b = cond a b (not b)

agreed : (a b : Bool) → agree a b ≡ true → a ≡ b
agreed true b e = sym e
agreed false true e = e
agreed false false e = refl

pub told_by : (number : ℕ → Bool) (test : PhaseRow → Bool) → every (λ p r. agree (number p) (test r)) 0 table ≡ true →
    (p : ℕ) → p < 36 → number p ≡ test (row_of p)
unfolding table
told_by number test t p h = agreed (number p) (test (row_of p)) (rule (λ (p : ℕ) (r : PhaseRow). agree (number p) (test r)) t p h)

-- ---- the operation

abbrev operation_by : ℕ → ℕ
operation_by p = cond (ltb p 6) 1 (cond (ltb p 23) 2 (cond (ltb p 25) 3 (cond (ltb p 30) 4 5)))

right_operation : ℕ → PhaseRow → Bool
right_operation p r = eqb p 0 || eqb r.operation (operation_by p)

or_false : (a b : Bool) → a ≡ false → (a || b) ≡ true → b ≡ true
or_false true b e h = absurd (false≢true (sym e))
or_false false b e h = h

operation_told : (p : ℕ) → p < 36 → (p ≡ 0 → ⊥) → (row_of p).operation ≡ operation_by p
unfolding table right_operation
operation_told p known busy =
    eqb-true (row_of p).operation (operation_by p)
    (or_false (eqb p 0) (eqb (row_of p).operation (operation_by p)) (ne_eqb p 0 busy) (rule right_operation refl p known))

-- the tests of its arguments, by the operation; a total's ask of its row only whether it is inside an item
abbrev by_operation : (k : ℕ) (inside : Bool) → Cells → ℕ → Bool
by_operation k inside m w =
    cond (eqb k 1) (bad_item m (m (item w)))
    (cond (eqb k 2) (any_of (bad_item m (m (item w)) ∷ bad_value m (m (old w)) ∷ bad_value m (m (new w)) ∷ []))
    (cond (eqb k 3) false
    (cond (eqb k 4) (any_of (bad_item m (m (item w)) ∷ bad_handle m (m (handle w)) ∷ []))
    (any_of (bad_value m (m (project w)) ∷ bad_handle m (m (handle w)) ∷ ltb (m items) (m (noted w)) ∷ ltb (m (noted w)) (m (item w))
    ∷ (inside && leb (m (noted w)) (m (item w))) ∷ ltb 1099511627776 (sum m w) ∷ [])))))

pub arguments_by : (p : ℕ) → p < 36 → (p ≡ 0 → ⊥) → (m : Cells) (w k : ℕ) → operation_by p ≡ k →
    by_operation k (inside_item (row_of p)) m w ≡ arguments_damaged (row_of p) m w
unfolding arguments_damaged
arguments_by p known busy m w k e = ap (λ (o : ℕ). by_operation o (inside_item (row_of p)) m w) (sym (operation_told p known busy ∙ e))

-- a total is inside an item but at its closing step
right_inside : ℕ → PhaseRow → Bool
right_inside p r = ltb p 30 || agree (not (eqb p 35)) (inside_item r)

inside_told : (p : ℕ) → p < 36 → 30 ≤ p → not (eqb p 35) ≡ inside_item (row_of p)
unfolding table right_inside
inside_told p known total =
    agreed (not (eqb p 35)) (inside_item (row_of p))
    (or_false (ltb p 30) (agree (not (eqb p 35)) (inside_item (row_of p))) (le-ltb p 30 total) (rule right_inside refl p known))

-- the arguments of a total, by a row of its own that says 0 for its line at the closing step, and 32 before it
pub total_by : (p line : ℕ) → p < 36 → 30 ≤ p → ((p ≡ 35) × (line ≡ 0)) ⊎ ((p ≡ 35 → ⊥) × (line ≡ 32)) → (m : Cells) (w : ℕ) →
    any_of (total_tests (row 5 line false) m w) ≡ arguments_damaged (row_of p) m w
total_by p line known total came m w =
    ap (λ (inside : Bool). by_operation 5 inside m w) (at came ∙ inside_told p known total)
    ∙ arguments_by p known (λ e. omega (arith, e, total)) m w 5
    (rw (le-ltb p 6 (omega (arith, total)), le-ltb p 23 (omega (arith, total)), le-ltb p 25 (omega (arith, total)), le-ltb p 30 total))
  where
    at : ((p ≡ 35) × (line ≡ 0)) ⊎ ((p ≡ 35 → ⊥) × (line ≡ 32)) → not (eqb line 0) ≡ not (eqb p 35)
    at (inl e) = rw (e.0, e.1) refl
    at (inr e) = rw (ne_eqb p 35 e.0, e.1) refl

-- ---- a test that is made where the phase asks for it; two that are made in another order

pub asked : (k b : Bool) {t : Bool} → t ≡ k → t ≡ true → b ≡ (k && b)
asked true b e h = refl
asked false b e h = absurd (false≢true (sym e ∙ h))

pub unasked : (k b : Bool) {t : Bool} → t ≡ k → t ≡ false → false ≡ (k && b)
unasked true b e h = absurd (false≢true (sym h ∙ e))
unasked false b e h = refl

pub or_true : (b : Bool) → true ≡ (b || true)
or_true true = refl
or_true false = refl

pub or_right : (b : Bool) → b ≡ (b || false)
or_right true = refl
or_right false = refl
