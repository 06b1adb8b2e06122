use Prim.Native.Nat.{◌+◌, ◌*◌}
use lib.Dec.{eqb, leb}
use lib.ListN.{get_or}
use mathlib.Core.Path.{◌≡◌, refl, sym}
use mathlib.Core.Bool.{Bool, true, false, false≢true, cond, ◌||◌}
use mathlib.Core.List.{[], ◌∷◌}
use native.Mathlib.Omega.{arith}
use borrow.Author.Tests.{eq-eqb, ne_eqb, le-leb, lt-leb}
use Rattle.definitions.specs.Damage.{arguments_damaged}
use Rattle.tables.specs.Ranges.{none_of}
use Rattle.tables.proofs.damage.arguments_are_damaged.Goals as goal

-- Two operations that share a test: where it holds, and which of them it is where it is not the second.

shared : (t u a b c rest : Bool) → (t || u) ≡ true → a ≡ true → true ≡ cond t a (cond u ((a || b) || c) rest)
shared true u a b c rest h e = sym e
shared false true a b c rest h e = rw e refl
shared false false a b c rest h e = absurd (false≢true h)

first : (t u : Bool) → (t || u) ≡ true → u ≡ false → t ≡ true
first true u h e = refl
first false true h e = sym e
first false false h e = h

pub returns-then-row-eq-READ_SNAPSHOT : goal.returns-then-row-eq-READ_SNAPSHOT
unfolding arguments_damaged
returns-then-row-eq-READ_SNAPSHOT c = λ a b. let o = c.args.row.operation in let e = c.if-row-eq-READ_SNAPSHOT.true in
    rw (ne_eqb o 1 (λ q. omega (arith, q, e)), ne_eqb o 2 (λ q. omega (arith, q, e)), ne_eqb o 3 (λ q. omega (arith, q, e)), eq-eqb o 4 e)

pub returns-then-words-at : goal.returns-then-words-at
unfolding arguments_damaged
returns-then-words-at c = λ a b. let x = c.args in let ws = x.words.now in
    shared (eqb x.row.operation 1) (eqb x.row.operation 2) (leb (get_or ws 6 0) (get_or ws (16 + 16 * x.w + 2) 0)) (leb (get_or ws 3 0) (get_or ws (16 + 16 * x.w + 3) 0)) (leb (get_or ws 3 0) (get_or ws (16 + 16 * x.w + 4) 0)) _ c.if-row.true (le-leb _ _ c.if-words-at.true)

pub returns-then-row-eq-V_CAS : goal.returns-then-row-eq-V_CAS
unfolding arguments_damaged
returns-then-row-eq-V_CAS c = λ a b. let o = c.args.row.operation in let e = c.if-row-eq-V_CAS.true in
    rw (ne_eqb o 1 (λ q. omega (arith, q, e)), eq-eqb o 2 e, lt-leb _ _ c.if-words-at.false)

pub returns-then-row : goal.returns-then-row
unfolding arguments_damaged
returns-then-row c = λ a b. let o = c.args.row.operation in
    rw (first (eqb o 1) (eqb o 2) c.if-row.true (ne_eqb o 2 c.if-row-eq-V_CAS.false), lt-leb _ _ c.if-words-at.false)

pub returns-then-row-eq-TAKE_SNAPSHOT : goal.returns-then-row-eq-TAKE_SNAPSHOT
unfolding arguments_damaged
returns-then-row-eq-TAKE_SNAPSHOT c = λ a b. let x = c.args in let h = none_of (eqb x.row.operation 1 ∷ eqb x.row.operation 2 ∷ []) in
    rw (h 0 c.if-row.false, h 1 c.if-row.false, eq-eqb _ _ c.if-row-eq-TAKE_SNAPSHOT.true)

pub returns : goal.returns
unfolding arguments_damaged
returns c = λ a b. let o = c.args.row.operation in let h = none_of (eqb o 1 ∷ eqb o 2 ∷ []) in
    let three = ne_eqb o 3 c.if-row-eq-TAKE_SNAPSHOT.false in
    rw (h 0 c.if-row.false, h 1 c.if-row.false, three, ne_eqb o 4 c.if-row-eq-READ_SNAPSHOT.false) (rw three at (c.total_is_damaged.ensures a b))
