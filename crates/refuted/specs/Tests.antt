-- How a refutation reads the notes of a run: a test of every operation, or of every note, is computed over the whole run at once.
use Rattle.std.specs.Prelude.{◌≡◌, refl, Bool, true, false, not, ◌||◌, ◌&&◌, List, [], ◌∷◌, ℕ, zero, suc, ◌<◌, T, eqb, length, drop}
use Rattle.std.proofs.Common.{ap, sym, subst, inl, inr, arith}
use Rattle.history.specs.Definition1.{Follows}
use Rattle.history.specs.Tools.{Split, split, Same, same?, and_parts}
use Rattle.history.specs.Notes.{Deed, Ending, Note, quiet, registered, started, stepped, abandoned, refused, Fate, ledger}
use Rattle.history.specs.NoteParts.{ending_tag}
use Rattle.history.proofs.Abandons.{no_operation, none_later}
use Rattle.history.specs.Statements.{fate_of, Free, Executed}

-- ---- tests

-- where a holds, b does too
pub so_too : (a b : Bool) → T (not a || b) → T a → T b
so_too true b t h = t
so_too false b t h = absurd h

abbrev pub all_below : ℕ → (ℕ → Bool) → Bool
all_below zero test = true
all_below (suc n) test = test n && all_below n test

each_below : (n : ℕ) (test : ℕ → Bool) → T (all_below n test) → (o : ℕ) → o < n → T (test o)
each_below zero test t o h = absurd (omega (arith, h))
each_below (suc n) test t o h = at (same? o n) (λ less. each_below n test (and_parts (test n) (all_below n test) t).1 o less)
  where
    at : Same o n → (o < n → T (test o)) → T (test o)
    at (Same.eq e) below = subst (λ (k : ℕ). T (test k)) (sym e) (and_parts (test n) (all_below n test) t).0
    at (Same.ne d) below = below (omega (arith, h, d))

-- ---- what every operation came to

-- a test that holds of each operation, and where there is none
pub every_fate : (run : List Note) (test : ℕ → Fate → Bool) → ((o : ℕ) → T (test o no_operation)) → T (all_below (length run) (λ o. test o (fate_of run o))) →
    (o : ℕ) → T (test o (fate_of run o))
every_fate run test t all o = at (split o (length run))
  where
    at : Split o (length run) → T (test o (fate_of run o))
    at (Split.less h) = each_below (length run) (λ k. test k (fate_of run k)) all o h
    at (Split.more h) = subst (λ (x : Fate). T (test o x)) (sym (none_later run o h)) (t o)

abbrev pub has_ended : Ending → Bool
has_ended e = not (eqb (ending_tag e) 0)

-- where every operation has ended, every worker is free
pub all_free : (run : List Note) → T (all_below (length run) (λ o. has_ended (fate_of run o).ending)) → (w : ℕ) → Free run w
all_free run all w o e d =
    subst (λ (x : Ending). T (has_ended x)) e (every_fate run (λ (k : ℕ) (x : Fate). has_ended x.ending) (λ k. tt) all o)

-- ---- what every call was noted as

-- a test of each note, with those before it
unfoldable pub all_noted : (Note → List Note → Bool) → List Note → Bool
all_noted test [] = true
all_noted test (x ∷ past) = test x past && all_noted test past

pub every_note : (test : Note → List Note → Bool) (run : List Note) → T (all_noted test run) → (x : Note) (past : List Note) → Follows x past run →
    T (test x past)
unfolding all_noted
every_note test [] t x past n = absurd n
every_note test (y ∷ l) t x past (inl (p, q)) =
    subst (λ (z : Note). T (test z past)) (sym p) (subst (λ (r : List Note). T (test y r)) (sym q) (and_parts (test y l) (all_noted test l) t).0)
every_note test (y ∷ l) t x past (inr n) = every_note test l (and_parts (test y l) (all_noted test l) t).1 x past n

-- a test of an executed line: its operation, its number, its deed and its time
abbrev pub LineTest : Type 0
LineTest = (o line : ℕ) → Deed → (t : ℕ) → Bool

abbrev pub of_line : LineTest → Note → List Note → Bool
of_line test (quiet x) past = true
of_line test (registered i v s) past = true
of_line test (started w op) past = true
of_line test (stepped w line d e) past = test ((ledger past).current w) line d (length past)
of_line test (abandoned w held) past = true

pub every_line : (test : LineTest) (run : List Note) → T (all_noted (of_line test) run) → {o line t : ℕ} {d : Deed} → Executed run o line d t →
    T (test o line d t)
every_line test run all {o} {line} {t} {d} x =
    subst (λ (k : ℕ). T (test k line d t)) x.its
    (subst (λ (τ : ℕ). T (test ((ledger x.past).current x.w) line d τ)) x.at
    (every_note (of_line test) run all (stepped x.w line d x.e) x.past x.noted))

-- the line that is k notes below the newest
newest : List Note → Note
newest [] = refused
newest (x ∷ l) = x

before : List Note → List Note
before [] = []
before (x ∷ l) = l

found : (k : ℕ) (x : Note) (past run : List Note) → drop k run ≡ x ∷ past → Follows x past run
unfolding newest before
found zero x past [] e = absurd (let z : ◌≡◌ {A = ℕ} 0 (suc (length past)) = ap length e in omega (arith, z))
found zero x past (y ∷ l) e = inl (sym (ap newest e), sym (ap before e))
found (suc k) x past [] e = absurd (let z : ◌≡◌ {A = ℕ} 0 (suc (length past)) = ap length e in omega (arith, z))
found (suc k) x past (y ∷ l) e = inr (found k x past l e)

pub executed : (run : List Note) (k : ℕ) {o w line : ℕ} {d : Deed} {e : Ending} {past : List Note} → drop k run ≡ stepped w line d e ∷ past →
    (ledger past).current w ≡ o → Executed run o line d (length past)
executed run k {o} {w} {line} {d} {e} {past} at its =
    record { past = past; w = w; e = e; noted = found k (stepped w line d e) past run at; its = its; at = refl }
