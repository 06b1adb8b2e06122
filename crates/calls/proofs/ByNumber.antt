-- Laws of a first refusal told by its number, 0 for none, and of words set to zero one by one, as the code had them before it answered Results and used fill.
-- Nothing cites them now; they stand since they stood in specs/ (docs/DESIGN-PASS.md).
use Rattle.std.specs.Prelude.{ℕ, suc, ◌+◌, ◌<◌, ◌≡◌, refl, Bool, true, false, cond, not, ◌||◌, ◌&&◌, ltb, eqb, List, [], ◌∷◌, ◌++◌, length, set, drop, replicate}
use Rattle.std.proofs.Common.{ap, sym, ◌∙◌, eqb-true, ne_eqb, append_assoc, add-one, drop-cons}
use Rattle.std.proofs.lemmas.Bool.{false≢true}
use Rattle.std.proofs.lemmas.List.{length-replicate, replicate-append-replicate, set_at}

-- A number is the first of a chain: here, or later.
pub here : {t : Bool} {n : ℕ} (k : ℕ) → t ≡ true → n ≡ cond t n k
here k e = rw e

pub later : {t : Bool} {n k : ℕ} (x : ℕ) → t ≡ false → n ≡ k → n ≡ cond t x k
later x e f = rw (e, f)

not_false : (t : Bool) → not t ≡ false → t ≡ true
not_false true e = refl
not_false false e = sym e

-- A start asks first whether some refusal holds: where none does the first is 0, and where one does it is not.
pub free : {r : Bool} {f : ℕ} → r ≡ not (eqb f 0) → r ≡ false → f ≡ 0
free {r} {f} e h = eqb-true f 0 (not_false (eqb f 0) (sym e ∙ h))

pub held : {r : Bool} {f n : ℕ} → r ≡ not (eqb f 0) → r ≡ true → n ≡ f → n ≡ 0 → ⊥
held {r} {f} {n} e h g z = false≢true (sym (ap (λ (k : ℕ). not (eqb k 0)) (sym g ∙ z)) ∙ sym e ∙ h)

-- A busy worker is refused with 2 or 4, and an idle one is not refused.
two_or_four : (t : Bool) → true ≡ not (eqb (cond t 2 4) 0)
two_or_four true = refl
two_or_four false = refl

pub busy_held : (p : ℕ) (t : Bool) → (p ≡ 0 → ⊥) → true ≡ not (eqb (cond (ltb 35 p || (not (eqb p 0) && t)) 2 (cond (not (eqb p 0)) 4 0)) 0)
busy_held p t h = rw (ne_eqb p 0 h) (two_or_four (ltb 35 p || t))

pub idle_free : (p : ℕ) (t : Bool) → p ≡ 0 → false ≡ not (eqb (cond (ltb 35 p || (not (eqb p 0) && t)) 2 (cond (not (eqb p 0)) 4 0)) 0)
idle_free p t h = rw h refl

-- One more word is set to zero.
pub one_more : (ws : List ℕ) (i : ℕ) → i < length ws → set (replicate i 0 ++ drop i ws) i 0 ≡ replicate (i + 1) 0 ++ drop (i + 1) ws
one_more ws i h =
    ap (λ (r : List ℕ). set (replicate i 0 ++ r) i 0) (drop-cons ws i 0 h)
    ∙ set_at (replicate i 0) _ (drop (suc i) ws) 0 i (length-replicate i 0)
    ∙ sym (append_assoc (replicate i 0) (0 ∷ []) (drop (suc i) ws))
    ∙ ap (λ (r : List ℕ). r ++ drop (suc i) ws) (replicate-append-replicate i 1 0)
    ∙ ap (λ (k : ℕ). replicate (i + 1) 0 ++ drop k ws) (sym (add-one i))
