-- The laws of a first refusal that is told by its number, 0 for none (`first_number`), as they stood in specs/ of facts and calls before it became an Option
-- (`first_of`, specs/Refusals). Nothing cites them now (docs/DESIGN-PASS.md).
use Rattle.std.specs.Prelude.{ℕ, zero, suc, ◌<◌, ◌≡◌, refl, Bool, true, false, cond, not, ◌&&◌, List, [], ◌∷◌, ◌++◌, eqb, get_or}
use Rattle.std.proofs.Common.{ap, sym, ◌∙◌, subst, leb-false}
use Rattle.std.proofs.lemmas.Bool.{false≢true}
use Rattle.definitions.specs.declared.Answer.{Answer}
use Rattle.definitions.specs.Cells.{cells_of}
use Rattle.definitions.specs.Answers.{Outcome, Refusal, ◌⇒◌, unless, refused, refusal}
use Rattle.definitions.specs.Calls.{sound_item}
use Rattle.definitions.specs.Promises.{Met}
use Rattle.facts.specs.Facts.{Header, header_sound}
use Rattle.facts.specs.Refusals.{worker_refusals}

-- The number of the first refusal that holds; 0 where none does.
abbrev pub first_number : List Refusal → ℕ
first_number [] = 0
first_number (r ∷ rs) = cond r.when r.number (first_number rs)

-- No refusal of the chain has the number 0.
abbrev pub numbered : List Refusal → Bool
numbered [] = true
numbered (r ∷ rs) = not (eqb r.number 0) && numbered rs

and_left : (a b : Bool) → (a && b) ≡ true → a ≡ true
and_left true b e = refl
and_left false b e = e

and_right : (a b : Bool) → (a && b) ≡ true → b ≡ true
and_right true b e = e
and_right false b e = absurd (false≢true e)

number_there : (n : ℕ) {A : Type 0} → not (eqb n 0) ≡ true → n ≡ 0 → A
number_there n e z = absurd (false≢true (subst (λ (k : ℕ). not (eqb k 0) ≡ true) z e))

-- Where none holds, the rest of the chain decides; else the first that holds.
past : (t : Bool) (number first : ℕ) (x y : Outcome) → not (eqb number 0) ≡ true → (first ≡ 0 → x ≡ y) → cond t number first ≡ 0 → cond t (refused number) x ≡ y
past true number first x y n g e = number_there number n e
past false number first x y n g e = g e

pub unless_none : (rs rest : List Refusal) (o : Outcome) → numbered rs ≡ true → first_number rs ≡ 0 → unless (rs ++ rest) o ≡ unless rest o
unless_none [] rest o n e = refl
unless_none (r ∷ rs) rest o n e =
    past r.when r.number (first_number rs) (unless (rs ++ rest) o) (unless rest o) (and_left (not (eqb r.number 0)) (numbered rs) n) (λ h. unless_none rs rest o (and_right (not (eqb r.number 0)) (numbered rs) n) h) e

chosen : (t : Bool) (number first : ℕ) (x : Outcome) → ((first ≡ 0 → ⊥) → x ≡ refused first) → (cond t number first ≡ 0 → ⊥)
    → cond t (refused number) x ≡ refused (cond t number first)
chosen true number first x g e = refl
chosen false number first x g e = g e

pub unless_first : (rs rest : List Refusal) (o : Outcome) → (first_number rs ≡ 0 → ⊥) → unless (rs ++ rest) o ≡ refused (first_number rs)
unless_first [] rest o e = absurd (e refl)
unless_first (r ∷ rs) rest o e = chosen r.when r.number (first_number rs) (unless (rs ++ rest) o) (λ h. unless_first rs rest o h) e

-- Where none holds, the kth does not.
not_here : (t : Bool) (number first : ℕ) → not (eqb number 0) ≡ true → cond t number first ≡ 0 → t ≡ false
not_here true number first n e = number_there number n e
not_here false number first n e = refl

nor_after : (t : Bool) (number first : ℕ) → not (eqb number 0) ≡ true → cond t number first ≡ 0 → first ≡ 0
nor_after true number first n e = number_there number n e
nor_after false number first n e = e

pub first_none : (rs : List Refusal) (k : ℕ) → numbered rs ≡ true → first_number rs ≡ 0 → (get_or rs k (false ⇒ 1)).when ≡ false
first_none [] k n e = refl
first_none (r ∷ rs) zero n e = not_here r.when r.number (first_number rs) (and_left (not (eqb r.number 0)) (numbered rs) n) e
first_none (r ∷ rs) (suc k) n e = first_none rs k (and_right (not (eqb r.number 0)) (numbered rs) n) (nor_after r.when r.number (first_number rs) (and_left (not (eqb r.number 0)) (numbered rs) n) e)

-- A promise through a chain that is passed, and one that refuses.
pub met_past : {a b : ℕ} {ws l : List ℕ} {r : Answer} (rs rest : List Refusal) (o : Outcome) {n : ℕ}
    → n ≡ first_number rs → n ≡ 0 → numbered rs ≡ true → Met a b ws (unless rest o) r l → Met a b ws (unless (rs ++ rest) o) r l
met_past rs rest o e z n d = rw (unless_none rs rest o n (sym e ∙ z)) d

pub met_first : {a b : ℕ} {ws : List ℕ} {r : Answer} (rs rest : List Refusal) (o : Outcome) {n : ℕ}
    → n ≡ first_number rs → (n ≡ 0 → ⊥) → r ≡ refusal n 0 → Met a b ws (unless (rs ++ rest) o) r ws
met_first rs rest o {n} e z a =
    rw (unless_first rs rest o (λ h. z (e ∙ h)))
    (record { answers = a ∙ ap (λ (k : ℕ). refusal k 0) e; leaves = refl })

pub header_there : (ws : List ℕ) (w : ℕ) {n : ℕ} → n ≡ first_number (worker_refusals ws w) → n ≡ 0 → Header ws
header_there ws w e z = header_sound ws (first_none (worker_refusals ws w) 0 refl (sym e ∙ z))

pub worker_there : (ws : List ℕ) (w : ℕ) {n : ℕ} → n ≡ first_number (worker_refusals ws w) → n ≡ 0 → w < get_or ws 0 0
worker_there ws w e z = leb-false (get_or ws 0 0) w (first_none (worker_refusals ws w) 1 refl (sym e ∙ z))

pub registered_item : (ws : List ℕ) (i : ℕ) {n : ℕ} → n ≡ first_number (sound_item (cells_of ws) i) → n ≡ 0 → i < get_or ws 6 0
registered_item ws i e z = leb-false (get_or ws 6 0) i (first_none (sound_item (cells_of ws) i) 0 refl (sym e ∙ z))
