-- The first refusal of a chain that holds, and how a promise goes through a chain and to a call's result.
use Rattle.std.specs.Prelude.{ℕ, zero, suc, ◌≡◌, refl, Bool, true, false, cond, Option, None, Some, Ok, Err, List, [], ◌∷◌, ◌++◌, get_or}
use Rattle.std.specs.Prelude.{Result as Tested}
use Rattle.std.proofs.Common.{ap, sym}
use Rattle.std.proofs.lemmas.Option.{none-some, same_Some}
use Rattle.definitions.specs.declared.Answer.{Answer}
use Rattle.definitions.specs.Cells.{items_offset, nodes_offset, cells_of}
use Rattle.definitions.specs.Answers.{Outcome, Refusal, ◌⇒◌, unless, refused, refusal}
use Rattle.definitions.specs.Damage.{header_damaged}
use Rattle.definitions.specs.Calls.{Result, leaving, free_worker}
use Rattle.definitions.specs.Promises.{Met, Done, Told}
use Rattle.endings.specs.declared.reason.Reason.{Reason}
use Rattle.endings.specs.Ended.{number_of}

-- The number of the first refusal that holds, where one does.
abbrev pub first_of : List Refusal → Option ℕ
first_of [] = None
first_of (r ∷ rs) = cond r.when (Some r.number) (first_of rs)

-- A test of a chain passes where none of its refusals holds, and gives the reason of the first that does.
abbrev pub Passes : {A : Type 0} → List Refusal → Tested A Reason → Type 0
Passes rs (Ok x) = first_of rs ≡ None
Passes rs (Err r) = first_of rs ≡ Some (number_of r)

-- What every start tests first.
abbrev pub worker_refusals : List ℕ → ℕ → List Refusal
worker_refusals ws w = header_damaged ws ⇒ 2 ∷ free_worker (cells_of ws) w

-- Where none holds, the rest of the chain decides; else the first that holds.
pub unless_none : (rs rest : List Refusal) (o : Outcome) → first_of rs ≡ None → unless (rs ++ rest) o ≡ unless rest o
unless_none [] rest o e = refl
unless_none (r ∷ rs) rest o e = past r.when e (λ h. unless_none rs rest o h)
  where
    past : {x y : Outcome} (t : Bool) → cond t (Some r.number) (first_of rs) ≡ None → (first_of rs ≡ None → x ≡ y) → cond t (refused r.number) x ≡ y
    past true h g = absurd (none-some r.number (sym h))
    past false h g = g h

pub unless_first : (rs rest : List Refusal) (o : Outcome) {n : ℕ} → first_of rs ≡ Some n → unless (rs ++ rest) o ≡ refused n
unless_first [] rest o {n} e = absurd (none-some n e)
unless_first (r ∷ rs) rest o {n} e = chosen r.when e (λ h. unless_first rs rest o h)
  where
    chosen : {x : Outcome} (t : Bool) → cond t (Some r.number) (first_of rs) ≡ Some n → (first_of rs ≡ Some n → x ≡ refused n) → cond t (refused r.number) x ≡ refused n
    chosen true h g = ap refused (same_Some r.number n h)
    chosen false h g = g h

-- Where none holds, the kth does not.
pub first_none : (rs : List Refusal) (k : ℕ) → first_of rs ≡ None → (get_or rs k (false ⇒ 1)).when ≡ false
first_none [] k e = refl
first_none (r ∷ rs) zero e = not_here r.when e
  where
    not_here : (t : Bool) → cond t (Some r.number) (first_of rs) ≡ None → t ≡ false
    not_here true h = absurd (none-some r.number (sym h))
    not_here false h = refl
first_none (r ∷ rs) (suc k) e = first_none rs k (nor_after r.when e)
  where
    nor_after : (t : Bool) → cond t (Some r.number) (first_of rs) ≡ None → first_of rs ≡ None
    nor_after true h = absurd (none-some r.number (sym h))
    nor_after false h = h

-- A promise through a chain that is passed, and one that refuses.
pub met_past : {a b : ℕ} {ws l : List ℕ} {r : Answer} (rs rest : List Refusal) (o : Outcome)
    → first_of rs ≡ None → Met a b ws (unless rest o) r l → Met a b ws (unless (rs ++ rest) o) r l
met_past rs rest o e d = rw (unless_none rs rest o e) d

pub met_first : {a b : ℕ} {ws : List ℕ} {r : Answer} (rs rest : List Refusal) (o : Outcome) {n : ℕ}
    → first_of rs ≡ Some n → r ≡ refusal n 0 → Met a b ws (unless (rs ++ rest) o) r ws
met_first rs rest o e a = rw (unless_first rs rest o e) (record { answers = a; leaves = refl })

-- What is met at the words' own offsets is the call's result; and what is done is told.
pub done : {ws l : List ℕ} {o : Outcome} {r : Answer} → Met (items_offset ws) (nodes_offset ws) ws o r l → Done (leaving ws o) r l
done d = record { answers = d.answers; leaves = d.leaves }

pub telling : {result : Result} {r : Answer} {l : List ℕ} → Done result r l → Told result r.code (r.value ∷ r.steps ∷ 0 ∷ 0 ∷ []) l
telling d = record {
  returns = ap (λ (a : Answer). a.code) d.answers;
  tells = ap (λ (a : Answer). a.value ∷ a.steps ∷ 0 ∷ 0 ∷ []) d.answers;
  leaves = d.leaves;
}

pub done_if : {t : Bool} {result : Result} (other : Result) {r : Answer} {l : List ℕ} → t ≡ true → Done result r l → Done (cond t result other) r l
done_if other e d = rw e d

pub done_else : {t : Bool} (other : Result) {result : Result} {r : Answer} {l : List ℕ} → t ≡ false → Done result r l → Done (cond t other result) r l
done_else other e d = rw e d
