-- An item is born at a time exactly when the effects have its birth up to then.
use Rattle.std.specs.Prelude.{◌≡◌, refl, Bool, true, List, [], ◌∷◌, ℕ, ◌≤◌, ◌<◌}
use Rattle.std.proofs.Common.{ap, subst, inl, inr, arith}
use Rattle.std.proofs.lemmas.Bool.{false≢true}
use Rattle.history.specs.Tools.{by_eq, by_le, Split, split}
use Rattle.history.specs.Definition1.{Object, put, apply, Born, In}
use Rattle.history.specs.Notes.{Effect, birth, change, snapshot, object_at}

-- it stays born, whatever comes after
stays : (τ i : ℕ) (x : Effect) (l : List Effect) → Born i (object_at τ l) → Born i (object_at τ (x ∷ l))
unfolding object_at apply put
stays τ i (birth t k v s) l e = by_le (λ (y : Object). Born i y) t τ (λ p. by_eq (λ (b : Bool). b ≡ true) i k (λ q. refl) (λ q. e)) (λ p. e)
stays τ i (change t k v p) l e = by_le (λ (y : Object). Born i y) t τ (λ q. e) (λ q. e)
stays τ i (snapshot t h) l e = e

pub told_born : (τ i t v s : ℕ) (l : List Effect) → In (birth t i v s) l → t ≤ τ → Born i (object_at τ l)
unfolding object_at apply put
told_born τ i t v s [] n le = absurd n
told_born τ i t v s (x ∷ l) (inr n) le = stays τ i x l (told_born τ i t v s l n le)
told_born τ i t v s (x ∷ l) (inl e) le =
    subst (λ (y : Effect). Born i (object_at τ (y ∷ l))) e
    (by_le (λ (y : Object). Born i y) t τ (λ p. by_eq (λ (b : Bool). b ≡ true) i i (λ q. refl) (λ q. absurd (q refl))) (λ p. absurd (omega arith)))

-- and the other way
pub record Told (τ i : ℕ) (l : List Effect) : Type 0 where
  pub t : ℕ
  pub v : ℕ
  pub s : ℕ
  pub among : In (birth t i v s) l
  pub by_then : t ≤ τ

older : {τ i : ℕ} {l : List Effect} (x : Effect) → Told τ i l → Told τ i (x ∷ l)
older x T = record { t = T.t; v = T.v; s = T.s; among = inr T.among; by_then = T.by_then }

pub born_told : (τ i : ℕ) (l : List Effect) → Born i (object_at τ l) → Told τ i l
unfolding object_at apply put
born_told τ i [] = λ e. absurd (false≢true e)
born_told τ i (birth t k v s ∷ l) =
    by_le (λ (y : Object). Born i y → Told τ i (birth t k v s ∷ l)) t τ
    (λ p. by_eq (λ (b : Bool). b ≡ true → Told τ i (birth t k v s ∷ l)) i k
    (λ q e. record { t = t; v = v; s = s; among = inl (ap (λ (j : ℕ). birth t j v s) q); by_then = p })
    (λ q e. older (birth t k v s) (born_told τ i l e)))
    (λ p e. older (birth t k v s) (born_told τ i l e))
born_told τ i (change t k v p ∷ l) =
    by_le (λ (y : Object). Born i y → Told τ i (change t k v p ∷ l)) t τ
    (λ q e. older (change t k v p) (born_told τ i l e)) (λ q e. older (change t k v p) (born_told τ i l e))
born_told τ i (snapshot t h ∷ l) = λ e. older (snapshot t h) (born_told τ i l e)

-- an item that is born at t, and was not at τ, was born between them
pub born_between : (i τ t : ℕ) (l : List Effect) → Born i (object_at t l) → (Born i (object_at τ l) → ⊥) →
    (b : ℕ) × (v : ℕ) × (s : ℕ) × In (birth b i v s) l × (τ < b) × (b ≤ t)
born_between i τ t l e n = (B.t, B.v, B.s, B.among, late (split τ B.t), B.by_then)
  where
    B : Told t i l
    B = born_told t i l e

    late : Split τ B.t → τ < B.t
    late (Split.less p) = p
    late (Split.more p) = absurd (n (told_born τ i B.t B.v B.s l B.among p))
