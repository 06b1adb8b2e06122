-- Laws of the list of effects: inserting by time keeps the order, loses nothing and adds one; the value at a time is that of the newest effect.
use Rattle.std.specs.Prelude.{◌≡◌, refl, ◌⊎◌, Bool, cond, ℕ, ◌+◌, ◌≤◌, ◌<◌, ltb, leb}
use Rattle.std.proofs.Common.{sym, ◌∙◌, subst, inl, inr}
use Rattle.std.proofs.Math.Bool.{true, false}
use mathlib.Core.List.{List, [], ◌∷◌}
use native.Mathlib.Omega.{arith}
use Rattle.history.specs.Tools.{put_all, put_same, by_lt, by_le}
use Rattle.history.specs.Definition1.{Object, register, with_value, apply, empty}
use Rattle.history.specs.Notes.{Effect, birth, change, snapshot, time, object_at, changes_between}
use Rattle.history.specs.Effects.{insert}
use Rattle.history.specs.Statements.{In, Once, Falling}

pub among_insert : (x y : Effect) (l : List Effect) → In y l → In y (insert x l)
unfolding insert
among_insert x y [] a = absurd a
among_insert x y (z ∷ l) a = at (among_insert x y l) a
  where
    at : (In y l → In y (insert x l)) → In y (z ∷ l) → In y (cond (ltb (time x) (time z)) (z ∷ insert x l) (x ∷ z ∷ l))
    at f (inl e) = by_lt (λ (r : List Effect). In y r) (time x) (time z) (λ p. inl e) (λ p. inr (inl e))
    at f (inr b) = by_lt (λ (r : List Effect). In y r) (time x) (time z) (λ p. inr (f b)) (λ p. inr (inr b))

pub insert_among : (x : Effect) (l : List Effect) → In x (insert x l)
unfolding insert
insert_among x [] = inl refl
insert_among x (z ∷ l) = at (insert_among x l)
  where
    at : In x (insert x l) → In x (cond (ltb (time x) (time z)) (z ∷ insert x l) (x ∷ z ∷ l))
    at b = by_lt (λ (r : List Effect). In x r) (time x) (time z) (λ p. inr b) (λ p. inl refl)

-- what is in the longer list: the new one, or what was there
pub insert_only : (x y : Effect) (l : List Effect) → In y (insert x l) → (y ≡ x) ⊎ In y l
unfolding insert
insert_only x y [] a = a
insert_only x y (z ∷ l) a = at (insert_only x y l) a
  where
    at : (In y (insert x l) → (y ≡ x) ⊎ In y l) → In y (cond (ltb (time x) (time z)) (z ∷ insert x l) (x ∷ z ∷ l)) → (y ≡ x) ⊎ In y (z ∷ l)
    at f = by_lt (λ (r : List Effect). In y r → (y ≡ x) ⊎ In y (z ∷ l)) (time x) (time z) (λ p a. kept a) (λ p a. a)
      where
        more : (y ≡ x) ⊎ In y l → (y ≡ x) ⊎ In y (z ∷ l)
        more (inl e) = inl e
        more (inr c) = inr (inr c)

        kept : In y (z ∷ insert x l) → (y ≡ x) ⊎ In y (z ∷ l)
        kept (inl e) = inr (inl e)
        kept (inr b) = more (f b)

pub insert_ordered : (x : Effect) (l : List Effect) → Falling time l → Falling time (insert x l)
unfolding insert
insert_ordered x [] o = (λ y a. absurd a, tt)
insert_ordered x (z ∷ l) o = at (insert_ordered x l o.1)
  where
    at : Falling time (insert x l) → Falling time (cond (ltb (time x) (time z)) (z ∷ insert x l) (x ∷ z ∷ l))
    at r = by_lt (λ (r : List Effect). Falling time r) (time x) (time z) (λ p. (λ y a. below p y (insert_only x y l a), r))
        (λ p. (λ y a. first p y a, o))
      where
        below : time x < time z → (y : Effect) → (y ≡ x) ⊎ In y l → time y ≤ time z
        below p y (inl e) = subst (λ (y : Effect). time y ≤ time z) (sym e) (omega arith)
        below p y (inr a) = o.0 y a

        first : time z ≤ time x → (y : Effect) → In y (z ∷ l) → time y ≤ time x
        first p y (inl e) = subst (λ (y : Effect). time y ≤ time x) (sym e) p
        first p y (inr a) = omega (arith, o.0 y a)

pub insert_once : (x : Effect) (l : List Effect) → (In x l → ⊥) → Once l → Once (insert x l)
unfolding insert
insert_once x [] n o = (λ a. a, tt)
insert_once x (z ∷ l) n o = at (insert_once x l (λ a. n (inr a)) o.1)
  where
    apart : (z ≡ x) ⊎ In z l → ⊥
    apart (inl e) = n (inl (sym e))
    apart (inr a) = o.0 a

    at : Once (insert x l) → Once (cond (ltb (time x) (time z)) (z ∷ insert x l) (x ∷ z ∷ l))
    at r = by_lt (λ (r : List Effect). Once r) (time x) (time z) (λ p. (λ a. apart (insert_only x z l a), r)) (λ p. (n, o))

-- ---- counting: an effect counts for itself, wherever it stands

-- a count that goes effect by effect counts the inserted one
insert_counts : (count : List Effect → ℕ) → ((x : Effect) (l : List Effect) → count (x ∷ l) ≡ count (x ∷ []) + count l) → (x : Effect)
    (l : List Effect) →
    count (insert x l) ≡ count (x ∷ []) + count l
unfolding insert
insert_counts count each x [] = each x []
insert_counts count each x (z ∷ l) = at (insert_counts count each x l)
  where
    at : count (insert x l) ≡ count (x ∷ []) + count l →
        count (cond (ltb (time x) (time z)) (z ∷ insert x l) (x ∷ z ∷ l)) ≡ count (x ∷ []) + count (z ∷ l)
    at h = by_lt (λ (r : List Effect). count r ≡ count (x ∷ []) + count (z ∷ l)) (time x) (time z)
        (λ p. omega (arith, h, each z (insert x l), each z l)) (λ p. each x (z ∷ l))

pub count_insert : (i τ f : ℕ) (x : Effect) (l : List Effect) → changes_between i τ f (insert x l) ≡ changes_between i τ f (x ∷ []) + changes_between
    i τ f l
count_insert i τ f = insert_counts (changes_between i τ f) each
  where
    each : (x : Effect) (l : List Effect) → changes_between i τ f (x ∷ l) ≡ changes_between i τ f (x ∷ []) + changes_between i τ f l
    each (birth t k v s) l = unfold changes_between in (omega arith)
    each (change t k v p) l = unfold changes_between in (omega arith)
    each (snapshot t h) l = unfold changes_between in (omega arith)

pub items_insert : (τ : ℕ) (x : Effect) (l : List Effect) → (object_at τ (insert x l)).items ≡ (object_at τ (x ∷ [])).items + (object_at τ l).items
items_insert τ = insert_counts (λ l. (object_at τ l).items) each
  where
    born : (b : Bool) (i v s : ℕ) (x : Object) → (cond b (apply (register i v s) x) x).items ≡ (cond b (apply (register i v s) empty) empty).items +
        x.items
    born true i v s x = unfold apply in (omega arith)
    born false i v s x = omega arith

    changed : (b : Bool) (i v : ℕ) (x : Object) → (cond b (with_value x i v) x).items ≡ (cond b (with_value empty i v) empty).items + x.items
    changed true i v x = omega arith
    changed false i v x = omega arith

    each : (x : Effect) (l : List Effect) → (object_at τ (x ∷ l)).items ≡ (object_at τ (x ∷ [])).items + (object_at τ l).items
    each (birth t i v s) l = unfold object_at in (born (leb t τ) i v s (object_at τ l))
    each (change t i v p) l = unfold object_at in (changed (leb t τ) i v (object_at τ l))
    each (snapshot t h) l = unfold object_at in (omega arith)

-- ---- the value at a time

-- an effect that gives item i the value v, and the size of the item that it registers
abbrev pub Gives : ℕ → ℕ → Effect → Type 0
Gives i v (birth t k u s) = (i ≡ k) × (v ≡ u)
Gives i v (change t k u p) = (i ≡ k) × (v ≡ u)
Gives i v (snapshot t h) = ⊥

abbrev pub Sized : ℕ → ℕ → Effect → Type 0
Sized i z (birth t k v s) = (i ≡ k) × (z ≡ s)
Sized i z (change t k u p) = ⊥
Sized i z (snapshot t h) = ⊥

-- e: the newest effect on item i up to τ; another at its time gives the same value
pub value_is : (i τ v : ℕ) (e : Effect) (l : List Effect) → Falling time l → In e l → time e ≤ τ → Gives i v e →
    ((x : Effect) → In x l → time x ≤ τ → (u : ℕ) → Gives i u x → (time x ≤ time e) × (time x ≡ time e → u ≡ v)) → (object_at τ l).value i ≡ v
unfolding object_at apply
value_is i τ v e [] o a b c f = absurd a
value_is i τ v e (x ∷ l) o (inl q) b c f = subst (λ (x : Effect). (object_at τ (x ∷ l)).value i ≡ v) q (at e b c)
  where
    at : (e : Effect) → time e ≤ τ → Gives i v e → (object_at τ (e ∷ l)).value i ≡ v
    at (birth t k u s) b c = by_le (λ (y : Object). y.value i ≡ v) t τ (λ p. put_same (object_at τ l).value k u i c.0 ∙ sym c.1)
        (λ p. absurd (omega arith))
    at (change t k u p) b c = by_le (λ (y : Object). y.value i ≡ v) t τ (λ p. put_same (object_at τ l).value k u i c.0 ∙ sym c.1)
        (λ p. absurd (omega arith))
    at (snapshot t h) b c = absurd c
value_is i τ v e (x ∷ l) o (inr q) b c f = at x (λ p u g. f x (inl refl) p u g) (o.0 e q) (value_is i τ v e l o.1 q b c (λ y r. f y (inr r)))
  where
    at : (x : Effect) → (time x ≤ τ → (u : ℕ) → Gives i u x → (time x ≤ time e) × (time x ≡ time e → u ≡ v)) → time e ≤ time x →
        (object_at τ l).value i ≡ v → (object_at τ (x ∷ l)).value i ≡ v
    at (birth t k u s) g r h = by_le (λ (y : Object). y.value i ≡ v) t τ
        (λ p. put_all (λ (n w : ℕ). w ≡ v) (object_at τ l).value k u i (λ z. (g p u (z, refl)).1 (omega (arith, (g p u (z, refl)).0))) (λ z. h))
        (λ p. h)
    at (change t k u p') g r h = by_le (λ (y : Object). y.value i ≡ v) t τ
        (λ p. put_all (λ (n w : ℕ). w ≡ v) (object_at τ l).value k u i (λ z. (g p u (z, refl)).1 (omega (arith, (g p u (z, refl)).0))) (λ z. h))
        (λ p. h)
    at (snapshot t k) g r h = h

-- every birth of item i has its size
pub size_is : (i τ z : ℕ) (e : Effect) (l : List Effect) → In e l → time e ≤ τ → Sized i z e →
    ((x : Effect) → In x l → (u : ℕ) → Sized i u x → u ≡ z) → (object_at τ l).size i ≡ z
unfolding object_at apply
size_is i τ z e [] a b c f = absurd a
size_is i τ z e (x ∷ l) (inl q) b c f = subst (λ (x : Effect). (object_at τ (x ∷ l)).size i ≡ z) q (at e b c)
  where
    at : (e : Effect) → time e ≤ τ → Sized i z e → (object_at τ (e ∷ l)).size i ≡ z
    at (birth t k u s) b c = by_le (λ (y : Object). y.size i ≡ z) t τ (λ p. put_same (object_at τ l).size k s i c.0 ∙ sym c.1)
        (λ p. absurd (omega arith))
    at (change t k u p) b c = absurd c
    at (snapshot t h) b c = absurd c
size_is i τ z e (x ∷ l) (inr q) b c f = at x (f x (inl refl)) (size_is i τ z e l q b c (λ y r. f y (inr r)))
  where
    at : (x : Effect) → ((u : ℕ) → Sized i u x → u ≡ z) → (object_at τ l).size i ≡ z → (object_at τ (x ∷ l)).size i ≡ z
    at (birth t k u s) g h = by_le (λ (y : Object). y.size i ≡ z) t τ
        (λ p. put_all (λ (n w : ℕ). w ≡ z) (object_at τ l).size k s i (λ r. g s (r, refl)) (λ r. h)) (λ p. h)
    at (change t k u p) g h = by_le (λ (y : Object). y.size i ≡ z) t τ (λ r. h) (λ r. h)
    at (snapshot t k) g h = h
