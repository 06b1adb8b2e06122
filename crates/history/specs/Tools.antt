-- Small tools: laws of a function changed at one place, and the two ways a test comes out.
use Rattle.std.specs.Prelude.{◌≡◌, refl, ◌≢◌, Bool, true, false, not, cond, ◌&&◌, ℕ, ◌≤◌, ◌<◌}
use Rattle.std.proofs.Common.{sym, subst, arith}
unfoldable pub use Rattle.history.specs.Definition1.{put}
use lib.Dec.{T, ltb, leb, eqb, ltb→lt, nltb→le, leb→le, nleb→lt, eqb→eq, eqb_refl}

neq : (a b : ℕ) → T (not (eqb a b)) → a ≢ b
neq a b t p = lib.Dec.T_not (eqb a b) t (subst (λ (c : ℕ). T (eqb a c)) p (eqb_refl a))

-- to prove P of a choice: P of each side, with what the test says
module _ {ℓ} {A : Type ℓ} (P : A → Type 0) (a b : ℕ) {x y : A} where
  pick_by : (c : Bool) → (T c → P x) → (T (not c) → P y) → P (cond c x y)
  pick_by true f g = f tt
  pick_by false f g = g tt

  pub by_eq : (a ≡ b → P x) → (a ≢ b → P y) → P (cond (eqb a b) x y)
  by_eq f g = pick_by (eqb a b) (λ t. f (eqb→eq a b t)) (λ t. g (neq a b t))

  pub by_lt : (a < b → P x) → (b ≤ a → P y) → P (cond (ltb a b) x y)
  by_lt f g = pick_by (ltb a b) (λ t. f (ltb→lt a b t)) (λ t. g (nltb→le a b t))

  pub by_le : (a ≤ b → P x) → (b < a → P y) → P (cond (leb a b) x y)
  by_le f g = pick_by (leb a b) (λ t. f (leb→le a b t)) (λ t. g (nleb→lt a b t))

pub by_test {ℓ} : {A : Type ℓ} (P : A → Type 0) (c : Bool) {x y : A} → (T c → P x) → (T (not c) → P y) → P (cond c x y)
by_test P true f g = f tt
by_test P false f g = g tt

-- P holds of every value of a changed function
pub put_all {ℓ} : {A : Type ℓ} (P : ℕ → A → Type 0) (f : ℕ → A) (k : ℕ) (v : A) (n : ℕ) → (n ≡ k → P n v) → (n ≢ k → P n (f n)) → P n (put f k v n)
unfolding put
put_all P f k v n p q = by_eq (P n) n k p q

pub put_same : {A : Type 0} (f : ℕ → A) (k : ℕ) (v : A) (n : ℕ) → n ≡ k → put f k v n ≡ v
put_same {A = A} f k v n e = put_all (λ (m : ℕ) (x : A). x ≡ v) f k v n (λ p. refl) (λ q. absurd (q e))

pub put_other : {A : Type 0} (f : ℕ → A) (k : ℕ) (v : A) (n : ℕ) → n ≢ k → put f k v n ≡ f n
put_other {A = A} f k v n e = put_all (λ (m : ℕ) (x : A). x ≡ f m) f k v n (λ p. absurd (e p)) (λ q. refl)

-- a number is below another, or not
pub data Split (a b : ℕ) : Type 0 where
  less : a < b → Split a b
  more : b ≤ a → Split a b

pub split : (a b : ℕ) → Split a b
split a b = go (ltb a b) (λ t. ltb→lt a b t) (λ t. nltb→le a b t)
  where
    go : (c : Bool) → (T c → a < b) → (T (not c) → b ≤ a) → Split a b
    go true f g = less (f tt)
    go false f g = more (g tt)

pub data Same (a b : ℕ) : Type 0 where
  eq : a ≡ b → Same a b
  ne : a ≢ b → Same a b

pub same? : (a b : ℕ) → Same a b
same? a b = go (eqb a b) (λ t. eqb→eq a b t) (λ t. neq a b t)
  where
    go : (c : Bool) → (T c → a ≡ b) → (T (not c) → a ≢ b) → Same a b
    go true f g = eq (f tt)
    go false f g = ne (g tt)

-- two functions changed at one place
pub put_both : {A B : Type 0} (P : ℕ → A → B → Type 0) (f : ℕ → A) (g : ℕ → B) (k : ℕ) (v : A) (u : B) (n : ℕ) → (n ≡ k → P n v u) →
    (n ≢ k → P n (f n) (g n)) → P n (put f k v n) (put g k u n)
put_both {A} {B} P f g k v u n p q = go (same? n k)
  where
    go : Same n k → P n (put f k v n) (put g k u n)
    go (eq e) = put_all (λ (m : ℕ) (x : A). P n x (put g k u n)) f k v n (λ z. put_all (λ (m : ℕ) (y : B). P n v y) g k u n p (λ w. absurd (w e)))
        (λ z. absurd (z e))
    go (ne e) = put_all (λ (m : ℕ) (x : A). P n x (put g k u n)) f k v n (λ z. absurd (e z))
        (λ z. put_all (λ (m : ℕ) (y : B). P n (f n) y) g k u n (λ w. absurd (e w)) q)

-- ---- tests and what they say

pub lt_ltb : (a b : ℕ) → a < b → T (ltb a b)
lt_ltb a b p = at (ltb a b) refl
  where
    at : (c : Bool) → ltb a b ≡ c → T c
    at true e = tt
    at false e = absurd (omega (arith, nltb→le a b (subst (λ (c : Bool). T (not c)) (sym e) tt)))

pub le_leb : (a b : ℕ) → a ≤ b → T (leb a b)
le_leb a b p = at (leb a b) refl
  where
    at : (c : Bool) → leb a b ≡ c → T c
    at true e = tt
    at false e = absurd (omega (arith, nleb→lt a b (subst (λ (c : Bool). T (not c)) (sym e) tt)))

pub ne_eqb : (a b : ℕ) → a ≢ b → eqb a b ≡ false
ne_eqb a b d = at (eqb a b) refl
  where
    at : (c : Bool) → eqb a b ≡ c → c ≡ false
    at true e = absurd (d (eqb→eq a b (subst T (sym e) tt)))
    at false e = refl

pub and_both : (a b : Bool) → T a → T b → T (a && b)
and_both true true p q = tt
and_both true false p q = q
and_both false b p q = p

pub and_parts : (a b : Bool) → T (a && b) → T a × T b
and_parts true true p = (tt, tt)
and_parts true false p = absurd p
and_parts false b p = absurd p

pub and_false : (a : Bool) → (a && false) ≡ false
and_false true = refl
and_false false = refl
