-- What a Boolean test says of numbers, and a list of tests of words in use: for the proofs that the definitions' tests are UsedWords.
use Rattle.std.specs.Prelude.{ℕ, ◌≤◌, ◌<◌, Bool, true, false, cond, not, ◌||◌, ◌&&◌, List, [], ◌∷◌, ◌++◌, ◌⊎◌, ◌≡◌, refl, ltb, leb, eqb}
use Rattle.std.proofs.Common.{true≢false, inl, inr, ⊎_elim, sym, ap, subst, arith, ltb-true, ltb-false, leb-true, leb-false, eqb-true}
use Rattle.std.proofs.lemmas.Bool.{false≢true, eqb-false}
use Rattle.definitions.specs.Damage.{any_of, any_from}
use Rattle.runs.specs.UsedWords.{Range, ◌to◌, below, at_most, at_most_or_TBD, Within, Use, ◌∈◌, Outside}

-- ---- a test says a proposition: it is true exactly where that holds

pub record Says (b : Bool) (P : Type 0) : Type 0 where
  pub passes : b ≡ true → P
  pub fails : b ≡ false → P → ⊥

-- of the second only what it says where the first fails is asked
pub says_else : {a b : Bool} {A B : Type 0} → Says a A → (a ≡ false → Says b B) → Says (a || b) (A ⊎ B)
says_else {a = true} p q = record { passes = λ e. inl (p.passes refl); fails = λ e. absurd (true≢false e) }
says_else {a = false} p q = record { passes = λ e. inr ((q refl).passes e); fails = λ e. ⊎_elim (p.fails refl) ((q refl).fails e) }

pub says_or : {a b : Bool} {A B : Type 0} → Says a A → Says b B → Says (a || b) (A ⊎ B)
says_or p q = says_else p (λ e. q)

pub says_and : {a b : Bool} {A B : Type 0} → Says a A → Says b B → Says (a && b) (A × B)
says_and {a = true} p q = record { passes = λ e. (p.passes refl, q.passes e); fails = λ e x. q.fails e x.1 }
says_and {a = false} p q = record { passes = λ e. absurd (false≢true e); fails = λ e x. p.fails refl x.0 }

pub says_not : {a : Bool} {A : Type 0} → Says a A → Says (not a) (A → ⊥)
says_not {a = true} p = record { passes = λ e. absurd (false≢true e); fails = λ e f. f (p.passes refl) }
says_not {a = false} p = record { passes = λ e. p.fails refl; fails = λ e. absurd (true≢false e) }

pub says_as : {a : Bool} {A B : Type 0} → (A → B) → (B → A) → Says a A → Says a B
says_as f g p = record { passes = λ e. f (p.passes e); fails = λ e b. p.fails e (g b) }

pub retest : {a b : Bool} {A : Type 0} → a ≡ b → Says a A → Says b A
retest {A = A} e p = subst (λ (b : Bool). Says b A) e p

pub says_< : (a b : ℕ) → Says (ltb a b) (a < b)
says_< a b = record { passes = ltb-true a b; fails = λ e h. let k = ltb-false a b e in omega arith }

pub says_≤ : (a b : ℕ) → Says (leb a b) (a ≤ b)
says_≤ a b = record { passes = leb-true a b; fails = λ e h. let k = leb-false a b e in omega arith }

pub says_≡ : (a b : ℕ) → Says (eqb a b) (a ≡ b)
says_≡ a b = record { passes = eqb-true a b; fails = eqb-false a b }

pub says_itself : (b : Bool) → Says b (b ≡ true)
says_itself true = record { passes = λ e. e; fails = λ e. absurd (true≢false e) }
says_itself false = record { passes = λ e. e; fails = λ e. false≢true }

never : Says false ⊥
never = record { passes = λ e. absurd (false≢true e); fails = λ e x. x }

pub not_< : (a b : ℕ) → (b < a → ⊥) → a ≤ b
not_< a b f = omega arith

not_≤ : (a b : ℕ) → (a ≤ b → ⊥) → b < a
not_≤ a b f = omega arith

-- ---- the test of a range

abbrev pub tests : Range → ℕ → Bool
tests (low to high) x = ltb x low || ltb high x
tests (below n) x = leb n x
tests (at_most n) x = ltb n x
tests (at_most_or_TBD n) x = ltb n x && not (eqb x 4294967295)

pub outside : (r : Range) (x : ℕ) → Says (tests r x) (Within r x → ⊥)
outside (low to high) x =
    let t = says_or (says_< x low) (says_< high x) in
    record {
      passes = λ e h. let a = h.0 in let b = h.1 in ⊎_elim (λ (c : x < low). omega arith) (λ (c : high < x). omega arith) (t.passes e);
      fails = λ e f. let g = t.fails e in f (not_< low x (λ a. g (inl a)), not_< x high (λ a. g (inr a)));
    }
outside (below n) x = record { passes = λ e h. let a = leb-true n x e in omega arith; fails = λ e f. f (leb-false n x e) }
outside (at_most n) x = record { passes = λ e h. let a = ltb-true n x e in omega arith; fails = λ e f. f (ltb-false n x e) }
outside (at_most_or_TBD n) x =
    let t = says_and (says_< n x) (says_not (says_≡ x 4294967295)) in
    record {
      passes = λ e. let s = t.passes e in ⊎_elim (λ h. let a = s.0 in omega arith) s.1;
      fails = λ e f. t.fails e (not_≤ x n (λ h. f (inl h)), λ h. f (inr h));
    }

-- Ranges that the definitions test in other words: a total's place inside an item, by two tests; an older node that must be there.
pub place_inside : (k x : ℕ) → Says (ltb k x || leb k x) (Within (below k) x → ⊥)
place_inside k x =
    let t = says_or (says_< k x) (says_≤ k x) in
    record {
      passes = λ e h. ⊎_elim (λ (a : k < x). omega arith) (λ (a : k ≤ x). omega arith) (t.passes e);
      fails = λ e f. t.fails e (inr (not_< k x f));
    }

pub older_there : (u x : ℕ) → Says (eqb x 0 || ltb u x) (Within (1 to u) x → ⊥)
older_there u x =
    let t = says_or (says_≡ x 0) (says_< u x) in
    record {
      passes = λ e h. let a = h.0 in let b = h.1 in ⊎_elim (λ (c : x ≡ 0). omega arith) (λ (c : u < x). omega arith) (t.passes e);
      fails = λ e f. let g = t.fails e in f (not_< 1 x (λ a. g (inl (omega arith))), not_< x u (λ a. g (inr a)));
    }

-- ---- a list of tests, in step with words in use

-- `by`: a test that says that its word is outside its range; `both`: two tests of one word; `skip`: no test.
pub data Match : List Bool → List Use → Type 0 where
  none : Match [] []
  by : {b : Bool} {r : Range} {x : ℕ} {bs : List Bool} {us : List Use} → Says b (Within r x → ⊥) → Match bs us → Match (b ∷ bs) (x ∈ r ∷ us)
  both : {a b : Bool} {r : Range} {x : ℕ} {bs : List Bool} {us : List Use} → Says (a || b) (Within r x → ⊥) → Match bs us → Match (a ∷ b ∷ bs) (x ∈ r ∷ us)
  skip : {bs : List Bool} {us : List Use} → Match bs us → Match (false ∷ bs) us

pub test : {r : Range} {x : ℕ} {bs : List Bool} {us : List Use} → Match bs us → Match (tests r x ∷ bs) (x ∈ r ∷ us)
test {r = r} {x = x} h = by (outside r x) h

or_later : (a b c : Bool) → (a || b) || c ≡ a || (b || c)
or_later true b c = refl
or_later false b c = refl

regroup : {a : Bool} {A B C : Type 0} → Says a ((A ⊎ B) ⊎ C) → Says a (A ⊎ (B ⊎ C))
regroup = says_as (⊎_elim (⊎_elim inl (λ x. inr (inl x))) (λ x. inr (inr x))) (⊎_elim (λ x. inl (inl x)) (⊎_elim (λ x. inl (inr x)) inr))

from : {a : Bool} {A : Type 0} {bs : List Bool} {us : List Use} → Says a A → Match bs us → Says (any_from a bs) (A ⊎ Outside us)
from p none = says_as inl (⊎_elim (λ x. x) absurd) p
from p (by t h) = regroup (from (says_or p t) h)
from {a = a} p (both {a = c} {b = b} {bs = bs} t h) = regroup (retest (ap (λ (d : Bool). any_from d bs) (sym (or_later a c b))) (from (says_or p t) h))
from p (skip h) = says_as (⊎_elim (⊎_elim inl absurd) inr) (⊎_elim (λ x. inl (inl x)) inr) (from (says_or p never) h)

-- ---- a test that is true exactly where one of the words is outside its range

pub record Exactly (b : Bool) (us : List Use) : Type 0 where
  pub says : Says b (Outside us)

pub exactly_as : {a b : Bool} {us : List Use} → a ≡ b → Exactly a us → Exactly b us
exactly_as e p = record { says = retest e p.says }

from_none : (bs : List Bool) → any_from false bs ≡ any_of bs
from_none [] = refl
from_none (b ∷ bs) = refl

pub all_tested : {bs : List Bool} {us : List Use} → Match bs us → Exactly (any_of bs) us
all_tested {bs = bs} h = record { says = retest (from_none bs) (says_as (⊎_elim absurd (λ x. x)) inr (from never h)) }

to_append : (us vs : List Use) → Outside us ⊎ Outside vs → Outside (us ++ vs)
to_append [] vs (inl x) = absurd x
to_append [] vs (inr x) = x
to_append (x ∈ r ∷ us) vs (inl (inl y)) = inl y
to_append (x ∈ r ∷ us) vs (inl (inr y)) = inr (to_append us vs (inl y))
to_append (x ∈ r ∷ us) vs (inr y) = inr (to_append us vs (inr y))

of_append : (us vs : List Use) → Outside (us ++ vs) → Outside us ⊎ Outside vs
of_append [] vs x = inr x
of_append (x ∈ r ∷ us) vs (inl y) = inl (inl y)
of_append (x ∈ r ∷ us) vs (inr y) = ⊎_elim (λ z. inl (inr z)) inr (of_append us vs y)

-- words of two tests, and of a test with tests to come
pub joined : {a b : Bool} {us vs : List Use} → Exactly a us → Exactly b vs → Exactly (a || b) (us ++ vs)
joined {us = us} {vs = vs} p q = record { says = says_as (to_append us vs) (of_append us vs) (says_or p.says q.says) }

pub further : {a : Bool} {bs : List Bool} {us vs : List Use} → Exactly a us → Match bs vs → Exactly (any_from a bs) (us ++ vs)
further {us = us} {vs = vs} p h = record { says = says_as (to_append us vs) (of_append us vs) (from p.says h) }

-- words that are in use unless a test holds
pub unless_so : (t : Bool) {b : Bool} {us : List Use} → Exactly b us → Exactly (not t && b) (cond t [] us)
unless_so true p = all_tested none
unless_so false p = p
