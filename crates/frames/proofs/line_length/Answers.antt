use Rattle.std.proofs.Common.{◌≡◌, ℕ, zero, suc, ◌<◌, ◌≤◌, Bool, true, false, ◌==◌, cond, List, [], ◌∷◌, Option, None, Some, length, slice_index, refl, ap, sym, arith}
use Rattle.std.specs.Option.{unwrap_or}
use Rattle.memchr.specs.Find.{IsFirstByte, is_byte}
use Rattle.frames.specs.Lines.{feed, line_length as length_of}
use Rattle.frames.proofs.line_length.Goals as goal

no_feed : (t : List ℕ) → ((k : ℕ) → 0 ≤ k → k < length t → (slice_index t k == feed) ≡ true → ⊥) → length t ≡ length_of t
unfolding length_of
no_feed [] h = refl
no_feed (x ∷ t) h = by_test (x == feed) refl (no_feed t (λ k z l. h (suc k) (omega arith) (omega arith)))
  where
    by_test : (b : Bool) → (x == feed) ≡ b → length t ≡ length_of t → suc (length t) ≡ cond b 0 (suc (length_of t))
    by_test true e again = absurd (h 0 (omega arith) (omega arith) e)
    by_test false e again = ap suc again

first_feed : (t : List ℕ) (n : ℕ) → n < length t → ((k : ℕ) → 0 ≤ k → k < n → (slice_index t k == feed) ≡ true → ⊥) → (slice_index t n == feed) ≡ true → n ≡ length_of t
unfolding length_of
first_feed [] n l h e = absurd (omega arith)
first_feed (x ∷ t) zero l h e = sym (ap (λ (b : Bool). cond b 0 (suc (length_of t))) e)
first_feed (x ∷ t) (suc n) l h e = by_test (x == feed) refl (first_feed t n (omega arith) (λ k z m. h (suc k) (omega arith) (omega arith)) e)
  where
    by_test : (b : Bool) → (x == feed) ≡ b → n ≡ length_of t → suc n ≡ cond b 0 (suc (length_of t))
    by_test true d again = absurd (h 0 (omega arith) (omega arith) d)
    by_test false d again = ap suc again

found : (t : List ℕ) (r : Option ℕ) → IsFirstByte (is_byte feed) t r → (unwrap_or r (length t) ≡ length_of t) × (unwrap_or r (length t) ≤ length t)
found t None h = (no_feed t h, omega arith)
found t (Some n) h = (first_feed t n h.0.high h.0.before h.1, omega (arith, h.0.high))

pub returns : goal.returns
returns c = rw c.unwrap_or.ensures (found c.args.text.now c.memchr.result c.memchr.ensures)
