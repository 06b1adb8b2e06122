-- Laws of answer lines: runs of stores one after the other, and digits four at a time.
use Rattle.std.specs.Prelude.{◌≡◌, ℕ, zero, suc, ◌+◌, ◌*◌, ◌/◌, ◌%◌, ◌<◌, Bool, true, false, cond, List, [], ◌∷◌, ◌++◌, length, nat_lt, slice_set, refl}
use Rattle.std.proofs.Common.{ap, sym, ◌∙◌, append_assoc, add-zero, add-suc, suc-add, add-one, arith, ltb-true, ltb-false, length-append}
use Rattle.std.proofs.Math.Numerals.{add-two, add-three}
use Rattle.std.proofs.lemmas.List.Edits.{sets}
use Rattle.definitions.specs.declared.Answer.{Answer}
use Rattle.frames.specs.Lines.{feed}
use Rattle.frames.specs.AnswerLines.{glyph, hex, answer_line, answer_length}

-- a run of stores, and one right after it
pub sets_then : (l : List ℕ) (i : ℕ) (xs ys : List ℕ) → sets (sets l i xs) (i + length xs) ys ≡ sets l i (xs ++ ys)
sets_then l i [] ys = ap (λ (k : ℕ). sets l k ys) (add-zero i)
sets_then l i (x ∷ xs) ys =
    ap (λ (k : ℕ). sets (sets (slice_set l i x) (suc i) xs) k ys) (add-suc i (length xs) ∙ sym (suc-add i (length xs)))
    ∙ sets_then (slice_set l i x) (suc i) xs ys

pub hex_length : (k n : ℕ) → length (hex k n) ≡ k
unfolding hex
hex_length zero n = refl
hex_length (suc k) n = length-append (hex k (n / 16)) (glyph (n % 16) ∷ []) ∙ add-one _ ∙ ap suc (hex_length k (n / 16))

pub answer_line_length : (a : Answer) → length (answer_line a) ≡ answer_length
unfolding hex answer_line
answer_line_length a = refl

-- the digit, without a test
pub glyph_by : (d : ℕ) → d < 16 → 48 + d + 39 * ((d + 6) / 16) ≡ glyph d
glyph_by d h = by_test (nat_lt d 10) refl
  where
    by_test : (t : Bool) → nat_lt d 10 ≡ t → 48 + d + 39 * ((d + 6) / 16) ≡ cond t (48 + d) (87 + d)
    by_test true e = omega (arith, ltb-true d 10 e)
    by_test false e = omega (arith, ltb-false d 10 e)

-- two stores, and four, one after the other
pub two_stored : (l : List ℕ) (at a b : ℕ) → slice_set (slice_set l at a) (at + 1) b ≡ sets l at (a ∷ b ∷ [])
two_stored l at a b = rw add-one

pub four_stored : (l : List ℕ) (at a b c d : ℕ) → slice_set (slice_set (slice_set (slice_set l at a) (at + 1) b) (at + 2) c) (at + 3) d ≡ sets l at (a ∷ b ∷ c ∷ d ∷ [])
four_stored l at a b c d = rw (add-one, add-two, add-three)

-- digits, the last four apart
sixteenths : (n : ℕ) → n / 16 / 16 / 16 / 16 ≡ n / 65536
sixteenths n = omega arith

hex_more : (k n : ℕ) → hex (suc (suc (suc (suc k)))) n ≡ hex k (n / 65536) ++ hex 4 n
unfolding hex
hex_more k n = simp append_assoc (ap (λ (m : ℕ). hex k m ++ hex 4 n) (sixteenths n))

pub hex_sixteen : (n : ℕ) → hex 16 n ≡ hex 4 (n / 65536 / 65536 / 65536) ++ (hex 4 (n / 65536 / 65536) ++ (hex 4 (n / 65536) ++ hex 4 n))
unfolding hex
hex_sixteen n =
    hex_more 12 n ∙ ap (λ (l : List ℕ). l ++ hex 4 n) (hex_more 8 (n / 65536) ∙ ap (λ (l : List ℕ). l ++ hex 4 (n / 65536)) (hex_more 4 (n / 65536 / 65536)))
    ∙ simp append_assoc

pub value_stored : (l l₁ l₂ l₃ l₄ : List ℕ) (at n : ℕ)
    → l₁ ≡ sets l at (hex 4 (n / 65536 / 65536 / 65536)) → l₂ ≡ sets l₁ (at + 4) (hex 4 (n / 65536 / 65536))
    → l₃ ≡ sets l₂ (at + 8) (hex 4 (n / 65536)) → l₄ ≡ sets l₃ (at + 12) (hex 4 n)
    → l₄ ≡ sets l at (hex 16 n)
unfolding hex
value_stored l l₁ l₂ l₃ l₄ at n e₁ e₂ e₃ e₄ =
    let a = hex 4 (n / 65536 / 65536 / 65536) in
    let b = hex 4 (n / 65536 / 65536) in
    let c = hex 4 (n / 65536) in
    let f₂ : l₂ ≡ sets l at (a ++ b) = e₂ ∙ ap (λ (x : List ℕ). sets x (at + 4) b) e₁ ∙ sets_then l at a b in
    let f₃ : l₃ ≡ sets l at ((a ++ b) ++ c) = e₃ ∙ ap (λ (x : List ℕ). sets x (at + 8) c) f₂ ∙ sets_then l at (a ++ b) c in
    let f₄ : l₄ ≡ sets l at (((a ++ b) ++ c) ++ hex 4 n) = e₄ ∙ ap (λ (x : List ℕ). sets x (at + 12) (hex 4 n)) f₃ ∙ sets_then l at ((a ++ b) ++ c) (hex 4 n) in
    f₄ ∙ ap (sets l at) (sym (hex_sixteen n))

pub zeros_stored : (l l₁ l₂ l₃ : List ℕ) (at : ℕ)
    → l₁ ≡ sets l at (hex 4 0) → l₂ ≡ sets l₁ (at + 4) (hex 4 0) → l₃ ≡ sets l₂ (at + 8) (hex 4 0) → l₃ ≡ sets l at (hex 12 0)
unfolding hex
zeros_stored l l₁ l₂ l₃ at e₁ e₂ e₃ =
    let f₂ : l₂ ≡ sets l at (hex 4 0 ++ hex 4 0) = e₂ ∙ ap (λ (x : List ℕ). sets x (at + 4) (hex 4 0)) e₁ ∙ sets_then l at (hex 4 0) (hex 4 0) in
    e₃ ∙ ap (λ (x : List ℕ). sets x (at + 8) (hex 4 0)) f₂ ∙ sets_then l at (hex 4 0 ++ hex 4 0) (hex 4 0)

pub small_stored : (l l₁ l₂ : List ℕ) (at n : ℕ) → n < 65536 → l₁ ≡ sets l at (hex 12 0) → l₂ ≡ sets l₁ (at + 12) (hex 4 n) → l₂ ≡ sets l at (hex 16 n)
small_stored l l₁ l₂ at n h e₁ e₂ =
    let z : n / 65536 ≡ 0 = omega arith in
    e₂ ∙ ap (λ (x : List ℕ). sets x (at + 12) (hex 4 n)) e₁
    ∙ ap (λ (k : ℕ). sets (sets l at (hex 12 0)) (at + k) (hex 4 n)) (sym (hex_length 12 0))
    ∙ sets_then l at (hex 12 0) (hex 4 n)
    ∙ ap (λ (m : ℕ). sets l at (hex 12 m ++ hex 4 n)) (sym z)
    ∙ ap (sets l at) (sym (hex_more 12 n))

pub answer_stored : (l l₁ l₂ l₃ : List ℕ) (at : ℕ) (a : Answer)
    → l₁ ≡ sets l at (hex 2 a.code) → l₂ ≡ sets l₁ (at + 2) (hex 16 a.value) → l₃ ≡ sets l₂ (at + 18) (hex 4 a.steps)
    → slice_set l₃ (at + 22) feed ≡ sets l at (answer_line a)
unfolding hex answer_line
answer_stored l l₁ l₂ l₃ at a e₁ e₂ e₃ =
    let x = hex 2 a.code in
    let y = hex 16 a.value in
    let z = hex 4 a.steps in
    let f₂ : l₂ ≡ sets l at (x ++ y) = e₂ ∙ ap (λ (w : List ℕ). sets w (at + 2) y) e₁ ∙ sets_then l at x y in
    let f₃ : l₃ ≡ sets l at ((x ++ y) ++ z) = e₃ ∙ ap (λ (w : List ℕ). sets w (at + 18) z) f₂ ∙ sets_then l at (x ++ y) z in
    ap (λ (w : List ℕ). slice_set w (at + 22) feed) f₃ ∙ sets_then l at ((x ++ y) ++ z) (feed ∷ [])
