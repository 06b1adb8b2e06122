-- Laws of reading: the number that digits spell, digit after digit.
use Rattle.std.specs.Prelude.{◌≡◌, ℕ, suc, ◌+◌, ◌*◌, ◌<◌, ◌≤◌, Bool, true, false, cond, ◌&&◌, List, [], ◌∷◌, ◌++◌, length, take, drop, ◌==◌, ◌≢◌, nat_lt, slice_index, refl}
use Rattle.std.proofs.Common.{ap, sym, ◌∙◌, arith, take-append-drop, take-add, take_all, drop-drop, drop-cons, length-drop, eq-eqb, ne_eqb}
use Rattle.std.proofs.Math.Bool.{and-true, and-false}
use Rattle.std.proofs.lemmas.List.{take_more}
use Rattle.frames.specs.declared.Frame.TheVariants.{Bad}
use Rattle.frames.specs.Frames.{digit, all_digits, number_after, number, operation, argument, arguments, asked, frame, framed}
use Rattle.frames.specs.FrameLaws.{both_right, first_digit, digits_append, in_parts}

number_append : (n : ℕ) (xs ys : List ℕ) → number_after n (xs ++ ys) ≡ number_after (number_after n xs) ys
number_append n [] ys = refl
number_append n (x ∷ xs) ys = number_append (n * 16 + digit x) xs ys

-- one digit more
pub number_more : (l : List ℕ) (i : ℕ) → i < length l → number (take (i + 1) l) ≡ number (take i l) * 16 + digit (slice_index l i)
number_more l i h = ap number (take_more l i 0 h) ∙ number_append 0 (take i l) (slice_index l i ∷ [])

pub digits_more : (l : List ℕ) (i : ℕ) → i < length l → all_digits (take i l) ≡ true → nat_lt (digit (slice_index l i)) 16 ≡ true → all_digits (take (i + 1) l) ≡ true
unfolding all_digits
digits_more l i h so d =
    ap all_digits (take_more l i 0 h) ∙ digits_append (take i l) (slice_index l i ∷ []) ∙ ap (λ (t : Bool). t && all_digits (slice_index l i ∷ [])) so
    ∙ ap (λ (t : Bool). t && true) d

-- a wrong digit at a place, and a wrong part
pub wrong_at : (l : List ℕ) (i : ℕ) → i < length l → nat_lt (digit (slice_index l i)) 16 ≡ false → all_digits l ≡ false
unfolding all_digits
wrong_at l i h d =
    ap all_digits (sym (take-append-drop i l) ∙ ap (λ (r : List ℕ). take i l ++ r) (drop-cons l i 0 h))
    ∙ digits_append (take i l) (slice_index l i ∷ drop (suc i) l)
    ∙ ap (λ (t : Bool). all_digits (take i l) && (t && all_digits (drop (suc i) l))) d
    ∙ and-false (all_digits (take i l))

-- few digits spell a small number
pub three_digits : (l : List ℕ) → length l ≤ 3 → all_digits l ≡ true → number l < 4096
unfolding all_digits
three_digits [] h d = omega arith
three_digits (a ∷ []) h d = omega (arith, first_digit a true d)
three_digits (a ∷ b ∷ []) h d = omega (arith, first_digit a (all_digits (b ∷ [])) d, first_digit b true (both_right (nat_lt (digit a) 16) (all_digits (b ∷ [])) d))
three_digits (a ∷ b ∷ c ∷ []) h d =
    let e : all_digits (b ∷ c ∷ []) ≡ true = both_right (nat_lt (digit a) 16) (all_digits (b ∷ c ∷ [])) d in
    omega (arith, first_digit a (all_digits (b ∷ c ∷ [])) d, first_digit b (all_digits (c ∷ [])) e, first_digit c true (both_right (nat_lt (digit b) 16) (all_digits (c ∷ [])) e))
three_digits (a ∷ b ∷ c ∷ e ∷ l) h d = absurd (omega arith)

-- the k-th argument after those before it: it is right, or the line is wrong
abbrev pub spelt : List ℕ → ℕ → List ℕ
spelt line k = take 4 (drop (2 + 4 * k) line)

pub arguments_more : (line : List ℕ) (k : ℕ) → all_digits (take (4 * k) (drop 2 line)) ≡ true → all_digits (spelt line k) ≡ true → all_digits (take (4 * (k + 1)) (drop 2 line)) ≡ true
arguments_more line k before this =
    ap (λ (n : ℕ). all_digits (take n (drop 2 line))) (four_more k)
    ∙ ap all_digits (take-add (4 * k) 4 (drop 2 line)) ∙ digits_append (take (4 * k) (drop 2 line)) (take 4 (drop (4 * k) (drop 2 line)))
    ∙ ap (λ (t : Bool). t && all_digits (take 4 (drop (4 * k) (drop 2 line)))) before
    ∙ ap (λ (l : List ℕ). all_digits (take 4 l)) (drop-drop (4 * k) 2 line) ∙ this
  where
    four_more : (k : ℕ) → 4 * (k + 1) ≡ 4 * k + 4
    four_more k = omega arith

pub argument_wrong : (line : List ℕ) (k : ℕ) → all_digits (spelt line k) ≡ false → all_digits (drop 2 line) ≡ false
argument_wrong line k h =
    in_parts (4 * k) (drop 2 line)
    ∙ ap (λ (t : Bool). all_digits (take (4 * k) (drop 2 line)) && t)
    (ap all_digits (drop-drop (4 * k) 2 line) ∙ in_parts 4 (drop (2 + 4 * k) line) ∙ ap (λ (t : Bool). t && all_digits (drop 4 (drop (2 + 4 * k) line))) h)
    ∙ and-false (all_digits (take (4 * k) (drop 2 line)))

-- the line of an operation with so many arguments, by its length and its digits
pub right_line : (n : ℕ) (line : List ℕ) → length line ≡ 2 + 4 * n → all_digits (take (4 * n) (drop 2 line)) ≡ true → (all_digits (drop 2 line) && length line == 2 + 4 * n) ≡ true
right_line n line e h =
    ap (λ (t : Bool). all_digits (drop 2 line) && t) (eq-eqb (length line) (2 + 4 * n) e) ∙ and-true (all_digits (drop 2 line))
    ∙ ap all_digits (sym (take_all (4 * n) (drop 2 line) (omega (arith, length-drop 2 line)))) ∙ h

pub long_line : (n : ℕ) (line : List ℕ) → (length line ≢ 2 + 4 * n) → (all_digits (drop 2 line) && length line == 2 + 4 * n) ≡ false
long_line n line h = ap (λ (t : Bool). all_digits (drop 2 line) && t) (ne_eqb (length line) (2 + 4 * n) h) ∙ and-false (all_digits (drop 2 line))

pub wrong_line : (n : ℕ) (line : List ℕ) → all_digits (drop 2 line) ≡ false → (all_digits (drop 2 line) && length line == 2 + 4 * n) ≡ false
wrong_line n line h = ap (λ (t : Bool). t && length line == 2 + 4 * n) h

-- the frame of an operation with n arguments, by what was read of them
pub frame_read : (o n : ℕ) (line : List ℕ) → arguments o ≡ n → (all_digits (drop 2 line) && length line == 2 + 4 * n) ≡ true → framed o line ≡ asked o (argument line)
frame_read o n line e h =
    ap (λ (t : Bool). cond t (asked o (argument line)) Bad) (ap (λ (k : ℕ). all_digits (drop 2 line) && length line == 2 + 4 * k) e ∙ h)

pub frame_not_read : (o n : ℕ) (line : List ℕ) → arguments o ≡ n → (all_digits (drop 2 line) && length line == 2 + 4 * n) ≡ false → framed o line ≡ Bad
frame_not_read o n line e h =
    ap (λ (t : Bool). cond t (asked o (argument line)) Bad) (ap (λ (k : ℕ). all_digits (drop 2 line) && length line == 2 + 4 * k) e ∙ h)

pub wrong_operation : (line : List ℕ) → all_digits (take 2 line) ≡ false → frame line ≡ Bad
unfolding frame
wrong_operation line h =
    ap (λ (t : Bool). cond (t && length line == 2 + 4 * arguments (operation line)) (asked (operation line) (argument line)) Bad)
    (in_parts 2 line ∙ ap (λ (t : Bool). t && all_digits (drop 2 line)) h)
