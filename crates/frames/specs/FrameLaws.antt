-- Laws of frames: what tests tell of a line.
use Rattle.std.specs.Prelude.{◌≡◌, ℕ, zero, suc, ◌+◌, ◌-◌, ◌*◌, ◌%◌, ◌<◌, ◌≤◌, Bool, true, false, cond, not, ◌&&◌, ◌||◌, List, [], ◌∷◌, ◌++◌, length, take, drop, ◌==◌, ◌≢◌, nat_le, nat_lt, slice_index, refl}
use Rattle.std.proofs.Common.{ap, sym, ◌∙◌, subst, true≢false, add-zero, arith, length-drop, take-append-drop, drop_of_length-le, get_or-drop, drop-drop, ltb-true, ltb-false, lt-ltb, le-ltb, le-leb, eq-eqb, ne_eqb, leb-true}
use Rattle.std.proofs.Math.Bool.{and-true, and_assoc, and-false}
use Rattle.std.proofs.lemmas.Bool.{false≢true, lt-leb}
use Rattle.frames.specs.declared.Frame.TheVariants.{Bad}
use Rattle.frames.specs.Frames.{within, digit, no_digit, all_digits, number_after, number, operation, argument, arguments, asked, well_formed, frame, framed}

-- ---- a number with a wrong digit is too large

pub both_left : (a b : Bool) → (a && b) ≡ true → a ≡ true
both_left true b h = refl
both_left false b h = absurd (false≢true h)

pub both_right : (a b : Bool) → (a && b) ≡ true → b ≡ true
both_right true b h = h
both_right false b h = absurd (false≢true h)

in_range : (low high x : ℕ) → within low high x ≡ true → (low ≤ x) × (x ≤ high)
in_range low high x h = (leb-true low x (both_left (nat_le low x) (nat_le x high) h), leb-true x high (both_right (nat_le low x) (nat_le x high) h))

digit_known : (b : ℕ) → nat_lt (digit b) 16 ≡ false → digit b ≡ no_digit
unfolding digit
digit_known b = ranges (within 48 57 b) (within 97 102 b) refl refl
  where
    ranges : (t u : Bool) → within 48 57 b ≡ t → within 97 102 b ≡ u
        → nat_lt (cond t (b - 48) (cond u (b - 87) no_digit)) 16 ≡ false → cond t (b - 48) (cond u (b - 87) no_digit) ≡ no_digit
    ranges true u d e h = absurd (omega (arith, in_range 48 57 b d, ltb-false (b - 48) 16 h))
    ranges false true d e h = absurd (omega (arith, in_range 97 102 b e, ltb-false (b - 87) 16 h))
    ranges false false d e h = refl

-- a digit by its distance from `0` or from `a`, wrapping at 256
pub digit_figure : (b figure : ℕ) → (figure + 48) % 256 ≡ b → figure < 10 → figure ≡ digit b
unfolding digit
digit_figure b figure e h = simp (le-leb 48 b (omega arith), le-leb b 57 (omega arith)) (omega arith)

pub digit_letter : (b letter : ℕ) → (letter + 97) % 256 ≡ b → letter < 6 → 10 + letter ≡ digit b
unfolding digit
digit_letter b letter e h =
    simp (le-leb 48 b (omega arith), lt-leb b 57 (omega arith), le-leb 97 b (omega arith), le-leb b 102 (omega arith)) (omega arith)

pub digit_none : (b figure letter : ℕ) → (figure + 48) % 256 ≡ b → (letter + 97) % 256 ≡ b → figure < 256 → letter < 256 → 10 ≤ figure → 6 ≤ letter → no_digit ≡ digit b
unfolding digit
digit_none b figure letter e d f l h k = ranges (within 48 57 b) (within 97 102 b) refl refl
  where
    ranges : (t u : Bool) → within 48 57 b ≡ t → within 97 102 b ≡ u → no_digit ≡ cond t (b - 48) (cond u (b - 87) no_digit)
    ranges true u p q = absurd (omega (arith, in_range 48 57 b p))
    ranges false true p q = absurd (omega (arith, in_range 97 102 b q))
    ranges false false p q = refl

grows : (n : ℕ) (bs : List ℕ) → n ≤ number_after n bs
grows n [] = omega arith
grows n (b ∷ bs) = let g = grows (n * 16 + digit b) bs in omega arith

pub wrong_digit : (n : ℕ) (bs : List ℕ) → all_digits bs ≡ false → no_digit ≤ number_after n bs
unfolding all_digits
wrong_digit n [] h = absurd (true≢false h)
wrong_digit n (b ∷ bs) h = by_test (nat_lt (digit b) 16) refl h (λ k. wrong_digit (n * 16 + digit b) bs k)
  where
    by_test : (t : Bool) → nat_lt (digit b) 16 ≡ t → (t && all_digits bs) ≡ false → (all_digits bs ≡ false → no_digit ≤ number_after (n * 16 + digit b) bs)
        → no_digit ≤ number_after (n * 16 + digit b) bs
    by_test true e h again = again h
    by_test false e h again = let d = digit_known b e in let g = grows (n * 16 + digit b) bs in omega arith

pub first_digit : (b : ℕ) (more : Bool) → (nat_lt (digit b) 16 && more) ≡ true → digit b < 16
first_digit b more h = ltb-true (digit b) 16 (both_left (nat_lt (digit b) 16) more h)

two_digits : (a b : ℕ) → all_digits (a ∷ b ∷ []) ≡ true → number (a ∷ b ∷ []) < 256
unfolding all_digits
two_digits a b h =
    omega (arith, first_digit a (all_digits (b ∷ [])) h, first_digit b true (both_right (nat_lt (digit a) 16) (all_digits (b ∷ [])) h))

four_digits : (a b c d : ℕ) → all_digits (a ∷ b ∷ c ∷ d ∷ []) ≡ true → number (a ∷ b ∷ c ∷ d ∷ []) < no_digit
unfolding all_digits
four_digits a b c d h =
    let h₁ : all_digits (b ∷ c ∷ d ∷ []) ≡ true = both_right (nat_lt (digit a) 16) (all_digits (b ∷ c ∷ d ∷ [])) h in
    let h₂ : all_digits (c ∷ d ∷ []) ≡ true = both_right (nat_lt (digit b) 16) (all_digits (c ∷ d ∷ [])) h₁ in
    let h₃ : all_digits (d ∷ []) ≡ true = both_right (nat_lt (digit c) 16) (all_digits (d ∷ [])) h₂ in
    omega
    (arith, first_digit a (all_digits (b ∷ c ∷ d ∷ [])) h, first_digit b (all_digits (c ∷ d ∷ [])) h₁, first_digit c (all_digits (d ∷ [])) h₂, first_digit d true h₃)

-- an argument is a number of 32 bits, whatever the bytes
digit_at_most : (b : ℕ) → digit b ≤ no_digit
digit_at_most b = by_test (nat_lt (digit b) 16) refl
  where
    by_test : (t : Bool) → nat_lt (digit b) 16 ≡ t → digit b ≤ no_digit
    by_test true e = omega (arith, ltb-true (digit b) 16 e)
    by_test false e = omega (arith, digit_known b e)

four_fit : (l : List ℕ) → number (take 4 l) < 4294967296
four_fit [] = omega arith
four_fit (a ∷ []) = omega (arith, digit_at_most a)
four_fit (a ∷ b ∷ []) = omega (arith, digit_at_most a, digit_at_most b)
four_fit (a ∷ b ∷ c ∷ []) = omega (arith, digit_at_most a, digit_at_most b, digit_at_most c)
four_fit (a ∷ b ∷ c ∷ d ∷ l) = omega (arith, digit_at_most a, digit_at_most b, digit_at_most c, digit_at_most d)

pub argument_fits : (line : List ℕ) (k : ℕ) → argument line k < 4294967296
argument_fits line k = four_fit (drop (2 + 4 * k) line)

-- the first two and the first four bytes, written out
pub taken_two : (l : List ℕ) → 2 ≤ length l → take 2 l ≡ slice_index l 0 ∷ slice_index l 1 ∷ []
taken_two (a ∷ b ∷ l) h = refl
taken_two (a ∷ []) h = absurd (omega arith)
taken_two [] h = absurd (omega arith)

pub taken_four : (l : List ℕ) → 4 ≤ length l → take 4 l ≡ slice_index l 0 ∷ slice_index l 1 ∷ slice_index l 2 ∷ slice_index l 3 ∷ []
taken_four (a ∷ b ∷ c ∷ d ∷ l) h = refl
taken_four (a ∷ b ∷ c ∷ []) h = absurd (omega arith)
taken_four (a ∷ b ∷ []) h = absurd (omega arith)
taken_four (a ∷ []) h = absurd (omega arith)
taken_four [] h = absurd (omega arith)

pub two_at : (l : List ℕ) (p q : ℕ) → 2 ≤ length l → p ≡ digit (slice_index l 0) → q ≡ digit (slice_index l 1) → p * 16 + q ≡ number (take 2 l)
two_at l p q h e₁ e₂ = rw (taken_two l h) (omega arith)

pub four_at : (l : List ℕ) (at p q r s : ℕ) → at + 4 ≤ length l
    → p ≡ digit (slice_index l at) → q ≡ digit (slice_index l (at + 1)) → r ≡ digit (slice_index l (at + 2)) → s ≡ digit (slice_index l (at + 3))
    → p * 4096 + q * 256 + r * 16 + s ≡ number (take 4 (drop at l))
four_at l at p q r s h e₁ e₂ e₃ e₄ =
    let d₁ : p ≡ digit (slice_index (drop at l) 0) = rw (get_or-drop at l 0 0, add-zero at) e₁ in
    let d₂ : q ≡ digit (slice_index (drop at l) 1) = rw (get_or-drop at l 1 0) e₂ in
    let d₃ : r ≡ digit (slice_index (drop at l) 2) = rw (get_or-drop at l 2 0) e₃ in
    let d₄ : s ≡ digit (slice_index (drop at l) 3) = rw (get_or-drop at l 3 0) e₄ in
    let room : 4 ≤ length (drop at l) = omega (arith, length-drop at l) in
    rw (taken_four (drop at l) room) (omega arith)

-- ---- the digits after the operation, argument by argument

pub digits_append : (xs ys : List ℕ) → all_digits (xs ++ ys) ≡ (all_digits xs && all_digits ys)
unfolding all_digits
digits_append [] ys = refl
digits_append (x ∷ xs) ys = ap (λ (t : Bool). nat_lt (digit x) 16 && t) (digits_append xs ys) ∙ sym (and_assoc (nat_lt (digit x) 16) (all_digits xs) (all_digits ys))

pub in_parts : (n : ℕ) (l : List ℕ) → all_digits l ≡ (all_digits (take n l) && all_digits (drop n l))
in_parts n l = ap all_digits (sym (take-append-drop n l)) ∙ digits_append (take n l) (drop n l)

too_large : (l : List ℕ) → 4 ≤ length l → nat_lt 65535 (number (take 4 l)) ≡ not (all_digits (take 4 l))
too_large l h = by_test (all_digits (take 4 l)) refl
  where
    by_test : (t : Bool) → all_digits (take 4 l) ≡ t → nat_lt 65535 (number (take 4 l)) ≡ not t
    by_test true e =
        let f = rw (taken_four l h) at e in
        let small : number (take 4 l) < no_digit = rw (taken_four l h) (four_digits (slice_index l 0) (slice_index l 1) (slice_index l 2) (slice_index l 3) f) in
        le-ltb 65535 (number (take 4 l)) (omega arith)
    by_test false e = lt-ltb 65535 (number (take 4 l)) (omega (arith, wrong_digit 0 (take 4 l) e))

-- one of k arguments more, the first of them at a place, is too large
abbrev pub field : List ℕ → ℕ → ℕ
field line at = number (take 4 (drop at line))

abbrev pub wrong_from : Bool → ℕ → ℕ → List ℕ → Bool
wrong_from w zero at line = w
wrong_from w (suc k) at line = wrong_from (w || nat_lt 65535 (field line at)) k (at + 4) line

not_or : (g h : Bool) → (not g || not h) ≡ not (g && h)
not_or true h = refl
not_or false h = refl

nothing_left : (g : Bool) → (g && all_digits []) ≡ g
unfolding all_digits
nothing_left g = and-true g

wrong_all : (w g : Bool) (k at : ℕ) (line : List ℕ) → length line ≡ at + 4 * k → w ≡ not g → wrong_from w k at line ≡ not (g && all_digits (drop at line))
wrong_all w g zero at line e d =
    d ∙ ap not (sym (ap (λ (l : List ℕ). g && all_digits l) (drop_of_length-le line {i = at} (omega arith)) ∙ nothing_left g))
wrong_all w g (suc k) at line e d =
    let room : 4 ≤ length (drop at line) = omega (arith, length-drop at line, add_suc_four k) in
    let f = all_digits (take 4 (drop at line)) in
    let step : (w || nat_lt 65535 (field line at)) ≡ not (g && f) = rw (d, too_large (drop at line) room) (not_or g f) in
    wrong_all (w || nat_lt 65535 (field line at)) (g && f) k (at + 4) line (omega (arith, add_suc_four k)) step
    ∙ ap not (and_assoc g f (all_digits (drop (at + 4) line))
    ∙ ap (λ (t : Bool). g && t) (ap (λ (t : Bool). f && t) (ap all_digits (sym (drop-drop 4 at line))) ∙ sym (in_parts 4 (drop at line))))
  where
    add_suc_four : (k : ℕ) → 4 * suc k ≡ 4 + 4 * k
    add_suc_four k = omega arith

pub framed_length : (o : ℕ) (line : List ℕ) → (length line ≢ 2 + 4 * arguments o) → framed o line ≡ Bad
framed_length o line h =
    ap (λ (t : Bool). cond t (asked o (argument line)) Bad)
    (ap (λ (t : Bool). all_digits (drop 2 line) && t) (ne_eqb (length line) (2 + 4 * arguments o) h) ∙ and-false (all_digits (drop 2 line)))

module _ (o k : ℕ) (line : List ℕ) (count : arguments o ≡ suc k) (long : length line ≡ 2 + 4 * suc k) where
  private_room : 4 ≤ length (drop 2 line)
  private_room = omega (arith, length-drop 2 line)

  found : (t : Bool) → wrong_from (nat_lt 65535 (field line 2)) k 6 line ≡ t → all_digits (drop 2 line) ≡ not t
  found t e =
      let all = wrong_all (nat_lt 65535 (field line 2)) (all_digits (take 4 (drop 2 line))) k 6 line (omega arith) (too_large (drop 2 line) private_room) in
      let both : (all_digits (take 4 (drop 2 line)) && all_digits (drop 6 line)) ≡ all_digits (drop 2 line)
      = ap (λ (l : List ℕ). all_digits (take 4 (drop 2 line)) && all_digits l) (sym (drop-drop 4 2 line)) ∙ sym (in_parts 4 (drop 2 line)) in
      twice (all_digits (drop 2 line)) t (sym (ap not both) ∙ sym all ∙ e)
    where
      twice : (a t : Bool) → not a ≡ t → a ≡ not t
      twice true t e = ap not e
      twice false t e = ap not e

  pub framed_wrong : wrong_from (nat_lt 65535 (field line 2)) k 6 line ≡ true → framed o line ≡ Bad
  framed_wrong e = ap (λ (t : Bool). cond (t && length line == 2 + 4 * arguments o) (asked o (argument line)) Bad) (found true e)

  pub framed_right : wrong_from (nat_lt 65535 (field line 2)) k 6 line ≡ false → framed o line ≡ asked o (argument line)
  framed_right e =
      ap (λ (t : Bool). cond (t && length line == 2 + 4 * arguments o) (asked o (argument line)) Bad) (found false e)
      ∙ ap (λ (t : Bool). cond t (asked o (argument line)) Bad) (eq-eqb (length line) (2 + 4 * arguments o) (long ∙ ap (λ (n : ℕ). 2 + 4 * n) (sym count)))

-- ---- the whole frame, by its operation

pub at_operation : (line : List ℕ) (o : ℕ) → 2 ≤ length line → o < 256 → operation line ≡ o → frame line ≡ framed o line
unfolding frame
at_operation line o h small e =
    subst (λ (n : ℕ). frame line ≡ cond (all_digits (drop 2 line) && length line == 2 + 4 * arguments n) (asked n (argument line)) Bad) e
    (ap (λ (t : Bool). cond (t && length line == 2 + 4 * arguments (operation line)) (asked (operation line) (argument line)) Bad)
    (in_parts 2 line ∙ ap (λ (t : Bool). t && all_digits (drop 2 line)) (right (all_digits (take 2 line)) refl)))
  where
    right : (t : Bool) → all_digits (take 2 line) ≡ t → t ≡ true
    right true d = refl
    right false d = absurd (omega (arith, wrong_digit 0 (take 2 line) d))

-- no operation has this number
pub unknown : (o : ℕ) (a : ℕ → ℕ) → (o ≢ 1) → (o ≢ 2) → (o ≢ 3) → (o ≢ 4) → (o ≢ 5) → (o ≢ 6) → (o ≢ 7) → (o ≢ 8) → asked o a ≡ Bad
unknown o a h₁ h₂ h₃ h₄ h₅ h₆ h₇ h₈ = none o refl
  where
    none : (n : ℕ) → n ≡ o → asked n a ≡ Bad
    none zero e = refl
    none (suc zero) e = absurd (h₁ (sym e))
    none (suc (suc zero)) e = absurd (h₂ (sym e))
    none (suc (suc (suc zero))) e = absurd (h₃ (sym e))
    none (suc (suc (suc (suc zero)))) e = absurd (h₄ (sym e))
    none (suc (suc (suc (suc (suc zero))))) e = absurd (h₅ (sym e))
    none (suc (suc (suc (suc (suc (suc zero)))))) e = absurd (h₆ (sym e))
    none (suc (suc (suc (suc (suc (suc (suc zero))))))) e = absurd (h₇ (sym e))
    none (suc (suc (suc (suc (suc (suc (suc (suc zero)))))))) e = absurd (h₈ (sym e))
    none (suc (suc (suc (suc (suc (suc (suc (suc (suc n))))))))) e = refl

pub no_operation : (line : List ℕ) → asked (operation line) (argument line) ≡ Bad → frame line ≡ Bad
unfolding frame
no_operation line e = either (well_formed (operation line) line)
  where
    either : (t : Bool) → cond t (asked (operation line) (argument line)) Bad ≡ Bad
    either true = e
    either false = refl

pub wrong_length : (line : List ℕ) → (length line ≢ 2 + 4 * arguments (operation line)) → frame line ≡ Bad
unfolding frame
wrong_length line h =
    ap (λ (t : Bool). cond t (asked (operation line) (argument line)) Bad)
    (ap (λ (t : Bool). all_digits line && t) (ne_eqb (length line) (2 + 4 * arguments (operation line)) h) ∙ and-false (all_digits line))

-- document 01's line over 64 characters, and its blank line
few_arguments : (o : ℕ) → arguments o ≤ 5
few_arguments zero = omega arith
few_arguments (suc zero) = omega arith
few_arguments (suc (suc zero)) = omega arith
few_arguments (suc (suc (suc zero))) = omega arith
few_arguments (suc (suc (suc (suc zero)))) = omega arith
few_arguments (suc (suc (suc (suc (suc zero))))) = omega arith
few_arguments (suc (suc (suc (suc (suc (suc zero)))))) = omega arith
few_arguments (suc (suc (suc (suc (suc (suc (suc zero))))))) = omega arith
few_arguments (suc (suc (suc (suc (suc (suc (suc (suc zero)))))))) = omega arith
few_arguments (suc (suc (suc (suc (suc (suc (suc (suc (suc o))))))))) = omega arith

pub too_long : (line : List ℕ) → 64 < length line → frame line ≡ Bad
too_long line h = wrong_length line (λ e. omega (arith, few_arguments (operation line)))

pub blank : frame [] ≡ Bad
blank = wrong_length [] (λ e. omega arith)
