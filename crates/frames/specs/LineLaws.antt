-- Laws of lines: what the line reader finds, and a text as its first line and the rest.
use Rattle.std.specs.Prelude.{◌≡◌, ℕ, zero, suc, ◌+◌, ◌-◌, ◌<◌, ◌≤◌, Bool, true, false, cond, ◌||◌, List, [], ◌∷◌, ◌++◌, length, take, drop, ◌==◌, ◌≢◌, slice_index, refl}
use Rattle.std.proofs.Common.{ap, sym, ◌∙◌, true≢false, not-suc-le-zero, le_of_suc-le-suc, add-suc, arith, add-one, length-drop, drop_of_length-le, drop-cons, take_all, eq-eqb, ne_eqb, eqb-true}
use Rattle.std.proofs.lemmas.Bool.{false≢true}
use Rattle.frames.specs.Lines.{feed, lines_of, before_first, line_length, first_line, after_line, has_feed, onto_first, whole_lines, unfinished, last_line}

-- ---- how long a line is, byte after byte

pub length_end : (l : List ℕ) (i : ℕ) → length l ≤ i → line_length (drop i l) ≡ 0
unfolding line_length
length_end [] zero h = refl
length_end [] (suc i) h = refl
length_end (x ∷ l) zero h = absurd (not-suc-le-zero h)
length_end (x ∷ l) (suc i) h = length_end l i (le_of_suc-le-suc h)

pub length_feed : (l : List ℕ) (i : ℕ) → i < length l → slice_index l i ≡ feed → line_length (drop i l) ≡ 0
unfolding line_length
length_feed l i h e = ap line_length (drop-cons l i 0 h) ∙ simp (eq-eqb _ _ e)

pub length_more : (l : List ℕ) (i : ℕ) → i < length l → (slice_index l i ≢ feed) → line_length (drop i l) ≡ suc (line_length (drop (suc i) l))
unfolding line_length
length_more l i h e = ap line_length (drop-cons l i 0 h) ∙ simp (ne_eqb _ _ e)

-- eight bytes at a time: r of them stand before a line feed, or none is one
pub record Before (l : List ℕ) (i r : ℕ) : Type 0 where
  pub few : r ≤ 8
  pub found : r < 8 → line_length (drop i l) ≡ r
  pub passed : r ≡ 8 → line_length (drop i l) ≡ 8 + line_length (drop (i + 8) l)

pub length_next : (l : List ℕ) (i j : ℕ) → i + j < length l → (slice_index l (i + j) ≢ feed) → line_length (drop (i + j) l) ≡ 1 + line_length (drop (i + suc j) l)
length_next l i j h e = length_more l (i + j) h e ∙ rw (add-suc i j) (one_more (line_length (drop (suc (i + j)) l)))
  where
    one_more : (n : ℕ) → suc n ≡ 1 + n
    one_more n = omega arith

pub length_first : (l : List ℕ) (i : ℕ) → i < length l → (slice_index l i ≢ feed) → line_length (drop i l) ≡ 1 + line_length (drop (i + 1) l)
length_first l i h e = length_more l i h e ∙ rw add-one (one_more (line_length (drop (suc i) l)))
  where
    one_more : (n : ℕ) → suc n ≡ 1 + n
    one_more n = omega arith

-- the rest, by the length
pub after_by : (l : List ℕ) → after_line l ≡ drop (suc (line_length l)) l
unfolding line_length after_line
after_by [] = refl
after_by (x ∷ l) = by_test (x == feed) (after_by l)
  where
    by_test : (t : Bool) → after_line l ≡ drop (suc (line_length l)) l → cond t l (after_line l) ≡ drop (cond t 0 (suc (line_length l))) l
    by_test true e = refl
    by_test false e = e

rest_read : (l : List ℕ) (b : ℕ) → take (length l - b) (drop b l) ≡ drop b l
rest_read l b = take_all (length l - b) (drop b l) (omega (arith, length-drop b l))

pub after_feed : (l : List ℕ) (n : ℕ) → n ≡ line_length l → take (length l - (n + 1)) (drop (n + 1) l) ≡ after_line l
after_feed l n e = rest_read l (n + 1) ∙ sym (after_by l ∙ rw (← e, ← add-one n))

pub after_end : (l : List ℕ) (n : ℕ) → n ≡ line_length l → length l ≤ n → take (length l - n) (drop n l) ≡ after_line l
after_end l n e h =
    rest_read l n ∙ drop_of_length-le l h
    ∙ sym (after_by l ∙ drop_of_length-le l {i = suc (line_length l)} (omega arith))

-- ---- a text with a line feed is its first line, the line feed and the rest; one without is unfinished

pub split_feed : (t : List ℕ) → has_feed t ≡ true → t ≡ first_line t ++ (feed ∷ after_line t)
unfolding line_length after_line has_feed
split_feed [] h = absurd (false≢true h)
split_feed (x ∷ t) h = by_test (x == feed) refl h (λ k. split_feed t k)
  where
    by_test : (b : Bool) → (x == feed) ≡ b → (b || has_feed t) ≡ true → (has_feed t ≡ true → t ≡ first_line t ++ (feed ∷ after_line t))
        → x ∷ t ≡ take (cond b 0 (suc (line_length t))) (x ∷ t) ++ (feed ∷ cond b t (after_line t))
    by_test true e h again = ap (λ (y : ℕ). y ∷ t) (eqb-true x feed e)
    by_test false e h again = ap (λ (s : List ℕ). x ∷ s) (again h)

pub whole_feed : (t : List ℕ) → has_feed t ≡ true → whole_lines t ≡ first_line t ∷ whole_lines (after_line t)
unfolding line_length after_line has_feed whole_lines
whole_feed [] h = absurd (false≢true h)
whole_feed (x ∷ t) h = by_test (x == feed) h (λ k. whole_feed t k)
  where
    by_test : (b : Bool) → (b || has_feed t) ≡ true → (has_feed t ≡ true → whole_lines t ≡ first_line t ∷ whole_lines (after_line t))
        → cond b ([] ∷ whole_lines t) (onto_first x (whole_lines t)) ≡ take (cond b 0 (suc (line_length t))) (x ∷ t) ∷ whole_lines (cond b t (after_line t))
    by_test true h again = refl
    by_test false h again = ap (onto_first x) (again h)

pub unfinished_feed : (t : List ℕ) → has_feed t ≡ true → unfinished t ≡ unfinished (after_line t)
unfolding after_line has_feed unfinished
unfinished_feed [] h = absurd (false≢true h)
unfinished_feed (x ∷ t) h = by_test (x == feed) h (λ k. unfinished_feed t k)
  where
    by_test : (b : Bool) → (b || has_feed t) ≡ true → (has_feed t ≡ true → unfinished t ≡ unfinished (after_line t))
        → cond (b || has_feed t) (unfinished t) (x ∷ t) ≡ unfinished (cond b t (after_line t))
    by_test true h again = refl
    by_test false h again = ap (λ (f : Bool). cond f (unfinished t) (x ∷ t)) h ∙ again h

pub whole_none : (t : List ℕ) → has_feed t ≡ false → whole_lines t ≡ []
unfolding has_feed whole_lines
whole_none [] h = refl
whole_none (x ∷ t) h = by_test (x == feed) h (λ k. whole_none t k)
  where
    by_test : (b : Bool) → (b || has_feed t) ≡ false → (has_feed t ≡ false → whole_lines t ≡ [])
        → cond b ([] ∷ whole_lines t) (onto_first x (whole_lines t)) ≡ []
    by_test true h again = absurd (true≢false h)
    by_test false h again = ap (onto_first x) (again h)

pub unfinished_none : (t : List ℕ) → has_feed t ≡ false → unfinished t ≡ t
unfolding has_feed unfinished
unfinished_none [] h = refl
unfinished_none (x ∷ t) h = ap (λ (f : Bool). cond f (unfinished t) (x ∷ t)) h

pub after_none : (t : List ℕ) → has_feed t ≡ false → after_line t ≡ []
unfolding has_feed after_line
after_none [] h = refl
after_none (x ∷ t) h = by_test (x == feed) h (λ k. after_none t k)
  where
    by_test : (b : Bool) → (b || has_feed t) ≡ false → (has_feed t ≡ false → after_line t ≡ []) → cond b t (after_line t) ≡ []
    by_test true h again = absurd (true≢false h)
    by_test false h again = again h

-- no byte of a text without a line feed is one
pub none_there : (t : List ℕ) (i : ℕ) → has_feed t ≡ false → i < length t → slice_index t i ≢ feed
unfolding has_feed
none_there [] i h l e = absurd (not-suc-le-zero l)
none_there (x ∷ t) zero h l e = by_test (x == feed) (eq-eqb x feed e) h
  where
    by_test : (b : Bool) → b ≡ true → (b || has_feed t) ≢ false
    by_test true e h = true≢false h
    by_test false e h = false≢true e
none_there (x ∷ t) (suc i) h l e = by_test (x == feed) h (λ k. none_there t i k (le_of_suc-le-suc l) e)
  where
    by_test : (b : Bool) → (b || has_feed t) ≡ false → (has_feed t ≢ false) → ⊥
    by_test true h again = true≢false h
    by_test false h again = again h

-- the lines of a text are its whole lines and, where there is one, the unfinished one
pub lines_in_two : (t : List ℕ) → lines_of t ≡ whole_lines t ++ last_line (unfinished t)
unfolding lines_of has_feed whole_lines unfinished
lines_in_two [] = refl
lines_in_two (x ∷ t) = by_test (x == feed) (has_feed t) refl (lines_in_two t)
  where
    alone : (s : List ℕ) → before_first x ([] ++ last_line s) ≡ [] ++ last_line (x ∷ s)
    alone [] = refl
    alone (y ∷ s) = refl

    by_test : (b f : Bool) → has_feed t ≡ f → lines_of t ≡ whole_lines t ++ last_line (unfinished t)
        → cond b ([] ∷ lines_of t) (before_first x (lines_of t))
        ≡ cond b ([] ∷ whole_lines t) (onto_first x (whole_lines t)) ++ last_line (cond (b || f) (unfinished t) (x ∷ t))
    by_test true f e again = ap (λ (ls : List (List ℕ)). [] ∷ ls) again
    by_test false true e again = ap (before_first x) again ∙ rw (whole_feed t e)
    by_test false false e again = ap (before_first x) again ∙ rw (whole_none t e, unfinished_none t e) (alone t)

-- ---- a text in two pieces

pub unfinished_has_none : (t : List ℕ) → has_feed (unfinished t) ≡ false
unfolding has_feed unfinished
unfinished_has_none [] = refl
unfinished_has_none (x ∷ t) = by_test (x == feed || has_feed t) refl (unfinished_has_none t)
  where
    by_test : (f : Bool) → has_feed (x ∷ t) ≡ f → has_feed (unfinished t) ≡ false → has_feed (cond f (unfinished t) (x ∷ t)) ≡ false
    by_test true e again = again
    by_test false e again = e

pub whole_append : (a b : List ℕ) → whole_lines (a ++ b) ≡ whole_lines a ++ whole_lines (unfinished a ++ b)
unfolding has_feed whole_lines unfinished
whole_append [] b = refl
whole_append (x ∷ a) b = by_test (x == feed) (has_feed a) refl refl (whole_append a b)
  where
    by_test : (t f : Bool) → (x == feed) ≡ t → has_feed a ≡ f → whole_lines (a ++ b) ≡ whole_lines a ++ whole_lines (unfinished a ++ b)
        → cond t ([] ∷ whole_lines (a ++ b)) (onto_first x (whole_lines (a ++ b)))
        ≡ cond t ([] ∷ whole_lines a) (onto_first x (whole_lines a)) ++ whole_lines (cond (t || f) (unfinished a) (x ∷ a) ++ b)
    by_test true f d e again = ap (λ (ls : List (List ℕ)). [] ∷ ls) again
    by_test false true d e again = ap (onto_first x) again ∙ rw (whole_feed a e)
    by_test false false d e again = rw (whole_none a e) (ap (λ (t : Bool). cond t ([] ∷ whole_lines (a ++ b)) (onto_first x (whole_lines (a ++ b)))) (sym d))

pub unfinished_append : (a b : List ℕ) → unfinished (a ++ b) ≡ unfinished (unfinished a ++ b)
unfolding has_feed unfinished
unfinished_append [] b = refl
unfinished_append (x ∷ a) b = by_test (x == feed || has_feed a) refl (unfinished_append a b)
  where
    more : (s r : List ℕ) → has_feed s ≡ true → has_feed (s ++ r) ≡ true
    more [] r h = absurd (false≢true h)
    more (y ∷ s) r h = in_or (y == feed) (has_feed s) (has_feed (s ++ r)) h (λ k. more s r k)
      where
        in_or : (p q v : Bool) → (p || q) ≡ true → (q ≡ true → v ≡ true) → (p || v) ≡ true
        in_or true q v h k = refl
        in_or false q v h k = k h

    by_test : (f : Bool) → has_feed (x ∷ a) ≡ f → unfinished (a ++ b) ≡ unfinished (unfinished a ++ b)
        → unfinished ((x ∷ a) ++ b) ≡ unfinished (cond f (unfinished a) (x ∷ a) ++ b)
    by_test true e again = ap (λ (f : Bool). cond f (unfinished (a ++ b)) ((x ∷ a) ++ b)) (more (x ∷ a) b e) ∙ again
    by_test false e again = refl
