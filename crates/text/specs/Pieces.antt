-- Feeding a text in pieces is feeding the whole: between pieces stand only the words and at most 65 bytes of an unfinished line.
use Rattle.std.specs.Prelude.{◌≡◌, ℕ, zero, suc, ◌<◌, Bool, cond, ◌||◌, eqb, leb, length}
use Rattle.std.proofs.Math.Path.{refl, ap, sym}
use Rattle.std.proofs.Common.{◌∙◌, true≢false, arith, length-append, take_all, length-take-le, leb-true, leb-false}
use Rattle.std.proofs.Math.Bool.{true, false}
use mathlib.Core.List.{List, [], ◌∷◌, ◌++◌, map, append_assoc, append-nil}
use Rattle.std.proofs.Math.ListN.{take}
use Rattle.frames.specs.declared.Frame.{Frame}
use Rattle.frames.specs.Lines.{feed, has_feed, first_line, after_line, onto_first, whole_lines, unfinished, last_line}
use Rattle.frames.specs.LineLaws.{lines_in_two, whole_feed, whole_none, whole_append, unfinished_none, unfinished_append, unfinished_has_none}
use Rattle.frames.specs.Frames.{frame}
use Rattle.frames.specs.AnswerLines.{answer_line}
use Rattle.frames.specs.FrameLaws.{too_long}
use Rattle.text.specs.Replies.{replied, answers, words_after, frames_of}
use Rattle.text.specs.Feeding.{kept, frames_in, last_frame, longest_kept}

-- ---- a line that is cut at 65 bytes is as bad as the whole line

cut_frame : (u v : List ℕ) → frame (take longest_kept u ++ v) ≡ frame (u ++ v)
cut_frame u v = by_length (leb (length u) longest_kept) refl
  where
    by_length : (b : Bool) → leb (length u) longest_kept ≡ b → frame (take longest_kept u ++ v) ≡ frame (u ++ v)
    by_length true e = ap (λ (l : List ℕ). frame (l ++ v)) (take_all longest_kept u (leb-true _ _ e))
    by_length false e =
        let long : longest_kept < length u = leb-false (length u) longest_kept e in
        let cut : length (take longest_kept u) ≡ longest_kept = length-take-le longest_kept u (omega arith) in
        too_long (take longest_kept u ++ v) (omega (arith, length-append (take longest_kept u) v)) ∙ sym (too_long (u ++ v) (omega (arith, length-append u v)))

feed_append : (u p : List ℕ) → has_feed (u ++ p) ≡ (has_feed u || has_feed p)
unfolding has_feed
feed_append [] p = refl
feed_append (x ∷ u) p = by_test (eqb x feed) (feed_append u p)
  where
    by_test : (b : Bool) → has_feed (u ++ p) ≡ (has_feed u || has_feed p) → (b || has_feed (u ++ p)) ≡ ((b || has_feed u) || has_feed p)
    by_test true e = refl
    by_test false e = e

cut_none : (n : ℕ) (u : List ℕ) → has_feed u ≡ false → has_feed (take n u) ≡ false
unfolding has_feed
cut_none zero u h = refl
cut_none (suc n) [] h = refl
cut_none (suc n) (x ∷ u) h = by_test (eqb x feed) h (λ k. cut_none n u k)
  where
    by_test : (b : Bool) → (b || has_feed u) ≡ false → (has_feed u ≡ false → has_feed (take n u) ≡ false) → (b || has_feed (take n u)) ≡ false
    by_test true h again = absurd (true≢false h)
    by_test false h again = again h

cut_twice : (n : ℕ) (u p : List ℕ) → take n (take n u ++ p) ≡ take n (u ++ p)
cut_twice zero u p = refl
cut_twice (suc n) [] p = refl
cut_twice (suc n) (x ∷ u) p = ap (λ (l : List ℕ). x ∷ l) (cut_twice n u p)

-- an unfinished line and a piece that ends it
whole_after : (u p : List ℕ) → has_feed u ≡ false → has_feed p ≡ true → whole_lines (u ++ p) ≡ (u ++ first_line p) ∷ whole_lines (after_line p)
unfolding has_feed whole_lines
whole_after [] p h f = whole_feed p f
whole_after (x ∷ u) p h f = by_test (eqb x feed) h (λ k. whole_after u p k f)
  where
    by_test : (b : Bool) → (b || has_feed u) ≡ false → (has_feed u ≡ false → whole_lines (u ++ p) ≡ (u ++ first_line p) ∷ whole_lines (after_line p))
        → cond b ([] ∷ whole_lines (u ++ p)) (onto_first x (whole_lines (u ++ p))) ≡ (x ∷ (u ++ first_line p)) ∷ whole_lines (after_line p)
    by_test true h again = absurd (true≢false h)
    by_test false h again = ap (onto_first x) (again h)

unfinished_after : (u p : List ℕ) → has_feed u ≡ false → has_feed p ≡ true → unfinished (u ++ p) ≡ unfinished p
unfolding has_feed unfinished
unfinished_after [] p h f = refl
unfinished_after (x ∷ u) p h f = by_test (eqb x feed) h (λ k. unfinished_after u p k f)
  where
    by_test : (b : Bool) → (b || has_feed u) ≡ false → (has_feed u ≡ false → unfinished (u ++ p) ≡ unfinished p)
        → cond (b || has_feed (u ++ p)) (unfinished (u ++ p)) (x ∷ (u ++ p)) ≡ unfinished p
    by_test true h again = absurd (true≢false h)
    by_test false h again =
        ap (λ (t : Bool). cond t (unfinished (u ++ p)) (x ∷ (u ++ p))) (feed_append u p ∙ ap (λ (t : Bool). t || has_feed p) h ∙ f) ∙ again h

-- ---- what is kept stands for the unfinished line

module _ (u p : List ℕ) (none : has_feed u ≡ false) where
  none_cut : has_feed (take longest_kept u) ≡ false
  none_cut = cut_none longest_kept u none

  both_none : has_feed p ≡ false → (l : List ℕ) → has_feed l ≡ false → has_feed (l ++ p) ≡ false
  both_none f l h = feed_append l p ∙ ap (λ (t : Bool). t || has_feed p) h ∙ f

  same_frames : frames_in (take longest_kept u ++ p) ≡ frames_in (u ++ p)
  unfolding frames_in
  same_frames = by_test (has_feed p) refl
    where
      by_test : (b : Bool) → has_feed p ≡ b → map frame (whole_lines (take longest_kept u ++ p)) ≡ map frame (whole_lines (u ++ p))
      by_test true f =
          ap (map frame) (whole_after (take longest_kept u) p none_cut f)
          ∙ ap (λ (x : Frame). x ∷ map frame (whole_lines (after_line p))) (cut_frame u (first_line p))
          ∙ sym (ap (map frame) (whole_after u p none f))
      by_test false f =
          ap (map frame) (whole_none (take longest_kept u ++ p) (both_none f (take longest_kept u) none_cut))
          ∙ sym (ap (map frame) (whole_none (u ++ p) (both_none f u none)))

  same_kept : kept (take longest_kept u ++ p) ≡ take longest_kept (unfinished (u ++ p))
  unfolding kept
  same_kept = by_test (has_feed p) refl
    where
      by_test : (b : Bool) → has_feed p ≡ b → take longest_kept (unfinished (take longest_kept u ++ p)) ≡ take longest_kept (unfinished (u ++ p))
      by_test true f = ap (take longest_kept) (unfinished_after (take longest_kept u) p none_cut f ∙ sym (unfinished_after u p none f))
      by_test false f =
          ap (take longest_kept) (unfinished_none (take longest_kept u ++ p) (both_none f (take longest_kept u) none_cut))
          ∙ cut_twice longest_kept u p
          ∙ sym (ap (take longest_kept) (unfinished_none (u ++ p) (both_none f u none)))

-- ---- the law

frames_append : (xs ys : List (List ℕ)) → map frame (xs ++ ys) ≡ map frame xs ++ map frame ys
frames_append [] ys = refl
frames_append (x ∷ xs) ys = ap (λ (fs : List Frame). frame x ∷ fs) (frames_append xs ys)

pub answers_append : (ws : List ℕ) (xs ys : List Frame) → answers ws (xs ++ ys) ≡ answers ws xs ++ answers (words_after ws xs) ys
unfolding answers words_after
answers_append ws [] ys = refl
answers_append ws (x ∷ xs) ys =
    ap (λ (l : List ℕ). answer_line (replied ws x).answer ++ l) (answers_append (replied ws x).words xs ys)
    ∙ sym (append_assoc (answer_line (replied ws x).answer) _ _)

pub after_append : (ws : List ℕ) (xs ys : List Frame) → words_after ws (xs ++ ys) ≡ words_after (words_after ws xs) ys
unfolding words_after
after_append ws [] ys = refl
after_append ws (x ∷ xs) ys = after_append (replied ws x).words xs ys

-- The frames of a text and a piece more: those of the text, and those of what is kept of it with the piece.
pub frames_on : (t p : List ℕ) → frames_in (t ++ p) ≡ frames_in t ++ frames_in (kept t ++ p)
unfolding frames_in kept
frames_on t p =
    ap (map frame) (whole_append t p) ∙ frames_append (whole_lines t) (whole_lines (unfinished t ++ p))
    ∙ ap (λ (fs : List Frame). map frame (whole_lines t) ++ fs) (sym (same_frames (unfinished t) p (unfinished_has_none t)))

pub kept_on : (t p : List ℕ) → kept (t ++ p) ≡ kept (kept t ++ p)
unfolding kept
kept_on t p = ap (take longest_kept) (unfinished_append t p) ∙ sym (same_kept (unfinished t) p (unfinished_has_none t))

last_alone : (u : List ℕ) → last_frame (take longest_kept u) ≡ map frame (last_line u)
unfolding last_frame
last_alone [] = refl
last_alone (x ∷ u) =
    ap (λ (f : Frame). f ∷ []) (ap frame (sym (append-nil (take longest_kept (x ∷ u)))) ∙ cut_frame (x ∷ u) [] ∙ ap frame (append-nil (x ∷ u)))

-- All frames of a text: those of its whole lines, and that of what is kept.
pub frames_at_end : (t : List ℕ) → frames_of t ≡ frames_in t ++ last_frame (kept t)
unfolding frames_in kept
frames_at_end t =
    ap (map frame) (lines_in_two t) ∙ frames_append (whole_lines t) (last_line (unfinished t))
    ∙ ap (λ (fs : List Frame). map frame (whole_lines t) ++ fs) (sym (last_alone (unfinished t)))
