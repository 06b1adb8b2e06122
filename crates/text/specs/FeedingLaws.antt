-- Laws of feeding: what the line reader's answer tells of a text, and the loop of the text function, turn by turn.
use Rattle.std.specs.Prelude.{◌≡◌, refl, ℕ, zero, suc, ◌+◌, ◌*◌, ◌-◌, ◌<◌, ◌≤◌, Bool, true, false, cond, List, [], ◌∷◌, ◌++◌, map, length, take, drop, get_or}
use Rattle.std.proofs.Common.{ap, sym, ◌∙◌, subst, zero-add, arith, length-append, length-drop, take_at, drop-drop}
use Rattle.std.proofs.Math.Nat.{sub_self}
use Rattle.std.proofs.lemmas.List.Edits.{sets}
use Rattle.std.proofs.Math.Seq.{length-sets, drop-append-add}
use Rattle.std.proofs.lemmas.List.{get_or_at}
use Rattle.frames.specs.declared.Frame.{Frame}
use Rattle.frames.specs.Lines.{feed, line_length, has_feed, first_line, after_line}
use Rattle.frames.specs.LineLaws.{split_feed, whole_feed, whole_none, none_there, after_by}
use Rattle.frames.specs.Frames.{frame}
use Rattle.frames.specs.AnswerLines.{answer_length, answer_line}
use Rattle.frames.specs.AnswerLaws.{sets_then, answer_line_length}
use Rattle.text.specs.Replies.{replied, answers, words_after}
use Rattle.text.specs.Feeding.{room_in, frames_up_to, left_after, Feeding}

-- ---- the line reader's answer: as many bytes as the text is longer than what it hands back

abbrev pub taken : List ℕ → ℕ
taken t = length t - length (after_line t)

length_split : (t : List ℕ) → has_feed t ≡ true → length t ≡ length (first_line t) + suc (length (after_line t))
length_split t h = ap length (split_feed t h) ∙ length-append (first_line t) (feed ∷ after_line t)

pub taken_line : (t : List ℕ) → has_feed t ≡ true → taken t - 1 ≡ length (first_line t)
taken_line t h = omega (arith, length_split t h)

pub line_taken : (t : List ℕ) → has_feed t ≡ true → take (taken t - 1) t ≡ first_line t
line_taken t h = ap (take (taken t - 1)) (split_feed t h) ∙ take_at (first_line t) (feed ∷ after_line t) (taken t - 1) (sym (taken_line t h))

feed_at_end : (t : List ℕ) → has_feed t ≡ true → get_or t (taken t - 1) 0 ≡ feed
feed_at_end t h =
    ap (λ (l : List ℕ). get_or l (taken t - 1) 0) (split_feed t h) ∙ get_or_at (first_line t) feed (after_line t) 0 (taken t - 1) (sym (taken_line t h))

pub feed_found : (t : List ℕ) → 0 < taken t → get_or t (taken t - 1) 0 ≡ feed → has_feed t ≡ true
feed_found t h e = by_test (has_feed t) refl
  where
    by_test : (f : Bool) → has_feed t ≡ f → f ≡ true
    by_test true d = refl
    by_test false d = absurd (none_there t (taken t - 1) d (omega arith) e)

pub feed_missing : (t : List ℕ) → (get_or t (taken t - 1) 0 ≡ feed → ⊥) → has_feed t ≡ false
feed_missing t h = by_test (has_feed t) refl
  where
    by_test : (f : Bool) → has_feed t ≡ f → f ≡ false
    by_test true d = absurd (h (feed_at_end t d))
    by_test false d = refl

pub nothing_taken : (t : List ℕ) → taken t ≡ 0 → has_feed t ≡ false
nothing_taken t e = by_test (has_feed t) refl
  where
    by_test : (f : Bool) → has_feed t ≡ f → f ≡ false
    by_test true d = absurd (omega (arith, length_split t d))
    by_test false d = refl

-- ---- the frames of a text and what is left after them, one line at a time

up_to_line : (k : ℕ) (t : List ℕ) → has_feed t ≡ true → frames_up_to (suc k) t ≡ frame (first_line t) ∷ frames_up_to k (after_line t)
unfolding frames_up_to
up_to_line k t h = ap (λ (ls : List (List ℕ)). take (suc k) (map frame ls)) (whole_feed t h)

up_to_none : (k : ℕ) (t : List ℕ) → has_feed t ≡ false → frames_up_to k t ≡ []
unfolding frames_up_to
up_to_none zero t h = refl
up_to_none (suc k) t h = ap (λ (ls : List (List ℕ)). take (suc k) (map frame ls)) (whole_none t h)

up_to_zero : (t : List ℕ) → frames_up_to 0 t ≡ []
unfolding frames_up_to
up_to_zero t = refl

left_line : (k : ℕ) (t : List ℕ) → has_feed t ≡ true → left_after (suc k) t ≡ left_after k (after_line t)
unfolding left_after
left_line k t h = ap (λ (f : Bool). cond f (left_after k (after_line t)) t) h

left_none : (k : ℕ) (t : List ℕ) → has_feed t ≡ false → left_after k t ≡ t
unfolding left_after
left_none zero t h = refl
left_none (suc k) t h = ap (λ (f : Bool). cond f (left_after k (after_line t)) t) h

left_zero : (t : List ℕ) → left_after 0 t ≡ t
unfolding left_after
left_zero t = refl

answers_one : (ws : List ℕ) (f : Frame) (fs : List Frame) → answers ws (f ∷ fs) ≡ answer_line (replied ws f).answer ++ answers (replied ws f).words fs
unfolding answers
answers_one ws f fs = refl

answers_none : (ws : List ℕ) → answers ws [] ≡ []
unfolding answers
answers_none ws = refl

after_one : (ws : List ℕ) (f : Frame) (fs : List Frame) → words_after ws (f ∷ fs) ≡ words_after (replied ws f).words fs
unfolding words_after
after_one ws f fs = refl

after_nothing : (ws : List ℕ) → words_after ws [] ≡ ws
unfolding words_after
after_nothing ws = refl

-- ---- the loop: t is left of the text, ws and out are the words and the output as they are, at is the next place, and there is room for so many answers

pub record Going (text ws₀ out₀ t ws out : List ℕ) (at room : ℕ) : Type 0 where
  pub fits : at + answer_length * room ≤ length out
  pub output_long : length out ≡ length out₀
  pub words_long : length ws ≡ length ws₀
  pub suffix : t ≡ drop (length text - length t) text
  pub shorter : length t ≤ length text
  pub writes : sets out at (answers ws (frames_up_to room t)) ≡ sets out₀ 0 (answers ws₀ (frames_up_to (room_in out₀) text))
  pub counts : at + length (answers ws (frames_up_to room t)) ≡ length (answers ws₀ (frames_up_to (room_in out₀) text))
  pub leaves : words_after ws (frames_up_to room t) ≡ words_after ws₀ (frames_up_to (room_in out₀) text)
  pub rest : left_after room t ≡ left_after (room_in out₀) text

pub going_start : (text ws out : List ℕ) → Going text ws out text ws out 0 (room_in out)
going_start text ws out = record {
  fits = omega arith;
  output_long = refl;
  words_long = refl;
  suffix = sym (ap (λ (n : ℕ). drop n text) (sub_self (length text)));
  shorter = omega arith;
  writes = refl;
  counts = zero-add _;
  leaves = refl;
  rest = refl;
}

drop_taken : (t : List ℕ) → has_feed t ≡ true → drop (taken t) t ≡ after_line t
drop_taken t h =
    ap (λ (n : ℕ). drop n t) (taken_more t h) ∙ ap (drop (length (first_line t) + 1)) (split_feed t h) ∙ drop-append-add (first_line t) (feed ∷ after_line t) 1
  where
    taken_more : (t : List ℕ) → has_feed t ≡ true → taken t ≡ length (first_line t) + 1
    taken_more t h = omega (arith, length_split t h)

suffix_on : (text t : List ℕ) → has_feed t ≡ true → length t ≤ length text
    → t ≡ drop (length text - length t) text → after_line t ≡ drop (length text - length (after_line t)) text
suffix_on text t h short e =
    let there : length text - length t + taken t ≡ length text - length (after_line t) = omega (arith, length_split t h) in
    sym (drop_taken t h) ∙ ap (drop (taken t)) e ∙ drop-drop (taken t) (length text - length t) text ∙ ap (λ (n : ℕ). drop n text) there

-- one line more is answered
pub going_on : (text ws₀ out₀ t ws out : List ℕ) (at room : ℕ) (ws' out' : List ℕ) → Going text ws₀ out₀ t ws out at room → 0 < room → has_feed t ≡ true
    → out' ≡ sets out at (answer_line (replied ws (frame (first_line t))).answer) → ws' ≡ (replied ws (frame (first_line t))).words → length ws' ≡ length ws
    → Going text ws₀ out₀ (after_line t) ws' out' (at + answer_length) (room - 1)
going_on text ws₀ out₀ t ws out at zero ws' out' g h f e d k = absurd (omega arith)
going_on text ws₀ out₀ t ws out at (suc room) ws' out' g h f e d k =
    let less : suc room - 1 ≡ room = omega arith in
    let answer = (replied ws (frame (first_line t))).answer in
    let left = answers ws' (frames_up_to room (after_line t)) in
    let same : answers ws (frames_up_to (suc room) t) ≡ answer_line answer ++ left
    = ap (answers ws) (up_to_line room t f) ∙ answers_one ws _ _
    ∙ ap (λ (l : List ℕ). answer_line answer ++ answers l (frames_up_to room (after_line t))) (sym d) in
    let long : length out' ≡ length out = ap length e ∙ length-sets out at (answer_line answer) in
    subst (λ (r : ℕ). Going text ws₀ out₀ (after_line t) ws' out' (at + answer_length) r) (sym less)
    (record {
      fits = omega (arith, g.fits);
      output_long = long ∙ g.output_long;
      words_long = k ∙ g.words_long;
      suffix = suffix_on text t f g.shorter g.suffix;
      shorter = omega (arith, g.shorter, length_split t f);
      writes =
          ap (λ (l : List ℕ). sets l (at + answer_length) left) e
          ∙ ap (λ (n : ℕ). sets (sets out at (answer_line answer)) (at + n) left) (sym (answer_line_length answer))
          ∙ sets_then out at (answer_line answer) left
          ∙ ap (sets out at) (sym same)
          ∙ g.writes;
      counts = omega (arith, g.counts, ap length same, length-append (answer_line answer) left, answer_line_length answer);
      leaves =
          ap (λ (l : List ℕ). words_after l (frames_up_to room (after_line t))) d
          ∙ sym (after_one ws _ _) ∙ ap (words_after ws) (sym (up_to_line room t f)) ∙ g.leaves;
      rest = sym (left_line room t f) ∙ g.rest;
    })

-- the same, by what the code has tested and called: what the line reader handed back is r
pub going_line : (text ws₀ out₀ t ws out : List ℕ) (at room : ℕ) (r ws' out' : List ℕ) → Going text ws₀ out₀ t ws out at room → 0 < room → r ≡ after_line t
    → (length t - length r ≡ 0 → ⊥) → get_or t (length t - length r - 1) 0 ≡ feed
    → out' ≡ sets out at (answer_line (replied ws (frame (take (length t - length r - 1) t))).answer)
    → ws' ≡ (replied ws (frame (take (length t - length r - 1) t))).words → length ws' ≡ length ws
    → Going text ws₀ out₀ r ws' out' (at + answer_length) (room - 1)
going_line text ws₀ out₀ t ws out at room r ws' out' g h e some there o w k =
    let n : length t - length r ≡ taken t = ap (λ (l : List ℕ). length t - length l) e in
    let f : has_feed t ≡ true = feed_found t (omega arith) (ap (λ (m : ℕ). get_or t (m - 1) 0) (sym n) ∙ there) in
    let line : take (length t - length r - 1) t ≡ first_line t = ap (λ (m : ℕ). take (m - 1) t) n ∙ line_taken t f in
    subst (λ (l : List ℕ). Going text ws₀ out₀ l ws' out' (at + answer_length) (room - 1)) (sym e)
    (going_on text ws₀ out₀ t ws out at room ws' out' g h f
    (o ∙ ap (λ (l : List ℕ). sets out at (answer_line (replied ws (frame l)).answer)) line)
    (w ∙ ap (λ (l : List ℕ). (replied ws (frame l)).words) line) k)

pub after_within : (t : List ℕ) → length (after_line t) ≤ length t
after_within t = rw after_by (omega (arith, length-drop (suc (line_length t)) t))

-- nothing is left to answer
finished : (text ws₀ out₀ t ws out : List ℕ) (at room : ℕ) → Going text ws₀ out₀ t ws out at room → frames_up_to room t ≡ [] → left_after room t ≡ t
    → Feeding text ws₀ out₀ (record { used = length text - length t; written = at }) ws out
finished text ws₀ out₀ t ws out at room g e d =
    let none : answers ws (frames_up_to room t) ≡ [] = ap (answers ws) e ∙ answers_none ws in
    record {
      writes = sym (ap (sets out at) none) ∙ g.writes;
      counts = omega (arith, g.counts, ap length none);
      leaves = sym (ap (words_after ws) e ∙ after_nothing ws) ∙ g.leaves;
      rest = sym g.suffix ∙ sym d ∙ g.rest;
      within = omega arith;
    }

pub no_room_left : (text ws₀ out₀ t ws out : List ℕ) (at room : ℕ) → Going text ws₀ out₀ t ws out at room → room ≤ 0
    → Feeding text ws₀ out₀ (record { used = length text - length t; written = at }) ws out
no_room_left text ws₀ out₀ t ws out at room g h =
    let z : room ≡ 0 = omega arith in
    finished text ws₀ out₀ t ws out at room g (ap (λ (k : ℕ). frames_up_to k t) z ∙ up_to_zero t) (ap (λ (k : ℕ). left_after k t) z ∙ left_zero t)

pub no_line_left : (text ws₀ out₀ t ws out : List ℕ) (at room : ℕ) → Going text ws₀ out₀ t ws out at room → has_feed t ≡ false
    → Feeding text ws₀ out₀ (record { used = length text - length t; written = at }) ws out
no_line_left text ws₀ out₀ t ws out at room g h = finished text ws₀ out₀ t ws out at room g (up_to_none room t h) (left_none room t h)
