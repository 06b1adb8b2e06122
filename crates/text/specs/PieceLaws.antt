-- Laws of a piece: bytes moved to the front, all whole lines answered, and what is kept.
use Rattle.std.specs.Prelude.{◌≡◌, refl, ℕ, zero, suc, ◌+◌, ◌*◌, ◌-◌, ◌<◌, ◌≤◌, Bool, true, false, cond, List, [], ◌∷◌, ◌++◌, map, eqb, take, drop, get_or, set}
use Rattle.std.proofs.Math.Path.{ap, sym}
use Rattle.std.proofs.Common.{◌∙◌, append-nil, zero-add, add-one, arith, length-append, length-take, get_or-drop, get_or-append-add, take_all}
use Rattle.std.proofs.Math.ListN.{length, length-drop}
use Rattle.std.proofs.lemmas.List.{length-map}
use Rattle.std.proofs.lemmas.List.Edits.{sets, take-paste}
use Rattle.std.proofs.Math.Seq.{paste, paste-suc, length-take-le, take-take}
use Rattle.frames.specs.declared.Frame.{Frame}
use Rattle.frames.specs.Lines.{feed, has_feed, after_line, onto_first, whole_lines, unfinished, last_line}
use Rattle.frames.specs.LineLaws.{whole_feed, unfinished_feed, unfinished_none}
use Rattle.frames.specs.Frames.{frame}
use Rattle.frames.specs.AnswerLaws.{answer_line_length}
use Rattle.text.specs.declared.Fed.{Fed}
use Rattle.text.specs.declared.Kept.{Kept}
use Rattle.text.specs.Replies.{replied, answers, words_after}
use Rattle.text.specs.Feeding.{room_in, frames_up_to, left_after, Feeding, kept, frames_in, last_frame, Piece, Last}
use Rattle.frames.specs.AnswerLines.{answer_length, answer_line}

-- ---- moving to the front, byte by byte

module _ (l : List ℕ) (from count : ℕ) (fits : from + count ≤ length l) where
  not_yet_moved : (k : ℕ) → k < count → get_or (paste l 0 (drop from l) k) (from + k) 0 ≡ get_or (drop from l) k 0
  not_yet_moved k h =
      let front : length (take k (drop from l)) ≡ k = length-take-le k (drop from l) (omega (arith, length-drop from l)) in
      let place : from + k ≡ length (take k (drop from l)) + from = omega arith in
      let same : 0 + k + from ≡ from + k = omega arith in
      ap (λ (n : ℕ). get_or (paste l 0 (drop from l) k) n 0) place
      ∙ get_or-append-add (take k (drop from l)) (drop (0 + k) l) from 0
      ∙ get_or-drop (0 + k) l from 0
      ∙ ap (λ (n : ℕ). get_or l n 0) same
      ∙ sym (get_or-drop from l k 0)

  pub moved_on : (m : List ℕ) (k : ℕ) → k < count → m ≡ paste l 0 (drop from l) k → set m k (get_or m (from + k) 0) ≡ paste l 0 (drop from l) (k + 1)
  moved_on m k h e =
      ap (λ (x : List ℕ). set x k (get_or x (from + k) 0)) e
      ∙ ap (λ (v : ℕ). set (paste l 0 (drop from l) k) k v) (not_yet_moved k h)
      ∙ ap (λ (n : ℕ). set (paste l 0 (drop from l) k) n (get_or (drop from l) k 0)) (sym (zero-add k))
      ∙ paste-suc l 0 (drop from l) k 0 (omega arith) (omega (arith, length-drop from l))
      ∙ ap (paste l 0 (drop from l)) (sym (add-one k))

-- ---- an output with room for as many answers as the text has bytes has room for all of them

onto_length : (x : ℕ) (ls : List (List ℕ)) → length (onto_first x ls) ≡ length ls
onto_length x [] = refl
onto_length x (l ∷ ls) = refl

whole_count : (t : List ℕ) → length (whole_lines t) ≤ length t
unfolding whole_lines
whole_count [] = omega arith
whole_count (x ∷ t) = by_test (eqb x feed) (whole_count t)
  where
    by_test : (b : Bool) → length (whole_lines t) ≤ length t → length (cond b ([] ∷ whole_lines t) (onto_first x (whole_lines t))) ≤ suc (length t)
    by_test true h = omega arith
    by_test false h = omega (arith, onto_length x (whole_lines t))

all_answered : (k : ℕ) (t : List ℕ) → length (whole_lines t) ≤ k → frames_up_to k t ≡ frames_in t
unfolding frames_up_to frames_in
all_answered k t h = take_all k (map frame (whole_lines t)) (omega (arith, length-map (whole_lines t) frame))

all_left : (k : ℕ) (t : List ℕ) → length (whole_lines t) ≤ k → left_after k t ≡ unfinished t
unfolding left_after
all_left zero t h = by_test (has_feed t) refl
  where
    by_test : (b : Bool) → has_feed t ≡ b → t ≡ unfinished t
    by_test true e = absurd (omega (arith, ap length (whole_feed t e)))
    by_test false e = sym (unfinished_none t e)
all_left (suc k) t h = by_test (has_feed t) refl (λ less. all_left k (after_line t) less)
  where
    by_test : (b : Bool) → has_feed t ≡ b → (length (whole_lines (after_line t)) ≤ k → left_after k (after_line t) ≡ unfinished (after_line t))
        → cond b (left_after k (after_line t)) t ≡ unfinished t
    by_test true e again = again (omega (arith, ap length (whole_feed t e))) ∙ sym (unfinished_feed t e)
    by_test false e again = sym (unfinished_none t e)

-- ---- a piece

drop_take : (n m : ℕ) (l : List ℕ) → drop n (take m l) ≡ take (m - n) (drop n l)
drop_take zero m l = ap (λ (k : ℕ). take k l) (minus_zero m)
  where
    minus_zero : (m : ℕ) → m ≡ m - 0
    minus_zero m = omega arith
drop_take (suc n) zero l = sym (ap (λ (k : ℕ). take k (drop (suc n) l)) (zero_minus (suc n)))
  where
    zero_minus : (k : ℕ) → 0 - k ≡ 0
    zero_minus k = omega arith
drop_take (suc n) (suc m) [] = sym (take_all (suc m - suc n) [] (omega arith))
drop_take (suc n) (suc m) (x ∷ l) = drop_take n m l ∙ ap (λ (k : ℕ). take k (drop n l)) (both_less n m)
  where
    both_less : (n m : ℕ) → m - n ≡ suc m - suc n
    both_less n m = omega arith

module _ (text : List ℕ) (count : ℕ) (ws out : List ℕ) (fed : Fed) (ws' out' : List ℕ) (inside : count ≤ length text) (room : answer_length * length text ≤ length out)
    (done : Feeding (take count text) ws out fed ws' out') where
  counted : length (take count text) ≡ count
  counted = length-take-le count text inside

  pub used_within : fed.used ≤ count
  used_within = omega (arith, done.within, counted)

  enough : length (whole_lines (take count text)) ≤ room_in out
  enough = omega (arith, whole_count (take count text), counted)

  all_frames : frames_up_to (room_in out) (take count text) ≡ frames_in (take count text)
  all_frames = all_answered (room_in out) (take count text) enough

  rest_is : take (count - fed.used) (drop fed.used text) ≡ unfinished (take count text)
  rest_is = sym (drop_take fed.used count text) ∙ done.rest ∙ all_left (room_in out) (take count text) enough

  -- what was moved to the front is what is to be kept
  piece_done : (held : ℕ) (text' : List ℕ) → held ≤ count - fed.used → text' ≡ paste text 0 (drop fed.used text) held
      → take held (drop fed.used text) ≡ kept (take count text)
      → Piece (take count text) ws out (record { held = held; written = fed.written }) text' ws' out'
  piece_done held text' h e k =
      let less : held ≤ length (drop fed.used text) = omega (arith, length-drop fed.used text, used_within) in
      record {
        writes = done.writes ∙ ap (λ (fs : List Frame). sets out 0 (answers ws fs)) all_frames;
        counts = done.counts ∙ ap (λ (fs : List Frame). length (answers ws fs)) all_frames;
        leaves = done.leaves ∙ ap (words_after ws) all_frames;
        keeps =
            ap (take held) e ∙ ap (λ (n : ℕ). take n (paste text 0 (drop fed.used text) held)) (sym (zero-add held))
            ∙ take-paste text 0 (drop fed.used text) held (omega arith) less ∙ k;
        holds = sym (ap length (sym k) ∙ length-take-le held (drop fed.used text) less);
      }

  pub piece_long : (text' : List ℕ) → 65 < count - fed.used → text' ≡ paste text 0 (drop fed.used text) 65
      → Piece (take count text) ws out (record { held = 65; written = fed.written }) text' ws' out'
  unfolding kept
  piece_long text' h e =
      piece_done 65 text' (omega arith) e (sym (ap (take 65) (sym rest_is) ∙ take-take 65 (count - fed.used) (drop fed.used text) (omega arith)))

  pub piece_short : (text' : List ℕ) → count - fed.used ≤ 65 → text' ≡ paste text 0 (drop fed.used text) (count - fed.used)
      → Piece (take count text) ws out (record { held = count - fed.used; written = fed.written }) text' ws' out'
  unfolding kept
  piece_short text' h e =
      let few : length (unfinished (take count text)) ≤ 65
      = omega (arith, ap length rest_is, length-take-le (count - fed.used) (drop fed.used text) (omega (arith, length-drop fed.used text, used_within))) in
      piece_done (count - fed.used) text' (omega arith) e (rest_is ∙ sym (take_all 65 (unfinished (take count text)) few))

-- ---- the last line

pub last_none : (t ws out : List ℕ) → length t ≡ 0 → Last t ws out 0 ws out
unfolding last_frame answers words_after
last_none [] ws out h = record { writes = refl; counts = refl; leaves = refl }
last_none (x ∷ t) ws out h = absurd (omega arith)

pub last_one : (t ws out ws' out' : List ℕ) → (length t ≡ 0 → ⊥) → out' ≡ sets out 0 (answer_line (replied ws (frame t)).answer) → ws' ≡ (replied ws (frame t)).words
    → Last t ws out answer_length ws' out'
unfolding last_frame answers words_after
last_one [] ws out ws' out' h e d = absurd (h refl)
last_one (x ∷ t) ws out ws' out' h e d =
    let line = answer_line (replied ws (frame (x ∷ t))).answer in
    record {
      writes = e ∙ ap (sets out 0) (sym (append-nil line));
      counts = sym (ap length (append-nil line) ∙ answer_line_length (replied ws (frame (x ∷ t))).answer);
      leaves = d;
    }

-- ---- for the program: what is written fits the output, and little is kept

answers_length : (ws : List ℕ) (fs : List Frame) → length (answers ws fs) ≡ answer_length * length fs
unfolding answers
answers_length ws [] = refl
answers_length ws (f ∷ fs) =
    let line = answer_line (replied ws f).answer in
    let more = answers (replied ws f).words fs in
    let one : length (line ++ more) ≡ answer_length + answer_length * length fs
    = length-append line more ∙ ap (λ (n : ℕ). n + length more) (answer_line_length (replied ws f).answer)
    ∙ ap (λ (n : ℕ). answer_length + n) (answers_length (replied ws f).words fs) in
    one ∙ times_suc (length fs)
  where
    times_suc : (n : ℕ) → answer_length + answer_length * n ≡ answer_length * suc n
    times_suc n = omega arith

pub written_fits : (t ws out : List ℕ) (r : Kept) (text' ws' out' : List ℕ) → Piece t ws out r text' ws' out' → answer_length * length t ≤ length out → r.written ≤ length out
unfolding frames_in
written_fits t ws out r text' ws' out' p h =
    omega (arith, p.counts, answers_length ws (map frame (whole_lines t)), length-map (whole_lines t) frame, whole_count t)

pub little_held : (t ws out : List ℕ) (r : Kept) (text' ws' out' : List ℕ) → Piece t ws out r text' ws' out' → r.held ≤ 65
unfolding kept
little_held t ws out r text' ws' out' p = omega (arith, p.holds, length-take 65 (unfinished t))

pub last_fits : (t ws out : List ℕ) (r : ℕ) (ws' out' : List ℕ) → Last t ws out r ws' out' → r ≤ answer_length
unfolding last_frame
last_fits t ws out r ws' out' p = omega (arith, p.counts, answers_length ws (map frame (last_line t)), length-map (last_line t) frame, one_at_most t)
  where
    one_at_most : (t : List ℕ) → length (last_line t) ≤ 1
    one_at_most [] = omega arith
    one_at_most (x ∷ t) = omega arith
