-- For any text, what the program prints is what its calls answer, and demands 2 and 3 hold wherever a line is printed.
use Rattle.std.specs.Prelude.{◌≡◌, refl, Bool, true, false, cond, List, [], ◌∷◌, ◌++◌, map, ℕ, zero, suc, ◌<◌}
use Rattle.std.proofs.Common.{ap, ◌∙◌, inl, inr, arith}
use Rattle.std.proofs.Math.Path.{subst}
use Rattle.definitions.specs.Calls.{Call, Result, outcome}
use Rattle.frames.specs.declared.Frame.{Frame}
use Rattle.frames.specs.declared.Frame.TheVariants.{Bad}
use Rattle.frames.specs.Frames.{operation, argument, asked, well_formed, frame}
use Rattle.frames.specs.FrameLaws.{argument_fits}
use Rattle.frames.specs.Lines.{lines_of}
use Rattle.frames.specs.AnswerLines.{answer_line}
use Rattle.text.specs.Replies.{replied, answers, lent}
use Rattle.text.specs.BeforeMake.{until_made}
use Rattle.history.specs.Notes.{words_after, RunCall}
use Rattle.reached.proofs.Run.{size_of, typed_size}
use Rattle.order.specs.LastMake.{NoneMade, Standing, next_call}
use Rattle.printed.specs.Printed.{Asks, make, register, v_read, v_cas, take_snapshot, read_snapshot, total, step, Known, not_made, since_made, Answered, at_the_end, a_call, a_bad_frame, AsPromised}

-- until a make is accepted the words are as they were lent
still_lent : (cs : List Call) → NoneMade lent cs → words_after lent cs ≡ lent
unfolding words_after
still_lent [] h = refl
still_lent (x ∷ cs) h =
    let e : words_after lent cs ≡ lent = still_lent cs h.1 in
    ap (λ (ws : List ℕ). (outcome ws x).words) e ∙ until_made 16384 x (subst (λ (ws : List ℕ). RunCall ws x) e h.0).no_make

known : (cs : List Call) → Standing lent cs → Known cs
known cs (inl h) = not_made h (still_lent cs h)
known cs (inr h) = since_made h

-- ---- what a line asks for: a call whose arguments are numbers of their types, or nothing

data Asked : Frame → Type 0 where
  for_call : (f : Frame) (x : Call) → Asks f x → size_of x < 4294967296 → Asked f
  for_none : Asked Bad

asks : (o : ℕ) (a : ℕ → ℕ) → a 1 < 4294967296 → Asked (asked o a)
asks zero a h = for_none
asks (suc zero) a h = for_call _ _ (make (a 0) (a 1) (a 2) (a 3) (a 4)) (omega arith)
asks (suc (suc zero)) a h = for_call _ _ (register (a 0) (a 1)) h
asks (suc (suc (suc zero))) a h = for_call _ _ (v_read (a 0) (a 1)) (omega arith)
asks (suc (suc (suc (suc zero)))) a h = for_call _ _ (v_cas (a 0) (a 1) (a 2) (a 3)) (omega arith)
asks (suc (suc (suc (suc (suc zero))))) a h = for_call _ _ (take_snapshot (a 0)) (omega arith)
asks (suc (suc (suc (suc (suc (suc zero)))))) a h = for_call _ _ (read_snapshot (a 0) (a 1) (a 2)) (omega arith)
asks (suc (suc (suc (suc (suc (suc (suc zero))))))) a h = for_call _ _ (total (a 0) (a 1) (a 2)) (omega arith)
asks (suc (suc (suc (suc (suc (suc (suc (suc zero)))))))) a h = for_call _ _ (step (a 0)) (omega arith)
asks (suc (suc (suc (suc (suc (suc (suc (suc (suc o))))))))) a h = for_none

line_asks : (line : List ℕ) → Asked (frame line)
unfolding frame
line_asks line = by_test (well_formed (operation line) line)
  where
    by_test : (b : Bool) → Asked (cond b (asked (operation line) (argument line)) Bad)
    by_test true = asks (operation line) (argument line) (argument_fits line 1)
    by_test false = for_none

-- ---- frame by frame

-- a frame comes to what its call comes to
same_result : (ws : List ℕ) (f : Frame) (x : Call) → Asks f x → outcome ws x ≡ replied ws f
unfolding replied
same_result ws _ _ (make p m n q c) = refl
same_result ws _ _ (register v s) = refl
same_result ws _ _ (v_read w i) = refl
same_result ws _ _ (v_cas w i old new) = refl
same_result ws _ _ (take_snapshot w) = refl
same_result ws _ _ (read_snapshot w i h) = refl
same_result ws _ _ (total w q h) = refl
same_result ws _ _ (step w) = refl

-- the answers to frames after calls are right
abbrev Right : List Frame → List Call → Type 0
Right fs cs = Answered cs fs (answers (words_after lent cs) fs)

module _ (fs : List Frame) (rest : (cs : List Call) → Standing lent cs → Right fs cs) (cs : List Call) (h : Standing lent cs) where
  one_frame : (f : Frame) → Asked f → Right (f ∷ fs) cs
  unfolding answers replied words_after
  one_frame _ (for_call f x a b) =
      subst (λ (r : Result). Answered cs (f ∷ fs) (answer_line r.answer ++ answers r.words fs)) (same_result (words_after lent cs) f x a)
      (a_call (known cs h) f x a (rest (x ∷ cs) (next_call lent cs h x (typed_size x b))))
  one_frame _ for_none = a_bad_frame (known cs h) (rest cs h)

all_frames : (lines : List (List ℕ)) (cs : List Call) → Standing lent cs → Right (map frame lines) cs
unfolding answers
all_frames [] cs h = at_the_end (known cs h)
all_frames (l ∷ lines) cs h = one_frame (map frame lines) (all_frames lines) cs h (frame l) (line_asks l)

-- From the bytes of the schedule program to the paper.
pub printed_as_promised : (text : List ℕ) → AsPromised text
unfolding words_after
printed_as_promised text = all_frames (lines_of text) [] (inl tt)
