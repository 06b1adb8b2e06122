-- Turns one after the other: after each of them the words, what is kept and what was handed to write are those of the whole text that was read.
use Rattle.std.specs.Prelude.{◌≡◌, refl, Bool, true, false, Option, Result, Ok, Err, ℤ, pos, negsuc, take}
use Rattle.std.specs.Io.KnownBytes.{Consumes, Appends, IsAtEnd}
use Rattle.std.proofs.KnownBytes.{Consumes-nil, Appends-nil, Consumes-trans, Appends-trans}
use Rattle.std.proofs.Math.Path.{ap, sym, subst}
use Rattle.std.proofs.Common.{◌∙◌, inl, inr, true≢false, ltb-true, length-append, take_at}
use Prim.Native.Nat.{ℕ, suc, ◌+◌, ◌-◌, ◌<◌, ◌≤◌}
use mathlib.Core.List.{List, [], ◌∷◌, ◌++◌, append-nil}
use native.Mathlib.Omega.{arith}
use Rattle.std.specs.Int.Signed.{lt_z}
use Rattle.std.proofs.Math.ListN.{length}
use Rattle.std.proofs.lemmas.List.Edits.{sets, sets-eq}
use Rattle.frames.specs.declared.Frame.{Frame}
use Rattle.frames.specs.Lines.{whole_lines, unfinished}
use Rattle.text.specs.Replies.{answers, words_after, frames_of, lent, printed}
use Rattle.text.specs.Feeding.{kept, frames_in, last_frame, Piece, Last}
use Rattle.text.specs.PieceLaws.{written_fits, little_held, last_fits}
use Rattle.text.specs.Pieces.{answers_append, after_append, frames_on, kept_on, frames_at_end}
use Rattle.schedule.specs.declared.Failure.{Failure}
use Rattle.schedule.specs.declared.Failure.TheVariants.{Arguments, Unread, Unwritten, NobodyReads, TurnsSpent}
use Rattle.schedule.specs.Runs.{could_go_on, EndedBy, IfWritten, RanOn, goes_on_of, TurnAnswers, TakesTurn}
use Rattle.schedule.specs.Exchanges.{AsMany, Exchange, all_read, all_handed, AllGoOn, most_turns, Ends, input_ended, read_failed, write_failed, turns_spent, Ran}
use Rattle.schedule.specs.Turns.{Turn, out_length, After, unread, ended, went_on, Turned}

-- The program, which starts with the lent words: where the input ended, all that it handed to write is what is printed on the text.
pub program_prints : (r : Bool) (ws' : List ℕ) (run : Ran lent r ws') → run.last.got ≡ pos 0
    → all_handed (run.last ∷ run.before) ≡ printed (all_read (run.last ∷ run.before))
program_prints r ws' run g = by_ending r run.frames run.ends run.hands
  where
    none : length run.last.read ≡ 0
    none = subst (AsMany run.last.read) g run.last.as_many

    by_ending : (b : Bool) (fs : List Frame) → Ends run.last (length (run.last ∷ run.before)) (all_read (run.last ∷ run.before)) b fs
        → all_handed (run.last ∷ run.before) ≡ answers lent fs → all_handed (run.last ∷ run.before) ≡ printed (all_read (run.last ∷ run.before))
    by_ending b fs (input_ended e) h = h
    by_ending b fs (read_failed n e) h = absurd (true≢false (ap (λ (z : ℤ). lt_z z (pos 0)) (sym e ∙ g)))
    by_ending b fs (write_failed n e o) h = absurd (omega (arith, none, subst (AsMany run.last.read) e run.last.as_many))
    by_ending b fs (turns_spent s o m) h = absurd (omega (arith, none))

-- Between turns, from words ws₀, with so many turns left: the turns so far, of which each goes on.
pub record Session (ws₀ ws k : List ℕ) (left : ℕ) : Type 0 where
  pub turns : List Exchange
  pub each_goes_on : AllGoOn turns
  pub counts : length turns + left ≡ most_turns
  pub words : ws ≡ words_after ws₀ (frames_in (all_read turns))
  pub keeps : k ≡ kept (all_read turns)
  pub hands : all_handed turns ≡ answers ws₀ (frames_in (all_read turns))

pub session_start : (ws : List ℕ) → Session ws ws [] most_turns
unfolding all_read all_handed answers words_after frames_in kept whole_lines unfinished
session_start ws = record { turns = []; each_goes_on = tt; counts = omega arith; words = refl; keeps = refl; hands = refl }

-- what was put at the front of the output stands there
at_front : (xs out out' : List ℕ) (n : ℕ) → out' ≡ sets out 0 xs → n ≡ length xs → n ≤ length out → take n out' ≡ xs
at_front xs out out' n e c fits = ap (take n) (e ∙ sets-eq xs out 0 (omega arith)) ∙ take_at xs _ n (sym c)

nothing : (p : List ℕ) → length p ≡ 0 → p ≡ []
nothing [] e = refl
nothing (x ∷ p) e = absurd (omega arith)

module _ (ws₀ ws k : List ℕ) (left : ℕ) (s : Session ws₀ ws k left) where
  abbrev text : List ℕ
  text = all_read s.turns

  -- frames gs after those of the text
  words_on : (gs fs : List Frame) → fs ≡ frames_in text ++ gs → words_after ws gs ≡ words_after ws₀ fs
  words_on gs fs e =
      ap (λ (l : List ℕ). words_after l gs) s.words ∙ sym (after_append ws₀ (frames_in text) gs) ∙ ap (words_after ws₀) (sym e)

  answers_on : (gs fs : List Frame) (h : List ℕ) → fs ≡ frames_in text ++ gs → h ≡ answers ws gs → all_handed s.turns ++ h ≡ answers ws₀ fs
  answers_on gs fs h e a =
      ap (λ (l : List ℕ). all_handed s.turns ++ l) a
      ∙ ap (λ (l : List ℕ). l ++ answers ws gs) s.hands
      ∙ ap (λ (l : List ℕ). answers ws₀ (frames_in text) ++ answers l gs) s.words
      ∙ sym (answers_append ws₀ (frames_in text) gs) ∙ ap (answers ws₀) (sym e)

  piece_frames : (p : List ℕ) → frames_in (text ++ p) ≡ frames_in text ++ frames_in (k ++ p)
  piece_frames p = frames_on text p ∙ ap (λ (l : List ℕ). frames_in text ++ frames_in (l ++ p)) (sym s.keeps)

  last_frames : frames_of text ≡ frames_in text ++ last_frame k
  last_frames = frames_at_end text ∙ ap (λ (l : List ℕ). frames_in text ++ last_frame l) (sym s.keeps)

  -- a turn that read nothing
  same_text : (p : List ℕ) → p ≡ [] → text ++ p ≡ text
  same_text p e = ap (λ (l : List ℕ). text ++ l) e ∙ append-nil text

  -- one turn of the loop: it goes on, or the run ends
  module _ (out : List ℕ) (r : Turn) (bytes' ws' out' : List ℕ) (long : length out ≡ out_length) (more : 0 < left)
      (t : Turned k ws out r bytes' ws' out') where
    abbrev e : Exchange
    e = t.exchange

    handed_piece : Piece (k ++ e.read) ws out (record { held = r.held; written = r.written }) bytes' ws' out'
        → e.handed ≡ answers ws (frames_in (k ++ e.read))
    handed_piece piece =
        t.hands ∙ at_front _ out out' r.written piece.writes piece.counts
        (written_fits _ _ _ _ _ _ _ piece (omega (arith, length-append k e.read, t.in_buffer)))

    handed_last : Last k ws out r.written ws' out' → e.handed ≡ answers ws (last_frame k)
    handed_last l = t.hands ∙ at_front _ out out' r.written l.writes l.counts (omega (arith, last_fits _ _ _ _ _ _ l))

    -- the turns so far, and this one
    abbrev pub GoesOn : Type 0
    GoesOn = (next : Session ws₀ ws' (take r.held bytes') (left - 1)) × (next.turns ≡ e ∷ s.turns)

    goes_on : After e.got k e.read ws out r bytes' ws' out' → r.goes_on ≡ true → GoesOn
    unfolding all_read all_handed
    goes_on (unread n g o c w d) h = absurd (true≢false (sym h ∙ o))
    goes_on (ended g o l) h = absurd (true≢false (sym h ∙ o))
    goes_on (went_on n g piece) h =
        let some : length e.read ≡ suc n = subst (AsMany e.read) g e.as_many in (
          record {
            turns = e ∷ s.turns;
            each_goes_on = (omega arith, t.goes_on ∙ h, s.each_goes_on);
            counts = omega (arith, s.counts);
            words = piece.leaves ∙ words_on _ _ (piece_frames e.read);
            keeps = piece.keeps ∙ ap (λ (l : List ℕ). kept (l ++ e.read)) s.keeps ∙ sym (kept_on text e.read);
            hands = answers_on _ _ _ (piece_frames e.read) (handed_piece piece);
          },
          refl,
        )

    -- the run ends with this turn
    abbrev pub LeavesOff : Bool → Type 0
    LeavesOff b = (run : Ran ws₀ b ws') × (run.last ≡ e) × (run.before ≡ s.turns)

    ended_by : (b : Bool) (fs : List Frame) → Ends e (length (e ∷ s.turns)) (text ++ e.read) b fs
        → all_handed s.turns ++ e.handed ≡ answers ws₀ fs → ws' ≡ words_after ws₀ fs → LeavesOff b
    unfolding all_read all_handed
    ended_by b fs why h w = (
      record {
        before = s.turns;
        last = e;
        frames = fs;
        each_goes_on = s.each_goes_on;
        at_most = omega (arith, s.counts);
        ends = why;
        hands = h;
        leaves = w;
      },
      refl,
      refl,
    )

    leaves_off : After e.got k e.read ws out r bytes' ws' out' → r.goes_on ≡ false → LeavesOff false
    leaves_off (unread n g o c w d) h =
        let same : text ++ e.read ≡ text = same_text e.read (subst (AsMany e.read) g e.as_many) in
        let none : e.handed ≡ [] = t.hands ∙ ap (λ (m : ℕ). take m out') c in
        ended_by _ _ (read_failed n g)
        (ap (λ (l : List ℕ). all_handed s.turns ++ l) none ∙ append-nil _ ∙ s.hands ∙ ap (λ (l : List ℕ). answers ws₀ (frames_in l)) (sym same))
        (w ∙ s.words ∙ ap (λ (l : List ℕ). words_after ws₀ (frames_in l)) (sym same))
    leaves_off (ended g o l) h =
        let same : text ++ e.read ≡ text = same_text e.read (nothing e.read (subst (AsMany e.read) g e.as_many)) in
        ended_by _ _ (input_ended g)
        (answers_on _ _ _ last_frames (handed_last l) ∙ ap (λ (x : List ℕ). answers ws₀ (frames_of x)) (sym same))
        (l.leaves ∙ words_on _ _ last_frames ∙ ap (λ (x : List ℕ). words_after ws₀ (frames_of x)) (sym same))
    leaves_off (went_on n g piece) h =
        ended_by _ _ (write_failed n g (t.goes_on ∙ h))
        (answers_on _ _ _ (piece_frames e.read) (handed_piece piece)) (piece.leaves ∙ words_on _ _ (piece_frames e.read))

    pub next_turn : r.goes_on ≡ true → GoesOn
    next_turn h = goes_on t.after h

    pub last_turn : r.goes_on ≡ false → LeavesOff false
    last_turn h = leaves_off t.after h

-- all turns are spent
abbrev Spent : List ℕ → List ℕ → List Exchange → Type 0
Spent ws₀ ws es = (run : Ran ws₀ true ws) × (run.last ∷ run.before ≡ es) × (0 < length run.last.read)

spent : (ws₀ ws k : List ℕ) (left : ℕ) (s : Session ws₀ ws k left) → left ≤ 0 → Spent ws₀ ws s.turns
spent ws₀ ws k left s none = by_turns s.turns s.each_goes_on (omega (arith, s.counts)) s.words s.hands
  where
    by_turns : (es : List Exchange) → AllGoOn es → length es ≡ most_turns → ws ≡ words_after ws₀ (frames_in (all_read es))
        → all_handed es ≡ answers ws₀ (frames_in (all_read es)) → Spent ws₀ ws es
    by_turns [] on m w h = absurd (omega arith)
    by_turns (e ∷ es) on m w h = (
      record {
        before = es;
        last = e;
        frames = frames_in (all_read (e ∷ es));
        each_goes_on = on.2;
        at_most = omega arith;
        ends = turns_spent on.0 on.1 m;
        hands = h;
        leaves = w;
      },
      refl,
      on.0,
    )

pub no_turn_left : (ws₀ ws k : List ℕ) (left : ℕ) → Session ws₀ ws k left → left ≤ 0 → Ran ws₀ true ws
no_turn_left ws₀ ws k left s none = (spent ws₀ ws k left s none).0

-- ---- the same, with what the input gave and the output took

pub record Underway (r₀ r w₀ w : Option (List ℕ)) (ws₀ ws k : List ℕ) (left : ℕ) : Type 0 where
  pub session : Session ws₀ ws k left
  pub reads_on : Consumes r₀ r (all_read session.turns)
  pub appends : Appends w₀ w (all_handed session.turns)

pub underway_start : (r w : Option (List ℕ)) (ws k : List ℕ) → k ≡ [] → Underway r r w w ws ws k most_turns
unfolding session_start all_read all_handed
underway_start r w ws k e =
    subst (λ (l : List ℕ). Underway r r w w ws ws l most_turns) (sym e)
    (record { session = session_start ws; reads_on = Consumes-nil r; appends = Appends-nil w })

if_written : {T A B : Type 0} (x : Result T Failure) → (A → B) → IfWritten x A → IfWritten x B
if_written (Ok t) f a = f a
if_written (Err failure) f (inl h) = inl h
if_written (Err failure) f (inr a) = inr (f a)

-- what a turn's answer says of its read
pos_negsuc : (m n : ℕ) → pos m ≡ negsuc n → ⊥
pos_negsuc m n same = omega (arith, ltb-true m 0 (ap (λ (z : ℤ). lt_z z (pos 0)) same))

read_none : (got : ℤ) → TurnAnswers got (Ok false) → got ≡ pos 0
read_none (pos n) h = ap pos (h.0 refl)
read_none (negsuc n) h = absurd h

fails_by : (T : Type 0) (got : ℤ) (f : Failure) → TurnAnswers got (Err f) → EndedBy {T = T} (Err f) got × (could_go_on {T = T} (Err f) ≡ false)
fails_by T (pos n) Unwritten h = (tt, refl)
fails_by T (pos n) NobodyReads h = (tt, refl)
fails_by T (pos n) Arguments h = absurd h
fails_by T (pos n) Unread h = absurd h
fails_by T (pos n) TurnsSpent h = absurd h
fails_by T (negsuc n) f h =
    subst (λ (x : Failure). EndedBy {T = T} (Err x) (negsuc n) × (could_go_on {T = T} (Err x) ≡ false)) (sym h.1) (ap negsuc h.0, refl)

fails_unread : (got : ℤ) (f : Failure) → TurnAnswers got (Err f) → (n : ℕ) → got ≡ negsuc n → f ≡ Unread
fails_unread (pos m) f h n same = absurd (pos_negsuc m n same)
fails_unread (negsuc m) f h n same = h.1

-- one turn more: r' is what the input has left after it, and w' what the output holds
module _ (r₀ r w₀ w : Option (List ℕ)) (ws₀ ws k : List ℕ) (left : ℕ) (u : Underway r₀ r w₀ w ws₀ ws k left) (more : 0 < left) (r' w' : Option (List ℕ))
    (out : List ℕ) (answered : Result Bool Failure) (held : ℕ) (bytes' ws' out' : List ℕ)
    (t : TakesTurn r r' w w' k ws out answered held bytes' ws' out') where
  abbrev turn : Exchange
  turn = t.turned.exchange

  all_reads_on : Consumes r₀ r' (all_read (turn ∷ u.session.turns))
  unfolding all_read
  all_reads_on = Consumes-trans r₀ r r' _ _ u.reads_on t.reads_on

  all_appends : Appends w w' turn.handed → Appends w₀ w' (all_handed (turn ∷ u.session.turns))
  unfolding all_handed
  all_appends a = Appends-trans w₀ w w' _ _ u.appends a

  pub turn_on : answered ≡ Ok true → Underway r₀ r' w₀ w' ws₀ ws' (take held bytes') (left - 1)
  turn_on g =
      let next = next_turn ws₀ ws k left u.session out _ bytes' ws' out' t.room more t.turned (ap goes_on_of g) in
      record {
        session = next.0;
        reads_on = subst (λ (es : List Exchange). Consumes r₀ r' (all_read es)) (sym next.1) all_reads_on;
        appends = subst (λ (es : List Exchange). Appends w₀ w' (all_handed es)) (sym next.1)
            (all_appends (subst (λ (x : Result Bool Failure). IfWritten x (Appends w w' turn.handed)) g t.appends));
      }

  pub few_held : answered ≡ Ok true → held ≤ 65
  few_held g = by_after t.turned.after (ap goes_on_of g)
    where
      by_after : After turn.got k turn.read ws out (record { held = held; written = t.written; goes_on = goes_on_of answered }) bytes' ws' out'
          → goes_on_of answered ≡ true → held ≤ 65
      by_after (unread n g o c w d) h = absurd (true≢false (sym h ∙ o))
      by_after (ended g o l) h = absurd (true≢false (sym h ∙ o))
      by_after (went_on n g piece) h = little_held _ _ _ _ _ _ _ piece

  -- the run ends with this turn
  stops : {T : Type 0} (x : Result T Failure) → could_go_on x ≡ false → goes_on_of answered ≡ false → EndedBy x turn.got
      → ((n : ℕ) → turn.got ≡ negsuc n → x ≡ Err Unread) → IfWritten x (Appends w w' turn.handed) → RanOn r₀ r' w₀ w' ws₀ x ws'
  stops x over stopped why failed appends =
      let l = subst (λ (b : Bool). LeavesOff ws₀ ws k left u.session out _ bytes' ws' out' t.room more t.turned b) (sym over)
      (last_turn ws₀ ws k left u.session out _ bytes' ws' out' t.room more t.turned stopped) in
      let turns : l.0.last ∷ l.0.before ≡ turn ∷ u.session.turns
      = ap (λ (y : Exchange). y ∷ l.0.before) l.1 ∙ ap (λ (es : List Exchange). turn ∷ es) l.2 in
      let got : turn.got ≡ l.0.last.got = sym (ap (λ (y : Exchange). y.got) l.1) in
      record {
        run = l.0;
        reads_on = subst (λ (es : List Exchange). Consumes r₀ r' (all_read es)) (sym turns) all_reads_on;
        ended_by = subst (EndedBy x) got why;
        at_end = λ g. t.at_end (got ∙ g);
        unread = λ n g. failed n (got ∙ g);
        appends = subst (λ (es : List Exchange). IfWritten x (Appends w₀ w' (all_handed es))) (sym turns) (if_written x all_appends appends);
      }

  pub input_ends : {T : Type 0} (x : T) → answered ≡ Ok false → RanOn r₀ r' w₀ w' ws₀ (Ok x) ws'
  input_ends x g =
      let none = read_none turn.got (subst (TurnAnswers turn.got) g t.answers) in
      stops (Ok x) refl (ap goes_on_of g) none (λ n z. absurd (pos_negsuc 0 n (sym none ∙ z)))
      (subst (λ (y : Result Bool Failure). IfWritten y (Appends w w' turn.handed)) g t.appends)

  pub turn_fails : {T : Type 0} (f : Failure) → answered ≡ Err f → RanOn {T = T} r₀ r' w₀ w' ws₀ (Err f) ws'
  turn_fails {T} f g =
      let answers = subst (TurnAnswers turn.got) g t.answers in
      let by = fails_by T turn.got f answers in
      stops (Err f) by.1 (ap goes_on_of g) by.0 (λ n z. ap (λ (x : Failure). Err x) (fails_unread turn.got f answers n z))
      (subst (λ (y : Result Bool Failure). IfWritten y (Appends w w' turn.handed)) g t.appends)

-- all turns are spent
pub turns_stop : {T : Type 0} (r₀ r w₀ w : Option (List ℕ)) (ws₀ ws k : List ℕ) (left : ℕ) → Underway r₀ r w₀ w ws₀ ws k left → left ≤ 0
    → RanOn {T = T} r₀ r w₀ w ws₀ (Err TurnsSpent) ws
turns_stop r₀ r w₀ w ws₀ ws k left u none =
    let s = spent ws₀ ws k left u.session none in
    let last = s.0.last in
    record {
      run = s.0;
      reads_on = subst (λ (es : List Exchange). Consumes r₀ r (all_read es)) (sym s.1) u.reads_on;
      ended_by = tt;
      at_end = λ g. absurd (omega (arith, s.2, subst (AsMany last.read) g last.as_many));
      unread = λ n g. absurd (omega (arith, s.2, ap length (subst (AsMany last.read) g last.as_many)));
      appends = inr (subst (λ (es : List Exchange). Appends w₀ w (all_handed es)) (sym s.1) u.appends);
    }

-- The program, from the lent words: where a run answers Ok, its input is at the end, and what is printed on all that the input gave is what the output
-- gained.
pub program_gives : {T : Type 0} (r₀ r₁ w₀ w₁ : Option (List ℕ)) (t : T) (ws' : List ℕ) → RanOn r₀ r₁ w₀ w₁ lent (Ok t) ws'
    → (text : List ℕ) × Consumes r₀ r₁ text × IsAtEnd r₁ × Appends w₀ w₁ (printed text)
program_gives r₀ r₁ w₀ w₁ t ws' ran = (
  all_read (ran.run.last ∷ ran.run.before),
  ran.reads_on,
  ran.at_end ran.ended_by,
  subst (Appends w₀ w₁) (program_prints false ws' ran.run ran.ended_by) ran.appends,
)
