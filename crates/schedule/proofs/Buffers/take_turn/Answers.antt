use Rattle.std.proofs.Common.{◌≡◌, refl, ℕ, ◌-◌, ◌≤◌, ◌<◌, min, Bool, Option, List, Result, ℤ, pos, negsuc, length, take, drop, ap, sym, subst, arith, length-take, length-drop, take-append-drop}
use Rattle.std.specs.Io.KnownBytes.{Consumes}
use Rattle.std.proofs.KnownBytes.{Consumes-nil, Consumes-kept}
use Rattle.schedule.specs.declared.Failure.{Failure}
use Rattle.schedule.specs.Turns.{out_length, Turn, After, Moved, Took, read_into, turn_of}
use Rattle.schedule.specs.Runs.{goes_on_of, AnswersRead, TakesTurn}
use Rattle.schedule.proofs.Buffers.take_turn.Goals as goal

-- the bytes read are those that the input lost
reads : (r₀ r₁ : Option (List ℕ)) (z : List ℕ) (got : ℤ) → Moved (length z) got → Took r₀ r₁ got z → Consumes r₀ r₁ (read_into z got)
reads r₀ r₁ z (pos n) moved took =
    let all : n ≡ min n (length z) = omega (arith, moved) in
    subst (λ (m : ℕ). Consumes r₀ r₁ (take m z)) all took.0
reads r₀ r₁ z (negsuc n) moved took = Consumes-kept r₀ r₀ r₁ _ (Consumes-nil r₀) took

-- a read, and what it comes to
takes : (r₀ r₁ w₀ w₁ : Option (List ℕ)) (bytes : List ℕ) (held : ℕ) → length bytes ≡ 16384 → held ≤ 65 → (got : ℤ) → Moved (16384 - held) got
    → Took r₀ r₁ got (drop held bytes) → (ws out : List ℕ) → length out ≡ out_length → (answered : Result Bool Failure) (held' : ℕ)
    (bytes' ws' out' : List ℕ)
    → AnswersRead w₀ w₁ got (take held bytes) (read_into (drop held bytes) got) ws out answered held' bytes' ws' out'
    → TakesTurn r₀ r₁ w₀ w₁ (take held bytes) ws out answered held' bytes' ws' out'
unfolding turn_of
takes r₀ r₁ w₀ w₁ bytes held long few got moved took ws out room answered held' bytes' ws' out' a =
    let z = drop held bytes in
    let left : 16384 - held ≡ length z = simp length-drop (omega arith) in
    let lent : 16384 - held ≡ length (take (length bytes - held) z) = simp (length-take, length-drop) (omega arith) in
    let more : 0 < length z = simp length-drop (omega arith) in
    let joined = take-append-drop held bytes in
    let r : Turn = record { held = held'; written = a.written; goes_on = goes_on_of answered } in
    record {
      written = a.written;
      turned = turn_of bytes held long (omega arith) z (ap length joined) got got refl (subst (λ (n : ℕ). Moved n got) lent moved) ws out r bytes' ws' out'
          (subst (λ (b : List ℕ). After got (take held b) (read_into (drop held b) got) ws out r bytes' ws' out') (sym joined) a.after);
      reads_on = reads r₀ r₁ z got (subst (λ (n : ℕ). Moved n got) left moved) took;
      at_end = λ g. (subst (λ (x : ℤ). Took r₀ r₁ x z) g took).1 refl more;
      answers = a.answers;
      appends = a.appends;
      room = room;
    }

pub returns : goal.returns
returns g c =
    let read = c.read_once-got.ensures in
    let self = c.read_once-got.new.self in
    let new = c.after_read.new.self in
    let Takes : List ℕ → List ℕ → List ℕ → Type 0
    = λ k ws out. TakesTurn (g.R.Read.remaining c.args.input.now) (g.R.Read.remaining c.read_once-got.new.input) (g.W.Write.contents c.args.output.now)
    (g.W.Write.contents c.after_read.new.output) k ws out c.after_read.result new.held new.bytes new.words new.out in
    subst (λ (k : List ℕ). Takes k c.args.self.now.words c.args.self.now.out) read.held.1
    (subst (λ (ws : List ℕ). Takes (take self.held self.bytes) ws c.args.self.now.out) read.rest.0
    (subst (λ (out : List ℕ). Takes (take self.held self.bytes) self.words out) read.rest.1
    (takes _ _ _ _ self.bytes self.held read.lengths.0 (omega arith) _ read.moved read.took self.words self.out read.lengths.1 _ _ _ _ _ c.after_read.ensures)))
