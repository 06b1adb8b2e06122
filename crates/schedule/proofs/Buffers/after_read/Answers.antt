use Rattle.std.proofs.Common.{◌≡◌, refl, ℕ, ◌+◌, ◌-◌, ◌≤◌, ◌++◌, Bool, true, List, Result, Ok, Err, ℤ, pos, negsuc, length, take, drop, ap, sym, subst, inl, inr, true≢false, arith, rules, length-take, length-drop}
use Rattle.std.proofs.lemmas.Result.{err_from_is_err_and}
use Rattle.std.specs.Result.{IsErrAnd}
use Rattle.std.proofs.KnownBytes.{Appends-nil}
use Rattle.text.specs.Feeding.{Piece}
use Rattle.schedule.specs.declared.Failure.{Failure}
use Rattle.schedule.specs.declared.Failure.TheVariants.{Unread}
use Rattle.schedule.specs.Turns.{Turn, After, Moved, read_into, read_failed, read_piece}
use Rattle.schedule.specs.Runs.{got_of, OfWrite, IfWritten, TurnAnswers}
use Rattle.schedule.proofs.Buffers.after_read.Goals as goal

-- a read that put `count` bytes after what is held
put : (got : ℤ) (count : ℕ) → pos count ≡ got → (bytes : List ℕ) (held : ℕ) → held + count ≤ length bytes → (count ≡ 0 → ⊥) → (ws out : List ℕ)
    (r : Turn) (bytes' ws' out' : List ℕ)
    → Piece (take held bytes ++ take count (drop held bytes)) ws out (record { held = r.held; written = r.written }) bytes' ws' out'
    → After got (take held bytes) (read_into (drop held bytes) got) ws out r bytes' ws' out'
put got count same bytes held fits some ws out r bytes' ws' out' piece =
    read_piece got (pos count) same bytes held ws out r bytes' ws' out' (search rules) count (simp (length-take, length-drop) (omega arith)) some piece

-- a write that failed
fails : (got : ℤ) (count : ℕ) → pos count ≡ got → (f : Failure) → OfWrite f → (A : Type 0) (x : Result Bool Failure) → IsErrAnd x (λ e. e ≡ f)
    → TurnAnswers got x × IfWritten x A
fails got count same f wrote A x h =
    let told = err_from_is_err_and x h in
    let write : OfWrite told.0 = subst OfWrite (sym told.2) wrote in
    subst (λ (y : Result Bool Failure). TurnAnswers got y × IfWritten y A) (sym told.1) (subst (λ (z : ℤ). TurnAnswers z (Err told.0)) same write, inl write)

pub returns-in_err-answer-in-Ok : goal.returns-in_err-answer-in-Ok
returns-in_err-answer-in-Ok g c =
    let a = c.in_err-answer-in-Ok.ensures in
    let same = sym (ap got_of c.in-Ok.is) in
    let moved = subst (Moved (16384 - c.args.self.now.held)) (sym same) c.requires.1 in
    let some : c.in-Ok.count ≡ 0 → ⊥ = λ e. search rules in
    let failed = fails (got_of c.args.got) c.in-Ok.count same _ a.failed _ _ c.from_residual-in_err-answer-in-Ok.ensures.1 in
    record {
      written = a.written;
      after = put (got_of c.args.got) c.in-Ok.count same c.args.self.now.bytes c.args.self.now.held (omega (arith, moved)) some _ _ _ _ _ _ a.piece;
      answers = failed.0;
      appends = failed.1;
    }

pub returns-in_ok-answer-in-Ok : goal.returns-in_ok-answer-in-Ok
returns-in_ok-answer-in-Ok g c =
    let a = c.in_ok-answer-in-Ok.ensures in
    let same = sym (ap got_of c.in-Ok.is) in
    let moved = subst (Moved (16384 - c.args.self.now.held)) (sym same) c.requires.1 in
    let some : c.in-Ok.count ≡ 0 → ⊥ = λ e. search rules in
    record {
      written = a.written;
      after = put (got_of c.args.got) c.in-Ok.count same c.args.self.now.bytes c.args.self.now.held (omega (arith, moved)) some _ _ _ _ _ _ a.piece;
      answers = subst (λ (z : ℤ). TurnAnswers z (Ok true)) same (λ e. absurd (true≢false e), λ e. absurd (some e));
      appends = a.appends;
    }

pub returns-in-Err : goal.returns-in-Err
returns-in-Err g c =
    let same = sym (ap got_of c.in-Err.is) in
    record {
      written = 0;
      after = read_failed (got_of c.args.got) (negsuc 0) same c.args.self.now.bytes c.args.self.now.held _ _ _ _ _ _ refl refl refl refl refl;
      answers = subst (λ (z : ℤ). TurnAnswers z (Err Unread)) same (refl, refl);
      appends = inr (Appends-nil (g.W.Write.contents c.args.output.now));
    }
