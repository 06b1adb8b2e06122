use Rattle.std.proofs.Common.{◌≡◌, ℕ, ◌+◌, ◌*◌, ◌-◌, ◌<◌, ◌≤◌, Bool, true, false, nat_lt, min, List, length, take, drop, ap, sym, ◌∙◌, subst, refl, arith, ltb-true, ltb-false}
use Rattle.std.proofs.Math.Seq.{paste}
use Rattle.frames.specs.AnswerLines.{answer_length}
use Rattle.text.specs.declared.Fed.{Fed}
use Rattle.text.specs.Feeding.{Feeding, Piece}
use Rattle.text.specs.PieceLaws.{piece_long, piece_short}
use Rattle.text.proofs.answer_piece.Goals as goal

-- what is held stands at the front, be it all that is left or 65 bytes of it
piece_held : (text : List ℕ) (count : ℕ) (ws out : List ℕ) (fed : Fed) (ws' out' text' : List ℕ) (held : ℕ) → count ≤ length text → answer_length * length text ≤ length out
    → Feeding (take count text) ws out fed ws' out' → held ≡ min (count - fed.used) 65 → text' ≡ paste text 0 (drop fed.used text) (fed.used + held - fed.used)
    → Piece (take count text) ws out (record { held = held; written = fed.written }) text' ws' out'
piece_held text count ws out fed ws' out' text' held inside room done h e = by_test (nat_lt 65 (count - fed.used)) refl
  where
    moved : (n : ℕ) → held ≡ n → text' ≡ paste text 0 (drop fed.used text) n
    moved n d = let less : fed.used + held - fed.used ≡ n = omega arith in e ∙ ap (paste text 0 (drop fed.used text)) less

    as_held : (n : ℕ) → held ≡ n → Piece (take count text) ws out (record { held = n; written = fed.written }) text' ws' out'
        → Piece (take count text) ws out (record { held = held; written = fed.written }) text' ws' out'
    as_held n d = subst (λ (k : ℕ). Piece (take count text) ws out (record { held = k; written = fed.written }) text' ws' out') (sym d)

    by_test : (b : Bool) → nat_lt 65 (count - fed.used) ≡ b → Piece (take count text) ws out (record { held = held; written = fed.written }) text' ws' out'
    by_test true t =
        let more : 65 < count - fed.used = ltb-true 65 (count - fed.used) t in
        let all : held ≡ 65 = omega arith in
        as_held 65 all (piece_long text count ws out fed ws' out' inside room done text' more (moved 65 all))
    by_test false t =
        let few : count - fed.used ≤ 65 = ltb-false 65 (count - fed.used) t in
        let all : held ≡ count - fed.used = omega arith in
        as_held _ all (piece_short text count ws out fed ws' out' inside room done text' few (moved _ all))

pub returns : goal.returns
returns c =
    piece_held c.args.text.now c.args.count _ _ _ _ _ _ _ c.requires.0 c.requires.1 c.answer_lines-used.ensures c.min-held.ensures c.copy_within.ensures.after
