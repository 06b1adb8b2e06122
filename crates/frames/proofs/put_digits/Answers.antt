use Rattle.std.proofs.Common.{◌≡◌, ℕ, ◌+◌, ◌≤◌, List, length, refl, sym, ◌∙◌, append_assoc, arith}
use Rattle.std.proofs.lemmas.List.Edits.{sets, sets-eq, paste_all}
use Rattle.std.proofs.lemmas.Slice.{put_mid-paste}
use borrow.Rule.Slice.PartMut.{put_mid}
use Rattle.frames.specs.AnswerLines.{hex}
use Rattle.frames.specs.AnswerLaws.{hex_length}
use Rattle.frames.proofs.put_digits.Goals as goal

stored : (out ys zs : List ℕ) (at k : ℕ) → ys ≡ zs → k ≡ length zs → at + k ≤ length out → put_mid at k out ys ≡ sets out at zs
stored out ys zs at k e n h =
    put_mid-paste at k out ys zs k e refl n ∙ paste_all out at zs k n
    ∙ sym (sets-eq zs out at (omega arith) ∙ simp append_assoc (rw (← n)))

pub returns : goal.returns
returns g c =
    stored c.args.out.now _ (hex g.row.DIGITS c.args.number) c.args.at _ (c.copy_from_slice.ensures.after ∙ c.last_digits.ensures)
    (omega (arith, hex_length g.row.DIGITS c.args.number)) (omega arith)
