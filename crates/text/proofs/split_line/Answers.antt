use Rattle.std.proofs.Common.{◌≡◌, ℕ, zero, suc, ◌-◌, ◌<◌, Bool, true, false, ◌==◌, ◌∷◌, [], List, length, take, drop, get_or, ap, sym, ◌∙◌, true≢false, arith, eq-eqb, eqb-true, drop-cons, drop_of_length-le, length-take-le, refl}
use Rattle.std.proofs.Math.Bool.{and-true}
use Rattle.std.proofs.Math.Seq.{take-take}
use Rattle.std.proofs.lemmas.Bool.{false≢true}
use Rattle.std.proofs.lemmas.List.{get_or-take}
use Rattle.std.specs.Prelude.{nat_eq}
use Rattle.std.specs.Cmp.Lexicographic.{pointwise}
use Rattle.frames.specs.Lines.{feed, has_feed, first_line}
use Rattle.text.specs.FeedingLaws.{taken, after_within, feed_found, feed_missing, nothing_taken, line_taken}
use Rattle.text.proofs.split_line.Goals as goal

-- what the line reader took of a text, and whether a line feed ends it
abbrev part : List ℕ → List ℕ
part t = take (taken t) t

abbrev ends : List ℕ → Bool
ends t = pointwise nat_eq (drop (length (part t) - 1) (part t)) (feed ∷ [])

part_length : (t : List ℕ) → length (part t) ≡ taken t
part_length t = length-take-le (taken t) t (omega arith)

last_byte : (t : List ℕ) → 0 < taken t → ends t ≡ (get_or t (taken t - 1) 0 == feed)
last_byte t h =
    let n = taken t in
    let long : length (part t) ≡ taken t = part_length t in
    ap (λ (m : ℕ). pointwise nat_eq (drop (m - 1) (part t)) (feed ∷ [])) long
    ∙ ap (λ (l : List ℕ). pointwise nat_eq l (feed ∷ []))
    (drop-cons (part t) (taken t - 1) 0 (omega arith)
    ∙ ap (λ (x : ℕ). x ∷ drop (suc (taken t - 1)) (part t)) (get_or-take (taken t) t (taken t - 1) 0 (omega arith))
    ∙ ap (λ (l : List ℕ). get_or t (taken t - 1) 0 ∷ l) (drop_of_length-le (part t) {i = suc (taken t - 1)} (omega arith)))
    ∙ and-true (get_or t (taken t - 1) 0 == feed)

none_ends : (t : List ℕ) → taken t ≡ 0 → ends t ≡ false
none_ends t e = ap (λ (n : ℕ). pointwise nat_eq (drop (length (take n t) - 1) (take n t)) (feed ∷ [])) e

found : (t : List ℕ) → ends t ≡ true → has_feed t ≡ true
found t h = by_count (taken t) refl
  where
    by_count : (n : ℕ) → taken t ≡ n → has_feed t ≡ true
    by_count zero e = absurd (false≢true (sym (none_ends t e) ∙ h))
    by_count (suc n) e = feed_found t (omega arith) (eqb-true _ feed (sym (last_byte t (omega arith)) ∙ h))

missing : (t : List ℕ) → ends t ≡ false → has_feed t ≡ false
missing t h = by_count (taken t) refl
  where
    by_count : (n : ℕ) → taken t ≡ n → has_feed t ≡ false
    by_count zero e = nothing_taken t e
    by_count (suc n) e = feed_missing t (λ d. true≢false (sym (eq-eqb _ feed d) ∙ sym (last_byte t (omega arith)) ∙ h))

line_found : (t line : List ℕ) → has_feed t ≡ true → line ≡ take (length (part t) - 1) (part t) → line ≡ first_line t
line_found t line h e =
    e ∙ ap (λ (m : ℕ). take (m - 1) (part t)) (part_length t) ∙ take-take (taken t - 1) (taken t) t (omega arith) ∙ line_taken t h

pub slice_bounds-strip_suffix-count : goal.slice_bounds-strip_suffix-count
slice_bounds-strip_suffix-count c = omega (arith, ap length c.after_line-rest.ensures, after_within c.args.text.now)

pub returns-in_err-line : goal.returns-in_err-line
returns-in_err-line c = rw c.from_residual.ensures (missing c.args.text.now (rw c.after_line-rest.ensures at c.in_err-line.ensures.cases))

pub returns : goal.returns
returns c =
    let t = c.args.text.now in
    let f : has_feed t ≡ true = found t (rw c.after_line-rest.ensures at c.in_ok-line.ensures.cases.0) in
    (f, line_found t _ f (rw c.after_line-rest.ensures at c.in_ok-line.ensures.cases.1), c.after_line-rest.ensures)
