use Rattle.std.proofs.Common.{◌≡◌, ℕ, suc, ◌-◌, ◌/◌, ◌%◌, ◌<◌, List, [], ◌∷◌, ◌++◌, length, drop, ap, sym, ◌∙◌, append_assoc, append-nil, add-one, drop_of_length-le, arith}
use Rattle.std.proofs.lemmas.List.{drop-set, length-replicate}
use Rattle.std.proofs.Math.ListN.{set, replicate, length-set}
use Rattle.frames.specs.AnswerLines.{hex, glyph}
use Rattle.frames.proofs.last_digits.Goals as goal

-- one digit more is stored, before those that are
digit_stored : (k n : ℕ) (digits : List ℕ) → k < length digits → hex (suc k) n ++ drop (suc k) digits ≡ hex k (n / 16) ++ drop k (set digits k (glyph (n % 16)))
unfolding hex
digit_stored k n digits h =
    append_assoc (hex k (n / 16)) (glyph (n % 16) ∷ []) (drop (suc k) digits)
    ∙ ap (λ (l : List ℕ). hex k (n / 16) ++ l) (ap (λ (i : ℕ). glyph (n % 16) ∷ drop i digits) (sym (add-one k)) ∙ sym (drop-set digits k (glyph (n % 16)) h))

none_stored : (k n : ℕ) → hex k n ≡ hex k n ++ drop k (replicate k 0)
none_stored k n = sym (ap (λ (l : List ℕ). hex k n ++ l) (drop_of_length-le (replicate k 0) {i = k} (omega (arith, length-replicate {A = ℕ} k 0))) ∙ append-nil (hex k n))

pub loop-k-preserved : goal.loop-k-preserved
loop-k-preserved g c =
    let k = c.loop-k.k - 1 in
    let more : c.loop-k.k ≡ suc k = omega arith in
    record {
      long = length-set c.loop-k.digits k c.glyph.result ∙ c.loop-k.invariant.long;
      stored =
          c.loop-k.invariant.stored
          ∙ ap (λ (i : ℕ). hex i c.loop-k.left ++ drop i c.loop-k.digits) more
          ∙ digit_stored k c.loop-k.left c.loop-k.digits (omega (arith, c.loop-k.invariant.long))
          ∙ ap (λ (d : ℕ). hex k (c.loop-k.left / 16) ++ drop k (set c.loop-k.digits k d)) (sym c.glyph.ensures);
    }

pub returns : goal.returns
unfolding hex
returns g c = let z : c.loop-k.k ≡ 0 = omega arith in sym (c.loop-k.invariant.stored ∙ ap (λ (k : ℕ). hex k c.loop-k.left ++ drop k c.loop-k.digits) z)
