-- The node part of the words, and the one law that a write in the part is a write in the whole.
use Rattle.std.specs.Prelude.{◌≡◌, refl, List, [], ◌∷◌, ◌++◌, ℕ, ◌+◌, ◌-◌, length, get_or, set, take, drop}
use Rattle.std.proofs.Common.{ap, sym, ◌∙◌, append-nil, arith, length-set, length-drop, drop_of_length-le, take-append-drop, get_or-drop, take_all}
use Rattle.std.proofs.lemmas.List.{drop-set-add, take-set-le}

-- Words stored one after the other, each at its place.
pub record Store : Type 0 where
  pub at : ℕ
  pub what : ℕ

infix 68 ◌gets◌
abbrev pub ◌gets◌ : ℕ → ℕ → Store
◌gets◌ k v = record { at = k; what = v }

abbrev pub stored : List ℕ → List Store → List ℕ
stored ws [] = ws
stored ws (s ∷ ss) = stored (set ws s.at s.what) ss

-- The same stores, b places further on.
abbrev pub shifted : ℕ → List Store → List Store
shifted b [] = []
shifted b (s ∷ ss) = (b + s.at) gets s.what ∷ shifted b ss

-- The part of the words from b on, as it is lent; and the words when the part comes back as ns.
abbrev pub part : List ℕ → ℕ → List ℕ
part ws b = take (length ws - b) (drop b ws)

abbrev pub back : List ℕ → ℕ → List ℕ → List ℕ
back ws b ns = take b ws ++ (ns ++ drop (length ws - b) (drop b ws))

part_is : (ws : List ℕ) (b : ℕ) → part ws b ≡ drop b ws
part_is ws b = take_all (length ws - b) (drop b ws) (omega (arith, length-drop b ws))

-- A word read in the part is that word of the whole.
pub read_part : (ws : List ℕ) (b k : ℕ) → get_or (part ws b) k 0 ≡ get_or ws (b + k) 0
read_part ws b k = ap (λ (l : List ℕ). get_or l k 0) (part_is ws b) ∙ get_or-drop b ws k 0

pub length_stored : (ws : List ℕ) (ss : List Store) → length (stored ws ss) ≡ length ws
length_stored ws [] = refl
length_stored ws (s ∷ ss) = length_stored (set ws s.at s.what) ss ∙ length-set ws s.at s.what

take_stored : (ws : List ℕ) (b : ℕ) (ss : List Store) → take b (stored ws (shifted b ss)) ≡ take b ws
take_stored ws b [] = refl
take_stored ws b (s ∷ ss) = take_stored (set ws (b + s.at) s.what) b ss ∙ take-set-le b ws (b + s.at) s.what (omega arith)

drop_stored : (ws : List ℕ) (b : ℕ) (ss : List Store) → drop b (stored ws (shifted b ss)) ≡ stored (drop b ws) ss
drop_stored ws b [] = refl
drop_stored ws b (s ∷ ss) = drop_stored (set ws (b + s.at) s.what) b ss ∙ ap (λ (l : List ℕ). stored l ss) (drop-set-add b ws s.at s.what)

-- Stores in the part are the same stores in the whole, b places further on.
pub write_part : (ws : List ℕ) (b : ℕ) (ss : List Store) {ns : List ℕ} → ns ≡ stored (part ws b) ss → back ws b ns ≡ stored ws (shifted b ss)
write_part ws b ss {ns} e =
    let lent : stored (part ws b) ss ≡ drop b (stored ws (shifted b ss)) = ap (λ (l : List ℕ). stored l ss) (part_is ws b) ∙ sym (drop_stored ws b ss) in
    rw (drop_of_length-le (drop b ws) {i = length ws - b} (omega (arith, length-drop b ws)), append-nil, e, lent, ← take_stored ws b ss)
    (take-append-drop b (stored ws (shifted b ss)))

-- Words after stores in the part are as many as before.
pub length_back : (ws : List ℕ) (b : ℕ) (ss : List Store) {ns : List ℕ} → ns ≡ stored (part ws b) ss → length (back ws b ns) ≡ length ws
length_back ws b ss e = ap length (write_part ws b ss e) ∙ length_stored ws (shifted b ss)
