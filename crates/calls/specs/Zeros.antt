-- The five sizes, written over words that are zero.
use Rattle.std.specs.Prelude.{◌≡◌, refl, List, ◌∷◌, ◌++◌, ℕ, suc, ◌-◌, ◌≤◌, set, replicate}
use Rattle.std.proofs.Common.{sym, subst, arith}

five_more : (j : ℕ) (rest : List ℕ) (p m n q c : ℕ)
    → set (set (set (set (set (replicate (suc (suc (suc (suc (suc j))))) 0 ++ rest) 0 p) 1 m) 2 n) 3 q) 4 c ≡ (p ∷ m ∷ n ∷ q ∷ c ∷ replicate j 0) ++ rest
five_more j rest p m n q c = refl

pub sizes_written : (k : ℕ) (rest : List ℕ) (p m n q c : ℕ) → 5 ≤ k
    → set (set (set (set (set (replicate k 0 ++ rest) 0 p) 1 m) 2 n) 3 q) 4 c ≡ (p ∷ m ∷ n ∷ q ∷ c ∷ replicate (k - 5) 0) ++ rest
sizes_written k rest p m n q c h =
    let e : k ≡ suc (suc (suc (suc (suc (k - 5))))) = omega arith in
    subst (λ (i : ℕ). set (set (set (set (set (replicate i 0 ++ rest) 0 p) 1 m) 2 n) 3 q) 4 c ≡ (p ∷ m ∷ n ∷ q ∷ c ∷ replicate (k - 5) 0) ++ rest) (sym e)
    (five_more (k - 5) rest p m n q c)
