-- The cells that a catalogue of p workers, m items and n nodes has, and that each has a place of its own among the needed words.
use Rattle.std.specs.Prelude.{ℕ, ◌+◌, ◌*◌, ◌-◌, ◌<◌, ◌≤◌, Bool, true, false, cond, ◌≡◌, refl, ltb}
use Rattle.std.proofs.Common.{subst, arith, ltb-true, ltb-false}
use Rattle.definitions.specs.Cells.{node_words, Cell, place, items_start, nodes_start, needed}

-- How many records have a field of kind k: one header, p workers, m items, n nodes.
abbrev pub records : (p m n k : ℕ) → ℕ
records p m n k = cond (ltb k 16) 1 (cond (ltb k 32) p (cond (ltb k 36) m (cond (ltb k (36 + node_words)) n 0)))

-- A cell stands in the catalogue: there is a record that it is a field of.
abbrev pub Stands : (p m n : ℕ) → Cell → Type 0
Stands p m n c = c.index < records p m n c.kind

-- The four sorts of cells that stand, each with its place.
data Sort (p m n k i : ℕ) : ℕ → Type 0 where
  header : k < 16 → i < 1 → Sort p m n k i k
  worker : 16 ≤ k → k < 32 → i < p → Sort p m n k i (16 + 16 * i + (k - 16))
  item : 32 ≤ k → k < 36 → i < m → Sort p m n k i (items_start p + 4 * i + (k - 32))
  node : 36 ≤ k → k < 36 + node_words → i < n → Sort p m n k i (nodes_start p m + (node_words * i + (k - 36)))

sort : (p m n : ℕ) (c : Cell) → Stands p m n c → Sort p m n c.kind c.index (place (items_start p) (nodes_start p m) c)
sort p m n c = at_16 (ltb c.kind 16) refl
  where
    k : ℕ
    k = c.kind

    i : ℕ
    i = c.index

    Goal : Bool → Bool → Bool → Bool → Type 0
    Goal a b e f =
        i < cond a 1 (cond b p (cond e m (cond f n 0)))
        → Sort p m n k i (cond a k (cond b (16 + 16 * i + (k - 16)) (cond e (items_start p + 4 * i + (k - 32)) (nodes_start p m + (node_words * i + (k - 36))))))

    at_node : (f : Bool) → ltb k (36 + node_words) ≡ f → 36 ≤ k → Goal false false false f
    at_node true e l h = node l (ltb-true _ _ e) h
    at_node false e l h = absurd (omega arith)

    at_36 : (f : Bool) → ltb k 36 ≡ f → 32 ≤ k → Goal false false f (ltb k (36 + node_words))
    at_36 true e l h = item l (ltb-true _ _ e) h
    at_36 false e l h = at_node (ltb k (36 + node_words)) refl (ltb-false _ _ e) h

    at_32 : (f : Bool) → ltb k 32 ≡ f → 16 ≤ k → Goal false f (ltb k 36) (ltb k (36 + node_words))
    at_32 true e l h = worker l (ltb-true _ _ e) h
    at_32 false e l h = at_36 (ltb k 36) refl (ltb-false _ _ e) h

    at_16 : (f : Bool) → ltb k 16 ≡ f → Goal f (ltb k 32) (ltb k 36) (ltb k (36 + node_words))
    at_16 true e h = header (ltb-true _ _ e) h
    at_16 false e h = at_32 (ltb k 32) refl (ltb-false _ _ e) h

-- A cell that stands is one of the needed words.
pub place_below : (p m n : ℕ) (c : Cell) → Stands p m n c → place (items_start p) (nodes_start p m) c < needed p m n
place_below p m n c h = at (sort p m n c h)
  where
    at : {x : ℕ} → Sort p m n c.kind c.index x → x < needed p m n
    at (header a b) = omega arith
    at (worker a b e) = omega arith
    at (item a b e) = omega arith
    at (node a b e) = omega arith

-- Two cells that stand at one place are one cell.
pub place_one : (p m n : ℕ) (c d : Cell) → Stands p m n c → Stands p m n d
    → place (items_start p) (nodes_start p m) c ≡ place (items_start p) (nodes_start p m) d → (c.kind ≡ d.kind) × (c.index ≡ d.index)
place_one p m n c d h g e = at (sort p m n c h) (sort p m n d g) e
  where
    at : {x y : ℕ} → Sort p m n c.kind c.index x → Sort p m n d.kind d.index y → x ≡ y → (c.kind ≡ d.kind) × (c.index ≡ d.index)
    at (header a b) (header a' b') z = (omega arith, omega arith)
    at (header a b) (worker a' b' e') z = absurd (omega arith)
    at (header a b) (item a' b' e') z = absurd (omega arith)
    at (header a b) (node a' b' e') z = absurd (omega arith)
    at (worker a b e) (header a' b') z = absurd (omega arith)
    at (worker a b e) (worker a' b' e') z = (omega arith, omega arith)
    at (worker a b e) (item a' b' e') z = absurd (omega arith)
    at (worker a b e) (node a' b' e') z = absurd (omega arith)
    at (item a b e) (header a' b') z = absurd (omega arith)
    at (item a b e) (worker a' b' e') z = absurd (omega arith)
    at (item a b e) (item a' b' e') z = (omega arith, omega arith)
    at (item a b e) (node a' b' e') z = absurd (omega arith)
    at (node a b e) (header a' b') z = absurd (omega arith)
    at (node a b e) (worker a' b' e') z = absurd (omega arith)
    at (node a b e) (item a' b' e') z = absurd (omega arith)
    at (node a b e) (node a' b' e') z = (omega arith, omega arith)

-- Past the five sizes in kind is past them in place.
pub place_past_sizes : (p m n : ℕ) (c : Cell) → Stands p m n c → 5 ≤ c.kind → 5 ≤ place (items_start p) (nodes_start p m) c
place_past_sizes p m n c h l = at (sort p m n c h)
  where
    at : {x : ℕ} → Sort p m n c.kind c.index x → 5 ≤ x
    at (header a b) = omega arith
    at (worker a b e) = omega arith
    at (item a b e) = omega arith
    at (node a b e) = omega arith

-- With equal sizes the same cells stand.
pub stands_as : {p m n p' m' n' : ℕ} → p' ≡ p → m' ≡ m → n' ≡ n → (c : Cell) → Stands p' m' n' c → Stands p m n c
stands_as {p} {m} {n} {p'} {m'} e g h c l =
    subst (λ (x : ℕ). Stands x m n c) e (subst (λ (x : ℕ). Stands p' x n c) g (subst (λ (x : ℕ). Stands p' m' x c) h l))
