-- Assignments as changes of a function from cells to numbers, and that writing the words does just that.
use Rattle.std.specs.Prelude.{ℕ, ◌<◌, ◌≤◌, Bool, true, false, cond, List, [], ◌∷◌, ◌≡◌, refl, eqb, length, get_or, set}
use Rattle.std.proofs.Common.{ap₂, sym, ◌∙◌, arith, length-set, get_or-set_same, get_or-set_other, eqb-true, ne_eqb}
use Rattle.std.proofs.lemmas.Bool.{eqb-false}
use Rattle.definitions.specs.Cells.{record_of, Cell, cell, Cells, Assignment, place, items_start, nodes_start, needed, cells_at, written}
use Rattle.cells.specs.Stands.{Stands, place_below, place_one}

-- Cells are told apart by kind first, so that cells of two kinds written out differ by computation.
abbrev pub same_cell : Cell → Cell → Bool
same_cell c d = cond (eqb c.kind d.kind) (eqb c.index d.index) false

abbrev pub put : Cells → Cell → ℕ → Cells
put f c v d = cond (same_cell c d) v (f d)

-- What the cells hold after assignments, done in order.
abbrev pub after : Cells → List Assignment → Cells
after f [] = f
after f (x ∷ xs) = after (put f x.to x.what) xs

-- Each assignment is to a cell that stands, and to none of the five sizes.
abbrev pub Proper : (p m n : ℕ) → List Assignment → Type 0
Proper p m n [] = Unit {0}
Proper p m n (x ∷ xs) = Stands p m n x.to × (5 ≤ x.to.kind) × Proper p m n xs

-- All words of a worker's record are proper to write.
pub record_proper : (p m n w ph i o y h q k : ℕ) → w < p → Proper p m n (record_of w ph i o y h q k)
record_proper p m n w ph i o y h q k l = (
  l,
  omega arith,
  (
    l,
    omega arith,
    (
      l,
      omega arith,
      (
        l,
        omega arith,
        (
          l,
          omega arith,
          (
            l,
            omega arith,
            (
              l,
              omega arith,
              (
                l,
                omega arith,
                (l, omega arith, (l, omega arith, (l, omega arith, (l, omega arith, (l, omega arith, (l, omega arith, (l, omega arith, (l, omega arith, tt)))))))),
              ),
            ),
          ),
        ),
      ),
    ),
  ),
)

-- The words show what f says of every cell that stands.
abbrev pub Shows : (p m n : ℕ) → List ℕ → Cells → Type 0
Shows p m n ws f = (c : Cell) → Stands p m n c → cells_at (items_start p) (nodes_start p m) ws c ≡ f c

-- One word set is one cell put.
set_shows : (p m n : ℕ) (ws : List ℕ) (f : Cells) → needed p m n ≤ length ws → Shows p m n ws f → (x : Assignment) → Stands p m n x.to
    → Shows p m n (set ws (place (items_start p) (nodes_start p m) x.to) x.what) (put f x.to x.what)
set_shows p m n ws f long shows x h c g = at_kind (eqb x.to.kind c.kind) refl
  where
    Goal : Bool → Type 0
    Goal b = get_or (set ws (place (items_start p) (nodes_start p m) x.to) x.what) (place (items_start p) (nodes_start p m) c) 0 ≡ cond b x.what (f c)

    same_place : x.to.kind ≡ c.kind → x.to.index ≡ c.index → Goal true
    same_place e i = rw (cell_is) (get_or-set_same ws (place (items_start p) (nodes_start p m) x.to) x.what 0
        (omega (arith, place_below p m n x.to h)))
      where
        cell_is : c ≡ x.to
        cell_is = ap₂ cell (sym e) (sym i)

    other : ((x.to.kind ≡ c.kind) → (x.to.index ≡ c.index) → ⊥) → Goal false
    other d =
        get_or-set_other ws (place (items_start p) (nodes_start p m) x.to) (place (items_start p) (nodes_start p m) c) x.what 0
        (λ e. let z = place_one p m n c x.to g h e in d (sym z.0) (sym z.1))
        ∙ shows c g

    at_index : x.to.kind ≡ c.kind → (b : Bool) → eqb x.to.index c.index ≡ b → Goal b
    at_index e true i = same_place e (eqb-true _ _ i)
    at_index e false i = other (λ k j. eqb-false _ _ i j)

    at_kind : (b : Bool) → eqb x.to.kind c.kind ≡ b → Goal (cond b (eqb x.to.index c.index) false)
    at_kind true e = at_index (eqb-true _ _ e) (eqb x.to.index c.index) refl
    at_kind false e = other (λ k j. eqb-false _ _ e k)

pub written_shows : (p m n : ℕ) (ws : List ℕ) (f : Cells) (xs : List Assignment) → needed p m n ≤ length ws → Shows p m n ws f → Proper p m n xs
    → Shows p m n (written (items_start p) (nodes_start p m) ws xs) (after f xs)
written_shows p m n ws f [] long shows proper = shows
written_shows p m n ws f (x ∷ xs) long shows proper =
    written_shows p m n (set ws (place (items_start p) (nodes_start p m) x.to) x.what) (put f x.to x.what) xs
    (simp length-set long) (set_shows p m n ws f long shows x proper.0) proper.2

-- As many words as before.
pub length_written : (a b : ℕ) (ws : List ℕ) (xs : List Assignment) → length (written a b ws xs) ≡ length ws
length_written a b ws [] = refl
length_written a b ws (x ∷ xs) = length_written a b (set ws (place a b x.to) x.what) xs ∙ length-set ws (place a b x.to) x.what

-- Words past the needed length stay.
pub written_past : (p m n : ℕ) (ws : List ℕ) (xs : List Assignment) (k : ℕ) → needed p m n ≤ k → Proper p m n xs
    → get_or (written (items_start p) (nodes_start p m) ws xs) k 0 ≡ get_or ws k 0
written_past p m n ws [] k past proper = refl
written_past p m n ws (x ∷ xs) k past proper =
    written_past p m n (set ws (place (items_start p) (nodes_start p m) x.to) x.what) xs k past proper.2
    ∙ get_or-set_other ws (place (items_start p) (nodes_start p m) x.to) k x.what 0 (λ e. absurd (omega (arith, place_below p m n x.to proper.0)))

-- A size is put by no proper assignment.
pub after_size : (p m n : ℕ) (f : Cells) (xs : List Assignment) → Proper p m n xs → (c : Cell) → c.kind < 5 → after f xs c ≡ f c
after_size p m n f [] proper c h = refl
after_size p m n f (x ∷ xs) proper c h =
    after_size p m n (put f x.to x.what) xs proper.2 c h
    ∙ rw (ne_eqb x.to.kind c.kind (λ e. absurd (omega (arith, proper.1))))
