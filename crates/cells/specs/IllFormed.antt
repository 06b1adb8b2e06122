-- The set of well-formed catalogues is not everything: five sets of words that lie outside it, the first with no word damaged.
use Prim.Native.Nat.{ℕ, zero, suc, ◌<◌}
use Rattle.std.specs.Prelude.{true, List, [], ◌∷◌, ◌++◌, replicate}
use Rattle.std.proofs.Math.Bool.{false}
use Rattle.std.proofs.Math.Path.{◌≡◌, refl}
use native.Mathlib.Omega.{arith}
use Rattle.definitions.specs.Cells.{cells_of, phase}
use Rattle.definitions.specs.Damage.{header_damaged_at, worker_damaged, item_damaged, node_damaged}
use Rattle.definitions.specs.Lines.{line_of_phase, lines}
use Rattle.cells.specs.WellFormed.{Undamaged, in_list, returned, link_after, WellFormed}

-- One worker, who stands at a phase and has taken so many steps, one item with its head at node 0 and a birth stamp, and two nodes, both used.
abbrev words : (given_back stands_at taken born : ℕ) → (first second : List ℕ) → List ℕ
words back stands_at taken born first second =
    (1 ∷ 1 ∷ 2 ∷ 1 ∷ 1 ∷ 0 ∷ 1 ∷ 2 ∷ back ∷ replicate 7 0) ++ ((stands_at ∷ taken ∷ replicate 14 0) ++ ((0 ∷ born ∷ 0 ∷ 0 ∷ []) ++ (first ++ second)))

-- The same with its worker idle.
abbrev catalogue : (given_back : ℕ) → (first second : List ℕ) → List ℕ
catalogue back first second = words back 0 0 0 first second

-- Its second node is the older one of its first, and given back as well: it stands in two places.
abbrev in_two_places : List ℕ
in_two_places = catalogue 2 (0 ∷ 2 ∷ 0 ∷ []) (0 ∷ 0 ∷ 0 ∷ [])

pub two_places_undamaged : Undamaged in_two_places
two_places_undamaged = record {
  header_sound = unfold header_damaged_at in refl;
  worker_sound = only_first (λ (w : ℕ). worker_damaged (cells_of in_two_places) w ≡ false) refl;
  step_sound = only_first _ refl;
  line_sound = only_first (λ (w : ℕ). (line_of_phase (cells_of in_two_places (phase w))).damaged (cells_of in_two_places) w ≡ false)
      (unfold line_of_phase lines in refl);
  item_sound = only_first (λ (i : ℕ). item_damaged (cells_of in_two_places) i ≡ false) refl;
  birth_sound = only_first _ (omega arith);
  node_sound = two_nodes;
}
  where
    only_first : (P : ℕ → Type 0) → P 0 → (k : ℕ) → k < 1 → P k
    only_first P h zero l = h
    only_first P h (suc k) l = absurd (omega arith)

    two_nodes : (n : ℕ) → n < 2 → node_damaged (cells_of in_two_places) n ≡ false
    two_nodes zero l = refl
    two_nodes (suc zero) l = refl
    two_nodes (suc (suc n)) l = absurd (omega arith)

pub two_places_refused : WellFormed in_two_places → ⊥
two_places_refused h = unfold link_after in
    let e : in_list 0 1 ≡ returned 0 = h.one_place 1 (in_list 0 1) (returned 0) (omega arith, refl) refl in
    let z : ◌≡◌ {A = ℕ} 0 1 = cc e in omega arith

-- Its first node is its own older node: its list has no end.
abbrev without_end : List ℕ
without_end = catalogue 0 (0 ∷ 1 ∷ 0 ∷ []) (0 ∷ 0 ∷ 0 ∷ [])

pub endless_refused : WellFormed without_end → ⊥
endless_refused h = unfold link_after in
    let e : in_list 0 0 ≡ in_list 0 1 = h.one_place 0 (in_list 0 0) (in_list 0 1) (omega arith, refl) (omega arith, refl) in
    let z : ◌≡◌ {A = ℕ} 0 1 = cc e in omega arith

-- Its second node, behind the head, has no stamp yet.
abbrev TBD_behind : List ℕ
TBD_behind = catalogue 0 (0 ∷ 2 ∷ 0 ∷ []) (0 ∷ 0 ∷ 4294967295 ∷ [])

pub TBD_behind_refused : WellFormed TBD_behind → ⊥
TBD_behind_refused h = unfold link_after in h.TBD_at_head 0 0 1 (omega arith, refl) refl

-- Its item has no birth stamp yet; nothing else is amiss.
abbrev TBD_birth : List ℕ
TBD_birth = words 2 0 0 4294967295 (0 ∷ 0 ∷ 4294967295 ∷ []) (0 ∷ 0 ∷ 0 ∷ [])

pub TBD_birth_refused : WellFormed TBD_birth → ⊥
TBD_birth_refused h = let b = h.undamaged.birth_sound 0 (omega arith) in omega (arith, b)

-- Its worker, at line 5, has taken more steps than any operation takes; nothing else is amiss.
abbrev too_many : List ℕ
too_many = words 2 23 5121 0 (0 ∷ 0 ∷ 0 ∷ []) (0 ∷ 0 ∷ 0 ∷ [])

pub too_many_refused : WellFormed too_many → ⊥
too_many_refused h =
    let e : true ≡ false = h.undamaged.step_sound 0 (omega arith) in
    let z : ◌≡◌ {A = ℕ} 0 1 = cc e in omega arith
