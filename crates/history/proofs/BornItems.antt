-- The items of Definition 1's object at a time are those born up to then.
use Rattle.std.specs.Prelude.{◌≡◌, ◌↔◌, Bool, List, ℕ, zero, suc, ◌+◌, ◌≤◌, ◌<◌, leb}
use Rattle.std.proofs.Math.Path.{refl}
use Rattle.std.proofs.Common.{ap, sym, subst, arith}
use Rattle.std.proofs.Math.Bool.{true, false, cond}
use Rattle.history.specs.Tools.{by_le, Split, split, Same, eq, ne, same?}
use Rattle.history.specs.Definition1.{register, apply, empty, Born}
use Rattle.history.proofs.BornTold.{Told, told_born, born_told}
use Rattle.history.specs.Notes.{Note, birth, time, object_at}
use Rattle.history.specs.Effects.{effects}
use Rattle.history.specs.Machine.{Catalogue}
use Rattle.history.specs.Facts.{Sees}
use Rattle.history.proofs.Places.{Invariant}
use Rattle.history.proofs.OrderList.{born_seen}
use Rattle.history.proofs.NodeCount.{sum_to}
use Rattle.history.proofs.EffectsRight.{effect_tag, effect_item, IsEffect, born_by}
use Rattle.history.proofs.EffectsRun.{Effected}

-- how many of rising numbers are up to τ: the first so many
risen : (b : ℕ → ℕ) (τ n : ℕ) (g : ℕ → ℕ) → ((i : ℕ) → g i ≡ cond (leb (b i) τ) 1 0) → ((i j : ℕ) → i < j → j < n → b i ≤ b j) →
    (sum_to g n ≤ n) × ((i : ℕ) → i < sum_to g n → b i ≤ τ) × ((i : ℕ) → sum_to g n ≤ i → i < n → τ < b i)
unfolding sum_to
risen b τ zero g e up = (omega arith, λ i p. absurd (omega arith), λ i p q. absurd (omega arith))
risen b τ (suc n) g e up = at (risen b τ n g e (λ i j p q. up i j p (omega arith)))
  where
    at : (sum_to g n ≤ n) × ((i : ℕ) → i < sum_to g n → b i ≤ τ) × ((i : ℕ) → sum_to g n ≤ i → i < n → τ < b i) →
        (g n + sum_to g n ≤ suc n) × ((i : ℕ) → i < g n + sum_to g n → b i ≤ τ) × ((i : ℕ) → g n + sum_to g n ≤ i → i < suc n → τ < b i)
    at (few, low, high) =
        subst (λ (k : ℕ). (k + sum_to g n ≤ suc n) × ((i : ℕ) → i < k + sum_to g n → b i ≤ τ) × ((i : ℕ) → k + sum_to g n ≤ i → i < suc n → τ < b i))
        (sym (e n))
        (by_le (λ (k : ℕ). (k + sum_to g n ≤ suc n) × ((i : ℕ) → i < k + sum_to g n → b i ≤ τ) ×
        ((i : ℕ) → k + sum_to g n ≤ i → i < suc n → τ < b i)) (b n) τ
        (λ p. (omega arith, λ i q. until p i q (split i n), λ i q r. absurd (beyond p i q r (split (sum_to g n) n))))
        (λ p. (omega arith, λ i q. low i (omega arith), λ i q r. from p i (omega arith) r (same? i n))))
      where
        until : b n ≤ τ → (i : ℕ) → i < 1 + sum_to g n → Split i n → b i ≤ τ
        until p i q (Split.less r) = omega (arith, up i n r (omega arith))
        until p i q (Split.more r) = let z : i ≡ n = omega arith in omega (arith, ap b z)

        beyond : b n ≤ τ → (i : ℕ) → 1 + sum_to g n ≤ i → i < suc n → Split (sum_to g n) n → ⊥
        beyond p i q r (Split.less z) = omega (arith, high (sum_to g n) (omega arith) z, up (sum_to g n) n z (omega arith))
        beyond p i q r (Split.more z) = omega arith

        from : τ < b n → (i : ℕ) → sum_to g n ≤ i → i < suc n → Same i n → τ < b i
        from p i q r (eq z) = omega (arith, ap b z)
        from p i q r (ne z) = high i q (omega arith)

module _ (s : Catalogue) (invariant : Invariant s) (run : List Note) (E : Effected s run) where
  -- the items of the object at τ are those born up to then
  abbrev born_at : ℕ → ℕ
  born_at i = (s.memory.item i).effect_at 0

  pub known_items : (τ : ℕ) → ((object_at τ (effects run)).items ≤ s.memory.items) × ((i : ℕ) → i < (object_at τ (effects run)).items → born_at i ≤ τ)
      × ((i : ℕ) → (object_at τ (effects run)).items ≤ i → i < s.memory.items → τ < born_at i)
  known_items τ =
      subst (λ (k : ℕ). (k ≤ s.memory.items) × ((i : ℕ) → i < k → born_at i ≤ τ) × ((i : ℕ) → k ≤ i → i < s.memory.items → τ < born_at i))
      (sym (E.memory.items τ)) (risen born_at τ s.memory.items (born_by τ s.memory) one_each rising)
    where
      one_each : (i : ℕ) → born_by τ s.memory i ≡ cond (leb (born_at i) τ) 1 0
      one_each i = unfold object_at apply in (at (leb (born_at i) τ))
        where
          at : (b : Bool) → (cond b (apply (register i ((s.memory.item i).value 0) (s.memory.item i).size) empty) empty).items ≡ cond b 1 0
          at true = unfold apply in refl
          at false = refl

      rising : (i j : ℕ) → i < j → j < s.memory.items → born_at i ≤ born_at j
      rising i j p q = omega (
        arith,
        invariant.kept.memory.births i j p q,
        (invariant.kept.memory.item i).birth
            (invariant.kept.memory.registered i (omega arith)),
        (invariant.kept.memory.item j).birth (invariant.kept.memory.registered j q),
      )

  -- an item with a valid version is registered
  pub is_registered : (i : ℕ) → 0 < (s.memory.item i).valid → i < s.memory.items
  is_registered i p = at (split i s.memory.items)
    where
      at : Split i s.memory.items → i < s.memory.items
      at (Split.less q) = q
      at (Split.more q) = absurd (omega (arith, invariant.kept.memory.unregistered i q, (invariant.kept.memory.item i).valid_published))

  -- an item is born at τ exactly when its first version took effect by then
  pub born_exactly : (i τ : ℕ) → Born i (object_at τ (effects run)) ↔ ((0 < (s.memory.item i).valid) × (born_at i ≤ τ))
  born_exactly i τ = (
    λ b. at (born_told τ i (effects run) b) (E.memory.only _ (born_told τ i (effects run) b).among),
    λ x. told_born τ i (born_at i) ((s.memory.item i).value 0) (s.memory.item i).size (effects run) (E.memory.versions i 0 x.0) x.1,
  )
    where
      at : (B : Told τ i (effects run)) → IsEffect s.memory (birth B.t i B.v B.s) → (0 < (s.memory.item i).valid) × (born_at i ≤ τ)
      at B (IsEffect.of_counter h p e) = absurd (omega (arith, ap effect_tag e))
      at B (IsEffect.of_version k (suc j) p e) = absurd (omega (arith, ap effect_tag e))
      at B (IsEffect.of_version k zero p e) =
          subst (λ (x : ℕ). (0 < (s.memory.item x).valid) × (born_at x ≤ τ)) (sym (ap effect_item e)) (p, omega (arith, ap time e, B.by_then))

  -- those born are the ones below the number of items
  pub born_in_turn : (i τ : ℕ) → Born i (object_at τ (effects run)) ↔ (i < (object_at τ (effects run)).items)
  born_in_turn i τ = (
    λ b. below ((born_exactly i τ).0 b) (split i (object_at τ (effects run)).items),
    λ p. (born_exactly i τ).1 (invariant.kept.memory.registered i (omega (arith, (known_items τ).0)), (known_items τ).1 i p),
  )
    where
      below : (0 < (s.memory.item i).valid) × (born_at i ≤ τ) → Split i (object_at τ (effects run)).items → i < (object_at τ (effects run)).items
      below x (Split.less p) = p
      below x (Split.more p) = absurd (omega (arith, x.1, (known_items τ).2 i p (is_registered i x.0)))

  -- an item with a version in effect at τ was born by then
  pub born_then : (i τ j : ℕ) → Sees (s.memory.item i) τ j → Born i (object_at τ (effects run))
  born_then i τ j x = (born_exactly i τ).1 (omega (arith, x.have), born_seen s invariant i τ j x)
