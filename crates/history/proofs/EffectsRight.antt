-- The list of effects holds one effect for each version with a valid stamp and one for each number that the counter left, and nothing else.
use Rattle.std.specs.Prelude.{◌≡◌, refl, ◌≢◌, ◌⊎◌, Bool, true, false, cond, ◌&&◌, List, [], ◌∷◌, ℕ, zero, suc, ◌+◌, ◌≤◌, ◌<◌, ltb, leb}
use Rattle.std.proofs.Common.{ap, ap₂, sym, ◌∙◌, subst, inl, inr, arith}
use Rattle.history.specs.Tools.{Split, split, Same, eq, ne, same?, ne_eqb}
use Rattle.history.specs.Definition1.{with_value, empty}
use Rattle.history.specs.Notes.{Effect, birth, change, snapshot, time, object_at, changes_between}
use Rattle.history.specs.Effects.{insert}
use Rattle.history.specs.Statements.{In, Once, Falling}
use Rattle.history.specs.Machine.{Item, Camera, Memory}
use Rattle.history.specs.Facts.{MemoryFacts, LaterItem, Later}
use Rattle.history.proofs.NodeCount.{sum_to, sum_same}
use Rattle.history.proofs.EffectList.{among_insert, insert_among, insert_only, insert_ordered, insert_once, count_insert, items_insert}

-- the parts of effects, to tell them apart
abbrev pub effect_tag : Effect → ℕ
effect_tag (birth t i v s) = 0
effect_tag (change t i v p) = 1
effect_tag (snapshot t h) = 2

abbrev pub effect_item : Effect → ℕ
effect_item (birth t i v s) = i
effect_item (change t i v p) = i
effect_item (snapshot t h) = h

abbrev pub effect_published : Effect → ℕ
effect_published (birth t i v s) = 0
effect_published (change t i v p) = p
effect_published (snapshot t h) = 0

-- the effect of a version: the first is its item's birth
abbrev pub version_effect : Item → ℕ → ℕ → Effect
version_effect it i zero = birth (it.effect_at 0) i (it.value 0) it.size
version_effect it i (suc j) = change (it.effect_at (suc j)) i (it.value (suc j)) (it.published_at (suc j))

abbrev pub snapshot_effect : Camera → ℕ → Effect
snapshot_effect k h = snapshot (k.left_at h) h

pub data IsEffect (m : Memory) (x : Effect) : Type 0 where
  of_version : (i j : ℕ) → j < (m.item i).valid → x ≡ version_effect (m.item i) i j → IsEffect m x
  of_counter : (h : ℕ) → h < m.camera.counter → x ≡ snapshot_effect m.camera h → IsEffect m x

-- the counter left h at t
pub left_then : (m : Memory) (h t : ℕ) → IsEffect m (snapshot t h) → (h < m.camera.counter) × (t ≡ m.camera.left_at h)
left_then m h t (of_counter h' p e) = (omega (arith, ap effect_item e), ap time e ∙ ap m.camera.left_at (sym (ap effect_item e)))
left_then m h t (of_version i zero p e) = absurd (omega (arith, ap effect_tag e))
left_then m h t (of_version i (suc j) p e) = absurd (omega (arith, ap effect_tag e))

-- what a version adds to a count of changes, and an item to the number of those born up to τ
abbrev pub counted : (i τ f : ℕ) → Item → ℕ → ℕ
counted i τ f it j = changes_between i τ f (version_effect it i j ∷ [])

abbrev pub born_by : ℕ → Memory → ℕ → ℕ
born_by τ m i = (object_at τ (version_effect (m.item i) i 0 ∷ [])).items

pub record MemoryEffects (m : Memory) (l : List Effect) : Type 0 where
  pub ordered : Falling time l
  pub once : Once l
  pub versions : (i j : ℕ) → j < (m.item i).valid → In (version_effect (m.item i) i j) l
  pub snapshots : (h : ℕ) → h < m.camera.counter → In (snapshot_effect m.camera h) l
  pub only : (x : Effect) → In x l → IsEffect m x
  pub count : (i τ f : ℕ) → changes_between i τ f l ≡ sum_to (counted i τ f (m.item i)) (m.item i).valid
  pub items : (τ : ℕ) → (object_at τ l).items ≡ sum_to (born_by τ m) m.items

-- ---- an effect that was there stays

version_later : {t : ℕ} {it it' : Item} → LaterItem t it it' → it.valid ≤ it.versions → (i j : ℕ) → j < it.valid →
    version_effect it' i j ≡ version_effect it i j
version_later {t} {it} {it'} L p i zero q =
    ap (λ (t : ℕ). birth t i (it'.value 0) it'.size) (L.effect_at 0 q)
    ∙ ap₂ (λ (v s : ℕ). birth (it.effect_at 0) i v s) (L.value 0 (omega arith)) (L.size (omega arith))
version_later {t} {it} {it'} L p i (suc j) q =
    ap (λ (t : ℕ). change t i (it'.value (suc j)) (it'.published_at (suc j))) (L.effect_at (suc j) q)
    ∙ ap₂ (λ (v s : ℕ). change (it.effect_at (suc j)) i v s) (L.value (suc j) (omega arith)) (L.published_at (suc j) (omega arith))

one_more : (g : ℕ → ℕ) (n : ℕ) → g n + sum_to g n ≡ sum_to g (suc n)
unfolding sum_to
one_more g n = refl

-- an effect on one item is no change of another
other_item : (n τ f : ℕ) (it : Item) (i j : ℕ) → n ≢ i → changes_between n τ f (version_effect it i j ∷ []) ≡ 0
unfolding changes_between
other_item n τ f it i zero d = refl
other_item n τ f it i (suc j) d = ap (λ (b : Bool). cond b 1 0 + 0)
    (ap (λ (b : Bool). b && (ltb τ (it.effect_at (suc j)) && ltb (it.published_at (suc j)) f)) (ne_eqb n i d))
    ∙ omega arith

no_snapshot : (i τ f t h : ℕ) → changes_between i τ f (snapshot t h ∷ []) ≡ 0
unfolding changes_between
no_snapshot i τ f t h = refl

-- only a birth adds an item
no_item : (τ t i v p : ℕ) → (object_at τ (change t i v p ∷ [])).items ≡ 0
unfolding object_at
no_item τ t i v p = at (leb t τ)
  where
    at : (b : Bool) → (cond b (with_value empty i v) empty).items ≡ 0
    at true = refl
    at false = refl

no_item_then : (τ t h : ℕ) → (object_at τ (snapshot t h ∷ [])).items ≡ 0
unfolding object_at
no_item_then τ t h = refl

module _ {t : ℕ} {m m' : Memory} (L : Later t m m') (known : MemoryFacts t m) (l : List Effect) (E : MemoryEffects m l) where
  old_version : (i j : ℕ) → j < (m.item i).valid → In (version_effect (m'.item i) i j) l
  old_version i j p = subst (λ (x : Effect). In x l) (sym (version_later (L.item i) (known.item i).valid_published i j p)) (E.versions i j p)

  old_snapshot : (h : ℕ) → h < m.camera.counter → In (snapshot_effect m'.camera h) l
  old_snapshot h p = subst (λ (τ : ℕ). In (snapshot τ h) l) (sym (L.camera.same h p)) (E.snapshots h p)

  old_only : (x : Effect) → IsEffect m x → IsEffect m' x
  old_only x (of_version i j p e) = of_version i j (omega (arith, (L.item i).more_valid))
      (e ∙ sym (version_later (L.item i) (known.item i).valid_published i j p))
  old_only x (of_counter h p e) = of_counter h (omega (arith, L.camera.counters))
      (e ∙ ap (λ (τ : ℕ). snapshot τ h) (sym (L.camera.same h p)))

  old_count : (i τ f : ℕ) → sum_to (counted i τ f (m'.item i)) (m.item i).valid ≡ sum_to (counted i τ f (m.item i)) (m.item i).valid
  old_count i τ f =
      sum_same (counted i τ f (m.item i)) (counted i τ f (m'.item i)) (m.item i).valid
      (λ j p. ap (λ (x : Effect). changes_between i τ f (x ∷ [])) (version_later (L.item i) (known.item i).valid_published i j p))

  old_items : (τ : ℕ) → sum_to (born_by τ m') m.items ≡ sum_to (born_by τ m) m.items
  old_items τ = sum_same (born_by τ m) (born_by τ m') m.items
      (λ i p. ap (λ (x : Effect). (object_at τ (x ∷ [])).items)
      (version_later (L.item i) (known.item i).valid_published i 0 (known.registered i p)))

  -- nothing is new
  pub same_effects : ((i : ℕ) → (m'.item i).valid ≡ (m.item i).valid) → m'.camera.counter ≡ m.camera.counter → m'.items ≡ m.items →
      MemoryEffects m' l
  same_effects a b n =
      record {
        ordered = E.ordered;
        once = E.once;
        versions = λ i j p. old_version i j (omega (arith, a i));
        snapshots = λ h p. old_snapshot h
            (omega arith);
        only = λ x p. old_only x (E.only x p);
        count = λ i τ f. E.count i τ f ∙ sym (old_count i τ f) ∙ ap (sum_to (counted i τ f (m'.item i))) (sym (a i));
        items = λ τ. E.items τ ∙ sym (old_items τ) ∙ ap (sum_to (born_by τ m')) (sym n);
      }

  abbrev pub more_items : ℕ → ℕ → ℕ
  more_items i zero = suc m.items
  more_items i (suc j) = m.items

  -- version j of item i has its stamp
  pub one_version : (i j : ℕ) → (m.item i).valid ≡ j → (m'.item i).valid ≡ suc j → ((n : ℕ) → n ≢ i → (m'.item n).valid ≡ (m.item n).valid) →
      m'.camera.counter ≡ m.camera.counter →
      m'.items ≡ more_items i j → (j ≡ 0 → i ≡ m.items) → (x : Effect) → x ≡ version_effect (m'.item i) i j → (In x l → ⊥) → MemoryEffects m'
      (insert x l)
  one_version i j a a' b c items born x e new =
      record {
        ordered = insert_ordered x l E.ordered;
        once = insert_once x l new E.once;
        versions = λ n k p. versions n k p (same? n i) (split k (m.item n).valid);
        snapshots = λ h p. among_insert x _ l (old_snapshot h (omega arith));
        only = λ y p. only y (insert_only x y l p);
        count = λ n τ f. count n τ f (same? n i);
        items = λ τ. items_insert τ x l ∙ ap (λ (y : Effect). (object_at τ (y ∷ [])).items + (object_at τ l).items) e ∙ items_now j τ refl born;
      }
    where
      items_now : (j' τ : ℕ) → j ≡ j' → (j ≡ 0 → i ≡ m.items) →
          (object_at τ (version_effect (m'.item i) i j ∷ [])).items + (object_at τ l).items ≡ sum_to (born_by τ m') m'.items
      items_now zero τ q r =
          ap (λ (j : ℕ). (object_at τ (version_effect (m'.item i) i j ∷ [])).items + (object_at τ l).items) q
          ∙ omega (
            arith,
            E.items τ,
            old_items τ,
            one_more (born_by τ m') m.items,
            ap (born_by τ m') (r q),
            ap (sum_to (born_by τ m'))
                (items ∙ ap (more_items i) q),
          )
      items_now (suc j') τ q r = ap (λ (j : ℕ). (object_at τ (version_effect (m'.item i) i j ∷ [])).items + (object_at τ l).items) q
          ∙ omega (
            arith,
            no_item τ ((m'.item i).effect_at (suc j')) i ((m'.item i).value (suc j')) ((m'.item i).published_at (suc j')),
            E.items τ,
            old_items τ,
            ap (sum_to (born_by τ m')) (items ∙ ap (more_items i) q),
          )

      versions : (n k : ℕ) → k < (m'.item n).valid → Same n i → Split k (m.item n).valid → In (version_effect (m'.item n) n k) (insert x l)
      versions n k p q (Split.less u) = among_insert x _ l (old_version n k u)
      versions n k p (ne q) (Split.more u) = absurd (omega (arith, b n q))
      versions n k p (eq q) (Split.more u) =
          let z : j ≡ k = omega (arith, ap (λ (n : ℕ). (m.item n).valid) q, ap (λ (n : ℕ). (m'.item n).valid) q) in
          subst (λ (y : Effect). In y (insert x l)) (e ∙ ap₂ (λ (n k : ℕ). version_effect (m'.item n) n k) (sym q) z) (insert_among x l)

      only : (y : Effect) → (y ≡ x) ⊎ In y l → IsEffect m' y
      only y (inl q) = of_version i j (omega arith) (q ∙ e)
      only y (inr q) = old_only y (E.only y q)

      count : (n τ f : ℕ) → Same n i → changes_between n τ f (insert x l) ≡ sum_to (counted n τ f (m'.item n)) (m'.item n).valid
      count n τ f (ne q) =
          count_insert n τ f x l
          ∙ ap (λ (y : ℕ). y + changes_between n τ f l) (ap (λ (y : Effect). changes_between n τ f (y ∷ [])) e ∙ other_item n τ f (m'.item i) i j
          q)
          ∙ omega (arith, E.count n τ f, old_count n τ f, ap (sum_to (counted n τ f (m'.item n))) (b n q))
      count n τ f (eq q) =
          subst (λ (n : ℕ). changes_between n τ f (insert x l) ≡ sum_to (counted n τ f (m'.item n)) (m'.item n).valid) (sym q)
          (count_insert i τ f x l
          ∙ ap₂ (λ (a b : ℕ). a + b) (ap (λ (y : Effect). changes_between i τ f (y ∷ [])) e) (E.count i τ f ∙ sym (old_count i τ f)
          ∙ ap (sum_to (counted i τ f (m'.item i))) a)
          ∙ one_more (counted i τ f (m'.item i)) j
          ∙ ap (sum_to (counted i τ f (m'.item i))) (sym a'))

  -- the counter left its number
  pub one_snapshot : ((i : ℕ) → (m'.item i).valid ≡ (m.item i).valid) → m'.camera.counter ≡ suc m.camera.counter → m'.items ≡ m.items →
      (x : Effect) → x ≡ snapshot_effect m'.camera m.camera.counter → MemoryEffects m' (insert x l)
  one_snapshot a b n x e =
      record {
        ordered = insert_ordered x l E.ordered;
        once = insert_once x l (λ a. later_handle (E.only x a)) E.once;
        versions = λ i j p. among_insert x _ l (old_version i j (omega (arith, a i)));
        snapshots = λ h p. snapshots h p (split h m.camera.counter);
        only = λ y p. only y (insert_only x y l p);
        count = λ i τ f. count_insert i τ f x l
            ∙ ap (λ (y : ℕ). y + changes_between i τ f l) (ap (λ (y : Effect). changes_between i τ f (y ∷ [])) e ∙ no_snapshot i τ f _ _)
            ∙ omega (arith, E.count i τ f, old_count i τ f, ap (sum_to (counted i τ f (m'.item i))) (a i));
        items = λ τ. items_insert τ x l
            ∙ ap (λ (y : ℕ). y + (object_at τ l).items) (ap (λ (y : Effect). (object_at τ (y ∷ [])).items) e ∙ no_item_then τ _ _)
            ∙ omega (arith, E.items τ, old_items τ, ap (sum_to (born_by τ m')) n);
      }
    where
      later_handle : IsEffect m x → ⊥
      later_handle (of_counter h p q) = omega (arith, ap effect_item (sym e ∙ q))
      later_handle (of_version i zero p q) = let z : ◌≡◌ {A = ℕ} 2 0 = ap effect_tag (sym e ∙ q) in omega arith
      later_handle (of_version i (suc j) p q) = let z : ◌≡◌ {A = ℕ} 2 1 = ap effect_tag (sym e ∙ q) in omega arith

      snapshots : (h : ℕ) → h < m'.camera.counter → Split h m.camera.counter → In (snapshot_effect m'.camera h) (insert x l)
      snapshots h p (Split.less u) = among_insert x _ l (old_snapshot h u)
      snapshots h p (Split.more u) = let z : m.camera.counter ≡ h = omega arith in
          subst (λ (y : Effect). In y (insert x l)) (e ∙ ap (snapshot_effect m'.camera) z) (insert_among x l)

      only : (y : Effect) → (y ≡ x) ⊎ In y l → IsEffect m' y
      only y (inl q) = of_counter m.camera.counter (omega arith) (q ∙ e)
      only y (inr q) = old_only y (E.only y q)
