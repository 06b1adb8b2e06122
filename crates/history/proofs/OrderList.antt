-- The list of the placed operations: by keys, twice the time, and one more for those that see and do not change.
use Rattle.std.specs.Prelude.{◌≡◌, ◌≢◌, Bool, true, false, cond, ℕ, zero, suc, ◌+◌, ◌*◌, ◌≤◌, ◌<◌, T, eqb}
use Rattle.std.proofs.Math.Path.{refl, ap, sym}
use Rattle.std.proofs.Common.{ap₂, ◌∙◌, subst, arith, eqb→eq}
use Rattle.std.proofs.Math.Logic.{inl, inr}
use mathlib.Core.List.{List, [], ◌∷◌, map}
use Rattle.std.proofs.Math.Dec.{eqb_refl}
use Rattle.history.specs.Tools.{Split, split, Same, eq, ne, same?}
use Rattle.history.specs.Machine.{Item, Memory, Operation, take_snapshot, Place, unplaced, awaits, changes, observes, Catalogue}
use Rattle.history.specs.Facts.{Sees}
use Rattle.history.proofs.RightAnswers.{change_answer}
use Rattle.history.proofs.Places.{Invariant}
use Rattle.history.specs.Definition1.{Act, Object, object, Answered, Legal}
use Rattle.history.proofs.MachineOrder.{In, Once, Falling, time_of, key_of}

-- ---- keys

abbrev pub keyed : Memory → Place → ℕ → Bool
keyed m unplaced k = false
keyed m (awaits i j) k = false
keyed m (changes i j) k = eqb (2 * (m.item i).effect_at j) k
keyed m (observes τ j x) k = eqb (2 * τ + 1) k

abbrev pub answer_at : Operation → Place → ℕ
answer_at operation unplaced = 0
answer_at operation (awaits i j) = 0
answer_at operation (changes i j) = change_answer operation
answer_at operation (observes τ j x) = x

module _ (m : Memory) where
  pub key_unique : (p : Place) (k k' : ℕ) → T (keyed m p k) → T (keyed m p k') → k ≡ k'
  key_unique unplaced k k' a b = absurd a
  key_unique (awaits i j) k k' a b = absurd a
  key_unique (changes i j) k k' a b = sym (eqb→eq _ k a) ∙ eqb→eq _ k' b
  key_unique (observes τ j x) k k' a b = sym (eqb→eq _ k a) ∙ eqb→eq _ k' b

  pub key_is : (p : Place) (k : ℕ) → T (keyed m p k) → key_of m p ≡ k
  key_is unplaced k a = absurd a
  key_is (awaits i j) k a = absurd a
  key_is (changes i j) k a = eqb→eq _ k a
  key_is (observes τ j x) k a = eqb→eq _ k a

  pub key_time : (p : Place) (k : ℕ) → T (keyed m p k) → (2 * time_of m p ≤ k) × (k ≤ 2 * time_of m p + 1)
  key_time unplaced k a = absurd a
  key_time (awaits i j) k a = absurd a
  key_time (changes i j) k a = let e : 2 * (m.item i).effect_at j ≡ k = eqb→eq _ k a in (omega arith, omega arith)
  key_time (observes τ j x) k a = let e : 2 * τ + 1 ≡ k = eqb→eq _ k a in (omega arith, omega arith)

-- those below n with key k, onto l
unfoldable pub slot_onto : Memory → (ℕ → Place) → ℕ → ℕ → List ℕ → List ℕ
slot_onto m place k zero l = l
slot_onto m place k (suc n) l = cond (keyed m (place n) k) (n ∷ slot_onto m place k n l) (slot_onto m place k n l)

-- those with keys below k
unfoldable pub order_to : Memory → (ℕ → Place) → ℕ → ℕ → List ℕ
order_to m place now zero = []
order_to m place now (suc k) = slot_onto m place k now (order_to m place now k)

abbrev pub shown_value : Item → ℕ → ℕ
shown_value it zero = 0
shown_value it (suc j) = it.value j

module _ (s : Catalogue) (invariant : Invariant s) where
  unfoldable pub acts_of : List ℕ → List Act
  acts_of l = map (λ o. record { operation = (s.fate o).operation; answer = answer_at (s.fate o).operation (s.place o) }) l

  pub record Keyed (k n o : ℕ) : Type 0 where
    pub key : ℕ
    pub has : T (keyed s.memory (s.place o) key)
    pub le : key ≤ k
    pub lt : key ≡ k → o < n
    pub begun : o < s.now

  -- l holds the operations with keys below k, and those below n with key k
  pub record Listed (k n : ℕ) (l : List ℕ) : Type 0 where
    pub once : Once l
    pub memory : (o : ℕ) → In o l → Keyed k n o
    pub below : (o c : ℕ) → o < s.now → T (keyed s.memory (s.place o) c) → c < k → In o l
    pub here : (o : ℕ) → o < n → T (keyed s.memory (s.place o) k) → In o l
    pub falling : Falling (λ o. time_of s.memory (s.place o)) l
    pub keys : Falling (λ o. key_of s.memory (s.place o)) l

  -- x is the object as it was when the counter left h
  pub record Shot (h : ℕ) (x : Object) : Type 0 where
    pub value : (i j : ℕ) → Sees (s.memory.item i) (s.memory.camera.left_at h) j → x.value i ≡ (s.memory.item i).value j
    pub low : (i : ℕ) → i < x.items → (s.memory.item i).effect_at 0 ≤ s.memory.camera.left_at h
    pub have : (i : ℕ) → i < x.items → 0 < (s.memory.item i).valid
    pub high : (i : ℕ) → x.items ≤ i → 0 < (s.memory.item i).valid → s.memory.camera.left_at h < (s.memory.item i).effect_at 0
    pub sizes : (i : ℕ) → i < x.items → x.size i ≡ (s.memory.item i).size
    pub all_born : (i : ℕ) → i < x.items → x.born i ≡ true

  -- cur i: how many versions of item i have taken effect in l; nreg: how many items
  pub record Shown (k n : ℕ) (l : List ℕ) : Type 0 where
    pub shown : ℕ → ℕ
    pub shown_valid : (i : ℕ) → shown i ≤ (s.memory.item i).valid
    pub before : (i j : ℕ) → j < shown i → 2 * (s.memory.item i).effect_at j ≤ k
    pub before_same : (i j : ℕ) → j < shown i → 2 * (s.memory.item i).effect_at j ≡ k → (s.memory.item i).author j < n
    pub after : (i j : ℕ) → shown i ≤ j → j < (s.memory.item i).valid → k ≤ 2 * (s.memory.item i).effect_at j
    pub after_same : (i j : ℕ) → shown i ≤ j → j < (s.memory.item i).valid → 2 * (s.memory.item i).effect_at j ≡ k → n ≤ (s.memory.item i).author j
    pub value : (i : ℕ) → (object (acts_of l)).value i ≡ shown_value (s.memory.item i) (shown i)
    pub items : ℕ
    pub items_is : (object (acts_of l)).items ≡ items
    pub low : (i : ℕ) → i < items → 0 < shown i
    pub high : (i : ℕ) → items ≤ i → shown i ≡ 0
    pub sizes : (i : ℕ) → i < items → (object (acts_of l)).size i ≡ (s.memory.item i).size
    pub all_born : (i : ℕ) → i < items → (object (acts_of l)).born i ≡ true
    pub snaps : (h : ℕ) (p : List Act) → Answered take_snapshot h p (acts_of l) → Shot h (object p)
    pub legal : Legal (acts_of l)

  pub record Good (k n : ℕ) (l : List ℕ) : Type 0 where
    pub listed : Listed k n l
    pub shown : Shown k n l

  -- ---- the list

  pub listed_skip : {k n : ℕ} {l : List ℕ} → Listed k n l → (T (keyed s.memory (s.place n) k) → ⊥) → Listed k (suc n) l
  listed_skip {k} {n} {l} A d =
      record {
        once = A.once;
        below = A.below;
        falling = A.falling;
        keys = A.keys;
        memory = λ o i. let p : Keyed k n o = A.memory o i in
            record { key = p.key; has = p.has; le = p.le; lt = λ e. omega (arith, p.lt e); begun = p.begun };
        here = λ o u v. at o u v (same? o n);
      }
    where
      at : (o : ℕ) → o < suc n → T (keyed s.memory (s.place o) k) → Same o n → In o l
      at o u v (eq e) = absurd (d (subst (λ (o : ℕ). T (keyed s.memory (s.place o) k)) e v))
      at o u v (ne e) = A.here o (omega arith) v

  pub listed_take : {k n : ℕ} {l : List ℕ} → Listed k n l → n < s.now → T (keyed s.memory (s.place n) k) → Listed k (suc n) (n ∷ l)
  listed_take {k} {n} {l} A b x =
      record {
        once = (
          λ i. let p : Keyed k n n = A.memory n i in absurd (omega (arith, p.lt (key_unique s.memory (s.place n) p.key k p.has x))),
          A.once,
        );
        below = λ o c u v w. inr (A.below o c u v w);
        falling = (
          λ q i. let p : Keyed k n q = A.memory q i in
              omega (arith, (key_time s.memory (s.place q) p.key p.has).0, p.le, (key_time s.memory (s.place n) k x).1),
          A.falling,
        );
        keys = (
          λ q i. let p : Keyed k n q = A.memory q i in
              omega (arith, key_is s.memory (s.place q) p.key p.has, p.le, key_is s.memory (s.place n) k x),
          A.keys,
        );
        memory = λ o i. put o i;
        here = λ o u v. at o u v (same? o n);
      }
    where
      put : (o : ℕ) → In o (n ∷ l) → Keyed k (suc n) o
      put o (inl e) = record {
        key = k;
        has = subst (λ (o : ℕ). T (keyed s.memory (s.place o) k)) (sym e) x;
        le = omega arith;
        lt = λ z. omega arith;
        begun = omega arith;
      }
      put o (inr i) = let p : Keyed k n o = A.memory o i in
          record { key = p.key; has = p.has; le = p.le; lt = λ e. omega (arith, p.lt e); begun = p.begun }

      at : (o : ℕ) → o < suc n → T (keyed s.memory (s.place o) k) → Same o n → In o (n ∷ l)
      at o u v (eq e) = inl e
      at o u v (ne e) = inr (A.here o (omega arith) v)

  pub listed_next : {k : ℕ} {l : List ℕ} → Listed k s.now l → Listed (suc k) 0 l
  listed_next {k} {l} A =
      record {
        once = A.once;
        falling = A.falling;
        keys = A.keys;
        memory = λ o i. let p : Keyed k s.now o = A.memory o i in
            record { key = p.key; has = p.has; le = omega (arith, p.le); lt = λ e. omega (arith, p.le); begun = p.begun };
        below = λ o c u v w. at o c u v w (same? c k);
        here = λ o u v. absurd (omega arith);
      }
    where
      at : (o c : ℕ) → o < s.now → T (keyed s.memory (s.place o) c) → c < suc k → Same c k → In o l
      at o c u v w (eq e) = A.here o u (subst (λ (c : ℕ). T (keyed s.memory (s.place o) c)) e v)
      at o c u v w (ne e) = A.below o c u v (omega arith)

  -- ---- what the list shows

  pub change_key : (i j : ℕ) → j < (s.memory.item i).valid →
      T (keyed s.memory (s.place ((s.memory.item i).author j)) (2 * (s.memory.item i).effect_at j))
  change_key i j p = subst (λ (x : Place). T (keyed s.memory x (2 * (s.memory.item i).effect_at j)))
      (sym ((invariant.kept.versions_right i j (omega (arith, (invariant.kept.memory.item i).valid_published))).valid p))
      (eqb_refl (2 * (s.memory.item i).effect_at j))

  pub effect_next : (i j : ℕ) → suc j < (s.memory.item i).valid → (s.memory.item i).effect_at j < (s.memory.item i).effect_at (suc j)
  effect_next i j p = omega (
    arith,
    (invariant.kept.memory.item i).effect_before_22 j (omega arith),
    (invariant.kept.memory.item i).next j
        (omega (arith, (invariant.kept.memory.item i).valid_published)),
    (invariant.kept.memory.item i).effect_after_46 (suc j) p,
  )

  pub effects_rise : (i c j : ℕ) → c < j → j < (s.memory.item i).valid → (s.memory.item i).effect_at c < (s.memory.item i).effect_at j
  effects_rise i c zero p q = absurd (omega arith)
  effects_rise i c (suc j) p q = at (effects_rise i c j) (same? c j)
    where
      at : (c < j → j < (s.memory.item i).valid → (s.memory.item i).effect_at c < (s.memory.item i).effect_at j) → Same c j →
          (s.memory.item i).effect_at c < (s.memory.item i).effect_at (suc j)
      at f (eq e) = subst (λ (c : ℕ). (s.memory.item i).effect_at c < (s.memory.item i).effect_at (suc j)) (sym e) (effect_next i j q)
      at f (ne e) = omega (arith, f (omega arith) (omega arith), effect_next i j q)

  -- an item was registered before any of its versions is seen
  pub born_seen : (i τ j : ℕ) → Sees (s.memory.item i) τ j → (s.memory.item i).effect_at 0 ≤ τ
  born_seen i τ j a = at (same? 0 j)
    where
      at : Same 0 j → (s.memory.item i).effect_at 0 ≤ τ
      at (eq e) = subst (λ (j : ℕ). (s.memory.item i).effect_at j ≤ τ) (sym e) a.begun
      at (ne e) = omega (arith, effects_rise i 0 j (omega arith) a.have, a.begun)

  pub author_past : (i j : ℕ) → j < (s.memory.item i).valid → (s.memory.item i).author j < s.now
  author_past i j p = omega (
    arith,
    (invariant.kept.memory.item i).author_first j (omega (arith, (invariant.kept.memory.item i).valid_published)),
    (invariant.kept.memory.item i).published_past j (omega (arith, (invariant.kept.memory.item i).valid_published)),
  )

  pub shown_skip : {k n : ℕ} {l : List ℕ} → Shown k n l → (T (keyed s.memory (s.place n) k) → ⊥) → Shown k (suc n) l
  shown_skip {k} {n} {l} B d =
      record {
        shown = B.shown;
        shown_valid = B.shown_valid;
        before = B.before;
        after = B.after;
        value = B.value;
        items = B.items;
        items_is = B.items_is;
        low = B.low;
        high = B.high;
        sizes = B.sizes;
        all_born = B.all_born;
        snaps = B.snaps;
        legal = B.legal;
        before_same = λ i j p e. omega (arith, B.before_same i j p e);
        after_same = λ i j p q e. omega (arith, B.after_same i j p q e, other i j q e);
      }
    where
      other : (i j : ℕ) → j < (s.memory.item i).valid → 2 * (s.memory.item i).effect_at j ≡ k → (s.memory.item i).author j ≢ n
      other i j q e z =
          d (subst (λ (o : ℕ). T (keyed s.memory (s.place o) k)) z
          (subst (λ (c : ℕ). T (keyed s.memory (s.place ((s.memory.item i).author j)) c)) e (change_key i j q)))

  pub shown_next : {k : ℕ} {l : List ℕ} → Shown k s.now l → Shown (suc k) 0 l
  shown_next {k} {l} B =
      record {
        shown = B.shown;
        shown_valid = B.shown_valid;
        value = B.value;
        items = B.items;
        items_is = B.items_is;
        low = B.low;
        high = B.high;
        sizes = B.sizes;
        all_born = B.all_born;
        snaps = B.snaps;
        legal = B.legal;
        before = λ i j p. omega (arith, B.before i j p);
        before_same = λ i j p e. absurd (omega (arith, B.before i j p));
        after = λ i j p q. at i j p q (same? (2 * (s.memory.item i).effect_at j) k);
        after_same = λ i j p q e. omega arith;
      }
    where
      at : (i j : ℕ) → B.shown i ≤ j → j < (s.memory.item i).valid → Same (2 * (s.memory.item i).effect_at j) k →
          suc k ≤ 2 * (s.memory.item i).effect_at j
      at i j p q (eq e) = absurd (omega (arith, B.after_same i j p q e, author_past i j q))
      at i j p q (ne e) = omega (arith, B.after i j p q)

  -- one who sees at τ sees the last version shown
  pub sees_shown : {k n τ : ℕ} {l : List ℕ} (B : Shown k n l) → 2 * τ + 1 ≡ k → (i j : ℕ) → Sees (s.memory.item i) τ j → B.shown i ≡ suc j
  sees_shown {k} {n} {τ} B q i j x = at (split j (B.shown i)) (split (suc j) (B.shown i))
    where
      at : Split j (B.shown i) → Split (suc j) (B.shown i) → B.shown i ≡ suc j
      at (Split.more u) v = absurd (omega (arith, B.after i j u x.have, x.begun))
      at (Split.less u) (Split.less v) = absurd (omega (arith, B.before i (suc j) v, x.not_yet (omega (arith, B.shown_valid i))))
      at (Split.less u) (Split.more v) = omega arith

  pub shown_is : {k n τ : ℕ} {l : List ℕ} (B : Shown k n l) → 2 * τ + 1 ≡ k → (i j : ℕ) → Sees (s.memory.item i) τ j →
      (object (acts_of l)).value i ≡ (s.memory.item i).value j
  shown_is B q i j x = B.value i ∙ ap (shown_value (s.memory.item i)) (sees_shown B q i j x)

  -- ---- from the acts back to the operations

  pub find_act : (op : Operation) (x : ℕ) (p : List Act) (l : List ℕ) → Answered op x p (acts_of l) → (o : ℕ) × In o l × ((s.fate o).operation ≡ op)
  unfolding acts_of
  find_act op x p [] a = absurd a
  find_act op x p (o ∷ l) (inl (e, f)) = (o, inl refl, sym (ap (λ (a : Act). a.operation) e))
  find_act op x p (o ∷ l) (inr r) = let y : (o : ℕ) × In o l × ((s.fate o).operation ≡ op) = find_act op x p l r in (y.0, inr y.1, y.2)

  pub find_take : (o h : ℕ) (l : List ℕ) → In o l → (s.fate o).operation ≡ take_snapshot → answer_at (s.fate o).operation (s.place o) ≡ h →
      (p : List Act) × Answered take_snapshot h p (acts_of l)
  unfolding acts_of
  find_take o h [] i w a = absurd i
  find_take o h (q ∷ l) (inl e) w a = (
    acts_of l,
    inl (
      ap₂ (λ (op : Operation) (x : ℕ). record { operation = op; answer = x }) (sym w ∙ ap (λ (o : ℕ). (s.fate o).operation) e)
          (sym a ∙ ap (λ (o : ℕ). answer_at (s.fate o).operation (s.place o)) e),
      refl,
    ),
  )
  find_take o h (q ∷ l) (inr i) w a = let y : (p : List Act) × Answered take_snapshot h p (acts_of l) = find_take o h l i w a in (y.0, inr y.1)
