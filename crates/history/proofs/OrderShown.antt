-- Replaying the list: what it shows of every item, and that each answer is the one of Definition 1.
use Rattle.std.specs.Prelude.{◌≡◌, ◌≢◌, Bool, true, T, eqb}
use Rattle.std.proofs.Math.Path.{refl, ap, sym, subst}
use Rattle.std.proofs.Common.{ap₂, ◌∙◌, inl, inr, eqb→eq}
use Rattle.std.proofs.Math.Bool.{cond}
use mathlib.Core.List.{List, ◌∷◌}
use Prim.Native.Nat.{ℕ, zero, suc, ◌+◌, ◌*◌, ◌≤◌, ◌<◌, min}
use native.Mathlib.Omega.{arith}
use Rattle.std.proofs.Math.Dec.{eqb_refl}
use Rattle.history.specs.Tools.{put, put_all, put_same, put_other, by_eq, Split, split, Same, eq, ne, same?}
use Rattle.history.specs.Machine.{
  Item,
  Operation,
  register,
  v_read,
  v_cas,
  take_snapshot,
  read_snapshot,
  total,
  Place,
  unplaced,
  awaits,
  changes,
  observes,
  Catalogue,
}
use Rattle.history.specs.Facts.{Sees, Sum, empty, skip, plus}
use Rattle.history.proofs.RightAnswers.{RightAnswer, CasSees, differs, same, SnapshotRead, TotalRead, change_answer}
use Rattle.history.proofs.Places.{asked_for, ChangeRight, ObserverRight, PlaceRight, Invariant, not_observing}
use Rattle.history.specs.Definition1.{Act, Object, apply, object, total_to, total_of, Answered, Born, Right}
use Rattle.history.proofs.MachineOrder.{In}
use Rattle.history.proofs.OrderList.{
  keyed,
  answer_at,
  shown_value,
  acts_of,
  Keyed,
  Listed,
  Shot,
  Shown,
  effects_rise,
  born_seen,
  shown_is,
  find_act,
  find_take,
}

abbrev pub operation_tag : Operation → ℕ
operation_tag (register i v z) = 0
operation_tag (v_read i) = 1
operation_tag (v_cas i a b) = 2
operation_tag take_snapshot = 3
operation_tag (read_snapshot i h) = 4
operation_tag (total p h) = 5

abbrev pub place_item : Place → ℕ
place_item unplaced = 0
place_item (awaits i j) = i
place_item (changes i j) = i
place_item (observes τ j x) = 0

pub asked_tag : (it : Item) (i j : ℕ) → operation_tag (asked_for it i j) ≤ 2
asked_tag it i zero = omega arith
asked_tag it i (suc j) = omega arith

module _ (s : Catalogue) (invariant : Invariant s) where
  pub change_operation : (o i j : ℕ) → s.place o ≡ changes i j → (s.fate o).operation ≡ asked_for (s.memory.item i) i j
  change_operation o i j e =
      let C : ChangeRight s.now o i j s.memory (s.fate o) = subst (λ (p : Place). PlaceRight s.now o s.memory (s.fate o) p) e
      (invariant.kept.places o) in
      subst (λ (o : ℕ). (s.fate o).operation ≡ asked_for (s.memory.item i) i j) C.mine
      (invariant.kept.versions_right i j (omega (arith, C.good, (invariant.kept.memory.item i).valid_published))).asked

  -- a readSnapshot in the list comes after the counter left its handle
  pub read_late : (k o i h : ℕ) → T (keyed s.memory (s.place o) k) → (s.fate o).operation ≡ read_snapshot i h →
      2 * s.memory.camera.left_at h + 1 < k
  read_late k o i h x w = at (s.place o) refl x
    where
      at : (p : Place) → s.place o ≡ p → T (keyed s.memory p k) → 2 * s.memory.camera.left_at h + 1 < k
      at unplaced e x = absurd x
      at (awaits a b) e x = absurd x
      at (changes a b) e x = let z : 4 ≤ 2 = subst (λ (n : ℕ). n ≤ 2) (ap operation_tag (sym (change_operation o a b e) ∙ w))
          (asked_tag (s.memory.item a) a b) in absurd (omega arith)
      at (observes τ j y) e x =
          let O : ObserverRight s.now o τ j y s.memory (s.fate o) = subst (λ (p : Place). PlaceRight s.now o s.memory (s.fate o) p) e
          (invariant.kept.places o) in
          let R : SnapshotRead s.memory i h o (s.fate o).lines τ j y =
          subst (λ (operation : Operation). RightAnswer s.memory operation o (s.fate o).lines τ j y) w O.seen in
          omega (arith, eqb→eq _ k x, O.since, R.read.when)

  pub total_late : (k o i h : ℕ) → T (keyed s.memory (s.place o) k) → (s.fate o).operation ≡ total i h → 2 * s.memory.camera.left_at h + 1 < k
  total_late k o i h x w = at (s.place o) refl x
    where
      at : (p : Place) → s.place o ≡ p → T (keyed s.memory p k) → 2 * s.memory.camera.left_at h + 1 < k
      at unplaced e x = absurd x
      at (awaits a b) e x = absurd x
      at (changes a b) e x = let z : 5 ≤ 2 = subst (λ (n : ℕ). n ≤ 2) (ap operation_tag (sym (change_operation o a b e) ∙ w))
          (asked_tag (s.memory.item a) a b) in absurd (omega arith)
      at (observes τ j y) e x =
          let O : ObserverRight s.now o τ j y s.memory (s.fate o) = subst (λ (p : Place). PlaceRight s.now o s.memory (s.fate o) p) e
          (invariant.kept.places o) in
          let R : TotalRead s.memory i h o (s.fate o).lines τ y =
          subst (λ (operation : Operation). RightAnswer s.memory operation o (s.fate o).lines τ j y) w O.seen in
          omega (arith, eqb→eq _ k x, O.since, R.when)

  -- the sum that a total made is the sum over the items there were when the counter left h
  pub sum_is : (p h : ℕ) (q : Object) → h < s.memory.camera.counter → Shot s invariant h q → {o e y u : ℕ} {l : List ℕ} →
      Sum s.memory p h o e y u l → u ≡ total_to (min y q.items) p q
  unfolding total_to
  sum_is p h q g S empty = subst (λ (n : ℕ). 0 ≡ total_to n p q) none_yet refl
    where
      none_yet : 0 ≡ min 0 q.items
      none_yet = omega arith
  sum_is p h q g S (skip {i} {u} {l} o x a) = sum_is p h q g S a ∙ ap (λ (n : ℕ). total_to n p q) (at (split i q.items))
    where
      at : Split i q.items → min i q.items ≡ min (suc i) q.items
      at (Split.less b) = absurd (omega (arith, S.low i b, ((invariant.kept.memory.item i).counted 0 o).past h x))
      at (Split.more b) = omega arith
  sum_is p h q g S (plus {i} {u} {l} j r x a) = at (sum_is p h q g S a) (split i q.items)
    where
      born : (s.memory.item i).effect_at 0 ≤ s.memory.camera.left_at h
      born = born_seen s invariant i (s.memory.camera.left_at h) j x.sees

      at : u ≡ total_to (min i q.items) p q → Split i q.items →
          u + cond (eqb ((s.memory.item i).value j) p) (s.memory.item i).size 0 ≡ total_to (min (suc i) q.items) p q
      at e (Split.more b) = absurd (omega (arith, S.high i b (omega (arith, x.sees.have)), born))
      at e (Split.less b) =
          subst (λ (n : ℕ). u + cond (eqb ((s.memory.item i).value j) p) (s.memory.item i).size 0 ≡ total_to n p q) (m1)
          (ap₂ (λ (a b : ℕ). a + b) (e ∙ ap (λ (n : ℕ). total_to n p q) m2)
          (ap₂ (λ (v z : ℕ). cond (eqb v p) z 0) (sym (S.value i j x.sees)) (sym (S.sizes i b))))
        where
          m1 : suc i ≡ min (suc i) q.items
          m1 = omega arith

          m2 : min i q.items ≡ i
          m2 = omega arith

  -- and that over all of them
  pub total_seen : (p h o : ℕ) (l : List ℕ) (τ x : ℕ) → TotalRead s.memory p h o l τ x → (q : Object) → Shot s invariant h q → x ≡ total_of p q
  total_seen p h o l τ x a q S = sum_is p h q a.gone S a.sum ∙ ap (λ (n : ℕ). total_to n p q) (all (split a.k q.items))
    where
      all : Split a.k q.items → min a.k q.items ≡ q.items
      all (Split.less u) =
          absurd (omega (
            arith,
            S.low a.k u,
            a.covers a.k (omega arith) (S.have a.k u),
            (invariant.kept.memory.item a.k).birth
                (S.have a.k u),
            a.when,
          ))
      all (Split.more u) = omega arith

  -- ---- an operation that sees

  module _ {k n : ℕ} {l : List ℕ} (A : Listed s invariant k n l) (B : Shown s invariant k n l) (τ : ℕ) (q : 2 * τ + 1 ≡ k) where
    pub took : (h : ℕ) → h < s.memory.camera.counter → s.memory.camera.left_at h < τ → (p : List Act) × Answered take_snapshot h p
        (acts_of s invariant l)
    took h g b =
        find_take s invariant (s.memory.camera.mover h) h l
        (A.below (s.memory.camera.mover h) (2 * s.memory.camera.left_at h + 1) (invariant.moved h g).begun
        (subst (λ (p : Place). T (keyed s.memory p (2 * s.memory.camera.left_at h + 1))) (sym (invariant.moved h g).at)
        (eqb_refl (2 * s.memory.camera.left_at h + 1))) (omega arith))
        (invariant.moved h g).operation (ap (answer_at (s.fate (s.memory.camera.mover h)).operation) (invariant.moved h g).at)

    -- an item of which version j is seen is registered, in the object then and at a snapshot
    item_there : (i j : ℕ) → Sees (s.memory.item i) τ j → Born i (object (acts_of s invariant l))
    item_there i j a = at (split i B.items)
      where
        at : Split i B.items → Born i (object (acts_of s invariant l))
        at (Split.less p) = B.all_born i p
        at (Split.more p) =
            absurd (omega (arith, B.high i p, B.after i 0 (omega (arith, B.high i p)) (omega (arith, a.have)), born_seen s invariant i τ j a, q))

    item_then : (h i j : ℕ) (y : Object) → Shot s invariant h y → Sees (s.memory.item i) (s.memory.camera.left_at h) j → Born i y
    item_then h i j y S a = at (split i y.items)
      where
        at : Split i y.items → Born i y
        at (Split.less p) = S.all_born i p
        at (Split.more p) = absurd (omega (arith, S.high i p (omega (arith, a.have)), born_seen s invariant i (s.memory.camera.left_at h) j a))

    pub observer_right : (operation : Operation) (c : List ℕ) (j x : ℕ) → n < τ → RightAnswer s.memory operation n c τ j x →
        Right operation x (acts_of s invariant l)
    observer_right (register i v z) c j x b a = absurd a
    observer_right (v_read i) c j x b a = (item_there i j a.0, a.1 ∙ sym (shown_is s invariant B q i j a.0))
    observer_right (v_cas i a b) c j x u y = (item_there i j y.0, at y.1)
      where
        v : (object (acts_of s invariant l)).value i ≡ (s.memory.item i).value j
        v = shown_is s invariant B q i j y.0

        at : CasSees ((s.memory.item i).value j) a b x → x ≡ cond (eqb ((object (acts_of s invariant l)).value i) a) 1 0
        at (differs e d) = by_eq (λ (z : ℕ). x ≡ z) ((object (acts_of s invariant l)).value i) a (λ f. absurd (d (sym v ∙ f))) (λ f. e)
        at (same e d f) = by_eq (λ (z : ℕ). x ≡ z) ((object (acts_of s invariant l)).value i) a (λ f. e) (λ f. absurd (f (v ∙ d)))
    observer_right take_snapshot c j x b a = (
      λ i y past r. let f : (o : ℕ) × In o l × ((s.fate o).operation ≡ read_snapshot i x) = find_act s invariant (read_snapshot i x) y past l r in
          let p : Keyed s invariant k n f.0 = A.memory f.0 f.1 in
          absurd (omega (arith, read_late p.key f.0 i x p.has f.2, p.le, a.1)),
      λ i y past r. let f : (o : ℕ) × In o l × ((s.fate o).operation ≡ total i x) = find_act s invariant (total i x) y past l r in
          let p : Keyed s invariant k n f.0 = A.memory f.0 f.1 in
          absurd (omega (arith, total_late p.key f.0 i x p.has f.2, p.le, a.1)),
    )
    observer_right (read_snapshot i h) c j x b a =
        (took h a.read.gone (omega (arith, a.read.when)), λ p t. (item_then h i j (object p) (B.snaps h p t) a.read.sees, a.is ∙ sym ((B.snaps h p t).value i j a.read.sees)))
    observer_right (total p h) c j x b a =
        (took h a.gone (omega (arith, a.when)), λ q t. total_seen p h n c τ x a (object q) (B.snaps h q t))

    pub observer_one : (operation : Operation) (c : List ℕ) (j x : ℕ) → RightAnswer s.memory operation n c τ j x →
        (apply operation (object (acts_of s invariant l))).items ≡ (object (acts_of s invariant l)).items
    unfolding apply
    observer_one (register i v z) c j x a = absurd a
    observer_one (v_read i) c j x a = refl
    observer_one (v_cas i a b) c j x y = refl
    observer_one take_snapshot c j x a = refl
    observer_one (read_snapshot i h) c j x a = refl
    observer_one (total p h) c j x a = refl

    pub observer_size : (operation : Operation) (c : List ℕ) (j x : ℕ) → RightAnswer s.memory operation n c τ j x → (i : ℕ) →
        (apply operation (object (acts_of s invariant l))).size i ≡ (object (acts_of s invariant l)).size i
    unfolding apply
    observer_size (register i v z) c j x a i' = absurd a
    observer_size (v_read i) c j x a i' = refl
    observer_size (v_cas i a b) c j x y i' = refl
    observer_size take_snapshot c j x a i' = refl
    observer_size (read_snapshot i h) c j x a i' = refl
    observer_size (total p h) c j x a i' = refl

    pub observer_born : (operation : Operation) (c : List ℕ) (j x : ℕ) → RightAnswer s.memory operation n c τ j x → (i : ℕ) →
        (apply operation (object (acts_of s invariant l))).born i ≡ (object (acts_of s invariant l)).born i
    unfolding apply
    observer_born (register i v z) c j x a i' = absurd a
    observer_born (v_read i) c j x a i' = refl
    observer_born (v_cas i a b) c j x y i' = refl
    observer_born take_snapshot c j x a i' = refl
    observer_born (read_snapshot i h) c j x a i' = refl
    observer_born (total p h) c j x a i' = refl

    pub observer_same : (operation : Operation) (c : List ℕ) (j x : ℕ) → RightAnswer s.memory operation n c τ j x → (i : ℕ) →
        (apply operation (object (acts_of s invariant l))).value i ≡ (object (acts_of s invariant l)).value i
    unfolding apply put
    observer_same (register i v z) c j x a i' = absurd a
    observer_same (v_read i) c j x a i' = refl
    observer_same (v_cas i a b) c j x y i' =
        by_eq (λ (z : ℕ). z ≡ (object (acts_of s invariant l)).value i') i' i
        (λ e. by_eq (λ (z : ℕ). z ≡ (object (acts_of s invariant l)).value i') ((object (acts_of s invariant l)).value i) a
        (λ f. at y.1 e (ap (λ (i : ℕ). (object (acts_of s invariant l)).value i) e ∙ f))
        (λ f. ap (λ (i : ℕ). (object (acts_of s invariant l)).value i) (sym e)))
        (λ e. refl)
      where
        v : (object (acts_of s invariant l)).value i ≡ (s.memory.item i).value j
        v = shown_is s invariant B q i j y.0

        at : CasSees ((s.memory.item i).value j) a b x → i' ≡ i → (object (acts_of s invariant l)).value i' ≡ a → b ≡ (object
            (acts_of s invariant l)).value i'
        at (differs e d) p f = absurd (d (sym v ∙ ap (λ (i : ℕ). (object (acts_of s invariant l)).value i) (sym p) ∙ f))
        at (same e d g) p f = g ∙ sym f
    observer_same take_snapshot c j x a i' = refl
    observer_same (read_snapshot i h) c j x a i' = refl
    observer_same (total p h) c j x a i' = refl

    pub shown_observer : (j x : ℕ) → s.place n ≡ observes τ j x → Shown s invariant k (suc n) (n ∷ l)
    unfolding acts_of object
    shown_observer j x e =
        record {
          shown = B.shown;
          shown_valid = B.shown_valid;
          before = B.before;
          after = B.after;
          before_same = λ i j p f. omega (arith, B.before_same i j p f);
          after_same = λ i j p r f. omega (
            arith,
            B.after_same i j p r f,
            not_observing (invariant.kept.versions_right i j (omega (arith, (invariant.kept.memory.item i).valid_published))) e,
          );
          value = λ i. observer_same (s.fate n).operation (s.fate n).lines j x O.seen i ∙ B.value i;
          items = B.items;
          low = B.low;
          high = B.high;
          items_is = observer_one (s.fate n).operation (s.fate n).lines j x O.seen ∙ B.items_is;
          sizes = λ i p. observer_size (s.fate n).operation (s.fate n).lines j x O.seen i ∙ B.sizes i p;
          all_born = λ i p. observer_born (s.fate n).operation (s.fate n).lines j x O.seen i ∙ B.all_born i p;
          snaps = λ h p t. snap h p t;
          legal = (
            subst (λ (y : ℕ). Right (s.fate n).operation y (acts_of s invariant l)) (sym answer)
                (observer_right (s.fate n).operation (s.fate n).lines j x O.since O.seen),
            B.legal,
          );
        }
      where
        O : ObserverRight s.now n τ j x s.memory (s.fate n)
        O = subst (λ (p : Place). PlaceRight s.now n s.memory (s.fate n) p) e (invariant.kept.places n)

        answer : answer_at (s.fate n).operation (s.place n) ≡ x
        answer = ap (answer_at (s.fate n).operation) e

        shot : (h : ℕ) → s.memory.camera.left_at h ≡ τ → Shot s invariant h (object (acts_of s invariant l))
        shot h e =
            record {
              value = λ i j y. shown_is s invariant B q i j (subst (λ (τ : ℕ). Sees (s.memory.item i) τ j) e y);
              low = λ i p. omega (arith, B.before i 0 (B.low i (omega (arith, B.items_is))));
              have = λ i p. omega (arith, B.low i (omega (arith, B.items_is)), B.shown_valid i);
              high = λ i p r. omega (arith, B.after i 0 (omega (arith, B.high i (omega (arith, B.items_is)))) r);
              sizes = λ i p. B.sizes i (omega (arith, B.items_is));
              all_born = λ i p. B.all_born i (omega (arith, B.items_is));
            }

        snap : (h : ℕ) (p : List Act) → Answered take_snapshot h p (acts_of s invariant (n ∷ l)) → Shot s invariant h (object p)
        snap h p (inl (w, u)) =
            let Z : (x < s.memory.camera.counter) × (s.memory.camera.left_at x ≡ τ) =
            subst (λ (operation : Operation). RightAnswer s.memory operation n (s.fate n).lines τ j x)
            (sym (ap (λ (a : Act). a.operation) w)) O.seen in
            subst (λ (p : List Act). Shot s invariant h (object p)) (sym u)
            (shot h (ap s.memory.camera.left_at (ap (λ (a : Act). a.answer) w ∙ answer) ∙ Z.1))
        snap h p (inr t) = B.snaps h p t

  -- ---- an operation that changes an item

  module _ {k n : ℕ} {l : List ℕ} (A : Listed s invariant k n l) (B : Shown s invariant k n l) (i j : ℕ) (e : s.place n ≡ changes i j)
      (q : 2 * (s.memory.item i).effect_at j ≡ k) where
    pub C : ChangeRight s.now n i j s.memory (s.fate n)
    C = subst (λ (p : Place). PlaceRight s.now n s.memory (s.fate n) p) e (invariant.kept.places n)

    pub cur_is : B.shown i ≡ j
    cur_is = at (split j (B.shown i)) (split (B.shown i) j)
      where
        at : Split j (B.shown i) → Split (B.shown i) j → B.shown i ≡ j
        at (Split.less u) v = absurd (omega (arith, B.before_same i j u q, C.mine))
        at (Split.more u) (Split.less v) =
            absurd (omega (arith, B.after i (B.shown i) (omega arith) (omega (arith, C.good)), effects_rise s invariant i (B.shown i) j v C.good))
        at (Split.more u) (Split.more v) = omega arith

    -- the items come in their order
    pub next_item : B.shown i ≡ 0 → i ≡ B.items
    next_item c = at (split i B.items) (split B.items i)
      where
        at : Split i B.items → Split B.items i → i ≡ B.items
        at (Split.less u) v = absurd (omega (arith, B.low i u))
        at (Split.more u) (Split.more v) = omega arith
        at (Split.more u) (Split.less v) = later_item (split i s.memory.items)
          where
            later_item : Split i s.memory.items → i ≡ B.items
            later_item (Split.more w) =
                absurd (omega (arith, invariant.kept.memory.unregistered i w, C.good, (invariant.kept.memory.item i).valid_published))
            later_item (Split.less w) =
                let o : 0 < (s.memory.item B.items).valid = invariant.kept.memory.registered B.items (omega arith) in
                let z : j ≡ 0 = sym cur_is ∙ c in
                absurd (omega (
                  arith,
                  B.after B.items 0 (omega (arith, B.high B.items (omega arith))) o,
                  invariant.kept.memory.births
                      B.items i v w,
                  (invariant.kept.memory.item B.items).birth o,
                  (invariant.kept.memory.item i).birth (omega (arith, C.good)),
                  subst (λ (j : ℕ). 2 * (s.memory.item i).effect_at j ≡ k) z q,
                ))

    unfoldable pub more_items : ℕ → ℕ
    more_items zero = suc B.items
    more_items (suc j) = B.items

    pub change_one : (j : ℕ) → (apply (asked_for (s.memory.item i) i j) (object (acts_of s invariant l))).items ≡ more_items j
    unfolding apply more_items
    change_one zero = ap suc B.items_is
    change_one (suc j) = B.items_is

    pub change_low : (j : ℕ) → B.shown i ≡ j → (i' : ℕ) → i' < more_items j → 0 < put B.shown i (suc j) i'
    unfolding more_items
    change_low zero c i' p = put_all (λ (x y : ℕ). 0 < y) B.shown i 1 i' (λ f. omega arith) (λ f. B.low i' (omega (arith, next_item c)))
    change_low (suc j) c i' p = put_all (λ (x y : ℕ). 0 < y) B.shown i (suc (suc j)) i' (λ f. omega arith) (λ f. B.low i' p)

    pub change_high : (j : ℕ) → B.shown i ≡ j → (i' : ℕ) → more_items j ≤ i' → put B.shown i (suc j) i' ≡ 0
    unfolding more_items
    change_high zero c i' p = put_all (λ (x y : ℕ). y ≡ 0) B.shown i 1 i' (λ f. absurd (omega (arith, next_item c))) (λ f. B.high i' (omega arith))
    change_high (suc j) c i' p = put_all (λ (x y : ℕ). y ≡ 0) B.shown i (suc (suc j)) i' (λ f. absurd (omega (arith, B.high i (omega arith))))
        (λ f. B.high i' p)

    pub change_size : (j : ℕ) → B.shown i ≡ j → (i' : ℕ) → i' < more_items j →
        (apply (asked_for (s.memory.item i) i j) (object (acts_of s invariant l))).size i' ≡ (s.memory.item i').size
    unfolding more_items apply put
    change_size zero c i' p = by_eq (λ (z : ℕ). z ≡ (s.memory.item i').size) i' i (λ f. ap (λ (i : ℕ). (s.memory.item i).size) (sym f))
        (λ f. B.sizes i' (omega (arith, next_item c)))
    change_size (suc j) c i' p = B.sizes i' p

    pub change_born : (j : ℕ) → B.shown i ≡ j → (i' : ℕ) → i' < more_items j →
        (apply (asked_for (s.memory.item i) i j) (object (acts_of s invariant l))).born i' ≡ true
    unfolding more_items apply put
    change_born zero c i' p = by_eq (λ (z : Bool). z ≡ true) i' i (λ f. refl) (λ f. B.all_born i' (omega (arith, next_item c)))
    change_born (suc j) c i' p = B.all_born i' p

    pub change_legal : (j : ℕ) → B.shown i ≡ j → Right (asked_for (s.memory.item i) i j) (change_answer (asked_for (s.memory.item i) i j))
        (acts_of s invariant l)
    change_legal zero c = (refl, B.items_is ∙ sym (next_item (cur_is ∙ sym cur_is ∙ c)))
    change_legal (suc j) c = (
      there (split i B.items),
      by_eq (λ (z : ℕ). 1 ≡ z) ((object (acts_of s invariant l)).value i) ((s.memory.item i).value j)
          (λ f. refl) (λ f. absurd (f (B.value i ∙ ap (shown_value (s.memory.item i)) c))),
    )
      where
        there : Split i B.items → Born i (object (acts_of s invariant l))
        there (Split.less p) = B.all_born i p
        there (Split.more p) = absurd (omega (arith, B.high i p))

    pub change_value : (j : ℕ) → B.shown i ≡ j → (i' : ℕ) →
        (apply (asked_for (s.memory.item i) i j) (object (acts_of s invariant l))).value i' ≡ shown_value (s.memory.item i')
        (put B.shown i (suc j) i')
    unfolding apply put
    change_value zero c i' =
        by_eq (λ (z : ℕ). z ≡ shown_value (s.memory.item i') (put B.shown i 1 i')) i' i
        (λ f. ap (λ (i : ℕ). (s.memory.item i).value 0) (sym f) ∙ ap (shown_value (s.memory.item i')) (sym (put_same B.shown i 1 i' f)))
        (λ f. B.value i' ∙ ap (shown_value (s.memory.item i')) (sym (put_other B.shown i 1 i' f)))
    change_value (suc j) c i' =
        by_eq (λ (z : ℕ). z ≡ shown_value (s.memory.item i') (put B.shown i (suc (suc j)) i')) i' i
        (λ f. by_eq (λ (z : ℕ). z ≡ shown_value (s.memory.item i') (put B.shown i (suc (suc j)) i')) ((object (acts_of s invariant l)).value i)
        ((s.memory.item i).value j)
        (λ g. ap (λ (i : ℕ). (s.memory.item i).value (suc j)) (sym f)
        ∙ ap (shown_value (s.memory.item i')) (sym (put_same B.shown i (suc (suc j)) i' f)))
        (λ g. absurd (g (B.value i ∙ ap (shown_value (s.memory.item i)) c))))
        (λ f. B.value i' ∙ ap (shown_value (s.memory.item i')) (sym (put_other B.shown i (suc (suc j)) i' f)))

    pub shown_change : Shown s invariant k (suc n) (n ∷ l)
    unfolding acts_of object
    shown_change =
        record {
          shown = put B.shown i (suc j);
          shown_valid = λ i'. put_all (λ (i' c : ℕ). c ≤ (s.memory.item i').valid) B.shown i (suc j) i'
              (λ f. subst (λ (i' : ℕ). suc j ≤ (s.memory.item i').valid) (sym f) C.good) (λ f. B.shown_valid i');
          before = λ i' j'. put_all (λ (i' c : ℕ). j' < c → 2 * (s.memory.item i').effect_at j' ≤ k) B.shown i (suc j) i'
              (λ f p. subst (λ (i' : ℕ). 2 * (s.memory.item i').effect_at j' ≤ k) (sym f) (in1 j' p (same? j' j))) (λ f p. B.before i' j' p);
          before_same = λ i' j'. put_all (λ (i' c : ℕ). j' < c → 2 * (s.memory.item i').effect_at j' ≡ k → (s.memory.item i').author j' < suc n)
              B.shown i (suc j) i'
              (λ f p. subst (λ (i' : ℕ). 2 * (s.memory.item i').effect_at j' ≡ k → (s.memory.item i').author j' < suc n) (sym f)
              (λ g. in2 j' p g (same? j' j))) (λ f p g. omega (arith, B.before_same i' j' p g));
          after = λ i' j'. put_all (λ (i' c : ℕ). c ≤ j' → j' < (s.memory.item i').valid → k ≤ 2 * (s.memory.item i').effect_at j') B.shown i
              (suc j) i'
              (λ f p. subst (λ (i' : ℕ). j' < (s.memory.item i').valid → k ≤ 2 * (s.memory.item i').effect_at j') (sym f)
              (λ r. omega (arith, effects_rise s invariant i j j' p r))) (λ f p r. B.after i' j' p r);
          after_same = λ i' j'. put_all (λ (i' c : ℕ). c ≤ j' → j' < (s.memory.item i').valid → 2 * (s.memory.item i').effect_at j' ≡ k →
              suc n ≤ (s.memory.item i').author j') B.shown i (suc j) i'
              (λ f p. subst (λ (i' : ℕ). j' < (s.memory.item i').valid → 2 * (s.memory.item i').effect_at j' ≡ k → suc n ≤ (s.memory.item i').author j')
              (sym f) (λ r g. absurd (omega (arith, effects_rise s invariant i j j' p r))))
              (λ f p r g. omega (arith, B.after_same i' j' p r g, other i' j' f r));
          value = λ i'. ap (λ (operation : Operation). (apply operation (object (acts_of s invariant l))).value i') operation ∙ change_value j cur_is
              i';
          items = more_items j;
          items_is = ap (λ (operation : Operation). (apply operation (object (acts_of s invariant l))).items) operation ∙ change_one j;
          low = change_low j cur_is;
          high = change_high j cur_is;
          sizes = λ i' p. ap (λ (operation : Operation). (apply operation (object (acts_of s invariant l))).size i') operation ∙ change_size j cur_is
              i' p;
          all_born = λ i' p. ap (λ (operation : Operation). (apply operation (object (acts_of s invariant l))).born i') operation ∙ change_born j cur_is i' p;
          snaps = λ h p t. snap h p t;
          legal = (
            subst (λ (y : ℕ). Right (s.fate n).operation y (acts_of s invariant l)) (sym (ap (answer_at (s.fate n).operation) e))
                (subst (λ (o : Operation). Right o (change_answer o) (acts_of s invariant l)) (sym operation) (change_legal j cur_is)),
            B.legal,
          );
        }
      where
        operation : (s.fate n).operation ≡ asked_for (s.memory.item i) i j
        operation = change_operation n i j e

        in1 : (j' : ℕ) → j' < suc j → Same j' j → 2 * (s.memory.item i).effect_at j' ≤ k
        in1 j' p (eq f) = subst (λ (j' : ℕ). 2 * (s.memory.item i).effect_at j' ≤ k) (sym f) (omega arith)
        in1 j' p (ne f) = B.before i j' (omega (arith, cur_is))

        in2 : (j' : ℕ) → j' < suc j → 2 * (s.memory.item i).effect_at j' ≡ k → Same j' j → (s.memory.item i).author j' < suc n
        in2 j' p g (eq f) = subst (λ (j' : ℕ). (s.memory.item i).author j' < suc n) (sym f) (omega (arith, C.mine))
        in2 j' p g (ne f) = omega (arith, B.before_same i j' (omega (arith, cur_is)) g)

        other : (i' j' : ℕ) → i' ≢ i → j' < (s.memory.item i').valid → (s.memory.item i').author j' ≢ n
        other i' j' f r z =
            f (ap place_item (sym ((invariant.kept.versions_right i' j' (omega (arith, (invariant.kept.memory.item i').valid_published))).valid r)
            ∙ ap s.place z ∙ e))

        snap : (h : ℕ) (p : List Act) → Answered take_snapshot h p (acts_of s invariant (n ∷ l)) → Shot s invariant h (object p)
        snap h p (inl (w, u)) = let z : 3 ≤ 2 = subst (λ (n : ℕ). n ≤ 2) (ap operation_tag (sym operation ∙ sym (ap (λ (a : Act). a.operation) w)))
            (asked_tag (s.memory.item i) i j) in absurd (omega arith)
        snap h p (inr t) = B.snaps h p t
