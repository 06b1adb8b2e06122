-- What a line does to the machine's memory keeps the memory well, and what the phase after it knows.
use Prim.Native.Nat.{ℕ, suc, pred, ◌+◌, ◌<◌, ◌≤◌}
use Rattle.std.proofs.Math.Bool.{cond}
use Rattle.std.specs.Prelude.{◌≡◌, eqb}
use Rattle.std.proofs.Math.Path.{refl, ap}
use Rattle.std.proofs.Common.{sym, subst, arith}
use Rattle.history.specs.Tools.{put, by_eq, by_lt, by_le, put_all, put_same, put_other, Same, eq, ne, same?}
use Rattle.history.specs.Machine.{Item, Memory, Limits, Found, no_node, node, node_to_take, Then, then_39, then_43, then_48, then_52, then_34, then_total_34, Phase, line_37, line_39, line_41, line_43, line_45, line_46, line_48, line_50, line_51, line_52, line_5, line_6, line_32, line_34, total_32, total_34, closing, line_20, line_21, line_22, helped_item, after, total_at, Effect, nothing, counts, publishes, stamps, takes_node, gives_back, Comes, goes_on, ends_with, answers_change, answers, Next, only, on_45, line, memory_after, published, stamped}
use Rattle.reached.specs.Grows.{ItemWell, MemoryWell, ItemGrows, Grows, TotalKnown, ThenKnown, Known, then_item, then_later}

-- What an effect needs of the memory.
pub record PublishFits (m : Memory) (i v : ℕ) : Type 0 where
  pub item_in : i < m.items
  pub value_in : v < m.limits.projects
  pub all_valid : (m.item i).versions ≤ (m.item i).valid

pub record StampFits (m : Memory) (i j c : ℕ) : Type 0 where
  pub item_in : i < m.items
  pub newest : (m.item i).valid ≡ j
  pub there : (m.item i).versions ≡ suc j
  pub counted : c ≤ m.camera.counter
  pub above : (x : ℕ) → x < j → (m.item i).stamp x ≤ c

abbrev pub EffectFits : Memory → Effect → Type 0
EffectFits m nothing = Unit {0}
EffectFits m counts = m.camera.counter < m.limits.counter
EffectFits m (publishes i v y) = PublishFits m i v
EffectFits m (stamps i j c r) = StampFits m i j c
EffectFits m (takes_node i new j y) = node_to_take m ≡ node y
EffectFits m (gives_back y) = Unit {0}

pub item_grows_refl : (it : Item) → ItemGrows it it
item_grows_refl it = record { versions = omega arith; valid = omega arith; value = λ j l. refl; node = λ j l. refl; stamp = λ j l. refl }

pub grows_refl : (m : Memory) → Grows m m
grows_refl m = record { limits = refl; counter = omega arith; items = omega arith; item = λ i l. item_grows_refl (m.item i) }

-- One item changed, and grown.
item_put_grows : (m : Memory) (i : ℕ) (it : Item) → ItemGrows (m.item i) it → (x : ℕ) → ItemGrows (m.item x) (put m.item i it x)
item_put_grows m i it g x =
    put_all (λ (x : ℕ) (later : Item). ItemGrows (m.item x) later) m.item i it x
    (λ e. subst (λ (x : ℕ). ItemGrows (m.item x) it) (sym e) g) (λ e. item_grows_refl (m.item x))

module _ (t o : ℕ) (m : Memory) (W : MemoryWell m) where
  pub effect_grows : (e : Effect) → EffectFits m e → Grows m (memory_after t o e m)
  unfolding memory_after
  effect_grows nothing k = grows_refl m
  effect_grows counts k = record { limits = refl; counter = omega arith; items = omega arith; item = λ i l. item_grows_refl (m.item i) }
  effect_grows (publishes i v y) k =
      record {
        limits = refl;
        counter = omega arith;
        items = omega arith;
        item = λ x l. item_put_grows m i (published t o v y (m.item i))
            (record {
              versions = omega arith;
              valid = omega arith;
              stamp = λ j p. refl;
              value = λ j p. put_other (m.item i).value (m.item i).versions v j (λ e. absurd (omega arith));
              node = λ j p. put_other (m.item i).node (m.item i).versions y j (λ e. absurd (omega arith));
            }) x;
      }
  effect_grows (stamps i j c r) k =
      record {
        limits = refl;
        counter = omega arith;
        items = omega arith;
        item = λ x l. item_put_grows m i (stamped t j c r (m.item i))
            (record {
              versions = omega arith;
              valid = omega (arith, k.newest);
              value = λ x p. refl;
              node = λ x p. refl;
              stamp = λ x p. put_other (m.item i).stamp j c x (λ e. absurd (omega (arith, k.newest)));
            }) x;
      }
  effect_grows (takes_node i new j y) k = record { limits = refl; counter = omega arith; items = omega arith; item = λ i l. item_grows_refl (m.item i) }
  effect_grows (gives_back y) k = record { limits = refl; counter = omega arith; items = omega arith; item = λ i l. item_grows_refl (m.item i) }

  -- an item that did not change, in a memory whose counter grew
  same_well : (later : Memory) (it : Item) → later.limits ≡ m.limits → m.camera.counter ≤ later.camera.counter → ItemWell m it → ItemWell later it
  same_well later it e c z =
      record {
        some = z.some;
        few = z.few;
        most = z.most;
        past = λ j p. omega (arith, z.past j p);
        sorted = z.sorted;
        size_fits = z.size_fits;
        values = λ j p. omega (arith, z.values j p, ap (λ (l : Limits). l.projects) e);
      }

  published_well : (i v y : ℕ) → PublishFits m i v → ItemWell m (published t o v y (m.item i))
  published_well i v y k =
      record {
        some = z.some;
        few = omega (arith, z.few);
        most = omega (arith, k.all_valid);
        past = z.past;
        sorted = z.sorted;
        size_fits = z.size_fits;
        values = λ j. put_all (λ (j : ℕ) (x : ℕ). j < suc (m.item i).versions → x < m.limits.projects) (m.item i).value (m.item i).versions v j
            (λ e p. k.value_in) (λ e p. z.values j (omega arith));
      }
    where
      z : ItemWell m (m.item i)
      z = W.item_well i k.item_in

  stamped_well : (i j c r : ℕ) → StampFits m i j c → ItemWell m (stamped t j c r (m.item i))
  stamped_well i j c r k =
      record {
        some = omega arith;
        few = omega (arith, k.there);
        most = omega (arith, k.there);
        size_fits = z.size_fits;
        values = z.values;
        past = λ x. put_all (λ (x : ℕ) (s : ℕ). x < suc j → s ≤ m.camera.counter) (m.item i).stamp j c x
            (λ e p. k.counted) (λ e p. z.past x (omega (arith, k.newest)));
        sorted = λ x p. in_order x p (same? (suc x) j);
      }
    where
      z : ItemWell m (m.item i)
      z = W.item_well i k.item_in

      in_order : (x : ℕ) → suc x < suc j → Same (suc x) j → put (m.item i).stamp j c x ≤ put (m.item i).stamp j c (suc x)
      in_order x p (eq e) =
          omega (arith, put_other (m.item i).stamp j c x (λ f. absurd (omega arith)), put_same (m.item i).stamp j c (suc x) e, k.above x (omega arith))
      in_order x p (ne e) =
          omega (
            arith,
            put_other (m.item i).stamp j c x (λ f. absurd (omega arith)),
            put_other (m.item i).stamp j c (suc x) e,
            z.sorted x (omega (arith, k.newest)),
          )

  item_put_well : (i : ℕ) (it : Item) → ItemWell m it → (x : ℕ) → x < m.items → ItemWell m (put m.item i it x)
  item_put_well i it h x l = put_all (λ (x : ℕ) (it : Item). x < m.items → ItemWell m it) m.item i it x (λ e l. h) (λ e l. W.item_well x l) l

  pub effect_well : (e : Effect) → EffectFits m e → MemoryWell (memory_after t o e m)
  unfolding memory_after
  effect_well nothing k = W
  effect_well counts k = record {
    counter_in = omega arith;
    items_in = W.items_in;
    item_well = λ i l. same_well (memory_after t o counts m) (m.item i) refl (omega arith) (W.item_well i l);
  }
  effect_well (publishes i v y) k =
      record {
        counter_in = W.counter_in;
        items_in = W.items_in;
        item_well = λ x l. same_well (memory_after t o (publishes i v y) m) _ refl (omega arith) (item_put_well i _ (published_well i v y k) x l);
      }
  effect_well (stamps i j c r) k =
      record {
        counter_in = W.counter_in;
        items_in = W.items_in;
        item_well = λ x l. same_well (memory_after t o (stamps i j c r) m) _ refl (omega arith) (item_put_well i _ (stamped_well i j c r k) x l);
      }
  effect_well (takes_node i new j y) k = record {
    counter_in = W.counter_in;
    items_in = W.items_in;
    item_well = λ x l. same_well (memory_after t o (takes_node i new j y) m) _ refl (omega arith) (W.item_well x l);
  }
  effect_well (gives_back y) k = record {
    counter_in = W.counter_in;
    items_in = W.items_in;
    item_well = λ x l. same_well (memory_after t o (gives_back y) m) _ refl (omega arith) (W.item_well x l);
  }

-- What the operation comes to knows what its next phase needs.
abbrev pub ComesKnown : Memory → Comes → Type 0
ComesKnown m (goes_on ph) = Known m ph
ComesKnown m (ends_with n) = Unit {0}
ComesKnown m (answers_change x) = Unit {0}
ComesKnown m (answers x τ j) = Unit {0}

pub record LineWell (t o : ℕ) (m : Memory) (x : Next) : Type 0 where
  pub fits : EffectFits m x.does
  pub next : ComesKnown (memory_after t o x.does m) x.comes

-- after a help the version is stamped
after_known : (m : Memory) (c : Then) (j : ℕ) → ThenKnown m c → j < (m.item (helped_item c)).valid → Known m (after c j)
unfolding after
after_known m (then_39 i f) j k l = (k, l)
after_known m (then_43 i old new f) j k l = (k, l)
after_known m (then_48 i old new) j k l = k
after_known m (then_52 i old new g) j k l = k
after_known m (then_34 i h f) j k l = (k, l)
after_known m (then_total_34 q h k' i u f) j k l = (k, l)

pub total_at_known : (m : Memory) (q h k i u : ℕ) → TotalKnown m q h k i u → Known m (total_at q h k i u)
unfolding total_at
total_at_known m q h k i u z =
    by_eq (Known m) i k (λ e. subst (λ (x : ℕ). TotalKnown m q h k x u) e z) (λ e. (z, omega (arith, z.place_in)))

module _ (t o : ℕ) (m : Memory) (W : MemoryWell m) where
  only_goes : (ph : Phase) → Known m ph → LineWell t o m (only (goes_on ph))
  unfolding memory_after
  only_goes ph k = record { fits = tt; next = k }

  only_answers : (x τ j : ℕ) → LineWell t o m (only (answers x τ j))
  unfolding memory_after
  only_answers x τ j = record { fits = tt; next = tt }

  head_there : (i : ℕ) → i < m.items → pred (m.item i).versions < (m.item i).versions
  head_there i l = omega (arith, (W.item_well i l).some, (W.item_well i l).few)

  total_next : (q h k i u v : ℕ) → TotalKnown m q h k i u → i < k → v ≤ u + 4294967296 → Known m (total_at q h k (suc i) v)
  total_next q h k i u v z l b =
      total_at_known m q h k (suc i) v (record {
        project_in = z.project_in;
        handle_in = z.handle_in;
        noted_in = z.noted_in;
        place_in = omega arith;
        sum_in = omega (arith, z.sum_in);
      })

  line_22_known : (c : Then) (j n r : ℕ) → Known m (line_22 c j n r) → LineWell t o m (line t m (line_22 c j n r))
  unfolding line memory_after
  line_22_known c j n r k =
      by_lt (λ (e : Effect). LineWell t o m (record { does = e; comes = goes_on (after c j) })) j (m.item (helped_item c)).valid
      (λ p. record { fits = tt; next = after_known m c j k.0 p })
      (λ p. let f : StampFits m (helped_item c) j n = record {
        item_in = l;
        newest = omega (arith, z.most, k.1.there);
        there = omega (arith, z.most, k.1.there);
        counted = k.1.counted;
        above = k.1.above;
      } in
      record {
        fits = f;
        next = after_known (memory_after t o (stamps (helped_item c) j n r) m) c j
            (then_later (effect_grows t o m W (stamps (helped_item c) j n r) f) W c k.0) (stamped_there);
      })
    where
      l : helped_item c < m.items
      l = then_item m c k.0

      z : ItemWell m (m.item (helped_item c))
      z = W.item_well (helped_item c) l

      stamped_there : j < (put m.item (helped_item c) (stamped t j n r (m.item (helped_item c))) (helped_item c)).valid
      stamped_there = omega (
        arith,
        ap (λ (it : Item). it.valid)
            (put_same m.item (helped_item c) (stamped t j n r (m.item (helped_item c))) (helped_item c) refl),
      )

  line_46_known : (i old new f j y : ℕ) → Known m (line_46 i old new f j y) → LineWell t o m (line t m (line_46 i old new f j y))
  unfolding line memory_after
  line_46_known i old new f j y k =
      by_eq (LineWell t o m) (m.item i).versions (suc j)
      (λ e. let p : PublishFits m i new = record { item_in = k.0.item_in; value_in = k.0.new_in; all_valid = omega (arith, k.1) } in
      record { fits = p; next = (then_later (effect_grows t o m W (publishes i new y) p) W (then_48 i old new) k.0, new_there e) })
      (λ e. only_goes (line_50 i old new j y) k.0)
    where
      new_there : (m.item i).versions ≡ suc j → suc j < (put m.item i (published t o new y (m.item i)) i).versions
      new_there e = omega (arith, ap (λ (it : Item). it.versions) (put_same m.item i (published t o new y (m.item i)) i refl))

  line_45_known : (i old new f j : ℕ) → Known m (line_45 i old new f j) → (g : Found) → node_to_take m ≡ g → LineWell t o m (on_45 i old new f j g)
  unfolding memory_after
  line_45_known i old new f j k no_node e = record { fits = tt; next = tt }
  line_45_known i old new f j k (node y) e = record {
    fits = e;
    next = (record { item_in = k.0.item_in; old_in = k.0.old_in; new_in = k.0.new_in }, k.1);
  }

  total_34_known : (q h k i u f j x : ℕ) → Known m (total_34 q h k i u f j x) → LineWell t o m (line t m (total_34 q h k i u f j x))
  unfolding line
  total_34_known q h k i u f j x z =
      by_lt (λ (ph : Phase). LineWell t o m (only (goes_on ph))) h ((m.item i).stamp x)
      (λ p. only_goes (total_34 q h k i u f j (pred x)) (z.0, omega (arith, z.1)))
      (λ p. only_goes (total_at q h k (suc i) (u + cond (eqb ((m.item i).value x) q) (m.item i).size 0))
      (total_next q h k i u _ z.0.total z.0.inside
      (by_eq (λ (s : ℕ). u + s ≤ u + 4294967296) ((m.item i).value x) q
      (λ e. omega (arith, (W.item_well i (omega (arith, z.0.inside, z.0.total.noted_in))).size_fits)) (λ e. omega arith))))

  pub line_known : (ph : Phase) → Known m ph → LineWell t o m (line t m ph)
  unfolding line
  line_known (line_37 i) k = only_goes (line_20 (then_39 i t) (pred (m.item i).versions)) (k, head_there i k)
  line_known (line_39 i f j) k = only_answers _ _ _
  line_known (line_41 i old new) k = only_goes (line_20 (then_43 i old new t) (pred (m.item i).versions)) (k, head_there i k.item_in)
  line_known (line_43 i old new f j) k =
      by_eq (LineWell t o m) ((m.item i).value j) old
      (λ e. by_eq (LineWell t o m) new old (λ d. only_answers _ _ _) (λ d. only_goes (line_45 i old new f j) k))
      (λ e. only_answers _ _ _)
  line_known (line_45 i old new f j) k = line_45_known i old new f j k (node_to_take m) refl
  line_known (line_46 i old new f j y) k = line_46_known i old new f j y k
  line_known (line_48 i old new j) k = unfold memory_after in record { fits = tt; next = tt }
  line_known (line_50 i old new g y) k = unfold memory_after in
      record { fits = tt; next = record { item_in = k.item_in; old_in = k.old_in; new_in = k.new_in } }
  line_known (line_51 i old new g) k = only_goes (line_20 (then_52 i old new g) (pred (m.item i).versions)) (k, head_there i k.item_in)
  line_known (line_52 i old new g j) k = only_answers _ _ _
  line_known line_5 k =
      by_le (LineWell t o m) m.limits.counter m.camera.counter
      (λ e. unfold memory_after in record { fits = tt; next = tt }) (λ e. only_goes (line_6 m.camera.counter t) (e, omega arith))
  line_known (line_6 c r) k =
      by_eq (LineWell t o m) m.camera.counter c (λ e. record { fits = omega (arith, k.0); next = tt }) (λ e. only_answers _ _ _)
  line_known (line_32 i h) k = only_goes (line_20 (then_34 i h t) (pred (m.item i).versions)) (k, head_there i k.item_in)
  line_known (line_34 i h f j x) k =
      by_lt (LineWell t o m) h ((m.item i).stamp x) (λ p. only_goes (line_34 i h f j (pred x)) (k.0, omega (arith, k.1))) (λ p. only_answers _ _ _)
  line_known (total_32 q h k i u) z =
      by_lt (λ (ph : Phase). LineWell t o m (only (goes_on ph))) h ((m.item i).stamp 0)
      (λ p. only_goes (total_at q h k (suc i) u) (total_next q h k i u u z.0 z.1 (omega arith)))
      (λ p. only_goes (line_20 (then_total_34 q h k i u t) (pred (m.item i).versions))
      (record { total = z.0; inside = z.1; born = p }, head_there i (omega (arith, z.1, z.0.noted_in))))
  line_known (total_34 q h k i u f j x) z = total_34_known q h k i u f j x z
  line_known (closing q h k u) z = only_answers _ _ _
  line_known (line_20 c j) k =
      by_lt (λ (ph : Phase). LineWell t o m (only (goes_on ph))) j (m.item (helped_item c)).valid
      (λ p. only_goes (after c j) (after_known m c j k.0 p)) (λ p. only_goes (line_21 c j) k)
  line_known (line_21 c j) k =
      only_goes (line_22 c j m.camera.counter t)
      (k.0, record { there = k.1; counted = omega arith; above = λ x p. z.past x (omega (arith, z.most, k.1)) })
    where
      z : ItemWell m (m.item (helped_item c))
      z = W.item_well (helped_item c) (then_item m c k.0)
  line_known (line_22 c j n r) k = line_22_known c j n r k
