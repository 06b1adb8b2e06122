-- The four changes of the memory keep its invariant, and lead to a later memory.
use Rattle.std.specs.Prelude.{◌≡◌, refl, ◌≢◌, Bool, false}
use Rattle.std.proofs.Common.{sym, ◌∙◌, subst, arith}
use Prim.Native.Nat.{ℕ, suc, ◌≤◌, ◌<◌}
use Rattle.history.specs.Tools.{put, put_all, put_other}
use Rattle.history.specs.Machine.{
  Item,
  Camera,
  Memory,
  Operation,
  v_cas,
  published,
  stamped,
  newborn,
  with_item,
  counted_up,
  Effect,
  nothing,
  counts,
  publishes,
  stamps,
  takes_node,
  gives_back,
  memory_after,
}
use Rattle.history.specs.Facts.{CounterWas, ItemFacts, MemoryFacts, LaterCamera, LaterItem, Later}
use Rattle.history.proofs.Later.{counter_later}

pub camera_stays : {t : ℕ} {k : Camera} → LaterCamera t k k
camera_stays = record { counters = omega arith; same = λ h p. refl; mover = λ h p. refl; new = λ h p q. omega arith }

pub item_same : {t : ℕ} {it : Item} → it.valid ≤ it.versions → LaterItem t it it
item_same p =
    record {
      more_versions = omega arith;
      more_valid = omega arith;
      valid_published = p;
      value = λ j q. refl;
      published_at = λ j q. refl;
      author = λ j q. refl;
      size = λ q. refl;
      node = λ j q. refl;
      stamp = λ j q. refl;
      effect_at = λ j q. refl;
      stamped_at = λ j q. refl;
      new_published = λ j q r. omega arith;
      new_effect = λ j q r. omega arith;
      new_stamped = λ j q r. omega arith;
    }

-- an item that does not change
pub item_stays : {t : ℕ} {k k' : Camera} {it : Item} → LaterCamera t k k' → ItemFacts t k it → ItemFacts (suc t) k' it
item_stays C known =
    record {
      valid_published = known.valid_published;
      one_open = known.one_open;
      first = known.first;
      birth = known.birth;
      author_first = known.author_first;
      author_before = known.author_before;
      effect_after_46 = known.effect_after_46;
      effect_before_22 = known.effect_before_22;
      next = known.next;
      differ = known.differ;
      published_past = λ j p. omega (arith, known.published_past j p);
      stamped_past = λ j p. omega (arith, known.stamped_past j p);
      counted = λ j p. counter_later C (omega (arith, known.effect_before_22 j p, known.stamped_past j p)) (known.counted j p);
    }

-- line 46
module _ {t o v : ℕ} (y : ℕ) {k : Camera} {it : Item} (known : ItemFacts t k it) (full : it.valid ≡ it.versions) (last : ℕ)
    (is : it.versions ≡ suc last) (new : v ≢ it.value last) (early : o < t) where
  pub published_later : LaterItem t it (published t o v y it)
  published_later =
      record {
        more_versions = omega arith;
        more_valid = omega arith;
        valid_published = omega arith;
        value = λ j p. put_other it.value it.versions v j (omega arith);
        published_at = λ j p. put_other it.published_at it.versions t j (omega arith);
        author = λ j p. put_other it.author it.versions o j (omega arith);
        size = λ q. refl;
        node = λ j p. put_other it.node it.versions y j (omega arith);
        stamp = λ j q. refl;
        effect_at = λ j q. refl;
        stamped_at = λ j q. refl;
        new_published = λ j p q. put_all (λ (n x : ℕ). t ≤ x) it.published_at it.versions t j (λ e. omega arith) (λ e. omega arith);
        new_effect = λ j p q. omega arith;
        new_stamped = λ j p q. omega arith;
      }

  pub published_inv : ItemFacts (suc t) k (published t o v y it)
  published_inv =
      record {
        valid_published = omega arith;
        one_open = omega arith;
        first = λ p. omega arith;
        birth = λ p. known.birth p
            ∙ sym (put_other it.author it.versions o 0 (omega arith));
        published_past = λ j p. put_all (λ (n x : ℕ). x < suc t) it.published_at it.versions t j (λ e. omega arith)
            (λ e. omega (arith, known.published_past j (omega arith)));
        author_first = λ j p. put_all (λ (n x : ℕ). x ≤ put it.published_at it.versions t n) it.author it.versions o j
            (λ e. put_all (λ (n x : ℕ). o ≤ x) it.published_at it.versions t j (λ e. omega arith) (λ f. absurd (f e)))
            (λ e. put_all (λ (n x : ℕ). it.author n ≤ x) it.published_at it.versions t j (λ f. absurd (e f))
            (λ f. known.author_first j (omega arith)));
        author_before = λ j p. put_all (λ (n x : ℕ). x < put it.published_at it.versions t n) it.author it.versions o (suc j)
            (λ e. put_all (λ (n x : ℕ). o < x) it.published_at it.versions t (suc j) (λ e. omega arith) (λ f. absurd (f e)))
            (λ e. put_all (λ (n x : ℕ). it.author n < x) it.published_at it.versions t (suc j) (λ f. absurd (e f))
            (λ f. known.author_before j (omega arith)));
        effect_after_46 = λ j p. put_all (λ (n x : ℕ). x ≤ it.effect_at n) it.published_at it.versions t j (λ e. omega arith)
            (λ e. known.effect_after_46 j p);
        effect_before_22 = known.effect_before_22;
        stamped_past = λ j p. omega (arith, known.stamped_past j p);
        next = λ j p. put_all (λ (n x : ℕ). it.stamped_at j < x) it.published_at it.versions t (suc j) (λ e. known.stamped_past j (omega arith))
            (λ e. known.next j (omega arith));
        differ = λ j p. put_all (λ (n x : ℕ). x ≢ put it.value it.versions v j) it.value it.versions v (suc j)
            (λ e. put_all (λ (n x : ℕ). v ≢ x) it.value it.versions v j (λ f. omega arith) (λ f. subst (λ (x : ℕ). v ≢ it.value x) (omega arith) new))
            (λ e. put_all (λ (n x : ℕ). it.value (suc j) ≢ x) it.value it.versions v j (λ f. omega arith) (λ f. known.differ j (omega arith)));
        counted = λ j p. counter_later (camera_stays {t = t}) (omega (arith, known.effect_before_22 j p, known.stamped_past j p)) (known.counted j p);
      }

-- line 22
module _ {t j c r : ℕ} {k : Camera} {it : Item} (known : ItemFacts t k it) (head : it.versions ≡ suc j) (undecided : it.valid ≡ j)
    (read : CounterWas k r c) (past : it.published_at j < r) (before : r < t) where
  pub stamped_later : LaterItem t it (stamped t j c r it)
  stamped_later =
      record {
        more_versions = omega arith;
        more_valid = omega arith;
        valid_published = omega arith;
        value = λ n p. refl;
        published_at = λ n p. refl;
        author = λ n p. refl;
        size = λ p. refl;
        node = λ n p. refl;
        stamp = λ n p. put_other it.stamp j c n (omega arith);
        effect_at = λ n p. put_other it.effect_at j r n (omega arith);
        stamped_at = λ n p. put_other it.stamped_at j t n (omega arith);
        new_published = λ n p q. omega arith;
        new_effect = λ n p q. put_all (λ (n x : ℕ). it.published_at n ≤ x) it.effect_at j r n
            (λ e. subst (λ (n : ℕ). it.published_at n ≤ r) (sym e) (omega arith)) (λ e. omega arith);
        new_stamped = λ n p q. put_all (λ (n x : ℕ). t ≤ x) it.stamped_at j t n (λ e. omega arith) (λ e. omega arith);
      }

  pub stamped_inv : ItemFacts (suc t) k (stamped t j c r it)
  stamped_inv =
      record {
        valid_published = omega arith;
        one_open = omega arith;
        first = λ p. omega arith;
        birth = λ p. put_other it.effect_at j r 0 (omega (arith, known.first (omega arith))) ∙ known.birth (known.first (omega arith));
        published_past = λ n p. omega (arith, known.published_past n p);
        author_first = known.author_first;
        author_before = known.author_before;
        effect_after_46 = λ n p. put_all (λ (n x : ℕ). it.published_at n ≤ x) it.effect_at j r n
            (λ e. subst (λ (n : ℕ). it.published_at n ≤ r) (sym e) (omega arith)) (λ e. known.effect_after_46 n (omega arith));
        effect_before_22 = λ n p. put_all (λ (n x : ℕ). x ≤ put it.stamped_at j t n) it.effect_at j r n
            (λ e. put_all (λ (n x : ℕ). r ≤ x) it.stamped_at j t n (λ e. omega arith) (λ f. absurd (f e)))
            (λ e. put_all (λ (n x : ℕ). it.effect_at n ≤ x) it.stamped_at j t n (λ f. absurd (e f)) (λ f. known.effect_before_22 n (omega arith)));
        stamped_past = λ n p. put_all (λ (n x : ℕ). x < suc t) it.stamped_at j t n (λ e. omega arith)
            (λ e. omega (arith, known.stamped_past n (omega arith)));
        next = λ n p. put_all (λ (m x : ℕ). x < it.published_at (suc n)) it.stamped_at j t n (λ e. omega arith) (λ e. known.next n p);
        differ = known.differ;
        counted = λ n p. put_all (λ (n x : ℕ). CounterWas k x (put it.stamp j c n)) it.effect_at j r n
            (λ e. put_all (λ (n x : ℕ). CounterWas k r x) it.stamp j c n (λ e. read) (λ f. absurd (f e)))
            (λ e. put_all (λ (n x : ℕ). CounterWas k (it.effect_at n) x) it.stamp j c n (λ f. absurd (e f)) (λ f. known.counted n (omega arith)));
      }

-- register
pub newborn_facts : {t v z y : ℕ} {k : Camera} → ((h : ℕ) → h < k.counter → k.left_at h < t) → ItemFacts (suc t) k (newborn t k.counter v z y)
newborn_facts L =
    record {
      valid_published = omega arith;
      one_open = omega arith;
      first = λ p. omega arith;
      birth = λ p. refl;
      published_past = λ j p. omega arith;
      author_first = λ j p. omega arith;
      author_before = λ j p. omega arith;
      effect_after_46 = λ j p. omega arith;
      effect_before_22 = λ j p. omega arith;
      stamped_past = λ j p. omega arith;
      next = λ j p. omega arith;
      differ = λ j p. omega arith;
      counted = λ j p. record { low = omega arith; past = L; ahead = λ h p q. omega arith };
    }

pub newborn_later : {t c v z y : ℕ} {it : Item} → it.versions ≡ 0 → it.valid ≡ 0 → LaterItem t it (newborn t c v z y)
newborn_later nolen nook =
    record {
      more_versions = omega arith;
      more_valid = omega arith;
      valid_published = omega arith;
      value = λ j q. omega arith;
      published_at = λ j q. omega arith;
      author = λ j q. omega arith;
      size = λ q. omega arith;
      node = λ j q. omega arith;
      stamp = λ j q. omega arith;
      effect_at = λ j q. omega arith;
      stamped_at = λ j q. omega arith;
      new_published = λ j q r. omega arith;
      new_effect = λ j q r. omega arith;
      new_stamped = λ j q r. omega arith;
    }

-- ---- a step's change of the memory

pub record MayPublish (t o i v : ℕ) (op : Operation) (l : Bool) (it : Item) : Type 0 where
  pub full : it.valid ≡ it.versions
  pub last : ℕ
  pub is : it.versions ≡ suc last
  pub new : v ≢ it.value last
  pub early : o < t
  pub asked : op ≡ v_cas i (it.value last) v
  pub unpub : l ≡ false

pub record MayStamp (t j c r : ℕ) (k : Camera) (it : Item) : Type 0 where
  pub head : it.versions ≡ suc j
  pub undecided : it.valid ≡ j
  pub read : CounterWas k r c
  pub past : it.published_at j < r
  pub before : r < t

abbrev pub Allowed : (t o : ℕ) → Operation → Bool → Memory → Effect → Type 0
Allowed t o op l m nothing = Unit {0}
Allowed t o op l m counts = Unit {0}
Allowed t o op l m (publishes i v y) = MayPublish t o i v op l (m.item i)
Allowed t o op l m (stamps i j c r) = MayStamp t j c r m.camera (m.item i)
Allowed t o op l m (takes_node i0 b0 j0 y0) = Unit {0}
Allowed t o op l m (gives_back y) = Unit {0}

module _ {t : ℕ} {m : Memory} (known : MemoryFacts t m) where
  -- one item changes
  with_later : (i : ℕ) (it : Item) → LaterItem t (m.item i) it → 0 < (m.item i).versions → Later t m (with_item m i it)
  with_later i it L some =
      record {
        camera = camera_stays;
        limits = refl;
        items = omega arith;
        item = λ n. put_all (λ (n : ℕ) (x : Item). LaterItem t (m.item n) x)
            m.item i it n (λ e. subst (λ (n : ℕ). LaterItem t (m.item n) it) (sym e) L) (λ e. item_same (known.item n).valid_published);
        new_author = λ n z. put_all (λ (n : ℕ) (x : Item). 0 < x.valid → t ≤ x.author 0) m.item i it n
            (λ e q. absurd (omega (arith, subst (λ (n : ℕ). (m.item n).versions ≡ 0) e z))) (λ e q. absurd (omega (arith, (known.item n).valid_published)));
      }

  with_inv : (i : ℕ) (it : Item) → LaterItem t (m.item i) it → 0 < (m.item i).versions → ItemFacts (suc t) m.camera it →
      MemoryFacts (suc t) (with_item m i it)
  with_inv i it L some invariant =
      record {
        left_past = λ h p. omega (arith, known.left_past h p);
        left_rises = known.left_rises;
        item = λ n. put_all (λ (n : ℕ) (x : Item). ItemFacts (suc t) m.camera x) m.item i it n (λ e. invariant)
            (λ e. item_stays camera_stays (known.item n));
        births = λ a b p q. put_all (λ (a : ℕ) (x : Item). a < b → x.author 0 < (put m.item i it b).author 0) m.item i it a
            (λ e r. subst (λ (v : ℕ). v < (put m.item i it b).author 0) (sym (L.author 0 some))
            (put_all (λ (b : ℕ) (x : Item). a < b → b < m.items → (m.item i).author 0 < x.author 0) m.item i it b (λ f r s. absurd (omega arith))
            (λ f r s. subst (λ (a : ℕ). (m.item a).author 0 < (m.item b).author 0) e (known.births a b r s)) p q))
            (λ e r. put_all (λ (b : ℕ) (x : Item). a < b → b < m.items → (m.item a).author 0 < x.author 0) m.item i it b
            (λ f r s. subst (λ (v : ℕ). (m.item a).author 0 < v) (sym (L.author 0 some))
            (subst (λ (b : ℕ). (m.item a).author 0 < (m.item b).author 0) f (known.births a b r s))) (λ f r s. known.births a b r s) p q) p;
        registered = λ n p. put_all (λ (n : ℕ) (x : Item). 0 < x.valid) m.item i it n (λ e. omega (arith, L.more_valid, (known.item i).first some))
            (λ e. known.registered n p);
        unregistered = λ n p. put_all (λ (n : ℕ) (x : Item). x.versions ≡ 0) m.item i it n
            (λ e. absurd (omega (arith, known.unregistered i (subst (λ (n : ℕ). m.items ≤ n) e p)))) (λ e. known.unregistered n p);
      }

  counted_later : (o : ℕ) → LaterCamera t m.camera (counted_up t o m.camera)
  counted_later o =
      record {
        counters = omega arith;
        same = λ h p. put_other m.camera.left_at m.camera.counter t h (omega arith);
        mover = λ h p. put_other m.camera.mover m.camera.counter o h (omega arith);
        new = λ h p q. put_all (λ (n x : ℕ). t ≤ x) m.camera.left_at m.camera.counter t h (λ e. omega arith) (λ e. omega arith);
      }

  pub effect_later : (o : ℕ) (op : Operation) (l : Bool) (e : Effect) → Allowed t o op l m e → Later t m (memory_after t o e m)
  unfolding memory_after
  effect_later o op l nothing x = record {
    camera = camera_stays;
    limits = refl;
    items = omega arith;
    item = λ i. item_same (known.item i).valid_published;
    new_author = λ i p q. absurd (omega (arith, (known.item i).valid_published));
  }
  effect_later o op l (takes_node i0 b0 j0 y0) x = record {
    camera = camera_stays;
    limits = refl;
    items = omega arith;
    item = λ i. item_same (known.item i).valid_published;
    new_author = λ i p q. absurd (omega (arith, (known.item i).valid_published));
  }
  effect_later o op l (gives_back y) x = record {
    camera = camera_stays;
    limits = refl;
    items = omega arith;
    item = λ i. item_same (known.item i).valid_published;
    new_author = λ i p q. absurd (omega (arith, (known.item i).valid_published));
  }
  effect_later o op l counts x = record {
    camera = counted_later o;
    limits = refl;
    items = omega arith;
    item = λ i. item_same (known.item i).valid_published;
    new_author = λ i p q. absurd (omega (arith, (known.item i).valid_published));
  }
  effect_later o op l (publishes i v y) x = with_later i _ (published_later y (known.item i) x.full x.last x.is x.new x.early)
      (omega arith)
  effect_later o op l (stamps i j c r) x = with_later i _ (stamped_later (known.item i) x.head x.undecided x.read x.past x.before)
      (omega arith)

  pub effect_keeps : (o : ℕ) (op : Operation) (l : Bool) (e : Effect) → Allowed t o op l m e → MemoryFacts (suc t) (memory_after t o e m)
  unfolding memory_after
  effect_keeps o op l nothing x = record {
    left_past = λ h p. omega (arith, known.left_past h p);
    left_rises = known.left_rises;
    item = λ i. item_stays camera_stays (known.item i);
    births = known.births;
    registered = known.registered;
    unregistered = known.unregistered;
  }
  effect_keeps o op l (takes_node i0 b0 j0 y0) x = record {
    left_past = λ h p. omega (arith, known.left_past h p);
    left_rises = known.left_rises;
    item = λ i. item_stays camera_stays (known.item i);
    births = known.births;
    registered = known.registered;
    unregistered = known.unregistered;
  }
  effect_keeps o op l (gives_back y) x = record {
    left_past = λ h p. omega (arith, known.left_past h p);
    left_rises = known.left_rises;
    item = λ i. item_stays camera_stays (known.item i);
    births = known.births;
    registered = known.registered;
    unregistered = known.unregistered;
  }
  effect_keeps o op l counts x =
      record {
        left_past = λ h p. put_all (λ (n x : ℕ). x < suc t) m.camera.left_at m.camera.counter t h (λ e. omega arith)
            (λ e. omega (arith, known.left_past h (omega arith)));
        left_rises = λ g h p q. put_all (λ (g x : ℕ). g < h → x < put m.camera.left_at m.camera.counter t h) m.camera.left_at m.camera.counter t g
            (λ e p. absurd (omega arith))
            (λ e p. put_all (λ (h x : ℕ). g < h → h < suc m.camera.counter → m.camera.left_at g < x) m.camera.left_at m.camera.counter t h
            (λ f p q. known.left_past g (omega arith)) (λ f p q. known.left_rises g h p (omega arith)) p q) p;
        item = λ i. item_stays (counted_later o) (known.item i);
        births = known.births;
        registered = known.registered;
        unregistered = known.unregistered;
      }
  effect_keeps o op l (publishes i v y) x =
      with_inv i _ (published_later y (known.item i) x.full x.last x.is x.new x.early) (omega arith)
      (published_inv y (known.item i) x.full x.last x.is x.new x.early)
  effect_keeps o op l (stamps i j c r) x =
      with_inv i _ (stamped_later (known.item i) x.head x.undecided x.read x.past x.before) (omega arith)
      (stamped_inv (known.item i) x.head x.undecided x.read x.past x.before)
