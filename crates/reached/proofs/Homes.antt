-- And each node ever used is somewhere: the place that its owner names is where it stands.
use Prim.Native.Nat.{ℕ, suc, ◌<◌}
use mathlib.Core.List.{List, [], ◌∷◌}
use Rattle.std.specs.Prelude.{◌≢◌, ◌⊎◌, refl}
use Rattle.std.proofs.Math.Logic.{inl, inr}
use Rattle.std.proofs.Math.Path.{◌≡◌, ap, sym, subst}
use Rattle.std.proofs.Common.{◌∙◌, arith}
use Rattle.std.proofs.Math.ListN.{length}
use Rattle.history.specs.Tools.{put, by_eq, by_lt, by_le, put_all, put_same}
use Rattle.history.specs.Machine.{Item, Memory, Pool, Found, no_node, node, node_to_take, used_next, all_but_first, one_taken, one_returned, Phase, line_37, line_39, line_41, line_43, line_45, line_46, line_48, line_50, line_51, line_52, line_5, line_6, line_32, line_34, total_32, total_34, closing, line_20, line_21, line_22, helped_item, after, Effect, nothing, counts, publishes, stamps, takes_node, gives_back, Comes, goes_on, ends_with, answers_change, answers, Next, on_45, line, memory_after, published, Worker, idle, busy}
use Rattle.reached.specs.Parts.{Shared}
use Rattle.reached.specs.Grows.{MemoryWell, Grows}
use Rattle.reached.specs.Effects.{EffectFits, effect_grows, PublishFits}
use Rattle.reached.specs.Image.{Owner, unused, waits, held, version, SharedImage}
use Rattle.reached.proofs.Nodes.{Taken, given, lowest, taken}
use Rattle.reached.proofs.ImageEffects.{owner_after}

-- In a chain, node y stands with d below it.
abbrev pub WaitsAt : List ℕ → ℕ → ℕ → Type 0
WaitsAt [] d y = ⊥
WaitsAt (x ∷ l) d y = ((d ≡ length l) × (x ≡ y)) ⊎ WaitsAt l d y

pub record SharedHomes (m : Memory) (own : ℕ → Owner) : Type 0 where
  pub owned : (y : ℕ) → y < m.pool.used → own y ≢ unused
  pub version_home : (y i j : ℕ) → own y ≡ version i j → (i < m.items) × (j < (m.item i).versions) × ((m.item i).node j ≡ y)
  pub waits_home : (y d : ℕ) → own y ≡ waits d → WaitsAt m.pool.given_back d y

-- A phase holds node y: at lines 46 and 50.
abbrev pub Holding : Phase → ℕ → Type 0
Holding (line_37 i) y = ⊥
Holding (line_39 i f j) y = ⊥
Holding (line_41 i a b) y = ⊥
Holding (line_43 i a b f j) y = ⊥
Holding (line_45 i a b f j) y = ⊥
Holding (line_46 i a b f j v) y = v ≡ y
Holding (line_48 i a b j) y = ⊥
Holding (line_50 i a b g v) y = v ≡ y
Holding (line_51 i a b g) y = ⊥
Holding (line_52 i a b g j) y = ⊥
Holding line_5 y = ⊥
Holding (line_6 c r) y = ⊥
Holding (line_32 i h) y = ⊥
Holding (line_34 i h f j x) y = ⊥
Holding (total_32 q h k i u) y = ⊥
Holding (total_34 q h k i u f j x) y = ⊥
Holding (closing q h k u) y = ⊥
Holding (line_20 c j) y = ⊥
Holding (line_21 c j) y = ⊥
Holding (line_22 c j n r) y = ⊥

abbrev pub WorkerHolding : Worker → ℕ → Type 0
WorkerHolding idle y = ⊥
WorkerHolding (busy o l ph) y = Holding ph y

abbrev pub ComesHolding : Comes → ℕ → Type 0
ComesHolding (goes_on ph) y = Holding ph y
ComesHolding (ends_with n) y = ⊥
ComesHolding (answers_change x) y = ⊥
ComesHolding (answers x τ j) y = ⊥

-- in a later memory, with the same owner
version_later : {m later : Memory} → Grows m later → (y i j : ℕ) → (i < m.items) × (j < (m.item i).versions) × ((m.item i).node j ≡ y)
    → (i < later.items) × (j < (later.item i).versions) × ((later.item i).node j ≡ y)
version_later G y i j h = (omega (arith, h.0, G.items), omega (arith, h.1, (G.item i h.0).versions), (G.item i h.0).node j h.1 ∙ h.2)

module _ (m : Memory) (s : Shared) (own : ℕ → Owner) (S : SharedImage m s own) (H : SharedHomes m own) where
  -- a node is taken, for whom it may be; versions stay
  pub taken_homes : (later : Memory) (y : ℕ) (to : Owner) → Grows m later → later.pool ≡ one_taken m.pool → node_to_take m ≡ node y → to ≢ unused
      → ((d : ℕ) → to ≢ waits d)
      → ((i j : ℕ) → to ≡ version i j → (i < later.items) × (j < (later.item i).versions) × ((later.item i).node j ≡ y)) → SharedHomes later (put own y to)
  taken_homes later y to G e f some no_wait its = record {
    owned = λ z l. put_all (λ (z : ℕ) (o : Owner). z < later.pool.used → o ≢ unused) own y to z (λ d l. some)
        (λ d l. H.owned z (used_before (taken m s own S y f) z d (subst (λ (p : Pool). z < p.used) e l))) l;
    version_home = λ z i j. put_all (λ (z : ℕ) (o : Owner). o ≡ version i j
        → (i < later.items) × (j < (later.item i).versions) × ((later.item i).node j ≡ z)) own y to z
        (λ d g. subst (λ (z : ℕ). (i < later.items) × (j < (later.item i).versions) × ((later.item i).node j ≡ z)) (sym d) (its i j g))
        (λ d g. version_later G z i j (H.version_home z i j g));
    waits_home = λ z d. put_all (λ (z : ℕ) (o : Owner). o ≡ waits d → WaitsAt later.pool.given_back d z) own y to z (λ c g. absurd (no_wait d g))
        (λ c g. subst (λ (p : Pool). WaitsAt p.given_back d z) (sym e) (still_waits (taken m s own S y f) z d c (H.waits_home z d g)));
  }
    where
      used_before : Taken m s own y → (z : ℕ) → z ≢ y → z < (one_taken m.pool).used → z < m.pool.used
      used_before (given l g a b c d) z x = unfold one_taken in
          subst (λ (k : List ℕ). z < used_next k m.pool.used → z < m.pool.used) (sym g) (unfold used_next in λ p. p)
      used_before (lowest g a b c) z x = unfold one_taken in
          subst (λ (k : List ℕ). z < used_next k m.pool.used → z < m.pool.used) (sym g) (unfold used_next in λ p. omega arith)

      still_waits : Taken m s own y → (z d : ℕ) → z ≢ y → WaitsAt m.pool.given_back d z → WaitsAt (one_taken m.pool).given_back d z
      still_waits (given l g a b c e) z d x = unfold one_taken in
          subst (λ (k : List ℕ). WaitsAt k d z → WaitsAt (all_but_first k) d z) (sym g) (unfold all_but_first in rest)
        where
          rest : ((d ≡ length l) × (y ≡ z)) ⊎ WaitsAt l d z → WaitsAt l d z
          rest (inl h) = absurd (x (sym h.1))
          rest (inr h) = h
      still_waits (lowest g a b c) z d x = unfold one_taken in subst (λ (k : List ℕ). WaitsAt k d z → WaitsAt (all_but_first k) d z) (sym g) (λ h. absurd h)

  -- the same owners in a later memory whose nodes are as they were
  same_homes : (later : Memory) → Grows m later → later.pool ≡ m.pool → SharedHomes later own
  same_homes later G e = record {
    owned = λ y l. H.owned y (subst (λ (p : Pool). y < p.used) e l);
    version_home = λ y i j g. version_later G y i j (H.version_home y i j g);
    waits_home = λ y d g. subst (λ (p : Pool). WaitsAt p.given_back d y) (sym e) (H.waits_home y d g);
  }

  publish_homes : (t o i v y : ℕ) → MemoryWell m → PublishFits m i v
      → SharedHomes (memory_after t o (publishes i v y) m) (put own y (version i (m.item i).versions))
  unfolding memory_after
  publish_homes t o i v y W k = record {
    owned = λ z l. put_all (λ (z : ℕ) (u : Owner). u ≢ unused) own y (version i n) z (λ d g. let x : ◌≡◌ {A = ℕ} 0 1 = cc in omega arith) (λ d. H.owned z l);
    version_home = λ z a b. put_all (λ (z : ℕ) (u : Owner). u ≡ version a b
        → (a < m.items) × (b < (put m.item i new a).versions) × ((put m.item i new a).node b ≡ z)) own y (version i n) z
        (λ d g. let p : i ≡ a = cc in let q : n ≡ b = cc in
        subst (λ (z : ℕ). (a < m.items) × (b < (put m.item i new a).versions) × ((put m.item i new a).node b ≡ z)) (sym d) (here a b p q))
        (λ d g. version_later G z a b (H.version_home z a b g));
    waits_home = λ z d. put_all (λ (z : ℕ) (u : Owner). u ≡ waits d → WaitsAt m.pool.given_back d z) own y (version i n) z
        (λ c g. absurd (let x : ◌≡◌ {A = ℕ} 0 1 = cc in omega arith)) (λ c g. H.waits_home z d g);
  }
    where
      n : ℕ
      n = (m.item i).versions

      new : Item
      new = published t o v y (m.item i)

      G : Grows m (memory_after t o (publishes i v y) m)
      G = effect_grows t o m W (publishes i v y) k

      here : (a b : ℕ) → i ≡ a → (m.item i).versions ≡ b → (a < m.items) × (b < (put m.item i new a).versions) × ((put m.item i new a).node b ≡ y)
      here a b p q = (
        omega (arith, k.item_in),
        omega (arith, ap (λ (it : Item). it.versions) (put_same m.item i new a (sym p))),
        ap (λ (it : Item). it.node b) (put_same m.item i new a (sym p)) ∙ put_same (m.item i).node (m.item i).versions y b (sym q),
      )

  give_homes : (t o y : ℕ) → SharedHomes (memory_after t o (gives_back y) m) (put own y (waits (length m.pool.given_back)))
  unfolding memory_after one_returned
  give_homes t o y = record {
    owned = λ z l. put_all (λ (z : ℕ) (u : Owner). u ≢ unused) own y to z (λ d g. let x : ◌≡◌ {A = ℕ} 0 1 = cc in omega arith) (λ d. H.owned z l);
    version_home = λ z i j. put_all (λ (z : ℕ) (u : Owner). u ≡ version i j → (i < m.items) × (j < (m.item i).versions) × ((m.item i).node j ≡ z)) own y to z
        (λ d g. absurd (let x : ◌≡◌ {A = ℕ} 0 1 = cc in omega arith)) (λ d g. H.version_home z i j g);
    waits_home = λ z d. put_all (λ (z : ℕ) (u : Owner). u ≡ waits d → ((d ≡ length m.pool.given_back) × (y ≡ z)) ⊎ WaitsAt m.pool.given_back d z)
        own y to z
        (λ c g. let x : length m.pool.given_back ≡ d = cc in inl (sym x, sym c)) (λ c g. inr (H.waits_home z d g));
  }
    where
      to : Owner
      to = waits (length m.pool.given_back)

  pub effect_homes : (t o w : ℕ) → MemoryWell m → (e : Effect) → EffectFits m e → SharedHomes (memory_after t o e m) (owner_after w m e own)
  effect_homes t o w W nothing k = unfold memory_after in H
  effect_homes t o w W counts k = same_homes (memory_after t o counts m) (effect_grows t o m W counts k) (unfold memory_after in refl)
  effect_homes t o w W (publishes i v y) k = publish_homes t o i v y W k
  effect_homes t o w W (stamps i j c r) k = same_homes (memory_after t o (stamps i j c r) m) (effect_grows t o m W (stamps i j c r) k)
      (unfold memory_after in refl)
  effect_homes t o w W (takes_node i x j y) k =
      taken_homes (memory_after t o (takes_node i x j y) m) y (held w) (effect_grows t o m W (takes_node i x j y) k) (unfold memory_after in refl) k
      (λ g. let z : ◌≡◌ {A = ℕ} 0 1 = cc in omega arith) (λ d g. let z : ◌≡◌ {A = ℕ} 0 1 = cc in omega arith)
      (λ a b g. absurd (let z : ◌≡◌ {A = ℕ} 0 1 = cc in omega arith))
  effect_homes t o w W (gives_back y) k = give_homes t o y

-- ---- the stepping worker holds exactly what is his

module _ (t w : ℕ) (m : Memory) (own : ℕ → Owner) (y : ℕ) where
  -- if y was held by w exactly where his phase said so, it is where his next one says so
  abbrev KeepsHolding : Phase → Next → Type 0
  KeepsHolding ph x = (own y ≡ held w → Holding ph y) → owner_after w m x.does own y ≡ held w → ComesHolding x.comes y

  pub line_holding : (ph : Phase) → KeepsHolding ph (line t m ph)
  unfolding line
  line_holding (line_37 i) = λ h g. absurd (h g)
  line_holding (line_39 i f j) = λ h g. h g
  line_holding (line_41 i a b) = λ h g. absurd (h g)
  line_holding (line_43 i a b f j) = by_eq (KeepsHolding (line_43 i a b f j)) ((m.item i).value j) a
      (λ e. by_eq (KeepsHolding (line_43 i a b f j)) b a (λ d h g. h g) (λ d h g. h g)) (λ e h g. h g)
  line_holding (line_45 i a b f j) = at (node_to_take m)
    where
      at : (r : Found) → KeepsHolding (line_45 i a b f j) (on_45 i a b f j r)
      at no_node = λ h g. h g
      at (node v) = λ h. put_all (λ (y : ℕ) (u : Owner). (own y ≡ held w → ⊥) → u ≡ held w → v ≡ y) own v (held w) y (λ d h g. sym d)
          (λ d h g. absurd (h g)) h
  line_holding (line_46 i a b f j v) =
      by_eq (KeepsHolding (line_46 i a b f j v)) (m.item i).versions (suc j)
      (λ e h. put_all (λ (y : ℕ) (u : Owner). (own y ≡ held w → v ≡ y) → u ≡ held w → ⊥) own v (version i (m.item i).versions) y
      (λ d h g. let z : ◌≡◌ {A = ℕ} 0 1 = cc in omega arith) (λ d h g. d (sym (h g))) h)
      (λ e h g. h g)
  line_holding (line_48 i a b j) = λ h g. h g
  line_holding (line_50 i a b k v) = λ h.
      put_all (λ (y : ℕ) (u : Owner). (own y ≡ held w → v ≡ y) → u ≡ held w → ⊥) own v (waits (length m.pool.given_back)) y
      (λ d h g. let z : ◌≡◌ {A = ℕ} 0 1 = cc in omega arith) (λ d h g. d (sym (h g))) h
  line_holding (line_51 i a b g) = λ h g. absurd (h g)
  line_holding (line_52 i a b g j) = λ h g. h g
  line_holding line_5 = by_le (KeepsHolding line_5) m.limits.counter m.camera.counter (λ e h g. h g) (λ e h g. h g)
  line_holding (line_6 c r) = by_eq (KeepsHolding (line_6 c r)) m.camera.counter c (λ e h g. h g) (λ e h g. h g)
  line_holding (line_32 i a) = λ h g. absurd (h g)
  line_holding (line_34 i a f j x) = by_lt (KeepsHolding (line_34 i a f j x)) a ((m.item i).stamp x) (λ e h g. h g) (λ e h g. h g)
  line_holding (total_32 q a k i u) = λ h g. absurd (h g)
  line_holding (total_34 q a k i u f j x) = λ h g. absurd (h g)
  line_holding (closing q a k u) = λ h g. h g
  line_holding (line_20 c j) = λ h g. absurd (h g)
  line_holding (line_21 c j) = λ h g. h g
  line_holding (line_22 c j n r) =
      by_lt (λ (e : Effect). KeepsHolding (line_22 c j n r) (record { does = e; comes = goes_on (after c j) })) j (m.item (helped_item c)).valid
      (λ e h g. absurd (h g)) (λ e h g. absurd (h g))

  -- and another worker's node is another's before and after
  pub other_holding : (v : ℕ) → v ≢ w → (e : Effect) → owner_after w m e own y ≡ held v → own y ≡ held v
  other_holding v d nothing g = g
  other_holding v d counts g = g
  other_holding v d (publishes i x z) g =
      put_all (λ (y : ℕ) (u : Owner). u ≡ held v → own y ≡ held v) own z (version i (m.item i).versions) y
      (λ c g. absurd (let k : ◌≡◌ {A = ℕ} 0 1 = cc in omega arith)) (λ c g. g) g
  other_holding v d (stamps i j c r) g = g
  other_holding v d (takes_node i x j z) g = put_all (λ (y : ℕ) (u : Owner). u ≡ held v → own y ≡ held v) own z (held w) y
      (λ c g. absurd (d (let k : w ≡ v = cc in sym k))) (λ c g. g) g
  other_holding v d (gives_back z) g =
      put_all (λ (y : ℕ) (u : Owner). u ≡ held v → own y ≡ held v) own z (waits (length m.pool.given_back)) y
      (λ c g. absurd (let k : ◌≡◌ {A = ℕ} 0 1 = cc in omega arith)) (λ c g. g) g
