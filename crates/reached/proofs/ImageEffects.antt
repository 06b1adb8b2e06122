-- What a line does to the shared words is the image of what it does to the machine's memory.
use Prim.Native.Nat.{ℕ, suc, pred, ◌+◌, ◌<◌, ◌≤◌}
use Rattle.std.proofs.Math.Bool.{cond}
use Rattle.std.specs.Prelude.{List, [], ◌∷◌, ◌≢◌, ◌⊎◌, ◌≡◌, eqb, length}
use Rattle.std.proofs.Math.Logic.{inl, inr, ⊎_elim}
use Rattle.std.proofs.Math.Path.{refl, ap, sym, subst}
use Rattle.std.proofs.Common.{◌∙◌}
use native.Mathlib.Omega.{arith}
use Rattle.definitions.specs.Damage.{TBD}
use Rattle.history.specs.Tools.{put, by_eq, put_all, put_same, put_other, Same, eq, ne, same?}
use Rattle.history.specs.Machine.{Item, Memory, node, node_to_take, one_taken, one_returned, Effect, nothing, counts, publishes, stamps, takes_node, gives_back, memory_after, published, stamped}
use Rattle.reached.specs.Parts.{Shared, put_at, put_at_same, put_at_other, put_at_all}
use Rattle.reached.specs.Grows.{MemoryWell}
use Rattle.reached.specs.Effects.{EffectFits, PublishFits, StampFits}
use Rattle.reached.specs.Image.{Owner, waits, held, version, Chain, SharedImage, NodesFit, NewNode, shared_after}
use Rattle.reached.proofs.Nodes.{NoVersion, held_no_version, chain_frame, held_no_wait, chain_own, Taken, version_below, held_below, waits_below, version_apart, versions_apart, taken, taken_no_version, AfterTaking, after_taking}

-- What the step of worker w needs of the nodes that it writes.
pub record TakeFits (m : Memory) (i new j : ℕ) : Type 0 where
  pub item_in : i < m.items
  pub there : j < (m.item i).versions
  pub value_in : new < m.limits.projects

abbrev pub EffectHolds : (ℕ → Owner) → ℕ → Shared → Memory → Effect → Type 0
EffectHolds own w s m nothing = Unit {0}
EffectHolds own w s m counts = Unit {0}
EffectHolds own w s m (publishes i v y) = NewNode own s w v ((m.item i).node (pred (m.item i).versions)) y
EffectHolds own w s m (stamps i j c r) = Unit {0}
EffectHolds own w s m (takes_node i new j y) = TakeFits m i new j
EffectHolds own w s m (gives_back y) = own y ≡ held w

abbrev pub owner_after : ℕ → Memory → Effect → (ℕ → Owner) → ℕ → Owner
owner_after w m nothing own = own
owner_after w m counts own = own
owner_after w m (publishes i v y) own = put own y (version i (m.item i).versions)
owner_after w m (stamps i j c r) own = own
owner_after w m (takes_node i new j y) own = put own y (held w)
owner_after w m (gives_back y) own = put own y (waits (length m.pool.given_back))

module _ (t o w : ℕ) (m : Memory) (W : MemoryWell m) (s : Shared) (own : ℕ → Owner) (S : SharedImage m s own) where
  some_version : (i : ℕ) → i < m.items → 0 < (m.item i).versions
  some_version i l = omega (arith, (W.item_well i l).some, (W.item_well i l).few)

  counts_image : SharedImage (memory_after t o counts m) (shared_after m counts s) own
  unfolding memory_after
  counts_image = record {
    counter_is = omega (arith, S.counter_is);
    items_are = S.items_are;
    used_are = S.used_are;
    used_in = S.used_in;
    chain = S.chain;
    head_is = S.head_is;
    birth_is = S.birth_is;
    size_is = S.size_is;
    value_is = S.value_is;
    valid_stamp = S.valid_stamp;
    no_stamp = S.no_stamp;
    older_is = S.older_is;
    oldest = S.oldest;
    owner = S.owner;
    rest = S.rest;
  }

  -- a node in which no version stands gets other words
  module _ (y : ℕ) (out : NoVersion own y) (v x u : ℕ) where
    value_off : (i j : ℕ) → i < m.items → j < (m.item i).versions → put_at s.value y v ((m.item i).node j) ≡ s.value ((m.item i).node j)
    value_off i j l p = put_at_other s.value y v ((m.item i).node j) (λ e. version_apart m s own S i j y l p out (sym e))

    older_off : (i j : ℕ) → i < m.items → j < (m.item i).versions → put_at s.older y x ((m.item i).node j) ≡ s.older ((m.item i).node j)
    older_off i j l p = put_at_other s.older y x ((m.item i).node j) (λ e. version_apart m s own S i j y l p out (sym e))

    stamp_off : (i j : ℕ) → i < m.items → j < (m.item i).versions → put_at s.stamp y u ((m.item i).node j) ≡ s.stamp ((m.item i).node j)
    stamp_off i j l p = put_at_other s.stamp y u ((m.item i).node j) (λ e. version_apart m s own S i j y l p out (sym e))

  owner_off : (y : ℕ) (to : Owner) → NoVersion own y → (i j : ℕ) → i < m.items → j < (m.item i).versions → put own y to ((m.item i).node j) ≡ version i j
  owner_off y to out i j l p = put_other own y to ((m.item i).node j) (version_apart m s own S i j y l p out) ∙ S.owner i j l p

  takes_image : (i new j y : ℕ) → node_to_take m ≡ node y
      → SharedImage (memory_after t o (takes_node i new j y) m) (shared_after m (takes_node i new j y) s) (put own y (held w))
  unfolding memory_after
  takes_image i new j y e =
      record {
        counter_is = S.counter_is;
        items_are = S.items_are;
        used_are = A.used_are;
        used_in = A.used_in;
        chain = A.chain;
        head_is = S.head_is;
        birth_is = S.birth_is;
        size_is = S.size_is;
        value_is = λ i j l p. value_off y out new 0 0 i j l p ∙ S.value_is i j l p;
        valid_stamp = λ i j l p. stamp_off y out 0 0 TBD i j l (omega (arith, (W.item_well i l).few)) ∙ S.valid_stamp i j l p;
        no_stamp = λ i j l p q. stamp_off y out 0 0 TBD i j l q ∙ S.no_stamp i j l p q;
        older_is = λ i' j' l p. older_off y out 0 ((m.item i).node j + 1) 0 i' (suc j') l p ∙ S.older_is i' j' l p;
        oldest = λ i' l. older_off y out 0 ((m.item i).node j + 1) 0 i' 0 l (some_version i' l) ∙ S.oldest i' l;
        owner = owner_off y (held w) out;
        rest = A.rest;
      }
    where
      T : Taken m s own y
      T = taken m s own S y e

      out : NoVersion own y
      out = taken_no_version m s own S y T

      A : AfterTaking m s own y (held w) ((m.item i).node j + 1) (one_taken m.pool)
      A = after_taking m s own S y (held w) ((m.item i).node j + 1) T

  gives_image : (y : ℕ) → own y ≡ held w → SharedImage (memory_after t o (gives_back y) m) (shared_after m (gives_back y) s)
      (put own y (waits (length m.pool.given_back)))
  unfolding memory_after one_returned
  gives_image y e =
      record {
        counter_is = S.counter_is;
        items_are = S.items_are;
        used_are = S.used_are;
        used_in = S.used_in;
        head_is = S.head_is;
        birth_is = S.birth_is;
        size_is = S.size_is;
        chain = (
          omega arith,
          put_same own y _ y refl,
          subst (λ (g : ℕ). Chain (put own y (waits (length m.pool.given_back))) (put_at s.older y s.given_back) g m.pool.given_back)
              (sym (put_at_same s.older y s.given_back y refl))
              (chain_frame own s.older y (waits (length m.pool.given_back)) s.given_back s.given_back m.pool.given_back
              (λ d p. held_no_wait own y w e d) S.chain),
        );
        value_is = S.value_is;
        valid_stamp = S.valid_stamp;
        no_stamp = S.no_stamp;
        older_is = λ i j l p. older_off y out 0 s.given_back 0 i (suc j) l p ∙ S.older_is i j l p;
        oldest = λ i l. older_off y out 0 s.given_back 0 i 0 l (some_version i l) ∙ S.oldest i l;
        owner = owner_off y _ out;
        rest = λ z p. put_other own y _ z (λ f. absurd (omega (arith, held_below m s own S y w e))) ∙ S.rest z p;
      }
    where
      out : NoVersion own y
      out = held_no_version own y w e

  -- what holds of a changed item, and of each other, holds of all
  each : (P : ℕ → Item → Type 0) (i : ℕ) (it : Item) → P i it → ((x : ℕ) → x ≢ i → P x (m.item x)) → (x : ℕ) → P x (put m.item i it x)
  each P i it h g x = put_all P m.item i it x (λ e. subst (λ (x : ℕ). P x it) (sym e) h) (λ e. g x e)

  stamps_image : (i j c r : ℕ) → StampFits m i j c → SharedImage (memory_after t o (stamps i j c r) m) (shared_after m (stamps i j c r) s) own
  unfolding memory_after
  stamps_image i j c r k =
      record {
        counter_is = S.counter_is;
        items_are = S.items_are;
        used_are = S.used_are;
        used_in = S.used_in;
        chain = S.chain;
        head_is = each (λ (x : ℕ) (it : Item). x < m.items → s.head x ≡ it.node (pred it.versions)) i new (S.head_is i) (λ x e. S.head_is x);
        birth_is = each (λ (x : ℕ) (it : Item). x < m.items → s.birth x ≡ it.stamp 0) i new
            (λ l. S.birth_is i l ∙ sym (put_other (m.item i).stamp j c 0 (λ e. absurd (omega (arith, k.newest, (W.item_well i l).some)))))
            (λ x e. S.birth_is x);
        size_is = each (λ (x : ℕ) (it : Item). x < m.items → s.size x ≡ it.size) i new (S.size_is i) (λ x e. S.size_is x);
        value_is = λ x y. each (λ (x : ℕ) (it : Item). x < m.items → y < it.versions → s.value (it.node y) ≡ it.value y) i new (S.value_is i y)
            (λ x e. S.value_is x y) x;
        valid_stamp = λ x y. each (λ (x : ℕ) (it : Item). x < m.items → y < it.valid → stamp' (it.node y) ≡ it.stamp y) i new
            (λ l p. at y p (same? y j)) (λ x e l p. off x y l (omega (arith, (W.item_well x l).few)) (λ a b. e a) ∙ S.valid_stamp x y l p) x;
        no_stamp = λ x y. each (λ (x : ℕ) (it : Item). x < m.items → it.valid ≤ y → y < it.versions → stamp' (it.node y) ≡ TBD) i new
            (λ l p q. absurd (omega (arith, k.there))) (λ x e l p q. off x y l q (λ a b. e a) ∙ S.no_stamp x y l p q) x;
        older_is = λ x y. each (λ (x : ℕ) (it : Item). x < m.items → suc y < it.versions → s.older (it.node (suc y)) ≡ suc (it.node y)) i new
            (S.older_is i y) (λ x e. S.older_is x y) x;
        oldest = each (λ (x : ℕ) (it : Item). x < m.items → s.older (it.node 0) ≡ 0) i new (S.oldest i) (λ x e. S.oldest x);
        owner = λ x y. each (λ (x : ℕ) (it : Item). x < m.items → y < it.versions → own (it.node y) ≡ version x y) i new (S.owner i y)
            (λ x e. S.owner x y) x;
        rest = S.rest;
      }
    where
      new : Item
      new = stamped t j c r (m.item i)

      stamp' : ℕ → ℕ
      stamp' = put_at s.stamp ((m.item i).node j) c

      off : (x y : ℕ) → x < m.items → y < (m.item x).versions → (x ≡ i → y ≡ j → ⊥) → stamp' ((m.item x).node y) ≡ s.stamp ((m.item x).node y)
      off x y l p d = put_at_other s.stamp ((m.item i).node j) c ((m.item x).node y)
          (λ e. versions_apart m s own S x y i j l p k.item_in (omega (arith, k.there)) d (sym e))

      at : (y : ℕ) → y < suc j → Same y j → stamp' ((m.item i).node y) ≡ put (m.item i).stamp j c y
      at y p (eq e) = put_at_same s.stamp ((m.item i).node j) c ((m.item i).node y) (ap (m.item i).node (sym e))
          ∙ sym (put_same (m.item i).stamp j c y e)
      at y p (ne e) = off i y k.item_in (omega (arith, k.there)) (λ a b. e b) ∙ S.valid_stamp i y k.item_in (omega (arith, k.newest))
          ∙ sym (put_other (m.item i).stamp j c y e)

  publishes_image : (i v y : ℕ) → PublishFits m i v → NewNode own s w v ((m.item i).node (pred (m.item i).versions)) y
      → SharedImage (memory_after t o (publishes i v y) m) (shared_after m (publishes i v y) s) (put own y (version i (m.item i).versions))
  unfolding memory_after
  publishes_image i v y k h =
      record {
        counter_is = S.counter_is;
        items_are = S.items_are;
        used_are = S.used_are;
        used_in = S.used_in;
        chain = chain_own own s.older y _ s.given_back m.pool.given_back (held_no_wait own y w h.mine) S.chain;
        head_is = λ x. each (λ (x : ℕ) (it : Item). x < m.items → put_at s.head i y x ≡ it.node (pred it.versions)) i new
            (λ l. put_at_same s.head i y i refl ∙ sym (put_same (m.item i).node n y (pred (suc n)) (omega arith)))
            (λ x e l. put_at_other s.head i y x (λ f. e (sym f)) ∙ S.head_is x l) x;
        birth_is = each (λ (x : ℕ) (it : Item). x < m.items → s.birth x ≡ it.stamp 0) i new (S.birth_is i) (λ x e. S.birth_is x);
        size_is = each (λ (x : ℕ) (it : Item). x < m.items → s.size x ≡ it.size) i new (S.size_is i) (λ x e. S.size_is x);
        value_is = λ x z. each (λ (x : ℕ) (it : Item). x < m.items → z < it.versions → s.value (it.node z) ≡ it.value z) i new
            (λ l p. value_at z p (same? z n)) (λ x e. S.value_is x z) x;
        valid_stamp = λ x z. each (λ (x : ℕ) (it : Item). x < m.items → z < it.valid → s.stamp (it.node z) ≡ it.stamp z) i new
            (λ l p. ap s.stamp (put_other (m.item i).node n y z (λ e. absurd (omega (arith, (W.item_well i l).few)))) ∙ S.valid_stamp i z l p)
            (λ x e. S.valid_stamp x z) x;
        no_stamp = λ x z. each (λ (x : ℕ) (it : Item). x < m.items → it.valid ≤ z → z < it.versions → s.stamp (it.node z) ≡ TBD) i new
            (λ l p q. ap s.stamp (put_same (m.item i).node n y z (omega (arith, k.all_valid))) ∙ h.stamp_is) (λ x e. S.no_stamp x z) x;
        older_is = λ x z. each (λ (x : ℕ) (it : Item). x < m.items → suc z < it.versions → s.older (it.node (suc z)) ≡ suc (it.node z)) i new
            (λ l p. older_at z p (same? (suc z) n)) (λ x e. S.older_is x z) x;
        oldest = each (λ (x : ℕ) (it : Item). x < m.items → s.older (it.node 0) ≡ 0) i new
            (λ l. ap s.older (put_other (m.item i).node n y 0 (λ e. absurd (omega (arith, some_version i l)))) ∙ S.oldest i l) (λ x e. S.oldest x);
        owner = λ x z. each (λ (x : ℕ) (it : Item). x < m.items → z < it.versions → own' (it.node z) ≡ version x z) i new
            (λ l p. owner_at z p (same? z n)) (λ x e l p. owner_off y _ out x z l p) x;
        rest = λ z p. put_other own y _ z (λ f. absurd (omega (arith, held_below m s own S y w h.mine))) ∙ S.rest z p;
      }
    where
      n : ℕ
      n = (m.item i).versions

      new : Item
      new = published t o v y (m.item i)

      out : NoVersion own y
      out = held_no_version own y w h.mine

      own' : ℕ → Owner
      own' = put own y (version i n)

      value_at : (z : ℕ) → z < suc n → Same z n → s.value (put (m.item i).node n y z) ≡ put (m.item i).value n v z
      value_at z p (eq e) = ap s.value (put_same (m.item i).node n y z e) ∙ h.value_is ∙ sym (put_same (m.item i).value n v z e)
      value_at z p (ne e) = ap s.value (put_other (m.item i).node n y z e) ∙ S.value_is i z k.item_in (omega arith)
          ∙ sym (put_other (m.item i).value n v z e)

      older_at : (z : ℕ) → suc z < suc n → Same (suc z) n → s.older (put (m.item i).node n y (suc z)) ≡ suc (put (m.item i).node n y z)
      older_at z p (eq e) = ap s.older (put_same (m.item i).node n y (suc z) e) ∙ h.older_is
          ∙ ap suc (ap (m.item i).node (omega arith) ∙ sym (put_other (m.item i).node n y z (λ f. absurd (omega arith))))
      older_at z p (ne e) = ap s.older (put_other (m.item i).node n y (suc z) e) ∙ S.older_is i z k.item_in (omega arith)
          ∙ ap suc (sym (put_other (m.item i).node n y z (λ f. absurd (omega arith))))

      owner_at : (z : ℕ) → z < suc n → Same z n → own' (put (m.item i).node n y z) ≡ version i z
      owner_at z p (eq e) = ap own' (put_same (m.item i).node n y z e) ∙ put_same own y _ y refl ∙ ap (version i) (sym e)
      owner_at z p (ne e) = ap own' (put_other (m.item i).node n y z e) ∙ owner_off y _ out i z k.item_in (omega arith)

  pub effect_image : (e : Effect) → EffectFits m e → EffectHolds own w s m e
      → SharedImage (memory_after t o e m) (shared_after m e s) (owner_after w m e own)
  effect_image nothing k h = unfold memory_after in S
  effect_image counts k h = counts_image
  effect_image (publishes i v y) k h = publishes_image i v y k h
  effect_image (stamps i j c r) k h = stamps_image i j c r k
  effect_image (takes_node i new j y) k h = takes_image i new j y k
  effect_image (gives_back y) k h = gives_image y h

  -- the first node given back is a node that was used, or there is none
  pub first_in : s.given_back ≤ s.used
  first_in = at m.pool.given_back S.chain
    where
      at : (l : List ℕ) → Chain own s.older s.given_back l → s.given_back ≤ s.used
      at [] c = omega arith
      at (y ∷ l) c = omega (arith, c.0, S.used_are, waits_below m s own S y (length l) c.1)

  pub effect_nodes : (e : Effect) → EffectFits m e → EffectHolds own w s m e → NodesFit m s → NodesFit (memory_after t o e m) (shared_after m e s)
  unfolding memory_after
  effect_nodes nothing k h N = N
  effect_nodes counts k h N = record {
    value_in = N.value_in;
    older_in = N.older_in;
    stamp_in = λ y l. ⊎_elim (λ p. inl (omega arith)) (λ p. inr p) (N.stamp_in y l);
  }
  effect_nodes (publishes i v y) k h N = record { value_in = N.value_in; older_in = N.older_in; stamp_in = N.stamp_in }
  effect_nodes (stamps i j c r) k h N =
      record {
        value_in = N.value_in;
        older_in = N.older_in;
        stamp_in = λ y l. put_at_all (λ (u : ℕ). (u ≤ s.counter) ⊎ (u ≡ TBD)) s.stamp ((m.item i).node j) c y
            (λ e. inl (omega (arith, k.counted, S.counter_is))) (λ e. N.stamp_in y l);
      }
  effect_nodes (takes_node i new j y) k h N =
      record {
        value_in = λ z l. put_at_all (λ (u : ℕ). u < m.limits.projects) s.value y new z (λ e. h.value_in) (λ e. N.value_in z l);
        older_in = λ z l. put_at_all (λ (u : ℕ). u ≤ cond (eqb s.given_back 0) (s.used + 1) s.used) s.older y ((m.item i).node j + 1) z
            (λ e. omega (arith, more, S.used_are, version_below m s own S i j h.item_in h.there)) (λ e. omega (arith, more, N.older_in z l));
        stamp_in = λ z l. put_at_all (λ (u : ℕ). (u ≤ s.counter) ⊎ (u ≡ TBD)) s.stamp y TBD z (λ e. inr refl) (λ e. N.stamp_in z l);
      }
    where
      more : s.used ≤ cond (eqb s.given_back 0) (s.used + 1) s.used
      more = by_eq (λ (u : ℕ). s.used ≤ u) s.given_back 0 (λ e. omega arith) (λ e. omega arith)
  effect_nodes (gives_back y) k h N =
      record {
        value_in = N.value_in;
        stamp_in = N.stamp_in;
        older_in = λ z l. put_at_all (λ (u : ℕ). u ≤ s.used) s.older y s.given_back z (λ e. first_in) (λ e. N.older_in z l);
      }
