-- What each worker holds: the stepping worker's node comes and goes with lines 45, 46 and 50, and all others keep theirs.
use Prim.Native.Nat.{ℕ, suc, ◌+◌, ◌<◌}
use Rattle.std.specs.Prelude.{◌≢◌, ◌≡◌}
use Rattle.std.proofs.Math.Path.{refl, ap}
use Rattle.std.proofs.Common.{sym, ◌∙◌, arith}
use Rattle.definitions.specs.Damage.{TBD}
use Rattle.history.specs.Tools.{by_eq, by_lt, by_le, put_same, put_other}
use Rattle.history.specs.Machine.{Item, Memory, Found, no_node, node, node_to_take, Then, then_39, then_43, then_48, then_52, then_34, then_total_34, Phase, line_37, line_39, line_41, line_43, line_45, line_46, line_48, line_50, line_51, line_52, line_5, line_6, line_32, line_34, total_32, total_34, closing, line_20, line_21, line_22, helped_item, after, total_at, Effect, nothing, counts, publishes, stamps, takes_node, gives_back, Comes, goes_on, ends_with, answers_change, answers, Next, only, on_45, line, memory_after}
use Rattle.reached.specs.Parts.{Shared, Local, put_at_same, put_at_other}
use Rattle.reached.specs.Grows.{MemoryWell, Grows, Known, then_item}
use Rattle.reached.specs.Effects.{EffectFits}
use Rattle.reached.specs.Image.{Owner, held, SharedImage, Holds, Kept, shared_after}
use Rattle.reached.proofs.Nodes.{held_no_version, version_apart, taken, taken_not_held}
use Rattle.reached.proofs.ImageEffects.{EffectHolds, owner_after}

abbrev pub ComesHolds : (ℕ → Owner) → Shared → (ℕ → Item) → ℕ → Comes → Type 0
ComesHolds own s its w (goes_on ph) = Holds own s its w ph
ComesHolds own s its w (ends_with number) = Unit {0}
ComesHolds own s its w (answers_change x) = Unit {0}
ComesHolds own s its w (answers x τ j) = Unit {0}

-- The stepping worker has the nodes that its line's effect needs, and afterwards those of its next phase.
pub record LineHolds (own : ℕ → Owner) (s : Shared) (m : Memory) (w t o : ℕ) (x : Next) : Type 0 where
  pub effect : EffectHolds own w s m x.does
  pub next : ComesHolds (owner_after w m x.does own) (shared_after m x.does s) (memory_after t o x.does m).item w x.comes

after_holds : (own : ℕ → Owner) (s : Shared) (its : ℕ → Item) (w : ℕ) (c : Then) (j : ℕ) → Holds own s its w (after c j)
unfolding after
after_holds own s its w (then_39 i f) j = tt
after_holds own s its w (then_43 i x y f) j = tt
after_holds own s its w (then_48 i x y) j = tt
after_holds own s its w (then_52 i x y g) j = tt
after_holds own s its w (then_34 i h f) j = tt
after_holds own s its w (then_total_34 q h k i u f) j = tt

total_holds : (own : ℕ → Owner) (s : Shared) (its : ℕ → Item) (w q h k i u : ℕ) → Holds own s its w (total_at q h k i u)
unfolding total_at
total_holds own s its w q h k i u = by_eq (Holds own s its w) i k (λ e. tt) (λ e. tt)

module _ (own : ℕ → Owner) (s : Shared) (m : Memory) (W : MemoryWell m) (w t o : ℕ) where
  goes : (ph : Phase) → Holds own s m.item w ph → LineHolds own s m w t o (only (goes_on ph))
  unfolding memory_after
  goes ph h = record { effect = tt; next = h }

  pub line_holds : (ph : Phase) → Known m ph → Holds own s m.item w ph → LineHolds own s m w t o (line t m ph)
  unfolding line memory_after
  line_holds (line_37 i) k h = record { effect = tt; next = tt }
  line_holds (line_39 i f j) k h = record { effect = tt; next = tt }
  line_holds (line_41 i x y) k h = record { effect = tt; next = tt }
  line_holds (line_43 i x y f j) k h =
      by_eq (LineHolds own s m w t o) ((m.item i).value j) x
      (λ e. by_eq (LineHolds own s m w t o) y x (λ d. record { effect = tt; next = tt }) (λ d. record { effect = tt; next = tt }))
      (λ e. record { effect = tt; next = tt })
  line_holds (line_45 i x y f j) k h = at (node_to_take m)
    where
      at : (r : Found) → LineHolds own s m w t o (on_45 i x y f j r)
      at no_node = record { effect = tt; next = tt }
      at (node v) =
          record {
            effect = record { item_in = k.0.item_in; there = omega (arith, k.1, (W.item_well i k.0.item_in).few); value_in = k.0.new_in };
            next = record {
              mine = put_same own v (held w) v refl;
              value_is = put_at_same s.value v y v refl;
              older_is = put_at_same s.older v ((m.item i).node j + 1) v refl ∙ omega arith;
              stamp_is = put_at_same s.stamp v TBD v refl;
            };
          }
  line_holds (line_46 i x y f j v) k h =
      by_eq (LineHolds own s m w t o) (m.item i).versions (suc j)
      (λ e. record {
        effect = record {
          mine = h.mine;
          value_is = h.value_is;
          older_is = h.older_is
              ∙ ap (λ (j : ℕ). suc ((m.item i).node j)) (omega arith);
          stamp_is = h.stamp_is;
        };
        next = tt;
      })
      (λ e. goes (line_50 i x y j v) h.mine)
  line_holds (line_48 i x y j) k h = record { effect = tt; next = tt }
  line_holds (line_50 i x y g v) k h = record { effect = h; next = tt }
  line_holds (line_51 i x y g) k h = record { effect = tt; next = tt }
  line_holds (line_52 i x y g j) k h = record { effect = tt; next = tt }
  line_holds line_5 k h = by_le (LineHolds own s m w t o) m.limits.counter m.camera.counter (λ e. record { effect = tt; next = tt })
      (λ e. record { effect = tt; next = tt })
  line_holds (line_6 c r) k h = by_eq (LineHolds own s m w t o) m.camera.counter c (λ e. record { effect = tt; next = tt })
      (λ e. record { effect = tt; next = tt })
  line_holds (line_32 i a) k h = record { effect = tt; next = tt }
  line_holds (line_34 i a f j x) k h = by_lt (LineHolds own s m w t o) a ((m.item i).stamp x) (λ e. record { effect = tt; next = tt })
      (λ e. record { effect = tt; next = tt })
  line_holds (total_32 q a n i u) k h =
      by_lt (λ (ph : Phase). LineHolds own s m w t o (only (goes_on ph))) a ((m.item i).stamp 0)
      (λ e. goes (total_at q a n (suc i) u) (total_holds own s m.item w q a n (suc i) u)) (λ e. record { effect = tt; next = tt })
  line_holds (total_34 q a n i u f j x) k h =
      by_lt (λ (ph : Phase). LineHolds own s m w t o (only (goes_on ph))) a ((m.item i).stamp x)
      (λ e. record { effect = tt; next = tt }) (λ e. goes (total_at q a n (suc i) _) (total_holds own s m.item w q a n (suc i) _))
  line_holds (closing q a n u) k h = record { effect = tt; next = tt }
  line_holds (line_20 c j) k h =
      by_lt (λ (ph : Phase). LineHolds own s m w t o (only (goes_on ph))) j (m.item (helped_item c)).valid
      (λ e. goes (after c j) (after_holds own s m.item w c j)) (λ e. record { effect = tt; next = tt })
  line_holds (line_21 c j) k h = record { effect = tt; next = tt }
  line_holds (line_22 c j n r) k h =
      by_lt (λ (e : Effect). LineHolds own s m w t o (record { does = e; comes = goes_on (after c j) })) j (m.item (helped_item c)).valid
      (λ e. goes (after c j) (after_holds own s m.item w c j)) (λ e. record { effect = tt; next = after_holds _ _ (memory_after t o (stamps (helped_item c) j n r) m).item w c j })

-- What is held stays so where the node's owner and words do.
pub record StaysHeld (own own' : ℕ → Owner) (s s' : Shared) (y v : ℕ) : Type 0 where
  pub owner_same : own' y ≡ held v
  pub value_same : s'.value y ≡ s.value y
  pub older_same : s'.older y ≡ s.older y
  pub stamp_same : s'.stamp y ≡ s.stamp y

pub holds_frame : (own own' : ℕ → Owner) (s s' : Shared) {m later : Memory} → Grows m later → MemoryWell m → (v : ℕ)
    → ((y : ℕ) → own y ≡ held v → StaysHeld own own' s s' y v)
    → (ph : Phase) → Known m ph → Holds own s m.item v ph → Holds own' s' later.item v ph
holds_frame own own' s s' G W v stays (line_37 i) k h = tt
holds_frame own own' s s' G W v stays (line_39 i f j) k h = tt
holds_frame own own' s s' G W v stays (line_41 i x y) k h = tt
holds_frame own own' s s' G W v stays (line_43 i x y f j) k h = tt
holds_frame own own' s s' G W v stays (line_45 i x y f j) k h = tt
holds_frame own own' s s' G W v stays (line_46 i x z f j y) k h =
    record {
      mine = (stays y h.mine).owner_same;
      value_is = (stays y h.mine).value_same ∙ h.value_is;
      older_is = (stays y h.mine).older_same ∙ h.older_is
          ∙ ap suc (sym ((G.item i k.0.item_in).node j (omega (arith, k.1, (W.item_well i k.0.item_in).few))));
      stamp_is = (stays y h.mine).stamp_same ∙ h.stamp_is;
    }
holds_frame own own' s s' G W v stays (line_48 i x y j) k h = tt
holds_frame own own' s s' G W v stays (line_50 i x z g y) k h = (stays y h).owner_same
holds_frame own own' s s' G W v stays (line_51 i x y g) k h = tt
holds_frame own own' s s' G W v stays (line_52 i x y g j) k h = tt
holds_frame own own' s s' G W v stays line_5 k h = tt
holds_frame own own' s s' G W v stays (line_6 c r) k h = tt
holds_frame own own' s s' G W v stays (line_32 i a) k h = tt
holds_frame own own' s s' G W v stays (line_34 i a f j x) k h = tt
holds_frame own own' s s' G W v stays (total_32 q a n i u) k h = tt
holds_frame own own' s s' G W v stays (total_34 q a n i u f j x) k h = tt
holds_frame own own' s s' G W v stays (closing q a n u) k h = tt
holds_frame own own' s s' G W v stays (line_20 c j) k h = tt
holds_frame own own' s s' G W v stays (line_21 c j) k h = tt
holds_frame own own' s s' G W v stays (line_22 c j n r) k h = tt

-- Another worker's node stays under any effect of worker w.
module _ (m : Memory) (s : Shared) (own : ℕ → Owner) (S : SharedImage m s own) (w v : ℕ) (other : v ≢ w) where
  apart : (y z : ℕ) → own y ≡ held v → own z ≡ held w → z ≢ y
  apart y z a b e = other (let c : own z ≡ held v = ap own e ∙ a in cc)

  not_taken : (y z : ℕ) → own y ≡ held v → node_to_take m ≡ node z → z ≢ y
  not_taken y z a b e = taken_not_held m s own S z (taken m s own S z b) v (ap own e ∙ a)

  pub others_held : (e : Effect) → EffectFits m e → EffectHolds own w s m e → (y : ℕ) → own y ≡ held v
      → StaysHeld own (owner_after w m e own) s (shared_after m e s) y v
  others_held nothing k h y a = record { owner_same = a; value_same = refl; older_same = refl; stamp_same = refl }
  others_held counts k h y a = record { owner_same = a; value_same = refl; older_same = refl; stamp_same = refl }
  others_held (publishes i x z) k h y a =
      record { owner_same = put_other own z _ y (λ e. apart y z a h.mine (sym e)) ∙ a; value_same = refl; older_same = refl; stamp_same = refl }
  others_held (stamps i j c r) k h y a =
      record {
        owner_same = a;
        value_same = refl;
        older_same = refl;
        stamp_same = put_at_other s.stamp ((m.item i).node j) c y
            (version_apart m s own S i j y k.item_in (omega (arith, k.there)) (held_no_version own y v a));
      }
  others_held (takes_node i x j z) k h y a =
      record {
        owner_same = put_other own z _ y (λ e. not_taken y z a k (sym e)) ∙ a;
        value_same = put_at_other s.value z x y (not_taken y z a k);
        older_same = put_at_other s.older z _ y (not_taken y z a k);
        stamp_same = put_at_other s.stamp z TBD y (not_taken y z a k);
      }
  others_held (gives_back z) k h y a =
      record {
        owner_same = put_other own z _ y (λ e. apart y z a h (sym e)) ∙ a;
        value_same = refl;
        older_same = put_at_other s.older z _ y (apart y z a h);
        stamp_same = refl;
      }

-- What a worker's record keeps stays the image of its phase in every later memory.
pub kept_later : {m later : Memory} → Grows m later → MemoryWell m → (l : Local) (ph : Phase) → Known m ph → Kept m.item l ph → Kept later.item l ph
kept_later G W l (line_37 i) k e = e
kept_later G W l (line_39 i f j) k e = (e.0, e.1 ∙ sym ((G.item i k.0).node j (omega (arith, k.1, (W.item_well i k.0).few))))
kept_later G W l (line_41 i x y) k e = e
kept_later G W l (line_43 i x y f j) k e = (e.0, e.1 ∙ sym ((G.item i k.0.item_in).node j (omega (arith, k.1, (W.item_well i k.0.item_in).few))))
kept_later G W l (line_45 i x y f j) k e = (e.0, e.1 ∙ sym ((G.item i k.0.item_in).node j (omega (arith, k.1, (W.item_well i k.0.item_in).few))))
kept_later G W l (line_46 i x y f j v) k e = (
  e.0,
  e.1
      ∙ sym ((G.item i k.0.item_in).node j (omega (arith, k.1, (W.item_well i k.0.item_in).few))),
  e.2,
)
kept_later G W l (line_48 i x y j) k e = e
kept_later G W l (line_50 i x y g v) k e = e
kept_later G W l (line_51 i x y g) k e = e
kept_later G W l (line_52 i x y g j) k e = e
kept_later G W l line_5 k e = e
kept_later G W l (line_6 c r) k e = e
kept_later G W l (line_32 i a) k e = e
kept_later G W l (line_34 i a f j x) k e = (e.0, e.1 ∙ sym ((G.item i k.0.item_in).node x (omega (arith, k.1, (W.item_well i k.0.item_in).few))))
kept_later G W l (total_32 q a n i u) k e = e
kept_later {m} G W l (total_34 q a n i u f j x) k e = (e.0, e.1 ∙ sym ((G.item i in_items).node x (omega (arith, k.1, (W.item_well i in_items).few))))
  where
    in_items : i < m.items
    in_items = omega (arith, k.0.inside, k.0.total.noted_in)
kept_later G W l (closing q a n u) k e = e
kept_later {m} G W l (line_20 c j) k e = (e.0, e.1 ∙ sym ((G.item (helped_item c) (then_item m c k.0)).node j k.1))
kept_later {m} G W l (line_21 c j) k e = (e.0, e.1 ∙ sym ((G.item (helped_item c) (then_item m c k.0)).node j k.1))
kept_later {m} G W l (line_22 c j n r) k e = (e.0, e.1 ∙ sym ((G.item (helped_item c) (then_item m c k.0)).node j k.1.there), e.2)
