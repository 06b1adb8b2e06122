-- What a register leaves in the machine's memory: it only grows, and is well-formed.
use Rattle.std.specs.Prelude.{ℕ, suc, ◌<◌, refl}
use Rattle.std.proofs.Common.{sym, subst, arith}
use Rattle.std.proofs.Math.Path.{◌≡◌}
use Rattle.history.specs.Tools.{put, put_all, put_other}
use Rattle.history.specs.Machine.{Item, Memory, one_taken, newborn}
use Rattle.reached.specs.Grows.{ItemWell, MemoryWell, ItemGrows, Grows}
use Rattle.reached.specs.Effects.{item_grows_refl}

abbrev pub memory_registered : Memory → (t v z y : ℕ) → Memory
memory_registered m t v z y =
    record {
      limits = m.limits;
      pool = one_taken m.pool;
      camera = m.camera;
      items = suc m.items;
      item = put m.item m.items (newborn t m.camera.counter v z y);
    }

module _ (m : Memory) (W : MemoryWell m) (t v z y : ℕ) (room : m.items < m.limits.items) (v_in : v < m.limits.projects) (z_in : z < 4294967296) where
  abbrev later : Memory
  later = memory_registered m t v z y

  abbrev born : Item
  born = newborn t m.camera.counter v z y

  -- what holds of the new item, and of each other, holds of all
  pub each : (P : ℕ → Item → Type 0) → P m.items born → ((x : ℕ) → x < m.items → P x (m.item x)) → (x : ℕ) → x < suc m.items → P x (later.item x)
  each P h g x l =
      put_all (λ (x : ℕ) (it : Item). x < suc m.items → P x it) m.item m.items born x (λ e l. subst (λ (x : ℕ). P x born) (sym e) h)
      (λ e l. g x (omega arith)) l

  old_item : (i : ℕ) → i < m.items → later.item i ≡ m.item i
  old_item i l = put_other m.item m.items born i (λ e. absurd (omega arith))

  pub register_grows : Grows m later
  register_grows = record {
    limits = refl;
    counter = omega arith;
    items = omega arith;
    item = λ i l. subst (λ (it : Item). ItemGrows (m.item i) it) (sym (old_item i l)) (item_grows_refl (m.item i));
  }

  pub register_well : MemoryWell later
  register_well = record {
    counter_in = W.counter_in;
    items_in = room;
    item_well = each (λ (x : ℕ) (it : Item). ItemWell later it)
        (record {
          some = omega arith;
          few = omega arith;
          most = omega arith;
          past = λ j p. omega arith;
          sorted = λ j p. absurd (omega arith);
          values = λ j p. v_in;
          size_fits = z_in;
        })
        (λ x l. record {
          some = (W.item_well x l).some;
          few = (W.item_well x l).few;
          most = (W.item_well x l).most;
          past = (W.item_well x l).past;
          sorted = (W.item_well x l).sorted;
          values = (W.item_well x l).values;
          size_fits = (W.item_well x l).size_fits;
        });
  }
