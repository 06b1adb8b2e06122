-- The table of operations: who asked for each version, where each operation stands; the invariant of the whole catalogue.
use Rattle.std.specs.Prelude.{◌≡◌, ◌≢◌, ◌⊎◌, List}
use Rattle.std.proofs.Math.Path.{refl, ap, ap₂, sym, subst}
use Rattle.std.proofs.Common.{◌∙◌, inl, inr, arith}
use mathlib.Core.Bool.{Bool, true, false}
use Prim.Native.Nat.{ℕ, zero, suc, ◌≤◌, ◌<◌, max}
use Rattle.history.specs.Tools.{put, put_all, put_both, put_same, put_other, Split, split, Same, eq, ne, same?}
use Rattle.history.specs.Machine.{
  Item,
  Memory,
  Operation,
  register,
  v_read,
  v_cas,
  take_snapshot,
  read_snapshot,
  total,
  Phase,
  Effect,
  nothing,
  counts,
  publishes,
  stamps,
  takes_node,
  gives_back,
  memory_after,
  place_after,
  published,
  stamped,
  Place,
  unplaced,
  awaits,
  changes,
  observes,
  Entry,
  Worker,
  idle,
  busy,
  Catalogue,
  ended,
  turned_away,
}
use Rattle.history.specs.Facts.{MemoryFacts, LaterItem, Later}
use Rattle.history.proofs.Later.{sees_later, fetched_later, read_later, sum_later}
use Rattle.history.proofs.Changes.{Allowed, effect_later, effect_keeps, item_same, published_later, stamped_later}
use Rattle.history.proofs.PhaseFacts.{PhaseFacts}
use Rattle.history.proofs.RightAnswers.{
  phase_operation,
  has_published,
  WholeLines,
  RefusedLines,
  FateLines,
  CasSees,
  AtHead,
  AtLoss,
  AtLastStep,
  RightAnswer,
  change_answer,
  EndsChange,
}

-- ---- the table: each version's operation, each operation's place

abbrev pub asked_for : Item → ℕ → ℕ → Operation
asked_for it i zero = register i (it.value 0) it.size
asked_for it i (suc j) = v_cas i (it.value j) (it.value (suc j))

pub record VersionRight (fate : ℕ → Entry) (place : ℕ → Place) (i : ℕ) (it : Item) (j : ℕ) : Type 0 where
  pub asked : (fate (it.author j)).operation ≡ asked_for it i j
  pub valid : j < it.valid → place (it.author j) ≡ changes i j
  pub unset : it.valid ≤ j → place (it.author j) ≡ awaits i j

pub record ChangeRight (t o i j : ℕ) (m : Memory) (f : Entry) : Type 0 where
  pub good : j < (m.item i).valid
  pub mine : (m.item i).author j ≡ o
  pub till : f.done ≡ true → (m.item i).effect_at j ≤ f.ended_at
  pub past : f.done ≡ true → f.ended_at < t
  pub is : f.done ≡ true → f.answer ≡ change_answer f.operation
  pub register_done : j ≡ 0 → f.done ≡ true
  pub register_ended : j ≡ 0 → f.ended_at ≡ o

pub record ObserverRight (t o τ j x : ℕ) (m : Memory) (f : Entry) : Type 0 where
  pub done : f.done ≡ true
  pub is : f.answer ≡ x
  pub since : o < τ
  pub till : τ ≤ f.ended_at
  pub past : f.ended_at < t
  pub seen : RightAnswer m f.operation o f.lines τ j x
  pub last : AtLastStep f.operation τ (suc f.ended_at)

abbrev pub PlaceRight : (t o : ℕ) → Memory → Entry → Place → Type 0
PlaceRight t o m f unplaced = f.done ≡ false
PlaceRight t o m f (awaits i j) = f.done ≡ false
PlaceRight t o m f (changes i j) = ChangeRight t o i j m f
PlaceRight t o m f (observes τ j x) = ObserverRight t o τ j x m f

pub record Kept (t : ℕ) (m : Memory) (fate : ℕ → Entry) (place : ℕ → Place) : Type 0 where
  pub memory : MemoryFacts t m
  pub versions_right : (i j : ℕ) → j < (m.item i).versions → VersionRight fate place i (m.item i) j
  pub places : (o : ℕ) → PlaceRight t o m (fate o) (place o)
  pub lines : (o : ℕ) → FateLines (fate o)

-- the worker w runs operation o
pub record InOperation (t : ℕ) (m : Memory) (f : Entry) (p : Place) (w o : ℕ) (l : List ℕ) (ph : Phase) : Type 0 where
  pub begun : o < t
  pub worker : f.worker ≡ w
  pub operation : f.operation ≡ phase_operation ph
  pub unset : f.done ≡ false
  pub unpub : has_published ph ≡ false → p ≡ unplaced
  pub facts : PhaseFacts t o l m ph

abbrev pub WorkerRight : ℕ → Memory → (ℕ → Entry) → (ℕ → Place) → ℕ → Worker → Type 0
WorkerRight t m fate place w idle = Unit {0}
WorkerRight t m fate place w (busy o l ph) = InOperation t m (fate o) (place o) w o l ph

-- the counter left h by the takeSnapshot that is on record for it
pub record Moved (m : Memory) (fate : ℕ → Entry) (place : ℕ → Place) (t h : ℕ) : Type 0 where
  pub begun : m.camera.mover h < t
  pub operation : (fate (m.camera.mover h)).operation ≡ take_snapshot
  pub at : place (m.camera.mover h) ≡ observes (m.camera.left_at h) 0 h

pub record Invariant (s : Catalogue) : Type 0 where
  pub kept : Kept s.now s.memory s.fate s.place
  pub workers : (w : ℕ) → WorkerRight s.now s.memory s.fate s.place w (s.worker w)
  pub moved : (h : ℕ) → h < s.memory.camera.counter → Moved s.memory s.fate s.place s.now h

-- ---- places are told apart

abbrev tag : Place → ℕ
tag unplaced = 0
tag (awaits i j) = 1
tag (changes i j) = 2
tag (observes τ j x) = 3

-- ---- later memories keep the table's facts

module _ {t : ℕ} {m m' : Memory} (known : MemoryFacts t m) (L : Later t m m') where
  head_later : (i : ℕ) {o τ j : ℕ} → AtHead (m.item i) o τ j → τ < t → AtHead (m'.item i) o τ j
  head_later i {o} {τ} {j} z p = record {
    f = z.f;
    got = fetched_later (L.item i) (omega (arith, z.is)) z.got;
    since = z.since;
    good = omega (arith, z.good, (L.item i).more_valid);
    is = z.is ∙ ap (λ (v : ℕ). max z.f v) (sym ((L.item i).stamped_at j z.good));
  }

  loss_later : (i : ℕ) {o τ j : ℕ} → AtLoss (m.item i) o τ j → τ < t → AtLoss (m'.item i) o τ j
  loss_later i {o} {τ} {j} z p =
      record {
        g = z.g;
        next = z.next;
        f = z.f;
        since = z.since;
        good = omega (arith, z.good, (L.item i).more_valid);
        is = z.is
            ∙ sym ((L.item i).effect_at j z.good);
        got = fetched_later (L.item i)
            (omega (
              arith,
              z.got.next (omega (arith, z.next, z.good, (known.item i).valid_published)),
              (known.item i).published_past (suc z.g)
                  (omega (arith, z.next, z.good, (known.item i).valid_published)),
            )) z.got;
      }

  right_later : (op : Operation) (o : ℕ) (l : List ℕ) (τ j x : ℕ) → o < τ → τ < t → RightAnswer m op o l τ j x → RightAnswer m' op o l τ j x
  right_later (register i v z) o n τ j x b p a = a
  right_later (v_read i) o n τ j x b p a = (
    sees_later (L.item i) p (known.item i).valid_published a.0,
    a.1
        ∙ sym ((L.item i).value j (omega (arith, (known.item i).valid_published, a.0.have))),
    head_later i a.2 p,
  )
  right_later (v_cas i a b) o n τ j x q p y = (
    sees_later (L.item i) p (known.item i).valid_published y.0,
    subst (λ (v : ℕ). CasSees v a b x)
        (sym ((L.item i).value j (omega (arith, (known.item i).valid_published, y.0.have)))) y.1,
    at y.2,
  )
    where
      at : AtHead (m.item i) o τ j ⊎ AtLoss (m.item i) o τ j → AtHead (m'.item i) o τ j ⊎ AtLoss (m'.item i) o τ j
      at (inl z) = inl (head_later i z p)
      at (inr z) = inr (loss_later i z p)
  right_later take_snapshot o n τ j x b p a = (omega (arith, a.0, L.camera.counters), L.camera.same x a.0 ∙ a.1)
  right_later (read_snapshot i h) o n τ j x b p a =
      record {
        read = read_later L (λ i. (known.item i).valid_published) (omega arith) (omega arith) (omega arith) a.read;
        is = a.is
            ∙ sym ((L.item i).value j (omega (arith, (known.item i).valid_published, a.read.sees.have)));
      }
  right_later (total q h) o n τ j x b p a =
      record {
        gone = omega (arith, a.gone, L.camera.counters);
        when = omega (arith, L.camera.same h a.gone, a.when);
        k = a.k;
        registered = omega (arith, L.items, a.registered);
        have = λ y q. omega (arith, (L.item y).more_valid, a.have y q);
        noted = λ y q. omega (arith, (L.item y).author 0 (omega (arith, (known.item y).valid_published, a.have y q)), a.noted y q);
        covers = λ y q r. old y q r (split 0 (m.item y).valid);
        earlier = a.earlier;
        lines = a.lines;
        sum = sum_later L (λ i. (known.item i).valid_published) q h o (suc τ) (suc τ) (omega arith) (omega arith) (omega arith) a.sum;
      }
    where
      old : (y : ℕ) → a.k ≤ y → 0 < (m'.item y).valid → Split 0 (m.item y).valid → o ≤ (m'.item y).author 0
      old y q r (Split.less u) = omega (arith, (L.item y).author 0 (omega (arith, (known.item y).valid_published)), a.covers y q u)
      old y q r (Split.more u) = omega (arith, L.new_author y (none_yet (split 0 (m.item y).versions)) r)
        where
          none_yet : Split 0 (m.item y).versions → (m.item y).versions ≡ 0
          none_yet (Split.less z) = absurd (omega (arith, (known.item y).first z))
          none_yet (Split.more z) = omega arith

  pub place_later : (o : ℕ) (f : Entry) (p : Place) → PlaceRight t o m f p → PlaceRight (suc t) o m' f p
  place_later o f unplaced a = a
  place_later o f (awaits i j) a = a
  place_later o f (changes i j) a =
      record {
        good = omega (arith, a.good, (L.item i).more_valid);
        mine = (L.item i).author j (omega (arith, a.good, (known.item i).valid_published))
            ∙ a.mine;
        till = λ d. omega (arith, (L.item i).effect_at j a.good, a.till d);
        past = λ d. omega (arith, a.past d);
        is = a.is;
        register_done = a.register_done;
        register_ended = a.register_ended;
      }
  place_later o f (observes τ j x) a =
      record {
        done = a.done;
        is = a.is;
        since = a.since;
        till = a.till;
        past = omega (arith, a.past);
        seen = right_later f.operation o f.lines τ j x a.since (omega (arith, a.till, a.past)) a.seen;
        last = a.last;
      }

pub asked_later : {t : ℕ} {it it' : Item} → LaterItem t it it' → (i j : ℕ) → j < it.versions → asked_for it' i j ≡ asked_for it i j
asked_later L i zero p = ap₂ (λ (v z : ℕ). register i v z) (L.value 0 p) (L.size p)
asked_later L i (suc j) p = ap₂ (λ (v u : ℕ). v_cas i v u) (L.value j (omega arith)) (L.value (suc j) p)

-- a version that was there, in a later row and a later table
pub version_later : {t : ℕ} {it it' : Item} (L : LaterItem t it it') {fate fate' : ℕ → Entry} {place place' : ℕ → Place} (i j : ℕ) → j < it.versions
    →
    (j < it'.valid → j < it.valid) → (fate' (it.author j)).operation ≡ (fate (it.author j)).operation → place' (it.author j) ≡ place (it.author j) →
    VersionRight fate place i it j → VersionRight fate' place' i it' j
version_later {it = it} {it' = it'} L {fate} {fate'} {place} {place'} i j p k e q v =
    record {
      asked = ap (λ (o : ℕ). (fate' o).operation) b ∙ e ∙ v.asked ∙ sym (asked_later L i j p);
      valid = λ u. ap place' b ∙ q ∙ v.valid (k u);
      unset = λ u. ap place' b ∙ q ∙ v.unset (omega (arith, L.more_valid));
    }
  where
    b : it'.author j ≡ it.author j
    b = L.author j p

-- a version's operation has a place of its own
pub not_none : {fate : ℕ → Entry} {place : ℕ → Place} {i : ℕ} {it : Item} {j o : ℕ} → VersionRight fate place i it j → place o ≡ unplaced →
    it.author j ≢ o
not_none {fate} {place} {i} {it} {j} {o} v e q = at (split j it.valid)
  where
    at : Split j it.valid → ⊥
    at (Split.less p) = let z : ◌≡◌ {A = ℕ} 2 0 = ap tag (sym (v.valid p) ∙ ap place q ∙ e) in omega arith
    at (Split.more p) = let z : ◌≡◌ {A = ℕ} 1 0 = ap tag (sym (v.unset p) ∙ ap place q ∙ e) in omega arith

abbrev item_of : Place → ℕ
item_of unplaced = 0
item_of (awaits i j) = i
item_of (changes i j) = i
item_of (observes τ j x) = 0

abbrev pos_of : Place → ℕ
pos_of unplaced = 0
pos_of (awaits i j) = j
pos_of (changes i j) = j
pos_of (observes τ j x) = 0

pub not_awaiting : {fate : ℕ → Entry} {place : ℕ → Place} {i : ℕ} {it : Item} {j o i' j' : ℕ} → VersionRight fate place i it j → place o ≡ awaits i'
    j' →
    (i ≡ i' → j ≡ j' → ⊥) → it.author j ≢ o
not_awaiting {fate} {place} {i} {it} {j} {o} {i'} {j'} v e d q = at (split j it.valid)
  where
    at : Split j it.valid → ⊥
    at (Split.less p) = let z : ◌≡◌ {A = ℕ} 2 1 = ap tag (sym (v.valid p) ∙ ap place q ∙ e) in omega arith
    at (Split.more p) = d (ap item_of (sym (v.unset p) ∙ ap place q ∙ e)) (ap pos_of (sym (v.unset p) ∙ ap place q ∙ e))

-- an operation with another place
pub not_observing : {fate : ℕ → Entry} {place : ℕ → Place} {i : ℕ} {it : Item} {j o τ k x : ℕ} → VersionRight fate place i it j →
    place o ≡ observes τ k x → it.author j ≢ o
not_observing {fate} {place} {i} {it} {j} {o} v e q = at (split j it.valid)
  where
    at : Split j it.valid → ⊥
    at (Split.less p) = let z : ◌≡◌ {A = ℕ} 2 3 = ap tag (sym (v.valid p) ∙ ap place q ∙ e) in omega arith
    at (Split.more p) = let z : ◌≡◌ {A = ℕ} 1 3 = ap tag (sym (v.unset p) ∙ ap place q ∙ e) in omega arith

pub obs_not_none : (place : ℕ → Place) {q o τ k x : ℕ} → place q ≡ observes τ k x → place o ≡ unplaced → q ≢ o
obs_not_none place e f p = let z : ◌≡◌ {A = ℕ} 3 0 = ap tag (sym e ∙ ap place p ∙ f) in omega arith

pub moved_later : {t : ℕ} {m m' : Memory} → Later t m m' → {fate fate' : ℕ → Entry} {place place' : ℕ → Place} (h : ℕ) → h < m.camera.counter →
    (fate' (m.camera.mover h)).operation ≡ (fate (m.camera.mover h)).operation → place' (m.camera.mover h) ≡ place (m.camera.mover h) →
    Moved m fate place t h → Moved m' fate' place' (suc t) h
moved_later L {fate} {fate'} {place} {place'} h p e f x =
    record {
      begun = omega (arith, L.camera.mover h p, x.begun);
      operation = ap (λ (q : ℕ). (fate' q).operation) (L.camera.mover h p) ∙ e
          ∙ x.operation;
      at = ap place' (L.camera.mover h p) ∙ f ∙ x.at ∙ ap (λ (y : ℕ). observes y 0 h) (sym (L.camera.same h p));
    }

-- ---- what a step does to the memory

module _ {t : ℕ} {m : Memory} {fate : ℕ → Entry} {place : ℕ → Place} (R : Kept t m fate place) (o : ℕ) (op : Operation) (l : Bool)
    (asks : (fate o).operation ≡ op) (unpub : l ≡ false → place o ≡ unplaced) where
  own_awaits : (i v y : ℕ) → Allowed t o op l m (publishes i v y) → (q : ℕ) → PlaceRight (suc t) q (memory_after t o (publishes i v y) m) (fate q)
      (put place o (awaits i (m.item i).versions) q)
  own_awaits i v y x q =
      put_all (λ (q : ℕ) (p : Place). PlaceRight (suc t) q (memory_after t o (publishes i v y) m) (fate q) p) place o (awaits i (m.item i).versions) q
      (λ e. subst (λ (q : ℕ). (fate q).done ≡ false) (sym e) (subst (λ (p : Place). PlaceRight t o m (fate o) p) (unpub x.unpub) (R.places o)))
      (λ e. place_later R.memory (effect_later R.memory o op l (publishes i v y) x) q (fate q) (place q) (R.places q))

  own_changes : (i j c r : ℕ) → Allowed t o op l m (stamps i j c r) → (q : ℕ) → PlaceRight (suc t) q (memory_after t o (stamps i j c r) m) (fate q)
      (put place ((m.item i).author j) (changes i j) q)
  unfolding memory_after
  own_changes i j c r x q =
      put_all (λ (q : ℕ) (p : Place). PlaceRight (suc t) q (memory_after t o (stamps i j c r) m) (fate q) p) place ((m.item i).author j) (changes i j) q
      (λ e. record {
        good = put_all (λ (n : ℕ) (y : Item). j < y.valid) m.item i (stamped t j c r (m.item i)) i (λ q. omega arith) (λ q. absurd (q refl));
        mine = put_all (λ (n : ℕ) (y : Item). y.author j ≡ q) m.item i (stamped t j c r (m.item i)) i (λ z. sym e) (λ z. absurd (z refl));
        till = λ d. absurd (notdone q e d);
        past = λ d. absurd (notdone q e d);
        is = λ d. absurd (notdone q e d);
        register_done = λ z. absurd (omega (arith, (R.memory.item i).first (omega arith)));
        register_ended = λ z. absurd (omega (arith, (R.memory.item i).first (omega arith)));
      })
      (λ e. place_later R.memory (effect_later R.memory o op l (stamps i j c r) x) q (fate q) (place q) (R.places q))
    where
      notdone : (q : ℕ) → q ≡ (m.item i).author j → (fate q).done ≡ true → ⊥
      notdone q e d = mathlib.Core.Bool.true≢false
          (sym d ∙ subst (λ (q : ℕ). (fate q).done ≡ false) (sym e)
          (subst (λ (p : Place). PlaceRight t ((m.item i).author j) m (fate ((m.item i).author j)) p)
          ((R.versions_right i j (omega arith)).unset (omega arith)) (R.places ((m.item i).author j))))

  pub kept_by_effect : (e : Effect) → Allowed t o op l m e → Kept (suc t) (memory_after t o e m) fate (place_after t o e m place)
  unfolding memory_after place_after
  kept_by_effect nothing x = record {
    lines = R.lines;
    memory = effect_keeps R.memory o op l nothing x;
    versions_right = R.versions_right;
    places = λ q. place_later R.memory (effect_later R.memory o op l nothing x) q (fate q) (place q) (R.places q);
  }
  kept_by_effect counts x = record {
    lines = R.lines;
    memory = effect_keeps R.memory o op l counts x;
    versions_right = R.versions_right;
    places = λ q. place_later R.memory (effect_later R.memory o op l counts x) q (fate q) (place q) (R.places q);
  }
  kept_by_effect (takes_node i0 b0 j0 y0) x = record {
    lines = R.lines;
    memory = effect_keeps R.memory o op l (takes_node i0 b0 j0 y0) x;
    versions_right = R.versions_right;
    places = λ q. place_later R.memory (effect_later R.memory o op l (takes_node i0 b0 j0 y0) x) q (fate q)
        (place q) (R.places q);
  }
  kept_by_effect (gives_back y) x = record {
    lines = R.lines;
    memory = effect_keeps R.memory o op l (gives_back y) x;
    versions_right = R.versions_right;
    places = λ q. place_later R.memory (effect_later R.memory o op l (gives_back y) x) q (fate q) (place q)
        (R.places q);
  }
  kept_by_effect (publishes i v y) x = record {
    lines = R.lines;
    memory = effect_keeps R.memory o op l (publishes i v y) x;
    versions_right = λ n j. versions_right n j;
    places = own_awaits i v y x;
  }
    where
      it : Item
      it = m.item i

      place' : ℕ → Place
      place' = put place o (awaits i it.versions)

      old : (n j : ℕ) (z : Item) → LaterItem t (m.item n) z → j < (m.item n).versions → (j < z.valid → j < (m.item n).valid) →
          VersionRight fate place' n z j
      old n j z L p k = version_later L n j p k refl
          (put_other place o (awaits i it.versions) ((m.item n).author j) (not_none (R.versions_right n j p) (unpub x.unpub)))
          (R.versions_right n j p)

      new : (j : ℕ) → j ≡ suc x.last → VersionRight fate place' i (published t o v y it) j
      new j e =
          subst (λ (j : ℕ). VersionRight fate place' i (published t o v y it) j) (sym e)
          (record {
            asked = ap (λ (q : ℕ). (fate q).operation) by≡ ∙ asks ∙ x.asked
                ∙ ap₂ (λ (a b : ℕ). v_cas i a b) (sym (put_other it.value it.versions v x.last (omega arith)))
                (sym (put_same it.value it.versions v (suc x.last) (sym x.is)));
            valid = λ u. absurd (omega arith);
            unset = λ u. put_same place o (awaits i it.versions) _ by≡ ∙ ap (λ (j : ℕ). awaits i j) x.is;
          })
        where
          by≡ : put it.author it.versions o (suc x.last) ≡ o
          by≡ = put_same it.author it.versions o (suc x.last) (sym x.is)

      here : (j : ℕ) → j < suc it.versions → Split j it.versions → VersionRight fate place' i (published t o v y it) j
      here j p (Split.less u) = old i j _ (published_later y (R.memory.item i) x.full x.last x.is x.new x.early) u (λ z. z)
      here j p (Split.more u) = new j (omega (arith, x.is))

      versions_right : (n j : ℕ) → j < (put m.item i (published t o v y it) n).versions →
          VersionRight fate place' n (put m.item i (published t o v y it) n) j
      versions_right n j = put_all (λ (n : ℕ) (z : Item). j < z.versions → VersionRight fate place' n z j) m.item i (published t o v y it) n
          (λ e p. subst (λ (n : ℕ). VersionRight fate place' n (published t o v y it) j) (sym e) (here j p (split j it.versions)))
          (λ e p. old n j (m.item n) (item_same (R.memory.item n).valid_published) p (λ z. z))
  kept_by_effect (stamps i j c r) x = record {
    lines = R.lines;
    memory = effect_keeps R.memory o op l (stamps i j c r) x;
    versions_right = λ n k. versions_right n k;
    places = own_changes i j c r x;
  }
    where
      it : Item
      it = m.item i

      it' : Item
      it' = stamped t j c r it

      place' : ℕ → Place
      place' = put place (it.author j) (changes i j)

      at : place (it.author j) ≡ awaits i j
      at = (R.versions_right i j (omega arith)).unset (omega arith)

      old : (n k : ℕ) (y : Item) → LaterItem t (m.item n) y → k < (m.item n).versions → (k < y.valid → k < (m.item n).valid) → (n ≡ i → k ≡ j → ⊥) →
          VersionRight fate place' n y k
      old n k y L p z d = version_later L n k p z refl
          (put_other place (it.author j) (changes i j) ((m.item n).author k) (not_awaiting (R.versions_right n k p) at d)) (R.versions_right n k p)

      L : LaterItem t it it'
      L = stamped_later (R.memory.item i) x.head x.undecided x.read x.past x.before

      here : (k : ℕ) → k < it.versions → Same k j → VersionRight fate place' i it' k
      here k p (ne u) = old i k it' L p (λ z. omega arith) (λ y z. u z)
      here k p (eq u) =
          subst (λ (k : ℕ). VersionRight fate place' i it' k) (sym u)
          (record {
            asked = (R.versions_right i j (omega arith)).asked ∙ sym (asked_later L i j (omega arith));
            valid = λ z. put_same place (it.author j) (changes i j) (it.author j) refl;
            unset = λ z. absurd (omega arith);
          })

      versions_right : (n k : ℕ) → k < (put m.item i it' n).versions → VersionRight fate place' n (put m.item i it' n) k
      versions_right n k = put_all (λ (n : ℕ) (y : Item). k < y.versions → VersionRight fate place' n y k) m.item i it' n
          (λ e p. subst (λ (n : ℕ). VersionRight fate place' n it' k) (sym e) (here k p (same? k j)))
          (λ e p. old n k (m.item n) (item_same (R.memory.item n).valid_published) p (λ z. z) (λ y z. e y))

-- ---- what a step does to the table: the operation o ends

pub kept_in_table : {t : ℕ} {m : Memory} {fate fate' : ℕ → Entry} {place place' : ℕ → Place} → Kept t m fate place →
    ((i j : ℕ) → j < (m.item i).versions → (fate' ((m.item i).author j)).operation ≡ (fate ((m.item i).author j)).operation) →
    ((i j : ℕ) → j < (m.item i).versions → place' ((m.item i).author j) ≡ place ((m.item i).author j)) → ((o : ℕ) → FateLines (fate' o)) →
    ((o : ℕ) → PlaceRight t o m (fate' o) (place' o)) → Kept t m fate' place'
kept_in_table {t} {m} {fate} {fate'} {place} {place'} R hw hp hl hk =
    record {
      lines = hl;
      memory = R.memory;
      versions_right = λ i j p. version_later (item_same {t = t} (R.memory.item i).valid_published) i j p
          (λ z. z) (hw i j p) (hp i j p) (R.versions_right i j p);
      places = hk;
    }

pub what_same : (fate : ℕ → Entry) (o x t : ℕ) (n : List ℕ) (q : ℕ) → (put fate o (ended (fate o) x t n) q).operation ≡ (fate q).operation
unfolding ended
what_same fate o x t n q = put_all (λ (q : ℕ) (f : Entry). f.operation ≡ (fate q).operation) fate o (ended (fate o) x t n) q
    (λ e. ap (λ (q : ℕ). (fate q).operation) (sym e)) (λ e. refl)

pub what_refused : (fate : ℕ → Entry) (o x t : ℕ) (n : List ℕ) (q : ℕ) → (put fate o (turned_away (fate o) x t n) q).operation ≡ (fate q).operation
unfolding turned_away
what_refused fate o x t n q = put_all (λ (q : ℕ) (f : Entry). f.operation ≡ (fate q).operation) fate o (turned_away (fate o) x t n) q
    (λ e. ap (λ (q : ℕ). (fate q).operation) (sym e)) (λ e. refl)

module _ {t : ℕ} {m : Memory} {fate : ℕ → Entry} {place : ℕ → Place} (R : Kept (suc t) m fate place) (o : ℕ) (n : List ℕ) (op : Operation)
    (asks : (fate o).operation ≡ op) where
  whole_lines : (x : ℕ) → WholeLines op n → FateLines (ended (fate o) x t n)
  unfolding ended
  whole_lines x k = record { whole = λ d. subst (λ (op : Operation). WholeLines op n) (sym asks) k; refused = λ d. absurd (d refl) }

  pub kept_refused : (x : ℕ) → RefusedLines x op n → place o ≡ unplaced → Kept (suc t) m (put fate o (turned_away (fate o) x t n)) place
  unfolding turned_away
  kept_refused x r e = kept_in_table R (λ i j p. what_refused fate o x t n _) (λ i j p. refl)
      (λ q. put_all (λ (q : ℕ) (f : Entry). FateLines f) fate o (turned_away (fate o) x t n) q
      (λ f. record {
        whole = λ d. absurd (mathlib.Core.Bool.true≢false (sym d));
        refused = λ d. subst (λ (op : Operation). RefusedLines x op n)
            (sym asks) r;
      }) (λ f. R.lines q))
      (λ q. put_all (λ (q : ℕ) (f : Entry). PlaceRight (suc t) q m f (place q)) fate o (turned_away (fate o) x t n) q
      (λ f. subst (λ (p : Place). PlaceRight (suc t) q m (turned_away (fate o) x t n) p) (sym (ap place f ∙ e)) refl) (λ f. R.places q))

  pub kept_changed : (x : ℕ) → EndsChange o n m op x → Kept (suc t) m (put fate o (ended (fate o) x t n)) place
  unfolding ended
  kept_changed x E = kept_in_table R (λ i j p. what_same fate o x t n _) (λ i j p. refl)
      (λ q. put_all (λ (q : ℕ) (f : Entry). FateLines f) fate o (ended (fate o) x t n) q (λ f. whole_lines x E.lines) (λ f. R.lines q))
      (λ q. put_all (λ (q : ℕ) (f : Entry). PlaceRight (suc t) q m f (place q)) fate o (ended (fate o) x t n) q
      (λ e. subst (λ (q : ℕ). PlaceRight (suc t) q m (ended (fate o) x t n) (place q)) (sym e) mine) (λ e. R.places q))
    where
      at : place o ≡ changes E.i E.j
      at = subst (λ (q : ℕ). place q ≡ changes E.i E.j) E.mine
          ((R.versions_right E.i E.j (omega (arith, E.good, (R.memory.item E.i).valid_published))).valid E.good)

      mine : PlaceRight (suc t) o m (ended (fate o) x t n) (place o)
      mine = subst (λ (p : Place). PlaceRight (suc t) o m (ended (fate o) x t n) p) (sym at)
          (record {
            good = E.good;
            mine = E.mine;
            till = λ d. omega (arith, (R.memory.item E.i).effect_before_22 E.j E.good, (R.memory.item E.i).stamped_past E.j E.good);
            past = λ d. omega arith;
            is = λ d. E.is ∙ ap change_answer (sym asks);
            register_done = λ z. refl;
            register_ended = λ z. absurd (omega (arith, E.pos));
          })

  pub kept_answered : (x τ j : ℕ) → place o ≡ unplaced → o < τ → τ < suc t → RightAnswer m op o n τ j x → AtLastStep op τ (suc t) → WholeLines op n →
      Kept (suc t) m (put fate o (ended (fate o) x t n)) (put place o (observes τ j x))
  unfolding ended
  kept_answered x τ j e a b c z k = kept_in_table R (λ i j p. what_same fate o x t n _)
      (λ i k p. put_other place o (observes τ j x) ((m.item i).author k) (not_none (R.versions_right i k p) e))
      (λ q. put_all (λ (q : ℕ) (f : Entry). FateLines f) fate o (ended (fate o) x t n) q (λ f. whole_lines x k) (λ f. R.lines q))
      (λ q. put_both (λ (q : ℕ) (f : Entry) (p : Place). PlaceRight (suc t) q m f p) fate place o (ended (fate o) x t n) (observes τ j x) q
      (λ p. subst (λ (q : ℕ). PlaceRight (suc t) q m (ended (fate o) x t n) (observes τ j x)) (sym p) mine) (λ p. R.places q))
    where
      mine : PlaceRight (suc t) o m (ended (fate o) x t n) (observes τ j x)
      mine = record {
        done = refl;
        is = refl;
        since = a;
        till = omega arith;
        past = omega arith;
        seen = subst (λ (op : Operation). RightAnswer m op o n τ j x) (sym asks) c;
        last = subst (λ (op : Operation). AtLastStep op τ (suc t))
            (sym asks) z;
      }
