-- What a worker's phase says of the memory and of the lines executed so far, and that others' steps keep it.
use Rattle.std.specs.Prelude.{◌≡◌, ◌≢◌, Bool, List, [], ◌∷◌, ◌++◌, ℕ, suc, ◌+◌, ◌≤◌, ◌<◌, replicate}
use Rattle.std.proofs.Common.{sym, ◌∙◌, subst, arith}
use Rattle.history.specs.Tools.{Split, split}
use Rattle.history.specs.Machine.{
  Item,
  Camera,
  Limits,
  Memory,
  Then,
  then_39,
  then_43,
  then_48,
  then_52,
  then_34,
  then_total_34,
  Phase,
  line_37,
  line_39,
  line_41,
  line_43,
  line_45,
  line_46,
  line_48,
  line_50,
  line_51,
  line_52,
  line_5,
  line_6,
  line_32,
  line_34,
  total_32,
  total_34,
  closing,
  line_20,
  line_21,
  line_22,
  helped_item,
}
use Rattle.history.specs.Facts.{CounterWas, Fetched, Mine, Lost, Born, Sum, helped, MemoryFacts, Later}
use Rattle.history.proofs.Later.{counter_later, fetched_later, mine_later, lost_later, born_later, sum_later}

-- version j was fetched as the head at f, after o began
pub record Held (t o : ℕ) (it : Item) (j f : ℕ) : Type 0 where
  pub got : Fetched it j f
  pub since : o < f
  pub till : f < t

pub record Reading (t o : ℕ) (k : Camera) (it : Item) (h j f : ℕ) : Type 0 where
  pub held : Held t o it j f
  pub born : Born k it o h

-- the lines of a vCAS that is past 43, with those of xs since
pub record Tried (xs l : List ℕ) : Type 0 where
  pub tbd : Bool
  pub is : l ≡ xs ++ (43 ∷ helped tbd (41 ∷ []))

-- past 43: the head fetched has the old value, and a change is asked for
pub record Wants (t o : ℕ) (it : Item) (a b j f : ℕ) : Type 0 where
  pub held : Held t o it j f
  pub good : j < it.valid
  pub same : it.value j ≡ a
  pub change : b ≢ a

-- past 51: version j was fetched after the head g of line 41 was replaced
pub record Lagging (it : Item) (o a g j : ℕ) : Type 0 where
  pub lost : Lost it o a g
  pub have : j < it.versions
  pub newer : g < j

-- the counter was c at r, after o began
pub record Count (t o : ℕ) (k : Camera) (c r : ℕ) : Type 0 where
  pub since : o < r
  pub till : r < t
  pub was : CounterWas k r c

-- a total that has summed up the items below i of the k noted, with the lines l
pub record Totals (t o : ℕ) (m : Memory) (q h k i u : ℕ) (l : List ℕ) : Type 0 where
  pub gone : h < m.camera.counter
  pub when : m.camera.left_at h < o
  pub at : i ≤ k
  pub registered : k ≤ m.items
  pub have : (x : ℕ) → x < k → 0 < (m.item x).valid
  pub noted : (x : ℕ) → x < k → (m.item x).author 0 < o
  pub covers : (x : ℕ) → k ≤ x → 0 < (m.item x).valid → o ≤ (m.item x).author 0
  pub sum : Sum m q h o t i u l

pub record TotalReading (t o : ℕ) (l : List ℕ) (m : Memory) (q h k i u f j : ℕ) : Type 0 where
  pub done : List ℕ
  pub is : l ≡ 32 ∷ done
  pub totals : Totals t o m q h k i u done
  pub more : i < k
  pub reading : Reading t o m.camera (m.item i) h j f

-- before a help: the lines l were executed
abbrev pub ThenFacts : (t o : ℕ) → List ℕ → Memory → Then → ℕ → Type 0
ThenFacts t o l m (then_39 i f) j = (l ≡ 37 ∷ []) × Held t o (m.item i) j f
ThenFacts t o l m (then_43 i a b f) j = (l ≡ 41 ∷ []) × Held t o (m.item i) j f
ThenFacts t o l m (then_48 i a b) j = Tried (46 ∷ 45 ∷ []) l × Mine (m.item i) o a b j
ThenFacts t o l m (then_52 i a b g) j = Tried (51 ∷ 50 ∷ 46 ∷ 45 ∷ []) l × Lagging (m.item i) o a g j
ThenFacts t o l m (then_34 i h f) j = (l ≡ 32 ∷ []) × Reading t o m.camera (m.item i) h j f
ThenFacts t o l m (then_total_34 q h k i u f) j = TotalReading t o l m q h k i u f j

-- inside a help: line 20 found TBD
pub record Helping (t o : ℕ) (l : List ℕ) (m : Memory) (c : Then) (j : ℕ) : Type 0 where
  pub earlier : List ℕ
  pub is : l ≡ 20 ∷ earlier
  pub keeps : ThenFacts t o earlier m c j

pub record Storing (t o : ℕ) (l : List ℕ) (m : Memory) (c : Then) (j n r : ℕ) : Type 0 where
  pub earlier : List ℕ
  pub is : l ≡ 21 ∷ 20 ∷ earlier
  pub keeps : ThenFacts t o earlier m c j
  pub read : CounterWas m.camera r n
  pub past : (m.item (helped_item c)).published_at j < r
  pub before : r < t

-- after a help: the stamp is valid
pub record Helped (t o : ℕ) (l : List ℕ) (m : Memory) (c : Then) (j : ℕ) : Type 0 where
  pub earlier : List ℕ
  pub tbd : Bool
  pub is : l ≡ helped tbd earlier
  pub keeps : ThenFacts t o earlier m c j
  pub good : j < (m.item (helped_item c)).valid

-- at line 34: version x is reached from the fetched version j, and those passed have stamps above h
pub record Walked (t o : ℕ) (k : Camera) (it : Item) (h f j x : ℕ) : Type 0 where
  pub reading : Reading t o k it h j f
  pub good : j < it.valid
  pub at : x ≤ j
  pub above : (y : ℕ) → x < y → y ≤ j → h < it.stamp y

-- the lines of a read that has passed the versions above x
pub record Passing (x j : ℕ) (r : List ℕ) : Type 0 where
  pub tbd : Bool
  pub passed : ℕ
  pub count : passed + x ≡ j
  pub is : r ≡ replicate passed 34 ++ helped tbd (32 ∷ [])

pub record TotalWalking (t o : ℕ) (l : List ℕ) (m : Memory) (q h k i u f j x : ℕ) : Type 0 where
  pub done : List ℕ
  pub here : List ℕ
  pub is : l ≡ here ++ done
  pub passing : Passing x j here
  pub totals : Totals t o m q h k i u done
  pub more : i < k
  pub way : Walked t o m.camera (m.item i) h f j x

abbrev pub PhaseFacts : (t o : ℕ) → List ℕ → Memory → Phase → Type 0
PhaseFacts t o l m (line_37 i) = (l ≡ []) × (0 < (m.item i).valid)
PhaseFacts t o l m (line_39 i f j) = Helped t o l m (then_39 i f) j
PhaseFacts t o l m (line_41 i a b) = (l ≡ []) × (0 < (m.item i).valid)
PhaseFacts t o l m (line_43 i a b f j) = Helped t o l m (then_43 i a b f) j
PhaseFacts t o l m (line_45 i a b f j) = Tried [] l × Wants t o (m.item i) a b j f
PhaseFacts t o l m (line_46 i a b f j y) = Tried (45 ∷ []) l × Wants t o (m.item i) a b j f
PhaseFacts t o l m (line_48 i a b j) = Helped t o l m (then_48 i a b) j
PhaseFacts t o l m (line_50 i a b g y) = Tried (46 ∷ 45 ∷ []) l × Lost (m.item i) o a g
PhaseFacts t o l m (line_51 i a b g) = Tried (50 ∷ 46 ∷ 45 ∷ []) l × Lost (m.item i) o a g
PhaseFacts t o l m (line_52 i a b g j) = Helped t o l m (then_52 i a b g) j
PhaseFacts t o l m line_5 = l ≡ []
PhaseFacts t o l m (line_6 c r) = (l ≡ 5 ∷ []) × (c < m.limits.counter) × Count t o m.camera c r
PhaseFacts t o l m (line_32 i h) = (l ≡ []) × Born m.camera (m.item i) o h
PhaseFacts t o l m (line_34 i h f j x) = Passing x j l × Walked t o m.camera (m.item i) h f j x
PhaseFacts t o l m (total_32 q h k i u) = (i < k) × Totals t o m q h k i u l
PhaseFacts t o l m (total_34 q h k i u f j x) = TotalWalking t o l m q h k i u f j x
PhaseFacts t o l m (closing q h k u) = Totals t o m q h k k u l
PhaseFacts t o l m (line_20 c j) = ThenFacts t o l m c j
PhaseFacts t o l m (line_21 c j) = Helping t o l m c j
PhaseFacts t o l m (line_22 c j n r) = Storing t o l m c j n r

-- the version that is helped is there
pub then_published : (t o : ℕ) (l : List ℕ) (m : Memory) (c : Then) (j : ℕ) → ThenFacts t o l m c j → j < (m.item (helped_item c)).versions
then_published t o l m (then_39 i f) j x = x.1.got.have
then_published t o l m (then_43 i a b f) j x = x.1.got.have
then_published t o l m (then_48 i a b) j x = x.1.have
then_published t o l m (then_52 i a b g) j x = x.1.have
then_published t o l m (then_34 i h f) j x = x.1.held.got.have
then_published t o l m (then_total_34 q h k i u f) j x = x.reading.held.got.have

module _ (o : ℕ) {t : ℕ} {m m' : Memory} (L : Later t m m') (ot : o < t) (known : MemoryFacts t m) where
  pub held_later : {i j f : ℕ} → Held t o (m.item i) j f → Held (suc t) o (m'.item i) j f
  held_later {i} x = record { got = fetched_later (L.item i) x.till x.got; since = x.since; till = omega arith }

  pub reading_later : {i h j f : ℕ} → Reading t o m.camera (m.item i) h j f → Reading (suc t) o m'.camera (m'.item i) h j f
  reading_later {i} x = record { held = held_later x.held; born = born_later (L.item i) L.camera x.born }

  pub wants_later : {i a b j f : ℕ} → Wants t o (m.item i) a b j f → Wants (suc t) o (m'.item i) a b j f
  wants_later {i} {a} {b} {j} x = record {
    held = held_later x.held;
    good = omega (arith, (L.item i).more_valid);
    same = (L.item i).value j x.held.got.have ∙ x.same;
    change = x.change;
  }

  pub totals_later : {q h k i u : ℕ} {l : List ℕ} → Totals t o m q h k i u l → Totals (suc t) o m' q h k i u l
  totals_later {q} {h} {k} {i} {u} x =
      record {
        gone = omega (arith, L.camera.counters, x.gone);
        when = omega (arith, L.camera.same h x.gone, x.when);
        at = x.at;
        registered = omega (arith, L.items, x.registered);
        have = λ y p. omega (arith, (L.item y).more_valid, x.have y p);
        noted = λ y p. omega (arith, (L.item y).author 0 (omega (arith, (known.item y).valid_published, x.have y p)), x.noted y p);
        covers = λ y p r. old y p r (split 0 (m.item y).valid);
        sum = sum_later L (λ i. (known.item i).valid_published) q h o t (suc t) ot (omega arith) (omega arith) x.sum;
      }
    where
      old : (y : ℕ) → k ≤ y → 0 < (m'.item y).valid → Split 0 (m.item y).valid → o ≤ (m'.item y).author 0
      old y p r (Split.less b) = omega (arith, (L.item y).author 0 (omega (arith, (known.item y).valid_published)), x.covers y p b)
      old y p r (Split.more b) = omega (arith, L.new_author y (none_yet (split 0 (m.item y).versions)) r)
        where
          none_yet : Split 0 (m.item y).versions → (m.item y).versions ≡ 0
          none_yet (Split.less z) = absurd (omega (arith, (known.item y).first z))
          none_yet (Split.more z) = omega arith

  pub walked_later : {i h f j x : ℕ} → Walked t o m.camera (m.item i) h f j x → Walked (suc t) o m'.camera (m'.item i) h f j x
  walked_later {i} x =
      record {
        reading = reading_later x.reading;
        good = omega (arith, (L.item i).more_valid);
        at = x.at;
        above = λ y p r. omega (arith, (L.item i).stamp y (omega (arith, x.good)), x.above y p r);
      }

  lost_stays : {i a g : ℕ} → Lost (m.item i) o a g → Lost (m'.item i) o a g
  lost_stays {i} {a} {g} x = lost_later (L.item i) ((known.item i).published_past (suc g) x.more) x

  pub then_later : (l : List ℕ) (c : Then) (j : ℕ) → ThenFacts t o l m c j → ThenFacts (suc t) o l m' c j
  then_later l (then_39 i f) j x = (x.0, held_later x.1)
  then_later l (then_43 i a b f) j x = (x.0, held_later x.1)
  then_later l (then_48 i a b) j x = (x.0, mine_later (L.item i) x.1)
  then_later l (then_52 i a b g) j x =
      (x.0, record { lost = lost_stays x.1.lost; have = omega (arith, (L.item i).more_versions, x.1.have); newer = x.1.newer })
  then_later l (then_34 i h f) j x = (x.0, reading_later x.1)
  then_later l (then_total_34 q h k i u f) j x = record {
    done = x.done;
    is = x.is;
    totals = totals_later x.totals;
    more = x.more;
    reading = reading_later x.reading;
  }

  helped_later : (l : List ℕ) (c : Then) (j : ℕ) → Helped t o l m c j → Helped (suc t) o l m' c j
  helped_later l c j x = record {
    earlier = x.earlier;
    tbd = x.tbd;
    is = x.is;
    keeps = then_later x.earlier c j x.keeps;
    good = omega (arith, (L.item (helped_item c)).more_valid);
  }

  pub phase_later : (l : List ℕ) (ph : Phase) → PhaseFacts t o l m ph → PhaseFacts (suc t) o l m' ph
  phase_later l (line_37 i) x = (x.0, omega (arith, (L.item i).more_valid, x.1))
  phase_later l (line_39 i f j) x = helped_later l (then_39 i f) j x
  phase_later l (line_41 i a b) x = (x.0, omega (arith, (L.item i).more_valid, x.1))
  phase_later l (line_43 i a b f j) x = helped_later l (then_43 i a b f) j x
  phase_later l (line_45 i a b f j) x = (x.0, wants_later x.1)
  phase_later l (line_46 i a b f j y) x = (x.0, wants_later x.1)
  phase_later l (line_48 i a b j) x = helped_later l (then_48 i a b) j x
  phase_later l (line_50 i a b g y) x = (x.0, lost_stays x.1)
  phase_later l (line_51 i a b g) x = (x.0, lost_stays x.1)
  phase_later l (line_52 i a b g j) x = helped_later l (then_52 i a b g) j x
  phase_later l line_5 x = x
  phase_later l (line_6 c r) x = (
    x.0,
    subst (λ (y : Limits). c < y.counter) (sym L.limits) x.1,
    record {
      since = x.2.since;
      till = omega (arith, x.2.till);
      was = counter_later L.camera x.2.till x.2.was;
    },
  )
  phase_later l (line_32 i h) x = (x.0, born_later (L.item i) L.camera x.1)
  phase_later l (line_34 i h f j y) x = (x.0, walked_later x.1)
  phase_later l (total_32 q h k i u) x = (x.0, totals_later x.1)
  phase_later l (total_34 q h k i u f j y) x = record {
    done = x.done;
    here = x.here;
    is = x.is;
    passing = x.passing;
    totals = totals_later x.totals;
    more = x.more;
    way = walked_later x.way;
  }
  phase_later l (closing q h k u) x = totals_later x
  phase_later l (line_20 c j) x = then_later l c j x
  phase_later l (line_21 c j) x = record { earlier = x.earlier; is = x.is; keeps = then_later x.earlier c j x.keeps }
  phase_later l (line_22 c j n r) x =
      record {
        earlier = x.earlier;
        is = x.is;
        keeps = then_later x.earlier c j x.keeps;
        read = counter_later L.camera x.before x.read;
        past = omega (arith, (L.item (helped_item c)).published_at j (then_published t o x.earlier m c j x.keeps), x.past);
        before = omega (arith, x.before);
      }
