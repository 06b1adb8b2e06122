-- What is known of the machine's memory and of a worker's phase without times, and that every later memory keeps it.
use Rattle.std.specs.Prelude.{ℕ, suc, ◌*◌, ◌<◌, ◌≤◌, ◌≡◌}
use Rattle.std.proofs.Common.{ap, arith}
use Rattle.history.specs.Machine.{Item, Memory, Limits, Then, then_39, then_43, then_48, then_52, then_34, then_total_34, Phase, line_37, line_39, line_41, line_43, line_45, line_46, line_48, line_50, line_51, line_52, line_5, line_6, line_32, line_34, total_32, total_34, closing, line_20, line_21, line_22, helped_item}

-- An item's versions: all but the newest have a valid stamp, at most the counter, and no stamp is above the next one.
pub record ItemWell (m : Memory) (it : Item) : Type 0 where
  pub some : 0 < it.valid
  pub few : it.valid ≤ it.versions
  pub most : it.versions ≤ suc it.valid
  pub past : (j : ℕ) → j < it.valid → it.stamp j ≤ m.camera.counter
  pub sorted : (j : ℕ) → suc j < it.valid → it.stamp j ≤ it.stamp (suc j)
  pub values : (j : ℕ) → j < it.versions → it.value j < m.limits.projects
  pub size_fits : it.size < 4294967296

pub record MemoryWell (m : Memory) : Type 0 where
  pub counter_in : m.camera.counter ≤ m.limits.counter
  pub items_in : m.items ≤ m.limits.items
  pub item_well : (i : ℕ) → i < m.items → ItemWell m (m.item i)

-- A later memory: what was there stays.
pub record ItemGrows (it later : Item) : Type 0 where
  pub versions : it.versions ≤ later.versions
  pub valid : it.valid ≤ later.valid
  pub value : (j : ℕ) → j < it.versions → later.value j ≡ it.value j
  pub node : (j : ℕ) → j < it.versions → later.node j ≡ it.node j
  pub stamp : (j : ℕ) → j < it.valid → later.stamp j ≡ it.stamp j

pub record Grows (m later : Memory) : Type 0 where
  pub limits : later.limits ≡ m.limits
  pub counter : m.camera.counter ≤ later.camera.counter
  pub items : m.items ≤ later.items
  pub item : (i : ℕ) → i < m.items → ItemGrows (m.item i) (later.item i)

-- What an operation knows of its arguments.
pub record ChangeKnown (m : Memory) (i old new : ℕ) : Type 0 where
  pub item_in : i < m.items
  pub old_in : old < m.limits.projects
  pub new_in : new < m.limits.projects

pub record ReadKnown (m : Memory) (i h : ℕ) : Type 0 where
  pub item_in : i < m.items
  pub handle_in : h < m.camera.counter
  pub born : (m.item i).stamp 0 ≤ h

pub record TotalKnown (m : Memory) (q h k i u : ℕ) : Type 0 where
  pub project_in : q < m.limits.projects
  pub handle_in : h < m.camera.counter
  pub noted_in : k ≤ m.items
  pub place_in : i ≤ k
  pub sum_in : u ≤ 4294967296 * i

pub record TotalReadKnown (m : Memory) (q h k i u : ℕ) : Type 0 where
  pub total : TotalKnown m q h k i u
  pub inside : i < k
  pub born : (m.item i).stamp 0 ≤ h

abbrev pub ThenKnown : Memory → Then → Type 0
ThenKnown m (then_39 i f) = i < m.items
ThenKnown m (then_43 i old new f) = ChangeKnown m i old new
ThenKnown m (then_48 i old new) = ChangeKnown m i old new
ThenKnown m (then_52 i old new g) = ChangeKnown m i old new
ThenKnown m (then_34 i h f) = ReadKnown m i h
ThenKnown m (then_total_34 q h k i u f) = TotalReadKnown m q h k i u

-- Version j is there, and line 21 read n when all versions below it had their stamps.
pub record StampKnown (m : Memory) (i j n : ℕ) : Type 0 where
  pub there : j < (m.item i).versions
  pub counted : n ≤ m.camera.counter
  pub above : (x : ℕ) → x < j → (m.item i).stamp x ≤ n

-- What a phase knows: its arguments, and the version that it keeps.
abbrev pub Known : Memory → Phase → Type 0
Known m (line_37 i) = i < m.items
Known m (line_39 i f j) = (i < m.items) × (j < (m.item i).valid)
Known m (line_41 i old new) = ChangeKnown m i old new
Known m (line_43 i old new f j) = ChangeKnown m i old new × (j < (m.item i).valid)
Known m (line_45 i old new f j) = ChangeKnown m i old new × (j < (m.item i).valid)
Known m (line_46 i old new f j y) = ChangeKnown m i old new × (j < (m.item i).valid)
Known m (line_48 i old new j) = ChangeKnown m i old new
Known m (line_50 i old new g y) = ChangeKnown m i old new
Known m (line_51 i old new g) = ChangeKnown m i old new
Known m (line_52 i old new g j) = ChangeKnown m i old new
Known m line_5 = Unit {0}
Known m (line_6 c r) = (c < m.limits.counter) × (c ≤ m.camera.counter)
Known m (line_32 i h) = ReadKnown m i h
Known m (line_34 i h f j x) = ReadKnown m i h × (x < (m.item i).valid)
Known m (total_32 q h k i u) = TotalKnown m q h k i u × (i < k)
Known m (total_34 q h k i u f j x) = TotalReadKnown m q h k i u × (x < (m.item i).valid)
Known m (closing q h k u) = TotalKnown m q h k k u
Known m (line_20 c j) = ThenKnown m c × (j < (m.item (helped_item c)).versions)
Known m (line_21 c j) = ThenKnown m c × (j < (m.item (helped_item c)).versions)
Known m (line_22 c j n r) = ThenKnown m c × StampKnown m (helped_item c) j n

-- The item that a help is on is registered.
pub then_item : (m : Memory) (c : Then) → ThenKnown m c → helped_item c < m.items
then_item m (then_39 i f) k = k
then_item m (then_43 i old new f) k = k.item_in
then_item m (then_48 i old new) k = k.item_in
then_item m (then_52 i old new g) k = k.item_in
then_item m (then_34 i h f) k = k.item_in
then_item m (then_total_34 q h k' i u f) k = omega (arith, k.inside, k.total.noted_in)

module _ {m later : Memory} (G : Grows m later) (W : MemoryWell m) where
  projects_same : later.limits.projects ≡ m.limits.projects
  projects_same = ap (λ (l : Limits). l.projects) G.limits

  change_later : {i old new : ℕ} → ChangeKnown m i old new → ChangeKnown later i old new
  change_later k = record {
    item_in = omega (arith, G.items, k.item_in);
    old_in = omega (arith, projects_same, k.old_in);
    new_in = omega (arith, projects_same, k.new_in);
  }

  born_later : (i h : ℕ) → i < m.items → (m.item i).stamp 0 ≤ h → (later.item i).stamp 0 ≤ h
  born_later i h l b = omega (arith, (G.item i l).stamp 0 (W.item_well i l).some)

  read_later : {i h : ℕ} → ReadKnown m i h → ReadKnown later i h
  read_later {i} {h} k = record {
    item_in = omega (arith, G.items, k.item_in);
    handle_in = omega (arith, G.counter, k.handle_in);
    born = born_later i h k.item_in k.born;
  }

  total_later : {q h k i u : ℕ} → TotalKnown m q h k i u → TotalKnown later q h k i u
  total_later z = record {
    project_in = omega (arith, projects_same, z.project_in);
    handle_in = omega (arith, G.counter, z.handle_in);
    noted_in = omega (arith, G.items, z.noted_in);
    place_in = z.place_in;
    sum_in = z.sum_in;
  }

  total_read_later : {q h k i u : ℕ} → TotalReadKnown m q h k i u → TotalReadKnown later q h k i u
  total_read_later {q} {h} {k} {i} z = record {
    total = total_later z.total;
    inside = z.inside;
    born = born_later i h (omega (arith, z.inside, z.total.noted_in)) z.born;
  }

  pub then_later : (c : Then) → ThenKnown m c → ThenKnown later c
  then_later (then_39 i f) k = omega (arith, G.items)
  then_later (then_43 i old new f) k = change_later k
  then_later (then_48 i old new) k = change_later k
  then_later (then_52 i old new g) k = change_later k
  then_later (then_34 i h f) k = read_later k
  then_later (then_total_34 q h k' i u f) k = total_read_later k

  valid_later : (i j : ℕ) → i < m.items → j < (m.item i).valid → j < (later.item i).valid
  valid_later i j l h = omega (arith, (G.item i l).valid)

  versions_later : (i j : ℕ) → i < m.items → j < (m.item i).versions → j < (later.item i).versions
  versions_later i j l h = omega (arith, (G.item i l).versions)

  stamp_later : (i j n : ℕ) → i < m.items → StampKnown m i j n → StampKnown later i j n
  stamp_later i j n l z =
      record {
        there = versions_later i j l z.there;
        counted = omega (arith, G.counter, z.counted);
        above = λ x p. omega (arith, (G.item i l).stamp x (omega (arith, z.there, (W.item_well i l).most)), z.above x p);
      }

  pub known_later : (ph : Phase) → Known m ph → Known later ph
  known_later (line_37 i) k = omega (arith, G.items)
  known_later (line_39 i f j) k = (omega (arith, G.items, k.0), valid_later i j k.0 k.1)
  known_later (line_41 i old new) k = change_later k
  known_later (line_43 i old new f j) k = (change_later k.0, valid_later i j k.0.item_in k.1)
  known_later (line_45 i old new f j) k = (change_later k.0, valid_later i j k.0.item_in k.1)
  known_later (line_46 i old new f j y) k = (change_later k.0, valid_later i j k.0.item_in k.1)
  known_later (line_48 i old new j) k = change_later k
  known_later (line_50 i old new g y) k = change_later k
  known_later (line_51 i old new g) k = change_later k
  known_later (line_52 i old new g j) k = change_later k
  known_later line_5 k = tt
  known_later (line_6 c r) k = (omega (arith, ap (λ (l : Limits). l.counter) G.limits, k.0), omega (arith, G.counter, k.1))
  known_later (line_32 i h) k = read_later k
  known_later (line_34 i h f j x) k = (read_later k.0, valid_later i x k.0.item_in k.1)
  known_later (total_32 q h k' i u) k = (total_later k.0, k.1)
  known_later (total_34 q h k' i u f j x) k = (total_read_later k.0, valid_later i x (omega (arith, k.0.inside, k.0.total.noted_in)) k.1)
  known_later (closing q h k' u) k = total_later k
  known_later (line_20 c j) k = (then_later c k.0, versions_later (helped_item c) j (then_item m c k.0) k.1)
  known_later (line_21 c j) k = (then_later c k.0, versions_later (helped_item c) j (then_item m c k.0) k.1)
  known_later (line_22 c j n r) k = (then_later c k.0, stamp_later (helped_item c) j n (then_item m c k.0) k.1)
