-- The words as the image of the machine's state: a version stands in its node, and each node ever used is in one place only.
use Rattle.std.specs.Prelude.{ℕ, suc, pred, ◌+◌, ◌-◌, ◌<◌, ◌≤◌, cond, List, [], ◌∷◌, ◌⊎◌, ◌≡◌, eqb, length}
use Rattle.definitions.specs.Damage.{TBD}
use Rattle.history.specs.Machine.{Item, Memory, Then, then_39, then_43, then_48, then_52, then_34, then_total_34, Phase, line_37, line_39, line_41, line_43, line_45, line_46, line_48, line_50, line_51, line_52, line_5, line_6, line_32, line_34, total_32, total_34, closing, line_20, line_21, line_22, helped_item, Effect, nothing, counts, publishes, stamps, takes_node, gives_back, Worker, idle, busy}
use Rattle.reached.specs.Parts.{Shared, Local, put_at}

-- Where a node is: never used; given back, with so many below it in the chain; held by a worker between lines 45 and 46 or 50;
-- or version j of item i.
pub data Owner : Type 0 where
  unused : Owner
  waits : (depth : ℕ) → Owner
  held : (w : ℕ) → Owner
  version : (i j : ℕ) → Owner

-- The nodes given back, the latest first, linked by their older words.
abbrev pub Chain : (ℕ → Owner) → (ℕ → ℕ) → ℕ → List ℕ → Type 0
Chain own older first [] = first ≡ 0
Chain own older first (y ∷ l) = (first ≡ suc y) × (own y ≡ waits (length l)) × Chain own older (older y) l

-- The shared words are the image of the machine's memory.
pub record SharedImage (m : Memory) (s : Shared) (own : ℕ → Owner) : Type 0 where
  pub counter_is : s.counter ≡ m.camera.counter
  pub items_are : s.items ≡ m.items
  pub used_are : s.used ≡ m.pool.used
  pub used_in : m.pool.used ≤ m.limits.nodes
  pub chain : Chain own s.older s.given_back m.pool.given_back
  pub head_is : (i : ℕ) → i < m.items → s.head i ≡ (m.item i).node (pred (m.item i).versions)
  pub birth_is : (i : ℕ) → i < m.items → s.birth i ≡ (m.item i).stamp 0
  pub size_is : (i : ℕ) → i < m.items → s.size i ≡ (m.item i).size
  pub value_is : (i j : ℕ) → i < m.items → j < (m.item i).versions → s.value ((m.item i).node j) ≡ (m.item i).value j
  pub valid_stamp : (i j : ℕ) → i < m.items → j < (m.item i).valid → s.stamp ((m.item i).node j) ≡ (m.item i).stamp j
  pub no_stamp : (i j : ℕ) → i < m.items → (m.item i).valid ≤ j → j < (m.item i).versions → s.stamp ((m.item i).node j) ≡ TBD
  pub older_is : (i j : ℕ) → i < m.items → suc j < (m.item i).versions → s.older ((m.item i).node (suc j)) ≡ suc ((m.item i).node j)
  pub oldest : (i : ℕ) → i < m.items → s.older ((m.item i).node 0) ≡ 0
  pub owner : (i j : ℕ) → i < m.items → j < (m.item i).versions → own ((m.item i).node j) ≡ version i j
  pub rest : (y : ℕ) → m.pool.used ≤ y → own y ≡ unused

-- Every node's words are in their ranges, used or not.
pub record NodesFit (m : Memory) (s : Shared) : Type 0 where
  pub value_in : (y : ℕ) → y < m.limits.nodes → s.value y < m.limits.projects
  pub older_in : (y : ℕ) → y < m.limits.nodes → s.older y ≤ s.used
  pub stamp_in : (y : ℕ) → y < m.limits.nodes → (s.stamp y ≤ s.counter) ⊎ (s.stamp y ≡ TBD)

-- The number of a phase in the fixed table.
abbrev pub help_number : Then → ℕ
help_number (then_39 i f) = 2
help_number (then_43 i old new f) = 7
help_number (then_48 i old new) = 13
help_number (then_52 i old new g) = 19
help_number (then_34 i h f) = 26
help_number (then_total_34 q h k i u f) = 31

abbrev pub phase_number : Phase → ℕ
phase_number (line_37 i) = 1
phase_number (line_39 i f j) = 5
phase_number (line_41 i old new) = 6
phase_number (line_43 i old new f j) = 10
phase_number (line_45 i old new f j) = 11
phase_number (line_46 i old new f j y) = 12
phase_number (line_48 i old new j) = 16
phase_number (line_50 i old new g y) = 17
phase_number (line_51 i old new g) = 18
phase_number (line_52 i old new g j) = 22
phase_number line_5 = 23
phase_number (line_6 c r) = 24
phase_number (line_32 i h) = 25
phase_number (line_34 i h f j x) = 29
phase_number (total_32 q h k i u) = 30
phase_number (total_34 q h k i u f j x) = 34
phase_number (closing q h k u) = 35
phase_number (line_20 c j) = help_number c
phase_number (line_21 c j) = help_number c + 1
phase_number (line_22 c j n r) = help_number c + 2

-- What a worker's record keeps of its operation's arguments.
pub record ChangeKept (l : Local) (i old new : ℕ) : Type 0 where
  pub item_is : l.item ≡ i
  pub old_is : l.old ≡ old
  pub new_is : l.new ≡ new

pub record ReadKept (l : Local) (i h : ℕ) : Type 0 where
  pub item_is : l.item ≡ i
  pub handle_is : l.handle ≡ h

pub record TotalKept (l : Local) (q h k i u : ℕ) : Type 0 where
  pub project_is : l.project ≡ q
  pub handle_is : l.handle ≡ h
  pub noted_are : l.noted ≡ k
  pub item_is : l.item ≡ i
  pub sum_is : l.sum ≡ u

abbrev pub ThenKept : Local → Then → Type 0
ThenKept l (then_39 i f) = l.item ≡ i
ThenKept l (then_43 i old new f) = ChangeKept l i old new
ThenKept l (then_48 i old new) = ChangeKept l i old new
ThenKept l (then_52 i old new g) = ChangeKept l i old new
ThenKept l (then_34 i h f) = ReadKept l i h
ThenKept l (then_total_34 q h k i u f) = TotalKept l q h k i u

-- And of what its lines keep: the node of the version fetched, the node taken at 45, the number read at 21 or 5.
abbrev pub Kept : (ℕ → Item) → Local → Phase → Type 0
Kept its l (line_37 i) = l.item ≡ i
Kept its l (line_39 i f j) = (l.item ≡ i) × (l.node ≡ (its i).node j)
Kept its l (line_41 i old new) = ChangeKept l i old new
Kept its l (line_43 i old new f j) = ChangeKept l i old new × (l.node ≡ (its i).node j)
Kept its l (line_45 i old new f j) = ChangeKept l i old new × (l.node ≡ (its i).node j)
Kept its l (line_46 i old new f j y) = ChangeKept l i old new × (l.node ≡ (its i).node j) × (l.new_node ≡ y)
Kept its l (line_48 i old new j) = ChangeKept l i old new
Kept its l (line_50 i old new g y) = ChangeKept l i old new × (l.new_node ≡ y)
Kept its l (line_51 i old new g) = ChangeKept l i old new
Kept its l (line_52 i old new g j) = ChangeKept l i old new
Kept its l line_5 = Unit {0}
Kept its l (line_6 c r) = l.seen ≡ c
Kept its l (line_32 i h) = ReadKept l i h
Kept its l (line_34 i h f j x) = ReadKept l i h × (l.node ≡ (its i).node x)
Kept its l (total_32 q h k i u) = TotalKept l q h k i u
Kept its l (total_34 q h k i u f j x) = TotalKept l q h k i u × (l.node ≡ (its i).node x)
Kept its l (closing q h k u) = TotalKept l q h k k u
Kept its l (line_20 c j) = ThenKept l c × (l.node ≡ (its (helped_item c)).node j)
Kept its l (line_21 c j) = ThenKept l c × (l.node ≡ (its (helped_item c)).node j)
Kept its l (line_22 c j n r) = ThenKept l c × (l.node ≡ (its (helped_item c)).node j) × (l.seen ≡ n)

pub record BusyImage (its : ℕ → Item) (l : Local) (n : ℕ) (ph : Phase) : Type 0 where
  pub phase_is : l.phase ≡ phase_number ph
  pub steps_are : l.steps ≡ n
  pub kept : Kept its l ph

abbrev pub WorkerImage : (ℕ → Item) → Local → Worker → Type 0
WorkerImage its l idle = l.phase ≡ 0
WorkerImage its l (busy o lines ph) = BusyImage its l (length lines) ph

-- The node that worker w took at line 45: it is his alone, and until line 46 it has the words that 45 gave it.
pub record NewNode (own : ℕ → Owner) (s : Shared) (w new over y : ℕ) : Type 0 where
  pub mine : own y ≡ held w
  pub value_is : s.value y ≡ new
  pub older_is : s.older y ≡ suc over
  pub stamp_is : s.stamp y ≡ TBD

abbrev pub Holds : (ℕ → Owner) → Shared → (ℕ → Item) → ℕ → Phase → Type 0
Holds own s its w (line_37 i) = Unit {0}
Holds own s its w (line_39 i f j) = Unit {0}
Holds own s its w (line_41 i old new) = Unit {0}
Holds own s its w (line_43 i old new f j) = Unit {0}
Holds own s its w (line_45 i old new f j) = Unit {0}
Holds own s its w (line_46 i old new f j y) = NewNode own s w new ((its i).node j) y
Holds own s its w (line_48 i old new j) = Unit {0}
Holds own s its w (line_50 i old new g y) = own y ≡ held w
Holds own s its w (line_51 i old new g) = Unit {0}
Holds own s its w (line_52 i old new g j) = Unit {0}
Holds own s its w line_5 = Unit {0}
Holds own s its w (line_6 c r) = Unit {0}
Holds own s its w (line_32 i h) = Unit {0}
Holds own s its w (line_34 i h f j x) = Unit {0}
Holds own s its w (total_32 q h k i u) = Unit {0}
Holds own s its w (total_34 q h k i u f j x) = Unit {0}
Holds own s its w (closing q h k u) = Unit {0}
Holds own s its w (line_20 c j) = Unit {0}
Holds own s its w (line_21 c j) = Unit {0}
Holds own s its w (line_22 c j n r) = Unit {0}

-- ---- what an effect does to the shared words, and to the owners of nodes

abbrev pub shared_after : Memory → Effect → Shared → Shared
shared_after m nothing s = s
shared_after m counts s = record {
  counter = s.counter + 1;
  items = s.items;
  used = s.used;
  given_back = s.given_back;
  head = s.head;
  birth = s.birth;
  size = s.size;
  value = s.value;
  older = s.older;
  stamp = s.stamp;
}
shared_after m (publishes i v y) s =
    record {
      counter = s.counter;
      items = s.items;
      used = s.used;
      given_back = s.given_back;
      head = put_at s.head i y;
      birth = s.birth;
      size = s.size;
      value = s.value;
      older = s.older;
      stamp = s.stamp;
    }
shared_after m (stamps i j c r) s =
    record {
      counter = s.counter;
      items = s.items;
      used = s.used;
      given_back = s.given_back;
      head = s.head;
      birth = s.birth;
      size = s.size;
      value = s.value;
      older = s.older;
      stamp = put_at s.stamp ((m.item i).node j) c;
    }
shared_after m (takes_node i new j y) s =
    record {
      counter = s.counter;
      items = s.items;
      head = s.head;
      birth = s.birth;
      size = s.size;
      used = cond (eqb s.given_back 0) (s.used + 1) s.used;
      given_back = cond (eqb s.given_back 0) s.given_back (s.older (s.given_back - 1));
      value = put_at s.value y new;
      older = put_at s.older y ((m.item i).node j + 1);
      stamp = put_at s.stamp y TBD;
    }
shared_after m (gives_back y) s =
    record {
      counter = s.counter;
      items = s.items;
      used = s.used;
      given_back = y + 1;
      head = s.head;
      birth = s.birth;
      size = s.size;
      value = s.value;
      older = put_at s.older y s.given_back;
      stamp = s.stamp;
    }
