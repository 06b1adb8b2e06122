-- What is known of the memory at time t: every time in it is past, versions follow one another, stamps are what the counter was.
use Rattle.std.specs.Prelude.{◌≡◌, ◌≢◌, Bool, cond, List, [], ◌∷◌, ◌++◌, ℕ, suc, ◌+◌, ◌≤◌, ◌<◌, eqb}
pub use Rattle.history.specs.Notes.{helped, read_lines}
use Rattle.history.specs.Machine.{Item, Camera, Memory}

-- ---- facts

-- the counter was c at time τ
pub record CounterWas (k : Camera) (τ c : ℕ) : Type 0 where
  pub low : c ≤ k.counter
  pub past : (h : ℕ) → h < c → k.left_at h < τ
  pub ahead : (h : ℕ) → c ≤ h → h < k.counter → τ < k.left_at h

-- version j is the newest that has taken effect at time τ
pub record Sees (it : Item) (τ j : ℕ) : Type 0 where
  pub have : j < it.valid
  pub begun : it.effect_at j ≤ τ
  pub not_yet : suc j < it.valid → τ < it.effect_at (suc j)
  pub unborn : it.valid ≤ suc j → suc j < it.versions → τ < it.published_at (suc j)

-- version j was the head at time f
pub record Fetched (it : Item) (j f : ℕ) : Type 0 where
  pub have : j < it.versions
  pub before : it.published_at j < f
  pub next : suc j < it.versions → f < it.published_at (suc j)

-- version j was published by operation o, over a version with value a
pub record Mine (it : Item) (o a b j : ℕ) : Type 0 where
  pub have : j < it.versions
  pub prev : ℕ
  pub is : j ≡ suc prev
  pub old : it.value prev ≡ a
  pub new : it.value j ≡ b
  pub mine : it.author j ≡ o

-- the head g of line 41, of value a, was replaced after o began
pub record Lost (it : Item) (o a g : ℕ) : Type 0 where
  pub more : suc g < it.versions
  pub old : it.value g ≡ a
  pub begun : o < it.published_at (suc g)
  pub f : ℕ
  pub got : Fetched it g f
  pub since : o < f

-- item and handle as a readSnapshot that began at o needs them
pub record Born (k : Camera) (it : Item) (o h : ℕ) : Type 0 where
  pub some : 0 < it.valid
  pub low : it.stamp 0 ≤ h
  pub gone : h < k.counter
  pub when : k.left_at h < o

-- By an operation that began at o, before e, item i was read at handle h: version j was the newest in effect when the counter left h.
-- Line 32 fetched version top, at f; the versions above j up to it have stamps above h; the lines executed are l.
pub record Read (m : Memory) (i h o e j : ℕ) (l : List ℕ) : Type 0 where
  pub gone : h < m.camera.counter
  pub when : m.camera.left_at h < o
  pub sees : Sees (m.item i) (m.camera.left_at h) j
  pub top : ℕ
  pub f : ℕ
  pub since : o < f
  pub till : f < e
  pub got : Fetched (m.item i) top f
  pub good : top < (m.item i).valid
  pub above : (y : ℕ) → j < y → y ≤ top → h < (m.item i).stamp y
  pub below : (m.item i).stamp j ≤ h
  pub tbd : Bool
  pub passed : ℕ
  pub at : passed + j ≡ top
  pub lines : l ≡ read_lines tbd passed

-- A total that began at o has summed up the items below i: the sizes of those that had project q when the counter left h. The lines executed are l.
pub data Sum (m : Memory) (q h o e : ℕ) : ℕ → ℕ → List ℕ → Type 0 where
  empty : Sum m q h o e 0 0 []
  skip : {i u : ℕ} {l : List ℕ} → 0 < (m.item i).valid → h < (m.item i).stamp 0 → Sum m q h o e i u l → Sum m q h o e (suc i) u (32 ∷ l)
  plus : {i u : ℕ} {l : List ℕ} (j : ℕ) (r : List ℕ) → Read m i h o e j r → Sum m q h o e i u l →
      Sum m q h o e (suc i) (u + cond (eqb ((m.item i).value j) q) (m.item i).size 0) (r ++ l)

-- ---- invariants of the memory

pub record ItemFacts (t : ℕ) (k : Camera) (it : Item) : Type 0 where
  pub valid_published : it.valid ≤ it.versions
  pub one_open : it.versions ≤ suc it.valid
  pub published_past : (j : ℕ) → j < it.versions → it.published_at j < t
  pub first : 0 < it.versions → 0 < it.valid
  pub birth : 0 < it.valid → it.effect_at 0 ≡ it.author 0
  pub author_first : (j : ℕ) → j < it.versions → it.author j ≤ it.published_at j
  pub author_before : (j : ℕ) → suc j < it.versions → it.author (suc j) < it.published_at (suc j)
  pub effect_after_46 : (j : ℕ) → j < it.valid → it.published_at j ≤ it.effect_at j
  pub effect_before_22 : (j : ℕ) → j < it.valid → it.effect_at j ≤ it.stamped_at j
  pub stamped_past : (j : ℕ) → j < it.valid → it.stamped_at j < t
  pub next : (j : ℕ) → suc j < it.versions → it.stamped_at j < it.published_at (suc j)
  pub differ : (j : ℕ) → suc j < it.versions → it.value (suc j) ≢ it.value j
  pub counted : (j : ℕ) → j < it.valid → CounterWas k (it.effect_at j) (it.stamp j)

pub record MemoryFacts (t : ℕ) (m : Memory) : Type 0 where
  pub left_past : (h : ℕ) → h < m.camera.counter → m.camera.left_at h < t
  pub left_rises : (g h : ℕ) → g < h → h < m.camera.counter → m.camera.left_at g < m.camera.left_at h
  pub item : (i : ℕ) → ItemFacts t m.camera (m.item i)
  pub births : (i n : ℕ) → i < n → n < m.items → (m.item i).author 0 < (m.item n).author 0
  pub registered : (i : ℕ) → i < m.items → 0 < (m.item i).valid
  pub unregistered : (i : ℕ) → m.items ≤ i → (m.item i).versions ≡ 0

-- ---- later memories: what was recorded stays, what is new has a time of t or more

pub record LaterCamera (t : ℕ) (k k' : Camera) : Type 0 where
  pub counters : k.counter ≤ k'.counter
  pub same : (h : ℕ) → h < k.counter → k'.left_at h ≡ k.left_at h
  pub mover : (h : ℕ) → h < k.counter → k'.mover h ≡ k.mover h
  pub new : (h : ℕ) → k.counter ≤ h → h < k'.counter → t ≤ k'.left_at h

pub record LaterItem (t : ℕ) (it it' : Item) : Type 0 where
  pub more_versions : it.versions ≤ it'.versions
  pub more_valid : it.valid ≤ it'.valid
  pub valid_published : it'.valid ≤ it'.versions
  pub value : (j : ℕ) → j < it.versions → it'.value j ≡ it.value j
  pub published_at : (j : ℕ) → j < it.versions → it'.published_at j ≡ it.published_at j
  pub author : (j : ℕ) → j < it.versions → it'.author j ≡ it.author j
  pub size : 0 < it.versions → it'.size ≡ it.size
  pub node : (j : ℕ) → j < it.versions → it'.node j ≡ it.node j
  pub stamp : (j : ℕ) → j < it.valid → it'.stamp j ≡ it.stamp j
  pub effect_at : (j : ℕ) → j < it.valid → it'.effect_at j ≡ it.effect_at j
  pub stamped_at : (j : ℕ) → j < it.valid → it'.stamped_at j ≡ it.stamped_at j
  pub new_published : (j : ℕ) → it.versions ≤ j → j < it'.versions → t ≤ it'.published_at j
  pub new_effect : (j : ℕ) → it.valid ≤ j → j < it'.valid → it'.published_at j ≤ it'.effect_at j
  pub new_stamped : (j : ℕ) → it.valid ≤ j → j < it'.valid → t ≤ it'.stamped_at j

pub record Later (t : ℕ) (m m' : Memory) : Type 0 where
  pub camera : LaterCamera t m.camera m'.camera
  pub limits : m'.limits ≡ m.limits
  pub items : m.items ≤ m'.items
  pub item : (i : ℕ) → LaterItem t (m.item i) (m'.item i)
  pub new_author : (i : ℕ) → (m.item i).versions ≡ 0 → 0 < (m'.item i).valid → t ≤ (m'.item i).author 0
