-- The one order of a run of the machine of versions: a legal sequential history of the finished operations, and of the unfinished changes that have taken
-- effect.
use Rattle.std.specs.Prelude.{◌≡◌, ◌⊎◌, true, false, List, map, ℕ, ◌+◌, ◌*◌, ◌≤◌, ◌<◌}
use Rattle.history.specs.Definition1.{Legal}
pub use Rattle.history.specs.Statements.{In, Once, Falling}
use Rattle.history.proofs.RightAnswers.{AtHead, AtLoss}
use Rattle.history.specs.Machine.{
  register,
  v_read,
  v_cas,
  take_snapshot,
  read_snapshot,
  total,
  Memory,
  Place,
  unplaced,
  awaits,
  changes,
  observes,
  Catalogue,
}

-- an unfinished vCAS whose version has a valid stamp
pub record Pending (s : Catalogue) (o : ℕ) : Type 0 where
  pub unfinished : (s.fate o).done ≡ false
  pub i : ℕ
  pub a : ℕ
  pub b : ℕ
  pub is_cas : (s.fate o).operation ≡ v_cas i a b
  pub j : ℕ
  pub mine : (s.memory.item i).author j ≡ o
  pub valid : j < (s.memory.item i).valid

pub data Within (s : Catalogue) (o τ : ℕ) : Type 0 where
  inside : o < τ → ((s.fate o).done ≡ true → τ ≤ (s.fate o).ended_at) → Within s o τ
  in_call : (i v z : ℕ) → (s.fate o).done ≡ true → (s.fate o).operation ≡ register i v z → τ ≡ o → (s.fate o).ended_at ≡ o → Within s o τ

-- when a placed operation takes effect
abbrev pub time_of : Memory → Place → ℕ
time_of m unplaced = 0
time_of m (awaits i j) = 0
time_of m (changes i j) = (m.item i).effect_at j
time_of m (observes τ j x) = τ

-- the key of its place in the order: at one time changes come first, then those that see
abbrev pub key_of : Memory → Place → ℕ
key_of m unplaced = 0
key_of m (awaits i j) = 0
key_of m (changes i j) = 2 * (m.item i).effect_at j
key_of m (observes τ j x) = 2 * τ + 1

-- the instants of document 01
pub data CasInstant (s : Catalogue) (o τ i : ℕ) : Type 0 where
  by_change : (j : ℕ) → (s.memory.item i).author j ≡ o → j < (s.memory.item i).valid → τ ≡ (s.memory.item i).effect_at j → CasInstant s o τ i
  at_43 : (j : ℕ) → AtHead (s.memory.item i) o τ j → CasInstant s o τ i
  at_52 : (j : ℕ) → AtLoss (s.memory.item i) o τ j → CasInstant s o τ i

pub record Instants (s : Catalogue) (time : ℕ → ℕ) : Type 0 where
  pub of_register : (o i v z : ℕ) → (s.fate o).operation ≡ register i v z → (s.fate o).done ≡ true → time o ≡ o
  pub of_read : (o i : ℕ) → (s.fate o).operation ≡ v_read i → (s.fate o).done ≡ true → (j : ℕ) × AtHead (s.memory.item i) o (time o) j
  pub of_cas : (o i a b : ℕ) → (s.fate o).operation ≡ v_cas i a b → (s.fate o).done ≡ true → CasInstant s o (time o) i
  pub of_take : (o : ℕ) → (s.fate o).operation ≡ take_snapshot → (s.fate o).done ≡ true → (time o ≡ s.memory.camera.left_at (s.fate o).answer)
      × ((s.fate o).answer < s.memory.camera.counter)
  pub of_read_snapshot : (o i h : ℕ) → (s.fate o).operation ≡ read_snapshot i h → (s.fate o).done ≡ true → time o ≡ (s.fate o).ended_at
  pub of_total : (o p h : ℕ) → (s.fate o).operation ≡ total p h → (s.fate o).done ≡ true → time o ≡ (s.fate o).ended_at

pub record MachineOrder (s : Catalogue) : Type 0 where
  pub order : List ℕ  -- newest first
  pub time : ℕ → ℕ  -- when each takes effect
  pub answer : ℕ → ℕ
  pub once : Once order
  pub all : (o : ℕ) → o < s.now → (s.fate o).done ≡ true → In o order
  pub changed : (i j : ℕ) → j < (s.memory.item i).valid → In ((s.memory.item i).author j) order
  pub only : (o : ℕ) → In o order → ((s.fate o).done ≡ true) ⊎ (Pending s o × (answer o ≡ 1))
  pub within : (o : ℕ) → In o order → Within s o (time o)
  pub falling : Falling time order
  pub keys : Falling (λ o. key_of s.memory (s.place o)) order
  pub instants : Instants s time
  pub placed : (o : ℕ) → time o ≡ time_of s.memory (s.place o)
  pub answered : (o : ℕ) → In o order → (s.fate o).done ≡ true → (s.fate o).answer ≡ answer o
  pub legal : Legal (map (λ o. record { operation = (s.fate o).operation; answer = answer o }) order)
