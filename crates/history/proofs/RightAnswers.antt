-- What an operation owes: which operation a phase belongs to, when an answer is right at its place, and what a line must come to.
use Rattle.std.specs.Prelude.{◌≡◌, ◌≢◌, ◌⊎◌, Bool, true, false, List, ◌∷◌, ℕ, suc, ◌≤◌, ◌<◌, max}
use Rattle.history.specs.Machine.{
  Item,
  Memory,
  Operation,
  register,
  v_read,
  v_cas,
  take_snapshot,
  read_snapshot,
  total,
  Then,
  then_39,
  then_43,
  then_48,
  then_52,
  then_34,
  then_total_34,
  Phase,
  line_37,
  line_39,
  line_41,
  line_43,
  line_45,
  line_46,
  line_48,
  line_50,
  line_51,
  line_52,
  line_5,
  line_6,
  line_32,
  line_34,
  total_32,
  total_34,
  closing,
  line_20,
  line_21,
  line_22,
  Effect,
  nothing,
  counts,
  publishes,
  stamps,
  takes_node,
  gives_back,
  Comes,
  goes_on,
  ends_with,
  answers_change,
  answers,
  Next,
  Entry,
  line_number,
  memory_after,
}
pub use Rattle.history.specs.Notes.{CasLines, to_43, to_48, to_52, WholeLines, RefusedLines, no_node_left, counter_full}
use Rattle.history.specs.Facts.{Sees, Fetched, Read, Sum}
use Rattle.history.proofs.Changes.{Allowed}
use Rattle.history.proofs.PhaseFacts.{PhaseFacts}

-- ---- the operation of a phase, and whether it has published its version

abbrev pub then_operation : Then → Operation
then_operation (then_39 i f) = v_read i
then_operation (then_43 i a b f) = v_cas i a b
then_operation (then_48 i a b) = v_cas i a b
then_operation (then_52 i a b g) = v_cas i a b
then_operation (then_34 i h f) = read_snapshot i h
then_operation (then_total_34 q h k i u f) = total q h

abbrev pub phase_operation : Phase → Operation
phase_operation (line_37 i) = v_read i
phase_operation (line_39 i f j) = v_read i
phase_operation (line_41 i a b) = v_cas i a b
phase_operation (line_43 i a b f j) = v_cas i a b
phase_operation (line_45 i a b f j) = v_cas i a b
phase_operation (line_46 i a b f j y) = v_cas i a b
phase_operation (line_48 i a b j) = v_cas i a b
phase_operation (line_50 i a b g y) = v_cas i a b
phase_operation (line_51 i a b g) = v_cas i a b
phase_operation (line_52 i a b g j) = v_cas i a b
phase_operation line_5 = take_snapshot
phase_operation (line_6 c r) = take_snapshot
phase_operation (line_32 i h) = read_snapshot i h
phase_operation (line_34 i h f j x) = read_snapshot i h
phase_operation (total_32 q h k i u) = total q h
phase_operation (total_34 q h k i u f j x) = total q h
phase_operation (closing q h k u) = total q h
phase_operation (line_20 c j) = then_operation c
phase_operation (line_21 c j) = then_operation c
phase_operation (line_22 c j n r) = then_operation c

abbrev pub then_has_published : Then → Bool
then_has_published (then_39 i f) = false
then_has_published (then_43 i a b f) = false
then_has_published (then_48 i a b) = true
then_has_published (then_52 i a b g) = false
then_has_published (then_34 i h f) = false
then_has_published (then_total_34 q h k i u f) = false

abbrev pub has_published : Phase → Bool
has_published (line_37 i) = false
has_published (line_39 i f j) = false
has_published (line_41 i a b) = false
has_published (line_43 i a b f j) = false
has_published (line_45 i a b f j) = false
has_published (line_46 i a b f j y) = false
has_published (line_48 i a b j) = true
has_published (line_50 i a b g y) = false
has_published (line_51 i a b g) = false
has_published (line_52 i a b g j) = false
has_published line_5 = false
has_published (line_6 c r) = false
has_published (line_32 i h) = false
has_published (line_34 i h f j x) = false
has_published (total_32 q h k i u) = false
has_published (total_34 q h k i u f j x) = false
has_published (closing q h k u) = false
has_published (line_20 c j) = then_has_published c
has_published (line_21 c j) = then_has_published c
has_published (line_22 c j n r) = then_has_published c

abbrev pub published_after : Effect → Bool → Bool
published_after nothing b = b
published_after counts b = b
published_after (publishes i v y) b = true
published_after (stamps i j c r) b = b
published_after (takes_node i new j y) b = b
published_after (gives_back y) b = b

-- ---- the lines of a whole operation, the newest first

-- The lines of an operation that answered, or that ended with number 11 or 12.
pub record FateLines (f : Entry) : Type 0 where
  pub whole : f.done ≡ true → WholeLines f.operation f.lines
  pub refused : (f.refusal ≡ 0 → ⊥) → RefusedLines f.refusal f.operation f.lines

-- ---- an answer is right at its place

-- its instant: when it fetched the head j, at f, if the stamp was valid then, else when the stamp became valid
pub record AtHead (it : Item) (o τ j : ℕ) : Type 0 where
  pub f : ℕ
  pub got : Fetched it j f
  pub since : o < f
  pub good : j < it.valid
  pub is : τ ≡ max f (it.stamped_at j)

-- its instant: that of version j, the first to replace the head g, which it fetched at f
pub record AtLoss (it : Item) (o τ j : ℕ) : Type 0 where
  pub g : ℕ
  pub next : j ≡ suc g
  pub f : ℕ
  pub got : Fetched it g f
  pub since : o < f
  pub good : j < it.valid
  pub is : τ ≡ it.effect_at j

-- a readSnapshot and a total: the last step
abbrev pub AtLastStep : Operation → (τ t : ℕ) → Type 0
AtLastStep (register i v z) τ t = Unit {0}
AtLastStep (v_read i) τ t = Unit {0}
AtLastStep (v_cas i a b) τ t = Unit {0}
AtLastStep take_snapshot τ t = Unit {0}
AtLastStep (read_snapshot i h) τ t = suc τ ≡ t
AtLastStep (total q h) τ t = suc τ ≡ t

-- a vCAS that saw the value v and changed nothing
pub data CasSees (v a b x : ℕ) : Type 0 where
  differs : x ≡ 0 → v ≢ a → CasSees v a b x
  same : x ≡ 1 → v ≡ a → b ≡ a → CasSees v a b x

-- a readSnapshot: the value when the counter left h
pub record SnapshotRead (m : Memory) (i h o : ℕ) (l : List ℕ) (τ j x : ℕ) : Type 0 where
  pub read : Read m i h o (suc τ) j l
  pub is : x ≡ (m.item i).value j

-- a total: the k items noted are all that were there when the counter left h
pub record TotalRead (m : Memory) (q h o : ℕ) (l : List ℕ) (τ x : ℕ) : Type 0 where
  pub gone : h < m.camera.counter
  pub when : m.camera.left_at h < o
  pub k : ℕ
  pub registered : k ≤ m.items
  pub have : (y : ℕ) → y < k → 0 < (m.item y).valid
  pub noted : (y : ℕ) → y < k → (m.item y).author 0 < o
  pub covers : (y : ℕ) → k ≤ y → 0 < (m.item y).valid → o ≤ (m.item y).author 0
  pub earlier : List ℕ
  pub sum : Sum m q h o (suc τ) k x earlier
  pub lines : l ≡ 0 ∷ earlier

abbrev pub RightAnswer : Memory → Operation → (o : ℕ) → List ℕ → (τ j x : ℕ) → Type 0
RightAnswer m (register i v z) o l τ j x = ⊥
RightAnswer m (v_read i) o l τ j x = Sees (m.item i) τ j × (x ≡ (m.item i).value j) × AtHead (m.item i) o τ j
RightAnswer m (v_cas i a b) o l τ j x = Sees (m.item i) τ j × CasSees ((m.item i).value j) a b x × (AtHead (m.item i) o τ j ⊎ AtLoss (m.item i) o τ j)
RightAnswer m take_snapshot o l τ j x = (x < m.camera.counter) × (m.camera.left_at x ≡ τ)
RightAnswer m (read_snapshot i h) o l τ j x = SnapshotRead m i h o l τ j x
RightAnswer m (total q h) o l τ j x = TotalRead m q h o l τ x

-- what a change answers: a register its item, a vCAS 1
abbrev pub change_answer : Operation → ℕ
change_answer (register i v z) = i
change_answer (v_read i) = 0
change_answer (v_cas i a b) = 1
change_answer take_snapshot = 0
change_answer (read_snapshot i h) = 0
change_answer (total q h) = 0

-- ---- what a line owes; p: the operation has published its version

pub record GoesOn (t o : ℕ) (l : List ℕ) (m : Memory) (op : Operation) (p : Bool) (ph : Phase) : Type 0 where
  pub same_operation : phase_operation ph ≡ op
  pub same_published : has_published ph ≡ p
  pub facts : PhaseFacts t o l m ph

pub record EndsWith (l : List ℕ) (op : Operation) (p : Bool) (number : ℕ) : Type 0 where
  pub early : p ≡ false
  pub lines : RefusedLines number op l

pub record EndsChange (o : ℕ) (l : List ℕ) (m : Memory) (op : Operation) (x : ℕ) : Type 0 where
  pub i : ℕ
  pub j : ℕ
  pub good : j < (m.item i).valid
  pub pos : 0 < j
  pub mine : (m.item i).author j ≡ o
  pub is : x ≡ change_answer op
  pub lines : WholeLines op l

pub record AnswersRight (t o : ℕ) (l : List ℕ) (m : Memory) (op : Operation) (p : Bool) (x τ j : ℕ) : Type 0 where
  pub early : p ≡ false
  pub since : o < τ
  pub till : τ < t
  pub right : RightAnswer m op o l τ j x
  pub last : AtLastStep op τ t
  pub lines : WholeLines op l

abbrev pub ComesRight : (t o : ℕ) → List ℕ → Memory → Operation → Bool → Comes → Type 0
ComesRight t o l m op p (goes_on ph) = GoesOn t o l m op p ph
ComesRight t o l m op p (ends_with n) = EndsWith l op p n
ComesRight t o l m op p (answers_change x) = EndsChange o l m op x
ComesRight t o l m op p (answers x τ j) = AnswersRight t o l m op p x τ j

-- the counter moves only with a takeSnapshot's answer
abbrev pub Moving : ℕ → Memory → Operation → Effect → Comes → Type 0
Moving t m op nothing u = Unit {0}
Moving t m op counts (goes_on ph) = ⊥
Moving t m op counts (ends_with n) = ⊥
Moving t m op counts (answers_change x) = ⊥
Moving t m op counts (answers x τ j) = (op ≡ take_snapshot) × (answers x τ j ≡ answers m.camera.counter t 0)
Moving t m op (publishes i v y) u = Unit {0}
Moving t m op (stamps i j c r) u = Unit {0}
Moving t m op (takes_node i new j y) u = Unit {0}
Moving t m op (gives_back y) u = Unit {0}

-- A line by a worker with the lines l before it, at phase ph.
pub record LineRight (t o : ℕ) (l : List ℕ) (m : Memory) (ph : Phase) (x : Next) : Type 0 where
  pub does : Allowed t o (phase_operation ph) (has_published ph) m x.does
  pub comes : ComesRight (suc t) o (line_number ph ∷ l) (memory_after t o x.does m) (phase_operation ph) (published_after x.does (has_published ph))
      x.comes
  pub moves : Moving t m (phase_operation ph) x.does x.comes
