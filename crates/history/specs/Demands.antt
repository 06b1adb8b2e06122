-- What is promised of the words of a run and of the next call: which calls are accepted, which are refused and with which number, and what an answer holds.
-- `Demands` is all that is promised.
use Rattle.std.specs.Prelude.{◌≡◌, ◌≢◌, ◌⊎◌, ◌↔◌, Bool, List, ◌∷◌, ℕ, pred, ◌+◌, ◌≤◌, ◌<◌, length}
use Rattle.definitions.specs.declared.Answer.{Answer}
use Rattle.definitions.specs.Calls.{Call, outcome}
use Rattle.cells.specs.WellFormed.{WellFormed}
use Rattle.history.specs.Definition1.{In, Operation, register, v_read, v_cas, take_snapshot, read_snapshot, total, Object, Born}
use Rattle.history.specs.Notes.{
  Deed,
  Ending,
  goes_on,
  answers,
  ends_with,
  given_up,
  Note,
  registered,
  started,
  stepped,
  abandoned,
  start_of,
  Catalogue,
  note_by,
  RunCallBy,
  damaged_code,
  ledger,
  nodes_in_use,
  Effect,
  snapshot,
  object_at,
}
use Rattle.history.specs.Statements.{fate_of, Free, Promises}

-- ---- numbers

-- number k is given where P holds; k is the least number that P holds of
abbrev pub Given : (number : ℕ) → Type 0 → (k : ℕ) → Type 0
Given number P k = (k ≡ number) × P

abbrev pub Least : (ℕ → Type 0) → (k : ℕ) → Type 0
Least P k = P k × ((j : ℕ) → P j → k ≤ j)

-- An answer's numbers; and those of a step that left its operation so, with n lines executed: 01 and value 0 while it runs, 00 and the answer, 16 + the
-- number that it ended with and value 0. No step abandons its worker.
abbrev pub numbers : (code value steps : ℕ) → Answer
numbers c v n = record { code = c; value = v; steps = n; stamped = 0; operator = 0 }

abbrev pub StepNumbers : Ending → (n : ℕ) → Answer → Type 0
StepNumbers goes_on n a = a ≡ numbers 1 0 n
StepNumbers (answers x) n a = a ≡ numbers 0 x n
StepNumbers (ends_with number) n a = a ≡ numbers (16 + number) 0 n
StepNumbers given_up n a = ⊥

module _ (run : List Note) (effects : List Effect) where
  -- ---- starts

  -- Definition 1's object now, and how many items there are; and what a start asks for, where there are q projects: its item is registered, its values
  -- are projects, the counter has left its handle, and the item of a readSnapshot was registered before that. A register is no start.
  abbrev pub object_now : Object
  object_now = object_at (length run) effects

  abbrev pub items_now : ℕ
  items_now = object_now.items

  abbrev pub Asked : (q : ℕ) → Operation → Type 0
  Asked q (register i v s) = ⊥
  Asked q (v_read i) = Born i object_now
  Asked q (v_cas i old new) = Born i object_now × (old < q) × (new < q)
  Asked q take_snapshot = Unit {0}
  Asked q (read_snapshot i h) = (left : ℕ) × In (snapshot left h) effects × Born i (object_at left effects)
  Asked q (total r h) = (r < q) × (left : ℕ) × In (snapshot left h) effects

  -- ---- refusals

  -- Which numbers of document 01's table apply to a call that follows, with p workers, m items, n nodes and q projects. A make is refused 1 in a run.
  -- 8: the counter has not left the handle; 9: it left the handle before the item was born.
  module _ (p m n q : ℕ) where
    abbrev pub Applies : Call → (k : ℕ) → Type 0
    Applies (Call.make a b c d e) k = k ≡ 1
    Applies (Call.register v s) k = Given 7 (q ≤ v) k ⊎ (Given 10 (m ≤ items_now) k ⊎ Given 11 (n ≤ nodes_in_use run) k)
    Applies (Call.v_read w i) k = Given 3 (p ≤ w) k ⊎ (Given 4 (Free run w → ⊥) k ⊎ Given 6 (Born i object_now → ⊥) k)
    Applies (Call.v_cas w i old new) k =
        Given 3 (p ≤ w) k ⊎ (Given 4 (Free run w → ⊥) k ⊎ (Given 6 (Born i object_now → ⊥) k ⊎ Given 7 ((q ≤ old) ⊎ (q ≤ new)) k))
    Applies (Call.take_snapshot w) k = Given 3 (p ≤ w) k ⊎ Given 4 (Free run w → ⊥) k
    Applies (Call.read_snapshot w i h) k =
        Given 3 (p ≤ w) k ⊎ (Given 4 (Free run w → ⊥) k ⊎ (Given 6 (Born i object_now → ⊥) k ⊎ (Given 8 ((t : ℕ) → In (snapshot t h) effects → ⊥) k
        ⊎ Given 9 ((left : ℕ) × In (snapshot left h) effects × (Born i (object_at left effects) → ⊥)) k)))
    Applies (Call.total w r h) k =
        Given 3 (p ≤ w) k ⊎ (Given 4 (Free run w → ⊥) k ⊎ (Given 7 (q ≤ r) k ⊎ Given 8 ((t : ℕ) → In (snapshot t h) effects → ⊥) k))
    Applies (Call.step w) k = Given 3 (p ≤ w) k ⊎ Given 5 (Free run w) k
    Applies (Call.abandon w) k = Given 3 (p ≤ w) k ⊎ Given 5 (Free run w) k

-- ---- all that is promised: of the words now, where run has the notes and the catalogue was made with p workers, m items, n nodes, q projects and a
-- counter up to c. It is said of any catalogue f, so that wrong ones can be refuted, and promised of `outcome`.

pub record DemandsBy (f : Catalogue) (p m n q c : ℕ) (now : List ℕ) (run : List Note) : Type 0 where
  -- no call answers 2, and the words are well-formed
  pub never_2 : (x : Call) → RunCallBy f now x → (f now x).answer.code ≢ damaged_code
  pub formed : WellFormed now
  -- demands 2 and 3
  pub effects : List Effect
  pub promises : Promises run effects
  -- a start is accepted exactly when its worker is there and free, and what it asks for is there
  pub accepted : (w : ℕ) (op : Operation) → (note_by f now (start_of w op) ≡ started w op) ↔ ((w < p) × Free run w × Asked run effects q op)
  -- a register is accepted exactly when its value is a project and there is room for an item and a node
  pub registers : (v s : ℕ) → RunCallBy f now (Call.register v s) → (note_by f now (Call.register v s) ≡ registered (items_now run effects) v s)
      ↔ ((v < q) × (items_now run effects < m) × (nodes_in_use run < n))
  -- a step at line 45 ends with number 11 exactly when all nodes are in use
  pub no_node : (w : ℕ) (d : Deed) (e : Ending) → note_by f now (Call.step w) ≡ stepped w 45 d e → (e ≡ ends_with 11) ↔ (nodes_in_use run ≡ n)
  -- the counter leaves no handle from c on, and a step at line 5 ends with number 12 exactly when it has left the last, c - 1
  pub handles : (h t : ℕ) → In (snapshot t h) effects → h < c
  pub full : (w : ℕ) (d : Deed) (e : Ending) → note_by f now (Call.step w) ≡ stepped w 5 d e →
      (e ≡ ends_with 12) ↔ ((t : ℕ) × In (snapshot t (pred c)) effects)
  -- an operation that goes on is never refused a step
  pub never_stuck : (o : ℕ) → (fate_of run o).ending ≡ goes_on →
      (line : ℕ) × (d : Deed) × (e : Ending) × (note_by f now (Call.step (fate_of run o).worker) ≡ stepped (fate_of run o).worker line d e)
  -- a worker is abandoned exactly when it is there and not free; then it is free
  pub abandons : (w : ℕ) → ((held : Bool) × (note_by f now (Call.abandon w) ≡ abandoned w held)) ↔ ((w < p) × (Free run w → ⊥))
  pub frees : (w : ℕ) (held : Bool) → note_by f now (Call.abandon w) ≡ abandoned w held → Free (abandoned w held ∷ run) w
  -- the numbers of an answer: of a start and of an abandon 02, value 0 and steps 0; of a register 02, its item and steps 0; of a step by how it left its
  -- operation, with the number of lines that the operation has executed, that line included
  pub every_start : (w : ℕ) (op : Operation) → note_by f now (start_of w op) ≡ started w op → (f now (start_of w op)).answer ≡ numbers 2 0 0
  pub every_abandon : (w : ℕ) (held : Bool) → note_by f now (Call.abandon w) ≡ abandoned w held → (f now (Call.abandon w)).answer ≡ numbers 2 0 0
  pub every_register : (i v s : ℕ) → RunCallBy f now (Call.register v s) → note_by f now (Call.register v s) ≡ registered i v s →
      (f now (Call.register v s)).answer ≡ numbers 2 i 0
  pub every_step : (w line : ℕ) (d : Deed) (e : Ending) → note_by f now (Call.step w) ≡ stepped w line d e →
      StepNumbers e (length (line ∷ (fate_of run ((ledger run).current w)).lines)) (f now (Call.step w)).answer
  -- a call is refused exactly where a number applies to it, with the least that does, value 0 and steps 0
  pub refused : (x : Call) (k : ℕ) → RunCallBy f now x → ((f now x).answer ≡ numbers (16 + k) 0 0) ↔ Least (Applies run effects p m n q x) k

abbrev pub Demands : (p m n q c : ℕ) → List ℕ → List Note → Type 0
Demands = DemandsBy outcome
