-- What a call did, noted by one who sees the words before it, the call and its answer. A run is told by its notes, and so is
-- what each operation came to, and what took effect when. Time is the index of a note.
use Rattle.std.specs.Prelude.{◌≡◌, ◌≢◌, ℕ, suc, pred, ◌+◌, ◌<◌, Bool, true, false, cond, not, ◌||◌, ◌&&◌, List, [], ◌∷◌, ◌++◌, ltb, leb, eqb, length, replicate}
use Rattle.definitions.specs.declared.Answer.{Answer}
use Rattle.definitions.specs.Cells.{Cells, cells_of, counter, phase, item, node, new_node, seen, head, value, stamp}
use Rattle.definitions.specs.Phases.{row_of}
use Rattle.definitions.specs.Damage.{TBD, any_of}
use Rattle.definitions.specs.Calls.{Call, Result, outcome}
use Rattle.history.specs.Definition1.{
  Operation,
  register,
  v_read,
  v_cas,
  take_snapshot,
  read_snapshot,
  total,
  Object,
  put,
  with_value,
  apply,
  empty,
}

-- What a line did that others can see, or saw of others:
pub data Deed : Type 0 where
  fetches : (i : ℕ) (valid : Bool) → Deed  -- lines 32 (of a total, also where it passes item i over), 37, 41: item i's head, its stamp valid, or TBD
  finds : (valid : Bool) → Deed  -- line 20: the stamp of the node that it helps is valid, or TBD
  publishes : (i v : ℕ) → Deed  -- line 46, where it succeeds: a node of value v becomes the head of item i
  stamps : (i : ℕ) → Deed  -- line 22, where it succeeds: a node of item i has its stamp
  moves : (h : ℕ) → Deed  -- line 6, where it succeeds: the counter leaves h
  nothing : Deed

-- what became of an operation: a step left it running, with an answer, or ended with number 11 or 12; or its worker was abandoned, which no step does
pub data Ending : Type 0 where
  goes_on : Ending
  answers : (x : ℕ) → Ending
  ends_with : (number : ℕ) → Ending
  given_up : Ending

-- what a call that changed nothing looked at
pub data Look : Type 0 where
  none : Look

-- what happened
pub data Note : Type 0 where
  quiet : Look → Note  -- nothing changed
  registered : (i v s : ℕ) → Note
  started : (w : ℕ) → Operation → Note
  stepped : (w line : ℕ) → Deed → Ending → Note  -- worker w executed a line
  abandoned : (w : ℕ) (held : Bool) → Note  -- worker w was abandoned, and held a node that was not published, or none

-- a call was refused
abbrev pub refused : Note
refused = quiet none

-- ---- reading the words

-- what a line of worker w does, by the words before it
abbrev pub deed_at : (line : ℕ) → Cells → (w : ℕ) → Deed
deed_at line m w =
    cond (any_of (eqb line 32 ∷ eqb line 37 ∷ eqb line 41 ∷ []))
    (fetches (m (item w)) (not (eqb (m (stamp (m (head (m (item w)))))) TBD)))
    (cond (eqb line 20) (finds (not (eqb (m (stamp (m (node w)))) TBD)))
    (cond (eqb line 46 && eqb (m (head (m (item w)))) (m (node w))) (publishes (m (item w)) (m (value (m (new_node w)))))
    (cond (eqb line 22 && eqb (m (stamp (m (node w)))) TBD) (stamps (m (item w)))
    (cond (eqb line 6 && eqb (m counter) (m (seen w))) (moves (m counter)) nothing))))

-- a step with its answer: finished, running, or ended with number 11 or 12; any other answer is a refusal
abbrev pub step_note : (w line : ℕ) → Deed → Answer → Note
step_note w line d a =
    cond (eqb a.code 0) (stepped w line d (answers a.value))
    (cond (eqb a.code 1) (stepped w line d goes_on)
    (cond (eqb a.code 27) (stepped w line d (ends_with 11))
    (cond (eqb a.code 28) (stepped w line d (ends_with 12)) refused)))

-- a worker that took a node at line 45 and has not published it stands at 46 or 50
abbrev pub holds_at : (line : ℕ) → Bool
holds_at line = eqb line 46 || eqb line 50

-- what an accepted call is noted as
abbrev pub if_accepted : Answer → Note → Note
if_accepted a x = cond (eqb a.code 2) x refused

-- a call whose worker, if it steps, would execute a line and do a deed. In a run every make is refused.
abbrev pub note_of : Call → Answer → (line : ℕ → ℕ) → (deed : ℕ → Deed) → Note
note_of (Call.make p m n q c) a line deed = refused
note_of (Call.register v s) a line deed = if_accepted a (registered a.value v s)
note_of (Call.v_read w i) a line deed = if_accepted a (started w (v_read i))
note_of (Call.v_cas w i old new) a line deed = if_accepted a (started w (v_cas i old new))
note_of (Call.take_snapshot w) a line deed = if_accepted a (started w take_snapshot)
note_of (Call.read_snapshot w i h) a line deed = if_accepted a (started w (read_snapshot i h))
note_of (Call.total w q h) a line deed = if_accepted a (started w (total q h))
note_of (Call.step w) a line deed = step_note w (line w) (deed w) a
note_of (Call.abandon w) a line deed = if_accepted a (abandoned w (holds_at (line w)))

-- the call that starts an operation of worker w; a register is whole in its call
abbrev pub start_of : (w : ℕ) → Operation → Call
start_of w (register i v s) = Call.register v s
start_of w (v_read i) = Call.v_read w i
start_of w (v_cas i old new) = Call.v_cas w i old new
start_of w take_snapshot = Call.take_snapshot w
start_of w (read_snapshot i h) = Call.read_snapshot w i h
start_of w (total r h) = Call.total w r h

-- A catalogue is what each call comes to on any words: `outcome` is the one that is promised. What a call on words is noted as, by any catalogue,
abbrev pub Catalogue : Type 0
Catalogue = List ℕ → Call → Result

unfoldable pub note_by : Catalogue → List ℕ → Call → Note
note_by f ws c =
    let m = cells_of ws in
    note_of c (f ws c).answer (λ w. (row_of (m (phase w))).line) (λ w. deed_at (row_of (m (phase w))).line m w)

-- and by that one
abbrev pub note : List ℕ → Call → Note
note = note_by outcome

-- all that is told of a call, the newest first: one note
unfoldable pub told : List ℕ → Call → List Note
told ws c = note ws c ∷ []

-- ---- runs: the calls and the notes, the newest first

unfoldable pub words_after : List ℕ → List Call → List ℕ
words_after ws [] = ws
words_after ws (c ∷ cs) = (outcome (words_after ws cs) c).words

unfoldable pub notes : List ℕ → List Call → List Note
notes ws [] = []
notes ws (c ∷ cs) = told (words_after ws cs) c ++ notes ws cs

-- A run begins on the words that an accepted make leaves.
abbrev pub start : List ℕ → (p m n q c : ℕ) → List ℕ
start ws p m n q c = (outcome ws (Call.make p m n q c)).words

-- The arguments of a call are numbers of their types. No refusal tests a register's size, which is any 32-bit number.
abbrev pub Typed : Call → Type 0
Typed x = (v s : ℕ) → x ≡ Call.register v s → s < 4294967296

-- A call of a run: its arguments are numbers of their types, and it is no accepted make.
pub record RunCallBy (f : Catalogue) (ws : List ℕ) (x : Call) : Type 0 where
  pub typed : Typed x
  pub no_make : (p m n q c : ℕ) → x ≡ Call.make p m n q c → (f ws x).answer.code ≢ 2

abbrev pub RunCall : List ℕ → Call → Type 0
RunCall = RunCallBy outcome

-- the calls of a run
abbrev pub Run : List ℕ → List Call → Type 0
Run ws [] = Unit {0}
Run ws (x ∷ cs) = Run ws cs × RunCall (words_after ws cs) x

-- A history has the words now and all that is told since the last accepted make, with p workers, m items, n nodes, q projects and a counter up to c.
pub data History (p m n q c : ℕ) : List ℕ → List Note → Type 0 where
  made : (ws : List ℕ) → (outcome ws (Call.make p m n q c)).answer.code ≡ 2 → History p m n q c (start ws p m n q c) []
  called : {now : List ℕ} {run : List Note} → History p m n q c now run → (x : Call) → RunCall now x →
      History p m n q c (outcome now x).words (told now x ++ run)

-- the code of refusal 2
abbrev pub damaged_code : ℕ
damaged_code = 18

-- ---- what each operation came to, written down from the notes; it is named by the time of its start

pub record Fate : Type 0 where
  pub operation : Operation
  pub worker : ℕ
  pub lines : List ℕ  -- the lines that it has executed, the newest first
  pub ending : Ending  -- how its latest line left it, or that its worker was abandoned
  pub at : ℕ  -- when it began, or executed its latest line

pub record Ledger : Type 0 where
  pub fate : ℕ → Fate  -- of each operation
  pub current : ℕ → ℕ  -- the operation that each worker was started in last

-- an operation begins at t, or executes a line at t
abbrev pub begins : Operation → (w : ℕ) → Ending → (t : ℕ) → Fate
begins op w e t = record { operation = op; worker = w; lines = []; ending = e; at = t }

abbrev pub continues : Fate → (line : ℕ) → Ending → (t : ℕ) → Fate
continues f line e t = record { operation = f.operation; worker = f.worker; lines = line ∷ f.lines; ending = e; at = t }

-- an operation whose worker is abandoned; its lines, and when it executed the latest, stay
abbrev pub stops : Fate → Fate
stops f = record { operation = f.operation; worker = f.worker; lines = f.lines; ending = given_up; at = f.at }

-- the entry of a note at t
unfoldable pub entered : ℕ → Note → Ledger → Ledger
entered t (quiet x) l = l
entered t (registered i v s) l = record { fate = put l.fate t (begins (register i v s) 0 (answers i) t); current = l.current }
entered t (started w op) l = record { fate = put l.fate t (begins op w goes_on t); current = put l.current w t }
entered t (stepped w line d e) l =
    record { fate = put l.fate (l.current w) (continues (l.fate (l.current w)) line e t); current = l.current }
entered t (abandoned w held) l = record { fate = put l.fate (l.current w) (stops (l.fate (l.current w))); current = l.current }

-- where no operation was started, an ending stands that none has
unfoldable pub ledger : List Note → Ledger
ledger [] = record { fate = λ o. begins take_snapshot 0 (ends_with 0) 0; current = λ w. 0 }
ledger (x ∷ past) = entered (length past) x (ledger past)

-- how many nodes are in use: a register takes one, a line 45 that goes on takes one, a line 50 gives one back, and so does an abandoned worker who holds one
unfoldable pub nodes_in_use : List Note → ℕ
nodes_in_use [] = 0
nodes_in_use (quiet x ∷ past) = nodes_in_use past
nodes_in_use (registered i v s ∷ past) = suc (nodes_in_use past)
nodes_in_use (started w op ∷ past) = nodes_in_use past
nodes_in_use (stepped w line d goes_on ∷ past) = let n = nodes_in_use past in cond (eqb line 45) (suc n) (cond (eqb line 50) (pred n) n)
nodes_in_use (stepped w line d (answers x) ∷ past) = nodes_in_use past
nodes_in_use (stepped w line d (ends_with number) ∷ past) = nodes_in_use past
nodes_in_use (stepped w line d given_up ∷ past) = nodes_in_use past
nodes_in_use (abandoned w held ∷ past) = cond held (pred (nodes_in_use past)) (nodes_in_use past)

-- ---- the lines of an operation, the newest first

-- Those of a help onto those before it: line 20 alone where it found a valid stamp, all three where it found TBD.
abbrev pub helped : Bool → List ℕ → List ℕ
helped false l = 20 ∷ l
helped true l = 22 ∷ 21 ∷ 20 ∷ l

-- Those of a whole read of a snapshot: line 34 passed so many versions, and answered at the next.
abbrev pub read_lines : Bool → ℕ → List ℕ
read_lines tbd passed = 34 ∷ (replicate passed 34 ++ helped tbd (32 ∷ []))

-- A vCAS ends at 43, after 3 or 5 steps; at 48 having changed the value, after 7 to 11; or at 52 having lost, after 9 to 13.
pub data CasLines : List ℕ → Type 0 where
  to_43 : {l : List ℕ} (tbd : Bool) → l ≡ 43 ∷ helped tbd (41 ∷ []) → CasLines l
  to_48 : {l : List ℕ} (first second : Bool) → l ≡ 48 ∷ helped second (46 ∷ 45 ∷ 43 ∷ helped first (41 ∷ [])) → CasLines l
  to_52 : {l : List ℕ} (first second : Bool) → l ≡ 52 ∷ helped second (51 ∷ 50 ∷ 46 ∷ 45 ∷ 43 ∷ helped first (41 ∷ [])) → CasLines l

-- A vRead takes 3 or 5 steps, a takeSnapshot 2. The lines of a readSnapshot and of a total stand with their answers: ExactRead, ExactTotal.
abbrev pub WholeLines : Operation → List ℕ → Type 0
WholeLines (register i v s) l = l ≡ []
WholeLines (v_read i) l = (tbd : Bool) × (l ≡ 39 ∷ helped tbd (37 ∷ []))
WholeLines (v_cas i old new) l = CasLines l
WholeLines take_snapshot l = l ≡ 6 ∷ 5 ∷ []
WholeLines (read_snapshot i h) l = Unit {0}
WholeLines (total q h) l = Unit {0}

-- an operation that ended with number 11 or 12
pub data RefusedLines (number : ℕ) (op : Operation) (l : List ℕ) : Type 0 where
  no_node_left : (i old new : ℕ) (tbd : Bool) → number ≡ 11 → op ≡ v_cas i old new → l ≡ 45 ∷ 43 ∷ helped tbd (41 ∷ []) → RefusedLines number op l
  counter_full : number ≡ 12 → op ≡ take_snapshot → l ≡ 5 ∷ [] → RefusedLines number op l

-- the most steps that an operation may take
abbrev pub most_steps : Operation → ℕ
most_steps (register i v s) = 0
most_steps (v_read i) = 5
most_steps (v_cas i old new) = 13
most_steps take_snapshot = 2
most_steps (read_snapshot i h) = 5121
most_steps (total q h) = 5121

-- ---- what took effect, and when: births, changes and snapshots, the newest first

pub data Effect : Type 0 where
  birth : (t i v s : ℕ) → Effect  -- at t item i is registered with value v and size s
  change : (t i v p : ℕ) → Effect  -- at t item i has value v, by a node that line 46 published at p
  snapshot : (t h : ℕ) → Effect  -- at t the counter leaves h

-- when it took effect
abbrev pub time : Effect → ℕ
time (birth t i v s) = t
time (change t i v p) = t
time (snapshot t h) = t

-- Definition 1's object at time τ, as the effects up to then made it
unfoldable pub object_at : ℕ → List Effect → Object
object_at τ [] = empty
object_at τ (birth t i v s ∷ l) = let x = object_at τ l in cond (leb t τ) (apply (register i v s) x) x
object_at τ (change t i v p ∷ l) = let x = object_at τ l in cond (leb t τ) (with_value x i v) x
object_at τ (snapshot t h ∷ l) = object_at τ l

-- how many changes of item i take effect after τ, by nodes that were published before f
unfoldable pub changes_between : (i τ f : ℕ) → List Effect → ℕ
changes_between i τ f [] = 0
changes_between i τ f (birth t k v s ∷ l) = changes_between i τ f l
changes_between i τ f (change t k v p ∷ l) = cond (eqb i k && (ltb τ t && ltb p f)) 1 0 + changes_between i τ f l
changes_between i τ f (snapshot t h ∷ l) = changes_between i τ f l
