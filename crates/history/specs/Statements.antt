-- What is promised of the notes of a run: the instants of document 01, the one order of demand 2, the exact reads of demand 3, lines and steps.
-- Letters: o, q and c are operations, named by the times of their starts; i is an item, v a value, h a handle; τ is an instant, and t, f, p, r and s
-- are times, the indices of notes: f of a fetch of the head, p of a publication at 46, r of a line 21 and s of the line 22 after it.
use Rattle.std.specs.Prelude.{◌≡◌, ◌≢◌, ◌⊎◌, ◌↔◌, Bool, true, false, cond, not, List, [], ◌∷◌, ◌++◌, map, ℕ, suc, ◌+◌, ◌≤◌, ◌<◌, length, get_or}
pub use Rattle.history.specs.Definition1.{In, Once}
use Rattle.history.specs.Definition1.{
  Operation,
  register,
  v_read,
  v_cas,
  take_snapshot,
  read_snapshot,
  total,
  total_of,
  Born,
  Follows,
  Legal,
}
use Rattle.history.specs.Notes.{
  Deed,
  fetches,
  finds,
  publishes,
  stamps,
  moves,
  nothing,
  Ending,
  goes_on,
  answers,
  ends_with,
  given_up,
  Note,
  registered,
  stepped,
  abandoned,
  Fate,
  ledger,
  read_lines,
  WholeLines,
  RefusedLines,
  most_steps,
  Effect,
  birth,
  change,
  snapshot,
  time,
  object_at,
  changes_between,
}

-- ---- times

-- the newest first: times do not rise
abbrev pub Falling : {A : Type 0} → (A → ℕ) → List A → Type 0
Falling time [] = Unit {0}
Falling {A} time (x ∷ l) = ((y : A) → In y l → time y ≤ time x) × Falling time l

-- t is after f, and P holds of no time between them
abbrev pub Next : (ℕ → Type 0) → (f t : ℕ) → Type 0
Next P f t = (f < t) × ((t' : ℕ) → P t' → f < t' → t ≤ t')

module _ (run : List Note) where
  -- ---- events

  -- what operation o came to; it answered x; no operation of worker w goes on
  abbrev pub fate_of : ℕ → Fate
  fate_of o = (ledger run).fate o

  abbrev pub Finished : (o x : ℕ) → Type 0
  Finished o x = (fate_of o).ending ≡ answers x

  abbrev pub Free : (w : ℕ) → Type 0
  Free w = (o : ℕ) → (fate_of o).ending ≡ goes_on → (fate_of o).worker ≢ w

  -- operation o executed a line at time t, and did d
  pub record Executed (o line : ℕ) (d : Deed) (t : ℕ) : Type 0 where
    pub past : List Note
    pub w : ℕ
    pub e : Ending
    pub noted : Follows (stepped w line d e) past run
    pub its : (ledger past).current w ≡ o
    pub at : length past ≡ t

  -- operation o was abandoned at time t
  pub record Abandoned (o t : ℕ) : Type 0 where
    pub past : List Note
    pub w : ℕ
    pub held : Bool
    pub noted : Follows (abandoned w held) past run
    pub its : (ledger past).current w ≡ o
    pub at : length past ≡ t

  -- operation o fetched the head of item i at t; a node of item i was published at t, or stamped; operation o executed some line
  abbrev pub Fetched : (o i line t : ℕ) → Type 0
  Fetched o i line t = (valid : Bool) × Executed o line (fetches i valid) t

  abbrev pub Published : (i t : ℕ) → Type 0
  Published i t = (c : ℕ) × (v : ℕ) × Executed c 46 (publishes i v) t

  abbrev pub Stamped : (i t : ℕ) → Type 0
  Stamped i t = (q : ℕ) × Executed q 22 (stamps i) t

  abbrev pub Moved : (t : ℕ) → Type 0
  Moved t = (q : ℕ) × (h : ℕ) × Executed q 6 (moves h) t

  abbrev pub Steps : (o t : ℕ) → Type 0
  Steps o t = (line : ℕ) × (d : Deed) × Executed o line d t

  -- the first line 22 to stamp a node of item i after p was at s, and line 21 of the same operation, its own step before that, at r
  abbrev pub FirstStamp : (i p r s : ℕ) → Type 0
  FirstStamp i p r s = (q : ℕ) × Executed q 22 (stamps i) s × Next (Stamped i) p s × Executed q 21 nothing r × Next (Steps q) r s

  -- ---- when things take effect

  -- when the head was fetched, if its stamp was valid, else when it became valid
  abbrev pub HeadInstant : (o i line τ : ℕ) → Type 0
  HeadInstant o i line τ = Executed o line (fetches i true) τ ⊎ ((f : ℕ) × (r : ℕ) × Executed o line (fetches i false) f × FirstStamp i f r τ)

  -- at the line 21 whose line 22 stamped its node
  abbrev pub ChangeInstant : (o i τ : ℕ) → Type 0
  ChangeInstant o i τ = (v : ℕ) × (p : ℕ) × (s : ℕ) × Executed o 46 (publishes i v) p × FirstStamp i p τ s

  -- operation o lost to c, the vCAS that first changed the head of item i since its line 41
  abbrev pub LostTo : (o i c : ℕ) → Type 0
  LostTo o i c = (f : ℕ) × (v : ℕ) × (p : ℕ) × Fetched o i 41 f × Executed c 46 (publishes i v) p × Next (Published i) f p

  -- at the instant of that vCAS
  abbrev pub LossInstant : (o i τ : ℕ) → Type 0
  LossInstant o i τ = (c : ℕ) × LostTo o i c × ChangeInstant c i τ

  -- when the counter left the number x that line 5 read: the first move since
  abbrev pub TakeInstant : (o x τ : ℕ) → Type 0
  TakeInstant o x τ = (f : ℕ) × (q : ℕ) × Executed o 5 nothing f × Executed q 6 (moves x) τ × Next Moved f τ

  -- the line with which an operation ended
  abbrev pub last_line : ℕ → ℕ
  last_line o = get_or (fate_of o).lines 0 0

  -- a vCAS by that line: 43, 48 or 52
  abbrev pub CasInstant : (o i line τ : ℕ) → Type 0
  CasInstant o i line τ = ((line ≡ 43) × HeadInstant o i 41 τ) ⊎ (((line ≡ 48) × ChangeInstant o i τ) ⊎ ((line ≡ 52) × LossInstant o i τ))

  -- the instant of an operation that answered x
  abbrev pub Instant : (o x : ℕ) → Operation → (τ : ℕ) → Type 0
  Instant o x (register i v s) τ = τ ≡ o
  Instant o x (v_read i) τ = HeadInstant o i 37 τ
  Instant o x (v_cas i old new) τ = CasInstant o i (last_line o) τ
  Instant o x take_snapshot τ = TakeInstant o x τ
  Instant o x (read_snapshot i h) τ = τ ≡ (fate_of o).at
  Instant o x (total q h) τ = τ ≡ (fate_of o).at

  -- ---- one order

  -- a vCAS that has not answered, be it running or abandoned, and whose node has its stamp
  abbrev pub Pending : (o τ : ℕ) → Type 0
  Pending o τ = ((x : ℕ) → Finished o x → ⊥) × (i : ℕ) × (old : ℕ) × (new : ℕ) × ((fate_of o).operation ≡ v_cas i old new) × ChangeInstant o i τ

  -- after its start and not after its answer; a register in its own call
  abbrev pub Within : (o τ : ℕ) → Type 0
  Within o τ = ((o < τ) × ((x : ℕ) → Finished o x → τ ≤ (fate_of o).at))
      ⊎ ((i : ℕ) × (v : ℕ) × (s : ℕ) × ((fate_of o).operation ≡ register i v s) × (τ ≡ o) × ((fate_of o).at ≡ o))

  -- A vCAS that ended at 52 comes immediately after the vCAS c to which it lost: between them in the order are only others that lost to c.
  abbrev pub Immediately : (o i : ℕ) → List ℕ → Type 0
  Immediately o i order =
      (c : ℕ) × LostTo o i c × (newer : List ℕ) × (between : List ℕ) × (older : List ℕ) × (order ≡ newer ++ (o ∷ (between ++ (c ∷ older))))
      × ((q : ℕ) → In q between → LostTo q i c)

  -- What an abandoned operation came to, in an order with times and answers.
  pub record LeftOff (o : ℕ) (order : List ℕ) (time answer : ℕ → ℕ) : Type 0 where
    pub ending : (fate_of o).ending ≡ given_up
    pub effect : (i τ : ℕ) → ChangeInstant o i τ → In o order × (time o ≡ τ) × (o < τ) × (answer o ≡ 1)
    pub else_nowhere : In o order → (i : ℕ) × ChangeInstant o i (time o)

  -- Demand 2. The order lists operations, the newest first; each has its time and its answer.
  pub record OneOrder : Type 0 where
    pub order : List ℕ
    pub time : ℕ → ℕ
    pub answer : ℕ → ℕ
    -- in it are, each once, the operations that answered and the changes that have taken effect, whose answer is 1, and no other
    pub once : Once order
    pub all : (o x : ℕ) → Finished o x → In o order
    pub effective : (o i τ : ℕ) → ChangeInstant o i τ → In o order
    pub only : (o : ℕ) → In o order → Finished o (answer o) ⊎ (Pending o (time o) × (answer o ≡ 1))
    -- each within its call, in time order, at its instant
    pub within : (o : ℕ) → In o order → Within o (time o)
    pub falling : Falling time order
    pub instants : (o x : ℕ) → Finished o x → Instant o x (fate_of o).operation (time o)
    -- a change that has taken effect stands at the line 21 whose line 22 stamped its node
    pub changed : (o i τ : ℕ) → ChangeInstant o i τ → time o ≡ τ
    pub immediately : (o x i old new : ℕ) → (fate_of o).operation ≡ v_cas i old new → Finished o x → last_line o ≡ 52 → Immediately o i order
    -- an abandoned operation never answers, and takes effect at one moment after its start, or never: a vCAS whose node is stamped, before it was
    -- abandoned or after, stands in the order, at the line 21 whose line 22 stamped it, answered 1; any other stands nowhere
    pub left_off : (o t : ℕ) → Abandoned o t → LeftOff o order time answer
    -- and each answer is right by Definition 1
    pub legal : Legal (map (λ o. record { operation = (fate_of o).operation; answer = answer o }) order)

  -- ---- exact reads

  -- what an effect is the effect of
  abbrev pub TellsOf : Effect → Type 0
  TellsOf (birth t i v s) = (past : List Note) × Follows (registered i v s) past run × (length past ≡ t)
  TellsOf (change t i v p) = (o : ℕ) × (s : ℕ) × Executed o 46 (publishes i v) p × FirstStamp i p t s
  TellsOf (snapshot t h) = (o : ℕ) × Executed o 6 (moves h) t

  module _ (effects : List Effect) where
    -- Demand 3. left: when the counter left h, item i being registered before; f: when its line 32 was executed. Its answer x is the value at left,
    -- and its steps are k + 5 where its one line 20 found TBD, else k + 3: k counts the changes with effect after left whose line 46 was before f.
    pub record ExactRead (o i h x : ℕ) : Type 0 where
      pub left : ℕ
      pub taken : In (snapshot left h) effects
      pub born : Born i (object_at left effects)
      pub answer : x ≡ (object_at left effects).value i
      pub f : ℕ
      pub fetched : Fetched o i 32 f
      pub k : ℕ
      pub counted : k ≡ changes_between i left f effects
      pub tbd : Bool
      pub found : (t : ℕ) × Executed o 20 (finds (not tbd)) t
      pub lines : (fate_of o).lines ≡ read_lines tbd k
      pub steps : length (fate_of o).lines ≡ k + cond tbd 5 3

    -- The lines of a total, item by item in their order, each with its own line 32, executed at f, after that of the item before, at g: one line
    -- for an item not yet born when the counter left the handle, else those of a read.
    pub data TotalLines (left o : ℕ) : (items : ℕ) → List ℕ → (f : ℕ) → Type 0 where
      no_item : TotalLines left o 0 [] 0
      not_born : {i g : ℕ} {l : List ℕ} (f : ℕ) → Fetched o i 32 f → g < f → (Born i (object_at left effects) → ⊥) →
          TotalLines left o i l g → TotalLines left o (suc i) (32 ∷ l) f
      read : {i g : ℕ} {l : List ℕ} (f : ℕ) (tbd : Bool) → Fetched o i 32 f → g < f → Born i (object_at left effects) →
          TotalLines left o i l g → TotalLines left o (suc i) (read_lines tbd (changes_between i left f effects) ++ l) f

    -- A total's answer x is the sum over all items born when the counter left h whose project then was q; its steps are those of its items,
    -- which are the ones born before its start, and the closing one.
    pub record ExactTotal (o q h x : ℕ) : Type 0 where
      pub left : ℕ
      pub taken : In (snapshot left h) effects
      pub answer : x ≡ total_of q (object_at left effects)
      pub lines : (l : List ℕ) × (last : ℕ) × TotalLines left o (object_at o effects).items l last × ((fate_of o).lines ≡ 0 ∷ l)
      -- an item that it passed over, if it was registered before its start, was registered after the counter left h
      pub later : (i : ℕ) → Born i (object_at o effects) → (Born i (object_at left effects) → ⊥) →
          (t : ℕ) × (v : ℕ) × (s : ℕ) × In (birth t i v s) effects × (left < t) × (t ≤ o)

    -- ---- all that is promised of the notes of a run

    pub record Promises : Type 0 where
      -- demand 2: there is one order
      pub one_order : OneOrder
      -- the list of effects: in time order, no two at one time, and exactly those that the run tells of
      pub ordered : Falling time effects
      pub apart : Once (map time effects)
      pub exactly : (x : Effect) → In x effects ↔ TellsOf x
      -- the counter leaves each handle once, in their order
      pub leaves_once : (h t t' : ℕ) → In (snapshot t h) effects → In (snapshot t' h) effects → t ≡ t'
      pub in_turn : (g h t : ℕ) → In (snapshot t h) effects → g < h → (u : ℕ) × In (snapshot u g) effects × (u < t)
      -- a node has its stamp before the next of its item is published: the first stamp of an item after a publication is that node's
      pub stamped_first : (i p p' : ℕ) → Published i p → Published i p' → p < p' → (s : ℕ) × Stamped i s × (p < s) × (s < p')
      -- items are born in the order of their numbers
      pub born_in_turn : (i τ : ℕ) → Born i (object_at τ effects) ↔ (i < (object_at τ effects).items)
      -- demand 3: reads are exact
      pub reads : (o i h x : ℕ) → (fate_of o).operation ≡ read_snapshot i h → Finished o x → ExactRead o i h x
      -- so are totals, which never take more than 5,121 steps
      pub totals : (o q h x : ℕ) → (fate_of o).operation ≡ total q h → Finished o x → ExactTotal o q h x
      pub total_steps : (o q h x : ℕ) → (fate_of o).operation ≡ total q h → Finished o x → length (fate_of o).lines ≤ 5121
      -- the lines of all others, and of those that ended with number 11 or 12
      pub whole_lines : (o x : ℕ) → Finished o x → WholeLines (fate_of o).operation (fate_of o).lines
      pub refused_lines : (o n : ℕ) → n ≢ 0 → (fate_of o).ending ≡ ends_with n → RefusedLines n (fate_of o).operation (fate_of o).lines
      -- what line 20 found decides its help: line 21 is the operation's next step exactly where it found TBD
      pub helps : (o t t' line : ℕ) (d : Deed) (valid : Bool) → Executed o 20 (finds valid) t → Executed o line d t' → Next (Steps o) t t' →
          (line ≡ 21) ↔ (valid ≡ false)
      -- an operation that goes on is its worker's latest, and has not taken the most steps that it may take: one that is stepped so often has ended
      pub progress : (o : ℕ) → (fate_of o).ending ≡ goes_on →
          ((ledger run).current (fate_of o).worker ≡ o) × (length (fate_of o).lines < most_steps (fate_of o).operation)
