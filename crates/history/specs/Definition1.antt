-- Definition 1 of the paper, for sequential histories: what an answer means. The sequential object knows values, sizes and answers,
-- and no stamp, node or counter.
use Rattle.std.specs.Prelude.{◌≡◌, ◌⊎◌, Bool, true, false, cond, List, [], ◌∷◌, ℕ, zero, suc, ◌+◌, eqb}

-- An operation with its arguments. A register has the number of its item, the value and the size.
pub data Operation : Type 0 where
  register : (i v s : ℕ) → Operation
  v_read : (i : ℕ) → Operation
  v_cas : (i old new : ℕ) → Operation
  take_snapshot : Operation
  read_snapshot : (i h : ℕ) → Operation
  total : (q h : ℕ) → Operation

-- A sequential history is a list of operations with their answers, the newest first.
pub record Act : Type 0 where
  pub operation : Operation
  pub answer : ℕ

-- The sequential object: how many items there are, which are born, and the value and the size of each.
pub record Object : Type 0 where
  pub items : ℕ
  pub born : ℕ → Bool
  pub value : ℕ → ℕ
  pub size : ℕ → ℕ

-- f, but v at k
unfoldable pub put {ℓ} : {A : Type ℓ} → (ℕ → A) → ℕ → A → ℕ → A
put f k v n = cond (eqb n k) v (f n)

abbrev pub with_value : Object → (i v : ℕ) → Object
with_value x i v = record { items = x.items; born = x.born; value = put x.value i v; size = x.size }

-- what an operation makes of it
unfoldable pub apply : Operation → Object → Object
apply (register i v s) x = record { items = suc x.items; born = put x.born i true; value = put x.value i v; size = put x.size i s }
apply (v_read i) x = x
apply (v_cas i old new) x = with_value x i (cond (eqb (x.value i) old) new (x.value i))
apply take_snapshot x = x
apply (read_snapshot i h) x = x
apply (total q h) x = x

-- the object after a history; before it there is no item
abbrev pub empty : Object
empty = record { items = 0; born = λ i. false; value = λ i. 0; size = λ i. 0 }

unfoldable pub object : List Act → Object
object [] = empty
object (a ∷ past) = apply a.operation (object past)

-- the sum of the sizes of the items below n whose value is q
unfoldable pub total_to : (n q : ℕ) → Object → ℕ
total_to zero q x = 0
total_to (suc n) q x = total_to n q x + cond (eqb (x.value n) q) (x.size n) 0

-- and over all items
abbrev pub total_of : ℕ → Object → ℕ
total_of q x = total_to x.items q x

-- x is in a list
abbrev pub In : {A : Type 0} → A → List A → Type 0
In x [] = ⊥
In x (y ∷ l) = (x ≡ y) ⊎ In x l

-- nothing stands twice in it
abbrev pub Once : {A : Type 0} → List A → Type 0
Once [] = Unit {0}
Once (x ∷ l) = (In x l → ⊥) × Once l

-- x stands in a list whose newest is first, and past is what came before it
abbrev pub Follows : {A : Type 0} → A → List A → List A → Type 0
Follows x past [] = ⊥
Follows x past (y ∷ l) = ((x ≡ y) × (past ≡ l)) ⊎ Follows x past l

-- in a history, an operation answered x after past
abbrev pub Answered : Operation → ℕ → List Act → List Act → Type 0
Answered op x past l = Follows (record { operation = op; answer = x }) past l

-- a takeSnapshot answered h before, and P holds of the object at each takeSnapshot that answered h
abbrev pub AtSnapshots : ℕ → List Act → (Object → Type 0) → Type 0
AtSnapshots h past P = ((p : List Act) × Answered take_snapshot h p past) × ((p : List Act) → Answered take_snapshot h p past → P (object p))

-- item i is born
abbrev pub Born : ℕ → Object → Type 0
Born i y = y.born i ≡ true

-- item i is born, and its value is x
abbrev pub Holds : (i x : ℕ) → Object → Type 0
Holds i x y = Born i y × (x ≡ y.value i)

-- The answer x is right after past. A takeSnapshot may answer h if all reads and totals at h so far agree with the object now.
abbrev pub Right : Operation → ℕ → List Act → Type 0
Right (register i v s) x past = (x ≡ i) × ((object past).items ≡ i)
Right (v_read i) x past = Holds i x (object past)
Right (v_cas i old new) x past = Born i (object past) × (x ≡ cond (eqb ((object past).value i) old) 1 0)
Right take_snapshot h past =
    ((i x : ℕ) (p : List Act) → Answered (read_snapshot i h) x p past → Holds i x (object past))
    × ((q x : ℕ) (p : List Act) → Answered (total q h) x p past → x ≡ total_of q (object past))
Right (read_snapshot i h) x past = AtSnapshots h past (Holds i x)
Right (total q h) x past = AtSnapshots h past (λ then. x ≡ total_of q then)

-- every answer is right after what came before it
abbrev pub Legal : List Act → Type 0
Legal [] = Unit {0}
Legal (a ∷ past) = Right a.operation a.answer past × Legal past
