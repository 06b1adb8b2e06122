-- The lent words as named cells, and what a call writes as a list of assignments to cells.
-- docs/FIELDS.md is this file for people.
use Rattle.std.specs.Prelude.{ℕ, ◌+◌, ◌*◌, ◌-◌, cond, List, [], ◌∷◌, ltb, get_or, set}

-- A cell: which field (its kind) of which record (its index).
pub record Cell : Type 0 where
  pub kind : ℕ
  pub index : ℕ

abbrev pub cell : ℕ → ℕ → Cell
cell k i = record { kind = k; index = i }

-- The header, kinds 0 to 15: document 01's P, M, N, Q and C, the counter, the number of items, the number of
-- nodes ever used, and the node most recently given back (its number plus one; 0: none waits).
abbrev pub workers : Cell
workers = cell 0 0

abbrev pub items_limit : Cell
items_limit = cell 1 0

abbrev pub nodes_limit : Cell
nodes_limit = cell 2 0

abbrev pub projects : Cell
projects = cell 3 0

abbrev pub counter_limit : Cell
counter_limit = cell 4 0

abbrev pub counter : Cell
counter = cell 5 0

abbrev pub items : Cell
items = cell 6 0

abbrev pub used : Cell
used = cell 7 0

abbrev pub given_back : Cell
given_back = cell 8 0

-- Worker w, kinds 16 to 31: its phase and steps; the operation's arguments (a total's item is its place among the items);
-- and what its lines keep: the node fetched, the new node of line 45, the number read at 21 or 5, a total's running sum.
abbrev pub phase : ℕ → Cell
phase = cell 16

abbrev pub steps : ℕ → Cell
steps = cell 17

abbrev pub item : ℕ → Cell
item = cell 18

abbrev pub old : ℕ → Cell
old = cell 19

abbrev pub new : ℕ → Cell
new = cell 20

abbrev pub handle : ℕ → Cell
handle = cell 21

abbrev pub project : ℕ → Cell
project = cell 22

abbrev pub noted : ℕ → Cell
noted = cell 23

abbrev pub node : ℕ → Cell
node = cell 24

abbrev pub new_node : ℕ → Cell
new_node = cell 25

abbrev pub seen : ℕ → Cell
seen = cell 26

abbrev pub sum_low : ℕ → Cell
sum_low = cell 27

abbrev pub sum_high : ℕ → Cell
sum_high = cell 28

-- Item i, kinds 32 to 35.
abbrev pub head : ℕ → Cell
head = cell 32

abbrev pub birth : ℕ → Cell
birth = cell 33

abbrev pub size : ℕ → Cell
size = cell 34

-- Node n, kinds 36 to 38. The older node is its number plus one, 0 where there is none; of a node given back it is the one given back before it.
abbrev pub value : ℕ → Cell
value = cell 36

abbrev pub older : ℕ → Cell
older = cell 37

abbrev pub stamp : ℕ → Cell
stamp = cell 38

-- How many words each record takes.
abbrev pub header_words : ℕ
header_words = 16

abbrev pub worker_words : ℕ
worker_words = 16

abbrev pub item_words : ℕ
item_words = 4

abbrev pub node_words : ℕ
node_words = 3

-- Where the items start, with p workers; where the nodes start, with m items at most; and all the words that are needed.
abbrev pub items_start : ℕ → ℕ
items_start p = header_words + worker_words * p

abbrev pub nodes_start : ℕ → ℕ → ℕ
nodes_start p m = items_start p + item_words * m

abbrev pub needed : ℕ → ℕ → ℕ → ℕ
needed p m n = nodes_start p m + node_words * n

-- Where a cell stands among the words, where the items start at a and the nodes at b.
abbrev pub place : ℕ → ℕ → Cell → ℕ
place a b c =
    cond (ltb c.kind 16) c.kind
    (cond (ltb c.kind 32) (header_words + worker_words * c.index + (c.kind - 16))
    (cond (ltb c.kind 36) (a + item_words * c.index + (c.kind - 32))
    (b + (node_words * c.index + (c.kind - 36)))))

-- What the cells hold.
abbrev pub Cells : Type 0
Cells = Cell → ℕ

abbrev pub cells_at : ℕ → ℕ → List ℕ → Cells
cells_at a b ws c = get_or ws (place a b c) 0

-- The same, where the items and nodes start as the words' own header says.
abbrev pub items_offset : List ℕ → ℕ
items_offset ws = items_start (get_or ws 0 0)

abbrev pub nodes_offset : List ℕ → ℕ
nodes_offset ws = nodes_start (get_or ws 0 0) (get_or ws 1 0)

abbrev pub cells_of : List ℕ → Cells
cells_of ws = cells_at (items_offset ws) (nodes_offset ws) ws

pub record Assignment : Type 0 where
  pub to : Cell
  pub what : ℕ

infix 68 ◌≔◌
abbrev pub ◌≔◌ : Cell → ℕ → Assignment
◌≔◌ c v = record { to = c; what = v }

-- The words after assignments, done in order.
abbrev pub written : ℕ → ℕ → List ℕ → List Assignment → List ℕ
written a b ws [] = ws
written a b ws (x ∷ xs) = written a b (set ws (place a b x.to) x.what) xs

-- All sixteen words of worker w's record: a phase and the arguments of an operation, everything else zero.
abbrev pub record_of : (w ph i o n h q k : ℕ) → List Assignment
record_of w ph i o n h q k =
    phase w ≔ ph ∷ steps w ≔ 0 ∷ item w ≔ i ∷ old w ≔ o ∷ new w ≔ n ∷ handle w ≔ h ∷ project w ≔ q ∷ noted w ≔ k
    ∷ node w ≔ 0 ∷ new_node w ≔ 0 ∷ seen w ≔ 0 ∷ sum_low w ≔ 0 ∷ sum_high w ≔ 0 ∷ cell 29 w ≔ 0 ∷ cell 30 w ≔ 0 ∷ cell 31 w ≔ 0 ∷ []

-- An idle worker's record is all zero.
abbrev pub cleared : ℕ → List Assignment
cleared w = record_of w 0 0 0 0 0 0 0
