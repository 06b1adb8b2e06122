-- The well-formed catalogues, stated on the words alone: no call, no run and no code is spoken of.
use Rattle.std.specs.Prelude.{ℕ, zero, suc, ◌+◌, ◌-◌, ◌<◌, ◌≤◌, true, false, cond, List, ◌≢◌, ◌≡◌, eqb}
use Rattle.definitions.specs.Cells.{Cells, cells_of, workers, counter, items, used, given_back, phase, new_node, head, birth, older, stamp}
use Rattle.definitions.specs.Phases.{row_of}
use Rattle.definitions.specs.Damage.{TBD, header_damaged, worker_damaged, step_damaged, item_damaged, node_damaged, keeps_new_node}
use Rattle.definitions.specs.Lines.{line_of_phase}

-- No word is damaged: of the header, of any worker, item or node ever used, and none that a worker's next step would meet. And a birth stamp is a
-- counter value: TBD in its place is no damage, but no register writes it.
pub record Undamaged (ws : List ℕ) : Type 0 where
  pub header_sound : header_damaged ws ≡ false
  pub worker_sound : (w : ℕ) → w < cells_of ws workers → worker_damaged (cells_of ws) w ≡ false
  pub step_sound : (w : ℕ) → w < cells_of ws workers → step_damaged (cells_of ws) w ≡ false
  pub line_sound : (w : ℕ) → w < cells_of ws workers → (line_of_phase (cells_of ws (phase w))).damaged (cells_of ws) w ≡ false
  pub item_sound : (i : ℕ) → i < cells_of ws items → item_damaged (cells_of ws) i ≡ false
  pub birth_sound : (i : ℕ) → i < cells_of ws items → cells_of ws (birth i) ≤ cells_of ws counter
  pub node_sound : (n : ℕ) → n < cells_of ws used → node_damaged (cells_of ws) n ≡ false

-- A link is a node's number plus one, or 0. The link that a link's node has, and the link that is k nodes further.
abbrev pub next_link : Cells → ℕ → ℕ
next_link f x = cond (eqb x 0) 0 (f (older (x - 1)))

unfoldable pub link_after : Cells → ℕ → ℕ → ℕ
link_after f first zero = first
link_after f first (suc k) = next_link f (link_after f first k)

-- Where a node may stand: k nodes below the head of item i; k nodes below the node most recently given back; held by worker w.
pub data Place : Type 0 where
  in_list : (i k : ℕ) → Place
  returned : (k : ℕ) → Place
  held_by : (w : ℕ) → Place

-- Node n stands there. A worker holds its new node between line 45 and line 46 or 50.
abbrev pub StandsAt : Cells → ℕ → Place → Type 0
StandsAt f n (in_list i k) = (i < f items) × (link_after f (f (head i) + 1) k ≡ n + 1)
StandsAt f n (returned k) = link_after f (f given_back) k ≡ n + 1
StandsAt f n (held_by w) = (w < f workers) × (keeps_new_node (row_of (f (phase w))) ≡ true) × (f (new_node w) ≡ n)

-- The list of item i ends, with its birth stamp.
pub record EndsWithBirth (f : Cells) (i : ℕ) : Type 0 where
  pub last : ℕ
  pub below : ℕ
  pub stands : StandsAt f last (in_list i below)
  pub no_older : f (older last) ≡ 0
  pub born : f (stamp last) ≡ f (birth i)

-- Document 02's set: no word is damaged; each node ever used stands in one place and in no other; in lists stamps never rise towards the
-- older node and TBD is only at a head; and each list ends with its item's birth stamp.
pub record WellFormed (ws : List ℕ) : Type 0 where
  pub undamaged : Undamaged ws
  pub some_place : (n : ℕ) → n < cells_of ws used → (p : Place) × StandsAt (cells_of ws) n p
  pub one_place : (n : ℕ) (p q : Place) → StandsAt (cells_of ws) n p → StandsAt (cells_of ws) n q → p ≡ q
  pub never_rise : (i k newer behind : ℕ) → StandsAt (cells_of ws) newer (in_list i k) → StandsAt (cells_of ws) behind (in_list i (suc k))
      → cells_of ws (stamp behind) ≤ cells_of ws (stamp newer)
  pub TBD_at_head : (i k n : ℕ) → StandsAt (cells_of ws) n (in_list i (suc k)) → cells_of ws (stamp n) ≢ TBD
  pub ends : (i : ℕ) → i < cells_of ws items → EndsWithBirth (cells_of ws) i
