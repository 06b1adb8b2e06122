-- The machine of versions. It answers every call as the words do, but it keeps each item as a row of versions, numbered from the oldest.
-- The time of an event is its index in the run, and an operation is named by the time of its start.
-- The times kept here, the authors, the fates and the places are for the proofs: no test reads them.
use Rattle.std.specs.Prelude.{Bool, true, false, not, ◌||◌, List, [], ◌∷◌, ℕ, suc, pred, ◌+◌, max, ltb, leb, eqb, length}
use Rattle.std.proofs.Math.Bool.{cond}
use Rattle.definitions.specs.declared.Answer.{Answer}
use Rattle.definitions.specs.Answers.{Refusal, ◌⇒◌, finished, running, accepted, refusal}
use Rattle.definitions.specs.Calls.{Call}
use Rattle.history.specs.Tools.{put}
pub use Rattle.history.specs.Definition1.{Operation, register, v_read, v_cas, take_snapshot, read_snapshot, total}

-- ---- what is kept

-- The machine's entry of an operation: whether it answered; its answer, when, and the lines it executed, the newest first; or its refusal, 11 or 12.
pub record Entry : Type 0 where
  pub operation : Operation
  pub worker : ℕ
  pub done : Bool
  pub answer : ℕ
  pub ended_at : ℕ
  pub lines : List ℕ
  pub refusal : ℕ

unfoldable pub ended : Entry → (x t : ℕ) → List ℕ → Entry
ended f x t l = record { operation = f.operation; worker = f.worker; done = true; answer = x; ended_at = t; lines = l; refusal = 0 }

unfoldable pub turned_away : Entry → (number t : ℕ) → List ℕ → Entry
turned_away f number t l = record {
  operation = f.operation;
  worker = f.worker;
  done = false;
  answer = 0;
  ended_at = t;
  lines = l;
  refusal = number;
}

-- An item. Every version but the newest has a valid stamp; the newest may still have TBD.
pub record Item : Type 0 where
  pub versions : ℕ  -- how many were published
  pub valid : ℕ  -- how many have a valid stamp: all of them, or all but the newest
  pub value : ℕ → ℕ
  pub stamp : ℕ → ℕ
  pub published_at : ℕ → ℕ  -- the line 46 that made it the head
  pub effect_at : ℕ → ℕ  -- the line 21 that read its stamp
  pub stamped_at : ℕ → ℕ  -- the line 22 that stored it
  pub author : ℕ → ℕ  -- the operation that published it
  pub node : ℕ → ℕ  -- the node that holds it
  pub size : ℕ

pub record Camera : Type 0 where
  pub counter : ℕ
  pub left_at : ℕ → ℕ  -- the line 6 at which the counter left a number
  pub mover : ℕ → ℕ  -- the takeSnapshot that moved it

-- The nodes: how many were ever used, and those given back by line 50 or an abandon, the latest first.
pub record Pool : Type 0 where
  pub used : ℕ
  pub given_back : List ℕ

-- Document 01's P, M, N, Q and C.
pub record Limits : Type 0 where
  pub workers : ℕ
  pub items : ℕ
  pub nodes : ℕ
  pub projects : ℕ
  pub counter : ℕ

pub record Memory : Type 0 where
  pub limits : Limits
  pub pool : Pool
  pub camera : Camera
  pub items : ℕ  -- how many are registered
  pub item : ℕ → Item

-- ---- taking a node and giving it back

pub data Found : Type 0 where
  no_node : Found
  node : (y : ℕ) → Found

-- the node most recently given back; if none waits, the lowest never used
unfoldable pub first_free : List ℕ → (used nodes : ℕ) → Found
first_free [] used nodes = cond (ltb used nodes) (node used) no_node
first_free (y ∷ l) used nodes = node y

unfoldable pub node_to_take : Memory → Found
unfolding first_free
node_to_take m = first_free m.pool.given_back m.pool.used m.limits.nodes

abbrev pub none_left : Found → Bool
none_left no_node = true
none_left (node y) = false

abbrev pub found : Found → ℕ
found no_node = 0
found (node y) = y

unfoldable pub used_next : List ℕ → ℕ → ℕ
used_next [] n = suc n
used_next (y ∷ l) n = n

unfoldable pub all_but_first : List ℕ → List ℕ
all_but_first [] = []
all_but_first (y ∷ l) = l

unfoldable pub one_taken : Pool → Pool
unfolding used_next all_but_first
one_taken p = record { used = used_next p.given_back p.used; given_back = all_but_first p.given_back }

unfoldable pub one_returned : ℕ → Pool → Pool
one_returned y p = record { used = p.used; given_back = y ∷ p.given_back }

-- ---- operations and phases: a phase carries its operation's arguments and what its lines keep

-- What a help, lines 20 to 22, goes on to. f: when the head was fetched; g: the head that line 41 fetched;
-- a total of project q at handle h has noted k items and stands at item i, with the sum u.
pub data Then : Type 0 where
  then_39 : (i f : ℕ) → Then
  then_43 : (i old new f : ℕ) → Then
  then_48 : (i old new : ℕ) → Then
  then_52 : (i old new g : ℕ) → Then
  then_34 : (i h f : ℕ) → Then
  then_total_34 : (q h k i u f : ℕ) → Then

-- j: the version fetched; y: the node taken at 45; c and r: the number read at 5 or 21, and when; x: the version reached at 34.
pub data Phase : Type 0 where
  line_37 : (i : ℕ) → Phase
  line_39 : (i f j : ℕ) → Phase
  line_41 : (i old new : ℕ) → Phase
  line_43 : (i old new f j : ℕ) → Phase
  line_45 : (i old new f j : ℕ) → Phase
  line_46 : (i old new f j y : ℕ) → Phase
  line_48 : (i old new j : ℕ) → Phase
  line_50 : (i old new g y : ℕ) → Phase
  line_51 : (i old new g : ℕ) → Phase
  line_52 : (i old new g j : ℕ) → Phase
  line_5 : Phase
  line_6 : (c r : ℕ) → Phase
  line_32 : (i h : ℕ) → Phase
  line_34 : (i h f j x : ℕ) → Phase
  total_32 : (q h k i u : ℕ) → Phase
  total_34 : (q h k i u f j x : ℕ) → Phase
  closing : (q h k u : ℕ) → Phase
  line_20 : Then → (j : ℕ) → Phase
  line_21 : Then → (j : ℕ) → Phase
  line_22 : Then → (j c r : ℕ) → Phase

-- the phase after a help
unfoldable pub after : Then → ℕ → Phase
after (then_39 i f) j = line_39 i f j
after (then_43 i old new f) j = line_43 i old new f j
after (then_48 i old new) j = line_48 i old new j
after (then_52 i old new g) j = line_52 i old new g j
after (then_34 i h f) j = line_34 i h f j j
after (then_total_34 q h k i u f) j = total_34 q h k i u f j j

abbrev pub helped_item : Then → ℕ
helped_item (then_39 i f) = i
helped_item (then_43 i old new f) = i
helped_item (then_48 i old new) = i
helped_item (then_52 i old new g) = i
helped_item (then_34 i h f) = i
helped_item (then_total_34 q h k i u f) = i

-- a total at its next item, or at its closing step
unfoldable pub total_at : (q h k i u : ℕ) → Phase
total_at q h k i u = cond (eqb i k) (closing q h k u) (total_32 q h k i u)

-- the source line of a phase, 0 for the closing step
abbrev pub line_number : Phase → ℕ
line_number (line_37 i) = 37
line_number (line_39 i f j) = 39
line_number (line_41 i old new) = 41
line_number (line_43 i old new f j) = 43
line_number (line_45 i old new f j) = 45
line_number (line_46 i old new f j y) = 46
line_number (line_48 i old new j) = 48
line_number (line_50 i old new g y) = 50
line_number (line_51 i old new g) = 51
line_number (line_52 i old new g j) = 52
line_number line_5 = 5
line_number (line_6 c r) = 6
line_number (line_32 i h) = 32
line_number (line_34 i h f j x) = 34
line_number (total_32 q h k i u) = 32
line_number (total_34 q h k i u f j x) = 34
line_number (closing q h k u) = 0
line_number (line_20 c j) = 20
line_number (line_21 c j) = 21
line_number (line_22 c j n r) = 22

-- ---- what a line does to the memory, and what the operation comes to

pub data Effect : Type 0 where
  nothing : Effect
  counts : Effect  -- the counter moves
  publishes : (i v y : ℕ) → Effect  -- node y with value v becomes the head of item i
  stamps : (i j c r : ℕ) → Effect  -- version j of item i gets the stamp c, read at r
  takes_node : (i new j y : ℕ) → Effect  -- node y, for value new, over version j of item i
  gives_back : (y : ℕ) → Effect

-- An answer x has its place in the one order at τ, having seen version j; that of a changing vCAS is known from its version.
pub data Comes : Type 0 where
  goes_on : Phase → Comes
  ends_with : (number : ℕ) → Comes
  answers_change : (x : ℕ) → Comes
  answers : (x τ j : ℕ) → Comes

pub record Next : Type 0 where
  pub does : Effect
  pub comes : Comes

abbrev pub only : Comes → Next
only u = record { does = nothing; comes = u }

abbrev pub on_45 : (i old new f j : ℕ) → Found → Next
on_45 i old new f j no_node = only (ends_with 11)
on_45 i old new f j (node y) = record { does = takes_node i new j y; comes = goes_on (line_46 i old new f j y) }

-- Algorithm 1, line by line, at time t.
module _ (t : ℕ) (m : Memory) where
  abbrev pub head : ℕ → ℕ
  head i = pred (m.item i).versions

  -- when a read of head j, fetched at f, takes effect: then, if the stamp was valid, else when it became valid
  abbrev pub read_at : (i f j : ℕ) → ℕ
  read_at i f j = max f ((m.item i).stamped_at j)

  unfoldable pub line : Phase → Next
  unfolding after total_at
  line (line_37 i) = only (goes_on (line_20 (then_39 i t) (head i)))
  line (line_39 i f j) = only (answers ((m.item i).value j) (read_at i f j) j)
  line (line_41 i old new) = only (goes_on (line_20 (then_43 i old new t) (head i)))
  line (line_43 i old new f j) =
      cond (eqb ((m.item i).value j) old)
      (cond (eqb new old) (only (answers 1 (read_at i f j) j)) (only (goes_on (line_45 i old new f j))))
      (only (answers 0 (read_at i f j) j))
  line (line_45 i old new f j) = on_45 i old new f j (node_to_take m)
  line (line_46 i old new f j y) =
      cond (eqb (m.item i).versions (suc j))
      (record { does = publishes i new y; comes = goes_on (line_20 (then_48 i old new) (suc j)) })
      (only (goes_on (line_50 i old new j y)))
  line (line_48 i old new j) = only (answers_change 1)
  line (line_50 i old new g y) = record { does = gives_back y; comes = goes_on (line_51 i old new g) }
  line (line_51 i old new g) = only (goes_on (line_20 (then_52 i old new g) (head i)))
  line (line_52 i old new g j) = only (answers 0 ((m.item i).effect_at (suc g)) (suc g))
  line line_5 = cond (leb m.limits.counter m.camera.counter) (only (ends_with 12)) (only (goes_on (line_6 m.camera.counter t)))
  line (line_6 c r) = cond (eqb m.camera.counter c) (record { does = counts; comes = answers c t 0 }) (only (answers c (m.camera.left_at c) 0))
  line (line_32 i h) = only (goes_on (line_20 (then_34 i h t) (head i)))
  line (line_34 i h f j x) =
      cond (ltb h ((m.item i).stamp x)) (only (goes_on (line_34 i h f j (pred x)))) (only (answers ((m.item i).value x) t x))
  line (total_32 q h k i u) =
      only (goes_on (cond (ltb h ((m.item i).stamp 0)) (total_at q h k (suc i) u) (line_20 (then_total_34 q h k i u t) (head i))))
  line (total_34 q h k i u f j x) =
      only (goes_on (cond (ltb h ((m.item i).stamp x)) (total_34 q h k i u f j (pred x))
      (total_at q h k (suc i) (u + cond (eqb ((m.item i).value x) q) (m.item i).size 0))))
  line (closing q h k u) = only (answers u t 0)
  line (line_20 c j) = only (goes_on (cond (ltb j (m.item (helped_item c)).valid) (after c j) (line_21 c j)))
  line (line_21 c j) = only (goes_on (line_22 c j m.camera.counter t))
  line (line_22 c j n r) = record {
    does = cond (ltb j (m.item (helped_item c)).valid) nothing (stamps (helped_item c) j n r);
    comes = goes_on (after c j);
  }

-- ---- the catalogue

-- Where an operation stands in the one order: not at all; with its published version j of item i, which has no stamp yet; with that version, which
-- has one; at τ, having seen version j and answered x.
pub data Place : Type 0 where
  unplaced : Place
  awaits : (i j : ℕ) → Place
  changes : (i j : ℕ) → Place
  observes : (τ j x : ℕ) → Place

-- A worker in an operation has executed these lines, the newest first, and stands at a phase.
pub data Worker : Type 0 where
  idle : Worker
  busy : (o : ℕ) → (lines : List ℕ) → Phase → Worker

pub record Catalogue : Type 0 where
  pub now : ℕ
  pub memory : Memory
  pub worker : ℕ → Worker
  pub fate : ℕ → Entry
  pub place : ℕ → Place

abbrev pub with_item : Memory → ℕ → Item → Memory
with_item m i it = record { limits = m.limits; pool = m.pool; camera = m.camera; items = m.items; item = put m.item i it }

abbrev pub with_pool : Memory → Pool → Memory
with_pool m p = record { limits = m.limits; pool = p; camera = m.camera; items = m.items; item = m.item }

-- line 46, by operation o, at t
abbrev pub published : (t o v y : ℕ) → Item → Item
published t o v y it =
    record {
      versions = suc it.versions;
      valid = it.valid;
      value = put it.value it.versions v;
      stamp = it.stamp;
      published_at = put it.published_at it.versions t;
      effect_at = it.effect_at;
      stamped_at = it.stamped_at;
      author = put it.author it.versions o;
      node = put it.node it.versions y;
      size = it.size;
    }

-- line 22, at t, with the number c read at r
abbrev pub stamped : (t j c r : ℕ) → Item → Item
stamped t j c r it =
    record {
      versions = it.versions;
      valid = suc j;
      value = it.value;
      stamp = put it.stamp j c;
      published_at = it.published_at;
      effect_at = put it.effect_at j r;
      stamped_at = put it.stamped_at j t;
      author = it.author;
      node = it.node;
      size = it.size;
    }

-- register, at t, where the counter is c
abbrev pub newborn : (t c v s y : ℕ) → Item
newborn t c v s y =
    record {
      versions = 1;
      valid = 1;
      value = λ j. v;
      stamp = λ j. c;
      published_at = λ j. t;
      effect_at = λ j. t;
      stamped_at = λ j. t;
      author = λ j. t;
      node = λ j. y;
      size = s;
    }

abbrev pub counted_up : (t o : ℕ) → Camera → Camera
counted_up t o k = record { counter = suc k.counter; left_at = put k.left_at k.counter t; mover = put k.mover k.counter o }

module _ (t o : ℕ) where
  unfoldable pub memory_after : Effect → Memory → Memory
  memory_after nothing m = m
  memory_after counts m = record { limits = m.limits; pool = m.pool; camera = counted_up t o m.camera; items = m.items; item = m.item }
  memory_after (publishes i v y) m = with_item m i (published t o v y (m.item i))
  memory_after (stamps i j c r) m = with_item m i (stamped t j c r (m.item i))
  memory_after (takes_node i new j y) m = with_pool m (one_taken m.pool)
  memory_after (gives_back y) m = with_pool m (one_returned y m.pool)

  unfoldable pub place_after : Effect → Memory → (ℕ → Place) → ℕ → Place
  place_after nothing m pl = pl
  place_after counts m pl = pl
  place_after (publishes i v y) m pl = put pl o (awaits i (m.item i).versions)
  place_after (stamps i j c r) m pl = put pl ((m.item i).author j) (changes i j)
  place_after (takes_node i new j y) m pl = pl
  place_after (gives_back y) m pl = pl

unfoldable pub affect : ℕ → Catalogue → Effect → Catalogue
affect o s e =
    record {
      now = s.now;
      memory = memory_after s.now o e s.memory;
      worker = s.worker;
      fate = s.fate;
      place = place_after s.now o e s.memory s.place;
    }

-- worker w's operation o, with these lines executed, comes out so
unfoldable pub settle : (w o : ℕ) → List ℕ → Catalogue → Comes → Catalogue
unfolding ended
settle w o l s (goes_on ph) = record { now = s.now; memory = s.memory; worker = put s.worker w (busy o l ph); fate = s.fate; place = s.place }
settle w o l s (ends_with n) =
    record {
      now = s.now;
      memory = s.memory;
      worker = put s.worker w idle;
      fate = put s.fate o (turned_away (s.fate o) n s.now l);
      place = s.place;
    }
settle w o l s (answers_change x) =
    record { now = s.now; memory = s.memory; worker = put s.worker w idle; fate = put s.fate o (ended (s.fate o) x s.now l); place = s.place }
settle w o l s (answers x τ j) =
    record {
      now = s.now;
      memory = s.memory;
      worker = put s.worker w idle;
      fate = put s.fate o (ended (s.fate o) x s.now l);
      place = put s.place o (observes τ j x);
    }

unfoldable pub tick : Catalogue → Catalogue
tick s = record { now = suc s.now; memory = s.memory; worker = s.worker; fate = s.fate; place = s.place }

-- ---- the calls

-- What a call comes to: its answer, and the catalogue after it, still at the same time.
pub record Move : Type 0 where
  pub answer : Answer
  pub leaves : Catalogue

abbrev pub refused : Catalogue → ℕ → Move
refused s n = record { answer = refusal n 0; leaves = s }

-- the first refusal that applies, and else the move
abbrev pub unless : Catalogue → List Refusal → Move → Move
unless s [] x = x
unless s (r ∷ rs) x = cond r.when (refused s r.number) (unless s rs x)

abbrev pub is_idle : Worker → Bool
is_idle idle = true
is_idle (busy o l ph) = false

-- what a step answers, with the lines executed
abbrev pub step_answer : List ℕ → Comes → Answer
step_answer l (goes_on ph) = running (length l)
step_answer l (ends_with n) = refusal n (length l)
step_answer l (answers_change x) = finished x (length l)
step_answer l (answers x τ j) = finished x (length l)

unfoldable pub stepped : Catalogue → ℕ → Worker → Move
stepped s w idle = refused s 5
stepped s w (busy o l ph) =
    record {
      answer = step_answer (line_number ph ∷ l) (line s.now s.memory ph).comes;
      leaves = settle w o (line_number ph ∷ l) (affect o s (line s.now s.memory ph).does) (line s.now s.memory ph).comes;
    }

abbrev pub no_worker : Catalogue → ℕ → Bool
no_worker s w = leb s.memory.limits.workers w

abbrev pub no_project : Memory → ℕ → Bool
no_project m v = leb m.limits.projects v

abbrev pub not_registered : Memory → ℕ → Bool
not_registered m i = leb m.items i

abbrev pub no_handle : Memory → ℕ → Bool
no_handle m h = leb m.camera.counter h

abbrev pub step_refusals : Catalogue → ℕ → List Refusal
step_refusals s w = no_worker s w ⇒ 3 ∷ is_idle (s.worker w) ⇒ 5 ∷ []

unfoldable pub stepping : Catalogue → ℕ → Move
stepping s w = unless s (step_refusals s w) (stepped s w (s.worker w))

unfoldable pub first_phase : Memory → Operation → Phase
first_phase m (register i v s) = line_5  -- never asked
first_phase m (v_read i) = line_37 i
first_phase m (v_cas i old new) = line_41 i old new
first_phase m take_snapshot = line_5
first_phase m (read_snapshot i h) = line_32 i h
first_phase m (total q h) = total_at q h m.items 0 0

-- refusals 6 to 9, of a start; a birth stamp is the stamp of version 0
abbrev pub start_refusals : Memory → Operation → List Refusal
start_refusals m (register i v s) = true ⇒ 1 ∷ []  -- never asked
start_refusals m (v_read i) = not_registered m i ⇒ 6 ∷ []
start_refusals m (v_cas i old new) = not_registered m i ⇒ 6 ∷ (no_project m old || no_project m new) ⇒ 7 ∷ []
start_refusals m take_snapshot = []
start_refusals m (read_snapshot i h) = not_registered m i ⇒ 6 ∷ no_handle m h ⇒ 8 ∷ ltb h ((m.item i).stamp 0) ⇒ 9 ∷ []
start_refusals m (total q h) = no_project m q ⇒ 7 ∷ no_handle m h ⇒ 8 ∷ []

unfoldable pub begun : Catalogue → ℕ → Operation → Catalogue
begun s w op =
    record {
      now = s.now;
      memory = s.memory;
      worker = put s.worker w (busy s.now [] (first_phase s.memory op));
      fate = put s.fate s.now (record { operation = op; worker = w; done = false; answer = 0; ended_at = 0; lines = []; refusal = 0 });
      place = put s.place s.now unplaced;
    }

abbrev pub worker_refusals : Catalogue → ℕ → Operation → List Refusal
worker_refusals s w op = no_worker s w ⇒ 3 ∷ not (is_idle (s.worker w)) ⇒ 4 ∷ start_refusals s.memory op

unfoldable pub starting : Catalogue → ℕ → Operation → Move
starting s w op = unless s (worker_refusals s w op) (record { answer = accepted 0; leaves = begun s w op })

unfoldable pub registered : Catalogue → (v z y : ℕ) → Catalogue
registered s v z y =
    record {
      now = s.now;
      memory = record {
        limits = s.memory.limits;
        pool = one_taken s.memory.pool;
        camera = s.memory.camera;
        items = suc s.memory.items;
        item = put s.memory.item s.memory.items (newborn s.now s.memory.camera.counter v z y);
      };
      worker = s.worker;
      fate = put s.fate s.now
          (record {
            operation = register s.memory.items v z;
            worker = 0;
            done = true;
            answer = s.memory.items;
            ended_at = s.now;
            lines = [];
            refusal = 0;
          });
      place = put s.place s.now (changes s.memory.items 0);
    }

abbrev pub register_refusals : Memory → ℕ → List Refusal
register_refusals m v = no_project m v ⇒ 7 ∷ leb m.limits.items m.items ⇒ 10 ∷ none_left (node_to_take m) ⇒ 11 ∷ []

unfoldable pub registering : Catalogue → (v z : ℕ) → Move
registering s v z =
    unless s (register_refusals s.memory v)
    (record { answer = accepted s.memory.items; leaves = registered s v z (found (node_to_take s.memory)) })

-- The node taken at 45 and not published, which goes back where its worker is abandoned.
abbrev pub held_node : Phase → Found
held_node (line_37 i) = no_node
held_node (line_39 i f j) = no_node
held_node (line_41 i old new) = no_node
held_node (line_43 i old new f j) = no_node
held_node (line_45 i old new f j) = no_node
held_node (line_46 i old new f j y) = node y
held_node (line_48 i old new j) = no_node
held_node (line_50 i old new g y) = node y
held_node (line_51 i old new g) = no_node
held_node (line_52 i old new g j) = no_node
held_node line_5 = no_node
held_node (line_6 c r) = no_node
held_node (line_32 i h) = no_node
held_node (line_34 i h f j x) = no_node
held_node (total_32 q h k i u) = no_node
held_node (total_34 q h k i u f j x) = no_node
held_node (closing q h k u) = no_node
held_node (line_20 c j) = no_node
held_node (line_21 c j) = no_node
held_node (line_22 c j n r) = no_node

abbrev pub give : Found → Effect
give no_node = nothing
give (node y) = gives_back y

abbrev pub holds_node : Phase → Bool
holds_node ph = not (none_left (held_node ph))

-- worker w, in operation o at a phase, is abandoned: it is idle, and its operation is never heard of again
unfoldable pub left_off : Catalogue → (w o : ℕ) → Phase → Catalogue
left_off s w o ph = record { now = s.now; memory = memory_after s.now o (give (held_node ph)) s.memory; worker = put s.worker w idle; fate = s.fate; place = s.place }

unfoldable pub left : Catalogue → ℕ → Worker → Move
left s w idle = refused s 5
left s w (busy o l ph) = record { answer = accepted 0; leaves = left_off s w o ph }

unfoldable pub abandoning : Catalogue → ℕ → Move
abandoning s w = unless s (step_refusals s w) (left s w (s.worker w))

-- A run has no accepted make, so a make is refused.
unfoldable pub move : Catalogue → Call → Move
move s (Call.make p m n q c) = refused s 1
move s (Call.register v z) = registering s v z
move s (Call.v_read w i) = starting s w (v_read i)
move s (Call.v_cas w i old new) = starting s w (v_cas i old new)
move s (Call.take_snapshot w) = starting s w take_snapshot
move s (Call.read_snapshot w i h) = starting s w (read_snapshot i h)
move s (Call.total w q h) = starting s w (total q h)
move s (Call.step w) = stepping s w
move s (Call.abandon w) = abandoning s w

-- the catalogue after a call, and its answer
unfoldable pub call : Catalogue → Call → Catalogue
call s x = tick (move s x).leaves

unfoldable pub reply : Catalogue → Call → Answer
reply s x = (move s x).answer

-- ---- events: what happens to the machine, one at a time. A call; or a step of a reader, who has the number P and no record, and makes vReads
-- alone. No call of today is told as a reader's events.

pub data Event : Type 0 where
  called : Call → Event
  reader_starts : (i : ℕ) → Event
  reader_steps : Event

abbrev pub reader : Catalogue → ℕ
reader s = s.memory.limits.workers

abbrev pub reader_refusals : Catalogue → ℕ → List Refusal
reader_refusals s i = not (is_idle (s.worker (reader s))) ⇒ 4 ∷ start_refusals s.memory (v_read i)

unfoldable pub event_move : Catalogue → Event → Move
event_move s (called x) = move s x
event_move s (reader_starts i) = unless s (reader_refusals s i) (record { answer = accepted 0; leaves = begun s (reader s) (v_read i) })
event_move s reader_steps = stepped s (reader s) (s.worker (reader s))

unfoldable pub happens : Catalogue → Event → Catalogue
happens s e = tick (event_move s e).leaves

-- ---- runs

abbrev pub no_item : Item
no_item =
    record {
      versions = 0;
      valid = 0;
      value = λ j. 0;
      stamp = λ j. 0;
      published_at = λ j. 0;
      effect_at = λ j. 0;
      stamped_at = λ j. 0;
      author = λ j. 0;
      node = λ j. 0;
      size = 0;
    }

unfoldable pub fresh : Limits → Catalogue
fresh limits =
    record {
      now = 0;
      memory = record {
        limits = limits;
        pool = record { used = 0; given_back = [] };
        camera = record { counter = 0; left_at = λ h. 0; mover = λ h. 0 };
        items = 0;
        item = λ i. no_item;
      };
      worker = λ w. idle;
      fate = λ o. record { operation = take_snapshot; worker = 0; done = false; answer = 0; ended_at = 0; lines = []; refusal = 0 };
      place = λ o. unplaced;
    }

-- the events, the newest first
unfoldable pub after_events : Limits → List Event → Catalogue
after_events limits [] = fresh limits
after_events limits (x ∷ es) = happens (after_events limits es) x
