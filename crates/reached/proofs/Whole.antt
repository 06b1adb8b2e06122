-- The cells as the image of the machine's whole state, and that a call on either is a call on both.
use Rattle.std.specs.Prelude.{ℕ, suc, ◌<◌, ◌≤◌, List, [], ◌∷◌, ◌≡◌, length}
use Rattle.std.proofs.Common.{sym, ◌∙◌, subst, arith}
use Rattle.definitions.specs.Cells.{Cell, Cells, workers, items_limit, nodes_limit, projects, counter_limit, counter, items, used, given_back, phase, steps, item, old, new, handle, project, noted, node, new_node, seen, sum_low, sum_high, head, birth, size, value, older, stamp}
use Rattle.definitions.specs.Answers.{Outcome}
use Rattle.definitions.specs.Calls.{Call}
use Rattle.cells.specs.Stands.{Stands}
use Rattle.cells.specs.Update.{after, Proper}
use Rattle.history.specs.Machine.{Phase, Item, Memory, Limits, Worker, idle, busy, Catalogue, call, reply}
use Rattle.reached.specs.Parts.{Shared, Local, shared_of, local_of}
use Rattle.reached.specs.Grows.{MemoryWell, Known}
use Rattle.reached.specs.Effects.{grows_refl}
use Rattle.reached.specs.Image.{Owner, held, Chain, SharedImage, NodesFit, WorkerImage, Holds}
use Rattle.reached.proofs.Nodes.{version_below, waits_below, held_below}
use Rattle.reached.proofs.Ready.{HeaderImage}
use Rattle.reached.proofs.Holding.{StaysHeld, holds_frame}
use Rattle.reached.proofs.Homes.{SharedHomes, WorkerHolding}

-- Document 01's ranges of P, M, N, Q and C.
pub record LimitsFit (l : Limits) : Type 0 where
  pub workers_in : (1 ≤ l.workers) × (l.workers ≤ 64)
  pub items_in : (1 ≤ l.items) × (l.items ≤ 256)
  pub nodes_in : (1 ≤ l.nodes) × (l.nodes ≤ 4096)
  pub projects_in : (1 ≤ l.projects) × (l.projects ≤ 256)
  pub counter_in : (1 ≤ l.counter) × (l.counter ≤ 4294967294)

abbrev pub WorkerKnown : Memory → Worker → Type 0
WorkerKnown m idle = Unit {0}
WorkerKnown m (busy o l ph) = Known m ph

abbrev pub WorkerHolds : (ℕ → Owner) → Shared → (ℕ → Item) → ℕ → Worker → Type 0
WorkerHolds own s its w idle = Unit {0}
WorkerHolds own s its w (busy o l ph) = Holds own s its w ph

-- No running operation has taken more than 5,120 steps.
abbrev pub FewSteps : (ℕ → Worker) → Type 0
FewSteps worker = (w o : ℕ) (l : List ℕ) (ph : Phase) → worker w ≡ busy o l ph → length l ≤ 5120

pub record StateImage (f : Cells) (m : Memory) (worker : ℕ → Worker) : Type 0 where
  pub own : ℕ → Owner
  pub limits_fit : LimitsFit m.limits
  pub header : HeaderImage f m.limits
  pub shared : SharedImage m (shared_of f) own
  pub nodes : NodesFit m (shared_of f)
  pub well : MemoryWell m
  pub worker_is : (w : ℕ) → w < m.limits.workers → WorkerImage m.item (local_of f w) (worker w)
  pub known : (w : ℕ) → w < m.limits.workers → WorkerKnown m (worker w)
  pub holds : (w : ℕ) → w < m.limits.workers → WorkerHolds own (shared_of f) m.item w (worker w)
  pub homes : SharedHomes m own
  pub held_home : (y w : ℕ) → own y ≡ held w → (w < m.limits.workers) × WorkerHolding (worker w) y

abbrev pub CatalogueImage : Cells → Catalogue → Type 0
CatalogueImage f s = StateImage f s.memory s.worker

-- A call on the cells is the same call on the machine: the answers agree, every assignment is proper, and the cells after it are the image of the state after it.
pub record CallImage (f : Cells) (s : Catalogue) (x : Call) (out : Outcome) : Type 0 where
  pub answer_is : out.answer ≡ reply s x
  pub proper : Proper s.memory.limits.workers s.memory.limits.items s.memory.limits.nodes out.writes
  pub image : CatalogueImage (after f out.writes) (call s x)

-- ---- only the cells that stand matter

-- Two functions that agree on the cells that stand in a catalogue of these limits.
abbrev pub Agree : Limits → Cells → Cells → Type 0
Agree l f g = (c : Cell) → Stands l.workers l.items l.nodes c → g c ≡ f c

module _ (f g : Cells) (m : Memory) (A : Agree m.limits f g) where
  header_agree : HeaderImage f m.limits → HeaderImage g m.limits
  header_agree h = record {
    workers_are = A workers (omega arith) ∙ h.workers_are;
    items_are = A items_limit (omega arith) ∙ h.items_are;
    nodes_are = A nodes_limit (omega arith)
        ∙ h.nodes_are;
    projects_are = A projects (omega arith) ∙ h.projects_are;
    limit_is = A counter_limit (omega arith) ∙ h.limit_is;
  }

  local_agree : (w : ℕ) → w < m.limits.workers → local_of g w ≡ local_of f w
  local_agree w l =
      rw (
        A (phase w) l,
        A (steps w) l,
        A (item w) l,
        A (old w) l,
        A (new w) l,
        A (handle w) l,
        A (project w) l,
        A (noted w) l,
        A (node w) l,
        A (new_node w) l,
        A (seen w) l,
        A (sum_low w) l,
        A (sum_high w) l,
      )

  nodes_agree : NodesFit m (shared_of f) → NodesFit m (shared_of g)
  nodes_agree N = record {
    value_in = λ y l. rw (A (value y) l) (N.value_in y l);
    older_in = λ y l. rw (A (older y) l, A used (omega arith)) (N.older_in y l);
    stamp_in = λ y l. rw (A (stamp y) l, A counter (omega arith)) (N.stamp_in y l);
  }

  module _ (own : ℕ → Owner) (S : SharedImage m (shared_of f) own) (W : MemoryWell m) where
    chain_agree : (first : ℕ) (l : List ℕ) → Chain own (λ (y : ℕ). f (older y)) first l → Chain own (λ (y : ℕ). g (older y)) first l
    chain_agree first [] c = c
    chain_agree first (y ∷ l) c = (
      c.0,
      c.1,
      subst (λ (z : ℕ). Chain own (λ (y : ℕ). g (older y)) z l)
          (sym (A (older y) (omega (arith, S.used_in, waits_below m (shared_of f) own S y (length l) c.1)))) (chain_agree (f (older y)) l c.2),
    )

    item_in : (i : ℕ) → i < m.items → i < m.limits.items
    item_in i l = omega (arith, W.items_in)

    node_in : (i j : ℕ) → i < m.items → j < (m.item i).versions → (m.item i).node j < m.limits.nodes
    node_in i j l p = omega (arith, S.used_in, version_below m (shared_of f) own S i j l p)

    some : (i : ℕ) → i < m.items → 0 < (m.item i).versions
    some i l = omega (arith, (W.item_well i l).some, (W.item_well i l).few)

    shared_agree : SharedImage m (shared_of g) own
    shared_agree = record {
      counter_is = A counter (omega arith) ∙ S.counter_is;
      items_are = A items (omega arith) ∙ S.items_are;
      used_are = A used (omega arith) ∙ S.used_are;
      used_in = S.used_in;
      chain = subst (λ (z : ℕ). Chain own (λ (y : ℕ). g (older y)) z m.pool.given_back) (sym (A given_back (omega arith)))
          (chain_agree (f given_back) m.pool.given_back S.chain);
      head_is = λ i l. A (head i) (item_in i l) ∙ S.head_is i l;
      birth_is = λ i l. A (birth i) (item_in i l) ∙ S.birth_is i l;
      size_is = λ i l. A (size i) (item_in i l) ∙ S.size_is i l;
      value_is = λ i j l p. A (value ((m.item i).node j)) (node_in i j l p) ∙ S.value_is i j l p;
      valid_stamp = λ i j l p. A (stamp ((m.item i).node j)) (node_in i j l (omega (arith, (W.item_well i l).few))) ∙ S.valid_stamp i j l p;
      no_stamp = λ i j l p q. A (stamp ((m.item i).node j)) (node_in i j l q) ∙ S.no_stamp i j l p q;
      older_is = λ i j l p. A (older ((m.item i).node (suc j))) (node_in i (suc j) l p) ∙ S.older_is i j l p;
      oldest = λ i l. A (older ((m.item i).node 0)) (node_in i 0 l (some i l)) ∙ S.oldest i l;
      owner = S.owner;
      rest = S.rest;
    }

    held_agree : (w y : ℕ) → own y ≡ held w → StaysHeld own own (shared_of f) (shared_of g) y w
    held_agree w y h =
        record { owner_same = h; value_same = A (value y) there; older_same = A (older y) there; stamp_same = A (stamp y) there }
      where
        there : y < m.limits.nodes
        there = omega (arith, S.used_in, held_below m (shared_of f) own S y w h)

    holds_agree : (w : ℕ) (v : Worker) → WorkerKnown m v → WorkerHolds own (shared_of f) m.item w v → WorkerHolds own (shared_of g) m.item w v
    holds_agree w idle k h = tt
    holds_agree w (busy o l ph) k h = holds_frame own own (shared_of f) (shared_of g) (grows_refl m) W w (held_agree w) ph k h

pub image_agree : (f g : Cells) (s : Catalogue) → Agree s.memory.limits f g → CatalogueImage f s → CatalogueImage g s
image_agree f g s A Z = record {
  own = Z.own;
  limits_fit = Z.limits_fit;
  header = header_agree f g s.memory A Z.header;
  shared = shared_agree f g s.memory A Z.own Z.shared Z.well;
  nodes = nodes_agree f g s.memory A Z.nodes;
  well = Z.well;
  worker_is = λ w l. subst (λ (x : Local). WorkerImage s.memory.item x (s.worker w)) (sym (local_agree f g s.memory A w l)) (Z.worker_is w l);
  known = Z.known;
  holds = λ w l. holds_agree f g s.memory A Z.own Z.shared Z.well w (s.worker w) (Z.known w l) (Z.holds w l);
  homes = Z.homes;
  held_home = Z.held_home;
}
