-- The nodes in use, counted from the notes, are those ever used but for those given back: so a node is left exactly when they are not all N.
use Rattle.std.specs.Prelude.{◌≡◌, ◌↔◌, not, cond, List, [], ◌∷◌}
use Rattle.std.proofs.Math.Path.{refl, subst}
use Rattle.std.proofs.Common.{ap, sym, arith}
use Prim.Native.Nat.{ℕ, suc, pred, ◌+◌, ◌≤◌, ◌<◌}
use Rattle.std.proofs.Math.Dec.{T}
use Rattle.std.proofs.Math.ListN.{length}
use Rattle.history.specs.Tools.{by_eq, by_lt, by_le}
use Rattle.history.specs.Notes.{Deed, Note, nodes_in_use}
use Rattle.history.specs.Notes as Notes
use Rattle.history.specs.Machine.{
  left_off,
  holds_node,
  held_node,
  give,
  Memory,
  Limits,
  Found,
  no_node,
  node,
  first_free,
  node_to_take,
  found,
  one_taken,
  one_returned,
  Phase,
  line_37,
  line_39,
  line_41,
  line_43,
  line_45,
  line_46,
  line_48,
  line_50,
  line_51,
  line_52,
  line_5,
  line_6,
  line_32,
  line_34,
  total_32,
  total_34,
  closing,
  line_20,
  line_21,
  line_22,
  helped_item,
  line_number,
  Effect,
  Next,
  on_45,
  line,
  memory_after,
  busy,
  Catalogue,
  affect,
  tick,
  begun,
  registered,
  register_refusals,
  none_left,
  fresh,
  Event,
  happens,
  after_events,
}
use Rattle.history.proofs.Places.{Invariant}
use Rattle.history.proofs.Run.{Passed, run_right}
use Rattle.history.proofs.NodeCount.{held_count, held_is, sum_to, sum_rises, holds, worker_holds, settle_memory, Tally, taken_count, tally}
use Rattle.history.proofs.MachineNotes.{event_note, machine_notes, phase_deed, ending, after_step, event_cases}

-- ---- one more note

-- n nodes are in use
abbrev pub Counted : Memory → ℕ → Type 0
Counted m n = n + length m.pool.given_back ≡ m.pool.used

-- the node taken by a register or at 45
one_more : (m : Memory) (n y : ℕ) → node_to_take m ≡ node y → m.pool.used ≤ m.limits.nodes → Counted m n →
    suc n + length (one_taken m.pool).given_back ≡ (one_taken m.pool).used
unfolding node_to_take one_taken
one_more m n y e p c = omega (arith, (taken_count m.pool.given_back m.pool.used m.limits.nodes y e p).0)

module _ (t o w : ℕ) (m : Memory) (run : List Note) (fits : m.pool.used ≤ m.limits.nodes) (C : Counted m (nodes_in_use run)) where
  -- what a line leaves
  abbrev Leaves : (k : ℕ) → Deed → Next → Type 0
  Leaves k d x = Counted (memory_after t o x.does m) (nodes_in_use (Notes.stepped w k d (ending x.comes) ∷ run))

  line_counts : (ph : Phase) (d : Deed) → (holds ph ≡ 1 → 0 < nodes_in_use run) → Leaves (line_number ph) d (line t m ph)
  unfolding line memory_after nodes_in_use one_returned
  line_counts (line_37 i) d h = C
  line_counts (line_39 i f j) d h = C
  line_counts (line_41 i a b) d h = C
  line_counts (line_43 i a b f j) d h =
      by_eq (Leaves 43 d) ((m.item i).value j) a (λ e. by_eq (Leaves 43 d) b a (λ q. C) (λ q. C)) (λ e. C)
  line_counts (line_45 i a b f j) d h = at (node_to_take m) refl
    where
      at : (g : Found) → node_to_take m ≡ g → Leaves 45 d (on_45 i a b f j g)
      at no_node e = C
      at (node y) e = one_more m (nodes_in_use run) y e fits C
  line_counts (line_46 i a b f j y) d h = by_eq (Leaves 46 d) (m.item i).versions (suc j) (λ e. C) (λ e. C)
  line_counts (line_48 i a b j) d h = C
  line_counts (line_50 i a b g y) d h = fewer
    where
      fewer : pred (nodes_in_use run) + suc (length m.pool.given_back) ≡ m.pool.used
      fewer = omega (arith, h refl, C)
  line_counts (line_51 i a b g) d h = C
  line_counts (line_52 i a b g j) d h = C
  line_counts line_5 d h = by_le (Leaves 5 d) m.limits.counter m.camera.counter (λ e. C) (λ e. C)
  line_counts (line_6 c r) d h = by_eq (Leaves 6 d) m.camera.counter c (λ e. C) (λ e. C)
  line_counts (line_32 i a) d h = C
  line_counts (line_34 i a f j x) d h = by_lt (Leaves 34 d) a ((m.item i).stamp x) (λ e. C) (λ e. C)
  line_counts (total_32 q a k i u) d h = C
  line_counts (total_34 q a k i u f j x) d h = C
  line_counts (closing q a k u) d h = C
  line_counts (line_20 c j) d h = C
  line_counts (line_21 c j) d h = C
  line_counts (line_22 c j n r) d h =
      by_lt (λ (e : Effect). Counted (memory_after t o e m) (nodes_in_use run)) j (m.item (helped_item c)).valid (λ e. C) (λ e. C)

-- ---- in every run

abbrev InUse : Catalogue → List Note → Type 0
InUse s run = Counted s.memory (nodes_in_use run)

module _ (s : Catalogue) (invariant : Invariant s) (Y : Tally s) (run : List Note) (C : InUse s run) where
  after_register : (v z : ℕ) → Passed (register_refusals s.memory v) →
      InUse (registered s v z (found (node_to_take s.memory))) (Notes.registered s.memory.items v z ∷ run)
  unfolding registered nodes_in_use
  after_register v z x = at (node_to_take s.memory) refl x.1.1.0
    where
      at : (g : Found) → node_to_take s.memory ≡ g → T (not (none_left g)) →
          suc (nodes_in_use run) + length (one_taken s.memory.pool).given_back ≡ (one_taken s.memory.pool).used
      at no_node e t = absurd t
      at (node y) e t = one_more s.memory (nodes_in_use run) y e Y.fits C

  -- a worker that holds a node has one in use
  held : (w o : ℕ) (l : List ℕ) (ph : Phase) → w < suc s.memory.limits.workers → s.worker w ≡ busy o l ph → holds ph ≡ 1 → 0 < nodes_in_use run
  held w o l ph b e h =
      omega (
        arith,
        C,
        Y.count,
        ap worker_holds e,
        sum_rises (λ w. worker_holds (s.worker w)) (suc w) (suc s.memory.limits.workers) b,
        last,
      )
    where
      last : sum_to (λ w. worker_holds (s.worker w)) (suc w) ≡ worker_holds (s.worker w) + sum_to (λ w. worker_holds (s.worker w)) w
      last = unfold sum_to in refl

  after_line : (w o : ℕ) (l : List ℕ) (ph : Phase) → w < suc s.memory.limits.workers → s.worker w ≡ busy o l ph → InUse (after_step s w o l ph)
      (Notes.stepped w (line_number ph) (phase_deed s.memory ph) (ending (line s.now s.memory ph).comes) ∷ run)
  unfolding affect
  after_line w o l ph b e =
      subst (λ (m : Memory). Counted m (nodes_in_use (Notes.stepped w (line_number ph) (phase_deed s.memory ph)
      (ending (line s.now s.memory ph).comes) ∷ run)))
      (sym (settle_memory w o (line_number ph ∷ l) (affect o s (line s.now s.memory ph).does) (line s.now s.memory ph).comes))
      (line_counts s.now o w s.memory run Y.fits C ph (phase_deed s.memory ph) (held w o l ph b e))

  after_abandon : (w o : ℕ) (l : List ℕ) (ph : Phase) → w < suc s.memory.limits.workers → s.worker w ≡ busy o l ph →
      InUse (left_off s w o ph) (Notes.abandoned w (holds_node ph) ∷ run)
  unfolding left_off nodes_in_use
  after_abandon w o l ph b e = at (held_node ph) (held_is ph)
    where
      fewer : 0 < nodes_in_use run → pred (nodes_in_use run) + suc (length s.memory.pool.given_back) ≡ s.memory.pool.used
      fewer p = omega (arith, C)

      at : (g : Found) → holds ph ≡ held_count g → Counted (memory_after s.now o (give g) s.memory) (cond (not (none_left g)) (pred (nodes_in_use run)) (nodes_in_use run))
      at no_node h = unfold memory_after in C
      at (node y) h = unfold memory_after one_returned in (fewer (held w o l ph b e h))

  event_counts : (e : Event) → InUse (happens s e) (event_note s e ∷ run)
  unfolding happens tick
  event_counts =
      event_cases s invariant (suc s.memory.limits.workers) (omega arith) (λ (x : Note) (s' : Catalogue). InUse (tick s') (x ∷ run))
      (λ x q. unfold nodes_in_use in C) after_register (λ w op b f p. unfold nodes_in_use begun in C) after_line after_abandon (omega arith)

pub in_use : (limits : Limits) (es : List Event) → Counted (after_events limits es).memory (nodes_in_use (machine_notes limits es))
unfolding after_events machine_notes fresh nodes_in_use
in_use limits [] = refl
in_use limits (e ∷ es) = event_counts (after_events limits es) (run_right limits es) (tally limits es) (machine_notes limits es) (in_use limits es) e

-- ---- no node is left exactly where all are in use

abbrev number : Found → ℕ
number no_node = 0
number (node y) = suc y

pub not_found : (y : ℕ) → node y ≡ no_node → ⊥
not_found y e = let z : ◌≡◌ {A = ℕ} (suc y) 0 = ap number e in omega arith

none_free : (l : List ℕ) (used nodes n : ℕ) → n + length l ≡ used → used ≤ nodes → (first_free l used nodes ≡ no_node) ↔ (n ≡ nodes)
unfolding first_free
none_free [] used nodes n e p = by_lt (λ (g : Found). (g ≡ no_node) ↔ (n ≡ nodes)) used nodes
    (λ q. (λ z. absurd (not_found used z), λ z. absurd (omega arith))) (λ q. (λ z. omega arith, λ z. refl))
none_free (y ∷ l) used nodes n e p = (λ z. absurd (not_found y z), λ z. absurd (omega arith))

pub none_left_exactly : (s : Catalogue) → Tally s → (n : ℕ) → Counted s.memory n →
    (node_to_take s.memory ≡ no_node) ↔ (n ≡ s.memory.limits.nodes)
unfolding node_to_take
none_left_exactly s Y n C = none_free s.memory.pool.given_back s.memory.pool.used s.memory.limits.nodes n C Y.fits
