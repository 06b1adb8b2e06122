-- Line 45 ends with number 11 exactly where all nodes are in use, and line 5 with 12 exactly where the counter has left its last handle.
use Rattle.std.specs.Prelude.{◌≡◌, ◌≢◌, ◌↔◌, List, ℕ, pred, ◌≤◌, ◌<◌}
use Rattle.std.proofs.Math.Path.{refl}
use Rattle.std.proofs.Common.{ap, subst, arith}
use Rattle.definitions.specs.Calls.{Call}
use Rattle.history.specs.Tools.{by_le}
use Rattle.history.specs.Notes.{Deed, Ending, Note, nodes_in_use, snapshot}
use Rattle.history.specs.Notes as Notes
use Rattle.history.specs.NoteParts.{ending_tag, note_tag, note_line, note_ending}
use Rattle.history.specs.Statements.{In}
use Rattle.history.specs.Effects.{effects}
use Rattle.history.specs.Machine.{
  Memory,
  Limits,
  Found,
  no_node,
  node,
  node_to_take,
  Phase,
  line_37,
  line_39,
  line_41,
  line_43,
  line_45,
  line_46,
  line_48,
  line_50,
  line_51,
  line_52,
  line_5,
  line_6,
  line_32,
  line_34,
  total_32,
  total_34,
  closing,
  line_20,
  line_21,
  line_22,
  line_number,
  Next,
  on_45,
  line,
  Catalogue,
  Event,
  after_events,
}
use Rattle.history.proofs.Places.{Invariant}
use Rattle.history.proofs.Run.{run_right}
use Rattle.history.proofs.NodeCount.{tally, limits_kept}
use Rattle.history.proofs.MachineNotes.{machine_note, machine_notes, ending, call_cases}
use Rattle.history.proofs.EffectsRight.{left_then}
use Rattle.history.proofs.EffectsRun.{effected}
use Rattle.history.proofs.NodesInUse.{not_found, none_left_exactly, in_use}

-- ---- how a line ends, by the memory before it

record Ends (m : Memory) (k : ℕ) (e : Ending) : Type 0 where
  pub at_45 : k ≡ 45 → (e ≡ Notes.ends_with 11) ↔ (node_to_take m ≡ no_node)
  pub at_5 : k ≡ 5 → (e ≡ Notes.ends_with 12) ↔ (m.limits.counter ≤ m.camera.counter)

goes_not : (number : ℕ) → Notes.goes_on ≢ Notes.ends_with number
goes_not number q = let z : ◌≡◌ {A = ℕ} 0 2 = ap ending_tag q in omega arith

module _ (t : ℕ) (m : Memory) where
  other : (k : ℕ) (e : Ending) → k ≢ 45 → k ≢ 5 → Ends m k e
  other k e p q = record { at_45 = λ z. absurd (p z); at_5 = λ z. absurd (q z) }

  line_ends : (ph : Phase) → Ends m (line_number ph) (ending (line t m ph).comes)
  line_ends (line_37 i) = other 37 _ (omega arith) (omega arith)
  line_ends (line_39 i f j) = other 39 _ (omega arith) (omega arith)
  line_ends (line_41 i a b) = other 41 _ (omega arith) (omega arith)
  line_ends (line_43 i a b f j) = other 43 _ (omega arith) (omega arith)
  line_ends (line_45 i a b f j) = record { at_45 = λ z. unfold line in (at (node_to_take m)); at_5 = λ z. absurd (omega arith) }
    where
      at : (g : Found) → (ending (on_45 i a b f j g).comes ≡ Notes.ends_with 11) ↔ (g ≡ no_node)
      at no_node = (λ e. refl, λ e. refl)
      at (node y) = (λ e. absurd (goes_not 11 e), λ e. absurd (not_found y e))
  line_ends (line_46 i a b f j y) = other 46 _ (omega arith) (omega arith)
  line_ends (line_48 i a b j) = other 48 _ (omega arith) (omega arith)
  line_ends (line_50 i a b g y) = other 50 _ (omega arith) (omega arith)
  line_ends (line_51 i a b g) = other 51 _ (omega arith) (omega arith)
  line_ends (line_52 i a b g j) = other 52 _ (omega arith) (omega arith)
  line_ends line_5 = record {
    at_45 = λ z. absurd (omega arith);
    at_5 = λ z. unfold line in
        (by_le (λ (x : Next). (ending x.comes ≡ Notes.ends_with 12) ↔ (m.limits.counter ≤ m.camera.counter)) m.limits.counter
        m.camera.counter (λ p. (λ e. p, λ q. refl)) (λ p. (λ e. absurd (goes_not 12 e), λ q. absurd (omega arith))));
  }
  line_ends (line_6 c r) = other 6 _ (omega arith) (omega arith)
  line_ends (line_32 i h) = other 32 _ (omega arith) (omega arith)
  line_ends (line_34 i h f j x) = other 34 _ (omega arith) (omega arith)
  line_ends (total_32 q h k i u) = other 32 _ (omega arith) (omega arith)
  line_ends (total_34 q h k i u f j x) = other 34 _ (omega arith) (omega arith)
  line_ends (closing q h k u) = other 0 _ (omega arith) (omega arith)
  line_ends (line_20 c j) = other 20 _ (omega arith) (omega arith)
  line_ends (line_21 c j) = other 21 _ (omega arith) (omega arith)
  line_ends (line_22 c j n r) = other 22 _ (omega arith) (omega arith)

-- a step's note tells how its line ends
note_ends : (s : Catalogue) → Invariant s → (c : Call) (w k : ℕ) (d : Deed) (e : Ending) → machine_note s c ≡ Notes.stepped w k d e →
    Ends s.memory k e
note_ends s invariant c w k d e =
    call_cases s invariant s.memory.limits.workers (omega arith) (λ (x : Note) (s' : Catalogue). x ≡ Notes.stepped w k d e → Ends s.memory k e)
    (λ x _ q. let z : ◌≡◌ {A = ℕ} 0 3 = ap note_tag q in absurd (omega arith))
    (λ v z p q. let z : ◌≡◌ {A = ℕ} 1 3 = ap note_tag q in absurd (omega arith))
    (λ w' op b f p q. let z : ◌≡◌ {A = ℕ} 2 3 = ap note_tag q in absurd (omega arith))
    (λ w' o l ph b is q. subst (λ (k : ℕ). Ends s.memory k e) (ap note_line q)
    (subst (λ (e : Ending). Ends s.memory (line_number ph) e) (ap note_ending q) (line_ends s.now s.memory ph)))
    (λ w' o l ph b is q. let z : ◌≡◌ {A = ℕ} 4 3 = ap note_tag q in absurd (omega arith)) c

-- ---- in every run

module _ (limits : Limits) (es : List Event) where
  abbrev s : Catalogue
  s = after_events limits es

  abbrev run : List Note
  run = machine_notes limits es

  pub ends_45 : (c : Call) (w : ℕ) (d : Deed) (e : Ending) → machine_note s c ≡ Notes.stepped w 45 d e →
      (e ≡ Notes.ends_with 11) ↔ (nodes_in_use run ≡ limits.nodes)
  ends_45 c w d e z = (λ q. x.0 (ends.0 q), λ q. ends.1 (x.1 q))
    where
      ends : (e ≡ Notes.ends_with 11) ↔ (node_to_take s.memory ≡ no_node)
      ends = (note_ends s (run_right limits es) c w 45 d e z).at_45 refl

      x : (node_to_take s.memory ≡ no_node) ↔ (nodes_in_use run ≡ limits.nodes)
      x = subst (λ (y : Limits). (node_to_take s.memory ≡ no_node) ↔ (nodes_in_use run ≡ y.nodes)) (limits_kept limits es)
          (none_left_exactly s (tally limits es) (nodes_in_use run) (in_use limits es))

  same_limit : s.memory.limits.counter ≡ limits.counter
  same_limit = ap (λ (y : Limits). y.counter) (limits_kept limits es)

  -- a handle in the list of effects is below the counter, and so below the limit
  counted : (h t : ℕ) → In (snapshot t h) (effects run) → h < s.memory.camera.counter
  counted h t a = (left_then s.memory h t ((effected limits es).memory.only (snapshot t h) a)).0

  pub below_limit : (h t : ℕ) → In (snapshot t h) (effects run) → h < limits.counter
  below_limit h t a = omega (arith, counted h t a, (tally limits es).within, same_limit)

  -- the counter has left the last handle exactly where it has reached its limit
  pub ends_5 : 0 < limits.counter → (c : Call) (w : ℕ) (d : Deed) (e : Ending) → machine_note s c ≡ Notes.stepped w 5 d e →
      (e ≡ Notes.ends_with 12) ↔ ((t : ℕ) × In (snapshot t (pred limits.counter)) (effects run))
  ends_5 some c w d e z = (λ q. there (ends.0 q), λ y. ends.1 (omega (arith, counted (pred limits.counter) y.0 y.1, same_limit)))
    where
      ends : (e ≡ Notes.ends_with 12) ↔ (s.memory.limits.counter ≤ s.memory.camera.counter)
      ends = (note_ends s (run_right limits es) c w 5 d e z).at_5 refl

      there : s.memory.limits.counter ≤ s.memory.camera.counter → (t : ℕ) × In (snapshot t (pred limits.counter)) (effects run)
      there p = (
        s.memory.camera.left_at (pred limits.counter),
        (effected limits es).memory.snapshots (pred limits.counter) (omega (arith, same_limit)),
      )
