-- The machine of versions accepts a register exactly when its value is a project and there is room for an item and a node.
use Rattle.std.proofs.Math.Path.{◌≡◌, ap}
use Rattle.std.specs.Prelude.{refl, ◌↔◌, not, List, ℕ, ◌<◌, T, length}
use Rattle.std.proofs.Common.{sym, subst, arith}
use Rattle.std.proofs.Math.Dec.{nleb→lt}
use Rattle.definitions.specs.Answers.{accepted}
use Rattle.definitions.specs.Calls.{Call}
use Rattle.history.specs.Tools.{Split, split, Same, eq, ne, same?}
use Rattle.history.specs.Notes.{Note, if_accepted, nodes_in_use}
use Rattle.history.specs.Notes as Notes
use Rattle.history.specs.NoteParts.{note_tag}
use Rattle.history.specs.Demands.{items_now}
use Rattle.history.specs.Effects.{effects}
use Rattle.history.specs.Machine.{
  Event,
  Limits,
  Found,
  no_node,
  node,
  node_to_take,
  none_left,
  found,
  Catalogue,
  Move,
  register_refusals,
  registered,
  registering,
  move,
  reply,
  after_events,
}
use Rattle.history.proofs.Places.{Invariant}
use Rattle.history.proofs.Run.{Passed, run_right}
use Rattle.history.proofs.NodeCount.{Tally, tally, limits_kept}
use Rattle.history.proofs.MachineNotes.{machine_note, machine_notes}
use Rattle.history.proofs.LedgerRight.{Agrees, agrees}
use Rattle.history.proofs.EffectsRun.{Effected, effected}
use Rattle.history.proofs.BornItems.{known_items, born_in_turn}
use Rattle.history.proofs.Accepts.{unless_passed, passed_unless, above, registered_born}
use Rattle.history.proofs.NodesInUse.{Counted, not_found, none_left_exactly, in_use}

-- the items that the effects tell of are those registered
pub items_told : (s : Catalogue) → Invariant s → (run : List Note) → Agrees s run → Effected s run → items_now run (effects run) ≡ s.memory.items
items_told s invariant run A E = at (split (items_now run (effects run)) s.memory.items)
  where
    at : Split (items_now run (effects run)) s.memory.items → items_now run (effects run) ≡ s.memory.items
    at (Split.less p) = absurd (omega (
      arith,
      (born_in_turn s invariant run E (items_now run (effects run)) (length run)).0
          (registered_born s invariant run A E (items_now run (effects run)) p),
    ))
    at (Split.more p) = omega (arith, (known_items s invariant run E (length run)).0)

module _ (s : Catalogue) (Y : Tally s) (run : List Note) (C : Counted s.memory (nodes_in_use run)) where
  -- a node is left exactly where not all are in use
  pub node_left : T (not (none_left (node_to_take s.memory))) ↔ (nodes_in_use run < s.memory.limits.nodes)
  node_left = at (node_to_take s.memory) (none_left_exactly s Y (nodes_in_use run) C)
    where
      at : (g : Found) → (g ≡ no_node) ↔ (nodes_in_use run ≡ s.memory.limits.nodes) →
          T (not (none_left g)) ↔ (nodes_in_use run < s.memory.limits.nodes)
      at no_node x = (λ t. absurd t, λ p. absurd (omega (arith, x.0 refl)))
      at (node y) x = (λ t. below (same? (nodes_in_use run) s.memory.limits.nodes), λ p. tt)
        where
          below : Same (nodes_in_use run) s.memory.limits.nodes → nodes_in_use run < s.memory.limits.nodes
          below (eq e) = absurd (not_found y (x.1 e))
          below (ne e) = omega (arith, C, Y.fits)

  -- a register passes its refusals, and is noted so
  abbrev Room : ℕ → Type 0
  Room v = (v < s.memory.limits.projects) × (s.memory.items < s.memory.limits.items) × (nodes_in_use run < s.memory.limits.nodes)

  passed_exactly : (v : ℕ) → Passed (register_refusals s.memory v) ↔ Room v
  passed_exactly v = (
    λ x. (
      nleb→lt s.memory.limits.projects v x.0,
      nleb→lt s.memory.limits.items s.memory.items x.1.0,
      node_left.0 x.1.1.0,
    ),
    λ y. (above s.memory.limits.projects v y.0, (above s.memory.limits.items s.memory.items y.1, (node_left.1 y.2, tt))),
  )

  register_note : (v z : ℕ) → (machine_note s (Call.register v z) ≡ Notes.registered s.memory.items v z) ↔ Room v
  unfolding machine_note reply move registering
  register_note v z = (
    λ e. (passed_exactly v).0 (passed_unless s (register_refusals s.memory v) goes (λ i. Notes.registered i v z)
        (Notes.registered s.memory.items v z) (λ q. let z : ◌≡◌ {A = ℕ} 1 0 = ap note_tag q in omega arith) e),
    λ y. ap (λ (x : Move). if_accepted x.answer (Notes.registered x.answer.value v z))
        (unless_passed s (register_refusals s.memory v) goes ((passed_exactly v).1 y)),
  )
    where
      goes : Move
      goes = record { answer = accepted s.memory.items; leaves = registered s v z (found (node_to_take s.memory)) }

-- in every run of the machine
module _ (limits : Limits) (es : List Event) where
  abbrev s : Catalogue
  s = after_events limits es

  abbrev run : List Note
  run = machine_notes limits es

  abbrev known : ℕ
  known = items_now run (effects run)

  pub registers : (v z : ℕ) → (machine_note s (Call.register v z) ≡ Notes.registered known v z) ↔
      ((v < limits.projects) × (known < limits.items) × (nodes_in_use run < limits.nodes))
  registers v z =
      subst (λ (k : ℕ). (machine_note s (Call.register v z) ≡ Notes.registered k v z) ↔ ((v < limits.projects) × (k < limits.items)
      × (nodes_in_use run < limits.nodes))) (sym (items_told s (run_right limits es) run (agrees limits es) (effected limits es)))
      (subst (λ (y : Limits). (machine_note s (Call.register v z) ≡ Notes.registered s.memory.items v z) ↔ ((v < y.projects)
      × (s.memory.items < y.items) × (nodes_in_use run < y.nodes))) (limits_kept limits es)
      (register_note s (tally limits es) run (in_use limits es) v z))
