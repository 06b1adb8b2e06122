-- A node has its stamp before the next node of its item is published, so the first stamp of an item after a publication is that node's. And takeSnapshots
-- that answered one number have one instant.
use Rattle.std.specs.Prelude.{◌≡◌, List, ℕ, suc, ◌<◌}
use Rattle.std.proofs.Common.{ap, subst, arith}
use Rattle.history.specs.Tools.{Split, split, Same, eq, ne, same?}
use Rattle.history.specs.Definition1.{Operation, take_snapshot}
use Rattle.history.specs.Notes.{Note, Effect, snapshot}
use Rattle.history.specs.Statements.{In, fate_of, Finished, Published, Stamped, TakeInstant, Instant, Promises}
use Rattle.history.specs.Machine.{Limits, Catalogue, Event, after_events}
use Rattle.history.proofs.Places.{Invariant}
use Rattle.history.proofs.Run.{run_right}
use Rattle.history.proofs.MachineNotes.{machine_notes}
use Rattle.history.proofs.Trace.{Stamping, Traced}
use Rattle.history.proofs.TraceRun.{traced}
use Rattle.history.proofs.Instants.{stamped_before, published_rises}

module _ (s : Catalogue) (invariant : Invariant s) (run : List Note) (T : Traced s run) where
  abbrev at_46 : (i j : ℕ) → ℕ
  at_46 i j = (s.memory.item i).published_at j

  between : (i p p' : ℕ) → Published run i p → Published run i p' → p < p' → (t : ℕ) × Stamped run i t × (p < t) × (t < p')
  between i p p' (c, v, x) (c', v', x') l = at (T.memory.publishes_only c i v p x) (T.memory.publishes_only c' i v' p' x')
    where
      at : (j : ℕ) × (suc j < (s.memory.item i).versions) × (p ≡ at_46 i (suc j)) → (j' : ℕ) × (suc j' < (s.memory.item i).versions) × (p' ≡ at_46 i (suc j')) →
          (t : ℕ) × Stamped run i t × (p < t) × (t < p')
      at (j, there, is) (j', there', is') = go (split j j')
        where
          later : j < j' → (t : ℕ) × Stamped run i t × (p < t) × (t < p')
          later o =
              let valid : suc j < (s.memory.item i).valid = omega (arith, (invariant.kept.memory.item i).one_open) in
              let S : Stamping (s.memory.item i) run i (suc j) = T.memory.stamped i j valid in (
                (s.memory.item i).stamped_at (suc j),
                (S.o, S.stored),
                omega (arith, is, S.before, (invariant.kept.memory.item i).effect_after_46 (suc j) valid),
                omega (arith, is', stamped_before invariant.kept.memory i (suc j) (suc j') (omega arith) there'),
              )

          go : Split j j' → (t : ℕ) × Stamped run i t × (p < t) × (t < p')
          go (Split.less o) = later o
          go (Split.more o) = absurd (earlier (same? j' j))
            where
              earlier : Same j' j → ⊥
              earlier (eq e) = let z : at_46 i (suc j') ≡ at_46 i (suc j) = ap (λ (k : ℕ). at_46 i (suc k)) e in omega (arith, is, is')
              earlier (ne e) = omega (arith, is, is', published_rises invariant.kept.memory i (suc j') (suc j) (omega arith) there)

-- in every run of the machine
pub stamped_first : (limits : Limits) (es : List Event) (i p p' : ℕ) → Published (machine_notes limits es) i p → Published (machine_notes limits es) i p' →
    p < p' → (t : ℕ) × Stamped (machine_notes limits es) i t × (p < t) × (t < p')
stamped_first limits es = between (after_events limits es) (run_right limits es) (machine_notes limits es) (traced limits es)

-- two takeSnapshots that answered x stand at one time in the order
pub one_instant : (run : List Note) (effects : List Effect) (P : Promises run effects) (o o' x : ℕ) → (fate_of run o).operation ≡ take_snapshot →
    (fate_of run o').operation ≡ take_snapshot → Finished run o x → Finished run o' x → P.one_order.time o ≡ P.one_order.time o'
one_instant run effects P o o' x w w' e e' = P.leaves_once x (P.one_order.time o) (P.one_order.time o') (left o w e) (left o' w' e')
  where
    left : (o : ℕ) → (fate_of run o).operation ≡ take_snapshot → Finished run o x → In (snapshot (P.one_order.time o) x) effects
    left o w e = at (subst (λ (op : Operation). Instant run o x op (P.one_order.time o)) w (P.one_order.instants o x e))
      where
        at : TakeInstant run o x (P.one_order.time o) → In (snapshot (P.one_order.time o) x) effects
        at (f, q, five, moved, next) = (P.exactly (snapshot (P.one_order.time o) x)).1 (q, moved)
