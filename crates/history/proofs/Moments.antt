-- The step that ended an operation, and the call that registered an item, are in the notes at the time the machine keeps.
use Rattle.std.specs.Prelude.{◌≡◌, ◌⊎◌, List, [], ◌∷◌, length, get_or}
use Rattle.std.proofs.Math.Path.{refl, sym, subst}
use Rattle.std.proofs.Common.{ap, ap₂, ◌∙◌, true≢false, arith}
use Rattle.std.proofs.Math.Logic.{inl, inr}
use Rattle.std.proofs.Math.Bool.{true, false}
use Prim.Native.Nat.{ℕ, suc, ◌<◌}
use Rattle.history.specs.Tools.{put, put_all, put_same, put_other, Same, eq, ne, same?}
use Rattle.history.specs.Definition1.{Follows}
use Rattle.history.specs.Notes.{Deed, Note, ledger}
use Rattle.history.specs.Notes as Notes
use Rattle.history.specs.Statements.{Executed}
use Rattle.history.specs.Machine.{
  left_off,
  holds_node,
  Entry,
  ended,
  turned_away,
  Item,
  Memory,
  Limits,
  found,
  node_to_take,
  Operation,
  take_snapshot,
  Phase,
  line_number,
  Comes,
  goes_on,
  ends_with,
  answers_change,
  answers,
  line,
  memory_after,
  newborn,
  Worker,
  busy,
  Catalogue,
  settle,
  affect,
  tick,
  begun,
  registered,
  fresh,
  Event,
  happens,
  after_events,
}
use Rattle.history.specs.Machine as Machine
use Rattle.history.specs.Facts.{Later}
use Rattle.history.proofs.Changes.{effect_later}
use Rattle.history.proofs.RightAnswers.{phase_operation, has_published, LineRight}
use Rattle.history.proofs.EachLine.{every_line}
use Rattle.history.proofs.Places.{InOperation, WorkerRight, Invariant}
use Rattle.history.proofs.Run.{run_right}
use Rattle.history.proofs.NodeCount.{settle_memory}
use Rattle.history.proofs.OrderShown.{operation_tag}
use Rattle.history.proofs.Step.{left_alone, left_later}
use Rattle.history.proofs.MachineNotes.{event_note, machine_notes, phase_deed, ending, after_step, event_cases}
use Rattle.history.proofs.LedgerRight.{InLedger, Agrees, agrees}
use Rattle.history.proofs.Trace.{executed_more}

-- a register ended in its own call; another operation with the step that executed its last line
abbrev pub Ended : List Note → ℕ → Entry → Type 0
Ended run o f = (operation_tag f.operation ≡ 0) ⊎ ((d : Deed) × Executed run o (get_or f.lines 0 0) d f.ended_at)

-- an item with the call that registered it
pub record BornBy (it : Item) (run : List Note) (i : ℕ) : Type 0 where
  pub past : List Note
  pub noted : Follows (Notes.registered i (it.value 0) it.size) past run
  pub at : length past ≡ it.effect_at 0

pub record Moments (s : Catalogue) (run : List Note) : Type 0 where
  pub ends : (o : ℕ) → (s.fate o).done ≡ true → Ended run o (s.fate o)
  pub births : (i : ℕ) → i < s.memory.items → BornBy (s.memory.item i) run i

ended_more : (run : List Note) (x : Note) (o : ℕ) (f : Entry) → Ended run o f → Ended (x ∷ run) o f
ended_more run x o f (inl e) = inl e
ended_more run x o f (inr (d, e)) = inr (d, executed_more x e)

module _ (s : Catalogue) (invariant : Invariant s) (run : List Note) (A : Agrees s run) (M : Moments s run) where
  -- births in a later memory with no new item
  born_more : (x : Note) (m' : Memory) → Later s.now s.memory m' → m'.items ≡ s.memory.items → (i : ℕ) → i < m'.items →
      BornBy (m'.item i) (x ∷ run) i
  born_more x m' L e i p =
      record {
        past = b.past;
        at = b.at ∙ sym ((L.item i).effect_at 0 good);
        noted = inr (subst (λ (y : Note). Follows y b.past run)
            (ap₂ (λ (v z : ℕ). Notes.registered i v z) (sym ((L.item i).value 0 there)) (sym ((L.item i).size there))) b.noted);
      }
    where
      b : BornBy (s.memory.item i) run i
      b = M.births i (omega arith)

      good : 0 < (s.memory.item i).valid
      good = invariant.kept.memory.registered i (omega arith)

      there : 0 < (s.memory.item i).versions
      there = omega (arith, good, (invariant.kept.memory.item i).valid_published)

  stay : Later s.now s.memory s.memory
  unfolding memory_after
  stay = effect_later invariant.kept.memory 0 take_snapshot false Machine.nothing tt

  after_quiet : (x : Notes.Look) → Moments (tick s) (Notes.quiet x ∷ run)
  unfolding tick
  after_quiet x = record { ends = λ o d. ended_more run (Notes.quiet x) o (s.fate o) (M.ends o d); births = born_more (Notes.quiet x) s.memory stay refl }

  after_abandon : (w o : ℕ) (ph : Phase) → Moments (tick (left_off s w o ph)) (Notes.abandoned w (holds_node ph) ∷ run)
  unfolding tick
  after_abandon w o ph = record {
    ends = unfold left_off in (λ q d. ended_more run (Notes.abandoned w (holds_node ph)) q (s.fate q) (M.ends q d));
    births = born_more (Notes.abandoned w (holds_node ph)) (left_off s w o ph).memory (left_later s invariant w o ph) (left_alone s w o ph).items;
  }

  after_start : (w : ℕ) (op : Operation) → Moments (tick (begun s w op)) (Notes.started w op ∷ run)
  unfolding tick begun
  after_start w op =
      record {
        ends = λ q. put_all (λ (q : ℕ) (f : Entry). f.done ≡ true → Ended (Notes.started w op ∷ run) q f) s.fate s.now _ q
            (λ e d. absurd (true≢false (sym d))) (λ e d. ended_more run _ q (s.fate q) (M.ends q d));
        births = born_more (Notes.started w op) s.memory stay refl;
      }

  after_register : (v z y : ℕ) → Moments (tick (registered s v z y)) (Notes.registered s.memory.items v z ∷ run)
  unfolding tick registered
  after_register v z y =
      record {
        ends = λ q. put_all (λ (q : ℕ) (f : Entry). f.done ≡ true → Ended (x ∷ run) q f) s.fate s.now _ q (λ e d. inl refl)
            (λ e d. ended_more run x q (s.fate q) (M.ends q d));
        births = λ i p. at i p (same? i s.memory.items);
      }
    where
      x : Note
      x = Notes.registered s.memory.items v z

      m' : Memory
      m' = (registered s v z y).memory

      it : Item
      it = newborn s.now s.memory.camera.counter v z y

      at : (i : ℕ) → i < suc s.memory.items → Same i s.memory.items → BornBy (put s.memory.item s.memory.items it i) (x ∷ run) i
      at i p (eq e) =
          subst (λ (it : Item). BornBy it (x ∷ run) i) (sym (put_same s.memory.item s.memory.items it i e))
          (record { past = run; noted = inl (ap (λ (i : ℕ). Notes.registered i v z) e, refl); at = sym A.now })
      at i p (ne e) =
          subst (λ (it : Item). BornBy it (x ∷ run) i) (sym (put_other s.memory.item s.memory.items it i e))
          (record { past = (M.births i (omega arith)).past; noted = inr (M.births i (omega arith)).noted; at = (M.births i (omega arith)).at })

  module _ (w o : ℕ) (l : List ℕ) (ph : Phase) (is : s.worker w ≡ busy o l ph) where
    cur : (ledger run).current w ≡ o
    cur = let k : InLedger (ledger run) w (busy o l ph) = subst (λ (y : Worker). InLedger (ledger run) w y) is (A.worker w) in k.0

    here : (d : Deed) (e : Notes.Ending) → Executed (Notes.stepped w (line_number ph) d e ∷ run) o (line_number ph) d s.now
    here d e = record { past = run; w = w; e = e; noted = inl (refl, refl); its = cur; at = sym A.now }

    old_ends : (x : Note) (q : ℕ) → (s.fate q).done ≡ true → Ended (x ∷ run) q (s.fate q)
    old_ends x q d = ended_more run x q (s.fate q) (M.ends q d)

    -- the operation o ends
    new_ends : (x : ℕ) (d : Deed) (e : Notes.Ending) (q : ℕ) → (put s.fate o (ended (s.fate o) x s.now (line_number ph ∷ l)) q).done ≡ true →
        Ended (Notes.stepped w (line_number ph) d e ∷ run) q (put s.fate o (ended (s.fate o) x s.now (line_number ph ∷ l)) q)
    unfolding ended
    new_ends x d e q =
        put_all (λ (q : ℕ) (f : Entry). f.done ≡ true → Ended (Notes.stepped w (line_number ph) d e ∷ run) q f) s.fate o
        (ended (s.fate o) x s.now (line_number ph ∷ l)) q
        (λ z t. inr (d, subst (λ (q : ℕ). Executed (Notes.stepped w (line_number ph) d e ∷ run) q (line_number ph) d s.now) (sym z) (here d e)))
        (λ z t. old_ends _ q t)

    step_ends : (m : Machine.Effect) (d : Deed) (u : Comes) (q : ℕ) → ((tick (settle w o (line_number ph ∷ l) (affect o s m) u)).fate q).done ≡ true →
        Ended (Notes.stepped w (line_number ph) d (ending u) ∷ run) q ((tick (settle w o (line_number ph ∷ l) (affect o s m) u)).fate q)
    unfolding tick settle affect turned_away
    step_ends m d (goes_on ph') q t = old_ends _ q t
    step_ends m d (answers_change x) q t = new_ends x d (Notes.answers x) q t
    step_ends m d (answers x τ j) q t = new_ends x d (Notes.answers x) q t
    step_ends m d (ends_with n) q t =
        put_all (λ (q : ℕ) (f : Entry). f.done ≡ true → Ended (Notes.stepped w (line_number ph) d (Notes.ends_with n) ∷ run) q f) s.fate o _ q
        (λ z t. absurd (true≢false (sym t))) (λ z t. old_ends _ q t) t

    after_line : Moments (tick (after_step s w o l ph))
        (Notes.stepped w (line_number ph) (phase_deed s.memory ph) (ending (line s.now s.memory ph).comes) ∷ run)
    after_line =
        record {
          ends = step_ends (line s.now s.memory ph).does (phase_deed s.memory ph) (line s.now s.memory ph).comes;
          births = subst (λ (m : Memory). (i : ℕ) → i < m.items → BornBy (m.item i) (x ∷ run) i) (sym after_memory)
              (born_more x (memory_after s.now o (line s.now s.memory ph).does s.memory) L (same_items (line s.now s.memory ph).does));
        }
      where
        x : Note
        x = Notes.stepped w (line_number ph) (phase_deed s.memory ph) (ending (line s.now s.memory ph).comes)

        K : InOperation s.now s.memory (s.fate o) (s.place o) w o l ph
        K = subst (λ (y : Worker). WorkerRight s.now s.memory s.fate s.place w y) is (invariant.workers w)

        right : LineRight s.now o l s.memory ph (line s.now s.memory ph)
        right = every_line s.now o l s.memory invariant.kept.memory K.begun ph K.facts

        L : Later s.now s.memory (memory_after s.now o (line s.now s.memory ph).does s.memory)
        L = effect_later invariant.kept.memory o (phase_operation ph) (has_published ph) (line s.now s.memory ph).does right.does

        after_memory : (tick (after_step s w o l ph)).memory ≡ memory_after s.now o (line s.now s.memory ph).does s.memory
        after_memory = unfold tick affect in
            (settle_memory w o (line_number ph ∷ l) (affect o s (line s.now s.memory ph).does) (line s.now s.memory ph).comes)

        same_items : (e : Machine.Effect) → (memory_after s.now o e s.memory).items ≡ s.memory.items
        same_items Machine.nothing = unfold memory_after in refl
        same_items Machine.counts = unfold memory_after in refl
        same_items (Machine.publishes i v y) = unfold memory_after in refl
        same_items (Machine.stamps i j c r) = unfold memory_after in refl
        same_items (Machine.takes_node i b j y) = unfold memory_after in refl
        same_items (Machine.gives_back y) = unfold memory_after in refl

event_moments : (s : Catalogue) (run : List Note) → Invariant s → Agrees s run → Moments s run → (e : Event) → Moments (happens s e) (event_note s e ∷ run)
unfolding happens
event_moments s run invariant A M =
    event_cases s invariant (suc s.memory.limits.workers) (omega arith) (λ (x : Note) (s' : Catalogue). Moments (tick s') (x ∷ run))
    (λ x q. after_quiet s invariant run A M x)
    (λ v z p. after_register s invariant run A M v z (found (node_to_take s.memory)))
    (λ w op b f p. after_start s invariant run A M w op)
    (λ w o l ph b e. after_line s invariant run A M w o l ph e)
    (λ w o l ph b e. after_abandon s invariant run A M w o ph) (omega arith)

pub moments : (limits : Limits) (es : List Event) → Moments (after_events limits es) (machine_notes limits es)
unfolding after_events machine_notes fresh
moments limits [] = record { ends = λ o d. absurd (true≢false (sym d)); births = λ i p. absurd (omega arith) }
moments limits (e ∷ es) = event_moments (after_events limits es) (machine_notes limits es) (run_right limits es) (agrees limits es) (moments limits es) e
