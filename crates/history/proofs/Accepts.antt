-- The machine of versions accepts a start exactly when its worker is there and free and what it asks for is there.
use Rattle.std.specs.Prelude.{◌≡◌, refl, ◌≢◌, ◌↔◌, Bool, true, false, not, ◌||◌, List, [], ◌∷◌, ℕ, ◌+◌, ◌≤◌, ◌<◌, T, ltb, leb, length}
use Rattle.std.proofs.Common.{ap, sym, ◌∙◌, subst, arith, T_not, leb→le, ltb→lt, nltb→le}
use Rattle.std.proofs.Math.Dec.{not_T, nleb→lt}
use Rattle.definitions.specs.declared.Answer.{Answer}
use Rattle.definitions.specs.Answers.{Refusal, accepted}
use Rattle.definitions.specs.Calls.{Call}
use Rattle.history.specs.Tools.{by_eq, by_test, Split, split}
use Rattle.history.specs.Notes.{Note, if_accepted, start_of, ledger, snapshot, object_at}
use Rattle.history.specs.Notes as Notes
use Rattle.history.specs.NoteParts.{note_tag}
use Rattle.history.specs.Statements.{In, Free}
use Rattle.history.specs.Demands.{object_now, Asked}
use Rattle.history.specs.Effects.{effects}
use Rattle.history.specs.Machine.{
  Event,
  Limits,
  Operation,
  register,
  v_read,
  v_cas,
  take_snapshot,
  read_snapshot,
  total,
  Worker,
  idle,
  busy,
  Catalogue,
  Move,
  unless,
  is_idle,
  start_refusals,
  worker_refusals,
  begun,
  starting,
  move,
  reply,
  after_events,
}
use Rattle.history.proofs.Places.{InOperation, WorkerRight, Invariant}
use Rattle.history.proofs.Run.{Passed, run_right}
use Rattle.history.proofs.NodeCount.{limits_kept}
use Rattle.history.proofs.MachineNotes.{machine_note, machine_notes}
use Rattle.history.proofs.LedgerRight.{InLedger, Runs, Agrees, agrees}
use Rattle.history.proofs.EffectsRight.{left_then}
use Rattle.history.specs.Definition1.{Born}
use Rattle.history.proofs.EffectsRun.{Effected, effected}
use Rattle.history.proofs.BornItems.{is_registered, born_exactly}

-- ---- accepted where no refusal applies

pub unless_passed : (s : Catalogue) (rs : List Refusal) (x : Move) → Passed rs → unless s rs x ≡ x
unless_passed s [] x p = refl
unless_passed s (r ∷ rs) x p = by_test (λ (y : Move). y ≡ x) r.when (λ t. absurd (T_not r.when p.0 t)) (λ t. unless_passed s rs x p.1)

-- z: what the call is noted as where it is accepted, by the value of its answer
pub passed_unless : (s : Catalogue) (rs : List Refusal) (x : Move) (z : ℕ → Note) (y : Note) → y ≢ Notes.refused →
    if_accepted (unless s rs x).answer (z (unless s rs x).answer.value) ≡ y → Passed rs
passed_unless s [] x z y d = λ e. tt
passed_unless s (r ∷ rs) x z y d =
    by_test (λ (u : Move). if_accepted u.answer (z u.answer.value) ≡ y → Passed (r ∷ rs)) r.when
    (λ t. by_eq (λ (u : Note). u ≡ y → Passed (r ∷ rs)) (16 + r.number) 2 (λ e. absurd (omega arith)) (λ n e. absurd (d (sym e))))
    (λ t e. (t, passed_unless s rs x z y d e))

pub starts : (s : Catalogue) (w : ℕ) (op : Operation) →
    (if_accepted (starting s w op).answer (Notes.started w op) ≡ Notes.started w op) ↔ Passed (worker_refusals s w op)
unfolding starting
starts s w op = (
  passed_unless s (worker_refusals s w op) begins (λ a. Notes.started w op) (Notes.started w op)
      (λ e. let z : ◌≡◌ {A = ℕ} 2 0 = ap note_tag e in omega arith),
  λ p. ap (λ (x : Move). if_accepted x.answer (Notes.started w op)) (unless_passed s (worker_refusals s w op) begins p),
)
  where
    begins : Move
    begins = record { answer = accepted 0; leaves = begun s w op }

-- a register starts no operation of a worker
pub register_starts_none : (a : Answer) (i v z w : ℕ) (op : Operation) → if_accepted a (Notes.registered i v z) ≢ Notes.started w op
register_starts_none a i v z w op =
    by_eq (λ (x : Note). x ≢ Notes.started w op) a.code 2 (λ t e. let z : ◌≡◌ {A = ℕ} 1 2 = ap note_tag e in omega arith)
    (λ t e. let z : ◌≡◌ {A = ℕ} 0 2 = ap note_tag e in omega arith)

-- ---- tests

pub above : (a b : ℕ) → b < a → T (not (leb a b))
above a b p = not_T (leb a b) (λ t. omega (arith, leb→le a b t))

not_below : (a b : ℕ) → b ≤ a → T (not (ltb a b))
not_below a b p = not_T (ltb a b) (λ t. omega (arith, ltb→lt a b t))

neither : (a b : Bool) → T (not (a || b)) → T (not a) × T (not b)
neither true b t = absurd t
neither false b t = (tt, t)

nor : (a b : Bool) → T (not a) → T (not b) → T (not (a || b))
nor true b t u = t
nor false b t u = u

-- ---- what the refusals test

module _ (s : Catalogue) (invariant : Invariant s) (run : List Note) (A : Agrees s run) (E : Effected s run) where
  -- an idle worker
  pub idle_free : (w : ℕ) → T (not (not (is_idle (s.worker w)))) → Free run w
  idle_free w t o e z = at (A.running o e)
    where
      at : Runs s o ((ledger run).fate o) → ⊥
      at (l, ph, is) = subst (λ (b : Bool). T (not (not b))) (ap is_idle (ap s.worker (sym z) ∙ is)) t

  pub free_idle : (w : ℕ) → Free run w → T (not (not (is_idle (s.worker w))))
  free_idle w free = at (s.worker w) refl
    where
      at : (x : Worker) → s.worker w ≡ x → T (not (not (is_idle x)))
      at idle e = tt
      at (busy o l ph) e =
          let told : InLedger (ledger run) w (busy o l ph) = subst (λ (x : Worker). InLedger (ledger run) w x) e (A.worker w) in
          let its : InOperation s.now s.memory (s.fate o) (s.place o) w o l ph =
          subst (λ (x : Worker). WorkerRight s.now s.memory s.fate s.place w x) e (invariant.workers w) in
          free o told.2 ((A.fate o).worker ∙ its.worker)

  -- a registered item is born
  pub registered_born : (i : ℕ) → i < s.memory.items → Born i (object_now run (effects run))
  registered_born i p = (born_exactly s invariant run E i (length run)).1
      (there, omega (arith, A.now, (invariant.kept.memory.item i).effect_before_22 0 there, (invariant.kept.memory.item i).stamped_past 0 there))
    where
      there : 0 < (s.memory.item i).valid
      there = invariant.kept.memory.registered i p

  -- an item born at some time is registered
  pub born_registered : (i τ : ℕ) → Born i (object_at τ (effects run)) → i < s.memory.items
  born_registered i τ b = is_registered s invariant run E i ((born_exactly s invariant run E i τ).0 b).0

  -- a handle that the counter left
  pub left_handle : (left h : ℕ) → In (snapshot left h) (effects run) → (h < s.memory.camera.counter) × (left ≡ s.memory.camera.left_at h)
  left_handle left h a = left_then s.memory h left (E.memory.only (snapshot left h) a)

  -- an item whose birth stamp is not above a handle that the counter left was born before that
  pub stamp_born : (i h : ℕ) → i < s.memory.items → h < s.memory.camera.counter → (s.memory.item i).stamp 0 ≤ h →
      Born i (object_at (s.memory.camera.left_at h) (effects run))
  stamp_born i h p q r = (born_exactly s invariant run E i (s.memory.camera.left_at h)).1
      (there, omega (arith, ((invariant.kept.memory.item i).counted 0 there).ahead h r q))
    where
      there : 0 < (s.memory.item i).valid
      there = invariant.kept.memory.registered i p

  pub born_stamp : (i h : ℕ) → Born i (object_at (s.memory.camera.left_at h) (effects run)) → (s.memory.item i).stamp 0 ≤ h
  born_stamp i h p = at (split h ((s.memory.item i).stamp 0))
    where
      first : (0 < (s.memory.item i).valid) × ((s.memory.item i).effect_at 0 ≤ s.memory.camera.left_at h)
      first = (born_exactly s invariant run E i (s.memory.camera.left_at h)).0 p

      at : Split h ((s.memory.item i).stamp 0) → (s.memory.item i).stamp 0 ≤ h
      at (Split.more u) = u
      at (Split.less u) = absurd (omega (arith, first.1, ((invariant.kept.memory.item i).counted 0 first.0).past h u))

  -- ---- refusals 6 to 9

  passed_asked : (op : Operation) → Passed (start_refusals s.memory op) → Asked run (effects run) s.memory.limits.projects op
  passed_asked (register i v z) x = x.0
  passed_asked (v_read i) x = registered_born i (nleb→lt s.memory.items i x.0)
  passed_asked (v_cas i old new) x =
      let both = neither (leb s.memory.limits.projects old) (leb s.memory.limits.projects new) x.1.0 in (
        registered_born i (nleb→lt s.memory.items i x.0),
        nleb→lt s.memory.limits.projects old both.0,
        nleb→lt s.memory.limits.projects new both.1,
      )
  passed_asked take_snapshot x = tt
  passed_asked (read_snapshot i h) x =
      let gone : h < s.memory.camera.counter = nleb→lt s.memory.camera.counter h x.1.0 in (
        s.memory.camera.left_at h,
        E.memory.snapshots h gone,
        stamp_born i h (nleb→lt s.memory.items i x.0) gone (nltb→le h ((s.memory.item i).stamp 0) x.1.1.0),
      )
  passed_asked (total r h) x = (
    nleb→lt s.memory.limits.projects r x.0,
    s.memory.camera.left_at h,
    E.memory.snapshots h (nleb→lt s.memory.camera.counter h x.1.0),
  )

  asked_passed : (op : Operation) → Asked run (effects run) s.memory.limits.projects op → Passed (start_refusals s.memory op)
  asked_passed (register i v z) x = absurd x
  asked_passed (v_read i) x = (above s.memory.items i (born_registered i (length run) x), tt)
  asked_passed (v_cas i old new) x = (
    above s.memory.items i (born_registered i (length run) x.0),
    (
      nor (leb s.memory.limits.projects old) (leb s.memory.limits.projects new) (above s.memory.limits.projects old x.1)
          (above s.memory.limits.projects new x.2),
      tt,
    ),
  )
  asked_passed take_snapshot x = tt
  asked_passed (read_snapshot i h) (left, taken, born) = (
    above s.memory.items i (born_registered i left born),
    (
      above s.memory.camera.counter h (left_handle left h taken).0,
      (
        not_below h ((s.memory.item i).stamp 0)
            (born_stamp i h (subst (λ (τ : ℕ). Born i (object_at τ (effects run))) (left_handle left h taken).1 born)),
        tt,
      ),
    ),
  )
  asked_passed (total r h) (fits, left, taken) =
      (above s.memory.limits.projects r fits, (above s.memory.camera.counter h (left_handle left h taken).0, tt))

  passed_exactly : (w : ℕ) (op : Operation) → Passed (worker_refusals s w op) ↔
      ((w < s.memory.limits.workers) × Free run w × Asked run (effects run) s.memory.limits.projects op)
  passed_exactly w op = (
    λ x. (nleb→lt s.memory.limits.workers w x.0, idle_free w x.1.0, passed_asked op x.1.1),
    λ y. (above s.memory.limits.workers w y.0, (free_idle w y.1, asked_passed op y.2)),
  )

  -- ---- the note of a start

  accepts_start : (w : ℕ) (op : Operation) → (if_accepted (starting s w op).answer (Notes.started w op) ≡ Notes.started w op) ↔
      ((w < s.memory.limits.workers) × Free run w × Asked run (effects run) s.memory.limits.projects op)
  accepts_start w op = (λ e. (passed_exactly w op).0 ((starts s w op).0 e), λ y. (starts s w op).1 ((passed_exactly w op).1 y))

  accepts_note : (w : ℕ) (op : Operation) → (machine_note s (start_of w op) ≡ Notes.started w op) ↔
      ((w < s.memory.limits.workers) × Free run w × Asked run (effects run) s.memory.limits.projects op)
  unfolding machine_note reply move
  accepts_note w (register i v z) = (λ e. absurd (register_starts_none (reply s (Call.register v z)) _ v z w (register i v z) e), λ y. absurd y.2)
  accepts_note w (v_read i) = accepts_start w (v_read i)
  accepts_note w (v_cas i old new) = accepts_start w (v_cas i old new)
  accepts_note w take_snapshot = accepts_start w take_snapshot
  accepts_note w (read_snapshot i h) = accepts_start w (read_snapshot i h)
  accepts_note w (total r h) = accepts_start w (total r h)

-- in every run of the machine
pub accepts : (limits : Limits) (es : List Event) (w : ℕ) (op : Operation) →
    (machine_note (after_events limits es) (start_of w op) ≡ Notes.started w op) ↔ ((w < limits.workers) × Free (machine_notes limits es) w
    × Asked (machine_notes limits es) (effects (machine_notes limits es)) limits.projects op)
accepts limits es w op =
    subst (λ (y : Limits). (machine_note (after_events limits es) (start_of w op) ≡ Notes.started w op) ↔ ((w < y.workers)
    × Free (machine_notes limits es) w × Asked (machine_notes limits es) (effects (machine_notes limits es)) y.projects op))
    (limits_kept limits es)
    (accepts_note (after_events limits es) (run_right limits es) (machine_notes limits es) (agrees limits es) (effected limits es) w op)
