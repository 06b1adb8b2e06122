-- A start on the cells is the machine's start: the same refusals in the same order, and never damage.
use Prim.Native.Nat.{ℕ, pred, ◌<◌, ◌≤◌}
use Rattle.std.specs.Prelude.{Bool, true, false, cond, not, ◌||◌, ◌&&◌, ◌≢◌, ◌≡◌, eqb}
use mathlib.Core.List.{List, []}
use Rattle.std.proofs.Math.Path.{refl, subst}
use Rattle.std.proofs.Common.{ap, ap₂, sym, ◌∙◌}
use native.Mathlib.Omega.{arith}
use Rattle.std.proofs.Math.Dec.{leb, ltb}
use borrow.Author.Tests.{le-ltb, ltb-false, leb-false, eq-eqb, ne_eqb}
use Rattle.definitions.specs.Cells.{Cells, Assignment, workers, counter, items, phase, birth, record_of}
use Rattle.definitions.specs.Answers.{Outcome, accepted}
use Rattle.definitions.specs.Answers as outcome
use Rattle.definitions.specs.Phases.{row_of, v_read_start, v_cas_start, take_snapshot_start, read_snapshot_start, total_start, closing_phase}
use Rattle.definitions.specs.Damage.{worker_damaged, item_damaged, bad_value, bad_handle, bad_item}
use Rattle.definitions.specs.Calls as code
use Rattle.definitions.specs.Calls.{Call}
use Rattle.cells.specs.Update.{after, Proper, record_proper}
use Rattle.cells.specs.Spares.{first_false, second_false}
use Rattle.history.specs.Tools.{put, put_all, put_same, put_other, by_eq, Same, eq, ne, same?}
use Rattle.history.specs.Machine.{Operation, v_read, v_cas, take_snapshot, read_snapshot, total, total_32, closing, total_at, first_phase, Worker, idle, busy, is_idle, Catalogue, tick, Move, refused, begun, starting, move, call, reply}
use Rattle.reached.specs.Parts.{Local, shared_of, local_of}
use Rattle.reached.specs.Sound.{running_sound, StepsWell, item_sound}
use Rattle.reached.specs.Grows.{Known, ChangeKnown, ReadKnown, TotalKnown}
use Rattle.reached.specs.Effects.{total_at_known}
use Rattle.reached.specs.Image.{held, BusyImage, WorkerImage, Holds, phase_number}
use Rattle.reached.proofs.Nodes.{version_below}
use Rattle.reached.proofs.Ready.{Standing}
use Rattle.reached.proofs.Records.{self}
use Rattle.reached.proofs.Homes.{WorkerHolding}
use Rattle.reached.proofs.Whole.{FewSteps, WorkerKnown, WorkerHolds, StateImage, CatalogueImage, CallImage}
use Rattle.reached.proofs.Step.{header_later, steps_well}

-- An outcome on the cells is a move of the machine.
pub record MoveImage (f : Cells) (s : Catalogue) (out : Outcome) (y : Move) : Type 0 where
  pub answer_is : out.answer ≡ y.answer
  pub proper : Proper s.memory.limits.workers s.memory.limits.items s.memory.limits.nodes out.writes
  pub image : StateImage (after f out.writes) y.leaves.memory y.leaves.worker

pub moves : (f : Cells) (s : Catalogue) (c : Call) (out : Outcome) → MoveImage f s out (move s c) → CallImage f s c out
unfolding call reply tick
moves f s c out h = record { answer_is = h.answer_is; proper = h.proper; image = h.image }

-- There is a worker, so what a step stands on holds whether one steps or not.
pub first_worker : (f : Cells) (s : Catalogue) (Z : CatalogueImage f s) → Standing f s.memory Z.own 0
first_worker f s Z = record {
  header = Z.header;
  shared = Z.shared;
  nodes = Z.nodes;
  well = Z.well;
  few_items = Z.limits_fit.items_in.1;
  below_TBD = omega (arith, Z.limits_fit.counter_in.1);
  worker_in = omega (arith, Z.limits_fit.workers_in.0);
}

module _ (f : Cells) (s : Catalogue) (Z : CatalogueImage f s) where
  -- a refusal on both sides, or what comes after it
  pub refuse_or : (number : ℕ) (b b' : Bool) {out : Outcome} {y : Move} → b' ≡ b → (b ≡ false → MoveImage f s out y)
      → MoveImage f s (cond b' (outcome.refused number) out) (cond b (refused s number) y)
  refuse_or number b b' {out} {y} e g = subst (λ (a : Bool). MoveImage f s (cond a (outcome.refused number) out) (cond b (refused s number) y)) (sym e)
      (at b g)
    where
      at : (b : Bool) → (b ≡ false → MoveImage f s out y) → MoveImage f s (cond b (outcome.refused number) out) (cond b (refused s number) y)
      at true g = record { answer_is = refl; proper = tt; image = Z }
      at false g = g refl

  -- no damage, and what comes after it
  pub sound_or : (b : Bool) {out : Outcome} {y : Move} → b ≡ false → MoveImage f s out y → MoveImage f s (cond b (outcome.refused 2) out) y
  sound_or b {out} {y} e h = subst (λ (a : Bool). MoveImage f s (cond a (outcome.refused 2) out) y) (sym e) h

  -- a registered item's birth stamp is a counter value, and its record never damaged
  pub birth_in : (i : ℕ) → i < s.memory.items → f (birth i) ≤ f counter
  birth_in i l = omega (arith, Z.shared.birth_is i l, Z.shared.counter_is, (Z.well.item_well i l).past 0 (Z.well.item_well i l).some)

  pub item_is_sound : (i : ℕ) → i < s.memory.items → item_damaged f i ≡ false
  item_is_sound i l =
      item_sound f i
      (omega (
        arith,
        Z.shared.head_is i l,
        Z.shared.used_are,
        version_below s.memory (shared_of f) Z.own Z.shared i (pred (s.memory.item i).versions) l
            (omega (arith, (Z.well.item_well i l).some, (Z.well.item_well i l).few)),
      ))
      (birth_in i l)

  pub value_same : (v : ℕ) → bad_value f v ≡ leb s.memory.limits.projects v
  value_same v = ap (λ (n : ℕ). leb n v) Z.header.projects_are

  handle_same : (h : ℕ) → bad_handle f h ≡ leb s.memory.camera.counter h
  handle_same h = ap (λ (n : ℕ). leb n h) Z.shared.counter_is

-- The starts. No running record has too many steps.
module _ (f : Cells) (s : Catalogue) (Z : CatalogueImage f s) (F : FewSteps s.worker) where
  no_worker_same : (w : ℕ) → leb (f workers) w ≡ leb s.memory.limits.workers w
  no_worker_same w = ap (λ (n : ℕ). leb n w) Z.header.workers_are

  -- a worker's record is never damaged
  pub worker_sound : (w : ℕ) → w < s.memory.limits.workers → (v : Worker) → s.worker w ≡ v → worker_damaged f w ≡ false
  worker_sound w l idle e = let z : f (phase w) ≡ 0 = subst (λ (v : Worker). WorkerImage s.memory.item (local_of f w) v) e (Z.worker_is w l) in rw z
  worker_sound w l (busy o ls ph) e =
      rw (R.at_phase, le-ltb 35 (phase_number ph) R.known.1, running_sound (row_of (phase_number ph)) f w R.record_fits)
      (and_false (not (eqb (phase_number ph) 0)))
    where
      R : StepsWell (phase_number ph) f w
      R = steps_well f s Z w l o ls ph e (F w o ls ph e)

      and_false : (b : Bool) → b && false ≡ false
      and_false true = refl
      and_false false = refl

  busy_same : (w : ℕ) → w < s.memory.limits.workers → (v : Worker) → s.worker w ≡ v → code.busy f w ≡ not (is_idle v)
  busy_same w l idle e = let z : f (phase w) ≡ 0 = subst (λ (v : Worker). WorkerImage s.memory.item (local_of f w) v) e (Z.worker_is w l) in rw z
  busy_same w l (busy o ls ph) e = ap not (ne_eqb (f (phase w)) 0 (λ z. absurd (omega (arith, R.at_phase, R.known.0))))
    where
      R : StepsWell (phase_number ph) f w
      R = steps_well f s Z w l o ls ph e (F w o ls ph e)

  -- the tests that every start begins with: 3, the record's damage, 4
  free : (w : ℕ) {out : Outcome} {y : Move} → (w < s.memory.limits.workers → s.worker w ≡ idle → MoveImage f s out y)
      → MoveImage f s (cond (code.no_worker f w) (outcome.refused 3)
      (cond (worker_damaged f w) (outcome.refused 2) (cond (code.busy f w) (outcome.refused 4) out)))
      (cond (leb s.memory.limits.workers w) (refused s 3) (cond (not (is_idle (s.worker w))) (refused s 4) y))
  free w g =
      refuse_or f s Z 3 (leb s.memory.limits.workers w) (code.no_worker f w) (no_worker_same w)
      (λ e. let l : w < s.memory.limits.workers = leb-false _ _ e in
      sound_or f s Z (worker_damaged f w) (worker_sound w l (s.worker w) refl)
      (refuse_or f s Z 4 (not (is_idle (s.worker w))) (code.busy f w) (busy_same w l (s.worker w) refl) (λ b. g l (is_idle_worker (s.worker w) b))))
    where
      is_idle_worker : (v : Worker) → not (is_idle v) ≡ false → v ≡ idle
      is_idle_worker idle b = refl
      is_idle_worker (busy o ls ph) b = absurd (let z : ◌≡◌ {A = ℕ} 0 1 = cc in omega arith)

  -- the tests of an item: 6, its record's damage
  on_item : (i : ℕ) {out : Outcome} {y : Move} → (i < s.memory.items → MoveImage f s out y)
      → MoveImage f s (cond (bad_item f i) (outcome.refused 6) (cond (item_damaged f i) (outcome.refused 2) out))
      (cond (leb s.memory.items i) (refused s 6) y)
  on_item i g =
      refuse_or f s Z 6 (leb s.memory.items i) (leb (f items) i) (ap (λ (n : ℕ). leb n i) Z.shared.items_are)
      (λ e. let l : i < s.memory.items = leb-false _ _ e in sound_or f s Z (item_damaged f i) (item_is_sound f s Z i l) (g l))

  -- an operation begins: its worker's record is its phase and arguments, everything else zero
  abbrev started : (p i o n h q k : ℕ) → Local
  started p i o n h q k = record {
    phase = p;
    steps = 0;
    item = i;
    old = o;
    new = n;
    handle = h;
    project = q;
    noted = k;
    node = 0;
    new_node = 0;
    seen = 0;
    sum = 0;
  }

  begins : (w : ℕ) (op : Operation) (p i o n h q k : ℕ) → w < s.memory.limits.workers → s.worker w ≡ idle
      → Known s.memory (first_phase s.memory op) → Holds Z.own (shared_of f) s.memory.item w (first_phase s.memory op)
      → BusyImage s.memory.item (started p i o n h q k) 0 (first_phase s.memory op)
      → MoveImage f s (outcome.accepts 0 (record_of w p i o n h q k)) (record { answer = accepted 0; leaves = begun s w op })
  unfolding begun
  begins w op p i o n h q k l e known holds image =
      record {
        answer_is = refl;
        proper = P;
        image = record {
          own = Z.own;
          limits_fit = Z.limits_fit;
          header = header_later f s.memory.limits s.memory.limits xs refl P Z.header;
          shared = Z.shared;
          nodes = Z.nodes;
          well = Z.well;
          worker_is = λ v b. image_at v b (same? v w);
          known = λ v b. put_all (λ (v : ℕ) (u : Worker). v < s.memory.limits.workers → WorkerKnown s.memory u) s.worker w new v
              (λ d b. known) (λ d b. Z.known v b) b;
          holds = λ v b. put_all (λ (v : ℕ) (u : Worker). v < s.memory.limits.workers → WorkerHolds Z.own (shared_of f) s.memory.item v u)
              s.worker w new v
              (λ d b. subst (λ (v : ℕ). WorkerHolds Z.own (shared_of f) s.memory.item v new) (sym d) holds) (λ d b. Z.holds v b) b;
          homes = Z.homes;
          held_home = λ y v g. ((Z.held_home y v g).0, holding_at y v g (same? v w));
        };
      }
    where
      xs : List Assignment
      xs = record_of w p i o n h q k

      new : Worker
      new = busy s.now [] (first_phase s.memory op)

      P : Proper s.memory.limits.workers s.memory.limits.items s.memory.limits.nodes (record_of w p i o n h q k)
      P = record_proper s.memory.limits.workers s.memory.limits.items s.memory.limits.nodes w p i o n h q k l

      holding_at : (y v : ℕ) → Z.own y ≡ held v → Same v w → WorkerHolding (put s.worker w new v) y
      holding_at y v g (eq d) = absurd (subst (λ (u : Worker). WorkerHolding u y) (ap s.worker d ∙ e) (Z.held_home y v g).1)
      holding_at y v g (ne d) = subst (λ (u : Worker). WorkerHolding u y) (sym (put_other s.worker w new v d)) (Z.held_home y v g).1

      mine : local_of (after f (record_of w p i o n h q k)) w ≡ started p i o n h q k
      mine = rw (self w) refl

      others : (v : ℕ) → w ≢ v → local_of (after f (record_of w p i o n h q k)) v ≡ local_of f v
      others v d = rw (ne_eqb w v d) refl

      image_at : (v : ℕ) → v < s.memory.limits.workers → Same v w
          → WorkerImage s.memory.item (local_of (after f (record_of w p i o n h q k)) v) (put s.worker w new v)
      image_at v b (eq d) =
          subst (λ (u : Worker). WorkerImage s.memory.item (local_of (after f (record_of w p i o n h q k)) v) u) (sym (put_same s.worker w new v d))
          (subst (λ (v : ℕ). BusyImage s.memory.item (local_of (after f (record_of w p i o n h q k)) v) 0 (first_phase s.memory op)) (sym d)
          (subst (λ (x : Local). BusyImage s.memory.item x 0 (first_phase s.memory op)) (sym mine) image))
      image_at v b (ne d) =
          subst (λ (u : Worker). WorkerImage s.memory.item (local_of (after f (record_of w p i o n h q k)) v) u) (sym (put_other s.worker w new v d))
          (subst (λ (x : Local). WorkerImage s.memory.item x (s.worker v)) (sym (others v (λ c. d (sym c)))) (Z.worker_is v b))

  both_below : (n x y : ℕ) → leb n x || leb n y ≡ false → (x < n) × (y < n)
  both_below n x y e = (leb-false n x (first_false (leb n x) (leb n y) e), leb-false n y (second_false (leb n x) (leb n y) e))

  pub v_read_image : (w i : ℕ) → CallImage f s (Call.v_read w i) (code.starting_v_read f w i)
  v_read_image w i = moves f s (Call.v_read w i) (code.starting_v_read f w i) both_sides
    where
      both_sides : MoveImage f s (code.starting_v_read f w i) (move s (Call.v_read w i))
      both_sides = unfold code.starting_v_read move starting in
          free w (λ l e. on_item i (λ b. begins w (v_read i) v_read_start i 0 0 0 0 0 l e (unfold first_phase in b) (unfold first_phase in tt)
          (unfold first_phase in record { phase_is = refl; steps_are = refl; kept = refl })))

  pub v_cas_image : (w i x y : ℕ) → CallImage f s (Call.v_cas w i x y) (code.starting_v_cas f w i x y)
  v_cas_image w i x y = moves f s (Call.v_cas w i x y) (code.starting_v_cas f w i x y) both_sides
    where
      both_sides : MoveImage f s (code.starting_v_cas f w i x y) (move s (Call.v_cas w i x y))
      both_sides = unfold code.starting_v_cas move starting in
          free w (λ l e. on_item i (λ b. refuse_or f s Z 7 (leb s.memory.limits.projects x || leb s.memory.limits.projects y)
          (bad_value f x || bad_value f y) (ap₂ (λ (a b : Bool). a || b) (value_same f s Z x) (value_same f s Z y))
          (λ c. let z : ChangeKnown s.memory i x y = record
          { item_in = b; old_in = (both_below s.memory.limits.projects x y c).0; new_in = (both_below s.memory.limits.projects x y c).1 } in
          begins w (v_cas i x y) v_cas_start i x y 0 0 0 l e
          (unfold first_phase in z) (unfold first_phase in tt)
          (unfold first_phase in record { phase_is = refl; steps_are = refl; kept = record { item_is = refl; old_is = refl; new_is = refl } }))))

  pub take_snapshot_image : (w : ℕ) → CallImage f s (Call.take_snapshot w) (code.starting_take_snapshot f w)
  take_snapshot_image w = moves f s (Call.take_snapshot w) (code.starting_take_snapshot f w) both_sides
    where
      both_sides : MoveImage f s (code.starting_take_snapshot f w) (move s (Call.take_snapshot w))
      both_sides = unfold code.starting_take_snapshot move starting in
          free w (λ l e. begins w take_snapshot take_snapshot_start 0 0 0 0 0 0 l e (unfold first_phase in tt) (unfold first_phase in tt)
          (unfold first_phase in record { phase_is = refl; steps_are = refl; kept = tt }))

  pub read_snapshot_image : (w i h : ℕ) → CallImage f s (Call.read_snapshot w i h) (code.starting_read_snapshot f w i h)
  read_snapshot_image w i h = moves f s (Call.read_snapshot w i h) (code.starting_read_snapshot f w i h) both_sides
    where
      both_sides : MoveImage f s (code.starting_read_snapshot f w i h) (move s (Call.read_snapshot w i h))
      both_sides = unfold code.starting_read_snapshot move starting in
          free w (λ l e. on_item i (λ b. refuse_or f s Z 8 (leb s.memory.camera.counter h) (bad_handle f h) (handle_same f s Z h)
          (λ c. refuse_or f s Z 9 (ltb h ((s.memory.item i).stamp 0)) (ltb h (f (birth i))) (ap (λ (n : ℕ). ltb h n) (Z.shared.birth_is i b))
          (λ d. let z : ReadKnown s.memory i h = record { item_in = b; handle_in = leb-false _ _ c; born = ltb-false _ _ d } in
          begins w (read_snapshot i h) read_snapshot_start i 0 0 h 0 0 l e
          (unfold first_phase in z) (unfold first_phase in tt)
          (unfold first_phase in record { phase_is = refl; steps_are = refl; kept = record { item_is = refl; handle_is = refl } })))))

  -- a total begins at its first item, or at its closing step
  total_begins : (w q h : ℕ) → w < s.memory.limits.workers → s.worker w ≡ idle → q < s.memory.limits.projects → h < s.memory.camera.counter
      → MoveImage f s (outcome.accepts 0 (record_of w (cond (eqb (f items) 0) closing_phase total_start) 0 0 0 h q (f items)))
      (record { answer = accepted 0; leaves = begun s w (total q h) })
  total_begins w q h l e b c =
      subst (λ (n : ℕ). MoveImage f s (outcome.accepts 0 (record_of w (cond (eqb n 0) closing_phase total_start) 0 0 0 h q n))
      (record { answer = accepted 0; leaves = begun s w (total q h) })) (sym Z.shared.items_are)
      (begins w (total q h) (cond (eqb k 0) closing_phase total_start) 0 0 0 h q k l e (unfold first_phase in total_at_known s.memory q h k 0 0 known)
      (unfold first_phase total_at in by_eq (Holds Z.own (shared_of f) s.memory.item w) 0 k (λ d. tt) (λ d. tt))
      (unfold first_phase total_at in at (same? 0 k)))
    where
      k : ℕ
      k = s.memory.items

      known : TotalKnown s.memory q h s.memory.items 0 0
      known = record { project_in = b; handle_in = c; noted_in = omega arith; place_in = omega arith; sum_in = omega arith }

      at : Same 0 k → BusyImage s.memory.item (started (cond (eqb k 0) closing_phase total_start) 0 0 0 h q k) 0
          (cond (eqb 0 k) (closing q h k 0) (total_32 q h k 0 0))
      at (eq d) = rw (eq-eqb 0 k d, eq-eqb k 0 (sym d)) (record
          { phase_is = refl; steps_are = refl; kept = record { project_is = refl; handle_is = refl; noted_are = refl; item_is = d; sum_is = refl } })
      at (ne d) = rw (ne_eqb 0 k d, ne_eqb k 0 (λ z. d (sym z)))
          (record {
            phase_is = refl;
            steps_are = refl;
            kept =
                record { project_is = refl; handle_is = refl; noted_are = refl; item_is = refl; sum_is = refl };
          })

  pub total_image : (w q h : ℕ) → CallImage f s (Call.total w q h) (code.starting_total f w q h)
  total_image w q h = moves f s (Call.total w q h) (code.starting_total f w q h) both_sides
    where
      both_sides : MoveImage f s (code.starting_total f w q h) (move s (Call.total w q h))
      both_sides = unfold code.starting_total move starting in
          free w (λ l e. refuse_or f s Z 7 (leb s.memory.limits.projects q) (bad_value f q) (value_same f s Z q)
          (λ b. refuse_or f s Z 8 (leb s.memory.camera.counter h) (bad_handle f h) (handle_same f s Z h)
          (λ c. total_begins w q h l e (leb-false _ _ b) (leb-false _ _ c))))
