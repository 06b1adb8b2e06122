-- A step on the cells is the machine's step.
use Prim.Native.Nat.{ℕ, ◌<◌, ◌≤◌}
use Rattle.std.specs.Prelude.{List, ◌∷◌, ◌≢◌, ◌≡◌, length}
use Rattle.std.proofs.Math.Path.{refl, sym, subst}
use Rattle.std.proofs.Common.{ap, ◌∙◌, arith, le-leb}
use Rattle.std.proofs.lemmas.Bool.{lt-leb}
use Rattle.definitions.specs.Cells.{Cells, steps, workers, items_limit, nodes_limit, projects, counter_limit, phase}
use Rattle.definitions.specs.Answers.{Outcome}
use Rattle.definitions.specs.Answers as outcome
use Rattle.definitions.specs.Lines.{line_of_phase}
use Rattle.definitions.specs.Calls as code
use Rattle.definitions.specs.Calls.{Call}
use Rattle.cells.specs.Update.{after, Proper, after_size}
use Rattle.history.specs.Tools.{put, put_all, put_same, put_other, Same, eq, ne, same?, Split, split}
use Rattle.history.specs.Machine.{Item, Memory, Limits, Phase, line_number, Effect, Comes, goes_on, ends_with, answers_change, answers, Next, line, memory_after, Worker, idle, busy, Catalogue, affect, settle, tick, Move, refused, stepped, stepping, step_answer, move, call, reply}
use Rattle.reached.specs.Parts.{Shared, Local, shared_of, local_of}
use Rattle.reached.specs.Sound.{StepsWell, steps_line}
use Rattle.reached.specs.Grows.{MemoryWell, Grows, Known, known_later}
use Rattle.reached.specs.Effects.{effect_grows, effect_well, ComesKnown, LineWell, line_known}
use Rattle.reached.specs.Image.{Owner, held, SharedImage, NodesFit, BusyImage, WorkerImage, Holds, phase_number, shared_after}
use Rattle.reached.proofs.ImageEffects.{owner_after, effect_image, effect_nodes}
use Rattle.reached.proofs.Ready.{HeaderImage, Standing, ready}
use Rattle.reached.proofs.LineImage.{answer_of, ComesImage, LineImage, line_image}
use Rattle.reached.proofs.Holding.{ComesHolds, LineHolds, line_holds, holds_frame, others_held, kept_later}
use Rattle.reached.proofs.Homes.{WorkerHolding, ComesHolding, effect_homes, line_holding, other_holding}
use Rattle.reached.proofs.Whole.{FewSteps, LimitsFit, WorkerKnown, WorkerHolds, StateImage, CatalogueImage, CallImage}

-- The header of a later memory.
pub header_later : (f : Cells) (l later : Limits) (xs : List Rattle.definitions.specs.Cells.Assignment) → later ≡ l
    → Proper l.workers l.items l.nodes xs → HeaderImage f l → HeaderImage (after f xs) later
header_later f l later xs e p h =
    subst (λ (x : Limits). HeaderImage (after f xs) x) (sym e)
    (record {
      workers_are = sizes workers (omega arith) ∙ h.workers_are;
      items_are = sizes items_limit (omega arith) ∙ h.items_are;
      nodes_are = sizes nodes_limit (omega arith) ∙ h.nodes_are;
      projects_are = sizes projects (omega arith) ∙ h.projects_are;
      limit_is = sizes counter_limit (omega arith) ∙ h.limit_is;
    })
  where
    sizes : (c : Rattle.definitions.specs.Cells.Cell) → c.kind < 5 → after f xs c ≡ f c
    sizes c l' = after_size l.workers l.items l.nodes f xs p c l'

-- The worker after its step.
abbrev pub next_worker : ℕ → List ℕ → Comes → Worker
next_worker o l (goes_on ph) = busy o l ph
next_worker o l (ends_with n) = idle
next_worker o l (answers_change x) = idle
next_worker o l (answers x τ j) = idle

settle_memory : (w o : ℕ) (l : List ℕ) (s : Catalogue) (e : Effect) (u : Comes)
    → (tick (settle w o l (affect o s e) u)).memory ≡ memory_after s.now o e s.memory
unfolding tick settle affect
settle_memory w o l s e (goes_on ph) = refl
settle_memory w o l s e (ends_with n) = refl
settle_memory w o l s e (answers_change x) = refl
settle_memory w o l s e (answers x τ j) = refl

settle_worker : (w o : ℕ) (l : List ℕ) (s : Catalogue) (e : Effect) (u : Comes)
    → (tick (settle w o l (affect o s e) u)).worker ≡ put s.worker w (next_worker o l u)
unfolding tick settle affect
settle_worker w o l s e (goes_on ph) = refl
settle_worker w o l s e (ends_with n) = refl
settle_worker w o l s e (answers_change x) = refl
settle_worker w o l s e (answers x τ j) = refl

-- A worker's image, and what it knows and holds, by what it comes to.
comes_worker : (its : ℕ → Item) (l : Local) (o : ℕ) (ls : List ℕ) (u : Comes) → ComesImage its l (length ls) u → WorkerImage its l (next_worker o ls u)
comes_worker its l o ls (goes_on ph) h = h
comes_worker its l o ls (ends_with n) h = h
comes_worker its l o ls (answers_change x) h = h
comes_worker its l o ls (answers x τ j) h = h

comes_known : (m : Memory) (o : ℕ) (ls : List ℕ) (u : Comes) → ComesKnown m u → WorkerKnown m (next_worker o ls u)
comes_known m o ls (goes_on ph) k = k
comes_known m o ls (ends_with n) k = tt
comes_known m o ls (answers_change x) k = tt
comes_known m o ls (answers x τ j) k = tt

comes_holds : (own : ℕ → Owner) (s : Shared) (its : ℕ → Item) (w o : ℕ) (ls : List ℕ) (u : Comes) → ComesHolds own s its w u
    → WorkerHolds own s its w (next_worker o ls u)
comes_holds own s its w o ls (goes_on ph) h = h
comes_holds own s its w o ls (ends_with n) h = tt
comes_holds own s its w o ls (answers_change x) h = tt
comes_holds own s its w o ls (answers x τ j) h = tt

comes_holding : (o : ℕ) (ls : List ℕ) (u : Comes) (y : ℕ) → ComesHolding u y → WorkerHolding (next_worker o ls u) y
comes_holding o ls (goes_on ph) y h = h
comes_holding o ls (ends_with n) y h = h
comes_holding o ls (answers_change x) y h = h
comes_holding o ls (answers x τ j) y h = h

comes_answer : (ls : List ℕ) (u : Comes) → step_answer ls u ≡ answer_of (length ls) u
comes_answer ls (goes_on ph) = refl
comes_answer ls (ends_with n) = refl
comes_answer ls (answers_change x) = refl
comes_answer ls (answers x τ j) = refl

-- One step of worker w, which is in operation o and has executed these lines.
module _ (f : Cells) (s : Catalogue) (Z : CatalogueImage f s) (w : ℕ) (w_in : w < s.memory.limits.workers) (o : ℕ) (ls : List ℕ) (ph : Phase)
    (at_w : s.worker w ≡ busy o ls ph) (short : length ls ≤ 5120) where
  abbrev x : Next
  x = line s.now s.memory ph

  abbrev ls' : List ℕ
  ls' = line_number ph ∷ ls

  abbrev later : Memory
  later = memory_after s.now o x.does s.memory

  abbrev own' : ℕ → Owner
  own' = owner_after w s.memory x.does Z.own

  pub standing : Standing f s.memory Z.own w
  standing = record {
    header = Z.header;
    shared = Z.shared;
    nodes = Z.nodes;
    well = Z.well;
    few_items = Z.limits_fit.items_in.1;
    below_TBD = omega (arith, Z.limits_fit.counter_in.1);
    worker_in = w_in;
  }

  pub is_busy : BusyImage s.memory.item (local_of f w) (length ls) ph
  is_busy = subst (λ (v : Worker). WorkerImage s.memory.item (local_of f w) v) at_w (Z.worker_is w w_in)

  pub knows : Known s.memory ph
  knows = subst (λ (v : Worker). WorkerKnown s.memory v) at_w (Z.known w w_in)

  pub has : Holds Z.own (shared_of f) s.memory.item w ph
  has = subst (λ (v : Worker). WorkerHolds Z.own (shared_of f) s.memory.item w v) at_w (Z.holds w w_in)

  few : f (steps w) ≤ 5120
  few = omega (arith, is_busy.steps_are)

  pub steps_well : StepsWell (phase_number ph) f w
  steps_well = ready f s.memory Z.own w standing few ph is_busy.phase_is is_busy.kept knows has

  out_is : code.stepping f w ≡ (line_of_phase (phase_number ph)).does f w
  out_is = steps_line (phase_number ph) f w steps_well

  abbrev out : Outcome
  out = (line_of_phase (phase_number ph)).does f w

  like : LineImage f s.memory w s.now o (length ls) x out
  like = line_image f s.memory Z.own w standing s.now o (length ls) is_busy.steps_are ph is_busy.phase_is is_busy.kept knows has

  fits : LineWell s.now o s.memory x
  fits = line_known s.now o s.memory Z.well ph knows

  hands : LineHolds Z.own (shared_of f) s.memory w s.now o x
  hands = line_holds Z.own (shared_of f) s.memory Z.well w s.now o ph knows has

  grown : Grows s.memory later
  grown = effect_grows s.now o s.memory Z.well x.does fits.fits

  well_later : MemoryWell later
  well_later = effect_well s.now o s.memory Z.well x.does fits.fits

  -- another worker
  other_image : (v : ℕ) (u : Worker) → w ≢ v → WorkerKnown s.memory u → WorkerImage s.memory.item (local_of f v) u
      → WorkerImage later.item (local_of (after f out.writes) v) u
  other_image v idle d k h = subst (λ (l : Local). l.phase ≡ 0) (sym (like.others_stay v d)) h
  other_image v (busy q l p) d k h =
      subst (λ (y : Local). BusyImage later.item y (length l) p) (sym (like.others_stay v d))
      (record { phase_is = h.phase_is; steps_are = h.steps_are; kept = kept_later grown Z.well (local_of f v) p k h.kept })

  other_known : (u : Worker) → WorkerKnown s.memory u → WorkerKnown later u
  other_known idle k = tt
  other_known (busy q l p) k = known_later grown Z.well p k

  other_holds : (v : ℕ) (u : Worker) → v ≢ w → WorkerKnown s.memory u → WorkerHolds Z.own (shared_of f) s.memory.item v u
      → WorkerHolds own' (shared_after s.memory x.does (shared_of f)) later.item v u
  other_holds v idle d k h = tt
  other_holds v (busy q l p) d k h =
      holds_frame Z.own own' (shared_of f) (shared_after s.memory x.does (shared_of f)) grown Z.well v
      (others_held s.memory (shared_of f) Z.own Z.shared w v d x.does fits.fits hands.effect) p k h

  -- the limits stay
  limits_same : later.limits ≡ s.memory.limits
  limits_same = grown.limits

  workers_same : later.limits.workers ≡ s.memory.limits.workers
  workers_same = ap (λ (l : Limits). l.workers) limits_same

  abbrev workers' : ℕ → Worker
  workers' = put s.worker w (next_worker o ls' x.comes)

  image_at : (v : ℕ) → v < s.memory.limits.workers → Same v w → WorkerImage later.item (local_of (after f out.writes) v) (workers' v)
  image_at v l (eq e) =
      subst (λ (u : Worker). WorkerImage later.item (local_of (after f out.writes) v) u)
      (sym (put_same s.worker w (next_worker o ls' x.comes) v e))
      (subst (λ (v : ℕ). WorkerImage later.item (local_of (after f out.writes) v) (next_worker o ls' x.comes)) (sym e)
      (comes_worker later.item _ o ls' x.comes like.next_is))
  image_at v l (ne e) =
      subst (λ (u : Worker). WorkerImage later.item (local_of (after f out.writes) v) u)
      (sym (put_other s.worker w (next_worker o ls' x.comes) v e))
      (other_image v (s.worker v) (λ d. e (sym d)) (Z.known v l) (Z.worker_is v l))

  known_at : (v : ℕ) → v < s.memory.limits.workers → WorkerKnown later (workers' v)
  known_at v l =
      put_all (λ (v : ℕ) (u : Worker). v < s.memory.limits.workers → WorkerKnown later u) s.worker w (next_worker o ls' x.comes) v
      (λ e l. comes_known later o ls' x.comes fits.next)
      (λ e l. other_known (s.worker v) (Z.known v l)) l

  holds_at : (v : ℕ) → v < s.memory.limits.workers → WorkerHolds own' (shared_after s.memory x.does (shared_of f)) later.item v (workers' v)
  holds_at v l =
      put_all (λ (v : ℕ) (u : Worker). v < s.memory.limits.workers
      → WorkerHolds own' (shared_after s.memory x.does (shared_of f)) later.item v u) s.worker w (next_worker o ls' x.comes) v
      (λ e l. subst (λ (v : ℕ). WorkerHolds own' (shared_after s.memory x.does (shared_of f)) later.item v (next_worker o ls' x.comes)) (sym e)
      (comes_holds own' (shared_after s.memory x.does (shared_of f)) later.item w o ls' x.comes hands.next))
      (λ e l. other_holds v (s.worker v) e (Z.known v l) (Z.holds v l)) l

  -- a node that is somebody's is held by his phase
  held_at : (y v : ℕ) → own' y ≡ held v → Same v w → (v < later.limits.workers) × WorkerHolding (workers' v) y
  held_at y v g (eq e) = (
    omega (arith, workers_same),
    subst (λ (u : Worker). WorkerHolding u y) (sym (put_same s.worker w (next_worker o ls' x.comes) v e))
        (comes_holding o ls' x.comes y (line_holding s.now w s.memory Z.own y ph
        (λ h. subst (λ (u : Worker). WorkerHolding u y) at_w (Z.held_home y w h).1) (g ∙ ap held e))),
  )
  held_at y v g (ne e) = let h : (v < s.memory.limits.workers) × WorkerHolding (s.worker v) y =
      Z.held_home y v (other_holding s.now w s.memory Z.own y v e x.does g) in (
        omega (arith, workers_same, h.0),
        subst (λ (u : Worker). WorkerHolding u y) (sym (put_other s.worker w (next_worker o ls' x.comes) v e))
            h.1,
      )

  stepped_image : StateImage (after f out.writes) later workers'
  stepped_image = record {
    own = own';
    limits_fit = subst LimitsFit (sym limits_same) Z.limits_fit;
    header = header_later f s.memory.limits later.limits out.writes limits_same like.proper Z.header;
    shared = subst (λ (y : Shared). SharedImage later y own') (sym like.shared_is)
        (effect_image s.now o w s.memory Z.well (shared_of f) Z.own Z.shared x.does fits.fits hands.effect);
    nodes = subst (λ (y : Shared). NodesFit later y) (sym like.shared_is)
        (effect_nodes s.now o w s.memory Z.well (shared_of f) Z.own Z.shared x.does fits.fits hands.effect Z.nodes);
    well = well_later;
    worker_is = λ v l. image_at v (omega (arith, workers_same)) (same? v w);
    known = λ v l. known_at v (omega (arith, workers_same));
    holds = λ v l. subst (λ (y : Shared). WorkerHolds own' y later.item v (workers' v)) (sym like.shared_is)
        (holds_at v (omega (arith, workers_same)));
    homes = effect_homes s.memory (shared_of f) Z.own Z.shared Z.homes s.now o w Z.well x.does fits.fits;
    held_home = λ y v g. held_at y v g (same? v w);
  }

  -- the machine's step
  moved : move s (Call.step w) ≡ stepped s w (busy o ls ph)
  unfolding move stepping
  moved = rw (lt-leb s.memory.limits.workers w w_in, at_w)

  moved_image : StateImage (after f out.writes) (call s (Call.step w)).memory (call s (Call.step w)).worker
  unfolding call stepped
  moved_image =
      subst (λ (y : Move). StateImage (after f out.writes) (tick y.leaves).memory (tick y.leaves).worker) (sym moved)
      (subst (λ (y : Memory). StateImage (after f out.writes) y (tick (settle w o ls' (affect o s x.does) x.comes)).worker)
      (sym (settle_memory w o ls' s x.does x.comes))
      (subst (λ (y : ℕ → Worker). StateImage (after f out.writes) later y) (sym (settle_worker w o ls' s x.does x.comes)) stepped_image))

  pub busy_step : CallImage f s (Call.step w) (code.stepping f w)
  unfolding reply stepped
  busy_step =
      subst (λ (u : Outcome). CallImage f s (Call.step w) u) (sym out_is)
      (record {
        answer_is = like.answer_is ∙ sym (comes_answer ls' x.comes) ∙ sym (ap (λ (y : Move). y.answer) moved);
        proper = like.proper;
        image = moved_image;
      })

-- A call that is refused with number n changes nothing.
pub refused_image : (f : Cells) (s : Catalogue) (Z : CatalogueImage f s) (c : Call) (number : ℕ) → move s c ≡ refused s number
    → CallImage f s c (outcome.refused number)
unfolding call reply tick
refused_image f s Z c number e =
    record {
      answer_is = sym (ap (λ (y : Move). y.answer) e);
      proper = tt;
      image = subst (λ (y : Move). StateImage f (tick y.leaves).memory (tick y.leaves).worker) (sym e) Z;
    }

-- A step of any worker.
pub step_image : (f : Cells) (s : Catalogue) (Z : CatalogueImage f s) → FewSteps s.worker → (w : ℕ) → CallImage f s (Call.step w) (code.stepping f w)
step_image f s Z F w = at (split w s.memory.limits.workers)
  where
    machine_3 : s.memory.limits.workers ≤ w → move s (Call.step w) ≡ refused s 3
    machine_3 l = unfold move stepping in rw (le-leb s.memory.limits.workers w l)

    code_3 : s.memory.limits.workers ≤ w → code.stepping f w ≡ outcome.refused 3
    code_3 l = unfold code.stepping in rw (le-leb (f workers) w (omega (arith, Z.header.workers_are)))

    machine_5 : w < s.memory.limits.workers → s.worker w ≡ idle → move s (Call.step w) ≡ refused s 5
    machine_5 l e = unfold move stepping in rw (lt-leb s.memory.limits.workers w l, e)

    code_5 : w < s.memory.limits.workers → f (phase w) ≡ 0 → code.stepping f w ≡ outcome.refused 5
    code_5 l e = unfold code.stepping in rw (lt-leb (f workers) w (omega (arith, Z.header.workers_are)), e)

    by_worker : w < s.memory.limits.workers → (v : Worker) → s.worker w ≡ v → CallImage f s (Call.step w) (code.stepping f w)
    by_worker l idle e =
        subst (λ (u : Outcome). CallImage f s (Call.step w) u)
        (sym (code_5 l (subst (λ (v : Worker). WorkerImage s.memory.item (local_of f w) v) e (Z.worker_is w l))))
        (refused_image f s Z (Call.step w) 5 (machine_5 l e))
    by_worker l (busy o ls ph) e = busy_step f s Z w l o ls ph e (F w o ls ph e)

    at : Split w s.memory.limits.workers → CallImage f s (Call.step w) (code.stepping f w)
    at (Split.less l) = by_worker l (s.worker w) refl
    at (Split.more l) = subst (λ (u : Outcome). CallImage f s (Call.step w) u) (sym (code_3 l)) (refused_image f s Z (Call.step w) 3 (machine_3 l))
