-- The list of effects of every run: one at a time, and each told by the run.
use Rattle.std.specs.Prelude.{◌≡◌, refl, ◌↔◌, List, [], ◌∷◌, map, ℕ, zero, suc, ◌≤◌, ◌<◌}
use Rattle.std.proofs.Common.{ap, ap₂, sym, ◌∙◌, subst, inl, inr, arith}
use Rattle.history.specs.Tools.{Split, split}
use Rattle.history.specs.Notes.{Note, Effect, birth, change, snapshot, time}
use Rattle.history.specs.Effects.{effects}
use Rattle.history.specs.Notes as Notes
use Rattle.history.specs.NoteParts.{deed_item, deed_value}
use Rattle.history.specs.Statements.{Executed, FirstStamp, In, Once, Falling, TellsOf}
use Rattle.history.specs.Machine.{Event, Limits, Catalogue, after_events}
use Rattle.history.proofs.Places.{Invariant}
use Rattle.history.proofs.Run.{run_right}
use Rattle.history.proofs.MachineNotes.{machine_notes}
use Rattle.history.proofs.Trace.{Stamping, Traced}
use Rattle.history.proofs.TraceRun.{traced}
use Rattle.history.proofs.Moments.{BornBy, Moments, moments}
use Rattle.history.proofs.Instants.{stamped_before, change_stamped}
use Rattle.history.proofs.Immediately.{noted_one, same_event, other_line, not_registered, same_change}
use Rattle.history.proofs.EffectsRight.{version_effect, snapshot_effect, IsEffect, of_version, of_counter, left_then}
use Rattle.history.proofs.EffectLaws.{birth_among, snapshot_among}
use Rattle.history.proofs.EffectsRun.{Effected, effected}

abbrev note_item : Note → ℕ
note_item (Notes.quiet x) = 0
note_item (Notes.registered i v s) = i
note_item (Notes.started w op) = 0
note_item (Notes.stepped w k d e) = 0
note_item (Notes.abandoned w b) = 0

module _ (s : Catalogue) (invariant : Invariant s) (run : List Note) (trace : Traced s run) (moment : Moments s run) (listed : Effected s run) where
  there : (i j : ℕ) → j < (s.memory.item i).valid → i < s.memory.items
  there i j p = at (split i s.memory.items)
    where
      at : Split i s.memory.items → i < s.memory.items
      at (Split.less q) = q
      at (Split.more q) = absurd (omega (arith, invariant.kept.memory.unregistered i q, (invariant.kept.memory.item i).valid_published))

  -- two versions that took effect at one time are one
  same_version : (i j i' j' : ℕ) → j < (s.memory.item i).valid → j' < (s.memory.item i').valid →
      (s.memory.item i).effect_at j ≡ (s.memory.item i').effect_at j' → (i ≡ i') × (j ≡ j')
  same_version i j i' (suc j') p p' e = same_change s invariant run trace moment i' j' p' i j p e
  same_version i (suc j) i' zero p p' e = let z : (i' ≡ i) × (0 ≡ suc j) = same_change s invariant run trace moment i j p i' zero p' (sym e) in
      (sym z.0, sym z.1)
  same_version i zero i' zero p p' e =
      (ap note_item (noted_one _ _ b.past b'.past run b.noted b'.noted (b.at ∙ e ∙ sym b'.at)).0, refl)
    where
      b : BornBy (s.memory.item i) run i
      b = moment.births i (there i 0 p)

      b' : BornBy (s.memory.item i') run i'
      b' = moment.births i' (there i' 0 p')

  -- the counter moves at no version's instant
  not_moved : (i j h : ℕ) → j < (s.memory.item i).valid → h < s.memory.camera.counter →
      s.memory.camera.left_at h ≡ (s.memory.item i).effect_at j → ⊥
  not_moved i zero h p q e =
      not_registered run (moment.births i (there i 0 p)) (subst (λ (t : ℕ). Executed run (trace.memory.left h q).0 6 (Notes.moves h) t) e
      (trace.memory.left h q).1)
  not_moved i (suc j) h p q e =
      other_line run (subst (λ (t : ℕ). Executed run (trace.memory.left h q).0 6 (Notes.moves h) t) e (trace.memory.left h q).1)
      (trace.memory.stamped i j p).read (omega arith)

  same_handle : (h h' : ℕ) → h < s.memory.camera.counter → h' < s.memory.camera.counter →
      s.memory.camera.left_at h ≡ s.memory.camera.left_at h' → h ≡ h'
  same_handle h h' p q e =
      ap deed_item (same_event run (subst (λ (t : ℕ). Executed run (trace.memory.left h p).0 6 (Notes.moves h) t) e (trace.memory.left h p).1)
      (trace.memory.left h' q).1).1

  version_at : (i j : ℕ) (x : Effect) → x ≡ version_effect (s.memory.item i) i j → time x ≡ (s.memory.item i).effect_at j
  version_at i zero x e = ap time e
  version_at i (suc j) x e = ap time e

  one_at_a_time : (x y : Effect) → IsEffect s.memory x → IsEffect s.memory y → time x ≡ time y → x ≡ y
  one_at_a_time x y (of_version i j p e) (of_version i' j' p' e') q =
      let z : (i ≡ i') × (j ≡ j') = same_version i j i' j' p p' (sym (version_at i j x e) ∙ q ∙ version_at i' j' y e') in
      e ∙ ap₂ (λ (i j : ℕ). version_effect (s.memory.item i) i j) z.0 z.1 ∙ sym e'
  one_at_a_time x y (of_version i j p e) (of_counter h p' e') q =
      absurd (not_moved i j h p p' (sym (ap time e') ∙ sym q ∙ version_at i j x e))
  one_at_a_time x y (of_counter h p e) (of_version i j p' e') q =
      absurd (not_moved i j h p' p (sym (ap time e) ∙ q ∙ version_at i j y e'))
  one_at_a_time x y (of_counter h p e) (of_counter h' p' e') q =
      e ∙ ap (snapshot_effect s.memory.camera) (same_handle h h' p p' (sym (ap time e) ∙ q ∙ ap time e'))
      ∙ sym e'

  tells_of : (x : Effect) → IsEffect s.memory x → TellsOf run x
  tells_of x (of_counter h p e) = subst (λ (x : Effect). TellsOf run x) (sym e) (trace.memory.left h p)
  tells_of x (of_version i zero p e) = subst (λ (x : Effect). TellsOf run x) (sym e) (b.past, b.noted, b.at)
    where
      b : BornBy (s.memory.item i) run i
      b = moment.births i (there i 0 p)
  tells_of x (of_version i (suc j) p e) =
      subst (λ (x : Effect). TellsOf run x) (sym e) (
        (s.memory.item i).author (suc j),
        (s.memory.item i).stamped_at (suc j),
        trace.memory.published i j (omega (arith, (invariant.kept.memory.item i).valid_published)),
        change_stamped s invariant run trace i j p,
      )

  -- all that the run tells of is there: a change is the version that was published at p, whose stamp is the first after that
  module _ (t i v p o z : ℕ) (P : Executed run o 46 (Notes.publishes i v) p) (F : FirstStamp run i p t z) where
    at_46 : (j : ℕ) × (suc j < (s.memory.item i).versions) × (p ≡ (s.memory.item i).published_at (suc j))
    at_46 = trace.memory.publishes_only o i v p P

    at_22 : (j : ℕ) × (suc j < (s.memory.item i).valid) × (z ≡ (s.memory.item i).stamped_at (suc j))
    at_22 = trace.memory.stamps_only F.0 i z F.1

    abbrev j : ℕ
    j = at_46.0

    -- a version before that one has its stamp before p
    not_before : at_22.0 < at_46.0 → ⊥
    not_before u = omega (
      arith,
      stamped_before invariant.kept.memory i (suc at_22.0) (suc at_46.0) (omega arith) at_46.1,
      at_46.2,
      at_22.2,
      F.2.0,
    )

    good : suc j < (s.memory.item i).valid
    good = by (split (suc at_46.0) (s.memory.item i).valid)
      where
        by : Split (suc at_46.0) (s.memory.item i).valid → suc at_46.0 < (s.memory.item i).valid
        by (Split.less u) = u
        by (Split.more u) = absurd (not_before (omega (arith, at_22.1)))

    S : Stamping (s.memory.item i) run i (suc j)
    S = trace.memory.stamped i j good

    first : z ≤ (s.memory.item i).stamped_at (suc j)
    first = F.2.1 ((s.memory.item i).stamped_at (suc j)) (S.o, S.stored)
        (omega (arith, at_46.2, (invariant.kept.memory.item i).effect_after_46 (suc j) good, S.before))

    when : z ≡ (s.memory.item i).stamped_at (suc j)
    when = by (split at_22.0 at_46.0) (split at_46.0 at_22.0)
      where
        by : Split at_22.0 at_46.0 → Split at_46.0 at_22.0 → z ≡ (s.memory.item i).stamped_at (suc j)
        by (Split.less u) w = absurd (not_before u)
        by (Split.more u) (Split.less w) =
            absurd (omega (
              arith,
              first,
              at_22.2,
              stamped_before invariant.kept.memory i (suc at_46.0) (suc at_22.0) (omega arith)
                  (omega (arith, at_22.1, (invariant.kept.memory.item i).valid_published)),
              (invariant.kept.memory.item i).effect_after_46
                  (suc at_22.0) at_22.1,
              (invariant.kept.memory.item i).effect_before_22 (suc at_22.0) at_22.1,
            ))
        by (Split.more u) (Split.more w) =
            let q : at_22.0 ≡ at_46.0 = omega arith in at_22.2 ∙ ap (λ (n : ℕ). (s.memory.item i).stamped_at (suc n)) q

    one : F.0 ≡ S.o
    one = (same_event run F.1 (subst (λ (t : ℕ). Executed run S.o 22 (Notes.stamps i) t) (sym when) S.stored)).2

    -- both are the step of that operation before its line 22
    read : t ≡ (s.memory.item i).effect_at (suc j)
    read = by (split t ((s.memory.item i).effect_at (suc j))) (split ((s.memory.item i).effect_at (suc j)) t)
      where
        by : Split t ((s.memory.item i).effect_at (suc j)) → Split ((s.memory.item i).effect_at (suc j)) t → t ≡ (s.memory.item i).effect_at
            (suc j)
        by (Split.less u) w =
            absurd (omega (
              arith,
              when,
              S.before,
              F.4.1 ((s.memory.item i).effect_at (suc j))
                  (21, Notes.nothing, subst (λ (q : ℕ). Executed run q 21 Notes.nothing ((s.memory.item i).effect_at (suc j))) (sym one) S.read) u,
            ))
        by (Split.more u) (Split.less w) =
            absurd (omega (
              arith,
              when,
              F.4.0,
              S.own_next 21 Notes.nothing t (subst (λ (q : ℕ). Executed run q 21 Notes.nothing t) one F.3)
                  w,
            ))
        by (Split.more u) (Split.more w) = omega arith

    value : (s.memory.item i).value (suc j) ≡ v
    value = ap deed_value (same_event run (trace.memory.published i j at_46.1)
        (subst (λ (t : ℕ). Executed run o 46 (Notes.publishes i v) t) at_46.2 P)).1

    same : version_effect (s.memory.item i) i (suc j) ≡ change t i v p
    same = ap (λ (t : ℕ). change t i ((s.memory.item i).value (suc j)) ((s.memory.item i).published_at (suc j))) (sym read)
        ∙ ap₂ (λ (v p : ℕ). change t i v p) value (sym at_46.2)

    change_there : In (change t i v p) (effects run)
    change_there = subst (λ (x : Effect). In x (effects run)) same (listed.memory.versions i (suc j) good)

  -- the counter leaves each handle once
  left_once : (h t t' : ℕ) → IsEffect s.memory (snapshot t h) → IsEffect s.memory (snapshot t' h) → t ≡ t'
  left_once h t t' a b = (left_then s.memory h t a).1 ∙ sym (left_then s.memory h t' b).1

  -- it leaves them in their order
  left_in_turn : (g h t : ℕ) → IsEffect s.memory (snapshot t h) → g < h → (u : ℕ) × In (snapshot u g) (effects run) × (u < t)
  left_in_turn g h t a p =
      let y : (h < s.memory.camera.counter) × (t ≡ s.memory.camera.left_at h) = left_then s.memory h t a in (
        s.memory.camera.left_at g,
        listed.memory.snapshots g (omega arith),
        omega (arith, y.1, invariant.kept.memory.left_rises g h p y.0),
      )

  all_told : (x : Effect) → TellsOf run x → In x (effects run)
  all_told (birth t i v z) (past, n, e) = subst (λ (t : ℕ). In (birth t i v z) (effects run)) e (birth_among i v z past run n)
  all_told (snapshot t h) (o, e) = subst (λ (t : ℕ). In (snapshot t h) (effects run)) e.at
      (snapshot_among e.w 6 h e.e e.past run e.noted)
  all_told (change t i v p) (o, z, P, F) = change_there t i v p o z P F

-- one at a time: no time stands twice
in_times : (t : ℕ) (l : List Effect) → In t (map time l) → (y : Effect) × In y l × (t ≡ time y)
in_times t [] a = absurd a
in_times t (y ∷ l) (inl e) = (y, inl refl, e)
in_times t (y ∷ l) (inr a) = let z : (y : Effect) × In y l × (t ≡ time y) = in_times t l a in (z.0, inr z.1, z.2)

times_once : (l : List Effect) → Once l → ((x y : Effect) → In x l → In y l → time x ≡ time y → x ≡ y) → Once (map time l)
times_once [] o f = tt
times_once (x ∷ l) o f = (λ a. again (in_times (time x) l a), times_once l o.1 (λ y z a b. f y z (inr a) (inr b)))
  where
    again : (y : Effect) × In y l × (time x ≡ time y) → ⊥
    again (y, a, e) = o.0 (subst (λ (y : Effect). In y l) (sym (f x y (inl refl) (inr a) e)) a)

module _ (limits : Limits) (es : List Event) where
  pub ordered : Falling time (effects (machine_notes limits es))
  ordered = (effected limits es).memory.ordered

  pub apart : Once (map time (effects (machine_notes limits es)))
  apart = times_once (effects (machine_notes limits es)) (effected limits es).memory.once
      (λ x y a b. one_at_a_time (after_events limits es) (run_right limits es) (machine_notes limits es) (traced limits es) (moments limits es)
      (effected limits es) x y ((effected limits es).memory.only x a) ((effected limits es).memory.only y b))

  pub leaves_once : (h t t' : ℕ) → In (snapshot t h) (effects (machine_notes limits es)) → In (snapshot t' h) (effects (machine_notes limits es)) →
      t ≡ t'
  leaves_once h t t' a b =
      left_once (after_events limits es) (run_right limits es) (machine_notes limits es) (traced limits es) (moments limits es) (effected limits es)
      h t t' ((effected limits es).memory.only (snapshot t h) a) ((effected limits es).memory.only (snapshot t' h) b)

  pub in_turn : (g h t : ℕ) → In (snapshot t h) (effects (machine_notes limits es)) → g < h →
      (u : ℕ) × In (snapshot u g) (effects (machine_notes limits es)) × (u < t)
  in_turn g h t a p =
      left_in_turn (after_events limits es) (run_right limits es) (machine_notes limits es) (traced limits es) (moments limits es) (effected limits es)
      g h t ((effected limits es).memory.only (snapshot t h) a) p

  pub exactly : (x : Effect) → In x (effects (machine_notes limits es)) ↔ TellsOf (machine_notes limits es) x
  exactly x = (
    λ a. tells_of (after_events limits es) (run_right limits es) (machine_notes limits es) (traced limits es) (moments limits es)
        (effected limits es) x ((effected limits es).memory.only x a),
    λ t. all_told (after_events limits es) (run_right limits es) (machine_notes limits es) (traced limits es) (moments limits es)
        (effected limits es) x t,
  )
