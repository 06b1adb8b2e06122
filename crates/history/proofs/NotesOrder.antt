-- Demand 2 for the notes of every run of the machine of versions: the one order, each operation at the instant that document 01 gives.
use Rattle.std.specs.Prelude.{◌≡◌, refl, ◌⊎◌, true, List, [], ◌∷◌, map, ℕ, zero, suc, ◌*◌, ◌≤◌, ◌<◌, get_or}
use Rattle.std.proofs.Common.{ap, ap₂, sym, ◌∙◌, subst, inl, inr, arith}
use Rattle.history.specs.Tools.{Split, split, Same, eq, ne, same?}
use Rattle.history.specs.Definition1.{Operation, register, v_read, v_cas, take_snapshot, read_snapshot, total, Act, Legal}
use Rattle.history.specs.Notes.{Note, ledger, snapshot}
use Rattle.history.specs.Notes as Notes
use Rattle.history.specs.Statements.{Executed, Abandoned, Moved, FirstStamp, ChangeInstant, LossInstant, TakeInstant, CasInstant, Instant}
use Rattle.history.specs.Statements as Told
use Rattle.history.specs.Machine.{Event, Limits, Memory, Place, Catalogue, after_events}
use Rattle.history.proofs.Places.{asked_for, PlaceRight, Invariant}
use Rattle.history.specs.Facts.{CounterWas}
use Rattle.history.proofs.Run.{run_right}
use Rattle.history.proofs.Instants.{stamped_before, head_instant, change_stamped, change_instant, loss_instant}
use Rattle.history.proofs.Moments.{Moments, moments}
use Rattle.history.proofs.Immediately.{same_event, right_after}
use Rattle.history.proofs.MachineOrder.{time_of, Pending, Within, inside, in_call}
use Rattle.history.proofs.OrderShown.{operation_tag}
use Rattle.history.proofs.OrderList.{order_to}
use Rattle.history.proofs.Order.{has_one_order, order_is}
use Rattle.history.proofs.MachineNotes.{machine_notes}
use Rattle.history.specs.NoteParts.{ending_tag}
use Rattle.history.proofs.Abandons.{stays_given_up}
use Rattle.history.proofs.LedgerRight.{is_answer, unanswered, Agrees, agrees}
use Rattle.history.proofs.Trace.{CasTraced, EndTraced, Traced}
use Rattle.history.proofs.Trace as Trace
use Rattle.history.specs.Effects.{effects}
use Rattle.history.proofs.EffectsRight.{left_then}
use Rattle.history.proofs.EffectLaws.{snapshot_among}
use Rattle.history.proofs.EffectsRun.{Effected, effected}
use Rattle.history.proofs.TraceRun.{done_past, traced}

-- a version with its stamp, of which o is the author, and which was published at p
record VersionOf (m : Memory) (o i p : ℕ) : Type 0 where
  j : ℕ
  stamped : suc j < (m.item i).valid
  mine : o ≡ (m.item i).author (suc j)
  published : p ≡ (m.item i).published_at (suc j)

module _ (s : Catalogue) (invariant : Invariant s) (run : List Note) (T : Traced s run) (E : Effected s run) where
  -- when the counter left x, which line 5 of operation o read at f
  take_instant : (o x f : ℕ) → x < s.memory.camera.counter → Executed run o 5 Notes.nothing f → CounterWas s.memory.camera f x →
      TakeInstant run o x (s.memory.camera.left_at x)
  take_instant o x f p r was =
      (f, (T.memory.left x p).0, r, (T.memory.left x p).1, (was.ahead x (omega arith) p, λ t m q. first t q m.1 (moved_then m) (split m.1 x) (same? x m.1)))
    where
      moved_then : {t : ℕ} (m : Moved run t) → (m.1 < s.memory.camera.counter) × (t ≡ s.memory.camera.left_at m.1)
      moved_then {t} m = left_then s.memory m.1 t (E.memory.only (snapshot t m.1)
          (subst (λ (t : ℕ). Told.In (snapshot t m.1) (effects run)) m.2.at (snapshot_among m.2.w 6 m.1 m.2.e m.2.past run m.2.noted)))

      first : (t : ℕ) → f < t → (h : ℕ) → (h < s.memory.camera.counter) × (t ≡ s.memory.camera.left_at h) → Split h x → Same x h →
          s.memory.camera.left_at x ≤ t
      first t q h (g, e) (Split.less l) y = absurd (omega (arith, was.past h l))
      first t q h (g, e) (Split.more l) (eq y) = omega (arith, ap s.memory.camera.left_at y)
      first t q h (g, e) (Split.more l) (ne y) = omega (arith, invariant.kept.memory.left_rises x h (omega arith) g)

  -- the instant of an operation that answered
  the_instant : Agrees s run → (o : ℕ) (op : Operation) → (s.fate o).operation ≡ op → (s.fate o).done ≡ true →
      EndTraced s.memory run o op (s.fate o).lines (s.place o) → Instant run o (s.fate o).answer op ((has_one_order s invariant).time o)
  the_instant A o (register i v z) w d e = (has_one_order s invariant).instants.of_register o i v z w d
  the_instant A o (v_read i) w d e = head_instant s invariant run T o 37 i e.j e.f _ e.fetched e.good ((has_one_order s invariant).placed o
      ∙ ap (time_of s.memory) e.is ∙ e.at)
  the_instant A o (v_cas i a b) w d e =
      subst (λ (l : List ℕ). CasInstant run o i (get_or l 0 0) ((has_one_order s invariant).time o)) (sym ((A.fate o).done d).1) (at e)
    where
      at : CasTraced s.memory run o i (s.fate o).lines (s.place o) → CasInstant run o i (get_or (s.fate o).lines 0 0)
          ((has_one_order s invariant).time o)
      at (Trace.ends_43 q e) =
          inl (
            q,
            head_instant s invariant run T o 41 i e.j e.f _ e.fetched e.good ((has_one_order s invariant).placed o
                ∙ ap (time_of s.memory) e.is ∙ e.at),
          )
      at (Trace.ends_48 q j g m) =
          inr (inl (
            q,
            subst (λ (τ : ℕ). ChangeInstant run o i τ)
                (sym ((has_one_order s invariant).placed o
                ∙ ap (time_of s.memory)
                (ap s.place (sym m)
                ∙ (invariant.kept.versions_right i (suc j) (omega (arith, (invariant.kept.memory.item i).valid_published))).valid g)))
                (subst (λ (o : ℕ). ChangeInstant run o i ((s.memory.item i).effect_at (suc j))) m (change_instant s invariant run T i j g)),
          ))
      at (Trace.ends_52 q e) =
          inr (inr (
            q,
            subst (λ (τ : ℕ). LossInstant run o i τ) (sym ((has_one_order s invariant).placed o ∙ ap (time_of s.memory) e.is ∙ e.at))
                (loss_instant s invariant run T o i e.g e.lost e.good),
          ))
  the_instant A o take_snapshot w d e = subst (λ (τ : ℕ). TakeInstant run o (s.fate o).answer τ) (sym z.0)
      (take_instant o (s.fate o).answer e.r z.1 e.read (subst (λ (x : ℕ). CounterWas s.memory.camera e.r x) same e.was))
    where
      z : ((has_one_order s invariant).time o ≡ s.memory.camera.left_at (s.fate o).answer) × ((s.fate o).answer < s.memory.camera.counter)
      z = (has_one_order s invariant).instants.of_take o w d

      same : e.x ≡ (s.fate o).answer
      same = sym (subst (λ (p : Place). PlaceRight s.now o s.memory (s.fate o) p) e.is (invariant.kept.places o)).is
  the_instant A o (read_snapshot i h) w d e = (has_one_order s invariant).instants.of_read_snapshot o i h w d ∙ sym ((A.fate o).done d).2
  the_instant A o (total q h) w d e = (has_one_order s invariant).instants.of_total o q h w d ∙ sym ((A.fate o).done d).2

  pending : (A : Agrees s run) (o : ℕ) → Pending s o → Told.Pending run o ((has_one_order s invariant).time o)
  pending A o P = at P.j refl
    where
      good : P.j < (s.memory.item P.i).versions
      good = omega (arith, P.valid, (invariant.kept.memory.item P.i).valid_published)

      at : (j : ℕ) → P.j ≡ j → Told.Pending run o ((has_one_order s invariant).time o)
      at zero e = let z : ◌≡◌ {A = ℕ} 0 2 = ap operation_tag (sym (ap (asked_for (s.memory.item P.i) P.i) e)
          ∙ sym (invariant.kept.versions_right P.i P.j good).asked ∙ ap (λ (o : ℕ). (s.fate o).operation) P.mine ∙ P.is_cas) in
          absurd (omega arith)
      at (suc j) e = (
        unanswered (A.fate o) P.unfinished,
        P.i,
        P.a,
        P.b,
        (A.fate o).operation ∙ P.is_cas,
        subst (λ (τ : ℕ). ChangeInstant run o P.i τ)
            (sym ((has_one_order s invariant).placed o
            ∙ ap (time_of s.memory) (ap s.place (sym P.mine) ∙ (invariant.kept.versions_right P.i P.j good).valid P.valid)
            ∙ ap (s.memory.item P.i).effect_at e))
            (subst (λ (o : ℕ). ChangeInstant run o P.i ((s.memory.item P.i).effect_at (suc j))) (ap (s.memory.item P.i).author (sym e)
            ∙ P.mine) (change_instant s invariant run T P.i j (omega (arith, P.valid)))),
      )

  -- a change that the run tells of is a version with its stamp
  version_of : (o i τ : ℕ) (C : ChangeInstant run o i τ) → VersionOf s.memory o i C.1
  version_of o i τ C = record { j = P.0; stamped = stamped (split (suc P.0) (s.memory.item i).valid); mine = mine; published = P.2 }
    where
      P : (j : ℕ) × (suc j < (s.memory.item i).versions) × (C.1 ≡ (s.memory.item i).published_at (suc j))
      P = T.memory.publishes_only o i C.0 C.1 C.3

      Q : (j : ℕ) × (suc j < (s.memory.item i).valid) × (C.2 ≡ (s.memory.item i).stamped_at (suc j))
      Q = T.memory.stamps_only C.4.0 i C.2 C.4.1

      mine : o ≡ (s.memory.item i).author (suc P.0)
      mine = (same_event run C.3
          (subst (λ (t : ℕ). Executed run ((s.memory.item i).author (suc P.0)) 46 (Notes.publishes i ((s.memory.item i).value (suc P.0))) t) (sym P.2)
          (T.memory.published i P.0 P.1))).2

      stamped : Split (suc P.0) (s.memory.item i).valid → suc P.0 < (s.memory.item i).valid
      stamped (Split.less p) = p
      stamped (Split.more q) =
          absurd (omega (
            arith,
            stamped_before invariant.kept.memory i (suc Q.0) (suc P.0) (omega (arith, Q.1)) P.1,
            P.2,
            Q.2,
            C.4.2.0,
          ))

  -- whose author stands in the order
  effective : (o i τ : ℕ) → ChangeInstant run o i τ → Told.In o (has_one_order s invariant).order
  effective o i τ C =
      subst (λ (q : ℕ). Told.In q (has_one_order s invariant).order) (sym X.mine) ((has_one_order s invariant).changed i (suc X.j) X.stamped)
    where
      X : VersionOf s.memory o i C.1
      X = version_of o i τ C

  -- the first stamp after a publication is one line 22, with one line 21
  stamp_once : (i p r s' r' s'' : ℕ) → FirstStamp run i p r s' → FirstStamp run i p r' s'' → r ≡ r'
  stamp_once i p r s' r' s'' (q, stamp, next, read, steps) (q', stamp', next', read', steps') = at (split r r') (split r' r)
    where
      same_time : s'' ≡ s'
      same_time = omega (arith, next.1 s'' (q', stamp') next'.0, next'.1 s' (q, stamp) next.0)

      same : q ≡ q'
      same = (same_event run stamp (subst (λ (t : ℕ). Executed run q' 22 (Notes.stamps i) t) same_time stamp')).2

      at : Split r r' → Split r' r → r ≡ r'
      at (Split.less l) z = absurd (omega (arith, steps.1 r' (21, Notes.nothing, subst (λ (o : ℕ). Executed run o 21 Notes.nothing r') (sym same) read') l, steps'.0, same_time))
      at (Split.more l) (Split.less k) = absurd (omega (arith, steps'.1 r (21, Notes.nothing, subst (λ (o : ℕ). Executed run o 21 Notes.nothing r) same read) k, steps.0, same_time))
      at (Split.more l) (Split.more k) = omega (arith, l, k)

  -- a change that has taken effect stands at its instant
  changed : (o i τ : ℕ) → ChangeInstant run o i τ → (has_one_order s invariant).time o ≡ τ
  changed o i τ C =
      (has_one_order s invariant).placed o
      ∙ ap (time_of s.memory) (ap s.place X.mine ∙ (invariant.kept.versions_right i (suc X.j) (omega (arith, X.stamped, (invariant.kept.memory.item i).valid_published))).valid X.stamped)
      ∙ stamp_once i C.1 _ _ _ _ (subst (λ (p : ℕ). FirstStamp run i p ((s.memory.item i).effect_at (suc X.j)) ((s.memory.item i).stamped_at (suc X.j))) (sym X.published)
      (change_stamped s invariant run T i X.j X.stamped)) C.4
    where
      X : VersionOf s.memory o i C.1
      X = version_of o i τ C

  told : Agrees s run → Moments s run → ((o t : ℕ) → Abandoned run o t → ((ledger run).fate o).ending ≡ Notes.given_up) → Told.OneOrder run
  told A M G =
      record {
        order = (has_one_order s invariant).order;
        time = (has_one_order s invariant).time;
        answer = (has_one_order s invariant).answer;
        once = (has_one_order s invariant).once;
        falling = (has_one_order s invariant).falling;
        all = λ o x e. (has_one_order s invariant).all o (done_past s invariant o ((A.fate o).answered x e)) ((A.fate o).answered x e);
        effective = effective;
        changed = changed;
        left_off = λ o t a. left o (G o t a);
        only = λ o i. only o i ((has_one_order s invariant).only o i);
        within = λ o i. within o ((has_one_order s invariant).within o i);
        instants = instant;
        immediately = λ o x i a b w e l. right_after s invariant run T M o i a b (sym (A.fate o).operation ∙ w) ((A.fate o).answered x e)
            (sym (ap (λ (l : List ℕ). get_or l 0 0) ((A.fate o).done ((A.fate o).answered x e)).1) ∙ l);
        legal = subst (λ (l : List Act). Legal l) (acts_same (has_one_order s invariant).order) (has_one_order s invariant).legal;
      }
    where
      only : (o : ℕ) → Told.In o (has_one_order s invariant).order →
          ((s.fate o).done ≡ true) ⊎ (Pending s o × ((has_one_order s invariant).answer o ≡ 1)) →
          Told.Finished run o ((has_one_order s invariant).answer o)
          ⊎ (Told.Pending run o ((has_one_order s invariant).time o) × ((has_one_order s invariant).answer o ≡ 1))
      only o i (inl d) = inl (((A.fate o).done d).0 ∙ ap Notes.answers ((has_one_order s invariant).answered o i d))
      only o i (inr (p, x)) = inr (pending A o p, x)

      within : (o : ℕ) → Within s o ((has_one_order s invariant).time o) → Told.Within run o ((has_one_order s invariant).time o)
      within o (inside a b) = inl (
        a,
        λ x e. subst (λ (t : ℕ). (has_one_order s invariant).time o ≤ t)
            (sym ((A.fate o).done ((A.fate o).answered x e)).2)
            (b ((A.fate o).answered x e)),
      )
      within o (in_call i v z d a b c) = inr (i, v, z, (A.fate o).operation ∙ a, b, ((A.fate o).done d).2 ∙ c)

      -- an operation that is given up
      left : (o : ℕ) → ((ledger run).fate o).ending ≡ Notes.given_up →
          Told.LeftOff run o (has_one_order s invariant).order (has_one_order s invariant).time (has_one_order s invariant).answer
      left o g = record {
        ending = g;
        effect = λ i τ C. let n = effective o i τ C in let m = stands n (only o n ((has_one_order s invariant).only o n)) in (n, changed o i τ C, omega (arith, changed o i τ C, m.2), m.1);
        else_nowhere = λ n. (stands n (only o n ((has_one_order s invariant).only o n))).0;
      }
        where
          unanswered_here : (x : ℕ) → Told.Finished run o x → ⊥
          unanswered_here x e = let z : ◌≡◌ {A = ℕ} 3 1 = ap ending_tag (sym g ∙ e) in omega arith

          stands : Told.In o (has_one_order s invariant).order → Told.Finished run o ((has_one_order s invariant).answer o)
              ⊎ (Told.Pending run o ((has_one_order s invariant).time o) × ((has_one_order s invariant).answer o ≡ 1)) →
              ((i : ℕ) × ChangeInstant run o i ((has_one_order s invariant).time o)) × ((has_one_order s invariant).answer o ≡ 1) × (o < (has_one_order s invariant).time o)
          stands n (inl f) = absurd (unanswered_here _ f)
          stands n (inr (p, x)) = ((p.1, p.5), x, after (within o ((has_one_order s invariant).within o n)))
            where
              after : Told.Within run o ((has_one_order s invariant).time o) → o < (has_one_order s invariant).time o
              after (inl a) = a.0
              after (inr (i, v, z, is, b, c)) = absurd (let y : ◌≡◌ {A = ℕ} 0 2 = ap operation_tag (sym (sym p.4 ∙ is)) in omega arith)

      instant : (o x : ℕ) → Told.Finished run o x → Instant run o x ((ledger run).fate o).operation ((has_one_order s invariant).time o)
      instant o x e = subst (λ (x : ℕ). Instant run o x ((ledger run).fate o).operation ((has_one_order s invariant).time o))
          (is_answer (A.fate o) x e)
          (subst (λ (op : Operation). Instant run o (s.fate o).answer op ((has_one_order s invariant).time o)) (sym (A.fate o).operation)
          (the_instant A o (s.fate o).operation refl ((A.fate o).answered x e) (T.ends o ((A.fate o).answered x e))))

      acts_same : (l : List ℕ) → ◌≡◌ {A = List Act} (map (λ o. record
          { operation = (s.fate o).operation; answer = (has_one_order s invariant).answer o }) l)
          (map (λ o. record { operation = ((ledger run).fate o).operation; answer = (has_one_order s invariant).answer o }) l)
      acts_same [] = refl
      acts_same (o ∷ l) = ap₂ (λ (op : Operation) (r : List Act). record { operation = op; answer = (has_one_order s invariant).answer o } ∷ r)
          (sym (A.fate o).operation) (acts_same l)

-- demand 2, for the notes of every run of the machine
pub notes_order : (limits : Limits) (es : List Event) → Told.OneOrder (machine_notes limits es)
notes_order limits es = told (after_events limits es) (run_right limits es) (machine_notes limits es) (traced limits es) (effected limits es) (agrees limits es)
    (moments limits es) (stays_given_up limits es)

pub notes_order_is : (limits : Limits) (es : List Event) → (notes_order limits es).order ≡ order_to (after_events limits es).memory
    (after_events limits es).place (after_events limits es).now (2 * (after_events limits es).now)
unfolding notes_order told
notes_order_is limits es = order_is (after_events limits es) (run_right limits es)
