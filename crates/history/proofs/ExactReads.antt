-- Demand 3 for the notes of every run of the machine of versions: a readSnapshot answers the value when the counter left its handle, in exactly counted
-- steps.
use Rattle.std.specs.Prelude.{◌≡◌, refl, ◌⊎◌, Bool, true, false, cond, ◌&&◌, List, ℕ, zero, suc, ◌+◌, ◌≤◌, ◌<◌, min, T, ltb, eqb, length}
use Rattle.std.proofs.Common.{ap, sym, ◌∙◌, subst, inl, inr, arith, ltb→lt}
use Rattle.std.proofs.Math.Dec.{eqb_refl}
use Rattle.history.specs.Tools.{Split, split, Same, eq, ne, same?, lt_ltb, and_both, and_parts}
use Rattle.history.specs.Definition1.{Operation, read_snapshot}
use Rattle.history.specs.Notes.{Note, ledger, Effect, time, object_at, changes_between}
use Rattle.history.specs.Effects.{effects}
use Rattle.history.specs.Notes as Notes
use Rattle.history.specs.Notes.{read_lines}
use Rattle.history.specs.Statements.{ExactRead}
use Rattle.history.specs.Machine.{Event, Item, Limits, Place, Catalogue, after_events}
use Rattle.history.specs.Facts.{Sees, Read}
use Rattle.history.proofs.Places.{ObserverRight, PlaceRight, Invariant}
use Rattle.history.proofs.Run.{run_right}
use Rattle.history.proofs.OrderList.{effects_rise}
use Rattle.history.proofs.NodeCount.{sum_to}
use Rattle.history.proofs.StepCount.{length_read}
use Rattle.history.proofs.MachineNotes.{machine_notes}
use Rattle.history.proofs.Helps.{Found, Helps, helped_in, found_read}
use Rattle.history.proofs.LedgerRight.{is_answer, Agrees, agrees}
use Rattle.history.proofs.Trace.{ReadTraced, EndTraced, Traced}
use Rattle.history.proofs.TraceRun.{traced}
use Rattle.history.proofs.Instants.{published_rises}
use Rattle.history.proofs.EffectList.{Gives, value_is}
use Rattle.history.proofs.EffectsRight.{version_effect, IsEffect, of_version, of_counter, counted}
use Rattle.history.proofs.EffectsRun.{Effected, effected}
use Rattle.history.proofs.BornItems.{born_then}

-- ---- counting a window: ones from j + 1 to top, and zeros elsewhere

window : (g : ℕ → ℕ) (j top n : ℕ) → j ≤ top → ((y : ℕ) → y < n → y ≤ j → g y ≡ 0) → ((y : ℕ) → y < n → j < y → y ≤ top → g y ≡ 1) →
    ((y : ℕ) → y < n → top < y → g y ≡ 0) → sum_to g n + min n (suc j) ≡ min n (suc top)
unfolding sum_to
window g j top zero p a b c = omega arith
window g j top (suc n) p a b c = at (split j n) (split top n)
    (window g j top n p (λ y q. a y (omega arith)) (λ y q. b y (omega arith)) (λ y q. c y (omega arith)))
  where
    at : Split j n → Split top n → sum_to g n + min n (suc j) ≡ min n (suc top) → g n + sum_to g n + min (suc n) (suc j) ≡ min (suc n) (suc top)
    at (Split.more u) v h = omega (arith, a n (omega arith) u)
    at (Split.less u) (Split.more v) h = omega (arith, b n (omega arith) u v)
    at (Split.less u) (Split.less v) h = omega (arith, c n (omega arith) v)

-- ---- tests

is_true : (b : Bool) → T b → ◌≡◌ {A = ℕ} (cond b 1 0) 1
is_true true t = refl
is_true false t = absurd t

is_false : (b : Bool) → (T b → ⊥) → ◌≡◌ {A = ℕ} (cond b 1 0) 0
is_false true f = absurd (f tt)
is_false false f = refl

-- a version counts where it took effect after τ and was published before f; the first never does
counts_one : (i τ f : ℕ) (it : Item) (j : ℕ) → τ < it.effect_at (suc j) → it.published_at (suc j) < f → counted i τ f it (suc j) ≡ 1
unfolding changes_between
counts_one i τ f it j a b = omega (
  arith,
  is_true (eqb i i && (ltb τ (it.effect_at (suc j)) && ltb (it.published_at (suc j)) f))
      (and_both (eqb i i) (ltb τ (it.effect_at (suc j)) && ltb (it.published_at (suc j)) f) (eqb_refl i)
      (and_both (ltb τ (it.effect_at (suc j))) (ltb (it.published_at (suc j)) f) (lt_ltb τ (it.effect_at (suc j)) a)
      (lt_ltb (it.published_at (suc j)) f b))),
)

counts_none : (i τ f : ℕ) (it : Item) (j : ℕ) → (it.effect_at j ≤ τ) ⊎ (f ≤ it.published_at j) → counted i τ f it j ≡ 0
unfolding changes_between
counts_none i τ f it zero c = refl
counts_none i τ f it (suc j) c = omega (
  arith,
  is_false (eqb i i && (ltb τ (it.effect_at (suc j)) && ltb (it.published_at (suc j)) f))
      (λ t. both (parts t) c),
)
  where
    parts : T (eqb i i && (ltb τ (it.effect_at (suc j)) && ltb (it.published_at (suc j)) f)) →
        T (ltb τ (it.effect_at (suc j))) × T (ltb (it.published_at (suc j)) f)
    parts t = and_parts (ltb τ (it.effect_at (suc j))) (ltb (it.published_at (suc j)) f)
        (and_parts (eqb i i) (ltb τ (it.effect_at (suc j)) && ltb (it.published_at (suc j)) f) t).1

    both : T (ltb τ (it.effect_at (suc j))) × T (ltb (it.published_at (suc j)) f) → (it.effect_at (suc j) ≤ τ) ⊎ (f ≤ it.published_at (suc j)) → ⊥
    both (a, b) (inl c) = omega (arith, ltb→lt τ (it.effect_at (suc j)) a)
    both (a, b) (inr c) = omega (arith, ltb→lt (it.published_at (suc j)) f b)

-- ---- the value at a time

version_time : (it : Item) (i j : ℕ) → time (version_effect it i j) ≡ it.effect_at j
version_time it i zero = refl
version_time it i (suc j) = refl

version_gives : (it : Item) (i j : ℕ) → Gives i (it.value j) (version_effect it i j)
version_gives it i zero = (refl, refl)
version_gives it i (suc j) = (refl, refl)

gives_version : (it : Item) (i n j v : ℕ) → Gives n v (version_effect it i j) → (n ≡ i) × (v ≡ it.value j)
gives_version it i n zero v t = t
gives_version it i n (suc j) v t = t

module _ (s : Catalogue) (invariant : Invariant s) (run : List Note) (E : Effected s run) where
  -- the version in effect at τ gives the value then
  pub value_seen : (i τ j : ℕ) → Sees (s.memory.item i) τ j → (object_at τ (effects run)).value i ≡ (s.memory.item i).value j
  value_seen i τ j x =
      value_is i τ ((s.memory.item i).value j) (version_effect (s.memory.item i) i j) (effects run) E.memory.ordered
      (E.memory.versions i j x.have) (omega (arith, version_time (s.memory.item i) i j, x.begun)) (version_gives (s.memory.item i) i j)
      (λ y a b u c. newest y u (E.memory.only y a) b c)
    where
      up_to : (k : ℕ) → k < (s.memory.item i).valid → (s.memory.item i).effect_at k ≤ τ → k ≤ j
      up_to k p q = at (split j k)
        where
          at : Split j k → k ≤ j
          at (Split.more u) = u
          at (Split.less u) = absurd (after (same? k (suc j)))
            where
              after : Same k (suc j) → ⊥
              after (eq e) = omega (arith, x.not_yet (omega arith), ap (s.memory.item i).effect_at e)
              after (ne e) = omega (arith, x.not_yet (omega arith), effects_rise s invariant i (suc j) k (omega arith) p)

      rising : (k : ℕ) → k ≤ j → (s.memory.item i).effect_at k ≤ (s.memory.item i).effect_at j
      rising k p = at (same? k j)
        where
          at : Same k j → (s.memory.item i).effect_at k ≤ (s.memory.item i).effect_at j
          at (eq e) = omega (arith, ap (s.memory.item i).effect_at e)
          at (ne e) = omega (arith, effects_rise s invariant i k j (omega arith) x.have)

      same_one : (k : ℕ) → k ≤ j → (s.memory.item i).effect_at k ≡ (s.memory.item i).effect_at j → k ≡ j
      same_one k p q = at (same? k j)
        where
          at : Same k j → k ≡ j
          at (eq e) = e
          at (ne e) = absurd (omega (arith, effects_rise s invariant i k j (omega arith) x.have))

      newest : (y : Effect) (u : ℕ) → IsEffect s.memory y → time y ≤ τ → Gives i u y → (time y ≤ time (version_effect (s.memory.item i) i j))
          × (time y ≡ time (version_effect (s.memory.item i) i j) → u ≡ (s.memory.item i).value j)
      newest y u (of_counter h p e) b c = absurd (subst (λ (y : Effect). Gives i u y) e c)
      newest y u (of_version n k p e) b c = mine (gives_version (s.memory.item n) n i k u (subst (λ (y : Effect). Gives i u y) e c))
        where
          mine : (i ≡ n) × (u ≡ (s.memory.item n).value k) → (time y ≤ time (version_effect (s.memory.item i) i j))
              × (time y ≡ time (version_effect (s.memory.item i) i j) → u ≡ (s.memory.item i).value j)
          mine (q, v) = (
            omega (arith, when, rising k below, version_time (s.memory.item i) i j),
            λ z. v ∙ ap (λ (n : ℕ). (s.memory.item n).value k) (sym q)
                ∙ ap (s.memory.item i).value (same_one k below (sym when ∙ z ∙ version_time (s.memory.item i) i j)),
          )
            where
              good : k < (s.memory.item i).valid
              good = subst (λ (n : ℕ). k < (s.memory.item n).valid) (sym q) p

              when : time y ≡ (s.memory.item i).effect_at k
              when = ap time (e ∙ ap (λ (n : ℕ). version_effect (s.memory.item n) n k) (sym q)) ∙ version_time (s.memory.item i) i k

              below : k ≤ j
              below = up_to k good (omega (arith, when))

  -- the changes after the counter left h that were published before line 32 are those that line 34 passed
  pub passed_is : (i h o e j : ℕ) (l : List ℕ) → (x : Read s.memory i h o e j l) → changes_between i (s.memory.camera.left_at h) x.f
      (effects run) ≡ x.passed
  passed_is i h o e j l x =
      E.memory.count i (s.memory.camera.left_at h) x.f
      ∙ omega (
        arith,
        x.at,
        x.good,
        window (counted i (s.memory.camera.left_at h) x.f (s.memory.item i)) j x.top (s.memory.item i).valid
            (omega (arith, x.at)) before within beyond,
      )
    where
      before : (y : ℕ) → y < (s.memory.item i).valid → y ≤ j → counted i (s.memory.camera.left_at h) x.f (s.memory.item i) y ≡ 0
      before y p q = counts_none i (s.memory.camera.left_at h) x.f (s.memory.item i) y (inl (at (same? y j)))
        where
          at : Same y j → (s.memory.item i).effect_at y ≤ s.memory.camera.left_at h
          at (eq z) = omega (arith, x.sees.begun, ap (s.memory.item i).effect_at z)
          at (ne z) = omega (arith, x.sees.begun, effects_rise s invariant i y j (omega arith) x.sees.have)

      within : (y : ℕ) → y < (s.memory.item i).valid → j < y → y ≤ x.top → counted i (s.memory.camera.left_at h) x.f (s.memory.item i) y ≡ 1
      within zero p q r = absurd (omega arith)
      within (suc y) p q r = counts_one i (s.memory.camera.left_at h) x.f (s.memory.item i) y (after (same? (suc y) (suc j)))
          (published (same? (suc y) x.top))
        where
          after : Same (suc y) (suc j) → s.memory.camera.left_at h < (s.memory.item i).effect_at (suc y)
          after (eq z) = omega (arith, x.sees.not_yet (omega arith), ap (s.memory.item i).effect_at z)
          after (ne z) = omega (arith, x.sees.not_yet (omega arith), effects_rise s invariant i (suc j) (suc y) (omega arith) p)

          published : Same (suc y) x.top → (s.memory.item i).published_at (suc y) < x.f
          published (eq z) = omega (arith, x.got.before, ap (s.memory.item i).published_at z)
          published (ne z) = omega (arith, x.got.before, published_rises invariant.kept.memory i (suc y) x.top (omega arith) x.got.have)

      beyond : (y : ℕ) → y < (s.memory.item i).valid → x.top < y → counted i (s.memory.camera.left_at h) x.f (s.memory.item i) y ≡ 0
      beyond y p q = counts_none i (s.memory.camera.left_at h) x.f (s.memory.item i) y (inr (at (same? y (suc x.top))))
        where
          there : y < (s.memory.item i).versions
          there = omega (arith, (invariant.kept.memory.item i).valid_published)

          at : Same y (suc x.top) → x.f ≤ (s.memory.item i).published_at y
          at (eq z) = omega (arith, x.got.next (omega (arith, there)), ap (s.memory.item i).published_at z)
          at (ne z) = omega (arith, x.got.next (omega (arith, there)), published_rises invariant.kept.memory i (suc x.top) y (omega arith) there)

  exact : (A : Agrees s run) (T' : Traced s run) (H : Helps run) (o i h x : ℕ) → ((ledger run).fate o).operation ≡ read_snapshot i h →
      ((ledger run).fate o).ending ≡ Notes.answers x → ExactRead run (effects run) o i h x
  exact A T' H o i h x w e =
      record {
        left = s.memory.camera.left_at h;
        taken = E.memory.snapshots h R.read.gone;
        born = born_then s invariant run E i (s.memory.camera.left_at h) R.j R.read.sees;
        answer = sym (is_answer (A.fate o) x e) ∙ O.is ∙ R.value ∙ sym (value_seen i (s.memory.camera.left_at h) R.j R.read.sees);
        f = R.read.f;
        fetched = (R.fetched.valid, R.fetched.executed);
        k = R.read.passed;
        counted = sym (passed_is i h o _ R.j (s.fate o).lines R.read);
        tbd = R.read.tbd;
        lines = lines;
        found = found_read run o R.read.tbd R.read.passed (subst (λ (l : List ℕ). Found run o l) lines (H.found o));
        steps = ap length lines ∙ length_read R.read.tbd R.read.passed;
      }
    where
      done : (s.fate o).done ≡ true
      done = (A.fate o).answered x e

      R : ReadTraced s.memory run o i h (s.fate o).lines (s.place o)
      R = subst (λ (op : Operation). EndTraced s.memory run o op (s.fate o).lines (s.place o)) (sym (A.fate o).operation ∙ w)
          (T'.ends o done)

      O : ObserverRight s.now o R.τ R.j R.x s.memory (s.fate o)
      O = subst (λ (p : Place). PlaceRight s.now o s.memory (s.fate o) p) R.is (invariant.kept.places o)

      lines : ((ledger run).fate o).lines ≡ read_lines R.read.tbd R.read.passed
      lines = ((A.fate o).done done).1 ∙ R.read.lines

-- demand 3, for the notes of every run of the machine
pub exact_reads : (limits : Limits) (es : List Event) (o i h x : ℕ) → ((ledger (machine_notes limits es)).fate o).operation ≡ read_snapshot i h →
    ((ledger (machine_notes limits es)).fate o).ending ≡ Notes.answers x → ExactRead (machine_notes limits es) (effects (machine_notes limits es)) o i
    h x
exact_reads limits es = exact (after_events limits es) (run_right limits es) (machine_notes limits es) (effected limits es) (agrees limits es)
    (traced limits es) (helped_in limits es)
