-- Totals for the notes of every run of the machine of versions: the sum over all items when the counter left the handle, and its lines item by item.
use Rattle.std.specs.Prelude.{◌≡◌, refl, ◌≢◌, true, List, ◌++◌, ℕ, zero, suc, ◌≤◌, ◌<◌, length}
use Rattle.std.proofs.Common.{ap, sym, ◌∙◌, subst, true≢false, arith}
use Rattle.history.specs.Tools.{Split, split}
use Rattle.history.specs.Definition1.{Operation, total}
use Rattle.history.specs.Notes.{Note, ledger, Effect, object_at, changes_between}
use Rattle.history.specs.Effects.{effects}
use Rattle.history.specs.Notes as Notes
use Rattle.history.specs.Notes.{read_lines}
use Rattle.history.specs.Statements.{TotalLines, no_item, not_born, read, ExactTotal}
use Rattle.history.specs.Machine.{Event, Limits, Place, unplaced, awaits, changes, observes, Catalogue, after_events}
use Rattle.history.proofs.RightAnswers.{RightAnswer, TotalRead, AtLastStep}
use Rattle.history.proofs.Places.{ObserverRight, PlaceRight, Invariant}
use Rattle.history.proofs.Run.{run_right}
use Rattle.history.proofs.OrderList.{Shot}
use Rattle.history.proofs.OrderShown.{operation_tag, asked_tag, change_operation, total_seen}
use Rattle.history.proofs.NodeCount.{tally, limits_kept}
use Rattle.history.proofs.StepCount.{total_bound}
use Rattle.history.proofs.MachineNotes.{machine_notes}
use Rattle.history.proofs.LedgerRight.{is_answer, Agrees, agrees}
use Rattle.history.proofs.BornItems.{known_items, is_registered, born_exactly, born_in_turn, born_then}
use Rattle.history.proofs.ExactReads.{value_seen, passed_is}
use Rattle.history.proofs.EffectList.{Sized, size_is}
use Rattle.history.proofs.EffectsRight.{version_effect, IsEffect, of_version, of_counter}
use Rattle.history.proofs.EffectsRun.{Effected, effected}
use Rattle.history.proofs.TotalTrace.{TotalTrace, none, skips, reads, TotalEnd, EndTotal}
use Rattle.history.proofs.TotalRun.{total_run}
use Rattle.history.proofs.BornTold.{born_between}

module _ (s : Catalogue) (invariant : Invariant s) (run : List Note) (E : Effected s run) where
  -- the object when the counter left h
  shot : (h : ℕ) → Shot s invariant h (object_at (s.memory.camera.left_at h) (effects run))
  shot h =
      record {
        value = λ i j x. value_seen s invariant run E i (s.memory.camera.left_at h) j x;
        low = known.1;
        have = λ i p. have i p;
        high = λ i p q. known.2 i p (is_registered s invariant run E i q);
        sizes = λ i p. size_is i (s.memory.camera.left_at h) (s.memory.item i).size (version_effect (s.memory.item i) i 0) (effects run)
            (E.memory.versions i 0 (have i p)) (known.1 i p) (refl, refl) (λ y a u c. sized i y u (E.memory.only y a) c);
        all_born = λ i p. (born_in_turn s invariant run E i (s.memory.camera.left_at h)).1 p;
      }
    where
      known : ((object_at (s.memory.camera.left_at h) (effects run)).items ≤ s.memory.items)
          × ((i : ℕ) → i < (object_at (s.memory.camera.left_at h) (effects run)).items → (s.memory.item i).effect_at 0 ≤
          s.memory.camera.left_at h)
          × ((i : ℕ) → (object_at (s.memory.camera.left_at h) (effects run)).items ≤ i → i < s.memory.items → s.memory.camera.left_at h <
          (s.memory.item i).effect_at 0)
      known = known_items s invariant run E (s.memory.camera.left_at h)

      have : (i : ℕ) → i < (object_at (s.memory.camera.left_at h) (effects run)).items → 0 < (s.memory.item i).valid
      have i p = invariant.kept.memory.registered i (omega (arith, known.0))

      sized : (i : ℕ) (y : Effect) (u : ℕ) → IsEffect s.memory y → Sized i u y → u ≡ (s.memory.item i).size
      sized i y u (of_counter k p e) c = absurd (subst (λ (y : Effect). Sized i u y) e c)
      sized i y u (of_version n zero p e) c =
          let z : (i ≡ n) × (u ≡ (s.memory.item n).size) = subst (λ (y : Effect). Sized i u y) e c in
          z.1 ∙ ap (λ (n : ℕ). (s.memory.item n).size) (sym z.0)
      sized i y u (of_version n (suc j) p e) c = absurd (subst (λ (y : Effect). Sized i u y) e c)

module _ (s : Catalogue) (invariant : Invariant s) (run : List Note) (E : Effected s run) (q h : ℕ) (gone : h < s.memory.camera.counter) where
  -- the lines, item by item
  lines_are : {o e i g : ℕ} {l : List ℕ} → TotalTrace s.memory run h o e i l g → TotalLines run (effects run) (s.memory.camera.left_at h) o i l
      g
  lines_are none = no_item
  lines_are (skips {i} {g} {l} f y p z x r) =
      not_born {i = i} f y p (λ b. absurd (omega (
        arith,
        ((born_exactly s invariant run E i (s.memory.camera.left_at h)).0 b).1,
        ((invariant.kept.memory.item i).counted 0 z).past h x,
      ))) (lines_are r)
  lines_are {o} {e} (reads {i} {g} {l} f y p j r x w z) =
      subst (λ (r : List ℕ). TotalLines run (effects run) (s.memory.camera.left_at h) o (suc i) (r ++ l) f)
      (ap (read_lines x.tbd) (ap (λ (f : ℕ). changes_between i (s.memory.camera.left_at h) f (effects run)) (sym w)
      ∙ passed_is s invariant run E i h o e j r x) ∙ sym x.lines)
      (read {i = i} f x.tbd y p (born_then s invariant run E i (s.memory.camera.left_at h) j x.sees) (lines_are z))

  exact_total : (A : Agrees s run) (o τ x e : ℕ) → TotalEnd s.memory run h o e (s.fate o).lines → (s.fate o).operation ≡ total q h →
      (s.fate o).done ≡ true → TotalRead s.memory q h o (s.fate o).lines τ x → ExactTotal run (effects run) o q h x
  exact_total A o τ x e D w d R =
      record {
        left = s.memory.camera.left_at h;
        taken = E.memory.snapshots h gone;
        answer = total_seen s invariant q h o (s.fate o).lines τ x R (object_at (s.memory.camera.left_at h) (effects run))
            (shot s invariant run E h);
        lines = (
          D.done,
          D.g,
          subst (λ (k : ℕ). TotalLines run (effects run) (s.memory.camera.left_at h) o k D.done D.g)
              (same (split D.k (object_at o (effects run)).items) (split (object_at o (effects run)).items D.k)) (lines_are D.trace),
          ((A.fate o).done d).1 ∙ D.lines,
        );
        later = λ i b n. born_between i (s.memory.camera.left_at h) o (effects run) b n;
      }
    where
      known : ((object_at o (effects run)).items ≤ s.memory.items) ×
          ((i : ℕ) → i < (object_at o (effects run)).items → (s.memory.item i).effect_at 0 ≤ o)
          × ((i : ℕ) → (object_at o (effects run)).items ≤ i → i < s.memory.items → o < (s.memory.item i).effect_at 0)
      known = known_items s invariant run E o

      -- a total registers no item
      not_its_own : (i : ℕ) → 0 < (s.memory.item i).valid → (s.memory.item i).author 0 ≢ o
      not_its_own i p z = let t : ◌≡◌ {A = ℕ} 0 5 = ap operation_tag
          (sym (invariant.kept.versions_right i 0 (omega (arith, (invariant.kept.memory.item i).valid_published))).asked
          ∙ ap (λ (o : ℕ). (s.fate o).operation) z ∙ w) in omega arith

      same : Split D.k (object_at o (effects run)).items → Split (object_at o (effects run)).items D.k → D.k ≡ (object_at o
          (effects run)).items
      same (Split.less u) v =
          let p : 0 < (s.memory.item D.k).valid = invariant.kept.memory.registered D.k (omega (arith, known.0)) in
          absurd (omega (
            arith,
            known.1 D.k u,
            D.covers D.k (omega arith) p,
            (invariant.kept.memory.item D.k).birth p,
            not_its_own D.k p,
          ))
      same (Split.more u) (Split.less v) =
          let p : 0 < (s.memory.item (object_at o (effects run)).items).valid = D.have (object_at o (effects run)).items v in
          absurd (omega (
            arith,
            known.2 (object_at o (effects run)).items (omega arith) (is_registered s invariant run E _ p),
            D.noted (object_at o (effects run)).items v,
            (invariant.kept.memory.item (object_at o (effects run)).items).birth p,
          ))
      same (Split.more u) (Split.more v) = omega arith

module _ (s : Catalogue) (invariant : Invariant s) where
  -- what is known of a finished total
  finished_total : (o q h : ℕ) → (s.fate o).operation ≡ total q h → (s.fate o).done ≡ true → (τ : ℕ) × TotalRead s.memory q h o (s.fate o).lines τ
      (s.fate o).answer × (τ ≡ (s.fate o).ended_at)
  finished_total o q h w d = at (s.place o) refl
    where
      right : (p : Place) → s.place o ≡ p → PlaceRight s.now o s.memory (s.fate o) p
      right p e = subst (λ (p : Place). PlaceRight s.now o s.memory (s.fate o) p) e (invariant.kept.places o)

      at : (p : Place) → s.place o ≡ p → (τ : ℕ) × TotalRead s.memory q h o (s.fate o).lines τ (s.fate o).answer × (τ ≡ (s.fate o).ended_at)
      at unplaced e = absurd (true≢false (sym d ∙ right unplaced e))
      at (awaits a b) e = absurd (true≢false (sym d ∙ right (awaits a b) e))
      at (changes a b) e = let z : 5 ≤ 2 = subst (λ (n : ℕ). n ≤ 2) (ap operation_tag (sym (change_operation s invariant o a b e) ∙ w))
          (asked_tag (s.memory.item a) a b) in absurd (omega arith)
      at (observes τ j x) e =
          let O : ObserverRight s.now o τ j x s.memory (s.fate o) = right (observes τ j x) e in
          let R : TotalRead s.memory q h o (s.fate o).lines τ x = subst (λ (op : Operation). RightAnswer s.memory op o (s.fate o).lines τ j x) w
          O.seen in
          let u : suc τ ≡ suc (s.fate o).ended_at = subst (λ (op : Operation). AtLastStep op τ (suc (s.fate o).ended_at)) w O.last in
          (τ, subst (λ (x : ℕ). TotalRead s.memory q h o (s.fate o).lines τ x) (sym O.is) R, omega arith)

-- every finished total of every run of the machine
pub exact_totals : (limits : Limits) (es : List Event) (o q h x : ℕ) → ((ledger (machine_notes limits es)).fate o).operation ≡ total q h →
    ((ledger (machine_notes limits es)).fate o).ending ≡ Notes.answers x → ExactTotal (machine_notes limits es) (effects (machine_notes limits es)) o q
    h x
exact_totals limits es o q h x w e =
    subst (λ (x : ℕ). ExactTotal (machine_notes limits es) (effects (machine_notes limits es)) o q h x) (is_answer ((agrees limits es).fate o) x e)
    (exact_total (after_events limits es) (run_right limits es) (machine_notes limits es) (effected limits es) q h y.1.gone (agrees limits es) o
    y.0 _ _ there asks done y.1)
  where
    done : ((after_events limits es).fate o).done ≡ true
    done = ((agrees limits es).fate o).answered x e

    asks : ((after_events limits es).fate o).operation ≡ total q h
    asks = sym ((agrees limits es).fate o).operation ∙ w

    there : TotalEnd (after_events limits es).memory (machine_notes limits es) h o (suc ((after_events limits es).fate o).ended_at)
        ((after_events limits es).fate o).lines
    there =
        subst (λ (op : Operation). EndTotal (after_events limits es).memory (machine_notes limits es) o (suc ((after_events limits es).fate o).ended_at)
        ((after_events limits es).fate o).lines op) asks ((total_run limits es).ends o done)

    y : (τ : ℕ) × TotalRead (after_events limits es).memory q h o ((after_events limits es).fate o).lines τ ((after_events limits es).fate o).answer
        × (τ ≡ ((after_events limits es).fate o).ended_at)
    y = finished_total (after_events limits es) (run_right limits es) o q h asks done

-- never more than 5,121 steps
pub total_most : (limits : Limits) → limits.items ≤ 256 → limits.nodes ≤ 4096 → (es : List Event) (o q h x : ℕ) →
    ((ledger (machine_notes limits es)).fate o).operation ≡ total q h → ((ledger (machine_notes limits es)).fate o).ending ≡ Notes.answers x →
    length ((ledger (machine_notes limits es)).fate o).lines ≤ 5121
total_most limits a b es o q h x w e =
    subst (λ (l : List ℕ). length l ≤ 5121) (sym (((agrees limits es).fate o).done done).1)
    (total_bound (after_events limits es) (run_right limits es) (tally limits es)
    (subst (λ (y : Limits). y.items ≤ 256) (sym (limits_kept limits es)) a)
    (subst (λ (y : Limits). y.nodes ≤ 4096) (sym (limits_kept limits es)) b) q h o y.0 _ _ y.1)
  where
    done : ((after_events limits es).fate o).done ≡ true
    done = ((agrees limits es).fate o).answered x e

    y : (τ : ℕ) × TotalRead (after_events limits es).memory q h o ((after_events limits es).fate o).lines τ ((after_events limits es).fate o).answer
        × (τ ≡ ((after_events limits es).fate o).ended_at)
    y = finished_total (after_events limits es) (run_right limits es) o q h (sym ((agrees limits es).fate o).operation ∙ w) done
