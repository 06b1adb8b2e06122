-- What a line writes is the image of what the machine's line does.
use Prim.Native.Nat.{ℕ, zero, suc, pred, ◌+◌, ◌*◌, ◌-◌, ◌/◌, ◌%◌, ◌<◌, ◌≤◌}
use Rattle.std.specs.Prelude.{Bool, true, false, ◌≢◌, ◌⊎◌, ◌≡◌, length}
use Rattle.std.proofs.Math.Bool.{cond}
use mathlib.Core.List.{List, [], ◌∷◌, ◌++◌}
use Rattle.std.proofs.Common.{inl, inr, ◌∙◌}
use Rattle.std.proofs.Math.Path.{refl, ap, ap₂, sym, subst}
use native.Mathlib.Omega.{arith}
use Rattle.std.proofs.Math.Nat.{div-add-mod'}
use Rattle.std.proofs.Math.Dec.{eqb, ltb, leb}
use borrow.Author.Tests.{lt-ltb, le-ltb, le-leb, lt-leb, eq-eqb, ne_eqb, eqb-true, ltb-true}
use Rattle.definitions.specs.declared.Answer.{Answer}
use Rattle.definitions.specs.Cells.{Cells, Assignment, ◌≔◌, nodes_limit, counter_limit, counter, used, given_back, phase, steps, item, old, new, handle, project, noted, node, new_node, seen, head, birth, size, value, older, stamp}
use Rattle.definitions.specs.Answers.{Outcome, running, finished, refusal}
use Rattle.definitions.specs.Answers as outcome
use Rattle.definitions.specs.Phases.{closing_phase, total_start}
use Rattle.definitions.specs.Damage.{TBD, sum}
use Rattle.definitions.specs.Lines as code
use Rattle.definitions.specs.Lines.{Line, line_of_phase, lines, too_new}
use Rattle.cells.specs.Update.{after, Proper}
use Rattle.history.specs.Tools.{put, put_same, by_lt, Same, eq, ne, same?, Split, split}
use Rattle.history.specs.Machine.{Item, Memory, Found, Then, then_39, then_43, then_52, then_34, Phase, line_37, line_39, line_41, line_43, line_45, line_46, line_48, line_50, line_51, line_52, line_5, line_6, line_32, line_34, total_32, total_34, closing, line_20, line_21, line_22, helped_item, total_at, takes_node, Comes, goes_on, ends_with, answers_change, answers, Next, only, on_45, line, memory_after, node_to_take, first_free, stamped, published}
use Rattle.history.specs.Machine.{after as phase_after}
use Rattle.reached.specs.Parts.{Local, shared_of, local_of}
use Rattle.reached.specs.Grows.{Known, then_item}
use Rattle.reached.specs.Image.{Owner, held, Chain, help_number, phase_number, TotalKept, ThenKept, Kept, BusyImage, Holds, shared_after}
use Rattle.reached.proofs.Nodes.{version_below, held_below, waits_below, versions_apart}
use Rattle.reached.proofs.Records.{self, cleared_proper, SameArguments, change_stays, read_stays, total_stays, then_stays, after_number, after_kept, both, goes_with, same_arguments}
use Rattle.reached.proofs.Ready.{Standing, help_rows}

-- What a step answers, with so many steps.
abbrev pub answer_of : ℕ → Comes → Answer
answer_of n (goes_on ph) = running n
answer_of n (ends_with number) = refusal number n
answer_of n (answers_change x) = finished x n
answer_of n (answers x τ j) = finished x n

-- What the worker's record is after it.
abbrev pub ComesImage : (ℕ → Item) → Local → ℕ → Comes → Type 0
ComesImage its l n (goes_on ph) = BusyImage its l n ph
ComesImage its l n (ends_with number) = l.phase ≡ 0
ComesImage its l n (answers_change x) = l.phase ≡ 0
ComesImage its l n (answers x τ j) = l.phase ≡ 0

-- Worker w's line, with n steps before it, does what the machine's line does.
pub record LineImage (f : Cells) (m : Memory) (w t o n : ℕ) (x : Next) (out : Outcome) : Type 0 where
  pub answer_is : out.answer ≡ answer_of (suc n) x.comes
  pub shared_is : shared_of (after f out.writes) ≡ shared_after m x.does (shared_of f)
  pub next_is : ComesImage (memory_after t o x.does m).item (local_of (after f out.writes) w) (suc n) x.comes
  pub others_stay : (v : ℕ) → w ≢ v → local_of (after f out.writes) v ≡ local_of f v
  pub proper : Proper m.limits.workers m.limits.items m.limits.nodes out.writes

module _ (f : Cells) (m : Memory) (own : ℕ → Owner) (w : ℕ) (X : Standing f m own w) (t o n : ℕ) (counted : f (steps w) ≡ n) where
  answered : (v x τ j : ℕ) → v ≡ x → LineImage f m w t o n (only (answers x τ j)) (outcome.answers f w v [])
  answered v x τ j e =
      record {
        answer_is = ap₂ finished e (omega arith);
        shared_is = refl;
        next_is = rw (self w) refl;
        others_stay = λ v d. rw (ne_eqb w v d) refl;
        proper = cleared_proper m.limits.workers m.limits.items m.limits.nodes w X.worker_in;
      }

  refused : (number : ℕ) → LineImage f m w t o n (only (ends_with number)) (outcome.ends_with f w number)
  refused number =
      record {
        answer_is = ap (refusal number) (omega arith);
        shared_is = refl;
        next_is = rw (self w) refl;
        others_stay = λ v d. rw (ne_eqb w v d) refl;
        proper = cleared_proper m.limits.workers m.limits.items m.limits.nodes w X.worker_in;
      }

  -- lines 37, 41, 51 and 32: the head of item i is fetched
  fetched : (k : ℕ) (c : Then) → f (phase w) ≡ k → help_number c ≡ k + 1 → f (item w) ≡ helped_item c → helped_item c < m.items → ThenKept (local_of f w) c
      → LineImage f m w t o n (only (goes_on (line_20 c (pred (m.item (helped_item c)).versions)))) (code.fetch_head f w)
  unfolding code.fetch_head memory_after
  fetched k c e g h l kept =
      record {
        answer_is = ap running (omega arith);
        shared_is = refl;
        next_is = rw (self w) (record {
          phase_is = omega arith;
          steps_are = omega arith;
          kept = (
            then_stays (same_arguments (local_of f w) (f (phase w) + 1) (f (steps w) + 1) (f (head (f (item w)))) (f (new_node w)) (f (seen w))) c kept,
            ap (λ (i : ℕ). f (head i)) h ∙ X.shared.head_is (helped_item c) l,
          );
        });
        others_stay = λ v d. rw (ne_eqb w v d) refl;
        proper = (X.worker_in, omega arith, (X.worker_in, omega arith, (X.worker_in, omega arith, tt)));
      }

  -- the value of a version
  value_there : (i j : ℕ) → i < m.items → j < (m.item i).versions → f (node w) ≡ (m.item i).node j → f (value (f (node w))) ≡ (m.item i).value j
  value_there i j l p e = ap (λ (y : ℕ). f (value y)) e ∙ X.shared.value_is i j l p

  -- the tests of lines 20 and 22
  stamp_there : (i j : ℕ) → i < m.items → j < (m.item i).valid → f (node w) ≡ (m.item i).node j → eqb (f (stamp (f (node w)))) TBD ≡ false
  stamp_there i j l p e =
      ne_eqb (f (stamp (f (node w)))) TBD
      (λ z. absurd (omega (
        arith,
        ap (λ (y : ℕ). f (stamp y)) e
            ∙ X.shared.valid_stamp i j l p,
        (X.well.item_well i l).past j p,
        X.well.counter_in,
        X.below_TBD,
      )))

  stamp_missing : (i j : ℕ) → i < m.items → (m.item i).valid ≤ j → j < (m.item i).versions → f (node w) ≡ (m.item i).node j
      → eqb (f (stamp (f (node w)))) TBD ≡ true
  stamp_missing i j l p q e = eq-eqb (f (stamp (f (node w)))) TBD (ap (λ (y : ℕ). f (stamp y)) e ∙ X.shared.no_stamp i j l p q)

  helps_20 : (c : Then) (j : ℕ) → f (phase w) ≡ help_number c → Kept m.item (local_of f w) (line_20 c j) → Known m (line_20 c j)
      → LineImage f m w t o n (line t m (line_20 c j)) (code.line_20 f w)
  unfolding code.line_20 memory_after line
  helps_20 c j e k z = at (split j (m.item (helped_item c)).valid)
    where
      l : helped_item c < m.items
      l = then_item m c z.0

      at : Split j (m.item (helped_item c)).valid → LineImage f m w t o n (line t m (line_20 c j)) (code.line_20 f w)
      at (Split.less p) = rw (stamp_there (helped_item c) j l p k.1, lt-ltb j (m.item (helped_item c)).valid p) (record {
        answer_is = ap running (omega arith);
        shared_is = refl;
        next_is = rw (self w) (record {
          phase_is = omega (arith, after_number c j);
          steps_are = omega arith;
          kept = after_kept m.item (goes_with (local_of f w) (f (phase w) + 3) (f (steps w) + 1) (f (node w)) (f (new_node w)) (f (seen w))) c j
              (then_stays (same_arguments (local_of f w) _ _ _ _ _) c k.0) k.1;
        });
        others_stay = λ v d. rw (ne_eqb w v d) refl;
        proper = (X.worker_in, omega arith, (X.worker_in, omega arith, tt));
      })
      at (Split.more p) = rw (stamp_missing (helped_item c) j l p z.1 k.1, le-ltb j (m.item (helped_item c)).valid p) (record {
        answer_is = ap running (omega arith);
        shared_is = refl;
        next_is = rw (self w) (record {
          phase_is = omega arith;
          steps_are = omega arith;
          kept = (
            then_stays (same_arguments (local_of f w) (f (phase w) + 1) (f (steps w) + 1) (f (node w)) (f (new_node w)) (f (seen w))) c k.0,
            k.1,
          );
        });
        others_stay = λ v d. rw (ne_eqb w v d) refl;
        proper = (X.worker_in, omega arith, (X.worker_in, omega arith, tt));
      })

  -- the worker's record after a line that goes on at phase p
  abbrev went : (p y z c : ℕ) → Local
  went p y z c = goes_with (local_of f w) p (f (steps w) + 1) y z c

  same_went : (p y z c : ℕ) → SameArguments (local_of f w) (went p y z c)
  same_went p y z c = same_arguments (local_of f w) p (f (steps w) + 1) y z c

  helps_21 : (c : Then) (j : ℕ) → f (phase w) ≡ help_number c + 1 → Kept m.item (local_of f w) (line_21 c j)
      → LineImage f m w t o n (line t m (line_21 c j)) (code.line_21 f w)
  unfolding code.line_21 memory_after line
  helps_21 c j e k =
      record {
        answer_is = ap running (omega arith);
        shared_is = refl;
        next_is = rw (self w) (record {
          phase_is = omega arith;
          steps_are = omega arith;
          kept = (then_stays (same_went (f (phase w) + 1) (f (node w)) (f (new_node w)) (f counter)) c k.0, k.1, X.shared.counter_is);
        });
        others_stay = λ v d. rw (ne_eqb w v d) refl;
        proper = (X.worker_in, omega arith, (X.worker_in, omega arith, (X.worker_in, omega arith, tt)));
      }

  helps_22 : (c : Then) (j c' r : ℕ) → f (phase w) ≡ help_number c + 2 → Kept m.item (local_of f w) (line_22 c j c' r) → Known m (line_22 c j c' r)
      → LineImage f m w t o n (line t m (line_22 c j c' r)) (code.line_22 f w)
  unfolding code.line_22 memory_after line
  helps_22 c j c' r e k z = at (split j (m.item (helped_item c)).valid)
    where
      l : helped_item c < m.items
      l = then_item m c z.0

      below : f (node w) < m.limits.nodes
      below = omega (arith, k.1, X.shared.used_in, version_below m (shared_of f) own X.shared (helped_item c) j l z.1.there)

      kept_by : (its : ℕ → Item) → (its (helped_item c)).node j ≡ (m.item (helped_item c)).node j
          → Kept its (went (f (phase w) + 1) (f (node w)) (f (new_node w)) (f (seen w))) (phase_after c j)
      kept_by its g = after_kept its (went (f (phase w) + 1) (f (node w)) (f (new_node w)) (f (seen w))) c j
          (then_stays (same_went (f (phase w) + 1) (f (node w)) (f (new_node w)) (f (seen w))) c k.0) (k.1 ∙ sym g)

      at : Split j (m.item (helped_item c)).valid → LineImage f m w t o n (line t m (line_22 c j c' r)) (code.line_22 f w)
      at (Split.less p) = rw (stamp_there (helped_item c) j l p k.1, lt-ltb j (m.item (helped_item c)).valid p) (record {
        answer_is = ap running (omega arith);
        shared_is = refl;
        next_is = rw (self w) (record { phase_is = omega (arith, after_number c j); steps_are = omega arith; kept = kept_by m.item refl });
        others_stay = λ v d. rw (ne_eqb w v d) refl;
        proper = (X.worker_in, omega arith, (X.worker_in, omega arith, tt));
      })
      at (Split.more p) = rw (stamp_missing (helped_item c) j l p z.1.there k.1, le-ltb j (m.item (helped_item c)).valid p) (record {
        answer_is = ap running (omega arith);
        shared_is = ap₂ (λ (y c' : ℕ). shared_of (after f (stamp y ≔ c' ∷ []))) k.1 k.2;
        next_is = rw (self w) (record {
          phase_is = omega (arith, after_number c j);
          steps_are = omega arith;
          kept = kept_by (put m.item (helped_item c) (stamped t j c' r (m.item (helped_item c))))
              (ap (λ (it : Item). it.node j) (put_same m.item (helped_item c) (stamped t j c' r (m.item (helped_item c))) (helped_item c) refl));
        });
        others_stay = λ v d. rw (ne_eqb w v d) refl;
        proper = (below, omega arith, (X.worker_in, omega arith, (X.worker_in, omega arith, tt)));
      })

  reads_39 : (i g j : ℕ) → Kept m.item (local_of f w) (line_39 i g j) → Known m (line_39 i g j)
      → LineImage f m w t o n (line t m (line_39 i g j)) (code.line_39 f w)
  unfolding code.line_39 line
  reads_39 i g j k z =
      answered (f (value (f (node w)))) ((m.item i).value j) _ _ (value_there i j z.0 (omega (arith, z.1, (X.well.item_well i z.0).few)) k.1)

  compares_43 : (i x y g j : ℕ) → f (phase w) ≡ 10 → Kept m.item (local_of f w) (line_43 i x y g j) → Known m (line_43 i x y g j)
      → LineImage f m w t o n (line t m (line_43 i x y g j)) (code.line_43 f w)
  unfolding code.line_43 line memory_after
  compares_43 i x y g j e k z =
      both (LineImage f m w t o n) (eqb ((m.item i).value j) x) (eqb (f (value (f (node w)))) (f (old w)))
      (ap₂ eqb (value_there i j z.0.item_in (omega (arith, z.1, (X.well.item_well i z.0.item_in).few)) k.1) k.0.old_is)
      (λ a. both (LineImage f m w t o n) (eqb y x) (eqb (f (new w)) (f (old w))) (ap₂ eqb k.0.new_is k.0.old_is)
      (λ b. answered 1 1 _ _ refl)
      (λ b. record {
        answer_is = ap running (omega arith);
        shared_is = refl;
        next_is = rw (self w) (record {
          phase_is = omega arith;
          steps_are = omega arith;
          kept = (change_stays (same_went (f (phase w) + 1) (f (node w)) (f (new_node w)) (f (seen w))) i x y k.0, k.1);
        });
        others_stay = λ v d. rw (ne_eqb w v d) refl;
        proper = (X.worker_in, omega arith, (X.worker_in, omega arith, tt));
      }))
      (λ a. answered 0 0 _ _ refl)

  -- line 45, where node y is taken: the rest of the writes, after those that take it from the chain or from those never used
  takes_45 : (i x v g j y : ℕ) → f (phase w) ≡ 11 → Kept m.item (local_of f w) (line_45 i x v g j) → y < m.limits.nodes → (taking : List Assignment)
      → ((used ≔ (f used + 1) ∷ [] ≡ taking) × (f given_back ≡ 0)) ⊎ ((given_back ≔ f (older (f given_back - 1)) ∷ [] ≡ taking) × (f given_back ≢ 0))
      → LineImage f m w t o n (record { does = takes_node i v j y; comes = goes_on (line_46 i x v g j y) })
      (outcome.goes_on f w (f (phase w) + 1) (taking ++ (value y ≔ f (new w) ∷ older y ≔ (f (node w) + 1) ∷ stamp y ≔ TBD ∷ new_node w ≔ y ∷ [])))
  unfolding memory_after
  takes_45 i x v g j y e k below taking (inl a) =
      subst (λ (taking : List Assignment). LineImage f m w t o n (record { does = takes_node i v j y; comes = goes_on (line_46 i x v g j y) })
      (outcome.goes_on f w (f (phase w) + 1) (taking ++ (value y ≔ f (new w) ∷ older y ≔ (f (node w) + 1) ∷ stamp y ≔ TBD ∷ new_node w ≔ y ∷ [])))) a.0
      (record {
        answer_is = ap running (omega arith);
        shared_is = rw (eq-eqb (f given_back) 0 a.1) (ap₂
            (λ (v u : ℕ). shared_of (after f (used ≔ (f used + 1) ∷ value y ≔ v ∷ older y ≔ (u + 1) ∷ stamp y ≔ TBD ∷ []))) k.0.new_is k.1);
        next_is = rw (self w) (record {
          phase_is = omega arith;
          steps_are = omega arith;
          kept = (change_stays (same_went (f (phase w) + 1) (f (node w)) y (f (seen w))) i x v k.0, k.1, refl);
        });
        others_stay = λ v d. rw (ne_eqb w v d) refl;
        proper = (
          omega arith,
          omega arith,
          (
            below,
            omega arith,
            (below, omega arith, (below, omega arith, (X.worker_in, omega arith, (X.worker_in, omega arith, (X.worker_in, omega arith, tt))))),
          ),
        );
      })
  takes_45 i x v g j y e k below taking (inr a) =
      subst (λ (taking : List Assignment). LineImage f m w t o n (record { does = takes_node i v j y; comes = goes_on (line_46 i x v g j y) })
      (outcome.goes_on f w (f (phase w) + 1) (taking ++ (value y ≔ f (new w) ∷ older y ≔ (f (node w) + 1) ∷ stamp y ≔ TBD ∷ new_node w ≔ y ∷ [])))) a.0
      (record {
        answer_is = ap running (omega arith);
        shared_is = rw (ne_eqb (f given_back) 0 a.1) (ap₂
            (λ (v u : ℕ). shared_of (after f (given_back ≔ f (older (f given_back - 1)) ∷ value y ≔ v ∷ older y ≔ (u + 1) ∷ stamp y ≔ TBD ∷ [])))
            k.0.new_is k.1);
        next_is = rw (self w) (record {
          phase_is = omega arith;
          steps_are = omega arith;
          kept = (change_stays (same_went (f (phase w) + 1) (f (node w)) y (f (seen w))) i x v k.0, k.1, refl);
        });
        others_stay = λ v d. rw (ne_eqb w v d) refl;
        proper = (
          omega arith,
          omega arith,
          (
            below,
            omega arith,
            (below, omega arith, (below, omega arith, (X.worker_in, omega arith, (X.worker_in, omega arith, (X.worker_in, omega arith, tt))))),
          ),
        );
      })

  allocates_45 : (i x v g j : ℕ) → f (phase w) ≡ 11 → Kept m.item (local_of f w) (line_45 i x v g j)
      → LineImage f m w t o n (line t m (line_45 i x v g j)) (code.line_45 f w)
  unfolding code.line_45 line node_to_take
  allocates_45 i x v g j e k = at m.pool.given_back X.shared.chain
    where
      used_is : f used ≡ m.pool.used
      used_is = X.shared.used_are

      at : (l : List ℕ) → Chain own (λ (y : ℕ). f (older y)) (f given_back) l
          → LineImage f m w t o n (on_45 i x v g j (first_free l m.pool.used m.limits.nodes)) (code.line_45 f w)
      at [] c = unfold first_free in
          by_lt (λ (r : Found). LineImage f m w t o n (on_45 i x v g j r) (code.line_45 f w)) m.pool.used m.limits.nodes
          (λ p. subst (λ (y : ℕ). LineImage f m w t o n (on_45 i x v g j (Found.node y)) (code.line_45 f w)) used_is
          (rw (eq-eqb (f given_back) 0 c, lt-leb (f nodes_limit) (f used) (omega (arith, X.header.nodes_are)))
          (takes_45 i x v g j (f used) e k (omega arith) (used ≔ (f used + 1) ∷ []) (inl (refl, c)))))
          (λ p. rw (eq-eqb (f given_back) 0 c, le-leb (f nodes_limit) (f used) (omega (arith, X.header.nodes_are))) (refused 11))
      at (y ∷ l) c = unfold first_free in
          let taken_is : f given_back - 1 ≡ y = omega (arith, c.0) in
          subst (λ (y : ℕ). LineImage f m w t o n (on_45 i x v g j (Found.node y)) (code.line_45 f w)) taken_is
          (rw (ne_eqb (f given_back) 0 (λ d. absurd (omega (arith, c.0))))
          (takes_45 i x v g j (f given_back - 1) e k (omega (
            arith,
            c.0,
            X.shared.used_in,
            waits_below m (shared_of f) own X.shared y (length l) c.1,
          )) (given_back ≔ f (older (f given_back - 1)) ∷ [])
          (inr (refl, λ d. absurd (omega (arith, c.0))))))

  -- line 46: the head is still the version fetched exactly where no version was published since
  pub head_test : (i j : ℕ) → i < m.items → j < (m.item i).versions → f (item w) ≡ i → f (node w) ≡ (m.item i).node j
      → eqb (f (head (f (item w)))) (f (node w)) ≡ eqb (m.item i).versions (suc j)
  head_test i j l p e g = at (same? (m.item i).versions (suc j))
    where
      head_at : f (head (f (item w))) ≡ (m.item i).node (pred (m.item i).versions)
      head_at = ap (λ (i : ℕ). f (head i)) e ∙ X.shared.head_is i l

      at : Same (m.item i).versions (suc j) → eqb (f (head (f (item w)))) (f (node w)) ≡ eqb (m.item i).versions (suc j)
      at (eq d) = eq-eqb _ _ (head_at ∙ ap (m.item i).node (omega arith) ∙ sym g) ∙ sym (eq-eqb (m.item i).versions (suc j) d)
      at (ne d) =
          ne_eqb _ _ (λ z. versions_apart m (shared_of f) own X.shared i (pred (m.item i).versions) i j l (omega arith) l p (λ a b. d (omega arith))
          (sym head_at ∙ z ∙ g))
          ∙ sym (ne_eqb (m.item i).versions (suc j) d)

  changes_46 : (i x v g j y : ℕ) → Kept m.item (local_of f w) (line_46 i x v g j y) → Known m (line_46 i x v g j y)
      → LineImage f m w t o n (line t m (line_46 i x v g j y)) (code.line_46 f w)
  unfolding code.line_46 line memory_after
  changes_46 i x v g j y k z =
      both (LineImage f m w t o n) (eqb (m.item i).versions (suc j)) (eqb (f (head (f (item w)))) (f (node w)))
      (head_test i j z.0.item_in (omega (arith, z.1, (X.well.item_well i z.0.item_in).few)) k.0.item_is k.1)
      (λ a. record {
        answer_is = ap running (omega arith);
        shared_is = ap₂ (λ (i y : ℕ). shared_of (after f (head i ≔ y ∷ []))) k.0.item_is k.2;
        next_is = rw (self w) (record {
          phase_is = refl;
          steps_are = omega arith;
          kept = (change_stays (same_went 13 (f (new_node w)) (f (new_node w)) (f (seen w))) i x v k.0, k.2 ∙ new_name (eqb-true _ _ a));
        });
        others_stay = λ v d. rw (ne_eqb w v d) refl;
        proper = (
          omega (arith, k.0.item_is, z.0.item_in, X.well.items_in),
          omega arith,
          (X.worker_in, omega arith, (X.worker_in, omega arith, (X.worker_in, omega arith, tt))),
        );
      })
      (λ a. record {
        answer_is = ap running (omega arith);
        shared_is = refl;
        next_is = rw (self w) (record {
          phase_is = refl;
          steps_are = omega arith;
          kept = (change_stays (same_went 17 (f (node w)) (f (new_node w)) (f (seen w))) i x v k.0, k.2);
        });
        others_stay = λ v d. rw (ne_eqb w v d) refl;
        proper = (X.worker_in, omega arith, (X.worker_in, omega arith, tt));
      })
    where
      new_name : (m.item i).versions ≡ suc j → y ≡ (put m.item i (published t o v y (m.item i)) i).node (suc j)
      new_name e = sym (ap (λ (it : Item). it.node (suc j)) (put_same m.item i (published t o v y (m.item i)) i refl)
          ∙ put_same (m.item i).node (m.item i).versions y (suc j) (sym e))

  changed_48 : (i x v j : ℕ) → LineImage f m w t o n (line t m (line_48 i x v j)) (code.line_48 f w)
  unfolding code.line_48 line memory_after
  changed_48 i x v j =
      record {
        answer_is = ap (finished 1) (omega arith);
        shared_is = refl;
        next_is = rw (self w) refl;
        others_stay = λ v d. rw (ne_eqb w v d) refl;
        proper = cleared_proper m.limits.workers m.limits.items m.limits.nodes w X.worker_in;
      }

  returns_50 : (i x v g y : ℕ) → f (phase w) ≡ 17 → Kept m.item (local_of f w) (line_50 i x v g y) → own y ≡ held w
      → LineImage f m w t o n (line t m (line_50 i x v g y)) (code.line_50 f w)
  unfolding code.line_50 line memory_after
  returns_50 i x v g y e k h =
      record {
        answer_is = ap running (omega arith);
        shared_is = ap (λ (y : ℕ). shared_of (after f (older y ≔ f given_back ∷ given_back ≔ (y + 1) ∷ []))) k.1;
        next_is = rw (self w) (record {
          phase_is = omega arith;
          steps_are = omega arith;
          kept = change_stays (same_went (f (phase w) + 1) (f (node w)) (f (new_node w)) (f (seen w))) i x v k.0;
        });
        others_stay = λ v d. rw (ne_eqb w v d) refl;
        proper = (
          omega (arith, k.1, X.shared.used_in, held_below m (shared_of f) own X.shared y w h),
          omega arith,
          (omega arith, omega arith, (X.worker_in, omega arith, (X.worker_in, omega arith, tt))),
        );
      }

  lost_52 : (i x v g j : ℕ) → LineImage f m w t o n (line t m (line_52 i x v g j)) (code.line_52 f w)
  unfolding code.line_52 line
  lost_52 i x v g j = answered 0 0 _ _ refl

  takes_5 : f (phase w) ≡ 23 → LineImage f m w t o n (line t m line_5) (code.line_5 f w)
  unfolding code.line_5 line memory_after
  takes_5 e =
      both (LineImage f m w t o n) (leb m.limits.counter m.camera.counter) (leb (f counter_limit) (f counter))
      (ap₂ leb X.header.limit_is X.shared.counter_is)
      (λ a. refused 12)
      (λ a. record {
        answer_is = ap running (omega arith);
        shared_is = refl;
        next_is = rw (self w) (record { phase_is = omega arith; steps_are = omega arith; kept = X.shared.counter_is });
        others_stay = λ v d. rw (ne_eqb w v d) refl;
        proper = (X.worker_in, omega arith, (X.worker_in, omega arith, (X.worker_in, omega arith, tt)));
      })

  counts_6 : (c r : ℕ) → Kept m.item (local_of f w) (line_6 c r) → LineImage f m w t o n (line t m (line_6 c r)) (code.line_6 f w)
  unfolding code.line_6 line memory_after
  counts_6 c r k =
      both (LineImage f m w t o n) (eqb m.camera.counter c) (eqb (f counter) (f (seen w))) (ap₂ eqb X.shared.counter_is k)
      (λ a. record {
        answer_is = ap₂ finished k (omega arith);
        shared_is = ap (λ (x : ℕ). shared_of (after f (counter ≔ x ∷ []))) (counted_up (eqb-true _ _ a));
        next_is = rw (self w) refl;
        others_stay = λ v d. rw (ne_eqb w v d) refl;
        proper = (omega arith, omega arith, cleared_proper m.limits.workers m.limits.items m.limits.nodes w X.worker_in);
      })
      (λ a. answered (f (seen w)) c _ _ k)
    where
      counted_up : m.camera.counter ≡ c → f (seen w) + 1 ≡ f counter + 1
      counted_up e = omega (arith, k, X.shared.counter_is)

  -- line 34's test, and its way to the older node
  too_new_is : (i h x : ℕ) → i < m.items → x < (m.item i).valid → f (handle w) ≡ h → f (node w) ≡ (m.item i).node x
      → too_new f w ≡ ltb h ((m.item i).stamp x)
  too_new_is i h x l p e g = ap₂ ltb e (ap (λ (y : ℕ). f (stamp y)) g ∙ X.shared.valid_stamp i x l p)

  older_there : (i h x : ℕ) → i < m.items → x < (m.item i).valid → (m.item i).stamp 0 ≤ h → h < (m.item i).stamp x → f (node w) ≡ (m.item i).node x
      → f (older (f (node w))) - 1 ≡ (m.item i).node (pred x)
  older_there i h zero l p b d g = absurd (omega arith)
  older_there i h (suc x) l p b d g = omega (arith, ap (λ (y : ℕ). f (older y)) g ∙ X.shared.older_is i x l (omega (arith, p, (X.well.item_well i l).few)))

  walks_34 : (i h g j x : ℕ) → f (phase w) ≡ 29 → Kept m.item (local_of f w) (line_34 i h g j x) → Known m (line_34 i h g j x)
      → LineImage f m w t o n (line t m (line_34 i h g j x)) (code.line_34 f w)
  unfolding code.line_34 line memory_after
  walks_34 i h g j x e k z =
      both (LineImage f m w t o n) (ltb h ((m.item i).stamp x)) (too_new f w) (too_new_is i h x z.0.item_in z.1 k.0.handle_is k.1)
      (λ a. record {
        answer_is = ap running (omega arith);
        shared_is = refl;
        next_is = rw (self w) (record {
          phase_is = e;
          steps_are = omega arith;
          kept = (
            read_stays (same_went (f (phase w)) (f (older (f (node w))) - 1) (f (new_node w)) (f (seen w))) i h k.0,
            older_there i h x z.0.item_in z.1 z.0.born (ltb-true _ _ a) k.1,
          );
        });
        others_stay = λ v d. rw (ne_eqb w v d) refl;
        proper = (X.worker_in, omega arith, (X.worker_in, omega arith, (X.worker_in, omega arith, tt)));
      })
      (λ a. answered (f (value (f (node w)))) ((m.item i).value x) _ _
      (value_there i x z.0.item_in (omega (arith, z.1, (X.well.item_well i z.0.item_in).few)) k.1))

  -- a total at its next item, or at its closing step
  total_at_image : (its : ℕ → Item) (l : Local) (q h k i u : ℕ) → l.phase ≡ cond (eqb i k) closing_phase total_start → l.steps ≡ suc n
      → TotalKept l q h k i u → BusyImage its l (suc n) (total_at q h k i u)
  unfolding total_at
  total_at_image its l q h k i u e c z = at (same? i k)
    where
      at : Same i k → BusyImage its l (suc n) (cond (eqb i k) (closing q h k u) (total_32 q h k i u))
      at (eq d) = rw (eq-eqb i k d) (record { phase_is = e ∙ rw (eq-eqb i k d); steps_are = c; kept = subst (λ (x : ℕ). TotalKept l q h k x u) d z })
      at (ne d) = rw (ne_eqb i k d) (record { phase_is = e ∙ rw (ne_eqb i k d); steps_are = c; kept = z })

  next_test : (k i : ℕ) → f (noted w) ≡ k → f (item w) ≡ i
      → cond (eqb (f (item w) + 1) (f (noted w))) closing_phase total_start ≡ cond (eqb (suc i) k) closing_phase total_start
  next_test k i a b = ap₂ (λ (x y : ℕ). cond (eqb x y) closing_phase total_start) one_more a
    where
      one_more : f (item w) + 1 ≡ suc i
      one_more = omega arith

  starts_total_32 : (q h k i u : ℕ) → f (phase w) ≡ 30 → Kept m.item (local_of f w) (total_32 q h k i u) → Known m (total_32 q h k i u)
      → LineImage f m w t o n (line t m (total_32 q h k i u)) (code.total_32 f w)
  unfolding code.total_32 line memory_after
  starts_total_32 q h k i u e z a =
      both (λ (p : Phase) (out : Outcome). LineImage f m w t o n (only (goes_on p)) out) (ltb h ((m.item i).stamp 0))
      (ltb (f (handle w)) (f (birth (f (item w)))))
      (ap₂ ltb z.handle_is (ap (λ (i : ℕ). f (birth i)) z.item_is ∙ X.shared.birth_is i l))
      (λ b. record {
        answer_is = ap running (omega arith);
        shared_is = refl;
        next_is = rw (self w) (total_at_image m.item (record {
          phase = cond (eqb (f (item w) + 1) (f (noted w))) closing_phase total_start;
          steps = f (steps w) + 1;
          item = f (item w) + 1;
          old = f (old w);
          new = f (new w);
          handle = f (handle w);
          project = f (project w);
          noted = f (noted w);
          node = f (node w);
          new_node = f (new_node w);
          seen = f (seen w);
          sum = sum f w;
        }) q h k (suc i) u (next_test k i z.noted_are z.item_is) (omega arith)
            (record {
              project_is = z.project_is;
              handle_is = z.handle_is;
              noted_are = z.noted_are;
              item_is = omega (arith, z.item_is);
              sum_is = z.sum_is;
            }));
        others_stay = λ v d. rw (ne_eqb w v d) refl;
        proper = (X.worker_in, omega arith, (X.worker_in, omega arith, (X.worker_in, omega arith, tt)));
      })
      (λ b. record {
        answer_is = ap running (omega arith);
        shared_is = refl;
        next_is = rw (self w) (record {
          phase_is = omega arith;
          steps_are = omega arith;
          kept = (
            total_stays (same_went (f (phase w) + 1) (f (head (f (item w)))) (f (new_node w)) (f (seen w))) q h k i u z,
            ap (λ (i : ℕ). f (head i)) z.item_is ∙ X.shared.head_is i l,
          );
        });
        others_stay = λ v d. rw (ne_eqb w v d) refl;
        proper = (X.worker_in, omega arith, (X.worker_in, omega arith, (X.worker_in, omega arith, tt)));
      })
    where
      l : i < m.items
      l = omega (arith, a.1, a.0.noted_in)

  -- a total's line 34 adds an item's size where its value at the handle is the project
  added_is : (q k i u x h : ℕ) → TotalKept (local_of f w) q h k i u → i < m.items → x < (m.item i).valid → f (node w) ≡ (m.item i).node x
      → code.added f w ≡ u + cond (eqb ((m.item i).value x) q) (m.item i).size 0
  added_is q k i u x h z l p g =
      ap₂ (λ (a b : ℕ). a + b) z.sum_is
      (ap₂ (λ (b : Bool) (s : ℕ). cond b s 0) (ap₂ eqb (value_there i x l (omega (arith, p, (X.well.item_well i l).few)) g) z.project_is)
      (ap (λ (i : ℕ). f (size i)) z.item_is ∙ X.shared.size_is i l))

  walks_total_34 : (q h k i u g j x : ℕ) → f (phase w) ≡ 34 → Kept m.item (local_of f w) (total_34 q h k i u g j x) → Known m (total_34 q h k i u g j x)
      → LineImage f m w t o n (line t m (total_34 q h k i u g j x)) (code.total_34 f w)
  unfolding code.total_34 line memory_after
  walks_total_34 q h k i u g j x e z a =
      both (λ (p : Phase) (out : Outcome). LineImage f m w t o n (only (goes_on p)) out) (ltb h ((m.item i).stamp x)) (too_new f w)
      (too_new_is i h x l a.1 z.0.handle_is z.1)
      (λ b. record {
        answer_is = ap running (omega arith);
        shared_is = refl;
        next_is = rw (self w) (record {
          phase_is = e;
          steps_are = omega arith;
          kept = (
            total_stays (same_went (f (phase w)) (f (older (f (node w))) - 1) (f (new_node w)) (f (seen w))) q h k i u z.0,
            older_there i h x l a.1 a.0.born (ltb-true _ _ b) z.1,
          );
        });
        others_stay = λ v d. rw (ne_eqb w v d) refl;
        proper = (X.worker_in, omega arith, (X.worker_in, omega arith, (X.worker_in, omega arith, tt)));
      })
      (λ b. record {
        answer_is = ap running (omega arith);
        shared_is = refl;
        next_is = rw (self w) (total_at_image m.item (record {
          phase = cond (eqb (f (item w) + 1) (f (noted w))) closing_phase total_start;
          steps = f (steps w) + 1;
          item = f (item w) + 1;
          old = f (old w);
          new = f (new w);
          handle = f (handle w);
          project = f (project w);
          noted = f (noted w);
          node = f (node w);
          new_node = f (new_node w);
          seen = f (seen w);
          sum = (code.added f w / 4294967296) * 4294967296 + code.added f w % 4294967296;
        })
            q h k (suc i) (u + cond (eqb ((m.item i).value x) q) (m.item i).size 0) (next_test k i z.0.noted_are z.0.item_is) (omega arith)
            (record {
              project_is = z.0.project_is;
              handle_is = z.0.handle_is;
              noted_are = z.0.noted_are;
              item_is = omega (arith, z.0.item_is);
              sum_is = div-add-mod' (code.added f w) 4294967296 ∙ added_is q k i u x h z.0 l a.1 z.1;
            }));
        others_stay = λ v d. rw (ne_eqb w v d) refl;
        proper = (
          X.worker_in,
          omega arith,
          (
            X.worker_in,
            omega arith,
            (X.worker_in, omega arith, (X.worker_in, omega arith, (X.worker_in, omega arith, tt))),
          ),
        );
      })
    where
      l : i < m.items
      l = omega (arith, a.0.inside, a.0.total.noted_in)

  -- every phase
  pub line_image : (ph : Phase) → f (phase w) ≡ phase_number ph → Kept m.item (local_of f w) ph → Known m ph → Holds own (shared_of f) m.item w ph
      → LineImage f m w t o n (line t m ph) ((line_of_phase (phase_number ph)).does f w)
  unfolding line_of_phase lines
  line_image (line_37 i) e k z h = unfold line in fetched 1 (then_39 i t) e (omega arith) k z k
  line_image (line_39 i g j) e k z h = reads_39 i g j k z
  line_image (line_41 i x y) e k z h = unfold line in fetched 6 (then_43 i x y t) e (omega arith) k.item_is z.item_in k
  line_image (line_43 i x y g j) e k z h = compares_43 i x y g j e k z
  line_image (line_45 i x y g j) e k z h = allocates_45 i x y g j e k
  line_image (line_46 i x y g j v) e k z h = changes_46 i x y g j v k z
  line_image (line_48 i x y j) e k z h = changed_48 i x y j
  line_image (line_50 i x y g v) e k z h = returns_50 i x y g v e k h
  line_image (line_51 i x y g) e k z h = unfold line in fetched 18 (then_52 i x y g) e (omega arith) k.item_is z.item_in k
  line_image (line_52 i x y g j) e k z h = lost_52 i x y g j
  line_image line_5 e k z h = takes_5 e
  line_image (line_6 c r) e k z h = counts_6 c r k
  line_image (line_32 i a) e k z h = unfold line in fetched 25 (then_34 i a t) e (omega arith) k.item_is z.item_in k
  line_image (line_34 i a g j x) e k z h = walks_34 i a g j x e k z
  line_image (total_32 q a k' i u) e k z h = starts_total_32 q a k' i u e k z
  line_image (total_34 q a k' i u g j x) e k z h = walks_total_34 q a k' i u g j x e k z
  line_image (closing q a k' u) e k z h = unfold line code.closing in answered (sum f w) u _ _ k.sum_is
  line_image (line_20 c j) e k z h = subst (λ (l : Line). LineImage f m w t o n (line t m (line_20 c j)) (l.does f w)) (sym (help_rows c).does_20)
      (helps_20 c j e k z)
  line_image (line_21 c j) e k z h = subst (λ (l : Line). LineImage f m w t o n (line t m (line_21 c j)) (l.does f w)) (sym (help_rows c).does_21)
      (helps_21 c j e k)
  line_image (line_22 c j v r) e k z h = subst (λ (l : Line). LineImage f m w t o n (line t m (line_22 c j v r)) (l.does f w))
      (sym (help_rows c).does_22) (helps_22 c j v r e k z)
