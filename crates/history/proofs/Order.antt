-- Every run of the machine of versions has the one order.
use Rattle.std.specs.Prelude.{◌≡◌, refl, ◌⊎◌, Bool, true, false, cond, eqb}
use Rattle.std.proofs.Common.{ap, ap₂, sym, ◌∙◌, subst, inl, inr, true≢false, arith, eqb→eq}
use mathlib.Core.List.{List, ◌∷◌}
use Prim.Native.Nat.{ℕ, zero, suc, ◌+◌, ◌*◌, ◌≤◌, ◌<◌}
use Rattle.std.proofs.Math.Dec.{T, eqb_refl}
use Rattle.history.specs.Tools.{by_eq}
use Rattle.history.specs.Machine.{
  Event,
  Item,
  Operation,
  register,
  v_read,
  v_cas,
  take_snapshot,
  read_snapshot,
  total,
  Place,
  unplaced,
  awaits,
  changes,
  observes,
  Catalogue,
  Limits,
  after_events,
}
use Rattle.history.specs.Facts.{Sees}
use Rattle.history.proofs.RightAnswers.{RightAnswer, CasSees, AtHead, AtLoss, AtLastStep}
use Rattle.history.proofs.Places.{asked_for, ChangeRight, ObserverRight, PlaceRight, Invariant}
use Rattle.history.specs.Definition1.{object}
use Rattle.history.proofs.Run.{run_right}
use Rattle.history.proofs.MachineOrder.{time_of, Pending, Within, inside, in_call, CasInstant, by_change, at_43, at_52, Instants, MachineOrder}
use Rattle.history.proofs.OrderList.{
  keyed,
  answer_at,
  acts_of,
  slot_onto,
  order_to,
  Good,
  listed_skip,
  listed_take,
  listed_next,
  shown_skip,
  shown_next,
  change_key,
  author_past,
}
use Rattle.history.proofs.OrderShown.{operation_tag, asked_tag, change_operation, shown_observer, shown_change}

module _ (s : Catalogue) (invariant : Invariant s) where
  good_skip : {k n : ℕ} {l : List ℕ} → Good s invariant k n l → (T (keyed s.memory (s.place n) k) → ⊥) → Good s invariant k (suc n) l
  good_skip G d = record { listed = listed_skip s invariant G.listed d; shown = shown_skip s invariant G.shown d }

  good_step : {k n : ℕ} {l : List ℕ} → Good s invariant k n l → n < s.now → Good s invariant k (suc n) (cond (keyed s.memory (s.place n) k) (n ∷ l) l)
  good_step {k} {n} {l} G b = at (s.place n) refl
    where
      is : (p : Place) → s.place n ≡ p → T (keyed s.memory p k) → T (keyed s.memory (s.place n) k)
      is p e x = subst (λ (p : Place). T (keyed s.memory p k)) (sym e) x

      isnt : (p : Place) → s.place n ≡ p → (T (keyed s.memory p k) → ⊥) → T (keyed s.memory (s.place n) k) → ⊥
      isnt p e d x = d (subst (λ (p : Place). T (keyed s.memory p k)) e x)

      same_key : (c : ℕ) → c ≡ k → T (eqb c k)
      same_key c q = subst (λ (k : ℕ). T (eqb c k)) q (eqb_refl c)

      at : (p : Place) → s.place n ≡ p → Good s invariant k (suc n) (cond (keyed s.memory p k) (n ∷ l) l)
      at unplaced e = good_skip G (isnt unplaced e (λ x. x))
      at (awaits i j) e = good_skip G (isnt (awaits i j) e (λ x. x))
      at (changes i j) e =
          by_eq (λ (y : List ℕ). Good s invariant k (suc n) y) (2 * (s.memory.item i).effect_at j) k
          (λ q. record {
            listed = listed_take s invariant G.listed b (is (changes i j) e (same_key _ q));
            shown = shown_change s invariant G.listed G.shown i j e q;
          })
          (λ q. good_skip G (isnt (changes i j) e (λ x. q (eqb→eq _ k x))))
      at (observes τ j x) e =
          by_eq (λ (y : List ℕ). Good s invariant k (suc n) y) (2 * τ + 1) k
          (λ q. record {
            listed = listed_take s invariant G.listed b (is (observes τ j x) e (same_key _ q));
            shown = shown_observer s invariant G.listed G.shown τ q j x e;
          })
          (λ q. good_skip G (isnt (observes τ j x) e (λ x. q (eqb→eq _ k x))))

  good_slot : {k : ℕ} {l : List ℕ} (n : ℕ) → n ≤ s.now → Good s invariant k 0 l → Good s invariant k n (slot_onto s.memory s.place k n l)
  unfolding slot_onto
  good_slot zero p G = G
  good_slot (suc n) p G = good_step (good_slot n (omega arith) G) p

  good_order : (k : ℕ) → Good s invariant k 0 (order_to s.memory s.place s.now k)
  unfolding order_to acts_of object
  good_order zero =
      record {
        listed = record {
          once = tt;
          memory = λ o i. absurd i;
          below = λ o c u v w. absurd (omega arith);
          here = λ o u v. absurd (omega arith);
          falling = tt;
          keys = tt;
        };
        shown = record {
          shown = λ i. 0;
          shown_valid = λ i. omega arith;
          before = λ i j p. absurd (omega arith);
          before_same = λ i j p e. absurd (omega arith);
          after = λ i j p q. omega arith;
          after_same = λ i j p q e. omega arith;
          value = λ i. refl;
          items = 0;
          items_is = refl;
          low = λ i p. absurd (omega arith);
          high = λ i p. refl;
          sizes = λ i p. absurd (omega arith);
          all_born = λ i p. absurd (omega arith);
          snaps = λ h p t. absurd t;
          legal = tt;
        };
      }
  good_order (suc k) = next (good_slot s.now (omega arith) (good_order k))
    where
      next : {l : List ℕ} → Good s invariant k s.now l → Good s invariant (suc k) 0 l
      next G = record { listed = listed_next s invariant G.listed; shown = shown_next s invariant G.shown }

  -- ---- the linearization

  placed : (o k : ℕ) → T (keyed s.memory (s.place o) k) →
      ((s.fate o).done ≡ true) ⊎ (Pending s o × (answer_at (s.fate o).operation (s.place o) ≡ 1))
  placed o k x = at (s.place o) refl x
    where
      fate : (d : Bool) → (s.fate o).done ≡ d → (i j : ℕ) → s.place o ≡ changes i j → ChangeRight s.now o i j s.memory (s.fate o) →
          ((s.fate o).done ≡ true) ⊎ (Pending s o × (answer_at (s.fate o).operation (s.place o) ≡ 1))
      fate true e i j p c = inl e
      fate false e i zero p c = inl (c.register_done refl)
      fate false e i (suc j) p c =
          inr (
            record {
              unfinished = e;
              i = i;
              a = (s.memory.item i).value j;
              b = (s.memory.item i).value (suc j);
              is_cas = change_operation s invariant o i (suc j) p;
              j = suc j;
              mine = c.mine;
              valid = c.good;
            },
            ap₂ answer_at (change_operation s invariant o i (suc j) p) p,
          )

      at : (p : Place) → s.place o ≡ p → T (keyed s.memory p k) →
          ((s.fate o).done ≡ true) ⊎ (Pending s o × (answer_at (s.fate o).operation (s.place o) ≡ 1))
      at unplaced e x = absurd x
      at (awaits i j) e x = absurd x
      at (changes i j) e x = fate (s.fate o).done refl i j e
          (subst (λ (p : Place). PlaceRight s.now o s.memory (s.fate o) p) e (invariant.kept.places o))
      at (observes τ j y) e x =
          inl (let O : ObserverRight s.now o τ j y s.memory (s.fate o) = subst (λ (p : Place). PlaceRight s.now o s.memory (s.fate o) p) e
          (invariant.kept.places o) in O.done)

  timely : (o k : ℕ) → T (keyed s.memory (s.place o) k) → Within s o (time_of s.memory (s.place o))
  timely o k x = at (s.place o) refl x
    where
      chgd : (i j : ℕ) → s.place o ≡ changes i j → ChangeRight s.now o i j s.memory (s.fate o) → Within s o ((s.memory.item i).effect_at j)
      chgd i zero e c = in_call i ((s.memory.item i).value 0) (s.memory.item i).size (c.register_done refl)
          (change_operation s invariant o i zero e)
          ((invariant.kept.memory.item i).birth c.good ∙ c.mine) (c.register_ended refl)
      chgd i (suc j) e c =
          inside (omega (
            arith,
            c.mine,
            (invariant.kept.memory.item i).author_before j (omega (arith, c.good, (invariant.kept.memory.item i).valid_published)),
            (invariant.kept.memory.item i).effect_after_46 (suc j) c.good,
          )) c.till

      at : (p : Place) → s.place o ≡ p → T (keyed s.memory p k) → Within s o (time_of s.memory p)
      at unplaced e x = absurd x
      at (awaits i j) e x = absurd x
      at (changes i j) e x = chgd i j e (subst (λ (p : Place). PlaceRight s.now o s.memory (s.fate o) p) e (invariant.kept.places o))
      at (observes τ j y) e x = let O : ObserverRight s.now o τ j y s.memory (s.fate o) =
          subst (λ (p : Place). PlaceRight s.now o s.memory (s.fate o) p) e (invariant.kept.places o) in inside O.since (λ d. O.till)

  answers_agree : (o k : ℕ) → T (keyed s.memory (s.place o) k) → (s.fate o).done ≡ true → (s.fate o).answer ≡ answer_at (s.fate o).operation
      (s.place o)
  answers_agree o k x d = at (s.place o) refl x
    where
      at : (p : Place) → s.place o ≡ p → T (keyed s.memory p k) → (s.fate o).answer ≡ answer_at (s.fate o).operation p
      at unplaced e x = absurd x
      at (awaits i j) e x = absurd x
      at (changes i j) e x = let C : ChangeRight s.now o i j s.memory (s.fate o) =
          subst (λ (p : Place). PlaceRight s.now o s.memory (s.fate o) p) e (invariant.kept.places o) in C.is d
      at (observes τ j y) e x = let O : ObserverRight s.now o τ j y s.memory (s.fate o) =
          subst (λ (p : Place). PlaceRight s.now o s.memory (s.fate o) p) e (invariant.kept.places o) in O.is

  has_key : (o : ℕ) → (s.fate o).done ≡ true → (k : ℕ) × T (keyed s.memory (s.place o) k) × (k < 2 * s.now)
  has_key o d = at (s.place o) refl
    where
      at : (p : Place) → s.place o ≡ p → (k : ℕ) × T (keyed s.memory p k) × (k < 2 * s.now)
      at unplaced e = absurd (true≢false (sym d ∙ subst (λ (p : Place). PlaceRight s.now o s.memory (s.fate o) p) e (invariant.kept.places o)))
      at (awaits i j) e =
          absurd (true≢false (sym d ∙ subst (λ (p : Place). PlaceRight s.now o s.memory (s.fate o) p) e (invariant.kept.places o)))
      at (changes i j) e = let C : ChangeRight s.now o i j s.memory (s.fate o) =
          subst (λ (p : Place). PlaceRight s.now o s.memory (s.fate o) p) e (invariant.kept.places o) in
          (2 * (s.memory.item i).effect_at j, eqb_refl (2 * (s.memory.item i).effect_at j), omega (arith, C.till d, C.past d))
      at (observes τ j y) e = let O : ObserverRight s.now o τ j y s.memory (s.fate o) =
          subst (λ (p : Place). PlaceRight s.now o s.memory (s.fate o) p) e (invariant.kept.places o) in
          (2 * τ + 1, eqb_refl (2 * τ + 1), omega (arith, O.till, O.past))

  -- a finished operation that is no change has a place of the kind obs
  seen_place : (o : ℕ) → (s.fate o).done ≡ true → (P : Place → Type 0) →
      ((i j : ℕ) → s.place o ≡ changes i j → ChangeRight s.now o i j s.memory (s.fate o) → P (changes i j)) →
      ((τ j x : ℕ) → ObserverRight s.now o τ j x s.memory (s.fate o) → P (observes τ j x)) → P (s.place o)
  seen_place o d P f g = at (s.place o) refl
    where
      at : (p : Place) → s.place o ≡ p → P p
      at unplaced e = absurd (true≢false (sym d ∙ subst (λ (p : Place). PlaceRight s.now o s.memory (s.fate o) p) e (invariant.kept.places o)))
      at (awaits i j) e =
          absurd (true≢false (sym d ∙ subst (λ (p : Place). PlaceRight s.now o s.memory (s.fate o) p) e (invariant.kept.places o)))
      at (changes i j) e = f i j e (subst (λ (p : Place). PlaceRight s.now o s.memory (s.fate o) p) e (invariant.kept.places o))
      at (observes τ j x) e = g τ j x (subst (λ (p : Place). PlaceRight s.now o s.memory (s.fate o) p) e (invariant.kept.places o))

  not_chg : (o i j : ℕ) (operation : Operation) → s.place o ≡ changes i j → (s.fate o).operation ≡ operation → operation_tag operation ≡ 1
      ⊎ (3 ≤ operation_tag operation) → ⊥
  not_chg o i j operation e w (inl t) = tags (s.memory.item i) j (ap operation_tag (sym (change_operation s invariant o i j e) ∙ w) ∙ t)
    where
      tags : (it : Item) (j : ℕ) → operation_tag (asked_for it i j) ≡ 1 → ⊥
      tags it zero q = let z : ◌≡◌ {A = ℕ} 0 1 = q in omega arith
      tags it (suc j) q = let z : ◌≡◌ {A = ℕ} 2 1 = q in omega arith
  not_chg o i j operation e w (inr t) = let z : operation_tag operation ≤ 2 = subst (λ (n : ℕ). n ≤ 2)
      (ap operation_tag (sym (change_operation s invariant o i j e) ∙ w)) (asked_tag (s.memory.item i) i j) in omega arith

  the_instants : Instants s (λ o. time_of s.memory (s.place o))
  the_instants =
      record {
        of_register = λ o i v z w d. seen_place o d (λ (p : Place). time_of s.memory p ≡ o) (λ a b e C. born o i v z a b w e C)
            (λ τ j x O. absurd (subst (λ (operation : Operation). RightAnswer s.memory operation o (s.fate o).lines τ j x) w O.seen));
        of_read = λ o i w d. seen_place o d (λ (p : Place). (j : ℕ) × AtHead (s.memory.item i) o (time_of s.memory p) j)
            (λ a b e C. absurd (not_chg o a b (v_read i) e w (inl refl))) (λ τ j x O. read o i τ j x w O);
        of_cas = λ o i a b w d. seen_place o d (λ (p : Place). CasInstant s o (time_of s.memory p) i) (λ a' b' e C. cas_chg o i a b a' b' w e C)
            (λ τ j x O. cas o i a b τ j x w O);
        of_take = λ o w d. seen_place o d (λ (p : Place). (time_of s.memory p ≡ s.memory.camera.left_at (s.fate o).answer)
            × ((s.fate o).answer < s.memory.camera.counter)) (λ a b e C. absurd (not_chg o a b take_snapshot e w (inr (omega arith))))
            (λ τ j x O. taken o τ j x w O);
        of_read_snapshot = λ o i h w d. seen_place o d (λ (p : Place). time_of s.memory p ≡ (s.fate o).ended_at)
            (λ a b e C. absurd (not_chg o a b (read_snapshot i h) e w (inr (omega arith))))
            (λ τ j x O. at_end τ (s.fate o).ended_at (subst (λ (operation : Operation). AtLastStep operation τ (suc (s.fate o).ended_at)) w
            O.last));
        of_total = λ o p' h w d. seen_place o d (λ (p : Place). time_of s.memory p ≡ (s.fate o).ended_at)
            (λ a b e C. absurd (not_chg o a b (total p' h) e w (inr (omega arith))))
            (λ τ j x O. at_end τ (s.fate o).ended_at (subst (λ (operation : Operation). AtLastStep operation τ (suc (s.fate o).ended_at)) w
            O.last));
      }
    where
      at_end : (τ f : ℕ) → suc τ ≡ suc f → τ ≡ f
      at_end τ f e = omega arith

      read : (o i τ j x : ℕ) → (s.fate o).operation ≡ v_read i → ObserverRight s.now o τ j x s.memory (s.fate o) →
          (j : ℕ) × AtHead (s.memory.item i) o τ j
      read o i τ j x w O = let y : Sees (s.memory.item i) τ j × (x ≡ (s.memory.item i).value j) × AtHead (s.memory.item i) o τ j =
          subst (λ (operation : Operation). RightAnswer s.memory operation o (s.fate o).lines τ j x) w O.seen in (j, y.2)

      cas : (o i a b τ j x : ℕ) → (s.fate o).operation ≡ v_cas i a b → ObserverRight s.now o τ j x s.memory (s.fate o) → CasInstant s o τ i
      cas o i a b τ j x w O = at y.2
        where
          y : Sees (s.memory.item i) τ j × CasSees ((s.memory.item i).value j) a b x
              × (AtHead (s.memory.item i) o τ j ⊎ AtLoss (s.memory.item i) o τ j)
          y = subst (λ (operation : Operation). RightAnswer s.memory operation o (s.fate o).lines τ j x) w O.seen

          at : AtHead (s.memory.item i) o τ j ⊎ AtLoss (s.memory.item i) o τ j → CasInstant s o τ i
          at (inl z) = at_43 j z
          at (inr z) = at_52 j z

      taken : (o τ j x : ℕ) → (s.fate o).operation ≡ take_snapshot → ObserverRight s.now o τ j x s.memory (s.fate o) →
          (τ ≡ s.memory.camera.left_at (s.fate o).answer) × ((s.fate o).answer < s.memory.camera.counter)
      taken o τ j x w O = let y : (x < s.memory.camera.counter) × (s.memory.camera.left_at x ≡ τ) =
          subst (λ (operation : Operation). RightAnswer s.memory operation o (s.fate o).lines τ j x) w O.seen in
          (sym y.1 ∙ ap s.memory.camera.left_at (sym O.is), omega (arith, y.0, O.is))

      born : (o i v z i' j' : ℕ) → (s.fate o).operation ≡ register i v z → s.place o ≡ changes i' j' →
          ChangeRight s.now o i' j' s.memory (s.fate o) → (s.memory.item i').effect_at j' ≡ o
      born o i v z i' zero w e C = (invariant.kept.memory.item i').birth C.good ∙ C.mine
      born o i v z i' (suc j') w e C = let z : ◌≡◌ {A = ℕ} 2 0 = ap operation_tag (sym (change_operation s invariant o i' (suc j') e) ∙ w) in
          absurd (omega arith)

      operation_item : Operation → ℕ
      operation_item (register i v z) = i
      operation_item (v_read i) = i
      operation_item (v_cas i a b) = i
      operation_item take_snapshot = 0
      operation_item (read_snapshot i h) = i
      operation_item (total p h) = 0

      made_item : (it : Item) (i j : ℕ) → operation_item (asked_for it i j) ≡ i
      made_item it i zero = refl
      made_item it i (suc j) = refl

      cas_chg : (o i a b i' j' : ℕ) → (s.fate o).operation ≡ v_cas i a b → s.place o ≡ changes i' j' →
          ChangeRight s.now o i' j' s.memory (s.fate o) → CasInstant s o ((s.memory.item i').effect_at j') i
      cas_chg o i a b i' j' w e C = subst (λ (i : ℕ). CasInstant s o ((s.memory.item i').effect_at j') i) (sym (made_item (s.memory.item i') i' j')
          ∙ ap operation_item (sym (change_operation s invariant o i' j' e) ∙ w)) (by_change j' C.mine C.good refl)

  pub has_one_order : MachineOrder s
  unfolding acts_of
  has_one_order =
      record {
        order = order_to s.memory s.place s.now (2 * s.now);
        time = λ o. time_of s.memory (s.place o);
        answer = λ o. answer_at (s.fate o).operation (s.place o);
        once = G.listed.once;
        all = λ o b d. let y : (k : ℕ) × T (keyed s.memory (s.place o) k) × (k < 2 * s.now) = has_key o d in
            G.listed.below o y.0 b y.1 y.2;
        changed = λ i j p. G.listed.below ((s.memory.item i).author j) (2 * (s.memory.item i).effect_at j) (author_past s invariant i j p)
            (change_key s invariant i j p)
            (omega (arith, (invariant.kept.memory.item i).effect_before_22 j p, (invariant.kept.memory.item i).stamped_past j p));
        only = λ o i. placed o (G.listed.memory o i).key (G.listed.memory o i).has;
        within = λ o i. timely o (G.listed.memory o i).key (G.listed.memory o i).has;
        falling = G.listed.falling;
        keys = G.listed.keys;
        instants = the_instants;
        placed = λ o. refl;
        answered = λ o i d. answers_agree o (G.listed.memory o i).key (G.listed.memory o i).has d;
        legal = G.shown.legal;
      }
    where
      G : Good s invariant (2 * s.now) 0 (order_to s.memory s.place s.now (2 * s.now))
      G = good_order (2 * s.now)

pub order_is : (s : Catalogue) (invariant : Invariant s) → (has_one_order s invariant).order ≡ order_to s.memory s.place s.now (2 * s.now)
unfolding has_one_order
order_is s invariant = refl

-- demand 2, for this machine
pub one_order : (limits : Limits) (es : List Event) → MachineOrder (after_events limits es)
one_order limits es = has_one_order (after_events limits es) (run_right limits es)
