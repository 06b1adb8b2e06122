-- Each line of Algorithm 1, by a worker whose phase's facts hold: its change of the memory is allowed, and the next phase's facts hold, or the
-- answer is right at its place, with the lines executed.
use Rattle.std.specs.Prelude.{◌≡◌, Bool, true, eqb}
use Rattle.std.proofs.Math.Path.{refl, ap, sym, subst}
use Rattle.std.proofs.Common.{◌∙◌}
use Rattle.std.proofs.Math.Logic.{inl, inr}
use Rattle.std.proofs.Math.Bool.{false, cond}
use mathlib.Core.List.{List, [], ◌∷◌, ◌++◌}
use Prim.Native.Nat.{ℕ, suc, pred, ◌+◌, ◌≤◌, ◌<◌, max}
use native.Mathlib.Omega.{arith}
use Rattle.history.specs.Tools.{put_all, put_same, put_other, by_eq, by_lt, by_le, Split, split, Same, eq, ne, same?}
use Rattle.history.specs.Machine.{Item, Memory, Operation, v_read, v_cas, take_snapshot, total, Then, then_39, then_43, then_48, then_52, then_34, then_total_34, Phase, line_37, line_39, line_41, line_43, line_45, line_46, line_48, line_50, line_51, line_52, line_5, line_6, line_32, line_34, total_32, total_34, closing, line_20, line_21, line_22, after, total_at, helped_item, line_number, Found, no_node, node, node_to_take, on_45, Effect, nothing, publishes, stamps, Comes, goes_on, answers, only, line, memory_after, published, stamped}
use Rattle.history.specs.Facts.{Sees, Sum, skip, plus, Mine, Lost, Read, helped, MemoryFacts, Later}
use Rattle.history.proofs.Changes.{MayStamp, effect_later}
use Rattle.history.proofs.PhaseFacts.{
  Held,
  Totals,
  Walked,
  Passing,
  Lagging,
  Storing,
  Helped,
  PhaseFacts,
  then_published,
  then_later,
  totals_later,
  reading_later,
  held_later,
  wants_later,
}
use Rattle.history.proofs.RightAnswers.{
  then_operation,
  phase_operation,
  then_has_published,
  has_published,
  to_43,
  to_48,
  to_52,
  WholeLines,
  no_node_left,
  counter_full,
  AtHead,
  AtLastStep,
  differs,
  same,
  RightAnswer,
  GoesOn,
  AnswersRight,
  ComesRight,
  LineRight,
}

-- a help of a total's read, with the lines of the items before it
pub helped_onto : (tbd : Bool) (l : List ℕ) → helped tbd (32 ∷ l) ≡ helped tbd (32 ∷ []) ++ l
helped_onto true l = refl
helped_onto false l = refl

module _ (t o : ℕ) (l : List ℕ) (m : Memory) (known : MemoryFacts t m) (ot : o < t) where
  -- the memory does not change
  quietly : (ph : Phase) (u : Comes) → ComesRight (suc t) o (line_number ph ∷ l) m (phase_operation ph) (has_published ph) u →
      LineRight t o l m ph (only u)
  unfolding memory_after
  quietly ph u x = record { does = tt; comes = x; moves = tt }

  stay : Later t m m
  unfolding memory_after
  stay = effect_later known o take_snapshot false nothing tt

  held_head : (i : ℕ) → 0 < (m.item i).valid → Held (suc t) o (m.item i) (pred (m.item i).versions) t
  held_head i p =
      record {
        got = record {
          have = omega (arith, (known.item i).valid_published);
          before = (known.item i).published_past (pred (m.item i).versions)
              (omega (arith, (known.item i).valid_published));
          next = λ q. omega arith;
        };
        since = ot;
        till = omega arith;
      }

  lag_head : (i a g : ℕ) → Lost (m.item i) o a g → Lagging (m.item i) o a g (pred (m.item i).versions)
  lag_head i a g x = record { lost = x; have = omega (arith, x.more); newer = omega (arith, x.more) }

  -- the instant of a read of head j
  sees_head : (i j f : ℕ) → Held t o (m.item i) j f → j < (m.item i).valid → Sees (m.item i) (max f ((m.item i).stamped_at j)) j
  sees_head i j f x g =
      record {
        have = g;
        begun = omega (arith, (known.item i).effect_before_22 j g);
        not_yet = λ q. omega (
          arith,
          (known.item i).next j (omega (arith, (known.item i).valid_published)),
          x.got.next (omega (arith, (known.item i).valid_published)),
          (known.item i).effect_after_46 (suc j) q,
        );
        unborn = λ q r. omega (arith, (known.item i).next j r, x.got.next r);
      }

  at_head : (i j f : ℕ) → Held t o (m.item i) j f → j < (m.item i).valid → AtHead (m.item i) o (max f ((m.item i).stamped_at j)) j
  at_head i j f x g = record { f = f; got = x.got; since = x.since; good = g; is = refl }

  head_answer : (op : Operation) (r : List ℕ) (i j f x : ℕ) → Held t o (m.item i) j f → j < (m.item i).valid →
      AtLastStep op (max f ((m.item i).stamped_at j)) (suc t) → WholeLines op r →
      RightAnswer m op o r (max f ((m.item i).stamped_at j)) j x → AnswersRight (suc t) o r m op false x (max f ((m.item i).stamped_at j)) j
  head_answer op r i j f x h g z k b = record {
    last = z;
    early = refl;
    since = omega (arith, h.since);
    till = omega (arith, h.till, (known.item i).stamped_past j g);
    right = b;
    lines = k;
  }

  -- ---- a help ends

  after_operation : (c : Then) (j : ℕ) → phase_operation (after c j) ≡ then_operation c
  unfolding after
  after_operation (then_39 i f) j = refl
  after_operation (then_43 i a b f) j = refl
  after_operation (then_48 i a b) j = refl
  after_operation (then_52 i a b g) j = refl
  after_operation (then_34 i h f) j = refl
  after_operation (then_total_34 q h k i u f) j = refl

  after_published : (c : Then) (j : ℕ) → has_published (after c j) ≡ then_has_published c
  unfolding after
  after_published (then_39 i f) j = refl
  after_published (then_43 i a b f) j = refl
  after_published (then_48 i a b) j = refl
  after_published (then_52 i a b g) j = refl
  after_published (then_34 i h f) j = refl
  after_published (then_total_34 q h k i u f) j = refl

  after_facts : (r : List ℕ) (m' : Memory) (c : Then) (j : ℕ) → Helped (suc t) o r m' c j → PhaseFacts (suc t) o r m' (after c j)
  unfolding after
  after_facts r m' (then_39 i f) j x = x
  after_facts r m' (then_43 i a b f) j x = x
  after_facts r m' (then_48 i a b) j x = x
  after_facts r m' (then_52 i a b g) j x = x
  after_facts r m' (then_34 i h f) j x = (
    record { tbd = x.tbd; passed = 0; count = omega arith; is = x.is ∙ ap (helped x.tbd) x.keeps.0 },
    record { reading = x.keeps.1; good = x.good; at = omega arith; above = λ y p q. omega arith },
  )
  after_facts r m' (then_total_34 q h k i u f) j x =
      record {
        done = x.keeps.done;
        here = helped x.tbd (32 ∷ []);
        is = x.is ∙ ap (helped x.tbd) x.keeps.is ∙ helped_onto x.tbd x.keeps.done;
        passing = record { tbd = x.tbd; passed = 0; count = omega arith; is = refl };
        totals = x.keeps.totals;
        more = x.keeps.more;
        way = record { reading = x.keeps.reading; good = x.good; at = omega arith; above = λ y p q. omega arith };
      }

  -- line 22, where the stamp is still TBD
  stamps_22 : (c : Then) (j n r : ℕ) → Storing t o l m c j n r → (m.item (helped_item c)).valid ≤ j →
      LineRight t o l m (line_22 c j n r) (record { does = stamps (helped_item c) j n r; comes = goes_on (after c j) })
  unfolding memory_after
  stamps_22 c j n r x p =
      record {
        does = may;
        comes = record {
          same_operation = after_operation c j;
          same_published = after_published c j;
          facts = after_facts (22 ∷ l) _ c j (record {
            earlier = x.earlier;
            tbd = true;
            is = ap (λ (l : List ℕ). 22 ∷ l) x.is;
            keeps = then_later o (effect_later known o (then_operation c) false (stamps (helped_item c) j n r) may) ot known x.earlier c j x.keeps;
            good = good;
          });
        };
        moves = tt;
      }
    where
      there : j < (m.item (helped_item c)).versions
      there = then_published t o x.earlier m c j x.keeps

      may : MayStamp t j n r m.camera (m.item (helped_item c))
      may = record {
        head = omega (arith, (known.item (helped_item c)).one_open, there);
        undecided = omega (arith, (known.item (helped_item c)).one_open, there);
        read = x.read;
        past = x.past;
        before = x.before;
      }

      good : j < ((memory_after t o (stamps (helped_item c) j n r) m).item (helped_item c)).valid
      good = put_all (λ (n : ℕ) (y : Item). j < y.valid) m.item (helped_item c) (stamped t j n r (m.item (helped_item c))) (helped_item c)
          (λ q. omega arith) (λ q. absurd (q refl))

  -- ---- line 46, where the head is still the one fetched

  publishes_46 : (i a b f j y : ℕ) → PhaseFacts t o l m (line_46 i a b f j y) → (m.item i).versions ≡ suc j →
      LineRight t o l m (line_46 i a b f j y) (record { does = publishes i b y; comes = goes_on (line_20 (then_48 i a b) (suc j)) })
  unfolding memory_after
  publishes_46 i a b f j y (tr, x) e =
      record {
        does = record {
          full = omega (arith, (known.item i).valid_published, x.good);
          last = j;
          is = e;
          new = λ q. x.change (q ∙ x.same);
          early = ot;
          asked = ap (λ (v : ℕ). v_cas i v b) (sym x.same);
          unpub = refl;
        };
        comes = record {
          same_operation = refl;
          same_published = refl;
          facts = (
            record { tbd = tr.tbd; is = ap (λ (l : List ℕ). 46 ∷ l) tr.is },
            put_all (λ (k : ℕ) (z : Item). Mine z o a b (suc j)) m.item i
                (published t o b y (m.item i)) i (λ q. mine) (λ q. absurd (q refl)),
          );
        };
        moves = tt;
      }
    where
      mine : Mine (published t o b y (m.item i)) o a b (suc j)
      mine =
          record {
            have = omega arith;
            prev = j;
            is = refl;
            old = put_other (m.item i).value (m.item i).versions b j (omega arith) ∙ x.same;
            new = put_same (m.item i).value (m.item i).versions b (suc j) (sym e);
            mine = put_same (m.item i).author (m.item i).versions o (suc j)
                (sym e);
          }

  -- ---- line 34

  -- where it stops, version x was the newest in effect when the counter left the handle
  pub sees_at_handle : (i h f j x : ℕ) → Walked t o m.camera (m.item i) h f j x → (m.item i).stamp x ≤ h → Sees (m.item i) (m.camera.left_at h) x
  sees_at_handle i h f j x w p =
      record {
        have = omega (arith, w.good, w.at);
        begun = omega (arith, ((known.item i).counted x (omega (arith, w.good, w.at))).ahead h p w.reading.born.gone);
        not_yet = λ r. after r (split x j);
        unborn = λ r s. next (omega (arith, w.at, w.good)) s;
      }
    where
      next : x ≡ j → suc x < (m.item i).versions → m.camera.left_at h < (m.item i).published_at (suc x)
      next e s = subst (λ (y : ℕ). m.camera.left_at h < (m.item i).published_at (suc y)) (sym e)
          (omega (arith, w.reading.held.got.next (omega arith), w.reading.held.since, w.reading.born.when))

      after : suc x < (m.item i).valid → Split x j → m.camera.left_at h < (m.item i).effect_at (suc x)
      after r (Split.less l) = ((known.item i).counted (suc x) r).past h (w.above (suc x) (omega arith) l)
      after r (Split.more l) = omega (
        arith,
        next (omega (arith, w.at)) (omega (arith, (known.item i).valid_published)),
        (known.item i).effect_after_46
            (suc x) r,
      )

  unfoldable pub the_read : (i h f j x : ℕ) (r : List ℕ) → Passing x j r → Walked t o m.camera (m.item i) h f j x → (m.item i).stamp x ≤ h →
      Read m i h o (suc t) x (34 ∷ r)
  the_read i h f j x r z w p =
      record {
        gone = w.reading.born.gone;
        when = w.reading.born.when;
        sees = sees_at_handle i h f j x w p;
        top = j;
        f = f;
        since = w.reading.held.since;
        till = omega (arith, w.reading.held.till);
        got = w.reading.held.got;
        good = w.good;
        above = w.above;
        below = p;
        tbd = z.tbd;
        passed = z.passed;
        at = z.count;
        lines = ap (λ (l : List ℕ). 34 ∷ l) z.is;
      }

  -- where it goes on to the older version
  pub walks_on : (i h f j x : ℕ) → Walked t o m.camera (m.item i) h f j x → h < (m.item i).stamp x →
      Walked (suc t) o m.camera (m.item i) h f j (pred x) × (0 < x)
  walks_on i h f j x w p = at (same? x 0)
    where
      at : Same x 0 → Walked (suc t) o m.camera (m.item i) h f j (pred x) × (0 < x)
      at (eq e) = absurd (omega (arith, w.reading.born.low, subst (λ (y : ℕ). h < (m.item i).stamp y) e p))
      at (ne e) = (
        record {
          reading = reading_later o stay ot known {i = i} w.reading;
          good = w.good;
          at = omega (arith, w.at);
          above = λ y u v. there y u v (same? y x);
        },
        omega arith,
      )
        where
          there : (y : ℕ) → pred x < y → y ≤ j → Same y x → h < (m.item i).stamp y
          there y u v (eq z) = subst (λ (z : ℕ). h < (m.item i).stamp z) (sym z) p
          there y u v (ne z) = w.above y (omega arith) v

  pub passes_on : (x j : ℕ) (r : List ℕ) → 0 < x → Passing x j r → Passing (pred x) j (34 ∷ r)
  passes_on x j r p z = record { tbd = z.tbd; passed = suc z.passed; count = omega (arith, z.count); is = ap (λ (l : List ℕ). 34 ∷ l) z.is }

  -- ---- a total goes on

  totals_on : (q h k i u : ℕ) (r : List ℕ) → Totals (suc t) o m q h k i u r → GoesOn (suc t) o r m (total q h) false (total_at q h k i u)
  unfolding total_at
  totals_on q h k i u r x =
      by_eq (λ (ph : Phase). GoesOn (suc t) o r m (total q h) false ph) i k
      (λ e. record { same_operation = refl; same_published = refl; facts = subst (λ (i : ℕ). Totals (suc t) o m q h k i u r) e x })
      (λ e. record { same_operation = refl; same_published = refl; facts = (omega (arith, x.at), x) })

  one_more : (q h k i u u' : ℕ) (r r' : List ℕ) → i < k → Totals (suc t) o m q h k i u r → Sum m q h o (suc t) (suc i) u' r' →
      Totals (suc t) o m q h k (suc i) u' r'
  one_more q h k i u u' r r' p x s = record {
    gone = x.gone;
    when = x.when;
    at = p;
    registered = x.registered;
    have = x.have;
    noted = x.noted;
    covers = x.covers;
    sum = s;
  }

  -- ---- every line

  pub every_line : (ph : Phase) → PhaseFacts t o l m ph → LineRight t o l m ph (line t m ph)
  unfolding line memory_after
  every_line (line_37 i) x =
      quietly (line_37 i) _ (record { same_operation = refl; same_published = refl; facts = (ap (λ (l : List ℕ). 37 ∷ l) x.0, held_head i x.1) })
  every_line (line_41 i a b) x = quietly (line_41 i a b) _
      (record { same_operation = refl; same_published = refl; facts = (ap (λ (l : List ℕ). 41 ∷ l) x.0, held_head i x.1) })
  every_line (line_32 i h) x =
      quietly (line_32 i h) _
      (record {
        same_operation = refl;
        same_published = refl;
        facts = (ap (λ (l : List ℕ). 32 ∷ l) x.0, record { held = held_head i x.1.some; born = x.1 });
      })
  every_line line_5 x =
      by_le (LineRight t o l m line_5) m.limits.counter m.camera.counter
      (λ e. quietly line_5 _ (record { early = refl; lines = counter_full refl refl (ap (λ (l : List ℕ). 5 ∷ l) x) }))
      (λ e. quietly line_5 _ (record {
        same_operation = refl;
        same_published = refl;
        facts = (
          ap (λ (l : List ℕ). 5 ∷ l) x,
          e,
          record {
            since = ot;
            till = omega arith;
            was = record { low = omega arith; past = λ h p. known.left_past h p; ahead = λ h p q. omega arith };
          },
        );
      }))
  every_line (line_6 c r) (e0, below, x) =
      by_eq (LineRight t o l m (line_6 c r)) m.camera.counter c
      (λ e. record {
        does = tt;
        moves = (refl, ap (λ (y : ℕ). answers y t 0) (sym e));
        comes = record {
          early = refl;
          since = ot;
          till = omega arith;
          right = (omega arith, put_same m.camera.left_at m.camera.counter t c (sym e));
          last = tt;
          lines = lines;
        };
      })
      (λ e. quietly (line_6 c r) _ (record {
        early = refl;
        since = omega (arith, x.since, x.was.ahead c (omega arith) (omega (arith, x.was.low)));
        till = omega (arith, known.left_past c (omega (arith, x.was.low)));
        right = (omega (arith, x.was.low), refl);
        last = tt;
        lines = lines;
      }))
    where
      lines : 6 ∷ l ≡ 6 ∷ 5 ∷ []
      lines = ap (λ (l : List ℕ). 6 ∷ l) e0
  every_line (line_20 c j) x =
      by_lt (λ (ph : Phase). LineRight t o l m (line_20 c j) (only (goes_on ph))) j (m.item (helped_item c)).valid
      (λ p. quietly (line_20 c j) _ (record {
        same_operation = after_operation c j;
        same_published = after_published c j;
        facts = after_facts (20 ∷ l) m c j (record { earlier = l; tbd = false; is = refl; keeps = then_later o stay ot known l c j x; good = p });
      }))
      (λ p. quietly (line_20 c j) _
      (record {
        same_operation = refl;
        same_published = refl;
        facts = record { earlier = l; is = refl; keeps = then_later o stay ot known l c j x };
      }))
  every_line (line_21 c j) x =
      quietly (line_21 c j) _ (record {
        same_operation = refl;
        same_published = refl;
        facts = record {
          earlier = x.earlier;
          is = ap (λ (l : List ℕ). 21 ∷ l) x.is;
          keeps = then_later o stay ot known x.earlier c j x.keeps;
          read = record { low = omega arith; past = λ h p. known.left_past h p; ahead = λ h p q. omega arith };
          past = (known.item (helped_item c)).published_past j (then_published t o x.earlier m c j x.keeps);
          before = omega arith;
        };
      })
  every_line (line_22 c j n r) x =
      by_lt (λ (e : Effect). LineRight t o l m (line_22 c j n r) (record { does = e; comes = goes_on (after c j) })) j (m.item (helped_item c)).valid
      (λ p. quietly (line_22 c j n r) _ (record {
        same_operation = after_operation c j;
        same_published = after_published c j;
        facts = after_facts (22 ∷ l) m c j
            (record {
              earlier = x.earlier;
              tbd = true;
              is = ap (λ (l : List ℕ). 22 ∷ l) x.is;
              keeps = then_later o stay ot known x.earlier c j
                  x.keeps;
              good = p;
            });
      }))
      (λ p. stamps_22 c j n r x p)
  every_line (line_39 i f j) x =
      quietly (line_39 i f j) _
      (head_answer (v_read i) (39 ∷ l) i j f _ h x.good tt (x.tbd, ap (λ (l : List ℕ). 39 ∷ l) (x.is ∙ ap (helped x.tbd) x.keeps.0))
      (sees_head i j f h x.good, refl, at_head i j f h x.good))
    where
      h : Held t o (m.item i) j f
      h = x.keeps.1
  every_line (line_43 i a b f j) x =
      by_eq (LineRight t o l m (line_43 i a b f j)) ((m.item i).value j) a
      (λ e. by_eq (LineRight t o l m (line_43 i a b f j)) b a
      (λ q. quietly (line_43 i a b f j) _ (head_answer (v_cas i a b) (43 ∷ l) i j f 1 h x.good tt (to_43 x.tbd lines)
      (sees_head i j f h x.good, same refl e q, inl (at_head i j f h x.good))))
      (λ q. quietly (line_43 i a b f j) _ (record {
        same_operation = refl;
        same_published = refl;
        facts = (
          record { tbd = x.tbd; is = lines },
          record {
            held = held_later o stay ot known {i = i} h;
            good = x.good;
            same = e;
            change = q;
          },
        );
      })))
      (λ e. quietly (line_43 i a b f j) _ (head_answer (v_cas i a b) (43 ∷ l) i j f 0 h x.good tt (to_43 x.tbd lines)
      (sees_head i j f h x.good, differs refl e, inl (at_head i j f h x.good))))
    where
      h : Held t o (m.item i) j f
      h = x.keeps.1

      lines : 43 ∷ l ≡ 43 ∷ helped x.tbd (41 ∷ [])
      lines = ap (λ (l : List ℕ). 43 ∷ l) (x.is ∙ ap (helped x.tbd) x.keeps.0)
  every_line (line_45 i a b f j) x = at (node_to_take m)
    where
      at : (g : Found) → LineRight t o l m (line_45 i a b f j) (on_45 i a b f j g)
      at no_node = quietly (line_45 i a b f j) _
          (record { early = refl; lines = no_node_left i a b x.0.tbd refl refl (ap (λ (l : List ℕ). 45 ∷ l) x.0.is) })
      at (node y) =
          record {
            does = tt;
            moves = tt;
            comes = record {
              same_operation = refl;
              same_published = refl;
              facts = (record { tbd = x.0.tbd; is = ap (λ (l : List ℕ). 45 ∷ l) x.0.is }, wants_later o stay ot known {i = i} x.1);
            };
          }
  every_line (line_46 i a b f j y) x =
      by_eq (LineRight t o l m (line_46 i a b f j y)) (m.item i).versions (suc j)
      (λ e. publishes_46 i a b f j y x e)
      (λ e. quietly (line_46 i a b f j y) _ (record {
        same_operation = refl;
        same_published = refl;
        facts = (
          record { tbd = x.0.tbd; is = ap (λ (l : List ℕ). 46 ∷ l) x.0.is },
          record {
            more = omega (arith, x.1.held.got.have);
            old = x.1.same;
            begun = omega (arith, x.1.held.since, x.1.held.got.next (omega (arith, x.1.held.got.have)));
            f = f;
            got = x.1.held.got;
            since = x.1.held.since;
          },
        );
      }))
  every_line (line_48 i a b j) x =
      quietly (line_48 i a b j) _ (record {
        i = i;
        j = j;
        good = x.good;
        pos = omega (arith, x.keeps.1.is);
        mine = x.keeps.1.mine;
        is = refl;
        lines = to_48 x.keeps.0.tbd x.tbd (ap (λ (l : List ℕ). 48 ∷ l) (x.is ∙ ap (helped x.tbd) x.keeps.0.is));
      })
  every_line (line_50 i a b g y) x =
      record {
        does = tt;
        moves = tt;
        comes = record {
          same_operation = refl;
          same_published = refl;
          facts = (record { tbd = x.0.tbd; is = ap (λ (l : List ℕ). 50 ∷ l) x.0.is }, x.1);
        };
      }
  every_line (line_51 i a b g) x =
      quietly (line_51 i a b g) _ (record {
        same_operation = refl;
        same_published = refl;
        facts = (record { tbd = x.0.tbd; is = ap (λ (l : List ℕ). 51 ∷ l) x.0.is }, lag_head i a g x.1);
      })
  every_line (line_52 i a b g j) x =
      quietly (line_52 i a b g j) _ (record {
        early = refl;
        since = omega (arith, y.lost.begun, (known.item i).effect_after_46 (suc g) u);
        till = omega (arith, (known.item i).effect_before_22 (suc g) u, (known.item i).stamped_past (suc g) u);
        right = (
          record {
            have = u;
            begun = omega arith;
            not_yet = λ q. omega (
              arith,
              (known.item i).effect_before_22 (suc g) u,
              (known.item i).next (suc g) (omega (arith, (known.item i).valid_published)),
              (known.item i).effect_after_46 (suc (suc g)) q,
            );
            unborn = λ q r. omega (arith, (known.item i).effect_before_22 (suc g) u, (known.item i).next (suc g) r);
          },
          differs refl (λ q. (known.item i).differ g y.lost.more (q ∙ sym y.lost.old)),
          inr (record { g = g; next = refl; f = y.lost.f; got = y.lost.got; since = y.lost.since; good = u; is = refl }),
        );
        last = tt;
        lines = to_52 x.keeps.0.tbd x.tbd (ap (λ (l : List ℕ). 52 ∷ l) (x.is ∙ ap (helped x.tbd) x.keeps.0.is));
      })
    where
      y : Lagging (m.item i) o a g j
      y = x.keeps.1

      u : suc g < (m.item i).valid
      u = omega (arith, x.good, y.newer)
  every_line (line_34 i h f j x) (z, w) =
      by_lt (LineRight t o l m (line_34 i h f j x)) h ((m.item i).stamp x)
      (λ p. quietly (line_34 i h f j x) _
      (record { same_operation = refl; same_published = refl; facts = (passes_on x j l (walks_on i h f j x w p).1 z, (walks_on i h f j x w p).0) }))
      (λ p. quietly (line_34 i h f j x) _
      (record {
        early = refl;
        since = ot;
        till = omega arith;
        last = refl;
        right = record { read = the_read i h f j x l z w p; is = refl };
        lines = tt;
      }))
  every_line (total_32 q h k i u) (p, x) =
      by_lt (λ (ph : Phase). LineRight t o l m (total_32 q h k i u) (only (goes_on ph))) h ((m.item i).stamp 0)
      (λ e. quietly (total_32 q h k i u) _
      (totals_on q h k (suc i) u (32 ∷ l) (one_more q h k i u u l (32 ∷ l) p y (skip {i = i} (x.have i p) e y.sum))))
      (λ e. quietly (total_32 q h k i u) _ (record {
        same_operation = refl;
        same_published = refl;
        facts = record {
          done = l;
          is = refl;
          totals = y;
          more = p;
          reading = record { held = held_head i (x.have i p); born = record { some = x.have i p; low = e; gone = x.gone; when = x.when } };
        };
      }))
    where
      y : Totals (suc t) o m q h k i u l
      y = totals_later o stay ot known x
  every_line (total_34 q h k i u f j x) z =
      by_lt (λ (ph : Phase). LineRight t o l m (total_34 q h k i u f j x) (only (goes_on ph))) h ((m.item i).stamp x)
      (λ e. quietly (total_34 q h k i u f j x) _ (record {
        same_operation = refl;
        same_published = refl;
        facts = record {
          done = z.done;
          here = 34 ∷ z.here;
          is = lines;
          passing = passes_on x j z.here (walks_on i h f j x z.way e).1 z.passing;
          totals = y;
          more = z.more;
          way = (walks_on i h f j x z.way e).0;
        };
      }))
      (λ e. quietly (total_34 q h k i u f j x) _ (totals_on q h k (suc i) u' (34 ∷ l)
      (subst (λ (r : List ℕ). Totals (suc t) o m q h k (suc i) u' r) (sym lines)
      (one_more q h k i u u' z.done _ z.more y (plus {i = i} x (34 ∷ z.here) (the_read i h f j x z.here z.passing z.way e)
      y.sum)))))
    where
      u' : ℕ
      u' = u + cond (eqb ((m.item i).value x) q) (m.item i).size 0

      lines : 34 ∷ l ≡ (34 ∷ z.here) ++ z.done
      lines = ap (λ (l : List ℕ). 34 ∷ l) z.is

      y : Totals (suc t) o m q h k i u z.done
      y = totals_later o stay ot known z.totals
  every_line (closing q h k u) x =
      quietly (closing q h k u) _ (record {
        early = refl;
        since = ot;
        till = omega arith;
        last = refl;
        lines = tt;
        right = record {
          gone = x.gone;
          when = x.when;
          k = k;
          registered = x.registered;
          have = x.have;
          noted = x.noted;
          covers = x.covers;
          earlier = l;
          sum = (totals_later o stay ot known x).sum;
          lines = refl;
        };
      })
