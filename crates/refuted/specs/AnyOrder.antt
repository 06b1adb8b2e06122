-- A run may break Definition 1 in any order, not only in that of document 01's instants. Here an order is any that lists the operations which answered,
-- and vCAS that have not, each at some time within its call. Where values only rise, what a later operation tells of an item may not fall.
use Rattle.std.specs.Prelude.{◌≡◌, refl, ◌⊎◌, Bool, true, cond, List, [], ◌∷◌, map, ℕ, ◌<◌, ◌≤◌, T, ltb, eqb, length}
use Rattle.std.proofs.Common.{ap, sym, ◌∙◌, subst, inl, inr, arith, ltb→lt, eqb→eq}
use Rattle.history.specs.Definition1.{
  Operation,
  register,
  v_read,
  v_cas,
  take_snapshot,
  read_snapshot,
  total,
  Act,
  Object,
  apply,
  object,
  Follows,
  Born,
  Right,
  Legal,
}
use Rattle.history.specs.Tools.{by_test, put_all, put_both}
use Rattle.history.specs.Notes.{Note, Fate}
use Rattle.history.specs.NoteParts.{ending_number}
use Rattle.history.specs.Statements.{In, Falling, fate_of, Finished, Pending, Within, OneOrder}
use Rattle.refuted.specs.Tests.{all_below, every_fate}

pub record AnyOrder (run : List Note) : Type 0 where
  pub order : List ℕ
  pub time : ℕ → ℕ
  pub answer : ℕ → ℕ
  pub all : (o x : ℕ) → Finished run o x → In o order
  pub only : (o : ℕ) → In o order → Finished run o (answer o)
      ⊎ (((x : ℕ) → Finished run o x → ⊥) × (i : ℕ) × (old : ℕ) × (new : ℕ) × ((fate_of run o).operation ≡ v_cas i old new))
  pub within : (o : ℕ) → In o order → Within run o (time o)
  pub falling : Falling time order
  pub legal : Legal (map (λ o. record { operation = (fate_of run o).operation; answer = answer o }) order)

-- the one order of demand 2 is such
unfoldable pub any_order : (run : List Note) → OneOrder run → AnyOrder run
any_order run x =
    record {
      order = x.order;
      time = x.time;
      answer = x.answer;
      all = x.all;
      only = λ o n. weaker o (x.only o n);
      within = x.within;
      falling = x.falling;
      legal = x.legal;
    }
  where
    weaker : (o : ℕ) → Finished run o (x.answer o) ⊎ (Pending run o (x.time o) × (x.answer o ≡ 1)) → Finished run o (x.answer o)
        ⊎ (((y : ℕ) → Finished run o y → ⊥) × (i : ℕ) × (old : ℕ) × (new : ℕ) × ((fate_of run o).operation ≡ v_cas i old new))
    weaker o (inl e) = inl e
    weaker o (inr ((unfinished, i, old, new, is, instant), one)) = inr (unfinished, i, old, new, is)

-- ---- values rise

-- a register of a value above 0, a vCAS to a higher value
abbrev pub rises : Operation → Bool
rises (register i v s) = ltb 0 v
rises (v_read i) = true
rises (v_cas i old new) = ltb old new
rises take_snapshot = true
rises (read_snapshot i h) = true
rises (total q h) = true

abbrev pub Rise : List Act → Type 0
Rise [] = Unit {0}
Rise (a ∷ past) = T (rises a.operation) × Rise past

-- Item 0 is counted once it is born, so that no register gives it again, and its value is above 0.
pub record Counted (x : Object) : Type 0 where
  pub counted : 0 < x.items
  pub above : 0 < x.value 0

counts : (op : Operation) (x : Object) → T (rises op) → (Born 0 x → Counted x) → Born 0 (apply op x) → Counted (apply op x)
unfolding apply
counts (register i v s) x t h b =
    record {
      counted = omega arith;
      above = put_both (λ (k : ℕ) (c : Bool) (z : ℕ). c ≡ true → 0 < z) x.born x.value i true v 0 (λ e c. ltb→lt 0 v t) (λ n c. (h c).above) b;
    }
counts (v_read i) x t h b = h b
counts (v_cas i old new) x t h b =
    record {
      counted = (h b).counted;
      above = put_all (λ (k z : ℕ). 0 < z) x.value i (cond (eqb (x.value i) old) new (x.value i)) 0
          (λ e. by_test (λ (z : ℕ). 0 < z) (eqb (x.value i) old) (λ c. omega (arith, ltb→lt old new t))
          (λ c. subst (λ (k : ℕ). 0 < x.value k) e (h b).above))
          (λ n. (h b).above);
    }
counts take_snapshot x t h b = h b
counts (read_snapshot i k) x t h b = h b
counts (total q k) x t h b = h b

pub is_counted : (l : List Act) → Rise l → Born 0 (object l) → Counted (object l)
unfolding object
is_counted [] t b = absurd (let z : ◌≡◌ {A = ℕ} 0 1 = ap (λ (x : Bool). cond x 1 0) b in omega arith)
is_counted (a ∷ l) t b = counts a.operation (object l) t.0 (is_counted l t.1) b

-- One more operation that answers right keeps the item, and its value does not fall.
abbrev Kept : (x y : Object) → Type 0
Kept x y = Born 0 y × (x.value 0 ≤ y.value 0)

keeps : (op : Operation) (y : ℕ) (past : List Act) → T (rises op) → Right op y past → Rise past → Born 0 (object past) →
    Kept (object past) (apply op (object past))
unfolding apply
keeps (register i v s) y past t right rise b =
    put_both (λ (k : ℕ) (c : Bool) (z : ℕ). (c ≡ true) × ((object past).value 0 ≤ z)) (object past).born (object past).value i true v 0
    (λ e. absurd (omega (arith, right.1, (is_counted past rise b).counted))) (λ n. (b, omega arith))
keeps (v_read i) y past t right rise b = (b, omega arith)
keeps (v_cas i old new) y past t right rise b = (
  b,
  put_all (λ (k z : ℕ). (object past).value 0 ≤ z) (object past).value i (cond (eqb ((object past).value i) old) new ((object past).value i)) 0
      (λ e. by_test (λ (z : ℕ). (object past).value 0 ≤ z) (eqb ((object past).value i) old)
      (λ c. omega (arith, ltb→lt old new t, eqb→eq ((object past).value i) old c, ap (object past).value e)) (λ c. omega (arith, ap (object past).value e)))
      (λ n. omega arith),
)
keeps take_snapshot y past t right rise b = (b, omega arith)
keeps (read_snapshot i k) y past t right rise b = (b, omega arith)
keeps (total q k) y past t right rise b = (b, omega arith)

never_falls : (a : Act) (p l : List Act) → Follows a p l → Legal l → Rise l → Born 0 (object p) → Kept (object p) (object l)
unfolding object
never_falls a p [] f legal rise b = absurd f
never_falls a p (y ∷ l) (inl (e, e')) legal rise b =
    subst (λ (q : List Act). Kept (object q) (object (y ∷ l))) (sym e')
    (keeps y.operation y.answer l rise.0 legal.0 rise.1 (subst (λ (q : List Act). Born 0 (object q)) e' b))
never_falls a p (y ∷ l) (inr f) legal rise b =
    let r : Kept (object p) (object l) = never_falls a p l f legal.1 rise.1 b in
    let s : Kept (object l) (object (y ∷ l)) = keeps y.operation y.answer l rise.0 legal.0 rise.1 r.0 in
    (s.0, omega (arith, r.1, s.1))

-- ---- three operations, one after the other

follows_in : (o : ℕ) (p l : List ℕ) → Follows o p l → In o l
follows_in o p [] f = f
follows_in o p (y ∷ l) (inl (e, e')) = inl e
follows_in o p (y ∷ l) (inr f) = inr (follows_in o p l f)

pub in_past : (o k : ℕ) (p l : List ℕ) → Follows o p l → In k p → In k l
in_past o k p [] f n = absurd f
in_past o k p (y ∷ l) (inl (e, e')) n = inr (subst (λ (q : List ℕ). In k q) e' n)
in_past o k p (y ∷ l) (inr f) n = inr (in_past o k p l f n)

pub some_past : (o : ℕ) (l : List ℕ) → In o l → (p : List ℕ) × Follows o p l
some_past o [] n = absurd n
some_past o (y ∷ l) (inl e) = (l, inl (e, refl))
some_past o (y ∷ l) (inr n) = let r : (p : List ℕ) × Follows o p l = some_past o l n in (r.0, inr r.1)

pub deeper : {A : Type 0} (a b : A) (p q l : List A) → Follows a p q → Follows b q l → Follows a p l
deeper a b p q [] f g = absurd g
deeper {A} a b p q (y ∷ l) f (inl (e, e')) = inr (subst (λ (r : List A). Follows a p r) e' f)
deeper a b p q (y ∷ l) f (inr g) = inr (deeper a b p q l f g)

older : (time : ℕ → ℕ) (a b : ℕ) (p l : List ℕ) → Falling time l → Follows b p l → In a l → time a < time b → In a p
older time a b p [] falling f n h = absurd f
older time a b p (y ∷ l) falling (inl (e, e')) (inl d) h = absurd (omega (arith, h, ap time (d ∙ sym e)))
older time a b p (y ∷ l) falling (inl (e, e')) (inr n) h = subst (λ (q : List ℕ). In a q) (sym e') n
older time a b p (y ∷ l) falling (inr f) (inl d) h = absurd (omega (arith, h, falling.0 b (follows_in b p l f), ap time d))
older time a b p (y ∷ l) falling (inr f) (inr n) h = older time a b p l falling.1 f n h

-- Operations a, b and r that answered y, z and u, each started after the answer of the one before: their answers are right, each after the other, and
-- item 0, once born before a, does not fall until b.
pub record InTurn (run : List Note) (a b r y z u : ℕ) : Type 0 where
  pub before_a : List Act
  pub before_b : List Act
  pub before_r : List Act
  pub right_a : Right (fate_of run a).operation y before_a
  pub right_b : Right (fate_of run b).operation z before_b
  pub right_r : Right (fate_of run r).operation u before_r
  pub a_first : Follows (record { operation = (fate_of run a).operation; answer = y }) before_a before_b
  pub b_then : Follows (record { operation = (fate_of run b).operation; answer = z }) before_b before_r
  pub above : Born 0 (object before_a) → 0 < (object before_a).value 0
  pub rising : Born 0 (object before_a) → (object before_a).value 0 ≤ (object before_b).value 0

module _ (run : List Note) (x : AnyOrder run) where
  abbrev pub act : ℕ → Act
  act o = record { operation = (fate_of run o).operation; answer = x.answer o }

  abbrev acted : (o y : ℕ) → Act
  acted o y = record { operation = (fate_of run o).operation; answer = y }

  its_answer : (o y : ℕ) → Finished run o y → x.answer o ≡ y
  its_answer o y e = at (x.only o (x.all o y e))
    where
      at : Finished run o (x.answer o)
          ⊎ (((z : ℕ) → Finished run o z → ⊥) × (i : ℕ) × (old : ℕ) × (new : ℕ) × ((fate_of run o).operation ≡ v_cas i old new)) → x.answer o ≡ y
      at (inl e') = ap ending_number (sym e' ∙ e)
      at (inr u) = absurd (u.0 y e)

  -- not after its answer, and not before its start
  not_after : (o y : ℕ) → Finished run o y → x.time o ≤ (fate_of run o).at
  not_after o y e = at (x.within o (x.all o y e))
    where
      at : Within run o (x.time o) → x.time o ≤ (fate_of run o).at
      at (inl (h, ends)) = ends y e
      at (inr (i, v, s, is, h, ends)) = omega (arith, h, ends)

  not_before : (o : ℕ) → Within run o (x.time o) → o ≤ x.time o
  not_before o (inl (h, ends)) = omega (arith, h)
  not_before o (inr (i, v, s, is, h, ends)) = omega (arith, h)

  sooner : (a b y z : ℕ) → Finished run a y → Finished run b z → T (ltb (fate_of run a).at b) → x.time a < x.time b
  sooner a b y z e e' t = omega (arith, not_after a y e, not_before b (x.within b (x.all b z e')), ltb→lt (fate_of run a).at b t)

  mapped : (o : ℕ) (p l : List ℕ) → Follows o p l → Follows (act o) (map act p) (map act l)
  mapped o p [] f = f
  mapped o p (y ∷ l) (inl (e, e')) = inl (ap act e, ap (map act) e')
  mapped o p (y ∷ l) (inr f) = inr (mapped o p l f)

  legal_at : (o : ℕ) (p l : List ℕ) → Follows o p l → Legal (map act l) → Right (fate_of run o).operation (x.answer o) (map act p) × Legal (map act p)
  legal_at o p [] f legal = absurd f
  legal_at o p (y ∷ l) (inl (e, e')) legal =
      subst (λ (k : ℕ). Right (fate_of run k).operation (x.answer k) (map act p) × Legal (map act p)) (sym e)
      (subst (λ (q : List ℕ). Right (fate_of run y).operation (x.answer y) (map act q) × Legal (map act q)) (sym e') legal)
  legal_at o p (y ∷ l) (inr f) legal = legal_at o p l f legal.1

  pub answered_right : (o y : ℕ) → Finished run o y → (p l : List ℕ) → Follows o p l → Legal (map act l) → Right (fate_of run o).operation y (map act p)
  answered_right o y e p l f legal =
      subst (λ (v : ℕ). Right (fate_of run o).operation v (map act p)) (its_answer o y e) (legal_at o p l f legal).0

  rise_all : ((o : ℕ) → T (rises (fate_of run o).operation)) → (l : List ℕ) → Rise (map act l)
  rise_all h [] = tt
  rise_all h (o ∷ l) = (h o, rise_all h l)

  pub in_turn : (a b r y z u : ℕ) → Finished run a y → Finished run b z → Finished run r u → T (ltb (fate_of run a).at b) → T (ltb (fate_of run b).at r) →
      T (all_below (length run) (λ o. rises (fate_of run o).operation)) → InTurn run a b r y z u
  in_turn a b r y z u ea eb er ab br rising =
      record {
        before_a = map act A.0;
        before_b = map act B.0;
        before_r = map act R.0;
        right_a = answered_right a y ea A.0 B.0 A.1 legal_b;
        right_b = answered_right b z eb B.0 R.0 B.1 legal_r;
        right_r = answered_right r u er R.0 x.order R.1 x.legal;
        a_first = answered a y ea A.0 B.0 A.1;
        b_then = answered b z eb B.0 R.0 B.1;
        above = λ born. (is_counted (map act A.0) (all_rise A.0) born).above;
        rising = λ born. (never_falls (act a) (map act A.0) (map act B.0) (mapped a A.0 B.0 A.1) legal_b (all_rise B.0) born).1;
      }
    where
      R : (p : List ℕ) × Follows r p x.order
      R = some_past r x.order (x.all r u er)

      B : (p : List ℕ) × Follows b p R.0
      B = some_past b R.0 (older x.time b r R.0 x.order x.falling R.1 (x.all b z eb) (sooner b r z u eb er br))

      A : (p : List ℕ) × Follows a p B.0
      A = some_past a B.0
          (older x.time a b B.0 x.order x.falling (deeper b r B.0 R.0 x.order B.1 R.1) (x.all a y ea) (sooner a b y z ea eb ab))

      legal_r : Legal (map act R.0)
      legal_r = (legal_at r R.0 x.order R.1 x.legal).1

      legal_b : Legal (map act B.0)
      legal_b = (legal_at b B.0 R.0 B.1 legal_r).1

      all_rise : (l : List ℕ) → Rise (map act l)
      all_rise = rise_all (every_fate run (λ (k : ℕ) (f : Fate). rises f.operation) (λ k. tt) rising)

      answered : (o w : ℕ) → Finished run o w → (p l : List ℕ) → Follows o p l → Follows (acted o w) (map act p) (map act l)
      answered o w e p l f = subst (λ (v : ℕ). Follows (acted o v) (map act p) (map act l)) (its_answer o w e) (mapped o p l f)
