-- What an exact read answers, whatever the list of effects is: where a change to v took effect before the counter left its handle, and nothing else
-- did after, it answers v.
use Rattle.std.specs.Prelude.{◌≡◌, refl, Bool, true, false, not, ◌||◌, ◌&&◌, List, [], ◌∷◌, ℕ, ◌<◌, ◌≤◌, T, ltb, leb, eqb, length}
use Rattle.std.proofs.Common.{ap, ◌∙◌, inl, inr, arith, ltb→lt, leb→le, eqb→eq}
use Rattle.std.proofs.Math.Dec.{nleb→lt, eqb_refl}
use Rattle.history.specs.Definition1.{read_snapshot, Object, Follows}
use Rattle.history.specs.Tools.{by_test, put_all, and_parts}
use Rattle.history.specs.Notes.{Deed, publishes, stamps, moves, nothing, Note, registered, Effect, birth, change, snapshot, time, object_at}
use Rattle.history.specs.NoteParts.{deed_tag, deed_item, deed_value, note_tag}
use Rattle.history.proofs.EffectsRight.{effect_tag, effect_item}
use Rattle.history.specs.Statements.{In, Falling, fate_of, Finished, Executed, Stamped, Steps, FirstStamp, TellsOf, ExactRead, Promises}
use Rattle.refuted.specs.Tests.{so_too, all_noted, every_note, LineTest, of_line, every_line}

-- ---- a change that is told

-- no node of item i is stamped between p and s, and operation q executes no line between r and s
abbrev pub none_between : (i q p r s : ℕ) → LineTest
none_between i q p r s o line d t =
    (not (eqb (deed_tag d) 3 && eqb (deed_item d) i) || (leb t p || leb s t)) && (not (eqb o q) || (leb t r || leb s t))

pub told_change : (run : List Note) {o q i v p r s : ℕ} → Executed run o 46 (publishes i v) p → Executed run q 21 nothing r →
    Executed run q 22 (stamps i) s → T (ltb p s && ltb r s) → T (all_noted (of_line (none_between i q p r s)) run) → TellsOf run (change r i v p)
told_change run {o} {q} {i} {v} {p} {r} {s} X Z Y after tests =
    (o, s, X, (q, Y, (ltb→lt p s (and_parts (ltb p s) (ltb r s) after).0, first_stamp), Z, (ltb→lt r s (and_parts (ltb p s) (ltb r s) after).1, next_step)))
  where
    later : (a b t : ℕ) → T (leb t a || leb b t) → a < t → b ≤ t
    later a b t x h = by (leb t a) (λ y. leb→le t a y) x
      where
        by : (c : Bool) → (T c → t ≤ a) → T (c || leb b t) → b ≤ t
        by true f y = absurd (omega (arith, f tt, h))
        by false f y = leb→le b t y

    of : {o' line t : ℕ} {d : Deed} → Executed run o' line d t →
        T (not (eqb (deed_tag d) 3 && eqb (deed_item d) i) || (leb t p || leb s t)) × T (not (eqb o' q) || (leb t r || leb s t))
    of {o'} {line} {t} {d} E =
        and_parts (not (eqb (deed_tag d) 3 && eqb (deed_item d) i) || (leb t p || leb s t)) (not (eqb o' q) || (leb t r || leb s t))
        (every_line (none_between i q p r s) run tests E)

    first_stamp : (t : ℕ) → Stamped run i t → p < t → s ≤ t
    first_stamp t (q', E) = later p s t (so_too (eqb i i) (leb t p || leb s t) (of E).0 (eqb_refl i))

    next_step : (t : ℕ) → Steps run q t → r < t → s ≤ t
    next_step t (line, d, E) = later r s t (so_too (eqb q q) (leb t r || leb s t) (of E).1 (eqb_refl q))

-- ---- Definition 1's object

-- item i has the value v since t: the list has a change to v at t, no change of it to another value, and no birth after t
value_since : (i v t p τ : ℕ) (l : List Effect) → Falling time l → In (change t i v p) l → t ≤ τ →
    ((t' v' p' : ℕ) → In (change t' i v' p') l → v' ≡ v) → ((t' j v' z : ℕ) → In (birth t' j v' z) l → t' < t) → (object_at τ l).value i ≡ v
unfolding object_at
value_since i v t p τ [] falling n h same born = absurd n
value_since i v t p τ (birth t' j v' z ∷ l) falling (inl e) h same born = absurd (omega (arith, ap effect_tag e))
value_since i v t p τ (birth t' j v' z ∷ l) falling (inr n) h same born =
    absurd (omega (arith, falling.0 (change t i v p) n, born t' j v' z (inl refl)))
value_since i v t p τ (change t' j v' p' ∷ l) falling (inl e) h same born =
    by_test (λ (x : Object). x.value i ≡ v) (leb t' τ)
    (λ c. put_all (λ (k z : ℕ). z ≡ v) (object_at τ l).value j v' i (λ e'. same t' v' p' (inl (ap (λ (k : ℕ). change t' k v' p') e')))
    (λ d. absurd (d (ap effect_item e))))
    (λ c. absurd (omega (arith, nleb→lt t' τ c, h, ap time e)))
value_since i v t p τ (change t' j v' p' ∷ l) falling (inr n) h same born =
    let r : (object_at τ l).value i ≡ v
    = value_since i v t p τ l falling.1 n h (λ t₁ v₁ p₁ n₁. same t₁ v₁ p₁ (inr n₁)) (λ t₁ j₁ v₁ z₁ n₁. born t₁ j₁ v₁ z₁ (inr n₁)) in
    by_test (λ (x : Object). x.value i ≡ v) (leb t' τ)
    (λ c. put_all (λ (k z : ℕ). z ≡ v) (object_at τ l).value j v' i (λ e'. same t' v' p' (inl (ap (λ (k : ℕ). change t' k v' p') e'))) (λ d. r))
    (λ c. r)
value_since i v t p τ (snapshot t' k ∷ l) falling (inl e) h same born = absurd (omega (arith, ap effect_tag e))
value_since i v t p τ (snapshot t' k ∷ l) falling (inr n) h same born =
    value_since i v t p τ l falling.1 n h (λ t₁ v₁ p₁ n₁. same t₁ v₁ p₁ (inr n₁)) (λ t₁ j₁ v₁ z₁ n₁. born t₁ j₁ v₁ z₁ (inr n₁))

-- ---- exact reads

-- Item i is changed to v alone; items are registered before t; and the counter leaves h at m alone.
abbrev pub changed_to : (i v h m : ℕ) → LineTest
changed_to i v h m o line d t =
    (not (eqb (deed_tag d) 2 && eqb (deed_item d) i) || eqb (deed_value d) v) && (not (eqb (deed_tag d) 4 && eqb (deed_item d) h) || eqb t m)

abbrev pub registered_before : (t : ℕ) → Note → List Note → Bool
registered_before t x past = not (eqb (note_tag x) 1) || ltb (length past) t

pub exact_value : (run : List Note) (effects : List Effect) → Promises run effects → {i v t p : ℕ} → TellsOf run (change t i v p) → (h m : ℕ) →
    T (leb t m) → T (all_noted (of_line (changed_to i v h m)) run) → T (all_noted (registered_before t) run) →
    (o x : ℕ) → (fate_of run o).operation ≡ read_snapshot i h → Finished run o x → x ≡ v
exact_value run effects P {i} {v} {t} {p} told h m by lines births o x is e =
    X.answer ∙ value_since i v t p X.left effects P.ordered ((P.exactly (change t i v p)).1 told) (omega (arith, leb→le t m by, left_at)) changed born
  where
    X : ExactRead run effects o i h x
    X = P.reads o i h x is e

    of : {q line τ : ℕ} {d : Deed} → Executed run q line d τ →
        T (not (eqb (deed_tag d) 2 && eqb (deed_item d) i) || eqb (deed_value d) v) × T (not (eqb (deed_tag d) 4 && eqb (deed_item d) h) || eqb τ m)
    of {q} {line} {τ} {d} E =
        and_parts (not (eqb (deed_tag d) 2 && eqb (deed_item d) i) || eqb (deed_value d) v) (not (eqb (deed_tag d) 4 && eqb (deed_item d) h) || eqb τ m)
        (every_line (changed_to i v h m) run lines E)

    left_at : X.left ≡ m
    left_at =
        let E : (q : ℕ) × Executed run q 6 (moves h) X.left = (P.exactly (snapshot X.left h)).0 X.taken in
        eqb→eq X.left m (so_too (eqb h h) (eqb X.left m) (of E.1).1 (eqb_refl h))

    changed : (t' v' p' : ℕ) → In (change t' i v' p') effects → v' ≡ v
    changed t' v' p' n =
        let E : (q : ℕ) × (s : ℕ) × Executed run q 46 (publishes i v') p' × FirstStamp run i p' t' s = (P.exactly (change t' i v' p')).0 n in
        eqb→eq v' v (so_too (eqb i i) (eqb v' v) (of E.2).0 (eqb_refl i))

    born : (t' j v' z : ℕ) → In (birth t' j v' z) effects → t' < t
    born t' j v' z n =
        let E : (past : List Note) × Follows (registered j v' z) past run × (length past ≡ t') = (P.exactly (birth t' j v' z)).0 n in
        omega (arith, E.2, ltb→lt (length E.0) t (every_note (registered_before t) run births (registered j v' z) E.0 E.1))
