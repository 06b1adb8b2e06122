-- What one order says of a run in which no node is stamped, whatever the order, its times and its answers are: by Definition 1 an item keeps the value
-- that it was registered with.
use Rattle.std.specs.Prelude.{◌≡◌, refl, ◌⊎◌, Bool, true, cond, not, ◌||◌, ℕ, eqb, length}
use Rattle.std.proofs.Common.{ap, ◌∙◌, inl, inr, arith, eqb→eq}
use Rattle.std.proofs.Math.Path.{subst}
use mathlib.Core.List.{List, [], ◌∷◌, map}
use Rattle.std.proofs.Math.Dec.{T}
use Rattle.history.specs.Definition1.{
  Operation,
  register,
  v_read,
  v_cas,
  take_snapshot,
  read_snapshot,
  total,
  Act,
  Object,
  apply,
  object,
  Follows,
  Born,
  Right,
}
use Rattle.history.specs.Tools.{by_test, put_all, put_both}
use Rattle.history.specs.Notes.{Ending, Note, Fate}
use Rattle.history.specs.NoteParts.{deed_tag, ending_tag}
use Rattle.history.specs.Statements.{In, fate_of, Finished, ChangeInstant, Pending, OneOrder}
use Rattle.refuted.specs.AnyOrder.{any_order, in_past, some_past, act, answered_right}
use Rattle.refuted.specs.Tests.{all_below, every_fate, all_noted, LineTest, of_line, every_line}

-- no line stamps a node: then no change has taken effect
abbrev stamps_no_node : LineTest
stamps_no_node o line d t = not (eqb (deed_tag d) 3)

abbrev pub no_node_stamped : List Note → Bool
no_node_stamped run = all_noted (of_line stamps_no_node) run

no_change : (run : List Note) → T (no_node_stamped run) → (o i τ : ℕ) → ChangeInstant run o i τ → ⊥
no_change run none o i τ (v, p, s, X, (q, Y, first_one, Z, next)) = every_line stamps_no_node run none Y

-- ---- Definition 1

-- an operation that writes v, or nothing
abbrev pub writes_only : (v : ℕ) → Operation → Bool
writes_only v (register i x s) = eqb x v
writes_only v (v_read i) = true
writes_only v (v_cas i old new) = eqb new v
writes_only v take_snapshot = true
writes_only v (read_snapshot i h) = true
writes_only v (total q h) = true

abbrev pub WriteOnly : (v : ℕ) → List Act → Type 0
WriteOnly v [] = Unit {0}
WriteOnly v (a ∷ past) = T (writes_only v a.operation) × WriteOnly v past

-- then an item that is born has the value v
applied : (v i : ℕ) (op : Operation) (x : Object) → T (writes_only v op) → (Born i x → x.value i ≡ v) → Born i (apply op x) → (apply op x).value i ≡ v
unfolding apply
applied v i (register j y s) x t h b =
    put_both (λ (k : ℕ) (c : Bool) (z : ℕ). c ≡ true → z ≡ v) x.born x.value j true y i (λ e c. eqb→eq y v t) (λ n c. h c) b
applied v i (v_read j) x t h b = h b
applied v i (v_cas j old new) x t h b =
    put_all (λ (k z : ℕ). z ≡ v) x.value j (cond (eqb (x.value j) old) new (x.value j)) i
    (λ e. by_test (λ (z : ℕ). z ≡ v) (eqb (x.value j) old) (λ c. eqb→eq new v t) (λ c. subst (λ (k : ℕ). x.value k ≡ v) e (h b)))
    (λ n. h b)
applied v i take_snapshot x t h b = h b
applied v i (read_snapshot j k) x t h b = h b
applied v i (total q k) x t h b = h b

holds_only : (v i : ℕ) (l : List Act) → WriteOnly v l → Born i (object l) → (object l).value i ≡ v
unfolding object
holds_only v i [] t b = absurd (let z : ◌≡◌ {A = ℕ} 0 1 = ap (λ (x : Bool). cond x 1 0) b in omega arith)
holds_only v i (a ∷ l) t b = applied v i a.operation (object l) t.0 (holds_only v i l t.1) b

-- so by Definition 1 a vRead answers v
pub right_read : (v i x : ℕ) (past : List Act) → WriteOnly v past → Right (v_read i) x past → x ≡ v
right_read v i x past t (b, e) = e ∙ holds_only v i past t b

-- ---- the order

-- an operation that has answered writes v, or nothing
abbrev pub answers_write : (v k : ℕ) → Fate → Bool
answers_write v k x = not (eqb (ending_tag x.ending) 1) || writes_only v x.operation

-- Where no line stamps a node, and each operation that has answered writes v or nothing, o's answer is right after such operations.
module _ (run : List Note) (x : OneOrder run) where
  each_writes : (v : ℕ) (l : List ℕ) → ((k : ℕ) → In k l → T (writes_only v (fate_of run k).operation)) → WriteOnly v (map (act run (any_order run x)) l)
  each_writes v [] h = tt
  each_writes v (k ∷ l) h = (h k (inl refl), each_writes v l (λ j n. h j (inr n)))

  pub unchanged : (o y v : ℕ) → Finished run o y → T (no_node_stamped run) → T (all_below (length run) (λ k. answers_write v k (fate_of run k))) →
      (past : List Act) × Right (fate_of run o).operation y past × WriteOnly v past
  unfolding any_order
  unchanged o y v e none writes = (
    map (act run (any_order run x)) r.0,
    answered_right run (any_order run x) o y e r.0 x.order r.1 x.legal,
    each_writes v r.0 (λ k n. at k (x.only k (in_past o k r.0 x.order r.1 n))),
  )
    where
      r : (p : List ℕ) × Follows o p x.order
      r = some_past o x.order (x.all o y e)

      at : (k : ℕ) → Finished run k (x.answer k) ⊎ (Pending run k (x.time k) × (x.answer k ≡ 1)) → T (writes_only v (fate_of run k).operation)
      at k (inl f) =
          subst (λ (z : Ending). T (not (eqb (ending_tag z) 1) || writes_only v (fate_of run k).operation)) f
          (every_fate run (answers_write v) (λ j. tt) writes k)
      at k (inr ((unfinished, i, old, new, is, c), one)) = absurd (no_change run none k i (x.time k) c)
