-- When an operation takes effect in the order of the theorem, for the worked runs: found from the statement (OneOrder) and the list of effects alone.
use Rattle.std.specs.Prelude.{◌≡◌, refl, cond, ◌&&◌, List, [], ◌∷◌, ℕ, eqb, length, get_or}
use Rattle.std.proofs.Common.{ap, ◌∙◌, subst, inl, inr, arith, T_not}
use Rattle.std.proofs.Math.Dec.{eqb_refl}
use Rattle.definitions.specs.Calls.{Call}
use Rattle.history.specs.Definition1.{Operation, v_cas, take_snapshot, Follows}
use Rattle.history.specs.Tools.{by_test, and_both}
use Rattle.history.specs.Notes.{Deed, Ending, answers, Note, quiet, registered, started, stepped, abandoned, Fate, ledger, Effect, birth, change, snapshot}
use Rattle.history.specs.Statements.{In, fate_of, Executed, ChangeInstant, TakeInstant, CasInstant, Instant}
use Rattle.history.specs.Effects.{effects}
use Rattle.order.specs.WorkedRuns.{told_of, Plain, promised, order_of_theorem}

pub only_one : {a b : ℕ} → In a (b ∷ []) → a ≡ b
only_one (inl e) = e
only_one (inr n) = absurd n

-- ---- when an operation executed a line, the newest first

unfoldable pub executed_at : (o line : ℕ) → List Note → List ℕ
executed_at o line [] = []
executed_at o line (quiet x ∷ past) = executed_at o line past
executed_at o line (registered i v s ∷ past) = executed_at o line past
executed_at o line (started w op ∷ past) = executed_at o line past
executed_at o line (stepped w k d e ∷ past) =
    cond (eqb ((ledger past).current w) o && eqb k line) (length past ∷ executed_at o line past) (executed_at o line past)
executed_at o line (abandoned w b ∷ past) = executed_at o line past

one_more : (o line t : ℕ) (x : Note) (past : List Note) → In t (executed_at o line past) → In t (executed_at o line (x ∷ past))
unfolding executed_at
one_more o line t (quiet x) past n = n
one_more o line t (registered i v s) past n = n
one_more o line t (started w op) past n = n
one_more o line t (stepped w k d e) past n =
    by_test (λ (l : List ℕ). In t l) (eqb ((ledger past).current w) o && eqb k line) (λ b. inr n) (λ b. n)
one_more o line t (abandoned w b) past n = n

noted_at : (w line : ℕ) (d : Deed) (e : Ending) (past run : List Note) → Follows (stepped w line d e) past run →
    In (length past) (executed_at ((ledger past).current w) line run)
unfolding executed_at
noted_at w line d e past [] f = absurd f
noted_at w line d e past (x ∷ l) (inr f) = one_more ((ledger past).current w) line (length past) x l (noted_at w line d e past l f)
noted_at w line d e past (x ∷ l) (inl (p, q)) =
    subst (λ (x : Note). In (length past) (executed_at o line (x ∷ l))) p
    (subst (λ (l : List Note). In (length past) (executed_at o line (stepped w line d e ∷ l))) q
    (by_test (λ (l : List ℕ). In (length past) l) (eqb o o && eqb line line) (λ b. inl refl)
    (λ b. absurd (T_not (eqb o o && eqb line line) b (and_both (eqb o o) (eqb line line) (eqb_refl o) (eqb_refl line))))))
  where
    o : ℕ
    o = (ledger past).current w

pub listed : (run : List Note) {o line t : ℕ} {d : Deed} → Executed run o line d t → In t (executed_at o line run)
listed run {o} {line} {t} {d} x =
    subst (λ (o : ℕ). In t (executed_at o line run)) x.its
    (subst (λ (t : ℕ). In t (executed_at ((ledger x.past).current x.w) line run)) x.at
    (noted_at x.w line d x.e x.past run x.noted))

-- ---- when the change published at p took effect

unfoldable pub changed_at : (p : ℕ) → List Effect → List ℕ
changed_at p [] = []
changed_at p (birth t i v s ∷ l) = changed_at p l
changed_at p (change t i v r ∷ l) = cond (eqb r p) (t ∷ changed_at p l) (changed_at p l)
changed_at p (snapshot t h ∷ l) = changed_at p l

pub in_changed : (t i v p : ℕ) (l : List Effect) → In (change t i v p) l → In t (changed_at p l)
unfolding changed_at
in_changed t i v p [] n = absurd n
in_changed t i v p (x ∷ l) (inl e) =
    subst (λ (x : Effect). In t (changed_at p (x ∷ l))) e
    (by_test (λ (l : List ℕ). In t l) (eqb p p) (λ b. inl refl) (λ b. absurd (T_not (eqb p p) b (eqb_refl p))))
in_changed t i v p (birth t' i' v' s ∷ l) (inr n) = in_changed t i v p l n
in_changed t i v p (snapshot t' h ∷ l) (inr n) = in_changed t i v p l n
in_changed t i v p (change t' i' v' r ∷ l) (inr n) =
    let m : In t (changed_at p l) = in_changed t i v p l n in by_test (λ (l : List ℕ). In t l) (eqb r p) (λ b. inr m) (λ b. m)

-- ---- times in the order of the theorem, of an operation by what it came to

module _ (cs : List Call) (t : Plain cs) {f : Fate} where
  -- a takeSnapshot that answered h has the time at which the counter left h
  pub snapshot_time : (o h left : ℕ) → fate_of (told_of cs) o ≡ f → f.operation ≡ take_snapshot → f.ending ≡ answers h →
      In (snapshot left h) (effects (told_of cs)) → (order_of_theorem cs t).time o ≡ left
  snapshot_time o h left came is e taken =
      (promised cs t).leaves_once h ((order_of_theorem cs t).time o) left
      (((promised cs t).exactly (snapshot ((order_of_theorem cs t).time o) h)).1 (at.1, at.3)) taken
    where
      at : TakeInstant (told_of cs) o h ((order_of_theorem cs t).time o)
      at = subst (λ (op : Operation). Instant (told_of cs) o h op ((order_of_theorem cs t).time o)) (ap (λ (f : Fate). f.operation) came ∙ is)
          ((order_of_theorem cs t).instants o h (ap (λ (f : Fate). f.ending) came ∙ e))

  -- the instant of a vCAS that answered, by the line that it ended at
  pub cas_instant : (o x i old new : ℕ) → fate_of (told_of cs) o ≡ f → f.operation ≡ v_cas i old new → f.ending ≡ answers x →
      CasInstant (told_of cs) o i (get_or f.lines 0 0) ((order_of_theorem cs t).time o)
  cas_instant o x i old new came is e =
      subst (λ (f : Fate). CasInstant (told_of cs) o i (get_or f.lines 0 0) ((order_of_theorem cs t).time o)) came
      (subst (λ (op : Operation). Instant (told_of cs) o x op ((order_of_theorem cs t).time o)) (ap (λ (f : Fate). f.operation) came ∙ is)
      ((order_of_theorem cs t).instants o x (ap (λ (f : Fate). f.ending) came ∙ e)))

  -- a vCAS that changed the value, and published at p, has the time of that change
  pub change_time : (o x i old new p τ : ℕ) → fate_of (told_of cs) o ≡ f → f.operation ≡ v_cas i old new → f.ending ≡ answers x →
      get_or f.lines 0 0 ≡ 48 → executed_at o 46 (told_of cs) ≡ p ∷ [] → changed_at p (effects (told_of cs)) ≡ τ ∷ [] →
      (order_of_theorem cs t).time o ≡ τ
  change_time o x i old new p τ came is e ends published changed = at (cas_instant o x i old new came is e)
    where
      by : ChangeInstant (told_of cs) o i ((order_of_theorem cs t).time o) → (order_of_theorem cs t).time o ≡ τ
      by (v, p', s, X, F) =
          only_one (subst (λ (l : List ℕ). In ((order_of_theorem cs t).time o) l) (ap (λ (p : ℕ). changed_at p (effects (told_of cs))) here ∙ changed)
          (in_changed ((order_of_theorem cs t).time o) i v p' (effects (told_of cs))
          (((promised cs t).exactly (change ((order_of_theorem cs t).time o) i v p')).1 (o, s, X, F))))
        where
          here : p' ≡ p
          here = only_one (subst (λ (l : List ℕ). In p' l) published (listed (told_of cs) X))

      at : CasInstant (told_of cs) o i (get_or f.lines 0 0) ((order_of_theorem cs t).time o) → (order_of_theorem cs t).time o ≡ τ
      at (inl (q, h)) = absurd (omega (arith, q, ends))
      at (inr (inl (q, c))) = by c
      at (inr (inr (q, l))) = absurd (omega (arith, q, ends))
