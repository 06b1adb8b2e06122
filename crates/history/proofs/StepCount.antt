-- The steps of an operation are the lines that it executed: exact numbers for each way to end, and never more than 5,120 before a step.
use Rattle.std.specs.Prelude.{◌≡◌, refl, ◌⊎◌, Bool, true, false, cond, ◌||◌, List, [], ◌∷◌, ◌++◌, ℕ, zero, suc, ◌+◌, ◌*◌, ◌≤◌, ◌<◌, eqb, replicate, get_or}
use Rattle.std.proofs.Math.Path.{ap}
use Rattle.std.proofs.Common.{sym, ◌∙◌, subst, inl, inr, arith}
use Rattle.std.proofs.Math.ListN.{length}
use Rattle.history.specs.Tools.{Split, split}
use Rattle.history.specs.Machine.{
  Event,
  Memory,
  Limits,
  Operation,
  v_read,
  Then,
  then_39,
  then_43,
  then_48,
  then_52,
  then_34,
  then_total_34,
  Phase,
  line_37,
  line_39,
  line_41,
  line_43,
  line_45,
  line_46,
  line_48,
  line_50,
  line_51,
  line_52,
  line_5,
  line_6,
  line_32,
  line_34,
  total_32,
  total_34,
  closing,
  line_20,
  line_21,
  line_22,
  Worker,
  busy,
  Catalogue,
  after_events,
}
use Rattle.history.specs.Facts.{Read, Sum, empty, skip, plus, helped, read_lines, MemoryFacts}
use Rattle.history.proofs.PhaseFacts.{Tried, Totals, Passing, ThenFacts, Helped, PhaseFacts}
use Rattle.history.proofs.RightAnswers.{CasLines, to_43, to_48, to_52, WholeLines, RefusedLines, no_node_left, counter_full, TotalRead}
use Rattle.history.proofs.Places.{Invariant, WorkerRight}
use Rattle.history.proofs.NodeCount.{sum_to, sum_rises, Tally, tally, limits_kept}
use Rattle.history.proofs.Run.{run_right}

-- line 20 found TBD: line 21 is among the lines executed
abbrev pub found_TBD : List ℕ → Bool
found_TBD [] = false
found_TBD (n ∷ l) = eqb n 21 || found_TBD l

-- a help takes one step where line 20 found a valid stamp, and three where it found TBD
abbrev pub help_steps : Bool → ℕ
help_steps false = 1
help_steps true = 3

-- A vCAS takes the steps of its one or two helps, and 2 more where it ends at 43, 5 at 48, 7 at 52: so at most 13.
pub data CasSteps (l : List ℕ) : Type 0 where
  ends_43 : (tbd : Bool) → get_or l 0 0 ≡ 43 → length l ≡ help_steps tbd + 2 → CasSteps l
  ends_48 : (first second : Bool) → get_or l 0 0 ≡ 48 → length l ≡ help_steps first + help_steps second + 5 → CasSteps l
  ends_52 : (first second : Bool) → get_or l 0 0 ≡ 52 → length l ≡ help_steps first + help_steps second + 7 → CasSteps l

-- ---- lengths

pub length_helped : (tbd : Bool) (l : List ℕ) → length (helped tbd l) ≡ help_steps tbd + length l
length_helped true l = omega arith
length_helped false l = omega arith

pub help_bound : (tbd : Bool) → help_steps tbd ≤ 3
help_bound true = omega arith
help_bound false = omega arith

length_onto : (a b : List ℕ) → length (a ++ b) ≡ length a + length b
length_onto [] b = omega arith
length_onto (x ∷ a) b = ap suc (length_onto a b) ∙ omega arith

length_passed : (n : ℕ) (l : List ℕ) → length (replicate n 34 ++ l) ≡ n + length l
length_passed zero l = omega arith
length_passed (suc n) l = ap suc (length_passed n l) ∙ omega arith

-- k + 3, or k + 5 where line 20 found TBD
pub length_read : (tbd : Bool) (k : ℕ) → length (read_lines tbd k) ≡ k + cond tbd 5 3
length_read true k = omega (arith, length_passed k (helped true (32 ∷ [])))
length_read false k = omega (arith, length_passed k (helped false (32 ∷ [])))

-- ---- exact numbers of steps, as the lines of each way to end come to them

-- a vRead takes 5 steps exactly when its line 20 found TBD, and else 3
pub v_read_steps : (i : ℕ) (l : List ℕ) → WholeLines (v_read i) l → length l ≡ cond (found_TBD l) 5 3
v_read_steps i l (true, e) = subst (λ (l : List ℕ). length l ≡ cond (found_TBD l) 5 3) (sym e) refl
v_read_steps i l (false, e) = subst (λ (l : List ℕ). length l ≡ cond (found_TBD l) 5 3) (sym e) refl

pub v_cas_steps : (l : List ℕ) → CasLines l → CasSteps l
v_cas_steps l (to_43 b e) = ends_43 b (ap (λ (l : List ℕ). get_or l 0 0) e) (ap length e ∙ omega (arith, length_helped b (41 ∷ [])))
v_cas_steps l (to_48 a b e) =
    ends_48 a b (ap (λ (l : List ℕ). get_or l 0 0) e)
    (ap length e ∙ omega (arith, length_helped b (46 ∷ 45 ∷ 43 ∷ helped a (41 ∷ [])), length_helped a (41 ∷ [])))
v_cas_steps l (to_52 a b e) =
    ends_52 a b (ap (λ (l : List ℕ). get_or l 0 0) e)
    (ap length e ∙ omega (arith, length_helped b (51 ∷ 50 ∷ 46 ∷ 45 ∷ 43 ∷ helped a (41 ∷ [])), length_helped a (41 ∷ [])))

-- at most 13
pub v_cas_bound : (l : List ℕ) → CasSteps l → length l ≤ 13
v_cas_bound l (ends_43 b q e) = omega (arith, help_bound b)
v_cas_bound l (ends_48 a b q e) = omega (arith, help_bound a, help_bound b)
v_cas_bound l (ends_52 a b q e) = omega (arith, help_bound a, help_bound b)

-- 12 comes after 1 step, and 11 after 4 or 6
pub refused_steps : (number : ℕ) (op : Operation) (l : List ℕ) → RefusedLines number op l → ((number ≡ 12) × (length l ≡ 1))
    ⊎ ((number ≡ 11) × (length l ≡ cond (found_TBD l) 6 4))
refused_steps number op l (counter_full n e f) = inl (n, ap length f)
refused_steps number op l (no_node_left i a b true n e f) = inr (n, subst (λ (l : List ℕ). length l ≡ cond (found_TBD l) 6 4) (sym f) refl)
refused_steps number op l (no_node_left i a b false n e f) = inr (n, subst (λ (l : List ℕ). length l ≡ cond (found_TBD l) 6 4) (sym f) refl)

-- ---- bounds

pub tried_bound : (xs l : List ℕ) → Tried xs l → length l ≤ length xs + 5
tried_bound xs l x = omega (
  arith,
  ap length x.is,
  length_onto xs (43 ∷ helped x.tbd (41 ∷ [])),
  length_helped x.tbd (41 ∷ []),
  help_bound x.tbd,
)

-- the steps of a read are at most 4 more than the versions there are
read_bound : (t : ℕ) (m : Memory) → MemoryFacts t m → (i h o e j : ℕ) (l : List ℕ) → Read m i h o e j l → length l ≤ 4 + (m.item i).versions
read_bound t m known i h o e j l x = omega (
  arith,
  ap length x.lines,
  length_read x.tbd x.passed,
  at x.tbd,
  x.at,
  x.good,
  (known.item i).valid_published,
)
  where
    at : (b : Bool) → cond b 5 3 ≤ 5
    at true = omega arith
    at false = omega arith

pub sum_bound : (t : ℕ) (m : Memory) → MemoryFacts t m → (q h o e : ℕ) {i u : ℕ} {l : List ℕ} → Sum m q h o e i u l →
    length l ≤ 4 * i + sum_to (λ i. (m.item i).versions) i
unfolding sum_to
sum_bound t m known q h o e empty = omega arith
sum_bound t m known q h o e (skip {i} {u} {l} z x y) = omega (arith, sum_bound t m known q h o e y)
sum_bound t m known q h o e (plus {i} {u} {l} j r x y) = omega (arith, length_onto r l, read_bound t m known i h o e j r x, sum_bound t m known q h o e y)

module _ (s : Catalogue) (invariant : Invariant s) (Y : Tally s) (few_items : s.memory.limits.items ≤ 256)
    (few_nodes : s.memory.limits.nodes ≤ 4096) where
  all_versions : ℕ → ℕ
  all_versions n = sum_to (λ i. (s.memory.item i).versions) n

  versions_fit : all_versions s.memory.items ≤ 4096
  unfolding all_versions
  versions_fit = omega (arith, Y.count, Y.fits)

  -- the items below n, and one more, are within the bound
  some_fit : (n : ℕ) → n ≤ s.memory.items → 4 * n + all_versions n ≤ 5120
  unfolding all_versions
  some_fit n p = omega (arith, sum_rises (λ i. (s.memory.item i).versions) n s.memory.items p, versions_fit, Y.room)

  one_more_fits : (i : ℕ) → i < s.memory.items → 4 * i + all_versions i + 4 + (s.memory.item i).versions ≤ 5120
  unfolding all_versions sum_to
  one_more_fits i p = omega (arith, some_fit (suc i) p)

  one_fits : (i : ℕ) → 0 < (s.memory.item i).versions → (s.memory.item i).versions ≤ 4096
  one_fits i p = at (split i s.memory.items)
    where
      at : Split i s.memory.items → (s.memory.item i).versions ≤ 4096
      at (Split.less q) = unfold sum_to all_versions in
          (omega (arith, sum_rises (λ i. (s.memory.item i).versions) (suc i) s.memory.items q, versions_fit))
      at (Split.more q) = absurd (omega (arith, invariant.kept.memory.unregistered i q))

  passing_bound : (x j : ℕ) (r : List ℕ) → Passing x j r → length r ≤ j + 4
  passing_bound x j r p = omega (
    arith,
    ap length p.is,
    length_passed p.passed (helped p.tbd (32 ∷ [])),
    length_helped p.tbd (32 ∷ []),
    help_bound p.tbd,
    p.count,
  )

  totals_bound : {q h k i u o : ℕ} {l : List ℕ} → Totals s.now o s.memory q h k i u l → length l ≤ 4 * i + all_versions i
  unfolding all_versions
  totals_bound x = sum_bound s.now s.memory invariant.kept.memory _ _ _ _ x.sum

  -- before a help, three more steps are within the bound
  then_bound : (o : ℕ) (l : List ℕ) (c : Then) (j : ℕ) → ThenFacts s.now o l s.memory c j → length l + 3 ≤ 5120
  then_bound o l (then_39 i f) j x = omega (arith, ap length x.0)
  then_bound o l (then_43 i a b f) j x = omega (arith, ap length x.0)
  then_bound o l (then_48 i a b) j x = omega (arith, tried_bound (46 ∷ 45 ∷ []) l x.0)
  then_bound o l (then_52 i a b g) j x = omega (arith, tried_bound (51 ∷ 50 ∷ 46 ∷ 45 ∷ []) l x.0)
  then_bound o l (then_34 i h f) j x = omega (arith, ap length x.0)
  then_bound o l (then_total_34 q h k i u f) j x =
      omega (arith, ap length x.is, totals_bound x.totals, one_more_fits i (omega (arith, x.more, x.totals.registered)))

  helped_bound : (o : ℕ) (l : List ℕ) (c : Then) (j : ℕ) → Helped s.now o l s.memory c j → length l ≤ 5120
  helped_bound o l c j x = omega (
    arith,
    ap length x.is,
    length_helped x.tbd x.earlier,
    help_bound x.tbd,
    then_bound o x.earlier c j
        x.keeps,
  )

  phase_bound : (o : ℕ) (l : List ℕ) (ph : Phase) → PhaseFacts s.now o l s.memory ph → length l ≤ 5120
  phase_bound o l (line_37 i) x = omega (arith, ap length x.0)
  phase_bound o l (line_39 i f j) x = helped_bound o l (then_39 i f) j x
  phase_bound o l (line_41 i a b) x = omega (arith, ap length x.0)
  phase_bound o l (line_43 i a b f j) x = helped_bound o l (then_43 i a b f) j x
  phase_bound o l (line_45 i a b f j) x = omega (arith, tried_bound [] l x.0)
  phase_bound o l (line_46 i a b f j y) x = omega (arith, tried_bound (45 ∷ []) l x.0)
  phase_bound o l (line_48 i a b j) x = helped_bound o l (then_48 i a b) j x
  phase_bound o l (line_50 i a b g y) x = omega (arith, tried_bound (46 ∷ 45 ∷ []) l x.0)
  phase_bound o l (line_51 i a b g) x = omega (arith, tried_bound (50 ∷ 46 ∷ 45 ∷ []) l x.0)
  phase_bound o l (line_52 i a b g j) x = helped_bound o l (then_52 i a b g) j x
  phase_bound o l line_5 x = omega (arith, ap length x)
  phase_bound o l (line_6 c r) x = omega (arith, ap length x.0)
  phase_bound o l (line_32 i h) x = omega (arith, ap length x.0)
  phase_bound o l (line_34 i h f j y) x =
      omega (arith, passing_bound y j l x.0, x.1.reading.held.got.have, one_fits i (omega (arith, x.1.reading.held.got.have)))
  phase_bound o l (total_32 q h k i u) x = omega (arith, totals_bound x.1, some_fit i (omega (arith, x.0, x.1.registered)))
  phase_bound o l (total_34 q h k i u f j y) x =
      omega (
        arith,
        ap length x.is,
        length_onto x.here x.done,
        passing_bound y j x.here x.passing,
        totals_bound x.totals,
        x.way.reading.held.got.have,
        one_more_fits i (omega (arith, x.more, x.totals.registered)),
      )
  phase_bound o l (closing q h k u) x = omega (arith, totals_bound x, some_fit k x.registered)
  phase_bound o l (line_20 c j) x = omega (arith, then_bound o l c j x)
  phase_bound o l (line_21 c j) x = omega (arith, ap length x.is, then_bound o x.earlier c j x.keeps)
  phase_bound o l (line_22 c j n r) x = omega (arith, ap length x.is, then_bound o x.earlier c j x.keeps)

  -- before a step, a worker has executed at most 5,120 lines
  pub busy_bound : (w o : ℕ) (l : List ℕ) (ph : Phase) → s.worker w ≡ busy o l ph → length l ≤ 5120
  busy_bound w o l ph e =
      phase_bound o l ph (subst (λ (x : Worker). WorkerRight s.now s.memory s.fate s.place w x) e (invariant.workers w)).facts

  -- a finished total took at most 5,121 steps
  pub total_bound : (q h o τ x : ℕ) (l : List ℕ) → TotalRead s.memory q h o l τ x → length l ≤ 5121
  unfolding all_versions
  total_bound q h o τ x l y = omega (
    arith,
    ap length y.lines,
    sum_bound s.now s.memory invariant.kept.memory q h o (suc τ) y.sum,
    some_fit y.k y.registered,
  )

-- in every run of a catalogue with at most 256 items and 4,096 nodes
pub steps_bound : (limits : Limits) → limits.items ≤ 256 → limits.nodes ≤ 4096 → (es : List Event) →
    (w o : ℕ) (l : List ℕ) (ph : Phase) → (after_events limits es).worker w ≡ busy o l ph → length l ≤ 5120
steps_bound limits a b es =
    busy_bound (after_events limits es) (run_right limits es) (tally limits es) (subst (λ (y : Limits). y.items ≤ 256) (sym (limits_kept limits es)) a)
    (subst (λ (y : Limits). y.nodes ≤ 4096) (sym (limits_kept limits es)) b)
