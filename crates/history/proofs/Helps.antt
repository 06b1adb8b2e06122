-- What line 20 found decides which line comes next, in every run of the machine of versions.
use Rattle.std.specs.Prelude.{◌≡◌, refl, ◌↔◌, ◌⊎◌, Bool, true, false, not, List, [], ◌∷◌, ◌++◌, ℕ, zero, suc, ◌≤◌, eqb, length, replicate}
use Rattle.std.proofs.Common.{ap, sym, ◌∙◌, inl, inr, true≢false, arith}
use Rattle.std.proofs.Math.Path.{subst}
use Rattle.history.specs.Tools.{put_all, Split, split, Same, eq, ne, same?, ne_eqb}
use Rattle.history.specs.Notes.{Deed, finds, Note, Fate, entered, ledger, helped, read_lines}
use Rattle.history.specs.Notes as Notes
use Rattle.history.specs.NoteParts.{note_tag, note_line, note_deed, note_worker}
use Rattle.history.specs.Statements.{Executed, Steps, Next}
use Rattle.history.specs.Machine.{holds_node, Limits, Phase, line_number, Worker, busy, Catalogue, Event, after_events}
use Rattle.history.proofs.Places.{Invariant}
use Rattle.history.proofs.Run.{run_right}
use Rattle.history.proofs.MachineNotes.{event_note, machine_notes, event_cases}
use Rattle.history.proofs.LedgerRight.{InLedger, Agrees, agrees}
use Rattle.history.proofs.Trace.{LatestOf, WorkerTraced, Traced, executed_more, executed_past}
use Rattle.history.proofs.TraceMemory.{executed_inv}
use Rattle.history.proofs.TraceRun.{traced}
use Rattle.history.proofs.Immediately.{same_event}

-- ---- neighbours in a run

-- a line 20, and the next step of its operation
abbrev pub Decides : List Note → Type 0
Decides run = (o t t' line : ℕ) (d d' : Deed) → Executed run o 20 d t → Executed run o line d' t' → Next (Steps run o) t t' →
    d ≡ finds (not (eqb line 21))

-- each line 20 among the lines l of operation o has its event, and found what the line after it tells; after l a line comes next
abbrev pub FoundBy : List Note → (o next : ℕ) → List ℕ → Type 0
FoundBy run o next [] = Unit {0}
FoundBy run o next (line ∷ l) = (line ≡ 20 → (t : ℕ) × Executed run o 20 (finds (not (eqb next 21))) t) × FoundBy run o line l

-- the same where none has come yet: all but the latest
abbrev pub Found : List Note → ℕ → List ℕ → Type 0
Found run o [] = Unit {0}
Found run o (line ∷ l) = FoundBy run o line l

pub record Helps (run : List Note) : Type 0 where
  pub decides : Decides run
  pub found : (o : ℕ) → Found run o ((ledger run).fate o).lines

found_by_more : (run : List Note) (x : Note) (o next : ℕ) (l : List ℕ) → FoundBy run o next l → FoundBy (x ∷ run) o next l
found_by_more run x o next [] k = tt
found_by_more run x o next (line ∷ l) k = (λ e. ((k.0 e).0, executed_more x (k.0 e).1), found_by_more run x o line l k.1)

found_more : (run : List Note) (x : Note) (o : ℕ) (l : List ℕ) → Found run o l → Found (x ∷ run) o l
found_more run x o [] k = tt
found_more run x o (line ∷ l) k = found_by_more run x o line l k

-- ---- one more note

-- the latest line, where a line comes next
found_latest : (run : List Note) (o next : ℕ) (l : List ℕ) → LatestOf run o next l → Found run o l → FoundBy run o next l
found_latest run o next [] a k = tt
found_latest run o next (line ∷ l) a k = (
  λ e. (
    a.t,
    subst (λ (d : Deed). Executed run o 20 d a.t) (a.found e)
        (subst (λ (line : ℕ). Executed run o line a.d a.t) e a.executed),
  ),
  k,
)

decides_latest : (run : List Note) (o next t : ℕ) (d : Deed) (l : List ℕ) → LatestOf run o next l → Executed run o 20 d t →
    ((line : ℕ) (d' : Deed) (t' : ℕ) → Executed run o line d' t' → t' ≤ t) → d ≡ finds (not (eqb next 21))
decides_latest run o next t d [] a x since = absurd (a 20 d t x)
decides_latest run o next t d (line ∷ l) a x since =
    let z : (20 ≡ line) × (d ≡ a.d) × (o ≡ o) = same_event run (subst (λ (t : ℕ). Executed run o 20 d t)
    (omega (arith, a.since 20 d t x, since line a.d a.t a.executed)) x) a.executed in
    z.1 ∙ a.found (sym z.0)

module _ (run : List Note) (helps : Helps run) where
  -- if it is a step, its operation has its latest line before it
  abbrev StepsOn : Note → Type 0
  StepsOn x = note_tag x ≡ 3 →
      LatestOf run ((ledger run).current (note_worker x)) (note_line x) ((ledger run).fate ((ledger run).current (note_worker x))).lines

  -- it is that step
  abbrev Now : Note → (o line : ℕ) → Deed → (t : ℕ) → Type 0
  Now x o line d t = (note_tag x ≡ 3) × (note_line x ≡ line) × (note_deed x ≡ d) × ((ledger run).current (note_worker x) ≡ o) × (length run ≡ t)

  more_decides : (x : Note) → StepsOn x → Decides (x ∷ run)
  more_decides x latest o t t' line d d' a b (p, next) = at (executed_inv run x a) (executed_inv run x b)
    where
      at : Executed run o 20 d t ⊎ Now x o 20 d t → Executed run o line d' t' ⊎ Now x o line d' t' → d ≡ finds (not (eqb line 21))
      at (inr u) v = absurd (omega (arith, executed_past b, u.4))
      at (inl u) (inl v) = helps.decides o t t' line d d' u v (p, λ y s. next y (s.0, s.1, executed_more x s.2))
      at (inl u) (inr v) =
          decides_latest run o line t d ((ledger run).fate o).lines
          (subst (λ (o : ℕ). LatestOf run o line ((ledger run).fate o).lines) v.3
          (subst (λ (k : ℕ). LatestOf run ((ledger run).current (note_worker x)) k ((ledger run).fate ((ledger run).current (note_worker x))).lines)
          v.1 (latest v.0)))
          u (λ k e y s. before k e y s (split t y))
        where
          before : (k : ℕ) (e : Deed) (y : ℕ) → Executed run o k e y → Split t y → y ≤ t
          before k e y s (Split.more q) = q
          before k e y s (Split.less q) = absurd (omega (arith, next y (k, e, executed_more x s) q, executed_past s, v.4))

  more_found : (x : Note) → StepsOn x → (o : ℕ) → Found (x ∷ run) o ((ledger (x ∷ run)).fate o).lines
  unfolding ledger entered
  more_found (Notes.quiet x) latest o = found_more run (Notes.quiet x) o ((ledger run).fate o).lines (helps.found o)
  more_found (Notes.registered i v s) latest o =
      put_all (λ (o : ℕ) (f : Fate). Found (Notes.registered i v s ∷ run) o f.lines) (ledger run).fate (length run) _ o (λ z. tt)
      (λ z. found_more run (Notes.registered i v s) o ((ledger run).fate o).lines (helps.found o))
  more_found (Notes.started w op) latest o =
      put_all (λ (o : ℕ) (f : Fate). Found (Notes.started w op ∷ run) o f.lines) (ledger run).fate (length run) _ o (λ z. tt)
      (λ z. found_more run (Notes.started w op) o ((ledger run).fate o).lines (helps.found o))
  more_found (Notes.stepped w k d e) latest o =
      put_all (λ (o : ℕ) (f : Fate). Found (Notes.stepped w k d e ∷ run) o f.lines) (ledger run).fate ((ledger run).current w) _ o
      (λ z. subst (λ (o : ℕ). FoundBy (Notes.stepped w k d e ∷ run) o k ((ledger run).fate ((ledger run).current w)).lines) (sym z)
      (found_by_more run _ ((ledger run).current w) k ((ledger run).fate ((ledger run).current w)).lines
      (found_latest run ((ledger run).current w) k ((ledger run).fate ((ledger run).current w)).lines (latest refl)
      (helps.found ((ledger run).current w)))))
      (λ z. found_more run (Notes.stepped w k d e) o ((ledger run).fate o).lines (helps.found o))
  more_found (Notes.abandoned w b) latest o =
      put_all (λ (o : ℕ) (f : Fate). Found (Notes.abandoned w b ∷ run) o f.lines) (ledger run).fate ((ledger run).current w) _ o
      (λ z. subst (λ (o : ℕ). Found (Notes.abandoned w b ∷ run) o ((ledger run).fate ((ledger run).current w)).lines) (sym z)
      (found_more run (Notes.abandoned w b) ((ledger run).current w) ((ledger run).fate ((ledger run).current w)).lines (helps.found ((ledger run).current w))))
      (λ z. found_more run (Notes.abandoned w b) o ((ledger run).fate o).lines (helps.found o))

  more_helps : (x : Note) → StepsOn x → Helps (x ∷ run)
  more_helps x latest = record { decides = more_decides x latest; found = more_found x latest }

  -- a worker in an operation has its latest line
  steps_on : (s : Catalogue) → Agrees s run → Traced s run → (w o : ℕ) (l : List ℕ) (ph : Phase) → s.worker w ≡ busy o l ph →
      LatestOf run ((ledger run).current w) (line_number ph) ((ledger run).fate ((ledger run).current w)).lines
  steps_on s A T w o l ph is =
      let told : InLedger (ledger run) w (busy o l ph) = subst (λ (y : Worker). InLedger (ledger run) w y) is (A.worker w) in
      let its : WorkerTraced s.memory run (busy o l ph) = subst (λ (y : Worker). WorkerTraced s.memory run y) is (T.workers w) in
      subst (λ (o : ℕ). LatestOf run o (line_number ph) ((ledger run).fate o).lines) (sym told.0)
      (subst (λ (l : List ℕ). LatestOf run o (line_number ph) l) (sym told.1) its.1)

  event_helps : (s : Catalogue) → Invariant s → Agrees s run → Traced s run → (e : Event) → Helps (event_note s e ∷ run)
  event_helps s invariant A T =
      event_cases s invariant (suc s.memory.limits.workers) (omega arith) (λ (x : Note) (s' : Catalogue). Helps (x ∷ run))
      (λ x q. more_helps (Notes.quiet x) (λ e. absurd (omega arith)))
      (λ v z p. more_helps (Notes.registered s.memory.items v z) (λ e. absurd (omega arith)))
      (λ w op b f p. more_helps (Notes.started w op) (λ e. absurd (omega arith)))
      (λ w o l ph b is. more_helps _ (λ e. steps_on s A T w o l ph is))
      (λ w o l ph b is. more_helps (Notes.abandoned w (holds_node ph)) (λ e. absurd (omega arith))) (omega arith)

-- ---- in every run

pub helped_in : (limits : Limits) (es : List Event) → Helps (machine_notes limits es)
unfolding machine_notes ledger
helped_in limits [] = record { decides = λ o t t' line d d' a b n. absurd a.noted; found = λ o. tt }
helped_in limits (e ∷ es) =
    event_helps (machine_notes limits es) (helped_in limits es) (after_events limits es) (run_right limits es) (agrees limits es) (traced limits es) e

decided : (line : ℕ) (valid : Bool) → valid ≡ not (eqb line 21) → (line ≡ 21) ↔ (valid ≡ false)
decided line valid e = (λ z. e ∙ ap (λ (k : ℕ). not (eqb k 21)) z, λ z. at z (same? line 21))
  where
    at : valid ≡ false → Same line 21 → line ≡ 21
    at z (eq q) = q
    at z (ne q) = absurd (true≢false (sym (e ∙ ap not (ne_eqb line 21 q)) ∙ z))

pub helps : (limits : Limits) (es : List Event) (o t t' line : ℕ) (d : Deed) (valid : Bool) → Executed (machine_notes limits es) o 20 (finds valid) t →
    Executed (machine_notes limits es) o line d t' → Next (Steps (machine_notes limits es) o) t t' → (line ≡ 21) ↔ (valid ≡ false)
helps limits es o t t' line d valid a b n = decided line valid (let z = (helped_in limits es).decides o t t' line (finds valid) d a b n in cc)

-- the one line 20 of a whole read
pub found_read : (run : List Note) (o : ℕ) (tbd : Bool) (passed : ℕ) → Found run o (read_lines tbd passed) →
    (t : ℕ) × Executed run o 20 (finds (not tbd)) t
found_read run o tbd passed = at passed
  where
    last : (b : Bool) → FoundBy run o 34 (helped b (32 ∷ [])) → (t : ℕ) × Executed run o 20 (finds (not b)) t
    last true k = k.1.1.0 refl
    last false k = k.0 refl

    at : (n : ℕ) → FoundBy run o 34 (replicate n 34 ++ helped tbd (32 ∷ [])) → (t : ℕ) × Executed run o 20 (finds (not tbd)) t
    at zero k = last tbd k
    at (suc n) k = at n k.1
