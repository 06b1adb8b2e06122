-- The ledger's time of an operation that has executed a line is that of its latest one.
use Rattle.std.proofs.Math.Path.{ap, refl, sym, subst}
use Rattle.std.specs.Prelude.{◌≡◌, ◌⊎◌, List, [], ◌∷◌, ℕ, ◌≤◌, ◌<◌, length}
use Rattle.std.proofs.Math.Logic.{inl}
use Rattle.std.proofs.Common.{inr, arith}
use Rattle.history.specs.Tools.{put_all, put_same, put_other, Same, eq, ne, same?}
use Rattle.history.specs.Notes.{Deed, Note, Fate, entered, ledger}
use Rattle.history.specs.Notes as Notes
use Rattle.history.specs.Statements.{Executed, Steps}
use Rattle.history.specs.NoteParts.{note_tag, note_line, note_deed, note_worker}
use Rattle.history.proofs.Trace.{ReadAt, executed_more, executed_past, noted_past}
use Rattle.history.proofs.TraceMemory.{executed_inv}

-- a worker's operation was started before
current_past : (run : List Note) (w : ℕ) → (ledger run).current w ≤ length run
unfolding ledger entered
current_past [] w = omega arith
current_past (Notes.quiet x ∷ past) w = omega (arith, current_past past w)
current_past (Notes.registered i v s ∷ past) w = omega (arith, current_past past w)
current_past (Notes.started w' op ∷ past) w =
    put_all (λ (w n : ℕ). n ≤ length (Notes.started w' op ∷ past)) (ledger past).current w' (length past) w (λ e. omega arith)
    (λ e. omega (arith, current_past past w))
current_past (Notes.stepped w' k d e ∷ past) w = omega (arith, current_past past w)
current_past (Notes.abandoned w' b ∷ past) w = omega (arith, current_past past w)

pub named_past : (run : List Note) (o : ℕ) {line t : ℕ} {d : Deed} → Executed run o line d t → o < length run
named_past run o {line} {t} {d} e =
    omega (arith, current_past e.past e.w, e.its, noted_past (Notes.stepped e.w line d e.e) e.past run e.noted)

-- the ledger has the time of a step, and none is later
abbrev AtLatest : List Note → (o t : ℕ) → Type 0
AtLatest run o t = (t ≤ ((ledger run).fate o).at) × Steps run o ((ledger run).fate o).at

module _ (past : List Note) (o : ℕ) {line t : ℕ} {d : Deed} (earlier : Executed past o line d t → AtLatest past o t) where
  -- the fate of o is what it was
  kept : (x : Note) → (note_tag x ≡ 3 → (ledger past).current (note_worker x) ≡ o → ⊥) →
      (Executed past o line d t → ((ledger (x ∷ past)).fate o).at ≡ ((ledger past).fate o).at) → Executed (x ∷ past) o line d t → AtLatest (x ∷ past) o t
  kept x foreign same e = pick (executed_inv past x e)
    where
      pick : Executed past o line d t
          ⊎ ((note_tag x ≡ 3) × (note_line x ≡ line) × (note_deed x ≡ d) × ((ledger past).current (note_worker x) ≡ o) × (length past ≡ t)) →
          AtLatest (x ∷ past) o t
      pick (inr z) = absurd (foreign z.0 z.3)
      pick (inl z) =
          let y : AtLatest past o t = earlier z in
          subst (λ (u : ℕ). (t ≤ u) × Steps (x ∷ past) o u) (sym (same z)) (y.0, (y.1.0, y.1.1, executed_more x y.1.2))

  one_more : (x : Note) → Executed (x ∷ past) o line d t → AtLatest (x ∷ past) o t
  unfolding ledger entered
  one_more (Notes.quiet x) e = kept (Notes.quiet x) (λ z. absurd (omega arith)) (λ z. refl) e
  one_more (Notes.registered i v s) e =
      kept (Notes.registered i v s) (λ z. absurd (omega arith))
      (λ z. ap (λ (f : Fate). f.at) (put_other (ledger past).fate (length past) _ o (λ q. omega (arith, named_past past o z)))) e
  one_more (Notes.started w op) e =
      kept (Notes.started w op) (λ z. absurd (omega arith))
      (λ z. ap (λ (f : Fate). f.at) (put_other (ledger past).fate (length past) _ o (λ q. omega (arith, named_past past o z)))) e
  one_more (Notes.stepped w k d' e') e = by (same? o ((ledger past).current w))
    where
      by : Same o ((ledger past).current w) → AtLatest (Notes.stepped w k d' e' ∷ past) o t
      by (ne q) = kept (Notes.stepped w k d' e') (λ z c. q (sym c)) (λ z. ap (λ (f : Fate). f.at) (put_other (ledger past).fate ((ledger past).current w) _ o q)) e
      by (eq q) =
          subst (λ (f : Fate). (t ≤ f.at) × Steps (Notes.stepped w k d' e' ∷ past) o f.at)
          (sym (put_same (ledger past).fate ((ledger past).current w) _ o q))
          (omega (arith, executed_past e), (k, d', record { past = past; w = w; e = e'; noted = inl (refl, refl); its = sym q; at = refl }))
  one_more (Notes.abandoned w b) e =
      kept (Notes.abandoned w b) (λ z. absurd (omega arith))
      (λ z. put_all (λ (q : ℕ) (f : Fate). f.at ≡ ((ledger past).fate q).at) (ledger past).fate ((ledger past).current w) _ o
      (λ q. ap (λ (q : ℕ). ((ledger past).fate q).at) (sym q)) (λ q. refl)) e

at_latest : (run : List Note) (o : ℕ) {line t : ℕ} {d : Deed} → Executed run o line d t → AtLatest run o t
at_latest [] o e = absurd e.noted
at_latest (x ∷ past) o e = one_more past o (λ z. at_latest past o z) x e

-- line 21 was executed at r, and nothing since
pub last_is : (run : List Note) (o r : ℕ) → ReadAt run o r → ((ledger run).fate o).at ≡ r
last_is run o r a =
    let y : AtLatest run o r = at_latest run o a.read in omega (arith, y.0, a.since y.1.0 y.1.1 ((ledger run).fate o).at y.1.2)
