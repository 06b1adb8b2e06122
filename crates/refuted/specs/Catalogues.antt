-- The runs of any catalogue, right or wrong, as Notes has them of `outcome`, and what refutes a catalogue. Of `outcome` they are the runs of Notes.
use Rattle.std.specs.Prelude.{◌≡◌, refl, List, [], ◌∷◌, ◌++◌, ℕ}
use Rattle.std.proofs.Common.{ap, ap₂, subst}
use Rattle.definitions.specs.Calls.{Call, outcome}
use Rattle.history.specs.Notes.{Note, Catalogue, note_by, told, words_after, notes, RunCallBy, RunCall, Run}
use Rattle.history.specs.Demands.{DemandsBy}

module _ (f : Catalogue) where
  unfoldable pub told_by : List ℕ → Call → List Note
  told_by ws x = note_by f ws x ∷ []

  unfoldable pub words_by : List ℕ → List Call → List ℕ
  words_by ws [] = ws
  words_by ws (x ∷ cs) = (f (words_by ws cs) x).words

  unfoldable pub notes_by : List ℕ → List Call → List Note
  notes_by ws [] = []
  notes_by ws (x ∷ cs) = told_by (words_by ws cs) x ++ notes_by ws cs

  abbrev pub start_by : List ℕ → (p m n q c : ℕ) → List ℕ
  start_by ws p m n q c = (f ws (Call.make p m n q c)).words

  abbrev pub RunBy : List ℕ → List Call → Type 0
  RunBy ws [] = Unit {0}
  RunBy ws (x ∷ cs) = RunBy ws cs × RunCallBy f (words_by ws cs) x

-- A catalogue is refuted by a run of it, from an accepted make, after which not all that is demanded holds.
pub record Refuted (f : Catalogue) : Type 0 where
  pub lent : List ℕ
  pub p : ℕ
  pub m : ℕ
  pub n : ℕ
  pub q : ℕ
  pub c : ℕ
  pub made : (f lent (Call.make p m n q c)).answer.code ≡ 2
  pub calls : List Call
  pub run : RunBy f (start_by f lent p m n q c) calls
  pub broken : DemandsBy f p m n q c (words_by f (start_by f lent p m n q c) calls) (notes_by f (start_by f lent p m n q c) calls) → ⊥

-- ---- of `outcome` this is what Notes says

pub words_same : (ws : List ℕ) (cs : List Call) → words_by outcome ws cs ≡ words_after ws cs
unfolding words_by words_after
words_same ws [] = refl
words_same ws (x ∷ cs) = ap (λ (l : List ℕ). (outcome l x).words) (words_same ws cs)

pub notes_same : (ws : List ℕ) (cs : List Call) → notes_by outcome ws cs ≡ notes ws cs
unfolding notes_by notes told_by told
notes_same ws [] = refl
notes_same ws (x ∷ cs) = ap₂ (λ (l : List ℕ) (past : List Note). told l x ++ past) (words_same ws cs) (notes_same ws cs)

pub run_same : (ws : List ℕ) (cs : List Call) → RunBy outcome ws cs → Run ws cs
run_same ws [] r = tt
run_same ws (x ∷ cs) r = (run_same ws cs r.0, subst (λ (l : List ℕ). RunCall l x) (words_same ws cs) r.1)
