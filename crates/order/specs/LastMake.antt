-- The history of a catalogue begins at the last make that was not refused: any calls, on any words, make a history since then, if there was one, and
-- demands 2 and 3 hold of it.
use Rattle.std.specs.Prelude.{◌≡◌, refl, ◌⊎◌, Bool, true, false, List, [], ◌∷◌, ◌++◌, ℕ, eqb}
use Rattle.std.proofs.Common.{inl, inr, eqb-true}
use Rattle.std.proofs.lemmas.Bool.{eqb-false}
use Rattle.definitions.specs.Calls.{Call, outcome}
use Rattle.history.specs.Notes.{Note, told, words_after, Typed, RunCall, History, made, called}
use Rattle.history.specs.Demands.{Demands}
use Rattle.reached.proofs.Run.{no_make_call}
use Rattle.order.specs.Theorems.{demands}

-- the arguments of every call are numbers of their types
abbrev pub AllTyped : List Call → Type 0
AllTyped [] = Unit {0}
AllTyped (x ∷ cs) = Typed x × AllTyped cs

-- of calls on words ws, the newest first:
module _ (ws : List ℕ) where
  -- no make was accepted
  abbrev pub NoneMade : List Call → Type 0
  NoneMade [] = Unit {0}
  NoneMade (x ∷ cs) = RunCall (words_after ws cs) x × NoneMade cs

  -- the last accepted make was that of p, m, n, q and c, and run is all that is told of the calls since
  pub data Since (p m n q c : ℕ) : List Call → List Note → Type 0 where
    made_last : (before : List Call) → (outcome (words_after ws before) (Call.make p m n q c)).answer.code ≡ 2 →
        Since p m n q c (Call.make p m n q c ∷ before) []
    called_since : {cs : List Call} {run : List Note} → Since p m n q c cs run → (x : Call) → RunCall (words_after ws cs) x →
        Since p m n q c (x ∷ cs) (told (words_after ws cs) x ++ run)

  -- some make was accepted: the words that the calls left, and what is told since the last such make, are a history, and demands 2 and 3 hold of it
  pub record Made (cs : List Call) : Type 0 where
    pub p : ℕ
    pub m : ℕ
    pub n : ℕ
    pub q : ℕ
    pub c : ℕ
    pub run : List Note
    pub since : Since p m n q c cs run
    pub history : History p m n q c (words_after ws cs) run
    pub demands : Demands p m n q c (words_after ws cs) run

  -- one of the two is so
  abbrev pub Standing : List Call → Type 0
  Standing cs = NoneMade cs ⊎ Made cs

  -- ---- one call more

  since_history : {p m n q c : ℕ} {cs : List Call} {run : List Note} → Since p m n q c cs run → History p m n q c (words_after ws cs) run
  unfolding words_after
  since_history (made_last before e) = made (words_after ws before) e
  since_history (called_since s x k) = called (since_history s) x k

  made_since : {p m n q c : ℕ} {cs : List Call} {run : List Note} → Since p m n q c cs run → Made cs
  made_since {p} {m} {n} {q} {c} {cs} {run} s =
      record { p = p; m = m; n = n; q = q; c = c; run = run; since = s; history = since_history s; demands = demands p m n q c (since_history s) }

  go_on : (cs : List Call) → Standing cs → (x : Call) → RunCall (words_after ws cs) x → Standing (x ∷ cs)
  go_on cs (inl h) x k = inl (k, h)
  go_on cs (inr h) x k = inr (made_since (called_since h.since x k))

  pub next_call : (cs : List Call) → Standing cs → (x : Call) → Typed x → Standing (x ∷ cs)
  next_call cs h (Call.make p m n q c) t = at (eqb (outcome (words_after ws cs) (Call.make p m n q c)).answer.code 2) refl
    where
      at : (b : Bool) → eqb (outcome (words_after ws cs) (Call.make p m n q c)).answer.code 2 ≡ b → Standing (Call.make p m n q c ∷ cs)
      at true e = inr (made_since (made_last cs (eqb-true _ _ e)))
      at false e = go_on cs h (Call.make p m n q c) (record { typed = t; no_make = λ p' m' n' q' c' d. eqb-false _ _ e })
  next_call cs h (Call.register v z) t = go_on cs h (Call.register v z) (no_make_call _ _ t refl)
  next_call cs h (Call.v_read w i) t = go_on cs h (Call.v_read w i) (no_make_call _ _ t refl)
  next_call cs h (Call.v_cas w i old new) t = go_on cs h (Call.v_cas w i old new) (no_make_call _ _ t refl)
  next_call cs h (Call.take_snapshot w) t = go_on cs h (Call.take_snapshot w) (no_make_call _ _ t refl)
  next_call cs h (Call.read_snapshot w i k) t = go_on cs h (Call.read_snapshot w i k) (no_make_call _ _ t refl)
  next_call cs h (Call.total w q k) t = go_on cs h (Call.total w q k) (no_make_call _ _ t refl)
  next_call cs h (Call.step w) t = go_on cs h (Call.step w) (no_make_call _ _ t refl)
  next_call cs h (Call.abandon w) t = go_on cs h (Call.abandon w) (no_make_call _ _ t refl)

  -- Demands 2 and 3 of any calls on any words.
  pub last_make : (cs : List Call) → AllTyped cs → Standing cs
  last_make [] t = inl tt
  last_make (x ∷ cs) t = next_call cs (last_make cs t.1) x t.0
