-- An abandoned operation is given up, and stays so. And a time that has not come names no operation.
use Rattle.std.proofs.Math.Path.{◌≡◌, ap, subst}
use Rattle.std.specs.Prelude.{refl, ◌≢◌, Bool, ℕ, suc, ◌≤◌, length}
use Rattle.std.proofs.Common.{sym, ◌∙◌, inl, inr}
use mathlib.Core.List.{List, [], ◌∷◌}
use native.Mathlib.Omega.{arith}
use Rattle.history.specs.Tools.{put, put_all, put_other}
use Rattle.history.specs.Definition1.{Operation, take_snapshot, Follows}
use Rattle.history.specs.Notes.{Deed, Ending, ends_with, given_up, Note, Fate, begins, stops, entered, ledger}
use Rattle.history.specs.Notes as Notes
use Rattle.history.specs.NoteParts.{note_tag, note_worker, ending_tag}
use Rattle.history.specs.Statements.{fate_of, Abandoned}
use Rattle.history.specs.Machine.{Limits, Phase, Worker, busy, Catalogue, Event, happens, after_events, holds_node}
use Rattle.history.proofs.Places.{Invariant}
use Rattle.history.proofs.Run.{run_right}
use Rattle.history.proofs.MachineNotes.{event_note, machine_notes, event_cases}
use Rattle.history.proofs.LedgerRight.{InLedger, Agrees, agrees}

-- ---- where none was started

-- what stands there
abbrev pub no_operation : Fate
no_operation = begins take_snapshot 0 (ends_with 0) 0

current_before : (run : List Note) (w : ℕ) → (ledger run).current w ≤ length run
unfolding ledger entered
current_before [] w = omega arith
current_before (Notes.quiet x ∷ past) w = omega (arith, current_before past w)
current_before (Notes.registered i v s ∷ past) w = omega (arith, current_before past w)
current_before (Notes.started w' op ∷ past) w =
    put_all (λ (k x : ℕ). x ≤ suc (length past)) (ledger past).current w' (length past) w (λ e. omega arith)
    (λ n. omega (arith, current_before past w))
current_before (Notes.stepped w' line d e ∷ past) w = omega (arith, current_before past w)
current_before (Notes.abandoned w' held ∷ past) w = omega (arith, current_before past w)

pub none_later : (run : List Note) (o : ℕ) → length run ≤ o → fate_of run o ≡ no_operation
unfolding ledger entered
none_later [] o h = refl
none_later (Notes.quiet x ∷ past) o h = none_later past o (omega (arith, h))
none_later (Notes.registered i v s ∷ past) o h =
    put_other (ledger past).fate (length past) _ o (λ e. omega (arith, h, e)) ∙ none_later past o (omega (arith, h))
none_later (Notes.started w op ∷ past) o h =
    put_other (ledger past).fate (length past) _ o (λ e. omega (arith, h, e)) ∙ none_later past o (omega (arith, h))
none_later (Notes.stepped w line d x ∷ past) o h =
    put_other (ledger past).fate ((ledger past).current w) _ o (λ e. omega (arith, h, e, current_before past w)) ∙ none_later past o (omega (arith, h))
none_later (Notes.abandoned w held ∷ past) o h =
    put_other (ledger past).fate ((ledger past).current w) _ o (λ e. omega (arith, h, e, current_before past w)) ∙ none_later past o (omega (arith, h))

-- ---- given up, and so it stays

abbrev GivenUp : List Note → Type 0
GivenUp run = (o t : ℕ) → Abandoned run o t → (fate_of run o).ending ≡ given_up

-- an operation that was abandoned before the newest note
earlier : (x : Note) (run : List Note) → GivenUp run → (note_tag x ≡ 4 → ⊥) → (o t : ℕ) → Abandoned (x ∷ run) o t → (fate_of run o).ending ≡ given_up
earlier x run G d o t a = at a.noted
  where
    at : Follows (Notes.abandoned a.w a.held) a.past (x ∷ run) → (fate_of run o).ending ≡ given_up
    at (inl e) = absurd (d (sym (ap note_tag e.0)))
    at (inr n) = G o t (record { past = a.past; w = a.w; held = a.held; noted = n; its = a.its; at = a.at })

-- an operation that is given up was started before, and goes on no more
started_before : (run : List Note) (o : ℕ) → (fate_of run o).ending ≡ given_up → o ≢ length run
started_before run o g e =
    let z : ◌≡◌ {A = ℕ} 3 2 = ap ending_tag (sym g ∙ ap (λ (f : Fate). f.ending) (none_later run o (omega (arith, e)))) in omega arith

module _ (s : Catalogue) (run : List Note) (A : Agrees s run) (G : GivenUp run) where
  after_quiet : (x : Notes.Look) → GivenUp (Notes.quiet x ∷ run)
  unfolding ledger entered
  after_quiet x = earlier (Notes.quiet x) run G (λ z. omega arith)

  -- an operation is new at this time
  still : (x : Note) (f : Fate) → (note_tag x ≡ 4 → ⊥) → (o t : ℕ) → Abandoned (x ∷ run) o t → (put (ledger run).fate (length run) f o).ending ≡ given_up
  still x f d o t a = ap (λ (f : Fate). f.ending) (put_other (ledger run).fate (length run) f o (started_before run o given)) ∙ given
    where
      given : (fate_of run o).ending ≡ given_up
      given = earlier x run G d o t a

  after_register : (i v z : ℕ) → GivenUp (Notes.registered i v z ∷ run)
  unfolding ledger entered
  after_register i v z = still (Notes.registered i v z) _ (λ z. omega arith)

  after_start : (w : ℕ) (op : Operation) → GivenUp (Notes.started w op ∷ run)
  unfolding ledger entered
  after_start w op = still (Notes.started w op) _ (λ z. omega arith)

  after_step : (w o' : ℕ) (l : List ℕ) (ph : Phase) (line : ℕ) (d : Deed) (e : Ending) → s.worker w ≡ busy o' l ph → GivenUp (Notes.stepped w line d e ∷ run)
  unfolding ledger entered
  after_step w o' l ph line d e is o t a =
      ap (λ (f : Fate). f.ending) (put_other (ledger run).fate ((ledger run).current w) _ o other) ∙ given
    where
      given : (fate_of run o).ending ≡ given_up
      given = earlier (Notes.stepped w line d e) run G (λ z. omega arith) o t a

      its : InLedger (ledger run) w (busy o' l ph)
      its = subst (λ (x : Worker). InLedger (ledger run) w x) is (A.worker w)

      other : o ≢ (ledger run).current w
      other z = let y : ◌≡◌ {A = ℕ} 3 0 = ap ending_tag (sym given ∙ ap (λ (q : ℕ). (fate_of run q).ending) (z ∙ its.0) ∙ its.2) in omega arith

  after_abandon : (w : ℕ) (b : Bool) → GivenUp (Notes.abandoned w b ∷ run)
  unfolding ledger entered
  after_abandon w b o t a =
      put_all (λ (q : ℕ) (f : Fate). f.ending ≡ given_up) (ledger run).fate ((ledger run).current w) (stops ((ledger run).fate ((ledger run).current w))) o
      (λ z. refl) (λ z. at a.noted z)
    where
      at : Follows (Notes.abandoned a.w a.held) a.past (Notes.abandoned w b ∷ run) → o ≢ (ledger run).current w → (fate_of run o).ending ≡ given_up
      at (inl e) z = absurd (z (sym a.its ∙ ap (λ (l : List Note). (ledger l).current a.w) e.1 ∙ ap (ledger run).current (ap note_worker e.0)))
      at (inr n) z = G o t (record { past = a.past; w = a.w; held = a.held; noted = n; its = a.its; at = a.at })

next_given_up : (s : Catalogue) (run : List Note) → Invariant s → Agrees s run → GivenUp run → (e : Event) → GivenUp (event_note s e ∷ run)
unfolding happens
next_given_up s run invariant A G =
    event_cases s invariant (suc s.memory.limits.workers) (omega arith) (λ (x : Note) (s' : Catalogue). GivenUp (x ∷ run))
    (λ x q. after_quiet s run A G x) (λ v z p. after_register s run A G s.memory.items v z) (λ w op b f p. after_start s run A G w op)
    (λ w o l ph b e. after_step s run A G w o l ph _ _ _ e)
    (λ w o l ph b e. after_abandon s run A G w (holds_node ph)) (omega arith)

-- in every run of the machine
pub stays_given_up : (limits : Limits) (es : List Event) (o t : ℕ) → Abandoned (machine_notes limits es) o t → (fate_of (machine_notes limits es) o).ending ≡ given_up
unfolding machine_notes
stays_given_up limits [] o t a = absurd a.noted
stays_given_up limits (e ∷ es) o t a =
    next_given_up (after_events limits es) (machine_notes limits es) (run_right limits es) (agrees limits es) (stays_given_up limits es) e o t a
