-- Every history is told by a run of the machine of versions, and its words are the image of the machine's state: so each call answers, writes and is
-- noted as on the machine, and the words are well-formed.
use Rattle.std.specs.Prelude.{◌≡◌, ◌≢◌, ℕ}
use Rattle.std.proofs.Math.Path.{refl, ap, ap₂}
use Rattle.std.proofs.Common.{sym, ◌∙◌, true≢false}
use mathlib.Core.List.{List, [], ◌∷◌, ◌++◌, map}
use Rattle.definitions.specs.declared.Answer.{Answer}
use Rattle.definitions.specs.Calls.{Call, outcome}
use Rattle.cells.specs.WellFormed.{WellFormed}
use Rattle.history.specs.Notes.{Note, note, told, words_after, notes, start, RunCall, Run, History, made, called, damaged_code}
use Rattle.history.specs.Machine.{Limits, Event, Catalogue, fresh, call, event_move, happens, after_events}
use Rattle.history.proofs.MachineNotes.{machine_note, event_note, machine_notes}
use Rattle.history.proofs.StepCount.{steps_bound}
use Rattle.history.proofs.InWork.{Below, call_below}
use Rattle.history.proofs.Run.{run_right}
use Rattle.reached.proofs.Whole.{FewSteps, LimitsFit}
use Rattle.reached.proofs.Run.{WordsImage, Called, every_call, limits_of, in_limits, start_image}
use Rattle.reached.specs.Never.{reply_fine}
use Rattle.reached.proofs.Noted.{note_same}
use Rattle.reached.proofs.Formed.{image_well_formed}

-- Words that are the image of a machine whose notes are the run's. Between two calls no worker from p on is at work.
pub record ToldImage (limits : Limits) (now : List ℕ) (run : List Note) : Type 0 where
  pub events : List Event
  pub fit : LimitsFit limits
  pub image : WordsImage now (after_events limits events)
  pub below : Below (after_events limits events)
  pub told_is : run ≡ machine_notes limits events

module _ {limits : Limits} {now : List ℕ} {run : List Note} (I : ToldImage limits now run) where
  abbrev machine_then : Catalogue
  machine_then = after_events limits I.events

  -- no operation of the machine has taken too many steps
  few : FewSteps machine_then.worker
  few = steps_bound limits I.fit.items_in.1 I.fit.nodes_in.1 I.events

  -- one call more: today a call is one event, and one note
  next : (x : Call) → RunCall now x → ToldImage limits (outcome now x).words (told now x ++ run)
  unfolding told after_events machine_notes event_note happens event_move call
  next x k =
      record {
        events = Event.called x ∷ I.events;
        fit = I.fit;
        image = (every_call now machine_then I.image few x k).words_are;
        below = call_below machine_then (run_right limits I.events) I.below x;
        told_is = ap₂ (λ (a : Note) (l : List Note). a ∷ l) (note_same now machine_then I.image few x k) I.told_is;
      }

pub told_image : (p m n q c : ℕ) {now : List ℕ} {run : List Note} → History p m n q c now run → ToldImage (limits_of p m n q c) now run
unfolding after_events machine_notes fresh
told_image p m n q c (made ws e) =
    record { events = []; fit = in_limits ws p m n q c e; image = start_image ws p m n q c e; below = λ w e. absurd (true≢false e); told_is = refl }
told_image p m n q c (called before x k) = next (told_image p m n q c before) x k

module _ (p m n q c : ℕ) {now : List ℕ} {run : List Note} (history : History p m n q c now run) where
  abbrev pub machine : Catalogue
  machine = after_events (limits_of p m n q c) (told_image p m n q c history).events

  -- a call comes to what it comes to on the machine, and is noted as there
  pub called_same : (x : Call) → RunCall now x → Called now machine x
  called_same = every_call now machine (told_image p m n q c history).image (few (told_image p m n q c history))

  pub noted_same : (x : Call) → RunCall now x → note now x ≡ machine_note machine x
  noted_same = note_same now machine (told_image p m n q c history).image (few (told_image p m n q c history))

  -- the words are well-formed, and no call answers 2
  pub formed : WellFormed now
  formed = image_well_formed now machine (told_image p m n q c history).image (few (told_image p m n q c history))

  pub never_damaged : (x : Call) → RunCall now x → (outcome now x).answer.code ≢ damaged_code
  never_damaged x k e = reply_fine machine x (sym (ap (λ (a : Answer). a.code) (called_same x k).answer_is) ∙ e)

-- ---- the calls of a run

module _ (ws : List ℕ) (p m n q c : ℕ) (e : (outcome ws (Call.make p m n q c)).answer.code ≡ 2) where
  -- they make a history,
  pub run_history : (cs : List Call) → Run (start ws p m n q c) cs → History p m n q c (words_after (start ws p m n q c) cs) (notes (start ws p m n q c) cs)
  unfolding words_after notes
  run_history [] r = made ws e
  run_history (x ∷ cs) r = called (run_history cs r.0) x r.1

  -- and are its events
  pub events_are : (cs : List Call) (r : Run (start ws p m n q c) cs) → (told_image p m n q c (run_history cs r)).events ≡ map Event.called cs
  unfolding run_history words_after notes told_image next
  events_are [] r = refl
  events_are (x ∷ cs) r = ap (λ (l : List Event). Event.called x ∷ l) (events_are cs r.0)
