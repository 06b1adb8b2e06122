-- What a start comes to: it is refused, or the record that it writes for its worker.
use Rattle.std.specs.Prelude.{ℕ, ◌<◌, ◌≡◌, ⊤, Ok, Err, None, Some, List, ◌++◌, get_or}
use Rattle.std.specs.Prelude.{Result as Tested}
use Rattle.std.proofs.Common.{ap, leb-false, arith}
use Rattle.definitions.specs.Cells.{cells_of}
use Rattle.definitions.specs.Answers.{Outcome, Refusal, unless, refused, accepts}
use Rattle.definitions.specs.Calls.{Call, Result, leaving, outcome, sound_item}
use Rattle.tables.specs.Ranges.{HasRecord}
use Rattle.endings.specs.declared.reason.Reason.{Reason}
use Rattle.endings.specs.declared.record.Record.{Record}
use Rattle.endings.specs.Ended.{number_of, assigned}
use Rattle.facts.specs.Facts.{Header, header_sound}
use Rattle.facts.specs.Refusals.{first_of, first_none, unless_none, unless_first, worker_refusals}

abbrev pub begun : ℕ → Tested Record Reason → Outcome
begun w (Ok fields) = accepts 0 (assigned w fields)
begun w (Err r) = refused (number_of r)

-- A record that is to be written has its place.
abbrev pub HasRoom : List ℕ → ℕ → Tested Record Reason → Type 0
HasRoom ws w (Ok fields) = HasRecord w ws
HasRoom ws w (Err r) = ⊤

-- What the tests of a start came to is what the call comes to.
abbrev pub Begins : List ℕ → ℕ → Call → Tested Record Reason → Type 0
Begins ws w call tested = (outcome ws call ≡ leaving ws (begun w tested)) × HasRoom ws w tested

-- What is known once the first refusals did not hold.
module _ (ws : List ℕ) (w : ℕ) (e : first_of (worker_refusals ws w) ≡ None) where
  pub header_there : Header ws
  header_there = header_sound ws (first_none (worker_refusals ws w) 0 e)

  pub worker_there : w < get_or ws 0 0
  worker_there = leb-false (get_or ws 0 0) w (first_none (worker_refusals ws w) 1 e)

  pub has_room : HasRecord w ws
  has_room = omega (arith, header_there, worker_there)

pub registered_item : (ws : List ℕ) (i : ℕ) → first_of (sound_item (cells_of ws) i) ≡ None → i < get_or ws 6 0
registered_item ws i e = leb-false (get_or ws 6 0) i (first_none (sound_item (cells_of ws) i) 0 e)

-- Where a chain refuses, the start is refused for that.
pub refused_for : {ws : List ℕ} (w : ℕ) {comes : Result} {tested : Tested Record Reason} {r : Reason}
    → (y : Reason) × (tested ≡ Err y) × (y ≡ r) → comes ≡ leaving ws (refused (number_of r)) → (comes ≡ leaving ws (begun w tested)) × HasRoom ws w tested
refused_for w p e = rw (p.1, p.2) (e, tt)

-- A chain that stops a start, and one that lets it go on to the rest.
module _ (ws : List ℕ) (rs rest : List Refusal) (o : Outcome) where
  pub stopped : {n : ℕ} → first_of rs ≡ Some n → leaving ws (unless (rs ++ rest) o) ≡ leaving ws (refused n)
  stopped e = ap (leaving ws) (unless_first rs rest o e)

  pub passed : first_of rs ≡ None → leaving ws (unless (rs ++ rest) o) ≡ leaving ws (unless rest o)
  passed e = ap (leaving ws) (unless_none rs rest o e)
