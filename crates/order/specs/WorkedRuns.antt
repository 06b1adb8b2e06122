-- What the four worked runs on words have in common. Their calls stand in history's Examples; HelpedRun, LostRun, SharedRun and AbandonedRun show of each,
-- all computed from the words, its notes, the order that the theorem gives, the order of the answers, which is another, and when what took effect.
use Rattle.std.specs.Prelude.{◌≡◌, refl, ◌≢◌, Bool, true, false, not, ◌&&◌, List, [], ◌∷◌, ℕ, T, ltb, length, replicate}
use Rattle.std.proofs.Common.{ap, sym, ◌∙◌, ltb→lt}
use Rattle.definitions.specs.Calls.{Call, making, outcome}
use Rattle.cells.specs.Made.{is_make}
use Rattle.history.specs.Tools.{and_parts}
use Rattle.history.specs.Notes.{
  goes_on,
  answers,
  ends_with,
  given_up,
  Note,
  quiet,
  registered,
  started,
  stepped,
  abandoned,
  words_after,
  notes,
  start,
  RunCall,
  Run,
  ledger,
}
use Rattle.history.specs.Statements.{OneOrder, Promises}
use Rattle.history.specs.Effects.{effects}
use Rattle.history.proofs.Examples.{made, order_of}
use Rattle.reached.proofs.Run.{size_of, sized_call}
use Rattle.order.specs.Theorems.{demands, run_demands, run_order}

-- a catalogue of three workers, one item, four nodes, four projects and counters to 16, on 80 lent words
abbrev lent : List ℕ
lent = replicate 80 7

accepted : (outcome lent (Call.make 3 1 4 4 16)).answer.code ≡ 2
unfolding outcome making
accepted = refl

-- the notes of calls on it
abbrev pub told_of : List Call → List Note
told_of cs = notes (start lent 3 1 4 4 16) (made cs [])

-- ---- they are runs

-- no make, and a size of 32 bits
abbrev plain : Call → Bool
plain x = not (is_make x) && ltb (size_of x) 4294967296

abbrev all_plain : List Call → Bool
all_plain [] = true
all_plain (x ∷ cs) = plain x && all_plain cs

abbrev pub Plain : List Call → Type 0
Plain cs = T (all_plain (made cs []))

is_false : (b : Bool) → T (not b) → b ≡ false
is_false true t = absurd t
is_false false t = refl

is_run : (ws : List ℕ) (cs : List Call) → T (all_plain cs) → Run ws cs
is_run ws [] t = tt
is_run ws (x ∷ cs) t = (is_run ws cs (and_parts (plain x) (all_plain cs) t).1, one x (and_parts (plain x) (all_plain cs) t).0)
  where
    one : (x : Call) → T (plain x) → RunCall (words_after ws cs) x
    one x t = let y : T (not (is_make x)) × T (ltb (size_of x) 4294967296) = and_parts (not (is_make x)) (ltb (size_of x) 4294967296) t in
        sized_call (words_after ws cs) x (ltb→lt (size_of x) 4294967296 y.1) (is_false (is_make x) y.0)

-- ---- the order of the theorem, and the order of the answers; operations by the times of their starts, the newest first

-- what the theorem gives for such a run: here alone it is cited
pub promised : (cs : List Call) → Plain cs → Promises (told_of cs) (effects (told_of cs))
unfolding demands run_demands
promised cs t = (run_demands lent 3 1 4 4 16 accepted (made cs []) (is_run (start lent 3 1 4 4 16) (made cs []) t)).promises

abbrev pub order_of_theorem : (cs : List Call) → Plain cs → OneOrder (told_of cs)
order_of_theorem cs t = (promised cs t).one_order

pub same_order : (cs : List Call) (t : Plain cs) → (order_of_theorem cs t).order ≡ order_of cs
unfolding promised demands run_demands
same_order cs t = run_order lent 3 1 4 4 16 accepted (made cs []) (is_run (start lent 3 1 4 4 16) (made cs []) t)

-- the operations that answered, in the order of their answers
unfoldable pub answered : List Note → List ℕ
answered [] = []
answered (quiet x ∷ past) = answered past
answered (registered i v s ∷ past) = length past ∷ answered past
answered (started w op ∷ past) = answered past
answered (stepped w line d goes_on ∷ past) = answered past
answered (stepped w line d (answers x) ∷ past) = (ledger past).current w ∷ answered past
answered (stepped w line d (ends_with n) ∷ past) = answered past
answered (stepped w line d given_up ∷ past) = answered past
answered (abandoned w b ∷ past) = answered past

-- lists whose newest differ
newest : List ℕ → ℕ
newest [] = 0
newest (o ∷ l) = o

pub differ : {l l' : List ℕ} {o o' : ℕ} {r r' : List ℕ} → l ≡ o ∷ r → l' ≡ o' ∷ r' → o ≢ o' → l ≢ l'
unfolding newest
differ a b n e = n (ap newest (sym a ∙ e ∙ b))
