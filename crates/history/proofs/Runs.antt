-- Runs of document 01 on the machine of versions, computed: it is not hollow.
use Rattle.std.specs.Prelude.{◌≡◌, refl, List, [], ◌∷◌, ◌++◌, ℕ, zero, suc, replicate}
use Rattle.definitions.specs.declared.Answer.{Answer}
use Rattle.definitions.specs.Answers.{finished, running, accepted, refusal}
use Rattle.definitions.specs.Calls.{Call}
use Rattle.history.specs.Tools.{put}
use Rattle.history.specs.Machine.{
  Limits,
  Catalogue,
  first_free,
  node_to_take,
  used_next,
  all_but_first,
  one_taken,
  one_returned,
  after,
  total_at,
  line,
  memory_after,
  place_after,
  ended,
  turned_away,
  affect,
  settle,
  tick,
  stepped,
  stepping,
  first_phase,
  begun,
  starting,
  registered,
  registering,
  move,
  call,
  reply,
  fresh,
}

abbrev sizes : (p m n q c : ℕ) → Limits
sizes p m n q c = record { workers = p; items = m; nodes = n; projects = q; counter = c }

-- the answers to calls given in their order
unfoldable pub replies : Catalogue → List Call → List Answer
replies s [] = []
replies s (x ∷ cs) = reply s x ∷ replies (call s x) cs

abbrev steps : ℕ → ℕ → List Call
steps w n = replicate n (Call.step w)

-- a running vCAS's answers, from its first step on
abbrev goes : ℕ → ℕ → List Answer
goes k zero = []
goes k (suc n) = running k ∷ goes (suc k) n

abbrev born : Answer
born = accepted 0

-- runs 1 to 4
run_1 : replies (fresh (sizes 2 2 8 4 16)) (Call.register 1 100 ∷ Call.v_read 0 0 ∷ steps 0 3) ≡ born ∷ accepted 0 ∷ goes 1 2 ++ (finished 1 3 ∷ [])
unfolding replies first_free node_to_take used_next all_but_first one_taken one_returned after total_at line memory_after place_after ended
    turned_away affect settle tick stepped stepping first_phase begun starting registered registering move call reply fresh put
run_1 = refl

run_2 : replies (fresh (sizes 2 2 8 4 16)) (Call.register 1 100 ∷ Call.v_cas 0 0 1 2 ∷ steps 0 9) ≡ born ∷ accepted 0 ∷ goes 1 8 ++ (finished 1 9 ∷ [])
unfolding replies first_free node_to_take used_next all_but_first one_taken one_returned after total_at line memory_after place_after ended
    turned_away affect settle tick stepped stepping first_phase begun starting registered registering move call reply fresh put
run_2 = refl

-- run 8: worker 0 stops after 21; worker 1 takes handle 0, starts readSnapshot, does 32 and 20; worker 0 does 22; the read answers 2 in 5
run_8 : replies (fresh (sizes 2 2 8 4 16))
    (Call.register 1 100 ∷ Call.v_cas 0 0 1 2 ∷ steps 0 7 ++ (Call.take_snapshot 1 ∷ steps 1 2 ++ (Call.read_snapshot 1 0 0 ∷ steps 1 2 ++ (Call.step 0 ∷ steps 1 3))))
    ≡ born ∷ accepted 0 ∷ goes 1 7
    ++ (accepted 0 ∷ running 1 ∷ finished 0 2 ∷ accepted 0 ∷ running 1 ∷ running 2 ∷ running 8 ∷ running 3 ∷ running 4 ∷ finished 2 5 ∷ [])
unfolding replies first_free node_to_take used_next all_but_first one_taken one_returned after total_at line memory_after place_after ended
    turned_away affect settle tick stepped stepping first_phase begun starting registered registering move call reply fresh put
run_8 = refl

-- run 10: N = 1: vCAS(1,2) is refused 11 at step 4
run_10 : replies (fresh (sizes 2 2 1 4 16)) (Call.register 1 100 ∷ Call.v_cas 0 0 1 2 ∷ steps 0 4 ++ (Call.register 1 1 ∷ Call.step 0 ∷ []))
    ≡ born ∷ accepted 0 ∷ goes 1 3 ++ (refusal 11 4 ∷ refusal 11 0 ∷ refusal 5 0 ∷ [])
unfolding replies first_free node_to_take used_next all_but_first one_taken one_returned after total_at line memory_after place_after ended
    turned_away affect settle tick stepped stepping first_phase begun starting registered registering move call reply fresh put
run_10 = refl

-- run 13: C = 1: handle 0, then 12 in 1 step; run 15: a total of no items at handle 0 is 0 in 1 step
run_13 : replies (fresh (sizes 1 2 1 4 1))
    (Call.take_snapshot 0 ∷ steps 0 2 ++ (Call.take_snapshot 0 ∷ Call.step 0 ∷ Call.total 0 1 0 ∷ Call.step 0 ∷ Call.step 1 ∷ []))
    ≡ accepted 0 ∷ running 1 ∷ finished 0 2 ∷ accepted 0 ∷ refusal 12 1 ∷ accepted 0 ∷ finished 0 1 ∷ refusal 3 0 ∷ []
unfolding replies first_free node_to_take used_next all_but_first one_taken one_returned after total_at line memory_after place_after ended
    turned_away affect settle tick stepped stepping first_phase begun starting registered registering move call reply fresh put
run_13 = refl
