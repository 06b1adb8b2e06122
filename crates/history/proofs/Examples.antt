-- Four runs with their one order, computed on the machine of versions: in none of them is it the order of the answers. Crate order shows these runs
-- on words (HelpedRun, LostRun, SharedRun, AbandonedRun): the order there is this one.
use Rattle.std.specs.Prelude.{◌≡◌, refl, List, [], ◌∷◌, ◌++◌, map, ℕ, replicate}
use Rattle.std.proofs.Common.{◌∙◌}
use Rattle.definitions.specs.Calls.{Call}
use Rattle.history.specs.Tools.{put}
use Rattle.history.specs.Machine.{
  Limits,
  first_free,
  node_to_take,
  used_next,
  all_but_first,
  one_taken,
  one_returned,
  after,
  total_at,
  line,
  memory_after,
  place_after,
  ended,
  turned_away,
  affect,
  settle,
  tick,
  stepped,
  stepping,
  left,
  left_off,
  abandoning,
  first_phase,
  begun,
  starting,
  registered,
  registering,
  move,
  called,
  event_move,
  happens,
  fresh,
  after_events,
}
use Rattle.history.proofs.OrderList.{slot_onto, order_to}
use Rattle.history.proofs.NotesOrder.{notes_order, notes_order_is}

-- calls in their order, the newest first when they are made
abbrev pub made : List Call → List Call → List Call
made [] done = done
made (c ∷ cs) done = made cs (c ∷ done)

abbrev pub steps : ℕ → ℕ → List Call
steps w n = replicate n (Call.step w)

abbrev pub sizes : Limits
sizes = record { workers = 3; items = 1; nodes = 4; projects = 4; counter = 16 }

-- the order of demand 2's theorem, the newest first: operations by the times of their starts
abbrev pub order_of : List Call → List ℕ
order_of cs = (notes_order sizes (map called (made cs []))).order

-- A helper stamps another's node after snapshots were taken in between. Worker 0's vCAS (1) publishes and stops. Worker 1's vRead (7) fetches its
-- node and reads the counter; worker 2's takeSnapshots (11, 14) answer 0 and 1; then worker 1 stamps the node, and answers 2. Worker 2's readSnapshot
-- (19) at handle 0 answers 2, and worker 0 answers last.
unfoldable pub helped : List Call
helped =
    Call.register 1 100 ∷ Call.v_cas 0 0 1 2 ∷ steps 0 5
    ++ (Call.v_read 1 0 ∷ steps 1 3 ++ (Call.take_snapshot 2 ∷ steps 2 2 ++ (Call.take_snapshot 2 ∷ steps 2 2
    ++ (steps 1 2 ++ (Call.read_snapshot 2 0 0 ∷ steps 2 3 ++ steps 0 2)))))

pub helped_order : order_of helped ≡ 19 ∷ 7 ∷ 14 ∷ 11 ∷ 1 ∷ 0 ∷ []
unfolding helped order_to slot_onto first_free node_to_take used_next all_but_first one_taken one_returned after total_at line memory_after
    place_after ended turned_away affect settle tick stepped stepping first_phase begun starting registered registering move event_move happens fresh
    after_events put
helped_order = notes_order_is sizes (map called (made helped [])) ∙ refl

-- A lost vCAS comes right after the first change, while a second change follows. Worker 1's vCAS(1,3) (2) is past 45 when worker 0's vCAS(1,2) (1)
-- changes the value; worker 2's vCAS(2,0) (16) changes it again; then worker 1 loses at 46, and answers 0 last.
unfoldable pub lost : List Call
lost = Call.register 1 100 ∷ Call.v_cas 0 0 1 2 ∷ Call.v_cas 1 0 1 3 ∷ steps 1 4 ++ (steps 0 9 ++ (Call.v_cas 2 0 2 0 ∷ steps 2 9 ++ steps 1 5))

pub lost_order : order_of lost ≡ 16 ∷ 2 ∷ 1 ∷ 0 ∷ []
unfolding lost order_to slot_onto first_free node_to_take used_next all_but_first one_taken one_returned after total_at line memory_after place_after
    ended turned_away affect settle tick stepped stepping first_phase begun starting registered registering move event_move happens fresh after_events put
lost_order = notes_order_is sizes (map called (made lost [])) ∙ refl

-- Two takeSnapshots share a moment. Workers 0 (1) and 1 (2) both read 0 at line 5; worker 1 moves the counter, call 5, and answers 0; worker 2's
-- vRead (6) answers; then worker 0 fails at line 6 and answers 0 last, though it too took effect at call 5.
unfoldable pub shared : List Call
shared = Call.register 1 100 ∷ Call.take_snapshot 0 ∷ Call.take_snapshot 1 ∷ Call.step 0 ∷ steps 1 2 ++ (Call.v_read 2 0 ∷ steps 2 3 ++ steps 0 1)

pub shared_order : order_of shared ≡ 6 ∷ 2 ∷ 1 ∷ 0 ∷ []
unfolding shared order_to slot_onto first_free node_to_take used_next all_but_first one_taken one_returned after total_at line memory_after
    place_after ended turned_away affect settle tick stepped stepping first_phase begun starting registered registering move event_move happens fresh
    after_events put
shared_order = notes_order_is sizes (map called (made shared [])) ∙ refl

-- A worker is abandoned after it published. Worker 0's vCAS (1) publishes at call 6 and is abandoned; worker 0 starts a takeSnapshot (8). Worker 1's
-- vRead (9) finds the node without its stamp, and stamps it: its line 21 is call 12. Then worker 2's vCAS (17) takes a node and is abandoned before 46.
unfoldable pub left_behind : List Call
left_behind =
    Call.register 1 100 ∷ Call.v_cas 0 0 1 2 ∷ steps 0 5
    ++ (Call.abandon 0 ∷ Call.take_snapshot 0 ∷ Call.v_read 1 0 ∷ steps 1 3 ++ (Call.step 0 ∷ steps 1 2 ++ (Call.step 0 ∷ Call.v_cas 2 0 2 3 ∷ steps 2 4
    ++ (Call.abandon 2 ∷ []))))

pub left_behind_order : order_of left_behind ≡ 8 ∷ 9 ∷ 1 ∷ 0 ∷ []
unfolding left_behind order_to slot_onto first_free node_to_take used_next all_but_first one_taken one_returned after total_at line memory_after
    place_after ended turned_away affect settle tick stepped stepping left left_off abandoning first_phase begun starting registered registering move
    event_move happens fresh after_events put
left_behind_order = notes_order_is sizes (map called (made left_behind [])) ∙ refl
