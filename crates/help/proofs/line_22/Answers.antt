use mathlib.Core.Path.{◌≡◌}
use mathlib.Core.Bool.{Bool, true, false, cond}
use mathlib.Core.List.{List, [], ◌∷◌}
use Prim.Native.Nat.{ℕ, ◌+◌, ◌*◌}
use lib.ListN.{get_or}
use Rattle.definitions.specs.declared.Answer.{Answer}
use Rattle.definitions.specs.Cells.{Assignment, ◌≔◌, cells_at, written, steps, stamp}
use Rattle.definitions.specs.Answers.{running, goes_on}
use Rattle.definitions.specs.Promises.{Met}
use Rattle.definitions.specs.Lines.{line_22}
use Rattle.endings.specs.Stepped.{moved_on}
use Rattle.endings.specs.Laws.{met_else}
use Rattle.help.specs.Stamps.{stamp_undecided, stamp_written}
use Rattle.help.proofs.line_22.Goals as goal

-- The line goes on at the same phase, whether it stored or not.

goes_on_alike : (a b w p : ℕ) (ws : List ℕ) (x : Assignment) (t : Bool) {r : Answer} {after : List ℕ}
    → r ≡ running (cells_at a b ws (steps w) + 1) → after ≡ moved_on (written a b ws (cond t (x ∷ []) [])) w p (cells_at a b ws (steps w) + 1)
    → Met a b ws (cond t (goes_on (cells_at a b ws) w p (x ∷ [])) (goes_on (cells_at a b ws) w p [])) r after
goes_on_alike a b w p ws x true e f = record { answers = e; leaves = f }
goes_on_alike a b w p ws x false e f = record { answers = e; leaves = f }

pub returns : goal.returns
unfolding line_22
returns c =
    let x = c.args in let a = x.site.items_at in let b = x.site.nodes_at in let w = x.site.worker in let ws = x.words.now in
    let n = get_or ws (16 + 16 * w + 8) 0 in let v = get_or ws (16 + 16 * w + 10) 0 in
    let s = c.store_stamp in let g = c.go_on.ensures in
    let f = stamp_written a b ws n v s.result s.ensures.1 in
    met_else _ c.in_ok-read_stamp.ensures.0
    (rw (← stamp_undecided a b ws n s.ensures.0)
    (goes_on_alike a b w (get_or ws (16 + 16 * w + 0) 0 + 1) ws (stamp n ≔ v) s.result g.0 (rw f at g.1)))
