use mathlib.Core.Path.{◌∙◌, sym}
use mathlib.Core.List.{List}
use mathlib.Core.Bool.{Bool, true, false, cond}
use Prim.Native.Nat.{ℕ, ◌+◌, ◌*◌}
use lib.Dec.{eqb}
use lib.ListN.{get_or}
use borrow.Author.Tests.{eq-eqb, ne_eqb, lt-ltb, le-ltb}
use Rattle.definitions.specs.declared.Answer.{Answer}
use Rattle.definitions.specs.Lines.{line, line_34, total_34, tested_node}
use Rattle.endings.specs.Stepped.{Steps}
use Rattle.endings.specs.Laws.{met_if, met_else, node_word, tested_is}
use Rattle.walk.proofs.total.line_34.Goals as goal

-- What both operations do at line 34, whichever it is.

by_either : (a b w : ℕ) (ws : List ℕ) {after : List ℕ} {r : Answer} (t : Bool)
    → Steps (line tested_node total_34) a b w ws r after → Steps (line tested_node line_34) a b w ws r after
    → Steps (cond t (line tested_node total_34) (line tested_node line_34)) a b w ws r after
by_either a b w ws true p q = p
by_either a b w ws false p q = q

pub returns-then-handle-stamp : goal.returns-then-handle-stamp
unfolding line_34 total_34
returns-then-handle-stamp c = let x = c.args in let ws = x.words.now in
    let e = node_word ws x.site.nodes_at (get_or ws (16 + 16 * x.site.worker + 8) 0) 2 c.word-stamp.ensures in
    let sound = sym (tested_is x.site.items_at x.site.nodes_at ws x.site.worker) ∙ sym (rw c.limits-limits.ensures at c.tested_is_damaged.ensures) ∙ c.if-tested_is_damaged.false in
    let new = lt-ltb _ _ (rw e at c.if-handle-stamp.true) in
    by_either x.site.items_at x.site.nodes_at x.site.worker ws (eqb x.operation 5) (met_else _ sound (met_if _ new c.go_to_older.ensures)) (met_else _ sound (met_if _ new c.go_to_older.ensures))

pub returns-then-operation-eq-TOTAL : goal.returns-then-operation-eq-TOTAL
unfolding line_34 total_34
returns-then-operation-eq-TOTAL c = let x = c.args in let ws = x.words.now in
    let e = node_word ws x.site.nodes_at (get_or ws (16 + 16 * x.site.worker + 8) 0) 2 c.word-stamp.ensures in
    let v = node_word ws x.site.nodes_at (get_or ws (16 + 16 * x.site.worker + 8) 0) 0 c.word-value.ensures in
    rw (eq-eqb x.operation 5 c.if-operation-eq-TOTAL.true)
    (met_else _ (sym (tested_is x.site.items_at x.site.nodes_at ws x.site.worker) ∙ sym (rw c.limits-limits.ensures at c.tested_is_damaged.ensures) ∙ c.if-tested_is_damaged.false)
    (met_else _ (le-ltb _ _ (rw e at c.if-handle-stamp.false)) (rw (← v) (record { answers = c.add_item.ensures.0; leaves = c.add_item.ensures.1 }))))

pub returns : goal.returns
unfolding line_34 total_34
returns c = let x = c.args in let ws = x.words.now in
    let e = node_word ws x.site.nodes_at (get_or ws (16 + 16 * x.site.worker + 8) 0) 2 c.word-stamp.ensures in
    let v = node_word ws x.site.nodes_at (get_or ws (16 + 16 * x.site.worker + 8) 0) 0 c.word-value.ensures in
    rw (ne_eqb x.operation 5 c.if-operation-eq-TOTAL.false)
    (met_else _ (sym (tested_is x.site.items_at x.site.nodes_at ws x.site.worker) ∙ sym (rw c.limits-limits.ensures at c.tested_is_damaged.ensures) ∙ c.if-tested_is_damaged.false)
    (met_else _ (le-ltb _ _ (rw e at c.if-handle-stamp.false)) (rw (← v) (record { answers = c.finish.ensures.0; leaves = c.finish.ensures.1 }))))
