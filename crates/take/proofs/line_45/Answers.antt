use lib.ListN.{length-take, length-drop}
use mathlib.Core.Path.{◌≡◌, refl, ◌∙◌, sym}
use mathlib.Core.List.{[], ◌∷◌, append_assoc}
use Prim.Native.Nat.{ℕ, ◌+◌, ◌*◌}
use Rattle.endings.specs.Laws.{met_if, met_else, refuses}
use mathlib.Core.Bool.{true}
use Rattle.tables.specs.Part.{write_part, ◌gets◌}
use Rattle.definitions.specs.Cells.{node_words, ◌≔◌, cells_at, phase, steps, new, node, new_node, value, older, stamp}
use Rattle.definitions.specs.Lines.{line_45, no_node, taking}
use Rattle.endings.specs.Laws.{taken_then, taken_told, taken_none, can_take, taken_below, as_many_written}
use Rattle.tables.specs.Ranges.{outside_is}
use native.Mathlib.Omega.{arith}
use borrow.Author.Rules.{rules}
use Rattle.take.proofs.line_45.Goals as goal

pub returns-then-none_left : goal.returns-then-none_left
unfolding line_45
returns-then-none_left c = let x = c.args in let m = cells_at x.site.items_at x.site.nodes_at x.words.now in
    let e : no_node m ≡ true = sym (c.none_left.ensures x.site.items_at x.site.nodes_at) ∙ c.if-none_left.true in
    met_else _ (taken_none m x.site.worker e) (met_if _ e (record { answers = c.end_with.ensures.0; leaves = c.end_with.ensures.1 }))

pub node_is_damaged-requires : goal.node_is_damaged-requires
node_is_damaged-requires c = let x = c.args in let a = x.site.items_at in let b = x.site.nodes_at in
    let left = sym (c.none_left.ensures a b) ∙ c.if-none_left.false in
    let below = taken_below a b x.words.now (can_take c.requires.0 left) (c.next_node-taken.ensures a b) in search rules

pub returns-then-node_is_damaged : goal.returns-then-node_is_damaged
unfolding line_45
returns-then-node_is_damaged c = let x = c.args in let ws = x.words.now in let a = x.site.items_at in let b = x.site.nodes_at in let m = cells_at a b ws in
    let left = sym (c.none_left.ensures a b) ∙ c.if-none_left.false in
    let e = c.next_node-taken.ensures a b in
    let d = sym (outside_is a b ws c.next_node-taken.result) ∙ sym (rw c.limits-limits.ensures at c.node_is_damaged.ensures) ∙ c.if-node_is_damaged.true in
    met_if _ (taken_told m x.site.worker left (rw e at d)) (refuses 2 refl)

pub take_node-requires : goal.take_node-requires
take_node-requires c = let x = c.args in can_take c.requires.0 (sym (c.none_left.ensures x.site.items_at x.site.nodes_at) ∙ c.if-none_left.false)

pub make-requires : goal.make-requires
make-requires c = let x = c.args in let ws = x.words.now in let a = x.site.items_at in let b = x.site.nodes_at in
    let left = sym (c.none_left.ensures a b) ∙ c.if-none_left.false in
    let below = taken_below a b ws (can_take c.requires.0 left) (c.next_node-taken.ensures a b) in
    let many = as_many_written a b ws (taking (cells_at a b ws)) (c.take_node.ensures a) in
    simp (length-take, length-drop) (omega (arith, below, many, c.requires.0))

pub returns : goal.returns
unfolding line_45
returns c = let x = c.args in let ws = x.words.now in let a = x.site.items_at in let b = x.site.nodes_at in let m = cells_at a b ws in let t = c.next_node-taken.result in
    let left = sym (c.none_left.ensures a b) ∙ c.if-none_left.false in
    let e = c.next_node-taken.ensures a b in
    let d = sym (outside_is a b ws t) ∙ sym (rw c.limits-limits.ensures at c.node_is_damaged.ensures) ∙ c.if-node_is_damaged.false in
    let f = write_part c.take_node.new.words b ((node_words * t + 0) gets m (new x.site.worker) ∷ (node_words * t + 1) gets (m (node x.site.worker) + 1) ∷ (node_words * t + 2) gets 4294967295 ∷ []) c.make.ensures in
    met_else _ (taken_told m x.site.worker left (rw e at d)) (met_else _ left (record {
      answers = c.go_on.ensures.0;
      leaves = rw (append_assoc) (taken_then a b ws (taking m) (λ (n : ℕ). value n ≔ m (new x.site.worker) ∷ older n ≔ (m (node x.site.worker) + 1) ∷ stamp n ≔ 4294967295 ∷ new_node x.site.worker ≔ n ∷ phase x.site.worker ≔ (m (phase x.site.worker) + 1) ∷ steps x.site.worker ≔ (m (steps x.site.worker) + 1) ∷ [])
          (c.take_node.ensures a) e (rw f at c.go_on.ensures.1));
    }))
