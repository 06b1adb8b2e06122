use mathlib.Core.List.{[], ◌∷◌}
use Prim.Native.Nat.{ℕ, ◌+◌, ◌*◌}
use lib.ListN.{get_or, length-take, length-drop}
use native.Mathlib.Omega.{arith}
use Rattle.tables.specs.Part.{write_part, ◌gets◌}
use Rattle.definitions.specs.Cells.{node_words, ◌≔◌, cells_at, items_offset, nodes_offset, counter, items, value, older, stamp, head, birth, size}
use Rattle.definitions.specs.Lines.{taking}
use Rattle.endings.specs.Laws.{taken_then, taken_below, as_many_written}
use Rattle.calls.proofs.register.register_taking.Goals as goal

pub make-requires : goal.make-requires
make-requires c = let ws = c.args.words.now in let a = items_offset ws in let b = nodes_offset ws in
    let below = taken_below a b ws c.requires.2 (c.next_node-taken.ensures a b) in
    let many = as_many_written a c.nodes_offset-nodes_at.result ws (taking (cells_at a c.nodes_offset-nodes_at.result ws)) (c.take_node.ensures a) in
    simp (length-take, length-drop) (omega (arith, below, many, c.requires.0, c.nodes_offset-nodes_at.ensures))

pub returns : goal.returns
returns c = let x = c.args in let ws = x.words.now in let a = c.items_offset-items_at.result in let b = c.nodes_offset-nodes_at.result in let m = cells_at a b ws in let t = c.next_node-taken.result in
    let f = write_part c.take_node.new.words b ((node_words * t + 0) gets x.value ∷ (node_words * t + 1) gets 0 ∷ (node_words * t + 2) gets get_or ws 5 0 ∷ []) c.make.ensures in
    rw (← c.nodes_offset-nodes_at.ensures, ← c.items_offset-items_at.ensures)
    (record {
      answers = c.accept.ensures;
      leaves = taken_then a b ws (taking m) (λ (n : ℕ). value n ≔ x.value ∷ older n ≔ 0 ∷ stamp n ≔ m counter ∷ head (m items) ≔ n ∷ birth (m items) ≔ m counter ∷ size (m items) ≔ x.size ∷ items ≔ (m items + 1) ∷ [])
          (c.take_node.ensures a) (c.next_node-taken.ensures a b) (rw f);
    })
