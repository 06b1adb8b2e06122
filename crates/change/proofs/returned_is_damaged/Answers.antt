use Prim.Native.Nat.{◌+◌, ◌*◌}
use lib.ListN.{get_or}
use borrow.Author.Tests.{le-ltb}
use Rattle.endings.specs.Laws.{node_word}
use Rattle.change.proofs.returned_is_damaged.Goals as goal

pub returns : goal.returns
returns c = λ a. let x = c.args in let ws = x.words.now in
    let e = node_word ws x.nodes_at (get_or ws (16 + 16 * x.w + 9) 0) 1 c.word-link.ensures in
    rw (← e, le-ltb _ _ c.if-words-link.false) (c.first_is_damaged.ensures a)
