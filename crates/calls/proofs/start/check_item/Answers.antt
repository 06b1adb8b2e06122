use Rattle.std.proofs.Common.{sym, ◌∙◌}
use Rattle.std.proofs.lemmas.Bool.{lt-leb}
use Rattle.definitions.specs.Cells.{nodes_offset}
use Rattle.calls.proofs.start.check_item.Goals as goal

pub returns-then-item_is_damaged : goal.returns-then-item_is_damaged
returns-then-item_is_damaged c = let ws = c.args.words.now in
    rw (lt-leb _ _ c.if-words-item.false, sym (rw c.items_offset.ensures at (c.item_is_damaged.ensures (nodes_offset ws))) ∙ c.if-item_is_damaged.true)

pub returns : goal.returns
returns c = let ws = c.args.words.now in
    rw (lt-leb _ _ c.if-words-item.false, sym (rw c.items_offset.ensures at (c.item_is_damaged.ensures (nodes_offset ws))) ∙ c.if-item_is_damaged.false)
