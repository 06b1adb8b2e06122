use native.Mathlib.Omega.{arith}
use borrow.Author.Tests.{ne_eqb}
use Rattle.definitions.specs.Cells.{cells_at}
use Rattle.facts.specs.Facts.{item_there}
use Rattle.steps.proofs.its_item_is_damaged.Goals as goal

pub item_is_damaged-requires : goal.item_is_damaged-requires
item_is_damaged-requires c = let x = c.args in let h = c.requires in
    let i = item_there x.row (cells_at x.site.items_at x.site.nodes_at x.words.now) x.site.worker h.arguments c.if-row-eq-TAKE_SNAPSHOT.false c.if-row-eq0.false in
    (omega (arith, h.ready), omega (arith, i, h.ready))

pub returns : goal.returns
returns c = rw (ne_eqb _ _ c.if-row-eq-TAKE_SNAPSHOT.false, ne_eqb _ _ c.if-row-eq0.false) (c.item_is_damaged.ensures c.args.site.nodes_at)
