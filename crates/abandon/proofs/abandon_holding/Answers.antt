use mathlib.Core.Path.{refl, ◌∙◌, sym}
use Rattle.definitions.specs.Cells.{cells_at}
use Rattle.definitions.specs.Lines.{returning}
use Rattle.endings.specs.Laws.{met_if, met_else, refuses}
use Rattle.abandon.specs.Abandoned.{then_cleared}
use Rattle.abandon.proofs.abandon_holding.Goals as goal

pub returns-then-returned_is_damaged : goal.returns-then-returned_is_damaged
returns-then-returned_is_damaged c = λ a. met_if _ (sym (c.returned_is_damaged.ensures a) ∙ c.if-returned_is_damaged.true) (refuses 2 refl)

pub returns : goal.returns
returns c = λ a. let x = c.args in let ws = x.words.now in
    met_else _ (sym (c.returned_is_damaged.ensures a) ∙ c.if-returned_is_damaged.false)
    (record {
      answers = c.clear.ensures.0;
      leaves = then_cleared a x.nodes_at ws (returning (cells_at a x.nodes_at ws) x.w) x.w (c.give_back.ensures a) c.clear.ensures.1;
    })
