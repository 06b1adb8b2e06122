use mathlib.Core.Path.{refl, ◌∙◌, ap, sym}
use mathlib.Core.List.{List}
use Prim.Native.Nat.{ℕ, ◌+◌, ◌*◌}
use lib.ListN.{get_or}
use Rattle.definitions.specs.Lines.{line_50}
use Rattle.endings.specs.Stepped.{moved_on}
use Rattle.endings.specs.Laws.{met_if, met_else, refuses}
use Rattle.change.proofs.line_50.Goals as goal

pub returns-then-returned_is_damaged : goal.returns-then-returned_is_damaged
unfolding line_50
returns-then-returned_is_damaged c = met_if _ (sym (c.returned_is_damaged.ensures c.args.site.items_at) ∙ c.if-returned_is_damaged.true) (refuses 2 refl)

pub returns : goal.returns
unfolding line_50
returns c = let x = c.args in let ws = x.words.now in
    met_else _ (sym (c.returned_is_damaged.ensures x.site.items_at) ∙ c.if-returned_is_damaged.false)
    (record {
      answers = c.go_on.ensures.0;
      leaves =
          c.go_on.ensures.1
          ∙ ap (λ (l : List ℕ). moved_on l x.site.worker (get_or ws (16 + 16 * x.site.worker + 0) 0 + 1) (get_or ws (16 + 16 * x.site.worker + 1) 0 + 1)) (c.give_back.ensures x.site.items_at);
    })
