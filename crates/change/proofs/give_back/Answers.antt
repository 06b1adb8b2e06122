use mathlib.Core.Path.{ap}
use mathlib.Core.List.{List, [], ◌∷◌}
use Prim.Native.Nat.{ℕ, ◌+◌, ◌*◌}
use lib.ListN.{get_or, set}
use Rattle.definitions.specs.Cells.{node_words}
use Rattle.tables.specs.Part.{write_part, ◌gets◌}
use Rattle.change.proofs.give_back.Goals as goal

pub returns : goal.returns
returns c = λ a. let x = c.args in let ws = x.words.now in let n = get_or ws (16 + 16 * x.w + 9) 0 in
    ap (λ (l : List ℕ). set l 8 (n + 1)) (write_part ws x.nodes_at ((node_words * n + 1) gets get_or ws 8 0 ∷ []) c.write.ensures)
