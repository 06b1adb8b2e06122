use Rattle.tables.specs.Ranges.{neither}
use mathlib.Core.Path.{refl, ◌∙◌, sym}
use mathlib.Core.List.{[], ◌∷◌}
use lib.Dec.{ltb}
use lib.ListN.{length, drop}
use borrow.Author.Tests.{lt-ltb, le-ltb}
use Rattle.definitions.specs.Cells.{needed}
use Rattle.definitions.specs.Damage.{any_of, sizes_outside}
use Rattle.definitions.specs.Calls.{outcome, making}
use Rattle.tables.specs.Ranges.{some_of}
use Rattle.facts.specs.Refusals.{done_if, done_else}
use Rattle.std.proofs.lemmas.List.{length-take-le}
use Rattle.calls.specs.Zeros.{sizes_written}
use native.Mathlib.Omega.{arith}
use Rattle.calls.proofs.make.make.Goals as goal

pub returns-then-sizes_beyond : goal.returns-then-sizes_beyond
unfolding outcome making
returns-then-sizes_beyond c = let x = c.args in
    done_if _ (some_of (any_of (sizes_outside x.workers x.items x.nodes x.projects x.counter) ∷ ltb (length x.words.now) (needed x.workers x.items x.nodes) ∷ []) 0 (sym c.sizes_beyond.ensures ∙ c.if-sizes_beyond.true))
    (record { answers = c.refuse.ensures; leaves = refl })

pub returns-then-words-needed : goal.returns-then-words-needed
unfolding outcome making
returns-then-words-needed c = let x = c.args in
    done_if _ (some_of (any_of (sizes_outside x.workers x.items x.nodes x.projects x.counter) ∷ ltb (length x.words.now) (needed x.workers x.items x.nodes) ∷ []) 1 (lt-ltb _ _ (rw c.words_needed-needed.ensures at c.if-words-needed.true)))
    (record { answers = c.refuse-then-words-needed.ensures; leaves = refl })

pub returns : goal.returns
unfolding outcome making
returns c = let x = c.args in let ws = x.words.now in let k = needed x.workers x.items x.nodes in
    let e = c.words_needed-needed.ensures in
    done_else _ (neither (any_of (sizes_outside x.workers x.items x.nodes x.projects x.counter)) (ltb (length ws) k) (sym c.sizes_beyond.ensures ∙ c.if-sizes_beyond.false) (le-ltb (length ws) k (rw e at c.if-words-needed.false)))
    (record { answers = c.accept.ensures; leaves = rw (c.fill.ensures.after (λ y h. h), length-take-le c.words_needed-needed.result ws c.if-words-needed.false, e) (sizes_written k (drop k ws) x.workers x.items x.nodes x.projects x.counter (omega arith)) })
