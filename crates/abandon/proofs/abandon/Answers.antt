use mathlib.Core.Path.{◌∙◌, sym}
use Rattle.definitions.specs.Calls.{outcome}
use Rattle.endings.specs.Laws.{met_if, met_else, refuses}
use Rattle.facts.specs.Facts.{header_sound}
use Rattle.facts.specs.Refusals.{done}
use Rattle.abandon.proofs.abandon.Goals as goal

pub returns-then-header_is_damaged : goal.returns-then-header_is_damaged
unfolding outcome
returns-then-header_is_damaged c = done (met_if _ (sym c.header_is_damaged.ensures ∙ c.if-header_is_damaged.true) (refuses 2 c.refuse.ensures))

pub abandon_sound-requires : goal.abandon_sound-requires
abandon_sound-requires c = header_sound _ (sym c.header_is_damaged.ensures ∙ c.if-header_is_damaged.false)

pub returns : goal.returns
unfolding outcome
returns c = rw c.answer_of.ensures (done (met_else _ (sym c.header_is_damaged.ensures ∙ c.if-header_is_damaged.false) c.abandon_sound.ensures))
