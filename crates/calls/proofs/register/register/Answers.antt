use mathlib.Core.Path.{◌∙◌, sym}
use Rattle.endings.specs.Laws.{met_if, met_else, refuses}
use Rattle.facts.specs.Refusals.{done}
use Rattle.facts.specs.Facts.{header_sound}
use Rattle.definitions.specs.Calls.{outcome}
use Rattle.calls.proofs.register.register.Goals as goal

pub returns-then-header_is_damaged : goal.returns-then-header_is_damaged
unfolding outcome
returns-then-header_is_damaged c = done (met_if _ (sym c.header_is_damaged.ensures ∙ c.if-header_is_damaged.true) (refuses 2 c.refuse.ensures))

pub register_sound-requires : goal.register_sound-requires
register_sound-requires c = header_sound _ (sym c.header_is_damaged.ensures ∙ c.if-header_is_damaged.false)

pub returns : goal.returns
unfolding outcome
returns c = rw c.answer_of.ensures (done (met_else _ (sym c.header_is_damaged.ensures ∙ c.if-header_is_damaged.false) c.register_sound.ensures))
