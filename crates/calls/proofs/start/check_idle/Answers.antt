use Rattle.std.proofs.Common.{sym, ◌∙◌, arith}
use Rattle.facts.specs.Facts.{header_sound}
use Rattle.calls.proofs.start.check_idle.Goals as goal

pub bounds-words-0 : goal.bounds-words-0
bounds-words-0 c = let header = header_sound _ (sym c.header_is_damaged.ensures ∙ c.if-header_is_damaged.false) in omega (arith, header)

pub bounds-words-w : goal.bounds-words-w
bounds-words-w c = let header = header_sound _ (sym c.header_is_damaged.ensures ∙ c.if-header_is_damaged.false) in omega (arith, header, c.if-words-worker.false)

pub busy_reason-requires : goal.busy_reason-requires
busy_reason-requires c = let header = header_sound _ (sym c.header_is_damaged.ensures ∙ c.if-header_is_damaged.false) in omega (arith, header, c.if-words-worker.false)
