use mathlib.Core.Path.{sym}
use Rattle.tables.specs.Ranges.{short_damaged}
use Rattle.tables.proofs.damage.header_is_damaged.Goals as goal

pub returns-then-words-lt-HEADER_WORDS : goal.returns-then-words-lt-HEADER_WORDS
returns-then-words-lt-HEADER_WORDS c = sym (short_damaged _ _ _ _ _ _ _ _ _ _ c.if-words-lt-HEADER_WORDS.true)
