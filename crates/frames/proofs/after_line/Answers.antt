use Rattle.frames.specs.LineLaws.{after_feed, after_end}
use Rattle.frames.proofs.after_line.Goals as goal

pub returns-then-n-text : goal.returns-then-n-text
returns-then-n-text c = after_feed _ _ c.line_length-n.ensures.0

pub returns : goal.returns
returns c = after_end _ _ c.line_length-n.ensures.0 c.if-n-text.false
