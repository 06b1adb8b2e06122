use Rattle.std.proofs.Common.{eq-eqb, ne_eqb}
use Rattle.definitions.specs.Lines.{line_20}
use Rattle.endings.specs.Laws.{met_else}
use Rattle.help.proofs.line_20.Goals as goal

pub returns-then-stamp : goal.returns-then-stamp
unfolding line_20
returns-then-stamp c = let stamp = c.in_ok-stamp.ensures in
    met_else _ stamp.0 (rw (← stamp.1) (rw (eq-eqb _ _ c.if-stamp.true) (record { answers = c.go_on.ensures.0; leaves = c.go_on.ensures.1 })))

pub returns : goal.returns
unfolding line_20
returns c = let stamp = c.in_ok-stamp.ensures in
    met_else _ stamp.0 (rw (← stamp.1) (rw (ne_eqb _ _ c.if-stamp.false) (record { answers = c.go_on-2.ensures.0; leaves = c.go_on-2.ensures.1 })))
