use Rattle.std.proofs.Common.{eq-eqb, ne_eqb}
use Rattle.endings.specs.Laws.{met_if, met_else}
use Rattle.definitions.specs.Lines.{line_43}
use Rattle.change.proofs.line_43.Goals as goal

pub returns-then-value-words : goal.returns-then-value-words
unfolding line_43
returns-then-value-words c = let value = c.in_ok-value.ensures in
    met_else _ value.0 (rw (← value.1) (met_else _ (ne_eqb _ _ c.if-value-words.true) (record { answers = c.finish.ensures.0; leaves = c.finish.ensures.1 })))

pub returns-then-words-at : goal.returns-then-words-at
unfolding line_43
returns-then-words-at c = let value = c.in_ok-value.ensures in
    met_else _ value.0 (rw (← value.1) (met_if _ (eq-eqb _ _ c.if-value-words.false) (met_if _ (eq-eqb _ _ c.if-words-at.true) (record { answers = c.finish-then-words-at.ensures.0; leaves = c.finish-then-words-at.ensures.1 }))))

pub returns : goal.returns
unfolding line_43
returns c = let value = c.in_ok-value.ensures in
    met_else _ value.0 (rw (← value.1) (met_if _ (eq-eqb _ _ c.if-value-words.false) (met_else _ (ne_eqb _ _ c.if-words-at.false) (record { answers = c.go_on.ensures.0; leaves = c.go_on.ensures.1 }))))
