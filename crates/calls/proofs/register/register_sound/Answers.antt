use mathlib.Core.Path.{◌∙◌, sym, refl}
use borrow.Author.Tests.{le-leb, lt-leb}
use Rattle.definitions.specs.Cells.{items_offset, nodes_offset}
use Rattle.definitions.specs.Calls.{registering}
use Rattle.endings.specs.Laws.{met_if, met_else, refuses}
use Rattle.facts.specs.Facts.{can_take_at}
use Rattle.calls.proofs.register.register_sound.Goals as goal

pub returns-then-words-value : goal.returns-then-words-value
unfolding registering
returns-then-words-value c = met_if _ (le-leb _ _ c.if-words-value.true) (refuses 7 refl)

pub returns-then-words : goal.returns-then-words
unfolding registering
returns-then-words c = met_else _ (lt-leb _ _ c.if-words-value.false) (met_if _ (le-leb _ _ c.if-words.true) (refuses 10 refl))

pub returns-then-none_left : goal.returns-then-none_left
unfolding registering
returns-then-none_left c = let ws = c.args.words.now in
    met_else _ (lt-leb _ _ c.if-words-value.false) (met_else _ (lt-leb _ _ c.if-words.false) (met_if _ (sym (c.none_left.ensures (items_offset ws) (nodes_offset ws)) ∙ c.if-none_left.true) (refuses 11 refl)))

pub returns-then-first_is_damaged : goal.returns-then-first_is_damaged
unfolding registering
returns-then-first_is_damaged c =
    let ws = c.args.words.now in let left = sym (c.none_left.ensures (items_offset ws) (nodes_offset ws)) ∙ c.if-none_left.false in
    met_else _ (lt-leb _ _ c.if-words-value.false) (met_else _ (lt-leb _ _ c.if-words.false) (met_else _ left (met_if _ (sym (rw c.nodes_offset-nodes_at.ensures at (c.first_is_damaged.ensures (items_offset ws))) ∙ c.if-first_is_damaged.true) (refuses 2 refl))))

pub register_taking-requires : goal.register_taking-requires
register_taking-requires c =
    let ws = c.args.words.now in let left = sym (c.none_left.ensures (items_offset ws) (nodes_offset ws)) ∙ c.if-none_left.false in let h = c.requires in (h, c.if-words.false, can_take_at ws h left)

pub returns : goal.returns
unfolding registering
returns c =
    let ws = c.args.words.now in let left = sym (c.none_left.ensures (items_offset ws) (nodes_offset ws)) ∙ c.if-none_left.false in
    met_else _ (lt-leb _ _ c.if-words-value.false) (met_else _ (lt-leb _ _ c.if-words.false) (met_else _ left (met_else _ (sym (rw c.nodes_offset-nodes_at.ensures at (c.first_is_damaged.ensures (items_offset ws))) ∙ c.if-first_is_damaged.false) c.register_taking.ensures)))
