use Prim.Native.Nat.{ℕ, ◌<◌, ◌≤◌}
use lib.Dec.{eqb}
use mathlib.Core.Path.{refl, ◌≡◌}
use mathlib.Core.Bool.{false}
use native.Mathlib.Omega.{arith}
use borrow.Author.Tests.{ne_eqb}
use Rattle.definitions.specs.Damage.{running_damaged, kept_damaged}
use Rattle.tables.proofs.damage.running_is_damaged.Goals as goal

-- A line below 20 keeps nothing.

below : (l k : ℕ) → l < 20 → 20 ≤ k → eqb l k ≡ false
below l k h from = ne_eqb l k (λ e. omega (arith, e, h, from))

pub returns-then-arguments_are_damaged : goal.returns-then-arguments_are_damaged
unfolding running_damaged
returns-then-arguments_are_damaged c = λ a b. rw (← c.arguments_are_damaged.ensures a b, c.if-arguments_are_damaged.true) refl

pub returns-then-row-lt20 : goal.returns-then-row-lt20
unfolding running_damaged kept_damaged
returns-then-row-lt20 c = λ a b. let l = c.args.row.line in let h = c.if-row-lt20.true in
    rw (
      ← c.arguments_are_damaged.ensures a b,
      c.if-arguments_are_damaged.false,
      below l 20 h (omega arith),
      below l 21 h (omega arith),
      below l 22 h (omega arith),
      below l 34 h (omega arith),
      below l 39 h (omega arith),
      below l 43 h (omega arith),
      below l 45 h (omega arith),
      below l 46 h (omega arith),
      below l 50 h (omega arith),
    ) refl

pub returns-then-kept_node_is_damaged : goal.returns-then-kept_node_is_damaged
unfolding running_damaged kept_damaged
returns-then-kept_node_is_damaged c = λ a b. rw (← c.arguments_are_damaged.ensures a b, c.if-arguments_are_damaged.false, ← c.kept_node_is_damaged.ensures a b, c.if-kept_node_is_damaged.true) refl

pub returns-then-kept_new_node_is_damaged : goal.returns-then-kept_new_node_is_damaged
unfolding running_damaged kept_damaged
returns-then-kept_new_node_is_damaged c = λ a b. rw (← c.arguments_are_damaged.ensures a b, c.if-arguments_are_damaged.false, ← c.kept_node_is_damaged.ensures a b, c.if-kept_node_is_damaged.false, ← c.kept_new_node_is_damaged.ensures a b, c.if-kept_new_node_is_damaged.true) refl

pub returns : goal.returns
unfolding running_damaged kept_damaged
returns c = λ a b. rw (← c.arguments_are_damaged.ensures a b, c.if-arguments_are_damaged.false, ← c.kept_node_is_damaged.ensures a b, c.if-kept_node_is_damaged.false, ← c.kept_new_node_is_damaged.ensures a b, c.if-kept_new_node_is_damaged.false, ← c.kept_time_is_damaged.ensures a b) refl
