use Rattle.definitions.specs.Damage.{kept_damaged}
use Rattle.tables.proofs.damage.kept_is_damaged.Goals as goal

pub returns : goal.returns
unfolding kept_damaged
returns c = λ a b. rw (c.kept_node_is_damaged.ensures a b, c.kept_new_node_is_damaged.ensures a b, c.kept_time_is_damaged.ensures a b)
