-- The limits of a node's words, in the header.
use Rattle.std.specs.Prelude.{ℕ, List, get_or}
use Rattle.tables.specs.declared.limits.NodeLimits.{NodeLimits}

abbrev pub limits_of : List ℕ → NodeLimits
limits_of ws = record { projects = get_or ws 3 0; used = get_or ws 7 0; counter = get_or ws 5 0 }
