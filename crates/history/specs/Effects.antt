-- The list of effects of a run, computed from its notes. What it is, the promises say (Statements): in time order, no two at one time, and exactly the
-- effects that the run tells of.
use Rattle.std.specs.Prelude.{cond, List, [], ◌∷◌, ℕ, ltb, eqb, length}
use Rattle.history.specs.Notes.{
  fetches,
  finds,
  publishes,
  stamps,
  moves,
  nothing,
  Note,
  quiet,
  registered,
  started,
  stepped,
  abandoned,
  ledger,
  Effect,
  birth,
  change,
  snapshot,
  time,
}

-- into its place by time
unfoldable pub insert : Effect → List Effect → List Effect
insert x [] = x ∷ []
insert x (y ∷ l) = cond (ltb (time x) (time y)) (y ∷ insert x l) (x ∷ y ∷ l)

-- the value of the head of item i, and when it was published
unfoldable pub last_published : ℕ → List Note → ℕ × ℕ
last_published i [] = (0, 0)
last_published i (quiet x ∷ past) = last_published i past
last_published i (registered k v s ∷ past) = cond (eqb i k) (v, length past) (last_published i past)
last_published i (started w op ∷ past) = last_published i past
last_published i (stepped w line (fetches k b) e ∷ past) = last_published i past
last_published i (stepped w line (finds b) e ∷ past) = last_published i past
last_published i (stepped w line (publishes k v) e ∷ past) = cond (eqb i k) (v, length past) (last_published i past)
last_published i (stepped w line (stamps k) e ∷ past) = last_published i past
last_published i (stepped w line (moves h) e ∷ past) = last_published i past
last_published i (stepped w line nothing e ∷ past) = last_published i past
last_published i (abandoned w held ∷ past) = last_published i past

-- when worker w stepped last
abbrev pub last_step : ℕ → List Note → ℕ
last_step w past = ((ledger past).fate ((ledger past).current w)).at

-- The list of effects. A change takes effect at the line 21 whose line 22 stamped its node: the step before that, of the same worker.
unfoldable pub effects : List Note → List Effect
effects [] = []
effects (quiet x ∷ past) = effects past
effects (registered i v s ∷ past) = insert (birth (length past) i v s) (effects past)
effects (started w op ∷ past) = effects past
effects (stepped w line (fetches i b) e ∷ past) = effects past
effects (stepped w line (finds b) e ∷ past) = effects past
effects (stepped w line (publishes i v) e ∷ past) = effects past
effects (stepped w line (stamps i) e ∷ past) = let h = last_published i past in insert (change (last_step w past) i h.0 h.1) (effects past)
effects (stepped w line (moves h) e ∷ past) = insert (snapshot (length past) h) (effects past)
effects (stepped w line nothing e ∷ past) = effects past
effects (abandoned w held ∷ past) = effects past
