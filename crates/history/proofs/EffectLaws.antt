-- Of any notes: the list of effects has every birth and every snapshot.
use Rattle.std.proofs.Common.{ap₂, subst, inl, inr}
use Rattle.std.specs.Prelude.{List, [], ◌∷◌, ℕ, length}
use Rattle.history.specs.Definition1.{Follows}
use Rattle.history.specs.Notes.{Ending, Note, Effect, birth, snapshot}
use Rattle.history.specs.Effects.{effects}
use Rattle.history.specs.Notes as Notes
use Rattle.history.specs.Statements.{In}
use Rattle.history.proofs.EffectList.{among_insert, insert_among}

-- one more note keeps what was there
kept : (y : Effect) (x : Note) (past : List Note) → In y (effects past) → In y (effects (x ∷ past))
unfolding effects
kept y (Notes.quiet x) past a = a
kept y (Notes.registered i v s) past a = among_insert _ y (effects past) a
kept y (Notes.started w op) past a = a
kept y (Notes.stepped w line (Notes.fetches i b) e) past a = a
kept y (Notes.stepped w line (Notes.finds b) e) past a = a
kept y (Notes.stepped w line (Notes.publishes i v) e) past a = a
kept y (Notes.stepped w line (Notes.stamps i) e) past a = among_insert _ y (effects past) a
kept y (Notes.stepped w line (Notes.moves h) e) past a = among_insert _ y (effects past) a
kept y (Notes.stepped w line Notes.nothing e) past a = a
kept y (Notes.abandoned w b) past a = a

-- what a note brings stays in the longer list
brought : (y : Effect) (x : Note) (past run : List Note) → In y (effects (x ∷ past)) → Follows x past run → In y (effects run)
brought y x past [] a n = absurd n
brought y x past (z ∷ l) a (inr n) = kept y z l (brought y x past l a n)
brought y x past (z ∷ l) a (inl (p, q)) = subst (λ (l : List Note). In y (effects l)) (ap₂ (λ (x : Note) (l : List Note). x ∷ l) p q) a

pub birth_among : (i v s : ℕ) (past run : List Note) → Follows (Notes.registered i v s) past run → In (birth (length past) i v s) (effects run)
unfolding effects
birth_among i v s past run n = brought _ (Notes.registered i v s) past run (insert_among (birth (length past) i v s) (effects past)) n

pub snapshot_among : (w line h : ℕ) (e : Ending) (past run : List Note) → Follows (Notes.stepped w line (Notes.moves h) e) past run →
    In (snapshot (length past) h) (effects run)
unfolding effects
snapshot_among w line h e past run n = brought _ (Notes.stepped w line (Notes.moves h) e) past run
    (insert_among (snapshot (length past) h) (effects past)) n
