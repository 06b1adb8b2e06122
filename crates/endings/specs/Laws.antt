-- How a promise goes through a test, a refusal and the words of a node.
use Rattle.std.specs.Prelude.{ℕ, ◌+◌, ◌*◌, ◌-◌, ◌<◌, ◌≡◌, refl, Bool, true, false, cond, not, ◌||◌, ◌&&◌, List, [], ◌∷◌, ◌++◌, eqb, get_or, set, length}
use Rattle.std.proofs.Common.{ap, sym, ◌∙◌, length-set, arith, eqb-true, leb-false, eq-eqb}
use Rattle.std.proofs.lemmas.Bool.{eqb-false}
use Rattle.definitions.specs.declared.Answer.{Answer}
use Rattle.definitions.specs.Cells.{node_words, Cells, written, place, Assignment, cells_at, node, older, stamp}
use Rattle.definitions.specs.Answers.{Outcome, refusal, refused}
use Rattle.definitions.specs.Promises.{Met}
use Rattle.definitions.specs.Damage.{bad_time, older_damaged, node_damaged}
use Rattle.definitions.specs.Lines.{too_new, its_value, tested_node, no_node, node_to_take, taken_node}
use Rattle.tables.specs.Part.{part, read_part}
use Rattle.tables.specs.Ranges.{none_of}
use Rattle.endings.specs.Stepped.{node_tested, HasOlder, Ready, CanTake}

pub met_if : {a b : ℕ} {ws l : List ℕ} {r : Answer} {t : Bool} {o : Outcome} (other : Outcome) → t ≡ true → Met a b ws o r l → Met a b ws (cond t o other) r l
met_if other e d = rw e d

pub met_else : {a b : ℕ} {ws l : List ℕ} {r : Answer} {t : Bool} (other : Outcome) {o : Outcome} → t ≡ false → Met a b ws o r l → Met a b ws (cond t other o) r l
met_else other e d = rw e d

pub refuses : {a b : ℕ} {ws : List ℕ} {r : Answer} (n : ℕ) → r ≡ refusal n 0 → Met a b ws (refused n) r ws
refuses n e = record { answers = e; leaves = refl }

-- A word of node n, read in the node part, is that word of the whole.
pub node_word : (ws : List ℕ) (b n k : ℕ) {s : ℕ} → s ≡ get_or (part ws b) (node_words * n + k) 0 → s ≡ get_or ws (b + (node_words * n + k)) 0
node_word ws b n k e = e ∙ read_part ws b (node_words * n + k)

-- Line 34's test in the node part is its test in the whole.
pub tested_is : (a b : ℕ) (ws : List ℕ) (w : ℕ)
    → node_tested (part ws b) (get_or ws (16 + 16 * w + 8) 0) (get_or ws (16 + 16 * w + 5) 0) (get_or ws 3 0) (get_or ws 7 0) (get_or ws 5 0) ≡ tested_node (cells_at a b ws) w
tested_is a b ws w =
    let n = get_or ws (16 + 16 * w + 8) 0 in
    rw (read_part ws b (node_words * n + 0), read_part ws b (node_words * n + 1), read_part ws b (node_words * n + 2))

and_right : {s t : Bool} → s ≡ true → (s && t) ≡ false → t ≡ false
and_right {s} {t} e h = rw e at h

-- Where line 34 must go on and nothing is damaged, there is an older node.
pub older_there : (a b : ℕ) (ws : List ℕ) (w : ℕ) → tested_node (cells_at a b ws) w ≡ false → too_new (cells_at a b ws) w ≡ true → HasOlder a b w ws
older_there a b ws w e h =
    let m = cells_at a b ws in
    let o = m (older (m (node w))) in
    let second = none_of (bad_time m (m (stamp (m (node w)))) ∷ (too_new m w && (eqb o 0 || older_damaged m (m (node w)))) ∷ (not (too_new m w) && its_value m w) ∷ []) 1 e in
    let none = none_of (eqb o 0 ∷ older_damaged m (m (node w)) ∷ []) 0 (and_right h second) in
    let there = eqb-false o 0 none in
    omega (arith, there)

-- Assignments one after the other.
pub written_append : (a b : ℕ) (ws : List ℕ) (xs ys : List Assignment) → written a b ws (xs ++ ys) ≡ written a b (written a b ws xs) ys
written_append a b ws [] ys = refl
written_append a b ws (x ∷ xs) ys = written_append a b (set ws (place a b x.to) x.what) xs ys

-- What is written once a node n was taken.
pub taken_then : (a b : ℕ) (ws : List ℕ) (xs : List Assignment) (ys : ℕ → List Assignment) {taken after : List ℕ} {t n : ℕ}
    → taken ≡ written a b ws xs → t ≡ n → after ≡ written a b taken (ys t) → after ≡ written a b ws (xs ++ ys n)
taken_then a b ws xs ys {t = t} {n = n} e f h = h ∙ ap (λ (l : List ℕ). written a b l (ys t)) e ∙ ap (λ (k : ℕ). written a b (written a b ws xs) (ys k)) f ∙ sym (written_append a b ws xs (ys n))

-- Line 45's damage, as its two tests tell it.
pub taken_told : (m : Cells) (w : ℕ) {v : Bool} → no_node m ≡ false → node_damaged m (node_to_take m) ≡ v → taken_node m w ≡ v
taken_told m w e h = rw (e, h)

pub taken_none : (m : Cells) (w : ℕ) → no_node m ≡ true → taken_node m w ≡ false
taken_none m w e = rw e

-- Where a node is left, it can be taken, and is one of the N.
pub can_take : {a b w : ℕ} {ws : List ℕ} → Ready a b w ws → no_node (cells_at a b ws) ≡ false → CanTake b ws
can_take {ws = ws} r e = record {
  header = omega (arith, r.worker, r.items);
  nodes = r.nodes;
  used = r.used;
  given_back = r.given_back;
  few_nodes = r.few_nodes;
  some = λ g. leb-false _ _ (and_right (eq-eqb _ _ g) e);
}

pub taken_fits : (a b : ℕ) (ws : List ℕ) → CanTake b ws → node_to_take (cells_at a b ws) < get_or ws 2 0
taken_fits a b ws h = go (eqb (get_or ws 8 0) 0) refl
  where
    go : (t : Bool) → eqb (get_or ws 8 0) 0 ≡ t → cond t (get_or ws 7 0) (get_or ws 8 0 - 1) < get_or ws 2 0
    go true e = h.some (eqb-true _ _ e)
    go false e = let there = eqb-false (get_or ws 8 0) 0 e in omega (arith, there, h.given_back, h.used)

-- the node that is taken is one of the N
pub taken_below : (a b : ℕ) (ws : List ℕ) {t : ℕ} → CanTake b ws → t ≡ node_to_take (cells_at a b ws) → t < get_or ws 2 0
taken_below a b ws h e = let below = taken_fits a b ws h in omega (arith, e, below)

pub length_written : (a b : ℕ) (ws : List ℕ) (xs : List Assignment) → length (written a b ws xs) ≡ length ws
length_written a b ws [] = refl
length_written a b ws (x ∷ xs) = length_written a b (set ws (place a b x.to) x.what) xs ∙ length-set ws (place a b x.to) x.what

-- the words after such a list are as many
pub as_many_written : (a b : ℕ) (ws : List ℕ) (xs : List Assignment) {after : List ℕ} → after ≡ written a b ws xs → length after ≡ length ws
as_many_written a b ws xs e = ap length e ∙ length_written a b ws xs
