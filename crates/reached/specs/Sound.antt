-- Words in their ranges are not damaged: each test of document 01's list, from the range that it tests.
use Rattle.std.specs.Prelude.{ℕ, ◌<◌, ◌≤◌, Bool, true, false, cond, ◌||◌, ◌&&◌, List, [], ◌∷◌, ◌⊎◌, ◌≡◌, refl, ltb, leb, eqb}
use Rattle.std.proofs.Common.{inl, inr, arith}
use borrow.Author.Tests.{le-ltb, lt-leb, eq-eqb, ne_eqb}
use Rattle.definitions.specs.declared.PhaseRow.{PhaseRow}
use Rattle.definitions.specs.Cells.{Cells, workers, projects, counter_limit, counter, items, used, phase, steps, item, old, new, handle, project, noted, node, new_node, seen, head, birth, value, older, stamp, needed}
use Rattle.definitions.specs.Phases.{row, row_of}
use Rattle.definitions.specs.Damage.{TBD, any_of, any_from, outside, header_damaged_at, bad_value, bad_handle, bad_item, inside_item, sum, arguments_damaged, keeps_node, keeps_new_node, kept_damaged, running_damaged, before_step, bad_stamp, item_damaged, stamp_damaged, node_damaged}
use Rattle.definitions.specs.Lines.{line_of_phase}
use Rattle.definitions.specs.Calls.{stepping}

-- No test of a list holds.
pub data NoneHolds : List Bool → Type 0 where
  none : NoneHolds []
  but : {t : Bool} {ts : List Bool} → t ≡ false → NoneHolds ts → NoneHolds (t ∷ ts)

pub none_of : {ts : List Bool} → NoneHolds ts → any_of ts ≡ false
none_of none = refl
none_of (but {t} {ts} e h) = from t ts e h
  where
    from : (a : Bool) (ts : List Bool) → a ≡ false → NoneHolds ts → any_from a ts ≡ false
    from a [] e none = e
    from a (t ∷ ts) e (but g h) = from (a || t) ts (rw (e, g)) h

pub neither : (a b : Bool) → a ≡ false → b ≡ false → a || b ≡ false
neither a b e f = rw (e, f)

-- A range that is asked for only where a test says so.
abbrev pub Where : Bool → Type 0 → Type 0
Where true A = A
Where false A = Unit {0}

pub anyway : (b : Bool) {A : Type 0} → A → Where b A
anyway true x = x
anyway false x = tt

only_where : (b t : Bool) → Where b (t ≡ false) → b && t ≡ false
only_where true t h = h
only_where false t h = refl

when : (b : Bool) {A B : Type 0} → (A → B) → Where b A → Where b B
when true g x = g x
when false g x = tt

-- The ranges of an operation's arguments.
pub record TotalFits (inside : Bool) (f : Cells) (w : ℕ) : Type 0 where
  pub project_in : f (project w) < f projects
  pub handle_in : f (handle w) < f counter
  pub noted_in : f (noted w) ≤ f items
  pub place_in : f (item w) ≤ f (noted w)
  pub inside_in : Where inside (f (item w) < f (noted w))
  pub sum_in : sum f w ≤ 1099511627776

abbrev pub OneOf : (v_read v_cas take_snapshot read_snapshot : Bool) (a b c d : Type 0) → Type 0
OneOf true v t r a b c d = a
OneOf false true t r a b c d = b
OneOf false false true r a b c d = Unit {0}
OneOf false false false true a b c d = c
OneOf false false false false a b c d = d

abbrev pub ArgumentsFit : PhaseRow → Cells → ℕ → Type 0
ArgumentsFit r f w =
    OneOf (eqb r.operation 1) (eqb r.operation 2) (eqb r.operation 3) (eqb r.operation 4)
    (f (item w) < f items)
    ((f (item w) < f items) × (f (old w) < f projects) × (f (new w) < f projects))
    ((f (item w) < f items) × (f (handle w) < f counter))
    (TotalFits (inside_item r) f w)

arguments_sound : (r : PhaseRow) (f : Cells) (w : ℕ) → ArgumentsFit r f w → arguments_damaged r f w ≡ false
unfolding arguments_damaged
arguments_sound r f w = at (eqb r.operation 1) (eqb r.operation 2) (eqb r.operation 3) (eqb r.operation 4)
  where
    at : (a b c d : Bool)
        → OneOf a b c d (f (item w) < f items) ((f (item w) < f items) × (f (old w) < f projects) × (f (new w) < f projects))
        ((f (item w) < f items) × (f (handle w) < f counter)) (TotalFits (inside_item r) f w)
        → cond a (bad_item f (f (item w)))
        (cond b (any_of (bad_item f (f (item w)) ∷ bad_value f (f (old w)) ∷ bad_value f (f (new w)) ∷ []))
        (cond c false
        (cond d (any_of (bad_item f (f (item w)) ∷ bad_handle f (f (handle w)) ∷ []))
        (any_of (bad_value f (f (project w)) ∷ bad_handle f (f (handle w)) ∷ ltb (f items) (f (noted w)) ∷ ltb (f (noted w)) (f (item w))
        ∷ (inside_item r && leb (f (noted w)) (f (item w))) ∷ ltb 1099511627776 (sum f w) ∷ []))))) ≡ false
    at true b c d h = lt-leb _ _ h
    at false true c d h = none_of (but (lt-leb _ _ h.0) (but (lt-leb _ _ h.1) (but (lt-leb _ _ h.2) (none))))
    at false false true d h = refl
    at false false false true h = none_of (but (lt-leb _ _ h.0) (but (lt-leb _ _ h.1) (none)))
    at false false false false h =
        none_of (but (lt-leb _ _ h.project_in) (but (lt-leb _ _ h.handle_in)
        (but (le-ltb _ _ h.noted_in) (but (le-ltb _ _ h.place_in)
        (but (only_where (inside_item r) _ (when (inside_item r) (λ l. lt-leb _ _ l) h.inside_in)) (but (le-ltb _ _ h.sum_in) (none)))))))

-- The ranges of what its lines keep, by the source line of its phase.
pub record KeptFits (l : ℕ) (f : Cells) (w : ℕ) : Type 0 where
  pub node_in : Where (keeps_node (row 0 l false)) (f (node w) < f used)
  pub new_node_in : Where (keeps_new_node (row 0 l false)) (f (new_node w) < f used)
  pub seen_in : Where (eqb l 22) (f (seen w) ≤ f counter)
  pub seen_below : Where (eqb l 6) (f (seen w) < f counter_limit)

pub record RunningFits (r : PhaseRow) (f : Cells) (w : ℕ) : Type 0 where
  pub few_steps : f (steps w) ≤ 5120
  pub arguments_in : ArgumentsFit r f w
  pub kept_in : KeptFits r.line f w

pub running_sound : (r : PhaseRow) (f : Cells) (w : ℕ) → RunningFits r f w → running_damaged r f w ≡ false
unfolding running_damaged kept_damaged
running_sound r f w h =
    neither _ _ (arguments_sound r f w h.arguments_in)
    (none_of (but (only_where (keeps_node r) _ (when (keeps_node r) (λ l. lt-leb _ _ l) h.kept_in.node_in))
    (but (only_where (keeps_new_node r) _ (when (keeps_new_node r) (λ l. lt-leb _ _ l) h.kept_in.new_node_in))
    (but (only_where (eqb r.line 22) _ (when (eqb r.line 22) (λ l. le-ltb _ _ l) h.kept_in.seen_in)) (none)))))

-- The two tests that only a step has.
pub step_sound : (r : PhaseRow) (f : Cells) (w : ℕ) → RunningFits r f w → before_step r f w ≡ false
step_sound r f w h =
    neither _ _ (le-ltb _ _ h.few_steps) (only_where (eqb r.line 6) _ (when (eqb r.line 6) (λ l. lt-leb _ _ l) h.kept_in.seen_below))

-- A stamp, an item's record, and a node's words.
stamp_in : (f : Cells) (t : ℕ) → (t ≤ f counter) ⊎ (t ≡ TBD) → bad_stamp f t ≡ false
stamp_in f t (inl h) = rw (le-ltb (f counter) t h)
stamp_in f t (inr h) = rw (eq-eqb t TBD h) (and_false (ltb (f counter) t))
  where
    and_false : (b : Bool) → b && false ≡ false
    and_false true = refl
    and_false false = refl

pub item_sound : (f : Cells) (i : ℕ) → f (head i) < f used → f (birth i) ≤ f counter → item_damaged f i ≡ false
item_sound f i h b = neither _ _ (lt-leb _ _ h) (stamp_in f (f (birth i)) (inl b))

pub stamp_sound : (f : Cells) (n : ℕ) → (f (stamp n) ≤ f counter) ⊎ (f (stamp n) ≡ TBD) → stamp_damaged f n ≡ false
stamp_sound f n = stamp_in f (f (stamp n))

pub node_sound : (f : Cells) (n : ℕ) → f (value n) < f projects → f (older n) ≤ f used → (f (stamp n) ≤ f counter) ⊎ (f (stamp n) ≡ TBD)
    → node_damaged f n ≡ false
node_sound f n v o s = neither _ _ (neither _ _ (lt-leb _ _ v) (le-ltb _ _ o)) (stamp_sound f n s)

-- The header.
pub record HeaderFits (count p m n q c now held taken back : ℕ) : Type 0 where
  pub workers_in : (1 ≤ p) × (p ≤ 64)
  pub items_in : (1 ≤ m) × (m ≤ 256)
  pub nodes_in : (1 ≤ n) × (n ≤ 4096)
  pub projects_in : (1 ≤ q) × (q ≤ 256)
  pub limit_in : (1 ≤ c) × (c ≤ 4294967294)
  pub counter_in : now ≤ c
  pub held_in : held ≤ m
  pub used_in : taken ≤ n
  pub given_back_in : back ≤ taken
  pub enough : needed p m n ≤ count

inside : (low high x : ℕ) → (low ≤ x) × (x ≤ high) → outside low high x ≡ false
inside low high x h = neither _ _ (le-ltb _ _ h.0) (le-ltb _ _ h.1)

pub header_sound : (count p m n q c now held taken back : ℕ) → HeaderFits count p m n q c now held taken back
    → header_damaged_at count p m n q c now held taken back ≡ false
unfolding header_damaged_at
header_sound count p m n q c now held taken back h =
    none_of (but (none_of (but (inside 1 64 p h.workers_in)
    (but (inside 1 256 m h.items_in) (but (inside 1 4096 n h.nodes_in)
    (but (inside 1 256 q h.projects_in) (but (inside 1 4294967294 c h.limit_in) (none)))))))
    (but (le-ltb _ _ h.counter_in) (but (le-ltb _ _ h.held_in)
    (but (le-ltb _ _ h.used_in) (but (le-ltb _ _ h.given_back_in) (but (le-ltb _ _ h.enough) (none)))))))

-- A step of a worker whose record, item and node words are not damaged is its phase's line.
pub record StepsWell (k : ℕ) (f : Cells) (w : ℕ) : Type 0 where
  pub at_phase : f (phase w) ≡ k
  pub known : (0 < k) × (k ≤ 35)
  pub worker_in : w < f workers
  pub record_fits : RunningFits (row_of k) f w
  pub item_fits : Where (inside_item (row_of k)) (item_damaged f (f (item w)) ≡ false)
  pub words_fit : (line_of_phase k).damaged f w ≡ false

pub steps_line : (k : ℕ) (f : Cells) (w : ℕ) → StepsWell k f w → stepping f w ≡ (line_of_phase k).does f w
unfolding stepping
steps_line k f w h = unfold stepping in
    rw (
      lt-leb (f workers) w h.worker_in,
      h.at_phase,
      le-ltb 35 k h.known.1,
      ne_eqb k 0 (λ e. absurd (omega (arith, h.known.0))),
      running_sound (row_of k) f w h.record_fits,
      step_sound (row_of k) f w h.record_fits,
      only_where (inside_item (row_of k)) (item_damaged f (f (item w))) h.item_fits,
      h.words_fit,
    )
