-- No line that the machine's phase stands at is refused as damaged: the words that it uses are in their ranges.
use Rattle.std.specs.Prelude.{ℕ, zero, suc, pred, ◌+◌, ◌-◌, ◌<◌, ◌≤◌, Bool, cond, not, ◌||◌, ◌&&◌, ◌≢◌, ◌≡◌, eqb, leb}
use Rattle.std.proofs.Math.Bool.{true, false}
use Rattle.std.proofs.Math.Path.{refl}
use Rattle.std.proofs.Common.{ap, sym, ◌∙◌, subst, le-ltb, ne_eqb, ltb-true, leb-false}
use native.Mathlib.Omega.{arith}
use Rattle.std.proofs.lemmas.Bool.{lt-leb, eqb-false}
use Rattle.definitions.specs.Cells.{Cells, workers, items_limit, nodes_limit, projects, counter_limit, counter, items, used, given_back, phase, steps, item, old, new, handle, noted, node, new_node, value, older, stamp}
use Rattle.definitions.specs.Phases.{row_of, table}
use Rattle.definitions.specs.Damage.{TBD, item_damaged, value_damaged, stamp_damaged, node_damaged, first_damaged, older_damaged, inside_item}
use Rattle.definitions.specs.Lines.{Line, line_of_phase, lines, help_20, help_21, help_22, taken_node, returned_node, tested_node, its_value, too_new, no_node, node_to_take}
use Rattle.history.specs.Machine.{Memory, Limits, Then, then_39, then_43, then_48, then_52, then_34, then_total_34, Phase, line_37, line_39, line_41, line_43, line_45, line_46, line_48, line_50, line_51, line_52, line_5, line_6, line_32, line_34, total_32, total_34, closing, line_20, line_21, line_22, helped_item, line_number}
use Rattle.reached.specs.Parts.{shared_of, local_of}
use Rattle.reached.specs.Sound.{Where, anyway, none, but, none_of, neither, TotalFits, ArgumentsFit, KeptFits, item_sound, stamp_sound, node_sound, StepsWell}
use Rattle.reached.specs.Grows.{MemoryWell, ChangeKnown, ReadKnown, TotalKnown, ThenKnown, Known, then_item}
use Rattle.reached.specs.Image.{Owner, held, SharedImage, NodesFit, help_number, phase_number, ChangeKept, ReadKept, TotalKept, ThenKept, Kept, Holds}
use Rattle.reached.proofs.Nodes.{version_below, held_below}
use Rattle.reached.proofs.ImageEffects.{first_in}

-- A help's three phases by the table: their numbers, their lines, and what they do.
pub record HelpRows (p : ℕ) : Type 0 where
  pub known : (0 < p) × (p + 2 ≤ 35)
  pub is_20 : (row_of p).line ≡ 20
  pub is_21 : (row_of (p + 1)).line ≡ 21
  pub is_22 : (row_of (p + 2)).line ≡ 22
  pub does_20 : line_of_phase p ≡ help_20
  pub does_21 : line_of_phase (p + 1) ≡ help_21
  pub does_22 : line_of_phase (p + 2) ≡ help_22

pub help_rows : (c : Then) → HelpRows (help_number c)
unfolding row_of table line_of_phase lines
help_rows (then_39 i g) = record {
  known = (omega arith, omega arith);
  is_20 = refl;
  is_21 = refl;
  is_22 = refl;
  does_20 = refl;
  does_21 = refl;
  does_22 = refl;
}
help_rows (then_43 i x y g) = record {
  known = (omega arith, omega arith);
  is_20 = refl;
  is_21 = refl;
  is_22 = refl;
  does_20 = refl;
  does_21 = refl;
  does_22 = refl;
}
help_rows (then_48 i x y) = record {
  known = (omega arith, omega arith);
  is_20 = refl;
  is_21 = refl;
  is_22 = refl;
  does_20 = refl;
  does_21 = refl;
  does_22 = refl;
}
help_rows (then_52 i x y g) = record {
  known = (omega arith, omega arith);
  is_20 = refl;
  is_21 = refl;
  is_22 = refl;
  does_20 = refl;
  does_21 = refl;
  does_22 = refl;
}
help_rows (then_34 i h g) = record {
  known = (omega arith, omega arith);
  is_20 = refl;
  is_21 = refl;
  is_22 = refl;
  does_20 = refl;
  does_21 = refl;
  does_22 = refl;
}
help_rows (then_total_34 q h n i u g) = record {
  known = (omega arith, omega arith);
  is_20 = refl;
  is_21 = refl;
  is_22 = refl;
  does_20 = refl;
  does_21 = refl;
  does_22 = refl;
}

-- The table's line of a phase is the machine's.
pub line_same : (ph : Phase) → (row_of (phase_number ph)).line ≡ line_number ph
unfolding row_of table
line_same (line_37 i) = refl
line_same (line_39 i f j) = refl
line_same (line_41 i x y) = refl
line_same (line_43 i x y f j) = refl
line_same (line_45 i x y f j) = refl
line_same (line_46 i x y f j v) = refl
line_same (line_48 i x y j) = refl
line_same (line_50 i x y g v) = refl
line_same (line_51 i x y g) = refl
line_same (line_52 i x y g j) = refl
line_same line_5 = refl
line_same (line_6 c r) = refl
line_same (line_32 i h) = refl
line_same (line_34 i h f j x) = refl
line_same (total_32 q h k i u) = refl
line_same (total_34 q h k i u f j x) = refl
line_same (closing q h k u) = refl
line_same (line_20 c j) = (help_rows c).is_20
line_same (line_21 c j) = (help_rows c).is_21
line_same (line_22 c j n r) = (help_rows c).is_22

-- The header's five sizes are the machine's limits.
pub record HeaderImage (f : Cells) (l : Limits) : Type 0 where
  pub workers_are : f workers ≡ l.workers
  pub items_are : f items_limit ≡ l.items
  pub nodes_are : f nodes_limit ≡ l.nodes
  pub projects_are : f projects ≡ l.projects
  pub limit_is : f counter_limit ≡ l.counter

-- What a step of worker w stands on.
pub record Standing (f : Cells) (m : Memory) (own : ℕ → Owner) (w : ℕ) : Type 0 where
  pub header : HeaderImage f m.limits
  pub shared : SharedImage m (shared_of f) own
  pub nodes : NodesFit m (shared_of f)
  pub well : MemoryWell m
  pub few_items : m.limits.items ≤ 256
  pub below_TBD : m.limits.counter < TBD
  pub worker_in : w < m.limits.workers

module _ (f : Cells) (m : Memory) (own : ℕ → Owner) (w : ℕ) (X : Standing f m own w) where
  item_below : (i : ℕ) → f (item w) ≡ i → i < m.items → f (item w) < f items
  item_below i e l = omega (arith, X.shared.items_are)

  node_below : (i j : ℕ) → i < m.items → j < (m.item i).versions → f (node w) ≡ (m.item i).node j → f (node w) < f used
  node_below i j l p e = omega (arith, X.shared.used_are, version_below m (shared_of f) own X.shared i j l p)

  node_in : (y : ℕ) → y < f used → y < m.limits.nodes
  node_in y l = omega (arith, X.shared.used_are, X.shared.used_in)

  change_fits : (i a b : ℕ) → ChangeKept (local_of f w) i a b → ChangeKnown m i a b
      → (f (item w) < f items) × (f (old w) < f projects) × (f (new w) < f projects)
  change_fits i a b k z = (
    omega (arith, k.item_is, z.item_in, X.shared.items_are),
    omega (arith, k.old_is, z.old_in, X.header.projects_are),
    omega (arith, k.new_is, z.new_in, X.header.projects_are),
  )

  read_fits : (i h : ℕ) → ReadKept (local_of f w) i h → ReadKnown m i h → (f (item w) < f items) × (f (handle w) < f counter)
  read_fits i h k z = (omega (arith, k.item_is, z.item_in, X.shared.items_are), omega (arith, k.handle_is, z.handle_in, X.shared.counter_is))

  total_fits : (b : Bool) (q h k i u : ℕ) → TotalKept (local_of f w) q h k i u → TotalKnown m q h k i u → Where b (f (item w) < f (noted w))
      → TotalFits b f w
  total_fits b q h k i u z a c =
      record {
        project_in = omega (arith, z.project_is, a.project_in, X.header.projects_are);
        handle_in = omega (arith, z.handle_is, a.handle_in, X.shared.counter_is);
        noted_in = omega (arith, z.noted_are, a.noted_in, X.shared.items_are);
        place_in = omega (arith, z.item_is, z.noted_are, a.place_in);
        inside_in = c;
        sum_in = omega (arith, z.sum_is, a.sum_in, a.place_in, a.noted_in, X.well.items_in, X.few_items);
      }

  inside_total : (q h k i u : ℕ) → TotalKept (local_of f w) q h k i u → i < k → f (item w) < f (noted w)
  inside_total q h k i u z l = omega (arith, z.item_is, z.noted_are)

  item_fits : (i : ℕ) → f (item w) ≡ i → i < m.items → item_damaged f (f (item w)) ≡ false
  item_fits i e l =
      subst (λ (x : ℕ). item_damaged f x ≡ false) (sym e)
      (item_sound f i
      (omega (
        arith,
        X.shared.head_is i l,
        X.shared.used_are,
        version_below m (shared_of f) own X.shared i (pred (m.item i).versions) l
            (omega (arith, (X.well.item_well i l).some, (X.well.item_well i l).few)),
      ))
      (omega (arith, X.shared.birth_is i l, X.shared.counter_is, (X.well.item_well i l).past 0 (X.well.item_well i l).some)))

  stamp_fits : f (node w) < f used → stamp_damaged f (f (node w)) ≡ false
  stamp_fits l = stamp_sound f (f (node w)) (X.nodes.stamp_in (f (node w)) (node_in (f (node w)) l))

  value_fits : f (node w) < f used → value_damaged f (f (node w)) ≡ false
  value_fits l = lt-leb (f projects) (f (value (f (node w))))
      (omega (arith, X.header.projects_are, X.nodes.value_in (f (node w)) (node_in (f (node w)) l)))

  -- a help's three phases have the ranges of one operation's arguments
  abbrev HelpArguments : Then → Type 0
  HelpArguments c = ArgumentsFit (row_of (help_number c)) f w × ArgumentsFit (row_of (help_number c + 1)) f w × ArgumentsFit
      (row_of (help_number c + 2)) f w

  help_arguments : (c : Then) → ThenKept (local_of f w) c → ThenKnown m c → HelpArguments c
  unfolding row_of table
  help_arguments (then_39 i g) k z = let a = item_below i k z in (a, a, a)
  help_arguments (then_43 i x y g) k z = let a = change_fits i x y k z in (a, a, a)
  help_arguments (then_48 i x y) k z = let a = change_fits i x y k z in (a, a, a)
  help_arguments (then_52 i x y g) k z = let a = change_fits i x y k z in (a, a, a)
  help_arguments (then_34 i h g) k z = let a = read_fits i h k z in (a, a, a)
  help_arguments (then_total_34 q h n i u g) k z = let a = total_fits true q h n i u k z.total (inside_total q h n i u k z.inside) in (a, a, a)

  -- and one item
  help_item : (c : Then) → ThenKept (local_of f w) c → f (item w) ≡ helped_item c
  help_item (then_39 i g) k = k
  help_item (then_43 i x y g) k = k.item_is
  help_item (then_48 i x y) k = k.item_is
  help_item (then_52 i x y g) k = k.item_is
  help_item (then_34 i h g) k = k.item_is
  help_item (then_total_34 q h n i u g) k = k.item_is

  -- a phase's step is well where its arguments, what it keeps, its item and its line's words are
  stands_well : (k : ℕ) → f (phase w) ≡ k → (0 < k) × (k ≤ 35) → f (steps w) ≤ 5120 → ArgumentsFit (row_of k) f w → KeptFits (row_of k).line f w
      → Where (inside_item (row_of k)) (item_damaged f (f (item w)) ≡ false) → (line_of_phase k).damaged f w ≡ false → StepsWell k f w
  stands_well k e l n a b i d =
      record {
        at_phase = e;
        known = l;
        worker_in = omega (arith, X.worker_in, X.header.workers_are);
        record_fits = record { few_steps = n; arguments_in = a; kept_in = b };
        item_fits = i;
        words_fit = d;
      }

  module _ (few : f (steps w) ≤ 5120) where
    pub ready_20 : (c : Then) (j : ℕ) → f (phase w) ≡ help_number c → Kept m.item (local_of f w) (line_20 c j) → Known m (line_20 c j)
        → StepsWell (help_number c) f w
    ready_20 c j e k z =
        stands_well (help_number c) e (R.known.0, omega (arith, R.known.1)) few (help_arguments c k.0 z.0).0
        (subst (λ (l : ℕ). KeptFits l f w) (sym R.is_20) (record { node_in = b; new_node_in = tt; seen_in = tt; seen_below = tt }))
        (anyway (inside_item (row_of (help_number c))) (item_fits (helped_item c) (help_item c k.0) (then_item m c z.0)))
        (subst (λ (l : Line). l.damaged f w ≡ false) (sym R.does_20) (stamp_fits b))
      where
        R : HelpRows (help_number c)
        R = help_rows c

        b : f (node w) < f used
        b = node_below (helped_item c) j (then_item m c z.0) z.1 k.1

    pub ready_21 : (c : Then) (j : ℕ) → f (phase w) ≡ help_number c + 1 → Kept m.item (local_of f w) (line_21 c j) → Known m (line_21 c j)
        → StepsWell (help_number c + 1) f w
    ready_21 c j e k z =
        stands_well (help_number c + 1) e (omega arith, omega (arith, R.known.1)) few (help_arguments c k.0 z.0).1
        (subst (λ (l : ℕ). KeptFits l f w) (sym R.is_21) (record { node_in = b; new_node_in = tt; seen_in = tt; seen_below = tt }))
        (anyway (inside_item (row_of (help_number c + 1))) (item_fits (helped_item c) (help_item c k.0) (then_item m c z.0)))
        (subst (λ (l : Line). l.damaged f w ≡ false) (sym R.does_21) refl)
      where
        R : HelpRows (help_number c)
        R = help_rows c

        b : f (node w) < f used
        b = node_below (helped_item c) j (then_item m c z.0) z.1 k.1

    pub ready_22 : (c : Then) (j n r : ℕ) → f (phase w) ≡ help_number c + 2 → Kept m.item (local_of f w) (line_22 c j n r) → Known m (line_22 c j n r)
        → StepsWell (help_number c + 2) f w
    ready_22 c j n r e k z =
        stands_well (help_number c + 2) e (omega arith, omega (arith, R.known.1)) few (help_arguments c k.0 z.0).2
        (subst (λ (l : ℕ). KeptFits l f w) (sym R.is_22)
        (record { node_in = b; new_node_in = tt; seen_in = omega (arith, k.2, z.1.counted, X.shared.counter_is); seen_below = tt }))
        (anyway (inside_item (row_of (help_number c + 2))) (item_fits (helped_item c) (help_item c k.0) (then_item m c z.0)))
        (subst (λ (l : Line). l.damaged f w ≡ false) (sym R.does_22) (stamp_fits b))
      where
        R : HelpRows (help_number c)
        R = help_rows c

        b : f (node w) < f used
        b = node_below (helped_item c) j (then_item m c z.0) z.1.there k.1

  pub node_fits : (y : ℕ) → y < m.limits.nodes → node_damaged f y ≡ false
  node_fits y l =
      node_sound f y (omega (arith, X.header.projects_are, X.nodes.value_in y l)) (X.nodes.older_in y l) (X.nodes.stamp_in y l)

  first_below : f given_back ≢ 0 → f given_back - 1 < m.limits.nodes
  first_below e = omega (arith, first_in 0 0 w m X.well (shared_of f) own X.shared, X.shared.used_are, X.shared.used_in)

  -- the first node given back is not damaged, nor is the node that line 45 takes
  pub first_fits : first_damaged f ≡ false
  first_fits = at (eqb (f given_back) 0) refl
    where
      at : (b : Bool) → eqb (f given_back) 0 ≡ b → not b && node_damaged f (f given_back - 1) ≡ false
      at true e = refl
      at false e = node_fits (f given_back - 1) (first_below (eqb-false _ _ e))

  taken_fits : no_node f ≡ false → node_damaged f (node_to_take f) ≡ false
  taken_fits = at (eqb (f given_back) 0) refl (leb (f nodes_limit) (f used)) refl
    where
      at : (a : Bool) → eqb (f given_back) 0 ≡ a → (b : Bool) → leb (f nodes_limit) (f used) ≡ b → a && b ≡ false
          → node_damaged f (cond a (f used) (f given_back - 1)) ≡ false
      at true d true e g = absurd (let z : ◌≡◌ {A = ℕ} 0 1 = cc in omega arith)
      at true d false e g = node_fits (f used) (omega (arith, leb-false (f nodes_limit) (f used) e, X.header.nodes_are))
      at false d b e g = node_fits (f given_back - 1) (first_below (eqb-false _ _ d))

  taken_words : taken_node f w ≡ false
  taken_words = at (no_node f) refl
    where
      at : (b : Bool) → no_node f ≡ b → not b && node_damaged f (node_to_take f) ≡ false
      at true e = refl
      at false e = taken_fits e

  pub returned_words : f (new_node w) < f used → returned_node f w ≡ false
  returned_words l =
      neither _ _ (le-ltb (f used) (f (older (f (new_node w)))) (X.nodes.older_in (f (new_node w)) (node_in (f (new_node w)) l)))
      first_fits

  -- line 34 meets no TBD, and goes on only where there is an older node
  tested_words : (i h x : ℕ) → i < m.items → (m.item i).stamp 0 ≤ h → x < (m.item i).valid → f (handle w) ≡ h → f (node w) ≡ (m.item i).node x
      → tested_node f w ≡ false
  tested_words i h x l b p e g =
      none_of (but (le-ltb (f counter) (f (stamp (f (node w)))) (omega (arith, stamp_is, X.shared.counter_is, (X.well.item_well i l).past x p)))
      (but goes (but stays none)))
    where
      there : f (node w) < f used
      there = node_below i x l (omega (arith, (X.well.item_well i l).few)) g

      stamp_is : f (stamp (f (node w))) ≡ (m.item i).stamp x
      stamp_is = ap (λ (y : ℕ). f (stamp y)) g ∙ X.shared.valid_stamp i x l p

      older_some : f (handle w) < f (stamp (f (node w))) → f (older (f (node w))) ≢ 0
      older_some d = at x refl
        where
          at : (y : ℕ) → x ≡ y → f (older (f (node w))) ≢ 0
          at zero u v = absurd (omega (arith, stamp_is, ap (m.item i).stamp u))
          at (suc y) u v =
              let z : f (older (f (node w))) ≡ suc ((m.item i).node y) = ap (λ (y : ℕ). f (older y)) (g ∙ ap (m.item i).node u)
              ∙ X.shared.older_is i y l (omega (arith, (X.well.item_well i l).few)) in
              absurd (omega arith)

      goes : too_new f w && (eqb (f (older (f (node w)))) 0 || older_damaged f (f (node w))) ≡ false
      goes = at (too_new f w) refl
        where
          at : (b : Bool) → too_new f w ≡ b → b && (eqb (f (older (f (node w)))) 0 || older_damaged f (f (node w))) ≡ false
          at true d = neither _ _ (ne_eqb (f (older (f (node w)))) 0 (older_some (ltb-true _ _ d)))
              (le-ltb (f used) (f (older (f (node w)))) (X.nodes.older_in (f (node w)) (node_in (f (node w)) there)))
          at false d = refl

      stays : not (too_new f w) && its_value f w ≡ false
      stays = at (too_new f w)
        where
          at : (b : Bool) → not b && its_value f w ≡ false
          at true = refl
          at false = value_fits there

  module _ (few : f (steps w) ≤ 5120) where
    new_node_below : (y : ℕ) → f (new_node w) ≡ y → own y ≡ held w → f (new_node w) < f used
    new_node_below y e h = omega (arith, X.shared.used_are, held_below m (shared_of f) own X.shared y w h)

    valid_node : (i j : ℕ) → i < m.items → j < (m.item i).valid → f (node w) ≡ (m.item i).node j → f (node w) < f used
    valid_node i j l p e = node_below i j l (omega (arith, (X.well.item_well i l).few)) e

    -- every phase's step is its line
    pub ready : (ph : Phase) → f (phase w) ≡ phase_number ph → Kept m.item (local_of f w) ph → Known m ph → Holds own (shared_of f) m.item w ph
        → StepsWell (phase_number ph) f w
    unfolding row_of table line_of_phase lines
    ready (line_37 i) e k z h =
        stands_well 1 e (omega arith, omega arith) few (item_below i k z) (record { node_in = tt; new_node_in = tt; seen_in = tt; seen_below = tt })
        (item_fits i k z) refl
    ready (line_39 i g j) e k z h =
        let b : f (node w) < f used = valid_node i j z.0 z.1 k.1 in
        stands_well 5 e (omega arith, omega arith) few (item_below i k.0 z.0)
        (record { node_in = b; new_node_in = tt; seen_in = tt; seen_below = tt }) (item_fits i k.0 z.0) (value_fits b)
    ready (line_41 i x y) e k z h =
        stands_well 6 e (omega arith, omega arith) few (change_fits i x y k z) (record { node_in = tt; new_node_in = tt; seen_in = tt; seen_below = tt })
        (item_fits i k.item_is z.item_in) refl
    ready (line_43 i x y g j) e k z h =
        let b : f (node w) < f used = valid_node i j z.0.item_in z.1 k.1 in
        stands_well 10 e (omega arith, omega arith) few (change_fits i x y k.0 z.0)
        (record { node_in = b; new_node_in = tt; seen_in = tt; seen_below = tt }) (item_fits i k.0.item_is z.0.item_in) (value_fits b)
    ready (line_45 i x y g j) e k z h =
        let b : f (node w) < f used = valid_node i j z.0.item_in z.1 k.1 in
        stands_well 11 e (omega arith, omega arith) few (change_fits i x y k.0 z.0)
        (record { node_in = b; new_node_in = tt; seen_in = tt; seen_below = tt }) (item_fits i k.0.item_is z.0.item_in) taken_words
    ready (line_46 i x y g j n) e k z h =
        let b : f (node w) < f used = valid_node i j z.0.item_in z.1 k.1 in
        stands_well 12 e (omega arith, omega arith) few (change_fits i x y k.0 z.0)
        (record { node_in = b; new_node_in = new_node_below n k.2 h.mine; seen_in = tt; seen_below = tt })
        (item_fits i k.0.item_is z.0.item_in) refl
    ready (line_48 i x y j) e k z h =
        stands_well 16 e (omega arith, omega arith) few (change_fits i x y k z) (record { node_in = tt; new_node_in = tt; seen_in = tt; seen_below = tt })
        (item_fits i k.item_is z.item_in) refl
    ready (line_50 i x y g n) e k z h =
        let b : f (new_node w) < f used = new_node_below n k.1 h in
        stands_well 17 e (omega arith, omega arith) few (change_fits i x y k.0 z)
        (record { node_in = tt; new_node_in = b; seen_in = tt; seen_below = tt }) (item_fits i k.0.item_is z.item_in) (returned_words b)
    ready (line_51 i x y g) e k z h =
        stands_well 18 e (omega arith, omega arith) few (change_fits i x y k z) (record { node_in = tt; new_node_in = tt; seen_in = tt; seen_below = tt })
        (item_fits i k.item_is z.item_in) refl
    ready (line_52 i x y g j) e k z h =
        stands_well 22 e (omega arith, omega arith) few (change_fits i x y k z) (record { node_in = tt; new_node_in = tt; seen_in = tt; seen_below = tt })
        (item_fits i k.item_is z.item_in) refl
    ready line_5 e k z h = stands_well 23 e (omega arith, omega arith) few tt
        (record { node_in = tt; new_node_in = tt; seen_in = tt; seen_below = tt }) tt refl
    ready (line_6 c r) e k z h =
        stands_well 24 e (omega arith, omega arith) few tt
        (record { node_in = tt; new_node_in = tt; seen_in = tt; seen_below = omega (arith, X.header.limit_is, z.0) }) tt refl
    ready (line_32 i a) e k z h =
        stands_well 25 e (omega arith, omega arith) few (read_fits i a k z) (record { node_in = tt; new_node_in = tt; seen_in = tt; seen_below = tt })
        (item_fits i k.item_is z.item_in) refl
    ready (line_34 i a g j x) e k z h =
        let b : f (node w) < f used = valid_node i x z.0.item_in z.1 k.1 in
        stands_well 29 e (omega arith, omega arith) few (read_fits i a k.0 z.0)
        (record { node_in = b; new_node_in = tt; seen_in = tt; seen_below = tt }) (item_fits i k.0.item_is z.0.item_in)
        (tested_words i a x z.0.item_in z.0.born z.1 k.0.handle_is k.1)
    ready (total_32 q a n i u) e k z h =
        stands_well 30 e (omega arith, omega arith) few (total_fits true q a n i u k z.0 (inside_total q a n i u k z.1))
        (record { node_in = tt; new_node_in = tt; seen_in = tt; seen_below = tt })
        (item_fits i k.item_is (omega (arith, z.1, z.0.noted_in))) refl
    ready (total_34 q a n i u g j x) e k z h =
        let l : i < m.items = omega (arith, z.0.inside, z.0.total.noted_in) in
        let b : f (node w) < f used = valid_node i x l z.1 k.1 in
        stands_well 34 e (omega arith, omega arith) few (total_fits true q a n i u k.0 z.0.total (inside_total q a n i u k.0 z.0.inside))
        (record { node_in = b; new_node_in = tt; seen_in = tt; seen_below = tt })
        (item_fits i k.0.item_is l) (tested_words i a x l z.0.born z.1 k.0.handle_is k.1)
    ready (closing q a n u) e k z h =
        stands_well 35 e (omega arith, omega arith) few (total_fits false q a n n u k z tt)
        (record { node_in = tt; new_node_in = tt; seen_in = tt; seen_below = tt }) tt refl
    ready (line_20 c j) e k z h = ready_20 few c j e k z
    ready (line_21 c j) e k z h = ready_21 few c j e k z
    ready (line_22 c j n r) e k z h = ready_22 few c j n r e k z
