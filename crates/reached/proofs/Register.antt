-- A register on the cells is the machine's register.
use Rattle.std.specs.Prelude.{ℕ, suc, pred, ◌+◌, ◌-◌, ◌<◌, ◌≤◌, Bool, true, false, cond, ◌≢◌, ◌⊎◌, refl, eqb, length}
use mathlib.Core.List.{List, [], ◌∷◌, ◌++◌}
use Rattle.std.proofs.Common.{inl, ap₂, sym, ◌∙◌, subst, arith}
use Rattle.std.proofs.Math.Path.{◌≡◌, ap}
use Rattle.std.proofs.Math.Dec.{leb}
use borrow.Author.Tests.{lt-leb, le-leb, leb-false, eq-eqb, ne_eqb}
use Rattle.definitions.specs.Cells.{Cells, Assignment, ◌≔◌, nodes_limit, items_limit, counter, items, used, given_back, head, birth, size, value, older, stamp}
use Rattle.definitions.specs.Answers.{accepted}
use Rattle.definitions.specs.Answers as outcome
use Rattle.definitions.specs.Damage.{TBD, bad_value, first_damaged}
use Rattle.definitions.specs.Lines as code_lines
use Rattle.definitions.specs.Calls as code
use Rattle.definitions.specs.Calls.{Call}
use Rattle.cells.specs.Update.{after, Proper}
use Rattle.history.specs.Tools.{put, put_all, put_same, put_other, by_lt}
use Rattle.history.specs.Machine.{Item, Memory, Found, no_node, node, first_free, node_to_take, none_left, found, one_taken, newborn, Worker, idle, busy, Catalogue, registered, registering, move}
use Rattle.reached.specs.Parts.{Shared, Local, shared_of, local_of, put_at, put_at_same, put_at_other, put_at_all}
use Rattle.reached.specs.Grows.{MemoryWell, Grows, known_later}
use Rattle.reached.specs.Image.{Owner, unused, held, version, Chain, SharedImage, NodesFit, BusyImage, WorkerImage}
use Rattle.reached.proofs.Nodes.{NoVersion, Taken, taken, taken_no_version, taken_not_held, AfterTaking, after_taking, used_after_taking, first_after_taking, version_apart}
use Rattle.reached.proofs.Ready.{first_fits}
use Rattle.reached.proofs.Holding.{StaysHeld, holds_frame, kept_later}
use Rattle.reached.proofs.Homes.{taken_homes}
use Rattle.reached.proofs.Whole.{WorkerKnown, WorkerHolds, StateImage, CatalogueImage, CallImage}
use Rattle.reached.proofs.Step.{header_later}
use Rattle.reached.proofs.Start.{first_worker, MoveImage, moves, refuse_or, sound_or, value_same}
use Rattle.reached.specs.Register.{memory_registered, each as of_all, register_grows, register_well}

-- The shared words after register takes node y for value v and size z.
abbrev pub shared_registered : Shared → (y v z : ℕ) → Shared
shared_registered s y v z =
    record {
      counter = s.counter;
      items = s.items + 1;
      used = used_after_taking s;
      given_back = first_after_taking s;
      head = put_at s.head s.items y;
      birth = put_at s.birth s.items s.counter;
      size = put_at s.size s.items z;
      value = put_at s.value y v;
      older = put_at s.older y 0;
      stamp = put_at s.stamp y s.counter;
    }

module _ (m : Memory) (W : MemoryWell m) (t v z y : ℕ) (room : m.items < m.limits.items) (v_in : v < m.limits.projects) (z_in : z < 4294967296) where
  abbrev later : Memory
  later = memory_registered m t v z y

  abbrev born : Item
  born = newborn t m.camera.counter v z y

  each : (P : ℕ → Item → Type 0) → P m.items born → ((x : ℕ) → x < m.items → P x (m.item x)) → (x : ℕ) → x < suc m.items → P x (later.item x)
  each = of_all m W t v z y room v_in z_in

  module _ (s : Shared) (own : ℕ → Owner) (S : SharedImage m s own) (e : node_to_take m ≡ node y) where
    T : Taken m s own y
    T = taken m s own S y e

    out : NoVersion own y
    out = taken_no_version m s own S y T

    A : AfterTaking m s own y (version m.items 0) 0 (one_taken m.pool)
    A = after_taking m s own S y (version m.items 0) 0 T

    abbrev own' : ℕ → Owner
    own' = put own y (version m.items 0)

    value_off : (i j : ℕ) → i < m.items → j < (m.item i).versions → put_at s.value y v ((m.item i).node j) ≡ s.value ((m.item i).node j)
    value_off i j l p = put_at_other s.value y v ((m.item i).node j) (λ e. version_apart m s own S i j y l p out (sym e))

    older_off : (i j : ℕ) → i < m.items → j < (m.item i).versions → put_at s.older y 0 ((m.item i).node j) ≡ s.older ((m.item i).node j)
    older_off i j l p = put_at_other s.older y 0 ((m.item i).node j) (λ e. version_apart m s own S i j y l p out (sym e))

    stamp_off : (i j : ℕ) → i < m.items → j < (m.item i).versions → put_at s.stamp y s.counter ((m.item i).node j) ≡ s.stamp ((m.item i).node j)
    stamp_off i j l p = put_at_other s.stamp y s.counter ((m.item i).node j) (λ e. version_apart m s own S i j y l p out (sym e))

    fresh : (g : ℕ → ℕ) (x i : ℕ) → i < m.items → put_at g s.items x i ≡ g i
    fresh g x i l = put_at_other g s.items x i (λ e. absurd (omega (arith, S.items_are)))

    at_new : (g : ℕ → ℕ) (x : ℕ) → put_at g s.items x m.items ≡ x
    at_new g x = put_at_same g s.items x m.items S.items_are

    pub register_image : SharedImage later (shared_registered s y v z) own'
    register_image = record {
      counter_is = S.counter_is;
      items_are = omega (arith, S.items_are);
      used_are = A.used_are;
      used_in = A.used_in;
      chain = A.chain;
      head_is = each (λ (x : ℕ) (it : Item). put_at s.head s.items y x ≡ it.node (pred it.versions)) (at_new s.head y)
          (λ x l. fresh s.head y x l ∙ S.head_is x l);
      birth_is = each (λ (x : ℕ) (it : Item). put_at s.birth s.items s.counter x ≡ it.stamp 0) (at_new s.birth s.counter ∙ S.counter_is)
          (λ x l. fresh s.birth s.counter x l ∙ S.birth_is x l);
      size_is = each (λ (x : ℕ) (it : Item). put_at s.size s.items z x ≡ it.size) (at_new s.size z) (λ x l. fresh s.size z x l ∙ S.size_is x l);
      value_is = λ i j. each (λ (x : ℕ) (it : Item). j < it.versions → put_at s.value y v (it.node j) ≡ it.value j)
          (λ p. put_at_same s.value y v y refl) (λ x l p. value_off x j l p ∙ S.value_is x j l p) i;
      valid_stamp = λ i j. each (λ (x : ℕ) (it : Item). j < it.valid → put_at s.stamp y s.counter (it.node j) ≡ it.stamp j)
          (λ p. put_at_same s.stamp y s.counter y refl ∙ S.counter_is)
          (λ x l p. stamp_off x j l (omega (arith, (W.item_well x l).few)) ∙ S.valid_stamp x j l p) i;
      no_stamp = λ i j. each (λ (x : ℕ) (it : Item). it.valid ≤ j → j < it.versions → put_at s.stamp y s.counter (it.node j) ≡ TBD)
          (λ p q. absurd (omega arith)) (λ x l p q. stamp_off x j l q ∙ S.no_stamp x j l p q) i;
      older_is = λ i j. each (λ (x : ℕ) (it : Item). suc j < it.versions → put_at s.older y 0 (it.node (suc j)) ≡ suc (it.node j))
          (λ p. absurd (omega arith)) (λ x l p. older_off x (suc j) l p ∙ S.older_is x j l p) i;
      oldest = each (λ (x : ℕ) (it : Item). put_at s.older y 0 (it.node 0) ≡ 0) (put_at_same s.older y 0 y refl)
          (λ x l. older_off x 0 l (omega (arith, (W.item_well x l).some, (W.item_well x l).few)) ∙ S.oldest x l);
      owner = λ i j. each (λ (x : ℕ) (it : Item). j < it.versions → own' (it.node j) ≡ version x j)
          (λ p. put_same own y _ y refl ∙ ap (version m.items) (omega arith))
          (λ x l p. put_other own y _ ((m.item x).node j) (version_apart m s own S x j y l p out) ∙ S.owner x j l p) i;
      rest = A.rest;
    }

    pub register_nodes : NodesFit m s → NodesFit later (shared_registered s y v z)
    register_nodes N = record {
      value_in = λ x l. put_at_all (λ (u : ℕ). u < m.limits.projects) s.value y v x (λ e. v_in) (λ e. N.value_in x l);
      older_in = λ x l. put_at_all (λ (u : ℕ). u ≤ used_after_taking s) s.older y 0 x (λ e. omega arith)
          (λ e. omega (arith, N.older_in x l, A.used_are, A.used_more, S.used_are));
      stamp_in = λ x l. put_at_all (λ (u : ℕ). (u ≤ s.counter) ⊎ (u ≡ TBD)) s.stamp y s.counter x (λ e. inl (omega arith)) (λ e. N.stamp_in x l);
    }

    pub register_held : (w x : ℕ) → own x ≡ held w → StaysHeld own own' s (shared_registered s y v z) x w
    register_held w x h = record {
      owner_same = put_other own y _ x (λ e. apart (sym e)) ∙ h;
      value_same = put_at_other s.value y v x apart;
      older_same = put_at_other s.older y 0 x apart;
      stamp_same = put_at_other s.stamp y s.counter x apart;
    }
      where
        apart : y ≢ x
        apart e = taken_not_held m s own S y T w (ap own e ∙ h)

-- What register writes once it has taken node y.
abbrev register_writes : Cells → List Assignment → (y v z : ℕ) → List Assignment
register_writes f taking y v z =
    taking ++ (value y ≔ v ∷ older y ≔ 0 ∷ stamp y ≔ f counter ∷ head (f items) ≔ y ∷ birth (f items) ≔ f counter ∷ size (f items) ≔ z
    ∷ items ≔ (f items + 1) ∷ [])

module _ (f : Cells) (s : Catalogue) (Z : CatalogueImage f s) (v z : ℕ) where
  -- the code finds a node exactly where the machine does, and the same one
  pub record Finds (r : Found) : Type 0 where
    pub none_same : code_lines.no_node f ≡ none_left r
    pub same_node : none_left r ≡ false → code_lines.node_to_take f ≡ found r

  finds : Finds (node_to_take s.memory)
  unfolding node_to_take
  finds = at s.memory.pool.given_back Z.shared.chain
    where
      at : (l : List ℕ) → Chain Z.own (λ (y : ℕ). f (older y)) (f given_back) l → Finds (first_free l s.memory.pool.used s.memory.limits.nodes)
      at [] c = unfold first_free in
          by_lt Finds s.memory.pool.used s.memory.limits.nodes
          (λ p. record {
            none_same = rw (eq-eqb (f given_back) 0 c, lt-leb (f nodes_limit) (f used) (omega (arith, Z.header.nodes_are, Z.shared.used_are)));
            same_node = λ e. rw (eq-eqb (f given_back) 0 c) Z.shared.used_are;
          })
          (λ p. record {
            none_same = rw (eq-eqb (f given_back) 0 c, le-leb (f nodes_limit) (f used) (omega (arith, Z.header.nodes_are, Z.shared.used_are)));
            same_node = λ e. absurd (let x : ◌≡◌ {A = ℕ} 0 1 = cc in omega arith);
          })
      at (y ∷ l) c = unfold first_free in
          record {
            none_same = rw (ne_eqb (f given_back) 0 (λ d. absurd (omega (arith, c.0))));
            same_node = λ e. rw (ne_eqb (f given_back) 0 (λ d. absurd (omega (arith, c.0)))) (omega (arith, c.0));
          }

  node_found : (r : Found) → none_left r ≡ false → r ≡ node (found r)
  node_found no_node e = absurd (let x : ◌≡◌ {A = ℕ} 0 1 = cc in omega arith)
  node_found (node y) e = refl

  -- the words after it
  writes_shared : (y : ℕ) → (b : Bool) → eqb (f given_back) 0 ≡ b
      → shared_of (after f (register_writes f (cond b (used ≔ (f used + 1) ∷ []) (given_back ≔ f (older (f given_back - 1)) ∷ [])) y v z)) ≡
      shared_registered (shared_of f) y v z
  writes_shared y true e = rw e refl
  writes_shared y false e = rw e refl

  writes_local : (y w : ℕ) → (b : Bool)
      → local_of (after f (register_writes f (cond b (used ≔ (f used + 1) ∷ []) (given_back ≔ f (older (f given_back - 1)) ∷ [])) y v z)) w ≡ local_of f w
  writes_local y w true = refl
  writes_local y w false = refl

  writes_proper : (y : ℕ) → y < s.memory.limits.nodes → s.memory.items < s.memory.limits.items → (b : Bool)
      → Proper s.memory.limits.workers s.memory.limits.items s.memory.limits.nodes
      (register_writes f (cond b (used ≔ (f used + 1) ∷ []) (given_back ≔ f (older (f given_back - 1)) ∷ [])) y v z)
  writes_proper y l r true = (
    omega arith,
    omega arith,
    (
      l,
      omega arith,
      (
        l,
        omega arith,
        (
          l,
          omega arith,
          (
            omega (arith, Z.shared.items_are),
            omega arith,
            (omega (arith, Z.shared.items_are), omega arith, (omega (arith, Z.shared.items_are), omega arith, (omega arith, omega arith, tt))),
          ),
        ),
      ),
    ),
  )
  writes_proper y l r false = (
    omega arith,
    omega arith,
    (
      l,
      omega arith,
      (
        l,
        omega arith,
        (
          l,
          omega arith,
          (
            omega (arith, Z.shared.items_are),
            omega arith,
            (omega (arith, Z.shared.items_are), omega arith, (omega (arith, Z.shared.items_are), omega arith, (omega arith, omega arith, tt))),
          ),
        ),
      ),
    ),
  )

  module _ (v_in : v < s.memory.limits.projects) (z_in : z < 4294967296) (room : s.memory.items < s.memory.limits.items) (y : ℕ)
      (e : node_to_take s.memory ≡ node y) where
    abbrev after_it : Memory
    after_it = memory_registered s.memory s.now v z y

    abbrev xs : List Assignment
    xs = register_writes f (code_lines.taking f) y v z

    grown : Grows s.memory after_it
    grown = register_grows s.memory Z.well s.now v z y room v_in z_in

    shared_is : shared_of (after f xs) ≡ shared_registered (shared_of f) y v z
    shared_is = writes_shared y (eqb (f given_back) 0) refl

    below : y < s.memory.limits.nodes
    below = omega (arith, A'.taken_below, A'.used_in)
      where
        A' : AfterTaking s.memory (shared_of f) Z.own y unused 0 (one_taken s.memory.pool)
        A' = after_taking s.memory (shared_of f) Z.own Z.shared y unused 0 (taken s.memory (shared_of f) Z.own Z.shared y e)

    proper : Proper s.memory.limits.workers s.memory.limits.items s.memory.limits.nodes xs
    proper = writes_proper y below room (eqb (f given_back) 0)

    worker_later : (w : ℕ) (u : Worker) → WorkerKnown s.memory u → WorkerImage s.memory.item (local_of f w) u
        → WorkerImage after_it.item (local_of (after f xs) w) u
    worker_later w idle k h = subst (λ (l : Local). l.phase ≡ 0) (sym (writes_local y w (eqb (f given_back) 0))) h
    worker_later w (busy o ls ph) k h =
        subst (λ (l : Local). BusyImage after_it.item l (length ls) ph) (sym (writes_local y w (eqb (f given_back) 0)))
        (record { phase_is = h.phase_is; steps_are = h.steps_are; kept = kept_later grown Z.well (local_of f w) ph k h.kept })

    known_after : (u : Worker) → WorkerKnown s.memory u → WorkerKnown after_it u
    known_after idle k = tt
    known_after (busy o ls ph) k = known_later grown Z.well ph k

    holds_later : (w : ℕ) (u : Worker) → WorkerKnown s.memory u → WorkerHolds Z.own (shared_of f) s.memory.item w u
        → WorkerHolds (put Z.own y (version s.memory.items 0)) (shared_registered (shared_of f) y v z) after_it.item w u
    holds_later w idle k h = tt
    holds_later w (busy o ls ph) k h =
        holds_frame Z.own (put Z.own y (version s.memory.items 0)) (shared_of f) (shared_registered (shared_of f) y v z) grown Z.well w
        (register_held s.memory Z.well s.now v z y room v_in z_in (shared_of f) Z.own Z.shared e w) ph k h

    new_home : (i j : ℕ) → s.memory.items ≡ i → 0 ≡ j → (i < suc s.memory.items) × (j < (after_it.item i).versions) × ((after_it.item i).node j ≡ y)
    new_home i j a b =
        (omega arith, omega (arith, ap (λ (it : Item). it.versions) new_item), ap (λ (it : Item). it.node j) new_item)
      where
        new_item : after_it.item i ≡ newborn s.now s.memory.camera.counter v z y
        new_item = put_same s.memory.item s.memory.items (newborn s.now s.memory.camera.counter v z y) i (sym a)

    registered_state : StateImage (after f xs) after_it s.worker
    registered_state = record {
      own = put Z.own y (version s.memory.items 0);
      limits_fit = Z.limits_fit;
      header = header_later f s.memory.limits s.memory.limits xs refl proper Z.header;
      shared = subst (λ (x : Shared). SharedImage after_it x (put Z.own y (version s.memory.items 0))) (sym shared_is)
          (register_image s.memory Z.well s.now v z y room v_in z_in (shared_of f) Z.own Z.shared e);
      nodes = subst (λ (x : Shared). NodesFit after_it x) (sym shared_is)
          (register_nodes s.memory Z.well s.now v z y room v_in z_in (shared_of f) Z.own Z.shared e Z.nodes);
      well = register_well s.memory Z.well s.now v z y room v_in z_in;
      worker_is = λ w l. worker_later w (s.worker w) (Z.known w l) (Z.worker_is w l);
      known = λ w l. known_after (s.worker w) (Z.known w l);
      holds = λ w l. subst (λ (x : Shared). WorkerHolds (put Z.own y (version s.memory.items 0)) x after_it.item w (s.worker w)) (sym shared_is)
          (holds_later w (s.worker w) (Z.known w l) (Z.holds w l));
      homes = taken_homes s.memory (shared_of f) Z.own Z.shared Z.homes after_it y (version s.memory.items 0) grown refl e
          (λ g. let x : ◌≡◌ {A = ℕ} 0 1 = cc in omega arith) (λ d g. let x : ◌≡◌ {A = ℕ} 0 1 = cc in omega arith)
          (λ i j g. let a : s.memory.items ≡ i = cc in let b : 0 ≡ j = cc in new_home i j a b);
      held_home = λ x w g. Z.held_home x w (put_all (λ (x : ℕ) (u : Owner). u ≡ held w → Z.own x ≡ held w) Z.own y (version s.memory.items 0) x
          (λ d g. absurd (let k : ◌≡◌ {A = ℕ} 0 1 = cc in omega arith)) (λ d g. g) g);
    }

    registers : MoveImage f s (outcome.accepts (f items) xs) (record { answer = accepted s.memory.items; leaves = registered s v z y })
    unfolding registered
    registers = record { answer_is = ap accepted Z.shared.items_are; proper = proper; image = registered_state }

  pub register_call : z < 4294967296 → CallImage f s (Call.register v z) (code.registering f v z)
  register_call z_in = moves f s (Call.register v z) (code.registering f v z) both_sides
    where
      accepts : v < s.memory.limits.projects → s.memory.items < s.memory.limits.items → none_left (node_to_take s.memory) ≡ false
          → MoveImage f s (outcome.accepts (f items) (register_writes f (code_lines.taking f) (code_lines.node_to_take f) v z))
          (record { answer = accepted s.memory.items; leaves = registered s v z (found (node_to_take s.memory)) })
      accepts a b c =
          subst (λ (y : ℕ). MoveImage f s (outcome.accepts (f items) (register_writes f (code_lines.taking f) y v z))
          (record { answer = accepted s.memory.items; leaves = registered s v z (found (node_to_take s.memory)) })) (sym (finds.same_node c))
          (registers a z_in b (found (node_to_take s.memory)) (node_found (node_to_take s.memory) c))

      both_sides : MoveImage f s (code.registering f v z) (move s (Call.register v z))
      both_sides = unfold code.registering move registering in
          refuse_or f s Z 7 (leb s.memory.limits.projects v) (bad_value f v) (value_same f s Z v)
          (λ a. refuse_or f s Z 10 (leb s.memory.limits.items s.memory.items) (leb (f items_limit) (f items))
          (ap₂ leb Z.header.items_are Z.shared.items_are)
          (λ b. refuse_or f s Z 11 (none_left (node_to_take s.memory)) (code_lines.no_node f) finds.none_same
          (λ c. sound_or f s Z (first_damaged f) (first_fits f s.memory Z.own 0 (first_worker f s Z)) (accepts (leb-false _ _ a) (leb-false _ _ b) c))))
