-- Every reached catalogue is well-formed.
use Prim.Native.Nat.{ℕ, zero, suc, pred, ◌+◌, ◌-◌, ◌<◌, ◌≤◌}
use Rattle.std.specs.Prelude.{Bool, true, false, not, ◌||◌, ◌&&◌, List, [], ◌∷◌, ◌≢◌, refl, eqb}
use Rattle.std.proofs.Common.{inl, inr, ◌∙◌, ne_eqb}
use Rattle.std.proofs.Math.Path.{◌≡◌, ap, sym, subst}
use native.Mathlib.Omega.{arith}
use Rattle.std.proofs.Math.ListN.{length}
use Rattle.definitions.specs.Cells.{Cells, cells_of, workers, items, used, given_back, phase, new_node, head, older, stamp}
use Rattle.definitions.specs.Phases.{row_of, table}
use Rattle.definitions.specs.Damage.{TBD, keeps_new_node, step_damaged}
use Rattle.definitions.specs.Lines.{line_of_phase, lines}
use Rattle.cells.specs.WellFormed.{next_link, link_after, Place, in_list, returned, held_by, StandsAt, EndsWithBirth, WellFormed}
use Rattle.history.specs.Tools.{Split, split}
use Rattle.history.specs.Machine.{Item, Memory, Phase, line_37, line_39, line_41, line_43, line_45, line_46, line_48, line_50, line_51, line_52, line_5, line_6, line_32, line_34, total_32, total_34, closing, line_20, line_21, line_22, line_number, Worker, idle, busy, Catalogue}
use Rattle.reached.specs.Parts.{Shared, Local, shared_of, local_of}
use Rattle.reached.specs.Sound.{StepsWell, step_sound}
use Rattle.reached.specs.Grows.{MemoryWell}
use Rattle.reached.specs.Image.{Owner, unused, waits, held, version, Chain, SharedImage, Kept, BusyImage, WorkerImage, Holds, phase_number}
use Rattle.reached.proofs.Ready.{line_same, node_fits}
use Rattle.reached.proofs.Homes.{WaitsAt, Holding, WorkerHolding}
use Rattle.reached.proofs.Whole.{FewSteps, CatalogueImage}
use Rattle.reached.proofs.Step.{is_busy, has, steps_well}
use Rattle.reached.proofs.Start.{first_worker, worker_sound, birth_in, item_is_sound}
use Rattle.reached.proofs.Run.{WordsImage, header_is_sound}

-- The same walk, from its front.
link_front : (f : Cells) (first k : ℕ) → link_after f first (suc k) ≡ link_after f (next_link f first) k
unfolding link_after
link_front f first zero = refl
link_front f first (suc k) = ap (next_link f) (link_front f first k)

next_of : (f : Cells) (n : ℕ) → next_link f (suc n) ≡ f (older n)
next_of f n = rw (ne_eqb (suc n) 0 (λ e. absurd (omega arith))) (ap (λ (x : ℕ). f (older x)) (omega arith))

past_end : (f : Cells) (k : ℕ) → link_after f 0 k ≡ 0
unfolding link_after
past_end f zero = refl
past_end f (suc k) = ap (next_link f) (past_end f k)

waits_few : (l : List ℕ) (d n : ℕ) → WaitsAt l d n → d < length l
waits_few [] d n h = absurd h
waits_few (x ∷ l) d n (inl h) = omega (arith, h.0)
waits_few (x ∷ l) d n (inr h) = omega (arith, waits_few l d n h)

module _ (f : Cells) (m : Memory) (own : ℕ → Owner) (S : SharedImage m (shared_of f) own) (W : MemoryWell m) where
  -- ---- an item's list is its versions, the newest first
  list_at : (i : ℕ) → i < m.items → (k j : ℕ) → k + j ≡ pred (m.item i).versions → link_after f (f (head i) + 1) k ≡ suc ((m.item i).node j)
  unfolding link_after
  list_at i l zero j e = let z : pred (m.item i).versions ≡ j = omega arith in omega (arith, S.head_is i l, ap (m.item i).node z)
  list_at i l (suc k) j e =
      ap (next_link f) (list_at i l k (suc j) (omega arith)) ∙ next_of f ((m.item i).node (suc j)) ∙ S.older_is i j l (omega arith)

  some : (i : ℕ) → i < m.items → 0 < (m.item i).versions
  some i l = omega (arith, (W.item_well i l).some, (W.item_well i l).few)

  list_past : (i : ℕ) → i < m.items → (k : ℕ) → link_after f (f (head i) + 1) ((m.item i).versions + k) ≡ 0
  unfolding link_after
  list_past i l zero =
      ap (link_after f (f (head i) + 1)) zero_more ∙ ap (next_link f) (list_at i l (pred (m.item i).versions) 0 (omega arith))
      ∙ next_of f ((m.item i).node 0) ∙ S.oldest i l
    where
      zero_more : (m.item i).versions + 0 ≡ suc (pred (m.item i).versions)
      zero_more = omega (arith, some i l)
  list_past i l (suc k) = ap (link_after f (f (head i) + 1)) one_more ∙ ap (next_link f) (list_past i l k)
    where
      one_more : (m.item i).versions + suc k ≡ suc ((m.item i).versions + k)
      one_more = omega arith

  -- a node k below the head is version (versions - 1 - k)
  pub record InList (i k n : ℕ) : Type 0 where
    pub item_in : i < m.items
    pub number : ℕ
    pub position : k + number ≡ pred (m.item i).versions
    pub there : number < (m.item i).versions
    pub node_is : (m.item i).node number ≡ n

  in_list_is : (i k n : ℕ) → StandsAt f n (in_list i k) → InList i k n
  in_list_is i k n h = at (split k (m.item i).versions)
    where
      l : i < m.items
      l = omega (arith, h.0, S.items_are)

      at : Split k (m.item i).versions → InList i k n
      at (Split.less p) = record {
        item_in = l;
        number = pred (m.item i).versions - k;
        position = omega arith;
        there = omega arith;
        node_is = omega (arith, h.1, list_at i l k (pred (m.item i).versions - k) (omega arith));
      }
      at (Split.more p) = absurd (omega (arith, h.1, ap (link_after f (f (head i) + 1)) past, list_past i l (k - (m.item i).versions)))
        where
          past : k ≡ (m.item i).versions + (k - (m.item i).versions)
          past = omega arith

  -- ---- the nodes given back

  chain_at : (first : ℕ) (l : List ℕ) → Chain own (λ (y : ℕ). f (older y)) first l → (d n : ℕ) → WaitsAt l d n
      → link_after f first (pred (length l) - d) ≡ suc n
  chain_at first [] c d n w = absurd w
  chain_at first (y ∷ l) c d n (inl h) = unfold link_after in ap (link_after f first) here ∙ c.0 ∙ ap suc h.1
    where
      here : length l - d ≡ 0
      here = omega (arith, h.0)
  chain_at first (y ∷ l) c d n (inr h) =
      ap (link_after f first) further ∙ link_front f first (pred (length l) - d)
      ∙ ap (λ (x : ℕ). link_after f x (pred (length l) - d)) (ap (next_link f) c.0 ∙ next_of f y)
      ∙ chain_at (f (older y)) l c.2 d n h
    where
      further : length l - d ≡ suc (pred (length l) - d)
      further = omega (arith, waits_few l d n h)

  -- a node k below the first is the one with (length - 1 - k) below it
  pub record InChain (l : List ℕ) (k n : ℕ) : Type 0 where
    pub depth : ℕ
    pub position : suc (k + depth) ≡ length l
    pub owner : own n ≡ waits depth

  in_chain : (first : ℕ) (l : List ℕ) → Chain own (λ (y : ℕ). f (older y)) first l → (k n : ℕ) → link_after f first k ≡ suc n → InChain l k n
  in_chain first [] c k n e = absurd (omega (arith, e, ap (λ (x : ℕ). link_after f x k) c, past_end f k))
  in_chain first (y ∷ l) c zero n e = record { depth = length l; position = omega arith; owner = subst (λ (x : ℕ). own x ≡ waits (length l)) same c.1 }
    where
      same : y ≡ n
      same = unfold link_after in omega (arith, c.0, e)
  in_chain first (y ∷ l) c (suc k) n e = further (in_chain (f (older y)) l c.2 k n
      (sym (link_front f first k ∙ ap (λ (x : ℕ). link_after f x k) (ap (next_link f) c.0 ∙ next_of f y)) ∙ e))
    where
      further : InChain l k n → InChain (y ∷ l) (suc k) n
      further h = record { depth = h.depth; position = omega (arith, h.position); owner = h.owner }

-- ---- the nodes held

abbrev keeps_at : ℕ → Bool
keeps_at l = eqb l 46 || eqb l 50

-- a phase that keeps its new node holds it, and only such a phase holds one
holding_phase : (own : ℕ → Owner) (s : Shared) (its : ℕ → Item) (l : Local) (w : ℕ) (ph : Phase) → keeps_at (line_number ph) ≡ true → Kept its l ph
    → Holds own s its w ph → own l.new_node ≡ held w
holding_phase own s its l w (line_37 i) e k h = absurd (let z : ◌≡◌ {A = ℕ} 0 1 = cc in omega arith)
holding_phase own s its l w (line_39 i f j) e k h = absurd (let z : ◌≡◌ {A = ℕ} 0 1 = cc in omega arith)
holding_phase own s its l w (line_41 i a b) e k h = absurd (let z : ◌≡◌ {A = ℕ} 0 1 = cc in omega arith)
holding_phase own s its l w (line_43 i a b f j) e k h = absurd (let z : ◌≡◌ {A = ℕ} 0 1 = cc in omega arith)
holding_phase own s its l w (line_45 i a b f j) e k h = absurd (let z : ◌≡◌ {A = ℕ} 0 1 = cc in omega arith)
holding_phase own s its l w (line_46 i a b f j y) e k h = ap own k.2 ∙ h.mine
holding_phase own s its l w (line_48 i a b j) e k h = absurd (let z : ◌≡◌ {A = ℕ} 0 1 = cc in omega arith)
holding_phase own s its l w (line_50 i a b g y) e k h = ap own k.1 ∙ h
holding_phase own s its l w (line_51 i a b g) e k h = absurd (let z : ◌≡◌ {A = ℕ} 0 1 = cc in omega arith)
holding_phase own s its l w (line_52 i a b g j) e k h = absurd (let z : ◌≡◌ {A = ℕ} 0 1 = cc in omega arith)
holding_phase own s its l w line_5 e k h = absurd (let z : ◌≡◌ {A = ℕ} 0 1 = cc in omega arith)
holding_phase own s its l w (line_6 c r) e k h = absurd (let z : ◌≡◌ {A = ℕ} 0 1 = cc in omega arith)
holding_phase own s its l w (line_32 i a) e k h = absurd (let z : ◌≡◌ {A = ℕ} 0 1 = cc in omega arith)
holding_phase own s its l w (line_34 i a f j x) e k h = absurd (let z : ◌≡◌ {A = ℕ} 0 1 = cc in omega arith)
holding_phase own s its l w (total_32 q a n i u) e k h = absurd (let z : ◌≡◌ {A = ℕ} 0 1 = cc in omega arith)
holding_phase own s its l w (total_34 q a n i u f j x) e k h = absurd (let z : ◌≡◌ {A = ℕ} 0 1 = cc in omega arith)
holding_phase own s its l w (closing q a n u) e k h = absurd (let z : ◌≡◌ {A = ℕ} 0 1 = cc in omega arith)
holding_phase own s its l w (line_20 c j) e k h = absurd (let z : ◌≡◌ {A = ℕ} 0 1 = cc in omega arith)
holding_phase own s its l w (line_21 c j) e k h = absurd (let z : ◌≡◌ {A = ℕ} 0 1 = cc in omega arith)
holding_phase own s its l w (line_22 c j n r) e k h = absurd (let z : ◌≡◌ {A = ℕ} 0 1 = cc in omega arith)

held_phase : (its : ℕ → Item) (l : Local) (ph : Phase) (n : ℕ) → Holding ph n → Kept its l ph → (keeps_at (line_number ph) ≡ true) × (l.new_node ≡ n)
held_phase its l (line_37 i) n h k = absurd h
held_phase its l (line_39 i f j) n h k = absurd h
held_phase its l (line_41 i a b) n h k = absurd h
held_phase its l (line_43 i a b f j) n h k = absurd h
held_phase its l (line_45 i a b f j) n h k = absurd h
held_phase its l (line_46 i a b f j y) n h k = (refl, k.2 ∙ h)
held_phase its l (line_48 i a b j) n h k = absurd h
held_phase its l (line_50 i a b g y) n h k = (refl, k.1 ∙ h)
held_phase its l (line_51 i a b g) n h k = absurd h
held_phase its l (line_52 i a b g j) n h k = absurd h
held_phase its l line_5 n h k = absurd h
held_phase its l (line_6 c r) n h k = absurd h
held_phase its l (line_32 i a) n h k = absurd h
held_phase its l (line_34 i a f j x) n h k = absurd h
held_phase its l (total_32 q a k' i u) n h k = absurd h
held_phase its l (total_34 q a k' i u f j x) n h k = absurd h
held_phase its l (closing q a k' u) n h k = absurd h
held_phase its l (line_20 c j) n h k = absurd h
held_phase its l (line_21 c j) n h k = absurd h
held_phase its l (line_22 c j v r) n h k = absurd h

module _ (f : Cells) (s : Catalogue) (Z : CatalogueImage f s) (F : FewSteps s.worker) where
  -- the table's row at a busy worker's phase
  row_line : (w : ℕ) (ph : Phase) → f (phase w) ≡ phase_number ph → keeps_new_node (row_of (f (phase w))) ≡ keeps_at (line_number ph)
  row_line w ph e = ap (λ (p : ℕ). keeps_at (row_of p).line) e ∙ ap keeps_at (line_same ph)

  holder : (w n : ℕ) → w < s.memory.limits.workers → keeps_new_node (row_of (f (phase w))) ≡ true → f (new_node w) ≡ n → Z.own n ≡ held w
  holder w n l e g = at (s.worker w) refl
    where
      at : (v : Worker) → s.worker w ≡ v → Z.own n ≡ held w
      at idle d =
          absurd (let p : f (phase w) ≡ 0 = subst (λ (v : Worker). WorkerImage s.memory.item (local_of f w) v) d (Z.worker_is w l) in
          let q : keeps_new_node (row_of 0) ≡ true = subst (λ (x : ℕ). keeps_new_node (row_of x) ≡ true) p e in no_row q)
        where
          no_row : keeps_new_node (row_of 0) ≡ true → ⊥
          no_row q = unfold row_of table in let z : ◌≡◌ {A = ℕ} 0 1 = cc q in omega arith
      at (busy o ls ph) d =
          ap Z.own (sym g) ∙ holding_phase Z.own (shared_of f) s.memory.item (local_of f w) w ph (sym (row_line w ph B.phase_is) ∙ e) B.kept
          (has f s Z w l o ls ph d (F w o ls ph d))
        where
          B : BusyImage s.memory.item (local_of f w) (length ls) ph
          B = is_busy f s Z w l o ls ph d (F w o ls ph d)

  abbrev chain_length : ℕ
  chain_length = length s.memory.pool.given_back

  -- ---- a node's owner names its place
  place_of : Owner → Place
  place_of unused = returned 0
  place_of (waits d) = returned (pred chain_length - d)
  place_of (held w) = held_by w
  place_of (version i j) = in_list i (pred (s.memory.item i).versions - j)

  some_place : (n : ℕ) → n < f used → (p : Place) × StandsAt f n p
  some_place n l = at (Z.own n) refl
    where
      at : (o : Owner) → Z.own n ≡ o → (p : Place) × StandsAt f n p
      at unused e = absurd (Z.homes.owned n (omega (arith, Z.shared.used_are)) e)
      at (waits d) e = (
        returned (pred chain_length - d),
        chain_at f s.memory Z.own Z.shared Z.well (f given_back) s.memory.pool.given_back
            Z.shared.chain d n (Z.homes.waits_home n d e) ∙ omega arith,
      )
      at (held w) e =
          let k : (keeps_new_node (row_of (f (phase w))) ≡ true) × (f (new_node w) ≡ n) = held_there (s.worker w) refl (Z.held_home n w e).1 in
          (held_by w, (omega (arith, (Z.held_home n w e).0, Z.header.workers_are), k.0, k.1))
        where
          held_there : (v : Worker) → s.worker w ≡ v → WorkerHolding v n → (keeps_new_node (row_of (f (phase w))) ≡ true) × (f (new_node w) ≡ n)
          held_there idle d h = absurd h
          held_there (busy o ls ph) d h = (row_line w ph B.phase_is ∙ K.0, K.1)
            where
              B : BusyImage s.memory.item (local_of f w) (length ls) ph
              B = is_busy f s Z w (Z.held_home n w e).0 o ls ph d (F w o ls ph d)

              K : (keeps_at (line_number ph) ≡ true) × (f (new_node w) ≡ n)
              K = held_phase s.memory.item (local_of f w) ph n h B.kept
      at (version i j) e =
          let h : (i < s.memory.items) × (j < (s.memory.item i).versions) × ((s.memory.item i).node j ≡ n) = Z.homes.version_home n i j e in (
            in_list i (pred (s.memory.item i).versions - j),
            (
              omega (arith, h.0, Z.shared.items_are),
              list_at f s.memory Z.own Z.shared Z.well i h.0 (pred (s.memory.item i).versions - j) j (omega (arith, h.1))
                  ∙ omega (arith, h.2),
            ),
          )

  -- wherever a node stands is the place that its owner names
  named : (n : ℕ) (p : Place) → StandsAt f n p → p ≡ place_of (Z.own n)
  unfolding place_of
  named n (in_list i k) h = sym (ap place_of owner_is ∙ ap (in_list i) (omega (arith, L.position)))
    where
      L : InList f s.memory Z.own Z.shared Z.well i k n
      L = in_list_is f s.memory Z.own Z.shared Z.well i k n h

      owner_is : Z.own n ≡ version i L.number
      owner_is = ap Z.own (sym L.node_is) ∙ Z.shared.owner i L.number L.item_in L.there
  named n (returned k) h = sym (ap place_of C.owner ∙ ap returned (omega (arith, C.position)))
    where
      C : InChain f s.memory Z.own Z.shared Z.well s.memory.pool.given_back k n
      C = in_chain f s.memory Z.own Z.shared Z.well (f given_back) s.memory.pool.given_back Z.shared.chain k n (h ∙ omega arith)
  named n (held_by w) h = sym (ap place_of (holder w n (omega (arith, h.0, Z.header.workers_are)) h.1 h.2))

  one_place : (n : ℕ) (p q : Place) → StandsAt f n p → StandsAt f n q → p ≡ q
  one_place n p q g h = named n p g ∙ sym (named n q h)

  -- ---- stamps along a list
  stamp_is : (i j n : ℕ) → i < s.memory.items → j < (s.memory.item i).valid → (s.memory.item i).node j ≡ n → f (stamp n) ≡ (s.memory.item i).stamp j
  stamp_is i j n l p e = ap (λ (y : ℕ). f (stamp y)) (sym e) ∙ Z.shared.valid_stamp i j l p

  -- a node behind the head has a valid stamp
  behind : (i k n : ℕ) → StandsAt f n (in_list i (suc k))
      → (j : ℕ) × (suc (k + j) ≡ pred (s.memory.item i).versions) × (j < (s.memory.item i).valid) × (i < s.memory.items) ×
      (f (stamp n) ≡ (s.memory.item i).stamp j)
  behind i k n h = (L.number, omega (arith, L.position), below, L.item_in, stamp_is i L.number n L.item_in below L.node_is)
    where
      L : InList f s.memory Z.own Z.shared Z.well i (suc k) n
      L = in_list_is f s.memory Z.own Z.shared Z.well i (suc k) n h

      below : L.number < (s.memory.item i).valid
      below = omega (
        arith,
        L.position,
        (Z.well.item_well i L.item_in).most,
        (Z.well.item_well i L.item_in).few,
        (Z.well.item_well i L.item_in).some,
      )

  never_rise : (i k n x : ℕ) → StandsAt f n (in_list i k) → StandsAt f x (in_list i (suc k)) → f (stamp x) ≤ f (stamp n)
  never_rise i k n x g h = at (split (suc B.0) (s.memory.item i).valid)
    where
      B : (j : ℕ) × (suc (k + j) ≡ pred (s.memory.item i).versions) × (j < (s.memory.item i).valid) × (i < s.memory.items) ×
          (f (stamp x) ≡ (s.memory.item i).stamp j)
      B = behind i k x h

      L : InList f s.memory Z.own Z.shared Z.well i k n
      L = in_list_is f s.memory Z.own Z.shared Z.well i k n g

      next : (s.memory.item i).node (suc B.0) ≡ n
      next = ap (s.memory.item i).node (omega (arith, B.1, L.position)) ∙ L.node_is

      at : Split (suc B.0) (s.memory.item i).valid → f (stamp x) ≤ f (stamp n)
      at (Split.less p) = omega (arith, B.4, stamp_is i (suc B.0) n L.item_in p next, (Z.well.item_well i L.item_in).sorted B.0 p)
      at (Split.more p) =
          omega (
            arith,
            B.4,
            ap (λ (y : ℕ). f (stamp y)) (sym next)
                ∙ Z.shared.no_stamp i (suc B.0) L.item_in p (omega (arith, B.1, L.position, L.there)),
            (Z.well.item_well i L.item_in).past B.0 B.2,
            Z.well.counter_in,
            Z.limits_fit.counter_in.1,
          )

  TBD_at_head : (i k n : ℕ) → StandsAt f n (in_list i (suc k)) → f (stamp n) ≢ TBD
  TBD_at_head i k n h e = let b = behind i k n h in absurd
      (omega (arith, b.4, (Z.well.item_well i b.3).past b.0 b.2, Z.well.counter_in, Z.limits_fit.counter_in.1))

  ends : (i : ℕ) → i < f items → EndsWithBirth f i
  ends i l = record {
    last = (s.memory.item i).node 0;
    below = pred (s.memory.item i).versions;
    stands = (l, list_at f s.memory Z.own Z.shared Z.well i in_items (pred (s.memory.item i).versions) 0 (omega arith) ∙ omega arith);
    no_older = Z.shared.oldest i in_items;
    born = Z.shared.valid_stamp i 0 in_items (Z.well.item_well i in_items).some ∙ sym (Z.shared.birth_is i in_items);
  }
    where
      in_items : i < s.memory.items
      in_items = omega (arith, Z.shared.items_are)

  -- ---- no word is damaged
  before_step : (w : ℕ) → w < f workers → step_damaged f w ≡ false
  before_step w l = at (s.worker w) refl
    where
      w_in : w < s.memory.limits.workers
      w_in = omega (arith, Z.header.workers_are)

      at : (v : Worker) → s.worker w ≡ v → step_damaged f w ≡ false
      at idle e = let z : f (phase w) ≡ 0 = subst (λ (v : Worker). WorkerImage s.memory.item (local_of f w) v) e (Z.worker_is w w_in) in rw z
      at (busy o ls ph) e = rw (R.at_phase, step_sound (row_of (phase_number ph)) f w R.record_fits) (and_false (not (eqb (phase_number ph) 0)))
        where
          R : StepsWell (phase_number ph) f w
          R = steps_well f s Z w w_in o ls ph e (F w o ls ph e)

          and_false : (b : Bool) → b && false ≡ false
          and_false true = refl
          and_false false = refl

  line_sound : (w : ℕ) → w < f workers → (line_of_phase (f (phase w))).damaged f w ≡ false
  line_sound w l = at (s.worker w) refl
    where
      w_in : w < s.memory.limits.workers
      w_in = omega (arith, Z.header.workers_are)

      at : (v : Worker) → s.worker w ≡ v → (line_of_phase (f (phase w))).damaged f w ≡ false
      at idle e = subst (λ (p : ℕ). (line_of_phase p).damaged f w ≡ false)
          (sym (subst (λ (v : Worker). WorkerImage s.memory.item (local_of f w) v) e (Z.worker_is w w_in))) (unfold line_of_phase lines in refl)
      at (busy o ls ph) e = subst (λ (p : ℕ). (line_of_phase p).damaged f w ≡ false) (sym R.at_phase) R.words_fit
        where
          R : StepsWell (phase_number ph) f w
          R = steps_well f s Z w w_in o ls ph e (F w o ls ph e)

pub image_well_formed : (ws : List ℕ) (s : Catalogue) → WordsImage ws s → FewSteps s.worker → WellFormed ws
image_well_formed ws s U F = record {
  undamaged = record {
    header_sound = header_is_sound ws s U;
    worker_sound = λ w l. worker_sound (cells_of ws) s Z F w (omega (arith, Z.header.workers_are)) (s.worker w) refl;
    step_sound = before_step (cells_of ws) s Z F;
    line_sound = line_sound (cells_of ws) s Z F;
    item_sound = λ i l. item_is_sound (cells_of ws) s Z i (omega (arith, Z.shared.items_are));
    birth_sound = λ i l. birth_in (cells_of ws) s Z i (omega (arith, Z.shared.items_are));
    node_sound = λ n l. node_fits (cells_of ws) s.memory Z.own 0 (first_worker (cells_of ws) s Z) n
        (omega (arith, Z.shared.used_are, Z.shared.used_in));
  };
  some_place = some_place (cells_of ws) s Z F;
  one_place = one_place (cells_of ws) s Z F;
  never_rise = never_rise (cells_of ws) s Z F;
  TBD_at_head = TBD_at_head (cells_of ws) s Z F;
  ends = ends (cells_of ws) s Z F;
}
  where
    Z : CatalogueImage (cells_of ws) s
    Z = U.image
