-- Each change of the memory leaves its note, and no note tells of another: publications, stamps and moves of the counter.
use Rattle.std.specs.Prelude.{◌≡◌, ◌≢◌, ◌⊎◌, Bool, true, false, cond, List, ◌∷◌, ltb, eqb, length}
use Rattle.std.proofs.Math.Path.{refl, ap, ap₂, subst}
use Rattle.std.proofs.Common.{sym, ◌∙◌, inl, inr, arith}
use Prim.Native.Nat.{ℕ, zero, suc, ◌≤◌, ◌<◌}
use Rattle.history.specs.Tools.{put, put_all, put_same, by_eq, by_lt, by_le, Split, split}
use Rattle.history.specs.Definition1.{Follows}
use Rattle.history.specs.Notes.{Deed, Note, ledger}
use Rattle.history.specs.Notes as Notes
use Rattle.history.specs.NoteParts.{deed_tag, deed_item, note_tag, note_line, note_worker, note_deed}
use Rattle.history.specs.Statements.{Executed}
use Rattle.history.specs.Machine.{
  Item,
  Memory,
  Operation,
  Then,
  Phase,
  line_37,
  line_39,
  line_41,
  line_43,
  line_45,
  line_46,
  line_48,
  line_50,
  line_51,
  line_52,
  line_5,
  line_6,
  line_32,
  line_34,
  total_32,
  total_34,
  closing,
  line_20,
  line_21,
  line_22,
  helped_item,
  line_number,
  Found,
  no_node,
  node,
  node_to_take,
  on_45,
  Effect,
  nothing,
  counts,
  publishes,
  stamps,
  takes_node,
  gives_back,
  Comes,
  goes_on,
  Next,
  line,
  memory_after,
  published,
  stamped,
}
use Rattle.history.specs.Facts.{MemoryFacts, Later}
use Rattle.history.proofs.Changes.{Allowed, effect_later}
use Rattle.history.proofs.MachineNotes.{phase_deed}
use Rattle.history.proofs.Trace.{PhaseTraced, ReadAt, Stamping, MemoryTraced, executed_more}

-- ---- deeds and effects

-- a line's deed is what it does to the memory
abbrev pub Matches : Memory → List Note → ℕ → Effect → ℕ → Deed → Type 0
Matches m run o nothing k d = deed_tag d ≤ 1
Matches m run o counts k d = (k ≡ 6) × (d ≡ Notes.moves m.camera.counter)
Matches m run o (publishes i v y) k d = (k ≡ 46) × (d ≡ Notes.publishes i v)
Matches m run o (stamps i j c r) k d = (k ≡ 22) × (d ≡ Notes.stamps i) × ReadAt run o r
Matches m run o (takes_node i b j y) k d = deed_tag d ≤ 1
Matches m run o (gives_back y) k d = deed_tag d ≤ 1

pub matches : (t o : ℕ) (m : Memory) (run : List Note) (ph : Phase) → PhaseTraced m run o ph → Matches m run o (line t m ph).does (line_number ph)
    (phase_deed m ph)
unfolding line
matches t o m run (line_37 i) z = omega arith
matches t o m run (line_39 i f j) z = omega arith
matches t o m run (line_41 i a b) z = omega arith
matches t o m run (line_43 i a b f j) z = by_eq (λ (x : Next). Matches m run o x.does 43 Notes.nothing) ((m.item i).value j) a
    (λ e. by_eq (λ (x : Next). Matches m run o x.does 43 Notes.nothing) b a (λ q. omega arith) (λ q. omega arith)) (λ e. omega arith)
matches t o m run (line_45 i a b f j) z = at (node_to_take m)
  where
    at : (g : Found) → Matches m run o (on_45 i a b f j g).does 45 Notes.nothing
    at no_node = omega arith
    at (node y) = omega arith
matches t o m run (line_46 i a b f j y) z = at (eqb (m.item i).versions (suc j))
  where
    at : (c : Bool) →
        Matches m run o (cond {A = Next} c (record { does = publishes i b y; comes = goes_on (line_20 (Then.then_48 i a b) (suc j)) })
        (record { does = nothing; comes = goes_on (line_50 i a b j y) })).does 46 (cond c (Notes.publishes i b) Notes.nothing)
    at true = (refl, refl)
    at false = omega arith
matches t o m run (line_48 i a b j) z = omega arith
matches t o m run (line_50 i a b g y) z = omega arith
matches t o m run (line_51 i a b g) z = omega arith
matches t o m run (line_52 i a b g j) z = omega arith
matches t o m run line_5 z = by_le (λ (x : Next). Matches m run o x.does 5 Notes.nothing) m.limits.counter m.camera.counter (λ e. omega arith)
    (λ e. omega arith)
matches t o m run (line_6 c r) z = at (eqb m.camera.counter c)
  where
    at : (b : Bool) →
        Matches m run o
        (cond {A = Next} b (record { does = counts; comes = Comes.answers c t 0 })
        (record { does = nothing; comes = Comes.answers c (m.camera.left_at c) 0 })).does 6 (cond b (Notes.moves m.camera.counter) Notes.nothing)
    at true = (refl, refl)
    at false = omega arith
matches t o m run (line_32 i h) z = omega arith
matches t o m run (line_34 i h f j x) z = by_lt (λ (x : Next). Matches m run o x.does 34 Notes.nothing) h ((m.item i).stamp x) (λ e. omega arith)
    (λ e. omega arith)
matches t o m run (total_32 q h k i u) z = omega arith
matches t o m run (total_34 q h k i u f j x) z = omega arith
matches t o m run (closing q h k u) z = omega arith
matches t o m run (line_20 c j) z = omega arith
matches t o m run (line_21 c j) z = omega arith
matches t o m run (line_22 c j n r) z = at (ltb j (m.item (helped_item c)).valid)
  where
    at : (b : Bool) → Matches m run o (cond b nothing (stamps (helped_item c) j n r)) 22 (cond b Notes.nothing (Notes.stamps (helped_item c)))
    at true = omega arith
    at false = (refl, refl, z.1)

-- ---- an event of the longer run

-- it is the last one, or it was there before
pub executed_inv : (run : List Note) (y : Note) {o line t : ℕ} {d : Deed} → Executed (y ∷ run) o line d t →
    Executed run o line d t ⊎ ((note_tag y ≡ 3) × (note_line y ≡ line) × (note_deed y ≡ d) × ((ledger run).current (note_worker y) ≡ o) × (length run ≡ t))
executed_inv run y {o} {line} {t} {d} x = at x.noted
  where
    at : Follows (Notes.stepped x.w line d x.e) x.past (y ∷ run) →
        Executed run o line d t ⊎ ((note_tag y ≡ 3) × (note_line y ≡ line) × (note_deed y ≡ d) × ((ledger run).current (note_worker y) ≡ o)
        × (length run ≡ t))
    at (inr n) = inl (record { past = x.past; w = x.w; e = x.e; noted = n; its = x.its; at = x.at })
    at (inl (p, q)) =
        inr (
          ap note_tag (sym p),
          ap note_line (sym p),
          ap note_deed (sym p),
          ap₂ (λ (r : List Note) (w : ℕ). (ledger r).current w) (sym q)
              (ap note_worker (sym p)) ∙ x.its,
          ap length (sym q) ∙ x.at,
        )

-- ---- what holds of the memory after a note, from what is new in it

module _ {t : ℕ} {m m' : Memory} (L : Later t m m') (known : MemoryFacts t m) (run : List Note) (now : length run ≡ t) (tr : MemoryTraced m run)
    (x : Note) where
  pub traced_more :
      ((i j : ℕ) → (m.item i).versions ≤ suc j → suc j < (m'.item i).versions → Executed (x ∷ run) ((m'.item i).author (suc j)) 46
      (Notes.publishes i ((m'.item i).value (suc j))) ((m'.item i).published_at (suc j))) →
      ((i v : ℕ) → note_tag x ≡ 3 → note_deed x ≡ Notes.publishes i v → (j : ℕ) × (suc j < (m'.item i).versions) × (t ≡ (m'.item i).published_at (suc j))) →
      ((i j : ℕ) → (m.item i).valid ≤ suc j → suc j < (m'.item i).valid → Stamping (m'.item i) (x ∷ run) i (suc j)) →
      ((i : ℕ) → note_tag x ≡ 3 → note_deed x ≡ Notes.stamps i → (j : ℕ) × (suc j < (m'.item i).valid) × (t ≡ (m'.item i).stamped_at (suc j))) →
      ((h : ℕ) → m.camera.counter ≤ h → h < m'.camera.counter → (o : ℕ) × Executed (x ∷ run) o 6 (Notes.moves h) (m'.camera.left_at h)) →
      MemoryTraced m' (x ∷ run)
  traced_more new_published new_publishes new_stamped new_stamps new_left =
      record {
        published = λ i j p. published_at i j p (split (suc j) (m.item i).versions);
        publishes_only = λ o i v p e. publishes_at o i v p (executed_inv run x e);
        stamped = λ i j p. stamped_at i j p (split (suc j) (m.item i).valid);
        stamps_only = λ o i s e. stamps_at o i s (executed_inv run x e);
        left = λ h p. left_at h p (split h m.camera.counter);
      }
    where
      published_at : (i j : ℕ) → suc j < (m'.item i).versions → Split (suc j) (m.item i).versions → Executed (x ∷ run) ((m'.item i).author (suc j)) 46
          (Notes.publishes i ((m'.item i).value (suc j))) ((m'.item i).published_at (suc j))
      published_at i j p (Split.more q) = new_published i j q p
      published_at i j p (Split.less q) =
          subst (λ (o : ℕ). Executed (x ∷ run) o 46 (Notes.publishes i ((m'.item i).value (suc j))) ((m'.item i).published_at (suc j)))
          (sym ((L.item i).author (suc j) q))
          (subst (λ (v : ℕ). Executed (x ∷ run) ((m.item i).author (suc j)) 46 (Notes.publishes i v) ((m'.item i).published_at (suc j)))
          (sym ((L.item i).value (suc j) q))
          (subst (λ (p : ℕ). Executed (x ∷ run) ((m.item i).author (suc j)) 46 (Notes.publishes i ((m.item i).value (suc j))) p)
          (sym ((L.item i).published_at (suc j) q)) (executed_more x (tr.published i j q))))

      publishes_at : (o i v p : ℕ) → Executed run o 46 (Notes.publishes i v) p
          ⊎ ((note_tag x ≡ 3) × (note_line x ≡ 46) × (note_deed x ≡ Notes.publishes i v) × ((ledger run).current (note_worker x) ≡ o) × (length run ≡ p)) →
          (j : ℕ) × (suc j < (m'.item i).versions) × (p ≡ (m'.item i).published_at (suc j))
      publishes_at o i v p (inl e) = let z : (j : ℕ) × (suc j < (m.item i).versions) × (p ≡ (m.item i).published_at (suc j)) =
          tr.publishes_only o i v p e in (z.0, omega (arith, z.1, (L.item i).more_versions), z.2 ∙ sym ((L.item i).published_at (suc z.0) z.1))
      publishes_at o i v p (inr (a, b, c, d, e)) = let z : (j : ℕ) × (suc j < (m'.item i).versions) × (t ≡ (m'.item i).published_at (suc j)) =
          new_publishes i v a c in (z.0, z.1, sym e ∙ now ∙ z.2)

      stamped_at : (i j : ℕ) → suc j < (m'.item i).valid → Split (suc j) (m.item i).valid → Stamping (m'.item i) (x ∷ run) i (suc j)
      stamped_at i j p (Split.more q) = new_stamped i j q p
      stamped_at i j p (Split.less q) =
          let S : Stamping (m.item i) run i (suc j) = tr.stamped i j q in
          record {
            o = S.o;
            stored = subst (λ (s : ℕ). Executed (x ∷ run) S.o 22 (Notes.stamps i) s) (sym ((L.item i).stamped_at (suc j) q))
                (executed_more x S.stored);
            read = subst (λ (r : ℕ). Executed (x ∷ run) S.o 21 Notes.nothing r) (sym ((L.item i).effect_at (suc j) q)) (executed_more x S.read);
            before = omega (arith, S.before, (L.item i).effect_at (suc j) q, (L.item i).stamped_at (suc j) q);
            own_next = λ line d u e b. own i j q S line d u (executed_inv run x e) (omega (arith, (L.item i).effect_at (suc j) q));
          }
        where
          own : (i j : ℕ) → suc j < (m.item i).valid → (S : Stamping (m.item i) run i (suc j)) → (line : ℕ) (d : Deed) (u : ℕ) →
              Executed run S.o line d u ⊎ ((note_tag x ≡ 3) × (note_line x ≡ line) × (note_deed x ≡ d) × ((ledger run).current (note_worker x) ≡ S.o)
              × (length run ≡ u)) → (m.item i).effect_at (suc j) < u → (m'.item i).stamped_at (suc j) ≤ u
          own i j q S line d u (inl e) b = omega (arith, S.own_next line d u e b, (L.item i).stamped_at (suc j) q)
          own i j q S line d u (inr (a, c, f, g, e)) b = omega (arith, (known.item i).stamped_past (suc j) q, (L.item i).stamped_at (suc j) q)

      stamps_at : (o i s : ℕ) → Executed run o 22 (Notes.stamps i) s
          ⊎ ((note_tag x ≡ 3) × (note_line x ≡ 22) × (note_deed x ≡ Notes.stamps i) × ((ledger run).current (note_worker x) ≡ o) × (length run ≡ s)) →
          (j : ℕ) × (suc j < (m'.item i).valid) × (s ≡ (m'.item i).stamped_at (suc j))
      stamps_at o i s (inl e) = let z : (j : ℕ) × (suc j < (m.item i).valid) × (s ≡ (m.item i).stamped_at (suc j)) = tr.stamps_only o i s e in
          (z.0, omega (arith, z.1, (L.item i).more_valid), z.2 ∙ sym ((L.item i).stamped_at (suc z.0) z.1))
      stamps_at o i s (inr (a, b, c, d, e)) = let z : (j : ℕ) × (suc j < (m'.item i).valid) × (t ≡ (m'.item i).stamped_at (suc j)) =
          new_stamps i a c in (z.0, z.1, sym e ∙ now ∙ z.2)

      left_at : (h : ℕ) → h < m'.camera.counter → Split h m.camera.counter → (o : ℕ) × Executed (x ∷ run) o 6 (Notes.moves h) (m'.camera.left_at h)
      left_at h p (Split.more q) = new_left h q p
      left_at h p (Split.less q) = let z : (o : ℕ) × Executed run o 6 (Notes.moves h) (m.camera.left_at h) = tr.left h q in
          (z.0, subst (λ (u : ℕ). Executed (x ∷ run) z.0 6 (Notes.moves h) u) (sym (L.camera.same h q)) (executed_more x z.1))

-- ---- each effect

module _ (t o w : ℕ) (m : Memory) (known : MemoryFacts t m) (run : List Note) (now : length run ≡ t) (cur : (ledger run).current w ≡ o)
    (tr : MemoryTraced m run) (op : Operation) (p : Bool) (k : ℕ) (d : Deed) (end : Notes.Ending) where
  here : Executed (Notes.stepped w k d end ∷ run) o k d t
  here = record { past = run; w = w; e = end; noted = inl (refl, refl); its = cur; at = now }

  here_as : {k' : ℕ} {d' : Deed} → k ≡ k' → d ≡ d' → Executed (Notes.stepped w k d end ∷ run) o k' d' t
  here_as {k'} {d'} a b = subst (λ (k₀ : ℕ). Executed (Notes.stepped w k d end ∷ run) o k₀ d' t) a
      (subst (λ (d' : Deed). Executed (Notes.stepped w k d end ∷ run) o k d' t) b here)

  -- the deed is not one of tag n
  no_deed : {n : ℕ} {d' : Deed} → deed_tag d ≤ 1 → deed_tag d' ≡ n → 1 < n → d ≡ d' → ⊥
  no_deed {n} {d'} a b c e = let z : deed_tag d ≡ deed_tag d' = ap deed_tag e in omega arith

  other_deed : {n n' : ℕ} {d₀ d' : Deed} → d ≡ d₀ → deed_tag d₀ ≡ n → deed_tag d' ≡ n' → n ≢ n' → d ≡ d' → ⊥
  other_deed {n} {n'} {d₀} {d'} a b c differ e = differ (sym b ∙ ap deed_tag (sym a ∙ e) ∙ c)

  -- nothing is new
  silently : (m' : Memory) → Later t m m' → ((i : ℕ) → m'.item i ≡ m.item i) → m'.camera.counter ≡ m.camera.counter → deed_tag d ≤ 1 →
      MemoryTraced m' (Notes.stepped w k d end ∷ run)
  silently m' L same c q =
      traced_more L known run now tr (Notes.stepped w k d end)
      (λ i j a b. absurd (omega (arith, ap (λ (it : Item). it.versions) (same i))))
      (λ i v a b. absurd (no_deed {d' = Notes.publishes i v} q refl (omega arith) b))
      (λ i j a b. absurd (omega (arith, ap (λ (it : Item). it.valid) (same i))))
      (λ i a b. absurd (no_deed {d' = Notes.stamps i} q refl (omega arith) b))
      (λ h a b. absurd (omega arith))

  pub effect_traced : (e : Effect) → Allowed t o op p m e → Matches m run o e k d → MemoryTraced (memory_after t o e m) (Notes.stepped w k d end ∷ run)
  unfolding memory_after
  effect_traced nothing a q = silently m (effect_later known o op p nothing a) (λ i. refl) refl q
  effect_traced (takes_node i b j y) a q = silently (memory_after t o (takes_node i b j y) m) (effect_later known o op p (takes_node i b j y) a)
      (λ i. refl) refl q
  effect_traced (gives_back y) a q = silently (memory_after t o (gives_back y) m) (effect_later known o op p (gives_back y) a) (λ i. refl) refl q
  effect_traced counts a q =
      traced_more (effect_later known o op p counts a) known run now tr (Notes.stepped w k d end)
      (λ i j u b. absurd (omega arith))
      (λ i v u b. absurd (other_deed {d' = Notes.publishes i v} q.1 refl refl (omega arith) b))
      (λ i j u b. absurd (omega arith))
      (λ i u b. absurd (other_deed {d' = Notes.stamps i} q.1 refl refl (omega arith) b))
      (λ h u b. (o, at h (omega arith)))
    where
      c : ℕ
      c = m.camera.counter

      at : (h : ℕ) → h ≡ c → Executed (Notes.stepped w k d end ∷ run) o 6 (Notes.moves h) (put m.camera.left_at c t h)
      at h e = subst (λ (u : ℕ). Executed (Notes.stepped w k d end ∷ run) o 6 (Notes.moves h) u) (sym (put_same m.camera.left_at c t h e))
          (here_as q.0 (q.1 ∙ ap Notes.moves (sym e)))
  effect_traced (publishes i v y) a q =
      traced_more (effect_later known o op p (publishes i v y) a) known run now tr (Notes.stepped w k d end)
      (λ n j. put_all (λ (n : ℕ) (z : Item). (m.item n).versions ≤ suc j → suc j < z.versions →
      Executed (Notes.stepped w k d end ∷ run) (z.author (suc j)) 46 (Notes.publishes n (z.value (suc j))) (z.published_at (suc j)))
      m.item i it n
      (λ e u b. new n j e (omega (arith, ap (λ (n : ℕ). (m.item n).versions) e))) (λ e u b. absurd (omega arith)))
      (λ n v' u b. newest n (ap deed_item (sym b ∙ q.1)))
      (λ n j. put_all (λ (n : ℕ) (z : Item). (m.item n).valid ≤ suc j → suc j < z.valid → Stamping z (Notes.stepped w k d end ∷ run) n (suc j))
      m.item i it n
      (λ e u b. absurd (omega (arith, ap (λ (n : ℕ). (m.item n).valid) e))) (λ e u b. absurd (omega arith)))
      (λ n u b. absurd (other_deed {d' = Notes.stamps n} q.1 refl refl (omega arith) b))
      (λ h u b. absurd (omega arith))
    where
      it : Item
      it = published t o v y (m.item i)

      new : (n j : ℕ) → n ≡ i → suc j ≡ (m.item i).versions → Executed (Notes.stepped w k d end ∷ run) (it.author (suc j)) 46
          (Notes.publishes n (it.value (suc j))) (it.published_at (suc j))
      new n j e f =
          subst (λ (o' : ℕ). Executed (Notes.stepped w k d end ∷ run) o' 46 (Notes.publishes n (it.value (suc j))) (it.published_at (suc j)))
          (sym (put_same (m.item i).author (m.item i).versions o (suc j) f))
          (subst (λ (u : ℕ). Executed (Notes.stepped w k d end ∷ run) o 46 (Notes.publishes n (it.value (suc j))) u)
          (sym (put_same (m.item i).published_at (m.item i).versions t (suc j) f))
          (here_as q.0
          (q.1 ∙ ap₂ (λ (n v : ℕ). Notes.publishes n v) (sym e) (sym (put_same (m.item i).value (m.item i).versions v (suc j) f)))))

      newest : (n : ℕ) → n ≡ i → (j : ℕ) × (suc j < (put m.item i it n).versions) × (t ≡ (put m.item i it n).published_at (suc j))
      newest n e = (
        a.last,
        subst (λ (z : Item). suc a.last < z.versions) (sym (put_same m.item i it n e)) (omega (arith, a.is)),
        subst (λ (z : Item). t ≡ z.published_at (suc a.last)) (sym (put_same m.item i it n e))
            (sym (put_same (m.item i).published_at (m.item i).versions t (suc a.last) (sym a.is))),
      )
  effect_traced (stamps i j c r) a q =
      traced_more (effect_later known o op p (stamps i j c r) a) known run now tr (Notes.stepped w k d end)
      (λ n j'. put_all (λ (n : ℕ) (z : Item). (m.item n).versions ≤ suc j' → suc j' < z.versions →
      Executed (Notes.stepped w k d end ∷ run) (z.author (suc j')) 46 (Notes.publishes n (z.value (suc j'))) (z.published_at (suc j')))
      m.item i it n
      (λ e u b. absurd (omega (arith, ap (λ (n : ℕ). (m.item n).versions) e))) (λ e u b. absurd (omega arith)))
      (λ n v' u b. absurd (other_deed {d' = Notes.publishes n v'} q.1 refl refl (omega arith) b))
      (λ n j'. put_all (λ (n : ℕ) (z : Item). (m.item n).valid ≤ suc j' → suc j' < z.valid → Stamping z (Notes.stepped w k d end ∷ run) n (suc j'))
      m.item i it n
      (λ e u b. new n j' e (omega (arith, a.undecided, ap (λ (n : ℕ). (m.item n).valid) e))) (λ e u b. absurd (omega arith)))
      (λ n u b. newest n (ap deed_item (sym b ∙ q.1)) (zero_or j refl))
      (λ h u b. absurd (omega arith))
    where
      it : Item
      it = stamped t j c r (m.item i)

      new : (n j' : ℕ) → n ≡ i → suc j' ≡ j → Stamping it (Notes.stepped w k d end ∷ run) n (suc j')
      new n j' e f =
          record {
            o = o;
            stored = subst (λ (s : ℕ). Executed (Notes.stepped w k d end ∷ run) o 22 (Notes.stamps n) s)
                (sym (put_same (m.item i).stamped_at j t (suc j') f)) (here_as q.0 (q.1 ∙ ap Notes.stamps (sym e)));
            read = subst (λ (u : ℕ). Executed (Notes.stepped w k d end ∷ run) o 21 Notes.nothing u) (sym (put_same (m.item i).effect_at j r (suc j') f))
                (executed_more (Notes.stepped w k d end) q.2.read);
            before = omega (arith, a.before, put_same (m.item i).effect_at j r (suc j') f, put_same (m.item i).stamped_at j t (suc j') f);
            own_next = λ line d' u z b. own line d' u (executed_inv run (Notes.stepped w k d end) z)
                (omega (arith, put_same (m.item i).effect_at j r (suc j') f));
          }
        where
          own : (line : ℕ) (d' : Deed) (u : ℕ) → Executed run o line d' u
              ⊎ ((◌≡◌ {A = ℕ} 3 3) × (k ≡ line) × (d ≡ d') × ((ledger run).current w ≡ o) × (length run ≡ u)) → r < u →
              put (m.item i).stamped_at j t (suc j') ≤ u
          own line d' u (inl z) b = absurd (omega (arith, q.2.since line d' u z))
          own line d' u (inr (z, z1, z2, z3, z4)) b = omega (arith, put_same (m.item i).stamped_at j t (suc j') f)

      zero_or : (j' : ℕ) → j ≡ j' → (n : ℕ) × (j ≡ suc n)
      zero_or zero e = absurd (omega (arith, a.head, a.undecided, (known.item i).first (omega (arith, a.head))))
      zero_or (suc n) e = (n, e)

      newest : (n : ℕ) → n ≡ i → (j' : ℕ) × (j ≡ suc j') → (j' : ℕ) × (suc j' < (put m.item i it n).valid)
          × (t ≡ (put m.item i it n).stamped_at (suc j'))
      newest n e z = (
        z.0,
        subst (λ (y : Item). suc z.0 < y.valid) (sym (put_same m.item i it n e)) (omega (arith, z.1)),
        subst (λ (y : Item). t ≡ y.stamped_at (suc z.0)) (sym (put_same m.item i it n e))
            (sym (put_same (m.item i).stamped_at j t (suc z.0) (sym z.1))),
      )
