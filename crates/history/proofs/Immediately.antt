-- A vCAS that lost comes immediately after the change it lost to: at that instant there is nothing else but others that lost to it.
use Rattle.std.specs.Prelude.{◌≡◌, refl, ◌≢◌, ◌⊎◌, Bool, true, false, List, [], ◌∷◌, ◌++◌, ℕ, zero, suc, ◌+◌, ◌*◌, ◌≤◌, ◌<◌, length, get_or}
use Rattle.std.proofs.Common.{ap, ap₂, sym, ◌∙◌, subst, inl, inr, arith}
use Rattle.history.specs.Tools.{Split, split, Same, eq, ne, same?}
use Rattle.history.specs.Definition1.{Follows, Operation, register, v_read, v_cas, take_snapshot, read_snapshot, total}
use Rattle.history.specs.Notes.{Deed, Note, ledger}
use Rattle.history.specs.Notes as Notes
use Rattle.history.specs.NoteParts.{deed_item, note_tag, note_worker, note_line, note_deed}
use Rattle.history.specs.Statements.{Executed, LostTo, In, Falling, Immediately}
use Rattle.history.specs.Machine.{Item, Place, unplaced, awaits, changes, observes, Catalogue}
use Rattle.history.proofs.RightAnswers.{RightAnswer, TotalRead, AtLastStep}
use Rattle.history.proofs.Places.{ChangeRight, ObserverRight, PlaceRight, Invariant}
use Rattle.history.proofs.MachineOrder.{key_of}
use Rattle.history.proofs.OrderShown.{operation_tag}
use Rattle.history.proofs.Order.{has_one_order}
use Rattle.history.proofs.Trace.{HeadTraced, CasTraced, ends_43, ends_48, ends_52, EndTraced, Stamping, Traced, noted_past}
use Rattle.history.proofs.Moments.{Ended, BornBy, Moments}
use Rattle.history.proofs.TraceRun.{done_past}
use Rattle.history.proofs.Instants.{stamped_before, lost_to}

-- ---- at one time there is one note

pub noted_one : (x y : Note) (past past' run : List Note) → Follows x past run → Follows y past' run → length past ≡ length past' → (x ≡ y) ×
    (past ≡ past')
noted_one x y past past' [] a b e = absurd a
noted_one x y past past' (z ∷ l) (inl (p, q)) (inl (p', q')) e = (p ∙ sym p', q ∙ sym q')
noted_one x y past past' (z ∷ l) (inl (p, q)) (inr b) e = absurd (omega (arith, ap length q, noted_past y past' l b))
noted_one x y past past' (z ∷ l) (inr a) (inl (p, q)) e = absurd (omega (arith, ap length q, noted_past x past l a))
noted_one x y past past' (z ∷ l) (inr a) (inr b) e = noted_one x y past past' l a b e

module _ (run : List Note) where
  -- two events at one time are one
  pub same_event : {o o' k k' t : ℕ} {d d' : Deed} → Executed run o k d t → Executed run o' k' d' t → (k ≡ k') × (d ≡ d') × (o ≡ o')
  same_event {o} {o'} {k} {k'} {t} {d} {d'} a b =
      let z : (Notes.stepped a.w k d a.e ≡ Notes.stepped b.w k' d' b.e) × (a.past ≡ b.past) = noted_one (Notes.stepped a.w k d a.e)
      (Notes.stepped b.w k' d' b.e) a.past b.past run a.noted b.noted (a.at ∙ sym b.at) in (
        ap note_line z.0,
        ap note_deed z.0,
        sym a.its ∙ ap₂ (λ (l : List Note) (w : ℕ). (ledger l).current w) z.1 (ap note_worker z.0)
            ∙ b.its,
      )

  pub other_line : {o o' k k' t : ℕ} {d d' : Deed} → Executed run o k d t → Executed run o' k' d' t → k ≢ k' → ⊥
  other_line a b n = n (same_event a b).0

-- a registering call is no step
pub not_registered : (run : List Note) {it : Item} {i o k : ℕ} {d : Deed} → BornBy it run i → Executed run o k d (it.effect_at 0) → ⊥
not_registered run {it} {i} {o} {k} {d} b r =
    let z : ◌≡◌ {A = ℕ} 1 3 = ap note_tag (noted_one (Notes.registered i (it.value 0) it.size) (Notes.stepped r.w k d r.e) b.past
    r.past run
    b.noted r.noted (b.at ∙ sym r.at)).0 in omega arith

-- ---- what else takes effect at the instant of version g + 1 of item i

module _ (s : Catalogue) (invariant : Invariant s) (run : List Note) (T : Traced s run) (M : Moments s run) (i g : ℕ)
    (good : suc g < (s.memory.item i).valid) where
  -- the step at that instant is the line 21
  read_21 : (t : ℕ) → t ≡ (s.memory.item i).effect_at (suc g) → Executed run (T.memory.stamped i g good).o 21 Notes.nothing t
  read_21 t e = subst (λ (t : ℕ). Executed run (T.memory.stamped i g good).o 21 Notes.nothing t) (sym e) (T.memory.stamped i g good).read

  -- a change at that instant is this one
  pub same_change : (i' j : ℕ) → j < (s.memory.item i').valid → (s.memory.item i').effect_at j ≡ (s.memory.item i).effect_at (suc g) →
      (i' ≡ i) × (j ≡ suc g)
  same_change i' zero p e = absurd (other_note (M.births i' (there (split i' s.memory.items))) (read_21 _ e))
    where
      other_note : BornBy (s.memory.item i') run i' → Executed run (T.memory.stamped i g good).o 21 Notes.nothing ((s.memory.item i').effect_at 0) →
          ⊥
      other_note b r = not_registered run b r

      there : Split i' s.memory.items → i' < s.memory.items
      there (Split.less q) = q
      there (Split.more q) = absurd (omega (arith, invariant.kept.memory.unregistered i' q, (invariant.kept.memory.item i').valid_published))
  same_change i' (suc j) p e = (item, version (same? j g))
    where
      S' : Stamping (s.memory.item i') run i' (suc j)
      S' = T.memory.stamped i' j p

      same_o : S'.o ≡ (T.memory.stamped i g good).o
      same_o = (same_event run S'.read (read_21 _ e)).2

      when : (s.memory.item i').stamped_at (suc j) ≡ (s.memory.item i).stamped_at (suc g)
      when = omega (
        arith,
        S'.own_next 22 _ _
            (subst (λ (o : ℕ). Executed run o 22 (Notes.stamps i) ((s.memory.item i).stamped_at (suc g))) (sym same_o)
            (T.memory.stamped i g good).stored) (omega (arith, (T.memory.stamped i g good).before)),
        (T.memory.stamped i g good).own_next 22 _ _
            (subst (λ (o : ℕ). Executed run o 22 (Notes.stamps i') ((s.memory.item i').stamped_at (suc j))) same_o
            S'.stored) (omega (arith, S'.before)),
      )

      item : i' ≡ i
      item = ap deed_item
          (same_event run S'.stored
          (subst (λ (t : ℕ). Executed run (T.memory.stamped i g good).o 22 (Notes.stamps i) t) (sym when)
          (T.memory.stamped i g good).stored)).1

      good' : suc j < (s.memory.item i).valid
      good' = subst (λ (n : ℕ). suc j < (s.memory.item n).valid) item p

      when' : (s.memory.item i).stamped_at (suc j) ≡ (s.memory.item i).stamped_at (suc g)
      when' = ap (λ (n : ℕ). (s.memory.item n).stamped_at (suc j)) (sym item) ∙ when

      rises : (a b : ℕ) → a < b → b < (s.memory.item i).valid → (s.memory.item i).stamped_at a < (s.memory.item i).stamped_at b
      rises a b q r = omega (
        arith,
        stamped_before invariant.kept.memory i a b q (omega (arith, (invariant.kept.memory.item i).valid_published)),
        (invariant.kept.memory.item i).effect_after_46 b r,
        (invariant.kept.memory.item i).effect_before_22 b r,
      )

      version : Same j g → suc j ≡ suc g
      version (eq z) = ap suc z
      version (ne z) = absurd (order (split j g))
        where
          order : Split j g → ⊥
          order (Split.less q) = omega (arith, rises (suc j) (suc g) (omega arith) good, when')
          order (Split.more q) = omega (arith, rises (suc g) (suc j) (omega arith) good', when')

  -- the instant of a fetched head is no line 21
  head_not : (q line i' : ℕ) (p : Place) → line ≢ 21 → (H : HeadTraced s.memory run q line i' p) → H.τ ≡ (s.memory.item i).effect_at (suc g) → ⊥
  head_not q line i' p a H e = at H.fetched.valid refl
    where
      at : (b : Bool) → H.fetched.valid ≡ b → ⊥
      at true v = other_line run H.fetched.executed (read_21 H.f (omega (arith, (H.fetched.yes v).1, H.at))) a
      at false v = stamped H.j refl
        where
          stamped : (j : ℕ) → H.j ≡ j → ⊥
          stamped zero z = omega (arith, (H.fetched.no v).0)
          stamped (suc j) z =
              other_line run (T.memory.stamped i' j (omega (arith, H.good))).stored
              (read_21 ((s.memory.item i').stamped_at (suc j)) (ap (s.memory.item i').stamped_at (sym z)
              ∙ omega (arith, (H.fetched.no v).1 H.good, H.at))) (omega arith)

  abbrev place_tag : Place → ℕ
  place_tag unplaced = 0
  place_tag (awaits a b) = 1
  place_tag (changes a b) = 2
  place_tag (observes t a b) = 3

  abbrev observed_at : Place → ℕ
  observed_at unplaced = 0
  observed_at (awaits a b) = 0
  observed_at (changes a b) = 0
  observed_at (observes t a b) = t

  -- an operation that saw at that instant lost to this change
  sees_then : (q t j x : ℕ) → s.place q ≡ observes t j x → t ≡ (s.memory.item i).effect_at (suc g) → (op : Operation) → (s.fate q).operation ≡ op →
      EndTraced s.memory run q op (s.fate q).lines (s.place q) →
      LostTo run q i ((s.memory.item i).author (suc g))
  sees_then q t j x at e (register a b c) w E =
      absurd (subst (λ (op : Operation). RightAnswer s.memory op q (s.fate q).lines t j x) w (seen q t j x at).seen)
    where
      seen : (q t j x : ℕ) → s.place q ≡ observes t j x → ObserverRight s.now q t j x s.memory (s.fate q)
      seen q t j x at = subst (λ (p : Place). PlaceRight s.now q s.memory (s.fate q) p) at (invariant.kept.places q)
  sees_then q t j x at e (v_read i') w E = absurd (head_not q 37 i' (s.place q) (omega arith) E (sym (ap observed_at E.is) ∙ ap observed_at at ∙ e))
  sees_then q t j x at e (v_cas i' a b) w E = by E
    where
      by : CasTraced s.memory run q i' (s.fate q).lines (s.place q) → LostTo run q i ((s.memory.item i).author (suc g))
      by (ends_43 z H) = absurd (head_not q 41 i' (s.place q) (omega arith) H (sym (ap observed_at H.is) ∙ ap observed_at at ∙ e))
      by (ends_48 z k p m) =
          let c : s.place q ≡ changes i' (suc k) = ap s.place (sym m)
          ∙ (invariant.kept.versions_right i' (suc k) (omega (arith, (invariant.kept.memory.item i').valid_published))).valid p in
          let u : ◌≡◌ {A = ℕ} 2 3 = ap place_tag (sym c ∙ at) in absurd (omega arith)
      by (ends_52 z H) =
          let n : (i' ≡ i) × (suc H.g ≡ suc g) = same_change i' (suc H.g) H.good (sym H.at ∙ sym (ap observed_at H.is) ∙ ap observed_at at
          ∙ e) in
          subst (λ (k : ℕ). LostTo run q i ((s.memory.item i).author k)) n.1
          (subst (λ (n : ℕ). LostTo run q n ((s.memory.item n).author (suc H.g))) n.0 (lost_to s invariant run T q i' H.g H.lost))
  sees_then q t j x at e take_snapshot w E =
      let O : ObserverRight s.now q t j x s.memory (s.fate q) = subst (λ (p : Place). PlaceRight s.now q s.memory (s.fate q) p) at
      (invariant.kept.places q) in
      let y : (x < s.memory.camera.counter) × (s.memory.camera.left_at x ≡ t) =
      subst (λ (op : Operation). RightAnswer s.memory op q (s.fate q).lines t j x) w O.seen in
      absurd (other_line run (T.memory.left x y.0).1 (read_21 (s.memory.camera.left_at x) (y.1 ∙ e)) (omega arith))
  sees_then q t j x at e (read_snapshot i' h) w E = absurd (last_step (M.ends q O.done))
    where
      O : ObserverRight s.now q t j x s.memory (s.fate q)
      O = subst (λ (p : Place). PlaceRight s.now q s.memory (s.fate q) p) at (invariant.kept.places q)

      ended : suc t ≡ suc (s.fate q).ended_at
      ended = subst (λ (op : Operation). AtLastStep op t (suc (s.fate q).ended_at)) w O.last

      line_is : get_or (s.fate q).lines 0 0 ≡ 34
      line_is = ap (λ (l : List ℕ). get_or l 0 0) E.read.lines

      last_step : Ended run q (s.fate q) → ⊥
      last_step (inl z) = let u : ◌≡◌ {A = ℕ} 4 0 = ap operation_tag (sym w) ∙ z in omega arith
      last_step (inr (d, z)) = other_line run z (read_21 (s.fate q).ended_at (omega (arith, ended))) (omega (arith, line_is))
  sees_then q t j x at e (total a h) w E = absurd (last_step (M.ends q O.done))
    where
      O : ObserverRight s.now q t j x s.memory (s.fate q)
      O = subst (λ (p : Place). PlaceRight s.now q s.memory (s.fate q) p) at (invariant.kept.places q)

      R : TotalRead s.memory a h q (s.fate q).lines t x
      R = subst (λ (op : Operation). RightAnswer s.memory op q (s.fate q).lines t j x) w O.seen

      ended : suc t ≡ suc (s.fate q).ended_at
      ended = subst (λ (op : Operation). AtLastStep op t (suc (s.fate q).ended_at)) w O.last

      line_is : get_or (s.fate q).lines 0 0 ≡ 0
      line_is = ap (λ (l : List ℕ). get_or l 0 0) R.lines

      last_step : Ended run q (s.fate q) → ⊥
      last_step (inl z) = let u : ◌≡◌ {A = ℕ} 5 0 = ap operation_tag (sym w) ∙ z in omega arith
      last_step (inr (d, z)) = other_line run z (read_21 (s.fate q).ended_at (omega (arith, ended))) (omega (arith, line_is))

  -- all that stands at that instant
  at_instant : (q : ℕ) → 2 * (s.memory.item i).effect_at (suc g) ≤ key_of s.memory (s.place q) →
      key_of s.memory (s.place q) ≤ 2 * (s.memory.item i).effect_at (suc g) + 1 →
      (q ≡ (s.memory.item i).author (suc g)) ⊎ LostTo run q i ((s.memory.item i).author (suc g))
  at_instant q a b = by (s.place q) refl a b
    where
      late : 0 < (s.memory.item i).effect_at (suc g)
      late = omega (
        arith,
        (invariant.kept.memory.item i).author_before g (omega (arith, good, (invariant.kept.memory.item i).valid_published)),
        (invariant.kept.memory.item i).effect_after_46 (suc g) good,
      )

      right : (p : Place) → s.place q ≡ p → PlaceRight s.now q s.memory (s.fate q) p
      right p e = subst (λ (p : Place). PlaceRight s.now q s.memory (s.fate q) p) e (invariant.kept.places q)

      by : (p : Place) → s.place q ≡ p → 2 * (s.memory.item i).effect_at (suc g) ≤ key_of s.memory p →
          key_of s.memory p ≤ 2 * (s.memory.item i).effect_at (suc g) + 1 → (q ≡ (s.memory.item i).author (suc g))
          ⊎ LostTo run q i ((s.memory.item i).author (suc g))
      by unplaced e a b = absurd (omega (arith, late))
      by (awaits u v) e a b = absurd (omega (arith, late))
      by (changes u v) e a b =
          let C : ChangeRight s.now q u v s.memory (s.fate q) = right (changes u v) e in
          let n : (u ≡ i) × (v ≡ suc g) = same_change u v C.good (omega arith) in
          inl (sym C.mine ∙ ap₂ (λ (u v : ℕ). (s.memory.item u).author v) n.0 n.1)
      by (observes t j x) e a b =
          let O : ObserverRight s.now q t j x s.memory (s.fate q) = right (observes t j x) e in
          inr (sees_then q t j x e (omega arith) (s.fate q).operation refl (T.ends q O.done))

-- ---- in the order

module _ (key : ℕ → ℕ) (run : List Note) (c i o : ℕ) (h : (q : ℕ) → key c ≤ key q → key q ≤ key o → (q ≡ c) ⊎ LostTo run q i c) where
  -- the list up to c: only operations that lost
  abbrev Behind : List ℕ → Type 0
  Behind l = (between : List ℕ) × (older : List ℕ) × (l ≡ between ++ (c ∷ older)) × ((q : ℕ) → In q between → LostTo run q i c)

  one_behind : (q : ℕ) (l : List ℕ) → LostTo run q i c → Behind l → Behind (q ∷ l)
  one_behind q l x y = (q ∷ y.0, y.1, ap (λ (l : List ℕ). q ∷ l) y.2, lost)
    where
      lost : (q' : ℕ) → In q' (q ∷ y.0) → LostTo run q' i c
      lost q' (inl e) = subst (λ (q : ℕ). LostTo run q i c) (sym e) x
      lost q' (inr n) = y.3 q' n

  behind : (l : List ℕ) → Falling key l → In c l → ((q : ℕ) → In q l → key q ≤ key o) → Behind l
  behind [] f m b = absurd m
  behind (q ∷ l) f m b = by (λ n. behind l f.1 n (λ q' n. b q' (inr n))) m
    where
      found : q ≡ c → Behind (q ∷ l)
      found e = ([], l, ap (λ (q : ℕ). q ∷ l) e, λ q n. absurd n)

      step : (In c l → Behind l) → In c l → (q ≡ c) ⊎ LostTo run q i c → Behind (q ∷ l)
      step g m (inl e) = found e
      step g m (inr x) = one_behind q l x (g m)

      by : (In c l → Behind l) → In c (q ∷ l) → Behind (q ∷ l)
      by g (inl e) = found (sym e)
      by g (inr m) = step g m (h q (f.0 c m) (b q (inl refl)))

  abbrev RightAfter : List ℕ → Type 0
  RightAfter l = (newer : List ℕ) × (between : List ℕ) × (older : List ℕ) × (l ≡ newer ++ (o ∷ (between ++ (c ∷ older)))) ×
      ((q : ℕ) → In q between → LostTo run q i c)

  -- c is older than o
  older : (l : List ℕ) → Falling key l → key c < key o → In o l → In c l → RightAfter l
  older [] f d n m = absurd m
  older (q ∷ l) f d n m = by (λ n m. older l f.1 d n m) n m
    where
      here : o ≡ q → Behind l → RightAfter (q ∷ l)
      here e y = ([], y.0, y.1, ap₂ (λ (q : ℕ) (l : List ℕ). q ∷ l) (sym e) y.2, y.3)

      there : RightAfter l → RightAfter (q ∷ l)
      there y = (q ∷ y.0, y.1, y.2, ap (λ (l : List ℕ). q ∷ l) y.3, y.4)

      by : (In o l → In c l → RightAfter l) → In o (q ∷ l) → In c (q ∷ l) → RightAfter (q ∷ l)
      by g (inl e) (inl z) = absurd (omega (arith, ap key (e ∙ sym z)))
      by g (inl e) (inr m) = here e (behind l f.1 m (λ q' n. omega (arith, f.0 q' n, ap key e)))
      by g (inr n) (inl z) = absurd (omega (arith, f.0 o n, ap key z))
      by g (inr n) (inr m) = there (g n m)

module _ (s : Catalogue) (invariant : Invariant s) (run : List Note) (T : Traced s run) (M : Moments s run) where
  pub right_after : (o i old new : ℕ) → (s.fate o).operation ≡ v_cas i old new → (s.fate o).done ≡ true → get_or (s.fate o).lines 0 0 ≡ 52 →
      Immediately run o i (has_one_order s invariant).order
  right_after o i old new w d l = by (subst (λ (op : Operation). EndTraced s.memory run o op (s.fate o).lines (s.place o)) w (T.ends o d))
    where
      by : CasTraced s.memory run o i (s.fate o).lines (s.place o) → Immediately run o i (has_one_order s invariant).order
      by (ends_43 z H) = absurd (omega (arith, l, z))
      by (ends_48 z k p m) = absurd (omega (arith, l, z))
      by (ends_52 z H) =
          ((s.memory.item i).author (suc H.g), lost_to s invariant run T o i H.g H.lost, after.0, after.1, after.2, after.3, after.4)
        where
          loss_key : key_of s.memory (s.place o) ≡ 2 * (s.memory.item i).effect_at (suc H.g) + 1
          loss_key = ap (key_of s.memory) H.is ∙ ap (λ (t : ℕ). 2 * t + 1) H.at

          change_key : key_of s.memory (s.place ((s.memory.item i).author (suc H.g))) ≡ 2 * (s.memory.item i).effect_at (suc H.g)
          change_key = ap (key_of s.memory)
              ((invariant.kept.versions_right i (suc H.g) (omega (arith, H.good, (invariant.kept.memory.item i).valid_published))).valid H.good)

          near : (q : ℕ) → key_of s.memory (s.place ((s.memory.item i).author (suc H.g))) ≤ key_of s.memory (s.place q) →
              key_of s.memory (s.place q) ≤ key_of s.memory (s.place o) →
              (q ≡ (s.memory.item i).author (suc H.g)) ⊎ LostTo run q i ((s.memory.item i).author (suc H.g))
          near q a b = at_instant s invariant run T M i H.g H.good q (omega (arith, change_key)) (omega (arith, loss_key))

          after : RightAfter (λ q. key_of s.memory (s.place q)) run ((s.memory.item i).author (suc H.g)) i o near (has_one_order s invariant).order
          after =
              older (λ q. key_of s.memory (s.place q)) run ((s.memory.item i).author (suc H.g)) i o near
              (has_one_order s invariant).order (has_one_order s invariant).keys (omega (arith, change_key, loss_key))
              ((has_one_order s invariant).all o (done_past s invariant o d) d) ((has_one_order s invariant).changed i (suc H.g) H.good)
