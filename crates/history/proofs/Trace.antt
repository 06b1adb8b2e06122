-- The times that the machine keeps are those of steps in its run: each has its note.
use Rattle.std.specs.Prelude.{◌≡◌, Bool, true, false, not, List, [], ◌∷◌, ℕ, suc, ◌≤◌, ◌<◌, max, eqb, length, get_or}
use Rattle.std.proofs.Common.{ap, ◌∙◌, inl, inr, arith}
use Rattle.std.proofs.Math.Path.{sym}
use Rattle.history.specs.Tools.{Split, split}
use Rattle.history.specs.Definition1.{Follows}
use Rattle.history.specs.Notes.{Deed, Note}
use Rattle.history.specs.Notes as Notes
use Rattle.history.specs.Statements.{Executed}
use Rattle.history.specs.Machine.{
  Item,
  Memory,
  Operation,
  register,
  v_read,
  v_cas,
  take_snapshot,
  read_snapshot,
  total,
  Then,
  then_39,
  then_43,
  then_48,
  then_52,
  then_34,
  then_total_34,
  Phase,
  line_37,
  line_39,
  line_41,
  line_43,
  line_45,
  line_46,
  line_48,
  line_50,
  line_51,
  line_52,
  line_5,
  line_6,
  line_32,
  line_34,
  total_32,
  total_34,
  closing,
  line_20,
  line_21,
  line_22,
  line_number,
  Place,
  observes,
  Worker,
  idle,
  busy,
  Catalogue,
}
use Rattle.history.specs.Facts.{CounterWas, Fetched, Read, MemoryFacts, Later}
use Rattle.history.proofs.Later.{counter_later, fetched_later, read_later}

-- ---- more notes keep an event

pub executed_more : {run : List Note} {o line t : ℕ} {d : Deed} (x : Note) → Executed run o line d t → Executed (x ∷ run) o line d t
executed_more x e = record { past = e.past; w = e.w; e = e.e; noted = inr e.noted; its = e.its; at = e.at }

pub noted_past : (y : Note) (past run : List Note) → Follows y past run → length past < length run
noted_past y past [] n = absurd n
noted_past y past (z ∷ l) (inl (p, q)) = omega (arith, ap length q)
noted_past y past (z ∷ l) (inr n) = omega (arith, noted_past y past l n)

-- an event is past
pub executed_past : {run : List Note} {o line t : ℕ} {d : Deed} → Executed run o line d t → t < length run
executed_past {run} {o} {line} {t} {d} e = omega (arith, noted_past (Notes.stepped e.w line d e.e) e.past run e.noted, e.at)

-- a note that is no step of operation o
abbrev pub Foreign : List Note → Note → ℕ → Type 0
Foreign run x o = (line : ℕ) (d : Deed) (t : ℕ) → Executed (x ∷ run) o line d t → Executed run o line d t

-- ---- what the notes say of a worker's phase

-- operation o fetched version j of item i as the head at f: its stamp was valid then, or not yet
pub record FetchedBy (it : Item) (run : List Note) (o line i j f : ℕ) : Type 0 where
  pub valid : Bool
  pub executed : Executed run o line (Notes.fetches i valid) f
  pub got : Fetched it j f
  pub yes : valid ≡ true → (j < it.valid) × (it.stamped_at j < f)
  pub no : valid ≡ false → (0 < j) × (j < it.valid → f < it.stamped_at j)

pub record LostAt (it : Item) (run : List Note) (o i g : ℕ) : Type 0 where
  pub f : ℕ
  pub fetched : FetchedBy it run o 41 i g f
  pub soon : suc g < it.versions

abbrev pub ThenTraced : Memory → List Note → ℕ → Then → ℕ → Type 0
ThenTraced m run o (then_39 i f) j = FetchedBy (m.item i) run o 37 i j f
ThenTraced m run o (then_43 i a b f) j = FetchedBy (m.item i) run o 41 i j f
ThenTraced m run o (then_48 i a b) j = Unit {0}
ThenTraced m run o (then_52 i a b g) j = LostAt (m.item i) run o i g
ThenTraced m run o (then_34 i h f) j = FetchedBy (m.item i) run o 32 i j f
ThenTraced m run o (then_total_34 q h k i u f) j = Unit {0}

-- line 21 was executed at r, and nothing since
pub record ReadAt (run : List Note) (o r : ℕ) : Type 0 where
  pub read : Executed run o 21 Notes.nothing r
  pub since : (line : ℕ) (d : Deed) (t : ℕ) → Executed run o line d t → t ≤ r

abbrev pub PhaseTraced : Memory → List Note → ℕ → Phase → Type 0
PhaseTraced m run o (line_37 i) = Unit {0}
PhaseTraced m run o (line_39 i f j) = FetchedBy (m.item i) run o 37 i j f
PhaseTraced m run o (line_41 i a b) = Unit {0}
PhaseTraced m run o (line_43 i a b f j) = FetchedBy (m.item i) run o 41 i j f
PhaseTraced m run o (line_45 i a b f j) = FetchedBy (m.item i) run o 41 i j f
PhaseTraced m run o (line_46 i a b f j y) = FetchedBy (m.item i) run o 41 i j f
PhaseTraced m run o (line_48 i a b j) = Unit {0}
PhaseTraced m run o (line_50 i a b g y) = LostAt (m.item i) run o i g
PhaseTraced m run o (line_51 i a b g) = LostAt (m.item i) run o i g
PhaseTraced m run o (line_52 i a b g j) = LostAt (m.item i) run o i g
PhaseTraced m run o line_5 = Unit {0}
PhaseTraced m run o (line_6 c r) = Executed run o 5 Notes.nothing r
PhaseTraced m run o (line_32 i h) = Unit {0}
PhaseTraced m run o (line_34 i h f j x) = FetchedBy (m.item i) run o 32 i j f
PhaseTraced m run o (total_32 q h k i u) = Unit {0}
PhaseTraced m run o (total_34 q h k i u f j x) = Unit {0}
PhaseTraced m run o (closing q h k u) = Unit {0}
PhaseTraced m run o (line_20 c j) = ThenTraced m run o c j
PhaseTraced m run o (line_21 c j) = ThenTraced m run o c j
PhaseTraced m run o (line_22 c j n r) = ThenTraced m run o c j × ReadAt run o r

-- the latest line that operation o executed, where a line comes next: if it was 20, it found TBD exactly where that is 21
pub record Latest (run : List Note) (o next line : ℕ) : Type 0 where
  pub d : Deed
  pub t : ℕ
  pub executed : Executed run o line d t
  pub since : (line' : ℕ) (d' : Deed) (t' : ℕ) → Executed run o line' d' t' → t' ≤ t
  pub found : line ≡ 20 → d ≡ Notes.finds (not (eqb next 21))

-- the latest of its lines l, if there is one
abbrev pub LatestOf : List Note → (o next : ℕ) → List ℕ → Type 0
LatestOf run o next [] = (line : ℕ) (d : Deed) (t : ℕ) → Executed run o line d t → ⊥
LatestOf run o next (line ∷ l) = Latest run o next line

pub latest_more : (run : List Note) (x : Note) (o next : ℕ) (l : List ℕ) → Foreign run x o → LatestOf run o next l → LatestOf (x ∷ run) o next l
latest_more run x o next [] z k = λ line d t e. k line d t (z line d t e)
latest_more run x o next (line ∷ l) z k =
    record {
      d = k.d;
      t = k.t;
      executed = executed_more x k.executed;
      since = λ line' d' t' e. k.since line' d' t' (z line' d' t' e);
      found = k.found;
    }

-- ---- and of an operation that answered

pub record HeadTraced (m : Memory) (run : List Note) (o line i : ℕ) (p : Place) : Type 0 where
  pub τ : ℕ
  pub j : ℕ
  pub x : ℕ
  pub f : ℕ
  pub is : p ≡ observes τ j x
  pub fetched : FetchedBy (m.item i) run o line i j f
  pub good : j < (m.item i).valid
  pub at : τ ≡ max f ((m.item i).stamped_at j)

pub record LossTraced (m : Memory) (run : List Note) (o i : ℕ) (p : Place) : Type 0 where
  pub τ : ℕ
  pub g : ℕ
  pub x : ℕ
  pub is : p ≡ observes τ (suc g) x
  pub lost : LostAt (m.item i) run o i g
  pub good : suc g < (m.item i).valid
  pub at : τ ≡ (m.item i).effect_at (suc g)

pub data CasTraced (m : Memory) (run : List Note) (o i : ℕ) (l : List ℕ) (p : Place) : Type 0 where
  ends_43 : get_or l 0 0 ≡ 43 → HeadTraced m run o 41 i p → CasTraced m run o i l p
  ends_48 : get_or l 0 0 ≡ 48 → (j : ℕ) → suc j < (m.item i).valid → (m.item i).author (suc j) ≡ o → CasTraced m run o i l p
  ends_52 : get_or l 0 0 ≡ 52 → LossTraced m run o i p → CasTraced m run o i l p

-- a takeSnapshot read the counter x at r
pub record TakeTraced (m : Memory) (run : List Note) (o : ℕ) (p : Place) : Type 0 where
  pub τ : ℕ
  pub j : ℕ
  pub x : ℕ
  pub r : ℕ
  pub is : p ≡ observes τ j x
  pub read : Executed run o 5 Notes.nothing r
  pub was : CounterWas m.camera r x

pub record ReadTraced (m : Memory) (run : List Note) (o i h : ℕ) (l : List ℕ) (p : Place) : Type 0 where
  pub τ : ℕ
  pub j : ℕ
  pub x : ℕ
  pub is : p ≡ observes τ j x
  pub read : Read m i h o (suc τ) j l
  pub fetched : FetchedBy (m.item i) run o 32 i read.top read.f
  pub value : x ≡ (m.item i).value j

abbrev pub EndTraced : Memory → List Note → ℕ → Operation → List ℕ → Place → Type 0
EndTraced m run o (register i v z) l p = Unit {0}
EndTraced m run o (v_read i) l p = HeadTraced m run o 37 i p
EndTraced m run o (v_cas i a b) l p = CasTraced m run o i l p
EndTraced m run o take_snapshot l p = TakeTraced m run o p
EndTraced m run o (read_snapshot i h) l p = ReadTraced m run o i h l p
EndTraced m run o (total q h) l p = Unit {0}

-- ---- versions and the counter

-- version j was stamped by operation o, whose own step before was the line 21 of its effect
pub record Stamping (it : Item) (run : List Note) (i j : ℕ) : Type 0 where
  pub o : ℕ
  pub stored : Executed run o 22 (Notes.stamps i) (it.stamped_at j)
  pub read : Executed run o 21 Notes.nothing (it.effect_at j)
  pub before : it.effect_at j < it.stamped_at j
  pub own_next : (line : ℕ) (d : Deed) (t : ℕ) → Executed run o line d t → it.effect_at j < t → it.stamped_at j ≤ t

pub record MemoryTraced (m : Memory) (run : List Note) : Type 0 where
  pub published : (i j : ℕ) → suc j < (m.item i).versions → Executed run ((m.item i).author (suc j)) 46 (Notes.publishes i ((m.item i).value (suc j)))
      ((m.item i).published_at (suc j))
  pub publishes_only : (o i v p : ℕ) → Executed run o 46 (Notes.publishes i v) p → (j : ℕ) × (suc j < (m.item i).versions)
      × (p ≡ (m.item i).published_at (suc j))
  pub stamped : (i j : ℕ) → suc j < (m.item i).valid → Stamping (m.item i) run i (suc j)
  pub stamps_only : (o i s : ℕ) → Executed run o 22 (Notes.stamps i) s → (j : ℕ) × (suc j < (m.item i).valid) × (s ≡ (m.item i).stamped_at (suc j))
  pub left : (h : ℕ) → h < m.camera.counter → (o : ℕ) × Executed run o 6 (Notes.moves h) (m.camera.left_at h)

abbrev pub WorkerTraced : Memory → List Note → Worker → Type 0
WorkerTraced m run idle = Unit {0}
WorkerTraced m run (busy o l ph) = PhaseTraced m run o ph × LatestOf run o (line_number ph) l

pub record Traced (s : Catalogue) (run : List Note) : Type 0 where
  pub memory : MemoryTraced s.memory run
  pub workers : (w : ℕ) → WorkerTraced s.memory run (s.worker w)
  pub ends : (o : ℕ) → (s.fate o).done ≡ true → EndTraced s.memory run o (s.fate o).operation (s.fate o).lines (s.place o)

-- ---- later

module _ {t : ℕ} {m m' : Memory} (L : Later t m m') (known : MemoryFacts t m) (run : List Note) (x : Note) where
  fetched_more : (o line i j f : ℕ) → f < t → FetchedBy (m.item i) run o line i j f → FetchedBy (m'.item i) (x ∷ run) o line i j f
  fetched_more o line i j f b e =
      record {
        valid = e.valid;
        executed = executed_more x e.executed;
        got = fetched_later (L.item i) b e.got;
        yes = λ v. (omega (arith, (e.yes v).0, (L.item i).more_valid), omega (arith, (e.yes v).1, (L.item i).stamped_at j (e.yes v).0));
        no = λ v. ((e.no v).0, λ g. at v g (split j (m.item i).valid));
      }
    where
      at : e.valid ≡ false → j < (m'.item i).valid → Split j (m.item i).valid → f < (m'.item i).stamped_at j
      at v g (Split.less p) = omega (arith, (e.no v).1 p, (L.item i).stamped_at j p)
      at v g (Split.more p) = omega (arith, (L.item i).new_stamped j p g)

  -- a fetch is past
  fetched_past : (o line i j f : ℕ) → length run ≡ t → FetchedBy (m.item i) run o line i j f → f < t
  fetched_past o line i j f b e = omega (arith, executed_past e.executed)

  module _ (now : length run ≡ t) where
    pub fetch_later : (o line i j f : ℕ) → FetchedBy (m.item i) run o line i j f → FetchedBy (m'.item i) (x ∷ run) o line i j f
    fetch_later o line i j f e = fetched_more o line i j f (fetched_past o line i j f now e) e

    pub lost_later : (o i g : ℕ) → LostAt (m.item i) run o i g → LostAt (m'.item i) (x ∷ run) o i g
    lost_later o i g e = record { f = e.f; fetched = fetch_later o 41 i g e.f e.fetched; soon = omega (arith, e.soon, (L.item i).more_versions) }

    pub then_traced_later : (o : ℕ) (c : Then) (j : ℕ) → ThenTraced m run o c j → ThenTraced m' (x ∷ run) o c j
    then_traced_later o (then_39 i f) j e = fetch_later o 37 i j f e
    then_traced_later o (then_43 i a b f) j e = fetch_later o 41 i j f e
    then_traced_later o (then_48 i a b) j e = tt
    then_traced_later o (then_52 i a b g) j e = lost_later o i g e
    then_traced_later o (then_34 i h f) j e = fetch_later o 32 i j f e
    then_traced_later o (then_total_34 q h k i u f) j e = tt

    -- for a worker that does not step
    pub phase_traced_later : (o : ℕ) (ph : Phase) → Foreign run x o → PhaseTraced m run o ph → PhaseTraced m' (x ∷ run) o ph
    phase_traced_later o (line_37 i) z e = tt
    phase_traced_later o (line_39 i f j) z e = fetch_later o 37 i j f e
    phase_traced_later o (line_41 i a b) z e = tt
    phase_traced_later o (line_43 i a b f j) z e = fetch_later o 41 i j f e
    phase_traced_later o (line_45 i a b f j) z e = fetch_later o 41 i j f e
    phase_traced_later o (line_46 i a b f j y) z e = fetch_later o 41 i j f e
    phase_traced_later o (line_48 i a b j) z e = tt
    phase_traced_later o (line_50 i a b g y) z e = lost_later o i g e
    phase_traced_later o (line_51 i a b g) z e = lost_later o i g e
    phase_traced_later o (line_52 i a b g j) z e = lost_later o i g e
    phase_traced_later o line_5 z e = tt
    phase_traced_later o (line_6 c r) z e = executed_more x e
    phase_traced_later o (line_32 i h) z e = tt
    phase_traced_later o (line_34 i h f j y) z e = fetch_later o 32 i j f e
    phase_traced_later o (total_32 q h k i u) z e = tt
    phase_traced_later o (total_34 q h k i u f j y) z e = tt
    phase_traced_later o (closing q h k u) z e = tt
    phase_traced_later o (line_20 c j) z e = then_traced_later o c j e
    phase_traced_later o (line_21 c j) z e = then_traced_later o c j e
    phase_traced_later o (line_22 c j n r) z e =
        (then_traced_later o c j e.0, record { read = executed_more x e.1.read; since = λ line d u y. e.1.since line d u (z line d u y) })

    head_traced_later : (o line i : ℕ) (p : Place) → HeadTraced m run o line i p → HeadTraced m' (x ∷ run) o line i p
    head_traced_later o line i p e =
        record {
          τ = e.τ;
          j = e.j;
          x = e.x;
          f = e.f;
          is = e.is;
          fetched = fetch_later o line i e.j e.f e.fetched;
          good = omega (arith, e.good, (L.item i).more_valid);
          at = e.at ∙ ap (λ (v : ℕ). max e.f v) (sym ((L.item i).stamped_at e.j e.good));
        }

    cas_traced_later : (o i : ℕ) (l : List ℕ) (p : Place) → CasTraced m run o i l p → CasTraced m' (x ∷ run) o i l p
    cas_traced_later o i l p (ends_43 q e) = ends_43 q (head_traced_later o 41 i p e)
    cas_traced_later o i l p (ends_48 q j g e) = ends_48 q j (omega (arith, (L.item i).more_valid))
        ((L.item i).author (suc j) (omega (arith, (known.item i).valid_published)) ∙ e)
    cas_traced_later o i l p (ends_52 q e) =
        ends_52 q (record {
          τ = e.τ;
          g = e.g;
          x = e.x;
          is = e.is;
          lost = lost_later o i e.g e.lost;
          good = omega (arith, e.good, (L.item i).more_valid);
          at = e.at ∙ sym ((L.item i).effect_at (suc e.g) e.good);
        })

    pub end_later : (o : ℕ) (op : Operation) (l : List ℕ) (p : Place) → (o < t) → ((τ j y : ℕ) → p ≡ observes τ j y → τ < t) → EndTraced m run o op l p →
        EndTraced m' (x ∷ run) o op l p
    unfolding read_later
    end_later o (register i v z) l p a b e = tt
    end_later o (v_read i) l p a b e = head_traced_later o 37 i p e
    end_later o (v_cas i u v) l p a b e = cas_traced_later o i l p e
    end_later o take_snapshot l p a b e =
        record {
          τ = e.τ;
          j = e.j;
          x = e.x;
          r = e.r;
          is = e.is;
          read = executed_more x e.read;
          was = counter_later L.camera (omega (arith, executed_past e.read, now)) e.was;
        }
    end_later o (read_snapshot i h) l p a b e =
        record {
          τ = e.τ;
          j = e.j;
          x = e.x;
          is = e.is;
          read = read_later L (λ i. (known.item i).valid_published) a (b e.τ e.j e.x e.is) (omega arith) e.read;
          fetched = fetch_later o 32 i e.read.top e.read.f e.fetched;
          value = e.value ∙ sym ((L.item i).value e.j (omega (arith, e.read.sees.have, (known.item i).valid_published)));
        }
    end_later o (total q h) l p a b e = tt
