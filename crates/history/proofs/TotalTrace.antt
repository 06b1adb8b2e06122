-- The lines of a total, item by item, with the step of each line 32: what its phases say of the run.
use Rattle.std.specs.Prelude.{◌≡◌, List, [], ◌∷◌, ◌++◌, ℕ, suc, ◌≤◌, ◌<◌}
use Rattle.std.proofs.Common.{arith}
use Rattle.history.specs.Tools.{Split, split}
use Rattle.history.specs.Notes.{Note}
use Rattle.history.specs.Statements.{Fetched}
use Rattle.history.specs.Machine.{
  Memory,
  Operation,
  register,
  v_read,
  v_cas,
  take_snapshot,
  read_snapshot,
  total,
  Then,
  then_39,
  then_43,
  then_48,
  then_52,
  then_34,
  then_total_34,
  Phase,
  line_37,
  line_39,
  line_41,
  line_43,
  line_45,
  line_46,
  line_48,
  line_50,
  line_51,
  line_52,
  line_5,
  line_6,
  line_32,
  line_34,
  total_32,
  total_34,
  closing,
  line_20,
  line_21,
  line_22,
}
use Rattle.history.specs.Facts.{Read, MemoryFacts, Later}
use Rattle.history.proofs.Later.{read_later}
use Rattle.history.proofs.PhaseFacts.{Passing}
use Rattle.history.proofs.Trace.{executed_more}

-- a total that began at o has been through the items below i; the line 32 of the last was executed at g
pub data TotalTrace (m : Memory) (run : List Note) (h o e : ℕ) : ℕ → List ℕ → ℕ → Type 0 where
  none : TotalTrace m run h o e 0 [] 0
  skips : {i g : ℕ} {l : List ℕ} (f : ℕ) → Fetched run o i 32 f → g < f → 0 < (m.item i).valid → h < (m.item i).stamp 0 →
      TotalTrace m run h o e i l g → TotalTrace m run h o e (suc i) (32 ∷ l) f
  reads : {i g : ℕ} {l : List ℕ} (f : ℕ) → Fetched run o i 32 f → g < f → (j : ℕ) (r : List ℕ) (x : Read m i h o e j r) → x.f ≡ f →
      TotalTrace m run h o e i l g → TotalTrace m run h o e (suc i) (r ++ l) f

-- inside an item: its line 32 was executed at f
pub record InItem (m : Memory) (run : List Note) (h o e i f : ℕ) (done : List ℕ) : Type 0 where
  pub g : ℕ
  pub trace : TotalTrace m run h o e i done g
  pub event : Fetched run o i 32 f
  pub later : g < f

pub record TotalHelp (m : Memory) (run : List Note) (h o e i f : ℕ) (l : List ℕ) : Type 0 where
  pub done : List ℕ
  pub is : l ≡ 32 ∷ done
  pub inside : InItem m run h o e i f done

abbrev pub ThenTotal : Memory → List Note → (o e : ℕ) → List ℕ → Then → Type 0
ThenTotal m run o e l (then_39 i f) = Unit {0}
ThenTotal m run o e l (then_43 i a b f) = Unit {0}
ThenTotal m run o e l (then_48 i a b) = Unit {0}
ThenTotal m run o e l (then_52 i a b g) = Unit {0}
ThenTotal m run o e l (then_34 i h f) = Unit {0}
ThenTotal m run o e l (then_total_34 q h k i u f) = TotalHelp m run h o e i f l

pub record TotalWalk (m : Memory) (run : List Note) (h o e i f j x : ℕ) (l : List ℕ) : Type 0 where
  pub done : List ℕ
  pub here : List ℕ
  pub is : l ≡ here ++ done
  pub passing : Passing x j here
  pub inside : InItem m run h o e i f done

abbrev pub PhaseTotal : Memory → List Note → (o e : ℕ) → List ℕ → Phase → Type 0
PhaseTotal m run o e l (line_37 i) = Unit {0}
PhaseTotal m run o e l (line_39 i f j) = Unit {0}
PhaseTotal m run o e l (line_41 i a b) = Unit {0}
PhaseTotal m run o e l (line_43 i a b f j) = Unit {0}
PhaseTotal m run o e l (line_45 i a b f j) = Unit {0}
PhaseTotal m run o e l (line_46 i a b f j y) = Unit {0}
PhaseTotal m run o e l (line_48 i a b j) = Unit {0}
PhaseTotal m run o e l (line_50 i a b g y) = Unit {0}
PhaseTotal m run o e l (line_51 i a b g) = Unit {0}
PhaseTotal m run o e l (line_52 i a b g j) = Unit {0}
PhaseTotal m run o e l line_5 = Unit {0}
PhaseTotal m run o e l (line_6 c r) = Unit {0}
PhaseTotal m run o e l (line_32 i h) = Unit {0}
PhaseTotal m run o e l (line_34 i h f j x) = Unit {0}
PhaseTotal m run o e l (total_32 q h k i u) = (g : ℕ) × TotalTrace m run h o e i l g
PhaseTotal m run o e l (total_34 q h k i u f j x) = TotalWalk m run h o e i f j x l
PhaseTotal m run o e l (closing q h k u) = (g : ℕ) × TotalTrace m run h o e k l g
PhaseTotal m run o e l (line_20 c j) = ThenTotal m run o e l c
PhaseTotal m run o e l (line_21 c j) = (l' : List ℕ) × (l ≡ 20 ∷ l') × ThenTotal m run o e l' c
PhaseTotal m run o e l (line_22 c j n r) = (l' : List ℕ) × (l ≡ 21 ∷ 20 ∷ l') × ThenTotal m run o e l' c

-- a total that answered, having noted k items
pub record TotalEnd (m : Memory) (run : List Note) (h o e : ℕ) (l : List ℕ) : Type 0 where
  pub k : ℕ
  pub have : (y : ℕ) → y < k → 0 < (m.item y).valid
  pub noted : (y : ℕ) → y < k → (m.item y).author 0 < o
  pub covers : (y : ℕ) → k ≤ y → 0 < (m.item y).valid → o ≤ (m.item y).author 0
  pub done : List ℕ
  pub g : ℕ
  pub trace : TotalTrace m run h o e k done g
  pub lines : l ≡ 0 ∷ done

abbrev pub EndTotal : Memory → List Note → (o e : ℕ) → List ℕ → Operation → Type 0
EndTotal m run o e l (register i v z) = Unit {0}
EndTotal m run o e l (v_read i) = Unit {0}
EndTotal m run o e l (v_cas i a b) = Unit {0}
EndTotal m run o e l take_snapshot = Unit {0}
EndTotal m run o e l (read_snapshot i h) = Unit {0}
EndTotal m run o e l (total q h) = TotalEnd m run h o e l

-- ---- later

module _ {t : ℕ} {m m' : Memory} (L : Later t m m') (known : MemoryFacts t m) (run : List Note) (y : Note) where
  pub trace_later : {h o e e' i g : ℕ} {l : List ℕ} → o < t → e ≤ t → e ≤ e' → TotalTrace m run h o e i l g → TotalTrace m' (y ∷ run) h o e' i l g
  unfolding read_later
  trace_later a b c none = none
  trace_later a b c (skips {i} {g} {l} f x p q s z) =
      skips {i = i} f (x.0, executed_more y x.1) p (omega (arith, (L.item i).more_valid)) (omega (arith, (L.item i).stamp 0 q)) (trace_later a b c z)
  trace_later a b c (reads {i} {g} {l} f x p j r w s z) =
      reads {i = i} f (x.0, executed_more y x.1) p j r (read_later L (λ i. (known.item i).valid_published) a b c w) s (trace_later a b c z)

  pub item_later : {h o e e' i f : ℕ} {l : List ℕ} → o < t → e ≤ t → e ≤ e' → InItem m run h o e i f l → InItem m' (y ∷ run) h o e' i f l
  item_later a b c x = record { g = x.g; trace = trace_later a b c x.trace; event = (x.event.0, executed_more y x.event.1); later = x.later }

  pub then_total_later : (o e e' : ℕ) (l : List ℕ) (c : Then) → o < t → e ≤ t → e ≤ e' → ThenTotal m run o e l c → ThenTotal m' (y ∷ run) o e' l c
  then_total_later o e e' l (then_39 i f) a b c x = tt
  then_total_later o e e' l (then_43 i u v f) a b c x = tt
  then_total_later o e e' l (then_48 i u v) a b c x = tt
  then_total_later o e e' l (then_52 i u v g) a b c x = tt
  then_total_later o e e' l (then_34 i h f) a b c x = tt
  then_total_later o e e' l (then_total_34 q h k i u f) a b c x = record { done = x.done; is = x.is; inside = item_later a b c x.inside }

  pub phase_total_later : (o e e' : ℕ) (l : List ℕ) (ph : Phase) → o < t → e ≤ t → e ≤ e' → PhaseTotal m run o e l ph → PhaseTotal m' (y ∷ run) o e' l ph
  phase_total_later o e e' l (line_37 i) a b c x = tt
  phase_total_later o e e' l (line_39 i f j) a b c x = tt
  phase_total_later o e e' l (line_41 i u v) a b c x = tt
  phase_total_later o e e' l (line_43 i u v f j) a b c x = tt
  phase_total_later o e e' l (line_45 i u v f j) a b c x = tt
  phase_total_later o e e' l (line_46 i u v f j z) a b c x = tt
  phase_total_later o e e' l (line_48 i u v j) a b c x = tt
  phase_total_later o e e' l (line_50 i u v g z) a b c x = tt
  phase_total_later o e e' l (line_51 i u v g) a b c x = tt
  phase_total_later o e e' l (line_52 i u v g j) a b c x = tt
  phase_total_later o e e' l line_5 a b c x = tt
  phase_total_later o e e' l (line_6 n r) a b c x = tt
  phase_total_later o e e' l (line_32 i h) a b c x = tt
  phase_total_later o e e' l (line_34 i h f j z) a b c x = tt
  phase_total_later o e e' l (total_32 q h k i u) a b c x = (x.0, trace_later a b c x.1)
  phase_total_later o e e' l (total_34 q h k i u f j z) a b c x = record {
    done = x.done;
    here = x.here;
    is = x.is;
    passing = x.passing;
    inside = item_later a b c x.inside;
  }
  phase_total_later o e e' l (closing q h k u) a b c x = (x.0, trace_later a b c x.1)
  phase_total_later o e e' l (line_20 n j) a b c x = then_total_later o e e' l n a b c x
  phase_total_later o e e' l (line_21 n j) a b c x = (x.0, x.1, then_total_later o e e' x.0 n a b c x.2)
  phase_total_later o e e' l (line_22 n j r s) a b c x = (x.0, x.1, then_total_later o e e' x.0 n a b c x.2)

  pub end_total_later : (o e : ℕ) (l : List ℕ) (op : Operation) → o < t → e ≤ t → EndTotal m run o e l op → EndTotal m' (y ∷ run) o e l op
  end_total_later o e l (register i v z) a b x = tt
  end_total_later o e l (v_read i) a b x = tt
  end_total_later o e l (v_cas i u v) a b x = tt
  end_total_later o e l take_snapshot a b x = tt
  end_total_later o e l (read_snapshot i h) a b x = tt
  end_total_later o e l (total q h) a b x =
      record {
        k = x.k;
        have = λ z p. omega (arith, (L.item z).more_valid, x.have z p);
        noted = λ z p. omega (arith, (L.item z).author 0 (omega (arith, (known.item z).valid_published, x.have z p)), x.noted z p);
        covers = λ z p r. old z p r (split 0 (m.item z).valid);
        done = x.done;
        g = x.g;
        trace = trace_later a b (omega arith) x.trace;
        lines = x.lines;
      }
    where
      old : (z : ℕ) → x.k ≤ z → 0 < (m'.item z).valid → Split 0 (m.item z).valid → o ≤ (m'.item z).author 0
      old z p r (Split.less u) = omega (arith, (L.item z).author 0 (omega (arith, (known.item z).valid_published)), x.covers z p u)
      old z p r (Split.more u) = omega (arith, L.new_author z (none_yet (split 0 (m.item z).versions)) r)
        where
          none_yet : Split 0 (m.item z).versions → (m.item z).versions ≡ 0
          none_yet (Split.less w) = absurd (omega (arith, (known.item z).first w))
          none_yet (Split.more w) = omega arith
