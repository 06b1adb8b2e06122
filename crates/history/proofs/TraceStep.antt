-- Each line of Algorithm 1 leaves its note: what the phase after it, or the answer, says of the run.
use Rattle.std.specs.Prelude.{◌≡◌, Bool, true, not, List, ◌∷◌, ℕ, suc, pred, ◌+◌, ◌≤◌, ◌<◌, T, ltb, eqb, length}
use Rattle.std.proofs.Math.Path.{refl}
use Rattle.std.proofs.Common.{ap, sym, ◌∙◌, subst, inl, arith, ltb→lt, nltb→le}
use Rattle.std.proofs.Math.Bool.{false, cond}
use Rattle.history.specs.Tools.{by_eq, by_lt, by_le}
use Rattle.history.specs.Notes.{Deed, Note, ledger}
use Rattle.history.specs.Notes as Notes
use Rattle.history.specs.Statements.{Executed}
use Rattle.history.specs.Machine.{
  Memory,
  Operation,
  take_snapshot,
  Then,
  then_39,
  then_43,
  then_48,
  then_52,
  then_34,
  then_total_34,
  Phase,
  line_37,
  line_39,
  line_41,
  line_43,
  line_45,
  line_46,
  line_48,
  line_50,
  line_51,
  line_52,
  line_5,
  line_6,
  line_32,
  line_34,
  total_32,
  total_34,
  closing,
  line_20,
  line_21,
  line_22,
  after,
  total_at,
  helped_item,
  line_number,
  Found,
  no_node,
  node,
  node_to_take,
  on_45,
  Effect,
  nothing,
  counts,
  stamps,
  Comes,
  goes_on,
  ends_with,
  answers_change,
  answers,
  Next,
  only,
  line,
  memory_after,
  Place,
  observes,
}
use Rattle.history.specs.Facts.{MemoryFacts, Later}
use Rattle.history.proofs.Later.{counter_later}
use Rattle.history.proofs.Changes.{Allowed, effect_later}
use Rattle.history.proofs.PhaseFacts.{PhaseFacts}
use Rattle.history.proofs.RightAnswers.{then_operation, phase_operation, has_published, LineRight}
use Rattle.history.proofs.EachLine.{every_line, the_read}
use Rattle.history.proofs.MachineNotes.{phase_deed, fetch, ending}
use Rattle.history.proofs.Trace.{
  FetchedBy,
  ThenTraced,
  PhaseTraced,
  ends_43,
  ends_48,
  ends_52,
  EndTraced,
  executed_more,
  executed_past,
  fetch_later,
  lost_later,
  then_traced_later,
}

abbrev pub ComesTraced : Memory → List Note → ℕ → Operation → List ℕ → Comes → Type 0
ComesTraced m run o op l (goes_on ph) = PhaseTraced m run o ph
ComesTraced m run o op l (ends_with n) = Unit {0}
ComesTraced m run o op l (answers_change x) = (p : Place) → EndTraced m run o op l p
ComesTraced m run o op l (answers x τ j) = EndTraced m run o op l (observes τ j x)

-- ---- what line 20 finds decides which line comes next

-- the line that comes next, or 0
abbrev pub next_number : Comes → ℕ
next_number (goes_on ph) = line_number ph
next_number (ends_with n) = 0
next_number (answers_change x) = 0
next_number (answers x τ j) = 0

after_help : (c : Then) (j : ℕ) → eqb (line_number (after c j)) 21 ≡ false
unfolding after
after_help (then_39 i f) j = refl
after_help (then_43 i a b f) j = refl
after_help (then_48 i a b) j = refl
after_help (then_52 i a b g) j = refl
after_help (then_34 i h f) j = refl
after_help (then_total_34 q h k i u f) j = refl

pub line_20_found : (t : ℕ) (m : Memory) (ph : Phase) → line_number ph ≡ 20 →
    phase_deed m ph ≡ Notes.finds (not (eqb (next_number (line t m ph).comes) 21))
unfolding line
line_20_found t m (line_37 i) e = absurd (omega arith)
line_20_found t m (line_39 i f j) e = absurd (omega arith)
line_20_found t m (line_41 i a b) e = absurd (omega arith)
line_20_found t m (line_43 i a b f j) e = absurd (omega arith)
line_20_found t m (line_45 i a b f j) e = absurd (omega arith)
line_20_found t m (line_46 i a b f j y) e = absurd (omega arith)
line_20_found t m (line_48 i a b j) e = absurd (omega arith)
line_20_found t m (line_50 i a b g y) e = absurd (omega arith)
line_20_found t m (line_51 i a b g) e = absurd (omega arith)
line_20_found t m (line_52 i a b g j) e = absurd (omega arith)
line_20_found t m line_5 e = absurd (omega arith)
line_20_found t m (line_6 c r) e = absurd (omega arith)
line_20_found t m (line_32 i h) e = absurd (omega arith)
line_20_found t m (line_34 i h f j x) e = absurd (omega arith)
line_20_found t m (total_32 q h k i u) e = absurd (omega arith)
line_20_found t m (total_34 q h k i u f j x) e = absurd (omega arith)
line_20_found t m (closing q h k u) e = absurd (omega arith)
line_20_found t m (line_20 c j) e = at (ltb j (m.item (helped_item c)).valid)
  where
    at : (b : Bool) → Notes.finds b ≡ Notes.finds (not (eqb (line_number (cond b (after c j) (line_21 c j))) 21))
    at true = ap (λ (b : Bool). Notes.finds (not b)) (sym (after_help c j))
    at false = refl
line_20_found t m (line_21 c j) e = absurd (omega arith)
line_20_found t m (line_22 c j n r) e = absurd (omega arith)

-- ---- each line, by worker w, in operation o, with the lines l before it

module _ (t o w : ℕ) (l : List ℕ) (m : Memory) (known : MemoryFacts t m) (ot : o < t) (run : List Note) (now : length run ≡ t)
    (cur : (ledger run).current w ≡ o) where
  abbrev pub noted : Phase → Next → Note
  noted ph x = Notes.stepped w (line_number ph) (phase_deed m ph) (ending x.comes)

  abbrev pub NextTraced : Phase → Next → Type 0
  NextTraced ph x = ComesTraced (memory_after t o x.does m) (noted ph x ∷ run) o (phase_operation ph) (line_number ph ∷ l) x.comes

  pub here : (k : ℕ) (d : Deed) (e : Notes.Ending) → Executed (Notes.stepped w k d e ∷ run) o k d t
  here k d e = record { past = run; w = w; e = e; noted = inl (refl, refl); its = cur; at = now }

  stay : Later t m m
  unfolding memory_after
  stay = effect_later known o take_snapshot false nothing tt

  -- the head is fetched
  fetches_now : (x : Note) (line i : ℕ) → 0 < (m.item i).valid → Executed (x ∷ run) o line (fetch m i) t →
      FetchedBy (m.item i) (x ∷ run) o line i (pred (m.item i).versions) t
  fetches_now x line i p e =
      record {
        valid = ltb (pred (m.item i).versions) (m.item i).valid;
        executed = e;
        got = record {
          have = omega (arith, (known.item i).valid_published);
          before = (known.item i).published_past (pred (m.item i).versions)
              (omega (arith, (known.item i).valid_published));
          next = λ q. omega arith;
        };
        yes = λ v. let q : pred (m.item i).versions < (m.item i).valid = ltb→lt (pred (m.item i).versions) (m.item i).valid (subst T (sym v) tt) in
            (q, (known.item i).stamped_past (pred (m.item i).versions) q);
        no = λ v. let q : (m.item i).valid ≤ pred (m.item i).versions = nltb→le (pred (m.item i).versions) (m.item i).valid
            (subst (λ (b : Bool). T (not b)) (sym v) tt) in (omega arith, λ g. absurd (omega arith));
      }

  after_traced : (x : Note) (m' : Memory) (c : Then) (j : ℕ) → ThenTraced m' (x ∷ run) o c j → PhaseTraced m' (x ∷ run) o (after c j)
  unfolding after
  after_traced x m' (then_39 i f) j z = z
  after_traced x m' (then_43 i a b f) j z = z
  after_traced x m' (then_48 i a b) j z = tt
  after_traced x m' (then_52 i a b g) j z = z
  after_traced x m' (then_34 i h f) j z = z
  after_traced x m' (then_total_34 q h k i u f) j z = tt

  total_traced : (x : Note) (q h k i u : ℕ) → PhaseTraced m (x ∷ run) o (total_at q h k i u)
  unfolding total_at
  total_traced x q h k i u = by_eq (λ (ph : Phase). PhaseTraced m (x ∷ run) o ph) i k (λ e. tt) (λ e. tt)

  pub line_traced : (ph : Phase) → PhaseFacts t o l m ph → PhaseTraced m run o ph → NextTraced ph (line t m ph)
  unfolding line memory_after
  line_traced (line_37 i) x z = fetches_now _ 37 i x.1 (here 37 (fetch m i) Notes.goes_on)
  line_traced (line_41 i a b) x z = fetches_now _ 41 i x.1 (here 41 (fetch m i) Notes.goes_on)
  line_traced (line_32 i h) x z = fetches_now _ 32 i x.1.some (here 32 (fetch m i) Notes.goes_on)
  line_traced (line_39 i f j) x z = record {
    τ = _;
    j = j;
    x = _;
    f = f;
    is = refl;
    fetched = fetch_later stay known run _ now o 37 i j f z;
    good = x.good;
    at = refl;
  }
  line_traced (line_43 i a b f j) x z =
      by_eq (NextTraced (line_43 i a b f j)) ((m.item i).value j) a
      (λ e. by_eq (NextTraced (line_43 i a b f j)) b a
      (λ q. ends_43 refl (record {
        τ = _;
        j = j;
        x = _;
        f = f;
        is = refl;
        fetched = fetch_later stay known run _ now o 41 i j f z;
        good = x.good;
        at = refl;
      }))
      (λ q. fetch_later stay known run _ now o 41 i j f z))
      (λ e. ends_43 refl (record {
        τ = _;
        j = j;
        x = _;
        f = f;
        is = refl;
        fetched = fetch_later stay known run _ now o 41 i j f z;
        good = x.good;
        at = refl;
      }))
  line_traced (line_45 i a b f j) x z = at (node_to_take m)
    where
      at : (g : Found) → NextTraced (line_45 i a b f j) (on_45 i a b f j g)
      at no_node = tt
      at (node y) = unfold memory_after in (fetch_later stay known run _ now o 41 i j f z)
  line_traced (line_46 i a b f j y) x z =
      by_eq (NextTraced (line_46 i a b f j y)) (m.item i).versions (suc j)
      (λ e. tt)
      (λ e. record { f = f; fetched = fetch_later stay known run _ now o 41 i j f z; soon = omega (arith, x.1.held.got.have) })
  line_traced (line_48 i a b j) x z = λ p. ends_48 refl x.keeps.1.prev (omega (arith, x.good, x.keeps.1.is))
      (ap (m.item i).author (sym x.keeps.1.is) ∙ x.keeps.1.mine)
  line_traced (line_50 i a b g y) x z = lost_later stay known run _ now o i g z
  line_traced (line_51 i a b g) x z = lost_later stay known run _ now o i g z
  line_traced (line_52 i a b g j) x z =
      ends_52 refl (record {
        τ = _;
        g = g;
        x = _;
        is = refl;
        lost = lost_later stay known run _ now o i g z;
        good = omega (arith, x.good, x.keeps.1.newer);
        at = refl;
      })
  line_traced line_5 x z = by_le (NextTraced line_5) m.limits.counter m.camera.counter (λ e. tt) (λ e. here 5 Notes.nothing Notes.goes_on)
  line_traced (line_6 c r) x z =
      by_eq (NextTraced (line_6 c r)) m.camera.counter c
      (λ e. record {
        τ = _;
        j = _;
        x = c;
        r = r;
        is = refl;
        read = executed_more _ z;
        was = counter_later (effect_later known o take_snapshot false counts tt).camera x.2.till x.2.was;
      })
      (λ e. record { τ = _; j = _; x = c; r = r; is = refl; read = executed_more _ z; was = x.2.was })
  line_traced (line_34 i h f j y) x z =
      by_lt (NextTraced (line_34 i h f j y)) h ((m.item i).stamp y)
      (λ p. fetch_later stay known run _ now o 32 i j f z)
      (λ p. record {
        τ = t;
        j = y;
        x = _;
        is = refl;
        read = the_read t o l m known ot i h f j y l x.0 x.1 p;
        fetched = read_fetched p;
        value = refl;
      })
    where
      read_fetched : (p : (m.item i).stamp y ≤ h) →
          FetchedBy (m.item i) (noted (line_34 i h f j y) (only (answers ((m.item i).value y) t y)) ∷ run) o 32 i
          (the_read t o l m known ot i h f j y l x.0 x.1 p).top (the_read t o l m known ot i h f j y l x.0 x.1 p).f
      read_fetched p = unfold the_read in (fetch_later stay known run _ now o 32 i j f z)
  line_traced (total_32 q h k i u) x z =
      by_lt (λ (ph : Phase). NextTraced (total_32 q h k i u) (only (goes_on ph))) h ((m.item i).stamp 0) (λ e. total_traced _ q h k (suc i) u) (λ e. tt)
  line_traced (total_34 q h k i u f j y) x z =
      by_lt (λ (ph : Phase). NextTraced (total_34 q h k i u f j y) (only (goes_on ph))) h ((m.item i).stamp y) (λ e. tt)
      (λ e. total_traced _ q h k (suc i) (u + cond (eqb ((m.item i).value y) q) (m.item i).size 0))
  line_traced (closing q h k u) x z = tt
  line_traced (line_20 c j) x z =
      by_lt (λ (ph : Phase). NextTraced (line_20 c j) (only (goes_on ph))) j (m.item (helped_item c)).valid
      (λ p. after_traced _ m c j (then_traced_later stay known run _ now o c j z))
      (λ p. then_traced_later stay known run _ now o c j z)
  line_traced (line_21 c j) x z = (
    then_traced_later stay known run _ now o c j z,
    record { read = here 21 Notes.nothing Notes.goes_on; since = λ line d u y. omega (arith, executed_past y, now) },
  )
  line_traced (line_22 c j n r) x z =
      by_lt (λ (e : Effect). NextTraced (line_22 c j n r) (record { does = e; comes = goes_on (after c j) })) j (m.item (helped_item c)).valid
      (λ p. after_traced _ m c j (then_traced_later stay known run _ now o c j z.0))
      (λ p. after_traced _ (memory_after t o (stamps (helped_item c) j n r) m) c j (then_traced_later (stamps_later p) known run _ now o c j z.0))
    where
      right : LineRight t o l m (line_22 c j n r) (line t m (line_22 c j n r))
      right = every_line t o l m known ot (line_22 c j n r) x

      stamps_later : (m.item (helped_item c)).valid ≤ j → Later t m (memory_after t o (stamps (helped_item c) j n r) m)
      stamps_later p = effect_later known o (then_operation c) (has_published (line_22 c j n r)) (stamps (helped_item c) j n r) (at p right.does)
        where
          at : (m.item (helped_item c)).valid ≤ j → Allowed t o (then_operation c) (has_published (line_22 c j n r)) m
              (line t m (line_22 c j n r)).does → Allowed t o (then_operation c) (has_published (line_22 c j n r)) m (stamps (helped_item c) j n r)
          at p = unfold line in
              (by_lt (λ (e : Effect). Allowed t o (then_operation c) (has_published (line_22 c j n r)) m e →
              Allowed t o (then_operation c) (has_published (line_22 c j n r)) m (stamps (helped_item c) j n r)) j (m.item (helped_item c)).valid
              (λ q. absurd (omega arith)) (λ q a. a))
