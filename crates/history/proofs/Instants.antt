-- The instants of document 01, told from the notes, are the times that the machine keeps.
use Rattle.std.specs.Prelude.{◌≡◌, refl, Bool, true, false, List, ℕ, zero, suc, ◌≤◌, ◌<◌, max}
use Rattle.std.proofs.Common.{ap, sym, ◌∙◌, subst, inl, inr, arith}
use Rattle.history.specs.Tools.{Split, split, Same, eq, ne, same?}
use Rattle.history.specs.Notes.{Note}
use Rattle.history.specs.Notes as Notes
use Rattle.history.specs.Statements.{Executed, FirstStamp, HeadInstant, ChangeInstant, LostTo, LossInstant}
use Rattle.history.specs.Machine.{Memory, Catalogue}
use Rattle.history.specs.Facts.{MemoryFacts}
use Rattle.history.proofs.Places.{Invariant}
use Rattle.history.proofs.Trace.{FetchedBy, LostAt, Stamping, Traced}

-- ---- times rise with the versions

module _ {t : ℕ} {m : Memory} (known : MemoryFacts t m) (i : ℕ) where
  -- a version has its stamp before the next is published
  pub stamped_before : (a b : ℕ) → a < b → b < (m.item i).versions → (m.item i).stamped_at a < (m.item i).published_at b
  stamped_before a zero p q = absurd (omega arith)
  stamped_before a (suc b) p q = at (stamped_before a b) (same? a b)
    where
      at : (a < b → b < (m.item i).versions → (m.item i).stamped_at a < (m.item i).published_at b) → Same a b →
          (m.item i).stamped_at a < (m.item i).published_at (suc b)
      at f (eq e) = subst (λ (a : ℕ). (m.item i).stamped_at a < (m.item i).published_at (suc b)) (sym e) ((known.item i).next b q)
      at f (ne e) = omega (
        arith,
        f (omega arith) (omega arith),
        (known.item i).effect_after_46 b below,
        (known.item i).effect_before_22 b below,
        (known.item i).next b q,
      )
        where
          below : b < (m.item i).valid
          below = omega (arith, (known.item i).one_open)

  pub published_rises : (a b : ℕ) → a < b → b < (m.item i).versions → (m.item i).published_at a < (m.item i).published_at b
  published_rises a b p q = omega (arith, stamped_before a b p q, (known.item i).effect_after_46 a below, (known.item i).effect_before_22 a below)
    where
      below : a < (m.item i).valid
      below = omega (arith, (known.item i).one_open)

  pub stamped_rises : (a b : ℕ) → a ≤ b → b < (m.item i).valid → (m.item i).stamped_at a ≤ (m.item i).stamped_at b
  stamped_rises a b p q = at (same? a b)
    where
      at : Same a b → (m.item i).stamped_at a ≤ (m.item i).stamped_at b
      at (eq e) = subst (λ (a : ℕ). (m.item i).stamped_at a ≤ (m.item i).stamped_at b) (sym e) (omega arith)
      at (ne e) = omega (
        arith,
        stamped_before a b (omega arith) (omega (arith, (known.item i).valid_published)),
        (known.item i).effect_after_46 b q,
        (known.item i).effect_before_22 b q,
      )

-- ---- the instants

module _ (s : Catalogue) (invariant : Invariant s) (run : List Note) (T : Traced s run) where
  -- version j + 1 has its stamp first after p, if it was published by then
  first_stamp : (i p j : ℕ) → suc j < (s.memory.item i).valid → (s.memory.item i).published_at (suc j) ≤ p → p < (s.memory.item i).stamped_at (suc j) →
      FirstStamp run i p ((s.memory.item i).effect_at (suc j)) ((s.memory.item i).stamped_at (suc j))
  first_stamp i p j g a b = (
    S.o,
    S.stored,
    (b, λ s' e q. at s' q (T.memory.stamps_only e.0 i s' e.1)),
    S.read,
    (S.before, λ t e q. S.own_next e.0 e.1 t e.2 q),
  )
    where
      S : Stamping (s.memory.item i) run i (suc j)
      S = T.memory.stamped i j g

      at : (s' : ℕ) → p < s' → (j' : ℕ) × (suc j' < (s.memory.item i).valid) × (s' ≡ (s.memory.item i).stamped_at (suc j')) →
          (s.memory.item i).stamped_at (suc j) ≤ s'
      at s' q (j', h, e) = by (split j' j)
        where
          by : Split j' j → (s.memory.item i).stamped_at (suc j) ≤ s'
          by (Split.less u) =
              absurd (omega (
                arith,
                stamped_before invariant.kept.memory i (suc j') (suc j) (omega arith)
                    (omega (arith, (invariant.kept.memory.item i).valid_published)),
              ))
          by (Split.more u) = omega (arith, stamped_rises invariant.kept.memory i (suc j) (suc j') (omega arith) h)

  -- a head fetched at f, of which the notes tell
  pub head_instant : (o line i j f τ : ℕ) → FetchedBy (s.memory.item i) run o line i j f → j < (s.memory.item i).valid →
      τ ≡ max f ((s.memory.item i).stamped_at j) → HeadInstant run o i line τ
  head_instant o line i j f τ F g e = at F.valid refl
    where
      told : (b : Bool) → F.valid ≡ b → Executed run o line (Notes.fetches i b) f
      told b q = subst (λ (b : Bool). Executed run o line (Notes.fetches i b) f) q F.executed

      at : (b : Bool) → F.valid ≡ b → HeadInstant run o i line τ
      at true q = inl (subst (λ (t : ℕ). Executed run o line (Notes.fetches i true) t) (omega (arith, (F.yes q).1)) (told true q))
      at false q = later j refl
        where
          later : (j' : ℕ) → j ≡ j' → HeadInstant run o i line τ
          later zero z = absurd (omega (arith, (F.no q).0))
          later (suc j') z =
              inr (
                f,
                (s.memory.item i).effect_at (suc j'),
                told false q,
                subst (λ (t : ℕ). FirstStamp run i f ((s.memory.item i).effect_at (suc j')) t) (ap (s.memory.item i).stamped_at (sym z)
                    ∙ omega (arith, (F.no q).1 g))
                    (first_stamp i f j' (omega arith) (subst (λ (j : ℕ). (s.memory.item i).published_at j ≤ f) z (omega (arith, F.got.before)))
                    (subst (λ (j : ℕ). f < (s.memory.item i).stamped_at j) z ((F.no q).1 g))),
              )

  -- version j + 1 has its stamp first after its publication
  pub change_stamped : (i j : ℕ) → suc j < (s.memory.item i).valid →
      FirstStamp run i ((s.memory.item i).published_at (suc j)) ((s.memory.item i).effect_at (suc j)) ((s.memory.item i).stamped_at (suc j))
  change_stamped i j g =
      first_stamp i ((s.memory.item i).published_at (suc j)) j g (omega arith)
      (omega (arith, (invariant.kept.memory.item i).effect_after_46 (suc j) g, (T.memory.stamped i j g).before))

  pub change_instant : (i j : ℕ) → suc j < (s.memory.item i).valid →
      ChangeInstant run ((s.memory.item i).author (suc j)) i ((s.memory.item i).effect_at (suc j))
  change_instant i j g = (
    (s.memory.item i).value (suc j),
    (s.memory.item i).published_at (suc j),
    (s.memory.item i).stamped_at (suc j),
    T.memory.published i j (omega (arith, (invariant.kept.memory.item i).valid_published)),
    change_stamped i j g,
  )

  pub lost_to : (o i g : ℕ) → LostAt (s.memory.item i) run o i g → LostTo run o i ((s.memory.item i).author (suc g))
  lost_to o i g x = (
    x.f,
    (s.memory.item i).value (suc g),
    (s.memory.item i).published_at (suc g),
    (x.fetched.valid, x.fetched.executed),
    T.memory.published i g x.soon,
    (x.fetched.got.next x.soon, λ p' e q. at p' q (T.memory.publishes_only e.0 i e.1 p' e.2)),
  )
    where
      at : (p' : ℕ) → x.f < p' → (j' : ℕ) × (suc j' < (s.memory.item i).versions) × (p' ≡ (s.memory.item i).published_at (suc j')) →
          (s.memory.item i).published_at (suc g) ≤ p'
      at p' q (j', h, e) = by (split (suc j') g) (same? (suc j') g) (same? j' g)
        where
          by : Split (suc j') g → Same (suc j') g → Same j' g → (s.memory.item i).published_at (suc g) ≤ p'
          by (Split.less u) y z =
              absurd (omega (arith, published_rises invariant.kept.memory i (suc j') g u x.fetched.got.have, x.fetched.got.before))
          by (Split.more u) (eq y) z = absurd (omega (arith, x.fetched.got.before, ap (s.memory.item i).published_at y))
          by (Split.more u) (ne y) (eq z) = omega (arith, ap (λ (n : ℕ). (s.memory.item i).published_at (suc n)) z)
          by (Split.more u) (ne y) (ne z) = omega (arith, published_rises invariant.kept.memory i (suc g) (suc j') (omega arith) h)

  pub loss_instant : (o i g : ℕ) → LostAt (s.memory.item i) run o i g → suc g < (s.memory.item i).valid →
      LossInstant run o i ((s.memory.item i).effect_at (suc g))
  loss_instant o i g x v = ((s.memory.item i).author (suc g), lost_to o i g x, change_instant i g v)
