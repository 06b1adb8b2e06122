-- What is known of the memory stays known in a later memory.
use Rattle.std.proofs.Common.{ap₂, sym, ◌∙◌, subst, arith}
use Rattle.std.specs.Prelude.{cond, List, ◌++◌, ℕ, suc, ◌+◌, ◌≤◌, ◌<◌, eqb}
use Rattle.history.specs.Tools.{Split, split}
use Rattle.history.specs.Machine.{Item, Camera, Memory}
use Rattle.history.specs.Facts.{CounterWas, Sees, Fetched, Mine, Lost, Born, Read, Sum, empty, skip, plus, LaterCamera, LaterItem, Later}

-- ---- facts stay

module _ {t : ℕ} {k k' : Camera} (L : LaterCamera t k k') where
  pub counter_later : {τ c : ℕ} → τ < t → CounterWas k τ c → CounterWas k' τ c
  counter_later {τ} {c} p a = record {
    low = omega (arith, L.counters);
    past = λ h q. omega (arith, L.same h (omega (arith, a.low)), a.past h q);
    ahead = λ h q r. at h q r (split h k.counter);
  }
    where
      at : (h : ℕ) → c ≤ h → h < k'.counter → Split h k.counter → τ < k'.left_at h
      at h q r (Split.less l) = omega (arith, L.same h l, a.ahead h q l)
      at h q r (Split.more l) = omega (arith, L.new h l r)

module _ {t : ℕ} {it it' : Item} (L : LaterItem t it it') where
  pub sees_later : {τ j : ℕ} → τ < t → it.valid ≤ it.versions → Sees it τ j → Sees it' τ j
  sees_later {τ} {j} p l a =
      record {
        have = omega (arith, L.more_valid, a.have);
        begun = omega (arith, L.effect_at j a.have, a.begun);
        not_yet = λ q. at q (split (suc j) it.valid) (split (suc j) it.versions);
        unborn = λ q r. after q r (split (suc j) it.versions);
      }
    where
      at : suc j < it'.valid → Split (suc j) it.valid → Split (suc j) it.versions → τ < it'.effect_at (suc j)
      at q (Split.less u) v = omega (arith, L.effect_at (suc j) u, a.not_yet u)
      at q (Split.more u) (Split.less v) = omega (arith, L.published_at (suc j) v, L.new_effect (suc j) u q, a.unborn u v)
      at q (Split.more u) (Split.more v) = omega (arith, L.new_published (suc j) v (omega (arith, L.valid_published)), L.new_effect (suc j) u q)

      after : it'.valid ≤ suc j → suc j < it'.versions → Split (suc j) it.versions → τ < it'.published_at (suc j)
      after q r (Split.less u) = omega (arith, L.published_at (suc j) u, a.unborn (omega (arith, L.more_valid)) u)
      after q r (Split.more u) = omega (arith, L.new_published (suc j) u r)

  pub fetched_later : {j f : ℕ} → f < t → Fetched it j f → Fetched it' j f
  fetched_later {j} {f} p a =
      record {
        have = omega (arith, L.more_versions, a.have);
        before = omega (arith, L.published_at j a.have, a.before);
        next = λ q. at q (split (suc j) it.versions);
      }
    where
      at : suc j < it'.versions → Split (suc j) it.versions → f < it'.published_at (suc j)
      at q (Split.less u) = omega (arith, L.published_at (suc j) u, a.next u)
      at q (Split.more u) = omega (arith, L.new_published (suc j) u q)

  pub mine_later : {o a b j : ℕ} → Mine it o a b j → Mine it' o a b j
  mine_later {o} {a} {b} {j} x =
      record {
        have = omega (arith, L.more_versions, x.have);
        prev = x.prev;
        is = x.is;
        old = L.value x.prev (omega (arith, x.have, x.is))
            ∙ x.old;
        new = L.value j x.have ∙ x.new;
        mine = L.author j x.have ∙ x.mine;
      }

  pub lost_later : {o a g : ℕ} → it.published_at (suc g) < t → Lost it o a g → Lost it' o a g
  lost_later {o} {a} {g} b x =
      record {
        more = omega (arith, L.more_versions, x.more);
        old = L.value g (omega (arith, x.more)) ∙ x.old;
        begun = omega (arith, L.published_at (suc g) x.more, x.begun);
        f = x.f;
        got = fetched_later (omega (arith, x.got.next x.more))
            x.got;
        since = x.since;
      }

  pub born_later : {k k' : Camera} {o h : ℕ} → LaterCamera t k k' → Born k it o h → Born k' it' o h
  born_later {k} {k'} {o} {h} C x =
      record {
        some = omega (arith, L.more_valid, x.some);
        low = omega (arith, L.stamp 0 x.some, x.low);
        gone = omega (arith, C.counters, x.gone);
        when = omega (arith, C.same h x.gone, x.when);
      }

module _ {t : ℕ} {m m' : Memory} (L : Later t m m') (known : (i : ℕ) → (m.item i).valid ≤ (m.item i).versions) where
  unfoldable pub read_later : {i h o e e' j : ℕ} {l : List ℕ} → o < t → e ≤ t → e ≤ e' → Read m i h o e j l → Read m' i h o e' j l
  read_later {i} {h} {o} {e} {e'} {j} a b c x =
      record {
        gone = omega (arith, L.camera.counters, x.gone);
        when = omega (arith, L.camera.same h x.gone, x.when);
        sees = subst (λ (τ : ℕ). Sees (m'.item i) τ j) (sym (L.camera.same h x.gone))
            (sees_later (L.item i) (omega (arith, x.when)) (known i) x.sees);
        top = x.top;
        f = x.f;
        since = x.since;
        till = omega (arith, x.till);
        got = fetched_later (L.item i) (omega (arith, x.till)) x.got;
        good = omega (arith, (L.item i).more_valid, x.good);
        above = λ y p q. omega (arith, (L.item i).stamp y (omega (arith, x.good)), x.above y p q);
        below = omega (arith, (L.item i).stamp j x.sees.have, x.below);
        tbd = x.tbd;
        passed = x.passed;
        at = x.at;
        lines = x.lines;
      }

  pub sum_later : (q h o e e' : ℕ) → o < t → e ≤ t → e ≤ e' → {i u : ℕ} {l : List ℕ} → Sum m q h o e i u l → Sum m' q h o e' i u l
  sum_later q h o e e' a b c empty = empty
  sum_later q h o e e' a b c (skip {i} {u} {l} z x y) = skip {i = i} (omega (arith, (L.item i).more_valid)) (omega (arith, (L.item i).stamp 0 z))
      (sum_later q h o e e' a b c y)
  sum_later q h o e e' a b c (plus {i} {u} {l} j r x y) =
      subst (λ (z : ℕ). Sum m' q h o e' (suc i) (u + z) (r ++ l))
      (ap₂ (λ (v z : ℕ). cond (eqb v q) z 0) ((L.item i).value j (omega (arith, x.sees.have, known i)))
      ((L.item i).size (omega (arith, x.sees.have, known i))))
      (plus j r (read_later a b c x) (sum_later q h o e e' a b c y))
