-- Each node ever used is in one place only: what that says of nodes that a line writes, and of taking one and giving it back.
use Rattle.std.specs.Prelude.{ℕ, suc, ◌+◌, ◌-◌, ◌<◌, ◌≤◌, Bool, true, false, cond, ◌≢◌, eqb, ltb}
use mathlib.Core.List.{List, [], ◌∷◌}
use Rattle.std.proofs.Math.Path.{◌≡◌, refl, subst}
use Rattle.std.proofs.Common.{ap, sym, ◌∙◌, arith, eq-eqb, ne_eqb, ltb-true, ltb-false}
use Rattle.std.proofs.Math.ListN.{length}
use Rattle.history.specs.Tools.{put, by_lt, put_other}
use Rattle.history.specs.Machine.{Memory, Pool, Found, node, first_free, node_to_take, used_next, all_but_first, one_taken}
use Rattle.reached.specs.Parts.{Shared, put_at, put_at_other}
use Rattle.reached.specs.Image.{Owner, unused, waits, held, version, Chain, SharedImage}

-- A node that no version stands in.
abbrev pub NoVersion : (ℕ → Owner) → ℕ → Type 0
NoVersion own y = (i j : ℕ) → own y ≢ version i j

pub held_no_version : (own : ℕ → Owner) (y w : ℕ) → own y ≡ held w → NoVersion own y
held_no_version own y w e i j f = let z : ◌≡◌ {A = ℕ} 0 1 = cc in omega arith

-- A chain does not see a change at a node that is not in it.
pub chain_frame : (own : ℕ → Owner) (older : ℕ → ℕ) (y : ℕ) (to : Owner) (x first : ℕ) (l : List ℕ)
    → ((d : ℕ) → d < length l → own y ≢ waits d) → Chain own older first l → Chain (put own y to) (put_at older y x) first l
chain_frame own older y to x first [] out c = c
chain_frame own older y to x first (z ∷ l) out c = (
  c.0,
  put_other own y to z (λ e. apart (sym e)) ∙ c.1,
  subst (λ (g : ℕ). Chain (put own y to) (put_at older y x) g l) (sym (put_at_other older y x z apart))
      (chain_frame own older y to x (older z) l (λ d p. out d (omega arith)) c.2),
)
  where
    apart : y ≢ z
    apart e = out (length l) (omega arith) (ap own e ∙ c.1)

pub held_no_wait : (own : ℕ → Owner) (y w : ℕ) → own y ≡ held w → (d : ℕ) → own y ≢ waits d
held_no_wait own y w e d f = let z : ◌≡◌ {A = ℕ} 0 1 = cc in omega arith

-- The same where only the owner changes, or only the chain's links.
pub chain_own : (own : ℕ → Owner) (older : ℕ → ℕ) (y : ℕ) (to : Owner) (first : ℕ) (l : List ℕ)
    → ((d : ℕ) → own y ≢ waits d) → Chain own older first l → Chain (put own y to) older first l
chain_own own older y to first [] out c = c
chain_own own older y to first (z ∷ l) out c =
    (c.0, put_other own y to z (λ e. out (length l) (ap own (sym e) ∙ c.1)) ∙ c.1, chain_own own older y to (older z) l out c.2)

-- How a node was taken: the first of those given back, or the lowest never used.
pub data Taken (m : Memory) (s : Shared) (own : ℕ → Owner) (y : ℕ) : Type 0 where
  given : (l : List ℕ) → m.pool.given_back ≡ y ∷ l → s.given_back ≡ suc y → own y ≡ waits (length l) → Chain own s.older (s.older y) l
      → y < m.pool.used → Taken m s own y
  lowest : m.pool.given_back ≡ [] → s.given_back ≡ 0 → y ≡ m.pool.used → y < m.limits.nodes → Taken m s own y

-- The shared words' side of taking a node.
abbrev pub used_after_taking : Shared → ℕ
used_after_taking s = cond (eqb s.given_back 0) (s.used + 1) s.used

abbrev pub first_after_taking : Shared → ℕ
first_after_taking s = cond (eqb s.given_back 0) s.given_back (s.older (s.given_back - 1))

-- After node y was taken, is somebody's and has the older word x.
pub record AfterTaking (m : Memory) (s : Shared) (own : ℕ → Owner) (y : ℕ) (to : Owner) (x : ℕ) (later : Pool) : Type 0 where
  pub used_are : used_after_taking s ≡ later.used
  pub used_in : later.used ≤ m.limits.nodes
  pub used_more : m.pool.used ≤ later.used
  pub taken_below : y < later.used
  pub chain : Chain (put own y to) (put_at s.older y x) (first_after_taking s) later.given_back
  pub rest : (z : ℕ) → later.used ≤ z → put own y to z ≡ unused

module _ (m : Memory) (s : Shared) (own : ℕ → Owner) (S : SharedImage m s own) where
  -- a node with an owner was used
  owned_below : (y : ℕ) → own y ≢ unused → y < m.pool.used
  owned_below y out = at (ltb y m.pool.used) refl
    where
      at : (b : Bool) → ltb y m.pool.used ≡ b → y < m.pool.used
      at true f = ltb-true _ _ f
      at false f = absurd (out (S.rest y (ltb-false _ _ f)))

  pub version_below : (i j : ℕ) → i < m.items → j < (m.item i).versions → (m.item i).node j < m.pool.used
  version_below i j l p =
      owned_below ((m.item i).node j) (λ f. let g : own ((m.item i).node j) ≡ version i j = S.owner i j l p in let z : ◌≡◌ {A = ℕ} 0 1 = cc in omega arith)

  pub held_below : (y w : ℕ) → own y ≡ held w → y < m.pool.used
  held_below y w e = owned_below y (λ f. let z : ◌≡◌ {A = ℕ} 0 1 = cc in omega arith)

  pub waits_below : (y d : ℕ) → own y ≡ waits d → y < m.pool.used
  waits_below y d e = owned_below y (λ f. let z : ◌≡◌ {A = ℕ} 0 1 = cc in omega arith)

  pub version_apart : (i j y : ℕ) → i < m.items → j < (m.item i).versions → NoVersion own y → (m.item i).node j ≢ y
  version_apart i j y l p out e = out i j (ap own (sym e) ∙ S.owner i j l p)

  pub versions_apart : (i j i' j' : ℕ) → i < m.items → j < (m.item i).versions → i' < m.items → j' < (m.item i').versions
      → (i ≡ i' → j ≡ j' → ⊥) → (m.item i).node j ≢ (m.item i').node j'
  versions_apart i j i' j' l p l' p' d e = d same_i same_j
    where
      one : version i j ≡ version i' j'
      one = sym (S.owner i j l p) ∙ ap own e ∙ S.owner i' j' l' p'

      same_i : i ≡ i'
      same_i = cc one

      same_j : j ≡ j'
      same_j = cc one

  pub taken : (y : ℕ) → node_to_take m ≡ node y → Taken m s own y
  unfolding node_to_take
  taken y = at m.pool.given_back refl S.chain
    where
      at : (l : List ℕ) → m.pool.given_back ≡ l → Chain own s.older s.given_back l → first_free l m.pool.used m.limits.nodes ≡ node y
          → Taken m s own y
      at [] e c f = unfold first_free in
          by_lt (λ (g : Found). g ≡ node y → Taken m s own y) m.pool.used m.limits.nodes
          (λ p g. let q : m.pool.used ≡ y = cc in lowest e c (sym q) (omega arith)) (λ p g. absurd (let z : ◌≡◌ {A = ℕ} 0 1 = cc in omega arith)) f
      at (z ∷ l) e c f = unfold first_free in
          let q : z ≡ y = cc in
          subst (λ (z : ℕ). Taken m s own z) q
          (given l (subst (λ (y : ℕ). m.pool.given_back ≡ z ∷ l) q e) c.0 c.1 c.2
          (owned_below z (λ u. let v : own z ≡ waits (length l) = c.1 in let x : ◌≡◌ {A = ℕ} 0 1 = cc in omega arith)))

  -- a node that was taken stood in no version, and nobody held it
  pub taken_no_version : (y : ℕ) → Taken m s own y → NoVersion own y
  taken_no_version y (given l e g o c b) i j f = let z : ◌≡◌ {A = ℕ} 0 1 = cc in omega arith
  taken_no_version y (lowest e g u n) i j f = let o : own y ≡ unused = S.rest y (omega arith) in let z : ◌≡◌ {A = ℕ} 0 1 = cc in omega arith

  pub taken_not_held : (y : ℕ) → Taken m s own y → (w : ℕ) → own y ≢ held w
  taken_not_held y (given l e g o c b) w f = let z : ◌≡◌ {A = ℕ} 0 1 = cc in omega arith
  taken_not_held y (lowest e g u n) w f = let o : own y ≡ unused = S.rest y (omega arith) in let z : ◌≡◌ {A = ℕ} 0 1 = cc in omega arith

  pub after_taking : (y : ℕ) (to : Owner) (x : ℕ) → Taken m s own y → AfterTaking m s own y to x (one_taken m.pool)
  unfolding one_taken
  after_taking y to x (given l e g o c b) =
      subst (λ (l : List ℕ). AfterTaking m s own y to x (record { used = used_next l m.pool.used; given_back = all_but_first l })) (sym e)
      (unfold used_next all_but_first in record {
        used_are = rw (ne_eqb s.given_back 0 (λ f. absurd (omega arith))) S.used_are;
        used_in = S.used_in;
        used_more = omega arith;
        taken_below = b;
        chain = rw (ne_eqb s.given_back 0 (λ f. absurd (omega arith)))
            (subst (λ (z : ℕ). Chain (put own y to) (put_at s.older y x) (s.older z) l) (omega arith)
            (chain_frame own s.older y to x (s.older y) l (λ d p f. let z : length l ≡ d = cc in absurd (omega arith)) c));
        rest = λ z p. put_other own y to z (λ f. absurd (omega arith)) ∙ S.rest z p;
      })
  after_taking y to x (lowest e g u n) =
      subst (λ (l : List ℕ). AfterTaking m s own y to x (record { used = used_next l m.pool.used; given_back = all_but_first l })) (sym e)
      (unfold used_next all_but_first in record {
        used_are = rw (eq-eqb s.given_back 0 g) (omega (arith, S.used_are));
        used_in = omega arith;
        used_more = omega arith;
        taken_below = omega arith;
        chain = rw (eq-eqb s.given_back 0 g) g;
        rest = λ z p. put_other own y to z (λ f. absurd (omega arith)) ∙ S.rest z (omega arith);
      })
