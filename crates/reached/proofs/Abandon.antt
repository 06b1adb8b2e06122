-- A worker is abandoned, on the cells as on the machine: its record is cleared, and the node that it held goes back as line 50 would return it.
use Rattle.std.specs.Prelude.{ℕ, ◌+◌, ◌<◌, Bool, true, false, cond, List, [], ◌∷◌, ◌++◌, ◌≢◌, ◌≡◌, refl, length}
use Rattle.std.proofs.Common.{ap, sym, ◌∙◌, subst, arith, ne_eqb}
use Rattle.definitions.specs.Cells.{Cells, Assignment, ◌≔◌, given_back, phase, new_node, older, cleared}
use Rattle.definitions.specs.Phases.{row_of, table}
use Rattle.definitions.specs.Damage.{keeps_new_node}
use Rattle.definitions.specs.Calls.{returned_if_held}
use Rattle.cells.specs.Update.{after, Proper}
use Rattle.history.specs.Tools.{put, put_all, put_same, put_other, Same, eq, ne, same?}
use Rattle.history.specs.Machine.{Item, Memory, Limits, Found, no_node, node, Phase, line_37, line_39, line_41, line_43, line_45, line_46, line_48, line_50, line_51, line_52, line_5, line_6, line_32, line_34, total_32, total_34, closing, line_20, line_21, line_22, then_39, then_43, then_48, then_52, then_34, then_total_34, Effect, memory_after, Worker, idle, busy, Catalogue, held_node, give, left_off}
use Rattle.reached.specs.Parts.{Shared, Local, shared_of, local_of}
use Rattle.reached.specs.Grows.{Grows, known_later}
use Rattle.reached.specs.Effects.{EffectFits, effect_grows, effect_well}
use Rattle.reached.specs.Image.{Owner, held, SharedImage, NodesFit, BusyImage, WorkerImage, Holds, Kept, shared_after, phase_number}
use Rattle.reached.proofs.ImageEffects.{EffectHolds, owner_after, effect_image, effect_nodes}
use Rattle.reached.proofs.Nodes.{held_below}
use Rattle.reached.proofs.Holding.{holds_frame, others_held, kept_later}
use Rattle.reached.proofs.Homes.{Holding, WorkerHolding, effect_homes, other_holding}
use Rattle.reached.proofs.Records.{self, cleared_proper}
use Rattle.reached.proofs.Whole.{LimitsFit, WorkerKnown, WorkerHolds, StateImage, CatalogueImage}
use Rattle.reached.proofs.Step.{header_later}

-- the node that a phase holds is its worker's, and stands in its record
abbrev pub HeldFacts : (ℕ → Owner) → ℕ → Local → Found → Type 0
HeldFacts own w l no_node = Unit {0}
HeldFacts own w l (node y) = (own y ≡ held w) × (l.new_node ≡ y)

pub held_facts : (own : ℕ → Owner) (s : Shared) (its : ℕ → Item) (w : ℕ) (l : Local) (ph : Phase) → Holds own s its w ph → Kept its l ph → HeldFacts own w l (held_node ph)
held_facts own s its w l (line_37 i) z₀ k₀ = tt
held_facts own s its w l (line_39 i f j) z₀ k₀ = tt
held_facts own s its w l (line_41 i a b) z₀ k₀ = tt
held_facts own s its w l (line_43 i a b f j) z₀ k₀ = tt
held_facts own s its w l (line_45 i a b f j) z₀ k₀ = tt
held_facts own s its w l (line_46 i a b f j y) z₀ k₀ = (z₀.mine, k₀.2)
held_facts own s its w l (line_48 i a b j) z₀ k₀ = tt
held_facts own s its w l (line_50 i a b g y) z₀ k₀ = (z₀, k₀.1)
held_facts own s its w l (line_51 i a b g) z₀ k₀ = tt
held_facts own s its w l (line_52 i a b g j) z₀ k₀ = tt
held_facts own s its w l line_5 z₀ k₀ = tt
held_facts own s its w l (line_6 c r) z₀ k₀ = tt
held_facts own s its w l (line_32 i h₀) z₀ k₀ = tt
held_facts own s its w l (line_34 i h₀ f j x) z₀ k₀ = tt
held_facts own s its w l (total_32 q h₀ k i u) z₀ k₀ = tt
held_facts own s its w l (total_34 q h₀ k i u f j x) z₀ k₀ = tt
held_facts own s its w l (closing q h₀ k u) z₀ k₀ = tt
held_facts own s its w l (line_20 c j) z₀ k₀ = tt
held_facts own s its w l (line_21 c j) z₀ k₀ = tt
held_facts own s its w l (line_22 c j n r) z₀ k₀ = tt

holding_is : (ph : Phase) (v : ℕ) → Holding ph v → held_node ph ≡ node v
holding_is (line_37 i) v z = absurd z
holding_is (line_39 i f j) v z = absurd z
holding_is (line_41 i a b) v z = absurd z
holding_is (line_43 i a b f j) v z = absurd z
holding_is (line_45 i a b f j) v z = absurd z
holding_is (line_46 i a b f j y) v z = ap node z
holding_is (line_48 i a b j) v z = absurd z
holding_is (line_50 i a b g y) v z = ap node z
holding_is (line_51 i a b g) v z = absurd z
holding_is (line_52 i a b g j) v z = absurd z
holding_is line_5 v z = absurd z
holding_is (line_6 c r) v z = absurd z
holding_is (line_32 i h) v z = absurd z
holding_is (line_34 i h f j x) v z = absurd z
holding_is (total_32 q h k i u) v z = absurd z
holding_is (total_34 q h k i u f j x) v z = absurd z
holding_is (closing q h k u) v z = absurd z
holding_is (line_20 c j) v z = absurd z
holding_is (line_21 c j) v z = absurd z
holding_is (line_22 c j n r) v z = absurd z

-- what is written
abbrev pub abandon_writes : Cells → ℕ → Found → List Assignment
abandon_writes f w no_node = cleared w
abandon_writes f w (node y) = older y ≔ f given_back ∷ given_back ≔ (y + 1) ∷ cleared w

fits : (m : Memory) (g : Found) → EffectFits m (give g)
fits m no_node = tt
fits m (node y) = tt

hands : (own : ℕ → Owner) (w : ℕ) (l : Local) (s : Shared) (m : Memory) (g : Found) → HeldFacts own w l g → EffectHolds own w s m (give g)
hands own w l s m no_node x = tt
hands own w l s m (node y) x = x.0

module _ (f : Cells) (s : Catalogue) (Z : CatalogueImage f s) (w : ℕ) (w_in : w < s.memory.limits.workers) (o : ℕ) (ls : List ℕ) (ph : Phase)
    (at_w : s.worker w ≡ busy o ls ph) (g : Found) (is : held_node ph ≡ g) (x : HeldFacts Z.own w (local_of f w) g) where
  abbrev e : Effect
  e = give g

  abbrev later : Memory
  later = memory_after s.now o (give g) s.memory

  abbrev own' : ℕ → Owner
  own' = owner_after w s.memory (give g) Z.own

  abbrev f' : Cells
  f' = after f (abandon_writes f w g)

  grown : Grows s.memory later
  grown = effect_grows s.now o s.memory Z.well e (fits s.memory g)

  hold : EffectHolds Z.own w (shared_of f) s.memory e
  hold = hands Z.own w (local_of f w) (shared_of f) s.memory g x

  shared_at : (g : Found) → shared_of (after f (abandon_writes f w g)) ≡ shared_after s.memory (give g) (shared_of f)
  shared_at no_node = refl
  shared_at (node y) = refl

  shared_is : shared_of f' ≡ shared_after s.memory e (shared_of f)
  shared_is = shared_at g

  others_at : (g : Found) (v : ℕ) → w ≢ v → local_of (after f (abandon_writes f w g)) v ≡ local_of f v
  others_at no_node v d = rw (ne_eqb w v d) refl
  others_at (node y) v d = rw (ne_eqb w v d) refl

  idle_at : (g : Found) → (local_of (after f (abandon_writes f w g)) w).phase ≡ 0
  idle_at no_node = rw (self w) refl
  idle_at (node y) = rw (self w) refl

  proper_at : (g : Found) → HeldFacts Z.own w (local_of f w) g → Proper s.memory.limits.workers s.memory.limits.items s.memory.limits.nodes (abandon_writes f w g)
  proper_at no_node z = cleared_proper s.memory.limits.workers s.memory.limits.items s.memory.limits.nodes w w_in
  proper_at (node y) z = (
    omega (arith, held_below s.memory (shared_of f) Z.own Z.shared y w z.0, Z.shared.used_in),
    omega arith,
    (
      omega arith,
      omega arith,
      cleared_proper s.memory.limits.workers s.memory.limits.items s.memory.limits.nodes w w_in,
    ),
  )

  pub proper : Proper s.memory.limits.workers s.memory.limits.items s.memory.limits.nodes (abandon_writes f w g)
  proper = proper_at g x

  same_workers : later.limits.workers ≡ s.memory.limits.workers
  same_workers = ap (λ (l : Limits). l.workers) grown.limits

  abbrev workers' : ℕ → Worker
  workers' = put s.worker w idle

  other_image : (v : ℕ) (u : Worker) → w ≢ v → WorkerKnown s.memory u → WorkerImage s.memory.item (local_of f v) u → WorkerImage later.item (local_of f' v) u
  other_image v idle d k h = subst (λ (l : Local). l.phase ≡ 0) (sym (others_at g v d)) h
  other_image v (busy q l p) d k h =
      subst (λ (y : Local). BusyImage later.item y (length l) p) (sym (others_at g v d))
      (record { phase_is = h.phase_is; steps_are = h.steps_are; kept = kept_later grown Z.well (local_of f v) p k h.kept })

  other_known : (u : Worker) → WorkerKnown s.memory u → WorkerKnown later u
  other_known idle k = tt
  other_known (busy q l p) k = known_later grown Z.well p k

  other_holds : (v : ℕ) (u : Worker) → v ≢ w → WorkerKnown s.memory u → WorkerHolds Z.own (shared_of f) s.memory.item v u
      → WorkerHolds own' (shared_after s.memory e (shared_of f)) later.item v u
  other_holds v idle d k h = tt
  other_holds v (busy q l p) d k h =
      holds_frame Z.own own' (shared_of f) (shared_after s.memory e (shared_of f)) grown Z.well v
      (others_held s.memory (shared_of f) Z.own Z.shared w v d e (fits s.memory g) hold) p k h

  -- its node is nobody's
  mine : (y : ℕ) → own' y ≡ held w → held_node ph ≡ node y
  mine y z = holding_is ph y (subst (λ (u : Worker). WorkerHolding u y) at_w (Z.held_home y w (before g z)).1)
    where
      before : (g : Found) → owner_after w s.memory (give g) Z.own y ≡ held w → Z.own y ≡ held w
      before no_node z = z
      before (node v) z = put_all (λ (y : ℕ) (u : Owner). u ≡ held w → Z.own y ≡ held w) Z.own v _ y (λ c h. absurd (let k : ◌≡◌ {A = ℕ} 0 1 = cc in omega arith)) (λ c h. h) z

  none_left : (g : Found) → held_node ph ≡ g → (y : ℕ) → owner_after w s.memory (give g) Z.own y ≡ held w → held_node ph ≡ node y → ⊥
  none_left no_node i y z h = let k : ◌≡◌ {A = ℕ} 0 1 = ap tag (sym i ∙ h) in omega arith
    where
      tag : Found → ℕ
      tag no_node = 0
      tag (node v) = 1
  none_left (node v) i y z h =
      put_all (λ (y : ℕ) (u : Owner). v ≡ y → u ≡ held w → ⊥) Z.own v _ y (λ c d q. let k : ◌≡◌ {A = ℕ} 0 1 = cc in omega arith) (λ c d q. c (sym d)) (ap number (sym i ∙ h)) z
    where
      number : Found → ℕ
      number no_node = 0
      number (node v) = v

  held_at : (y v : ℕ) → own' y ≡ held v → Same v w → (v < later.limits.workers) × WorkerHolding (workers' v) y
  held_at y v z (eq d) = let z' : own' y ≡ held w = z ∙ ap held d in absurd (none_left g is y z' (mine y z'))
  held_at y v z (ne d) = let h : (v < s.memory.limits.workers) × WorkerHolding (s.worker v) y = Z.held_home y v (other_holding s.now w s.memory Z.own y v d e z) in
      (omega (arith, same_workers, h.0), subst (λ (u : Worker). WorkerHolding u y) (sym (put_other s.worker w idle v d)) h.1)

  image_at : (v : ℕ) → v < s.memory.limits.workers → Same v w → WorkerImage later.item (local_of f' v) (workers' v)
  image_at v l (eq d) = subst (λ (u : Worker). WorkerImage later.item (local_of f' v) u) (sym (put_same s.worker w idle v d))
      (subst (λ (v : ℕ). (local_of f' v).phase ≡ 0) (sym d) (idle_at g))
  image_at v l (ne d) = subst (λ (u : Worker). WorkerImage later.item (local_of f' v) u) (sym (put_other s.worker w idle v d))
      (other_image v (s.worker v) (λ z. d (sym z)) (Z.known v l) (Z.worker_is v l))

  known_at : (v : ℕ) → v < s.memory.limits.workers → WorkerKnown later (workers' v)
  known_at v l = put_all (λ (v : ℕ) (u : Worker). v < s.memory.limits.workers → WorkerKnown later u) s.worker w idle v (λ d l. tt) (λ d l. other_known (s.worker v) (Z.known v l)) l

  holds_at : (v : ℕ) → v < s.memory.limits.workers → WorkerHolds own' (shared_after s.memory e (shared_of f)) later.item v (workers' v)
  holds_at v l = put_all (λ (v : ℕ) (u : Worker). v < s.memory.limits.workers → WorkerHolds own' (shared_after s.memory e (shared_of f)) later.item v u) s.worker w idle v
      (λ d l. tt) (λ d l. other_holds v (s.worker v) d (Z.known v l) (Z.holds v l)) l

  pub abandoned_image : StateImage f' later workers'
  abandoned_image = record {
    own = own';
    limits_fit = subst LimitsFit (sym grown.limits) Z.limits_fit;
    header = header_later f s.memory.limits later.limits (abandon_writes f w g) grown.limits proper Z.header;
    shared = subst (λ (y : Shared). SharedImage later y own') (sym shared_is) (effect_image s.now o w s.memory Z.well (shared_of f) Z.own Z.shared e (fits s.memory g) hold);
    nodes = subst (λ (y : Shared). NodesFit later y) (sym shared_is) (effect_nodes s.now o w s.memory Z.well (shared_of f) Z.own Z.shared e (fits s.memory g) hold Z.nodes);
    well = effect_well s.now o s.memory Z.well e (fits s.memory g);
    worker_is = λ v l. image_at v (omega (arith, same_workers)) (same? v w);
    known = λ v l. known_at v (omega (arith, same_workers));
    holds = λ v l. subst (λ (y : Shared). WorkerHolds own' y later.item v (workers' v)) (sym shared_is) (holds_at v (omega (arith, same_workers)));
    homes = effect_homes s.memory (shared_of f) Z.own Z.shared Z.homes s.now o w Z.well e (fits s.memory g);
    held_home = λ y v z. held_at y v z (same? v w);
  }

-- a busy worker is abandoned
pub left_image : (f : Cells) (s : Catalogue) (Z : CatalogueImage f s) (w : ℕ) → w < s.memory.limits.workers → (o : ℕ) (ls : List ℕ) (ph : Phase) → s.worker w ≡ busy o ls ph →
    CatalogueImage (after f (abandon_writes f w (held_node ph))) (left_off s w o ph)
unfolding left_off
left_image f s Z w l o ls ph e =
    abandoned_image f s Z w l o ls ph e (held_node ph) refl
    (held_facts Z.own (shared_of f) s.memory.item w (local_of f w) ph
    (subst (λ (u : Worker). WorkerHolds Z.own (shared_of f) s.memory.item w u) e (Z.holds w l))
    (subst (λ (u : Worker). WorkerImage s.memory.item (local_of f w) u) e (Z.worker_is w l)).kept)

-- what the definition of abandon writes is that
abbrev pub is_node : Found → Bool
is_node no_node = false
is_node (node y) = true

pub holds_is : (ph : Phase) → keeps_new_node (row_of (phase_number ph)) ≡ is_node (held_node ph)
unfolding row_of table
holds_is (line_37 i) = refl
holds_is (line_39 i f j) = refl
holds_is (line_41 i a b) = refl
holds_is (line_43 i a b f j) = refl
holds_is (line_45 i a b f j) = refl
holds_is (line_46 i a b f j y) = refl
holds_is (line_48 i a b j) = refl
holds_is (line_50 i a b g y) = refl
holds_is (line_51 i a b g) = refl
holds_is (line_52 i a b g j) = refl
holds_is line_5 = refl
holds_is (line_6 c r) = refl
holds_is (line_32 i h) = refl
holds_is (line_34 i h f j x) = refl
holds_is (total_32 q h k i u) = refl
holds_is (total_34 q h k i u f j x) = refl
holds_is (closing q h k u) = refl
holds_is (line_20 (then_39 i f) j) = refl
holds_is (line_20 (then_43 i a b f) j) = refl
holds_is (line_20 (then_48 i a b) j) = refl
holds_is (line_20 (then_52 i a b g) j) = refl
holds_is (line_20 (then_34 i h f) j) = refl
holds_is (line_20 (then_total_34 q h k i u f) j) = refl
holds_is (line_21 (then_39 i f) j) = refl
holds_is (line_21 (then_43 i a b f) j) = refl
holds_is (line_21 (then_48 i a b) j) = refl
holds_is (line_21 (then_52 i a b g) j) = refl
holds_is (line_21 (then_34 i h f) j) = refl
holds_is (line_21 (then_total_34 q h k i u f) j) = refl
holds_is (line_22 (then_39 i f) j n r) = refl
holds_is (line_22 (then_43 i a b f) j n r) = refl
holds_is (line_22 (then_48 i a b) j n r) = refl
holds_is (line_22 (then_52 i a b g) j n r) = refl
holds_is (line_22 (then_34 i h f) j n r) = refl
holds_is (line_22 (then_total_34 q h k i u f) j n r) = refl

written_at : (f : Cells) (w : ℕ) (g : Found) (own : ℕ → Owner) → HeldFacts own w (local_of f w) g →
    cond (is_node g) (older (f (new_node w)) ≔ f given_back ∷ given_back ≔ (f (new_node w) + 1) ∷ []) [] ++ cleared w ≡ abandon_writes f w g
written_at f w no_node own x = refl
written_at f w (node y) own x = ap (λ (v : ℕ). older v ≔ f given_back ∷ given_back ≔ (v + 1) ∷ cleared w) x.1

pub returned_if_held_is : (f : Cells) (w : ℕ) (ph : Phase) (own : ℕ → Owner) → f (phase w) ≡ phase_number ph → HeldFacts own w (local_of f w) (held_node ph) →
    returned_if_held f w ++ cleared w ≡ abandon_writes f w (held_node ph)
returned_if_held_is f w ph own e x =
    ap (λ (b : Bool). cond b (older (f (new_node w)) ≔ f given_back ∷ given_back ≔ (f (new_node w) + 1) ∷ []) [] ++ cleared w)
    (ap (λ (v : ℕ). keeps_new_node (row_of v)) e ∙ holds_is ph)
    ∙ written_at f w (held_node ph) own x
