-- One call on words that are the image of the machine's state: the machine's answer, and words that are the image of its state after it. And what an
-- accepted make leaves is the image of the fresh machine.
use Rattle.std.specs.Prelude.{ℕ, ◌<◌, ◌≤◌, false, ◌≡◌, refl, ltb, length}
use Rattle.std.proofs.Common.{true≢false, inl, ap, sym, ◌∙◌, arith, ltb-false}
use mathlib.Core.List.{List}
use Rattle.std.proofs.Math.Path.{subst}
use Rattle.definitions.specs.Cells.{
  Cell,
  Cells,
  workers,
  items_limit,
  nodes_limit,
  projects,
  counter_limit,
  counter,
  items,
  used,
  given_back,
  phase,
  value,
  older,
  stamp,
  cells_of,
}
use Rattle.definitions.specs.Answers.{refusal}
use Rattle.definitions.specs.Damage.{any_of, outside, sizes_outside, header_damaged}
use Rattle.definitions.specs.Calls.{Call, Result, outcome, leaving}
use Rattle.cells.specs.Stands.{Stands, stands_as}
use Rattle.cells.specs.Update.{after, after_size}
use Rattle.cells.specs.Words.{Sized, Left, leaves}
use Rattle.cells.specs.Made.{comes_to, is_make, outcome_comes, Fresh, made, made_sized, made_fresh, Accepted, make_accepts, make_refuses}
use Rattle.cells.specs.Spares.{none_at, first_false, second_false}
use Rattle.history.specs.Notes.{Typed, RunCall, start}
use Rattle.history.specs.Machine.{Limits, Catalogue, fresh, tick, move, call, reply}
use Rattle.reached.specs.Parts.{shared_of}
use Rattle.reached.specs.Sound.{HeaderFits, header_sound}
use Rattle.reached.specs.Image.{unused}
use Rattle.reached.proofs.ImageEffects.{first_in}
use Rattle.reached.proofs.Whole.{FewSteps, LimitsFit, CatalogueImage, CallImage, Agree, image_agree}
use Rattle.reached.proofs.Step.{step_image}
use Rattle.reached.proofs.Start.{v_read_image, v_cas_image, take_snapshot_image, read_snapshot_image, total_image}
use Rattle.reached.proofs.AbandonCall.{abandon_call}
use Rattle.reached.proofs.Register.{register_call}

-- A call that is no make.
pub no_make_call : (ws : List ℕ) (x : Call) → Typed x → is_make x ≡ false → RunCall ws x
no_make_call ws x t e = record { typed = t; no_make = λ p m n q c d. absurd (true≢false (sym (ap is_make d) ∙ e)) }

-- the size that a call registers, or 0: all that is asked of its type
abbrev pub size_of : Call → ℕ
size_of (Call.make p m n q c) = 0
size_of (Call.register v s) = s
size_of (Call.v_read w i) = 0
size_of (Call.v_cas w i old new) = 0
size_of (Call.take_snapshot w) = 0
size_of (Call.read_snapshot w i h) = 0
size_of (Call.total w q h) = 0
size_of (Call.step w) = 0
size_of (Call.abandon w) = 0

pub typed_size : (x : Call) → size_of x < 4294967296 → Typed x
typed_size x b v s e = subst (λ (y : Call). size_of y < 4294967296) e b

pub sized_call : (ws : List ℕ) (x : Call) → size_of x < 4294967296 → is_make x ≡ false → RunCall ws x
sized_call ws x b = no_make_call ws x (typed_size x b)

-- The words are the image of the machine's state.
pub record WordsImage (ws : List ℕ) (s : Catalogue) : Type 0 where
  pub sized : Sized s.memory.limits.workers s.memory.limits.items s.memory.limits.nodes ws
  pub image : CatalogueImage (cells_of ws) s

pub header_is_sound : (ws : List ℕ) (s : Catalogue) → WordsImage ws s → header_damaged ws ≡ false
header_is_sound ws s U = header_sound (length ws) _ _ _ _ _ _ _ _ _ fits
  where
    Z : CatalogueImage (cells_of ws) s
    Z = U.image

    fits : HeaderFits (length ws) (cells_of ws workers) (cells_of ws items_limit) (cells_of ws nodes_limit) (cells_of ws projects)
        (cells_of ws counter_limit) (cells_of ws counter) (cells_of ws items) (cells_of ws used) (cells_of ws given_back)
    fits = record {
      workers_in = subst (λ (x : ℕ). (1 ≤ x) × (x ≤ 64)) (sym Z.header.workers_are) Z.limits_fit.workers_in;
      items_in = subst (λ (x : ℕ). (1 ≤ x) × (x ≤ 256)) (sym Z.header.items_are) Z.limits_fit.items_in;
      nodes_in = subst (λ (x : ℕ). (1 ≤ x) × (x ≤ 4096)) (sym Z.header.nodes_are) Z.limits_fit.nodes_in;
      projects_in = subst (λ (x : ℕ). (1 ≤ x) × (x ≤ 256)) (sym Z.header.projects_are) Z.limits_fit.projects_in;
      limit_in = subst (λ (x : ℕ). (1 ≤ x) × (x ≤ 4294967294)) (sym Z.header.limit_is) Z.limits_fit.counter_in;
      counter_in = omega (arith, Z.shared.counter_is, Z.well.counter_in, Z.header.limit_is);
      held_in = omega (arith, Z.shared.items_are, Z.well.items_in, Z.header.items_are);
      used_in = omega (arith, Z.shared.used_are, Z.shared.used_in, Z.header.nodes_are);
      given_back_in = first_in 0 0 0 s.memory Z.well (shared_of (cells_of ws)) Z.own Z.shared;
      enough = omega (arith, U.sized.enough, Z.header.workers_are, Z.header.items_are, Z.header.nodes_are);
    }

-- Any call but make, on the cells.
call_image : (f : Cells) (s : Catalogue) → CatalogueImage f s → FewSteps s.worker → (x : Call) → Typed x → is_make x ≡ false
    → CallImage f s x (comes_to f x)
call_image f s Z F (Call.make p m n q c) t e = absurd (let z : ◌≡◌ {A = ℕ} 0 1 = cc in omega arith)
call_image f s Z F (Call.register v z) t e = register_call f s Z v z (t v z refl)
call_image f s Z F (Call.v_read w i) t e = v_read_image f s Z F w i
call_image f s Z F (Call.v_cas w i old new) t e = v_cas_image f s Z F w i old new
call_image f s Z F (Call.take_snapshot w) t e = take_snapshot_image f s Z F w
call_image f s Z F (Call.read_snapshot w i h) t e = read_snapshot_image f s Z F w i h
call_image f s Z F (Call.total w q h) t e = total_image f s Z F w q h
call_image f s Z F (Call.step w) t e = step_image f s Z F w
call_image f s Z F (Call.abandon w) t e = abandon_call f s Z F w

-- One call on words that are an image.
pub record Called (ws : List ℕ) (s : Catalogue) (x : Call) : Type 0 where
  pub answer_is : (outcome ws x).answer ≡ reply s x
  pub words_are : WordsImage (outcome ws x).words (call s x)
  pub as_many : length (outcome ws x).words ≡ length ws

-- Equal sizes.
module _ (p m n p' m' n' : ℕ) (e : p' ≡ p) (g : m' ≡ m) (h : n' ≡ n) where
  sized_same : (ws : List ℕ) → Sized p m n ws → Sized p' m' n' ws
  sized_same ws z = record {
    workers_are = z.workers_are ∙ sym e;
    items_are = z.items_are ∙ sym g;
    nodes_are = z.nodes_are ∙ sym h;
    enough = omega (arith, z.enough);
  }

other_call : (ws : List ℕ) (s : Catalogue) → WordsImage ws s → FewSteps s.worker → (x : Call) → Typed x → is_make x ≡ false → Called ws s x
other_call ws s U F x t e =
    record {
      answer_is = ap (λ (r : Result). r.answer) is ∙ C.answer_is;
      words_are = subst (λ (r : Result). WordsImage r.words (call s x)) (sym is) later;
      as_many = ap (λ (r : Result). length r.words) is ∙ L.as_many;
    }
  where
    is : outcome ws x ≡ leaving ws (comes_to (cells_of ws) x)
    is = outcome_comes ws x e (header_is_sound ws s U)

    C : CallImage (cells_of ws) s x (comes_to (cells_of ws) x)
    C = call_image (cells_of ws) s U.image F x t e

    L : Left s.memory.limits.workers s.memory.limits.items s.memory.limits.nodes ws (leaving ws (comes_to (cells_of ws) x)).words
        (after (cells_of ws) (comes_to (cells_of ws) x).writes)
    L = leaves s.memory.limits.workers s.memory.limits.items s.memory.limits.nodes ws U.sized (comes_to (cells_of ws) x) C.proper

    size : (c : Cell) → c.kind < 5 → after (cells_of ws) (comes_to (cells_of ws) x).writes c ≡ cells_of ws c
    size c h = after_size s.memory.limits.workers s.memory.limits.items s.memory.limits.nodes (cells_of ws)
        (comes_to (cells_of ws) x).writes C.proper c h

    workers_same : (call s x).memory.limits.workers ≡ s.memory.limits.workers
    workers_same = sym C.image.header.workers_are ∙ size workers (omega arith) ∙ U.image.header.workers_are

    items_same : (call s x).memory.limits.items ≡ s.memory.limits.items
    items_same = sym C.image.header.items_are ∙ size items_limit (omega arith) ∙ U.image.header.items_are

    nodes_same : (call s x).memory.limits.nodes ≡ s.memory.limits.nodes
    nodes_same = sym C.image.header.nodes_are ∙ size nodes_limit (omega arith) ∙ U.image.header.nodes_are

    agrees : Agree (call s x).memory.limits (after (cells_of ws) (comes_to (cells_of ws) x).writes)
        (cells_of (leaving ws (comes_to (cells_of ws) x)).words)
    agrees c h = L.shows c (stands_as workers_same items_same nodes_same c h)

    later : WordsImage (leaving ws (comes_to (cells_of ws) x)).words (call s x)
    later = record {
      sized = sized_same _ _ _ _ _ _ workers_same items_same nodes_same (leaving ws (comes_to (cells_of ws) x)).words L.sized;
      image = image_agree (after (cells_of ws) (comes_to (cells_of ws) x).writes) (cells_of (leaving ws (comes_to (cells_of ws) x)).words)
          (call s x) agrees C.image;
    }

-- A refused make changes nothing, and the machine refuses it too.
make_call : (ws : List ℕ) (s : Catalogue) → WordsImage ws s → (p m n q c : ℕ) → RunCall ws (Call.make p m n q c) → Called ws s (Call.make p m n q c)
unfolding call reply move tick
make_call ws s U p m n q c t =
    record {
      answer_is = ap (λ (r : Result). r.answer) is;
      words_are = subst (λ (r : Result). WordsImage r.words (call s (Call.make p m n q c))) (sym is) (record { sized = U.sized; image = U.image });
      as_many = ap (λ (r : Result). length r.words) is;
    }
  where
    is : outcome ws (Call.make p m n q c) ≡ record { answer = refusal 1 0; words = ws }
    is = make_refuses ws p m n q c (t.no_make p m n q c refl)

pub every_call : (ws : List ℕ) (s : Catalogue) → WordsImage ws s → FewSteps s.worker → (x : Call) → RunCall ws x → Called ws s x
every_call ws s U F (Call.make p m n q c) t = make_call ws s U p m n q c t
every_call ws s U F (Call.register v z) t = other_call ws s U F (Call.register v z) t.typed refl
every_call ws s U F (Call.v_read w i) t = other_call ws s U F (Call.v_read w i) t.typed refl
every_call ws s U F (Call.v_cas w i old new) t = other_call ws s U F (Call.v_cas w i old new) t.typed refl
every_call ws s U F (Call.take_snapshot w) t = other_call ws s U F (Call.take_snapshot w) t.typed refl
every_call ws s U F (Call.read_snapshot w i h) t = other_call ws s U F (Call.read_snapshot w i h) t.typed refl
every_call ws s U F (Call.total w q h) t = other_call ws s U F (Call.total w q h) t.typed refl
every_call ws s U F (Call.step w) t = other_call ws s U F (Call.step w) t.typed refl
every_call ws s U F (Call.abandon w) t = other_call ws s U F (Call.abandon w) t.typed refl

-- ---- from an accepted make

abbrev pub limits_of : (p m n q c : ℕ) → Limits
limits_of p m n q c = record { workers = p; items = m; nodes = n; projects = q; counter = c }

-- The ranges that make tests.
in_range : (low high x : ℕ) → outside low high x ≡ false → (low ≤ x) × (x ≤ high)
in_range low high x e = (ltb-false x low (first_false (ltb x low) (ltb high x) e), ltb-false high x (second_false (ltb x low) (ltb high x) e))

limits_fit : (p m n q c : ℕ) → any_of (sizes_outside p m n q c) ≡ false → LimitsFit (limits_of p m n q c)
limits_fit p m n q c e = record {
  workers_in = in_range 1 64 p (none_at (sizes_outside p m n q c) 0 e);
  items_in = in_range 1 256 m (none_at (sizes_outside p m n q c) 1 e);
  nodes_in = in_range 1 4096 n (none_at (sizes_outside p m n q c) 2 e);
  projects_in = in_range 1 256 q (none_at (sizes_outside p m n q c) 3 e);
  counter_in = in_range 1 4294967294 c (none_at (sizes_outside p m n q c) 4 e);
}

-- What make leaves is the image of the fresh machine.
fresh_image : (p m n q c : ℕ) (f : Cells) → LimitsFit (limits_of p m n q c) → Fresh p m n q c f → CatalogueImage f (fresh (limits_of p m n q c))
unfolding fresh
fresh_image p m n q c f fit F = record {
  own = λ y. unused;
  limits_fit = fit;
  header = record {
    workers_are = F.workers_are;
    items_are = F.items_are;
    nodes_are = F.nodes_are;
    projects_are = F.projects_are;
    limit_is = F.limit_is;
  };
  shared = record {
    counter_is = zero_at counter (omega arith) (omega arith);
    items_are = zero_at items (omega arith) (omega arith);
    used_are = zero_at used (omega arith) (omega arith);
    used_in = omega arith;
    chain = zero_at given_back (omega arith) (omega arith);
    head_is = λ i l. absurd (omega arith);
    birth_is = λ i l. absurd (omega arith);
    size_is = λ i l. absurd (omega arith);
    value_is = λ i j l. absurd (omega arith);
    valid_stamp = λ i j l. absurd (omega arith);
    no_stamp = λ i j l. absurd (omega arith);
    older_is = λ i j l. absurd (omega arith);
    oldest = λ i l. absurd (omega arith);
    owner = λ i j l. absurd (omega arith);
    rest = λ y l. refl;
  };
  nodes = record {
    value_in = λ y l. omega (arith, zero_at (value y) l (omega arith), fit.projects_in.0);
    older_in = λ y l. omega (arith, zero_at (older y) l (omega arith));
    stamp_in = λ y l. inl (omega (arith, zero_at (stamp y) l (omega arith)));
  };
  well = record { counter_in = omega arith; items_in = omega arith; item_well = λ i l. absurd (omega arith) };
  worker_is = λ w l. zero_at (phase w) l (omega arith);
  known = λ w l. tt;
  holds = λ w l. tt;
  homes = record {
    owned = λ y l. absurd (omega arith);
    version_home = λ y i j g. absurd (let z : ◌≡◌ {A = ℕ} 0 1 = cc in omega arith);
    waits_home = λ y d g. absurd (let z : ◌≡◌ {A = ℕ} 0 1 = cc in omega arith);
  };
  held_home = λ y w g. absurd (let z : ◌≡◌ {A = ℕ} 0 1 = cc in omega arith);
}
  where
    zero_at : (d : Cell) → Stands p m n d → 5 ≤ d.kind → f d ≡ 0
    zero_at d h l = F.rest_zero d h l

module _ (ws : List ℕ) (p m n q c : ℕ) (accepted : (outcome ws (Call.make p m n q c)).answer.code ≡ 2) where
  accepted_make : Accepted ws p m n q c
  accepted_make = make_accepts ws p m n q c accepted

  -- the limits are in document 01's ranges
  pub in_limits : LimitsFit (limits_of p m n q c)
  in_limits = limits_fit p m n q c accepted_make.in_range

  pub start_image : WordsImage (start ws p m n q c) (fresh (limits_of p m n q c))
  unfolding fresh
  start_image = subst (λ (x : List ℕ). WordsImage x (fresh (limits_of p m n q c))) (sym accepted_make.leaves) (record {
    sized = made_sized ws p m n q c;
    image = fresh_image p m n q c (cells_of (made ws p m n q c)) in_limits (made_fresh ws p m n q c);
  })
