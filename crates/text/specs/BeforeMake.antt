-- Before any make the lent words are zero: every call but make is refused with number 2, and until a make is accepted the words stay zero.
use Rattle.std.specs.Prelude.{◌≡◌, refl, ℕ, zero, suc, Bool, true, false, cond, ◌||◌, List, [], ◌∷◌, ◌++◌, ltb, length, get_or, replicate, drop}
use Rattle.std.proofs.Common.{ap, true≢false}
use Rattle.definitions.specs.Answers.{Outcome, refusal, accepted, unless, ◌⇒◌}
use Rattle.definitions.specs.Cells.{Cells, cells_of, needed}
use Rattle.definitions.specs.Damage.{any_of, sizes_outside, header_damaged, header_damaged_at}
use Rattle.definitions.specs.Calls.{Call, make, register, v_read, v_cas, take_snapshot, read_snapshot, total, step, abandon}
use Rattle.definitions.specs.Calls.{Result, outcome, making, leaving, on_catalogue, fresh, registering, starting_v_read, starting_v_cas}
use Rattle.definitions.specs.Calls.{starting_take_snapshot, starting_read_snapshot, starting_total, stepping, abandoning}

abbrev zeros : ℕ → List ℕ
zeros n = replicate n 0

abbrev pub damaged_answer : List ℕ → Result
damaged_answer ws = record { answer = refusal 2 0; words = ws }

-- the header of zero words is damaged, since it has no worker
zero_first : (n : ℕ) → get_or (zeros n) 0 0 ≡ zero
zero_first zero = refl
zero_first (suc n) = refl

no_workers : (count m n q c now held taken back : ℕ) → header_damaged_at count 0 m n q c now held taken back ≡ true
unfolding header_damaged_at
no_workers count m n q c now held taken back = refl

header_of_zeros : (n : ℕ) → header_damaged (zeros n) ≡ true
header_of_zeros n = rw (zero_first n) (no_workers (length (zeros n)) _ _ _ _ _ _ _ _)

refused_on_zeros : (n : ℕ) (f : Cells → Outcome) → on_catalogue (zeros n) f ≡ damaged_answer (zeros n)
refused_on_zeros n f = ap (λ (b : Bool). leaving (zeros n) (unless (b ⇒ 2 ∷ []) (f (cells_of (zeros n))))) (header_of_zeros n)

abbrev pub is_make : Call → Bool
is_make (make p m n q c) = true
is_make (register v s) = false
is_make (v_read w i) = false
is_make (v_cas w i o k) = false
is_make (take_snapshot w) = false
is_make (read_snapshot w i h) = false
is_make (total w q h) = false
is_make (step w) = false
is_make (abandon w) = false

pub before_any_make : (n : ℕ) (k : Call) → is_make k ≡ false → outcome (zeros n) k ≡ damaged_answer (zeros n)
unfolding outcome
before_any_make n (make p m k q c) h = absurd (true≢false h)
before_any_make n (register v s) h = refused_on_zeros n (λ m. registering m v s)
before_any_make n (v_read w i) h = refused_on_zeros n (λ m. starting_v_read m w i)
before_any_make n (v_cas w i o k) h = refused_on_zeros n (λ m. starting_v_cas m w i o k)
before_any_make n (take_snapshot w) h = refused_on_zeros n (λ m. starting_take_snapshot m w)
before_any_make n (read_snapshot w i k) h = refused_on_zeros n (λ m. starting_read_snapshot m w i k)
before_any_make n (total w q k) h = refused_on_zeros n (λ m. starting_total m w q k)
before_any_make n (step w) h = refused_on_zeros n (λ m. stepping m w)
before_any_make n (abandon w) h = refused_on_zeros n (λ m. abandoning m w)

-- a make that is not accepted leaves every word, whatever they hold
pub refused_make : (ws : List ℕ) (p m n q c : ℕ) → ((outcome ws (make p m n q c)).answer.code ≡ 2 → ⊥)
    → outcome ws (make p m n q c) ≡ record { answer = refusal 1 0; words = ws }
unfolding outcome making
refused_make ws p m n q c h =
    either (any_of (sizes_outside p m n q c) || ltb (length ws) (needed p m n))
    (record { answer = refusal 1 0; words = ws })
    (record { answer = accepted 0; words = fresh p m n q c ++ drop (needed p m n) ws }) refl h
  where
    either : (b : Bool) (no_make made : Result) → made.answer.code ≡ 2 → ((cond b no_make made).answer.code ≡ 2 → ⊥) → cond b no_make made ≡ no_make
    either true no_make made e h = refl
    either false no_make made e h = absurd (h e)

-- so until a make is accepted the words stay zero, and no call but make answers anything but 2
pub until_made : (n : ℕ) (k : Call) → ((p m l q c : ℕ) → k ≡ make p m l q c → (outcome (zeros n) k).answer.code ≡ 2 → ⊥)
    → (outcome (zeros n) k).words ≡ zeros n
until_made n (make p m l q c) h = ap (λ (r : Result). r.words) (refused_make (zeros n) p m l q c (h p m l q c refl))
until_made n (register v s) h = ap (λ (r : Result). r.words) (before_any_make n (register v s) refl)
until_made n (v_read w i) h = ap (λ (r : Result). r.words) (before_any_make n (v_read w i) refl)
until_made n (v_cas w i o k) h = ap (λ (r : Result). r.words) (before_any_make n (v_cas w i o k) refl)
until_made n (take_snapshot w) h = ap (λ (r : Result). r.words) (before_any_make n (take_snapshot w) refl)
until_made n (read_snapshot w i k) h = ap (λ (r : Result). r.words) (before_any_make n (read_snapshot w i k) refl)
until_made n (total w q k) h = ap (λ (r : Result). r.words) (before_any_make n (total w q k) refl)
until_made n (step w) h = ap (λ (r : Result). r.words) (before_any_make n (step w) refl)
until_made n (abandon w) h = ap (λ (r : Result). r.words) (before_any_make n (abandon w) refl)
