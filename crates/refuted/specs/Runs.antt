-- The runs that refute: calls on a fresh catalogue of three workers, one item, four nodes, four projects and counters to c, on 80 lent words.
use Rattle.std.specs.Prelude.{◌≡◌, Bool, true, not, ◌&&◌, List, [], ◌∷◌, ℕ, T, ltb, replicate}
use Rattle.std.proofs.Common.{subst, ltb→lt}
use Rattle.definitions.specs.declared.Answer.{Answer}
use Rattle.definitions.specs.Calls.{Call}
use Rattle.cells.specs.Made.{is_make}
use Rattle.history.specs.Tools.{and_parts}
use Rattle.history.specs.Notes.{Note, Catalogue, RunCallBy}
use Rattle.history.proofs.Examples.{made}
use Rattle.reached.proofs.Run.{size_of}
use Rattle.history.specs.Demands.{DemandsBy}
use Rattle.refuted.specs.Catalogues.{words_by, notes_by, start_by, RunBy, Refuted}

abbrev pub lent : List ℕ
lent = replicate 80 7

-- the words after calls in their order, and what is told of them
abbrev pub now : Catalogue → (c : ℕ) → List Call → List ℕ
now f c cs = words_by f (start_by f lent 3 1 4 4 c) (made cs [])

abbrev pub run : Catalogue → (c : ℕ) → List Call → List Note
run f c cs = notes_by f (start_by f lent 3 1 4 4 c) (made cs [])

-- the answers, the newest first
unfoldable pub answers_by : Catalogue → List ℕ → List Call → List Answer
answers_by f ws [] = []
answers_by f ws (x ∷ cs) = (f (words_by f ws cs) x).answer ∷ answers_by f ws cs

abbrev pub answers_of : Catalogue → (c : ℕ) → List Call → List Answer
answers_of f c cs = answers_by f (start_by f lent 3 1 4 4 c) (made cs [])

-- not all that is demanded holds
abbrev pub Broken : Catalogue → (c : ℕ) → List Call → Type 0
Broken f c cs = DemandsBy f 3 1 4 4 c (now f c cs) (run f c cs) → ⊥

-- no make, and a size of 32 bits
abbrev plain : Call → Bool
plain x = not (is_make x) && ltb (size_of x) 4294967296

abbrev pub all_plain : List Call → Bool
all_plain [] = true
all_plain (x ∷ cs) = plain x && all_plain cs

pub plain_call : (f : Catalogue) (ws : List ℕ) (x : Call) → T (plain x) → RunCallBy f ws x
plain_call f ws x t =
    let y : T (not (is_make x)) × T (ltb (size_of x) 4294967296) = and_parts (not (is_make x)) (ltb (size_of x) 4294967296) t in
    record {
      typed = λ v s e. ltb→lt s 4294967296 (subst (λ (z : Call). T (ltb (size_of z) 4294967296)) e y.1);
      no_make = λ p m n q c e a. subst (λ (z : Call). T (not (is_make z))) e y.0;
    }

is_run : (f : Catalogue) (ws : List ℕ) (cs : List Call) → T (all_plain cs) → RunBy f ws cs
is_run f ws [] t = tt
is_run f ws (x ∷ cs) t =
    (is_run f ws cs (and_parts (plain x) (all_plain cs) t).1, plain_call f (words_by f ws cs) x (and_parts (plain x) (all_plain cs) t).0)

pub refuted_by : (f : Catalogue) (c : ℕ) (cs : List Call) → (f lent (Call.make 3 1 4 4 c)).answer.code ≡ 2 → T (all_plain (made cs [])) →
    Broken f c cs → Refuted f
refuted_by f c cs accepted t broken =
    record {
      lent = lent;
      p = 3;
      m = 1;
      n = 4;
      q = 4;
      c = c;
      made = accepted;
      calls = made cs [];
      run = is_run f (start_by f lent 3 1 4 4 c) (made cs []) t;
      broken = broken;
    }
