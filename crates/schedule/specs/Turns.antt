-- What one turn of the program does, up to the operating system's reading and writing.
use Rattle.std.specs.Prelude.{◌≡◌, refl, Bool, ℕ, zero, suc, ◌+◌, ◌*◌, ◌-◌, ◌<◌, ◌≤◌, min, true, false, List, Option, ◌++◌, length, take, drop, ℤ, pos, negsuc}
use Rattle.std.proofs.Common.{sym, ap, subst, ◌∙◌, true≢false, arith, ltb-true, length-append, length-take, length-drop, take_at, drop_at, length-take-le}
use Rattle.std.specs.Int.Signed.{lt_z}
use Rattle.std.specs.Io.KnownBytes.{Consumes, IsAtEnd, Keeps}
use Rattle.frames.specs.AnswerLines.{answer_length}
use Rattle.text.specs.declared.Kept.{Kept}
use Rattle.text.specs.Feeding.{Piece, Last}
use Rattle.schedule.specs.Exchanges.{AsMany, Exchange}

-- What a turn came to: how many bytes wait for their line feed, how many bytes of answers were handed to write, and whether the program goes on.
pub record Turn : Type 0 where
  pub held : ℕ
  pub written : ℕ
  pub goes_on : Bool

-- How many bytes the output has: an answer line for each byte of the text's buffer, which may be a line feed.
abbrev pub out_length : ℕ
out_length = 16384 * answer_length

-- What a read may answer that is lent so many bytes: how many it put there, or -1.
abbrev pub Moved : ℕ → ℤ → Type 0
Moved most (pos n) = n ≤ most
Moved most (negsuc n) = n ≡ 0

-- What a read that answered so did to the bytes that its reader has left, where those are known: it took the bytes that stand at the front of the
-- buffer now, none of them only at the end; and where it failed it took none.
abbrev pub Took : Option (List ℕ) → Option (List ℕ) → ℤ → List ℕ → Type 0
Took old new (pos n) buffer = Consumes old new (take n buffer) × (n ≡ 0 → 0 < length buffer → IsAtEnd new)
Took old new (negsuc n) buffer = Keeps old new

-- Such an answer brought into what a buffer holds: none where the read failed.
abbrev pub clamp_len : ℤ → ℕ → ℕ
clamp_len (pos n) most = min n most
clamp_len (negsuc n) most = 0

-- The bytes that a read which answered `got` has put at the front of z.
abbrev pub read_into : List ℕ → ℤ → List ℕ
read_into z got = take (clamp_len got (length z)) z

-- What a read that answered `got` comes to, where p are the bytes read, after the k that are kept of an unfinished line. Where it failed: no answer,
-- and words and output are as they were. At the end of the input: the answer of the last line stands at the front of the output. Else the answers of
-- all whole lines of k and p stand there, and `goes_on` is what write answers: whether it took them all. Of what is written, `AnswersRead` (Runs) says more.
pub data After (got : ℤ) (k p ws out : List ℕ) (r : Turn) (bytes' ws' out' : List ℕ) : Type 0 where
  unread : (n : ℕ) → got ≡ negsuc n → r.goes_on ≡ false → r.written ≡ 0 → ws' ≡ ws → out' ≡ out → After got k p ws out r bytes' ws' out'
  ended : got ≡ pos 0 → r.goes_on ≡ false → Last k ws out r.written ws' out' → After got k p ws out r bytes' ws' out'
  went_on : (n : ℕ) → got ≡ pos (suc n) → Piece (k ++ p) ws out (record { held = r.held; written = r.written }) bytes' ws' out'
      → After got k p ws out r bytes' ws' out'

-- A turn: some exchange, and what it comes to. The first bytes of the output are handed to write; what is kept and what was read fit the buffer.
pub record Turned (k ws out : List ℕ) (r : Turn) (bytes' ws' out' : List ℕ) : Type 0 where
  pub exchange : Exchange
  pub after : After exchange.got k exchange.read ws out r bytes' ws' out'
  pub hands : exchange.handed ≡ take r.written out'
  pub goes_on : exchange.goes_on ≡ r.goes_on
  pub in_buffer : length k + length exchange.read ≤ 16384

-- the same piece, of a text that is equal
pub piece_of : (t u ws out : List ℕ) (r : Kept) (bytes' ws' out' : List ℕ) → t ≡ u → Piece t ws out r bytes' ws' out' → Piece u ws out r bytes' ws' out'
piece_of t u ws out r bytes' ws' out' e p = subst (λ (x : List ℕ). Piece x ws out r bytes' ws' out') e p

-- What a read comes to, by its answer's sign and by the count of bytes that it put there: g is that answer again, and the bytes after those that are held
-- are a part of all.
module _ (got g : ℤ) (reads : g ≡ got) (bytes : List ℕ) (held : ℕ) (ws out : List ℕ) (r : Turn) (bytes' ws' out' : List ℕ) where
  abbrev Comes : ℤ → Type 0
  Comes h = After h (take held bytes) (read_into (drop held bytes) h) ws out r bytes' ws' out'

  abbrev Counted : ℕ → Type 0
  Counted count = count ≡ clamp_len g (length (take (length bytes - held) (drop held bytes)))

  counted : (count : ℕ) → Counted count → count ≡ clamp_len got (length (drop held bytes))
  counted count c =
      let whole : length (take (length bytes - held) (drop held bytes)) ≡ length (drop held bytes)
      = length-take-le _ _ (simp length-drop (omega arith)) ∙ sym (length-drop held bytes) in
      c ∙ ap (λ (h : ℤ). clamp_len h (length (take (length bytes - held) (drop held bytes)))) reads ∙ ap (clamp_len got) whole

  pub read_failed : lt_z g (pos 0) ≡ true → r.goes_on ≡ false → r.written ≡ 0 → ws' ≡ ws → out' ≡ out → Comes got
  read_failed t e n w o = failed_at got (subst (λ (h : ℤ). lt_z h (pos 0) ≡ true) reads t)
    where
      failed_at : (h : ℤ) → lt_z h (pos 0) ≡ true → Comes h
      failed_at (pos m) t = absurd (omega (arith, ltb-true m 0 t))
      failed_at (negsuc m) t = unread m refl e n w o

  pub read_ended : lt_z g (pos 0) ≡ false → (count : ℕ) → Counted count → count ≡ 0 → held < length bytes
      → r.goes_on ≡ false → Last (take held bytes) ws out r.written ws' out' → Comes got
  read_ended t count c none room e l = ended_at got (subst (λ (h : ℤ). lt_z h (pos 0) ≡ false) reads t) (sym (counted count c) ∙ none)
    where
      rest : 0 < length (drop held bytes)
      rest = simp length-drop (omega arith)

      ended_at : (h : ℤ) → lt_z h (pos 0) ≡ false → clamp_len h (length (drop held bytes)) ≡ 0 → Comes h
      ended_at (pos zero) t m = ended refl e l
      ended_at (pos (suc n)) t m = absurd (omega (arith, rest))
      ended_at (negsuc n) t m = absurd (true≢false t)

  pub read_piece : lt_z g (pos 0) ≡ false → (count : ℕ) → Counted count → (count ≡ 0 → ⊥)
      → Piece (take held bytes ++ take count (drop held bytes)) ws out (record { held = r.held; written = r.written }) bytes' ws' out' → Comes got
  read_piece t count c some p =
      piece_at got (subst (λ (h : ℤ). lt_z h (pos 0) ≡ false) reads t) (λ e. some (counted count c ∙ e))
      (piece_of _ _ ws out _ bytes' ws' out' (ap (λ (n : ℕ). take held bytes ++ take n (drop held bytes)) (counted count c)) p)
    where
      piece_at : (h : ℤ) → lt_z h (pos 0) ≡ false → (clamp_len h (length (drop held bytes)) ≡ 0 → ⊥)
          → Piece (take held bytes ++ read_into (drop held bytes) h) ws out (record { held = r.held; written = r.written }) bytes' ws' out'
          → Comes h
      piece_at (pos zero) t s p = absurd (s (omega arith))
      piece_at (pos (suc n)) t s p = went_on n refl p
      piece_at (negsuc n) t s p = absurd (true≢false t)

-- By its contract read answers at most as many bytes as it was lent.
pub read_as_many : (z : List ℕ) (room : ℕ) (got : ℤ) → Moved room got → room ≤ length z → AsMany (read_into z got) got
read_as_many z room (pos n) m r = omega (arith, length-take (clamp_len (pos n) (length z)) z)
read_as_many z room (negsuc n) m r = refl

-- The bytes before the place that was read into are as they were, and z is what stands there now; g is what read answered, and got is that answer again.
unfoldable pub turn_of : (bytes : List ℕ) (held : ℕ) → length bytes ≡ 16384 → held ≤ 16384 → (z : List ℕ) → length (take held bytes ++ z) ≡ length bytes
    → (got g : ℤ) → got ≡ g → Moved (length (take (length bytes - held) (drop held bytes))) g → (ws out : List ℕ) (r : Turn) (bytes' ws' out' : List ℕ)
    → After got (take held (take held bytes ++ z)) (read_into (drop held (take held bytes ++ z)) got) ws out r bytes' ws' out'
    → Turned (take held bytes) ws out r bytes' ws' out'
turn_of bytes held all inside z same got g reads moved ws out r bytes' ws' out' a =
    let long : length (take held bytes) ≡ held = length-take-le held bytes (omega arith) in
    let room : length (take (length bytes - held) (drop held bytes)) ≤ length z
    = omega (arith, long, length-append (take held bytes) z, length-take (length bytes - held) (drop held bytes)) in
    record {
      exchange = record {
        got = got;
        read = read_into z got;
        as_many = read_as_many z _ got (subst (Moved (length (take (length bytes - held) (drop held bytes)))) (sym reads) moved) room;
        handed = take r.written out';
        goes_on = r.goes_on;
      };
      after =
          subst (λ (l : List ℕ). After got l (read_into z got) ws out r bytes' ws' out') (take_at (take held bytes) z held long)
          (subst (λ (l : List ℕ). After got (take held (take held bytes ++ z)) (read_into l got) ws out r bytes' ws' out')
          (drop_at (take held bytes) z held long) a);
      hands = refl;
      goes_on = refl;
      in_buffer = omega (arith, long, length-append (take held bytes) z, length-take (clamp_len got (length z)) z);
    }
