-- Which line a row of the table of phases stands for; the definitions' list of lines is this, row by row.
use Rattle.std.specs.Prelude.{ℕ, ◌+◌, ◌*◌, ◌≡◌, refl, Bool, false, Err, cond, List, [], ◌∷◌, map, eqb, get_or}
use Rattle.std.proofs.Common.{arith, ap, sym, ◌∙◌, subst, ne_eqb}
use Rattle.std.proofs.Math.ListN.{get_or-map}
use Rattle.definitions.specs.declared.Answer.{Answer}
use Rattle.definitions.specs.declared.PhaseRow.{PhaseRow}
use Rattle.definitions.specs.Cells.{Cells, cells_at, cells_of, items_offset, nodes_offset}
use Rattle.definitions.specs.Answers.{◌⇒◌, unless, refusal}
use Rattle.definitions.specs.Damage.{arguments_damaged}
use Rattle.definitions.specs.Promises.{Met}
use Rattle.endings.specs.declared.reason.Reason.{Reason}
use Rattle.endings.specs.declared.site.Site.{Site}
use Rattle.endings.specs.Ended.{Reads, answered, number_of}
use Rattle.endings.specs.Stepped.{Steps, Ready, stepped}
use Rattle.endings.specs.Laws.{met_if, met_else, refuses}
use Rattle.tables.specs.Ranges.{kept_at, kept_is}
use Rattle.tables.specs.Rules.{has_operation, snapshot_lines, other_lines}
use Rattle.facts.specs.Facts.{Header, Busy, late}
use Rattle.facts.specs.Facts.{ready as make_ready}
use Rattle.definitions.specs.Phases.{row, table, row_of}
use Rattle.definitions.specs.Lines.{Line, line, no_words, its_value, taken_node, returned_node, tested_node, line_5, line_6, line_34, line_39, line_43, line_45, line_46, line_48, line_50, line_52, total_32, total_34, closing, fetch, help_20, help_21, help_22, idle, lines, line_of_phase}

-- takeSnapshot's lines; line 32 and 34 of readSnapshot or total; the lines after a value is read; and the others, by number.
abbrev pub snapshot_line : ℕ → Line
snapshot_line l = cond (eqb l 5) (line no_words line_5) (line no_words line_6)

abbrev pub line_32_of : ℕ → Line
line_32_of o = cond (eqb o 5) (line no_words total_32) fetch

abbrev pub line_34_of : ℕ → Line
line_34_of o = cond (eqb o 5) (line tested_node total_34) (line tested_node line_34)

abbrev pub later_line : ℕ → Line
later_line l =
    cond (eqb l 39) (line its_value line_39) (cond (eqb l 43) (line its_value line_43) (cond (eqb l 45) (line taken_node line_45)
    (cond (eqb l 46) (line no_words line_46) (cond (eqb l 48) (line no_words line_48) (cond (eqb l 50) (line returned_node line_50)
    (cond (eqb l 52) (line no_words line_52) (line no_words closing)))))))

abbrev pub by_number : (operation number : ℕ) → Line
by_number o l =
    cond (eqb l 20) help_20 (cond (eqb l 21) help_21 (cond (eqb l 22) help_22
    (cond (eqb l 32) (line_32_of o) (cond (eqb l 34) (line_34_of o)
    (cond (eqb l 37) fetch (cond (eqb l 41) fetch (cond (eqb l 51) fetch (later_line l))))))))

abbrev pub by_row : PhaseRow → Line
by_row r = cond (eqb r.operation 0) idle (cond (eqb r.operation 3) (snapshot_line r.line) (by_number r.operation r.line))

-- One computation over the whole table.
table_tied : map by_row table ≡ lines
unfolding table lines
table_tied = refl

pub line_tied : (p : ℕ) → line_of_phase p ≡ by_row (row_of p)
unfolding line_of_phase row_of
line_tied p = ap (λ (ls : List Line). get_or ls p idle) (sym table_tied) ∙ get_or-map by_row table p (row 0 0 false)

-- What dispatch has of a record at a row: it is ready, and the operation's arguments are not damaged. A line that keeps something asks for that, too.
pub record Fit (a b w : ℕ) (r : PhaseRow) (ws : List ℕ) : Type 0 where
  pub ready : Ready a b w ws
  pub arguments : arguments_damaged r (cells_at a b ws) w ≡ false

abbrev pub Kept : (a b w : ℕ) → PhaseRow → List ℕ → Type 0
Kept a b w r ws = late r (cells_at a b ws) w ≡ false

-- A step of worker w does this line of a row, what the row keeps being tested before it: the answer, and every word.
abbrev pub RowSteps : PhaseRow → Line → (a b w : ℕ) → List ℕ → Answer → List ℕ → Type 0
RowSteps r l a b w before answer after =
    Met a b before (unless (late r (cells_at a b before) w ⇒ 2 ∷ []) (stepped l (cells_at a b before) w)) answer after

-- The same, of the worker of a site.
abbrev pub FitAt : Site → PhaseRow → List ℕ → Type 0
FitAt s = Fit s.items_at s.nodes_at s.worker

abbrev pub RowStepsAt : PhaseRow → Line → Site → List ℕ → Answer → List ℕ → Type 0
RowStepsAt r l s = RowSteps r l s.items_at s.nodes_at s.worker

-- What the row keeps is tested where the line is known, by its number.
pub late_is : (r : PhaseRow) (m : Cells) (w k : ℕ) {v : Bool} → r.line ≡ k → kept_at k m w ≡ v → late r m w ≡ v
late_is r m w k e h = kept_is r m w ∙ ap (λ (l : ℕ). kept_at l m w) e ∙ h

-- A match's arm: the row has the arm's number, and what that line keeps is not damaged. The step does the line that f has for it.
pub does : (f : ℕ → Line) (r : PhaseRow) (s : Site) (ws : List ℕ) {k : ℕ} {answer : Answer} {after : List ℕ} → r.line ≡ k
    → kept_at k (cells_at s.items_at s.nodes_at ws) s.worker ≡ false
    → Steps (f k) s.items_at s.nodes_at s.worker ws answer after → RowStepsAt r (f r.line) s ws answer after
does f r s ws {k} {answer} {after} e h d =
    met_else _ (late_is r (cells_at s.items_at s.nodes_at ws) s.worker k e h)
    (subst (λ (n : ℕ). Steps (f n) s.items_at s.nodes_at s.worker ws answer after) (sym e) d)

-- And where it is damaged, the step is refused.
pub kept_damage : (r : PhaseRow) (l : Line) (s : Site) (ws : List ℕ) {k : ℕ} {reason : Reason} → r.line ≡ k
    → Reads (kept_at k (cells_at s.items_at s.nodes_at ws) s.worker) (tt {0}) (Err reason) → RowStepsAt r l s ws (answered (Err reason)) ws
kept_damage r l s ws {k} e h =
    met_if _ (late_is r (cells_at s.items_at s.nodes_at ws) s.worker k e h.0) (refuses 2 (ap (λ (x : Reason). refusal (number_of x) 0) h.1))

-- No arm's number fits. The numbers come as the match has them, the last first.
abbrev pub NoneOf : ℕ → List ℕ → Type 0
NoneOf l [] = Unit
NoneOf l (k ∷ ks) = NoneOf l ks × (l ≡ k → ⊥)

-- It is a later line; and none of the lines before those, as far as they keep anything.
pub record Later (l : ℕ) : Type 0 where
  pub not_20 : l ≡ 20 → ⊥
  pub not_21 : l ≡ 21 → ⊥
  pub not_22 : l ≡ 22 → ⊥
  pub not_34 : l ≡ 34 → ⊥
  pub not_6 : l ≡ 6 → ⊥

abbrev pub NoneBefore : ℕ → Type 0
NoneBefore l = NoneOf l (51 ∷ 41 ∷ 37 ∷ 34 ∷ 32 ∷ 22 ∷ 21 ∷ 20 ∷ [])

pub later : (l : ℕ) → NoneBefore l → (l ≡ 6 → ⊥) → Later l
later l h six = record {
  not_20 = h.0.0.0.0.0.0.0.1;
  not_21 = h.0.0.0.0.0.0.1;
  not_22 = h.0.0.0.0.0.1;
  not_34 = h.0.0.0.1;
  not_6 = six;
}

pub to_later : (r : PhaseRow) (a b w : ℕ) (ws : List ℕ) {answer : Answer} {after : List ℕ} → NoneBefore r.line
    → RowSteps r (later_line r.line) a b w ws answer after → RowSteps r (by_number r.operation r.line) a b w ws answer after
to_later r a b w ws h d =
    let l = r.line in
    rw (
      ne_eqb l 20 h.0.0.0.0.0.0.0.1,
      ne_eqb l 21 h.0.0.0.0.0.0.1,
      ne_eqb l 22 h.0.0.0.0.0.1,
      ne_eqb l 32 h.0.0.0.0.1,
      ne_eqb l 34 h.0.0.0.1,
      ne_eqb l 37 h.0.0.1,
      ne_eqb l 41 h.0.1,
      ne_eqb l 51 h.1,
    ) d

-- None of them at all: a total's closing step, which keeps nothing.
abbrev pub NoneLater : ℕ → Type 0
NoneLater l = NoneOf l (52 ∷ 50 ∷ 48 ∷ 46 ∷ 45 ∷ 43 ∷ 39 ∷ [])

pub at_rest : (a b w : ℕ) (ws : List ℕ) (l : ℕ) {r : Answer} {after : List ℕ} → NoneLater l
    → Steps (line no_words closing) a b w ws r after → Steps (later_line l) a b w ws r after
at_rest a b w ws l h d =
    rw (
      ne_eqb l 39 h.0.0.0.0.0.0.1,
      ne_eqb l 43 h.0.0.0.0.0.1,
      ne_eqb l 45 h.0.0.0.0.1,
      ne_eqb l 46 h.0.0.0.1,
      ne_eqb l 48 h.0.0.1,
      ne_eqb l 50 h.0.1,
      ne_eqb l 52 h.1,
    ) d

pub rest_kept : (r : PhaseRow) (m : Cells) (w : ℕ) → Later r.line → NoneLater r.line → late r m w ≡ false
unfolding kept_at
rest_kept r m w g h =
    let l = r.line in
    kept_is r m w
    ∙ rw (
      ne_eqb l 20 g.not_20,
      ne_eqb l 21 g.not_21,
      ne_eqb l 22 g.not_22,
      ne_eqb l 34 g.not_34,
      ne_eqb l 6 g.not_6,
      ne_eqb l 39 h.0.0.0.0.0.0.1,
      ne_eqb l 43 h.0.0.0.0.0.1,
      ne_eqb l 45 h.0.0.0.0.1,
      ne_eqb l 46 h.0.0.0.1,
      ne_eqb l 50 h.0.1,
    ) refl

-- What step knows of a busy worker's row.
pub fit : (ws : List ℕ) (w : ℕ) {r : PhaseRow} → Header ws → Busy w ws → r ≡ row_of (get_or ws (16 + 16 * w + 0) 0) → Fit (items_offset ws) (nodes_offset ws) w r ws
fit ws w {r} h b e = record {
  ready = make_ready ws w h b;
  arguments = subst (λ (x : PhaseRow). arguments_damaged x (cells_of ws) w ≡ false) (sym e) b.arguments;
}

pub row_operation : (ws : List ℕ) (w : ℕ) {r : PhaseRow} → Busy w ws → r ≡ row_of (get_or ws (16 + 16 * w + 0) 0) → r.operation ≡ 0 → ⊥
row_operation ws w b e z = has_operation (get_or ws (16 + 16 * w + 0) 0) (omega (arith, b.known)) b.runs (sym (ap (λ (x : PhaseRow). x.operation) e) ∙ z)

pub row_snapshot : (ws : List ℕ) (w : ℕ) {r : PhaseRow} → Busy w ws → r ≡ row_of (get_or ws (16 + 16 * w + 0) 0)
    → r.operation ≡ 3 → (r.line ≡ 5 → ⊥) → r.line ≡ 6
row_snapshot ws w b e three five =
    let l = ap (λ (x : PhaseRow). x.line) e in
    l ∙ snapshot_lines (get_or ws (16 + 16 * w + 0) 0) (omega (arith, b.known)) b.runs (sym (ap (λ (x : PhaseRow). x.operation) e) ∙ three) (λ q. five (l ∙ q))

pub row_other : (ws : List ℕ) (w : ℕ) {r : PhaseRow} → Busy w ws → r ≡ row_of (get_or ws (16 + 16 * w + 0) 0) → (r.operation ≡ 3 → ⊥) → r.line ≡ 6 → ⊥
row_other ws w b e three six =
    other_lines (get_or ws (16 + 16 * w + 0) 0) (omega (arith, b.known)) b.runs (λ q. three (ap (λ (x : PhaseRow). x.operation) e ∙ q))
    (sym (ap (λ (x : PhaseRow). x.line) e) ∙ six)
