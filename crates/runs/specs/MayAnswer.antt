-- The table's third column: a step finishes only at a phase that may answer, and at each of those it can.
use Rattle.std.specs.Prelude.{ℕ, zero, suc, ◌+◌, ◌≡◌, refl, Bool, true, false, cond, List, [], ◌∷◌, map, leb, ltb, eqb, get_or}
use Rattle.std.proofs.Common.{sym, arith}
use Rattle.std.proofs.lemmas.Bool.{false≢true}
use Rattle.definitions.specs.declared.PhaseRow.{PhaseRow}
use Rattle.definitions.specs.Cells.{Cells, counter_limit, counter, stamp, node, head, item, handle, birth}
use Rattle.definitions.specs.Answers.{Outcome}
use Rattle.definitions.specs.Phases.{row, table, row_of}
use Rattle.definitions.specs.Damage.{TBD}
use Rattle.definitions.specs.Lines.{Line, line, no_node, too_new, fetch, help_20, help_21, help_22, no_words, taken_node, returned_node, tested_node, fetch_head, line_20, line_21, line_22, line_39, line_43, line_45, line_46, line_48, line_50, line_52, line_5, line_6, line_34, total_32, total_34, closing, idle, lines, line_of_phase}

-- A line that never finishes an operation: its code is never 0.
abbrev pub Silent : Line → Type 0
Silent l = (m : Cells) (w : ℕ) → (l.does m w).answer.code ≡ 0 → ⊥

abbrev Unfinished : Outcome → Type 0
Unfinished o = o.answer.code ≡ 0 → ⊥

either : (t : Bool) (x y : Outcome) → Unfinished x → Unfinished y → Unfinished (cond t x y)
either true x y f g = f
either false x y f g = g

-- Code 1 and the codes of refusals are not 0.
going_on : ◌≡◌ {A = ℕ} 1 0 → ⊥
going_on e = omega arith

refusing : (k : ℕ) → 16 + k ≡ 0 → ⊥
refusing k e = omega arith

-- The lines that only go on, or are refused.
idles : Silent idle
idles m w = refusing 5

fetches : Silent fetch
unfolding fetch_head
fetches m w = going_on

line_20_goes_on : Silent help_20
unfolding line_20
line_20_goes_on m w = going_on

line_21_goes_on : Silent help_21
unfolding line_21
line_21_goes_on m w = going_on

line_22_goes_on : Silent help_22
unfolding line_22
line_22_goes_on m w = either (eqb (m (stamp (m (node w)))) TBD) _ _ going_on going_on

line_45_goes_on : Silent (line taken_node line_45)
unfolding line_45
line_45_goes_on m w = either (no_node m) _ _ (refusing 11) going_on

line_46_goes_on : Silent (line no_words line_46)
unfolding line_46
line_46_goes_on m w = either (eqb (m (head (m (item w)))) (m (node w))) _ _ going_on going_on

line_50_goes_on : Silent (line returned_node line_50)
unfolding line_50
line_50_goes_on m w = going_on

line_5_goes_on : Silent (line no_words line_5)
unfolding line_5
line_5_goes_on m w = either (leb (m counter_limit) (m counter)) _ _ (refusing 12) going_on

total_32_goes_on : Silent (line no_words total_32)
unfolding total_32
total_32_goes_on m w = either (ltb (m (handle w)) (m (birth (m (item w))))) _ _ going_on going_on

total_34_goes_on : Silent (line tested_node total_34)
unfolding total_34
total_34_goes_on m w = either (too_new m w) _ _ going_on going_on

-- Row by row: where the table says that a phase may not answer, its line is silent.
abbrev InStep : List PhaseRow → List Line → Type 0
InStep [] [] = Unit
InStep [] (l ∷ ls) = ⊥
InStep (r ∷ rs) [] = ⊥
InStep (r ∷ rs) (l ∷ ls) = (r.may_answer ≡ false → Silent l) × InStep rs ls

at : (rs : List PhaseRow) (ls : List Line) → InStep rs ls → (p : ℕ) → (get_or rs p (row 0 0 false)).may_answer ≡ false → Silent (get_or ls p idle)
at [] [] h p e = idles
at [] (l ∷ ls) h p e = absurd h
at (r ∷ rs) [] h p e = absurd h
at (r ∷ rs) (l ∷ ls) h zero e = h.0 e
at (r ∷ rs) (l ∷ ls) h (suc p) e = at rs ls h.1 p e

answers_here : {A : Type 0} → true ≡ false → A
answers_here e = absurd (false≢true (sym e))

in_step : InStep table lines
unfolding table lines
in_step = (
  λ e. idles,
  (
    λ e. fetches,
    (
      λ e. line_20_goes_on,
      (
        λ e. line_21_goes_on,
        (
          λ e. line_22_goes_on,
          (
            answers_here,
            (
              λ e. fetches,
              (
                λ e. line_20_goes_on,
                (
                  λ e. line_21_goes_on,
                  (
                    λ e. line_22_goes_on,
                    (
                      answers_here,
                      (
                        λ e. line_45_goes_on,
                        (
                          λ e. line_46_goes_on,
                          (
                            λ e. line_20_goes_on,
                            (
                              λ e. line_21_goes_on,
                              (
                                λ e. line_22_goes_on,
                                (
                                  answers_here,
                                  (
                                    λ e. line_50_goes_on,
                                    (
                                      λ e. fetches,
                                      (
                                        λ e. line_20_goes_on,
                                        (
                                          λ e. line_21_goes_on,
                                          (
                                            λ e. line_22_goes_on,
                                            (
                                              answers_here,
                                              (
                                                λ e. line_5_goes_on,
                                                (
                                                  answers_here,
                                                  (
                                                    λ e. fetches,
                                                    (
                                                      λ e. line_20_goes_on,
                                                      (
                                                        λ e. line_21_goes_on,
                                                        (
                                                          λ e. line_22_goes_on,
                                                          (
                                                            answers_here,
                                                            (λ e. total_32_goes_on, (λ e. line_20_goes_on, (λ e. line_21_goes_on, (λ e. line_22_goes_on, (λ e. total_34_goes_on, (answers_here, tt)))))),
                                                          ),
                                                        ),
                                                      ),
                                                    ),
                                                  ),
                                                ),
                                              ),
                                            ),
                                          ),
                                        ),
                                      ),
                                    ),
                                  ),
                                ),
                              ),
                            ),
                          ),
                        ),
                      ),
                    ),
                  ),
                ),
              ),
            ),
          ),
        ),
      ),
    ),
  ),
)

-- A step finishes only at a phase that may answer.
pub only_where_told : (p : ℕ) → (row_of p).may_answer ≡ false → Silent (line_of_phase p)
unfolding row_of line_of_phase
only_where_told p e = at table lines in_step p e

-- And each of those can: on cells that are all zero it does, and no other phase does. One computation over the whole table.
abbrev pub zeros : Cells
zeros c = 0

abbrev pub finishes : Line → Bool
finishes l = eqb (l.does zeros 0).answer.code 0

abbrev pub may_answer : PhaseRow → Bool
may_answer r = r.may_answer

pub each_can : map finishes lines ≡ map may_answer table
unfolding table lines fetch_head line_20 line_21 line_22 line_39 line_43 line_45 line_46 line_48 line_50 line_52 line_5 line_6 line_34 total_32 total_34 closing
each_can = refl
