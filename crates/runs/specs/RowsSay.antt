-- The tests of the definitions, each true exactly where a word of UsedWords is outside its range: the header's, an item's, a node's, and a worker's phase by
-- phase; and the lines that may refuse a step.
use Prim.Native.Nat.{ℕ, zero, suc, ◌-◌, ◌≤◌, ◌<◌}
use Rattle.std.specs.Prelude.{Bool, true, cond, ◌||◌, ◌&&◌, ◌⊎◌, ◌≡◌, ltb, eqb, length, get_or}
use Rattle.std.proofs.Math.Bool.{false, not}
use mathlib.Core.List.{List, [], ◌∷◌, ◌++◌, tail}
use Rattle.std.proofs.Common.{inl, sym, ap, arith}
use Rattle.std.proofs.Math.Logic.{inr}
use Rattle.std.proofs.Math.Path.{refl, subst}
use Rattle.std.proofs.Math.Dec.{leb, eqb-suc-zero}
use borrow.Author.Tests.{ltb-false, eqb-false, ne_eqb}
use Rattle.definitions.specs.declared.PhaseRow.{PhaseRow}
use Rattle.definitions.specs.Cells.{
  Cells,
  workers,
  items_limit,
  nodes_limit,
  projects,
  counter_limit,
  counter,
  items,
  used,
  given_back,
  item,
  old,
  new,
  handle,
  noted,
  node,
  new_node,
  seen,
  birth,
  value,
  older,
}
use Rattle.definitions.specs.Answers.{Outcome}
use Rattle.definitions.specs.Phases.{row, row_of, table}
use Rattle.definitions.specs.Damage.{
  any_of,
  keeps_new_node,
  sizes_outside,
  header_damaged_at,
  arguments_damaged,
  kept_damaged,
  running_damaged,
  too_many_steps,
  before_step,
  inside_item,
  item_damaged,
  value_damaged,
  older_damaged,
  stamp_damaged,
  node_damaged,
}
use Rattle.definitions.specs.Lines.{
  Line,
  line,
  no_node,
  succeeds_22,
  succeeds_46,
  counter_full,
  succeeds_6,
  too_new,
  no_words,
  taken_node,
  returned_node,
  tested_node,
  fetch_head,
  line_20,
  line_21,
  line_22,
  line_39,
  line_43,
  line_45,
  line_46,
  line_48,
  line_50,
  line_52,
  line_5,
  line_6,
  line_34,
  total_32,
  total_34,
  closing,
  lines,
  line_of_phase,
}
use Rattle.runs.specs.UsedWords.{
  ◌to◌,
  below,
  at_most,
  Use,
  ◌∈◌,
  Outside,
  Row,
  sizes,
  value_range,
  item_range,
  handle_range,
  link_range,
  within_limits,
  header_words,
  words_of_item,
  words_of_node,
  first_given_back,
  node_taken,
  the_node,
  both_nodes,
  read_at_21,
  the_new_node,
  its_stamp,
  its_value,
  tested,
  given_back_at_50,
  step_count,
  inside,
  outside_items,
  holding,
  v_cas,
  total_arguments,
  rows,
}
use Rattle.runs.specs.RefusalsInOrder.{Refusal, refuses, Follows, words_needed, NoNode, ends_with, at_line}
use Rattle.runs.specs.TestsSay.{
  Says,
  says_else,
  says_or,
  says_and,
  says_not,
  says_as,
  says_<,
  says_≤,
  says_≡,
  says_itself,
  outside,
  place_inside,
  older_there,
  Match,
  none,
  by,
  both,
  skip,
  test,
  Exactly,
  exactly_as,
  all_tested,
  joined,
  further,
  unless_so,
}

-- ---- the header, an item, a node

pub sizes_say : (p m n q c : ℕ) → Exactly (any_of (sizes_outside p m n q c)) (sizes p m n q c)
sizes_say p m n q c = all_tested (test (test (test (test (test none)))))

pub header_says : (count : ℕ) (m : Cells) →
    Says (header_damaged_at count (m workers) (m items_limit) (m nodes_limit) (m projects) (m counter_limit) (m counter) (m items) (m used) (m given_back))
    (Outside (header_words m) ⊎ (count < words_needed (m workers) (m items_limit) (m nodes_limit)))
unfolding header_damaged_at
header_says count m =
    let sized = sizes_say (m workers) (m items_limit) (m nodes_limit) (m projects) (m counter_limit) in
    says_or (further {vs = within_limits m} sized (test (test (test (test none))))).says (says_< _ _)

-- A word that says which node by its number plus one: 0 for none.
plus_one : (P : Bool → ℕ → Type 0) (n : ℕ) → P false n → P (eqb (suc n) 0) (suc n - 1)
plus_one P n h =
    let e : n ≡ suc n - 1 = omega arith in
    subst (λ (b : Bool). P b (suc n - 1)) (sym (eqb-suc-zero n)) (subst (P false) e h)

module _ (m : Cells) where
  pub item_says : (i : ℕ) → Exactly (item_damaged m i) (words_of_item m i)
  item_says i = all_tested (test (test none))

  node_says : (n : ℕ) → Exactly (node_damaged m n) (words_of_node m n)
  node_says n = all_tested (test (test (test none)))

  pub first_says : (g : ℕ) → Exactly (not (eqb g 0) && node_damaged m (g - 1)) (first_given_back m g)
  first_says zero = all_tested none
  first_says (suc n) = plus_one (λ b k. Exactly (not b && node_damaged m k) (words_of_node m n)) n (node_says n)

  taken_says : (g : ℕ) →
      Exactly (not (eqb g 0 && leb (m nodes_limit) (m used)) && node_damaged m (cond (eqb g 0) (m used) (g - 1))) (node_taken m g)
  taken_says zero = unless_so (leb (m nodes_limit) (m used)) (node_says (m used))
  taken_says (suc n) =
      plus_one (λ b k. Exactly (not (b && leb (m nodes_limit) (m used)) && node_damaged m (cond b (m used) k)) (words_of_node m n)) n (node_says n)

-- ---- refusals in order: a test that says that the first applies, and what follows where it does not

pub follow : (r : Refusal) (rs : List Refusal) (b : Bool) (x y : Outcome) → Says b r.applies
    → x.answer ≡ refuses r → ((r.applies → ⊥) → Follows rs y.answer) → Follows (r ∷ rs) (cond b x y).answer
follow r rs true x y s e h = inl (s.passes refl, e)
follow r rs false x y s e h = inr (s.fails refl, h (s.fails refl))

-- ---- a line that never refuses: its answer's code is below 16

abbrev Unrefused : Outcome → Type 0
Unrefused o = o.answer.code < 16

runs_on : 1 < 16
runs_on = omega arith

ends : 0 < 16
ends = omega arith

either : (t : Bool) (x y : Outcome) → Unrefused x → Unrefused y → Unrefused (cond t x y)
either true x y f g = f
either false x y f g = g

module _ (m : Cells) (w : ℕ) where
  fetches : Unrefused (fetch_head m w)
  unfolding fetch_head
  fetches = runs_on

  does_20 : Unrefused (line_20 m w)
  unfolding line_20
  does_20 = runs_on

  does_21 : Unrefused (line_21 m w)
  unfolding line_21
  does_21 = runs_on

  does_22 : Unrefused (line_22 m w)
  unfolding line_22
  does_22 = either (succeeds_22 m w) _ _ runs_on runs_on

  does_39 : Unrefused (line_39 m w)
  unfolding line_39
  does_39 = ends

  does_43 : Unrefused (line_43 m w)
  unfolding line_43
  does_43 = either (eqb (m (value (m (node w)))) (m (old w))) _ _ (either (eqb (m (new w)) (m (old w))) _ _ ends runs_on) ends

  does_46 : Unrefused (line_46 m w)
  unfolding line_46
  does_46 = either (succeeds_46 m w) _ _ runs_on runs_on

  does_48 : Unrefused (line_48 m w)
  unfolding line_48
  does_48 = ends

  does_50 : Unrefused (line_50 m w)
  unfolding line_50
  does_50 = runs_on

  does_52 : Unrefused (line_52 m w)
  unfolding line_52
  does_52 = ends

  does_6 : Unrefused (line_6 m w)
  unfolding line_6
  does_6 = either (succeeds_6 m w) _ _ ends ends

  does_34 : Unrefused (line_34 m w)
  unfolding line_34
  does_34 = either (too_new m w) _ _ runs_on ends

  total_does_32 : Unrefused (total_32 m w)
  unfolding total_32
  total_does_32 = either (ltb (m (handle w)) (m (birth (m (item w))))) _ _ runs_on runs_on

  total_does_34 : Unrefused (total_34 m w)
  unfolding total_34
  total_does_34 = either (too_new m w) _ _ runs_on runs_on

  closes : Unrefused (closing m w)
  unfolding closing
  closes = ends

  -- ---- worker w, phase by phase

  -- a row of the table with its line, and a row of UsedWords
  pub record Agrees (r : PhaseRow) (l : Line) (u : Row) : Type 0 where
    pub of_record : Exactly (running_damaged r m w) u.in_record
    pub before : Exactly (before_step r m w) u.before_a_step
    pub of_item : Exactly (inside_item r && item_damaged m (m (item w))) u.item_words
    pub of_nodes : Exactly (l.damaged m w) u.node_words
    pub ending : Follows (at_line m u.line w) (l.does m w).answer
    pub abandoned : Exactly (keeps_new_node r && returned_node m w) u.when_abandoned

  -- a line other than 45 and 5
  quiet : (k : ℕ) (o : Outcome) → (k ≡ 45 → ⊥) → (k ≡ 5 → ⊥) → Unrefused o → Follows (at_line m k w) o.answer
  quiet k o f g h = inr (λ x. f x.0, inr (λ x. g x.0, h))

  -- ---- what any call uses of its record: the operation's arguments, and what its lines keep

  in_v_read : Exactly (arguments_damaged (row 1 37 false) m w) (m (item w) ∈ item_range m ∷ [])
  unfolding arguments_damaged
  in_v_read = all_tested (test none)

  in_v_cas : Exactly (arguments_damaged (row 2 41 false) m w) (m (item w) ∈ item_range m ∷ m (old w) ∈ value_range m ∷ m (new w) ∈ value_range m ∷ [])
  unfolding arguments_damaged
  in_v_cas = all_tested (test (test (test none)))

  in_read_snapshot : Exactly (arguments_damaged (row 4 32 false) m w) (m (item w) ∈ item_range m ∷ m (handle w) ∈ handle_range m ∷ [])
  unfolding arguments_damaged
  in_read_snapshot = all_tested (test (test none))

  -- a total's place has two tests inside an item, one at the end
  in_total : Exactly (arguments_damaged (row 5 32 false) m w) (total_arguments m w (below (m (noted w))))
  unfolding arguments_damaged
  in_total = all_tested (test (test (test (both (place_inside (m (noted w)) (m (item w))) (test none)))))

  at_the_end : Exactly (arguments_damaged (row 5 0 true) m w) (total_arguments m w (at_most (m (noted w))))
  unfolding arguments_damaged
  at_the_end = all_tested (test (test (test (test (skip (test none))))))

  nothing : Exactly false []
  nothing = all_tested none

  node_kept : Exactly (kept_damaged (row 1 20 false) m w) (the_node m w)
  unfolding kept_damaged
  node_kept = all_tested (test (skip (skip none)))

  number_kept : Exactly (kept_damaged (row 1 22 false) m w) (read_at_21 m w)
  unfolding kept_damaged
  number_kept = all_tested (test (skip (test none)))

  both_nodes_kept : Exactly (kept_damaged (row 2 46 false) m w) (both_nodes m w)
  unfolding kept_damaged
  both_nodes_kept = all_tested (test (test (skip none)))

  new_node_kept : Exactly (kept_damaged (row 2 50 false) m w) (the_new_node m w)
  unfolding kept_damaged
  new_node_kept = all_tested (skip (test (skip none)))

  -- ---- node words

  stamp_says : Exactly (stamp_damaged m (m (node w))) (its_stamp m w)
  stamp_says = all_tested (test none)

  value_says : Exactly (value_damaged m (m (node w))) (its_value m w)
  value_says = all_tested (test none)

  link_says : Exactly (returned_node m w) (given_back_at_50 m w)
  link_says = joined {us = m (older (m (new_node w))) ∈ link_range m ∷ []} (all_tested (test none)) (first_says m (m given_back))

  tested_says : Exactly (tested_node m w) (tested m w)
  tested_says = all_tested (test (where_too_new (too_new m w)))
    where
      n : ℕ
      n = m (node w)

      where_too_new : (t : Bool) → Match ((t && (eqb (m (older n)) 0 || older_damaged m n)) ∷ (not t && value_damaged m n) ∷ [])
          (cond t (m (older n) ∈ 1 to m used ∷ []) (its_value m w))
      where_too_new true = by (older_there (m used) (m (older n))) (skip none)
      where_too_new false = skip (test none)

  -- ---- the rows

  -- inside an item, at a line other than 6, 45 and 5
  abbrev plain : PhaseRow → Bool
  plain r = inside_item r && not (eqb r.line 6 || (eqb r.line 45 || eqb r.line 5))

  plain_says : (r : PhaseRow) → Says (plain r) ((inside_item r ≡ true) × (((r.line ≡ 6) ⊎ ((r.line ≡ 45) ⊎ (r.line ≡ 5))) → ⊥))
  plain_says r = says_and (says_itself (inside_item r)) (says_not (says_or (says_≡ _ _) (says_or (says_≡ _ _) (says_≡ _ _))))

  steps_say : Exactly (too_many_steps m w || false) (step_count m w)
  steps_say = all_tested (test (skip none))

  -- with the words of nodes that an abandon uses
  agrees_with : {r : PhaseRow} {l : Line} {o : ℕ} {us ks ns hs : List Use} → plain r ≡ true → Exactly (keeps_new_node r && returned_node m w) hs
      → Exactly (arguments_damaged r m w) us → Exactly (kept_damaged r m w) ks → Exactly (l.damaged m w) ns → Unrefused (l.does m w)
      → Agrees r l (record {
        operation = o;
        line = r.line;
        in_record = us ++ ks;
        before_a_step = step_count m w;
        item_words = words_of_item m (m (item w));
        node_words = ns;
        when_abandoned = hs;
      })
  unfolding running_damaged
  agrees_with {r = r} {l = l} e held as' ks ns h =
      let p = (plain_says r).passes e in
      let not_6 = ne_eqb r.line 6 (λ x. p.1 (inl x)) in
      record {
        of_record = joined as' ks;
        before = exactly_as (ap (λ (b : Bool). too_many_steps m w || (b && leb (m counter_limit) (m (seen w)))) (sym not_6)) steps_say;
        of_item = exactly_as (ap (λ (b : Bool). b && item_damaged m (m (item w))) (sym p.0)) (item_says m (m (item w)));
        of_nodes = ns;
        ending = quiet r.line (l.does m w) (λ x. p.1 (inr (inl x))) (λ x. p.1 (inr (inr x))) h;
        abandoned = held;
      }

  -- a row that holds no node, and one that does
  agrees : {r : PhaseRow} {l : Line} {o : ℕ} {us ks ns : List Use} → plain r ≡ true → keeps_new_node r ≡ false → Exactly (arguments_damaged r m w) us
      → Exactly (kept_damaged r m w) ks → Exactly (l.damaged m w) ns → Unrefused (l.does m w) → Agrees r l (inside m w o r.line us ks ns)
  agrees e d as' ks ns h = agrees_with e (exactly_as (ap (λ (b : Bool). b && returned_node m w) (sym d)) nothing) as' ks ns h

  holds : {r : PhaseRow} {l : Line} {o : ℕ} {us ks ns : List Use} → plain r ≡ true → keeps_new_node r ≡ true → Exactly (arguments_damaged r m w) us
      → Exactly (kept_damaged r m w) ks → Exactly (l.damaged m w) ns → Unrefused (l.does m w) → Agrees r l (holding m w (inside m w o r.line us ks ns))
  holds e d as' ks ns h = agrees_with e (exactly_as (ap (λ (b : Bool). b && returned_node m w) (sym d)) link_says) as' ks ns h

  at_45 : Agrees (row 2 45 false) (line taken_node line_45) (v_cas m w 45 (the_node m w) (node_taken m (m given_back)))
  unfolding running_damaged arguments_damaged kept_damaged line_45
  at_45 =
      record {
        of_record = joined in_v_cas node_kept;
        before = steps_say;
        of_item = item_says m (m (item w));
        of_nodes = taken_says m (m given_back);
        ending =
            follow (ends_with m 11 w ((45 ≡ 45) × NoNode m)) (ends_with m 12 w ((45 ≡ 5) × (m counter_limit ≤ m counter)) ∷ []) (no_node m) _ _
            (says_as (λ n. (refl, n)) (λ x. x.1) (says_and (says_≡ _ _) (says_≤ _ _))) refl (λ f. inr (λ x. eqb-false 45 5 refl x.0, runs_on));
        abandoned = nothing;
      }

  at_5 : Agrees (row 3 5 false) (line no_words line_5) (outside_items m w 3 5 [] (step_count m w))
  unfolding running_damaged arguments_damaged kept_damaged line_5
  at_5 =
      record {
        of_record = nothing;
        before = steps_say;
        of_item = nothing;
        of_nodes = nothing;
        ending =
            inr (
              λ x. eqb-false 5 45 refl x.0,
              follow (ends_with m 12 w ((5 ≡ 5) × (m counter_limit ≤ m counter))) [] (counter_full m) _ _
                  (says_as (λ h. (refl, h)) (λ x. x.1) (says_≤ _ _)) refl (λ f. runs_on),
            );
        abandoned = nothing;
      }

  at_6 : Agrees (row 3 6 true) (line no_words line_6) (outside_items m w 3 6 [] (step_count m w ++ (m (seen w) ∈ below (m counter_limit) ∷ [])))
  unfolding running_damaged arguments_damaged kept_damaged
  at_6 =
      record {
        of_record = nothing;
        before = all_tested (test (test none));
        of_item = nothing;
        of_nodes = nothing;
        ending = quiet 6 (line_6 m w) (eqb-false 6 45 refl) (eqb-false 6 5 refl) does_6;
        abandoned = nothing;
      }

  at_closing : Agrees (row 5 0 true) (line no_words closing) (outside_items m w 5 0 (total_arguments m w (at_most (m (noted w)))) (step_count m w))
  unfolding running_damaged arguments_damaged kept_damaged
  at_closing =
      record {
        of_record = joined at_the_end nothing;
        before = steps_say;
        of_item = nothing;
        of_nodes = nothing;
        ending = quiet 0 (closing m w) (eqb-false 0 45 refl) (eqb-false 0 5 refl) closes;
        abandoned = nothing;
      }

  -- the table of phases, the lines and the rows, in step
  abbrev InStep : List PhaseRow → List Line → List Row → Type 0
  InStep [] ls us = Unit {0}
  InStep (r ∷ rs) [] us = ⊥
  InStep (r ∷ rs) (l ∷ ls) [] = ⊥
  InStep (r ∷ rs) (l ∷ ls) (u ∷ us) = Agrees r l u × InStep rs ls us

  at : (rs : List PhaseRow) (ls : List Line) (us : List Row) → InStep rs ls us → (p : ℕ) → p < length rs → (r : PhaseRow) (l : Line) (u : Row)
      → Agrees (get_or rs p r) (get_or ls p l) (get_or us p u)
  at [] ls us h p b r l u = absurd (omega arith)
  at (x ∷ rs) [] us h p b r l u = absurd h
  at (x ∷ rs) (y ∷ ls) [] h p b r l u = absurd h
  at (x ∷ rs) (y ∷ ls) (z ∷ us) h zero b r l u = h.0
  at (x ∷ rs) (y ∷ ls) (z ∷ us) h (suc p) b r l u = at rs ls us h.1 p (omega arith) r l u

  in_step : InStep (tail table) (tail lines) (tail (rows m w))
  unfolding table lines rows arguments_damaged kept_damaged
  in_step =
      -- vRead
      (
        agrees refl refl in_v_read nothing nothing fetches,
        (
          agrees refl refl in_v_read node_kept stamp_says does_20,
          (
            agrees refl refl in_v_read node_kept nothing does_21,
            (
              agrees refl refl in_v_read number_kept stamp_says does_22,
              (
                agrees refl refl in_v_read node_kept value_says does_39,
                -- vCAS
                (
                  agrees refl refl in_v_cas nothing nothing fetches,
                  (
                    agrees refl refl in_v_cas node_kept stamp_says does_20,
                    (
                      agrees refl refl in_v_cas node_kept nothing does_21,
                      (
                        agrees refl refl in_v_cas number_kept stamp_says does_22,
                        (
                          agrees refl refl in_v_cas node_kept value_says does_43,
                          (
                            at_45,
                            (
                              holds refl refl in_v_cas both_nodes_kept nothing does_46,
                              (
                                agrees refl refl in_v_cas node_kept stamp_says does_20,
                                (
                                  agrees refl refl in_v_cas node_kept nothing does_21,
                                  (
                                    agrees refl refl in_v_cas number_kept stamp_says does_22,
                                    (
                                      agrees refl refl in_v_cas nothing nothing does_48,
                                      (
                                        holds refl refl in_v_cas new_node_kept link_says does_50,
                                        (
                                          agrees refl refl in_v_cas nothing nothing fetches,
                                          (
                                            agrees refl refl in_v_cas node_kept stamp_says does_20,
                                            (
                                              agrees refl refl in_v_cas node_kept nothing does_21,
                                              (
                                                agrees refl refl in_v_cas number_kept stamp_says does_22,
                                                (
                                                  agrees refl refl in_v_cas nothing nothing does_52,
                                                  -- takeSnapshot
                                                  (
                                                    at_5,
                                                    (
                                                      at_6,
                                                      -- readSnapshot
                                                      (
                                                        agrees refl refl in_read_snapshot nothing nothing fetches,
                                                        (
                                                          agrees refl refl in_read_snapshot node_kept stamp_says does_20,
                                                          (
                                                            agrees refl refl in_read_snapshot node_kept nothing does_21,
                                                            (
                                                              agrees refl refl in_read_snapshot number_kept stamp_says does_22,
                                                              (
                                                                agrees refl refl in_read_snapshot node_kept tested_says does_34,
                                                                -- total
                                                                (
                                                                  agrees refl refl in_total nothing nothing total_does_32,
                                                                  (
                                                                    agrees refl refl in_total node_kept stamp_says does_20,
                                                                    (
                                                                      agrees refl refl in_total node_kept nothing does_21,
                                                                      (
                                                                        agrees refl refl in_total number_kept stamp_says does_22,
                                                                        (
                                                                          agrees refl refl in_total node_kept tested_says total_does_34,
                                                                          (at_closing, tt),
                                                                        ),
                                                                      ),
                                                                    ),
                                                                  ),
                                                                ),
                                                              ),
                                                            ),
                                                          ),
                                                        ),
                                                      ),
                                                    ),
                                                  ),
                                                ),
                                              ),
                                            ),
                                          ),
                                        ),
                                      ),
                                    ),
                                  ),
                                ),
                              ),
                            ),
                          ),
                        ),
                      ),
                    ),
                  ),
                ),
              ),
            ),
          ),
        ),
      )

  -- ---- at any known phase. An idle record uses no word but its phase

  abbrev pub row_at : ℕ → Row
  row_at p = get_or (rows m w) p (outside_items m w 0 0 [] [])

  at_phase : (p : ℕ) → suc p ≤ 35 → Agrees (row_of (suc p)) (line_of_phase (suc p)) (row_at (suc p))
  unfolding table lines rows row_of line_of_phase
  at_phase p b = at (tail table) (tail lines) (tail (rows m w)) in_step p (omega arith) _ _ _

  pub busy_agrees : (p : ℕ) → p ≤ 35 → (p ≡ 0 → ⊥) → Agrees (row_of p) (line_of_phase p) (row_at p)
  busy_agrees zero k f = absurd (f refl)
  busy_agrees (suc p) k f = at_phase p k

  unless_idle : (b : PhaseRow → Bool) (us : Row → List Use) → us (outside_items m w 0 0 [] []) ≡ []
      → ((p : ℕ) → suc p ≤ 35 → Exactly (b (row_of (suc p))) (us (row_at (suc p))))
      → (p : ℕ) → p ≤ 35 → Exactly (not (eqb p 0) && b (row_of p)) (us (row_at p))
  unfolding rows
  unless_idle b us e h zero k = subst (λ (xs : List Use). Exactly false xs) (sym e) nothing
  unless_idle b us e h (suc p) k = exactly_as (ap (λ (t : Bool). not t && b (row_of (suc p))) (sym (eqb-suc-zero p))) (h p k)

  pub worker_says : (p : ℕ) → Says (ltb 35 p || (not (eqb p 0) && running_damaged (row_of p) m w)) (Outside (p ∈ at_most 35 ∷ (row_at p).in_record))
  worker_says p =
      says_else (outside (at_most 35) p)
      (λ e. (unless_idle (λ r. running_damaged r m w) (λ u. u.in_record) refl (λ k b. (at_phase k b).of_record) p (ltb-false 35 p e)).says)

  pub step_says : (p : ℕ) → p ≤ 35 → Exactly (not (eqb p 0) && before_step (row_of p) m w) (row_at p).before_a_step
  step_says = unless_idle (λ r. before_step r m w) (λ u. u.before_a_step) refl (λ k b. (at_phase k b).before)
