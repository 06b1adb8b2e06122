-- All wrong catalogues of document 01, and wrong abandons, are refuted, and the right one is not.
--
-- | Wrong catalogue (Wrong) | Its run | What is false of it |
-- |---|---|---|
-- | refuses everything | none, a fresh catalogue | `accepted`: a free worker's takeSnapshot is refused |
-- | a constant answer | a vRead of an item registered with 2 answers 1 | `one_order`: by Definition 1 it is 2 |
-- | steps alter nothing | a vRead is stepped five times | `progress`: it goes on after the most steps that it may take |
-- | an invented step count | a vRead's first step | `every_step`: it answers 2, and has executed one line |
-- | the whole operation in its first step | a vRead beside a vCAS that has executed line 41 | `one_order`: it answers the vCAS's new value |
-- | stamping before 46 publishes | a takeSnapshot and a vRead between 45 and 46, then a readSnapshot | `one_order`: it answers a change that came later |
-- | help left out in vRead | a vRead of a node without stamp; a takeSnapshot; then the stamp | `one_order`: at its handle is not what was read before |
-- | help left out in a lost vCAS | the same with a vCAS that lost to that node | `one_order`: at the handle is the value that it did not find |
-- | 22 overwrites a valid stamp | document 01's run 8 | `reads`: the read answers 1, and the item was charged to 2 when the counter left 0 |
-- | C tested at the start | C = 1 and handle 0 taken | `accepted`: a free worker's takeSnapshot is refused |
-- | 34 stops only strictly below | a change of stamp 1, read at handle 1 | `reads`: it answers the value before; at handle 0, `never_2` |
-- | an abandon that keeps the node (WrongAbandons) | three abandons at 46 | `no_node`: 11 with one of four nodes in use |
-- | an abandon that moves the counter | an abandoned takeSnapshot | `accepted`: a total is accepted at a handle that the counter has not left |
-- | an abandon that withdraws a published change, or stamps it | a change abandoned after 46, then another | `stamped_first`: published over a node that no line 22 stamped |
--
-- Stamping before 46 and help left out break Definition 1 in any order (`AnyOrder`), whatever the instants. The whole operation in its first step is
-- ruled out by document 01's instants: no change has taken effect that the vRead could have read.
use Rattle.std.proofs.Common.{sym, subst}
use Rattle.std.specs.Prelude.{List, [], ◌∷◌, ℕ}
use Rattle.definitions.specs.Calls.{outcome}
use Rattle.history.specs.Notes.{Note, Catalogue, words_after, start}
use Rattle.history.specs.Demands.{Demands}
use Rattle.order.specs.Theorems.{run_demands}
use Rattle.refuted.specs.Catalogues.{words_by, notes_by, Refuted, words_same, notes_same, run_same}
use Rattle.refuted.specs.Wrong.{
  refuses_everything,
  constant_answer,
  steps_alter_nothing,
  invented_step_count,
  whole_operation_at_once,
  stamped_before_published,
  v_read_without_help,
  lost_v_cas_without_help,
  stamp_overwritten_at_22,
  counter_tested_at_the_start,
  stops_strictly_below,
}
use Rattle.refuted.proofs.Hollow.{
  refuses_everything_refuted,
  constant_answer_refuted,
  steps_alter_nothing_refuted,
  invented_step_count_refuted,
  whole_operation_at_once_refuted,
}
use Rattle.refuted.proofs.Errors.{
  stamped_before_published_refuted,
  v_read_without_help_refuted,
  lost_v_cas_without_help_refuted,
  stamp_overwritten_at_22_refuted,
  counter_tested_at_the_start_refuted,
  stops_strictly_below_refuted,
}
use Rattle.refuted.proofs.WrongAbandons.{
  abandon_keeps_the_node,
  abandon_moves_the_counter,
  abandon_withdraws_a_change,
  abandon_stamps,
  abandon_keeps_the_node_refuted,
  abandon_moves_the_counter_refuted,
  abandon_withdraws_a_change_refuted,
  abandon_stamps_refuted,
}

pub wrong_catalogues : List Catalogue
wrong_catalogues =
    refuses_everything ∷ constant_answer ∷ steps_alter_nothing ∷ invented_step_count ∷ whole_operation_at_once
    ∷ stamped_before_published ∷ v_read_without_help ∷ lost_v_cas_without_help ∷ stamp_overwritten_at_22 ∷ counter_tested_at_the_start
    ∷ stops_strictly_below
    ∷ abandon_keeps_the_node ∷ abandon_moves_the_counter ∷ abandon_withdraws_a_change ∷ abandon_stamps ∷ []

abbrev pub Every : (Catalogue → Type 0) → List Catalogue → Type 0
Every P [] = Unit {0}
Every P (f ∷ fs) = P f × Every P fs

pub all_refuted : Every Refuted wrong_catalogues
unfolding wrong_catalogues
all_refuted = (
  refuses_everything_refuted,
  (
    constant_answer_refuted,
    (
      steps_alter_nothing_refuted,
      (
        invented_step_count_refuted,
        (
          whole_operation_at_once_refuted,
          (
            stamped_before_published_refuted,
            (
              v_read_without_help_refuted,
              (
                lost_v_cas_without_help_refuted,
                (
                  stamp_overwritten_at_22_refuted,
                  (
                    counter_tested_at_the_start_refuted,
                    (
                      stops_strictly_below_refuted,
                      (abandon_keeps_the_node_refuted, (abandon_moves_the_counter_refuted, (abandon_withdraws_a_change_refuted, (abandon_stamps_refuted, tt)))),
                    ),
                  ),
                ),
              ),
            ),
          ),
        ),
      ),
    ),
  ),
)

-- No run refutes `outcome`: that is demands 2 and 3, for every list of calls (`run_demands`).
pub outcome_not_refuted : Refuted outcome → ⊥
outcome_not_refuted r = r.broken told
  where
    begun : List ℕ
    begun = start r.lent r.p r.m r.n r.q r.c

    told : Demands r.p r.m r.n r.q r.c (words_by outcome begun r.calls) (notes_by outcome begun r.calls)
    told =
        subst (λ (l : List ℕ). Demands r.p r.m r.n r.q r.c l (notes_by outcome begun r.calls)) (sym (words_same begun r.calls))
        (subst (λ (l : List Note). Demands r.p r.m r.n r.q r.c (words_after begun r.calls) l) (sym (notes_same begun r.calls))
        (run_demands r.lent r.p r.m r.n r.q r.c r.made r.calls (run_same begun r.calls r.run)))
