-- Every run of the machine of versions keeps the promises.
use Rattle.std.specs.Prelude.{List, ◌≤◌}
use Rattle.history.specs.Machine.{Limits, Event, after_events}
use Rattle.history.proofs.Run.{run_right}
use Rattle.history.proofs.MachineNotes.{machine_notes}
use Rattle.history.specs.Statements.{Promises}
use Rattle.history.specs.Effects.{effects}
use Rattle.history.proofs.Helps.{helps}
use Rattle.history.proofs.EffectsRun.{effected}
use Rattle.history.proofs.StampedFirst.{stamped_first}
use Rattle.history.proofs.BornItems.{born_in_turn}
use Rattle.history.proofs.NotesOrder.{notes_order}
use Rattle.history.proofs.ExactReads.{exact_reads}
use Rattle.history.proofs.ExactTotals.{exact_totals, total_most}
use Rattle.history.proofs.CountsRight.{whole_lines, refused_lines, progress}
use Rattle.history.proofs.EffectsApart.{ordered, apart, leaves_once, in_turn, exactly}

unfoldable pub promised : (limits : Limits) → limits.items ≤ 256 → limits.nodes ≤ 4096 → (es : List Event) →
    Promises (machine_notes limits es) (effects (machine_notes limits es))
promised limits few_items few_nodes es =
    record {
      one_order = notes_order limits es;
      ordered = ordered limits es;
      apart = apart limits es;
      exactly = exactly limits es;
      leaves_once = leaves_once limits es;
      in_turn = in_turn limits es;
      stamped_first = stamped_first limits es;
      born_in_turn = born_in_turn (after_events limits es) (run_right limits es) (machine_notes limits es) (effected limits es);
      reads = exact_reads limits es;
      totals = exact_totals limits es;
      total_steps = total_most limits few_items few_nodes es;
      whole_lines = whole_lines limits es;
      refused_lines = refused_lines limits es;
      helps = helps limits es;
      progress = progress limits few_items few_nodes es;
    }
