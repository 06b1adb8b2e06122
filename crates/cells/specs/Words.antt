-- Words that hold a catalogue of p workers, m items and n nodes, what a call leaves of them, and what make leaves.
use Rattle.std.specs.Prelude.{ℕ, ◌≤◌, List, ◌≡◌, length, get_or}
use Rattle.std.proofs.Common.{ap, ap₂, sym, ◌∙◌, subst, arith}
use Rattle.definitions.specs.Cells.{Cell, Cells, workers, items_limit, nodes_limit, place, items_start, nodes_start, needed, items_offset, nodes_offset, cells_of, written}
use Rattle.definitions.specs.Answers.{Outcome}
use Rattle.definitions.specs.Calls.{leaving}
use Rattle.cells.specs.Stands.{Stands}
use Rattle.cells.specs.Update.{after, Proper, Shows, written_shows, length_written, after_size}

-- The header's first three words are these sizes, and the words are enough for them.
pub record Sized (p m n : ℕ) (ws : List ℕ) : Type 0 where
  pub workers_are : get_or ws 0 0 ≡ p
  pub items_are : get_or ws 1 0 ≡ m
  pub nodes_are : get_or ws 2 0 ≡ n
  pub enough : needed p m n ≤ length ws

-- Sized words show their own cells.
pub shows_own : (p m n : ℕ) (ws : List ℕ) → Sized p m n ws → Shows p m n ws (cells_of ws)
shows_own p m n ws z c h =
    ap₂ (λ (x y : ℕ). get_or ws (place (items_start x) (nodes_start x y) c) 0) (sym z.workers_are) (sym z.items_are)

-- What an outcome with proper writes leaves: words of the same sizes, as many, whose cells are those before, changed by its assignments.
pub record Left (p m n : ℕ) (ws after_ws : List ℕ) (f : Cells) : Type 0 where
  pub sized : Sized p m n after_ws
  pub as_many : length after_ws ≡ length ws
  pub shows : (c : Cell) → Stands p m n c → cells_of after_ws c ≡ f c

pub leaves : (p m n : ℕ) (ws : List ℕ) → Sized p m n ws → (o : Outcome) → Proper p m n o.writes
    → Left p m n ws (leaving ws o).words (after (cells_of ws) o.writes)
leaves p m n ws z o proper = record {
  sized = new_sized;
  as_many = many;
  shows = λ c h. sym (shows_own p m n (leaving ws o).words new_sized c h)
      ∙ shown c h;
}
  where
    many : length (written (items_offset ws) (nodes_offset ws) ws o.writes) ≡ length ws
    many = length_written (items_offset ws) (nodes_offset ws) ws o.writes

    shown : Shows p m n (written (items_offset ws) (nodes_offset ws) ws o.writes) (after (cells_of ws) o.writes)
    shown =
        subst (λ (a : ℕ). Shows p m n (written a (nodes_offset ws) ws o.writes) (after (cells_of ws) o.writes)) (ap items_start (sym z.workers_are))
        (subst (λ (b : ℕ). Shows p m n (written (items_start p) b ws o.writes) (after (cells_of ws) o.writes))
        (ap₂ nodes_start (sym z.workers_are) (sym z.items_are))
        (written_shows p m n ws (cells_of ws) o.writes z.enough (shows_own p m n ws z) proper))

    new_sized : Sized p m n (leaving ws o).words
    new_sized = record {
      workers_are = shown workers (omega arith) ∙ after_size p m n (cells_of ws) o.writes proper workers (omega arith) ∙ z.workers_are;
      items_are = shown items_limit (omega arith) ∙ after_size p m n (cells_of ws) o.writes proper items_limit (omega arith) ∙ z.items_are;
      nodes_are = shown nodes_limit (omega arith) ∙ after_size p m n (cells_of ws) o.writes proper nodes_limit (omega arith) ∙ z.nodes_are;
      enough = omega (arith, many, z.enough);
    }
