-- Document 01's generator: X becomes 1664525·X + 1013904223, wrapping at 32 bits; a draw is X / 65,536.
use Rattle.std.specs.Prelude.{◌≡◌, ℕ, ◌+◌, ◌*◌, ◌/◌, ◌%◌, cond, ◌==◌, refl}

abbrev pub next_of : ℕ → ℕ
next_of x = (1664525 * x + 1013904223) % 4294967296

abbrev pub draw_of : ℕ → ℕ
draw_of x = x / 65536

-- A draw among some; among none it is 0.
abbrev pub draw_among : ℕ → (some : ℕ) → ℕ
draw_among x some = cond (some == 0) 0 (draw_of x % some)

-- Document 01's worked draw: from X = 0 the first is 15,470, worker 0 of 2 and worker 2 of 3.
pub first_draw : draw_of (next_of 0) ≡ 15470
first_draw = refl

pub first_of_two : draw_among (next_of 0) 2 ≡ 0
first_of_two = refl

pub first_of_three : draw_among (next_of 0) 3 ≡ 2
first_of_three = refl
