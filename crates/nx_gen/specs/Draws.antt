-- A linear congruential generator, and the numbers and texts that are drawn from it.
use Rattle.std.specs.Prelude.{ℕ, ◌+◌, ◌*◌, ◌/◌, ◌%◌, ◌^◌, List, replicate}

-- the state after a draw
abbrev pub next_state : ℕ → ℕ
next_state state = (state * 1103515245 + 12345) % 2 ^ 31

-- what a draw gives: the next state without its lowest 8 bits, which repeat soon
abbrev pub draw_from : ℕ → ℕ
draw_from state = next_state state / 256

-- the next draw, as a number below n
abbrev pub drawn_below : ℕ → ℕ → ℕ
drawn_below n state = draw_from state % n

-- a text takes two draws: its length, at most 32, and the letter, from `a` on, that it repeats
abbrev pub drawn_text : ℕ → List ℕ
drawn_text state = replicate (drawn_below 33 state) (97 + drawn_below 26 (next_state state))

-- the state after a text
abbrev pub after_text : ℕ → ℕ
after_text state = next_state (next_state state)
