-- Which bytes of a content are written as two.
use Rattle.std.specs.Prelude.{ℕ, Bool, ◌==◌, ◌||◌}

abbrev pub needs_escape : ℕ → Bool
needs_escape b = b == 10 || b == 9 || b == 13 || b == 92
