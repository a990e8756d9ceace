-- Bits in words of 8.
use Rattle.std.specs.Prelude.{ℕ, ◌/◌, ◌%◌, ◌==◌, Bool, List, get_or}
use Rattle.std.specs.Int.{bit_at, div_ceil}

-- whether a bit of a word is set
abbrev pub has_bit : ℕ → ℕ → Bool
has_bit word bit = bit_at word bit == 1

-- whether a bit is set, counted over all words
abbrev pub is_bit_set : List ℕ → ℕ → Bool
is_bit_set words i = has_bit (get_or words (i / 8) 0) (i % 8)

-- how many words so many bits take
abbrev pub words_for : ℕ → ℕ
words_for count = div_ceil count 8
