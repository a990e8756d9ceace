-- Operands: the words of a command line that name a store, a command and its arguments.
use Rattle.std.specs.Prelude.{ℕ, ◌==◌, ◌&&◌, Bool, false, not, nat_le, List, [], ◌∷◌, length, map}
use Rattle.std.specs.List.{list_all}
use Rattle.nx_words.specs.declared.operands.Operands.{Operands}

-- a word that isn't empty and doesn't begin with a hyphen
abbrev pub is_operand : List ℕ → Bool
is_operand [] = false
is_operand (b ∷ bytes) = not (b == 45)

-- two such words or more
abbrev pub are_operands : List (List ℕ) → Bool
are_operands words = nat_le 2 (length words) && list_all is_operand words

-- the words of operands, in order
abbrev pub said_by : Operands → List (List ℕ)
said_by operands = operands.store.now ∷ operands.command.now ∷ map (λ argument. argument.now) operands.arguments
