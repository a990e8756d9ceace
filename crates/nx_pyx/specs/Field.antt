-- The fields of a line, decimal numbers, and paths.
use Rattle.std.specs.Prelude.{ℕ, ◌+◌, ◌-◌, ◌*◌, ◌^◌, Bool, false, not, ◌&&◌, ◌||◌, ◌==◌, nat_le, if◌then◌else◌, List, [], ◌∷◌, length, drop, map, fold, Option, None, Some, codes}
use Rattle.std.specs.List.{list_all, list_any, before_first, after_first, slice_split}
use Rattle.std.specs.Str.{bytes_eq}
use Rattle.nx_tree.specs.Document.{is_empty}
use Rattle.nx_pyx.specs.Event.{is_space}

-- the bytes before the first space, or all where there is none
abbrev pub field : List ℕ → List ℕ
field bytes = before_first is_space bytes

-- what stands behind the first space, where there is one
abbrev pub behind_space : List ℕ → Option (List ℕ)
behind_space bytes = if list_any is_space bytes then Some (after_first is_space bytes) else None

abbrev pub begins_with : ℕ → List ℕ → Bool
begins_with b [] = false
begins_with b (first ∷ bytes) = first == b

abbrev pub is_digit : ℕ → Bool
is_digit b = nat_le 48 b && nat_le b 57

-- the number that decimal digits stand for
abbrev pub value_of : List ℕ → ℕ
value_of digits = fold (λ n digit. 10 * n + (digit - 48)) 0 digits

-- the greatest position in a path
abbrev pub greatest_position : ℕ
greatest_position = 2 ^ 32 - 1

-- decimal digits of a number that a position may be
abbrev pub is_number : List ℕ → Bool
is_number digits = list_all is_digit digits && nat_le (value_of digits) greatest_position

-- such digits, at least one and without a leading zero
abbrev pub is_position : List ℕ → Bool
is_position digits = not (is_empty digits) && (not (begins_with 48 digits) || length digits == 1) && is_number digits

abbrev pub is_slash : ℕ → Bool
is_slash b = b == 47

-- what stands behind each slash
abbrev pub steps : List ℕ → List (List ℕ)
steps text = slice_split is_slash (drop 1 text)

-- one slash alone
abbrev pub is_root : List ℕ → Bool
is_root text = bytes_eq text (codes "/")

-- a path: one slash alone, or positions, each behind a slash
abbrev pub is_path : List ℕ → Bool
is_path text = is_root text || (begins_with 47 text && list_all is_position (steps text))

-- the positions of a path
abbrev pub positions_of : List ℕ → List ℕ
positions_of text = if is_root text then [] else map value_of (steps text)
