-- Lists that stand behind each other in one.
use Rattle.std.specs.Prelude.{◌≡◌, ℕ, zero, suc, ◌≤◌, List, [], ◌∷◌, get_or}
use Rattle.std.specs.List.{between}

-- the parts of a list, the first of them from a place on, each up to its end
abbrev pub parts_from : ℕ → List ℕ → List ℕ → List (List ℕ)
parts_from begin [] xs = []
parts_from begin (end ∷ ends) xs = between begin end xs ∷ parts_from end ends xs

-- these are ends of parts from a place on, the last of which ends where the list does, behind n items
abbrev pub AreEnds : ℕ → List ℕ → ℕ → Type 0
AreEnds begin [] n = begin ≡ n
AreEnds begin (end ∷ ends) n = (begin ≤ end) × AreEnds end ends n

-- where the part of this number begins
abbrev pub begin_of : ℕ → List ℕ → ℕ → ℕ
begin_of begin ends zero = begin
begin_of begin ends (suc k) = get_or ends k 0
