-- At which paths files were made.
use Rattle.std.specs.Prelude.{◌≡◌, ◌⊎◌, ℕ, List, [], ◌∷◌, ◌++◌, Option, None, Some}

-- these paths, where they are told, and this one behind them
abbrev pub with_made : List ℕ → Option (List (List ℕ)) → Option (List (List ℕ))
with_made path None = None
with_made path (Some made) = Some (made ++ path ∷ [])

-- no file was made, or the one at this path
abbrev pub MayMake : List ℕ → Option (List (List ℕ)) → Option (List (List ℕ)) → Type 0
MayMake path old new = (new ≡ old) ⊎ (new ≡ with_made path old)

-- no file was made but those at these two paths, each once at most, and the first one first
abbrev pub MayMakeBoth : List ℕ → List ℕ → Option (List (List ℕ)) → Option (List (List ℕ)) → Type 0
MayMakeBoth first second old new = MayMake first old new ⊎ MayMake second old new ⊎ (new ≡ with_made second (with_made first old))
