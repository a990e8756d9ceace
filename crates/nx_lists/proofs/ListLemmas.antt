-- What a list with one element more in front contains.
use Rattle.std.proofs.Common.{◌≡◌, ℕ, zero, suc, ◌<◌, List, ◌∷◌, length, get_or, ◌⊎◌, inl, inr, arith}
use Rattle.std.specs.Prelude.{Contains}

pub contains_here : {X : Type 0} (first : X) (more : List X) (x : X) → first ≡ x → Contains (first ∷ more) x
contains_here first more x e = (0, omega arith, e)

pub contains_there : {X : Type 0} (first : X) (more : List X) (x : X) → Contains more x → Contains (first ∷ more) x
contains_there first more x h = (suc h.0, (let lt : h.0 < length more = h.1 in omega arith), h.2)

pub contains_parts : {X : Type 0} (first : X) (more : List X) (x : X) → Contains (first ∷ more) x → (first ≡ x) ⊎ Contains more x
contains_parts {X} first more x h = at h.0 h.1 h.2
  where
    at : (k : ℕ) → k < length (first ∷ more) → get_or (first ∷ more) k x ≡ x → (first ≡ x) ⊎ Contains more x
    at zero within is = inl is
    at (suc k) within is = inr (k, omega arith, is)
