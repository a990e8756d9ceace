-- What the walk over the marks adds, in the words of the parts.
use Rattle.std.proofs.Common.{◌≡◌, ℕ, ◌+◌, ◌≤◌, ◌==◌, Bool, true, false, if◌then◌else◌, List, [], ◌∷◌, ◌++◌, Option, None, Some, unwrap_or, refl, sym, ap, ◌∙◌, arith, append_assoc}
use Rattle.std.specs.Option.{option_or}
use Rattle.nx_tree.specs.Forest.{Forest, Empty, Plant}
use Rattle.nx_weights.specs.Weight.{weight, total}
use Rattle.nx_parts.specs.declared.interval.Interval.{Interval}
use Rattle.nx_parts.specs.Partitioning.{holder}
use Rattle.nx_parts.specs.Marks.{owed}
use Rattle.nx_parts.proofs.Owned.{is_place, owned}

-- nothing or a number is at most that number
pub at_most_one : (b : Bool) (w : ℕ) → (if b then w else 0) ≤ w
at_most_one true w = omega arith
at_most_one false w = omega arith

-- no interval owns more than all of a forest
pub owed-total : (h : List ℕ → Option ℕ) (index above position : ℕ) (f : Forest) → owed h index above position f ≤ total f
owed-total h index above position Empty = omega arith
owed-total h index above position (Plant node below beside) =
    let a = at_most_one (unwrap_or (h (position ∷ [])) above == index) (weight node) in
    let b = owed-total (λ path. h (position ∷ path)) index (unwrap_or (h (position ∷ [])) above) 0 below in
    let c = owed-total h index above (position + 1) beside in
    omega (arith, a, b, c)

-- two ways to say what holds each node
pub owed-same : (g h : List ℕ → Option ℕ) (index above position : ℕ) (f : Forest) → ((p : ℕ) (path : List ℕ) → g (p ∷ path) ≡ h (p ∷ path)) → owed g index above position f ≡ owed h index above position f
owed-same g h index above position Empty e = refl
owed-same g h index above position (Plant node below beside) e =
    let o = e position [] in
    let a : (if unwrap_or (g (position ∷ [])) above == index then weight node else 0) ≡ (if unwrap_or (h (position ∷ [])) above == index then weight node else 0) =
    ap (λ (x : Option ℕ). if unwrap_or x above == index then weight node else 0) o in
    let b : owed (λ path. g (position ∷ path)) index (unwrap_or (g (position ∷ [])) above) 0 below ≡ owed (λ path. h (position ∷ path)) index (unwrap_or (h (position ∷ [])) above) 0 below =
    owed-same (λ path. g (position ∷ path)) (λ path. h (position ∷ path)) index (unwrap_or (g (position ∷ [])) above) 0 below (λ p path. e position (p ∷ path))
    ∙ ap (λ (x : Option ℕ). owed (λ path. h (position ∷ path)) index (unwrap_or x above) 0 below) o in
    let c : owed g index above (position + 1) beside ≡ owed h index above (position + 1) beside = owed-same g h index above (position + 1) beside e in
    omega (arith, a, b, c)

or_some : (o : Option ℕ) (above : ℕ) → option_or o (Some above) ≡ Some (unwrap_or o above)
or_some None above = refl
or_some (Some x) above = refl

-- the marks stand for the holders below a path
pub owed-owned : (parts : List Interval) (h : List ℕ → Option ℕ) (index above : ℕ) (path : List ℕ) (position : ℕ) (f : Forest) → ((p : ℕ) (rest : List ℕ) → h (p ∷ rest) ≡ holder parts (path ++ p ∷ rest)) → owed h index above position f ≡ owned parts index (Some above) path position f
owed-owned parts h index above path position Empty e = refl
owed-owned parts h index above path position (Plant node below beside) e =
    let here = path ++ position ∷ [] in
    let o : Some (unwrap_or (h (position ∷ [])) above) ≡ option_or (holder parts here) (Some above) =
    sym (or_some (h (position ∷ [])) above) ∙ ap (λ (x : Option ℕ). option_or x (Some above)) (e position []) in
    let a : (if unwrap_or (h (position ∷ [])) above == index then weight node else 0) ≡ (if is_place index (option_or (holder parts here) (Some above)) then weight node else 0) =
    ap (λ (x : Option ℕ). if is_place index x then weight node else 0) o in
    let b : owed (λ rest. h (position ∷ rest)) index (unwrap_or (h (position ∷ [])) above) 0 below ≡ owned parts index (option_or (holder parts here) (Some above)) here 0 below =
    owed-owned parts (λ rest. h (position ∷ rest)) index (unwrap_or (h (position ∷ [])) above) here 0 below
    (λ p rest. e position (p ∷ rest) ∙ ap (holder parts) (sym (append_assoc path (position ∷ []) (p ∷ rest))))
    ∙ ap (λ (x : Option ℕ). owned parts index x here 0 below) o in
    let c : owed h index above (position + 1) beside ≡ owned parts index (Some above) path (position + 1) beside = owed-owned parts h index above path (position + 1) beside e in
    omega (arith, a, b, c)
