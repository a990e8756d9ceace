-- Which paths a walk finds: those to nodes whose labels the steps fit.
use Rattle.std.proofs.Common.{◌≡◌, ℕ, zero, suc, ◌+◌, ◌<◌, Bool, true, false, inl, inr, List, [], ◌∷◌, ◌++◌, Option, Some, refl, sym, ap, ◌∙◌, append_assoc, arith}
use Rattle.std.specs.Prelude.{if◌then◌else◌, option_and_then, Contains}
use Rattle.std.specs.Option.{option_map_or}
use Rattle.std.proofs.lemmas.List.Elements.{Contains-append_left, Contains-append_right, Contains-append_cases}
use Rattle.nx_lists.proofs.ListLemmas.{contains_here, contains_parts}
use Rattle.nx_tree.specs.Forest.{OrderedTree, Forest, Empty, Plant}
use Rattle.nx_tree.specs.Edit.{child, at}
use Rattle.nx_matrix.specs.Label.{label}
use Rattle.nx_reach.specs.declared.step.Step.{Step}
use Rattle.nx_reach.specs.Fit.{fits, turned, labels_on, found_in}

-- the tree at the end of a path that begins at a position of a forest, and the labels along it
abbrev pub at_in : Forest → ℕ → List ℕ → Option OrderedTree
at_in forest position more = option_and_then (λ t. at t more) (child forest position)

abbrev pub labels_in : List (List ℕ) → Forest → ℕ → List ℕ → List (List ℕ)
labels_in labels forest position more = option_map_or (λ t. labels_on (label t.node ∷ labels) t more) (child forest position) labels

-- The path goes on from another, to a node of the forest whose positions begin at k, and the steps fit the labels along it.
abbrev pub IsReached : List Step → List (List ℕ) → List ℕ → ℕ → Forest → List ℕ → Type 0
IsReached steps labels path k forest p =
    (j : ℕ) × (more : List ℕ) × (u : OrderedTree) × (p ≡ path ++ (k + j) ∷ more) × (at_in forest j more ≡ Some u) × (fits (turned [] steps) (labels_in labels forest j more) ≡ true)

pub no_member : (p : List ℕ) → Contains [] p → ⊥
no_member p h = let lt : h.0 < 0 = h.1 in omega arith

pub only_one : (b : Bool) (q p : List ℕ) → Contains (if b then q ∷ [] else []) p → (b ≡ true) × (p ≡ q)
only_one true q p h = elim (contains_parts q [] p h) [ inl e ↦ (refl, sym e) | inr none ↦ absurd (no_member p none) ]
only_one false q p h = absurd (no_member p h)

pub one_there : (b : Bool) (q p : List ℕ) → b ≡ true → p ≡ q → Contains (if b then q ∷ [] else []) p
one_there true q p e is = contains_here q [] p (sym is)
one_there false q p e is = absurd (cc)

-- a path through the node at position k
pub through : (path : List ℕ) (k : ℕ) (more p : List ℕ) → p ≡ (path ++ k ∷ []) ++ more → p ≡ path ++ k ∷ more
through path k more p e = e ∙ append_assoc path (k ∷ []) more

pub sound : (steps : List Step) (labels : List (List ℕ)) (path : List ℕ) (k : ℕ) (forest : Forest) (p : List ℕ) → Contains (found_in steps labels path k forest) p →
    IsReached steps labels path k forest p
sound steps labels path k Empty p h = absurd (no_member p h)
sound steps labels path k (Plant node below beside) p h =
    let here : List (List ℕ) = if fits (turned [] steps) (label node ∷ labels) then (path ++ k ∷ []) ∷ [] else [] in
    let under : List (List ℕ) = found_in steps (label node ∷ labels) (path ++ k ∷ []) 0 below in
    let after : List (List ℕ) = found_in steps labels path (suc k) beside in
    elim (Contains-append_cases here (under ++ after) p h) [
      | inl x ↦
          let o : (fits (turned [] steps) (label node ∷ labels) ≡ true) × (p ≡ path ++ k ∷ []) = only_one (fits (turned [] steps) (label node ∷ labels)) (path ++ k ∷ []) p x in
          (0, [], record { node = node; below = below }, o.1 ∙ ap (λ (n : ℕ). path ++ n ∷ []) (let n : k ≡ k + 0 = omega arith in n), refl, o.0)
      | inr y ↦ elim (Contains-append_cases under after p y) [
        | inl b ↦
            let r : IsReached steps (label node ∷ labels) (path ++ k ∷ []) 0 below p = sound steps (label node ∷ labels) (path ++ k ∷ []) 0 below p b in
            let n0 : k ≡ k + 0 = omega arith in
            let nj : 0 + r.0 ≡ r.0 = omega arith in
            (0, r.0 ∷ r.1, r.2, through path k ((0 + r.0) ∷ r.1) p r.3 ∙ ap (λ (n : ℕ). path ++ k ∷ n ∷ r.1) nj ∙ ap (λ (n : ℕ). path ++ n ∷ r.0 ∷ r.1) n0, r.4, r.5)
        | inr c ↦
            let r : IsReached steps labels path (suc k) beside p = sound steps labels path (suc k) beside p c in
            let n : suc k + r.0 ≡ k + suc r.0 = omega arith in
            (suc r.0, r.1, r.2, r.3 ∙ ap (λ (m : ℕ). path ++ m ∷ r.1) n, r.4, r.5)
      ]
    ]

pub complete : (steps : List Step) (labels : List (List ℕ)) (path : List ℕ) (k : ℕ) (forest : Forest) (p : List ℕ) (j : ℕ) (more : List ℕ) (u : OrderedTree) →
    p ≡ path ++ (k + j) ∷ more → at_in forest j more ≡ Some u → fits (turned [] steps) (labels_in labels forest j more) ≡ true →
    Contains (found_in steps labels path k forest) p
complete steps labels path k Empty p j more u is there f = absurd (cc)
complete steps labels path k (Plant node below beside) p zero [] u is there f =
    let n : k + 0 ≡ k = omega arith in
    Contains-append_left (if fits (turned [] steps) (label node ∷ labels) then (path ++ k ∷ []) ∷ [] else [])
    (found_in steps (label node ∷ labels) (path ++ k ∷ []) 0 below ++ found_in steps labels path (suc k) beside) p
    (one_there (fits (turned [] steps) (label node ∷ labels)) (path ++ k ∷ []) p f (is ∙ ap (λ (m : ℕ). path ++ m ∷ []) n))
complete steps labels path k (Plant node below beside) p zero (i ∷ more) u is there f =
    let n : k + 0 ≡ k = omega arith in
    let m : i ≡ 0 + i = omega arith in
    Contains-append_right (if fits (turned [] steps) (label node ∷ labels) then (path ++ k ∷ []) ∷ [] else [])
    (found_in steps (label node ∷ labels) (path ++ k ∷ []) 0 below ++ found_in steps labels path (suc k) beside) p
    (Contains-append_left (found_in steps (label node ∷ labels) (path ++ k ∷ []) 0 below) (found_in steps labels path (suc k) beside) p
    (complete steps (label node ∷ labels) (path ++ k ∷ []) 0 below p i more u
    (is ∙ ap (λ (x : ℕ). path ++ x ∷ i ∷ more) n ∙ ap (λ (x : ℕ). path ++ k ∷ x ∷ more) m ∙ sym (append_assoc path (k ∷ []) ((0 + i) ∷ more))) there f))
complete steps labels path k (Plant node below beside) p (suc j) more u is there f =
    let n : k + suc j ≡ suc k + j = omega arith in
    Contains-append_right (if fits (turned [] steps) (label node ∷ labels) then (path ++ k ∷ []) ∷ [] else [])
    (found_in steps (label node ∷ labels) (path ++ k ∷ []) 0 below ++ found_in steps labels path (suc k) beside) p
    (Contains-append_right (found_in steps (label node ∷ labels) (path ++ k ∷ []) 0 below) (found_in steps labels path (suc k) beside) p
    (complete steps labels path (suc k) beside p j more u (is ∙ ap (λ (m : ℕ). path ++ m ∷ more) n) there f))
