-- Steps over the labels along a path, and the set of steps that are open below it.
use Rattle.std.specs.Prelude.{◌≡◌, ℕ, suc, ◌+◌, ◌*◌, Bool, true, false, ◌&&◌, ◌||◌, if◌then◌else◌, List, [], ◌∷◌, ◌++◌}
use Rattle.std.specs.Str.{bytes_eq}
use Rattle.std.specs.Option.{option_map_or}
use Rattle.nx_tree.specs.Forest.{OrderedTree, Forest, Empty, Plant}
use Rattle.nx_tree.specs.Edit.{child}
use Rattle.nx_matrix.specs.Label.{label}
use Rattle.nx_reach.specs.declared.step.Step.{Step}
use Rattle.nx_reach.specs.declared.step.Step.TheVariants.{Child, Below}
use Rattle.nx_reach.specs.Reach.{label_of}

-- the list, or what is left of it behind some of its items, passes the test
abbrev pub some_tail : {X : Type 0} → (List X → Bool) → List X → Bool
some_tail test [] = test []
some_tail test (x ∷ xs) = test (x ∷ xs) || some_tail test xs

-- where the steps before this one fit by a test, the step is open below these labels
abbrev pub opens : Step → (List (List ℕ) → Bool) → List (List ℕ) → Bool
opens (Child name) test labels = test labels
opens (Below name) test labels = some_tail test labels

-- the steps, the last one first, fit the labels along a path, the last one first
abbrev pub fits : List Step → List (List ℕ) → Bool
fits [] [] = true
fits [] (x ∷ above) = false
fits (step ∷ before) [] = false
fits (step ∷ before) (x ∷ above) = bytes_eq (label_of step) x && opens step (λ ls. fits before ls) above

-- the step is open below a node, where it was open above or not, and those before it fit the node or not
abbrev pub stays : Step → Bool → Bool → Bool
stays (Child name) is_open fit = fit
stays (Below name) is_open fit = fit || is_open

abbrev pub bit : Bool → ℕ
bit b = if b then 1 else 0

-- The steps that are open below these labels, as bits, from the first step's on: those before are `before`, the last one first.
abbrev pub open_bits : List Step → List Step → List (List ℕ) → ℕ
open_bits before [] labels = 0
open_bits before (step ∷ steps) labels = bit (opens step (fits before) labels) + 2 * open_bits (step ∷ before) steps labels

-- the steps behind those before, the last one first
abbrev pub turned : List Step → List Step → List Step
turned before [] = before
turned before (step ∷ steps) = turned (step ∷ before) steps

-- From the steps that are open at a place and whether those before fit the label there: those that are open below it, and whether all fit.
abbrev pub Goes : List Step → ℕ → Bool → List ℕ → ℕ → Bool → Type 0
Goes steps bits fit name below all =
    (before : List Step) (labels : List (List ℕ)) → bits ≡ open_bits before steps labels → fit ≡ fits before (name ∷ labels) →
    (below ≡ open_bits before steps (name ∷ labels)) × (all ≡ fits (turned before steps) (name ∷ labels))

-- what was open above, the root's first
abbrev pub opens_above : List Step → List (List ℕ) → List ℕ
opens_above steps [] = []
opens_above steps (x ∷ above) = opens_above steps above ++ open_bits [] steps above ∷ []

-- these paths that match, below a node with these labels along its path, from a position on
abbrev pub found_in : List Step → List (List ℕ) → List ℕ → ℕ → Forest → List (List ℕ)
found_in steps labels path position Empty = []
found_in steps labels path position (Plant node below beside) =
    (if fits (turned [] steps) (label node ∷ labels) then (path ++ position ∷ []) ∷ [] else [])
    ++ (found_in steps (label node ∷ labels) (path ++ position ∷ []) 0 below ++ found_in steps labels path (suc position) beside)

-- the labels along a path in the tree, the last one first, before these
abbrev pub labels_on : List (List ℕ) → OrderedTree → List ℕ → List (List ℕ)
labels_on labels tree [] = labels
labels_on labels tree (position ∷ path) = option_map_or (λ t. labels_on (label t.node ∷ labels) t path) (child tree.below position) labels
