-- The paths that steps reach.
use Rattle.std.specs.Prelude.{◌≡◌, ◌↔◌, ℕ, Bool, false, ◌||◌, List, [], ◌∷◌, ◌++◌, reverse, Some, Contains}
use Rattle.std.specs.List.{AllPairs}
use Rattle.nx_tree.specs.Forest.{OrderedTree, Forest, Empty, Plant}
use Rattle.std.specs.Str.{bytes_eq}
use Rattle.nx_tree.specs.Edit.{at}
use Rattle.nx_parts.specs.Order.{ComesBefore}
use Rattle.nx_matrix.specs.Label.{label}
use Rattle.nx_reach.specs.declared.step.Step.{Step}
use Rattle.nx_reach.specs.declared.step.Step.TheVariants.{Child, Below}

-- the label that a step asks for
abbrev pub label_of : Step → List ℕ
label_of (Child name) = name
label_of (Below name) = name

-- there is a node at the path, and it has the label
abbrev pub HasLabel : OrderedTree → List ℕ → List ℕ → Type 0
HasLabel tree path name = (t : OrderedTree) × (at tree path ≡ Some t) × (label t.node ≡ name)

-- a node of the forest, at any depth, has the label
abbrev pub has_label : List ℕ → Forest → Bool
has_label name Empty = false
has_label name (Plant node below beside) = bytes_eq name (label node) || (has_label name below || has_label name beside)

-- the steps, the last one first, lead to the path
abbrev pub MatchesBack : OrderedTree → List ℕ → List Step → Type 0
MatchesBack tree path [] = path ≡ []
MatchesBack tree path (Child name ∷ before) =
    HasLabel tree path name × ((parent : List ℕ) × (position : ℕ) × (path ≡ parent ++ position ∷ []) × MatchesBack tree parent before)
MatchesBack tree path (Below name ∷ before) =
    HasLabel tree path name × ((above rest : List ℕ) × (path ≡ above ++ rest) × (rest ≡ [] → ⊥) × MatchesBack tree above before)

-- Steps match a path. No steps match the empty path alone. Steps that end in a child step match a path whose node has its label where those before match the path without its last
-- position; steps that end in a descendant step where those before match a shorter beginning of the path.
abbrev pub Matches : OrderedTree → List ℕ → List Step → Type 0
Matches tree path steps = MatchesBack tree path (reverse steps)

-- the paths that match, in document order, each once
pub record Found (tree : OrderedTree) (steps : List Step) (paths : List (List ℕ)) : Type 0 where
  pub match : (path : List ℕ) → Contains paths path ↔ Matches tree path steps
  pub order : AllPairs ComesBefore paths

-- there is exactly one such list
abbrev pub HasOneFound : OrderedTree → List Step → Type 0
HasOneFound tree steps = (paths : List (List ℕ)) × Found tree steps paths × ((others : List (List ℕ)) → Found tree steps others → others ≡ paths)
