-- Which paths steps match, by the last of them.
use Rattle.std.specs.Prelude.{◌≡◌, ◌↔◌, ℕ, List, [], ◌∷◌, ◌++◌}
use Rattle.nx_tree.specs.Forest.{OrderedTree}
use Rattle.nx_reach.specs.declared.step.Step.{Step}
use Rattle.nx_reach.specs.declared.step.Step.TheVariants.{Child, Below}
use Rattle.nx_reach.specs.Reach.{Matches, HasLabel}

-- no steps match the empty path alone
abbrev pub NoneMatchRoot : Type 0
NoneMatchRoot = (tree : OrderedTree) (path : List ℕ) → Matches tree path [] ↔ (path ≡ [])

-- steps that end in a child step match the path of a node with its label, where those before match the path without its last position
abbrev pub LastIsChild : Type 0
LastIsChild = (tree : OrderedTree) (path : List ℕ) (before : List Step) (name : List ℕ) →
    Matches tree path (before ++ Child name ∷ []) ↔ (HasLabel tree path name × ((parent : List ℕ) × (position : ℕ) × (path ≡ parent ++ position ∷ []) × Matches tree parent before))

-- steps that end in a descendant step match the path of a node with its label, where those before match a shorter beginning of the path
abbrev pub LastIsBelow : Type 0
LastIsBelow = (tree : OrderedTree) (path : List ℕ) (before : List Step) (name : List ℕ) →
    Matches tree path (before ++ Below name ∷ []) ↔ (HasLabel tree path name × ((above rest : List ℕ) × (path ≡ above ++ rest) × (rest ≡ [] → ⊥) × Matches tree above before))
