-- A forest with its intervals drawn in, as marks tell it.
use Rattle.std.specs.Prelude.{◌≡◌, ℕ, ◌+◌, ◌≤◌, List, [], ◌∷◌, Option, None, Some}
use Rattle.nx_tree.specs.Forest.{Forest}
use Rattle.nx_cuts.specs.Cut.{CutForest, Bare, Grown, Kept, forest, width, part_weight, AreFree, AreParts}

-- the first of these trees, where there is one, is held otherwise than by this interval
abbrev pub BeginsOther : ℕ → (List ℕ → Option ℕ) → ℕ → CutForest → Type 0
BeginsOther index holder position Bare = Unit {0}
BeginsOther index holder position (Grown node below beside) = holder (position ∷ []) ≡ Some index → ⊥
BeginsOther index holder position (Kept mark members beside) = holder (position ∷ []) ≡ Some index → ⊥

-- What holds these trees from a position on, and those below them, where `holder` tells it by paths: the members of each interval are held by one, which doesn't
-- hold the tree behind them, and the trees of no interval are held as `own` says.
abbrev pub AgreesWithHolder : Option ℕ → (List ℕ → Option ℕ) → ℕ → CutForest → Type 0
AgreesWithHolder own holder position Bare = Unit {0}
AgreesWithHolder own holder position (Grown node below beside) = (holder (position ∷ []) ≡ own) × AgreesWithHolder None (λ path. holder (position ∷ path)) 0 below × AgreesWithHolder own holder (position + 1) beside
AgreesWithHolder own holder position (Kept mark members beside) =
    (index : ℕ) × BeginsOther index holder (position + width members) beside × AgreesWithHolder (Some index) holder position members × AgreesWithHolder own holder (position + width members) beside

-- The trees with their intervals drawn in as the holders are, and no part weighs more than 256.
pub record IsMarked (own : Option ℕ) (holder : List ℕ → Option ℕ) (position : ℕ) (trees : Forest) (drawn : CutForest) : Type 0 where
  pub trees_are : forest drawn ≡ trees
  pub light : AreParts 256 drawn
  pub agrees : AgreesWithHolder own holder position drawn

-- The members of one interval, with the intervals below them.
pub record AreMembers (holder : List ℕ → Option ℕ) (position : ℕ) (trees : Forest) (members : CutForest) : Type 0 where
  pub index : ℕ
  pub marked : IsMarked (Some index) holder position trees members
  pub some : 1 ≤ width members
  pub free : AreFree members
  pub weighs : part_weight members ≤ 256

-- the trees can be drawn so
abbrev pub CanMark : (List ℕ → Option ℕ) → ℕ → Forest → Type 0
CanMark holder position trees = (drawn : CutForest) × IsMarked None holder position trees drawn

-- ... as the members of one interval
abbrev pub CanHold : (List ℕ → Option ℕ) → ℕ → Forest → Type 0
CanHold holder position trees = (members : CutForest) × AreMembers holder position trees members
