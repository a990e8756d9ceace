-- How much heavier a part becomes where a node comes, or gets another content: one part at most becomes too heavy, and it may be divided.
use Rattle.std.specs.Prelude.{◌≡◌, ◌⊎◌, ℕ, ◌+◌, ◌≤◌, List, Some}
use Rattle.nx_tree.specs.declared.node.Node.{Node}
use Rattle.nx_tree.specs.Forest.{OrderedTree}
use Rattle.nx_tree.specs.Edit.{at}
use Rattle.nx_weights.specs.Weight.{weight}
use Rattle.nx_cuts.specs.Cut.{Cut, Bare, Grown, Kept, CutForest, CutTree, width, part_weight, AreFree, AreParts, tree_of}
use Rattle.nx_matrix.specs.declared.rule.Entry.{Entry}
use Rattle.nx_matrix.specs.declared.rule.Rule.{Rule}
use Rattle.nx_drawn.specs.Edits.{planted_row, inserted, retexted}
use Rattle.nx_drawn.specs.Splits.{whole_document}

-- none of the nodes weighs more than k that are in the part of the node above
abbrev pub PartIsAtMost : {P : Type 0} → ℕ → Cut Node P → Type 0
PartIsAtMost k Bare = Unit {0}
PartIsAtMost k (Grown node below beside) = (weight node ≤ k) × PartIsAtMost k below × PartIsAtMost k beside
PartIsAtMost k (Kept mark members beside) = PartIsAtMost k beside

-- The members of an interval, so many at most, whose part may weigh more than k, up to a limit: it can be divided, since none of its nodes weighs more than k, and no part below it does.
pub record MayBeHeavy {P : Type 0} (k limit wide : ℕ) (members : Cut Node P) : Type 0 where
  pub some : 1 ≤ width members
  pub few : width members ≤ wide
  pub free : AreFree members
  pub light : part_weight members ≤ limit
  pub nodes : PartIsAtMost k members
  pub parts : AreParts k members

-- no part weighs more than k, but that of one interval at most
abbrev pub IsHeavyOnce : {P : Type 0} → (k limit wide : ℕ) → Cut Node P → Type 0
IsHeavyOnce k limit wide Bare = Unit {0}
IsHeavyOnce k limit wide (Grown node below beside) = (IsHeavyOnce k limit wide below × AreParts k beside) ⊎ (AreParts k below × IsHeavyOnce k limit wide beside)
IsHeavyOnce k limit wide (Kept mark members beside) =
    (MayBeHeavy k limit wide members × AreParts k beside)
    ⊎ ((1 ≤ width members) × AreFree members × (part_weight members ≤ k) × ((IsHeavyOnce k limit wide members × AreParts k beside) ⊎ (AreParts k members × IsHeavyOnce k limit wide beside)))

-- Trees of a part changed. Either no part below it weighs more than k, and what of them is in the part weighs so much more at most, or one part below it may weigh more, and this one weighs no more than it did.
abbrev pub GrowsRow : {P : Type 0} → (k more wide : ℕ) → (old new : Cut Node P) → Type 0
GrowsRow k more wide old new =
    (AreParts k new × PartIsAtMost k new × (part_weight new ≤ part_weight old + more)) ⊎ (IsHeavyOnce k (k + more) wide new × (part_weight new ≤ part_weight old))

-- Where a node that doesn't outweigh k comes into a row, one part at most weighs more than k, by the node's weight at most, and has one member more at most.
abbrev pub PlantGrowsLittle : Type 0
PlantGrowsLittle =
    (k : ℕ) (entry : Entry) (node : Node) (position : ℕ) (row : CutForest) → weight node ≤ k → AreParts k row → PartIsAtMost k row → GrowsRow k (weight node) (k + 1) row (planted_row tt tt entry node position row)

-- So it is in the whole document.
abbrev pub InsertGrowsLittle : Type 0
InsertGrowsLittle = (k : ℕ) (rules : List Rule) (node : Node) (path : List ℕ) (document : CutTree) → weight node ≤ k → AreParts k (whole_document document) → IsHeavyOnce k (k + weight node) (k + 1) (whole_document (inserted rules node path document))

-- So it is where a node gets another content and doesn't outweigh k then.
abbrev pub RetextGrowsLittle : Type 0
RetextGrowsLittle =
    (k more : ℕ) (content path : List ℕ) (document : CutTree) → more ≤ k → ((there : OrderedTree) → at (tree_of document) path ≡ Some there → weight (record there.node { content = content }) ≤ more) → AreParts k (whole_document document)
    → IsHeavyOnce k (k + more) (k + 1) (whole_document (retexted content path document))
