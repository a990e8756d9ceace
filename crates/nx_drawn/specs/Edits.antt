-- Edits of a document with its intervals drawn in.
use Rattle.std.specs.Prelude.{ℕ, zero, suc, ◌-◌, nat_lt, if◌then◌else◌, List, [], ◌∷◌}
use Rattle.nx_tree.specs.declared.node.Node.{Node}
use Rattle.nx_matrix.specs.declared.rule.Entry.{Entry}
use Rattle.nx_matrix.specs.declared.rule.Entry.TheVariants.{Standalone, Cluster, Free}
use Rattle.nx_matrix.specs.declared.rule.Rule.{Rule}
use Rattle.nx_cuts.specs.Cut.{Cut, Bare, Grown, Kept, CutTree, width}
use Rattle.nx_cuts.specs.Rows.{joined_row, first, behind, changed_row}
use Rattle.nx_split.specs.Piece.{asked}

-- a new node outside of intervals: a standalone one is an interval alone, with this mark, any other joins its parent's part
abbrev pub placed_beside : {N P : Type 0} → (alone : P) → Entry → N → Cut N P → Cut N P
placed_beside alone Standalone node beside = Kept alone (Grown node Bare Bare) beside
placed_beside alone Cluster node beside = Grown node Bare beside
placed_beside alone Free node beside = Grown node Bare beside

-- A new node between the members of an interval, at a position among them: a free one joins the interval, any other divides it, and the members behind it are an interval with the second mark.
abbrev pub placed_among : {N P : Type 0} → (alone second mark : P) → Entry → N → ℕ → (members beside : Cut N P) → Cut N P
placed_among alone second mark Free node position members beside = Kept mark (joined_row (first position members) (Grown node Bare (behind position members))) beside
placed_among alone second mark Standalone node position members beside = Kept mark (first position members) (placed_beside alone Standalone node (Kept second (behind position members) beside))
placed_among alone second mark Cluster node position members beside = Kept mark (first position members) (placed_beside alone Cluster node (Kept second (behind position members) beside))

-- a new node at a position of a row: between the members of an interval where some of them stand before it and some behind
abbrev pub planted_row : {N P : Type 0} → (alone second : P) → Entry → N → ℕ → Cut N P → Cut N P
planted_row alone second entry node zero c = placed_beside alone entry node c
planted_row alone second entry node (suc position) Bare = Bare
planted_row alone second entry node (suc position) (Grown other below beside) = Grown other below (planted_row alone second entry node position beside)
planted_row alone second entry node (suc position) (Kept mark members beside) =
    if nat_lt (suc position) (width members) then placed_among alone second mark entry node (suc position) members beside
    else Kept mark members (planted_row alone second entry node (suc position - width members) beside)

-- an interval of these members, where there are any
abbrev pub kept : {N P : Type 0} → P → (members beside : Cut N P) → Cut N P
kept mark Bare beside = beside
kept mark (Grown node below rest) beside = Kept mark (Grown node below rest) beside
kept mark (Kept other members rest) beside = Kept mark (Kept other members rest) beside

-- a row without the tree at a position; an interval without members goes, and intervals that become neighbours stay two
abbrev pub removed_row : {N P : Type 0} → ℕ → Cut N P → Cut N P
removed_row position Bare = Bare
removed_row zero (Grown node below beside) = beside
removed_row (suc position) (Grown node below beside) = Grown node below (removed_row position beside)
removed_row position (Kept mark members beside) =
    if nat_lt position (width members) then kept mark (removed_row position members) beside
    else Kept mark members (removed_row (position - width members) beside)

-- The document with a node more at the path, where the rules say how it stands below its parent. No part is divided yet.
abbrev pub inserted : List Rule → Node → List ℕ → CutTree → CutTree
inserted rules node [] document = document
inserted rules node (position ∷ []) document = record document { below = planted_row tt tt (asked rules document.node node) node position document.below }
inserted rules node (position ∷ next ∷ path) document = record document { below = changed_row position (inserted rules node (next ∷ path)) document.below }

-- the document without the tree at the path
abbrev pub deleted : List ℕ → CutTree → CutTree
deleted [] document = document
deleted (position ∷ []) document = record document { below = removed_row position document.below }
deleted (position ∷ next ∷ path) document = record document { below = changed_row position (deleted (next ∷ path)) document.below }

-- The document with another content of the node at the path. No part is divided yet.
abbrev pub retexted : List ℕ → List ℕ → CutTree → CutTree
retexted content [] document = record document { node = record document.node { content = content } }
retexted content (position ∷ path) document = record document { below = changed_row position (retexted content path) document.below }
