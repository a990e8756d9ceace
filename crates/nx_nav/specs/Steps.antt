-- A document as a walk over its records tells it.
use Rattle.std.specs.Prelude.{ℕ, zero, suc, nat_le, if◌then◌else◌, Bool, List, [], ◌∷◌, ◌++◌, length, map, take, drop}
use Rattle.nx_tree.specs.declared.node.Kind.{Kind}
use Rattle.nx_tree.specs.declared.node.Node.{Node}
use Rattle.nx_numbers.specs.Sizes.{page_room}
use Rattle.nx_records.specs.Words.{chain_count}
use Rattle.nx_weights.specs.Weight.{longest_near}
use Rattle.nx_cuts.specs.Cut.{Cut, Bare, Grown, Kept, CutTree, width, part_weight}
use Rattle.nx_layouts.specs.Layout.{Layout, without_places}

-- One thing that is told: an interval with so many members and this weight of its part begins; a node begins, with its whole content; a node with a longer content
-- begins, a block of that comes, and it has come; a node ends.
pub data WalkStep : Type 0 where
  Begin : (roots weight : ℕ) → WalkStep
  Open : (node : Node) → WalkStep
  Head : (kind : Kind) (name : List ℕ) → WalkStep
  Block : (bytes : List ℕ) → WalkStep
  Tail : WalkStep
  Close : (kind : Kind) (name : List ℕ) → WalkStep

-- the first bytes in so many blocks, each as long as a chain page is, but the last one
abbrev pub blocks_within : (count : ℕ) → List ℕ → List (List ℕ)
blocks_within zero bytes = []
blocks_within (suc count) bytes = take page_room bytes ∷ blocks_within count (drop page_room bytes)

-- a content in such blocks
abbrev pub content_blocks : List ℕ → List (List ℕ)
content_blocks bytes = blocks_within (chain_count (length bytes)) bytes

-- what is told of a content that comes in blocks, where contents are asked for
abbrev pub content_steps : (asked : Bool) → List ℕ → List WalkStep
content_steps asked bytes = if asked then map Block (content_blocks bytes) else []

-- how a node begins; one with a long content does so block by block, wherever that stands
abbrev pub begun_steps : (asked : Bool) → Node → List WalkStep
begun_steps asked node =
    if nat_le (length node.content) longest_near then Open node ∷ []
    else Head node.kind node.name ∷ (content_steps asked node.content ++ Tail ∷ [])

-- what is told of trees beside each other, in document order
abbrev pub walk_steps : {P : Type 0} → (asked : Bool) → Cut Node P → List WalkStep
walk_steps asked Bare = []
walk_steps asked (Grown node below beside) = begun_steps asked node ++ (walk_steps asked below ++ Close node.kind node.name ∷ walk_steps asked beside)
walk_steps asked (Kept mark members beside) = Begin (width members) (part_weight members) ∷ (walk_steps asked members ++ walk_steps asked beside)

-- ... as they are stored: neither where records and lists stand nor which contents are far is told
abbrev pub laid_steps : (asked : Bool) → Layout → List WalkStep
laid_steps asked layout = walk_steps asked (without_places layout)

-- what is told of a document, whose root is the one member of its own interval
abbrev pub steps_of : (asked : Bool) → CutTree → List WalkStep
steps_of asked t = walk_steps asked (Kept tt (Grown t.node t.below Bare) Bare)
