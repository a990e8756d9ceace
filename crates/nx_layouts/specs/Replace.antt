-- One interval replaced by several.
use Rattle.std.specs.Prelude.{◌≡◌, ℕ, zero, suc, ◌+◌, ◌-◌, ◌<◌, nat_lt, if◌then◌else◌, ◌++◌, length, take, drop, Option, None, Some}
use Rattle.nx_tree.specs.declared.node.Node.{Node}
use Rattle.nx_cuts.specs.Cut.{Bare, Grown, Kept, width, AreFree}
use Rattle.nx_layouts.specs.Layout.{Layout, Stock, laid_forest, laid_weight, AreLaidParts, proxies_of, nodes_in, AreHeld}
use Rattle.nx_layouts.specs.Nodes.{NodesChange}

-- trees with others beside them
abbrev pub joined_layout : Layout → Layout → Layout
joined_layout Bare last = last
joined_layout (Grown node below beside) last = Grown node below (joined_layout beside last)
joined_layout (Kept place members beside) last = Kept place members (joined_layout beside last)

-- with the interval of the proxy at that index replaced by these trees
abbrev pub replaced_at : ℕ → Layout → Layout → Layout
replaced_at index new Bare = Bare
replaced_at index new (Grown node below beside) =
    if nat_lt index (length (proxies_of below)) then Grown node (replaced_at index new below) beside
    else Grown node below (replaced_at (index - length (proxies_of below)) new beside)
replaced_at zero new (Kept place members beside) = joined_layout new beside
replaced_at (suc index) new (Kept place members beside) = Kept place members (replaced_at index new beside)

-- the members of the interval of the proxy at that index
abbrev pub kept_at : ℕ → Layout → Option Layout
kept_at index Bare = None
kept_at index (Grown node below beside) =
    if nat_lt index (length (proxies_of below)) then kept_at index below else kept_at (index - length (proxies_of below)) beside
kept_at zero (Kept place members beside) = Some members
kept_at (suc index) (Kept place members beside) = kept_at index beside

-- the node above the interval of the proxy at that index, where `above` is the node above the whole row
abbrev pub above_at : ℕ → Option Node → Layout → Option Node
above_at index above Bare = None
above_at index above (Grown node below beside) =
    if nat_lt index (length (proxies_of below)) then above_at index (Some node.node) below else above_at (index - length (proxies_of below)) above beside
above_at zero above (Kept place members beside) = above
above_at (suc index) above (Kept place members beside) = above_at index above beside

-- What a record has after one of its proxies was replaced by several, where these hold the same trees. What is held but that interval, with what is held of the
-- others, is held so, and so is what is light. The nodes of the others stand in the place of its own. The row weighs as much more as the trees that come outside of
-- intervals, and where all of its own did it is as wide.
pub record Replaces (index : ℕ) (old new : Layout) : Type 0 where
  pub proxies_are : proxies_of (replaced_at index new old) ≡ take index (proxies_of old) ++ proxies_of new ++ drop (index + 1) (proxies_of old)
  pub beside : (stock : Stock) → AreHeld stock old → AreHeld stock (replaced_at index Bare old)
  pub held : (stock : Stock) → AreHeld stock (replaced_at index Bare old) → AreHeld stock new → AreHeld stock (replaced_at index new old)
  pub light : (k : ℕ) → AreLaidParts k old → AreLaidParts k new → AreLaidParts k (replaced_at index new old)
  pub free : AreFree old → AreFree (replaced_at index new old)
  pub wide : AreFree old → width (replaced_at index new old) ≡ width old
  pub heavy : laid_weight (replaced_at index new old) ≡ laid_weight old + laid_weight new
  pub same : (members : Layout) → kept_at index old ≡ Some members → laid_forest new ≡ laid_forest members → laid_forest (replaced_at index new old) ≡ laid_forest old
  pub changes : (members : Layout) → kept_at index old ≡ Some members → NodesChange (nodes_in old) (nodes_in (replaced_at index new old)) (nodes_in members) (nodes_in new)

abbrev pub OneForSeveral : Type 0
OneForSeveral = (index : ℕ) (old new : Layout) → index < length (proxies_of old) → Replaces index old new
