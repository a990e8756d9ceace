-- The lists that a record names: what a walk says of them.
use Rattle.std.specs.Prelude.{◌≡◌, ℕ, List, [], ◌++◌}
use Rattle.std.specs.Option.{option_to_list}
use Rattle.nx_host.specs.Disk.{Image}
use Rattle.nx_host.specs.declared.disk.Disk.{Ghosts}
use Rattle.nx_replay.specs.Log.{replay}
use Rattle.nx_holdings.specs.Holdings.{Link, pages_of_links}
use Rattle.nx_piece.specs.declared.piece.Far.{Far}
use Rattle.nx_piece.specs.declared.viewing.ItemView.{ItemView}
use Rattle.nx_piece.specs.declared.viewing.ItemView.TheVariants.{Tree, Run}
use Rattle.nx_piece.specs.Contents.{fars_in}
use Rattle.nx_piece.specs.Flat.{seen_node}
use Rattle.nx_piece.specs.Viewing.{seen_items}
use Rattle.nx_layouts.specs.Layout.{RecordPlace}
use Rattle.nx_rules.specs.declared.verdict.PageRule.{PageRule}
use Rattle.nx_rules.specs.declared.verdict.PageRule.TheVariants as rule
use Rattle.nx_rules.specs.Walked.{links_behind, StandOn}
use Rattle.nx_rules.specs.Broken.{BreaksNamed}
use Rattle.nx_check.specs.declared.reading.Walk.{Walk}
use Rattle.nx_check.specs.Come.{HasCome}

-- where the far contents of an item stand, in document order
abbrev pub fars_of_item : ItemView → List Far
fars_of_item (Tree tree) = option_to_list (seen_node tree.node).far ++ fars_in (seen_items tree.children)
fars_of_item (Run count) = []

-- the walk has come to these lists besides
abbrev pub WalksLists : {D : Type 0} → Ghosts D → Walk → D → Walk → D → List Far → Type 0
WalksLists d old before walk disk fars =
    (was : Image) (base : ℕ) (free used : List ℕ) (reached : List RecordPlace) → HasCome d old before was base free used reached
    → (chains : List (List Link)) × StandOn (replay was) fars chains × HasCome d walk disk was base free (used ++ pages_of_links (links_behind chains)) reached

-- one of them breaks, and a page is to blame
abbrev pub SaysLists : {D : Type 0} → Ghosts D → Walk → D → ℕ → List Far → PageRule → ℕ → Type 0
SaysLists d walk disk by fars broken blamed =
    (broken ≡ rule.Chain) × ((was : Image) (base : ℕ) (free used : List ℕ) (reached : List RecordPlace) → HasCome d walk disk was base free used reached → BreaksNamed (replay was) used by fars blamed)
