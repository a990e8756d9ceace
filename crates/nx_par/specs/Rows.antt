-- Two rows into which trees that stand beside each other are cut.
use Rattle.std.specs.Prelude.{◌≡◌, ◌+◌, ◌<◌, ◌≤◌, List, drop, length}
use Rattle.std.specs.Option.{option_map}
use Rattle.nx_tree.specs.Forest.{OrderedTree, forest_of, nodes}
use Rattle.nx_par.specs.declared.cut.Share.{Share}
use Rattle.nx_par.specs.declared.cut.TwoRows.{TwoRows}

-- the trees in two rows, neither of them empty, each with at least one worker and with its own numbers
pub record AreTwo (share : Share) (trees : List OrderedTree) (two : TwoRows) : Type 0 where
  pub some : 1 ≤ two.at
  pub more : two.at < length trees
  pub back_nodes : two.back.nodes ≡ nodes (forest_of (drop two.at trees))
  pub all_nodes : two.front.nodes + two.back.nodes ≡ share.nodes
  pub front_workers : 1 ≤ two.front.workers
  pub back_workers : 1 ≤ two.back.workers
  pub front_first : two.front.first ≡ share.first
  pub back_first : two.back.first ≡ option_map (λ number. number + two.at) share.first
