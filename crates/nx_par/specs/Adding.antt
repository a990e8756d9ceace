-- What the threads have found, and how a list grows by it.
use Rattle.std.specs.Prelude.{◌≡◌, ℕ, ◌+◌, ◌<◌, ◌≤◌, List, ◌++◌, length, take, drop, All, slice_set, Option, IfSome}
use Rattle.nx_tree.specs.Forest.{OrderedTree, forest_of, nodes}
use Rattle.nx_weights.specs.Weight.{IsWithinLimits}
use Rattle.nx_parts.specs.declared.bounds.Bound.{Bound}
use Rattle.nx_parts.specs.Minima.{IsMinima, AreMinimaIn}
use Rattle.nx_par.specs.declared.cut.Share.{Share}
use Rattle.nx_par.specs.declared.cut.TwoRows.{TwoRows}

-- there is one bound for each node of the trees, tree after tree and each in document order, and each is the minima of its subtree
pub record AreAll (k : ℕ) (trees : List OrderedTree) (bounds : List Bound) : Type 0 where
  pub one_each : length bounds ≡ nodes (forest_of trees)
  pub each : AreMinimaIn k (forest_of trees) bounds

-- the list has grown by the minima of the nodes of all trees
pub record ExtendsByAll (k : ℕ) (trees : List OrderedTree) (old new : List Bound) : Type 0 where
  pub bounds : List Bound
  pub added : new ≡ old ++ bounds
  pub minima : AreAll k trees bounds

-- the minima of the tree have been put into its place in the list
pub record Settles (k : ℕ) (tree : OrderedTree) (place : ℕ) (old new : List Bound) : Type 0 where
  pub bound : Bound
  pub is : new ≡ slice_set old place bound
  pub minima : IsMinima k tree bound

-- the trees may be bounded one after the other: where they have numbers these are small
pub record CanBoundRow (k : ℕ) (first : Option ℕ) (trees : List OrderedTree) : Type 0 where
  pub some : 1 ≤ k
  pub bound : k ≤ 256
  pub numbers : IfSome first (λ number. number + length trees ≤ 524288)
  pub limits : All IsWithinLimits trees

-- they may be bounded in rows: they have so many nodes, and there is at least one worker
pub record CanBound (k : ℕ) (share : Share) (trees : List OrderedTree) : Type 0 where
  pub row : CanBoundRow k share.first trees
  pub enough : 1 ≤ share.workers
  pub counted : share.nodes ≡ nodes (forest_of trees)
  pub few : share.nodes ≤ 524288

-- the two rows aren't empty, and each of them may be bounded
pub record AreTwoToBound (k : ℕ) (trees : List OrderedTree) (two : TwoRows) : Type 0 where
  pub some : 1 ≤ two.at
  pub more : two.at < length trees
  pub front : CanBound k two.front (take two.at trees)
  pub back : CanBound k two.back (drop two.at trees)
