-- A root of a piece that a record may hold.
use Rattle.std.specs.Prelude.{◌≡◌, ◌+◌, ◌≤◌}
use Rattle.nx_piece.specs.PieceNode.{item_slots, MayBeFar}
use Rattle.nx_piece.specs.Gapped.{GappedTree, gapped_size, proxies_in}
use Rattle.nx_piece.specs.Valid.{AreApart, AreFar}

-- the tree takes at most as many slots as a record may hold, and no proxies stand in it
pub record IsHalf (tree : GappedTree) : Type 0 where
  pub small : item_slots tree.node + gapped_size tree.below ≤ 256
  pub apart : AreApart tree.below
  pub own_far : MayBeFar tree.node
  pub far : AreFar tree.below
  pub own : proxies_in tree.below ≡ 0
