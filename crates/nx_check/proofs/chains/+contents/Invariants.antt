use Rattle.std.specs.Prelude.{◌≡◌, ◌+◌, ◌*◌, ◌≤◌, ◌++◌, List}
use Rattle.nx_host.specs.Still.{IsStill}
use Rattle.nx_piece.specs.declared.piece.Far.{Far}
use Rattle.nx_piece.specs.Gapped.{End, item_count}
use Rattle.nx_piece.specs.Contents.{fars_in}
use Rattle.nx_piece.specs.Valid.{AreFar}
use Rattle.nx_piece.specs.Viewing.{seen_items, begun_with}
use Rattle.nx_check.specs.Lists.{WalksLists}
use Rattle.nx_check.proofs.chains.+contents.Given as goal

abbrev pub decreases-walk_contents : goal.decreases-walk_contents
decreases-walk_contents g l = 2 * item_count (seen_items l.items) + 1

abbrev pub decreases-walk_item : goal.decreases-walk_item
decreases-walk_item g l = 2 * item_count (begun_with l.item End)

abbrev pub invariant-walk_contents-loop-item : goal.invariant-walk_contents-loop-item
invariant-walk_contents-loop-item g l = record {
  still : IsStill g.D.Disk l.initial.disk l.disk;
  same : l.walk ≡ record l.initial.walk { uses = l.walk.uses; page = l.walk.page; at = l.walk.at };
  far : AreFar (seen_items l.left);
  few : item_count (seen_items l.left) ≤ item_count (seen_items l.items);
  walked : (before : List Far) × (before ++ fars_in (seen_items l.left) ≡ fars_in (seen_items l.items)) × WalksLists g.D.Disk l.initial.walk l.initial.disk l.walk l.disk before;
}

abbrev pub decreases-walk_contents-loop-item : goal.decreases-walk_contents-loop-item
decreases-walk_contents-loop-item g l = item_count (seen_items l.left)
