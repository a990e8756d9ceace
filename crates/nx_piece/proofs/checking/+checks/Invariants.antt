use Rattle.std.proofs.Common.{◌≡◌, ◌+◌, ◌*◌, ◌≤◌}
use Rattle.nx_piece.specs.Reading.{IsLeft}
use Rattle.nx_piece.proofs.CheckLemmas.{ItemsChecked}
use Rattle.nx_piece.proofs.checking.+checks.Given as goal

abbrev pub decreases-check_items : goal.decreases-check_items
decreases-check_items l = 2 * l.left.room + 1

abbrev pub decreases-check_tree : goal.decreases-check_tree
decreases-check_tree l = 2 * l.left.room

abbrev pub invariant-check_items-loop : goal.invariant-check_items-loop
invariant-check_items-loop l = record {
  seen : ItemsChecked l.fn.bytes l.fn.left l.rest l.left l.counter l.after_run l.are_roots l.weight;
  few : IsLeft l.left;
  less : l.left.room ≤ l.fn.left.room;
  little : l.weight + l.left.room ≤ l.fn.left.room;
}
