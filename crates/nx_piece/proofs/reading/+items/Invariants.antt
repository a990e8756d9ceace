use Rattle.std.proofs.Common.{◌≡◌, ◌+◌, ◌*◌, ◌≤◌}
use Rattle.std.specs.Vec.{vec_len, vec_capacity}
use Rattle.nx_piece.specs.Reading.{IsLeft}
use Rattle.nx_piece.proofs.PushLemmas.{ItemsPushed}
use Rattle.nx_piece.proofs.reading.+items.Given as goal

abbrev pub decreases-read_items : goal.decreases-read_items
decreases-read_items l = 2 * l.left.room + 1

abbrev pub decreases-read_tree : goal.decreases-read_tree
decreases-read_tree l = 2 * l.left.room

abbrev pub invariant-read_items-loop : goal.invariant-read_items-loop
invariant-read_items-loop l = record {
  seen : ItemsPushed l.fn.flat.items l.flat.items l.fn.bytes l.fn.left l.rest l.left l.counter l.after_run l.are_roots;
  few : IsLeft l.left;
  less : l.left.room ≤ l.fn.left.room;
  room : vec_len l.flat + l.left.items ≤ vec_capacity l.flat;
  capacity : vec_capacity l.flat ≡ vec_capacity l.fn.flat;
}
