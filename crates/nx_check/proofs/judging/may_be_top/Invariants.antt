use Rattle.std.proofs.Common.{◌≡◌, ◌↔◌, ◌+◌}
use Rattle.nx_piece.specs.Gapped.{item_count}
use Rattle.nx_piece.specs.Viewing.{seen_items}
use Rattle.nx_check.specs.Heads.{item_heads, AreTopHeads, one_if, elements_among}
use Rattle.nx_check.proofs.judging.may_be_top.Given as goal

abbrev pub invariant-loop-item : goal.invariant-loop-item
invariant-loop-item l = record {
  top : AreTopHeads (item_heads (seen_items l.left)) ↔ AreTopHeads (item_heads (seen_items l.items));
  counted : one_if l.element + elements_among (item_heads (seen_items l.left)) ≡ one_if l.initial.element + elements_among (item_heads (seen_items l.items));
}

abbrev pub decreases-loop-item : goal.decreases-loop-item
decreases-loop-item l = item_count (seen_items l.left)
