use Rattle.std.proofs.Common.{◌≡◌, ◌++◌, List}
use Rattle.nx_tree.specs.declared.node.Kind.TheVariants.{Element}
use Rattle.nx_piece.specs.Gapped.{item_count}
use Rattle.nx_piece.specs.Viewing.{seen_items}
use Rattle.nx_check.specs.Heads.{Head, item_heads, MayBeRow}
use Rattle.nx_check.specs.Siblings.{AreAroundGap}
use Rattle.nx_check.proofs.SiblingLemmas.{HaveJoined}
use Rattle.nx_check.proofs.siblings.Siblings.join_element.Given as goal

abbrev pub invariant-loop-item : goal.invariant-loop-item
invariant-loop-item l = record {
  same : l.self.kind ≡ l.initial.self.kind;
  joined : (before behind : List Head) → AreAroundGap l.initial.self before behind → MayBeRow Element (before ++ behind)
      → (done : List Head) × (item_heads (seen_items l.roots) ≡ done ++ item_heads (seen_items l.left)) × HaveJoined l.self (before ++ done) behind;
}

abbrev pub decreases-loop-item : goal.decreases-loop-item
decreases-loop-item l = item_count (seen_items l.left)
