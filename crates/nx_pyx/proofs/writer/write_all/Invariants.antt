use Rattle.std.proofs.Common.{◌≡◌, ◌++◌, length}
use Rattle.nx_tree.specs.Forest.{forest_of}
use Rattle.nx_pyx.specs.Event.{events}
use Rattle.nx_pyx.specs.Text.{text_of}
use Rattle.nx_pyx.proofs.writer.write_all.Given as goal

abbrev pub invariant-loop-writer : goal.invariant-loop-writer
invariant-loop-writer l = l.bytes ++ l.writer ≡ text_of (events (forest_of l.trees))

abbrev pub decreases-loop-writer : goal.decreases-loop-writer
decreases-loop-writer l = length l.writer
