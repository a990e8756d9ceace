use Rattle.std.proofs.Common.{◌≡◌, ◌++◌, length}
use Rattle.nx_pyx.specs.Event.{unescape}
use Rattle.nx_pyx.proofs.line.unescaped.Given as goal

abbrev pub invariant-loop-bytes : goal.invariant-loop-bytes
invariant-loop-bytes l = l.bytes ++ unescape l.rest ≡ unescape l.content

abbrev pub decreases-loop-bytes : goal.decreases-loop-bytes
decreases-loop-bytes l = length l.rest
