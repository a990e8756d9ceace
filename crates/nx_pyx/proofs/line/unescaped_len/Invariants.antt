use Rattle.std.proofs.Common.{◌≡◌, ◌+◌, length}
use Rattle.nx_pyx.specs.Event.{unescape}
use Rattle.nx_pyx.proofs.line.unescaped_len.Given as goal

abbrev pub invariant-loop-after : goal.invariant-loop-after
invariant-loop-after l = l.len + length (unescape l.rest) ≡ length (unescape l.content)

abbrev pub decreases-loop-after : goal.decreases-loop-after
decreases-loop-after l = length l.rest
