use Rattle.std.proofs.Common.{length}
use Rattle.nx_wal.proofs.waiting.Waiting.clear.Given as goal

abbrev pub decreases-loop-kept : goal.decreases-loop-kept
decreases-loop-kept l = length l.self.pages.entries
