use Rattle.std.proofs.Common.{◌+◌, ◌++◌, length}
use Rattle.nx_host.specs.Phase.{GivesAlone}
use Rattle.nx_filters.specs.Outcome.{GivesBut}
use Rattle.nx_filters.proofs.give.give_written.Given as goal

-- the first bytes were given, and the others are in the block or still to be written
abbrev pub invariant-loop-host : goal.invariant-loop-host
invariant-loop-host g l =
    let h = g.H.Disk in
    let all = l.initial.block ++ g.W.Writes.left l.initial.writer in
    record {
      gave : GivesBut all (l.block ++ g.W.Writes.left l.writer) (h.beside l.initial.host) (h.beside l.host);
      alone : GivesAlone h all l.initial.host l.host;
    }

abbrev pub decreases-loop-host : goal.decreases-loop-host
decreases-loop-host g l = length l.block + length (g.W.Writes.left l.writer)
