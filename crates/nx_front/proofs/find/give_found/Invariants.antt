use Rattle.std.proofs.Common.{◌++◌, drop}
use Rattle.nx_host.specs.Phase.{GivesAlone}
use Rattle.nx_filters.specs.Outcome.{GivesBut}
use Rattle.nx_front.specs.Finding.{found_text}
use Rattle.nx_front.proofs.find.give_found.Given as goal

-- the first bytes were given, and the others are in the block or still to be written
abbrev pub invariant-loop-index : goal.invariant-loop-index
invariant-loop-index g l =
    let h = g.H.Disk in
    let all = found_text l.paths in
    record {
      gave : GivesBut all (l.block ++ found_text (drop l.index l.paths)) (h.beside l.initial.host) (h.beside l.host);
      alone : GivesAlone h all l.initial.host l.host;
    }
