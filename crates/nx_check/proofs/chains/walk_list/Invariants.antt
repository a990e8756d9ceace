use Rattle.std.specs.Prelude.{◌≡◌, ◌≤◌, ◌+◌, ◌++◌, ℕ, List, length}
use Rattle.nx_host.specs.Disk.{Image}
use Rattle.nx_host.specs.Still.{IsStill}
use Rattle.nx_replay.specs.Log.{replay}
use Rattle.nx_holdings.specs.Holdings.{Link, content_of, pages_of_links}
use Rattle.nx_layouts.specs.Layout.{RecordPlace}
use Rattle.nx_check.specs.Come.{HasCome}
use Rattle.nx_check.proofs.ChainLemmas.{IsListWalk}
use Rattle.nx_check.proofs.chains.walk_list.Given as goal

abbrev pub invariant-loop-left : goal.invariant-loop-left
invariant-loop-left g l = record {
  still : IsStill g.D.Disk l.initial.disk l.disk;
  same : l.walk ≡ record l.initial.walk { uses = l.walk.uses; page = l.walk.page; at = l.walk.at };
  some : 1 ≤ l.left;
  long : length l.into + l.left ≡ length l.initial.into + l.initial.size;
  walked : (was : Image) (base : ℕ) (free used : List ℕ) (reached : List RecordPlace) → HasCome g.D.Disk l.initial.walk l.initial.disk was base free used reached
      → (links : List Link) × IsListWalk (replay was) used l.initial.by l.initial.first l.initial.size links l.by l.page l.left × (l.into ≡ l.initial.into ++ content_of links)
      × HasCome g.D.Disk l.walk l.disk was base free (used ++ pages_of_links links) reached;
}

abbrev pub decreases-loop-left : goal.decreases-loop-left
decreases-loop-left g l = l.left
