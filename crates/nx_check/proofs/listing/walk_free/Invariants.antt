use Rattle.std.specs.Prelude.{◌≡◌}
use Rattle.nx_host.specs.Disk.{Image}
use Rattle.nx_host.specs.Still.{IsStill}
use Rattle.nx_replay.specs.Log.{replay}
use Rattle.nx_check.specs.On.{IsOn}
use Rattle.nx_check.specs.Uses.{unseen_in}
use Rattle.nx_check.proofs.FreeLemmas.{IsFreeWalk}
use Rattle.nx_check.proofs.listing.walk_free.Given as goal

abbrev pub invariant-loop-page : goal.invariant-loop-page
invariant-loop-page g l = record {
  still : IsStill g.D.Disk l.initial.disk l.disk;
  same : l.walk ≡ record l.initial.walk { uses = l.walk.uses; page = l.walk.page; at = l.walk.at };
  on : (was : Image) → IsOn g.D.Disk l.initial.walk l.initial.disk was → IsOn g.D.Disk l.walk l.disk was;
  walked : (was : Image) → IsOn g.D.Disk l.initial.walk l.initial.disk was → IsFreeWalk (replay was) l.head l.walk.uses l.by l.page (g.D.Disk.reads l.initial.disk) (g.D.Disk.reads l.disk);
}

abbrev pub decreases-loop-page : goal.decreases-loop-page
decreases-loop-page g l = unseen_in l.walk.uses l.head.pages
