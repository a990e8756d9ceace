use Rattle.std.proofs.Common.{◌≡◌, length}
use Rattle.nx_hold.specs.Changes.{place_of}
use Rattle.nx_nav.proofs.BesideLemmas.{IsSeekingBelow}
use Rattle.nx_nav.proofs.walking.tell_below.Given as goal

abbrev pub invariant-loop-bytes : goal.invariant-loop-bytes
invariant-loop-bytes g l =
    record {
      seeking : IsSeekingBelow g.D.Disk l.initial.records l.records l.initial.disk l.disk (place_of l.initial.rid) l.path (place_of l.rid) l.roots l.member l.rest;
      teller : l.walk.teller ≡ l.initial.walk.teller;
      left : l.walk.left ≡ l.initial.walk.left;
      visited : l.walk.visited ≡ l.initial.walk.visited;
    }

abbrev pub decreases-loop-bytes : goal.decreases-loop-bytes
decreases-loop-bytes g l = length l.rest
