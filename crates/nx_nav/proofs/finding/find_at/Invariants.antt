use Rattle.std.proofs.Common.{◌≡◌, true, length}
use Rattle.nx_hold.specs.Changes.{place_of}
use Rattle.nx_nav.proofs.BesideLemmas.{IsSeekingBelow}
use Rattle.nx_nav.proofs.RouteLemmas.{HasPassed}
use Rattle.nx_nav.proofs.finding.find_at.Given as goal

abbrev pub invariant-loop-bytes : goal.invariant-loop-bytes
invariant-loop-bytes g l =
    IsSeekingBelow g.D.Disk l.initial.records l.records l.initial.disk l.disk (place_of l.initial.rid) l.path (place_of l.rid) l.roots l.member l.rest
    × (l.keeps ≡ true → HasPassed g.D.Disk l.initial.records l.initial.disk (place_of l.initial.rid) l.path (place_of l.rid) l.member l.rest l.passed.items)

abbrev pub decreases-loop-bytes : goal.decreases-loop-bytes
decreases-loop-bytes g l = length l.rest
