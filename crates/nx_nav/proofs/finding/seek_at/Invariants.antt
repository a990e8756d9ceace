use Rattle.std.proofs.Common.{ℕ, length}
use Rattle.nx_hold.specs.Changes.{place_of}
use Rattle.nx_nav.proofs.SeekLemmas.{IsSeeking}
use Rattle.nx_nav.proofs.finding.seek_at.Given as goal

abbrev pub invariant-loop-written : goal.invariant-loop-written
invariant-loop-written g l = (roots : ℕ) × IsSeeking g.D.Disk l.initial.records l.records l.initial.disk l.disk (place_of l.initial.rid) l.path (place_of l.rid) roots l.member l.rest

abbrev pub decreases-loop-written : goal.decreases-loop-written
decreases-loop-written g l = length l.rest
