use Rattle.nx_hold.specs.Changes.{place_of}
use Rattle.nx_edit.proofs.PlaceLemmas.{IsLooking}
use Rattle.nx_edit.proofs.placing.is_repeated.Given as goal

abbrev pub invariant-loop-position : goal.invariant-loop-position
invariant-loop-position g l = IsLooking g.D.Disk (place_of l.root) l.node.name l.parent l.children l.position l.initial.records l.records l.initial.disk l.disk
