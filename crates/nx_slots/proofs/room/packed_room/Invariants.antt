use Rattle.nx_slots.specs.Covers.{IsSeen}
use Rattle.nx_slots.proofs.room.packed_room.Given as goal

abbrev pub invariant-loop-i : goal.invariant-loop-i
invariant-loop-i l = IsSeen l.page l.room l.i
