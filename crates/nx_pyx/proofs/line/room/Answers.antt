use Rattle.std.proofs.Common.{sym, ap, ◌∙◌, subst}
use Rattle.nx_pyx.specs.Reader.{MayGrowBy}
use Rattle.nx_pyx.specs.Event.{event_of}
use Rattle.nx_pyx.specs.Line.{event_in}
use Rattle.nx_pyx.proofs.HasRoomLemmas.{room_few, room_left, too_long}
use Rattle.nx_pyx.proofs.line.room.Goals as goal

pub returns-then-bytes-le-LONGEST_NODE-clause-ok : goal.returns-then-bytes-le-LONGEST_NODE-clause-ok
returns-then-bytes-le-LONGEST_NODE-clause-ok c =
    room_few c.args.bytes.now (event_in c.in-Some.line) (ap event_of (sym c.without_cr.ensures) ∙ c.in-Some.ensures) c.if-bytes-le-LONGEST_NODE.true

pub returns-in-Some-left-clause-ok : goal.returns-in-Some-left-clause-ok
returns-in-Some-left-clause-ok c =
    subst (MayGrowBy c.args.bytes.now) (sym c.saturating_sub.ensures)
    (room_left c.args.bytes.now (event_in c.in-Some.line) c.in-Some-left.left (ap event_of (sym c.without_cr.ensures) ∙ c.in-Some.ensures) c.in-Some-left.ensures)

pub returns-in-None-clause-fault : goal.returns-in-None-clause-fault
returns-in-None-clause-fault c =
    too_long c.args.bytes.now (event_in c.in-Some.line) (ap event_of (sym c.without_cr.ensures) ∙ c.in-Some.ensures) c.in-None.ensures
