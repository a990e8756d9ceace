use Rattle.nx_find.proofs.OverLemmas.{stops_walking, gives_up}
use Rattle.nx_find.proofs.finding.find.Goals as goal

pub handed_on-requires : goal.handed_on-requires
handed_on-requires g c = stops_walking g.D.Disk _ c.args.records.now c.look.new.records c.args.disk.now c.look.new.disk c.in-Err.error c.in-Err.ensures.refused

pub returns-in-Err-clause-refused : goal.returns-in-Err-clause-refused
returns-in-Err-clause-refused g c = gives_up g.D.Disk _ c.args.records.now c.look.new.records c.args.disk.now c.look.new.disk c.in-Err.error c.handed_on.result c.handed_on.ensures c.in-Err.ensures.refused
