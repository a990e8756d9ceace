use Rattle.nx_hold.specs.Changes.{place_of}
use Rattle.nx_nav.proofs.PartLemmas.{read_stops, read_refused}
use Rattle.nx_nav.proofs.reading.written_at.Goals as goal

pub passed_on-requires : goal.passed_on-requires
passed_on-requires g c = read_stops g.D.Disk (place_of c.args.rid) 0 c.args.rid.page c.args.records.now c.read_written.new.records c.args.disk.now c.read_written.new.disk c.in-Err.error c.in-Err.ensures.refused

pub returns-in-Err-clause-refused : goal.returns-in-Err-clause-refused
returns-in-Err-clause-refused g c = λ roots.
    read_refused g.D.Disk (place_of c.args.rid) roots c.args.rid.page c.args.records.now c.read_written.new.records c.args.disk.now c.read_written.new.disk c.in-Err.error c.passed_on.result c.passed_on.ensures c.in-Err.ensures.refused
