use Rattle.std.proofs.Common.{sym, ◌∙◌}
use Rattle.nx_records.proofs.LeaveLemmas.{had_ended}
use Rattle.nx_hold.specs.Changes.{place_of}
use Rattle.nx_nav.specs.Walk.{IsIntervalAt}
use Rattle.nx_find.specs.Wanted.{is_wanted}
use Rattle.nx_find.specs.Walked.{looks_entering}
use Rattle.nx_find.proofs.WalkLemmas.{stops_at_once}
use Rattle.nx_find.proofs.walking.show_document.Goals as goal

pub returns-then-is_ended-clause-stops : goal.returns-then-is_ended-clause-stops
returns-then-is_ended-clause-stops g c = stops_at_once g.D.Disk (is_wanted c.args.wanted.now) (IsIntervalAt g.D.Disk c.args.records.now c.args.disk.now (place_of c.args.root) 1) (looks_entering (is_wanted c.args.wanted.now)) c.args.records.now c.args.disk.now

pub returns-then-is_ended-clause-refused : goal.returns-then-is_ended-clause-refused
returns-then-is_ended-clause-refused g c = had_ended (sym c.is_ended.ensures ∙ c.if-is_ended.true)
