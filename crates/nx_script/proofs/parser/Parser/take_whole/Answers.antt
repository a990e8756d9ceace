use Rattle.nx_script.proofs.WholeLemmas.{takes_all, takes_to_end, holds_more}
use Rattle.nx_script.proofs.parser.Parser.take_whole.Goals as goal

pub returns-in_ok-end_whole-in-Some-clause-given : goal.returns-in_ok-end_whole-in-Some-clause-given
returns-in_ok-end_whole-in-Some-clause-given c = takes_to_end c.in-Some.end c.in_ok-end_whole-in-Some.field-0 c.in-Some.ensures c.in_ok-end_whole-in-Some.ensures

pub returns-in_ok-hold-in-None-clause-given : goal.returns-in_ok-hold-in-None-clause-given
returns-in_ok-hold-in-None-clause-given c = takes_all c.args.self.now c.hold.new.self c.args.bytes.now (holds_more c.args.self.now c.hold.new.self c.args.bytes.now c.in-None.ensures c.in_ok-hold-in-None.ensures.held)
