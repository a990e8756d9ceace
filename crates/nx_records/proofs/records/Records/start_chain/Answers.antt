use Rattle.nx_records.proofs.ChainLemmas.{no_list_past}
use Rattle.nx_records.proofs.records.Records.start_chain.Goals as goal

pub returns-else-may_have-clause-none : goal.returns-else-may_have-clause-none
returns-else-may_have-clause-none c pages bytes from long =
    no_list_past c.args.self.now.head c.args.self.now.head_range c.args.first c.args.len (c.may_have.ensures.no c.if-may_have.false) bytes from long
