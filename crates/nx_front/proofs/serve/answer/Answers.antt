use Rattle.nx_front.proofs.LookupLemmas.{lookup_stays, lookup_unread, lookup_reads}
use Rattle.nx_front.proofs.serve.answer.Goals as goal

pub returns-then-writes-clause-ok : goal.returns-then-writes-clause-ok
returns-then-writes-clause-ok g c = rw c.in-Single.is c.answer_alone.ensures.ok

pub returns-then-writes-clause-err : goal.returns-then-writes-clause-err
returns-then-writes-clause-err g c = rw c.in-Single.is c.answer_alone.ensures.err

pub returns-else-writes-clause-ok : goal.returns-else-writes-clause-ok
returns-else-writes-clause-ok g c = rw c.in-Single.is c.answer_behind.ensures.ok

pub returns-else-writes-clause-err : goal.returns-else-writes-clause-err
returns-else-writes-clause-err g c = rw c.in-Single.is c.answer_behind.ensures.err

pub returns-else-writes-clause-reads : goal.returns-else-writes-clause-reads
returns-else-writes-clause-reads g c = rw c.in-Single.is c.answer_behind.ensures.reads

pub returns-in-Transaction-clause-ok : goal.returns-in-Transaction-clause-ok
returns-in-Transaction-clause-ok g c = rw c.in-Transaction.is c.answer_alone-in-Transaction.ensures.ok

pub returns-in-Transaction-clause-err : goal.returns-in-Transaction-clause-err
returns-in-Transaction-clause-err g c = rw c.in-Transaction.is c.answer_alone-in-Transaction.ensures.err

pub returns-in-Transaction-clause-holds : goal.returns-in-Transaction-clause-holds
returns-in-Transaction-clause-holds g c lookup = c.answer_alone-in-Transaction.ensures.holds (lookup_stays c.args.request c.in-Transaction.commands c.in-Transaction.is lookup)

pub returns-in-Transaction-clause-reads : goal.returns-in-Transaction-clause-reads
returns-in-Transaction-clause-reads g c lookup =
    lookup_reads g.H.Disk c.args.request c.in-Transaction.commands c.args.store.now c.args.host.now c.answer_alone-in-Transaction.new.host c.in-Transaction.is lookup
    (c.answer_alone-in-Transaction.ensures.unread (lookup_unread c.args.request c.in-Transaction.commands c.in-Transaction.is lookup))
