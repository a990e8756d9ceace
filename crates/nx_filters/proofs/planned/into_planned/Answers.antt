use Rattle.std.proofs.Common.{◌++◌, subst}
use Rattle.nx_script.specs.BeforeDot.{before_dot}
use Rattle.nx_script.specs.Body.{Says}
use Rattle.nx_filters.specs.declared.take_error.TakeError.TheVariants.{Refused}
use Rattle.nx_filters.specs.declared.refusal.Refusal.TheVariants.{Pyx}
use Rattle.nx_filters.proofs.PlannedLemmas.{document_whole, document_dotted, faulty_dotted}
use Rattle.nx_filters.proofs.planned.into_planned.Goals as goal

pub returns-in-Read-clause-whole : goal.returns-in-Read-clause-whole
returns-in-Read-clause-whole c = λ s lines.
    document_whole c.args.lines.body c.args.lines.behind s c.in-Read.tree lines (subst (Says (before_dot s)) c.in-Read.is (c.in_ok-tree.ensures.within s lines.within))

pub returns-in-Read-clause-dotted : goal.returns-in-Read-clause-dotted
returns-in-Read-clause-dotted c = λ s dot.
    document_dotted c.args.lines.body c.args.lines.behind s c.in-Read.tree dot
    (λ t ended more. subst (Says (before_dot (t ++ more))) c.in-Read.is (c.in_ok-tree.ensures.ended t ended more))

pub returns-in-Wrong-clause-refused : goal.returns-in-Wrong-clause-refused
returns-in-Wrong-clause-refused c = λ s dot.
    faulty_dotted c.args.lines.body c.args.lines.behind s (Refused (Pyx c.in-Wrong.error)) dot
    (λ t ended more. subst (Says (before_dot (t ++ more))) c.in-Wrong.is (c.in_ok-tree.ensures.ended t ended more))
