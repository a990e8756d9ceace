use Rattle.std.proofs.Common.{rules, leb, sym, ◌∙◌}
use Rattle.std.proofs.lemmas.List.Sorted.{IsPartitionPoint-from_clause, IsPartitionedBy-leb}
use Rattle.nx_names.proofs.SerialLemmas.{parts_at}
use Rattle.nx_names.proofs.serials.first_new.Goals as goal

pub returns-clause-parts : goal.returns-clause-parts
returns-clause-parts c =
    parts_at c.args.serials.now c.args.around.now c.in-Some.last c.partition_point.result (sym c.last.ensures.value ∙ sym c.copied.ensures ∙ c.in-Some.is)
    (λ rises. IsPartitionPoint-from_clause (λ y. leb y c.in-Some.last) c.args.around.now c.partition_point.result c.partition_point.ensures.partitioned (IsPartitionedBy-leb (λ x. x) c.args.around.now c.in-Some.last rises) (λ a r q k. search rules))
