use Rattle.std.proofs.Common.{refl}
use Rattle.nx_pyx.specs.Event.{End}
use Rattle.nx_pyx.specs.declared.error.PyxFault.TheVariants.{BadNesting}
use Rattle.nx_pyx.proofs.MakeLemmas.{refuses, end_refused, ends}
use Rattle.nx_pyx.proofs.builder.Builder.end.Goals as goal

pub returns-then-ne-clause-err : goal.returns-then-ne-clause-err
returns-then-ne-clause-err c =
    let short = c.requires in
    refuses c.args.self.now (End c.args.name.now) c.fault-then-ne.result BadNesting c.fault-then-ne.ensures
    (λ a known. end_refused c.args.self.now c.pop.new.self.items c.in-Some.level c.args.name.now c.as_slice.result.now a short c.in-Some.ensures.items c.if-ne.ensures c.as_slice.ensures)

pub returns-clause-ok : goal.returns-clause-ok
returns-clause-ok c =
    ends c.args.self.now _ c.in-Some.level c.args.name.now c.as_slice.result.now c.new-content.result c.replace-below.new.dest c.replace-below.result c.requires
    c.if-ne.ensures c.as_slice.ensures c.in-Some.ensures.items c.in_ok-push.ensures.ok c.replace-below.ensures.after c.replace-below.ensures.value
    c.new-content.ensures refl refl refl refl
