use Rattle.std.proofs.Common.{ap}
use Rattle.nx_pyx.specs.declared.error.ReadError.TheVariants.{Pyx}
use Rattle.nx_pyx.specs.Fault.{fault_at}
use Rattle.nx_pyx.proofs.BuilderLemmas.{next_line}
use Rattle.nx_pyx.proofs.builder.Builder.next_fault.Goals as goal

pub returns : goal.returns
returns c =
    λ ls taken. ap (λ n. Pyx (fault_at n c.args.fault)) (next_line c.args.self.now ls c.saturating_add.result taken c.saturating_add.ensures)
