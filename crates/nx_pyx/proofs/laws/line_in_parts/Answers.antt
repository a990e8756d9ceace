use Rattle.nx_pyx.proofs.StartLemmas.{line_by_start, escaped-append}
use Rattle.nx_pyx.proofs.laws.line_in_parts.Goals as goal

pub returns : goal.returns
returns c = record { line = line_by_start; parts = escaped-append }
