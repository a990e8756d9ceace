use Rattle.std.proofs.Common.{◌∙◌}
use Rattle.nx_memory.specs.Memory.{changes_of, present_of}
use Rattle.nx_memory.proofs.HistoryLemmas.{unchanged_left}
use Rattle.nx_memory.proofs.host.MemoryHost.new.Goals as goal

pub returns-clause-settled : goal.returns-clause-settled
returns-clause-settled c =
    let memory = c.in_ok-new.field-0 in
    let made = c.in_ok-new.ensures in
    record {
      here = made.areas;
      only = λ image left. unchanged_left (changes_of memory) (present_of memory) made.changes image left ∙ made.areas;
    }
