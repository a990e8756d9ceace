use Rattle.nx_memory.proofs.MemoryLemmas.{history_none}
use Rattle.nx_memory.proofs.memory.Memory.new.Goals as goal

pub invariant_of-result : goal.invariant_of-result
invariant_of-result c =
    let pages = c.in_ok-new.field-0 in
    let log = c.in_ok-new-2.field-0 in
    let history = c.in_ok-new-4.field-0 in
    record { sound = history_none history.changes.items _ c.in_ok-new-4.ensures.changes (record { pages = pages.are_bytes; log = log.are_bytes }) }
