use Rattle.std.proofs.Common.{ap}
use Rattle.nx_memory.specs.Laws.{history_is_prop}
use Rattle.nx_memory.specs.History.{IsHistory}
use Rattle.nx_memory.specs.Memory.{changes_of, present_of}
use Rattle.nx_memory.proofs.host.MemoryHostHost.read_in.Goals as goal

pub returns-clause-others : goal.returns-clause-others
returns-clause-others c =
    let m = c.args.self.now.memory in
    ap (λ (s : IsHistory (changes_of m) (present_of m)). record m { sound = s; source = c.give.new.self }) (history_is_prop (changes_of m) (present_of m) _ m.sound)
