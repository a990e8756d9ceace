use Rattle.std.proofs.Common.{◌-◌}
use Rattle.nx_host.specs.Input.{most_input}
use Rattle.nx_host.specs.Phase.{TakesAlone}
use Rattle.nx_filters.proofs.ConsumerLemmas.{Came}
use Rattle.nx_filters.proofs.consumer.feed.Given as goal

-- the consumer has read what was taken
abbrev pub invariant-loop-consumer : goal.invariant-loop-consumer
invariant-loop-consumer g l =
    let h = g.H.Disk in
    record {
      came : Came l.initial.input l.input (g.C.Consumer.has_read l.initial.consumer) (g.C.Consumer.has_read l.consumer) (h.beside l.initial.host).input (h.beside l.host).input;
      alone : TakesAlone h l.initial.host l.host;
    }

-- as many bytes as may still come
abbrev pub decreases-loop-consumer : goal.decreases-loop-consumer
decreases-loop-consumer g l = most_input - l.input.taken
