use Rattle.std.proofs.Common.{refl}
use Rattle.nx_host.specs.declared.disk.Area.TheVariants.{Pages, Log}
use Rattle.nx_memory.specs.Memory.{areas_of}
use Rattle.nx_memory.proofs.MemoryLemmas.{by_cases, wrote_change, wrote_undone, wrote_history, kept_history}
use Rattle.nx_memory.proofs.memory.Memory.write.Goals as goal

pub invariant_of-self : goal.invariant_of-self
invariant_of-self c =
    let m = c.args.self.now in
    let image = areas_of m in
    let output = m.output.bytes.items in
    record {
      sound = by_cases c.write.result
          (λ done. wrote_history (c.write.ensures.wrote done) image output (record { pages = c.write.new.target.are_bytes; log = m.log.are_bytes }) m.sound)
          (λ none. kept_history Pages image output (c.write.ensures.refused none) m.sound);
    }

pub invariant_of-self-in-Log : goal.invariant_of-self-in-Log
invariant_of-self-in-Log c =
    let m = c.args.self.now in
    let image = areas_of m in
    let output = m.output.bytes.items in
    record {
      sound = by_cases c.write-in-Log.result
          (λ done. wrote_history (c.write-in-Log.ensures.wrote done) image output (record { pages = m.pages.are_bytes; log = c.write-in-Log.new.target.are_bytes }) m.sound)
          (λ none. kept_history Log image output (c.write-in-Log.ensures.refused none) m.sound);
    }

pub returns-in-Pages-clause-adds : goal.returns-in-Pages-clause-adds
returns-in-Pages-clause-adds c done =
    let m = c.args.self.now in
    let wrote = c.write.ensures.wrote done in
    rw c.in-Pages.is
    (record {
      changes = wrote_change wrote;
      before = wrote_undone wrote (areas_of m) m.output.bytes.items;
      input = refl;
      room = record { pages = c.write.ensures.most; log = refl; output = refl; history = c.write.ensures.same_room };
    })

pub returns-in-Log-clause-adds : goal.returns-in-Log-clause-adds
returns-in-Log-clause-adds c done =
    let m = c.args.self.now in
    let wrote = c.write-in-Log.ensures.wrote done in
    rw c.in-Log.is
    (record {
      changes = wrote_change wrote;
      before = wrote_undone wrote (areas_of m) m.output.bytes.items;
      input = refl;
      room = record { pages = refl; log = c.write-in-Log.ensures.most; output = refl; history = c.write-in-Log.ensures.same_room };
    })
