use Rattle.std.proofs.Common.{ap, length}
use Rattle.nx_host.specs.Disk.{area_of}
use Rattle.nx_host.proofs.TornLemmas.{comes_self}
use Rattle.nx_memory.specs.History.{Present, MayLeave}
use Rattle.nx_memory.specs.Quiet.{told_of}
use Rattle.nx_memory.specs.declared.history.Change.TheVariants.{Write}
use Rattle.nx_memory.specs.Memory.{changes_of, present_of, areas_of, output_of}
use Rattle.nx_memory.proofs.HistoryLemmas.{write_left, same_output}
use Rattle.nx_memory.proofs.QuietLemmas.{quiet_changed, used_up, still_told, none_told}
use Rattle.nx_memory.proofs.quiet.QuietHostDisk.write_at.Goals as goal

pub returns-then-write-clause-images : goal.returns-then-write-clause-images
returns-then-write-clause-images c = let adds = c.write.ensures.adds c.if-write.true in write_left (present_of c.write.new.self) adds.changes adds.before

pub returns-then-write-clause-time : goal.returns-then-write-clause-time
returns-then-write-clause-time c =
    let was = c.args.self.now.memory in
    let now = c.write.new.self in
    let adds = c.write.ensures.adds c.if-write.true in
    let change = Write c.args.area c.args.at (length c.args.bytes.now) (length (area_of c.args.area (areas_of was))) in
    let time = quiet_changed change c.if-self.false adds.changes adds.before
    (λ s here. (
      still_told (output_of was) s.output c.if-self.false (same_output (output_of was) (output_of now) s.output here.output (ap (λ (p : Present). p.output) adds.before)),
      write_left (present_of now) adds.changes adds.before s.image here.image,
    )) in
    record { later = time.later; nothing_else = time.nothing_else; keeps = time.keeps }

pub returns-clause-time : goal.returns-clause-time
returns-clause-time c =
    let was = c.args.self.now.memory in
    let same = c.write.ensures.refused c.if-write.false in
    let time = used_up c.if-self.false (ap changes_of same) (ap present_of same)
    (λ s none left. (
      none_told (told_of c.args.self.now.full (output_of was)) s.output none,
      comes_self c.args.area c.args.at (length c.args.bytes.now) (MayLeave (changes_of was) (present_of was)) s.image left,
    )) in
    record { later = time.later; nothing_else = time.nothing_else; keeps = time.keeps }
