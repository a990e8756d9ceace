use Rattle.std.proofs.Common.{◌+◌, ◌-◌, length, drop, subst, sym, ap, ◌∙◌, arith}
use Rattle.std.proofs.lemmas.List.{take_at}
use Rattle.nx_host.specs.Disk.{AreBytes, Written}
use Rattle.nx_memory.specs.History.{spliced}
use Rattle.nx_memory.proofs.SpliceLemmas.{written_over}
use Rattle.nx_memory.proofs.reserved.Reserved.write.Goals as goal

pub invariant_of-self-clause-are_bytes : goal.invariant_of-self-clause-are_bytes
invariant_of-self-clause-are_bytes c =
    let grown = c.grow.new.self.bytes in
    let now = c.splice.new.list in
    subst AreBytes (sym (take_at now (drop (length now) grown.items) grown.len (omega arith))) c.splice.ensures.are_bytes

pub returns-clause-written : goal.returns-clause-written
returns-clause-written c =
    let bytes = c.args.bytes.now in
    let old = c.args.self.now.bytes.items in
    let grown = c.grow.new.self.bytes in
    let now = c.splice.new.list in
    let k = c.args.at + length bytes - length old in
    let is = c.splice.ensures.spliced ∙ ap (spliced c.args.at bytes) (c.deref_mut.ensures.value ∙ c.grow.ensures.bytes) in
    let same = take_at now (drop (length now) grown.items) grown.len (omega arith) ∙ is in
    subst (Written c.args.at bytes old) (sym same) (written_over c.args.at k bytes old (omega arith))
