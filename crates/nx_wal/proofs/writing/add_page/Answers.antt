use Rattle.std.proofs.Common.{◌≡◌, arith, ap, ◌∙◌, length, subst, List, ℕ}
use Rattle.byteorder.specs.Endian.{big_bytes}
use Rattle.byteorder.specs.Numbers.{length-bytes_high_first}
use Rattle.nx_replay.proofs.SettledLemmas.{on_ok}
use Rattle.nx_wal.specs.Gathering.{AddsBytes}
use Rattle.nx_wal.proofs.GatherLemmas.{adds_then, reaches_then, reaches_wider}
use Rattle.nx_wal.proofs.writing.add_page.Goals as goal

pub returns-in_err-add_number-clause-reaches : goal.returns-in_err-add_number-clause-reaches
returns-in_err-add_number-clause-reaches g c = reaches_wider 4 8196 c.args.block.now c.args.disk.now c.add_number.new.disk (omega arith) c.add_number.ensures.reaches

pub returns-clause-adds : goal.returns-clause-adds
returns-clause-adds g c = on_ok c.add.result c.add.ensures.adds (λ adds.
    adds_then c.in_ok-add_number.ensures.adds (subst (λ (x : List ℕ). AddsBytes g.D.Disk x c.add_number.new.block c.add.new.block c.add_number.new.disk c.add.new.disk) c.bytes_of.ensures.value adds))

pub returns-clause-reaches : goal.returns-clause-reaches
returns-clause-reaches g c =
    let long : length c.bytes_of.result.now ≡ 8192 = ap length c.bytes_of.ensures.value ∙ c.bytes_of.ensures.long in
    reaches_then (big_bytes 4 c.args.page) (length c.bytes_of.result.now) 8196 (omega (arith, long, length-bytes_high_first 4 c.args.page)) c.in_ok-add_number.ensures.adds c.add.ensures.reaches
