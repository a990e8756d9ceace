use Rattle.std.proofs.Common.{◌≡◌, ◌∙◌, sym, arith, length}
use Rattle.nx_wal_driver.proofs.StampLemmas.{units_none, unit_written}
use Rattle.nx_wal_driver.proofs.stamps.write_units.Goals as goal

pub loop-i-init : goal.loop-i-init
loop-i-init c = record { long = c.requires; written = sym (units_none c.args.stamp) }

pub loop-i-preserved : goal.loop-i-preserved
loop-i-preserved c =
    let before : length c.loop-i.bytes ≡ 8192 = c.loop-i.invariant.long in
    let below = c.loop-i-test.true in
    record {
      long = c.write_unit.auto.bytes ∙ before;
      written = unit_written c.args.stamp c.loop-i.i c.loop-i.bytes c.write_unit.new.bytes (omega arith) c.write_unit.ensures c.loop-i.invariant.written;
    }
