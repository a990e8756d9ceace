use Rattle.std.proofs.Common.{◌-◌, ◌^◌}
use Rattle.nx_division_tests.proofs.plain.separator.+row_end.Given as goal

abbrev pub decreases-row_end : goal.decreases-row_end
decreases-row_end l = 2 ^ 32 - l.last
