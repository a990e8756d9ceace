use Rattle.std.proofs.Common.{length}
use Rattle.nx_division.proofs.settle.+tops_light.Given as goal

abbrev pub decreases-tops_light : goal.decreases-tops_light
decreases-tops_light l = length l.spots.now
