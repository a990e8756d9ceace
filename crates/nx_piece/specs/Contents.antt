-- The contents of a piece that stand in lists of their own.
use Rattle.std.specs.Prelude.{List, [], ◌++◌}
use Rattle.std.specs.Option.{option_to_list}
use Rattle.nx_piece.specs.declared.piece.Far.{Far}
use Rattle.nx_piece.specs.Gapped.{Gapped, End, Grow, Gap}

-- where the far contents of the nodes stand, in document order
abbrev pub fars_in : Gapped → List Far
fars_in End = []
fars_in (Grow node below beside) = option_to_list node.far ++ (fars_in below ++ fars_in beside)
fars_in (Gap count beside) = fars_in beside
