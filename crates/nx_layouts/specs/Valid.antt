-- The piece of an interval is a valid one.
use Rattle.std.specs.Prelude.{ℕ, ◌≤◌, length}
use Rattle.nx_piece.specs.Gapped.{gapped_size}
use Rattle.nx_piece.specs.Valid.{AreFar, IsValidBody, HaveRoots}
use Rattle.nx_cuts.specs.Cut.{width, AreFree}
use Rattle.nx_layouts.specs.Layout.{Layout, AreLaidParts, piece_body, proxies_of}

-- The members of an interval whose items take at most k slots, where no part below them weighs more than k, each far content is as one may be, and there are at most 524,288
-- intervals below them, have a piece that may be stored.
abbrev pub PieceIsValid : Type 0
PieceIsValid = (k : ℕ) (members : Layout) → k ≤ 256 → 1 ≤ width members → AreFree members → AreFar (piece_body members) → gapped_size (piece_body members) ≤ k → AreLaidParts k members
    → length (proxies_of members) ≤ 524288 → IsValidBody (piece_body members) (length (proxies_of members)) × HaveRoots (proxies_of members)
