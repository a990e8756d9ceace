-- Roots divided into the first ones and those behind them.
use Rattle.std.specs.Prelude.{◌≡◌, ℕ, zero, suc, take, drop}
use Rattle.nx_piece.specs.declared.piece.Piece.{Piece}
use Rattle.nx_piece.specs.Gapped.{Gapped, End, Grow, proxies_in}
use Rattle.nx_piece.specs.Valid.{IsPiece, IsValidPiece}

-- so many of the first trees
abbrev pub first_roots : ℕ → Gapped → Gapped
first_roots zero f = End
first_roots (suc count) (Grow node below beside) = Grow node below (first_roots count beside)
first_roots (suc count) f = End

-- the trees behind so many
abbrev pub roots_behind : ℕ → Gapped → Gapped
roots_behind zero f = f
roots_behind (suc count) (Grow node below beside) = roots_behind count beside
roots_behind (suc count) f = End

-- the first roots of the piece and those behind them are pieces with the proxies of their own, and valid where it is
pub record AreDivided (piece : Piece) (member : ℕ) (parts : Piece × Piece) : Type 0 where
  pub front : parts.0.body.roots ≡ first_roots member piece.body.roots
  pub back : parts.1.body.roots ≡ roots_behind member piece.body.roots
  pub front_proxies : parts.0.proxies ≡ take (proxies_in (first_roots member piece.body.roots)) piece.proxies
  pub back_proxies : parts.1.proxies ≡ drop (proxies_in (first_roots member piece.body.roots)) piece.proxies
  pub pieces : IsPiece piece → IsPiece parts.0 × IsPiece parts.1
  pub valid : IsValidPiece piece → IsValidPiece parts.0 × IsValidPiece parts.1
