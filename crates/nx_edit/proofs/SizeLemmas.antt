-- What isn't too heavy has room in a record.
use Rattle.std.proofs.Common.{◌≡◌, ℕ, ◌≤◌, [], refl, sym, subst, arith}
use Rattle.nx_piece.specs.declared.piece.Piece.{Piece}
use Rattle.nx_piece.specs.PieceNode.{PieceNode, item_slots, node_weight}
use Rattle.nx_piece.specs.Gapped as gapped
use Rattle.nx_piece.specs.Gapped.{Gapped, End, Grow, Gap, gapped_size, gapped_weight}
use Rattle.nx_piece.specs.Valid.{AreNear, AreTrees, IsPiece, IsValidPiece}
use Rattle.nx_piece.proofs.SizeLemmas.{item_is_weight, size_is_weight}
use Rattle.nx_edit.specs.Changing.{IsWrittenNode}
use Rattle.nx_edit.specs.Parting.{alone_piece}
use Rattle.nx_edit.proofs.PassedLemmas.{piece_same}

pub light_node : (k : ℕ) (node : PieceNode) → IsWrittenNode node → node_weight node ≤ k → k ≤ 256 → item_slots node ≤ 256
light_node k node written light most = let same = item_is_weight node written.1 written.0 in omega (arith, same, light, most)

-- each item takes a slot at least
trees_small : (f : Gapped) → AreTrees f → gapped.gapped_width f ≤ gapped_size f
trees_small End trees = omega arith
trees_small (Grow node below beside) trees = omega (arith, trees_small beside trees)
trees_small (Gap count beside) trees = absurd trees

-- a piece in memory that isn't too heavy may be stored, where no content is too long for its item
pub light_piece : (piece : Piece) (k : ℕ) → IsPiece piece → AreNear piece.body.roots → gapped_weight piece.body.roots ≤ k → k ≤ 256 → IsValidPiece piece
light_piece piece k is near light most =
    let same = size_is_weight piece.body.roots near is.body.far in
    let small : gapped_size piece.body.roots ≤ k = omega (arith, same, light) in
    let few = trees_small piece.body.roots is.body.trees in
    record {
      body = record {
        trees = is.body.trees;
        some = is.body.some;
        few = omega (arith, few, small, most);
        small = omega (arith, small, most);
        apart = is.body.apart;
        far = is.body.far;
        counted = is.body.counted;
        few_proxies = is.body.few_proxies;
      };
      ranged = is.ranged;
    }

-- and so may that of one node
pub light_alone : (k : ℕ) (node : PieceNode) (piece : Piece) → piece.body.roots ≡ Grow node End End → piece.proxies ≡ [] → IsWrittenNode node → node_weight node ≤ k → k ≤ 256 → IsValidPiece piece
light_alone k node piece roots proxies written light most =
    let small = light_node k node written light most in
    subst IsValidPiece (piece_same (alone_piece node) piece (sym roots) (sym proxies))
    (record {
      body = record { trees = tt; some = omega arith; few = omega arith; small = omega (arith, small); apart = (tt, tt); far = (written.1, tt, tt); counted = refl; few_proxies = omega arith };
      ranged = tt;
    })
