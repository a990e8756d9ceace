-- The sketch of a piece: what it weighs, and that it can be split.
use Rattle.std.proofs.Common.{◌≡◌, ◌≢◌, ℕ, ◌+◌, ◌^◌, ◌<◌, ◌≤◌, List, Option, None, Some, refl, arith}
use Rattle.nx_tree.specs.declared.node.Node.{Node}
use Rattle.nx_matrix.specs.declared.rule.Entry.{Entry}
use Rattle.nx_matrix.specs.declared.rule.Entry.TheVariants.{Standalone, Cluster, Free}
use Rattle.nx_matrix.specs.declared.rule.Rule.{Rule}
use Rattle.nx_piece.specs.declared.piece.Piece.{Piece}
use Rattle.nx_piece.specs.declared.piece.Proxy.{Proxy}
use Rattle.nx_piece.specs.Gapped.{Gapped, End, Grow, Gap, gapped_size, gapped_weight, proxies_in}
use Rattle.nx_piece.specs.Valid.{IsPiece}
use Rattle.nx_piece.proofs.SizeLemmas.{weight_within}
use Rattle.nx_sketch.specs.declared.spot.Spot.{Spot}
use Rattle.nx_sketch.specs.Sketch.{sketch_weight, spots_of, AreRising, AreUnclustered, IsSketch, IsFlat}
use Rattle.nx_sketch.specs.Sketch.{AreSpotsAtMost as AreLight}
use Rattle.nx_division.specs.Divided.{IsSplittable}
use Rattle.nx_split.specs.Piece.{asked, freed, asked_of_root, positions, sketch_in, sketch_of, AreGappedAtMost}

pub sketch_weight-sketch : (rules : List Rule) (proxies : List Proxy) (asks : Node → Entry) (first position : ℕ) (f : Gapped) → sketch_weight (sketch_in rules proxies asks first position f) ≡ gapped_weight f
sketch_weight-sketch rules proxies asks first position End = refl
sketch_weight-sketch rules proxies asks first position (Grow n b s) =
    omega (arith, sketch_weight-sketch rules proxies (asked rules n.node) first 0 b, sketch_weight-sketch rules proxies asks (first + proxies_in b) (position + 1) s)
sketch_weight-sketch rules proxies asks first position (Gap c s) = sketch_weight-sketch rules proxies asks (first + c) (position + positions proxies first c) s

rises : (rules : List Rule) (proxies : List Proxy) (asks : Node → Entry) (first position low : ℕ) (f : Gapped) → low ≤ position → AreRising low (sketch_in rules proxies asks first position f)
rises rules proxies asks first position low End h = tt
rises rules proxies asks first position low (Grow n b s) h =
    (h, rises rules proxies (asked rules n.node) first 0 0 b (omega arith), rises rules proxies asks (first + proxies_in b) (position + 1) (position + 1) s (omega arith))
rises rules proxies asks first position low (Gap c s) h = rises rules proxies asks (first + c) (position + positions proxies first c) low s (omega arith)

unclustered : (rules : List Rule) (proxies : List Proxy) (asks : Node → Entry) (first position : ℕ) (f : Gapped) → ((node : Node) → asks node ≢ Cluster) → AreUnclustered (sketch_in rules proxies asks first position f)
unclustered rules proxies asks first position End h = tt
unclustered rules proxies asks first position (Grow n b s) h = (h n.node, unclustered rules proxies asks (first + proxies_in b) (position + 1) s h)
unclustered rules proxies asks first position (Gap c s) h = unclustered rules proxies asks (first + c) (position + positions proxies first c) s h

light : (k : ℕ) (rules : List Rule) (proxies : List Proxy) (asks : Node → Entry) (first position : ℕ) (f : Gapped) → AreGappedAtMost k f → AreLight k (sketch_in rules proxies asks first position f)
light k rules proxies asks first position End h = tt
light k rules proxies asks first position (Grow n b s) h =
    (omega arith, h.0, light k rules proxies (asked rules n.node) first 0 b h.1, light k rules proxies asks (first + proxies_in b) (position + 1) s h.2)
light k rules proxies asks first position (Gap c s) h = light k rules proxies asks (first + c) (position + positions proxies first c) s h

freed_stays : (e : Entry) → freed e ≢ Cluster
freed_stays Standalone = λ e. absurd (cc)
freed_stays Cluster = λ e. absurd (cc)
freed_stays Free = λ e. absurd (cc)

root_unclustered : (rules : List Rule) (above : Option Node) (root : Node) → asked_of_root rules above root ≢ Cluster
root_unclustered rules None root = λ e. absurd (cc)
root_unclustered rules (Some above) root = freed_stays (asked rules above root)

pub piece_is_sketch : (rules : List Rule) (above : Option Node) (piece : Piece) → IsSketch (sketch_of rules above piece)
piece_is_sketch rules above piece = record {
  rising = rises rules piece.proxies (asked_of_root rules above) 0 0 0 piece.body.roots (omega arith);
  unclustered = unclustered rules piece.proxies (asked_of_root rules above) 0 0 piece.body.roots (root_unclustered rules above);
}

pub piece_is_light : (k : ℕ) (rules : List Rule) (above : Option Node) (piece : Piece) → AreGappedAtMost k piece.body.roots → AreLight k (sketch_of rules above piece)
piece_is_light k rules above piece h = light k rules piece.proxies (asked_of_root rules above) 0 0 piece.body.roots h

-- a piece weighs no more than its items take
pub piece_weighs : (piece : Piece) → IsPiece piece → gapped_weight piece.body.roots ≤ 512
piece_weighs piece h =
    let slots : gapped_size piece.body.roots ≤ 512 = h.body.small in
    omega (arith, slots, weight_within piece.body.roots h.body.far)

piece_is_small : (rules : List Rule) (above : Option Node) (piece : Piece) → IsPiece piece → sketch_weight (sketch_of rules above piece) < 2 ^ 24
piece_is_small rules above piece h =
    omega (arith, piece_weighs piece h, sketch_weight-sketch rules piece.proxies (asked_of_root rules above) 0 0 piece.body.roots)

pub piece_is_flat : (rules : List Rule) (above : Option Node) (piece : Piece) (spots : List Spot) → IsPiece piece → spots ≡ spots_of (sketch_of rules above piece) → IsFlat spots
piece_is_flat rules above piece spots h is = record { sketch = sketch_of rules above piece; is = is; small = piece_is_small rules above piece h }

pub piece_is_splittable : (k : ℕ) (rules : List Rule) (above : Option Node) (piece : Piece) (spots : List Spot) → IsPiece piece → AreGappedAtMost k piece.body.roots → spots ≡ spots_of (sketch_of rules above piece) → IsSplittable k spots
piece_is_splittable k rules above piece spots h nodes is =
    record { sketch = sketch_of rules above piece; is = is; small = piece_is_small rules above piece h; light = piece_is_light k rules above piece nodes }
