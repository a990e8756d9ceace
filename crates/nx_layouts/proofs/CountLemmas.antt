-- The nodes of a row, counted record by record.
use Rattle.std.proofs.Common.{◌≡◌, ◌++◌, refl, ap, arith}
use Rattle.std.proofs.lemmas.List.Sums.{sum_by-cons, sum_by-append}
use Rattle.nx_piece.specs.Gapped.{Gapped, End, Grow, Gap, gapped_nodes}
use Rattle.nx_cuts.specs.Cut.{Bare, Grown, Kept}
use Rattle.nx_layouts.specs.Layout.{RecordPlace, laid_forest, gap_more, piece_body, places_of}
use Rattle.nx_layouts.specs.Cutting.{piece_nodes, NodesOfRecords}
use Rattle.nx_layouts.proofs.WithoutLemmas.{nodes_joined}

same_nodes : (f : Gapped) → gapped_nodes (gap_more f) ≡ gapped_nodes f
same_nodes End = refl
same_nodes (Grow n b s) = refl
same_nodes (Gap c s) = refl

pub nodes_of_records : NodesOfRecords
nodes_of_records stock Bare held = refl
nodes_of_records stock (Grown n b s) held =
    let e = nodes_of_records stock b held.1 in
    let f = nodes_of_records stock s held.2 in
    let g = sum_by-append (λ (p : RecordPlace). piece_nodes (stock.piece_at p)) (places_of b) (places_of s) in
    omega (arith, e, f, g)
nodes_of_records stock (Kept p m s) held =
    let e = nodes_of_records stock m held.1 in
    let f = nodes_of_records stock s held.2 in
    let g = sum_by-append (λ (q : RecordPlace). piece_nodes (stock.piece_at q)) (places_of m) (places_of s) in
    let h = sum_by-cons (λ (q : RecordPlace). piece_nodes (stock.piece_at q)) p (places_of m ++ places_of s) in
    let i : piece_nodes (stock.piece_at p) ≡ gapped_nodes (piece_body m) = ap piece_nodes (held.0).there in
    let j = nodes_joined (laid_forest m) (laid_forest s) in
    let k = same_nodes (piece_body s) in
    omega (arith, e, f, g, h, i, j, k)
