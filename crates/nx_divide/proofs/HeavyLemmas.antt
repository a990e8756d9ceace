-- The piece of an interval that became too heavy.
use Rattle.std.proofs.Common.{◌≡◌, ℕ, ◌+◌, ◌≤◌, List, [], ◌∷◌, ◌++◌, refl, sym, subst, arith}
use Rattle.nx_tree.specs.Forest.{nodes}
use Rattle.nx_piece.specs.declared.piece.Proxy.{Proxy}
use Rattle.nx_piece.specs.Gapped as gapped
use Rattle.nx_piece.specs.Gapped.{Gapped, End, Grow, Gap, gapped_size, gapped_weight, proxies_in}
use Rattle.nx_piece.specs.Valid.{AreTrees, HaveRoots}
use Rattle.nx_cuts.specs.Cut.{CutForest, Bare, Grown, Kept, forest, width, AreFree}
use Rattle.nx_layouts.specs.Layout.{Layout, without_places, laid_forest, laid_weight, AreLaidParts, gap_more, piece_body, proxies_of}
use Rattle.nx_layouts.proofs.LayoutLemmas.{proxies_counted}
use Rattle.nx_layouts.proofs.NodeLemmas.{item_weighs}
use Rattle.nx_layouts.proofs.BodyLemmas.{bodies_are_of_rows}
use Rattle.nx_layouts.proofs.DrawnLemmas.{drawn_wide, drawn_free}
use Rattle.nx_layouts.proofs.WithoutLemmas.{nodes_joined}
use Rattle.nx_layouts.proofs.ValidLemmas.{body_apart}
use Rattle.nx_split.specs.Piece.{AreGappedAtMost}
use Rattle.nx_drawn.specs.Growth.{PartIsAtMost}
use Rattle.nx_drawn.proofs.GrowthLemmas.{width_light}
use Rattle.nx_drawn.proofs.DividedLemmas.{heavier_parts}
use Rattle.nx_divide.specs.Marked.{many}
use Rattle.nx_divide.specs.Heavy.{HeavyIsPiece}
use Rattle.nx_divide.proofs.RowLemmas.{many-gap_more}

free_trees : (a : Layout) → AreFree a → AreTrees (piece_body a)
free_trees Bare f = tt
free_trees (Grown n b s) f = free_trees s f
free_trees (Kept r m s) f = absurd f

free_roots : (a : Layout) → AreFree a → gapped.gapped_width (piece_body a) ≡ width a
free_roots Bare f = refl
free_roots (Grown n b s) f = omega (arith, free_roots s f)
free_roots (Kept r m s) f = absurd f

free_nodes : (c : CutForest) → AreFree c → width c ≤ nodes (forest c)
free_nodes Bare f = omega arith
free_nodes (Grown n b s) f = omega (arith, free_nodes s f)
free_nodes (Kept u m s) f = absurd f

roots_both : (ps qs : List Proxy) → HaveRoots ps → HaveRoots qs → HaveRoots (ps ++ qs)
roots_both [] qs h k = k
roots_both (p ∷ ps) qs h k = (h.0, h.1, roots_both ps qs h.2 k)

-- what proxies stand for has 1 to 256 members
pub rooted : (a : Layout) → AreLaidParts 256 a → HaveRoots (proxies_of a)
rooted Bare h = tt
rooted (Grown n b s) h = roots_both (proxies_of b) (proxies_of s) (rooted b h.0) (rooted s h.1)
rooted (Kept r m s) h =
    let some : 1 ≤ width (without_places m) = h.0 in
    let light : laid_weight m ≤ 256 = h.2 in
    let few = width_light (without_places m) h.1 in
    let wide = drawn_wide m in
    (omega (arith, some, wide), omega (arith, light, few, wide), rooted s h.4)

many_nodes : (a : Layout) → AreLaidParts 256 a → many (piece_body a) ≤ nodes (laid_forest a)
many_nodes Bare h = omega arith
many_nodes (Grown n b s) h = omega (arith, many_nodes b h.0, many_nodes s h.1)
many_nodes (Kept r m s) h =
    let some : 1 ≤ width (without_places m) = h.0 in
    let few = free_nodes (without_places m) h.1 in
    let x = many-gap_more (piece_body s) in
    let y = nodes_joined (laid_forest m) (laid_forest s) in
    omega (arith, some, few, x, y, many_nodes s h.4)

proxies_many : (g : Gapped) → proxies_in g ≤ many g
proxies_many End = omega arith
proxies_many (Grow n b s) = omega (arith, proxies_many b, proxies_many s)
proxies_many (Gap count s) = omega (arith, proxies_many s)

-- each node of a piece has an item of one slot at least
pub many_few : (g : Gapped) → many g ≤ gapped_size g + proxies_in g
many_few End = omega arith
many_few (Grow n b s) = omega (arith, many_few b, many_few s)
many_few (Gap count s) = omega (arith, many_few s)

at_most-gap_more : (k : ℕ) (g : Gapped) → AreGappedAtMost k g → AreGappedAtMost k (gap_more g)
at_most-gap_more k End q = tt
at_most-gap_more k (Grow n b s) q = q
at_most-gap_more k (Gap count s) q = q

nodes_at_most : (k : ℕ) (a : Layout) → PartIsAtMost k (without_places a) → AreGappedAtMost k (piece_body a)
nodes_at_most k Bare q = tt
nodes_at_most k (Grown n b s) q = (subst (λ (w : ℕ). w ≤ k) (sym (item_weighs n)) q.0, nodes_at_most k b q.1, nodes_at_most k s q.2)
nodes_at_most k (Kept r m s) q = at_most-gap_more k (piece_body s) (nodes_at_most k s q)

pub heavy_is_piece : HeavyIsPiece
heavy_is_piece k limit wide members most limited narrow near far heavy small =
    let free = drawn_free members heavy.free in
    let some = heavy.some in
    let few = heavy.few in
    let light : laid_weight members ≤ limit = heavy.light in
    let parts : AreLaidParts 256 members = heavier_parts k 256 (without_places members) most heavy.parts in
    let drawn = drawn_wide members in
    let w = free_roots members free in
    let body = bodies_are_of_rows members in
    let fits : gapped_size (piece_body members) ≤ gapped_weight (piece_body members) = body.sized near far in
    let weighs : gapped_weight (piece_body members) ≡ laid_weight members = body.weighs in
    let c = proxies_counted members in
    let m = many_nodes members parts in
    let p = proxies_many (piece_body members) in record {
      is = record {
        body = record {
          trees = free_trees members free;
          some = omega (arith, some, drawn, w);
          few = omega (arith, few, drawn, narrow, w);
          small = omega (arith, light, limited, fits, weighs);
          apart = body_apart members;
          far = far;
          counted = sym c;
          few_proxies = omega (arith, c, p, m, small);
        };
        ranged = rooted members parts;
      };
      few = omega (arith, m, small);
      nodes = nodes_at_most k members heavy.nodes;
    }
