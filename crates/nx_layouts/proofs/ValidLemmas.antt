-- The piece of an interval is a valid one.
use Rattle.std.proofs.Common.{◌≡◌, ℕ, ◌≤◌, List, [], ◌∷◌, ◌++◌, refl, sym, arith}
use Rattle.nx_piece.specs.declared.piece.Proxy.{Proxy}
use Rattle.nx_piece.specs.Gapped as gapped
use Rattle.nx_piece.specs.Gapped.{Gapped, End, Grow, Gap}
use Rattle.nx_piece.specs.Valid.{AreApart, AreTrees, HaveRoots}
use Rattle.nx_cuts.specs.Cut.{Bare, Grown, Kept, width, AreFree}
use Rattle.nx_layouts.specs.Layout.{Layout, laid_weight, AreLaidParts, gap_more, piece_body, proxies_of}
use Rattle.nx_layouts.specs.Valid.{PieceIsValid}
use Rattle.nx_layouts.proofs.DrawnLemmas.{drawn_wide, drawn_free}
use Rattle.nx_layouts.proofs.LayoutLemmas.{proxies_counted}

apart_gap_more : (g : Gapped) → AreApart g → AreApart (gap_more g)
apart_gap_more End h = (omega arith, tt, tt)
apart_gap_more (Grow node below beside) h = (omega arith, tt, h)
apart_gap_more (Gap count beside) h = let c : 1 ≤ count = h.0 in (omega arith, h.1, h.2)

pub body_apart : (a : Layout) → AreApart (piece_body a)
body_apart Bare = tt
body_apart (Grown node below beside) = (body_apart below, body_apart beside)
body_apart (Kept place members beside) = apart_gap_more (piece_body beside) (body_apart beside)

free_trees : (a : Layout) → AreFree a → AreTrees (piece_body a)
free_trees Bare h = tt
free_trees (Grown node below beside) h = free_trees beside h
free_trees (Kept place members beside) h = absurd h

free_width : (a : Layout) → AreFree a → gapped.gapped_width (piece_body a) ≡ width a
free_width Bare h = refl
free_width (Grown node below beside) h = let p = free_width beside h in omega arith
free_width (Kept place members beside) h = absurd h

-- a member weighs one at least
free_weight : (a : Layout) → AreFree a → width a ≤ laid_weight a
free_weight Bare h = omega arith
free_weight (Grown node below beside) h = let p = free_weight beside h in omega arith
free_weight (Kept place members beside) h = absurd h

roots_append : (ps qs : List Proxy) → HaveRoots ps → HaveRoots qs → HaveRoots (ps ++ qs)
roots_append [] qs h k = k
roots_append (p ∷ ps) qs h k = (h.0, h.1, roots_append ps qs h.2 k)

proxies_rooted : (k : ℕ) (a : Layout) → k ≤ 256 → AreLaidParts k a → HaveRoots (proxies_of a)
proxies_rooted k Bare most h = tt
proxies_rooted k (Grown node below beside) most h =
    roots_append (proxies_of below) (proxies_of beside) (proxies_rooted k below most h.0) (proxies_rooted k beside most h.1)
proxies_rooted k (Kept place members beside) most h =
    let some = h.0 in
    let light : laid_weight members ≤ k = h.2 in
    let wide = drawn_wide members in
    let few = free_weight members (drawn_free members h.1) in
    (omega (arith, some, wide), omega (arith, few, light, most), proxies_rooted k beside most h.4)

-- ... and its item takes one slot at least
free_size : (a : Layout) → AreFree a → width a ≤ gapped.gapped_size (piece_body a)
free_size Bare h = omega arith
free_size (Grown node below beside) h = let p = free_size beside h in omega arith
free_size (Kept place members beside) h = absurd h

pub piece_valid : PieceIsValid
piece_valid k members most some free far fits below few =
    let w = free_width members free in
    let f = free_size members free in
    let c = proxies_counted members in (
      record {
        trees = free_trees members free;
        some = omega (arith, w, some);
        few = omega (arith, w, f, fits, most);
        small = omega (arith, fits, most);
        apart = body_apart members;
        far = far;
        counted = sym c;
        few_proxies = few;
      },
      proxies_rooted k members most below,
    )
