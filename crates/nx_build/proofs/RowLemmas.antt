-- Trees that come behind others, in what is drawn, in the piece, and in the numbers.
use Rattle.std.proofs.Common.{◌≡◌, ℕ, ◌+◌, ◌*◌, ◌≤◌, List, ◌∷◌, ◌++◌, length, refl, sym, ap, ◌∙◌, arith, append_assoc, length-append}
use Rattle.std.specs.Prelude.{if◌then◌else◌, Bool, true, false}
use Rattle.nx_tree.specs.declared.node.Node.{Node}
use Rattle.nx_tree.specs.Forest.{Forest, Empty, Plant, nodes}
use Rattle.nx_holdings.specs.Holdings.{chain_count}
use Rattle.nx_piece.specs.declared.piece.Piece.{Piece}
use Rattle.nx_piece.specs.declared.piece.Proxy.{Proxy}
use Rattle.nx_piece.specs.declared.piece.Item.TheVariants.{Tree}
use Rattle.nx_piece.specs.Gapped as gapped
use Rattle.nx_piece.specs.Gapped.{Gapped, GappedTree, End, Grow, Gap}
use Rattle.nx_piece.specs.Items.{with_last, with_last_tree}
use Rattle.nx_piece.specs.Valid.{is_inline, AreNear, AreFar}
use Rattle.nx_cuts.specs.Cut.{CutForest, Bare, Grown, Kept, joined, forest, width, cuts, AreFree, AreParts}
use Rattle.nx_layouts.specs.Layout.{RecordPlace, LaidNode, Layout, without_places, in_record, gap_more, piece_body, proxies_of, places_of}
use Rattle.nx_layouts.specs.Replace.{joined_layout}
use Rattle.nx_hold.specs.Contents.{content_pages, forest_pages}
use Rattle.nx_hold.specs.Changes.{piece_needs}
use Rattle.nx_build.specs.Laying.{proxy_count, page_needs, drawn_needs}
use Rattle.nx_build.specs.Rows.{with_proxy}

-- drawn trees with others beside them
abbrev pub joined_cut : CutForest → CutForest → CutForest
joined_cut Bare last = last
joined_cut (Grown node below beside) last = Grown node below (joined_cut beside last)
joined_cut (Kept mark members beside) last = Kept mark members (joined_cut beside last)

pub joined_cut-assoc : (a b c : CutForest) → joined_cut (joined_cut a b) c ≡ joined_cut a (joined_cut b c)
joined_cut-assoc Bare b c = refl
joined_cut-assoc (Grown node below beside) b c = ap (Grown node below) (joined_cut-assoc beside b c)
joined_cut-assoc (Kept mark members beside) b c = ap (Kept mark members) (joined_cut-assoc beside b c)

pub joined_cut-nothing : (a : CutForest) → joined_cut a Bare ≡ a
joined_cut-nothing Bare = refl
joined_cut-nothing (Grown node below beside) = ap (Grown node below) (joined_cut-nothing beside)
joined_cut-nothing (Kept mark members beside) = ap (Kept mark members) (joined_cut-nothing beside)

pub without-joined : (a b : Layout) → without_places (joined_layout a b) ≡ joined_cut (without_places a) (without_places b)
without-joined Bare b = refl
without-joined (Grown node below beside) b = ap (Grown node.node (without_places below)) (without-joined beside b)
without-joined (Kept place members beside) b = ap (Kept tt (without_places members)) (without-joined beside b)

pub places-joined : (a b : Layout) → places_of (joined_layout a b) ≡ places_of a ++ places_of b
places-joined Bare b = refl
places-joined (Grown node below beside) b = ap (λ (l : List RecordPlace). places_of below ++ l) (places-joined beside b) ∙ sym (append_assoc (places_of below) (places_of beside) (places_of b))
places-joined (Kept place members beside) b =
    ap (λ (l : List RecordPlace). place ∷ places_of members ++ l) (places-joined beside b) ∙ ap (λ (l : List RecordPlace). place ∷ l) (sym (append_assoc (places_of members) (places_of beside) (places_of b)))

pub needs-joined : (pages : LaidNode → ℕ) (a b : Layout) → page_needs pages (joined_layout a b) ≡ page_needs pages a + page_needs pages b
needs-joined pages Bare b = omega arith
needs-joined pages (Grown node below beside) b = omega (arith, needs-joined pages beside b)
needs-joined pages (Kept place members beside) b = omega (arith, needs-joined pages beside b)

pub needs-joined_cut : (pages : Node → ℕ) (a b : CutForest) → page_needs pages (joined_cut a b) ≡ page_needs pages a + page_needs pages b
needs-joined_cut pages Bare b = omega arith
needs-joined_cut pages (Grown node below beside) b = omega (arith, needs-joined_cut pages beside b)
needs-joined_cut pages (Kept mark members beside) b = omega (arith, needs-joined_cut pages beside b)

pub count-joined_cut : (a b : CutForest) → proxy_count (joined_cut a b) ≡ proxy_count a + proxy_count b
count-joined_cut Bare b = omega arith
count-joined_cut (Grown node below beside) b = omega (arith, count-joined_cut beside b)
count-joined_cut (Kept mark members beside) b = omega (arith, count-joined_cut beside b)

-- without their places intervals need as much

pub count-without : (a : Layout) → proxy_count (without_places a) ≡ proxy_count a
count-without Bare = refl
count-without (Grown node below beside) = omega (arith, count-without below, count-without beside)
count-without (Kept place members beside) = omega (arith, count-without beside)

pub needs-without : (pages : Node → ℕ) (a : Layout) → page_needs pages (without_places a) ≡ page_needs (λ (n : LaidNode). pages n.node) a
needs-without pages Bare = refl
needs-without pages (Grown node below beside) = omega (arith, needs-without pages below, needs-without pages beside)
needs-without pages (Kept place members beside) = omega (arith, count-without members, needs-without pages members, needs-without pages beside)

pub length-proxies : (a : Layout) → length (proxies_of a) ≡ proxy_count a
length-proxies Bare = refl
length-proxies (Grown node below beside) = omega (arith, length-append (proxies_of below) (proxies_of beside), length-proxies below, length-proxies beside)
length-proxies (Kept place members beside) = omega (arith, length-proxies beside)

-- the pages of all contents

pages_beside : (own below beside last all : ℕ) → all ≡ beside + last → own + below + all ≡ own + below + beside + last
pages_beside own below beside last all e = omega (arith, e)

pages-joined : (f g : Forest) → forest_pages (joined f g) ≡ forest_pages f + forest_pages g
pages-joined Empty g = omega arith
pages-joined (Plant node below beside) g = pages_beside (content_pages node) (forest_pages below) (forest_pages beside) (forest_pages g) (forest_pages (joined beside g)) (pages-joined beside g)

needs_grown : (own n p c f m q d g : ℕ) → n + p ≡ 2 * c + f → m + q ≡ 2 * d + g → own + n + m + (p + q) ≡ 2 * (c + d) + (own + f + g)
needs_grown own n p c f m q d g e h = omega (arith, e, h)

-- each interval takes a page, and its proxy stands in one piece
pub needs_cuts : (c : CutForest) → drawn_needs c + proxy_count c ≡ 2 * cuts c + forest_pages (forest c)
needs_cuts Bare = refl
needs_cuts (Grown node below beside) =
    needs_grown (content_pages node) (drawn_needs below) (proxy_count below) (cuts below) (forest_pages (forest below)) (drawn_needs beside) (proxy_count beside) (cuts beside) (forest_pages (forest beside)) (needs_cuts below) (needs_cuts beside)
needs_cuts (Kept mark members beside) = omega (arith, needs_cuts members, needs_cuts beside, pages-joined (forest members) (forest beside))

pub nodes-joined : (f g : Forest) → nodes (joined f g) ≡ nodes f + nodes g
nodes-joined Empty g = omega arith
nodes-joined (Plant node below beside) g = omega (arith, nodes-joined beside g)

-- each interval has a member of its own
few : (k : ℕ) (c : CutForest) → AreParts k c → (cuts c ≤ nodes (forest c)) × (AreFree c → width c + cuts c ≤ nodes (forest c))
few k Bare parts = (omega arith, λ free. omega arith)
few k (Grown node below beside) parts =
    let down = (few k below parts.0).0 in
    let side = few k beside parts.1 in
    let along = side.0 in (
      omega (arith, down, along),
      λ free. let all = side.1 free in omega (arith, down, all),
    )
few k (Kept mark members beside) parts =
    let some : 1 ≤ width members = parts.0 in
    let inside = (few k members parts.3).1 parts.1 in
    let along = (few k beside parts.4).0 in (
      omega (arith, some, inside, along, nodes-joined (forest members) (forest beside)),
      λ free. absurd free,
    )

pub cuts_few : (k : ℕ) (c : CutForest) → AreParts k c → cuts c ≤ nodes (forest c)
cuts_few k c parts = (few k c parts).0

pub count_cuts : (c : CutForest) → proxy_count c ≤ cuts c
count_cuts Bare = omega arith
count_cuts (Grown node below beside) = omega (arith, count_cuts below, count_cuts beside)
count_cuts (Kept mark members beside) = omega (arith, count_cuts beside)

-- a record takes a page, and at most one for each proxy
chain_few : (b : Bool) (n : ℕ) → (if b then 0 else chain_count (8 * n)) ≤ n
chain_few true n = omega arith
chain_few false n = omega arith

pub piece_few : (piece : Piece) → piece_needs piece ≤ 1 + length piece.proxies
piece_few piece = omega (arith, chain_few (is_inline piece) (length piece.proxies))

-- what a piece has of trees, with one more of them behind it

more_proxy : (g : Gapped) → gap_more (with_proxy g) ≡ with_proxy (gap_more g)
more_proxy End = refl
more_proxy (Grow node below beside) = refl
more_proxy (Gap count End) = refl
more_proxy (Gap count (Grow node below beside)) = refl
more_proxy (Gap count (Gap more beside)) = refl

pub body-proxy : (a : Layout) (place : RecordPlace) (members : Layout) → piece_body (joined_layout a (Kept place members Bare)) ≡ with_proxy (piece_body a)
body-proxy Bare place members = refl
body-proxy (Grown node below beside) place members = ap (Grow (in_record node) (piece_body below)) (body-proxy beside place members)
body-proxy (Kept at inside beside) place members = ap gap_more (body-proxy beside place members) ∙ more_proxy (piece_body beside)

more_tree : (g : Gapped) (t : GappedTree) → gap_more (with_last_tree g t) ≡ with_last_tree (gap_more g) t
more_tree End t = refl
more_tree (Grow node below beside) t = refl
more_tree (Gap count beside) t = refl

pub body-tree : (a b : Layout) (t : GappedTree) → Grow t.node t.below End ≡ piece_body b → piece_body (joined_layout a b) ≡ with_last_tree (piece_body a) t
body-tree Bare b t e = sym e
body-tree (Grown other inside beside) b t e = ap (Grow (in_record other) (piece_body inside)) (body-tree beside b t e)
body-tree (Kept place members beside) b t e = ap gap_more (body-tree beside b t e) ∙ more_tree (piece_body beside) t

pub last_tree : (g : Gapped) (t : GappedTree) → with_last g (Tree t) ≡ with_last_tree g t
last_tree End t = refl
last_tree (Grow node below beside) t = ap (Grow node below) (last_tree beside t)
last_tree (Gap count beside) t = ap (Gap count) (last_tree beside t)

-- a piece has as many roots as its interval has members
pub width-body : (members : Layout) → AreFree members → gapped.gapped_width (piece_body members) ≡ width members
width-body Bare free = refl
width-body (Grown node below beside) free = omega (arith, width-body beside free)
width-body (Kept place members beside) free = absurd free

-- contents stay near and far as they may be stored

pub near_tree : (g : Gapped) (t : GappedTree) → AreNear g → AreNear (Grow t.node t.below End) → AreNear (with_last_tree g t)
near_tree End t h last = last
near_tree (Grow node below beside) t h last = (h.0, h.1, near_tree beside t h.2 last)
near_tree (Gap count beside) t h last = near_tree beside t h last

pub far_tree : (g : Gapped) (t : GappedTree) → AreFar g → AreFar (Grow t.node t.below End) → AreFar (with_last_tree g t)
far_tree End t h last = last
far_tree (Grow node below beside) t h last = (h.0, h.1, far_tree beside t h.2 last)
far_tree (Gap count beside) t h last = far_tree beside t h last

pub near_proxy : (g : Gapped) → AreNear g → AreNear (with_proxy g)
near_proxy End h = tt
near_proxy (Grow node below beside) h = (h.0, h.1, near_proxy beside h.2)
near_proxy (Gap count End) h = tt
near_proxy (Gap count (Grow node below beside)) h = (h.0, h.1, near_proxy beside h.2)
near_proxy (Gap count (Gap more beside)) h = near_proxy (Gap more beside) h

pub far_proxy : (g : Gapped) → AreFar g → AreFar (with_proxy g)
far_proxy End h = tt
far_proxy (Grow node below beside) h = (h.0, h.1, far_proxy beside h.2)
far_proxy (Gap count End) h = tt
far_proxy (Gap count (Grow node below beside)) h = (h.0, h.1, far_proxy beside h.2)
far_proxy (Gap count (Gap more beside)) h = far_proxy (Gap more beside) h
