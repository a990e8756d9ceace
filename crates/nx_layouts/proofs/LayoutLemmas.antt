-- A laid-out forest is what its records say.
use Rattle.std.proofs.Common.{◌≡◌, ℕ, ◌+◌, ◌≤◌, List, [], ◌∷◌, ◌++◌, length, Option, None, Some, refl, sym, ap, ◌∙◌, arith, length-append}
use Rattle.std.proofs.lemmas.List.{append_cancel_right}
use Rattle.nx_tree.specs.declared.node.Node.{Node}
use Rattle.nx_piece.specs.declared.piece.Proxy.{Proxy}
use Rattle.nx_piece.specs.declared.piece.Piece.{Piece}
use Rattle.nx_piece.specs.PieceNode.{PieceNode}
use Rattle.nx_piece.specs.Gapped.{Gapped, End, Grow, Gap, proxies_in}
use Rattle.nx_cuts.specs.Cut.{Bare, Grown, Kept, CutForest, CutTree, width}
use Rattle.nx_layouts.specs.Layout.{RecordPlace, Layout, Stock, in_record, laid_near, without_places, gap_more, piece_body, proxies_of, piece_of, AreHeld, OneDocument}
use Rattle.nx_layouts.proofs.NodeLemmas.{one_node}

more_proxies : (g : Gapped) → proxies_in (gap_more g) ≡ 1 + proxies_in g
more_proxies End = refl
more_proxies (Grow node below beside) = refl
more_proxies (Gap count beside) = omega arith

pub proxies_counted : (a : Layout) → length (proxies_of a) ≡ proxies_in (piece_body a)
proxies_counted Bare = refl
proxies_counted (Grown node below beside) = omega (arith, length-append (proxies_of below) (proxies_of beside), proxies_counted below, proxies_counted beside)
proxies_counted (Kept place members beside) = omega (arith, more_proxies (piece_body beside), proxies_counted beside)

-- as many first elements, and the same whole
append_front : {A : Type 0} (a b c d : List A) → length a ≡ length b → a ++ c ≡ b ++ d → (a ≡ b) × (c ≡ d)
append_front [] [] c d l e = (refl, e)
append_front [] (y ∷ b) c d l e = absurd (omega arith)
append_front (x ∷ a) [] c d l e = absurd (omega arith)
append_front (x ∷ a) (y ∷ b) c d l e =
    let h : a ++ c ≡ b ++ d = cc in
    let n : length a ≡ length b = omega arith in
    let r = append_front a b c d n h in
    let u = r.0 in let v = r.1 in let w : x ≡ y = cc in
    (cc, v)

-- the first gap, where it stands first, is not empty
abbrev pub IsFull : Gapped → Type 0
IsFull End = Unit {0}
IsFull (Grow node below beside) = Unit {0}
IsFull (Gap count beside) = 1 ≤ count

gap_more_full : (g : Gapped) → IsFull (gap_more g)
gap_more_full End = omega arith
gap_more_full (Grow node below beside) = omega arith
gap_more_full (Gap count beside) = omega arith

body_full : (a : Layout) → IsFull (piece_body a)
body_full Bare = tt
body_full (Grown node below beside) = tt
body_full (Kept place members beside) = gap_more_full (piece_body beside)

gap_less : (g h : Gapped) → IsFull g → IsFull h → gap_more g ≡ gap_more h → g ≡ h
gap_less End End p q e = refl
gap_less End (Grow n b s) p q e = cc
gap_less End (Gap c s) p q e = let w : 1 ≡ c + 1 = cc in absurd (omega arith)
gap_less (Grow n b s) End p q e = cc
gap_less (Grow n b s) (Grow m d t) p q e = cc
gap_less (Grow n b s) (Gap c t) p q e = let w : 1 ≡ c + 1 = cc in absurd (omega arith)
gap_less (Gap c s) End p q e = let w : c + 1 ≡ 1 = cc in absurd (omega arith)
gap_less (Gap c s) (Grow m d t) p q e = let w : c + 1 ≡ 1 = cc in absurd (omega arith)
gap_less (Gap c s) (Gap d t) p q e = let w : c + 1 ≡ d + 1 = cc in let v : c ≡ d = omega arith in cc

pub no_bare : (g : Gapped) → gap_more g ≡ End → ⊥
no_bare End e = cc
no_bare (Grow n b s) e = cc
no_bare (Gap c s) e = cc

pub no_grown : (g b s : Gapped) (n : PieceNode) → gap_more g ≡ Grow n b s → ⊥
no_grown End b s n e = cc
no_grown (Grow m d t) b s n e = cc
no_grown (Gap c t) b s n e = cc

some_one : {A : Type 0} (x y : A) (o : Option A) → o ≡ Some x → o ≡ Some y → x ≡ y
some_one x y o p q = cc

pair_is : (a b c d : ℕ) → a ≡ b → c ≡ d → ◌≡◌ {A = ℕ × ℕ} (a, c) (b, d)
pair_is a b c d e f = cc

same_first : (x y : Proxy) (xs ys : List Proxy) → x ∷ xs ≡ y ∷ ys → x ≡ y
same_first x y xs ys e = cc

abbrev proxy_of : RecordPlace → Layout → Proxy
proxy_of place members = record { page = place.page; slot = place.slot; roots = width members }

-- What one record has, and what the records have that it names, say the whole.
pub one_laid : (stock : Stock) (a b : Layout) → piece_body a ≡ piece_body b → proxies_of a ≡ proxies_of b → AreHeld stock a → AreHeld stock b → a ≡ b
one_laid stock Bare Bare e f p q = refl
one_laid stock Bare (Grown n b s) e f p q = cc
one_laid stock Bare (Kept r m s) e f p q = absurd (no_bare (piece_body s) (sym e))
one_laid stock (Grown n b s) Bare e f p q = cc
one_laid stock (Grown n b s) (Grown m d t) e f p q =
    let eb : piece_body b ≡ piece_body d = cc in let es : piece_body s ≡ piece_body t = cc in let er : in_record n ≡ in_record m = cc in let en : n ≡ m = one_node stock.list_at n m er p.0 q.0 in
    let l : length (proxies_of b) ≡ length (proxies_of d) = proxies_counted b ∙ ap proxies_in eb ∙ sym (proxies_counted d) in
    let h = append_front (proxies_of b) (proxies_of d) (proxies_of s) (proxies_of t) l f in
    let u : b ≡ d = one_laid stock b d eb h.0 p.1 q.1 in
    let v : s ≡ t = one_laid stock s t es h.1 p.2 q.2 in
    cc
one_laid stock (Grown n b s) (Kept r m t) e f p q = absurd (no_grown (piece_body t) (piece_body b) (piece_body s) (in_record n) (sym e))
one_laid stock (Kept r m s) Bare e f p q = absurd (no_bare (piece_body s) e)
one_laid stock (Kept r m s) (Grown n b t) e f p q = absurd (no_grown (piece_body s) (piece_body b) (piece_body t) (in_record n) e)
one_laid stock (Kept r m s) (Kept x k t) e f p q =
    let es : piece_body s ≡ piece_body t = gap_less (piece_body s) (piece_body t) (body_full s) (body_full t) e in
    let fs : proxies_of s ≡ proxies_of t = cc in
    let same = same_first (proxy_of r m) (proxy_of x k) (proxies_of s) (proxies_of t) f in
    let page : r.page ≡ x.page = ap (λ (z : Proxy). z.page) same in
    let slot : r.slot ≡ x.slot = ap (λ (z : Proxy). z.slot) same in
    let here : r ≡ x = ap (λ (w : ℕ × ℕ). let z : RecordPlace = record { page = w.0; slot = w.1 } in z) (pair_is r.page x.page r.slot x.slot page slot) in
    let one : piece_of m ≡ piece_of k = some_one (piece_of m) (piece_of k) (stock.piece_at r) (p.0).there (ap stock.piece_at here ∙ (q.0).there) in
    let u : m ≡ k = one_laid stock m k (ap (λ (z : Piece). z.body.roots) one) (ap (λ (z : Piece). z.proxies) one) p.1 q.1 in
    let v : s ≡ t = one_laid stock s t es fs p.2 q.2 in
    cc

-- the node at the root, and what is below it, of two that one record holds
same_root : (n m : Node) (a b : Layout) → piece_of (Grown (laid_near n) a Bare) ≡ piece_of (Grown (laid_near m) b Bare) → (n ≡ m) × (piece_body a ≡ piece_body b) × (proxies_of a ≡ proxies_of b)
same_root n m a b e =
    let f : Grow (record { node = n; far = None }) (piece_body a) End ≡ Grow (record { node = m; far = None }) (piece_body b) End = ap (λ (z : Piece). z.body.roots) e in
    let g : proxies_of a ++ [] ≡ proxies_of b ++ [] = ap (λ (z : Piece). z.proxies) e in
    let h : record { node = n; far = None } ≡ record { node = m; far = None } = cc in
    (ap (λ (p : PieceNode). p.node) h, cc, append_cancel_right (proxies_of a) (proxies_of b) [] g)

two_below : (a b : Node) (c d : CutForest) → a ≡ b → c ≡ d → ◌≡◌ {A = Node × CutForest} (a, c) (b, d)
two_below a b c d e f = cc

pub one_document : OneDocument
one_document stock root document other a b =
    let e = some_one (piece_of (Grown (laid_near document.node) a.layout Bare)) (piece_of (Grown (laid_near other.node) b.layout Bare)) (stock.piece_at root) (a.laid.held.0).there (b.laid.held.0).there in
    let f = same_root document.node other.node a.layout b.layout e in
    let g : a.layout ≡ b.layout = one_laid stock a.layout b.layout f.1 f.2 a.laid.held.1.1 b.laid.held.1.1 in
    let h : document.below ≡ other.below = sym a.laid.same ∙ ap (λ l. without_places l) g ∙ b.laid.same in
    ap (λ (w : Node × CutForest). let z : CutTree = record { node = w.0; below = w.1 } in z) (two_below document.node other.node document.below other.below f.0 h)
