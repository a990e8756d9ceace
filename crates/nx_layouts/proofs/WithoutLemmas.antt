-- A tree taken out of what one record has.
use Rattle.std.proofs.Common.{append-nil, ◌≡◌, ℕ, zero, suc, ◌+◌, ◌-◌, ◌≤◌, List, [], ◌∷◌, ◌++◌, take, drop, refl, sym, ap, ap₂, ◌∙◌, arith, append_assoc}
use Rattle.std.proofs.lemmas.List.Sums.{sum_by-cons}
use Rattle.std.proofs.Math.Seq.{drop-append_seam}
use Rattle.nx_tree.specs.Forest.{Forest, Empty, Plant, nodes}
use Rattle.nx_piece.specs.declared.piece.Proxy.{Proxy}
use Rattle.nx_piece.specs.Gapped.{Gapped, End, Grow, Gap, proxies_in, with_gap}
use Rattle.nx_piece.specs.Locate.{roots_of}
use Rattle.nx_piece_edits.specs.Cutting.{without_tree}
use Rattle.nx_cuts.specs.Cut.{Bare, Grown, Kept, joined, width, AreFree}
use Rattle.nx_layouts.specs.Layout.{RecordPlace, LaidNode, Layout, Stock, in_record, laid_forest, laid_weight, AreLaidParts, gap_more, piece_body, proxies_of, proxy_of, places_of, nodes_in, AreHeld}
use Rattle.nx_layouts.specs.Cutting.{layout_without, layout_at, StaysIn, IsOutOf, TreeGoesOut}
use Rattle.nx_layouts.proofs.LayoutLemmas.{proxies_counted}
use Rattle.nx_layouts.proofs.NodeLemmas.{change_behind, change_below}

-- Gaps:

pub gap_more_is : (x : Gapped) → gap_more x ≡ with_gap 1 x
gap_more_is End = refl
gap_more_is (Grow n b s) = refl
gap_more_is (Gap count s) = ap (λ (c : ℕ). Gap c s) (let e : count + 1 ≡ 1 + count = omega arith in e)

pub gap_more_with : (count : ℕ) (x : Gapped) → with_gap (count + 1) x ≡ gap_more (with_gap count x)
gap_more_with count End = refl
gap_more_with count (Grow n b s) = refl
gap_more_with count (Gap more s) = ap (λ (c : ℕ). Gap c s) (let e : count + 1 + more ≡ count + more + 1 = omega arith in e)

pub minus_both : (a b c : ℕ) → a - (b + c) ≡ a - b - c
minus_both a b c = omega arith

-- one proxy more
pub roots_more : (proxy : Proxy) (proxies : List Proxy) → roots_of (proxy ∷ proxies) ≡ proxy.roots + roots_of proxies
roots_more proxy proxies = sum_by-cons (λ (p : Proxy). p.roots) proxy proxies

pub take_more : (count : ℕ) (proxy : Proxy) (proxies : List Proxy) → take (count + 1) (proxy ∷ proxies) ≡ proxy ∷ take count proxies
take_more count proxy proxies = let e : count + 1 ≡ suc count = omega arith in ap (λ (n : ℕ). take n (proxy ∷ proxies)) e

pub drop_more : (count : ℕ) (proxy : Proxy) (proxies : List Proxy) → drop (count + 1) (proxy ∷ proxies) ≡ drop count proxies
drop_more count proxy proxies = let e : count + 1 ≡ suc count = omega arith in ap (λ (n : ℕ). drop n (proxy ∷ proxies)) e

-- the proxies that stand beside those below a node
pub drop_below : (b s : Layout) (more : List Proxy) → drop (proxies_in (piece_body b)) ((proxies_of b ++ proxies_of s) ++ more) ≡ proxies_of s ++ more
drop_below b s more =
    ap₂ (λ (n : ℕ) (ps : List Proxy). drop n ps) (sym (proxies_counted b)) (append_assoc (proxies_of b) (proxies_of s) more) ∙ drop-append_seam (proxies_of b) (proxies_of s ++ more)

-- one proxy more in front of the with_gap
cut_behind : (position : ℕ) (path : List ℕ) (x : Gapped) (proxy : Proxy) (proxies : List Proxy) → without_tree position path (gap_more x) (proxy ∷ proxies) ≡ gap_more (without_tree (position - proxy.roots) path x proxies)
cut_behind position path End proxy proxies = sym (gap_more_is End)
cut_behind position path (Grow n b s) proxy proxies =
    ap (λ (r : ℕ). with_gap 1 (without_tree (position - r) path (Grow n b s) proxies)) (roots_more proxy [] ∙ (let e : proxy.roots + 0 ≡ proxy.roots = omega arith in e))
    ∙ sym (gap_more_is (without_tree (position - proxy.roots) path (Grow n b s) proxies))
cut_behind position path (Gap count s) proxy proxies =
    let roots : roots_of (take (count + 1) (proxy ∷ proxies)) ≡ proxy.roots + roots_of (take count proxies) = ap roots_of (take_more count proxy proxies) ∙ roots_more proxy (take count proxies) in
    ap₂ (λ (r : ℕ) (ps : List Proxy). with_gap (count + 1) (without_tree (position - r) path s ps)) roots (drop_more count proxy proxies)
    ∙ ap (λ (r : ℕ). with_gap (count + 1) (without_tree r path s (drop count proxies))) (minus_both position proxy.roots (roots_of (take count proxies)))
    ∙ gap_more_with count (without_tree (position - proxy.roots - roots_of (take count proxies)) path s (drop count proxies))

pub body_without : (position : ℕ) (path : List ℕ) (row : Layout) (more : List Proxy) → StaysIn position path row → piece_body (layout_without position path row) ≡ without_tree position path (piece_body row) (proxies_of row ++ more)
body_without position path Bare more h = absurd h
body_without zero [] (Grown n b s) more h = refl
body_without zero (q ∷ path) (Grown n b s) more h =
    ap (λ (c : Gapped). Grow (in_record n) c (piece_body s))
    (body_without q path b (proxies_of s ++ more) h ∙ ap (λ (ps : List Proxy). without_tree q path (piece_body b) ps) (sym (append_assoc (proxies_of b) (proxies_of s) more)))
body_without (suc position) path (Grown n b s) more h =
    ap (λ (c : Gapped). Grow (in_record n) (piece_body b) c)
    (body_without position path s more h ∙ ap (λ (ps : List Proxy). without_tree position path (piece_body s) ps) (sym (drop_below b s more)))
body_without position path (Kept p m s) more h =
    ap gap_more (body_without (position - width m) path s more h.1) ∙ sym (cut_behind position path (piece_body s) (proxy_of p (width m)) (proxies_of s ++ more))

-- What goes and what is left:

pub shift_in : {A : Type 0} (a b c d : List A) → (a ++ (b ++ c)) ++ d ≡ a ++ (b ++ (c ++ d))
shift_in a b c d = append_assoc a (b ++ c) d ∙ ap (λ x. a ++ x) (append_assoc b c d)

abbrev pub stays_parts : (position : ℕ) (path : List ℕ) (row : Layout) → StaysIn position path row → IsOutOf row (layout_without position path row) (layout_at position path row)
stays_parts position path Bare h = absurd h
stays_parts zero [] (Grown n b s) h = record {
  front = [];
  back = proxies_of s;
  proxies_were = ap (λ (ps : List Proxy). ps ++ proxies_of s) (sym (append-nil (proxies_of b)));
  proxies_are = refl;
  before = [];
  behind = places_of s;
  places_were = ap (λ (ps : List RecordPlace). ps ++ places_of s) (sym (append-nil (places_of b)));
  places_are = refl;
  changes = record { before = []; behind = nodes_in s; were = ap (λ (ns : List LaidNode). n ∷ (ns ++ nodes_in s)) (sym (append-nil (nodes_in b))); are = refl };
}
stays_parts zero (q ∷ path) (Grown n b s) h =
    let r = stays_parts q path b h in
    let t : Layout = layout_at q path b in
    record {
      front = r.front;
      back = r.back ++ proxies_of s;
      proxies_were = ap (λ (ps : List Proxy). ps ++ proxies_of s) r.proxies_were ∙ append_assoc r.front (proxies_of t ++ r.back) (proxies_of s) ∙ ap (λ (ps : List Proxy). r.front ++ ps) (append_assoc (proxies_of t) r.back (proxies_of s));
      proxies_are = ap (λ (ps : List Proxy). ps ++ proxies_of s) r.proxies_are ∙ append_assoc r.front r.back (proxies_of s);
      before = r.before;
      behind = r.behind ++ places_of s;
      places_were = ap (λ (ps : List RecordPlace). ps ++ places_of s) r.places_were ∙ append_assoc r.before (places_of t ++ r.behind) (places_of s) ∙ ap (λ (ps : List RecordPlace). r.before ++ ps) (append_assoc (places_of t) r.behind (places_of s));
      places_are = ap (λ (ps : List RecordPlace). ps ++ places_of s) r.places_are ∙ append_assoc r.before r.behind (places_of s);
      changes = change_below r.changes n (nodes_in s);
    }
stays_parts (suc position) path (Grown n b s) h =
    let r = stays_parts position path s h in
    let t : Layout = layout_at position path s in
    record {
      front = proxies_of b ++ r.front;
      back = r.back;
      proxies_were = ap (λ (ps : List Proxy). proxies_of b ++ ps) r.proxies_were ∙ sym (append_assoc (proxies_of b) r.front (proxies_of t ++ r.back));
      proxies_are = ap (λ (ps : List Proxy). proxies_of b ++ ps) r.proxies_are ∙ sym (append_assoc (proxies_of b) r.front r.back);
      before = places_of b ++ r.before;
      behind = r.behind;
      places_were = ap (λ (ps : List RecordPlace). places_of b ++ ps) r.places_were ∙ sym (append_assoc (places_of b) r.before (places_of t ++ r.behind));
      places_are = ap (λ (ps : List RecordPlace). places_of b ++ ps) r.places_are ∙ sym (append_assoc (places_of b) r.before r.behind);
      changes = change_behind r.changes (n ∷ nodes_in b);
    }
stays_parts position path (Kept p m s) h =
    let r = stays_parts (position - width m) path s h.1 in
    let t : Layout = layout_at (position - width m) path s in
    record {
      front = proxy_of p (width m) ∷ r.front;
      back = r.back;
      proxies_were = ap (λ (ps : List Proxy). proxy_of p (width m) ∷ ps) r.proxies_were;
      proxies_are = ap (λ (ps : List Proxy). proxy_of p (width m) ∷ ps) r.proxies_are;
      before = p ∷ (places_of m ++ r.before);
      behind = r.behind;
      places_were = ap (λ (ps : List RecordPlace). p ∷ (places_of m ++ ps)) r.places_were ∙ ap (λ (ps : List RecordPlace). p ∷ ps) (sym (append_assoc (places_of m) r.before (places_of t ++ r.behind)));
      places_are = ap (λ (ps : List RecordPlace). p ∷ (places_of m ++ ps)) r.places_are ∙ ap (λ (ps : List RecordPlace). p ∷ ps) (sym (append_assoc (places_of m) r.before r.behind));
      changes = change_behind r.changes (nodes_in m);
    }

held_left : (stock : Stock) (position : ℕ) (path : List ℕ) (row : Layout) → AreHeld stock row → StaysIn position path row → AreHeld stock (layout_without position path row) × AreHeld stock (layout_at position path row)
held_left stock position path Bare held h = absurd h
held_left stock zero [] (Grown n b s) held h = (held.2, (held.0, held.1, tt))
held_left stock zero (q ∷ path) (Grown n b s) held h = let r = held_left stock q path b held.1 h in ((held.0, r.0, held.2), r.1)
held_left stock (suc position) path (Grown n b s) held h = let r = held_left stock position path s held.2 h in ((held.0, held.1, r.0), r.1)
held_left stock position path (Kept p m s) held h = let r = held_left stock (position - width m) path s held.2 h.1 in ((held.0, held.1, r.0), r.1)

free_left : (position : ℕ) (path : List ℕ) (row : Layout) → AreFree row → AreFree (layout_without position path row)
free_left position path Bare f = tt
free_left zero [] (Grown n b s) f = f
free_left zero (q ∷ path) (Grown n b s) f = f
free_left (suc position) path (Grown n b s) f = free_left position path s f
free_left position path (Kept p m s) f = absurd f

light_left : (position : ℕ) (path : List ℕ) (row : Layout) → laid_weight (layout_without position path row) ≤ laid_weight row
light_left position path Bare = omega arith
light_left zero [] (Grown n b s) = omega arith
light_left zero (q ∷ path) (Grown n b s) = omega (arith, light_left q path b)
light_left (suc position) path (Grown n b s) = omega (arith, light_left position path s)
light_left position path (Kept p m s) = light_left (position - width m) path s

parts_left : (k position : ℕ) (path : List ℕ) (row : Layout) → AreLaidParts k row → AreLaidParts k (layout_without position path row)
parts_left k position path Bare h = tt
parts_left k zero [] (Grown n b s) h = h.1
parts_left k zero (q ∷ path) (Grown n b s) h = (parts_left k q path b h.0, h.1)
parts_left k (suc position) path (Grown n b s) h = (h.0, parts_left k position path s h.1)
parts_left k position path (Kept p m s) h = (h.0, h.1, h.2, h.3, parts_left k (position - width m) path s h.4)

pub nodes_joined : (a b : Forest) → nodes (joined a b) ≡ nodes a + nodes b
nodes_joined Empty b = omega arith
nodes_joined (Plant n d s) b = let e = nodes_joined s b in omega (arith, e)

nodes_left : (position : ℕ) (path : List ℕ) (row : Layout) → StaysIn position path row → nodes (laid_forest (layout_at position path row)) + nodes (laid_forest (layout_without position path row)) ≡ nodes (laid_forest row)
nodes_left position path Bare h = absurd h
nodes_left zero [] (Grown n b s) h = omega arith
nodes_left zero (q ∷ path) (Grown n b s) h = let e = nodes_left q path b h in omega (arith, e)
nodes_left (suc position) path (Grown n b s) h = let e = nodes_left position path s h in omega (arith, e)
nodes_left position path (Kept p m s) h =
    let e = nodes_left (position - width m) path s h.1 in
    let i = nodes_joined (laid_forest m) (laid_forest s) in
    let j = nodes_joined (laid_forest m) (laid_forest (layout_without (position - width m) path s)) in
    omega (arith, e, i, j)

pub tree_goes_out : TreeGoesOut
tree_goes_out k position path row h = record {
  body = λ more. body_without position path row more h;
  parts = stays_parts position path row h;
  held = λ stock held. held_left stock position path row held h;
  free = free_left position path row;
  less = light_left position path row;
  light = parts_left k position path row;
  counted = nodes_left position path row h;
}
