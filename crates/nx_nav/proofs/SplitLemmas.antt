-- A layout taken apart along the items of a piece.
use Rattle.std.proofs.Common.{◌≡◌, ℕ, ◌+◌, ◌≤◌, List, [], ◌∷◌, ◌++◌, length, take, drop, refl, sym, ap, ◌∙◌, subst, arith, append_assoc}
use Rattle.std.specs.Prelude.{Bool, max}
use Rattle.std.proofs.lemmas.List.{append-nil, length-drop}
use Rattle.std.proofs.lemmas.Grind.{common_steps}
use Rattle.nx_host.specs.declared.disk.Disk.{Ghosts}
use Rattle.nx_records.specs.declared.records.Records.{Records}
use Rattle.nx_tree.specs.Forest.{Forest, Empty, Plant, nodes}
use Rattle.nx_tree.specs.Document.{depth}
use Rattle.nx_piece.specs.declared.piece.Proxy.{Proxy}
use Rattle.nx_piece.specs.PieceNode.{PieceNode}
use Rattle.nx_piece.specs.Gapped.{Gapped, GappedTree, End, Grow, Gap, proxies_in}
use Rattle.nx_piece.specs.Valid.{BeginsNoGap, AreApart}
use Rattle.nx_cuts.specs.Cut.{Bare, Grown, Kept, joined, width}
use Rattle.nx_layouts.specs.Layout.{RecordPlace, Layout, Stock, without_places, laid_forest, laid_weight, in_record, gap_more, piece_body, proxy_of, proxies_of, places_of, AreHeld, AreLaidParts}
use Rattle.nx_layouts.specs.Replace.{joined_layout}
use Rattle.nx_layouts.proofs.LayoutLemmas.{proxies_counted, no_bare, no_grown}
use Rattle.nx_layouts.proofs.ReplaceLemmas.{forest-joined_layout, proxies-joined_layout}
use Rattle.nx_layouts.proofs.ValidLemmas.{body_apart}
use Rattle.nx_hold.specs.Changes.{place_named}
use Rattle.nx_hold.specs.Pieces.{held_by}
use Rattle.nx_nav.specs.Nodes.{CanStand}
use Rattle.nx_nav.specs.Parts.{HasLayout}
use Rattle.nx_nav.specs.Pages.{laid_pages}
use Rattle.nx_nav.specs.Steps.{Begin, Close, begun_steps, laid_steps}
use Rattle.nx_nav.specs.Walk.{AreIntervals, IsIntervalAt, IsTreeOf, AreOf, AreIntervalsOf}
use Rattle.nx_nav.proofs.NodeLemmas.{stands_joined}
use Rattle.nx_nav.proofs.PartLemmas.{layout_of}
use Rattle.nx_nav.proofs.WayLemmas.{IsSplit}

pub nodes-joined : (f g : Forest) → nodes (joined f g) ≡ nodes f + nodes g
nodes-joined Empty g = omega arith
nodes-joined (Plant n b s) g = omega (arith, nodes-joined s g)

pub depth-joined : (f g : Forest) → depth (joined f g) ≡ max (depth f) (depth g)
depth-joined Empty g = omega arith
depth-joined (Plant n b s) g = omega (arith, depth-joined s g)

pub steps-joined_layout : (asked : Bool) (a b : Layout) → laid_steps asked (joined_layout a b) ≡ laid_steps asked a ++ laid_steps asked b
steps-joined_layout asked Bare b = refl
steps-joined_layout asked (Grown n d s) b =
    let first = begun_steps asked n.node in
    let last = Close n.node.kind n.node.name in
    let inner = laid_steps asked d in
    ap (λ xs. first ++ (inner ++ last ∷ xs)) (steps-joined_layout asked s b)
    ∙ ap (λ xs. first ++ xs) (sym (append_assoc inner (last ∷ laid_steps asked s) (laid_steps asked b)))
    ∙ sym (append_assoc first (inner ++ last ∷ laid_steps asked s) (laid_steps asked b))
steps-joined_layout asked (Kept p m s) b =
    let first = Begin (width (without_places m)) (laid_weight m) in
    ap (λ xs. first ∷ (laid_steps asked m ++ xs)) (steps-joined_layout asked s b) ∙ ap (λ xs. first ∷ xs) (sym (append_assoc (laid_steps asked m) (laid_steps asked s) (laid_steps asked b)))

pub places-joined_layout : (a b : Layout) → places_of (joined_layout a b) ≡ places_of a ++ places_of b
places-joined_layout Bare b = refl
places-joined_layout (Grown n d s) b = ap (λ ps. places_of d ++ ps) (places-joined_layout s b) ∙ sym (append_assoc (places_of d) (places_of s) (places_of b))
places-joined_layout (Kept p m s) b = ap (λ ps. p ∷ (places_of m ++ ps)) (places-joined_layout s b) ∙ ap (λ ps. p ∷ ps) (sym (append_assoc (places_of m) (places_of s) (places_of b)))

pub pages-joined_layout : (a b : Layout) → laid_pages (joined_layout a b) ≡ laid_pages a + laid_pages b
pages-joined_layout Bare b = omega arith
pages-joined_layout (Grown n d s) b = let more = pages-joined_layout s b in omega (arith, more)
pages-joined_layout (Kept p m s) b = let more = pages-joined_layout s b in omega (arith, more)

pub joined-empty : (f : Forest) → joined f Empty ≡ f
joined-empty Empty = refl
joined-empty (Plant n b s) = ap (Plant n b) (joined-empty s)

pub held_front : (stock : Stock) (a b : Layout) → AreHeld stock (joined_layout a b) → AreHeld stock a × AreHeld stock b
held_front stock Bare b h = (tt, h)
held_front stock (Grown n d s) b h = let r = held_front stock s b h.2 in ((h.0, h.1, r.0), r.1)
held_front stock (Kept p m s) b h = let r = held_front stock s b h.2 in ((h.0, h.1, r.0), r.1)

pub light_front : (k : ℕ) (a b : Layout) → AreLaidParts k (joined_layout a b) → AreLaidParts k a × AreLaidParts k b
light_front k Bare b h = (tt, h)
light_front k (Grown n d s) b h = let r = light_front k s b h.1 in ((h.0, r.0), r.1)
light_front k (Kept p m s) b h = let r = light_front k s b h.4 in ((h.0, h.1, h.2, h.3, r.0), r.1)

-- the first intervals of a layout, which one gap of its piece stands for
pub record IsRow (count : ℕ) (after : Gapped) (layout : Layout) : Type 0 where
  pub row : Layout
  pub behind : Layout
  pub are : AreIntervals row
  pub counted : length (proxies_of row) ≡ count
  pub whole : layout ≡ joined_layout row behind
  pub rest : after ≡ piece_body behind

row_more : (p : RecordPlace) (m : Layout) {count : ℕ} {after : Gapped} {s : Layout} → IsRow count after s → IsRow (count + 1) after (Kept p m s)
row_more p m h = record {
  row = Kept p m h.row;
  behind = h.behind;
  are = h.are;
  counted = let c = h.counted in omega arith;
  whole = ap (Kept p m) h.whole;
  rest = h.rest;
}

one_row : (p : RecordPlace) (m s : Layout) (after : Gapped) → after ≡ piece_body s → IsRow 1 after (Kept p m s)
one_row p m s after e = record { row = Kept p m Bare; behind = s; are = tt; counted = refl; whole = refl; rest = e }

gap_parts : (c d : ℕ) (x y : Gapped) → Gap c x ≡ Gap d y → (c ≡ d) × (x ≡ y)
gap_parts c d x y e = (cc, cc)

-- the gap is that of the row of intervals in front
row_at : (p : RecordPlace) (m s : Layout) (count : ℕ) (after g : Gapped) → g ≡ piece_body s → Gap count after ≡ gap_more g → BeginsNoGap after → ((c : ℕ) → Gap c after ≡ piece_body s → IsRow c after s) → IsRow count after (Kept p m s)
row_at p m s count after End same is none inner =
    let e = gap_parts count 1 after End is in subst (λ (n : ℕ). IsRow n after (Kept p m s)) (sym e.0) (one_row p m s after (e.1 ∙ same))
row_at p m s count after (Grow n b t) same is none inner =
    let e = gap_parts count 1 after (Grow n b t) is in subst (λ (n : ℕ). IsRow n after (Kept p m s)) (sym e.0) (one_row p m s after (e.1 ∙ same))
row_at p m s count after (Gap c t) same is none inner =
    let e = gap_parts count (c + 1) after t is in
    subst (λ (n : ℕ). IsRow n after (Kept p m s)) (sym e.0) (row_more p m (inner c (ap (Gap c) e.1 ∙ same)))

pub row_of : (count : ℕ) (after : Gapped) (l : Layout) → Gap count after ≡ piece_body l → BeginsNoGap after → IsRow count after l
row_of count after Bare e none = absurd (cc)
row_of count after (Grown n b s) e none = absurd (cc)
row_of count after (Kept p m s) e none = row_at p m s count after (piece_body s) refl e none (λ c f. row_of c after s f none)

grow_parts : (n m : PieceNode) (a b x y : Gapped) → Grow n a x ≡ Grow m b y → (n ≡ m) × (a ≡ b) × (x ≡ y)
grow_parts n m a b x y e = (cc, cc, cc)

cons_parts : (x y : Proxy) (xs ys : List Proxy) → x ∷ xs ≡ y ∷ ys → (x ≡ y) × (xs ≡ ys)
cons_parts x y xs ys e = (cc, cc)

-- what stands before and behind a part of a list
pub drop_part : {A : Type 0} (front back : List A) (n : ℕ) → length front ≡ n → drop n (front ++ back) ≡ back
drop_part front back n e = subst (λ (k : ℕ). drop k (front ++ back) ≡ back) e (there front back)
  where
    there : {A : Type 0} (front back : List A) → drop (length front) (front ++ back) ≡ back
    there [] back = refl
    there (x ∷ front) back = there front back

pub take_part : {A : Type 0} (front back : List A) (n : ℕ) → length front ≡ n → take n (front ++ back) ≡ front
take_part front back n e = subst (λ (k : ℕ). take k (front ++ back) ≡ front) e (there front back)
  where
    there : {A : Type 0} (front back : List A) → take (length front) (front ++ back) ≡ front
    there [] back = refl
    there (x ∷ front) back = ap (λ xs. x ∷ xs) (there front back)

module _ {D : Type 0} {asked : Bool} (d : Ghosts D) (r0 r1 : Records) (x0 x1 : D) (moved : (layout : Layout) → HasLayout d r0 x0 layout → HasLayout d r1 x1 layout) where
  -- a tree before the other items
  pub split_tree : (tree : GappedTree) (items : Gapped) (proxies : List Proxy) (l : Layout) → AreOf d r0 x0 (Grow tree.node tree.below items) proxies l
      → IsSplit asked (IsTreeOf d r0 x0 tree proxies) (AreOf d r1 x1 items (drop (proxies_in tree.below) proxies)) l
  split_tree tree items proxies Bare h = absurd (let e = h.0 in cc)
  split_tree tree items proxies (Kept p m s) h = absurd (no_grown (piece_body s) tree.below items tree.node (sym h.0))
  split_tree tree items proxies (Grown n b s) h =
      let e = grow_parts tree.node (in_record n) tree.below (piece_body b) items (piece_body s) h.0 in
      let more = h.1 in
      let shape : proxies ≡ proxies_of b ++ (proxies_of s ++ more.0) = more.1 ∙ append_assoc (proxies_of b) (proxies_of s) more.0 in
      let long : length (proxies_of b) ≡ proxies_in tree.below = proxies_counted b ∙ ap proxies_in (sym e.1) in
      let has = h.2 in
      record {
        front = Grown n b Bare;
        behind = s;
        first = (n, b, refl, e.0, e.1, (proxies_of s ++ more.0, shape), layout_of has (Grown n b Bare) (has.held.0, has.held.1, tt) (has.light.0, tt));
        next = (e.2, (more.0, ap (drop (proxies_in tree.below)) shape ∙ drop_part (proxies_of b) (proxies_of s ++ more.0) (proxies_in tree.below) long), moved s (layout_of has s has.held.2 has.light.1));
        steps_are =
            ap (λ xs. begun_steps asked n.node ++ xs) (sym (append_assoc (laid_steps asked b) (Close n.node.kind n.node.name ∷ []) (laid_steps asked s)))
            ∙ sym (append_assoc (begun_steps asked n.node) (laid_steps asked b ++ Close n.node.kind n.node.name ∷ []) (laid_steps asked s));
        places_are = ap (λ ps. ps ++ places_of s) (sym (append-nil (places_of b)));
        nodes_are = omega arith;
        front_shallow = omega arith;
        behind_shallow = omega arith;
        stand = λ level stands. stands_joined level (Plant n.node (laid_forest b) Empty) (laid_forest s) stands;
        pages_are = omega arith;
      }

  -- a row of intervals before the other items
  pub split_row : (count : ℕ) (items : Gapped) (proxies : List Proxy) (l : Layout) → AreOf d r0 x0 (Gap count items) proxies l
      → IsSplit asked (AreIntervalsOf d r0 x0 (take count proxies)) (AreOf d r1 x1 items (drop count proxies)) l
  split_row count items proxies l h =
      let apart : AreApart (Gap count items) = subst AreApart (sym h.0) (body_apart l) in
      let row = row_of count items l h.0 apart.1 in
      let more = h.1 in
      let has = h.2 in
      let held = held_front (held_by has.pieces) row.row row.behind (subst (λ x. AreHeld (held_by has.pieces) x) row.whole has.held) in
      let light = light_front (has.now.settings).k row.row row.behind (subst (λ x. AreLaidParts (has.now.settings).k x) row.whole has.light) in
      let shape : proxies ≡ proxies_of row.row ++ (proxies_of row.behind ++ more.0) =
      more.1 ∙ ap (λ xs. xs ++ more.0) (ap proxies_of row.whole ∙ proxies-joined_layout row.row row.behind) ∙ append_assoc (proxies_of row.row) (proxies_of row.behind) more.0 in
      let trees = ap laid_forest row.whole ∙ forest-joined_layout row.row row.behind in
      let n = ap nodes trees ∙ nodes-joined (laid_forest row.row) (laid_forest row.behind) in
      let deep = ap depth trees ∙ depth-joined (laid_forest row.row) (laid_forest row.behind) in
      record {
        front = row.row;
        behind = row.behind;
        first = (row.are, ap (take count) shape ∙ take_part (proxies_of row.row) (proxies_of row.behind ++ more.0) count row.counted, layout_of has row.row held.0 light.0);
        next = (row.rest, (more.0, ap (drop count) shape ∙ drop_part (proxies_of row.row) (proxies_of row.behind ++ more.0) count row.counted), moved row.behind (layout_of has row.behind held.1 light.1));
        steps_are = ap (laid_steps asked) row.whole ∙ steps-joined_layout asked row.row row.behind;
        places_are = ap places_of row.whole ∙ places-joined_layout row.row row.behind;
        nodes_are = n;
        front_shallow = omega (arith, deep);
        behind_shallow = omega (arith, deep);
        stand = λ level stands. stands_joined level (laid_forest row.row) (laid_forest row.behind) (subst (λ (f : Forest). CanStand level f) trees stands);
        pages_are = ap laid_pages row.whole ∙ pages-joined_layout row.row row.behind;
      }

  -- an interval before the others of a row
  pub split_interval : (proxy : Proxy) (proxies : List Proxy) (l : Layout) → AreIntervalsOf d r0 x0 (proxy ∷ proxies) l
      → IsSplit asked (IsIntervalAt d r0 x0 (place_named proxy) proxy.roots) (AreIntervalsOf d r1 x1 proxies) l
  split_interval proxy proxies Bare h = absurd (let e = h.1 in cc)
  split_interval proxy proxies (Grown n b s) h = absurd h.0
  split_interval proxy proxies (Kept p m s) h =
      let parts = cons_parts proxy (proxy_of p (width m)) proxies (proxies_of s) h.1 in
      let named : place_named proxy ≡ p = ap (λ (x : Proxy). place_named x) parts.0 in
      let roots : width m ≡ proxy.roots = ap (λ (x : Proxy). x.roots) (sym parts.0) in
      let has = h.2 in
      let n = nodes-joined (laid_forest m) (laid_forest s) in
      let deep = depth-joined (laid_forest m) (laid_forest s) in
      let alone = nodes-joined (laid_forest m) Empty in
      let alone_deep = depth-joined (laid_forest m) Empty in
      record {
        front = Kept p m Bare;
        behind = s;
        first = (m, ap (λ (x : RecordPlace). Kept x m Bare) (sym named), roots, layout_of has (Kept p m Bare) (has.held.0, has.held.1, tt) (has.light.0, has.light.1, has.light.2, has.light.3, tt));
        next = (h.0, parts.1, moved s (layout_of has s has.held.2 has.light.4));
        steps_are = ap (λ xs. Begin (width (without_places m)) (laid_weight m) ∷ xs) (ap (λ xs. xs ++ laid_steps asked s) (sym (append-nil (laid_steps asked m))));
        places_are = ap (λ ps. p ∷ (ps ++ places_of s)) (sym (append-nil (places_of m)));
        nodes_are = omega (arith, n, alone);
        front_shallow = omega (arith, deep, alone_deep);
        behind_shallow = omega (arith, deep);
        stand = λ level stands.
            let two = stands_joined level (laid_forest m) (laid_forest s) stands in
            (subst (λ (f : Forest). CanStand level f) (sym (joined-empty (laid_forest m))) two.0, two.1);
        pages_are = omega arith;
      }

-- where no proxy is left there is no interval
pub row_ends : {D : Type 0} {d : Ghosts D} {r : Records} {x : D} (asked : Bool) (proxies : List Proxy) (l : Layout) → AreIntervalsOf d r x proxies l → proxies ≡ [] → (laid_steps asked l ≡ []) × (nodes (laid_forest l) ≡ 0) × (places_of l ≡ [])
row_ends asked proxies Bare h e = (refl, refl, refl)
row_ends asked proxies (Grown n b s) h e = absurd h.0
row_ends asked proxies (Kept p m s) h e = absurd (let f = h.1 in cc)

-- where no item is left there is no tree and no interval
pub items_end : {D : Type 0} {d : Ghosts D} {r : Records} {x : D} (asked : Bool) (items : Gapped) (proxies : List Proxy) (l : Layout) → AreOf d r x items proxies l → items ≡ End → (laid_steps asked l ≡ []) × (nodes (laid_forest l) ≡ 0) × (places_of l ≡ [])
items_end asked items proxies Bare h e = (refl, refl, refl)
items_end asked items proxies (Grown n b s) h e = absurd (let f = h.0 in cc)
items_end asked items proxies (Kept p m s) h e = absurd (no_bare (piece_body s) (sym h.0 ∙ e))

-- as many proxies are left as the items that are left need
pub enough_left : (proxies rest : List Proxy) (passed more all : ℕ) → rest ≡ drop passed proxies → passed + more ≡ all → all ≤ length proxies → more ≤ length rest
enough_left proxies rest passed more all e sum fits = let l = length-drop passed proxies in let r = ap length e in omega arith

pub dropped_twice : (proxies rest : List Proxy) (passed more : ℕ) → rest ≡ drop passed proxies → drop more rest ≡ drop (passed + more) proxies
dropped_twice proxies rest passed more e = ap (drop more) e ∙ drop-drop passed more proxies
  where
    drop-drop : (n m : ℕ) (xs : List Proxy) → drop m (drop n xs) ≡ drop (n + m) xs
    drop-drop n m xs = grind (arith, common_steps)
