-- Another node and other children of a tree in what one record has.
use Rattle.std.proofs.Common.{◌≡◌, ℕ, zero, suc, ◌+◌, ◌-◌, List, [], ◌∷◌, ◌++◌, take, drop, Some, refl, sym, ap, ap₂, ◌∙◌, subst, arith, append_assoc, append-nil}
use Rattle.nx_tree.specs.declared.node.Node.{Node}
use Rattle.nx_tree.specs.Forest.{nodes}
use Rattle.nx_weights.specs.Weight.{weight}
use Rattle.nx_piece.specs.PieceNode.{PieceNode}
use Rattle.nx_piece.specs.declared.piece.Proxy.{Proxy}
use Rattle.nx_piece.specs.Gapped.{Gapped, GappedTree, End, Grow, Gap}
use Rattle.nx_piece.specs.Locate.{roots_of}
use Rattle.nx_piece_edits.specs.Setting.{with_tree}
use Rattle.nx_cuts.specs.Cut.{CutForest, Bare, Grown, Kept, width, AreFree}
use Rattle.nx_layouts.specs.Layout.{RecordPlace, LaidNode, Layout, Stock, in_record, without_places, laid_forest, laid_weight, AreLaidParts, gap_more, piece_body, proxies_of, proxy_of, places_of, nodes_in, IsReadIn, AreHeld}
use Rattle.nx_layouts.specs.Nodes.{NodesChange}
use Rattle.nx_layouts.specs.Cutting.{layout_at, StaysIn, member_tree}
use Rattle.nx_layouts.specs.Setting.{layout_changed}
use Rattle.nx_layouts.proofs.NodeLemmas.{change_behind, change_below}
use Rattle.nx_layouts.proofs.WithoutLemmas.{roots_more, take_more, drop_more, minus_both, drop_below, shift_in, stays_parts, nodes_joined}
use Rattle.nx_layouts.proofs.PathLemmas.{member_behind}

-- one proxy more in front
grown_more : (position : ℕ) (path : List ℕ) (new : GappedTree) (n : PieceNode) (b s : Gapped) (proxies : List Proxy) → Gap 1 (with_tree position path new (Grow n b s) proxies) ≡ gap_more (with_tree position path new (Grow n b s) proxies)
grown_more zero [] new n b s proxies = refl
grown_more zero (q ∷ path) new n b s proxies = refl
grown_more (suc position) path new n b s proxies = refl

set_behind : (position : ℕ) (path : List ℕ) (new : GappedTree) (x : Gapped) (proxy : Proxy) (proxies : List Proxy) → with_tree position path new (gap_more x) (proxy ∷ proxies) ≡ gap_more (with_tree (position - proxy.roots) path new x proxies)
set_behind position path new End proxy proxies = refl
set_behind position path new (Grow n b s) proxy proxies =
    ap (λ (r : ℕ). Gap 1 (with_tree (position - r) path new (Grow n b s) proxies)) (roots_more proxy [] ∙ (let e : proxy.roots + 0 ≡ proxy.roots = omega arith in e))
    ∙ grown_more (position - proxy.roots) path new n b s proxies
set_behind position path new (Gap count s) proxy proxies =
    let roots : roots_of (take (count + 1) (proxy ∷ proxies)) ≡ proxy.roots + roots_of (take count proxies) = ap roots_of (take_more count proxy proxies) ∙ roots_more proxy (take count proxies) in
    ap₂ (λ (r : ℕ) (ps : List Proxy). Gap (count + 1) (with_tree (position - r) path new s ps)) roots (drop_more count proxy proxies)
    ∙ ap (λ (r : ℕ). Gap (count + 1) (with_tree r path new s (drop count proxies))) (minus_both position proxy.roots (roots_of (take count proxies)))

-- the first node of a forest with gaps, of a row
abbrev node_in : PieceNode → Gapped → PieceNode
node_in other End = other
node_in other (Grow node below beside) = node
node_in other (Gap count beside) = other

abbrev row_node : LaidNode → Layout → LaidNode
row_node other Bare = other
row_node other (Grown node below beside) = node
row_node other (Kept place members beside) = other

-- the children of the first tree of a row
abbrev pub row_below : Layout → Layout
row_below Bare = Bare
row_below (Grown node below beside) = below
row_below (Kept place members beside) = Bare

-- the children of the tree at a path, as a row
abbrev pub below_at : ℕ → List ℕ → Layout → Layout
below_at position path row = row_below (layout_at position path row)

-- the tree at the path, whose node the record has so, and what is held and light of it
pub record HasTree (k position : ℕ) (path : List ℕ) (shown : PieceNode) (row : Layout) : Type 0 where
  pub node : LaidNode
  pub shown_is : shown ≡ in_record node
  pub at : layout_at position path row ≡ Grown node (below_at position path row) Bare
  pub there : member_tree (laid_forest row) position path ≡ Some (record { node = node.node; below = laid_forest (below_at position path row) })
  pub read : (stock : Stock) → AreHeld stock row → IsReadIn stock.list_at node
  pub held : (stock : Stock) → AreHeld stock row → AreHeld stock (below_at position path row)
  pub light : AreLaidParts k row → AreLaidParts k (below_at position path row)

pub tree_in_row : (k position : ℕ) (path : List ℕ) (tree : GappedTree) (row : Layout) → StaysIn position path row → piece_body (layout_at position path row) ≡ Grow tree.node tree.below End → HasTree k position path tree.node row
tree_in_row k position path tree Bare h e = absurd h
tree_in_row k zero [] tree (Grown n b s) h e = record {
  node = n;
  shown_is = sym (ap (node_in (in_record n)) e);
  at = refl;
  there = refl;
  read = λ stock x. x.0;
  held = λ stock x. x.1;
  light = λ x. x.0;
}
tree_in_row k zero (q ∷ path) tree (Grown n b s) h e =
    let r = tree_in_row k q path tree b h e in
    record { node = r.node; shown_is = r.shown_is; at = r.at; there = r.there; read = λ stock x. r.read stock x.1; held = λ stock x. r.held stock x.1; light = λ x. r.light x.0 }
tree_in_row k (suc position) path tree (Grown n b s) h e =
    let r = tree_in_row k position path tree s h e in
    record { node = r.node; shown_is = r.shown_is; at = r.at; there = r.there; read = λ stock x. r.read stock x.2; held = λ stock x. r.held stock x.2; light = λ x. r.light x.1 }
tree_in_row k position path tree (Kept p m s) h e =
    let r = tree_in_row k (position - width m) path tree s h.1 e in
    record {
      node = r.node;
      shown_is = r.shown_is;
      at = r.at;
      there = member_behind p m s position path h.0 ∙ r.there;
      read = λ stock x. r.read stock x.2;
      held = λ stock x. r.held stock x.2;
      light = λ x. r.light x.4;
    }

-- a tree alone has the proxies and the places that stand below it
pub alone_proxies : (node : LaidNode) (below row : Layout) → row ≡ Grown node below Bare → proxies_of row ≡ proxies_of below
alone_proxies node below row e = ap proxies_of e ∙ append-nil (proxies_of below)

pub alone_places : (node : LaidNode) (below row : Layout) → row ≡ Grown node below Bare → places_of row ≡ places_of below
alone_places node below row e = ap places_of e ∙ append-nil (places_of below)

pub alone_below : (node : LaidNode) (shown : PieceNode) (below row : Layout) (g : Gapped) → row ≡ Grown node below Bare → piece_body row ≡ Grow shown g End → piece_body below ≡ g
alone_below node shown below row g e f = ap below_in (sym (ap piece_body e) ∙ f)
  where
    below_in : Gapped → Gapped
    below_in End = End
    below_in (Grow n b s) = b
    below_in (Gap count s) = End

-- the row with the tree changed
pub record IsChanged (other : LaidNode → LaidNode) (change : Layout → Layout) (k position : ℕ) (path : List ℕ) (node : LaidNode) (row : Layout) (stays : StaysIn position path row) : Type 0 where
  pub body : (more : List Proxy) → piece_body (layout_changed other change position path row)
      ≡ with_tree position path (record { node = in_record (other node); below = piece_body (change (below_at position path row)) }) (piece_body row) (proxies_of row ++ more)
  pub proxies : proxies_of (layout_changed other change position path row)
      ≡ (stays_parts position path row stays).front ++ (proxies_of (change (below_at position path row)) ++ (stays_parts position path row stays).back)
  pub places : places_of (layout_changed other change position path row)
      ≡ (stays_parts position path row stays).before ++ (places_of (change (below_at position path row)) ++ (stays_parts position path row stays).behind)
  pub changes : NodesChange (nodes_in row) (nodes_in (layout_changed other change position path row)) (node ∷ nodes_in (below_at position path row)) (other node ∷ nodes_in (change (below_at position path row)))
  pub held : (stock : Stock) → IsReadIn stock.list_at (other node) → AreHeld stock row → AreHeld stock (change (below_at position path row)) → AreHeld stock (layout_changed other change position path row)
  pub light : AreLaidParts k row → AreLaidParts k (change (below_at position path row)) → AreLaidParts k (layout_changed other change position path row)
  pub free : AreFree row → AreFree (layout_changed other change position path row)
  pub wide : width (layout_changed other change position path row) ≡ width row
  pub weighs : laid_weight (layout_changed other change position path row) + weight node.node + laid_weight (below_at position path row)
      ≡ laid_weight row + weight (other node).node + laid_weight (change (below_at position path row))
  pub counted : nodes (laid_forest (layout_changed other change position path row)) + nodes (laid_forest (below_at position path row)) ≡ nodes (laid_forest row) + nodes (laid_forest (change (below_at position path row)))
  pub drawn : (other node).node ≡ node.node → without_places (change (below_at position path row)) ≡ without_places (below_at position path row) → without_places (layout_changed other change position path row) ≡ without_places row

module _ (other : LaidNode → LaidNode) (change : Layout → Layout) where
  pub row_changed : (k position : ℕ) (path : List ℕ) (node : LaidNode) (row : Layout) (h : StaysIn position path row) → layout_at position path row ≡ Grown node (below_at position path row) Bare
      → IsChanged other change k position path node row h
  row_changed k position path node Bare h e = absurd h
  row_changed k zero [] node (Grown n b s) h e =
      subst (λ (m : LaidNode). IsChanged other change k zero [] m (Grown n b s) h) (ap (row_node n) e)
      (record {
        body = λ more. refl;
        proxies = refl;
        places = refl;
        changes = record { before = []; behind = nodes_in s; were = refl; are = refl };
        held = λ stock r x y. (r, y, x.2);
        light = λ x y. (y, x.1);
        free = λ x. x;
        wide = refl;
        weighs = omega arith;
        counted = omega arith;
        drawn = λ f g. ap₂ (λ (m : Node) (c : CutForest). Grown m c (without_places s)) f g;
      })
  row_changed k zero (q ∷ path) node (Grown n b s) h e =
      let r = row_changed k q path node b h e in
      let c : Layout = change (below_at q path b) in
      let new : GappedTree = record { node = in_record (other node); below = piece_body c } in
      let parts = stays_parts q path b h in
      record {
        body = λ more.
            ap (λ (g : Gapped). Grow (in_record n) g (piece_body s))
            (r.body (proxies_of s ++ more) ∙ ap (λ (ps : List Proxy). with_tree q path new (piece_body b) ps) (sym (append_assoc (proxies_of b) (proxies_of s) more)));
        proxies = ap (λ (ps : List Proxy). ps ++ proxies_of s) r.proxies ∙ shift_in parts.front (proxies_of c) parts.back (proxies_of s);
        places = ap (λ (ps : List RecordPlace). ps ++ places_of s) r.places ∙ shift_in parts.before (places_of c) parts.behind (places_of s);
        changes = change_below r.changes n (nodes_in s);
        held = λ stock o x y. (x.0, r.held stock o x.1 y, x.2);
        light = λ x y. (r.light x.0 y, x.1);
        free = λ x. x;
        wide = refl;
        weighs = let w = r.weighs in omega (arith, w);
        counted = let w = r.counted in omega (arith, w);
        drawn = λ f g. ap (λ (d : CutForest). Grown n.node d (without_places s)) (r.drawn f g);
      }
  row_changed k (suc position) path node (Grown n b s) h e =
      let r = row_changed k position path node s h e in
      let c : Layout = change (below_at position path s) in
      let new : GappedTree = record { node = in_record (other node); below = piece_body c } in
      let parts = stays_parts position path s h in
      record {
        body = λ more.
            ap (λ (g : Gapped). Grow (in_record n) (piece_body b) g)
            (r.body more ∙ ap (λ (ps : List Proxy). with_tree position path new (piece_body s) ps) (sym (drop_below b s more)));
        proxies = ap (λ (ps : List Proxy). proxies_of b ++ ps) r.proxies ∙ sym (append_assoc (proxies_of b) parts.front (proxies_of c ++ parts.back));
        places = ap (λ (ps : List RecordPlace). places_of b ++ ps) r.places ∙ sym (append_assoc (places_of b) parts.before (places_of c ++ parts.behind));
        changes = change_behind r.changes (n ∷ nodes_in b);
        held = λ stock o x y. (x.0, x.1, r.held stock o x.2 y);
        light = λ x y. (x.0, r.light x.1 y);
        free = λ x. r.free x;
        wide = ap (λ (w : ℕ). 1 + w) r.wide;
        weighs = let w = r.weighs in omega (arith, w);
        counted = let w = r.counted in omega (arith, w);
        drawn = λ f g. ap (λ (d : CutForest). Grown n.node (without_places b) d) (r.drawn f g);
      }
  row_changed k position path node (Kept p m s) h e =
      let r = row_changed k (position - width m) path node s h.1 e in
      let c : Layout = change (below_at (position - width m) path s) in
      let new : GappedTree = record { node = in_record (other node); below = piece_body c } in
      let parts = stays_parts (position - width m) path s h.1 in
      record {
        body = λ more. ap gap_more (r.body more) ∙ sym (set_behind position path new (piece_body s) (proxy_of p (width m)) (proxies_of s ++ more));
        proxies = ap (λ (ps : List Proxy). proxy_of p (width m) ∷ ps) r.proxies;
        places = ap (λ (ps : List RecordPlace). p ∷ (places_of m ++ ps)) r.places ∙ ap (λ (ps : List RecordPlace). p ∷ ps) (sym (append_assoc (places_of m) parts.before (places_of c ++ parts.behind)));
        changes = change_behind r.changes (nodes_in m);
        held = λ stock o x y. (x.0, x.1, r.held stock o x.2 y);
        light = λ x y. (x.0, x.1, x.2, x.3, r.light x.4 y);
        free = λ x. absurd x;
        wide = ap (λ (w : ℕ). width m + w) r.wide;
        weighs = r.weighs;
        counted =
            let w = r.counted in
            let i = nodes_joined (laid_forest m) (laid_forest s) in
            let j = nodes_joined (laid_forest m) (laid_forest (layout_changed other change (position - width m) path s)) in
            omega (arith, w, i, j);
        drawn = λ f g. ap (λ (d : CutForest). Kept tt (without_places m) d) (r.drawn f g);
      }
