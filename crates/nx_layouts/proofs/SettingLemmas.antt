-- Another content of a node in what one record has.
use Rattle.std.proofs.Common.{◌≡◌, ℕ, List, ◌++◌, Option, None, Some, refl, sym, ap, ◌∙◌, arith}
use Rattle.nx_tree.specs.declared.node.Node.{Node}
use Rattle.nx_piece.specs.declared.piece.Proxy.{Proxy}
use Rattle.nx_piece.specs.PieceNode.{PieceNode}
use Rattle.nx_piece.specs.Gapped.{Gapped, GappedTree}
use Rattle.nx_piece_edits.specs.Setting.{with_tree, with_content}
use Rattle.nx_layouts.specs.Layout.{RecordPlace, LaidNode, Layout, shown_with, in_record, laid_forest, piece_body, proxies_of, nodes_in}
use Rattle.nx_layouts.specs.Setting.{with_other, near_part, far_part, ContentIsSet}
use Rattle.nx_layouts.specs.Cutting.{layout_at}
use Rattle.nx_layouts.proofs.WithoutLemmas.{stays_parts}
use Rattle.nx_layouts.proofs.PathLemmas.{tree_led}
use Rattle.nx_layouts.proofs.ChangeLemmas.{below_at, tree_in_row, alone_proxies, alone_places, alone_below, row_changed}

-- an item with another content
set_shown : (content : List ℕ) (list was : Option ℕ) (n : Node) (below : Gapped)
    → ◌≡◌ {A = GappedTree} (record { node = shown_with (record n { content = content }) list; below = below }) (with_content (near_part content list) (far_part content list) (record { node = shown_with n was; below = below }))
set_shown content None None n below = refl
set_shown content None (Some first) n below = refl
set_shown content (Some now) None n below = refl
set_shown content (Some now) (Some first) n below = refl

set_item : (content : List ℕ) (list : Option ℕ) (tree : GappedTree) (node : LaidNode) → tree.node ≡ in_record node
    → ◌≡◌ {A = GappedTree} (record { node = in_record (with_other content list node); below = tree.below }) (with_content (near_part content list) (far_part content list) tree)
set_item content list tree node e =
    set_shown content list node.list node.node tree.below
    ∙ ap (λ (p : PieceNode). with_content (near_part content list) (far_part content list) (record { node = p; below = tree.below })) (sym e)

-- a node with the content that it has
same_content : (content : List ℕ) (node : Node) → content ≡ node.content → record node { content = content } ≡ node
same_content content node e = ap (λ (c : List ℕ). record node { content = c }) e

pub content_is_set : ContentIsSet
content_is_set k members member path content list tree first e =
    let t = tree_led members member path tree first e in
    let other : LaidNode → LaidNode = λ node. with_other content list node in
    let change : Layout → Layout = λ below. below in
    let below : Layout = below_at member path members in
    let tree_is = tree_in_row k member path tree members t.stays t.tree_is in
    let node : LaidNode = tree_is.node in
    let parts = stays_parts member path members t.stays in
    let r = row_changed other change k member path node members t.stays tree_is.at in
    let c = r.changes in
    record {
      stays = t.stays;
      node = node;
      shown = tree_is.shown_is;
      below = laid_forest below;
      there = tree_is.there;
      body = λ more. r.body more
          ∙ ap (λ (g : Gapped). with_tree member path (record { node = in_record (other node); below = g }) (piece_body members) (proxies_of members ++ more)) (alone_below node tree.node below (layout_at member path members) tree.below tree_is.at t.tree_is)
          ∙ ap (λ (new : GappedTree). with_tree member path new (piece_body members) (proxies_of members ++ more)) (set_item content list tree node tree_is.shown_is);
      proxies = r.proxies ∙ ap (λ (ps : List Proxy). parts.front ++ (ps ++ parts.back)) (sym (alone_proxies node below (layout_at member path members) tree_is.at)) ∙ sym parts.proxies_were;
      places = r.places ∙ ap (λ (ps : List RecordPlace). parts.before ++ (ps ++ parts.behind)) (sym (alone_places node below (layout_at member path members) tree_is.at)) ∙ sym parts.places_were;
      changes = record { before = c.before; behind = nodes_in below ++ c.behind; were = c.were; are = c.are };
      held = λ stock read x. r.held stock read x (tree_is.held stock x);
      wide = r.wide;
      free = r.free;
      light = λ x. r.light x (tree_is.light x);
      weighs = let w = r.weighs in omega (arith, w);
      same = λ f. r.drawn (same_content content node.node f) refl;
    }
