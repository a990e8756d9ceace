-- A node of an interval's own record gets another content.
use Rattle.std.proofs.Common.{◌≡◌, ℕ, zero, suc, ◌-◌, ◌≤◌, List, [], ◌∷◌, length, Option, None, Some, inl, inr, refl, sym, ap, ◌∙◌, subst, arith, append-nil}
use Rattle.std.specs.Prelude.{Contains, IfSome, true, ◌⊎◌}
use Rattle.std.specs.Option.{option_map_or, option_to_list}
use Rattle.nx_host.specs.declared.disk.Disk.{Ghosts}
use Rattle.nx_tree.specs.Forest.{OrderedTree, nodes}
use Rattle.nx_tree.specs.Document.{most_nodes}
use Rattle.nx_weights.specs.Weight.{weight_of}
use Rattle.nx_holdings.specs.Holdings.{Held}
use Rattle.nx_records.specs.declared.records.Records.{Records}
use Rattle.nx_records.specs.Records.{settings_of}
use Rattle.nx_records.specs.Refusals.{EndNow}
use Rattle.nx_piece.specs.declared.piece.Far.{Far}
use Rattle.nx_piece.specs.declared.piece.Piece.{Piece}
use Rattle.nx_piece.specs.declared.piece.Proxy.{Proxy}
use Rattle.nx_piece.specs.PieceNode.{PieceNode}
use Rattle.nx_piece.specs.Contents.{fars_in}
use Rattle.nx_piece.specs.Gapped.{GappedTree, End, Grow}
use Rattle.nx_piece.specs.Locate.{Inside, reached_in}
use Rattle.nx_piece_edits.specs.Contents.{BringsContent}
use Rattle.nx_piece_edits.specs.Setting.{with_tree, with_content, node_with_content, IsWithContent}
use Rattle.nx_piece_edits.proofs.ContentsLemmas.{edits_bring_content}
use Rattle.nx_matrix.specs.declared.rule.Rule.{Rule}
use Rattle.nx_cuts.specs.Cut.{Bare, Grown, Kept, width}
use Rattle.nx_layouts.specs.Layout.{RecordPlace, LaidNode, Layout, IsReadIn, in_record, laid_forest, laid_weight, piece_body, piece_of, places_of, proxies_of, without_places}
use Rattle.nx_layouts.specs.Cutting.{layout_at, StaysIn}
use Rattle.nx_layouts.specs.Setting.{layout_with, near_part, far_part, with_other, IsSetInRow}
use Rattle.nx_layouts.proofs.DrawnLemmas.{drawn_free, drawn_wide, free_drawn}
use Rattle.nx_layouts.proofs.HeldLemmas.{held_along}
use Rattle.nx_layouts.proofs.NodeLemmas.{items_show_nodes}
use Rattle.nx_layouts.proofs.PathLemmas.{path_stays}
use Rattle.nx_layouts.proofs.SettingLemmas.{content_is_set}
use Rattle.nx_layouts.proofs.WithoutLemmas.{nodes_joined}
use Rattle.nx_hold.specs.Contents.{bytes_pages}
use Rattle.nx_hold.specs.Pieces.{HasContent, IsNoProxies, IsTidy, MayName, PieceMap, held_by}
use Rattle.nx_hold.proofs.MapLemmas.{held_at}
use Rattle.nx_hold.proofs.MoveLemmas.{moves_none}
use Rattle.nx_hold.proofs.PieceLemmas.{no_value, some_same}
use Rattle.nx_hold.proofs.TidyLemmas.{may_name_own}
use Rattle.nx_drawn.specs.Growth.{PartIsAtMost}
use Rattle.nx_drawn.proofs.GrowthLemmas.{nodes_light, width_light}
use Rattle.nx_edit.specs.Rows.{row_nodes, IsHeldInterval}
use Rattle.nx_edit.specs.Changing.{Put, changed_interval, MayBeMade, MayPut, IsPossibleIn, OfChanged}
use Rattle.nx_edit.specs.Changing as put
use Rattle.nx_edit.specs.Grown.{GrowsFrom}
use Rattle.nx_edit.specs.RowPut.{IsTreeAt}
use Rattle.nx_edit.proofs.ChangedLemmas.{content_interval}
use Rattle.nx_edit.proofs.MakingLemmas.{stock_stays}
use Rattle.nx_edit.proofs.OffLemmas.{off_among}
use Rattle.nx_edit.proofs.OffOneLemmas.{IsOffOne, node_in, off_one, one_came, one_pages, one_went}
use Rattle.nx_edit.proofs.PassedLemmas.{piece_same}

-- no node of the part weighs more than k, where the new one doesn't
pub nodes_set : (k position : ℕ) (path content : List ℕ) (list : Option ℕ) (tree : GappedTree) (row : Layout) → StaysIn position path row → piece_body (layout_at position path row) ≡ Grow tree.node tree.below End
    → weight_of (length (tree.node).node.name) (length content) ≤ k → PartIsAtMost k (without_places row) → PartIsAtMost k (without_places (layout_with position path content list row))
nodes_set k position path content list tree Bare h e fits most = absurd h
nodes_set k zero [] content list tree (Grown n b s) h e fits most = (
  subst (λ (name : List ℕ). weight_of (length name) (length content) ≤ k) (sym (sym (items_show_nodes n).name ∙ ap (λ (m : PieceNode). m.node.name) (ap (node_in (in_record n)) e))) fits,
  most.1,
  most.2,
)
nodes_set k zero (q ∷ path) content list tree (Grown n b s) h e fits most = (most.0, nodes_set k q path content list tree b h e fits most.1, most.2)
nodes_set k (suc position) path content list tree (Grown n b s) h e fits most = (most.0, most.1, nodes_set k position path content list tree s h e fits most.2)
nodes_set k position path content list tree (Kept p m s) h e fits most = nodes_set k (position - width m) path content list tree s h.1 e fits most

-- no node comes or goes
pub nodes_stay : (position : ℕ) (path content : List ℕ) (list : Option ℕ) (row : Layout) → StaysIn position path row → nodes (laid_forest (layout_with position path content list row)) ≡ nodes (laid_forest row)
nodes_stay position path content list Bare h = absurd h
nodes_stay zero [] content list (Grown n b s) h = refl
nodes_stay zero (q ∷ path) content list (Grown n b s) h = let e = nodes_stay q path content list b h in omega (arith, e)
nodes_stay (suc position) path content list (Grown n b s) h = let e = nodes_stay position path content list s h in omega (arith, e)
nodes_stay position path content list (Kept p m s) h =
    let e = nodes_stay (position - width m) path content list s h.1 in
    let was = nodes_joined (laid_forest m) (laid_forest s) in
    let now = nodes_joined (laid_forest m) (laid_forest (layout_with (position - width m) path content list s)) in
    omega (arith, e, was, now)

-- the list of a content that is put may be named
pub far_there : (content : List ℕ) (list : Option ℕ) (held : Held) (position : ℕ) (far : Far) → MayPut held (put.Content content list) → far_part content list ≡ Some far → HasContent held far × IsNoProxies held far.first
far_there content None held position far may e = absurd (no_value (sym e))
far_there content (Some first) held position far may e =
    subst (λ (f : Far). HasContent held f × IsNoProxies held f.first) (some_same e) (let m = may first refl in ((content, m.0, refl), m.1))

module _ (rules : List Rule) (piece changed : Piece) (place : RecordPlace) (position : ℕ) (path content : List ℕ) (list : Option ℕ) (s : IsWithContent piece position path (near_part content list) (far_part content list) changed)
    (short : option_map_or (λ first. 0) list (bytes_pages content) ≡ 0) where
  module _ {now : Held} (pieces : PieceMap now) (members : Layout) (i : IsHeldInterval now pieces (Some piece) place position path most_nodes members) where
    abbrev k : ℕ
    k = (now.settings).k

    is : piece ≡ piece_of members
    is = i.is

    abbrev new : Layout
    new = layout_with position path content list members

    leads : reached_in (piece_of members) position path ≡ Inside s.tree s.first
    leads = ap (λ (p : Piece). reached_in p position path) (sym is) ∙ s.leads

    tree_is : piece_body (layout_at position path members) ≡ Grow (s.tree).node (s.tree).below End
    tree_is = (path_stays members position path s.tree s.first leads).tree_is

    set : IsSetInRow k position path content list s.tree members
    set = content_is_set k members position path content list s.tree s.first leads

    abbrev name : List ℕ
    name = ((s.tree).node).node.name

    same_name : name ≡ (set.node).node.name
    same_name = ap (λ (n : PieceNode). n.node.name) set.shown ∙ (items_show_nodes set.node).name

    -- where the change may be made, the node doesn't outweigh k with the content
    pub fits : IsPossibleIn k rules (put.Content content list) position path members → weight_of (length name) (length content) ≤ k
    fits possible =
        subst (λ (own : List ℕ). weight_of (length own) (length content) ≤ k) (sym same_name)
        (subst (λ (t : Option OrderedTree). IfSome t (λ there. MayBeMade k (put.Content content list) there)) set.there possible.made)

    new_is : piece_of new ≡ changed
    new_is =
        piece_same (piece_of new) changed
        (set.body [] ∙ ap (λ (ps : List Proxy). with_tree position path (with_content (near_part content list) (far_part content list) s.tree) (piece_body members) ps) (append-nil (proxies_of members))
        ∙ ap (λ (p : Piece). with_tree position path (with_content (near_part content list) (far_part content list) s.tree) p.body.roots p.proxies) (sym is) ∙ sym s.body)
        (set.proxies ∙ ap (λ (p : Piece). p.proxies) (sym is) ∙ sym s.proxies)

    interval_is : Kept tt (without_places new) Bare ≡ changed_interval rules (put.Content content list) position path members
    interval_is = content_interval content list position path place members set.stays

    -- how many nodes it has
    same_nodes : row_nodes (without_places new) ≡ row_nodes (without_places members)
    same_nodes = nodes_stay position path content list members set.stays

    one : IsOffOne position path content list s.tree members
    one = off_one position path content list s.tree members set.stays tree_is

    old_may : IsTidy now → MayName now piece.body.roots
    old_may tidy = subst (λ (p : Piece). MayName now p.body.roots) (sym is) (may_name_own now place (piece_of members) tidy (held_at now pieces place (piece_of members) ((i.held).0).there))

    brings : BringsContent (node_with_content (near_part content list) (far_part content list) (s.tree).node) piece.body.roots changed.body.roots
    brings = edits_bring_content.content_set piece position path (near_part content list) (far_part content list) changed s

    new_may : IsTidy now → MayPut now (put.Content content list) → MayName now changed.body.roots
    new_may tidy may far among = by_case (brings.fars far among)
      where
        by_case : (far_part content list ≡ Some far) ⊎ Contains (fars_in piece.body.roots) far → HasContent now far × IsNoProxies now far.first
        by_case (inl own) = far_there content list now position far may own
        by_case (inr old) = old_may tidy far old

    read : MayPut now (put.Content content list) → (n : LaidNode) → IsReadIn now.lists (with_other content list n)
    read may n first e = (may first e).0

    -- the record's piece grew so, and nothing below it moved
    pub set_grows : IsTidy now → MayPut now (put.Content content list) → IsPossibleIn k rules (put.Content content list) position path members
        → GrowsFrom rules (put.Content content list) position path members changed (option_to_list ((s.tree).node).far) now now
    set_grows tidy may possible =
        let most = fits possible in
        let light : laid_weight members ≤ k = (i.light).2 in
        let wide = set.wide in
        let drawn = drawn_wide new in
        let was_drawn = drawn_wide members in
        let weighs = set.weighs in
        let some : 1 ≤ width (without_places members) = (i.light).0 in
        let few = width_light (without_places members) (i.light).1 in
        let same = ap (λ (own : List ℕ). weight_of (length own) (length content)) same_name in
        record {
          before = [];
          gone = [];
          come = [];
          behind = places_of members;
          needs = 0;
          grown = new;
          is = new_is;
          places_were = refl;
          places_are = set.places;
          brought = [];
          moves = moves_none now;
          pages = 0;
          few = omega arith;
          rest = let pages = one_pages one short in omega (arith, pages);
          once = tt;
          brought_once = tt;
          contents_went = one_went one;
          contents_came = one_came one;
          held = λ after. set.held (held_by after) (read may set.node) (held_along (held_by pieces) (held_by after) members (stock_stays (moves_none now) pieces after) (i.held).1);
          may = new_may tidy may;
          heavy = record {
            some = omega (arith, some, wide, drawn, was_drawn);
            few = omega (arith, few, wide, drawn, was_drawn, light);
            free = free_drawn new (set.free (drawn_free members (i.light).1));
            light = omega (arith, weighs, light, most, same);
            nodes = nodes_set k position path content list s.tree members set.stays tree_is most (nodes_light k (without_places members) light);
            parts = set.light (i.light).3;
          };
          interval_is = interval_is;
          off = λ other among. inl (off_among true (position ∷ path) members other among);
        }

-- where the node outweighs k, the change may be made nowhere
module _ (piece : Piece) (position : ℕ) (path content : List ℕ) (list : Option ℕ) (tree : GappedTree) (at : IsTreeAt piece position path tree) where
  pub too_heavy : {D : Type 0} (d : Ghosts D) (rules : List Rule) (place : RecordPlace) (r0 r1 : Records) (x0 : D) → (weight_of (length (tree.node).node.name) (length content) ≤ (settings_of r0).k → ⊥) → EndNow r0 r1
      → EndNow r0 r1 × OfChanged d r0 x0 rules (Some piece) (put.Content content list) place position path (λ now members. ⊥)
  too_heavy d rules place r0 r1 x0 not ends = (
    ends,
    λ saved now pieces members stands tidy i possible may.
        let leads : reached_in (piece_of members) position path ≡ Inside tree at.0 = ap (λ (p : Piece). reached_in p position path) (sym i.is) ∙ at.1 in
        let set = content_is_set (now.settings).k members position path content list tree at.0 leads in
        let light : weight_of (length (set.node).node.name) (length content) ≤ (now.settings).k =
        subst (λ (t : Option OrderedTree). IfSome t (λ there. MayBeMade (now.settings).k (put.Content content list) there)) set.there possible.made in
        let same : (tree.node).node.name ≡ (set.node).node.name = ap (λ (n : PieceNode). n.node.name) set.shown ∙ (items_show_nodes set.node).name in
        not
        (subst (λ (k : ℕ). weight_of (length (tree.node).node.name) (length content) ≤ k) (ap (λ s. s.k) ((stands.holds).behind).settings)
        (subst (λ (own : List ℕ). weight_of (length own) (length content) ≤ (now.settings).k) (sym same) light)),
  )
