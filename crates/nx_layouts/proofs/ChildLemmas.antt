-- The children of a tree of the record, as a row that may be changed.
use Rattle.std.proofs.Common.{◌≡◌, ℕ, zero, suc, ◌+◌, List, [], ◌∷◌, ◌++◌, map, length, drop, refl, sym, ap, ap₂, ◌∙◌, subst, arith, append_assoc}
use Rattle.std.proofs.lemmas.List.{drop_at, map-append}
use Rattle.nx_piece.specs.declared.piece.Proxy.{Proxy}
use Rattle.nx_piece.specs.PieceNode.{PieceNode}
use Rattle.nx_piece.specs.Gapped.{Gapped, proxies_in}
use Rattle.nx_piece_edits.specs.Setting.{with_tree}
use Rattle.nx_piece.specs.Locate.{PieceChild, Own, Kept as Away, roots_from, children_of}
use Rattle.nx_cuts.specs.Cut.{Bare, Grown, Kept, width}
use Rattle.nx_layouts.specs.Layout.{RecordPlace, LaidNode, Layout, in_record, piece_body, proxies_of, proxy_of, nodes_in}
use Rattle.nx_layouts.specs.Cutting.{layout_at}
use Rattle.nx_layouts.specs.Planting.{moved_child, IsFallOf, ChildrenAreChanged}
use Rattle.nx_layouts.proofs.WithoutLemmas.{stays_parts}
use Rattle.nx_layouts.proofs.PathLemmas.{StandBehind, beside_behind, behind_one, children_kept, tree_led, path_stays}
use Rattle.nx_layouts.proofs.FallLemmas.{row_falls}
use Rattle.nx_layouts.proofs.ChangeLemmas.{below_at, tree_in_row, alone_proxies, alone_places, alone_below, row_changed}

roots_moved : (more index member count : ℕ) → roots_from (more + index) member count ≡ map (λ child. moved_child more child) (roots_from index member count)
roots_moved more index member zero = refl
roots_moved more index member (suc count) = ap (λ (cs : List PieceChild). Away (more + index) member ∷ cs) (roots_moved more index (member + 1) count)

-- the children of a row, with its proxies at another place
children_moved : (all other : List Proxy) (more first : ℕ) (row : Layout) → StandBehind all (more + first) row → StandBehind other first row
    → children_of all (more + first) (piece_body row) ≡ map (λ child. moved_child more child) (children_of other first (piece_body row))
children_moved all other more first Bare h o = refl
children_moved all other more first (Grown n b s) h o =
    let count : ℕ = proxies_in (piece_body b) in
    let same : more + first + count ≡ more + (first + count) = omega arith in
    ap (λ (cs : List PieceChild). Own (record { node = in_record n; below = piece_body b }) (more + first) ∷ cs)
    (ap (λ (i : ℕ). children_of all i (piece_body s)) same
    ∙ children_moved all other more (first + count) s
    (subst (λ (i : ℕ). StandBehind all i s) same (beside_behind b s h.back h.front h.is h.long)) (beside_behind b s o.back o.front o.is o.long))
children_moved all other more first (Kept p m s) h o =
    let same : more + first + 1 ≡ more + (first + 1) = omega arith in
    let proxy : Proxy = proxy_of p (width m) in
    children_kept p m s h
    ∙ ap₂ (λ (xs ys : List PieceChild). xs ++ ys) (roots_moved more first 0 (width m))
    (ap (λ (i : ℕ). children_of all i (piece_body s)) same
    ∙ children_moved all other more (first + 1) s
    (subst (λ (i : ℕ). StandBehind all i s) same (behind_one proxy s h.back h.front h.is h.long)) (behind_one proxy s o.back o.front o.is o.long))
    ∙ sym (map-append (λ child. moved_child more child) (roots_from first 0 (width m)) (children_of other (first + 1) (piece_body s)))
    ∙ ap (λ (cs : List PieceChild). map (λ child. moved_child more child) cs) (sym (children_kept p m s o))

pub children_are_changed : ChildrenAreChanged
children_are_changed k members member path tree first e =
    let t = tree_led members member path tree first e in
    let p = path_stays members member path tree first e in
    let below : Layout = below_at member path members in
    let tree_is = tree_in_row k member path tree members t.stays t.tree_is in
    let node : LaidNode = tree_is.node in
    let parts = stays_parts member path members t.stays in
    let proxies = alone_proxies node below (layout_at member path members) tree_is.at in
    let places = alone_places node below (layout_at member path members) tree_is.at in
    let below_is = alone_below node tree.node below (layout_at member path members) tree.below tree_is.at t.tree_is in
    let were : proxies_of members ≡ parts.front ++ (proxies_of below ++ parts.back) = parts.proxies_were ∙ ap (λ (ps : List Proxy). parts.front ++ (ps ++ parts.back)) proxies in
    let long : length parts.front ≡ first = let f = t.first_is in omega (arith, f) in
    let stand : StandBehind (proxies_of members) first below = record { front = parts.front; back = parts.back; is = were; long = long } in
    let end : first + 0 ≡ first = omega arith in
    record {
      stays = t.stays;
      below = below;
      node = node;
      shown = tree_is.shown_is;
      at = tree_is.at;
      there = tree_is.there;
      below_is = below_is;
      front = parts.front;
      back = parts.back;
      first_is = long;
      proxies_were = were;
      taken = p.taken ∙ proxies;
      children = λ more.
          ap₂ (λ (i : ℕ) (g : Gapped). children_of (proxies_of members) i g) (sym end) (sym below_is)
          ∙ children_moved (proxies_of members) (proxies_of below ++ more) first 0 below
          (subst (λ (i : ℕ). StandBehind (proxies_of members) i below) (sym end) stand) (record { front = []; back = more; is = refl; long = refl });
      rest = ap (λ (ps : List Proxy). drop first ps) were ∙ drop_at parts.front (proxies_of below ++ parts.back) first long;
      falls = λ position.
          subst (λ (g : Gapped). IsFallOf first position below (children_of (proxies_of members) first g)) below_is (row_falls (proxies_of members) first position below stand);
      before = parts.before;
      behind = parts.behind;
      places_were = parts.places_were ∙ ap (λ (ps : List RecordPlace). parts.before ++ (ps ++ parts.behind)) places;
      held_below = tree_is.held;
      light_below = tree_is.light;
      changed = λ change.
          let r = row_changed (λ (n : LaidNode). n) change k member path node members t.stays tree_is.at in
          let c = r.changes in
          record {
            body = λ more. r.body more
                ∙ ap (λ (p : PieceNode). with_tree member path (record { node = p; below = piece_body (change below) }) (piece_body members) (proxies_of members ++ more)) (sym tree_is.shown_is);
            proxies = r.proxies;
            places = r.places;
            changes = record {
              before = c.before ++ node ∷ [];
              behind = c.behind;
              were = c.were ∙ sym (append_assoc c.before (node ∷ []) (nodes_in below ++ c.behind));
              are = c.are ∙ sym (append_assoc c.before (node ∷ []) (nodes_in (change below) ++ c.behind));
            };
            held = λ stock x y. r.held stock (tree_is.read stock x) x y;
            light = r.light;
            free = r.free;
            wide = r.wide;
            weighs = let w = r.weighs in omega (arith, w);
            counted = r.counted;
          };
    }
