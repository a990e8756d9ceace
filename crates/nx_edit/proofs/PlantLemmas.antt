-- A node planted between the children of a node of a record's own: what its interval has then.
use Rattle.std.proofs.Common.{◌≡◌, ℕ, ◌+◌, ◌≤◌, List, [], ◌∷◌, ◌++◌, length, take, drop, Option, None, Some, inl, inr, ◌⊎◌, refl, sym, ap, ap₂, ◌∙◌, subst, arith, append-nil, append_assoc, IsPermutation}
use Rattle.std.specs.Prelude.{◌≢◌, Contains, true}
use Rattle.std.proofs.Math.Seq.{take-append-add, drop-append-add}
use Rattle.std.proofs.lemmas.List.{take-append-le, drop-append-le}
use Rattle.std.specs.List.{sum_by}
use Rattle.std.specs.Option.{option_map_or, option_to_list}
use Rattle.std.proofs.lemmas.List.Sums.{sum_by-append, sum_by-cons}
use Rattle.std.proofs.lemmas.List.Sorted.{IsPermutation-refl}
use Rattle.nx_tree.specs.Document.{most_nodes}
use Rattle.nx_tree.specs.declared.node.Node.{Node}
use Rattle.nx_weights.specs.Weight.{weight}
use Rattle.nx_piece_edits.specs.Contents.{BringsContent}
use Rattle.nx_holdings.specs.declared.header.Settings.{Settings}
use Rattle.nx_holdings.specs.Holdings.{Held}
use Rattle.nx_piece.specs.declared.piece.Far.{Far}
use Rattle.nx_piece.specs.declared.piece.Piece.{Piece}
use Rattle.nx_piece.specs.PieceNode.{PieceNode, item_slots}
use Rattle.nx_piece.specs.Contents.{fars_in}
use Rattle.nx_piece_edits.proofs.ContentsLemmas.{edits_bring_content, edits_keep_contents}
use Rattle.nx_matrix.specs.Label.{label}
use Rattle.nx_matrix.specs.Rules.{entry_of}
use Rattle.nx_piece.specs.declared.piece.Proxy.{Proxy}
use Rattle.nx_piece.specs.Gapped.{Gapped, GappedTree, End, Grow, gapped_width, with_gap}
use Rattle.nx_piece.specs.Locate.{Reached, Inside, Outside, Missing, reached_in}
use Rattle.nx_piece_edits.specs.Planting.{put_at, passed_at, IsWithNode, IsWithProxyAt}
use Rattle.nx_piece_edits.specs.Setting.{with_tree}
use Rattle.nx_matrix.specs.declared.rule.Entry.{Entry}
use Rattle.nx_matrix.specs.declared.rule.Entry.TheVariants.{Standalone}
use Rattle.nx_matrix.specs.declared.rule.Rule.{Rule}
use Rattle.nx_cuts.specs.Cut.{Bare, Grown, Kept, width}
use Rattle.nx_split.specs.Piece.{asked}
use Rattle.nx_layouts.specs.Layout.{RecordPlace, LaidNode, Layout, AreHeld, AreLaidParts, IsHeldAt, in_record, laid_weight, shown_with, lists_of, nodes_in, piece_body, piece_of, places_of, proxies_of, proxy_of, without_places}
use Rattle.nx_layouts.specs.Nodes.{NodesChange}
use Rattle.nx_layouts.proofs.DrawnLemmas.{drawn_free, drawn_wide, free_drawn}
use Rattle.nx_layouts.proofs.NodeLemmas.{lists-append}
use Rattle.nx_layouts.specs.Planting.{FallsBetween, proxies_before, with_node, with_interval, changed_below, HasChildren, IsChangedBelow, NodeGoesIn, IntervalGoesIn}
use Rattle.nx_layouts.proofs.ChildLemmas.{children_are_changed}
use Rattle.nx_layouts.proofs.PlantLemmas.{node_is_planted, interval_is_planted}
use Rattle.nx_layouts.proofs.PlaceLemmas.{no_place}
use Rattle.nx_layouts.proofs.HeldLemmas.{held_along}
use Rattle.nx_hold.specs.Changes.{place_named, piece_needs, AddsPiece}
use Rattle.nx_hold.specs.Documents.{MovesRecords}
use Rattle.nx_hold.specs.Contents.{content_pages, near_pages}
use Rattle.nx_hold.specs.Pieces.{HasContent, HoldsPiece, IsNoProxies, IsTidy, MayName, PieceMap, held_by}
use Rattle.nx_hold.proofs.PieceLemmas.{no_value, some_same}
use Rattle.nx_hold.proofs.TidyLemmas.{may_name_own}
use Rattle.nx_hold.proofs.MapLemmas.{held_at, told_some}
use Rattle.nx_hold.proofs.MoveLemmas.{moves_none, may_name_still, piece_adds_record, pieces_stay_beside}
use Rattle.nx_hold.proofs.RecordsLemmas.{none_named}
use Rattle.nx_drawn.specs.Edits.{placed_beside, planted_row}
use Rattle.nx_drawn.specs.Growth.{PartIsAtMost, MayBeHeavy}
use Rattle.nx_drawn.proofs.GrowthLemmas.{nodes_light, width_light}
use Rattle.nx_edit.specs.Changing as put
use Rattle.nx_edit.specs.Changing.{MayPut, changed_interval}
use Rattle.nx_edit.specs.Removing.{fars_of}
use Rattle.nx_edit.specs.Grown.{GrowsFrom}
use Rattle.nx_edit.specs.Planting.{IsBetweenChildren, IsAskedThere}
use Rattle.nx_edit.specs.Rows.{row_nodes, IsHeldInterval}
use Rattle.nx_edit.proofs.BetweenLemmas.{joins_beside, planted_between, interval_planted, most_put, most_below, passed_in_row}
use Rattle.nx_edit.proofs.CountLemmas.{piece_few, proxies_few}
use Rattle.nx_edit.proofs.OffLemmas.{off_among}
use Rattle.nx_edit.proofs.ChangeCalls.{same_label}
use Rattle.nx_edit.proofs.FarLemmas.{near-append}
use Rattle.nx_edit.proofs.MakingLemmas.{stock_stays}
use Rattle.nx_edit.proofs.OrderLemmas.{lists_by_sums}
use Rattle.nx_edit.proofs.PassedLemmas.{piece_same}

-- the forest of a piece with something put below the tree that a path led to
abbrev body_with : (set : Gapped → Gapped) → (member : ℕ) (path : List ℕ) (position : ℕ) → Piece → Reached → Gapped
body_with set member path position piece (Inside tree first) = with_tree member path (record { node = tree.node; below = put_at set position tree.below (drop first piece.proxies) }) piece.body.roots piece.proxies
body_with set member path position piece (Outside index root used) = piece.body.roots
body_with set member path position piece Missing = piece.body.roots

-- what is put between some of a list's, with more around
between_inner : {A : Type 0} (front below back : List A) (x : A) (i : ℕ) → i ≤ length below
    → take (length front + i) (front ++ (below ++ back)) ++ (x ∷ drop (length front + i) (front ++ (below ++ back))) ≡ front ++ ((take i below ++ (x ∷ drop i below)) ++ back)
between_inner front below back x i most =
    ap₂ (λ ys zs. ys ++ (x ∷ zs)) (take-append-add front (below ++ back) i) (drop-append-add front (below ++ back) i)
    ∙ ap₂ (λ ys zs. (front ++ ys) ++ (x ∷ zs)) (take-append-le i below back most) (drop-append-le i below back most)
    ∙ append_assoc front (take i below) (x ∷ (drop i below ++ back))
    ∙ ap (λ ys. front ++ ys) (sym (append_assoc (take i below) (x ∷ drop i below) back))

inner_places : (a b m c d : List RecordPlace) → a ++ ((b ++ (m ++ c)) ++ d) ≡ (a ++ b) ++ (m ++ (c ++ d))
inner_places a b m c d = ap (λ ys. a ++ ys) (append_assoc b (m ++ c) d ∙ ap (λ ys. b ++ ys) (append_assoc m c d)) ∙ sym (append_assoc a b (m ++ (c ++ d)))

-- The nodes of a row are the same but that one came, whose content is far or not too long for its item.
module _ (was now : List LaidNode) (node : LaidNode) (low low_now : List LaidNode) (all : NodesChange was now low low_now) (own : NodesChange low low_now [] (node ∷ [])) where
  pub one_more_list : IsPermutation (lists_of now) (lists_of was ++ (option_to_list node.list ++ []))
  one_more_list = lists_by_sums (lists_of now) (lists_of was ++ (option_to_list node.list ++ []))
      (λ f.
      let a = ap (λ (ns : List LaidNode). sum_by f (lists_of ns)) all.are ∙ ap (sum_by f) (lists-append all.before (low_now ++ all.behind) ∙ ap (λ (l : List ℕ). lists_of all.before ++ l) (lists-append low_now all.behind)) in
      let b = ap (λ (ns : List LaidNode). sum_by f (lists_of ns)) all.were ∙ ap (sum_by f) (lists-append all.before (low ++ all.behind) ∙ ap (λ (l : List ℕ). lists_of all.before ++ l) (lists-append low all.behind)) in
      let a1 = sum_by-append f (lists_of all.before) (lists_of low_now ++ lists_of all.behind) in
      let a2 = sum_by-append f (lists_of low_now) (lists_of all.behind) in
      let b1 = sum_by-append f (lists_of all.before) (lists_of low ++ lists_of all.behind) in
      let b2 = sum_by-append f (lists_of low) (lists_of all.behind) in
      let c = ap (λ (ns : List LaidNode). sum_by f (lists_of ns)) own.are ∙ ap (sum_by f) (lists-append own.before (node ∷ own.behind)) in
      let e = ap (λ (ns : List LaidNode). sum_by f (lists_of ns)) own.were ∙ ap (sum_by f) (lists-append own.before own.behind) in
      let c1 = sum_by-append f (lists_of own.before) (option_to_list node.list ++ lists_of own.behind) in
      let c2 = sum_by-append f (option_to_list node.list) (lists_of own.behind) in
      let e1 = sum_by-append f (lists_of own.before) (lists_of own.behind) in
      let g = sum_by-append f (lists_of was) (option_to_list node.list ++ []) in
      let h = sum_by-append f (option_to_list node.list) [] in
      omega (arith, a, b, a1, a2, b1, b2, c, e, c1, c2, e1, g, h))

  pub no_more_pages : option_map_or (λ first. 0) node.list (content_pages node.node) ≡ 0 → near_pages now ≤ near_pages was
  no_more_pages none =
      let a = ap near_pages all.are ∙ near-append all.before (low_now ++ all.behind) in
      let a1 = near-append low_now all.behind in
      let b = ap near_pages all.were ∙ near-append all.before (low ++ all.behind) in
      let b1 = near-append low all.behind in
      let c = ap near_pages own.are ∙ near-append own.before (node ∷ own.behind) in
      let e = ap near_pages own.were ∙ near-append own.before own.behind in
      let h = sum_by-cons (λ (n : LaidNode). option_map_or (λ first. 0) n.list (content_pages n.node)) node own.behind in
      omega (arith, a, a1, b, b1, c, e, h, none)

-- the list of a node that is put may be named
pub node_there : (position : ℕ) (node : Node) (list : Option ℕ) (held : Held) (far : Far) → MayPut held (put.Child position (record { node = node; list = list })) → (shown_with node list).far ≡ Some far → HasContent held far × IsNoProxies held far.first
node_there position node None held far may e = absurd (no_value (sym e))
node_there position node (Some first) held far may e = subst (λ (f : Far). HasContent held f × IsNoProxies held f.first) (some_same e) (let m = may first refl in ((node.content, m.0, refl), m.1))

module _ (rules : List Rule) (node : LaidNode) (member : ℕ) (path : List ℕ) (position index : ℕ) (entry : Entry) {was : Held} (pieces : PieceMap was) (place : RecordPlace) (members : Layout) (i : IsHeldInterval was pieces (Some (piece_of members)) place member path most_nodes members)
    (w : IsBetweenChildren (piece_of members) member path position index) (fits : weight node.node ≤ (was.settings).k) (asks : IsAskedThere rules (piece_of members) member path node.node entry)
    (short : option_map_or (λ first. 0) node.list (content_pages node.node) ≡ 0) where
  abbrev k : ℕ
  k = (was.settings).k

  abbrev set_body : (Gapped → Gapped) → Reached → Gapped
  set_body set end = body_with set member path position (piece_of members) end

  has : HasChildren k member path w.tree w.first members
  has = children_are_changed k members member path w.tree w.first w.leads

  abbrev below : Layout
  below = has.below

  falls : FallsBetween position below
  falls = (has.falls position).between (w.falls).within (w.falls).apart

  parts : AreLaidParts k below
  parts = has.light_below (i.light).3

  light : laid_weight members ≤ k
  light = (i.light).2

  asked_is : asked rules (has.node).node node.node ≡ entry
  asked_is =
      ap (λ (l : List ℕ). entry_of rules l (label node.node)) (sym (ap (λ (n : PieceNode). label n.node) has.shown ∙ same_label (has.node).node (has.node).list)) ∙ asks w.tree w.first w.leads

  -- the children with what is put, and the interval's members with them
  module _ (change : Layout → Layout) where
    c : IsChangedBelow k member path w.tree change members below has.front has.back has.before has.behind
    c = has.changed change

    abbrev grown : Layout
    grown = changed_below change member path members

    grown_heavy : AreLaidParts k (change below) → laid_weight (change below) ≤ laid_weight below + weight node.node → ((row : Layout) → PartIsAtMost k (without_places row) → PartIsAtMost k (without_places (change row)))
        → MayBeHeavy k (k + k) (k + 1) (without_places grown)
    grown_heavy parts_there more keeps =
        let some : 1 ≤ width (without_places members) = (i.light).0 in
        let few = width_light (without_places members) (i.light).1 in
        let wide = c.wide in
        let drawn = drawn_wide grown in
        let was_drawn = drawn_wide members in
        let weighs = c.weighs in
        let l = light in
        let fit : weight node.node ≤ k = fits in
        record {
          some = omega (arith, some, wide, drawn, was_drawn);
          few = omega (arith, few, wide, drawn, was_drawn, l);
          free = free_drawn grown (c.free (drawn_free members (i.light).1));
          light = omega (arith, weighs, more, l, fit);
          nodes = most_below k change keeps member path members (nodes_light k (without_places members) l);
          parts = c.light (i.light).3 parts_there;
        }

    grown_interval : without_places (change below) ≡ planted_row tt tt entry node.node position (without_places below) → Kept tt (without_places grown) Bare ≡ changed_interval rules (put.Child position node) member path members
    grown_interval same =
        interval_planted rules node.node position change has.node below
        (subst (λ (e : Entry). without_places (change below) ≡ planted_row tt tt e node.node position (without_places below)) (sym asked_is) same) member path members has.stays has.at

    module _ (set : Gapped → Gapped) (body : piece_body (change below) ≡ put_at set position (piece_body below) (proxies_of below ++ has.back)) (planted : Piece) (tree : GappedTree) (first : ℕ) (leads : reached_in (piece_of members) member path ≡ Inside tree first)
        (planted_body : planted.body.roots ≡ set_body set (Inside tree first)) (planted_proxies : planted.proxies ≡ has.front ++ (proxies_of (change below) ++ has.back)) where
      grown_body : piece_body grown ≡ planted.body.roots
      grown_body =
          c.body []
          ∙ ap (λ (ps : List Proxy). with_tree member path (record { node = (w.tree).node; below = piece_body (change below) }) (piece_body members) ps) (append-nil (proxies_of members))
          ∙ ap (λ (g : Gapped). with_tree member path (record { node = (w.tree).node; below = g }) (piece_body members) (proxies_of members))
          (body ∙ ap₂ (λ (g : Gapped) (ps : List Proxy). put_at set position g ps) has.below_is (sym has.rest))
          ∙ ap (set_body set) (sym w.leads ∙ leads)
          ∙ sym planted_body

      grown_is : piece_of grown ≡ planted
      grown_is = piece_same (piece_of grown) planted grown_body (c.proxies ∙ sym planted_proxies)

  -- the members are held in any map of what was there
  all_held : (after : PieceMap was) → AreHeld (held_by after) members
  all_held after = held_along (held_by pieces) (held_by after) members (stock_stays (moves_none was) pieces after) (i.held).1

  old_may : IsTidy was → MayName was (piece_body members)
  old_may tidy = may_name_own was place (piece_of members) tidy (held_at was pieces place (piece_of members) ((i.held).0).there)

  -- A node that joins its parent's part:

  pub node_grows : IsTidy was → MayPut was (put.Child position node) → (planted : Piece) → IsWithNode (piece_of members) member path position (in_record node) planted → entry ≢ Standalone
      → GrowsFrom rules (put.Child position node) member path members planted [] was was
  node_grows tidy may planted p joins =
      let goes : NodeGoesIn k node position below = node_is_planted k node position below falls in
      let change : Layout → Layout = λ row. with_node node position row in
      let set : Gapped → Gapped = λ f. Grow (in_record node) End f in
      let body = goes.body parts has.back in
      let proxies = p.proxies ∙ has.proxies_were ∙ ap (λ (ps : List Proxy). has.front ++ (ps ++ has.back)) (sym goes.proxies) in
      let same : places_of (grown change) ≡ places_of members = (c change).places ∙ ap (λ (ps : List RecordPlace). has.before ++ (ps ++ has.behind)) goes.places ∙ sym has.places_were in
      let pages = no_more_pages (nodes_in members) (nodes_in (grown change)) node (nodes_in below) (nodes_in (change below)) (c change).changes goes.changes short in
      record {
        before = [];
        gone = [];
        come = [];
        behind = places_of members;
        needs = 0;
        grown = grown change;
        is = grown_is change set body planted p.tree p.first p.leads p.body proxies;
        places_were = refl;
        places_are = same;
        brought = [];
        moves = moves_none was;
        pages = 0;
        few = omega arith;
        rest = omega (arith, pages);
        once = tt;
        brought_once = tt;
        contents_went = subst (λ (fs : List Far). IsPermutation fs (fars_of (nodes_in members))) (sym (append-nil (fars_of (nodes_in members)))) (IsPermutation-refl (fars_of (nodes_in members)));
        contents_came = one_more_list (nodes_in members) (nodes_in (grown change)) node (nodes_in below) (nodes_in (change below)) (c change).changes goes.changes;
        held = λ after. let h = all_held after in (c change).held (held_by after) h (goes.held (held_by after) (λ first e. (may first e).0) (has.held_below (held_by after) h));
        may = new_may;
        heavy = grown_heavy change (goes.light parts) (let e = goes.weighs in omega (arith, e)) (λ row most. most_put k (λ r. Grown node Bare r) (λ r h. (fits, tt, h)) position row most);
        interval_is = grown_interval change (planted_between entry node.node (λ r. Grown node Bare r) (λ r. joins_beside entry node.node (without_places r) joins) position below falls);
        off = λ other off. inl (off_among true (member ∷ (path ++ position ∷ [])) members other off);
      }
    where
      brings : BringsContent (in_record node) (piece_body members) planted.body.roots
      brings = edits_bring_content.node_comes (piece_of members) member path position (in_record node) planted p

      by_case : (far : Far) → ((in_record node).far ≡ Some far) ⊎ Contains (fars_in (piece_body members)) far → HasContent was far × IsNoProxies was far.first
      by_case far (inl own) = node_there position node.node node.list was far may own
      by_case far (inr old) = old_may tidy far old

      new_may : MayName was planted.body.roots
      new_may far among = by_case far (brings.fars far among)

  -- A node that is an interval alone:

  module _ (small : item_slots (in_record node) ≤ k) (alone : Piece) (one : alone.body.roots ≡ Grow (in_record node) End End) (none : alone.proxies ≡ []) (proxy : Proxy) (roots : proxy.roots ≡ gapped_width alone.body.roots) where
    abbrev new : RecordPlace
    new = place_named proxy

    abbrev own : Layout
    own = Grown node Bare Bare

    alone_is : alone ≡ piece_of own
    alone_is = piece_same alone (piece_of own) one none

    proxy_is : proxy ≡ proxy_of new (width own)
    proxy_is = ap (λ (r : ℕ). proxy_of new r) (roots ∙ ap gapped_width one)

    -- a page is enough for it
    pub alone_needs : piece_needs alone ≤ row_nodes (without_places members)
    alone_needs =
        let few = piece_few alone in
        let no : length alone.proxies ≡ 0 = ap (λ (ps : List Proxy). length ps) none in
        let some : 1 ≤ width (without_places members) = (i.light).0 in
        let drawn = drawn_wide members in
        let many = proxies_few k members (i.light).3 (drawn_free members (i.light).1) in
        omega (arith, few, no, some, drawn, many)

    goes_in : IntervalGoesIn k new own position below
    goes_in = interval_is_planted k new own position below falls

    abbrev with_own : Layout → Layout
    with_own row = with_interval new own position row

    index_is : index ≡ length has.front + proxies_before position below
    index_is =
        w.index_is
        ∙ ap₂ (λ (g : Gapped) (ps : List Proxy). w.first + passed_at position g ps) (sym has.below_is) has.rest
        ∙ ap₂ (λ (x y : ℕ). x + y) (sym has.first_is) (passed_in_row k position below has.back parts falls)

    proxies_are : take index (proxies_of members) ++ (proxy ∷ drop index (proxies_of members)) ≡ has.front ++ (proxies_of (with_own below) ++ has.back)
    proxies_are =
        ap₂ (λ (n : ℕ) (ps : List Proxy). take n ps ++ (proxy ∷ drop n ps)) index_is has.proxies_were
        ∙ between_inner has.front (proxies_of below) has.back proxy (proxies_before position below) goes_in.within
        ∙ ap (λ (x : Proxy). has.front ++ ((take (proxies_before position below) (proxies_of below) ++ (x ∷ drop (proxies_before position below) (proxies_of below))) ++ has.back)) proxy_is
        ∙ ap (λ (ps : List Proxy). has.front ++ (ps ++ has.back)) (sym goes_in.proxies)

    were : places_of members ≡ (has.before ++ goes_in.before) ++ ([] ++ (goes_in.behind ++ has.behind))
    were = has.places_were ∙ ap (λ (ps : List RecordPlace). has.before ++ (ps ++ has.behind)) goes_in.places_were ∙ inner_places has.before goes_in.before [] goes_in.behind has.behind

    are : places_of (grown with_own) ≡ (has.before ++ goes_in.before) ++ ((new ∷ []) ++ (goes_in.behind ++ has.behind))
    are = (c with_own).places ∙ ap (λ (ps : List RecordPlace). has.before ++ (ps ++ has.behind)) goes_in.places_are ∙ inner_places has.before goes_in.before (new ∷ []) goes_in.behind has.behind

    module _ {mid : Held} (adds : AddsPiece new alone was mid) where
      moved : MovesRecords [] (new ∷ []) [] [] (piece_needs alone) was mid
      moved = piece_adds_record new alone was mid adds

      k_then : (mid.settings).k ≡ k
      k_then = ap (λ (t : Settings). t.k) moved.settings

      list_then : (first : ℕ) (bytes : List ℕ) → was.lists first ≡ Some bytes → mid.lists first ≡ Some bytes
      list_then first bytes there = moved.lists_stay first bytes there (none_named was first)

      all_then : (after : PieceMap mid) → AreHeld (held_by after) members
      all_then after =
          held_along (held_by pieces) (held_by after) members
          (record { pieces = pieces_stay_beside (new ∷ []) [] (piece_needs alone) was mid pieces after moved; lists = list_then; most = k_then }) (i.held).1

      pub interval_grows : IsTidy was → MayPut was (put.Child position node) → (planted : Piece) → IsWithProxyAt (piece_of members) member path position index proxy planted → entry ≡ Standalone
          → GrowsFrom rules (put.Child position node) member path members planted [] was mid
      interval_grows tidy may planted p stands =
          let fit : weight node.node ≤ k = fits in
          let weighs = goes_in.weighs in
          let pages = no_more_pages (nodes_in members) (nodes_in (grown with_own)) node (nodes_in below) (nodes_in (with_own below)) (c with_own).changes goes_in.changes short in
          let enough = alone_needs in
          record {
            before = has.before ++ goes_in.before;
            gone = [];
            come = new ∷ [];
            behind = goes_in.behind ++ has.behind;
            needs = piece_needs alone;
            grown = grown with_own;
            is = grown_is with_own (λ f. with_gap 1 f) (goes_in.body parts has.back) planted p.tree p.first p.leads p.body (p.proxies ∙ proxies_are);
            places_were = were;
            places_are = are;
            brought = [];
            moves = moved;
            pages = 0;
            few = omega (arith, enough);
            rest = omega (arith, pages);
            once = (no_place new, tt);
            brought_once = tt;
            contents_went = subst (λ (fs : List Far). IsPermutation fs (fars_of (nodes_in members))) (sym (append-nil (fars_of (nodes_in members)))) (IsPermutation-refl (fars_of (nodes_in members)));
            contents_came = one_more_list (nodes_in members) (nodes_in (grown with_own)) node (nodes_in below) (nodes_in (with_own below)) (c with_own).changes goes_in.changes;
            held = λ after. let h = all_then after in
                (c with_own).held (held_by after) h
                (goes_in.held (held_by after) (has.held_below (held_by after) h)
                (own_then after, ((λ first e. list_then first node.node.content (may first e).0), tt, tt), tt));
            may = λ far among. may_name_still (piece_body members) tidy moved (old_may tidy) far ((edits_keep_contents.proxy_comes (piece_of members) member path position index proxy planted p).fars far among);
            heavy =
                grown_heavy with_own (goes_in.light parts (omega arith, tt, omega (arith, fit), (tt, tt), tt)) (omega (arith, weighs))
                (λ row most. most_put k (λ r. Kept new own r) (λ r h. h) position row most);
            interval_is =
                grown_interval with_own
                (planted_between entry node.node (λ r. Kept new own r) (λ r. subst (λ (e : Entry). Kept tt (Grown node.node Bare Bare) (without_places r) ≡ placed_beside tt e node.node (without_places r)) (sym stands) refl) position below falls);
            off = λ other off. inl (subst (λ (ps : List RecordPlace). Contains ps other) were (off_among true (member ∷ (path ++ position ∷ [])) members other off));
          }
        where
          own_then : (after : PieceMap mid) → IsHeldAt (held_by after) new own
          own_then after = record {
            there = told_some mid new (piece_of own) (after.piece_at new) (after.are new) (subst (λ (x : Piece). HoldsPiece mid new x) alone_is adds.holds);
            fits = omega (arith, small, k_then);
          }
