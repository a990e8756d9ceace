-- A node put into an interval that it divides: what the interval above has then, and the records below it.
use Rattle.std.proofs.Common.{◌≡◌, ℕ, ◌+◌, ◌<◌, ◌≤◌, List, [], ◌∷◌, ◌++◌, length, take, drop, Some, inl, inr, refl, sym, ap, ap₂, ◌∙◌, subst, arith, append-nil, length-append, IsPermutation}
use Rattle.std.specs.Prelude.{◌≢◌, ◌⊎◌, IsSome, Contains, true}
use Rattle.std.specs.List.{slice_get, sum_by}
use Rattle.std.specs.Option.{option_map_or, option_to_list}
use Rattle.std.proofs.lemmas.List.Sums.{sum_by-append, sum_by-cons}
use Rattle.std.proofs.lemmas.List.Sorted.{IsPermutation-refl, sum_by-IsPermutation}
use Rattle.nx_tree.specs.Forest.{nodes}
use Rattle.nx_tree.specs.Document.{most_nodes}
use Rattle.nx_weights.specs.Weight.{weight}
use Rattle.nx_holdings.specs.declared.header.Settings.{Settings}
use Rattle.nx_holdings.specs.Holdings.{Held}
use Rattle.nx_piece.specs.declared.piece.Far.{Far}
use Rattle.nx_piece.specs.declared.piece.Piece.{Piece}
use Rattle.nx_piece.specs.declared.piece.Proxy.{Proxy}
use Rattle.nx_piece.specs.PieceNode.{PieceNode}
use Rattle.nx_piece.specs.Gapped.{Gapped, gapped_width, proxies_in}
use Rattle.nx_piece.specs.Valid.{AreNear}
use Rattle.nx_piece.proofs.LocateLemmas.{get_behind}
use Rattle.nx_piece.proofs.SizeLemmas.{item_is_weight, size_is_weight}
use Rattle.nx_piece_edits.specs.Cutting.{IsWithRow}
use Rattle.nx_piece_edits.specs.Dividing.{first_roots, roots_behind}
use Rattle.nx_piece_edits.specs.Planting.{IsWithNode}
use Rattle.nx_matrix.specs.Label.{label}
use Rattle.nx_matrix.specs.Rules.{entry_of}
use Rattle.nx_matrix.specs.declared.rule.Entry.{Entry}
use Rattle.nx_matrix.specs.declared.rule.Entry.TheVariants.{Standalone, Cluster, Free}
use Rattle.nx_matrix.specs.declared.rule.Rule.{Rule}
use Rattle.nx_cuts.specs.Cut.{CutForest, Bare, Grown, Kept, width, part_weight, AreFree, AreParts}
use Rattle.nx_cuts.specs.Rows.{first, behind}
use Rattle.nx_split.specs.Piece.{asked}
use Rattle.nx_layouts.specs.Layout.{RecordPlace, LaidNode, Layout, AreHeld, AreLaidParts, ArePlacedOnce, IsHeldAt, contents_of, in_record, laid_forest, laid_weight, lists_of, nodes_in, piece_body, piece_of, places_of, proxies_of, proxy_of, without_places}
use Rattle.nx_layouts.specs.Replace.{replaced_at}
use Rattle.nx_layouts.specs.Cutting.{StandsIn, LeadsInto}
use Rattle.nx_layouts.specs.Planting.{RootsInTwo, HasChildren}
use Rattle.nx_layouts.proofs.ChangeLemmas.{row_below, below_at}
use Rattle.nx_layouts.proofs.ChildLemmas.{children_are_changed}
use Rattle.nx_layouts.proofs.DivideLemmas.{roots_are_divided}
use Rattle.nx_layouts.proofs.DrawnLemmas.{drawn_free, drawn_wide, free_drawn}
use Rattle.nx_layouts.proofs.HeldLemmas.{layout_held}
use Rattle.nx_layouts.proofs.NodeLemmas.{item_weighs}
use Rattle.nx_layouts.proofs.PlaceLemmas.{no_place, one_place, later_among, between_cases, once-left, once-right}
use Rattle.nx_layouts.proofs.ReplaceLemmas.{replaces}
use Rattle.nx_layouts.proofs.SizeLemmas.{body_weight}
use Rattle.nx_layouts.proofs.StandLemmas.{interval_stands_in}
use Rattle.nx_layouts.proofs.WithoutLemmas.{nodes_joined}
use Rattle.nx_hold.specs.Changes.{place_named, piece_needs, AddsPiece}
use Rattle.nx_hold.specs.Contents.{content_pages, near_pages}
use Rattle.nx_hold.specs.Documents.{MovesRecords, AddsRecords}
use Rattle.nx_hold.specs.Pieces.{record_at, HoldsPiece, MayName, NamesList, IsTidy, PieceMap, held_by}
use Rattle.nx_hold.proofs.MapLemmas.{held_at, piece_map, told_some}
use Rattle.nx_hold.proofs.MoveLemmas.{contents_stay_around, piece_adds_record, piece_stays, pieces_stay_around}
use Rattle.nx_hold.proofs.PieceLemmas.{one_piece, some_same}
use Rattle.nx_hold.proofs.RecordsLemmas.{record_there}
use Rattle.nx_hold.proofs.TidyLemmas.{may_name_own}
use Rattle.nx_drawn.specs.Edits.{planted_row}
use Rattle.nx_drawn.specs.Growth.{PartIsAtMost, MayBeHeavy}
use Rattle.nx_drawn.proofs.GrowthLemmas.{nodes_light, width_light}
use Rattle.nx_drawn.proofs.MarkLemmas.{bare_first, bare_behind}
use Rattle.nx_edit.specs.Changing as put
use Rattle.nx_edit.specs.Changing.{IsWrittenNode, MayPut, changed_interval}
use Rattle.nx_edit.specs.Editing.{places_off}
use Rattle.nx_edit.specs.Grown.{GrowsFrom, StaysAmong}
use Rattle.nx_edit.specs.Making.{IsRowMadeFar}
use Rattle.nx_edit.specs.Parting.{IsRecordParted, IsNodePlaced, IsPlacedBetween, alone_piece}
use Rattle.nx_edit.specs.Planting.{IsWithin, IsAskedThere}
use Rattle.nx_edit.specs.Removing.{fars_of}
use Rattle.nx_edit.specs.Rows.{row_nodes, IsHeldInterval}
use Rattle.nx_edit.proofs.ApartLemmas.{adds_behind, once_behind, moves_then, moves_turned, once_turned, moves_apart, once_apart}
use Rattle.nx_edit.proofs.BetweenLemmas.{interval_planted}
use Rattle.nx_edit.proofs.ChangeCalls.{same_label}
use Rattle.nx_edit.proofs.CountLemmas.{piece_few, proxies_few}
use Rattle.nx_edit.proofs.FarLemmas.{near-append, sum_lists}
use Rattle.nx_edit.proofs.HalfLemmas.{half_needs, near_halves, adds_two, moves_one, moves_half, moves_lists}
use Rattle.nx_edit.proofs.HeldLemmas.{held_through, may_name_part}
use Rattle.nx_edit.proofs.OffLemmas.{off_among, off_inside}
use Rattle.nx_edit.proofs.OrderLemmas.{lists_by_sums}
use Rattle.nx_edit.proofs.OwnLemmas.{nodes_bare, nodes_alone, free_wide}
use Rattle.nx_edit.proofs.PartLemmas.{row_piece, two_gap, between_is}
use Rattle.nx_edit.proofs.PassedLemmas.{into_member, piece_same}
use Rattle.nx_edit.proofs.PutLemmas.{far_held}
use Rattle.nx_edit.proofs.RowCalls.{get_within}
use Rattle.nx_edit.proofs.SpotLemmas.{IsInside, is_inside, IsSpot, spot, parted, in_two, parted_planted, weight_replaced, most_replaced}
use Rattle.nx_edit.proofs.ThroughLemmas.{IsAround, around_interval, apart}

at_front : {A : Type 0} (front : List A) (x : A) (rest all : List A) (n : ℕ) → all ≡ front ++ (x ∷ rest) → length front ≡ n → slice_get all n ≡ Some x
at_front front x rest all n e l = ap (λ ys. slice_get ys n) e ∙ ap (slice_get (front ++ (x ∷ rest))) (let place : n ≡ length front + 0 = omega (arith, l) in place) ∙ get_behind front (x ∷ rest) 0

pub proxy_same : (proxy : Proxy) (roots : ℕ) → proxy.roots ≡ roots → proxy ≡ proxy_of (place_named proxy) roots
proxy_same proxy roots e = ap (λ (r : ℕ). proxy_of (place_named proxy) r) e

-- The interval that the position falls into, in the members of the one above:

module _ {was : Held} (pieces : PieceMap was) (place : RecordPlace) (member : ℕ) (path : List ℕ) (members : Layout) (i : IsHeldInterval was pieces (Some (piece_of members)) place member path most_nodes members) (position index before : ℕ) (proxy : Proxy)
    (w : IsWithin (piece_of members) member path position proxy index before) where
  abbrev pub k : ℕ
  k = (was.settings).k

  abbrev pub way : List ℕ
  way = path ++ position ∷ []

  pub is_in : IsInside members member path position index before
  is_in = is_inside members member path position index before w.tree w.first w.leads w.there

  abbrev pub inside : Layout
  inside = is_in.inside

  pub stands : StandsIn k index inside members
  stands = interval_stands_in k index before [] inside member way members is_in.into

  pub less : index < length (proxies_of members)
  less = get_within (proxies_of members) index proxy w.named

  pub place_is : place_named proxy ≡ stands.at
  place_is =
      let at : slice_get (proxies_of members) index ≡ Some (proxy_of stands.at (width inside)) = at_front stands.front (proxy_of stands.at (width inside)) stands.back (proxies_of members) index stands.proxies_are stands.index_is in
      ap place_named (some_same (sym w.named ∙ at))

  pub around : IsAround was place stands.before (stands.at ∷ places_of inside) stands.behind
  around = around_interval was pieces place members stands.before (stands.at ∷ places_of inside) stands.behind i.held i.once (append-nil (places_of members) ∙ stands.places_were)

  light : AreLaidParts k (Kept stands.at inside Bare)
  light = stands.light (i.light).3

  held : AreHeld (held_by pieces) (Kept stands.at inside Bare)
  held = stands.held (held_by pieces) (i.held).1

  members_free : AreFree members
  members_free = drawn_free members (i.light).1

  inside_free : AreFree inside
  inside_free = drawn_free inside light.1

  pub more : before < width inside
  more = into_member index before [] inside member way members is_in.into

  -- the record below holds its piece
  pub holds_inside : HoldsPiece was (place_named proxy) (piece_of inside)
  holds_inside = subst (λ (p : RecordPlace). HoldsPiece was p (piece_of inside)) (sym place_is) (held_at was pieces stands.at (piece_of inside) (held.0).there)

  pub wide_inside : gapped_width (piece_body inside) ≡ width inside
  wide_inside = free_wide inside inside_free

  -- the members and those below, in numbers
  pub nodes_more : 1 + nodes (laid_forest inside) ≤ row_nodes (without_places members)
  nodes_more =
      let hole = replaces index members Bare less in
      let some : 1 ≤ width (without_places members) = (i.light).0 in
      let drawn = drawn_wide members in
      let wide : width (replaced_at index Bare members) ≡ width members = hole.wide members_free in
      let many = proxies_few k (replaced_at index Bare members) (hole.light k (i.light).3 tt) (hole.free members_free) in
      let all = stands.counted Bare in
      let m = nodes_bare members in
      omega (arith, some, drawn, wide, many, all, m)

  pub proxies_inside : length (proxies_of inside) + width inside ≤ nodes (laid_forest inside)
  proxies_inside = proxies_few k inside light.3 inside_free

  -- the pages of long contents, and the lists of contents, where others stand in the interval's place
  pub pages_inside : near_pages (nodes_in inside) ≤ near_pages (nodes_in members)
  pages_inside =
      let all = ap near_pages stands.nodes_were ∙ near-append stands.nodes_before (nodes_in inside ++ stands.nodes_behind) in
      let both = near-append (nodes_in inside) stands.nodes_behind in
      omega (arith, all, both)

  row_pages : (new : Layout) → near_pages (nodes_in (replaced_at index new members)) + near_pages (nodes_in inside) ≡ near_pages (nodes_in members) + near_pages (nodes_in new)
  row_pages new =
      let a = ap near_pages stands.nodes_were ∙ near-append stands.nodes_before (nodes_in inside ++ stands.nodes_behind) in
      let b = near-append (nodes_in inside) stands.nodes_behind in
      let c = ap near_pages (stands.nodes_are new) ∙ near-append stands.nodes_before (nodes_in new ++ stands.nodes_behind) in
      let e = near-append (nodes_in new) stands.nodes_behind in
      omega (arith, a, b, c, e)

  row_lists : (f : ℕ → ℕ) (new : Layout) → sum_by f (contents_of (replaced_at index new members)) + sum_by f (contents_of inside) ≡ sum_by f (contents_of members) + sum_by f (contents_of new)
  row_lists f new =
      let a = ap (λ (ns : List LaidNode). sum_by f (lists_of ns)) stands.nodes_were ∙ sum_lists f stands.nodes_before (nodes_in inside ++ stands.nodes_behind) in
      let b = sum_lists f (nodes_in inside) stands.nodes_behind in
      let c = ap (λ (ns : List LaidNode). sum_by f (lists_of ns)) (stands.nodes_are new) ∙ sum_lists f stands.nodes_before (nodes_in new ++ stands.nodes_behind) in
      let e = sum_lists f (nodes_in new) stands.nodes_behind in
      omega (arith, a, b, c, e)

  -- The interval's row, with long contents in lists, in two:

  module _ (made : Layout) (same : without_places made ≡ without_places inside) where
    made_free : AreFree made
    made_free = drawn_free made (subst (λ (c : CutForest). AreFree c) (sym same) light.1)

    made_wide : width made ≡ width inside
    made_wide = sym (drawn_wide made) ∙ ap (λ (c : CutForest). width c) same ∙ drawn_wide inside

    made_light : AreLaidParts k made
    made_light = subst (λ (c : CutForest). AreParts k c) (sym same) light.3

    pub halves : RootsInTwo k before made
    halves = roots_are_divided k before made made_free (let m = more in let wide = made_wide in omega (arith, m, wide))

    abbrev pub ahead : Layout
    ahead = first before made

    abbrev pub after : Layout
    after = behind before made

    pub wide_ahead : width ahead ≡ before
    wide_ahead = halves.first_wide

    made_nodes : nodes (laid_forest made) ≡ nodes (laid_forest inside)
    made_nodes = ap row_nodes same

    made_weighs : laid_weight made ≡ laid_weight inside
    made_weighs = ap (λ (c : CutForest). part_weight c) same

    -- The document's change, whatever the places are:

    module _ (rules : List Rule) (node : LaidNode) (entry : Entry) (asks : IsAskedThere rules (piece_of members) member path node.node entry) (bound : entry ≢ Free) (own front_place back_place : RecordPlace) where
      abbrev drawn_new : Layout
      drawn_new = parted own front_place back_place entry node ahead after

      has : HasChildren k member path w.tree w.first members
      has = children_are_changed k members member path w.tree w.first w.leads

      here : IsSpot member path position before index inside members
      here = spot member path position before index inside members has.stays is_in.into

      asked_is : asked rules (has.node).node node.node ≡ entry
      asked_is =
          ap (λ (l : List ℕ). entry_of rules l (label node.node)) (sym (ap (λ (n : PieceNode). label n.node) has.shown ∙ same_label (has.node).node (has.node).list)) ∙ asks w.tree w.first w.leads

      pub drawn : Kept tt (without_places (replaced_at index drawn_new members)) Bare ≡ changed_interval rules (put.Child position node) member path members
      drawn =
          let below_is : below_at member path members ≡ has.below = ap row_below has.at in
          let into : LeadsInto here.nth before [] inside position [] has.below = subst (λ (b : Layout). LeadsInto here.nth before [] inside position [] b) below_is here.within in
          let planted =
          parted_planted own front_place back_place entry node before inside ahead after w.some (bare_first before made ∙ ap (λ (c : CutForest). first before c) same) (bare_behind before made ∙ ap (λ (c : CutForest). behind before c) same)
          bound here.nth position has.below into in
          ap (λ (l : Layout). Kept tt (without_places l) Bare) (here.same drawn_new)
          ∙ interval_planted rules node.node position (λ b. replaced_at here.nth drawn_new b) has.node has.below
          (planted ∙ ap (λ (e : Entry). planted_row tt tt e node.node position (without_places has.below)) (sym asked_is)) member path members has.stays has.at

      new_nodes : nodes (laid_forest drawn_new) ≡ nodes (laid_forest inside) + 1
      new_nodes = by_entry entry
        where
          by_entry : (e : Entry) → nodes (laid_forest (parted own front_place back_place e node ahead after)) ≡ nodes (laid_forest inside) + 1
          by_entry Standalone =
              let one = nodes_joined (laid_forest ahead) (laid_forest (Kept own (Grown node Bare Bare) (Kept back_place after Bare))) in
              let alone : Layout = Grown node Bare Bare in
              let two = nodes_joined (laid_forest alone) (laid_forest (Kept back_place after Bare)) in
              let three = nodes_alone back_place after in
              let all = halves.counted in
              let made_are = made_nodes in
              omega (arith, one, two, three, all, made_are)
          by_entry Cluster =
              let one = nodes_joined (laid_forest ahead) (laid_forest (Grown node Bare (Kept back_place after Bare))) in
              let three = nodes_alone back_place after in
              let all = halves.counted in
              let made_are = made_nodes in
              omega (arith, one, three, all, made_are)
          by_entry Free =
              let one = nodes_joined (laid_forest ahead) (laid_forest (Grown node Bare (Kept back_place after Bare))) in
              let three = nodes_alone back_place after in
              let all = halves.counted in
              let made_are = made_nodes in
              omega (arith, one, three, all, made_are)

      -- one node more
      pub drawn_nodes : row_nodes (changed_interval rules (put.Child position node) member path members) ≡ row_nodes (without_places members) + 1
      drawn_nodes =
          let row : Layout = replaced_at index drawn_new members in
          let all = sym (ap row_nodes drawn) ∙ nodes_alone place row in
          let c = stands.counted drawn_new in
          let n = new_nodes in
          let m = nodes_bare members in
          omega (arith, all, c, n, m)

      nodes_new : nodes_in drawn_new ≡ nodes_in ahead ++ (node ∷ nodes_in after)
      nodes_new = by_entry entry
        where
          by_entry : (e : Entry) → nodes_in (parted own front_place back_place e node ahead after) ≡ nodes_in ahead ++ (node ∷ nodes_in after)
          by_entry Standalone = ap (λ (ns : List LaidNode). nodes_in ahead ++ (node ∷ ns)) (append-nil (nodes_in after))
          by_entry Cluster = ap (λ (ns : List LaidNode). nodes_in ahead ++ (node ∷ ns)) (append-nil (nodes_in after))
          by_entry Free = ap (λ (ns : List LaidNode). nodes_in ahead ++ (node ∷ ns)) (append-nil (nodes_in after))

      -- the node's list comes beside those that there are
      lists_new : (f : ℕ → ℕ) → sum_by f (contents_of drawn_new) ≡ sum_by f (contents_of made) + sum_by f (option_to_list node.list)
      lists_new f =
          let a = ap (λ (ns : List LaidNode). sum_by f (lists_of ns)) nodes_new ∙ sum_lists f (nodes_in ahead) (node ∷ nodes_in after) in
          let b = sum_by-append f (option_to_list node.list) (lists_of (nodes_in after)) in
          let c = ap (λ (ns : List LaidNode). sum_by f (lists_of ns)) halves.nodes_are ∙ sum_lists f (nodes_in ahead) (nodes_in after) in
          omega (arith, a, b, c)

      pages_new : option_map_or (λ first. 0) node.list (content_pages node.node) ≡ 0 → near_pages (nodes_in drawn_new) ≡ near_pages (nodes_in made)
      pages_new short =
          let a = ap near_pages nodes_new ∙ near-append (nodes_in ahead) (node ∷ nodes_in after) in
          let b = sum_by-cons (λ (n : LaidNode). option_map_or (λ first. 0) n.list (content_pages n.node)) node (nodes_in after) in
          let c = ap near_pages halves.nodes_are ∙ near-append (nodes_in ahead) (nodes_in after) in
          omega (arith, a, b, c, short)

    part_one : 1 ≤ width (without_places ahead)
    part_one = let some : 1 ≤ before = w.some in let e = wide_ahead in let wide = drawn_wide ahead in omega (arith, some, e, wide)

    part_two : 1 ≤ width (without_places after)
    part_two = let e = halves.behind_wide in let m = more in let wide = made_wide in let drawn = drawn_wide after in omega (arith, e, m, wide, drawn)

    ahead_light : laid_weight ahead ≤ k
    ahead_light = let all : laid_weight inside ≤ k = light.2 in let same_weight = made_weighs in let sum = halves.weighs in omega (arith, all, same_weight, sum)

    after_light : laid_weight after ≤ k
    after_light = let all : laid_weight inside ≤ k = light.2 in let same_weight = made_weighs in let sum = halves.weighs in omega (arith, all, same_weight, sum)

    pub parts_two : (x y : RecordPlace) → AreLaidParts k (in_two x y ahead after)
    parts_two x y =
        let both = halves.light made_light in
        (part_one, free_drawn ahead (halves.free).0, ahead_light, both.0, (part_two, free_drawn after (halves.free).1, after_light, both.1, tt))

  -- The record below in two:

  module _ (tidy : IsTidy was) (front back : Proxy) {cut : Held} (p : IsRecordParted (place_named proxy) before front back was cut) where
    inner_is : p.inner ≡ piece_of inside
    inner_is = one_piece was (place_named proxy) p.inner (piece_of inside) p.there holds_inside

    pub far : IsRowMadeFar inside p.made was p.start
    far = (p.makes).rows inside (sym inner_is)

    abbrev in_parts : RootsInTwo k before far.row
    in_parts = halves far.row far.same

    abbrev front_row : Layout
    front_row = ahead far.row far.same

    abbrev back_row : Layout
    back_row = after far.row far.same

    first_is : p.parts.0 ≡ piece_of front_row
    first_is =
        let body = in_parts.first_body in
        piece_same p.parts.0 (piece_of front_row)
        ((p.divided).front ∙ ap (λ (x : Piece). first_roots before x.body.roots) (sym far.is) ∙ sym body)
        ((p.divided).front_proxies ∙ ap (λ (x : Piece). take (proxies_in (first_roots before x.body.roots)) x.proxies) (sym far.is) ∙ ap (λ (g : Gapped). take (proxies_in g) (proxies_of far.row)) (sym body) ∙ in_parts.taken)

    second_is : p.parts.1 ≡ piece_of back_row
    second_is =
        piece_same p.parts.1 (piece_of back_row)
        ((p.divided).back ∙ ap (λ (x : Piece). roots_behind before x.body.roots) (sym far.is) ∙ sym in_parts.behind_body)
        ((p.divided).back_proxies ∙ ap (λ (x : Piece). drop (proxies_in (first_roots before x.body.roots)) x.proxies) (sym far.is) ∙ ap (λ (g : Gapped). drop (proxies_in g) (proxies_of far.row)) (sym in_parts.first_body) ∙ in_parts.left)

    abbrev pub front_place : RecordPlace
    front_place = place_named front

    abbrev pub back_place : RecordPlace
    back_place = place_named back

    pub front_is : front ≡ proxy_of front_place (width front_row)
    front_is = proxy_same front (width front_row) (p.front_roots ∙ ap (λ (x : Piece). gapped_width x.body.roots) first_is ∙ free_wide front_row (in_parts.free).0)

    pub back_is : back ≡ proxy_of back_place (width back_row)
    back_is = proxy_same back (width back_row) (p.back_roots ∙ ap (λ (x : Piece). gapped_width x.body.roots) second_is ∙ free_wide back_row (in_parts.free).1)

    abbrev cut_needs : ℕ
    cut_needs = half_needs (place_named proxy) before front back p

    adds : AddsRecords (back_place ∷ []) [] (piece_needs p.parts.1) p.mid cut
    adds = adds_two (place_named proxy) before front back p

    moves_cut : MovesRecords (place_named proxy ∷ []) (front_place ∷ back_place ∷ []) [] [] cut_needs p.start cut
    moves_cut = moves_half (place_named proxy) before front back p

    -- so many pages fewer are free
    pub cut_free : was.free ≤ cut.free + (far.needs + cut_needs)
    cut_free = let lists = (far.moves).free in let two = moves_cut.free in omega (arith, lists, two)

    pub once_cut : ArePlacedOnce (front_place ∷ back_place ∷ [])
    once_cut = once_behind (place_named proxy ∷ []) (front_place ∷ []) back_place [] (piece_needs p.parts.0) (piece_needs p.parts.1) p.start p.mid cut (moves_one (place_named proxy) before front back p) adds (no_place front_place, tt)

    pub first_held : HoldsPiece cut front_place (piece_of front_row)
    first_held = subst (λ (x : Piece). HoldsPiece cut front_place x) first_is (piece_stays front_place p.parts.0 adds (p.updates).holds)

    pub second_held : HoldsPiece cut back_place (piece_of back_row)
    second_held = subst (λ (x : Piece). HoldsPiece cut back_place x) second_is (p.adds).holds

    near_front : AreNear (piece_body front_row)
    near_front = subst (λ (x : Piece). AreNear x.body.roots) first_is (near_halves (place_named proxy) before front back p).0

    near_back : AreNear (piece_body back_row)
    near_back = subst (λ (x : Piece). AreNear x.body.roots) second_is (near_halves (place_named proxy) before front back p).1

    pub cut_few : 1 + cut_needs ≤ row_nodes (without_places members)
    cut_few =
        let one = piece_few p.parts.0 in
        let two = piece_few p.parts.1 in
        let a = ap (λ (x : Piece). length x.proxies) first_is in
        let b = ap (λ (x : Piece). length x.proxies) second_is in
        let sum = ap (λ (ps : List Proxy). length ps) in_parts.proxies ∙ length-append (proxies_of front_row) (proxies_of back_row) in
        let made_are = ap (λ (x : Piece). length x.proxies) far.is in
        let inner_are = ap (λ (x : Piece). length x.proxies) inner_is in
        let far_are = ap (λ (ps : List Proxy). length ps) (p.far).proxies in
        let some : 1 ≤ before = w.some in
        let m = more in
        let all = proxies_inside in
        let n = nodes_more in
        omega (arith, one, two, a, b, sum, made_are, inner_are, far_are, some, m, all, n)

    pub lists_few : far.needs ≤ near_pages (nodes_in members)
    lists_few = let pages = far.pages in let all = pages_inside in omega (arith, pages, all)

    -- The node between them:

    module _ (rules : List Rule) (node : LaidNode) (entry : Entry) (fits : weight node.node ≤ k) (written : IsWrittenNode (in_record node)) (short : option_map_or (λ first. 0) node.list (content_pages node.node) ≡ 0) (asks : IsAskedThere rules (piece_of members) member path node.node entry) (bound : entry ≢ Free)
        (may : MayPut was (put.Child position node)) (own : RecordPlace) (middle : List RecordPlace) {mid : Held} (then : ℕ)
        (places_are : places_of (parted own front_place back_place entry node front_row back_row) ≡ front_place ∷ (places_of front_row ++ (middle ++ places_of back_row))) (later : MovesRecords (place_named proxy ∷ []) (front_place ∷ middle) [] [] then p.start mid) (once_new : ArePlacedOnce (front_place ∷ middle))
        (few : then ≤ row_nodes (without_places members)) (front_there : HoldsPiece mid front_place (piece_of front_row)) (back_there : HoldsPiece mid back_place (piece_of back_row)) (own_there : entry ≡ Standalone → HoldsPiece mid own (piece_of (Grown node Bare Bare))) where
      abbrev new : Layout
      new = parted own front_place back_place entry node front_row back_row

      abbrev grown : Layout
      grown = replaced_at index new members

      abbrev gone : List RecordPlace
      gone = stands.at ∷ places_of inside

      abbrev needs : ℕ
      needs = far.needs + then

      inside_places : places_of inside ≡ places_of front_row ++ places_of back_row
      inside_places = sym far.places ∙ in_parts.places

      gone_once : ArePlacedOnce (stands.at ∷ places_of inside)
      gone_once = once-left (stands.at ∷ places_of inside) stands.behind (once-right stands.before ((stands.at ∷ places_of inside) ++ stands.behind) ((around.once).1))

      there_inside : (other : RecordPlace) → Contains (places_of inside) other → (x : Piece) × HoldsPiece was other x
      there_inside other among = let found = layout_held (held_by pieces) inside other held.1 among in (found.0, held_at was pieces other found.0 found.1)

      there_below : (other : RecordPlace) → Contains (places_of front_row ++ places_of back_row) other → IsSome (record_at was other)
      there_below other among = let found = there_inside other (subst (λ (ps : List RecordPlace). Contains ps other) (sym inside_places) among) in record_there was other found.0 found.1

      once_old : ArePlacedOnce (place_named proxy ∷ (places_of front_row ++ places_of back_row))
      once_old = subst (λ (ps : List RecordPlace). ArePlacedOnce (place_named proxy ∷ ps)) inside_places (subst (λ (x : RecordPlace). ArePlacedOnce (x ∷ places_of inside)) (sym place_is) gone_once)

      not_inside : (other : RecordPlace) → Contains (places_of inside) other → Contains (place_named proxy ∷ []) other → ⊥
      not_inside other among here = gone_once.0 (subst (λ (y : RecordPlace). Contains (places_of inside) y) (one_place (place_named proxy) other here ∙ place_is) among)

      moved : MovesRecords (place_named proxy ∷ []) (front_place ∷ middle) [] far.brought needs was mid
      moved = moves_then (place_named proxy ∷ []) (place_named proxy ∷ []) (front_place ∷ middle) far.brought far.needs then was p.start mid (moves_lists (place_named proxy) before front back p far.brought far.needs far.moves) later

      moves : MovesRecords gone (places_of new) [] far.brought needs was mid
      moves =
          subst (λ (x : RecordPlace). MovesRecords (x ∷ places_of inside) (places_of new) [] far.brought needs was mid) place_is
          (subst (λ (ps : List RecordPlace). MovesRecords (place_named proxy ∷ ps) (places_of new) [] far.brought needs was mid) (sym inside_places)
          (subst (λ (ps : List RecordPlace). MovesRecords (place_named proxy ∷ (places_of front_row ++ places_of back_row)) ps [] far.brought needs was mid) (sym places_are)
          (moves_apart (place_named proxy) front_place (places_of front_row) middle (places_of back_row) far.brought needs there_below once_old moved)))

      once : ArePlacedOnce (places_of new)
      once = subst ArePlacedOnce (sym places_are) (once_apart (place_named proxy) front_place (places_of front_row) middle (places_of back_row) far.brought needs there_below once_old moved once_new)

      k_same : (mid.settings).k ≡ k
      k_same = ap (λ (t : Settings). t.k) moved.settings

      -- what is below the parts stays
      below_stays : (other : RecordPlace) (x : Piece) → Contains (places_of inside) other → HoldsPiece was other x
          → (record_at mid other ≡ record_at was other) × ((count chain : ℕ) → NamesList was other count chain → mid.lists chain ≡ was.lists chain)
      below_stays other x among holds =
          let s = pieces_stay_around (place_named proxy ∷ []) (front_place ∷ middle) [] far.brought needs was mid tidy moved other x holds (not_inside other among) in
          (s.0, λ count chain names. s.2 chain (inl (count, names)))

      may_start : MayName p.start (piece_body far.row)
      may_start = subst (λ (x : Piece). MayName p.start x.body.roots) (sym far.is) (p.makes).may

      parts_held : (map : PieceMap mid) → AreHeld (held_by map) front_row × AreHeld (held_by map) back_row
      parts_held map =
          in_parts.held (held_by map)
          (held_through p.start_tidy later (piece_map p.start) map far.row (far.held pieces (piece_map p.start) held.1) may_start (λ other among. not_inside other (subst (λ (ps : List RecordPlace). Contains ps other) far.places among)))

      told : (map : PieceMap mid) (at : RecordPlace) (x : Piece) → HoldsPiece mid at x → map.piece_at at ≡ Some x
      told map at x holds = told_some mid at x (map.piece_at at) (map.are at) holds

      front_at : (map : PieceMap mid) → IsHeldAt (held_by map) front_place front_row
      front_at map = record {
        there = told map front_place (piece_of front_row) front_there;
        fits =
            let size = size_is_weight (piece_body front_row) near_front (far_held mid front_place (piece_of front_row) front_there) in
            let weighs = body_weight front_row in
            let light_row = ahead_light far.row far.same in
            let k_is = k_same in
            omega (arith, size, weighs, light_row, k_is);
      }

      back_at : (map : PieceMap mid) → IsHeldAt (held_by map) back_place back_row
      back_at map = record {
        there = told map back_place (piece_of back_row) back_there;
        fits =
            let size = size_is_weight (piece_body back_row) near_back (far_held mid back_place (piece_of back_row) back_there) in
            let weighs = body_weight back_row in
            let light_row = after_light far.row far.same in
            let k_is = k_same in
            omega (arith, size, weighs, light_row, k_is);
      }

      own_at : entry ≡ Standalone → (map : PieceMap mid) → IsHeldAt (held_by map) own (Grown node Bare Bare)
      own_at is map = record {
        there = told map own (piece_of (Grown node Bare Bare)) (own_there is);
        fits =
            let size = item_is_weight (in_record node) written.1 written.0 in
            let weighs = item_weighs node in
            let light_node : weight node.node ≤ k = fits in
            let k_is = k_same in
            omega (arith, size, weighs, light_node, k_is);
      }

      read_own : (first : ℕ) → node.list ≡ Some first → mid.lists first ≡ Some node.node.content
      read_own first e = let m = may first e in (contents_stay_around (place_named proxy ∷ []) (front_place ∷ middle) [] far.brought needs was mid tidy moved first node.node.content m.0 m.1 (no_place first)).0

      new_held : (map : PieceMap mid) → AreHeld (held_by map) new
      new_held map = by_entry entry (λ is. own_at is map)
        where
          h : AreHeld (held_by map) front_row × AreHeld (held_by map) back_row
          h = parts_held map

          by_entry : (e : Entry) → (e ≡ Standalone → IsHeldAt (held_by map) own (Grown node Bare Bare)) → AreHeld (held_by map) (parted own front_place back_place e node front_row back_row)
          by_entry Standalone there = (front_at map, h.0, (there refl, (read_own, tt, tt), (back_at map, h.1, tt)))
          by_entry Cluster there = (front_at map, h.0, (read_own, tt, (back_at map, h.1, tt)))
          by_entry Free there = (front_at map, h.0, (read_own, tt, (back_at map, h.1, tt)))

      abbrev hole : Layout
      hole = replaced_at index Bare members

      may_members : MayName was (piece_body members)
      may_members = may_name_own was place (piece_of members) tidy (held_at was pieces place (piece_of members) ((i.held).0).there)

      within_hole : (n : LaidNode) → Contains (nodes_in hole) n → Contains (nodes_in members) n
      within_hole n among =
          subst (λ (ns : List LaidNode). Contains ns n) (sym stands.nodes_were)
          (between_cases stands.nodes_before (nodes_in inside) stands.nodes_behind n (subst (λ (ns : List LaidNode). Contains ns n) (stands.nodes_are Bare) among))

      hole_held : (map : PieceMap mid) → AreHeld (held_by map) hole
      hole_held map =
          held_through tidy moves pieces map hole ((replaces index members Bare less).beside (held_by pieces) (i.held).1) (may_name_part was pieces members hole tidy (i.held).1 may_members within_hole)
          (λ other left went. apart around other went (later_among place (stands.before ++ stands.behind) other (subst (λ (ps : List RecordPlace). Contains ps other) (stands.places_are Bare) left)))

      parts_new : AreLaidParts k new
      parts_new = by_entry entry
        where
          h : AreLaidParts k (in_two front_place back_place front_row back_row)
          h = parts_two far.row far.same front_place back_place

          by_entry : (e : Entry) → AreLaidParts k (parted own front_place back_place e node front_row back_row)
          by_entry Standalone = (h.0, h.1, h.2, h.3, (omega arith, tt, (let f : weight node.node ≤ k = fits in omega (arith, f)), (tt, tt), h.4))
          by_entry Cluster = (h.0, h.1, h.2, h.3, (tt, h.4))
          by_entry Free = (h.0, h.1, h.2, h.3, (tt, h.4))

      weighs_new : laid_weight new ≤ k
      weighs_new = by_entry entry
        where
          by_entry : (e : Entry) → laid_weight (parted own front_place back_place e node front_row back_row) ≤ k
          by_entry Standalone = omega arith
          by_entry Cluster = let f : weight node.node ≤ k = fits in omega (arith, f)
          by_entry Free = let f : weight node.node ≤ k = fits in omega (arith, f)

      nodes_most : PartIsAtMost k (without_places new)
      nodes_most = by_entry entry
        where
          by_entry : (e : Entry) → PartIsAtMost k (without_places (parted own front_place back_place e node front_row back_row))
          by_entry Standalone = tt
          by_entry Cluster = (fits, tt, tt)
          by_entry Free = (fits, tt, tt)

      heavy : MayBeHeavy k (k + k) (k + 1) (without_places grown)
      heavy =
          let r = replaces index members new less in
          let some : 1 ≤ width (without_places members) = (i.light).0 in
          let l : laid_weight members ≤ k = (i.light).2 in
          let few_wide = width_light (without_places members) (i.light).1 in
          let wide : width grown ≡ width members = r.wide members_free in
          let wide_drawn = drawn_wide grown in
          let was_drawn = drawn_wide members in
          let all = weight_replaced index before [] inside new member way members is_in.into in
          let n = weighs_new in
          record {
            some = omega (arith, some, wide, wide_drawn, was_drawn);
            few = omega (arith, few_wide, wide, wide_drawn, was_drawn, l);
            free = free_drawn grown (r.free members_free);
            light = omega (arith, all, n, l);
            nodes = most_replaced k index new members nodes_most (nodes_light k (without_places members) l);
            parts = r.light k (i.light).3 parts_new;
          }

      interval_is : Kept tt (without_places grown) Bare ≡ changed_interval rules (put.Child position node) member path members
      interval_is = drawn far.row far.same rules node entry asks bound own front_place back_place

      off_stays : (other : RecordPlace) → Contains (places_off true (member ∷ way) members) other → Contains (stands.before ++ stands.behind) other ⊎ StaysAmong (places_of new) was mid other
      off_stays other among = elim (off_inside true index before [] inside member way members is_in.into other among) [
        | inl inner ↦
            let below : Contains (places_of inside) other = off_among true (before ∷ []) inside other inner in
            let found = there_inside other below in
            let stays = below_stays other found.0 below found.1 in
            inr (
              subst (λ (ps : List RecordPlace). Contains ps other) (sym places_are)
                  (later_among front_place (places_of front_row ++ (middle ++ places_of back_row)) other (between_cases (places_of front_row) middle (places_of back_row) other (subst (λ (ps : List RecordPlace). Contains ps other) inside_places below))),
              stays.0,
              stays.1,
            )
        | inr left ↦ inl (subst (λ (ps : List RecordPlace). Contains ps other) (stands.places_are Bare) left)
      ]

      came : IsPermutation (contents_of grown) (contents_of members ++ (option_to_list node.list ++ far.brought))
      came =
          lists_by_sums (contents_of grown) (contents_of members ++ (option_to_list node.list ++ far.brought))
          (λ f.
          let a = row_lists f new in
          let b = lists_new far.row far.same rules node entry asks bound own front_place back_place f in
          let c = sum_by-IsPermutation f (contents_of far.row) (contents_of inside ++ far.brought) far.came in
          let e = sum_by-append f (contents_of inside) far.brought in
          let g = sum_by-append f (contents_of members) (option_to_list node.list ++ far.brought) in
          let h = sum_by-append f (option_to_list node.list) far.brought in
          omega (arith, a, b, c, e, g, h))

      pages_left : far.needs + near_pages (nodes_in grown) ≤ near_pages (nodes_in members)
      pages_left =
          let a = row_pages new in
          let b = pages_new far.row far.same rules node entry asks bound own front_place back_place short in
          let c = far.pages in
          omega (arith, a, b, c)

      pub parted_grows : (placed : Piece) → MayName mid placed.body.roots → piece_of grown ≡ placed → GrowsFrom rules (put.Child position node) member path members placed [] was mid
      parted_grows placed may_placed is = record {
        before = stands.before;
        gone = gone;
        come = places_of new;
        behind = stands.behind;
        needs = needs;
        grown = grown;
        is = is;
        places_were = stands.places_were;
        places_are = stands.places_are new;
        brought = far.brought;
        moves = moves;
        pages = far.needs;
        few = omega (arith, few);
        rest = pages_left;
        once = once;
        brought_once = far.once;
        contents_went = subst (λ (fs : List Far). IsPermutation fs (fars_of (nodes_in members))) (sym (append-nil (fars_of (nodes_in members)))) (IsPermutation-refl (fars_of (nodes_in members)));
        contents_came = came;
        held = λ map. (replaces index members new less).held (held_by map) (hole_held map) (new_held map);
        may = may_placed;
        heavy = heavy;
        interval_is = interval_is;
        off = off_stays;
      }

    -- ... as the node is to stand
    pub placed_grows : (rules : List Rule) (node : LaidNode) (entry : Entry) → weight node.node ≤ k → IsWrittenNode (in_record node) → option_map_or (λ first. 0) node.list (content_pages node.node) ≡ 0 → IsAskedThere rules (piece_of members) member path node.node entry → entry ≢ Free
        → MayPut was (put.Child position node) → (placed : Piece) {mid : Held} → MayName mid placed.body.roots → IsNodePlaced entry (piece_of members) member path position index front back (in_record node) placed cut mid → GrowsFrom rules (put.Child position node) member path members placed [] was mid
    placed_grows rules node Standalone fits written short asks bound may placed {mid} may_placed made =
        let own : Proxy = made.0 in
        let roots : own.roots ≡ 1 = made.1 in
        let adds_own : AddsPiece (place_named own) (alone_piece (in_record node)) cut mid = made.2 in
        let row : IsWithRow (piece_of members) index (front ∷ own ∷ back ∷ []) placed = made.3 in
        let own_place : RecordPlace = place_named own in
        let new : Layout = parted own_place front_place back_place Standalone node front_row back_row in
        let needs : ℕ = cut_needs + piece_needs (alone_piece (in_record node)) in
        let added : AddsRecords (own_place ∷ []) [] (piece_needs (alone_piece (in_record node))) cut mid = piece_adds_record own_place (alone_piece (in_record node)) cut mid adds_own in
        let is : proxies_of new ≡ front ∷ own ∷ back ∷ [] =
        ap₂ (λ (x y : Proxy). x ∷ proxy_of own_place 1 ∷ y ∷ []) (sym front_is) (sym back_is) ∙ ap (λ (x : Proxy). front ∷ x ∷ back ∷ []) (sym (proxy_same own 1 roots)) in
        parted_grows rules node Standalone fits written short asks bound may own_place (own_place ∷ back_place ∷ []) needs (ap (λ (ps : List RecordPlace). front_place ∷ (places_of front_row ++ (own_place ∷ back_place ∷ ps))) (append-nil (places_of back_row)))
        (moves_turned (place_named proxy ∷ []) front_place back_place own_place [] needs p.start mid (adds_behind (place_named proxy ∷ []) (front_place ∷ back_place ∷ []) own_place [] cut_needs (piece_needs (alone_piece (in_record node))) p.start cut mid moves_cut added))
        (once_turned front_place back_place own_place (once_behind (place_named proxy ∷ []) (front_place ∷ back_place ∷ []) own_place [] cut_needs (piece_needs (alone_piece (in_record node))) p.start cut mid moves_cut added once_cut))
        (let n = piece_few (alone_piece (in_record node)) in let f = cut_few in omega (arith, n, f))
        (piece_stays front_place (piece_of front_row) added first_held) (piece_stays back_place (piece_of back_row) added second_held) (λ e. adds_own.holds) placed may_placed
        (row_piece index members new (front ∷ own ∷ back ∷ []) placed less is refl (omega arith) row)
    placed_grows rules node Cluster fits written short asks bound may placed {mid} may_placed made =
        let same : mid ≡ cut = made.0 in
        let between : IsPlacedBetween (piece_of members) member path position index front back (in_record node) placed = made.1 in
        let two : Piece = between.0 in
        let row : IsWithRow (piece_of members) index (front ∷ back ∷ []) two = between.1 in
        let new : Layout = in_two front_place back_place front_row back_row in
        let two_is : piece_of (replaced_at index new members) ≡ two =
        row_piece index members new (front ∷ back ∷ []) two less (ap₂ (λ (x y : Proxy). x ∷ y ∷ []) (sym front_is) (sym back_is)) (two_gap front_place back_place front_row back_row) (omega arith) row in
        let parts : AreLaidParts k (replaced_at index new members) = (replaces index members new less).light k (i.light).3 (parts_two far.row far.same front_place back_place) in
        subst (λ (h : Held). GrowsFrom rules (put.Child position node) member path members placed [] was h) (sym same)
        (parted_grows rules node Cluster fits written short asks bound may front_place (back_place ∷ []) cut_needs (ap (λ (ps : List RecordPlace). front_place ∷ (places_of front_row ++ (back_place ∷ ps))) (append-nil (places_of back_row))) moves_cut once_cut (let f = cut_few in omega (arith, f))
        first_held second_held (λ e. absurd (no_cluster e)) placed (subst (λ (h : Held). MayName h placed.body.roots) same may_placed)
        (between_is members member path position index before front_place back_place node front_row back_row w.tree w.first w.leads inside is_in.into w.some (wide_ahead far.row far.same) k placed parts (subst (λ (x : Piece). IsWithNode x member path position (in_record node) placed) (sym two_is) between.2)))
      where
        no_cluster : Cluster ≡ Standalone → ⊥
        no_cluster e = absurd (cc)
    placed_grows rules node Free fits written short asks bound may placed may_placed made = absurd (bound refl)
