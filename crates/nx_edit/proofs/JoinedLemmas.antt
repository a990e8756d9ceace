-- A node joined an interval below a node of a record's own: what the interval below is then, and the one above.
use Rattle.std.proofs.Common.{◌≡◌, ◌⊎◌, ℕ, zero, suc, ◌+◌, ◌-◌, ◌*◌, ◌<◌, ◌≤◌, nat_le, Bool, List, [], ◌∷◌, ◌++◌, length, take, drop, Option, None, Some, inl, inr, refl, sym, ap, ◌∙◌, subst, arith, append-nil, IsPermutation}
use Rattle.std.specs.Prelude.{IsSome, Contains, true, if◌then◌else◌}
use Rattle.std.specs.List.{slice_get}
use Rattle.std.specs.Option.{option_map_or, option_to_list}
use Rattle.std.proofs.lemmas.Bool.Decides.{nat_tests}
use Rattle.std.proofs.lemmas.List.Sums.{sum_by-append}
use Rattle.std.proofs.lemmas.List.Sorted.{IsPermutation-refl, sum_by-IsPermutation}
use Rattle.nx_tree.specs.declared.node.Node.{Node}
use Rattle.nx_tree.specs.Forest.{Forest, Empty, Plant}
use Rattle.nx_tree.specs.Document.{most_nodes}
use Rattle.nx_weights.specs.Weight.{longest_near, weight}
use Rattle.nx_holdings.specs.Holdings.{Held, chain_count}
use Rattle.nx_piece.specs.declared.piece.Far.{Far}
use Rattle.nx_piece.specs.declared.piece.Piece.{Piece}
use Rattle.nx_piece.specs.declared.piece.Proxy.{Proxy}
use Rattle.nx_piece.specs.Contents.{fars_in}
use Rattle.nx_piece.specs.Gapped as gapped
use Rattle.nx_piece.specs.Gapped.{GappedTree, End, Grow}
use Rattle.nx_piece.specs.Locate.{Outside, reached_in}
use Rattle.nx_piece.specs.PieceNode.{IsNearWith}
use Rattle.nx_piece.specs.Valid.{AreNear}
use Rattle.nx_piece_edits.specs.Contents.{BringsContent}
use Rattle.nx_piece_edits.specs.Planting.{put_at, IsWithRoot}
use Rattle.nx_piece_edits.proofs.ContentsLemmas.{edits_bring_content}
use Rattle.nx_matrix.specs.Label.{label}
use Rattle.nx_matrix.specs.Rules.{entry_of}
use Rattle.nx_matrix.specs.declared.rule.Entry.{Entry}
use Rattle.nx_matrix.specs.declared.rule.Entry.TheVariants.{Free}
use Rattle.nx_matrix.specs.declared.rule.Rule.{Rule}
use Rattle.nx_cuts.specs.Cut.{AreFree, CutForest, Bare, Grown, Kept, width}
use Rattle.nx_cuts.proofs.FeasibleLemmas.{trees, trees-forest}
use Rattle.nx_split.specs.Piece.{asked}
use Rattle.nx_layouts.specs.Layout.{RecordPlace, LaidNode, Layout, ArePlacedOnce, contents_of, in_record, laid_forest, laid_weight, lists_of, nodes_in, piece_body, piece_of, places_of, proxies_of, shown_with, without_places}
use Rattle.nx_layouts.specs.Replace.{replaced_at}
use Rattle.nx_layouts.specs.Cutting.{member_tree, LeadsInto, LeadsOn, StandsIn}
use Rattle.nx_layouts.specs.Planting.{with_node, RootGoesIn}
use Rattle.nx_layouts.proofs.DivideLemmas.{root_is_planted}
use Rattle.nx_layouts.proofs.DrawnLemmas.{drawn_free, drawn_wide, free_drawn}
use Rattle.nx_layouts.proofs.NodeLemmas.{all_change}
use Rattle.nx_layouts.proofs.PathLemmas.{path_leads_on}
use Rattle.nx_hold.specs.Changes.{place_named}
use Rattle.nx_hold.specs.Contents.{content_pages, near_pages}
use Rattle.nx_hold.specs.Documents.{MovesRecords}
use Rattle.nx_hold.specs.Pieces.{HasContent, HoldsPiece, IsNoProxies, IsTidy, MayName, PieceMap, held_by}
use Rattle.nx_hold.proofs.MapLemmas.{held_at}
use Rattle.nx_hold.proofs.TidyLemmas.{may_name_own}
use Rattle.nx_drawn.proofs.GrowthLemmas.{nodes_light, width_light}
use Rattle.nx_drafts.proofs.LabelLemmas.{row_splits_by_label}
use Rattle.nx_divide.specs.declared.dividing.Row.{Row}
use Rattle.nx_edit.specs.Changing as put
use Rattle.nx_edit.specs.Changing.{changed_interval, AreSplitOf, IsPossibleIn, IsReplacedByRow, IsWrittenNode, MayPut, change_needs}
use Rattle.nx_edit.specs.Editing.{places_off}
use Rattle.nx_edit.specs.Growing.{IsGrownMembers, grown_needs}
use Rattle.nx_edit.specs.Passing.{put_needs}
use Rattle.nx_edit.specs.Planting.{IsWithin, IsAskedThere}
use Rattle.nx_edit.specs.Removing.{fars_of}
use Rattle.nx_edit.specs.RowPut.{IsPutAlone, IsTreeAt, MayHaveRow, piece_with_row}
use Rattle.nx_edit.specs.Rows.{row_nodes, IsHeldInterval}
use Rattle.nx_edit.proofs.BetweenLemmas.{most_put}
use Rattle.nx_edit.proofs.ChangeCalls.{IsAbove, node_above, same_label}
use Rattle.nx_edit.proofs.FarLemmas.{near-append}
use Rattle.nx_edit.proofs.GrownThroughLemmas.{moves_within}
use Rattle.nx_edit.proofs.JoinLemmas.{leads_to_child, interval_joined}
use Rattle.nx_edit.proofs.OffLemmas.{off_among}
use Rattle.nx_edit.proofs.OrderLemmas.{lists_by_sums}
use Rattle.nx_edit.proofs.OwnLemmas.{nodes_alone, free_wide}
use Rattle.nx_edit.proofs.PassedLemmas.{IsKeptAround, all_around, into_member, piece_same, there, place_inside, inside_proxy, inside_interval, above_there}
use Rattle.nx_edit.proofs.PlantLemmas.{no_more_pages, node_there, one_more_list}
use Rattle.nx_edit.proofs.RefillLemmas.{below_few, row_may_stand, row_few, row_put}

-- the path with one position more, up to there and behind it
drop_way : (path : List ℕ) (position : ℕ) → drop (length path + 1) (path ++ position ∷ []) ≡ []
drop_way [] position = refl
drop_way (q ∷ path) position = ap (λ (n : ℕ). drop n (q ∷ (path ++ position ∷ []))) (let e : length (q ∷ path) + 1 ≡ suc (length path + 1) = omega arith in e) ∙ drop_way path position

take_front : (path rest : List ℕ) → take (length path) (path ++ rest) ≡ path
take_front [] rest = refl
take_front (q ∷ path) rest = ap (λ (n : ℕ). take n (q ∷ (path ++ rest))) (let e : length (q ∷ path) ≡ suc (length path) = omega arith in e) ∙ ap (λ (ps : List ℕ). q ∷ ps) (take_front path rest)

take_way : (path : List ℕ) (position : ℕ) → take (length path + 1 - 1) (path ++ position ∷ []) ≡ path
take_way path position = ap (λ (n : ℕ). take n (path ++ position ∷ [])) (let e : length path + 1 - 1 ≡ length path = omega arith in e) ∙ take_front path (position ∷ [])

-- a tree stands at each position among the trees
tree_there : (f : Forest) (member : ℕ) → member < trees f → IsSome (member_tree f member [])
tree_there Empty member less = absurd (omega (arith, less))
tree_there (Plant n b s) zero less = refl
tree_there (Plant n b s) (suc member) less = tree_there s member (omega (arith, less))

-- a node that is written stands in its record with no list to come
no_pages_of : (node : Node) (list : Option ℕ) → IsNearWith (shown_with node list).node.content (shown_with node list).far → option_map_or (λ first. 0) list (content_pages node) ≡ 0
no_pages_of node None near =
    let e : nat_le (length node.content) longest_near ≡ true = grind (arith, nat_tests, near) in
    subst (λ (b : Bool). (if b then 0 else chain_count (length node.content)) ≡ 0) (sym e) refl
no_pages_of node (Some first) near = refl

pub no_pages : (node : LaidNode) → IsWrittenNode (in_record node) → option_map_or (λ first. 0) node.list (content_pages node.node) ≡ 0
no_pages node written = no_pages_of node.node node.list written.0

-- what is asked of a node's item is asked of the node
pub asked_laid : (rules : List Rule) (piece : Piece) (member : ℕ) (path : List ℕ) (node : LaidNode) (entry : Entry) → IsAskedThere rules piece member path (in_record node).node entry → IsAskedThere rules piece member path node.node entry
asked_laid rules piece member path node entry asks tree first leads = ap (λ (l : List ℕ). entry_of rules (label tree.node.node) l) (sym (same_label node.node node.list)) ∙ asks tree first leads

module _ (rules : List Rule) (node : LaidNode) {was : Held} (pieces : PieceMap was) (piece : Piece) (place : RecordPlace) (member : ℕ) (path : List ℕ) (position : ℕ) (proxy : Proxy) (index before : ℕ) (members : Layout)
    (i : IsHeldInterval was pieces (Some piece) place member path most_nodes members) (w : IsWithin piece member path position proxy index before) where
  abbrev k : ℕ
  k = (was.settings).k

  abbrev way : List ℕ
  way = path ++ position ∷ []

  leads : reached_in (piece_of members) member way ≡ Outside index before (length path + 1)
  leads = ap (λ (p : Piece). reached_in p member way) (sym i.is) ∙ leads_to_child piece member path position w.tree w.first index before w.leads w.there

  pub on : LeadsOn members member way index before (length path + 1)
  on = path_leads_on members member way index before (length path + 1) leads

  abbrev pub inside : Layout
  inside = on.inside

  into : LeadsInto index before [] inside member way members
  into = subst (λ (rest : List ℕ). LeadsInto index before rest inside member way members) (drop_way path position) on.into

  same : member_tree (laid_forest members) member way ≡ member_tree (laid_forest inside) before []
  same = on.same ∙ ap (λ (rest : List ℕ). member_tree (laid_forest inside) before rest) (drop_way path position)

  less_before : before < width inside
  less_before = into_member index before [] inside member way members into

  -- the way to the member that is to stand behind the node
  there_too : IsHeldInterval was pieces (Some piece) place member way most_nodes members
  there_too = record {
    is = i.is;
    held = i.held;
    once = i.once;
    light = i.light;
    leads =
        let wide = trees-forest (without_places inside) in
        let drawn = drawn_wide inside in
        let less = less_before in
        subst IsSome (sym same) (tree_there (laid_forest inside) before (omega (arith, wide, drawn, less)));
    few = i.few;
  }

  stands : StandsIn k index inside members
  stands = there was pieces (Some piece) place member way most_nodes members there_too index before [] inside into

  at_inside : place_named proxy ≡ place_inside was pieces (Some piece) place member way most_nodes members there_too index before [] inside into
  at_inside = inside_proxy was pieces (Some piece) place member way most_nodes members there_too index before [] inside into proxy (ap (λ (p : Piece). slice_get p.proxies index) (sym i.is) ∙ w.named)

  interval : IsHeldInterval was pieces None (place_named proxy) before [] most_nodes inside
  interval =
      subst (λ (p : RecordPlace). IsHeldInterval was pieces None p before [] most_nodes inside) (sym at_inside)
      (inside_interval was pieces (Some piece) place member way most_nodes members there_too index before [] inside into same)

  free_inside : AreFree inside
  free_inside = drawn_free inside (interval.light).1

  -- its record is there
  pub inside_holds : HoldsPiece was (place_named proxy) (piece_of inside)
  inside_holds = held_at was pieces (place_named proxy) (piece_of inside) ((interval.held).0).there

  -- and has so many roots
  pub inside_wide : before ≤ gapped.gapped_width (piece_body inside)
  inside_wide = let e = free_wide inside free_inside in let less = less_before in omega (arith, e, less)

  goes : RootGoesIn k node before inside
  goes = root_is_planted k node before inside free_inside (let less = less_before in omega (arith, less))

  abbrev pub grown : Layout
  grown = with_node node before inside

  -- the nodes that are kept below are among those kept here
  around_it : IsKeptAround was pieces (Some piece) place member way most_nodes members there_too index before [] inside into (nodes_in inside) (nodes_in members)
  around_it = all_around was pieces (Some piece) place member way most_nodes members there_too index before [] inside into

  module _ (tree : GappedTree) (at : IsTreeAt piece member path tree) (asks : IsAskedThere rules piece member path node.node Free) (possible : IsPossibleIn k rules (put.Child position node) member path members)
      (short : option_map_or (λ first. 0) node.list (content_pages node.node) ≡ 0) (tidy : IsTidy was) (top : Option Node) where
    abbrev parent : Node
    parent = tree.node.node

    abbrev wanted : CutForest
    wanted = changed_interval rules (put.Child position node) member path members

    -- the node above the interval below
    up : IsAbove index members top parent
    up =
        node_above piece member way index before (length path + 1) members parent top (drawn_free members (i.light).1) i.is (leads_to_child piece member path position w.tree w.first index before w.leads w.there)
        (tree, at.0, ap (reached_in piece member) (take_way path position) ∙ at.1, refl)

    free : asked rules up.whole node.node ≡ Free
    free = ap (λ (l : List ℕ). entry_of rules l (label node.node)) (sym up.alike) ∙ asks tree at.0 at.1

    whole_is : Kept tt (without_places (replaced_at index (Kept place grown Bare) members)) Bare ≡ wanted
    whole_is =
        ap (λ (l : Layout). Kept tt (without_places (replaced_at index (Kept place l Bare) members)) Bare) (sym goes.same)
        ∙ interval_joined node place rules up.whole free position index before inside member path members top into w.some up.above

    grown_nodes : row_nodes (without_places grown) ≤ row_nodes wanted
    grown_nodes =
        let few = below_few rules was pieces (Some piece) place member way members there_too index before [] inside into grown wanted whole_is in
        let alone = nodes_alone place grown in
        omega (arith, few, alone)

    -- no long content came
    grown_pages : near_pages (nodes_in grown) ≤ near_pages (nodes_in inside)
    grown_pages = no_more_pages (nodes_in inside) (nodes_in grown) node (nodes_in inside) (nodes_in grown) (all_change (nodes_in inside) (nodes_in grown)) (goes.goes).changes short

    grown_lists : IsPermutation (lists_of (nodes_in grown)) (lists_of (nodes_in inside) ++ (option_to_list node.list ++ []))
    grown_lists = one_more_list (nodes_in inside) (nodes_in grown) node (nodes_in inside) (nodes_in grown) (all_change (nodes_in inside) (nodes_in grown)) (goes.goes).changes

    -- the interval below with the node
    pub joined_members : MayPut was (put.Child position node) → (fits : weight node.node ≤ k) (inner planted : Piece) → inner ≡ piece_of inside → MayName was planted.body.roots → IsWithRoot inner before (in_record node) planted
        → IsGrownMembers was pieces planted (place_named proxy) grown
    joined_members may fits inner planted inner_is names p = record {
      is = grown_is;
      there = (piece_of inside, inside_holds);
      held = (goes.goes).held (held_by pieces) (λ first e. (may first e).0) (interval.held).1;
      may = subst (λ (x : Piece). MayName was x.body.roots) (sym grown_is) names;
      once = subst (λ (ps : List RecordPlace). ArePlacedOnce (place_named proxy ∷ ps)) (append-nil (places_of inside) ∙ sym (goes.goes).places) interval.once;
      heavy =
          let light : laid_weight inside ≤ k = (interval.light).2 in
          let few = width_light (without_places inside) (interval.light).1 in
          let wide = (goes.goes).wide in
          let drawn = drawn_wide grown in
          let was_drawn = drawn_wide inside in
          let weighs = (goes.goes).weighs in
          record {
            some = omega (arith, wide, drawn);
            few = omega (arith, few, light, wide, drawn, was_drawn);
            free = free_drawn grown ((goes.goes).free free_inside);
            light = omega (arith, light, weighs, fits);
            nodes = most_put k (λ r. Grown node Bare r) (λ r h. (fits, tt, h)) before inside (nodes_light k (without_places inside) light);
            parts = (goes.goes).light ((interval.light).3);
          };
      few = let n = grown_nodes in let all : row_nodes wanted ≤ most_nodes = possible.few in omega (arith, n, all);
    }
      where
        grown_is : piece_of grown ≡ planted
        grown_is =
            piece_same (piece_of grown) planted
            (ap piece_body (sym goes.same) ∙ goes.body (proxies_of inside) ∙ ap (λ (x : Piece). put_at (λ f. Grow (in_record node) End f) before x.body.roots x.proxies) (sym inner_is) ∙ sym p.body)
            ((goes.goes).proxies ∙ ap (λ (x : Piece). x.proxies) (sym inner_is) ∙ sym p.proxies)

    -- fewer pages were free than may be needed, where fewer were than the interval below may need
    pub joined_few : was.free < grown_needs grown → was.free < change_needs rules (put.Child position node) member path members
    joined_few few =
        let n = grown_nodes in
        let pages = grown_pages in
        let all = ap (λ (ns : List LaidNode). near_pages ns) around_it.off in
        let front = near-append around_it.before_it (nodes_in inside ++ around_it.behind_it) in
        let middle = near-append (nodes_in inside) around_it.behind_it in
        omega (arith, few, n, pages, all, front, middle)

    -- the interval below was put, where so much room is in the part above
    module _ {mid : Held} (room : ℕ) (room_is : room ≡ k - gapped.gapped_weight piece.body.roots) (row : Row) (near : AreNear row.items)
        (t : (r : IsReplacedByRow k (AreSplitOf was.settings rules room (Some parent) (Kept tt (without_places grown) Bare)) (place_named proxy) grown (nodes_in grown) [] (places_of grown) row [] was mid)
        × (was.free + length row.proxies ≤ mid.free + (2 * row_nodes (without_places (r.0).row) + near_pages (nodes_in grown)))) where
      -- it is what the members leave
      left_is : room ≡ k - gapped.gapped_weight (piece_body members)
      left_is = room_is ∙ ap (λ (p : Piece). k - gapped.gapped_weight p.body.roots) i.is

      both : (r : IsReplacedByRow k (AreSplitOf was.settings rules room (Some up.whole) (Kept tt (without_places grown) Bare)) (place_inside was pieces (Some piece) place member way most_nodes members there_too index before [] inside into) inside (nodes_in inside)
          (option_to_list node.list) (places_off true (before ∷ []) inside) row [] was mid)
          × (was.free + length row.proxies ≤ mid.free + (row_nodes (without_places inside) + 2 * row_nodes (without_places (r.0).row) + near_pages (nodes_in inside)))
      both =
          let r = (t.0).0 in
          let more : ℕ = 2 * row_nodes (without_places r.row) in
          let among : (other : RecordPlace) → Contains (places_off true (before ∷ []) inside) other → Contains (places_of grown) other =
          λ other off. subst (λ (ps : List RecordPlace). Contains ps other) (sym (goes.goes).places) (off_among true (before ∷ []) inside other off) in
          let pages = grown_pages in
          let free = t.1 in
          subst
          (λ (p : RecordPlace). (s : IsReplacedByRow k (AreSplitOf was.settings rules room (Some up.whole) (Kept tt (without_places grown) Bare)) p inside (nodes_in inside) (option_to_list node.list) (places_off true (before ∷ []) inside) row [] was mid)
          × (was.free + length row.proxies ≤ mid.free + (row_nodes (without_places inside) + 2 * row_nodes (without_places (s.0).row) + near_pages (nodes_in inside))))
          at_inside (
            (
              record {
                row = r.row;
                becomes = (row_splits_by_label was.settings rules room parent up.whole (Kept tt (without_places grown) Bare) (without_places r.row) up.alike (r.becomes).0, (r.becomes).1);
                proxies_are = r.proxies_are;
                held = r.held;
                once = r.once;
                light = r.light;
                brought = r.brought;
                moves =
                    moves_within (place_named proxy ∷ places_of inside) (places_of r.row) r.brought (row_nodes (without_places grown) + more + near_pages (nodes_in grown)) (row_nodes (without_places inside) + more + near_pages (nodes_in inside)) was mid
                    (omega (arith, free, pages))
                    (subst (λ (ps : List RecordPlace). MovesRecords (place_named proxy ∷ ps) (places_of r.row) [] r.brought (row_nodes (without_places grown) + more + near_pages (nodes_in grown)) was mid) (goes.goes).places r.moves);
                contents_went = subst (λ (fs : List Far). IsPermutation fs (fars_of (nodes_in inside))) (sym (append-nil (fars_of (nodes_in inside)))) (IsPermutation-refl (fars_of (nodes_in inside)));
                contents_came = came r.row r.brought r.contents_came;
                brought_once = r.brought_once;
                records_stay = λ other off. r.records_stay other (among other off);
                lists_stay = λ other count chain off. r.lists_stay other count chain (among other off);
              },
              (t.0).1,
            ),
            omega (arith, free, pages),
          )
        where
          came : (new : Layout) (brought : List ℕ) → IsPermutation (contents_of new) (lists_of (nodes_in grown) ++ ([] ++ brought)) → IsPermutation (contents_of new) (lists_of (nodes_in inside) ++ (option_to_list node.list ++ brought))
          came new brought comes =
              lists_by_sums (contents_of new) (lists_of (nodes_in inside) ++ (option_to_list node.list ++ brought)) (λ f.
              let one = sum_by-IsPermutation f (contents_of new) (lists_of (nodes_in grown) ++ brought) comes in
              let two = sum_by-IsPermutation f (lists_of (nodes_in grown)) (lists_of (nodes_in inside) ++ (option_to_list node.list ++ [])) grown_lists in
              let a = sum_by-append f (lists_of (nodes_in grown)) brought in
              let b = sum_by-append f (lists_of (nodes_in inside)) (option_to_list node.list ++ []) in
              let c = sum_by-append f (option_to_list node.list) [] in
              let e = sum_by-append f (lists_of (nodes_in inside)) (option_to_list node.list ++ brought) in
              let h = sum_by-append f (option_to_list node.list) brought in
              omega (arith, one, two, a, b, c, e, h))

      pub joined_may_have : MayHaveRow k piece row
      joined_may_have = row_may_stand rules was pieces (Some piece) place member way members there_too index before [] inside into grown wanted whole_is possible.few up.whole room left_is row both.0 piece i.is

      pub joined_row_few : mid.free < put_needs (piece_with_row index row piece) → was.free < change_needs rules (put.Child position node) member path members
      joined_row_few few =
          row_few rules was pieces (Some piece) place member way members there_too index before [] inside into grown wanted whole_is possible.few way [] into tidy up.whole room left_is row near both.0 both.1 around_it piece i.is few

      pub joined_above_there : HoldsPiece mid place (piece_of members)
      joined_above_there = above_there was pieces (Some piece) place member way most_nodes members there_too index before [] inside into tidy ((both.0).0).moves

      pub joined_put : {now : Held} (tidier : IsTidy mid) (outer : ℕ) (own : Row) → IsPutAlone place (piece_with_row index row piece) own mid now
          → (s : IsReplacedByRow k (AreSplitOf was.settings rules outer top wanted) place members (nodes_in members) (option_to_list node.list) (places_off true (member ∷ way) members) own [] was now)
          × (was.free + length own.proxies ≤ now.free + (row_nodes (without_places members) + 2 * row_nodes (without_places (s.0).row) + near_pages (nodes_in members)))
      joined_put tidier outer own puts =
          row_put rules was pieces (Some piece) place member way members there_too index before [] inside into grown wanted whole_is possible.few way [] into tidy up.whole room left_is row near both.0 both.1 around_it outer top up.above tidier piece i.is own puts

-- what the piece of the interval below names with the node may be named
pub joined_may : {was : Held} (node : LaidNode) (position before : ℕ) (below : RecordPlace) (inner planted : Piece) → IsTidy was → HoldsPiece was below inner → MayPut was (put.Child position node) → IsWithRoot inner before (in_record node) planted
    → MayName was planted.body.roots
joined_may {was} node position before below inner planted tidy holds may p far among = by_case (brings.fars far among)
  where
    brings : BringsContent (in_record node) inner.body.roots planted.body.roots
    brings = edits_bring_content.root_comes inner before (in_record node) planted p

    by_case : ((in_record node).far ≡ Some far) ⊎ Contains (fars_in inner.body.roots) far → HasContent was far × IsNoProxies was far.first
    by_case (inl own) = node_there position node.node node.list was far may own
    by_case (inr old) = may_name_own was below inner tidy holds far old
