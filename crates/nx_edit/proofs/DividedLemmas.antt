-- A piece that outweighs K, divided in the place of its record.
use Rattle.std.proofs.Common.{◌≡◌, ℕ, ◌+◌, ◌*◌, ◌<◌, ◌≤◌, ◌++◌, nat_le, Bool, true, false, if◌then◌else◌, List, [], ◌∷◌, length, Option, Some, refl, sym, ap, ◌∙◌, subst, arith, append-nil, IsPermutation}
use Rattle.std.proofs.lemmas.List.Sorted.{IsPermutation-refl}
use Rattle.std.specs.Prelude.{Result, Ok, Err, IfOk}
use Rattle.nx_host.specs.Disk.{Image}
use Rattle.nx_host.specs.declared.disk.Disk.{Ghosts}
use Rattle.nx_tree.specs.declared.node.Node.{Node}
use Rattle.nx_tree.specs.Forest.{nodes}
use Rattle.nx_holdings.specs.declared.header.Settings.{Settings}
use Rattle.nx_holdings.specs.Holdings.{Held, HoldsBy, chain_count}
use Rattle.nx_holdings.proofs.OneLemmas.{hold_one}
use Rattle.nx_records.specs.declared.records.Records.{Records}
use Rattle.nx_records.specs.declared.error.StoreError.{StoreError}
use Rattle.nx_records.specs.declared.error.StoreError.TheVariants as store
use Rattle.nx_records.specs.Records.{current_pages, has_ended, settings_of, StandsFor}
use Rattle.nx_records.specs.Refusals.{EndNow}
use Rattle.nx_piece.specs.declared.piece.Piece.{Piece}
use Rattle.nx_piece.specs.declared.piece.Proxy.{Proxy}
use Rattle.nx_piece.specs.Gapped.{End, Gap}
use Rattle.nx_piece.specs.Valid.{AreFar, AreNear, inline_length, longest_inline}
use Rattle.nx_matrix.specs.declared.rule.Rule.{Rule}
use Rattle.nx_cuts.specs.Cut.{Bare, Grown, Kept, width, AreFree, AreParts}
use Rattle.nx_layouts.specs.Layout.{RecordPlace, Layout, AreHeld, AreLaidParts, ArePlacedOnce, contents_of, laid_forest, laid_weight, lists_of, nodes_in, piece_body, piece_of, places_of, proxies_of, without_places}
use Rattle.nx_layouts.specs.Replace.{above_at, joined_layout, kept_at, replaced_at}
use Rattle.nx_layouts.proofs.DrawnLemmas.{drawn_free, drawn_wide}
use Rattle.nx_layouts.proofs.PlaceLemmas.{no_place}
use Rattle.nx_layouts.proofs.ReplaceLemmas.{forest-joined_layout}
use Rattle.nx_layouts.proofs.WithoutLemmas.{nodes_joined}
use Rattle.nx_hold.specs.Contents.{near_pages}
use Rattle.nx_hold.specs.Pieces.{IsTidy, MayName, PieceMap, held_by}
use Rattle.nx_hold.proofs.PieceLemmas.{some_same}
use Rattle.nx_hold.specs.Documents.{MovesRecords}
use Rattle.nx_drawn.specs.Splits.{SplitsRow}
use Rattle.nx_drafts.specs.Draft.{Draft, Ends, Grows, Stands, Comes, drawn_forest, layout_before, layout_after, came, draft_body, draft_count, draft_needs}
use Rattle.nx_drafts.proofs.GatherLemmas.{forest-layout_before}
use Rattle.nx_drafts.proofs.NeedsLemmas.{needs_few}
use Rattle.nx_drafts.proofs.PlacesLemmas.{count-layout_after, drawn_forest-layout_after, nodes_stay, places_are_both}
use Rattle.nx_divide.specs.declared.dividing.Row.{Row}
use Rattle.nx_divide.specs.Dividing.{NotSplitAt, PutsSome, SplitsAt, StandApart}
use Rattle.nx_divide.specs.Heavy.{MayBeDivided}
use Rattle.nx_divide.proofs.HeavyLemmas.{heavy_is_piece}
use Rattle.nx_edit.specs.Changing.{AreSplitOf, IsReplacedByRow}
use Rattle.nx_edit.proofs.CountLemmas.{proxies_few}
use Rattle.nx_edit.specs.Growing.{IsGrownMembers, PutsGrown, NotGrown, OfGrown}
use Rattle.nx_edit.specs.Rows.{row_nodes, IsReplaced}
use Rattle.nx_hold.proofs.RefusalLemmas.{no_end}
use Rattle.nx_hold.specs.Changes.{ComesTidyWhere}
use Rattle.nx_edit.proofs.GrownLemmas.{settings_there, below_stays, kept_all, once_beside, moved_beside}

-- with nothing beside it
joined_none : (a : Layout) → joined_layout a Bare ≡ a
joined_none Bare = refl
joined_none (Grown node below beside) = ap (Grown node below) (joined_none beside)
joined_none (Kept place members beside) = ap (Kept place members) (joined_none beside)

chain_few : (b : Bool) (n : ℕ) → (if b then 0 else chain_count (8 * n)) ≤ n
chain_few true n = omega arith
chain_few false n = omega arith

both_few : (k : ℕ) (c : Draft RecordPlace) → AreParts k (drawn_forest c)
    → (draft_needs c + draft_count c ≤ 2 * nodes (laid_forest (layout_before c))) × (AreFree (drawn_forest c) → draft_needs c + draft_count c + 2 * width (drawn_forest c) ≤ 2 * nodes (laid_forest (layout_before c)))
both_few k Ends h = (omega arith, λ free. omega arith)
both_few k (Grows node below beside) h =
    let one = (both_few k below h.0).0 in
    let other = both_few k beside h.1 in
    let few = other.0 in
    (omega (arith, one, few), λ free. let fewer = other.1 free in omega (arith, one, fewer))
both_few k (Stands place members beside) h =
    let some : 1 ≤ width (without_places members) = h.0 in
    let wide = drawn_wide members in
    let one = proxies_few k members h.3 (drawn_free members h.1) in
    let other = (both_few k beside h.4).0 in
    let both = nodes_joined (laid_forest members) (laid_forest (layout_before beside)) in
    (omega (arith, some, wide, one, other, both), λ free. absurd free)
both_few k (Comes mark members beside) h =
    let some : 1 ≤ width (drawn_forest members) = h.0 in
    let one = (both_few k members h.3).1 h.1 in
    let other = (both_few k beside h.4).0 in
    let pages = chain_few (nat_le (inline_length (draft_body members) (draft_count members)) longest_inline) (draft_count members) in
    let both : nodes (laid_forest (joined_layout (layout_before members) (layout_before beside))) ≡ nodes (laid_forest (layout_before members)) + nodes (laid_forest (layout_before beside)) =
    ap nodes (forest-joined_layout (layout_before members) (layout_before beside)) ∙ nodes_joined (laid_forest (layout_before members)) (laid_forest (layout_before beside)) in
    (omega (arith, some, one, other, pages, both), λ free. absurd free)

-- two pages for each node are enough for the records that come, and leave one for each proxy that stands for them
came_few : (k : ℕ) (c : Draft RecordPlace) → AreParts k (drawn_forest c) → draft_needs c + draft_count c ≤ 2 * nodes (laid_forest (layout_before c))
came_few k c h = (both_few k c h).0

-- a draft has the trees that stood, once its records have come
drafted_same : (draft : Draft RecordPlace) → row_nodes (without_places (layout_after draft)) ≡ nodes (laid_forest (layout_before draft))
drafted_same draft = ap row_nodes (drawn_forest-layout_after draft) ∙ ap nodes (sym (forest-layout_before draft))

module _ (was : Held) (pieces : PieceMap was) (piece : Piece) (place : RecordPlace) (members : Layout) (g : IsGrownMembers was pieces piece place members) (rules : List Rule) (room : ℕ) (above : Option Node) where
  abbrev k : ℕ
  k = (was.settings).k

  -- no part below is too heavy
  whole_parts : (draft : Draft RecordPlace) → AreLaidParts k (joined_layout (layout_after draft) Bare) → AreLaidParts k (layout_after draft)
  whole_parts draft light = subst (AreLaidParts k) (joined_none (layout_after draft)) light

  module _ {now : Held} (tidy : IsTidy was) (row : Row) (draft : Draft RecordPlace) (stands : layout_before draft ≡ members)
      (splits : SplitsRow was.settings rules room above (Kept tt (without_places members) Bare) (without_places (joined_layout (layout_after draft) Bare))) (light : AreLaidParts k (joined_layout (layout_after draft) Bare))
      (fits : laid_weight (layout_after draft) ≤ room) (items : row.items ≡ piece_body (layout_after draft)) (proxies : row.proxies ≡ proxies_of (layout_after draft))
      (moves : MovesRecords (place ∷ []) (came draft) [] [] (draft_needs draft) was now) (once : ArePlacedOnce (came draft))
      (held : (after : PieceMap now) → AreHeld (held_by after) (joined_layout (layout_after draft) Bare)) where
    alone : joined_layout (layout_after draft) Bare ≡ layout_after draft
    alone = joined_none (layout_after draft)

    are : IsPermutation (places_of (layout_after draft)) (came draft ++ places_of members)
    are = subst (λ (l : Layout). IsPermutation (places_of (layout_after draft)) (came draft ++ places_of l)) stands (places_are_both draft)

    -- with a page for each proxy of the row
    needs : draft_needs draft + draft_count draft ≤ 2 * row_nodes (without_places (layout_after draft))
    needs =
        let few = came_few k draft (subst (AreParts k) (drawn_forest-layout_after draft) (whole_parts draft light)) in
        let same = drafted_same draft in
        omega (arith, few, same)

    proxies_counted : length row.proxies ≡ draft_count draft
    proxies_counted = ap (λ (ps : List Proxy). length ps) proxies ∙ count-layout_after draft

    -- the nodes are those that stood, in order
    same_lists : contents_of (layout_after draft) ≡ contents_of members ++ []
    same_lists = ap lists_of (nodes_stay draft ∙ ap nodes_in stands) ∙ sym (append-nil (contents_of members))

    abbrev heavy_row : IsReplaced k (AreSplitOf was.settings rules room above (Kept tt (without_places members) Bare)) place members (nodes_in members) [] (places_of members) row.proxies [] was now
    heavy_row = record {
      row = layout_after draft;
      becomes = (
        subst (λ (l : Layout). SplitsRow was.settings rules room above (Kept tt (without_places members) Bare) (without_places l)) alone splits,
        fits,
      );
      proxies_are = proxies;
      held = λ after. subst (AreHeld (held_by after)) alone (held after);
      once = once_beside was pieces piece place members g tidy moves (places_of (layout_after draft)) are once;
      light = whole_parts draft light;
      brought = [];
      moves = moved_beside was pieces piece place members g tidy moves (places_of (layout_after draft)) are (row_nodes (without_places members) + 2 * row_nodes (without_places (layout_after draft)) + near_pages (nodes_in members))
          (omega (arith, needs));
      contents_went = kept_all was pieces piece place members g;
      contents_came = subst (λ (ls : List ℕ). IsPermutation ls (contents_of members ++ [])) (sym same_lists) (IsPermutation-refl (contents_of members ++ []));
      brought_once = tt;
      records_stay = λ other among. (below_stays was pieces piece place members g tidy moves other among).0;
      lists_stay = λ other count chain among. (below_stays was pieces piece place members g tidy moves other among).1 count chain;
    }

    pub heavy_put : (r : IsReplacedByRow k (AreSplitOf was.settings rules room above (Kept tt (without_places members) Bare)) place members (nodes_in members) [] (places_of members) row [] was now)
        × (was.free + length row.proxies ≤ now.free + (2 * row_nodes (without_places (r.0).row) + near_pages (nodes_in members)))
    heavy_put = ((heavy_row, items), let free = moves.free in let count = proxies_counted in omega (arith, needs, free, count))

-- records stand for one thing at most
stands_once : {D : Type 0} (d : Ghosts D) (records : Records) (disk : D) (saved other one two : Held) → StandsFor d records disk saved one → StandsFor d records disk other two → one ≡ two
stands_once d records disk saved other one two a b =
    let same : (b.keeps).image ≡ (a.keeps).image = some_same (sym (((b.keeps).step).settled).here ∙ (((a.keeps).step).settled).here) in
    hold_one (current_pages records (a.keeps).image) one two (records.head, a.holds) (records.head, subst (λ (i : Image). HoldsBy (current_pages records i) records.head two) same b.holds)

module _ {D : Type 0} (d : Ghosts D) (rules : List Rule) (room : ℕ) (above : Option Node) (piece : Piece) (place : RecordPlace) (r0 r1 : Records) (x0 x1 : D) where
  abbrev settings : Settings
  settings = settings_of r0

  -- what is promised of each row that has the interval
  abbrev SplitsEach : Row → Type 0
  SplitsEach row =
      (top : Option Node) (index : ℕ) (whole members : Layout) → kept_at index whole ≡ Some members → piece_of members ≡ piece → above_at index top whole ≡ above → AreLaidParts settings.k (replaced_at index Bare whole) → AreLaidParts settings.k members
      → index < length (proxies_of whole) → SplitsAt d settings rules room top index place r0 r1 x0 x1 whole members row

  -- what came of what was held, by a split of the interval alone
  abbrev ComesOf : Layout → Draft RecordPlace → (was now : Held) → Type 0
  ComesOf members draft was now =
      MovesRecords (place ∷ []) (came draft) [] [] (draft_needs draft) was now × ArePlacedOnce (came draft) × MayName now (piece_body (layout_after draft))
      × ((before : PieceMap was) (after : PieceMap now) → StandApart place Bare → StandApart place members → MayName was (Gap 1 End) → AreHeld (held_by before) Bare → AreHeld (held_by before) members
      → AreHeld (held_by after) (joined_layout (layout_after draft) Bare))

  heavy_done : (row : Row) → ComesTidyWhere d r0 r1 x0 x1 (λ was. MayName was piece.body.roots) (PutsSome place row) → SplitsEach row → ComesTidyWhere d r0 r1 x0 x1 (λ was. MayName was piece.body.roots) (PutsGrown rules room above piece place row)
  heavy_done row comes each saved was stands tidy may =
      let now = comes saved was stands tidy may in
      let set : was.settings ≡ settings = settings_there d r0 x0 saved was stands in (
        now.0,
        now.1,
        now.2,
        (
          (now.3).3,
          λ pieces members g.
              let s = each above 0 (Kept place members Bare) members refl g.is refl tt (subst (λ (t : Settings). AreLaidParts t.k members) set (g.heavy).parts) (omega arith) in
              let mid = s.comes saved was stands tidy g.may in
              let facts : ComesOf members s.draft was now.0 = subst (λ (h : Held). ComesOf members s.draft was h) (stands_once d r1 x1 saved saved mid.0 now.0 mid.1 now.1) mid.3 in
              heavy_put was pieces piece place members g rules room above tidy row s.draft s.stands
              (subst (λ (t : Settings). SplitsRow t rules room above (Kept tt (without_places members) Bare) (without_places (joined_layout (layout_after s.draft) Bare))) (sym set) s.splits)
              (subst (λ (t : Settings). AreLaidParts t.k (joined_layout (layout_after s.draft) Bare)) (sym set) s.light) s.fits s.items_are s.proxies_are facts.0 facts.1
              (λ after. facts.3 pieces after (no_place place) (g.once).0 (λ far among. absurd (no_place far among)) tt g.held),
        ),
      )

  pub heavy_ok : (r : Result Row StoreError) → IfOk r (λ row. ComesTidyWhere d r0 r1 x0 x1 (λ was. MayName was piece.body.roots) (PutsSome place row)) → IfOk r SplitsEach
      → IfOk r (λ row. ComesTidyWhere d r0 r1 x0 x1 (λ was. MayName was piece.body.roots) (PutsGrown rules room above piece place row))
  heavy_ok (Ok row) comes each = heavy_done row comes each
  heavy_ok (Err e) comes each = tt

  pub heavy_refused : (e : StoreError) → has_ended r0 ≡ false → NotSplitAt d settings rules room above place piece e r0 r1 x0 x1 → NotGrown d piece place e r0 r1 x0 x1
  heavy_refused store.Disk runs refused = refused
  heavy_refused store.Full runs refused = record {
    runs = refused.runs;
    keeps = refused.keeps;
    none_free = refused.none_free;
    few = λ saved now pieces members stands tidy g.
        let n = refused.few members g.is (subst (λ (t : Settings). AreLaidParts t.k members) (settings_there d r0 x0 saved now stands) (g.heavy).parts) in
        let few = n.few saved now stands tidy in
        let needs = needs_few (n.divides).limit n.draft (n.divides).formed in
        let same : nodes (laid_forest (layout_before n.draft)) ≡ nodes (laid_forest members) = ap (λ (l : Layout). nodes (laid_forest l)) n.stands in
        omega (arith, few, needs, same);
  }
  heavy_refused (store.Damaged other) runs refused = (refused.0, λ saved now pieces members stands tidy g. refused.1 saved now stands tidy (g.there).0 (g.there).1)
  heavy_refused store.Ended runs refused = absurd (no_end r0 runs refused.0)
  heavy_refused store.Memory runs refused = refused
  heavy_refused store.Exists runs refused = absurd refused
  heavy_refused store.NotAStore runs refused = absurd refused

  -- a piece that may not be divided is that of no such interval
  pub undivided : AreNear piece.body.roots → AreFar piece.body.roots → settings.k ≤ 256 → (MayBeDivided settings.k piece → ⊥) → EndNow r0 r1 → EndNow r0 r1 × OfGrown d r0 x0 piece place (λ now members. ⊥)
  undivided near far most not ends = (
    ends,
    λ saved now pieces members stands tidy g.
        let set : now.settings ≡ settings = settings_there d r0 x0 saved now stands in
        let low : (now.settings).k ≤ 256 = subst (λ (t : Settings). t.k ≤ 256) (sym set) most in
        let few : row_nodes (without_places members) ≤ 524288 = g.few in
        let may : MayBeDivided (now.settings).k (piece_of members) =
        heavy_is_piece (now.settings).k ((now.settings).k + (now.settings).k) ((now.settings).k + 1) members low (omega (arith, low)) (omega (arith, low)) (subst (λ (p : Piece). AreNear p.body.roots) (sym g.is) near)
        (subst (λ (p : Piece). AreFar p.body.roots) (sym g.is) far) g.heavy few in
        not (subst (λ (t : Settings). MayBeDivided t.k piece) set (subst (MayBeDivided (now.settings).k) g.is may)),
  )
