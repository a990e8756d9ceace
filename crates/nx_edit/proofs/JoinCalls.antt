-- The calls that put a node among the members of an interval, one behind the other.
use Rattle.std.proofs.Common.{◌≡◌, ℕ, ◌+◌, ◌-◌, ◌*◌, ◌<◌, ◌≤◌, List, [], length, Option, None, Some, refl, sym, ap, ap₂, ◌∙◌, subst, arith}
use Rattle.std.specs.Prelude.{false}
use Rattle.std.specs.Option.{option_map_or}
use Rattle.std.proofs.lemmas.Bool.{false≢true}
use Rattle.nx_host.specs.declared.disk.Disk.{Ghosts}
use Rattle.nx_host.specs.Still.{IsStill}
use Rattle.nx_tree.specs.declared.node.Node.{Node}
use Rattle.nx_tree.specs.Document.{most_nodes}
use Rattle.nx_weights.specs.Weight.{weight}
use Rattle.nx_holdings.specs.Holdings.{Held}
use Rattle.nx_holdings.specs.declared.header.Settings.{Settings}
use Rattle.nx_records.specs.declared.records.Records.{Records}
use Rattle.nx_records.specs.declared.error.StoreError.{StoreError}
use Rattle.nx_records.specs.declared.error.StoreError.TheVariants as store
use Rattle.nx_records.specs.Records.{has_ended, settings_of, KeepsSaved, LeavesRecords, StandsFor}
use Rattle.nx_records.specs.Refusals.{EndNow, RunsOn, NotRead}
use Rattle.nx_records.proofs.LeaveLemmas.{leaves_runs, leaves_ends, leaves_saved, leaves_stand}
use Rattle.nx_piece.specs.declared.piece.Piece.{Piece}
use Rattle.nx_piece.specs.declared.piece.Proxy.{Proxy}
use Rattle.nx_piece.specs.Gapped.{Gapped, GappedTree, End, Gap, gapped_weight, gapped_width}
use Rattle.nx_piece.specs.PieceNode.{node_weight}
use Rattle.nx_piece.specs.Valid.{AreNear}
use Rattle.nx_piece_edits.specs.Planting.{IsWithRoot}
use Rattle.nx_matrix.specs.declared.rule.Entry.TheVariants.{Free}
use Rattle.nx_matrix.specs.declared.rule.Rule.{Rule}
use Rattle.nx_cuts.specs.Cut.{Bare, Kept}
use Rattle.nx_layouts.specs.Layout.{RecordPlace, LaidNode, Layout, in_record, nodes_in, piece_of, places_of, without_places}
use Rattle.nx_layouts.proofs.NodeLemmas.{items_show_nodes}
use Rattle.nx_hold.specs.Changes.{place_named, ComesTidyWhere}
use Rattle.nx_hold.specs.Contents.{content_pages, near_pages}
use Rattle.nx_hold.specs.Pieces.{HasNamedList, HoldsPiece, HoldsNone, IsTidy, MayName, PieceMap}
use Rattle.nx_hold.proofs.TidyLemmas.{tidy_named}
use Rattle.nx_hold.proofs.RefusalLemmas.{runs_then, saved_then}
use Rattle.nx_divide.specs.declared.dividing.Row.{Row}
use Rattle.nx_nav.specs.declared.routing.PassedRecord.{PassedRecord}
use Rattle.nx_edit.specs.Changing as put
use Rattle.nx_edit.specs.Changing.{AreSplitOf, IsPossibleIn, IsReplacedByRow, IsWrittenNode, MayPut, MayPutIn, ChangesKnown, NotChangedKnown}
use Rattle.nx_edit.specs.Growing.{IsGrownMembers, NotGrown, PutsGrown}
use Rattle.nx_edit.specs.Passing.{IsPassedAs, NotPassed}
use Rattle.nx_edit.specs.Planting.{IsWithin, IsAskedThere}
use Rattle.nx_edit.specs.RowPut.{IsPutAlone, IsTreeAt, MayHaveRow, piece_with_row}
use Rattle.nx_edit.specs.Rows.{row_nodes, IsHeldInterval}
use Rattle.nx_edit.proofs.GrownLemmas.{settings_there}
use Rattle.nx_edit.proofs.JoinedLemmas.{inside, grown, inside_holds, inside_wide, asked_laid, joined_members, joined_few, joined_may, joined_may_have, joined_row_few, joined_above_there, joined_put, no_pages}
use Rattle.nx_edit.proofs.RemoveLemmas.{later_rose, ends_behind}

-- the room that is left in a part, by its weight in memory
pub room_left : {room weighs own : ℕ} {given settings : Settings} → room ≡ given.k - weighs → given ≡ settings → weighs ≡ own → room ≡ settings.k - own
room_left is same weighed = is ∙ ap₂ (λ (s : Settings) (n : ℕ). s.k - n) same weighed

module _ {D : Type 0} (d : Ghosts D) (rules : List Rule) (node : LaidNode) (piece : Piece) (place : RecordPlace) (member : ℕ) (path : List ℕ) (position : ℕ) (proxy : Proxy) (index before : ℕ) (w : IsWithin piece member path position proxy index before) (r0 r1 : Records)
    (x0 x1 : D) (running : has_ended r0 ≡ false) (still : IsStill d x0 x1) where
  abbrev pub NotJoined : StoreError → Records → D → Type 0
  NotJoined e r x = NotChangedKnown d rules (Some piece) (put.Child position node) place member path e r0 r x0 x

  -- the members of the interval below, and the same with the node
  abbrev members_below : {was : Held} (pieces : PieceMap was) (members : Layout) → IsHeldInterval was pieces (Some piece) place member path most_nodes members → Layout
  members_below pieces members i = inside rules node pieces piece place member path position proxy index before members i w

  abbrev grown_below : {was : Held} (pieces : PieceMap was) (members : Layout) → IsHeldInterval was pieces (Some piece) place member path most_nodes members → Layout
  grown_below pieces members i = grown rules node pieces piece place member path position proxy index before members i w

  -- the record below wasn't read
  pub inner_unread : (page : ℕ) (e : StoreError) → NotRead d (λ now. HoldsNone now (place_named proxy)) page e r0 r1 x0 x1 → NotJoined e r1 x1
  inner_unread page store.Disk refused = refused
  inner_unread page (store.Damaged other) refused = (
    refused.ends,
    λ saved now pieces members stands tidy i possible may.
        refused.lacks saved now stands (piece_of (members_below pieces members i)) (inside_holds rules node pieces piece place member path position proxy index before members i w),
  )
  inner_unread page store.Ended refused = absurd (false≢true (sym running ∙ refused.0))
  inner_unread page store.Memory refused = (leaves_runs {r0 = r0} {r1 = r1} refused.0 refused.1, leaves_saved {d = d} {r0 = r0} {r1 = r1} refused.1 still)
  inner_unread page store.Exists refused = absurd refused
  inner_unread page store.NotAStore refused = absurd refused
  inner_unread page store.Full refused = absurd refused

  module _ (leaves : LeavesRecords r0 r1) (inner : Piece) (reads : (saved now : Held) (held : Piece) → StandsFor d r0 x0 saved now → HoldsPiece now (place_named proxy) held → inner ≡ held) where
    read_runs : RunsOn r0 r1
    read_runs = leaves_runs {r0 = r0} {r1 = r1} running leaves

    read_saved : KeepsSaved d r0 r1 x0 x1
    read_saved = leaves_saved {d = d} {r0 = r0} {r1 = r1} leaves still

    later : {saved now : Held} → StandsFor d r0 x0 saved now → StandsFor d r1 x1 saved now
    later stands = leaves_stand {d = d} {r0 = r0} {r1 = r1} leaves still stands

    inner_is : {saved was : Held} (pieces : PieceMap was) (members : Layout) → StandsFor d r0 x0 saved was → (i : IsHeldInterval was pieces (Some piece) place member path most_nodes members) → inner ≡ piece_of (members_below pieces members i)
    inner_is {saved} {was} pieces members stands i = reads saved was (piece_of (members_below pieces members i)) stands (inside_holds rules node pieces piece place member path position proxy index before members i w)

    -- its piece has too few roots
    pub inner_short : (page : ℕ) (r2 : Records) → gapped_width inner.body.roots < before → EndNow r1 r2 → NotJoined (store.Damaged page) r2 x1
    inner_short page r2 short ends = (
      leaves_ends {r0 = r0} {r1 = r1} {r2 = r2} leaves ends,
      λ saved now pieces members stands tidy i possible may.
          let same = ap (λ (p : Piece). gapped_width p.body.roots) (inner_is pieces members stands i) in
          let wide = inside_wide rules node pieces piece place member path position proxy index before members i w in
          omega (arith, short, same, wide),
    )

    -- memory lacks
    pub inner_memory : NotJoined store.Memory r1 x1
    inner_memory = (read_runs, read_saved)

    module _ (holds : (saved now : Held) → StandsFor d r0 x0 saved now → HasNamedList now (place_named proxy) → HoldsPiece now (place_named proxy) inner) (planted : Piece) (p : IsWithRoot inner before (in_record node) planted) (tree : GappedTree) (at : IsTreeAt piece member path tree)
        (asked : IsAskedThere rules piece member path (in_record node).node Free) (written : IsWrittenNode (in_record node)) (light : node_weight (in_record node) ≤ (settings_of r0).k) (r2 : Records) (x2 : D) where
      asks : IsAskedThere rules piece member path node.node Free
      asks = asked_laid rules piece member path node Free asked

      short : option_map_or (λ first. 0) node.list (content_pages node.node) ≡ 0
      short = no_pages node written

      fits : weight node.node ≤ (settings_of r0).k
      fits = subst (λ (n : ℕ). n ≤ (settings_of r0).k) (items_show_nodes node).weighs light

      may_planted : {saved was : Held} → StandsFor d r0 x0 saved was → IsTidy was → MayPut was (put.Child position node) → MayName was planted.body.roots
      may_planted {saved} {was} stands tidy may = joined_may node position before (place_named proxy) inner planted tidy (holds saved was stands (tidy_named was (place_named proxy) tidy)) may p

      grows : {saved was : Held} (pieces : PieceMap was) (members : Layout) → StandsFor d r0 x0 saved was → IsTidy was → (i : IsHeldInterval was pieces (Some piece) place member path most_nodes members) → IsPossibleIn (was.settings).k rules (put.Child position node) member path members
          → MayPut was (put.Child position node) → IsGrownMembers was pieces planted (place_named proxy) (grown_below pieces members i)
      grows {saved} {was} pieces members stands tidy i possible may =
          joined_members rules node pieces piece place member path position proxy index before members i w tree at asks possible short tidy None may
          (subst (λ (s : Settings). weight node.node ≤ s.k) (sym (settings_there d r0 x0 saved was stands)) fits) inner planted (inner_is pieces members stands i) (may_planted stands tidy may) p

      -- the record below wasn't put
      pub inner_refused : (e : StoreError) → NotGrown d planted (place_named proxy) e r1 r2 x1 x2 → NotJoined e r2 x2
      inner_refused store.Disk refused = (later_rose (d.faults x0) (d.faults x1) (d.faults x2) still.faults_later refused.0, leaves_ends {r0 = r0} {r1 = r1} {r2 = r2} leaves refused.1)
      inner_refused store.Full refused = record {
        runs = runs_then {r0 = r0} {r1 = r1} {r2 = r2} read_runs refused.runs;
        keeps = saved_then {d = d} {r0 = r0} {r1 = r1} {r2 = r2} {x0 = x0} {x1 = x1} {x2 = x2} read_saved refused.keeps;
        none_free = refused.none_free;
        few = λ saved now pieces members stands tidy i possible may.
            joined_few rules node pieces piece place member path position proxy index before members i w tree at asks possible short tidy None
            (refused.few saved now pieces (grown_below pieces members i) (later stands) tidy (grows pieces members stands tidy i possible may));
      }
      inner_refused (store.Damaged page) refused = (
        leaves_ends {r0 = r0} {r1 = r1} {r2 = r2} leaves refused.0,
        λ saved now pieces members stands tidy i possible may. refused.1 saved now pieces (grown_below pieces members i) (later stands) tidy (grows pieces members stands tidy i possible may),
      )
      inner_refused store.Memory refused = (
        runs_then {r0 = r0} {r1 = r1} {r2 = r2} read_runs refused.0,
        saved_then {d = d} {r0 = r0} {r1 = r1} {r2 = r2} {x0 = x0} {x1 = x1} {x2 = x2} read_saved refused.1,
      )
      inner_refused store.Ended refused = absurd refused
      inner_refused store.Exists refused = absurd refused
      inner_refused store.NotAStore refused = absurd refused

      module _ (room : ℕ) (room_is : room ≡ (settings_of r1).k - gapped_weight piece.body.roots) (still_then : IsStill d x1 x2) (runs : RunsOn r1 r2) (keeps : KeepsSaved d r1 r2 x1 x2) (row : Row) (near : AreNear row.items)
          (puts : ComesTidyWhere d r1 r2 x1 x2 (λ was. MayName was planted.body.roots) (PutsGrown rules room (Some tree.node.node) planted (place_named proxy) row)) (r3 : Records) (x3 : D) where
        runs_on : RunsOn r0 r2
        runs_on = runs_then {r0 = r0} {r1 = r1} {r2 = r2} read_runs runs

        keeps_on : KeepsSaved d r0 r2 x0 x2
        keeps_on = saved_then {d = d} {r0 = r0} {r1 = r1} {r2 = r2} {x0 = x0} {x1 = x1} {x2 = x2} read_saved keeps

        -- the room is that of what the records stand for
        room_there : {saved was : Held} → StandsFor d r0 x0 saved was → room ≡ (was.settings).k - gapped_weight piece.body.roots
        room_there {saved} {was} stands = room_is ∙ ap (λ (s : Settings). s.k - gapped_weight piece.body.roots) (sym (settings_there d r1 x1 saved was (later stands)))

        -- the record above, as the path leaves it
        abbrev pub upper : PassedRecord
        upper = record { roots = gapped_width piece.body.roots; weight = gapped_weight piece.body.roots; index = index; proxy = proxy; member = 0; used = 0; above = tree.node.node }

        upper_is : IsPassedAs upper piece
        upper_is = (w.named, refl)

        -- the record below was put
        below_put : {saved was : Held} (pieces : PieceMap was) (members : Layout) (stands : StandsFor d r0 x0 saved was) (tidy : IsTidy was) (i : IsHeldInterval was pieces (Some piece) place member path most_nodes members) → IsPossibleIn (was.settings).k rules (put.Child position node) member path members
            → (may : MayPut was (put.Child position node))
            → (r : IsReplacedByRow (was.settings).k (AreSplitOf was.settings rules room (Some tree.node.node) (Kept tt (without_places (grown_below pieces members i)) Bare)) (place_named proxy) (grown_below pieces members i) (nodes_in (grown_below pieces members i)) [] (places_of (grown_below pieces members i)) row [] was
            (puts saved was (later stands) tidy (may_planted stands tidy may)).0)
            × (was.free + length row.proxies ≤ ((puts saved was (later stands) tidy (may_planted stands tidy may)).0).free + (2 * row_nodes (without_places (r.0).row) + near_pages (nodes_in (grown_below pieces members i))))
        below_put {saved} {was} pieces members stands tidy i possible may = (puts saved was (later stands) tidy (may_planted stands tidy may)).3.1 pieces (grown_below pieces members i) (grows pieces members stands tidy i possible may)

        -- the record above is there still
        upper_holds : {saved was : Held} (pieces : PieceMap was) (members : Layout) (stands : StandsFor d r0 x0 saved was) (tidy : IsTidy was) (i : IsHeldInterval was pieces (Some piece) place member path most_nodes members) → IsPossibleIn (was.settings).k rules (put.Child position node) member path members
            → (may : MayPut was (put.Child position node)) → HoldsPiece (puts saved was (later stands) tidy (may_planted stands tidy may)).0 place piece
        upper_holds {saved} {was} pieces members stands tidy i possible may =
            let mid = puts saved was (later stands) tidy (may_planted stands tidy may) in
            subst (λ (p : Piece). HoldsPiece mid.0 place p) (sym i.is)
            (joined_above_there rules node pieces piece place member path position proxy index before members i w tree at asks possible short tidy None room (room_there stands) row near
            (below_put pieces members stands tidy i possible may))

        -- it wasn't put
        pub upper_refused : (limit : ℕ) → limit ≡ (settings_of r2).k → (e : StoreError) → NotPassed d place upper (piece_with_row index row) (λ above. MayHaveRow limit above row) e r2 r3 x2 x3 → NotJoined e r3 x3
        upper_refused limit limit_is store.Disk refused = (
          later_rose (d.faults x0) (d.faults x2) (d.faults x3) (let one : d.faults x0 ≤ d.faults x1 = still.faults_later in let two : d.faults x1 ≤ d.faults x2 = still_then.faults_later in omega (arith, one, two)) refused.0,
          ends_behind {r0 = r0} {r1 = r2} {r2 = r3} runs_on refused.1,
        )
        upper_refused limit limit_is store.Full refused = record {
          runs = runs_then {r0 = r0} {r1 = r2} {r2 = r3} runs_on refused.runs;
          keeps = saved_then {d = d} {r0 = r0} {r1 = r2} {r2 = r3} {x0 = x0} {x1 = x2} {x2 = x3} keeps_on refused.keeps;
          none_free = refused.none_free;
          few = λ saved now pieces members stands tidy i possible may.
              let mid = puts saved now (later stands) tidy (may_planted stands tidy may) in
              joined_row_few rules node pieces piece place member path position proxy index before members i w tree at asks possible short tidy None room (room_there stands) row near
              (below_put pieces members stands tidy i possible may) (refused.few saved mid.0 piece mid.1 (upper_holds pieces members stands tidy i possible may) upper_is);
        }
        upper_refused limit limit_is (store.Damaged other) refused = (
          ends_behind {r0 = r0} {r1 = r2} {r2 = r3} runs_on refused.0,
          λ saved now pieces members stands tidy i possible may.
              let mid = puts saved now (later stands) tidy (may_planted stands tidy may) in
              let same : (now.settings).k ≡ limit = ap (λ (s : Settings). s.k) (settings_there d r0 x0 saved now stands ∙ sym runs_on.settings_stay) ∙ sym limit_is in
              refused.1 saved mid.0 piece mid.1 (upper_holds pieces members stands tidy i possible may) upper_is
              (subst (λ (n : ℕ). MayHaveRow n piece row) same
              (joined_may_have rules node pieces piece place member path position proxy index before members i w tree at asks possible short tidy None room (room_there stands) row near
              (below_put pieces members stands tidy i possible may))),
        )
        upper_refused limit limit_is store.Memory refused = (
          runs_then {r0 = r0} {r1 = r2} {r2 = r3} runs_on refused.0,
          saved_then {d = d} {r0 = r0} {r1 = r2} {r2 = r3} {x0 = x0} {x1 = x2} {x2 = x3} keeps_on refused.1,
        )
        upper_refused limit limit_is store.Ended refused = absurd refused
        upper_refused limit limit_is store.Exists refused = absurd refused
        upper_refused limit limit_is store.NotAStore refused = absurd refused

        -- both were
        pub joined_changed : (outer : ℕ) (above : Option Node) (own : Row) → own.items ≡ Gap 1 End
            → ComesTidyWhere d r2 r3 x2 x3 (λ was. MayName was row.items) (λ was now. (held : Piece) → HoldsPiece was place held → IsPassedAs upper held → IsPutAlone place (piece_with_row index row held) own was now)
            → ComesTidyWhere d r0 r3 x0 x3 (λ was. MayPutIn was (put.Child position node) piece) (ChangesKnown rules (Some piece) outer above (put.Child position node) place member path own [])
        joined_changed outer above own bare updates saved was stands tidy may =
            let mid = puts saved was (later stands) tidy (may_planted stands tidy may.1) in
            let now = updates saved mid.0 mid.1 mid.2 mid.3.0 in (
              now.0,
              now.1,
              now.2,
              (
                subst (λ (f : Gapped). MayName now.0 f) (sym bare) (λ far among. absurd (omega (arith, among.1))),
                λ pieces members i possible.
                    joined_put rules node pieces piece place member path position proxy index before members i w tree at asks possible short tidy above room (room_there stands) row near
                    (below_put pieces members stands tidy i possible may.1) mid.2 outer own (now.3 piece (upper_holds pieces members stands tidy i possible may.1) upper_is),
              ),
            )
