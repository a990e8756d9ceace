-- The calls that make a change below an interval, one behind the other.
use Rattle.std.proofs.Common.{◌≡◌, ℕ, ◌+◌, ◌-◌, ◌*◌, ◌≤◌, true, List, [], ◌∷◌, length, take, drop, Option, None, Some, refl, sym, ap, ◌∙◌, subst, arith}
use Rattle.std.specs.List.{slice_get}
use Rattle.nx_host.specs.declared.disk.Disk.{Ghosts}
use Rattle.nx_host.specs.Still.{IsStill}
use Rattle.nx_tree.specs.declared.node.Node.{Node}
use Rattle.nx_tree.specs.Document.{most_nodes}
use Rattle.nx_holdings.specs.Holdings.{Held}
use Rattle.nx_holdings.specs.declared.header.Settings.{Settings}
use Rattle.nx_records.specs.declared.records.Records.{Records}
use Rattle.nx_records.specs.declared.error.StoreError.{StoreError}
use Rattle.nx_records.specs.declared.error.StoreError.TheVariants as store
use Rattle.nx_records.specs.Records.{settings_of, KeepsSaved, StandsFor}
use Rattle.nx_records.specs.Refusals.{RunsOn}
use Rattle.nx_piece.specs.declared.piece.Far.{Far}
use Rattle.nx_piece.specs.declared.piece.Piece.{Piece}
use Rattle.nx_piece.specs.PieceNode.{PieceNode}
use Rattle.nx_piece.specs.Gapped.{Gapped, GappedTree, End, Gap, gapped_weight}
use Rattle.nx_piece.specs.Locate.{Reached, Inside, Outside, Missing, reached_in}
use Rattle.nx_piece.specs.Valid.{AreNear}
use Rattle.nx_matrix.specs.declared.rule.Rule.{Rule}
use Rattle.nx_matrix.specs.Label.{label}
use Rattle.nx_cuts.specs.Cut.{AreFree}
use Rattle.nx_layouts.specs.Layout.{RecordPlace, LaidNode, Layout, in_record, shown_with, piece_body, piece_of, without_places}
use Rattle.nx_layouts.specs.Replace.{above_at}
use Rattle.nx_layouts.specs.Cutting.{LeadsOn}
use Rattle.nx_layouts.proofs.AboveLemmas.{above_stands}
use Rattle.nx_layouts.proofs.DrawnLemmas.{drawn_free}
use Rattle.nx_layouts.proofs.PathLemmas.{path_leads_on}
use Rattle.nx_layouts.proofs.PlaceLemmas.{no_place}
use Rattle.nx_drafts.proofs.LabelLemmas.{row_splits_by_label}
use Rattle.nx_divide.specs.declared.dividing.Row.{Row}
use Rattle.nx_hold.specs.Changes.{place_named, ComesTidyWhere}
use Rattle.nx_hold.specs.Contents.{near_pages}
use Rattle.nx_hold.specs.Pieces.{HoldsPiece, MayName, PieceMap}
use Rattle.nx_hold.proofs.RefusalLemmas.{runs_then, saved_then}
use Rattle.nx_hold.proofs.TidyLemmas.{may_name_own}
use Rattle.nx_nav.specs.declared.routing.PassedRecord.{PassedRecord}
use Rattle.nx_nav.specs.Route.{IsPassedRecord}
use Rattle.nx_edit.specs.Editing.{places_off}
use Rattle.nx_edit.specs.Rows.{row_nodes, IsHeldInterval}
use Rattle.nx_edit.specs.declared.changing.Change.TheVariants as change
use Rattle.nx_edit.specs.Changing as shape
use Rattle.nx_edit.specs.Changing.{Put, IsLaidPut, MayChangeAlong, MayPutIn, changed_interval, kept_around, put_lists, way_of, AreSplitOf, IsReplacedByRow, IsPossibleIn, ChangesKnown, NotChangedKnown, NotChangedAlong}
use Rattle.nx_edit.specs.Passing.{NotPassed}
use Rattle.nx_edit.specs.RowPut.{MayHaveRow, PassesRow, piece_with_row}
use Rattle.nx_edit.proofs.RemoveLemmas.{later_rose, ends_behind}
use Rattle.nx_edit.proofs.RowCalls.{as_held}
use Rattle.nx_edit.proofs.PassedLemmas.{place_inside, inside_proxy, inside_interval, above_there}
use Rattle.nx_edit.proofs.RefillLemmas.{replaced_as}
use Rattle.nx_edit.proofs.UpLemmas.{change_below, possible_below, may_have, change_few, away_changed}

-- no part is allowed to weigh more than 256
pub most_weight : {D : Type 0} {d : Ghosts D} {records : Records} {disk : D} {saved now : Held} → (settings_of records).k ≤ 256 → StandsFor d records disk saved now → (now.settings).k ≤ 256
most_weight {records = records} most stands = subst (λ (k : ℕ). k ≤ 256) (sym (ap (λ s. s.k) ((stands.holds).behind).settings)) most

-- what is kept by one call and by the next one is kept by both
pub keeps_after : {D : Type 0} (d : Ghosts D) (r0 r1 r2 : Records) (x0 x1 x2 : D) → RunsOn r0 r1 → KeepsSaved d r0 r1 x0 x1 → RunsOn r1 r2 → KeepsSaved d r1 r2 x1 x2 → RunsOn r0 r2 × KeepsSaved d r0 r2 x0 x2
keeps_after d r0 r1 r2 x0 x1 x2 runs keeps on kept = (runs_then {r0 = r0} {r1 = r1} {r2 = r2} runs on, saved_then {d = d} {r0 = r0} {r1 = r1} {r2 = r2} {x0 = x0} {x1 = x1} {x2 = x2} keeps kept)

-- what holds of each child at a position, as it may be laid, holds of each laid put that is one
pub each_child : (P : Put → Type 0) (position : ℕ) (leaf : GappedTree) → ((node : LaidNode) → leaf.node ≡ in_record node → P (shape.Child position node)) → (put : Put) → IsLaidPut (change.Child position leaf) put → P put
each_child P position leaf holds (shape.Content content list) laid = absurd laid
each_child P position leaf holds (shape.Child at node) laid = subst (λ (n : ℕ). P (shape.Child n node)) laid.0 (holds node laid.1)

-- The path ends in the last piece:

module _ {D : Type 0} (d : Ghosts D) (rules : List Rule) (put : Put) (place : RecordPlace) (member : ℕ) (path : List ℕ) (last : Piece) (r0 r1 : Records) (x0 x1 : D) where
  pub end_unchanged : (e : StoreError) → NotChangedKnown d rules (Some last) put place member path e r0 r1 x0 x1 → NotChangedAlong d [] last rules put place member path e r0 r1 x0 x1
  end_unchanged store.Disk refused = refused
  end_unchanged store.Full refused = record {
    runs = refused.runs;
    keeps = refused.keeps;
    none_free = refused.none_free;
    few = λ saved now pieces members stands tidy i possible may holds. refused.few saved now pieces members stands tidy (as_held place member path most_nodes pieces members last holds i) possible may;
  }
  end_unchanged (store.Damaged page) refused = (refused.0, λ saved now pieces members stands tidy i possible may holds. refused.1 saved now pieces members stands tidy (as_held place member path most_nodes pieces members last holds i) possible may)
  end_unchanged store.Memory refused = refused
  end_unchanged store.Ended refused = absurd refused
  end_unchanged store.Exists refused = absurd refused
  end_unchanged store.NotAStore refused = absurd refused

  pub end_changed : (room : ℕ) (above : Option Node) (row : Row) (gone : List Far) → ComesTidyWhere d r0 r1 x0 x1 (λ was. MayPutIn was put last) (ChangesKnown rules (Some last) room above put place member path row gone)
      → ComesTidyWhere d r0 r1 x0 x1 (λ was. MayChangeAlong was put place member path [] last) (ChangesKnown rules None room above put place member path row gone)
  end_changed room above row gone comes saved was stands tidy may =
      let now = comes saved was stands tidy (may_name_own was place last tidy may.0, may.1) in
      (now.0, now.1, now.2, ((now.3).0, λ pieces members i possible. (now.3).1 pieces members (as_held place member path most_nodes pieces members last may.0 i) possible))

-- The node above the interval below:

abbrev pub tree_in : GappedTree → Reached → GappedTree
tree_in other (Inside tree first) = tree
tree_in other (Outside index member used) = other
tree_in other Missing = other

-- a node's item bears its label
pub same_label : (node : Node) (list : Option ℕ) → label (shown_with node list).node ≡ label node
same_label node None = refl
same_label node (Some first) = refl

-- The node is the one above the interval, but for a content that stands elsewhere.
pub record IsAbove (index : ℕ) (members : Layout) (top : Option Node) (node : Node) : Type 0 where
  pub whole : Node
  pub alike : label node ≡ label whole
  pub above : above_at index top members ≡ Some whole

pub node_above : (piece : Piece) (member : ℕ) (path : List ℕ) (index next used : ℕ) (members : Layout) (node : Node) (top : Option Node) → AreFree members → piece ≡ piece_of members → reached_in piece member path ≡ Outside index next used
    → (tree : GappedTree) × (first : ℕ) × (reached_in piece member (take (used - 1) path) ≡ Inside tree first) × (node ≡ tree.node.node) → IsAbove index members top node
node_above piece member path index next used members node top free is leads at =
    let from = above_stands members member path index next used free (ap (λ (p : Piece). reached_in p member path) (sym is) ∙ leads) in
    let same : from.tree ≡ at.0 = ap (tree_in from.tree) (sym from.there ∙ ap (λ (p : Piece). reached_in p member (take (used - 1) path)) (sym is) ∙ at.2) in
    record {
      whole = (from.node).node;
      alike = ap label (at.3 ∙ ap (λ (t : GappedTree). t.node.node) (sym same)) ∙ ap (λ (n : PieceNode). label n.node) from.shown ∙ same_label (from.node).node (from.node).list;
      above = from.above top;
    }

-- A change below an interval that the path leads into:

module _ {D : Type 0} (d : Ghosts D) (rules : List Rule) (put : Put) (place : RecordPlace) (member : ℕ) (path : List ℕ) (first : PassedRecord) (more : List PassedRecord) (last : Piece) (r0 r1 : Records) (x0 x1 : D) where
  abbrev pub NotChangedAway : StoreError → Records → D → Type 0
  NotChangedAway e r x = NotChangedAlong d (first ∷ more) last rules put place member path e r0 r x0 x

  -- the path leaves this piece so
  module _ (piece : Piece) (is : IsPassedRecord piece member path first) where
    way : (members : Layout) → piece ≡ piece_of members → LeadsOn members member path first.index first.member first.used
    way members same = path_leads_on members member path first.index first.member first.used (ap (λ (p : Piece). reached_in p member path) (sym same) ∙ is.leads)

    at_inside : {now : Held} (pieces : PieceMap now) (members : Layout) (i : IsHeldInterval now pieces (Some piece) place member path most_nodes members)
        → place_named first.proxy ≡ place_inside now pieces (Some piece) place member path most_nodes members i first.index first.member (drop first.used path) (way members i.is).inside (way members i.is).into
    at_inside {now} pieces members i =
        let w = way members i.is in
        inside_proxy now pieces (Some piece) place member path most_nodes members i first.index first.member (drop first.used path) w.inside w.into first.proxy (ap (λ (p : Piece). slice_get p.proxies first.index) (sym i.is) ∙ is.proxy_is)

    -- the interval below it
    inner : {now : Held} (pieces : PieceMap now) (members : Layout) (i : IsHeldInterval now pieces (Some piece) place member path most_nodes members)
        → IsHeldInterval now pieces None (place_named first.proxy) first.member (drop first.used path) most_nodes (way members i.is).inside
    inner {now} pieces members i =
        let w = way members i.is in
        subst (λ (p : RecordPlace). IsHeldInterval now pieces None p first.member (drop first.used path) most_nodes w.inside) (sym (at_inside pieces members i))
        (inside_interval now pieces (Some piece) place member path most_nodes members i first.index first.member (drop first.used path) w.inside w.into w.same)

    possible_inner : {now : Held} (pieces : PieceMap now) (members : Layout) (i : IsHeldInterval now pieces (Some piece) place member path most_nodes members) → IsPossibleIn (now.settings).k rules put member path members
        → IsPossibleIn (now.settings).k rules put first.member (drop first.used path) (way members i.is).inside
    possible_inner {now} pieces members i possible =
        let w = way members i.is in
        possible_below rules put now pieces (Some piece) place member path members i first.index first.member (drop first.used path) w.inside w.into w.same possible

    -- what became of the interval below, where it stands
    abbrev IsChangedInside : {was : Held} (pieces : PieceMap was) (members : Layout) → IsHeldInterval was pieces (Some piece) place member path most_nodes members → (at : RecordPlace) (room : ℕ) (row : Row) (gone : List Far) (mid : Held) → Type 0
    IsChangedInside {was} pieces members i at room row gone mid =
        (r : IsReplacedByRow (was.settings).k (AreSplitOf was.settings rules room (Some first.above) (changed_interval rules put first.member (drop first.used path) (way members i.is).inside)) at (way members i.is).inside
        (kept_around put first.member (drop first.used path) (way members i.is).inside) (put_lists put) (places_off true (first.member ∷ way_of put (drop first.used path)) (way members i.is).inside) row gone was mid)
        × (was.free + length row.proxies ≤ mid.free + (row_nodes (without_places (way members i.is).inside) + 2 * row_nodes (without_places (r.0).row) + near_pages (kept_around put first.member (drop first.used path) (way members i.is).inside)))

    replaced : {was mid : Held} (pieces : PieceMap was) (members : Layout) (i : IsHeldInterval was pieces (Some piece) place member path most_nodes members) → IsPossibleIn (was.settings).k rules put member path members
        → (room : ℕ) (row : Row) (gone : List Far) → ChangesKnown rules None room (Some first.above) put (place_named first.proxy) first.member (drop first.used path) row gone was mid
        → IsChangedInside pieces members i (place_inside was pieces (Some piece) place member path most_nodes members i first.index first.member (drop first.used path) (way members i.is).inside (way members i.is).into) room row gone mid
    replaced {was} {mid} pieces members i possible room row gone changes =
        subst (λ (p : RecordPlace). IsChangedInside pieces members i p room row gone mid) (at_inside pieces members i)
        (changes.1 pieces (way members i.is).inside (inner pieces members i) (possible_inner pieces members i possible))

  pub unchanged_below : (e : StoreError) → NotChangedAlong d more last rules put (place_named first.proxy) first.member (drop first.used path) e r0 r1 x0 x1 → NotChangedAway e r1 x1
  unchanged_below store.Disk refused = refused
  unchanged_below store.Full refused = record {
    runs = refused.runs;
    keeps = refused.keeps;
    none_free = refused.none_free;
    few = λ saved now pieces members stands tidy i possible may route.
        let piece = (route.0).0 in
        let is : IsPassedRecord piece member path first = (route.0).2 in
        let j = as_held place member path most_nodes pieces members piece (route.0).1 i in
        let w = way piece is members j.is in
        let few = refused.few saved now pieces w.inside stands tidy (inner piece is pieces members j) (possible_inner piece is pieces members j possible) may route.1 in
        let needs = change_below rules put now pieces (Some piece) place member path members j first.index first.member (drop first.used path) w.inside w.into in
        omega (arith, few, needs);
  }
  unchanged_below (store.Damaged page) refused = (
    refused.0,
    λ saved now pieces members stands tidy i possible may route.
        let piece = (route.0).0 in
        let is : IsPassedRecord piece member path first = (route.0).2 in
        let j = as_held place member path most_nodes pieces members piece (route.0).1 i in
        refused.1 saved now pieces (way piece is members j.is).inside stands tidy (inner piece is pieces members j) (possible_inner piece is pieces members j possible) may route.1,
  )
  unchanged_below store.Memory refused = refused
  unchanged_below store.Ended refused = absurd refused
  unchanged_below store.Exists refused = absurd refused
  unchanged_below store.NotAStore refused = absurd refused

  module _ (still : IsStill d x0 x1) (runs : RunsOn r0 r1) (keeps : KeepsSaved d r0 r1 x0 x1) (room : ℕ) (room_is : room ≡ (settings_of r0).k - first.weight) (row : Row) (near : AreNear row.items) (gone : List Far)
      (below : ComesTidyWhere d r0 r1 x0 x1 (λ was. MayChangeAlong was put (place_named first.proxy) first.member (drop first.used path) more last) (ChangesKnown rules None room (Some first.above) put (place_named first.proxy) first.member (drop first.used path) row gone))
      (r2 : Records) (x2 : D) where
    -- the room is what the part above has left
    room_there : {saved now : Held} → StandsFor d r0 x0 saved now → (piece : Piece) → IsPassedRecord piece member path first → (members : Layout) → piece ≡ piece_of members → room ≡ (now.settings).k - gapped_weight (piece_body members)
    room_there stands piece is members same =
        let settled = ap (λ (s : Settings). s.k) ((stands.holds).behind).settings in
        let weighs = is.weighs in
        let own = ap (λ (p : Piece). gapped_weight p.body.roots) same in
        let told = room_is in
        omega (arith, settled, weighs, own, told)

    pub pass_refused : (e : StoreError) → NotPassed d place first (piece_with_row first.index row) (λ piece. MayHaveRow (settings_of r1).k piece row) e r1 r2 x1 x2 → NotChangedAway e r2 x2
    pass_refused store.Disk refused = (later_rose (d.faults x0) (d.faults x1) (d.faults x2) still.faults_later refused.0, ends_behind {r0 = r0} {r1 = r1} {r2 = r2} runs refused.1)
    pass_refused store.Full refused = record {
      runs = runs_then {r0 = r0} {r1 = r1} {r2 = r2} runs refused.runs;
      keeps = saved_then {d = d} {r0 = r0} {r1 = r1} {r2 = r2} {x0 = x0} {x1 = x1} {x2 = x2} keeps refused.keeps;
      none_free = refused.none_free;
      few = λ saved now pieces members stands tidy i possible may route.
          let piece = (route.0).0 in
          let is : IsPassedRecord piece member path first = (route.0).2 in
          let j = as_held place member path most_nodes pieces members piece (route.0).1 i in
          let w = way piece is members j.is in
          let mid = below saved now stands tidy (route.1, may) in
          let r = replaced piece is pieces members j possible room row gone mid.3 in
          let there = above_there now pieces (Some piece) place member path most_nodes members j first.index first.member (drop first.used path) w.inside w.into tidy ((r.0).0).moves in
          change_few rules put now pieces (Some piece) place member path members j first.index first.member (drop first.used path) w.inside w.into possible tidy first.above room (room_there stands piece is members j.is) row r.0 near r.1 piece j.is
          (refused.few saved mid.0 piece mid.1 (subst (λ (p : Piece). HoldsPiece mid.0 place p) (sym j.is) there) (is.proxy_is, is.roots_are));
    }
    pass_refused (store.Damaged page) refused = (
      ends_behind {r0 = r0} {r1 = r1} {r2 = r2} runs refused.0,
      λ saved now pieces members stands tidy i possible may route.
          let piece = (route.0).0 in
          let is : IsPassedRecord piece member path first = (route.0).2 in
          let j = as_held place member path most_nodes pieces members piece (route.0).1 i in
          let w = way piece is members j.is in
          let mid = below saved now stands tidy (route.1, may) in
          let r = replaced piece is pieces members j possible room row gone mid.3 in
          let there = above_there now pieces (Some piece) place member path most_nodes members j first.index first.member (drop first.used path) w.inside w.into tidy ((r.0).0).moves in
          let settled : (now.settings).k ≡ (settings_of r1).k = ap (λ (s : Settings). s.k) (((stands.holds).behind).settings ∙ sym runs.settings_stay) in
          refused.1 saved mid.0 piece mid.1 (subst (λ (p : Piece). HoldsPiece mid.0 place p) (sym j.is) there) (is.proxy_is, is.roots_are)
          (subst (λ (k : ℕ). MayHaveRow k piece row) settled
          (may_have rules put now pieces (Some piece) place member path members j first.index first.member (drop first.used path) w.inside w.into possible tidy first.above room (room_there stands piece is members j.is) row r.0 piece j.is)),
    )
    pass_refused store.Memory refused = (
      runs_then {r0 = r0} {r1 = r1} {r2 = r2} runs refused.0,
      saved_then {d = d} {r0 = r0} {r1 = r1} {r2 = r2} {x0 = x0} {x1 = x1} {x2 = x2} keeps refused.1,
    )
    pass_refused store.Ended refused = absurd refused
    pass_refused store.Exists refused = absurd refused
    pass_refused store.NotAStore refused = absurd refused

    pub changed_away : (outer : ℕ) (above : Option Node) (own : Row) → own.items ≡ Gap 1 End → ComesTidyWhere d r1 r2 x1 x2 (λ was. MayName was row.items) (PassesRow place first row own)
        → ComesTidyWhere d r0 r2 x0 x2 (λ was. MayChangeAlong was put place member path (first ∷ more) last) (ChangesKnown rules None outer above put place member path own gone)
    changed_away outer above own one passes saved was stands tidy may =
        let route = may.0 in
        let mid = below saved was stands tidy (route.1, may.1) in
        let now = passes saved mid.0 mid.1 mid.2 (mid.3).0 in (
          now.0,
          now.1,
          now.2,
          (
            subst (λ (items : Gapped). MayName now.0 items) (sym one) (λ far among. absurd (no_place far among)),
            λ pieces members i possible.
                let piece = (route.0).0 in
                let is : IsPassedRecord piece member path first = (route.0).2 in
                let j = as_held place member path most_nodes pieces members piece (route.0).1 i in
                let w = way piece is members j.is in
                let up = node_above piece member path first.index first.member first.used members first.above above (drawn_free members (j.light).1) j.is is.leads is.above in
                let r = replaced piece is pieces members j possible room row gone mid.3 in
                let there = above_there was pieces (Some piece) place member path most_nodes members j first.index first.member (drop first.used path) w.inside w.into tidy ((r.0).0).moves in
                let put_is = now.3 piece (subst (λ (p : Piece). HoldsPiece mid.0 place p) (sym j.is) there) (is.proxy_is, is.roots_are) in
                away_changed rules put was pieces (Some piece) place member path members j first.index first.member (drop first.used path) w.inside w.into possible tidy up.whole room (room_there stands piece is members j.is) row (
                  replaced_as refl
                      (λ c h. (row_splits_by_label was.settings rules room first.above up.whole (changed_interval rules put first.member (drop first.used path) w.inside) c up.alike h.0, h.1)) (r.0).0,
                  (r.0).1,
                )
                near r.1 outer above up.above mid.2 piece j.is own put_is,
          ),
        )
