-- The calls that divide an interval, one behind the other.
use Rattle.std.proofs.Common.{◌≡◌, ℕ, zero, suc, ◌+◌, ◌<◌, ◌≤◌, List, [], length, take, drop, Some, refl, sym, ap, ◌∙◌, subst, arith, length-append}
use Rattle.std.specs.Prelude.{◌≢◌, false}
use Rattle.std.proofs.lemmas.Bool.{false≢true}
use Rattle.std.proofs.lemmas.List.{take-append-drop}
use Rattle.nx_host.specs.declared.disk.Disk.{Ghosts}
use Rattle.nx_host.specs.Still.{IsStill}
use Rattle.nx_tree.specs.Document.{most_nodes}
use Rattle.nx_weights.specs.Weight.{weight}
use Rattle.nx_holdings.specs.Holdings.{Held}
use Rattle.nx_records.specs.declared.records.Records.{Records}
use Rattle.nx_records.specs.declared.error.StoreError.{StoreError}
use Rattle.nx_records.specs.declared.error.StoreError.TheVariants as store
use Rattle.nx_records.specs.Records.{has_ended, settings_of, KeepsSaved, LeavesRecords, StandsFor}
use Rattle.nx_records.specs.Refusals.{EndNow, RunsOn, NotRead, NotStored}
use Rattle.nx_records.proofs.LeaveLemmas.{leaves_runs, leaves_ends, leaves_saved, leaves_stand}
use Rattle.nx_piece.specs.declared.piece.Piece.{Piece}
use Rattle.nx_piece.specs.declared.piece.Proxy.{Proxy}
use Rattle.nx_piece.specs.PieceNode.{PieceNode, node_weight}
use Rattle.nx_piece.specs.Gapped.{Gapped, End, Grow, Gap, gapped_width, proxies_in}
use Rattle.nx_piece.specs.Valid.{AreTrees, IsValidPiece}
use Rattle.nx_matrix.specs.Label.{label}
use Rattle.nx_matrix.specs.Rules.{entry_of}
use Rattle.nx_matrix.specs.declared.rule.Entry.{Entry}
use Rattle.nx_matrix.specs.declared.rule.Entry.TheVariants.{Free}
use Rattle.nx_matrix.specs.declared.rule.Rule.{Rule}
use Rattle.nx_cuts.specs.Cut.{width}
use Rattle.nx_layouts.specs.Layout.{RecordPlace, LaidNode, Layout, in_record, piece_of, without_places}
use Rattle.nx_layouts.proofs.DrawnLemmas.{drawn_free, drawn_wide}
use Rattle.nx_layouts.proofs.NodeLemmas.{item_weighs}
use Rattle.nx_layouts.proofs.PlaceLemmas.{no_place}
use Rattle.nx_piece_edits.specs.Dividing.{first_roots, AreDivided}
use Rattle.nx_piece_edits.proofs.ContentsLemmas.{edits_keep_contents}
use Rattle.nx_hold.specs.Changes.{place_named, piece_needs, ComesTidyWhere, ComesTidy, AddsPiece, UpdatesPiece}
use Rattle.nx_hold.specs.Contents.{near_in}
use Rattle.nx_hold.specs.Pieces.{HoldsPiece, HoldsNone, HasNamedList, IsTidy, MayName, PieceMap}
use Rattle.nx_hold.proofs.MoveLemmas.{may_name_still, pieces_stay_around, update_moves}
use Rattle.nx_hold.proofs.RefusalLemmas.{runs_then, saved_then, ends_then}
use Rattle.nx_hold.proofs.TidyLemmas.{may_name_own, tidy_named}
use Rattle.nx_edit.specs.Changing as put
use Rattle.nx_edit.specs.Changing.{IsPossibleIn, IsWrittenNode, MayPutIn, OfChanged, NotChangedKnown}
use Rattle.nx_edit.specs.Grown.{GrowsFrom}
use Rattle.nx_edit.specs.Making.{IsMadeFar, MakesFar}
use Rattle.nx_edit.specs.Parting.{IsRecordParted, IsNodePlaced, OfParted, NotParted, alone_piece}
use Rattle.nx_edit.specs.Planting.{IsWithin, IsAskedThere}
use Rattle.nx_edit.specs.Rows.{IsHeldInterval}
use Rattle.nx_edit.proofs.ChangeCalls.{same_label}
use Rattle.nx_edit.proofs.CountLemmas.{piece_few, proxies_few}
use Rattle.nx_edit.proofs.FarLemmas.{own_near}
use Rattle.nx_edit.proofs.HalfLemmas.{HaveListsCome, lists_come, may_leaf, moves_all, placed_may, put_still, short_node}
use Rattle.nx_edit.proofs.OwnLemmas.{nodes_bare}
use Rattle.nx_edit.proofs.PartedLemmas.{inside, holds_inside, wide_inside, more, nodes_more, pages_inside, proxies_inside, drawn_nodes, cut_free, cut_few, lists_few, placed_grows}
use Rattle.nx_edit.proofs.PlantCalls.{as_members}
use Rattle.nx_edit.proofs.RemoveLemmas.{later_rose}

-- Roots in two:

pub first_count : (n : ℕ) (f : Gapped) → AreTrees f → n ≤ gapped_width f → gapped_width (first_roots n f) ≡ n
first_count zero f trees most = refl
first_count (suc n) End trees most = absurd (omega (arith, most))
first_count (suc n) (Grow node below beside) trees most = let e = first_count n beside trees (omega (arith, most)) in omega (arith, e)
first_count (suc n) (Gap count beside) trees most = absurd trees

fewer_proxies : (inner : Piece) (before : ℕ) (parts : Piece × Piece) → AreDivided inner before parts → length parts.0.proxies + length parts.1.proxies ≡ length inner.proxies
fewer_proxies inner before parts d =
    let n : ℕ = proxies_in (first_roots before inner.body.roots) in
    let one = ap (λ (ps : List Proxy). length ps) d.front_proxies in
    let two = ap (λ (ps : List Proxy). length ps) d.back_proxies in
    let sum = length-append (take n inner.proxies) (drop n inner.proxies) in
    let all = ap (λ (ps : List Proxy). length ps) (take-append-drop n inner.proxies) in
    omega (arith, one, two, sum, all)

-- The record below in two:

module _ {D : Type 0} (d : Ghosts D) (place : RecordPlace) (before : ℕ) (r0 r1 : Records) (x0 x1 : D) (running : has_ended r0 ≡ false) (still : IsStill d x0 x1) where
  pub unread_part : (page : ℕ) (e : StoreError) → NotRead d (λ now. HoldsNone now place) page e r0 r1 x0 x1 → NotParted d place before e r0 r1 x0 x1
  unread_part page store.Disk refused = refused
  unread_part page (store.Damaged other) refused = (refused.ends, λ saved now inner stands tidy holds many. refused.lacks saved now stands inner holds)
  unread_part page store.Ended refused = absurd (false≢true (sym running ∙ refused.0))
  unread_part page store.Memory refused = (leaves_runs {r0 = r0} {r1 = r1} refused.0 refused.1, leaves_saved {d = d} {r0 = r0} {r1 = r1} refused.1 still)
  unread_part page store.Exists refused = absurd refused
  unread_part page store.NotAStore refused = absurd refused
  unread_part page store.Full refused = absurd refused

  module _ (inner : Piece) (valid : IsValidPiece inner) (leaves : LeavesRecords r0 r1) (reads : (saved now : Held) (held : Piece) → StandsFor d r0 x0 saved now → HoldsPiece now place held → inner ≡ held)
      (found : (saved now : Held) → StandsFor d r0 x0 saved now → HasNamedList now place → HoldsPiece now place inner) where
    runs_one : RunsOn r0 r1
    runs_one = leaves_runs {r0 = r0} {r1 = r1} running leaves

    saved_one : KeepsSaved d r0 r1 x0 x1
    saved_one = leaves_saved {d = d} {r0 = r0} {r1 = r1} leaves still

    later : {saved now : Held} → StandsFor d r0 x0 saved now → StandsFor d r1 x1 saved now
    later stands = leaves_stand {d = d} {r0 = r0} {r1 = r1} leaves still stands

    there : (saved now : Held) → StandsFor d r0 x0 saved now → IsTidy now → HoldsPiece now place inner
    there saved now stands tidy = found saved now stands (tidy_named now place tidy)

    pub too_few : (r2 : Records) → gapped_width inner.body.roots ≤ before → EndNow r1 r2 → EndNow r0 r2 × OfParted d r0 x0 place before (λ now held. ⊥)
    too_few r2 few ends = (
      leaves_ends {r0 = r0} {r1 = r1} {r2 = r2} leaves ends,
      λ saved now held stands tidy holds many. let same = ap (λ (p : Piece). gapped_width p.body.roots) (reads saved now held stands holds) in omega (arith, few, many, same),
    )

    -- its long contents didn't come into lists
    pub unmade : (page : ℕ) (r2 : Records) (x2 : D) (e : StoreError) → NotStored d (λ was. near_in inner.body.roots) (λ was. ⊥) page e r1 r2 x1 x2 → NotParted d place before e r0 r2 x0 x2
    unmade page r2 x2 store.Disk refused = (later_rose (d.faults x0) (d.faults x1) (d.faults x2) still.faults_later refused.0, leaves_ends {r0 = r0} {r1 = r1} {r2 = r2} leaves refused.1)
    unmade page r2 x2 store.Full refused = record {
      runs = runs_then {r0 = r0} {r1 = r1} {r2 = r2} runs_one refused.runs;
      keeps = saved_then {d = d} {r0 = r0} {r1 = r1} {r2 = r2} {x0 = x0} {x1 = x1} {x2 = x2} saved_one refused.keeps;
      none_free = refused.none_free;
      few = λ saved now held stands tidy holds many.
          let few : now.free < near_in inner.body.roots = refused.few saved now (later stands) in
          let same = ap (λ (p : Piece). near_in p.body.roots) (reads saved now held stands holds) in
          omega (arith, few, same);
    }
    unmade page r2 x2 (store.Damaged other) refused = (leaves_ends {r0 = r0} {r1 = r1} {r2 = r2} leaves refused.ends, λ saved now held stands tidy holds many. refused.lacks saved now (later stands))
    unmade page r2 x2 store.Ended refused = absurd (false≢true (sym runs_one.after ∙ refused.0))
    unmade page r2 x2 store.Memory refused = (
      runs_then {r0 = r0} {r1 = r1} {r2 = r2} runs_one refused.0,
      saved_then {d = d} {r0 = r0} {r1 = r1} {r2 = r2} {x0 = x0} {x1 = x1} {x2 = x2} saved_one refused.1,
    )
    unmade page r2 x2 store.Exists refused = absurd refused
    unmade page r2 x2 store.NotAStore refused = absurd refused

    module _ (made : Piece) (far : IsMadeFar inner made) (r2 : Records) (x2 : D) (makes : ComesTidyWhere d r1 r2 x1 x2 (λ was. MayName was inner.body.roots) (MakesFar inner made)) (runs_far : RunsOn r1 r2) (keeps_far : KeepsSaved d r1 r2 x1 x2) (still_far : IsStill d x1 x2) where
      runs_two : RunsOn r0 r2
      runs_two = runs_then {r0 = r0} {r1 = r1} {r2 = r2} runs_one runs_far

      saved_two : KeepsSaved d r0 r2 x0 x2
      saved_two = saved_then {d = d} {r0 = r0} {r1 = r1} {r2 = r2} {x0 = x0} {x1 = x1} {x2 = x2} saved_one keeps_far

      faults_two : d.faults x0 ≤ d.faults x2
      faults_two = let a : d.faults x0 ≤ d.faults x1 = still.faults_later in let b : d.faults x1 ≤ d.faults x2 = still_far.faults_later in omega (arith, a, b)

      pub part_memory : RunsOn r0 r2 × KeepsSaved d r0 r2 x0 x2
      part_memory = (runs_two, saved_two)

      -- what there is with the lists
      started : (saved now : Held) → StandsFor d r0 x0 saved now → IsTidy now → (start : Held) × StandsFor d r2 x2 saved start × IsTidy start × MakesFar inner made now start
      started saved now stands tidy = makes saved now (later stands) tidy (may_name_own now place inner tidy (there saved now stands tidy))

      module _ (parts : Piece × Piece) (divided : AreDivided made before parts) where
        pub unput_first : (page : ℕ) (r3 : Records) (x3 : D) (e : StoreError) → NotStored d (λ was. piece_needs parts.0) (λ was. HoldsNone was place) page e r2 r3 x2 x3 → NotParted d place before e r0 r3 x0 x3
        unput_first page r3 x3 store.Disk refused = (later_rose (d.faults x0) (d.faults x2) (d.faults x3) faults_two refused.0, ends_then {r0 = r0} {r1 = r2} {r2 = r3} runs_two refused.1)
        unput_first page r3 x3 store.Full refused = record {
          runs = runs_then {r0 = r0} {r1 = r2} {r2 = r3} runs_two refused.runs;
          keeps = saved_then {d = d} {r0 = r0} {r1 = r2} {r2 = r3} {x0 = x0} {x1 = x2} {x2 = x3} saved_two refused.keeps;
          none_free = refused.none_free;
          few = λ saved now held stands tidy holds many.
              let start = started saved now stands tidy in
              let m : Held = start.0 in
              let lists : HaveListsCome inner now m = lists_come inner made now m valid start.3 in
              let free : now.free ≤ m.free + lists.needs = (lists.moves).free in
              let most = lists.few in
              let few : m.free < piece_needs parts.0 = refused.few saved m start.1 in
              let needs = piece_few parts.0 in
              let sum = fewer_proxies made before parts divided in
              let made_are = ap (λ (ps : List Proxy). length ps) far.proxies in
              let same = ap (λ (p : Piece). length p.proxies) (reads saved now held stands holds) in
              let near = ap (λ (p : Piece). near_in p.body.roots) (reads saved now held stands holds) in
              omega (arith, free, most, few, needs, sum, made_are, same, near);
        }
        unput_first page r3 x3 (store.Damaged other) refused = (
          ends_then {r0 = r0} {r1 = r2} {r2 = r3} runs_two refused.ends,
          λ saved now held stands tidy holds many.
              let start = started saved now stands tidy in
              let lists = lists_come inner made now start.0 valid start.3 in
              refused.lacks saved start.0 start.1 inner (pieces_stay_around [] [] [] lists.brought lists.needs now start.0 tidy lists.moves place inner (there saved now stands tidy) (no_place place)).1,
        )
        unput_first page r3 x3 store.Ended refused = absurd (false≢true (sym runs_two.after ∙ refused.0))
        unput_first page r3 x3 store.Memory refused = (
          runs_then {r0 = r0} {r1 = r2} {r2 = r3} runs_two refused.0,
          saved_then {d = d} {r0 = r0} {r1 = r2} {r2 = r3} {x0 = x0} {x1 = x2} {x2 = x3} saved_two refused.1,
        )
        unput_first page r3 x3 store.Exists refused = absurd refused
        unput_first page r3 x3 store.NotAStore refused = absurd refused

        module _ (r3 : Records) (x3 : D) (front : Proxy) (updates : ComesTidyWhere d r2 r3 x2 x3 (λ was. MayName was parts.0.body.roots) (λ was mid. UpdatesPiece place (place_named front) parts.0 was mid)) (runs : RunsOn r2 r3) (keeps : KeepsSaved d r2 r3 x2 x3) (after : d.faults x2 ≤ d.faults x3) where
          runs_three : RunsOn r0 r3
          runs_three = runs_then {r0 = r0} {r1 = r2} {r2 = r3} runs_two runs

          saved_three : KeepsSaved d r0 r3 x0 x3
          saved_three = saved_then {d = d} {r0 = r0} {r1 = r2} {r2 = r3} {x0 = x0} {x1 = x2} {x2 = x3} saved_two keeps

          faults_three : d.faults x0 ≤ d.faults x3
          faults_three = let a = faults_two in let b = after in omega (arith, a, b)

          may_first : (start : Held) → MayName start made.body.roots → MayName start parts.0.body.roots
          may_first start may far_one among = may far_one ((edits_keep_contents.divided made before parts divided).0.fars far_one among)

          may_second : (start : Held) → MayName start made.body.roots → MayName start parts.1.body.roots
          may_second start may far_one among = may far_one ((edits_keep_contents.divided made before parts divided).1.fars far_one among)

          -- what there is with the first part
          updated : (saved start : Held) → StandsFor d r2 x2 saved start → IsTidy start → MayName start made.body.roots
              → (mid : Held) × StandsFor d r3 x3 saved mid × IsTidy mid × UpdatesPiece place (place_named front) parts.0 start mid
          updated saved start stands tidy may = updates saved start stands tidy (may_first start may)

          pub unadded_second : (page : ℕ) (r4 : Records) (x4 : D) (e : StoreError) → NotStored d (λ was. piece_needs parts.1) (λ was. ⊥) page e r3 r4 x3 x4 → NotParted d place before e r0 r4 x0 x4
          unadded_second page r4 x4 store.Disk refused = (later_rose (d.faults x0) (d.faults x3) (d.faults x4) faults_three refused.0, ends_then {r0 = r0} {r1 = r3} {r2 = r4} runs_three refused.1)
          unadded_second page r4 x4 store.Full refused = record {
            runs = runs_then {r0 = r0} {r1 = r3} {r2 = r4} runs_three refused.runs;
            keeps = saved_then {d = d} {r0 = r0} {r1 = r3} {r2 = r4} {x0 = x0} {x1 = x3} {x2 = x4} saved_three refused.keeps;
            none_free = refused.none_free;
            few = λ saved now held stands tidy holds many.
                let start = started saved now stands tidy in
                let lists : HaveListsCome inner now start.0 = lists_come inner made now start.0 valid start.3 in
                let free : now.free ≤ start.0.free + lists.needs = (lists.moves).free in
                let most = lists.few in
                let mid = updated saved start.0 start.1 start.2 (start.3).may in
                let m : Held = mid.0 in
                let u : UpdatesPiece place (place_named front) parts.0 start.0 m = mid.3 in
                let moved : start.0.free ≤ m.free + piece_needs parts.0 = (u.alone).free in
                let few : m.free < piece_needs parts.1 = refused.few saved m mid.1 in
                let one = piece_few parts.0 in
                let two = piece_few parts.1 in
                let sum = fewer_proxies made before parts divided in
                let made_are = ap (λ (ps : List Proxy). length ps) far.proxies in
                let same = ap (λ (p : Piece). length p.proxies) (reads saved now held stands holds) in
                let near = ap (λ (p : Piece). near_in p.body.roots) (reads saved now held stands holds) in
                omega (arith, free, most, moved, few, one, two, sum, made_are, same, near);
          }
          unadded_second page r4 x4 (store.Damaged other) refused = (
            ends_then {r0 = r0} {r1 = r3} {r2 = r4} runs_three refused.ends,
            λ saved now held stands tidy holds many.
                let start = started saved now stands tidy in
                let mid = updated saved start.0 start.1 start.2 (start.3).may in
                refused.lacks saved mid.0 mid.1,
          )
          unadded_second page r4 x4 store.Ended refused = absurd (false≢true (sym runs_three.after ∙ refused.0))
          unadded_second page r4 x4 store.Memory refused = (
            runs_then {r0 = r0} {r1 = r3} {r2 = r4} runs_three refused.0,
            saved_then {d = d} {r0 = r0} {r1 = r3} {r2 = r4} {x0 = x0} {x1 = x3} {x2 = x4} saved_three refused.1,
          )
          unadded_second page r4 x4 store.Exists refused = absurd refused
          unadded_second page r4 x4 store.NotAStore refused = absurd refused

          pub parted_keeps : (r4 : Records) (x4 : D) → RunsOn r3 r4 → KeepsSaved d r3 r4 x3 x4 → RunsOn r0 r4 × KeepsSaved d r0 r4 x0 x4
          parted_keeps r4 x4 on saved = (
            runs_then {r0 = r0} {r1 = r3} {r2 = r4} runs_three on,
            saved_then {d = d} {r0 = r0} {r1 = r3} {r2 = r4} {x0 = x0} {x1 = x3} {x2 = x4} saved_three saved,
          )

          pub parted_comes : (r4 : Records) (x4 : D) (back : Proxy) → before < gapped_width inner.body.roots → front.roots ≡ gapped_width parts.0.body.roots → back.roots ≡ gapped_width parts.1.body.roots
              → ComesTidyWhere d r3 r4 x3 x4 (λ was. MayName was parts.1.body.roots) (λ was mid. AddsPiece (place_named back) parts.1 was mid) → ComesTidy d r0 r4 x0 x4 (IsRecordParted place before front back)
          parted_comes r4 x4 back within front_roots back_roots adds saved now stands tidy =
              let start = started saved now stands tidy in
              let mid = updated saved start.0 start.1 start.2 (start.3).may in
              let next = adds saved mid.0 mid.1 mid.2 (may_name_still parts.1.body.roots start.2 (update_moves place (place_named front) parts.0 start.0 mid.0 mid.3) (may_second start.0 (start.3).may)) in (
                next.0,
                next.1,
                next.2,
                record {
                  inner = inner;
                  there = there saved now stands tidy;
                  within = within;
                  made = made;
                  far = far;
                  start = start.0;
                  start_tidy = start.2;
                  makes = start.3;
                  parts = parts;
                  divided = divided;
                  mid = mid.0;
                  tidy = mid.2;
                  updates = mid.3;
                  adds = next.3;
                  front_roots = front_roots;
                  back_roots = back_roots;
                },
              )

-- The interval above:

-- the node couldn't be put there, however its content is laid
abbrev pub NotDivided : {D : Type 0} → Ghosts D → List Rule → Piece → (position : ℕ) (leaf : PieceNode) → RecordPlace → (member : ℕ) (path : List ℕ) → StoreError → Records → Records → D → D → Type 0
NotDivided d rules piece position leaf place member path e old new before after = (node : LaidNode) → leaf ≡ in_record node → NotChangedKnown d rules (Some piece) (put.Child position node) place member path e old new before after

module _ {D : Type 0} (d : Ghosts D) (rules : List Rule) (piece : Piece) (place : RecordPlace) (member : ℕ) (path : List ℕ) (position index before : ℕ) (proxy : Proxy) (entry : Entry) (leaf : PieceNode) (r0 : Records) (x0 : D)
    (w : IsWithin piece member path position proxy index before) (light : node_weight leaf ≤ (settings_of r0).k) (written : IsWrittenNode leaf) (asks : IsAskedThere rules piece member path leaf.node entry) (bound : entry ≢ Free) where
  abbrev Unchanged : StoreError → Records → D → Type 0
  Unchanged e r x = NotDivided d rules piece position leaf place member path e r0 r x0 x

  module _ (members : Layout) (is : piece ≡ piece_of members) where
    within : IsWithin (piece_of members) member path position proxy index before
    within = subst (λ (p : Piece). IsWithin p member path position proxy index before) is w

    module _ (node : LaidNode) (laid : leaf ≡ in_record node) where
      asked_is : IsAskedThere rules (piece_of members) member path node.node entry
      asked_is tree first leads =
          ap (λ (l : List ℕ). entry_of rules (label tree.node.node) l) (sym (ap (λ (n : PieceNode). label n.node) laid ∙ same_label node.node node.list))
          ∙ subst (λ (p : Piece). IsAskedThere rules p member path leaf.node entry) is asks tree first leads

  module _ (node : LaidNode) (laid : leaf ≡ in_record node) where
    written_is : IsWrittenNode (in_record node)
    written_is = subst IsWrittenNode laid written

    fits : {saved now : Held} → StandsFor d r0 x0 saved now → weight node.node ≤ (now.settings).k
    fits {saved} {now} stands =
        let own = light in
        let same = ap node_weight laid ∙ item_weighs node in
        let k_is = ap (λ s. s.k) ((stands.holds).behind).settings in
        omega (arith, own, same, k_is)

  -- no interval has so many proxies
  pub many_proxies : (r1 : Records) → 524287 ≤ length piece.proxies → EndNow r0 r1 → (node : LaidNode) → leaf ≡ in_record node → EndNow r0 r1 × OfChanged d r0 x0 rules (Some piece) (put.Child position node) place member path (λ now members. ⊥)
  many_proxies r1 most ends node laid = (
    ends,
    λ saved now pieces members stands tidy i possible may.
        let j = as_members piece members i in
        let v = within members i.is in
        let same = ap (λ (p : Piece). length p.proxies) i.is in
        let some : 1 ≤ width (without_places members) = (i.light).0 in
        let wide = drawn_wide members in
        let many = proxies_few (now.settings).k members (i.light).3 (drawn_free members (i.light).1) in
        let m = nodes_bare members in
        let all = drawn_nodes pieces place member path members j position index before proxy v (inside pieces place member path members j position index before proxy v) refl rules node entry (asked_is members i.is node laid) bound place place place in
        let few = possible.few in
        omega (arith, most, same, some, wide, many, m, all, few),
  )

  -- the record below wasn't parted
  pub unparted : (r1 : Records) (x1 : D) (e : StoreError) → NotParted d (place_named proxy) before e r0 r1 x0 x1 → Unchanged e r1 x1
  unparted r1 x1 store.Disk refused node laid = refused
  unparted r1 x1 store.Full refused node laid = record {
    runs = refused.runs;
    keeps = refused.keeps;
    none_free = refused.none_free;
    few = λ saved now pieces members stands tidy i possible may.
        let j = as_members piece members i in
        let v = within members i.is in
        let below : Layout = inside pieces place member path members j position index before proxy v in
        let wide = wide_inside pieces place member path members j position index before proxy v in
        let larger = more pieces place member path members j position index before proxy v in
        let few = refused.few saved now (piece_of below) stands tidy (holds_inside pieces place member path members j position index before proxy v) (omega (arith, wide, larger)) in
        let n = nodes_more pieces place member path members j position index before proxy v in
        let p = proxies_inside pieces place member path members j position index before proxy v in
        let near = own_near below in
        let pages = pages_inside pieces place member path members j position index before proxy v in
        let some : 1 ≤ before = w.some in
        omega (arith, larger, few, n, p, near, pages, some);
  }
  unparted r1 x1 (store.Damaged page) refused node laid = (
    refused.0,
    λ saved now pieces members stands tidy i possible may.
        let j = as_members piece members i in
        let v = within members i.is in
        let below : Layout = inside pieces place member path members j position index before proxy v in
        let wide = wide_inside pieces place member path members j position index before proxy v in
        let larger = more pieces place member path members j position index before proxy v in
        refused.1 saved now (piece_of below) stands tidy (holds_inside pieces place member path members j position index before proxy v) (omega (arith, wide, larger)),
  )
  unparted r1 x1 store.Memory refused node laid = refused
  unparted r1 x1 store.Ended refused node laid = absurd refused
  unparted r1 x1 store.Exists refused node laid = absurd refused
  unparted r1 x1 store.NotAStore refused node laid = absurd refused

  module _ (r1 : Records) (x1 : D) (front back : Proxy) (runs : RunsOn r0 r1) (keeps : KeepsSaved d r0 r1 x0 x1) (after : d.faults x0 ≤ d.faults x1) (parts : ComesTidy d r0 r1 x0 x1 (IsRecordParted (place_named proxy) before front back)) where
    pub unplaced : (page : ℕ) (r2 : Records) (x2 : D) (e : StoreError) → NotStored d (λ was. piece_needs (alone_piece leaf)) (λ was. ⊥) page e r1 r2 x1 x2 → Unchanged e r2 x2
    unplaced page r2 x2 store.Disk refused node laid = (later_rose (d.faults x0) (d.faults x1) (d.faults x2) after refused.0, ends_then {r0 = r0} {r1 = r1} {r2 = r2} runs refused.1)
    unplaced page r2 x2 store.Full refused node laid = record {
      runs = runs_then {r0 = r0} {r1 = r1} {r2 = r2} runs refused.runs;
      keeps = saved_then {d = d} {r0 = r0} {r1 = r1} {r2 = r2} {x0 = x0} {x1 = x1} {x2 = x2} keeps refused.keeps;
      none_free = refused.none_free;
      few = λ saved was pieces members stands tidy i possible may.
          let cut = parts saved was stands tidy in
          let m : Held = cut.0 in
          let j = as_members piece members i in
          let v = within members i.is in
          let few : m.free < piece_needs (alone_piece leaf) = refused.few saved m cut.1 in
          let one = piece_few (alone_piece leaf) in
          let moved = cut_free pieces place member path members j position index before proxy v tidy front back cut.3 in
          let all = cut_few pieces place member path members j position index before proxy v tidy front back cut.3 in
          let lists = lists_few pieces place member path members j position index before proxy v tidy front back cut.3 in
          omega (arith, few, one, moved, all, lists);
    }
    unplaced page r2 x2 (store.Damaged other) refused node laid = (
      ends_then {r0 = r0} {r1 = r1} {r2 = r2} runs refused.ends,
      λ saved was pieces members stands tidy i possible may. let cut = parts saved was stands tidy in refused.lacks saved cut.0 cut.1,
    )
    unplaced page r2 x2 store.Ended refused node laid = absurd (false≢true (sym runs.after ∙ refused.0))
    unplaced page r2 x2 store.Memory refused node laid = (
      runs_then {r0 = r0} {r1 = r1} {r2 = r2} runs refused.0,
      saved_then {d = d} {r0 = r0} {r1 = r1} {r2 = r2} {x0 = x0} {x1 = x1} {x2 = x2} keeps refused.1,
    )
    unplaced page r2 x2 store.Exists refused node laid = absurd refused
    unplaced page r2 x2 store.NotAStore refused node laid = absurd refused

    -- what its members are then
    pub placed_below : (r2 : Records) (x2 : D) (placed : Piece) → ComesTidyWhere d r1 r2 x1 x2 (λ was. MayName was (Grow leaf End End)) (IsNodePlaced entry piece member path position index front back leaf placed) → (node : LaidNode) → leaf ≡ in_record node
        → ComesTidyWhere d r0 r2 x0 x2 (λ was. MayPutIn was (put.Child position node) piece) (λ was mid. MayName mid placed.body.roots × ((pieces : PieceMap was) (members : Layout) → IsHeldInterval was pieces (Some piece) place member path most_nodes members
        → IsPossibleIn (was.settings).k rules (put.Child position node) member path members → GrowsFrom rules (put.Child position node) member path members placed [] was mid))
    placed_below r2 x2 placed places node laid saved was stands tidy may =
        let cut = parts saved was stands tidy in
        let moves = moves_all (place_named proxy) before front back cut.3 in
        let may_own : MayName cut.0 (Grow leaf End End) = may_leaf cut.0 position node leaf laid (put_still (put.Child position node) tidy moves may.1) in
        let mid = places saved cut.0 cut.1 cut.2 may_own in
        let may_placed : MayName mid.0 placed.body.roots = placed_may entry piece member path position index front back leaf placed cut.2 (may_name_still piece.body.roots tidy moves may.0) may_own mid.3 in (
          mid.0,
          mid.1,
          mid.2,
          (
            may_placed,
            λ pieces members i possible.
                placed_grows pieces place member path members (as_members piece members i) position index before proxy (within members i.is) tidy front back cut.3 rules node entry (fits node laid stands) (written_is node laid) (short_node node (written_is node laid))
                (asked_is members i.is node laid) bound may.1 placed may_placed
                (subst (λ (n : PieceNode). IsNodePlaced entry (piece_of members) member path position index front back n placed cut.0 mid.0) laid (subst (λ (p : Piece). IsNodePlaced entry p member path position index front back leaf placed cut.0 mid.0) i.is mid.3)),
          ),
        )
