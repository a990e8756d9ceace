-- The calls that take a tree out of an interval, one behind the other.
use Rattle.std.proofs.Common.{◌≡◌, ℕ, ◌+◌, ◌-◌, ◌<◌, List, [], ◌∷◌, ◌++◌, length, take, drop, Option, None, Some, refl, sym, ap, ◌∙◌, subst, arith, IsPermutation}
use Rattle.std.specs.Prelude.{false, zero, suc, Result, Ok, Err, IfOk, IfErr}
use Rattle.std.specs.Option.{option_to_list}
use Rattle.std.specs.List.{slice_get}
use Rattle.std.proofs.lemmas.Bool.{false≢true}
use Rattle.nx_host.specs.declared.disk.Disk.{Ghosts}
use Rattle.nx_host.specs.Still.{IsStill}
use Rattle.nx_holdings.specs.Holdings.{Held}
use Rattle.nx_records.specs.declared.records.Records.{Records}
use Rattle.nx_records.specs.declared.error.StoreError.{StoreError}
use Rattle.nx_records.specs.declared.error.StoreError.TheVariants as store
use Rattle.nx_records.specs.Records.{KeepsSaved}
use Rattle.nx_records.specs.Refusals.{EndNow, RunsOn, NotStored}
use Rattle.nx_piece.specs.declared.piece.Far.{Far}
use Rattle.nx_piece.specs.declared.piece.Piece.{Piece}
use Rattle.nx_piece.specs.declared.piece.Proxy.{Proxy}
use Rattle.nx_piece.specs.Contents.{fars_in}
use Rattle.nx_piece.specs.Gapped.{Gapped, End, Grow, proxies_in, gapped_nodes}
use Rattle.nx_piece.specs.Locate.{Inside, reached_in}
use Rattle.nx_piece.specs.Valid.{IsPiece, IsValidPiece}
use Rattle.nx_layouts.specs.Layout.{RecordPlace, Layout, piece_body, piece_of, places_of, proxies_of}
use Rattle.nx_hold.specs.Changes.{place_named, ComesTidy, ComesTidyWhere}
use Rattle.nx_hold.specs.Pieces.{HoldsPiece, HoldsNone, IsTidy, MayName, PieceMap}
use Rattle.nx_hold.specs.Documents.{MovesRecords}
use Rattle.nx_hold.proofs.TidyLemmas.{may_name_own}
use Rattle.nx_hold.proofs.MoveLemmas.{may_name_still}
use Rattle.nx_piece_edits.proofs.ContentsLemmas.{edits_keep_contents}
use Rattle.nx_hold.proofs.MapLemmas.{held_at}
use Rattle.nx_hold.proofs.PieceLemmas.{one_piece}
use Rattle.nx_hold.proofs.RefusalLemmas.{runs_then, saved_then}
use Rattle.nx_piece_edits.specs.declared.cutting.Removed.{Removed}
use Rattle.nx_piece_edits.specs.Cutting.{without_tree, IsWithoutTree}
use Rattle.nx_edit.specs.Removing.{RemovesRow, NotRemovedRow, kept_fars, kept_nodes}
use Rattle.nx_layouts.specs.Cutting.{layout_without, layout_at, StaysIn, LeadsOn}
use Rattle.nx_edit.specs.Editing.{places_off, nodes_off}
use Rattle.nx_nav.specs.declared.routing.PassedRecord.{PassedRecord}
use Rattle.nx_nav.specs.Route.{IsPassedRecord}
use Rattle.nx_edit.specs.Passing.{NotPassed, put_needs}
use Rattle.nx_edit.specs.Rows.{IsHeldInterval, IsReplaced, IsLeftOf, DeletesIn, DeletesAlong, OfInterval, NotDeletedIn, NotDeletedAlong, PassesLeft, left_of, IsRestPut, with_left}
use Rattle.nx_edit.proofs.RemoveLemmas.{later_rose, ends_behind}
use Rattle.nx_layouts.proofs.PathLemmas.{path_stays, path_leads_on}
use Rattle.nx_edit.proofs.OwnLemmas.{tree_row, tree_fits, rest_needs, still_there, own_put}
use Rattle.nx_edit.proofs.PassedLemmas.{piece_same, place_inside, inside_proxy, inside_interval, above_there}
use Rattle.nx_edit.proofs.AwayLemmas.{needs_below, few_before, away_replaced, marked, marked_is}

pub get_within : {A : Type 0} (xs : List A) (i : ℕ) (x : A) → slice_get xs i ≡ Some x → i < length xs
get_within [] zero x e = absurd (cc)
get_within [] (suc i) x e = absurd (cc)
get_within (y ∷ xs) zero x e = omega arith
get_within (y ∷ xs) (suc i) x e = omega (arith, get_within xs i x e)

-- what holds of an answer, by what held of it
pub ok_map : {T E : Type 0} {P Q : T → Type 0} (r : Result T E) → ((x : T) → P x → Q x) → IfOk r P → IfOk r Q
ok_map (Ok x) f h = f x h
ok_map (Err e) f h = tt

pub ok_both : {T E : Type 0} (P Q : T → Type 0) (r : Result T E) → IfOk r P → IfOk r Q → IfOk r (λ x. P x × Q x)
ok_both P Q (Ok x) one other = (one, other)
ok_both P Q (Err e) one other = tt

pub err_map : {T E : Type 0} {P Q : E → Type 0} (r : Result T E) → ((e : E) → P e → Q e) → IfErr r P → IfErr r Q
err_map (Ok x) f h = tt
err_map (Err e) f h = f e h

-- a piece that may be stored is one as it may be in memory
pub valid_piece : (piece : Piece) → IsValidPiece piece → IsPiece piece
valid_piece piece valid =
    let few = valid.body.few in
    let small = valid.body.small in
    record {
      body = record {
        trees = valid.body.trees;
        some = valid.body.some;
        few = omega (arith, few);
        small = omega (arith, small);
        apart = valid.body.apart;
        far = valid.body.far;
        counted = valid.body.counted;
        few_proxies = valid.body.few_proxies;
      };
      ranged = valid.ranged;
    }

-- what was taken out of the piece of an interval
pub record IsOwn (piece : Piece) (member : ℕ) (path : List ℕ) (removed : Removed) (own : ℕ) (members : Layout) : Type 0 where
  pub stays : StaysIn member path members
  pub proxies_are : removed.proxies ≡ proxies_of (layout_at member path members)
  pub rest_is : removed.rest ≡ piece_of (layout_without member path members)
  pub own_is : own ≡ gapped_nodes (piece_body (layout_at member path members))
  pub fars_are : fars_in (Grow removed.tree.node removed.tree.below End) ≡ fars_in (piece_body (layout_at member path members))

pub own_of : (piece : Piece) (member : ℕ) (path : List ℕ) (removed : Removed) (own : ℕ) (members : Layout) → IsWithoutTree piece member path removed → own ≡ 1 + gapped_nodes removed.tree.below → piece ≡ piece_of members → IsOwn piece member path removed own members
own_of piece member path removed own members r count is =
    let leads : reached_in (piece_of members) member path ≡ Inside removed.tree r.first = ap (λ (p : Piece). reached_in p member path) (sym is) ∙ r.leads in
    let s = path_stays members member path removed.tree r.first leads in
    let count_is = ap (λ (g : Gapped). gapped_nodes g) s.tree_is in
    record {
      stays = s.stays;
      proxies_are = r.taken ∙ ap (λ (p : Piece). take (proxies_in removed.tree.below) (drop r.first p.proxies)) is ∙ s.taken;
      rest_is =
          piece_same removed.rest (piece_of (layout_without member path members)) (r.body ∙ ap (λ (p : Piece). without_tree member path p.body.roots p.proxies) is ∙ s.body)
          (r.left ∙ ap (λ (p : Piece). take r.first p.proxies ++ drop (r.first + proxies_in removed.tree.below) p.proxies) is ∙ s.left);
      own_is = omega (arith, count, count_is);
      fars_are = ap (λ (g : Gapped). fars_in g) (sym s.tree_is);
    }

-- A tree of the record's own:

module _ {D : Type 0} (d : Ghosts D) (piece : Piece) (place : RecordPlace) (member : ℕ) (path : List ℕ) (limit : ℕ) (removed : Removed) (own : ℕ) (r : IsWithoutTree piece member path removed)
    (count : own ≡ 1 + gapped_nodes removed.tree.below) (r0 : Records) (x0 : D) where
  abbrev pub NotDeletedOwn : StoreError → Records → D → Type 0
  NotDeletedOwn e r1 x1 = NotDeletedIn d (Some piece) place member path limit e r0 r1 x0 x1

  facts : (members : Layout) → piece ≡ piece_of members → IsOwn piece member path removed own members
  facts members is = own_of piece member path removed own members r count is

  pub own_damaged : (r1 : Records) → limit < own → EndNow r0 r1 → EndNow r0 r1 × OfInterval d r0 x0 (Some piece) place member path limit (λ now members. ⊥)
  own_damaged r1 more ends = (
    ends,
    λ saved now pieces members stands tidy i.
        let f = facts members i.is in
        tree_fits now pieces (Some piece) place member path limit members i f.stays own f.own_is more,
  )

  pub rows_refused : (r1 : Records) (x1 : D) (e : StoreError) → NotRemovedRow d removed.proxies (limit - own) e r0 r1 x0 x1 → NotDeletedOwn e r1 x1
  rows_refused r1 x1 store.Disk refused = refused
  rows_refused r1 x1 (store.Damaged page) refused = (
    refused.0,
    λ saved now pieces members stands tidy i.
        let f = facts members i.is in
        refused.1 saved now pieces (layout_at member path members) stands tidy (tree_row now pieces (Some piece) place member path limit members i f.stays removed.proxies own f.proxies_are f.own_is),
  )
  rows_refused r1 x1 store.Ended refused = absurd refused
  rows_refused r1 x1 store.Memory refused = refused
  rows_refused r1 x1 store.Exists refused = absurd refused
  rows_refused r1 x1 store.NotAStore refused = absurd refused
  rows_refused r1 x1 store.Full refused = absurd refused

  module _ (r1 : Records) (x1 : D) (below : ℕ) (fars : List Far) (still : IsStill d x0 x1) (runs : RunsOn r0 r1) (keeps : KeepsSaved d r0 r1 x0 x1) (rows : ComesTidy d r0 r1 x0 x1 (RemovesRow removed.proxies (limit - own) below fars))
      (r2 : Records) (x2 : D) where
    -- what became of the rows below the tree
    gone_below : (was mid : Held) (pieces : PieceMap was) (members : Layout) (i : IsHeldInterval was pieces (Some piece) place member path limit members) → RemovesRow removed.proxies (limit - own) below fars was mid
        → MovesRecords (places_of (layout_at member path members)) [] [] [] 0 was mid × (below ≡ kept_nodes (layout_at member path members)) × IsPermutation fars (kept_fars (layout_at member path members))
    gone_below was mid pieces members i removes =
        let f = facts members i.is in
        removes pieces (layout_at member path members) (tree_row was pieces (Some piece) place member path limit members i f.stays removed.proxies own f.proxies_are f.own_is)

    -- the far contents of the rest may be named
    rest_may : (was mid : Held) → IsTidy was → (pieces : PieceMap was) (members : Layout) (i : IsHeldInterval was pieces (Some piece) place member path limit members) → RemovesRow removed.proxies (limit - own) below fars was mid → MayName mid removed.rest.body.roots
    rest_may was mid tidy pieces members i removes =
        let keeps = (edits_keep_contents.tree_goes piece member path removed r).0 in
        let holds : HoldsPiece was place piece = subst (λ (p : Piece). HoldsPiece was place p) (sym i.is) (held_at was pieces place (piece_of members) ((i.held).0).there) in
        may_name_still removed.rest.body.roots tidy (gone_below was mid pieces members i removes).0 (λ far among. may_name_own was place piece tidy holds far (keeps.fars far among))

    pub put_refused : (page : ℕ) (e : StoreError) → NotStored d (λ was. put_needs removed.rest) (λ was. HoldsNone was place) page e r1 r2 x1 x2 → NotDeletedOwn e r2 x2
    put_refused page store.Disk refused = (later_rose (d.faults x0) (d.faults x1) (d.faults x2) still.faults_later refused.0, ends_behind {r0 = r0} {r1 = r1} {r2 = r2} runs refused.1)
    put_refused page store.Full refused = record {
      runs = runs_then {r0 = r0} {r1 = r1} {r2 = r2} runs refused.runs;
      keeps = saved_then {d = d} {r0 = r0} {r1 = r1} {r2 = r2} {x0 = x0} {x1 = x1} {x2 = x2} keeps refused.keeps;
      none_free = refused.none_free;
      few = λ saved now pieces members stands tidy i.
          let f = facts members i.is in
          let mid = rows saved now stands tidy in
          let moves = (gone_below now mid.0 pieces members i mid.3).0 in
          let few = refused.few saved mid.0 mid.1 in
          let less = moves.free in
          let needs = rest_needs now pieces (Some piece) place member path limit members i f.stays own removed.rest f.own_is (omega (arith, count)) f.rest_is in
          omega (arith, few, less, needs);
    }
    put_refused page (store.Damaged other) refused = (
      ends_behind {r0 = r0} {r1 = r1} {r2 = r2} runs refused.ends,
      λ saved now pieces members stands tidy i.
          let f = facts members i.is in
          let mid = rows saved now stands tidy in
          let moves = (gone_below now mid.0 pieces members i mid.3).0 in
          refused.lacks saved mid.0 mid.1 (piece_of members) (still_there now pieces (Some piece) place member path limit members i f.stays tidy moves),
    )
    put_refused page store.Ended refused = absurd (false≢true (sym runs.after ∙ refused.0))
    put_refused page store.Memory refused = (
      runs_then {r0 = r0} {r1 = r1} {r2 = r2} runs refused.0,
      saved_then {d = d} {r0 = r0} {r1 = r1} {r2 = r2} {x0 = x0} {x1 = x1} {x2 = x2} keeps refused.1,
    )
    put_refused page store.Exists refused = absurd refused
    put_refused page store.NotAStore refused = absurd refused

    pub own_done : (left : Option Proxy) (went : ℕ) → went ≡ own + below → ComesTidyWhere d r1 r2 x1 x2 (λ was. MayName was removed.rest.body.roots) (IsRestPut place removed.rest left)
        → DeletesIn d r0 r2 x0 x2 (Some piece) place member path limit went (option_to_list left) (fars_in (Grow removed.tree.node removed.tree.below End) ++ fars)
    own_done left went sum put saved was pieces members stands tidy i =
        let f = facts members i.is in
        let mid = rows saved was stands tidy in
        let done = gone_below was mid.0 pieces members i mid.3 in
        let now = put saved mid.0 mid.1 mid.2 (rest_may was mid.0 tidy pieces members i mid.3) in (
          now.0,
          now.1,
          now.2,
          own_put was pieces (Some piece) place member path limit members i f.stays tidy done.0 mid.2 own below went f.own_is done.1 sum (omega (arith, count)) (fars_in (Grow removed.tree.node removed.tree.below End)) fars f.fars_are done.2
              removed.rest f.rest_is left now.3,
        )

-- The path ends in the last piece:

pub none_passed : (xs : List PassedRecord) → length xs ≡ 0 → xs ≡ []
none_passed [] e = refl
none_passed (x ∷ xs) e = absurd (omega arith)

-- the interval of a record that holds a piece has it
pub as_held : (place : RecordPlace) (member : ℕ) (path : List ℕ) (limit : ℕ) {now : Held} (pieces : PieceMap now) (members : Layout) (piece : Piece) → HoldsPiece now place piece → IsHeldInterval now pieces None place member path limit members → IsHeldInterval now pieces (Some piece) place member path limit members
as_held place member path limit {now} pieces members piece holds i = record {
  is = one_piece now place piece (piece_of members) holds (held_at now pieces place (piece_of members) ((i.held).0).there);
  held = i.held;
  once = i.once;
  light = i.light;
  leads = i.leads;
  few = i.few;
}

module _ {D : Type 0} (d : Ghosts D) (place : RecordPlace) (member : ℕ) (path : List ℕ) (limit : ℕ) (last : Piece) (r0 r1 : Records) (x0 x1 : D) where
  pub end_refused : (e : StoreError) → NotDeletedIn d (Some last) place member path limit e r0 r1 x0 x1 → NotDeletedAlong d [] last place member path limit e r0 r1 x0 x1
  end_refused store.Disk refused = refused
  end_refused store.Full refused = record {
    runs = refused.runs;
    keeps = refused.keeps;
    none_free = refused.none_free;
    few = λ saved now pieces members stands tidy i holds. refused.few saved now pieces members stands tidy (as_held place member path limit pieces members last holds i);
  }
  end_refused (store.Damaged page) refused = (refused.0, λ saved now pieces members stands tidy i holds. refused.1 saved now pieces members stands tidy (as_held place member path limit pieces members last holds i))
  end_refused store.Memory refused = refused
  end_refused store.Ended refused = absurd refused
  end_refused store.Exists refused = absurd refused
  end_refused store.NotAStore refused = absurd refused

  pub end_done : (went : ℕ) (proxies : List Proxy) (fars : List Far) → DeletesIn d r0 r1 x0 x1 (Some last) place member path limit went proxies fars → DeletesAlong d r0 r1 x0 x1 [] last place member path limit went proxies fars
  end_done went proxies fars goes saved was pieces members stands tidy i holds = goes saved was pieces members stands tidy (as_held place member path limit pieces members last holds i)

-- A tree below an interval that the path leads into:

module _ {D : Type 0} (d : Ghosts D) (place : RecordPlace) (member : ℕ) (path : List ℕ) (limit : ℕ) (first : PassedRecord) (more : List PassedRecord) (last : Piece) (r0 r1 : Records) (x0 x1 : D) where
  abbrev pub NotDeletedAway : StoreError → Records → D → Type 0
  NotDeletedAway e r x = NotDeletedAlong d (first ∷ more) last place member path limit e r0 r x0 x

  -- the path leaves this piece so
  module _ (piece : Piece) (is : IsPassedRecord piece member path first) where
    way : (members : Layout) → piece ≡ piece_of members → LeadsOn members member path first.index first.member first.used
    way members same = path_leads_on members member path first.index first.member first.used (ap (λ (p : Piece). reached_in p member path) (sym same) ∙ is.leads)

    at_inside : {now : Held} (pieces : PieceMap now) (members : Layout) (i : IsHeldInterval now pieces (Some piece) place member path limit members)
        → place_named first.proxy ≡ place_inside now pieces (Some piece) place member path limit members i first.index first.member (drop first.used path) (way members i.is).inside (way members i.is).into
    at_inside {now} pieces members i =
        let w = way members i.is in
        inside_proxy now pieces (Some piece) place member path limit members i first.index first.member (drop first.used path) w.inside w.into first.proxy (ap (λ (p : Piece). slice_get p.proxies first.index) (sym i.is) ∙ is.proxy_is)

    -- the interval below it
    inner : {now : Held} (pieces : PieceMap now) (members : Layout) (i : IsHeldInterval now pieces (Some piece) place member path limit members)
        → IsHeldInterval now pieces None (place_named first.proxy) first.member (drop first.used path) limit (way members i.is).inside
    inner {now} pieces members i =
        let w = way members i.is in
        subst (λ (p : RecordPlace). IsHeldInterval now pieces None p first.member (drop first.used path) limit w.inside) (sym (at_inside pieces members i))
        (inside_interval now pieces (Some piece) place member path limit members i first.index first.member (drop first.used path) w.inside w.into w.same)

    -- what became of the interval below, where it stands
    replaced : {was mid : Held} (pieces : PieceMap was) (members : Layout) (i : IsHeldInterval was pieces (Some piece) place member path limit members) (went : ℕ) (o : Option Proxy) (fars : List Far)
        → IsReplaced (was.settings).k (IsLeftOf first.member (drop first.used path) went (way members i.is).inside) (place_named first.proxy) (way members i.is).inside (nodes_off false (first.member ∷ drop first.used path) (way members i.is).inside) []
        (places_off false (first.member ∷ drop first.used path) (way members i.is).inside) (option_to_list o) fars was mid
        → IsReplaced (was.settings).k (IsLeftOf first.member (drop first.used path) went (way members i.is).inside)
        (place_inside was pieces (Some piece) place member path limit members i first.index first.member (drop first.used path) (way members i.is).inside (way members i.is).into)
        (way members i.is).inside (nodes_off false (first.member ∷ drop first.used path) (way members i.is).inside) [] (places_off false (first.member ∷ drop first.used path) (way members i.is).inside) (option_to_list o) fars was mid
    replaced {was} {mid} pieces members i went o fars r =
        let w = way members i.is in
        subst (λ (p : RecordPlace). IsReplaced (was.settings).k (IsLeftOf first.member (drop first.used path) went w.inside) p w.inside (nodes_off false (first.member ∷ drop first.used path) w.inside) []
        (places_off false (first.member ∷ drop first.used path) w.inside) (option_to_list o) fars was mid) (at_inside pieces members i) r

  pub below_refused : (e : StoreError) → NotDeletedAlong d more last (place_named first.proxy) first.member (drop first.used path) limit e r0 r1 x0 x1 → NotDeletedAway e r1 x1
  below_refused store.Disk refused = refused
  below_refused store.Full refused = record {
    runs = refused.runs;
    keeps = refused.keeps;
    none_free = refused.none_free;
    few = λ saved now pieces members stands tidy i route.
        let piece = (route.0).0 in
        let is : IsPassedRecord piece member path first = (route.0).2 in
        let j = as_held place member path limit pieces members piece (route.0).1 i in
        let w = way piece is members j.is in
        let few = refused.few saved now pieces w.inside stands tidy (inner piece is pieces members j) route.1 in
        let needs = needs_below now pieces (Some piece) place member path limit members j first.index first.member (drop first.used path) w.inside w.into (marked (left_of first.member (drop first.used path) w.inside)) (marked_is (left_of first.member (drop first.used path) w.inside)) in
        omega (arith, few, needs);
  }
  below_refused (store.Damaged page) refused = (
    refused.0,
    λ saved now pieces members stands tidy i route.
        let piece = (route.0).0 in
        let is : IsPassedRecord piece member path first = (route.0).2 in
        let j = as_held place member path limit pieces members piece (route.0).1 i in
        refused.1 saved now pieces (way piece is members j.is).inside stands tidy (inner piece is pieces members j) route.1,
  )
  below_refused store.Memory refused = refused
  below_refused store.Ended refused = absurd refused
  below_refused store.Exists refused = absurd refused
  below_refused store.NotAStore refused = absurd refused

  module _ (still : IsStill d x0 x1) (runs : RunsOn r0 r1) (keeps : KeepsSaved d r0 r1 x0 x1) (went : ℕ) (o : Option Proxy) (fars : List Far)
      (below : DeletesAlong d r0 r1 x0 x1 more last (place_named first.proxy) first.member (drop first.used path) limit went (option_to_list o) fars) (r2 : Records) (x2 : D) where
    pub left_refused : (e : StoreError) → NotPassed d place first (with_left first.index o) (λ piece. Unit {0}) e r1 r2 x1 x2 → NotDeletedAway e r2 x2
    left_refused store.Disk refused = (later_rose (d.faults x0) (d.faults x1) (d.faults x2) still.faults_later refused.0, ends_behind {r0 = r0} {r1 = r1} {r2 = r2} runs refused.1)
    left_refused store.Full refused = record {
      runs = runs_then {r0 = r0} {r1 = r1} {r2 = r2} runs refused.runs;
      keeps = saved_then {d = d} {r0 = r0} {r1 = r1} {r2 = r2} {x0 = x0} {x1 = x1} {x2 = x2} keeps refused.keeps;
      none_free = refused.none_free;
      few = λ saved now pieces members stands tidy i route.
          let piece = (route.0).0 in
          let is : IsPassedRecord piece member path first = (route.0).2 in
          let j = as_held place member path limit pieces members piece (route.0).1 i in
          let w = way piece is members j.is in
          let mid = below saved now pieces w.inside stands tidy (inner piece is pieces members j) route.1 in
          let r = replaced piece is pieces members j went o fars mid.3 in
          let there = above_there now pieces (Some piece) place member path limit members j first.index first.member (drop first.used path) w.inside w.into tidy r.moves in
          few_before now pieces (Some piece) place member path limit members j first.index first.member (drop first.used path) w.inside w.into tidy went o fars r piece j.is
          (refused.few saved mid.0 piece mid.1 (subst (λ (p : Piece). HoldsPiece mid.0 place p) (sym j.is) there) (is.proxy_is, is.roots_are));
    }
    left_refused (store.Damaged page) refused = (
      ends_behind {r0 = r0} {r1 = r1} {r2 = r2} runs refused.0,
      λ saved now pieces members stands tidy i route.
          let piece = (route.0).0 in
          let is : IsPassedRecord piece member path first = (route.0).2 in
          let j = as_held place member path limit pieces members piece (route.0).1 i in
          let w = way piece is members j.is in
          let mid = below saved now pieces w.inside stands tidy (inner piece is pieces members j) route.1 in
          let r = replaced piece is pieces members j went o fars mid.3 in
          let there = above_there now pieces (Some piece) place member path limit members j first.index first.member (drop first.used path) w.inside w.into tidy r.moves in
          refused.1 saved mid.0 piece mid.1 (subst (λ (p : Piece). HoldsPiece mid.0 place p) (sym j.is) there) (is.proxy_is, is.roots_are) tt,
    )
    left_refused store.Memory refused = (
      runs_then {r0 = r0} {r1 = r1} {r2 = r2} runs refused.0,
      saved_then {d = d} {r0 = r0} {r1 = r1} {r2 = r2} {x0 = x0} {x1 = x1} {x2 = x2} keeps refused.1,
    )
    left_refused store.Ended refused = absurd refused
    left_refused store.Exists refused = absurd refused
    left_refused store.NotAStore refused = absurd refused

    pub away_done : (left : Proxy) → ComesTidy d r1 r2 x1 x2 (PassesLeft place first o left) → DeletesAlong d r0 r2 x0 x2 (first ∷ more) last place member path limit went (left ∷ []) fars
    away_done left passes saved was pieces members stands tidy i route =
        let piece = (route.0).0 in
        let is : IsPassedRecord piece member path first = (route.0).2 in
        let j = as_held place member path limit pieces members piece (route.0).1 i in
        let w = way piece is members j.is in
        let mid = below saved was pieces w.inside stands tidy (inner piece is pieces members j) route.1 in
        let now = passes saved mid.0 mid.1 mid.2 in
        let r = replaced piece is pieces members j went o fars mid.3 in
        let there = above_there was pieces (Some piece) place member path limit members j first.index first.member (drop first.used path) w.inside w.into tidy r.moves in
        let put = now.3 piece (subst (λ (p : Piece). HoldsPiece mid.0 place p) (sym j.is) there) (is.proxy_is, is.roots_are) in (
          now.0,
          now.1,
          now.2,
          away_replaced was pieces (Some piece) place member path limit members j first.index first.member (drop first.used path) w.inside w.into tidy went o fars r mid.2 piece j.is left put.0 put.1,
        )

    pub left_keeps : RunsOn r1 r2 → KeepsSaved d r1 r2 x1 x2 → RunsOn r0 r2 × KeepsSaved d r0 r2 x0 x2
    left_keeps on kept = (runs_then {r0 = r0} {r1 = r1} {r2 = r2} runs on, saved_then {d = d} {r0 = r0} {r1 = r1} {r2 = r2} {x0 = x0} {x1 = x1} {x2 = x2} keeps kept)
