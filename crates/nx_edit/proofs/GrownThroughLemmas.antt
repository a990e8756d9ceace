-- Records below an interval moved, and then its own piece, which got heavier, was put.
use Rattle.std.proofs.Common.{◌≡◌, ℕ, ◌+◌, ◌*◌, ◌<◌, ◌≤◌, List, [], ◌∷◌, ◌++◌, length, Option, Some, inl, inr, sym, ap, ◌∙◌, subst, arith, append-nil, IsPermutation}
use Rattle.std.specs.Prelude.{Contains, true}
use Rattle.std.proofs.lemmas.List.Elements.{Contains-append_right}
use Rattle.std.proofs.lemmas.List.Sums.{sum_by-append}
use Rattle.std.proofs.lemmas.List.Sorted.{IsPermutation-sym, Contains-permutation, sum_by-IsPermutation}
use Rattle.nx_host.specs.declared.disk.Disk.{Ghosts}
use Rattle.nx_tree.specs.declared.node.Node.{Node}
use Rattle.nx_tree.specs.Document.{most_nodes}
use Rattle.nx_holdings.specs.Holdings.{Held}
use Rattle.nx_holdings.specs.declared.header.Settings.{Settings}
use Rattle.nx_records.specs.declared.records.Records.{Records}
use Rattle.nx_records.specs.declared.error.StoreError.{StoreError}
use Rattle.nx_records.specs.declared.error.StoreError.TheVariants as store
use Rattle.nx_records.specs.Records.{KeepsSaved}
use Rattle.nx_records.specs.Refusals.{RunsOn}
use Rattle.nx_piece.specs.declared.piece.Far.{Far}
use Rattle.nx_piece.specs.declared.piece.Piece.{Piece}
use Rattle.nx_divide.specs.declared.dividing.Row.{Row}
use Rattle.nx_matrix.specs.declared.rule.Rule.{Rule}
use Rattle.nx_cuts.specs.Cut.{CutForest, Bare, Kept}
use Rattle.nx_layouts.specs.Layout.{RecordPlace, Layout, AreHeld, ArePlacedOnce, contents_of, lists_of, nodes_in, piece_body, piece_of, places_of, without_places}
use Rattle.nx_layouts.proofs.PlaceLemmas.{later_among, between_cases, among_between, no_place, once-append}
use Rattle.nx_hold.specs.Changes.{ComesTidyWhere}
use Rattle.nx_hold.specs.Documents.{MovesRecords, NamesAmong}
use Rattle.nx_hold.specs.Contents.{near_pages}
use Rattle.nx_hold.specs.Pieces.{record_at, MayName, NamesList, IsTidy, PieceMap, held_by}
use Rattle.nx_hold.proofs.MapLemmas.{piece_map, held_at}
use Rattle.nx_hold.proofs.MoveLemmas.{moves_add_up, moves_more}
use Rattle.nx_hold.proofs.RecordsLemmas.{names_along}
use Rattle.nx_hold.proofs.PieceLemmas.{no_value}
use Rattle.nx_hold.proofs.TidyLemmas.{may_name_own}
use Rattle.nx_hold.proofs.RefusalLemmas.{runs_then, saved_then, ends_then}
use Rattle.nx_drawn.specs.Growth.{MayBeHeavy}
use Rattle.nx_edit.specs.Rows.{row_nodes, IsHeldInterval, IsReplaced}
use Rattle.nx_edit.specs.Changing.{Put, MayPutIn, changed_interval, kept_around, put_lists, way_of, AreSplitOf, IsPossibleIn, IsReplacedByRow, ChangesKnown, NotChangedKnown, change_needs}
use Rattle.nx_edit.specs.Editing.{places_off}
use Rattle.nx_edit.specs.Grown.{GrowsFrom}
use Rattle.nx_edit.specs.Growing.{IsGrownMembers, PutsGrown, NotGrown, grown_needs}
use Rattle.nx_edit.proofs.HeldLemmas.{row_apart, row_there}
use Rattle.nx_edit.proofs.OrderLemmas.{lists_by_sums}
use Rattle.nx_edit.proofs.OwnLemmas.{nodes_alone}
use Rattle.nx_edit.proofs.RemoveLemmas.{later_rose}
use Rattle.nx_edit.proofs.ThroughLemmas.{IsAround, around_interval, moves_around, once_there, beside_stays, above_stays}

-- records that moved for no more pages than told
pub moves_within : (gone come : List RecordPlace) (brought : List ℕ) (needs most : ℕ) (was now : Held) → was.free ≤ now.free + most → MovesRecords gone come [] brought needs was now → MovesRecords gone come [] brought most was now
moves_within gone come brought needs most was now free m = record {
  fresh = m.fresh;
  came = m.came;
  went = m.went;
  kept = m.kept;
  lists_stay = m.lists_stay;
  lists_come = m.lists_come;
  lists_go = m.lists_go;
  lists_fresh = m.lists_fresh;
  lost_alone = m.lost_alone;
  settings = m.settings;
  catalog = m.catalog;
  free = free;
}

-- an interval of these members, split, for two pages for each node of what came, and those of its long contents
abbrev SplitsTight : Settings → List Rule → (room : ℕ) (above : Option Node) → (place : RecordPlace) (members : Layout) (row : Row) → Held → Held → Type 0
SplitsTight settings rules room above place members row was now =
    (r : IsReplacedByRow settings.k (AreSplitOf settings rules room above (Kept tt (without_places members) Bare)) place members (nodes_in members) [] (places_of members) row [] was now)
    × (was.free + length row.proxies ≤ now.free + (2 * row_nodes (without_places (r.0).row) + near_pages (nodes_in members)))

module _ (rules : List Rule) (put : Put) {was : Held} (pieces : PieceMap was) (known : Option Piece) (place : RecordPlace) (position : ℕ) (path : List ℕ) (members : Layout) (i : IsHeldInterval was pieces known place position path most_nodes members)
    (possible : IsPossibleIn (was.settings).k rules put position path members) (piece : Piece) (dropped : List Far) (tidy : IsTidy was) {mid : Held} (mid_tidy : IsTidy mid) (g : GrowsFrom rules put position path members piece dropped was mid) where
  abbrev k : ℕ
  k = (was.settings).k

  around : IsAround was place g.before g.gone g.behind
  around = around_interval was pieces place members g.before g.gone g.behind i.held i.once (append-nil (places_of members) ∙ g.places_were)

  grown_nodes : row_nodes (without_places g.grown) ≡ row_nodes (changed_interval rules put position path members)
  grown_nodes = sym (nodes_alone place g.grown) ∙ ap row_nodes g.interval_is

  same_settings : mid.settings ≡ was.settings
  same_settings = (g.moves).settings

  -- the piece is that of the members
  pub grown_members : (after : PieceMap mid) → IsGrownMembers mid after piece place g.grown
  grown_members after = record {
    is = g.is;
    there = (piece_of members, above_stays around g.moves tidy (piece_of members) (held_at was pieces place (piece_of members) ((i.held).0).there));
    held = g.held after;
    may = subst (λ (p : Piece). MayName mid p.body.roots) (sym g.is) g.may;
    once = subst (λ (ps : List RecordPlace). ArePlacedOnce (place ∷ ps)) (sym g.places_are) (once_there around g.moves g.once);
    heavy = subst (λ (n : ℕ). MayBeHeavy n (n + n) (n + 1) (without_places g.grown)) (sym (ap (λ s. s.k) same_settings)) g.heavy;
    few = let n = grown_nodes in let all : row_nodes (changed_interval rules put position path members) ≤ most_nodes = possible.few in omega (arith, n, all);
  }

  -- fewer pages were free at first than may be needed, where fewer are free then than the piece may need
  pub grown_few : mid.free < grown_needs g.grown → was.free < change_needs rules put position path members
  grown_few few =
      let n = grown_nodes in
      let moved : was.free ≤ mid.free + g.needs = (g.moves).free in
      let less = g.few in
      let rest = g.rest in
      omega (arith, n, moved, less, rest, few)

  module _ {now : Held} (room : ℕ) (above : Option Node) (answer : Row) (t : SplitsTight was.settings rules room above place g.grown answer mid now) where
    abbrev r : IsReplaced k (AreSplitOf was.settings rules room above (Kept tt (without_places g.grown) Bare)) place g.grown (nodes_in g.grown) [] (places_of g.grown) answer.proxies [] mid now
    r = (t.0).0

    stays_then : (other : RecordPlace) → Contains (g.before ++ (g.come ++ g.behind)) other → record_at mid other ≡ record_at was other → ((count chain : ℕ) → NamesList was other count chain → mid.lists chain ≡ was.lists chain)
        → (record_at now other ≡ record_at was other) × ((count chain : ℕ) → NamesList was other count chain → now.lists chain ≡ was.lists chain)
    stays_then other among same lists =
        let below : Contains (places_of g.grown) other = subst (λ (ps : List RecordPlace). Contains ps other) (sym g.places_are) among in (
          r.records_stay other below ∙ same,
          λ count chain names. r.lists_stay other count chain below (names_along was mid other count chain same names) ∙ lists count chain names,
        )

    -- what is off the way stays
    off_stays : (other : RecordPlace) → Contains (places_off true (position ∷ way_of put path) members) other → (record_at now other ≡ record_at was other) × ((count chain : ℕ) → NamesList was other count chain → now.lists chain ≡ was.lists chain)
    off_stays other among = elim (g.off other among) [
      | inl beside ↦
          let found = around.there other (later_among place (g.before ++ g.behind) other beside) in
          let first = beside_stays around g.moves tidy other found.0 beside found.1 in
          stays_then other (between_cases g.before g.come g.behind other beside) first.0 first.2
      | inr left ↦ stays_then other (among_between g.before g.come g.behind other left.0) left.1 left.2
    ]

    moved : MovesRecords (place ∷ places_of members) (places_of r.row) [] (g.brought ++ r.brought) (row_nodes (without_places members) + 2 * row_nodes (without_places r.row) + near_pages (kept_around put position path members)) was now
    moved =
        let more : ℕ = 2 * row_nodes (without_places r.row) + near_pages (nodes_in g.grown) in
        let first : MovesRecords (place ∷ places_of members) (place ∷ places_of g.grown) [] g.brought g.needs was mid =
        subst (λ (ps : List RecordPlace). MovesRecords (place ∷ ps) (place ∷ places_of g.grown) [] g.brought g.needs was mid) (sym g.places_were)
        (subst (λ (ps : List RecordPlace). MovesRecords (place ∷ (g.before ++ (g.gone ++ g.behind))) (place ∷ ps) [] g.brought g.needs was mid) (sym g.places_are) (moves_around around g.moves)) in
        let second : MovesRecords (place ∷ places_of g.grown) (places_of r.row) [] r.brought more mid now =
        moves_within (place ∷ places_of g.grown) (places_of r.row) r.brought (row_nodes (without_places g.grown) + 2 * row_nodes (without_places r.row) + near_pages (nodes_in g.grown)) more mid now (let left = t.1 in omega (arith, left)) r.moves in
        let less = g.few in
        let rest = g.rest in
        moves_more (place ∷ places_of members) (places_of r.row) [] (g.brought ++ r.brought) (g.needs + more)
        (row_nodes (without_places members) + 2 * row_nodes (without_places r.row) + near_pages (kept_around put position path members)) was now (omega (arith, less, rest))
        (moves_add_up (place ∷ places_of members) (place ∷ places_of g.grown) (places_of r.row) [] [] g.brought r.brought g.needs more was mid now first second)

    held_mid : AreHeld (held_by (piece_map mid)) g.grown
    held_mid = g.held (piece_map mid)

    may_mid : MayName mid (piece_body g.grown)
    may_mid = subst (λ (p : Piece). MayName mid p.body.roots) (sym g.is) g.may

    -- a list that came before is one of the members
    among_grown : (first : ℕ) → Contains g.brought first → Contains (contents_of g.grown) first
    among_grown first early =
        Contains-permutation (lists_of (kept_around put position path members) ++ (put_lists put ++ g.brought)) (contents_of g.grown) first
        (IsPermutation-sym (contents_of g.grown) (lists_of (kept_around put position path members) ++ (put_lists put ++ g.brought)) g.contents_came)
        (Contains-append_right (lists_of (kept_around put position path members)) (put_lists put ++ g.brought) first (Contains-append_right (put_lists put) g.brought first early))

    apart : (first : ℕ) → Contains g.brought first → Contains r.brought first → ⊥
    apart first early late =
        let there = row_there mid (piece_map mid) g.grown held_mid first (among_grown first early) in
        no_value (sym there.1 ∙ (r.moves).lists_fresh first (inr late) (λ named. by_case named))
      where
        by_case : NamesAmong mid (place ∷ places_of g.grown) [] first → ⊥
        by_case (inl named) = row_apart mid (piece_map mid) g.grown mid_tidy held_mid may_mid first (among_grown first early) named.0 named.1 named.3
        by_case (inr none) = no_place first none

    came : IsPermutation (contents_of r.row) (lists_of (kept_around put position path members) ++ (put_lists put ++ (g.brought ++ r.brought)))
    came = lists_by_sums (contents_of r.row) (lists_of (kept_around put position path members) ++ (put_lists put ++ (g.brought ++ r.brought)))
        (λ f.
        let one = sum_by-IsPermutation f (contents_of r.row) (contents_of g.grown ++ r.brought) r.contents_came in
        let two = sum_by-IsPermutation f (contents_of g.grown) (lists_of (kept_around put position path members) ++ (put_lists put ++ g.brought)) g.contents_came in
        let a = sum_by-append f (contents_of g.grown) r.brought in
        let b = sum_by-append f (lists_of (kept_around put position path members)) (put_lists put ++ g.brought) in
        let c = sum_by-append f (put_lists put) g.brought in
        let e = sum_by-append f (lists_of (kept_around put position path members)) (put_lists put ++ (g.brought ++ r.brought)) in
        let h = sum_by-append f (put_lists put) (g.brought ++ r.brought) in
        let j = sum_by-append f g.brought r.brought in
        omega (arith, one, two, a, b, c, e, h, j))

    -- the interval was replaced
    through : (q : IsReplacedByRow k (AreSplitOf was.settings rules room above (changed_interval rules put position path members)) place members (kept_around put position path members) (put_lists put) (places_off true (position ∷ way_of put path) members) answer dropped was now)
        × (was.free + length answer.proxies ≤ now.free + (row_nodes (without_places members) + 2 * row_nodes (without_places (q.0).row) + near_pages (kept_around put position path members)))
    through = (
      (
        record {
          row = r.row;
          becomes = subst (λ (c : CutForest). AreSplitOf was.settings rules room above c (without_places r.row)) g.interval_is r.becomes;
          proxies_are = r.proxies_are;
          held = r.held;
          once = r.once;
          light = r.light;
          brought = g.brought ++ r.brought;
          moves = moved;
          contents_went = g.contents_went;
          contents_came = came;
          brought_once = once-append g.brought r.brought g.brought_once r.brought_once apart;
          records_stay = λ other among. (off_stays other among).0;
          lists_stay = λ other count chain among. (off_stays other among).1 count chain;
        },
        (t.0).1,
      ),
      let left = t.1 in
          let went : was.free ≤ mid.free + g.needs = (g.moves).free in
          let less = g.few in
          let rest = g.rest in
          omega (arith, left, went, less, rest),
    )

  grown_replaced : {now : Held} (after : PieceMap mid) (room : ℕ) (above : Option Node) (row : Row) → PutsGrown rules room above piece place row mid now
      → (q : IsReplacedByRow k (AreSplitOf was.settings rules room above (changed_interval rules put position path members)) place members (kept_around put position path members) (put_lists put) (places_off true (position ∷ way_of put path) members) row dropped was now)
      × (was.free + length row.proxies ≤ now.free + (row_nodes (without_places members) + 2 * row_nodes (without_places (q.0).row) + near_pages (kept_around put position path members)))
  grown_replaced {now} after room above row puts = through room above row (subst (λ (s : Settings). SplitsTight s rules room above place g.grown row mid now) same_settings (puts.1 after g.grown (grown_members after)))

-- The calls: those that move the records below went well, and then the piece was put.
module _ {D : Type 0} (d : Ghosts D) (rules : List Rule) (put : Put) (known piece : Piece) (dropped : List Far) (place : RecordPlace) (position : ℕ) (path : List ℕ) (r0 r1 r2 : Records) (x0 x1 x2 : D) (later : d.faults x0 ≤ d.faults x1) (runs : RunsOn r0 r1) (keeps : KeepsSaved d r0 r1 x0 x1)
    (below : ComesTidyWhere d r0 r1 x0 x1 (λ was. MayPutIn was put known) (λ was mid. MayName mid piece.body.roots × ((pieces : PieceMap was) (members : Layout) → IsHeldInterval was pieces (Some known) place position path most_nodes members → IsPossibleIn (was.settings).k rules put position path members → GrowsFrom rules put position path members piece dropped was mid))) where
  may_there : (was : Held) (pieces : PieceMap was) (members : Layout) → IsTidy was → IsHeldInterval was pieces (Some known) place position path most_nodes members → MayName was known.body.roots
  may_there was pieces members tidy i =
      subst (λ (p : Piece). MayName was p.body.roots) (sym i.is) (may_name_own was place (piece_of members) tidy (held_at was pieces place (piece_of members) ((i.held).0).there))

  pub grown_changed : (room : ℕ) (above : Option Node) (row : Row) → ComesTidyWhere d r1 r2 x1 x2 (λ was. MayName was piece.body.roots) (PutsGrown rules room above piece place row)
      → ComesTidyWhere d r0 r2 x0 x2 (λ was. MayPutIn was put known) (ChangesKnown rules (Some known) room above put place position path row dropped)
  grown_changed room above row puts saved was stands tidy may =
      let mid = below saved was stands tidy may in
      let now = puts saved mid.0 mid.1 mid.2 (mid.3).0 in (
        now.0,
        now.1,
        now.2,
        (
          (now.3).0,
          λ pieces members i possible. grown_replaced rules put pieces (Some known) place position path members i possible piece dropped tidy mid.2 ((mid.3).1 pieces members i possible) (piece_map mid.0) room above row now.3,
        ),
      )

  pub grown_refused : (e : StoreError) → NotGrown d piece place e r1 r2 x1 x2 → NotChangedKnown d rules (Some known) put place position path e r0 r2 x0 x2
  grown_refused store.Disk refused = (later_rose (d.faults x0) (d.faults x1) (d.faults x2) later refused.0, ends_then {r0 = r0} {r1 = r1} {r2 = r2} runs refused.1)
  grown_refused store.Full refused = record {
    runs = runs_then {r0 = r0} {r1 = r1} {r2 = r2} runs refused.runs;
    keeps = saved_then {d = d} {r0 = r0} {r1 = r1} {r2 = r2} {x0 = x0} {x1 = x1} {x2 = x2} keeps refused.keeps;
    none_free = refused.none_free;
    few = λ saved was pieces members stands tidy i possible may.
        let mid = below saved was stands tidy (may_there was pieces members tidy i, may) in
        let g = (mid.3).1 pieces members i possible in
        grown_few rules put pieces (Some known) place position path members i possible piece dropped tidy mid.2 g
        (refused.few saved mid.0 (piece_map mid.0) g.grown mid.1 mid.2 (grown_members rules put pieces (Some known) place position path members i possible piece dropped tidy mid.2 g (piece_map mid.0)));
  }
  grown_refused (store.Damaged page) refused = (
    ends_then {r0 = r0} {r1 = r1} {r2 = r2} runs refused.0,
    λ saved was pieces members stands tidy i possible may.
        let mid = below saved was stands tidy (may_there was pieces members tidy i, may) in
        let g = (mid.3).1 pieces members i possible in
        refused.1 saved mid.0 (piece_map mid.0) g.grown mid.1 mid.2 (grown_members rules put pieces (Some known) place position path members i possible piece dropped tidy mid.2 g (piece_map mid.0)),
  )
  grown_refused store.Memory refused = (
    runs_then {r0 = r0} {r1 = r1} {r2 = r2} runs refused.0,
    saved_then {d = d} {r0 = r0} {r1 = r1} {r2 = r2} {x0 = x0} {x1 = x1} {x2 = x2} keeps refused.1,
  )
  grown_refused store.Ended refused = absurd refused
  grown_refused store.Exists refused = absurd refused
  grown_refused store.NotAStore refused = absurd refused
