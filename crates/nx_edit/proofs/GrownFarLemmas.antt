-- A piece that an edit made heavier, whose long contents come into lists before it is put in the place of its record.
use Rattle.std.proofs.Common.{◌≡◌, ℕ, ◌+◌, ◌*◌, ◌≤◌, ◌<◌, List, [], ◌∷◌, ◌++◌, length, Option, inl, inr, ◌⊎◌, sym, ap, ◌∙◌, subst, arith, append-nil, IsPermutation}
use Rattle.std.specs.Prelude.{Contains, false}
use Rattle.std.proofs.lemmas.List.Sums.{sum_by-append}
use Rattle.std.proofs.lemmas.List.Sorted.{IsPermutation-refl, IsPermutation-sym, Contains-permutation, sum_by-IsPermutation}
use Rattle.std.proofs.lemmas.List.Elements.{Contains-append_right, Contains-append_cases}
use Rattle.nx_host.specs.declared.disk.Disk.{Ghosts}
use Rattle.nx_host.specs.Still.{IsStill}
use Rattle.nx_tree.specs.declared.node.Node.{Node}
use Rattle.nx_holdings.specs.declared.header.Settings.{Settings}
use Rattle.nx_holdings.specs.Holdings.{Held}
use Rattle.nx_records.specs.declared.records.Records.{Records}
use Rattle.nx_records.specs.declared.error.StoreError.{StoreError}
use Rattle.nx_records.specs.declared.error.StoreError.TheVariants as store
use Rattle.nx_records.specs.Records.{has_ended, KeepsSaved}
use Rattle.nx_records.specs.Refusals.{NotStored, RunsOn}
use Rattle.nx_piece.specs.declared.piece.Far.{Far}
use Rattle.nx_piece.specs.declared.piece.Piece.{Piece}
use Rattle.nx_divide.specs.declared.dividing.Row.{Row}
use Rattle.nx_matrix.specs.declared.rule.Rule.{Rule}
use Rattle.nx_cuts.specs.Cut.{Bare, Kept, CutForest}
use Rattle.nx_layouts.specs.Layout.{RecordPlace, Layout, AreHeld, AreLaidParts, ArePlacedOnce, contents_of, lists_of, nodes_in, piece_body, places_of, without_places}
use Rattle.nx_layouts.proofs.PlaceLemmas.{no_place, one_place, once-append}
use Rattle.nx_layouts.proofs.HeldLemmas.{layout_held}
use Rattle.nx_hold.specs.Contents.{near_in, near_pages}
use Rattle.nx_hold.specs.Changes.{ComesTidyWhere}
use Rattle.nx_hold.specs.Documents.{MovesRecords, NamesAmong}
use Rattle.nx_hold.specs.Pieces.{record_at, HoldsPiece, MayName, NamesList, IsTidy, PieceMap, held_by}
use Rattle.nx_hold.proofs.MapLemmas.{held_at, piece_map}
use Rattle.nx_hold.proofs.MoveLemmas.{moves_add_up, moves_beside, moves_more, pieces_stay_around}
use Rattle.nx_hold.proofs.PieceLemmas.{no_value}
use Rattle.nx_hold.proofs.RecordsLemmas.{names_along, record_there}
use Rattle.nx_hold.proofs.RefusalLemmas.{no_end, runs_then, ends_then, rose_later, saved_then}
use Rattle.nx_drawn.specs.Growth.{MayBeHeavy}
use Rattle.nx_edit.specs.Changing.{AreSplitOf, IsReplacedByRow}
use Rattle.nx_edit.specs.Growing.{IsGrownMembers, PutsGrown, NotGrown, grown_needs}
use Rattle.nx_edit.specs.Making.{IsRowMadeFar, MakesFar}
use Rattle.nx_edit.specs.Removing.{fars_of}
use Rattle.nx_edit.specs.Rows.{row_nodes, IsReplaced}
use Rattle.nx_edit.proofs.FarLemmas.{own_near}
use Rattle.nx_edit.proofs.HeldLemmas.{row_apart, row_there}
use Rattle.nx_edit.proofs.OrderLemmas.{lists_by_sums}

module _ {was mid : Held} (pieces : PieceMap was) (piece made : Piece) (place : RecordPlace) (members : Layout) (tidy : IsTidy was) (mid_tidy : IsTidy mid) (g : IsGrownMembers was pieces piece place members) (makes : MakesFar piece made was mid) where
  abbrev far : IsRowMadeFar members made was mid
  far = makes.rows members g.is

  k_same : (mid.settings).k ≡ (was.settings).k
  k_same = ap (λ (t : Settings). t.k) (far.moves).settings

  may_mid : MayName mid (piece_body far.row)
  may_mid = subst (λ (p : Piece). MayName mid p.body.roots) (sym far.is) makes.may

  -- the row that was made far is one that grew, too
  pub grown_far : IsGrownMembers mid (piece_map mid) made place far.row
  grown_far = record {
    is = far.is;
    there = ((g.there).0, (pieces_stay_around [] [] [] far.brought far.needs was mid tidy far.moves place (g.there).0 (g.there).1 (no_place place)).1);
    held = far.held pieces (piece_map mid) g.held;
    may = may_mid;
    once = subst (λ (ps : List RecordPlace). ArePlacedOnce (place ∷ ps)) (sym far.places) g.once;
    heavy = subst (λ (n : ℕ). MayBeHeavy n (n + n) (n + 1) (without_places far.row)) (sym k_same) (subst (λ (c : CutForest). MayBeHeavy (was.settings).k ((was.settings).k + (was.settings).k) ((was.settings).k + 1) c) (sym far.same) g.heavy);
    few = let few = g.few in let same = ap row_nodes far.same in omega (arith, few, same);
  }

  nodes_same : row_nodes (without_places far.row) ≡ row_nodes (without_places members)
  nodes_same = ap row_nodes far.same

  -- what is free then is enough for what comes, where what was free is
  pub free_then : was.free ≤ mid.free + far.needs
  free_then = (far.moves).free

  pub needs_then : mid.free < grown_needs far.row → was.free < grown_needs members
  needs_then few = let free = free_then in let pages = far.pages in let same = nodes_same in omega (arith, few, free, pages, same)

  below_there : (other : RecordPlace) → Contains (place ∷ places_of members) other → (p : Piece) × HoldsPiece was other p
  below_there other among = elim (among_first other among) [
    | inl here ↦ subst (λ (q : RecordPlace). (p : Piece) × HoldsPiece was q p) (sym here) g.there
    | inr below ↦ let found = layout_held (held_by pieces) members other g.held below in (found.0, held_at was pieces other found.0 found.1)
  ]
    where
      among_first : (other : RecordPlace) → Contains (place ∷ places_of members) other → (other ≡ place) ⊎ Contains (places_of members) other
      among_first other among = elim (Contains-append_cases (place ∷ []) (places_of members) other among) [
        | inl here ↦ inl (one_place place other here)
        | inr below ↦ inr below
      ]

  stays : (other : RecordPlace) (p : Piece) → HoldsPiece was other p → (record_at mid other ≡ record_at was other) × ((count chain : ℕ) → NamesList was other count chain → mid.lists chain ≡ was.lists chain)
  stays other p holds =
      let s = pieces_stay_around [] [] [] far.brought far.needs was mid tidy far.moves other p holds (no_place other) in
      (s.0, λ count chain names. s.2 chain (inl (count, names)))

  -- the records stay, and lists came
  beside : MovesRecords (place ∷ places_of members) (place ∷ places_of members) [] far.brought far.needs was mid
  beside =
      subst (λ (ps : List RecordPlace). MovesRecords ps ps [] far.brought far.needs was mid) (append-nil (place ∷ places_of members))
      (moves_beside (place ∷ places_of members) [] [] [] far.brought far.needs was mid (λ other among. let found = below_there other among in record_there was other found.0 found.1)
      (λ other none among. no_place other none) far.moves)

  module _ {now : Held} (rules : List Rule) (room : ℕ) (above : Option Node) (answer : Row)
      (p : (r : IsReplacedByRow (mid.settings).k (AreSplitOf mid.settings rules room above (Kept tt (without_places far.row) Bare)) place far.row (nodes_in far.row) [] (places_of far.row) answer [] mid now)
      × (mid.free + length answer.proxies ≤ now.free + (2 * row_nodes (without_places (r.0).row) + near_pages (nodes_in far.row)))) where
    abbrev r : IsReplaced (mid.settings).k (AreSplitOf mid.settings rules room above (Kept tt (without_places far.row) Bare)) place far.row (nodes_in far.row) [] (places_of far.row) answer.proxies [] mid now
    r = (p.0).0

    held_mid : AreHeld (held_by (piece_map mid)) far.row
    held_mid = far.held pieces (piece_map mid) g.held

    among_far : (first : ℕ) → Contains far.brought first → Contains (contents_of far.row) first
    among_far first early = Contains-permutation (contents_of members ++ far.brought) (contents_of far.row) first (IsPermutation-sym (contents_of far.row) (contents_of members ++ far.brought) far.came) (Contains-append_right (contents_of members) far.brought first early)

    apart : (first : ℕ) → Contains far.brought first → Contains r.brought first → ⊥
    apart first early late =
        let there = row_there mid (piece_map mid) far.row held_mid first (among_far first early) in
        no_value (sym there.1 ∙ (r.moves).lists_fresh first (inr late) (λ named. by_case named))
      where
        by_case : NamesAmong mid (place ∷ places_of far.row) [] first → ⊥
        by_case (inl named) = row_apart mid (piece_map mid) far.row mid_tidy held_mid may_mid first (among_far first early) named.0 named.1 named.3
        by_case (inr none) = no_place first none

    came : IsPermutation (contents_of (r.row)) (lists_of (nodes_in members) ++ ([] ++ (far.brought ++ r.brought)))
    came = lists_by_sums (contents_of r.row) (contents_of members ++ (far.brought ++ r.brought))
        (λ f.
        let one = sum_by-IsPermutation f (contents_of r.row) (contents_of far.row ++ r.brought) r.contents_came in
        let two = sum_by-IsPermutation f (contents_of far.row) (contents_of members ++ far.brought) far.came in
        let a = sum_by-append f (contents_of far.row) r.brought in
        let b = sum_by-append f (contents_of members) far.brought in
        let c = sum_by-append f (contents_of members) (far.brought ++ r.brought) in
        let e = sum_by-append f far.brought r.brought in
        omega (arith, one, two, a, b, c, e))

    pub grown_put : (q : IsReplacedByRow (was.settings).k (AreSplitOf was.settings rules room above (Kept tt (without_places members) Bare)) place members (nodes_in members) [] (places_of members) answer [] was now)
        × (was.free + length answer.proxies ≤ now.free + (2 * row_nodes (without_places (q.0).row) + near_pages (nodes_in members)))
    grown_put = (
      (
        record {
          row = r.row;
          becomes = subst (λ (t : Settings). AreSplitOf t rules room above (Kept tt (without_places members) Bare) (without_places r.row)) (far.moves).settings
              (subst (λ (c : CutForest). AreSplitOf mid.settings rules room above (Kept tt c Bare) (without_places r.row)) far.same r.becomes);
          proxies_are = r.proxies_are;
          held = r.held;
          once = r.once;
          light = subst (λ (n : ℕ). AreLaidParts n r.row) k_same r.light;
          brought = far.brought ++ r.brought;
          moves =
              let pages = far.pages in
              let same = nodes_same in
              moves_more (place ∷ places_of members) (places_of r.row) [] (far.brought ++ r.brought) (far.needs + (row_nodes (without_places far.row) + 2 * row_nodes (without_places r.row) + near_pages (nodes_in far.row)))
              (row_nodes (without_places members) + 2 * row_nodes (without_places r.row) + near_pages (nodes_in members)) was now (omega (arith, pages, same))
              (moves_add_up (place ∷ places_of members) (place ∷ places_of members) (places_of r.row) [] [] far.brought r.brought far.needs (row_nodes (without_places far.row) + 2 * row_nodes (without_places r.row) + near_pages (nodes_in far.row)) was mid now beside
              (subst (λ (ps : List RecordPlace). MovesRecords (place ∷ ps) (places_of r.row) [] r.brought (row_nodes (without_places far.row) + 2 * row_nodes (without_places r.row) + near_pages (nodes_in far.row)) mid now) far.places r.moves));
          contents_went = subst (λ (fs : List Far). IsPermutation fs (fars_of (nodes_in members))) (sym (append-nil (fars_of (nodes_in members)))) (IsPermutation-refl (fars_of (nodes_in members)));
          contents_came = came;
          brought_once = once-append far.brought r.brought far.once r.brought_once apart;
          records_stay = λ other among.
              let found = below_there other (Contains-append_right (place ∷ []) (places_of members) other among) in
              r.records_stay other (subst (λ (ps : List RecordPlace). Contains ps other) (sym far.places) among) ∙ (stays other found.0 found.1).0;
          lists_stay = λ other count chain among names.
              let found = below_there other (Contains-append_right (place ∷ []) (places_of members) other among) in
              let s = stays other found.0 found.1 in
              r.lists_stay other count chain (subst (λ (ps : List RecordPlace). Contains ps other) (sym far.places) among) (names_along was mid other count chain s.0 names) ∙ s.1 count chain names;
        },
        (p.0).1,
      ),
      let free = p.1 in let first = free_then in let pages = far.pages in omega (arith, free, first, pages),
    )

module _ {D : Type 0} {d : Ghosts D} (piece made : Piece) (place : RecordPlace) {r0 r1 : Records} {x0 x1 : D} (makes : ComesTidyWhere d r0 r1 x0 x1 (λ was. MayName was piece.body.roots) (MakesFar piece made)) where
  pub grown_then : {r2 : Records} {x2 : D} (rules : List Rule) (room : ℕ) (above : Option Node) (row : Row) → ComesTidyWhere d r1 r2 x1 x2 (λ was. MayName was made.body.roots) (PutsGrown rules room above made place row)
      → ComesTidyWhere d r0 r2 x0 x2 (λ was. MayName was piece.body.roots) (PutsGrown rules room above piece place row)
  grown_then rules room above row puts saved was stands tidy may =
      let mid = makes saved was stands tidy may in
      let now = puts saved mid.0 mid.1 mid.2 (mid.3).may in (
        now.0,
        now.1,
        now.2,
        (
          (now.3).0,
          λ pieces members g. grown_put pieces piece made place members tidy mid.2 g mid.3 rules room above row ((now.3).1 (piece_map mid.0) ((mid.3).rows members g.is).row (grown_far pieces piece made place members tidy mid.2 g mid.3)),
        ),
      )

  pub grown_not : (r2 : Records) (x2 : D) (runs : RunsOn r0 r1) → KeepsSaved d r0 r1 x0 x1 → IsStill d x0 x1 → (e : StoreError) → NotGrown d made place e r1 r2 x1 x2 → NotGrown d piece place e r0 r2 x0 x2
  grown_not r2 x2 runs keeps still store.Disk refused = (rose_later {d = d} still refused.0, ends_then {r0 = r0} {r1 = r1} {r2 = r2} runs refused.1)
  grown_not r2 x2 runs keeps still store.Full refused = record {
    runs = runs_then {r0 = r0} {r1 = r1} {r2 = r2} runs refused.runs;
    keeps = saved_then {d = d} {r0 = r0} {r1 = r1} {r2 = r2} keeps refused.keeps;
    none_free = refused.none_free;
    few = λ saved was pieces members stands tidy g.
        let mid = makes saved was stands tidy (may_there was pieces members g) in
        needs_then pieces piece made place members tidy mid.2 g mid.3
        (refused.few saved mid.0 (piece_map mid.0) ((mid.3).rows members g.is).row mid.1 mid.2 (grown_far pieces piece made place members tidy mid.2 g mid.3));
  }
    where
      may_there : (was : Held) (pieces : PieceMap was) (members : Layout) → IsGrownMembers was pieces piece place members → MayName was piece.body.roots
      may_there was pieces members g = subst (λ (p : Piece). MayName was p.body.roots) g.is g.may
  grown_not r2 x2 runs keeps still (store.Damaged page) refused = (
    ends_then {r0 = r0} {r1 = r1} {r2 = r2} runs refused.0,
    λ saved was pieces members stands tidy g.
        let mid = makes saved was stands tidy (subst (λ (p : Piece). MayName was p.body.roots) g.is g.may) in
        refused.1 saved mid.0 (piece_map mid.0) ((mid.3).rows members g.is).row mid.1 mid.2 (grown_far pieces piece made place members tidy mid.2 g mid.3),
  )
  grown_not r2 x2 runs keeps still store.Ended refused = absurd refused
  grown_not r2 x2 runs keeps still store.Memory refused = (runs_then {r0 = r0} {r1 = r1} {r2 = r2} runs refused.0, saved_then {d = d} {r0 = r0} {r1 = r1} {r2 = r2} keeps refused.1)
  grown_not r2 x2 runs keeps still store.Exists refused = absurd refused
  grown_not r2 x2 runs keeps still store.NotAStore refused = absurd refused

-- the piece couldn't be made far
pub making_refused : {D : Type 0} (d : Ghosts D) (piece : Piece) (place : RecordPlace) (r0 r1 : Records) (x0 x1 : D) (e : StoreError) → has_ended r0 ≡ false → NotStored d (λ was. near_in piece.body.roots) (λ was. ⊥) 0 e r0 r1 x0 x1
    → NotGrown d piece place e r0 r1 x0 x1
making_refused d piece place r0 r1 x0 x1 store.Disk runs refused = refused
making_refused d piece place r0 r1 x0 x1 store.Full runs refused = record {
  runs = refused.runs;
  keeps = refused.keeps;
  none_free = refused.none_free;
  few = λ saved now pieces members stands tidy g.
      let few = refused.few saved now stands in
      let own = own_near members in
      let same : near_in (piece_body members) ≡ near_in piece.body.roots = ap (λ (p : Piece). near_in p.body.roots) g.is in
      omega (arith, few, own, same);
}
making_refused d piece place r0 r1 x0 x1 (store.Damaged other) runs refused = (refused.ends, λ saved now pieces members stands tidy g. refused.lacks saved now stands)
making_refused d piece place r0 r1 x0 x1 store.Ended runs refused = absurd (no_end r0 runs refused.0)
making_refused d piece place r0 r1 x0 x1 store.Memory runs refused = refused
making_refused d piece place r0 r1 x0 x1 store.Exists runs refused = absurd refused
making_refused d piece place r0 r1 x0 x1 store.NotAStore runs refused = absurd refused
