-- Pages that stand for a state keep all rules.
use Rattle.std.proofs.Common.{◌≡◌, ℕ, ◌+◌, ◌<◌, ◌≤◌, ◌^◌, Bool, List, [], ◌∷◌, ◌++◌, map, refl, sym, ap, ◌∙◌, subst, arith, inl, inr}
use Rattle.std.specs.Prelude.{◌==◌, if◌then◌else◌, Option, Some, None, IsSome, Contains, All}
use Rattle.std.proofs.lemmas.Bool.{false≢true, eq-eqb, eqb-true, cases_Bool, cases_lt}
use Rattle.std.proofs.lemmas.List.Elements.{All-head, All-tail, All-cons, All-nil}
use Rattle.nx_tree.specs.Forest.{Empty, Plant, nodes}
use Rattle.nx_tree.specs.Document.{element_count}
use Rattle.nx_replay.specs.Log.{Pages}
use Rattle.nx_holdings.specs.declared.header.Header.{Header}
use Rattle.nx_holdings.specs.declared.header.Settings.{Settings}
use Rattle.nx_holdings.specs.Holdings.{times, record_in, IsFreeList, content_of, pages_of_links, pages_of_chains, list_at, Held, HoldsBy}
use Rattle.nx_holdings.proofs.SharedLemmas.{named_parts}
use Rattle.nx_holdings.proofs.DenseLemmas.{among_here}
use Rattle.nx_holdings.proofs.TimesLemmas.{times_one, times_other, times-append}
use Rattle.nx_piece.specs.Contents.{fars_in}
use Rattle.nx_piece.specs.Gapped.{gapped_size}
use Rattle.nx_cuts.specs.Cut.{Bare, Grown, CutForest, forest}
use Rattle.nx_layouts.specs.Layout.{RecordPlace, Layout, Stock, laid_near, laid_forest, piece_body, piece_of, places_of, contents_of, ArePlacedOnce, whole as whole_layout}
use Rattle.nx_layouts.proofs.PlaceLemmas.{once-left, once-right}
use Rattle.nx_hold.specs.declared.entry.DocEntry.{DocEntry}
use Rattle.nx_hold.specs.Changes.{place_of}
use Rattle.nx_hold.specs.Pieces.{record_at, NamesList, PieceMap, held_by}
use Rattle.nx_hold.proofs.MapLemmas.{held_at}
use Rattle.nx_catalog.specs.Catalog.{IsCatalog}
use Rattle.nx_state.specs.State.{State}
use Rattle.nx_state.specs.Stands.{StoredDocument, record_places, all_places, all_contents, IsStoredIn, HoldsState, Stands}
use Rattle.nx_state.proofs.ContentLemmas.{row_contents}
use Rattle.nx_rules.specs.Listed.{AreUsedOnce, HasHeaderPage, AreFreeFrom, IsFreeTo, IsListOf}
use Rattle.nx_rules.specs.Walked.{Mark, Reached, Waits, walked_forest, ByCatalog, marks_of, records_reached, links_in, AreWalkedInOrder, IsSoFar}
use Rattle.nx_rules.specs.Tour.{top_elements, Visit, IsVisit, IsDone, all_marks, all_reached, all_links, Tour, IsTour, IsInUse, IsWholeTour}
use Rattle.nx_rules.specs.Verdict.{KeepsRules}
use Rattle.nx_rules.proofs.MeetLemmas.{NoneWait}
use Rattle.nx_rules.proofs.AheadLemmas.{none_both, waits_none}
use Rattle.nx_rules.proofs.VisitLemmas.{entered}
use Rattle.nx_rules.proofs.SoundLemmas.{pair_small}
use Rattle.nx_rules.proofs.LaidLemmas.{layout_places, two_more}
use Rattle.nx_rules.proofs.DeepLemmas.{firsts_of, deeper, deep_times, times_of, used_once}
use Rattle.nx_rules.proofs.TidyLemmas.{is_some_of, value_of}
use Rattle.nx_rules.proofs.LinksLemmas.{AreLow, links_at, one_links, two_links, page_on}
use Rattle.nx_rules.proofs.RebuildLemmas.{cs, cs_once, list_known, at_list, Part, merge, no_part, rebuilt_none, rebuilt, kept}

none_order : (marks : List Mark) → NoneWait marks → AreWalkedInOrder marks
none_order [] h = tt
none_order (Reached p ls ∷ marks) h = none_order marks h
none_order (Waits x ∷ marks) h = absurd h

first_low : (pages : Pages) (first : ℕ) (ps : List ℕ) → IsFreeList pages first ps → AreLow ps → first < 2 ^ 32
first_low pages first [] h low = let e : first ≡ 0 = h in omega (arith, e)
first_low pages first (p ∷ ps) h low = let e : first ≡ p = h.0 in let n = low p (among_here p p ps refl) in let m : p < 2 ^ 32 = n.1 in omega (arith, e, m)

free_from : (pages : Pages) (first : ℕ) (ps : List ℕ) → IsFreeList pages first ps → AreLow ps → AreFreeFrom pages first ps 0
free_from pages first [] h low = h
free_from pages first (p ∷ ps) h low =
    let later : AreLow ps = λ q some. low q (omega (arith, some)) in
    let n = low p (among_here p p ps refl) in
    (h.0, (λ e. (let some : 1 ≤ p = n.0 in omega (arith, e, some))), (h.1.0, record { there = h.1.1; low = first_low pages h.1.0 ps h.1.2 later }, free_from pages h.1.0 ps h.1.2 later))

module _ {pages : Pages} {head : Header} {held : Held} (by : HoldsBy pages head held) {state : State} (hs : HoldsState held state) where
  abbrev k : ℕ
  k = head.settings.k

  abbrev pieces : PieceMap held
  pieces = hs.holds.pieces

  abbrev stock : Stock
  stock = held_by hs.holds.pieces

  most_k : (held.settings).k ≡ k
  most_k = ap (λ (s : Settings). s.k) by.behind.settings

  -- the first pages of the contents of a document's records
  abbrev contents_below : StoredDocument → List ℕ
  contents_below s = deeper (whole_layout (place_of s.entry.root) s.document.node s.layout)

  abbrev all_below : List StoredDocument → List ℕ
  all_below [] = []
  all_below (s ∷ stored) = contents_below s ++ all_below stored

  below_times : (x : ℕ) (s : StoredDocument) → times x (contents_of s.layout) ≡ times x (contents_below s)
  below_times x s =
      let e = deep_times x (whole_layout (place_of s.entry.root) s.document.node s.layout) in
      let f : times x (contents_of (whole_layout (place_of s.entry.root) s.document.node s.layout)) ≡ times x (contents_of s.layout) = ap (times x) (row_contents s) in
      omega (arith, e, f)

  all_times : (x : ℕ) (stored : List StoredDocument) → times x (all_contents stored) ≡ times x (all_below stored)
  all_times x [] = refl
  all_times x (s ∷ stored) =
      let e = below_times x s in
      let rest = all_times x stored in
      let a = times-append x (contents_of s.layout) (all_contents stored) in
      let b = times-append x (contents_below s) (all_below stored) in
      omega (arith, e, rest, a, b)

  -- a stored document as a walk comes through it
  record VisitOf (s : StoredDocument) : Type 0 where
    visit : Visit
    name : entered visit ≡ (let e : List ℕ × DocEntry = (s.name, s.entry) in e)
    is : IsVisit pages k visit
    done : IsDone visit
    places : records_reached visit.walked ≡ record_places s
    none : NoneWait (marks_of visit.walked)
    part : Part by (record_places s) (contents_below s) (links_in visit.walked)

  visit_of : (s : StoredDocument) → IsStoredIn stock s → AreUsedOnce (contents_below s) → VisitOf s
  visit_of s is used =
      let root = place_of s.entry.root in
      let row : Layout = whole_layout root s.document.node s.layout in
      let members : Layout = Grown (laid_near s.document.node) s.layout Bare in
      let once : ArePlacedOnce (places_of row) = is.laid.once in
      let own = firsts_of (fars_in (piece_body members)) in
      let inner : AreUsedOnce (deeper members) = λ x. (let e = times-append x (own ++ deeper members) [] in let f = times-append x own (deeper members) in let all = used x in omega (arith, e, f, all)) in
      let rm = rebuilt by hs.holds.tidy k pieces members is.laid.held.1 most_k (once-left (places_of members) [] once.1) inner in
      let rs = rebuilt_none by hs.holds.tidy k in
      let few : gapped_size (piece_body members) ≤ k = subst (λ (n : ℕ). gapped_size (piece_body members) ≤ n) most_k (is.laid.held.0).fits in
      let got = kept by hs.holds.tidy k stock root members Bare refl (held_at held pieces root (piece_of members) (is.laid.held.0).there) is.laid.held.1 few once used rm rs in
      let r = got.1 in
      let below : laid_forest s.layout ≡ forest s.document.below = ap (λ (c : CutForest). forest c) is.laid.same in
      let trees : walked_forest r.walked ≡ Plant s.document.node (forest s.document.below) Empty = ap laid_forest r.same ∙ ap (λ f. Plant s.document.node f Empty) below in
      let d = is.laid.is_document in
      let one : element_count (forest s.document.below) ≡ 1 = d.one in
      let small : 1 + nodes (forest s.document.below) ≤ 524288 = d.small in
      let counted : s.entry.nodes ≡ 1 + nodes (forest s.document.below) = is.counted in
      let so_far : IsSoFar (Plant s.document.node (forest s.document.below) Empty) = (d.root, d.unnamed, d.bare, refl, d.top, omega (arith, one), d.forest, d.shallow) in
      let v : Visit = record { name = s.name; entry = s.entry; walked = r.walked } in
      let number : nodes (walked_forest r.walked) ≡ 1 + nodes (forest s.document.below) + 0 = ap nodes trees in
      let tops : top_elements (walked_forest r.walked) ≡ element_count (forest s.document.below) = ap top_elements trees in
      record {
        visit = v;
        name = refl;
        is = record {
          root = inr (got.0, rm.walked, got.2);
          read = r.read;
          document = subst (λ f. IsSoFar f) (sym trees) so_far;
          light = r.light;
        };
        done = record {
          whole = waits_none ByCatalog r.walked r.none;
          nodes = record { element = omega (arith, tops, one); counted = omega (arith, number, counted); few = omega (arith, number, small) };
        };
        places = sym (layout_places r.walked r.none) ∙ ap places_of r.same;
        none = r.none;
        part = r.part;
      }

  record VisitsOf (stored : List StoredDocument) : Type 0 where
    visits : List Visit
    names : map entered visits ≡ map (λ (s : StoredDocument). (s.name, s.entry)) stored
    each : All (IsVisit pages k) visits
    done : All IsDone visits
    places : all_reached visits ≡ all_places stored
    none : NoneWait (all_marks visits)
    part : Part by (all_places stored) (all_below stored) (all_links visits)

  visits_of : (stored : List StoredDocument) → All (IsStoredIn stock) stored → ArePlacedOnce (all_places stored) → AreUsedOnce (all_below stored) → VisitsOf stored
  visits_of [] each once used = record { visits = []; names = refl; each = All-nil (IsVisit pages k); done = All-nil IsDone; places = refl; none = tt; part = no_part by hs.holds.tidy }
  visits_of (s ∷ stored) each once used =
      let P = IsStoredIn stock in
      let front : AreUsedOnce (contents_below s) = λ x. (let e = times-append x (contents_below s) (all_below stored) in let all = used x in omega (arith, e, all)) in
      let back : AreUsedOnce (all_below stored) = λ x. (let e = times-append x (contents_below s) (all_below stored) in let all = used x in omega (arith, e, all)) in
      let first = visit_of s (All-head P s stored each) front in
      let rest = visits_of stored (All-tail P s stored each) (once-right (record_places s) (all_places stored) once) back in
      let v = first.visit in
      let here : records_reached v.walked ≡ record_places s = first.places in
      record {
        visits = v ∷ rest.visits;
        names = two_same (entered v) (s.name, s.entry) (map entered rest.visits) (map (λ (t : StoredDocument). (t.name, t.entry)) stored) first.name rest.names;
        each = All-cons (IsVisit pages k) v rest.visits first.is rest.each;
        done = All-cons IsDone v rest.visits first.done rest.done;
        places = ap (λ l. l ++ all_reached rest.visits) here ∙ ap (λ l. record_places s ++ l) rest.places;
        none = none_both (marks_of v.walked) (all_marks rest.visits) first.none rest.none;
        part = merge by hs.holds.tidy (record_places s) (all_places stored) (contents_below s) (all_below stored) (links_in v.walked) (all_links rest.visits) once used first.part rest.part;
      }
    where
      two_same : {A : Type 0} (a b : A) (xs ys : List A) → a ≡ b → xs ≡ ys → a ∷ xs ≡ b ∷ ys
      two_same a b xs ys e f = cc

  below_once : AreUsedOnce (all_below hs.stored)
  below_once x = let e = all_times x hs.stored in let once = used_once (all_contents hs.stored) hs.holds.contents_once x in omega (arith, e, once)

  all_visits : VisitsOf hs.stored
  all_visits = visits_of hs.stored hs.holds.each hs.holds.once below_once

  unfoldable tour : Tour
  tour = record { head = head; free = by.behind.shares.free; catalog = links_at (cs by) head.catalog; contents = hs.contents; visits = all_visits.visits }

  parts : (p : ℕ) → times p (0 ∷ []) + (times p by.behind.shares.free + (times p (pages_of_chains (cs by)) + 0)) ≤ 1
  parts p = subst (λ (n : ℕ). n ≤ 1) (named_parts p by.behind.shares []) (by.behind.shared.once p)

  has_header : HasHeaderPage pages head
  has_header = record {
    here = by.here;
    range = by.range;
    room = λ some.
        let h = by.behind.shared.room some in
        let u = by.behind.shared.slotted head.room h.0 h.1 in
        (u.bytes, record { there = u.there; slotted = u.slotted });
  }

  free_below : (p : ℕ) → 1 ≤ times p by.behind.shares.free → p < head.pages
  free_below p some = by.behind.shared.below p (let e = named_parts p by.behind.shares [] in omega (arith, e, some))

  free_low : AreLow by.behind.shares.free
  free_low p some =
      let below : p < head.pages = free_below p some in
      let most : head.pages ≤ head.settings.limit = by.range.pages.1 in
      let limit : head.settings.limit ≤ 16777216 = by.range.settings.limit.1 in
      let all = parts p in
      let apart : p ≡ 0 → ⊥ = λ e. (let one : times p (0 ∷ []) ≡ 1 = subst (λ (q : ℕ). times q (0 ∷ []) ≡ 1) (sym e) (times_one 0 []) in omega (arith, one, all, some)) in
      (omega (arith, apart), omega (arith, below, most, limit))

  has_free : IsFreeTo pages head by.behind.shares.free 0
  has_free = record {
    linked = free_from pages head.free by.behind.shares.free by.behind.shared.free free_low;
    below = free_below;
    once = λ p. (let all = parts p in omega (arith, all));
  }

  at_catalog : IsListOf pages [] head.catalog head.catalog_length (links_at (cs by) head.catalog) × (content_of (links_at (cs by) head.catalog) ≡ held.catalog.bytes)
  at_catalog =
      let at = at_list by head.catalog held.catalog.bytes by.behind.catalog in
      (subst (λ (n : ℕ). IsListOf pages [] head.catalog n (links_at (cs by) head.catalog)) by.behind.catalog_length at.0, at.1)

  -- no list of a record uses a page of the catalog
  chain_apart : (place : RecordPlace) (count chain : ℕ) → NamesList held place count chain → head.catalog ≡ chain → ⊥
  chain_apart place count chain names e = let there = hs.holds.tidy.there place count chain names in (list_known by chain there.0 there.1).0 (sym e)

  content_apart : (first : ℕ) → 1 ≤ times first (all_below hs.stored) → head.catalog ≡ first → ⊥
  content_apart first among e = let there = (all_visits.part.named first among).1 in (list_known by first there.0 there.1).0 (sym e)

  lists_once : (p : ℕ) → times p (pages_of_links (links_at (cs by) head.catalog ++ all_links all_visits.visits)) ≤ 1
  lists_once p =
      let all = cs_once by p in
      let few = one_links (cs by) head.catalog p in
      subst (λ (n : ℕ). n ≤ 1) (sym (two_more p (links_at (cs by) head.catalog) (all_links all_visits.visits)))
      (pair_small (times p (pages_of_links (links_at (cs by) head.catalog))) (times p (pages_of_links (all_links all_visits.visits))) (omega (arith, all, few)) (all_visits.part.few p)
      (λ x y.
      elim (all_visits.part.uses p y) [
        | inl u ↦ (let sum = two_links (cs by) head.catalog u.chain p (chain_apart u.place u.count u.chain u.names) in let z = u.here in omega (arith, sum, all, x, z))
        | inr u ↦ (let sum = two_links (cs by) head.catalog u.first p (content_apart u.first u.among) in let z = u.here in omega (arith, sum, all, x, z))
      ]))

  is_tour : IsTour pages tour
  unfolding tour
  is_tour = record {
    header = has_header;
    free = has_free;
    list = at_catalog.0;
    catalog = subst (λ (b : List ℕ). IsCatalog b hs.contents) (sym at_catalog.1) hs.catalog;
    named = all_visits.names ∙ sym hs.names;
    each = all_visits.each;
    order = none_order (all_marks all_visits.visits) all_visits.none;
    once = subst (λ (l : List RecordPlace). ArePlacedOnce l) (sym all_visits.places) hs.holds.once;
    lists_once = lists_once;
  }

  -- a page of a chain is used by the catalog or by a record
  chain_used : (p : ℕ) → 1 ≤ times p (pages_of_chains (cs by)) → 1 ≤ times p (pages_of_links (links_at (cs by) head.catalog ++ all_links all_visits.visits))
  chain_used p some =
      let on = page_on (cs by) p (cs_once by) some in
      let e = two_more p (links_at (cs by) head.catalog) (all_links all_visits.visits) in
      let among = on.among in
      elim (cases_Bool (on.first == head.catalog)) [
        | inl same ↦
            let is : on.first ≡ head.catalog = eqb-true on.first head.catalog same in
            let here : 1 ≤ times p (pages_of_links (links_at (cs by) head.catalog)) = subst (λ (f : ℕ). 1 ≤ times p (pages_of_links (links_at (cs by) f))) is among in
            omega (arith, e, here)
        | inr other ↦
            let value = value_of (list_at (cs by) on.first) on.some in
            let there : held.lists on.first ≡ Some value.0 = by.behind.lists on.first ∙ ap (λ (b : Bool). if b then None else list_at (cs by) on.first) other ∙ value.1 in
            elim (hs.holds.no_other_lists on.first (is_some_of (held.lists on.first) there)) [
              | inl names ↦
                  let place = hs.holds.no_others names.0 (is_some_of (record_at held names.0) names.2.1.bytes) in
                  let c = all_visits.part.covers names.0 names.1 on.first place names.2 p in
                  omega (arith, e, c, among)
              | inr contents ↦
                  let some : 1 ≤ times on.first (all_below hs.stored) = (let f = all_times on.first hs.stored in let g = times_of on.first (all_contents hs.stored) contents in omega (arith, f, g)) in
                  let c = all_visits.part.holds on.first some p in
                  omega (arith, e, c, among)
            ]
      ]

  in_use : (p : ℕ) → p < head.pages → IsInUse pages tour p
  unfolding tour
  in_use p low =
      let e = named_parts p by.behind.shares [] in
      elim (cases_lt 0 (times p by.behind.shares.free)) [
        | inl free ↦ inr (inl free)
        | inr no_free ↦ elim (cases_lt 0 (times p (pages_of_chains (cs by)))) [
          | inl chain ↦ inr (inr (inl (chain_used p chain)))
          | inr no_chain ↦ elim (cases_Bool (p == 0)) [
            | inl zero_page ↦ inl (eqb-true p 0 zero_page)
            | inr other ↦
                let none : times p (0 ∷ []) ≡ 0 = times_other p 0 [] (λ s. false≢true (sym other ∙ eq-eqb p 0 s)) in
                let u = by.behind.shared.slotted p low (omega (arith, e, none, no_free, no_chain)) in
                inr (inr (inr (
                  u.bytes,
                  record { there = u.there; slotted = u.slotted },
                  u.some,
                  λ slot some. subst (λ (l : List RecordPlace). Contains l (record { page = p; slot = slot })) (sym all_visits.places)
                      (hs.holds.no_others (record { page = p; slot = slot }) (subst (λ (o : Option (List ℕ)). IsSome o) (sym (by.behind.records p slot)) (subst (λ (o : Option (List ℕ)). IsSome (record_in o slot)) (sym u.there) some))),
                )))
          ]
        ]
      ]

  is_whole : IsWholeTour pages tour
  unfolding tour
  is_whole = record { kept = is_tour; done = all_visits.done; used = in_use; none_past = by.behind.shared.none_past }

-- Pages that stand for a state keep all rules.
pub stands_keeps : (pages : Pages) (state : State) → Stands pages state → KeepsRules pages
stands_keeps pages state s = (tour s.1.1 s.2, is_whole s.1.1 s.2)
