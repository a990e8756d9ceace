-- Pages that keep all rules stand for a state: its documents.
use Rattle.std.proofs.Common.{◌≡◌, ℕ, ◌+◌, ◌<◌, ◌≤◌, Bool, List, [], ◌∷◌, ◌++◌, length, map, Option, None, Some, append-nil, refl, sym, ap, ◌∙◌, subst, arith, inl, inr}
use Rattle.std.specs.Prelude.{Contains, All, ◌&&◌}
use Rattle.std.specs.Ordering.{is_lt}
use Rattle.std.proofs.lemmas.List.Elements.{All-head, All-tail, All-cons, All-nil}
use Rattle.std.specs.FinMap.{entries, entries_sorted, from_sorted, entries-from_sorted, is_sorted}
use Rattle.std.specs.FinMap.Entries.{below_all}
use Rattle.std.proofs.Common.{T}
use Rattle.nx_tree.specs.declared.node.Node.{Node}
use Rattle.nx_tree.specs.Forest.{Empty, Plant, nodes}
use Rattle.nx_tree.specs.Document.{IsDocument, element_count}
use Rattle.nx_pyx.specs.DocumentName.{name_order}
use Rattle.nx_replay.specs.Log.{Pages}
use Rattle.nx_holdings.specs.Holdings.{times, Link}
use Rattle.nx_holdings.proofs.TimesLemmas.{times-append}
use Rattle.nx_piece.specs.PieceNode.{IsFarWith}
use Rattle.nx_piece.specs.Valid.{AreFar}
use Rattle.nx_cuts.specs.Cut.{Bare, Grown, Kept, CutTree, forest, joined, tree_of}
use Rattle.nx_layouts.specs.Layout.{RecordPlace, LaidNode, Layout, Stock, laid_near, shown_with, without_places, nodes_in, lists_of, contents_of, places_of, ArePlacedOnce, AreLaidParts}
use Rattle.nx_layouts.proofs.PlaceLemmas.{once-left, once-right}
use Rattle.nx_hold.specs.declared.entry.DocEntry.{DocEntry}
use Rattle.nx_hold.specs.Changes.{place_of}
use Rattle.nx_hold.specs.Pieces.{held_by}
use Rattle.nx_hold.proofs.MapLemmas.{piece_map}
use Rattle.nx_state.specs.State.{State}
use Rattle.nx_state.specs.Stands.{StoredDocument, record_places, all_places, all_contents, IsStoredIn, HoldsDocuments, HoldsState, Stands}
use Rattle.nx_state.proofs.ContentLemmas.{named_contents}
use Rattle.nx_rules.specs.Walked.{Reached, Walked, layout_of, walked_forest, ByCatalog, waiting_in, marks_of, records_reached, links_in, walked_body, AreRead, AreAllLight, IsSoFar}
use Rattle.nx_rules.specs.Tour.{top_elements, HasItsNodes, Visit, IsFromRoot, IsVisit, IsDone, all_reached, all_links, Tour, IsWholeTour}
use Rattle.nx_rules.specs.Verdict.{KeepsRules}
use Rattle.nx_rules.proofs.MeetLemmas.{NoneWait, none_left}
use Rattle.nx_rules.proofs.AheadLemmas.{none_waits}
use Rattle.nx_rules.proofs.VisitLemmas.{HasTrees, has_trees, no_trees, entered}
use Rattle.nx_rules.proofs.SoundLemmas.{held_of, sound_pages}
use Rattle.nx_rules.proofs.LaidLemmas.{layout_places, holds_far, layout_parts, Has, HasIn, often, two_more}
use Rattle.nx_rules.proofs.TidyLemmas.{record_reached, links_once, tidy_lists, lists_by}
use Rattle.nx_rules.proofs.DeepLemmas.{once_of}
use Rattle.nx_rules.proofs.StateLemmas.{pieces_held, contents_often}

-- the root of a document has no far content
near_root : (node : Node) (list : Option ℕ) → IsFarWith (shown_with node list).node.content (shown_with node list).far → node.content ≡ [] → list ≡ None
near_root node None far bare = refl
near_root node (Some first) far bare = absurd (let long : 1024 < length node.content = far.1 in let none : length node.content ≡ 0 = ap length bare in omega (arith, long, none))

as_near : (n : LaidNode) → n.list ≡ None → n ≡ laid_near n.node
as_near n e = λ i. record { node = n.node; list = e i }

-- the one root of a document so far
root_grown : (members : Walked) → HasTrees (walked_body members) → AreFar (walked_body members) → IsSoFar (joined (walked_forest members) Empty) → (n : Node) × (b : Walked) × (members ≡ Grown (laid_near n) b Bare)
root_grown Bare h far is = absurd (let some : 1 ≤ 0 = h.some in omega arith)
root_grown (Grown n b Bare) h far is =
    let near : n ≡ laid_near n.node = as_near n (near_root n.node n.list far.0 is.2) in
    (n.node, b, ap (λ (x : LaidNode). Grown x b Bare) near)
root_grown (Grown n b (Grown m d t)) h far is = absurd (let x : Plant m.node (walked_forest d) (joined (walked_forest t) Empty) ≡ Empty = is.3 in cc)
root_grown (Grown n b (Kept x d t)) h far is = absurd (no_trees (walked_body t) h.trees)
root_grown (Kept x d t) h far is = absurd (no_trees (walked_body t) h.trees)

-- what was reached of a document whose root has this node
abbrev rooted : RecordPlace → List (List Link) → Node → Walked → Walked
rooted root chains n b = Kept (Reached root chains) (Grown (laid_near n) b Bare) Bare

below_none : (root : RecordPlace) (chains : List (List Link)) (n : Node) (b : Walked) → NoneWait (marks_of (rooted root chains n b)) → NoneWait (marks_of b)
below_none root chains n b h = none_left (marks_of b) [] (none_left (marks_of b ++ []) [] h)

document_is : (root : RecordPlace) (chains : List (List Link)) (n : Node) (b : Walked) (visit : Visit) → visit.walked ≡ rooted root chains n b → IsSoFar (walked_forest (rooted root chains n b)) → HasItsNodes visit
    → IsDocument (tree_of (record { node = n; below = without_places (layout_of b) })) × (visit.entry.nodes ≡ 1 + nodes (forest (without_places (layout_of b))))
document_is root chains n b visit e is has =
    let some : 1 ≤ element_count (walked_forest b) = subst (λ (w : Walked). 1 ≤ top_elements (walked_forest w)) e has.element in
    let few : element_count (walked_forest b) ≤ 1 = is.5 in
    let counted : nodes (walked_forest (rooted root chains n b)) ≡ visit.entry.nodes = subst (λ (w : Walked). nodes (walked_forest w) ≡ visit.entry.nodes) e has.counted in
    let small : nodes (walked_forest (rooted root chains n b)) ≤ 524288 = subst (λ (w : Walked). nodes (walked_forest w) ≤ 524288) e has.few in
    let number : nodes (walked_forest (rooted root chains n b)) ≡ 1 + nodes (walked_forest b) = omega arith in
    (record { root = is.0; unnamed = is.1; bare = is.2; top = is.4; one = omega (arith, some, few); forest = is.6; shallow = is.7; small = omega (arith, small, number) }, omega (arith, counted, number))

-- the contents of a document are those of what was reached of it
root_contents : (root : RecordPlace) (chains : List (List Link)) (n : Node) (b : Walked) → contents_of (layout_of (rooted root chains n b)) ≡ contents_of (layout_of b)
root_contents root chains n b = ap (λ (ns : List LaidNode). lists_of ns) (append-nil (laid_near n ∷ (nodes_in (layout_of b) ++ [])) ∙ ap (λ (ns : List LaidNode). laid_near n ∷ ns) (append-nil (nodes_in (layout_of b))))

pair_first : {A B : Type 0} (a c : A) (b d : B) (xs ys : List (A × B)) → a ≡ c → b ≡ d → xs ≡ ys → (a, b) ∷ xs ≡ (c, d) ∷ ys
pair_first a c b d xs ys e f g = cc

-- entries under the same names are in order alike
abbrev shown : StoredDocument → List ℕ × CutTree
shown s = (s.name, s.document)

below_same : (name : List ℕ) (stored : List StoredDocument) → below_all name_order name (map shown stored) ≡ below_all name_order name (map (λ (s : StoredDocument). (s.name, s.entry)) stored)
below_same name [] = refl
below_same name (s ∷ stored) = ap (λ b. is_lt (name_order name s.name) && b) (below_same name stored)

sorted_same : (stored : List StoredDocument) → is_sorted name_order (map shown stored) ≡ is_sorted name_order (map (λ (s : StoredDocument). (s.name, s.entry)) stored)
sorted_same [] = refl
sorted_same (s ∷ stored) =
    ap (λ b. b && is_sorted name_order (map shown stored)) (below_same s.name stored)
    ∙ ap (λ b. below_all name_order s.name (map (λ (t : StoredDocument). (t.name, t.entry)) stored) && b) (sorted_same stored)

module _ {pages : Pages} {tour : Tour} (whole : IsWholeTour pages tour) where
  abbrev k : ℕ
  k = tour.head.settings.k

  abbrev stock : Stock
  stock = held_by (piece_map (held_of whole))

  -- a document that was reached whole, as it is stored
  record StoredVisit (v : Visit) : Type 0 where
    stored : StoredDocument
    name : stored.name ≡ v.name
    entry : stored.entry ≡ v.entry
    is : IsStoredIn stock stored
    places : record_places stored ≡ records_reached v.walked
    contents : (x : ℕ) → times x (contents_of stored.layout) ≤ often x (links_in v.walked)

  parts_k : (l : Layout) → AreLaidParts k l → AreLaidParts stock.most l
  unfolding held_of
  parts_k l h = h

  stored_rooted : (v : Visit) (chains : List (List Link)) (n : Node) (b : Walked) → v.walked ≡ rooted (place_of v.entry.root) chains n b → IsVisit pages k v → IsDone v
      → ((p : RecordPlace) (ls : List (List Link)) (m : Walked) → Has p ls m v.walked → HasIn p ls m tour.visits) → ArePlacedOnce (records_reached v.walked) → StoredVisit v
  stored_rooted v chains n b e visit done all once =
      let w = rooted (place_of v.entry.root) chains n b in
      let none : NoneWait (marks_of w) = subst (λ (x : Walked). NoneWait (marks_of x)) e (none_waits ByCatalog v.walked done.whole) in
      let read : AreRead pages w = subst (λ (x : Walked). AreRead pages x) e visit.read in
      let light : AreAllLight k w = subst (λ (x : Walked). AreAllLight k x) e visit.light in
      let is : IsSoFar (walked_forest w) = subst (λ (x : Walked). IsSoFar (walked_forest x)) e visit.document in
      let inside : (p : RecordPlace) (ls : List (List Link)) (m : Walked) → Has p ls m w → HasIn p ls m tour.visits = λ p ls m h. all p ls m (subst (λ (x : Walked). Has p ls m x) (sym e) h) in
      let document = document_is (place_of v.entry.root) chains n b v e is done.nodes in
      let places : places_of (layout_of w) ≡ records_reached w = layout_places w none in
      record {
        stored = record { name = v.name; entry = v.entry; document = record { node = n; below = without_places (layout_of b) }; layout = layout_of b };
        name = refl;
        entry = refl;
        is = record {
          laid = record {
            same = refl;
            held = pieces_held whole w none read light inside tt;
            once = subst (λ (l : List RecordPlace). ArePlacedOnce l) (ap records_reached e ∙ sym places) once;
            light = parts_k (layout_of w) (layout_parts pages k w none read light);
            is_document = document.0;
          };
          counted = document.1;
        };
        places = places ∙ ap records_reached (sym e);
        contents = λ x.
            let few = contents_often pages x w read in
            let same : times x (contents_of (layout_of w)) ≡ times x (contents_of (layout_of b)) = ap (times x) (root_contents (place_of v.entry.root) chains n b) in
            let there : often x (links_in v.walked) ≡ often x (links_in w) = ap (λ (u : Walked). often x (links_in u)) e in
            omega (arith, few, same, there);
      }

  stored_visit : (v : Visit) → IsVisit pages k v → IsDone v → ((p : RecordPlace) (ls : List (List Link)) (m : Walked) → Has p ls m v.walked → HasIn p ls m tour.visits) → ArePlacedOnce (records_reached v.walked) → StoredVisit v
  stored_visit v visit done all once = by_root visit.root where
    by_root : IsFromRoot v.entry v.walked → StoredVisit v
    by_root (inl e) = absurd (let x = sym (ap (waiting_in ByCatalog) e) ∙ done.whole in cc x)
    by_root (inr h) =
        let read : AreRead pages (Kept (Reached (place_of v.entry.root) h.0) h.1 Bare) = subst (λ (x : Walked). AreRead pages x) h.2 visit.read in
        let is : IsSoFar (joined (walked_forest h.1) Empty) = subst (λ (x : Walked). IsSoFar (walked_forest x)) h.2 visit.document in
        let root = root_grown h.1 (has_trees read.0) (holds_far read.0) is in
        stored_rooted v h.0 root.0 root.1 (h.2 ∙ ap (λ (m : Walked). Kept (Reached (place_of v.entry.root) h.0) m Bare) root.2) visit done all once

  -- all documents
  record StoredVisits (vs : List Visit) : Type 0 where
    stored : List StoredDocument
    each : All (IsStoredIn stock) stored
    places : all_places stored ≡ all_reached vs
    names : map (λ s. (s.name, s.entry)) stored ≡ map entered vs
    contents : (x : ℕ) → times x (all_contents stored) ≤ often x (all_links vs)

  stored_visits : (vs : List Visit) → All (IsVisit pages k) vs → All IsDone vs → ((p : RecordPlace) (ls : List (List Link)) (m : Walked) → HasIn p ls m vs → HasIn p ls m tour.visits) → ArePlacedOnce (all_reached vs) → StoredVisits vs
  stored_visits [] visits done all once = record { stored = []; each = All-nil (IsStoredIn stock); places = refl; names = refl; contents = λ x. omega arith }
  stored_visits (v ∷ vs) visits done all once =
      let first = stored_visit v (All-head (IsVisit pages k) v vs visits) (All-head IsDone v vs done) (λ p ls m h. all p ls m (inl h)) (once-left (records_reached v.walked) (all_reached vs) once) in
      let rest = stored_visits vs (All-tail (IsVisit pages k) v vs visits) (All-tail IsDone v vs done) (λ p ls m h. all p ls m (inr h)) (once-right (records_reached v.walked) (all_reached vs) once) in
      let name : first.stored.name ≡ v.name = first.name in
      let entry : first.stored.entry ≡ v.entry = first.entry in
      let names : map (λ (s : StoredDocument). (s.name, s.entry)) rest.stored ≡ map entered vs = rest.names in
      let here : record_places first.stored ≡ records_reached v.walked = first.places in
      let there : all_places rest.stored ≡ all_reached vs = rest.places in
      record {
        stored = first.stored ∷ rest.stored;
        each = All-cons (IsStoredIn stock) first.stored rest.stored first.is rest.each;
        places = ap (λ l. l ++ all_places rest.stored) here ∙ ap (λ l. records_reached v.walked ++ l) there;
        names = pair_first first.stored.name v.name first.stored.entry v.entry (map (λ (s : StoredDocument). (s.name, s.entry)) rest.stored) (map entered vs) name entry names;
        contents = λ x.
            let a = first.contents x in
            let b = rest.contents x in
            let c = times-append x (contents_of first.stored.layout) (all_contents rest.stored) in
            let d = two_more x (links_in v.walked) (all_links vs) in
            omega (arith, a, b, c, d);
      }

  all_stored : StoredVisits tour.visits
  all_stored = stored_visits tour.visits whole.kept.each whole.done (λ p ls m h. h) whole.kept.once

  unfoldable state_of : State
  state_of = record { settings = tour.head.settings; rules = tour.contents.rules; documents = from_sorted (map shown all_stored.stored) }

  holds_documents : HoldsDocuments (held_of whole) all_stored.stored
  unfolding held_of
  holds_documents = record {
    tidy = tidy_lists whole;
    pieces = piece_map (held_of whole);
    each = all_stored.each;
    once = subst (λ (l : List RecordPlace). ArePlacedOnce l) (sym all_stored.places) whole.kept.once;
    contents_once = once_of (all_contents all_stored.stored) (λ x. (let few = all_stored.contents x in let once = links_once whole x in omega (arith, few, once)));
    no_others = λ place some. subst (λ (l : List RecordPlace). Contains l place) (sym all_stored.places) (record_reached whole place some);
    no_other_lists = λ chain some. elim (lists_by whole chain some) [
      | inl named ↦ inl named
      | inr h ↦
          let place : Contains (all_places all_stored.stored) h.0 = subst (λ (l : List RecordPlace). Contains l h.0) (sym all_stored.places) h.3 in
          inr (subst (λ (f : ℕ). Contains (all_contents all_stored.stored) f) h.2 (named_contents (held_of whole) (piece_map (held_of whole)) all_stored.stored all_stored.each h.0 h.1 place h.4))
    ];
  }

  names_same : entries tour.contents.documents ≡ map (λ (s : StoredDocument). (s.name, s.entry)) all_stored.stored
  names_same = sym whole.kept.named ∙ sym all_stored.names

  in_order : T (is_sorted name_order (map shown all_stored.stored))
  in_order =
      subst (λ (b : Bool). T b) (sym (sorted_same all_stored.stored))
      (subst (λ (l : List (List ℕ × DocEntry)). T (is_sorted name_order l)) names_same (entries_sorted tour.contents.documents))

  holds_state : HoldsState (held_of whole) state_of
  unfolding held_of state_of
  holds_state = record {
    settings = refl;
    stored = all_stored.stored;
    holds = holds_documents;
    contents = tour.contents;
    catalog = whole.kept.catalog;
    names = names_same;
    documents = entries-from_sorted name_order (map shown all_stored.stored) in_order;
    rules = refl;
  }

-- Pages that keep all rules stand for a state.
pub kept_stands : (pages : Pages) → KeepsRules pages → (state : State) × Stands pages state
kept_stands pages kept = (state_of kept.1, (held_of kept.1, (kept.0.head, sound_pages kept.1), holds_state kept.1))
