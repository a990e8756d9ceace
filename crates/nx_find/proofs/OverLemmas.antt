-- What a walk over a whole document showed and read.
use Rattle.std.proofs.Common.{◌≡◌, true, Bool, ℕ, ◌+◌, ◌≤◌, List, [], ◌∷◌, ◌++◌, length, refl, sym, ap, ◌∙◌, subst, arith, inl}
use Rattle.std.specs.Prelude.{Option, None, Some}
use Rattle.std.specs.Option.{MatchOption}
use Rattle.std.proofs.lemmas.List.{append-nil}
use Rattle.nx_host.specs.declared.disk.Disk.{Ghosts}
use Rattle.nx_records.specs.Words.{Held}
use Rattle.nx_records.specs.Records.{StandsFor}
use Rattle.nx_records.specs.declared.records.Records.{Records}
use Rattle.nx_records.proofs.LeaveLemmas.{leaves_same}
use Rattle.nx_tree.specs.declared.node.Node.{Node}
use Rattle.nx_tree.specs.Forest.{Forest, nodes}
use Rattle.nx_tree.specs.Document.{depth, is_doc, IsForest}
use Rattle.nx_cuts.specs.Cut.{Bare, Grown, Kept, CutForest, CutTree, forest, tree_of}
use Rattle.nx_layouts.specs.Layout.{RecordPlace, Layout, IsLaidOutAs, laid_near, laid_forest, places_of, whole, ArePlacedOnce}
use Rattle.nx_hold.specs.Pieces.{PieceMap, held_by}
use Rattle.nx_nav.specs.declared.error.NavError.{NavError}
use Rattle.nx_nav.specs.declared.error.NavError.TheVariants as nav
use Rattle.nx_nav.specs.Along.{TakePages}
use Rattle.nx_nav.specs.Refusals.{IsRefused, node_count}
use Rattle.nx_nav.specs.Walk.{IsIntervalAt}
use Rattle.nx_nav.proofs.RefusalLemmas.{refused_later}
use Rattle.nx_reach.specs.declared.step.Step.{Step}
use Rattle.nx_reach.specs.declared.finder.Finder.{Finder}
use Rattle.nx_reach.specs.Reach.{Found}
use Rattle.nx_reach.specs.Seen.{Seen, Goes, HasComeTo}
use Rattle.nx_names.specs.declared.map.LabelMap.{LabelMap}
use Rattle.nx_names.specs.declared.gatherer.Gatherer.{Gatherer}
use Rattle.nx_names.specs.Labels.{HoldsLabels, entered_places}
use Rattle.nx_names.specs.Shown.{SkipsOnly}
use Rattle.nx_names.specs.Look.{Look, RecordEnds, looks_of, looks_into, seen_of, begun_nodes, begun_places}
use Rattle.nx_names.specs.Serials.{has_noted, noted_from}
use Rattle.nx_names.specs.Gathered.{HasGathered, GathersLabels, gathered_behind, nothing_gathered, holds_label}
use Rattle.nx_names.proofs.LookLemmas.{all_wanted, begun_nodes-append, begun_places-append, begins_few, begins_all, begins_entered, all_entered, holders_entered, seen_below}
use Rattle.nx_names.proofs.HeardLemmas.{gathered_holds, gathered_places}
use Rattle.nx_names.proofs.ShownLemmas.{finder_finds, holds_skips}
use Rattle.nx_find.specs.declared.error.FindError.{FindError}
use Rattle.nx_find.specs.Walked.{looks_entering, ReadsLooks, ShowsWhole, StopsShowing, IsNoSuch}
use Rattle.nx_find.specs.Over.{IsMapOf, ReadsOf, last_label, records_for, IsGivenUp, StopsWalking, IsHandedOn}
use Rattle.nx_find.proofs.WalkLemmas.{takes_more}
use Rattle.nx_find.proofs.LookingLemmas.{has_last}

-- a document's root, with what is below it
abbrev pub members_of : CutTree → Layout → Layout
members_of document layout = Grown (laid_near document.node) layout Bare

-- each record has a page
ones : (now : Held) (places : List RecordPlace) → TakePages now places (length places)
ones now [] = refl
ones now (p ∷ places) = (1, length places, inl refl, ones now places, (let e : length (p ∷ places) ≡ 1 + length places = omega arith in e))

-- What was shown first costs no more than all.
pub reads_of : {D : Type 0} {d : Ghosts D} {r : Records} {x y : D} (told more : List Look) (places : List RecordPlace) → begun_places (told ++ more) ≡ places → ReadsLooks d r x y told → (saved now : Held) → StandsFor d r x saved now → ReadsOf now places (d.reads x) (d.reads y)
reads_of {d = d} {x = x} {y = y} told more places is reads saved now stands =
    let few : d.reads y ≤ d.reads x + reads.0 = reads.1 in (
      reads.0 + length (begun_places more),
      (let e : d.reads y ≤ d.reads x + (reads.0 + length (begun_places more)) = omega (arith, few) in e),
      subst (λ (ps : List RecordPlace). TakePages now ps (reads.0 + length (begun_places more))) (sym (begun_places-append told more) ∙ is)
          (takes_more now (begun_places told) (begun_places more) reads.0 (length (begun_places more)) (reads.2 saved now stands) (ones now (begun_places more))),
    )

-- how many nodes begin in a document, and where its records stand
begun_into : (wanted : RecordPlace → Bool) (root : RecordPlace) (members : Layout) → begun_nodes (looks_into wanted root members) ≡ begun_nodes (looks_of wanted members)
begun_into wanted root members = omega (arith, begun_nodes-append (looks_of wanted members) (RecordEnds ∷ []))

places_into : (wanted : RecordPlace → Bool) (root : RecordPlace) (members : Layout) → begun_places (looks_into wanted root members) ≡ root ∷ entered_places wanted members
places_into wanted root members = ap (λ ps. root ∷ ps) (begun_places-append (looks_of wanted members) (RecordEnds ∷ []) ∙ append-nil (begun_places (looks_of wanted members)) ∙ begins_entered wanted members)

pub all_places : (root : RecordPlace) (members : Layout) → begun_places (looks_into all_wanted root members) ≡ places_of (Kept root members Bare)
all_places root members = places_into all_wanted root members ∙ ap (λ ps. root ∷ ps) (all_entered members ∙ sym (append-nil (places_of members)))

pub those_places : (holds : RecordPlace → List ℕ → Bool) (name : List ℕ) (root : RecordPlace) (node : Node) (layout : Layout) → HoldsLabels holds (whole root node layout) → begun_places (looks_into (λ place. holds place name) root (Grown (laid_near node) layout Bare)) ≡ records_for holds name root layout
those_places holds name root node layout h =
    let wanted : RecordPlace → Bool = λ place. holds place name in
    places_into wanted root (Grown (laid_near node) layout Bare) ∙ ap (λ ps. root ∷ ps) (append-nil (entered_places wanted layout) ∙ holders_entered holds name layout (h.1).0)

module _ {D : Type 0} {d : Ghosts D} {r : Records} {x : D} {root : RecordPlace} {saved now : Held} (stands : StandsFor d r x saved now) (pieces : PieceMap now) (document : CutTree) (layout : Layout) (laid : IsLaidOutAs (held_by pieces) root document layout) where
  -- a document is the one member of its root's interval
  pub laid_interval : IsIntervalAt d r x root 1 (whole root document.node layout)
  laid_interval = (members_of document layout, refl, refl, record { saved = saved; now = now; stands = stands; pieces = pieces; held = laid.held; light = laid.light })

  laid_below : laid_forest layout ≡ (tree_of document).below
  laid_below = ap (λ (c : CutForest). forest c) laid.same

  pub begins_document : begun_nodes (looks_into all_wanted root (members_of document layout)) ≡ node_count document
  begins_document =
      let all = begins_all (members_of document layout) in
      let size = ap nodes laid_below in
      let into = begun_into all_wanted root (members_of document layout) in
      omega arith

  begins_no_more : (wanted : RecordPlace → Bool) → begun_nodes (looks_into wanted root (members_of document layout)) ≤ node_count document
  begins_no_more wanted =
      let few = begins_few wanted (members_of document layout) in
      let size = ap nodes laid_below in
      let into = begun_into wanted root (members_of document layout) in
      omega arith

  -- a walk has room for it
  pub no_document : (wanted : RecordPlace → Bool) (left : ℕ) → IsNoSuch (IsIntervalAt d r x root 1) (looks_entering wanted) 257 left → node_count document ≡ left → ⊥
  no_document wanted left none count =
      let high = ap depth laid_below in
      let low : depth (tree_of document).below ≤ 256 = laid.is_document.shallow in
      let few = begins_no_more wanted in
      none (whole root document.node layout) laid_interval (omega arith) (omega arith)

  -- what was read of it
  pub reads_document : {y : D} → StopsShowing d (IsIntervalAt d r x root 1) (looks_entering all_wanted) r x y → ReadsOf now (places_of (whole root document.node layout)) (d.reads x) (d.reads y)
  reads_document stops =
      let first = stops.first (whole root document.node layout) laid_interval in
      reads_of {r = r} stops.told first.0 (places_of (whole root document.node layout)) (ap begun_places (sym first.1) ∙ all_places root (members_of document layout)) stops.reads saved now stands

  pub reads_those : {y : D} (holds : RecordPlace → List ℕ → Bool) (name : List ℕ) → IsMapOf holds root document layout → StopsShowing d (IsIntervalAt d r x root 1) (looks_entering (λ place. holds place name)) r x y
      → ReadsOf now (records_for holds name root layout) (d.reads x) (d.reads y)
  reads_those holds name map stops =
      let first = stops.first (whole root document.node layout) laid_interval in
      reads_of {r = r} stops.told first.0 (records_for holds name root layout) (ap begun_places (sym first.1) ∙ those_places holds name root document.node layout map) stops.reads saved now stands

  -- how many nodes were counted in it
  pub counts_document : {A : Type 0} {Shown : A → List Look → A → Type 0} {a b : A} {y : D} {left rest : ℕ} → ShowsWhole d Shown (IsIntervalAt d r x root 1) (looks_entering all_wanted) r a x left b y rest → left ≡ rest + node_count document
  counts_document {left = left} {rest = rest} has =
      let counts : left ≡ rest + begun_nodes has.told = has.counts in
      let all = ap begun_nodes (has.all (whole root document.node layout) laid_interval) in
      let size = begins_document in
      omega arith

  -- what was gathered of it
  pub gathers_document : (start end : Gatherer) (told : List Look) → HasGathered start nothing_gathered → GathersLabels start told end → told ≡ looks_into all_wanted root (members_of document layout) → HasGathered end (gathered_behind nothing_gathered (looks_into all_wanted root (members_of document layout)))
  gathers_document start end told begins goes is = subst (λ (looks : List Look). HasGathered end (gathered_behind nothing_gathered looks)) is (goes nothing_gathered begins)

  pub map_of_document : (map : LabelMap) → let g = gathered_behind nothing_gathered (looks_into all_wanted root (members_of document layout)) in ((place : RecordPlace) (name : List ℕ) → holds_label map place name ≡ has_noted (noted_from 0 g.places) place (g.heard name)) → IsMapOf (holds_label map) root document layout
  map_of_document map by = gathered_holds root (members_of document layout) (holds_label map) laid.once by

  pub placed_once : ArePlacedOnce (gathered_behind nothing_gathered (looks_into all_wanted root (members_of document layout))).places
  placed_once = subst ArePlacedOnce (sym (gathered_places root (members_of document layout))) laid.once

  -- what was made of that: nothing is made of a document, or it is the map
  abbrev IsMadeOf : Option LabelMap → Type 0
  IsMadeOf found = let g = gathered_behind nothing_gathered (looks_into all_wanted root (members_of document layout)) in
      MatchOption found (ArePlacedOnce g.places → ⊥) (λ map. (place : RecordPlace) (name : List ℕ) → holds_label map place name ≡ has_noted (noted_from 0 g.places) place (g.heard name))

  pub found_none : (found : Option LabelMap) → found ≡ None → IsMadeOf found → ⊥
  found_none found is made = subst IsMadeOf is made placed_once

  pub found_map : (found : Option LabelMap) (map : LabelMap) → found ≡ Some map → IsMadeOf found → IsMapOf (holds_label map) root document layout
  found_map found map is made = map_of_document map (subst IsMadeOf is made)

  -- what was found in it
  pub finds_document : (holds : RecordPlace → List ℕ → Bool) (steps : List Step) (start end : Finder) (told : List Look) → 1 ≤ length steps → start.state.steps.now ≡ steps → HasComeTo start (record { labels = []; path = []; next = 0; found = [] }) → Goes start (seen_of told) end
      → IsMapOf holds root document layout → told ≡ looks_into (λ place. holds place (last_label steps)) root (members_of document layout) → Found (tree_of document) steps end.found
  finds_document holds steps start end told some same begins goes map is =
      let last = has_last steps some in
      let wanted : RecordPlace → Bool = λ place. holds place (last_label steps) in
      let doc : is_doc document.node.kind ≡ true = ap is_doc laid.is_document.root in
      let trees : IsForest (laid_forest layout) = subst IsForest (sym laid_below) laid.is_document.forest in
      let shown = ap seen_of is ∙ seen_below wanted root document.node layout doc trees in
      let skips = holds_skips holds layout (last_label steps) (map.1).0 in
      let found = finder_finds document.node last.before last.last wanted layout start end (same ∙ last.is) begins (subst (λ (seen : List Seen). Goes start seen end) shown goes) (subst (λ (name : List ℕ). SkipsOnly name wanted layout) last.asks skips) in
      let there = subst (λ (below : Forest). Found (record { node = document.node; below = below }) (last.before ++ last.last ∷ []) end.found) laid_below found in
      subst (λ (ss : List Step). Found (tree_of document) ss end.found) (sym last.is) there

-- A call for nodes gives up for what the walk says.
module _ {D : Type 0} (d : Ghosts D) (Lacks : Type 0) (r0 r1 : Records) (x y : D) where
  pub gives_up : (e : NavError) (out : FindError) → IsHandedOn e out → IsRefused d ⊥ ⊥ Lacks e r0 r1 x y → IsGivenUp d Lacks out r0 r1 x y
  gives_up nav.NoNode out is refused = absurd is
  gives_up nav.Disk out is refused = subst (λ o. IsGivenUp d Lacks o r0 r1 x y) (sym is) refused
  gives_up nav.Write out is refused = absurd is
  gives_up (nav.Damaged page) out is refused = subst (λ o. IsGivenUp d Lacks o r0 r1 x y) (sym is) refused
  gives_up nav.Ended out is refused = subst (λ o. IsGivenUp d Lacks o r0 r1 x y) (sym is) refused
  gives_up nav.Memory out is refused = subst (λ o. IsGivenUp d Lacks o r0 r1 x y) (sym is) refused

  pub stops_walking : (e : NavError) → IsRefused d ⊥ ⊥ Lacks e r0 r1 x y → StopsWalking e
  stops_walking nav.NoNode refused = absurd refused.0
  stops_walking nav.Disk refused = tt
  stops_walking nav.Write refused = absurd refused.0
  stops_walking (nav.Damaged page) refused = tt
  stops_walking nav.Ended refused = tt
  stops_walking nav.Memory refused = tt

  -- ... where what it lacks isn't there either
  pub lacks_more : (Lacks' : Type 0) → (Lacks → Lacks') → (e : NavError) → IsRefused d ⊥ ⊥ Lacks e r0 r1 x y → IsRefused d ⊥ ⊥ Lacks' e r0 r1 x y
  lacks_more Lacks' so e refused = refused_later d ⊥ ⊥ Lacks' r0 r0 r1 x x y (leaves_same refl) (λ ended. refl) (omega arith) (λ bad. bad) (λ bad. bad) so e refused
