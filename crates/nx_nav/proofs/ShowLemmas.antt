-- What was found, shown whole or without its content.
use Rattle.std.proofs.Common.{◌≡◌, ℕ, false, List, length, Option, None, Some, refl, sym, ap, ◌∙◌, subst}
use Rattle.nx_host.specs.declared.disk.Disk.{Ghosts}
use Rattle.nx_host.specs.Still.{IsStill}
use Rattle.nx_holdings.specs.Holdings.{Held}
use Rattle.nx_records.specs.declared.records.Records.{Records}
use Rattle.nx_records.specs.declared.error.StoreError.{StoreError}
use Rattle.nx_records.specs.declared.error.StoreError.TheVariants as store
use Rattle.nx_records.specs.Records.{has_ended, LeavesRecords}
use Rattle.nx_records.specs.Changes.{LacksList}
use Rattle.nx_records.specs.Refusals.{NotRead}
use Rattle.nx_records.proofs.LeaveLemmas.{leaves_stand}
use Rattle.nx_tree.specs.declared.node.Kind.{Kind}
use Rattle.nx_tree.specs.declared.node.Node.{Node}
use Rattle.nx_tree.specs.Forest.{OrderedTree}
use Rattle.nx_piece.specs.declared.piece.Far.{Far}
use Rattle.nx_piece.specs.PieceNode.{PieceNode, content_length}
use Rattle.nx_cuts.specs.Cut.{CutTree, tree_of}
use Rattle.nx_layouts.specs.Layout.{RecordPlace, shown_with, IsReadIn}
use Rattle.nx_layouts.proofs.NodeLemmas.{items_show_nodes}
use Rattle.nx_hold.specs.Documents.{HasDocument}
use Rattle.nx_hold.proofs.PieceLemmas.{some_same}
use Rattle.nx_nav.specs.declared.error.NavError.{NavError}
use Rattle.nx_nav.specs.declared.finding.Found.{Found}
use Rattle.nx_nav.specs.declared.finding.Outlined.{Outlined}
use Rattle.nx_nav.specs.declared.finding.Shown.{Shown}
use Rattle.nx_nav.specs.Refusals.{HoldsNoDocument, IsRefused, StopsReading, IsPassedOn}
use Rattle.nx_nav.specs.Shows.{ShowsNode, OutlinesNode, FindsNode, found_node}
use Rattle.nx_nav.proofs.RefusalLemmas.{refused_later, still_runs}

-- a node whose content stands in its item is there as the document has it
near_is : (p : PieceNode) (n : Node) (list : Option ℕ) → p ≡ shown_with n list → p.far ≡ None → p.node ≡ n
near_is p n None e near = ap (λ (x : PieceNode). x.node) e
near_is p n (Some first) e near = absurd (let far = sym near ∙ ap (λ (x : PieceNode). x.far) e in cc)

node_is : (n m : Node) → n.kind ≡ m.kind → n.name ≡ m.name → n.content ≡ m.content → n ≡ m
node_is n m kind name content =
    ap (λ (x : Kind). let y : Node = record { kind = x; name = n.name; content = n.content } in y) kind
    ∙ ap (λ (x : List ℕ). let y : Node = record { kind = m.kind; name = x; content = n.content } in y) name
    ∙ ap (λ (x : List ℕ). let y : Node = record { kind = m.kind; name = m.name; content = x } in y) content

-- with its content from its list, a far one is too
far_is : (p : PieceNode) (n : Node) (list : Option ℕ) (lists : ℕ → Option (List ℕ)) (far : Far) (content : List ℕ) → p ≡ shown_with n list → IsReadIn lists (record { node = n; list = list }) → p.far ≡ Some far → ((held : List ℕ) → lists far.first ≡ Some held → content ≡ held)
    → record p.node { content = content } ≡ n
far_is p n None lists far content e read is reads = absurd (let none = sym is ∙ ap (λ (x : PieceNode). x.far) e in cc)
far_is p n (Some first) lists far content e read is reads =
    let named : far ≡ record { first = first; length = length n.content } = some_same (sym is ∙ ap (λ (x : PieceNode). x.far) e) in
    let held : lists far.first ≡ Some n.content = ap (λ (f : Far). lists f.first) named ∙ read first refl in
    node_is (record p.node { content = content }) n (ap (λ (x : PieceNode). x.node.kind) e) (ap (λ (x : PieceNode). x.node.name) e) (reads n.content held)

module _ (now : Held) (tree : OrderedTree) (path : List ℕ) (found : Found) (finds : FindsNode now tree path found) where
  pub shows_near : (shown : Shown) → found.far ≡ None → shown.node ≡ found.node → shown.children ≡ found.children → ShowsNode tree path shown
  shows_near shown near node children =
      let own = finds.3 in
      (finds.0, finds.1, node ∙ near_is (found_node found) (finds.0).node own.0 own.1 near, children ∙ finds.2)

  pub shows_far : (shown : Shown) (far : Far) (content : List ℕ) → found.far ≡ Some far → ((held : List ℕ) → now.lists far.first ≡ Some held → content ≡ held) → shown.node ≡ record found.node { content = content } → shown.children ≡ found.children → ShowsNode tree path shown
  shows_far shown far content is reads node children =
      let own = finds.3 in
      (finds.0, finds.1, node ∙ far_is (found_node found) (finds.0).node own.0 now.lists far content own.1 own.2 is reads, children ∙ finds.2)

  pub outlines : (seen : Outlined) → (seen.kind ≡ found.node.kind) × (seen.name ≡ found.node.name) × (seen.content ≡ content_length (found_node found)) × (seen.children ≡ found.children) → OutlinesNode tree path seen
  outlines seen says =
      let own = finds.3 in
      let shows = items_show_nodes (record { node = (finds.0).node; list = own.0 }) in (
        finds.0,
        finds.1,
        says.0 ∙ ap (λ (p : PieceNode). p.node.kind) own.1 ∙ shows.kind,
        says.1 ∙ ap (λ (p : PieceNode). p.node.name) own.1 ∙ shows.name,
        says.2 ∙ ap content_length own.1 ∙ shows.long,
        says.3 ∙ finds.2,
      )

-- The content wasn't read, as the refusal of a call that looks at a document.
module _ {D : Type 0} (d : Ghosts D) (root : RecordPlace) (path : List ℕ) (found : Found) (far : Far) (is : found.far ≡ Some far) {r0 r1 : Records} (r2 : Records) {x0 x1 : D} (x2 : D) (runs : has_ended r0 ≡ false) (stays : LeavesRecords r0 r1) (still : IsStill d x0 x1)
    (finds : (document : CutTree) (h : HasDocument d r0 x0 root document) → FindsNode h.now (tree_of document) path found) where
  pub content_stops : (e : StoreError) → NotRead d (λ now. LacksList now far.first far.length) far.first e r1 r2 x1 x2 → StopsReading e
  content_stops store.Disk refused = tt
  content_stops (store.Damaged page) refused = tt
  content_stops store.Ended refused = tt
  content_stops store.Memory refused = tt
  content_stops store.Exists refused = absurd refused
  content_stops store.NotAStore refused = absurd refused
  content_stops store.Full refused = absurd refused

  -- where there is a document, its list is there
  list_there : (now : Held) (n : Node) (list : Option ℕ) → found_node found ≡ shown_with n list → IsReadIn now.lists (record { node = n; list = list }) → LacksList now far.first far.length → ⊥
  list_there now n None e read lacks = absurd (let none = sym is ∙ ap (λ (x : PieceNode). x.far) e in cc)
  list_there now n (Some first) e read lacks =
      let named : far ≡ record { first = first; length = length n.content } = some_same (sym is ∙ ap (λ (x : PieceNode). x.far) e) in
      lacks n.content (ap (λ (f : Far). now.lists f.first) named ∙ read first refl) (sym (ap (λ (f : Far). f.length) named))

  abbrev Passed : NavError → Type 0
  Passed e = IsRefused d ⊥ ⊥ (HoldsNoDocument d r0 x0 root) e r1 r2 x1 x2

  passed : (e : StoreError) (out : NavError) → IsPassedOn e out → NotRead d (λ now. LacksList now far.first far.length) far.first e r1 r2 x1 x2 → Passed out
  passed store.Disk out on refused = subst Passed (sym on) refused
  passed (store.Damaged page) out on refused =
      subst Passed (sym on) (
        λ document h.
            let own = (finds document h).3 in
            list_there h.now ((finds document h).0).node own.0 own.1 own.2 (refused.lacks h.saved h.now (leaves_stand {r0 = r0} {r1 = r1} stays still h.stands)),
        refused.ends,
      )
  passed store.Ended out on refused = subst Passed (sym on) refused
  passed store.Memory out on refused = subst Passed (sym on) refused
  passed store.Exists out on refused = absurd refused
  passed store.NotAStore out on refused = absurd refused
  passed store.Full out on refused = absurd refused

  pub content_refused : (Nowhere : Type 0) (e : StoreError) (out : NavError) → IsPassedOn e out → NotRead d (λ now. LacksList now far.first far.length) far.first e r1 r2 x1 x2 → IsRefused d Nowhere ⊥ (HoldsNoDocument d r0 x0 root) out r0 r2 x0 x2
  content_refused Nowhere e out on refused =
      refused_later d Nowhere ⊥ (HoldsNoDocument d r0 x0 root) r0 r1 r2 x0 x1 x2 stays (still_runs r0 runs) still.faults_later absurd (λ bad. bad) (λ none. none) out (passed e out on refused)
