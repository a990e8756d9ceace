-- The way to a node of a document, from one record to the next.
use Rattle.std.proofs.Common.{◌≡◌, true, false, ℕ, ◌+◌, ◌-◌, ◌<◌, ◌≤◌, List, [], ◌∷◌, Contains, Option, None, Some, length, take, drop, refl, sym, ap, ◌∙◌, subst, arith, inl, inr}
use Rattle.std.specs.Prelude.{option_map}
use Rattle.std.proofs.lemmas.List.Elements.{Contains-append_right}
use Rattle.std.specs.List.{slice_get}
use Rattle.std.proofs.lemmas.List.{take_all, length-drop}
use Rattle.nx_host.specs.declared.disk.Disk.{Ghosts}
use Rattle.nx_host.specs.Still.{IsStill}
use Rattle.nx_host.proofs.DiskLemmas.{none_still, still_then}
use Rattle.nx_holdings.specs.Holdings.{Held, chain_count}
use Rattle.nx_records.specs.declared.records.Records.{Records}
use Rattle.nx_records.specs.Records.{has_ended, LeavesRecords}
use Rattle.nx_records.proofs.LeaveLemmas.{leaves_same, leaves_add_up}
use Rattle.nx_tree.specs.declared.node.Kind.{Kind}
use Rattle.nx_tree.specs.declared.node.Node.{Node}
use Rattle.nx_tree.specs.Forest.{OrderedTree, Forest, trees_of}
use Rattle.nx_tree.specs.Document.{deepest}
use Rattle.nx_tree.specs.Edit.{at, has_children}
use Rattle.nx_piece.specs.declared.piece.Far.{Far}
use Rattle.nx_piece.specs.declared.piece.Piece.{Piece}
use Rattle.nx_piece.specs.declared.piece.Proxy.{Proxy}
use Rattle.nx_piece.specs.declared.piece.Stored.TheVariants.{Inline, Chained}
use Rattle.nx_piece.specs.PieceNode.{PieceNode, content_length}
use Rattle.nx_piece.specs.Gapped.{Gapped, GappedTree}
use Rattle.nx_piece.specs.Valid.{IsValidPiece}
use Rattle.nx_piece.specs.Locate.{Reached, Inside, Outside, Missing, reached_in, children_of}
use Rattle.nx_cuts.specs.Cut.{CutTree, Bare, Grown, Kept, width, tree_of}
use Rattle.nx_layouts.specs.Layout.{RecordPlace, LaidNode, Layout, laid_near, laid_forest, shown_with, proxy_of, proxies_of, piece_of, IsReadIn}
use Rattle.nx_layouts.proofs.NodeLemmas.{items_show_nodes}
use Rattle.nx_hold.specs.Pieces.{HoldsPiece, NamesContent, held_by}
use Rattle.nx_hold.specs.Changes.{TakesPages, place_named}
use Rattle.nx_hold.specs.Documents.{HasDocument}
use Rattle.nx_hold.proofs.PieceLemmas.{some_same}
use Rattle.nx_nav.specs.declared.error.NavError.{NavError}
use Rattle.nx_nav.specs.declared.finding.Found.{Found}
use Rattle.nx_nav.specs.Pages.{laid_at}
use Rattle.nx_nav.specs.Along.{LeadsThrough, TakePages, ReadsPiece, ReadsAlong, ReadsShown, IsNamedAlong}
use Rattle.nx_nav.specs.Parts.{HasInterval, HasNoInterval, IsPieceAt}
use Rattle.nx_nav.specs.Refusals.{OfEach, HoldsNoDocument, IsRefused}
use Rattle.nx_nav.specs.Nodes.{CanBeWith}
use Rattle.nx_nav.specs.Shows.{FindsNode, CanBeFound, found_node}
use Rattle.nx_nav.proofs.NodeLemmas.{found_has_come, item_can_be}
use Rattle.nx_nav.proofs.RefusalLemmas.{refused_later, still_runs}
use Rattle.nx_nav.proofs.PartLemmas.{interval_held, layout_later, later_same, layout_of, part_same, document_held, document_same, document_forest}
use Rattle.nx_nav.proofs.ChildLemmas.{at_member, drawn_member, IsEnd, interval_end, children_counted, trees-forest, trees-length, path_falls, named_there}

-- what is left of a list behind so many of its elements
pub part_left : {A : Type 0} (xs : List A) (n : ℕ) → take (length xs - n) (drop n xs) ≡ drop n xs
part_left xs n = take_all (length xs - n) (drop n xs) (let l = length-drop n xs in omega arith)

-- The path leads on from a member of the interval with the record at this place.
pub record LeadsOn {D : Type 0} (d : Ghosts D) (records : Records) (disk : D) (held : Held) (place : RecordPlace) (roots member : ℕ) (rest : List ℕ) (found : Option OrderedTree) (drawn : Option (LaidNode × Layout)) : Type 0 where
  pub members : Layout
  pub there : HasInterval d records disk place members
  pub of : there.now ≡ held
  pub as_many : width members ≡ roots
  pub within : member < width members
  pub same : found ≡ at_member (laid_forest members) member rest
  pub drawn_same : drawn ≡ drawn_member members member rest

-- Where the path leads through records from here on, it leads through them from the root on, with so many records and pages before them.
abbrev pub IsThere : Held → RecordPlace → List ℕ → RecordPlace → ℕ → List ℕ → (levels pages : ℕ) → Type 0
IsThere held root path place member rest levels pages = (more : List RecordPlace) (n : ℕ) → LeadsThrough held place member rest (place ∷ more) → TakePages held (place ∷ more) n
    → (all : List RecordPlace) × LeadsThrough held root 0 path (root ∷ all) × TakePages held (root ∷ all) (pages + n) × (length all ≡ levels + length more)
    × ((other : RecordPlace) → Contains (place ∷ more) other → Contains (root ∷ all) other)

-- So it does in each document, and nothing was changed.
pub record IsSeeking {D : Type 0} (d : Ghosts D) (r0 r1 : Records) (x0 x1 : D) (root : RecordPlace) (path : List ℕ) (place : RecordPlace) (roots member : ℕ) (rest : List ℕ) : Type 0 where
  pub stays : LeavesRecords r0 r1
  pub still : IsStill d x0 x1
  pub alone : has_ended r0 ≡ true → x1 ≡ x0
  pub on : (document : CutTree) (h : HasDocument d r0 x0 root document) → LeadsOn d r1 x1 h.now place roots member rest (at (tree_of document) path) (laid_at h path)
  pub pages : ℕ
  pub few : d.reads x1 ≤ d.reads x0 + pages
  pub levels : ℕ
  pub fewer : levels + length rest ≤ length path
  pub through : (document : CutTree) (h : HasDocument d r0 x0 root document) → IsThere h.now root path place member rest levels pages

module _ {D : Type 0} {d : Ghosts D} {r0 : Records} {x0 : D} {root : RecordPlace} {path : List ℕ} where
  pub seek_begins : IsSeeking d r0 r0 x0 x0 root path root 1 0 path
  seek_begins = record {
    stays = leaves_same refl;
    still = none_still;
    alone = λ ended. refl;
    on = λ document h. record {
      members = Grown (laid_near document.node) h.laid.layout Bare;
      there = document_held h;
      of = document_same h;
      as_many = refl;
      within = omega arith;
      same = ap (λ (f : Forest). let t : OrderedTree = record { node = document.node; below = f } in at t path) (sym (document_forest h));
      drawn_same = refl;
    };
    pages = 0;
    few = omega arith;
    levels = 0;
    fewer = omega arith;
    through = λ document h more n lead take. (more, lead, subst (λ (m : ℕ). TakePages h.now (root ∷ more) m) (let same : n ≡ 0 + n = omega arith in same) take, omega arith, λ other among. among);
  }

  -- the pages of the next piece, of each document
  own_pages : {r1 : Records} {x1 x2 : D} {place : RecordPlace} {roots member : ℕ} {rest : List ℕ} → IsSeeking d r0 r1 x0 x1 root path place roots member rest → (document : CutTree) (h : HasDocument d r0 x0 root document)
      → (own : ReadsPiece d r1 x1 x2 place) → TakesPages h.now place own.0
  own_pages {place = place} seeking document h own =
      let on = seeking.on document h in
      subst (λ (now : Held). TakesPages now place own.0) on.of (own.2 on.there.saved on.there.now on.there.stands)

  module _ {r1 : Records} {x1 : D} {place : RecordPlace} {roots member : ℕ} {rest : List ℕ} (seeking : IsSeeking d r0 r1 x0 x1 root path place roots member rest)
      (piece : Piece) (is : IsPieceAt d r1 x1 place roots piece) where
    -- where the path leads in the piece that was read
    pub leads : (document : CutTree) (h : HasDocument d r0 x0 root document) (end : Reached) → reached_in piece member rest ≡ end
        → let on = seeking.on document h in IsEnd (held_by on.there.pieces) (on.there.now.settings).k (proxies_of on.members) 0 rest end (at (tree_of document) path) (laid_at h path)
    leads document h end e =
        let on = seeking.on document h in
        let there = on.there in
        let same : piece ≡ piece_of on.members = is on.members there on.as_many in
        let ends = interval_end (held_by there.pieces) (there.now.settings).k place on.members member rest there.held there.light in
        let Ends : Reached → Option OrderedTree → Option (LaidNode × Layout) → Type 0 = λ r o t. IsEnd (held_by there.pieces) (there.now.settings).k (proxies_of on.members) 0 rest r o t in
        subst (λ r. Ends r (at (tree_of document) path) (laid_at h path)) (ap (λ (p : Piece). reached_in p member rest) (sym same) ∙ e)
        (subst (λ o. Ends (reached_in (piece_of on.members) member rest) o (laid_at h path)) (sym on.same)
        (subst (λ t. Ends (reached_in (piece_of on.members) member rest) (at_member (laid_forest on.members) member rest) t) (sym on.drawn_same) ends))

    -- each document has it there
    pub piece_held : (document : CutTree) (h : HasDocument d r0 x0 root document) → HoldsPiece h.now place piece
    piece_held document h =
        let on = seeking.on document h in
        subst (λ (now : Held). HoldsPiece now place piece) on.of
        (subst (λ (p : Piece). HoldsPiece on.there.now place p) (sym (is on.members on.there on.as_many)) (interval_held on.there))

    -- it ends at a tree of the piece
    module _ (tree : GappedTree) (first : ℕ) (ends : reached_in piece member rest ≡ Inside tree first) where
      pub finds_there : (found : Found) → found_node found ≡ tree.node → found.children ≡ length (children_of piece.proxies first tree.below) → (document : CutTree) (h : HasDocument d r0 x0 root document) → FindsNode h.now (tree_of document) path found
      finds_there found node children document h =
          let on = seeking.on document h in
          let own = leads document h (Inside tree first) ends in
          let same : piece.proxies ≡ proxies_of on.members = ap (λ (p : Piece). p.proxies) (is on.members on.there on.as_many) in
          let counted = children_counted (held_by on.there.pieces) (on.there.now.settings).k (proxies_of on.members) own.below own.front own.back first own.here own.first_is in (
            record { node = own.node.node; below = laid_forest own.below },
            own.is,
            children ∙ ap (λ (ps : List Proxy). length (children_of ps first tree.below)) same ∙ ap (λ (f : Gapped). length (children_of (proxies_of on.members) first f)) own.shape
                ∙ counted ∙ sym (trees-forest own.below) ∙ sym (trees-length (laid_forest own.below)),
            (own.node.list, node ∙ own.item, subst (λ (now : Held). IsReadIn now.lists own.node) on.of own.read),
          )

      -- whose kind the document's node has
      pub kind_there : OfEach d r0 x0 root (λ document. option_map (λ (t : OrderedTree). t.node.kind) (at (tree_of document) path) ≡ Some tree.node.node.kind)
      kind_there document h =
          let own = leads document h (Inside tree first) ends in
          let shows = items_show_nodes own.node in
          ap (λ (o : Option OrderedTree). option_map (λ (t : OrderedTree). t.node.kind) o) own.is ∙ sym (ap (λ (n : PieceNode). Some n.node.kind) own.item ∙ ap (λ (k : Kind). Some k) shows.kind)

      -- which isn't one that a document may have
      pub finds_none_such : (found : Found) → found_node found ≡ tree.node → found.children ≡ length (children_of piece.proxies first tree.below) → (CanBeFound (length path) found → ⊥) → HoldsNoDocument d r0 x0 root
      finds_none_such found node children cannot document h =
          let there = finds_there found node children document h in
          let come = found_has_come (tree_of document) path there.0 h.laid.laid.is_document there.1 in
          let own = there.3 in
          let can = item_can_be (length path) there.0.node own.0 come.be in
          let as_many : found.children ≡ length (trees_of there.0.below) = there.2 in
          let kind : found.node.kind ≡ there.0.node.kind = ap (λ (n : PieceNode). n.node.kind) own.1 ∙ (items_show_nodes (record { node = there.0.node; list = own.0 })).kind in
          cannot (
            subst (λ (n : PieceNode). CanBeWith (length path) n.node.kind n.node.name (content_length n)) (sym own.1) can,
            λ none. as_many ∙ ap (λ (f : Forest). length (trees_of f)) (come.have (ap has_children (sym kind) ∙ none)),
          )

      -- and whose content is far where a record of each document names it
      pub names_there : (document : CutTree) (h : HasDocument d r0 x0 root document) → (far : Far) → tree.node.far ≡ Some far → NamesContent h.now place far
      names_there document h far named =
          let among = named_there piece member rest tree first far ends named in
          elim (piece_held document h) [
            | inl inline ↦ (Inline piece, inline, among)
            | inr chained ↦ (Chained piece.body (length piece.proxies) chained.chain, chained.stored, among)
          ]

    -- or nowhere
    pub finds_none : reached_in piece member rest ≡ Missing → OfEach d r0 x0 root (λ document. at (tree_of document) path ≡ None)
    finds_none e document h = leads document h Missing e

    -- the path is shorter there
    pub seek_falls : (index next used : ℕ) → IsValidPiece piece → reached_in piece member rest ≡ Outside index next used → (1 ≤ used) × (used ≤ length rest)
    seek_falls index next used valid e = path_falls piece member rest index next used valid e

  -- Or it leads on into another record, in each document:
  pub seek_leads_on : {r1 r2 : Records} {x1 x2 : D} {place : RecordPlace} {roots member : ℕ} {rest : List ℕ} (seeking : IsSeeking d r0 r1 x0 x1 root path place roots member rest) → has_ended r1 ≡ false → LeavesRecords r1 r2 → IsStill d x1 x2
      → (pages : ℕ) → d.reads x2 ≤ d.reads x1 + pages → ((document : CutTree) (h : HasDocument d r0 x0 root document) → TakesPages h.now place pages) → (proxy : Proxy) (index next used : ℕ) → 1 ≤ used → used ≤ length rest
      → ((document : CutTree) (h : HasDocument d r0 x0 root document) → (piece : Piece) × IsPieceAt d r1 x1 place roots piece × (reached_in piece member rest ≡ Outside index next used) × (slice_get piece.proxies index ≡ Some proxy))
      → IsSeeking d r0 r2 x0 x2 root path (place_named proxy) proxy.roots next (drop used rest)
  seek_leads_on {r1} {r2} {x1} {x2} {place} {roots} {member} {rest} seeking runs stays still pages few takes proxy index next used some most there = record {
    stays = leaves_add_up seeking.stays stays;
    still = still_then seeking.still still;
    alone = still_runs r0 (sym (seeking.stays).ended_stays ∙ runs);
    on = λ document h.
        let on = seeking.on document h in
        let own = there document h in
        let same : own.0.proxies ≡ proxies_of on.members = ap (λ (p : Piece). p.proxies) (own.1 on.members on.there on.as_many) in
        let away = leads seeking own.0 own.1 document h (Outside index next used) own.2 in
        let inner = away.2 in
        let named : proxy ≡ proxy_of inner.place (width inner.members) = some_same (sym own.3 ∙ ap (λ (ps : List Proxy). slice_get ps index) same ∙ inner.proxy) in
        let at_place : inner.place ≡ place_named proxy = ap (λ (p : Proxy). place_named p) (sym named) in
        let end : used ≡ 0 + away.0 = away.1 in
        let steps : away.0 ≡ used = omega arith in
        let part = layout_of on.there (Kept inner.place inner.members Bare) inner.held inner.light in
        let moved = subst (λ p. (there : HasInterval d r2 x2 p inner.members) × (there.now ≡ h.now)) at_place
        (layout_later {r0 = r1} {r1 = r2} stays still part, later_same stays still part ∙ part_same on.there (Kept inner.place inner.members Bare) inner.held inner.light ∙ on.of) in
        record {
          members = inner.members;
          there = moved.0;
          of = moved.1;
          as_many = ap (λ (p : Proxy). p.roots) (sym named);
          within = inner.within;
          same = inner.is ∙ ap (λ (n : ℕ). at_member (laid_forest inner.members) next (drop n rest)) steps;
          drawn_same = inner.drawn_is ∙ ap (λ (n : ℕ). drawn_member inner.members next (drop n rest)) steps;
        };
    pages = seeking.pages + pages;
    few = let was : d.reads x1 ≤ d.reads x0 + seeking.pages = seeking.few in omega (arith, was, few);
    levels = seeking.levels + 1;
    fewer = let was = seeking.fewer in let left = length-drop used rest in omega (arith, was, left, some, most);
    through = λ document h more n lead take.
        let own = there document h in
        let held : HoldsPiece h.now place own.0 = piece_held seeking own.0 own.1 document h in
        let all = seeking.through document h (place_named proxy ∷ more) (pages + n) (refl, (own.0, index, next, used, proxy, held, own.2, own.3, lead)) (pages, n, takes document h, take, refl) in (
          all.0,
          all.1,
          subst (λ (m : ℕ). TakePages h.now (root ∷ all.0) m) (let sum : seeking.pages + (pages + n) ≡ seeking.pages + pages + n = omega arith in sum) all.2,
          let long = all.3 in omega (arith, long),
          λ other among. all.4 other (Contains-append_right (place ∷ []) (place_named proxy ∷ more) other among),
        );
  }

  -- ... where a piece that was read says so
  pub seek_goes_on : {r1 : Records} {x1 : D} {place : RecordPlace} {roots member : ℕ} {rest : List ℕ} (seeking : IsSeeking d r0 r1 x0 x1 root path place roots member rest) (piece : Piece) → IsPieceAt d r1 x1 place roots piece
      → {r2 : Records} {x2 : D} → has_ended r1 ≡ false → LeavesRecords r1 r2 → IsStill d x1 x2 → (own : ReadsPiece d r1 x1 x2 place) → IsValidPiece piece → (proxy : Proxy) (index next used : ℕ) → reached_in piece member rest ≡ Outside index next used → slice_get piece.proxies index ≡ Some proxy
      → IsSeeking d r0 r2 x0 x2 root path (place_named proxy) proxy.roots next (drop used rest)
  seek_goes_on {member = member} {rest = rest} seeking piece is {r2} {x2} runs stays still own valid proxy index next used e there =
      let falls = path_falls piece member rest index next used valid e in
      seek_leads_on seeking runs stays still own.0 own.1 (λ document h. own_pages seeking document h own) proxy index next used falls.0 falls.1 (λ document h. (piece, is, e, there))

  -- no page was read but those on the path, with those of the next piece, which is one of them
  pub seek_reads_at : {r1 : Records} {x1 : D} (x2 : D) {place : RecordPlace} {roots member : ℕ} {rest : List ℕ} (seeking : IsSeeking d r0 r1 x0 x1 root path place roots member rest) → seeking.levels ≤ deepest → (pages : ℕ) → d.reads x2 ≤ d.reads x1 + pages
      → (document : CutTree) (h : HasDocument d r0 x0 root document) → TakesPages h.now place pages → (along : ReadsAlong h.now root path (d.reads x0) (d.reads x2)) × Contains along.places place
  seek_reads_at {x1 = x1} x2 {place = place} {rest = rest} seeking short pages now document h takes =
      let all = seeking.through document h [] pages refl (pages, 0, takes, refl, let none : pages ≡ pages + 0 = omega arith in none) in (
        record {
          places = root ∷ all.0;
          lead = all.1;
          levels = let long : length all.0 ≡ seeking.levels + 0 = all.3 in omega (arith, long, short);
          pages = seeking.pages + pages;
          are = all.2;
          few = let was : d.reads x1 ≤ d.reads x0 + seeking.pages = seeking.few in omega (arith, was, now);
        },
        all.4 place (0, omega arith, refl),
      )

  pub seek_reads_there : {r1 : Records} {x1 : D} (x2 : D) {place : RecordPlace} {roots member : ℕ} {rest : List ℕ} (seeking : IsSeeking d r0 r1 x0 x1 root path place roots member rest) → seeking.levels ≤ deepest → ReadsPiece d r1 x1 x2 place
      → (document : CutTree) (h : HasDocument d r0 x0 root document) → (along : ReadsAlong h.now root path (d.reads x0) (d.reads x2)) × Contains along.places place
  seek_reads_there x2 seeking short own document h = seek_reads_at x2 seeking short own.0 own.1 document h (own_pages seeking document h own)

  pub seek_reads_within : {r1 : Records} {x1 : D} (x2 : D) {place : RecordPlace} {roots member : ℕ} {rest : List ℕ} (seeking : IsSeeking d r0 r1 x0 x1 root path place roots member rest) → seeking.levels ≤ deepest → ReadsPiece d r1 x1 x2 place
      → (document : CutTree) (h : HasDocument d r0 x0 root document) → ReadsAlong h.now root path (d.reads x0) (d.reads x2)
  seek_reads_within x2 seeking short own document h = (seek_reads_there x2 seeking short own document h).0

  pub seek_reads : {r1 : Records} {x1 : D} (x2 : D) {place : RecordPlace} {roots member : ℕ} {rest : List ℕ} → IsSeeking d r0 r1 x0 x1 root path place roots member rest → length path ≤ deepest → ReadsPiece d r1 x1 x2 place
      → (document : CutTree) (h : HasDocument d r0 x0 root document) → ReadsAlong h.now root path (d.reads x0) (d.reads x2)
  seek_reads x2 seeking short own document h = seek_reads_within x2 seeking (let few = seeking.fewer in omega (arith, few, short)) own document h

  -- the record wasn't read
  pub seek_refused : {r1 : Records} (r2 : Records) {x1 : D} (x2 : D) {place : RecordPlace} {roots member : ℕ} {rest : List ℕ} → IsSeeking d r0 r1 x0 x1 root path place roots member rest → (Nowhere : Type 0) (e : NavError)
      → IsRefused d ⊥ ⊥ (HasNoInterval d r1 x1 place roots) e r1 r2 x1 x2 → IsRefused d Nowhere ⊥ (HoldsNoDocument d r0 x0 root) e r0 r2 x0 x2
  seek_refused {r1} r2 {x1} x2 seeking Nowhere e refused =
      refused_later d Nowhere ⊥ (HoldsNoDocument d r0 x0 root) r0 r1 r2 x0 x1 x2 seeking.stays seeking.alone seeking.still.faults_later absurd (λ bad. bad)
      (λ none document h. let on = seeking.on document h in none on.members on.there on.as_many) e refused

-- a call that asked nothing read nothing
pub none_read : (held : Held) (root : RecordPlace) (path : List ℕ) (count : ℕ) → ReadsAlong held root path count count
none_read held root path count = record { places = []; lead = tt; levels = omega arith; pages = 0; are = refl; few = omega arith }

-- nor did one that read no further
pub reads_no_more : {held : Held} {root : RecordPlace} {path : List ℕ} {old new : ℕ} (last : ℕ) → last ≤ new → ReadsAlong held root path old new → ReadsAlong held root path old last
reads_no_more {new = new} last less reads = record { places = reads.places; lead = reads.lead; levels = reads.levels; pages = reads.pages; are = reads.are; few = let few = reads.few in omega (arith, few, less) }

pub reads_same_places : {held : Held} {root place : RecordPlace} {path : List ℕ} {old new last : ℕ} (reads : ReadsAlong held root path old new) (less : last ≤ new) → Contains reads.places place → Contains (reads_no_more last less reads).places place
unfolding reads_no_more
reads_same_places reads less among = among

-- no page of a content was read
pub shows_no_more : {held : Held} {root : RecordPlace} {path : List ℕ} {old new : ℕ} (found : Option OrderedTree) → ReadsAlong held root path old new → ReadsShown held root path found old new
shows_no_more {new = new} found along = record { between = new; along = along; content = 0; shown = inl refl; few = omega arith }

-- the pages of the content of the node that was found were read, which one of the records names
pub shows_content : {held : Held} {root : RecordPlace} {path : List ℕ} {old between : ℕ} (new : ℕ) (tree : OrderedTree) (found : Found) (far : Far) (along : ReadsAlong held root path old between) → IsNamedAlong held along.places found.far → FindsNode held tree path found
    → found.far ≡ Some far → new ≤ between + chain_count far.length → ReadsShown held root path (at tree path) old new
shows_content {held} {between = between} new tree found far along named finds is few =
    let own = finds.3 in
    let there = far_shown held (finds.0).node own.0 far (sym (ap (λ (n : PieceNode). n.far) own.1) ∙ is) own.2 in
    let name = named far is in
    record {
      between = between;
      along = along;
      content = chain_count far.length;
      shown = inr (finds.0, name.0, far, finds.1, name.1, name.2, there.0, ap chain_count (sym there.1));
      few = few;
    }
  where
    far_shown : (held : Held) (n : Node) (list : Option ℕ) (far : Far) → (shown_with n list).far ≡ Some far → IsReadIn held.lists (record { node = n; list = list }) → (held.lists far.first ≡ Some n.content) × (length n.content ≡ far.length)
    far_shown held n None far e read = absurd (cc)
    far_shown held n (Some first) far e read =
        let same : record { first = first; length = length n.content } ≡ far = some_same e in
        (ap (λ (f : Far). held.lists f.first) (sym same) ∙ read first refl, ap (λ (f : Far). f.length) same)
