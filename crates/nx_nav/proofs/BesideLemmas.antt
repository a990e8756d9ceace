-- A path that goes on by one position, and the child there.
use Rattle.std.proofs.Common.{◌≡◌, ℕ, ◌+◌, ◌<◌, ◌≤◌, List, [], ◌∷◌, ◌++◌, Option, None, Some, length, drop, false, refl, sym, ap, ◌∙◌, subst, arith, inl, inr, length-append}
use Rattle.std.specs.Prelude.{Result, IfOk, IfErr, IfSome}
use Rattle.std.specs.List.{slice_get}
use Rattle.std.specs.Option.{option_map}
use Rattle.std.proofs.lemmas.List.{drop-append-le}
use Rattle.std.proofs.lemmas.Result.{IfOk-weaker, IfErr-weaker}
use Rattle.std.proofs.Math.Seq.{drop-append-add}
use Rattle.nx_host.specs.declared.disk.Disk.{Ghosts}
use Rattle.nx_host.specs.Still.{IsStill}
use Rattle.nx_host.proofs.DiskLemmas.{still_then}
use Rattle.nx_tree.specs.declared.node.Kind.{Kind}
use Rattle.nx_tree.specs.Document.{deepest}
use Rattle.nx_tree.specs.Forest.{OrderedTree}
use Rattle.nx_records.specs.declared.records.Records.{Records}
use Rattle.nx_records.specs.Records.{has_ended, LeavesRecords}
use Rattle.nx_records.proofs.LeaveLemmas.{leaves_same, leaves_add_up}
use Rattle.nx_piece.specs.declared.piece.Piece.{Piece}
use Rattle.nx_piece.specs.declared.piece.Proxy.{Proxy}
use Rattle.nx_piece.specs.Gapped.{GappedTree}
use Rattle.nx_piece.specs.Valid.{IsValidPiece}
use Rattle.nx_piece.specs.Locate.{PieceChild, Own, Kept, Reached, Inside, Outside, Missing, children_of, reached, reached_in}
use Rattle.nx_cuts.specs.Cut.{CutTree, tree_of}
use Rattle.nx_cuts.proofs.FeasibleLemmas.{trees, le_or}
use Rattle.nx_layouts.specs.Layout.{RecordPlace, laid_forest}
use Rattle.nx_hold.specs.Changes.{place_named}
use Rattle.nx_hold.specs.Documents.{HasDocument}
use Rattle.nx_nav.specs.declared.error.NavError.{NavError}
use Rattle.nx_nav.specs.Along.{ReadsPiece, ReadsAlong}
use Rattle.nx_nav.specs.Beside.{way_on, child_asked, kind_reached, IsKindOfRoot, IsKindOf, LacksChild, ReadsChild}
use Rattle.nx_nav.specs.Parts.{HasNoInterval, IsPieceAt}
use Rattle.nx_nav.specs.Refusals.{OfEach, HoldsNoDocument, IsRefused}
use Rattle.nx_nav.specs.Shows.{kind_below}
use Rattle.nx_nav.proofs.ChildLemmas.{path_falls, child_there, trees-forest}
use Rattle.nx_nav.proofs.NodeLemmas.{too_deep}
use Rattle.nx_nav.proofs.RefusalLemmas.{refused_later, still_runs}
use Rattle.nx_nav.proofs.SeekLemmas.{IsSeeking, seek_begins, seek_goes_on, seek_falls, seek_reads, seek_reads_within, reads_no_more, kind_there, finds_none}

-- a path that leads into another record does so with more positions behind it
kept_out : (proxies : List Proxy) (used : ℕ) (path : List ℕ) (index member : ℕ) → reached proxies used path (Some (Kept index member)) ≡ Outside index member used
kept_out proxies used [] index member = refl
kept_out proxies used (p ∷ path) index member = refl

reached_on : (proxies : List Proxy) (used : ℕ) (path more : List ℕ) (o : Option PieceChild) (index next end : ℕ) → reached proxies used path o ≡ Outside index next end → reached proxies used (path ++ more) o ≡ Outside index next end
reached_on proxies used path more None index next end e = absurd (nowhere path e)
  where
    nowhere : (path : List ℕ) → reached proxies used path None ≡ Outside index next end → ⊥
    nowhere [] e = cc
    nowhere (p ∷ path) e = cc
reached_on proxies used path more (Some (Kept i m)) index next end e = kept_out proxies used (path ++ more) i m ∙ sym (kept_out proxies used path i m) ∙ e
reached_on proxies used [] more (Some (Own t f)) index next end e = absurd (cc)
reached_on proxies used (p ∷ path) more (Some (Own t f)) index next end e = reached_on proxies (used + 1) path more (slice_get (children_of proxies f t.below) p) index next end e

-- one that ends at a tree leads with one more position to a child of it
reached_below : (proxies : List Proxy) (used : ℕ) (path : List ℕ) (position : ℕ) (o : Option PieceChild) (tree : GappedTree) (first : ℕ) → reached proxies used path o ≡ Inside tree first
    → reached proxies used (path ++ position ∷ []) o ≡ reached proxies (used + length path + 1) [] (slice_get (children_of proxies first tree.below) position)
reached_below proxies used path position None tree first e = absurd (nowhere path e)
  where
    nowhere : (path : List ℕ) → reached proxies used path None ≡ Inside tree first → ⊥
    nowhere [] e = cc
    nowhere (p ∷ path) e = cc
reached_below proxies used path position (Some (Kept i m)) tree first e = absurd (let out = sym (kept_out proxies used path i m) ∙ e in cc)
reached_below proxies used [] position (Some (Own t f)) tree first e =
    let same : t ≡ tree = cc in
    let there : f ≡ first = cc in
    ap (λ (x : GappedTree). reached proxies (used + 1) [] (slice_get (children_of proxies f x.below) position)) same
    ∙ ap (λ (n : ℕ). reached proxies (used + 1) [] (slice_get (children_of proxies n tree.below) position)) there
    ∙ ap (λ (n : ℕ). reached proxies n [] (slice_get (children_of proxies first tree.below) position)) (let q : used + 1 ≡ used + 0 + 1 = omega arith in q)
reached_below proxies used (p ∷ path) position (Some (Own t f)) tree first e =
    reached_below proxies (used + 1) path position (slice_get (children_of proxies f t.below) p) tree first e
    ∙ ap (λ (n : ℕ). reached proxies n [] (slice_get (children_of proxies first tree.below) position)) (let q : used + 1 + length path + 1 ≡ used + length (p ∷ path) + 1 = omega arith in q)

-- The child that is asked for is kept in the record of this proxy, which was looked at.
module _ {D : Type 0} (d : Ghosts D) (r0 r1 : Records) (x0 x1 : D) (proxies : List Proxy) (index member : ℕ) (proxy : Proxy) (there : slice_get proxies index ≡ Some proxy) (o : Option PieceChild) (asked : o ≡ Some (Kept index member)) (result : Result (Option Kind) NavError) where
  pub kept_kind : (Stays : Type 0) → IfOk result (λ kind. Stays × IsKindOfRoot d r0 x0 proxy member kind) → IfOk result (λ kind. Stays × IsKindOf d r0 x0 proxies o kind)
  kept_kind Stays ok =
      subst (λ (c : Option PieceChild). IfOk result (λ kind. Stays × IsKindOf d r0 x0 proxies c kind)) (sym asked)
      (IfOk-weaker result (λ kind. Stays × IsKindOfRoot d r0 x0 proxy member kind) (λ kind. Stays × IsKindOf d r0 x0 proxies (Some (Kept index member)) kind) (λ kind is. (is.0, (proxy, there, is.1))) ok)

  pub kept_reads : ReadsPiece d r0 x0 x1 (place_named proxy) → ReadsChild d r0 x0 x1 proxies o
  kept_reads reads = subst (λ (c : Option PieceChild). ReadsChild d r0 x0 x1 proxies c) (sym asked) (proxy, there, reads)

  pub kept_refused : has_ended r0 ≡ false → IfErr result (λ e. IsRefused d ⊥ ⊥ (HasNoInterval d r0 x0 (place_named proxy) proxy.roots) e r0 r1 x0 x1) → IfErr result (λ e. IsRefused d ⊥ ⊥ (LacksChild d r0 x0 proxies o) e r0 r1 x0 x1)
  kept_refused runs refused =
      IfErr-weaker result (λ e. IsRefused d ⊥ ⊥ (HasNoInterval d r0 x0 (place_named proxy) proxy.roots) e r0 r1 x0 x1) (λ e. IsRefused d ⊥ ⊥ (LacksChild d r0 x0 proxies o) e r0 r1 x0 x1)
      (λ e was.
      refused_later d ⊥ ⊥ (LacksChild d r0 x0 proxies o) r0 r0 r1 x0 x0 x1 (leaves_same refl) (still_runs r0 runs) (omega arith) (λ bad. bad) (λ bad. bad)
      (λ lacks. subst (λ (c : Option PieceChild). LacksChild d r0 x0 proxies c) (sym asked) (proxy, there, lacks)) e was) refused

-- The way to a node, and with it the ways to each of its children.
pub record IsSeekingBelow {D : Type 0} (d : Ghosts D) (r0 r1 : Records) (x0 x1 : D) (root : RecordPlace) (path : List ℕ) (place : RecordPlace) (roots member : ℕ) (rest : List ℕ) : Type 0 where
  pub own : IsSeeking d r0 r1 x0 x1 root path place roots member rest
  pub below : (position : ℕ) → IsSeeking d r0 r1 x0 x1 root (path ++ position ∷ []) place roots member (rest ++ position ∷ [])

module _ {D : Type 0} {d : Ghosts D} {r0 : Records} {x0 : D} {root : RecordPlace} where
  -- the kind of the node where the way to a child ends
  kind_inside : {r1 : Records} {x1 : D} {place : RecordPlace} {roots member : ℕ} {rest : List ℕ} (path : List ℕ) (position : ℕ) → IsSeeking d r0 r1 x0 x1 root (path ++ position ∷ []) place roots member rest → (piece : Piece) → IsPieceAt d r1 x1 place roots piece
      → (t : GappedTree) (f : ℕ) → reached_in piece member rest ≡ Inside t f → OfEach d r0 x0 root (λ document. Some t.node.node.kind ≡ kind_below (tree_of document) path position)
  kind_inside path position sought piece at t f e document h = sym (kind_there sought piece at t f e document h)

  kind_missing : {r1 : Records} {x1 : D} {place : RecordPlace} {roots member : ℕ} {rest : List ℕ} (path : List ℕ) (position : ℕ) → IsSeeking d r0 r1 x0 x1 root (path ++ position ∷ []) place roots member rest → (piece : Piece) → IsPieceAt d r1 x1 place roots piece
      → reached_in piece member rest ≡ Missing → OfEach d r0 x0 root (λ document. None ≡ kind_below (tree_of document) path position)
  kind_missing path position sought piece at e document h = sym (ap (λ (o : Option OrderedTree). option_map (λ (x : OrderedTree). x.node.kind) o) (finds_none sought piece at e document h))

  kind_of_root : {r1 : Records} {x1 : D} {place : RecordPlace} {roots member : ℕ} (path : List ℕ) (position : ℕ) → IsSeeking d r0 r1 x0 x1 root (path ++ position ∷ []) place roots member [] → (piece : Piece) → IsValidPiece piece → IsPieceAt d r1 x1 place roots piece
      → (end : Reached) → reached_in piece member [] ≡ end → OfEach d r0 x0 root (λ document. kind_reached end ≡ kind_below (tree_of document) path position)
  kind_of_root path position sought piece whole at (Inside t f) e = kind_inside path position sought piece at t f e
  kind_of_root {member = member} path position sought piece whole at (Outside i n u) e = absurd (let falls = path_falls piece member [] i n u whole e in let some = falls.0 in let few = falls.1 in omega (arith, some, few))
  kind_of_root path position sought piece whole at Missing e = kind_missing path position sought piece at e

module _ {D : Type 0} {d : Ghosts D} {r0 : Records} {x0 : D} {root : RecordPlace} {path : List ℕ} where
  pub below_begins : IsSeekingBelow d r0 r0 x0 x0 root path root 1 0 path
  below_begins = record { own = seek_begins; below = λ position. seek_begins }

  -- no page was read but those on the path, with those of the next piece
  pub below_reads : {r1 : Records} {x1 : D} (x2 : D) {place : RecordPlace} {roots member : ℕ} {rest : List ℕ} → IsSeekingBelow d r0 r1 x0 x1 root path place roots member rest → ReadsPiece d r1 x1 x2 place → (asked : Option ℕ) → length path ≤ deepest
      → (document : CutTree) (h : HasDocument d r0 x0 root document) → ReadsAlong h.now root (way_on path asked) (d.reads x0) (d.reads x2)
  below_reads x2 seeking own None short = seek_reads x2 seeking.own short own
  below_reads x2 {rest = rest} seeking own (Some position) short =
      let sought = seeking.below position in
      let few : sought.levels + length (rest ++ position ∷ []) ≤ length (path ++ position ∷ []) = sought.fewer in
      let left = length-append rest (position ∷ []) in
      let long = length-append path (position ∷ []) in
      seek_reads_within x2 sought (omega (arith, few, left, long, short)) own

  module _ {r1 : Records} {x1 : D} {place : RecordPlace} {roots member : ℕ} {rest : List ℕ} (seeking : IsSeekingBelow d r0 r1 x0 x1 root path place roots member rest)
      (piece : Piece) (is : IsPieceAt d r1 x1 place roots piece) {r2 : Records} {x2 : D} (runs : has_ended r1 ≡ false) (stays : LeavesRecords r1 r2) (still : IsStill d x1 x2) (own : ReadsPiece d r1 x1 x2 place) (valid : IsValidPiece piece) where
    pub below_goes_on : (proxy : Proxy) (index next used : ℕ) → reached_in piece member rest ≡ Outside index next used → slice_get piece.proxies index ≡ Some proxy
        → IsSeekingBelow d r0 r2 x0 x2 root path (place_named proxy) proxy.roots next (drop used rest)
    below_goes_on proxy index next used e there = record {
      own = seek_goes_on seeking.own piece is runs stays still own valid proxy index next used e there;
      below = λ position.
          subst (λ (r : List ℕ). IsSeeking d r0 r2 x0 x2 root (path ++ position ∷ []) (place_named proxy) proxy.roots next r)
          (drop-append-le used rest (position ∷ []) (seek_falls seeking.own piece is index next used valid e).1)
          (seek_goes_on (seeking.below position) piece is runs stays still own valid proxy index next used
          (reached_on piece.proxies 0 rest (position ∷ []) (slice_get (children_of piece.proxies 0 piece.body.roots) member) index next used e) there);
    }

    -- The path ends at a tree of the piece:
    module _ (tree : GappedTree) (first : ℕ) (leads : reached_in piece member rest ≡ Inside tree first) where
      below_leads : (position : ℕ) (o : Option PieceChild) → child_asked piece.proxies tree first (Some position) ≡ o → reached_in piece member (rest ++ position ∷ []) ≡ reached piece.proxies (0 + length rest + 1) [] o
      below_leads position o e =
          reached_below piece.proxies 0 rest position (slice_get (children_of piece.proxies 0 piece.body.roots) member) tree first leads
          ∙ ap (λ (x : Option PieceChild). reached piece.proxies (0 + length rest + 1) [] x) e

      -- a child in the record of a proxy
      root_sought : (position : ℕ) (proxy : Proxy) (index next : ℕ) → child_asked piece.proxies tree first (Some position) ≡ Some (Kept index next) → slice_get piece.proxies index ≡ Some proxy
          → IsSeeking d r0 r2 x0 x2 root (path ++ position ∷ []) (place_named proxy) proxy.roots next []
      root_sought position proxy index next e there =
          let one : 0 + length rest + 1 ≡ length rest + 1 = omega arith in
          subst (λ (r : List ℕ). IsSeeking d r0 r2 x0 x2 root (path ++ position ∷ []) (place_named proxy) proxy.roots next r)
          (ap (λ (n : ℕ). drop n (rest ++ position ∷ [])) one ∙ drop-append-add rest (position ∷ []) 1)
          (seek_goes_on (seeking.below position) piece is runs stays still own valid proxy index next (0 + length rest + 1) (below_leads position (Some (Kept index next)) e) there)

      -- what was told of a child is so in each document
      kind_of : (position : ℕ) (o : Option PieceChild) → child_asked piece.proxies tree first (Some position) ≡ o → (kind : Option Kind) → IsKindOf d r2 x2 piece.proxies o kind → OfEach d r0 x0 root (λ document. kind ≡ kind_below (tree_of document) path position)
      kind_of position None e kind tells document h = tells ∙ kind_missing path position (seeking.below position) piece is (below_leads position None e) document h
      kind_of position (Some (Own t f)) e kind tells document h = tells ∙ kind_inside path position (seeking.below position) piece is t f (below_leads position (Some (Own t f)) e) document h
      kind_of position (Some (Kept index next)) e kind (proxy, there, inner) document h =
          (inner.3 ∙ kind_of_root path position (root_sought position proxy index next e there) inner.0 inner.1 inner.2 (reached_in inner.0 next []) refl document h)

      pub kind_found : (asked : Option ℕ) (kind : Option Kind) → IsKindOf d r2 x2 piece.proxies (child_asked piece.proxies tree first asked) kind → OfEach d r0 x0 root (λ document. IfSome asked (λ position. kind ≡ kind_below (tree_of document) path position))
      kind_found None kind tells document h = tt
      kind_found (Some position) kind tells document h = kind_of position (child_asked piece.proxies tree first (Some position)) refl kind tells document h

      -- nor is there a document where the child's record is missing
      lacks : (position : ℕ) (o : Option PieceChild) → child_asked piece.proxies tree first (Some position) ≡ o → LacksChild d r2 x2 piece.proxies o → HoldsNoDocument d r0 x0 root
      lacks position None e none = absurd none
      lacks position (Some (Own t f)) e none = absurd none
      lacks position (Some (Kept index next)) e (proxy, there, none) = λ document h. let on = (root_sought position proxy index next e there).on document h in none on.members on.there on.as_many

      lacks_child : (asked : Option ℕ) → LacksChild d r2 x2 piece.proxies (child_asked piece.proxies tree first asked) → HoldsNoDocument d r0 x0 root
      lacks_child None none = absurd none
      lacks_child (Some position) none = lacks position (child_asked piece.proxies tree first (Some position)) refl none

      pub child_refused : (r3 : Records) (x3 : D) (asked : Option ℕ) (Nowhere : Type 0) (e : NavError) → IsRefused d ⊥ ⊥ (LacksChild d r2 x2 piece.proxies (child_asked piece.proxies tree first asked)) e r2 r3 x2 x3
          → IsRefused d Nowhere ⊥ (HoldsNoDocument d r0 x0 root) e r0 r3 x0 x3
      child_refused r3 x3 asked Nowhere e refused =
          let all = leaves_add_up seeking.own.stays stays in
          let later = still_then seeking.own.still still in
          refused_later d Nowhere ⊥ (HoldsNoDocument d r0 x0 root) r0 r2 r3 x0 x2 x3 all (still_runs r0 (sym (seeking.own.stays).ended_stays ∙ runs)) later.faults_later absurd (λ bad. bad) (lacks_child asked) e refused

      -- No page was read but those on the path to the child. Where a document has the child it is no deeper than its levels.
      root_shallow : (position : ℕ) (proxy : Proxy) (next : ℕ) (sought : IsSeeking d r0 r2 x0 x2 root (path ++ position ∷ []) (place_named proxy) proxy.roots next []) → (document : CutTree) → HasDocument d r0 x0 root document → sought.levels ≤ deepest
      root_shallow position proxy next sought document h =
          let few : sought.levels + 0 ≤ length (path ++ position ∷ []) = sought.fewer in
          elim (le_or deepest (length (path ++ position ∷ []))) [
            | inl deep ↦
                let on = sought.on document h in
                let within : next < trees (laid_forest on.members) = let w = on.within in omega (arith, w, trees-forest on.members) in
                absurd (child_there (laid_forest on.members) next within (sym on.same ∙ too_deep (path ++ position ∷ []) (tree_of document) h.laid.laid.is_document deep))
            | inr shallow ↦ omega (arith, few, shallow)
          ]

      child_reads : (x3 : D) (position : ℕ) (o : Option PieceChild) → child_asked piece.proxies tree first (Some position) ≡ o → length path ≤ deepest → ReadsChild d r2 x2 x3 piece.proxies o
          → (document : CutTree) (h : HasDocument d r0 x0 root document) → ReadsAlong h.now root (path ++ position ∷ []) (d.reads x0) (d.reads x3)
      child_reads x3 position None e short less document h = reads_no_more (d.reads x3) less (below_reads x2 seeking own (Some position) short document h)
      child_reads x3 position (Some (Own t f)) e short less document h = reads_no_more (d.reads x3) less (below_reads x2 seeking own (Some position) short document h)
      child_reads x3 position (Some (Kept index next)) e short (proxy, there, more) document h =
          let sought = root_sought position proxy index next e there in
          seek_reads_within x3 sought (root_shallow position proxy next sought document h) more document h

      pub asked_reads : (x3 : D) (asked : Option ℕ) → length path ≤ deepest → ReadsChild d r2 x2 x3 piece.proxies (child_asked piece.proxies tree first asked)
          → (document : CutTree) (h : HasDocument d r0 x0 root document) → ReadsAlong h.now root (way_on path asked) (d.reads x0) (d.reads x3)
      asked_reads x3 None short less document h = reads_no_more (d.reads x3) less (below_reads x2 seeking own None short document h)
      asked_reads x3 (Some position) short reads document h = child_reads x3 position (child_asked piece.proxies tree first (Some position)) refl short reads document h
