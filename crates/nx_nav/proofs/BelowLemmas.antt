-- The subtree at a path: the tree of a piece where the path ends is laid out in the records, and a walk that has
-- room for the document has room for it.
use Rattle.std.proofs.Common.{◌≡◌, false, ℕ, zero, suc, ◌+◌, ◌-◌, ◌≤◌, List, [], ◌∷◌, ◌++◌, Option, None, Some, length, drop, refl, sym, ap, ◌∙◌, subst, arith, inl, inr}
use Rattle.std.proofs.lemmas.List.{append-nil}
use Rattle.std.specs.Prelude.{◌⊎◌, Bool, IsSome, true, option_and_then}
use Rattle.std.specs.List.{slice_get}
use Rattle.std.specs.Option.{option_map_or}
use Rattle.nx_host.specs.declared.disk.Disk.{Ghosts}
use Rattle.nx_host.specs.Still.{IsStill}
use Rattle.nx_host.proofs.DiskLemmas.{none_still}
use Rattle.nx_records.specs.Words.{Held}
use Rattle.nx_records.specs.declared.records.Records.{Records}
use Rattle.nx_records.specs.Records.{has_ended, LeavesRecords}
use Rattle.nx_tree.specs.Forest.{Forest, OrderedTree, Empty, Plant}
use Rattle.nx_tree.specs.Document.{depth, deepest}
use Rattle.nx_tree.specs.Edit.{at}
use Rattle.nx_piece.specs.declared.piece.Piece.{Piece}
use Rattle.nx_piece.specs.declared.piece.Proxy.{Proxy}
use Rattle.nx_piece.specs.Gapped.{Gapped, GappedTree, gapped_weight, gapped_width}
use Rattle.nx_piece.specs.Valid.{HaveRoots, IsValidPiece}
use Rattle.nx_piece.specs.Locate.{PieceChild, Inside, reached_in}
use Rattle.nx_piece.proofs.LocateLemmas.{ranged_drop}
use Rattle.nx_pyx.specs.Text.{tree_text}
use Rattle.nx_cuts.specs.Cut.{CutTree, Bare, Grown, Kept, tree_of}
use Rattle.nx_layouts.specs.Layout.{RecordPlace, LaidNode, Layout, in_record, laid_near, without_places, laid_forest, proxies_of, places_of, ArePlacedOnce}
use Rattle.nx_hold.specs.Contents.{far_pages}
use Rattle.nx_hold.specs.Documents.{HasDocument}
use Rattle.nx_hold.proofs.PieceLemmas.{some_same}
use Rattle.nx_nav.specs.declared.error.NavError.{NavError}
use Rattle.nx_nav.specs.declared.error.NavError.TheVariants as error
use Rattle.nx_nav.specs.declared.visited.Visited.{Visited}
use Rattle.nx_nav.specs.Below.{drawn_roots, drawn_at, TellsTree, TellsBelow, StopsBelow, found_steps}
use Rattle.nx_nav.specs.Along.{ReadsPiece, ReadsAlong}
use Rattle.nx_nav.specs.Beside.{child_asked, ReadsChild}
use Rattle.nx_nav.specs.Early.{ReadsGap}
use Rattle.nx_nav.specs.Nodes.{CanStand}
use Rattle.nx_nav.specs.Pages.{ReadsBelow, laid_at, laid_pages, pages_below}
use Rattle.nx_nav.specs.Parts.{HasNoInterval, IsPieceAt}
use Rattle.nx_nav.specs.Refusals.{HoldsNoneWithin, IsRefused, node_count}
use Rattle.nx_nav.specs.Steps.{WalkStep, Begin}
use Rattle.nx_nav.specs.Told.{told_text}
use Rattle.nx_nav.specs.Visited.{HasVisited}
use Rattle.nx_nav.specs.Walk.{HasTold, HasStopped, TellsEach, StopsInEach, IsWalkable, IsNone, IsTreeOf}
use Rattle.nx_nav.proofs.BesideLemmas.{IsSeekingBelow, below_reads, asked_reads}
use Rattle.nx_nav.proofs.ChildLemmas.{tree_stands}
use Rattle.nx_nav.proofs.EarlyLemmas.{first_kept}
use Rattle.nx_nav.proofs.NodeLemmas.{found_stands, path_within, nodes_within}
use Rattle.nx_nav.proofs.PartLemmas.{layout_later, layout_of}
use Rattle.nx_nav.proofs.RefusalLemmas.{refused_later}
use Rattle.nx_nav.proofs.SeekLemmas.{IsSeeking, leads, reads_no_more}
use Rattle.nx_nav.proofs.SplitLemmas.{drop_part}
use Rattle.nx_nav.proofs.TextLemmas.{below_text}
use Rattle.nx_nav.proofs.WayLemmas.{IsTeller, told_earlier, once_left, once_right}

-- Records that come once in a layout do so below each of its trees:
root_once : (l : Layout) (i : ℕ) (t : LaidNode × Layout) → slice_get (drawn_roots l) i ≡ Some t → ArePlacedOnce (places_of l) → ArePlacedOnce (places_of t.1)
root_once Bare i t e once = absurd (cc)
root_once (Grown n b s) zero t e once = subst (λ (x : LaidNode × Layout). ArePlacedOnce (places_of x.1)) (some_same e) (once_left (places_of b) (places_of s) once)
root_once (Grown n b s) (suc i) t e once = root_once s i t e (once_right (places_of b) (places_of s) once)
root_once (Kept p m s) i t e once =
    elim (parts (drawn_roots m) (drawn_roots s) i t e) [
      | inl front ↦ root_once m i t front (once_left (places_of m) (places_of s) once.1)
      | inr back ↦ root_once s back.0 t back.1 (once_right (places_of m) (places_of s) once.1)
    ]
  where
    parts : {A : Type 0} (front back : List A) (i : ℕ) (x : A) → slice_get (front ++ back) i ≡ Some x → (slice_get front i ≡ Some x) ⊎ ((j : ℕ) × (slice_get back j ≡ Some x))
    parts [] back i x e = inr (i, e)
    parts (y ∷ front) back zero x e = inl e
    parts (y ∷ front) back (suc i) x e = parts front back i x e

-- and so below the tree at a path
drawn_once : (path : List ℕ) (tree found : LaidNode × Layout) → drawn_at tree path ≡ Some found → ArePlacedOnce (places_of tree.1) → ArePlacedOnce (places_of found.1)
drawn_once [] tree found e once = subst (λ (x : LaidNode × Layout). ArePlacedOnce (places_of x.1)) (some_same e) once
drawn_once (position ∷ path) tree found e once =
    through (slice_get (drawn_roots tree.1) position) (λ t is on. drawn_once path t found on (root_once tree.1 position t is once)) e
  where
    through : (o : Option (LaidNode × Layout)) → ((t : LaidNode × Layout) → o ≡ Some t → drawn_at t path ≡ Some found → ArePlacedOnce (places_of found.1)) → option_and_then (λ t. drawn_at t path) o ≡ Some found → ArePlacedOnce (places_of found.1)
    through None each e = absurd (cc)
    through (Some t) each e = each t refl e

-- A tree of a piece is the one at a path of a document, and this is laid out below it.
pub record IsLaidThere {D : Type 0} {d : Ghosts D} {r0 : Records} {x0 : D} {root : RecordPlace} {document : CutTree} (h : HasDocument d r0 x0 root document) (path : List ℕ) (r : Records) (x : D) (tree : GappedTree) (proxies : List Proxy) : Type 0 where
  pub node : LaidNode
  pub below : Layout
  pub drawn : laid_at h path ≡ Some (node, below)
  pub is : at (tree_of document) path ≡ Some (record { node = node.node; below = laid_forest below })
  pub stands_for : IsTreeOf d r x tree proxies (Grown node below Bare)

module _ {D : Type 0} {d : Ghosts D} {r0 : Records} {x0 : D} {root : RecordPlace} {path : List ℕ} where
  module _ {r1 : Records} {x1 : D} {place : RecordPlace} {roots member : ℕ} {rest : List ℕ} (seeking : IsSeeking d r0 r1 x0 x1 root path place roots member rest) where
    -- the tree where the path ends in the piece that was read
    pub found_layout : {r2 : Records} {x2 : D} (piece : Piece) → IsPieceAt d r1 x1 place roots piece → LeavesRecords r1 r2 → IsStill d x1 x2 → (tree : GappedTree) (first : ℕ) → reached_in piece member rest ≡ Inside tree first
        → (document : CutTree) (h : HasDocument d r0 x0 root document) → IsLaidThere h path r2 x2 tree (drop first piece.proxies)
    found_layout {r2} {x2} piece is stays still tree first ends document h =
        let on = seeking.on document h in
        let own = leads seeking piece is document h (Inside tree first) ends in
        let same : piece.proxies ≡ proxies_of on.members = ap (λ (p : Piece). p.proxies) (is on.members on.there on.as_many) in
        let behind : drop first piece.proxies ≡ proxies_of own.below ++ own.back = ap (drop first) (same ∙ own.here) ∙ drop_part own.front (proxies_of own.below ++ own.back) first own.first_is in
        let part = layout_of on.there (Grown own.node own.below Bare) (own.read, own.held, tt) (own.light, tt) in
        record {
          node = own.node;
          below = own.below;
          drawn = own.drawn_is;
          is = own.is;
          stands_for = (own.node, own.below, refl, own.item, own.shape, (own.back, behind), layout_later {r0 = r1} {r1 = r2} stays still part);
        }

    -- the next record on the way wasn't read
    pub below_unread : (r2 : Records) (x2 : D) (Nowhere Unwritten : Type 0) (left : ℕ) (e : NavError)
        → IsRefused d ⊥ ⊥ (HasNoInterval d r1 x1 place roots) e r1 r2 x1 x2 → IsRefused d Nowhere Unwritten (IsSome (d.contents x2) → HoldsNoneWithin d r0 x0 root left) e r0 r2 x0 x2
    below_unread r2 x2 Nowhere Unwritten left e refused =
        refused_later d Nowhere Unwritten (IsSome (d.contents x2) → HoldsNoneWithin d r0 x0 root left) r0 r1 r2 x0 x1 x2 seeking.stays seeking.alone seeking.still.faults_later absurd absurd
        (λ none seen document h few. let on = seeking.on document h in none on.members on.there on.as_many) e refused

  -- no page was read but those on the way to its first child
  module _ {r1 : Records} {x1 : D} {place : RecordPlace} {roots member : ℕ} {rest : List ℕ} (seeking : IsSeekingBelow d r0 r1 x0 x1 root path place roots member rest) (piece : Piece) (is : IsPieceAt d r1 x1 place roots piece)
      {r2 : Records} {x2 : D} (runs : has_ended r1 ≡ false) (stays : LeavesRecords r1 r2) (still : IsStill d x1 x2) (own : ReadsPiece d r1 x1 x2 place) (valid : IsValidPiece piece) (tree : GappedTree) (first : ℕ) (ends : reached_in piece member rest ≡ Inside tree first) where
    gap_child : (x3 : D) → ReadsGap d r2 x2 x3 tree.below (drop first piece.proxies) → ReadsChild d r2 x2 x3 piece.proxies (child_asked piece.proxies tree first (Some 0))
    gap_child x3 (gap, (proxy, more, are, reads)) =
        let stands = tree_stands piece member rest tree first valid ends in
        let ranged : HaveRoots (proxy ∷ more) = subst HaveRoots are (ranged_drop first piece.proxies valid.ranged) in
        let kept = first_kept piece.proxies first tree.below proxy more are (stands.0).apart gap ranged.0 in
        subst (λ (c : Option PieceChild). ReadsChild d r2 x2 x3 piece.proxies c) (sym kept) (proxy, got_dropped piece.proxies first proxy more are, reads)
      where
        got_dropped : (xs : List Proxy) (n : ℕ) (x : Proxy) (more : List Proxy) → drop n xs ≡ x ∷ more → slice_get xs n ≡ Some x
        got_dropped [] zero x more e = absurd (cc)
        got_dropped [] (suc n) x more e = absurd (cc)
        got_dropped (y ∷ xs) zero x more e = cc
        got_dropped (y ∷ xs) (suc n) x more e = got_dropped xs n x more e

    pub found_reads : (x3 : D) → length path ≤ deepest → (d.reads x3 ≤ d.reads x2) ⊎ ReadsGap d r2 x2 x3 tree.below (drop first piece.proxies)
        → (document : CutTree) (h : HasDocument d r0 x0 root document) → ReadsAlong h.now root (path ++ 0 ∷ []) (d.reads x0) (d.reads x3)
    found_reads x3 short (inl few) document h = reads_no_more (d.reads x3) few (below_reads x2 seeking own (Some 0) short document h)
    found_reads x3 short (inr gap) document h = asked_reads seeking piece is runs stays still own valid tree first ends x3 (Some 0) short (gap_child x3 gap) document h

  -- a walk that has room for the document has room for it
  module _ {r : Records} {x : D} {tree : GappedTree} {proxies : List Proxy} where
    found_walkable : (left : ℕ) (v : Visited) → length path ≤ deepest → HasVisited v [] → (document : CutTree) (h : HasDocument d r0 x0 root document) → node_count document ≤ left → (there : IsLaidThere h path r x tree proxies)
        → IsWalkable (deepest + 1 - length path) left v (Grown there.node there.below Bare)
    found_walkable left v short fresh document h few there =
        let is_document = h.laid.laid.is_document in
        let level : deepest + 1 - (deepest + 1 - length path) ≡ length path = omega (arith, short) in
        let high = path_within path (tree_of document) (record { node = there.node.node; below = laid_forest there.below }) there.is in
        let many = nodes_within path (tree_of document) (record { node = there.node.node; below = laid_forest there.below }) there.is in
        let shallow : depth (tree_of document).below ≤ deepest = is_document.shallow in
        let places = places_of h.laid.layout in
        let own : ArePlacedOnce ((places ++ []) ++ []) = h.laid.laid.once.1 in
        let once : ArePlacedOnce places = subst ArePlacedOnce (append-nil (places ++ []) ∙ append-nil places) own in
        record {
          shallow = omega (arith, high, shallow, short);
          small = omega (arith, many, few);
          stands = subst (λ (n : ℕ). CanStand n (Plant there.node.node (laid_forest there.below) Empty)) (sym level) (found_stands (tree_of document) path (record { node = there.node.node; below = laid_forest there.below }) is_document there.is);
          earlier = [];
          were = fresh;
          once = subst ArePlacedOnce (sym (append-nil (places_of there.below))) (drawn_once path (laid_near document.node, h.laid.layout) (there.node, there.below) there.drawn once);
        }

    -- so where it gave up there is no such document
    pub found_none : (y : D) (left : ℕ) (v : Visited) → length path ≤ deepest → HasVisited v [] → ((document : CutTree) (h : HasDocument d r0 x0 root document) → IsLaidThere h path r x tree proxies)
        → IsNone d y (IsTreeOf d r x tree proxies) (deepest + 1 - length path) left v → IsSome (d.contents y) → HoldsNoneWithin d r0 x0 root left
    found_none y left v short fresh there none seen document h few =
        let at_path = there document h in
        none seen (Grown at_path.node at_path.below Bare) at_path.stands_for (found_walkable left v short fresh document h few at_path)

    -- no more pages were read than those on the way to it, and those that it stands on
    pub found_pages : {document : CutTree} {h : HasDocument d r0 x0 root document} (there : IsLaidThere h path r x tree proxies) (y z : D) → ReadsAlong h.now root path (d.reads x0) (d.reads y) → d.reads z ≤ d.reads y + laid_pages (Grown there.node there.below Bare)
        → ReadsBelow h.now root path (pages_below h path) (d.reads x0) (d.reads z)
    found_pages there y z along few =
        let same = ap (λ (o : Option (LaidNode × Layout)). option_map_or (λ (t : LaidNode × Layout). far_pages (in_record t.0) + laid_pages t.1) o 0) there.drawn in
        record { between = d.reads y; along = along; few = omega (arith, few, same) }

    -- what is told of it is told of the tree at the path
    found_tells : (asked : Bool) {document : CutTree} {h : HasDocument d r0 x0 root document} (there : IsLaidThere h path r x tree proxies) (piece : Piece) (told : List WalkStep)
        → told ≡ found_steps asked piece (Grown there.node there.below Bare) → (t : OrderedTree) × (at (tree_of document) path ≡ Some t) × TellsTree asked t told
    found_tells asked there piece told all = (
      record { node = there.node.node; below = laid_forest there.below },
      there.is,
      (gapped_width piece.body.roots, gapped_weight piece.body.roots, without_places there.below, refl, all),
    )

-- the record began that a view shows
pub begun_of : {A D : Type 0} (Told : A → D → List WalkStep → A → D → Type 0) {a b : A} {x : D} (piece : Piece) (items : Gapped) → items ≡ piece.body.roots → (roots : ℕ) → roots ≡ gapped_width items → Told a x (Begin roots (gapped_weight items) ∷ []) b x
    → Told a x (Begin (gapped_width piece.body.roots) (gapped_weight piece.body.roots) ∷ []) b x
begun_of Told {a} {b} {x} piece items same roots is begun =
    subst (λ (f : Gapped). Told a x (Begin (gapped_width f) (gapped_weight f) ∷ []) b x) same
    (subst (λ (n : ℕ). Told a x (Begin n (gapped_weight items) ∷ []) b x) is begun)

module _ {A D : Type 0} {d : Ghosts D} {Told : A → D → List WalkStep → A → D → Type 0} {Unwritten : D → D → Type 0} (teller : IsTeller d Told Unwritten) where
  -- A tree of a piece is told as the first of its record:
  module _ {P : Layout → Type 0} {a : A} {x : D} (asked : Bool) (piece : Piece) where
    -- the record didn't begin
    pub not_begun : StopsInEach d Told P (found_steps asked piece) a x x
    not_begun = record { told = []; last = a; goes = teller.asked a x x none_still; first = λ seen l p. (found_steps asked piece l, refl) }

    module _ {b : A} (begun : Told a x (Begin (gapped_width piece.body.roots) (gapped_weight piece.body.roots) ∷ []) b x) where
      pub found_stops : (y : D) → HasStopped d asked Told P b x y → StopsInEach d Told P (found_steps asked piece) a x y
      found_stops y has = record {
        told = Begin (gapped_width piece.body.roots) (gapped_weight piece.body.roots) ∷ has.told;
        last = has.last;
        goes = teller.join a b has.last x x y (Begin (gapped_width piece.body.roots) (gapped_weight piece.body.roots) ∷ []) has.told begun has.goes;
        first = λ seen l p.
            let more = has.first seen l p in
            (more.0, ap (λ s. Begin (gapped_width piece.body.roots) (gapped_weight piece.body.roots) ∷ s) more.1);
      }

      pub found_told : {left rest : ℕ} {v w : Visited} (c e : A) (y z : D) → HasTold d asked Told P b x left v c y rest w → Told c y [] e z → TellsEach d Told P (found_steps asked piece) a x e z
      found_told c e y z has finished = record {
        told = Begin (gapped_width piece.body.roots) (gapped_weight piece.body.roots) ∷ (has.told ++ []);
        goes = teller.join a b e x x z (Begin (gapped_width piece.body.roots) (gapped_weight piece.body.roots) ∷ []) (has.told ++ []) begun (teller.join b c e x y z has.told [] has.goes finished);
        all = λ seen l p.
            ap (λ s. Begin (gapped_width piece.body.roots) (gapped_weight piece.body.roots) ∷ s) (append-nil has.told ∙ (has.all (told_earlier teller finished seen) l p).0);
      }

      -- all was told, and then it wasn't written
      pub found_not_written : {left rest : ℕ} {v w : Visited} (c last : A) (y z : D) → HasTold d asked Told P b x left v c y rest w → Told c y [] last z → StopsInEach d Told P (found_steps asked piece) a x z
      found_not_written c last y z has finished =
          let all = found_told c last y z has finished in
          record { told = all.told; last = last; goes = all.goes; first = λ seen l p. ([], sym (all.all seen l p) ∙ sym (append-nil all.told)) }

  -- The way to the tree was asked for before:
  module _ {r0 : Records} {x0 x : D} {root : RecordPlace} {path : List ℕ} {a : A} (asked : Bool) (still : IsStill d x0 x) where
    pub below_untold : StopsBelow d asked Told r0 x0 root path a x
    below_untold = record { told = []; last = a; goes = teller.asked a x0 x still; first = λ seen document h. inl refl }

    module _ {r : Records} (piece : Piece) (tree : GappedTree) (proxies : List Proxy) (there : (document : CutTree) (h : HasDocument d r0 x0 root document) → IsLaidThere h path r x tree proxies) where
      pub below_told : (b : A) (y : D) → TellsEach d Told (IsTreeOf d r x tree proxies) (found_steps asked piece) a x b y → TellsBelow d asked Told r0 x0 root path a b y
      below_told b y has = record {
        told = has.told;
        goes = teller.join a a b x0 x y [] has.told (teller.asked a x0 x still) has.goes;
        all = λ seen document h.
            let at_path = there document h in
            found_tells asked at_path piece has.told (has.all seen (Grown at_path.node at_path.below Bare) at_path.stands_for);
      }

      pub below_stops : (y : D) → StopsInEach d Told (IsTreeOf d r x tree proxies) (found_steps asked piece) a x y → StopsBelow d asked Told r0 x0 root path a y
      below_stops y has = record {
        told = has.told;
        last = has.last;
        goes = teller.join a a has.last x0 x y [] has.told (teller.asked a x0 x still) has.goes;
        first = λ seen document h.
            let at_path = there document h in
            let all = found_steps asked piece (Grown at_path.node at_path.below Bare) in
            let tells = found_tells asked at_path piece all refl in
            let more = has.first seen (Grown at_path.node at_path.below Bare) at_path.stands_for in
            inr (tells.0, tells.1, (all, more.0, tells.2, more.1));
      }

-- the text of what is told of the tree at a path
pub has_tree_text : {D : Type 0} {d : Ghosts D} {r : Records} {x : D} {root : RecordPlace} {document : CutTree} → HasDocument d r x root document → (path : List ℕ) (tree : OrderedTree) (told : List WalkStep) → at (tree_of document) path ≡ Some tree → TellsTree true tree told
    → told_text told ≡ tree_text tree
has_tree_text {document = document} h path tree told is (roots, weight, below, same, all) =
    let stands = found_stands (tree_of document) path tree h.laid.laid.is_document is in
    ap told_text all
    ∙ below_text (length path) tree.node below (subst (λ (f : Forest). CanStand (length path) (Plant tree.node f Empty)) (sym same) stands)
    ∙ ap (λ (f : Forest). tree_text (record { node = tree.node; below = f })) same

-- nothing was read behind the way
pub reads_alone : {now : Held} {root : RecordPlace} {path : List ℕ} {below old new : ℕ} → ReadsAlong now root path old new → ReadsBelow now root path below old new
reads_alone {new = new} along = record { between = new; along = along; few = omega arith }

-- a refusal that leads nowhere is none of a call that has found the node
pub not_nowhere : {D : Type 0} (d : Ghosts D) (Unwritten Lacks : Type 0) (r0 r1 : Records) (x0 x1 : D) (e : NavError) → IsRefused d ⊥ Unwritten Lacks e r0 r1 x0 x1 → e ≡ error.NoNode → ⊥
not_nowhere d Unwritten Lacks r0 r1 x0 x1 e refused is = (subst (λ (x : NavError). IsRefused d ⊥ Unwritten Lacks x r0 r1 x0 x1) is refused).0
