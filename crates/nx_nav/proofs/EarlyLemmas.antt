-- What a walk has read while nothing was given.
use Rattle.std.proofs.Common.{◌≡◌, ◌+◌, ◌-◌, ◌≤◌, false, ℕ, suc, zero, List, [], ◌∷◌, ◌++◌, length, take, drop, Option, Some, refl, sym, ap, ◌∙◌, subst, arith, inl, inr}
use Rattle.std.specs.Prelude.{◌⊎◌, IsSome}
use Rattle.std.specs.List.{slice_get}
use Rattle.std.proofs.lemmas.List.{take-append-drop}
use Rattle.nx_host.specs.declared.disk.Disk.{Ghosts}
use Rattle.nx_host.specs.Host.{Appends}
use Rattle.nx_host.specs.Still.{IsStill}
use Rattle.nx_host.proofs.DiskLemmas.{none_still}
use Rattle.nx_records.specs.Words.{Held}
use Rattle.nx_records.specs.declared.records.Records.{Records}
use Rattle.nx_records.specs.Records.{StandsFor, LeavesRecords}
use Rattle.nx_records.proofs.LeaveLemmas.{leaves_stand, leaves_same}
use Rattle.nx_tree.specs.declared.node.Kind.{Kind}
use Rattle.nx_tree.specs.declared.node.Kind.TheVariants.{Doc, Element, Attribute, Text, Instruction}
use Rattle.nx_tree.specs.Document.{is_doc, deepest}
use Rattle.nx_piece.specs.declared.piece.Piece.{Piece}
use Rattle.nx_piece.specs.declared.piece.Proxy.{Proxy}
use Rattle.nx_piece.specs.PieceNode.{PieceNode}
use Rattle.nx_piece.specs.Gapped.{Gapped, GappedTree, End, Grow, Gap, gapped_width}
use Rattle.nx_piece.specs.Valid.{IsValidPiece, HaveRoots, AreApart}
use Rattle.nx_piece.specs.Locate as locate
use Rattle.nx_piece.specs.Locate.{PieceChild, Outside, reached, roots_from, kept_from, children_of}
use Rattle.nx_cuts.proofs.FeasibleLemmas.{le_or}
use Rattle.nx_cuts.specs.Cut.{CutTree, Grown, Kept, Bare}
use Rattle.nx_layouts.specs.Layout.{RecordPlace, laid_near, piece_of}
use Rattle.nx_hold.specs.Changes.{TakesPages, place_named}
use Rattle.nx_hold.specs.Documents.{HasDocument}
use Rattle.nx_hold.specs.Pieces.{HoldsPiece}
use Rattle.nx_nav.specs.Along.{LeadsThrough, ReadsPiece, ReadsAlong}
use Rattle.nx_nav.specs.Early.{LeavesOutput, ReadsAtMost, BeginsGap, KeepsAway, ReadsFirstOf, ReadsGap, ReadsTwo, ReadsInterval}
use Rattle.nx_nav.specs.EarlyLaws.{left_front, left_behind}
use Rattle.nx_nav.specs.Nodes.{CanBeTree, MayHaveParts}
use Rattle.nx_nav.specs.Parts.{IsPieceAt}
use Rattle.nx_nav.specs.Steps.{WalkStep}
use Rattle.nx_nav.proofs.PartLemmas.{stands_kept, document_held, document_same, interval_held}
use Rattle.nx_nav.proofs.WayLemmas.{IsTeller, told_stands}

-- what holds of a teller besides: what was given stays given, and while nothing is, it comes no further from giving something
pub record IsNearing {A D : Type 0} (d : Ghosts D) (Told : A → D → List WalkStep → A → D → Type 0) (Near : A → ℕ) : Type 0 where
  pub grows : (a b : A) (x y : D) (s : List WalkStep) → Told a x s b y → (more : List ℕ) × Appends more (d.beside x).output (d.beside y).output
  pub nearer : (a b : A) (x y : D) (s : List WalkStep) → Told a x s b y → LeavesOutput d x y → Near a ≤ Near b

-- a node below the root isn't one
no_doc : (kind : Kind) (name : List ℕ) (long : ℕ) → MayHaveParts kind name long → is_doc kind ≡ false
no_doc Doc name long may = absurd may
no_doc Element name long may = refl
no_doc Attribute name long may = refl
no_doc Text name long may = refl
no_doc Instruction name long may = refl

pub below_root : (depth : ℕ) (tree : GappedTree) → depth ≤ 256 → CanBeTree (deepest + 1 - depth) tree → is_doc tree.node.node.kind ≡ false
below_root depth tree shallow can =
    let level : 1 ≤ deepest + 1 - depth = omega (arith, shallow) in
    no_doc tree.node.node.kind tree.node.node.name _ (((can.0).below level).0)

no_items : (items : Gapped) → gapped_width items ≡ 0 → items ≡ End
no_items End none = refl
no_items (Grow node below beside) none = absurd (omega (arith, none))
no_items (Gap count beside) none = absurd (omega (arith, none))

-- an output that is as it was stays as it is
pub left_still : {D : Type 0} {d : Ghosts D} {x y : D} → LeavesOutput d x y → LeavesOutput d y y
left_still left = record { told = left.told; output = left.output; was = left.is; is = left.is }

module _ {D : Type 0} {d : Ghosts D} where
  -- no more was read behind it
  pub piece_stays : {r : Records} {place : RecordPlace} (x y z : D) → d.reads z ≤ d.reads y → ReadsPiece d r x y place → ReadsPiece d r x z place
  piece_stays x y z less (pages, few, are) = (pages, omega (arith, less, few), are)

  pub first_stays : {r : Records} {proxies : List Proxy} (x y z : D) → d.reads z ≤ d.reads y → ReadsFirstOf d r x y proxies → ReadsFirstOf d r x z proxies
  first_stays x y z less (proxy, more, are, piece) = (proxy, more, are, piece_stays x y z less piece)

-- ... than a gap, where no more was read behind it
pub gap_stays : {D : Type 0} {d : Ghosts D} {r : Records} {near depth : ℕ} (x y z : D) (items : Gapped) (proxies : List Proxy) → d.reads z ≤ d.reads y → ReadsAtMost near (d.reads x) (d.reads y) ((depth ≡ 257) × ReadsGap d r x y items proxies)
    → (d.reads z ≤ d.reads x) ⊎ ReadsGap d r x z items proxies
gap_stays x y z items proxies less (inl few) = inl (omega (arith, few, less))
gap_stays x y z items proxies less (inr (low, (deep, gap))) = inr (gap.0, first_stays x y z less gap.1)

-- the first child that proxies stand for
first_root : (index roots : ℕ) (beside behind : List PieceChild) → 1 ≤ roots → slice_get ((roots_from index 0 roots ++ beside) ++ behind) 0 ≡ Some (locate.Kept index 0)
first_root index zero beside behind some = absurd (omega (arith, some))
first_root index (suc roots) beside behind some = refl

pub first_kept : (proxies : List Proxy) (first : ℕ) (below : Gapped) (proxy : Proxy) (more : List Proxy) → drop first proxies ≡ proxy ∷ more → AreApart below → BeginsGap below → 1 ≤ proxy.roots → slice_get (children_of proxies first below) 0 ≡ Some (locate.Kept first 0)
first_kept proxies first End proxy more are apart gap some = absurd gap
first_kept proxies first (Grow node below beside) proxy more are apart gap some = absurd gap
first_kept proxies first (Gap zero beside) proxy more are apart gap some = absurd (let none : 1 ≤ 0 = apart.0 in omega (arith, none))
first_kept proxies first (Gap (suc count) beside) proxy more are apart gap some =
    let behind = children_of proxies (first + suc count) beside in
    ap (λ ps. slice_get (kept_from first (take (suc count) ps) ++ behind) 0) are ∙ first_root first proxy.roots (kept_from (first + 1) (take count more)) behind some

-- where the path to it leads
leads_outside : (roots : Gapped) (proxies : List Proxy) (node : PieceNode) (below beside : Gapped) (proxy : Proxy) (more : List Proxy) → roots ≡ Grow node below beside → proxies ≡ proxy ∷ more → AreApart roots → BeginsGap below → HaveRoots proxies
    → reached proxies 0 (0 ∷ []) (slice_get (children_of proxies 0 roots) 0) ≡ Outside 0 0 1
leads_outside roots proxies node below beside proxy more are is apart gap have =
    let both : AreApart (Grow node below beside) = subst AreApart are apart in
    let some : HaveRoots (proxy ∷ more) = subst HaveRoots is have in
    let own : reached (proxy ∷ more) 0 (0 ∷ []) (slice_get (children_of (proxy ∷ more) 0 (Grow node below beside)) 0) ≡ Outside 0 0 1 =
    ap (λ (child : Option PieceChild). reached (proxy ∷ more) 1 [] child) (first_kept (proxy ∷ more) 0 below proxy more refl both.0 gap some.0) in
    subst (λ (f : Gapped). reached proxies 0 (0 ∷ []) (slice_get (children_of proxies 0 f) 0) ≡ Outside 0 0 1) (sym are)
    (subst (λ (ps : List Proxy). reached ps 0 (0 ∷ []) (slice_get (children_of ps 0 (Grow node below beside)) 0) ≡ Outside 0 0 1) (sym is) own)

-- a piece that is held in which the first child is kept elsewhere leads on to its record
leads_away : (now : Held) (root : RecordPlace) (piece : Piece) (proxy : Proxy) → HoldsPiece now root piece → KeepsAway piece proxy → LeadsThrough now root 0 (0 ∷ []) (root ∷ place_named proxy ∷ [])
leads_away now root piece proxy holds away = (
  refl,
  (
    piece,
    0,
    0,
    1,
    proxy,
    holds,
    leads_outside piece.body.roots piece.proxies (away.root).node (away.root).below away.beside proxy away.more away.roots away.proxies ((away.valid).body).apart away.gap (away.valid).ranged,
    ap (λ (ps : List Proxy). slice_get ps 0) away.proxies,
    refl,
  ),
)

-- the record of a document's root holds its piece
holds_root : {D : Type 0} {d : Ghosts D} {r : Records} {x : D} {root : RecordPlace} {document : CutTree} (h : HasDocument d r x root document) (piece : Piece) → IsPieceAt d r x root 1 piece → HoldsPiece h.now root piece
holds_root {root = root} {document = document} h piece is =
    let members = Grown (laid_near document.node) h.laid.layout Bare in
    let there = document_held h in
    let held : HoldsPiece h.now root (piece_of members) = subst (λ (now : Held). HoldsPiece now root (piece_of members)) (document_same h) (interval_held there) in
    subst (λ (p : Piece). HoldsPiece h.now root p) (sym (is members there refl)) held

-- no more than the pieces on the way to the first child
module _ {D : Type 0} {d : Ghosts D} {r : Records} {x y : D} {root : RecordPlace} (document : CutTree) (h : HasDocument d r x root document) where
  first_few : (pages : ℕ) → TakesPages h.now root pages → d.reads y ≤ d.reads x + pages → ReadsAlong h.now root (0 ∷ []) (d.reads x) (d.reads y)
  first_few pages takes few = record {
    places = root ∷ [];
    lead = refl;
    levels = omega arith;
    pages = pages;
    are = (pages, 0, takes, refl, omega arith);
    few = few;
  }

  pub first_along : (near depth : ℕ) → ReadsAtMost near (d.reads x) (d.reads y) (ReadsInterval d r x y root 1 depth) → ReadsAlong h.now root (0 ∷ []) (d.reads x) (d.reads y)
  first_along near depth (inl few) = first_few 1 (inl refl) (omega (arith, few))
  first_along near depth (inr (low, inl (pages, few, are))) = first_few pages (are h.saved h.now h.stands) few
  first_along near depth (inr (low, inr (deep, two))) =
      let takes = two.are h.saved h.now h.stands in
      let few = two.few in
      record {
        places = root ∷ place_named two.proxy ∷ [];
        lead = leads_away h.now root two.piece two.proxy (holds_root h two.piece two.is) two.away;
        levels = omega arith;
        pages = two.own + two.extra;
        are = (two.own, two.extra, takes.0, (two.extra, 0, takes.1, refl, omega arith), refl);
        few = omega (arith, few);
      }

module _ {A D : Type 0} (d : Ghosts D) (Near : A → ℕ) where
  -- How far items were told: no item but empty gaps, with nothing read, or one that gave something to be given.
  abbrev pub ItemsRead : Records → (x y : D) → (a b : A) → (items left : Gapped) → (proxies rest : List Proxy) → Type 0
  ItemsRead r x y a b items left proxies rest =
      ((d.reads y ≤ d.reads x) × (rest ≡ proxies) × (BeginsGap left → BeginsGap items)) ⊎ ((3 ≤ Near b) × ReadsAtMost (Near a) (d.reads x) (d.reads y) (ReadsGap d r x y items proxies))

  -- How far a row of intervals was told: none, or one that gave something to be given.
  abbrev pub RowRead : Records → (x y : D) → (a b : A) → (index : ℕ) → List Proxy → Type 0
  RowRead r x y a b index proxies = ((index ≡ 0) × (d.reads y ≤ d.reads x)) ⊎ ((3 ≤ Near b) × ReadsAtMost (Near a) (d.reads x) (d.reads y) (ReadsFirstOf d r x y proxies))

  -- How far the roots of an interval were told: none, with its piece read; or one that gave something to be given; or the root of a document.
  pub record IsUntold (r : Records) (x y : D) (b : A) (place : RecordPlace) (roots : ℕ) (left : Gapped) (proxies : List Proxy) : Type 0 where
    pub piece : Piece
    pub is : IsPieceAt d r x place roots piece
    pub valid : IsValidPiece piece
    pub wide : gapped_width piece.body.roots ≡ roots
    pub items : left ≡ piece.body.roots
    pub proxies_are : proxies ≡ piece.proxies
    pub begins : 2 ≤ Near b
    pub read : ReadsPiece d r x y place

  abbrev pub RootsRead : Records → (x y : D) → (a b : A) → (place : RecordPlace) → (roots depth : ℕ) → (left : Gapped) → (proxies : List Proxy) → Type 0
  RootsRead r x y a b place roots depth left proxies =
      (Near a ≤ 2) × (IsUntold r x y b place roots left proxies ⊎ (((depth ≤ 256) × (3 ≤ Near b) × ReadsPiece d r x y place) ⊎ ((depth ≡ 257) × (left ≡ End) × ReadsInterval d r x y place roots depth)))

none_left : (proxies : List Proxy) → length proxies ≤ 0 → proxies ≡ []
none_left [] few = refl
none_left (proxy ∷ more) few = absurd (omega (arith, few))

-- all of them are told
module _ {A D : Type 0} (d : Ghosts D) (Near : A → ℕ) (r : Records) (x y : D) (a b : A) where
  pub items_read : (items left : Gapped) (proxies rest : List Proxy) → ItemsRead d Near r x y a b items left proxies rest → ReadsAtMost (Near a) (d.reads x) (d.reads y) (ReadsGap d r x y items proxies)
  items_read items left proxies rest (inl none) = inl none.0
  items_read items left proxies rest (inr some) = some.1

  pub row_read : (index : ℕ) (proxies : List Proxy) → RowRead d Near r x y a b index proxies → ReadsAtMost (Near a) (d.reads x) (d.reads y) (ReadsFirstOf d r x y proxies)
  row_read index proxies (inl none) = inl none.1
  row_read index proxies (inr some) = some.1

  pub row_near : (index : ℕ) (proxies : List Proxy) → length proxies ≤ index → RowRead d Near r x y a b index proxies → (proxies ≡ []) ⊎ (3 ≤ Near b)
  row_near index proxies all (inl none) = inl (none_left proxies (let first : index ≡ 0 = none.0 in omega (arith, all, first)))
  row_near index proxies all (inr some) = inr some.0

  pub roots_read : (place : RecordPlace) (roots depth : ℕ) (left : Gapped) (proxies : List Proxy) → RootsRead d Near r x y a b place roots depth left proxies → ReadsAtMost (Near a) (d.reads x) (d.reads y) (ReadsInterval d r x y place roots depth)
  roots_read place roots depth left proxies (low, inl untold) = inr (low, inl untold.read)
  roots_read place roots depth left proxies (low, inr (inl told_one)) = inr (low, inl told_one.2)
  roots_read place roots depth left proxies (low, inr (inr over)) = inr (low, over.2)

  pub roots_near : (place : RecordPlace) (roots depth : ℕ) (left : Gapped) (proxies : List Proxy) → left ≡ End → 1 ≤ roots → RootsRead d Near r x y a b place roots depth left proxies → depth ≤ 256 → 3 ≤ Near b
  roots_near place roots depth left proxies none some (low, inl untold) shallow = absurd (let wide = ap gapped_width (sym none ∙ untold.items) ∙ untold.wide in omega (arith, wide, some))
  roots_near place roots depth left proxies none some (low, inr (inl told_one)) shallow = told_one.1
  roots_near place roots depth left proxies none some (low, inr (inr over)) shallow = absurd (let deep : depth ≡ 257 = over.0 in omega (arith, deep, shallow))

module _ {A D : Type 0} {d : Ghosts D} {Told : A → D → List WalkStep → A → D → Type 0} {Unwritten : D → D → Type 0} (teller : IsTeller d Told Unwritten) {Near : A → ℕ} (nears : IsNearing d Told Near) where
  -- an output that is as it was at the end was so between
  pub first_left : {a b c : A} {x y z : D} {s t : List WalkStep} → Told a x s b y → Told b y t c z → LeavesOutput d x z → LeavesOutput d x y
  first_left {a} {b} {c} {x} {y} {z} {s} {t} first second left =
      let one = nears.grows a b x y s first in
      let other = nears.grows b c y z t second in
      left_front one.0 other.0 one.1 other.1 (teller.keeps b c y z t second) left

  pub last_left : {a b c : A} {x y z : D} {s t : List WalkStep} → Told a x s b y → Told b y t c z → LeavesOutput d x z → LeavesOutput d y z
  last_left {a} {b} {c} {x} {y} {z} {s} {t} first second left =
      let one = nears.grows a b x y s first in
      let other = nears.grows b c y z t second in
      left_behind one.0 other.0 one.1 other.1 left

  pub later_near : {a b : A} {x y : D} {s : List WalkStep} → Told a x s b y → LeavesOutput d x y → Near a ≤ Near b
  later_near {a} {b} {x} {y} {s} told left = nears.nearer a b x y s told left

  -- what waited at a pause was given
  pub waits_no_more : {a b c e : A} {x y z w : D} {s t : List WalkStep} → Told a x s b y → Told b y [] c z → (3 ≤ Near b → LeavesOutput d y z → ⊥) → Told c z t e w → LeavesOutput d x w → 3 ≤ Near a → ⊥
  waits_no_more {a} {b} {c} {e} {x} {y} {z} {w} {s} {t} before paused gives behind left waits =
      let rest = teller.join b c e y z w [] t paused behind in
      let later = later_near before (first_left before rest left) in
      gives (omega (arith, later, waits)) (first_left paused behind (last_left before rest left))

  -- what records and disk stood for they stand for
  held_on : {a b : A} {x y : D} {s : List WalkStep} {r0 r1 : Records} {saved now : Held} → Told a x s b y → LeavesRecords r0 r1 → IsSome (d.contents y) → StandsFor d r0 x saved now → StandsFor d r1 y saved now
  held_on {a} {b} {x} {y} {s} {r0} {r1} told same seen stands =
      leaves_stand {r0 = r0} {r1 = r1} same none_still (stands_kept {r = r0} (teller.keeps a b x y s told) seen (λ i left. teller.fewer a b x y s i told left) stands)

  -- A piece that was read later was read from the beginning on, where nothing was read before.
  module _ {a b : A} {x y z : D} {s : List WalkStep} {r0 r1 : Records} (told : Told a x s b y) (same : LeavesRecords r0 r1) (seen : IsSome (d.contents y)) (less : d.reads y ≤ d.reads x) where
    pub piece_before : {place : RecordPlace} → ReadsPiece d r1 y z place → ReadsPiece d r0 x z place
    piece_before (pages, few, are) = (pages, omega (arith, few, less), λ saved now stands. are saved now (held_on {r0 = r0} {r1 = r1} told same seen stands))

    pub first_before : {proxies : List Proxy} → ReadsFirstOf d r1 y z proxies → ReadsFirstOf d r0 x z proxies
    first_before (proxy, more, are, piece) = (proxy, more, are, piece_before piece)

  -- Below a node that has begun:
  module _ {a b c : A} {x y z : D} {s t : List WalkStep} {r0 r1 : Records} (begun : Told a x s b y) (behind : Told b y t c z) (same : LeavesRecords r0 r1) (depth : ℕ) (levels : depth ≤ 257) (items : Gapped) (proxies : List Proxy) where
    pub tree_first : (LeavesOutput d x y → 2 ≤ Near a → d.reads y ≤ d.reads x) → (LeavesOutput d x y → 2 ≤ Near a → depth ≤ 256 → 3 ≤ Near b)
        → (LeavesOutput d y z → 2 ≤ Near b → ReadsAtMost (Near b) (d.reads y) (d.reads z) (ReadsGap d r1 y z items proxies))
        → LeavesOutput d x z → 2 ≤ Near a → ReadsAtMost (Near a) (d.reads x) (d.reads z) ((depth ≡ 257) × ReadsGap d r0 x z items proxies)
    tree_first unread near first left begins =
        let front = first_left begun behind left in
        let less = unread front begins in
        let later = later_near begun front in
        elim (first (last_left begun behind left) (omega (arith, later, begins))) [
          | inl few ↦ inl (omega (arith, few, less))
          | inr more ↦
              let low = more.0 in
              elim (le_or 256 depth) [
                | inl deep ↦ inr (omega (arith, low, later), (omega (arith, deep, levels), ((more.1).0, first_before begun same front.told less (more.1).1)))
                | inr shallow ↦ absurd (let three = near front begins shallow in omega (arith, three, low))
              ]
        ]

    pub tree_near : (LeavesOutput d x y → 2 ≤ Near a → depth ≤ 256 → 3 ≤ Near b) → LeavesOutput d x z → 2 ≤ Near a → depth ≤ 256 → 3 ≤ Near c
    tree_near near left begins shallow =
        let three = near (first_left begun behind left) begins shallow in
        let later = later_near behind (last_left begun behind left) in
        omega (arith, three, later)

  module _ {a b c : A} {x y z : D} {s t : List WalkStep} {r0 r1 : Records} (items left : Gapped) (proxies rest : List Proxy) (told : Told a x s b y) (behind : Told b y t c z) (same : LeavesRecords r0 r1)
      (read : LeavesOutput d x y → 2 ≤ Near a → ItemsRead d Near r0 x y a b items left proxies rest) where
    -- a tree behind them
    pub items_tree : (depth : ℕ) → depth ≤ 256 → (More : Type 0) → (LeavesOutput d y z → 2 ≤ Near b → ReadsAtMost (Near b) (d.reads y) (d.reads z) ((depth ≡ 257) × More))
        → LeavesOutput d x z → 2 ≤ Near a → ReadsAtMost (Near a) (d.reads x) (d.reads z) (ReadsGap d r0 x z items proxies)
    items_tree depth shallow More first output begins =
        let front = first_left told behind output in
        let later = later_near told front in
        let tree = first (last_left told behind output) (omega (arith, later, begins)) in
        elim tree [
          | inr more ↦ absurd (let deep : depth ≡ 257 = (more.1).0 in omega (arith, deep, shallow))
          | inl few ↦ elim (read front begins) [
            | inl none ↦ inl (let less = none.0 in omega (arith, few, less))
            | inr some ↦ elim some.1 [
              | inl less ↦ inl (omega (arith, few, less))
              | inr gap ↦ inr (gap.0, ((gap.1).0, first_stays x y z few (gap.1).1))
            ]
          ]
        ]

    pub items_tree_goes : (depth : ℕ) → depth ≤ 256 → (More : Type 0) → (LeavesOutput d y z → 2 ≤ Near b → ReadsAtMost (Near b) (d.reads y) (d.reads z) ((depth ≡ 257) × More)) → (LeavesOutput d y z → 2 ≤ Near b → depth ≤ 256 → 3 ≤ Near c)
        → (beside : Gapped) (after : List Proxy) → LeavesOutput d x z → 2 ≤ Near a → ItemsRead d Near r0 x z a c items beside proxies after
    items_tree_goes depth shallow More first near beside after output begins =
        let later = later_near told (first_left told behind output) in
        inr (near (last_left told behind output) (omega (arith, later, begins)) shallow, items_tree depth shallow More first output begins)

    -- a gap behind them
    pub items_row : (count : ℕ) (beside : Gapped) (here : List Proxy) → left ≡ Gap count beside → here ≡ take count rest → (LeavesOutput d y z → 2 ≤ Near b → ReadsAtMost (Near b) (d.reads y) (d.reads z) (ReadsFirstOf d r1 y z here))
        → LeavesOutput d x z → 2 ≤ Near a → ReadsAtMost (Near a) (d.reads x) (d.reads z) (ReadsGap d r0 x z items proxies)
    items_row count beside here is taken first output begins =
        let front = first_left told behind output in
        let later = later_near told front in
        let row = first (last_left told behind output) (omega (arith, later, begins)) in
        elim (read front begins) [
          | inl none ↦ elim row [
            | inl few ↦ inl (let less = none.0 in omega (arith, few, less))
            | inr more ↦
                let low = more.0 in
                let piece = first_before told same front.told none.0 more.1 in
                let whole : proxies ≡ piece.0 ∷ (piece.1 ++ drop count rest) =
                sym none.1 ∙ sym (take-append-drop count rest) ∙ ap (λ ps. ps ++ drop count rest) (sym taken ∙ piece.2) in
                inr (omega (arith, low, later), (none.2 (subst BeginsGap (sym is) tt), (piece.0, piece.1 ++ drop count rest, whole, piece.3)))
          ]
          | inr some ↦ elim row [
            | inr more ↦ absurd (let low = more.0 in let three = some.0 in omega (arith, low, three))
            | inl few ↦ elim some.1 [
              | inl less ↦ inl (omega (arith, few, less))
              | inr gap ↦ inr (gap.0, ((gap.1).0, first_stays x y z few (gap.1).1))
            ]
          ]
        ]

    pub items_row_goes : (count : ℕ) (beside : Gapped) (here after : List Proxy) → left ≡ Gap count beside → here ≡ take count rest → after ≡ drop count rest
        → (LeavesOutput d y z → 2 ≤ Near b → ReadsAtMost (Near b) (d.reads y) (d.reads z) (ReadsFirstOf d r1 y z here)) → (LeavesOutput d y z → 2 ≤ Near b → (here ≡ []) ⊎ (3 ≤ Near c))
        → LeavesOutput d x z → 2 ≤ Near a → ItemsRead d Near r0 x z a c items beside proxies after
    items_row_goes count beside here after is taken dropped first near output begins =
        let front = first_left told behind output in
        let back = last_left told behind output in
        let later = later_near told front in
        let onward = later_near behind back in
        let most = items_row count beside here is taken first output begins in
        elim (near back (omega (arith, later, begins))) [
          | inr three ↦ inr (three, most)
          | inl empty ↦ elim (read front begins) [
            | inr some ↦ inr (let three = some.0 in omega (arith, three, onward), most)
            | inl none ↦ elim (first back (omega (arith, later, begins))) [
              | inr more ↦ absurd (let full = (more.1).2 in cc)
              | inl few ↦ inl (
                let less = none.0 in omega (arith, few, less),
                dropped ∙ ap (λ ps. ps ++ drop count rest) (sym (sym taken ∙ empty)) ∙ take-append-drop count rest ∙ none.1,
                λ gap. none.2 (subst BeginsGap (sym is) tt),
              )
            ]
          ]
        ]

  module _ {a b c : A} {x y z : D} {s t : List WalkStep} {r0 r1 : Records} (index : ℕ) (proxies : List Proxy) (told : Told a x s b y) (behind : Told b y t c z) (same : LeavesRecords r0 r1)
      (read : LeavesOutput d x y → 2 ≤ Near a → RowRead d Near r0 x y a b index proxies) where
    pub row_interval : (depth : ℕ) → depth ≤ 256 → (proxy : Proxy) (more : List Proxy) → drop index proxies ≡ proxy ∷ more
        → (LeavesOutput d y z → 1 ≤ Near b → ReadsAtMost (Near b) (d.reads y) (d.reads z) (ReadsInterval d r1 y z (place_named proxy) proxy.roots depth))
        → LeavesOutput d x z → 2 ≤ Near a → ReadsAtMost (Near a) (d.reads x) (d.reads z) (ReadsFirstOf d r0 x z proxies)
    row_interval depth shallow proxy more are first output begins =
        let front = first_left told behind output in
        let later = later_near told front in
        let interval = first (last_left told behind output) (omega (arith, later, begins)) in
        elim (read front begins) [
          | inl none ↦ elim interval [
            | inl few ↦ inl (let less = none.1 in omega (arith, few, less))
            | inr (low, inl piece) ↦ inr (omega (arith, low, later), (proxy, more, subst (λ (i : ℕ). drop i proxies ≡ proxy ∷ more) none.0 are, piece_before told same front.told none.1 piece))
            | inr (low, inr (deep, two)) ↦ absurd (omega (arith, deep, shallow))
          ]
          | inr some ↦ elim interval [
            | inr (low, any) ↦ absurd (let three = some.0 in omega (arith, low, three))
            | inl few ↦ elim some.1 [
              | inl less ↦ inl (omega (arith, few, less))
              | inr (low, first) ↦ inr (low, first_stays x y z few first)
            ]
          ]
        ]

    pub row_goes : (depth : ℕ) → depth ≤ 256 → (proxy : Proxy) (more : List Proxy) → drop index proxies ≡ proxy ∷ more
        → (LeavesOutput d y z → 1 ≤ Near b → ReadsAtMost (Near b) (d.reads y) (d.reads z) (ReadsInterval d r1 y z (place_named proxy) proxy.roots depth)) → (LeavesOutput d y z → 1 ≤ Near b → depth ≤ 256 → 3 ≤ Near c)
        → LeavesOutput d x z → 2 ≤ Near a → RowRead d Near r0 x z a c (index + 1) proxies
    row_goes depth shallow proxy more are first near output begins =
        let later = later_near told (first_left told behind output) in
        inr (near (last_left told behind output) (omega (arith, later, begins)) shallow, row_interval depth shallow proxy more are first output begins)

  -- an interval that isn't told yet, whose piece is read
  module _ {a b : A} {x y z : D} {r : Records} {place : RecordPlace} {roots : ℕ} (depth : ℕ) (paused : Told a x [] b y) (gives : 3 ≤ Near a → LeavesOutput d x y → ⊥) (unread : d.reads y ≡ d.reads x) (still : IsStill d y z) (piece_read : ReadsPiece d r y z place) where
    pub interval_unread : LeavesOutput d x z → ReadsAtMost (Near a) (d.reads x) (d.reads z) (ReadsInterval d r x z place roots depth)
    interval_unread left =
        let front = first_left paused (teller.asked b y z still) left in
        elim (le_or 2 (Near a)) [
          | inl waits ↦ absurd (gives waits front)
          | inr low ↦ inr (low, inl (piece_before {r0 = r} {r1 = r} paused (leaves_same refl) front.told (omega (arith, unread)) piece_read))
        ]

    pub interval_read : {c : A} (left : Gapped) (proxies : List Proxy) (piece : Piece) → IsPieceAt d r y place roots piece → IsValidPiece piece → gapped_width piece.body.roots ≡ roots → left ≡ piece.body.roots → proxies ≡ piece.proxies
        → (1 ≤ Near b → 2 ≤ Near c) → LeavesOutput d x z → 1 ≤ Near a → RootsRead d Near r x z a c place roots depth left proxies
    interval_read {c} left proxies piece is valid wide items are begins output some =
        let front = first_left paused (teller.asked b y z still) output in
        let later = later_near paused front in
        elim (le_or 2 (Near a)) [
          | inl waits ↦ absurd (gives waits front)
          | inr low ↦ (
            low,
            inl (record {
              piece = piece;
              is = λ members has as_many. is members (told_stands teller {r0 = r} {r1 = r} paused (leaves_same refl) front.told (Kept place members Bare) has) as_many;
              valid = valid;
              wide = wide;
              items = items;
              proxies_are = are;
              begins = begins (omega (arith, later, some));
              read = piece_before {r0 = r} {r1 = r} paused (leaves_same refl) front.told (omega (arith, unread)) piece_read;
            }),
          )
        ]

  -- its roots are told
  module _ {a b c : A} {x y z : D} {s t : List WalkStep} {r0 r1 : Records} (place : RecordPlace) (roots depth : ℕ) (left : Gapped) (proxies : List Proxy) (told : Told a x s b y) (behind : Told b y t c z) (same : LeavesRecords r0 r1)
      (read : LeavesOutput d x y → 1 ≤ Near a → RootsRead d Near r0 x y a b place roots depth left proxies) (root : GappedTree) (beside : Gapped) (is : left ≡ Grow root.node root.below beside)
      (first : LeavesOutput d y z → 2 ≤ Near b → ReadsAtMost (Near b) (d.reads y) (d.reads z) ((depth ≡ 257) × ReadsGap d r1 y z root.below proxies)) where
    read_two : IsSome (d.contents y) → IsUntold d Near r0 x y b place roots left proxies → ReadsGap d r1 y z root.below proxies → ReadsTwo d r0 x z place roots
    read_two seen untold (gap, (proxy, more, are, (extra, few, extra_are))) =
        let own = untold.read in
        let few_own = own.1 in
        record {
          piece = untold.piece;
          proxy = proxy;
          is = untold.is;
          away = record { valid = untold.valid; root = root; beside = beside; roots = sym untold.items ∙ is; gap = gap; more = more; proxies = sym untold.proxies_are ∙ are };
          own = own.0;
          extra = extra;
          few = omega (arith, few, few_own);
          are = λ saved now stands. (own.2 saved now stands, extra_are saved now (held_on {r0 = r0} {r1 = r1} told same seen stands));
        }

    interval_of : LeavesOutput d x z → IsUntold d Near r0 x y b place roots left proxies → ReadsInterval d r0 x z place roots depth
    interval_of output untold =
        elim (first (last_left told behind output) untold.begins) [
          | inl few ↦ inl (piece_stays x y z few untold.read)
          | inr more ↦ inr ((more.1).0, read_two (first_left told behind output).told untold (more.1).1)
        ]

    is_over : left ≡ End → ⊥
    is_over none = absurd (let e = sym none ∙ is in cc)

    few_behind : LeavesOutput d x z → (3 ≤ Near b) ⊎ ((2 ≤ Near b) × (depth ≤ 256)) → d.reads z ≤ d.reads y
    few_behind output (inl three) = elim (first (last_left told behind output) (omega (arith, three))) [
      | inl few ↦ few
      | inr more ↦ absurd (let low = more.0 in omega (arith, low, three))
    ]
    few_behind output (inr (two, shallow)) = elim (first (last_left told behind output) two) [
      | inl few ↦ few
      | inr more ↦ absurd (let deep : depth ≡ 257 = (more.1).0 in omega (arith, deep, shallow))
    ]

    pub roots_tree : LeavesOutput d x z → 1 ≤ Near a → ReadsAtMost (Near a) (d.reads x) (d.reads z) (ReadsInterval d r0 x z place roots depth)
    roots_tree output some =
        let known = read (first_left told behind output) some in
        inr (
          known.0,
          elim known.1 [
            | inl untold ↦ interval_of output untold
            | inr (inl told_one) ↦ inl (piece_stays x y z (few_behind output (inl told_one.1)) told_one.2)
            | inr (inr over) ↦ absurd (is_over over.1)
          ],
        )

    pub roots_goes : depth ≤ 257 → (depth ≡ 257 → roots ≡ 1) → (rest : List Proxy) → (LeavesOutput d y z → 2 ≤ Near b → depth ≤ 256 → 3 ≤ Near c) → LeavesOutput d x z → 1 ≤ Near a → RootsRead d Near r0 x z a c place roots depth beside rest
    roots_goes levels one rest near output some =
        let known = read (first_left told behind output) some in
        let back = last_left told behind output in
        let later = later_near behind back in (
          known.0,
          elim known.1 [
            | inl untold ↦ elim (le_or 256 depth) [
              | inl deep ↦
                  let at_root : depth ≡ 257 = omega (arith, deep, levels) in
                  let wide = ap gapped_width (sym is ∙ untold.items) ∙ untold.wide ∙ one at_root in
                  inr (inr (at_root, no_items beside (omega (arith, wide)), interval_of output untold))
              | inr shallow ↦ inr (inl (shallow, near back untold.begins shallow, piece_stays x y z (few_behind output (inr (untold.begins, shallow))) untold.read))
            ]
            | inr (inl told_one) ↦ inr (inl (told_one.0, let three = told_one.1 in omega (arith, three, later), piece_stays x y z (few_behind output (inl told_one.1)) told_one.2))
            | inr (inr over) ↦ absurd (is_over over.1)
          ],
        )
