-- How far a walk has come that may pass over records.
use Rattle.std.proofs.Common.{◌≡◌, true, false, Bool, ℕ, ◌+◌, ◌-◌, ◌≤◌, List, [], ◌∷◌, ◌++◌, length, take, drop, refl, sym, ap, ◌∙◌, subst, arith, append_assoc, inl, inr}
use Rattle.std.proofs.lemmas.List.{append-nil, drop_at}
use Rattle.std.specs.Prelude.{◌⊎◌}
use Rattle.nx_host.specs.declared.disk.Disk.{Ghosts}
use Rattle.nx_host.specs.Still.{IsStill}
use Rattle.nx_records.specs.Words.{Held}
use Rattle.nx_records.specs.declared.records.Records.{Records}
use Rattle.nx_records.specs.Records.{has_ended, LeavesRecords}
use Rattle.nx_records.proofs.LeaveLemmas.{leaves_same, leaves_stand}
use Rattle.nx_tree.specs.Forest.{Empty}
use Rattle.nx_tree.specs.Document.{depth}
use Rattle.nx_piece.specs.declared.piece.Piece.{Piece}
use Rattle.nx_piece.specs.declared.piece.Proxy.{Proxy}
use Rattle.nx_piece.specs.PieceNode.{PieceNode}
use Rattle.nx_piece.specs.Gapped.{Gapped, GappedTree, End, Grow, Gap, proxies_in}
use Rattle.nx_piece.specs.Valid.{AreApart}
use Rattle.nx_cuts.specs.Cut.{Bare, Grown, Kept, width}
use Rattle.nx_layouts.specs.Layout.{RecordPlace, Layout, laid_forest, in_record, piece_body, piece_of, proxy_of, proxies_of, AreHeld, AreLaidParts}
use Rattle.nx_layouts.specs.Replace.{joined_layout}
use Rattle.nx_layouts.proofs.LayoutLemmas.{proxies_counted, no_bare, no_grown}
use Rattle.nx_layouts.proofs.NodeLemmas.{items_show_nodes}
use Rattle.nx_layouts.proofs.ReplaceLemmas.{forest-joined_layout, proxies-joined_layout}
use Rattle.nx_layouts.proofs.ValidLemmas.{body_apart}
use Rattle.nx_hold.specs.Changes.{place_named}
use Rattle.nx_hold.specs.Pieces.{held_by}
use Rattle.nx_nav.specs.declared.error.NavError.{NavError}
use Rattle.nx_nav.specs.Along.{TakePages, ReadsPiece}
use Rattle.nx_nav.specs.Parts.{HasLayout, HasNoInterval, IsPieceAt}
use Rattle.nx_nav.specs.Refusals.{IsRefused}
use Rattle.nx_nav.specs.Walk.{IsIntervalAt, IsTreeOf, AreOf, AreIntervalsOf}
use Rattle.nx_nav.proofs.PartLemmas.{layout_of, layout_later}
use Rattle.nx_nav.proofs.RefusalLemmas.{refused_later, still_runs}
use Rattle.nx_nav.proofs.SplitLemmas.{depth-joined, held_front, light_front, row_of, take_part}
use Rattle.nx_names.specs.Look.{Look, RecordBegins, NodeBegins, NodeEnds, RecordEnds, RecordPassed, looks_of, looks_into, begun_nodes, begun_places}
use Rattle.nx_names.proofs.LookLemmas.{looks-joined_layout, looks_wanted, looks_unwanted, begun_nodes-append, begun_places-append}
use Rattle.nx_find.specs.Walked.{looks_entering, ReadsLooks, ShowsWhole, StopsShowing, IsNoSuch}

grow_parts : (n m : PieceNode) (a b x y : Gapped) → Grow n a x ≡ Grow m b y → (n ≡ m) × (a ≡ b) × (x ≡ y)
grow_parts n m a b x y e = (cc, cc, cc)

cons_parts : (x y : Proxy) (xs ys : List Proxy) → x ∷ xs ≡ y ∷ ys → (x ≡ y) × (xs ≡ ys)
cons_parts x y xs ys e = (cc, cc)

-- So much of a layout is shown, and this is left, with some more behind it.
pub record IsLeft (wanted : RecordPlace → Bool) (looks : Layout → List Look) (tail : List Look) (Q : Layout → Type 0) (told : List Look) (layout : Layout) : Type 0 where
  pub rest : Layout
  pub is : Q rest
  pub shows : looks layout ≡ told ++ (looks_of wanted rest ++ tail)
  pub shallow : depth (laid_forest rest) ≤ depth (laid_forest layout)

-- A layout is one before another.
pub record Splits (P Q : Layout → Type 0) (layout : Layout) : Type 0 where
  pub front : Layout
  pub behind : Layout
  pub first : P front
  pub next : Q behind
  pub whole : layout ≡ joined_layout front behind

-- Of each layout that P speaks of as much is shown, and what is left is one that Q speaks of.
pub record IsOnWay {A D : Type 0} (d : Ghosts D) (Shown : A → List Look → A → Type 0) (wanted : RecordPlace → Bool) (P : Layout → Type 0) (looks : Layout → List Look) (tail : List Look) (Q : Layout → Type 0) (records : Records) (old : A) (before : D) (left : ℕ) (now : A) (here : D) (rest : ℕ) : Type 0 where
  pub told : List Look
  pub goes : Shown old told now
  pub counts : left ≡ rest + begun_nodes told
  pub reads : ReadsLooks d records before here told
  pub each : (layout : Layout) → P layout → IsLeft wanted looks tail Q told layout

-- what holds of a looker
pub record IsLooker {A : Type 0} (Shown : A → List Look → A → Type 0) : Type 0 where
  pub nothing : (a : A) → Shown a [] a
  pub join : (a b c : A) (s t : List Look) → Shown a s b → Shown b t c → Shown a (s ++ t) c

-- the depths of a layout before another
front_depth : (a b : Layout) → depth (laid_forest a) ≤ depth (laid_forest (joined_layout a b))
front_depth a b = let e = ap depth (forest-joined_layout a b) ∙ depth-joined (laid_forest a) (laid_forest b) in omega (arith, e)

behind_depth : (a b : Layout) → depth (laid_forest b) ≤ depth (laid_forest (joined_layout a b))
behind_depth a b = let e = ap depth (forest-joined_layout a b) ∙ depth-joined (laid_forest a) (laid_forest b) in omega (arith, e)

-- pages of records before others
pub takes_more : (now : Held) (a b : List RecordPlace) (m n : ℕ) → TakePages now a m → TakePages now b n → TakePages now (a ++ b) (m + n)
takes_more now [] b m n first second = subst (TakePages now b) (let e : n ≡ m + n = omega (arith, first) in e) second
takes_more now (p ∷ a) b m n first second = (first.0, first.1 + n, first.2, takes_more now a b first.1 n first.3 second, (let e : m + n ≡ first.0 + (first.1 + n) = omega (arith, first.4) in e))

module _ {D : Type 0} {d : Ghosts D} where
  -- no page is read for nothing
  pub reads_none : {r : Records} {x : D} → ReadsLooks d r x x []
  reads_none {x = x} = (0, (let e : d.reads x ≤ d.reads x + 0 = omega arith in e), λ saved now stands. refl)

  pub reads_more : {r0 r1 : Records} {x y z : D} (s t : List Look) → LeavesRecords r0 r1 → IsStill d x y → ReadsLooks d r0 x y s → ReadsLooks d r1 y z t → ReadsLooks d r0 x z (s ++ t)
  reads_more {r0 = r0} {r1 = r1} {x = x} {y = y} {z = z} s t same still first second =
      let a : d.reads y ≤ d.reads x + first.0 = first.1 in
      let b : d.reads z ≤ d.reads y + second.0 = second.1 in (
        first.0 + second.0,
        (let e : d.reads z ≤ d.reads x + (first.0 + second.0) = omega (arith, a, b) in e),
        λ saved now stands.
            subst (λ (ps : List RecordPlace). TakePages now ps (first.0 + second.0)) (sym (begun_places-append s t))
            (takes_more now (begun_places s) (begun_places t) first.0 second.0 (first.2 saved now stands) (second.2 saved now (leaves_stand {r0 = r0} {r1 = r1} same still stands))),
      )

  -- what is shown of no record costs nothing
  pub reads_beside : {r : Records} {x y : D} (s t : List Look) → begun_places t ≡ [] → ReadsLooks d r x y s → ReadsLooks d r x y (s ++ t)
  reads_beside s t none reads = (
    reads.0,
    reads.1,
    λ saved now stands. subst (λ (ps : List RecordPlace). TakePages now ps reads.0) (sym (begun_places-append s t ∙ ap (λ ps. begun_places s ++ ps) none ∙ append-nil (begun_places s))) (reads.2 saved now stands),
  )

  pub reads_behind : {r : Records} {x y : D} (s t : List Look) → begun_places s ≡ [] → ReadsLooks d r x y t → ReadsLooks d r x y (s ++ t)
  reads_behind s t none reads = (
    reads.0,
    reads.1,
    λ saved now stands. subst (λ (ps : List RecordPlace). TakePages now ps reads.0) (sym (begun_places-append s t ∙ ap (λ ps. ps ++ begun_places t) none)) (reads.2 saved now stands),
  )

  -- one record
  pub reads_piece : {r : Records} {x y : D} {place : RecordPlace} → ReadsPiece d r x y place → ReadsLooks d r x y (RecordBegins place ∷ [])
  reads_piece own = (own.0, own.1, λ saved now stands. (own.0, 0, own.2 saved now stands, refl, (let e : own.0 ≡ own.0 + 0 = omega arith in e)))

module _ {D : Type 0} (d : Ghosts D) (wanted : RecordPlace → Bool) where
  -- it stops before anything is shown
  pub stops_at_once : (P : Layout → Type 0) (looks : Layout → List Look) (r : Records) (x : D) → StopsShowing d P looks r x x
  stops_at_once P looks r x = record { told = []; reads = reads_none {r = r}; first = λ l p. (looks l, refl) }

module _ {A D : Type 0} {d : Ghosts D} {Shown : A → List Look → A → Type 0} (looker : IsLooker Shown) {wanted : RecordPlace → Bool} {P : Layout → Type 0} {looks : Layout → List Look} {tail : List Look} {r0 : Records} {a : A} {x : D} {left : ℕ} where
  module _ {Q R : Layout → Type 0} {shows : Layout → List Look} {r1 : Records} {b : A} {y : D} {rest : ℕ} (way : IsOnWay d Shown wanted P looks tail Q r0 a x left b y rest) (same : LeavesRecords r0 r1) (still : IsStill d x y) (alike : (l : Layout) → R l → shows l ≡ looks_of wanted l) where
    -- what is left of what was left
    parted : (S : Layout → Type 0) (l : Layout) (p : P l) (parts : Splits R S (way.each l p).rest) → looks l ≡ way.told ++ (shows parts.front ++ (looks_of wanted parts.behind ++ tail))
    parted S l p parts =
        let here = way.each l p in
        here.shows ∙ ap (λ s. way.told ++ (s ++ tail)) (ap (looks_of wanted) parts.whole ∙ looks-joined_layout wanted parts.front parts.behind ∙ ap (λ s. s ++ looks_of wanted parts.behind) (sym (alike parts.front parts.first)))
        ∙ ap (λ s. way.told ++ s) (append_assoc (shows parts.front) (looks_of wanted parts.behind) tail)

    -- a part more
    pub way_goes_on : (S : Layout → Type 0) (c : A) (z : D) (more : ℕ) → ShowsWhole d Shown R shows r1 b y rest c z more → ((l : Layout) → Q l → Splits R S l) → IsOnWay d Shown wanted P looks tail S r0 a x left c z more
    way_goes_on S c z more has split = record {
      told = way.told ++ has.told;
      goes = looker.join a b c way.told has.told way.goes has.goes;
      counts =
          let one : left ≡ rest + begun_nodes way.told = way.counts in
          let two : rest ≡ more + begun_nodes has.told = has.counts in
          omega (arith, begun_nodes-append way.told has.told);
      reads = reads_more {r0 = r0} {r1 = r1} way.told has.told same still way.reads has.reads;
      each = λ l p.
          let here = way.each l p in
          let parts = split here.rest here.is in
          let shallow : depth (laid_forest here.rest) ≤ depth (laid_forest l) = here.shallow in
          let deep = ap (λ (i : Layout). depth (laid_forest i)) parts.whole in
          let behind = behind_depth parts.front parts.behind in
          record {
            rest = parts.behind;
            is = parts.next;
            shows = parted S l p parts ∙ ap (λ s. way.told ++ (s ++ (looks_of wanted parts.behind ++ tail))) (sym (has.all parts.front parts.first)) ∙ sym (append_assoc way.told has.told (looks_of wanted parts.behind ++ tail));
            shallow = omega arith;
          };
    }

    -- it stopped in the next part
    pub way_stops : (S : Layout → Type 0) (z : D) → StopsShowing d R shows r1 y z → ((l : Layout) → Q l → Splits R S l) → StopsShowing d P looks r0 x z
    way_stops S z has split = record {
      told = way.told ++ has.told;
      reads = reads_more {r0 = r0} {r1 = r1} way.told has.told same still way.reads has.reads;
      first = λ l p.
          let here = way.each l p in
          let parts = split here.rest here.is in
          let first = has.first parts.front parts.first in
          let last = looks_of wanted parts.behind ++ tail in (
            first.0 ++ last,
            parted S l p parts ∙ ap (λ s. way.told ++ (s ++ last)) first.1 ∙ ap (λ s. way.told ++ s) (append_assoc has.told first.0 last) ∙ sym (append_assoc way.told has.told (first.0 ++ last)),
          );
    }

    -- the next part isn't there
    pub way_lacks : (S : Layout → Type 0) (deep : ℕ) → IsNoSuch R shows deep rest → ((l : Layout) → Q l → Splits R S l) → IsNoSuch P looks deep left
    way_lacks S deep none split l p shallow small =
        let here = way.each l p in
        let parts = split here.rest here.is in
        let high : depth (laid_forest here.rest) ≤ depth (laid_forest l) = here.shallow in
        let e = ap (λ (i : Layout). depth (laid_forest i)) parts.whole in
        let front = front_depth parts.front parts.behind in
        let one : left ≡ rest + begun_nodes way.told = way.counts in
        let all = ap begun_nodes (parted S l p parts) ∙ begun_nodes-append way.told (shows parts.front ++ (looks_of wanted parts.behind ++ tail)) in
        let part = begun_nodes-append (shows parts.front) (looks_of wanted parts.behind ++ tail) in
        none parts.front parts.first (omega arith) (omega arith)

    -- ... for the cause that is told of it
    pub way_refused : (S : Layout → Type 0) (r2 : Records) (z : D) (deep : ℕ) → has_ended r0 ≡ false → ((l : Layout) → Q l → Splits R S l) → (e : NavError) → IsRefused d ⊥ ⊥ (IsNoSuch R shows deep rest) e r1 r2 y z → IsRefused d ⊥ ⊥ (IsNoSuch P looks deep left) e r0 r2 x z
    way_refused S r2 z deep runs split e refused =
        refused_later d ⊥ ⊥ (IsNoSuch P looks deep left) r0 r1 r2 x y z same (still_runs r0 runs) still.faults_later (λ bad. bad) (λ bad. bad) (λ none. way_lacks S deep none split) e refused

  -- all is shown
  pub way_ends : {Q : Layout → Type 0} {b : A} {y : D} {rest : ℕ} → IsOnWay d Shown wanted P looks tail Q r0 a x left b y rest → ((l : Layout) → Q l → looks_of wanted l ≡ []) → (c : A) → Shown b tail c → begun_nodes tail ≡ 0 → begun_places tail ≡ []
      → ShowsWhole d Shown P looks r0 a x left c y rest
  way_ends {Q} {b} {y} {rest} way none c closed no_node no_place = record {
    told = way.told ++ tail;
    goes = looker.join a b c way.told tail way.goes closed;
    counts = let one : left ≡ rest + begun_nodes way.told = way.counts in omega (arith, begun_nodes-append way.told tail, no_node);
    reads = reads_beside {r = r0} way.told tail no_place way.reads;
    all = λ l p. let here = way.each l p in sym (here.shows ∙ ap (λ s. way.told ++ (s ++ tail)) (none here.rest here.is));
  }

module _ {A D : Type 0} {d : Ghosts D} {Shown : A → List Look → A → Type 0} (looker : IsLooker Shown) {wanted : RecordPlace → Bool} {P : Layout → Type 0} {r0 : Records} {a : A} {x : D} {left : ℕ} where
  -- nothing is shown
  pub way_begins : IsOnWay d Shown wanted P (looks_of wanted) [] P r0 a x left a x left
  way_begins = record {
    told = [];
    goes = looker.nothing a;
    counts = (let e : left ≡ left + 0 = omega arith in e);
    reads = reads_none {r = r0};
    each = λ l p. record { rest = l; is = p; shows = sym (append-nil (looks_of wanted l)); shallow = omega arith };
  }

  -- all is shown, with nothing behind it
  pub row_shown : {Q : Layout → Type 0} {b : A} {y : D} {rest : ℕ} → IsOnWay d Shown wanted P (looks_of wanted) [] Q r0 a x left b y rest → ((l : Layout) → Q l → looks_of wanted l ≡ []) → ShowsWhole d Shown P (looks_of wanted) r0 a x left b y rest
  row_shown {b = b} way none = way_ends looker way none b (looker.nothing b) refl refl

-- where it ended in all of what was shown
pub stops_behind : {A D : Type 0} {d : Ghosts D} {Shown : A → List Look → A → Type 0} {P : Layout → Type 0} {looks : Layout → List Look} {r : Records} {a b : A} {x y : D} {left rest : ℕ} → ShowsWhole d Shown P looks r a x left b y rest → StopsShowing d P looks r x y
stops_behind has = record { told = has.told; reads = has.reads; first = λ l p. ([], sym (has.all l p) ∙ sym (append-nil has.told)) }

module _ {D : Type 0} (d : Ghosts D) (r0 r1 : Records) (x0 x1 : D) (same : LeavesRecords r0 r1) (still : IsStill d x0 x1) where
  moved : (layout : Layout) → HasLayout d r0 x0 layout → HasLayout d r1 x1 layout
  moved layout has = layout_later {r0 = r0} {r1 = r1} same still has

  -- a tree before the other items
  pub split_tree : (tree : GappedTree) (items : Gapped) (proxies : List Proxy) (l : Layout) → AreOf d r0 x0 (Grow tree.node tree.below items) proxies l → Splits (IsTreeOf d r0 x0 tree proxies) (AreOf d r1 x1 items (drop (proxies_in tree.below) proxies)) l
  split_tree tree items proxies Bare h = absurd (let e = h.0 in cc)
  split_tree tree items proxies (Kept p m s) h = absurd (no_grown (piece_body s) tree.below items tree.node (sym h.0))
  split_tree tree items proxies (Grown n b s) h =
      let e = grow_parts tree.node (in_record n) tree.below (piece_body b) items (piece_body s) h.0 in
      let more = h.1 in
      let shape : proxies ≡ proxies_of b ++ (proxies_of s ++ more.0) = more.1 ∙ append_assoc (proxies_of b) (proxies_of s) more.0 in
      let long : length (proxies_of b) ≡ proxies_in tree.below = proxies_counted b ∙ ap proxies_in (sym e.1) in
      let has = h.2 in
      record {
        front = Grown n b Bare;
        behind = s;
        first = (n, b, refl, e.0, e.1, (proxies_of s ++ more.0, shape), layout_of has (Grown n b Bare) (has.held.0, has.held.1, tt) (has.light.0, tt));
        next = (e.2, (more.0, ap (drop (proxies_in tree.below)) shape ∙ drop_at (proxies_of b) (proxies_of s ++ more.0) (proxies_in tree.below) long), moved s (layout_of has s has.held.2 has.light.1));
        whole = refl;
      }

  -- a row of intervals before the other items
  pub split_row : (count : ℕ) (items : Gapped) (proxies : List Proxy) (l : Layout) → AreOf d r0 x0 (Gap count items) proxies l → Splits (AreIntervalsOf d r0 x0 (take count proxies)) (AreOf d r1 x1 items (drop count proxies)) l
  split_row count items proxies l h =
      let apart : AreApart (Gap count items) = subst AreApart (sym h.0) (body_apart l) in
      let row = row_of count items l h.0 apart.1 in
      let more = h.1 in
      let has = h.2 in
      let held = held_front (held_by has.pieces) row.row row.behind (subst (λ i. AreHeld (held_by has.pieces) i) row.whole has.held) in
      let light = light_front (has.now.settings).k row.row row.behind (subst (λ i. AreLaidParts (has.now.settings).k i) row.whole has.light) in
      let shape : proxies ≡ proxies_of row.row ++ (proxies_of row.behind ++ more.0) =
      more.1 ∙ ap (λ ps. ps ++ more.0) (ap proxies_of row.whole ∙ proxies-joined_layout row.row row.behind) ∙ append_assoc (proxies_of row.row) (proxies_of row.behind) more.0 in
      record {
        front = row.row;
        behind = row.behind;
        first = (row.are, ap (take count) shape ∙ take_part (proxies_of row.row) (proxies_of row.behind ++ more.0) count row.counted, layout_of has row.row held.0 light.0);
        next = (row.rest, (more.0, ap (drop count) shape ∙ drop_at (proxies_of row.row) (proxies_of row.behind ++ more.0) count row.counted), moved row.behind (layout_of has row.behind held.1 light.1));
        whole = row.whole;
      }

  -- an interval before the others of a row
  pub split_interval : (proxy : Proxy) (proxies : List Proxy) (l : Layout) → AreIntervalsOf d r0 x0 (proxy ∷ proxies) l → Splits (IsIntervalAt d r0 x0 (place_named proxy) proxy.roots) (AreIntervalsOf d r1 x1 proxies) l
  split_interval proxy proxies Bare h = absurd (let e = h.1 in cc)
  split_interval proxy proxies (Grown n b s) h = absurd h.0
  split_interval proxy proxies (Kept p m s) h =
      let parts = cons_parts proxy (proxy_of p (width m)) proxies (proxies_of s) h.1 in
      let named : place_named proxy ≡ p = ap (λ (q : Proxy). place_named q) parts.0 in
      let roots : width m ≡ proxy.roots = ap (λ (q : Proxy). q.roots) (sym parts.0) in
      let has = h.2 in
      record {
        front = Kept p m Bare;
        behind = s;
        first = (m, ap (λ (q : RecordPlace). Kept q m Bare) (sym named), roots, layout_of has (Kept p m Bare) (has.held.0, has.held.1, tt) (has.light.0, has.light.1, has.light.2, has.light.3, tt));
        next = (h.0, parts.1, moved s (layout_of has s has.held.2 has.light.4));
        whole = refl;
      }

-- where no proxy is left nothing is shown
pub row_ends : {D : Type 0} {d : Ghosts D} {r : Records} {x : D} (wanted : RecordPlace → Bool) (proxies : List Proxy) (l : Layout) → AreIntervalsOf d r x proxies l → proxies ≡ [] → looks_of wanted l ≡ []
row_ends wanted proxies Bare h e = refl
row_ends wanted proxies (Grown n b s) h e = absurd h.0
row_ends wanted proxies (Kept p m s) h e = absurd (let f = h.1 in cc)

-- where no item is left nothing is shown
pub items_end : {D : Type 0} {d : Ghosts D} {r : Records} {x : D} (wanted : RecordPlace → Bool) (items : Gapped) (proxies : List Proxy) (l : Layout) → AreOf d r x items proxies l → items ≡ End → looks_of wanted l ≡ []
items_end wanted items proxies Bare h e = refl
items_end wanted items proxies (Grown n b s) h e = absurd (let f = h.0 in cc)
items_end wanted items proxies (Kept p m s) h e = absurd (no_bare (piece_body s) (sym h.0 ∙ e))

module _ {D : Type 0} (d : Ghosts D) (wanted : RecordPlace → Bool) (r0 : Records) (x : D) (tree : GappedTree) (proxies : List Proxy) where
  -- what is shown of a tree
  tree_looks : (l : Layout) (p : IsTreeOf d r0 x tree proxies l) → looks_of wanted l ≡ NodeBegins tree.node.node.kind tree.node.node.name ∷ (looks_of wanted p.1 ++ NodeEnds tree.node.node.kind ∷ [])
  tree_looks l p =
      let shows = items_show_nodes p.0 in
      let kind : tree.node.node.kind ≡ p.0.node.kind = ap (λ (n : PieceNode). n.node.kind) p.3 ∙ shows.kind in
      let name : tree.node.node.name ≡ p.0.node.name = ap (λ (n : PieceNode). n.node.name) p.3 ∙ shows.name in
      ap (looks_of wanted) p.2 ∙ ap (λ k. NodeBegins k p.0.node.name ∷ (looks_of wanted p.1 ++ NodeEnds k ∷ [])) (sym kind) ∙ ap (λ n. NodeBegins tree.node.node.kind n ∷ (looks_of wanted p.1 ++ NodeEnds tree.node.node.kind ∷ [])) (sym name)

  below_of : (l : Layout) (p : IsTreeOf d r0 x tree proxies l) → AreOf d r0 x tree.below proxies p.1
  below_of l p = let has = subst (λ (i : Layout). HasLayout d r0 x i) p.2 p.6 in (p.4, p.5, layout_of has p.1 has.held.1 has.light.0)

  -- no room for its root
  pub no_room : (deep left : ℕ) → (deep ≡ 0) ⊎ (left ≡ 0) → IsNoSuch (IsTreeOf d r0 x tree proxies) (looks_of wanted) deep left
  no_room deep left none l p shallow small =
      let high = ap (λ (i : Layout). depth (laid_forest i)) p.2 in
      let size = ap begun_nodes (tree_looks l p) in
      elim none [ inl none ↦ omega arith | inr none ↦ omega arith ]

  pub below_lacks : (deep left : ℕ) → IsNoSuch (AreOf d r0 x tree.below proxies) (looks_of wanted) (deep - 1) (left - 1) → IsNoSuch (IsTreeOf d r0 x tree proxies) (looks_of wanted) deep left
  below_lacks deep left none l p shallow small =
      let high = ap (λ (i : Layout). depth (laid_forest i)) p.2 in
      let size = ap begun_nodes (tree_looks l p) in
      let part = begun_nodes-append (looks_of wanted p.1) (NodeEnds tree.node.node.kind ∷ []) in
      none p.1 (below_of l p) (omega arith) (omega arith)

  pub tree_stops : (z : D) → StopsShowing d (AreOf d r0 x tree.below proxies) (looks_of wanted) r0 x z → StopsShowing d (IsTreeOf d r0 x tree proxies) (looks_of wanted) r0 x z
  tree_stops z has =
      let begun = NodeBegins tree.node.node.kind tree.node.node.name in
      record {
        told = begun ∷ has.told;
        reads = has.reads;
        first = λ l p.
            let first = has.first p.1 (below_of l p) in
            let end = NodeEnds tree.node.node.kind ∷ [] in
            (first.0 ++ end, tree_looks l p ∙ ap (λ s. begun ∷ (s ++ end)) first.1 ∙ ap (λ s. begun ∷ s) (append_assoc has.told first.0 end));
      }

  pub tree_refused : (deep left : ℕ) → has_ended r0 ≡ false → (r2 : Records) (z : D) (e : NavError) → IsRefused d ⊥ ⊥ (IsNoSuch (AreOf d r0 x tree.below proxies) (looks_of wanted) (deep - 1) (left - 1)) e r0 r2 x z
      → IsRefused d ⊥ ⊥ (IsNoSuch (IsTreeOf d r0 x tree proxies) (looks_of wanted) deep left) e r0 r2 x z
  tree_refused deep left runs r2 z e refused =
      refused_later d ⊥ ⊥ (IsNoSuch (IsTreeOf d r0 x tree proxies) (looks_of wanted) deep left) r0 r0 r2 x x z (leaves_same refl) (still_runs r0 runs) (omega arith) (λ bad. bad) (λ bad. bad) (below_lacks deep left) e refused

  pub tree_shown : {A : Type 0} {Shown : A → List Look → A → Type 0} (looker : IsLooker Shown) (left rest : ℕ) (a b c e : A) (z : D) → Shown a (NodeBegins tree.node.node.kind tree.node.node.name ∷ []) b
      → ShowsWhole d Shown (AreOf d r0 x tree.below proxies) (looks_of wanted) r0 b x (left - 1) c z rest → Shown c (NodeEnds tree.node.node.kind ∷ []) e → 1 ≤ left → ShowsWhole d Shown (IsTreeOf d r0 x tree proxies) (looks_of wanted) r0 a x left e z rest
  tree_shown looker left rest a b c e z begun has ended some =
      let first = NodeBegins tree.node.node.kind tree.node.node.name in
      let last = NodeEnds tree.node.node.kind ∷ [] in
      record {
        told = first ∷ (has.told ++ last);
        goes = looker.join a b e (first ∷ []) (has.told ++ last) begun (looker.join b c e has.told last has.goes ended);
        counts = let one : left - 1 ≡ rest + begun_nodes has.told = has.counts in omega (arith, begun_nodes-append has.told last);
        reads = reads_beside {r = r0} (first ∷ has.told) last refl (reads_behind {r = r0} (first ∷ []) has.told refl has.reads);
        all = λ l p. ap (λ s. first ∷ (s ++ last)) (has.all p.1 (below_of l p)) ∙ sym (tree_looks l p);
      }

-- an interval whose record was read, or wasn't
module _ {D : Type 0} {d : Ghosts D} (wanted : RecordPlace → Bool) (r0 r1 : Records) (x y : D) (place : RecordPlace) (roots : ℕ) (still : IsStill d x y) where
  enters : (l : Layout) (p : IsIntervalAt d r0 x place roots l) → looks_entering wanted l ≡ looks_into wanted place p.0
  enters l p = ap (looks_entering wanted) p.1

  pub interval_stops : ReadsPiece d r0 x y place → StopsShowing d (IsIntervalAt d r0 x place roots) (looks_entering wanted) r0 x y
  interval_stops own = record { told = RecordBegins place ∷ []; reads = reads_piece {r = r0} own; first = λ l p. (looks_of wanted p.0 ++ RecordEnds ∷ [], enters l p) }

  pub interval_not_read : has_ended r0 ≡ false → (deep left : ℕ) (e : NavError) → IsRefused d ⊥ ⊥ (HasNoInterval d r0 x place roots) e r0 r1 x y → IsRefused d ⊥ ⊥ (IsNoSuch (IsIntervalAt d r0 x place roots) (looks_entering wanted) deep left) e r0 r1 x y
  interval_not_read runs deep left e refused =
      refused_later d ⊥ ⊥ (IsNoSuch (IsIntervalAt d r0 x place roots) (looks_entering wanted) deep left) r0 r0 r1 x x y (leaves_same refl) (still_runs r0 runs) (omega arith) (λ bad. bad) (λ bad. bad)
      (λ none l p shallow small. none p.0 (subst (λ (i : Layout). HasLayout d r0 x i) p.1 p.3) p.2) e refused

  pub interval_begins : {A : Type 0} {Shown : A → List Look → A → Type 0} (left : ℕ) (piece : Piece) (a b : A) → ReadsPiece d r0 x y place → LeavesRecords r0 r1 → IsPieceAt d r0 x place roots piece → Shown a (RecordBegins place ∷ []) b
      → IsOnWay d Shown wanted (IsIntervalAt d r0 x place roots) (looks_entering wanted) (RecordEnds ∷ []) (AreOf d r1 y piece.body.roots piece.proxies) r0 a x left b y left
  interval_begins left piece a b own same is begun = record {
    told = RecordBegins place ∷ [];
    goes = begun;
    counts = (let e : left ≡ left + 0 = omega arith in e);
    reads = reads_piece {r = r0} own;
    each = λ l p.
        let members = p.0 in
        let has = subst (λ (i : Layout). HasLayout d r0 x i) p.1 p.3 in
        let there = layout_later {r0 = r0} {r1 = r1} same still has in
        let whole : piece ≡ piece_of members = is members has p.2 in
        let high = ap (λ (i : Layout). depth (laid_forest i)) p.1 ∙ depth-joined (laid_forest members) Empty in
        record {
          rest = members;
          is = (ap (λ (q : Piece). q.body.roots) whole, ([], ap (λ (q : Piece). q.proxies) whole ∙ sym (append-nil (proxies_of members))), layout_of there members there.held.1 there.light.3);
          shows = enters l p;
          shallow = omega arith;
        };
  }

-- an interval that is wanted, and one that is passed over
module _ {D : Type 0} (d : Ghosts D) (wanted : RecordPlace → Bool) (r : Records) (x : D) (place : RecordPlace) (roots : ℕ) where
  as_wanted : wanted place ≡ true → (l : Layout) → IsIntervalAt d r x place roots l → looks_entering wanted l ≡ looks_of wanted l
  as_wanted is l p = ap (looks_entering wanted) p.1 ∙ sym (ap (looks_of wanted) p.1 ∙ looks_wanted wanted place p.0 is)

  pub wanted_shown : {A : Type 0} {Shown : A → List Look → A → Type 0} {a b : A} {y : D} {left rest : ℕ} → wanted place ≡ true → ShowsWhole d Shown (IsIntervalAt d r x place roots) (looks_entering wanted) r a x left b y rest
      → ShowsWhole d Shown (IsIntervalAt d r x place roots) (looks_of wanted) r a x left b y rest
  wanted_shown is has = record { told = has.told; goes = has.goes; counts = has.counts; reads = has.reads; all = λ l p. has.all l p ∙ as_wanted is l p }

  pub wanted_stops : {y : D} → wanted place ≡ true → StopsShowing d (IsIntervalAt d r x place roots) (looks_entering wanted) r x y → StopsShowing d (IsIntervalAt d r x place roots) (looks_of wanted) r x y
  wanted_stops is has = record { told = has.told; reads = has.reads; first = λ l p. let first = has.first l p in (first.0, sym (as_wanted is l p) ∙ first.1) }

  pub wanted_refused : wanted place ≡ true → has_ended r ≡ false → (r2 : Records) (z : D) (deep left : ℕ) (e : NavError) → IsRefused d ⊥ ⊥ (IsNoSuch (IsIntervalAt d r x place roots) (looks_entering wanted) deep left) e r r2 x z
      → IsRefused d ⊥ ⊥ (IsNoSuch (IsIntervalAt d r x place roots) (looks_of wanted) deep left) e r r2 x z
  wanted_refused is runs r2 z deep left e refused =
      refused_later d ⊥ ⊥ (IsNoSuch (IsIntervalAt d r x place roots) (looks_of wanted) deep left) r r r2 x x z (leaves_same refl) (still_runs r runs) (omega arith) (λ bad. bad) (λ bad. bad)
      (λ none l p shallow small. none l p shallow (subst (λ (s : List Look). begun_nodes s ≤ left) (sym (as_wanted is l p)) small)) e refused

  pub passed_shown : {A : Type 0} {Shown : A → List Look → A → Type 0} {a b : A} {left : ℕ} → wanted place ≡ false → Shown a (RecordPassed roots ∷ []) b → ShowsWhole d Shown (IsIntervalAt d r x place roots) (looks_of wanted) r a x left b x left
  passed_shown {left = left} isnt passed = record {
    told = RecordPassed roots ∷ [];
    goes = passed;
    counts = (let e : left ≡ left + 0 = omega arith in e);
    reads = reads_behind {r = r} (RecordPassed roots ∷ []) [] refl (reads_none {r = r});
    all = λ l p. sym (ap (looks_of wanted) p.1 ∙ looks_unwanted wanted place p.0 isnt ∙ ap (λ (n : ℕ). RecordPassed n ∷ []) p.2);
  }
