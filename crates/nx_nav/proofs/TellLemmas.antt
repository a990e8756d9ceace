-- A tree and an interval told whole, and where telling them stops.
use Rattle.std.proofs.Common.{◌≡◌, false, ℕ, ◌+◌, ◌-◌, ◌≤◌, List, [], ◌∷◌, ◌++◌, Contains, Option, refl, sym, ap, ◌∙◌, subst, arith, inl, inr, append_assoc}
use Rattle.std.proofs.lemmas.List.{append-nil}
use Rattle.std.specs.Prelude.{◌⊎◌, Bool, IsSome}
use Rattle.nx_host.specs.Disk.{Image}
use Rattle.nx_host.specs.declared.disk.Disk.{Ghosts}
use Rattle.nx_host.specs.Still.{IsStill}
use Rattle.nx_records.specs.declared.records.Records.{Records}
use Rattle.nx_records.specs.Records.{has_ended, LeavesRecords}
use Rattle.nx_records.proofs.LeaveLemmas.{leaves_same}
use Rattle.nx_tree.specs.Forest.{Forest, Empty, nodes}
use Rattle.nx_tree.specs.Document.{depth, deepest}
use Rattle.nx_piece.specs.declared.piece.Piece.{Piece}
use Rattle.nx_piece.specs.declared.piece.Proxy.{Proxy}
use Rattle.nx_piece.specs.PieceNode.{PieceNode, content_length}
use Rattle.nx_piece.specs.Gapped.{GappedTree, End, gapped_weight}
use Rattle.nx_cuts.specs.Cut.{Bare, Grown, Kept, width}
use Rattle.nx_cuts.proofs.FeasibleLemmas.{trees}
use Rattle.nx_layouts.specs.Layout.{RecordPlace, Layout, without_places, laid_forest, laid_weight, piece_body, proxies_of, piece_of, places_of, ArePlacedOnce, AreLaidParts}
use Rattle.nx_layouts.proofs.SizeLemmas.{body_weight}
use Rattle.nx_layouts.proofs.DrawnLemmas.{drawn_wide}
use Rattle.nx_layouts.proofs.NodeLemmas.{items_show_nodes}
use Rattle.nx_nav.specs.declared.error.NavError.{NavError}
use Rattle.nx_nav.specs.declared.visited.Visited.{Visited}
use Rattle.nx_tree.specs.Edit.{has_children}
use Rattle.nx_nav.specs.Nodes.{CanBeWith, CanBeTree, CanStand}
use Rattle.nx_nav.specs.Visited.{HasVisited}
use Rattle.nx_nav.specs.Parts.{HasLayout, HasNode, HasNoInterval, IsPieceAt}
use Rattle.nx_nav.specs.Refusals.{IsRefused}
use Rattle.nx_hold.specs.Contents.{far_pages}
use Rattle.nx_nav.specs.Along.{ReadsPiece}
use Rattle.nx_nav.specs.Pages.{laid_pages}
use Rattle.nx_nav.specs.Steps.{WalkStep, Begin, Close, begun_steps, laid_steps}
use Rattle.nx_nav.specs.Walk.{Visits, ReadsNoMore, HasTold, HasStopped, TellsEach, StopsInEach, LacksEach, IsWalkable, IsNone, IsIntervalAt, IsTreeOf, AreOf}
use Rattle.nx_nav.proofs.PartLemmas.{layout_of, piece_few}
use Rattle.nx_nav.proofs.RefusalLemmas.{refused_later, still_runs}
use Rattle.nx_nav.proofs.ChildLemmas.{trees-forest}
use Rattle.nx_nav.proofs.NodeLemmas.{HasCome, first_stands, item_can_be}
use Rattle.nx_nav.proofs.SplitLemmas.{nodes-joined, depth-joined, joined-empty}
use Rattle.nx_nav.proofs.VisitLemmas.{comes_twice}
use Rattle.nx_nav.proofs.WayLemmas.{IsTeller, IsOnWay, told_earlier, told_stands}

-- where a layout has no tree its piece has none
empty_body : (k : ℕ) (l : Layout) → AreLaidParts k l → laid_forest l ≡ Empty → piece_body l ≡ End
empty_body k Bare light e = refl
empty_body k (Grown n b s) light e = absurd (cc)
empty_body k (Kept p m s) light e =
    let some : 1 ≤ width (without_places m) = light.0 in
    let wide = drawn_wide m in
    let none = ap trees e in
    let all = trees-forest (Kept p m s) in
    absurd (omega arith)

module _ {D : Type 0} {d : Ghosts D} {x : D} where
  -- a tree that no document may have there
  module _ (r0 : Records) (tree : GappedTree) (proxies : List Proxy) (deep left : ℕ) (v : Visited) (y : D) where
    has_come : (l : Layout) (p : IsTreeOf d r0 x tree proxies l) → IsWalkable deep left v l → HasCome (deepest + 1 - deep) p.0.node (laid_forest p.1)
    has_come l p walkable =
        (first_stands (deepest + 1 - deep) p.0.node (laid_forest p.1) Empty (subst (λ (i : Layout). CanStand (deepest + 1 - deep) (laid_forest i)) p.2 walkable.stands)).0

    pub no_room : (deep ≡ 0) ⊎ (left ≡ 0) → IsNone d y (IsTreeOf d r0 x tree proxies) deep left v
    no_room none seen l p walkable =
        let high = ap (λ (z : Layout). depth (laid_forest z)) p.2 in
        let size = ap (λ (z : Layout). nodes (laid_forest z)) p.2 in
        let shallow : depth (laid_forest l) ≤ deep = walkable.shallow in
        let small : nodes (laid_forest l) ≤ left = walkable.small in
        elim none [ inl none ↦ omega arith | inr none ↦ omega arith ]

    pub no_such_tree : (CanBeTree (deepest + 1 - deep) tree → ⊥) → IsNone d y (IsTreeOf d r0 x tree proxies) deep left v
    no_such_tree cannot seen l p walkable =
        let come = has_come l p walkable in
        let has = subst (λ (z : Layout). HasLayout d r0 x z) p.2 p.6 in
        let kind : tree.node.node.kind ≡ p.0.node.kind = ap (λ (n : PieceNode). n.node.kind) p.3 ∙ (items_show_nodes p.0).kind in
        cannot (
          subst (λ (n : PieceNode). CanBeWith (deepest + 1 - deep) n.node.kind n.node.name (content_length n)) (sym p.3) (item_can_be (deepest + 1 - deep) p.0.node p.0.list come.be),
          λ none. p.4 ∙ empty_body (has.now.settings).k p.1 has.light.0 (come.have (ap has_children (sym kind) ∙ none)),
        )

  -- the root of a tree, as the piece has it
  own_node : (r0 : Records) (tree : GappedTree) (proxies : List Proxy) (l : Layout) (p : IsTreeOf d r0 x tree proxies l) → HasNode d r0 x tree.node p.0.node
  own_node r0 tree proxies l p =
      let has = subst (λ (z : Layout). HasLayout d r0 x z) p.2 p.6 in
      record { saved = has.saved; now = has.now; stands = has.stands; list = p.0.list; same = p.3; read = has.held.0 }

  -- an interval whose record was visited before
  pub no_other_interval : (r0 : Records) (place : RecordPlace) (roots deep left : ℕ) (v : Visited) (y : D) → ((places : List RecordPlace) → HasVisited v places → Contains places place) → IsNone d y (IsIntervalAt d r0 x place roots) deep left v
  no_other_interval r0 place roots deep left v y there seen l p walkable =
      comes_twice walkable.earlier (places_of p.0 ++ []) place (there walkable.earlier walkable.were)
      (subst (λ (i : Layout). ArePlacedOnce (walkable.earlier ++ places_of i)) p.1 walkable.once)

-- a tree whose root didn't begin
pub node_refused : {D : Type 0} (d : Ghosts D) (Unwritten : Type 0) (r0 r1 : Records) (x y : D) (tree : GappedTree) (proxies : List Proxy) (deep left : ℕ) (v : Visited) → has_ended r0 ≡ false → (e : NavError)
    → IsRefused d ⊥ Unwritten (LacksEach d y (HasNode d r0 x tree.node)) e r0 r1 x y → IsRefused d ⊥ Unwritten (IsNone d y (IsTreeOf d r0 x tree proxies) deep left v) e r0 r1 x y
node_refused d Unwritten r0 r1 x y tree proxies deep left v runs e refused =
    refused_later d ⊥ Unwritten (IsNone d y (IsTreeOf d r0 x tree proxies) deep left v) r0 r0 r1 x x y (leaves_same refl) (still_runs r0 runs) (omega arith) (λ bad. bad) (λ u. u)
    (λ none seen l p walkable. none seen p.0.node (own_node r0 tree proxies l p)) e refused

module _ {A D : Type 0} {d : Ghosts D} {Told : A → D → List WalkStep → A → D → Type 0} {Unwritten : D → D → Type 0} (asked : Bool) (teller : IsTeller d Told Unwritten) {a : A} {x : D} where
  -- it stops before anything is told
  pub stops_at_once : (P : Layout → Type 0) (last : A) (y : D) → Told a x [] last y → ReadsNoMore d P x y → HasStopped d asked Told P a x y
  stops_at_once P last y goes reads = record { told = []; last = last; goes = goes; first = λ seen l p. (laid_steps asked l, refl); reads = reads }

  -- a tree whose node has begun
  module _ (r0 r1 : Records) (tree : GappedTree) (proxies : List Proxy) (b : A) (y : D) (same : LeavesRecords r0 r1) (begun : TellsEach d Told (HasNode d r0 x tree.node) (begun_steps asked) a x b y) (v : Visited) where
    -- the node and what is below it
    begun_is : IsSome (d.contents y) → (l : Layout) (p : IsTreeOf d r0 x tree proxies l) → begun.told ≡ begun_steps asked p.0.node
    begun_is seen l p = begun.all seen p.0.node (own_node r0 tree proxies l p)

    below_of : IsSome (d.contents y) → (l : Layout) (p : IsTreeOf d r0 x tree proxies l) → AreOf d r1 y tree.below proxies p.1
    below_of seen l p =
        let has = told_stands teller {r0 = r0} {r1 = r1} begun.goes same seen (Grown p.0 p.1 Bare) (subst (λ (z : Layout). HasLayout d r0 x z) p.2 p.6) in
        (p.4, p.5, layout_of has p.1 has.held.1 has.light.0)

    -- no more was read than for the node and what is below it
    tree_reads : (z : D) → (IsSome (d.contents z) → IsSome (d.contents y)) → d.reads y ≤ d.reads x + far_pages tree.node → ReadsNoMore d (AreOf d r1 y tree.below proxies) y z → ReadsNoMore d (IsTreeOf d r0 x tree proxies) x z
    tree_reads z earlier few reads seen l p =
        let below : d.reads z ≤ d.reads y + laid_pages p.1 = reads seen p.1 (below_of (earlier seen) l p) in
        let item = ap far_pages p.3 in
        let all = ap laid_pages p.2 in
        omega (arith, few, below, item, all)

    end_is : (l : Layout) (p : IsTreeOf d r0 x tree proxies l) → ◌≡◌ {A = WalkStep} (Close tree.node.node.kind tree.node.node.name) (Close p.0.node.kind p.0.node.name)
    end_is l p =
        let shows = items_show_nodes p.0 in
        let kind : tree.node.node.kind ≡ p.0.node.kind = ap (λ (n : PieceNode). n.node.kind) p.3 ∙ shows.kind in
        let name : tree.node.node.name ≡ p.0.node.name = ap (λ (n : PieceNode). n.node.name) p.3 ∙ shows.name in
        cc

    pub tree_told : (left rest : ℕ) (c e : A) (z : D) (w : Visited) → HasTold d asked Told (AreOf d r1 y tree.below proxies) b y (left - 1) v c z rest w → Told c z (Close tree.node.node.kind tree.node.node.name ∷ []) e z → 1 ≤ left → d.reads y ≤ d.reads x + far_pages tree.node
        → HasTold d asked Told (IsTreeOf d r0 x tree proxies) a x left v e z rest w
    tree_told left rest c e z w has closed some few = record {
      told = begun.told ++ (has.told ++ Close tree.node.node.kind tree.node.node.name ∷ []);
      goes = teller.join a b e x y z begun.told (has.told ++ Close tree.node.node.kind tree.node.node.name ∷ []) begun.goes (teller.join b c e y z z has.told (Close tree.node.node.kind tree.node.node.name ∷ []) has.goes closed);
      places = has.places;
      visits = has.visits;
      all = λ seen l p.
          let earlier = told_earlier teller has.goes seen in
          let all = has.all seen p.1 (below_of earlier l p) in
          let count : left - 1 ≡ rest + nodes (laid_forest p.1) = all.1 in
          let size = ap (λ (i : Layout). nodes (laid_forest i)) p.2 in (
            ap (λ s. s ++ (has.told ++ Close tree.node.node.kind tree.node.node.name ∷ [])) (begun_is earlier l p)
                ∙ ap (λ s. begun_steps asked p.0.node ++ (s ++ Close tree.node.node.kind tree.node.node.name ∷ [])) all.0
                ∙ ap (λ s. begun_steps asked p.0.node ++ (laid_steps asked p.1 ++ s ∷ [])) (end_is l p)
                ∙ ap (laid_steps asked) (sym p.2),
            omega arith,
            all.2 ∙ sym (append-nil (places_of p.1)) ∙ ap places_of (sym p.2),
          );
      reads = tree_reads z (told_earlier teller has.goes) few has.reads;
    }

    pub tree_stops : (z : D) → HasStopped d asked Told (AreOf d r1 y tree.below proxies) b y z → d.reads y ≤ d.reads x + far_pages tree.node → HasStopped d asked Told (IsTreeOf d r0 x tree proxies) a x z
    tree_stops z has few = record {
      told = begun.told ++ has.told;
      last = has.last;
      goes = teller.join a b has.last x y z begun.told has.told begun.goes has.goes;
      first = λ seen l p.
          let earlier = told_earlier teller has.goes seen in
          let first = has.first seen p.1 (below_of earlier l p) in
          let end = Close p.0.node.kind p.0.node.name ∷ [] in (
            first.0 ++ end,
            ap (laid_steps asked) p.2
                ∙ ap (λ s. s ++ (laid_steps asked p.1 ++ end)) (sym (begun_is earlier l p))
                ∙ ap (λ s. begun.told ++ (s ++ end)) first.1
                ∙ ap (λ s. begun.told ++ s) (append_assoc has.told first.0 end)
                ∙ sym (append_assoc begun.told has.told (first.0 ++ end)),
          );
      reads = tree_reads z (told_earlier teller has.goes) few has.reads;
    }

    pub tree_not_closed : (left rest : ℕ) (c : A) (z : D) (w : Visited) → HasTold d asked Told (AreOf d r1 y tree.below proxies) b y left v c z rest w → d.reads y ≤ d.reads x + far_pages tree.node → HasStopped d asked Told (IsTreeOf d r0 x tree proxies) a x z
    tree_not_closed left rest c z w has few = tree_stops z (record {
      told = has.told;
      last = c;
      goes = has.goes;
      first = λ seen l p. ([], sym (has.all seen l p).0 ∙ sym (append-nil has.told));
      reads = has.reads;
    }) few

    below_walkable : (deep left : ℕ) → deep ≤ 257 → (l : Layout) (p : IsTreeOf d r0 x tree proxies l) → IsWalkable deep left v l → IsWalkable (deep - 1) (left - 1) v p.1
    below_walkable deep left levels l p walkable =
        let size = ap (λ (z : Layout). nodes (laid_forest z)) p.2 in
        let high = ap (λ (z : Layout). depth (laid_forest z)) p.2 in
        let shallow : depth (laid_forest l) ≤ deep = walkable.shallow in
        let small : nodes (laid_forest l) ≤ left = walkable.small in
        let stands = first_stands (deepest + 1 - deep) p.0.node (laid_forest p.1) Empty (subst (λ (i : Layout). CanStand (deepest + 1 - deep) (laid_forest i)) p.2 walkable.stands) in
        record {
          shallow = omega arith;
          small = omega arith;
          stands = subst (λ (level : ℕ). CanStand level (laid_forest p.1)) (let one : deepest + 1 - deep + 1 ≡ deepest + 1 - (deep - 1) = omega arith in one) stands.1;
          earlier = walkable.earlier;
          were = walkable.were;
          once = subst (λ ps. ArePlacedOnce (walkable.earlier ++ ps)) (ap places_of p.2 ∙ append-nil (places_of p.1)) walkable.once;
        }

    pub tree_refused : (deep left : ℕ) → deep ≤ 257 → has_ended r0 ≡ false → (r2 : Records) (z : D) → HasStopped d asked Told (AreOf d r1 y tree.below proxies) b y z → (e : NavError) → IsRefused d ⊥ (Unwritten y z) (IsNone d z (AreOf d r1 y tree.below proxies) (deep - 1) (left - 1) v) e r1 r2 y z
        → IsRefused d ⊥ (Unwritten x z) (IsNone d z (IsTreeOf d r0 x tree proxies) deep left v) e r0 r2 x z
    tree_refused deep left levels runs r2 z has e refused =
        refused_later d ⊥ (Unwritten x z) (IsNone d z (IsTreeOf d r0 x tree proxies) deep left v) r0 r1 r2 x y z same (still_runs r0 runs) (teller.faults a b x y begun.told begun.goes) (λ bad. bad)
        (λ u. teller.unwritten a b x y z begun.told begun.goes u)
        (λ none seen l p walkable. none seen p.1 (below_of (told_earlier teller has.goes seen) l p) (below_walkable deep left levels l p walkable)) e refused

  -- a tree whose node didn't begin
  module _ (r0 : Records) (tree : GappedTree) (proxies : List Proxy) (y : D) where
    pub node_stops : StopsInEach d Told (HasNode d r0 x tree.node) (begun_steps asked) a x y → d.reads y ≤ d.reads x + far_pages tree.node → HasStopped d asked Told (IsTreeOf d r0 x tree proxies) a x y
    node_stops has few = record {
      told = has.told;
      last = has.last;
      goes = has.goes;
      first = λ seen l p.
          let first = has.first seen p.0.node (own_node r0 tree proxies l p) in
          let rest = laid_steps asked p.1 ++ Close p.0.node.kind p.0.node.name ∷ [] in (
            first.0 ++ rest,
            ap (laid_steps asked) p.2 ∙ ap (λ s. s ++ rest) first.1 ∙ append_assoc has.told first.0 rest,
          );
      reads = λ seen l p.
          let item = ap far_pages p.3 in
          let all = ap laid_pages p.2 in
          omega (arith, few, item, all);
    }

  -- an interval whose record was read
  module _ {b : A} {y z : D} (r0 r1 : Records) (place : RecordPlace) (roots : ℕ) (paused : Told a x [] b y) (still : IsStill d y z) where
    interval_there : IsSome (d.contents z) → (members : Layout) → HasLayout d r0 x (Kept place members Bare) → HasLayout d r0 y (Kept place members Bare)
    interval_there seen members has = told_stands teller {r0 = r0} {r1 = r0} paused (leaves_same refl) (subst (λ (o : Option Image). IsSome o) still.contents_stay seen) (Kept place members Bare) has

    -- no more was read than its piece
    pub interval_reads : (unread : d.reads y ≡ d.reads x) (own : ReadsPiece d r0 y z place) → ReadsNoMore d (IsIntervalAt d r0 x place roots) x z
    interval_reads unread own seen l p =
        let has = subst (λ (i : Layout). HasLayout d r0 x i) p.1 p.3 in
        let few = piece_few own (interval_there seen p.0 has) in
        let all = ap laid_pages p.1 in
        omega (arith, unread, few, all)

    pub asked_on : Told a x [] b z
    asked_on = teller.join a b b x y z [] [] paused (teller.asked b y z still)

    pub interval_not_read : has_ended r0 ≡ false → (deep left : ℕ) (v : Visited) (e : NavError) → IsRefused d ⊥ ⊥ (HasNoInterval d r0 y place roots) e r0 r1 y z → IsRefused d ⊥ (Unwritten x z) (IsNone d z (IsIntervalAt d r0 x place roots) deep left v) e r0 r1 x z
    interval_not_read runs deep left v e refused =
        refused_later d ⊥ (Unwritten x z) (IsNone d z (IsIntervalAt d r0 x place roots) deep left v) r0 r0 r1 x y z (leaves_same refl) (still_runs r0 runs) (teller.faults a b x y [] paused) (λ bad. bad) absurd
        (λ none seen l p walkable. none p.0 (interval_there seen p.0 (subst (λ (i : Layout). HasLayout d r0 x i) p.1 p.3)) p.2) e refused

    pub interval_begins : (left weight : ℕ) (v w : Visited) (piece : Piece) (c : A) → Visits v (place ∷ []) w → LeavesRecords r0 r1 → IsPieceAt d r0 y place roots piece → weight ≡ gapped_weight piece.body.roots → Told b z (Begin roots weight ∷ []) c z → d.reads y ≡ d.reads x → ReadsPiece d r0 y z place
        → IsOnWay d asked Told (IsIntervalAt d r0 x place roots) (AreOf d r1 z piece.body.roots piece.proxies) a x left v c z left w
    interval_begins left weight v w piece c visits same is weighs begun unread own = record {
      told = Begin roots weight ∷ [];
      goes = teller.join a b c x z z [] (Begin roots weight ∷ []) asked_on begun;
      places = place ∷ [];
      visits = visits;
      each = λ seen l p.
          let members = p.0 in
          let has = subst (λ (i : Layout). HasLayout d r0 x i) p.1 p.3 in
          let there = told_stands teller {r0 = r0} {r1 = r1} asked_on same seen (Kept place members Bare) has in
          let whole : piece ≡ piece_of members = is members (interval_there seen members has) p.2 in
          let wide : width (without_places members) ≡ roots = drawn_wide members ∙ p.2 in
          let heavy : weight ≡ laid_weight members = weighs ∙ ap (λ (q : Piece). gapped_weight q.body.roots) whole ∙ body_weight members in
          let size = ap (λ (i : Layout). nodes (laid_forest i)) p.1 ∙ nodes-joined (laid_forest members) Empty in
          let high = ap (λ (i : Layout). depth (laid_forest i)) p.1 ∙ depth-joined (laid_forest members) Empty in
          record {
            rest = members;
            is = (
              ap (λ (q : Piece). q.body.roots) whole,
              ([], ap (λ (q : Piece). q.proxies) whole ∙ sym (append-nil (proxies_of members))),
              layout_of there members there.held.1 there.light.3,
            );
            steps_are = ap (laid_steps asked) p.1 ∙ ap (λ s. Begin (width (without_places members)) (laid_weight members) ∷ s) (append-nil (laid_steps asked members))
                ∙ ap (λ (n : ℕ). Begin n (laid_weight members) ∷ laid_steps asked members) wide ∙ ap (λ (n : ℕ). Begin roots n ∷ laid_steps asked members) (sym heavy);
            places_are = ap places_of p.1 ∙ ap (λ ps. place ∷ ps) (append-nil (places_of members));
            nodes_are = omega arith;
            shallow = omega arith;
            stands = λ level stands.
                subst (λ (f : Forest). CanStand level f) (ap (λ (i : Layout). laid_forest i) p.1 ∙ joined-empty (laid_forest members)) stands;
            pages_are =
                let few = piece_few own (interval_there seen members has) in
                let all = ap laid_pages p.1 in
                omega (arith, unread, few, all);
          };
    }
