-- The calls that plant a node below one of a record's own.
use Rattle.std.proofs.Common.{◌≡◌, ◌⊎◌, ℕ, ◌<◌, ◌≤◌, List, [], ◌++◌, length, Option, None, Some, inl, inr, refl, sym, ap, ◌∙◌, subst, arith}
use Rattle.std.specs.Prelude.{◌≢◌, Contains, IfSome, false}
use Rattle.std.specs.Option.{option_map_or, option_to_list}
use Rattle.std.proofs.lemmas.Bool.{false≢true}
use Rattle.std.proofs.lemmas.List.Elements.{Contains-append_cases}
use Rattle.nx_host.specs.declared.disk.Disk.{Ghosts}
use Rattle.nx_tree.specs.Forest.{OrderedTree, Forest, Empty, Plant, trees_of}
use Rattle.nx_tree.specs.Document.{most_nodes}
use Rattle.nx_weights.specs.Weight.{weight, weight_of}
use Rattle.nx_holdings.specs.Holdings.{Held}
use Rattle.nx_records.specs.declared.records.Records.{Records}
use Rattle.nx_records.specs.declared.error.StoreError.{StoreError}
use Rattle.nx_records.specs.declared.error.StoreError.TheVariants as store
use Rattle.nx_records.specs.Records.{has_ended, settings_of, StandsFor}
use Rattle.nx_records.specs.Refusals.{EndNow, NotStored}
use Rattle.nx_piece.specs.declared.piece.Far.{Far}
use Rattle.nx_piece.specs.declared.piece.Piece.{Piece}
use Rattle.nx_piece.specs.declared.piece.Proxy.{Proxy}
use Rattle.nx_piece.specs.Contents.{fars_in}
use Rattle.nx_piece.specs.Gapped.{End, Grow, GappedTree, gapped_width}
use Rattle.nx_piece.specs.Locate.{Inside, children_of, reached_in}
use Rattle.nx_piece.specs.PieceNode.{PieceNode, item_slots, length_with, node_weight}
use Rattle.nx_piece.proofs.SizeLemmas.{item_is_weight}
use Rattle.nx_piece_edits.specs.Planting.{IsWithNode, IsWithProxyAt}
use Rattle.nx_piece_edits.specs.Setting.{LeadsInside}
use Rattle.nx_piece_edits.proofs.ContentsLemmas.{edits_bring_content, edits_keep_contents}
use Rattle.nx_matrix.specs.declared.rule.Entry.{Entry}
use Rattle.nx_matrix.specs.declared.rule.Entry.TheVariants.{Standalone}
use Rattle.nx_matrix.specs.declared.rule.Rule.{Rule}
use Rattle.nx_cuts.specs.Cut.{width}
use Rattle.nx_layouts.specs.Layout.{RecordPlace, LaidNode, Layout, in_record, laid_forest, piece_of, without_places}
use Rattle.nx_layouts.proofs.ChildLemmas.{children_are_changed}
use Rattle.nx_layouts.proofs.DrawnLemmas.{drawn_free, drawn_wide}
use Rattle.nx_layouts.proofs.NodeLemmas.{items_show_nodes}
use Rattle.nx_layouts.proofs.PlaceLemmas.{no_place, one_place}
use Rattle.nx_cuts.proofs.FeasibleLemmas.{trees, trees-forest}
use Rattle.nx_hold.specs.Changes.{place_named, piece_needs, AddsPiece, ComesTidyWhere}
use Rattle.nx_hold.specs.Contents.{content_pages}
use Rattle.nx_hold.specs.Pieces.{HasContent, IsNoProxies, MayName, PieceMap}
use Rattle.nx_hold.proofs.MoveLemmas.{may_name_still, piece_adds_record}
use Rattle.nx_edit.specs.Changing as put
use Rattle.nx_edit.specs.Changing.{MayBeMade, IsPossibleIn, IsWrittenNode, MayPut, MayPutIn, OfChanged, NotChangedKnown}
use Rattle.nx_edit.specs.Grown.{GrowsFrom}
use Rattle.nx_edit.specs.Planting.{IsBetweenChildren, IsAskedThere}
use Rattle.nx_edit.specs.Rows.{row_nodes, IsHeldInterval}
use Rattle.nx_edit.proofs.CountLemmas.{proxies_few}
use Rattle.nx_edit.proofs.JoinedLemmas.{asked_laid, no_pages}
use Rattle.nx_edit.proofs.PlantLemmas.{node_grows, node_there, alone_needs, interval_grows}

-- the interval's members, whose piece is known, tell what it is
pub as_members : {now : Held} {pieces : PieceMap now} {place : RecordPlace} {position : ℕ} {path : List ℕ} {limit : ℕ} (piece : Piece) (members : Layout) → IsHeldInterval now pieces (Some piece) place position path limit members → IsHeldInterval now pieces (Some (piece_of members)) place position path limit members
as_members piece members i = record {
  is = refl;
  held = i.held;
  once = i.once;
  light = i.light;
  leads = i.leads;
  few = i.few;
}

trees_counted : (f : Forest) → length (trees_of f) ≡ trees f
trees_counted Empty = refl
trees_counted (Plant n b s) = let e = trees_counted s in omega (arith, e)

wide_trees : (a : Layout) → length (trees_of (laid_forest a)) ≡ width a
wide_trees a = trees_counted (laid_forest a) ∙ trees-forest (without_places a) ∙ drawn_wide a

-- a node's own far content is the one that a piece of it alone has
own_far : (own : Option Far) (far : Far) → Contains (option_to_list own) far → own ≡ Some far
own_far None far among = absurd (no_place far among)
own_far (Some one) far among = ap (λ (f : Far). Some f) (sym (one_place one far among))

pub alone_may : {was : Held} (position : ℕ) (node : LaidNode) → MayPut was (put.Child position node) → MayName was (Grow (in_record node) End End)
alone_may {was} position node may far among = by_case (Contains-append_cases (option_to_list (in_record node).far) ([] ++ []) far among)
  where
    by_case : Contains (option_to_list (in_record node).far) far ⊎ Contains ([] ++ []) far → HasContent was far × IsNoProxies was far.first
    by_case (inl own) = node_there position node.node node.list was far may (own_far (in_record node).far far own)
    by_case (inr none) = absurd (no_place far none)

module _ {D : Type 0} (d : Ghosts D) (rules : List Rule) (piece : Piece) (place : RecordPlace) (member : ℕ) (path : List ℕ) (position : ℕ) (node : LaidNode) (r0 : Records) (x0 : D) where
  -- what the piece names may be named, and it grew so
  abbrev pub Grows : Piece → Held → Held → Type 0
  Grows planted was mid =
      MayName mid planted.body.roots × ((pieces : PieceMap was) (members : Layout) → IsHeldInterval was pieces (Some piece) place member path most_nodes members → IsPossibleIn (was.settings).k rules (put.Child position node) member path members
      → GrowsFrom rules (put.Child position node) member path members planted [] was mid)

  module _ (written : IsWrittenNode (in_record node)) (light : node_weight (in_record node) ≤ (settings_of r0).k) where
    fits : {saved now : Held} → StandsFor d r0 x0 saved now → weight node.node ≤ (now.settings).k
    fits stands =
        subst (λ (k : ℕ). weight node.node ≤ k) (sym (ap (λ s. s.k) ((stands.holds).behind).settings))
        (subst (λ (n : ℕ). n ≤ (settings_of r0).k) (items_show_nodes node).weighs light)

    small : {saved now : Held} → StandsFor d r0 x0 saved now → item_slots (in_record node) ≤ (now.settings).k
    small stands = let same = item_is_weight (in_record node) written.1 written.0 in let fit = fits stands in let shows = (items_show_nodes node).weighs in omega (arith, same, fit, shows)

    short : option_map_or (λ first. 0) node.list (content_pages node.node) ≡ 0
    short = no_pages node written

    -- The node joins its parent's part:
    pub beside_grows : (planted : Piece) (entry : Entry) → ((index : ℕ) × IsBetweenChildren piece member path position index) → IsWithNode piece member path position (in_record node) planted → IsAskedThere rules piece member path (in_record node).node entry → entry ≢ Standalone
        → ComesTidyWhere d r0 r0 x0 x0 (λ was. MayPutIn was (put.Child position node) piece) (Grows planted)
    beside_grows planted entry between p asked joins saved was stands tidy may = (
      was,
      stands,
      tidy,
      (
        λ far among. by_case far ((edits_bring_content.node_comes piece member path position (in_record node) planted p).fars far among),
        λ pieces members i possible.
            node_grows rules node member path position between.0 entry pieces place members (as_members piece members i) (subst (λ (x : Piece). IsBetweenChildren x member path position between.0) i.is between.1) (fits stands)
            (subst (λ (x : Piece). IsAskedThere rules x member path node.node entry) i.is (asked_laid rules piece member path node entry asked)) short tidy may.1 planted (subst (λ (x : Piece). IsWithNode x member path position (in_record node) planted) i.is p) joins,
      ),
    )
      where
        by_case : (far : Far) → ((in_record node).far ≡ Some far) ⊎ Contains (fars_in piece.body.roots) far → HasContent was far × IsNoProxies was far.first
        by_case far (inl own) = node_there position node.node node.list was far may.1 own
        by_case far (inr old) = may.0 far old

    -- The node is an interval alone:
    module _ (index : ℕ) (between : IsBetweenChildren piece member path position index) (asked : IsAskedThere rules piece member path (in_record node).node Standalone) (alone : Piece) (one : alone.body.roots ≡ Grow (in_record node) End End) (none : alone.proxies ≡ []) where
      asks : IsAskedThere rules piece member path node.node Standalone
      asks = asked_laid rules piece member path node Standalone asked

      pub alone_grows : (planted : Piece) (proxy : Proxy) → proxy.roots ≡ gapped_width alone.body.roots → IsWithProxyAt piece member path position index proxy planted → (r1 : Records) (x1 : D)
          → ComesTidyWhere d r0 r1 x0 x1 (λ was. MayName was alone.body.roots) (λ was mid. AddsPiece (place_named proxy) alone was mid) → ComesTidyWhere d r0 r1 x0 x1 (λ was. MayPutIn was (put.Child position node) piece) (Grows planted)
      alone_grows planted proxy roots p r1 x1 adds saved was stands tidy may =
          let mid = adds saved was stands tidy (subst (MayName was) (sym one) (alone_may position node may.1)) in (
            mid.0,
            mid.1,
            mid.2,
            (
              λ far among. may_name_still piece.body.roots tidy (piece_adds_record (place_named proxy) alone was mid.0 mid.3) may.0 far ((edits_keep_contents.proxy_comes piece member path position index proxy planted p).fars far among),
              λ pieces members i possible.
                  interval_grows rules node member path position index Standalone pieces place members (as_members piece members i) (subst (λ (x : Piece). IsBetweenChildren x member path position index) i.is between) (fits stands)
                  (subst (λ (x : Piece). IsAskedThere rules x member path node.node Standalone) i.is asks) short (small stands) alone one none proxy roots mid.3 tidy may.1 planted
                  (subst (λ (x : Piece). IsWithProxyAt x member path position index proxy planted) i.is p) refl,
            ),
          )

      pub alone_unadded : (running : has_ended r0 ≡ false) (page : ℕ) (r1 : Records) (x1 : D) (e : StoreError) → NotStored d (λ was. piece_needs alone) (λ was. ⊥) page e r0 r1 x0 x1 → NotChangedKnown d rules (Some piece) (put.Child position node) place member path e r0 r1 x0 x1
      alone_unadded running page r1 x1 store.Disk refused = refused
      alone_unadded running page r1 x1 store.Full refused = record {
        runs = refused.runs;
        keeps = refused.keeps;
        none_free = refused.none_free;
        few = λ saved was pieces members stands tidy i possible may.
            let few : was.free < piece_needs alone = refused.few saved was stands in
            let proxy : Proxy = record { page = 0; slot = 0; roots = gapped_width alone.body.roots } in
            let needs = alone_needs rules node member path position index Standalone pieces place members (as_members piece members i) (subst (λ (x : Piece). IsBetweenChildren x member path position index) i.is between) (fits stands)
            (subst (λ (x : Piece). IsAskedThere rules x member path node.node Standalone) i.is asks) short (small stands) alone one none proxy refl in
            omega (arith, few, needs);
      }
      alone_unadded running page r1 x1 (store.Damaged other) refused = (refused.ends, λ saved was pieces members stands tidy i possible may. refused.lacks saved was stands)
      alone_unadded running page r1 x1 store.Ended refused = absurd (false≢true (sym running ∙ refused.0))
      alone_unadded running page r1 x1 store.Memory refused = refused
      alone_unadded running page r1 x1 store.Exists refused = absurd refused
      alone_unadded running page r1 x1 store.NotAStore refused = absurd refused

  -- no interval has so many proxies
  pub too_many : (r1 : Records) → 524288 ≤ length piece.proxies → EndNow r0 r1 → EndNow r0 r1 × OfChanged d r0 x0 rules (Some piece) (put.Child position node) place member path (λ now members. ⊥)
  too_many r1 more ends = (
    ends,
    λ saved now pieces members stands tidy i possible may.
        let same = ap (λ (p : Piece). length p.proxies) i.is in
        let some : 1 ≤ width (without_places members) = (i.light).0 in
        let drawn = drawn_wide members in
        let many = proxies_few (now.settings).k members (i.light).3 (drawn_free members (i.light).1) in
        let few : row_nodes (without_places members) ≤ most_nodes = i.few in
        omega (arith, more, same, some, drawn, many, few),
  )

  module _ (tree : GappedTree) (first : ℕ) (leads : reached_in piece member path ≡ Inside tree first) where
    -- where the change may be made, the node isn't too heavy, and the position is one of the children's or behind them
    made : {now : Held} (pieces : PieceMap now) (members : Layout) → IsHeldInterval now pieces (Some piece) place member path most_nodes members → IsPossibleIn (now.settings).k rules (put.Child position node) member path members
        → (weight node.node ≤ (now.settings).k) × (position ≤ length (children_of piece.proxies first tree.below))
    made {now} pieces members i possible =
        let has = children_are_changed (now.settings).k members member path tree first (subst (λ (p : Piece). reached_in p member path ≡ Inside tree first) i.is leads) in
        let may : MayBeMade (now.settings).k (put.Child position node) (record { node = has.node.node; below = laid_forest has.below }) =
        subst (λ (t : Option OrderedTree). IfSome t (λ there. MayBeMade (now.settings).k (put.Child position node) there)) has.there possible.made in
        let long : length (children_of piece.proxies first tree.below) ≡ width has.below = subst (λ (p : Piece). length (children_of p.proxies first tree.below) ≡ width has.below) (sym i.is) (has.falls position).long in
        let most : position ≤ length (trees_of (laid_forest has.below)) = may.1 in
        let wide = wide_trees has.below in
        (may.0, omega (arith, long, most, wide))

  -- where it is, the change may be made nowhere
  pub too_heavy : (r1 : Records) → LeadsInside piece member path → (node_weight (in_record node) ≤ (settings_of r0).k → ⊥) → EndNow r0 r1 → EndNow r0 r1 × OfChanged d r0 x0 rules (Some piece) (put.Child position node) place member path (λ now members. ⊥)
  too_heavy r1 leads not ends = (
    ends,
    λ saved now pieces members stands tidy i possible may.
        not
        (subst (λ (n : ℕ). n ≤ (settings_of r0).k) (sym (items_show_nodes node).weighs)
        (subst (λ (k : ℕ). weight node.node ≤ k) (ap (λ s. s.k) ((stands.holds).behind).settings) (made leads.0 leads.1 leads.2 pieces members i possible).0)),
  )

  -- nor where the position is behind all children
  pub beyond : (r1 : Records) (tree : GappedTree) (first : ℕ) → reached_in piece member path ≡ Inside tree first → length (children_of piece.proxies first tree.below) < position → EndNow r0 r1
      → EndNow r0 r1 × OfChanged d r0 x0 rules (Some piece) (put.Child position node) place member path (λ now members. ⊥)
  beyond r1 tree first leads fewer ends = (
    ends,
    λ saved now pieces members stands tidy i possible may.
        let m = made tree first leads pieces members i possible in
        let most = m.1 in
        omega (arith, most, fewer),
  )

-- a node weighs as much as its parts say
pub weighs_so : (node : PieceNode) (name content : List ℕ) (far : Option Far) → name ≡ node.node.name → content ≡ node.node.content → far ≡ node.far → weight_of (length name) (length_with (length content) far) ≡ node_weight node
weighs_so node name content far named full away =
    ap (λ (l : List ℕ). weight_of (length l) (length_with (length content) far)) named
    ∙ ap (λ (l : List ℕ). weight_of (length node.node.name) (length_with (length l) far)) full
    ∙ ap (λ (f : Option Far). weight_of (length node.node.name) (length_with (length node.node.content) f)) away
