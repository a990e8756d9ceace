-- The steps of the walk, in the words of its calls.
use Rattle.std.proofs.Common.{◌≡◌, ℕ, ◌+◌, ◌-◌, ◌≤◌, ◌<◌, List, [], ◌∷◌, ◌++◌, length, take, drop, Option, None, Some, refl, sym, ap, ◌∙◌, subst, arith}
use Rattle.std.specs.Prelude.{◌≢◌, Result, Ok, Err, IfOk, IfErr}
use Rattle.nx_host.specs.declared.disk.Disk.{Ghosts}
use Rattle.nx_host.specs.Still.{IsStill}
use Rattle.nx_tree.specs.Forest.{OrderedTree, Forest, forest_of, nodes}
use Rattle.nx_parts.specs.declared.marks.Mark.{Mark}
use Rattle.nx_parts.specs.Marks.{marked_in, holder_by_marks}
use Rattle.nx_records.specs.declared.records.Records.{Records}
use Rattle.nx_records.specs.declared.error.StoreError.{StoreError}
use Rattle.nx_records.specs.declared.error.StoreError.TheVariants as error
use Rattle.nx_records.specs.Records.{HasChanges, KeepsSaved, ComesTo}
use Rattle.nx_records.specs.Refusals.{RunsOn, NotStored}
use Rattle.nx_piece.specs.declared.piece.Item.{Item}
use Rattle.nx_piece.specs.declared.piece.Item.TheVariants.{Tree}
use Rattle.nx_piece.specs.declared.piece.Piece.{Piece}
use Rattle.nx_piece.specs.declared.piece.Proxy.{Proxy}
use Rattle.nx_piece.specs.Gapped as gapped
use Rattle.nx_piece.specs.Gapped.{Gapped, GappedTree, End, Grow, proxies_in}
use Rattle.nx_piece.specs.Items.{gapped_of, with_last_tree}
use Rattle.nx_piece.specs.Valid.{AreFar, AreNear, IsValidPiece}
use Rattle.nx_piece.proofs.GappedLemmas.{gapped_of-push}
use Rattle.nx_cuts.specs.Cut.{CutForest, Bare, Grown, Kept, width, AreFree}
use Rattle.nx_layouts.specs.Layout.{without_places, piece_body, piece_of}
use Rattle.nx_hold.specs.Pieces.{MayName}
use Rattle.nx_hold.specs.Contents.{content_pages}
use Rattle.nx_hold.specs.Changes.{place_named, piece_needs, AddsPiece, ComesTidyWhere}
use Rattle.nx_build.specs.Marked.{IsMarked, AreMembers, CanMark, CanHold}
use Rattle.nx_build.specs.Laying.{proxy_count, drawn_needs, LaysTrees, LaysMembers}
use Rattle.nx_build.specs.Rows.{with_proxy}
use Rattle.nx_build.proofs.RowLemmas.{joined_cut, last_tree}
use Rattle.nx_build.proofs.MarkedLemmas.{BeginsGrown, BeginsKept, marked_same, free_begins, none_begins, begins_kept, members_end_is}
use Rattle.nx_build.proofs.WalkLemmas.{WalksOn, walk_tree, walk_interval, walk_ends, tree_refused, interval_refused, proxies_few, first_left, members_at, piece_is, members_valid, lays_members, members_refused}

-- the marks below a tree
abbrev pub AreBelow : List Mark → List Mark → ℕ → Type 0
AreBelow below marks position = (next : ℕ) (path : List ℕ) → marked_in below next path ≡ marked_in marks position (next ∷ path)

-- what a call told of the next tree
pub none_marked : (marks : List Mark) (position : ℕ) (told : Option ℕ) → told ≡ marked_in marks position [] → told ≡ None → marked_in marks position [] ≡ None
none_marked marks position told is none = sym is ∙ none

pub some_marked : (marks : List Mark) (position holder : ℕ) (told : Option ℕ) → told ≡ marked_in marks position [] → told ≡ Some holder → marked_in marks position [] ≡ Some holder
some_marked marks position holder told is some = sym is ∙ some

pub below_marked : (own : Option ℕ) (marks below : List Mark) (position : ℕ) (t : OrderedTree) (others : Forest) (rest : CutForest) (b : BeginsGrown own (holder_by_marks marks) position t others rest) → AreBelow below marks position
    → IsMarked None (holder_by_marks below) 0 t.below b.below
below_marked own marks below position t others rest b are =
    marked_same None (λ path. holder_by_marks marks (position ∷ path)) (holder_by_marks below) 0 t.below t.below b.below (λ next path. sym (are next path)) refl b.inside

free_rest : (a b : CutForest) → AreFree (joined_cut a b) → AreFree b
free_rest Bare b free = free
free_rest (Grown node below beside) b free = free_rest beside b free
free_rest (Kept mark members beside) b free = absurd free

-- the piece that was gathered
abbrev pub gathered : Gapped → List Proxy → Piece
gathered roots proxies = record { body = record { roots = roots }; proxies = proxies }

-- the tree is an item
pub tree_pushed : {D : Type 0} {d : Ghosts D} {own : Option ℕ} {holder : List ℕ → Option ℕ} {p : ℕ} {trees : List OrderedTree} {drawn : CutForest} {r0 r1 : Records} {x0 x1 : D} {had has : List Proxy} (items new : List Item) (made : GappedTree)
    → WalksOn d own holder p trees drawn r0 r1 x0 x1 (with_last_tree (gapped_of items) made) had has → new ≡ items ++ Tree made ∷ [] → WalksOn d own holder p trees drawn r0 r1 x0 x1 (gapped_of new) had has
tree_pushed {d = d} {own = own} {holder = holder} {p = p} {trees = trees} {drawn = drawn} {r0 = r0} {r1 = r1} {x0 = x0} {x1 = x1} {had = had} {has = has} items new made w is =
    subst (λ (g : Gapped). WalksOn d own holder p trees drawn r0 r1 x0 x1 g had has) (sym (ap gapped_of is ∙ gapped_of-push items (Tree made) ∙ last_tree (gapped_of items) made)) w

-- more pages would have been needed
pub needs_fewer : {D : Type 0} (d : Ghosts D) (r0 r1 : Records) (x0 x1 : D) (more most : ℕ) → more ≤ most → (e : StoreError) → NotStored d (λ was. more) (λ was. ⊥) 0 e r0 r1 x0 x1 → NotStored d (λ was. most) (λ was. ⊥) 0 e r0 r1 x0 x1
needs_fewer d r0 r1 x0 x1 more most le error.Disk refused = refused
needs_fewer d r0 r1 x0 x1 more most le error.Full refused = record {
  runs = refused.runs;
  none_free = refused.none_free;
  few = λ saved now stands. let few : now.free < more = refused.few saved now stands in omega (arith, few, le);
  keeps = refused.keeps;
}
needs_fewer d r0 r1 x0 x1 more most le (error.Damaged page) refused = refused
needs_fewer d r0 r1 x0 x1 more most le error.Ended refused = refused
needs_fewer d r0 r1 x0 x1 more most le error.Memory refused = refused
needs_fewer d r0 r1 x0 x1 more most le error.Exists refused = absurd refused
needs_fewer d r0 r1 x0 x1 more most le error.NotAStore refused = absurd refused

module _ {D : Type 0} {d : Ghosts D} (marks : List Mark) {position : ℕ} {trees : List OrderedTree} {drawn : CutForest} {r0 r1 : Records} {x0 x1 : D} {had has : List Proxy} where
  -- the items below a node, where a tree is next that is in no interval
  module _ {body : Gapped} (w : WalksOn d None (holder_by_marks marks) position trees drawn r0 r1 x0 x1 body had has)
      (t : OrderedTree) (others : List OrderedTree) (below : List Mark) (next : trees ≡ t ∷ others) (none : marked_in marks position [] ≡ None) (are : AreBelow below marks position) where
    next_tree : BeginsGrown None (holder_by_marks marks) position t (forest_of others) w.rest
    next_tree = first_left None (holder_by_marks marks) position trees others w.rest t w.left next (none_begins (holder_by_marks marks) position w.rest (w.left).light (w.left).agrees none)

    tree_marked : IsMarked None (holder_by_marks below) 0 t.below next_tree.below
    tree_marked = below_marked None marks below position t (forest_of others) w.rest next_tree are

    pub tree_can : CanMark (holder_by_marks below) 0 t.below
    tree_can = (next_tree.below, tree_marked)

    pub tree_not : (r2 : Records) (x2 : D) (e : StoreError) → ((c : CutForest) → IsMarked None (holder_by_marks below) 0 t.below c → NotStored d (λ was. content_pages t.node + drawn_needs c) (λ was. ⊥) 0 e r1 r2 x1 x2)
        → NotStored d (λ was. drawn_needs drawn) (λ was. ⊥) 0 e r0 r2 x0 x2
    tree_not r2 x2 e refused = tree_refused w t others next_tree r2 x2 e (refused next_tree.below tree_marked)

    module _ {r2 : Records} {x2 : D} (made : GappedTree) (more : List Proxy)
        (lays : (c : CutForest) → IsMarked None (holder_by_marks below) 0 t.below c → LaysTrees d r1 r2 x1 x2 (Grown t.node c Bare) (Grow made.node made.below End) has more) where
      pub tree_laid : WalksOn d None (holder_by_marks marks) (position + 1) others drawn r0 r2 x0 x2 (with_last_tree body made) had more
      tree_laid = walk_tree w t others made more next_tree (lays next_tree.below tree_marked)

      pub tree_memory : RunsOn r0 r2 × KeepsSaved d r0 r2 x0 x2
      tree_memory = ((tree_laid.laid).runs, (tree_laid.laid).keeps)

  -- ... where an interval is next
  module _ {body : Gapped} (w : WalksOn d None (holder_by_marks marks) position trees drawn r0 r1 x0 x1 body had has)
      (holder end len : ℕ) (many : len ≡ position + length trees) (low : position < len) (held : marked_in marks position [] ≡ Some holder) (some : position < end) (within : end ≤ len)
      (run : (j : ℕ) → position < j → j < end → marked_in marks j [] ≡ Some holder) (ends : end < len → marked_in marks end [] ≡ Some holder → ⊥) where
    next_interval : BeginsKept (holder_by_marks marks) position trees w.rest
    next_interval = begins_kept (holder_by_marks marks) position holder trees w.rest w.left (omega (arith, low, many)) held

    end_is : end ≡ position + width next_interval.members
    end_is =
        members_end_is (holder_by_marks marks) position holder end trees w.rest next_interval held some (omega (arith, within, many)) run (λ before. ends (omega (arith, before, many)))

    count_is : end - position ≡ width next_interval.members
    count_is = omega (arith, end_is)

    interval_members : AreMembers (holder_by_marks marks) position (forest_of (take (end - position) trees)) next_interval.members
    interval_members = members_at (holder_by_marks marks) position (end - position) trees w.rest next_interval count_is

    pub interval_can : CanHold (holder_by_marks marks) position (forest_of (take (end - position) trees))
    interval_can = (next_interval.members, interval_members)

    pub interval_not : (r2 : Records) (x2 : D) (e : StoreError)
        → ((c : CutForest) → AreMembers (holder_by_marks marks) position (forest_of (take (end - position) trees)) c → NotStored d (λ was. 1 + proxy_count c + drawn_needs c) (λ was. ⊥) 0 e r1 r2 x1 x2)
        → NotStored d (λ was. drawn_needs drawn) (λ was. ⊥) 0 e r0 r2 x0 x2
    interval_not r2 x2 e refused = interval_refused w next_interval r2 x2 e (refused next_interval.members interval_members)

    pub interval_room : (all : Forest) → IsMarked None (holder_by_marks marks) 0 all drawn → nodes all ≤ 524288 → proxies_in body < 524288
    interval_room all m few = proxies_few w next_interval 524288 m.light (subst (λ (f : Forest). nodes f ≤ 524288) (sym m.trees_are) few)

    module _ {r2 : Records} {x2 : D} (proxy : Proxy) (lays : (c : CutForest) → AreMembers (holder_by_marks marks) position (forest_of (take (end - position) trees)) c → LaysMembers d r1 r2 x1 x2 c proxy) where
      interval_laid : WalksOn d None (holder_by_marks marks) end (drop (end - position) trees) drawn r0 r2 x0 x2 (with_proxy body) had (has ++ proxy ∷ [])
      interval_laid =
          subst (λ (n : ℕ). WalksOn d None (holder_by_marks marks) n (drop (end - position) trees) drawn r0 r2 x0 x2 (with_proxy body) had (has ++ proxy ∷ [])) (sym end_is)
          (subst (λ (n : ℕ). WalksOn d None (holder_by_marks marks) (position + width next_interval.members) (drop n trees) drawn r0 r2 x0 x2 (with_proxy body) had (has ++ proxy ∷ [])) (sym count_is)
          (walk_interval w proxy next_interval refl (lays next_interval.members interval_members)))

      pub interval_memory : RunsOn r0 r2 × KeepsSaved d r0 r2 x0 x2
      interval_memory = ((interval_laid.laid).runs, (interval_laid.laid).keeps)

      pub interval_added : (others : List OrderedTree) (new : List Item) (more : List Proxy) → others ≡ drop (end - position) trees → gapped_of new ≡ with_proxy body → more ≡ has ++ proxy ∷ []
          → WalksOn d None (holder_by_marks marks) end others drawn r0 r2 x0 x2 (gapped_of new) had more
      interval_added others new more left items proxies =
          subst (λ (l : List OrderedTree). WalksOn d None (holder_by_marks marks) end l drawn r0 r2 x0 x2 (gapped_of new) had more) (sym left)
          (subst (λ (g : Gapped). WalksOn d None (holder_by_marks marks) end (drop (end - position) trees) drawn r0 r2 x0 x2 g had more) (sym items)
          (subst (λ (l : List Proxy). WalksOn d None (holder_by_marks marks) end (drop (end - position) trees) drawn r0 r2 x0 x2 (with_proxy body) had l) (sym proxies) interval_laid))

-- the members of an interval
module _ {D : Type 0} {d : Ghosts D} (marks : List Mark) {index position : ℕ} {trees : List OrderedTree} {members : CutForest} {r0 r1 : Records} {x0 x1 : D} {roots : Gapped} {has : List Proxy} where
  -- where one of them is next
  module _ (w : WalksOn d (Some index) (holder_by_marks marks) position trees members r0 r1 x0 x1 roots [] has)
      (free : AreFree members) (t : OrderedTree) (others : List OrderedTree) (below : List Mark) (next : trees ≡ t ∷ others) (are : AreBelow below marks position) where
    next_member : BeginsGrown (Some index) (holder_by_marks marks) position t (forest_of others) w.rest
    next_member =
        first_left (Some index) (holder_by_marks marks) position trees others w.rest t w.left next (free_begins w.rest (free_rest (without_places w.done) w.rest (subst AreFree (sym w.whole) free)))

    member_marked : IsMarked None (holder_by_marks below) 0 t.below next_member.below
    member_marked = below_marked (Some index) marks below position t (forest_of others) w.rest next_member are

    pub member_can : CanMark (holder_by_marks below) 0 t.below
    member_can = (next_member.below, member_marked)

    needs_more : drawn_needs members ≤ 1 + proxy_count members + drawn_needs members
    needs_more = omega arith

    pub member_not : (r2 : Records) (x2 : D) (e : StoreError) → ((c : CutForest) → IsMarked None (holder_by_marks below) 0 t.below c → NotStored d (λ was. content_pages t.node + drawn_needs c) (λ was. ⊥) 0 e r1 r2 x1 x2)
        → NotStored d (λ was. 1 + proxy_count members + drawn_needs members) (λ was. ⊥) 0 e r0 r2 x0 x2
    member_not r2 x2 e refused = needs_fewer d r0 r2 x0 x2 (drawn_needs members) (1 + proxy_count members + drawn_needs members) needs_more e (tree_refused w t others next_member r2 x2 e (refused next_member.below member_marked))

    module _ {r2 : Records} {x2 : D} (made : GappedTree) (more : List Proxy)
        (lays : (c : CutForest) → IsMarked None (holder_by_marks below) 0 t.below c → LaysTrees d r1 r2 x1 x2 (Grown t.node c Bare) (Grow made.node made.below End) has more) where
      pub member_laid : WalksOn d (Some index) (holder_by_marks marks) (position + 1) others members r0 r2 x0 x2 (with_last_tree roots made) [] more
      member_laid = walk_tree w t others made more next_member (lays next_member.below member_marked)

      pub member_memory : RunsOn r0 r2 × KeepsSaved d r0 r2 x0 x2
      member_memory = ((member_laid.laid).runs, (member_laid.laid).keeps)

  -- where none is left
  module _ (w : WalksOn d (Some index) (holder_by_marks marks) position trees members r0 r1 x0 x1 roots [] has) (none : trees ≡ []) where
    all_members : LaysTrees d r0 r1 x0 x1 members roots [] has
    all_members = walk_ends w none

    gathered_is : gathered roots has ≡ piece_of all_members.layout
    gathered_is = piece_is all_members.layout roots has all_members.body_is all_members.proxies_are

    pub gathered_near : AreNear roots
    gathered_near = all_members.near

    layout_near : AreNear (piece_body all_members.layout)
    layout_near = subst AreNear all_members.body_is all_members.near

    layout_far : AreFar (piece_body all_members.layout)
    layout_far = subst AreFar all_members.body_is all_members.far

    pub piece_can : (first : ℕ) (all : Forest) → AreMembers (holder_by_marks marks) first all members → nodes all ≤ 524288 → IsValidPiece (gathered roots has)
    piece_can first all m few = subst IsValidPiece (sym gathered_is) (members_valid (holder_by_marks marks) first all members all_members.layout m all_members.same layout_near layout_far few)

    pub piece_not : (r2 : Records) (x2 : D) (e : StoreError) → NotStored d (λ was. piece_needs (gathered roots has)) (λ was. ⊥) 0 e r1 r2 x1 x2 → NotStored d (λ was. 1 + proxy_count members + drawn_needs members) (λ was. ⊥) 0 e r0 r2 x0 x2
    piece_not r2 x2 e refused =
        members_refused {d = d} {r0 = r0} {r1 = r1} {x0 = x0} {x1 = x1} members all_members.layout r2 x2 e all_members.same all_members.laid
        (subst (λ (p : Piece). NotStored d (λ was. piece_needs p) (λ was. ⊥) 0 e r1 r2 x1 x2) gathered_is refused)

    pub piece_laid : (proxy : Proxy) (r2 : Records) (x2 : D) → AreFree members → proxy.roots ≡ gapped.gapped_width roots → RunsOn r1 r2 → KeepsSaved d r1 r2 x1 x2 → IsStill d x1 x2
        → ComesTo d r1 r2 x1 x2 (λ was now. was.free ≤ now.free + piece_needs (gathered roots has)) → ComesTidyWhere d r1 r2 x1 x2 (λ was. MayName was roots) (λ was now. AddsPiece (place_named proxy) (gathered roots has) was now) → LaysMembers d r0 r2 x0 x2 members proxy
    piece_laid proxy r2 x2 free width runs keeps still takes adds =
        lays_members {d = d} {r0 = r0} {r1 = r1} {r2 = r2} {x0 = x0} {x1 = x1} {x2 = x2} members all_members.layout proxy all_members.same layout_near layout_far all_members.laid (width ∙ ap gapped.gapped_width all_members.body_is) free runs keeps still
        (subst (λ (p : Piece). ComesTo d r1 r2 x1 x2 (λ was now. was.free ≤ now.free + piece_needs p)) gathered_is takes)
        (subst (λ (p : Piece). ComesTidyWhere d r1 r2 x1 x2 (λ was. MayName was p.body.roots) (λ was now. AddsPiece (place_named proxy) p was now)) gathered_is adds)

-- the call that puts the record of an interval, once its members were gathered
module _ {D : Type 0} (d : Ghosts D) (marks : List Mark) (all left : List OrderedTree) (first position : ℕ) (roots : Gapped) (has : List Proxy) (r0 r1 r2 : Records) (x0 x1 x2 : D)
    (walks : (members : CutForest) (m : AreMembers (holder_by_marks marks) first (forest_of all) members) → WalksOn d (Some m.index) (holder_by_marks marks) position left members r0 r1 x0 x1 roots [] has) (none : left ≡ []) where
  pub put_laid : (r : Result Proxy StoreError) → IfOk r (λ proxy. proxy.roots ≡ gapped.gapped_width roots) → IfOk r (λ proxy. ComesTidyWhere d r1 r2 x1 x2 (λ was. MayName was roots) (λ was now. AddsPiece (place_named proxy) (gathered roots has) was now))
      → IfOk r (λ proxy. ComesTo d r1 r2 x1 x2 (λ was now. was.free ≤ now.free + piece_needs (gathered roots has))) → IfOk r (λ proxy. RunsOn r1 r2 × KeepsSaved d r1 r2 x1 x2 × HasChanges r2) → IsStill d x1 x2
      → IfOk r (λ proxy. (members : CutForest) → AreMembers (holder_by_marks marks) first (forest_of all) members → LaysMembers d r0 r2 x0 x2 members proxy)
  put_laid (Ok proxy) width adds takes keeps still = λ members m. piece_laid {d = d} marks (walks members m) none proxy r2 x2 m.free width keeps.0 keeps.1 still takes adds
  put_laid (Err e) width adds takes keeps still = tt

  pub put_not : (r : Result Proxy StoreError) → IfErr r (λ e. NotStored d (λ was. piece_needs (gathered roots has)) (λ was. ⊥) 0 e r1 r2 x1 x2)
      → IfErr r (λ e. (members : CutForest) → AreMembers (holder_by_marks marks) first (forest_of all) members → NotStored d (λ was. 1 + proxy_count members + drawn_needs members) (λ was. ⊥) 0 e r0 r2 x0 x2)
  put_not (Ok proxy) refused = tt
  put_not (Err e) refused = λ members m. piece_not {d = d} marks (walks members m) none r2 x2 e refused
