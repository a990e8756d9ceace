-- The calls that write the first content that is too long for its item: of a tree, and of the roots of a piece, which is made far behind it.
use Rattle.std.proofs.Common.{◌≡◌, ℕ, ◌+◌, ◌≤◌, ◌<◌, Bool, true, false, if◌then◌else◌, List, [], ◌∷◌, length, get_or, set, Option, None, Some, refl, sym, ap, ap₂, ◌∙◌, subst, arith}
use Rattle.std.specs.Prelude.{IsSome}
use Rattle.std.specs.Option.{option_map_or, option_or}
use Rattle.std.proofs.lemmas.Bool.{false≢true}
use Rattle.std.proofs.lemmas.Option.{get_or_from_slice_get}
use Rattle.nx_host.specs.declared.disk.Disk.{Ghosts}
use Rattle.nx_host.specs.Still.{IsStill}
use Rattle.nx_tree.specs.Document.{longest_node}
use Rattle.nx_holdings.specs.Holdings.{chain_count}
use Rattle.nx_records.specs.declared.records.Records.{Records}
use Rattle.nx_records.specs.declared.error.StoreError.{StoreError}
use Rattle.nx_records.specs.Records.{ComesTo, KeepsSaved}
use Rattle.nx_records.specs.Changes.{WritesList}
use Rattle.nx_records.specs.Refusals.{NotStored, RunsOn}
use Rattle.nx_piece.specs.declared.piece.Far.{Far}
use Rattle.nx_piece.specs.declared.piece.Item.{Item}
use Rattle.nx_piece.specs.declared.piece.Item.TheVariants.{Tree, Run}
use Rattle.nx_piece.specs.declared.piece.Piece.{Piece}
use Rattle.nx_piece.specs.PieceNode.{PieceNode, item_slots}
use Rattle.nx_piece.specs.Gapped.{Gapped, GappedTree, End, Grow, Gap, grown_of, gapped_size, item_count}
use Rattle.nx_piece.specs.Items.{gapped_of}
use Rattle.nx_piece.specs.Valid.{AreNear, IsPiece}
use Rattle.nx_piece_edits.specs.Setting.{node_with_content}
use Rattle.nx_piece_edits.proofs.TakeLemmas.{not_tree, same_items, same_tree}
use Rattle.nx_hold.specs.Contents.{near_in}
use Rattle.nx_hold.specs.Changes.{ComesTidyWhere}
use Rattle.nx_hold.specs.Pieces.{MayName}
use Rattle.nx_hold.proofs.PieceLemmas.{some_same}
use Rattle.nx_edit.specs.Making.{IsFirstLongItem, IsFirstLongRoot, IsMadeFar, LeavesPieces, MakesFar, first_long, needs_list, with_far}
use Rattle.nx_edit.proofs.LongLemmas.{IsRootLong, IsThereLong, far_stays, item_there, none_long, not_own, root_there}
use Rattle.nx_edit.proofs.MakingLemmas.{made_more, makes_none, put, put_is_piece, same_piece, size_less}
use Rattle.nx_edit.proofs.MakingCalls.{comes_more, first_refused, later_refused, leaves_more}

-- What is ensured of a forest whose first such content was written.
abbrev pub HasWritten : {D : Type 0} → Ghosts D → Records → Records → D → D → Gapped → Gapped → Type 0
HasWritten d r0 r1 x0 x1 old new = (content : List ℕ) → first_long old ≡ Some content → (far : Far) × (far.length ≡ length content) × (new ≡ with_far far old) × ComesTo d r0 r1 x0 x1 (λ was now. WritesList far.first content was now)

-- ... and of one whose first such content couldn't be written.
abbrev pub IsUnwritten : {D : Type 0} → Ghosts D → StoreError → Records → Records → D → D → Gapped → Type 0
IsUnwritten d e r0 r1 x0 x1 old = (content : List ℕ) → first_long old ≡ Some content → NotStored d (λ was. chain_count (length content)) (λ was. ⊥) 0 e r0 r1 x0 x1

-- ---- the node's own content

own_found : (n : PieceNode) (below : Gapped) (content : List ℕ) → needs_list n ≡ true → first_long (Grow n below End) ≡ Some content → n.node.content ≡ content
own_found n below content long found = some_same (sym (ap (λ (t : Bool). if t then Some n.node.content else option_or (first_long below) None) long) ∙ found)

own_put : (far : Far) (n : PieceNode) (below : Gapped) → needs_list n ≡ true → with_far far (Grow n below End) ≡ Grow (node_with_content [] (Some far) n) below End
own_put far n below long = ap (λ (t : Bool). if t then Grow (node_with_content [] (Some far) n) below End else option_map_or (λ there. Grow n (with_far far below) End) (first_long below) (Grow n below End)) long

module _ {D : Type 0} (d : Ghosts D) (r0 r1 : Records) (x0 x1 : D) (inside tree : GappedTree) (bytes : List ℕ) (view : inside ≡ tree) (long : needs_list tree.node ≡ true) (read : bytes ≡ inside.node.node.content) where
  own_all : (content : List ℕ) → first_long (Grow tree.node tree.below End) ≡ Some content → inside.node.node.content ≡ content
  own_all content found = ap (λ (t : GappedTree). t.node.node.content) view ∙ own_found tree.node tree.below content long found

  pub own_written : (first len : ℕ) (new : List ℕ) → len ≡ length inside.node.node.content → new ≡ [] → ComesTo d r0 r1 x0 x1 (λ was now. WritesList first bytes was now)
      → HasWritten d r0 r1 x0 x1 (Grow tree.node tree.below End) (Grow (node_with_content new (Some (record { first = first; length = len })) inside.node) inside.below End)
  own_written first len new counted empty comes content found =
      let far : Far = record { first = first; length = len } in
      let all : inside.node.node.content ≡ content = own_all content found in (
        far,
        counted ∙ ap (λ (l : List ℕ). length l) all,
        ap (λ (l : List ℕ). Grow (node_with_content l (Some far) inside.node) inside.below End) empty
            ∙ ap (λ (t : GappedTree). Grow (node_with_content [] (Some far) t.node) t.below End) view
            ∙ sym (own_put far tree.node tree.below long),
        subst (λ (l : List ℕ). ComesTo d r0 r1 x0 x1 (λ was now. WritesList first l was now)) (read ∙ all) comes,
      )

  pub own_refused : (e : StoreError) → NotStored d (λ was. chain_count (length bytes)) (λ was. ⊥) 0 e r0 r1 x0 x1 → IsUnwritten d e r0 r1 x0 x1 (Grow tree.node tree.below End)
  own_refused e refused content found = subst (λ (l : List ℕ). NotStored d (λ was. chain_count (length l)) (λ was. ⊥) 0 e r0 r1 x0 x1) (read ∙ own_all content found) refused

-- ---- a content below it

below_found : (n : PieceNode) (below : Gapped) (content : List ℕ) → needs_list n ≡ false → first_long (Grow n below End) ≡ Some content → first_long below ≡ Some content
below_found n below content short found = sym (not_own n below short) ∙ found

below_put : (far : Far) (n : PieceNode) (below : Gapped) (content : List ℕ) → needs_list n ≡ false → first_long below ≡ Some content → with_far far (Grow n below End) ≡ Grow n (with_far far below) End
below_put far n below content short found =
    ap (λ (t : Bool). if t then Grow (node_with_content [] (Some far) n) below End else option_map_or (λ there. Grow n (with_far far below) End) (first_long below) (Grow n below End)) short
    ∙ ap (λ (o : Option (List ℕ)). option_map_or (λ there. Grow n (with_far far below) End) o (Grow n below End)) found

-- the items are those that were searched
pub there_below : (below : Gapped) (searched items : List Item) (index : ℕ) → gapped_of searched ≡ below → gapped_of items ≡ below → IsFirstLongItem searched index → IsThereLong items index
there_below below searched items index seen whole first = item_there items index (subst (λ (xs : List Item). IsFirstLongItem xs index) (same_items searched items (seen ∙ sym whole)) first)

-- what is read at the index is the tree that has it
module _ {items : List Item} {index : ℕ} (there : IsThereLong items index) (read : Item) (value : read ≡ get_or items index read) where
  read_is : read ≡ Tree there.tree
  read_is = value ∙ get_or_from_slice_get items index (Tree there.tree) read there.there

  pub child_is : (child : GappedTree) → read ≡ Tree child → child ≡ there.tree
  child_is child is = same_tree child there.tree (sym is ∙ read_is)

  pub no_run : (count : ℕ) → read ≡ Run count → ⊥
  no_run count is = not_tree count there.tree (sym is ∙ read_is)

module _ {items : List Item} {index : ℕ} (there : IsThereLong items index) (child : GappedTree) (is : child ≡ there.tree) where
  pub child_falls : (below : Gapped) → gapped_of items ≡ below → item_count child.below < item_count below
  child_falls below whole =
      let falls = there.falls in
      let all = ap item_count whole in
      let own = ap (λ (t : GappedTree). item_count t.below) is in
      omega (arith, falls, all, own)

  pub child_some : IsSome (first_long (Grow child.node child.below End))
  child_some = subst (λ (t : GappedTree). IsSome (first_long (Grow t.node t.below End))) (sym is) there.some

  pub child_small : (tree : GappedTree) → gapped_of items ≡ tree.below → item_slots tree.node + gapped_size tree.below ≤ 512 → item_slots child.node + gapped_size child.below ≤ 512
  child_small tree whole small =
      let own = there.small in
      let all = ap gapped_size whole in
      let fits : item_slots (there.tree).node + gapped_size (there.tree).below ≤ 512 = omega (arith, own, all, small) in
      subst (λ (t : GappedTree). item_slots t.node + gapped_size t.below ≤ 512) (sym is) fits

  child_found : (tree : GappedTree) (content : List ℕ) → gapped_of items ≡ tree.below → first_long tree.below ≡ Some content → first_long (Grow child.node child.below End) ≡ Some content
  child_found tree content whole found = ap (λ (t : GappedTree). first_long (Grow t.node t.below End)) is ∙ sym there.same ∙ ap first_long whole ∙ found

  module _ {D : Type 0} (d : Ghosts D) (r0 r1 : Records) (x0 x1 : D) (inside tree : GappedTree) (view : inside ≡ tree) (short : needs_list tree.node ≡ false) (whole : gapped_of items ≡ tree.below) where
    pub below_written : (new : GappedTree) (below : Gapped) → below ≡ gapped_of (set items index (Tree new)) → HasWritten d r0 r1 x0 x1 (Grow child.node child.below End) (Grow new.node new.below End)
        → HasWritten d r0 r1 x0 x1 (Grow tree.node tree.below End) (Grow inside.node below End)
    below_written new below put_is written content found =
        let own : first_long tree.below ≡ Some content = below_found tree.node tree.below content short found in
        let w = written content (child_found tree content whole own) in
        let far : Far = w.0 in
        let new_is : Grow new.node new.below End ≡ with_far far (Grow (there.tree).node (there.tree).below End) = w.2 ∙ ap (λ (t : GappedTree). with_far far (Grow t.node t.below End)) is in (
          far,
          w.1,
          ap₂ (λ (n : PieceNode) (f : Gapped). Grow n f End) (ap (λ (t : GappedTree). t.node) view) (put_is ∙ there.put far new new_is ∙ ap (λ (f : Gapped). with_far far f) whole) ∙ sym (below_put far tree.node tree.below content short own),
          w.3,
        )

    pub below_refused : (e : StoreError) → IsUnwritten d e r0 r1 x0 x1 (Grow child.node child.below End) → IsUnwritten d e r0 r1 x0 x1 (Grow tree.node tree.below End)
    below_refused e refused content found = refused content (child_found tree content whole (below_found tree.node tree.below content short found))

-- ---- the roots of a piece

some_of : (o : Option (List ℕ)) → IsSome o → (content : List ℕ) × (o ≡ Some content)
some_of None h = absurd (false≢true h)
some_of (Some content) h = (content, refl)

abbrev roots_in : Gapped → List GappedTree
roots_in End = []
roots_in (Grow node below beside) = record { node = node; below = below } ∷ roots_in beside
roots_in (Gap count beside) = roots_in beside

roots_back : (roots : List GappedTree) → roots_in (grown_of roots) ≡ roots
roots_back [] = refl
roots_back (t ∷ roots) = ap (λ (ts : List GappedTree). t ∷ ts) (roots_back roots)

-- the roots are those that were searched
pub there_root : (body : Gapped) (searched roots : List GappedTree) (index : ℕ) → grown_of searched ≡ body → grown_of roots ≡ body → IsFirstLongRoot searched index → IsRootLong roots index
there_root body searched roots index seen whole first =
    root_there roots index (subst (λ (ts : List GappedTree). IsFirstLongRoot ts index) (sym (roots_back searched) ∙ ap roots_in (seen ∙ sym whole) ∙ roots_back roots) first)

pub root_is : {roots : List GappedTree} {index : ℕ} (there : IsRootLong roots index) (read : GappedTree) → read ≡ get_or roots index read → read ≡ there.tree
root_is {roots} {index} there read value = value ∙ get_or_from_slice_get roots index there.tree read there.there

-- ... which have none
pub near_none : (body : Gapped) (searched : List GappedTree) → grown_of searched ≡ body → first_long (grown_of searched) ≡ None → AreNear body
near_none body searched seen none = none_long body (ap first_long (sym seen) ∙ none)

pub comes_none : {D : Type 0} (d : Ghosts D) (r : Records) (x : D) (piece : Piece) → ComesTidyWhere d r r x x (λ was. MayName was piece.body.roots) (MakesFar piece piece)
comes_none d r x piece saved now stands tidy may = (now, stands, tidy, makes_none piece now may)

pub leaves_none : {D : Type 0} (d : Ghosts D) (r : Records) (x : D) (needs : ℕ) → ComesTo d r r x x (LeavesPieces needs)
leaves_none d r x needs saved now stands = (now, stands, (omega arith, λ place piece holds. holds))

-- a content of a piece is no longer than a node's may be
content_fits : (far : Far) (content : List ℕ) (piece : Piece) → first_long piece.body.roots ≡ Some content → far.length ≡ length content → IsPiece piece → far.length ≤ longest_node
content_fits far content piece long length_is is =
    let bound = (far_stays far content piece.body.roots long length_is).bound in
    let small = is.body.small in
    omega (arith, bound, small, length_is)

-- The first such content of a piece was written, and the next piece names its list.
pub record IsPieceWritten {D : Type 0} (d : Ghosts D) (r0 r1 : Records) (x0 x1 : D) (piece next : Piece) : Type 0 where
  pub content : List ℕ
  pub far : Far
  pub long : first_long piece.body.roots ≡ Some content
  pub length_is : far.length ≡ length content
  pub fits : far.length ≤ longest_node
  pub is : next ≡ put piece content far long length_is fits
  pub writes : ComesTo d r0 r1 x0 x1 (λ was now. WritesList far.first content was now)

module _ {roots : List GappedTree} {index : ℕ} (there : IsRootLong roots index) (child : GappedTree) (child_is : child ≡ there.tree) (piece : Piece) (whole : grown_of roots ≡ piece.body.roots) (is_piece : IsPiece piece) where
  pub root_some : IsSome (first_long (Grow child.node child.below End))
  root_some = subst (λ (t : GappedTree). IsSome (first_long (Grow t.node t.below End))) (sym child_is) there.some

  pub root_small : item_slots child.node + gapped_size child.below ≤ 512
  root_small =
      let own = there.small in
      let all = ap gapped_size whole in
      let most = is_piece.body.small in
      let fits : item_slots (there.tree).node + gapped_size (there.tree).below ≤ 512 = omega (arith, own, all, most) in
      subst (λ (t : GappedTree). item_slots t.node + gapped_size t.below ≤ 512) (sym child_is) fits

  found : (content : List ℕ) × (first_long (Grow (there.tree).node (there.tree).below End) ≡ Some content)
  found = some_of (first_long (Grow (there.tree).node (there.tree).below End)) there.some

  found_child : first_long (Grow child.node child.below End) ≡ Some found.0
  found_child = ap (λ (t : GappedTree). first_long (Grow t.node t.below End)) child_is ∙ found.1

  found_long : first_long piece.body.roots ≡ Some found.0
  found_long = ap first_long (sym whole) ∙ there.same ∙ found.1

  module _ {D : Type 0} (d : Ghosts D) (r0 r1 : Records) (x0 x1 : D) where
    pub piece_written : (next : Piece) (new : GappedTree) → next.body.roots ≡ grown_of (set roots index new) → next.proxies ≡ piece.proxies → HasWritten d r0 r1 x0 x1 (Grow child.node child.below End) (Grow new.node new.below End)
        → IsPieceWritten d r0 r1 x0 x1 piece next
    piece_written next new body proxies written =
        let w = written found.0 found_child in
        let far : Far = w.0 in
        let new_is : Grow new.node new.below End ≡ with_far far (Grow (there.tree).node (there.tree).below End) = w.2 ∙ ap (λ (t : GappedTree). with_far far (Grow t.node t.below End)) child_is in
        let fits : far.length ≤ longest_node = content_fits far found.0 piece found_long w.1 is_piece in
        record {
          content = found.0;
          far = far;
          long = found_long;
          length_is = w.1;
          fits = fits;
          is = same_piece next (put piece found.0 far found_long w.1 fits) (body ∙ there.put far new new_is ∙ ap (λ (f : Gapped). with_far far f) whole) proxies;
          writes = w.3;
        }

    pub piece_refused : (e : StoreError) → IsUnwritten d e r0 r1 x0 x1 (Grow child.node child.below End) → NotStored d (λ was. near_in piece.body.roots) (λ was. ⊥) 0 e r0 r1 x0 x1
    piece_refused e refused =
        let far : Far = record { first = 0; length = length found.0 } in
        first_refused d piece found.0 far found_long refl (content_fits far found.0 piece found_long refl is_piece) r0 r1 x0 x1 e (refused found.0 found_child)

-- ---- the piece is made far behind that

module _ {D : Type 0} {d : Ghosts D} {r0 r1 : Records} {x0 x1 : D} {piece next : Piece} (w : IsPieceWritten d r0 r1 x0 x1 piece next) where
  pub next_is_piece : IsPiece piece → IsPiece next
  next_is_piece is = subst IsPiece (sym w.is) (put_is_piece piece w.content w.far w.long w.length_is w.fits is)

  pub next_smaller : gapped_size next.body.roots < gapped_size piece.body.roots
  next_smaller = subst (λ (p : Piece). gapped_size p.body.roots < gapped_size piece.body.roots) (sym w.is) (size_less piece w.content w.far w.long w.length_is w.fits)

  pub next_made : (made : Piece) → IsMadeFar next made → IsMadeFar piece made
  next_made made m = made_more piece w.content w.far w.long w.length_is w.fits made (subst (λ (p : Piece). IsMadeFar p made) w.is m)

  pub next_comes : (r2 : Records) (x2 : D) (made : Piece) → ComesTidyWhere d r1 r2 x1 x2 (λ was. MayName was next.body.roots) (MakesFar next made) → ComesTidyWhere d r0 r2 x0 x2 (λ was. MayName was piece.body.roots) (MakesFar piece made)
  next_comes r2 x2 made makes =
      comes_more {d = d} piece w.content w.far w.long w.length_is w.fits {r0 = r0} {r1 = r1} {x0 = x0} {x1 = x1} w.writes {r2 = r2} {x2 = x2} made
      (subst (λ (p : Piece). ComesTidyWhere d r1 r2 x1 x2 (λ was. MayName was p.body.roots) (MakesFar p made)) w.is makes)

  pub next_leaves : (r2 : Records) (x2 : D) → ComesTo d r1 r2 x1 x2 (LeavesPieces (near_in next.body.roots)) → ComesTo d r0 r2 x0 x2 (LeavesPieces (near_in piece.body.roots))
  next_leaves r2 x2 leaves =
      leaves_more {d = d} piece w.content w.far w.long w.length_is w.fits {r0 = r0} {r1 = r1} {x0 = x0} {x1 = x1} w.writes r2 x2
      (subst (λ (p : Piece). ComesTo d r1 r2 x1 x2 (LeavesPieces (near_in p.body.roots))) w.is leaves)

  pub next_refused : RunsOn r0 r1 → KeepsSaved d r0 r1 x0 x1 → IsStill d x0 x1 → (r2 : Records) (x2 : D) (e : StoreError) → NotStored d (λ was. near_in next.body.roots) (λ was. ⊥) 0 e r1 r2 x1 x2
      → NotStored d (λ was. near_in piece.body.roots) (λ was. ⊥) 0 e r0 r2 x0 x2
  next_refused runs keeps still r2 x2 e refused =
      later_refused {d = d} piece w.content w.far w.long w.length_is w.fits {r0 = r0} {r1 = r1} {x0 = x0} {x1 = x1} w.writes runs keeps still r2 x2 e
      (subst (λ (p : Piece). NotStored d (λ was. near_in p.body.roots) (λ was. ⊥) 0 e r1 r2 x1 x2) w.is refused)
