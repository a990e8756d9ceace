-- The calls that give a node of a record's own another content.
use Rattle.std.proofs.Common.{◌≡◌, ℕ, ◌≤◌, nat_le, Bool, true, if◌then◌else◌, List, length, Option, None, Some, inl, inr, ◌⊎◌, refl, sym, ap, ◌∙◌, subst, arith}
use Rattle.std.specs.Prelude.{Contains, false}
use Rattle.std.specs.Option.{option_map_or, option_to_list}
use Rattle.std.proofs.lemmas.Bool.Decides.{nat_tests}
use Rattle.nx_host.specs.declared.disk.Disk.{Ghosts}
use Rattle.nx_host.proofs.DiskLemmas.{none_still}
use Rattle.nx_tree.specs.declared.node.Node.{Node}
use Rattle.nx_tree.specs.Document.{most_nodes}
use Rattle.nx_weights.specs.Weight.{longest_near, weight_of}
use Rattle.nx_holdings.specs.Holdings.{Held, chain_count}
use Rattle.nx_records.specs.declared.records.Records.{Records}
use Rattle.nx_records.specs.declared.error.StoreError.{StoreError}
use Rattle.nx_records.specs.declared.error.StoreError.TheVariants as store
use Rattle.nx_records.specs.Records.{has_ended, settings_of}
use Rattle.nx_records.specs.Refusals.{EndNow}
use Rattle.nx_records.proofs.LeaveLemmas.{leaves_same, leaves_runs, leaves_saved}
use Rattle.nx_piece.specs.declared.piece.Far.{Far}
use Rattle.nx_piece.specs.declared.piece.Piece.{Piece}
use Rattle.nx_piece.specs.PieceNode.{IsNearWith, length_with}
use Rattle.nx_piece.specs.Gapped.{GappedTree}
use Rattle.nx_piece.specs.Locate.{Inside}
use Rattle.nx_piece.specs.Valid.{IsPiece, IsValidPiece}
use Rattle.nx_piece.specs.Contents.{fars_in}
use Rattle.nx_piece_edits.specs.Setting.{IsWithContent, node_with_content}
use Rattle.nx_piece_edits.proofs.ContentsLemmas.{edits_bring_content}
use Rattle.nx_matrix.specs.declared.rule.Rule.{Rule}
use Rattle.nx_layouts.specs.Layout.{RecordPlace, Layout}
use Rattle.nx_layouts.specs.Setting.{near_part, far_part}
use Rattle.nx_divide.specs.declared.dividing.Row.{Row}
use Rattle.nx_hold.specs.Changes.{ComesTidyWhere}
use Rattle.nx_hold.specs.Contents.{bytes_pages}
use Rattle.nx_hold.specs.Pieces.{HasContent, IsNoProxies, MayName, PieceMap}
use Rattle.nx_edit.specs.declared.changing.Change.TheVariants as change
use Rattle.nx_edit.specs.Changing as shape
use Rattle.nx_edit.specs.Changing.{Put, IsLaidPut, IsPossibleIn, IsWrittenChange, MayPutIn, ChangesKnown, NotChangedKnown}
use Rattle.nx_edit.specs.Grown.{GrowsFrom}
use Rattle.nx_edit.specs.Growing.{PutsGrown, NotGrown}
use Rattle.nx_edit.specs.RowPut.{IsTreeAt}
use Rattle.nx_edit.specs.Rows.{IsHeldInterval}
use Rattle.nx_edit.proofs.GrownThroughLemmas.{grown_changed, grown_refused}
use Rattle.nx_edit.proofs.SetLemmas.{far_there, set_grows, too_heavy}
use Rattle.nx_edit.proofs.SizeLemmas.{light_node}

pages_near : (content : List ℕ) → length content ≤ longest_near → bytes_pages content ≡ 0
pages_near content near =
    let e : nat_le (length content) longest_near ≡ true = grind (arith, nat_tests) in
    subst (λ (b : Bool). (if b then 0 else chain_count (length content)) ≡ 0) (sym e) refl

short_put : (content : List ℕ) (list : Option ℕ) → IsNearWith (near_part content list) (far_part content list) → option_map_or (λ first. 0) list (bytes_pages content) ≡ 0
short_put content None near = pages_near content near
short_put content (Some first) near = refl

-- a content as it is laid has the length that the program's has
length_put : (content : List ℕ) (list : Option ℕ) → length_with (length (near_part content list)) (far_part content list) ≡ length content
length_put content None = refl
length_put content (Some first) = refl

-- one tree alone stands at the end of a path
inside_same : (one other : GappedTree) (a b : ℕ) → Inside one a ≡ Inside other b → one ≡ other
inside_same one other a b e = cc

-- what a node weighs, by its name and its content
pub same_weight : (name own bytes content : List ℕ) (far : Option Far) → name ≡ own → bytes ≡ content → weight_of (length name) (length_with (length bytes) far) ≡ weight_of (length own) (length_with (length content) far)
same_weight name own bytes content far named said = ap (λ (n : List ℕ). weight_of (length n) (length_with (length bytes) far)) named ∙ ap (λ (b : List ℕ). weight_of (length own) (length_with (length b) far)) said

-- The node of this tree got another content.
module _ (piece changed : Piece) (position : ℕ) (path bytes : List ℕ) (far : Option Far) (s : IsWithContent piece position path bytes far changed) (tree : GappedTree) (at : IsTreeAt piece position path tree) where
  pub same_tree : s.tree ≡ tree
  same_tree = inside_same s.tree tree s.first at.0 (sym s.leads ∙ at.1)

  -- its piece may be divided then, where the node doesn't outweigh k
  pub set_is_piece : (k : ℕ) → IsValidPiece piece → IsWrittenChange (change.Content bytes far) → weight_of (length (tree.node).node.name) (length_with (length bytes) far) ≤ k → k ≤ 256 → IsPiece changed
  set_is_piece k valid written light most =
      let own : weight_of (length ((s.tree).node).node.name) (length_with (length bytes) far) ≤ k = subst (λ (t : GappedTree). weight_of (length (t.node).node.name) (length_with (length bytes) far) ≤ k) (sym same_tree) light in
      s.large valid written.1 (light_node k (node_with_content bytes far (s.tree).node) written own most)

module _ {D : Type 0} (d : Ghosts D) (rules : List Rule) (piece changed : Piece) (place : RecordPlace) (position : ℕ) (path : List ℕ) (r0 r1 : Records) (x0 x1 : D) (runs : has_ended r0 ≡ false) where
  -- the content and its list, as they are laid
  module _ (content : List ℕ) (list : Option ℕ) (s : IsWithContent piece position path (near_part content list) (far_part content list) changed) (near : IsNearWith (near_part content list) (far_part content list)) where
    abbrev laid : Put
    laid = shape.Content content list

    abbrev dropped : List Far
    dropped = option_to_list ((s.tree).node).far

    new_may : (was : Held) → MayPutIn was laid piece → MayName was changed.body.roots
    new_may was may far among = by_case ((edits_bring_content.content_set piece position path (near_part content list) (far_part content list) changed s).fars far among)
      where
        by_case : (far_part content list ≡ Some far) ⊎ Contains (fars_in piece.body.roots) far → HasContent was far × IsNoProxies was far.first
        by_case (inl own) = far_there content list was position far may.1 own
        by_case (inr old) = may.0 far old

    below : ComesTidyWhere d r0 r0 x0 x0 (λ was. MayPutIn was laid piece)
        (λ was mid. MayName mid changed.body.roots × ((pieces : PieceMap was) (members : Layout) → IsHeldInterval was pieces (Some piece) place position path most_nodes members → IsPossibleIn (was.settings).k rules laid position path members
        → GrowsFrom rules laid position path members changed dropped was mid))
    below saved was stands tidy may = (
      was,
      stands,
      tidy,
      (new_may was may, λ pieces members i possible. set_grows rules piece changed place position path content list s (short_put content list near) pieces members i tidy may.1 possible),
    )

    laid_changed : (room : ℕ) (above : Option Node) (row : Row) → ComesTidyWhere d r0 r1 x0 x1 (λ was. MayName was changed.body.roots) (PutsGrown rules room above changed place row)
        → ComesTidyWhere d r0 r1 x0 x1 (λ was. MayPutIn was laid piece) (ChangesKnown rules (Some piece) room above laid place position path row dropped)
    laid_changed room above row puts =
        grown_changed d rules laid piece changed dropped place position path r0 r0 r1 x0 x0 x1 (omega arith) (leaves_runs runs (leaves_same {r0 = r0} {r1 = r0} refl)) (leaves_saved {d = d} (leaves_same {r0 = r0} {r1 = r0} refl) none_still) below room above row puts

    laid_refused : (e : StoreError) → NotGrown d changed place e r0 r1 x0 x1 → NotChangedKnown d rules (Some piece) laid place position path e r0 r1 x0 x1
    laid_refused e refused =
        grown_refused d rules laid piece changed dropped place position path r0 r0 r1 x0 x0 x1 (omega arith) (leaves_runs runs (leaves_same {r0 = r0} {r1 = r0} refl)) (leaves_saved {d = d} (leaves_same {r0 = r0} {r1 = r0} refl) none_still) below e refused

  -- ... as the program has them
  module _ (bytes : List ℕ) (far : Option Far) (s : IsWithContent piece position path bytes far changed) (written : IsWrittenChange (change.Content bytes far)) where
    pub set_changed : (room : ℕ) (above : Option Node) (row : Row) → ComesTidyWhere d r0 r1 x0 x1 (λ was. MayName was changed.body.roots) (PutsGrown rules room above changed place row)
        → (put : Put) → IsLaidPut (change.Content bytes far) put → ComesTidyWhere d r0 r1 x0 x1 (λ was. MayPutIn was put piece) (ChangesKnown rules (Some piece) room above put place position path row (option_to_list ((s.tree).node).far))
    set_changed room above row puts (shape.Content content list) is =
        subst (λ (f : Option Far). Changes bytes f) (sym is.1) (subst (λ (b : List ℕ). Changes b (far_part content list)) (sym is.0) (λ t near. laid_changed content list t near room above row puts)) s written.0
      where
        Changes : List ℕ → Option Far → Type 0
        Changes b f = (t : IsWithContent piece position path b f changed) → IsNearWith b f
            → ComesTidyWhere d r0 r1 x0 x1 (λ was. MayPutIn was (shape.Content content list) piece) (ChangesKnown rules (Some piece) room above (shape.Content content list) place position path row (option_to_list ((t.tree).node).far))
    set_changed room above row puts (shape.Child at node) is = absurd is

    pub set_refused : (e : StoreError) → NotGrown d changed place e r0 r1 x0 x1 → (put : Put) → IsLaidPut (change.Content bytes far) put → NotChangedKnown d rules (Some piece) put place position path e r0 r1 x0 x1
    set_refused e refused (shape.Content content list) is =
        subst (λ (f : Option Far). Refuses bytes f) (sym is.1) (subst (λ (b : List ℕ). Refuses b (far_part content list)) (sym is.0) (λ t near. laid_refused content list t near e refused)) s written.0
      where
        Refuses : List ℕ → Option Far → Type 0
        Refuses b f = IsWithContent piece position path b f changed → IsNearWith b f → NotChangedKnown d rules (Some piece) (shape.Content content list) place position path e r0 r1 x0 x1
    set_refused e refused (shape.Child at node) is = absurd is

-- Where the node outweighs k with the content, the change may be made nowhere.
module _ {D : Type 0} (d : Ghosts D) (rules : List Rule) (piece : Piece) (place : RecordPlace) (position : ℕ) (path bytes : List ℕ) (far : Option Far) (tree : GappedTree) (at : IsTreeAt piece position path tree) (r0 r1 : Records) (x0 x1 : D) where
  pub set_heavy : (weight_of (length (tree.node).node.name) (length_with (length bytes) far) ≤ (settings_of r0).k → ⊥) → EndNow r0 r1 → (page : ℕ) (put : Put) → IsLaidPut (change.Content bytes far) put
      → NotChangedKnown d rules (Some piece) put place position path (store.Damaged page) r0 r1 x0 x1
  set_heavy not ends page (shape.Content content list) is =
      let same : length_with (length bytes) far ≡ length content =
      ap (λ (b : List ℕ). length_with (length b) far) is.0 ∙ ap (λ (f : Option Far). length_with (length (near_part content list)) f) is.1 ∙ length_put content list in
      too_heavy piece position path content list tree at d rules place r0 r1 x0 (λ light. not (subst (λ (n : ℕ). weight_of (length (tree.node).node.name) n ≤ (settings_of r0).k) (sym same) light)) ends
  set_heavy not ends page (shape.Child at node) is = absurd is
