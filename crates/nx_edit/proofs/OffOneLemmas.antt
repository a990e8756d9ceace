-- The nodes of a row but one of its record's own, which gets another content.
use Rattle.std.proofs.Common.{◌≡◌, ℕ, zero, suc, ◌-◌, ◌≤◌, List, [], ◌∷◌, ◌++◌, Option, refl, sym, ap, ◌∙◌, arith, append_assoc, IsPermutation}
use Rattle.std.specs.Prelude.{true}
use Rattle.std.specs.List.{sum_by}
use Rattle.std.specs.Option.{option_map_or, option_to_list}
use Rattle.std.proofs.lemmas.List.Sums.{sum_by-append, sum_by-cons}
use Rattle.nx_piece.specs.PieceNode.{PieceNode}
use Rattle.nx_piece.specs.Gapped.{Gapped, GappedTree, End, Grow, Gap}
use Rattle.nx_piece_edits.proofs.LeftLemmas.{not_less}
use Rattle.nx_cuts.specs.Cut.{Bare, Grown, Kept, width}
use Rattle.nx_layouts.specs.Layout.{LaidNode, Layout, contents_of, in_record, lists_of, nodes_in, piece_body}
use Rattle.nx_layouts.specs.Cutting.{layout_at, StaysIn}
use Rattle.nx_layouts.specs.Setting.{layout_with, with_other}
use Rattle.nx_layouts.proofs.NodeLemmas.{lists-append}
use Rattle.nx_hold.specs.Contents.{bytes_pages, content_pages, near_pages}
use Rattle.nx_edit.specs.Editing.{nodes_off}
use Rattle.nx_edit.specs.Removing.{fars_of}
use Rattle.nx_edit.proofs.FarLemmas.{fars-append, near-append}
use Rattle.nx_edit.proofs.OrderLemmas.{fars_by_sums, lists_by_sums}

-- the first node of a forest with gaps
abbrev pub node_in : PieceNode → Gapped → PieceNode
node_in other End = other
node_in other (Grow node below beside) = node
node_in other (Gap count beside) = other

off_none : (row : Layout) → nodes_off true [] row ≡ nodes_in row
off_none Bare = refl
off_none (Grown n b s) = refl
off_none (Kept p m s) = refl

-- The node at the end of the path stands between these, which are the others; and so does it with another content.
pub record IsOffOne (position : ℕ) (path content : List ℕ) (list : Option ℕ) (tree : GappedTree) (row : Layout) : Type 0 where
  pub before : List LaidNode
  pub node : LaidNode
  pub behind : List LaidNode
  pub shown : in_record node ≡ tree.node
  pub were : nodes_in row ≡ before ++ (node ∷ behind)
  pub off : nodes_off true (position ∷ path) row ≡ before ++ behind
  pub are : nodes_in (layout_with position path content list row) ≡ before ++ (with_other content list node ∷ behind)

behind_more : (before rest beside : List LaidNode) → (before ++ rest) ++ beside ≡ before ++ (rest ++ beside)
behind_more before rest beside = append_assoc before rest beside

pub off_one : (position : ℕ) (path content : List ℕ) (list : Option ℕ) (tree : GappedTree) (row : Layout) → StaysIn position path row → piece_body (layout_at position path row) ≡ Grow tree.node tree.below End → IsOffOne position path content list tree row
off_one position path content list tree Bare h e = absurd h
off_one zero [] content list tree (Grown n b s) h e = record {
  before = [];
  node = n;
  behind = nodes_in b ++ nodes_in s;
  shown = ap (node_in (in_record n)) e;
  were = refl;
  off = ap (λ (ns : List LaidNode). ns ++ nodes_in s) (off_none b);
  are = refl;
}
off_one zero (q ∷ path) content list tree (Grown n b s) h e =
    let r = off_one q path content list tree b h e in
    record {
      before = n ∷ r.before;
      node = r.node;
      behind = r.behind ++ nodes_in s;
      shown = r.shown;
      were = ap (λ (ns : List LaidNode). n ∷ ns ++ nodes_in s) r.were ∙ ap (λ (ns : List LaidNode). n ∷ ns) (behind_more r.before (r.node ∷ r.behind) (nodes_in s));
      off = ap (λ (ns : List LaidNode). n ∷ ns ++ nodes_in s) r.off ∙ ap (λ (ns : List LaidNode). n ∷ ns) (behind_more r.before r.behind (nodes_in s));
      are = ap (λ (ns : List LaidNode). n ∷ ns ++ nodes_in s) r.are ∙ ap (λ (ns : List LaidNode). n ∷ ns) (behind_more r.before (with_other content list r.node ∷ r.behind) (nodes_in s));
    }
off_one (suc position) path content list tree (Grown n b s) h e =
    let r = off_one position path content list tree s h e in
    record {
      before = n ∷ nodes_in b ++ r.before;
      node = r.node;
      behind = r.behind;
      shown = r.shown;
      were = ap (λ (ns : List LaidNode). n ∷ nodes_in b ++ ns) r.were ∙ sym (behind_more (n ∷ nodes_in b) r.before (r.node ∷ r.behind));
      off = ap (λ (ns : List LaidNode). n ∷ nodes_in b ++ ns) r.off ∙ sym (behind_more (n ∷ nodes_in b) r.before r.behind);
      are = ap (λ (ns : List LaidNode). n ∷ nodes_in b ++ ns) r.are ∙ sym (behind_more (n ∷ nodes_in b) r.before (with_other content list r.node ∷ r.behind));
    }
off_one position path content list tree (Kept p m s) h e =
    let r = off_one (position - width m) path content list tree s h.1 e in
    record {
      before = nodes_in m ++ r.before;
      node = r.node;
      behind = r.behind;
      shown = r.shown;
      were = ap (λ (ns : List LaidNode). nodes_in m ++ ns) r.were ∙ sym (behind_more (nodes_in m) r.before (r.node ∷ r.behind));
      off = not_less position (width m) (nodes_off true (position ∷ path) m ++ nodes_in s) (nodes_in m ++ nodes_off true ((position - width m) ∷ path) s) h.0
          ∙ ap (λ (ns : List LaidNode). nodes_in m ++ ns) r.off ∙ sym (behind_more (nodes_in m) r.before r.behind);
      are = ap (λ (ns : List LaidNode). nodes_in m ++ ns) r.are ∙ sym (behind_more (nodes_in m) r.before (with_other content list r.node ∷ r.behind));
    }

module _ {position : ℕ} {path content : List ℕ} {list : Option ℕ} {tree : GappedTree} {row : Layout} (r : IsOffOne position path content list tree row) where
  -- the far content of the node is named no more
  pub one_went : IsPermutation (fars_of (nodes_off true (position ∷ path) row) ++ option_to_list (tree.node).far) (fars_of (nodes_in row))
  one_went = fars_by_sums (fars_of (nodes_off true (position ∷ path) row) ++ option_to_list (tree.node).far) (fars_of (nodes_in row))
      (λ f.
      let all = ap (λ (ns : List LaidNode). sum_by f (fars_of ns)) r.were ∙ ap (sum_by f) (fars-append r.before (r.node ∷ r.behind)) in
      let off = ap (λ (ns : List LaidNode). sum_by f (fars_of ns)) r.off ∙ ap (sum_by f) (fars-append r.before r.behind) in
      let own = ap (λ (n : PieceNode). sum_by f (option_to_list n.far)) r.shown in
      let a = sum_by-append f (fars_of r.before) (option_to_list (in_record r.node).far ++ fars_of r.behind) in
      let b = sum_by-append f (option_to_list (in_record r.node).far) (fars_of r.behind) in
      let c = sum_by-append f (fars_of r.before) (fars_of r.behind) in
      let e = sum_by-append f (fars_of (nodes_off true (position ∷ path) row)) (option_to_list (tree.node).far) in
      omega (arith, all, off, own, a, b, c, e))

  -- ... and the list of the new one, where it has one, is
  pub one_came : IsPermutation (contents_of (layout_with position path content list row)) (lists_of (nodes_off true (position ∷ path) row) ++ (option_to_list list ++ []))
  one_came = lists_by_sums (contents_of (layout_with position path content list row)) (lists_of (nodes_off true (position ∷ path) row) ++ (option_to_list list ++ []))
      (λ f.
      let all = ap (λ (ns : List LaidNode). sum_by f (lists_of ns)) r.are ∙ ap (sum_by f) (lists-append r.before (with_other content list r.node ∷ r.behind)) in
      let off = ap (λ (ns : List LaidNode). sum_by f (lists_of ns)) r.off ∙ ap (sum_by f) (lists-append r.before r.behind) in
      let a = sum_by-append f (lists_of r.before) (option_to_list list ++ lists_of r.behind) in
      let b = sum_by-append f (option_to_list list) (lists_of r.behind) in
      let c = sum_by-append f (lists_of r.before) (lists_of r.behind) in
      let e = sum_by-append f (lists_of (nodes_off true (position ∷ path) row)) (option_to_list list ++ []) in
      let g = sum_by-append f (option_to_list list) [] in
      omega (arith, all, off, a, b, c, e, g))

  -- no more long contents have no list
  pub one_pages : option_map_or (λ first. 0) list (bytes_pages content) ≡ 0 → near_pages (nodes_in (layout_with position path content list row)) ≤ near_pages (nodes_off true (position ∷ path) row)
  one_pages none =
      let all = ap near_pages r.are ∙ near-append r.before (with_other content list r.node ∷ r.behind) in
      let off = ap near_pages r.off ∙ near-append r.before r.behind in
      let own = sum_by-cons (λ (n : LaidNode). option_map_or (λ first. 0) n.list (content_pages n.node)) (with_other content list r.node) r.behind in
      omega (arith, all, off, own, none)
