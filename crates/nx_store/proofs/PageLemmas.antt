-- How many chain pages the long contents of an edited document take.
use Rattle.std.proofs.Common.{◌≡◌, ℕ, zero, suc, ◌+◌, ◌-◌, ◌≤◌, nat_lt, if◌then◌else◌, Bool, true, false, List, [], ◌∷◌, ◌++◌, Option, None, Some, refl, sym, ap, ◌∙◌, arith}
use Rattle.std.specs.Prelude.{option_and_then}
use Rattle.std.specs.Option.{is_some, option_map_or, option_or}
use Rattle.std.proofs.lemmas.Bool.{ltb-true, ltb-false}
use Rattle.std.proofs.lemmas.List.Sums.{sum_by-cons, sum_by-append}
use Rattle.nx_tree.specs.declared.node.Node.{Node}
use Rattle.nx_tree.specs.declared.error.TreeError.{TreeError}
use Rattle.nx_tree.specs.declared.error.TreeError.TheVariants as tree
use Rattle.nx_tree.specs.Forest.{OrderedTree, Forest, Empty, Plant, nodes}
use Rattle.nx_tree.specs.Edit.{child, at as at_path, changed_at, planted_at, removed_at, put, cut_at, retext, has_children, put_refusal, insert_refusal, limit_refusal, is_root_element}
use Rattle.nx_tree.proofs.PutLemmas.{put_goes, nodes_put}
use Rattle.nx_cuts.specs.Cut.{Bare, Grown, Kept, joined, width}
use Rattle.nx_cuts.proofs.FeasibleLemmas.{trees}
use Rattle.nx_layouts.specs.Layout.{RecordPlace, LaidNode, Layout, laid_forest, nodes_in}
use Rattle.nx_layouts.proofs.PathLemmas.{trees-forest, child_in_front, child_behind}
use Rattle.nx_hold.specs.Contents.{bytes_pages, content_pages, forest_pages, tree_pages, near_pages}
use Rattle.nx_state.proofs.ContentLemmas.{pages_in, pages_joined, row_pages}
use Rattle.nx_edit.specs.Editing.{nodes_off}
use Rattle.nx_edit.specs.Refusals.{refused_by, deletion_fault}
use Rattle.nx_edit.specs.Retexting.{other_content, outweighs, outgrows, content_fault}

pages_more : (n : LaidNode) (ns : List LaidNode) → pages_in (n ∷ ns) ≡ content_pages n.node + pages_in ns
pages_more n ns = sum_by-cons (λ (m : LaidNode). content_pages m.node) n ns

pages_both : (ns ms : List LaidNode) → pages_in (ns ++ ms) ≡ pages_in ns + pages_in ms
pages_both ns ms = sum_by-append (λ (m : LaidNode). content_pages m.node) ns ms

-- those of contents that have no list are among those of all
pub near_few : (ns : List LaidNode) → near_pages ns ≤ pages_in ns
near_few [] = omega arith
near_few (n ∷ ns) =
    let rest = near_few ns in
    let near = sum_by-cons (λ (m : LaidNode). option_map_or (λ first. 0) m.list (content_pages m.node)) n ns in
    let all = pages_more n ns in
    let one = fewer n.list (content_pages n.node) in
    omega (arith, rest, near, all, one)
  where
    fewer : (list : Option ℕ) (pages : ℕ) → option_map_or (λ first. 0) list pages ≤ pages
    fewer None pages = omega arith
    fewer (Some first) pages = omega arith

-- ---- trees

changed_pages : (f : Forest) (i : ℕ) (t : OrderedTree) (change : OrderedTree → OrderedTree) → child f i ≡ Some t → forest_pages (changed_at i change f) + tree_pages t ≡ forest_pages f + tree_pages (change t)
changed_pages Empty i t change e = cc
changed_pages (Plant node below beside) zero t change e =
    let same : record { node = node; below = below } ≡ t = cc in
    let was = ap (λ (x : OrderedTree). tree_pages x) same in
    let now = ap (λ (x : OrderedTree). tree_pages (change x)) same in
    omega (arith, was, now)
changed_pages (Plant node below beside) (suc i) t change e = let rest = changed_pages beside i t change e in omega (arith, rest)

removed_pages : (f : Forest) (i : ℕ) (t : OrderedTree) → child f i ≡ Some t → forest_pages (removed_at i f) + tree_pages t ≡ forest_pages f
removed_pages Empty i t e = cc
removed_pages (Plant node below beside) zero t e =
    let same : record { node = node; below = below } ≡ t = cc in
    let was = ap (λ (x : OrderedTree). tree_pages x) same in
    omega (arith, was)
removed_pages (Plant node below beside) (suc i) t e = let rest = removed_pages beside i t e in omega (arith, rest)

-- where the tree came
planted_pages : (f : Forest) (i : ℕ) (t : OrderedTree) → nodes (planted_at i t f) ≡ nodes f + 1 + nodes t.below → forest_pages (planted_at i t f) ≡ forest_pages f + tree_pages t
planted_pages f zero t came = omega arith
planted_pages Empty (suc i) t came = absurd (omega (arith, came))
planted_pages (Plant node below beside) (suc i) t came = let rest = planted_pages beside i t (omega (arith, came)) in omega (arith, rest)

-- the first step to the end of a path
record IsStep (t : OrderedTree) (i : ℕ) (path : List ℕ) (x : OrderedTree) : Type 0 where
  below : OrderedTree
  is : child t.below i ≡ Some below
  leads : at_path below path ≡ Some x

step_to : (t : OrderedTree) (i : ℕ) (path : List ℕ) (x : OrderedTree) → at_path t (i ∷ path) ≡ Some x → IsStep t i path x
step_to t i path x e =
    elim (child t.below i) as (λ o. child t.below i ≡ o → option_and_then (λ y. at_path y path) o ≡ Some x → IsStep t i path x) [
      | None ↦ λ is h. absurd (cc)
      | Some y ↦ λ is h. record { below = y; is = is; leads = h }
    ] refl e

cut_pages : (i : ℕ) (path : List ℕ) (t x : OrderedTree) → at_path t (i ∷ path) ≡ Some x → tree_pages (cut_at (i ∷ path) t) + tree_pages x ≡ tree_pages t
cut_pages i [] t x e =
    let s = step_to t i [] x e in
    let same : s.below ≡ x = let l = s.leads in cc in
    let gone = removed_pages t.below i s.below s.is in
    let is = ap (λ (y : OrderedTree). tree_pages y) same in
    omega (arith, gone, is)
cut_pages i (j ∷ path) t x e =
    let s = step_to t i (j ∷ path) x e in
    let deeper = cut_pages j path s.below x s.leads in
    let changed = changed_pages t.below i s.below (cut_at (j ∷ path)) s.is in
    omega (arith, deeper, changed)

retext_pages : (content path : List ℕ) (t x : OrderedTree) → at_path t path ≡ Some x → tree_pages (retext content path t) + content_pages x.node ≡ tree_pages t + bytes_pages content
retext_pages content [] t x e =
    let same : t ≡ x = cc in
    let is = ap (λ (y : OrderedTree). content_pages y.node) same in
    omega (arith, is)
retext_pages content (i ∷ path) t x e =
    let s = step_to t i path x e in
    let deeper = retext_pages content path s.below x s.leads in
    let changed = changed_pages t.below i s.below (retext content path) s.is in
    omega (arith, deeper, changed)

put_pages : (limit : Option TreeError) (node : Node) (path : List ℕ) (t : OrderedTree) → put_refusal limit node path t ≡ None → tree_pages (put node path t) ≡ tree_pages t + content_pages node
put_pages limit node [] t free = absurd (cc)
put_pages limit node (i ∷ []) t free =
    let more = nodes_put limit node (i ∷ []) t free in
    let planted = planted_pages t.below i (record { node = node; below = Empty }) (omega (arith, more)) in
    omega (arith, planted)
put_pages limit node (i ∷ j ∷ path) t free =
    let s = put_goes limit node i j path t free in
    let deeper = put_pages limit node (j ∷ path) s.0 s.2 in
    let changed = changed_pages t.below i s.0 (put node (j ∷ path)) s.1 in
    omega (arith, deeper, changed)

-- ---- rows

all_stay : (row : Layout) → nodes_off true [] row ≡ nodes_in row
all_stay Bare = refl
all_stay (Grown n b s) = refl
all_stay (Kept p m s) = refl

none_stay : (row : Layout) → nodes_off false [] row ≡ []
none_stay Bare = refl
none_stay (Grown n b s) = refl
none_stay (Kept p m s) = refl

-- what isn't kept of a tree whose node changes, or that goes
abbrev left_pages : (stays : Bool) → OrderedTree → ℕ
left_pages stays x = if stays then content_pages x.node else tree_pages x

kept_off : (stays : Bool) (i : ℕ) (path : List ℕ) (place : RecordPlace) (m s : Layout) (x : OrderedTree) (inside : Bool) → nat_lt i (width m) ≡ inside
    → (option_and_then (λ y. at_path y path) (child (laid_forest m) i) ≡ Some x → pages_in (nodes_off stays (i ∷ path) m) + left_pages stays x ≡ forest_pages (laid_forest m))
    → (option_and_then (λ y. at_path y path) (child (laid_forest s) (i - width m)) ≡ Some x → pages_in (nodes_off stays ((i - width m) ∷ path) s) + left_pages stays x ≡ forest_pages (laid_forest s))
    → option_and_then (λ y. at_path y path) (child (joined (laid_forest m) (laid_forest s)) i) ≡ Some x
    → pages_in (if inside then nodes_off stays (i ∷ path) m ++ nodes_in s else nodes_in m ++ nodes_off stays ((i - width m) ∷ path) s) + left_pages stays x ≡ forest_pages (joined (laid_forest m) (laid_forest s))
kept_off stays i path place m s x true is front behind e =
    let low = ltb-true i (width m) is in
    let wide = trees-forest m in
    let one = front (ap (option_and_then (λ y. at_path y path)) (sym (child_in_front (laid_forest m) (laid_forest s) i (omega (arith, low, wide)))) ∙ e) in
    let other = row_pages s in
    let both = pages_both (nodes_off stays (i ∷ path) m) (nodes_in s) in
    let trees_of = pages_joined (laid_forest m) (laid_forest s) in
    omega (arith, one, other, both, trees_of)
kept_off stays i path place m s x false is front behind e =
    let high = ltb-false i (width m) is in
    let wide = trees-forest m in
    let there : trees (laid_forest m) + (i - width m) ≡ i = omega (arith, high, wide) in
    let moved : child (joined (laid_forest m) (laid_forest s)) i ≡ child (laid_forest s) (i - width m) =
    ap (child (joined (laid_forest m) (laid_forest s))) (sym there) ∙ child_behind (laid_forest m) (laid_forest s) (i - width m) in
    let one = behind (ap (option_and_then (λ y. at_path y path)) (sym moved) ∙ e) in
    let other = row_pages m in
    let both = pages_both (nodes_in m) (nodes_off stays ((i - width m) ∷ path) s) in
    let trees_of = pages_joined (laid_forest m) (laid_forest s) in
    omega (arith, one, other, both, trees_of)

-- the nodes off a path have all the contents but that of the node, or of the tree, at its end
row_off : (stays : Bool) (i : ℕ) (path : List ℕ) (row : Layout) (x : OrderedTree) → option_and_then (λ y. at_path y path) (child (laid_forest row) i) ≡ Some x
    → pages_in (nodes_off stays (i ∷ path) row) + left_pages stays x ≡ forest_pages (laid_forest row)
row_off stays i path Bare x e = absurd (cc)
row_off true zero [] (Grown n b s) x e =
    let same : record { node = n.node; below = laid_forest b } ≡ x = cc in
    let is = ap (λ (y : OrderedTree). content_pages y.node) same in
    let kept = ap (λ (ns : List LaidNode). pages_in (ns ++ nodes_in s)) (all_stay b) in
    let both = pages_both (nodes_in b) (nodes_in s) in
    let one = row_pages b in
    let other = row_pages s in
    omega (arith, is, kept, both, one, other)
row_off false zero [] (Grown n b s) x e =
    let same : record { node = n.node; below = laid_forest b } ≡ x = cc in
    let is = ap (λ (y : OrderedTree). tree_pages y) same in
    let kept = ap (λ (ns : List LaidNode). pages_in (ns ++ nodes_in s)) (none_stay b) in
    let other = row_pages s in
    omega (arith, is, kept, other)
row_off stays zero (j ∷ path) (Grown n b s) x e =
    let deeper = row_off stays j path b x e in
    let more = pages_more n (nodes_off stays (j ∷ path) b ++ nodes_in s) in
    let both = pages_both (nodes_off stays (j ∷ path) b) (nodes_in s) in
    let other = row_pages s in
    omega (arith, deeper, more, both, other)
row_off stays (suc i) path (Grown n b s) x e =
    let further = row_off stays i path s x e in
    let more = pages_more n (nodes_in b ++ nodes_off stays (i ∷ path) s) in
    let both = pages_both (nodes_in b) (nodes_off stays (i ∷ path) s) in
    let one = row_pages b in
    omega (arith, further, more, both, one)
row_off stays i path (Kept p m s) x e = kept_off stays i path p m s x (nat_lt i (width m)) refl (row_off stays i path m x) (row_off stays (i - width m) path s x) e

-- ---- an edited document has no longer contents than those that it keeps and the one that comes

module _ (t : OrderedTree) (row : Layout) (same : laid_forest row ≡ t.below) where
  tree_off : (stays : Bool) (i : ℕ) (path : List ℕ) (x : OrderedTree) → at_path t (i ∷ path) ≡ Some x → pages_in (nodes_off stays (i ∷ path) row) + left_pages stays x ≡ forest_pages t.below
  tree_off stays i path x e = row_off stays i path row x (ap (λ (f : Forest). option_and_then (λ y. at_path y path) (child f i)) same ∙ e) ∙ ap forest_pages same

  all_pages_in : pages_in (nodes_in row) ≡ forest_pages t.below
  all_pages_in = sym (row_pages row) ∙ ap forest_pages same

  pub cut_within : (path : List ℕ) → deletion_fault path t ≡ None → pages_in (nodes_off false path row) ≤ tree_pages (cut_at path t)
  cut_within [] free = absurd (cc)
  cut_within (i ∷ path) free =
      elim (at_path t (i ∷ path)) as (λ o. at_path t (i ∷ path) ≡ o
      → option_and_then refused_by (option_or (if is_some o then None else Some tree.NoNode) (if is_root_element (i ∷ path) t then Some tree.BadPlace else None)) ≡ None
      → pages_in (nodes_off false (i ∷ path) row) ≤ tree_pages (cut_at (i ∷ path) t)) [
        | None ↦ λ is h. absurd (cc)
        | Some x ↦ λ is h.
            let off = tree_off false i path x is in
            let cut = cut_pages i path t x is in
            omega (arith, off, cut)
      ] refl free

  retext_there : (content path : List ℕ) (x : OrderedTree) → at_path t path ≡ Some x → pages_in (nodes_off true path row) + bytes_pages content ≤ tree_pages (retext content path t)
  retext_there content [] x is =
      let all = ap (λ (ns : List LaidNode). pages_in ns) (all_stay row) in
      let pages = all_pages_in in
      omega (arith, all, pages)
  retext_there content (i ∷ path) x is =
      let off = tree_off true i path x is in
      let pages = retext_pages content (i ∷ path) t x is in
      omega (arith, off, pages)

  pub retext_within : (content path : List ℕ) (k : ℕ) → content_fault content path k t ≡ None → pages_in (nodes_off true path row) + bytes_pages content ≤ tree_pages (retext content path t)
  retext_within content path k free =
      elim (at_path t path) as (λ o. at_path t path ≡ o
      → option_or (option_or (option_map_or (λ there. outgrows (other_content content there)) o None) (option_and_then refused_by (option_map_or (λ y. if has_children y.node.kind then Some tree.NoContent else None) o (Some tree.NoNode))))
      (option_map_or (λ there. outweighs k (other_content content there)) o None) ≡ None
      → pages_in (nodes_off true path row) + bytes_pages content ≤ tree_pages (retext content path t)) [
        | None ↦ λ is h. absurd (cc)
        | Some x ↦ λ is h. retext_there content path x is
      ] refl free

  pub put_within : (node : Node) (path : List ℕ) → insert_refusal node path t ≡ None → pages_in (nodes_in row) + content_pages node ≤ tree_pages (put node path t)
  put_within node path free =
      let pages = put_pages (limit_refusal path t) node path t free in
      let all = all_pages_in in
      omega (arith, pages, all)
