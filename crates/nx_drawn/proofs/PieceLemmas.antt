-- A split sees of the piece of an interval what it sees of the interval's part.
use Rattle.std.proofs.Common.{◌≡◌, ℕ, suc, ◌+◌, List, [], ◌∷◌, ◌++◌, length, take, Option, None, Some, refl, sym, ap, ◌∙◌, arith, append_assoc, append-nil, length-append}
use Rattle.std.specs.List.{sum_by}
use Rattle.std.proofs.lemmas.List.Sums.{sum_by-cons}
use Rattle.std.proofs.Math.Seq.{drop-append_seam, drop-append-add}
use Rattle.nx_tree.specs.declared.node.Node.{Node}
use Rattle.nx_weights.specs.Weight.{weight}
use Rattle.nx_matrix.specs.declared.rule.Entry.{Entry}
use Rattle.nx_matrix.specs.declared.rule.Rule.{Rule}
use Rattle.nx_matrix.specs.Label.{label}
use Rattle.nx_matrix.specs.Rules.{entry_of}
use Rattle.nx_piece.specs.declared.piece.Proxy.{Proxy}
use Rattle.nx_piece.specs.Gapped.{Gapped, End, Grow, Gap, proxies_in}
use Rattle.nx_cuts.specs.Cut.{Bare, Grown, Kept, width}
use Rattle.nx_layouts.specs.Layout.{LaidNode, Layout, shown_with, in_record, without_places, gap_more, piece_body, proxy_of, proxies_of}
use Rattle.nx_layouts.proofs.DrawnLemmas.{drawn_wide}
use Rattle.nx_layouts.proofs.LayoutLemmas.{proxies_counted}
use Rattle.nx_layouts.proofs.NodeLemmas.{item_weighs}
use Rattle.nx_sketch.specs.Sketch.{Sketch, Plant, placed}
use Rattle.nx_split.specs.Piece.{asked, freed, asked_of_root, positions, sketch_in}
use Rattle.nx_drawn.specs.Splits.{part_sketch}
use Rattle.nx_drawn.specs.Laws.{PieceIsPart}

-- so many proxies in a row, and one before them
positions_more : (before after : List Proxy) (proxy : Proxy) (count : ℕ) → positions (before ++ proxy ∷ after) (length before) (suc count) ≡ proxy.roots + positions (before ++ proxy ∷ after) (length before + 1) count
positions_more before after proxy count =
    ap (λ ps. sum_by (λ (p : Proxy). p.roots) (take (suc count) ps)) (drop-append_seam before (proxy ∷ after)) ∙ sum_by-cons (λ (p : Proxy). p.roots) proxy (take count after)
    ∙ ap (λ ps. proxy.roots + sum_by (λ (p : Proxy). p.roots) (take count ps)) (sym (drop-append-add before (proxy ∷ after) 1))

-- a gap with one proxy more in front
sketch-gap_more : (rules : List Rule) (before after : List Proxy) (proxy : Proxy) (asks : Node → Entry) (position : ℕ) (g : Gapped)
    → sketch_in rules (before ++ proxy ∷ after) asks (length before) position (gap_more g) ≡ sketch_in rules (before ++ proxy ∷ after) asks (length before + 1) (position + proxy.roots) g
sketch-gap_more rules before after proxy asks position End = refl
sketch-gap_more rules before after proxy asks position (Grow node below beside) =
    let ps = before ++ proxy ∷ after in
    let e : position + positions ps (length before) 1 ≡ position + proxy.roots = let x = positions_more before after proxy 0 in let y : positions ps (length before + 1) 0 ≡ 0 = refl in omega (arith, x, y) in
    ap (λ i. sketch_in rules ps asks (length before + 1) i (Grow node below beside)) e
sketch-gap_more rules before after proxy asks position (Gap count beside) =
    let ps = before ++ proxy ∷ after in
    let n : count + 1 ≡ suc count = omega arith in
    let e : position + positions ps (length before) (count + 1) ≡ position + proxy.roots + positions ps (length before + 1) count =
    let x = positions_more before after proxy count in let y : positions ps (length before) (count + 1) ≡ positions ps (length before) (suc count) = ap (positions ps (length before)) n in omega (arith, x, y) in
    ap (λ i. sketch_in rules ps asks (length before + (count + 1)) i beside) e
    ∙ ap (λ i. sketch_in rules ps asks i (position + proxy.roots + positions ps (length before + 1) count) beside) (let f : length before + (count + 1) ≡ length before + 1 + count = omega arith in f)

-- What is asked of a node is asked by its kind and its name, which its item has, wherever its content stands:

label_shown : (n : Node) (list : Option ℕ) → label (shown_with n list).node ≡ label n
label_shown n None = refl
label_shown n (Some first) = refl

abbrev IsByLabel : (Node → Entry) → Type 0
IsByLabel asks = (n : LaidNode) → asks (in_record n).node ≡ asks n.node

child_by_label : (rules : List Rule) (parent : Node) → IsByLabel (asked rules parent)
child_by_label rules parent n = ap (entry_of rules (label parent)) (label_shown n.node n.list)

root_by_label : (rules : List Rule) (above : Option Node) → IsByLabel (asked_of_root rules above)
root_by_label rules None n = refl
root_by_label rules (Some above) n = ap freed (child_by_label rules above n)

parent_by_label : (rules : List Rule) (n : LaidNode) → asked rules (in_record n).node ≡ asked rules n.node
parent_by_label rules n = ap (λ l child. entry_of rules l (label child)) (label_shown n.node n.list)

-- of a layout whose proxies stand behind these
sketch_laid : (rules : List Rule) (asks : Node → Entry) (before after : List Proxy) (position : ℕ) (a : Layout) → IsByLabel asks
    → sketch_in rules (before ++ (proxies_of a ++ after)) asks (length before) position (piece_body a) ≡ part_sketch rules asks position (without_places a)
sketch_laid rules asks before after position Bare labels = refl
sketch_laid rules asks before after position (Grown node below beside) labels =
    let ps = before ++ ((proxies_of below ++ proxies_of beside) ++ after) in
    let own = node.node in
    let all : ps ≡ before ++ (proxies_of below ++ (proxies_of beside ++ after)) = ap (λ r. before ++ r) (append_assoc (proxies_of below) (proxies_of beside) after) in
    let other : ps ≡ (before ++ proxies_of below) ++ (proxies_of beside ++ after) = all ∙ sym (append_assoc before (proxies_of below) (proxies_of beside ++ after)) in
    let x : sketch_in rules ps (asked rules own) (length before) 0 (piece_body below) ≡ part_sketch rules (asked rules own) 0 (without_places below) =
    ap (λ l. sketch_in rules l (asked rules own) (length before) 0 (piece_body below)) all ∙ sketch_laid rules (asked rules own) before (proxies_of beside ++ after) 0 below (child_by_label rules own) in
    let n : length before + proxies_in (piece_body below) ≡ length (before ++ proxies_of below) = let l = length-append before (proxies_of below) in let c = proxies_counted below in omega (arith, l, c) in
    let y : sketch_in rules ps asks (length before + proxies_in (piece_body below)) (position + 1) (piece_body beside) ≡ part_sketch rules asks (position + 1) (without_places beside) =
    ap (λ i. sketch_in rules ps asks i (position + 1) (piece_body beside)) n ∙ ap (λ l. sketch_in rules l asks (length (before ++ proxies_of below)) (position + 1) (piece_body beside)) other
    ∙ sketch_laid rules asks (before ++ proxies_of below) after (position + 1) beside labels in
    let next = sketch_in rules ps asks (length before + proxies_in (piece_body below)) (position + 1) (piece_body beside) in
    let inside : (Node → Entry) → Sketch = λ (f : Node → Entry). sketch_in rules ps f (length before) 0 (piece_body below) in
    ap (λ (w : ℕ). Plant position w (asks (in_record node).node) (inside (asked rules (in_record node).node)) next) (item_weighs node)
    ∙ ap (λ (e : Entry). Plant position (weight own) e (inside (asked rules (in_record node).node)) next) (labels node)
    ∙ ap (λ (f : Node → Entry). Plant position (weight own) (asks own) (inside f) next) (parent_by_label rules node)
    ∙ ap (λ (b : Sketch). Plant position (weight own) (asks own) b next) x
    ∙ ap (Plant position (weight own) (asks own) (part_sketch rules (asked rules own) 0 (without_places below))) y
sketch_laid rules asks before after position (Kept place members beside) labels =
    let proxy = proxy_of place (width members) in
    let ps = before ++ (proxy ∷ (proxies_of beside ++ after)) in
    let other : ps ≡ (before ++ (proxy ∷ [])) ++ (proxies_of beside ++ after) = sym (append_assoc before (proxy ∷ []) (proxies_of beside ++ after)) in
    let n : length before + 1 ≡ length (before ++ (proxy ∷ [])) = let l = length-append before (proxy ∷ []) in omega (arith, l) in
    sketch-gap_more rules before (proxies_of beside ++ after) proxy asks position (piece_body beside)
    ∙ ap (λ i. sketch_in rules ps asks i (position + width members) (piece_body beside)) n
    ∙ ap (λ l. sketch_in rules l asks (length (before ++ (proxy ∷ []))) (position + width members) (piece_body beside)) other
    ∙ sketch_laid rules asks (before ++ (proxy ∷ [])) after (position + width members) beside labels
    ∙ ap (λ w. part_sketch rules asks (position + w) (without_places beside)) (sym (drawn_wide members))

pub piece_part : PieceIsPart
piece_part rules above members =
    ap placed (ap (λ ps. sketch_in rules ps (asked_of_root rules above) 0 0 (piece_body members)) (sym (append-nil (proxies_of members))) ∙ sketch_laid rules (asked_of_root rules above) [] [] 0 members (root_by_label rules above))
