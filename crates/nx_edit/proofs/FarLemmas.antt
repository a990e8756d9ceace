-- The far contents of nodes, how often they come, and the pages that long contents without a list would take.
use Rattle.std.proofs.Common.{◌≡◌, ℕ, zero, suc, ◌+◌, ◌-◌, ◌<◌, ◌≤◌, nat_le, nat_lt, if◌then◌else◌, Bool, true, List, [], ◌∷◌, ◌++◌, length, map, Option, None, Some, inl, inr, refl, sym, ap, ap₂, ◌∙◌, subst, arith, append_assoc}
use Rattle.std.specs.Option.{option_to_list, option_map_or}
use Rattle.std.specs.List.{sum_by}
use Rattle.std.proofs.lemmas.Bool.{cases_lt}
use Rattle.std.proofs.lemmas.Bool.Decides.{nat_tests}
use Rattle.std.proofs.lemmas.List.{map-append}
use Rattle.std.proofs.lemmas.List.Sums.{sum_by-append, sum_by-cons}
use Rattle.nx_tree.specs.declared.node.Node.{Node}
use Rattle.nx_weights.specs.Weight.{longest_near}
use Rattle.nx_holdings.specs.Holdings.{chain_count}
use Rattle.nx_piece.specs.declared.piece.Far.{Far}
use Rattle.nx_piece.specs.Contents.{fars_in}
use Rattle.nx_piece.specs.Gapped.{Gapped, End, Grow, Gap}
use Rattle.nx_piece.specs.PieceNode.{IsNearWith}
use Rattle.nx_piece.specs.Valid.{AreNear}
use Rattle.nx_cuts.specs.Cut.{Bare, Grown, Kept}
use Rattle.nx_layouts.specs.Layout.{LaidNode, Layout, gap_more, in_record, shown_with, laid_weight, piece_body, proxies_of, nodes_in, lists_of}
use Rattle.nx_layouts.specs.Replace.{joined_layout, replaced_at}
use Rattle.nx_layouts.proofs.NodeLemmas.{lists-append}
use Rattle.nx_hold.specs.Contents.{near_in, near_pages, bytes_pages, content_pages}
use Rattle.nx_edit.specs.Removing.{fars_of, kept_fars}
use Rattle.nx_edit.proofs.CutLemmas.{less_is, not_less}

pub fars-append : (a b : List LaidNode) → fars_of (a ++ b) ≡ fars_of a ++ fars_of b
fars-append [] b = refl
fars-append (n ∷ a) b = ap (λ (l : List Far). option_to_list (in_record n).far ++ l) (fars-append a b) ∙ sym (append_assoc (option_to_list (in_record n).far) (fars_of a) (fars_of b))

-- their lists are those of the nodes
firsts_shown : (node : Node) (list : Option ℕ) → map (λ (far : Far). far.first) (option_to_list (shown_with node list).far) ≡ option_to_list list
firsts_shown node None = refl
firsts_shown node (Some first) = refl

pub firsts_of : (ns : List LaidNode) → map (λ (far : Far). far.first) (fars_of ns) ≡ lists_of ns
firsts_of [] = refl
firsts_of (n ∷ ns) = map-append (λ (far : Far). far.first) (option_to_list (in_record n).far) (fars_of ns) ∙ ap₂ (λ (a b : List ℕ). a ++ b) (firsts_shown n.node n.list) (firsts_of ns)

-- summed over the far contents by their lists
pub sum_firsts : (f : ℕ → ℕ) (fars : List Far) → sum_by f (map (λ (far : Far). far.first) fars) ≡ sum_by (λ (far : Far). f far.first) fars
sum_firsts f [] = refl
sum_firsts f (x ∷ fars) =
    let first = sum_by-cons f x.first (map (λ (far : Far). far.first) fars) in
    let same = sum_by-cons (λ (far : Far). f far.first) x fars in
    let rest = sum_firsts f fars in
    omega (arith, first, same, rest)

pub sum_fars : (f : Far → ℕ) (a b : List LaidNode) → sum_by f (fars_of (a ++ b)) ≡ sum_by f (fars_of a) + sum_by f (fars_of b)
sum_fars f a b = ap (λ (l : List Far). sum_by f l) (fars-append a b) ∙ sum_by-append f (fars_of a) (fars_of b)

pub sum_lists : (f : ℕ → ℕ) (a b : List LaidNode) → sum_by f (lists_of (a ++ b)) ≡ sum_by f (lists_of a) + sum_by f (lists_of b)
sum_lists f a b = ap (λ (l : List ℕ). sum_by f l) (lists-append a b) ∙ sum_by-append f (lists_of a) (lists_of b)

fars_more : (x : Gapped) → fars_in (gap_more x) ≡ fars_in x
fars_more End = refl
fars_more (Grow n b s) = refl
fars_more (Gap c s) = refl

-- the far contents of a row are those of its piece, and those in intervals
pub own_and_kept_fars : (f : Far → ℕ) (a : Layout) → sum_by f (fars_in (piece_body a)) + sum_by f (kept_fars a) ≡ sum_by f (fars_of (nodes_in a))
own_and_kept_fars f Bare = refl
own_and_kept_fars f (Grown node below beside) =
    let own : List Far = option_to_list (in_record node).far in
    let one = sum_by-append f own (fars_in (piece_body below) ++ fars_in (piece_body beside)) in
    let two = sum_by-append f (fars_in (piece_body below)) (fars_in (piece_body beside)) in
    let kept = sum_by-append f (kept_fars below) (kept_fars beside) in
    let all = sum_by-append f own (fars_of (nodes_in below ++ nodes_in beside)) in
    let both = sum_fars f (nodes_in below) (nodes_in beside) in
    let b = own_and_kept_fars f below in
    let s = own_and_kept_fars f beside in
    omega (arith, one, two, kept, all, both, b, s)
own_and_kept_fars f (Kept place members beside) =
    let own = ap (λ (l : List Far). sum_by f l) (fars_more (piece_body beside)) in
    let kept = sum_by-append f (fars_of (nodes_in members)) (kept_fars beside) in
    let both = sum_fars f (nodes_in members) (nodes_in beside) in
    let s = own_and_kept_fars f beside in
    omega (arith, own, kept, both, s)

-- Pages of near contents:

pub near-append : (a b : List LaidNode) → near_pages (a ++ b) ≡ near_pages a + near_pages b
near-append a b = sum_by-append (λ (n : LaidNode). option_map_or (λ first. 0) n.list (content_pages n.node)) a b

near_shown : (node : Node) (list : Option ℕ) → option_map_or (λ far. 0) (shown_with node list).far (content_pages (shown_with node list).node) ≡ option_map_or (λ first. 0) list (content_pages node)
near_shown node None = refl
near_shown node (Some first) = refl

near_more : (x : Gapped) → near_in (gap_more x) ≡ near_in x
near_more End = refl
near_more (Grow n b s) = refl
near_more (Gap c s) = refl

-- a row has those of its piece
pub own_near : (a : Layout) → near_in (piece_body a) ≤ near_pages (nodes_in a)
own_near Bare = omega arith
own_near (Grown node below beside) =
    let own = near_shown node.node node.list in
    let all = sum_by-cons (λ (n : LaidNode). option_map_or (λ first. 0) n.list (content_pages n.node)) node (nodes_in below ++ nodes_in beside) in
    let both = near-append (nodes_in below) (nodes_in beside) in
    let b = own_near below in
    let s = own_near beside in
    omega (arith, own, all, both, b, s)
own_near (Kept place members beside) =
    let own = near_more (piece_body beside) in
    let both = near-append (nodes_in members) (nodes_in beside) in
    let s = own_near beside in
    omega (arith, own, both, s)

near_joined : (a b : Layout) → near_in (piece_body (joined_layout a b)) ≡ near_in (piece_body a) + near_in (piece_body b)
near_joined Bare b = omega arith
near_joined (Grown n d s) b = omega (arith, near_joined s b)
near_joined (Kept p m s) b = omega (arith, near_more (piece_body (joined_layout s b)), near_more (piece_body s), near_joined s b)

chosen_first : (a b : ℕ) (x y : Layout) → a < b → (if nat_lt a b then x else y) ≡ x
chosen_first a b x y less = subst (λ (t : Bool). (if t then x else y) ≡ x) (sym (less_is a b less)) refl

chosen_last : (a b : ℕ) (x y : Layout) → b ≤ a → (if nat_lt a b then x else y) ≡ y
chosen_last a b x y most = subst (λ (t : Bool). (if t then x else y) ≡ y) (sym (not_less a b most)) refl

-- a row in which an interval is replaced has those of its own and of what comes
pub near_filled : (index : ℕ) (left row : Layout) → near_in (piece_body (replaced_at index left row)) ≤ near_in (piece_body (replaced_at index Bare row)) + near_in (piece_body left)
near_filled index left Bare = omega arith
near_filled index left (Grown n b s) =
    let count : ℕ = length (proxies_of b) in
    elim (cases_lt index count) [
      | inl here ↦
          let with_left = ap (λ (l : Layout). near_in (piece_body l)) (chosen_first index count (Grown n (replaced_at index left b) s) (Grown n b (replaced_at (index - count) left s)) here) in
          let without = ap (λ (l : Layout). near_in (piece_body l)) (chosen_first index count (Grown n (replaced_at index Bare b) s) (Grown n b (replaced_at (index - count) Bare s)) here) in
          let below = near_filled index left b in
          omega (arith, with_left, without, below)
      | inr behind ↦
          let with_left = ap (λ (l : Layout). near_in (piece_body l)) (chosen_last index count (Grown n (replaced_at index left b) s) (Grown n b (replaced_at (index - count) left s)) behind) in
          let without = ap (λ (l : Layout). near_in (piece_body l)) (chosen_last index count (Grown n (replaced_at index Bare b) s) (Grown n b (replaced_at (index - count) Bare s)) behind) in
          let beside = near_filled (index - count) left s in
          omega (arith, with_left, without, beside)
    ]
near_filled zero left (Kept p m s) = omega (arith, near_joined left s)
near_filled (suc index) left (Kept p m s) = omega (arith, near_more (piece_body (replaced_at index left s)), near_more (piece_body (replaced_at index Bare s)), near_filled index left s)

-- a row without nodes of its own has none
pub near_none : (row : Layout) → laid_weight row ≡ 0 → near_in (piece_body row) ≡ 0
near_none Bare e = refl
near_none (Grown n b s) e = absurd (omega (arith, e))
near_none (Kept p m s) e = near_more (piece_body s) ∙ near_none s e

-- a node whose content is no longer than one that is written near has none
short_node : (content : List ℕ) (far : Option Far) → IsNearWith content far → option_map_or (λ far. 0) far (bytes_pages content) ≡ 0
short_node content None near =
    let e : nat_le (length content) longest_near ≡ true = grind (arith, nat_tests, near) in
    subst (λ (b : Bool). (if b then 0 else chain_count (length content)) ≡ 0) (sym e) refl
short_node content (Some far) near = refl

-- a piece whose nodes are such has none
pub near_short : (f : Gapped) → AreNear f → near_in f ≡ 0
near_short End near = refl
near_short (Grow n b s) near =
    let own = short_node n.node.content n.far near.0 in
    let below = near_short b near.1 in
    let beside = near_short s near.2 in
    omega (arith, own, below, beside)
near_short (Gap c s) near = near_short s near
