-- How many pages the records of a draft may take.
use Rattle.std.proofs.Common.{◌≡◌, ℕ, ◌+◌, ◌*◌, ◌≤◌, nat_le, Bool, true, false, if◌then◌else◌, ap, ◌∙◌, arith}
use Rattle.nx_holdings.specs.Holdings.{chain_count}
use Rattle.nx_tree.specs.Forest.{nodes}
use Rattle.nx_piece.specs.Gapped.{Gapped}
use Rattle.nx_piece.specs.Valid.{inline_length, longest_inline}
use Rattle.nx_cuts.specs.Cut.{Bare, Grown, Kept, width, AreFree, AreParts}
use Rattle.nx_layouts.specs.Layout.{Layout, without_places, laid_forest}
use Rattle.nx_layouts.specs.Replace.{joined_layout}
use Rattle.nx_layouts.proofs.ReplaceLemmas.{forest-joined_layout}
use Rattle.nx_layouts.proofs.WithoutLemmas.{nodes_joined}
use Rattle.nx_layouts.proofs.DrawnLemmas.{drawn_wide, drawn_free}
use Rattle.nx_drafts.specs.Draft.{Draft, Ends, Grows, Stands, Comes, drawn_forest, layout_before, draft_body, draft_count, draft_needs, record_pages}

chain_few : (b : Bool) (n : ℕ) → (if b then 0 else chain_count (8 * n)) ≤ n
chain_few true n = omega arith
chain_few false n = omega arith

-- a record takes a page, and at most one for each proxy
pages_few : (roots : Gapped) (proxies : ℕ) → record_pages roots proxies ≤ 1 + proxies
pages_few roots proxies = omega (arith, chain_few (nat_le (inline_length roots proxies) longest_inline) proxies)

free_nodes : (a : Layout) → AreFree a → width a ≤ nodes (laid_forest a)
free_nodes Bare free = omega arith
free_nodes (Grown node below beside) free = omega (arith, free_nodes beside free)
free_nodes (Kept place members beside) free = absurd free

both_few : {P : Type 0} (k : ℕ) (c : Draft P) → AreParts k (drawn_forest c)
    → (draft_needs c + draft_count c ≤ 2 * nodes (laid_forest (layout_before c))) × (AreFree (drawn_forest c) → draft_needs c + draft_count c + 2 * width (drawn_forest c) ≤ 2 * nodes (laid_forest (layout_before c)))
both_few k Ends h = (omega arith, λ free. omega arith)
both_few k (Grows node below beside) h =
    let one = (both_few k below h.0).0 in
    let other = both_few k beside h.1 in
    let few = other.0 in
    (omega (arith, one, few), λ free. let fewer = other.1 free in omega (arith, one, fewer))
both_few k (Stands place members beside) h =
    let some : 1 ≤ width (without_places members) = h.0 in
    let wide = drawn_wide members in
    let one = free_nodes members (drawn_free members h.1) in
    let other = (both_few k beside h.4).0 in
    let both = nodes_joined (laid_forest members) (laid_forest (layout_before beside)) in
    (omega (arith, some, wide, one, other, both), λ free. absurd free)
both_few k (Comes mark members beside) h =
    let some : 1 ≤ width (drawn_forest members) = h.0 in
    let one = (both_few k members h.3).1 h.1 in
    let other = (both_few k beside h.4).0 in
    let pages = pages_few (draft_body members) (draft_count members) in
    let both : nodes (laid_forest (joined_layout (layout_before members) (layout_before beside))) ≡ nodes (laid_forest (layout_before members)) + nodes (laid_forest (layout_before beside)) =
    ap nodes (forest-joined_layout (layout_before members) (layout_before beside)) ∙ nodes_joined (laid_forest (layout_before members)) (laid_forest (layout_before beside)) in
    (omega (arith, some, one, other, pages, both), λ free. absurd free)

-- each interval that comes has a member at least, and each member is a node besides
pub needs_few : {P : Type 0} (k : ℕ) (c : Draft P) → AreParts k (drawn_forest c) → draft_needs c ≤ 2 * nodes (laid_forest (layout_before c))
needs_few k c h = let few = (both_few k c h).0 in omega (arith, few)
