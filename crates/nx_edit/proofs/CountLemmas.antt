-- How many nodes a row has for its proxies, and how many pages its piece may need.
use Rattle.std.proofs.Common.{ℕ, ◌+◌, ◌*◌, ◌≤◌, Bool, true, false, if◌then◌else◌, length, arith, length-append}
use Rattle.nx_holdings.specs.Holdings.{chain_count}
use Rattle.nx_tree.specs.Forest.{nodes}
use Rattle.nx_piece.specs.declared.piece.Piece.{Piece}
use Rattle.nx_piece.specs.Valid.{is_inline}
use Rattle.nx_cuts.specs.Cut.{Bare, Grown, Kept, width, AreFree}
use Rattle.nx_layouts.specs.Layout.{Layout, AreLaidParts, laid_forest, proxies_of}
use Rattle.nx_layouts.proofs.DrawnLemmas.{drawn_wide, drawn_free}
use Rattle.nx_layouts.proofs.WithoutLemmas.{nodes_joined}
use Rattle.nx_hold.specs.Changes.{piece_needs}

chain_few : (b : Bool) (n : ℕ) → (if b then 0 else chain_count (8 * n)) ≤ n
chain_few true n = omega arith
chain_few false n = omega arith

-- a record takes a page, and at most one for each proxy
pub piece_few : (piece : Piece) → piece_needs piece ≤ 1 + length piece.proxies
piece_few piece = omega (arith, chain_few (is_inline piece) (length piece.proxies))

both_few : (k : ℕ) (a : Layout) → AreLaidParts k a → (length (proxies_of a) ≤ nodes (laid_forest a)) × (AreFree a → length (proxies_of a) + width a ≤ nodes (laid_forest a))
both_few k Bare h = (omega arith, λ _. omega arith)
both_few k (Grown node below beside) h =
    let one = (both_few k below h.0).0 in
    let other = both_few k beside h.1 in
    let few = other.0 in
    let sum = length-append (proxies_of below) (proxies_of beside) in
    (omega (arith, one, few, sum), λ free. let fewer = other.1 free in omega (arith, one, fewer, sum))
both_few k (Kept place members beside) h =
    let wide = drawn_wide members in
    let least = h.0 in
    let some : 1 ≤ width members = omega (arith, wide, least) in
    let one = (both_few k members h.3).1 (drawn_free members h.1) in
    let other = (both_few k beside h.4).0 in
    let both = nodes_joined (laid_forest members) (laid_forest beside) in
    (omega (arith, some, one, other, both), λ free. absurd free)

-- ... and those of a list of all proxies
listed_few : (b : Bool) (n : ℕ) → (if b then 0 else chain_count (8 * n)) ≤ chain_count (8 * n)
listed_few true n = omega arith
listed_few false n = omega arith

pub pages_few : (piece : Piece) → piece_needs piece ≤ 1 + chain_count (8 * length piece.proxies)
pages_few piece = omega (arith, listed_few (is_inline piece) (length piece.proxies))

-- each interval has a member at least, and each member is a node besides
pub proxies_few : (k : ℕ) (a : Layout) → AreLaidParts k a → AreFree a → length (proxies_of a) + width a ≤ nodes (laid_forest a)
proxies_few k a h free = (both_few k a h).1 free

pub proxies_most : (k : ℕ) (a : Layout) → AreLaidParts k a → length (proxies_of a) ≤ nodes (laid_forest a)
proxies_most k a h = (both_few k a h).0
