-- The far contents of documents: which records name them, and how many chain pages they take.
use Rattle.std.proofs.Common.{◌≡◌, ℕ, ◌+◌, ◌<◌, ◌≤◌, List, [], ◌∷◌, ◌++◌, length, map, Option, None, Some, inl, inr, refl, sym, ap, ◌∙◌, subst, arith, append-nil}
use Rattle.std.specs.Prelude.{All, Contains}
use Rattle.std.specs.List.{sum, sum_by}
use Rattle.std.specs.Option.{option_to_list}
use Rattle.std.proofs.lemmas.List.Elements.{All-head, All-tail, Contains-append_left, Contains-append_right, Contains-append_cases}
use Rattle.std.proofs.lemmas.List.Sums.{sum_by-cons, sum_by-append}
use Rattle.nx_tree.specs.Forest.{Forest, Empty, Plant}
use Rattle.nx_holdings.specs.Holdings.{Held, chain_count}
use Rattle.nx_holdings.specs.Laws.{IsAmong, pages_of_list, pages_of_lists}
use Rattle.nx_piece.specs.declared.piece.Far.{Far}
use Rattle.nx_piece.specs.declared.piece.Piece.{Piece}
use Rattle.nx_weights.specs.Weight.{longest_near}
use Rattle.nx_piece.specs.PieceNode.{IsFarWith}
use Rattle.nx_piece.specs.Gapped.{Gapped, End, Grow, Gap}
use Rattle.nx_piece.specs.Valid.{AreFar}
use Rattle.nx_piece.specs.Contents.{fars_in}
use Rattle.nx_cuts.specs.Cut.{CutForest, Bare, Grown, Kept, joined, forest, tree_of}
use Rattle.nx_layouts.specs.Layout.{RecordPlace, LaidNode, Layout, Stock, laid_near, laid_forest, nodes_in, lists_of, contents_of, IsReadIn}
use Rattle.nx_layouts.proofs.PlaceLemmas.{no_place, one_place, first_among, later_among}
use Rattle.nx_layouts.proofs.HeldLemmas.{node_read}
use Rattle.nx_layouts.proofs.NodeLemmas.{list_among, node_of_list}
use Rattle.nx_layouts.proofs.BodyLemmas.{far_at, node_named}
use Rattle.nx_hold.specs.Contents.{content_pages, forest_pages, tree_pages}
use Rattle.nx_hold.specs.Pieces.{HoldsPiece, NamesContent, PieceMap, held_by}
use Rattle.nx_hold.proofs.MapLemmas.{held_at}
use Rattle.nx_hold.proofs.TidyLemmas.{roots_are}
use Rattle.nx_hold.proofs.RecordsLemmas.{piece_record}
use Rattle.nx_hold.proofs.NodeLemmas.{pages_long}
use Rattle.nx_hold.proofs.ContentLemmas.{named_in_layout}
use Rattle.nx_state.specs.Stands.{StoredDocument, IsStoredIn, record_places, all_places, all_contents}
use Rattle.nx_state.proofs.StayLemmas.{record_row}
use Rattle.nx_state.proofs.ListLemmas.{pages-append}

-- The contents of a document are those of its row, whose root has a near one.

row_nodes : (s : StoredDocument) → nodes_in (record_row s) ≡ laid_near s.document.node ∷ nodes_in s.layout
row_nodes s = append-nil (laid_near s.document.node ∷ (nodes_in s.layout ++ [])) ∙ ap (λ (ns : List LaidNode). laid_near s.document.node ∷ ns) (append-nil (nodes_in s.layout))

pub row_contents : (s : StoredDocument) → contents_of (record_row s) ≡ contents_of s.layout
row_contents s = ap (λ (ns : List LaidNode). lists_of ns) (row_nodes s)

in_row : (s : StoredDocument) (n : LaidNode) → Contains (nodes_in s.layout) n → Contains (nodes_in (record_row s)) n
in_row s n among = subst (λ (ns : List LaidNode). Contains ns n) (sym (row_nodes s)) (later_among (laid_near s.document.node) (nodes_in s.layout) n among)

pub row_list : (s : StoredDocument) (n : LaidNode) (first : ℕ) → Contains (nodes_in (record_row s)) n → n.list ≡ Some first → Contains (contents_of s.layout) first
row_list s n first among far = subst (λ (ls : List ℕ). Contains ls first) (row_contents s) (list_among (nodes_in (record_row s)) n first among far)

-- Which records name them:

-- a record at one of these places names the list for a content
abbrev pub NamesFar : Held → List RecordPlace → ℕ → Type 0
NamesFar held places first = (place : RecordPlace) × (far : Far) × Contains places place × (far.first ≡ first) × NamesContent held place far

piece_names : (held : Held) (place : RecordPlace) (piece : Piece) (far : Far) → HoldsPiece held place piece → Contains (fars_in piece.body.roots) far → NamesContent held place far
piece_names held place piece far holds among =
    let found = piece_record held place piece holds in
    (found.0, found.1, subst (λ (g : Gapped). Contains (fars_in g) far) (roots_are held place piece found.0 holds found.1) among)

node_names : (held : Held) (pieces : PieceMap held) (s : StoredDocument) → IsStoredIn (held_by pieces) s → (n : LaidNode) (first : ℕ) → Contains (nodes_in s.layout) n → n.list ≡ Some first
    → (place : RecordPlace) × Contains (record_places s) place × NamesContent held place (far_at n first)
node_names held pieces s h n first among far =
    elim (node_named (held_by pieces) (record_row s) n first (h.laid).held (in_row s n among) far) [
      | inl none ↦ absurd (no_place (far_at n first) none)
      | inr named ↦ (named.0, named.2, piece_names held named.0 named.1 (far_at n first) (held_at held pieces named.0 named.1 named.3) named.4)
    ]

pub contents_named : (held : Held) (pieces : PieceMap held) (stored : List StoredDocument) → All (IsStoredIn (held_by pieces)) stored → (first : ℕ) → Contains (all_contents stored) first → NamesFar held (all_places stored) first
contents_named held pieces [] each first among = absurd (no_place first among)
contents_named held pieces (s ∷ stored) each first among =
    elim (Contains-append_cases (contents_of s.layout) (all_contents stored) first among) [
      | inl own ↦
          let node = node_of_list (nodes_in s.layout) first own in
          let named = node_names held pieces s (All-head (IsStoredIn (held_by pieces)) s stored each) node.0 first node.1 node.2 in
          (named.0, far_at node.0 first, Contains-append_left (record_places s) (all_places stored) named.0 named.1, refl, named.2)
      | inr other ↦
          let named = contents_named held pieces stored (All-tail (IsStoredIn (held_by pieces)) s stored each) first other in
          (named.0, named.1, Contains-append_right (record_places s) (all_places stored) named.0 named.2, named.3, named.4)
    ]

-- what these records name for contents is contents of these documents
pub named_contents : (held : Held) (pieces : PieceMap held) (stored : List StoredDocument) → All (IsStoredIn (held_by pieces)) stored → (place : RecordPlace) (far : Far) → Contains (all_places stored) place → NamesContent held place far
    → Contains (all_contents stored) far.first
named_contents held pieces [] each place far among names = absurd (no_place place among)
named_contents held pieces (s ∷ stored) each place far among names =
    elim (Contains-append_cases (record_places s) (all_places stored) place among) [
      | inl own ↦ Contains-append_left (contents_of s.layout) (all_contents stored) far.first
          (subst (λ (ls : List ℕ). Contains ls far.first) (row_contents s) (named_in_layout held pieces (record_row s) ((All-head (IsStoredIn (held_by pieces)) s stored each).laid).held place far own names))
      | inr other ↦ Contains-append_right (contents_of s.layout) (all_contents stored) far.first (named_contents held pieces stored (All-tail (IsStoredIn (held_by pieces)) s stored each) place far other names)
    ]

-- How many chain pages they take:

far_long : (own : List ℕ) (o : Option Far) (far : Far) → IsFarWith own o → Contains (option_to_list o) far → longest_near < far.length
far_long own None far h among = absurd (no_place far among)
far_long own (Some other) far h among = subst (λ (f : Far). longest_near < f.length) (sym (one_place other far among)) h.1

fars_long : (f : Gapped) (far : Far) → AreFar f → Contains (fars_in f) far → longest_near < far.length
fars_long End far h among = absurd (no_place far among)
fars_long (Grow n b s) far h among =
    elim (Contains-append_cases (option_to_list n.far) (fars_in b ++ fars_in s) far among) [
      | inl own ↦ far_long n.node.content n.far far h.0 own
      | inr deeper ↦ elim (Contains-append_cases (fars_in b) (fars_in s) far deeper) [ inl one ↦ fars_long b far h.1 one | inr other ↦ fars_long s far h.2 other ]
    ]
fars_long (Gap count s) far h among = fars_long s far h among

piece_far : (held : Held) (place : RecordPlace) (piece : Piece) → HoldsPiece held place piece → AreFar piece.body.roots
piece_far held place piece (inl h) = ((h.valid).body).far
piece_far held place piece (inr h) = (((h.stored).valid).body).far

-- a far content is longer than one that stands in its item, and its list has it
node_long : (held : Held) (pieces : PieceMap held) (s : StoredDocument) → IsStoredIn (held_by pieces) s → (n : LaidNode) (first : ℕ) → Contains (nodes_in s.layout) n → n.list ≡ Some first
    → (longest_near < length n.node.content) × (held.lists first ≡ Some n.node.content)
node_long held pieces s h n first among far =
    elim (node_named (held_by pieces) (record_row s) n first (h.laid).held (in_row s n among) far) [
      | inl none ↦ absurd (no_place (far_at n first) none)
      | inr named ↦ (
        fars_long named.1.body.roots (far_at n first) (piece_far held named.0 named.1 (held_at held pieces named.0 named.1 named.3)) named.4,
        node_read (held_by pieces) (record_row s) n (h.laid).held (in_row s n among) first far,
      )
    ]

-- of these nodes each far one is long, and read in its list
abbrev AreLong : (ℕ → Option (List ℕ)) → List LaidNode → Type 0
AreLong lists ns = (n : LaidNode) (first : ℕ) → Contains ns n → n.list ≡ Some first → (longest_near < length n.node.content) × (lists first ≡ Some n.node.content)

-- how many pages the long contents of these nodes take, where each of them is far
abbrev pub pages_in : List LaidNode → ℕ
pages_in ns = sum_by (λ n. content_pages n.node) ns

one_few : (lists : ℕ → Option (List ℕ)) (n : LaidNode) (o : Option ℕ) → ((first : ℕ) → o ≡ Some first → (longest_near < length n.node.content) × (lists first ≡ Some n.node.content))
    → pages_of_lists lists (option_to_list o) ≤ content_pages n.node
one_few lists n None long = omega arith
one_few lists n (Some first) long =
    let is = long first refl in
    let pages : pages_of_list (lists first) ≡ chain_count (length n.node.content) = ap pages_of_list is.1 in
    let all : content_pages n.node ≡ chain_count (length n.node.content) = pages_long n.node is.0 in
    omega (arith, pages, all)

nodes_few : (lists : ℕ → Option (List ℕ)) (ns : List LaidNode) → AreLong lists ns → pages_of_lists lists (lists_of ns) ≤ pages_in ns
nodes_few lists [] long = omega arith
nodes_few lists (n ∷ ns) long =
    let one = one_few lists n n.list (λ first far. long n first (first_among n ns) far) in
    let rest = nodes_few lists ns (λ m first among far. long m first (Contains-append_right (n ∷ []) ns m among) far) in
    let both = pages-append lists (option_to_list n.list) (lists_of ns) in
    let sums = sum_by-cons (λ (m : LaidNode). content_pages m.node) n ns in
    omega (arith, one, rest, both, sums)

pub pages_joined : (a b : Forest) → forest_pages (joined a b) ≡ forest_pages a + forest_pages b
pages_joined Empty b = omega arith
pages_joined (Plant n d s) b = let e = pages_joined s b in omega (arith, e)

pub row_pages : (row : Layout) → forest_pages (laid_forest row) ≡ pages_in (nodes_in row)
row_pages Bare = refl
row_pages (Grown n b s) =
    let one = row_pages b in
    let other = row_pages s in
    let both = sum_by-append (λ (m : LaidNode). content_pages m.node) (nodes_in b) (nodes_in s) in
    let sums = sum_by-cons (λ (m : LaidNode). content_pages m.node) n (nodes_in b ++ nodes_in s) in
    omega (arith, one, other, both, sums)
row_pages (Kept p m s) =
    let one = row_pages m in
    let other = row_pages s in
    let both = sum_by-append (λ (n : LaidNode). content_pages n.node) (nodes_in m) (nodes_in s) in
    let trees = pages_joined (laid_forest m) (laid_forest s) in
    omega (arith, one, other, both, trees)

document_few : (held : Held) (pieces : PieceMap held) (s : StoredDocument) → IsStoredIn (held_by pieces) s → pages_of_lists held.lists (contents_of s.layout) ≤ tree_pages (tree_of s.document)
document_few held pieces s h =
    let few = nodes_few held.lists (nodes_in s.layout) (node_long held pieces s h) in
    let row = row_pages s.layout in
    let same : forest_pages (forest s.document.below) ≡ forest_pages (laid_forest s.layout) = ap (λ (c : CutForest). forest_pages (forest c)) (sym (h.laid).same) in
    omega (arith, few, row, same)

pub contents_few : (held : Held) (pieces : PieceMap held) (stored : List StoredDocument) → All (IsStoredIn (held_by pieces)) stored
    → pages_of_lists held.lists (all_contents stored) ≤ sum (map (λ s. tree_pages (tree_of s.document)) stored)
contents_few held pieces [] each = omega arith
contents_few held pieces (s ∷ stored) each =
    let one = document_few held pieces s (All-head (IsStoredIn (held_by pieces)) s stored each) in
    let rest = contents_few held pieces stored (All-tail (IsStoredIn (held_by pieces)) s stored each) in
    let both = pages-append held.lists (contents_of s.layout) (all_contents stored) in
    let sums = sum_by-cons (λ (n : ℕ). n) (tree_pages (tree_of s.document)) (map (λ (x : StoredDocument). tree_pages (tree_of x.document)) stored) in
    omega (arith, one, rest, both, sums)

-- Elements of lists, as holdings have them.
pub contains_among : (xs : List ℕ) (x : ℕ) → Contains xs x → IsAmong x xs
contains_among [] x among = absurd (no_place x among)
contains_among (y ∷ xs) x among = elim (Contains-append_cases (y ∷ []) xs x among) [ inl here ↦ inl (one_place y x here) | inr later ↦ inr (contains_among xs x later) ]
