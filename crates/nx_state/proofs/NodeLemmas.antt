-- How many nodes documents have for their records.
use Rattle.std.proofs.Common.{◌≡◌, ℕ, ◌+◌, ◌*◌, ◌≤◌, List, [], ◌∷◌, length, map, refl, sym, ap, arith, length-append}
use Rattle.std.specs.Prelude.{All}
use Rattle.std.specs.List.{sum}
use Rattle.std.proofs.lemmas.List.Elements.{All-head, All-tail}
use Rattle.std.proofs.lemmas.List.Sums.{sum_by-cons}
use Rattle.nx_tree.specs.Document.{element_count}
use Rattle.nx_tree.specs.Forest.{Forest, Empty, Plant, nodes}
use Rattle.nx_cuts.specs.Cut.{CutForest, Bare, Grown, Kept, joined, forest, width, AreFree}
use Rattle.nx_layouts.specs.Layout.{Layout, Stock, without_places, laid_forest, AreLaidParts, places_of, whole}
use Rattle.nx_hold.specs.Changes.{place_of}
use Rattle.nx_state.specs.State.{document_size}
use Rattle.nx_state.specs.Stands.{StoredDocument, IsStoredIn, record_places, all_places}

nodes-joined : (f g : Forest) → nodes (joined f g) ≡ nodes f + nodes g
nodes-joined Empty g = omega arith
nodes-joined (Plant n b s) g = let rest = nodes-joined s g in omega (arith, rest)

-- each interval has a member at least
places_few : (k : ℕ) (a : Layout) → AreLaidParts k a → (length (places_of a) ≤ nodes (laid_forest a)) × (AreFree (without_places a) → length (places_of a) + width (without_places a) ≤ nodes (laid_forest a))
places_few k Bare h = (omega arith, λ _. omega arith)
places_few k (Grown node below beside) h =
    let one = (places_few k below h.0).0 in
    let other = places_few k beside h.1 in
    let few = other.0 in
    let places = length-append (places_of below) (places_of beside) in
    (omega (arith, one, few, places), λ free. let fewer = other.1 free in omega (arith, one, fewer, places))
places_few k (Kept place members beside) h =
    let some : 1 ≤ width (without_places members) = h.0 in
    let one = (places_few k members h.3).1 h.1 in
    let other = (places_few k beside h.4).0 in
    let places = length-append (places_of members) (places_of beside) in
    let both = nodes-joined (laid_forest members) (laid_forest beside) in
    (omega (arith, some, one, other, places, both), λ free. absurd free)

records_few : (stock : Stock) (s : StoredDocument) → IsStoredIn stock s → length (record_places s) ≤ document_size s.document
records_few stock s h =
    let few = (places_few stock.most (whole (place_of s.entry.root) s.document.node s.layout) (h.laid).light).0 in
    let same : nodes (forest s.document.below) ≡ nodes (laid_forest s.layout) = ap (λ (c : CutForest). nodes (forest c)) (sym (h.laid).same) in
    omega (arith, few, same)

pub all_few : (stock : Stock) (stored : List StoredDocument) → All (IsStoredIn stock) stored → length (all_places stored) ≤ sum (map (λ s. document_size s.document) stored)
all_few stock [] each = omega arith
all_few stock (s ∷ stored) each =
    let one = records_few stock s (All-head (IsStoredIn stock) s stored each) in
    let rest = all_few stock stored (All-tail (IsStoredIn stock) s stored each) in
    let places = length-append (record_places s) (all_places stored) in
    let sums = sum_by-cons (λ (n : ℕ). n) (document_size s.document) (map (λ (x : StoredDocument). document_size x.document) stored) in
    omega (arith, one, rest, places, sums)

-- a document has a root, and an element below it
two_nodes : (stock : Stock) (s : StoredDocument) → IsStoredIn stock s → 2 ≤ document_size s.document
two_nodes stock s h = some (forest s.document.below) ((h.laid).is_document).one
  where
    some : (f : Forest) → element_count f ≡ 1 → 2 ≤ 1 + nodes f
    some Empty e = absurd (omega (arith, e))
    some (Plant node below beside) e = omega arith

pub all_two : (stock : Stock) (stored : List StoredDocument) → All (IsStoredIn stock) stored → 2 * length stored ≤ sum (map (λ s. document_size s.document) stored)
all_two stock [] each = omega arith
all_two stock (s ∷ stored) each =
    let one = two_nodes stock s (All-head (IsStoredIn stock) s stored each) in
    let rest = all_two stock stored (All-tail (IsStoredIn stock) s stored each) in
    let sums = sum_by-cons (λ (n : ℕ). n) (document_size s.document) (map (λ (x : StoredDocument). document_size x.document) stored) in
    omega (arith, one, rest, sums)
