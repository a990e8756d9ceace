-- The piece of a record's bytes, as a function of them.
use Rattle.std.proofs.Common.{◌≡◌, ℕ, zero, suc, ◌+◌, ◌*◌, ◌<◌, ◌≤◌, Bool, true, false, List, [], ◌∷◌, ◌++◌, length, take, drop, get_or, refl, sym, ap, ap₂, ◌∙◌, subst, arith, append_assoc, inl, inr, nat_eq}
use Rattle.std.specs.Prelude.{Option, None, Some, ◌⊎◌}
use Rattle.std.specs.Int.{w16, w32, from_be_bytes, div_ceil}
use Rattle.std.proofs.Math.ListN.{replicate}
use Rattle.std.proofs.Math.Seq.{drop-append_seam, take-append_seam}
use Rattle.std.proofs.lemmas.Nat.{from_be_bytes-to_be_bytes_2, from_be_bytes-to_be_bytes_4}
use Rattle.std.proofs.lemmas.List.{append-nil}
use Rattle.std.proofs.lemmas.Grind.{div_ceil_times}
use Rattle.std.proofs.lemmas.Bool.{cases_lt}
use Rattle.std.proofs.lemmas.Bool.Decides.{eqb_tells}
use Rattle.nx_tree.specs.declared.node.Kind.{Kind}
use Rattle.nx_tree.specs.declared.node.Kind.TheVariants.{Doc, Element, Attribute, Text, Instruction}
use Rattle.nx_piece.specs.declared.piece.Proxy.{Proxy}
use Rattle.nx_piece.specs.declared.piece.Stored.{Stored}
use Rattle.nx_piece.specs.declared.piece.Stored.TheVariants.{Inline, Chained}
use Rattle.nx_piece.specs.Decoded.{IsDecoded}
use Rattle.nx_piece.specs.declared.piece.Far.{Far}
use Rattle.nx_tree.specs.Document.{longest_node}
use Rattle.nx_weights.specs.Weight.{longest_near}
use Rattle.nx_piece.specs.PieceNode.{PieceNode, item_content, content_with, IsFarWith, MayBeFar, HasFarPage}
use Rattle.nx_piece.specs.Gapped.{Gapped, End, Grow, Gap, item_count, gapped_width, gapped_size, proxies_in}
use Rattle.nx_piece.specs.Encoding.{two_bytes, four_bytes, kind_byte, far_byte, padding, content_bytes, node_bytes, items_bytes, proxies_bytes, encoding}
use Rattle.nx_piece.specs.Valid.{AreApart, AreFar, AreTrees, HavePages, BeginsNoGap, IsValid, IsValidBody, IsValidInline, IsValidChained, HaveRoots, HaveNumbers, HasNumbers, inline_length, longest_inline}
use Rattle.nx_piece.proofs.WalkLemmas.{item_count_most}
use Rattle.nx_piece.proofs.ApartLemmas.{kind_from, kind_back, IsSmallNode, small_lengths, IsStorable, storable_node, storable_gap, grow_bytes, length-content}
use Rattle.nx_piece.proofs.BodyLemmas.{valid_storable}

-- the node with a name and these bytes in its content's place, by the byte that says whether it is far
abbrev placed_node : ℕ → Kind → List ℕ → List ℕ → PieceNode
placed_node zero kind name place = record { node = record { kind = kind; name = name; content = place }; far = None }
placed_node (suc more) kind name place = record {
  node = record { kind = kind; name = name; content = [] };
  far = Some (record { first = from_be_bytes w32 (take 4 place); length = from_be_bytes w32 (take 4 (drop 4 place)) });
}

-- the node with a name and a content's place of so many bytes
abbrev node_of : ℕ → Kind → ℕ → ℕ → List ℕ → PieceNode
node_of far kind name content bytes = placed_node far kind (take name bytes) (take content (drop name bytes))

abbrev size_of : ℕ → ℕ → ℕ
size_of name content = 8 * div_ceil (name + content) 8

-- the item that the bytes begin with, and those beside it, by what reads rows
abbrev item_of : Bool → (ℕ → List ℕ → Gapped × List ℕ) → ℕ → Kind → ℕ → ℕ → ℕ → ℕ → ℕ → List ℕ → Gapped × List ℕ
item_of true rows count kind far name content items run behind = (Gap run (rows count behind).0, (rows count behind).1)
item_of false rows count kind far name content items run behind = (
  Grow (node_of far kind name content behind) (rows items (drop (size_of name content) behind)).0 (rows count (rows items (drop (size_of name content) behind)).1).0,
  (rows count (rows items (drop (size_of name content) behind)).1).1,
)

abbrev item_at : (ℕ → List ℕ → Gapped × List ℕ) → ℕ → List ℕ → Gapped × List ℕ
item_at rows count bytes =
    item_of (nat_eq (get_or bytes 0 0) 6) rows count (kind_from (get_or bytes 0 0)) (get_or bytes 1 0) (from_be_bytes w16 (take 2 (drop 2 bytes))) (from_be_bytes w16 (take 2 (drop 4 bytes)))
    (from_be_bytes w16 (take 2 (drop 6 bytes))) (from_be_bytes w32 (take 4 (drop 4 bytes))) (drop 8 bytes)

-- so many items, and what stands behind them, in at most so many steps
abbrev row_of : ℕ → ℕ → List ℕ → Gapped × List ℕ
row_of zero count bytes = (End, bytes)
row_of (suc steps) zero bytes = (End, bytes)
row_of (suc steps) (suc count) bytes = item_at (λ k bs. row_of steps k bs) count bytes

not_six : (k : Kind) → nat_eq (kind_byte k) 6 ≡ false
not_six Doc = refl
not_six Element = refl
not_six Attribute = refl
not_six Text = refl
not_six Instruction = refl

parts : (a b r : List ℕ) → content_bytes a b ++ r ≡ a ++ (b ++ (replicate (padding (length a + length b)) 0 ++ r))
parts a b r =
    append_assoc (a ++ b) (replicate (padding (length a + length b)) 0) r
    ∙ append_assoc a b (replicate (padding (length a + length b)) 0 ++ r)

-- the name and the content's place are cut out again
name_back : (a b r : List ℕ) → take (length a) (content_bytes a b ++ r) ≡ a
name_back a b r = ap (take (length a)) (parts a b r) ∙ take-append_seam a (b ++ (replicate (padding (length a + length b)) 0 ++ r))

place_back : (a b r : List ℕ) → take (length b) (drop (length a) (content_bytes a b ++ r)) ≡ b
place_back a b r =
    ap (λ (l : List ℕ). take (length b) (drop (length a) l)) (parts a b r)
    ∙ ap (take (length b)) (drop-append_seam a (b ++ (replicate (padding (length a + length b)) 0 ++ r)))
    ∙ take-append_seam b (replicate (padding (length a + length b)) 0 ++ r)

-- and the place tells the content, or where it is
far_back : (kind : Kind) (name own : List ℕ) (far : Option Far) → IsFarWith own far → HasFarPage far
    → placed_node (far_byte far) kind name (content_with own far) ≡ record { node = record { kind = kind; name = name; content = own }; far = far }
far_back kind name own None h k = refl
far_back kind name own (Some far) h k =
    let long : far.length ≤ 1048576 = h.2 in
    ap (λ (n : ℕ). record { node = record { kind = kind; name = name; content = [] }; far = Some (record { first = n; length = from_be_bytes w32 (four_bytes far.length) }) }) (from_be_bytes-to_be_bytes_4 far.first k)
    ∙ ap (λ (n : ℕ). record { node = record { kind = kind; name = name; content = [] }; far = Some (record { first = far.first; length = n }) }) (from_be_bytes-to_be_bytes_4 far.length (omega arith))
    ∙ ap (λ (l : List ℕ). record { node = record { kind = kind; name = name; content = l }; far = Some far }) (sym h.0)

node_back : (n : PieceNode) (r : List ℕ) → MayBeFar n → HasFarPage n.far → node_of (far_byte n.far) n.node.kind (length n.node.name) (length (item_content n)) (content_bytes n.node.name (item_content n) ++ r) ≡ n
node_back n r may page =
    ap₂ (placed_node (far_byte n.far) n.node.kind) (name_back n.node.name (item_content n) r) (place_back n.node.name (item_content n) r)
    ∙ far_back n.node.kind n.node.name n.node.content n.far may page

behind_back : (n : PieceNode) (r : List ℕ) → drop (size_of (length n.node.name) (length (item_content n))) (content_bytes n.node.name (item_content n) ++ r) ≡ r
behind_back n r =
    let times = div_ceil_times (length n.node.name + length (item_content n)) 8 (omega arith) in
    let size : size_of (length n.node.name) (length (item_content n)) ≡ length (content_bytes n.node.name (item_content n)) = let c = length-content n.node.name (item_content n) in omega arith in
    ap (λ (k : ℕ). drop k (content_bytes n.node.name (item_content n) ++ r)) size ∙ drop-append_seam (content_bytes n.node.name (item_content n)) r

node_item : (rows : ℕ → List ℕ → Gapped × List ℕ) (count : ℕ) (n : PieceNode) (i : ℕ) (r : List ℕ) → IsSmallNode n → MayBeFar n → HasFarPage n.far → i < 65536
    → item_at rows count (node_bytes n i ++ r) ≡ (Grow n (rows i r).0 (rows count (rows i r).1).0, (rows count (rows i r).1).1)
node_item rows count n i r small may page fits =
    let run = from_be_bytes w32 (take 4 (drop 4 (node_bytes n i ++ r))) in
    let far = far_byte n.far in
    let name = length n.node.name in
    let place = length (item_content n) in
    let behind = content_bytes n.node.name (item_content n) ++ r in
    ap (λ (t : Bool). item_of t rows count (kind_from (kind_byte n.node.kind)) far (from_be_bytes w16 (two_bytes name)) (from_be_bytes w16 (two_bytes place)) (from_be_bytes w16 (two_bytes i)) run behind) (not_six n.node.kind)
    ∙ ap (λ (k : Kind). item_of false rows count k far (from_be_bytes w16 (two_bytes name)) (from_be_bytes w16 (two_bytes place)) (from_be_bytes w16 (two_bytes i)) run behind) (kind_back n.node.kind)
    ∙ ap (λ (k : ℕ). item_of false rows count n.node.kind far k (from_be_bytes w16 (two_bytes place)) (from_be_bytes w16 (two_bytes i)) run behind) (from_be_bytes-to_be_bytes_2 name (small_lengths n small).0)
    ∙ ap (λ (k : ℕ). item_of false rows count n.node.kind far name k (from_be_bytes w16 (two_bytes i)) run behind) (from_be_bytes-to_be_bytes_2 place (small_lengths n small).1)
    ∙ ap (λ (k : ℕ). item_of false rows count n.node.kind far name place k run behind) (from_be_bytes-to_be_bytes_2 i fits)
    ∙ ap (λ (m : PieceNode). (
      Grow m (rows i (drop (size_of name place) behind)).0 (rows count (rows i (drop (size_of name place) behind)).1).0,
      (rows count (rows i (drop (size_of name place) behind)).1).1,
    )) (node_back n r may page)
    ∙ ap (λ (bs : List ℕ). (Grow n (rows i bs).0 (rows count (rows i bs).1).0, (rows count (rows i bs).1).1)) (behind_back n r)

row_back : (steps : ℕ) (f : Gapped) (x : List ℕ) → IsStorable f → item_count f < steps → row_of steps (gapped_width f) (items_bytes f ++ x) ≡ (f, x)
row_back zero f x h few = absurd (omega arith)
row_back (suc steps) End x h few = refl
row_back (suc steps) (Grow n b s) x h few =
    let p = storable_node n b s h in
    let one : gapped_width (Grow n b s) ≡ suc (gapped_width s) = omega arith in
    let below = row_back steps b (items_bytes s ++ x) p.2 (omega arith) in
    let beside = row_back steps s x p.3 (omega arith) in
    ap (λ (k : ℕ). row_of (suc steps) k (items_bytes (Grow n b s) ++ x)) one
    ∙ ap (λ (bs : List ℕ). item_at (λ k cs. row_of steps k cs) (gapped_width s) bs) (sym (grow_bytes n b s x))
    ∙ node_item (λ k cs. row_of steps k cs) (gapped_width s) n (gapped_width b) (items_bytes b ++ (items_bytes s ++ x)) p.0 h.far.0 h.pages.0 p.1
    ∙ ap (λ (r : Gapped × List ℕ). (Grow n r.0 (row_of steps (gapped_width s) r.1).0, (row_of steps (gapped_width s) r.1).1)) below
    ∙ ap (λ (r : Gapped × List ℕ). (Grow n b r.0, r.1)) beside
row_back (suc steps) (Gap c s) x h few =
    let p = storable_gap c s h in
    let one : gapped_width (Gap c s) ≡ suc (gapped_width s) = omega arith in
    let beside = row_back steps s x p.1 (omega arith) in
    ap (λ (k : ℕ). row_of (suc steps) k (items_bytes (Gap c s) ++ x)) one
    ∙ ap (λ (k : ℕ). (Gap k (row_of steps (gapped_width s) (items_bytes s ++ x)).0, (row_of steps (gapped_width s) (items_bytes s ++ x)).1)) (from_be_bytes-to_be_bytes_4 c p.0)
    ∙ ap (λ (r : Gapped × List ℕ). (Gap c r.0, r.1)) beside

-- so many proxies
abbrev proxies_of : ℕ → List ℕ → List Proxy
proxies_of zero bytes = []
proxies_of (suc count) bytes =
    record { page = from_be_bytes w32 (take 4 bytes); slot = from_be_bytes w16 (take 2 (drop 4 bytes)); roots = from_be_bytes w16 (take 2 (drop 6 bytes)) } ∷ proxies_of count (drop 8 bytes)

proxies_back : (ps : List Proxy) → HaveRoots ps → HaveNumbers ps → proxies_of (length ps) (proxies_bytes ps) ≡ ps
proxies_back [] h k = refl
proxies_back (p ∷ ps) h k =
    let one : length (p ∷ ps) ≡ suc (length ps) = omega arith in
    let roots : p.roots ≤ 256 = h.1 in
    ap (λ (n : ℕ). proxies_of n (proxies_bytes (p ∷ ps))) one
    ∙ ap (λ (n : ℕ). record { page = n; slot = from_be_bytes w16 (two_bytes p.slot); roots = from_be_bytes w16 (two_bytes p.roots) } ∷ proxies_of (length ps) (proxies_bytes ps)) (from_be_bytes-to_be_bytes_4 p.page k.0)
    ∙ ap (λ (n : ℕ). record { page = p.page; slot = n; roots = from_be_bytes w16 (two_bytes p.roots) } ∷ proxies_of (length ps) (proxies_bytes ps)) (from_be_bytes-to_be_bytes_2 p.slot k.1)
    ∙ ap (λ (n : ℕ). record { page = p.page; slot = p.slot; roots = n } ∷ proxies_of (length ps) (proxies_bytes ps)) (from_be_bytes-to_be_bytes_2 p.roots (omega arith))
    ∙ ap (λ (xs : List Proxy). p ∷ xs) (proxies_back ps h.2 k.2)

abbrev stored_by : Bool → Gapped × List ℕ → ℕ → ℕ → Stored
stored_by true row proxies chain = Inline (record { body = record { roots = row.0 }; proxies = proxies_of proxies row.1 })
stored_by false row proxies chain = Chained (record { roots = row.0 }) proxies chain

-- what the bytes would be the encoding of
abbrev looked : List ℕ → Stored
looked bytes =
    stored_by (nat_eq (get_or bytes 0 0) 1) (row_of (suc (from_be_bytes w32 (take 4 (drop 4 bytes)))) (from_be_bytes w16 (take 2 (drop 2 bytes))) (drop 16 bytes))
    (from_be_bytes w32 (take 4 (drop 8 bytes))) (from_be_bytes w32 (take 4 (drop 12 bytes)))

-- what is read of a head and of the items behind it
row_read : (f : Gapped) (p : ℕ) (x : List ℕ) → IsValidBody f p → HavePages f → row_of (suc (from_be_bytes w32 (four_bytes (item_count f)))) (from_be_bytes w16 (two_bytes (gapped_width f))) (items_bytes f ++ x) ≡ (f, x)
row_read f p x h k =
    let few : gapped_width f ≤ 256 = h.few in
    let s = item_count_most f h.apart in let l = h.small in
    ap (λ (k : ℕ). row_of (suc k) (from_be_bytes w16 (two_bytes (gapped_width f))) (items_bytes f ++ x)) (from_be_bytes-to_be_bytes_4 (item_count f) (omega arith))
    ∙ ap (λ (k : ℕ). row_of (suc (item_count f)) k (items_bytes f ++ x)) (from_be_bytes-to_be_bytes_2 (gapped_width f) (omega arith))
    ∙ row_back (suc (item_count f)) f x (valid_storable f p h k) (omega arith)

count_read : (f : Gapped) (p : ℕ) → IsValidBody f p → from_be_bytes w32 (four_bytes p) ≡ p
count_read f p h = let a = h.few_proxies in from_be_bytes-to_be_bytes_4 p (omega arith)

pub looked_back : (s : Stored) → IsValid s → HasNumbers s → looked (encoding s) ≡ s
looked_back (Inline piece) h k =
    ap (λ (r : Gapped × List ℕ). stored_by true r (from_be_bytes w32 (four_bytes (length piece.proxies))) (from_be_bytes w32 (four_bytes 0))) (row_read piece.body.roots (length piece.proxies) (proxies_bytes piece.proxies) h.body k.1)
    ∙ ap (λ (n : ℕ). stored_by true (piece.body.roots, proxies_bytes piece.proxies) n (from_be_bytes w32 (four_bytes 0))) (count_read piece.body.roots (length piece.proxies) h.body)
    ∙ ap (λ (ps : List Proxy). Inline (record { body = piece.body; proxies = ps })) (proxies_back piece.proxies h.ranged k.0)
looked_back (Chained body count chain) h k =
    ap (λ (bs : List ℕ). stored_by false (row_of (suc (from_be_bytes w32 (four_bytes (item_count body.roots)))) (from_be_bytes w16 (two_bytes (gapped_width body.roots))) bs) (from_be_bytes w32 (four_bytes count)) (from_be_bytes w32 (four_bytes chain))) (sym (append-nil (items_bytes body.roots)))
    ∙ ap (λ (r : Gapped × List ℕ). stored_by false r (from_be_bytes w32 (four_bytes count)) (from_be_bytes w32 (four_bytes chain))) (row_read body.roots count [] h.body k.1)
    ∙ ap (λ (n : ℕ). Chained body n (from_be_bytes w32 (four_bytes chain))) (count_read body.roots count h.body)
    ∙ ap (λ (n : ℕ). Chained body count n) (from_be_bytes-to_be_bytes_4 chain k.0)

-- each of the conditions holds or doesn't:

abbrev Decided : Type 0 → Type 0
Decided P = P ⊎ (P → ⊥)

both : {P Q : Type 0} → Decided P → Decided Q → Decided (P × Q)
both (inl p) (inl q) = inl (p, q)
both (inl p) (inr n) = inr (λ h. n h.1)
both (inr n) d = inr (λ h. n h.0)

as_decided : {P Q : Type 0} → (P → Q) → (Q → P) → Decided P → Decided Q
as_decided f g (inl p) = inl (f p)
as_decided f g (inr n) = inr (λ q. n (g q))

at_most : (a b : ℕ) → Decided (a ≤ b)
at_most a b = elim (cases_lt b a) [ inl h ↦ inr (λ k. omega arith) | inr h ↦ inl h ]

same_number : (a b : ℕ) → Decided (a ≡ b)
same_number a b = elim (eqb_tells a b) [ inl h ↦ inl h.1 | inr h ↦ inr h.1 ]

same_list : (xs ys : List ℕ) → Decided (xs ≡ ys)
same_list [] [] = inl refl
same_list [] (y ∷ ys) = inr (λ e. absurd (cc))
same_list (x ∷ xs) [] = inr (λ e. absurd (cc))
same_list (x ∷ xs) (y ∷ ys) =
    as_decided (λ (h : (x ≡ y) × (xs ≡ ys)). ap (λ (z : ℕ). z ∷ xs) h.0 ∙ ap (λ (zs : List ℕ). y ∷ zs) h.1)
    (λ (e : (x ∷ xs) ≡ (y ∷ ys)). (ap (λ (l : List ℕ). get_or l 0 0) e, ap (drop 1) e))
    (both (same_number x y) (same_list xs ys))

trees_decided : (f : Gapped) → Decided (AreTrees f)
trees_decided End = inl tt
trees_decided (Grow n b s) = trees_decided s
trees_decided (Gap c s) = inr (λ h. h)

begins_decided : (f : Gapped) → Decided (BeginsNoGap f)
begins_decided End = inl tt
begins_decided (Grow n b s) = inl tt
begins_decided (Gap c s) = inr (λ h. h)

apart_decided : (f : Gapped) → Decided (AreApart f)
apart_decided End = inl tt
apart_decided (Grow n b s) = both (apart_decided b) (apart_decided s)
apart_decided (Gap c s) =
    as_decided (λ (h : (1 ≤ c) × (BeginsNoGap s × AreApart s)). (h.0, h.1.0, h.1.1)) (λ h. (h.0, (h.1, h.2)))
    (both (at_most 1 c) (both (begins_decided s) (apart_decided s)))

node_far_decided : (own : List ℕ) (far : Option Far) → Decided (IsFarWith own far)
node_far_decided own None = inl tt
node_far_decided own (Some far) =
    as_decided (λ (h : (own ≡ []) × ((longest_near < far.length) × (far.length ≤ longest_node))). (h.0, h.1.0, h.1.1)) (λ h. (h.0, (h.1, h.2)))
    (both (same_list own []) (both (at_most (suc longest_near) far.length) (at_most far.length longest_node)))

far_decided : (f : Gapped) → Decided (AreFar f)
far_decided End = inl tt
far_decided (Grow n b s) =
    as_decided (λ (h : IsFarWith n.node.content n.far × (AreFar b × AreFar s)). (h.0, h.1.0, h.1.1)) (λ h. (h.0, (h.1, h.2)))
    (both (node_far_decided n.node.content n.far) (both (far_decided b) (far_decided s)))
far_decided (Gap c s) = far_decided s

page_decided : (far : Option Far) → Decided (HasFarPage far)
page_decided None = inl tt
page_decided (Some far) = at_most (suc far.first) 4294967296

pages_decided : (f : Gapped) → Decided (HavePages f)
pages_decided End = inl tt
pages_decided (Grow n b s) =
    as_decided (λ (h : HasFarPage n.far × (HavePages b × HavePages s)). (h.0, h.1.0, h.1.1)) (λ h. (h.0, (h.1, h.2)))
    (both (page_decided n.far) (both (pages_decided b) (pages_decided s)))
pages_decided (Gap c s) = pages_decided s

roots_decided : (ps : List Proxy) → Decided (HaveRoots ps)
roots_decided [] = inl tt
roots_decided (p ∷ ps) =
    as_decided (λ (h : (1 ≤ p.roots) × ((p.roots ≤ 256) × HaveRoots ps)). (h.0, h.1.0, h.1.1)) (λ h. (h.0, (h.1, h.2)))
    (both (at_most 1 p.roots) (both (at_most p.roots 256) (roots_decided ps)))

numbers_decided : (ps : List Proxy) → Decided (HaveNumbers ps)
numbers_decided [] = inl tt
numbers_decided (p ∷ ps) =
    as_decided (λ (h : (p.page < 4294967296) × ((p.slot < 65536) × HaveNumbers ps)). (h.0, h.1.0, h.1.1)) (λ h. (h.0, (h.1, h.2)))
    (both (at_most (suc p.page) 4294967296) (both (at_most (suc p.slot) 65536) (numbers_decided ps)))

body_decided : (f : Gapped) (p : ℕ) → Decided (IsValidBody f p)
body_decided f p =
    as_decided
    (λ (h : (AreTrees f × ((1 ≤ gapped_width f) × (gapped_width f ≤ 256))) × (((gapped_size f ≤ 256) × (AreApart f × AreFar f)) × ((proxies_in f ≡ p) × (p ≤ 524288)))).
    record { trees = h.0.0; some = h.0.1.0; few = h.0.1.1; small = h.1.0.0; apart = h.1.0.1.0; far = h.1.0.1.1; counted = h.1.1.0; few_proxies = h.1.1.1 })
    (λ (b : IsValidBody f p). ((b.trees, (b.some, b.few)), ((b.small, (b.apart, b.far)), (b.counted, b.few_proxies))))
    (both (both (trees_decided f) (both (at_most 1 (gapped_width f)) (at_most (gapped_width f) 256)))
    (both (both (at_most (gapped_size f) 256) (both (apart_decided f) (far_decided f))) (both (same_number (proxies_in f) p) (at_most p 524288))))

valid_decided : (s : Stored) → Decided (IsValid s)
valid_decided (Inline piece) =
    as_decided
    (λ (h : IsValidBody piece.body.roots (length piece.proxies) × (HaveRoots piece.proxies × (inline_length piece.body.roots (length piece.proxies) ≤ longest_inline))).
    record { body = h.0; ranged = h.1.0; fits = h.1.1 })
    (λ (v : IsValidInline piece.body.roots piece.proxies). (v.body, (v.ranged, v.fits)))
    (both (body_decided piece.body.roots (length piece.proxies)) (both (roots_decided piece.proxies) (at_most (inline_length piece.body.roots (length piece.proxies)) longest_inline)))
valid_decided (Chained body count chain) =
    as_decided
    (λ (h : IsValidBody body.roots count × (longest_inline < inline_length body.roots count)). record { body = h.0; long = h.1 })
    (λ (v : IsValidChained body.roots count). (v.body, v.long))
    (both (body_decided body.roots count) (at_most (suc longest_inline) (inline_length body.roots count)))

fields_decided : (s : Stored) → Decided (HasNumbers s)
fields_decided (Inline piece) = both (numbers_decided piece.proxies) (pages_decided piece.body.roots)
fields_decided (Chained body count chain) = both (at_most (suc chain) 4294967296) (pages_decided body.roots)

decided : (bytes : List ℕ) (s : Stored) → Decided (IsDecoded bytes (Some s))
decided bytes s =
    as_decided (λ (h : IsValid s × (HasNumbers s × (bytes ≡ encoding s))). (h.0, h.1.0, h.1.1)) (λ h. (h.0, (h.1, h.2)))
    (both (valid_decided s) (both (fields_decided s) (same_list bytes (encoding s))))

kept : (bytes : List ℕ) (s : Stored) → Decided (IsDecoded bytes (Some s)) → Option Stored
kept bytes s (inl h) = Some s
kept bytes s (inr n) = None

-- the piece of a record's bytes, where they are those of a valid one whose numbers fit
pub stored_of : List ℕ → Option Stored
stored_of bytes = kept bytes (looked bytes) (decided bytes (looked bytes))

kept_some : (bytes : List ℕ) (s : Stored) (d : Decided (IsDecoded bytes (Some s))) → IsDecoded bytes (Some s) → kept bytes s d ≡ Some s
unfolding kept
kept_some bytes s (inl h) k = refl
kept_some bytes s (inr n) k = absurd (n k)

kept_none : (bytes : List ℕ) (s : Stored) (d : Decided (IsDecoded bytes (Some s))) → IsDecoded bytes None → kept bytes s d ≡ None
unfolding kept
kept_none bytes s (inl h) k = absurd (k s h.0 h.2)
kept_none bytes s (inr n) k = refl

-- bytes are decoded as the function says
pub decoded_is : (bytes : List ℕ) (read : Option Stored) → IsDecoded bytes read → stored_of bytes ≡ read
unfolding stored_of
decoded_is bytes None h = kept_none bytes (looked bytes) (decided bytes (looked bytes)) h
decoded_is bytes (Some s) h =
    let same : looked bytes ≡ s = ap looked h.2 ∙ looked_back s h.0 h.1 in
    kept_some bytes (looked bytes) (decided bytes (looked bytes)) (subst (λ (t : Stored). IsDecoded bytes (Some t)) (sym same) h) ∙ ap Some same

is_kept : (bytes : List ℕ) (s t : Stored) (d : Decided (IsDecoded bytes (Some s))) → kept bytes s d ≡ Some t → IsDecoded bytes (Some t)
unfolding kept
is_kept bytes s t (inl h) e = let same : s ≡ t = cc in subst (λ (x : Stored). IsDecoded bytes (Some x)) same h
is_kept bytes s t (inr n) e = absurd (cc)

-- and the function's answer is that of the bytes
pub is_stored_of : (bytes : List ℕ) (s : Stored) → stored_of bytes ≡ Some s → IsDecoded bytes (Some s)
unfolding stored_of
is_stored_of bytes s e = is_kept bytes (looked bytes) s (decided bytes (looked bytes)) e

-- so many proxies are those of a list's bytes
pub record AreListed (bytes : List ℕ) (count : ℕ) (ps : List Proxy) : Type 0 where
  pub counted : length ps ≡ count
  pub rooted : HaveRoots ps
  pub numbers : HaveNumbers ps
  pub same : bytes ≡ proxies_bytes ps

listed : (bytes : List ℕ) (count : ℕ) (ps : List Proxy) → Decided (AreListed bytes count ps)
listed bytes count ps =
    as_decided (λ (h : ((length ps ≡ count) × HaveRoots ps) × (HaveNumbers ps × (bytes ≡ proxies_bytes ps))). record { counted = h.0.0; rooted = h.0.1; numbers = h.1.0; same = h.1.1 })
    (λ (l : AreListed bytes count ps). ((l.counted, l.rooted), (l.numbers, l.same)))
    (both (both (same_number (length ps) count) (roots_decided ps)) (both (numbers_decided ps) (same_list bytes (proxies_bytes ps))))

kept_list : (bytes : List ℕ) (count : ℕ) (ps : List Proxy) → Decided (AreListed bytes count ps) → Option (List Proxy)
kept_list bytes count ps (inl h) = Some ps
kept_list bytes count ps (inr n) = None

-- the proxies of a list's bytes, where they are those of so many with 1 to 256 roots
pub list_of : ℕ → List ℕ → Option (List Proxy)
list_of count bytes = kept_list bytes count (proxies_of count bytes) (listed bytes count (proxies_of count bytes))

is_kept_list : (bytes : List ℕ) (count : ℕ) (ps qs : List Proxy) (d : Decided (AreListed bytes count ps)) → kept_list bytes count ps d ≡ Some qs → AreListed bytes count qs
unfolding kept_list
is_kept_list bytes count ps qs (inl h) e = let same : ps ≡ qs = cc in subst (λ (x : List Proxy). AreListed bytes count x) same h
is_kept_list bytes count ps qs (inr n) e = absurd (cc)

pub is_list_of : (bytes : List ℕ) (count : ℕ) (ps : List Proxy) → list_of count bytes ≡ Some ps → AreListed bytes count ps
unfolding list_of
is_list_of bytes count ps e = is_kept_list bytes count (proxies_of count bytes) ps (listed bytes count (proxies_of count bytes)) e

list_there : (bytes : List ℕ) (count : ℕ) (ps : List Proxy) (d : Decided (AreListed bytes count ps)) → AreListed bytes count ps → kept_list bytes count ps d ≡ Some ps
unfolding kept_list
list_there bytes count ps (inl h) l = refl
list_there bytes count ps (inr n) l = absurd (n l)

-- a list is read as the function says
pub list_is : (bytes : List ℕ) (count : ℕ) (ps : List Proxy) → AreListed bytes count ps → list_of count bytes ≡ Some ps
unfolding list_of
list_is bytes count ps l =
    let same : proxies_of count bytes ≡ ps =
    ap (λ (n : ℕ). proxies_of n bytes) (sym l.counted) ∙ ap (λ (bs : List ℕ). proxies_of (length ps) bs) l.same ∙ proxies_back ps l.rooted l.numbers in
    list_there bytes count (proxies_of count bytes) (listed bytes count (proxies_of count bytes)) (subst (λ (x : List Proxy). AreListed bytes count x) (sym same) l) ∙ ap Some same
