-- No two pieces have the same bytes, how many bytes each has, and which calls it may be given to.
use Rattle.std.proofs.Common.{◌≡◌, ℕ, ◌+◌, ◌*◌, ◌<◌, ◌≤◌, List, [], ◌∷◌, ◌++◌, length, take, drop, refl, sym, ap, ◌∙◌, arith}
use Rattle.std.proofs.lemmas.List.{length-append, append-nil}
use Rattle.std.specs.Prelude.{Option, None, Some}
use Rattle.nx_piece.specs.declared.piece.Proxy.{Proxy}
use Rattle.nx_piece.specs.declared.piece.Body.{Body}
use Rattle.nx_piece.specs.declared.piece.Piece.{Piece}
use Rattle.nx_piece.specs.declared.piece.Stored.{Stored}
use Rattle.nx_piece.specs.declared.piece.Stored.TheVariants.{Inline, Chained}
use Rattle.nx_piece.specs.Decoded.{IsDecoded}
use Rattle.nx_piece.specs.declared.piece.Far.{Far}
use Rattle.nx_tree.specs.Document.{longest_node}
use Rattle.nx_piece.specs.PieceNode.{PieceNode, content_with, length_with, item_slots, IsFarWith, MayBeFar, IsShortNode}
use Rattle.nx_piece.specs.Gapped.{Gapped, End, Grow, Gap, gapped_width, gapped_size, gapped_weight, slots_in}
use Rattle.nx_piece.specs.Encoding.{proxy_bytes, proxies_bytes, body_bytes, encoding}
use Rattle.nx_piece.specs.Valid.{AreApart, AreFar, AreTrees, BeginsNoGap, IsValid, IsValidBody, IsValidInline, IsValidChained, IsPiece, HaveRoots, HaveNumbers, HasNumbers, inline_length}
use Rattle.nx_piece.specs.Weight.{HaveShortNodes}
use Rattle.nx_piece.proofs.SizeLemmas.{weight_within}
use Rattle.nx_piece.proofs.ApartLemmas.{two_unique, four_unique}
use Rattle.nx_piece.proofs.BodyLemmas.{body_unique, items_length, proxies_length}

pub proxy_unique : (p q : Proxy) (x y : List ℕ) → (p.page < 4294967296) × (p.slot < 65536) × (p.roots ≤ 256) → (q.page < 4294967296) × (q.slot < 65536) × (q.roots ≤ 256) → proxy_bytes p ++ x ≡ proxy_bytes q ++ y → p ≡ q
proxy_unique p q x y hp hq e =
    let a : p.page ≡ q.page = four_unique p.page q.page hp.0 hq.0 (ap (λ (l : List ℕ). take 4 l) e) in
    let b : p.slot ≡ q.slot = two_unique p.slot q.slot hp.1 hq.1 (ap (λ (l : List ℕ). take 2 (drop 4 l)) e) in
    let r : p.roots ≤ 256 = hp.2 in let s : q.roots ≤ 256 = hq.2 in
    let c : p.roots ≡ q.roots = two_unique p.roots q.roots (omega arith) (omega arith) (ap (λ (l : List ℕ). take 2 (drop 6 l)) e) in
    ap (λ (k : ℕ). record { page = k; slot = p.slot; roots = p.roots }) a
    ∙ ap (λ (k : ℕ). record { page = q.page; slot = k; roots = p.roots }) b
    ∙ ap (λ (k : ℕ). record { page = q.page; slot = q.slot; roots = k }) c

pub proxies_unique : (ps qs : List Proxy) → HaveRoots ps → HaveRoots qs → HaveNumbers ps → HaveNumbers qs → proxies_bytes ps ≡ proxies_bytes qs → ps ≡ qs
proxies_unique [] [] hp hq np nq e = refl
proxies_unique [] (q ∷ qs) hp hq np nq e = absurd (cc)
proxies_unique (p ∷ ps) [] hp hq np nq e = absurd (cc)
proxies_unique (p ∷ ps) (q ∷ qs) hp hq np nq e =
    let first = proxy_unique p q (proxies_bytes ps) (proxies_bytes qs) (np.0, np.1, hp.1) (nq.0, nq.1, hq.1) e in
    let rest = proxies_unique ps qs hp.2 hq.2 np.2 nq.2 (ap (drop 8) e) in
    ap (λ (x : Proxy). x ∷ ps) first ∙ ap (λ (xs : List Proxy). q ∷ xs) rest

-- no two pieces have the same bytes
pub one_stored : (a b : Stored) → IsValid a → IsValid b → HasNumbers a → HasNumbers b → encoding a ≡ encoding b → a ≡ b
one_stored (Inline piece) (Inline other) va vb na nb e =
    let t = body_unique {c = 0} {d = 0} va.body vb.body na.1 nb.1 e in
    let ps = proxies_unique piece.proxies other.proxies va.ranged vb.ranged na.0 nb.0 t.behind in
    ap (λ (f : Gapped). Inline (record { body = record { roots = f }; proxies = piece.proxies })) (sym t.roots)
    ∙ ap (λ (xs : List Proxy). Inline (record { body = other.body; proxies = xs })) ps
one_stored (Inline piece) (Chained body count chain) va vb na nb e = absurd (cc)
one_stored (Chained body count chain) (Inline piece) va vb na nb e = absurd (cc)
one_stored (Chained body count chain) (Chained other sum first) va vb na nb e =
    let t = body_unique va.body vb.body na.1 nb.1 (append-nil _ ∙ e ∙ sym (append-nil _)) in
    ap (λ (f : Gapped). Chained (record { roots = f }) count chain) (sym t.roots)
    ∙ ap (λ (k : ℕ). Chained other k chain) t.proxies
    ∙ ap (λ (k : ℕ). Chained other sum k) (four_unique chain first na.0 nb.0 t.chain)

-- bytes are decoded in one way
pub one_decoded : (bytes : List ℕ) (a b : Option Stored) → IsDecoded bytes a → IsDecoded bytes b → a ≡ b
one_decoded bytes None None h k = refl
one_decoded bytes None (Some s) h k = absurd (h s k.0 k.2)
one_decoded bytes (Some s) None h k = absurd (k s h.0 h.2)
one_decoded bytes (Some s) (Some t) h k = ap Some (one_stored s t h.0 k.0 h.1 k.1 (sym h.2 ∙ k.2))

-- a record has a multiple of 8 bytes, and the inline form as many as its validity speaks of
pub inline_bytes : (piece : Piece) → length (encoding (Inline piece)) ≡ inline_length piece.body.roots (length piece.proxies)
inline_bytes piece =
    let a = length-append (body_bytes 1 piece.body.roots (length piece.proxies) 0) (proxies_bytes piece.proxies) in
    let i = items_length piece.body.roots in let p = proxies_length piece.proxies in
    omega arith

pub chained_bytes : (body : Body) (count chain : ℕ) → length (encoding (Chained body count chain)) ≡ 16 + 8 * slots_in body.roots
chained_bytes body count chain = let i = items_length body.roots in omega arith

piece_within : (piece : Piece) → IsValidBody piece.body.roots (length piece.proxies) → HaveRoots piece.proxies → IsPiece piece
piece_within piece h ranged =
    let roots : gapped_width piece.body.roots ≤ 256 = h.few in
    let slots : gapped_size piece.body.roots ≤ 256 = h.small in
    record {
      body = record { trees = h.trees; some = h.some; few = omega arith; small = omega arith; apart = h.apart; far = h.far; counted = h.counted; few_proxies = h.few_proxies };
      ranged = ranged;
    }

-- a piece that may be stored is one that may be in memory
pub inline_is_piece : (piece : Piece) → IsValidInline piece.body.roots piece.proxies → IsPiece piece
inline_is_piece piece h = piece_within piece h.body h.ranged

-- and so is one whose proxies were read from a chain
pub chained_is_piece : (piece : Piece) → IsValidChained piece.body.roots (length piece.proxies) → HaveRoots piece.proxies → IsPiece piece
chained_is_piece piece h ranged = piece_within piece h.body ranged

-- the nodes of a piece have short names and contents
short_length : (name : ℕ) (own : List ℕ) (far : Option Far) → name + length (content_with own far) ≤ 4088 → IsFarWith own far → length_with (length own) far ≤ longest_node
short_length name own None h k = omega arith
short_length name own (Some far) h k = k.2

pub is_short : (n : PieceNode) → item_slots n ≤ 512 → MayBeFar n → IsShortNode n
is_short n h k = (omega arith, short_length (length n.node.name) n.node.content n.far (omega arith) k)

pub are_short : (f : Gapped) → gapped_size f ≤ 512 → AreFar f → HaveShortNodes f
are_short End h k = tt
are_short (Grow n b s) h k = (is_short n (omega arith) k.0, are_short b (omega arith) k.1, are_short s (omega arith) k.2)
are_short (Gap c s) h k = are_short s h k

-- nor do they weigh much together
pub little_weight : (f : Gapped) → gapped_size f ≤ 512 → AreFar f → gapped_weight f ≤ 4294967295
little_weight f h k = omega (arith, weight_within f k)

slots_apart : (f : Gapped) → AreApart f → (slots_in f ≤ 3 * gapped_size f + 1) × (BeginsNoGap f → slots_in f ≤ 3 * gapped_size f)
slots_apart End h = (omega arith, λ _. omega arith)
slots_apart (Grow n b s) h =
    let p = slots_apart b h.0 in let q = slots_apart s h.1 in
    let x : slots_in b ≤ 3 * gapped_size b + 1 = p.0 in let y : slots_in s ≤ 3 * gapped_size s + 1 = q.0 in
    (omega arith, λ _. omega arith)
slots_apart (Gap c s) h =
    let q = slots_apart s h.2 in
    let y : slots_in s ≤ 3 * gapped_size s = q.1 h.1 in
    (omega arith, λ bad. absurd bad)

begins_no_gap : (f : Gapped) → AreTrees f → BeginsNoGap f
begins_no_gap End h = tt
begins_no_gap (Grow n b s) h = tt
begins_no_gap (Gap c s) h = absurd h

-- without its proxies a piece fits in a record
pub body_fits : (f : Gapped) (count : ℕ) → IsValidBody f count → 16 + 8 * slots_in f ≤ 6160
body_fits f count h =
    let small : gapped_size f ≤ 256 = h.small in
    let few : slots_in f ≤ 3 * gapped_size f = (slots_apart f h.apart).1 (begins_no_gap f h.trees) in
    omega (arith, small, few)
