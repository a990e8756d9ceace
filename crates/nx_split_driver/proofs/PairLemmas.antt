-- Two roots beside each other that records may hold.
use Rattle.std.proofs.Common.{◌≡◌, ◌≤◌, List, [], ◌∷◌, ◌++◌, length, sym, ap, subst, arith}
use Rattle.nx_piece.specs.declared.piece.Piece.{Piece}
use Rattle.nx_piece.specs.declared.piece.Proxy.{Proxy}
use Rattle.nx_piece.specs.Gapped.{Gapped, GappedTree, End, Grow, Gap, gapped_size, gapped_weight, grown_of, proxies_in}
use Rattle.nx_piece.specs.Valid.{AreApart, AreFar, IsPiece, IsValidInline}
use Rattle.nx_piece.proofs.SizeLemmas.{item_bound, weight_within}
use Rattle.nx_split.specs.Piece.{AreGappedAtMost}
use Rattle.nx_split_driver.specs.Half.{IsHalf}

-- no node weighs more than the items of all take
light_all : (f : Gapped) → gapped_size f ≤ 256 → AreFar f → AreGappedAtMost 256 f
light_all End h k = tt
light_all (Grow n b s) h k = (omega (arith, item_bound n k.0), light_all b (omega arith) k.1, light_all s (omega arith) k.2)
light_all (Gap c s) h k = light_all s h k

-- the piece of both
abbrev pub pair : GappedTree → GappedTree → Gapped
pair a b = Grow a.node a.below (Grow b.node b.below End)

pub pair_is_piece : (a b : GappedTree) (piece : Piece) → IsHalf a → IsHalf b → piece.body.roots ≡ pair a b → piece.proxies ≡ [] → IsPiece piece
pair_is_piece a b piece h k is none =
    let x = h.small in
    let y = k.small in
    let p = h.own in
    let q = k.own in
    subst IsPiece (λ i. record { body = record { roots = sym is i }; proxies = sym none i }) (record {
      body = record { trees = tt; some = omega arith; few = omega arith; small = omega arith; apart = (h.apart, (k.apart, tt)); far = (h.own_far, h.far, (k.own_far, k.far, tt)); counted = omega arith; few_proxies = omega arith };
      ranged = tt;
    })

pub pair_is_light : (a b : GappedTree) (roots : Gapped) → IsHalf a → IsHalf b → roots ≡ pair a b → AreGappedAtMost 256 roots
pair_is_light a b roots h k is =
    let x = h.small in
    let y = k.small in
    let first = item_bound a.node h.own_far in
    let second = item_bound b.node k.own_far in
    subst (AreGappedAtMost 256) (sym is) (omega arith, light_all a.below (omega arith) h.far, (omega arith, light_all b.below (omega arith) k.far, tt))

pub root_is_half : (roots : Gapped) (proxies : List Proxy) (t : GappedTree) → IsValidInline roots proxies → length proxies ≡ 0 → roots ≡ Grow t.node t.below End → IsHalf t
root_is_half roots proxies t valid none all =
    let body = valid.body in
    let small = body.small in
    let counted = body.counted in
    let w = ap gapped_size all in
    let p = ap proxies_in all in
    record { small = omega arith; apart = (subst AreApart all body.apart).0; own_far = (subst AreFar all body.far).0; far = (subst AreFar all body.far).1; own = omega arith }

pub only_tree : (trees front : List GappedTree) (t : GappedTree) → length trees ≡ 1 → trees ≡ front ++ t ∷ [] → grown_of trees ≡ Grow t.node t.below End
only_tree trees (x ∷ y ∷ front) t one last = absurd (let n = ap length last in omega arith)
only_tree trees (x ∷ []) t one last = absurd (let n = ap length last in omega arith)
only_tree trees [] t one last = ap grown_of last
