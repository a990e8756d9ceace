-- Where a position falls among children.
use Rattle.std.proofs.Common.{◌≡◌, ℕ, zero, suc, ◌+◌, ◌<◌, ◌≤◌, List, [], ◌∷◌, None, Some, length, drop, sym, ap, ◌∙◌, subst, arith}
use Rattle.std.specs.List.{slice_get}
use Rattle.nx_piece.specs.declared.piece.Piece.{Piece}
use Rattle.nx_piece.specs.Gapped.{GappedTree, proxies_in}
use Rattle.nx_piece.specs.Valid.{IsPiece}
use Rattle.nx_piece.specs.Locate.{PieceChild, Own, Kept, Inside, children_of, reached_in}
use Rattle.nx_piece_edits.specs.declared.falling.Fall.{Fall}
use Rattle.nx_piece_edits.specs.declared.falling.Fall.TheVariants as fall
use Rattle.nx_piece_edits.specs.Planting.{passed_at, FallsAt, FallsApart}
use Rattle.nx_piece_edits.proofs.LeftLemmas.{tree_reached, first_reached}
use Rattle.nx_piece_edits.proofs.PassedLemmas.{before_few, before_is, index_at}
use Rattle.nx_piece_edits.proofs.SpotLemmas.{some_within}
use Rattle.nx_piece_edits.proofs.PlantLemmas.{led_part}

pub between_trees : (children : List PieceChild) (position : ℕ) (tree : GappedTree) (first : ℕ) → slice_get children position ≡ Some (Own tree first) → FallsApart children position
between_trees children position tree first e = record {
  within = let w = some_within children position (Own tree first) e in omega (arith, w);
  apart = λ index member h. let both = sym e ∙ h in absurd (cc);
}

pub between_proxies : (children : List PieceChild) (position index : ℕ) → slice_get children position ≡ Some (Kept index 0) → FallsApart children position
between_proxies children position index e = record {
  within = let w = some_within children position (Kept index 0) e in omega (arith, w);
  apart = λ other member h. member_same (sym e ∙ h);
}
  where
    member_of : PieceChild → ℕ
    member_of (Own tree first) = 0
    member_of (Kept index member) = member

    member_same : {index other member : ℕ} → Some (Kept index 0) ≡ Some (Kept other member) → member ≡ 0
    member_same {index} {other} {member} e = sym (ap member_of (inside e))
      where
        inside : {a b : PieceChild} → Some a ≡ Some b → a ≡ b
        inside e = cc

pub behind_all : (children : List PieceChild) (position : ℕ) → slice_get children position ≡ None → position ≡ length children → FallsApart children position
behind_all children position e end = record { within = omega (arith, end); apart = λ index member h. let both = sym e ∙ h in absurd (cc) }

none_beyond : {A : Type 0} (xs : List A) (n : ℕ) → slice_get xs n ≡ None → length xs ≤ n
none_beyond [] n e = omega arith
none_beyond (x ∷ xs) zero e = absurd (cc)
none_beyond (x ∷ xs) (suc n) e = let h = none_beyond xs n e in omega (arith, h)

pub beyond_all : (children : List PieceChild) (position : ℕ) → slice_get children position ≡ None → (position ≡ length children → ⊥) → length children < position
beyond_all children position e other = let h = none_beyond children position e in grind (arith, other, h)

-- a position that falls between children stands behind so many proxies
pub fall_between : (piece : Piece) (member : ℕ) (path : List ℕ) (position : ℕ) (tree : GappedTree) (first index : ℕ) → IsPiece piece → reached_in piece member path ≡ Inside tree first → FallsApart (children_of piece.proxies first tree.below) position
    → index ≡ index_at (first + proxies_in tree.below) (slice_get (children_of piece.proxies first tree.below) position) → FallsAt piece tree first position (fall.Between index)
fall_between piece member path position tree first index h leads between is =
    let part = led_part piece.proxies 0 0 member path piece.body.roots tree first leads in
    let within : first + proxies_in tree.below ≤ 0 + proxies_in piece.body.roots = part.0 in
    let all = h.body.counted in
    let count : index ≡ first + passed_at position tree.below (drop first piece.proxies) = is ∙ before_is piece.proxies first tree.below position (part.1 h.body.apart) h.ranged (omega (arith, within, all)) between.within in
    let few = before_few position tree.below (drop first piece.proxies) in
    (between, count, (omega (arith, count, few, within, all)))

-- where a path leads it leads to one tree
pub at_reached : (piece : Piece) (member : ℕ) (path : List ℕ) (position : ℕ) {own tree : GappedTree} {before first : ℕ} (answer : Fall) → reached_in piece member path ≡ Inside own before → reached_in piece member path ≡ Inside tree first
    → FallsAt piece own before position answer → FallsAt piece tree first position answer
at_reached piece member path position {own} {tree} {before} {first} answer here there h =
    let both : Inside own before ≡ Inside tree first = sym here ∙ there in
    subst (λ (t : GappedTree). FallsAt piece t first position answer) (ap (tree_reached own) both) (subst (λ (n : ℕ). FallsAt piece own n position answer) (ap first_reached both) h)
