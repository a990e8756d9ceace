-- The way that a path takes in the bytes of a record.
use Rattle.std.proofs.Common.{◌≡◌, ℕ, ◌+◌, ◌-◌, ◌*◌, ◌≤◌, List, [], ◌∷◌, ◌++◌, length, drop, None, Some, inl, inr, refl, sym, ap, ◌∙◌, arith, append_assoc, append-nil}
use Rattle.std.specs.List.{slice_get}
use Rattle.std.proofs.lemmas.List.{length-append}
use Rattle.std.proofs.Math.Seq.{drop-append_seam}
use Rattle.nx_piece.specs.declared.piece.Piece.{Piece}
use Rattle.nx_piece.specs.declared.reading.Head.{Head}
use Rattle.nx_piece.specs.Gapped.{Gapped, GappedTree, item_count, gapped_width, proxies_in}
use Rattle.nx_piece.specs.Encoding.{items_bytes, proxies_bytes, head_bytes, body_bytes}
use Rattle.nx_piece.specs.Locate.{PieceChild, Own, Missing, reached_in, children_of}
use Rattle.nx_piece.specs.Reading.{IsHeadRead, BeginsNoHead}
use Rattle.nx_piece.specs.Valid.{AreTrees, HaveRoots, HaveNumbers, HavePages, IsValidBody, IsPiece}
use Rattle.nx_piece.proofs.BodyLemmas.{head_unique, valid_storable, proxies_length}
use Rattle.nx_piece.proofs.Laws.{inline_is_piece, chained_is_piece}
use Rattle.nx_piece.proofs.LocateLemmas.{get_behind, IsOnWay, trees_own, way_begins, way_goes_on, no_root}
use Rattle.nx_piece.proofs.WalkLemmas.{all_most}
use Rattle.nx_seek.specs.Items.{ItemsStandIn}
use Rattle.nx_seek.specs.Children.{AreProxies, IsSpotOf, IsChildFound}
use Rattle.nx_seek.specs.Written.{IsWrittenAs}
use Rattle.nx_seek.specs.declared.children.Child.{Child}
use Rattle.nx_seek.specs.declared.children.Child.TheVariants as child
use Rattle.nx_seek.specs.declared.children.Spot.{Spot}
use Rattle.nx_seek.proofs.ItemLemmas.{readable}

-- the nodes of a written piece, in either form
pub record IsWrittenBody (piece : Piece) (bytes : List ℕ) : Type 0 where
  pub form : ℕ
  pub chain : ℕ
  pub behind : List ℕ
  pub same : bytes ≡ body_bytes form piece.body.roots (length piece.proxies) chain ++ behind
  pub valid : IsValidBody piece.body.roots (length piece.proxies)
  pub pages : HavePages piece.body.roots
  pub ranged : HaveRoots piece.proxies
  pub numbers : HaveNumbers piece.proxies
  pub is : IsPiece piece

pub written_body : (piece : Piece) (bytes list : List ℕ) → IsWrittenAs piece bytes list → IsWrittenBody piece bytes
written_body piece bytes list (inl h) = record {
  form = 1;
  chain = 0;
  behind = proxies_bytes piece.proxies;
  same = h.same;
  valid = h.valid.body;
  pages = h.numbers.1;
  ranged = h.valid.ranged;
  numbers = h.numbers.0;
  is = inline_is_piece piece h.valid;
}
written_body piece bytes list (inr h) = record {
  form = 2;
  chain = h.chain;
  behind = [];
  same = (h.nodes).same ∙ sym (append-nil _);
  valid = (h.nodes).valid.body;
  pages = (h.nodes).numbers.1;
  ranged = h.ranged;
  numbers = h.numbers;
  is = chained_is_piece piece (h.nodes).valid h.ranged;
}

-- a written piece begins with a head
pub no_head : (piece : Piece) (bytes list : List ℕ) → IsWrittenAs piece bytes list → BeginsNoHead bytes → ⊥
no_head piece bytes list written none =
    let b = written_body piece bytes list written in
    none b.form (gapped_width piece.body.roots) (item_count piece.body.roots) (length piece.proxies) b.chain (items_bytes piece.body.roots ++ b.behind)
    (b.same ∙ append_assoc (head_bytes b.form (gapped_width piece.body.roots) (item_count piece.body.roots) (length piece.proxies) b.chain) (items_bytes piece.body.roots) b.behind)

-- behind the head stand the roots
pub record RootsStand (piece : Piece) (roots : ℕ) (behind : List ℕ) : Type 0 where
  pub tail : List ℕ
  pub stands : ItemsStandIn behind piece.body.roots tail
  pub wide : gapped_width piece.body.roots ≡ roots
  pub fits : 0 + proxies_in piece.body.roots ≤ length piece.proxies

pub roots_stand : (piece : Piece) (bytes list : List ℕ) (head : Head) (behind : List ℕ) → IsWrittenAs piece bytes list → IsHeadRead bytes head behind → RootsStand piece head.roots behind
roots_stand piece bytes list head behind written read =
    let b = written_body piece bytes list written in
    let is = head_unique {form = head.form} {chain = head.chain} read b.form piece.body.roots (length piece.proxies) b.chain b.behind b.valid b.same in
    let f : Gapped = piece.body.roots in
    let small = b.valid.small in let counted = b.valid.counted in let few = b.valid.few_proxies in
    record {
      tail = b.behind;
      stands = record {
        same = is.same;
        readable = readable f (valid_storable f (length piece.proxies) b.valid b.pages);
        few = (all_most f (record { small = small; apart = b.valid.apart })).0;
        small = small;
        few_proxies = omega arith;
      };
      wide = sym is.wide;
      fits = omega arith;
    }

-- and the bytes of the proxies stand behind them, or are the list
pub last_bytes : (front back : List ℕ) (n : ℕ) → length back ≡ n → drop (length (front ++ back) - n) (front ++ back) ≡ back
last_bytes front back n is =
    let long = length-append front back in
    let place : length (front ++ back) - n ≡ length front = omega arith in
    ap (λ (k : ℕ). drop k (front ++ back)) place ∙ drop-append_seam front back

pub record ProxiesStand (piece : Piece) (form proxies : ℕ) (behind list : List ℕ) : Type 0 where
  pub inner : form ≡ 1 → (8 * proxies ≤ length behind) × AreProxies (drop (length behind - 8 * proxies) behind) piece.proxies
  pub outer : (form ≡ 1 → ⊥) → AreProxies list piece.proxies

pub proxies_stand : (piece : Piece) (bytes list : List ℕ) (head : Head) (behind : List ℕ) → IsWrittenAs piece bytes list → IsHeadRead bytes head behind → ProxiesStand piece head.form head.proxies behind list
proxies_stand piece bytes list head behind (inl h) read =
    let f : Gapped = piece.body.roots in
    let is = head_unique {form = head.form} {chain = head.chain} read 1 f (length piece.proxies) 0 (proxies_bytes piece.proxies) h.valid.body h.same in
    let same = ap (λ (l : List ℕ). get_first l) (sym read.0 ∙ h.same) in
    let long = proxies_length piece.proxies in
    let count : 8 * head.proxies ≡ 8 * length piece.proxies = let a = is.all in omega arith in
    let all = ap length is.same ∙ length-append (items_bytes f) (proxies_bytes piece.proxies) in
    record {
      inner = λ one. (
        omega arith,
        record {
          same = ap (λ (k : ℕ). drop (length behind - k) behind) (count ∙ sym long) ∙ ap (λ (l : List ℕ). drop (length l - length (proxies_bytes piece.proxies)) l) is.same
              ∙ last_bytes (items_bytes f) (proxies_bytes piece.proxies) (length (proxies_bytes piece.proxies)) refl;
          ranged = h.valid.ranged;
          numbers = h.numbers.0;
          few = h.valid.body.few_proxies;
        },
      );
      outer = λ other. absurd (other same);
    }
  where
    get_first : List ℕ → ℕ
    get_first [] = 0
    get_first (x ∷ xs) = x
proxies_stand piece bytes list head behind (inr h) read = record {
  inner = λ one. absurd (let same : head.form ≡ 2 = ap (λ (l : List ℕ). get_first l) (sym read.0 ∙ (h.nodes).same) in omega arith);
  outer = λ other. record { same = h.same; ranged = h.ranged; numbers = h.numbers; few = (h.nodes).valid.body.few_proxies };
}
  where
    get_first : List ℕ → ℕ
    get_first [] = 0
    get_first (x ∷ xs) = x

-- the path has come to this spot
pub record IsAtSpot (piece : Piece) (member : ℕ) (path : List ℕ) (used : ℕ) (spot : Spot) (proxies : List ℕ) : Type 0 where
  pub tree : GappedTree
  pub is : IsSpotOf spot tree
  pub way : IsOnWay piece member path used tree spot.first
  pub are : AreProxies proxies piece.proxies

pub spot_fits : {piece : Piece} {member used : ℕ} {path proxies : List ℕ} {spot : Spot} (h : IsAtSpot piece member path used spot proxies) → spot.first + proxies_in h.tree.below ≤ length piece.proxies
spot_fits h = (h.way).part.fits

pub spot_begins : (piece : Piece) (member : ℕ) (path proxies : List ℕ) (spot : Spot) → IsPiece piece → AreProxies proxies piece.proxies
    → (tree : GappedTree) × (slice_get (children_of piece.proxies 0 piece.body.roots) member ≡ Some (Own tree spot.first)) × IsSpotOf spot tree → IsAtSpot piece member path 0 spot proxies
spot_begins piece member path proxies spot valid are found = record {
  tree = found.0;
  is = found.2;
  way = way_begins piece member path found.0 spot.first valid found.1;
  are = are;
}

pub spot_goes_on : {piece : Piece} {member used : ℕ} {path proxies : List ℕ} {spot : Spot} (position : ℕ) (next : Spot) (h : IsAtSpot piece member path used spot proxies) → drop used path ≡ position ∷ drop (used + 1) path
    → (tree : GappedTree) × (slice_get (children_of piece.proxies spot.first h.tree.below) position ≡ Some (Own tree next.first)) × IsSpotOf next tree → IsAtSpot piece member path (used + 1) next proxies
spot_goes_on position next h at found = record {
  tree = found.0;
  is = found.2;
  way = way_goes_on position found.0 next.first h.way at found.1;
  are = h.are;
}

-- a position behind all children leads nowhere
pub beyond : (cs : List PieceChild) (position left : ℕ) → position ≡ length cs + left → slice_get cs position ≡ None
beyond cs position left is = ap (λ (l : List PieceChild). slice_get l position) (sym (append-nil cs)) ∙ ap (slice_get (cs ++ [])) is ∙ get_behind cs [] left

-- a piece's roots are trees
pub no_root_there : (piece : Piece) (member : ℕ) (path : List ℕ) (root : Child) → AreTrees piece.body.roots → IsChildFound piece.proxies 0 piece.body.roots member root → ((spot : Spot) → root ≡ child.Tree spot → ⊥) → reached_in piece member path ≡ Missing
no_root_there piece member path (child.Tree spot) trees is none = absurd (none spot refl)
no_root_there piece member path (child.Root proxy index root) trees is none = absurd (trees_own piece.proxies 0 piece.body.roots member index root trees is.0)
no_root_there piece member path (child.Behind left) trees is none = no_root piece member path (beyond (children_of piece.proxies 0 piece.body.roots) member left is)
