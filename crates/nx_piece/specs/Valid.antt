-- Which pieces may be stored, and in which of the two forms.
use Rattle.std.specs.Prelude.{◌≡◌, ℕ, ◌+◌, ◌*◌, ◌<◌, ◌≤◌, nat_le, Bool, List, [], ◌∷◌, length}
use Rattle.nx_piece.specs.declared.piece.Piece.{Piece}
use Rattle.nx_piece.specs.declared.piece.Proxy.{Proxy}
use Rattle.nx_piece.specs.declared.piece.Stored.{Stored}
use Rattle.nx_piece.specs.declared.piece.Stored.TheVariants.{Inline, Chained}
use Rattle.nx_piece.specs.PieceNode.{item_slots, IsNearWith, MayBeFar, HasFarPage}
use Rattle.nx_piece.specs.Gapped.{Gapped, GappedTree, End, Grow, Gap, gapped_width, gapped_size, proxies_in, slots_in}

-- no gap is the first
abbrev pub BeginsNoGap : Gapped → Type 0
BeginsNoGap End = Unit {0}
BeginsNoGap (Grow node below beside) = Unit {0}
BeginsNoGap (Gap count beside) = ⊥

-- each gap stands for at least one proxy, and no two gaps are neighbours
abbrev pub AreApart : Gapped → Type 0
AreApart End = Unit {0}
AreApart (Grow node below beside) = AreApart below × AreApart beside
AreApart (Gap count beside) = (1 ≤ count) × BeginsNoGap beside × AreApart beside

-- the roots are trees
abbrev pub AreTrees : Gapped → Type 0
AreTrees End = Unit {0}
AreTrees (Grow node below beside) = AreTrees beside
AreTrees (Gap count beside) = ⊥

-- each far node is as one may be
abbrev pub AreFar : Gapped → Type 0
AreFar End = Unit {0}
AreFar (Grow node below beside) = MayBeFar node × AreFar below × AreFar beside
AreFar (Gap count beside) = AreFar beside

-- no near content is longer than one that is written near
abbrev pub AreNear : Gapped → Type 0
AreNear End = Unit {0}
AreNear (Grow node below beside) = IsNearWith node.node.content node.far × AreNear below × AreNear beside
AreNear (Gap count beside) = AreNear beside

-- the nodes of a piece with so many proxies, which has at most so many roots and whose nodes' items take at most so many slots
pub record IsBodyWithin (most_roots most_slots : ℕ) (roots : Gapped) (proxies : ℕ) : Type 0 where
  pub trees : AreTrees roots
  pub some : 1 ≤ gapped_width roots
  pub few : gapped_width roots ≤ most_roots
  pub small : gapped_size roots ≤ most_slots
  pub apart : AreApart roots
  pub far : AreFar roots
  pub counted : proxies_in roots ≡ proxies
  pub few_proxies : proxies ≤ 524288

-- the nodes of a piece that may be stored, with so many proxies
abbrev pub IsValidBody : Gapped → ℕ → Type 0
IsValidBody roots proxies = IsBodyWithin 256 256 roots proxies

-- each proxy has 1 to 256 roots
abbrev pub HaveRoots : List Proxy → Type 0
HaveRoots [] = Unit {0}
HaveRoots (proxy ∷ proxies) = (1 ≤ proxy.roots) × (proxy.roots ≤ 256) × HaveRoots proxies

-- how many bytes the inline form takes
abbrev pub inline_length : Gapped → ℕ → ℕ
inline_length roots proxies = 16 + 8 * slots_in roots + 8 * proxies

-- the most bytes of an inline form
abbrev pub longest_inline : ℕ
longest_inline = 8176

pub record IsValidInline (roots : Gapped) (proxies : List Proxy) : Type 0 where
  pub body : IsValidBody roots (length proxies)
  pub ranged : HaveRoots proxies
  pub fits : inline_length roots (length proxies) ≤ longest_inline

pub record IsValidChained (roots : Gapped) (proxies : ℕ) : Type 0 where
  pub body : IsValidBody roots proxies
  pub long : longest_inline < inline_length roots proxies

-- the piece is valid and has the form that its size asks for; of proxies that stand elsewhere only the number is looked at
abbrev pub IsValid : Stored → Type 0
IsValid (Inline piece) = IsValidInline piece.body.roots piece.proxies
IsValid (Chained body count chain) = IsValidChained body.roots count

-- the piece may be stored, in one form or the other
pub record IsValidPiece (piece : Piece) : Type 0 where
  pub body : IsValidBody piece.body.roots (length piece.proxies)
  pub ranged : HaveRoots piece.proxies

-- its proxies stand in its record
abbrev pub is_inline : Piece → Bool
is_inline piece = nat_le (inline_length piece.body.roots (length piece.proxies)) longest_inline

-- the pages and slots of the proxies fit their fields
abbrev pub HaveNumbers : List Proxy → Type 0
HaveNumbers [] = Unit {0}
HaveNumbers (proxy ∷ proxies) = (proxy.page < 4294967296) × (proxy.slot < 65536) × HaveNumbers proxies

-- the pages of far contents fit their fields
abbrev pub HavePages : Gapped → Type 0
HavePages End = Unit {0}
HavePages (Grow node below beside) = HasFarPage node.far × HavePages below × HavePages beside
HavePages (Gap count beside) = HavePages beside

-- the numbers fit their fields, as those of a program's values do
abbrev pub HasNumbers : Stored → Type 0
HasNumbers (Inline piece) = HaveNumbers piece.proxies × HavePages piece.body.roots
HasNumbers (Chained body count chain) = (chain < 4294967296) × HavePages body.roots

-- trees and gaps of a piece
pub record IsSmall (f : Gapped) : Type 0 where
  pub small : gapped_size f ≤ 256
  pub apart : AreApart f

-- a tree of a piece
pub record IsSmallTree (tree : GappedTree) : Type 0 where
  pub small : item_slots tree.node + gapped_size tree.below ≤ 256
  pub apart : AreApart tree.below

-- a piece as it may be in memory: one that is about to be split may have one root more, and its items may take twice as many slots
pub record IsPiece (piece : Piece) : Type 0 where
  pub body : IsBodyWithin 257 512 piece.body.roots (length piece.proxies)
  pub ranged : HaveRoots piece.proxies
