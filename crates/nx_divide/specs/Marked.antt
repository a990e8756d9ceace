-- A draft of a row of a piece, as marks tell it.
use Rattle.std.specs.Prelude.{◌≡◌, ℕ, ◌+◌, ◌≤◌, List, [], ◌∷◌, ◌++◌, Option, None, Some}
use Rattle.nx_piece.specs.declared.piece.Proxy.{Proxy}
use Rattle.nx_piece.specs.PieceNode.{MayBeFar, IsNearWith}
use Rattle.nx_piece.specs.Gapped.{Gapped, End, Grow, Gap}
use Rattle.nx_cuts.specs.Cut.{width, part_weight, AreFree, AreParts}
use Rattle.nx_layouts.specs.Layout.{piece_body, proxies_of}
use Rattle.nx_drafts.specs.Draft.{Draft, Ends, Grows, Stands, Comes, drawn_forest, layout_before}

-- the first of these trees, where there is one, is held otherwise than by this interval
abbrev pub BeginsApart : ℕ → (List ℕ → Option ℕ) → ℕ → Draft (Unit {0}) → Type 0
BeginsApart index holder position Ends = Unit {0}
BeginsApart index holder position (Grows node below beside) = holder (position ∷ []) ≡ Some index → ⊥
BeginsApart index holder position (Stands place members beside) = holder (position ∷ []) ≡ Some index → ⊥
BeginsApart index holder position (Comes mark members beside) = holder (position ∷ []) ≡ Some index → ⊥

-- What holds these trees from a position on, and those below them, where `holder` tells it by paths: the members of each interval that comes are held by one, which doesn't hold
-- the tree behind them, the first member of one that stands is held by none, and the trees of no interval are held as `own` says.
abbrev pub IsHeldAs : Option ℕ → (List ℕ → Option ℕ) → ℕ → Draft (Unit {0}) → Type 0
IsHeldAs own holder position Ends = Unit {0}
IsHeldAs own holder position (Grows node below beside) = (holder (position ∷ []) ≡ own) × IsHeldAs None (λ path. holder (position ∷ path)) 0 below × IsHeldAs own holder (position + 1) beside
IsHeldAs own holder position (Stands place members beside) = (holder (position ∷ []) ≡ None) × IsHeldAs own holder (position + width members) beside
IsHeldAs own holder position (Comes mark members beside) =
    (index : ℕ) × BeginsApart index holder (position + width (drawn_forest members)) beside × IsHeldAs (Some index) holder position members × IsHeldAs own holder (position + width (drawn_forest members)) beside

-- each content stands far exactly where it is too long for an item
abbrev pub AreWritten : Gapped → Type 0
AreWritten End = Unit {0}
AreWritten (Grow node below beside) = (IsNearWith node.node.content node.far × MayBeFar node) × AreWritten below × AreWritten beside
AreWritten (Gap count beside) = AreWritten beside

-- The draft is one of these items, the first of these proxies are those of what stands in it, the holders are as it has them, and no part weighs more than 256. Their contents stand where they do when they are written.
pub record IsMarkedDraft (own : Option ℕ) (holder : List ℕ → Option ℕ) (position : ℕ) (items : Gapped) (olds : List Proxy) (drawn : Draft (Unit {0})) : Type 0 where
  pub items_are : piece_body (layout_before drawn) ≡ items
  pub written : AreWritten items
  pub behind : List Proxy
  pub olds_are : olds ≡ proxies_of (layout_before drawn) ++ behind
  pub light : AreParts 256 (drawn_forest drawn)
  pub agrees : IsHeldAs own holder position drawn

-- The members of one interval that comes, with the intervals below them.
pub record AreMarkedMembers (holder : List ℕ → Option ℕ) (position : ℕ) (items : Gapped) (olds : List Proxy) (members : Draft (Unit {0})) : Type 0 where
  pub index : ℕ
  pub marked : IsMarkedDraft (Some index) holder position items olds members
  pub some : 1 ≤ width (drawn_forest members)
  pub free : AreFree (drawn_forest members)
  pub weighs : part_weight (drawn_forest members) ≤ 256

-- each of these trees is a member of an interval that comes
abbrev pub ComeAll : {P : Type 0} → Draft P → Type 0
ComeAll Ends = Unit {0}
ComeAll (Grows node below beside) = ⊥
ComeAll (Stands place members beside) = ⊥
ComeAll (Comes mark members beside) = ComeAll beside

-- The draft is one of a row whose trees are all members of intervals that come.
pub record IsMarkedRow (holder : List ℕ → Option ℕ) (items : Gapped) (olds : List Proxy) (drawn : Draft (Unit {0})) : Type 0 where
  pub marked : IsMarkedDraft None holder 0 items olds drawn
  pub come : ComeAll drawn

-- ... of one with a root that is raised, or of one without: then all trees are members of intervals that come
abbrev pub IsMarkedDivision : (raised : Option ℕ) → (List ℕ → Option ℕ) → Gapped → List Proxy → Draft (Unit {0}) → Type 0
IsMarkedDivision None holder items olds drawn = IsMarkedRow holder items olds drawn
IsMarkedDivision (Some root) holder items olds drawn = IsMarkedDraft None holder 0 items olds drawn

-- the items can be drawn so
abbrev pub HasMarkedDraft : (List ℕ → Option ℕ) → ℕ → Gapped → List Proxy → Type 0
HasMarkedDraft holder position items olds = (drawn : Draft (Unit {0})) × IsMarkedDraft None holder position items olds drawn

-- ... as the members of one interval
abbrev pub HasMarkedMembers : (List ℕ → Option ℕ) → ℕ → Gapped → List Proxy → Type 0
HasMarkedMembers holder position items olds = (members : Draft (Unit {0})) × AreMarkedMembers holder position items olds members

-- ... as such a row
abbrev pub HasMarkedRow : (List ℕ → Option ℕ) → Gapped → List Proxy → Type 0
HasMarkedRow holder items olds = (drawn : Draft (Unit {0})) × IsMarkedRow holder items olds drawn

-- ... as one of which a root may be raised
abbrev pub HasMarkedDivision : (raised : Option ℕ) → (List ℕ → Option ℕ) → Gapped → List Proxy → Type 0
HasMarkedDivision raised holder items olds = (drawn : Draft (Unit {0})) × IsMarkedDivision raised holder items olds drawn

-- how many nodes and proxies these items have
abbrev pub many : Gapped → ℕ
many End = 0
many (Grow node below beside) = 1 + many below + many beside
many (Gap count beside) = count + many beside
