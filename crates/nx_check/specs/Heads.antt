-- Trees beside each other by the kinds and the names of their nodes, and which of them may stand below a node.
use Rattle.std.specs.Prelude.{◌≡◌, ◌+◌, ◌≤◌, ◌||◌, ℕ, Bool, false, IsTrue, not, if◌then◌else◌, List, [], ◌∷◌}
use Rattle.std.specs.Bool.{MatchBool}
use Rattle.nx_tree.specs.declared.node.Kind.{Kind}
use Rattle.nx_tree.specs.declared.node.Kind.TheVariants.{Doc, Element}
use Rattle.nx_tree.specs.Forest.{Forest, Empty, Plant}
use Rattle.nx_tree.specs.Document.{is_element, is_attribute, is_instruction, AreDistinct}
use Rattle.nx_piece.specs.Gapped.{Gapped, End, Grow, Gap}

-- a node by its kind and its name
pub record Head : Type 0 where
  pub kind : Kind
  pub name : List ℕ

-- those of trees beside each other
abbrev pub heads : Forest → List Head
heads Empty = []
heads (Plant node below beside) = record { kind = node.kind; name = node.name } ∷ heads beside

-- those of the trees among items
abbrev pub item_heads : Gapped → List Head
item_heads End = []
item_heads (Grow item below beside) = record { kind = item.node.kind; name = item.node.name } ∷ item_heads beside
item_heads (Gap count beside) = item_heads beside

-- the names of the attributes
abbrev pub names_among : List Head → List (List ℕ)
names_among [] = []
names_among (h ∷ hs) = if is_attribute h.kind then h.name ∷ names_among hs else names_among hs

abbrev pub has_attribute : List Head → Bool
has_attribute [] = false
has_attribute (h ∷ hs) = is_attribute h.kind || has_attribute hs

-- some of them are no attributes
abbrev pub has_other : List Head → Bool
has_other [] = false
has_other (h ∷ hs) = not (is_attribute h.kind) || has_other hs

-- no attribute stands behind one that is none
abbrev pub HaveAttributesFirst : List Head → Type 0
HaveAttributesFirst [] = Unit {0}
HaveAttributesFirst (h ∷ hs) = MatchBool (is_attribute h.kind) (HaveAttributesFirst hs) (has_attribute hs ≡ false)

-- elements and instructions alone
abbrev pub AreTopHeads : List Head → Type 0
AreTopHeads [] = Unit {0}
AreTopHeads (h ∷ hs) = IsTrue (is_element h.kind || is_instruction h.kind) × AreTopHeads hs

abbrev pub one_if : Bool → ℕ
one_if b = if b then 1 else 0

abbrev pub elements_among : List Head → ℕ
elements_among [] = 0
elements_among (h ∷ hs) = one_if (is_element h.kind) + elements_among hs

-- what may stand below a node of this kind, the root of a document aside
abbrev pub MayHaveHeads : Kind → List Head → Type 0
MayHaveHeads Element hs = HaveAttributesFirst hs × AreDistinct (names_among hs)
MayHaveHeads _ hs = hs ≡ []

-- ... and below that root, where an element may be missing
abbrev pub MayBeRow : Kind → List Head → Type 0
MayBeRow Doc hs = AreTopHeads hs × (elements_among hs ≤ 1)
MayBeRow kind hs = MayHaveHeads kind hs
