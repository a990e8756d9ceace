-- What is known of the trees below a node, as far as a walk has come.
use Rattle.std.specs.Prelude.{◌≡◌, ◌++◌, ◌||◌, ℕ, Bool, List, map}
use Rattle.std.specs.Global.{Vec}
use Rattle.nx_tree.specs.declared.node.Kind.TheVariants.{Doc, Element}
use Rattle.nx_pyx.specs.Fault.{is_among}
use Rattle.nx_piece.specs.Viewing.{seen_items}
use Rattle.nx_check.specs.declared.siblings.Siblings.{Siblings}
use Rattle.nx_check.specs.Heads.{Head, item_heads, names_among, has_attribute, has_other, one_if, elements_among}

-- the names of the attributes that other records have
abbrev pub far_names : Siblings → List (List ℕ)
far_names s = map (λ (name : Vec ℕ). name.items) s.names.keys

-- These trees stand before a place below the node, and those of its own record behind it.
pub record AreAround (s : Siblings) (before behind : List Head) : Type 0 where
  pub begun : s.begun ≡ has_other before
  pub names : (q : List ℕ) → is_among q (names_among before ++ names_among behind) ≡ (is_among q (names_among (item_heads (seen_items s.items))) || is_among q (far_names s))

-- ... and there trees of other records stand
pub record AreAroundGap (s : Siblings) (before behind : List Head) : Type 0 where
  pub around : AreAround s before behind
  pub attribute : s.behind ≡ has_attribute behind

-- What is asked of trees that join them is known: below an element their attributes, and right below the root of a document whether an element stands there.
pub record StandAround (s : Siblings) (element : Bool) (before behind : List Head) : Type 0 where
  pub attributes : s.kind ≡ Element → AreAroundGap s before behind
  pub top : s.kind ≡ Doc → one_if element ≡ elements_among (before ++ behind)
