-- Whether a node may come to a place of a document, by looks at its parent and the parent's children.
use Rattle.std.proofs.Common.{◌≡◌, ℕ, suc, zero, ◌+◌, ◌-◌, ◌<◌, ◌≤◌, Bool, true, false, List, [], ◌∷◌, ◌++◌, length, drop, take, Option, None, Some, refl, sym, ap, ◌∙◌, subst, arith}
use Rattle.std.specs.Prelude.{not, ◌||◌, ◌&&◌, if◌then◌else◌, slice_get, nat_lt, option_and_then}
use Rattle.std.specs.Option.{option_map, option_map_or}
use Rattle.std.specs.List.{list_any}
use Rattle.std.specs.Str.{bytes_eq}
use Rattle.std.proofs.lemmas.Bool.{false≢true}
use Rattle.nx_host.specs.declared.disk.Disk.{Ghosts}
use Rattle.nx_host.specs.Still.{IsStill}
use Rattle.nx_host.proofs.DiskLemmas.{none_still, still_then}
use Rattle.nx_tree.specs.declared.node.Node.{Node}
use Rattle.nx_tree.specs.declared.node.Kind.{Kind}
use Rattle.nx_tree.specs.declared.error.TreeError.TheVariants as why
use Rattle.nx_tree.specs.Forest.{OrderedTree, forest_of, trees_of}
use Rattle.nx_tree.specs.Document.{IsDocument, AttributesComeFirst, is_doc, is_attribute, is_instruction, attribute_names}
use Rattle.nx_tree.specs.Edit.{child, at, has_children, is_unordered, is_repeated, place_refusal}
use Rattle.nx_tree.proofs.ForestLemmas.{forest_of-trees_of}
use Rattle.nx_tree.proofs.PutLemmas.{top_ordered}
use Rattle.nx_tree.proofs.SoundLemmas.{IsTree, child_tree, has_ordered}
use Rattle.nx_tree.proofs.TestLemmas.{unordered_attribute, unordered_other, child-trees_of, IsAmongRest, among_first, among_none, among_this, among_more, among_last}
use Rattle.nx_records.specs.declared.records.Records.{Records}
use Rattle.nx_records.specs.Records.{has_ended, LeavesRecords}
use Rattle.nx_records.proofs.LeaveLemmas.{leaves_same, leaves_add_up, leaves_ends, leaves_stand}
use Rattle.nx_cuts.specs.Cut.{CutTree, tree_of}
use Rattle.nx_layouts.specs.Layout.{RecordPlace}
use Rattle.nx_hold.specs.Documents.{HasDocument}
use Rattle.nx_nav.specs.declared.error.NavError.{NavError}
use Rattle.nx_nav.specs.declared.error.NavError.TheVariants as nav
use Rattle.nx_nav.specs.declared.finding.Outlined.{Outlined}
use Rattle.nx_nav.specs.Refusals.{OfEach, HoldsNoDocument, IsRefused}
use Rattle.nx_nav.specs.Shows.{kind_below}
use Rattle.nx_edit.specs.declared.error.EditError.{EditError}
use Rattle.nx_edit.specs.declared.error.EditError.TheVariants as error
use Rattle.nx_edit.specs.Refusals.{refused_by}
use Rattle.nx_edit.specs.Inserting.{place_fault, IsChild, OfParent}
use Rattle.nx_edit.proofs.RemoveLemmas.{later_rose}

-- ---- the children of a node of a document

node_ordered : (path : List ℕ) (t x : OrderedTree) → IsTree t → at t path ≡ Some x → AttributesComeFirst x.below
node_ordered [] t x is e = let same : t ≡ x = cc in subst (λ (y : OrderedTree). AttributesComeFirst y.below) same (has_ordered t.node.kind t.below is.has)
node_ordered (p ∷ path) t x is e =
    (elim (child t.below p) as (λ o. child t.below p ≡ o → option_and_then (λ (y : OrderedTree). at y path) o ≡ Some x → AttributesComeFirst x.below) [
      | None ↦ λ here h. absurd (cc)
      | Some y ↦ λ here h. node_ordered path y x (child_tree t.below p y is.forest here) h
    ]) refl e

document_ordered : (path : List ℕ) (t x : OrderedTree) → IsDocument t → at t path ≡ Some x → AttributesComeFirst x.below
document_ordered [] t x is e = let same : t ≡ x = cc in subst (λ (y : OrderedTree). AttributesComeFirst y.below) same (top_ordered t.below is.top)
document_ordered (p ∷ path) t x is e =
    (elim (child t.below p) as (λ o. child t.below p ≡ o → option_and_then (λ (y : OrderedTree). at y path) o ≡ Some x → AttributesComeFirst x.below) [
      | None ↦ λ here h. absurd (cc)
      | Some y ↦ λ here h. node_ordered path y x (child_tree t.below p y is.forest here) h
    ]) refl e

-- attributes come first among the children, as a list
pub children_ordered : (path : List ℕ) (t x : OrderedTree) → IsDocument t → at t path ≡ Some x → AttributesComeFirst (forest_of (trees_of x.below))
children_ordered path t x is e = subst AttributesComeFirst (sym (forest_of-trees_of x.below)) (document_ordered path t x is e)

itself : (o : Option OrderedTree) → option_and_then (λ (t : OrderedTree). Some t) o ≡ o
itself None = refl
itself (Some t) = refl

-- a path that goes on by one position leads to a child
pub at_child : (path : List ℕ) (position : ℕ) (t x : OrderedTree) → at t path ≡ Some x → at t (path ++ position ∷ []) ≡ slice_get (trees_of x.below) position
at_child [] position t x e =
    let same : t ≡ x = cc in
    itself (child t.below position) ∙ child-trees_of t.below position ∙ ap (λ (y : OrderedTree). slice_get (trees_of y.below) position) same
at_child (p ∷ path) position t x e =
    (elim (child t.below p) as (λ o. option_and_then (λ (y : OrderedTree). at y path) o ≡ Some x → option_and_then (λ (y : OrderedTree). at y (path ++ position ∷ [])) o ≡ slice_get (trees_of x.below) position) [
      | None ↦ λ h. absurd (cc)
      | Some y ↦ λ h. at_child path position y x h
    ]) e

-- a position below the length has a child
within_not_none : (ts : List OrderedTree) (i : ℕ) → i < length ts → slice_get ts i ≡ None → ⊥
within_not_none [] i le e = omega (arith, le)
within_not_none (t ∷ ts) zero le e = cc
within_not_none (t ∷ ts) (suc i) le e = within_not_none ts i (omega (arith, le)) e

drop_next : (ts : List OrderedTree) (i : ℕ) (t : OrderedTree) → slice_get ts i ≡ Some t → drop i ts ≡ t ∷ drop (i + 1) ts
drop_next [] i t e = absurd (cc)
drop_next (x ∷ ts) zero t e = let same : x ≡ t = cc in ap (λ (y : OrderedTree). y ∷ ts) same
drop_next (x ∷ ts) (suc i) t e = let more : suc i + 1 ≡ suc (i + 1) = omega arith in subst (λ n. drop i ts ≡ t ∷ drop n (x ∷ ts)) (sym more) (drop_next ts i t e)

drop_end : (ts : List OrderedTree) (i : ℕ) → i ≡ length ts → drop i ts ≡ []
drop_end [] zero e = refl
drop_end [] (suc i) e = absurd (omega (arith, e))
drop_end (t ∷ ts) zero e = absurd (omega (arith, e))
drop_end (t ∷ ts) (suc i) e = drop_end ts i (omega (arith, e))

-- ---- what the order forbids

attribute_there : (o : Option OrderedTree) → option_map_or is_attribute (option_map (λ (x : OrderedTree). x.node.kind) o) false ≡ option_map_or (λ (x : OrderedTree). is_attribute x.node.kind) o false
attribute_there None = refl
attribute_there (Some x) = refl

-- one neighbour's kind tells of it: for an attribute that of the child before the position, else that of the one there
module _ (kind : Kind) (position asked : ℕ) (beside : Option Kind) (unordered : Bool) (before : is_attribute kind ≡ true → asked ≡ position - 1) (there : is_attribute kind ≡ false → asked ≡ position)
    (first : is_attribute kind ≡ true → position ≡ 0 → unordered ≡ false) (later : is_attribute kind ≡ true → 1 ≤ position → unordered ≡ not (option_map_or is_attribute beside false))
    (other : is_attribute kind ≡ false → unordered ≡ option_map_or is_attribute beside false) (tree : OrderedTree) (parent : List ℕ) (is_document : IsDocument tree) (told : beside ≡ kind_below tree parent asked) where
  beside_is : (t : OrderedTree) → at tree parent ≡ Some t → (i : ℕ) → asked ≡ i → option_map_or is_attribute beside false ≡ option_map_or (λ (x : OrderedTree). is_attribute x.node.kind) (slice_get (trees_of t.below) i) false
  beside_is t here i same =
      ap (λ (o : Option Kind). option_map_or is_attribute o false) told ∙ attribute_there (at tree (parent ++ asked ∷ []))
      ∙ ap (λ (o : Option OrderedTree). option_map_or (λ (x : OrderedTree). is_attribute x.node.kind) o false) (at_child parent asked tree t here ∙ ap (λ (n : ℕ). slice_get (trees_of t.below) n) same)

  of_attribute : (n : ℕ) → position ≡ n → is_attribute kind ≡ true → (children : ℕ) → position ≤ children → OfParent tree parent children (λ t. unordered ≡ is_unordered kind position (trees_of t.below))
  of_attribute zero none is children within t here counted =
      first is none
      ∙ subst (λ (n : ℕ). false ≡ is_unordered kind n (trees_of t.below)) (sym none)
      (ap (λ (b : Bool). if b then list_any (λ (x : OrderedTree). not (is_attribute x.node.kind)) (take 0 (trees_of t.below)) else list_any (λ (x : OrderedTree). is_attribute x.node.kind) (drop 0 (trees_of t.below))) (sym is))
  of_attribute (suc n) more is children within t here counted =
      later is (omega (arith, more)) ∙ ap not (beside_is t here (position - 1) (before is))
      ∙ unordered_attribute kind position (trees_of t.below) is (omega (arith, more)) (omega (arith, within, counted)) (children_ordered parent tree t is_document here)

  of_other : is_attribute kind ≡ false → (children : ℕ) → OfParent tree parent children (λ t. unordered ≡ is_unordered kind position (trees_of t.below))
  of_other is children t here counted = other is ∙ beside_is t here position (there is) ∙ unordered_other kind position (trees_of t.below) is (children_ordered parent tree t is_document here)

  by_kind : (b : Bool) → is_attribute kind ≡ b → (children : ℕ) → position ≤ children → OfParent tree parent children (λ t. unordered ≡ is_unordered kind position (trees_of t.below))
  by_kind true is children within = of_attribute position refl is children within
  by_kind false is children within = of_other is children

  pub order_told : (children : ℕ) → position ≤ children → OfParent tree parent children (λ t. unordered ≡ is_unordered kind position (trees_of t.below))
  order_told children within = by_kind (is_attribute kind) refl children within

-- a child that is missing where there are more children
pub missing_child : (tree : OrderedTree) (parent : List ℕ) (position children : ℕ) → position < children → at tree (parent ++ position ∷ []) ≡ None → OfParent tree parent children (λ t. ⊥)
missing_child tree parent position children less none t there counted =
    within_not_none (trees_of t.below) position (omega (arith, less, counted)) (sym (at_child parent position tree t there) ∙ none)

no_child : (tree : OrderedTree) (parent : List ℕ) (children : ℕ) (t : OrderedTree) → at tree parent ≡ Some t → children ≡ length (trees_of t.below) → at tree (parent ++ 0 ∷ []) ≡ None → 0 ≡ children
no_child tree parent children t there counted none = nothing (trees_of t.below) children counted (sym (at_child parent 0 tree t there) ∙ none)
  where
    nothing : (ts : List OrderedTree) (n : ℕ) → n ≡ length ts → slice_get ts 0 ≡ None → 0 ≡ n
    nothing [] n e none = sym e
    nothing (t ∷ ts) n e none = absurd (cc)

-- ---- whether an attribute's name is there

-- the children from a position on are left to be looked at
abbrev pub IsLookedAt : (name : List ℕ) (tree : OrderedTree) (parent : List ℕ) (children position : ℕ) → Type 0
IsLookedAt name tree parent children position = OfParent tree parent children (λ t. IsAmongRest name (trees_of t.below) position)

pub looked_at_first : (name : List ℕ) (tree : OrderedTree) (parent : List ℕ) (children : ℕ) → IsDocument tree → IsLookedAt name tree parent children 0
looked_at_first name tree parent children is t there counted = among_first name (trees_of t.below) (children_ordered parent tree t is there)

pub other_repeated : (node : Node) (tree : OrderedTree) (parent : List ℕ) (children : ℕ) → is_attribute node.kind ≡ false → OfParent tree parent children (λ t. false ≡ is_repeated node t)
other_repeated node tree parent children is t there counted = ap (λ (b : Bool). b && list_any (bytes_eq node.name) (attribute_names t.below)) (sym is)

module _ (node : Node) (tree : OrderedTree) (parent : List ℕ) (children : ℕ) (is : is_attribute node.kind ≡ true) where
  by_names : (t : OrderedTree) (b : Bool) → b ≡ list_any (bytes_eq node.name) (attribute_names (forest_of (trees_of t.below))) → b ≡ is_repeated node t
  by_names t b e =
      e ∙ ap (λ f. list_any (bytes_eq node.name) (attribute_names f)) (forest_of-trees_of t.below) ∙ ap (λ (c : Bool). c && list_any (bytes_eq node.name) (attribute_names t.below)) (sym is)

  module _ (position : ℕ) (other : Outlined) (left : IsLookedAt node.name tree parent children position) (below : IsChild tree parent position other) where
    here : (t : OrderedTree) → at tree parent ≡ Some t → drop position (trees_of t.below) ≡ below.0 ∷ drop (position + 1) (trees_of t.below)
    here t there = drop_next (trees_of t.below) position below.0 (sym (at_child parent position tree t there) ∙ below.1)

    kind_is : (b : Bool) → is_attribute other.kind ≡ b → is_attribute (below.0).node.kind ≡ b
    kind_is b e = ap is_attribute (sym below.2) ∙ e

    name_is : (b : Bool) → bytes_eq node.name other.name ≡ b → bytes_eq node.name (below.0).node.name ≡ b
    name_is b e = ap (bytes_eq node.name) (sym below.3) ∙ e

    pub none_repeated : is_attribute other.kind ≡ false → OfParent tree parent children (λ t. false ≡ is_repeated node t)
    none_repeated kind t there counted = by_names t false (among_none node.name (trees_of t.below) position below.0 (left t there counted) (here t there) (kind_is false kind))

    pub this_repeated : is_attribute other.kind ≡ true → bytes_eq node.name other.name ≡ true → OfParent tree parent children (λ t. true ≡ is_repeated node t)
    this_repeated kind name t there counted = by_names t true (among_this node.name (trees_of t.below) position below.0 (left t there counted) (here t there) (kind_is true kind) (name_is true name))

    pub looked_at_more : is_attribute other.kind ≡ true → bytes_eq node.name other.name ≡ false → IsLookedAt node.name tree parent children (position + 1)
    looked_at_more kind name t there counted = among_more node.name (trees_of t.below) position below.0 (left t there counted) (here t there) (kind_is true kind) (name_is false name)

  pub last_repeated : IsLookedAt node.name tree parent children children → OfParent tree parent children (λ t. false ≡ is_repeated node t)
  last_repeated left t there counted = by_names t false (among_last node.name (trees_of t.below) children (left t there counted) (drop_end (trees_of t.below) children counted))

  -- where the first child is no attribute, or there is none, no attribute is there
  pub first_repeated : IsDocument tree → (beside : Option Kind) → beside ≡ kind_below tree parent 0 → option_map_or is_attribute beside false ≡ false → OfParent tree parent children (λ t. false ≡ is_repeated node t)
  first_repeated is_document beside told other t there counted =
      let begins = looked_at_first node.name tree parent children is_document in
      let none : option_map_or (λ (x : OrderedTree). is_attribute x.node.kind) (at tree (parent ++ 0 ∷ [])) false ≡ false =
      sym (attribute_there (at tree (parent ++ 0 ∷ []))) ∙ ap (λ (o : Option Kind). option_map_or is_attribute o false) (sym told) ∙ other in
      (elim (at tree (parent ++ 0 ∷ [])) as (λ o. at tree (parent ++ 0 ∷ []) ≡ o → option_map_or (λ (x : OrderedTree). is_attribute x.node.kind) o false ≡ false → false ≡ is_repeated node t) [
        | None ↦ λ here h.
            let empty : 0 ≡ children = no_child tree parent children t there counted here in
            last_repeated (subst (λ (n : ℕ). IsLookedAt node.name tree parent children n) empty begins) t there counted
        | Some x ↦ λ here h. none_repeated 0 (record { kind = x.node.kind; name = x.node.name; content = 0; children = 0 }) begins (x, here, refl, refl) h t there counted
      ]) refl none

-- ---- why the node may not stand there

-- tests of the parent
abbrev pub outside : Kind → (position : ℕ) (parent : Kind) (children : ℕ) → Bool
outside kind position parent children = not (has_children parent) || (is_doc parent && not (is_instruction kind)) || nat_lt children position

abbrev place_by : (out unordered repeated : Bool) → Option EditError
place_by out unordered repeated = option_and_then refused_by (if out || unordered then Some why.BadPlace else if repeated then Some why.Twice else None)

module _ (node : Node) (position : ℕ) (parent : List ℕ) (tree t : OrderedTree) (there : at tree parent ≡ Some t) where
  fault_there : place_fault node position parent tree ≡ option_and_then refused_by (place_refusal node position t)
  fault_there = ap (λ (o : Option OrderedTree). option_map_or (λ (x : OrderedTree). option_and_then refused_by (place_refusal node position x)) o (Some error.NoNode)) there

  module _ (shown : Kind) (same : shown ≡ t.node.kind) (children : ℕ) (counted : children ≡ length (trees_of t.below)) where
    outside_there : (b : Bool) → outside node.kind position shown children ≡ b → outside node.kind position t.node.kind (length (trees_of t.below)) ≡ b
    outside_there b e =
        ap (λ (n : ℕ). outside node.kind position t.node.kind n) (sym counted) ∙ ap (λ (k : Kind). outside node.kind position k children) (sym same) ∙ e

    pub fault_outside : outside node.kind position shown children ≡ true → place_fault node position parent tree ≡ Some error.BadPlace
    fault_outside e = fault_there ∙ ap (λ (b : Bool). place_by b (is_unordered node.kind position (trees_of t.below)) (is_repeated node t)) (outside_there true e)

    module _ (inside : outside node.kind position shown children ≡ false) where
      pub fault_unordered : true ≡ is_unordered node.kind position (trees_of t.below) → place_fault node position parent tree ≡ Some error.BadPlace
      fault_unordered e =
          fault_there ∙ ap (λ (b : Bool). place_by b (is_unordered node.kind position (trees_of t.below)) (is_repeated node t)) (outside_there false inside)
          ∙ ap (λ (b : Bool). place_by false b (is_repeated node t)) (sym e)

      module _ (ordered : false ≡ is_unordered node.kind position (trees_of t.below)) where
        pub fault_repeated : true ≡ is_repeated node t → place_fault node position parent tree ≡ Some error.Twice
        fault_repeated e =
            fault_there ∙ ap (λ (b : Bool). place_by b (is_unordered node.kind position (trees_of t.below)) (is_repeated node t)) (outside_there false inside)
            ∙ ap (λ (b : Bool). place_by false b (is_repeated node t)) (sym ordered) ∙ ap (place_by false false) (sym e)

        pub no_refusal : false ≡ is_repeated node t → place_refusal node position t ≡ None
        no_refusal e =
            ap (λ (b : Bool). if b || is_unordered node.kind position (trees_of t.below) then Some why.BadPlace else if is_repeated node t then Some why.Twice else None) (outside_there false inside)
            ∙ ap (λ (b : Bool). if b then Some why.BadPlace else if is_repeated node t then Some why.Twice else None) (sym ordered)
            ∙ ap (λ (b : Bool). if b then Some why.Twice else None) (sym e)

pub fault_nowhere : (node : Node) (position : ℕ) (parent : List ℕ) (tree : OrderedTree) → at tree parent ≡ None → place_fault node position parent tree ≡ Some error.NoNode
fault_nowhere node position parent tree none = ap (λ (o : Option OrderedTree). option_map_or (λ (x : OrderedTree). option_and_then refused_by (place_refusal node position x)) o (Some error.NoNode)) none

-- ---- looks behind each other

module _ {D : Type 0} {d : Ghosts D} {r0 r1 : Records} {x0 x1 : D} (leaves : LeavesRecords r0 r1) (still : IsStill d x0 x1) (root : RecordPlace) where
  has_later : (document : CutTree) → HasDocument d r0 x0 root document → HasDocument d r1 x1 root document
  has_later document has = record { saved = has.saved; now = has.now; stands = leaves_stand {d = d} {r0 = r0} {r1 = r1} leaves still has.stands; pieces = has.pieces; laid = has.laid }

  -- what is said of each document then is said of each before
  pub each_before : (P : CutTree → Type 0) → OfEach d r1 x1 root P → OfEach d r0 x0 root P
  each_before P each document has = each document (has_later document has)

  pub refused_before : (r2 : Records) (x2 : D) → has_ended r0 ≡ false → (Now Before : Type 0) → (Now → Before) → (e : NavError) → IsRefused d Now ⊥ (HoldsNoDocument d r1 x1 root) e r1 r2 x1 x2
      → IsRefused d Before ⊥ (HoldsNoDocument d r0 x0 root) e r0 r2 x0 x2
  refused_before r2 x2 runs Now Before next nav.NoNode refused = (next refused.0, runs, leaves_add_up {r0 = r0} {r1 = r1} {r2 = r2} leaves refused.2)
  refused_before r2 x2 runs Now Before next nav.Disk refused = (later_rose (d.faults x0) (d.faults x1) (d.faults x2) still.faults_later refused.0, leaves_ends {r0 = r0} {r1 = r1} {r2 = r2} leaves refused.1)
  refused_before r2 x2 runs Now Before next nav.Write refused = absurd refused.0
  refused_before r2 x2 runs Now Before next (nav.Damaged page) refused = (λ document has. refused.0 document (has_later document has), leaves_ends {r0 = r0} {r1 = r1} {r2 = r2} leaves refused.1)
  refused_before r2 x2 runs Now Before next nav.Ended refused = absurd (false≢true (sym (leaves.ended_stays ∙ runs) ∙ refused.0))
  refused_before r2 x2 runs Now Before next nav.Memory refused = (runs, leaves_add_up {r0 = r0} {r1 = r1} {r2 = r2} leaves refused.1)

-- a look at a child that has to be there gave up
pub child_refused : {D : Type 0} (d : Ghosts D) (root : RecordPlace) (parent : List ℕ) (children position : ℕ) {r0 r1 : Records} {x0 x1 : D} → LeavesRecords r0 r1 → IsStill d x0 x1 → has_ended r0 ≡ false → position < children
    → (r2 : Records) (x2 : D) (e : NavError) → IsRefused d (OfEach d r1 x1 root (λ document. at (tree_of document) (parent ++ position ∷ []) ≡ None)) ⊥ (HoldsNoDocument d r1 x1 root) e r1 r2 x1 x2
    → IsRefused d (OfEach d r0 x0 root (λ document. OfParent (tree_of document) parent children (λ t. ⊥))) ⊥ (HoldsNoDocument d r0 x0 root) e r0 r2 x0 x2
child_refused d root parent children position {r0} {r1} {x0} {x1} leaves still runs less r2 x2 e refused =
    refused_before {d = d} {r0 = r0} {r1 = r1} leaves still root r2 x2 runs (OfEach d r1 x1 root (λ document. at (tree_of document) (parent ++ position ∷ []) ≡ None)) (OfEach d r0 x0 root (λ document. OfParent (tree_of document) parent children (λ t. ⊥)))
    (λ none document has. missing_child (tree_of document) parent position children less (each_before {d = d} {r0 = r0} {r1 = r1} leaves still root (λ document. at (tree_of document) (parent ++ position ∷ []) ≡ None) none document has)) e refused

-- The children before a position were looked at: none has the name.
pub record IsLooking {D : Type 0} (d : Ghosts D) (root : RecordPlace) (name parent : List ℕ) (children position : ℕ) (r0 r1 : Records) (x0 x1 : D) : Type 0 where
  pub within : position ≤ children
  pub leaves : LeavesRecords r0 r1
  pub still : IsStill d x0 x1
  pub left : OfEach d r0 x0 root (λ document. IsLookedAt name (tree_of document) parent children position)

pub looking_first : {D : Type 0} (d : Ghosts D) (root : RecordPlace) (name parent : List ℕ) (children : ℕ) (r0 : Records) (x0 : D) → IsLooking d root name parent children 0 r0 r0 x0 x0
looking_first d root name parent children r0 x0 = record {
  within = omega arith;
  leaves = leaves_same refl;
  still = none_still;
  left = λ document has. looked_at_first name (tree_of document) parent children ((has.laid).laid).is_document;
}

module _ {D : Type 0} (d : Ghosts D) (root : RecordPlace) (node : Node) (parent : List ℕ) (children position : ℕ) (r0 r1 : Records) (x0 x1 : D) (looking : IsLooking d root node.name parent children position r0 r1 x0 x1) (is : is_attribute node.kind ≡ true) where
  pub looking_last : (children ≤ position) → OfEach d r0 x0 root (λ document. OfParent (tree_of document) parent children (λ t. false ≡ is_repeated node t))
  looking_last end document has =
      let within = looking.within in
      let same : position ≡ children = omega (arith, within, end) in
      last_repeated node (tree_of document) parent children is (subst (IsLookedAt node.name (tree_of document) parent children) same (looking.left document has))

  module _ (r2 : Records) (x2 : D) (other : Outlined) (leaves : LeavesRecords r1 r2) (below : OfEach d r1 x1 root (λ document. IsChild (tree_of document) parent position other)) where
    pub leaves_more : LeavesRecords r0 r2
    leaves_more = leaves_add_up {r0 = r0} {r1 = r1} {r2 = r2} looking.leaves leaves

    below_there : OfEach d r0 x0 root (λ document. IsChild (tree_of document) parent position other)
    below_there = each_before {d = d} {r0 = r0} {r1 = r1} looking.leaves looking.still root (λ document. IsChild (tree_of document) parent position other) below

    pub looking_none : is_attribute other.kind ≡ false → OfEach d r0 x0 root (λ document. OfParent (tree_of document) parent children (λ t. false ≡ is_repeated node t))
    looking_none kind document has = none_repeated node (tree_of document) parent children is position other (looking.left document has) (below_there document has) kind

    module _ (kind : is_attribute other.kind ≡ true) where
      pub looking_this : bytes_eq node.name other.name ≡ true → OfEach d r0 x0 root (λ document. OfParent (tree_of document) parent children (λ t. true ≡ is_repeated node t))
      looking_this name document has = this_repeated node (tree_of document) parent children is position other (looking.left document has) (below_there document has) kind name

      pub looking_more : bytes_eq node.name other.name ≡ false → IsStill d x1 x2 → position < children → IsLooking d root node.name parent children (position + 1) r0 r2 x0 x2
      looking_more name still less = record {
        within = omega (arith, less);
        leaves = leaves_more;
        still = still_then looking.still still;
        left = λ document has. looked_at_more node (tree_of document) parent children is position other (looking.left document has) (below_there document has) kind name;
      }
