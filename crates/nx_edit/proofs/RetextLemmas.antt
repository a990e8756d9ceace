-- Another content in a document, behind the look at the node.
use Rattle.std.proofs.Common.{◌≡◌, ℕ, ◌+◌, ◌<◌, ◌≤◌, List, [], ◌∷◌, length, Option, None, Some, refl, sym, ap, ap₂, ◌∙◌, subst, arith}
use Rattle.std.specs.Prelude.{nat_lt, nat_le, true, false, Bool, if◌then◌else◌, IfSome, option_and_then}
use Rattle.std.specs.Option.{option_map_or, option_or}
use Rattle.std.proofs.lemmas.Bool.{false≢true}
use Rattle.std.proofs.lemmas.Bool.Decides.{nat_tests}
use Rattle.nx_host.specs.declared.disk.Disk.{Ghosts}
use Rattle.nx_host.specs.Still.{IsStill}
use Rattle.nx_tree.specs.declared.node.Node.{Node}
use Rattle.nx_tree.specs.declared.error.TreeError.TheVariants as tree
use Rattle.nx_tree.specs.Forest.{OrderedTree, nodes}
use Rattle.nx_tree.specs.declared.node.Kind.{Kind}
use Rattle.nx_tree.specs.Document.{IsDocument, longest_node}
use Rattle.nx_tree.specs.Edit.{at, has_children, retext, retext_refusal}
use Rattle.nx_tree.proofs.EditLemmas.{nodes-retext}
use Rattle.nx_tree.proofs.KeptLemmas.{document_retext}
use Rattle.nx_weights.specs.Weight.{weight}
use Rattle.nx_holdings.specs.declared.header.Settings.{Settings}
use Rattle.nx_records.specs.declared.records.Records.{Records}
use Rattle.nx_records.specs.Records.{has_ended, LeavesRecords, settings_of}
use Rattle.nx_matrix.specs.declared.rule.Rule.{Rule}
use Rattle.nx_cuts.specs.Cut.{CutTree, tree_of}
use Rattle.nx_hold.specs.declared.entry.DocEntry.{DocEntry}
use Rattle.nx_layouts.specs.Layout.{RecordPlace}
use Rattle.nx_hold.specs.Changes.{place_of}
use Rattle.nx_hold.specs.Contents.{bytes_pages}
use Rattle.nx_hold.specs.Pieces.{held_by}
use Rattle.nx_hold.proofs.PieceLemmas.{some_same}
use Rattle.nx_hold.specs.Documents.{HasDocument}
use Rattle.nx_nav.specs.declared.finding.Outlined.{Outlined}
use Rattle.nx_nav.specs.Refusals.{OfEach}
use Rattle.nx_nav.specs.Shows.{OutlinesNode}
use Rattle.nx_state.specs.State.{document_size}
use Rattle.nx_drawn.proofs.EditLemmas.{tree-retexted}
use Rattle.nx_drawn.proofs.BareLemmas.{laid_parts}
use Rattle.nx_edit.specs.Changing.{Content}
use Rattle.nx_edit.specs.declared.error.EditError.{EditError}
use Rattle.nx_edit.specs.declared.error.EditError.TheVariants as error
use Rattle.nx_edit.specs.Removing.{OfEntry}
use Rattle.nx_edit.specs.Editing.{nodes_off}
use Rattle.nx_edit.specs.Refusals.{refused_by, edit_needs, LeavesLastCommit, NotEdited}
use Rattle.nx_edit.specs.Retexting.{other_content, outweighs, outgrows, content_fault, is_of_content}
use Rattle.nx_edit.proofs.DocumentLemmas.{IsFitting, left_there}

-- Why a node can't get a content:

abbrev long_there : (content : List ℕ) → Option OrderedTree → Option EditError
long_there content o = option_map_or (λ there. outgrows (other_content content there)) o None

abbrev heavy_there : (content : List ℕ) (k : ℕ) → Option OrderedTree → Option EditError
heavy_there content k o = option_map_or (λ there. outweighs k (other_content content there)) o None

abbrev parent_there : Option OrderedTree → Option EditError
parent_there o = option_and_then refused_by (option_map_or (λ x. if has_children x.node.kind then Some tree.NoContent else None) o (Some tree.NoNode))

pub fault_missing : (content path : List ℕ) (k : ℕ) (t : OrderedTree) → at t path ≡ None → content_fault content path k t ≡ Some error.NoNode
fault_missing content path k t none = subst (λ (o : Option OrderedTree). option_or (option_or (long_there content o) (parent_there o)) (heavy_there content k o) ≡ Some error.NoNode) (sym none) refl

-- tests of the node there say whether it has one
abbrev fault_of : (content : List ℕ) (k : ℕ) (x : OrderedTree) → (long parent : Bool) → Option EditError
fault_of content k x long parent = option_or (option_or (if long then Some error.TooLong else None) (option_and_then refused_by (if parent then Some tree.NoContent else None))) (outweighs k (other_content content x))

fault_found : (content path : List ℕ) (k : ℕ) (t x : OrderedTree) → at t path ≡ Some x
    → content_fault content path k t ≡ fault_of content k x (nat_lt longest_node (length x.node.name + length content)) (has_children x.node.kind)
fault_found content path k t x there =
    subst (λ (o : Option OrderedTree). option_or (option_or (long_there content o) (parent_there o)) (heavy_there content k o) ≡ fault_of content k x (nat_lt longest_node (length x.node.name + length content)) (has_children x.node.kind)) (sym there) refl

fault_long : (content path : List ℕ) (k : ℕ) (t x : OrderedTree) → at t path ≡ Some x → nat_lt longest_node (length x.node.name + length content) ≡ true → content_fault content path k t ≡ Some error.TooLong
fault_long content path k t x there long = fault_found content path k t x there ∙ ap (λ (b : Bool). fault_of content k x b (has_children x.node.kind)) long

fault_parent : (content path : List ℕ) (k : ℕ) (t x : OrderedTree) → at t path ≡ Some x → nat_lt longest_node (length x.node.name + length content) ≡ false → has_children x.node.kind ≡ true
    → content_fault content path k t ≡ Some error.NoContent
fault_parent content path k t x there short parent = fault_found content path k t x there ∙ ap₂ (fault_of content k x) short parent

fault_leaf : (content path : List ℕ) (k : ℕ) (t x : OrderedTree) → at t path ≡ Some x → nat_lt longest_node (length x.node.name + length content) ≡ false → has_children x.node.kind ≡ false
    → content_fault content path k t ≡ outweighs k (other_content content x)
fault_leaf content path k t x there short leaf = fault_found content path k t x there ∙ ap₂ (fault_of content k x) short leaf

refusal_leaf : (path : List ℕ) (t x : OrderedTree) → at t path ≡ Some x → has_children x.node.kind ≡ false → retext_refusal path t ≡ None
refusal_leaf path t x there leaf =
    subst (λ (o : Option OrderedTree). option_map_or (λ y. if has_children y.node.kind then Some tree.NoContent else None) o (Some tree.NoNode) ≡ None) (sym there)
    (subst (λ (b : Bool). (if b then Some tree.NoContent else None) ≡ None) (sym leaf) refl)

pub heavy_is : (k : ℕ) (node : Node) → nat_lt k (weight node) ≡ true → outweighs k node ≡ Some (error.TooHeavy (weight node))
heavy_is k node is = ap (λ (b : Bool). if b then Some (error.TooHeavy (weight node)) else None) is

pub light_is : (k : ℕ) (node : Node) → nat_lt k (weight node) ≡ false → outweighs k node ≡ None
light_is k node is = ap (λ (b : Bool). if b then Some (error.TooHeavy (weight node)) else None) is

-- the node that was looked at, with the content
pub node_with : {D : Type 0} (d : Ghosts D) (root : RecordPlace) (content path : List ℕ) (r0 : Records) (x0 : D) (shown : Outlined) → OfEach d r0 x0 root (λ document. OutlinesNode (tree_of document) path shown)
    → (node : Node) → node ≡ record { kind = shown.kind; name = shown.name; content = content } → OfEach d r0 x0 root (λ document. (x : OrderedTree) × (at (tree_of document) path ≡ Some x) × (node ≡ other_content content x))
node_with d root content path r0 x0 shown shows node is document has =
    let s = shows document has in
    (s.0, s.1, is ∙ ap₂ (λ (k : Kind) (name : List ℕ). let n : Node = record { kind = k; name = name; content = content } in n) s.2 s.3)

-- a leaf isn't the root
below_root : (path : List ℕ) (tree x : OrderedTree) → IsDocument tree → at tree path ≡ Some x → has_children x.node.kind ≡ false → path ≡ [] → ⊥
below_root [] tree x is there leaf none =
    let root : has_children tree.node.kind ≡ true = ap has_children is.root in
    let same : tree ≡ x = some_same there in
    false≢true (sym leaf ∙ ap (λ (t : OrderedTree). has_children t.node.kind) (sym same) ∙ root)
below_root (p ∷ path) tree x is there leaf none = absurd (cc)

-- tests of lengths and weights
long_so : (n : ℕ) → nat_le n longest_node ≡ false → nat_lt longest_node n ≡ true
long_so n is = grind (arith, nat_tests, is)

short_so : (n : ℕ) → nat_le n longest_node ≡ true → nat_lt longest_node n ≡ false
short_so n is = grind (arith, nat_tests, is)

few_so : (n : ℕ) → nat_le n longest_node ≡ true → n ≤ longest_node
few_so n is = grind (arith, nat_tests, is)

heavy_so : (k n : ℕ) → k < n → nat_lt k n ≡ true
heavy_so k n more = grind (arith, nat_tests, more)

light_so : (k n : ℕ) → n ≤ k → nat_lt k n ≡ false
light_so k n fits = grind (arith, nat_tests, fits)

-- the call, behind the look at the document
module _ {D : Type 0} (d : Ghosts D) (entry : DocEntry) (content path : List ℕ) (r0 r1 : Records) (x0 x1 : D) (still : IsStill d x0 x1) (runs : has_ended r0 ≡ false) (leaves : LeavesRecords r0 r1)
    (node : Node) (node_there : OfEach d r0 x0 (place_of entry.root) (λ document. (x : OrderedTree) × (at (tree_of document) path ≡ Some x) × (node ≡ other_content content x))) where
  abbrev NotRetexted : EditError → Records → D → Type 0
  NotRetexted e r x = NotEdited d is_of_content (content_fault content path (settings_of r0).k) (edit_needs (retext content path) (nodes_off true path) (bytes_pages content)) entry e r0 r x0 x

  left_here : LeavesLastCommit d r0 r1 x0 x1
  left_here = left_there d r0 r1 x0 x1 still runs leaves

  pub long_refused : nat_le (length node.name + length node.content) longest_node ≡ false → NotRetexted error.TooLong r1 x1
  long_refused long = (
    refl,
    left_here,
    λ document has tidy counted.
        let there = node_there document has in
        let is : nat_le (length (there.0).node.name + length content) longest_node ≡ false = ap (λ (n : Node). nat_le (length n.name + length n.content) longest_node) (sym there.2) ∙ long in
        fault_long content path (settings_of r0).k (tree_of document) there.0 there.1 (long_so (length (there.0).node.name + length content) is),
  )

  module _ (short : nat_le (length node.name + length node.content) longest_node ≡ true) where
    few_there : (x : OrderedTree) → node ≡ other_content content x → length x.node.name + length content ≤ longest_node
    few_there x same =
        few_so (length x.node.name + length content) (ap (λ (n : Node). nat_le (length n.name + length n.content) longest_node) (sym same) ∙ short)

    short_there : (x : OrderedTree) → node ≡ other_content content x → nat_lt longest_node (length x.node.name + length content) ≡ false
    short_there x same = short_so (length x.node.name + length content) (ap (λ (n : Node). nat_le (length n.name + length n.content) longest_node) (sym same) ∙ short)

    pub parent_refused : has_children node.kind ≡ true → NotRetexted error.NoContent r1 x1
    parent_refused is = (
      refl,
      left_here,
      λ document has tidy counted.
          let there = node_there document has in
          fault_parent content path (settings_of r0).k (tree_of document) there.0 there.1 (short_there there.0 there.2) (ap (λ (n : Node). has_children n.kind) (sym there.2) ∙ is),
    )

    module _ (leaf : has_children node.kind ≡ false) where
      leaf_is : (x : OrderedTree) → node ≡ other_content content x → has_children x.node.kind ≡ false
      leaf_is x same = ap (λ (n : Node). has_children n.kind) (sym same) ∙ leaf

      fault_is : (document : CutTree) (has : HasDocument d r0 x0 (place_of entry.root) document) → content_fault content path (settings_of r0).k (tree_of document) ≡ outweighs (settings_of r0).k node
      fault_is document has =
          let there = node_there document has in
          fault_leaf content path (settings_of r0).k (tree_of document) there.0 there.1 (short_there there.0 there.2) (leaf_is there.0 there.2) ∙ ap (outweighs (settings_of r0).k) (sym there.2)

      pub heavy_refused : (heavy k : ℕ) → heavy ≡ weight node → k ≡ (settings_of r0).k → k < heavy → NotRetexted (error.TooHeavy heavy) r1 x1
      heavy_refused heavy k weighs same more = (
        refl,
        left_here,
        λ document has tidy counted.
            fault_is document has
            ∙ heavy_is (settings_of r0).k node (heavy_so (settings_of r0).k (weight node) (omega (arith, weighs, same, more))) ∙ ap (λ (w : ℕ). Some (error.TooHeavy w)) (sym weighs),
      )

      module _ (light : weight node ≤ (settings_of r0).k) where
        pub retext_allowed : OfEntry d r0 x0 entry (λ now document layout. content_fault content path (settings_of r0).k (tree_of document) ≡ None)
        retext_allowed document has tidy counted = fault_is document has ∙ light_is (settings_of r0).k node (light_so (settings_of r0).k (weight node) light)

        pub retext_fits : (rules : List Rule) (list : Option ℕ) → OfEntry d r0 x0 entry (λ now document layout. IsFitting (now.settings).k rules (Content content list) path (retext content path) document)
        retext_fits rules list document has tidy counted =
            let there = node_there document has in
            let settings : ((has.now).settings).k ≡ (settings_of r0).k = ap (λ (s : Settings). s.k) (((has.stands).holds).behind).settings in
            let same_weight : weight node ≡ weight (other_content content there.0) = ap weight there.2 in
            let laid = (has.laid).laid in
            let fits : IfSome (at (tree_of document) path) (λ x. length x.node.name + length content ≤ longest_node) =
            subst (λ (o : Option OrderedTree). IfSome o (λ x. length x.node.name + length content ≤ longest_node)) (sym there.1) (few_there there.0 there.2) in
            record {
              there = there.0;
              leads = there.1;
              deep = below_root path (tree_of document) there.0 laid.is_document there.1 (leaf_is there.0 there.2);
              made = omega (arith, same_weight, light, settings);
              same = tree-retexted ((has.now).settings).k content path document (laid_parts (held_by has.pieces) (place_of entry.root) document (has.laid).layout laid).3.0;
              is_document = document_retext content path (tree_of document) fits laid.is_document (refusal_leaf path (tree_of document) there.0 there.1 (leaf_is there.0 there.2));
            }

        pub retext_counts : (document : CutTree) → HasDocument d r0 x0 (place_of entry.root) document → entry.nodes ≡ document_size document → entry.nodes ≡ 1 + nodes (retext content path (tree_of document)).below
        retext_counts document has counted = omega (arith, counted, nodes-retext content path (tree_of document))
