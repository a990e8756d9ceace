-- A node put into a document, behind the look at its place.
use Rattle.std.proofs.Common.{◌≡◌, ℕ, suc, ◌+◌, ◌-◌, ◌<◌, ◌≤◌, Bool, true, false, List, [], ◌∷◌, ◌++◌, length, take, Option, None, Some, refl, sym, ap, ◌∙◌, subst, arith}
use Rattle.std.specs.Prelude.{if◌then◌else◌, nat_lt, nat_le, slice_index, option_and_then}
use Rattle.std.specs.Option.{option_map_or, option_or}
use Rattle.std.proofs.lemmas.Bool.Decides.{nat_tests}
use Rattle.nx_host.specs.declared.disk.Disk.{Ghosts}
use Rattle.nx_host.specs.Still.{IsStill}
use Rattle.nx_tree.specs.declared.node.Node.{Node}
use Rattle.nx_tree.specs.declared.error.TreeError.{TreeError}
use Rattle.nx_tree.specs.declared.error.TreeError.TheVariants as tree
use Rattle.nx_tree.specs.Forest.{OrderedTree, nodes, trees_of}
use Rattle.nx_tree.specs.Document.{IsNode, deepest, most_nodes}
use Rattle.nx_tree.specs.Edit.{at, put as put_node, parent_path, last_position, is_misplaced, is_repeated, place_refusal, limit_refusal, put_refusal, insert_refusal}
use Rattle.nx_tree.proofs.KeptLemmas.{fits}
use Rattle.nx_tree.proofs.PutLemmas.{document_put, nodes_put}
use Rattle.nx_weights.specs.Weight.{weight}
use Rattle.nx_holdings.specs.declared.header.Settings.{Settings}
use Rattle.nx_records.specs.declared.records.Records.{Records}
use Rattle.nx_records.specs.Records.{has_ended, LeavesRecords, settings_of}
use Rattle.nx_matrix.specs.declared.rule.Rule.{Rule}
use Rattle.nx_cuts.specs.Cut.{CutTree, tree_of}
use Rattle.nx_hold.specs.declared.entry.DocEntry.{DocEntry}
use Rattle.nx_layouts.specs.Layout.{nodes_in}
use Rattle.nx_hold.specs.Changes.{place_of}
use Rattle.nx_hold.specs.Contents.{content_pages}
use Rattle.nx_hold.specs.Pieces.{held_by}
use Rattle.nx_hold.specs.Documents.{HasDocument}
use Rattle.nx_nav.specs.Refusals.{OfEach}
use Rattle.nx_state.specs.State.{document_size}
use Rattle.nx_drawn.proofs.EditLemmas.{tree-inserted}
use Rattle.nx_drawn.proofs.BareLemmas.{laid_parts}
use Rattle.nx_edit.specs.Changing.{Child}
use Rattle.nx_edit.specs.declared.error.EditError.{EditError}
use Rattle.nx_edit.specs.declared.error.EditError.TheVariants as error
use Rattle.nx_edit.specs.Removing.{OfEntry}
use Rattle.nx_edit.specs.Refusals.{refused_by, edit_needs, LeavesLastCommit, NotEdited}
use Rattle.nx_edit.specs.Retexting.{outweighs}
use Rattle.nx_edit.specs.Inserting.{insertion_fault, is_of_insertion, place_fault}
use Rattle.nx_edit.proofs.DocumentLemmas.{IsFitting, left_there}
use Rattle.nx_edit.proofs.RetextLemmas.{heavy_is, light_is}

is_less : (a b : ℕ) → a < b → nat_lt a b ≡ true
is_less a b h = grind (arith, nat_tests, h)

not_less : (a b : ℕ) → b ≤ a → nat_lt a b ≡ false
not_less a b h = grind (arith, nat_tests, h)

is_most : (a b : ℕ) → a ≤ b → nat_le a b ≡ true
is_most a b h = grind (arith, nat_tests, h)

not_most : (a b : ℕ) → b < a → nat_le a b ≡ false
not_most a b h = grind (arith, nat_tests, h)

-- a path by its last position
pub parent_and_last : (path : List ℕ) → (path ≡ [] → ⊥) → parent_path path ++ last_position path ∷ [] ≡ path
parent_and_last [] some = absurd (some refl)
parent_and_last (p ∷ []) some = refl
parent_and_last (p ∷ q ∷ path) some =
    let more : suc (suc (length path)) - 1 ≡ suc (suc (length path) - 1) = omega arith in
    subst (λ n. take n (p ∷ q ∷ path) ++ slice_index (p ∷ q ∷ path) n ∷ [] ≡ p ∷ q ∷ path) (sym more) (ap (λ (l : List ℕ). p ∷ l) (parent_and_last (q ∷ path) (λ is. cc)))

-- why nothing can be put below this tree, if it is there
abbrev put_there : Option TreeError → Node → ℕ → Option OrderedTree → Option TreeError
put_there limit node position o = option_map_or (λ t. option_or (place_refusal node position t) limit) o (Some tree.NoNode)

put_refusal_is : (limit : Option TreeError) (node : Node) (path : List ℕ) (t : OrderedTree) → (path ≡ [] → ⊥) → put_refusal limit node path t ≡ put_there limit node (last_position path) (at t (parent_path path))
put_refusal_is limit node [] t some = absurd (some refl)
put_refusal_is limit node (p ∷ path) t some = refl

-- what the place refuses is refused first
pub place_first : (node : Node) (path : List ℕ) (k : ℕ) (t : OrderedTree) (e : EditError) → (path ≡ [] → ⊥) → place_fault node (last_position path) (parent_path path) t ≡ Some e → insertion_fault node path k t ≡ Some e
place_first node path k t e some is =
    ap (λ (o : Option TreeError). option_or (option_and_then refused_by o) (outweighs k node)) (put_refusal_is (limit_refusal path t) node path t some) ∙ go (at t (parent_path path)) is
  where
    chosen : (o : Option TreeError) → option_and_then refused_by o ≡ Some e → option_or (option_and_then refused_by (option_or o (limit_refusal path t))) (outweighs k node) ≡ Some e
    chosen None is = absurd (cc)
    chosen (Some x) is = ap (λ (o : Option EditError). option_or o (outweighs k node)) is

    go : (o : Option OrderedTree) → option_map_or (λ x. option_and_then refused_by (place_refusal node (last_position path) x)) o (Some error.NoNode) ≡ Some e
        → option_or (option_and_then refused_by (put_there (limit_refusal path t) node (last_position path) o)) (outweighs k node) ≡ Some e
    go None is = is
    go (Some x) is = chosen (place_refusal node (last_position path) x) is

-- a place that isn't refused has room
within_parent : (node : Node) (position : ℕ) (t : OrderedTree) → place_refusal node position t ≡ None → position ≤ length (trees_of t.below)
within_parent node position t free = (fits node position t (go (is_misplaced node position t) free)).within
  where
    go : (b : Bool) → (if b then Some tree.BadPlace else if is_repeated node t then Some tree.Twice else None) ≡ None → b ≡ false
    go true e = absurd (cc)
    go false e = refl

abbrev limit_by : (deep many : Bool) → Option TreeError
limit_by deep many = if deep then Some tree.TooDeep else if many then Some tree.TooMany else None

-- the call, behind the look at the place
module _ {D : Type 0} (d : Ghosts D) (entry : DocEntry) (node : Node) (path : List ℕ) (some : path ≡ [] → ⊥) (r0 r1 : Records) (x0 x1 : D) (still : IsStill d x0 x1) (runs : has_ended r0 ≡ false) (leaves : LeavesRecords r0 r1)
    (position : ℕ) (parent : List ℕ) (last : position ≡ last_position path) (above : parent ≡ parent_path path)
    (placed : OfEach d r0 x0 (place_of entry.root) (λ document. (t : OrderedTree) × (at (tree_of document) parent ≡ Some t) × (place_refusal node position t ≡ None))) where
  abbrev NotInserted : EditError → Records → D → Type 0
  NotInserted e r x = NotEdited d is_of_insertion (insertion_fault node path (settings_of r0).k) (edit_needs (put_node node path) nodes_in (content_pages node)) entry e r0 r x0 x

  pub path_is : parent ++ position ∷ [] ≡ path
  path_is = ap (λ (l : List ℕ). l ++ position ∷ []) above ∙ ap (λ (n : ℕ). parent_path path ++ n ∷ []) last ∙ parent_and_last path some

  left_here : LeavesLastCommit d r0 r1 x0 x1
  left_here = left_there d r0 r1 x0 x1 still runs leaves

  refusal_is : (document : CutTree) → HasDocument d r0 x0 (place_of entry.root) document → insert_refusal node path (tree_of document) ≡ limit_refusal path (tree_of document)
  refusal_is document has =
      let p = placed document has in
      put_refusal_is (limit_refusal path (tree_of document)) node path (tree_of document) some
      ∙ ap (put_there (limit_refusal path (tree_of document)) node (last_position path)) (ap (at (tree_of document)) (sym above) ∙ p.1)
      ∙ ap (λ (o : Option TreeError). option_or o (limit_refusal path (tree_of document))) (ap (λ (n : ℕ). place_refusal node n p.0) (sym last) ∙ p.2)

  fault_is : (document : CutTree) → HasDocument d r0 x0 (place_of entry.root) document → (o : Option TreeError) → limit_refusal path (tree_of document) ≡ o
      → insertion_fault node path (settings_of r0).k (tree_of document) ≡ option_or (option_and_then refused_by o) (outweighs (settings_of r0).k node)
  fault_is document has o is = ap (λ (x : Option TreeError). option_or (option_and_then refused_by x) (outweighs (settings_of r0).k node)) (refusal_is document has ∙ is)

  pub deep_refused : deepest < length path → NotInserted error.TooDeep r1 x1
  deep_refused deep = (
    refl,
    left_here,
    λ document has tidy counted.
        fault_is document has (Some tree.TooDeep) (ap (λ (b : Bool). limit_by b (nat_le most_nodes (1 + nodes (tree_of document).below))) (is_less deepest (length path) deep)),
  )

  module _ (shallow : length path ≤ deepest) where
    not_deep : nat_lt deepest (length path) ≡ false
    not_deep = not_less deepest (length path) shallow

    pub many_refused : most_nodes ≤ entry.nodes → NotInserted error.TooMany r1 x1
    many_refused many = (
      refl,
      left_here,
      λ document has tidy counted.
          let more : most_nodes ≤ 1 + nodes (tree_of document).below = omega (arith, many, counted) in
          let is : nat_le most_nodes (1 + nodes (tree_of document).below) ≡ true = is_most most_nodes (1 + nodes (tree_of document).below) more in
          fault_is document has (Some tree.TooMany) (ap (λ (b : Bool). limit_by b (nat_le most_nodes (1 + nodes (tree_of document).below))) not_deep ∙ ap (limit_by false) is),
    )

    module _ (few : entry.nodes < most_nodes) where
      limit_none : (document : CutTree) → entry.nodes ≡ document_size document → limit_refusal path (tree_of document) ≡ None
      limit_none document counted =
          let less : 1 + nodes (tree_of document).below < most_nodes = omega (arith, few, counted) in
          let is : nat_le most_nodes (1 + nodes (tree_of document).below) ≡ false = not_most most_nodes (1 + nodes (tree_of document).below) less in
          ap (λ (b : Bool). limit_by b (nat_le most_nodes (1 + nodes (tree_of document).below))) not_deep ∙ ap (limit_by false) is

      pub heavy_refused : (heavy k : ℕ) → heavy ≡ weight node → k ≡ (settings_of r0).k → k < heavy → NotInserted (error.TooHeavy heavy) r1 x1
      heavy_refused heavy k weighs same more = (
        refl,
        left_here,
        λ document has tidy counted.
            fault_is document has None (limit_none document counted)
            ∙ heavy_is (settings_of r0).k node (let less : (settings_of r0).k < weight node = omega (arith, weighs, same, more) in is_less (settings_of r0).k (weight node) less) ∙ ap (λ (w : ℕ). Some (error.TooHeavy w)) (sym weighs),
      )

      module _ (light : weight node ≤ (settings_of r0).k) where
        pub insert_allowed : OfEntry d r0 x0 entry (λ now document layout. insertion_fault node path (settings_of r0).k (tree_of document) ≡ None)
        insert_allowed document has tidy counted = fault_is document has None (limit_none document counted) ∙ light_is (settings_of r0).k node (not_less (settings_of r0).k (weight node) light)

        pub insert_fits : IsNode node → (rules : List Rule) (list : Option ℕ) → OfEntry d r0 x0 entry (λ now document layout. IsFitting (now.settings).k rules (Child position (record { node = node; list = list })) parent (put_node node path) document)
        insert_fits is_node rules list document has tidy counted =
            let p = placed document has in
            let settings : ((has.now).settings).k ≡ (settings_of r0).k = ap (λ (s : Settings). s.k) (((has.stands).holds).behind).settings in
            let laid = (has.laid).laid in
            record {
              there = p.0;
              leads = p.1;
              deep = tt;
              made = (omega (arith, light, settings), within_parent node position p.0 p.2);
              same = tree-inserted ((has.now).settings).k rules node (parent ++ position ∷ []) document (laid_parts (held_by has.pieces) (place_of entry.root) document (has.laid).layout laid).3.0
                  ∙ ap (λ (q : List ℕ). put_node node q (tree_of document)) path_is;
              is_document = document_put node path (tree_of document) is_node laid.is_document (refusal_is document has ∙ limit_none document counted);
            }

        pub insert_counts : (document : CutTree) → HasDocument d r0 x0 (place_of entry.root) document → entry.nodes ≡ document_size document → entry.nodes + 1 ≡ 1 + nodes (put_node node path (tree_of document)).below
        insert_counts document has counted =
            let more = nodes_put (limit_refusal path (tree_of document)) node path (tree_of document) (refusal_is document has ∙ limit_none document counted) in
            omega (arith, counted, more)
