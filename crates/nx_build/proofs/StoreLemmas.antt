-- A whole document that was laid out is stored.
use Rattle.std.proofs.Common.{◌≡◌, ℕ, ◌+◌, ◌*◌, ◌^◌, ◌≤◌, ◌<◌, List, [], ◌∷◌, ◌++◌, length, take, Option, None, Some, refl, sym, ap, ap₂, ◌∙◌, subst, arith, append-nil}
use Rattle.std.specs.Prelude.{◌≢◌, Result, Ok, Err, IfOk, IfErr}
use Rattle.std.proofs.lemmas.List.Sorted.{length_permutation}
use Rattle.nx_host.specs.declared.disk.Disk.{Ghosts}
use Rattle.nx_tree.specs.declared.node.Node.{Node}
use Rattle.nx_tree.specs.Forest.{OrderedTree, forest_of, nodes}
use Rattle.nx_tree.specs.Document.{IsDocument}
use Rattle.nx_weights.specs.Weight.{longest_near, weight, AreShort}
use Rattle.nx_weights.proofs.LimitLemmas.{document_within}
use Rattle.nx_parts.specs.declared.interval.Interval.{Interval}
use Rattle.nx_parts.specs.declared.marks.Mark.{Mark}
use Rattle.nx_parts.specs.Marks.{marked, holder_by_marks}
use Rattle.nx_parts.specs.Partitioning.{holder, IsFeasible}
use Rattle.nx_holdings.specs.declared.header.Settings.{Settings}
use Rattle.nx_holdings.specs.Holdings.{Held}
use Rattle.nx_records.specs.declared.records.Records.{Records}
use Rattle.nx_records.specs.declared.error.StoreError.{StoreError}
use Rattle.nx_records.specs.Records.{HasChanges, KeepsSaved, StandsFor, settings_of}
use Rattle.nx_records.specs.Refusals.{RunsOn, NotStored}
use Rattle.nx_piece.specs.declared.piece.Proxy.{Proxy}
use Rattle.nx_piece.specs.PieceNode.{MayBeFar}
use Rattle.nx_piece.specs.Valid.{AreFar}
use Rattle.nx_cuts.specs.Cut.{CutForest, Bare, Grown, Kept, forest, cuts, part_weight, AreParts, parts_of}
use Rattle.nx_cuts.specs.Law.{IsCut}
use Rattle.nx_cuts.proofs.DrawnLaw.{feasible_drawn}
use Rattle.nx_cuts.proofs.NumberLemmas.{length-parts}
use Rattle.nx_layouts.specs.Layout.{RecordPlace, LaidNode, Layout, without_places, laid_near, shown_with, piece_body, lists_of, nodes_in, contents_of, places_of, AreLaidParts, AreOnce, whole}
use Rattle.nx_hold.specs.Contents.{content_pages, forest_pages, tree_pages}
use Rattle.nx_hold.specs.Changes.{place_named, ComesTidy}
use Rattle.nx_hold.specs.Documents.{AddsRecords}
use Rattle.nx_hold.proofs.MoveLemmas.{moves_more}
use Rattle.nx_build.specs.Marked.{AreMembers}
use Rattle.nx_build.specs.Laying.{proxy_count, laid_needs, drawn_needs, PutsLayout, LaysMembers}
use Rattle.nx_build.specs.Storing.{store_needs, StoresDocument}
use Rattle.nx_build.proofs.RowLemmas.{needs_cuts, needs-without, count-without, cuts_few}
use Rattle.nx_build.proofs.HolderLemmas.{root_members}
use Rattle.nx_build.proofs.StepLemmas.{needs_fewer}

-- the layout of one tree, whose node has no content
pub record IsTreeLaid (node : Node) (below : CutForest) (layout : Layout) : Type 0 where
  pub inside : Layout
  pub is : layout ≡ Grown (laid_near node) inside Bare
  pub same : without_places inside ≡ below

no_grown : (node : Node) (below beside : CutForest) → Bare ≡ Grown node below beside → ⊥
no_grown node below beside e = cc

no_kept : (members last : CutForest) (node : Node) (below beside : CutForest) → Kept tt members last ≡ Grown node below beside → ⊥
no_kept members last node below beside e = cc

no_bare : (node : Node) (below beside : CutForest) → Grown node below beside ≡ Bare → ⊥
no_bare node below beside e = cc

no_rest : (members last : CutForest) → Kept tt members last ≡ Bare → ⊥
no_rest members last e = cc

bare_laid : (layout : Layout) → without_places layout ≡ Bare → layout ≡ Bare
bare_laid Bare e = refl
bare_laid (Grown node below beside) e = absurd (no_bare node.node (without_places below) (without_places beside) e)
bare_laid (Kept place members beside) e = absurd (no_rest (without_places members) (without_places beside) e)

-- an empty content stands in its item
no_list : (node : Node) (list : Option ℕ) → node.content ≡ [] → MayBeFar (shown_with node list) → list ≡ None
no_list node None empty far = refl
no_list node (Some first) empty far =
    let long : longest_near < length node.content = far.1 in
    let none : length node.content ≡ 0 = ap length empty in
    absurd (omega (arith, long, none))

laid_node : Node → Option ℕ → LaidNode
laid_node node list = record { node = node; list = list }

tree_laid : (node : Node) (below : CutForest) (layout : Layout) → without_places layout ≡ Grown node below Bare → node.content ≡ [] → AreFar (piece_body layout) → IsTreeLaid node below layout
unfolding laid_node
tree_laid node below Bare e empty far = absurd (no_grown node below Bare e)
tree_laid node below (Grown own inside beside) e empty far =
    let rest : without_places beside ≡ Bare = cc in
    let same : own.node ≡ node = cc in
    let none : own.list ≡ None = no_list own.node own.list (ap (λ (n : Node). n.content) same ∙ empty) far.0 in
    record {
      inside = inside;
      is = ap (λ (n : LaidNode). Grown n inside beside) (ap₂ laid_node same none) ∙ ap (Grown (laid_near node) inside) (bare_laid beside rest);
      same = cc;
    }
tree_laid node below (Kept place members beside) e empty far = absurd (no_kept (without_places members) (without_places beside) node below Bare e)

-- what is held has the settings that the records have
settings_there : {D : Type 0} (d : Ghosts D) (records : Records) (disk : D) (saved now : Held) → StandsFor d records disk saved now → now.settings ≡ settings_of records
settings_there d records disk saved now stands = ((stands.holds).behind).settings

-- a document alone has few nodes
pub one_few : (tree : OrderedTree) (trees : List OrderedTree) → trees ≡ tree ∷ [] → IsDocument tree → nodes (forest_of trees) ≤ 524288
one_few tree trees alone document =
    let all : nodes (forest_of trees) ≡ 1 + nodes tree.below + 0 = ap (λ (l : List OrderedTree). nodes (forest_of l)) alone in
    let small : 1 + nodes tree.below ≤ 524288 = document.small in
    omega (arith, all, small)

-- ... all of which are short
pub one_short : (tree : OrderedTree) (trees : List OrderedTree) → trees ≡ tree ∷ [] → IsDocument tree → AreShort (forest_of trees)
one_short tree trees alone document =
    let within = document_within tree document in
    subst (λ (l : List OrderedTree). AreShort (forest_of l)) (sym alone) (within.short, within.all_short, tt)

all_most : (count other laid drawn needs : ℕ) → count ≡ other → laid ≡ drawn → 1 + other + drawn ≤ needs → 1 + count + laid + 0 ≤ needs
all_most count other laid drawn needs one two most = omega (arith, one, two, most)

root_most : (drawn proxies count inside own pages nodes total : ℕ) → drawn + proxies ≡ 2 * (count + 0) + (own + pages + 0) → count ≤ inside → inside ≡ nodes → own + pages ≡ total → 1 + proxies + drawn ≤ 2 * (1 + nodes) + total
root_most drawn proxies count inside own pages nodes total needs few same sum = omega (arith, needs, few, same, sum)

module _ (k : ℕ) (tree : OrderedTree) (parts : List Interval) (most : k ≤ 256) (feasible : IsFeasible k tree parts) where
  abbrev pub cut : IsCut k tree parts
  cut = feasible_drawn k tree parts feasible

  -- the document, as the one member of its root's interval
  abbrev pub root : CutForest
  root = Grown (cut.document).node (cut.document).below Bare

  nodes_are : nodes (forest (cut.document).below) ≡ nodes tree.below
  nodes_are = ap (λ (t : OrderedTree). nodes t.below) cut.tree_is

  pub parts_few : IsDocument tree → length parts < 2 ^ 32
  parts_few document =
      let count : length (parts_of cut.document) ≡ length parts = sym (length_permutation (parts_of cut.document) parts cut.parts_are) in
      let small : 1 + nodes tree.below ≤ 524288 = document.small in
      omega (arith, count, small, length-parts cut.document, cuts_few k (cut.document).below cut.light, nodes_are)

  root_needs : 1 + proxy_count root + drawn_needs root ≤ store_needs tree
  root_needs =
      root_most (drawn_needs root) (proxy_count root) (cuts (cut.document).below) (nodes (forest (cut.document).below)) (content_pages (cut.document).node) (forest_pages (forest (cut.document).below)) (nodes tree.below) (tree_pages tree)
      (needs_cuts root) (cuts_few k (cut.document).below cut.light) nodes_are (ap tree_pages cut.tree_is)

  root_bare : IsDocument tree → (cut.document).node.content ≡ []
  root_bare document = ap (λ (t : OrderedTree). t.node.content) cut.tree_is ∙ document.bare

  pub root_held : (mark : Mark) (marks : List Mark) (trees : List OrderedTree) → ((path : List ℕ) → marked mark path ≡ holder parts path) → marks ≡ mark ∷ [] → trees ≡ tree ∷ [] → AreMembers (holder_by_marks marks) 0 (forest_of (take 1 trees)) root
  root_held mark marks trees holds one alone =
      subst (λ (l : List Mark). AreMembers (holder_by_marks l) 0 (forest_of (take 1 trees)) root) (sym one)
      (subst (λ (l : List OrderedTree). AreMembers (holder_by_marks (mark ∷ [])) 0 (forest_of (take 1 l)) root) (sym alone)
      (root_members k tree parts (holder_by_marks (mark ∷ [])) most feasible cut holds))

  module _ (place : RecordPlace) (layout : Layout) (document : IsDocument tree) (same : without_places layout ≡ root) (far : AreFar (piece_body layout)) where
    laid : IsTreeLaid (cut.document).node (cut.document).below layout
    laid = tree_laid (cut.document).node (cut.document).below layout same (root_bare document) far

    abbrev all : Layout
    all = whole place (cut.document).node laid.inside

    all_is : Kept place layout Bare ≡ all
    all_is = ap (λ (l : Layout). Kept place l Bare) laid.is

    all_contents : contents_of all ≡ contents_of laid.inside
    all_contents = ap lists_of (append-nil (nodes_in laid.inside ++ []) ∙ append-nil (nodes_in laid.inside))

    all_light : AreLaidParts k all
    all_light = (omega arith, tt, root_light, (subst (AreParts k) (sym laid.same) cut.light, tt), tt)
      where
        root_light : weight (cut.document).node + part_weight (without_places laid.inside) + 0 ≤ k
        root_light =
            let light : weight tree.node + part_weight (cut.document).below ≤ k = cut.root_light in
            let node : weight (cut.document).node ≡ weight tree.node = ap (λ (t : OrderedTree). weight t.node) cut.tree_is in
            let inside : part_weight (without_places laid.inside) ≡ part_weight (cut.document).below = ap part_weight laid.same in
            omega (arith, light, node, inside)

    all_needs : laid_needs all ≤ store_needs tree
    all_needs =
        let count : proxy_count layout ≡ proxy_count root = sym (count-without layout) ∙ ap proxy_count same in
        let needs : laid_needs layout ≡ drawn_needs root = sym (needs-without content_pages layout) ∙ ap drawn_needs same in
        let most = root_needs in
        let whole : 1 + proxy_count layout + laid_needs layout + 0 ≤ store_needs tree = all_most (proxy_count layout) (proxy_count root) (laid_needs layout) (drawn_needs root) (store_needs tree) count needs most in
        subst (λ (l : Layout). laid_needs l ≤ store_needs tree) all_is whole

    stored : (was now : Held) → (now.settings).k ≡ k → PutsLayout (Kept place layout Bare) was now → StoresDocument tree parts place was now
    stored was now limit puts = record {
      document = cut.document;
      tree_is = cut.tree_is;
      parts_are = cut.parts_are;
      layout = laid.inside;
      laid = λ pieces. record {
        same = laid.same;
        held = (here.held) pieces light;
        once = here.once;
        light = light;
        is_document = subst IsDocument (sym cut.tree_is) document;
      };
      adds = subst (λ (l : List ℕ). AddsRecords (places_of all) l (store_needs tree) was now) all_contents
          (moves_more [] (places_of all) [] (contents_of all) (laid_needs all) (store_needs tree) was now all_needs here.adds);
      contents_once = subst AreOnce all_contents here.contents_once;
    }
      where
        here : PutsLayout all was now
        here = subst (λ (l : Layout). PutsLayout l was now) all_is puts

        light : AreLaidParts (now.settings).k all
        light = subst (λ (most : ℕ). AreLaidParts most all) (sym limit) all_light

  -- the call that puts the root's record
  module _ {D : Type 0} (d : Ghosts D) (r0 r1 : Records) (x0 x1 : D) (marks : List Mark) (trees : List OrderedTree) (members : AreMembers (holder_by_marks marks) 0 (forest_of (take 1 trees)) root) where
    pub root_one : (r : Result Proxy StoreError) → IfOk r (λ proxy. (c : CutForest) → AreMembers (holder_by_marks marks) 0 (forest_of (take 1 trees)) c → LaysMembers d r0 r1 x0 x1 c proxy) → IfOk r (λ proxy. proxy.roots ≡ 1)
    root_one (Ok proxy) lays = (lays root members).roots
    root_one (Err e) lays = tt

    pub root_stored : (settings_of r0).k ≡ k → IsDocument tree → (r : Result Proxy StoreError) → IfOk r (λ proxy. (c : CutForest) → AreMembers (holder_by_marks marks) 0 (forest_of (take 1 trees)) c → LaysMembers d r0 r1 x0 x1 c proxy)
        → IfOk r (λ proxy. ComesTidy d r0 r1 x0 x1 (λ was now. StoresDocument tree parts (place_named proxy) was now))
    root_stored limit document (Ok proxy) lays = λ saved was stands tidy.
        let all = lays root members in
        let now = (all.laid).puts saved was stands tidy in
        let settings : (now.0).settings ≡ settings_of r0 = ((now.3).adds).settings ∙ settings_there d r0 x0 saved was stands in
        (now.0, now.1, now.2, stored (place_named proxy) all.layout document all.same all.far was now.0 (ap (λ (s : Settings). s.k) settings ∙ limit) now.3)
    root_stored limit document (Err e) lays = tt

    pub root_keeps : (r : Result Proxy StoreError) → IfOk r (λ proxy. (c : CutForest) → AreMembers (holder_by_marks marks) 0 (forest_of (take 1 trees)) c → LaysMembers d r0 r1 x0 x1 c proxy) → IfOk r (λ proxy. HasChanges r1)
        → IfOk r (λ proxy. RunsOn r0 r1 × KeepsSaved d r0 r1 x0 x1 × HasChanges r1)
    root_keeps (Ok proxy) lays changes = (((lays root members).laid).runs, ((lays root members).laid).keeps, changes)
    root_keeps (Err e) lays changes = tt

    pub root_refused : (r : Result Proxy StoreError)
        → IfErr r (λ e. (c : CutForest) → AreMembers (holder_by_marks marks) 0 (forest_of (take 1 trees)) c → NotStored d (λ was. 1 + proxy_count c + drawn_needs c) (λ was. ⊥) 0 e r0 r1 x0 x1)
        → IfErr r (λ e. NotStored d (λ was. store_needs tree) (λ was. ⊥) 0 e r0 r1 x0 x1)
    root_refused (Ok proxy) refused = tt
    root_refused (Err e) refused = needs_fewer d r0 r1 x0 x1 (1 + proxy_count root + drawn_needs root) (store_needs tree) root_needs e (refused root members)
