-- A tree of a piece: its node, whose content is held, and then what stands below it.
use Rattle.std.proofs.Common.{◌≡◌, ℕ, ◌+◌, ◌≤◌, List, ◌++◌, sym, ap, ap₂, ◌∙◌, arith, append-nil}
use Rattle.nx_host.specs.declared.disk.Disk.{Ghosts}
use Rattle.nx_host.specs.Still.{IsStill}
use Rattle.nx_tree.specs.declared.node.Node.{Node}
use Rattle.nx_records.specs.declared.records.Records.{Records}
use Rattle.nx_records.specs.declared.error.StoreError.{StoreError}
use Rattle.nx_records.specs.Records.{HasChanges, KeepsSaved, ComesTo}
use Rattle.nx_records.specs.Refusals.{RunsOn, NotStored}
use Rattle.nx_piece.specs.declared.piece.Proxy.{Proxy}
use Rattle.nx_piece.specs.PieceNode.{PieceNode}
use Rattle.nx_piece.specs.Gapped.{Gapped, GappedTree, End, Grow}
use Rattle.nx_piece.specs.Valid.{AreNear, AreFar}
use Rattle.nx_cuts.specs.Cut.{CutForest, Bare, Grown}
use Rattle.nx_layouts.specs.Layout.{Layout, proxies_of}
use Rattle.nx_hold.specs.Contents.{content_pages, IsItemOfNode, IsNodeHeld}
use Rattle.nx_build.specs.Laying.{drawn_needs, HasPutLayout, LaysTrees}
use Rattle.nx_build.proofs.LayingLemmas.{alone, grown_both}
use Rattle.nx_build.proofs.CallLemmas.{laid_node, laid_both, laid_refused}
use Rattle.nx_build.proofs.StepLemmas.{needs_fewer}

below_most : (own more : ℕ) → own + 0 + 0 + more ≤ own + more
below_most own more = omega arith

own_most : (own more : ℕ) → own ≤ own + more
own_most own more = omega arith

-- the node was not held
pub node_refused : {D : Type 0} (d : Ghosts D) (r0 r1 : Records) (x0 x1 : D) (node : Node) (drawn : CutForest) (e : StoreError) → NotStored d (λ was. content_pages node) (λ was. ⊥) 0 e r0 r1 x0 x1
    → NotStored d (λ was. content_pages node + drawn_needs drawn) (λ was. ⊥) 0 e r0 r1 x0 x1
node_refused d r0 r1 x0 x1 node drawn e refused = needs_fewer d r0 r1 x0 x1 (content_pages node) (content_pages node + drawn_needs drawn) (own_most (content_pages node) (drawn_needs drawn)) e refused

module _ {D : Type 0} {d : Ghosts D} {r0 r1 : Records} {x0 x1 : D} (node : Node) where
  module _ (made : GappedTree) (item : IsItemOfNode node made.node) (comes : ComesTo d r0 r1 x0 x1 (λ was now. IsNodeHeld node made.node was now))
      (keeps : RunsOn r0 r1 × KeepsSaved d r0 r1 x0 x1 × (HasChanges r0 → HasChanges r1)) (still : IsStill d x0 x1) where
    node_laid : HasPutLayout d r0 r1 x0 x1 (alone node item.0)
    node_laid = laid_node node made.node item.0 item.1 keeps.0 keeps.1 still comes

    -- ... or what stands below it was not laid out
    pub below_refused : (r2 : Records) (x2 : D) (drawn : CutForest) (e : StoreError) → NotStored d (λ was. drawn_needs drawn) (λ was. ⊥) 0 e r1 r2 x1 x2 → NotStored d (λ was. content_pages node + drawn_needs drawn) (λ was. ⊥) 0 e r0 r2 x0 x2
    below_refused r2 x2 drawn e refused =
        laid_refused (alone node item.0) r2 x2 (drawn_needs drawn) (content_pages node + drawn_needs drawn) node_laid (below_most (content_pages node) (drawn_needs drawn)) e refused

    pub tree_lays : {r2 : Records} {x2 : D} (drawn : CutForest) (children : Gapped) (had has : List Proxy) → AreNear (Grow made.node made.below End) × AreFar (Grow made.node made.below End) → LaysTrees d r1 r2 x1 x2 drawn children had has
        → LaysTrees d r0 r2 x0 x2 (Grown node drawn Bare) (Grow made.node children End) had has
    tree_lays drawn children had has stored lays = record {
      layout = Grown (record { node = node; list = item.0 }) lays.layout Bare;
      same = ap (λ (c : CutForest). Grown node c Bare) lays.same;
      body_is = ap₂ (λ (n : PieceNode) (g : Gapped). Grow n g End) item.1 lays.body_is;
      near = ((stored.0).0, lays.near, tt);
      far = ((stored.1).0, lays.far, tt);
      proxies_are = lays.proxies_are ∙ ap (λ (l : List Proxy). had ++ l) (sym (append-nil (proxies_of lays.layout)));
      laid = laid_both (grown_both (record { node = node; list = item.0 }) lays.layout) node_laid lays.laid;
    }
