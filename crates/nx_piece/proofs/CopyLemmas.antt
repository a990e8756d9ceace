-- Items copied one after another.
use Rattle.std.proofs.Common.{◌≡◌, ℕ, suc, ◌≤◌, List, [], ◌∷◌, ◌++◌, refl, sym, ap, ◌∙◌, arith}
use Rattle.nx_piece.specs.declared.piece.Item.{Item}
use Rattle.nx_piece.specs.declared.piece.Item.TheVariants.{Tree, Run}
use Rattle.nx_piece.specs.Gapped.{Gapped, GappedTree, Grow, Gap, item_count, grown_of}
use Rattle.nx_piece.specs.Items.{gapped_of}
use Rattle.nx_piece.proofs.ApartLemmas.{row}
use Rattle.nx_piece.proofs.ReadLemmas.{row_item_count}

gapped_row : (items : List Item) (item : Item) (rest : Gapped) → row (gapped_of (items ++ item ∷ [])) rest ≡ row (gapped_of items) (row (gapped_of (item ∷ [])) rest)
gapped_row [] (Tree t) rest = refl
gapped_row [] (Run count) rest = refl
gapped_row (Tree t ∷ items) item rest = ap (Grow t.node t.below) (gapped_row items item rest)
gapped_row (Run count ∷ items) item rest = ap (Gap count) (gapped_row items item rest)

grown_row : (trees : List GappedTree) (t : GappedTree) (rest : Gapped) → row (grown_of (trees ++ t ∷ [])) rest ≡ row (grown_of trees) (Grow t.node t.below rest)
grown_row [] t rest = refl
grown_row (x ∷ trees) t rest = ap (Grow x.node x.below) (grown_row trees t rest)

pub tree_copied : {more : List Item} {all rest beside : Gapped} {t u : GappedTree} (items : List Item) → row (gapped_of items) rest ≡ all → rest ≡ Grow t.node t.below beside → u ≡ t → more ≡ items ++ Tree u ∷ [] → row (gapped_of more) beside ≡ all
tree_copied {more} {all} {rest} {beside} {t} {u} items h e same is =
    ap (λ (l : List Item). row (gapped_of l) beside) is
    ∙ gapped_row items (Tree u) beside
    ∙ ap (λ (x : GappedTree). row (gapped_of items) (Grow x.node x.below beside)) same
    ∙ ap (row (gapped_of items)) (sym e) ∙ h

pub run_copied : {more : List Item} {all rest beside : Gapped} {count : ℕ} (items : List Item) → row (gapped_of items) rest ≡ all → rest ≡ Gap count beside → more ≡ items ++ Run count ∷ [] → row (gapped_of more) beside ≡ all
run_copied {more} {all} {rest} {beside} {count} items h e is =
    ap (λ (l : List Item). row (gapped_of l) beside) is
    ∙ gapped_row items (Run count) beside
    ∙ ap (row (gapped_of items)) (sym e) ∙ h

pub root_copied : {more : List GappedTree} {all rest beside : Gapped} {t u : GappedTree} (trees : List GappedTree) → row (grown_of trees) rest ≡ all → rest ≡ Grow t.node t.below beside → u ≡ t → more ≡ trees ++ u ∷ [] → row (grown_of more) beside ≡ all
root_copied {more} {all} {rest} {beside} {t} {u} trees h e same is =
    ap (λ (l : List GappedTree). row (grown_of l) beside) is
    ∙ grown_row trees u beside
    ∙ ap (λ (x : GappedTree). row (grown_of trees) (Grow x.node x.below beside)) same
    ∙ ap (row (grown_of trees)) (sym e) ∙ h

-- a tree among the items has fewer than all of them
pub child_falls : {all rest beside : Gapped} {t : GappedTree} (f : Gapped) → row f rest ≡ all → rest ≡ Grow t.node t.below beside → suc (item_count t.below) ≤ item_count all
child_falls {all} {rest} {beside} {t} f h e =
    let a = ap item_count h in let b = row_item_count f rest in let c = ap item_count e in omega arith
