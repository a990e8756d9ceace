-- What it says that no node weighs more than k.
use Rattle.std.proofs.Common.{◌≡◌, ℕ, ◌+◌, Bool, cond, List, [], ◌∷◌, ◌++◌, Option, None, Some, refl, ap, ◌∙◌}
use Rattle.std.specs.List.{find}
use Rattle.std.specs.Option.{option_or}
use Rattle.std.proofs.lemmas.Bool.{le-ltb}
use Rattle.std.proofs.lemmas.List.Folds.{find-append}
use Rattle.nx_tree.specs.declared.node.Node.{Node}
use Rattle.nx_tree.specs.Forest.{OrderedTree, Forest, Empty, Plant}
use Rattle.nx_weights.specs.Weight.{weight, listed_in, is_heavy, first_heavy, AreAtMost, IsAtMost}

none_listed : (k : ℕ) (path : List ℕ) (position : ℕ) (f : Forest) → AreAtMost k f → find (is_heavy k) (listed_in path position f) ≡ None
none_listed k path position Empty light = refl
none_listed k path position (Plant node below beside) (own, low, side) =
    let here = path ++ position ∷ [] in
    let others = listed_in here 0 below ++ listed_in path (position + 1) beside in
    ap (λ (b : Bool). cond b (Some (here, node)) (find (is_heavy k) others)) (le-ltb k (weight node) own)
    ∙ find-append (is_heavy k) (listed_in here 0 below) (listed_in path (position + 1) beside)
    ∙ ap (λ (o : Option (List ℕ × Node)). option_or o (find (is_heavy k) (listed_in path (position + 1) beside))) (none_listed k here 0 below low)
    ∙ none_listed k path (position + 1) beside side

-- where no node weighs more than k, none is found
pub light_none : (k : ℕ) (tree : OrderedTree) → IsAtMost k tree → first_heavy k tree ≡ None
light_none k tree (own, low) =
    ap (λ (b : Bool). cond b (Some ([], tree.node)) (find (is_heavy k) (listed_in [] 0 tree.below))) (le-ltb k (weight tree.node) own)
    ∙ none_listed k [] 0 tree.below low
