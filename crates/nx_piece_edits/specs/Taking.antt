-- What is left of a node and what is below it, where a tree or a proxy is taken out.
use Rattle.std.specs.Prelude.{◌≡◌, ℕ, List, drop, Option, None, Some}
use Rattle.std.specs.List.{slice_get}
use Rattle.nx_piece.specs.declared.piece.Proxy.{Proxy}
use Rattle.nx_piece.specs.Gapped.{Gapped, GappedTree}
use Rattle.nx_piece.specs.Locate.{Reached, Inside, children_of, reached}
use Rattle.nx_piece_edits.specs.Cutting.{without_tree}

-- where a position and a path lead among trees and gaps, before which so many of the proxies stand
abbrev pub led : List Proxy → ℕ → Gapped → ℕ → ℕ → List ℕ → Reached
led proxies first f used position path = reached proxies used path (slice_get (children_of proxies first f) position)

-- the tree is taken out of these trees and gaps, or the path leads to none
abbrev pub IsTakenOut : List Proxy → ℕ → ℕ → List ℕ → Gapped → Option GappedTree → Gapped → Type 0
IsTakenOut proxies first position path old None new =
    (used : ℕ) (tree : GappedTree) (before : ℕ) → led proxies first old used position path ≡ Inside tree before → ⊥
IsTakenOut proxies first position path old (Some tree) new =
    (before : ℕ) × ((used : ℕ) → led proxies first old used position path ≡ Inside tree before) × (new ≡ without_tree position path old (drop first proxies))
