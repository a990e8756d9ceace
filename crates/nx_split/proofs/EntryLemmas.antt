-- The separator doesn't hang on entries.
use Rattle.std.proofs.Common.{◌≡◌, ℕ, ◌+◌, ◌*◌, ◌/◌, if◌then◌else◌, List, [], ◌∷◌, ◌++◌, Option, None, map, refl, sym, ap, ◌∙◌}
use Rattle.std.specs.Prelude.{sum, nat_le, nat_lt, ◌&&◌}
use Rattle.std.specs.List.{sum_by}
use Rattle.std.proofs.lemmas.List.{map-append}
use Rattle.std.proofs.lemmas.List.Sums.{sum-map}
use Rattle.std.proofs.lemmas.Simd.{map-map}
use Rattle.nx_tree.specs.declared.node.Node.{Node}
use Rattle.nx_matrix.specs.declared.rule.Entry.{Entry}
use Rattle.nx_matrix.specs.declared.rule.Entry.TheVariants.{Free}
use Rattle.nx_matrix.specs.declared.rule.Rule.{Rule}
use Rattle.nx_piece.specs.PieceNode.{node_weight}
use Rattle.nx_piece.specs.declared.piece.Piece.{Piece}
use Rattle.nx_piece.specs.declared.piece.Proxy.{Proxy}
use Rattle.nx_piece.specs.Gapped.{Gapped, End, Grow, Gap, proxies_in}
use Rattle.nx_sketch.specs.Sketch.{Placed, placed_in}
use Rattle.nx_sketch.specs.Plan.{is_prefix}
use Rattle.nx_sketch.specs.Separator.{is_before, weight_before, weight_within, is_marked, marks, point}
use Rattle.nx_split.specs.Piece.{asked, asked_of_root, positions, sketch_in, placed_of}

-- the node without its entry
abbrev pub bare : Placed → Placed
bare node = record { path = node.path; weight = node.weight; entry = Free }

sum_by-map : {A B : Type 0} (f : B → ℕ) (g : A → B) (xs : List A) → sum_by f (map g xs) ≡ sum_by (λ x. f (g x)) xs
sum_by-map f g xs = sym (sum-map f (map g xs)) ∙ ap sum (map-map f g xs) ∙ sum-map (λ x. f (g x)) xs

before-bare : (nodes : List Placed) (path : List ℕ) → weight_before (map bare nodes) path ≡ weight_before nodes path
before-bare nodes path = sum_by-map (λ node. if is_before node.path path then node.weight else 0) bare nodes

within-bare : (nodes : List Placed) (path : List ℕ) → weight_within (map bare nodes) path ≡ weight_within nodes path
within-bare nodes path = sum_by-map (λ node. if is_prefix path node.path then node.weight else 0) bare nodes

point-bare : (nodes : List Placed) (target : ℕ) → point (map bare nodes) target ≡ point nodes target
point-bare nodes target = ap (λ n. n * target / 100) (sum_by-map (λ node. node.weight) bare nodes)

marked-bare : (nodes : List Placed) (t tolerance : ℕ) (path : List ℕ) → is_marked (map bare nodes) t tolerance path ≡ is_marked nodes t tolerance path
marked-bare nodes t tolerance path =
    λ i. nat_le (before-bare nodes path i) t && nat_lt t (before-bare nodes path i + within-bare nodes path i) && nat_lt tolerance (within-bare nodes path i)

marks-bare : (nodes : List Placed) (t tolerance : ℕ) → marks (map bare nodes) t tolerance ≡ marks nodes t tolerance
marks-bare nodes t tolerance =
    map-map (λ node. is_marked (map bare nodes) t tolerance node.path) bare nodes ∙ (λ i. map (λ node. marked-bare nodes t tolerance node.path i) nodes)

-- the nodes of a piece without their entries are those with no rules
bare-placed : (rules : List Rule) (proxies : List Proxy) (asks : Node → Entry) (first position : ℕ) (f : Gapped) (path : List ℕ) → map bare (placed_in path (sketch_in rules proxies asks first position f)) ≡ placed_in path (sketch_in [] proxies (λ _. Free) first position f)
bare-placed rules proxies asks first position End path = refl
bare-placed rules proxies asks first position (Grow n b s) path =
    let here = path ++ position ∷ [] in
    let own : Placed = record { path = here; weight = node_weight n; entry = Free } in
    let inner = placed_in here (sketch_in rules proxies (asked rules n.node) first 0 b) in
    let others = placed_in path (sketch_in rules proxies asks (first + proxies_in b) (position + 1) s) in
    ap (λ l. own ∷ l) (map-append bare inner others
    ∙ (λ i. bare-placed rules proxies (asked rules n.node) first 0 b here i ++ bare-placed rules proxies asks (first + proxies_in b) (position + 1) s path i))
bare-placed rules proxies asks first position (Gap c s) path = bare-placed rules proxies asks (first + c) (position + positions proxies first c) s path

bare-piece : (rules : List Rule) (above : Option Node) (piece : Piece) → map bare (placed_of rules above piece) ≡ placed_of [] None piece
bare-piece rules above piece = bare-placed rules piece.proxies (asked_of_root rules above) 0 0 piece.body.roots []

-- whatever the rules say, the marks are those with no rules
pub marks_alike : (rules : List Rule) (above : Option Node) (piece : Piece) (target tolerance : ℕ) → marks (placed_of [] None piece) (point (placed_of [] None piece) target) tolerance ≡ marks (placed_of rules above piece) (point (placed_of rules above piece) target) tolerance
marks_alike rules above piece target tolerance =
    let nodes = placed_of rules above piece in
    (λ i. marks (sym (bare-piece rules above piece) i) (point (sym (bare-piece rules above piece) i) target) tolerance)
    ∙ marks-bare nodes (point (map bare nodes) target) tolerance
    ∙ ap (λ t. marks nodes t tolerance) (point-bare nodes target)
