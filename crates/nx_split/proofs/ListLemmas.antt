-- The list of a piece's nodes, as a walk over it makes it.
use Rattle.std.proofs.Common.{◌≡◌, ℕ, ◌+◌, ◌-◌, ◌<◌, ◌≤◌, ◌^◌, List, [], ◌∷◌, ◌++◌, length, sym, ap, ◌∙◌, arith, append_assoc, slice_set}
use Rattle.std.proofs.lemmas.List.{append-nil, length-append}
use Rattle.std.proofs.Math.Seq.{set-append_seam}
use Rattle.nx_tree.specs.declared.node.Node.{Node}
use Rattle.nx_matrix.specs.declared.rule.Entry.{Entry}
use Rattle.nx_matrix.specs.declared.rule.Rule.{Rule}
use Rattle.nx_piece.specs.PieceNode.{node_weight}
use Rattle.nx_piece.specs.declared.piece.Proxy.{Proxy}
use Rattle.nx_piece.specs.Gapped.{Gapped, GappedTree, End, Grow, Gap, gapped_weight, proxies_in}
use Rattle.nx_sketch.specs.declared.spot.Spot.{Spot}
use Rattle.nx_sketch.specs.Sketch.{spot_count, sketch_weight, spots_of}
use Rattle.nx_division.proofs.SpotLemmas.{length-spots}
use Rattle.nx_split.specs.Piece.{asked, positions, sketch_in, tree_sketch}
use Rattle.nx_split.proofs.SketchLemmas.{sketch_weight-sketch}

-- the nodes so far, with those of the trees and gaps that are left, are all of them
pub record IsListed (rules : List Rule) (proxies : List Proxy) (asks : Node → Entry) (before next : ℕ) (rest : Gapped) (now all : List Spot) : Type 0 where
  pub same : now ++ spots_of (sketch_in rules proxies asks before next rest) ≡ all

pub none_listed : {rules : List Rule} {proxies : List Proxy} {asks : Node → Entry} {before next : ℕ} {rest f : Gapped} {now start : List Spot} → rest ≡ f → now ≡ start
    → IsListed rules proxies asks before next rest now (start ++ spots_of (sketch_in rules proxies asks before next f))
none_listed {rules} {proxies} {asks} {before} {next} {rest} {f} {now} {start} e is = record { same = λ i. is i ++ spots_of (sketch_in rules proxies asks before next (e i)) }

pub tree_listed : {rules : List Rule} {proxies : List Proxy} {asks : Node → Entry} {before next : ℕ} {rest beside : Gapped} {now all : List Spot} (t : GappedTree) (more : List Spot) → IsListed rules proxies asks before next rest now all → rest ≡ Grow t.node t.below beside
    → more ≡ now ++ spots_of (tree_sketch rules proxies (asks t.node.node) before next t) → IsListed rules proxies asks (before + proxies_in t.below) (next + 1) beside more all
tree_listed {rules} {proxies} {asks} {before} {next} {rest} {beside} {now} {all} t more h e is =
    let inner = sketch_in rules proxies (asked rules t.node.node) before 0 t.below in
    let others = spots_of (sketch_in rules proxies asks (before + proxies_in t.below) (next + 1) beside) in
    let own : Spot = record { position = next; weight = node_weight t.node; within = node_weight t.node + sketch_weight inner; entry = asks t.node.node; below = spot_count inner } in
    record {
      same = ap (λ l. l ++ others) is
          ∙ append_assoc now (own ∷ spots_of inner ++ []) others
          ∙ ap (λ l. now ++ (own ∷ l ++ others)) (append-nil (spots_of inner))
          ∙ sym (ap (λ f. now ++ spots_of (sketch_in rules proxies asks before next f)) e)
          ∙ h.same;
    }

pub gap_listed : {rules : List Rule} {proxies : List Proxy} {asks : Node → Entry} {before next : ℕ} {rest beside : Gapped} {now all : List Spot} (count : ℕ) → IsListed rules proxies asks before next rest now all → rest ≡ Gap count beside
    → IsListed rules proxies asks (before + count) (next + positions proxies before count) beside now all
gap_listed {rules} {proxies} {asks} {before} {next} {rest} {beside} {now} {all} count h e =
    record { same = sym (ap (λ f. now ++ spots_of (sketch_in rules proxies asks before next f)) e) ∙ h.same }

pub all_listed : {rules : List Rule} {proxies : List Proxy} {asks : Node → Entry} {before next : ℕ} {rest : Gapped} {now all : List Spot} → IsListed rules proxies asks before next rest now all → rest ≡ End → now ≡ all
all_listed {rules} {proxies} {asks} {before} {next} {rest} {now} {all} h e =
    sym (append-nil now) ∙ sym (ap (λ f. now ++ spots_of (sketch_in rules proxies asks before next f)) e) ∙ h.same

-- there are no more nodes than they weigh
nodes_most : (rules : List Rule) (proxies : List Proxy) (asks : Node → Entry) (first position : ℕ) (f : Gapped) → spot_count (sketch_in rules proxies asks first position f) ≤ gapped_weight f
nodes_most rules proxies asks first position End = omega arith
nodes_most rules proxies asks first position (Grow n b s) =
    omega (arith, nodes_most rules proxies (asked rules n.node) first 0 b, nodes_most rules proxies asks (first + proxies_in b) (position + 1) s)
nodes_most rules proxies asks first position (Gap c s) = nodes_most rules proxies asks (first + c) (position + positions proxies first c) s

-- a tree's root is listed behind the nodes before it, not told yet what stands below it, and so are all nodes below it
pub record AreListed (rules : List Rule) (proxies : List Proxy) (first : ℕ) (t : GappedTree) (old : List Spot) (own : Spot) (now : List Spot) : Type 0 where
  pub same : now ≡ (old ++ own ∷ []) ++ spots_of (sketch_in rules proxies (asked rules t.node.node) first 0 t.below)

pub are_listed : {rules : List Rule} {proxies : List Proxy} {first before next : ℕ} {t : GappedTree} {rest : Gapped} {old start now : List Spot} {own : Spot} → start ≡ old ++ own ∷ []
    → IsListed rules proxies (asked rules t.node.node) before next rest now (start ++ spots_of (sketch_in rules proxies (asked rules t.node.node) first 0 t.below)) → rest ≡ End → AreListed rules proxies first t old own now
are_listed {rules} {proxies} {first} {before} {next} {t} {rest} {old} {start} {now} {own} is h e =
    record { same = all_listed h e ∙ ap (λ l. l ++ spots_of (sketch_in rules proxies (asked rules t.node.node) first 0 t.below)) is }

listed_length : {rules : List Rule} {proxies : List Proxy} {first : ℕ} {old now : List Spot} {own : Spot} (t : GappedTree) → AreListed rules proxies first t old own now → length now ≡ length old + 1 + spot_count (sketch_in rules proxies (asked rules t.node.node) first 0 t.below)
listed_length {rules} {proxies} {first} {old} {now} {own} t h =
    let inner = sketch_in rules proxies (asked rules t.node.node) first 0 t.below in
    omega (arith, ap length h.same, length-append (old ++ own ∷ []) (spots_of inner), length-append old (own ∷ []), length-spots inner)

pub listed_few : {rules : List Rule} {proxies : List Proxy} {first : ℕ} {old now : List Spot} {own : Spot} (t : GappedTree) → AreListed rules proxies first t old own now → node_weight t.node + gapped_weight t.below ≤ 67108864
    → (length old < length now) × (length now - length old - 1 < 2 ^ 32)
listed_few {rules} {proxies} {first} {old} {now} {own} t h light =
    let l = listed_length t h in
    let m = nodes_most rules proxies (asked rules t.node.node) first 0 t.below in
    (omega arith, omega arith)

-- a tree's root, told what it weighs with all nodes below it, and how many these are
pub record IsTold (t : GappedTree) (now : List Spot) (place : ℕ) (root : Spot) : Type 0 where
  pub weight_is : root.weight ≡ node_weight t.node
  pub within_is : root.within ≡ node_weight t.node + gapped_weight t.below
  pub below_is : root.below ≡ length now - place - 1

-- put into its place, it makes the list that of the tree
pub told : {rules : List Rule} {proxies : List Proxy} {first : ℕ} {old now : List Spot} {own : Spot} (t : GappedTree) (place : ℕ) (root : Spot) → AreListed rules proxies first t old own now → place ≡ length old → IsTold t now place root
    → slice_set now place root ≡ old ++ spots_of (tree_sketch rules proxies root.entry first root.position t)
told {rules} {proxies} {first} {old} {now} {own} t place root h at is =
    let inner = sketch_in rules proxies (asked rules t.node.node) first 0 t.below in
    let l = listed_length t h in
    let b = is.below_is in
    let w = is.within_is in
    let below_is : root.below ≡ spot_count inner = omega arith in
    let within_is : root.within ≡ node_weight t.node + sketch_weight inner = omega (arith, sketch_weight-sketch rules proxies (asked rules t.node.node) first 0 t.below) in
    ap (λ n. slice_set now n root) at
    ∙ ap (λ xs. slice_set xs (length old) root) (h.same ∙ append_assoc old (own ∷ []) (spots_of inner))
    ∙ set-append_seam old own (spots_of inner) root
    ∙ (λ i. old ++ record { position = root.position; weight = is.weight_is i; within = within_is i; entry = root.entry; below = below_is i } ∷ sym (append-nil (spots_of inner)) i)
