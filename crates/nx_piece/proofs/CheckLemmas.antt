-- Items that are checked one after another, and what they weigh.
use Rattle.std.proofs.Common.{◌≡◌, ℕ, ◌+◌, ◌*◌, ◌<◌, ◌≤◌, Bool, true, false, ◌||◌, List, length, refl, sym, ap, ◌∙◌, arith}
use Rattle.std.specs.Bool.{MatchBool}
use Rattle.nx_piece.specs.declared.piece.Proxy.{Proxy}
use Rattle.nx_piece.specs.Encoding.{proxies_bytes}
use Rattle.nx_piece.specs.declared.reading.Left.{Left}
use Rattle.nx_piece.specs.PieceNode.{PieceNode, node_weight}
use Rattle.nx_piece.specs.Gapped.{Gapped, GappedTree, End, Grow, Gap, gapped_width, gapped_size, gapped_weight}
use Rattle.nx_piece.specs.Valid.{AreTrees, HaveRoots, HaveNumbers}
use Rattle.nx_piece.specs.Reading.{alone, HasReadItems, HasTakenNode, AreNoProxies}
use Rattle.nx_piece.proofs.ApartLemmas.{row}
use Rattle.nx_piece.proofs.BodyLemmas.{trees_row, ProxiesSeen, proxies_seen}
use Rattle.nx_piece.proofs.ReadLemmas.{ItemsRead, ends_in_gap, no_item_read, tree_read, run_read, whole_tree, lone_node}
use Rattle.nx_piece.proofs.SizeLemmas.{weight_within}

row_weight : (f g : Gapped) → gapped_weight (row f g) ≡ gapped_weight f + gapped_weight g
row_weight End g = omega arith
row_weight (Grow n b s) g = let h = row_weight s g in omega (arith, h)
row_weight (Gap c s) g = row_weight s g

-- what a loop has checked; as roots it is trees alone
pub record ItemsChecked (bytes : List ℕ) (before : Left) (rest : List ℕ) (left : Left) (i : ℕ) (after_run are_roots : Bool) (weight : ℕ) : Type 0 where
  pub forest : Gapped
  pub read : ItemsRead bytes before forest rest left i after_run
  pub trees : are_roots ≡ true → AreTrees forest
  pub weighs : weight ≡ gapped_weight forest

pub no_item_checked : (bytes : List ℕ) (left : Left) (are_roots : Bool) → ItemsChecked bytes left bytes left 0 false are_roots 0
no_item_checked bytes left are_roots = record { forest = End; read = no_item_read bytes left; trees = λ _. tt; weighs = refl }

pub tree_checked : {bytes rest behind : List ℕ} {before between after : Left} {i weight own : ℕ} {after_run are_roots : Bool} → ItemsChecked bytes before rest between i after_run are_roots weight
    → (t : GappedTree) × HasReadItems rest between (alone t) behind after × (own ≡ gapped_weight (alone t)) → ItemsChecked bytes before behind after (i + 1) false are_roots (weight + own)
tree_checked h k = record {
  forest = row h.forest (alone k.0);
  read = tree_read h.read k.1;
  trees = λ e. trees_row h.forest k.0 (h.trees e);
  weighs = let a = h.weighs in let b = k.2 in let c = row_weight h.forest (alone k.0) in omega arith;
}

neither : (a b : Bool) → (a || b) ≡ false → (a ≡ false) × (b ≡ false)
neither true b e = absurd (cc)
neither false b e = (refl, e)

pub run_checked : {bytes rest behind : List ℕ} {before between after : Left} {count i weight : ℕ} {after_run are_roots : Bool} → ItemsChecked bytes before rest between i after_run are_roots weight
    → ((are_roots || after_run) ≡ false) × HasReadItems rest between (Gap count End) behind after → ItemsChecked bytes before behind after (i + 1) true are_roots weight
run_checked {count = count} {after_run = after_run} {are_roots = are_roots} h k =
    let none = neither are_roots after_run k.0 in
    record {
      forest = row h.forest (Gap count End);
      read = run_read h.read (none.1, k.1);
      trees = λ e. let f = none.0 in absurd (cc);
      weighs = let a = h.weighs in let c = row_weight h.forest (Gap count End) in omega arith;
    }

-- a head and all its items
pub tree_whole : {bytes behind rest : List ℕ} {before between left : Left} {count own below : ℕ} {node : PieceNode} {f : Gapped} → HasTakenNode bytes before node count behind between → HasReadItems behind between f rest left → gapped_width f ≡ count
    → own ≡ node_weight node → below ≡ gapped_weight f → (t : GappedTree) × HasReadItems bytes before (alone t) rest left × (own + below ≡ gapped_weight (alone t))
tree_whole {node = node} {f = f} head read wide own below = (
  record { node = node; below = f },
  whole_tree {i = gapped_width f} {after_run = ends_in_gap f} head (record { read = read; counted = refl; run = refl }) wide,
  omega arith,
)

pub leaf_whole : {bytes behind : List ℕ} {before left : Left} {count own : ℕ} {node : PieceNode} → HasTakenNode bytes before node count behind left → count ≡ 0 → own ≡ node_weight node
    → (t : GappedTree) × HasReadItems bytes before (alone t) behind left × (own ≡ gapped_weight (alone t))
leaf_whole {node = node} head none own = (record { node = node; below = End }, lone_node head none, omega arith)

-- no more is weighed than slots are taken
pub few_weighed : {bytes rest : List ℕ} {before left : Left} {f : Gapped} → HasReadItems bytes before f rest left → gapped_weight f + left.room ≤ before.room
few_weighed {f = f} h = let a = h.room in let b = weight_within f h.far in omega arith

-- what is told of so many proxies
pub proxies_told : (fit : Bool) {bytes rest : List ℕ} (count : ℕ) (seen : List Proxy) → ProxiesSeen bytes seen rest fit → length bytes ≡ 8 * count → length rest < 8
    → MatchBool fit ((proxies : List Proxy) × (bytes ≡ proxies_bytes proxies) × HaveRoots proxies × (length proxies ≡ count) × HaveNumbers proxies) (AreNoProxies bytes count)
proxies_told true count seen h long short = let told = proxies_seen h refl long short in (seen, told.0, told.1, told.2, told.3)
proxies_told false count seen h long short = λ ps n ranged is. h.none refl ps ranged is
