-- Items pushed onto a flat list: which forest they spell.
use Rattle.std.proofs.Common.{◌≡◌, ℕ, ◌+◌, ◌-◌, Bool, true, false, ◌||◌, List, [], ◌∷◌, ◌++◌, length, drop, slice_get, slice_set, Some, refl, sym, ap, ◌∙◌, subst, arith, append_assoc}
use Rattle.std.proofs.lemmas.List.{length-append, append-nil}
use Rattle.std.proofs.Math.Seq.{take-append_seam, drop-append_seam, set-append_seam}
use Rattle.nx_piece.specs.PieceNode.{PieceNode}
use Rattle.nx_piece.specs.declared.viewing.NodeView.{NodeView}
use Rattle.nx_piece.specs.declared.viewing.Flat.{Flat}
use Rattle.nx_piece.specs.declared.viewing.Flat.TheVariants.{Tree, Run}
use Rattle.nx_piece.specs.declared.reading.Left.{Left}
use Rattle.nx_piece.specs.Gapped.{Gapped, GappedTree, End, Grow, Gap, item_count, gapped_width}
use Rattle.nx_piece.specs.Flat.{seen_node, unflattened, Spells}
use Rattle.nx_piece.specs.Valid.{AreTrees}
use Rattle.nx_piece.specs.Reading.{alone, HasPushed, HasReadItems, HasTakenNode, IsLeft}
use Rattle.nx_piece.proofs.ApartLemmas.{row}
use Rattle.nx_piece.proofs.FlatLemmas.{first_tree}
use Rattle.nx_piece.proofs.ReadLemmas.{ItemsRead, ends_in_gap, no_item_read, tree_read, run_read, whole_tree}
use Rattle.nx_piece.proofs.BodyLemmas.{trees_row}

-- what stands behind each other spells a row
pub spells_row : (a b : List Flat) (f g : Gapped) → Spells a f → Spells b g → Spells (a ++ b) (row f g)
spells_row a b End g h k = subst (λ (l : List Flat). Spells (l ++ b) g) (sym h) k
spells_row a b (Gap c s) g h k = (h.0 ++ b, ap (λ (l : List Flat). l ++ b) h.1, spells_row h.0 b s g h.2 k)
spells_row a b (Grow n d s) g h k = (
  h.0,
  h.1,
  h.2 ++ b,
  ap (λ (l : List Flat). l ++ b) h.3 ∙ ap (λ (l : List Flat). Tree h.0 (length h.1) ∷ l) (append_assoc h.1 h.2 b),
  h.4,
  h.5,
  spells_row h.2 b s g h.6 k,
)

-- a forest is the one that its spelling says
pub spells_forest : (items : List Flat) (f : Gapped) → Spells items f → unflattened items ≡ f
spells_forest items End h = ap unflattened h
spells_forest items (Gap c s) h = ap unflattened h.1 ∙ ap (Gap c) (spells_forest h.0 s h.2)
spells_forest items (Grow n b s) h =
    ap unflattened h.3
    ∙ first_tree h.0 (length h.1) (h.1 ++ h.2)
    ∙ ap (λ (l : List Flat). Grow (seen_node h.0) (unflattened l) (unflattened (drop (length h.1) (h.1 ++ h.2)))) (take-append_seam h.1 h.2)
    ∙ ap (λ (l : List Flat). Grow (seen_node h.0) (unflattened h.1) (unflattened l)) (drop-append_seam h.1 h.2)
    ∙ ap (λ (m : PieceNode). Grow m (unflattened h.1) (unflattened h.2)) h.4
    ∙ ap (λ (g : Gapped). Grow n g (unflattened h.2)) (spells_forest h.1 b h.5)
    ∙ ap (Grow n b) (spells_forest h.2 s h.6)

pub spells_length : (items : List Flat) (f : Gapped) → Spells items f → length items ≡ item_count f
spells_length items End h = ap length h
spells_length items (Gap c s) h = let e = ap length h.1 in let r = spells_length h.0 s h.2 in omega arith
spells_length items (Grow n b s) h =
    let e = ap length h.3 in let a = length-append h.1 h.2 in
    let p = spells_length h.1 b h.5 in let q = spells_length h.2 s h.6 in
    omega arith

pub none_pushed : (old : List Flat) → HasPushed old old End
none_pushed old = record { added = []; same = sym (append-nil old); spells = refl }

pub more_pushed : {old mid new : List Flat} {f g : Gapped} → HasPushed old mid f → HasPushed mid new g → HasPushed old new (row f g)
more_pushed {old} {mid} {new} {f} {g} h k = record {
  added = h.added ++ k.added;
  same = k.same ∙ ap (λ (l : List Flat). l ++ k.added) h.same ∙ append_assoc old h.added k.added;
  spells = spells_row h.added k.added f g h.spells k.spells;
}

pub run_pushed : {old new : List Flat} (count : ℕ) → new ≡ old ++ Run count ∷ [] → HasPushed old new (Gap count End)
run_pushed count is = record { added = Run count ∷ []; same = is; spells = ([], refl, refl) }

pub leaf_pushed : {old new : List Flat} (node : NodeView) → new ≡ old ++ Tree node 0 ∷ [] → HasPushed old new (Grow (seen_node node) End End)
leaf_pushed node is = record { added = Tree node 0 ∷ []; same = is; spells = (node, [], [], refl, refl, refl, refl) }

pub pushed_length : {old new : List Flat} {f : Gapped} → HasPushed old new f → length new ≡ length old + item_count f
pushed_length {old} {new} {f} h = omega (arith, ap length h.same, length-append old h.added, spells_length h.added f h.spells)

-- what is pushed onto nothing is all
pub all_pushed : {old new : List Flat} {f : Gapped} → old ≡ [] → HasPushed old new f → unflattened new ≡ f
all_pushed {old} {new} {f} none h = ap unflattened (h.same ∙ ap (λ (l : List Flat). l ++ h.added) none) ∙ spells_forest h.added f h.spells

-- a node, what stands below it behind it, and then their number in its place
pub tree_pushed : {old begun now new : List Flat} {f : Gapped} (node : NodeView) (place below : ℕ) → begun ≡ old ++ Tree node 0 ∷ [] → HasPushed begun now f → place ≡ length old → below ≡ item_count f → new ≡ slice_set now place (Tree node below)
    → HasPushed old new (Grow (seen_node node) f End)
tree_pushed {old} {begun} {now} {new} {f} node place below begins h at many is =
    let long : below ≡ length h.added = many ∙ sym (spells_length h.added f h.spells) in
    record {
      added = Tree node (length h.added) ∷ h.added;
      same = is
          ∙ ap (λ (l : List Flat). slice_set l place (Tree node below)) (h.same ∙ ap (λ (l : List Flat). l ++ h.added) begins ∙ append_assoc old (Tree node 0 ∷ []) h.added)
          ∙ ap (λ (i : ℕ). slice_set (old ++ Tree node 0 ∷ h.added) i (Tree node below)) at
          ∙ set-append_seam old (Tree node 0) h.added (Tree node below)
          ∙ ap (λ (n : ℕ). old ++ Tree node n ∷ h.added) long;
      spells = (node, h.added, [], ap (λ (l : List Flat). Tree node (length h.added) ∷ l) (sym (append-nil h.added)), refl, h.spells, refl);
    }

get_at_seam : {A : Type 0} (xs : List A) (y : A) (ys : List A) → slice_get (xs ++ y ∷ ys) (length xs) ≡ Some y
get_at_seam [] y ys = refl
get_at_seam (x ∷ xs) y ys = get_at_seam xs y ys

-- behind what was there stands the node still
pub node_stays : (old : List Flat) {begun now : List Flat} {f : Gapped} (node : NodeView) (place : ℕ) → begun ≡ old ++ Tree node 0 ∷ [] → HasPushed begun now f → place ≡ length old → slice_get now place ≡ Some (Tree node 0)
node_stays old node place begins h at =
    ap (λ (l : List Flat). slice_get l place) (h.same ∙ ap (λ (l : List Flat). l ++ h.added) begins ∙ append_assoc old (Tree node 0 ∷ []) h.added)
    ∙ ap (slice_get (old ++ Tree node 0 ∷ h.added)) at
    ∙ get_at_seam old (Tree node 0) h.added

-- what a loop has read and pushed; as roots it is trees alone
pub record ItemsPushed (old new : List Flat) (bytes : List ℕ) (before : Left) (rest : List ℕ) (left : Left) (i : ℕ) (after_run are_roots : Bool) : Type 0 where
  pub forest : Gapped
  pub pushed : HasPushed old new forest
  pub read : ItemsRead bytes before forest rest left i after_run
  pub trees : are_roots ≡ true → AreTrees forest

pub no_item_pushed : (old : List Flat) (bytes : List ℕ) (left : Left) (are_roots : Bool) → ItemsPushed old old bytes left bytes left 0 false are_roots
no_item_pushed old bytes left are_roots = record { forest = End; pushed = none_pushed old; read = no_item_read bytes left; trees = λ _. tt }

-- a tree that is read and pushed
abbrev pub TakesTree : (old new : List Flat) (bytes : List ℕ) (before : Left) (behind : List ℕ) (after : Left) → Type 0
TakesTree old new bytes before behind after = (t : GappedTree) × HasPushed old new (alone t) × HasReadItems bytes before (alone t) behind after

pub tree_item : {old mid new : List Flat} {bytes rest behind : List ℕ} {before between after : Left} {i : ℕ} {after_run are_roots : Bool} → ItemsPushed old mid bytes before rest between i after_run are_roots → TakesTree mid new rest between behind after
    → ItemsPushed old new bytes before behind after (i + 1) false are_roots
tree_item {old} {mid} {new} {bytes} {rest} {behind} {before} {between} {after} {i} {after_run} {are_roots} h k =
    record { forest = row h.forest (alone k.0); pushed = more_pushed h.pushed k.1; read = tree_read h.read k.2; trees = λ e. trees_row h.forest k.0 (h.trees e) }

neither : (a b : Bool) → (a || b) ≡ false → (a ≡ false) × (b ≡ false)
neither true b e = absurd (cc)
neither false b e = (refl, e)

pub run_item : {old mid new : List Flat} {bytes rest behind : List ℕ} {before between after : Left} {count i : ℕ} {after_run are_roots : Bool} → ItemsPushed old mid bytes before rest between i after_run are_roots
    → ((are_roots || after_run) ≡ false) × HasReadItems rest between (Gap count End) behind after → new ≡ mid ++ Run count ∷ [] → ItemsPushed old new bytes before behind after (i + 1) true are_roots
run_item {old} {mid} {new} {bytes} {rest} {behind} {before} {between} {after} {count} {i} {after_run} {are_roots} h k is =
    let none = neither are_roots after_run k.0 in
    record { forest = row h.forest (Gap count End); pushed = more_pushed h.pushed (run_pushed count is); read = run_read h.read (none.1, k.1); trees = λ e. let f = none.0 in absurd (cc) }

-- no more is left behind what is read
pub left_few : {bytes rest : List ℕ} {before left : Left} {f : Gapped} → HasReadItems bytes before f rest left → IsLeft before → IsLeft left
left_few h l = let a = h.room in let b = h.proxies in let r = l.room in let p = l.proxies in record { room = omega arith; proxies = omega arith }

-- the head of a tree and all its items are read and pushed
pub tree_taken : {old begun now new : List Flat} {bytes behind rest : List ℕ} {before between left : Left} {count place below : ℕ} {f : Gapped} (node : NodeView) → HasTakenNode bytes before (seen_node node) count behind between
    → begun ≡ old ++ Tree node 0 ∷ [] → HasPushed begun now f → HasReadItems behind between f rest left → gapped_width f ≡ count → place ≡ length old → below ≡ between.items - left.items → new ≡ slice_set now place (Tree node below)
    → TakesTree old new bytes before rest left
tree_taken {old} {begun} {now} {new} {bytes} {behind} {rest} {before} {between} {left} {count} {place} {below} {f} node head begins pushed read wide at many is =
    let sum = read.items in (
      record { node = seen_node node; below = f },
      tree_pushed node place below begins pushed at (let q : below ≡ item_count f = omega arith in q) is,
      whole_tree {i = gapped_width f} {after_run = ends_in_gap f} head (record { read = read; counted = refl; run = refl }) wide,
    )
