-- What marks tell of the next trees.
use Rattle.std.proofs.Common.{◌≡◌, ℕ, suc, ◌+◌, ◌≤◌, ◌<◌, List, [], ◌∷◌, length, take, drop, length-drop, Option, None, Some, inl, inr, refl, sym, ap, ◌∙◌, arith}
use Rattle.nx_tree.specs.declared.node.Node.{Node}
use Rattle.nx_tree.specs.Forest.{OrderedTree, Forest, Empty, Plant, forest_of}
use Rattle.nx_cuts.specs.Cut.{CutForest, Bare, Grown, Kept, joined, forest, width, AreFree, AreParts}
use Rattle.nx_cuts.proofs.FeasibleLemmas.{le_or}
use Rattle.nx_hold.proofs.PieceLemmas.{some_same, no_value}
use Rattle.nx_build.specs.Marked.{BeginsOther, AgreesWithHolder, IsMarked, AreMembers}

planted_none : (node : Node) (below beside : Forest) → Plant node below beside ≡ Empty → ⊥
planted_none node below beside e = cc

other_same : (index : ℕ) (g h : List ℕ → Option ℕ) (position : ℕ) (c : CutForest) → ((p : ℕ) (path : List ℕ) → g (p ∷ path) ≡ h (p ∷ path)) → BeginsOther index g position c → BeginsOther index h position c
other_same index g h position Bare same a = tt
other_same index g h position (Grown node below beside) same a = λ held. a (same position [] ∙ held)
other_same index g h position (Kept mark members beside) same a = λ held. a (same position [] ∙ held)

-- what holds the nodes below may be told otherwise
pub agrees_same : (own : Option ℕ) (g h : List ℕ → Option ℕ) (position : ℕ) (c : CutForest) → ((p : ℕ) (path : List ℕ) → g (p ∷ path) ≡ h (p ∷ path)) → AgreesWithHolder own g position c → AgreesWithHolder own h position c
agrees_same own g h position Bare same a = tt
agrees_same own g h position (Grown node below beside) same a = (
  sym (same position []) ∙ a.0,
  agrees_same None (λ path. g (position ∷ path)) (λ path. h (position ∷ path)) 0 below (λ p path. same position (p ∷ path)) a.1,
  agrees_same own g h (position + 1) beside same a.2,
)
agrees_same own g h position (Kept mark members beside) same a = (
  a.0,
  other_same a.0 g h (position + width members) beside same a.1,
  agrees_same (Some a.0) g h position members same a.2,
  agrees_same own g h (position + width members) beside same a.3,
)

pub marked_same : (own : Option ℕ) (g h : List ℕ → Option ℕ) (position : ℕ) (trees others : Forest) (c : CutForest) → ((p : ℕ) (path : List ℕ) → g (p ∷ path) ≡ h (p ∷ path)) → trees ≡ others → IsMarked own g position trees c → IsMarked own h position others c
marked_same own g h position trees others c same are m = record { trees_are = m.trees_are ∙ are; light = m.light; agrees = agrees_same own g h position c same m.agrees }

-- a member is held by its interval
pub member_held : (index : ℕ) (h : List ℕ → Option ℕ) (position : ℕ) (m : CutForest) (j : ℕ) → AreFree m → AgreesWithHolder (Some index) h position m → position ≤ j → j < position + width m → h (j ∷ []) ≡ Some index
member_held index h position Bare j free a low high = absurd (omega (arith, low, high))
member_held index h position (Grown node below beside) j free a low high =
    elim (le_or position j) [
      | inl less ↦ member_held index h (position + 1) beside j free a.2 (omega (arith, less)) (omega (arith, high))
      | inr more ↦ let same : j ≡ position = omega (arith, low, more) in ap (λ (i : ℕ). h (i ∷ [])) same ∙ a.0
    ]
member_held index h position (Kept mark members beside) j free a low high = absurd free

-- The first of some trees, which is in no interval, and the others.
pub record BeginsGrown (own : Option ℕ) (holder : List ℕ → Option ℕ) (position : ℕ) (tree : OrderedTree) (others : Forest) (drawn : CutForest) : Type 0 where
  pub below : CutForest
  pub beside : CutForest
  pub is : drawn ≡ Grown tree.node below beside
  pub inside : IsMarked None (λ path. holder (position ∷ path)) 0 tree.below below
  pub along : IsMarked own holder (position + 1) others beside

-- no interval is the first
abbrev pub BeginsFree : CutForest → Type 0
BeginsFree Bare = Unit {0}
BeginsFree (Grown node below beside) = Unit {0}
BeginsFree (Kept mark members beside) = ⊥

pub free_begins : (c : CutForest) → AreFree c → BeginsFree c
free_begins Bare free = tt
free_begins (Grown node below beside) free = tt
free_begins (Kept mark members beside) free = free

-- where nothing holds the first tree, it is in no interval
pub none_begins : (h : List ℕ → Option ℕ) (position : ℕ) (c : CutForest) → AreParts 256 c → AgreesWithHolder None h position c → h (position ∷ []) ≡ None → BeginsFree c
none_begins h position Bare parts a none = tt
none_begins h position (Grown node below beside) parts a none = tt
none_begins h position (Kept mark members beside) parts a none =
    let some : 1 ≤ width members = parts.0 in
    no_value (sym (member_held a.0 h position members position parts.1 a.2 (omega arith) (omega (arith, some))) ∙ none)

node_same : (a b : Node) (c d e f : Forest) → Plant a c e ≡ Plant b d f → a ≡ b
node_same a b c d e f h = cc

below_same : (a b : Node) (c d e f : Forest) → Plant a c e ≡ Plant b d f → c ≡ d
below_same a b c d e f h = cc

beside_same : (a b : Node) (c d e f : Forest) → Plant a c e ≡ Plant b d f → e ≡ f
beside_same a b c d e f h = cc

empty_planted : (node : Node) (below beside : Forest) → Empty ≡ Plant node below beside → ⊥
empty_planted node below beside e = cc

pub begins_grown : (own : Option ℕ) (h : List ℕ → Option ℕ) (position : ℕ) (t : OrderedTree) (others : Forest) (c : CutForest) → BeginsFree c → IsMarked own h position (Plant t.node t.below others) c → BeginsGrown own h position t others c
begins_grown own h position t others Bare free m = absurd (empty_planted t.node t.below others m.trees_are)
begins_grown own h position t others (Grown node below beside) free m = record {
  below = below;
  beside = beside;
  is = ap (λ (n : Node). Grown n below beside) (node_same node t.node (forest below) t.below (forest beside) others m.trees_are);
  inside = record { trees_are = below_same node t.node (forest below) t.below (forest beside) others m.trees_are; light = (m.light).0; agrees = (m.agrees).1 };
  along = record { trees_are = beside_same node t.node (forest below) t.below (forest beside) others m.trees_are; light = (m.light).1; agrees = (m.agrees).2 };
}
begins_grown own h position t others (Kept mark members beside) free m = absurd free

-- the first trees of a forest, and those behind them
split_row : (m : CutForest) (last : Forest) (ts : List OrderedTree) → AreFree m → joined (forest m) last ≡ forest_of ts
    → (forest m ≡ forest_of (take (width m) ts)) × (last ≡ forest_of (drop (width m) ts)) × (width m ≤ length ts)
split_row Bare last ts free e = (refl, e, omega arith)
split_row (Grown node below beside) last [] free e = absurd (planted_none node (forest below) (joined (forest beside) last) e)
split_row (Grown node below beside) last (t ∷ ts) free e =
    let rest = split_row beside last ts free (beside_same node t.node (forest below) t.below (joined (forest beside) last) (forest_of ts) e) in
    let one : suc (width beside) ≡ 1 + width beside = omega arith in
    let fits : width beside ≤ length ts = rest.2 in (
      ap (λ (n : Node). Plant n (forest below) (forest beside)) (node_same node t.node (forest below) t.below (joined (forest beside) last) (forest_of ts) e)
          ∙ ap (λ (f : Forest). Plant t.node f (forest beside)) (below_same node t.node (forest below) t.below (joined (forest beside) last) (forest_of ts) e)
          ∙ ap (Plant t.node t.below) rest.0 ∙ ap (λ (n : ℕ). forest_of (take n (t ∷ ts))) one,
      rest.1 ∙ ap (λ (n : ℕ). forest_of (drop n (t ∷ ts))) one,
      omega (arith, fits),
    )
split_row (Kept mark members beside) last ts free e = absurd free

-- The first interval of some trees, whose members are the first of them, and the trees behind it.
pub record BeginsKept (holder : List ℕ → Option ℕ) (position : ℕ) (trees : List OrderedTree) (drawn : CutForest) : Type 0 where
  pub members : CutForest
  pub beside : CutForest
  pub is : drawn ≡ Kept tt members beside
  pub inside : AreMembers holder position (forest_of (take (width members) trees)) members
  pub along : IsMarked None holder (position + width members) (forest_of (drop (width members) trees)) beside
  pub fits : width members ≤ length trees
  pub ends : BeginsOther inside.index holder (position + width members) beside

-- where an interval holds the first tree, it is the first member
pub begins_kept : (h : List ℕ → Option ℕ) (position index : ℕ) (trees : List OrderedTree) (c : CutForest) → IsMarked None h position (forest_of trees) c → 1 ≤ length trees → h (position ∷ []) ≡ Some index → BeginsKept h position trees c
begins_kept h position index [] Bare m some held = absurd (omega (arith, some))
begins_kept h position index (t ∷ ts) Bare m some held = absurd (empty_planted t.node t.below (forest_of ts) m.trees_are)
begins_kept h position index trees (Grown node below beside) m some held = absurd (no_value (sym held ∙ (m.agrees).0))
begins_kept h position index trees (Kept mark members beside) m some held =
    let rows = split_row members (forest beside) trees (m.light).1 m.trees_are in
    record {
      members = members;
      beside = beside;
      is = refl;
      inside = record {
        index = (m.agrees).0;
        marked = record { trees_are = rows.0; light = (m.light).3; agrees = (m.agrees).2 };
        some = (m.light).0;
        free = (m.light).1;
        weighs = (m.light).2;
      };
      along = record { trees_are = rows.1; light = (m.light).4; agrees = (m.agrees).3 };
      fits = rows.2;
      ends = (m.agrees).1;
    }

other_first : (index : ℕ) (h : List ℕ → Option ℕ) (position : ℕ) (c : CutForest) (ts : List OrderedTree) → BeginsOther index h position c → forest c ≡ forest_of ts → 1 ≤ length ts → h (position ∷ []) ≡ Some index → ⊥
other_first index h position Bare [] other e some held = omega (arith, some)
other_first index h position Bare (t ∷ ts) other e some held = empty_planted t.node t.below (forest_of ts) e
other_first index h position (Grown node below beside) ts other e some held = other held
other_first index h position (Kept mark members beside) ts other e some held = other held

-- the members of an interval end where it holds the next tree no more
pub members_end_is : (h : List ℕ → Option ℕ) (position index end : ℕ) (trees : List OrderedTree) (c : CutForest) (first : BeginsKept h position trees c) → h (position ∷ []) ≡ Some index → position < end → end ≤ position + length trees
    → ((j : ℕ) → position < j → j < end → h (j ∷ []) ≡ Some index) → (end < position + length trees → h (end ∷ []) ≡ Some index → ⊥) → end ≡ position + width first.members
members_end_is h position index end trees c first held low high run ends =
    elim (le_or end (position + width first.members)) [
      | inl less ↦ absurd (ends (omega (arith, less, fits)) (inside end (omega (arith, low)) less ∙ ap Some (sym same)))
      | inr more ↦ elim (le_or (position + width first.members) end) [
        | inl less ↦ absurd (other_first (first.inside).index h (position + width first.members) first.beside (drop (width first.members) trees) first.ends (first.along).trees_are
            (omega (arith, less, high, length-drop (width first.members) trees)) (run (position + width first.members) (omega (arith, some)) less ∙ ap Some same))
        | inr equal ↦ omega (arith, more, equal)
      ]
    ]
  where
    fits : width first.members ≤ length trees
    fits = first.fits

    some : 1 ≤ width first.members
    some = (first.inside).some

    inside : (j : ℕ) → position ≤ j → j < position + width first.members → h (j ∷ []) ≡ Some (first.inside).index
    inside j from to = member_held (first.inside).index h position first.members j (first.inside).free ((first.inside).marked).agrees from to

    same : index ≡ (first.inside).index
    same = some_same (sym held ∙ inside position (omega arith) (omega (arith, some)))

-- drawn trees that are none
pub nothing_left : (own : Option ℕ) (h : List ℕ → Option ℕ) (position : ℕ) (c : CutForest) → IsMarked own h position Empty c → c ≡ Bare
nothing_left own h position Bare m = refl
nothing_left own h position (Grown node below beside) m = absurd (planted_none node (forest below) (forest beside) m.trees_are)
nothing_left own h position (Kept mark members beside) m =
    let some : 1 ≤ width members = (m.light).0 in
    let rows = split_row members (forest beside) [] (m.light).1 m.trees_are in
    let fits : width members ≤ 0 = rows.2 in
    absurd (omega (arith, some, fits))
