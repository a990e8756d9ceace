-- One interval replaced by several, in the proxies and in what is held.
use Rattle.std.proofs.Common.{◌≡◌, ℕ, zero, suc, ◌+◌, ◌-◌, ◌<◌, ◌≤◌, nat_lt, if◌then◌else◌, Bool, true, false, List, [], ◌∷◌, ◌++◌, length, take, drop, Some, refl, sym, ap, ◌∙◌, arith, length-append, append_assoc, inl, inr}
use Rattle.std.proofs.lemmas.Grind.{common_steps}
use Rattle.std.proofs.lemmas.Bool.{cases_lt}
use Rattle.std.proofs.lemmas.Bool.Decides.{nat_tests}
use Rattle.std.proofs.Math.Seq.{take-append-add, drop-append-add}
use Rattle.nx_tree.specs.Forest.{Plant}
use Rattle.nx_piece.specs.declared.piece.Proxy.{Proxy}
use Rattle.nx_piece_edits.proofs.LeftLemmas.{less_is, not_less}
use Rattle.nx_weights.specs.Weight.{weight}
use Rattle.nx_cuts.specs.Cut.{Bare, Grown, Kept, joined, width, AreFree}
use Rattle.nx_cuts.proofs.RowLemmas.{joined_assoc}
use Rattle.nx_layouts.specs.Layout.{LaidNode, Layout, Stock, laid_forest, laid_weight, AreLaidParts, proxies_of, nodes_in, AreHeld}
use Rattle.nx_layouts.specs.Nodes.{NodesChange}
use Rattle.nx_layouts.specs.Replace.{joined_layout, replaced_at, kept_at, Replaces}
use Rattle.nx_layouts.proofs.NodeLemmas.{change_behind, change_below}

pub forest-joined_layout : (a b : Layout) → laid_forest (joined_layout a b) ≡ joined (laid_forest a) (laid_forest b)
forest-joined_layout Bare b = refl
forest-joined_layout (Grown n d s) b = ap (Plant n.node (laid_forest d)) (forest-joined_layout s b)
forest-joined_layout (Kept p m s) b = ap (joined (laid_forest m)) (forest-joined_layout s b) ∙ sym (joined_assoc (laid_forest m) (laid_forest s) (laid_forest b))

pub proxies-joined_layout : (a b : Layout) → proxies_of (joined_layout a b) ≡ proxies_of a ++ proxies_of b
proxies-joined_layout Bare b = refl
proxies-joined_layout (Grown n d s) b = ap (λ l. proxies_of d ++ l) (proxies-joined_layout s b) ∙ sym (append_assoc (proxies_of d) (proxies_of s) (proxies_of b))
proxies-joined_layout (Kept p m s) b = ap (λ l. record { page = p.page; slot = p.slot; roots = width m } ∷ l) (proxies-joined_layout s b)

pub held-joined_layout : (stock : Stock) (a b : Layout) → AreHeld stock a → AreHeld stock b → AreHeld stock (joined_layout a b)
held-joined_layout stock Bare b p q = q
held-joined_layout stock (Grown n d s) b p q = (p.0, p.1, held-joined_layout stock s b p.2 q)
held-joined_layout stock (Kept r m s) b p q = (p.0, p.1, held-joined_layout stock s b p.2 q)

pub held_filled : (stock : Stock) (index : ℕ) (left row : Layout) → AreHeld stock (replaced_at index Bare row) → AreHeld stock left → AreHeld stock (replaced_at index left row)
held_filled stock index left Bare h e = tt
held_filled stock index left (Grown n b s) h e =
    (elim (nat_lt index (length (proxies_of b))) as (λ t. AreHeld stock (if t then Grown n (replaced_at index Bare b) s else Grown n b (replaced_at (index - length (proxies_of b)) Bare s))
    → AreHeld stock (if t then Grown n (replaced_at index left b) s else Grown n b (replaced_at (index - length (proxies_of b)) left s))) [
      | true ↦ λ g. (g.0, held_filled stock index left b g.1 e, g.2)
      | false ↦ λ g. (g.0, g.1, held_filled stock (index - length (proxies_of b)) left s g.2 e)
    ]) h
held_filled stock zero left (Kept p m s) h e = held-joined_layout stock left s e h
held_filled stock (suc index) left (Kept p m s) h e = (h.0, h.1, held_filled stock index left s h.2 e)

pub held_hole : (stock : Stock) (index : ℕ) (row : Layout) → AreHeld stock row → AreHeld stock (replaced_at index Bare row)
held_hole stock index Bare h = tt
held_hole stock index (Grown n b s) h =
    elim (nat_lt index (length (proxies_of b))) as (λ t. AreHeld stock (if t then Grown n (replaced_at index Bare b) s else Grown n b (replaced_at (index - length (proxies_of b)) Bare s))) [
      | true ↦ (h.0, held_hole stock index b h.1, h.2)
      | false ↦ (h.0, h.1, held_hole stock (index - length (proxies_of b)) s h.2)
    ]
held_hole stock zero (Kept p m s) h = h.2
held_hole stock (suc index) (Kept p m s) h = (h.0, h.1, held_hole stock index s h.2)

pub light_joined : (k : ℕ) (a b : Layout) → AreLaidParts k a → AreLaidParts k b → AreLaidParts k (joined_layout a b)
light_joined k Bare b h g = g
light_joined k (Grown n d s) b h g = (h.0, light_joined k s b h.1 g)
light_joined k (Kept p m s) b h g = (h.0, h.1, h.2, h.3, light_joined k s b h.4 g)

pub light_filled : (k index : ℕ) (left row : Layout) → AreLaidParts k row → AreLaidParts k left → AreLaidParts k (replaced_at index left row)
light_filled k index left Bare h e = tt
light_filled k index left (Grown n b s) h e =
    elim (nat_lt index (length (proxies_of b))) as (λ t. AreLaidParts k (if t then Grown n (replaced_at index left b) s else Grown n b (replaced_at (index - length (proxies_of b)) left s))) [
      | true ↦ (light_filled k index left b h.0 e, h.1)
      | false ↦ (h.0, light_filled k (index - length (proxies_of b)) left s h.1 e)
    ]
light_filled k zero left (Kept p m s) h e = light_joined k left s e h.4
light_filled k (suc index) left (Kept p m s) h e = (h.0, h.1, h.2, h.3, light_filled k index left s h.4 e)

pub free_filled : (index : ℕ) (left row : Layout) → AreFree row → AreFree (replaced_at index left row)
free_filled index left Bare f = tt
free_filled index left (Grown n b s) f =
    elim (nat_lt index (length (proxies_of b))) as (λ t. AreFree (if t then Grown n (replaced_at index left b) s else Grown n b (replaced_at (index - length (proxies_of b)) left s))) [
      | true ↦ f
      | false ↦ free_filled (index - length (proxies_of b)) left s f
    ]
free_filled index left (Kept p m s) f = absurd f

pub wide_filled : (index : ℕ) (left row : Layout) → AreFree row → width (replaced_at index left row) ≡ width row
wide_filled index left Bare f = refl
wide_filled index left (Grown n b s) f =
    elim (nat_lt index (length (proxies_of b))) as (λ t. width (if t then Grown n (replaced_at index left b) s else Grown n b (replaced_at (index - length (proxies_of b)) left s)) ≡ 1 + width s) [
      | true ↦ refl
      | false ↦ ap (λ (w : ℕ). 1 + w) (wide_filled (index - length (proxies_of b)) left s f)
    ]
wide_filled index left (Kept p m s) f = absurd f

weight_joined : (a b : Layout) → laid_weight (joined_layout a b) ≡ laid_weight a + laid_weight b
weight_joined Bare b = omega arith
weight_joined (Grown n d s) b = let e = weight_joined s b in omega (arith, e)
weight_joined (Kept p m s) b = weight_joined s b

pub heavy_filled : (index : ℕ) (left row : Layout) → index < length (proxies_of row) → laid_weight (replaced_at index left row) ≡ laid_weight row + laid_weight left
heavy_filled index left Bare h = absurd (omega (arith, h))
heavy_filled index left (Grown n b s) h =
    let l = length-append (proxies_of b) (proxies_of s) in
    elim (cases_lt index (length (proxies_of b))) [
      | inl here ↦
          let e = ap laid_weight (less_is index (length (proxies_of b)) (Grown n (replaced_at index left b) s) (Grown n b (replaced_at (index - length (proxies_of b)) left s)) here) in
          let f = heavy_filled index left b here in omega (arith, e, f)
      | inr behind ↦
          let e = ap laid_weight (not_less index (length (proxies_of b)) (Grown n (replaced_at index left b) s) (Grown n b (replaced_at (index - length (proxies_of b)) left s)) behind) in
          let f = heavy_filled (index - length (proxies_of b)) left s (omega (arith, l, h, behind)) in omega (arith, e, f)
    ]
heavy_filled zero left (Kept p m s) h = let f = weight_joined left s in omega (arith, f)
heavy_filled (suc index) left (Kept p m s) h = heavy_filled index left s (omega (arith, h))

-- where no interval has that index nothing comes
pub weight_filled : (index : ℕ) (left row : Layout) → laid_weight (replaced_at index left row) ≤ laid_weight row + laid_weight left
weight_filled index left Bare = omega arith
weight_filled index left (Grown n b s) =
    elim (nat_lt index (length (proxies_of b))) as (λ t. laid_weight (if t then Grown n (replaced_at index left b) s else Grown n b (replaced_at (index - length (proxies_of b)) left s)) ≤ weight n.node + laid_weight b + laid_weight s + laid_weight left) [
      | true ↦ let f = weight_filled index left b in omega (arith, f)
      | false ↦ let f = weight_filled (index - length (proxies_of b)) left s in omega (arith, f)
    ]
weight_filled zero left (Kept p m s) = let f = weight_joined left s in omega (arith, f)
weight_filled (suc index) left (Kept p m s) = weight_filled index left s

same_replaced : (index : ℕ) (new old members : Layout) → kept_at index old ≡ Some members → laid_forest new ≡ laid_forest members → laid_forest (replaced_at index new old) ≡ laid_forest old
same_replaced index new Bare members e f = refl
same_replaced index new (Grown n b s) members e f =
    (elim (nat_lt index (length (proxies_of b))) as (λ t. (if t then kept_at index b else kept_at (index - length (proxies_of b)) s) ≡ Some members → laid_forest (if t then Grown n (replaced_at index new b) s else Grown n b (replaced_at (index - length (proxies_of b)) new s)) ≡ Plant n.node (laid_forest b) (laid_forest s)) [
      | true ↦ λ h. ap (λ g. Plant n.node g (laid_forest s)) (same_replaced index new b members h f)
      | false ↦ λ h. ap (Plant n.node (laid_forest b)) (same_replaced (index - length (proxies_of b)) new s members h f)
    ]) e
same_replaced zero new (Kept r m s) members e f = let h : m ≡ members = cc in forest-joined_layout new s ∙ ap (λ g. joined g (laid_forest s)) (f ∙ ap laid_forest (sym h))
same_replaced (suc index) new (Kept r m s) members e f = ap (joined (laid_forest m)) (same_replaced index new s members e f)

in_front : {A : Type 0} (i : ℕ) (a n b : List A) → i < length a → (take i a ++ n ++ drop (i + 1) a) ++ b ≡ take i (a ++ b) ++ n ++ drop (i + 1) (a ++ b)
in_front i a n b h = grind (arith, common_steps)

behind : {A : Type 0} (j : ℕ) (a n b : List A) → a ++ (take j b ++ n ++ drop (j + 1) b) ≡ take (length a + j) (a ++ b) ++ n ++ drop (length a + j + 1) (a ++ b)
behind j a n b =
    let t = take-append-add a b j in
    let d : drop (length a + j + 1) (a ++ b) ≡ drop (j + 1) b = ap (λ k. drop k (a ++ b)) (let e : length a + j + 1 ≡ length a + (j + 1) = omega arith in e) ∙ drop-append-add a b (j + 1) in
    rw (t, d) (grind (arith, common_steps))

abbrev pub WithProxies : List Proxy → ℕ → Layout → Layout → Type 0
WithProxies old index new now = proxies_of now ≡ take index old ++ proxies_of new ++ drop (index + 1) old

choose : {t : Bool} (index : ℕ) (n : LaidNode) (new b s : Layout) → nat_lt index (length (proxies_of b)) ≡ t
    → (index < length (proxies_of b) → WithProxies (proxies_of b) index new (replaced_at index new b))
    → (length (proxies_of b) ≤ index → WithProxies (proxies_of s) (index - length (proxies_of b)) new (replaced_at (index - length (proxies_of b)) new s))
    → WithProxies (proxies_of b ++ proxies_of s) index new (if t then Grown n (replaced_at index new b) s else Grown n b (replaced_at (index - length (proxies_of b)) new s))
choose {t = true} index n new b s e here there =
    let h : index < length (proxies_of b) = grind (arith, nat_tests) in
    ap (λ l. l ++ proxies_of s) (here h) ∙ in_front index (proxies_of b) (proxies_of new) (proxies_of s) h
choose {t = false} index n new b s e here there =
    let h : length (proxies_of b) ≤ index = grind (arith, nat_tests) in
    let k : length (proxies_of b) + (index - length (proxies_of b)) ≡ index = omega arith in
    ap (λ l. proxies_of b ++ l) (there h) ∙ behind (index - length (proxies_of b)) (proxies_of b) (proxies_of new) (proxies_of s)
    ∙ ap (λ i. take i (proxies_of b ++ proxies_of s) ++ proxies_of new ++ drop (i + 1) (proxies_of b ++ proxies_of s)) k

pub proxies_replaced : (index : ℕ) (new old : Layout) → index < length (proxies_of old) → WithProxies (proxies_of old) index new (replaced_at index new old)
proxies_replaced index new Bare h = absurd (omega arith)
proxies_replaced index new (Grown n b s) h =
    let l = length-append (proxies_of b) (proxies_of s) in
    choose index n new b s refl (λ k. proxies_replaced index new b k) (λ k. proxies_replaced (index - length (proxies_of b)) new s (omega arith))
proxies_replaced zero new (Kept r m s) h = proxies-joined_layout new s
proxies_replaced (suc index) new (Kept r m s) h =
    let one : Proxy = record { page = r.page; slot = r.slot; roots = width m } in
    let k : suc index + 1 ≡ suc (index + 1) = omega arith in
    ap (λ l. one ∷ l) (proxies_replaced index new s (omega arith)) ∙ ap (λ i. one ∷ (take index (proxies_of s) ++ proxies_of new ++ drop i (one ∷ proxies_of s))) (sym k)

pub nodes-joined_layout : (a b : Layout) → nodes_in (joined_layout a b) ≡ nodes_in a ++ nodes_in b
nodes-joined_layout Bare b = refl
nodes-joined_layout (Grown n d s) b = ap (λ (l : List LaidNode). n ∷ (nodes_in d ++ l)) (nodes-joined_layout s b) ∙ ap (λ (l : List LaidNode). n ∷ l) (sym (append_assoc (nodes_in d) (nodes_in s) (nodes_in b)))
nodes-joined_layout (Kept p m s) b = ap (λ (l : List LaidNode). nodes_in m ++ l) (nodes-joined_layout s b) ∙ sym (append_assoc (nodes_in m) (nodes_in s) (nodes_in b))

nodes_replaced : (index : ℕ) (new old members : Layout) → kept_at index old ≡ Some members → NodesChange (nodes_in old) (nodes_in (replaced_at index new old)) (nodes_in members) (nodes_in new)
nodes_replaced index new Bare members e = absurd (cc)
nodes_replaced index new (Grown n b s) members e =
    (elim (nat_lt index (length (proxies_of b))) as (λ t. (if t then kept_at index b else kept_at (index - length (proxies_of b)) s) ≡ Some members
    → NodesChange (n ∷ (nodes_in b ++ nodes_in s)) (nodes_in (if t then Grown n (replaced_at index new b) s else Grown n b (replaced_at (index - length (proxies_of b)) new s))) (nodes_in members) (nodes_in new)) [
      | true ↦ λ h. change_below (nodes_replaced index new b members h) n (nodes_in s)
      | false ↦ λ h. change_behind (nodes_replaced (index - length (proxies_of b)) new s members h) (n ∷ nodes_in b)
    ]) e
nodes_replaced zero new (Kept r m s) members e =
    let h : m ≡ members = cc in
    record { before = []; behind = nodes_in s; were = ap (λ (l : Layout). nodes_in l ++ nodes_in s) h; are = nodes-joined_layout new s }
nodes_replaced (suc index) new (Kept r m s) members e = change_behind (nodes_replaced index new s members e) (nodes_in m)

pub replaces : (index : ℕ) (old new : Layout) → index < length (proxies_of old) → Replaces index old new
replaces index old new h = record {
  proxies_are = proxies_replaced index new old h;
  beside = λ stock. held_hole stock index old;
  held = λ stock. held_filled stock index new old;
  light = λ k. light_filled k index new old;
  free = free_filled index new old;
  wide = wide_filled index new old;
  heavy = heavy_filled index new old h;
  same = same_replaced index new old;
  changes = nodes_replaced index new old;
}
