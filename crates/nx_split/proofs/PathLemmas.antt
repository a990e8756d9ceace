-- Where the nodes of a sketch stand, and where paths lead in the piece.
use Rattle.std.proofs.Common.{◌≡◌, ℕ, zero, suc, ◌+◌, ◌-◌, ◌<◌, List, [], ◌∷◌, ◌++◌, length, take, drop, Option, None, Some, inl, inr, refl, sym, ap, subst, ◌∙◌, arith, append_assoc}
use Rattle.std.specs.Prelude.{Contains, slice_get}
use Rattle.std.proofs.lemmas.Bool.{cases_lt}
use Rattle.std.proofs.lemmas.List.Elements.{Contains-append_left, Contains-append_right, Contains-append_cases}
use Rattle.nx_lists.proofs.ListLemmas.{contains_here, contains_there}
use Rattle.nx_tree.specs.declared.node.Node.{Node}
use Rattle.nx_matrix.specs.declared.rule.Entry.{Entry}
use Rattle.nx_matrix.specs.declared.rule.Rule.{Rule}
use Rattle.nx_piece.specs.PieceNode.{node_weight, PieceNode}
use Rattle.nx_piece.specs.declared.piece.Proxy.{Proxy}
use Rattle.nx_piece.specs.Gapped.{Gapped, GappedTree, End, Grow, Gap, proxies_in}
use Rattle.nx_piece.specs.Locate.{PieceChild, Own, Kept, roots_from, kept_from, children_of, Inside, reached}
use Rattle.nx_piece.proofs.LocateLemmas.{get_behind, kept_length}
use Rattle.nx_sketch.specs.Sketch.{Placed, placed_in}
use Rattle.nx_split.specs.Laws.{IsListedWhereReached, IsReachedWhereListed}
use Rattle.nx_split.specs.Piece.{asked, asked_of_root, positions, sketch_in, placed_of}

one_of : {X : Type 0} (x y : X) → Contains (x ∷ []) y → x ≡ y
one_of x y (zero, within, e) = e
one_of x y (suc n, within, e) = absurd (omega arith)

-- to the node leads a way from one of these children on
record IsLed (proxies : List Proxy) (first position : ℕ) (f : Gapped) (prefix : List ℕ) (node : Placed) : Type 0 where
  index : ℕ
  way : List ℕ
  tree : GappedTree
  before : ℕ
  path_is : node.path ≡ prefix ++ (position + index) ∷ way
  leads : (used : ℕ) → reached proxies used way (slice_get (children_of proxies first f) index) ≡ Inside tree before
  weight_is : node.weight ≡ node_weight tree.node

-- it is the first of them, or stands below that, or beside it
led_first : (proxies : List Proxy) (first position : ℕ) (n : PieceNode) (b s : Gapped) (prefix : List ℕ) (node : Placed) → node.path ≡ prefix ++ position ∷ [] → node.weight ≡ node_weight n → IsLed proxies first position (Grow n b s) prefix node
led_first proxies first position n b s prefix node path w = record {
  index = 0;
  way = [];
  tree = record { node = n; below = b };
  before = first;
  path_is = path ∙ ap (λ (p : ℕ). prefix ++ p ∷ []) (let q : position ≡ position + 0 = omega arith in q);
  leads = λ used. refl;
  weight_is = w;
}

led_below : (proxies : List Proxy) (first position : ℕ) (n : PieceNode) (b s : Gapped) (prefix : List ℕ) (node : Placed) → IsLed proxies first 0 b (prefix ++ position ∷ []) node → IsLed proxies first position (Grow n b s) prefix node
led_below proxies first position n b s prefix node h = record {
  index = 0;
  way = h.index ∷ h.way;
  tree = h.tree;
  before = h.before;
  path_is = h.path_is
      ∙ append_assoc prefix (position ∷ []) ((0 + h.index) ∷ h.way)
      ∙ (let p : position ≡ position + 0 = omega arith in let i : 0 + h.index ≡ h.index = omega arith in λ k. prefix ++ p k ∷ i k ∷ h.way);
  leads = λ used. h.leads (used + 1);
  weight_is = h.weight_is;
}

led_beside : (proxies : List Proxy) (first position : ℕ) (n : PieceNode) (b s : Gapped) (prefix : List ℕ) (node : Placed) → IsLed proxies (first + proxies_in b) (position + 1) s prefix node → IsLed proxies first position (Grow n b s) prefix node
led_beside proxies first position n b s prefix node h = record {
  index = suc h.index;
  way = h.way;
  tree = h.tree;
  before = h.before;
  path_is = h.path_is ∙ ap (λ (p : ℕ). prefix ++ p ∷ h.way) (let q : position + 1 + h.index ≡ position + suc h.index = omega arith in q);
  leads = h.leads;
  weight_is = h.weight_is;
}

-- what stands behind the trees that a gap stands for
behind_gap : (proxies : List Proxy) (first c index : ℕ) (s : Gapped) → slice_get (children_of proxies first (Gap c s)) (positions proxies first c + index) ≡ slice_get (children_of proxies (first + c) s) index
behind_gap proxies first c index s =
    let kept = kept_from first (take c (drop first proxies)) in
    let back = children_of proxies (first + c) s in
    let many : positions proxies first c ≡ length kept = sym (kept_length first (take c (drop first proxies))) in
    ap (λ (i : ℕ). slice_get (kept ++ back) (i + index)) many ∙ get_behind kept back index

led_past : (proxies : List Proxy) (first position c : ℕ) (s : Gapped) (prefix : List ℕ) (node : Placed) → IsLed proxies (first + c) (position + positions proxies first c) s prefix node → IsLed proxies first position (Gap c s) prefix node
led_past proxies first position c s prefix node h = record {
  index = positions proxies first c + h.index;
  way = h.way;
  tree = h.tree;
  before = h.before;
  path_is = h.path_is ∙ ap (λ (p : ℕ). prefix ++ p ∷ h.way) (let q : position + positions proxies first c + h.index ≡ position + (positions proxies first c + h.index) = omega arith in q);
  leads = λ used. ap (reached proxies used h.way) (behind_gap proxies first c h.index s) ∙ h.leads used;
  weight_is = h.weight_is;
}

-- to each node of a sketch a way leads
placed_led : (rules : List Rule) (proxies : List Proxy) (asks : Node → Entry) (first position : ℕ) (f : Gapped) (prefix : List ℕ) (node : Placed) → Contains (placed_in prefix (sketch_in rules proxies asks first position f)) node → IsLed proxies first position f prefix node
placed_led rules proxies asks first position End prefix node (n, within, e) = absurd (omega arith)
placed_led rules proxies asks first position (Grow n b s) prefix node h =
    let here = prefix ++ position ∷ [] in
    let own : Placed = record { path = here; weight = node_weight n; entry = asks n.node } in
    let inner = placed_in here (sketch_in rules proxies (asked rules n.node) first 0 b) in
    let others = placed_in prefix (sketch_in rules proxies asks (first + proxies_in b) (position + 1) s) in
    elim (Contains-append_cases (own ∷ []) (inner ++ others) node h) [
      | inl at ↦
          let is = one_of own node at in
          led_first proxies first position n b s prefix node (ap (λ (x : Placed). x.path) (sym is)) (ap (λ (x : Placed). x.weight) (sym is))
      | inr more ↦ elim (Contains-append_cases inner others node more) [
        | inl below ↦ led_below proxies first position n b s prefix node (placed_led rules proxies (asked rules n.node) first 0 b here node below)
        | inr beside ↦ led_beside proxies first position n b s prefix node (placed_led rules proxies asks (first + proxies_in b) (position + 1) s prefix node beside)
      ]
    ]
placed_led rules proxies asks first position (Gap c s) prefix node h =
    led_past proxies first position c s prefix node (placed_led rules proxies asks (first + c) (position + positions proxies first c) s prefix node h)

-- children that proxies stand for, and no others
abbrev AreKept : List PieceChild → Type 0
AreKept [] = Unit {0}
AreKept (Own tree first ∷ children) = ⊥
AreKept (Kept index member ∷ children) = AreKept children

both_kept : (xs ys : List PieceChild) → AreKept xs → AreKept ys → AreKept (xs ++ ys)
both_kept [] ys h k = k
both_kept (Own tree first ∷ xs) ys h k = absurd h
both_kept (Kept index member ∷ xs) ys h k = both_kept xs ys h k

roots_kept : (index member count : ℕ) → AreKept (roots_from index member count)
roots_kept index member zero = tt
roots_kept index member (suc count) = roots_kept index (member + 1) count

all_kept : (index : ℕ) (proxies : List Proxy) → AreKept (kept_from index proxies)
all_kept index [] = tt
all_kept index (proxy ∷ proxies) = both_kept (roots_from index 0 proxy.roots) (kept_from (index + 1) proxies) (roots_kept index 0 proxy.roots) (all_kept (index + 1) proxies)

-- so many positions on, from a child at an index, a way leads to this tree
abbrev LeadsTo : List Proxy → ℕ → List ℕ → Option PieceChild → (tree : GappedTree) (before : ℕ) → Type 0
LeadsTo proxies used way child tree before = reached proxies used way child ≡ Inside tree before

none_leads : (proxies : List Proxy) (used : ℕ) (way : List ℕ) (tree : GappedTree) (before : ℕ) → LeadsTo proxies used way None tree before → ⊥
none_leads proxies used [] tree before h = absurd (cc)
none_leads proxies used (position ∷ way) tree before h = absurd (cc)

kept_leads : (proxies : List Proxy) (used : ℕ) (way : List ℕ) (index member : ℕ) (tree : GappedTree) (before : ℕ) → LeadsTo proxies used way (Some (Kept index member)) tree before → ⊥
kept_leads proxies used [] index member tree before h = absurd (cc)
kept_leads proxies used (position ∷ way) index member tree before h = absurd (cc)

-- no way leads to a tree from children that proxies stand for
module _ (proxies : List Proxy) (used : ℕ) (way : List ℕ) (tree : GappedTree) (before : ℕ) where
  leads_out : (kept back : List PieceChild) (index : ℕ) → AreKept kept → index < length kept → LeadsTo proxies used way (slice_get (kept ++ back) index) tree before → ⊥
  leads_out [] back index k within h = absurd (omega arith)
  leads_out (Own t first ∷ kept) back index k within h = absurd k
  leads_out (Kept i m ∷ kept) back zero k within h = kept_leads proxies used way i m tree before h
  leads_out (Kept i m ∷ kept) back (suc index) k within h = leads_out kept back index k (omega arith) h

-- each node to which a way leads is placed
abbrev ArePlaced : List Rule → List Proxy → (Node → Entry) → (first position : ℕ) → Gapped → List ℕ → Type 0
ArePlaced rules proxies asks first position f prefix =
    (used index : ℕ) (way : List ℕ) (tree : GappedTree) (before : ℕ) → LeadsTo proxies used way (slice_get (children_of proxies first f) index) tree before
    → (entry : Entry) × Contains (placed_in prefix (sketch_in rules proxies asks first position f)) (record { path = prefix ++ (position + index) ∷ way; weight = node_weight tree.node; entry = entry })

moved : (nodes : List Placed) (p q : List ℕ) (w : ℕ) → p ≡ q → (entry : Entry) × Contains nodes (record { path = p; weight = w; entry = entry }) → (entry : Entry) × Contains nodes (record { path = q; weight = w; entry = entry })
moved nodes p q w is h = (h.0, subst (λ r. Contains nodes (record { path = r; weight = w; entry = h.0 })) is h.1)

led_placed : (rules : List Rule) (proxies : List Proxy) (asks : Node → Entry) (first position : ℕ) (f : Gapped) (prefix : List ℕ) → ArePlaced rules proxies asks first position f prefix
led_placed rules proxies asks first position End prefix used index way tree before h = absurd (none_leads proxies used way tree before h)
led_placed rules proxies asks first position (Grow n b s) prefix used zero [] tree before h =
    let both : Inside (record { node = n; below = b }) first ≡ Inside tree before = h in
    let same : record { node = n; below = b } ≡ tree = cc in
    let here : prefix ++ position ∷ [] ≡ prefix ++ (position + 0) ∷ [] = ap (λ (p : ℕ). prefix ++ p ∷ []) (let q : position ≡ position + 0 = omega arith in q) in
    (asks n.node, contains_here _ _ _ (λ i. record { path = here i; weight = ap (λ (t : GappedTree). node_weight t.node) same i; entry = asks n.node }))
led_placed rules proxies asks first position (Grow n b s) prefix used zero (step ∷ way) tree before h =
    let here = prefix ++ position ∷ [] in
    let own : Placed = record { path = here; weight = node_weight n; entry = asks n.node } in
    let inner = placed_in here (sketch_in rules proxies (asked rules n.node) first 0 b) in
    let others = placed_in prefix (sketch_in rules proxies asks (first + proxies_in b) (position + 1) s) in
    let found = led_placed rules proxies (asked rules n.node) first 0 b here (used + 1) step way tree before h in
    let node : Placed = record { path = here ++ (0 + step) ∷ way; weight = node_weight tree.node; entry = found.0 } in
    moved (own ∷ inner ++ others) (here ++ (0 + step) ∷ way) (prefix ++ (position + 0) ∷ step ∷ way) (node_weight tree.node)
    (append_assoc prefix (position ∷ []) ((0 + step) ∷ way)
    ∙ (let p : position ≡ position + 0 = omega arith in let i : 0 + step ≡ step = omega arith in λ k. prefix ++ p k ∷ i k ∷ way))
    (found.0, contains_there own (inner ++ others) node (Contains-append_left inner others node found.1))
led_placed rules proxies asks first position (Grow n b s) prefix used (suc index) way tree before h =
    let here = prefix ++ position ∷ [] in
    let own : Placed = record { path = here; weight = node_weight n; entry = asks n.node } in
    let inner = placed_in here (sketch_in rules proxies (asked rules n.node) first 0 b) in
    let others = placed_in prefix (sketch_in rules proxies asks (first + proxies_in b) (position + 1) s) in
    let found = led_placed rules proxies asks (first + proxies_in b) (position + 1) s prefix used index way tree before h in
    let node : Placed = record { path = prefix ++ (position + 1 + index) ∷ way; weight = node_weight tree.node; entry = found.0 } in
    moved (own ∷ inner ++ others) (prefix ++ (position + 1 + index) ∷ way) (prefix ++ (position + suc index) ∷ way) (node_weight tree.node)
    (ap (λ (p : ℕ). prefix ++ p ∷ way) (let q : position + 1 + index ≡ position + suc index = omega arith in q))
    (found.0, contains_there own (inner ++ others) node (Contains-append_right inner others node found.1))
led_placed rules proxies asks first position (Gap c s) prefix used index way tree before h =
    let kept = kept_from first (take c (drop first proxies)) in
    let back = children_of proxies (first + c) s in
    let many : positions proxies first c ≡ length kept = sym (kept_length first (take c (drop first proxies))) in
    elim (cases_lt index (length kept)) [
      | inl lt ↦ absurd (leads_out proxies used way tree before kept back index (all_kept first (take c (drop first proxies))) lt h)
      | inr ge ↦
          let place : index ≡ positions proxies first c + (index - positions proxies first c) = omega arith in
          let next = ap (λ (i : ℕ). slice_get (children_of proxies first (Gap c s)) i) place ∙ behind_gap proxies first c (index - positions proxies first c) s in
          moved (placed_in prefix (sketch_in rules proxies asks (first + c) (position + positions proxies first c) s)) (prefix ++ (position + positions proxies first c + (index - positions proxies first c)) ∷ way) (prefix ++ (position + index) ∷ way) (node_weight tree.node)
          (ap (λ (p : ℕ). prefix ++ p ∷ way) (let q : position + positions proxies first c + (index - positions proxies first c) ≡ position + index = omega arith in q))
          (led_placed rules proxies asks (first + c) (position + positions proxies first c) s prefix used (index - positions proxies first c) way tree before
          (sym (ap (λ (x : Option PieceChild). reached proxies used way x) next) ∙ h))
    ]

pub listed_where_reached : IsListedWhereReached
listed_where_reached rules above piece member path tree first h =
    moved (placed_of rules above piece) ((0 + member) ∷ path) (member ∷ path) (node_weight tree.node) (ap (λ (m : ℕ). m ∷ path) (let q : 0 + member ≡ member = omega arith in q))
    (led_placed rules piece.proxies (asked_of_root rules above) 0 0 piece.body.roots [] 0 member path tree first h)

pub reached_where_listed : IsReachedWhereListed
reached_where_listed rules above piece node h =
    let l = placed_led rules piece.proxies (asked_of_root rules above) 0 0 piece.body.roots [] node h in
    (l.index, l.way, l.tree, l.before, l.path_is ∙ ap (λ (m : ℕ). m ∷ l.way) (let q : 0 + l.index ≡ l.index = omega arith in q), l.leads 0, l.weight_is)
