-- Far contents stay where something is taken out of a piece, and where something is put into it the node's own comes.
use Rattle.std.proofs.Common.{◌≡◌, ℕ, zero, suc, ◌+◌, ◌-◌, nat_lt, true, false, if◌then◌else◌, List, [], ◌∷◌, ◌++◌, None, Some, length, take, drop, sym, ap, ap₂, subst, arith, inl, inr}
use Rattle.std.specs.Prelude.{◌⊎◌, Option}
use Rattle.std.specs.List.{Contains}
use Rattle.std.specs.Option.{option_to_list}
use Rattle.nx_lists.proofs.ListLemmas.{contains_parts}
use Rattle.std.proofs.lemmas.List.{drop-drop}
use Rattle.std.proofs.lemmas.List.Elements.{Contains-append_left, Contains-append_right, Contains-append_cases}
use Rattle.nx_tree.specs.declared.node.Kind.TheVariants.{Doc}
use Rattle.nx_piece.specs.PieceNode.{PieceNode, near}
use Rattle.nx_piece.specs.declared.piece.Far.{Far}
use Rattle.nx_piece.specs.declared.piece.Piece.{Piece}
use Rattle.nx_piece.specs.declared.piece.Proxy.{Proxy}
use Rattle.nx_piece.specs.Contents.{fars_in}
use Rattle.nx_piece.specs.Gapped.{Gapped, GappedTree, End, Grow, Gap, proxies_in, with_gap}
use Rattle.nx_piece.specs.Locate.{PieceChild, Inside, roots_of, kept_from, children_of}
use Rattle.nx_piece.proofs.LocateLemmas.{kept_length}
use Rattle.nx_piece_edits.specs.Contents.{KeepsContents, BringsContent, BringsContents, EditsKeepContents, EditsBringContent}
use Rattle.nx_piece_edits.specs.declared.cutting.Removed.{Removed}
use Rattle.nx_piece_edits.specs.Cutting.{without_tree, smaller_gap, without_proxy, gap_before, joined_items, with_items_at, with_row, IsWithoutTree, IsWithoutProxy, IsWithItems, IsWithRow}
use Rattle.nx_piece_edits.specs.Dividing.{first_roots, roots_behind, AreDivided}
use Rattle.nx_piece_edits.specs.Planting.{passed, put_in_gap, put_at, put_below, IsWithNode, IsWithProxyAt, IsWithRoot}
use Rattle.nx_piece_edits.specs.Setting.{with_tree, node_with_content, with_content, IsWithContent}
use Rattle.nx_piece_edits.specs.Taking.{led}
use Rattle.nx_piece_edits.proofs.TakeLemmas.{led_nowhere}
use Rattle.nx_piece_edits.proofs.LeftLemmas.{all_kept, passes_kept, tree_reached}

pub all_stay : (f : Gapped) → KeepsContents f f
all_stay f = record { fars = λ far h. h; near = λ h. h }

pub stay_through : {f g h : Gapped} → KeepsContents f g → KeepsContents g h → KeepsContents f h
stay_through k l = record { fars = λ far c. k.fars far (l.fars far c); near = λ n. l.near (k.near n) }

pub none_stay : (f : Gapped) → KeepsContents f End
none_stay f = record { fars = λ far c. absurd (let less = c.1 in omega (arith, less)); near = λ n. tt }

grown_alike : (own below beside less few : List Far) (far : Far) → (Contains less far → Contains below far) → (Contains few far → Contains beside far) → Contains (own ++ (less ++ few)) far → Contains (own ++ (below ++ beside)) far
grown_alike own below beside less few far h k c =
    elim (Contains-append_cases own (less ++ few) far c) [
      | inl mine ↦ Contains-append_left own (below ++ beside) far mine
      | inr others ↦ elim (Contains-append_cases less few far others) [
        | inl under ↦ Contains-append_right own (below ++ beside) far (Contains-append_left below beside far (h under))
        | inr next ↦ Contains-append_right own (below ++ beside) far (Contains-append_right below beside far (k next))
      ]
    ]

pub stay_grown : (n : PieceNode) {b s c t : Gapped} → KeepsContents b c → KeepsContents s t → KeepsContents (Grow n b s) (Grow n c t)
stay_grown n {b} {s} {c} {t} h k = record {
  fars = λ far. grown_alike (option_to_list n.far) (fars_in b) (fars_in s) (fars_in c) (fars_in t) far (h.fars far) (k.fars far);
  near = λ x. (x.0, h.near x.1, k.near x.2);
}

pub stay_beside : (n : PieceNode) (b s : Gapped) → KeepsContents (Grow n b s) s
stay_beside n b s = record {
  fars = λ far c. Contains-append_right (option_to_list n.far) (fars_in b ++ fars_in s) far (Contains-append_right (fars_in b) (fars_in s) far c);
  near = λ x. x.2;
}

pub stay_below : (n : PieceNode) (b s : Gapped) → KeepsContents (Grow n b s) b
stay_below n b s = record {
  fars = λ far c. Contains-append_right (option_to_list n.far) (fars_in b ++ fars_in s) far (Contains-append_left (fars_in b) (fars_in s) far c);
  near = λ x. x.1;
}

stay_alone : (n : PieceNode) (b s : Gapped) → KeepsContents (Grow n b s) (Grow n b End)
stay_alone n b s = stay_grown n (all_stay b) (none_stay s)

stay_gap : (count : ℕ) (f : Gapped) → KeepsContents f (with_gap count f)
stay_gap count End = record { fars = λ far c. c; near = λ n. n }
stay_gap count (Grow n b s) = record { fars = λ far c. c; near = λ n. n }
stay_gap count (Gap c s) = record { fars = λ far c. c; near = λ n. n }

in_gap : (count more : ℕ) {s t : Gapped} → KeepsContents s t → KeepsContents (Gap count s) (Gap more t)
in_gap count more h = record { fars = h.fars; near = h.near }

-- without a tree
pub tree_leaves : (position : ℕ) (path : List ℕ) (f : Gapped) (proxies : List Proxy) → KeepsContents f (without_tree position path f proxies)
tree_leaves position path End proxies = all_stay End
tree_leaves zero [] (Grow n b s) proxies = stay_beside n b s
tree_leaves zero (next ∷ path) (Grow n b s) proxies = stay_grown n (tree_leaves next path b proxies) (all_stay s)
tree_leaves (suc position) path (Grow n b s) proxies = stay_grown n (all_stay b) (tree_leaves position path s (drop (proxies_in b) proxies))
tree_leaves position path (Gap c s) proxies =
    let rest = tree_leaves (position - roots_of (take c proxies)) path s (drop c proxies) in
    let gap = stay_gap c (without_tree (position - roots_of (take c proxies)) path s (drop c proxies)) in
    record { fars = λ far x. rest.fars far (gap.fars far x); near = λ x. gap.near (rest.near x) }

-- and those of the tree were there
pub tree_brings : (proxies : List Proxy) (first used position : ℕ) (path : List ℕ) (f : Gapped) (t : GappedTree) (before : ℕ) → led proxies first f used position path ≡ Inside t before → KeepsContents f (Grow t.node t.below End)
tree_brings proxies first used position path End t before e = absurd (led_nowhere proxies used path t before e)
tree_brings proxies first used zero [] (Grow n b s) t before e =
    let own : GappedTree = record { node = n; below = b } in
    let same : own ≡ t = ap (tree_reached own) e in
    subst (λ (u : GappedTree). KeepsContents (Grow n b s) (Grow u.node u.below End)) same (stay_alone n b s)
tree_brings proxies first used zero (next ∷ path) (Grow n b s) t before e = stay_through (stay_below n b s) (tree_brings proxies first (used + 1) next path b t before e)
tree_brings proxies first used (suc position) path (Grow n b s) t before e = stay_through (stay_beside n b s) (tree_brings proxies (first + proxies_in b) used position path s t before e)
tree_brings proxies first used position path (Gap c s) t before e =
    let kept : List PieceChild = kept_from first (take c (drop first proxies)) in
    let p = passes_kept proxies used path kept (children_of proxies (first + c) s) position t before (all_kept first (take c (drop first proxies))) e in
    let rest = tree_brings proxies (first + c) used p.0 path s t before p.2 in
    record { fars = rest.fars; near = rest.near }

-- without a proxy
smaller_stays : (count : ℕ) (f : Gapped) → KeepsContents f (smaller_gap count f)
smaller_stays count f = elim (nat_lt 1 count) as (λ t. KeepsContents f (if t then Gap (count - 1) f else f)) [
  | true ↦ record { fars = λ far c. c; near = λ n. n }
  | false ↦ all_stay f
]

pub proxy_leaves : (index : ℕ) (f : Gapped) → KeepsContents f (without_proxy index f)
proxy_leaves index End = all_stay End
proxy_leaves index (Grow n b s) =
    elim (nat_lt index (proxies_in b)) as (λ t. KeepsContents (Grow n b s) (if t then Grow n (without_proxy index b) s else Grow n b (without_proxy (index - proxies_in b) s))) [
      | true ↦ stay_grown n (proxy_leaves index b) (all_stay s)
      | false ↦ stay_grown n (all_stay b) (proxy_leaves (index - proxies_in b) s)
    ]
proxy_leaves index (Gap c s) =
    let rest = smaller_stays c s in
    elim (nat_lt index c) as (λ t. KeepsContents (Gap c s) (if t then smaller_gap c s else Gap c (without_proxy (index - c) s))) [
      | true ↦ record { fars = rest.fars; near = rest.near }
      | false ↦ in_gap c c (proxy_leaves (index - c) s)
    ]

-- more of them
pub row_leaves : (index count : ℕ) (f : Gapped) → KeepsContents f (with_row index count f)
row_leaves index count End = all_stay End
row_leaves index count (Grow n b s) =
    elim (nat_lt index (proxies_in b)) as (λ t. KeepsContents (Grow n b s) (if t then Grow n (with_row index count b) s else Grow n b (with_row (index - proxies_in b) count s))) [
      | true ↦ stay_grown n (row_leaves index count b) (all_stay s)
      | false ↦ stay_grown n (all_stay b) (row_leaves (index - proxies_in b) count s)
    ]
row_leaves index count (Gap had s) =
    elim (nat_lt index had) as (λ t. KeepsContents (Gap had s) (if t then Gap (had - 1 + count) s else Gap had (with_row (index - had) count s))) [
      | true ↦ in_gap had (had - 1 + count) (all_stay s)
      | false ↦ in_gap had had (row_leaves (index - had) count s)
    ]

-- the first roots and those behind them
pub first_stay : (count : ℕ) (f : Gapped) → KeepsContents f (first_roots count f)
first_stay zero f = none_stay f
first_stay (suc count) End = all_stay End
first_stay (suc count) (Grow n b s) = stay_grown n (all_stay b) (first_stay count s)
first_stay (suc count) (Gap c s) = none_stay (Gap c s)

pub behind_stay : (count : ℕ) (f : Gapped) → KeepsContents f (roots_behind count f)
behind_stay zero f = all_stay f
behind_stay (suc count) End = all_stay End
behind_stay (suc count) (Grow n b s) = stay_through (stay_beside n b s) (behind_stay count s)
behind_stay (suc count) (Gap c s) = none_stay (Gap c s)

-- Where a node comes:

own_far : (own : Option Far) (far : Far) → Contains (option_to_list own) far → own ≡ Some far
own_far None far c = absurd (let less = c.1 in omega (arith, less))
own_far (Some first) far c = elim (contains_parts first [] far c) [
  | inl same ↦ ap Some same
  | inr none ↦ absurd (let less = none.1 in omega (arith, less))
]

brings_none : {node : PieceNode} {f g : Gapped} → KeepsContents f g → BringsContent node f g
brings_none h = record { fars = λ far c. inr (h.fars far c); near = λ own x. h.near x }

either_alike : {Own : Type 0} (own below beside more many : List Far) (far : Far) → (Contains more far → Own ⊎ Contains below far) → (Contains many far → Own ⊎ Contains beside far) → Contains (own ++ (more ++ many)) far → Own ⊎ Contains (own ++ (below ++ beside)) far
either_alike own below beside more many far h k c =
    elim (Contains-append_cases own (more ++ many) far c) [
      | inl mine ↦ inr (Contains-append_left own (below ++ beside) far mine)
      | inr others ↦ elim (Contains-append_cases more many far others) [
        | inl under ↦ elim (h under) [
          | inl new ↦ inl new
          | inr old ↦ inr (Contains-append_right own (below ++ beside) far (Contains-append_left below beside far old))
        ]
        | inr next ↦ elim (k next) [
          | inl new ↦ inl new
          | inr old ↦ inr (Contains-append_right own (below ++ beside) far (Contains-append_right below beside far old))
        ]
      ]
    ]

brings_grown : {node : PieceNode} (n : PieceNode) {b s c t : Gapped} → BringsContent node b c → BringsContent node s t → BringsContent node (Grow n b s) (Grow n c t)
brings_grown n {b} {s} {c} {t} h k = record {
  fars = λ far. either_alike (option_to_list n.far) (fars_in b) (fars_in s) (fars_in c) (fars_in t) far (h.fars far) (k.fars far);
  near = λ own x. (x.0, h.near own x.1, k.near own x.2);
}

brings_gap : {node : PieceNode} (count : ℕ) {f g : Gapped} → BringsContent node f g → BringsContent node (Gap count f) (with_gap count g)
brings_gap count {f} {g} h =
    let gap = stay_gap count g in
    record { fars = λ far c. h.fars far (gap.fars far c); near = λ own x. gap.near (h.near own x) }

-- another content of the node
content_comes : (n node : PieceNode) (b s : Gapped) → BringsContent node (Grow n b s) (Grow node b s)
content_comes n node b s = record {
  fars = λ far c. elim (Contains-append_cases (option_to_list node.far) (fars_in b ++ fars_in s) far c) [
    | inl mine ↦ inl (own_far node.far far mine)
    | inr others ↦ inr (Contains-append_right (option_to_list n.far) (fars_in b ++ fars_in s) far others)
  ];
  near = λ own x. (own, x.1, x.2);
}

leaf_here : (node : PieceNode) (f : Gapped) → BringsContent node f (Grow node End f)
leaf_here node f = record {
  fars = λ far c. elim (Contains-append_cases (option_to_list node.far) ([] ++ fars_in f) far c) [
    | inl mine ↦ inl (own_far node.far far mine)
    | inr others ↦ inr others
  ];
  near = λ own x. (own, tt, x);
}

-- what is put between children brings the node's content, or none
pub put_comes : (node : PieceNode) (put : Gapped → Gapped) → ((g : Gapped) → BringsContent node g (put g)) → (n : ℕ) (f : Gapped) (ps : List Proxy) → BringsContent node f (put_at put n f ps)
put_comes node put own zero f ps = own f
put_comes node put own (suc n) End ps = brings_none (all_stay End)
put_comes node put own (suc n) (Grow m b s) ps = brings_grown m (brings_none (all_stay b)) (put_comes node put own n s (drop (proxies_in b) ps))
put_comes node put own (suc n) (Gap c s) ps =
    let q : ℕ = passed (suc n) (take c ps) in
    let inside = brings_gap q (own (Gap (c - q) s)) in
    let behind = brings_gap c (put_comes node put own (suc n - roots_of (take c ps)) s (drop c ps)) in
    elim (nat_lt q c) as (λ t. BringsContent node (Gap c s) (if t then put_in_gap put q c s else with_gap c (put_at put (suc n - roots_of (take c ps)) s (drop c ps)))) [
      | true ↦ record { fars = inside.fars; near = inside.near }
      | false ↦ record { fars = behind.fars; near = behind.near }
    ]

-- and what comes with the tree that a path leads to comes
pub tree_comes : (node : PieceNode) (proxies : List Proxy) (first used position : ℕ) (path : List ℕ) (f : Gapped) (t : GappedTree) (before : ℕ) (new : GappedTree) → led proxies first f used position path ≡ Inside t before
    → ((s : Gapped) → BringsContent node (Grow t.node t.below s) (Grow new.node new.below s)) → BringsContent node f (with_tree position path new f (drop first proxies))
tree_comes node proxies first used position path End t before new e h = absurd (led_nowhere proxies used path t before e)
tree_comes node proxies first used zero [] (Grow n b s) t before new e h =
    let own : GappedTree = record { node = n; below = b } in
    let same : own ≡ t = ap (tree_reached own) e in
    subst (λ (u : GappedTree). BringsContent node (Grow u.node u.below s) (Grow new.node new.below s)) (sym same) (h s)
tree_comes node proxies first used zero (next ∷ path) (Grow n b s) t before new e h = brings_grown n (tree_comes node proxies first (used + 1) next path b t before new e h) (brings_none (all_stay s))
tree_comes node proxies first used (suc position) path (Grow n b s) t before new e h =
    let k = tree_comes node proxies (first + proxies_in b) used position path s t before new e h in
    let d = ap (λ (ps : List Proxy). with_tree position path new s ps) (drop-drop (proxies_in b) first proxies) in
    brings_grown n (brings_none (all_stay b)) (subst (λ g. BringsContent node s g) (sym d) k)
tree_comes node proxies first used position path (Gap c s) t before new e h =
    let kept : List PieceChild = kept_from first (take c (drop first proxies)) in
    let p = passes_kept proxies used path kept (children_of proxies (first + c) s) position t before (all_kept first (take c (drop first proxies))) e in
    let long : length kept ≡ roots_of (take c (drop first proxies)) = kept_length first (take c (drop first proxies)) in
    let q : position ≡ length kept + p.0 = p.1 in
    let left : position - roots_of (take c (drop first proxies)) ≡ p.0 = omega arith in
    let k = tree_comes node proxies (first + c) used p.0 path s t before new p.2 h in
    let d = ap₂ (λ (n : ℕ) (ps : List Proxy). with_tree n path new s ps) left (drop-drop c first proxies) in
    let own : BringsContent node s (with_tree (position - roots_of (take c (drop first proxies))) path new s (drop c (drop first proxies))) = subst (λ g. BringsContent node s g) (sym d) k in
    record { fars = own.fars; near = own.near }

-- Where items come:

before_stays : (count : ℕ) (f : Gapped) → KeepsContents f (gap_before count f)
before_stays zero f = all_stay f
before_stays (suc count) f = stay_gap (suc count) f

none_come : (items f : Gapped) → BringsContents items f f
none_come items f = record { fars = λ far c. inr c; near = λ own x. x }

items_grown : {items : Gapped} (n : PieceNode) {b s c t : Gapped} → BringsContents items b c → BringsContents items s t → BringsContents items (Grow n b s) (Grow n c t)
items_grown {items} n {b} {s} {c} {t} h k = record {
  fars = λ far. either_alike (option_to_list n.far) (fars_in b) (fars_in s) (fars_in c) (fars_in t) far (h.fars far) (k.fars far);
  near = λ own x. (x.0, h.near own x.1, k.near own x.2);
}

both_come : (items f : Gapped) → BringsContents items f (joined_items items f)
both_come End f = none_come End f
both_come (Grow n b s) f =
    let rest = both_come s f in
    record {
      fars = λ far c. elim (Contains-append_cases (option_to_list n.far) (fars_in b ++ fars_in (joined_items s f)) far c) [
        | inl mine ↦ inl (Contains-append_left (option_to_list n.far) (fars_in b ++ fars_in s) far mine)
        | inr others ↦ elim (Contains-append_cases (fars_in b) (fars_in (joined_items s f)) far others) [
          | inl under ↦ inl (Contains-append_right (option_to_list n.far) (fars_in b ++ fars_in s) far (Contains-append_left (fars_in b) (fars_in s) far under))
          | inr next ↦ elim (rest.fars far next) [
            | inl new ↦ inl (Contains-append_right (option_to_list n.far) (fars_in b ++ fars_in s) far (Contains-append_right (fars_in b) (fars_in s) far new))
            | inr old ↦ inr old
          ]
        ]
      ];
      near = λ own x. (own.0, own.1, rest.near own.2 x);
    }
both_come (Gap c s) f =
    let rest = both_come s f in
    let gap = stay_gap c (joined_items s f) in
    record { fars = λ far x. rest.fars far (gap.fars far x); near = λ own x. gap.near (rest.near own x) }

pub items_leave : (index : ℕ) (items f : Gapped) → BringsContents items f (with_items_at index items f)
items_leave index items End = none_come items End
items_leave index items (Grow n b s) =
    elim (nat_lt index (proxies_in b)) as (λ t. BringsContents items (Grow n b s) (if t then Grow n (with_items_at index items b) s else Grow n b (with_items_at (index - proxies_in b) items s))) [
      | true ↦ items_grown n (items_leave index items b) (none_come items s)
      | false ↦ items_grown n (none_come items b) (items_leave (index - proxies_in b) items s)
    ]
items_leave index items (Gap had s) =
    let rest : Gapped = gap_before (had - 1 - index) s in
    let inner = before_stays (had - 1 - index) s in
    let both = both_come items rest in
    let outer = before_stays index (joined_items items rest) in
    let behind = items_leave (index - had) items s in
    elim (nat_lt index had) as (λ t. BringsContents items (Gap had s) (if t then gap_before index (joined_items items rest) else Gap had (with_items_at (index - had) items s))) [
      | true ↦ record {
        fars = λ far x. elim (both.fars far (outer.fars far x)) [
          | inl new ↦ inl new
          | inr old ↦ inr (inner.fars far old)
        ];
        near = λ own x. outer.near (both.near own (inner.near x));
      }
      | false ↦ record { fars = behind.fars; near = behind.near }
    ]

-- proxies alone bring none
pub proxies_bring_none : (count : ℕ) {f g : Gapped} → BringsContents (Gap count End) f g → KeepsContents f g
proxies_bring_none count h = record {
  fars = λ far c. elim (h.fars far c) [
    | inl new ↦ absurd (let less = new.1 in omega (arith, less))
    | inr old ↦ old
  ];
  near = λ x. h.near tt x;
}

-- What a change of a piece leaves and brings:

set_brings : (piece : Piece) (member : ℕ) (path content : List ℕ) (far : Option Far) (changed : Piece) → (h : IsWithContent piece member path content far changed) → BringsContent (node_with_content content far h.tree.node) piece.body.roots changed.body.roots
set_brings piece member path content far changed h =
    let node : PieceNode = node_with_content content far h.tree.node in
    subst (λ g. BringsContent node piece.body.roots g) (sym h.body)
    (tree_comes node piece.proxies 0 0 member path piece.body.roots h.tree h.first (with_content content far h.tree) h.leads (λ s. content_comes h.tree.node node h.tree.below s))

node_planted : (piece : Piece) (member : ℕ) (path : List ℕ) (position : ℕ) (node : PieceNode) (grown : Piece) → IsWithNode piece member path position node grown → BringsContent node piece.body.roots grown.body.roots
node_planted piece member path position node grown h =
    subst (λ g. BringsContent node piece.body.roots g) (sym h.body)
    (tree_comes node piece.proxies 0 0 member path piece.body.roots h.tree h.first (put_below (λ f. Grow node End f) position h.tree (drop h.first piece.proxies)) h.leads
    (λ s. brings_grown h.tree.node (put_comes node (λ f. Grow node End f) (leaf_here node) position h.tree.below (drop h.first piece.proxies)) (brings_none (all_stay s))))

root_planted : (piece : Piece) (member : ℕ) (node : PieceNode) (grown : Piece) → IsWithRoot piece member node grown → BringsContent node piece.body.roots grown.body.roots
root_planted piece member node grown h = subst (λ g. BringsContent node piece.body.roots g) (sym h.body) (put_comes node (λ f. Grow node End f) (leaf_here node) member piece.body.roots piece.proxies)

tree_removed : (piece : Piece) (member : ℕ) (path : List ℕ) (removed : Removed) → IsWithoutTree piece member path removed → KeepsContents piece.body.roots removed.rest.body.roots × KeepsContents piece.body.roots (Grow removed.tree.node removed.tree.below End)
tree_removed piece member path removed h = (
  subst (λ g. KeepsContents piece.body.roots g) (sym h.body) (tree_leaves member path piece.body.roots piece.proxies),
  tree_brings piece.proxies 0 0 member path piece.body.roots removed.tree h.first h.leads,
)

proxy_removed : (piece : Piece) (index : ℕ) (rest : Piece) → IsWithoutProxy piece index rest → KeepsContents piece.body.roots rest.body.roots
proxy_removed piece index rest h = subst (λ g. KeepsContents piece.body.roots g) (sym h.body) (proxy_leaves index piece.body.roots)

roots_divided : (piece : Piece) (member : ℕ) (parts : Piece × Piece) → AreDivided piece member parts → KeepsContents piece.body.roots parts.0.body.roots × KeepsContents piece.body.roots parts.1.body.roots
roots_divided piece member parts h = (
  subst (λ g. KeepsContents piece.body.roots g) (sym h.front) (first_stay member piece.body.roots),
  subst (λ g. KeepsContents piece.body.roots g) (sym h.back) (behind_stay member piece.body.roots),
)

-- a node with no content
abbrev bare : PieceNode
bare = near (record { kind = Doc; name = []; content = [] })

stay_where : {f g : Gapped} → BringsContent bare f g → KeepsContents f g
stay_where h = record {
  fars = λ far c. elim (h.fars far c) [
    | inl own ↦ absurd (cc)
    | inr old ↦ old
  ];
  near = λ x. h.near (omega arith) x;
}

proxy_planted : (piece : Piece) (member : ℕ) (path : List ℕ) (position index : ℕ) (proxy : Proxy) (grown : Piece) → IsWithProxyAt piece member path position index proxy grown → KeepsContents piece.body.roots grown.body.roots
proxy_planted piece member path position index proxy grown h =
    subst (λ g. KeepsContents piece.body.roots g) (sym h.body)
    (stay_where (tree_comes bare piece.proxies 0 0 member path piece.body.roots h.tree h.first (put_below (λ f. with_gap 1 f) position h.tree (drop h.first piece.proxies)) h.leads
    (λ s. brings_grown h.tree.node (put_comes bare (λ f. with_gap 1 f) (λ f. brings_none (stay_gap 1 f)) position h.tree.below (drop h.first piece.proxies)) (brings_none (all_stay s)))))

row_replaced : (piece : Piece) (index : ℕ) (row : List Proxy) (changed : Piece) → IsWithRow piece index row changed → KeepsContents piece.body.roots changed.body.roots
row_replaced piece index row changed h = subst (λ g. KeepsContents piece.body.roots g) (sym h.body) (row_leaves index (length row) piece.body.roots)

pub edits_keep_contents : EditsKeepContents
edits_keep_contents = record {
  tree_goes = tree_removed;
  proxy_goes = proxy_removed;
  row_comes = row_replaced;
  proxy_comes = proxy_planted;
  divided = roots_divided;
}

items_planted : (piece : Piece) (index : ℕ) (items : Gapped) (proxies : List Proxy) (changed : Piece) → IsWithItems piece index items proxies changed → BringsContents items piece.body.roots changed.body.roots
items_planted piece index items proxies changed h = subst (λ g. BringsContents items piece.body.roots g) (sym h.body) (items_leave index items piece.body.roots)

pub edits_bring_content : EditsBringContent
edits_bring_content = record { content_set = set_brings; node_comes = node_planted; root_comes = root_planted; items_come = items_planted }
