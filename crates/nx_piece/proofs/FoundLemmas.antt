-- A tree found among items: what those before it stand for.
use Rattle.std.proofs.Common.{◌≡◌, ℕ, zero, suc, ◌+◌, ◌-◌, ◌≤◌, List, [], ◌∷◌, ◌++◌, length, take, drop, ap, ◌∙◌, arith}
use Rattle.std.proofs.lemmas.List.{drop-drop}
use Rattle.nx_piece.specs.declared.piece.Item.{Item}
use Rattle.nx_piece.specs.declared.piece.Item.TheVariants.{Tree, Run}
use Rattle.nx_piece.specs.declared.piece.Proxy.{Proxy}
use Rattle.nx_piece.specs.Gapped.{GappedTree, proxies_in}
use Rattle.nx_piece.specs.Items.{gapped_of}
use Rattle.nx_piece.specs.Locate.{kept_from}
use Rattle.nx_piece.specs.Found.{children_in, StandsAmong}
use Rattle.nx_piece.proofs.LocateLemmas.{kept_length}

-- the items up to one, and it
pub take_next : (items : List Item) (i : ℕ) (x : Item) → drop i items ≡ x ∷ drop (i + 1) items → take (i + 1) items ≡ take i items ++ x ∷ []
take_next [] zero x e = absurd (cc)
take_next [] (suc i) x e = absurd (cc)
take_next (y ∷ items) zero x e = ap (λ (xs : List Item). take 1 xs) e
take_next (y ∷ items) (suc i) x e =
    let more : suc i + 1 ≡ suc (i + 1) = omega arith in
    ap (λ (n : ℕ). take n (y ∷ items)) more ∙ ap (λ xs. y ∷ xs) (take_next items i x (e ∙ ap (λ (n : ℕ). x ∷ drop n (y ∷ items)) more))

pub proxies_of_items : (items more : List Item) → proxies_in (gapped_of (items ++ more)) ≡ proxies_in (gapped_of items) + proxies_in (gapped_of more)
proxies_of_items [] more = omega arith
proxies_of_items (Tree t ∷ items) more = let h = proxies_of_items items more in omega (arith, h)
proxies_of_items (Run c ∷ items) more = let h = proxies_of_items items more in omega (arith, h)

pub children_append : (items more : List Item) (proxies : List Proxy) → children_in (items ++ more) proxies ≡ children_in items proxies + children_in more (drop (proxies_in (gapped_of items)) proxies)
children_append [] more proxies = omega arith
children_append (Tree t ∷ items) more proxies =
    let h = children_append items more (drop (proxies_in t.below) proxies) in
    let d = ap (λ (ps : List Proxy). children_in more ps) (drop-drop (proxies_in (gapped_of items)) (proxies_in t.below) proxies) in
    omega (arith, h, d)
children_append (Run c ∷ items) more proxies =
    let h = children_append items more (drop c proxies) in
    let d = ap (λ (ps : List Proxy). children_in more ps) (drop-drop (proxies_in (gapped_of items)) c proxies) in
    omega (arith, h, d)

-- so many items are passed, and the children and proxies that they stand for
pub record IsPassing (items : List Item) (proxies : List Proxy) (first position before left index : ℕ) : Type 0 where
  pub counted : children_in (take index items) (drop first proxies) + left ≡ position
  pub behind : before ≡ first + proxies_in (gapped_of (take index items))

pub none_passing : (items : List Item) (proxies : List Proxy) (first position : ℕ) → IsPassing items proxies first position first position 0
none_passing items proxies first position = record { counted = omega arith; behind = omega arith }

one_passing : {items : List Item} {proxies : List Proxy} {first position before left index : ℕ} (x : Item) (count after : ℕ) → IsPassing items proxies first position before left index → drop index items ≡ x ∷ drop (index + 1) items
    → left ≡ children_in (x ∷ []) (drop before proxies) + after → count ≡ proxies_in (gapped_of (x ∷ [])) → IsPassing items proxies first position (before + count) after (index + 1)
one_passing {items} {proxies} {first} {position} {before} {left} {index} x count after h d is own =
    let front : take (index + 1) items ≡ take index items ++ x ∷ [] = take_next items index x d in
    let a = h.counted in
    let b = h.behind in
    let c = ap (λ (xs : List Item). children_in xs (drop first proxies)) front in
    let e = children_append (take index items) (x ∷ []) (drop first proxies) in
    let f = ap (λ (ps : List Proxy). children_in (x ∷ []) ps) (drop-drop (proxies_in (gapped_of (take index items))) first proxies) in
    let g = ap (λ (n : ℕ). children_in (x ∷ []) (drop n proxies)) b in
    let p = ap (λ (xs : List Item). proxies_in (gapped_of xs)) front in
    let q = proxies_of_items (take index items) (x ∷ []) in
    record { counted = omega (arith, a, is, c, e, f, g); behind = omega (arith, b, own, p, q) }

pub tree_passing : {items : List Item} {proxies : List Proxy} {first position before left index : ℕ} (t : GappedTree) (count : ℕ) → IsPassing items proxies first position before left index → drop index items ≡ Tree t ∷ drop (index + 1) items
    → 1 ≤ left → count ≡ proxies_in t.below → IsPassing items proxies first position (before + count) (left - 1) (index + 1)
tree_passing {items} {proxies} {first} {position} {before} {left} {index} t count h d some is = one_passing (Tree t) count (left - 1) h d (omega (arith, some)) (omega (arith, is))

pub run_passing : {items : List Item} {proxies : List Proxy} {first position before left c after index : ℕ} → IsPassing items proxies first position before left index → drop index items ≡ Run c ∷ drop (index + 1) items
    → left ≡ length (kept_from before (take c (drop before proxies))) + after → IsPassing items proxies first position (before + c) after (index + 1)
run_passing {items} {proxies} {first} {position} {before} {left} {c} {after} {index} h d is =
    let roots = kept_length before (take c (drop before proxies)) in
    one_passing (Run c) c after h d (omega (arith, is, roots)) (omega arith)

pub stands_at : {items : List Item} {proxies : List Proxy} {first position before left index : ℕ} {t : GappedTree} → IsPassing items proxies first position before left index
    → drop index items ≡ Tree t ∷ drop (index + 1) items → left ≡ 0 → StandsAmong items proxies first position t before index
stands_at {items} {proxies} {first} {position} {before} {left} {index} {t} h d none = record { there = d; counted = let a = h.counted in omega (arith, a, none); behind = h.behind }
