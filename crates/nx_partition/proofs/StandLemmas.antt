-- Each interval of a choice lies within the children, of which there are as many as stands.
use Rattle.std.proofs.Common.{◌≡◌, ℕ, zero, suc, ◌+◌, ◌<◌, ◌≤◌, List, [], ◌∷◌, ◌++◌, length, drop, get_or, map, refl, sym, ap, subst, ◌∙◌, arith, length-append}
use Rattle.std.proofs.lemmas.List.{length-map}
use Rattle.nx_tree.specs.Forest.{OrderedTree, Forest, forest_of, nodes}
use Rattle.nx_parts.specs.declared.bounds.Bound.{Bound}
use Rattle.nx_parts.specs.Minima.{AreMinimaIn}
use Rattle.nx_choices.specs.declared.child.Child.{Child}
use Rattle.nx_choices.specs.declared.child.Stand.{Stand}
use Rattle.nx_choices.specs.declared.child.Stand.TheVariants.{Uncut as Alone, Opens, Joins}
use Rattle.nx_choices.specs.Choice.{Member, Cell, Uncut, Interval, child_of}
use Rattle.nx_choices.specs.Stand.{is_second, joins, stands, takes_second, IsChoice}
use Rattle.nx_minima.specs.Drawing.{forms}
use Rattle.nx_minima.specs.Seen.{as_child, seen, tops}
use Rattle.nx_minima.proofs.MinimaLemmas.{forms-covered}
use Rattle.nx_partition.specs.Planning.{IsWithinChildren}
use Rattle.nx_partition.proofs.BoundsLemmas.{next_at}
use Rattle.nx_partition.proofs.PlanLemmas.{seconds}

-- each interval of a choice lies within the children
abbrev AreInside : List Stand → Type 0
AreInside [] = Unit {0}
AreInside (stand ∷ list) = IsWithinChildren (length list) stand × AreInside list

length-joins : (members : List Member) → length (joins members) ≡ length members
length-joins [] = refl
length-joins (member ∷ members) = omega (arith, length-joins members)

inside_joins : (members : List Member) (list : List Stand) → AreInside list → AreInside (joins members ++ list)
inside_joins [] list h = h
inside_joins (member ∷ members) list h = (tt, inside_joins members list h)

inside_stands : (cells : List Cell) → AreInside (stands cells)
inside_stands [] = tt
inside_stands (Uncut child ∷ cells) = (tt, inside_stands cells)
inside_stands (Interval member members ∷ cells) =
    ((omega arith, omega (arith, length-append (joins members) (stands cells), length-joins members)), inside_joins members (stands cells) (inside_stands cells))

more_inside : (a b : ℕ) (stand : Stand) → a ≤ b → IsWithinChildren a stand → IsWithinChildren b stand
more_inside a b Alone le h = tt
more_inside a b (Opens number second) le h = (h.0, omega (arith, h.1))
more_inside a b (Joins second) le h = tt

inside_at : (list : List Stand) (i : ℕ) (stand : Stand) → AreInside list → drop i list ≡ stand ∷ drop (i + 1) list → IsWithinChildren (length list) stand
inside_at [] i stand h e = absurd (none_left i e)
  where
    none_left : (i : ℕ) → drop i [] ≡ stand ∷ drop (i + 1) [] → ⊥
    none_left zero e = cc
    none_left (suc i) e = cc
inside_at (first ∷ list) zero stand h e =
    let same : first ≡ stand = cc in
    more_inside (length list) (length (first ∷ list)) stand (omega arith) (subst (IsWithinChildren (length list)) same h.0)
inside_at (first ∷ list) (suc i) stand h e =
    let n : suc (i + 1) ≡ suc i + 1 = omega arith in
    more_inside (length list) (length (first ∷ list)) stand (omega arith) (inside_at list i stand h.1 (e ∙ ap (λ j. stand ∷ drop j (first ∷ list)) (sym n)))

length-choice : {k own most most_weight : ℕ} {children : List Child} {list : List Stand} → IsChoice k own most most_weight children list → length list ≡ length children
length-choice {list = list} c =
    let a = ap length (ap (map takes_second) c.are ∙ seconds c.cells) in
    let b = ap length (forms-covered c.cells ∙ c.admitted.covers) in
    omega (arith, a, b, length-map list takes_second, length-map (forms c.cells) is_second, length-map (forms c.cells) child_of)

length-tops : (k : ℕ) (ts : List OrderedTree) (bounds : List Bound) → AreMinimaIn k (forest_of ts) bounds → length (tops (forest_of ts) bounds) ≡ length ts
length-tops k [] bounds m = refl
length-tops k (t ∷ ts) [] m = absurd m
length-tops k (t ∷ ts) (bound ∷ bounds) m = omega (arith, length-tops k ts (drop (nodes t.below) bounds) m.2)

-- there are as many stands as children
pub stands_many : {k own most most_weight : ℕ} {forest : Forest} {list : List Stand} (below : List Bound) (ts : List OrderedTree) → IsChoice k own most most_weight (seen (tops forest below)) list
    → AreMinimaIn k forest below → forest_of ts ≡ forest → length list ≡ length ts
stands_many {k} {forest = forest} below ts c m f =
    let many = length-tops k ts below (subst (λ g. AreMinimaIn k g below) (sym f) m) in
    length-choice c ∙ length-map (tops forest below) as_child ∙ ap (λ g. length (tops g below)) (sym f) ∙ many

-- a stand of a choice over few children
pub choice_inside : {k own most most_weight : ℕ} {children : List Child} (list : List Stand) (i : ℕ) (stand : Stand) → IsChoice k own most most_weight children list → length list ≤ 524288
    → drop i list ≡ stand ∷ drop (i + 1) list → IsWithinChildren 524288 stand
choice_inside list i stand c few e = more_inside (length list) 524288 stand few (inside_at list i stand (subst AreInside (sym c.are) (inside_stands c.cells)) e)

-- the next of a list
pub next_of : {X : Type 0} (xs : List X) (i : ℕ) (x : X) → i < length xs → x ≡ get_or xs i x → drop i xs ≡ x ∷ drop (i + 1) xs
next_of xs i x within is = next_at xs i x within ∙ ap (λ y. y ∷ drop (i + 1) xs) (sym is)
