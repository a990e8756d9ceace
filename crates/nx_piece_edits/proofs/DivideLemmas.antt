-- A root planted among others, and roots divided.
use Rattle.std.proofs.Common.{◌≡◌, ℕ, zero, suc, ◌+◌, ◌<◌, ◌≤◌, List, [], ◌∷◌, None, Some, length, take, drop, refl, sym, ap, ◌∙◌, subst, arith}
use Rattle.std.specs.List.{slice_get, insert}
use Rattle.std.proofs.lemmas.List.{length-drop, length-take-le}
use Rattle.nx_piece.specs.PieceNode.{MayBeFar, PieceNode, node_weight, item_slots}
use Rattle.nx_piece.specs.declared.piece.Piece.{Piece}
use Rattle.nx_piece.specs.declared.piece.Proxy.{Proxy}
use Rattle.nx_piece.specs.Gapped.{Gapped, GappedTree, End, Grow, Gap, gapped_width, gapped_size, proxies_in, grown_of}
use Rattle.nx_piece.specs.Valid.{AreApart, AreFar, AreTrees, HaveRoots, IsBodyWithin}
use Rattle.nx_piece.specs.Locate.{Own, children_of}
use Rattle.nx_piece.proofs.SizeLemmas.{gapped_sum, sum_is_weight, sum_is_size}
use Rattle.nx_piece.proofs.LocateLemmas.{ranged_drop, ranged_take}
use Rattle.nx_piece_edits.specs.Planting.{put_at, IsWithRoot}
use Rattle.nx_piece_edits.specs.Dividing.{first_roots, roots_behind, AreDivided}
use Rattle.nx_piece_edits.proofs.PassedLemmas.{index_at}

-- A root planted:

-- roots with a leaf among them
pub record HasLeaf (f g : Gapped) (node : PieceNode) : Type 0 where
  pub trees : AreTrees g
  pub width : gapped_width g ≡ gapped_width f + 1
  pub sums : (measure : PieceNode → ℕ) → gapped_sum measure g ≡ gapped_sum measure f + measure node
  pub counted : proxies_in g ≡ proxies_in f
  pub apart : AreApart f → AreApart g
  pub far : MayBeFar node → AreFar f → AreFar g

leaf_keeps : (node : PieceNode) (i : ℕ) (f : Gapped) (ps : List Proxy) → AreTrees f → i ≤ gapped_width f → HasLeaf f (put_at (λ g. Grow node End g) i f ps) node
leaf_keeps node zero f ps trees within = record { trees = trees; width = omega arith; sums = λ measure. omega arith; counted = omega arith; apart = λ h. (tt, h); far = λ m h. (m, tt, h) }
leaf_keeps node (suc i) End ps trees within = absurd (omega (arith, within))
leaf_keeps node (suc i) (Grow n b s) ps trees within =
    let h = leaf_keeps node i s (drop (proxies_in b) ps) trees (omega (arith, within)) in
    let width = h.width in
    let counted = h.counted in
    record { trees = h.trees; width = omega (arith, width); sums = λ measure. let w = h.sums measure in omega (arith, w); counted = omega (arith, counted); apart = λ a. (a.0, h.apart a.1); far = λ m a. (a.0, a.1, h.far m a.2) }
leaf_keeps node (suc i) (Gap c s) ps trees within = absurd trees

grown_trees : (roots : List GappedTree) → AreTrees (grown_of roots)
grown_trees [] = tt
grown_trees (t ∷ roots) = grown_trees roots

pub grown_width : (roots : List GappedTree) → gapped_width (grown_of roots) ≡ length roots
grown_width [] = refl
grown_width (t ∷ roots) = let h = grown_width roots in omega (arith, h)

leaf_put : (roots : List GappedTree) (i : ℕ) (leaf : GappedTree) (ps : List Proxy) → i ≤ length roots → grown_of (insert roots i leaf) ≡ put_at (λ g. Grow leaf.node leaf.below g) i (grown_of roots) ps
leaf_put roots zero leaf ps within = refl
leaf_put [] (suc i) leaf ps within = absurd (omega (arith, within))
leaf_put (t ∷ roots) (suc i) leaf ps within = ap (Grow t.node t.below) (leaf_put roots i leaf (drop (proxies_in t.below) ps) (omega (arith, within)))

leaf_within : {most_roots slots more_roots more_slots n : ℕ} {f g : Gapped} {node : PieceNode} → IsBodyWithin most_roots slots f n → HasLeaf f g node → MayBeFar node → gapped_width g ≤ more_roots → gapped_size g ≤ more_slots → IsBodyWithin more_roots more_slots g n
leaf_within {most_roots} {slots} {more_roots} {more_slots} {n} {f} {g} {node} h k may narrow small =
    let width = k.width in
    let counts = k.counted in
    let counted = h.counted in
    record {
      trees = k.trees;
      some = omega (arith, width);
      few = narrow;
      small = small;
      apart = k.apart h.apart;
      far = k.far may h.far;
      counted = omega (arith, counts, counted);
      few_proxies = h.few_proxies;
    }

pub root_is : (piece : Piece) (member : ℕ) (node : PieceNode) (trees : List GappedTree) (roots : Gapped) → grown_of trees ≡ piece.body.roots → member ≤ gapped_width piece.body.roots → roots ≡ grown_of (insert trees member (record { node = node; below = End }))
    → IsWithRoot piece member node (record { body = record { roots = roots }; proxies = piece.proxies })
root_is piece member node trees roots all within is =
    let leaf : GappedTree = record { node = node; below = End } in
    let old : Gapped = piece.body.roots in
    let count = grown_width trees in
    let wide = ap gapped_width all in
    let body : roots ≡ put_at (λ g. Grow node End g) member old piece.proxies =
    is ∙ leaf_put trees member leaf piece.proxies (omega (arith, within, count, wide)) ∙ ap (λ (f : Gapped). put_at (λ g. Grow node End g) member f piece.proxies) all in
    let k : HasLeaf old roots node = subst (λ g. HasLeaf old g node) (sym body) (leaf_keeps node member old piece.proxies (subst AreTrees all (grown_trees trees)) within) in
    let width = k.width in
    let weights = k.sums node_weight in
    let sizes = k.sums item_slots in
    let sized : gapped_size roots ≡ gapped_size old + item_slots node = omega (arith, sizes, sum_is_size roots, sum_is_size old) in
    record {
      body = body;
      proxies = refl;
      weighs = omega (arith, weights, sum_is_weight roots, sum_is_weight old);
      sized = sized;
      width = width;
      large = λ v may most.
          let few = v.body.few in
          let small = v.body.small in
          record { body = leaf_within v.body k may (omega (arith, width, few)) (omega (arith, sized, small, most)); ranged = v.ranged };
      valid = λ v may most narrow. record { body = leaf_within v.body k may narrow most; ranged = v.ranged };
    }

-- Roots divided:

pub front_is : (roots : List GappedTree) (i : ℕ) → grown_of (take i roots) ≡ first_roots i (grown_of roots)
front_is roots zero = refl
front_is [] (suc i) = refl
front_is (t ∷ roots) (suc i) = ap (Grow t.node t.below) (front_is roots i)

pub back_is : (roots : List GappedTree) (i : ℕ) → grown_of (drop i roots) ≡ roots_behind i (grown_of roots)
back_is roots zero = refl
back_is [] (suc i) = refl
back_is (t ∷ roots) (suc i) = back_is roots i

-- the proxies before a root are those of the roots before it
pub first_is : (ps : List Proxy) (first : ℕ) (roots : List GappedTree) (i : ℕ) (t : GappedTree) (k : ℕ) → slice_get (children_of ps first (grown_of roots)) i ≡ Some (Own t k) → k ≡ first + proxies_in (first_roots i (grown_of roots))
first_is ps first [] i t k e = absurd (cc)
first_is ps first (r ∷ roots) zero t k e = let h : first ≡ k = ap (index_at 0) e in omega (arith, h)
first_is ps first (r ∷ roots) (suc i) t k e = let h = first_is ps (first + proxies_in r.below) roots i t k e in omega (arith, h)

pub root_is_there : (ps : List Proxy) (first : ℕ) (roots : List GappedTree) (i : ℕ) → i < length roots → slice_get (children_of ps first (grown_of roots)) i ≡ None → ⊥
root_is_there ps first [] i within e = absurd (omega (arith, within))
root_is_there ps first (r ∷ roots) zero within e = absurd (cc)
root_is_there ps first (r ∷ roots) (suc i) within e = root_is_there ps (first + proxies_in r.below) roots i (omega (arith, within)) e

-- roots in two rows
pub record IsInTwo (f g h : Gapped) (i : ℕ) : Type 0 where
  pub front_trees : AreTrees g
  pub back_trees : AreTrees h
  pub front_width : gapped_width g ≡ i
  pub back_width : gapped_width h + i ≡ gapped_width f
  pub sized : gapped_size g + gapped_size h ≡ gapped_size f
  pub counted : proxies_in g + proxies_in h ≡ proxies_in f
  pub apart : AreApart f → AreApart g × AreApart h
  pub far : AreFar f → AreFar g × AreFar h

pub in_two : (f : Gapped) (i : ℕ) → AreTrees f → i ≤ gapped_width f → IsInTwo f (first_roots i f) (roots_behind i f) i
in_two f zero trees within = record { front_trees = tt; back_trees = trees; front_width = refl; back_width = omega arith; sized = omega arith; counted = omega arith; apart = λ h. (tt, h); far = λ h. (tt, h) }
in_two End (suc i) trees within = absurd (omega (arith, within))
in_two (Grow n b s) (suc i) trees within =
    let h = in_two s i trees (omega (arith, within)) in
    let front = h.front_width in
    let back = h.back_width in
    let sized = h.sized in
    let counted = h.counted in
    record {
      front_trees = h.front_trees;
      back_trees = h.back_trees;
      front_width = omega (arith, front);
      back_width = omega (arith, back);
      sized = omega (arith, sized);
      counted = omega (arith, counted);
      apart = λ a. ((a.0, (h.apart a.1).0), (h.apart a.1).1);
      far = λ a. ((a.0, a.1, (h.far a.2).0), (h.far a.2).1);
    }
in_two (Gap c s) (suc i) trees within = absurd trees

halves_within : {most_roots slots n : ℕ} {f g h : Gapped} (i p q : ℕ) → IsBodyWithin most_roots slots f n → IsInTwo f g h i → 1 ≤ i → i < gapped_width f → p ≡ proxies_in g → q + p ≡ n → IsBodyWithin most_roots slots g p × IsBodyWithin most_roots slots h q
halves_within {most_roots} {slots} {n} {f} {g} {h} i p q b k some more own sum =
    let front = k.front_width in
    let back = k.back_width in
    let sized = k.sized in
    let counted = k.counted in
    let few = b.few in
    let small = b.small in
    let all = b.counted in
    let most = b.few_proxies in (
      record {
        trees = k.front_trees;
        some = omega (arith, front, some);
        few = omega (arith, front, more, few);
        small = omega (arith, sized, small);
        apart = (k.apart b.apart).0;
        far = (k.far b.far).0;
        counted = omega (arith, own);
        few_proxies = omega (arith, sum, most);
      },
      record {
        trees = k.back_trees;
        some = omega (arith, back, more);
        few = omega (arith, back, few);
        small = omega (arith, sized, small);
        apart = (k.apart b.apart).1;
        far = (k.far b.far).1;
        counted = omega (arith, counted, all, own, sum);
        few_proxies = omega (arith, sum, most);
      },
    )

pub divided_is : (piece : Piece) (member : ℕ) (front back : Gapped) (own others : List Proxy) → proxies_in piece.body.roots ≡ length piece.proxies → AreTrees piece.body.roots → 1 ≤ member → member < gapped_width piece.body.roots
    → front ≡ first_roots member piece.body.roots → back ≡ roots_behind member piece.body.roots → own ≡ take (proxies_in (first_roots member piece.body.roots)) piece.proxies → others ≡ drop (proxies_in (first_roots member piece.body.roots)) piece.proxies
    → AreDivided piece member ((record { body = record { roots = front }; proxies = own }), (record { body = record { roots = back }; proxies = others }))
divided_is piece member front back own others count trees some more front_is back_is own_is others_is =
    let old : Gapped = piece.body.roots in
    let p : ℕ = proxies_in (first_roots member old) in
    let k : IsInTwo old (first_roots member old) (roots_behind member old) member = in_two old member trees (omega (arith, more)) in
    let now : IsInTwo old front back member = subst (λ g. IsInTwo old g back member) (sym front_is) (subst (λ g. IsInTwo old (first_roots member old) g member) (sym back_is) k) in
    let sum = k.counted in
    let taken : length own ≡ p = ap length own_is ∙ length-take-le p piece.proxies (omega (arith, sum, count)) in
    let left : length others + length own ≡ length piece.proxies = let a = ap length others_is in let b = length-drop p piece.proxies in omega (arith, a, b, taken, sum, count) in
    let here : length own ≡ proxies_in front = taken ∙ sym (ap proxies_in front_is) in
    let ranged : HaveRoots piece.proxies → HaveRoots own × HaveRoots others = λ r. (subst HaveRoots (sym own_is) (ranged_take p piece.proxies r), subst HaveRoots (sym others_is) (ranged_drop p piece.proxies r)) in
    record {
      front = front_is;
      back = back_is;
      front_proxies = own_is;
      back_proxies = others_is;
      pieces = λ v.
          let two = halves_within member (length own) (length others) v.body now some more here left in
          (record { body = two.0; ranged = (ranged v.ranged).0 }, record { body = two.1; ranged = (ranged v.ranged).1 });
      valid = λ v.
          let two = halves_within member (length own) (length others) v.body now some more here left in
          (record { body = two.0; ranged = (ranged v.ranged).0 }, record { body = two.1; ranged = (ranged v.ranged).1 });
    }
