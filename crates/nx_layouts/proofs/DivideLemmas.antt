-- A row of free trees, with one more or in two.
use Rattle.std.proofs.Common.{◌≡◌, ℕ, zero, suc, ◌≤◌, List, [], ◌∷◌, ◌++◌, take, drop, refl, sym, ap, ◌∙◌, arith, append_assoc}
use Rattle.std.proofs.lemmas.List.{take_at, drop_at}
use Rattle.nx_piece.specs.declared.piece.Proxy.{Proxy}
use Rattle.nx_piece.specs.Gapped.{Gapped, GappedTree, End, Grow, proxies_in, grown_of}
use Rattle.nx_piece_edits.specs.Planting.{put_at}
use Rattle.nx_cuts.specs.Cut.{Bare, Grown, Kept, width, AreFree}
use Rattle.nx_cuts.specs.Rows.{joined_row, first, behind}
use Rattle.nx_layouts.specs.Layout.{RecordPlace, LaidNode, Layout, in_record, piece_body, proxies_of, places_of, nodes_in}
use Rattle.nx_piece_edits.specs.Dividing.{first_roots, roots_behind}
use Rattle.nx_layouts.specs.Planting.{FallsBetween, with_node, RootIsPlanted, RootsAreDivided}
use Rattle.nx_layouts.proofs.LayoutLemmas.{proxies_counted}
use Rattle.nx_layouts.proofs.PlantLemmas.{node_is_planted}

falls_free : (position : ℕ) (row : Layout) → AreFree row → position ≤ width row → FallsBetween position row
falls_free zero row f most = tt
falls_free (suc position) Bare f most = absurd (omega (arith, most))
falls_free (suc position) (Grown n b s) f most = falls_free position s f (omega (arith, most))
falls_free (suc position) (Kept p m s) f most = absurd f

planted_free : (node : LaidNode) (position : ℕ) (row : Layout) → AreFree row → position ≤ width row → joined_row (first position row) (Grown node Bare (behind position row)) ≡ with_node node position row
planted_free node zero row f most = refl
planted_free node (suc position) Bare f most = absurd (omega (arith, most))
planted_free node (suc position) (Grown n b s) f most = ap (λ (l : Layout). Grown n b l) (planted_free node position s f (omega (arith, most)))
planted_free node (suc position) (Kept p m s) f most = absurd f

body_free : (node : LaidNode) (position : ℕ) (row : Layout) (proxies : List Proxy) → AreFree row → position ≤ width row → piece_body (with_node node position row) ≡ put_at (λ f. Grow (in_record node) End f) position (piece_body row) proxies
body_free node zero row proxies f most = refl
body_free node (suc position) Bare proxies f most = absurd (omega (arith, most))
body_free node (suc position) (Grown n b s) proxies f most =
    ap (λ (g : Gapped). Grow (in_record n) (piece_body b) g) (body_free node position s (drop (proxies_in (piece_body b)) proxies) f (omega (arith, most)))
body_free node (suc position) (Kept p m s) proxies f most = absurd f

pub root_is_planted : RootIsPlanted
root_is_planted k node position row f most =
    let falls = falls_free position row f most in
    let same = planted_free node position row f most in
    record {
      falls = falls;
      same = same;
      body = λ proxies. ap piece_body same ∙ body_free node position row proxies f most;
      goes = node_is_planted k node position row falls;
    }

-- In two:

first_grown : (count : ℕ) (trees : List GappedTree) → first_roots count (grown_of trees) ≡ grown_of (take count trees)
first_grown zero trees = refl
first_grown (suc count) [] = refl
first_grown (suc count) (t ∷ trees) = ap (λ (g : Gapped). Grow t.node t.below g) (first_grown count trees)

behind_grown : (count : ℕ) (trees : List GappedTree) → roots_behind count (grown_of trees) ≡ grown_of (drop count trees)
behind_grown zero trees = refl
behind_grown (suc count) [] = refl
behind_grown (suc count) (t ∷ trees) = behind_grown count trees

first_as : (position : ℕ) (row : Layout) → piece_body (first position row) ≡ first_roots position (piece_body row) → (trees : List GappedTree) → piece_body row ≡ grown_of trees → piece_body (first position row) ≡ grown_of (take position trees)
first_as position row is trees e = is ∙ ap (first_roots position) e ∙ first_grown position trees

behind_as : (position : ℕ) (row : Layout) → piece_body (behind position row) ≡ roots_behind position (piece_body row) → (trees : List GappedTree) → piece_body row ≡ grown_of trees → piece_body (behind position row) ≡ grown_of (drop position trees)
behind_as position row is trees e = is ∙ ap (roots_behind position) e ∙ behind_grown position trees

taken_of : (one two row : Layout) → proxies_of row ≡ proxies_of one ++ proxies_of two → take (proxies_in (piece_body one)) (proxies_of row) ≡ proxies_of one
taken_of one two row e = ap (λ (ps : List Proxy). take (proxies_in (piece_body one)) ps) e ∙ take_at (proxies_of one) (proxies_of two) (proxies_in (piece_body one)) (proxies_counted one)

left_of : (one two row : Layout) → proxies_of row ≡ proxies_of one ++ proxies_of two → drop (proxies_in (piece_body one)) (proxies_of row) ≡ proxies_of two
left_of one two row e = ap (λ (ps : List Proxy). drop (proxies_in (piece_body one)) ps) e ∙ drop_at (proxies_of one) (proxies_of two) (proxies_in (piece_body one)) (proxies_counted one)

pub roots_are_divided : RootsAreDivided
roots_are_divided k zero row f most = record {
  same = refl;
  first_body = refl;
  behind_body = refl;
  first_trees = first_as zero row refl;
  behind_trees = behind_as zero row refl;
  proxies = refl;
  taken = taken_of Bare row row refl;
  left = left_of Bare row row refl;
  places = refl;
  nodes_are = refl;
  first_wide = refl;
  behind_wide = omega arith;
  weighs = omega arith;
  counted = omega arith;
  held = λ stock h. (tt, h);
  light = λ h. (tt, h);
  free = (tt, f);
}
roots_are_divided k (suc position) Bare f most = absurd (omega (arith, most))
roots_are_divided k (suc position) (Grown n b s) f most =
    let r = roots_are_divided k position s f (omega (arith, most)) in
    let one : Layout = first position s in
    let two : Layout = behind position s in
    let body = ap (λ (g : Gapped). Grow (in_record n) (piece_body b) g) r.first_body in
    let proxies = ap (λ (ps : List Proxy). proxies_of b ++ ps) r.proxies ∙ sym (append_assoc (proxies_of b) (proxies_of one) (proxies_of two)) in
    record {
      same = ap (λ (l : Layout). Grown n b l) r.same;
      first_body = body;
      behind_body = r.behind_body;
      first_trees = first_as (suc position) (Grown n b s) body;
      behind_trees = behind_as (suc position) (Grown n b s) r.behind_body;
      proxies = proxies;
      taken = taken_of (Grown n b one) two (Grown n b s) proxies;
      left = left_of (Grown n b one) two (Grown n b s) proxies;
      places = ap (λ (ps : List RecordPlace). places_of b ++ ps) r.places ∙ sym (append_assoc (places_of b) (places_of one) (places_of two));
      nodes_are = ap (λ (ns : List LaidNode). n ∷ (nodes_in b ++ ns)) r.nodes_are ∙ ap (λ (ns : List LaidNode). n ∷ ns) (sym (append_assoc (nodes_in b) (nodes_in one) (nodes_in two)));
      first_wide = let w = r.first_wide in omega (arith, w);
      behind_wide = let w = r.behind_wide in omega (arith, w, most);
      weighs = let w = r.weighs in omega (arith, w);
      counted = let w = r.counted in omega (arith, w);
      held = λ stock h. let g = r.held stock h.2 in ((h.0, h.1, g.0), g.1);
      light = λ h. let g = r.light h.1 in ((h.0, g.0), g.1);
      free = r.free;
    }
roots_are_divided k (suc position) (Kept p m s) f most = absurd f
