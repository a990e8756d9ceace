-- Trees taken out of roots.
use Rattle.std.proofs.Common.{◌≡◌, ℕ, zero, suc, ◌+◌, ◌<◌, ◌≤◌, List, [], ◌∷◌, ◌++◌, Option, None, Some, length, take, drop, set, refl, sym, ap, ap₂, ◌∙◌, subst, arith}
use Rattle.std.specs.List.{slice_get}
use Rattle.std.proofs.lemmas.List.{drop-drop, set_split}
use Rattle.nx_piece.specs.PieceNode.{PieceNode}
use Rattle.nx_piece.specs.declared.piece.Proxy.{Proxy}
use Rattle.nx_piece.specs.Gapped.{Gapped, GappedTree, End, Grow, Gap, proxies_in, grown_of}
use Rattle.nx_piece.specs.Valid.{AreApart}
use Rattle.nx_piece.specs.Locate.{PieceChild, Own, Kept, children_of}
use Rattle.nx_piece_edits.specs.Cutting.{without_tree}
use Rattle.nx_piece_edits.specs.Taking.{IsTakenOut}
use Rattle.nx_piece_edits.specs.Setting.{with_tree}
use Rattle.nx_piece_edits.specs.Shortening.{grown_before}
use Rattle.nx_piece_edits.proofs.TakeLemmas.{there_within, led_here, led_on}

pub grown_append : (roots more : List GappedTree) → grown_of (roots ++ more) ≡ grown_before roots (grown_of more)
grown_append [] more = refl
grown_append (t ∷ roots) more = ap (Grow t.node t.below) (grown_append roots more)

-- with another root in the place of one
pub grown_set : (roots : List GappedTree) (i : ℕ) (new : GappedTree) → i < length roots → grown_of (set roots i new) ≡ grown_before (take i roots) (Grow new.node new.below (grown_of (drop (suc i) roots)))
grown_set roots i new within = ap grown_of (set_split roots i new within) ∙ grown_append (take i roots) (new ∷ drop (suc i) roots)

-- The root with an index, before whose own proxies so many stand. What is taken out of the roots there is taken out of it.
pub record RootStands (roots : List GappedTree) (proxies : List Proxy) (first member : ℕ) (t : GappedTree) (before : ℕ) : Type 0 where
  pub there : drop member roots ≡ t ∷ drop (suc member) roots
  pub fits : before + proxies_in t.below ≤ first + proxies_in (grown_of roots)
  pub apart : AreApart (grown_of roots) → AreApart t.below
  pub cut : (path : List ℕ) → without_tree member path (grown_of roots) (drop first proxies) ≡ grown_before (take member roots) (without_tree 0 path (Grow t.node t.below (grown_of (drop (suc member) roots))) (drop before proxies))
  pub set : (path : List ℕ) (new : GappedTree) → with_tree member path new (grown_of roots) (drop first proxies) ≡ grown_before (take member roots) (with_tree 0 path new (Grow t.node t.below (grown_of (drop (suc member) roots))) (drop before proxies))

abbrev tree_of_child : GappedTree → Option PieceChild → GappedTree
tree_of_child t None = t
tree_of_child t (Some (Own u first)) = u
tree_of_child t (Some (Kept index member)) = t

abbrev first_of_child : Option PieceChild → ℕ
first_of_child None = 0
first_of_child (Some (Own u first)) = first
first_of_child (Some (Kept index member)) = 0

first_stands : (r : GappedTree) (roots : List GappedTree) (proxies : List Proxy) (first : ℕ) → RootStands (r ∷ roots) proxies first 0 r first
first_stands r roots proxies first = record { there = refl; fits = omega arith; apart = λ h. h.0; cut = λ path. refl; set = λ path new. refl }

pub root_stands : (roots : List GappedTree) (proxies : List Proxy) (first member : ℕ) (t : GappedTree) (before : ℕ) → slice_get (children_of proxies first (grown_of roots)) member ≡ Some (Own t before) → RootStands roots proxies first member t before
root_stands [] proxies first zero t before e = absurd (cc)
root_stands [] proxies first (suc member) t before e = absurd (cc)
root_stands (r ∷ roots) proxies first zero t before e =
    subst (λ (u : GappedTree). RootStands (r ∷ roots) proxies first 0 u before) (ap (tree_of_child r) e)
    (subst (λ (n : ℕ). RootStands (r ∷ roots) proxies first 0 r n) (ap first_of_child e) (first_stands r roots proxies first))
root_stands (r ∷ roots) proxies first (suc member) t before e =
    let h = root_stands roots proxies (first + proxies_in r.below) member t before e in
    record {
      there = h.there;
      fits = let f = h.fits in omega arith;
      apart = λ a. h.apart a.1;
      cut = λ path.
          ap (Grow r.node r.below) (ap (λ (ps : List Proxy). without_tree member path (grown_of roots) ps) (drop-drop (proxies_in r.below) first proxies) ∙ h.cut path);
      set = λ path new.
          ap (Grow r.node r.below) (ap (λ (ps : List Proxy). with_tree member path new (grown_of roots) ps) (drop-drop (proxies_in r.below) first proxies) ∙ h.set path new);
    }

next_place : (roots : List GappedTree) (i : ℕ) → drop (suc i) roots ≡ drop (i + 1) roots
next_place roots i = ap (λ (n : ℕ). drop n roots) (let e : suc i ≡ i + 1 = omega arith in e)

pub root_there : {roots : List GappedTree} {proxies : List Proxy} {first member before : ℕ} {t : GappedTree} → RootStands roots proxies first member t before → drop member roots ≡ t ∷ drop (member + 1) roots
root_there {roots} {proxies} {first} {member} {before} {t} h = h.there ∙ ap (λ (xs : List GappedTree). t ∷ xs) (next_place roots member)

pub root_taken : {roots : List GappedTree} {proxies : List Proxy} {first member before : ℕ} {t : GappedTree} → RootStands roots proxies first member t before → slice_get (children_of proxies first (grown_of roots)) member ≡ Some (Own t before)
    → IsTakenOut proxies first member [] (grown_of roots) (Some t) (grown_of (take member roots ++ drop (member + 1) roots))
root_taken {roots} {proxies} {first} {member} {before} {t} h e = (
  before,
  (λ used. led_here proxies first member before used (grown_of roots) t e),
  grown_append (take member roots) (drop (member + 1) roots) ∙ ap (λ (xs : List GappedTree). grown_before (take member roots) (grown_of xs)) (sym (next_place roots member)) ∙ sym (h.cut []),
)

pub root_taken_on : {roots : List GappedTree} {proxies : List Proxy} {first member before : ℕ} {t : GappedTree} (next : ℕ) (path : List ℕ) (cut : Option GappedTree) (new : GappedTree) → RootStands roots proxies first member t before
    → slice_get (children_of proxies first (grown_of roots)) member ≡ Some (Own t before) → new.node ≡ t.node → IsTakenOut proxies before next path t.below cut new.below
    → IsTakenOut proxies first member (next ∷ path) (grown_of roots) cut (grown_of (set roots member new))
root_taken_on {roots} {proxies} {first} {member} {before} {t} next path None new h e node below =
    λ used u at is. below (used + 1) u at (sym (led_on proxies first member before used next path (grown_of roots) t e) ∙ is)
root_taken_on {roots} {proxies} {first} {member} {before} {t} next path (Some cut) new h e node below = (
  below.0,
  (λ used. led_on proxies first member before used next path (grown_of roots) t e ∙ below.1 (used + 1)),
  grown_set roots member new (there_within roots member t (root_there h))
      ∙ ap₂ (λ (n : PieceNode) (b : Gapped). grown_before (take member roots) (Grow n b (grown_of (drop (suc member) roots)))) node below.2
      ∙ sym (h.cut (next ∷ path)),
)

-- The roots are told by the forest:

abbrev roots_in : Gapped → List GappedTree
roots_in End = []
roots_in (Grow node below beside) = record { node = node; below = below } ∷ roots_in beside
roots_in (Gap count beside) = []

roots_back : (roots : List GappedTree) → roots_in (grown_of roots) ≡ roots
roots_back [] = refl
roots_back (t ∷ roots) = ap (λ xs. t ∷ xs) (roots_back roots)

pub same_roots : (roots others : List GappedTree) → grown_of roots ≡ grown_of others → roots ≡ others
same_roots roots others e = sym (roots_back roots) ∙ ap roots_in e ∙ roots_back others
