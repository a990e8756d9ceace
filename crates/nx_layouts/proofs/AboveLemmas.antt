-- The node above an interval that a path leads into.
use Rattle.std.proofs.Common.{◌≡◌, ℕ, zero, suc, ◌+◌, ◌-◌, ◌<◌, ◌≤◌, List, [], ◌∷◌, length, take, drop, Option, Some, refl, ap, ◌∙◌, subst, arith, inl, inr, ◌⊎◌}
use Rattle.std.proofs.lemmas.List.{length-drop}
use Rattle.nx_piece.specs.declared.piece.Proxy.{Proxy}
use Rattle.nx_piece.specs.Gapped.{GappedTree, proxies_in}
use Rattle.nx_piece.specs.Locate.{Inside, reached_in}
use Rattle.nx_piece_edits.specs.Taking.{led}
use Rattle.nx_piece_edits.proofs.LeftLemmas.{less_is, not_less}
use Rattle.nx_tree.specs.declared.node.Node.{Node}
use Rattle.nx_cuts.specs.Cut.{Bare, Grown, Kept, width, AreFree}
use Rattle.nx_layouts.specs.Layout.{LaidNode, Layout, in_record, piece_body, piece_of, proxy_of, proxies_of}
use Rattle.nx_layouts.specs.Replace.{above_at}
use Rattle.nx_layouts.specs.Cutting.{LeadsInto, AboveStands}
use Rattle.nx_layouts.proofs.PathLemmas.{StandBehind, all_behind, below_behind, beside_behind, behind_one, led_behind, path_leads_on}

-- The rest of the path begins behind a tree of the row, whose node is above the interval.
record IsBelowTree (all : List Proxy) (first used index : ℕ) (rest : List ℕ) (position : ℕ) (path : List ℕ) (row : Layout) : Type 0 where
  more : ℕ
  within : more < length path
  rest_is : rest ≡ drop (suc more) path
  tree : GappedTree
  before : ℕ
  there : led all first (piece_body row) used position (take more path) ≡ Inside tree before
  node : LaidNode
  shown : tree.node ≡ in_record node
  above : (top : Option Node) → above_at index top row ≡ Some node.node

-- Or the interval stands in the row itself.
abbrev IsInRow : (index : ℕ) (rest path : List ℕ) → Layout → Type 0
IsInRow index rest path row = (rest ≡ path) × ((top : Option Node) → above_at index top row ≡ top)

above_in : (all : List Proxy) (first used index member : ℕ) (rest : List ℕ) (inside : Layout) (position : ℕ) (path : List ℕ) (row : Layout) → StandBehind all first row → LeadsInto index member rest inside position path row
    → IsInRow index rest path row ⊎ IsBelowTree all first used index rest position path row
above_in all first used index member rest inside position path Bare s h = absurd h
above_in all first used index member rest inside zero [] (Grown n b s) stand h = absurd h
above_in all first used index member rest inside zero (q ∷ path) (Grown n b s) stand h =
    let chosen : (top : Option Node) → above_at index top (Grown n b s) ≡ above_at index (Some n.node) b =
    λ top. less_is index (length (proxies_of b)) (above_at index (Some n.node) b) (above_at (index - length (proxies_of b)) top s) h.0 in
    elim (above_in all first (used + 1) index member rest inside q path b (below_behind b s stand.back stand.front stand.is stand.long) h.1) [
      | inl here ↦ inr (record {
        more = 0;
        within = omega arith;
        rest_is = here.0;
        tree = record { node = in_record n; below = piece_body b };
        before = first;
        there = refl;
        node = n;
        shown = refl;
        above = λ top. chosen top ∙ here.1 (Some n.node);
      })
      | inr below ↦ inr (record {
        more = suc below.more;
        within = let w = below.within in omega (arith, w);
        rest_is = below.rest_is;
        tree = below.tree;
        before = below.before;
        there = below.there;
        node = below.node;
        shown = below.shown;
        above = λ top. chosen top ∙ below.above (Some n.node);
      })
    ]
above_in all first used index member rest inside (suc position) path (Grown n b s) stand h =
    let chosen : (top : Option Node) → above_at index top (Grown n b s) ≡ above_at (index - length (proxies_of b)) top s =
    λ top. not_less index (length (proxies_of b)) (above_at index (Some n.node) b) (above_at (index - length (proxies_of b)) top s) h.0 in
    elim (above_in all (first + proxies_in (piece_body b)) used (index - length (proxies_of b)) member rest inside position path s (beside_behind b s stand.back stand.front stand.is stand.long) h.1) [
      | inl here ↦ inl (here.0, λ top. chosen top ∙ here.1 top)
      | inr below ↦ inr (record {
        more = below.more;
        within = below.within;
        rest_is = below.rest_is;
        tree = below.tree;
        before = below.before;
        there = below.there;
        node = below.node;
        shown = below.shown;
        above = λ top. chosen top ∙ below.above top;
      })
    ]
above_in all first used zero member rest inside position path (Kept p m s) stand h = inl (h.2, λ top. refl)
above_in all first used (suc index) member rest inside position path (Kept p m s) stand h =
    elim (above_in all (first + 1) used index member rest inside (position - width m) path s (behind_one (proxy_of p (width m)) s stand.back stand.front stand.is stand.long) h.1) [
      | inl here ↦ inl here
      | inr below ↦ inr (record {
        more = below.more;
        within = below.within;
        rest_is = below.rest_is;
        tree = below.tree;
        before = below.before;
        there = led_behind used position (take below.more path) p m s stand h.0 ∙ below.there;
        node = below.node;
        shown = below.shown;
        above = below.above;
      })
    ]

-- how much of the path is left in the interval: less than all of it where the row has trees alone
rest_within : (index member : ℕ) (rest : List ℕ) (inside : Layout) (position : ℕ) (path : List ℕ) (row : Layout) → LeadsInto index member rest inside position path row → length rest ≤ length path
rest_within index member rest inside position path Bare h = absurd h
rest_within index member rest inside zero [] (Grown n b s) h = absurd h
rest_within index member rest inside zero (q ∷ path) (Grown n b s) h = let e = rest_within index member rest inside q path b h.1 in omega (arith, e)
rest_within index member rest inside (suc position) path (Grown n b s) h = rest_within (index - length (proxies_of b)) member rest inside position path s h.1
rest_within zero member rest inside position path (Kept p m s) h = let e = ap length (h.2) in omega (arith, e)
rest_within (suc index) member rest inside position path (Kept p m s) h = rest_within index member rest inside (position - width m) path s h.1

rest_shorter : (index member : ℕ) (rest : List ℕ) (inside : Layout) (position : ℕ) (path : List ℕ) (row : Layout) → AreFree row → LeadsInto index member rest inside position path row → length rest < length path
rest_shorter index member rest inside position path Bare free h = absurd h
rest_shorter index member rest inside zero [] (Grown n b s) free h = absurd h
rest_shorter index member rest inside zero (q ∷ path) (Grown n b s) free h = let e = rest_within index member rest inside q path b h.1 in omega (arith, e)
rest_shorter index member rest inside (suc position) path (Grown n b s) free h = rest_shorter (index - length (proxies_of b)) member rest inside position path s free h.1
rest_shorter index member rest inside position path (Kept p m s) free h = absurd free

pub above_stands : AboveStands
above_stands members member path index inner used free e =
    let on = path_leads_on members member path index inner used e in
    let within : used ≤ length path = on.within in
    elim (above_in (proxies_of members) 0 0 index inner (drop used path) on.inside member path members (all_behind members) on.into) [
      | inl here ↦
          let same = ap length here.0 in
          let less = rest_shorter index inner (drop used path) on.inside member path members free on.into in
          absurd (omega (arith, same, less))
      | inr below ↦
          let more = below.within in
          let left = length-drop used path in
          let other = length-drop (suc below.more) path in
          let same = ap length below.rest_is in
          let count : used ≡ suc below.more = omega (arith, more, left, other, same, within) in
          let back : below.more ≡ used - 1 = omega (arith, count) in
          record {
            some = omega (arith, count);
            within = within;
            tree = below.tree;
            first = below.before;
            there = subst (λ (n : ℕ). reached_in (piece_of members) member (take n path) ≡ Inside below.tree below.before) back below.there;
            node = below.node;
            shown = below.shown;
            above = below.above;
          }
    ]
