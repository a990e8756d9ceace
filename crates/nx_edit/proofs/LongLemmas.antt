-- The first content of a piece that is too long for its item, and the piece with it in a list.
use Rattle.std.proofs.Common.{◌≡◌, ℕ, zero, suc, ◌+◌, ◌*◌, ◌≤◌, ◌<◌, nat_lt, Bool, true, false, if◌then◌else◌, List, [], ◌∷◌, length, drop, set, Option, None, Some, inl, inr, ◌⊎◌, refl, sym, ap, ◌∙◌, subst, arith}
use Rattle.std.specs.Prelude.{Contains, IsSome, IsTrue, MatchOption, is_some, ◌++◌}
use Rattle.std.specs.Option.{option_map_or, option_or, option_to_list}
use Rattle.std.proofs.lemmas.Bool.{false≢true}
use Rattle.std.proofs.lemmas.Bool.Decides.{nat_tests}
use Rattle.std.proofs.lemmas.List.Elements.{Contains-append_left, Contains-append_right, Contains-append_cases}
use Rattle.nx_tree.specs.declared.node.Node.{Node}
use Rattle.nx_tree.specs.Document.{longest_node}
use Rattle.nx_weights.specs.Weight.{longest_near, weight_of}
use Rattle.nx_holdings.specs.Holdings.{chain_count}
use Rattle.nx_piece.specs.declared.piece.Far.{Far}
use Rattle.nx_piece.specs.PieceNode.{PieceNode, IsNearWith, item_slots}
use Rattle.nx_piece.specs.Contents.{fars_in}
use Rattle.nx_piece.specs.declared.piece.Item.{Item}
use Rattle.nx_piece.specs.declared.piece.Item.TheVariants.{Tree, Run}
use Rattle.nx_piece.specs.Items.{gapped_of}
use Rattle.std.specs.List.{slice_get}
use Rattle.nx_piece.specs.Gapped.{Gapped, GappedTree, End, Grow, Gap, grown_of, gapped_size, gapped_weight, gapped_width, item_count, proxies_in}
use Rattle.nx_piece.specs.Valid.{AreApart, AreFar, AreNear, AreTrees, BeginsNoGap, IsBodyWithin}
use Rattle.nx_piece_edits.specs.Setting.{node_with_content}
use Rattle.nx_hold.specs.Contents.{content_pages, near_in}
use Rattle.nx_hold.proofs.NodeLemmas.{pages_long}
use Rattle.nx_hold.proofs.PieceLemmas.{some_same, no_value}
use Rattle.nx_layouts.proofs.PlaceLemmas.{one_place}
use Rattle.nx_edit.specs.Making.{IsFirstLongItem, IsFirstLongRoot, first_long, needs_list, with_far}

-- a node with its content in its item or in a list
abbrev pub item_of : Node → Option Far → PieceNode
item_of node far = record { node = node; far = far }

pub long_near : (own : List ℕ) (far : Option Far) → option_map_or (λ far. false) far (nat_lt longest_near (length own)) ≡ true → (far ≡ None) × (longest_near < length own)
long_near own None long = (refl, grind (arith, nat_tests))
long_near own (Some far) long = absurd (false≢true long)

short_near : (own : List ℕ) (far : Option Far) → option_map_or (λ far. false) far (nat_lt longest_near (length own)) ≡ false → IsNearWith own far
short_near own None short = grind (arith, nat_tests)
short_near own (Some far) short = tt

-- With the first long content in a list, what is as it was, and what is less.
pub record FarStays (far : Far) (content : List ℕ) (f g : Gapped) : Type 0 where
  pub long : longest_near < length content
  pub bound : length content < 8 * gapped_size f
  pub wide : gapped_width g ≡ gapped_width f
  pub proxies : proxies_in g ≡ proxies_in f
  pub weighs : gapped_weight g ≡ gapped_weight f
  pub size : gapped_size g < gapped_size f
  pub pages : near_in f ≡ chain_count (length content) + near_in g
  pub begins : BeginsNoGap f → BeginsNoGap g
  pub trees : AreTrees f → AreTrees g
  pub apart : AreApart f → AreApart g
  pub fars : far.length ≤ longest_node → AreFar f → AreFar g
  pub named : (other : Far) → Contains (fars_in g) other → (other ≡ far) ⊎ Contains (fars_in f) other

-- that of the first node
far_here : (far : Far) (node : Node) (own : Option Far) (b s : Gapped) → needs_list (item_of node own) ≡ true → far.length ≡ length node.content
    → FarStays far node.content (Grow (item_of node own) b s) (Grow (node_with_content [] (Some far) (item_of node own)) b s)
far_here far node (Some other) b s long same = absurd (false≢true long)
far_here far node None b s long same =
    let over : longest_near < length node.content = (long_near node.content None long).1 in
    let count : content_pages node ≡ chain_count (length node.content) = pages_long node over in
    record {
      long = over;
      bound = omega (arith, over);
      wide = refl;
      proxies = refl;
      weighs = ap (λ (n : ℕ). weight_of (length node.name) n + gapped_weight b + gapped_weight s) same;
      size = omega (arith, over);
      pages = omega (arith, count);
      begins = λ h. tt;
      trees = λ h. h;
      apart = λ h. h;
      fars = λ fits h. ((refl, subst (λ (n : ℕ). longest_near < n) (sym same) over, fits), h.1, h.2);
      named = λ other among. elim (Contains-append_cases (far ∷ []) (fars_in b ++ fars_in s) other among) [
        | inl own ↦ inl (one_place far other own)
        | inr more ↦ inr more
      ];
    }

-- that of a node below the first one, or behind it
far_below : (far : Far) (content : List ℕ) (node : PieceNode) (b c s : Gapped) → FarStays far content b c → FarStays far content (Grow node b s) (Grow node c s)
far_below far content node b c s h =
    let bound = h.bound in
    let proxies = h.proxies in
    let weighs = h.weighs in
    let size = h.size in
    let pages = h.pages in
    record {
      long = h.long;
      bound = omega (arith, bound);
      wide = refl;
      proxies = omega (arith, proxies);
      weighs = omega (arith, weighs);
      size = omega (arith, size);
      pages = omega (arith, pages);
      begins = λ is. tt;
      trees = λ is. is;
      apart = λ is. (h.apart is.0, is.1);
      fars = λ fits is. (is.0, h.fars fits is.1, is.2);
      named = λ other among. elim (Contains-append_cases (option_to_list node.far) (fars_in c ++ fars_in s) other among) [
        | inl own ↦ inr (Contains-append_left (option_to_list node.far) (fars_in b ++ fars_in s) other own)
        | inr more ↦ elim (Contains-append_cases (fars_in c) (fars_in s) other more) [
          | inl below ↦ elim (h.named other below) [
            | inl new ↦ inl new
            | inr old ↦ inr (Contains-append_right (option_to_list node.far) (fars_in b ++ fars_in s) other (Contains-append_left (fars_in b) (fars_in s) other old))
          ]
          | inr beside ↦ inr (Contains-append_right (option_to_list node.far) (fars_in b ++ fars_in s) other (Contains-append_right (fars_in b) (fars_in s) other beside))
        ]
      ];
    }

far_beside : (far : Far) (content : List ℕ) (node : PieceNode) (b s t : Gapped) → FarStays far content s t → FarStays far content (Grow node b s) (Grow node b t)
far_beside far content node b s t h =
    let bound = h.bound in
    let wide = h.wide in
    let proxies = h.proxies in
    let weighs = h.weighs in
    let size = h.size in
    let pages = h.pages in
    record {
      long = h.long;
      bound = omega (arith, bound);
      wide = omega (arith, wide);
      proxies = omega (arith, proxies);
      weighs = omega (arith, weighs);
      size = omega (arith, size);
      pages = omega (arith, pages);
      begins = λ is. tt;
      trees = λ is. h.trees is;
      apart = λ is. (is.0, h.apart is.1);
      fars = λ fits is. (is.0, is.1, h.fars fits is.2);
      named = λ other among. elim (Contains-append_cases (option_to_list node.far) (fars_in b ++ fars_in t) other among) [
        | inl own ↦ inr (Contains-append_left (option_to_list node.far) (fars_in b ++ fars_in s) other own)
        | inr more ↦ elim (Contains-append_cases (fars_in b) (fars_in t) other more) [
          | inl below ↦ inr (Contains-append_right (option_to_list node.far) (fars_in b ++ fars_in s) other (Contains-append_left (fars_in b) (fars_in s) other below))
          | inr beside ↦ elim (h.named other beside) [
            | inl new ↦ inl new
            | inr old ↦ inr (Contains-append_right (option_to_list node.far) (fars_in b ++ fars_in s) other (Contains-append_right (fars_in b) (fars_in s) other old))
          ]
        ]
      ];
    }

far_behind : (far : Far) (content : List ℕ) (count : ℕ) (s t : Gapped) → FarStays far content s t → FarStays far content (Gap count s) (Gap count t)
far_behind far content count s t h =
    let wide = h.wide in
    let proxies = h.proxies in
    record {
      long = h.long;
      bound = h.bound;
      wide = omega (arith, wide);
      proxies = omega (arith, proxies);
      weighs = h.weighs;
      size = h.size;
      pages = h.pages;
      begins = λ is. is;
      trees = λ is. is;
      apart = λ is. (is.0, h.begins is.1, h.apart is.2);
      fars = h.fars;
      named = h.named;
    }

pub far_stays : (far : Far) (content : List ℕ) (f : Gapped) → first_long f ≡ Some content → far.length ≡ length content → FarStays far content f (with_far far f)
far_stays far content End e same = absurd (no_value (sym e))
far_stays far content (Gap count s) e same = far_behind far content count s (with_far far s) (far_stays far content s e same)
far_stays far content (Grow n b s) e same =
    (elim (needs_list n) as (λ (t : Bool). needs_list n ≡ t → (if t then Some n.node.content else option_or (first_long b) (first_long s)) ≡ Some content
    → FarStays far content (Grow n b s) (if t then Grow (node_with_content [] (Some far) n) b s else option_map_or (λ there. Grow n (with_far far b) s) (first_long b) (Grow n b (with_far far s)))) [
      | true ↦ λ long there.
          let own : n.node.content ≡ content = some_same there in
          subst (λ (c : List ℕ). FarStays far c (Grow n b s) (Grow (node_with_content [] (Some far) n) b s)) own (far_here far n.node n.far b s long (same ∙ sym (ap (λ (c : List ℕ). length c) own)))
      | false ↦ λ short there.
          (elim (first_long b) as (λ (o : Option (List ℕ)). first_long b ≡ o → option_or o (first_long s) ≡ Some content
          → FarStays far content (Grow n b s) (option_map_or (λ there. Grow n (with_far far b) s) o (Grow n b (with_far far s)))) [
            | None ↦ λ none later. far_beside far content n b s (with_far far s) (far_stays far content s later same)
            | Some c ↦ λ here first. far_below far content n b (with_far far b) s (far_stays far content b (here ∙ first) same)
          ]) refl there
    ]) refl e

-- where there is none, none is too long
pub none_long : (f : Gapped) → first_long f ≡ None → AreNear f
none_long End e = tt
none_long (Gap count s) e = none_long s e
none_long (Grow n b s) e =
    (elim (needs_list n) as (λ (t : Bool). needs_list n ≡ t → (if t then Some n.node.content else option_or (first_long b) (first_long s)) ≡ None → AreNear (Grow n b s)) [
      | true ↦ λ long there. absurd (no_value there)
      | false ↦ λ short there.
          (elim (first_long b) as (λ (o : Option (List ℕ)). first_long b ≡ o → option_or o (first_long s) ≡ None → AreNear (Grow n b s)) [
            | None ↦ λ none later. (short_near n.node.content n.far short, none_long b none, none_long s later)
            | Some c ↦ λ here first. absurd (no_value first)
          ]) refl there
    ]) refl e

-- a piece stays as large as it may be
pub far_within : (far : Far) (content : List ℕ) (f g : Gapped) (most_roots most_slots proxies : ℕ) → FarStays far content f g → far.length ≤ longest_node → IsBodyWithin most_roots most_slots f proxies → IsBodyWithin most_roots most_slots g proxies
far_within far content f g most_roots most_slots proxies h fits is =
    let wide = h.wide in
    let some = is.some in
    let few = is.few in
    let size = h.size in
    let small = is.small in
    record {
      trees = h.trees is.trees;
      some = omega (arith, wide, some);
      few = omega (arith, wide, few);
      small = omega (arith, size, small);
      apart = h.apart is.apart;
      far = h.fars fits is.far;
      counted = h.proxies ∙ is.counted;
      few_proxies = is.few_proxies;
    }

-- ---- the search for that content

-- a tree that has none is passed
pass_tree : (n : PieceNode) (b s : Gapped) → first_long (Grow n b End) ≡ None → first_long (Grow n b s) ≡ first_long s
pass_tree n b s e =
    (elim (needs_list n) as (λ (t : Bool). (if t then Some n.node.content else option_or (first_long b) None) ≡ None → (if t then Some n.node.content else option_or (first_long b) (first_long s)) ≡ first_long s) [
      | true ↦ λ there. absurd (no_value there)
      | false ↦ λ there.
          (elim (first_long b) as (λ (o : Option (List ℕ)). option_or o None ≡ None → option_or o (first_long s) ≡ first_long s) [
            | None ↦ λ none. refl
            | Some c ↦ λ found. absurd (no_value found)
          ]) there
    ]) e

-- The items before this index have none.
pub record PassedLong (items : List Item) (index : ℕ) : Type 0 where
  pub same : first_long (gapped_of items) ≡ first_long (gapped_of (drop index items))
  pub later : (more : ℕ) → IsFirstLongItem (drop index items) more → IsFirstLongItem items (index + more)

pub passed_none : (items : List Item) → PassedLong items 0
passed_none items = record { same = refl; later = λ more h. let same : more ≡ 0 + more = omega arith in subst (λ (n : ℕ). IsFirstLongItem items n) same h }

pub passed_tree : (items : List Item) (index : ℕ) (tree : GappedTree) → PassedLong items index → drop index items ≡ Tree tree ∷ drop (index + 1) items → first_long (Grow tree.node tree.below End) ≡ None → PassedLong items (index + 1)
passed_tree items index tree p d none = record {
  same = p.same ∙ ap (λ (xs : List Item). first_long (gapped_of xs)) d ∙ pass_tree tree.node tree.below (gapped_of (drop (index + 1) items)) none;
  later = λ more h.
      let next : index + suc more ≡ (index + 1) + more = omega arith in
      subst (λ (n : ℕ). IsFirstLongItem items n) next (p.later (suc more) (subst (λ (xs : List Item). IsFirstLongItem xs (suc more)) (sym d) (none, h)));
}

pub passed_run : (items : List Item) (index count : ℕ) → PassedLong items index → drop index items ≡ Run count ∷ drop (index + 1) items → PassedLong items (index + 1)
passed_run items index count p d = record {
  same = p.same ∙ ap (λ (xs : List Item). first_long (gapped_of xs)) d;
  later = λ more h.
      let next : index + suc more ≡ (index + 1) + more = omega arith in
      subst (λ (n : ℕ). IsFirstLongItem items n) next (p.later (suc more) (subst (λ (xs : List Item). IsFirstLongItem xs (suc more)) (sym d) h));
}

pub passed_here : (items : List Item) (index : ℕ) (tree : GappedTree) → PassedLong items index → drop index items ≡ Tree tree ∷ drop (index + 1) items → IsSome (first_long (Grow tree.node tree.below End)) → IsFirstLongItem items index
passed_here items index tree p d some =
    let here : index + 0 ≡ index = omega arith in
    subst (λ (n : ℕ). IsFirstLongItem items n) here (p.later 0 (subst (λ (xs : List Item). IsFirstLongItem xs 0) (sym d) some))

pub passed_all : (items : List Item) (index : ℕ) → PassedLong items index → drop index items ≡ [] → first_long (gapped_of items) ≡ None
passed_all items index p d = p.same ∙ ap (λ (xs : List Item). first_long (gapped_of xs)) d

-- The tree at the index has the first one, and takes the list.
pub record IsThereLong (items : List Item) (index : ℕ) : Type 0 where
  pub tree : GappedTree
  pub there : slice_get items index ≡ Some (Tree tree)
  pub some : IsSome (first_long (Grow tree.node tree.below End))
  pub same : first_long (gapped_of items) ≡ first_long (Grow tree.node tree.below End)
  pub within : index < length items
  pub put : (far : Far) (new : GappedTree) → Grow new.node new.below End ≡ with_far far (Grow tree.node tree.below End) → gapped_of (set items index (Tree new)) ≡ with_far far (gapped_of items)
  pub small : item_slots tree.node + gapped_size tree.below ≤ gapped_size (gapped_of items)
  pub falls : item_count tree.below < item_count (gapped_of items)

-- The roots before this index have none.
pub record PassedRoots (roots : List GappedTree) (index : ℕ) : Type 0 where
  pub same : first_long (grown_of roots) ≡ first_long (grown_of (drop index roots))
  pub later : (more : ℕ) → IsFirstLongRoot (drop index roots) more → IsFirstLongRoot roots (index + more)

pub roots_none : (roots : List GappedTree) → PassedRoots roots 0
roots_none roots = record { same = refl; later = λ more h. let same : more ≡ 0 + more = omega arith in subst (λ (n : ℕ). IsFirstLongRoot roots n) same h }

pub roots_tree : (roots : List GappedTree) (index : ℕ) (tree : GappedTree) → PassedRoots roots index → drop index roots ≡ tree ∷ drop (index + 1) roots → first_long (Grow tree.node tree.below End) ≡ None → PassedRoots roots (index + 1)
roots_tree roots index tree p d none = record {
  same = p.same ∙ ap (λ (xs : List GappedTree). first_long (grown_of xs)) d ∙ pass_tree tree.node tree.below (grown_of (drop (index + 1) roots)) none;
  later = λ more h.
      let next : index + suc more ≡ (index + 1) + more = omega arith in
      subst (λ (n : ℕ). IsFirstLongRoot roots n) next (p.later (suc more) (subst (λ (xs : List GappedTree). IsFirstLongRoot xs (suc more)) (sym d) (none, h)));
}

pub roots_here : (roots : List GappedTree) (index : ℕ) (tree : GappedTree) → PassedRoots roots index → drop index roots ≡ tree ∷ drop (index + 1) roots → IsSome (first_long (Grow tree.node tree.below End)) → IsFirstLongRoot roots index
roots_here roots index tree p d some =
    let here : index + 0 ≡ index = omega arith in
    subst (λ (n : ℕ). IsFirstLongRoot roots n) here (p.later 0 (subst (λ (xs : List GappedTree). IsFirstLongRoot xs 0) (sym d) some))

pub roots_all : (roots : List GappedTree) (index : ℕ) → PassedRoots roots index → drop index roots ≡ [] → first_long (grown_of roots) ≡ None
roots_all roots index p d = p.same ∙ ap (λ (xs : List GappedTree). first_long (grown_of xs)) d

-- trees with others beside them
abbrev pub joined_gapped : Gapped → Gapped → Gapped
joined_gapped End last = last
joined_gapped (Grow node below beside) last = Grow node below (joined_gapped beside last)
joined_gapped (Gap count beside) last = Gap count (joined_gapped beside last)

-- a tree that has one keeps it, whatever stands beside
own_first : (n : PieceNode) (b s : Gapped) → IsSome (first_long (Grow n b End)) → first_long (Grow n b s) ≡ first_long (Grow n b End)
own_first n b s some =
    (elim (needs_list n) as (λ (t : Bool). IsSome (if t then Some n.node.content else option_or (first_long b) None)
    → (if t then Some n.node.content else option_or (first_long b) (first_long s)) ≡ (if t then Some n.node.content else option_or (first_long b) None)) [
      | true ↦ λ there. refl
      | false ↦ λ there.
          (elim (first_long b) as (λ (o : Option (List ℕ)). IsSome (option_or o None) → option_or o (first_long s) ≡ option_or o None) [
            | None ↦ λ none. absurd (false≢true none)
            | Some c ↦ λ found. refl
          ]) there
    ]) some

-- with its content in a list
own_far : (far : Far) (n : PieceNode) (b s : Gapped) → IsSome (first_long (Grow n b End)) → with_far far (Grow n b s) ≡ joined_gapped (with_far far (Grow n b End)) s
own_far far n b s some =
    (elim (needs_list n) as (λ (t : Bool). IsSome (if t then Some n.node.content else option_or (first_long b) None)
    → (if t then Grow (node_with_content [] (Some far) n) b s else option_map_or (λ there. Grow n (with_far far b) s) (first_long b) (Grow n b (with_far far s)))
    ≡ joined_gapped (if t then Grow (node_with_content [] (Some far) n) b End else option_map_or (λ there. Grow n (with_far far b) End) (first_long b) (Grow n b End)) s) [
      | true ↦ λ there. refl
      | false ↦ λ there.
          (elim (first_long b) as (λ (o : Option (List ℕ)). IsSome (option_or o None)
          → option_map_or (λ there. Grow n (with_far far b) s) o (Grow n b (with_far far s)) ≡ joined_gapped (option_map_or (λ there. Grow n (with_far far b) End) o (Grow n b End)) s) [
            | None ↦ λ none. absurd (false≢true none)
            | Some c ↦ λ found. refl
          ]) there
    ]) some

-- a tree that has none stays
pass_far : (far : Far) (n : PieceNode) (b s : Gapped) → first_long (Grow n b End) ≡ None → with_far far (Grow n b s) ≡ Grow n b (with_far far s)
pass_far far n b s e =
    (elim (needs_list n) as (λ (t : Bool). (if t then Some n.node.content else option_or (first_long b) None) ≡ None
    → (if t then Grow (node_with_content [] (Some far) n) b s else option_map_or (λ there. Grow n (with_far far b) s) (first_long b) (Grow n b (with_far far s))) ≡ Grow n b (with_far far s)) [
      | true ↦ λ there. absurd (no_value there)
      | false ↦ λ there.
          (elim (first_long b) as (λ (o : Option (List ℕ)). option_or o None ≡ None → option_map_or (λ there. Grow n (with_far far b) s) o (Grow n b (with_far far s)) ≡ Grow n b (with_far far s)) [
            | None ↦ λ none. refl
            | Some c ↦ λ found. absurd (no_value found)
          ]) there
    ]) e

-- the tree at the index of these items, which has the first one, and takes the list
pub item_there : (items : List Item) (index : ℕ) → IsFirstLongItem items index → IsThereLong items index
item_there [] index h = absurd h
item_there (Run count ∷ items) zero h = absurd h
item_there (Tree tree ∷ items) zero some = record {
  tree = tree;
  there = refl;
  some = some;
  same = own_first tree.node tree.below (gapped_of items) some;
  within = omega arith;
  put = λ far new e. ap (λ (g : Gapped). joined_gapped g (gapped_of items)) e ∙ sym (own_far far tree.node tree.below (gapped_of items) some);
  small = omega arith;
  falls = omega arith;
}
item_there (Run count ∷ items) (suc index) h =
    let r = item_there items index h in
    let within = r.within in
    let small = r.small in
    let falls = r.falls in
    record {
      tree = r.tree;
      there = r.there;
      some = r.some;
      same = r.same;
      within = omega (arith, within);
      put = λ far new e. ap (λ (g : Gapped). Gap count g) (r.put far new e);
      small = omega (arith, small);
      falls = omega (arith, falls);
    }
item_there (Tree tree ∷ items) (suc index) h =
    let r = item_there items index h.1 in
    let within = r.within in
    let small = r.small in
    let falls = r.falls in
    record {
      tree = r.tree;
      there = r.there;
      some = r.some;
      same = pass_tree tree.node tree.below (gapped_of items) h.0 ∙ r.same;
      within = omega (arith, within);
      put = λ far new e. ap (λ (g : Gapped). Grow tree.node tree.below g) (r.put far new e) ∙ sym (pass_far far tree.node tree.below (gapped_of items) h.0);
      small = omega (arith, small);
      falls = omega (arith, falls);
    }

-- ... of these roots
pub record IsRootLong (roots : List GappedTree) (index : ℕ) : Type 0 where
  pub tree : GappedTree
  pub there : slice_get roots index ≡ Some tree
  pub some : IsSome (first_long (Grow tree.node tree.below End))
  pub same : first_long (grown_of roots) ≡ first_long (Grow tree.node tree.below End)
  pub within : index < length roots
  pub put : (far : Far) (new : GappedTree) → Grow new.node new.below End ≡ with_far far (Grow tree.node tree.below End) → grown_of (set roots index new) ≡ with_far far (grown_of roots)
  pub small : item_slots tree.node + gapped_size tree.below ≤ gapped_size (grown_of roots)

pub root_there : (roots : List GappedTree) (index : ℕ) → IsFirstLongRoot roots index → IsRootLong roots index
root_there [] index h = absurd h
root_there (tree ∷ roots) zero some = record {
  tree = tree;
  there = refl;
  some = some;
  same = own_first tree.node tree.below (grown_of roots) some;
  within = omega arith;
  put = λ far new e. ap (λ (g : Gapped). joined_gapped g (grown_of roots)) e ∙ sym (own_far far tree.node tree.below (grown_of roots) some);
  small = omega arith;
}
root_there (tree ∷ roots) (suc index) h =
    let r = root_there roots index h.1 in
    let within = r.within in
    let small = r.small in
    record {
      tree = r.tree;
      there = r.there;
      some = r.some;
      same = pass_tree tree.node tree.below (grown_of roots) h.0 ∙ r.same;
      within = omega (arith, within);
      put = λ far new e. ap (λ (g : Gapped). Grow tree.node tree.below g) (r.put far new e) ∙ sym (pass_far far tree.node tree.below (grown_of roots) h.0);
      small = omega (arith, small);
    }

-- ---- what the search tells

or_none : (o : Option (List ℕ)) → option_or o None ≡ o
or_none None = refl
or_none (Some c) = refl

pub not_own : (n : PieceNode) (below : Gapped) → needs_list n ≡ false → first_long (Grow n below End) ≡ first_long below
not_own n below short = ap (λ (t : Bool). if t then Some n.node.content else option_or (first_long below) None) short ∙ or_none (first_long below)

pub not_some : (o : Option (List ℕ)) → (IsSome o → ⊥) → o ≡ None
not_some None not = refl
not_some (Some c) not = absurd (not refl)

found_below : (o : Option ℕ) (items : List Item) → MatchOption o (first_long (gapped_of items) ≡ None) (λ index. IsFirstLongItem items index) → (IsTrue (is_some o) → IsSome (first_long (gapped_of items))) × (IsSome (first_long (gapped_of items)) → IsTrue (is_some o))
found_below None items none = ((λ yes. absurd (false≢true yes)), λ some. absurd (false≢true (subst IsSome none some)))
found_below (Some index) items first = let r = item_there items index first in ((λ yes. subst IsSome (sym r.same) r.some), λ some. refl)

pub found_item : (o : Option ℕ) (items : List Item) (n : PieceNode) (below : Gapped) → needs_list n ≡ false → gapped_of items ≡ below → MatchOption o (first_long (gapped_of items) ≡ None) (λ index. IsFirstLongItem items index)
    → (IsTrue (is_some o) → IsSome (first_long (Grow n below End))) × (IsSome (first_long (Grow n below End)) → IsTrue (is_some o))
found_item o items n below short same found =
    let f = found_below o items found in
    let e : first_long (gapped_of items) ≡ first_long (Grow n below End) = ap first_long same ∙ sym (not_own n below short) in
    ((λ yes. subst IsSome e (f.0 yes)), λ some. f.1 (subst IsSome (sym e) some))

pub passed_other : (items : List Item) (index : ℕ) (item : Item) → PassedLong items index → drop index items ≡ item ∷ drop (index + 1) items → ((tree : GappedTree) → item ≡ Tree tree → ⊥) → PassedLong items (index + 1)
passed_other items index (Tree tree) p d not = absurd (not tree refl)
passed_other items index (Run count) p d not = passed_run items index count p d
