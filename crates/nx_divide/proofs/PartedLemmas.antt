-- A row of intervals that come, parted before the last of them.
use Rattle.std.proofs.Common.{◌≡◌, ℕ, zero, suc, ◌+◌, ◌-◌, ◌≤◌, ◌<◌, List, [], ◌∷◌, ◌++◌, length, take, drop, length-drop, Option, None, Some, inl, inr, refl, sym, ap, subst, ◌∙◌, arith, append_assoc}
use Rattle.std.proofs.lemmas.List.{drop-drop, take_all}
use Rattle.std.proofs.Math.Seq.{take-nil}
use Rattle.nx_piece.specs.PieceNode.{PieceNode}
use Rattle.nx_piece.specs.declared.piece.Item.{Item}
use Rattle.nx_piece.specs.declared.piece.Item.TheVariants.{Tree, Run}
use Rattle.nx_piece.specs.declared.piece.Proxy.{Proxy}
use Rattle.nx_piece.specs.Gapped.{Gapped, End, Grow, Gap, proxies_in}
use Rattle.nx_piece.specs.Items.{gapped_of}
use Rattle.nx_piece.specs.Valid.{AreTrees}
use Rattle.nx_cuts.specs.Cut.{Bare, Grown, Kept, width, AreFree}
use Rattle.nx_cuts.proofs.FeasibleLemmas.{le_or}
use Rattle.nx_layouts.specs.Layout.{Layout, in_record, gap_more, piece_body, proxies_of}
use Rattle.nx_layouts.specs.Replace.{joined_layout}
use Rattle.nx_layouts.proofs.ReplaceLemmas.{proxies-joined_layout}
use Rattle.nx_drafts.specs.Draft.{Draft, Ends, Grows, Stands, Comes, drawn_forest, layout_before, AreHeldBut}
use Rattle.nx_divide.specs.Marked.{BeginsApart, AreWritten, IsMarkedDraft, AreMarkedMembers, ComeAll}
use Rattle.nx_divide.proofs.WrittenLemmas.{written-append}
use Rattle.nx_divide.proofs.RowLemmas.{joined_draft}
use Rattle.nx_divide.proofs.MarkedLemmas.{FirstKept, first_kept, member_held, no_items, olds_behind, comes_end}

abbrev Plan : Type 0
Plan = Draft (Unit {0})

-- The last interval has the items behind so many as members, and those before it hold the others.
pub record IsParted (h : List ℕ → Option ℕ) (position before : ℕ) (items : List Item) (olds : List Proxy) (c : Plan) : Type 0 where
  pub front : Plan
  pub members : Plan
  pub is : joined_draft front (Comes tt members Ends) ≡ c
  pub first : IsMarkedDraft None h position (gapped_of (take before items)) olds front
  pub last : AreMarkedMembers h (position + before) (gapped_of (drop before items)) (drop (proxies_in (gapped_of (take before items))) olds) members

take_both : (a b c : ℕ) (xs : List Item) → a + b ≡ c → take a xs ++ take b (drop a xs) ≡ take c xs
take_both zero b c xs e = ap (λ (n : ℕ). take n xs) (let same : b ≡ c = omega (arith, e) in same)
take_both (suc a) b c [] e = take-nil b ∙ sym (take-nil c)
take_both (suc a) b zero (x ∷ xs) e = absurd (omega (arith, e))
take_both (suc a) b (suc c) (x ∷ xs) e = ap (λ (l : List Item). x ∷ l) (take_both a b c xs (omega (arith, e)))

proxies-append : (xs ys : List Item) → proxies_in (gapped_of (xs ++ ys)) ≡ proxies_in (gapped_of xs) + proxies_in (gapped_of ys)
proxies-append [] ys = omega arith
proxies-append (Tree t ∷ xs) ys = omega (arith, proxies-append xs ys)
proxies-append (Run count ∷ xs) ys = omega (arith, proxies-append xs ys)

-- members with items behind them
joined_items : (m : Plan) (last : Layout) (xs ys : List Item) → AreFree (drawn_forest m) → piece_body (layout_before m) ≡ gapped_of xs → piece_body last ≡ gapped_of ys
    → piece_body (joined_layout (layout_before m) last) ≡ gapped_of (xs ++ ys)
joined_items Ends last [] ys free e f = f
joined_items Ends last (Tree t ∷ xs) ys free e f = cc
joined_items Ends last (Run count ∷ xs) ys free e f = cc
joined_items (Grows n b s) last [] ys free e f = cc
joined_items (Grows n b s) last (Tree t ∷ xs) ys free e f =
    let e : Grow (in_record n) (piece_body (layout_before b)) (piece_body (layout_before s)) ≡ Grow t.node t.below (gapped_of xs) = e in
    let node : in_record n ≡ t.node = cc in
    let down : piece_body (layout_before b) ≡ t.below = cc in
    let side : piece_body (layout_before s) ≡ gapped_of xs = cc in
    ap (λ (x : PieceNode). Grow x (piece_body (layout_before b)) (piece_body (joined_layout (layout_before s) last))) node ∙ ap (λ (g : Gapped). Grow t.node g (piece_body (joined_layout (layout_before s) last))) down
    ∙ ap (Grow t.node t.below) (joined_items s last xs ys free side f)
joined_items (Grows n b s) last (Run count ∷ xs) ys free e f = cc
joined_items (Stands r i s) last xs ys free e f = absurd free
joined_items (Comes u i s) last xs ys free e f = absurd free

-- the first of a row is held as it is in what it begins
front_apart : (index : ℕ) (h : List ℕ → Option ℕ) (position : ℕ) (a b c : Plan) → joined_draft a b ≡ c → BeginsApart index h position c → BeginsApart index h position a
front_apart index h position a b c e apart = begins a (subst (BeginsApart index h position) (sym e) apart)
  where
    begins : (a : Plan) → BeginsApart index h position (joined_draft a b) → BeginsApart index h position a
    begins Ends apart = tt
    begins (Grows n d s) apart = apart
    begins (Stands r m s) apart = apart
    begins (Comes u m s) apart = apart

none_behind : (items : List Item) → End ≡ gapped_of items → length items ≤ 0
none_behind [] e = omega arith
none_behind (x ∷ items) e = absurd (no_items (x ∷ items) e (omega arith))

some_behind : (h : List ℕ → Option ℕ) (position : ℕ) (items : List Item) (olds : List Proxy) (u : Unit {0}) (i s : Plan) → IsMarkedDraft None h position (gapped_of items) olds (Comes u i s) → 1 ≤ length items
some_behind h position [] olds u i s m = absurd (comes_end i (layout_before s) (m.light).1 (m.light).0 m.items_are)
some_behind h position (x ∷ items) olds u i s m = omega arith

-- these trees from a position on are held alike, and the one before them otherwise
abbrev pub AreLast : (List ℕ → Option ℕ) → Option ℕ → (position first end : ℕ) → Type 0
AreLast h o position first end = ((j : ℕ) → first ≤ j → j < end → h (j ∷ []) ≡ o) × ((j : ℕ) → j + 1 ≡ first → position ≤ j → h (j ∷ []) ≡ o → ⊥)

module _ (h : List ℕ → Option ℕ) (o : Option ℕ) (position : ℕ) (items : List Item) (olds : List Proxy) (i : Plan) where
  module _ (f : FirstKept h position items olds i Ends) where
    whole : length items ≤ width (drawn_forest i)
    whole =
        let none = none_behind (drop (width (drawn_forest i)) items) (f.along).items_are in
        let long = length-drop (width (drawn_forest i)) items in
        omega (arith, none, long)

    -- where it is the only interval, nothing is before it
    alone_first : (before : ℕ) → before < length items → AreLast h o position (position + before) (position + length items) → before ≡ 0
    alone_first zero low last = refl
    alone_first (suc n) low last =
        let held : (j : ℕ) → position ≤ j → j < position + width (drawn_forest i) → h (j ∷ []) ≡ Some (f.inside).index = λ j from to. member_held (f.inside).index h position i j (f.inside).free ((f.inside).marked).agrees from to in
        let most = whole in
        let same : o ≡ Some (f.inside).index = sym (last.0 (position + suc n) (omega arith) (omega (arith, low))) ∙ held (position + suc n) (omega arith) (omega (arith, low, most)) in
        absurd (last.1 (position + n) (omega arith) (omega arith) (held (position + n) (omega arith) (omega (arith, low, most)) ∙ sym same))

    alone_parted : (u : Unit {0}) (before : ℕ) → before ≡ 0 → IsParted h position before items olds (Comes u i Ends)
    alone_parted u zero none = record {
      front = Ends;
      members = i;
      is = refl;
      first = record { items_are = refl; written = tt; behind = olds; olds_are = refl; light = tt; agrees = tt };
      last = subst (λ (p : ℕ). AreMarkedMembers h p (gapped_of items) olds i) (let e : position ≡ position + 0 = omega arith in e)
          (subst (λ (l : List Item). AreMarkedMembers h position (gapped_of l) olds i) (take_all (width (drawn_forest i)) items whole) (f.inside));
    }
    alone_parted u (suc n) none = absurd (omega (arith, none))

  module _ (v : Unit {0}) (k t : Plan) (f : FirstKept h position items olds i (Comes v k t)) where
    abbrev wide : ℕ
    wide = width (drawn_forest i)

    abbrev others : List Item
    others = drop wide items

    abbrev left : List Proxy
    left = drop (proxies_in (gapped_of (take wide items))) olds

    -- where another follows, the last begins behind the first
    behind_first : (before : ℕ) → before < length items → AreLast h o position (position + before) (position + length items) → wide ≤ before
    behind_first before low last = elim (le_or before wide) [
      | inl less ↦
          let some : 1 ≤ wide = (f.inside).some in
          let more = some_behind h (position + wide) others left v k t f.along in
          let long = length-drop wide items in
          let end : wide - 1 + 1 ≡ wide = omega (arith, some) in
          let held : h ((position + (wide - 1)) ∷ []) ≡ Some (f.inside).index = member_held (f.inside).index h position i (position + (wide - 1)) (f.inside).free ((f.inside).marked).agrees (omega arith) (omega (arith, end)) in
          let same : o ≡ Some (f.inside).index = sym (last.0 (position + (wide - 1)) (omega (arith, less, end)) (omega (arith, end, more, long))) ∙ held in
          absurd (f.ends (last.0 (position + wide) (omega (arith, less)) (omega (arith, more, long)) ∙ same))
      | inr more ↦ more
    ]

    joined_parted : (u : Unit {0}) (before : ℕ) → wide ≤ before → IsParted h (position + wide) (before - wide) others left (Comes v k t) → IsParted h position before items olds (Comes u i (Comes v k t))
    joined_parted u before low r = record {
      front = Comes tt i r.front;
      members = r.members;
      is = ap (Comes tt i) r.is;
      first = record {
        items_are = joined_items i (layout_before r.front) (take wide items) (take (before - wide) others) (f.inside).free ((f.inside).marked).items_are (r.first).items_are ∙ ap gapped_of taken;
        written = subst (λ (l : List Item). AreWritten (gapped_of l)) taken (written-append (take wide items) (take (before - wide) others) ((f.inside).marked).written (r.first).written);
        behind = (r.first).behind;
        olds_are = ((f.inside).marked).olds_are ∙ ap (λ (l : List Proxy). proxies_of (layout_before i) ++ l) (sym left_is ∙ (r.first).olds_are)
            ∙ sym (append_assoc (proxies_of (layout_before i)) (proxies_of (layout_before r.front)) (r.first).behind) ∙ ap (λ (l : List Proxy). l ++ (r.first).behind) (sym (proxies-joined_layout (layout_before i) (layout_before r.front)));
        light = ((f.inside).some, (f.inside).free, (f.inside).weighs, ((f.inside).marked).light, (r.first).light);
        agrees = ((f.inside).index, front_apart (f.inside).index h (position + wide) r.front (Comes tt r.members Ends) (Comes v k t) r.is f.ends, ((f.inside).marked).agrees, (r.first).agrees);
      };
      last = subst (λ (p : ℕ). AreMarkedMembers h p (gapped_of (drop before items)) (drop (proxies_in (gapped_of (take before items))) olds) r.members) (let e : position + wide + (before - wide) ≡ position + before = omega (arith, low) in e)
          (subst (λ (l : List Item). AreMarkedMembers h (position + wide + (before - wide)) (gapped_of l) (drop (proxies_in (gapped_of (take before items))) olds) r.members) dropped
          (subst (λ (l : List Proxy). AreMarkedMembers h (position + wide + (before - wide)) (gapped_of (drop (before - wide) others)) l r.members) left_behind r.last));
    }
      where
        taken : take wide items ++ take (before - wide) others ≡ take before items
        taken = take_both wide (before - wide) before items (omega (arith, low))

        left_is : left ≡ ((f.inside).marked).behind
        left_is = olds_behind (layout_before i) (gapped_of (take wide items)) olds ((f.inside).marked).behind ((f.inside).marked).items_are ((f.inside).marked).olds_are

        dropped : drop (before - wide) others ≡ drop before items
        dropped = drop-drop (before - wide) wide items ∙ ap (λ (n : ℕ). drop n items) (let e : wide + (before - wide) ≡ before = omega (arith, low) in e)

        left_behind : drop (proxies_in (gapped_of (take (before - wide) others))) left ≡ drop (proxies_in (gapped_of (take before items))) olds
        left_behind = drop-drop (proxies_in (gapped_of (take (before - wide) others))) (proxies_in (gapped_of (take wide items))) olds
            ∙ ap (λ (n : ℕ). drop n olds) (sym (proxies-append (take wide items) (take (before - wide) others)) ∙ ap (λ (l : List Item). proxies_in (gapped_of l)) taken)

-- where the last interval begins, the row is parted
pub last_parted : (h : List ℕ → Option ℕ) (o : Option ℕ) (position before : ℕ) (items : List Item) (olds : List Proxy) (c : Plan) → IsMarkedDraft None h position (gapped_of items) olds c → ComeAll c → before < length items
    → AreLast h o position (position + before) (position + length items) → IsParted h position before items olds c
last_parted h o position before items olds Ends m come low last = absurd (no_items items m.items_are (omega (arith, low)))
last_parted h o position before items olds (Grows n b s) m come low last = absurd come
last_parted h o position before items olds (Stands r i s) m come low last = absurd come
last_parted h o position before items olds (Comes u i Ends) m come low last =
    let f = first_kept h position items olds u i Ends m in
    alone_parted h o position items olds i f u before (alone_first h o position items olds i f before low last)
last_parted h o position before items olds (Comes u i (Grows n b s)) m come low last = absurd come
last_parted h o position before items olds (Comes u i (Stands r a s)) m come low last = absurd come
last_parted h o position before items olds (Comes u i (Comes v k t)) m come low last =
    let f = first_kept h position items olds u i (Comes v k t) m in
    let behind : width (drawn_forest i) ≤ before = behind_first h o position items olds i v k t f before low last in
    let long = length-drop (width (drawn_forest i)) items in
    joined_parted h o position items olds i v k t f u before behind
    (last_parted h o (position + width (drawn_forest i)) (before - width (drawn_forest i)) (drop (width (drawn_forest i)) items) (drop (proxies_in (gapped_of (take (width (drawn_forest i)) items))) olds) (Comes v k t) f.along come
    (omega (arith, behind, low, long))
    (λ j from to. last.0 j (omega (arith, from, behind)) (omega (arith, to, long, behind, low)), λ j next from held. last.1 j (omega (arith, next, behind)) (omega (arith, from)) held))

no_trees : (g : Gapped) → AreTrees (gap_more g) → ⊥
no_trees End t = t
no_trees (Grow n b s) t = t
no_trees (Gap count s) t = t

trees_behind : (a b : Layout) → AreTrees (piece_body (joined_layout a b)) → AreTrees (piece_body b)
trees_behind Bare b t = t
trees_behind (Grown n d s) b t = trees_behind s b t
trees_behind (Kept r m s) b t = absurd (no_trees (piece_body (joined_layout s b)) t)

-- trees that intervals hold are members of intervals that come
pub all_come : (position : ℕ) (c : Plan) → AreHeldBut None position c → AreTrees (piece_body (layout_before c)) → ComeAll c
all_come position Ends held trees = tt
all_come position (Grows n b s) held trees = absurd (none_named held.0)
  where
    none_named : {p : ℕ} → None ≡ Some p → ⊥
    none_named e = cc
all_come position (Stands r m s) held trees = absurd (no_trees (piece_body (layout_before s)) trees)
all_come position (Comes u i s) held trees = all_come (position + width (drawn_forest i)) s held (trees_behind (layout_before i) (layout_before s) trees)
