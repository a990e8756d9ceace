-- Drafts beside each other, and what their places change.
use Rattle.std.proofs.Common.{◌≡◌, ℕ, ◌+◌, ◌≤◌, List, ◌∷◌, ◌++◌, refl, sym, ap, ◌∙◌, subst, arith, append_assoc}
use Rattle.nx_piece.specs.declared.piece.Proxy.{Proxy}
use Rattle.nx_piece.specs.Gapped.{Gapped, GappedTree, End, Grow, Gap, proxies_in}
use Rattle.nx_piece.specs.Items.{with_last_tree}
use Rattle.nx_cuts.specs.Cut.{CutForest, Bare, Grown, Kept, width, AreFree, AreParts}
use Rattle.nx_layouts.specs.Layout.{RecordPlace, LaidNode, Layout, Stock, in_record, without_places, gap_more, piece_body, proxies_of, AreLaidParts, AreHeld}
use Rattle.nx_layouts.specs.Replace.{joined_layout}
use Rattle.nx_layouts.proofs.DrawnLemmas.{drawn_wide}
use Rattle.nx_drafts.specs.Draft.{Draft, Ends, Grows, Stands, Comes, drawn_forest, layout_before, layout_after, came, unmarked, draft_body, draft_count, draft_needs, record_pages}
use Rattle.nx_divide.specs.Marked.{many}
use Rattle.nx_build.specs.Rows.{with_proxy}

abbrev pub joined_draft : {P : Type 0} → Draft P → Draft P → Draft P
joined_draft Ends last = last
joined_draft (Grows node below beside) last = Grows node below (joined_draft beside last)
joined_draft (Stands place members beside) last = Stands place members (joined_draft beside last)
joined_draft (Comes mark members beside) last = Comes mark members (joined_draft beside last)

pub joined_draft-assoc : {P : Type 0} (a b c : Draft P) → joined_draft (joined_draft a b) c ≡ joined_draft a (joined_draft b c)
joined_draft-assoc Ends b c = refl
joined_draft-assoc (Grows n d s) b c = ap (Grows n d) (joined_draft-assoc s b c)
joined_draft-assoc (Stands r m s) b c = ap (Stands r m) (joined_draft-assoc s b c)
joined_draft-assoc (Comes u m s) b c = ap (Comes u m) (joined_draft-assoc s b c)

pub joined_draft-nothing : {P : Type 0} (a : Draft P) → joined_draft a Ends ≡ a
joined_draft-nothing Ends = refl
joined_draft-nothing (Grows n d s) = ap (Grows n d) (joined_draft-nothing s)
joined_draft-nothing (Stands r m s) = ap (Stands r m) (joined_draft-nothing s)
joined_draft-nothing (Comes u m s) = ap (Comes u m) (joined_draft-nothing s)

abbrev Made : Type 0
Made = Draft RecordPlace

pub unmarked-joined : (a b : Made) → unmarked (joined_draft a b) ≡ joined_draft (unmarked a) (unmarked b)
unmarked-joined Ends b = refl
unmarked-joined (Grows n d s) b = ap (Grows n (unmarked d)) (unmarked-joined s b)
unmarked-joined (Stands r m s) b = ap (Stands r m) (unmarked-joined s b)
unmarked-joined (Comes u m s) b = ap (Comes tt (unmarked m)) (unmarked-joined s b)

pub layout_after-joined : (a b : Made) → layout_after (joined_draft a b) ≡ joined_layout (layout_after a) (layout_after b)
layout_after-joined Ends b = refl
layout_after-joined (Grows n d s) b = ap (Grown n (layout_after d)) (layout_after-joined s b)
layout_after-joined (Stands r m s) b = ap (Kept r m) (layout_after-joined s b)
layout_after-joined (Comes u m s) b = ap (Kept u (layout_after m)) (layout_after-joined s b)

joined_layout-assoc : (a b c : Layout) → joined_layout (joined_layout a b) c ≡ joined_layout a (joined_layout b c)
joined_layout-assoc Bare b c = refl
joined_layout-assoc (Grown n d s) b c = ap (Grown n d) (joined_layout-assoc s b c)
joined_layout-assoc (Kept r m s) b c = ap (Kept r m) (joined_layout-assoc s b c)

pub layout_before-joined : (a b : Made) → layout_before (joined_draft a b) ≡ joined_layout (layout_before a) (layout_before b)
layout_before-joined Ends b = refl
layout_before-joined (Grows n d s) b = ap (Grown n (layout_before d)) (layout_before-joined s b)
layout_before-joined (Stands r m s) b = ap (Kept r m) (layout_before-joined s b)
layout_before-joined (Comes u m s) b = ap (joined_layout (layout_before m)) (layout_before-joined s b) ∙ sym (joined_layout-assoc (layout_before m) (layout_before s) (layout_before b))

pub came-joined : (a b : Made) → came (joined_draft a b) ≡ came a ++ came b
came-joined Ends b = refl
came-joined (Grows n d s) b = ap (λ (l : List RecordPlace). came d ++ l) (came-joined s b) ∙ sym (append_assoc (came d) (came s) (came b))
came-joined (Stands r m s) b = came-joined s b
came-joined (Comes u m s) b = ap (λ (l : List RecordPlace). u ∷ came m ++ l) (came-joined s b) ∙ ap (λ (l : List RecordPlace). u ∷ l) (sym (append_assoc (came m) (came s) (came b)))

pub needs-joined : {P : Type 0} (a b : Draft P) → draft_needs (joined_draft a b) ≡ draft_needs a + draft_needs b
needs-joined Ends b = omega arith
needs-joined (Grows n d s) b = omega (arith, needs-joined s b)
needs-joined (Stands r m s) b = omega (arith, needs-joined s b)
needs-joined (Comes u m s) b = omega (arith, needs-joined s b)

pub count-joined : {P : Type 0} (a b : Draft P) → draft_count (joined_draft a b) ≡ draft_count a + draft_count b
count-joined Ends b = omega arith
count-joined (Grows n d s) b = omega (arith, count-joined s b)
count-joined (Stands r m s) b = omega (arith, count-joined s b)
count-joined (Comes u m s) b = omega (arith, count-joined s b)

-- places change neither the piece nor what stands
pub body-unmarked : (a : Made) → draft_body (unmarked a) ≡ draft_body a
body-unmarked Ends = refl
body-unmarked (Grows n d s) = ap (λ (g : Gapped). Grow (in_record n) g (draft_body (unmarked s))) (body-unmarked d) ∙ ap (Grow (in_record n) (draft_body d)) (body-unmarked s)
body-unmarked (Stands r m s) = ap gap_more (body-unmarked s)
body-unmarked (Comes u m s) = ap gap_more (body-unmarked s)

pub count-unmarked : (a : Made) → draft_count (unmarked a) ≡ draft_count a
count-unmarked Ends = refl
count-unmarked (Grows n d s) = omega (arith, count-unmarked d, count-unmarked s)
count-unmarked (Stands r m s) = omega (arith, count-unmarked s)
count-unmarked (Comes u m s) = omega (arith, count-unmarked s)

pub needs-unmarked : (a : Made) → draft_needs (unmarked a) ≡ draft_needs a
needs-unmarked Ends = refl
needs-unmarked (Grows n d s) = omega (arith, needs-unmarked d, needs-unmarked s)
needs-unmarked (Stands r m s) = needs-unmarked s
needs-unmarked (Comes u m s) =
    let e : record_pages (draft_body (unmarked m)) (draft_count (unmarked m)) ≡ record_pages (draft_body m) (draft_count m) =
    ap (λ (g : Gapped). record_pages g (draft_count (unmarked m))) (body-unmarked m) ∙ ap (record_pages (draft_body m)) (count-unmarked m) in
    omega (arith, e, needs-unmarked m, needs-unmarked s)

pub drawn_forest-unmarked : (a : Made) → drawn_forest (unmarked a) ≡ drawn_forest a
drawn_forest-unmarked Ends = refl
drawn_forest-unmarked (Grows n d s) = ap (λ (c : CutForest). Grown n.node c (drawn_forest (unmarked s))) (drawn_forest-unmarked d) ∙ ap (Grown n.node (drawn_forest d)) (drawn_forest-unmarked s)
drawn_forest-unmarked (Stands r m s) = ap (Kept tt (without_places m)) (drawn_forest-unmarked s)
drawn_forest-unmarked (Comes u m s) = ap (λ (c : CutForest). Kept tt c (drawn_forest (unmarked s))) (drawn_forest-unmarked m) ∙ ap (Kept tt (drawn_forest m)) (drawn_forest-unmarked s)

pub layout_before-unmarked : (a : Made) → layout_before (unmarked a) ≡ layout_before a
layout_before-unmarked Ends = refl
layout_before-unmarked (Grows n d s) = ap (λ (c : Layout). Grown n c (layout_before (unmarked s))) (layout_before-unmarked d) ∙ ap (Grown n (layout_before d)) (layout_before-unmarked s)
layout_before-unmarked (Stands r m s) = ap (Kept r m) (layout_before-unmarked s)
layout_before-unmarked (Comes u m s) = ap (λ (c : Layout). joined_layout c (layout_before (unmarked s))) (layout_before-unmarked m) ∙ ap (joined_layout (layout_before m)) (layout_before-unmarked s)

-- what is held beside each other
pub held-parted : (stock : Stock) (a b : Layout) → AreHeld stock (joined_layout a b) → AreHeld stock a × AreHeld stock b
held-parted stock Bare b h = (tt, h)
held-parted stock (Grown n d s) b h = let r = held-parted stock s b h.2 in ((h.0, h.1, r.0), r.1)
held-parted stock (Kept p m s) b h = let r = held-parted stock s b h.2 in ((h.0, h.1, r.0), r.1)

-- what is light beside each other
pub light-parted : (k : ℕ) (a b : Layout) → AreLaidParts k (joined_layout a b) → AreLaidParts k a × AreLaidParts k b
light-parted k Bare b h = (tt, h)
light-parted k (Grown n d s) b h = let r = light-parted k s b h.1 in ((h.0, r.0), r.1)
light-parted k (Kept p m s) b h = let r = light-parted k s b h.4 in ((h.0, h.1, h.2, h.3, r.0), r.1)

-- the piece of what has come, with one more
more_proxy : (g : Gapped) → gap_more (with_proxy g) ≡ with_proxy (gap_more g)
more_proxy End = refl
more_proxy (Grow node below beside) = refl
more_proxy (Gap count End) = refl
more_proxy (Gap count (Grow node below beside)) = refl
more_proxy (Gap count (Gap more beside)) = refl

more_tree : (g : Gapped) (t : GappedTree) → gap_more (with_last_tree g t) ≡ with_last_tree (gap_more g) t
more_tree End t = refl
more_tree (Grow node below beside) t = refl
more_tree (Gap count beside) t = refl

pub body-comes : (a : Made) (u : RecordPlace) (m : Made) → draft_body (joined_draft a (Comes u m Ends)) ≡ with_proxy (draft_body a)
body-comes Ends u m = refl
body-comes (Grows n d s) u m = ap (Grow (in_record n) (draft_body d)) (body-comes s u m)
body-comes (Stands r i s) u m = ap gap_more (body-comes s u m) ∙ more_proxy (draft_body s)
body-comes (Comes r i s) u m = ap gap_more (body-comes s u m) ∙ more_proxy (draft_body s)

pub body-stands : (a : Made) (u : RecordPlace) (m : Layout) → draft_body (joined_draft a (Stands u m Ends)) ≡ with_proxy (draft_body a)
body-stands Ends u m = refl
body-stands (Grows n d s) u m = ap (Grow (in_record n) (draft_body d)) (body-stands s u m)
body-stands (Stands r i s) u m = ap gap_more (body-stands s u m) ∙ more_proxy (draft_body s)
body-stands (Comes r i s) u m = ap gap_more (body-stands s u m) ∙ more_proxy (draft_body s)

pub body-grows : (a : Made) (node : LaidNode) (below : Made) → draft_body (joined_draft a (Grows node below Ends)) ≡ with_last_tree (draft_body a) (record { node = in_record node; below = draft_body below })
body-grows Ends node below = refl
body-grows (Grows n d s) node below = ap (Grow (in_record n) (draft_body d)) (body-grows s node below)
body-grows (Stands r i s) node below = ap gap_more (body-grows s node below) ∙ more_tree (draft_body s) (record { node = in_record node; below = draft_body below })
body-grows (Comes r i s) node below = ap gap_more (body-grows s node below) ∙ more_tree (draft_body s) (record { node = in_record node; below = draft_body below })

pub proxies-joined : (a b : Made) → proxies_of (layout_after (joined_draft a b)) ≡ proxies_of (layout_after a) ++ proxies_of (layout_after b)
proxies-joined Ends b = refl
proxies-joined (Grows n d s) b = ap (λ (l : List Proxy). proxies_of (layout_after d) ++ l) (proxies-joined s b) ∙ sym (append_assoc (proxies_of (layout_after d)) (proxies_of (layout_after s)) (proxies_of (layout_after b)))
proxies-joined (Stands r m s) b = ap (λ (l : List Proxy). record { page = r.page; slot = r.slot; roots = width m } ∷ l) (proxies-joined s b)
proxies-joined (Comes r m s) b = ap (λ (l : List Proxy). record { page = r.page; slot = r.slot; roots = width (layout_after m) } ∷ l) (proxies-joined s b)

pub width-layout_after : (a : Made) → width (layout_after a) ≡ width (drawn_forest a)
width-layout_after Ends = refl
width-layout_after (Grows n d s) = omega (arith, width-layout_after s)
width-layout_after (Stands r m s) = omega (arith, width-layout_after s, drawn_wide m)
width-layout_after (Comes r m s) = omega (arith, width-layout_after m, width-layout_after s)

-- so many proxies and no more
proxies-gap_more : (g : Gapped) → proxies_in (gap_more g) ≡ 1 + proxies_in g
proxies-gap_more End = refl
proxies-gap_more (Grow n b s) = refl
proxies-gap_more (Gap count s) = omega arith

pub proxies-body : {P : Type 0} (a : Draft P) → proxies_in (draft_body a) ≡ draft_count a
proxies-body Ends = refl
proxies-body (Grows n d s) = omega (arith, proxies-body d, proxies-body s)
proxies-body (Stands r m s) = proxies-gap_more (draft_body s) ∙ ap (λ (n : ℕ). 1 + n) (proxies-body s)
proxies-body (Comes r m s) = proxies-gap_more (draft_body s) ∙ ap (λ (n : ℕ). 1 + n) (proxies-body s)

pub many-gap_more : (g : Gapped) → many (gap_more g) ≡ 1 + many g
many-gap_more End = refl
many-gap_more (Grow n b s) = refl
many-gap_more (Gap count s) = omega arith

pub many-joined : (a b : Layout) → many (piece_body (joined_layout a b)) ≡ many (piece_body a) + many (piece_body b)
many-joined Bare b = omega arith
many-joined (Grown n d s) b = omega (arith, many-joined s b)
many-joined (Kept r m s) b = let x = many-gap_more (piece_body (joined_layout s b)) in let y = many-gap_more (piece_body s) in omega (arith, x, y, many-joined s b)

some_many : (c : CutForest) (a : Draft (Unit {0})) → drawn_forest a ≡ c → AreFree c → 1 ≤ width c → 1 ≤ many (piece_body (layout_before a))
some_many c Ends e f w = let z : 0 ≡ width c = ap width e in omega (arith, z, w)
some_many c (Grows n d s) e f w = omega arith
some_many c (Stands r m s) e f w = absurd (subst AreFree (sym e) f)
some_many c (Comes u m s) e f w = absurd (subst AreFree (sym e) f)

-- each interval that comes has a node of its own
pub count_few : (k : ℕ) (a : Draft (Unit {0})) → AreParts k (drawn_forest a) → draft_count a ≤ many (piece_body (layout_before a))
count_few k Ends p = omega arith
count_few k (Grows n d s) p = omega (arith, count_few k d p.0, count_few k s p.1)
count_few k (Stands r m s) p = let x = many-gap_more (piece_body (layout_before s)) in omega (arith, x, count_few k s p.4)
count_few k (Comes u m s) p =
    let x = some_many (drawn_forest m) m refl p.1 p.0 in
    let y = many-joined (layout_before m) (layout_before s) in
    omega (arith, x, y, count_few k s p.4)
