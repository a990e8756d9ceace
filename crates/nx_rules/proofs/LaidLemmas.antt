-- Documents that a walk has come through whole are laid out in their records.
use Rattle.std.proofs.Common.{◌≡◌, ◌⊎◌, ℕ, ◌+◌, ◌<◌, ◌≤◌, List, [], ◌∷◌, ◌++◌, refl, sym, ap, ◌∙◌, subst, arith, inl, inr}
use Rattle.std.specs.Prelude.{Contains, All}
use Rattle.std.proofs.lemmas.List.Elements.{All-head, All-tail, Contains-append_left, Contains-append_right, Contains-append_cases, Contains-push_cases}
use Rattle.nx_replay.specs.Log.{Pages}
use Rattle.nx_holdings.specs.Holdings.{times, Link, pages_of_links}
use Rattle.nx_holdings.proofs.TimesLemmas.{times-append}
use Rattle.nx_piece.specs.declared.piece.Stored.{Stored}
use Rattle.nx_piece.specs.declared.piece.Stored.TheVariants.{Inline, Chained}
use Rattle.nx_piece.specs.Gapped.{Gapped, gapped_size, gapped_weight, gapped_width as body_width}
use Rattle.nx_piece.specs.Valid.{IsValid, AreTrees, AreFar}
use Rattle.nx_piece.proofs.SizeLemmas.{weight_within}
use Rattle.nx_cuts.specs.Cut.{Bare, Grown, Kept, width, AreFree}
use Rattle.nx_layouts.specs.Layout.{RecordPlace, without_places, laid_weight, AreLaidParts, proxy_of, proxies_of, places_of}
use Rattle.nx_layouts.proofs.DrawnLemmas.{drawn_wide, free_drawn}
use Rattle.nx_layouts.proofs.PlaceLemmas.{first_among, later_among}
use Rattle.nx_layouts.proofs.SizeLemmas.{body_weight}
use Rattle.nx_hold.specs.Pieces.{roots_stored}
use Rattle.nx_rules.specs.Walked.{Reached, Waits, Walked, layout_of, marks_of, records_reached, links_behind, links_in, walked_body, walked_proxies, HoldsRecord, AreRead, AreAllLight}
use Rattle.nx_rules.specs.Tour.{Visit, IsVisit, all_reached, all_links}
use Rattle.nx_rules.proofs.FirstLemmas.{pages_append}
use Rattle.nx_rules.proofs.MeetLemmas.{NoneWait, none_left, none_right}
use Rattle.nx_rules.proofs.VisitLemmas.{HasTrees, has_trees, no_trees}
use Rattle.nx_rules.proofs.RuleLemmas.{width_trees}

-- a walk that waits for nothing has the proxies and the places of its layout

pub layout_width : (w : Walked) → width (layout_of w) ≡ width w
layout_width Bare = refl
layout_width (Grown n b s) = ap (λ k. 1 + k) (layout_width s)
layout_width (Kept mark b s) =
    let x : width (layout_of b) ≡ width b = layout_width b in
    let y : width (layout_of s) ≡ width s = layout_width s in
    cc

pub layout_proxies : (w : Walked) → NoneWait (marks_of w) → proxies_of (layout_of w) ≡ walked_proxies w
layout_proxies Bare h = refl
layout_proxies (Grown n b s) h =
    let x : proxies_of (layout_of b) ≡ walked_proxies b = layout_proxies b (none_left (marks_of b) (marks_of s) h) in
    let y : proxies_of (layout_of s) ≡ walked_proxies s = layout_proxies s (none_right (marks_of b) (marks_of s) h) in
    cc
layout_proxies (Kept (Reached p ls) b s) h =
    let x : width (layout_of b) ≡ width b = layout_width b in
    let y : proxies_of (layout_of s) ≡ walked_proxies s = layout_proxies s (none_right (marks_of b) (marks_of s) h) in
    ap (λ n. proxy_of p n ∷ proxies_of (layout_of s)) x ∙ ap (λ l. proxy_of p (width b) ∷ l) y
layout_proxies (Kept (Waits x) b s) h = absurd h

pub layout_places : (w : Walked) → NoneWait (marks_of w) → places_of (layout_of w) ≡ records_reached w
layout_places Bare h = refl
layout_places (Grown n b s) h =
    let x : places_of (layout_of b) ≡ records_reached b = layout_places b (none_left (marks_of b) (marks_of s) h) in
    let y : places_of (layout_of s) ≡ records_reached s = layout_places s (none_right (marks_of b) (marks_of s) h) in
    cc
layout_places (Kept (Reached p ls) b s) h =
    let x : places_of (layout_of b) ≡ records_reached b = layout_places b (none_left (marks_of b) (marks_of s) h) in
    let y : places_of (layout_of s) ≡ records_reached s = layout_places s (none_right (marks_of b) (marks_of s) h) in
    ap (λ l. p ∷ l ++ places_of (layout_of s)) x ∙ ap (λ l. p ∷ records_reached b ++ l) y
layout_places (Kept (Waits x) b s) h = absurd h

layout_free : (w : Walked) → AreTrees (walked_body w) → AreFree (layout_of w)
layout_free Bare h = tt
layout_free (Grown n b s) h = layout_free s h
layout_free (Kept x b s) h = absurd (no_trees (walked_body s) h)

pub some_trees : (w : Walked) → HasTrees (walked_body w) → 1 ≤ width w
some_trees w h = let e : width w ≡ body_width (walked_body w) = width_trees w h.trees in let s : 1 ≤ body_width (walked_body w) = h.some in omega (arith, e, s)

stored_far : (stored : Stored) → IsValid stored → AreFar (roots_stored stored)
stored_far (Inline piece) valid = valid.body.far
stored_far (Chained body count chain) valid = valid.body.far

pub holds_far : {pages : Pages} {place : RecordPlace} {members : Walked} {chains : List (List Link)} → HoldsRecord pages place members chains → AreFar (walked_body members)
holds_far h = subst (λ (g : Gapped). AreFar g) h.roots (stored_far h.stored h.there.valid)

-- no part weighs more than its items take
pub holds_weight : {pages : Pages} {place : RecordPlace} {members : Walked} {chains : List (List Link)} → HoldsRecord pages place members chains → laid_weight (layout_of members) ≤ gapped_size (walked_body members)
holds_weight {members = members} h =
    let far : AreFar (walked_body members) = holds_far h in
    let few : gapped_weight (walked_body members) ≤ gapped_size (walked_body members) = weight_within (walked_body members) far in
    let same : gapped_weight (walked_body members) ≡ laid_weight (layout_of members) = body_weight (layout_of members) in
    omega (arith, few, same)

pub layout_parts : (pages : Pages) (k : ℕ) (w : Walked) → NoneWait (marks_of w) → AreRead pages w → AreAllLight k w → AreLaidParts k (layout_of w)
layout_parts pages k Bare h r l = tt
layout_parts pages k (Grown n b s) h r l = (layout_parts pages k b (none_left (marks_of b) (marks_of s) h) r.0 l.0, layout_parts pages k s (none_right (marks_of b) (marks_of s) h) r.1 l.1)
layout_parts pages k (Kept (Reached p ls) b s) h r l =
    let none = none_left (marks_of b) (marks_of s) h in
    let trees = has_trees r.0 in
    let wide : width (layout_of b) ≡ width b = layout_width b in
    let drawn : width (without_places (layout_of b)) ≡ width (layout_of b) = drawn_wide (layout_of b) in
    let some : 1 ≤ width b = some_trees b trees in
    let weight : laid_weight (layout_of b) ≤ gapped_size (walked_body b) = holds_weight r.0 in
    let light : gapped_size (walked_body b) ≤ k = l.0 in
    (omega (arith, wide, drawn, some), free_drawn (layout_of b) (layout_free b trees.trees), omega (arith, weight, light), layout_parts pages k b none r.1 l.1, layout_parts pages k s (none_right (marks_of b) (marks_of s) h) r.2 l.2)
layout_parts pages k (Kept (Waits x) b s) h r l = absurd h

-- the record at a place was reached, with these chain pages and these trees
abbrev pub Has : RecordPlace → List (List Link) → Walked → Walked → Type 0
Has p ls m Bare = ⊥
Has p ls m (Grown node below beside) = Has p ls m below ⊎ Has p ls m beside
Has p ls m (Kept (Reached q ks) members beside) = ((p ≡ q) × (ls ≡ ks) × (m ≡ members)) ⊎ (Has p ls m members ⊎ Has p ls m beside)
Has p ls m (Kept (Waits proxy) members beside) = Has p ls m members ⊎ Has p ls m beside

abbrev pub HasIn : RecordPlace → List (List Link) → Walked → List Visit → Type 0
HasIn p ls m [] = ⊥
HasIn p ls m (v ∷ visits) = Has p ls m v.walked ⊎ HasIn p ls m visits

no_member : {x : RecordPlace} → Contains [] x → ⊥
no_member h = let n : h.0 < 0 = h.1 in omega (arith, n)

-- each place that was reached has such trees
pub has_place : (p : RecordPlace) (w : Walked) → Contains (records_reached w) p → (ls : List (List Link)) × (m : Walked) × Has p ls m w
has_place p Bare h = absurd (no_member h)
has_place p (Grown n b s) h =
    elim (Contains-append_cases (records_reached b) (records_reached s) p h) [
      | inl x ↦ (let y = has_place p b x in (y.0, y.1, inl y.2))
      | inr x ↦ (let y = has_place p s x in (y.0, y.1, inr y.2))
    ]
has_place p (Kept (Reached q ls) b s) h =
    elim (Contains-append_cases (q ∷ records_reached b) (records_reached s) p h) [
      | inl x ↦ elim (Contains-append_cases (q ∷ []) (records_reached b) p x) [
        | inl y ↦ elim (Contains-push_cases [] q p y) [
          | inl none ↦ absurd (no_member none)
          | inr same ↦ (ls, b, inl (sym same, refl, refl))
        ]
        | inr y ↦ (let z = has_place p b y in (z.0, z.1, inr (inl z.2)))
      ]
      | inr x ↦ (let y = has_place p s x in (y.0, y.1, inr (inr y.2)))
    ]
has_place p (Kept (Waits x) b s) h =
    elim (Contains-append_cases (records_reached b) (records_reached s) p h) [
      | inl x ↦ (let y = has_place p b x in (y.0, y.1, inl y.2))
      | inr x ↦ (let y = has_place p s x in (y.0, y.1, inr y.2))
    ]

pub has_in : (p : RecordPlace) (vs : List Visit) → Contains (all_reached vs) p → (ls : List (List Link)) × (m : Walked) × HasIn p ls m vs
has_in p [] h = absurd (no_member h)
has_in p (v ∷ vs) h =
    elim (Contains-append_cases (records_reached v.walked) (all_reached vs) p h) [
      | inl x ↦ (let y = has_place p v.walked x in (y.0, y.1, inl y.2))
      | inr x ↦ (let y = has_in p vs x in (y.0, y.1, inr y.2))
    ]

has_reached : (p : RecordPlace) (ls : List (List Link)) (m w : Walked) → Has p ls m w → Contains (records_reached w) p
has_reached p ls m Bare h = absurd h
has_reached p ls m (Grown n b s) (inl h) = Contains-append_left (records_reached b) (records_reached s) p (has_reached p ls m b h)
has_reached p ls m (Grown n b s) (inr h) = Contains-append_right (records_reached b) (records_reached s) p (has_reached p ls m s h)
has_reached p ls m (Kept (Reached q ks) b s) (inl h) = subst (λ (x : RecordPlace). Contains (q ∷ records_reached b ++ records_reached s) x) (sym h.0) (first_among q (records_reached b ++ records_reached s))
has_reached p ls m (Kept (Reached q ks) b s) (inr (inl h)) = later_among q (records_reached b ++ records_reached s) p (Contains-append_left (records_reached b) (records_reached s) p (has_reached p ls m b h))
has_reached p ls m (Kept (Reached q ks) b s) (inr (inr h)) = later_among q (records_reached b ++ records_reached s) p (Contains-append_right (records_reached b) (records_reached s) p (has_reached p ls m s h))
has_reached p ls m (Kept (Waits x) b s) (inl h) = Contains-append_left (records_reached b) (records_reached s) p (has_reached p ls m b h)
has_reached p ls m (Kept (Waits x) b s) (inr h) = Contains-append_right (records_reached b) (records_reached s) p (has_reached p ls m s h)

pub reached_of : (p : RecordPlace) (ls : List (List Link)) (m : Walked) (vs : List Visit) → HasIn p ls m vs → Contains (all_reached vs) p
reached_of p ls m [] h = absurd h
reached_of p ls m (v ∷ vs) (inl h) = Contains-append_left (records_reached v.walked) (all_reached vs) p (has_reached p ls m v.walked h)
reached_of p ls m (v ∷ vs) (inr h) = Contains-append_right (records_reached v.walked) (all_reached vs) p (reached_of p ls m vs h)

-- ... and its record holds them
pub has_read : (pages : Pages) (p : RecordPlace) (ls : List (List Link)) (m w : Walked) → AreRead pages w → Has p ls m w → HoldsRecord pages p m ls
has_read pages p ls m Bare r h = absurd h
has_read pages p ls m (Grown n b s) r (inl h) = has_read pages p ls m b r.0 h
has_read pages p ls m (Grown n b s) r (inr h) = has_read pages p ls m s r.1 h
has_read pages p ls m (Kept (Reached q ks) b s) r (inl h) =
    subst (λ (x : RecordPlace). HoldsRecord pages x m ls) (sym h.0)
    (subst (λ (l : List (List Link)). HoldsRecord pages q m l) (sym h.1) (subst (λ (w : Walked). HoldsRecord pages q w ks) (sym h.2) r.0))
has_read pages p ls m (Kept (Reached q ks) b s) r (inr (inl h)) = has_read pages p ls m b r.1 h
has_read pages p ls m (Kept (Reached q ks) b s) r (inr (inr h)) = has_read pages p ls m s r.2 h
has_read pages p ls m (Kept (Waits x) b s) r (inl h) = absurd (subst (λ w. Has p ls m w) r.0 h)
has_read pages p ls m (Kept (Waits x) b s) r (inr h) = has_read pages p ls m s r.1 h

pub in_read : (pages : Pages) (k : ℕ) (p : RecordPlace) (ls : List (List Link)) (m : Walked) (vs : List Visit) → All (IsVisit pages k) vs → HasIn p ls m vs → HoldsRecord pages p m ls
in_read pages k p ls m [] a h = absurd h
in_read pages k p ls m (v ∷ vs) a (inl h) = has_read pages p ls m v.walked (All-head (IsVisit pages k) v vs a).read h
in_read pages k p ls m (v ∷ vs) a (inr h) = in_read pages k p ls m vs (All-tail (IsVisit pages k) v vs a) h

-- how often a page is among those of one record, and of two
pub two_more : (x : ℕ) (ls ms : List Link) → times x (pages_of_links (ls ++ ms)) ≡ times x (pages_of_links ls) + times x (pages_of_links ms)
two_more x ls ms = ap (times x) (pages_append ls ms) ∙ times-append x (pages_of_links ls) (pages_of_links ms)

abbrev pub often : ℕ → List Link → ℕ
often x links = times x (pages_of_links links)

-- ... in the lists of one record
abbrev pub often_in : ℕ → List (List Link) → ℕ
often_in x chains = often x (links_behind chains)

pub has_often : (x : ℕ) (p : RecordPlace) (ls : List (List Link)) (m w : Walked) → Has p ls m w → often_in x ls ≤ often x (links_in w)
has_often x p ls m Bare h = absurd h
has_often x p ls m (Grown n b s) h = let e = two_more x (links_in b) (links_in s) in
    elim h [ inl h ↦ (let i = has_often x p ls m b h in omega (arith, e, i)) | inr h ↦ (let i = has_often x p ls m s h in omega (arith, e, i)) ]
has_often x p ls m (Kept (Reached q ks) b s) h = let e = two_more x (links_behind ks ++ links_in b) (links_in s) in let f = two_more x (links_behind ks) (links_in b) in
    elim h [
      | inl h ↦ (let i : often_in x ls ≡ often_in x ks = ap (often_in x) h.1 in omega (arith, e, f, i))
      | inr h ↦ elim h [ inl h ↦ (let i = has_often x p ls m b h in omega (arith, e, f, i)) | inr h ↦ (let i = has_often x p ls m s h in omega (arith, e, f, i)) ]
    ]
has_often x p ls m (Kept (Waits y) b s) h = let e = two_more x (links_in b) (links_in s) in
    elim h [ inl h ↦ (let i = has_often x p ls m b h in omega (arith, e, i)) | inr h ↦ (let i = has_often x p ls m s h in omega (arith, e, i)) ]

two_often : (x : ℕ) (p q : RecordPlace) (ls ks : List (List Link)) (m n w : Walked) → (p ≡ q → ⊥) → Has p ls m w → Has q ks n w → often_in x ls + often_in x ks ≤ often x (links_in w)
two_often x p q ls ks m n Bare a h g = absurd h
two_often x p q ls ks m n (Grown node b s) a h g = let e = two_more x (links_in b) (links_in s) in
    elim h [
      | inl h ↦ elim g [
        | inl g ↦ (let i = two_often x p q ls ks m n b a h g in omega (arith, e, i))
        | inr g ↦ (let i = has_often x p ls m b h in let j = has_often x q ks n s g in omega (arith, e, i, j))
      ]
      | inr h ↦ elim g [
        | inl g ↦ (let i = has_often x p ls m s h in let j = has_often x q ks n b g in omega (arith, e, i, j))
        | inr g ↦ (let i = two_often x p q ls ks m n s a h g in omega (arith, e, i))
      ]
    ]
two_often x p q ls ks m n (Kept (Reached r os) b s) a h g = let e = two_more x (links_behind os ++ links_in b) (links_in s) in let f = two_more x (links_behind os) (links_in b) in
    elim h [
      | inl h ↦ (let same : often_in x ls ≡ often_in x os = ap (often_in x) h.1 in elim g [
        | inl g ↦ absurd (a (h.0 ∙ sym g.0))
        | inr g ↦ elim g [
          | inl g ↦ (let j = has_often x q ks n b g in omega (arith, e, f, same, j))
          | inr g ↦ (let j = has_often x q ks n s g in omega (arith, e, f, same, j))
        ]
      ])
      | inr h ↦ elim h [
        | inl h ↦ (let i = has_often x p ls m b h in elim g [
          | inl g ↦ (let same : often_in x ks ≡ often_in x os = ap (often_in x) g.1 in omega (arith, e, f, i, same))
          | inr g ↦ elim g [
            | inl g ↦ (let both = two_often x p q ls ks m n b a h g in omega (arith, e, f, both))
            | inr g ↦ (let j = has_often x q ks n s g in omega (arith, e, f, i, j))
          ]
        ])
        | inr h ↦ (let i = has_often x p ls m s h in elim g [
          | inl g ↦ (let same : often_in x ks ≡ often_in x os = ap (often_in x) g.1 in omega (arith, e, f, i, same))
          | inr g ↦ elim g [
            | inl g ↦ (let j = has_often x q ks n b g in omega (arith, e, f, i, j))
            | inr g ↦ (let both = two_often x p q ls ks m n s a h g in omega (arith, e, f, both))
          ]
        ])
      ]
    ]
two_often x p q ls ks m n (Kept (Waits y) b s) a h g = let e = two_more x (links_in b) (links_in s) in
    elim h [
      | inl h ↦ elim g [
        | inl g ↦ (let i = two_often x p q ls ks m n b a h g in omega (arith, e, i))
        | inr g ↦ (let i = has_often x p ls m b h in let j = has_often x q ks n s g in omega (arith, e, i, j))
      ]
      | inr h ↦ elim g [
        | inl g ↦ (let i = has_often x p ls m s h in let j = has_often x q ks n b g in omega (arith, e, i, j))
        | inr g ↦ (let i = two_often x p q ls ks m n s a h g in omega (arith, e, i))
      ]
    ]

pub in_often : (x : ℕ) (p : RecordPlace) (ls : List (List Link)) (m : Walked) (vs : List Visit) → HasIn p ls m vs → often_in x ls ≤ often x (all_links vs)
in_often x p ls m [] h = absurd h
in_often x p ls m (v ∷ vs) h = let e = two_more x (links_in v.walked) (all_links vs) in
    elim h [ inl h ↦ (let i = has_often x p ls m v.walked h in omega (arith, e, i)) | inr h ↦ (let i = in_often x p ls m vs h in omega (arith, e, i)) ]

pub two_in : (x : ℕ) (p q : RecordPlace) (ls ks : List (List Link)) (m n : Walked) (vs : List Visit) → (p ≡ q → ⊥) → HasIn p ls m vs → HasIn q ks n vs → often_in x ls + often_in x ks ≤ often x (all_links vs)
two_in x p q ls ks m n [] a h g = absurd h
two_in x p q ls ks m n (v ∷ vs) a h g = let e = two_more x (links_in v.walked) (all_links vs) in
    elim h [
      | inl h ↦ elim g [
        | inl g ↦ (let i = two_often x p q ls ks m n v.walked a h g in omega (arith, e, i))
        | inr g ↦ (let i = has_often x p ls m v.walked h in let j = in_often x q ks n vs g in omega (arith, e, i, j))
      ]
      | inr h ↦ elim g [
        | inl g ↦ (let i = in_often x p ls m vs h in let j = has_often x q ks n v.walked g in omega (arith, e, i, j))
        | inr g ↦ (let i = two_in x p q ls ks m n vs a h g in omega (arith, e, i))
      ]
    ]
