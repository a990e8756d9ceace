-- Walks over one document go one way: of two, one has come as far as the other.
use Rattle.std.proofs.Common.{◌≡◌, ◌⊎◌, ℕ, ◌+◌, ◌≤◌, List, [], ◌∷◌, ◌++◌, length, refl, sym, ap, ◌∙◌, subst, arith, inl, inr, length-append}
use Rattle.nx_tree.specs.Forest.{Plant}
use Rattle.nx_replay.specs.Log.{Pages}
use Rattle.nx_holdings.specs.Holdings.{Link}
use Rattle.nx_piece.specs.declared.piece.Proxy.{Proxy}
use Rattle.nx_piece.specs.Gapped.{Gapped, End, Grow, Gap, proxies_in}
use Rattle.nx_piece.specs.Contents.{fars_in}
use Rattle.nx_cuts.specs.Cut.{Bare, Grown, Kept, width}
use Rattle.nx_layouts.specs.Layout.{RecordPlace, LaidNode, in_record, gap_more, proxy_of}
use Rattle.nx_layouts.proofs.LayoutLemmas.{no_bare, no_grown}
use Rattle.nx_rules.specs.Walked.{Mark, Reached, Waits, Walked, walked_forest, marks_of, WaitAll, AreWalkedInOrder, walked_body, walked_proxies, content_in, contents_apart, AreRead, HoldsRecord}
use Rattle.nx_rules.proofs.ContentLemmas.{node_same, contents_counted, content_counted}
use Rattle.nx_rules.proofs.RecordLemmas.{record_one}
use Rattle.nx_rules.proofs.WithinLemmas.{Within, within_empty, within_joined}

-- The second walk has all that the first one has, and maybe more of what waits there.
abbrev pub UpTo : Walked → Walked → Type 0
UpTo Bare Bare = Unit {0}
UpTo (Grown n b s) (Grown m d t) = (n ≡ m) × UpTo b d × UpTo s t
UpTo (Kept (Reached p ls) b s) (Kept (Reached q ms) d t) = (p ≡ q) × (ls ≡ ms) × UpTo b d × UpTo s t
UpTo (Kept (Waits x) b s) (Kept (Waits y) d t) = (x ≡ y) × (b ≡ Bare) × (d ≡ Bare) × UpTo s t
UpTo (Kept (Waits x) b s) (Kept (Reached q ms) d t) = (x ≡ proxy_of q (width d)) × (b ≡ Bare) × UpTo s t
UpTo _ _ = ⊥

-- none waits
abbrev pub NoneWait : List Mark → Type 0
NoneWait [] = Unit {0}
NoneWait (Reached place links ∷ marks) = NoneWait marks
NoneWait (Waits proxy ∷ marks) = ⊥

pub wait_left : (xs ys : List Mark) → WaitAll (xs ++ ys) → WaitAll xs
wait_left [] ys h = tt
wait_left (Reached place links ∷ xs) ys h = absurd h
wait_left (Waits proxy ∷ xs) ys h = wait_left xs ys h

pub wait_right : (xs ys : List Mark) → WaitAll (xs ++ ys) → WaitAll ys
wait_right [] ys h = h
wait_right (Reached place links ∷ xs) ys h = absurd h
wait_right (Waits proxy ∷ xs) ys h = wait_right xs ys h

wait_order : (xs : List Mark) → WaitAll xs → AreWalkedInOrder xs
wait_order [] h = tt
wait_order (Reached place links ∷ xs) h = absurd h
wait_order (Waits proxy ∷ xs) h = h

pub order_left : (xs ys : List Mark) → AreWalkedInOrder (xs ++ ys) → AreWalkedInOrder xs
order_left [] ys h = tt
order_left (Reached place links ∷ xs) ys h = order_left xs ys h
order_left (Waits proxy ∷ xs) ys h = wait_left xs ys h

pub order_right : (xs ys : List Mark) → AreWalkedInOrder (xs ++ ys) → AreWalkedInOrder ys
order_right [] ys h = h
order_right (Reached place links ∷ xs) ys h = order_right xs ys h
order_right (Waits proxy ∷ xs) ys h = wait_order ys (wait_right xs ys h)

-- what stands behind waits, or nothing waits before
pub order_split : (xs ys : List Mark) → AreWalkedInOrder (xs ++ ys) → WaitAll ys ⊎ NoneWait xs
order_split [] ys h = inr tt
order_split (Reached place links ∷ xs) ys h = order_split xs ys h
order_split (Waits proxy ∷ xs) ys h = inl (wait_right xs ys h)

pub none_left : (xs ys : List Mark) → NoneWait (xs ++ ys) → NoneWait xs
none_left [] ys h = tt
none_left (Reached place links ∷ xs) ys h = none_left xs ys h
none_left (Waits proxy ∷ xs) ys h = absurd h

pub none_right : (xs ys : List Mark) → NoneWait (xs ++ ys) → NoneWait ys
none_right [] ys h = h
none_right (Reached place links ∷ xs) ys h = none_right xs ys h
none_right (Waits proxy ∷ xs) ys h = absurd h

-- where nothing waits, a walk that has all has no more
pub full : (a b : Walked) → NoneWait (marks_of a) → UpTo a b → UpTo b a
full Bare Bare h u = tt
full Bare (Grown m d t) h u = absurd u
full Bare (Kept mark d t) h u = absurd u
full (Grown n b s) Bare h u = absurd u
full (Grown n b s) (Grown m d t) h u = (sym u.0, full b d (none_left (marks_of b) (marks_of s) h) u.1, full s t (none_right (marks_of b) (marks_of s) h) u.2)
full (Grown n b s) (Kept mark d t) h u = absurd u
full (Kept (Reached p ls) b s) Bare h u = absurd u
full (Kept (Reached p ls) b s) (Grown m d t) h u = absurd u
full (Kept (Reached p ls) b s) (Kept (Reached q ms) d t) h u =
    (sym u.0, sym u.1, full b d (none_left (marks_of b) (marks_of s) h) u.2, full s t (none_right (marks_of b) (marks_of s) h) u.3)
full (Kept (Reached p ls) b s) (Kept (Waits y) d t) h u = absurd u
full (Kept (Waits x) b s) w h u = absurd h

-- where all waits in the further walk, the other is as far
pub back_all : (a b : Walked) → WaitAll (marks_of b) → UpTo a b → UpTo b a
back_all Bare Bare h u = tt
back_all Bare (Grown m d t) h u = absurd u
back_all Bare (Kept mark d t) h u = absurd u
back_all (Grown n b s) Bare h u = absurd u
back_all (Grown n b s) (Grown m d t) h u = (sym u.0, back_all b d (wait_left (marks_of d) (marks_of t) h) u.1, back_all s t (wait_right (marks_of d) (marks_of t) h) u.2)
back_all (Grown n b s) (Kept mark d t) h u = absurd u
back_all (Kept (Reached p ls) b s) Bare h u = absurd u
back_all (Kept (Waits x) b s) Bare h u = absurd u
back_all (Kept (Reached p ls) b s) (Grown m d t) h u = absurd u
back_all (Kept (Waits x) b s) (Grown m d t) h u = absurd u
back_all (Kept mark b s) (Kept (Reached q ms) d t) h u = absurd h
back_all (Kept (Reached p ls) b s) (Kept (Waits y) d t) h u = absurd u
back_all (Kept (Waits x) b s) (Kept (Waits y) d t) h u = (sym u.0, u.2, u.1, back_all s t (wait_right (marks_of d) (marks_of t) h) u.3)

-- walks that have come as far as each other are one
pub same_walk : (a b : Walked) → UpTo a b → UpTo b a → a ≡ b
same_walk Bare Bare u v = refl
same_walk Bare (Grown m d t) u v = absurd u
same_walk Bare (Kept mark d t) u v = absurd u
same_walk (Grown n b s) Bare u v = absurd u
same_walk (Grown n b s) (Grown m d t) u v =
    let x : b ≡ d = same_walk b d u.1 v.1 in
    let y : s ≡ t = same_walk s t u.2 v.2 in
    let z : n ≡ m = u.0 in
    cc
same_walk (Grown n b s) (Kept mark d t) u v = absurd u
same_walk (Kept (Reached p ls) b s) Bare u v = absurd u
same_walk (Kept (Waits x) b s) Bare u v = absurd u
same_walk (Kept (Reached p ls) b s) (Grown m d t) u v = absurd u
same_walk (Kept (Waits x) b s) (Grown m d t) u v = absurd u
same_walk (Kept (Reached p ls) b s) (Kept (Reached q ms) d t) u v =
    let w : p ≡ q = u.0 in
    let z : ls ≡ ms = u.1 in
    let x : b ≡ d = same_walk b d u.2 v.2 in
    let y : s ≡ t = same_walk s t u.3 v.3 in
    cc
same_walk (Kept (Reached p ls) b s) (Kept (Waits y) d t) u v = absurd u
same_walk (Kept (Waits x) b s) (Kept (Reached q ms) d t) u v = absurd v
same_walk (Kept (Waits x) b s) (Kept (Waits y) d t) u v =
    let w : x ≡ y = u.0 in
    let k : b ≡ Bare = u.1 in
    let l : d ≡ Bare = u.2 in
    let z : s ≡ t = same_walk s t u.3 v.3 in
    cc

-- what has been reached of a document earlier is a part of what has been later
pub upto_within : (a b : Walked) → UpTo a b → Within (walked_forest a) (walked_forest b)
upto_within Bare Bare u = refl
upto_within Bare (Grown m d t) u = absurd u
upto_within Bare (Kept mark d t) u = absurd u
upto_within (Grown n b s) Bare u = absurd u
upto_within (Grown n b s) (Grown m d t) u = inl (walked_forest b, walked_forest s, ap (λ (x : LaidNode). Plant x.node (walked_forest b) (walked_forest s)) u.0, upto_within b d u.1, upto_within s t u.2)
upto_within (Grown n b s) (Kept mark d t) u = absurd u
upto_within (Kept (Reached p ls) b s) Bare u = absurd u
upto_within (Kept (Waits x) b s) Bare u = absurd u
upto_within (Kept (Reached p ls) b s) (Grown m d t) u = absurd u
upto_within (Kept (Waits x) b s) (Grown m d t) u = absurd u
upto_within (Kept (Reached p ls) b s) (Kept (Reached q ms) d t) u = within_joined (walked_forest b) (walked_forest d) (walked_forest s) (walked_forest t) (upto_within b d u.2) (upto_within s t u.3)
upto_within (Kept (Reached p ls) b s) (Kept (Waits y) d t) u = absurd u
upto_within (Kept (Waits x) b s) (Kept (Reached q ms) d t) u =
    within_joined (walked_forest b) (walked_forest d) (walked_forest s) (walked_forest t) (subst (λ w. Within (walked_forest w) (walked_forest d)) (sym u.1) (within_empty (walked_forest d))) (upto_within s t u.2)
upto_within (Kept (Waits x) b s) (Kept (Waits y) d t) u =
    within_joined (walked_forest b) (walked_forest d) (walked_forest s) (walked_forest t) (subst (λ w. Within (walked_forest w) (walked_forest d)) (sym u.1) (within_empty (walked_forest d))) (upto_within s t u.3)

-- the first gap, where it stands first, is not empty
abbrev IsFull : Gapped → Type 0
IsFull End = Unit {0}
IsFull (Grow node below beside) = Unit {0}
IsFull (Gap count beside) = 1 ≤ count

gap_more_full : (g : Gapped) → IsFull (gap_more g)
gap_more_full End = omega arith
gap_more_full (Grow node below beside) = omega arith
gap_more_full (Gap count beside) = omega arith

body_full : (a : Walked) → IsFull (walked_body a)
body_full Bare = tt
body_full (Grown node below beside) = tt
body_full (Kept mark members beside) = gap_more_full (walked_body beside)

gap_less : (g h : Gapped) → IsFull g → IsFull h → gap_more g ≡ gap_more h → g ≡ h
gap_less End End p q e = refl
gap_less End (Grow n b s) p q e = cc
gap_less End (Gap c s) p q e = let w : 1 ≡ c + 1 = cc in absurd (omega arith)
gap_less (Grow n b s) End p q e = cc
gap_less (Grow n b s) (Grow m d t) p q e = cc
gap_less (Grow n b s) (Gap c t) p q e = let w : 1 ≡ c + 1 = cc in absurd (omega arith)
gap_less (Gap c s) End p q e = let w : c + 1 ≡ 1 = cc in absurd (omega arith)
gap_less (Gap c s) (Grow m d t) p q e = let w : c + 1 ≡ 1 = cc in absurd (omega arith)
gap_less (Gap c s) (Gap d t) p q e = let w : c + 1 ≡ d + 1 = cc in let v : c ≡ d = omega arith in cc

less : (a b : Walked) → gap_more (walked_body a) ≡ gap_more (walked_body b) → walked_body a ≡ walked_body b
less a b e = gap_less (walked_body a) (walked_body b) (body_full a) (body_full b) e

more_proxies : (g : Gapped) → proxies_in (gap_more g) ≡ 1 + proxies_in g
more_proxies End = refl
more_proxies (Grow node below beside) = refl
more_proxies (Gap count beside) = omega arith

pub proxies_counted : (a : Walked) → length (walked_proxies a) ≡ proxies_in (walked_body a)
proxies_counted Bare = refl
proxies_counted (Grown node below beside) = omega (arith, length-append (walked_proxies below) (walked_proxies beside), proxies_counted below, proxies_counted beside)
proxies_counted (Kept (Reached place links) members beside) = omega (arith, more_proxies (walked_body beside), proxies_counted beside)
proxies_counted (Kept (Waits proxy) members beside) = omega (arith, more_proxies (walked_body beside), proxies_counted beside)

-- as many first elements, and the same whole
append_front : {A : Type 0} (a b c d : List A) → length a ≡ length b → a ++ c ≡ b ++ d → (a ≡ b) × (c ≡ d)
append_front [] [] c d l e = (refl, e)
append_front [] (y ∷ b) c d l e = absurd (omega arith)
append_front (x ∷ a) [] c d l e = absurd (omega arith)
append_front (x ∷ a) (y ∷ b) c d l e =
    let h : a ++ c ≡ b ++ d = cc in
    let n : length a ≡ length b = omega arith in
    let r = append_front a b c d n h in
    let u = r.0 in let v = r.1 in let w : x ≡ y = cc in
    (cc, v)

-- a record has the same of both
pub record IsSame (a b : Walked) : Type 0 where
  pub body : walked_body a ≡ walked_body b
  pub proxies : walked_proxies a ≡ walked_proxies b
  pub contents : contents_apart a ≡ contents_apart b

pub same_back : {a b : Walked} → IsSame a b → IsSame b a
same_back h = record { body = sym h.body; proxies = sym h.proxies; contents = sym h.contents }

-- ... and then of their parts
same_grown : (n m : LaidNode) (b s d t : Walked) → IsSame (Grown n b s) (Grown m d t) → (n ≡ m) × IsSame b d × IsSame s t
same_grown n m b s d t h =
    let e : Grow (in_record n) (walked_body b) (walked_body s) ≡ Grow (in_record m) (walked_body d) (walked_body t) = h.body in
    let eb : walked_body b ≡ walked_body d = cc in let es : walked_body s ≡ walked_body t = cc in let en : in_record n ≡ in_record m = cc in
    let l : length (walked_proxies b) ≡ length (walked_proxies d) = proxies_counted b ∙ ap proxies_in eb ∙ sym (proxies_counted d) in
    let f = append_front (walked_proxies b) (walked_proxies d) (walked_proxies s) (walked_proxies t) l h.proxies in
    let own = append_front (content_in n.node.content n.list) (content_in m.node.content m.list) (contents_apart b ++ contents_apart s) (contents_apart d ++ contents_apart t) (content_counted n m en) h.contents in
    let k : length (contents_apart b) ≡ length (contents_apart d) = contents_counted b ∙ ap (λ (g : Gapped). length (fars_in g)) eb ∙ sym (contents_counted d) in
    let c = append_front (contents_apart b) (contents_apart d) (contents_apart s) (contents_apart t) k own.1 in
    (node_same n m en own.0, record { body = eb; proxies = f.0; contents = c.0 }, record { body = es; proxies = f.1; contents = c.1 })

cons_same : {A : Type 0} (x y : A) (xs ys : List A) → x ∷ xs ≡ y ∷ ys → (x ≡ y) × (xs ≡ ys)
cons_same x y xs ys e = (cc, cc)

pair_is : (a b c d : ℕ) → a ≡ b → c ≡ d → ◌≡◌ {A = ℕ × ℕ} (a, c) (b, d)
pair_is a b c d e f = cc

place_same : (p q : RecordPlace) (n m : ℕ) → proxy_of p n ≡ proxy_of q m → p ≡ q
place_same p q n m e =
    let page : p.page ≡ q.page = ap (λ (z : Proxy). z.page) e in
    let slot : p.slot ≡ q.slot = ap (λ (z : Proxy). z.slot) e in
    λ i. record { page = page i; slot = slot i }

-- what is there of a record that one walk has reached is what the other has of it
same_record : {pages : Pages} (p q : RecordPlace) (ls ms : List (List Link)) (b d : Walked) → p ≡ q → HoldsRecord pages p b ls → HoldsRecord pages q d ms → (ls ≡ ms) × IsSame b d
same_record {pages} p q ls ms b d e h g =
    let there : HoldsRecord pages p d ms = subst (λ (x : RecordPlace). HoldsRecord pages x d ms) (sym e) g in
    let one = record_one b d ls ms h there in
    (one.chains, record { body = one.roots; proxies = one.proxies; contents = one.contents })

module _ (pages : Pages) where
  -- a walk that has reached nothing of a record's trees has come no further than any other
  pub waits_upto : (a b : Walked) → IsSame a b → AreRead pages a → AreRead pages b → WaitAll (marks_of a) → UpTo a b
  waits_upto Bare Bare e p q w = tt
  waits_upto Bare (Grown n b s) e p q w = absurd (let x : End ≡ Grow (in_record n) (walked_body b) (walked_body s) = e.body in cc)
  waits_upto Bare (Kept r m s) e p q w = absurd (no_bare (walked_body s) (sym e.body))
  waits_upto (Grown n b s) Bare e p q w = absurd (let x : Grow (in_record n) (walked_body b) (walked_body s) ≡ End = e.body in cc)
  waits_upto (Grown n b s) (Grown m d t) e p q w =
      let same = same_grown n m b s d t e in
      (same.0, waits_upto b d same.1 p.0 q.0 (wait_left (marks_of b) (marks_of s) w), waits_upto s t same.2 p.1 q.1 (wait_right (marks_of b) (marks_of s) w))
  waits_upto (Grown n b s) (Kept r m t) e p q w = absurd (no_grown (walked_body t) (walked_body b) (walked_body s) (in_record n) (sym e.body))
  waits_upto (Kept (Reached r ls) m s) c e p q w = absurd w
  waits_upto (Kept (Waits x) m s) Bare e p q w = absurd (no_bare (walked_body s) e.body)
  waits_upto (Kept (Waits x) m s) (Grown n b t) e p q w = absurd (no_grown (walked_body s) (walked_body b) (walked_body t) (in_record n) e.body)
  waits_upto (Kept (Waits x) m s) (Kept (Waits y) k t) e p q w =
      let f = cons_same x y (walked_proxies s) (walked_proxies t) e.proxies in
      (f.0, p.0, q.0, waits_upto s t (record { body = less s t e.body; proxies = f.1; contents = e.contents }) p.1 q.1 (wait_right (marks_of m) (marks_of s) w))
  waits_upto (Kept (Waits x) m s) (Kept (Reached r ls) k t) e p q w =
      let f = cons_same x (proxy_of r (width k)) (walked_proxies s) (walked_proxies t) e.proxies in
      (f.0, p.0, waits_upto s t (record { body = less s t e.body; proxies = f.1; contents = e.contents }) p.1 q.2 (wait_right (marks_of m) (marks_of s) w))

-- of two parts each, the one side is as far in both, or the other
both_ways : (b d s t : Walked) → UpTo b d ⊎ UpTo d b → UpTo s t ⊎ UpTo t s → WaitAll (marks_of s) ⊎ NoneWait (marks_of b) → WaitAll (marks_of t) ⊎ NoneWait (marks_of d)
    → (WaitAll (marks_of s) → UpTo s t) → (WaitAll (marks_of t) → UpTo t s) → (UpTo b d × UpTo s t) ⊎ (UpTo d b × UpTo t s)
both_ways b d s t (inl u) (inl v) one other all all_too = inl (u, v)
both_ways b d s t (inl u) (inr v) (inl wait) other all all_too = inl (u, all wait)
both_ways b d s t (inl u) (inr v) (inr none) other all all_too = inr (full b d none u, v)
both_ways b d s t (inr u) (inl v) one (inl wait) all all_too = inr (u, all_too wait)
both_ways b d s t (inr u) (inl v) one (inr none) all all_too = inl (full d b none u, v)
both_ways b d s t (inr u) (inr v) one other all all_too = inr (u, v)

module _ (pages : Pages) where
  -- of two walks over what one record has, one has come as far as the other
  pub meet : (a b : Walked) → IsSame a b → AreRead pages a → AreRead pages b → AreWalkedInOrder (marks_of a) → AreWalkedInOrder (marks_of b) → UpTo a b ⊎ UpTo b a
  meet Bare Bare e p q o r = inl tt
  meet Bare (Grown n b s) e p q o r = absurd (let x : End ≡ Grow (in_record n) (walked_body b) (walked_body s) = e.body in cc)
  meet Bare (Kept x m s) e p q o r = absurd (no_bare (walked_body s) (sym e.body))
  meet (Grown n b s) Bare e p q o r = absurd (let x : Grow (in_record n) (walked_body b) (walked_body s) ≡ End = e.body in cc)
  meet (Grown n b s) (Grown m d t) e p q o r =
      let same = same_grown n m b s d t e in
      let u = meet b d same.1 p.0 q.0 (order_left (marks_of b) (marks_of s) o) (order_left (marks_of d) (marks_of t) r) in
      let v = meet s t same.2 p.1 q.1 (order_right (marks_of b) (marks_of s) o) (order_right (marks_of d) (marks_of t) r) in
      let back : IsSame t s = same_back same.2 in
      elim (both_ways b d s t u v (order_split (marks_of b) (marks_of s) o) (order_split (marks_of d) (marks_of t) r) (waits_upto pages s t same.2 p.1 q.1) (waits_upto pages t s back q.1 p.1)) [
        | inl x ↦ inl (same.0, x.0, x.1)
        | inr x ↦ inr (sym same.0, x.0, x.1)
      ]
  meet (Grown n b s) (Kept x m t) e p q o r = absurd (no_grown (walked_body t) (walked_body b) (walked_body s) (in_record n) (sym e.body))
  meet (Kept x m s) Bare e p q o r = absurd (no_bare (walked_body s) e.body)
  meet (Kept x m s) (Grown n b t) e p q o r = absurd (no_grown (walked_body s) (walked_body b) (walked_body t) (in_record n) e.body)
  meet (Kept (Waits x) m s) (Kept y k t) e p q o r = inl (waits_upto pages (Kept (Waits x) m s) (Kept y k t) e p q o)
  meet (Kept (Reached x ls) m s) (Kept (Waits y) k t) e p q o r =
      inr (waits_upto pages (Kept (Waits y) k t) (Kept (Reached x ls) m s) (same_back e) q p r)
  meet (Kept (Reached x ls) m s) (Kept (Reached y ms) k t) e p q o r =
      let f = cons_same (proxy_of x (width m)) (proxy_of y (width k)) (walked_proxies s) (walked_proxies t) e.proxies in
      let here : x ≡ y = place_same x y (width m) (width k) f.0 in
      let one = same_record x y ls ms m k here p.0 q.0 in
      let beside : IsSame s t = record { body = less s t e.body; proxies = f.1; contents = e.contents } in
      let u = meet m k one.1 p.1 q.1 (order_left (marks_of m) (marks_of s) o) (order_left (marks_of k) (marks_of t) r) in
      let v = meet s t beside p.2 q.2 (order_right (marks_of m) (marks_of s) o) (order_right (marks_of k) (marks_of t) r) in
      let back : IsSame t s = same_back beside in
      elim (both_ways m k s t u v (order_split (marks_of m) (marks_of s) o) (order_split (marks_of k) (marks_of t) r) (waits_upto pages s t beside p.2 q.2) (waits_upto pages t s back q.2 p.2)) [
        | inl z ↦ inl (here, one.0, z.0, z.1)
        | inr z ↦ inr (sym here, sym one.0, z.0, z.1)
      ]
