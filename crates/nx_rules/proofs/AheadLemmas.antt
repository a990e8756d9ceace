-- Where one walk has come further than another, it has reached the record that the other comes to next.
use Rattle.std.proofs.Common.{◌≡◌, ◌⊎◌, ℕ, ◌≤◌, Bool, true, false, List, [], ◌∷◌, ◌++◌, refl, sym, ap, ◌∙◌, subst, inl, inr, append_assoc, append-nil}
use Rattle.std.specs.Prelude.{if◌then◌else◌, ◌||◌}
use Rattle.nx_replay.specs.Log.{Pages}
use Rattle.nx_holdings.specs.Holdings.{Link}
use Rattle.nx_piece.specs.declared.piece.Proxy.{Proxy}
use Rattle.nx_piece.specs.Gapped.{gapped_size}
use Rattle.nx_cuts.specs.Cut.{Bare, Grown, Kept, width}
use Rattle.nx_layouts.specs.Layout.{RecordPlace, LaidNode, proxy_of}
use Rattle.nx_rules.specs.Walked.{Mark, Reached, Waits, Walked, marks_of, records_reached, links_in, links_behind, Namer, ByRecord, Named, named_place, waiting_in, WaitAll, AreWalkedInOrder, walked_body, HoldsRecord, AreRead, AreAllLight}
use Rattle.nx_rules.specs.Broken.{waits, reached_first}
use Rattle.nx_rules.proofs.MeetLemmas.{UpTo, NoneWait, none_left, none_right, wait_left, wait_right, order_left, order_right, order_split, full, back_all, same_walk}

-- The second walk has reached the record that the first comes to next.
pub record IsAhead (pages : Pages) (k : ℕ) (a b : Walked) (named : Named) : Type 0 where
  pub links : List (List Link)
  pub members : Walked
  pub holds : HoldsRecord pages (named_place named) members links
  pub read : AreRead pages members
  pub light : gapped_size (walked_body members) ≤ k
  pub roots : width members ≡ named.proxy.roots
  pub places : List RecordPlace
  pub reached : records_reached b ≡ records_reached a ++ named_place named ∷ places
  pub others : List Link
  pub chains : links_in b ≡ links_in a ++ (links_behind links ++ others)
  pub goes : (new : Walked) → UpTo new members → UpTo (reached_first (named_place named) links new a) b

-- the same of two parts
pub record AreAhead (pages : Pages) (k : ℕ) (b s d t : Walked) (named : Named) : Type 0 where
  pub links : List (List Link)
  pub members : Walked
  pub holds : HoldsRecord pages (named_place named) members links
  pub read : AreRead pages members
  pub light : gapped_size (walked_body members) ≤ k
  pub roots : width members ≡ named.proxy.roots
  pub places : List RecordPlace
  pub reached : records_reached d ++ records_reached t ≡ (records_reached b ++ records_reached s) ++ named_place named ∷ places
  pub others : List Link
  pub chains : links_in d ++ links_in t ≡ (links_in b ++ links_in s) ++ (links_behind links ++ others)
  pub goes : (new : Walked) → UpTo new members
      → ((waits b ≡ true) × UpTo (reached_first (named_place named) links new b) d × UpTo s t) ⊎ ((waits b ≡ false) × UpTo b d × UpTo (reached_first (named_place named) links new s) t)

pub none_reached : (a : Walked) → WaitAll (marks_of a) → (records_reached a ≡ []) × (links_in a ≡ [])
none_reached Bare w = (refl, refl)
none_reached (Grown n b s) w =
    let x = none_reached b (wait_left (marks_of b) (marks_of s) w) in
    let y = none_reached s (wait_right (marks_of b) (marks_of s) w) in
    (ap (λ l. l ++ records_reached s) x.0 ∙ y.0, ap (λ l. l ++ links_in s) x.1 ∙ y.1)
none_reached (Kept (Reached p ls) b s) w = absurd w
none_reached (Kept (Waits p) b s) w =
    let x = none_reached b (wait_left (marks_of b) (marks_of s) w) in
    let y = none_reached s (wait_right (marks_of b) (marks_of s) w) in
    (ap (λ l. l ++ records_reached s) x.0 ∙ y.0, ap (λ l. l ++ links_in s) x.1 ∙ y.1)

pub none_both : (xs ys : List Mark) → NoneWait xs → NoneWait ys → NoneWait (xs ++ ys)
none_both [] ys h g = g
none_both (Reached p ls ∷ xs) ys h g = none_both xs ys h g
none_both (Waits p ∷ xs) ys h g = absurd h

append_none : {A : Type 0} (xs ys : List A) → xs ++ ys ≡ [] → (xs ≡ []) × (ys ≡ [])
append_none [] ys e = (refl, e)
append_none (x ∷ xs) ys e = absurd (cc)

pub none_waits : (by : Namer) (a : Walked) → waiting_in by a ≡ [] → NoneWait (marks_of a)
none_waits by Bare e = tt
none_waits by (Grown n b s) e =
    let both = append_none (waiting_in by b) (waiting_in by s) e in none_both (marks_of b) (marks_of s) (none_waits by b both.0) (none_waits by s both.1)
none_waits by (Kept (Reached p ls) b s) e =
    let both = append_none (waiting_in (ByRecord p.page) b) (waiting_in by s) e in none_both (marks_of b) (marks_of s) (none_waits (ByRecord p.page) b both.0) (none_waits by s both.1)
none_waits by (Kept (Waits p) b s) e = absurd (cc)

pub waits_none : (by : Namer) (a : Walked) → NoneWait (marks_of a) → waiting_in by a ≡ []
waits_none by Bare h = refl
waits_none by (Grown n b s) h =
    ap (λ l. l ++ waiting_in by s) (waits_none by b (none_left (marks_of b) (marks_of s) h)) ∙ waits_none by s (none_right (marks_of b) (marks_of s) h)
waits_none by (Kept (Reached p ls) b s) h =
    ap (λ l. l ++ waiting_in by s) (waits_none (ByRecord p.page) b (none_left (marks_of b) (marks_of s) h)) ∙ waits_none by s (none_right (marks_of b) (marks_of s) h)
waits_none by (Kept (Waits p) b s) h = absurd h

-- the first of two lists joined
pub first_of_two : {A : Type 0} (xs ys : List A) (n : A) (o : List A) → xs ++ ys ≡ n ∷ o → ((more : List A) × (xs ≡ n ∷ more)) ⊎ ((xs ≡ []) × (ys ≡ n ∷ o))
first_of_two [] ys n o e = inr (refl, e)
first_of_two (x ∷ xs) ys n o e = let w : x ≡ n = cc in inl (xs, ap (λ y. y ∷ xs) w)

or_true : (a b : Bool) → b ≡ true → (a || b) ≡ true
or_true true b e = refl
or_true false b e = e

pub waits_true : (by : Namer) (a : Walked) (n : Named) (o : List Named) → waiting_in by a ≡ n ∷ o → waits a ≡ true
waits_true by Bare n o e = absurd (cc)
waits_true by (Grown x b s) n o e =
    elim (first_of_two (waiting_in by b) (waiting_in by s) n o e) [
      | inl h ↦ ap (λ w. w || waits s) (waits_true by b n h.0 h.1)
      | inr h ↦ or_true (waits b) (waits s) (waits_true by s n o h.1)
    ]
waits_true by (Kept (Reached p ls) b s) n o e =
    elim (first_of_two (waiting_in (ByRecord p.page) b) (waiting_in by s) n o e) [
      | inl h ↦ ap (λ w. w || waits s) (waits_true (ByRecord p.page) b n h.0 h.1)
      | inr h ↦ or_true (waits b) (waits s) (waits_true by s n o h.1)
    ]
waits_true by (Kept (Waits p) b s) n o e = refl

pub waits_false : (by : Namer) (a : Walked) → waiting_in by a ≡ [] → waits a ≡ false
waits_false by Bare e = refl
waits_false by (Grown x b s) e =
    let both = append_none (waiting_in by b) (waiting_in by s) e in ap (λ w. w || waits s) (waits_false by b both.0) ∙ waits_false by s both.1
waits_false by (Kept (Reached p ls) b s) e =
    let both = append_none (waiting_in (ByRecord p.page) b) (waiting_in by s) e in ap (λ w. w || waits s) (waits_false (ByRecord p.page) b both.0) ∙ waits_false by s both.1
waits_false by (Kept (Waits p) b s) e = absurd (cc)

-- what comes in the first part, with nothing in the second
pub grow_first : {A : Type 0} (d b s x t : List A) → d ≡ b ++ x → s ≡ [] → d ++ t ≡ (b ++ s) ++ (x ++ t)
grow_first d b s x t e none =
    ap (λ l. l ++ t) e ∙ append_assoc b x t ∙ ap (λ l. l ++ (x ++ t)) (sym (append-nil b) ∙ ap (λ l. b ++ l) (sym none))

pub grow_second : {A : Type 0} (d b t s x : List A) → d ≡ b → t ≡ s ++ x → d ++ t ≡ (b ++ s) ++ x
grow_second d b t s x e f = ap (λ l. l ++ t) e ∙ ap (λ l. b ++ l) f ∙ sym (append_assoc b s x)

module _ (pages : Pages) (k : ℕ) where
  ahead_first : (b s d t : Walked) (named : Named) (by : Namer) (more : List Named) → waiting_in by b ≡ named ∷ more → WaitAll (marks_of s) → UpTo s t → IsAhead pages k b d named → AreAhead pages k b s d t named
  ahead_first b s d t named by more here wait u h =
      let none = none_reached s wait in
      record {
        links = h.links;
        members = h.members;
        holds = h.holds;
        read = h.read;
        light = h.light;
        roots = h.roots;
        places = h.places ++ records_reached t;
        reached = grow_first (records_reached d) (records_reached b) (records_reached s) (named_place named ∷ h.places) (records_reached t) h.reached none.0;
        others = h.others ++ links_in t;
        chains = grow_first (links_in d) (links_in b) (links_in s) (links_behind h.links ++ h.others) (links_in t) h.chains none.1 ∙ ap (λ l. (links_in b ++ links_in s) ++ l) (append_assoc (links_behind h.links) h.others (links_in t));
        goes = λ new v. inl (waits_true by b named more here, h.goes new v, u);
      }

  ahead_second : (b s d t : Walked) (named : Named) (by : Namer) → waiting_in by b ≡ [] → UpTo b d → IsAhead pages k s t named → AreAhead pages k b s d t named
  ahead_second b s d t named by none u h =
      let same : b ≡ d = same_walk b d u (full b d (none_waits by b none) u) in
      record {
        links = h.links;
        members = h.members;
        holds = h.holds;
        read = h.read;
        light = h.light;
        roots = h.roots;
        places = h.places;
        reached = grow_second (records_reached d) (records_reached b) (records_reached t) (records_reached s) (named_place named ∷ h.places) (ap records_reached (sym same)) h.reached;
        others = h.others;
        chains = grow_second (links_in d) (links_in b) (links_in t) (links_in s) (links_behind h.links ++ h.others) (ap links_in (sym same)) h.chains;
        goes = λ new v. inr (waits_false by b none, u, h.goes new v);
      }

  -- two parts, of which it is known of each by itself
  two_parts : (b s d t : Walked) (named : Named) (by other : Namer) (others : List Named) → UpTo b d → UpTo s t → AreWalkedInOrder (marks_of b ++ marks_of s) → AreWalkedInOrder (marks_of d ++ marks_of t)
      → waiting_in by b ++ waiting_in other s ≡ named ∷ others
      → ((more : List Named) → waiting_in by b ≡ named ∷ more → UpTo d b ⊎ IsAhead pages k b d named) → (waiting_in other s ≡ named ∷ others → UpTo t s ⊎ IsAhead pages k s t named)
      → (UpTo d b × UpTo t s) ⊎ AreAhead pages k b s d t named
  two_parts b s d t named by other others u v o r e first second =
      elim (first_of_two (waiting_in by b) (waiting_in other s) named others e) [
        | inl h ↦
            let wait : WaitAll (marks_of s) = elim (order_split (marks_of b) (marks_of s) o) [ inl w ↦ w | inr none ↦ absurd (let x = sym (waits_none by b none) ∙ h.1 in cc x) ] in
            elim (first h.0 h.1) [
              | inl back ↦
                  let same : b ≡ d = same_walk b d u back in
                  let behind : WaitAll (marks_of t) =
                  elim (order_split (marks_of d) (marks_of t) r) [ inl w ↦ w | inr none ↦ absurd (let x = sym (waits_none by d none) ∙ ap (waiting_in by) (sym same) ∙ h.1 in cc x) ] in
                  inl (back, back_all s t behind v)
              | inr ahead ↦ inr (ahead_first b s d t named by h.0 h.1 wait v ahead)
            ]
        | inr h ↦ elim (second h.1) [
          | inl back ↦ inl (full b d (none_waits by b h.0) u, back)
          | inr ahead ↦ inr (ahead_second b s d t named by h.0 u ahead)
        ]
      ]

grow_third : {A : Type 0} (ls ms d t b s x : List A) → ls ≡ ms → d ++ t ≡ (b ++ s) ++ x → (ms ++ d) ++ t ≡ ((ls ++ b) ++ s) ++ x
grow_third ls ms d t b s x e f =
    append_assoc ms d t ∙ ap (λ l. ms ++ l) f ∙ sym (append_assoc ms (b ++ s) x) ∙ ap (λ l. l ++ x) (sym (append_assoc ms b s)) ∙ ap (λ l. ((l ++ b) ++ s) ++ x) (sym e)

named_same : (by : Namer) (x : Proxy) (rest : List Named) (named : Named) (others : List Named) → record { by = by; proxy = x } ∷ rest ≡ named ∷ others → record { by = by; proxy = x } ≡ named
named_same by x rest named others e = cc

two_none : {A : Type 0} (b s x : List A) → b ≡ [] → s ≡ [] → x ≡ (b ++ s) ++ x
two_none b s x e f = sym (ap (λ l. (l ++ s) ++ x) e ∙ ap (λ l. l ++ x) f)

module _ (pages : Pages) (k : ℕ) where
  ahead_grown : (n m : LaidNode) (b s d t : Walked) (named : Named) → n ≡ m → AreAhead pages k b s d t named → IsAhead pages k (Grown n b s) (Grown m d t) named
  ahead_grown n m b s d t named same h = record {
    links = h.links;
    members = h.members;
    holds = h.holds;
    read = h.read;
    light = h.light;
    roots = h.roots;
    places = h.places;
    reached = h.reached;
    others = h.others;
    chains = h.chains;
    goes = λ new v.
        let there : Walked → Walked → Walked = λ one other. Grown n one other in
        let first = reached_first (named_place named) h.links new b in
        let second = reached_first (named_place named) h.links new s in
        let P : Bool → Type 0 = λ w. UpTo (if w then Grown n first s else Grown n b second) (Grown m d t) in
        elim (h.goes new v) [
          | inl x ↦ subst P (sym x.0) (same, x.1, x.2)
          | inr x ↦ subst P (sym x.0) (same, x.1, x.2)
        ];
  }

  ahead_kept : (p q : RecordPlace) (ls ms : List (List Link)) (b s d t : Walked) (named : Named) → p ≡ q → ls ≡ ms → AreAhead pages k b s d t named → IsAhead pages k (Kept (Reached p ls) b s) (Kept (Reached q ms) d t) named
  ahead_kept p q ls ms b s d t named here same h = record {
    links = h.links;
    members = h.members;
    holds = h.holds;
    read = h.read;
    light = h.light;
    roots = h.roots;
    places = h.places;
    reached = ap (λ l. q ∷ l) h.reached ∙ ap (λ x. x ∷ ((records_reached b ++ records_reached s) ++ named_place named ∷ h.places)) (sym here);
    others = h.others;
    chains = grow_third (links_behind ls) (links_behind ms) (links_in d) (links_in t) (links_in b) (links_in s) (links_behind h.links ++ h.others) (ap links_behind same) h.chains;
    goes = λ new v.
        let first = reached_first (named_place named) h.links new b in
        let second = reached_first (named_place named) h.links new s in
        let P : Bool → Type 0 = λ w. UpTo (if w then Kept (Reached p ls) first s else Kept (Reached p ls) b second) (Kept (Reached q ms) d t) in
        elim (h.goes new v) [
          | inl x ↦ subst P (sym x.0) (here, same, x.1, x.2)
          | inr x ↦ subst P (sym x.0) (here, same, x.1, x.2)
        ];
  }

  ahead_here : (by : Namer) (x : Proxy) (q : RecordPlace) (ms : List (List Link)) (b s d t : Walked) → x ≡ proxy_of q (width d) → b ≡ Bare → WaitAll (marks_of s) → UpTo s t
      → HoldsRecord pages q d ms → AreRead pages d → gapped_size (walked_body d) ≤ k → IsAhead pages k (Kept (Waits x) b s) (Kept (Reached q ms) d t) (record { by = by; proxy = x })
  ahead_here by x q ms b s d t is bare wait u holds read light =
      let page : x.page ≡ q.page = ap (λ (z : Proxy). z.page) is in
      let slot : x.slot ≡ q.slot = ap (λ (z : Proxy). z.slot) is in
      let here : ◌≡◌ {A = RecordPlace} (record { page = x.page; slot = x.slot }) q = λ i. record { page = page i; slot = slot i } in
      let none = none_reached s wait in
      record {
        links = ms;
        members = d;
        holds = subst (λ (p : RecordPlace). HoldsRecord pages p d ms) (sym here) holds;
        read = read;
        light = light;
        roots = sym (ap (λ (z : Proxy). z.roots) is);
        places = records_reached d ++ records_reached t;
        reached = ap (λ p. p ∷ (records_reached d ++ records_reached t)) (sym here) ∙ two_none (records_reached b) (records_reached s) _ (ap records_reached bare) none.0;
        others = links_in d ++ links_in t;
        chains = append_assoc (links_behind ms) (links_in d) (links_in t) ∙ two_none (links_in b) (links_in s) _ (ap links_in bare) none.1;
        goes = λ new v. (here, refl, v, u);
      }

  pub ahead : (a b : Walked) → UpTo a b → AreRead pages b → AreAllLight k b → AreWalkedInOrder (marks_of a) → AreWalkedInOrder (marks_of b) → (by : Namer) (named : Named) (others : List Named) → waiting_in by a ≡ named ∷ others
      → UpTo b a ⊎ IsAhead pages k a b named
  ahead Bare w u p l o r by named others e = absurd (cc)
  ahead (Grown n b s) Bare u p l o r by named others e = absurd u
  ahead (Grown n b s) (Grown m d t) u p l o r by named others e =
      elim (two_parts pages k b s d t named by by others u.1 u.2 o r e
      (λ more f. ahead b d u.1 p.0 l.0 (order_left (marks_of b) (marks_of s) o) (order_left (marks_of d) (marks_of t) r) by named more f)
      (λ f. ahead s t u.2 p.1 l.1 (order_right (marks_of b) (marks_of s) o) (order_right (marks_of d) (marks_of t) r) by named others f)) [
        | inl x ↦ inl (sym u.0, x.0, x.1)
        | inr x ↦ inr (ahead_grown n m b s d t named u.0 x)
      ]
  ahead (Grown n b s) (Kept x d t) u p l o r by named others e = absurd u
  ahead (Kept (Reached x ls) b s) Bare u p l o r by named others e = absurd u
  ahead (Kept (Reached x ls) b s) (Grown m d t) u p l o r by named others e = absurd u
  ahead (Kept (Reached x ls) b s) (Kept (Waits y) d t) u p l o r by named others e = absurd u
  ahead (Kept (Reached x ls) b s) (Kept (Reached y ms) d t) u p l o r by named others e =
      elim (two_parts pages k b s d t named (ByRecord x.page) by others u.2 u.3 o r e
      (λ more f. ahead b d u.2 p.1 l.1 (order_left (marks_of b) (marks_of s) o) (order_left (marks_of d) (marks_of t) r) (ByRecord x.page) named more f)
      (λ f. ahead s t u.3 p.2 l.2 (order_right (marks_of b) (marks_of s) o) (order_right (marks_of d) (marks_of t) r) by named others f)) [
        | inl z ↦ inl (sym u.0, sym u.1, z.0, z.1)
        | inr z ↦ inr (ahead_kept x y ls ms b s d t named u.0 u.1 z)
      ]
  ahead (Kept (Waits x) b s) Bare u p l o r by named others e = absurd u
  ahead (Kept (Waits x) b s) (Grown m d t) u p l o r by named others e = absurd u
  ahead (Kept (Waits x) b s) (Kept (Waits y) d t) u p l o r by named others e = inl (sym u.0, u.2, u.1, back_all s t (wait_right (marks_of d) (marks_of t) r) u.3)
  ahead (Kept (Waits x) b s) (Kept (Reached y ms) d t) u p l o r by named others e =
      let is = named_same by x (waiting_in by s) named others e in
      inr (subst (λ n. IsAhead pages k (Kept (Waits x) b s) (Kept (Reached y ms) d t) n) is
      (ahead_here by x y ms b s d t u.0 u.1 (wait_right (marks_of b) (marks_of s) o) u.2 p.0 p.1 l.0))
