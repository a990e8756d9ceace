-- The lightest intervals of given children, by how many members are in their second form.
use Rattle.std.proofs.Common.{◌≡◌, ◌⊎◌, ℕ, ◌+◌, ◌-◌, ◌*◌, ◌<◌, ◌≤◌, min, max, inl, inr, List, [], ◌∷◌, ◌++◌, map, length, take, get_or, refl, sym, ap, subst, ◌∙◌, arith}
use Rattle.std.proofs.lemmas.List.{map-append, length-append, get_or_past, get_or_append_left, take_more}
use Rattle.std.proofs.Math.Seq.{get_or-append_seam}
use Rattle.std.proofs.lemmas.Bool.{cases_lt}
use Rattle.nx_choices.specs.declared.child.Child.{Child}
use Rattle.nx_choices.specs.Choice.{Member, First, Second, child_of, slots, interval_weight}
use Rattle.nx_choices.specs.Profile.{second, seconds, IsInterval}
use Rattle.nx_choices.specs.Lightest.{IsLightest, AreLightest, IsLengthened, HasAddedChild, IsSkipped}

record IsEnded (members : List Member) (children : List Child) (child : Child) : Type 0 where
  init : List Member
  last : Member
  is : members ≡ init ++ last ∷ []
  covers : map child_of init ≡ children
  ends : child_of last ≡ child

split_last : (members : List Member) (children : List Child) (child : Child) → map child_of members ≡ children ++ child ∷ [] → IsEnded members children child
split_last [] [] child e = cc
split_last [] (first ∷ children) child e = cc
split_last (member ∷ []) [] child e = record { init = []; last = member; is = refl; covers = refl; ends = cc }
split_last (member ∷ next ∷ members) [] child e = cc
split_last (member ∷ members) (first ∷ children) child e =
    let rest = split_last members children child cc in let same : child_of member ≡ first = cc in let c = rest.covers in
    record { init = member ∷ rest.init; last = rest.last; is = ap (λ ms. member ∷ ms) rest.is; covers = cc; ends = rest.ends }

seconds_push : (members : List Member) (member : Member) → seconds (members ++ member ∷ []) ≡ seconds members + second member
seconds_push [] member = omega arith
seconds_push (first ∷ members) member = let ih = seconds_push members member in omega arith

weight_push : (members : List Member) (member : Member) → interval_weight (members ++ member ∷ []) ≡ interval_weight members + slots member
weight_push [] member = omega arith
weight_push (first ∷ members) member = let ih = weight_push members member in omega arith

-- more room, or more members in their second form
pub looser : (k : ℕ) (children : List Child) (most k' most' : ℕ) → k ≤ k' → most ≤ most' → IsInterval k children most → IsInterval k' children most'
looser k children most k' most' heavier more h =
    record { members = h.members; covers = h.covers; few = let f = h.few in omega arith; light = let l = h.light in omega arith }

push_first : (k : ℕ) (children : List Child) (most : ℕ) (child : Child) → child.lean ≤ k → IsInterval (k - child.lean) children most → IsInterval k (children ++ child ∷ []) most
push_first k children most child light h =
    let s = seconds_push h.members (First child) in let w = weight_push h.members (First child) in let hs = h.few in let hw = h.light in
    record {
      members = h.members ++ First child ∷ [];
      covers = map-append child_of h.members (First child ∷ []) ∙ ap (λ cs. cs ++ child ∷ []) h.covers;
      few = omega arith;
      light = omega arith;
    }

push_second : (k : ℕ) (children : List Child) (most : ℕ) (child : Child) → child.nearly ≤ k → 1 ≤ most → IsInterval (k - child.nearly) children (most - 1) → IsInterval k (children ++ child ∷ []) most
push_second k children most child light some h =
    let s = seconds_push h.members (Second child) in let w = weight_push h.members (Second child) in let hs = h.few in let hw = h.light in
    record {
      members = h.members ++ Second child ∷ [];
      covers = map-append child_of h.members (Second child ∷ []) ∙ ap (λ cs. cs ++ child ∷ []) h.covers;
      few = omega arith;
      light = omega arith;
    }

-- the last member in its first form, or in its second
abbrev Popped : ℕ → List Child → Child → ℕ → Type 0
Popped k children child most =
    ((child.lean ≤ k) × IsInterval (k - child.lean) children most) ⊎ ((child.nearly ≤ k) × (1 ≤ most) × IsInterval (k - child.nearly) children (most - 1))

popped : (k : ℕ) (children : List Child) (most : ℕ) (init : List Member) (last : Member) (child : Child) → child_of last ≡ child → map child_of init ≡ children → seconds init + second last ≤ most → interval_weight init + slots last ≤ k → Popped k children child most
popped k children most init (First other) child e covers few light =
    let same = ap (λ (c : Child). c.lean) e in
    inl (omega arith, record { members = init; covers = covers; few = omega arith; light = omega arith })
popped k children most init (Second other) child e covers few light =
    let same = ap (λ (c : Child). c.nearly) e in
    inr (omega arith, omega arith, record { members = init; covers = covers; few = omega arith; light = omega arith })

pop : (k : ℕ) (children : List Child) (child : Child) (most : ℕ) → IsInterval k (children ++ child ∷ []) most → Popped k children child most
pop k children child most h =
    let e = split_last h.members children child h.covers in
    let s = ap seconds e.is ∙ seconds_push e.init e.last in let w = ap interval_weight e.is ∙ weight_push e.init e.last in
    let hs = h.few in let hw = h.light in
    popped k children most e.init e.last child e.ends e.covers (omega arith) (omega arith)

lightest_none : (k most : ℕ) → IsLightest k [] most 0
lightest_none k most = record { tells = λ limit small. (λ h. omega arith, λ h. record { members = []; covers = refl; few = omega arith; light = omega arith }) }

-- one child more: with no member in its second form
lightest_first : (k : ℕ) (children : List Child) (child : Child) (weight : ℕ) → IsLightest k children 0 weight → IsLightest k (children ++ child ∷ []) 0 (weight + child.lean)
lightest_first k children child weight l = record {
  tells = λ limit small. (
    λ h. elim (pop limit children child 0 h) [
      | inl p ↦ let fits = p.0 in let w = (l.tells (limit - child.lean) (omega arith)).0 p.1 in omega arith
      | inr p ↦ let some = p.1 in absurd (omega arith)
    ],
    λ h. push_first limit children 0 child (omega arith) ((l.tells (limit - child.lean) (omega arith)).1 (omega arith)),
  );
}

-- with some
lightest_others : (k : ℕ) (children : List Child) (child : Child) (most weight fewer : ℕ) → 1 ≤ most → IsLightest k children most weight → IsLightest k children (most - 1) fewer → IsLightest k (children ++ child ∷ []) most (min (weight + child.lean) (fewer + child.nearly))
lightest_others k children child most weight fewer some l f = record {
  tells = λ limit small. (
    λ h. elim (pop limit children child most h) [
      | inl p ↦ let fits = p.0 in let w = (l.tells (limit - child.lean) (omega arith)).0 p.1 in omega arith
      | inr p ↦ let fits = p.0 in let w = (f.tells (limit - child.nearly) (omega arith)).0 p.2 in omega arith
    ],
    λ h. elim (cases_lt limit (weight + child.lean)) [
      | inl heavy ↦ push_second limit children most child (omega arith) some ((f.tells (limit - child.nearly) (omega arith)).1 (omega arith))
      | inr fits ↦ push_first limit children most child (omega arith) ((l.tells (limit - child.lean) (omega arith)).1 (omega arith))
    ],
  );
}

-- with so many that more of them don't help
lightest_last : (k : ℕ) (children : List Child) (child : Child) (most weight : ℕ) → 1 ≤ most → child.nearly < child.lean → ((limit more : ℕ) → limit ≤ k → IsInterval limit children more → IsInterval limit children (most - 1)) → IsLightest k children (most - 1) weight → IsLightest k (children ++ child ∷ []) most (weight + child.nearly)
lightest_last k children child most weight some saves rest l = record {
  tells = λ limit small. (
    λ h. elim (pop limit children child most h) [
      | inl p ↦ let fits = p.0 in let w = (l.tells (limit - child.lean) (omega arith)).0 (rest (limit - child.lean) most (omega arith) p.1) in omega arith
      | inr p ↦ let fits = p.0 in let w = (l.tells (limit - child.nearly) (omega arith)).0 p.2 in omega arith
    ],
    λ h. push_second limit children most child (omega arith) some ((l.tells (limit - child.nearly) (omega arith)).1 (omega arith)),
  );
}

-- one that is too heavy stays so
lightest_heavy : (k : ℕ) (children : List Child) (child : Child) (most weight fewer : ℕ) → k < weight → (1 ≤ most → k < fewer) → IsLightest k children most weight → IsLightest k children (most - 1) fewer → IsLightest k (children ++ child ∷ []) most weight
lightest_heavy k children child most weight fewer heavy heavier l f = record {
  tells = λ limit small. (
    λ h. elim (pop limit children child most h) [
      | inl p ↦ let fits = p.0 in let w = (l.tells (limit - child.lean) (omega arith)).0 p.1 in absurd (omega arith)
      | inr p ↦ let fits = p.0 in let w = (f.tells (limit - child.nearly) (omega arith)).0 p.2 in let much = heavier p.1 in absurd (omega arith)
    ],
    λ h. absurd (omega arith),
  );
}

-- more members in their second form than there are weights don't help
rest_kept : (k : ℕ) (children : List Child) (child : Child) (limit most last : ℕ) → limit ≤ k → child.lean ≤ child.nearly → ((limit more : ℕ) → limit ≤ k → IsInterval limit children more → IsInterval limit children last) → IsInterval limit (children ++ child ∷ []) most → IsInterval limit (children ++ child ∷ []) last
rest_kept k children child limit most last small idle rest h = elim (pop limit children child most h) [
  | inl p ↦ push_first limit children last child p.0 (rest (limit - child.lean) most (omega arith) p.1)
  | inr p ↦ let fits = p.0 in push_first limit children last child (omega arith) (looser (limit - child.nearly) children last (limit - child.lean) last (omega arith) (omega arith) (rest (limit - child.nearly) (most - 1) (omega arith) p.2))
]

rest_more : (k : ℕ) (children : List Child) (child : Child) (limit most last : ℕ) → limit ≤ k → ((limit more : ℕ) → limit ≤ k → IsInterval limit children more → IsInterval limit children last) → IsInterval limit (children ++ child ∷ []) most → IsInterval limit (children ++ child ∷ []) (last + 1)
rest_more k children child limit most last small rest h = elim (pop limit children child most h) [
  | inl p ↦ push_first limit children (last + 1) child p.0 (looser (limit - child.lean) children last (limit - child.lean) (last + 1) (omega arith) (omega arith) (rest (limit - child.lean) most (omega arith) p.1))
  | inr p ↦ push_second limit children (last + 1) child p.0 (omega arith) (looser (limit - child.nearly) children last (limit - child.nearly) (last + 1 - 1) (omega arith) (omega arith) (rest (limit - child.nearly) (most - 1) (omega arith) p.2))
]

pub lightest_nothing : (k extras : ℕ) → AreLightest k [] extras (0 ∷ []) 0
lightest_nothing k extras = record {
  some = omega arith;
  few = omega arith;
  most = omega arith;
  each = λ most within. let none : 0 ≡ most = omega arith in subst (λ n. IsLightest k [] n (get_or (0 ∷ []) n 0)) none (lightest_none k 0);
  rest = λ limit most small more h. record { members = h.members; covers = h.covers; few = let n = no_seconds h.members h.covers in omega arith; light = h.light };
  heavy = λ most less. absurd (omega arith);
  light = λ less. omega arith;
  within = omega arith;
  small = λ index. elim (cases_lt index 1) [
    | inl less ↦ let none : index ≡ 0 = omega arith in subst (λ n. get_or (0 ∷ []) n 0 ≤ 256 * length {A = Child} []) (sym none) (omega arith)
    | inr past ↦ let xs : List ℕ = 0 ∷ [] in let e = get_or_past xs index 0 past in omega (arith, e)
  ];
}
  where
    no_seconds : (members : List Member) → map child_of members ≡ [] → seconds members ≤ 0
    no_seconds [] e = omega arith
    no_seconds (member ∷ members) e = absurd (cc)

-- the weights after a child was added, where those that were are exact: as they are, or with one more
record Longer (k : ℕ) (children : List Child) (child : Child) (extras fewest number : ℕ) (weights : List ℕ) : Type 0 where
  some : 1 ≤ number
  few : length weights ≤ 2 + length children
  most : length weights ≤ max 1 extras
  at_most : number ≤ length weights
  fewest_within : fewest ≤ number
  each : (most : ℕ) → most < number → IsLightest k children most (get_or weights most 0)
  heavy : (most : ℕ) → most < fewest → k < get_or weights most 0
  small : (index : ℕ) → get_or weights index 0 ≤ 256 * length children + 256
  behind : (most : ℕ) → number ≤ most → most < length weights → IsLightest k (children ++ child ∷ []) most (get_or weights most 0)
  rest : (limit most : ℕ) → limit ≤ k → length weights < extras → IsInterval limit (children ++ child ∷ []) most → IsInterval limit (children ++ child ∷ []) (length weights - 1)
  all : (index : ℕ) → index < number → get_or weights index 0 ≤ 256 * length children

lengthened : (k : ℕ) (children : List Child) (child : Child) (extras fewest : ℕ) (old new : List ℕ) → child.nearly ≤ 256 → AreLightest k children extras old fewest → IsLengthened extras child old new → Longer k children child extras fewest (length old) new
lengthened k children child extras fewest old new light a (inl same) =
    subst (λ (ws : List ℕ). Longer k children child extras fewest (length old) ws) (sym same.0) (record {
      some = a.some;
      few = let f = a.few in omega arith;
      most = a.most;
      at_most = omega arith;
      fewest_within = a.within;
      each = a.each;
      heavy = a.heavy;
      small = λ index. let s = a.small index in omega arith;
      behind = λ most past within. absurd (omega arith);
      rest = λ limit most small more h. elim same.1 [
        | inl idle ↦ rest_kept k children child limit most (length old - 1) small idle (λ limit' more' small' i. a.rest limit' more' small' more i) h
        | inr full ↦ absurd (omega arith)
      ];
      all = λ index within. a.small index;
    })
lengthened k children child extras fewest old new light a (inr longer) =
    let last = get_or old (length old - 1) 0 in
    subst (λ (ws : List ℕ). Longer k children child extras fewest (length old) ws) (sym longer.2) (record {
      some = a.some;
      few = let f = a.few in let e = length-append old ((last + child.nearly) ∷ []) in omega arith;
      most = let room = longer.1 in let e = length-append old ((last + child.nearly) ∷ []) in omega arith;
      at_most = let e = length-append old ((last + child.nearly) ∷ []) in omega arith;
      fewest_within = a.within;
      each = λ most within. subst (λ n. IsLightest k children most n) (sym (get_or_append_left old ((last + child.nearly) ∷ []) 0 most within)) (a.each most within);
      heavy = λ most less. let w = a.within in let e = get_or_append_left old ((last + child.nearly) ∷ []) 0 most (omega arith) in let h = a.heavy most less in omega arith;
      small = λ index. elim (cases_lt index (length old)) [
        | inl within ↦ let e = get_or_append_left old ((last + child.nearly) ∷ []) 0 index within in let s = a.small index in omega arith
        | inr past ↦ elim (cases_lt (length old) index) [
          | inl beyond ↦ let len = length-append old ((last + child.nearly) ∷ []) in let e = get_or_past (old ++ (last + child.nearly) ∷ []) index 0 (omega arith) in omega arith
          | inr here ↦
              let same : index ≡ length old = omega arith in let at = ap (λ n. get_or (old ++ (last + child.nearly) ∷ []) n 0) same in
              let e = get_or-append_seam old (last + child.nearly) [] 0 in let s = a.small (length old - 1) in omega arith
        ]
      ];
      behind = λ most past within.
          let len = length-append old ((last + child.nearly) ∷ []) in let same : length old ≡ most = omega arith in
          let some = a.some in
          subst (λ n. IsLightest k (children ++ child ∷ []) n (get_or (old ++ (last + child.nearly) ∷ []) n 0)) same
          (subst (λ n. IsLightest k (children ++ child ∷ []) (length old) n) (sym (get_or-append_seam old (last + child.nearly) [] 0))
          (lightest_last k children child (length old) last some longer.0 (λ limit more small i. a.rest limit more small longer.1 i) (a.each (length old - 1) (omega arith))));
      rest = λ limit most small more h.
          let len = length-append old ((last + child.nearly) ∷ []) in let some = a.some in
          let same : length old - 1 + 1 ≡ length (old ++ (last + child.nearly) ∷ []) - 1 = omega arith in
          subst (λ n. IsInterval limit (children ++ child ∷ []) n) same (rest_more k children child limit most (length old - 1) small (λ limit' more' small' i. a.rest limit' more' small' longer.1 i) h);
      all = λ index within. let e = get_or_append_left old ((last + child.nearly) ∷ []) 0 index within in let s = a.small index in omega arith;
    })

updated_each : (k : ℕ) (children : List Child) (child : Child) (extras fewest number : ℕ) (old new : List ℕ) → Longer k children child extras fewest number old → HasAddedChild child fewest number old new → (most : ℕ) → most < length new → IsLightest k (children ++ child ∷ []) most (get_or new most 0)
updated_each k children child extras fewest number old new a u most within = elim (cases_lt most fewest) [
  | inl less ↦
      let f = a.fewest_within in
      subst (λ n. IsLightest k (children ++ child ∷ []) most n) (sym (u.kept most less))
      (lightest_heavy k children child most (get_or old most 0) (get_or old (most - 1) 0) (a.heavy most less) (λ some. a.heavy (most - 1) (omega arith)) (a.each most (omega arith)) (a.each (most - 1) (omega arith)))
  | inr from ↦ elim (cases_lt most number) [
    | inr past ↦ let len = u.len in subst (λ n. IsLightest k (children ++ child ∷ []) most n) (sym (u.behind most past)) (a.behind most past (omega arith))
    | inl inside ↦ elim (cases_lt 0 most) [
      | inl some ↦
          subst (λ n. IsLightest k (children ++ child ∷ []) most n) (sym (u.others most some from inside))
          (lightest_others k children child most (get_or old most 0) (get_or old (most - 1) 0) some (a.each most inside) (a.each (most - 1) (omega arith)))
      | inr none ↦
          let zero : 0 ≡ most = omega arith in
          subst (λ n. IsLightest k (children ++ child ∷ []) n (get_or new n 0)) zero
          (subst (λ n. IsLightest k (children ++ child ∷ []) 0 n) (sym (u.first (omega arith))) (lightest_first k children child (get_or old 0 0) (a.each 0 (omega arith))))
    ]
  ]
]

updated_small : (k : ℕ) (children : List Child) (child : Child) (extras fewest number : ℕ) (old new : List ℕ) → child.lean ≤ 256 → Longer k children child extras fewest number old → HasAddedChild child fewest number old new → (index : ℕ) → get_or new index 0 ≤ 256 * length children + 256
updated_small k children child extras fewest number old new light a u index = elim (cases_lt index fewest) [
  | inl less ↦ let e = u.kept index less in let s = a.small index in omega arith
  | inr from ↦ elim (cases_lt index number) [
    | inr past ↦ let e = u.behind index past in let s = a.small index in omega arith
    | inl inside ↦ elim (cases_lt 0 index) [
      | inl some ↦ let e = u.others index some from inside in let s = a.all index inside in omega arith
      | inr none ↦
          let zero : index ≡ 0 = omega arith in let at = ap (λ n. get_or new n 0) zero in
          let e = u.first (omega arith) in let s = a.all 0 (omega arith) in omega arith
    ]
  ]
]

-- one child more
pub lightest_added : (k : ℕ) (children : List Child) (child : Child) (extras fewest : ℕ) (old longer new : List ℕ) (next : ℕ) → child.lean ≤ 256 → child.nearly ≤ 256 → AreLightest k children extras old fewest → IsLengthened extras child old longer → HasAddedChild child fewest (length old) longer new → IsSkipped k new fewest next → AreLightest k (children ++ child ∷ []) extras new next
lightest_added k children child extras fewest old longer new next lean nearly a l u s =
    let w = lengthened k children child extras fewest old longer nearly a l in
    let len = u.len in let more = length-append children (child ∷ []) in
    let some = w.some in let at = w.at_most in let few = w.few in let within = w.fewest_within in
    record {
      some = omega arith;
      few = omega arith;
      most = let m = w.most in omega arith;
      each = updated_each k children child extras fewest (length old) longer new w u;
      rest = λ limit most small fits h. subst (λ n. IsInterval limit (children ++ child ∷ []) (n - 1)) (sym len) (w.rest limit most small (omega arith) h);
      heavy = λ most less. elim (cases_lt most fewest) [
        | inl before ↦ let e = u.kept most before in let h = w.heavy most before in omega arith
        | inr from ↦ s.heavy most from less
      ];
      light = s.light;
      within = s.within (omega arith);
      small = λ index. let b = updated_small k children child extras fewest (length old) longer new lean w u index in omega arith;
    }

-- one more of the children
pub lightest_next : (k : ℕ) (children : List Child) (index : ℕ) (child : Child) (extras : ℕ) (weights : List ℕ) (fewest : ℕ) → index < length children → AreLightest k (take index children ++ get_or children index child ∷ []) extras weights fewest → AreLightest k (take (index + 1) children) extras weights fewest
lightest_next k children index child extras weights fewest within h =
    subst (λ (cs : List Child). AreLightest k cs extras weights fewest) (sym (take_more children index child within)) h

-- the fewest members in their second form
pub fewest_some : (k : ℕ) (children : List Child) (extras : ℕ) (weights : List ℕ) (fewest : ℕ) → AreLightest k children extras weights fewest → fewest < length weights → IsInterval k children fewest
fewest_some k children extras weights fewest a within = ((a.each fewest within).tells k (omega arith)).1 (a.light within)

pub fewest_least : (k : ℕ) (children : List Child) (extras : ℕ) (weights : List ℕ) (fewest extra : ℕ) → AreLightest k children extras weights fewest → extra < extras → IsInterval k children extra → (fewest < length weights) × (fewest ≤ extra)
fewest_least k children extras weights fewest extra a few i = elim (cases_lt extra (length weights)) [
  | inl within ↦ elim (cases_lt extra fewest) [
    | inl less ↦ let w = ((a.each extra within).tells k (omega arith)).0 i in let h = a.heavy extra less in absurd (omega arith)
    | inr from ↦ (omega arith, omega arith)
  ]
  | inr past ↦
      let some = a.some in
      let w = ((a.each (length weights - 1) (omega arith)).tells k (omega arith)).0 (a.rest k extra (omega arith) (omega arith) i) in
      elim (cases_lt (length weights - 1) fewest) [
        | inl less ↦ let h = a.heavy (length weights - 1) less in absurd (omega arith)
        | inr from ↦ (omega arith, omega arith)
      ]
]
