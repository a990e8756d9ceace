-- What a list of weights says of the choices over a list of children, step by step.
use Rattle.std.proofs.Common.{◌≡◌, ℕ, ◌+◌, ◌-◌, ◌<◌, ◌≤◌, ◌⊎◌, inl, inr, List, [], ◌∷◌, length, take, drop, get_or, ap, subst, ◌∙◌, arith}
use Rattle.std.proofs.lemmas.List.{get_or_past, get_or-take, get_or-drop, length-take, length-drop, drop-drop}
use Rattle.std.proofs.lemmas.Bool.{cases_lt}
use Rattle.std.proofs.lemmas.Bool.Decides.{nat_tests}
use Rattle.nx_choices.specs.declared.reach.Form.TheVariants.{Light}
use Rattle.nx_choices.specs.declared.child.Child.{Child}
use Rattle.nx_choices.specs.Profile.{IsAchievable, IsInterval, left_at, IsListed, IsProfile, IsStarted, IsLowered, IsReach, IsDraft}
use Rattle.nx_choices.proofs.ChoiceLemmas.{wider, within_none, drop_one, drop_some, add_uncut, add_interval, begins, light_interval}

pub left_at_before : (none base : ℕ) (lefts : List ℕ) (most : ℕ) → most < base → left_at none base lefts most ≡ none
left_at_before none base lefts most h = grind (arith, nat_tests)

pub left_at_from : (none base : ℕ) (lefts : List ℕ) (most : ℕ) → base ≤ most → left_at none base lefts most ≡ get_or lefts (most - base) 0
left_at_from none base lefts most h = grind (arith, nat_tests)

pub at_listed : (none base : ℕ) (lefts : List ℕ) (most w : ℕ) → w < none → left_at none base lefts most ≤ w → IsListed base lefts most w
at_listed none base lefts most w small h = elim (cases_lt most base) [
  | inl before ↦ let e = left_at_before none base lefts most before in absurd (omega arith)
  | inr enough ↦ let e = left_at_from none base lefts most enough in record { enough = enough; little = omega arith }
]

pub listed_at : (none base : ℕ) (lefts : List ℕ) (most w : ℕ) → IsListed base lefts most w → left_at none base lefts most ≤ w
listed_at none base lefts most w h =
    let e = left_at_from none base lefts most h.enough in let l = h.little in omega arith

pub listed_off : (base extra : ℕ) (lefts : List ℕ) (most w : ℕ) → IsListed (base + extra) lefts most w → IsListed base lefts (most - extra) w
listed_off base extra lefts most w h =
    let e : most - (base + extra) ≡ most - extra - base = omega arith in let g = h.enough in
    record { enough = omega arith; little = subst (λ (n : ℕ). get_or lefts n 0 ≤ w) e h.little }

pub listed_on : (base extra : ℕ) (lefts : List ℕ) (most w : ℕ) → extra ≤ most → IsListed base lefts (most - extra) w → IsListed (base + extra) lefts most w
listed_on base extra lefts most w much h =
    let e : most - extra - base ≡ most - (base + extra) = omega arith in let g = h.enough in
    record { enough = omega arith; little = subst (λ (n : ℕ). get_or lefts n 0 ≤ w) e h.little }

pub listed_end : (base : ℕ) (lefts : List ℕ) (most w : ℕ) → base + length lefts ≤ most → IsListed base lefts most w
listed_end base lefts most w h =
    let e = get_or_past lefts (most - base) 0 (omega arith) in record { enough = omega arith; little = omega arith }

-- lowered

pub lowered_keeps : (none base : ℕ) (old : List ℕ) (beyond_base : ℕ) (beyond new : List ℕ) (most w : ℕ) → IsLowered none base old beyond_base beyond new → IsListed base old most w → IsListed base new most w
lowered_keeps none base old beyond_base beyond new most w h l = elim (cases_lt (most - base) (length old)) [
  | inl within ↦ let e = h.each (most - base) within in let was = l.little in record { enough = l.enough; little = omega arith }
  | inr past ↦ let len = h.len in let g = l.enough in listed_end base new most w (omega arith)
]

pub lowered_adds : (none base : ℕ) (old : List ℕ) (beyond_base : ℕ) (beyond new : List ℕ) (most w : ℕ) → IsLowered none base old beyond_base beyond new → base ≤ most → IsListed beyond_base beyond most w → IsListed base new most w
lowered_adds none base old beyond_base beyond new most w h from l = elim (cases_lt (most - base) (length old)) [
  | inl within ↦
      let e = h.each (most - base) within in let here : base + (most - base) ≡ most = omega arith in
      let at = ap (λ n. left_at none beyond_base beyond n) here in let a = listed_at none beyond_base beyond most w l in
      record { enough = from; little = omega arith }
  | inr past ↦ let len = h.len in listed_end base new most w (omega arith)
]

pub lowered_only : (none base : ℕ) (old : List ℕ) (beyond_base : ℕ) (beyond new : List ℕ) (most w : ℕ) → IsLowered none base old beyond_base beyond new → w < none → IsListed base new most w → IsListed base old most w ⊎ IsListed beyond_base beyond most w
lowered_only none base old beyond_base beyond new most w h small l = elim (cases_lt (most - base) (length old)) [
  | inl within ↦
      let g = l.enough in let e = h.each (most - base) within in let here : base + (most - base) ≡ most = omega arith in
      let at = ap (λ n. left_at none beyond_base beyond n) here in let now = l.little in
      elim (cases_lt w (get_or old (most - base) 0)) [
        | inl more ↦ inr (at_listed none beyond_base beyond most w small (omega arith))
        | inr less ↦ inl (record { enough = g; little = less })
      ]
  | inr past ↦ let g = l.enough in inl (listed_end base old most w (omega arith))
]

pub lowered_small : (none base : ℕ) (old : List ℕ) (beyond_base : ℕ) (beyond new : List ℕ) → IsLowered none base old beyond_base beyond new → ((index : ℕ) → get_or old index 0 ≤ none) → (index : ℕ) → get_or new index 0 ≤ none
lowered_small none base old beyond_base beyond new h small index = elim (cases_lt index (length old)) [
  | inl within ↦ let e = h.each index within in let s = small index in omega arith
  | inr past ↦ let len = h.len in let e = get_or_past new index 0 (omega arith) in omega arith
]

-- started

pub started_uncut : (room lean after_base : ℕ) (after : List ℕ) (beyond_base : ℕ) (beyond lefts : List ℕ) (most w : ℕ) → IsStarted room lean after_base after beyond_base beyond lefts → lean ≤ w → IsListed after_base after most (w - lean) → IsListed after_base lefts most w
started_uncut room lean after_base after beyond_base beyond lefts most w h some l = elim (cases_lt (most - after_base) (length lefts)) [
  | inl within ↦ let e = h.each (most - after_base) within in let was = l.little in record { enough = l.enough; little = omega arith }
  | inr past ↦ let g = l.enough in listed_end after_base lefts most w (omega arith)
]

pub started_cut : (room lean after_base : ℕ) (after : List ℕ) (beyond_base : ℕ) (beyond lefts : List ℕ) (most w : ℕ) → IsStarted room lean after_base after beyond_base beyond lefts → after_base ≤ most → IsListed (beyond_base + 1) beyond most w → IsListed after_base lefts most w
started_cut room lean after_base after beyond_base beyond lefts most w h from l = elim (cases_lt (most - after_base) (length lefts)) [
  | inl within ↦
      let e = h.each (most - after_base) within in let here : after_base + (most - after_base) ≡ most = omega arith in
      let at = ap (λ n. left_at (room + 1) (beyond_base + 1) beyond n) here in let a = listed_at (room + 1) (beyond_base + 1) beyond most w l in
      record { enough = from; little = omega arith }
  | inr past ↦ listed_end after_base lefts most w (omega arith)
]

pub started_only : (room lean after_base : ℕ) (after : List ℕ) (beyond_base : ℕ) (beyond lefts : List ℕ) (most w : ℕ) → IsStarted room lean after_base after beyond_base beyond lefts → w ≤ room → IsListed after_base lefts most w → ((lean ≤ w) × IsListed after_base after most (w - lean)) ⊎ IsListed (beyond_base + 1) beyond most w
started_only room lean after_base after beyond_base beyond lefts most w h small l = elim (cases_lt (most - after_base) (length lefts)) [
  | inl within ↦
      let g = l.enough in let e = h.each (most - after_base) within in let here : after_base + (most - after_base) ≡ most = omega arith in
      let at = ap (λ n. left_at (room + 1) (beyond_base + 1) beyond n) here in let now = l.little in
      elim (cases_lt w (get_or after (most - after_base) 0 + lean)) [
        | inl more ↦ inr (at_listed (room + 1) (beyond_base + 1) beyond most w (omega arith) (omega arith))
        | inr less ↦ inl (omega arith, record { enough = g; little = omega arith })
      ]
  | inr past ↦ let g = l.enough in let len = h.len in inr (listed_end (beyond_base + 1) beyond most w (omega arith))
]

pub left_at_small : (none base : ℕ) (lefts : List ℕ) (most : ℕ) → ((index : ℕ) → get_or lefts index 0 ≤ none) → left_at none base lefts most ≤ none
left_at_small none base lefts most small = elim (cases_lt most base) [
  | inl before ↦ let e = left_at_before none base lefts most before in omega arith
  | inr enough ↦ let e = left_at_from none base lefts most enough in let s = small (most - base) in omega arith
]

pub started_small : (room lean after_base : ℕ) (after : List ℕ) (beyond_base : ℕ) (beyond lefts : List ℕ) → IsStarted room lean after_base after beyond_base beyond lefts → ((index : ℕ) → get_or beyond index 0 ≤ room + 1) → (index : ℕ) → get_or lefts index 0 ≤ room + 1
started_small room lean after_base after beyond_base beyond lefts h small index = elim (cases_lt index (length lefts)) [
  | inl within ↦ let e = h.each index within in let s = left_at_small (room + 1) (beyond_base + 1) beyond (after_base + index) small in omega arith
  | inr past ↦ let e = get_or_past lefts index 0 past in omega arith
]

-- profiles

pub profile_none : (k room : ℕ) → IsProfile k room [] 0 []
profile_none k room = record {
  tells = λ most w small. (λ h. record { enough = omega arith; little = omega arith }, λ l. within_none k most w);
  short = omega arith;
  small = λ index. omega arith;
}

-- a choice without the first child, which may be a member of an interval
pub without : (k : ℕ) (child : Child) (children : List Child) (number extra most w : ℕ) → 1 ≤ number → 1 + extra ≤ most → IsInterval k (take number (child ∷ children)) extra → IsAchievable k (drop number (child ∷ children)) (most - (1 + extra)) w → IsAchievable k children most w
without k child children number extra most w some much i h =
    let whole = add_interval k number child children extra (most - (1 + extra)) w some i h in
    drop_one k child children most w (wider k (child ∷ children) (1 + extra + (most - (1 + extra))) w most w (omega arith) (omega arith) whole)

-- a choice without the first `more` children, where there is one without the first `some`
pub drop_further : (k : ℕ) (children : List Child) (some more most w : ℕ) → some ≤ more → IsAchievable k (drop some children) most w → IsAchievable k (drop more children) most w
drop_further k children some more most w less h =
    let e : drop (more - some) (drop some children) ≡ drop more children =
    drop-drop (more - some) some children ∙ ap (λ n. drop n children) (omega arith) in
    subst (λ (cs : List Child). IsAchievable k cs most w) e (drop_some k (more - some) (drop some children) most w h)

pub draft_start : (k room : ℕ) (child : Child) (children : List Child) (reach after_base : ℕ) (after : List ℕ) (beyond_base : ℕ) (beyond lefts : List ℕ) → IsStarted room child.lean after_base after beyond_base beyond lefts → IsProfile k room children after_base after → IsProfile k room (drop reach (child ∷ children)) beyond_base beyond → 1 ≤ reach → IsInterval k (take reach (child ∷ children)) 0 → IsDraft k room child children (reach + 1) after_base lefts
draft_start k room child children reach after_base after beyond_base beyond lefts h a b some i = record {
  sound = λ most w small l. elim (started_only room child.lean after_base after beyond_base beyond lefts most w h small l) [
    | inl uncut ↦
        let lean = uncut.0 in
        let rest = (a.tells most (w - child.lean) (omega arith)).1 uncut.1 in
        wider k (child ∷ children) most (w - child.lean + child.lean) most w (omega arith) (omega arith) (add_uncut k child children most (w - child.lean) rest)
    | inr cut ↦
        let g = cut.enough in
        let rest = (b.tells (most - 1) w small).1 (listed_off beyond_base 1 beyond most w cut) in
        wider k (child ∷ children) (1 + 0 + (most - 1)) w most w (omega arith) (omega arith) (add_interval k reach child children 0 (most - 1) w some i rest)
  ];
  uncut = λ most w small lean rest. started_uncut room child.lean after_base after beyond_base beyond lefts most w h lean ((a.tells most (w - child.lean) (omega arith)).0 rest);
  taken = λ number extra most w one less small much interval rest.
      let from = ((a.tells most w small).0 (without k child children number extra most w one much interval rest)).enough in
      let further = drop_further k (child ∷ children) number reach (most - (1 + extra)) w (omega arith) rest in
      let wide = wider k (drop reach (child ∷ children)) (most - (1 + extra)) w (most - 1) w (omega arith) (omega arith) further in
      started_cut room child.lean after_base after beyond_base beyond lefts most w h from (listed_on beyond_base 1 beyond most w (omega arith) ((b.tells (most - 1) w small).0 wide));
  from = λ most w small rest. ((a.tells most w small).0 rest).enough;
  short =
      let len = h.len in let a_short = a.short in let b_short = b.short in let dropped = length-drop reach (child ∷ children) in omega arith;
  small = started_small room child.lean after_base after beyond_base beyond lefts h b.small;
}

pub draft_lowered : (k room : ℕ) (child : Child) (children : List Child) (until base : ℕ) (lefts : List ℕ) (number extra beyond_base : ℕ) (beyond new : List ℕ) → IsDraft k room child children until base lefts → IsProfile k room (drop number (child ∷ children)) beyond_base beyond → 1 ≤ number → IsInterval k (take number (child ∷ children)) extra → IsLowered (room + 1) base lefts (beyond_base + (1 + extra)) beyond new → IsDraft k room child children until base new
draft_lowered k room child children until base lefts number extra beyond_base beyond new d b some i h = record {
  sound = λ most w small l. elim (lowered_only (room + 1) base lefts (beyond_base + (1 + extra)) beyond new most w h (omega arith) l) [
    | inl old ↦ d.sound most w small old
    | inr cut ↦
        let g = cut.enough in
        let rest = (b.tells (most - (1 + extra)) w small).1 (listed_off beyond_base (1 + extra) beyond most w cut) in
        wider k (child ∷ children) (1 + extra + (most - (1 + extra))) w most w (omega arith) (omega arith) (add_interval k number child children extra (most - (1 + extra)) w some i rest)
  ];
  uncut = λ most w small lean rest. lowered_keeps (room + 1) base lefts (beyond_base + (1 + extra)) beyond new most w h (d.uncut most w small lean rest);
  taken = λ n e most w one less small much interval rest. lowered_keeps (room + 1) base lefts (beyond_base + (1 + extra)) beyond new most w h (d.taken n e most w one less small much interval rest);
  from = d.from;
  short = let len = h.len in let s = d.short in omega arith;
  small = lowered_small (room + 1) base lefts (beyond_base + (1 + extra)) beyond new h d.small;
}

pub draft_more : (k room : ℕ) (child : Child) (children : List Child) (until base : ℕ) (lefts : List ℕ) → IsDraft k room child children until base lefts → ((extra most w : ℕ) → w ≤ room → 1 + extra ≤ most → IsInterval k (take until (child ∷ children)) extra → IsAchievable k (drop until (child ∷ children)) (most - (1 + extra)) w → base ≤ most → IsListed base lefts most w) → IsDraft k room child children (until + 1) base lefts
draft_more k room child children until base lefts d here = record {
  sound = d.sound;
  uncut = d.uncut;
  taken = λ number extra most w one less small much interval rest. elim (cases_lt number until) [
    | inl before ↦ d.taken number extra most w one before small much interval rest
    | inr last ↦
        let e : number ≡ until = omega arith in
        here extra most w small much (subst (λ (n : ℕ). IsInterval k (take n (child ∷ children)) extra) e interval) (subst (λ (n : ℕ). IsAchievable k (drop n (child ∷ children)) (most - (1 + extra)) w) e rest)
        (d.from most w small (without k child children number extra most w one much interval rest))
  ];
  from = d.from;
  short = d.short;
  small = d.small;
}

pub draft_done : (k room : ℕ) (child : Child) (children : List Child) (light sum base : ℕ) (lefts : List ℕ) → IsDraft k room child children (light + 1) base lefts → IsReach k Light (child ∷ children) light sum → IsProfile k room (child ∷ children) base lefts
draft_done k room child children light sum base lefts d reach = record {
  tells = λ most w small. (
    λ h. elim (begins k child children most w h) [
      | inl uncut ↦ d.uncut most w small uncut.0 uncut.1
      | inr cut ↦
          let longest = reach.longest cut.number cut.within (light_interval k (take cut.number (child ∷ children)) cut.extra cut.interval) in
          let sums = cut.sums in
          d.taken cut.number cut.extra most w cut.some (omega arith) small (omega arith) cut.interval
          (wider k (drop cut.number (child ∷ children)) cut.rest_most w (most - (1 + cut.extra)) w (omega arith) (omega arith) cut.rest)
    ],
    d.sound most w small,
  );
  short = d.short;
  small = d.small;
}

-- trimmed

pub cut_end : (k room : ℕ) (children : List Child) (base : ℕ) (lefts : List ℕ) (index : ℕ) → get_or lefts index 0 ≤ 0 → IsProfile k room children base lefts → IsProfile k room children base (take index lefts)
cut_end k room children base lefts index nothing p = record {
  tells = λ most w small. (
    λ h. let l = (p.tells most w small).0 h in let g = l.enough in elim (cases_lt (most - base) index) [
      | inl before ↦ let e = get_or-take index lefts (most - base) 0 before in let was = l.little in record { enough = g; little = omega arith }
      | inr past ↦ let len = length-take index lefts in listed_end base (take index lefts) most w (omega arith)
    ],
    λ l. let g = l.enough in elim (cases_lt (most - base) index) [
      | inl before ↦ let e = get_or-take index lefts (most - base) 0 before in let now = l.little in (p.tells most w small).1 (record { enough = g; little = omega arith })
      | inr past ↦
          let here : base + index - base ≡ index = omega arith in let e = ap (λ n. get_or lefts n 0) here in
          wider k children (base + index) w most w (omega arith) (omega arith) ((p.tells (base + index) w small).1 (record { enough = omega arith; little = omega arith }))
    ],
  );
  short = let len = length-take index lefts in let s = p.short in omega arith;
  small = λ at. elim (cases_lt at index) [
    | inl before ↦ let e = get_or-take index lefts at 0 before in let s = p.small at in omega arith
    | inr past ↦ let len = length-take index lefts in let e = get_or_past (take index lefts) at 0 (omega arith) in omega arith
  ];
}

pub cut_first : (k room : ℕ) (children : List Child) (base : ℕ) (lefts : List ℕ) → room < get_or lefts 0 0 → IsProfile k room children base lefts → IsProfile k room children (base + 1) (drop 1 lefts)
cut_first k room children base lefts much p = record {
  tells = λ most w small. (
    λ h. let l = (p.tells most w small).0 h in let g = l.enough in elim (cases_lt base most) [
      | inl more ↦
          let e : most - base ≡ 1 + (most - (base + 1)) = omega arith in let same = ap (λ n. get_or lefts n 0) e in
          let at = get_or-drop 1 lefts (most - (base + 1)) 0 in let was = l.little in record { enough = omega arith; little = omega arith }
      | inr less ↦
          let e : most - base ≡ 0 = omega arith in let same = ap (λ n. get_or lefts n 0) e in let was = l.little in absurd (omega arith)
    ],
    λ l. let g = l.enough in
        let e : most - base ≡ 1 + (most - (base + 1)) = omega arith in let same = ap (λ n. get_or lefts n 0) e in
        let at = get_or-drop 1 lefts (most - (base + 1)) 0 in let now = l.little in
        (p.tells most w small).1 (record { enough = omega arith; little = omega arith }),
  );
  short = elim (cases_lt 0 (length lefts)) [
    | inl some ↦ let len = length-drop 1 lefts in let s = p.short in omega arith
    | inr empty ↦ let e = get_or_past lefts 0 0 empty in absurd (omega arith)
  ];
  small = λ at. let e = get_or-drop 1 lefts at 0 in let s = p.small (1 + at) in omega arith;
}
