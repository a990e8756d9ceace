-- Children that all may stay with their node.
use Rattle.std.proofs.Common.{◌≡◌, ℕ, ◌+◌, ◌-◌, ◌<◌, ◌≤◌, inl, inr, List, [], ◌∷◌, ◌++◌, length, take, drop, get_or, refl, sym, ap, subst, arith, replicate}
use Rattle.std.proofs.lemmas.List.{take_all, drop_all, get_or_past}
use Rattle.std.proofs.lemmas.Bool.{cases_lt}
use Rattle.nx_choices.specs.declared.child.Child.{Child}
use Rattle.nx_choices.specs.declared.child.Stand.{Stand}
use Rattle.nx_choices.specs.declared.child.Stand.TheVariants.{Uncut as Alone}
use Rattle.nx_choices.specs.declared.reach.Form.TheVariants.{Plain}
use Rattle.nx_choices.specs.Choice.{Cell, Uncut, Interval, covered, left, AreLight, AreWeighed}
use Rattle.nx_choices.specs.Profile.{cost, weigh, IsAchievable, IsProfile}
use Rattle.nx_choices.specs.Stand.{stands, HasChoice, AddsChoice}
use Rattle.nx_choices.proofs.ChoiceLemmas.{wider, within_none, add_interval, plain_interval}
use Rattle.nx_choices.proofs.FoundLemmas.{count_is}
use Rattle.nx_choices.proofs.ProfileLemmas.{profile_none}

-- the choice that leaves each child uncut
abbrev pub alone : List Child → List Cell
alone [] = []
alone (child ∷ children) = Uncut child ∷ alone children

alone_covers : (children : List Child) → covered (alone children) ≡ children
alone_covers [] = refl
alone_covers (child ∷ children) = ap (λ cs. child ∷ cs) (alone_covers children)

alone_light : (k : ℕ) (children : List Child) → AreLight k (alone children)
alone_light k [] = tt
alone_light k (child ∷ children) = (tt, alone_light k children)

alone_cost : (children : List Child) → cost (alone children) ≡ 0
alone_cost [] = refl
alone_cost (child ∷ children) = let ih = alone_cost children in omega arith

alone_left : (children : List Child) → left (alone children) ≡ weigh Plain children
alone_left [] = refl
alone_left (child ∷ children) = let ih = alone_left children in omega arith

alone_stands : (children : List Child) → stands (alone children) ≡ replicate (length children) Alone
alone_stands [] = refl
alone_stands (child ∷ children) = ap (λ list. Alone ∷ list) (alone_stands children)

within_uncut : (k : ℕ) (children : List Child) → IsAchievable k children 0 (weigh Plain children)
within_uncut k children = record {
  cells = alone children;
  covers = alone_covers children;
  light = alone_light k children;
  cheap = let e = alone_cost children in omega arith;
  little = let e = alone_left children in omega arith;
}

-- a choice that costs nothing leaves all children uncut
free_left : (cells : List Cell) → cost cells ≤ 0 → weigh Plain (covered cells) ≤ left cells
free_left [] h = omega arith
free_left (Uncut child ∷ cells) h = let ih = free_left cells (omega arith) in omega arith
free_left (Interval member members ∷ cells) h = absurd (omega arith)

within_free : (k : ℕ) (children : List Child) (w : ℕ) → IsAchievable k children 0 w → weigh Plain children ≤ w
within_free k children w h = let f = free_left h.cells h.cheap in let e = ap (weigh Plain) h.covers in let l = h.little in omega arith

-- all children as one interval
within_one : (k : ℕ) (child : Child) (children : List Child) → weigh Plain (child ∷ children) ≤ k → IsAchievable k (child ∷ children) 1 0
within_one k child children h =
    let n = length (child ∷ children) in
    let all : take n (child ∷ children) ≡ child ∷ children = take_all n (child ∷ children) (omega arith) in
    let none : drop n (child ∷ children) ≡ [] = drop_all n (child ∷ children) (omega arith) in
    let i = plain_interval k (take n (child ∷ children)) (let e = ap (weigh Plain) all in omega arith) in
    let rest = subst (λ (cs : List Child). IsAchievable k cs 0 0) (sym none) (within_none k 0 0) in
    wider k (child ∷ children) (1 + 0 + 0) 0 1 0 (omega arith) (omega arith) (add_interval k n child children 0 0 0 (omega arith) i rest)

profile_whole : (k room : ℕ) (child : Child) (children : List Child) (total : ℕ) → total ≡ weigh Plain (child ∷ children) → total ≤ room → room ≤ k → IsProfile k room (child ∷ children) 0 (total ∷ [])
profile_whole k room child children total is fits small = record {
  tells = λ most w little. elim (cases_lt 0 most) [
    | inl some ↦
        let none : get_or (total ∷ []) (most - 0) 0 ≡ 0 = get_or_past (total ∷ []) (most - 0) 0 (omega arith) in (
          λ h. record { enough = omega arith; little = omega arith },
          λ l. wider k (child ∷ children) 1 0 most w some (omega arith) (within_one k child children (omega arith)),
        )
    | inr free ↦
        let e : most ≡ 0 = omega arith in let at : get_or (total ∷ []) (most - 0) 0 ≡ total = ap (λ n. get_or (total ∷ []) (n - 0) 0) e in (
          λ h. let f = within_free k (child ∷ children) w (subst (λ n. IsAchievable k (child ∷ children) n w) e h) in record { enough = omega arith; little = omega arith },
          λ l. let now = l.little in wider k (child ∷ children) 0 (weigh Plain (child ∷ children)) most w (omega arith) (omega arith) (within_uncut k (child ∷ children)),
        )
  ];
  short = omega arith;
  small = λ index. elim (cases_lt 0 index) [
    | inl some ↦ let e = get_or_past (total ∷ []) index 0 (omega arith) in omega arith
    | inr none ↦ let e : index ≡ 0 = omega arith in let at = ap (λ n. get_or (total ∷ []) n 0) e in omega arith
  ];
}

-- the profile of children that all may stay with their node
pub profile_filled : (k room : ℕ) (children : List Child) (total : ℕ) → AreWeighed k children → 0 < total → total ≡ weigh Plain children → total ≤ room → room ≤ k → IsProfile k room children 0 (total ∷ [])
profile_filled k room [] total all some is fits small = absurd (omega arith)
profile_filled k room (child ∷ children) total all some is fits small = profile_whole k room child children total is fits small

pub profile_empty : (k room : ℕ) (children : List Child) (total : ℕ) → AreWeighed k children → total ≤ 0 → total ≡ weigh Plain children → IsProfile k room children 0 []
profile_empty k room [] total all none is = profile_none k room
profile_empty k room (child ∷ children) total all none is = let some = all.0.lean_some in absurd (omega arith)

-- the choice that leaves them uncut counts no more than any other
pub chooses_uncut : (k own most most_weight total : ℕ) (children : List Child) (old new : List Stand) → HasChoice k own most most_weight children → total ≡ weigh Plain children → own + total ≤ k → own + total ≤ most_weight → new ≡ old ++ replicate (length children) Alone → AddsChoice k own most most_weight children old new
chooses_uncut k own most most_weight total children old new has is fits small added =
    let covers = alone_covers children in let free = alone_cost children in let leaves = alone_left children in
    let counts = count_is (alone children) children covers in let other = count_is has.cells children has.admitted.covers in let few = has.few in
    record {
      list = replicate (length children) Alone;
      added = added;
      choice = record {
        cells = alone children;
        admitted = record { covers = covers; root = omega arith; light = alone_light k children };
        few = omega arith;
        little = omega arith;
        are = sym (alone_stands children);
      };
    }
