-- What a profile says of the choices over all children of a node.
use Rattle.std.proofs.Common.{◌≡◌, ℕ, ◌+◌, ◌-◌, ◌<◌, ◌≤◌, inl, inr, List, [], ◌∷◌, ◌++◌, length, map, take, get_or, refl, ap, arith, Some, None}
use Rattle.std.proofs.lemmas.List.{take_more}
use Rattle.std.proofs.lemmas.Bool.{cases_lt}
use Rattle.nx_choices.specs.declared.child.Field.TheVariants.{Least, Lean, Nearly}
use Rattle.nx_choices.specs.declared.child.Child.{Child}
use Rattle.nx_choices.specs.Choice.{Member, First, Second, Cell, Uncut, Interval, child_of, covered, choice_intervals, numbers, numbers_of, left, count, IsAdmitted, leasts}
use Rattle.nx_choices.specs.Claim.{IsFieldSupported, IsSupported, IsExceeded}
use Rattle.nx_choices.specs.Profile.{seconds, cost, count_by_cost, IsAchievable, IsProfile, IsBudget, IsLeastLeft, IsCheapest, IsFirstLight, AreCounts, IsLeastWeight, IsExcess}
use Rattle.nx_choices.proofs.ProfileLemmas.{listed_end}
use Rattle.nx_choices.proofs.ChoiceLemmas.{wider}

leasts-append : (prefix back : List Child) → leasts (prefix ++ back) ≡ leasts prefix + leasts back
leasts-append [] back = omega arith
leasts-append (child ∷ prefix) back = let ih = leasts-append prefix back in omega arith

-- one child more
pub leasts_more : (children : List Child) (index : ℕ) (child : Child) → index < length children → leasts (take (index + 1) children) ≡ leasts (take index children) + (get_or children index child).least
leasts_more children index child within =
    let more = ap leasts (take_more children index child within) in
    let sums = leasts-append (take index children) (get_or children index child ∷ []) in omega arith

members_number : (members : List Member) → numbers_of members ≡ seconds members + leasts (map child_of members)
members_number [] = refl
members_number (First child ∷ members) = let ih = members_number members in omega arith
members_number (Second child ∷ members) = let ih = members_number members in omega arith

cells_number : (cells : List Cell) → choice_intervals cells + numbers cells ≡ cost cells + leasts (covered cells)
cells_number [] = refl
cells_number (Uncut child ∷ cells) = let ih = cells_number cells in omega arith
cells_number (Interval member members ∷ cells) =
    let ih = cells_number cells in let m = members_number (member ∷ members) in
    let a = leasts-append (map child_of (member ∷ members)) (covered cells) in omega arith

-- the count of a choice, by what it costs
pub count_is : (cells : List Cell) (children : List Child) → covered cells ≡ children → count cells ≡ count_by_cost (leasts children) (length children) (cost cells)
count_is cells children e =
    let n = cells_number cells in let l = ap leasts e in let len = ap length e in omega arith

-- an admitted choice leaves what there is room for
pub admitted_within : (k own room : ℕ) (children : List Child) (cells : List Cell) → own + room ≡ k → IsAdmitted k own children cells → IsAchievable k children (cost cells) (left cells)
admitted_within k own room children cells sums a = record { cells = cells; covers = a.covers; light = a.light; cheap = omega arith; little = omega arith }

pub cheapest_some : (k room : ℕ) (children : List Child) (base : ℕ) (lefts : List ℕ) (index : ℕ) → IsProfile k room children base lefts → IsFirstLight room lefts (Some index) → IsCheapest k room children (base + index)
cheapest_some k room children base lefts index p f =
    let here : base + index - base ≡ index = omega arith in let e = ap (λ n. get_or lefts n 0) here in let light = f.1 in
    record {
      enough = (p.tells (base + index) room (omega arith)).1 (record { enough = omega arith; little = omega arith });
      least = λ most h. let l = (p.tells most room (omega arith)).0 h in let g = l.enough in let now = l.little in elim (cases_lt (most - base) index) [
        | inl less ↦ let heavy = f.2 (most - base) less in absurd (omega arith)
        | inr more ↦ omega arith
      ];
    }

pub cheapest_none : (k room : ℕ) (children : List Child) (base : ℕ) (lefts : List ℕ) → IsProfile k room children base lefts → IsFirstLight room lefts None → IsCheapest k room children (base + length lefts)
cheapest_none k room children base lefts p f = record {
  enough = (p.tells (base + length lefts) room (omega arith)).1 (listed_end base lefts (base + length lefts) room (omega arith));
  least = λ most h. let l = (p.tells most room (omega arith)).0 h in let g = l.enough in let now = l.little in elim (cases_lt (most - base) (length lefts)) [
    | inl less ↦ let heavy = f (most - base) less in absurd (omega arith)
    | inr more ↦ omega arith
  ];
}

-- below the base there is no choice
pub left_before : (k room : ℕ) (children : List Child) (base : ℕ) (lefts : List ℕ) (most : ℕ) → most < base → IsProfile k room children base lefts → IsLeastLeft k room children most None
left_before k room children base lefts most less p = λ w small h. let g = ((p.tells most w small).0 h).enough in omega arith

pub left_none : (k room : ℕ) (children : List Child) (base : ℕ) (lefts : List ℕ) (most : ℕ) → room < get_or lefts (most - base) 0 → IsProfile k room children base lefts → IsLeastLeft k room children most None
left_none k room children base lefts most much p = λ w small h. let l = ((p.tells most w small).0 h).little in omega arith

pub left_some : (k room : ℕ) (children : List Child) (base : ℕ) (lefts : List ℕ) (most : ℕ) → base ≤ most → get_or lefts (most - base) 0 ≤ room → IsProfile k room children base lefts → IsLeastLeft k room children most (Some (get_or lefts (most - base) 0))
left_some k room children base lefts most enough little p =
    (little, (p.tells most (get_or lefts (most - base) 0) little).1 (record { enough = enough; little = omega arith }), λ w small h. ((p.tells most w small).0 h).little)

pub counted : (cells : List Cell) (children : List Child) (number sum : ℕ) → AreCounts children number sum → covered cells ≡ children → count cells ≡ count_by_cost sum number (cost cells)
counted cells children number sum a e = let n = a.many in let s = a.sums in let c = count_is cells children e in omega arith

-- no choice has so small a count
pub excess_unbudgeted : (k own : ℕ) (children : List Child) (number sum most claimed : ℕ) → AreCounts children number sum → IsBudget sum number most None → IsExcess k own children most claimed None
excess_unbudgeted k own children number sum most claimed a b = λ cells admitted few.
    let c = counted cells children number sum a admitted.covers in let h = b (cost cells) in absurd (omega arith)

-- no choice that costs so little leaves so little
pub excess_unleft : (own room : ℕ) (children : List Child) (number sum most claimed budget : ℕ) → AreCounts children number sum → IsBudget sum number most (Some budget) → IsLeastLeft (own + room) room children budget None → IsExcess (own + room) own children most claimed None
excess_unleft own room children number sum most claimed budget a b l = λ cells admitted few.
    let c = counted cells children number sum a admitted.covers in let root = admitted.root in
    let within = admitted_within (own + room) own room children cells refl admitted in
    absurd (l (left cells) (omega arith) (wider (own + room) children (cost cells) (left cells) budget (left cells) ((b (cost cells)).0 (omega arith)) (omega arith) within))

pub least_weight : (own room : ℕ) (children : List Child) (number sum most budget some_left : ℕ) → AreCounts children number sum → IsBudget sum number most (Some budget) → IsLeastLeft (own + room) room children budget (Some some_left) → IsLeastWeight (own + room) own children most (own + some_left)
least_weight own room children number sum most budget some_left a b l =
    let h = l.1 in let c = counted h.cells children number sum a h.covers in let few = (b (cost h.cells)).1 h.cheap in let little = h.little in let small = l.0 in
    let least = l.2 (left h.cells) (omega arith) (record { cells = h.cells; covers = h.covers; light = h.light; cheap = h.cheap; little = omega arith }) in
    record {
      cells = h.cells;
      admitted = record { covers = h.covers; root = omega arith; light = h.light };
      few = omega arith;
      given = omega arith;
      least = λ others admitted few'.
          let c' = counted others children number sum a admitted.covers in let root = admitted.root in
          let within = admitted_within (own + room) own room children others refl admitted in
          let le = l.2 (left others) (omega arith) (wider (own + room) children (cost others) (left others) budget (left others) ((b (cost others)).0 (omega arith)) (omega arith) within) in omega arith;
    }

pub excess_some : (own room : ℕ) (children : List Child) (number sum most claimed budget some_left : ℕ) → own + some_left < claimed → AreCounts children number sum → IsBudget sum number most (Some budget) → IsLeastLeft (own + room) room children budget (Some some_left) → IsExcess (own + room) own children most claimed (Some (own + some_left))
excess_some own room children number sum most claimed budget some_left less a b l = (least_weight own room children number sum most budget some_left a b l, less)

pub excess_none : (own room : ℕ) (children : List Child) (number sum most claimed budget some_left : ℕ) → claimed ≤ own + some_left → AreCounts children number sum → IsBudget sum number most (Some budget) → IsLeastLeft (own + room) room children budget (Some some_left) → IsExcess (own + room) own children most claimed None
excess_none own room children number sum most claimed budget some_left enough a b l = λ cells admitted few.
    let le = (least_weight own room children number sum most budget some_left a b l).least cells admitted few in omega arith

-- the first number of a bound

pub least_supported : (own room : ℕ) (children : List Child) (bound : Child) (number sum cheapest : ℕ) → AreCounts children number sum → IsCheapest (own + room) room children cheapest → bound.least ≤ count_by_cost sum number cheapest → IsFieldSupported (own + room) Least (record { own = own; children = children; bound = bound })
least_supported own room children bound number sum cheapest a h enough = λ cells admitted speaks.
    let c = counted cells children number sum a admitted.covers in let root = admitted.root in
    let within = admitted_within (own + room) own room children cells refl admitted in
    let le = h.least (cost cells) (wider (own + room) children (cost cells) (left cells) (cost cells) room (omega arith) (omega arith) within) in omega arith

pub least_exceeded : (own room : ℕ) (children : List Child) (bound : Child) (number sum cheapest : ℕ) → AreCounts children number sum → IsCheapest (own + room) room children cheapest → count_by_cost sum number cheapest < bound.least → IsExceeded (own + room) Least (record { own = own; children = children; bound = bound }) (count_by_cost sum number cheapest)
least_exceeded own room children bound number sum cheapest a h less =
    let e = h.enough in let c = counted e.cells children number sum a e.covers in let cheap = e.cheap in let little = e.little in
    let le = h.least (cost e.cells) (record { cells = e.cells; covers = e.covers; light = e.light; cheap = omega arith; little = e.little }) in
    let same : cost e.cells ≡ cheapest = omega arith in
    record {
      cells = e.cells;
      admitted = record { covers = e.covers; root = omega arith; light = e.light };
      speaks = tt;
      given = omega arith;
      least = λ others admitted speaks.
          let c' = counted others children number sum a admitted.covers in let root = admitted.root in
          let within = admitted_within (own + room) own room children others refl admitted in
          let le' = h.least (cost others) (wider (own + room) children (cost others) (left others) (cost others) room (omega arith) (omega arith) within) in omega arith;
      more = less;
    }

pub lean_exceeded : (k own : ℕ) (children : List Child) (bound : Child) (found : ℕ) → IsExcess k own children bound.least bound.lean (Some found) → IsExceeded k Lean (record { own = own; children = children; bound = bound }) found
lean_exceeded k own children bound found h =
    record { cells = h.0.cells; admitted = h.0.admitted; speaks = h.0.few; given = h.0.given; least = h.0.least; more = h.1 }

pub nearly_exceeded : (k own : ℕ) (children : List Child) (bound : Child) (found : ℕ) → IsExcess k own children (bound.least + 1) bound.nearly (Some found) → IsExceeded k Nearly (record { own = own; children = children; bound = bound }) found
nearly_exceeded k own children bound found h =
    record { cells = h.0.cells; admitted = h.0.admitted; speaks = h.0.few; given = h.0.given; least = h.0.least; more = h.1 }

-- a node that weighs more than k has no choice
pub supported_heavy : (k own : ℕ) (children : List Child) (bound : Child) → k < own → IsSupported k (record { own = own; children = children; bound = bound })
supported_heavy k own children bound heavy = record {
  least = λ cells a speaks. let root = a.root in absurd (omega arith);
  lean = λ cells a speaks. let root = a.root in absurd (omega arith);
  nearly = λ cells a speaks. let root = a.root in absurd (omega arith);
}
