-- What a profile of the children gives is what the least admitted choices give.
use Rattle.std.proofs.Common.{◌≡◌, ℕ, ◌+◌, ◌≤◌, List, Some, None, refl, arith}
use Rattle.nx_choices.specs.declared.child.Child.{Child}
use Rattle.nx_choices.specs.Choice.{count, left, IsAdmitted}
use Rattle.nx_lists.specs.Least.{IsLeast}
use Rattle.nx_choices.specs.Least.{IsLeastWithin}
use Rattle.nx_choices.specs.Profile.{cost, count_by_cost, AreCounts, IsBudget, IsCheapest, IsLeastLeft}
use Rattle.nx_choices.proofs.ChoiceLemmas.{wider}
use Rattle.nx_choices.proofs.FoundLemmas.{counted, admitted_within, least_weight}

-- the least count
pub fewest : (own room : ℕ) (children : List Child) (number sum cheapest least : ℕ) → AreCounts children number sum → IsCheapest (own + room) room children cheapest → least ≡ count_by_cost sum number cheapest
    → IsLeast (IsAdmitted (own + room) own children) count least
fewest own room children number sum cheapest least a h is =
    let e = h.enough in
    let c = counted e.cells children number sum a e.covers in
    let cheap = e.cheap in
    let little = e.little in
    let le = h.least (cost e.cells) (record { cells = e.cells; covers = e.covers; light = e.light; cheap = omega arith; little = e.little }) in
    let same : cost e.cells ≡ cheapest = omega arith in
    record {
      one = e.cells;
      holds = record { covers = e.covers; root = omega arith; light = e.light };
      reached = omega arith;
      least = λ other admitted.
          let d = counted other children number sum a admitted.covers in
          let root = admitted.root in
          let within = admitted_within (own + room) own room children other refl admitted in
          let more = h.least (cost other) (wider (own + room) children (cost other) (left other) (cost other) room (omega arith) (omega arith) within) in omega arith;
    }

-- the least weight with so small a count
pub lightest : (own room : ℕ) (children : List Child) (number sum most budget some_left found : ℕ) → AreCounts children number sum → IsBudget sum number most (Some budget)
    → IsLeastLeft (own + room) room children budget (Some some_left) → own + some_left ≡ found → IsLeastWithin (own + room) own children most found
lightest own room children number sum most budget some_left found a b l is =
    let w = least_weight own room children number sum most budget some_left a b l in
    let given = w.given in
    record {
      one = w.cells;
      holds = (w.admitted, w.few);
      reached = omega arith;
      least = λ other p. let le = w.least other p.0 p.1 in omega arith;
    }

-- there is a budget, and what is left by it
pub budget_some : (own room : ℕ) (children : List Child) (number sum most cheapest : ℕ) → IsBudget sum number most None → count_by_cost sum number cheapest ≤ most → ⊥
budget_some own room children number sum most cheapest b enough = let h = b cheapest in omega arith

pub left_there : (own room : ℕ) (children : List Child) (number sum most cheapest budget : ℕ) → IsBudget sum number most (Some budget) → IsCheapest (own + room) room children cheapest → count_by_cost sum number cheapest ≤ most
    → IsLeastLeft (own + room) room children budget None → ⊥
left_there own room children number sum most cheapest budget b h enough l =
    l room (omega arith) (wider (own + room) children cheapest room budget room ((b cheapest).0 enough) (omega arith) h.enough)
