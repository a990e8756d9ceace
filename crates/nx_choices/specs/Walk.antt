-- A walk over the children that follows a choice and tells how each child stands.
use Rattle.std.specs.Prelude.{◌≡◌, ℕ, zero, suc, ◌+◌, ◌-◌, ◌<◌, ◌≤◌, Bool, true, false, List, [], ◌∷◌, ◌++◌, map, length, take, drop, replicate, Option, None, Some}
use Rattle.nx_choices.specs.declared.child.Child.{Child}
use Rattle.nx_choices.specs.declared.child.Stand.{Stand}
use Rattle.nx_choices.specs.declared.child.Stand.TheVariants.{Uncut as Alone, Opens, Joins}
use Rattle.nx_choices.specs.declared.walk.Walk.{Walk}
use Rattle.nx_choices.specs.declared.reach.Form.TheVariants.{Plain}
use Rattle.nx_choices.specs.Choice.{Member, Cell, child_of, covered, interval_weight, left, AreLight}
use Rattle.nx_choices.specs.Profile.{seconds, cost, weigh, IsAchievable, IsInterval}
use Rattle.nx_choices.specs.Stand.{is_second, joins, stands}

-- what the children weigh in their first form, if that is at most `most`
abbrev pub IsTotal : List Child → ℕ → Option ℕ → Type 0
IsTotal children most None = most < weigh Plain children
IsTotal children most (Some total) = (total ≡ weigh Plain children) × (total ≤ most)

abbrev pub AddsUncut : ℕ → List Stand → List Stand → Type 0
AddsUncut number old new = new ≡ old ++ replicate number Alone

-- what may be left by the others where a child that weighs `lean` stays uncut, if it may
abbrev pub IsUncut : ℕ → List Child → ℕ → ℕ → ℕ → Option ℕ → Type 0
IsUncut k others lean most w None = lean ≤ w → ¬ IsAchievable k others most (w - lean)
IsUncut k others lean most w (Some rest) = (lean + rest ≡ w) × IsAchievable k others most rest

-- the first `number` children may be an interval with at most `extra` members in their second form, and some choice over the others takes at most what is left of the cost and leaves at most so much
pub record IsCutAt (k : ℕ) (children : List Child) (most w number extra : ℕ) : Type 0 where
  pub some : 1 ≤ number
  pub within : number ≤ length children
  pub interval : IsInterval k (take number children) extra
  pub much : 1 + extra ≤ most
  pub rest : IsAchievable k (drop number children) (most - (1 + extra)) w

-- the same for given members and others, where fewer than `extras` may be in their second form
abbrev pub IsTried : ℕ → List Child → List Child → ℕ → ℕ → ℕ → Option ℕ → Type 0
IsTried k members others most w extras None =
    (extra : ℕ) → extra < extras → IsInterval k members extra → 1 + extra ≤ most → ¬ IsAchievable k others (most - (1 + extra)) w
IsTried k members others most w extras (Some extra) =
    IsInterval k members extra × (1 + extra ≤ most) × IsAchievable k others (most - (1 + extra)) w

-- whether the first of these members may be in its first form; otherwise it may be in its second
abbrev pub IsFormOfFirst : ℕ → Child → List Child → ℕ → Bool → Type 0
IsFormOfFirst limit child children extra true = (child.lean ≤ limit) × IsInterval (limit - child.lean) children extra
IsFormOfFirst limit child children extra false = (child.nearly ≤ limit) × (1 ≤ extra) × IsInterval (limit - child.nearly) children (extra - 1)

abbrev pub IsForm : ℕ → List Child → ℕ → Bool → Type 0
IsForm limit [] extra first = ⊥
IsForm limit (child ∷ children) extra first = IsFormOfFirst limit child children extra first

-- how a member of an interval with `number` members stands behind so many others
abbrev pub stand_at : ℕ → ℕ → Bool → Stand
stand_at number zero second = Opens number second
stand_at number (suc at) second = Joins second

-- how the first members of an interval with `number` members stand
abbrev pub opened_stands : ℕ → List Member → List Stand
opened_stands number [] = []
opened_stands number (member ∷ members) = Opens number (is_second member) ∷ joins members

-- The first `at` members of an interval have their forms, and are told; the others may be an interval with what is left.
pub record AreFormed (k : ℕ) (children : List Child) (extra at limit left_extra : ℕ) (old new : List Stand) : Type 0 where
  pub members : List Member
  pub covers : map child_of members ≡ take at children
  pub light : interval_weight members + limit ≤ k
  pub few : seconds members + left_extra ≤ extra
  pub rest : IsInterval limit (drop at children) left_extra
  pub added : new ≡ old ++ opened_stands (length children) members

-- an interval of these children is told
pub record AddsInterval (k : ℕ) (children : List Child) (extra : ℕ) (old new : List Stand) : Type 0 where
  pub members : List Member
  pub covers : map child_of members ≡ children
  pub light : interval_weight members ≤ k
  pub few : seconds members ≤ extra
  pub added : new ≡ old ++ opened_stands (length children) members

-- the children are cut as a choice does, which is told
pub record IsFollowed (k : ℕ) (children : List Child) (most room : ℕ) (old new : List Stand) : Type 0 where
  pub cells : List Cell
  pub covers : covered cells ≡ children
  pub light : AreLight k cells
  pub cheap : cost cells ≤ most
  pub little : left cells ≤ room
  pub added : new ≡ old ++ stands cells

-- The first `at` children are cut as a choice does, which is told; some choice over the others takes what is left of the cost and of the room.
pub record IsPartly (k : ℕ) (children : List Child) (most room : ℕ) (old : List Stand) (walk : Walk) (new : List Stand) : Type 0 where
  pub cells : List Cell
  pub within : walk.at ≤ length children
  pub covers : covered cells ≡ take walk.at children
  pub light : AreLight k cells
  pub cheap : cost cells + walk.cost ≤ most
  pub little : left cells + walk.left ≤ room
  pub rest : IsAchievable k (drop walk.at children) walk.cost walk.left
  pub added : new ≡ old ++ stands cells

-- the walk goes on from one place to the next, whatever came before
pub record IsTaken (k : ℕ) (children : List Child) (walk next : Walk) (old new : List Stand) : Type 0 where
  pub on : walk.at < next.at
  pub within : next.at ≤ length children
  pub little : next.left ≤ walk.left
  pub goes : (most room : ℕ) (first : List Stand) → IsPartly k children most room first walk old → IsPartly k children most room first next new
