-- A choice over what is claimed of the children, made from one over the children as they are: no more intervals, and no more left with the node.
use Rattle.std.proofs.Common.{◌≡◌, ◌⊎◌, inl, inr, ℕ, ◌+◌, ◌<◌, ◌≤◌, List, [], ◌∷◌, ◌++◌, length, map, refl, ap, ◌∙◌, arith}
use Rattle.std.proofs.lemmas.Bool.{cases_lt}
use Rattle.nx_choices.specs.declared.child.Child.{Child}
use Rattle.nx_choices.specs.Choice.{Member, First, Second, Cell, Uncut, Interval, child_of, covered, choice_intervals, numbers_of, numbers, interval_weight, left, AreLight, count}

-- the members are all in their first form
abbrev pub AreFirstMembers : List Member → Type 0
AreFirstMembers [] = Unit {0}
AreFirstMembers (First child ∷ members) = AreFirstMembers members
AreFirstMembers (Second child ∷ members) = ⊥

abbrev pub IsFirstCell : Cell → Type 0
IsFirstCell (Uncut child) = Unit {0}
IsFirstCell (Interval member members) = AreFirstMembers (member ∷ members)

-- the members of all cells are in their first form
abbrev pub AreFirst : List Cell → Type 0
AreFirst [] = Unit {0}
AreFirst (cell ∷ cells) = IsFirstCell cell × AreFirst cells

-- What is claimed of a child is true of it as it is, where its part weighs the same with one interval more.
pub record IsTrueClaim (k : ℕ) (claim actual : Child) : Type 0 where
  pub least : claim.least ≤ actual.least
  pub lean : actual.least ≤ claim.least → claim.lean ≤ actual.lean
  pub nearly : actual.least ≤ claim.least + 1 → claim.nearly ≤ actual.lean
  pub light : claim.lean ≤ k

-- what is claimed of each child is true of it
abbrev pub AreTrueClaims : ℕ → List Child → List Child → Type 0
AreTrueClaims k [] [] = Unit {0}
AreTrueClaims k [] (actual ∷ actuals) = ⊥
AreTrueClaims k (claim ∷ claims) [] = ⊥
AreTrueClaims k (claim ∷ claims) (actual ∷ actuals) = IsTrueClaim k claim actual × AreTrueClaims k claims actuals

-- a choice over the claims that is no worse than one over the children
pub record Lowered (k : ℕ) (cells : List Cell) (claims : List Child) : Type 0 where
  pub lowered : List Cell
  pub covers : covered lowered ≡ claims
  pub light : AreLight k lowered
  pub leaves : left lowered ≤ left cells
  pub few : choice_intervals lowered + numbers lowered ≤ choice_intervals cells + numbers cells

-- the same where the first interval isn't closed yet
record Opened (k weight leaving most : ℕ) (claims : List Child) : Type 0 where
  prefix : List Member
  behind : List Cell
  covers : map child_of prefix ++ covered behind ≡ claims
  weighs : interval_weight prefix ≤ weight
  light : AreLight k behind
  leaves : left behind ≤ leaving
  few : numbers_of prefix + choice_intervals behind + numbers behind ≤ most

abbrev closed : List Member → List Cell → List Cell
closed [] cells = cells
closed (member ∷ members) cells = Interval member members ∷ cells

covered-closed : (prefix : List Member) (cells : List Cell) → covered (closed prefix cells) ≡ map child_of prefix ++ covered cells
covered-closed [] cells = refl
covered-closed (member ∷ members) cells = refl

light-closed : (k : ℕ) (prefix : List Member) (cells : List Cell) → interval_weight prefix ≤ k → AreLight k cells → AreLight k (closed prefix cells)
light-closed k [] cells weighs light = light
light-closed k (member ∷ members) cells weighs light = (weighs, light)

left-closed : (prefix : List Member) (cells : List Cell) → left (closed prefix cells) ≤ left cells
left-closed [] cells = omega arith
left-closed (member ∷ members) cells = omega arith

few-closed : (prefix : List Member) (cells : List Cell) →
    choice_intervals (closed prefix cells) + numbers (closed prefix cells) ≤ 1 + (numbers_of prefix + choice_intervals cells + numbers cells)
few-closed [] cells = omega arith
few-closed (member ∷ members) cells = omega arith

-- a child more in front of the open interval: in its first form, in its second, or as an interval of its own
extended : {k weight leaving most : ℕ} {claim actual : Child} {claims : List Child} → IsTrueClaim k claim actual → weight ≤ k → Opened k weight leaving most claims →
    (claim.least + 1 < actual.least) ⊎ (actual.least ≤ claim.least + 1) → (claim.least < actual.least) ⊎ (actual.least ≤ claim.least) →
    Opened k (actual.lean + weight) leaving (actual.least + most) (claim ∷ claims)
extended {claim = claim} true slight o (inl many) some =
    record {
      prefix = [];
      behind = Interval (First claim) [] ∷ closed o.prefix o.behind;
      covers = ap (λ l. claim ∷ l) (covered-closed o.prefix o.behind ∙ o.covers);
      weighs = omega arith;
      light = (omega (arith, true.light), light-closed _ o.prefix o.behind (omega (arith, o.weighs, slight)) o.light);
      leaves = omega (arith, left-closed o.prefix o.behind, o.leaves);
      few = omega (arith, few-closed o.prefix o.behind, o.few, many);
    }
extended {claim = claim} true slight o (inr few) (inl some) =
    record {
      prefix = Second claim ∷ o.prefix;
      behind = o.behind;
      covers = ap (λ l. claim ∷ l) o.covers;
      weighs = omega (arith, true.nearly few, o.weighs);
      light = o.light;
      leaves = o.leaves;
      few = omega (arith, o.few, some);
    }
extended {claim = claim} true slight o (inr few) (inr none) =
    record {
      prefix = First claim ∷ o.prefix;
      behind = o.behind;
      covers = ap (λ l. claim ∷ l) o.covers;
      weighs = omega (arith, true.lean none, o.weighs);
      light = o.light;
      leaves = o.leaves;
      few = omega (arith, o.few, true.least);
    }

-- the members of an interval and the cells behind it
opened : (k : ℕ) (members : List Member) (cells : List Cell) (claims : List Child) → AreFirstMembers members → interval_weight members ≤ k →
    AreTrueClaims k claims (map child_of members ++ covered cells) →
    ((others : List Child) → AreTrueClaims k others (covered cells) → Lowered k cells others) →
    Opened k (interval_weight members) (left cells) (numbers_of members + choice_intervals cells + numbers cells) claims
opened k [] cells claims first light true rest =
    let r = rest claims true in
    record { prefix = []; behind = r.lowered; covers = r.covers; weighs = omega arith; light = r.light; leaves = r.leaves; few = omega (arith, r.few) }
opened k (Second actual ∷ members) cells claims first light true rest = absurd first
opened k (First actual ∷ members) cells [] first light true rest = absurd true
opened k (First actual ∷ members) cells (claim ∷ claims) first light true rest =
    let o = opened k members cells claims first (omega (arith, light)) true.1 rest in
    let e = extended true.0 (omega (arith, light)) o
    (cases_lt (claim.least + 1) actual.least) (cases_lt claim.least actual.least) in
    record { prefix = e.prefix; behind = e.behind; covers = e.covers; weighs = e.weighs; light = e.light; leaves = e.leaves; few = omega (arith, e.few) }

-- an uncut child stays uncut, or becomes an interval of its own
lowered_uncut : (k : ℕ) (claim actual : Child) (cells : List Cell) (claims : List Child) → IsTrueClaim k claim actual → Lowered k cells claims →
    (claim.least < actual.least) ⊎ (actual.least ≤ claim.least) → Lowered k (Uncut actual ∷ cells) (claim ∷ claims)
lowered_uncut k claim actual cells claims true r (inl some) =
    record {
      lowered = Interval (First claim) [] ∷ r.lowered;
      covers = ap (λ l. claim ∷ l) r.covers;
      light = (omega (arith, true.light), r.light);
      leaves = omega (arith, r.leaves);
      few = omega (arith, r.few, some);
    }
lowered_uncut k claim actual cells claims true r (inr none) =
    record {
      lowered = Uncut claim ∷ r.lowered;
      covers = ap (λ l. claim ∷ l) r.covers;
      light = (tt, r.light);
      leaves = omega (arith, true.lean none, r.leaves);
      few = omega (arith, true.least, r.few);
    }

pub lowered_by_claims : (k : ℕ) (cells : List Cell) (claims : List Child) → AreFirst cells → AreLight k cells → AreTrueClaims k claims (covered cells) → Lowered k cells claims
lowered_by_claims k [] [] first light true = record { lowered = []; covers = refl; light = tt; leaves = omega arith; few = omega arith }
lowered_by_claims k [] (claim ∷ claims) first light true = absurd true
lowered_by_claims k (Uncut actual ∷ cells) [] first light true = absurd true
lowered_by_claims k (Uncut actual ∷ cells) (claim ∷ claims) first light true =
    lowered_uncut k claim actual cells claims true.0 (lowered_by_claims k cells claims first.1 light.1 true.1) (cases_lt claim.least actual.least)
lowered_by_claims k (Interval member members ∷ cells) claims first light true =
    let o = opened k (member ∷ members) cells claims first.0 light.0 true (λ others t. lowered_by_claims k cells others first.1 light.1 t) in
    record {
      lowered = closed o.prefix o.behind;
      covers = covered-closed o.prefix o.behind ∙ o.covers;
      light = light-closed k o.prefix o.behind (omega (arith, o.weighs, light.0)) o.light;
      leaves = omega (arith, left-closed o.prefix o.behind, o.leaves);
      few = omega (arith, few-closed o.prefix o.behind, o.few);
    }

pub length-claims : (k : ℕ) (claims actuals : List Child) → AreTrueClaims k claims actuals → length claims ≡ length actuals
length-claims k [] [] true = refl
length-claims k [] (actual ∷ actuals) true = absurd true
length-claims k (claim ∷ claims) [] true = absurd true
length-claims k (claim ∷ claims) (actual ∷ actuals) true = omega (arith, length-claims k claims actuals true.1)

-- the count of the choice over the claims
pub count-lowered : (k n : ℕ) (cells : List Cell) (claims : List Child) → AreTrueClaims k claims (covered cells) → 1 ≤ n →
    1 + choice_intervals cells + numbers cells ≤ n + length (covered cells) → (l : Lowered k cells claims) → count l.lowered ≤ n
count-lowered k n cells claims true one few l =
    omega (arith, l.few, few, one, ap length l.covers, length-claims k claims (covered cells) true)
