-- Choices over a list of children, and over what is left of it.
use Rattle.std.proofs.Common.{◌≡◌, ℕ, suc, zero, ◌+◌, ◌-◌, ◌≤◌, ◌⊎◌, inl, inr, List, [], ◌∷◌, ◌++◌, map, length, take, drop, refl, sym, ap, ◌∙◌, arith}
use Rattle.std.proofs.lemmas.List.{length-map, length-append, take-append-drop}
use Rattle.nx_choices.specs.declared.reach.Form.TheVariants.{Plain, Light}
use Rattle.nx_choices.specs.declared.child.Child.{Child}
use Rattle.nx_choices.specs.Choice.{Member, First, Second, Cell, Uncut, Interval, child_of, covered, interval_weight, slots, left, AreLight}
use Rattle.nx_choices.specs.Profile.{seconds, cost, IsAchievable, IsInterval, weighs, weigh}

-- with more to spend and to leave
pub wider : (k : ℕ) (children : List Child) (most w most' w' : ℕ) → most ≤ most' → w ≤ w' → IsAchievable k children most w → IsAchievable k children most' w'
wider k children most w most' w' m l h =
    record { cells = h.cells; covers = h.covers; light = h.light; cheap = omega arith; little = omega arith }

-- no children
pub within_none : (k most w : ℕ) → IsAchievable k [] most w
within_none k most w = record { cells = []; covers = refl; light = tt; cheap = omega arith; little = omega arith }

drop_cells : (k : ℕ) (child : Child) (children : List Child) (most w : ℕ) (cells : List Cell) → covered cells ≡ child ∷ children → AreLight k cells → cost cells ≤ most → left cells ≤ w → IsAchievable k children most w
drop_cells k child children most w [] e light cheap little = cc
drop_cells k child children most w (Uncut other ∷ rest) e light cheap little =
    record { cells = rest; covers = cc; light = light.1; cheap = omega arith; little = omega arith }
drop_cells k child children most w (Interval member [] ∷ rest) e light cheap little =
    record { cells = rest; covers = cc; light = light.1; cheap = omega arith; little = omega arith }
drop_cells k child children most w (Interval member (next ∷ members) ∷ rest) e light cheap little =
    record { cells = Interval next members ∷ rest; covers = cc; light = (omega arith, light.1); cheap = omega arith; little = omega arith }

-- a choice without the first child
pub drop_one : (k : ℕ) (child : Child) (children : List Child) (most w : ℕ) → IsAchievable k (child ∷ children) most w → IsAchievable k children most w
drop_one k child children most w h = drop_cells k child children most w h.cells h.covers h.light h.cheap h.little

-- without the first children
pub drop_some : (k n : ℕ) (children : List Child) (most w : ℕ) → IsAchievable k children most w → IsAchievable k (drop n children) most w
drop_some k zero children most w h = h
drop_some k (suc n) [] most w h = h
drop_some k (suc n) (child ∷ children) most w h = drop_some k n children most w (drop_one k child children most w h)

-- with the first child uncut
pub add_uncut : (k : ℕ) (child : Child) (children : List Child) (most w : ℕ) → IsAchievable k children most w → IsAchievable k (child ∷ children) most (w + child.lean)
add_uncut k child children most w h =
    record { cells = Uncut child ∷ h.cells; covers = ap (λ cs. child ∷ cs) h.covers; light = (tt, h.light); cheap = omega arith; little = omega arith }

add_members : (k : ℕ) (child : Child) (children : List Child) (prefix : List Child) (extra most w : ℕ) (members : List Member) → map child_of members ≡ child ∷ prefix → seconds members ≤ extra → interval_weight members ≤ k → IsAchievable k children most w → IsAchievable k (child ∷ prefix ++ children) (1 + extra + most) w
add_members k child children prefix extra most w [] e few light h = cc
add_members k child children prefix extra most w (member ∷ members) e few light h =
    record { cells = Interval member members ∷ h.cells; covers = ap (λ cs. cs ++ covered h.cells) e ∙ ap (λ cs. child ∷ prefix ++ cs) h.covers; light = (light, h.light); cheap = omega arith; little = omega arith }

-- with the first children as an interval
pub add_interval : (k n : ℕ) (child : Child) (children : List Child) (extra most w : ℕ) → 1 ≤ n → IsInterval k (take n (child ∷ children)) extra → IsAchievable k (drop n (child ∷ children)) most w → IsAchievable k (child ∷ children) (1 + extra + most) w
add_interval k zero child children extra most w some i h = absurd (omega arith)
add_interval k (suc n) child children extra most w some i h =
    rw (sym (take-append-drop n children)) (add_members k child (drop n children) (take n children) extra most w i.members i.covers i.few i.light h)

-- a choice that begins with an interval of the first `number` children
pub record IsCut (k : ℕ) (children : List Child) (most w : ℕ) : Type 0 where
  pub number : ℕ
  pub extra : ℕ
  pub rest_most : ℕ
  pub some : 1 ≤ number
  pub within : number ≤ length children
  pub interval : IsInterval k (take number children) extra
  pub rest : IsAchievable k (drop number children) rest_most w
  pub sums : 1 + extra + rest_most ≤ most

pub take_covered : (members : List Member) (others children : List Child) → map child_of members ++ others ≡ children → map child_of members ≡ take (length members) children
take_covered [] others children e = refl
take_covered (member ∷ members) others [] e = cc
take_covered (member ∷ members) others (child ∷ children) e =
    let tail : map child_of members ++ others ≡ children = cc in let first : child_of member ≡ child = cc in
    let ih = take_covered members others children tail in cc

pub drop_covered : (members : List Member) (others children : List Child) → map child_of members ++ others ≡ children → others ≡ drop (length members) children
drop_covered [] others children e = e
drop_covered (member ∷ members) others [] e = cc
drop_covered (member ∷ members) others (child ∷ children) e =
    let tail : map child_of members ++ others ≡ children = cc in drop_covered members others children tail

pub length_covered : (members : List Member) (others children : List Child) → map child_of members ++ others ≡ children → length members ≤ length children
length_covered members others children e =
    let h = ap length e in let s = length-append (map child_of members) others in let m = length-map members child_of in omega arith

split_cells : (k : ℕ) (child : Child) (children : List Child) (most w : ℕ) (cells : List Cell) → covered cells ≡ child ∷ children → AreLight k cells → cost cells ≤ most → left cells ≤ w → ((child.lean ≤ w) × IsAchievable k children most (w - child.lean)) ⊎ IsCut k (child ∷ children) most w
split_cells k child children most w [] e light cheap little = cc
split_cells k child children most w (Uncut other ∷ rest) e light cheap little =
    let same : other ≡ child = cc in let leans : other.lean ≡ child.lean = ap (λ (c : Child). c.lean) same in
    inl (omega arith, record { cells = rest; covers = cc; light = light.1; cheap = omega arith; little = omega arith })
split_cells k child children most w (Interval member members ∷ rest) e light cheap little =
    inr (record {
      number = length (member ∷ members);
      extra = seconds (member ∷ members);
      rest_most = cost rest;
      some = omega arith;
      within = length_covered (member ∷ members) (covered rest) (child ∷ children) e;
      interval = record { members = member ∷ members; covers = take_covered (member ∷ members) (covered rest) (child ∷ children) e; few = omega arith; light = light.0 };
      rest = record { cells = rest; covers = drop_covered (member ∷ members) (covered rest) (child ∷ children) e; light = light.1; cheap = omega arith; little = omega arith };
      sums = omega arith;
    })

-- how a choice begins
pub begins : (k : ℕ) (child : Child) (children : List Child) (most w : ℕ) → IsAchievable k (child ∷ children) most w → ((child.lean ≤ w) × IsAchievable k children most (w - child.lean)) ⊎ IsCut k (child ∷ children) most w
begins k child children most w h = split_cells k child children most w h.cells h.covers h.light h.cheap h.little

abbrev firsts : List Child → List Member
firsts [] = []
firsts (child ∷ children) = First child ∷ firsts children

firsts_cover : (children : List Child) → map child_of (firsts children) ≡ children
firsts_cover [] = refl
firsts_cover (child ∷ children) = ap (λ cs. child ∷ cs) (firsts_cover children)

firsts_few : (children : List Child) → seconds (firsts children) ≤ 0
firsts_few [] = omega arith
firsts_few (child ∷ children) = let ih = firsts_few children in omega arith

firsts_weigh : (children : List Child) → interval_weight (firsts children) ≡ weigh Plain children
firsts_weigh [] = refl
firsts_weigh (child ∷ children) = let ih = firsts_weigh children in omega arith

-- children that are light enough in their first form may be an interval
pub plain_interval : (k : ℕ) (children : List Child) → weigh Plain children ≤ k → IsInterval k children 0
plain_interval k children h =
    let w = firsts_weigh children in
    record { members = firsts children; covers = firsts_cover children; few = firsts_few children; light = omega arith }

lighter : (member : Member) → weighs Light (child_of member) ≤ slots member
lighter (First child) = omega arith
lighter (Second child) = omega arith

members_weigh : (members : List Member) (children : List Child) → map child_of members ≡ children → weigh Light children ≤ interval_weight members
members_weigh [] [] e = omega arith
members_weigh [] (child ∷ children) e = cc
members_weigh (member ∷ members) [] e = cc
members_weigh (member ∷ members) (child ∷ children) e =
    let same : child_of member ≡ child = cc in let h = ap (λ c. weighs Light c) same in let one = lighter member in
    let ih = members_weigh members children cc in omega arith

-- an interval of children weighs at least what they weigh in their lighter form
pub light_interval : (k : ℕ) (children : List Child) (most : ℕ) → IsInterval k children most → weigh Light children ≤ k
light_interval k children most h = let w = members_weigh h.members children h.covers in let l = h.light in omega arith
