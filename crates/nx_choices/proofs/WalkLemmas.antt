-- A walk over the children that follows a choice and tells how each child stands.
use Rattle.std.proofs.Common.{◌≡◌, ℕ, suc, zero, ◌+◌, ◌-◌, ◌<◌, ◌≤◌, ◌⊎◌, Bool, true, false, inl, inr, List, [], ◌∷◌, ◌++◌, map, length, take, drop, get_or, refl, sym, ap, subst, ◌∙◌, append_assoc, append-nil, arith, Some, None}
use Rattle.std.proofs.lemmas.List.{drop-drop, length-drop, length-take-le, length-map, map-append, take_more, take_all}
use Rattle.std.proofs.Math.Seq.{take-add, drop-cons}
use Rattle.std.proofs.lemmas.Bool.{cases_lt}
use Rattle.nx_choices.specs.declared.child.Child.{Child}
use Rattle.nx_choices.specs.declared.child.Stand.{Stand}
use Rattle.nx_choices.specs.declared.child.Stand.TheVariants.{Uncut as Alone, Opens, Joins}
use Rattle.nx_choices.specs.declared.walk.Walk.{Walk}
use Rattle.nx_choices.specs.declared.reach.Form.TheVariants.{Light}
use Rattle.nx_choices.specs.Choice.{Member, First, Second, Cell, Uncut, Interval, child_of, covered, slots, interval_weight, left, AreLight, AreWeighed}
use Rattle.nx_choices.specs.declared.profiles.Row.{Row}
use Rattle.nx_choices.specs.Profile.{second, seconds, cost, last, left_at, lefts_of, IsCheapest, IsInterval, IsListed, IsRowOf, IsAchievable}
use Rattle.nx_choices.specs.Lightest.{AreLightest}
use Rattle.nx_choices.specs.Stand.{is_second, joins, stands, AddsChoice, HasChoice}
use Rattle.nx_choices.specs.Walk.{opened_stands, stand_at, AddsInterval, AreFormed, IsCutAt, IsFollowed, IsForm, IsFormOfFirst, IsPartly, IsTried, IsUncut}
use Rattle.nx_choices.proofs.ChoiceLemmas.{begins, wider, light_interval}
use Rattle.nx_choices.proofs.FoundLemmas.{count_is}
use Rattle.nx_choices.proofs.LightestLemmas.{fewest_some, fewest_least}
use Rattle.nx_choices.proofs.ProfileLemmas.{drop_further, at_listed, listed_at, listed_off, listed_on}
use Rattle.nx_choices.proofs.ReachLemmas.{len_weigh}
use Rattle.nx_choices.proofs.BuildLemmas.{last_all}

-- what a choice with one cell more behind it is

covered_push : (cells : List Cell) (cell : Cell) → covered (cells ++ cell ∷ []) ≡ covered cells ++ covered (cell ∷ [])
covered_push [] cell = refl
covered_push (Uncut child ∷ cells) cell = ap (λ cs. child ∷ cs) (covered_push cells cell)
covered_push (Interval member members ∷ cells) cell =
    ap (λ cs. map child_of (member ∷ members) ++ cs) (covered_push cells cell) ∙ sym (append_assoc (map child_of (member ∷ members)) (covered cells) (covered (cell ∷ [])))

stands_push : (cells : List Cell) (cell : Cell) → stands (cells ++ cell ∷ []) ≡ stands cells ++ stands (cell ∷ [])
stands_push [] cell = refl
stands_push (Uncut child ∷ cells) cell = ap (λ list. Alone ∷ list) (stands_push cells cell)
stands_push (Interval member members ∷ cells) cell =
    ap (λ list. Opens (1 + length members) (is_second member) ∷ joins members ++ list) (stands_push cells cell)
    ∙ sym (append_assoc (Opens (1 + length members) (is_second member) ∷ joins members) (stands cells) (stands (cell ∷ [])))

light_push : (k : ℕ) (cells : List Cell) (cell : Cell) → AreLight k cells → AreLight k (cell ∷ []) → AreLight k (cells ++ cell ∷ [])
light_push k [] cell all one = one
light_push k (first ∷ cells) cell all one = (all.0, light_push k cells cell all.1 one)

cost_push : (cells : List Cell) (cell : Cell) → cost (cells ++ cell ∷ []) ≡ cost cells + cost (cell ∷ [])
cost_push [] cell = omega arith
cost_push (first ∷ cells) cell = let ih = cost_push cells cell in omega arith

left_push : (cells : List Cell) (cell : Cell) → left (cells ++ cell ∷ []) ≡ left cells + left (cell ∷ [])
left_push [] cell = omega arith
left_push (first ∷ cells) cell = let ih = left_push cells cell in omega arith

-- the walk goes on by one cell
goes_by : (k : ℕ) (children : List Child) (most room : ℕ) (first : List Stand) (walk next : Walk) (old new : List Stand) (cell : Cell) → IsPartly k children most room first walk old
    → next.at ≤ length children → take walk.at children ++ covered (cell ∷ []) ≡ take next.at children → AreLight k (cell ∷ []) → cost (cell ∷ []) + next.cost ≤ walk.cost → left (cell ∷ []) + next.left ≤ walk.left
    → IsAchievable k (drop next.at children) next.cost next.left → new ≡ old ++ stands (cell ∷ []) → IsPartly k children most room first next new
goes_by k children most room first walk next old new cell p inside covers light cheap little rest added =
    let c = cost_push p.cells cell in let l = left_push p.cells cell in let was = p.cheap in let had = p.little in
    record {
      cells = p.cells ++ cell ∷ [];
      within = inside;
      covers = covered_push p.cells cell ∙ ap (λ cs. cs ++ covered (cell ∷ [])) p.covers ∙ covers;
      light = light_push k p.cells cell p.light light;
      cheap = omega arith;
      little = omega arith;
      rest = rest;
      added = added ∙ ap (λ list. list ++ stands (cell ∷ [])) p.added ∙ append_assoc first (stands p.cells) (stands (cell ∷ [])) ∙ ap (λ list. first ++ list) (sym (stands_push p.cells cell));
    }

-- by an uncut child
pub goes_uncut : (k : ℕ) (children : List Child) (most room : ℕ) (first : List Stand) (walk next : Walk) (old new : List Stand) (child : Child) → walk.at < length children → next.at ≡ walk.at + 1 → next.cost ≡ walk.cost
    → (get_or children walk.at child).lean + next.left ≤ walk.left → IsAchievable k (drop (walk.at + 1) children) walk.cost next.left → new ≡ old ++ Alone ∷ [] → IsPartly k children most room first walk old → IsPartly k children most room first next new
goes_uncut k children most room first walk next old new child before at same little rest added p =
    goes_by k children most room first walk next old new (Uncut (get_or children walk.at child)) p (omega arith)
    (sym (take_more children walk.at child before) ∙ ap (λ n. take n children) (sym at)) (tt, tt) (omega arith) (omega arith)
    (subst (λ n. IsAchievable k (drop n children) next.cost next.left) (sym at) (subst (λ n. IsAchievable k (drop (walk.at + 1) children) n next.left) (sym same) rest)) added

opened_is : (members : List Member) (number : ℕ) → length members ≡ number → 1 ≤ number → (member : Member) × (others : List Member) × (members ≡ member ∷ others) × (opened_stands number members ≡ stands (Interval member others ∷ []))
opened_is [] number len some = absurd (omega arith)
opened_is (member ∷ members) number len some =
    (member, members, refl, ap (λ n. Opens n (is_second member) ∷ joins members) (sym len ∙ omega arith) ∙ sym (append-nil (Opens (1 + length members) (is_second member) ∷ joins members)))

-- by an interval
pub goes_cut : (k : ℕ) (children : List Child) (most room : ℕ) (first : List Stand) (walk next : Walk) (old new : List Stand) (number extra : ℕ) → walk.at < length children → next.at ≡ walk.at + number → next.cost ≡ walk.cost - 1 - extra → next.left ≡ walk.left
    → IsCutAt k (drop walk.at children) walk.cost walk.left number extra → AddsInterval k (take number (drop walk.at children)) extra old new → IsPartly k children most room first walk old → IsPartly k children most room first next new
goes_cut k children most room first walk next old new number extra before at costs lefts cut adds p =
    let some = cut.some in let within = cut.within in let much = cut.much in let len = length-drop walk.at children in
    let taken = length-take-le number (drop walk.at children) within in
    let many : length adds.members ≡ length (take number (drop walk.at children)) = sym (length-map adds.members child_of) ∙ ap length adds.covers in
    let o = opened_is adds.members (length (take number (drop walk.at children))) many (omega arith) in
    let e = o.2 in
    let weighs = ap interval_weight e in let more = ap seconds e in let light = adds.light in let few = adds.few in
    let beyond : drop number (drop walk.at children) ≡ drop next.at children = drop-drop number walk.at children ∙ ap (λ n. drop n children) (sym at) in
    let budget : walk.cost - (1 + extra) ≡ next.cost = omega arith in
    goes_by k children most room first walk next old new (Interval o.0 o.1) p (omega arith)
    (ap (λ cs. take walk.at children ++ cs) (append-nil (map child_of (o.0 ∷ o.1)) ∙ ap (λ ms. map child_of ms) (sym e) ∙ adds.covers) ∙ sym (take-add walk.at number children) ∙ ap (λ n. take n children) (sym at))
    (omega arith, tt) (omega arith) (omega arith)
    (subst (λ cs. IsAchievable k cs next.cost next.left) beyond (subst (λ n. IsAchievable k (drop number (drop walk.at children)) n next.left) budget (subst (λ n. IsAchievable k (drop number (drop walk.at children)) (walk.cost - (1 + extra)) n) (sym lefts) cut.rest)))
    (adds.added ∙ ap (λ list. old ++ list) o.3)

pub partly_start : (k : ℕ) (children : List Child) (walk : Walk) (old : List Stand) → walk.at ≡ 0 → IsAchievable k children walk.cost walk.left → IsPartly k children walk.cost walk.left old walk old
partly_start k children walk old none rest = record {
  cells = [];
  within = omega arith;
  covers = ap (λ n. take n children) (sym none);
  light = tt;
  cheap = omega arith;
  little = omega arith;
  rest = subst (λ n. IsAchievable k (drop n children) walk.cost walk.left) (sym none) rest;
  added = sym (append-nil old);
}

pub partly_end : (k : ℕ) (children : List Child) (most room : ℕ) (walk : Walk) (old new : List Stand) → length children ≤ walk.at → IsPartly k children most room old walk new → IsFollowed k children most room old new
partly_end k children most room walk old new past p =
    let cheap = p.cheap in let little = p.little in
    record { cells = p.cells; covers = p.covers ∙ take_all walk.at children past; light = p.light; cheap = omega arith; little = omega arith; added = p.added }

-- a choice that is no dearer than any with so little left is no worse than the one that there is
pub followed_chooses : (k own most most_weight room cheapest : ℕ) (children : List Child) (old new : List Stand) → HasChoice k own most most_weight children → own + room ≤ k → own + room ≤ most_weight → ((w : ℕ) → own + w ≤ k → own + w ≤ most_weight → w ≤ room)
    → IsCheapest k room children cheapest → IsFollowed k children cheapest room old new → AddsChoice k own most most_weight children old new
followed_chooses k own most most_weight room cheapest children old new has fits small whole least f =
    let counts = count_is f.cells children f.covers in let other = count_is has.cells children has.admitted.covers in
    let few = has.few in let root = has.admitted.root in let little = has.little in let cheap = f.cheap in let leaves = f.little in
    let enough = whole (left has.cells) root little in
    let le = least.least (cost has.cells) (record { cells = has.cells; covers = has.admitted.covers; light = has.admitted.light; cheap = omega arith; little = enough }) in
    record {
      list = stands f.cells;
      added = f.added;
      choice = record {
        cells = f.cells;
        admitted = record { covers = f.covers; root = omega arith; light = f.light };
        few = omega arith;
        little = omega arith;
        are = refl;
      };
    }

-- where the first child can't be uncut, a choice begins with an interval
pub must_cut : (k : ℕ) (children : List Child) (child : Child) (most w : ℕ) → 1 ≤ length children → IsAchievable k children most w → ((get_or children 0 child).lean ≤ w → ¬ IsAchievable k (drop 1 children) most (w - (get_or children 0 child).lean))
    → (number : ℕ) × (extra : ℕ) × IsCutAt k children most w number extra
must_cut k [] child most w some h uncut = absurd (omega arith)
must_cut k (first ∷ children) child most w some h uncut = elim (begins k first children most w h) [
  | inl u ↦ absurd (uncut u.0 u.1)
  | inr c ↦
      let sums = c.sums in (
        c.number,
        c.extra,
        record {
          some = c.some;
          within = c.within;
          interval = c.interval;
          much = omega arith;
          rest = wider k (drop c.number (first ∷ children)) c.rest_most w (most - (1 + c.extra)) w (omega arith) (omega arith) c.rest;
        },
      )
]

-- an interval has at most k members
pub interval_most : (k : ℕ) (children : List Child) (number extra : ℕ) → AreWeighed k children → number ≤ length children → IsInterval k (take number children) extra → number ≤ k
interval_most k children number extra all within i =
    let l = light_interval k (take number children) extra i in let w = len_weigh k Light children number all within in omega arith

-- members one by one

joins_push : (members : List Member) (member : Member) → joins (members ++ member ∷ []) ≡ joins members ++ Joins (is_second member) ∷ []
joins_push [] member = refl
joins_push (first ∷ members) member = ap (λ list. Joins (is_second first) ∷ list) (joins_push members member)

opened_push : (number : ℕ) (members : List Member) (member : Member) → opened_stands number (members ++ member ∷ []) ≡ opened_stands number members ++ stand_at number (length members) (is_second member) ∷ []
opened_push number [] member = refl
opened_push number (first ∷ members) member = ap (λ list. Opens number (is_second first) ∷ list) (joins_push members member)

seconds_more : (members : List Member) (member : Member) → seconds (members ++ member ∷ []) ≡ seconds members + second member
seconds_more [] member = omega arith
seconds_more (first ∷ members) member = let ih = seconds_more members member in omega arith

weight_more : (members : List Member) (member : Member) → interval_weight (members ++ member ∷ []) ≡ interval_weight members + slots member
weight_more [] member = omega arith
weight_more (first ∷ members) member = let ih = weight_more members member in omega arith

-- one member more
pub formed_push : (k : ℕ) (children : List Child) (extra at limit extra_left : ℕ) (old new next : List Stand) (child : Child) (member : Member) (limit' extra_left' : ℕ) → at < length children → child_of member ≡ get_or children at child → slots member + limit' ≤ limit → second member + extra_left' ≤ extra_left
    → IsInterval limit' (drop (at + 1) children) extra_left' → next ≡ new ++ stand_at (length children) at (is_second member) ∷ [] → AreFormed k children extra at limit extra_left old new → AreFormed k children extra (at + 1) limit' extra_left' old next
formed_push k children extra at limit extra_left old new next child member limit' extra_left' before is weighs few rest added f =
    let s = seconds_more f.members member in let w = weight_more f.members member in let had = f.light in let was = f.few in
    let many : length f.members ≡ at = sym (length-map f.members child_of) ∙ ap length f.covers ∙ length-take-le at children (omega arith) in
    record {
      members = f.members ++ member ∷ [];
      covers = map-append child_of f.members (member ∷ []) ∙ ap (λ cs. cs ++ child_of member ∷ []) f.covers ∙ ap (λ (c : Child). take at children ++ c ∷ []) is ∙ sym (take_more children at child before);
      light = omega arith;
      few = omega arith;
      rest = rest;
      added = added ∙ ap (λ list. list ++ stand_at (length children) at (is_second member) ∷ []) f.added
          ∙ append_assoc old (opened_stands (length children) f.members) (stand_at (length children) at (is_second member) ∷ [])
          ∙ ap (λ n. old ++ (opened_stands (length children) f.members ++ stand_at (length children) n (is_second member) ∷ [])) (sym many)
          ∙ ap (λ list. old ++ list) (sym (opened_push (length children) f.members member));
    }

pub formed_start : (k : ℕ) (children : List Child) (extra : ℕ) (old : List Stand) → IsInterval k children extra → AreFormed k children extra 0 k extra old old
formed_start k children extra old i = record { members = []; covers = refl; light = omega arith; few = omega arith; rest = i; added = sym (append-nil old) }

pub formed_end : (k : ℕ) (children : List Child) (extra at limit extra_left : ℕ) (old new : List Stand) → length children ≤ at → AreFormed k children extra at limit extra_left old new → AddsInterval k children extra old new
formed_end k children extra at limit extra_left old new past f =
    let light = f.light in let few = f.few in
    record { members = f.members; covers = f.covers ∙ take_all at children past; light = omega arith; few = omega arith; added = f.added }

-- the form of the next member, out of those of the children from it on
pub form_first : (limit : ℕ) (children : List Child) (at extra : ℕ) (child : Child) → at < length children → IsForm limit (drop at children) extra true → ((get_or children at child).lean ≤ limit) × IsInterval (limit - (get_or children at child).lean) (drop (at + 1) children) extra
form_first limit children at extra child before f =
    let e : suc at ≡ at + 1 = omega arith in
    let h = subst (λ (cs : List Child). IsForm limit cs extra true) (drop-cons children at child before) f in
    (h.0, subst (λ n. IsInterval (limit - (get_or children at child).lean) (drop n children) extra) e h.1)

pub form_second : (limit : ℕ) (children : List Child) (at extra : ℕ) (child : Child) → at < length children → IsForm limit (drop at children) extra false → ((get_or children at child).nearly ≤ limit) × (1 ≤ extra) × IsInterval (limit - (get_or children at child).nearly) (drop (at + 1) children) (extra - 1)
form_second limit children at extra child before f =
    let e : suc at ≡ at + 1 = omega arith in
    let h = subst (λ (cs : List Child). IsForm limit cs extra false) (drop-cons children at child before) f in
    (h.0, h.1, subst (λ n. IsInterval (limit - (get_or children at child).nearly) (drop n children) (extra - 1)) e h.2)

head_form : (limit : ℕ) (child : Child) (children : List Child) (extra : ℕ) (members : List Member) → map child_of members ≡ child ∷ children → seconds members ≤ extra → interval_weight members ≤ limit → IsFormOfFirst limit child children extra true ⊎ IsFormOfFirst limit child children extra false
head_form limit child children extra [] e few light = absurd (cc)
head_form limit child children extra (First other ∷ members) e few light =
    let same : other ≡ child = cc in let leans = ap (λ (c : Child). c.lean) same in
    inl (omega arith, record { members = members; covers = cc; few = omega arith; light = omega arith })
head_form limit child children extra (Second other ∷ members) e few light =
    let same : other ≡ child = cc in let nearlies = ap (λ (c : Child). c.nearly) same in
    inr (omega arith, omega arith, record { members = members; covers = cc; few = omega arith; light = omega arith })

-- where no member may be in its second form, the first is in its first
pub form_free : (limit : ℕ) (children : List Child) (extra : ℕ) → 1 ≤ length children → extra ≡ 0 → IsInterval limit children extra → IsForm limit children extra true
form_free limit [] extra some none i = absurd (omega arith)
form_free limit (child ∷ children) extra some none i = elim (head_form limit child children extra i.members i.covers i.few i.light) [
  | inl first ↦ first
  | inr second ↦ let few = second.1 in absurd (omega arith)
]

-- where the others can't be an interval with what the first leaves, it is in its second form
pub form_not : (limit : ℕ) (children : List Child) (extra : ℕ) (child : Child) → 1 ≤ length children → IsInterval limit children extra → ((get_or children 0 child).lean ≤ limit → ¬ IsInterval (limit - (get_or children 0 child).lean) (drop 1 children) extra) → IsForm limit children extra false
form_not limit [] extra child some i not = absurd (omega arith)
form_not limit (first ∷ children) extra child some i not = elim (head_form limit first children extra i.members i.covers i.few i.light) [
  | inl form ↦ absurd (not form.0 form.1)
  | inr second ↦ second
]

pub form_may : (limit : ℕ) (children : List Child) (extra : ℕ) (child : Child) → 1 ≤ length children → (get_or children 0 child).lean ≤ limit → IsInterval (limit - (get_or children 0 child).lean) (drop 1 children) extra → IsForm limit children extra true
form_may limit [] extra child some fits i = absurd (omega arith)
form_may limit (first ∷ children) extra child some fits i = (fits, i)

pub stand_first : (number at : ℕ) (second : Bool) → at ≡ 0 → stand_at number at second ≡ Opens number second
stand_first number zero second none = refl
stand_first number (suc at) second none = absurd (omega arith)

pub stand_other : (number at : ℕ) (second : Bool) → 1 ≤ at → stand_at number at second ≡ Joins second
stand_other number zero second some = absurd (omega arith)
stand_other number (suc at) second some = refl

-- trying an interval

pub tried_some : (k room : ℕ) (members others : List Child) (lefts : List ℕ) (row : Row) (most w extras : ℕ) (weights : List ℕ) (fewest : ℕ) → AreLightest k members extras weights fewest → fewest < length weights → IsRowOf k room others lefts row → w ≤ room
    → left_at (w + 1) (row.base + (1 + fewest)) (lefts_of lefts row) most ≤ w → IsTried k members others most w extras (Some fewest)
tried_some k room members others lefts row most w extras weights fewest a within r small fits =
    let l = at_listed (w + 1) (row.base + (1 + fewest)) (lefts_of lefts row) most w (omega arith) fits in
    let enough = l.enough in (
      fewest_some k members extras weights fewest a within,
      omega arith,
      (r.profile.tells (most - (1 + fewest)) w small).1 (listed_off row.base (1 + fewest) (lefts_of lefts row) most w l),
    )

pub tried_heavy : (k : ℕ) (members others : List Child) (most w extras : ℕ) (weights : List ℕ) (fewest : ℕ) → AreLightest k members extras weights fewest → length weights ≤ fewest → IsTried k members others most w extras None
tried_heavy k members others most w extras weights fewest a past = λ extra few i much h. let f = (fewest_least k members extras weights fewest extra a few i).0 in omega arith

pub tried_dear : (k room : ℕ) (members others : List Child) (lefts : List ℕ) (row : Row) (most w extras : ℕ) (weights : List ℕ) (fewest : ℕ) → AreLightest k members extras weights fewest → IsRowOf k room others lefts row → w ≤ room
    → w < left_at (w + 1) (row.base + (1 + fewest)) (lefts_of lefts row) most → IsTried k members others most w extras None
tried_dear k room members others lefts row most w extras weights fewest a r small much = λ extra few i cheap h.
    let f = (fewest_least k members extras weights fewest extra a few i).1 in
    let wide = wider k others (most - (1 + extra)) w (most - (1 + fewest)) w (omega arith) (omega arith) h in
    let l = listed_at (w + 1) (row.base + (1 + fewest)) (lefts_of lefts row) most w (listed_on row.base (1 + fewest) (lefts_of lefts row) most w (omega arith) ((r.profile.tells (most - (1 + fewest)) w small).0 wide)) in
    omega arith

-- none of so many members
pub tried_next : (k : ℕ) (children : List Child) (most w at extras : ℕ) → IsTried k (take (at + 1) children) (drop (at + 1) children) most w extras None → ((number extra : ℕ) → number ≤ at → ¬ IsCutAt k children most w number extra)
    → ((number extra : ℕ) → IsCutAt k children most w number extra → extra < extras) → (number extra : ℕ) → number ≤ at + 1 → ¬ IsCutAt k children most w number extra
tried_next k children most w at extras tried before few number extra less cut = elim (cases_lt number (at + 1)) [
  | inl earlier ↦ before number extra (omega arith) cut
  | inr last ↦
      let e : number ≡ at + 1 = omega arith in
      tried extra (few number extra cut) (subst (λ n. IsInterval k (take n children) extra) e cut.interval) cut.much (subst (λ n. IsAchievable k (drop n children) (most - (1 + extra)) w) e cut.rest)
]

-- with as many members in their second form as the cost doesn't allow, not even the fewest children are left that there may be
pub cut_few : (k room : ℕ) (children : List Child) (lefts : List ℕ) (far : Row) (most w : ℕ) (members : ℕ) → AreWeighed k children → w ≤ room → IsRowOf k room (drop members children) lefts far → (k ≤ members) ⊎ (length children ≤ members)
    → (number extra : ℕ) → IsCutAt k children most w number extra → extra < most - far.base
cut_few k room children lefts far most w members all small r far_enough number extra cut =
    let within = cut.within in let much = cut.much in
    let less : number ≤ members = elim far_enough [ inl many ↦ (let m = interval_most k children number extra all within cut.interval in omega arith) | inr whole ↦ omega arith ] in
    let l = ((r.profile.tells (most - (1 + extra)) w small).0 (drop_further k children number members (most - (1 + extra)) w less cut.rest)).enough in
    omega arith

-- leaving a child uncut

pub uncut_some : (k room : ℕ) (others : List Child) (lefts : List ℕ) (row : Row) (lean most w rest : ℕ) → lean + rest ≡ w → w ≤ room → IsRowOf k room others lefts row
    → left_at (rest + 1) (row.base + 0) (lefts_of lefts row) most ≤ rest → IsUncut k others lean most w (Some rest)
uncut_some k room others lefts row lean most w rest sums small r fits =
    let l = at_listed (rest + 1) (row.base + 0) (lefts_of lefts row) most rest (omega arith) fits in
    let e : most - 0 ≡ most = omega arith in
    (sums, (r.profile.tells most rest (omega arith)).1 (subst (λ n. IsListed row.base (lefts_of lefts row) n rest) e (listed_off row.base 0 (lefts_of lefts row) most rest l)))

pub uncut_none : (k room : ℕ) (others : List Child) (lefts : List ℕ) (row : Row) (lean most w rest : ℕ) → w - lean ≡ rest → w ≤ room → IsRowOf k room others lefts row
    → rest < left_at (rest + 1) (row.base + 0) (lefts_of lefts row) most → IsUncut k others lean most w None
uncut_none k room others lefts row lean most w rest is small r much = λ fits h.
    let within = subst (λ n. IsAchievable k others most n) is h in
    let e : most ≡ most - 0 = omega arith in
    let here = subst (λ n. IsListed row.base (lefts_of lefts row) n rest) e ((r.profile.tells most rest (omega arith)).0 within) in
    let l = listed_at (rest + 1) (row.base + 0) (lefts_of lefts row) most rest (listed_on row.base 0 (lefts_of lefts row) most rest (omega arith) here) in
    omega arith

pub uncut_heavy : (k : ℕ) (others : List Child) (lean most w : ℕ) → w < lean → IsUncut k others lean most w None
uncut_heavy k others lean most w heavy = λ fits h. omega arith

-- the row of the children behind a place
pub row_behind : (k room : ℕ) (children : List Child) (lefts : List ℕ) (row : Row) (at number : ℕ) → at ≤ length children → number ≡ length children - at → IsRowOf k room (last number children) lefts row → IsRowOf k room (drop at children) lefts row
row_behind k room children lefts row at number within is r =
    subst (λ cs. IsRowOf k room cs lefts row) (ap (λ n. last n children) is ∙ last_all children at within) r
