-- How far an interval may reach that begins with the first child.
use Rattle.std.proofs.Common.{◌≡◌, ℕ, suc, zero, ◌+◌, ◌-◌, ◌<◌, ◌≤◌, inl, inr, List, [], ◌∷◌, ◌++◌, length, take, drop, get_or, refl, ap, subst, ◌∙◌, add-one, arith}
use Rattle.std.proofs.lemmas.List.{take_more}
use Rattle.std.proofs.lemmas.Bool.{cases_lt}
use Rattle.nx_choices.specs.declared.reach.Form.{Form}
use Rattle.nx_choices.specs.declared.reach.Form.TheVariants.{Plain, Light}
use Rattle.nx_choices.specs.declared.child.Child.{Child}
use Rattle.nx_choices.specs.Choice.{IsWeighed, AreWeighed}
use Rattle.nx_choices.specs.Profile.{IsReach, weighs, weigh}

-- what is true while children are still taken off the far end
pub record IsLonger (k : ℕ) (form : Form) (children : List Child) (len sum : ℕ) : Type 0 where
  pub within : len ≤ length children
  pub weighed : sum ≡ weigh form (take len children)
  pub longest : (longer : ℕ) → longer ≤ length children → weigh form (take longer children) ≤ k → longer ≤ len

pub weighs_some : (k : ℕ) (form : Form) (child : Child) → IsWeighed k child → 1 ≤ weighs form child
weighs_some k Plain child h = omega arith
weighs_some k Light child h = omega arith

pub weighs_most : (k : ℕ) (form : Form) (child : Child) → IsWeighed k child → weighs form child ≤ k
weighs_most k Plain child h = omega arith
weighs_most k Light child h = omega arith

-- one of weighed children
pub weighed_at : (k : ℕ) (children : List Child) (index : ℕ) (child : Child) → AreWeighed k children → index < length children → IsWeighed k (get_or children index child)
weighed_at k [] index child all within = absurd (omega arith)
weighed_at k (first ∷ children) zero child all within = all.0
weighed_at k (first ∷ children) (suc index) child all within = weighed_at k children index child all.1 (omega arith)

weigh-append : (form : Form) (prefix back : List Child) → weigh form (prefix ++ back) ≡ weigh form prefix + weigh form back
weigh-append form [] back = omega arith
weigh-append form (child ∷ prefix) back = let ih = weigh-append form prefix back in omega arith

-- some of the children weigh no more than all
pub weigh_take : (form : Form) (children : List Child) (number : ℕ) → weigh form (take number children) ≤ weigh form children
weigh_take form children zero = omega arith
weigh_take form [] (suc number) = omega arith
weigh_take form (child ∷ children) (suc number) = let ih = weigh_take form children number in omega arith

pub weigh_more : (form : Form) (children : List Child) (index : ℕ) (child : Child) → index < length children → weigh form (take (index + 1) children) ≡ weigh form (take index children) + weighs form (get_or children index child)
weigh_more form children index child within =
    let more = ap (weigh form) (take_more children index child within) in
    let sums = weigh-append form (take index children) (get_or children index child ∷ []) in omega arith

longest_start : (k : ℕ) (form : Form) (child : Child) (children : List Child) (len sum : ℕ) → IsReach k form children len sum → (longer : ℕ) → longer ≤ length (child ∷ children) → weigh form (take longer (child ∷ children)) ≤ k → longer ≤ len + 1
longest_start k form child children len sum h zero within light = omega arith
longest_start k form child children len sum h (suc longer) within light =
    let shorter = h.longest longer (omega arith) (omega arith) in omega arith

start_cons : (k : ℕ) (form : Form) (child : Child) (children : List Child) (len sum : ℕ) → IsReach k form children len sum → IsLonger k form (child ∷ children) (suc len) (sum + weighs form child)
start_cons k form child children len sum h =
    let w = h.weighed in
    record { within = omega arith; weighed = omega arith; longest = λ longer a b. let l = longest_start k form child children len sum h longer a b in omega arith }

pub start_reach : (k : ℕ) (form : Form) (children : List Child) (len sum : ℕ) (first : Child) → 1 ≤ length children → IsReach k form (drop 1 children) len sum → IsLonger k form children (len + 1) (sum + weighs form (get_or children 0 first))
start_reach k form [] len sum first some h = absurd (omega arith)
start_reach k form (child ∷ children) len sum first some h = rw add-one (start_cons k form child children len sum h)

pub longer_some : (k : ℕ) (form : Form) (children : List Child) (len sum : ℕ) → IsLonger k form children len sum → k < sum → 1 ≤ len
longer_some k form children zero sum h heavy = let w = h.weighed in absurd (omega arith)
longer_some k form children (suc len) sum h heavy = omega arith

-- the far child is in the sum
pub longer_far : (k : ℕ) (form : Form) (children : List Child) (len sum : ℕ) (far : Child) → IsLonger k form children (len + 1) sum → sum ≡ weigh form (take len children) + weighs form (get_or children len far)
longer_far k form children len sum far h =
    let within = h.within in h.weighed ∙ weigh_more form children len far (omega arith)

pub shorten : (k : ℕ) (form : Form) (children : List Child) (len sum : ℕ) (far : Child) → IsLonger k form children (len + 1) sum → k < sum → IsLonger k form children len (sum - weighs form (get_or children len far))
shorten k form children len sum far h heavy =
    let w = longer_far k form children len sum far h in let within = h.within in let was = h.weighed in
    record {
      within = omega arith;
      weighed = omega arith;
      longest = λ longer a b. let l = h.longest longer a b in elim (cases_lt len longer) [
        | inl more ↦ let same : longer ≡ len + 1 = omega arith in let s = ap (λ n. weigh form (take n children)) same in absurd (omega arith)
        | inr less ↦ less
      ];
    }

-- an interval of more children weighs more
pub len_weigh : (k : ℕ) (form : Form) (children : List Child) (len : ℕ) → AreWeighed k children → len ≤ length children → len ≤ weigh form (take len children)
len_weigh k form children zero all within = omega arith
len_weigh k form [] (suc len) all within = absurd (omega arith)
len_weigh k form (child ∷ children) (suc len) all within =
    let ih = len_weigh k form children len all.1 (omega arith) in let one = weighs_some k form child all.0 in omega arith

first_light : (k : ℕ) (form : Form) (child : Child) (children : List Child) → IsWeighed k child → weigh form (take 1 (child ∷ children)) ≤ k
first_light k form child children h = let most = weighs_most k form child h in omega arith

-- an interval may have one child
pub reach_some : (k : ℕ) (form : Form) (children : List Child) (len sum : ℕ) → AreWeighed k children → 1 ≤ length children → IsReach k form children len sum → 1 ≤ len
reach_some k form [] len sum all some h = absurd (omega arith)
reach_some k form (child ∷ children) len sum all some h = h.longest 1 (omega arith) (first_light k form child children all.0)

-- while the sum is too large, the far child is taken off
pub shortened : (k : ℕ) (form : Form) (children : List Child) (len sum : ℕ) (far : Child) → IsLonger k form children len sum → k < sum → (weighs form (get_or children (len - 1) far) ≤ sum) × IsLonger k form children (len - 1) (sum - weighs form (get_or children (len - 1) far))
shortened k form children len sum far h heavy =
    let some = longer_some k form children len sum h heavy in let e : len ≡ len - 1 + 1 = omega arith in
    let at = subst (λ (n : ℕ). IsLonger k form children n sum) e h in
    let w = longer_far k form children (len - 1) sum far at in
    (omega arith, shorten k form children (len - 1) sum far at heavy)

none_longest : (k : ℕ) (form : Form) (longer : ℕ) → longer ≤ length {A = Child} [] → longer ≤ 0
none_longest k form longer within = omega arith

pub reach_none : (k : ℕ) (form : Form) → IsReach k form [] 0 0
reach_none k form = record { within = omega arith; weighed = refl; light = omega arith; longest = λ longer within light. none_longest k form longer within }
