-- The order of pairs of labels, and what stays of a list of rules when one is changed, taken away or added.
use Rattle.std.proofs.Common.{◌≡◌, ◌≢◌, ℕ, ◌+◌, ◌-◌, ◌<◌, ◌≤◌, List, length, get_or, set, refl, sym, ap, subst, ◌∙◌, inl, inr, arith}
use Rattle.std.specs.Cmp.{IsTotalOrder, on_total, then_total}
use Rattle.std.specs.Cmp.Lexicographic.{slice_cmp, nat_list_cmp_total}
use Rattle.std.specs.FinMap.{nat_cmp-IsAntisymmetric, slice_cmp-IsAntisymmetric}
use Rattle.std.specs.List.{All, AllPairs, insert, remove}
use Rattle.std.specs.Ordering.{nat_cmp, ordering_then, ordering_reverse}
use Rattle.std.specs.declared.cmp.Ordering.{Ordering}
use Rattle.std.specs.declared.cmp.Ordering.TheVariants.{Less, Equal, Greater}
use Rattle.std.proofs.lemmas.Cmp.{tied_itself}
use Rattle.std.proofs.lemmas.Bool.{cases_lt}
use Rattle.std.proofs.lemmas.List.{get_or-set_same, get_or-set_other, get_or_default, length-set}
use Rattle.std.proofs.lemmas.List.Elements.{All-set}
use Rattle.std.proofs.lemmas.List.Edits.{length-insert, length-remove, get_or-insert_below, get_or-insert_at, get_or-insert_above, get_or-remove_below, get_or-remove_above}
use Rattle.std.proofs.lemmas.List.Quantifiers.{all_pairs_remove}
use Rattle.nx_matrix.specs.declared.rule.Entry.TheVariants.{Free}
use Rattle.nx_matrix.specs.declared.rule.Rule.{Rule}
use Rattle.nx_matrix.specs.Rules.{pair_cmp, pair_of, IsLabel, AreRules, IsRuleAt, IsGap, most_rules}

abbrev pub Pair : Type 0
Pair = List ℕ × List ℕ

pub pair_total : IsTotalOrder pair_cmp
pair_total = then_total (on_total (λ pair. pair.0) nat_list_cmp_total) (on_total (λ pair. pair.1) nat_list_cmp_total)

first_equal : (a b : Ordering) → ordering_then a b ≡ Equal → (a ≡ Equal) × (b ≡ Equal)
first_equal Less b e = absurd (cc)
first_equal Equal b e = (refl, e)
first_equal Greater b e = absurd (cc)

bytes_same : (x y : List ℕ) → slice_cmp nat_cmp x y ≡ Equal → x ≡ y
bytes_same = slice_cmp-IsAntisymmetric nat_cmp-IsAntisymmetric

-- only equal pairs tie
pub pair_same : (x y : Pair) → pair_cmp x y ≡ Equal → x ≡ y
pair_same (a, b) (c, d) e =
    let p = first_equal (slice_cmp nat_cmp a c) (slice_cmp nat_cmp b d) e in
    let q = bytes_same a c p.0 in
    let r = bytes_same b d p.1 in
    λ i. (q i, r i)

-- a pair that comes before or after another one isn't it
pub not_less : (x y : Pair) → pair_cmp x y ≡ Less → x ≢ y
not_less x y e same = let tied = subst (λ z. pair_cmp x z ≡ Equal) same (tied_itself pair_total x) in cc

pub not_greater : (x y : Pair) → pair_cmp x y ≡ Greater → x ≢ y
not_greater x y e same = let tied = subst (λ z. pair_cmp x z ≡ Equal) same (tied_itself pair_total x) in cc

reversed : (r : Ordering) → ordering_reverse r ≡ Less → r ≡ Greater
reversed Less e = absurd (cc)
reversed Equal e = absurd (cc)
reversed Greater e = refl

reversed_less : (r : Ordering) → ordering_reverse r ≡ Greater → r ≡ Less
reversed_less Less e = refl
reversed_less Equal e = absurd (cc)
reversed_less Greater e = absurd (cc)

pub turned : (x y : Pair) → pair_cmp x y ≡ Less → pair_cmp y x ≡ Greater
turned x y e = reversed (pair_cmp y x) (sym (pair_total.antisymm x y) ∙ e)

pub turned_less : (x y : Pair) → pair_cmp x y ≡ Greater → pair_cmp y x ≡ Less
turned_less x y e = reversed_less (pair_cmp y x) (sym (pair_total.antisymm x y) ∙ e)

-- the rules before the first place are for lesser pairs, and those from the second on for greater ones
pub record LiesBetween (rules : List Rule) (q : Pair) (low high : ℕ) : Type 0 where
  pub ends : low ≤ high
  pub within : high ≤ length rules
  pub before : (k : ℕ) (d : Rule) → k < low → pair_cmp (pair_of (get_or rules k d)) q ≡ Less
  pub after : (k : ℕ) (d : Rule) → high ≤ k → k < length rules → pair_cmp (pair_of (get_or rules k d)) q ≡ Greater

module _ (rules : List Rule) (q : Pair) (ordered : AllPairs (λ a b. pair_cmp (pair_of a) (pair_of b) ≡ Less) rules) where
  -- what comes before a rule for a lesser pair is for a lesser one
  lesser : (place k : ℕ) (d : Rule) → place < length rules → pair_cmp (pair_of (get_or rules place d)) q ≡ Less → k ≤ place → pair_cmp (pair_of (get_or rules k d)) q ≡ Less
  lesser place k d within less le = elim (cases_lt k place) [
    | inl lt ↦ pair_total.trans (pair_of (get_or rules k d)) (pair_of (get_or rules place d)) q (ordered k place d lt within) less
    | inr ge ↦ let same : place ≡ k = omega arith in subst (λ j. pair_cmp (pair_of (get_or rules j d)) q ≡ Less) same less
  ]

  greater : (place k : ℕ) (d : Rule) → k < length rules → pair_cmp (pair_of (get_or rules place d)) q ≡ Greater → place ≤ k → pair_cmp (pair_of (get_or rules k d)) q ≡ Greater
  greater place k d within more le = elim (cases_lt place k) [
    | inl lt ↦ turned q (pair_of (get_or rules k d)) (pair_total.trans q (pair_of (get_or rules place d)) (pair_of (get_or rules k d)) (turned_less (pair_of (get_or rules place d)) q more) (ordered place k d lt within))
    | inr ge ↦ let same : place ≡ k = omega arith in subst (λ j. pair_cmp (pair_of (get_or rules j d)) q ≡ Greater) same more
  ]

  pub raised : (low high place : ℕ) → LiesBetween rules q low high → low ≤ place → place < high → ((d : Rule) → pair_cmp (pair_of (get_or rules place d)) q ≡ Less) → LiesBetween rules q (place + 1) high
  raised low high place lies le lt less = record {
    ends = omega arith;
    within = lies.within;
    before = λ k d below. lesser place k d (omega (arith, lies.within)) (less d) (omega arith);
    after = lies.after;
  }

  pub lowered : (low high place : ℕ) → LiesBetween rules q low high → low ≤ place → place < high → ((d : Rule) → pair_cmp (pair_of (get_or rules place d)) q ≡ Greater) → LiesBetween rules q low place
  lowered low high place lies le lt more = record {
    ends = le;
    within = omega (arith, lies.within);
    before = lies.before;
    after = λ k d above within. greater place k d within (more d) above;
  }

-- what the comparison of a rule that was read says of the rule at the place
pub compared : (inside rules : List Rule) (place : ℕ) (rule : Rule) (q : Pair) (o : Ordering) → inside ≡ rules → rule ≡ get_or inside place rule → place < length rules → o ≡ pair_cmp (pair_of rule) q → (d : Rule) → pair_cmp (pair_of (get_or rules place d)) q ≡ o
compared inside rules place rule q o same read within is d =
    let here : rule ≡ get_or rules place d = read ∙ ap (λ rs. get_or rs place rule) same ∙ get_or_default rules place rule d within in
    ap (λ r. pair_cmp (pair_of r) q) (sym here) ∙ sym is

-- each rule but the one at the place is one of the old ones
module _ (P : Rule → Type 0) (rules : List Rule) (all : All P rules) (place : ℕ) where
  pub all_remove : place < length rules → All P (remove rules place)
  all_remove within k d lt = elim (cases_lt k place) [
    | inl below ↦ rw (get_or-remove_below rules place d k below within) (all k d (omega arith))
    | inr above ↦ rw (get_or-remove_above rules place d k above within) (all (k + 1) d (omega (arith, length-remove rules place within)))
  ]

  pub all_insert : place ≤ length rules → (rule : Rule) → P rule → All P (insert rules place rule)
  all_insert within rule p k d lt = elim (cases_lt k place) [
    | inl below ↦ rw (get_or-insert_below rules place rule d k below within) (all k d (omega arith))
    | inr above ↦ elim (cases_lt place k) [
      | inl over ↦
          let same : k - 1 + 1 ≡ k = omega arith in
          subst (λ j. P (get_or (insert rules place rule) j d)) same
          (rw (get_or-insert_above rules place rule d (k - 1) (omega arith) within) (all (k - 1) d (omega (arith, length-insert rules place rule within))))
      | inr under ↦
          let same : place ≡ k = omega arith in
          subst (λ j. P (get_or (insert rules place rule) j d)) same (rw (get_or-insert_at rules place rule d within) p)
    ]
  ]

-- the rule at j of the list with one more, at a place where lesser and greater ones meet, and one before it
module _ (rules : List Rule) (ordered : AllPairs (λ a b. pair_cmp (pair_of a) (pair_of b) ≡ Less) rules) (q : Pair) (place : ℕ) (gap : IsGap rules q place) (rule : Rule) (same : pair_of rule ≡ q) where
  pub pairs_insert : AllPairs (λ a b. pair_cmp (pair_of a) (pair_of b) ≡ Less) (insert rules place rule)
  pairs_insert i j d lt within = elim (cases_lt j place) [
    | inl below ↦ rw (get_or-insert_below rules place rule d i (omega arith) gap.within, get_or-insert_below rules place rule d j below gap.within) (ordered i j d lt (omega (arith, gap.within)))
    | inr above ↦ elim (cases_lt place j) [
      | inl over ↦
          let up : j - 1 + 1 ≡ j = omega arith in
          let n = length-insert rules place rule gap.within in
          subst (λ k. pair_cmp (pair_of (get_or (insert rules place rule) i d)) (pair_of (get_or (insert rules place rule) k d)) ≡ Less) up
          (rw (get_or-insert_above rules place rule d (j - 1) (omega arith) gap.within)
          (elim (cases_lt i place) [
            | inl under ↦ rw (get_or-insert_below rules place rule d i under gap.within) (ordered i (j - 1) d (omega arith) (omega arith))
            | inr from ↦ elim (cases_lt place i) [
              | inl later ↦
                  let down : i - 1 + 1 ≡ i = omega arith in
                  subst (λ k. pair_cmp (pair_of (get_or (insert rules place rule) k d)) (pair_of (get_or rules (j - 1) d)) ≡ Less) down
                  (rw (get_or-insert_above rules place rule d (i - 1) (omega arith) gap.within) (ordered (i - 1) (j - 1) d (omega arith) (omega arith)))
              | inr here ↦
                  let is : place ≡ i = omega arith in
                  subst (λ k. pair_cmp (pair_of (get_or (insert rules place rule) k d)) (pair_of (get_or rules (j - 1) d)) ≡ Less) is
                  (rw (get_or-insert_at rules place rule d gap.within)
                  (subst (λ z. pair_cmp z (pair_of (get_or rules (j - 1) d)) ≡ Less) (sym same) (turned_less (pair_of (get_or rules (j - 1) d)) q (gap.after (j - 1) d (omega arith) (omega arith)))))
            ]
          ]))
      | inr here ↦
          let is : place ≡ j = omega arith in
          subst (λ k. pair_cmp (pair_of (get_or (insert rules place rule) i d)) (pair_of (get_or (insert rules place rule) k d)) ≡ Less) is
          (rw (get_or-insert_below rules place rule d i (omega arith) gap.within, get_or-insert_at rules place rule d gap.within)
          (subst (λ z. pair_cmp (pair_of (get_or rules i d)) z ≡ Less) (sym same) (gap.before i d (omega arith))))
    ]
  ]

module _ (rules : List Rule) (are : AreRules rules) (q : Pair) (place : ℕ) where
  -- a rule's entry is changed
  pub set_rules : IsRuleAt rules q place → (rule : Rule) → pair_of rule ≡ q → rule.entry ≢ Free → IsLabel rule.parent × IsLabel rule.child → AreRules (set rules place rule)
  set_rules is_at rule same bound labelled = record {
    few = omega (arith, length-set rules place rule, are.few);
    labelled = All-set (λ r. IsLabel r.parent × IsLabel r.child) rules place rule labelled are.labelled;
    bound = All-set (λ r. r.entry ≢ Free) rules place rule bound are.bound;
    ordered = λ i j d lt within.
        let n = length-set rules place rule in
        let old = are.ordered i j d lt (omega arith) in
        subst (λ x. pair_cmp x (pair_of (get_or (set rules place rule) j d)) ≡ Less) (sym (kept i d))
        (subst (λ y. pair_cmp (pair_of (get_or rules i d)) y ≡ Less) (sym (kept j d)) old);
  }
    where
      kept : (k : ℕ) (d : Rule) → pair_of (get_or (set rules place rule) k d) ≡ pair_of (get_or rules k d)
      kept k d = elim (cases_lt k place) [
        | inl below ↦ ap pair_of (get_or-set_other rules place k rule d (λ e. omega arith))
        | inr above ↦ elim (cases_lt place k) [
          | inl over ↦ ap pair_of (get_or-set_other rules place k rule d (λ e. omega arith))
          | inr here ↦
              let is : place ≡ k = omega arith in
              subst (λ j. pair_of (get_or (set rules place rule) j d) ≡ pair_of (get_or rules j d)) is
              (ap pair_of (get_or-set_same rules place rule d is_at.within) ∙ same ∙ sym (is_at.same d))
        ]
      ]

  pub remove_rules : IsRuleAt rules q place → AreRules (remove rules place)
  remove_rules is_at = record {
    few = omega (arith, length-remove rules place is_at.within, are.few);
    labelled = all_remove (λ r. IsLabel r.parent × IsLabel r.child) rules are.labelled place is_at.within;
    bound = all_remove (λ r. r.entry ≢ Free) rules are.bound place is_at.within;
    ordered = all_pairs_remove (λ a b. pair_cmp (pair_of a) (pair_of b) ≡ Less) rules place is_at.within are.ordered;
  }

  pub insert_rules : IsGap rules q place → (rule : Rule) → pair_of rule ≡ q → rule.entry ≢ Free → IsLabel rule.parent × IsLabel rule.child → length rules < most_rules → AreRules (insert rules place rule)
  insert_rules gap rule same bound labelled few = record {
    few = omega (arith, length-insert rules place rule gap.within);
    labelled = all_insert (λ r. IsLabel r.parent × IsLabel r.child) rules are.labelled place gap.within rule labelled;
    bound = all_insert (λ r. r.entry ≢ Free) rules are.bound place gap.within rule bound;
    ordered = pairs_insert rules are.ordered q place gap rule same;
  }
