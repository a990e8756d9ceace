-- What the rules say after one is changed, taken away or added.
use Rattle.std.proofs.Common.{◌≡◌, ◌≢◌, ℕ, zero, suc, ◌<◌, ◌≤◌, Bool, true, false, ◌&&◌, cond, List, [], ◌∷◌, length, get_or, set, Some, Result, IfErr, refl, sym, ap, subst, ◌∙◌, inl, inr, arith}
use Rattle.std.specs.List.{find, insert, remove}
use Rattle.std.specs.Option.{option_map_or}
use Rattle.std.specs.Result.{IsErrAnd}
use Rattle.std.specs.Str.{bytes_eq}
use Rattle.std.proofs.lemmas.Bool.{cases_lt}
use Rattle.std.proofs.lemmas.Slice.Eq.{bytes_eq-Decides}
use Rattle.std.proofs.lemmas.Result.{err_from_is_err_and}
use Rattle.nx_matrix.specs.declared.rule.Entry.{Entry}
use Rattle.nx_matrix.specs.declared.rule.Entry.TheVariants.{Free}
use Rattle.nx_matrix.specs.declared.rule.Rule.{Rule}
use Rattle.nx_matrix.specs.declared.error.MatrixError.{MatrixError}
use Rattle.nx_matrix.specs.declared.error.MatrixError.TheVariants.{Memory}
use Rattle.nx_matrix.specs.Rules.{pair_of, is_for, has_rule, entry_of, AreRules, IsRuleAt, IsGap, IsRuleRefused, most_rules}
use Rattle.nx_matrix.proofs.OrderLemmas.{Pair, not_less, not_greater}

both : (a b : Bool) → a && b ≡ true → (a ≡ true) × (b ≡ true)
both true true e = (refl, refl)
both true false e = absurd (cc)
both false b e = absurd (cc)

-- the test of a rule tells the pair that it is for
pub is_for_pair : (parent child : List ℕ) (rule : Rule) → is_for parent child rule ≡ true → pair_of rule ≡ (parent, child)
is_for_pair parent child rule e =
    let p = both (bytes_eq rule.parent parent) (bytes_eq rule.child child) e in
    let q = (bytes_eq-Decides rule.parent parent).0 p.0 in
    let r = (bytes_eq-Decides rule.child child).0 p.1 in
    λ i. (q i, r i)

is_for_itself : (parent child : List ℕ) (rule : Rule) → pair_of rule ≡ (parent, child) → is_for parent child rule ≡ true
is_for_itself parent child rule same =
    let p = (bytes_eq-Decides rule.parent parent).1 (ap (λ (x : Pair). x.0) same) in
    let q = (bytes_eq-Decides rule.child child).1 (ap (λ (x : Pair). x.1) same) in
    λ i. p i && q i

-- no rule of these is for the pair
abbrev pub NoneFor : List Rule → Pair → Type 0
NoneFor rules pair = (k : ℕ) (d : Rule) → k < length rules → pair_of (get_or rules k d) ≢ pair

rest_none : (r : Rule) (rules : List Rule) (pair : Pair) → NoneFor (r ∷ rules) pair → NoneFor rules pair
rest_none r rules pair none k d lt = none (suc k) d (omega arith)

false_by : (b : Bool) → (b ≡ true → ⊥) → b ≡ false
false_by true h = absurd (h refl)
false_by false h = refl

not_for : (parent child : List ℕ) (rule : Rule) → pair_of rule ≢ (parent, child) → is_for parent child rule ≡ false
not_for parent child rule other = false_by (is_for parent child rule) (λ e. other (is_for_pair parent child rule e))

pub entry_none : (rules : List Rule) (parent child : List ℕ) → NoneFor rules (parent, child) → entry_of rules parent child ≡ Free
entry_none [] parent child none = refl
entry_none (r ∷ rules) parent child none = rw (not_for parent child r (none 0 r (omega arith))) (entry_none rules parent child (rest_none r rules (parent, child) none))

pub has_none : (rules : List Rule) (parent child : List ℕ) → NoneFor rules (parent, child) → has_rule rules parent child ≡ false
has_none [] parent child none = refl
has_none (r ∷ rules) parent child none = rw (not_for parent child r (none 0 r (omega arith))) (has_none rules parent child (rest_none r rules (parent, child) none))

pub gap_none : (rules : List Rule) (pair : Pair) (place : ℕ) → IsGap rules pair place → NoneFor rules pair
gap_none rules pair place gap k d lt = elim (cases_lt k place) [
  | inl below ↦ not_less (pair_of (get_or rules k d)) pair (gap.before k d below)
  | inr above ↦ not_greater (pair_of (get_or rules k d)) pair (gap.after k d above lt)
]

-- no rule before the place is for the pair
abbrev pub NoneBefore : List Rule → Pair → ℕ → Type 0
NoneBefore rules pair place = (k : ℕ) (d : Rule) → k < place → pair_of (get_or rules k d) ≢ pair

rest_before : (r : Rule) (rules : List Rule) (pair : Pair) (place : ℕ) → NoneBefore (r ∷ rules) pair (suc place) → NoneBefore rules pair place
rest_before r rules pair place none k d lt = none (suc k) d (omega arith)

pub at_before : (rules : List Rule) (pair : Pair) (place : ℕ) → AreRules rules → IsRuleAt rules pair place → NoneBefore rules pair place
at_before rules pair place are is_at k d lt same =
    not_less (pair_of (get_or rules k d)) (pair_of (get_or rules place d)) (are.ordered k place d lt is_at.within) (same ∙ sym (is_at.same d))

-- nor behind it
pub at_behind : (rules : List Rule) (pair : Pair) (place : ℕ) → AreRules rules → IsRuleAt rules pair place → (k : ℕ) (d : Rule) → place < k → k < length rules → pair_of (get_or rules k d) ≢ pair
at_behind rules pair place are is_at k d lt within same =
    not_less (pair_of (get_or rules place d)) (pair_of (get_or rules k d)) (are.ordered place k d lt within) (is_at.same d ∙ sym same)

-- what is said of one pair by the rules, where another entry is made for the pair
module _ (pair : Pair) (p c : List ℕ) where
  -- the pair is the one that is asked for
  abbrev pub asked : Bool
  asked = bytes_eq pair.0 p && bytes_eq pair.1 c

  opened : asked ≡ true → bytes_eq pair.0 p && bytes_eq pair.1 c ≡ true
  opened e = e

  for_same : (rule : Rule) → pair_of rule ≡ pair → is_for p c rule ≡ asked
  for_same rule same = ap (λ (x : Pair). bytes_eq x.0 p && bytes_eq x.1 c) same

  -- a rule for another pair isn't asked for where the pair is
  for_other : (rule : Rule) → pair_of rule ≢ pair → asked ≡ true → is_for p c rule ≡ false
  for_other rule other is = false_by (is_for p c rule) (λ e.
      let b = both (bytes_eq pair.0 p) (bytes_eq pair.1 c) is in
      let q = (bytes_eq-Decides pair.0 p).0 b.0 in
      let r = (bytes_eq-Decides pair.1 c).0 b.1 in
      let here : pair ≡ (p, c) = λ i. (q i, r i) in
      other (is_for_pair p c rule e ∙ sym here))

  entry_cons : (r : Rule) (rules : List Rule) → entry_of (r ∷ rules) p c ≡ cond (is_for p c r) r.entry (entry_of rules p c)
  entry_cons r rules = elim (is_for p c r) as (λ b. option_map_or (λ rule. rule.entry) (cond b (Some r) (find (is_for p c) rules)) Free ≡ cond b r.entry (entry_of rules p c)) [ true ↦ refl | false ↦ refl ]

  -- the same rule in front keeps what is said of another pair
  past : (r : Rule) (old new : List Rule) (entry : Entry) → pair_of r ≢ pair → entry_of new p c ≡ cond asked entry (entry_of old p c) → entry_of (r ∷ new) p c ≡ cond asked entry (entry_of (r ∷ old) p c)
  past r old new entry other h = by asked refl
    where
      by : (b : Bool) → asked ≡ b → entry_of (r ∷ new) p c ≡ cond asked entry (entry_of (r ∷ old) p c)
      by true e =
          let no = for_other r other e in
          entry_cons r new ∙ ap (λ t. cond t r.entry (entry_of new p c)) no ∙ h ∙ ap (λ t. cond t entry (entry_of old p c)) e ∙ ap (λ t. cond t entry (entry_of (r ∷ old) p c)) (sym e)
      by false e =
          let h' : entry_of new p c ≡ entry_of old p c = h ∙ ap (λ t. cond t entry (entry_of old p c)) e in
          entry_cons r new ∙ ap (λ x. cond (is_for p c r) r.entry x) h' ∙ sym (entry_cons r old) ∙ ap (λ t. cond t entry (entry_of (r ∷ old) p c)) (sym e)

  pub entry_set : (rules : List Rule) (place : ℕ) (rule : Rule) → pair_of rule ≡ pair → IsRuleAt rules pair place → NoneBefore rules pair place → entry_of (set rules place rule) p c ≡ cond asked rule.entry (entry_of rules p c)
  entry_set [] place rule same is_at none = absurd (omega (arith, is_at.within))
  entry_set (r ∷ rules) zero rule same is_at none =
      let old = for_same r (is_at.same r) in
      entry_cons rule rules ∙ ap (λ t. cond t rule.entry (entry_of rules p c)) (for_same rule same)
      ∙ twice asked rule.entry r.entry (entry_of rules p c)
      ∙ ap (λ t. cond asked rule.entry (cond t r.entry (entry_of rules p c))) (sym old)
      ∙ ap (λ x. cond asked rule.entry x) (sym (entry_cons r rules))
    where
      twice : (t : Bool) (a b x : Entry) → cond t a x ≡ cond t a (cond t b x)
      twice true a b x = refl
      twice false a b x = refl
  entry_set (r ∷ rules) (suc place) rule same is_at none =
      past r rules (set rules place rule) rule.entry (none 0 r (omega arith))
      (entry_set rules place rule same (record { within = omega (arith, is_at.within); same = is_at.same }) (rest_before r rules pair place none))

  pub entry_insert : (rules : List Rule) (place : ℕ) (rule : Rule) → pair_of rule ≡ pair → place ≤ length rules → NoneBefore rules pair place → entry_of (insert rules place rule) p c ≡ cond asked rule.entry (entry_of rules p c)
  entry_insert rules zero rule same within none = entry_cons rule rules ∙ ap (λ t. cond t rule.entry (entry_of rules p c)) (for_same rule same)
  entry_insert [] (suc place) rule same within none = absurd (omega arith)
  entry_insert (r ∷ rules) (suc place) rule same within none =
      past r rules (insert rules place rule) rule.entry (none 0 r (omega arith)) (entry_insert rules place rule same (omega arith) (rest_before r rules pair place none))

  -- where no rule is for the pair, it is free
  pub entry_absent : (rules : List Rule) → NoneFor rules pair → entry_of rules p c ≡ cond asked Free (entry_of rules p c)
  entry_absent rules none = by asked refl
    where
      by : (b : Bool) → asked ≡ b → entry_of rules p c ≡ cond asked Free (entry_of rules p c)
      by true e =
          let b = both (bytes_eq pair.0 p) (bytes_eq pair.1 c) (opened e) in
          let q = (bytes_eq-Decides pair.0 p).0 b.0 in
          let r = (bytes_eq-Decides pair.1 c).0 b.1 in
          let here : pair ≡ (p, c) = λ i. (q i, r i) in
          entry_none rules p c (λ k d lt same. none k d lt (same ∙ sym here)) ∙ ap (λ t. cond t Free (entry_of rules p c)) (sym e)
      by false e = ap (λ t. cond t Free (entry_of rules p c)) (sym e)

  pub entry_remove : (rules : List Rule) (place : ℕ) → IsRuleAt rules pair place → NoneBefore rules pair place → ((k : ℕ) (d : Rule) → place < k → k < length rules → pair_of (get_or rules k d) ≢ pair) → entry_of (remove rules place) p c ≡ cond asked Free (entry_of rules p c)
  entry_remove [] place is_at none behind = absurd (omega (arith, is_at.within))
  entry_remove (r ∷ rules) zero is_at none behind =
      entry_absent rules (λ k d lt. behind (suc k) d (omega arith) (omega arith))
      ∙ over asked r.entry (entry_of rules p c)
      ∙ ap (λ t. cond asked Free (cond t r.entry (entry_of rules p c))) (sym (for_same r (is_at.same r)))
      ∙ ap (λ x. cond asked Free x) (sym (entry_cons r rules))
    where
      over : (t : Bool) (b x : Entry) → cond t Free x ≡ cond t Free (cond t b x)
      over true b x = refl
      over false b x = refl
  entry_remove (r ∷ rules) (suc place) is_at none behind =
      past r rules (remove rules place) Free (none 0 r (omega arith))
      (entry_remove rules place (record { within = omega (arith, is_at.within); same = is_at.same }) (rest_before r rules pair place none) (λ k d lt within. behind (suc k) d (omega arith) (omega arith)))

-- the first rule for the pair gives its entry
pub entry_at : (rules : List Rule) (parent child : List ℕ) (place : ℕ) (d : Rule) → IsRuleAt rules (parent, child) place → NoneBefore rules (parent, child) place → entry_of rules parent child ≡ (get_or rules place d).entry
entry_at [] parent child place d is_at none = absurd (omega (arith, is_at.within))
entry_at (r ∷ rules) parent child zero d is_at none =
    entry_cons (parent, child) parent child r rules ∙ ap (λ t. cond t r.entry (entry_of rules parent child)) (is_for_itself parent child r (is_at.same r))
entry_at (r ∷ rules) parent child (suc place) d is_at none =
    entry_cons (parent, child) parent child r rules ∙ ap (λ t. cond t r.entry (entry_of rules parent child)) (not_for parent child r (none 0 r (omega arith)))
    ∙ entry_at rules parent child place d (record { within = omega (arith, is_at.within); same = is_at.same }) (rest_before r rules (parent, child) place none)

-- an error of memory alone, as it comes for one more rule
pub memory_refused : (rules : List Rule) (parent child : List ℕ) (entry : Entry) (r : Result (Unit {0}) MatrixError) → NoneFor rules (parent, child) → entry ≢ Free → length rules < most_rules → IsErrAnd r (λ e. e ≡ Memory) → IfErr r (IsRuleRefused rules parent child entry)
memory_refused rules parent child entry r none bound few err =
    let found = err_from_is_err_and r err in
    subst (λ x. IfErr x (IsRuleRefused rules parent child entry)) (sym found.1)
    (subst (λ e. IsRuleRefused rules parent child entry e) (sym found.2) ((bound, has_none rules parent child none), few))
