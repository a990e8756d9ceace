-- Rules for pairs of labels, and the entries that they give.
use Rattle.std.specs.Prelude.{◌≡◌, ◌≢◌, ℕ, ◌<◌, ◌≤◌, Bool, true, false, ◌&&◌, if◌then◌else◌, List, length, slice_index_or}
use Rattle.std.specs.Cmp.Lexicographic.{slice_cmp}
use Rattle.std.specs.List.{All, AllPairs, find, list_any}
use Rattle.std.specs.Option.{option_map_or}
use Rattle.std.specs.Ordering.{nat_cmp, on, then_cmp}
use Rattle.std.specs.Str.{bytes_eq}
use Rattle.std.specs.declared.cmp.Ordering.{Ordering}
use Rattle.std.specs.declared.cmp.Ordering.TheVariants.{Less, Greater}
use Rattle.nx_matrix.specs.declared.rule.Entry.{Entry}
use Rattle.nx_matrix.specs.declared.rule.Entry.TheVariants.{Standalone, Cluster, Free}
use Rattle.nx_matrix.specs.declared.rule.Rule.{Rule}
use Rattle.nx_matrix.specs.declared.error.MatrixError.{MatrixError}
use Rattle.nx_matrix.specs.declared.error.MatrixError.TheVariants.{TooManyRules, Memory}

-- the greatest number of rules, and of bytes of a label
abbrev pub most_rules : ℕ
most_rules = 4096

abbrev pub longest_label : ℕ
longest_label = 1024

-- the entry asks for nothing
abbrev pub is_free : Entry → Bool
is_free Standalone = false
is_free Cluster = false
is_free Free = true

-- the order of two pairs of labels: by the parents' bytes, then by the children's
abbrev pub pair_cmp : List ℕ × List ℕ → List ℕ × List ℕ → Ordering
pair_cmp = then_cmp (on (λ pair. pair.0) (slice_cmp nat_cmp)) (on (λ pair. pair.1) (slice_cmp nat_cmp))

-- the labels that a rule is for
abbrev pub pair_of : Rule → List ℕ × List ℕ
pair_of rule = (rule.parent, rule.child)

-- the rule is for these labels of a parent and a child
abbrev pub is_for : List ℕ → List ℕ → Rule → Bool
is_for parent child rule = bytes_eq rule.parent parent && bytes_eq rule.child child

abbrev pub has_rule : List Rule → List ℕ → List ℕ → Bool
has_rule rules parent child = list_any (is_for parent child) rules

-- what the rules say of a child below a parent, by their labels
abbrev pub entry_of : List Rule → List ℕ → List ℕ → Entry
entry_of rules parent child = option_map_or (λ rule. rule.entry) (find (is_for parent child) rules) Free

-- the bytes can be a label
abbrev pub IsLabel : List ℕ → Type 0
IsLabel bytes = (1 ≤ length bytes) × (length bytes ≤ longest_label)

-- the rules of a matrix: at most so many, none of them free, in the order of their labels, no two for one pair
pub record AreRules (rules : List Rule) : Type 0 where
  pub few : length rules ≤ most_rules
  pub labelled : All (λ rule. IsLabel rule.parent × IsLabel rule.child) rules
  pub bound : All (λ rule. rule.entry ≢ Free) rules
  pub ordered : AllPairs (λ a b. pair_cmp (pair_of a) (pair_of b) ≡ Less) rules

-- the new rules say this of the pair, and of each other pair what the old ones say
abbrev pub SetsEntry : List Rule → List Rule → List ℕ → List ℕ → Entry → Type 0
SetsEntry old new parent child entry =
    (p c : List ℕ) → entry_of new p c ≡ (if bytes_eq parent p && bytes_eq child c then entry else entry_of old p c)

-- the entry takes a rule for a pair that has none
abbrev pub AddsRule : List Rule → List ℕ → List ℕ → Entry → Type 0
AddsRule rules parent child entry = (entry ≢ Free) × (has_rule rules parent child ≡ false)

-- when a change is refused: for a pair without a rule where no more fit, or for want of memory for one more
abbrev pub IsRuleRefused : List Rule → List ℕ → List ℕ → Entry → MatrixError → Type 0
IsRuleRefused rules parent child entry TooManyRules = AddsRule rules parent child entry × (length rules ≡ most_rules)
IsRuleRefused rules parent child entry Memory = AddsRule rules parent child entry × (length rules < most_rules)

-- each rule before the place is for a lesser pair, and each from it on for a greater one
pub record IsGap (rules : List Rule) (pair : List ℕ × List ℕ) (place : ℕ) : Type 0 where
  pub within : place ≤ length rules
  pub before : (k : ℕ) (d : Rule) → k < place → pair_cmp (pair_of (slice_index_or rules k d)) pair ≡ Less
  pub after : (k : ℕ) (d : Rule) → place ≤ k → k < length rules → pair_cmp (pair_of (slice_index_or rules k d)) pair ≡ Greater

-- the rule at the place is for the pair
pub record IsRuleAt (rules : List Rule) (pair : List ℕ × List ℕ) (place : ℕ) : Type 0 where
  pub within : place < length rules
  pub same : (d : Rule) → pair_of (slice_index_or rules place d) ≡ pair
