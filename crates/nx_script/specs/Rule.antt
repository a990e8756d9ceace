-- The rules that a script can say.
use Rattle.std.specs.Prelude.{ℕ, ◌&&◌, if◌then◌else◌, List, Option, None, Some, codes}
use Rattle.std.specs.Option.{option_map, option_map_or}
use Rattle.std.specs.Str.{bytes_eq}
use Rattle.nx_pyx.specs.Field.{field, behind_space}
use Rattle.nx_matrix.specs.declared.rule.Entry.{Entry}
use Rattle.nx_matrix.specs.declared.rule.Entry.TheVariants.{Standalone, Cluster, Free}
use Rattle.nx_matrix.specs.declared.rule.Rule.{Rule}
use Rattle.nx_matrix.specs.RuleLabels.{is_parent_label, is_child_label}

abbrev pub entry_word : Entry → List ℕ
entry_word Standalone = codes "standalone"
entry_word Cluster = codes "cluster"
entry_word Free = codes "free"

-- the entry that the bytes name, where they name one
abbrev pub entry_named : List ℕ → Option Entry
entry_named word =
    if bytes_eq word (codes "standalone") then Some Standalone
    else if bytes_eq word (codes "cluster") then Some Cluster
    else if bytes_eq word (codes "free") then Some Free
    else None

-- the rule of two labels and the word of an entry, where they are such
abbrev pub rule_by : List ℕ → List ℕ → List ℕ → Option Rule
rule_by parent child word =
    if is_parent_label parent && is_child_label child
    then option_map (λ entry. record { parent = parent; child = child; entry = entry }) (entry_named word)
    else None

-- the rule that three fields say, where they say one
abbrev pub rule_of : List ℕ → Option Rule
rule_of bytes = option_map_or (λ more. option_map_or (rule_by (field bytes) (field more)) (behind_space more) None) (behind_space bytes) None
