-- What a catalog says, and its bytes.
use Rattle.std.specs.Prelude.{◌≡◌, ℕ, ◌<◌, List, [], ◌∷◌, ◌++◌, length, flat_map, All, IsTrue}
use Rattle.std.specs.Option.{option_map_or}
use Rattle.std.specs.FinMap.{FinMap, entries, get, insert, remove}
use Rattle.nx_pyx.specs.DocumentName.{name_order, is_document_name}
use Rattle.nx_matrix.specs.RuleLabels.{HasLabels}
use Rattle.nx_matrix.specs.declared.rule.Entry.{Entry}
use Rattle.nx_matrix.specs.declared.rule.Entry.TheVariants.{Standalone, Cluster, Free}
use Rattle.nx_matrix.specs.declared.rule.Rule.{Rule}
use Rattle.nx_matrix.specs.Rules.{AreRules}
use Rattle.nx_hold.specs.declared.entry.DocEntry.{DocEntry}
use Rattle.nx_piece.specs.Encoding.{four_bytes, two_bytes}

-- where each document stands and how large it is, by its name
abbrev pub Entries : Type 0
Entries = FinMap name_order DocEntry

-- a document's name, and where it stands
abbrev pub Document : Type 0
Document = List ℕ × DocEntry

-- the entry of the old name stands under the new one; they are as they were where there is none
abbrev pub entries_renamed : Entries → (old_name new_name : List ℕ) → Entries
entries_renamed documents old_name new_name = option_map_or (λ entry. insert (remove documents old_name) new_name entry) (get documents old_name) documents

-- the documents and the rules of a store
pub record Contents : Type 0 where
  pub documents : Entries
  pub rules : List Rule

-- bytes behind their number
abbrev pub with_length : List ℕ → List ℕ
with_length bytes = two_bytes (length bytes) ++ bytes

-- the place of a root, and how many nodes there are
abbrev pub place_bytes : DocEntry → List ℕ
place_bytes entry = four_bytes entry.root.page ++ two_bytes entry.root.slot ++ four_bytes entry.nodes

abbrev pub document_bytes : Document → List ℕ
document_bytes document = with_length document.0 ++ place_bytes document.1

-- the byte of an entry. No rule is free
abbrev pub entry_byte : Entry → ℕ
entry_byte Standalone = 1
entry_byte Cluster = 2
entry_byte Free = 0

abbrev pub rule_bytes : Rule → List ℕ
rule_bytes rule = with_length rule.parent ++ with_length rule.child ++ entry_byte rule.entry ∷ []

-- documents in the order of their names, and rules, each behind their number
abbrev pub listed_bytes : List Document → List Rule → List ℕ
listed_bytes documents rules = four_bytes (length documents) ++ flat_map document_bytes documents ++ (four_bytes (length rules) ++ flat_map rule_bytes rules)

-- the bytes of a catalog. The word is closed, since an open one fills goals with bytes of numbers
unfoldable pub catalog_bytes : Contents → List ℕ
catalog_bytes contents = listed_bytes (entries contents.documents) contents.rules

-- a document may have the name, and the numbers fit their fields
pub record CanBeKept (document : Document) : Type 0 where
  pub named : IsTrue (is_document_name document.0)
  pub page : document.1.root.page < 4294967296
  pub slot : document.1.root.slot < 65536
  pub nodes : document.1.nodes < 4294967296

-- the bytes are a catalog's, which says this
pub record IsCatalog (bytes : List ℕ) (contents : Contents) : Type 0 where
  pub few : length (entries contents.documents) < 4294967296
  pub kept : All CanBeKept (entries contents.documents)
  pub rules : AreRules contents.rules
  pub labels : All HasLabels contents.rules
  pub spelled : bytes ≡ catalog_bytes contents
