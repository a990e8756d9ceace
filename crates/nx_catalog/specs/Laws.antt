-- What holds of catalogs and their bytes.
use Rattle.std.specs.Prelude.{◌≡◌, ℕ, ◌+◌, ◌*◌, ◌≤◌, true, false, List, [], length, map}
use Rattle.std.specs.FinMap.{entries, keys, contains_key, insert, remove, empty}
use Rattle.std.proofs.Math.ListN.{replicate}
use Rattle.nx_hold.specs.declared.entry.DocEntry.{DocEntry}
use Rattle.nx_matrix.specs.declared.rule.Entry.{Entry}
use Rattle.nx_matrix.specs.declared.rule.Rule.{Rule}
use Rattle.nx_matrix.specs.Rules.{AreRules, SetsEntry, pair_of}
use Rattle.nx_catalog.specs.Catalog.{Entries, Contents, entries_renamed, catalog_bytes, IsCatalog}

-- the bytes of catalogs are told apart
abbrev pub OneCatalog : Type 0
OneCatalog = (bytes : List ℕ) (one other : Contents) → IsCatalog bytes one → IsCatalog bytes other → one ≡ other

-- the catalog of a new store, which says nothing
abbrev pub FirstCatalog : Type 0
FirstCatalog = IsCatalog (replicate 8 0) (record { documents = empty; rules = [] })

-- a catalog takes at most so many bytes for a document and for a rule
abbrev pub CatalogIsShort : Type 0
CatalogIsShort = (bytes : List ℕ) (contents : Contents) → IsCatalog bytes contents →
    length bytes ≤ 8 + 267 * length (entries contents.documents) + 2053 * length contents.rules

-- how many bytes a catalog has depends on its names and labels alone
abbrev pub LengthByNames : Type 0
LengthByNames = (one other : Contents) → keys one.documents ≡ keys other.documents → map pair_of one.rules ≡ map pair_of other.rules →
    length (catalog_bytes one) ≡ length (catalog_bytes other)

-- how many bytes a catalog of these documents and rules has
abbrev pub catalog_size : Entries → List Rule → ℕ
catalog_size documents rules = length (catalog_bytes (record { documents = documents; rules = rules }))

-- another entry under a name takes as many bytes as before, and one under a new name 12 and those of the name
abbrev pub SetLengthens : Type 0
SetLengthens = (documents : Entries) (rules : List Rule) (name : List ℕ) (entry : DocEntry) →
    (contains_key documents name ≡ true → catalog_size (insert documents name entry) rules ≡ catalog_size documents rules)
    × (contains_key documents name ≡ false → catalog_size (insert documents name entry) rules ≡ catalog_size documents rules + (12 + length name))

-- a document that goes takes these bytes with it
abbrev pub RemoveShortens : Type 0
RemoveShortens = (documents : Entries) (rules : List Rule) (name : List ℕ) →
    (contains_key documents name ≡ true → catalog_size (remove documents name) rules + (12 + length name) ≡ catalog_size documents rules)
    × (contains_key documents name ≡ false → remove documents name ≡ documents)

-- a document under another name takes as many bytes more or fewer as that name has, and there are as many documents
abbrev pub RenameLengthens : Type 0
RenameLengthens = (documents : Entries) (rules : List Rule) (old_name new_name : List ℕ) → contains_key documents old_name ≡ true → contains_key documents new_name ≡ false →
    (catalog_size (entries_renamed documents old_name new_name) rules + length old_name ≡ catalog_size documents rules + length new_name)
    × (length (entries (entries_renamed documents old_name new_name)) ≡ length (entries documents))

-- where the entry of one pair is made, there is at most one rule more
abbrev pub RuleAdds : Type 0
RuleAdds = (old new : List Rule) (parent child : List ℕ) (entry : Entry) → AreRules old → AreRules new → SetsEntry old new parent child entry → length new ≤ length old + 1
