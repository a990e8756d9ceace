-- The documents that a catalog keeps in memory.
use Rattle.std.specs.Prelude.{◌≡◌, ℕ, ◌+◌, ◌<◌, List, ◌∷◌, ◌++◌, length, map, flat_map, Some, All}
use Rattle.std.specs.Global.{Vec}
use Rattle.std.specs.BTreeMap.{BTreeMap, IsOrdered, btree_map_len, get_by}
use Rattle.nx_hold.specs.declared.entry.DocEntry.{DocEntry}
use Rattle.nx_matrix.specs.declared.rule.Rule.{Rule}
use Rattle.nx_matrix.specs.Rules.{AreRules}
use Rattle.nx_pyx.specs.DocumentName.{name_order, vector_order, by_bytes}
use Rattle.nx_catalog.specs.Catalog.{Document, CanBeKept, document_bytes}

-- the names are in order, and documents may have them
pub record AreDocumentEntries (documents : BTreeMap (Vec ℕ) DocEntry) : Type 0 where
  pub ordered : IsOrdered vector_order documents
  pub few : btree_map_len documents < 4294967296
  pub kept : All CanBeKept (by_bytes documents.entries)

abbrev pub names_of : List Document → List (List ℕ)
names_of documents = map (λ d. d.0) documents

-- From this offset on the entry of that name stands in the bytes of a catalog of these documents: behind their number, the documents before it, and its name with its length.
pub record IsPlaceOf (documents : List Document) (name : List ℕ) (at : ℕ) : Type 0 where
  pub before : List Document
  pub entry : DocEntry
  pub after : List Document
  pub are : documents ≡ before ++ (name, entry) ∷ after
  pub here : at ≡ 4 + length (flat_map document_bytes before) + (2 + length name)

-- each of these is where the entry of its name stands
abbrev pub HavePlaces : List Document → BTreeMap (Vec ℕ) ℕ → Type 0
HavePlaces documents places = (name : List ℕ) (at : ℕ) → get_by (λ k. name_order name k.items) places ≡ Some at → IsPlaceOf documents name at

-- ... where these are rules beside them
abbrev pub ArePlaces : List Document → List Rule → BTreeMap (Vec ℕ) ℕ → Type 0
ArePlaces documents rules places = (name : List ℕ) (at : ℕ) → get_by (λ k. name_order name k.items) places ≡ Some at → IsPlaceOf documents name at × AreRules rules
