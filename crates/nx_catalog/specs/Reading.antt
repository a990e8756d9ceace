-- The bytes of a catalog, read: what they begin with, and what stands behind it. It is `None` where they begin with no such thing.
use Rattle.std.specs.Prelude.{◌≡◌, ℕ, zero, suc, ◌&&◌, nat_lt, if◌then◌else◌, List, [], ◌∷◌, take, drop, length, Option, None, Some, option_and_then}
use Rattle.std.specs.Int.{Width, w16, w32, byte_len, from_be_bytes}
use Rattle.std.specs.declared.cmp.Ordering.{Ordering}
use Rattle.std.specs.Ordering.{is_lt}
use Rattle.nx_pyx.specs.DocumentName.{name_order, is_document_name}
use Rattle.nx_matrix.specs.RuleLabels.{is_parent_label, is_child_label}
use Rattle.nx_matrix.specs.declared.rule.Entry.{Entry}
use Rattle.nx_matrix.specs.declared.rule.Entry.TheVariants.{Standalone, Cluster}
use Rattle.nx_matrix.specs.declared.rule.Rule.{Rule}
use Rattle.nx_matrix.specs.Rules.{pair_cmp, pair_of, most_rules}
use Rattle.nx_hold.specs.declared.entry.DocEntry.{DocEntry}
use Rattle.nx_catalog.specs.Catalog.{Document}

infixl 10 ◌>>=◌
abbrev pub ◌>>=◌ : {A B : Type 0} → Option A → (A → Option B) → Option B
read >>= next = option_and_then next read

-- what a function returned, seen so, is what reading gives
abbrev pub IsReadAs : {X Y : Type 0} → (X → Y) → Option X → Option Y → Type 0
IsReadAs view None read = read ≡ None
IsReadAs view (Some x) read = read ≡ Some (view x)

-- a number, the highest byte first
abbrev pub leading_number : Width → List ℕ → Option (ℕ × List ℕ)
leading_number w bytes = if nat_lt (length bytes) (byte_len w) then None else Some (from_be_bytes w (take (byte_len w) bytes), drop (byte_len w) bytes)

-- bytes behind their number
unfoldable pub counted_at : List ℕ → Option (List ℕ × List ℕ)
counted_at bytes = do
  size ← leading_number w16 bytes
  if nat_lt (length size.1) size.0 then None else Some (take size.0 size.1, drop size.0 size.1)

unfoldable pub place_at : List ℕ → Option (DocEntry × List ℕ)
place_at bytes = do
  page ← leading_number w32 bytes
  slot ← leading_number w16 page.1
  nodes ← leading_number w32 slot.1
  Some (record { root = record { page = page.0; slot = slot.0 }; nodes = nodes.0 }, nodes.1)

unfoldable pub document_at : List ℕ → Option (Document × List ℕ)
document_at bytes = do
  name ← counted_at bytes
  place ← place_at name.1
  if is_document_name name.0 then Some ((name.0, place.0), place.1) else None

-- so many items, in the order of their keys, the first behind the last one before
unfoldable pub rising_at : {A K : Type 0} → (List ℕ → Option (A × List ℕ)) → (K → K → Ordering) → (A → K) → ℕ → K → List ℕ → Option (List A × List ℕ)
rising_at read order key zero last bytes = Some ([], bytes)
rising_at read order key (suc count) last bytes = do
  first ← read bytes
  others ← if is_lt (order last (key first.0)) then rising_at read order key count (key first.0) first.1 else None
  Some (first.0 ∷ others.0, others.1)

-- so many documents, in the order of their names
abbrev pub documents_at : ℕ → List ℕ → List ℕ → Option (List Document × List ℕ)
documents_at = rising_at document_at name_order (λ document. document.0)

unfoldable pub entry_at : List ℕ → Option (Entry × List ℕ)
entry_at [] = None
entry_at (zero ∷ rest) = None
entry_at (suc zero ∷ rest) = Some (Standalone, rest)
entry_at (suc (suc zero) ∷ rest) = Some (Cluster, rest)
entry_at (suc (suc (suc b)) ∷ rest) = None

unfoldable pub rule_at : List ℕ → Option (Rule × List ℕ)
rule_at bytes = do
  parent ← counted_at bytes
  child ← counted_at parent.1
  entry ← entry_at child.1
  if is_parent_label parent.0 && is_child_label child.0 then Some (record { parent = parent.0; child = child.0; entry = entry.0 }, entry.1) else None

-- so many rules, in the order of their labels
abbrev pub rules_at : ℕ → List ℕ × List ℕ → List ℕ → Option (List Rule × List ℕ)
rules_at = rising_at rule_at pair_cmp pair_of

-- the documents behind their number
unfoldable pub all_documents_at : List ℕ → Option (List Document × List ℕ)
all_documents_at bytes = do
  count ← leading_number w32 bytes
  documents_at count.0 [] count.1

-- the rules behind their number, which is at most so high
unfoldable pub all_rules_at : List ℕ → Option (List Rule × List ℕ)
all_rules_at bytes = do
  count ← leading_number w32 bytes
  if nat_lt most_rules count.0 then None else rules_at count.0 ([], []) count.1
